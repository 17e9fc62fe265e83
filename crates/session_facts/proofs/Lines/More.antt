-- One line more.
use Rattle.std.proofs.Common.{◌≡◌, ◌≢◌, ◌+◌, ℕ, List, [], ◌∷◌, ◌++◌, length, refl, sym, ap, subst, ◌∙◌, ◌⊎◌, inl, inr, arith, length-append, cond, Bool, true, false, ne_eqb}
use Rattle.std.specs.Prelude.{◌==◌}
use Rattle.std.proofs.lemmas.Bool.{cases_eq, eq-eqb}
use Rattle.db_base.specs.declared.refusal.Refusal.{Refusal}
use Rattle.cloud_trait.specs.State.{CloudState}
use Rattle.event_text.specs.declared.event.Event.{Event}
use Rattle.event_text.specs.declared.event.Event.TheVariants as event
use Rattle.reply_text.specs.declared.reply.Reply.{Reply}
use Rattle.reply_text.specs.declared.reply.Reply.TheVariants as reply
use Rattle.client_work.specs.Session.{Acting}
use Rattle.history.specs.Audited.{Audited}
use Rattle.cloud_facts.specs.Book.Tally.{at}
use Rattle.cloud_facts.proofs.Book.Names.{at_same, at_other}
use Rattle.session_facts.specs.Sessions.Knows.{Sessions, SessionsStand}
use Rattle.session_facts.proofs.Sessions.Laws.{same_sessions}
use Rattle.replay_meaning.specs.Standing.{Line, Standing, standing, after_line, after_own, session_of}
use Rattle.session_facts.specs.Lines.Facts.{ActsAs, AllAct, AllLanded, CloudHolds, IsFrontOf, IsOfCommit, SettlerRests, Stands, GoesOn}
use Rattle.session_facts.specs.Sessions.Landed.{LandedFor}
use Rattle.session_facts.proofs.Lines.Landed.{BeginsNoneBehind, landed_line}
use Rattle.session_facts.proofs.Reports.Order.{reported_line}
use Rattle.session_facts.proofs.Lines.Committed.{committed_line, standing_line, upto_more}
use Rattle.session_facts.proofs.Rows.Lines.{kinds_line}

abbrev pub line_of : Event → Reply → Line
line_of event r = record { event = event; reply = r }

-- what stands after lines goes on within the next
pub begins_line : (lines : List Line) (sessions : Sessions) (a : Audited) (blind : Bool) (t : CloudState) → Stands lines sessions a blind t → GoesOn lines sessions a blind t
begins_line lines sessions a blind t s = record {
  holds = record {
    book = s.holds.book;
    order = s.holds.order;
    stand = s.holds.stand;
    cloud = record {
      placed = s.holds.cloud.placed;
      upto = upto_more (length lines) (length lines + 1) t (omega arith) s.holds.cloud.upto;
      committed = s.holds.cloud.committed;
      kinds = s.holds.cloud.kinds;
      once = s.holds.cloud.once;
    };
    seen = s.holds.seen;
    reported = s.holds.reported;
    landed = s.holds.landed;
  };
  acts = s.acts;
}

-- sessions that stand under the same book go on within the next line too
pub begins_with : (lines : List Line) (sessions others : Sessions) (a : Audited) (blind : Bool) (t : CloudState) → (h : CloudHolds (length lines) lines sessions a blind t)
    → SessionsStand h.book h.order t others → AllLanded lines others t → CloudHolds (length lines + 1) lines others a blind t
begins_with lines sessions others a blind t h stand landed = record {
  book = h.book;
  order = h.order;
  stand = stand;
  cloud = record {
    placed = h.cloud.placed;
    upto = upto_more (length lines) (length lines + 1) t (omega arith) h.cloud.upto;
    committed = h.cloud.committed;
    kinds = h.cloud.kinds;
    once = h.cloud.once;
  };
  seen = h.seen;
  reported = h.reported;
  landed = landed;
}

-- how all sessions stand with one line more
abbrev pub AllActWith : List Line → Line → Sessions → Type 0
AllActWith lines line sessions = (n : ℕ) → ActsAs (sessions n) (after_line n (standing lines n) line)

-- a line that is through is one of the lines
pub line_through : (lines : List Line) (line : Line) (sessions : Sessions) (a : Audited) (blind : Bool) (t : CloudState) → (h : CloudHolds (length lines + 1) lines sessions a blind t)
    → AllActWith lines line sessions → SettlerRests sessions → BeginsNoneBehind line sessions → IsFrontOf h.order line.reply → Stands (lines ++ line ∷ []) sessions a blind t
line_through lines line sessions a blind t h acts rests fresh front = record {
  holds = record {
    book = h.book;
    order = h.order;
    stand = h.stand;
    cloud = record {
      placed = h.cloud.placed;
      upto = upto_more (length lines + 1) (length (lines ++ line ∷ [])) t (omega (arith, length-append lines (line ∷ []))) h.cloud.upto;
      committed = h.cloud.committed ∙ sym (committed_line lines line t h.cloud.upto.trace);
      kinds = kinds_line lines line t h.cloud.upto.trace h.cloud.kinds;
      once = h.cloud.once;
    };
    seen = h.seen;
    reported = reported_line lines line h.order h.reported front;
    landed = landed_line lines line sessions t h.cloud.upto.trace fresh h.landed;
  };
  acts = λ n. subst (λ z. ActsAs (sessions n) z) (sym (standing_line lines line n)) (acts n);
  rests = rests;
}

-- the same sessions, pointwise
pub holds_same : (n : ℕ) (lines : List Line) (f g : Sessions) (a : Audited) (blind : Bool) (t : CloudState) → ((k : ℕ) → g k ≡ f k) → CloudHolds n lines f a blind t
    → CloudHolds n lines g a blind t
holds_same n lines f g a blind t same h = record {
  book = h.book;
  order = h.order;
  stand = same_sessions h.book h.order t f g same h.stand;
  cloud = h.cloud;
  seen = h.seen;
  reported = h.reported;
  landed = λ k. subst (λ (x : Acting). LandedFor (IsOfCommit lines k) t x.work) (sym (same k)) (h.landed k);
}

-- ---- how sessions stand

-- a line of a session changes how it stands, and no other
pub own_line : (lines : List Line) (k : ℕ) (event : Event) (r : Reply) (sessions : Sessions) (new : Acting) → session_of event ≡ k → AllAct lines sessions
    → ActsAs new (after_own event r (standing lines k)) → AllActWith lines (line_of event r) (at k new sessions)
own_line lines k event r sessions new own acts mine n = on (cases_eq n k)
  where
    on : (n ≡ k) ⊎ (n ≢ k) → ActsAs (at k new sessions n) (after_line n (standing lines n) (line_of event r))
    on (inl e) =
        let is : session_of event == n ≡ true = eq-eqb (session_of event) n (own ∙ sym e) in
        let after : after_line n (standing lines n) (line_of event r) ≡ after_own event r (standing lines k) =
        ap (λ b. cond b (after_own event r (standing lines n)) (standing lines n)) is ∙ ap (λ j. after_own event r (standing lines j)) e in
        subst (λ z. ActsAs (at k new sessions n) z) (sym after) (subst (λ z. ActsAs z (after_own event r (standing lines k))) (sym (at_same k new sessions n e)) mine)
    on (inr ne) =
        let is : session_of event == n ≡ false = ne_eqb (session_of event) n (λ e. ne (sym e ∙ own)) in
        let after : after_line n (standing lines n) (line_of event r) ≡ standing lines n = ap (λ b. cond b (after_own event r (standing lines n)) (standing lines n)) is in
        subst (λ z. ActsAs (at k new sessions n) z) (sym after) (subst (λ z. ActsAs z (standing lines n)) (sym (at_other k new sessions n ne)) (acts n))

-- a line that changes no session's standing
pub still_line : (lines : List Line) (event : Event) (r : Reply) (sessions : Sessions) → ((s : Standing) → after_own event r s ≡ s) → AllAct lines sessions
    → AllActWith lines (line_of event r) sessions
still_line lines event r sessions still acts n = subst (λ z. ActsAs (sessions n) z) (sym (on (session_of event == n))) (acts n)
  where
    on : (b : Bool) → cond b (after_own event r (standing lines n)) (standing lines n) ≡ standing lines n
    on true = still (standing lines n)
    on false = refl

-- a refusal changes nothing of how a session stands
pub refused_own : (event : Event) (rule : Refusal) (s : Standing) → after_own event (reply.Refused rule) s ≡ s
refused_own event.Settle rule s = refl
refused_own e rule s = refl

-- a call leaves one session so that it stands as before
pub acts_set : (lines : List Line) (k : ℕ) (sessions : Sessions) (new : Acting) → AllAct lines sessions → ActsAs new (standing lines k) → AllAct lines (at k new sessions)
acts_set lines k sessions new acts mine n = on (cases_eq n k)
  where
    on : (n ≡ k) ⊎ (n ≢ k) → ActsAs (at k new sessions n) (standing lines n)
    on (inl e) = subst (λ j. ActsAs (at k new sessions n) (standing lines j)) (sym e) (subst (λ z. ActsAs z (standing lines k)) (sym (at_same k new sessions n e)) mine)
    on (inr ne) = subst (λ z. ActsAs z (standing lines n)) (sym (at_other k new sessions n ne)) (acts n)
