-- The steps of session 0, which settles: each leads along its parts, and the last one to the end.
use Rattle.std.proofs.Common.{◌≡◌, ◌≢◌, ℕ, List, Some, Ok, refl, sym, ap, subst, ◌∙◌, arith}
use Rattle.cloud_trait.specs.Calm.{IsCalm, NamesLasting}
use Rattle.client_work.specs.Session.{Acting, closed_session, settling_session, StepsSession, StepsAt, ShowsAt, acting_of}
use Rattle.client_work.specs.declared.answer.Answer.{Answer}
use Rattle.client_work.specs.declared.answer.Answer.TheVariants as answer
use Rattle.client_work.specs.declared.shown.Shown.{Shown}
use Rattle.client_work.specs.declared.work.Work.{Work}
use Rattle.client_work.specs.declared.work.Work.TheVariants as work
use Rattle.cloud_trait.specs.Machine.{Occasion, occasion_of}
use Rattle.cloud_facts.specs.Words.{Entry, Answer as Reply, Turn, More, Ended, CloudState, called, Caller, Seen, Goes, Ends, Deed, Book, at}
use Rattle.cloud_trait.proofs.RowLemmas.{row_rest}
use Rattle.cloud_trait.specs.State.{Counts}
use Rattle.cloud_trait.specs.Weather.{counted, Makes, Leaves, Rose}
use Rattle.cloud_trait.specs.declared.answer.Answer.TheVariants.{Memory}
use Rattle.db_base.specs.declared.wish.Wish.TheVariants.{Plain}
use Rattle.page_cache.specs.Cache.{Cache}
use Rattle.session_facts.proofs.Sessions.Begins.{settling_begins_session}
use Rattle.session_facts.proofs.Sessions.Outcome.{session_keeps}
use Rattle.session_facts.proofs.Sessions.Laws.{rest_keeps}
use Rattle.session_facts.proofs.Settling.Along.{Hands, Along, along_step, along_begins}
use Rattle.session_facts.proofs.Settling.Free.{settling_takes_free, settling_alone}
use Rattle.session_facts.proofs.Settling.Stories.{settling_known}
use Rattle.session_facts.specs.Sessions.Calls.{session_step, calling_of, reply_at, reply_of}
use Rattle.session_facts.specs.Sessions.Knows.{ground, Sessions, SessionsStand, Goes as SessionGoes}
use Rattle.session_facts.specs.Settling.Locks.{HoldsAlone}
use Rattle.session_facts.specs.Settling.Story.{Moment, store_at, IsAtWork, IsTurn}
use Rattle.session_facts.specs.Machines.Settlings.Knows.{leases_of_settling}
use Rattle.settle_run.specs.Parts.{IsSoundPart}
use Rattle.settle_run.specs.Settling.{Settling, new_settling, settle_ask, SettleLeads}
use Rattle.settle_run.specs.declared.settled.Settled.{Settled}
use Rattle.txn_buffer.specs.Noted.{Noted}

-- session 0 at an event
abbrev pub settler : ℕ → Caller
settler n = record { session = 0; event = n }

-- ---- a step, as its settling tells it

-- where the answer of its call leads
abbrev Led : Settling → Reply → Work → Turn Answer → Type 0
Led m reply new More = (n : Settling) × (SettleLeads m reply (Goes n) × (new ≡ work.Settling n))
Led m reply new (Ended (answer.Settled x)) = (n : Settling) × SettleLeads m reply (Ends n x)
Led m reply new turn = Unit {0}

abbrev IsStep : Occasion → Settling → Reply → Work → Turn Answer → Type 0
IsStep on m reply new turn = Makes on.who (settle_ask m) reply on.before on.after × Led m reply new turn

same_settling : (k m : Settling) → work.Settling k ≡ work.Settling m → k ≡ m
same_settling k m e = cc (e)

stepped : (who : Caller) (before after : Seen) (buffer : List Noted) (old : Work) (c d : Cache) (new : Work) (shown : Shown) (turn : Turn Answer)
    → (p : StepsAt who before after old new turn) → (q : ShowsAt who before after (old, c) (acting_of buffer new d shown) turn) → (m : Settling) → old ≡ work.Settling m
    → IsStep (occasion_of who before after) m (reply_at (calling_of who before after) (old, c) (acting_of buffer new d shown) turn p q) new turn
stepped who before after buffer (work.Settling k) c d new shown More p q m e =
    subst (λ (x : Settling). IsStep (occasion_of who before after) x p.1.1.did.answer new More) (same_settling k m e) (p.1.1.did.made, (p.1.0, (p.1.1.did.took, p.1.2)))
stepped who before after buffer (work.Settling k) c d new shown (Ended (answer.Settled x)) p q m e =
    subst (λ (y : Settling). IsStep (occasion_of who before after) y p.1.1.did.answer new (Ended (answer.Settled x))) (same_settling k m e) (p.1.1.did.made, (p.1.0, p.1.1.did.took))
stepped who before after buffer (work.Settling k) c d new shown (Ended (answer.Trouble t)) p q m e =
    subst (λ (y : Settling). IsStep (occasion_of who before after) y p.1.1.did.answer new (Ended (answer.Trouble t))) (same_settling k m e) (p.1.1.did.made, tt)
stepped who before after buffer (work.Settling k) c d new shown turn p q m e = absurd p.1
stepped who before after buffer (work.Sweeping k) c d new shown turn p q m e = absurd (cc (e))
stepped who before after buffer (work.Opening r) c d new shown turn p q m e = absurd (cc (e))
stepped who before after buffer (work.Committing r) c d new shown turn p q m e = absurd (cc (e))
stepped who before after buffer (work.Reading home r) c d new shown turn p q m e = absurd (cc (e))
stepped who before after buffer (work.Scanning home r) c d new shown turn p q m e = absurd (cc (e))
stepped who before after buffer (work.Looking home r) c d new shown turn p q m e = absurd (cc (e))
stepped who before after buffer (work.Paging home r) c d new shown turn p q m e = absurd (cc (e))
stepped who before after buffer (work.Folding home r) c d new shown turn p q m e = absurd (cc (e))
stepped who before after buffer (work.Closing l) c d new shown turn p q m e = absurd (cc (e))
stepped who before after buffer (work.Renewing home) c d new shown turn p q m e = absurd (cc (e))
stepped who before after buffer work.Closed c d new shown turn p q m e = absurd (cc (e))
stepped who before after buffer (work.Idle home) c d new shown turn p q m e = absurd (cc (e))
stepped who before after buffer (work.Broken l) c d new shown turn p q m e = absurd (cc (e))

sound_step : (who : Caller) (before after : Seen) (old new : Work) (turn : Turn Answer) → StepsAt who before after old new turn → (m : Settling) → old ≡ work.Settling m → IsSoundPart m.part
sound_step who before after old new turn p m e = (subst (λ (w : Work). StepsAt who before after w new turn) e p).0

-- ---- from one moment to the next

-- a settling that is under way behind some calls, over a cloud that stands so but for the wish for the next call
pub record OnWay (B : Settling → Moment → Type 0) (P : Deed → Type 0) (session : Acting) (s : CloudState) : Type 0 where
  pub settling : Settling
  pub now : Moment
  pub now_is : now.state ≡ record s { wish = Plain }
  pub session_is : now.sessions 0 ≡ session
  pub works : session.work ≡ work.Settling settling
  pub along : Along B P settling now

-- the session is the same by another name
abbrev pub of_session : (B : Settling → Moment → Type 0) (P : Deed → Type 0) (a b : Acting) (s : CloudState) → a ≡ b → OnWay B P a s → OnWay B P b s
of_session B P a b s e way = record {
  settling = way.settling;
  now = way.now;
  now_is = way.now_is;
  session_is = way.session_is ∙ e;
  works = ap (λ (x : Acting). x.work) (sym e) ∙ way.works;
  along = way.along;
}

-- nobody has a lease beside it
abbrev pub IsAlone : Settling → CloudState → Type 0
IsAlone m s = HoldsAlone (leases_of_settling m) s

-- where a step leaves it so; nobody has a lease beside it behind a call that went well, where nobody had one before
pub record GoesOnWay (B : Settling → Moment → Type 0) (P : Deed → Type 0) (session : Acting) (after : Seen) (WasWell : Type 0) : Type 0 where
  pub state : CloudState
  pub told : after.state ≡ Some state
  pub way : OnWay B P session state
  pub alone : WasWell → IsAlone way.settling state

-- one that is over
pub record AtEnd (E : Settling → Settled → Moment → Type 0) (x : Settled) (after : Seen) : Type 0 where
  pub settling : Settling
  pub now : Moment
  pub told : after.state ≡ Some now.state
  pub holds : E settling x now

module _ (B : Settling → Moment → Type 0) (E : Settling → Settled → Moment → Type 0) (P : Deed → Type 0) (hands : Hands B E P) (n : ℕ) (before after : Seen) (old new : Acting)
    (s : CloudState) (way : OnWay B P old s) (told_as : before.state ≡ Some (record s { wish = Plain })) where
  abbrev m : Settling
  m = way.settling

  abbrev from : Moment
  from = way.now

  told : before.state ≡ Some from.state
  told = told_as ∙ ap (λ (x : CloudState). Some x) (sym way.now_is)

  abbrev at_work : IsAtWork from m.part
  at_work = record { settling = m; works = ap (λ (a : Acting). a.work) way.session_is ∙ way.works; part_is = refl }

  -- the call of a step that was answered so
  abbrev call_with : Reply → Deed
  call_with reply = record { who = settler n; ask = settle_ask m; answer = reply; before = before; after = after }

  module _ (turn : Turn Answer) (p : StepsSession (settler n) before after old new (Ok turn)) where
    abbrev reply : Reply
    reply = reply_of (session_step (settler n) before after old new turn) p

    abbrev deed : Deed
    deed = call_with reply

    step : IsStep (occasion_of (settler n) before after) m reply new.work turn
    step = stepped (settler n) before after new.buffer old.work old.cache p.shown.0 new.work new.shown turn p.work p.shown.1 m way.works

    left : Leaves (settler n) (settle_ask m) reply (counted before.counts from.state) after.counts after.state
    left = step.0.state from.state told

    goes : SessionGoes (ground from.book from.order from.state from.sessions) left.after 0 new
    goes =
        session_keeps (settler n) before after from.state left.after from.book from.order from.sessions new (Ok turn) told left.told from.stand
        (subst (λ (a : Acting). StepsSession (settler n) before after a new (Ok turn)) (sym way.session_is) p)

    abbrev next : Moment
    next = record { state = left.after; book = goes.book_after; order = goes.order_after; sessions = at 0 new from.sessions; stand = goes.stand }

    turn_is : IsTurn deed m.part from next
    turn_is = record {
      at_work = at_work;
      settler = refl;
      asked = refl;
      made = step.0;
      told = told;
      left = left.told;
      grows = goes.grows;
    }

    plain_after : left.after ≡ record left.after { wish = Plain }
    plain_after = λ i. record left.after { wish = plain i }
      where
        plain : left.after.wish ≡ Plain
        plain = (row_rest (settler n) (settle_ask m) reply before.counts after.counts (called (settler n) left.after.now from.state) left.after left.row).wish

    -- its call is calm where no count rose in it, the leases that it names lasted, and nobody has a lease beside it
    pub calm_with : IsAlone m s → after.counts ≡ before.counts → ((t : CloudState) → after.state ≡ Some t → NamesLasting (settle_ask m) t.now) → IsCalm deed
    calm_with alone same lasting = record {
      before = from.state;
      after = left.after;
      told = told;
      left = left.told;
      counts = same;
      free = settling_takes_free (store_at from) from.state.now m (from.stand.parts 0) (settling_known from m.part at_work).work
          (sound_step (settler n) before after old.work new.work turn p.work m way.works) from.state (subst (IsAlone m) (sym way.now_is) alone) left.after.now left.later;
      lasting = lasting left.after left.told;
    }

  -- a call that went well: no count of failures rose, and it found memory
  abbrev WasWell : (p : StepsSession (settler n) before after old new (Ok More)) → Type 0
  WasWell p = IsAlone m s × (after.counts ≡ before.counts × (reply_of (session_step (settler n) before after old new More) p ≢ Memory))

  alone_on : (p : StepsSession (settler n) before after old new (Ok More)) → (k : Settling) → SettleLeads m (reply_of (session_step (settler n) before after old new More) p) (Goes k)
      → WasWell p → IsAlone k (left More p).after
  alone_on p k leads (alone, (same, found)) =
      settling_alone (store_at from) from.state.now m (from.stand.parts 0) (settling_known from m.part at_work).work
      (sound_step (settler n) before after old.work new.work More p.work m way.works) from.state (subst (IsAlone m) (sym way.now_is) alone)
      (settler n) (reply More p) before.counts after.counts (left More p).after (left More p).later (left More p).row
      (λ e. never ((step More p).0.failed e)) found k leads
    where
      never : Rose before.counts.faults after.counts.faults → ⊥
      never rose = let e : after.counts.faults ≡ before.counts.faults = ap (λ (c : Counts). c.faults) same in omega (arith, rose, e)

  -- a step that goes on
  pub step_on : (p : StepsSession (settler n) before after old new (Ok More)) → P (call_with (reply_of (session_step (settler n) before after old new More) p)) → GoesOnWay B P new after (WasWell p)
  step_on p is =
      let led = (step More p).1 in
      record {
        state = (left More p).after;
        told = (left More p).told;
        way = record {
          settling = led.0;
          now = next More p;
          now_is = plain_after More p;
          session_is = refl;
          works = led.1.1;
          along = along_step B E P hands m from (next More p) way.along (deed More p) (turn_is More p) is (Goes led.0) led.1.0 (record { settling = led.0; works = led.1.1; part_is = refl });
        };
        alone = λ well. alone_on p led.0 led.1.0 well;
      }

  -- a step that ends
  pub step_ends : (x : Settled) (p : StepsSession (settler n) before after old new (Ok (Ended (answer.Settled x))))
      → P (call_with (reply_of (session_step (settler n) before after old new (Ended (answer.Settled x))) p)) → AtEnd E x after
  step_ends x p is =
      let led = (step (Ended (answer.Settled x)) p).1 in
      record {
        settling = led.0;
        now = next (Ended (answer.Settled x)) p;
        told = (left (Ended (answer.Settled x)) p).told;
        holds = along_step B E P hands m from (next (Ended (answer.Settled x)) p) way.along (deed (Ended (answer.Settled x)) p) (turn_is (Ended (answer.Settled x)) p) is (Ends led.0 x) led.1;
      }

-- ---- the beginning

-- the moment at which session 0 begins to settle, once the wish for its first call is set
abbrev pub first_moment : (book : Book) (order : List Entry) (t : CloudState) (sessions : Sessions) → sessions 0 ≡ closed_session → SessionsStand book order t sessions → Moment
first_moment book order t sessions closed stand = record {
  state = record t { wish = Plain };
  book = book;
  order = order;
  sessions = at 0 settling_session sessions;
  stand = rest_keeps book order t (record t { wish = Plain }) (at 0 settling_session sessions) refl refl refl refl (omega arith) (settling_begins_session book order t sessions 0 closed stand);
}

abbrev pub begins_on : (B : Settling → Moment → Type 0) (E : Settling → Settled → Moment → Type 0) (P : Deed → Type 0) (hands : Hands B E P) (book : Book) (order : List Entry) (t : CloudState)
    (sessions : Sessions) (closed : sessions 0 ≡ closed_session) (stand : SessionsStand book order t sessions) → B new_settling (first_moment book order t sessions closed stand)
    → OnWay B P settling_session t
begins_on B E P hands book order t sessions closed stand holds = record {
  settling = new_settling;
  now = first_moment book order t sessions closed stand;
  now_is = refl;
  session_is = refl;
  works = refl;
  along = along_begins B E P hands new_settling (first_moment book order t sessions closed stand) holds refl (record { settling = new_settling; works = refl; part_is = refl });
}
