-- All calls of a line of session 0, one behind another, lead its machine from its first call to its end; and the call of one step of a session.
use Rattle.std.proofs.Common.{◌≡◌, ◌+◌, ℕ, List, [], ◌∷◌, length, Some, Result, Ok, refl, sym, ap, subst, ◌∙◌, inl, inr}
use Rattle.std.proofs.lemmas.Option.{same_Some}
use Rattle.client_work.proofs.Sweeps.{fresh_again}
use Rattle.client_work.specs.Causes.{deed_by}
use Rattle.client_work.specs.Session.{Acting, StepsAt, settling_session, sweeping_session}
use Rattle.client_work.specs.declared.answer.Answer.{Answer}
use Rattle.client_work.specs.declared.answer.Answer.TheVariants as answer
use Rattle.client_work.specs.declared.work.Work.{Work}
use Rattle.client_work.specs.declared.work.Work.TheVariants as work
use Rattle.cloud_facts.proofs.Book.Names.{at_same}
use Rattle.cloud_facts.specs.Words.{Trouble, Answer as Heard, Turn, More, Ended, Caller, Seen, Ask, Goes, Deed}
use Rattle.cloud_trait.proofs.EffectLemmas.{grown_itself}
use Rattle.cloud_trait.specs.Growth.{HasGrown}
use Rattle.cloud_trait.specs.Machine.{Follows, Came, LeadsBy}
use Rattle.cloud_trait.specs.Weather.{Makes}
use Rattle.db_base.specs.declared.trouble.Trouble.TheVariants as trouble
use Rattle.db_base.specs.declared.wish.Wish.{Wish}
use Rattle.db_base.specs.declared.wish.Wish.TheVariants.{Plain}
use Rattle.orphan_sweep.specs.Leases.{fresh}
use Rattle.orphan_sweep.specs.Sweeping.{Sweeping, new_sweeping, sweep_ask, sweep_next}
use Rattle.orphan_sweep.specs.declared.swept.Swept.{Swept}
use Rattle.reply_text.specs.declared.reply.Reply.{Reply}
use Rattle.reply_text.specs.declared.reply.Reply.TheVariants as reply
use Rattle.session_facts.specs.Lines.Errands.{settles, sweeps, session_for}
use Rattle.session_facts.specs.Lines.Facts.{session_at}
use Rattle.settle_run.specs.Meaning.{Went as SettlingWent}
use Rattle.settle_run.specs.Settling.{Settling, new_settling, settle_ask}
use Rattle.settle_run.specs.declared.settled.Settled.{Settled}
use Rattle.world_audit.specs.Look.{Looked}
use Rattle.world_core.specs.Handled.{SetsWish, StepsLooked, Went, start, further, SettlesOn, Settles as SettlesLine}
use Rattle.world_core.specs.Replying.{RepliesSettled, RepliesSwept, unsettled_reply, trouble_reply}
use Rattle.world_core.specs.Span.{span_of}
use Rattle.world_core.specs.Tells.{IsCallOf, AreCallsOf, Settles, Sweeps, caller_of}
use Rattle.world_core.specs.World.{World}
use Rattle.world_core.specs.declared.world.WorldFault.{WorldFault}
use Rattle.world_core.proofs.StandsLemmas.{changed_at, changed_was, has_at, no_memory}

-- ---- the call of one step

module _ (who : Caller) (wish : Wish) (before after : Seen) (old new : World) (turn : Turn Answer) (p : StepsLooked who wish (span_of before after old new) turn) where
  -- its session before it and behind it
  pub stepped_was : session_at old.sessions who.session ≡ p.session.before
  stepped_was = changed_was who.session _ old.sessions new.sessions p.session

  pub stepped_is : session_at new.sessions who.session ≡ p.session.after
  stepped_is = changed_at who.session _ old.sessions new.sessions p.session who.session ∙ at_same who.session p.session.after (session_at old.sessions) who.session refl

  pub call_by : (ask : Ask) (heard : Heard) → Makes who ask heard p.under p.to → IsCallOf who (deed_by who ask heard p.under p.to) before after
  call_by ask heard made = record {
    own = refl;
    made = made;
    from = p.from;
    look_before = p.look_before;
    wish = wish;
    wishes = p.wishes;
    look_after = p.look_after;
  }

-- the cloud goes on from the newest call to the next one
pub follows_on : (who : Caller) (deeds : List Deed) (before mid from under : Seen) (wish : Wish) (d : Deed) → AreCallsOf who deeds before mid → Looked mid from → SetsWish wish from under
    → d.before ≡ under → Follows deeds d
follows_on who [] before mid from under wish d are look wishes is = tt
follows_on who (last ∷ h) before mid from under wish d are look wishes is = λ s t e f.
    let was : under.state ≡ Some (record s { wish = wish }) = wishes.set s (look.stays s (are.2.look_after.stays s e)) in
    let told : under.state ≡ Some t = ap (λ (x : Seen). x.state) (sym is) ∙ f in
    subst (HasGrown s) (same_Some (record s { wish = wish }) t (sym was ∙ told)) (grown_itself s (record s { wish = wish }) refl refl refl refl)

-- ---- a settling

-- its reply is the number of its calls
pub same_calls : (calls : ℕ) (s : Settled) → RepliesSettled (answer.Settled s) (Ok (reply.Settled calls)) → s.calls ≡ calls
same_calls calls s e = cc (e)

-- it came here by these calls, which are all since a moment
record SettlingCame (n : ℕ) (before : Seen) (world : World) (mid : Seen) : Type 0 where
  settling : Settling
  works : (session_at world.sessions 0).work ≡ work.Settling settling
  deeds : List Deed
  went : SettlingWent deeds settling
  are : AreCallsOf (caller_of n 0) deeds before mid

module _ (n : ℕ) (before : Seen) where
  abbrev who : Caller
  who = caller_of n 0

  module _ (mid after : Seen) (world new : World) (turn : Turn Answer) (c : SettlingCame n before world mid) (p : StepsLooked (caller_of n 0) Plain (span_of mid after world new) turn) where
    settle_steps : StepsAt who p.under p.to (work.Settling c.settling) p.session.after.work turn
    settle_steps =
        subst (λ (w : Work). StepsAt who p.under p.to w p.session.after.work turn) (ap (λ (a : Acting). a.work) (sym (stepped_was who Plain mid after world new turn p)) ∙ c.works) p.session.does.work

  settle_more : (mid after : Seen) (world new : World) → SettlingCame n before world mid → StepsLooked who Plain (span_of mid after world new) More → SettlingCame n before new after
  settle_more mid after world new c p =
      let s = (settle_steps mid after world new More c p).1 in
      let d : Deed = deed_by who (settle_ask c.settling) s.1.did.answer p.under p.to in
      record {
        settling = s.0;
        works = ap (λ (a : Acting). a.work) (stepped_is who Plain mid after world new More p) ∙ s.2;
        deeds = d ∷ c.deeds;
        went = (c.settling, c.went, refl, s.1.did.made, s.1.did.took, follows_on who c.deeds before mid p.from p.under Plain d c.are p.look_before p.wishes refl);
        are = (mid, c.are, call_by who Plain mid after world new More p (settle_ask c.settling) s.1.did.answer s.1.did.made);
      }

  settle_went : (old : World) (mid : Seen) (world : World) → SettlingCame n before old before → Went who before old mid world → SettlingCame n before world mid
  settle_went old mid world c start = c
  settle_went old mid world c (further prior _ earlier _ went step) = settle_more prior mid earlier world (settle_went old prior earlier c went) step

  settle_ends : (mid after : Seen) (world new : World) (x : Settled) (calls : ℕ) → SettlingCame n before world mid → StepsLooked who Plain (span_of mid after world new) (Ended (answer.Settled x))
      → x.calls ≡ calls → (first last : World) → Settles who calls (span_of before after first last)
  settle_ends mid after world new x calls c p e first last =
      let s = (settle_steps mid after world new (Ended (answer.Settled x)) c p).1 in
      let whole = s.1.means c.deeds c.went in
      record {
        deeds = deed_by who (settle_ask c.settling) s.1.did.answer p.under p.to ∷ c.deeds;
        are = (mid, c.are, call_by who Plain mid after world new (Ended (answer.Settled x)) p (settle_ask c.settling) s.1.did.answer s.1.did.made);
        left = s.0;
        answer = x;
        whole = whole;
        counts = sym e ∙ whole.counts;
      }

  not_settled : (calls : ℕ) (t : Trouble) → (let r : Result Reply WorldFault = Ok (reply.Settled calls) in r ≡ unsettled_reply t) → ⊥
  not_settled calls trouble.Memory e = absurd (cc (e))
  not_settled calls t e = absurd (cc (e))

  pub settles_tell : (after : Seen) (old new : World) (calls : ℕ) → SettlesLine settles n (span_of before after old new) (Ok (reply.Settled calls)) → Settles who calls (span_of before after old new)
  settles_tell after old new calls (inr memory) = absurd (no_memory (reply.Settled calls) memory.0)
  settles_tell after old new calls (inl h) = by_end h.settles
    where
      begun : SettlingCame n before h.begun before
      begun = record {
        settling = new_settling;
        works = ap (λ (a : Acting). a.work) (has_at 0 (session_for settles) old h.begun h.begins 0 ∙ at_same 0 settling_session (session_at old.sessions) 0 refl);
        deeds = [];
        went = refl;
        are = refl;
      }

      by_end : SettlesOn settles (record { session = 0; event = n }) (span_of before after h.begun new) (Ok (reply.Settled calls)) → Settles who calls (span_of before after old new)
      by_end (inr memory) = absurd (no_memory (reply.Settled calls) memory.0)
      by_end (inl s) = on s.answer s.comes.steps s.replies
        where
          on : (a : Answer) → StepsLooked who Plain (span_of s.comes.mid after s.comes.world s.left) (Ended a) → RepliesSettled a (Ok (reply.Settled calls))
              → Settles who calls (span_of before after old new)
          on (answer.Settled x) p e =
              settle_ends s.comes.mid after s.comes.world s.left x calls (settle_went h.begun s.comes.mid s.comes.world begun s.comes.went) p (same_calls calls x e) old new
          on (answer.Trouble t) p e = absurd (not_settled calls t e)
          on a p e = absurd e

-- ---- a sweep

record SweepCame (n tree : ℕ) (before : Seen) (world : World) (mid : Seen) : Type 0 where
  sweep : Sweeping
  of : sweep.tree ≡ tree
  works : (session_at world.sessions 0).work ≡ work.Sweeping sweep
  deeds : List Deed
  went : Came sweep_ask (LeadsBy sweep_next) (fresh sweep) deeds sweep
  are : AreCallsOf (caller_of n 0) deeds before mid

module _ (n tree : ℕ) (before : Seen) where
  abbrev sweeper : Caller
  sweeper = caller_of n 0

  module _ (mid after : Seen) (world new : World) (turn : Turn Answer) (c : SweepCame n tree before world mid) (p : StepsLooked (caller_of n 0) Plain (span_of mid after world new) turn) where
    sweep_steps : StepsAt sweeper p.under p.to (work.Sweeping c.sweep) p.session.after.work turn
    sweep_steps =
        subst (λ (w : Work). StepsAt sweeper p.under p.to w p.session.after.work turn) (ap (λ (a : Acting). a.work) (sym (stepped_was sweeper Plain mid after world new turn p)) ∙ c.works) p.session.does.work

  -- a sweep that goes on is of the same tree
  same_start : (s q : Sweeping) (a : Heard) → LeadsBy sweep_next s a (Goes q) → (q.tree ≡ s.tree) × (fresh s ≡ fresh q)
  same_start s q a leads = let same = fresh_again s q a leads in (ap (λ (x : Sweeping). x.tree) (sym same), same)

  sweep_more : (mid after : Seen) (world new : World) → SweepCame n tree before world mid → StepsLooked sweeper Plain (span_of mid after world new) More → SweepCame n tree before new after
  sweep_more mid after world new c p =
      let s = sweep_steps mid after world new More c p in
      let d : Deed = deed_by sweeper (sweep_ask c.sweep) s.1.did.answer p.under p.to in
      let stays = same_start c.sweep s.0 s.1.did.answer s.1.did.took in
      record {
        sweep = s.0;
        of = stays.0 ∙ c.of;
        works = ap (λ (a : Acting). a.work) (stepped_is sweeper Plain mid after world new More p) ∙ s.2;
        deeds = d ∷ c.deeds;
        went = (
          c.sweep,
          subst (λ (first : Sweeping). Came sweep_ask (LeadsBy sweep_next) first c.deeds c.sweep) stays.1 c.went,
          refl,
          s.1.did.made,
          s.1.did.took,
          follows_on sweeper c.deeds before mid p.from p.under Plain d c.are p.look_before p.wishes refl,
        );
        are = (mid, c.are, call_by sweeper Plain mid after world new More p (sweep_ask c.sweep) s.1.did.answer s.1.did.made);
      }

  sweep_went : (old : World) (mid : Seen) (world : World) → SweepCame n tree before old before → Went sweeper before old mid world → SweepCame n tree before world mid
  sweep_went old mid world c start = c
  sweep_went old mid world c (further prior _ earlier _ went step) = sweep_more prior mid earlier world (sweep_went old prior earlier c went) step

  sweep_ends : (mid after : Seen) (world new : World) (x : Swept) (kept removed : ℕ) → SweepCame n tree before world mid → StepsLooked sweeper Plain (span_of mid after world new) (Ended (answer.Swept x))
      → x.kept ≡ kept → x.removed ≡ removed → (first last : World) → Sweeps sweeper tree kept removed (span_of before after first last)
  sweep_ends mid after world new x kept removed c p is_kept is_removed first last =
      let s = sweep_steps mid after world new (Ended (answer.Swept x)) c p in
      let swept = (s.1.means c.deeds c.went).swept in
      record {
        last = deed_by sweeper (sweep_ask c.sweep) s.1.did.answer p.under p.to;
        earlier = c.deeds;
        are = (mid, c.are, call_by sweeper Plain mid after world new (Ended (answer.Swept x)) p (sweep_ask c.sweep) s.1.did.answer s.1.did.made);
        sweep = c.sweep;
        of = c.of;
        answer = x;
        swept = swept;
        gone = sym is_removed ∙ (ap (λ (y : Swept). y.removed) swept.answers ∙ swept.all);
        rest = ap (λ (k : ℕ). k + length c.sweep.orphans) (sym is_kept ∙ ap (λ (y : Swept). y.kept) swept.answers) ∙ swept.listed.kept;
      }

  same_kept : (kept removed : ℕ) (x : Swept) → RepliesSwept (answer.Swept x) (Ok (reply.Swept kept removed)) → x.kept ≡ kept
  same_kept kept removed x e = cc (e)

  same_removed : (kept removed : ℕ) (x : Swept) → RepliesSwept (answer.Swept x) (Ok (reply.Swept kept removed)) → x.removed ≡ removed
  same_removed kept removed x e = cc (e)

  not_swept : (kept removed : ℕ) (t : Trouble) → (let r : Result Reply WorldFault = Ok (reply.Swept kept removed) in r ≡ trouble_reply t) → ⊥
  not_swept kept removed trouble.Memory e = absurd (cc (e))
  not_swept kept removed t e = absurd (cc (e))

  pub sweeps_tell : (after : Seen) (old new : World) (kept removed : ℕ) → SettlesLine (sweeps tree) n (span_of before after old new) (Ok (reply.Swept kept removed))
      → Sweeps sweeper tree kept removed (span_of before after old new)
  sweeps_tell after old new kept removed (inr memory) = absurd (no_memory (reply.Swept kept removed) memory.0)
  sweeps_tell after old new kept removed (inl h) = by_end h.settles
    where
      begun : SweepCame n tree before h.begun before
      begun = record {
        sweep = new_sweeping tree;
        of = refl;
        works = ap (λ (a : Acting). a.work) (has_at 0 (session_for (sweeps tree)) old h.begun h.begins 0 ∙ at_same 0 (sweeping_session tree) (session_at old.sessions) 0 refl);
        deeds = [];
        went = refl;
        are = refl;
      }

      by_end : SettlesOn (sweeps tree) (record { session = 0; event = n }) (span_of before after h.begun new) (Ok (reply.Swept kept removed))
          → Sweeps sweeper tree kept removed (span_of before after old new)
      by_end (inr memory) = absurd (no_memory (reply.Swept kept removed) memory.0)
      by_end (inl s) = on s.answer s.comes.steps s.replies
        where
          on : (a : Answer) → StepsLooked sweeper Plain (span_of s.comes.mid after s.comes.world s.left) (Ended a) → RepliesSwept a (Ok (reply.Swept kept removed))
              → Sweeps sweeper tree kept removed (span_of before after old new)
          on (answer.Swept x) p e =
              sweep_ends s.comes.mid after s.comes.world s.left x kept removed (sweep_went h.begun s.comes.mid s.comes.world begun s.comes.went) p
              (same_kept kept removed x e) (same_removed kept removed x e) old new
          on (answer.Trouble t) p e = absurd (not_swept kept removed t e)
          on a p e = absurd e
