-- Why a sweep meets a trouble.
use Rattle.std.proofs.Common.{◌≡◌, ◌≢◌, inl, inr, ℕ, Option, Some, None, refl, sym, subst, ◌∙◌, arith}
use Rattle.client_work.specs.Session.{StepsSweeping}
use Rattle.client_work.specs.declared.answer.Answer.{Answer}
use Rattle.client_work.specs.declared.answer.Answer.TheVariants as answer
use Rattle.client_work.specs.declared.work.Work.{Work}
use Rattle.client_work.specs.declared.work.Work.TheVariants.{Closed, Sweeping as SweepingOn}
use Rattle.cloud_facts.specs.Words.{Trouble, Lock, Answer as Heard, Turn, More, Ended, Stopped, CloudState, Caller, Seen, Ask, Take, Goes, Stops, Store}
use Rattle.cloud_facts.specs.Homes.Homes.{Part}
use Rattle.cloud_trait.specs.declared.answer.Answer.TheVariants.{Held, Late}
use Rattle.cloud_trait.specs.Weather.{Makes}
use Rattle.db_base.specs.declared.trouble.Trouble.TheVariants as trouble
use Rattle.orphan_sweep.proofs.Causes.{took_tells}
use Rattle.orphan_sweep.specs.Causes.{Shows, IsShown as IsShownBy}
use Rattle.orphan_sweep.specs.declared.swept.Swept.{Swept}
use Rattle.orphan_sweep.specs.Stepped.{Stepped}
use Rattle.orphan_sweep.specs.Sweeping.{Sweeping, sweep_ask}
use Rattle.session_facts.specs.Sessions.Explains.{Explains, IsShown, Meets}
use Rattle.session_facts.specs.Sessions.Knows.{leases_of}
use Rattle.session_facts.specs.Machines.Sweeps.Knows.{KnowsSweep}
use Rattle.session_facts.proofs.Sessions.Answered.{waited_is}
use Rattle.session_facts.proofs.Sessions.Shows.{given_shown, row_of}
use Rattle.session_facts.proofs.Machines.Sweeps.Asks.{asks_at, kept_stops, late_shown}
use Rattle.session_facts.proofs.Machines.Sweeps.Leases.{held_at}

-- ---- what shows a trouble

err_same : (q k : Trouble) → Some q ≡ Some k → q ≡ k
err_same q k e = cc (e)

none_some : {A : Type 0} (x : A) (o : Option A) → o ≡ None → o ≡ Some x → ⊥
none_some x o none some = absurd (cc (none, some))

module _ (who : Caller) (before after : Seen) (s t : CloudState) (told : before.state ≡ Some s) (told_after : after.state ≡ Some t) (m : Sweeping) where
  abbrev Shown : Ask → Trouble → Type 0
  Shown ask k = IsShown ask (leases_of (SweepingOn m)) (λ u what. ⊥) (before.counts, s) (after.counts, t) k

  busy_shown : (lock : Lock) (until : ℕ) (a : Heard) → Makes who (sweep_ask m) a before after → (sweep_ask m ≡ Take lock 60) × (a ≡ Held until)
      → Shown (sweep_ask m) (trouble.Busy lock until)
  busy_shown lock until a made (asks, is) =
      subst (λ ask. Shown ask (trouble.Busy lock until)) (sym asks)
      (given_shown who before after s t told told_after (leases_of (SweepingOn m)) (λ u what. ⊥) lock 60 (Held until)
      (subst (λ x. Makes who (Take lock 60) x before after) is (subst (λ ask. Makes who ask a before after) asks made)) (trouble.Busy lock until) refl)

  late_so : (end now : ℕ) (a : Heard) → Makes who (sweep_ask m) a before after → a ≡ Late end now → Shown (sweep_ask m) (trouble.Late end now)
  late_so end now a made is lasts =
      late_shown who m.tree (sweep_ask m) end now before.counts after.counts s t (asks_at m.stage m)
      (row_of who before after s t told told_after (leases_of (SweepingOn m)) (λ u what. ⊥) (sweep_ask m) (Late end now)
      (subst (λ x. Makes who (sweep_ask m) x before after) is made)) lasts

  shown_by : (a : Heard) → Makes who (sweep_ask m) a before after → (k : Trouble) → Shows m a k → Shown (sweep_ask m) k
  shown_by a made trouble.Failed shows = made.failed shows.0
  shown_by a made (trouble.Late end now) shows = late_so end now a made shows
  shown_by a made (trouble.Busy lock until) shows = busy_shown lock until a made shows
  shown_by a made (trouble.Absent page) shows = tt
  shown_by a made (trouble.Damaged where_it_is at) shows = tt
  shown_by a made (trouble.BadFence page expected found) shows = tt
  shown_by a made (trouble.Loop page) shows = tt
  shown_by a made (trouble.NotALeaf page) shows = absurd shows
  shown_by a made (trouble.Exhausted what) shows = absurd shows
  shown_by a made (trouble.Waiting have need) shows = absurd shows
  shown_by a made (trouble.Stale page least got) shows = absurd shows
  shown_by a made trouble.Memory shows = tt

  -- one that was not kept before
  shown_now : (a : Heard) → Makes who (sweep_ask m) a before after → (k : Trouble) → m.trouble ≡ None → IsShownBy m a k → Shown (sweep_ask m) k
  shown_now a made k none (inl kept) = absurd (none_some k m.trouble none kept)
  shown_now a made k none (inr shows) = shown_by a made k shows

  -- ---- a step

  module _ (st : Store) (now : ℕ) (part : Part) (knows : KnowsSweep st now m part) where
    abbrev Explained : Work → Turn Answer → Type 0
    Explained work turn = Explains (sweep_ask m) (before.counts, s) (after.counts, t) (SweepingOn m) work turn

    goes_on : (n : Sweeping) → Stepped who before after m n More → Explained (SweepingOn n) More
    goes_on n steps = record {
      shown = λ none clean k other meets. on none k meets;
      kept = λ k e. absurd (kept_stops m steps.did.answer (Goes n) k knows.quiet e steps.did.took);
      left = inl (omega arith);
    }
      where
        on : m.trouble ≡ None → (k : Trouble) → Meets (SweepingOn n) More k → Shown (sweep_ask m) k
        on none k (inl e) =
            shown_now steps.did.answer steps.did.made k none
            (took_tells m n steps.did.answer More (held_at m.stage st now m knows.at) steps.did.made.fits steps.did.took k e)
        on none k (inr e) = absurd (cc (e))

    ends : (n : Sweeping) (x : Swept) → Stepped who before after m n (Ended x) → Explained Closed (Ended (answer.Swept x))
    ends n x steps = record {
      shown = λ none clean k other meets. never k meets;
      kept = λ k e. absurd (kept_stops m steps.did.answer _ k knows.quiet e steps.did.took);
      left = inl (omega arith);
    }
      where
        never : (k : Trouble) → Meets Closed (Ended (answer.Swept x)) k → Shown (sweep_ask m) k
        never k (inl e) = absurd (cc (e))
        never k (inr e) = absurd (cc (e))

    stops : (n : Sweeping) (q : Trouble) → Stepped who before after m n (Stopped q) → Explained Closed (Ended (answer.Trouble q))
    stops n q steps = record {
      shown = λ none clean k other meets. on none k other meets;
      kept = λ k e. waited_is Closed q k (λ other. kept_stops m steps.did.answer (Stops n q) k knows.quiet e (steps.did.took.0 other));
      left = inl (omega arith);
    }
      where
        on : m.trouble ≡ None → (k : Trouble) → k ≢ trouble.Memory → Meets Closed (Ended (answer.Trouble q)) k → Shown (sweep_ask m) k
        on none k other (inl e) = absurd (cc (e))
        on none k other (inr e) =
            let same : q ≡ k = err_same q k e in
            subst (Shown (sweep_ask m)) same
            (shown_now steps.did.answer steps.did.made q none
            (took_tells m n steps.did.answer (Stopped q) (held_at m.stage st now m knows.at) steps.did.made.fits steps.did.took (λ memory. other (sym same ∙ memory))))

    pub sweeping_explains : (work : Work) (turn : Turn Answer) → StepsSweeping who before after m work turn → Explained work turn
    sweeping_explains work More (n, steps, is, less) = subst (λ (w : Work). Explained w More) (sym is) (goes_on n steps)
    sweeping_explains work (Ended (answer.Swept x)) (n, steps, is) = subst (λ (w : Work). Explained w (Ended (answer.Swept x))) (sym is) (ends n x steps)
    sweeping_explains work (Ended (answer.Trouble q)) (n, steps, is) = subst (λ (w : Work). Explained w (Ended (answer.Trouble q))) (sym is) (stops n q steps)
    sweeping_explains work (Stopped q) never = absurd never
    sweeping_explains work (Ended (answer.Opened epoch)) never = absurd never
    sweeping_explains work (Ended answer.Closed) never = absurd never
    sweeping_explains work (Ended (answer.Renewed end)) never = absurd never
    sweeping_explains work (Ended (answer.Done n)) never = absurd never
    sweeping_explains work (Ended (answer.Commit a)) never = absurd never
    sweeping_explains work (Ended answer.Value) never = absurd never
    sweeping_explains work (Ended answer.Scan) never = absurd never
    sweeping_explains work (Ended (answer.Settled n)) never = absurd never
