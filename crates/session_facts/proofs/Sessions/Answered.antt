-- What the last answer of an operation tells of the troubles that it met.
use Rattle.std.proofs.Common.{◌≡◌, ◌≢◌, ◌⊎◌, inl, inr, Some, None, refl, sym, ap, ◌∙◌}
use Rattle.client_work.specs.Session.{stopped_work}
use Rattle.client_work.specs.declared.answer.Answer.TheVariants as answer
use Rattle.client_work.specs.declared.work.Work.{Work}
use Rattle.cloud_trait.specs.declared.turn.Turn.TheVariants.{Ended}
use Rattle.db_base.specs.declared.trouble.Trouble.{Trouble}
use Rattle.db_base.specs.declared.trouble.Trouble.TheVariants as trouble
use Rattle.recover_run.specs.declared.home.Home.{Home}
use Rattle.session_facts.specs.Sessions.Explains.{trouble_in, Meets, KeepsTrouble}
use Rattle.tree_walk.proofs.Demands.{memory_or}

-- nothing is met any more where an operation stopped
pub stopped_none : (k : Trouble) (home : Home) → trouble_in (stopped_work k home) ≡ None
stopped_none trouble.Memory home = refl
stopped_none trouble.Failed home = refl
stopped_none (trouble.Late end now) home = refl
stopped_none (trouble.Busy lock until) home = refl
stopped_none (trouble.Waiting have need) home = refl
stopped_none (trouble.Stale page least got) home = refl
stopped_none (trouble.Absent page) home = refl
stopped_none (trouble.NotALeaf page) home = refl
stopped_none (trouble.Damaged place offset) home = refl
stopped_none (trouble.BadFence page expected found) home = refl
stopped_none (trouble.Loop page) home = refl
stopped_none (trouble.Exhausted what) home = refl

-- a trouble that is answered is the one that is met
pub answered_is : (work : Work) (q k : Trouble) → trouble_in work ≡ None → Meets work (Ended (answer.Trouble q)) k → q ≡ k
answered_is work q k none (inl e) = absurd (let other : None ≡ Some k = sym none ∙ e in cc (other))
answered_is work q k none (inr e) = cc

-- a trouble that waited is answered, or memory ran out
pub waited_is : (work : Work) (q k : Trouble) → (q ≢ trouble.Memory → q ≡ k) → KeepsTrouble work (Ended (answer.Trouble q)) k
waited_is work q k same = on (memory_or q)
  where
    on : (q ≡ trouble.Memory) ⊎ (q ≢ trouble.Memory) → KeepsTrouble work (Ended (answer.Trouble q)) k
    on (inl e) = inr (ap (λ (x : Trouble). Some x) e)
    on (inr other) = inl (ap (λ (x : Trouble). Some x) (same other))
