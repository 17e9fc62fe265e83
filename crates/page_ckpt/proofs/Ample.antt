-- Whether a step wants memory does not depend on whether the lease that is given back has left the machine.
use Rattle.std.proofs.Common.{◌≡◌, ◌≢◌, subst}
use Rattle.db_base.specs.declared.trouble.Trouble.TheVariants as trouble
use Rattle.cloud_trait.specs.declared.answer.Answer.TheVariants as call
use Rattle.page_ckpt.specs.Ample.{IsAmple, IsRefusal, WantsMemory, WantsMore}
use Rattle.page_ckpt.specs.declared.stage.Stage.TheVariants.{TakingHome, GettingHome, Receiving, TakingRight, GettingRight, PuttingRight, ReleasingRight, PuttingHome, Deleting as DeletingNext, Releasing, Finished}
use Rattle.page_ckpt.specs.Paging.{Paging, handed}
use Rattle.page_ckpt.proofs.Words.{Answer, CkptAnswer, Turn, Stopped, Stage}

wants_at : (stage : Stage) (p : Paging) → WantsMemory stage (handed p) → WantsMemory stage p
wants_at TakingHome p wants = wants
wants_at GettingHome p wants = wants
wants_at Receiving p wants = wants
wants_at TakingRight p wants = wants
wants_at GettingRight p wants = wants
wants_at PuttingRight p wants = wants
wants_at ReleasingRight p wants = wants
wants_at PuttingHome p wants = wants
wants_at DeletingNext p wants = wants
wants_at Releasing p wants = wants
wants_at Finished p wants = wants

more_at : (stage : Stage) (p : Paging) → WantsMore stage (handed p) → WantsMore stage p
more_at TakingHome p wants = wants
more_at GettingHome p wants = wants
more_at Receiving p wants = wants
more_at TakingRight p wants = wants
more_at GettingRight p wants = wants
more_at PuttingRight p wants = wants
more_at ReleasingRight p wants = wants
more_at PuttingHome p wants = wants
more_at DeletingNext p wants = wants
more_at Releasing p wants = wants
more_at Finished p wants = wants

pub handed_ample : (old mid : Paging) (a : Answer) (turn : Turn CkptAnswer) → mid ≡ handed old
    → (IsRefusal a → turn ≡ Stopped trouble.Memory → WantsMore mid.stage mid)
    → (a ≢ call.Memory → turn ≡ Stopped trouble.Memory → WantsMemory mid.stage mid) → IsAmple a old turn
handed_ample old mid a turn left refused wants = record {
  refused = λ bad is. more_at old.stage old (subst (λ (p : Paging). WantsMore p.stage p) left (refused bad is));
  wants = λ other is. wants_at old.stage old (subst (λ (p : Paging). WantsMemory p.stage p) left (wants other is));
}
