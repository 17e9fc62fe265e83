-- The step does not depend on whether the lease that is given back has left the machine.
use Rattle.std.proofs.Common.{◌≡◌, refl, ap, sym, subst, ◌∙◌}
use Rattle.cloud_trait.specs.declared.answer.Answer.{Answer}
use Rattle.cloud_trait.specs.declared.turn.Turn.{Turn}
use Rattle.cloud_trait.specs.declared.turn.Turn.TheVariants.{More, Ended, Stopped}
use Rattle.cloud_trait.specs.Machine.{LeadsBy, Took}
use Rattle.recover_run.specs.declared.stage.Stage.{Stage}
use Rattle.recover_run.specs.declared.stage.Stage.TheVariants.{ReleasingOld, Taking, Getting, Receiving, Deleting, Sending, Putting, Clearing, Sweeping, Releasing, Finished}
use Rattle.recover_run.specs.declared.stage.RecoverAnswer.{RecoverAnswer}
use Rattle.recover_run.specs.Recovery.{Recovery, recovery_next, handed_over, KeepsLeases}

next-handed_at : (r : Recovery) (a : Answer) (st : Stage) → recovery_next (handed_over (record r { stage = st })) a ≡ recovery_next (record r { stage = st }) a
next-handed_at r a ReleasingOld = refl
next-handed_at r a Taking = refl
next-handed_at r a Getting = refl
next-handed_at r a Receiving = refl
next-handed_at r a Deleting = refl
next-handed_at r a Sending = refl
next-handed_at r a Putting = refl
next-handed_at r a Clearing = refl
next-handed_at r a Sweeping = refl
next-handed_at r a Releasing = refl
next-handed_at r a Finished = refl

pub next-handed_over : (r : Recovery) (a : Answer) → recovery_next (handed_over r) a ≡ recovery_next r a
next-handed_over r a = next-handed_at r a r.stage

-- a lease leaves the machine once
leases_at : (r : Recovery) (a : Answer) (st : Stage) → KeepsLeases (record r { stage = st }) a (handed_over (handed_over (record r { stage = st })))
leases_at r a ReleasingOld = (refl, refl)
leases_at r a Taking = (refl, refl)
leases_at r a Getting = (refl, refl)
leases_at r a Receiving = (refl, refl)
leases_at r a Deleting = (refl, refl)
leases_at r a Sending = (refl, refl)
leases_at r a Putting = (refl, refl)
leases_at r a Clearing = (refl, refl)
leases_at r a Sweeping = (refl, refl)
leases_at r a Releasing = (refl, refl)
leases_at r a Finished = (refl, refl)

pub handed_keeps : (old mid : Recovery) (a : Answer) → mid ≡ handed_over old → KeepsLeases mid a mid
handed_keeps old mid a e =
    let once : KeepsLeases old a (handed_over (handed_over old)) = leases_at old a old.stage in
    subst (λ (m : Recovery). KeepsLeases m a m) (sym e) (sym once.0, sym once.1)

keeps_handed : (old mid : Recovery) (a : Answer) (new : Recovery) → mid ≡ handed_over old → KeepsLeases mid a new → KeepsLeases old a new
keeps_handed old mid a new e h =
    let once : KeepsLeases old a (handed_over (handed_over old)) = leases_at old a old.stage in (
      h.0 ∙ (ap (λ (m : Recovery). (handed_over m).lease) e ∙ once.0),
      h.1 ∙ (ap (λ (m : Recovery). (handed_over m).former) e ∙ once.1),
    )

same_next : (old mid : Recovery) (a : Answer) → mid ≡ handed_over old → recovery_next old a ≡ recovery_next mid a
same_next old mid a e = sym (ap (λ m. recovery_next m a) e ∙ next-handed_over old a)

pub took_handed : (old mid : Recovery) (a : Answer) (new : Recovery) (turn : Turn RecoverAnswer) → mid ≡ handed_over old
    → Took (LeadsBy recovery_next) KeepsLeases mid a new turn → Took (LeadsBy recovery_next) KeepsLeases old a new turn
took_handed old mid a new More e h = same_next old mid a e ∙ h
took_handed old mid a new (Ended x) e h = same_next old mid a e ∙ h
took_handed old mid a new (Stopped t) e h = (λ k. same_next old mid a e ∙ h.0 k, λ k. keeps_handed old mid a new e (h.1 k))
