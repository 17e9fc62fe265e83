-- Laws of where a step leads.
use Rattle.std.proofs.Common.{◌≡◌, subst, ap, ◌∙◌}
use Rattle.cloud_trait.specs.Machine.{LeadsBy, Took}
use Rattle.orphan_sweep.specs.Sweeping.{Sweeping, handed, absorbed, sweep_next, SameLease, KeepsLease}
use Rattle.orphan_sweep.proofs.Words.{Answer, Turn, More, Ended, Stopped, Goes, Ends, Stops, Swept}

-- a step of the machine without the lease that is given back is one of the machine with it
pub took_handed : (old mid new : Sweeping) (a : Answer) (turn : Turn Swept) → mid ≡ handed old
    → Took (λ s x next. absorbed s x ≡ next) SameLease mid a new turn → Took (LeadsBy sweep_next) KeepsLease old a new turn
took_handed old mid new a More e h = subst (λ (m : Sweeping). absorbed m a ≡ Goes new) e h
took_handed old mid new a (Ended x) e h = subst (λ (m : Sweeping). absorbed m a ≡ Ends new x) e h
took_handed old mid new a (Stopped t) e h =
    (λ k. subst (λ (m : Sweeping). absorbed m a ≡ Stops new t) e (h.0 k), λ k. h.1 k ∙ ap (λ (m : Sweeping). m.held) e)
