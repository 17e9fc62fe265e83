-- An operation that stopped for another trouble than want of memory leaves the client open.
use Rattle.std.proofs.Common.{◌≡◌, ◌≢◌, refl}
use Rattle.db_base.specs.declared.trouble.Trouble.{Trouble}
use Rattle.db_base.specs.declared.trouble.Trouble.TheVariants as trouble
use Rattle.recover_run.specs.declared.home.Home.{Home}
use Rattle.client_work.specs.declared.work.Work.TheVariants.{Idle}
use Rattle.client_work.specs.Session.{stopped_work}

pub stays_idle : (t : Trouble) (home : Home) → t ≢ trouble.Memory → Idle home ≡ stopped_work t home
stays_idle trouble.Memory home other = absurd (other refl)
stays_idle t home other = refl
