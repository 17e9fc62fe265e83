-- Troubles by want of memory.
use Rattle.std.proofs.Common.{◌≡◌, ◌≢◌, refl}
use Rattle.client_work.specs.Session.{stopped_work}
use Rattle.client_work.specs.declared.work.Work.TheVariants.{Idle}
use Rattle.db_base.specs.declared.trouble.Trouble.{Trouble}
use Rattle.db_base.specs.declared.trouble.Trouble.TheVariants as trouble
use Rattle.recover_run.specs.declared.home.Home.{Home}
pub use Rattle.tree_walk.proofs.Demands.{memory_or}

-- but for want of memory an operation that stops leaves the client open
pub stays_open : (home : Home) (k : Trouble) → k ≢ trouble.Memory → stopped_work k home ≡ Idle home
stays_open home trouble.Memory other = absurd (other refl)
stays_open home trouble.Failed other = refl
stays_open home (trouble.Late end now) other = refl
stays_open home (trouble.Busy lock until) other = refl
stays_open home (trouble.Waiting have need) other = refl
stays_open home (trouble.Stale page least got) other = refl
stays_open home (trouble.Absent page) other = refl
stays_open home (trouble.NotALeaf page) other = refl
stays_open home (trouble.Damaged place offset) other = refl
stays_open home (trouble.BadFence page expected found) other = refl
stays_open home (trouble.Loop page) other = refl
stays_open home (trouble.Exhausted what) other = refl
