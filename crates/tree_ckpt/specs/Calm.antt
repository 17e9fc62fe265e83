-- A tree checkpoint whose calls go well.
use Rattle.std.specs.Prelude.{ℕ, ◌≡◌, ◌≢◌, List, None}
use Rattle.db_base.specs.declared.names.ObjName.TheVariants as object
use Rattle.db_base.specs.declared.trouble.Trouble.{Trouble}
use Rattle.db_base.specs.declared.trouble.Trouble.TheVariants as trouble
use Rattle.db_base.specs.declared.trouble.Counter.TheVariants as counter
use Rattle.cloud_trait.specs.declared.turn.CkptAnswer.{CkptAnswer}
use Rattle.cloud_trait.specs.declared.turn.Turn.{Turn}
use Rattle.cloud_trait.specs.declared.turn.Turn.TheVariants.{More, Ended, Stopped}
use Rattle.tree_ckpt.specs.Causes.{Calls, WasGot, IsLink}

-- A trouble that may come although all these calls went well: of what the cloud holds, a greatest number, or want of memory. A page that is
-- absent is one to which a link led. No call failed, no lease was over, and no lock was held.
abbrev pub IsLeft : ℕ → Calls → Trouble → Type 0
IsLeft tree cs trouble.Failed = ⊥
IsLeft tree cs (trouble.Late end now) = ⊥
IsLeft tree cs (trouble.Busy lock until) = ⊥
IsLeft tree cs (trouble.Absent page) =
    (page ≢ 1) × WasGot (object.Page tree page) None cs × ((level : ℕ) × ((low : List ℕ) × IsLink tree level low page cs))
IsLeft tree cs (trouble.NotALeaf page) = ⊥
IsLeft tree cs (trouble.Damaged where_it_is at) = Unit {0}
IsLeft tree cs (trouble.BadFence page expected found) = Unit {0}
IsLeft tree cs (trouble.Loop page) = Unit {0}
IsLeft tree cs (trouble.Exhausted counter.Version) = Unit {0}
IsLeft tree cs (trouble.Exhausted counter.Pages) = Unit {0}
IsLeft tree cs (trouble.Exhausted what) = ⊥
IsLeft tree cs (trouble.Waiting have need) = ⊥
IsLeft tree cs (trouble.Stale page least got) = ⊥
IsLeft tree cs trouble.Memory = Unit {0}

-- an end leaves no message, and a stop is for such a trouble
abbrev pub IsWell : ℕ → Calls → Turn CkptAnswer → Type 0
IsWell tree cs More = Unit {0}
IsWell tree cs (Ended answer) = answer.left ≡ 0
IsWell tree cs (Stopped t) = IsLeft tree cs t
