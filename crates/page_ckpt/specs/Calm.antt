-- A page checkpoint whose calls go well.
use Rattle.std.specs.Prelude.{ℕ, ◌≡◌, ◌≢◌, ◌⊎◌}
use Rattle.db_base.specs.declared.trouble.Trouble.{Trouble}
use Rattle.db_base.specs.declared.trouble.Trouble.TheVariants as trouble
use Rattle.db_base.specs.declared.trouble.Counter.TheVariants as counter
use Rattle.cloud_trait.specs.declared.turn.CkptAnswer.{CkptAnswer}
use Rattle.cloud_trait.specs.declared.turn.Turn.{Turn}
use Rattle.cloud_trait.specs.declared.turn.Turn.TheVariants.{More, Ended, Stopped}
use Rattle.page_ckpt.specs.declared.link.Link.{Link}
use Rattle.page_ckpt.specs.Paging.{Paging}

-- A trouble that may come although all calls went well, by the checkpoint's page and the link to the right page in hand: of what the cloud holds
-- of these pages and of the queue, a greatest version, or want of memory. No call failed, no lease was over, and no lock was held.
abbrev pub IsLeft : ℕ → Link → Trouble → Type 0
IsLeft own link trouble.Failed = ⊥
IsLeft own link (trouble.Late end now) = ⊥
IsLeft own link (trouble.Busy lock until) = ⊥
IsLeft own link (trouble.Absent page) = (page ≢ 1) × ((page ≡ own) ⊎ (page ≡ link.page))
IsLeft own link (trouble.NotALeaf page) = page ≡ own
IsLeft own link (trouble.Damaged where_it_is at) = Unit {0}
IsLeft own link (trouble.BadFence page expected found) = (page ≡ link.page) × (expected ≡ link.low)
IsLeft own link (trouble.Loop page) = Unit {0}
IsLeft own link (trouble.Exhausted what) = what ≡ counter.Version
IsLeft own link (trouble.Waiting have need) = ⊥
IsLeft own link (trouble.Stale page least got) = ⊥
IsLeft own link trouble.Memory = Unit {0}

-- an end leaves no message, and a stop is for such a trouble
abbrev pub IsWell : Paging → Turn CkptAnswer → Type 0
IsWell n More = Unit {0}
IsWell n (Ended answer) = answer.left ≡ 0
IsWell n (Stopped t) = IsLeft n.page n.at t
