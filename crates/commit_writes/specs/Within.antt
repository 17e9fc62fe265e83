-- How many calls a commit makes at most with what it writes.
use Rattle.std.specs.Prelude.{◌≡◌, ◌≤◌, ◌+◌, ◌*◌, List, length}
use Rattle.log_codec.specs.declared.record.AtomicRec.{AtomicRec}
use Rattle.cloud_trait.specs.Machine.{Goes, LeadsBy, Came, Deed}
use Rattle.txn_buffer.specs.Noted.{Noted}
use Rattle.recover_run.specs.declared.home.Home.{Home}
use Rattle.commit_writes.specs.Writing.{Writing, waiting, begun, writing_ask, writing_next}

-- the commit of records, one at least, by a home came here by these calls, the newest first
abbrev pub Went : Home → List AtomicRec → List Deed → Writing → Type 0
Went home records h w =
    (1 ≤ length records) × (changes : List Noted) × (start : Writing) × (begun (waiting home changes) records ≡ Goes start)
    × Came writing_ask (LeadsBy writing_next) start h w

-- the next call is one of three for each record and of two more
abbrev pub WritesWithin : List AtomicRec → List Deed → Type 0
WritesWithin records h = length h + 1 ≤ 3 * length records + 2
