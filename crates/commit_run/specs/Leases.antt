-- What the call in hand of a commit names.
use Rattle.std.specs.Prelude.{◌≤◌, List, length}
use Rattle.txn_buffer.specs.Noted.{Noted}
use Rattle.cloud_trait.specs.Machine.{Deed}
use Rattle.recover_run.specs.declared.home.Home.{Home}
use Rattle.page_cache.specs.Cache.{Cache}
use Rattle.commit_writes.specs.Leases.{IsOwnCall}
use Rattle.commit_run.specs.Run.{Run, asks}
use Rattle.commit_run.specs.Within.{Went}

-- it is one of the commit's own: no lock is taken or given back, and the lease of the home that was handed in is the only one that is named
abbrev pub Names : Run × Cache → Type 0
Names m = (home : Home) (changes : List Noted) (c : Cache) (h : List Deed) → 1 ≤ length changes → Went home changes c h m → IsOwnCall home (asks m)
