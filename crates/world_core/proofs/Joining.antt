-- What joins the changes of a session may be committed.
use Rattle.std.proofs.Common.{◌≤◌, List, length}
use Rattle.db_base.specs.Change.{IsChange}
use Rattle.txn_buffer.specs.Noted.{Noted}
use Rattle.session_facts.specs.Machines.Commits.Knows.{MayCommit}
use Rattle.session_facts.proofs.Machines.Commits.Noted.{may_note, may_put}
use Rattle.world_core.specs.declared.asked.Noting.{Noting}
use Rattle.world_core.specs.declared.asked.Noting.TheVariants.{Single, Indexed}
use Rattle.world_core.specs.Asked.{IsPlace, change_in}
use Rattle.world_core.specs.Sessions.{joined, MayJoin}

pub may_join : (noting : Noting) (buffer : List Noted) → IsPlace noting → IsChange (change_in noting) → MayJoin noting → length (joined noting buffer) ≤ 200 → MayCommit buffer
    → MayCommit (joined noting buffer)
may_join (Single tree change) buffer place is_change joins few may = may_note buffer tree change place is_change few may
may_join (Indexed tree key payload attr) buffer place is_change joins few may =
    may_put buffer tree key payload attr place.0 place.1 joins.short is_change few may
