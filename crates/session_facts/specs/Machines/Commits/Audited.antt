-- What a landed put of a commit adds to the audit.
use Rattle.std.specs.Prelude.{ℕ, List, ◌++◌, map, Option, Some, None}
use Rattle.cloud_trait.specs.Ask.{Ask, PutHeld}
use Rattle.commit_writes.specs.declared.stage.Stage.{Stage}
use Rattle.commit_writes.specs.Writing.{Writing, opens_at}
use Rattle.db_base.specs.declared.names.ObjName.TheVariants as object
use Rattle.head_codec.specs.declared.head.Head.{Head}
use Rattle.history.specs.Audited.{Audited, committed_entry}
use Rattle.txn_buffer.specs.Noted.{Noted}

-- a head that opens commits the entries of the changes
abbrev pub noted_head : ℕ → Option Head → List Noted → Audited → Audited
noted_head client (Some head) changes a = record a { committed = a.committed ++ map (committed_entry client head.epoch head.txn) changes }
noted_head client None changes a = a

abbrev pub noted_at : Stage → Writing → Ask → Audited → Audited
noted_at stage w (PutHeld (object.Head client) bytes one two) a = noted_head client (opens_at stage w) w.changes a
noted_at stage w ask a = a

-- the put that commits adds the entries of the changes, and no other call adds anything
abbrev pub commit_note : Writing → Ask → Audited → Audited
commit_note w ask a = noted_at w.stage w ask a
