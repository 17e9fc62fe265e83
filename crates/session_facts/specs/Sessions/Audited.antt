-- What a put in hand adds to the audit where it lands.
use Rattle.std.specs.Prelude.{ℕ, if◌then◌else◌, List, ◌++◌, map, Option, Some, None}
use Rattle.db_base.specs.declared.names.ObjName.TheVariants as object
use Rattle.cloud_facts.specs.Calls.Looks.{Newest, has_landed}
use Rattle.cloud_trait.specs.Ask.{Ask, PutHeld}
use Rattle.head_codec.specs.declared.head.Head.{Head}
use Rattle.txn_buffer.specs.Noted.{Noted}
use Rattle.client_work.specs.declared.work.Work.{Work}
use Rattle.client_work.specs.Session.{ask_of_work, committing_of, opens_of, applying_of}
use Rattle.history.specs.Audited.{Audited, committed_entry, applied_entry}

abbrev pub noted_head : ℕ → Option Head → Option (List Noted) → Audited → Audited
noted_head client (Some head) (Some changes) a = record a { committed = a.committed ++ map (committed_entry client head.epoch head.txn) changes }
noted_head client None changes a = a
noted_head client (Some head) None a = a

abbrev pub noted_at : Work → Ask → Audited → Audited
noted_at w (PutHeld (object.Head client) bytes one two) a = noted_head client (opens_of w) (committing_of w) a
noted_at w (PutHeld (object.Page tree page) bytes one two) a = record a { order = a.order ++ map (applied_entry tree) (applying_of w) }
noted_at w ask a = a

abbrev pub noted_in_hand : Work → Option Ask → Audited → Audited
noted_in_hand w (Some ask) a = noted_at w ask a
noted_in_hand w None a = a

-- the audit with what the put in hand commits or applies
abbrev pub noted_by : Work → Audited → Audited
noted_by w a = noted_in_hand w (ask_of_work w) a

-- the audit after the call in hand, by the newest objects before and after it
abbrev pub audited : Newest → Newest → Work → Audited → Audited
audited before after w a = if has_landed before after (ask_of_work w) then noted_by w a else a
