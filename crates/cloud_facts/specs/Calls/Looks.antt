-- What looks before and after a put show of it, and what an audit takes of that.
use Rattle.std.specs.Prelude.{ℕ, Bool, false, not, ◌&&◌, if◌then◌else◌, List, Option, Some, None}
use Rattle.cloud_facts.specs.Words.{ObjName, Entry, Ask, PutHeld, Book}
use Rattle.cloud_trait.specs.Bench.{has_bytes}
use Rattle.history.specs.Audited.{Audited}
use Rattle.cloud_facts.specs.Book.Records.{entries_of}

-- the newest bytes of each object
abbrev pub Newest : Type 0
Newest = ObjName → Option (List ℕ)

-- a put landed: the newest bytes before it are others, and those after it are its own
abbrev pub has_landed : Newest → Newest → Option Ask → Bool
has_landed before after (Some (PutHeld name bytes one two)) = not (has_bytes (before name) bytes) && has_bytes (after name) bytes
has_landed before after (Some ask) = false
has_landed before after None = false

-- the audit after a call, by the newest objects before and after it, where a landed put adds this
abbrev pub audited_at : Newest → Newest → Ask → (Audited → Audited) → Audited → Audited
audited_at before after ask note a = if has_landed before after (Some ask) then note a else a

-- what an audit has seen where it saw all: the committed entries, and the order
abbrev pub audit_of : Book → List Entry → Audited
audit_of book order = record { committed = entries_of book.log; order = order }
