-- Leaves, and how they are spelled.
use Rattle.std.specs.Prelude.{ℕ, ◌+◌, Bool, true, false, not, ◌&&◌, List, Option, Some, None, ◌==◌, if◌then◌else◌}
use Rattle.std.specs.Int.{w8, w16, w64}
use Rattle.byte_format.specs.Format.{Format, greatest, number, text, ruled, ◌then◌, behind, only_where, maybe, seen_as, list_of}
use Rattle.byte_format.specs.Whole.{IsSpelling}
use Rattle.byte_format.specs.Order.{bytes_below, below_bound}
use Rattle.byte_format.specs.HighKey.{high_key}
use Rattle.db_base.specs.Limits.{longest_key, longest_payload, last_client}
use Rattle.db_base.specs.Value.{Value}
use Rattle.leaf_view.specs.declared.done.Done.{Done}

-- a record of the store
pub record Entry : Type 0 where
  pub key : List ℕ
  pub value : Value

-- the part of a leaf before its lists; right is 0 where there is no right page
pub record Head : Type 0 where
  pub format : ℕ
  pub version : ℕ
  pub low : List ℕ
  pub right : ℕ
  pub high : Option (List ℕ)

pub record Leaf : Type 0 where
  pub format : ℕ
  pub version : ℕ
  pub low : List ℕ
  pub right : ℕ
  pub high : Option (List ℕ)
  pub done : List Done
  pub records : List Entry

-- ---- the fields before the lists

abbrev pub Heads : Type 0
Heads = ℕ × (ℕ × (List ℕ × (ℕ × Option (List ℕ))))

abbrev pub head_of : Heads → Head
head_of x = record { format = x.0; version = x.1.0; low = x.1.1.0; right = x.1.1.1.0; high = x.1.1.1.1 }

abbrev pub head_parts : Head → Heads
head_parts h = (h.format, (h.version, (h.low, (h.right, h.high))))

-- L, format, version, low key, right page, high key
unfoldable pub leaf_head : Format Head
leaf_head = seen_as head_of head_parts (behind 76 (
    number w8 1 2 then λ format.
    number w64 1 greatest then λ version.
    text w8 0 longest_key then λ low.
    number w64 0 greatest then λ right.
    high_key low right))

-- ---- the table of what is done: the number up to which records of a queue and client are applied

abbrev pub least_queue : Option Done → ℕ
least_queue None = 0
least_queue (Some d) = d.queue

abbrev pub least_client : Option Done → ℕ → ℕ
least_client None queue = 1
least_client (Some d) queue = if d.queue == queue then d.client + 1 else 1

abbrev pub done_of : ℕ × (ℕ × ℕ) → Done
done_of x = record { queue = x.0; client = x.1.0; number = x.1.1 }

abbrev pub done_parts : Done → ℕ × (ℕ × ℕ)
done_parts d = (d.queue, (d.client, d.number))

abbrev pub done_from : ℕ → (ℕ → ℕ) → Format Done
done_from queue_from client_from = seen_as done_of done_parts (number w64 queue_from greatest then λ queue. number w8 (client_from queue) last_client then λ client. number w64 1 greatest)

-- queue, client, number, ascending by queue and then client
unfoldable pub done_item : Option Done → Format Done
done_item before = done_from (least_queue before) (least_client before)

-- ---- records

abbrev pub Entries : Type 0
Entries = List ℕ × (List ℕ × Option (List ℕ))

abbrev pub entry_of : Entries → Entry
entry_of x = record { key = x.0; value = record { payload = x.1.0; attr = x.1.1 } }

abbrev pub entry_parts : Entry → Entries
entry_parts e = (e.key, (e.value.payload, e.value.attr))

-- an attribute: 1 to 32 bytes
abbrev pub attr_text : Format (List ℕ)
attr_text = text w8 1 32

-- what stands behind a payload: in format 2 the attribute, where there is one; in format 1, where there is none, nothing
abbrev pub attribute : ℕ → Format (Option (List ℕ))
attribute format = if format == 2 then maybe attr_text else only_where false attr_text

-- above the record before, where there is one
abbrev pub above_entry : Option Entry → List ℕ → Bool
above_entry None key = true
above_entry (Some e) key = bytes_below e.key key

-- from low on, below the bound, and above the record before
abbrev pub key_stands : List ℕ → Option (List ℕ) → Option Entry → List ℕ → Bool
key_stands low high before key = not (bytes_below key low) && below_bound key high && above_entry before key

-- key, payload, attribute
unfoldable pub record_item : ℕ → List ℕ → Option (List ℕ) → Option Entry → Format Entry
record_item format low high before = seen_as entry_of entry_parts (ruled (key_stands low high before) (text w8 1 longest_key) then λ key. text w16 0 longest_payload then λ payload. attribute format)

-- ---- the whole

abbrev pub leaf_of : Head × (List Done × List Entry) → Leaf
leaf_of x = record { format = x.0.format; version = x.0.version; low = x.0.low; right = x.0.right; high = x.0.high; done = x.1.0; records = x.1.1 }

abbrev pub leaf_parts : Leaf → Head × (List Done × List Entry)
leaf_parts l = (record { format = l.format; version = l.version; low = l.low; right = l.right; high = l.high }, (l.done, l.records))

unfoldable pub leaf : Format Leaf
leaf = seen_as leaf_of leaf_parts (leaf_head then λ head. list_of true done_item None then λ done. list_of true (record_item head.format head.low head.high) None)

-- bytes spell the leaf
abbrev pub IsLeaf : List ℕ → Leaf → Type 0
IsLeaf bytes l = IsSpelling leaf bytes l

-- ---- the items of lists that were checked

unfoldable pub plain_done : Format Done
plain_done = done_from 0 (λ _. 1)

unfoldable pub plain_entry : ℕ → Format Entry
plain_entry format = seen_as entry_of entry_parts (text w8 1 longest_key then λ key. text w16 0 longest_payload then λ payload. attribute format)
