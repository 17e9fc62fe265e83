-- The pairs of one leaf of a scan, as a client sees them.
use Rattle.std.specs.Prelude.{ℕ, ◌≡◌, ⊤, Bool, not, ◌&&◌, ◌==◌, nat_lt, List, [], ◌∷◌, fold, Option, Some, None, if◌then◌else◌}
use Rattle.std.specs.declared.cmp.Ordering.TheVariants.{Less}
use Rattle.std.specs.Ordering.{match_ordering}
use Rattle.byte_format.specs.Order.{bytes_cmp, bytes_below, bytes_same, below_bound}
use Rattle.db_base.specs.Change.{act, key_of}
use Rattle.db_base.specs.declared.change.Change.{Change}
use Rattle.db_base.specs.Value.{Value}
use Rattle.head_codec.specs.declared.head.Head.{Head}
use Rattle.head_codec.specs.declared.lists.Pending.{Pending}
use Rattle.leaf_view.specs.Leaf.{Entry, Leaf}
use Rattle.leaf_view.specs.Lookup.{holds, number_of, value_of}
use Rattle.txn_buffer.specs.Noted.{Noted}
use Rattle.route_plan.specs.Seen.{seen}
use Rattle.tree_walk.specs.Walk.{sought}
use Rattle.range_scan.specs.Scan.{Scan}

-- what is looked at: a leaf of a tree, the key from which on and the one below which pairs are asked for, and the own changes of a
-- client, those that it committed and those in its buffer
pub record Sight : Type 0 where
  pub leaf : Leaf
  pub tree : ℕ
  pub from : List ℕ
  pub to : Option (List ℕ)
  pub client : ℕ
  pub head : Head
  pub buffer : List Noted

-- whether a key is asked for, and one of the leaf's
abbrev pub is_listed : Sight → List ℕ → Bool
is_listed s key = holds s.leaf key && (not (bytes_below key s.from) && below_bound key s.to)

-- the value that the client sees at such a key
abbrev pub item_at : Sight → List ℕ → Option Value
item_at s key = if is_listed s key then seen s.leaf s.tree key s.client s.head s.buffer else None

-- a key is below that of the first pair
abbrev pub BelowFirst : List ℕ → List Entry → Type 0
BelowFirst key [] = ⊤
BelowFirst key (e ∷ es) = bytes_cmp key e.key ≡ Less

-- each key is below the next one
abbrev pub IsAscending : List Entry → Type 0
IsAscending [] = ⊤
IsAscending (e ∷ es) = BelowFirst e.key es × IsAscending es

-- the pairs of all keys that are asked for, of the leaf's range, and at which the client sees a value: each once, in key order,
-- and no other
pub record AreItems (s : Sight) (pairs : List Entry) : Type 0 where
  pub ascending : IsAscending pairs
  pub each : (key : List ℕ) → value_of key pairs ≡ item_at s key

-- ---- the one list of these

-- a pair in its place
abbrev pub put_pair : List Entry → List ℕ → Value → List Entry
put_pair [] key value = record { key = key; value = value } ∷ []
put_pair (e ∷ es) key value =
    match_ordering (bytes_cmp key e.key) (record { key = key; value = value } ∷ e ∷ es) (record { key = e.key; value = value } ∷ es) (e ∷ put_pair es key value)

-- the pairs without that of a key
abbrev pub without_pair : List Entry → List ℕ → List Entry
without_pair [] key = []
without_pair (e ∷ es) key = if bytes_same key e.key then es else e ∷ without_pair es key

abbrev pub with_value : List Entry → List ℕ → Option Value → List Entry
with_value pairs key None = pairs
with_value pairs key (Some value) = put_pair pairs key value

-- the pairs after a change of one key
abbrev pub acted : List Entry → Change → List Entry
acted pairs change = with_value (without_pair pairs (key_of change)) (key_of change) (act (value_of (key_of change) pairs) change)

-- with a record of the leaf, where its key is asked for
abbrev pub with_record : Sight → List Entry → Entry → List Entry
with_record s pairs e = if is_listed s e.key then put_pair pairs e.key e.value else pairs

-- whether a pending entry is of a key that is asked for, and the leaf lacks it
abbrev pub is_listed_pending : Sight → Pending → Bool
is_listed_pending s p = (p.tree == s.tree) && (is_listed s (key_of p.change) && nat_lt (number_of s.leaf.done p.page s.client) p.number)

-- after a pending entry
abbrev pub with_pending : Sight → List Entry → Pending → List Entry
with_pending s pairs p = if is_listed_pending s p then acted pairs p.change else pairs

-- after a buffered change
abbrev pub with_noted : Sight → List Entry → Noted → List Entry
with_noted s pairs n = if (n.tree == s.tree) && is_listed s (key_of n.change) then acted pairs n.change else pairs

-- the leaf's records whose keys are asked for
abbrev pub with_records : Sight → List Entry
with_records s = fold (with_record s) [] s.leaf.records

-- .. after the client's pending entries and then its buffered changes
abbrev pub items_of : Sight → List Entry
items_of s = fold (with_noted s) (fold (with_pending s) (with_records s) s.head.pending) s.buffer

-- ---- of a scan

-- what a scan looks at in a leaf
abbrev pub sight_of : Scan → Leaf → ℕ → Head → List Noted → Sight
sight_of s l client head buffer = record { leaf = l; tree = s.walk.tree; from = sought s.walk; to = s.to; client = client; head = head; buffer = buffer }

-- the pairs of the leaf in hand, and none where the cache keeps none
abbrev pub AreItemsIn : Option Leaf → Scan → ℕ → Head → List Noted → List Entry → Type 0
AreItemsIn None s client head buffer pairs = pairs ≡ []
AreItemsIn (Some l) s client head buffer pairs = AreItems (sight_of s l client head buffer) pairs
