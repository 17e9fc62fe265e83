-- What has a spelling as a leaf, as facts that are independent of each other.
use Rattle.std.specs.Prelude.{◌≡◌, ℕ, ◌≤◌, Bool, not, ◌&&◌, ◌||◌, IsTrue, List, [], ◌∷◌, length, Option, Some, None, IfSome, nat_lt, ◌==◌, ◌⊎◌}
use Rattle.std.specs.List.{AllByRecursion}
use Rattle.db_base.specs.Key.{IsKey, IsPayload, IsAttr}
use Rattle.db_base.specs.Ids.{IsClient}
use Rattle.db_base.specs.Limits.{longest_key}
use Rattle.byte_format.specs.Format.{greatest}
use Rattle.byte_format.specs.Order.{bytes_below, below_bound}
use Rattle.leaf_view.specs.declared.done.Done.{Done}
use Rattle.leaf_view.specs.Leaf.{Entry, Leaf}

-- each item stands behind the one before it, the first behind `before`
abbrev pub Behind : {A : Type 0} → (A → A → Bool) → Option A → A → Type 0
Behind below None x = Unit {0}
Behind below (Some b) x = IsTrue (below b x)

abbrev pub Ascend : {A : Type 0} → (A → A → Bool) → Option A → List A → Type 0
Ascend below before [] = Unit {0}
Ascend below before (x ∷ xs) = Behind below before x × Ascend below (Some x) xs

-- by queue, then by client
abbrev pub done_below : Done → Done → Bool
done_below b d = nat_lt b.queue d.queue || ((b.queue == d.queue) && nat_lt b.client d.client)

abbrev pub entry_below : Entry → Entry → Bool
entry_below b e = bytes_below b.key e.key

pub record IsDone (d : Done) : Type 0 where
  pub queue : d.queue ≤ greatest
  pub client : IsClient d.client
  pub some : 1 ≤ d.number
  pub most : d.number ≤ greatest

-- a record whose key is from low on and below the bound
pub record IsEntryIn (low : List ℕ) (high : Option (List ℕ)) (e : Entry) : Type 0 where
  pub key : IsKey e.key
  pub payload : IsPayload e.value.payload
  pub attr : IfSome e.value.attr IsAttr
  pub from_low : IsTrue (not (bytes_below e.key low))
  pub to_high : IsTrue (below_bound e.key high)

-- there is a high key exactly where there is a right page, and it is above the low key
abbrev pub IsHigh : List ℕ → ℕ → Option (List ℕ) → Type 0
IsHigh low right None = IsTrue (right == 0)
IsHigh low right (Some high) = IsTrue (not (right == 0)) × IsKey high × IsTrue (bytes_below low high)

-- no record has an attribute
abbrev pub AreBare : List Entry → Type 0
AreBare es = AllByRecursion (λ e. e.value.attr ≡ None) es

-- format 2, or format 1, which has no attributes
abbrev pub IsFormat : ℕ → List Entry → Type 0
IsFormat format records = (format ≡ 2) ⊎ ((format ≡ 1) × AreBare records)

-- all of a leaf but its version, which is 0 in the page that was never put
pub record IsWellFormed (l : Leaf) : Type 0 where
  pub format : IsFormat l.format l.records
  pub low : length l.low ≤ longest_key
  pub right : l.right ≤ greatest
  pub high : IsHigh l.low l.right l.high
  pub done : AllByRecursion IsDone l.done
  pub done_ascends : Ascend done_below None l.done
  pub records : AllByRecursion (IsEntryIn l.low l.high) l.records
  pub records_ascend : Ascend entry_below None l.records

-- a version that was put
pub record IsVersion (n : ℕ) : Type 0 where
  pub some : 1 ≤ n
  pub most : n ≤ greatest
