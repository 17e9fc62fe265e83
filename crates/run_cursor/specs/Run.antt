-- The run of a queue: the records that may be applied next, and how far they lead.
use Rattle.std.specs.Prelude.{ℕ, ◌≡◌, ◌≢◌, ◌+◌, ◌<◌, ◌≤◌, ◌==◌, ◌&&◌, Bool, false, List, Option, Some, find, All, IsSorted, true, count_by}
use Rattle.std.specs.List.{list_any}
use Rattle.db_base.specs.Cursor.{number_of}
use Rattle.log_codec.specs.declared.record.PuItem.{PuItem}
use Rattle.log_codec.specs.Order.{item_cmp}

-- whether an item is the client's record of this number
abbrev pub is_at : ℕ → ℕ → PuItem → Bool
is_at client number x = (x.rec.client == client) && (x.rec.number == number)

-- the first received of the client's records of this number
abbrev pub first_at : List PuItem → ℕ → ℕ → Option PuItem
first_at items client number = find (is_at client number) items

-- whether the client has a record of this number among the items
abbrev pub has_number : List PuItem → ℕ → ℕ → Bool
has_number items client number = list_any (is_at client number) items

-- the numbers behind `from` up to `last` are all among the client's, and the next one is not
pub record IsTop (from : ℕ) (items : List PuItem) (client last : ℕ) : Type 0 where
  pub upward : from ≤ last
  pub each : (n : ℕ) → from < n → n ≤ last → has_number items client n ≡ true
  pub stops : has_number items client (last + 1) ≡ false

-- a number behind the cursor and not behind the top
pub record IsWithin (cursor top : List (ℕ × ℕ)) (client number : ℕ) : Type 0 where
  pub above : number_of cursor client < number
  pub upto : number ≤ number_of top client

-- a run as a value: its items in the order in which they are applied, and the cursor behind it
pub record Taken : Type 0 where
  pub items : List PuItem
  pub top : List (ℕ × ℕ)

-- For each client the longest list of numbers behind the cursor that is among the items, each number once.
pub record IsRun (cursor : List (ℕ × ℕ)) (received : List PuItem) (run : List PuItem) (top : List (ℕ × ℕ)) : Type 0 where
  -- how far the numbers of each client lead
  pub tops : (client : ℕ) → IsTop (number_of cursor client) received client (number_of top client)
  -- an item of the run is the first received of its client and number
  pub first : All (λ x. first_at received x.rec.client x.rec.number ≡ Some x) run
  -- no item of the run is at or below the cursor, or above the top
  pub within : All (λ x. IsWithin cursor top x.rec.client x.rec.number) run
  -- every number behind the cursor and up to the top has one item
  pub once : (client number : ℕ) → IsWithin cursor top client number → count_by (is_at client number) run ≡ 1
  -- by key, then client, then number
  pub sorted : IsSorted item_cmp run

-- the client's number is raised as far as the items lead, and those of the others stay
pub record Raises (old new : List (ℕ × ℕ)) (items : List PuItem) (client : ℕ) : Type 0 where
  pub raised : IsTop (number_of old client) items client (number_of new client)
  pub others : (q : ℕ) → q ≢ client → number_of new q ≡ number_of old q
