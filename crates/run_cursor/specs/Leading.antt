-- How far items lead on the way through them.
use Rattle.std.specs.Prelude.{◌≡◌, ◌⊎◌, ℕ, ◌+◌, ◌<◌, ◌≤◌, false, true, List}
use Rattle.db_base.specs.Cursor.{number_of, SetsNumber}
use Rattle.log_codec.specs.declared.record.PuItem.{PuItem}
use Rattle.run_cursor.specs.Run.{has_number, Raises}

-- the numbers behind the cursor and up to the top are among the items
pub record IsLed (cursor : List (ℕ × ℕ)) (items : List PuItem) (top : List (ℕ × ℕ)) : Type 0 where
  pub upward : (c : ℕ) → number_of cursor c ≤ number_of top c
  pub each : (c n : ℕ) → number_of cursor c < n → n ≤ number_of top c → has_number items c n ≡ true

-- an item is the next one of its client
abbrev pub IsNext : List (ℕ × ℕ) → PuItem → Type 0
IsNext top x = x.rec.number ≡ number_of top x.rec.client + 1

-- the top goes to the item where that is the next one
abbrev pub Follows : List (ℕ × ℕ) → List (ℕ × ℕ) → PuItem → Type 0
Follows old new x = (IsNext old x × SetsNumber old new x.rec.client x.rec.number) ⊎ (new ≡ old)

-- the top is raised at the client of the item, or the item is not the next one
abbrev pub Passes : List (ℕ × ℕ) → List (ℕ × ℕ) → List PuItem → PuItem → Type 0
Passes old new items x = Raises old new items x.rec.client ⊎ ((new ≡ old) × (IsNext old x → ⊥))

-- no number above the client's is among the kept items
abbrev pub NoneAbove : List PuItem → List (ℕ × ℕ) → Type 0
NoneAbove kept upto = (c n : ℕ) → number_of upto c < n → has_number kept c n ≡ false

-- the client of an item is raised to the item's number, and no number falls
pub record Reaches (old new : List (ℕ × ℕ)) (x : PuItem) : Type 0 where
  pub reached : x.rec.number ≤ number_of new x.rec.client
  pub upward : (c : ℕ) → number_of old c ≤ number_of new c
