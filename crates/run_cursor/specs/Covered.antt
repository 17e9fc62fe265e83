-- The messages that a cursor covers.
use Rattle.std.specs.Prelude.{◌≡◌, ℕ, ◌<◌, ◌==◌, ◌++◌, Bool, false, nat_le, List, [], ◌∷◌, map, filter, if◌then◌else◌}
use Rattle.std.specs.List.{list_any}
use Rattle.db_base.specs.Cursor.{number_of}
use Rattle.log_codec.specs.declared.record.PuItem.{PuItem}

-- whether the item's number is at most its client's in the cursor
abbrev pub is_covered : List (ℕ × ℕ) → PuItem → Bool
is_covered top x = nat_le x.rec.number (number_of top x.rec.client)

-- whether a number is in a list
abbrev pub is_seen : List ℕ → ℕ → Bool
is_seen seen n = list_any (λ m. m == n) seen

-- a list with a number that it may have
abbrev pub with_id : List ℕ → ℕ → List ℕ
with_id seen n = if is_seen seen n then seen else seen ++ n ∷ []

-- no number above this one is in a list
abbrev pub NoneBeyond : List ℕ → ℕ → Type 0
NoneBeyond seen n = (m : ℕ) → n < m → is_seen seen m ≡ false

-- the numbers that were not seen, each at its first place
abbrev pub new_ones : List ℕ → List ℕ → List ℕ
new_ones seen [] = []
new_ones seen (n ∷ ns) = if is_seen seen n then new_ones seen ns else n ∷ new_ones (seen ++ n ∷ []) ns

-- the ids of the covered items, in order of receipt, each once
abbrev pub covered_ids : List (ℕ × ℕ) → List PuItem → List ℕ
covered_ids top items = new_ones [] (map (λ x. x.id) (filter (is_covered top) items))
