-- The items of a run in order of receipt.
use Rattle.std.specs.Prelude.{◌≡◌, ℕ, ◌&&◌, Bool, not, nat_lt, nat_le, All, List, [], ◌∷◌, ◌++◌, if◌then◌else◌}
use Rattle.db_base.specs.Cursor.{number_of}
use Rattle.log_codec.specs.Order.{IsItem}
use Rattle.log_codec.specs.declared.record.PuItem.{PuItem}
use Rattle.run_cursor.specs.Run.{has_number}

-- whether the item's number is within the run and not kept yet
abbrev pub is_wanted : List (ℕ × ℕ) → List (ℕ × ℕ) → List PuItem → PuItem → Bool
is_wanted cursor top kept x =
    nat_lt (number_of cursor x.rec.client) x.rec.number && nat_le x.rec.number (number_of top x.rec.client)
    && not (has_number kept x.rec.client x.rec.number)

-- what is kept, and then the wanted ones of the items
abbrev pub chosen : List (ℕ × ℕ) → List (ℕ × ℕ) → List PuItem → List PuItem → List PuItem
chosen cursor top kept [] = kept
chosen cursor top kept (x ∷ xs) = chosen cursor top (if is_wanted cursor top kept x then kept ++ x ∷ [] else kept) xs

-- all of the items are chosen, as they are
pub record AreChosen (cursor top : List (ℕ × ℕ)) (received : List PuItem) : Type 0 where
  pub is : chosen cursor top [] received ≡ received
  pub items : All IsItem received
