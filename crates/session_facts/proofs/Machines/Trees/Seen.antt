-- A page that is seen among pages is one of them.
use Rattle.std.proofs.Common.{◌≡◌, ◌==◌, ℕ, zero, suc, Bool, true, false, ◌||◌, List, [], ◌∷◌, Some, refl, ap}
use Rattle.std.proofs.lemmas.Bool.{eqb-true}
use Rattle.run_cursor.specs.Covered.{is_seen}
use Rattle.cloud_facts.specs.Book.Records.{IsIn}

-- a page that is seen is in the list
pub seen_in : (pages : List ℕ) (page : ℕ) → is_seen pages page ≡ true → IsIn pages page
seen_in [] page e = absurd (cc)
seen_in (p ∷ pages) page e = on (p == page) refl (seen_in pages page) e
  where
    on : (b : Bool) → (p == page) ≡ b → (is_seen pages page ≡ true → IsIn pages page) → (b || is_seen pages page) ≡ true → IsIn (p ∷ pages) page
    on true same again f = (zero, ap (λ (x : ℕ). Some x) (eqb-true p page same))
    on false same again f = let r = again f in (suc r.0, r.1)
