-- The loop that lists the ids of the covered items.
use Rattle.std.proofs.Common.{◌≡◌, ◌≤◌, ℕ, Bool, true, false, List, [], ◌∷◌, ◌++◌, refl, ap, ◌∙◌, arith}
use Rattle.std.specs.Prelude.{◌==◌, ◌||◌, map, filter}
use Rattle.std.proofs.lemmas.Bool.{eqb-true}
use Rattle.std.proofs.lemmas.List.Folds.{list_any-append}
use Rattle.log_codec.specs.declared.record.PuItem.{PuItem}
use Rattle.run_cursor.specs.Covered.{is_covered, is_seen, new_ones, NoneBeyond}

-- the ids that are noted, and those that the items left bring
abbrev pub noted : List (ℕ × ℕ) → List ℕ → List PuItem → List ℕ
noted top ids left = ids ++ new_ones ids (map (λ x. x.id) (filter (is_covered top) left))

-- none is above the greatest of them and a new one
pub beyond-push : (seen new : List ℕ) (n k id : ℕ) → NoneBeyond seen n → n ≤ k → id ≤ k → new ≡ seen ++ id ∷ [] → NoneBeyond new k
beyond-push seen new n k id none up at is m above =
    ap (λ (l : List ℕ). is_seen l m) is ∙ (list_any-append (λ q. q == m) seen (id ∷ []) ∙ on (is_seen seen m) (id == m) refl (none m (omega (arith, up, above))))
  where
    on : (a b : Bool) → (id == m) ≡ b → a ≡ false → (a || (b || false)) ≡ false
    on true b e f = absurd cc
    on false false e f = refl
    on false true e f = absurd (omega (arith, at, above, eqb-true id m e))
