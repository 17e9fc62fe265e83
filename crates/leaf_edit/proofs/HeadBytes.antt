-- How the bytes before the lists grow.
use Rattle.std.proofs.Common.{◌≡◌, ℕ, List, [], ◌∷◌, ◌++◌, Option, ap, ◌∙◌, append_assoc, length}
use Rattle.std.specs.Int.{w8, w64, to_be_bytes}
use Rattle.leaf_edit.specs.Spelled.{fields_bytes, high_bytes}

six : (out v t r h : List ℕ) → (((((out ++ 76 ∷ []) ++ 2 ∷ []) ++ v) ++ t) ++ r) ++ h ≡ out ++ 76 ∷ 2 ∷ (v ++ (t ++ (r ++ h)))
six out v t r h = simp append_assoc

pub fields-end : (version : ℕ) (low : List ℕ) (right : ℕ) (high : Option (List ℕ)) (out a b c d e f : List ℕ)
    → a ≡ out ++ 76 ∷ [] → b ≡ a ++ 2 ∷ [] → c ≡ b ++ to_be_bytes w64 version → d ≡ c ++ (to_be_bytes w8 (length low) ++ low)
    → e ≡ d ++ to_be_bytes w64 right → f ≡ e ++ high_bytes high → f ≡ out ++ fields_bytes version low right high
fields-end version low right high out a b c d e f ha hb hc hd he hf =
    hf ∙ (ap (λ x. x ++ high_bytes high) (he ∙ ap (λ x. x ++ to_be_bytes w64 right) (hd ∙ ap (λ x. x ++ (to_be_bytes w8 (length low) ++ low)) (hc ∙ ap (λ x. x ++ to_be_bytes w64 version) (hb ∙ ap (λ x. x ++ 2 ∷ []) ha))))
    ∙ six out (to_be_bytes w64 version) (to_be_bytes w8 (length low) ++ low) (to_be_bytes w64 right) (high_bytes high))
