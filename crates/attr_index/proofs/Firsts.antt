-- The first bytes decide how bytes stand to others, and where they are the same those behind them do.
use Rattle.std.proofs.Common.{◌≡◌, ℕ, ◌<◌, true, false, List, [], ◌∷◌, sym, ap}
use Rattle.std.specs.Ordering.{is_lt, ordering_then}
use Rattle.std.specs.declared.cmp.Ordering.TheVariants.{Less, Equal, Greater}
use Rattle.std.specs.Cmp.{nat_cmp_is}
use Rattle.byte_format.specs.Order.{bytes_cmp, bytes_below}

pub first_below : (a b : ℕ) (xs ys : List ℕ) → a < b → bytes_below (a ∷ xs) (b ∷ ys) ≡ true
first_below a b xs ys less = ap (λ o. is_lt (ordering_then o (bytes_cmp xs ys))) (sym (nat_cmp_is a b Less less))

pub first_above : (a b : ℕ) (xs ys : List ℕ) → b < a → bytes_below (a ∷ xs) (b ∷ ys) ≡ false
first_above a b xs ys more = ap (λ o. is_lt (ordering_then o (bytes_cmp xs ys))) (sym (nat_cmp_is a b Greater more))

pub first_same : (a b : ℕ) (xs ys : List ℕ) → a ≡ b → bytes_below (a ∷ xs) (b ∷ ys) ≡ bytes_below xs ys
first_same a b xs ys same = ap (λ o. is_lt (ordering_then o (bytes_cmp xs ys))) (sym (nat_cmp_is a b Equal same))

-- none stand below no bytes
pub none_below : (xs : List ℕ) → bytes_below xs [] ≡ true → ⊥
none_below [] h = absurd (cc (h))
none_below (x ∷ xs) h = absurd (cc (h))
