-- Keys of at most so many bytes have their places in the order of all of them: each is below the number of places, and a key above another one is
-- at a higher place.
use Rattle.std.proofs.Common.{◌≡◌, ℕ, zero, suc, ◌+◌, ◌-◌, ◌*◌, ◌^◌, ◌<◌, ◌≤◌, min, true, List, [], ◌∷◌, length, ◌⊎◌, inl, inr, sym, subst, ◌∙◌, arith, mul-le-mul_right}
use Rattle.std.proofs.Math.Nat.{pow-suc}
use Rattle.std.proofs.lemmas.Bool.{cases_order}
use Rattle.byte_format.specs.Order.{bytes_below}
use Rattle.byte_format.specs.Whole.{IsBytes}
use Rattle.byte_format.proofs.Steps.{IsBytes-rest}
use Rattle.attr_index.specs.End.{rank}
use Rattle.attr_index.proofs.Firsts.{first_above, first_same, none_below}

-- ---- a digit before others, in a base whose power behind it is n

digit_most : (d r n : ℕ) → d ≤ 255 → r < n → (d + 1) * n + r < n * 257
digit_most d r n small less =
    let most : (d + 1) * n ≤ 256 * n = mul-le-mul_right n (omega (arith, small)) in
    omega (arith, most, less)

digit_higher : (d e r s n : ℕ) → d < e → r < n → (d + 1) * n + r < (e + 1) * n + s
digit_higher d e r s n higher less =
    let most : (d + 1) * n ≤ e * n = mul-le-mul_right n (omega (arith, higher)) in
    omega (arith, most, less)

digit_some : (d s n : ℕ) → 0 < n → 0 < (d + 1) * n + s
digit_some d s n some = omega (arith, some)

powers : (n : ℕ) → 0 < 257 ^ n
powers zero = omega arith
powers (suc n) = omega (arith, powers n, pow-suc 257 n)

-- ---- places

-- there are so many places
pub rank_most : (n : ℕ) (key : List ℕ) → rank n key < 257 ^ n
rank_most zero key = omega arith
rank_most (suc n) [] = powers (suc n)
rank_most (suc n) (b ∷ bs) = omega (arith, pow-suc 257 n, digit_most (min b 255) (rank n bs) (257 ^ n) (omega arith) (rank_most n bs))

-- a key of at most so many bytes is at a higher place than those below it
pub rank_rises : (n : ℕ) (key high : List ℕ) → length high ≤ n → IsBytes high → bytes_below key high ≡ true → rank n key < rank n high
rank_rises zero key [] short fits below = absurd (none_below key below)
rank_rises zero key (b ∷ bs) short fits below = absurd (omega (arith, short))
rank_rises (suc n) key [] short fits below = absurd (none_below key below)
rank_rises (suc n) [] (b ∷ bs) short fits below = digit_some (min b 255) (rank n bs) (257 ^ n) (powers n)
rank_rises (suc n) (a ∷ xs) (b ∷ bs) short fits below =
    at (cases_order a b) (rank_rises n xs bs (omega (arith, short)) (IsBytes-rest b bs fits))
  where
    small : b < 256
    small = fits 0

    at : (a ≡ b) ⊎ ((a < b) ⊎ (b < a)) → (bytes_below xs bs ≡ true → rank n xs < rank n bs)
        → (min a 255 + 1) * 257 ^ n + rank n xs < (min b 255 + 1) * 257 ^ n + rank n bs
    at (inl same) more =
        let behind : rank n xs < rank n bs = more (sym (first_same a b xs bs same) ∙ below) in
        subst (λ (c : ℕ). (min a 255 + 1) * 257 ^ n + rank n xs < (min c 255 + 1) * 257 ^ n + rank n bs) same (omega (arith, behind))
    at (inr (inl less)) more = digit_higher (min a 255) (min b 255) (rank n xs) (rank n bs) (257 ^ n) (omega (arith, less, small)) (rank_most n xs)
    at (inr (inr above)) more = absurd (cc (below, first_above a b xs bs above))

-- so fewer keys are above it
pub fewer_above : (n : ℕ) (key high : List ℕ) → length high ≤ n → IsBytes high → bytes_below key high ≡ true
    → 257 ^ n - rank n high < 257 ^ n - rank n key
fewer_above n key high short fits below = omega (arith, rank_rises n key high short fits below, rank_most n high)
