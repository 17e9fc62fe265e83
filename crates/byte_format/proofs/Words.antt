-- Bytes compared us the numbers that they spell.
use Rattle.std.proofs.Common.{◌≡◌, ℕ, zero, suc, ◌+◌, ◌*◌, ◌<◌, ◌≤◌, List, [], ◌∷◌, length, take, drop, refl, sym, ap, subst, ◌∙◌, arith}
use Rattle.std.specs.Ordering.{nat_cmp, ordering_then, MatchOrdering}
use Rattle.std.specs.declared.cmp.Ordering.{Ordering}
use Rattle.std.specs.declared.cmp.Ordering.TheVariants.{Less, Equal, Greater}
use Rattle.std.specs.Cmp.{nat_cmp_is, ranks}
use Rattle.std.specs.Int.{w64, from_be_bytes}
use Rattle.byte_format.specs.Order.{bytes_cmp}
use Rattle.byte_format.specs.Whole.{IsBytes}
use Rattle.byte_format.proofs.Steps.{IsBytes-rest}

-- the number that bytes spell behind n, the most significant first
abbrev worth : ℕ → List ℕ → ℕ
worth n [] = n
worth n (b ∷ vs) = worth (n * 256 + b) vs

rises : (k n m : ℕ) (us vs : List ℕ) → k ≤ length us → k ≤ length vs → IsBytes us → n < m → worth n (take k us) < worth m (take k vs)
rises zero n m us vs p q fits lt = lt
rises (suc k) n m [] vs p q fits lt = absurd (omega arith)
rises (suc k) n m (a ∷ us) [] p q fits lt = absurd (omega arith)
rises (suc k) n m (a ∷ us) (b ∷ vs) p q fits lt =
    let small : a < 256 = fits 0 in
    rises k (n * 256 + a) (m * 256 + b) us vs (omega arith) (omega arith) (IsBytes-rest a us fits) (omega arith)

-- the front us a number decides, and else what is behind it
spells : (k n : ℕ) (us vs : List ℕ) → k ≤ length us → k ≤ length vs → IsBytes us → IsBytes vs
    → ordering_then (nat_cmp (worth n (take k us)) (worth n (take k vs))) (bytes_cmp (drop k us) (drop k vs)) ≡ bytes_cmp us vs
spells zero n us vs p q f g = ap (λ o. ordering_then o (bytes_cmp us vs)) (sym (nat_cmp_is n n Equal refl))
spells (suc k) n [] vs p q f g = absurd (omega arith)
spells (suc k) n (a ∷ us) [] p q f g = absurd (omega arith)
spells (suc k) n (a ∷ us) (b ∷ vs) p q f g =
    let behind = spells k (n * 256 + a) us vs (omega arith) (omega arith) (IsBytes-rest a us f) (IsBytes-rest b vs g) in
    on behind (nat_cmp a b) refl (ranks a b)
  where
    x : ℕ
    x = worth (n * 256 + a) (take k us)

    Goal : ℕ → Type 0
    Goal y = ordering_then (nat_cmp x y) (bytes_cmp (drop k us) (drop k vs)) ≡ ordering_then (nat_cmp a b) (bytes_cmp us vs)

    on : ordering_then (nat_cmp x (worth (n * 256 + a) (take k vs))) (bytes_cmp (drop k us) (drop k vs)) ≡ bytes_cmp us vs
        → (o : Ordering) → nat_cmp a b ≡ o → MatchOrdering o (a < b) (a ≡ b) (b < a) → Goal (worth (n * 256 + b) (take k vs))
    on behind Less is lt =
        let under : a < b = lt in
        let below = rises k (n * 256 + a) (n * 256 + b) us vs (omega arith) (omega arith) (IsBytes-rest a us f) (omega arith) in
        ap (λ o. ordering_then o (bytes_cmp (drop k us) (drop k vs))) (sym (nat_cmp_is x _ Less below)) ∙ sym (ap (λ o. ordering_then o (bytes_cmp us vs)) is)
    on behind Greater is gt =
        let over : b < a = gt in
        let above = rises k (n * 256 + b) (n * 256 + a) vs us (omega arith) (omega arith) (IsBytes-rest b vs g) (omega arith) in
        ap (λ o. ordering_then o (bytes_cmp (drop k us) (drop k vs))) (sym (nat_cmp_is x _ Greater above)) ∙ sym (ap (λ o. ordering_then o (bytes_cmp us vs)) is)
    on behind Equal is same =
        let level : a ≡ b = same in
        subst (λ c. ordering_then (nat_cmp x (worth (n * 256 + c) (take k vs))) (bytes_cmp (drop k us) (drop k vs)) ≡ bytes_cmp us vs) level behind
        ∙ sym (ap (λ o. ordering_then o (bytes_cmp us vs)) is)

eight_are : (us : List ℕ) → 8 ≤ length us → worth 0 (take 8 us) ≡ from_be_bytes w64 (take 8 us)
eight_are [] p = absurd (omega arith)
eight_are (a ∷ []) p = absurd (omega arith)
eight_are (a ∷ b ∷ []) p = absurd (omega arith)
eight_are (a ∷ b ∷ c ∷ []) p = absurd (omega arith)
eight_are (a ∷ b ∷ c ∷ d ∷ []) p = absurd (omega arith)
eight_are (a ∷ b ∷ c ∷ d ∷ e ∷ []) p = absurd (omega arith)
eight_are (a ∷ b ∷ c ∷ d ∷ e ∷ f ∷ []) p = absurd (omega arith)
eight_are (a ∷ b ∷ c ∷ d ∷ e ∷ f ∷ g ∷ []) p = absurd (omega arith)
eight_are (a ∷ b ∷ c ∷ d ∷ e ∷ f ∷ g ∷ h ∷ us) p = omega arith

along : (x y x' y' : ℕ) (o r : Ordering) → x' ≡ x → y' ≡ y → ordering_then (nat_cmp x' y') o ≡ r → ordering_then (nat_cmp x y) o ≡ r
along x y x' y' o r a b h = subst (λ z. ordering_then (nat_cmp x z) o ≡ r) b (subst (λ z. ordering_then (nat_cmp z y') o ≡ r) a h)

pub by_word : (us vs : List ℕ) (x y : ℕ) → 8 ≤ length us → 8 ≤ length vs → IsBytes us → IsBytes vs → x ≡ from_be_bytes w64 (take 8 us) → y ≡ from_be_bytes w64 (take 8 vs)
    → ordering_then (nat_cmp x y) (bytes_cmp (drop 8 us) (drop 8 vs)) ≡ bytes_cmp us vs
by_word us vs x y p q f g a b = along x y _ _ _ _ (eight_are us p ∙ sym a) (eight_are vs q ∙ sym b) (spells 8 0 us vs p q f g)

-- two numbers that differ decide, and two that are alike do not
pub decides : (x y : ℕ) (o : Ordering) → (x ≡ y → ⊥) → ordering_then (nat_cmp x y) o ≡ nat_cmp x y
decides x y o apart = on (nat_cmp x y) (ranks x y)
  where
    on : (r : Ordering) → MatchOrdering r (x < y) (x ≡ y) (y < x) → ordering_then r o ≡ r
    on Less h = refl
    on Equal h = absurd (apart h)
    on Greater h = refl

pub passes : (x y : ℕ) (o : Ordering) → x ≡ y → ordering_then (nat_cmp x y) o ≡ o
passes x y o alike = ap (λ r. ordering_then r o) (sym (nat_cmp_is x y Equal alike))
