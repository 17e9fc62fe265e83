-- One append after another.
use Rattle.std.proofs.Common.{◌≡◌, ℕ, ◌<◌, List, [], ◌∷◌, ◌++◌, ap, ◌∙◌, append_assoc, arith}
use Rattle.std.specs.Int.{w8, to_be_bytes}

-- a number below 256 is its own byte
pub to_be_bytes-byte : (n : ℕ) → n < 256 → to_be_bytes w8 n ≡ n ∷ []
to_be_bytes-byte n small = grind arith

-- a further append goes behind what was appended
pub append_more : (old mid new front back : List ℕ) → mid ≡ old ++ front → new ≡ mid ++ back → new ≡ old ++ (front ++ back)
append_more old mid new front back first second = second ∙ ap (λ (xs : List ℕ). xs ++ back) first ∙ append_assoc old front back

pub append_three : (old o1 o2 new a b c : List ℕ) → o1 ≡ old ++ a → o2 ≡ o1 ++ b → new ≡ o2 ++ c → new ≡ old ++ (a ++ (b ++ c))
append_three old o1 o2 new a b c h1 h2 h3 = append_more old o1 new a (b ++ c) h1 (append_more o1 o2 new b c h2 h3)

pub append_four : (old o1 o2 o3 new a b c d : List ℕ) → o1 ≡ old ++ a → o2 ≡ o1 ++ b → o3 ≡ o2 ++ c → new ≡ o3 ++ d → new ≡ old ++ (a ++ (b ++ (c ++ d)))
append_four old o1 o2 o3 new a b c d h1 h2 h3 h4 = append_more old o1 new a (b ++ (c ++ d)) h1 (append_three o1 o2 o3 new b c d h2 h3 h4)

pub append_five : (old o1 o2 o3 o4 new a b c d e : List ℕ) → o1 ≡ old ++ a → o2 ≡ o1 ++ b → o3 ≡ o2 ++ c → o4 ≡ o3 ++ d → new ≡ o4 ++ e → new ≡ old ++ (a ++ (b ++ (c ++ (d ++ e))))
append_five old o1 o2 o3 o4 new a b c d e h1 h2 h3 h4 h5 = append_more old o1 new a (b ++ (c ++ (d ++ e))) h1 (append_four o1 o2 o3 o4 new b c d e h2 h3 h4 h5)
