-- How many pieces there are, and how long they are.
use Rattle.std.proofs.Common.{◌≡◌, ℕ, zero, suc, ◌+◌, ◌-◌, ◌*◌, ◌/◌, ◌%◌, ◌≤◌, [], ◌∷◌, ◌++◌, length, refl, sym, ap, ◌∙◌, arith, append_assoc}
use Rattle.std.specs.Prelude.{replicate}
use Rattle.std.proofs.lemmas.List.{replicate_more, length-replicate}
use Rattle.std.proofs.Common.{length-append}
use Rattle.std.proofs.Math.Nat.{div-add-mod}
use Rattle.split_plan.specs.Sizes.{IsLeastCount, count_of, sizes_of, cuts_of, CanCut}

pub least-count : (len : ℕ) → IsLeastCount len (count_of len)
least-count len = record { some = omega arith; enough = omega arith; least = λ other some enough. omega arith }

-- pieces of one size
can-same : (t b len : ℕ) → (1 ≤ t → 1 ≤ b) → len ≡ t * b + b → CanCut (replicate t b) b len
can-same zero b len some is = omega arith
can-same (suc t) b len some is =
    let one : 1 ≤ b = some (omega arith) in
    (omega arith, omega arith, can-same t b (len - b) (λ _. one) (omega arith))

-- the longer ones in front of them
can-longer : (r t b len : ℕ) → (1 ≤ r + t → 1 ≤ b) → len ≡ r * (b + 1) + t * b + b → CanCut (replicate r (b + 1) ++ replicate t b) b len
can-longer zero t b len some is = can-same t b len (λ h. some (omega arith)) (omega arith)
can-longer (suc r) t b len some is =
    let one : 1 ≤ b = some (omega arith) in
    (omega arith, omega arith, can-longer r t b (len - (b + 1)) (λ _. one) (omega arith))

-- what is known of so many items in so many pieces: `longer` with one item more, `others` before the last one
pub record Divided (len count size longer others : ℕ) : Type 0 where
  pub few : longer + others + 1 ≡ count
  pub all : len ≡ longer * (size + 1) + others * size + size
  pub some : 1 ≤ longer + others → 1 ≤ size

sum-is : (q b r t len : ℕ) → q * b + r ≡ len → r + t + 1 ≡ q → len ≡ r * (b + 1) + t * b + b
sum-is q b r t len is few = let e : q * b ≡ (r + t + 1) * b = ap (λ x. x * b) (sym few) in omega arith

size-some : (q b r t len : ℕ) → q * b + r ≡ len → r + t + 1 ≡ q → q ≡ (len - 1) / 64 + 1 → 1 ≤ r + t → 1 ≤ b
size-some q zero r t len is few count some = omega arith
size-some q (suc b) r t len is few count some = omega arith

pub divided : (len : ℕ) → Divided len (count_of len) (len / count_of len) (len % count_of len) (count_of len - 1 - len % count_of len)
divided len =
    let q = count_of len in
    let few : len % q + (q - 1 - len % q) + 1 ≡ q = omega arith in
    let is : q * (len / q) + len % q ≡ len = div-add-mod len q in
    record {
      few = few;
      all = sum-is q (len / q) (len % q) (q - 1 - len % q) len is few;
      some = size-some q (len / q) (len % q) (q - 1 - len % q) len is few refl;
    }

pub can-cuts : (len : ℕ) → CanCut (cuts_of len) (len / count_of len) len
can-cuts len =
    let d = divided len in
    can-longer (len % count_of len) (count_of len - 1 - len % count_of len) (len / count_of len) len d.some d.all

-- the pieces before the last one, and the last one
pub cuts-and-last : (len : ℕ) → cuts_of len ++ (len / count_of len) ∷ [] ≡ sizes_of len
cuts-and-last len =
    let q = count_of len in
    let few : (q - 1 - len % q) + 1 ≡ q - len % q = omega arith in
    append_assoc (replicate (len % q) (len / q + 1)) (replicate (q - 1 - len % q) (len / q)) ((len / q) ∷ [])
    ∙ ap (λ xs. replicate (len % q) (len / q + 1) ++ xs) (replicate_more (q - 1 - len % q) (len / q) ∙ ap (λ n. replicate n (len / q)) few)

-- as many cuts as there are new pieces
pub length-cuts : (len : ℕ) → length (cuts_of len) + 1 ≡ count_of len
length-cuts len =
    let q = count_of len in
    let d = divided len in
    let e = length-append (replicate (len % q) (len / q + 1)) (replicate (q - 1 - len % q) (len / q)) in
    let a = length-replicate (len % q) (len / q + 1) in
    let b = length-replicate (q - 1 - len % q) (len / q) in
    let f = d.few in
    omega arith
