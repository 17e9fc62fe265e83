-- Sums of calls.
use Rattle.std.proofs.Common.{◌≡◌, ◌+◌, ◌*◌, ◌≤◌, ℕ, zero, suc, List, [], ◌∷◌, ◌++◌, refl, sym, ap, ◌∙◌, arith, add-mul, mul-add}
use Rattle.std.proofs.Math.Nat.{zero-mul}
use Rattle.session_facts.specs.Settling.Bound.{sum_upto, sum_over, queue_calls}

-- sums of the same numbers are the same
pub sum_same : (f g : ℕ → ℕ) (n : ℕ) → ((k : ℕ) → 1 ≤ k → k ≤ n → f k ≡ g k) → sum_upto f n ≡ sum_upto g n
unfolding sum_upto
sum_same f g zero same = refl
sum_same f g (suc n) same =
    let one : f (suc n) ≡ g (suc n) = same (suc n) (omega arith) (omega arith) in
    let rest : sum_upto f n ≡ sum_upto g n = sum_same f g n (λ k some most. same k some (omega (arith, most))) in
    omega (arith, one, rest)

pub sum_next : (f : ℕ → ℕ) (n : ℕ) → sum_upto f (suc n) ≡ sum_upto f n + f (suc n)
unfolding sum_upto
sum_next f n = refl

-- eight more for each
pub sum_eights : (f : ℕ → ℕ) (n : ℕ) → sum_upto (λ k. 8 + f k) n ≡ n * 8 + sum_upto f n
unfolding sum_upto
sum_eights f zero = refl
sum_eights f (suc n) = let rest = sum_eights f n in omega (arith, rest)

pub sum_over_more : (f : ℕ → ℕ) (pages : List ℕ) (page : ℕ) → sum_over f (pages ++ page ∷ []) ≡ sum_over f pages + f page
sum_over_more f [] page = omega arith
sum_over_more f (p ∷ pages) page = let rest = sum_over_more f pages page in omega (arith, rest)

times_more : (d k : ℕ) → d * (k + 16) ≡ d * k + 16 * d
times_more d k = mul-add d k 16 ∙ ap (λ (n : ℕ). d * k + n) (omega arith)

-- a checkpoint that received some messages made no more calls than these needed
pub some_received : (run received left waited pages : ℕ) → run ≤ 16 + received * (8 * pages + 16) → 1 ≤ received → left + received ≡ waited
    → run + queue_calls left pages ≤ queue_calls waited pages
some_received run received left waited pages few some sum =
    let k : 8 * pages + 32 ≡ 8 * pages + 16 + 16 = omega arith in
    let each : received * (8 * pages + 32) ≡ received * (8 * pages + 16) + 16 * received = ap (λ (n : ℕ). received * n) k ∙ times_more received (8 * pages + 16) in
    let both : waited * (8 * pages + 32) ≡ left * (8 * pages + 32) + received * (8 * pages + 32) = ap (λ (n : ℕ). n * (8 * pages + 32)) (sym sum) ∙ add-mul left received (8 * pages + 32) in
    close run (received * (8 * pages + 16)) received (left * (8 * pages + 32)) (waited * (8 * pages + 32)) (received * (8 * pages + 32)) few some each both
  where
    close : (run a d l w e : ℕ) → run ≤ 16 + a → 1 ≤ d → e ≡ a + 16 * d → w ≡ l + e → run + (16 + l) ≤ 16 + w
    close run a d l w e few some each both = omega (arith, few, some, each, both)

-- one that received none made no more than sixteen
pub none_received : (run received waited pages : ℕ) → run ≤ 16 + received * (8 * pages + 16) → received ≡ 0 → run ≤ queue_calls waited pages
none_received run received waited pages few none =
    let zero_is : received * (8 * pages + 16) ≡ 0 = ap (λ (n : ℕ). n * (8 * pages + 16)) none ∙ zero-mul (8 * pages + 16) in
    close run (received * (8 * pages + 16)) (waited * (8 * pages + 32)) few zero_is
  where
    close : (run a w : ℕ) → run ≤ 16 + a → a ≡ 0 → run ≤ 16 + w
    close run a w few e = omega (arith, few, e)
