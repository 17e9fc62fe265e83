-- Laws of deletions under way.
use Rattle.std.proofs.Common.{◌≡◌, ℕ, ◌<◌, ◌+◌, true, false, List, length, drop, refl, arith}
use Rattle.std.proofs.lemmas.List.{drop_more}
use Rattle.ckpt_parts.specs.Deleting.{tried_of}

-- a deletion more went, where one was left
pub tried_went : (xs : List ℕ) (d l : ℕ) → d + l < length xs
    → record { ids = drop ((d + 1) + l) xs; deleted = d + 1; left = l } ≡ tried_of (drop (d + l) xs) (record { ids = drop (d + l) xs; deleted = d; left = l }) true
tried_went xs d l h =
    let more : (d + 1) + l ≡ (d + l) + 1 = omega arith in
    rw (more, drop_more xs (d + l) 0 h) refl

-- a deletion more failed, where one was left
pub tried_failed : (xs : List ℕ) (d l : ℕ) → d + l < length xs
    → record { ids = drop (d + (l + 1)) xs; deleted = d; left = l + 1 } ≡ tried_of (drop (d + l) xs) (record { ids = drop (d + l) xs; deleted = d; left = l }) false
tried_failed xs d l h =
    let more : d + (l + 1) ≡ (d + l) + 1 = omega arith in
    rw (more, drop_more xs (d + l) 0 h) refl
