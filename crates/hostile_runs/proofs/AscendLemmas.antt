-- Lists that ascend.
use Rattle.std.proofs.Common.{◌<◌, ◌≤◌, ℕ, List, [], ◌∷◌, ◌++◌, arith}
use Rattle.cloud_trait.specs.Listing.{AscendAbove}

-- before a number there may come another one
pub ascend_behind : (low : ℕ) (ns : List ℕ) (n m k : ℕ) → AscendAbove low (ns ++ n ∷ []) → n ≤ m → m < k → AscendAbove low ((ns ++ m ∷ []) ++ k ∷ [])
ascend_behind low [] n m k h from below = (omega (arith, h.0, from), (below, tt))
ascend_behind low (x ∷ ns) n m k h from below = (h.0, ascend_behind x ns n m k h.1 from below)

pub ascend_front : (low : ℕ) (ns : List ℕ) (n : ℕ) → AscendAbove low (ns ++ n ∷ []) → AscendAbove low ns
ascend_front low [] n h = tt
ascend_front low (x ∷ ns) n h = (h.0, ascend_front x ns n h.1)
