-- How many calls a scan makes: one more at most than the pages that it comes to, each of them once.
use Rattle.std.specs.Prelude.{ℕ, ◌≡◌, ◌+◌, ◌≤◌, ◌||◌, true, false, length, Some}
use Rattle.tree_walk.specs.Walk.{Spot, is_among, came_to, pages, spots}
use Rattle.tree_walk.specs.Within.{AreOnce, IsOnce}
use Rattle.range_scan.specs.Scan.{Scan}

-- how many pages it has come to: those of its walk, the right pages that it got, and the one in hand
abbrev pub scan_pages : Scan → ℕ
scan_pages s = pages s.walk + (length s.passed + spots s.spot)

-- it has come to each of its pages once
pub record IsScannedOnce (s : Scan) : Type 0 where
  pub walk : IsOnce s.walk
  pub passed : AreOnce s.passed
  pub apart : (page : ℕ) → is_among s.passed page ≡ true → came_to s.walk page ≡ false
  pub in_hand : (spot : Spot) → s.spot ≡ Some spot → (came_to s.walk spot.page || is_among s.passed spot.page) ≡ false

-- these calls are one more at most than the pages that the scan has come to, each once
pub record ScansWithin (calls : ℕ) (s : Scan) : Type 0 where
  pub once : IsScannedOnce s
  pub bound : calls ≤ 1 + scan_pages s
