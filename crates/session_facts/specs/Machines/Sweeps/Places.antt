-- Where the reading of a tree's levels stands, from the left end of the highest level to the right end of the leaves.
use Rattle.std.specs.Prelude.{ℕ, ◌≡◌, ◌<◌, ◌≤◌, ◌-◌, ◌⊎◌, List, Option, Some, None}
use Rattle.cloud_facts.specs.Book.Book.{Link}
use Rattle.cloud_facts.specs.Book.Records.{StandsAt, IsIn}
use Rattle.orphan_sweep.specs.declared.spot.Spot.{Spot}

-- ---- the order of places

-- a place of a level is not behind another: it is of a level above, or of the same level and not further right
abbrev pub IsUptoPlace : ℕ → ℕ → ℕ → ℕ → Type 0
IsUptoPlace level place height at = (level < height) ⊎ ((height ≡ level) × (at ≤ place))

-- a page is that of a link at such a place
pub record WasCome (chain : ℕ → List Link) (level place page : ℕ) : Type 0 where
  pub height : ℕ
  pub at : ℕ
  pub link : Link
  pub linked : StandsAt (chain height) at link
  pub page_is : link.page ≡ page
  pub upto : IsUptoPlace level place height at

-- the pages of the links up to a place, and no others, are these
pub record AreUpto (chain : ℕ → List Link) (level place : ℕ) (visited : List ℕ) : Type 0 where
  pub pages : (height at : ℕ) (link : Link) → StandsAt (chain height) at link → IsUptoPlace level place height at → IsIn visited link.page
  pub only : (page : ℕ) → IsIn visited page → WasCome chain level place page

-- ---- a page at hand

-- behind the leftmost page of a level above the leaves, the page of the first link of the level below is known
abbrev pub IsLeftmostBelow : (ℕ → List Link) → ℕ → ℕ → Option ℕ → Type 0
IsLeftmostBelow chain level place None = (level ≡ 0) ⊎ (place ≡ 0)
IsLeftmostBelow chain level place (Some page) = (0 < level) × (0 < place) × ((link : Link) × StandsAt (chain (level - 1)) 0 link × (link.page ≡ page))

-- the page at hand is that of a link, with the link's low key, and just the pages up to it were come to
pub record IsReading (chain : ℕ → List Link) (spot : Spot) (visited : List ℕ) : Type 0 where
  pub place : ℕ
  pub linked : StandsAt (chain spot.level) place (record { low = spot.low; page = spot.page })
  pub come : AreUpto chain spot.level place visited
  pub below : IsLeftmostBelow chain spot.level place spot.below

-- ---- all of them

-- a page is that of a link
pub record IsOfLink (chain : ℕ → List Link) (page : ℕ) : Type 0 where
  pub level : ℕ
  pub link : Link
  pub linked : IsIn (chain level) link
  pub page_is : link.page ≡ page

-- the pages of all links, and no others, are these
pub record AreAll (chain : ℕ → List Link) (visited : List ℕ) : Type 0 where
  pub pages : (level : ℕ) (link : Link) → IsIn (chain level) link → IsIn visited link.page
  pub only : (page : ℕ) → IsIn visited page → IsOfLink chain page
