-- What a walk for a key meets at a version of a page that it got, however old.
use Rattle.std.specs.Prelude.{ℕ, suc, ◌≡◌, ◌<◌, ◌⊎◌, true, false, List, Some}
use Rattle.byte_format.specs.Order.{bytes_below}
use Rattle.node_codec.specs.Node.{Entry, child_of}
use Rattle.cloud_facts.specs.Words.{Link, Node, IsIn}
use Rattle.cloud_facts.specs.Book.Tally.{right_of, high_of}
use Rattle.cloud_facts.specs.Chains.Links.{link_of}

-- the low key of a link is not above the key
abbrev pub IsFrom : Link → List ℕ → Type 0
IsFrom link key = bytes_below key link.low ≡ false

-- the right page of a version is that of a link of the level, further right, whose low key is the version's high key and not above the key
pub record MeetsRight (links : List Link) (link : Link) (key : List ℕ) (node : Node) : Type 0 where
  pub next : Link
  pub linked : IsIn links next
  pub page_is : next.page ≡ right_of node
  pub high_is : high_of node ≡ Some next.low
  pub beyond : bytes_below link.low next.low ≡ true
  pub from : IsFrom next key

-- there is an entry for the key, and it names a link of the level below, with its low key, which is not above the key
pub record MeetsBelow (chain : ℕ → List Link) (level : ℕ) (key : List ℕ) (entries : List Entry) : Type 0 where
  pub below : ℕ
  pub level_is : level ≡ suc below
  pub entry : Entry
  pub found : child_of key entries ≡ Some entry
  pub linked : IsIn (chain below) (link_of entry)
  pub from : IsFrom (link_of entry) key

-- ---- the walk

-- a walk for a key is at a page of a level, with the low key that led there: they are a link of the level, which is not above the key
pub record IsAt (chain : ℕ → List Link) (level page : ℕ) (low key : List ℕ) : Type 0 where
  pub linked : IsIn (chain level) (record { low = low; page = page })
  pub from : bytes_below key low ≡ false

-- a page is behind a walk that is at a low key of a level: it is of a level above, or of this one and further left
pub record IsPassed (chain : ℕ → List Link) (level : ℕ) (low : List ℕ) (page : ℕ) : Type 0 where
  pub height : ℕ
  pub link : Link
  pub linked : IsIn (chain height) link
  pub page_is : link.page ≡ page
  pub behind : (level < height) ⊎ ((height ≡ level) × (bytes_below link.low low ≡ true))
