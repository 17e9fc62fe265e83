-- What a scan beside a cache knows of a cloud, and where its turns lead.
use Rattle.std.specs.Prelude.{ℕ, ◌≡◌, ◌⊎◌, ◌||◌, true, List, [], Option, Some, None}
use Rattle.cloud_facts.specs.Meanings.Meets.{IsPassed}
use Rattle.cloud_facts.specs.Words.{Trouble, Leaf, Next, Goes, Ends, Stops, Link, Store, IsIn}
use Rattle.db_base.specs.declared.names.ObjName.TheVariants as object
use Rattle.page_cache.specs.Cache.{Cache}
use Rattle.page_cache.specs.Held.{leaf_at}
use Rattle.range_scan.specs.Scan.{Scan, scan_object, scan_came_to}
use Rattle.tree_walk.specs.Walk.{Spot, is_among, came_to}
use Rattle.session_facts.specs.Machines.Walks.Caches.{KnowsCache, IsSeenLeaf}
use Rattle.session_facts.specs.Machines.Walks.Knows.{KnowsWalk}

-- ---- pages to the right

-- the page is that of a link of the leaf chain, with the low key that led to it
abbrev pub IsLeafLink : (ℕ → List Link) → Spot → Type 0
IsLeafLink chain p = IsIn (chain 0) (record { low = p.low; page = p.page })

-- a page is further left than a page of the leaf chain, or above it
abbrev pub IsPageBehind : (ℕ → List Link) → Spot → ℕ → Type 0
IsPageBehind chain p page = IsPassed chain 0 p.low page

-- the right page in hand is a link, and each page that the scan got before is behind it
pub record IsOnRight (chain : ℕ → List Link) (s : Scan) (p : Spot) : Type 0 where
  pub linked : IsLeafLink chain p
  -- once the scan ended at it, the page in hand itself is one that was got
  pub behind : (page : ℕ) → (came_to s.walk page || is_among s.passed page) ≡ true → IsPageBehind chain p page ⊎ (p.page ≡ page)

-- while the walk is in hand no right page was got
abbrev pub StandsRight : (ℕ → List Link) → Scan → Option Spot → Type 0
StandsRight chain s None = s.passed ≡ []
StandsRight chain s (Some p) = IsOnRight chain s p

-- the page to the right of the newest leaf is a link, and all that the scan came to is behind it
pub record IsFurther (chain : ℕ → List Link) (s : Scan) (p : Spot) : Type 0 where
  pub linked : IsLeafLink chain p
  pub behind : (page : ℕ) → scan_came_to s page ≡ true → IsPageBehind chain p page

-- where there is one
abbrev pub LeadsRight : (ℕ → List Link) → Scan → Option Spot → Type 0
LeadsRight chain s None = Unit {0}
LeadsRight chain s (Some p) = IsFurther chain s p

-- ---- the whole

-- a scan knows what its walk knows, and where its right page stands
pub record KnowsScan (st : Store) (s : Scan) : Type 0 where
  pub walk : KnowsWalk st s.walk
  pub right : StandsRight (st.book.chain s.walk.tree) s s.spot

-- a scan beside a cache
pub record KnowsScanning (st : Store) (s : Scan) (c : Cache) : Type 0 where
  pub scan : KnowsScan st s
  pub cache : KnowsCache st c

-- the scan is at a leaf of the leaf chain, and the cache keeps it as it landed; it leads on to the right
pub record IsAtScannedLeaf (st : Store) (s : Scan) (c : Cache) (page : ℕ) : Type 0 where
  pub leaf : Leaf
  pub in_hand : scan_object s ≡ object.Page s.walk.tree page
  pub kept : leaf_at c (object.Page s.walk.tree page) ≡ Some leaf
  pub linked : IsIn (st.book.chain s.walk.tree 0) (record { low = leaf.low; page = page })
  pub seen : IsSeenLeaf (st.tally.nodes s.walk.tree page) page leaf
  pub next : LeadsRight (st.book.chain s.walk.tree) s s.next

-- what is known where a turn leads
abbrev pub ScanLeads : Store → (Trouble → Type 0) → Next (Scan × Cache) ℕ → Type 0
ScanLeads st May (Goes m) = KnowsScanning st m.0 m.1
ScanLeads st May (Ends m page) = KnowsScanning st m.0 m.1 × IsAtScannedLeaf st m.0 m.1 page
ScanLeads st May (Stops m t) = KnowsCache st m.1 × May t
