-- Where the way down to the leaf of a key stands.
use Rattle.std.specs.Prelude.{ℕ, ◌≡◌, ◌<◌, List}
use Rattle.cloud_facts.specs.Meanings.Meets.{IsAt, IsPassed}
use Rattle.cloud_facts.specs.Words.{Trouble, Claim, Next, Goes, Ends, Stops, Link, Store, IsIn}
use Rattle.tree_phases.specs.declared.descent.Descent.{Descent}
use Rattle.session_facts.specs.Machines.Trees.Charts.{KnowsChart}

-- it stands at a link of its level that is not above the key, and the pages that it passed are behind it
pub record IsOnWay (chain : ℕ → List Link) (level page : ℕ) (low key : List ℕ) (visited : List ℕ) : Type 0 where
  pub at : IsAt chain level page low key
  pub behind : (p : ℕ) → IsIn visited p → IsPassed chain level low p

-- a way down, with the chart that it goes by
pub record KnowsWay (st : Store) (now : ℕ) (lease : Claim) (d : Descent) : Type 0 where
  pub chart : KnowsChart st now lease d.chart
  pub way : IsOnWay (st.book.chain d.chart.tree) d.level d.page d.low d.chart.key d.visited

-- where a way leads: to a node above the leaves that is to be got, or to a leaf. It stops for no fault of the tree: where it does, the
-- get itself was refused or failed
abbrev pub WayLeads : Store → ℕ → Claim → (Trouble → Type 0) → Next Descent (Unit {0}) → Type 0
WayLeads st now lease May (Goes d) = KnowsWay st now lease d × (0 < d.level)
WayLeads st now lease May (Ends d _) = KnowsWay st now lease d × (d.level ≡ 0)
WayLeads st now lease May (Stops d t) = May t
