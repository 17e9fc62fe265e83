-- What a commit run knows of the cloud at each of its calls, beside its session's cache.
use Rattle.std.specs.Prelude.{ℕ, ◌≡◌, ◌≤◌, List, [], length}
use Rattle.cloud_facts.specs.Words.{CommitAnswer, Lasts, Next, Goes, Ends, Stops, Book, Store, IsIn}
use Rattle.session_facts.specs.Machines.Commits.Knows.{MayCommit, AreLeavesFor, KnowsTaken, KnowsCommit, KnowsEnd}
use Rattle.commit_run.specs.Ended.{Ended}
use Rattle.commit_run.specs.Plan.{Plan}
use Rattle.commit_run.specs.declared.hand.Hand.{Hand}
use Rattle.commit_run.specs.declared.hand.Hand.TheVariants.{Writes, First, Change}
use Rattle.commit_run.specs.Draft.{Draft}
use Rattle.commit_run.specs.Run.{Run, home_of}
use Rattle.cloud_facts.specs.Homes.Homes.{Part, Away}
use Rattle.page_cache.specs.Cache.{Cache}
use Rattle.tree_walk.specs.Walk.{Walk}
use Rattle.txn_buffer.specs.Noted.{Noted}
use Rattle.session_facts.specs.Machines.Walks.Caches.{KnowsCache}
use Rattle.session_facts.specs.Machines.Walks.Knows.{KnowsWalk}

-- ---- before the first write

-- a leaf at which a walk ended is in the leaf chain, with the low key of its version
abbrev pub IsLinked : Book → Ended → Type 0
IsLinked book e = IsIn (book.chain e.tree 0) (record { low = e.low; page = e.page })

-- the pages that are known are those of leaves for their changes, and so are the leaves at which walks ended
pub record KnowsPlan (book : Book) (changes : List Noted) (p : Plan) : Type 0 where
  pub pages : AreLeavesFor book changes p.pages
  pub ended : (e : Ended) → IsIn p.ended e → IsLinked book e

-- a home that took its number will write changes that may be committed, and wrote nothing yet; what it plans is right while its lease lasts
pub record KnowsDraft (st : Store) (now : ℕ) (d : Draft) (part : Part) : Type 0 where
  pub taken : KnowsTaken st now d.writes.home part
  pub may : MayCommit d.writes.changes
  pub some : 1 ≤ length d.writes.changes
  pub none : d.writes.ids ≡ []
  pub plan : Lasts now d.writes.home.lease → KnowsPlan st.book d.writes.changes d.plan

-- a walk in hand is on its way down the tree, whether the lease lasts or not
pub record KnowsSeeking (st : Store) (now : ℕ) (d : Draft) (w : Walk) (part : Part) : Type 0 where
  pub draft : KnowsDraft st now d part
  pub walk : KnowsWalk st w

-- ---- the whole

abbrev pub KnowsHand : Hand → Store → ℕ → Draft → Part → Type 0
KnowsHand Writes st now d part = KnowsCommit st now d.writes part
KnowsHand (First w) st now d part = KnowsSeeking st now d w part
KnowsHand (Change w) st now d part = KnowsSeeking st now d w part

pub record KnowsRun (st : Store) (now : ℕ) (m : Run × Cache) (part : Part) : Type 0 where
  pub hand : KnowsHand m.0.hand st now m.0.draft part
  pub cache : KnowsCache st m.1

-- where an answer leads
abbrev pub KnowsRunNext : Next (Run × Cache) CommitAnswer → Store → ℕ → Part → Type 0
KnowsRunNext (Goes m) st now part = KnowsRun st now m part
KnowsRunNext (Ends m a) st now part = KnowsEnd st now (home_of m.0) a part × KnowsCache st m.1
KnowsRunNext (Stops m t) st now part = (part ≡ Away) × KnowsCache st m.1
