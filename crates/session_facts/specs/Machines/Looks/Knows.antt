-- What a look-up beside a cache knows of a cloud, and where its turns lead.
use Rattle.std.specs.Prelude.{ℕ, ◌≤◌}
use Rattle.db_base.specs.Limits.{last_indexed}
use Rattle.attr_index.specs.Look.{Look}
use Rattle.cloud_facts.specs.Words.{Trouble, Next, Goes, Ends, Stops, Store}
use Rattle.page_cache.specs.Cache.{Cache}
use Rattle.session_facts.specs.Machines.Walks.Caches.{KnowsCache}
use Rattle.session_facts.specs.Machines.Walks.Knows.{KnowsWalk}

-- a tree that has an index, which is a tree as well
pub record IsIndexed (tree : ℕ) : Type 0 where
  pub some : 1 ≤ tree
  pub most : tree ≤ last_indexed

-- a look-up knows what its walk knows, and looks in a tree that has an index
pub record KnowsLook (st : Store) (l : Look) : Type 0 where
  pub tree : IsIndexed l.query.tree
  pub walk : KnowsWalk st l.walk

-- a look-up beside a cache
pub record KnowsLooking (st : Store) (l : Look) (c : Cache) : Type 0 where
  pub look : KnowsLook st l
  pub cache : KnowsCache st c

-- what is known where a turn leads
abbrev pub LookLeads : Store → (Trouble → Type 0) → Next (Look × Cache) (Unit {0}) → Type 0
LookLeads st May (Goes m) = KnowsLooking st m.0 m.1
LookLeads st May (Ends m done) = KnowsCache st m.1
LookLeads st May (Stops m t) = KnowsCache st m.1 × May t
