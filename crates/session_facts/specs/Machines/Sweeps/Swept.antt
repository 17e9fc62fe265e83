-- What a sweep did of which all orphans are removed.
use Rattle.std.specs.Prelude.{ℕ, ◌≡◌, true, List}
use Rattle.cloud_facts.specs.Book.Records.{IsIn}
use Rattle.cloud_facts.specs.Book.Tally.{Store}
use Rattle.cloud_facts.specs.Chains.Chain.{IsUnlinked}
use Rattle.session_facts.specs.Machines.Sweeps.Knows.{IsSwept}

-- The pages that were removed are exactly the listed ones that are in no chain of the tree, and no other page is left that landed and is in no chain.
pub record WasSwept (st : Store) (tree : ℕ) (listed orphans : List ℕ) : Type 0 where
  pub only : (page : ℕ) → IsIn orphans page → IsIn listed page × IsUnlinked (st.book.chain tree) page
  pub all : (page : ℕ) → IsIn listed page → IsUnlinked (st.book.chain tree) page → IsIn orphans page
  pub gone : (page : ℕ) → IsIn orphans page → st.tally.gone tree page ≡ true
  pub none : IsSwept st tree
