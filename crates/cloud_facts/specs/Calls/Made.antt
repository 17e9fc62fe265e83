-- How far so many puts and sends bring a store.
use Rattle.std.specs.Prelude.{ℕ, ◌+◌, ◌*◌, ◌≤◌, length}
use Rattle.db_base.specs.Limits.{most_changes}
use Rattle.node_codec.specs.Tree.{Tree}
use Rattle.cloud_facts.specs.Book.Records.{IsIn}
use Rattle.cloud_facts.specs.Book.Tally.{Store}

-- a head commits at most 200 records, and a put of a tree object reserves at most four pages for each put and send before it, and one more
pub record IsMadeBy (n : ℕ) (st : Store) : Type 0 where
  pub log : length st.book.log ≤ most_changes * n
  pub next : (tree : ℕ) (root : Tree) → IsIn (st.tally.roots tree) root → root.next ≤ 2 + 4 * (n * n)
