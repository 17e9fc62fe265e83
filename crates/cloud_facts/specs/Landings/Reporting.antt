-- What a store says at the report of a tree.
use Rattle.std.specs.Prelude.{ℕ, ◌≡◌, List}
use Rattle.history.specs.Fold.{fold, of_tree}
use Rattle.history.specs.Legal.{IsLegal}
use Rattle.cloud_facts.specs.Lefts.Left.{NothingLeft}
use Rattle.cloud_facts.specs.Words.{Entry, Store, StandsAt}
use Rattle.cloud_facts.specs.Book.Records.{entries_of}

-- the order is legal for the committed entries, the value of each key is what it comes to, and where nothing is left it holds all
pub record IsReportable (st : Store) (tree : ℕ) : Type 0 where
  pub legal : IsLegal (of_tree tree st.order) (of_tree tree (entries_of st.book.log))
  pub folded : (key : List ℕ) → st.tally.value tree key ≡ fold (of_tree tree st.order) tree key
  pub complete : NothingLeft st tree → (place : ℕ) (e : Entry) → StandsAt (of_tree tree (entries_of st.book.log)) place e → (at : ℕ) × StandsAt (of_tree tree st.order) at e
