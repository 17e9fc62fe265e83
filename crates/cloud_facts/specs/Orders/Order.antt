-- The order in which leaves took the committed entries: what holds of it in every store.
use Rattle.std.specs.Prelude.{ℕ, ◌≡◌, ◌<◌, ◌==◌, ◌&&◌, Bool, List, ◌++◌, filter}
use Rattle.std.specs.Str.{bytes_eq}
use Rattle.db_base.specs.Change.{key_of}
use Rattle.db_base.specs.Ids.{IsClient, IsTree}
use Rattle.history.specs.Fold.{fold}
use Rattle.log_codec.specs.declared.record.AtomicRec.{AtomicRec}
use Rattle.report_types.specs.declared.entry.Entry.{Entry}
use Rattle.cloud_facts.specs.Book.Records.{IsIn, key_in, of_key, entries_of, IsApplied}
use Rattle.cloud_facts.specs.Book.Tally.{Tally, Store}

-- the client's entries of a tree and key
abbrev pub is_entry_of : ℕ → List ℕ → ℕ → Entry → Bool
is_entry_of tree key client e = ((e.client == client) && (e.tree == tree)) && bytes_eq (key_of e.change) key

abbrev pub entries_of_key : ℕ → List ℕ → ℕ → List Entry → List Entry
entries_of_key tree key client entries = filter (is_entry_of tree key client) entries

-- the leaf that holds a record's key has not applied it
abbrev pub IsLeft : Tally → AtomicRec → Type 0
IsLeft t r = t.done r.tree (key_in r) r.page r.client < r.number

-- of a client's committed records of a tree and key the first ones are applied, and the order has their entries; those behind them are not
pub record FirstApplied (st : Store) (tree : ℕ) (key : List ℕ) (client : ℕ) : Type 0 where
  pub taken : List AtomicRec
  pub left : List AtomicRec
  pub split : of_key tree key client st.book.log ≡ taken ++ left
  pub ordered : entries_of_key tree key client st.order ≡ entries_of taken
  pub applied : (r : AtomicRec) → IsIn taken r → IsApplied st.tally r
  pub unapplied : (r : AtomicRec) → IsIn left r → IsLeft st.tally r

pub record Ordered (st : Store) : Type 0 where
  pub first : (tree : ℕ) (key : List ℕ) (client : ℕ) → IsClient client → FirstApplied st tree key client
  -- the entries of the order are of clients and trees
  pub of_client : (e : Entry) → IsIn st.order e → IsClient e.client
  pub of_tree : (e : Entry) → IsIn st.order e → IsTree e.tree
  -- what the leaves have is what the order comes to
  pub value : (tree : ℕ) (key : List ℕ) → st.tally.value tree key ≡ fold st.order tree key

-- what pending entries give: what is not applied of a client, tree and key is of one queue
pub record UnappliedOfOneQueue (st : Store) : Type 0 where
  pub one : (r q : AtomicRec) → IsIn st.book.log r → IsIn st.book.log q → r.client ≡ q.client → r.tree ≡ q.tree → key_in r ≡ key_in q
      → IsLeft st.tally r → IsLeft st.tally q → r.page ≡ q.page
