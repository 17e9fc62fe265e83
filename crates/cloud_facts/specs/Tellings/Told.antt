-- What is told, name by name.
use Rattle.std.specs.Prelude.{ℕ, ◌≡◌, List}
use Rattle.cloud_trait.specs.State.{CloudState}
use Rattle.leaf_view.specs.Lookup.{number_of as done_number}
use Rattle.report_types.specs.declared.entry.Entry.{Entry}
use Rattle.cloud_facts.specs.Book.Book.{Book}
use Rattle.cloud_facts.specs.Book.Tally.{Node, Tally, Store}
use Rattle.cloud_facts.specs.Book.Telling.{tally_of, leaf_in}

-- what a cloud tells under a book, with an order
abbrev pub store_of : Book → List Entry → CloudState → Store
store_of book order s = record { tally = tally_of book s; book = book; order = order }

-- two tallies say the same at each name
pub record AreAlike (t u : Tally) : Type 0 where
  pub head : (client : ℕ) → t.head client ≡ u.head client
  pub logged : (client : ℕ) → t.logged client ≡ u.logged client
  pub posts : (tree page : ℕ) → t.posts tree page ≡ u.posts tree page
  pub cursor : (tree page client : ℕ) → t.cursor tree page client ≡ u.cursor tree page client
  pub done : (tree : ℕ) (key : List ℕ) (page client : ℕ) → t.done tree key page client ≡ u.done tree key page client
  pub value : (tree : ℕ) (key : List ℕ) → t.value tree key ≡ u.value tree key
  pub nodes : (tree page : ℕ) → t.nodes tree page ≡ u.nodes tree page
  pub gone : (tree page : ℕ) → t.gone tree page ≡ u.gone tree page
  pub roots : (tree : ℕ) → t.roots tree ≡ u.roots tree

-- a cloud tells what a store says, under the store's book
abbrev pub Tells : CloudState → Store → Type 0
Tells s st = tally_of st.book s ≡ st.tally

-- the numbers of its own queue that a page has as a leaf
abbrev pub own_of : ℕ → Node → ℕ → ℕ
own_of page node client = done_number (leaf_in node).done page client
