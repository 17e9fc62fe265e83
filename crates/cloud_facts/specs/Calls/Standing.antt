-- What holds of a cloud under a book, and what a call must put so that its effect is told after it.
use Rattle.std.specs.Prelude.{ℕ, ◌≡◌, ◌+◌, List, length}
use Rattle.cloud_trait.specs.Ask.{Ask}
use Rattle.cloud_trait.specs.Caller.{Caller}
use Rattle.cloud_trait.specs.State.{CloudState}
use Rattle.cloud_trait.specs.Traced.{IsTraced}
use Rattle.cloud_facts.specs.Calls.Made.{IsMadeBy}
use Rattle.cloud_facts.specs.Chains.Links.{newest_node, top_of}
use Rattle.cloud_facts.specs.Decoding.Decodes.{Decodes}
use Rattle.cloud_facts.specs.Homes.Homes.{Home, Part, AtHome}
use Rattle.cloud_facts.specs.Landings.Holding.{Holds}
use Rattle.cloud_facts.specs.Landings.Landing.{Landing, opens, settles, logs, posts, marks_log, marks_post, puts_leaf, puts_page, puts_inner, puts_root, raises_root, removes, stays}
use Rattle.report_types.specs.declared.entry.Entry.{Entry}
use Rattle.cloud_facts.specs.Book.Book.{Book}
use Rattle.cloud_facts.specs.Book.Effects.{Taking}
use Rattle.cloud_facts.specs.Book.Tally.{Store, version_of}
use Rattle.cloud_facts.specs.Book.Telling.{newest_leaf}
use Rattle.cloud_facts.specs.Tellings.Taking.{leaf_take, taking_of, LandsTaken}
use Rattle.cloud_facts.specs.Tellings.Told.{store_of}

-- a cloud stands under a book, with an order: what it tells holds, all bytes of it decode, and what landed has its rows and brought it no further
pub record StandsUnder (book : Book) (order : List Entry) (s : CloudState) : Type 0 where
  pub holds : Holds (store_of book order s)
  pub decodes : Decodes s
  pub traced : IsTraced s
  pub made : IsMadeBy (length s.trace) (store_of book order s)

-- the leaf that lands is the newest leaf of its page with the run applied, whole or the left piece of it
pub record IsTaken (st : Store) (p : Taking) : Type 0 where
  pub sizes : List ℕ
  pub free : ℕ
  pub is : p ≡ taking_of p.tree (leaf_take p.page (newest_leaf st.tally.nodes p.tree p.page) p.queue p.run sizes free)
  pub lands : LandsTaken (st.book.chain p.tree) (st.tally.nodes p.tree) (leaf_take p.page (newest_leaf st.tally.nodes p.tree p.page) p.queue p.run sizes free)

-- what is put is the next version, and a leaf that takes a run is its page's with the run
abbrev pub Follows : (who : Caller) (st : Store) (ask : Ask) (su : Store) → Landing who st ask su → Type 0
Follows who st ask su (opens client head records bytes one two e o) = Unit {0}
Follows who st ask su (settles client head bytes one two e o) = Unit {0}
Follows who st ask su (logs client bytes r o) = Unit {0}
Follows who st ask su (posts tree page bytes r o) = Unit {0}
Follows who st ask su (marks_log client id o) = Unit {0}
Follows who st ask su (marks_post tree page id o) = Unit {0}
Follows who st ask su (puts_leaf p bytes one two e takes lands there) = IsTaken st p
Follows who st ask su (puts_page tree page node bytes one two is e first lands) = version_of node ≡ 1
Follows who st ask su (puts_inner tree page node pieces bytes one two is e lands there) = node.version ≡ version_of (newest_node (st.tally.nodes tree) page) + 1
Follows who st ask su (puts_root tree t bytes one two is e covers lands) = t.version ≡ (top_of (st.tally.roots tree)).version + 1
Follows who st ask su (raises_root tree t level links bytes one two is e covers lands there) = t.version ≡ (top_of (st.tally.roots tree)).version + 1
Follows who st ask su (removes tree page l is o) = Unit {0}
Follows who st ask su (stays asked puts touches) = Unit {0}

-- what joins the log is of the session's own home
abbrev pub Commits : (who : Caller) (st : Store) → Part → (ask : Ask) (su : Store) → Landing who st ask su → Type 0
Commits who st part ask su (opens client head records bytes one two e o) = (g : Home) × (part ≡ AtHome g) × (client ≡ g.client) × (head.epoch ≡ g.epoch)
Commits who st part ask su (settles client head bytes one two e o) = Unit {0}
Commits who st part ask su (logs client bytes r o) = Unit {0}
Commits who st part ask su (posts tree page bytes r o) = Unit {0}
Commits who st part ask su (marks_log client id o) = Unit {0}
Commits who st part ask su (marks_post tree page id o) = Unit {0}
Commits who st part ask su (puts_leaf p bytes one two e takes lands there) = Unit {0}
Commits who st part ask su (puts_page tree page node bytes one two is e first lands) = Unit {0}
Commits who st part ask su (puts_inner tree page node pieces bytes one two is e lands there) = Unit {0}
Commits who st part ask su (puts_root tree t bytes one two is e covers lands) = Unit {0}
Commits who st part ask su (raises_root tree t level links bytes one two is e covers lands there) = Unit {0}
Commits who st part ask su (removes tree page l is o) = Unit {0}
Commits who st part ask su (stays asked puts touches) = Unit {0}
