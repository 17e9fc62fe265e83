-- What a page checkpoint knows of the leaf chain, where the run of its page leads to the pages on the right.
use Rattle.std.specs.Prelude.{ℕ, ◌≡◌, ◌≢◌, ◌≤◌, ◌⊎◌, true, false, List, [], Option, Some, None}
use Rattle.byte_format.specs.Order.{bytes_below, below_bound}
use Rattle.cloud_facts.specs.Chains.Links.{newest_node}
use Rattle.cloud_facts.specs.Words.{PuItem, Leaf, Claim, Lasts, Link, Store, Node, Leafy, IsIn}
use Rattle.db_base.specs.Change.{key_of}
use Rattle.leaf_edit.specs.Applied.{applied}
use Rattle.leaf_edit.specs.Lacked.{lacked}
use Rattle.leaf_view.specs.Leaf.{IsLeaf}
use Rattle.leaf_view.specs.Lookup.{empty_leaf}
use Rattle.page_ckpt.specs.declared.link.Link.{Link as Found}
use Rattle.run_cursor.specs.Run.{Taken}
use Rattle.session_facts.specs.Machines.Runs.Knows.{TookRun}
use Rattle.cloud_facts.specs.Tellings.Taking.{IsLinked}

-- ---- a leaf that was read

-- a leaf is a version of its page, or the empty one of a first page that was never put
abbrev pub IsLanded : (ℕ → List Node) → ℕ → Leaf → Type 0
IsLanded nodes page l = ((page ≡ 1) × (l ≡ empty_leaf)) ⊎ IsIn (nodes page) (Leafy l)

-- the newest version of a page is this leaf; of absent pages page 1 alone is one
pub record IsNewestLeaf (nodes : ℕ → List Node) (page : ℕ) (l : Leaf) : Type 0 where
  pub is : newest_node nodes page ≡ Leafy l
  pub absent : nodes page ≡ [] → page ≡ 1

-- a leaf was read under a lease: it landed, and is the newest of its page while the lease lasts
pub record ReadLeaf (st : Store) (now tree page : ℕ) (lease : Claim) (l : Leaf) : Type 0 where
  pub landed : IsLanded (st.tally.nodes tree) page l
  pub newest : Lasts now lease → IsNewestLeaf (st.tally.nodes tree) page l

-- ---- the run

-- a run with an item was taken: the page is that of a link of the leaf chain, whose low key is the leaf's and not above any key of the run
pub record HasRun (st : Store) (tree page : ℕ) (home : Leaf) (run : Taken) (ids : List ℕ) : Type 0 where
  pub from : List (ℕ × ℕ)
  pub took : TookRun st tree page from run ids
  pub linked : IsLinked (st.book.chain tree 0) page
  pub low : home.low ≡ linked.link.low
  pub keys : (x : PuItem) → IsIn run.items x → bytes_below (key_of x.rec.change) home.low ≡ false

-- an item of a queue is applied
abbrev pub IsDone : Store → ℕ → ℕ → PuItem → Type 0
IsDone st tree queue x = x.rec.number ≤ st.tally.done tree (key_of x.rec.change) queue x.rec.client

-- the items with keys from one bound on and below another are applied; no bound is above all keys
abbrev pub AreDone : Store → ℕ → ℕ → List PuItem → Option (List ℕ) → Option (List ℕ) → Type 0
AreDone st tree queue run from upto =
    (x : PuItem) → IsIn run x → below_bound (key_of x.rec.change) from ≡ false → below_bound (key_of x.rec.change) upto ≡ true → IsDone st tree queue x

-- ---- what it works on

-- a page that is checkpointed: its tree and number, its leaf as it was read, and the run of its queue with the numbers of the messages of that
pub record PageWork : Type 0 where
  pub tree : ℕ
  pub page : ℕ
  pub home : Leaf
  pub run : Taken
  pub ids : List ℕ

abbrev pub page_work : ℕ → ℕ → Leaf → Taken → List ℕ → PageWork
page_work tree page home run ids = record { tree = tree; page = page; home = home; run = run; ids = ids }

-- the right page at hand, and where the run leads on from it
pub record RightPage : Type 0 where
  pub at : Found
  pub onward : Option Found

-- a leaf that is put: the items that are applied by it, and its bytes
pub record LeafPut : Type 0 where
  pub applying : List PuItem
  pub out : List ℕ

-- ---- to the right

-- a page is that of a link that is not further right than a low key
pub record IsUptoLink (links : List Link) (low : List ℕ) (page : ℕ) : Type 0 where
  pub link : Link
  pub linked : IsIn links link
  pub page_is : link.page ≡ page
  pub upto : bytes_below low link.low ≡ false

-- where a link leads on from a page with a low key, it is one of the chain, further right, and has the bound as its low key; where none
-- does, all keys of the run are below the bound
abbrev pub RunLeads : List Link → List ℕ → Option (List ℕ) → List PuItem → Option Found → Type 0
RunLeads links low bound run (Some l) = IsIn links (record { low = l.low; page = l.page }) × (bytes_below low l.low ≡ true) × (bound ≡ Some l.low)
RunLeads links low bound run None = (x : PuItem) → IsIn run x → below_bound (key_of x.rec.change) bound ≡ true

-- It is on its way to the right: the page at hand is that of a link, none that it came to is further right, and the items with keys behind
-- the home and below the page are applied.
pub record ComesRight (st : Store) (now : ℕ) (work : PageWork) (lease : Claim) (visited : List ℕ) (at : Found) : Type 0 where
  pub read : ReadLeaf st now work.tree work.page lease work.home
  pub runs : HasRun st work.tree work.page work.home work.run work.ids
  pub linked : IsIn (st.book.chain work.tree 0) (record { low = at.low; page = at.page })
  pub elsewhere : at.page ≢ work.page
  pub home_behind : IsUptoLink (st.book.chain work.tree 0) at.low work.page
  pub behind : (p : ℕ) → IsIn visited p → IsUptoLink (st.book.chain work.tree 0) at.low p
  pub applied : AreDone st work.tree work.page work.run.items work.home.high (Some at.low)

-- ---- the puts

-- the leaf that is put on a right page is the one that was read there, with the run of the page applied
pub record PutsRight (st : Store) (now : ℕ) (work : PageWork) (lease : Claim) (right : RightPage) (put : LeafPut) : Type 0 where
  pub leaf : Leaf
  pub read : ReadLeaf st now work.tree right.at.page lease leaf
  pub low : leaf.low ≡ right.at.low
  pub leads : RunLeads (st.book.chain work.tree 0) right.at.low leaf.high work.run.items right.onward
  pub puts : IsLeaf put.out (applied leaf work.page work.run.items)
  pub applies : put.applying ≡ lacked leaf work.page work.run.items

-- behind a right page the items up to where a link leads on are applied
pub record LeavesRight (st : Store) (work : PageWork) (right : RightPage) : Type 0 where
  pub upto : Option (List ℕ)
  pub leads : RunLeads (st.book.chain work.tree 0) right.at.low upto work.run.items right.onward
  pub applied : AreDone st work.tree work.page work.run.items work.home.high upto

-- the leaf that is put last is the page's own with the run applied, and the items behind it are applied on the pages on its right
pub record PutsHome (st : Store) (now : ℕ) (work : PageWork) (lease : Claim) (put : LeafPut) : Type 0 where
  pub read : ReadLeaf st now work.tree work.page lease work.home
  pub runs : HasRun st work.tree work.page work.home work.run work.ids
  pub rest : AreDone st work.tree work.page work.run.items work.home.high None
  pub puts : IsLeaf put.out (applied work.home work.page work.run.items)
  pub applies : put.applying ≡ lacked work.home work.page work.run.items
