-- What each kind of call leaves of the tally, the book and the order where it lands.
use Rattle.std.specs.Prelude.{ℕ, ◌==◌, ◌&&◌, Bool, true, nat_lt, max, if◌then◌else◌, List, [], ◌∷◌, ◌++◌, filter, map}
use Rattle.db_base.specs.Change.{key_of}
use Rattle.db_base.specs.Cursor.{number_of}
use Rattle.cloud_trait.specs.State.{marked}
use Rattle.cloud_trait.specs.declared.state.Posted.{Posted}
use Rattle.head_codec.specs.declared.head.Head.{Head}
use Rattle.history.specs.Fold.{fold_onto}
use Rattle.leaf_edit.specs.Raised.{greatest_of}
use Rattle.leaf_view.specs.Leaf.{Leaf}
use Rattle.log_codec.specs.declared.record.AtomicRec.{AtomicRec}
use Rattle.log_codec.specs.declared.record.PuItem.{PuItem}
use Rattle.node_codec.specs.Inner.{Inner}
use Rattle.node_codec.specs.Tree.{Tree}
use Rattle.report_types.specs.declared.entry.Entry.{Entry}
use Rattle.cloud_facts.specs.Book.Book.{Link, with_pieces}
use Rattle.cloud_facts.specs.Book.Tally.{Node, Leafy, Branch, Tally, Store, at, at2}

-- ---- heads

-- a head lands; the records that it opens join the log, and there are none where it opens none
abbrev pub after_head : ℕ → Head → List AtomicRec → Store → Store
after_head client head more st = record st {
  tally = record st.tally { head = at client head st.tally.head };
  book = record st.book { log = st.book.log ++ more };
}

-- ---- messages

abbrev pub with_logged : ℕ → List Posted → Store → Store
with_logged client posts st = record st { tally = record st.tally { logged = at client posts st.tally.logged } }

abbrev pub with_posts : ℕ → ℕ → List Posted → Store → Store
with_posts tree page posts st = record st { tally = record st.tally { posts = at2 tree page posts st.tally.posts } }

-- a message is sent to an ATOMIC queue, or to a pending update queue
abbrev pub after_logged : ℕ → Posted → Store → Store
after_logged client post st = with_logged client (st.tally.logged client ++ post ∷ []) st

abbrev pub after_posted : ℕ → ℕ → Posted → Store → Store
after_posted tree page post st = with_posts tree page (st.tally.posts tree page ++ post ∷ []) st

-- the message of a number is marked as deleted
abbrev pub after_log_mark : ℕ → ℕ → Store → Store
after_log_mark client id st = with_logged client (marked (st.tally.logged client) id) st

abbrev pub after_post_mark : ℕ → ℕ → ℕ → Store → Store
after_post_mark tree page id st = with_posts tree page (marked (st.tally.posts tree page) id) st

-- ---- leaves

-- a leaf that takes a run: its page, the leaf that lands, the keys that the page held before, the queue of the run, and the new pages that
-- join its level behind it (none where it is not cut)
pub record Taking : Type 0 where
  pub tree : ℕ
  pub page : ℕ
  pub leaf : Leaf
  pub range : List ℕ → Bool
  pub queue : ℕ
  pub run : List PuItem
  pub pieces : List Link

-- the item's key is in the range, and the leaf that holds it has not applied its number
abbrev pub is_lacking : Tally → Taking → PuItem → Bool
is_lacking t p x = p.range (key_of x.rec.change) && nat_lt (t.done p.tree (key_of x.rec.change) p.queue x.rec.client) x.rec.number

-- the items of the run that are lacked, in the run's order
abbrev pub lacking : Tally → Taking → List PuItem
lacking t p = filter (is_lacking t p) p.run

-- the entry of a record that a leaf takes
abbrev pub taken_entry : ℕ → PuItem → Entry
taken_entry tree x = record { client = x.rec.client; epoch = x.rec.epoch; txn = x.rec.txn; tree = tree; change = x.rec.change }

abbrev pub taken_entries : Tally → Taking → List Entry
taken_entries t p = map (taken_entry p.tree) (lacking t p)

-- of the run's queue each client's number rises to its greatest in the run, for the keys of the range
abbrev pub done_after : Taking → (ℕ → List ℕ → ℕ → ℕ → ℕ) → ℕ → List ℕ → ℕ → ℕ → ℕ
done_after p done tree key page client =
    if ((tree == p.tree) && (page == p.queue)) && p.range key then max (done tree key page client) (greatest_of p.run client) else done tree key page client

-- the cursor of the page's own queue rises likewise, where the run is of that queue
abbrev pub cursor_after : Taking → (ℕ → ℕ → ℕ → ℕ) → ℕ → ℕ → ℕ → ℕ
cursor_after p cursor tree page client =
    if ((tree == p.tree) && (page == p.queue)) && (page == p.page) then max (cursor tree page client) (greatest_of p.run client) else cursor tree page client

-- a leaf lands with a run applied, in place or as the left piece of a cut whose other pieces have landed
abbrev pub after_leaf : Taking → Store → Store
after_leaf p st = record {
  tally = record st.tally {
    cursor = cursor_after p st.tally.cursor;
    done = done_after p st.tally.done;
    value = λ tree key. fold_onto (st.tally.value tree) (taken_entries st.tally p) tree key;
    nodes = at2 p.tree p.page (st.tally.nodes p.tree p.page ++ Leafy p.leaf ∷ []) st.tally.nodes;
  };
  book = record st.book { chain = at2 p.tree 0 (with_pieces p.page p.pieces (st.book.chain p.tree 0)) st.book.chain };
  order = st.order ++ taken_entries st.tally p;
}

-- ---- other pages, and roots

-- a page that is in no chain lands, for the first time; as a leaf it has these numbers of its own queue
abbrev pub after_page : ℕ → ℕ → Node → (ℕ → ℕ) → Store → Store
after_page tree page node own st = record st {
  tally = record st.tally {
    cursor = at2 tree page own st.tally.cursor;
    nodes = at2 tree page (st.tally.nodes tree page ++ node ∷ []) st.tally.nodes;
  };
}

-- an inner node of a level lands, in place or as the left piece of a cut whose other pieces have landed
abbrev pub after_inner : ℕ → ℕ → Inner → List Link → Store → Store
after_inner tree page inner pieces st = record st {
  tally = record st.tally { nodes = at2 tree page (st.tally.nodes tree page ++ Branch inner ∷ []) st.tally.nodes };
  book = record st.book { chain = at2 tree inner.level (with_pieces page pieces (st.book.chain tree inner.level)) st.book.chain };
}

-- a root lands
abbrev pub after_root : ℕ → Tree → Store → Store
after_root tree root st = record st {
  tally = record st.tally {
    cursor = at2 tree 0 (λ client. number_of root.cursor client) st.tally.cursor;
    roots = at tree (st.tally.roots tree ++ root ∷ []) st.tally.roots;
  };
}

-- a root lands that is one level higher: the pages below it are a new level
abbrev pub after_raise : ℕ → Tree → ℕ → List Link → Store → Store
after_raise tree root level links st =
    let after = after_root tree root st in
    record after { book = record after.book { chain = at2 tree level links after.book.chain } }

-- ---- removed pages

-- a page is removed: its nodes stay what they were
abbrev pub after_removal : ℕ → ℕ → Store → Store
after_removal tree page st = record st { tally = record st.tally { gone = at2 tree page true st.tally.gone } }
