-- The numbers of the committed records hold of the empty cloud, and are kept by every call that lands.
use Rattle.std.proofs.Common.{◌≡◌, ◌+◌, ◌<◌, ◌≤◌, ◌⊎◌, ⊎_elim, inl, inr, ℕ, zero, suc, Bool, true, false, cond, ◌==◌, ◌&&◌, max, List, [], ◌∷◌, ◌++◌, length, refl, sym, ap, ap₂, subst, ◌∙◌, arith, eqb-true, eq-eqb}
use Rattle.std.proofs.lemmas.Bool.{and_parts, cases_lt}
use Rattle.db_base.specs.Change.{key_of}
use Rattle.db_base.specs.Cursor.{number_of}
use Rattle.cloud_facts.specs.Words.{IsClient, ObjName, QueueName, Entry, AtomicRec, Head, Inner, Tree, Version, Posted, CloudState, Link, Store, Node, IsIn, StandsAt}
use Rattle.cloud_trait.specs.State.{IsEmptyCloud, marked}
use Rattle.leaf_edit.specs.Raised.{greatest_of}
use Rattle.log_codec.specs.declared.record.PuRec.{PuRec}
use Rattle.cloud_facts.specs.Book.Book.{empty_book, with_pieces}
use Rattle.cloud_facts.specs.Book.Effects.{after_head, after_logged, after_posted, after_log_mark, after_post_mark, Taking, done_after, cursor_after, after_leaf, after_page, after_inner, after_root, after_raise, after_removal}
use Rattle.cloud_facts.specs.Book.Premises.{IsRouted, Opens, Settles, Posts, Takes, LandsFirst, CoversApplied}
use Rattle.cloud_facts.specs.Book.Records.{key_in, count_of, IsApplied}
use Rattle.cloud_facts.specs.Book.Tally.{Tally, at2}
use Rattle.cloud_facts.specs.Book.Telling.{tally_of}
use Rattle.cloud_facts.proofs.Book.GrowthLemmas.{links_stay}
use Rattle.cloud_facts.proofs.Book.Names.{at2_by}
use Rattle.cloud_facts.proofs.Book.Places.{get_cases, get_single, marked_bytes}
use Rattle.cloud_facts.specs.Numbers.Numbers.{Numbers, IsOfRecord}
use Rattle.cloud_facts.proofs.Numbers.Heads.{adds_keeps, opens_adds, settles_adds}
use Rattle.cloud_facts.proofs.Numbers.Routes.{routed_on}
use Rattle.cloud_facts.proofs.Numbers.Runs.{run_within, run_has}

-- ---- heads

pub after_open_keeps : (st : Store) (client : ℕ) (head : Head) (records : List AtomicRec) → Numbers st → Opens st client head records
    → Numbers (after_head client head records st)
after_open_keeps st client head records n o = adds_keeps st client head records n (opens_adds st client head records o)

pub after_settle_keeps : (st : Store) (client : ℕ) (head : Head) → Numbers st → Settles st client head → Numbers (after_head client head [] st)
after_settle_keeps st client head n s = adds_keeps st client head [] n (settles_adds st client head s)

-- ---- calls that add no record

-- what a call leaves that adds no record and puts no head
record Holds (st : Store) (posts : ℕ → ℕ → List Posted) (cursor : ℕ → ℕ → ℕ → ℕ) (done : ℕ → List ℕ → ℕ → ℕ → ℕ) (chain : ℕ → ℕ → List Link) : Type 0 where
  sent : (tree page place : ℕ) (m : Posted) → StandsAt (posts tree page) place m → IsOfRecord st.book.log tree page m.bytes
  done_within : (tree : ℕ) (key : List ℕ) (page client : ℕ) → IsClient client → done tree key page client ≤ count_of tree page client st.book.log
  cursor_within : (tree page client : ℕ) → IsClient client → cursor tree page client ≤ count_of tree page client st.book.log
  covered : (r : AtomicRec) → IsIn st.book.log r → r.number ≤ cursor r.tree r.page r.client → r.number ≤ done r.tree (key_in r) r.page r.client
  stay : (tree : ℕ) (link : Link) → IsIn (st.book.chain tree 0) link → IsIn (chain tree 0) link

-- the store with another tally of the same heads, and another chain
abbrev with_tally : Store → Tally → (ℕ → ℕ → List Link) → List Entry → Store
with_tally st t chain order = record { tally = record t { head = st.tally.head }; book = record { log = st.book.log; chain = chain }; order = order }

kept : (st : Store) (t : Tally) (chain : ℕ → ℕ → List Link) (order : List Entry) → Numbers st → Holds st t.posts t.cursor t.done chain
    → Numbers (with_tally st t chain order)
kept st t chain order n h = record {
  in_order = n.in_order;
  counters = n.counters;
  sent = h.sent;
  done_within = h.done_within;
  cursor_within = h.cursor_within;
  covered = h.covered;
  once = n.once;
  placed = λ r logged. let old = n.placed r logged in record {
    client = old.client;
    tree = old.tree;
    upto = old.upto;
    routed = routed_on st.book (with_tally st t chain order).book r h.stay old.routed;
  };
}

-- ---- messages

pub after_logged_keeps : (st : Store) (client : ℕ) (post : Posted) → Numbers st → Numbers (after_logged client post st)
after_logged_keeps st client post n = kept st (after_logged client post st).tally st.book.chain st.order n (record {
  sent = n.sent;
  done_within = n.done_within;
  cursor_within = n.cursor_within;
  covered = n.covered;
  stay = λ tree link is. is;
})

pub after_log_mark_keeps : (st : Store) (client id : ℕ) → Numbers st → Numbers (after_log_mark client id st)
after_log_mark_keeps st client id n = kept st (after_log_mark client id st).tally st.book.chain st.order n (record {
  sent = n.sent;
  done_within = n.done_within;
  cursor_within = n.cursor_within;
  covered = n.covered;
  stay = λ tree link is. is;
})

-- all messages of a queue are committed records of it
abbrev AreRecords : List AtomicRec → ℕ → ℕ → List Posted → Type 0
AreRecords log tree page posts = (place : ℕ) (m : Posted) → StandsAt posts place m → IsOfRecord log tree page m.bytes

pub after_posted_keeps : (st : Store) (tree page : ℕ) (post : Posted) (r : AtomicRec) → Numbers st → Posts st tree page post r
    → Numbers (after_posted tree page post st)
after_posted_keeps st tree page post r n p = kept st (after_posted tree page post st).tally st.book.chain st.order n (record {
  sent = at2_by (λ t q ms. AreRecords st.book.log t q ms) tree page (st.tally.posts tree page ++ post ∷ []) st.tally.posts new n.sent;
  done_within = n.done_within;
  cursor_within = n.cursor_within;
  covered = n.covered;
  stay = λ tree link is. is;
})
  where
    own : IsOfRecord st.book.log tree page post.bytes
    own = record { of = r; logged = p.logged; tree_is = p.tree_is; page_is = p.page_is; reads = p.reads }

    new : AreRecords st.book.log tree page (st.tally.posts tree page ++ post ∷ [])
    new place m at = on (get_cases (st.tally.posts tree page) (post ∷ []) place m at)
      where
        on : StandsAt (st.tally.posts tree page) place m ⊎ ((j : ℕ) × (place ≡ length (st.tally.posts tree page) + j) × StandsAt (post ∷ []) j m)
            → IsOfRecord st.book.log tree page m.bytes
        on (inl there) = n.sent tree page place m there
        on (inr p) = subst (λ (k : Posted). IsOfRecord st.book.log tree page k.bytes) (get_single post p.0 m p.2) own

pub after_post_mark_keeps : (st : Store) (tree page id : ℕ) → Numbers st → Numbers (after_post_mark tree page id st)
after_post_mark_keeps st tree page id n = kept st (after_post_mark tree page id st).tally st.book.chain st.order n (record {
  sent = at2_by (λ t q ms. AreRecords st.book.log t q ms) tree page (marked (st.tally.posts tree page) id) st.tally.posts old n.sent;
  done_within = n.done_within;
  cursor_within = n.cursor_within;
  covered = n.covered;
  stay = λ tree link is. is;
})
  where
    old : AreRecords st.book.log tree page (marked (st.tally.posts tree page) id)
    old place m at =
        let was = marked_bytes (st.tally.posts tree page) id place m at in
        subst (λ bytes. IsOfRecord st.book.log tree page bytes) (sym was.2) (n.sent tree page place was.0 was.1)

-- ---- leaves

module _ (st : Store) (p : Taking) (n : Numbers st) (t : Takes st p) where
  -- the run's numbers are those of committed records
  most : (client : ℕ) → greatest_of p.run client ≤ count_of p.tree p.queue client st.book.log
  most client = run_within st p.tree p.queue n.in_order p.run t.items client

  leaf_done : (tree : ℕ) (key : List ℕ) (page client : ℕ) → IsClient client → done_after p st.tally.done tree key page client ≤ count_of tree page client st.book.log
  leaf_done tree key page client is = on (((tree == p.tree) && (page == p.queue)) && p.range key) refl (n.done_within tree key page client is)
    where
      on : (b : Bool) → (((tree == p.tree) && (page == p.queue)) && p.range key) ≡ b → st.tally.done tree key page client ≤ count_of tree page client st.book.log
          → cond b (max (st.tally.done tree key page client) (greatest_of p.run client)) (st.tally.done tree key page client) ≤ count_of tree page client st.book.log
      on true e within =
          let named = and_parts (tree == p.tree) (page == p.queue) ((and_parts ((tree == p.tree) && (page == p.queue)) (p.range key) e).0) in
          let run = most client in
          let same : count_of p.tree p.queue client st.book.log ≡ count_of tree page client st.book.log =
          sym (ap (λ a. count_of a page client st.book.log) (eqb-true tree p.tree named.0) ∙ ap (λ a. count_of p.tree a client st.book.log) (eqb-true page p.queue named.1)) in
          omega (arith, within, run, same)
      on false e within = within

  leaf_cursor : (tree page client : ℕ) → IsClient client → cursor_after p st.tally.cursor tree page client ≤ count_of tree page client st.book.log
  leaf_cursor tree page client is = on (((tree == p.tree) && (page == p.queue)) && (page == p.page)) refl (n.cursor_within tree page client is)
    where
      on : (b : Bool) → (((tree == p.tree) && (page == p.queue)) && (page == p.page)) ≡ b → st.tally.cursor tree page client ≤ count_of tree page client st.book.log
          → cond b (max (st.tally.cursor tree page client) (greatest_of p.run client)) (st.tally.cursor tree page client) ≤ count_of tree page client st.book.log
      on true e within =
          let named = and_parts (tree == p.tree) (page == p.queue) ((and_parts ((tree == p.tree) && (page == p.queue)) (page == p.page) e).0) in
          let run = most client in
          let same : count_of p.tree p.queue client st.book.log ≡ count_of tree page client st.book.log =
          sym (ap (λ a. count_of a page client st.book.log) (eqb-true tree p.tree named.0) ∙ ap (λ a. count_of p.tree a client st.book.log) (eqb-true page p.queue named.1)) in
          omega (arith, within, run, same)
      on false e within = within

  done_up : (tree : ℕ) (key : List ℕ) (page client number : ℕ) → number ≤ st.tally.done tree key page client
      → number ≤ done_after p st.tally.done tree key page client
  done_up tree key page client number low = on (((tree == p.tree) && (page == p.queue)) && p.range key)
    where
      on : (b : Bool) → number ≤ cond b (max (st.tally.done tree key page client) (greatest_of p.run client)) (st.tally.done tree key page client)
      on true = omega (arith, low)
      on false = low

  -- a record of the run's queue that is not below what the run begins behind, and not above the client's greatest number in it
  run_done : (r : AtomicRec) → IsIn st.book.log r → r.tree ≡ p.tree → r.page ≡ p.queue → p.queue ≡ p.page
      → st.tally.cursor r.tree r.page r.client < r.number → r.number ≤ greatest_of p.run r.client → r.number ≤ done_after p st.tally.done r.tree (key_in r) r.page r.client
  run_done r logged tree_is page_is own above low = on (p.range (key_in r)) refl
    where
      is_client : IsClient r.client
      is_client = (n.placed r logged).client

      in_range : p.range (key_in r) ≡ true → (((r.tree == p.tree) && (r.page == p.queue)) && p.range (key_in r)) ≡ true
      in_range e = ap₂ ◌&&◌ (ap₂ ◌&&◌ (eq-eqb r.tree p.tree tree_is) (eq-eqb r.page p.queue page_is)) e

      up : r.number ≤ max (st.tally.done r.tree (key_in r) r.page r.client) (greatest_of p.run r.client)
      up = omega (arith, low)

      applied : p.range (key_in r) ≡ false → r.number ≤ st.tally.done r.tree (key_in r) r.page r.client
      applied e =
          let run = t.consecutive r.client is_client in
          let from : run.0 < r.number =
          let covered : run.0 ≤ st.tally.cursor r.tree r.page r.client =
          subst (λ a. run.0 ≤ st.tally.cursor a r.page r.client) (sym tree_is) (subst (λ a. run.0 ≤ st.tally.cursor p.tree a r.client) (sym page_is) (run.1).covered) in
          omega (arith, covered, above) in
          let item = run_has st p.tree p.queue n.in_order p.run t.items r.client run.0 run.1 r logged (record { client_is = refl; tree_is = tree_is; page_is = page_is }) from low in
          let outside : p.range (key_of item.item.rec.change) ≡ false = ap (λ (rec : PuRec). p.range (key_of rec.change)) item.rec_is ∙ e in
          let last = t.home_last own item.item item.there outside in
          let mine : r.number ≤ st.tally.done p.tree (key_in r) p.queue r.client =
          subst (λ (rec : PuRec). rec.number ≤ st.tally.done p.tree (key_of rec.change) p.queue rec.client) item.rec_is last in
          subst (λ a. r.number ≤ st.tally.done a (key_in r) r.page r.client) (sym tree_is) (subst (λ a. r.number ≤ st.tally.done p.tree (key_in r) a r.client) (sym page_is) mine)

      on : (b : Bool) → p.range (key_in r) ≡ b → r.number ≤ done_after p st.tally.done r.tree (key_in r) r.page r.client
      on true e = subst (λ c. r.number ≤ cond c (max (st.tally.done r.tree (key_in r) r.page r.client) (greatest_of p.run r.client)) (st.tally.done r.tree (key_in r) r.page r.client))
          (sym (in_range e)) up
      on false e = done_up r.tree (key_in r) r.page r.client r.number (applied e)

  leaf_covered : (r : AtomicRec) → IsIn st.book.log r → r.number ≤ cursor_after p st.tally.cursor r.tree r.page r.client
      → r.number ≤ done_after p st.tally.done r.tree (key_in r) r.page r.client
  leaf_covered r logged low = on (((r.tree == p.tree) && (r.page == p.queue)) && (r.page == p.page)) refl low
    where
      old : r.number ≤ st.tally.cursor r.tree r.page r.client → r.number ≤ done_after p st.tally.done r.tree (key_in r) r.page r.client
      old within = done_up r.tree (key_in r) r.page r.client r.number (n.covered r logged within)

      on : (b : Bool) → (((r.tree == p.tree) && (r.page == p.queue)) && (r.page == p.page)) ≡ b
          → r.number ≤ cond b (max (st.tally.cursor r.tree r.page r.client) (greatest_of p.run r.client)) (st.tally.cursor r.tree r.page r.client)
          → r.number ≤ done_after p st.tally.done r.tree (key_in r) r.page r.client
      on false e within = old within
      on true e within =
          let named = and_parts ((r.tree == p.tree) && (r.page == p.queue)) (r.page == p.page) e in
          let queue = and_parts (r.tree == p.tree) (r.page == p.queue) named.0 in
          let page_is : r.page ≡ p.queue = eqb-true r.page p.queue queue.1 in
          ⊎_elim
          (λ above. run_done r logged (eqb-true r.tree p.tree queue.0) page_is (sym page_is ∙ eqb-true r.page p.page named.1) above (omega (arith, above, within)))
          (λ below. old below)
          (cases_lt (st.tally.cursor r.tree r.page r.client) r.number)

pub after_leaf_keeps : (st : Store) (p : Taking) → Numbers st → Takes st p → Numbers (after_leaf p st)
after_leaf_keeps st p n t = kept st (after_leaf p st).tally (after_leaf p st).book.chain (after_leaf p st).order n (record {
  sent = n.sent;
  done_within = leaf_done st p n t;
  cursor_within = leaf_cursor st p n t;
  covered = leaf_covered st p n t;
  stay = λ tree link. at2_by (λ a level links. IsIn (st.book.chain a level) link → IsIn links link) p.tree 0 (with_pieces p.page p.pieces (st.book.chain p.tree 0)) st.book.chain
      (links_stay p.page p.pieces (st.book.chain p.tree 0) link) (λ a level is. is) tree 0;
})

-- ---- other pages, and roots

-- no record goes to a page that is in no leaf chain
pub never_routed : (st : Store) (tree page : ℕ) → 1 < page → ((link : Link) → IsIn (st.book.chain tree 0) link → link.page ≡ page → ⊥)
    → (r : AtomicRec) → IsRouted st.book r → r.tree ≡ tree → r.page ≡ page → ⊥
never_routed st tree page above none r (inl root) tree_is page_is = absurd (omega (arith, above, root, page_is))
never_routed st tree page above none r (inr leaf) tree_is page_is =
    none leaf.link (subst (λ a. IsIn (st.book.chain a 0) leaf.link) tree_is leaf.linked) (leaf.page_is ∙ page_is)

pub after_page_keeps : (st : Store) (tree page : ℕ) (node : Node) (own : ℕ → ℕ) → Numbers st → LandsFirst st tree page own
    → Numbers (after_page tree page node own st)
after_page_keeps st tree page node own n l = kept st (after_page tree page node own st).tally st.book.chain st.order n (record {
  sent = n.sent;
  done_within = n.done_within;
  cursor_within = at2_by (λ a q f. (client : ℕ) → IsClient client → f client ≤ count_of a q client st.book.log) tree page own st.tally.cursor within n.cursor_within;
  covered = λ r logged low. at2_by (λ a q f. r.tree ≡ a → r.page ≡ q → r.number ≤ f r.client → IsApplied st.tally r) tree page own st.tally.cursor
      (λ tree_is page_is low. absurd (never_routed st tree page l.page_is (λ link is. l.unlinked 0 link is) r (n.placed r logged).routed tree_is page_is))
      (λ a q tree_is page_is low. n.covered r logged (subst (λ b. r.number ≤ st.tally.cursor b r.page r.client) (sym tree_is) (subst (λ b. r.number ≤ st.tally.cursor a b r.client) (sym page_is) low)))
      r.tree r.page refl refl low;
  stay = λ a link is. is;
})
  where
    within : (client : ℕ) → IsClient client → own client ≤ count_of tree page client st.book.log
    within client is = let key = l.own_within client is in let most = n.done_within tree key.0 page client is in omega (arith, key.1, most)

pub after_inner_keeps : (st : Store) (tree page : ℕ) (inner : Inner) (pieces : List Link) → Numbers st → Numbers (after_inner tree page inner pieces st)
after_inner_keeps st tree page inner pieces n = kept st (after_inner tree page inner pieces st).tally (after_inner tree page inner pieces st).book.chain st.order n (record {
  sent = n.sent;
  done_within = n.done_within;
  cursor_within = n.cursor_within;
  covered = n.covered;
  stay = λ a link. at2_by (λ a level links. IsIn (st.book.chain a level) link → IsIn links link) tree inner.level (with_pieces page pieces (st.book.chain tree inner.level)) st.book.chain
      (links_stay page pieces (st.book.chain tree inner.level) link) (λ a level is. is) a 0;
})

pub after_removal_keeps : (st : Store) (tree page : ℕ) → Numbers st → Numbers (after_removal tree page st)
after_removal_keeps st tree page n = kept st (after_removal tree page st).tally st.book.chain st.order n (record {
  sent = n.sent;
  done_within = n.done_within;
  cursor_within = n.cursor_within;
  covered = n.covered;
  stay = λ tree link is. is;
})

module _ (st : Store) (tree : ℕ) (root : Tree) (n : Numbers st) (c : CoversApplied st tree root) where
  root_cursor : (a q client : ℕ) → IsClient client → at2 tree 0 (λ client. number_of root.cursor client) st.tally.cursor a q client ≤ count_of a q client st.book.log
  root_cursor = at2_by (λ a q f. (client : ℕ) → IsClient client → f client ≤ count_of a q client st.book.log) tree 0 (λ client. number_of root.cursor client) st.tally.cursor c.within n.cursor_within

  root_covered : (r : AtomicRec) → IsIn st.book.log r
      → r.number ≤ at2 tree 0 (λ client. number_of root.cursor client) st.tally.cursor r.tree r.page r.client → IsApplied st.tally r
  root_covered r logged low = at2_by (λ a q f. r.tree ≡ a → r.page ≡ q → r.number ≤ f r.client → IsApplied st.tally r) tree 0 (λ client. number_of root.cursor client) st.tally.cursor
      (λ tree_is page_is low. c.applied r logged tree_is page_is low)
      (λ a q tree_is page_is low. n.covered r logged (subst (λ b. r.number ≤ st.tally.cursor b r.page r.client) (sym tree_is) (subst (λ b. r.number ≤ st.tally.cursor a b r.client) (sym page_is) low)))
      r.tree r.page refl refl low

pub after_root_keeps : (st : Store) (tree : ℕ) (root : Tree) → Numbers st → CoversApplied st tree root → Numbers (after_root tree root st)
after_root_keeps st tree root n c = kept st (after_root tree root st).tally st.book.chain st.order n (record {
  sent = n.sent;
  done_within = n.done_within;
  cursor_within = root_cursor st tree root n c;
  covered = root_covered st tree root n c;
  stay = λ a link is. is;
})

abbrev no_links : List Link
no_links = []

nowhere : (link : Link) (place : ℕ) → StandsAt no_links place link → ⊥
nowhere link place e = cc

-- a level that had no page gets some
pub after_raise_keeps : (st : Store) (tree : ℕ) (root : Tree) (level : ℕ) (links : List Link) → Numbers st → CoversApplied st tree root
    → st.book.chain tree level ≡ []
    → Numbers (after_raise tree root level links st)
after_raise_keeps st tree root level links n c empty = kept st (after_root tree root st).tally (after_raise tree root level links st).book.chain st.order n (record {
  sent = n.sent;
  done_within = n.done_within;
  cursor_within = root_cursor st tree root n c;
  covered = root_covered st tree root n c;
  stay = λ a link. at2_by (λ a k ls. IsIn (st.book.chain a k) link → IsIn ls link) tree level links st.book.chain
      (λ is. absurd (nowhere link is.0 (subst (λ ls. StandsAt ls is.0 link) empty is.1))) (λ a k is. is) a 0;
})

-- ---- the empty cloud

-- what is told where no object has a version and no queue has a message
abbrev told : CloudState → (ObjName → List Version) → (QueueName → List Posted) → Store
told s versions messages = record { tally = tally_of empty_book (record s { versions = versions; messages = messages }); book = empty_book; order = [] }

abbrev no_records : List AtomicRec
no_records = []

not_there : (place : ℕ) (r : AtomicRec) → StandsAt no_records place r → ⊥
not_there place r e = cc

abbrev no_messages : List Posted
no_messages = []

not_sent : (place : ℕ) (m : Posted) → StandsAt no_messages place m → ⊥
not_sent place m e = cc

abbrev no_entries : List Entry
no_entries = []

not_ordered : (place : ℕ) (e : Entry) → StandsAt no_entries place e → ⊥
not_ordered place e is = cc

nothing_numbered : (s : CloudState) → Numbers (told s (λ name. []) (λ queue. []))
nothing_numbered s = record {
  in_order = λ tree page client place r at. absurd (not_there place r at);
  counters = λ client tree page. refl;
  sent = λ tree page place m at. absurd (not_sent place m at);
  done_within = λ tree key page client is. omega arith;
  cursor_within = λ tree page client is. cursor tree page client;
  covered = λ r logged low. absurd (not_there logged.0 r logged.1);
  once = λ i j a b at_a at_b same. absurd (not_ordered i a at_a);
  placed = λ r logged. absurd (not_there logged.0 r logged.1);
}
  where
    cursor : (tree page client : ℕ) → (told s (λ name. []) (λ queue. [])).tally.cursor tree page client ≤ 0
    cursor tree zero client = omega arith
    cursor tree (suc page) client = omega arith

pub empty_numbers : (s : CloudState) → IsEmptyCloud s → Numbers (record { tally = tally_of empty_book s; book = empty_book; order = [] })
empty_numbers s empty =
    let versions : s.versions ≡ (λ (name : ObjName). []) = λ i name. empty.versions name i in
    let messages : s.messages ≡ (λ (queue : QueueName). []) = λ i queue. empty.messages queue i in
    subst (λ (vs : ObjName → List Version). Numbers (told s vs s.messages)) (sym versions)
    (subst (λ (ms : QueueName → List Posted). Numbers (told s (λ (name : ObjName). []) ms)) (sym messages) (nothing_numbered s))
