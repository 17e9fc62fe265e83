-- Each call that lands only adds to what is told.
use Rattle.std.proofs.Common.{◌≡◌, ◌≢◌, ◌≤◌, ◌⊎◌, inl, inr, ℕ, zero, suc, Bool, true, false, cond, ◌==◌, ◌&&◌, max, List, [], ◌∷◌, ◌++◌, Some, refl, sym, ap, subst, ◌∙◌, arith}
use Rattle.std.proofs.lemmas.Bool.{eqb-true, and_parts}
use Rattle.std.proofs.lemmas.List.{map-append}
use Rattle.std.specs.Prelude.{slice_get}
use Rattle.std.proofs.Math.Nat.{le-max_left}
use Rattle.cloud_trait.proofs.EffectLemmas.{begins_itself, begins_same, posts_of-marked}
use Rattle.cloud_trait.specs.Growth.{BeginsWith}
use Rattle.cloud_trait.specs.State.{marked}
use Rattle.cloud_trait.specs.Upto.{posts_of}
use Rattle.cloud_facts.specs.Words.{IsClient, AtomicRec, Head, Inner, Tree, Posted, Link, Store, Node, at, IsIn}
use Rattle.db_base.specs.Cursor.{number_of}
use Rattle.leaf_edit.specs.Raised.{greatest_of}
use Rattle.node_codec.specs.Tree.{empty_tree}
use Rattle.cloud_facts.specs.Book.Book.{with_pieces}
use Rattle.cloud_facts.specs.Book.Effects.{after_head, after_logged, after_posted, after_log_mark, after_post_mark, after_leaf, after_page, after_inner, after_root, after_raise, after_removal, Taking, done_after, cursor_after}
use Rattle.cloud_facts.specs.Book.Growth.{Grows, IsLater}
use Rattle.cloud_facts.specs.Book.Premises.{CoversApplied}
use Rattle.cloud_facts.specs.Book.Records.{IsApplied, key_in}
use Rattle.cloud_facts.specs.Book.Tally.{at2}
use Rattle.cloud_facts.specs.Chains.Links.{top_of}
use Rattle.cloud_facts.proofs.Book.Names.{at_by, at2_by}
use Rattle.cloud_facts.proofs.Book.Places.{in_behind}
use Rattle.cloud_facts.proofs.Chains.Names.{last_added}

-- ---- nothing changes

pub grows_itself : (st : Store) → Grows st st
grows_itself st = record {
  log = begins_itself st.book.log;
  order = begins_itself st.order;
  links = λ tree level link is. is;
  heads = λ client. inl refl;
  logged = λ client. begins_itself (posts_of (st.tally.logged client));
  posts = λ tree page. begins_itself (posts_of (st.tally.posts tree page));
  done = λ tree key page client is. omega arith;
  cursor = λ tree page client is. omega arith;
  nodes = λ tree page. begins_itself (st.tally.nodes tree page);
  roots = λ tree. begins_itself (st.tally.roots tree);
  gone = λ a b is. is;
  next = λ tree. omega arith;
  unlinked = λ tree page some none. refl;
}

-- ---- heads

-- a later head lands
pub head_grows : (st : Store) (client : ℕ) (head : Head) (more : List AtomicRec) → IsLater (st.tally.head client) head → Grows st (after_head client head more st)
head_grows st client head more later = record {
  log = (more, refl);
  order = begins_itself st.order;
  links = λ tree level link is. is;
  heads = at_by (λ c h. (h ≡ st.tally.head c) ⊎ IsLater (st.tally.head c) h) client head st.tally.head (inr later) (λ c. inl refl);
  logged = λ c. begins_itself (posts_of (st.tally.logged c));
  posts = λ tree page. begins_itself (posts_of (st.tally.posts tree page));
  done = λ tree key page c is. omega arith;
  cursor = λ tree page c is. omega arith;
  nodes = λ tree page. begins_itself (st.tally.nodes tree page);
  roots = λ tree. begins_itself (st.tally.roots tree);
  gone = λ a b is. is;
  next = λ tree. omega arith;
  unlinked = λ tree page some none. refl;
}

-- ---- messages

-- the messages of an ATOMIC queue change, and no message that was sent does
with_logged_grows : (st : Store) (client : ℕ) (posts : List Posted) → BeginsWith (posts_of (st.tally.logged client)) (posts_of posts)
    → Grows st (record st { tally = record st.tally { logged = at client posts st.tally.logged } })
with_logged_grows st client posts begins = record {
  log = begins_itself st.book.log;
  order = begins_itself st.order;
  links = λ tree level link is. is;
  heads = λ c. inl refl;
  logged = at_by (λ c p. BeginsWith (posts_of (st.tally.logged c)) (posts_of p)) client posts st.tally.logged begins (λ c. begins_itself (posts_of (st.tally.logged c)));
  posts = λ tree page. begins_itself (posts_of (st.tally.posts tree page));
  done = λ tree key page c is. omega arith;
  cursor = λ tree page c is. omega arith;
  nodes = λ tree page. begins_itself (st.tally.nodes tree page);
  roots = λ tree. begins_itself (st.tally.roots tree);
  gone = λ a b is. is;
  next = λ tree. omega arith;
  unlinked = λ tree page some none. refl;
}

with_posts_grows : (st : Store) (tree page : ℕ) (posts : List Posted) → BeginsWith (posts_of (st.tally.posts tree page)) (posts_of posts)
    → Grows st (record st { tally = record st.tally { posts = at2 tree page posts st.tally.posts } })
with_posts_grows st tree page posts begins = record {
  log = begins_itself st.book.log;
  order = begins_itself st.order;
  links = λ t level link is. is;
  heads = λ c. inl refl;
  logged = λ c. begins_itself (posts_of (st.tally.logged c));
  posts = at2_by (λ t q p. BeginsWith (posts_of (st.tally.posts t q)) (posts_of p)) tree page posts st.tally.posts begins (λ t q. begins_itself (posts_of (st.tally.posts t q)));
  done = λ t key q c is. omega arith;
  cursor = λ t q c is. omega arith;
  nodes = λ t q. begins_itself (st.tally.nodes t q);
  roots = λ t. begins_itself (st.tally.roots t);
  gone = λ a b is. is;
  next = λ t. omega arith;
  unlinked = λ t q some none. refl;
}

-- one message more, or one marked
more_posts : (posts : List Posted) (post : Posted) → BeginsWith (posts_of posts) (posts_of (posts ++ post ∷ []))
more_posts posts post = (_ ∷ [], map-append _ posts (post ∷ []))

marked_posts : (posts : List Posted) (id : ℕ) → BeginsWith (posts_of posts) (posts_of (marked posts id))
marked_posts posts id = begins_same _ _ (posts_of-marked posts id)

pub logged_grows : (st : Store) (client : ℕ) (post : Posted) → Grows st (after_logged client post st)
logged_grows st client post = with_logged_grows st client (st.tally.logged client ++ post ∷ []) (more_posts (st.tally.logged client) post)

pub posted_grows : (st : Store) (tree page : ℕ) (post : Posted) → Grows st (after_posted tree page post st)
posted_grows st tree page post = with_posts_grows st tree page (st.tally.posts tree page ++ post ∷ []) (more_posts (st.tally.posts tree page) post)

pub log_mark_grows : (st : Store) (client id : ℕ) → Grows st (after_log_mark client id st)
log_mark_grows st client id = with_logged_grows st client (marked (st.tally.logged client) id) (marked_posts (st.tally.logged client) id)

pub post_mark_grows : (st : Store) (tree page id : ℕ) → Grows st (after_post_mark tree page id st)
post_mark_grows st tree page id = with_posts_grows st tree page (marked (st.tally.posts tree page) id) (marked_posts (st.tally.posts tree page) id)

-- ---- links

in_further : (first : Link) (links : List Link) (link : Link) → IsIn links link → IsIn (first ∷ links) link
in_further first links link is = (suc is.0, is.1)

abbrev no_links : List Link
no_links = []

-- nothing stands in the empty list
nowhere : (link : Link) (place : ℕ) → slice_get no_links place ≡ Some link → ⊥
nowhere link place e = cc

-- no link goes where new pages join a level
pub links_stay : (page : ℕ) (pieces links : List Link) (link : Link) → IsIn links link → IsIn (with_pieces page pieces links) link
links_stay page pieces [] link is = absurd (nowhere link is.0 is.1)
links_stay page pieces (first ∷ links) link (zero, there) = on (first.page == page)
  where
    on : (b : Bool) → IsIn (cond b (first ∷ (pieces ++ links)) (first ∷ with_pieces page pieces links)) link
    on true = (zero, there)
    on false = (zero, there)
links_stay page pieces (first ∷ links) link (suc place, there) = on (links_stay page pieces links link (place, there)) (first.page == page)
  where
    on : IsIn (with_pieces page pieces links) link → (b : Bool) → IsIn (cond b (first ∷ (pieces ++ links)) (first ∷ with_pieces page pieces links)) link
    on further true = in_further first (pieces ++ links) link (in_behind pieces links link (place, there))
    on further false = in_further first (with_pieces page pieces links) link further

-- ---- leaves

done_rises : (p : Taking) (done : ℕ → List ℕ → ℕ → ℕ → ℕ) (tree : ℕ) (key : List ℕ) (page client : ℕ) → done tree key page client ≤ done_after p done tree key page client
done_rises p done tree key page client = on (((tree == p.tree) && (page == p.queue)) && p.range key)
  where
    on : (b : Bool) → done tree key page client ≤ cond b (max (done tree key page client) (greatest_of p.run client)) (done tree key page client)
    on true = le-max_left (done tree key page client) (greatest_of p.run client)
    on false = omega arith

cursor_rises : (p : Taking) (cursor : ℕ → ℕ → ℕ → ℕ) (tree page client : ℕ) → cursor tree page client ≤ cursor_after p cursor tree page client
cursor_rises p cursor tree page client = on (((tree == p.tree) && (page == p.queue)) && (page == p.page))
  where
    on : (b : Bool) → cursor tree page client ≤ cond b (max (cursor tree page client) (greatest_of p.run client)) (cursor tree page client)
    on true = le-max_left (cursor tree page client) (greatest_of p.run client)
    on false = omega arith

-- a page that has a version and is in no chain is not the one that lands
other_page : (nodes : ℕ → ℕ → List Node) (tree page : ℕ) (more : List Node) (t q : ℕ) → ((t ≡ tree) → (q ≡ page) → ⊥)
    → at2 tree page (nodes tree page ++ more) nodes t q ≡ nodes t q
other_page nodes tree page more t q ne = on ((t == tree) && (q == page)) refl
  where
    on : (b : Bool) → (t == tree) && (q == page) ≡ b → cond b (nodes tree page ++ more) (nodes t q) ≡ nodes t q
    on true e = let p = and_parts (t == tree) (q == page) e in absurd (ne (eqb-true t tree p.0) (eqb-true q page p.1))
    on false e = refl

-- the page that lands is that of a link
pub leaf_grows : (st : Store) (p : Taking) (link : Link) → IsIn (st.book.chain p.tree 0) link → link.page ≡ p.page → Grows st (after_leaf p st)
leaf_grows st p link is page_is = record {
  log = begins_itself st.book.log;
  order = (_, refl);
  links = chain;
  heads = λ client. inl refl;
  logged = λ client. begins_itself (posts_of (st.tally.logged client));
  posts = λ tree page. begins_itself (posts_of (st.tally.posts tree page));
  done = λ tree key page client is. done_rises p st.tally.done tree key page client;
  cursor = λ tree page client is. cursor_rises p st.tally.cursor tree page client;
  nodes = at2_by (λ t q ns. BeginsWith (st.tally.nodes t q) ns) p.tree p.page _ st.tally.nodes (_, refl) (λ t q. begins_itself (st.tally.nodes t q));
  roots = λ tree. begins_itself (st.tally.roots tree);
  gone = λ a b is. is;
  next = λ tree. omega arith;
  unlinked = λ tree page some none. other_page st.tally.nodes p.tree p.page _ tree page (λ t q. none_of tree page none t q);
}
  where
    chain : (tree level : ℕ) (l : Link) → IsIn (st.book.chain tree level) l → IsIn (at2 p.tree 0 (with_pieces p.page p.pieces (st.book.chain p.tree 0)) st.book.chain tree level) l
    chain tree level l =
        at2_by (λ t k links. IsIn (st.book.chain t k) l → IsIn links l) p.tree 0 _ st.book.chain (links_stay p.page p.pieces (st.book.chain p.tree 0) l) (λ t k there. there) tree level

    none_of : (tree page : ℕ)
        → ((level : ℕ) (l : Link) → IsIn (at2 p.tree 0 (with_pieces p.page p.pieces (st.book.chain p.tree 0)) st.book.chain tree level) l → l.page ≢ page)
        → tree ≡ p.tree → page ≡ p.page → ⊥
    none_of tree page none t q = none 0 link (subst (λ k. IsIn (at2 p.tree 0 (with_pieces p.page p.pieces (st.book.chain p.tree 0)) st.book.chain k 0) link) (sym t) (chain p.tree 0 link is)) (page_is ∙ sym q)

-- ---- other pages, and roots

-- the cursor of a page that lands first does not fall where it was 0
pub page_grows : (st : Store) (tree page : ℕ) (node : Node) (own : ℕ → ℕ) → ((client : ℕ) → IsClient client → st.tally.cursor tree page client ≤ own client)
    → st.tally.nodes tree page ≡ [] → Grows st (after_page tree page node own st)
page_grows st tree page node own rises first = record {
  log = begins_itself st.book.log;
  order = begins_itself st.order;
  links = λ t level link is. is;
  heads = λ client. inl refl;
  logged = λ client. begins_itself (posts_of (st.tally.logged client));
  posts = λ t q. begins_itself (posts_of (st.tally.posts t q));
  done = λ t key q client is. omega arith;
  cursor = λ t q client is. at2_by (λ t q f. st.tally.cursor t q client ≤ f client) tree page own st.tally.cursor (rises client is) (λ t q. omega arith) t q;
  nodes = at2_by (λ t q ns. BeginsWith (st.tally.nodes t q) ns) tree page _ st.tally.nodes (_, refl) (λ t q. begins_itself (st.tally.nodes t q));
  roots = λ t. begins_itself (st.tally.roots t);
  gone = λ a b is. is;
  next = λ t. omega arith;
  unlinked = λ t q some none. other_page st.tally.nodes tree page (node ∷ []) t q (λ a b. some (subst (λ k. st.tally.nodes k q ≡ []) (sym a) (subst (λ k. st.tally.nodes tree k ≡ []) (sym b) first)));
}

pub inner_grows : (st : Store) (tree page : ℕ) (inner : Inner) (pieces : List Link) (link : Link) → IsIn (st.book.chain tree inner.level) link → link.page ≡ page
    → Grows st (after_inner tree page inner pieces st)
inner_grows st tree page inner pieces link is page_is = record {
  log = begins_itself st.book.log;
  order = begins_itself st.order;
  links = chain;
  heads = λ client. inl refl;
  logged = λ client. begins_itself (posts_of (st.tally.logged client));
  posts = λ t q. begins_itself (posts_of (st.tally.posts t q));
  done = λ t key q client is. omega arith;
  cursor = λ t q client is. omega arith;
  nodes = at2_by (λ t q ns. BeginsWith (st.tally.nodes t q) ns) tree page _ st.tally.nodes (_, refl) (λ t q. begins_itself (st.tally.nodes t q));
  roots = λ t. begins_itself (st.tally.roots t);
  gone = λ a b is. is;
  next = λ t. omega arith;
  unlinked = λ t q some none. other_page st.tally.nodes tree page _ t q (λ a b. none_of t q none a b);
}
  where
    chain : (t level : ℕ) (l : Link) → IsIn (st.book.chain t level) l → IsIn (at2 tree inner.level (with_pieces page pieces (st.book.chain tree inner.level)) st.book.chain t level) l
    chain t level l =
        at2_by (λ t k links. IsIn (st.book.chain t k) l → IsIn links l) tree inner.level _ st.book.chain (links_stay page pieces (st.book.chain tree inner.level) l) (λ t k there. there) t level

    none_of : (t q : ℕ)
        → ((level : ℕ) (l : Link) → IsIn (at2 tree inner.level (with_pieces page pieces (st.book.chain tree inner.level)) st.book.chain t level) l → l.page ≢ q)
        → t ≡ tree → q ≡ page → ⊥
    none_of t q none a b =
        none inner.level link (subst (λ k. IsIn (at2 tree inner.level (with_pieces page pieces (st.book.chain tree inner.level)) st.book.chain k inner.level) link) (sym a) (chain tree inner.level link is)) (page_is ∙ sym b)

-- the cursor of a tree never falls
pub cursor_grows : (st : Store) (tree : ℕ) (root : Tree) → CoversApplied st tree root → (t page client : ℕ) → IsClient client
    → st.tally.cursor t page client ≤ (after_root tree root st).tally.cursor t page client
cursor_grows st tree root covers t page client is =
    at2_by (λ u q f. st.tally.cursor u q client ≤ f client) tree 0 (λ c. number_of root.cursor c) st.tally.cursor (covers.rises client is) (λ u q. omega arith) t page

-- nor does its next free page
next_grows : (roots : List Tree) (root : Tree) → (top_of roots).next ≤ root.next → (top_of roots).next ≤ (top_of (roots ++ root ∷ [])).next
next_grows roots root more = let newest = ap (λ (t : Tree). t.next) (last_added empty_tree roots root) in omega (arith, more, newest)

pub root_grows : (st : Store) (tree : ℕ) (root : Tree) → CoversApplied st tree root → (top_of (st.tally.roots tree)).next ≤ root.next
    → Grows st (after_root tree root st)
root_grows st tree root covers more = record {
  log = begins_itself st.book.log;
  order = begins_itself st.order;
  links = λ t level link is. is;
  heads = λ client. inl refl;
  logged = λ client. begins_itself (posts_of (st.tally.logged client));
  posts = λ t q. begins_itself (posts_of (st.tally.posts t q));
  done = λ t key q client is. omega arith;
  cursor = cursor_grows st tree root covers;
  nodes = λ t q. begins_itself (st.tally.nodes t q);
  roots = at_by (λ t rs. BeginsWith (st.tally.roots t) rs) tree _ st.tally.roots (_, refl) (λ t. begins_itself (st.tally.roots t));
  gone = λ a b is. is;
  next = at_by (λ t rs. (top_of (st.tally.roots t)).next ≤ (top_of rs).next) tree _ st.tally.roots (next_grows (st.tally.roots tree) root more) (λ t. omega arith);
  unlinked = λ t q some none. refl;
}

-- a level that had no page gets some
pub raise_grows : (st : Store) (tree : ℕ) (root : Tree) (level : ℕ) (links : List Link) → CoversApplied st tree root → (top_of (st.tally.roots tree)).next ≤ root.next
    → st.book.chain tree level ≡ [] → Grows st (after_raise tree root level links st)
raise_grows st tree root level links covers more empty = let g = root_grows st tree root covers more in record {
  log = g.log;
  order = g.order;
  links = λ t k link is. at2_by (λ t k ls. IsIn (st.book.chain t k) link → IsIn ls link) tree level links st.book.chain (λ there. absurd (none link there)) (λ t k there. there) t k is;
  heads = g.heads;
  logged = g.logged;
  posts = g.posts;
  done = g.done;
  cursor = g.cursor;
  nodes = g.nodes;
  roots = g.roots;
  gone = g.gone;
  next = g.next;
  unlinked = λ t q some no. refl;
}
  where
    none : (link : Link) → IsIn (st.book.chain tree level) link → ⊥
    none link is = nowhere link is.0 (subst (λ ls. slice_get ls is.0 ≡ Some link) empty is.1)

-- ---- removed pages

pub removal_grows : (st : Store) (tree page : ℕ) → Grows st (after_removal tree page st)
removal_grows st tree page = let g = grows_itself st in record {
  log = g.log;
  order = g.order;
  links = g.links;
  heads = g.heads;
  logged = g.logged;
  posts = g.posts;
  done = g.done;
  cursor = g.cursor;
  nodes = g.nodes;
  roots = g.roots;
  gone = λ t q. at2_by (λ t q b. st.tally.gone t q ≡ true → b ≡ true) tree page true st.tally.gone (λ is. refl) (λ t q is. is) t q;
  next = g.next;
  unlinked = g.unlinked;
}

-- ---- what is known of what grows

-- a record that is applied stays so
pub applied_stays : (st su : Store) (r : AtomicRec) → Grows st su → IsClient r.client → IsApplied st.tally r → IsApplied su.tally r
applied_stays st su r g client applied = let rises = g.done r.tree (key_in r) r.page r.client client in omega (arith, rises, applied)
