-- Pages that are in no leaf chain, and roots.
use Rattle.std.proofs.Common.{◌≡◌, ◌≢◌, ◌<◌, false, ℕ, zero, suc, List, [], ◌∷◌, ◌++◌, map, Some, refl, sym, ap, ◌∙◌, arith}
use Rattle.db_base.specs.Cursor.{number_of}
use Rattle.db_base.specs.declared.names.ObjName.TheVariants as object
use Rattle.cloud_facts.specs.Words.{ObjName, Entry, Leaf, Inner, Tree, Version, CloudState, Caller, Book, Link, Node, Leafy, Branch, at, IsIn, nodes_of, roots_of, store_of}
use Rattle.cloud_trait.specs.State.{landed}
use Rattle.cloud_trait.specs.Names.{object_cmp}
use Rattle.cloud_trait.proofs.NameLemmas.{object_cmp-equal}
use Rattle.cloud_trait.proofs.StateLemmas.{put_at_by}
use Rattle.leaf_view.specs.Lookup.{empty_leaf, value_of, number_of as done_number}
use Rattle.node_codec.specs.Inner.{IsInner}
use Rattle.node_codec.specs.Tree.{IsTree, empty_tree}
use Rattle.cloud_facts.specs.Book.Book.{with_pieces}
use Rattle.cloud_facts.specs.Book.Effects.{after_page, after_inner, after_root, after_raise}
use Rattle.cloud_facts.specs.Book.Tally.{at2}
use Rattle.cloud_facts.specs.Book.Telling.{last_or, root_in, node_in, with_bytes, is_gone, gone_of, leaf_in, newest_leaf, page_from, page_for, leaf_for, newest_root, cursor_of}
use Rattle.cloud_facts.specs.Decoding.Kinds.{IsNode}
use Rattle.cloud_facts.proofs.Decoding.Reading.{node_reads, root_reads}
use Rattle.cloud_facts.proofs.Decoding.Versions.{bytes_added, there_added}
use Rattle.cloud_facts.specs.Tellings.Told.{Tells, own_of}
use Rattle.cloud_facts.proofs.Tellings.Easy.{alike}
use Rattle.cloud_facts.proofs.Tellings.Names.{put_page, put_tree, at_image, at2_image, at2_agree, at2_same, at2_beside, map_added}
use Rattle.cloud_facts.proofs.Tellings.Pages.{never_goes}
use Rattle.cloud_facts.proofs.Chains.Names.{at_same, at_other, last_added}

-- ---- a page lands

module _ (who : Caller) (tree page : ℕ) (bytes : List ℕ) (node : Node) (s : CloudState) (is : IsNode bytes node) where
  pub page_nodes : (t p : ℕ) → nodes_of (landed who (object.Page tree page) bytes s) t p ≡ at2 tree page (nodes_of s tree page ++ node ∷ []) (nodes_of s) t p
  page_nodes t p =
      ap (λ (vs : List Version). map node_in (with_bytes vs)) (put_page s.versions tree page (s.versions (object.Page tree page) ++ record { who = who; bytes = Some bytes } ∷ []) t p)
      ∙ at2_image (λ (vs : List Version). map node_in (with_bytes vs)) tree page
      (s.versions (object.Page tree page) ++ record { who = who; bytes = Some bytes } ∷ []) (nodes_of s tree page ++ node ∷ [])
      (λ x y. s.versions (object.Page x y)) t p
      (ap (map node_in) (bytes_added who bytes (s.versions (object.Page tree page)))
      ∙ map_added node_in (with_bytes (s.versions (object.Page tree page))) (record { who = who; bytes = Some bytes }) node
      (node_reads (record { who = who; bytes = Some bytes }) bytes node refl is))

  -- what was removed is as before
  pub page_gone : gone_of s tree page ≡ false → (t p : ℕ) → gone_of (landed who (object.Page tree page) bytes s) t p ≡ gone_of s t p
  page_gone there t p =
      put_at_by (λ (q : ObjName) (vs : List Version). is_gone vs ≡ is_gone (s.versions q)) object_cmp object_cmp-equal s.versions
      (object.Page tree page) (s.versions (object.Page tree page) ++ record { who = who; bytes = Some bytes } ∷ [])
      (there_added who bytes (s.versions (object.Page tree page)) ∙ sym there) (λ q. refl) (object.Page t p)

  -- the newest leaf of the page is the node, and those of other pages are as before
  pub newest_at : (t p : ℕ)
      → newest_leaf (nodes_of (landed who (object.Page tree page) bytes s)) t p ≡ at2 tree page (leaf_in node) (newest_leaf (nodes_of s)) t p
  newest_at t p =
      ap (λ (ns : List Node). leaf_in (last_or (Leafy empty_leaf) ns)) (page_nodes t p)
      ∙ at2_image (λ (ns : List Node). leaf_in (last_or (Leafy empty_leaf) ns)) tree page (nodes_of s tree page ++ node ∷ []) (leaf_in node) (nodes_of s) t p
      (ap leaf_in (last_added (Leafy empty_leaf) (nodes_of s tree page) node))

  pub newest_there : (t p : ℕ) → ((t ≡ tree) × (p ≡ page) → ⊥)
      → newest_leaf (nodes_of (landed who (object.Page tree page) bytes s)) t p ≡ newest_leaf (nodes_of s) t p
  newest_there t p ne =
      newest_at t p
      ∙ sym (at2_agree (λ x. x) tree page (leaf_in node) (newest_leaf (nodes_of s)) t p (newest_leaf (nodes_of s) t p) (λ x y. absurd (ne (x, y))) (λ no. refl))

  pub newest_here : newest_leaf (nodes_of (landed who (object.Page tree page) bytes s)) tree page ≡ leaf_in node
  newest_here = newest_at tree page ∙ at2_same tree page (leaf_in node) (newest_leaf (nodes_of s)) tree page refl refl

  -- the numbers of the page's own queue are the node's, and those of other queues are as before
  pub page_cursors : page ≢ 0 → (t p c : ℕ)
      → cursor_of (landed who (object.Page tree page) bytes s) t p c ≡ at2 tree page (own_of page node) (cursor_of s) t p c
  page_cursors some t zero c = at2_agree (λ f. f c) tree page (own_of page node) (cursor_of s) t zero _ (λ x y. absurd (some (sym y))) (λ no. refl)
  page_cursors some t (suc p) c =
      at2_agree (λ f. f c) tree page (own_of page node) (cursor_of s) t (suc p) _
      (λ x y. (λ i. done_number (newest_leaf (nodes_of (landed who (object.Page tree page) bytes s)) (x i) (y i)).done (y i) c)
      ∙ ap (λ (l : Leaf). done_number l.done page c) newest_here)
      (λ no. ap (λ (l : Leaf). done_number l.done (suc p) c) (newest_there t (suc p) no))

  -- a key that does not go to the page finds the leaf that it found
  pub leaf_stays : (book : Book) (t : ℕ) (key : List ℕ) → ((t ≡ tree) → page_for book t key ≡ page → ⊥)
      → leaf_for book (nodes_of (landed who (object.Page tree page) bytes s)) t key ≡ leaf_for book (nodes_of s) t key
  leaf_stays book t key ne = newest_there t (page_for book t key) (λ p. ne p.0 p.1)

-- the links of the leaf chain of a tree are of other pages than this one
abbrev pub IsNoLeaf : Book → ℕ → ℕ → Type 0
IsNoLeaf book tree page = (link : Link) → IsIn (book.chain tree 0) link → link.page ≢ page

elsewhere : (book : Book) (tree page t : ℕ) (key : List ℕ) → page ≢ 1 → IsNoLeaf book tree page → t ≡ tree → page_for book t key ≡ page → ⊥
elsewhere book tree page t key above none same e = never_goes book tree page key above none (ap (λ (x : ℕ). page_for book x key) (sym same) ∙ e)

-- a page that is in no chain lands
pub page_told : (who : Caller) (tree page : ℕ) (bytes : List ℕ) (node : Node) (book : Book) (order : List Entry) (s : CloudState) → IsNode bytes node
    → gone_of s tree page ≡ false → 1 < page → IsNoLeaf book tree page
    → Tells (landed who (object.Page tree page) bytes s) (after_page tree page node (own_of page node) (store_of book order s))
page_told who tree page bytes node book order s is there above none = alike _ _ (record {
  head = λ c. refl;
  logged = λ c. refl;
  posts = λ t p. refl;
  cursor = page_cursors who tree page bytes node s is (λ e. omega (arith, e, above));
  done = λ t key p c. ap (λ (l : Leaf). done_number l.done p c) (leaf t key);
  value = λ t key. ap (λ (l : Leaf). value_of key l.records) (leaf t key);
  nodes = page_nodes who tree page bytes node s is;
  gone = page_gone who tree page bytes node s is there;
  roots = λ t. refl;
})
  where
    leaf : (t : ℕ) (key : List ℕ) → leaf_for book (nodes_of (landed who (object.Page tree page) bytes s)) t key ≡ leaf_for book (nodes_of s) t key
    leaf t key = leaf_stays who tree page bytes node s is book t key (elsewhere book tree page t key (λ e. omega (arith, e, above)) none)

-- an inner node lands on a page that is no leaf
pub inner_told : (who : Caller) (tree page : ℕ) (bytes : List ℕ) (inner : Inner) (pieces : List Link) (book : Book) (order : List Entry) (s : CloudState)
    → IsInner bytes inner → gone_of s tree page ≡ false
    → page ≢ 0 → page ≢ 1 → inner.level ≢ 0 → IsNoLeaf book tree page → newest_leaf (nodes_of s) tree page ≡ empty_leaf
    → Tells (landed who (object.Page tree page) bytes s) (after_inner tree page inner pieces (store_of book order s))
inner_told who tree page bytes inner pieces book order s is there some above level none branch = alike _ _ (record {
  head = λ c. refl;
  logged = λ c. refl;
  posts = λ t p. refl;
  cursor = λ t p c. page_cursors who tree page bytes (Branch inner) s is some t p c ∙ sym (cursor t p c);
  done = λ t key p c. ap (λ (l : Leaf). done_number l.done p c) (leaf t key);
  value = λ t key. ap (λ (l : Leaf). value_of key l.records) (leaf t key);
  nodes = page_nodes who tree page bytes (Branch inner) s is;
  gone = page_gone who tree page bytes (Branch inner) s is there;
  roots = λ t. refl;
})
  where
    after : Book
    after = record book { chain = at2 tree inner.level (with_pieces page pieces (book.chain tree inner.level)) book.chain }

    goes : (t : ℕ) (key : List ℕ) → page_for after t key ≡ page_for book t key
    goes t key =
        ap (page_from 1 key) (at2_beside tree inner.level (with_pieces page pieces (book.chain tree inner.level)) book.chain t 0 (λ e. level (sym e)))

    leaf : (t : ℕ) (key : List ℕ) → leaf_for after (nodes_of (landed who (object.Page tree page) bytes s)) t key ≡ leaf_for book (nodes_of s) t key
    leaf t key =
        ap (λ (p : ℕ). newest_leaf (nodes_of (landed who (object.Page tree page) bytes s)) t p) (goes t key)
        ∙ leaf_stays who tree page bytes (Branch inner) s is book t key (elsewhere book tree page t key above none)

    cursor : (t p c : ℕ) → cursor_of s t p c ≡ at2 tree page (own_of page (Branch inner)) (cursor_of s) t p c
    cursor t p c =
        at2_agree (λ f. f c) tree page (own_of page (Branch inner)) (cursor_of s) t p (cursor_of s t p c)
        (λ x y. (λ i. cursor_of s (x i) (y i) c) ∙ own page some branch) (λ no. refl)
      where
        own : (p : ℕ) → p ≢ 0 → newest_leaf (nodes_of s) tree p ≡ empty_leaf → cursor_of s tree p c ≡ 0
        own zero ne e = absurd (ne refl)
        own (suc p) ne e = ap (λ (l : Leaf). done_number l.done (suc p) c) e

-- ---- roots

module _ (who : Caller) (tree : ℕ) (bytes : List ℕ) (root : Tree) (s : CloudState) (is : IsTree bytes root) where
  tree_roots : (t : ℕ) → roots_of (landed who (object.Tree tree) bytes s) t ≡ at tree (roots_of s tree ++ root ∷ []) (roots_of s) t
  tree_roots t =
      ap (map root_in) (put_tree s.versions tree (s.versions (object.Tree tree) ++ record { who = who; bytes = Some bytes } ∷ []) t)
      ∙ at_image (map root_in) tree (s.versions (object.Tree tree) ++ record { who = who; bytes = Some bytes } ∷ []) (roots_of s tree ++ root ∷ [])
      (λ n. s.versions (object.Tree n)) t
      (map_added root_in (s.versions (object.Tree tree)) (record { who = who; bytes = Some bytes }) root
      (root_reads (record { who = who; bytes = Some bytes }) bytes root refl is))

  newest_root_at : (t : ℕ) → newest_root (roots_of (landed who (object.Tree tree) bytes s)) t ≡ at tree root (newest_root (roots_of s)) t
  newest_root_at t =
      ap (last_or empty_tree) (tree_roots t)
      ∙ at_image (last_or empty_tree) tree (roots_of s tree ++ root ∷ []) root (roots_of s) t (last_added empty_tree (roots_of s tree) root)

  tree_cursors : (t p c : ℕ) → cursor_of (landed who (object.Tree tree) bytes s) t p c ≡ at2 tree 0 (λ client. number_of root.cursor client) (cursor_of s) t p c
  tree_cursors t zero c =
      at2_agree (λ f. f c) tree 0 (λ client. number_of root.cursor client) (cursor_of s) t 0 _
      (λ x y. ap (λ (r : Tree). number_of r.cursor c) (newest_root_at t ∙ at_same tree root (newest_root (roots_of s)) t x))
      (λ no. ap (λ (r : Tree). number_of r.cursor c) (newest_root_at t ∙ at_other tree root (newest_root (roots_of s)) t (λ x. no (x, refl))))
  tree_cursors t (suc p) c =
      at2_agree (λ f. f c) tree 0 (λ client. number_of root.cursor client) (cursor_of s) t (suc p) _ (λ x y. absurd (omega (arith, y))) (λ no. refl)

-- a root lands
pub root_told : (who : Caller) (tree : ℕ) (bytes : List ℕ) (root : Tree) (book : Book) (order : List Entry) (s : CloudState) → IsTree bytes root
    → Tells (landed who (object.Tree tree) bytes s) (after_root tree root (store_of book order s))
root_told who tree bytes root book order s is = alike _ _ (record {
  head = λ c. refl;
  logged = λ c. refl;
  posts = λ t p. refl;
  cursor = tree_cursors who tree bytes root s is;
  done = λ t key p c. refl;
  value = λ t key. refl;
  nodes = λ t p. refl;
  gone = λ t p. refl;
  roots = tree_roots who tree bytes root s is;
})

-- a root lands that is one level higher
pub raise_told : (who : Caller) (tree : ℕ) (bytes : List ℕ) (root : Tree) (level : ℕ) (links : List Link) (book : Book) (order : List Entry)
    (s : CloudState) → IsTree bytes root → level ≢ 0
    → Tells (landed who (object.Tree tree) bytes s) (after_raise tree root level links (store_of book order s))
raise_told who tree bytes root level links book order s is above = alike _ _ (record {
  head = λ c. refl;
  logged = λ c. refl;
  posts = λ t p. refl;
  cursor = tree_cursors who tree bytes root s is;
  done = λ t key p c. ap (λ (q : ℕ). done_number (newest_leaf (nodes_of s) t q).done p c) (goes t key);
  value = λ t key. ap (λ (q : ℕ). value_of key (newest_leaf (nodes_of s) t q).records) (goes t key);
  nodes = λ t p. refl;
  gone = λ t p. refl;
  roots = tree_roots who tree bytes root s is;
})
  where
    goes : (t : ℕ) (key : List ℕ) → page_for (record book { chain = at2 tree level links book.chain }) t key ≡ page_for book t key
    goes t key = ap (page_from 1 key) (at2_beside tree level links book.chain t 0 (λ e. above (sym e)))
