-- The chains after each kind of call that lands.
use Rattle.std.proofs.Common.{◌≡◌, ◌≢◌, ◌≤◌, ℕ, max, List, [], ◌∷◌, ◌++◌, refl, sym, subst, Bool, true, false, arith}
use Rattle.std.specs.Prelude.{◌==◌, ◌&&◌, if◌then◌else◌}
use Rattle.std.proofs.lemmas.Bool.{eqb-true, cond_both}
use Rattle.cloud_facts.specs.Words.{IsClient, IsTree, AtomicRec, Head, Inner, Tree, Posted, Link, Store, Node, Leafy, Branch, at}
use Rattle.db_base.specs.Cursor.{number_of}
use Rattle.leaf_edit.specs.Raised.{greatest_of}
use Rattle.cloud_facts.specs.Book.Book.{with_pieces}
use Rattle.cloud_facts.specs.Book.Effects.{Taking, done_after, cursor_after, after_head, after_logged, after_posted, after_log_mark, after_post_mark, after_leaf, after_page, after_inner, after_root, after_raise, after_removal}
use Rattle.cloud_facts.specs.Book.Premises.{Takes, LandsFirst, CoversApplied}
use Rattle.cloud_facts.specs.Chains.Chain.{IsChained, ChainHolds}
use Rattle.cloud_facts.specs.Chains.Landing.{LandsLeaf, LandsInner, LandsNew, LandsRoot, Raises}
use Rattle.cloud_facts.specs.Chains.Links.{top_of}
use Rattle.cloud_facts.proofs.Chains.Joining.{joined, added, Covers, lands_keeps}
use Rattle.cloud_facts.proofs.Chains.LeafLanding.{leaf_covers, done_rises}
use Rattle.cloud_facts.proofs.Chains.Names.{at_other}
use Rattle.cloud_facts.proofs.Chains.Roots.{page_keeps, chained_more, root_keeps, raise_keeps}

-- ---- heads and messages

pub after_head_keeps : (st : Store) (client : ℕ) (head : Head) (more : List AtomicRec) → ChainHolds st → ChainHolds (after_head client head more st)
after_head_keeps st client head more h = h

pub after_logged_keeps : (st : Store) (client : ℕ) (post : Posted) → ChainHolds st → ChainHolds (after_logged client post st)
after_logged_keeps st client post h = h

pub after_posted_keeps : (st : Store) (tree page : ℕ) (post : Posted) → ChainHolds st → ChainHolds (after_posted tree page post st)
after_posted_keeps st tree page post h = h

pub after_log_mark_keeps : (st : Store) (client id : ℕ) → ChainHolds st → ChainHolds (after_log_mark client id st)
after_log_mark_keeps st client id h = h

pub after_post_mark_keeps : (st : Store) (tree page id : ℕ) → ChainHolds st → ChainHolds (after_post_mark tree page id st)
after_post_mark_keeps st tree page id h = h

-- ---- removed pages

pub after_removal_keeps : (st : Store) (tree page : ℕ) → ChainHolds st → ChainHolds (after_removal tree page st)
after_removal_keeps st tree page h = h

-- ---- one tree among all

-- the function with another value at one name, where that is so
abbrev placed : {V : Type 0} → Bool → ℕ → V → (ℕ → V) → ℕ → V
placed b name value f n = if b && (n == name) then value else f n

-- ---- leaves

cursor_rises : (p : Taking) (cursor : ℕ → ℕ → ℕ → ℕ) (tree page client : ℕ) → cursor tree page client ≤ cursor_after p cursor tree page client
cursor_rises p cursor tree page client =
    cond_both (((tree == p.tree) && (page == p.queue)) && (page == p.page)) (max (cursor tree page client) (greatest_of p.run client)) (cursor tree page client)
    (λ (n : ℕ). cursor tree page client ≤ n) (λ e. omega arith) (λ e. omega arith)

pub after_leaf_keeps : (st : Store) (p : Taking) → ChainHolds st → Takes st p → LandsLeaf st p → ChainHolds (after_leaf p st)
after_leaf_keeps st p h takes lands tree is = on (tree == p.tree) refl
  where
    lifted : (chain : ℕ → List Link) (nodes : ℕ → List Node) → (done : List ℕ → ℕ → ℕ → ℕ)
        → ((key : List ℕ) (page client : ℕ) → IsClient client → done key page client ≤ done_after p st.tally.done tree key page client)
        → IsChained chain nodes (st.tally.roots tree) done (st.tally.cursor tree 0)
        → IsChained chain nodes (st.tally.roots tree) (done_after p st.tally.done tree) (cursor_after p st.tally.cursor tree 0)
    lifted chain nodes done rises c =
        chained_more chain nodes (st.tally.roots tree) done (done_after p st.tally.done tree) (st.tally.cursor tree 0) (cursor_after p st.tally.cursor tree 0)
        rises (λ client _. cursor_rises p st.tally.cursor tree 0 client) c

    here : IsTree p.tree → IsChained (joined 0 p.page p.pieces (st.book.chain p.tree)) (added p.page (Leafy p.leaf) (st.tally.nodes p.tree))
        (st.tally.roots p.tree)
        (done_after p st.tally.done p.tree) (st.tally.cursor p.tree 0)
    here is =
        let c = h p.tree is in
        lands_keeps (st.book.chain p.tree) (st.tally.nodes p.tree) (st.tally.roots p.tree) (st.tally.done p.tree) (done_after p st.tally.done p.tree)
        (st.tally.cursor p.tree 0)
        0 p.page (Leafy p.leaf) p.pieces c lands.lands (leaf_covers st p (top_of (st.tally.roots p.tree)).level c.levels takes lands)

    on : (b : Bool) → (tree == p.tree) ≡ b → IsChained (placed b 0 (with_pieces p.page p.pieces (st.book.chain p.tree 0)) (st.book.chain tree))
        (placed b p.page (st.tally.nodes p.tree p.page ++ Leafy p.leaf ∷ []) (st.tally.nodes tree)) (st.tally.roots tree)
        (done_after p st.tally.done tree) (cursor_after p st.tally.cursor tree 0)
    on false e = lifted (st.book.chain tree) (st.tally.nodes tree) (st.tally.done tree)
        (λ key page client _. done_rises p st.tally.done tree key page client) (h tree is)
    on true e =
        let same : tree ≡ p.tree = eqb-true tree p.tree e in
        lifted (at 0 (with_pieces p.page p.pieces (st.book.chain p.tree 0)) (st.book.chain tree))
        (at p.page (st.tally.nodes p.tree p.page ++ Leafy p.leaf ∷ []) (st.tally.nodes tree))
        (done_after p st.tally.done tree) (λ key page client _. omega arith)
        (subst (λ (t : ℕ). IsChained (at 0 (with_pieces p.page p.pieces (st.book.chain p.tree 0)) (st.book.chain t))
        (at p.page (st.tally.nodes p.tree p.page ++ Leafy p.leaf ∷ []) (st.tally.nodes t)) (st.tally.roots t) (done_after p st.tally.done t)
        (st.tally.cursor t 0))
        (sym same) (here (subst IsTree same is)))

-- ---- other pages

pub after_page_keeps : (st : Store) (tree page : ℕ) (node : Node) (own : ℕ → ℕ) → ChainHolds st → LandsFirst st tree page own → LandsNew st tree page node
    → ChainHolds (after_page tree page node own st)
after_page_keeps st tree page node own h first lands t is = on (t == tree) refl
  where
    some : 1 ≤ page
    some = omega (arith, first.page_is)

    here : IsTree tree → IsChained (st.book.chain tree) (added page node (st.tally.nodes tree)) (st.tally.roots tree) (st.tally.done tree)
        (st.tally.cursor tree 0)
    here is = page_keeps (st.book.chain tree) (st.tally.nodes tree) (st.tally.roots tree) (st.tally.done tree) (st.tally.cursor tree 0) page node (h tree is)
        (record { some = some; absent = lands.absent; reserved = lands.reserved; unlinked = first.unlinked; names = lands.names })

    not_own : 0 ≢ page
    not_own e = absurd (omega (arith, e, some))

    on : (b : Bool) → (t == tree) ≡ b → IsChained (st.book.chain t) (placed b page (st.tally.nodes tree page ++ node ∷ []) (st.tally.nodes t))
        (st.tally.roots t) (st.tally.done t)
        (placed b page own (st.tally.cursor t) 0)
    on false e = h t is
    on true e =
        let same : t ≡ tree = eqb-true t tree e in
        let cursor : at page own (st.tally.cursor t) 0 ≡ st.tally.cursor t 0 = at_other page own (st.tally.cursor t) 0 not_own in
        subst (λ (c : ℕ → ℕ). IsChained (st.book.chain t) (at page (st.tally.nodes tree page ++ node ∷ []) (st.tally.nodes t)) (st.tally.roots t)
        (st.tally.done t) c) (sym cursor)
        (subst (λ (x : ℕ). IsChained (st.book.chain x) (at page (st.tally.nodes tree page ++ node ∷ []) (st.tally.nodes x)) (st.tally.roots x)
        (st.tally.done x) (st.tally.cursor x 0))
        (sym same) (here (subst IsTree same is)))

inner_covers : (st : Store) (tree page : ℕ) (inner : Inner) (pieces : List Link) → LandsInner st tree page inner pieces
    → Covers (st.tally.nodes tree) inner.level (Branch inner) pieces (st.tally.done tree) (st.tally.done tree)
inner_covers st tree page inner pieces lands = record {
  rises = λ key page client c. omega arith;
  node_is = λ z. tt;
  pieces_are = λ z. absurd (omega (arith, z, lands.level_is.1));
}

pub after_inner_keeps : (st : Store) (tree page : ℕ) (inner : Inner) (pieces : List Link) → ChainHolds st → LandsInner st tree page inner pieces
    → ChainHolds (after_inner tree page inner pieces st)
after_inner_keeps st tree page inner pieces h lands t is = on (t == tree) refl
  where
    here : IsTree tree → IsChained (joined inner.level page pieces (st.book.chain tree)) (added page (Branch inner) (st.tally.nodes tree))
        (st.tally.roots tree) (st.tally.done tree) (st.tally.cursor tree 0)
    here is = lands_keeps (st.book.chain tree) (st.tally.nodes tree) (st.tally.roots tree) (st.tally.done tree) (st.tally.done tree) (st.tally.cursor tree 0)
        inner.level page (Branch inner) pieces (h tree is) lands (inner_covers st tree page inner pieces lands)

    on : (b : Bool) → (t == tree) ≡ b → IsChained (placed b inner.level (with_pieces page pieces (st.book.chain tree inner.level)) (st.book.chain t))
        (placed b page (st.tally.nodes tree page ++ Branch inner ∷ []) (st.tally.nodes t)) (st.tally.roots t) (st.tally.done t) (st.tally.cursor t 0)
    on false e = h t is
    on true e =
        let same : t ≡ tree = eqb-true t tree e in
        subst (λ (x : ℕ). IsChained (at inner.level (with_pieces page pieces (st.book.chain tree inner.level)) (st.book.chain x))
        (at page (st.tally.nodes tree page ++ Branch inner ∷ []) (st.tally.nodes x)) (st.tally.roots x) (st.tally.done x) (st.tally.cursor x 0))
        (sym same) (here (subst IsTree same is))

-- ---- roots

-- the cursors and the roots of all trees, after a root of one of them
abbrev cursors_after : Store → ℕ → Tree → Bool → ℕ → ℕ → ℕ
cursors_after st tree root b t = placed b 0 (λ client. number_of root.cursor client) (st.tally.cursor t) 0

abbrev roots_after : Store → ℕ → Tree → Bool → ℕ → List Tree
roots_after st tree root b t = if b then st.tally.roots tree ++ root ∷ [] else st.tally.roots t

pub after_root_keeps : (st : Store) (tree : ℕ) (root : Tree) → ChainHolds st → CoversApplied st tree root → LandsRoot st tree root
    → ChainHolds (after_root tree root st)
after_root_keeps st tree root h covers lands t is = on (t == tree) refl
  where
    here : IsTree tree → IsChained (st.book.chain tree) (st.tally.nodes tree) (st.tally.roots tree ++ root ∷ []) (st.tally.done tree)
        (λ client. number_of root.cursor client)
    here is = root_keeps (st.book.chain tree) (st.tally.nodes tree) (st.tally.roots tree) (st.tally.done tree) (st.tally.cursor tree 0) root (h tree is)
        (record { level = lands.level; next = let more = lands.next in omega (arith, more); names = lands.names; rises = covers.rises })

    on : (b : Bool) → (t == tree) ≡ b → IsChained (st.book.chain t) (st.tally.nodes t) (roots_after st tree root b t) (st.tally.done t)
        (cursors_after st tree root b t)
    on false e = h t is
    on true e =
        let same : t ≡ tree = eqb-true t tree e in
        subst (λ (x : ℕ). IsChained (st.book.chain x) (st.tally.nodes x) (st.tally.roots tree ++ root ∷ []) (st.tally.done x)
        (λ client. number_of root.cursor client))
        (sym same) (here (subst IsTree same is))

pub after_raise_keeps : (st : Store) (tree : ℕ) (root : Tree) (level : ℕ) (links : List Link) → ChainHolds st → CoversApplied st tree root
    → Raises st tree root level links
    → ChainHolds (after_raise tree root level links st)
after_raise_keeps st tree root level links h covers lands t is = on (t == tree) refl
  where
    here : IsTree tree → IsChained (at level links (st.book.chain tree)) (st.tally.nodes tree) (st.tally.roots tree ++ root ∷ [])
        (st.tally.done tree) (λ client. number_of root.cursor client)
    here is = raise_keeps (st.book.chain tree) (st.tally.nodes tree) (st.tally.roots tree) (st.tally.done tree)
        (st.tally.cursor tree 0) root level links (h tree is)
        (record {
          level_is = lands.level_is;
          height = lands.height;
          next = let same = lands.next in omega (arith, same);
          names = lands.names;
          begins = lands.begins;
          ascends = lands.ascends;
          pieces_are = lands.pieces_are;
          new = lands.new;
          rises = covers.rises;
        })

    on : (b : Bool) → (t == tree) ≡ b → IsChained (placed b level links (st.book.chain t)) (st.tally.nodes t) (roots_after st tree root b t)
        (st.tally.done t) (cursors_after st tree root b t)
    on false e = h t is
    on true e =
        let same : t ≡ tree = eqb-true t tree e in
        subst (λ (x : ℕ). IsChained (at level links (st.book.chain x)) (st.tally.nodes x) (st.tally.roots tree ++ root ∷ []) (st.tally.done x)
        (λ client. number_of root.cursor client))
        (sym same) (here (subst IsTree same is))
