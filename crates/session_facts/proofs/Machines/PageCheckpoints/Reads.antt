-- What the held get of a page shows: the newest version of the page that was named, and at a right page the leaf that its link promised.
use Rattle.std.proofs.Common.{◌≡◌, ◌==◌, inl, inr, ℕ, zero, Bool, true, false, cond, List, [], Option, Some, None, Result, Ok, Err, refl, sym, ap, subst, ◌∙◌}
use Rattle.std.proofs.lemmas.Bool.{eqb-true, eq-eqb}
use Rattle.std.specs.Prelude.{◌-◌, length, slice_get}
use Rattle.byte_format.specs.Order.{bytes_same}
use Rattle.byte_format.proofs.OrderLemmas.{same_itself}
use Rattle.cloud_facts.specs.Chains.Chain.{IsChained}
use Rattle.cloud_facts.proofs.Chains.GoneLemmas.{links_kept}
use Rattle.cloud_facts.specs.Chains.Links.{first_link, newest_node}
use Rattle.ckpt_parts.specs.Leaves.{bad_fence, fenced, HoldsLeaf, HoldsLinked}
use Rattle.cloud_facts.specs.Words.{IsTree, Trouble, Entry, Leaf, Inner, Version, CloudState, newest, Book, Link, Node, Leafy, Branch, IsIn, nodes_of, roots_of, store_of, StandsUnder}
use Rattle.cloud_facts.proofs.Calls.Firsts.{newest_leafy, chain_leaf}
use Rattle.cloud_facts.proofs.Calls.Pages.{none_landed, some_landed}
use Rattle.db_base.specs.declared.names.ObjName.TheVariants as object
use Rattle.db_base.specs.declared.trouble.Trouble.TheVariants as trouble
use Rattle.cloud_facts.specs.Decoding.Kinds.{IsNode}
use Rattle.cloud_facts.proofs.Decoding.Newest.{newest_last}
use Rattle.cloud_facts.proofs.Decoding.Reading.{node_reads}
use Rattle.cloud_facts.proofs.Decoding.Values.{newest_page_decodes}
use Rattle.leaf_view.specs.Leaf.{IsLeaf}
use Rattle.leaf_view.specs.Lookup.{empty_leaf}
use Rattle.node_codec.specs.Inner.{IsInner}
use Rattle.page_ckpt.specs.Paging.{IsNoInner, HoldsNamed}
use Rattle.ckpt_parts.specs.Leaves.{IsNoLeaf}
use Rattle.session_facts.proofs.Machines.Runs.Leaves.{absent_page, spelled_page}
use Rattle.cloud_facts.specs.Book.Tally.{low_of}
use Rattle.cloud_facts.specs.Book.Telling.{leaf_in, node_in, gone_of, newest_leaf, newest_root}
use Rattle.cloud_facts.proofs.Chains.Newest.{newest_is}
use Rattle.session_facts.specs.Machines.PageCheckpoints.Knows.{MayStopPage}
use Rattle.session_facts.specs.Machines.PageCheckpoints.Rights.{IsNewestLeaf}

-- what the get of a named page comes to: the newest leaf of the page, or why the checkpoint may stop
abbrev pub IsNamed : (ℕ → List Node) → ℕ → Result Leaf Trouble → Type 0
IsNamed nodes page (Ok l) = IsNewestLeaf nodes page l
IsNamed nodes page (Err t) = MayStopPage page t

-- what the get of a right page comes to: its newest leaf, with the low key that led there
pub record IsLinkedLeaf (nodes : ℕ → List Node) (page : ℕ) (low : List ℕ) (found : Result Leaf Trouble) : Type 0 where
  pub leaf : Leaf
  pub is : found ≡ Ok leaf
  pub newest : IsNewestLeaf nodes page leaf
  pub low_is : leaf.low ≡ low

-- a page with newest bytes has a version
some_version : (s : CloudState) (tree page : ℕ) (bytes : List ℕ) → newest s (object.Page tree page) ≡ Some bytes → nodes_of s tree page ≡ [] → ⊥
some_version s tree page bytes e none =
    let no : Some bytes ≡ None = sym e ∙ some_landed s tree page none in
    cc

-- bytes that decode spell a leaf or an inner node
node_spelled : (bytes : List ℕ) (node : Node) → IsNode bytes node → IsNoLeaf bytes → IsNoInner bytes → ⊥
node_spelled bytes (Leafy l) is no_leaf no_inner = no_leaf l is
node_spelled bytes (Branch n) is no_leaf no_inner = no_inner n is

module _ (book : Book) (order : List Entry) (s : CloudState) (stands : StandsUnder book order s) (tree : ℕ) (of_tree : IsTree tree) where
  spelled_newest : (page : ℕ) (bytes : List ℕ) (l : Leaf) → newest s (object.Page tree page) ≡ Some bytes → IsLeaf bytes l → IsNewestLeaf (nodes_of s tree) page l
  spelled_newest page bytes l e spells = record { is = spelled_page s tree page bytes l stands.decodes e spells; absent = λ none. absurd (some_version s tree page bytes e none) }

  -- ---- a page of the leaf chain

  module _ (link : Link) (linked : IsIn (book.chain tree 0) link) where
    abbrev leaf : Leaf
    leaf = newest_leaf (nodes_of s) tree link.page

    leafy : newest_node (nodes_of s tree) link.page ≡ Leafy leaf
    leafy = newest_leafy book order s stands tree of_tree link linked

    first_alone : nodes_of s tree link.page ≡ [] → link.page ≡ 1
    first_alone = (chain_leaf book order s stands tree of_tree link linked).absent

    low : leaf.low ≡ link.low
    low =
        let h : IsChained (book.chain tree) (nodes_of s tree) (roots_of s tree) _ _ = stands.holds.chains tree of_tree in
        ap low_of (sym leafy) ∙ (newest_is (book.chain tree) (nodes_of s tree) (newest_root (roots_of s) tree).level h.levels h.versions h.newest 0 link linked).low

    kept : gone_of s tree link.page ≡ false
    kept = links_kept (store_of book order s) stands.holds.gones tree 0 link linked

    abbrev Found : Type 0
    Found = Result Leaf Trouble

    abbrev ok : Leaf → Found
    ok l = Ok l

    -- the leaf itself is read
    plain_is : (got : Option (List ℕ)) (plain : Found) → newest s (object.Page tree link.page) ≡ got → HoldsLeaf tree link.page got plain → plain ≡ Ok leaf
    plain_is None plain e is =
        is ∙ (ap (λ (b : Bool). cond b (ok empty_leaf) (Err (trouble.Absent link.page))) (eq-eqb link.page 1 (first_alone (none_landed s tree link.page stands.decodes kept e)))
        ∙ ap ok (sym (ap leaf_in (absent_page s tree link.page stands.decodes kept e))))
    plain_is (Some bytes) plain e (inl (l, spells, is)) = is ∙ ap ok (sym (ap leaf_in (spelled_page s tree link.page bytes l stands.decodes e spells)))
    plain_is (Some bytes) plain e (inr (no_leaf, is)) =
        absurd (no_leaf leaf (subst (IsNode bytes) leafy (newest_page_decodes s tree link.page bytes stands.decodes e)))

    -- whatever names it
    pub named_leaf : (got : Option (List ℕ)) (found : Found) → newest s (object.Page tree link.page) ≡ got → HoldsNamed tree link.page got found → found ≡ Ok leaf
    named_leaf None found e is = plain_is None found e is
    named_leaf (Some bytes) found e (inl (n, spells, is)) = absurd (both (sym as_inner ∙ as_leaf))
      where
        last : (v : Version) × (slice_get (s.versions (object.Page tree link.page)) (length (s.versions (object.Page tree link.page)) - 1) ≡ Some v) × (v.bytes ≡ Some bytes)
        last = newest_last (s.versions (object.Page tree link.page)) bytes e

        as_inner : node_in last.0 ≡ Branch n
        as_inner = node_reads last.0 bytes (Branch n) last.2 spells

        as_leaf : node_in last.0 ≡ Leafy leaf
        as_leaf =
            node_reads last.0 bytes (Leafy leaf) last.2
            (subst (IsNode bytes) leafy (newest_page_decodes s tree link.page bytes stands.decodes e))

        both : Branch n ≡ Leafy leaf → ⊥
        both q = absurd (cc)
    named_leaf (Some bytes) found e (inr (no_inner, reads)) = plain_is (Some bytes) found e reads

    pub linked_is : (got : Option (List ℕ)) (found : Found) → newest s (object.Page tree link.page) ≡ got → HoldsLinked tree link.page link.low got found
        → IsLinkedLeaf (nodes_of s tree) link.page link.low found
    linked_is got found e (plain, holds, is) = record {
      leaf = leaf;
      is = is ∙ (ap (fenced link.page link.low) (plain_is got plain e holds) ∙ ap (λ (b : Bool). cond b (ok leaf) (Err (bad_fence link.page link.low leaf))) same);
      newest = record { is = leafy; absent = first_alone };
      low_is = low;
    }
      where
        same : bytes_same link.low leaf.low ≡ true
        same = ap (bytes_same link.low) low ∙ same_itself link.low

  -- ---- the page that was named

  -- page 1 is a leaf
  first : IsIn (book.chain tree 0) first_link
  first = (zero, ap (λ (ls : List Link). slice_get ls 0) (stands.holds.chains tree of_tree).levels.leaves.1)

  no_inner_first : (page : ℕ) (bytes : List ℕ) (n : Inner) → newest s (object.Page tree page) ≡ Some bytes → IsInner bytes n → page ≡ 1 → ⊥
  no_inner_first page bytes n e spells is = never (named_leaf first_link first (Some bytes) (Err (trouble.NotALeaf 1)) here (inl (n, spells, refl)))
    where
      here : newest s (object.Page tree 1) ≡ Some bytes
      here = subst (λ (p : ℕ). newest s (object.Page tree p) ≡ Some bytes) is e

      never : {l : Leaf} → ◌≡◌ {A = Result Leaf Trouble} (Err (trouble.NotALeaf 1)) (Ok l) → ⊥
      never same = cc

  pub named_is : (page : ℕ) (got : Option (List ℕ)) (found : Result Leaf Trouble) → newest s (object.Page tree page) ≡ got → HoldsNamed tree page got found
      → IsNamed (nodes_of s tree) page found
  named_is page None found e is = subst (IsNamed (nodes_of s tree) page) (sym is) (on (page == 1) refl)
    where
      on : (b : Bool) → (page == 1) ≡ b → IsNamed (nodes_of s tree) page (cond b (Ok empty_leaf) (Err (trouble.Absent page)))
      on true one =
          let kept = subst (λ (p : ℕ). gone_of s tree p ≡ false) (sym (eqb-true page 1 one)) (links_kept (store_of book order s) stands.holds.gones tree 0 first_link first) in
          record { is = absent_page s tree page stands.decodes kept e; absent = λ none. eqb-true page 1 one }
      on false other = (refl, λ one. let clash : true ≡ false = sym (eq-eqb page 1 one) ∙ other in cc)
  named_is page (Some bytes) found e (inl (n, spells, is)) = subst (IsNamed (nodes_of s tree) page) (sym is) (refl, no_inner_first page bytes n e spells)
  named_is page (Some bytes) found e (inr (no_inner, inl (l, spells, is))) = subst (IsNamed (nodes_of s tree) page) (sym is) (spelled_newest page bytes l e spells)
  named_is page (Some bytes) found e (inr (no_inner, inr (no_leaf, is))) =
      absurd (node_spelled bytes (newest_node (nodes_of s tree) page) (newest_page_decodes s tree page bytes stands.decodes e) no_leaf no_inner)
