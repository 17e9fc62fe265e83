-- A leaf that is read under its lease, where a way stands: it has the low key that led there, and leads on to the right or has the key.
use Rattle.std.proofs.Common.{◌≡◌, ◌+◌, ◌≤◌, ◌==◌, ◌⊎◌, inl, inr, ℕ, zero, suc, Bool, true, false, cond, nat_lt, ◌&&◌, ◌||◌, List, [], ◌∷◌, ◌++◌, Option, Some, None, Result, Ok, refl, sym, ap, subst, ◌∙◌, arith}
use Rattle.std.specs.Prelude.{slice_get}
use Rattle.std.proofs.lemmas.Bool.{eqb-true, ltb-false}
use Rattle.byte_format.specs.Order.{bytes_below}
use Rattle.byte_format.specs.Whole.{whole, offset}
use Rattle.cloud_facts.specs.Chains.Chain.{IsChained}
use Rattle.cloud_facts.proofs.Chains.GoneLemmas.{links_kept}
use Rattle.cloud_facts.specs.Chains.Links.{newest_node, EndsBefore, IsOfLevel}
use Rattle.cloud_facts.proofs.Chains.Newest.{IsNewestOf, newest_is}
use Rattle.cloud_facts.proofs.Chains.Pieces.{ascend_next}
use Rattle.cloud_facts.specs.Meanings.Meets.{IsPassed}
use Rattle.cloud_facts.proofs.Meanings.Steps.{passed_right, left_right, not_passed}
use Rattle.cloud_facts.specs.Words.{IsTree, Trouble, Entry, PuItem, Leaf, CloudState, newest, Book, Link, Store, Node, Leafy, Branch, IsIn, nodes_of, roots_of, store_of, StandsUnder}
use Rattle.db_base.specs.Change.{key_of}
use Rattle.db_base.specs.declared.names.ObjName.TheVariants as object
use Rattle.cloud_facts.specs.Decoding.Kinds.{IsNode}
use Rattle.cloud_facts.proofs.Decoding.Values.{newest_page_decodes}
use Rattle.leaf_edit.specs.Lacked.{is_lacked, lacked}
use Rattle.leaf_view.specs.Leaf.{IsLeaf, leaf as leaf_format}
use Rattle.leaf_view.specs.Lookup.{empty_leaf, holds, page_at, number_of as done_number}
use Rattle.run_cursor.specs.Covered.{is_seen}
use Rattle.cloud_facts.specs.Book.Tally.{low_of}
use Rattle.cloud_facts.specs.Book.Telling.{last_or, leaf_in, newest_leaf, newest_root}
use Rattle.cloud_facts.proofs.Book.Places.{in_front, in_behind}
use Rattle.cloud_facts.specs.Tellings.Taking.{IsLinked}
use Rattle.cloud_facts.proofs.Tellings.Finding.{found_before}
use Rattle.tree_phases.proofs.Reading.{leaf_is}
use Rattle.tree_phases.specs.Read.{leaf_or, leaf_read}
use Rattle.tree_ckpt.specs.Working.{HoldsLeaf}
use Rattle.session_facts.specs.Machines.Trees.Ways.{IsOnWay}
use Rattle.session_facts.proofs.Machines.Trees.Forks.{in_more}
use Rattle.cloud_facts.proofs.Calls.Pages.{none_landed}
use Rattle.session_facts.proofs.Machines.Trees.Seen.{seen_in}

-- a right page that is named
named_right : (n page : ℕ) → page_at n ≡ Some page → n ≡ page
named_right zero page e = absurd (cc)
named_right (suc n) page e = cc

leafy : (node : Node) → IsOfLevel 0 node → node ≡ Leafy (leaf_in node)
leafy (Leafy l) level = refl
leafy (Branch n) level = absurd (omega (arith, level.1))

-- what is not lacked is applied in the leaf
none_lacked : (l : Leaf) (run : List PuItem) → lacked l 0 run ≡ [] → (x : PuItem) → IsIn run x → is_lacked l 0 x ≡ false
none_lacked l [] e x (place, there) = absurd (cc)
none_lacked l (z ∷ zs) e x is_in = turn (is_lacked l 0 z) refl e (none_lacked l zs) is_in
  where
    turn : (b : Bool) → is_lacked l 0 z ≡ b → cond b (z ∷ lacked l 0 zs) (lacked l 0 zs) ≡ [] → (lacked l 0 zs ≡ [] → (w : PuItem) → IsIn zs w → is_lacked l 0 w ≡ false)
        → IsIn (z ∷ zs) x → is_lacked l 0 x ≡ false
    turn true h f again at = absurd (cc)
    turn false h f again (zero, there) = let same : z ≡ x = cc in subst (λ (w : PuItem). is_lacked l 0 w ≡ false) same h
    turn false h f again (suc place, there) = again f x (place, there)

module _ (book : Book) (order : List Entry) (s : CloudState) (stands : StandsUnder book order s) (tree : ℕ) (of_tree : IsTree tree) (page : ℕ) (low key : List ℕ) (visited : List ℕ)
    (way : IsOnWay (book.chain tree) 0 page low key visited) where
  abbrev st : Store
  st = store_of book order s

  abbrev leaf : Leaf
  leaf = newest_leaf (nodes_of s) tree page

  chained : IsChained (book.chain tree) (nodes_of s tree) (roots_of s tree) (st.tally.done tree) (st.tally.cursor tree 0)
  chained = stands.holds.chains tree of_tree

  abbrev link : Link
  link = record { low = low; page = page }

  newest_of : IsNewestOf 0 link (newest_node (nodes_of s tree) page)
  newest_of =
      newest_is (book.chain tree) (nodes_of s tree) (newest_root (roots_of s) tree).level chained.levels chained.versions chained.newest 0 link way.at.linked

  -- the newest version of the page is a leaf with the low key that led there
  pub leaf_newest : newest_node (nodes_of s tree) page ≡ Leafy leaf
  leaf_newest = leafy (newest_node (nodes_of s tree) page) newest_of.level_is

  pub leaf_low : leaf.low ≡ low
  leaf_low = ap low_of (sym leaf_newest) ∙ newest_of.low

  -- page 1 alone may be absent
  pub leaf_absent : nodes_of s tree page ≡ [] → page ≡ 1
  leaf_absent none = (chained.newest.absent 0 link way.at.linked none).1

  pub leaf_linked : IsLinked (book.chain tree 0) page
  leaf_linked = record { place = way.at.linked.0; link = link; linked = way.at.linked.1; page_is = refl }

  -- what a held get brings is that leaf
  pub absent_is : newest s (object.Page tree page) ≡ None → (page ≡ 1) × (leaf ≡ empty_leaf)
  absent_is none =
      let nothing = none_landed s tree page stands.decodes (links_kept st stands.holds.gones tree 0 link way.at.linked) none in
      (leaf_absent nothing, ap (λ (ns : List Node). leaf_in (last_or (Leafy empty_leaf) ns)) nothing)

  pub spelled_is : (bytes : List ℕ) → newest s (object.Page tree page) ≡ Some bytes → leaf_read tree page bytes ≡ Ok leaf
  spelled_is bytes e =
      let spells : IsLeaf bytes leaf = subst (λ (n : Node). IsNode bytes n) leaf_newest (newest_page_decodes s tree page bytes stands.decodes e) in
      sym (leaf_is tree page bytes leaf spells)

  pub whole_is : (bytes : List ℕ) → newest s (object.Page tree page) ≡ Some bytes → (r : Result Leaf ℕ) → whole leaf_format bytes ≡ r → leaf_or tree page (offset leaf_format bytes) r ≡ Ok leaf
  whole_is bytes e r is = subst (λ (x : Result Leaf ℕ). leaf_or tree page (offset leaf_format bytes) x ≡ Ok leaf) is (spelled_is bytes e)

  pub held_is : (got : Option (List ℕ)) (l : Leaf) → newest s (object.Page tree page) ≡ got → HoldsLeaf page l got → l ≡ leaf
  held_is (Some bytes) l e holds = same l (whole_is bytes e (Ok l) holds)
    where
      same : (m : Leaf) → ◌≡◌ {A = Result Leaf Trouble} (Ok m) (Ok leaf) → m ≡ leaf
      same m e = cc
  held_is None l e holds = holds.1 ∙ sym (absent_is e).1

  -- ---- to the right

  ends : EndsBefore (Leafy leaf) (slice_get (book.chain tree 0) (way.at.linked.0 + 1))
  ends =
      subst (λ (n : Node). EndsBefore n (slice_get (book.chain tree 0) (way.at.linked.0 + 1))) leaf_newest
      (chained.newest.ends 0 way.at.linked.0 link way.at.linked.1)

  pub leaf_right : (high : List ℕ) (right : ℕ) → leaf.high ≡ Some high → page_at leaf.right ≡ Some right → bytes_below key high ≡ false
      → IsOnWay (book.chain tree) 0 right high key (visited ++ page ∷ [])
  leaf_right high right is named out = on (slice_get (book.chain tree 0) (way.at.linked.0 + 1)) refl ends
    where
      on : (next : Option Link) → slice_get (book.chain tree 0) (way.at.linked.0 + 1) ≡ next → EndsBefore (Leafy leaf) next
          → IsOnWay (book.chain tree) 0 right high key (visited ++ page ∷ [])
      on None e n = let no : None ≡ Some high = sym n.high ∙ is in absurd (cc)
      on (Some next) e n = record { at = record { linked = linked; from = out }; behind = behind }
        where
          low_is : next.low ≡ high
          low_is = let both : Some next.low ≡ Some high = sym n.high ∙ is in cc

          page_is : next.page ≡ right
          page_is = sym n.right ∙ named_right leaf.right right named

          next_is : next ≡ record { low = high; page = right }
          next_is = λ i. record { low = low_is i; page = page_is i }

          linked : IsIn (book.chain tree 0) (record { low = high; page = right })
          linked = subst (λ (x : Link). IsIn (book.chain tree 0) x) next_is (way.at.linked.0 + 1, e)

          further : slice_get (book.chain tree 0) (suc way.at.linked.0) ≡ Some next
          further = let after : way.at.linked.0 + 1 ≡ suc way.at.linked.0 = omega arith in subst (λ (n : ℕ). slice_get (book.chain tree 0) n ≡ Some next) after e

          beyond : bytes_below low high ≡ true
          beyond = ap (bytes_below low) (sym low_is) ∙ ascend_next None (book.chain tree 0) way.at.linked.0 link next (chained.levels.ascends 0) way.at.linked.1 further

          behind : (p : ℕ) → IsIn (visited ++ page ∷ []) p → IsPassed (book.chain tree) 0 high p
          behind p there = turn (in_more visited page p there)
            where
              turn : IsIn visited p ⊎ (page ≡ p) → IsPassed (book.chain tree) 0 high p
              turn (inl old) = passed_right (book.chain tree) 0 low high p beyond (way.behind p old)
              turn (inr same) = subst (IsPassed (book.chain tree) 0 high) same (left_right (book.chain tree) 0 page low high key way.at beyond)

  -- it is no page that was passed
  pub right_fresh : (high : List ℕ) (right : ℕ) → IsOnWay (book.chain tree) 0 right high key (visited ++ page ∷ []) → ((right == page) || is_seen visited right) ≡ false
  right_fresh high right w = on (right == page) refl
    where
      never : IsIn (visited ++ page ∷ []) right → ⊥
      never there =
          not_passed (book.chain tree) (nodes_of s tree) (roots_of s tree) (st.tally.done tree) (st.tally.cursor tree 0) chained 0 right high key w.at (w.behind right there)

      seen : (b : Bool) → is_seen visited right ≡ b → b ≡ false
      seen true e = absurd (never (in_front visited (page ∷ []) right (seen_in visited right e)))
      seen false e = refl

      on : (b : Bool) → (right == page) ≡ b → (b || is_seen visited right) ≡ false
      on true e = absurd (never (in_behind visited (page ∷ []) right (zero, ap (λ (p : ℕ). Some p) (sym (eqb-true right page e)))))
      on false e = seen (is_seen visited right) refl

  -- ---- a leaf that lacks nothing of a run has applied the run's records of its range

  pub nothing_lacked : (run : List PuItem) → lacked leaf 0 run ≡ [] → (x : PuItem) → IsIn run x → holds leaf (key_of x.rec.change) ≡ true
      → x.rec.number ≤ st.tally.done tree (key_of x.rec.change) 0 x.rec.client
  nothing_lacked run none x is within =
      subst (λ (l : Leaf). x.rec.number ≤ done_number l.done 0 x.rec.client)
      (sym (found_before book s tree page (newest_root (roots_of s) tree).level chained.levels chained.versions chained.newest leaf_linked (key_of x.rec.change) within))
      (ltb-false (done_number leaf.done 0 x.rec.client) x.rec.number
      (ap (λ b. b && nat_lt (done_number leaf.done 0 x.rec.client) x.rec.number) (sym within) ∙ none_lacked leaf run none x is))
