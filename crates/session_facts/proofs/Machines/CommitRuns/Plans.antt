-- The leaves that a commit plans with.
use Rattle.std.proofs.Common.{◌≡◌, ◌+◌, ◌&&◌, ◌==◌, ◌⊎◌, inl, inr, ℕ, zero, suc, Bool, true, false, not, List, [], ◌∷◌, ◌++◌, length, drop, Option, Some, None, refl, sym, ap, subst, ◌∙◌, arith}
use Rattle.std.specs.Prelude.{if◌then◌else◌, slice_get, IsTrue, ◌||◌}
use Rattle.db_base.specs.Change.{goes_to_leaf, key_of}
use Rattle.std.specs.Option.{option_map, option_map_or}
use Rattle.std.proofs.lemmas.Bool.{and_parts, eqb-true}
use Rattle.byte_format.specs.Order.{bytes_below, below_bound}
use Rattle.cloud_facts.specs.Chains.Links.{first_link}
use Rattle.cloud_facts.specs.Chains.Chain.{ChainHolds}
use Rattle.cloud_facts.proofs.Calls.Searching.{found}
use Rattle.session_facts.specs.Machines.Commits.Knows.{MayCommit, IsLeafFor, AreLeavesFor}
use Rattle.commit_run.specs.Ended.{Ended, ended_of, spans, page_at, leaf_at}
use Rattle.commit_run.specs.Plan.{Plan, has_pending, page_without, pages_of, advanced, with_leaf, with_page}
use Rattle.session_facts.specs.Machines.CommitRuns.Knows.{IsLinked, KnowsPlan}
use Rattle.cloud_facts.specs.Words.{IsTree, Leaf, Book, Link, Store, IsIn}
use Rattle.db_base.specs.declared.change.Change.{Change}
use Rattle.head_codec.specs.declared.lists.Pending.{Pending}
use Rattle.node_codec.proofs.NodeLemmas.{not_below_empty}
use Rattle.cloud_facts.specs.Book.Growth.{Grows}
use Rattle.cloud_facts.specs.Book.Premises.{IsLeafAtMost}
use Rattle.cloud_facts.proofs.Book.Places.{get_cases, get_single, in_either, in_none}
use Rattle.session_facts.proofs.Machines.Commits.Others.{leaves_others}
use Rattle.txn_buffer.specs.Noted.{Noted}

-- ---- the leaf of a change

option_is : {X : Type 0} (x y : X) → Some x ≡ Some y → x ≡ y
option_is x y e = cc

-- a leaf at which a walk ended, and in whose range the key lies
spanned_leaf : (book : Book) (tree : ℕ) (key : List ℕ) (e : Ended) → IsLinked book e → spans tree key e ≡ true → IsLeafAtMost book tree e.page key
spanned_leaf book tree key e linked spanned = record {
  link = record { low = e.low; page = e.page };
  linked = subst (λ (t : ℕ). IsIn (book.chain t 0) (record { low = e.low; page = e.page })) (eqb-true e.tree tree both.0) linked;
  page_is = refl;
  low = below (bytes_below key e.low) (and_parts (not (bytes_below key e.low)) (below_bound key e.high) both.1).0;
}
  where
    both : ((e.tree == tree) ≡ true) × ((not (bytes_below key e.low) && below_bound key e.high) ≡ true)
    both = and_parts (e.tree == tree) (not (bytes_below key e.low) && below_bound key e.high) spanned

    below : (b : Bool) → not b ≡ true → b ≡ false
    below true e = absurd (cc)
    below false e = refl

-- the first of them
found_leaf : (book : Book) (ended : List Ended) (tree page : ℕ) (key : List ℕ) → ((e : Ended) → IsIn ended e → IsLinked book e) → page_at ended tree key ≡ Some page
    → IsLeafAtMost book tree page key
found_leaf book ended tree page key linked e = on (leaf_at ended tree key) refl e
  where
    on : (o : Option Ended) → leaf_at ended tree key ≡ o → option_map (λ (x : Ended). x.page) o ≡ Some page → IsLeafAtMost book tree page key
    on None none h = absurd (cc)
    on (Some x) is h =
        let there = found (spans tree key) ended x is in
        subst (λ (p : ℕ). IsLeafAtMost book tree p key) (option_is x.page page h) (spanned_leaf book tree key x (linked x there.0) there.1)

module _ (book : Book) (pending : List Pending) (ended : List Ended) (linked : (e : Ended) → IsIn ended e → IsLinked book e) where
  -- a change that needs no walk
  without_leaf : (tree page : ℕ) (change : Change) → page_without pending ended (record { tree = tree; change = change }) ≡ Some page → IsLeafFor book tree change page
  without_leaf tree page change e goes = found_leaf book ended tree page (key_of change) linked (sym (sought (goes_to_leaf change) goes) ∙ e)
    where
      sought : (b : Bool) → IsTrue b
          → (if b || has_pending pending tree (key_of change) then page_at ended tree (key_of change) else Some 1) ≡ page_at ended tree (key_of change)
      sought true h = refl
      sought false h = absurd (cc)

  planned_leaves : (changes : List Noted) → AreLeavesFor book changes (pages_of pending ended changes)
  planned_leaves [] place n page there paged = absurd (cc)
  planned_leaves (first ∷ changes) place n page there paged = on (page_without pending ended first) refl (λ i. planned_leaves changes i n page) place there paged
    where
      on : (o : Option ℕ) → page_without pending ended first ≡ o
          → ((i : ℕ) → slice_get changes i ≡ Some n → slice_get (pages_of pending ended changes) i ≡ Some page → IsLeafFor book n.tree n.change page) → (i : ℕ) → slice_get (first ∷ changes) i ≡ Some n
          → slice_get (option_map_or (λ p. p ∷ pages_of pending ended changes) o []) i ≡ Some page → IsLeafFor book n.tree n.change page
      on None e again i h g = absurd (cc)
      on (Some p) e again zero h g =
          let same : first ≡ n = option_is first n h in
          let to : p ≡ page = option_is p page g in
          subst (λ (m : Noted). IsLeafFor book m.tree m.change page) same (without_leaf first.tree page first.change (e ∙ ap (λ q. Some q) to))
      on (Some p) e again (suc i) h g = again i h g

-- ---- more pages

dropped_at : (changes : List Noted) (k i : ℕ) (n : Noted) → slice_get changes (k + i) ≡ Some n → slice_get (drop k changes) i ≡ Some n
dropped_at changes zero i n e = ap (slice_get changes) (omega arith) ∙ e
dropped_at [] (suc k) i n e = absurd (cc)
dropped_at (c ∷ changes) (suc k) i n e = dropped_at changes k i n (ap (slice_get (c ∷ changes)) suc_is ∙ e)
  where
    suc_is : suc (k + i) ≡ suc k + i
    suc_is = omega arith

more_leaves : (book : Book) (changes : List Noted) (pages more : List ℕ) → AreLeavesFor book changes pages → AreLeavesFor book (drop (length pages) changes) more
    → AreLeavesFor book changes (pages ++ more)
more_leaves book changes pages more old new place n page there paged = on (get_cases pages more place page paged)
  where
    on : (slice_get pages place ≡ Some page) ⊎ ((i : ℕ) × (place ≡ length pages + i) × (slice_get more i ≡ Some page)) → IsLeafFor book n.tree n.change page
    on (inl front) = old place n page there front
    on (inr (i, at, behind)) = new i n page (dropped_at changes (length pages) i n (ap (slice_get changes) (sym at) ∙ there)) behind

-- nothing is planned yet
pub empty_known : (book : Book) (changes : List Noted) → KnowsPlan book changes (record { pages = []; ended = [] })
empty_known book changes = record { pages = λ place n page there paged. absurd (cc); ended = λ e is. absurd (in_none [] e refl is) }

-- the pages of the next changes are known
pub advanced_known : (book : Book) (changes : List Noted) (p : Plan) (pending : List Pending) → KnowsPlan book changes p → KnowsPlan book changes (advanced p pending changes)
advanced_known book changes p pending k = record {
  pages = more_leaves book changes p.pages (pages_of pending p.ended (drop (length p.pages) changes)) k.pages
      (planned_leaves book pending p.ended k.ended (drop (length p.pages) changes));
  ended = k.ended;
}

-- page 1 is in the leaf chain of every tree, with the empty low key
pub first_leaf_for : (st : Store) → ChainHolds st → (tree : ℕ) (change : Change) → IsTree tree → IsLeafFor st.book tree change 1
first_leaf_for st chains tree change is goes =
    let leaves = (chains tree is).levels.leaves in
    record { link = first_link; linked = (zero, ap (λ (ls : List Link). slice_get ls 0) leaves.1); page_is = refl; low = not_below_empty (key_of change) }

-- the next change has page 1
pub first_known : (st : Store) (changes : List Noted) (p : Plan) → ChainHolds st → MayCommit changes → KnowsPlan st.book changes p → KnowsPlan st.book changes (with_page p 1)
first_known st changes p chains may k = record { pages = more_leaves st.book changes p.pages (1 ∷ []) k.pages last; ended = k.ended }
  where
    from_drop : (xs : List Noted) (m i : ℕ) (n : Noted) → slice_get (drop m xs) i ≡ Some n → slice_get xs (m + i) ≡ Some n
    from_drop xs zero i n e = ap (slice_get xs) (omega arith) ∙ e
    from_drop [] (suc m) i n e = absurd (cc)
    from_drop (x ∷ xs) (suc m) i n e = ap (slice_get (x ∷ xs)) suc_is ∙ from_drop xs m i n e
      where
        suc_is : suc m + i ≡ suc (m + i)
        suc_is = omega arith

    last : AreLeavesFor st.book (drop (length p.pages) changes) (1 ∷ [])
    last place n page there paged =
        subst (λ q. IsLeafFor st.book n.tree n.change q) (get_single 1 place page paged)
        (first_leaf_for st chains n.tree n.change (may.each n (length p.pages + place, from_drop changes (length p.pages) place n there)).0)

-- a walk ended at a leaf of the chain
pub leaf_known : (book : Book) (changes : List Noted) (p : Plan) (tree page : ℕ) (leaf : Leaf) → IsIn (book.chain tree 0) (record { low = leaf.low; page = page })
    → KnowsPlan book changes p → KnowsPlan book changes (with_leaf p tree page leaf)
leaf_known book changes p tree page leaf linked k = record { pages = k.pages; ended = λ e is. on e (in_either p.ended (ended_of tree page leaf ∷ []) e is) }
  where
    on : (e : Ended) → IsIn p.ended e ⊎ IsIn (ended_of tree page leaf ∷ []) e → IsLinked book e
    on e (inl old) = k.ended e old
    on e (inr new) = subst (IsLinked book) (get_single (ended_of tree page leaf) new.0 e new.1) linked

-- what was a link is one
pub plan_grows : (st su : Store) (changes : List Noted) (p : Plan) → Grows st su → KnowsPlan st.book changes p → KnowsPlan su.book changes p
plan_grows st su changes p grows k = record {
  pages = leaves_others st su changes p.pages grows k.pages;
  ended = λ e is. grows.links e.tree 0 (record { low = e.low; page = e.page }) (k.ended e is);
}
