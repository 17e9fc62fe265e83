-- What the objects that a walk used show to be applied: a head without such entries lacks applied ones alone.
use Rattle.std.proofs.Common.{◌≡◌, ◌≤◌, ◌==◌, ◌&&◌, ◌⊎◌, inl, inr, ℕ, zero, suc, Bool, true, false, cond, not, List, [], ◌∷◌, refl, sym, ap, subst, ◌∙◌, arith}
use Rattle.std.specs.Prelude.{filter, nat_le}
use Rattle.std.proofs.lemmas.Bool.{and_parts, eqb-true, leb-true}
use Rattle.cloud_facts.specs.Chains.Chain.{ChainHolds}
use Rattle.cloud_facts.specs.Calls.Acting.{IsPruned}
use Rattle.db_base.specs.Change.{key_of}
use Rattle.db_base.specs.Cursor.{number_of}
use Rattle.cloud_facts.specs.Words.{IsClient, IsTree, AtomicRec, Head, Leaf, Tree, Store, Leafy, IsIn}
use Rattle.head_codec.specs.declared.lists.Pending.{Pending}
use Rattle.leaf_view.specs.Lookup.{holds, number_of as done_number}
use Rattle.cloud_facts.specs.Numbers.Numbers.{Numbers}
use Rattle.cloud_facts.specs.Pendings.Pending.{IsOwn, Pends}
use Rattle.route_plan.specs.Prune.{is_applied_in, pruned_by_leaf, is_covered_by, pruned_by_tree}
use Rattle.route_plan.specs.Record.{pending_of}
use Rattle.cloud_facts.specs.Book.Premises.{IsAppliedEntry, IsLeafAtMost}
use Rattle.session_facts.specs.Machines.Openings.Client.{AreOfRecords}
use Rattle.session_facts.specs.Machines.Walks.Caches.{IsSeenRoot, IsSeenLeaf}

-- ---- lists without some of their elements

module _ {X : Type 0} (test : X → Bool) where
  kept_cases : (xs : List X) (x : X) → IsIn xs x → IsIn (filter (λ y. not (test y)) xs) x ⊎ (test x ≡ true)
  kept_cases [] x (place, there) = absurd (cc (there))
  kept_cases (y ∷ xs) x (zero, there) = on (test y) refl
    where
      same : y ≡ x
      same = cc (there)

      on : (b : Bool) → test y ≡ b → IsIn (cond (not b) (y ∷ filter (λ z. not (test z)) xs) (filter (λ z. not (test z)) xs)) x ⊎ (test x ≡ true)
      on true e = inr (ap test (sym same) ∙ e)
      on false e = inl (zero, there)
  kept_cases (y ∷ xs) x (suc place, there) = on (test y) (kept_cases xs x (place, there))
    where
      more : (b : Bool) → IsIn (filter (λ z. not (test z)) xs) x → IsIn (cond (not b) (y ∷ filter (λ z. not (test z)) xs) (filter (λ z. not (test z)) xs)) x
      more true is = is
      more false is = (suc is.0, is.1)

      on : (b : Bool) → IsIn (filter (λ z. not (test z)) xs) x ⊎ (test x ≡ true)
          → IsIn (cond (not b) (y ∷ filter (λ z. not (test z)) xs) (filter (λ z. not (test z)) xs)) x ⊎ (test x ≡ true)
      on b (inl is) = inl (more b is)
      on b (inr e) = inr e

  pub kept_from : (xs : List X) (x : X) → IsIn (filter (λ y. not (test y)) xs) x → IsIn xs x
  kept_from [] x is = is
  kept_from (y ∷ xs) x is = on (test y) (kept_from xs x) is
    where
      on : (b : Bool) → (IsIn (filter (λ z. not (test z)) xs) x → IsIn xs x)
          → IsIn (cond (not b) (y ∷ filter (λ z. not (test z)) xs) (filter (λ z. not (test z)) xs)) x → IsIn (y ∷ xs) x
      on true more is = let old = more is in (suc old.0, old.1)
      on false more (zero, there) = (zero, there)
      on false more (suc place, there) = let old = more (place, there) in (suc old.0, old.1)

-- ---- heads

-- a head without the entries that pass a test, each of which is applied
without : (st : Store) (client : ℕ) (head : Head) (test : Pending → Bool) → ((p : Pending) → IsIn head.pending p → test p ≡ true → IsAppliedEntry st.tally client p)
    → IsPruned st.tally client head (record head { pending = filter (λ p. not (test p)) head.pending })
without st client head test applied = record {
  epoch = refl;
  txn = refl;
  phase = refl;
  counters = refl;
  kept = λ p is. on p is (kept_cases test head.pending p is);
  from = λ p is. kept_from test head.pending p is;
}
  where
    on : (p : Pending) → IsIn head.pending p → IsIn (filter (λ q. not (test q)) head.pending) p ⊎ (test p ≡ true)
        → IsIn (filter (λ q. not (test q)) head.pending) p ⊎ IsAppliedEntry st.tally client p
    on p is (inl old) = inl old
    on p is (inr e) = inr (applied p is e)

-- those of its newest head are, and so those of that head pruned
pub own_entries : (st : Store) (client : ℕ) (head : Head) → Pends st → IsClient client → IsPruned st.tally client (st.tally.head client) head
    → AreOfRecords st.book.log client head.pending
own_entries st client head pends is k p there = (pends.heads client is).of_records p (k.from p there)

module _ (st : Store) (h : ChainHolds st) (client tree : ℕ) (is : IsClient client) (of_tree : IsTree tree) where
  -- ---- by a leaf

  table_within : (page : ℕ) (key : List ℕ) (l : Leaf) → IsLeafAtMost st.book tree page key → IsSeenLeaf (st.tally.nodes tree page) page l
      → (k : List ℕ) → holds l k ≡ true → (queue : ℕ) → done_number l.done queue client ≤ st.tally.done tree k queue client
  table_within page key l at (inl none) k holds_it queue =
      let same : done_number l.done queue client ≡ 0 = ap (λ (x : Leaf). done_number x.done queue client) none.1 in omega (arith, same)
  table_within page key l at (inr landed) k holds_it queue =
      (h tree of_tree).covered.leaves at.link (Leafy l) at.linked (subst (λ (p : ℕ). IsIn (st.tally.nodes tree p) (Leafy l)) (sym at.page_is) landed) k holds_it queue client is

  leaf_shows : (page : ℕ) (key : List ℕ) (l : Leaf) → IsLeafAtMost st.book tree page key → IsSeenLeaf (st.tally.nodes tree page) page l → (p : Pending)
      → is_applied_in l client tree p ≡ true → IsAppliedEntry st.tally client p
  leaf_shows page key l at seen p e =
      let a = and_parts ((p.tree == tree) && holds l (key_of p.change)) (nat_le p.number (done_number l.done p.page client)) e in
      let b = and_parts (p.tree == tree) (holds l (key_of p.change)) a.0 in
      let upto = leb-true p.number (done_number l.done p.page client) a.1 in
      let within = table_within page key l at seen (key_of p.change) b.1 p.page in
      subst (λ (t : ℕ). p.number ≤ st.tally.done t (key_of p.change) p.page client) (sym (eqb-true p.tree tree b.0)) (omega (arith, upto, within))

  -- a landed version of a page of the leaf chain shows applied entries alone
  pub leaf_prunes : (head : Head) (page : ℕ) (key : List ℕ) (l : Leaf) → IsLeafAtMost st.book tree page key → IsSeenLeaf (st.tally.nodes tree page) page l
      → IsPruned st.tally client head (pruned_by_leaf head client tree l)
  leaf_prunes head page key l at seen = without st client head (is_applied_in l client tree) (λ p there e. leaf_shows page key l at seen p e)

  -- ---- by a root

  cursor_within : (root : Tree) → IsSeenRoot (st.tally.roots tree) root → number_of root.cursor client ≤ st.tally.cursor tree 0 client
  cursor_within root (inl none) = let same : number_of root.cursor client ≡ 0 = ap (λ (x : Tree). number_of x.cursor client) none in omega (arith, same)
  cursor_within root (inr landed) = (h tree of_tree).covered.cursors root landed client is

  -- a record of the tree's queue at or below the cursor is applied
  record_applied : Numbers st → (r : AtomicRec) → IsOwn st.book.log client r → r.tree ≡ tree → r.page ≡ 0 → r.number ≤ st.tally.cursor tree 0 client
      → IsAppliedEntry st.tally client (pending_of r)
  record_applied numbers r own tree_is page_is upto =
      subst (λ (c : ℕ). r.number ≤ st.tally.done r.tree (key_of r.change) r.page c) own.client_is
      (numbers.covered r own.logged
      (subst (λ (c : ℕ). r.number ≤ st.tally.cursor r.tree r.page c) (sym own.client_is)
      (subst (λ (t : ℕ). r.number ≤ st.tally.cursor t r.page client) (sym tree_is)
      (subst (λ (p : ℕ). r.number ≤ st.tally.cursor tree p client) (sym page_is) upto))))

  root_shows : Numbers st → (root : Tree) → IsSeenRoot (st.tally.roots tree) root → (r : AtomicRec) → IsOwn st.book.log client r
      → is_covered_by root client tree (pending_of r) ≡ true → IsAppliedEntry st.tally client (pending_of r)
  root_shows numbers root seen r own e =
      let a = and_parts ((r.tree == tree) && (r.page == 0)) (nat_le r.number (number_of root.cursor client)) e in
      let b = and_parts (r.tree == tree) (r.page == 0) a.0 in
      let upto = leb-true r.number (number_of root.cursor client) a.1 in
      let within = cursor_within root seen in
      record_applied numbers r own (eqb-true r.tree tree b.0) (eqb-true r.page 0 b.1) (omega (arith, upto, within))

  -- a landed root shows applied entries alone
  pub root_prunes : Numbers st → (head : Head) → AreOfRecords st.book.log client head.pending → (root : Tree) → IsSeenRoot (st.tally.roots tree) root
      → IsPruned st.tally client head (pruned_by_tree head client tree root)
  root_prunes numbers head own root seen = without st client head (is_covered_by root client tree) shows
    where
      shows : (p : Pending) → IsIn head.pending p → is_covered_by root client tree p ≡ true → IsAppliedEntry st.tally client p
      shows p there e =
          let r = own p there in
          subst (λ (q : Pending). IsAppliedEntry st.tally client q) (sym r.2)
          (root_shows numbers root seen r.0 r.1 (subst (λ (q : Pending). is_covered_by root client tree q ≡ true) r.2 e))
