-- What the put of a leaf that takes a run whole rests on, and what is applied behind it.
use Rattle.std.proofs.Common.{◌≡◌, ◌≤◌, ◌==◌, ℕ, zero, suc, Bool, true, false, cond, List, [], ◌∷◌, filter, max, refl, sym, ap, subst, ◌∙◌, arith}
use Rattle.std.specs.Prelude.{◌&&◌, nat_lt}
use Rattle.std.proofs.lemmas.Bool.{and_from, eq-eqb, ltb-false}
use Rattle.db_base.specs.Change.{key_of}
use Rattle.db_base.specs.Cursor.{number_of}
use Rattle.cloud_facts.specs.Words.{IsClient, IsTree, Entry, PuItem, Leaf, CloudState, Caller, Book, Store, IsIn, nodes_of, roots_of, store_of, StandsUnder}
use Rattle.cloud_facts.specs.Chains.Chain.{IsChained}
use Rattle.cloud_facts.specs.Chains.Landing.{LandsLeaf}
use Rattle.cloud_facts.specs.Calls.Standing.{IsTaken}
use Rattle.leaf_edit.specs.Applied.{applied}
use Rattle.leaf_edit.specs.Lacked.{is_lacked, lacked}
use Rattle.leaf_edit.specs.Raised.{greatest_of}
use Rattle.leaf_view.specs.Leaf.{IsLeaf}
use Rattle.leaf_view.specs.Lookup.{holds, number_of as done_number}
use Rattle.run_cursor.specs.Run.{IsRun}
use Rattle.cloud_facts.specs.Book.Effects.{Taking, is_lacking, lacking, after_leaf}
use Rattle.cloud_facts.specs.Book.Premises.{IsItemOf, Takes}
use Rattle.cloud_facts.specs.Book.Telling.{leaf_for, newest_leaf, newest_root}
use Rattle.cloud_facts.specs.Tellings.Taking.{leaf_take, AreClients, taking_of, IsLinked, LandsTaken}
use Rattle.cloud_facts.proofs.Tellings.Finding.{found_before}
use Rattle.cloud_facts.proofs.Tellings.Laws.{whole_taken, taken_lands}
use Rattle.cloud_facts.proofs.Tellings.Ready.{taken_takes}
use Rattle.session_facts.proofs.Machines.Runs.Taken.{consecutive, run_in, top_upto, upto_greatest}

clients_of : (run : List PuItem) → ((x : PuItem) → IsIn run x → IsClient x.rec.client) → AreClients run
clients_of [] each = tt
clients_of (x ∷ xs) each = (each x (zero, refl), clients_of xs (λ y is. each y (suc is.0, is.1)))

-- what is not lacked is applied in the leaf
none_lacked : (l : Leaf) (queue : ℕ) (run : List PuItem) → lacked l queue run ≡ [] → (x : PuItem) → IsIn run x → is_lacked l queue x ≡ false
none_lacked l queue [] e x (place, there) = absurd (cc)
none_lacked l queue (z ∷ zs) e x is_in = turn (is_lacked l queue z) refl e (none_lacked l queue zs) is_in
  where
    turn : (b : Bool) → is_lacked l queue z ≡ b → cond b (z ∷ lacked l queue zs) (lacked l queue zs) ≡ []
        → (lacked l queue zs ≡ [] → (w : PuItem) → IsIn zs w → is_lacked l queue w ≡ false) → IsIn (z ∷ zs) x → is_lacked l queue x ≡ false
    turn true h f again at = absurd (cc)
    turn false h f again (zero, there) = let same : z ≡ x = cc in subst (λ (w : PuItem). is_lacked l queue w ≡ false) same h
    turn false h f again (suc place, there) = again f x (place, there)

-- ---- the leaf of a page of the leaf chain takes a run of a queue

module _ (book : Book) (order : List Entry) (s : CloudState) (stands : StandsUnder book order s) (tree page queue : ℕ) (of_tree : IsTree tree) (linked : IsLinked (book.chain tree 0) page)
    (run : List PuItem) (clients : (x : PuItem) → IsIn run x → IsClient x.rec.client) where
  abbrev st : Store
  st = store_of book order s

  abbrev old : Leaf
  old = newest_leaf (nodes_of s) tree page

  -- the leaf takes the run, whole
  abbrev pub taken : Taking
  taken = taking_of tree (leaf_take page old queue run [] 0)

  lands_taken : LandsTaken (book.chain tree) (nodes_of s tree) (leaf_take page old queue run [] 0)
  lands_taken = whole_taken (book.chain tree) (nodes_of s tree) page old queue run 0 (clients_of run clients) linked

  pub is_taken : IsTaken st taken
  is_taken = record { sizes = []; free = 0; is = refl; lands = lands_taken }

  chained : IsChained (book.chain tree) (nodes_of s tree) (roots_of s tree) (st.tally.done tree) (st.tally.cursor tree 0)
  chained = stands.holds.chains tree of_tree

  -- the leaf is found for the keys that it holds
  leaf_found : (key : List ℕ) → holds old key ≡ true → leaf_for book (nodes_of s) tree key ≡ old
  leaf_found = found_before book s tree page (newest_root (roots_of s) tree).level chained.levels chained.versions chained.newest linked

  module _ (who : Caller) (bytes : List ℕ) (spells : IsLeaf bytes (applied old queue run)) where
    pub leaf_lands : LandsLeaf st taken
    leaf_lands = taken_lands book order s tree of_tree stands.holds.chains stands.decodes who page queue run [] 0 bytes lands_taken spells

    -- where the run is of the page's own queue, the items of other pages' keys have to be applied before
    pub takes : (cursor : List (ℕ × ℕ)) (received : List PuItem) (top : List (ℕ × ℕ)) → IsRun cursor received run top
        → ((client : ℕ) → IsClient client → number_of cursor client ≤ st.tally.cursor tree queue client) → ((x : PuItem) → IsIn received x → IsItemOf st tree queue x)
        → (queue ≡ page → (x : PuItem) → IsIn run x → holds old (key_of x.rec.change) ≡ false → x.rec.number ≤ st.tally.done tree (key_of x.rec.change) queue x.rec.client)
        → Takes st taken
    takes cursor received top is_run behind items home_last =
        taken_takes book order s tree of_tree stands.holds.chains stands.decodes who page queue run [] 0 bytes lands_taken spells
        (λ x is. items x (run_in cursor received run top is_run x is))
        (λ client is. (number_of cursor client, consecutive st tree queue cursor received run top is_run behind client is)) is_run.sorted home_last

  -- what the store says is lacked is what the leaf lacks
  pub lacking_is : lacking st.tally taken ≡ lacked old queue run
  lacking_is = ap (λ p. filter p run) (λ i x. same x i)
    where
      same : (x : PuItem) → is_lacking st.tally taken x ≡ is_lacked old queue x
      same x = on (holds old (key_of x.rec.change)) refl
        where
          on : (b : Bool) → holds old (key_of x.rec.change) ≡ b
              → (b && nat_lt (st.tally.done tree (key_of x.rec.change) queue x.rec.client) x.rec.number) ≡ (b && nat_lt (done_number old.done queue x.rec.client) x.rec.number)
          on true e = ap (λ (l : Leaf). nat_lt (done_number l.done queue x.rec.client) x.rec.number) (leaf_found (key_of x.rec.change) e)
          on false e = refl

  -- a leaf that lacks nothing of the run has applied the items of its keys
  pub nothing_lacked : lacked old queue run ≡ [] → (x : PuItem) → IsIn run x → holds old (key_of x.rec.change) ≡ true
      → x.rec.number ≤ st.tally.done tree (key_of x.rec.change) queue x.rec.client
  nothing_lacked none x is within =
      subst (λ (l : Leaf). x.rec.number ≤ done_number l.done queue x.rec.client) (sym (leaf_found (key_of x.rec.change) within))
      (ltb-false (done_number old.done queue x.rec.client) x.rec.number
      (ap (λ b. b && nat_lt (done_number old.done queue x.rec.client) x.rec.number) (sym within) ∙ none_lacked old queue run none x is))

  -- ---- behind the put

  -- the items of the leaf's keys are applied
  pub run_applied : (x : PuItem) → IsIn run x → holds old (key_of x.rec.change) ≡ true
      → x.rec.number ≤ (after_leaf taken st).tally.done tree (key_of x.rec.change) queue x.rec.client
  run_applied x is within =
      subst
      (λ b. x.rec.number ≤ cond b (max (st.tally.done tree (key_of x.rec.change) queue x.rec.client) (greatest_of run x.rec.client)) (st.tally.done tree (key_of x.rec.change) queue x.rec.client))
      (sym here) (let upto = upto_greatest run x is in omega (arith, upto))
    where
      here : ((tree == tree) && (queue == queue)) && holds old (key_of x.rec.change) ≡ true
      here =
          and_from ((tree == tree) && (queue == queue)) (holds old (key_of x.rec.change))
          (and_from (tree == tree) (queue == queue) (eq-eqb tree tree refl) (eq-eqb queue queue refl)) within

  -- where the run is of the page's own queue, the cursor covers what the run's top covers
  pub cursor_upto : queue ≡ page → (cursor : List (ℕ × ℕ)) (received : List PuItem) (top : List (ℕ × ℕ)) → IsRun cursor received run top
      → ((client : ℕ) → IsClient client → number_of cursor client ≤ st.tally.cursor tree queue client) → (client : ℕ) → IsClient client
      → number_of top client ≤ (after_leaf taken st).tally.cursor tree queue client
  cursor_upto own cursor received top is_run behind client is =
      subst (λ b. number_of top client ≤ cond b (max (st.tally.cursor tree queue client) (greatest_of run client)) (st.tally.cursor tree queue client)) (sym here)
      (let upto = top_upto cursor received run top is_run client in let old_is = behind client is in omega (arith, upto, old_is))
    where
      here : ((tree == tree) && (queue == queue)) && (queue == page) ≡ true
      here =
          and_from ((tree == tree) && (queue == queue)) (queue == page) (and_from (tree == tree) (queue == queue) (eq-eqb tree tree refl) (eq-eqb queue queue refl))
          (eq-eqb queue page own)
