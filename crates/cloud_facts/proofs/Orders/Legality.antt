-- An order that has of each client, tree and key the first committed entries is legal for each tree; and it holds all where all is applied.
use Rattle.std.proofs.Common.{◌≡◌, ◌<◌, ⊎_elim, ℕ, zero, suc, Bool, true, false, cond, ◌&&◌, ◌==◌, List, [], ◌∷◌, ◌++◌, length, take, filter, slice_get, Some, refl, sym, ap, subst, ◌∙◌, arith, eq-eqb, eqb-true}
use Rattle.std.specs.Str.{bytes_eq}
use Rattle.std.proofs.lemmas.Bool.{and_from, cases_lt}
use Rattle.std.proofs.lemmas.List.{map-append}
use Rattle.std.proofs.lemmas.Option.{slice_get_within}
use Rattle.std.proofs.lemmas.Slice.Eq.{bytes_eq-Decides}
use Rattle.db_base.specs.Change.{key_of}
use Rattle.cloud_facts.specs.Words.{IsClient, Entry, AtomicRec, Store, IsIn, StandsAt}
use Rattle.history.specs.Fold.{no_records, fold, of_tree}
use Rattle.history.specs.Legal.{IsLegal, AreSame, AreOfOneKey}
use Rattle.history.proofs.FoldLemmas.{fold_onto-of_tree}
use Rattle.cloud_facts.specs.Book.Records.{key_in, is_of_key, of_key, entry_of, entries_of, IsApplied}
use Rattle.cloud_facts.proofs.Book.Places.{get_front, get_cases}
use Rattle.cloud_facts.specs.Numbers.Numbers.{Numbers, IsOnce}
use Rattle.cloud_facts.proofs.Numbers.Lists.{filter_there, filter_at, filter_agree, map_there, map_at}
use Rattle.cloud_facts.specs.Orders.Order.{is_entry_of, entries_of_key, FirstApplied, Ordered}
use Rattle.cloud_facts.proofs.Orders.Advances.{IsOfKey, key_test, in_either}
use Rattle.cloud_facts.proofs.Orders.Filters.{filter-map, filter-twice}

-- ---- the places of the elements that pass a test

-- where the element stands in the list that is at a place among those that pass
abbrev pub place_of : {X : Type 0} → (X → Bool) → List X → ℕ → ℕ
place_of p [] k = k
place_of p (x ∷ xs) zero = cond (p x) zero (suc (place_of p xs zero))
place_of p (x ∷ xs) (suc k) = suc (place_of p xs (cond (p x) k (suc k)))

-- at which place among those that pass the element is that stands at a place of the list
abbrev rank_of : {X : Type 0} → (X → Bool) → List X → ℕ → ℕ
rank_of p [] i = i
rank_of p (x ∷ xs) zero = zero
rank_of p (x ∷ xs) (suc i) = cond (p x) (suc (rank_of p xs i)) (rank_of p xs i)

module _ {X : Type 0} (p : X → Bool) where
  pub place_there : (xs : List X) (k : ℕ) → slice_get xs (place_of p xs k) ≡ slice_get (filter p xs) k
  place_there [] k = refl
  place_there (x ∷ xs) zero = on (place_there xs zero) (p x)
    where
      on : slice_get xs (place_of p xs zero) ≡ slice_get (filter p xs) zero → (b : Bool)
          → slice_get (x ∷ xs) (cond b zero (suc (place_of p xs zero))) ≡ slice_get (cond b (x ∷ filter p xs) (filter p xs)) zero
      on rest true = refl
      on rest false = rest
  place_there (x ∷ xs) (suc k) = on (place_there xs k) (place_there xs (suc k)) (p x)
    where
      on : slice_get xs (place_of p xs k) ≡ slice_get (filter p xs) k → slice_get xs (place_of p xs (suc k)) ≡ slice_get (filter p xs) (suc k)
          → (b : Bool) → slice_get xs (place_of p xs (cond b k (suc k))) ≡ slice_get (cond b (x ∷ filter p xs) (filter p xs)) (suc k)
      on here rest true = here
      on here rest false = rest

  pub place_rises : (xs : List X) (k l : ℕ) → k < l → place_of p xs k < place_of p xs l
  place_rises [] k l less = less
  place_rises (x ∷ xs) k zero less = absurd (omega (arith, less))
  place_rises (x ∷ xs) zero (suc l) less = on (place_rises xs zero (suc l) less) (p x)
    where
      on : place_of p xs zero < place_of p xs (suc l) → (b : Bool) → cond b zero (suc (place_of p xs zero)) < suc (place_of p xs (cond b l (suc l)))
      on rest true = omega arith
      on rest false = omega (arith, rest)
  place_rises (x ∷ xs) (suc k) (suc l) less = on (place_rises xs k l (omega (arith, less))) (place_rises xs (suc k) (suc l) less) (p x)
    where
      on : place_of p xs k < place_of p xs l → place_of p xs (suc k) < place_of p xs (suc l)
          → (b : Bool) → suc (place_of p xs (cond b k (suc k))) < suc (place_of p xs (cond b l (suc l)))
      on here rest true = omega (arith, here)
      on here rest false = omega (arith, rest)

  rank_there : (xs : List X) (i : ℕ) (a : X) → p a ≡ true → slice_get xs i ≡ Some a → slice_get (filter p xs) (rank_of p xs i) ≡ Some a
  rank_there [] i a passes at = absurd (cc)
  rank_there (x ∷ xs) zero a passes at =
      let same : x ≡ a = cc in
      ap (λ b. slice_get (cond b (x ∷ filter p xs) (filter p xs)) zero) (ap p same ∙ passes) ∙ at
  rank_there (x ∷ xs) (suc i) a passes at = on (rank_there xs i a passes at) (p x)
    where
      on : slice_get (filter p xs) (rank_of p xs i) ≡ Some a
          → (b : Bool) → slice_get (cond b (x ∷ filter p xs) (filter p xs)) (cond b (suc (rank_of p xs i)) (rank_of p xs i)) ≡ Some a
      on rest true = rest
      on rest false = rest

  rank_rises : (xs : List X) (i j : ℕ) (a : X) → p a ≡ true → slice_get xs i ≡ Some a → i < j → rank_of p xs i < rank_of p xs j
  rank_rises [] i j a passes at less = absurd (cc)
  rank_rises (x ∷ xs) i zero a passes at less = absurd (omega (arith, less))
  rank_rises (x ∷ xs) zero (suc j) a passes at less =
      let same : x ≡ a = cc in
      let some : zero < suc (rank_of p xs j) = omega arith in
      subst (λ b. zero < cond b (suc (rank_of p xs j)) (rank_of p xs j)) (sym (ap p same ∙ passes)) some
  rank_rises (x ∷ xs) (suc i) (suc j) a passes at less = on (rank_rises xs i j a passes at (omega (arith, less))) (p x)
    where
      on : rank_of p xs i < rank_of p xs j → (b : Bool) → cond b (suc (rank_of p xs i)) (rank_of p xs i) < cond b (suc (rank_of p xs j)) (rank_of p xs j)
      on rest true = omega (arith, rest)
      on rest false = rest

  -- the element that is at a place among those that pass is there
  rank_of_place : (xs : List X) (k : ℕ) (a : X) → slice_get (filter p xs) k ≡ Some a → rank_of p xs (place_of p xs k) ≡ k
  rank_of_place [] k a at = absurd (cc)
  rank_of_place (x ∷ xs) zero a at = on (rank_of_place xs zero a) (p x) refl at
    where
      on : (slice_get (filter p xs) zero ≡ Some a → rank_of p xs (place_of p xs zero) ≡ zero)
          → (b : Bool) → p x ≡ b → slice_get (cond b (x ∷ filter p xs) (filter p xs)) zero ≡ Some a
          → rank_of p (x ∷ xs) (cond b zero (suc (place_of p xs zero))) ≡ zero
      on rest true is here = refl
      on rest false is here = ap (λ c. cond c (suc (rank_of p xs (place_of p xs zero))) (rank_of p xs (place_of p xs zero))) is ∙ rest here
  rank_of_place (x ∷ xs) (suc k) a at = on (rank_of_place xs k a) (rank_of_place xs (suc k) a) (p x) refl at
    where
      on : (slice_get (filter p xs) k ≡ Some a → rank_of p xs (place_of p xs k) ≡ k)
          → (slice_get (filter p xs) (suc k) ≡ Some a → rank_of p xs (place_of p xs (suc k)) ≡ suc k)
          → (b : Bool) → p x ≡ b → slice_get (cond b (x ∷ filter p xs) (filter p xs)) (suc k) ≡ Some a
          → rank_of p (x ∷ xs) (suc (place_of p xs (cond b k (suc k)))) ≡ suc k
      on one rest true is there = ap (λ c. cond c (suc (rank_of p xs (place_of p xs k))) (rank_of p xs (place_of p xs k))) is ∙ ap suc (one there)
      on one rest false is there = ap (λ c. cond c (suc (rank_of p xs (place_of p xs (suc k)))) (rank_of p xs (place_of p xs (suc k)))) is ∙ rest there

-- ---- the entries of a client, a tree and a key

pub record IsOf (tree : ℕ) (key : List ℕ) (client : ℕ) (e : Entry) : Type 0 where
  pub client_is : e.client ≡ client
  pub tree_is : e.tree ≡ tree
  pub key_is : key_of e.change ≡ key

entry_test : (tree : ℕ) (key : List ℕ) (client : ℕ) (e : Entry) → IsOf tree key client e → is_entry_of tree key client e ≡ true
entry_test tree key client e is =
    and_from ((e.client == client) && (e.tree == tree)) (bytes_eq (key_of e.change) key)
    (and_from (e.client == client) (e.tree == tree) (eq-eqb e.client client is.client_is) (eq-eqb e.tree tree is.tree_is)) ((bytes_eq-Decides (key_of e.change) key).1 is.key_is)

-- of a client's committed entries of a tree and key the order has the first ones
abbrev pub AreFirst : List Entry → List Entry → ℕ → List ℕ → ℕ → Type 0
AreFirst committed order tree key client = (rest : List Entry) × (entries_of_key tree key client committed ≡ entries_of_key tree key client order ++ rest)

module _ (tree : ℕ) (key : List ℕ) (client : ℕ) (committed order : List Entry) (first : AreFirst committed order tree key client) where
  -- where an entry of the order stands among the committed ones
  abbrev home : ℕ → ℕ
  home i = place_of (is_entry_of tree key client) committed (rank_of (is_entry_of tree key client) order i)

  committed_at : (i : ℕ) (a : Entry) → IsOf tree key client a → StandsAt order i a → StandsAt committed (home i) a
  committed_at i a is at =
      place_there (is_entry_of tree key client) committed (rank_of (is_entry_of tree key client) order i)
      ∙ (ap (λ l. slice_get l (rank_of (is_entry_of tree key client) order i)) first.1
      ∙ get_front (entries_of_key tree key client order) first.0 (rank_of (is_entry_of tree key client) order i) a
      (rank_there (is_entry_of tree key client) order i a (entry_test tree key client a is) at))

  -- later entries stand later there
  committed_rises : (i j : ℕ) (a : Entry) → IsOf tree key client a → StandsAt order i a → i < j → home i < home j
  committed_rises i j a is at less =
      place_rises (is_entry_of tree key client) committed (rank_of (is_entry_of tree key client) order i) (rank_of (is_entry_of tree key client) order j)
      (rank_rises (is_entry_of tree key client) order i j a (entry_test tree key client a is) at less)

  -- no entry of the order stands before another of the same transaction, tree and key
  never_before : IsOnce committed → (i j : ℕ) (a b : Entry) → IsOf tree key client a → IsOf tree key client b → StandsAt order i a → StandsAt order j b
      → AreSame a b → i < j → ⊥
  never_before once i j a b is_a is_b at_a at_b same less =
      let one = once (home i) (home j) a b (committed_at i a is_a at_a) (committed_at j b is_b at_b) same in
      let later = committed_rises i j a is_a at_a less in
      absurd (omega (arith, one, later))

  -- what was committed before an entry of the order is in the order
  in_front : (k j : ℕ) (a b : Entry) → IsOf tree key client a → IsOf tree key client b → StandsAt committed k a → StandsAt order j b → k < home j
      → (i : ℕ) × StandsAt order i a
  in_front k j a b is_a is_b at_k at_j less =
      ⊎_elim
      (λ here. let found = filter_there (is_entry_of tree key client) order (rank_of (is_entry_of tree key client) committed k) a here in (found.place, found.there))
      (λ behind. absurd (let is = behind.1 in omega (arith, is, below, round, within)))
      (get_cases (entries_of_key tree key client order) first.0 (rank_of (is_entry_of tree key client) committed k) a moved)
    where
      own : slice_get (entries_of_key tree key client order) (rank_of (is_entry_of tree key client) order j) ≡ Some b
      own = rank_there (is_entry_of tree key client) order j b (entry_test tree key client b is_b) at_j

      within : rank_of (is_entry_of tree key client) order j < length (entries_of_key tree key client order)
      within = slice_get_within (entries_of_key tree key client order) (rank_of (is_entry_of tree key client) order j) b own

      round : rank_of (is_entry_of tree key client) committed (home j) ≡ rank_of (is_entry_of tree key client) order j
      round = rank_of_place (is_entry_of tree key client) committed (rank_of (is_entry_of tree key client) order j) b
          (ap (λ l. slice_get l (rank_of (is_entry_of tree key client) order j)) first.1
          ∙ get_front (entries_of_key tree key client order) first.0 (rank_of (is_entry_of tree key client) order j) b own)

      below : rank_of (is_entry_of tree key client) committed k < rank_of (is_entry_of tree key client) committed (home j)
      below = rank_rises (is_entry_of tree key client) committed k (home j) a (entry_test tree key client a is_a) at_k less

      moved : StandsAt (entries_of_key tree key client order ++ first.0) (rank_of (is_entry_of tree key client) committed k) a
      moved = sym (ap (λ l. slice_get l (rank_of (is_entry_of tree key client) committed k)) first.1)
          ∙ rank_there (is_entry_of tree key client) committed k a (entry_test tree key client a is_a) at_k

same_self : (a : Entry) → AreSame a a
same_self a = record { client = refl; epoch = refl; txn = refl; tree = refl; key = refl }

same_turned : (a b : Entry) → AreSame a b → AreSame b a
same_turned a b same = record { client = sym same.client; epoch = sym same.epoch; txn = sym same.txn; tree = sym same.tree; key = sym same.key }

of_self : (a : Entry) → IsOf a.tree (key_of a.change) a.client a
of_self a = record { client_is = refl; tree_is = refl; key_is = refl }

of_other : (a b : Entry) → a.client ≡ b.client → a.tree ≡ b.tree → key_of a.change ≡ key_of b.change → IsOf a.tree (key_of a.change) a.client b
of_other a b client tree key = record { client_is = sym client; tree_is = sym tree; key_is = sym key }

equal_unless : (i j : ℕ) → (i < j → ⊥) → (j < i → ⊥) → i ≡ j
equal_unless i j below above = ⊎_elim (λ less. absurd (below less)) (λ upto. ⊎_elim (λ less. absurd (above less)) (λ other. omega (arith, upto, other)) (cases_lt j i)) (cases_lt i j)

-- such an order is legal
pub legal_of : (committed order : List Entry) → IsOnce committed
    → ((e : Entry) → IsIn order e → AreFirst committed order e.tree (key_of e.change) e.client) → IsLegal order committed
legal_of committed order once first = record { once = distinct; all_committed = there; in_order = rises; without_gap = whole }
  where
    distinct : (i j : ℕ) (a b : Entry) → StandsAt order i a → StandsAt order j b → AreSame a b → i ≡ j
    distinct i j a b at_a at_b same =
        let own = first a (i, at_a) in
        equal_unless i j
        (never_before a.tree (key_of a.change) a.client committed order own once i j a b (of_self a) (of_other a b same.client same.tree same.key) at_a at_b same)
        (never_before a.tree (key_of a.change) a.client committed order own once j i b a (of_other a b same.client same.tree same.key) (of_self a) at_b at_a (same_turned a b same))

    there : (i : ℕ) (a : Entry) → StandsAt order i a → (j : ℕ) × StandsAt committed j a
    there i a at = (
      home a.tree (key_of a.change) a.client committed order (first a (i, at)) i,
      committed_at a.tree (key_of a.change) a.client committed order (first a (i, at)) i a (of_self a) at,
    )

    rises : (i j : ℕ) (a b : Entry) → StandsAt order i a → StandsAt order j b → AreOfOneKey a b → i < j
        → (k l : ℕ) → StandsAt committed k a → StandsAt committed l b → k < l
    rises i j a b at_a at_b one less k l at_k at_l =
        let own = first a (i, at_a) in
        let from = committed_at a.tree (key_of a.change) a.client committed order own i a (of_self a) at_a in
        let to = committed_at a.tree (key_of a.change) a.client committed order own j b (of_other a b one.client one.tree one.key) at_b in
        let low = once k (home a.tree (key_of a.change) a.client committed order own i) a a at_k from (same_self a) in
        let high = once l (home a.tree (key_of a.change) a.client committed order own j) b b at_l to (same_self b) in
        let later = committed_rises a.tree (key_of a.change) a.client committed order own i j a (of_self a) at_a less in
        omega (arith, low, high, later)

    whole : (k l j : ℕ) (a b : Entry) → StandsAt committed k a → StandsAt committed l b → AreOfOneKey a b → k < l → StandsAt order j b → (i : ℕ) × StandsAt order i a
    whole k l j a b at_k at_l one less at_j =
        let own = first b (j, at_j) in
        let place = home b.tree (key_of b.change) b.client committed order own j in
        let high : l ≡ place = once l place b b at_l (committed_at b.tree (key_of b.change) b.client committed order own j b (of_self b) at_j) (same_self b) in
        in_front b.tree (key_of b.change) b.client committed order own k j a b (of_other b a (sym one.client) (sym one.tree) (sym one.key)) (of_self b) at_k at_j (omega (arith, less, high))

-- ---- the entries of one tree

-- those of a client and key of the tree are the same
keyed_of_tree : (tree : ℕ) (key : List ℕ) (client : ℕ) (entries : List Entry)
    → entries_of_key tree key client (of_tree tree entries) ≡ entries_of_key tree key client entries
keyed_of_tree tree key client entries =
    filter-twice (is_entry_of tree key client) (λ e. e.tree == tree) entries
    ∙ filter_agree (λ e. (e.tree == tree) && is_entry_of tree key client e) (is_entry_of tree key client) entries (λ i e at. turned (e.client == client) (e.tree == tree) (bytes_eq (key_of e.change) key))
  where
    turned : (c t b : Bool) → (t && ((c && t) && b)) ≡ ((c && t) && b)
    turned c true b = refl
    turned true false b = refl
    turned false false b = refl

once_of_tree : (tree : ℕ) (entries : List Entry) → IsOnce entries → IsOnce (of_tree tree entries)
once_of_tree tree entries once i j a b at_a at_b same =
    equal_unless i j
    (λ less. let later = place_rises (λ e. e.tree == tree) entries i j less in omega (arith, one, later))
    (λ less. let later = place_rises (λ e. e.tree == tree) entries j i less in omega (arith, one, later))
  where
    one : place_of (λ e. e.tree == tree) entries i ≡ place_of (λ e. e.tree == tree) entries j
    one = once (place_of (λ e. e.tree == tree) entries i) (place_of (λ e. e.tree == tree) entries j) a b
        (place_there (λ e. e.tree == tree) entries i ∙ at_a) (place_there (λ e. e.tree == tree) entries j ∙ at_b) same

-- ---- the first so many

-- the order has the first so many of the client's committed entries of a tree and key, and those before that place are the ones that are applied
pub record HasFirst (st : Store) (tree : ℕ) (key : List ℕ) (client : ℕ) : Type 0 where
  pub upto : ℕ
  pub ordered : entries_of_key tree key client st.order ≡ entries_of (take upto (of_key tree key client st.book.log))
  pub below : (place : ℕ) (r : AtomicRec) → StandsAt (of_key tree key client st.book.log) place r → place < upto → IsApplied st.tally r
  pub applied : (place : ℕ) (r : AtomicRec) → StandsAt (of_key tree key client st.book.log) place r → IsApplied st.tally r → place < upto

-- ---- at a report

-- of each client's committed entries of a tree and key the order has the first ones
pub are_first : (st : Store) → Ordered st → (tree : ℕ) (key : List ℕ) (client : ℕ) → IsClient client → AreFirst (entries_of st.book.log) st.order tree key client
are_first st o tree key client is =
    let f = o.first tree key client is in (
      entries_of f.left,
      filter-map (is_entry_of tree key client) entry_of st.book.log
          ∙ (ap (λ l. entries_of l) f.split
          ∙ (map-append entry_of f.taken f.left ∙ ap (λ l. l ++ entries_of f.left) (sym f.ordered))),
    )

-- the order of a tree's entries is legal for the tree's committed ones
pub order_is_legal : (st : Store) → Ordered st → Numbers st → (tree : ℕ) → IsLegal (of_tree tree st.order) (of_tree tree (entries_of st.book.log))
order_is_legal st o n tree = legal_of (of_tree tree (entries_of st.book.log)) (of_tree tree st.order) (once_of_tree tree (entries_of st.book.log) n.once) first
  where
    first : (e : Entry) → IsIn (of_tree tree st.order) e → AreFirst (of_tree tree (entries_of st.book.log)) (of_tree tree st.order) e.tree (key_of e.change) e.client
    first e is =
        let found = filter_there (λ (x : Entry). x.tree == tree) st.order is.0 e is.1 in
        let whole = are_first st o tree (key_of e.change) e.client (o.of_client e (found.place, found.there)) in
        subst (λ a. AreFirst (of_tree tree (entries_of st.book.log)) (of_tree tree st.order) a (key_of e.change) e.client) (sym (eqb-true e.tree tree found.test)) (
          whole.0,
          keyed_of_tree tree (key_of e.change) e.client (entries_of st.book.log)
              ∙ (whole.1 ∙ ap (λ l. l ++ whole.0) (sym (keyed_of_tree tree (key_of e.change) e.client st.order))),
        )

-- what the leaves have is what the order of the tree's entries comes to
pub value_is : (st : Store) → Ordered st → (tree : ℕ) (key : List ℕ) → st.tally.value tree key ≡ fold (of_tree tree st.order) tree key
value_is st o tree key = o.value tree key ∙ sym (ap (λ records. records key) (fold_onto-of_tree no_records st.order tree))

-- where all records of a tree are applied, the order holds all of the tree's committed entries
pub order_holds_all : (st : Store) → Ordered st → Numbers st → (tree : ℕ) → ((r : AtomicRec) → IsIn st.book.log r → r.tree ≡ tree → IsApplied st.tally r)
    → (place : ℕ) (e : Entry) → StandsAt (of_tree tree (entries_of st.book.log)) place e → (at : ℕ) × StandsAt (of_tree tree st.order) at e
order_holds_all st o n tree all place e at =
    let found = filter_there (λ (x : Entry). x.tree == tree) (entries_of st.book.log) place e at in
    let r = map_there entry_of st.book.log found.place e found.there in
    let tree_is : r.0.tree ≡ tree = ap (λ (x : Entry). x.tree) r.2 ∙ eqb-true e.tree tree found.test in
    let is_client = (n.placed r.0 (found.place, r.1)).client in
    let stands = taken r.0 (found.place, r.1) is_client (all r.0 (found.place, r.1) tree_is) in
    let same : StandsAt st.order stands.0 e = subst (λ x. StandsAt st.order stands.0 x) r.2 stands.1 in
    filter_at (λ (x : Entry). x.tree == tree) st.order stands.0 e found.test same
  where
    -- an applied record's entry stands in the order
    taken : (r : AtomicRec) → IsIn st.book.log r → IsClient r.client → IsApplied st.tally r → IsIn st.order (entry_of r)
    taken r logged is applied = entry (o.first r.tree (key_in r) r.client is)
      where
        entry : FirstApplied st r.tree (key_in r) r.client → IsIn st.order (entry_of r)
        entry f =
            let own : IsOfKey r.tree (key_in r) r.client r = record { client_is = refl; tree_is = refl; key_is = refl } in
            let seat = filter_at (is_of_key r.tree (key_in r) r.client) st.book.log logged.0 r (key_test r.tree (key_in r) r.client r own) logged.1 in
            let first = ⊎_elim (λ there. there) (λ left. absurd (let above = f.unapplied r left in omega (arith, above, applied)))
            (in_either f.taken f.left r (subst (λ l. IsIn l r) f.split seat)) in
            let among : StandsAt (entries_of_key r.tree (key_in r) r.client st.order) first.0 (entry_of r) =
            subst (λ l. StandsAt l first.0 (entry_of r)) (sym f.ordered) (map_at entry_of f.taken first.0 r first.1) in
            let there = filter_there (is_entry_of r.tree (key_in r) r.client) st.order first.0 (entry_of r) among in
            (there.place, there.there)
