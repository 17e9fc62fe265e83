-- How a leaf that takes a run goes on with a client's records of a tree and key.
use Rattle.std.proofs.Common.{◌≡◌, ◌+◌, ◌<◌, ◌≤◌, ◌⊎◌, ⊎_elim, inl, inr, ℕ, Bool, true, false, cond, ◌==◌, ◌&&◌, max, List, [], ◌++◌, length, refl, sym, ap, ap₂, subst, ◌∙◌, arith, eq-eqb, eqb-true, append_assoc}
use Rattle.std.specs.Str.{bytes_eq}
use Rattle.std.proofs.lemmas.Bool.{and_parts, and_from}
use Rattle.std.proofs.lemmas.List.{map-append}
use Rattle.std.proofs.lemmas.List.Elements.{filter-append}
use Rattle.std.proofs.lemmas.Slice.Eq.{bytes_eq-Decides}
use Rattle.leaf_edit.specs.Raised.{greatest_of}
use Rattle.cloud_facts.specs.Words.{Entry, AtomicRec, Store, IsIn, StandsAt}
use Rattle.cloud_facts.specs.Book.Effects.{Taking, taken_entries, after_leaf}
use Rattle.cloud_facts.specs.Book.Records.{key_in, is_of_key, of_key, entry_of, entries_of, IsApplied}
use Rattle.cloud_facts.proofs.Book.Places.{get_cases, get_behind}
use Rattle.cloud_facts.proofs.Numbers.Lists.{filter_there, filter_at}
use Rattle.cloud_facts.specs.Orders.Order.{is_entry_of, entries_of_key, IsLeft, FirstApplied}

-- ---- of which client, tree and key a record is

pub record IsOfKey (tree : ℕ) (key : List ℕ) (client : ℕ) (r : AtomicRec) : Type 0 where
  pub client_is : r.client ≡ client
  pub tree_is : r.tree ≡ tree
  pub key_is : key_in r ≡ key

pub key_test : (tree : ℕ) (key : List ℕ) (client : ℕ) (r : AtomicRec) → IsOfKey tree key client r → is_of_key tree key client r ≡ true
key_test tree key client r is =
    and_from ((r.client == client) && (r.tree == tree)) (bytes_eq (key_in r) key)
    (and_from (r.client == client) (r.tree == tree) (eq-eqb r.client client is.client_is) (eq-eqb r.tree tree is.tree_is)) ((bytes_eq-Decides (key_in r) key).1 is.key_is)

pub key_parts : (tree : ℕ) (key : List ℕ) (client : ℕ) (r : AtomicRec) → is_of_key tree key client r ≡ true → IsOfKey tree key client r
key_parts tree key client r test =
    let both = and_parts ((r.client == client) && (r.tree == tree)) (bytes_eq (key_in r) key) test in
    let own = and_parts (r.client == client) (r.tree == tree) both.0 in
    record { client_is = eqb-true r.client client own.0; tree_is = eqb-true r.tree tree own.1; key_is = (bytes_eq-Decides (key_in r) key).0 both.1 }

-- a record among those of a key
pub record IsAmong (st : Store) (tree : ℕ) (key : List ℕ) (client : ℕ) (r : AtomicRec) : Type 0 where
  pub logged : IsIn st.book.log r
  pub is : IsOfKey tree key client r

pub among : (st : Store) (tree : ℕ) (key : List ℕ) (client : ℕ) (r : AtomicRec) → IsIn (of_key tree key client st.book.log) r → IsAmong st tree key client r
among st tree key client r is =
    let found = filter_there (is_of_key tree key client) st.book.log is.0 r is.1 in
    record { logged = (found.place, found.there); is = key_parts tree key client r found.test }

in_back : {X : Type 0} (xs ys : List X) (x : X) → IsIn ys x → IsIn (xs ++ ys) x
in_back xs ys x is = (length xs + is.0, get_behind xs ys is.0 x is.1)

pub in_either : {X : Type 0} (xs ys : List X) (x : X) → IsIn (xs ++ ys) x → IsIn xs x ⊎ IsIn ys x
in_either xs ys x is = ⊎_elim (λ at. inl (is.0, at)) (λ p. inr (p.0, p.2)) (get_cases xs ys is.0 x is.1)

module _ (st : Store) (tree : ℕ) (key : List ℕ) (client : ℕ) (f : FirstApplied st tree key client) where
  pub left_among : (r : AtomicRec) → IsIn f.left r → IsAmong st tree key client r
  left_among r is = among st tree key client r (subst (λ l. IsIn l r) (sym f.split) (in_back f.taken f.left r is))

  -- a record of the key that is not applied is one of those left
  pub in_left : (r : AtomicRec) → IsIn st.book.log r → IsOfKey tree key client r → IsLeft st.tally r → IsIn f.left r
  in_left r logged is above =
      let at = filter_at (is_of_key tree key client) st.book.log logged.0 r (key_test tree key client r is) logged.1 in
      ⊎_elim (λ taken. absurd (let low = f.applied r taken in omega (arith, low, above))) (λ left. left)
      (in_either f.taken f.left r (subst (λ l. IsIn l r) f.split at))

-- ---- going on

-- what a store has taken of what was left: a first part of it, whose entries are those that join the order
pub record Advances (su : Store) (tree : ℕ) (key : List ℕ) (client : ℕ) (left : List AtomicRec) (more : List Entry) : Type 0 where
  pub now : List AtomicRec
  pub still : List AtomicRec
  pub split : left ≡ now ++ still
  pub ordered : entries_of_key tree key client more ≡ entries_of now
  pub applied : (r : AtomicRec) → IsIn now r → IsApplied su.tally r
  pub unapplied : (r : AtomicRec) → IsIn still r → IsLeft su.tally r

abbrev no_records : List AtomicRec
no_records = []

module _ (st : Store) (p : Taking) where
  -- the numbers of the keys
  pub after_up : (r : AtomicRec) → IsApplied st.tally r → IsApplied (after_leaf p st).tally r
  after_up r low = on (((r.tree == p.tree) && (r.page == p.queue)) && p.range (key_in r))
    where
      on : (b : Bool) → r.number ≤ cond b (max (st.tally.done r.tree (key_in r) r.page r.client) (greatest_of p.run r.client)) (st.tally.done r.tree (key_in r) r.page r.client)
      on true = omega (arith, low)
      on false = low

  pub after_most : (r : AtomicRec) → st.tally.done r.tree (key_in r) r.page r.client < r.number → greatest_of p.run r.client < r.number
      → IsLeft (after_leaf p st).tally r
  after_most r low run = on (((r.tree == p.tree) && (r.page == p.queue)) && p.range (key_in r))
    where
      on : (b : Bool) → cond b (max (st.tally.done r.tree (key_in r) r.page r.client) (greatest_of p.run r.client)) (st.tally.done r.tree (key_in r) r.page r.client) < r.number
      on true = omega (arith, low, run)
      on false = low

  pub after_same : (r : AtomicRec) → r.tree ≡ p.tree → r.page ≡ p.queue → p.range (key_in r) ≡ true → r.number ≤ greatest_of p.run r.client
      → IsApplied (after_leaf p st).tally r
  after_same r tree_is page_is inside low =
      subst (λ b. r.number ≤ cond b (max (st.tally.done r.tree (key_in r) r.page r.client) (greatest_of p.run r.client)) (st.tally.done r.tree (key_in r) r.page r.client))
      (sym (and_from ((r.tree == p.tree) && (r.page == p.queue)) (p.range (key_in r))
      (and_from (r.tree == p.tree) (r.page == p.queue) (eq-eqb r.tree p.tree tree_is) (eq-eqb r.page p.queue page_is)) inside)) (up r.number (st.tally.done r.tree (key_in r) r.page r.client) (greatest_of p.run r.client) low)
    where
      up : (x d g : ℕ) → x ≤ g → x ≤ max d g
      up x d g low = omega (arith, low)

  pub after_other : (r : AtomicRec) → (r.tree ≡ p.tree → r.page ≡ p.queue → p.range (key_in r) ≡ true → ⊥) → IsLeft st.tally r → IsLeft (after_leaf p st).tally r
  after_other r never above = on (((r.tree == p.tree) && (r.page == p.queue)) && p.range (key_in r)) refl
    where
      on : (b : Bool) → (((r.tree == p.tree) && (r.page == p.queue)) && p.range (key_in r)) ≡ b
          → cond b (max (st.tally.done r.tree (key_in r) r.page r.client) (greatest_of p.run r.client)) (st.tally.done r.tree (key_in r) r.page r.client) < r.number
      on true e =
          let both = and_parts ((r.tree == p.tree) && (r.page == p.queue)) (p.range (key_in r)) e in
          let queue = and_parts (r.tree == p.tree) (r.page == p.queue) both.0 in
          absurd (never (eqb-true r.tree p.tree queue.0) (eqb-true r.page p.queue queue.1) both.1)
      on false e = above

  pub advanced : (tree : ℕ) (key : List ℕ) (client : ℕ) (f : FirstApplied st tree key client)
      → Advances (after_leaf p st) tree key client f.left (taken_entries st.tally p)
      → FirstApplied (after_leaf p st) tree key client
  advanced tree key client f a = record {
    taken = f.taken ++ a.now;
    left = a.still;
    split = f.split ∙ (ap (λ l. f.taken ++ l) a.split ∙ sym (append_assoc f.taken a.now a.still));
    ordered = filter-append (is_entry_of tree key client) st.order (taken_entries st.tally p)
        ∙ (ap₂ (λ a b. a ++ b) f.ordered a.ordered ∙ sym (map-append entry_of f.taken a.now));
    applied = λ r is. ⊎_elim (λ old. after_up r (f.applied r old)) (λ new. a.applied r new) (in_either f.taken a.now r is);
    unapplied = a.unapplied;
  }

  -- where nothing of a key is taken
  pub nothing_taken : (tree : ℕ) (key : List ℕ) (client : ℕ) (f : FirstApplied st tree key client) → entries_of_key tree key client (taken_entries st.tally p) ≡ []
      → ((r : AtomicRec) → IsIn f.left r → IsLeft (after_leaf p st).tally r) → Advances (after_leaf p st) tree key client f.left (taken_entries st.tally p)
  nothing_taken tree key client f none stays = record {
    now = [];
    still = f.left;
    split = refl;
    ordered = none;
    applied = λ r is. absurd (nowhere is.0 r is.1);
    unapplied = stays;
  }
    where
      nowhere : (place : ℕ) (r : AtomicRec) → StandsAt no_records place r → ⊥
      nowhere place r e = cc
