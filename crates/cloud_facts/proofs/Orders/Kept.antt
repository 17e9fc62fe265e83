-- The order of the committed entries holds of the empty cloud, and is kept by every call that lands.
use Rattle.std.proofs.Common.{◌≡◌, ◌<◌, ⊎_elim, ℕ, Bool, true, false, ◌==◌, ◌&&◌, List, [], ◌++◌, refl, sym, ap, subst, ◌∙◌, arith, eq-eqb, eqb-true, append_assoc}
use Rattle.std.specs.Prelude.{nat_lt}
use Rattle.std.specs.Str.{bytes_eq}
use Rattle.std.proofs.lemmas.Bool.{and_parts, and_from, both_ways, false_from_ne_true}
use Rattle.std.proofs.lemmas.List.Elements.{filter-append}
use Rattle.std.proofs.lemmas.Slice.Eq.{bytes_eq-Decides}
use Rattle.db_base.specs.Change.{key_of}
use Rattle.cloud_facts.specs.Words.{IsClient, IsTree, ObjName, QueueName, Entry, AtomicRec, PuItem, Head, Inner, Tree, Version, Posted, CloudState, Link, Store, Node, IsIn, StandsAt}
use Rattle.cloud_trait.specs.State.{IsEmptyCloud}
use Rattle.history.specs.Fold.{Records, no_records, fold, fold_onto}
use Rattle.history.proofs.FoldLemmas.{fold_onto-append}
use Rattle.cloud_facts.specs.Book.Book.{empty_book}
use Rattle.cloud_facts.specs.Book.Effects.{after_head, after_logged, after_posted, after_log_mark, after_post_mark, Taking, is_lacking, lacking, taken_entry, taken_entries, after_leaf, after_page, after_inner, after_root, after_raise, after_removal}
use Rattle.cloud_facts.specs.Book.Premises.{Opens, Takes}
use Rattle.cloud_facts.specs.Book.Records.{key_in, is_of_key, of_key}
use Rattle.cloud_facts.specs.Book.Tally.{Tally}
use Rattle.cloud_facts.specs.Book.Telling.{tally_of}
use Rattle.cloud_facts.specs.Numbers.Numbers.{Numbers}
use Rattle.cloud_facts.proofs.Numbers.Lists.{map_there, filter_there, filter_none}
use Rattle.cloud_facts.proofs.Numbers.Runs.{item_client}
use Rattle.cloud_facts.specs.Orders.Order.{is_entry_of, entries_of_key, IsLeft, FirstApplied, Ordered, UnappliedOfOneQueue}
use Rattle.cloud_facts.proofs.Orders.Advances.{in_either, left_among, advanced, after_other, nothing_taken}
use Rattle.cloud_facts.proofs.Orders.Takings.{takes_first}

-- ---- heads

-- records that are not applied join the log
more_left : (st : Store) (client : ℕ) (head : Head) (more : List AtomicRec) → Ordered st → ((r : AtomicRec) → IsIn more r → IsLeft st.tally r)
    → Ordered (after_head client head more st)
more_left st client head more o left = record {
  first = first;
  of_client = o.of_client;
  of_tree = o.of_tree;
  value = o.value;
}
  where
    first : (tree : ℕ) (key : List ℕ) (own : ℕ) → IsClient own → FirstApplied (after_head client head more st) tree key own
    first tree key own is =
        let f = o.first tree key own is in
        record {
          taken = f.taken;
          left = f.left ++ of_key tree key own more;
          split = filter-append (is_of_key tree key own) st.book.log more
              ∙ (ap (λ l. l ++ of_key tree key own more) f.split ∙ append_assoc f.taken f.left (of_key tree key own more));
          ordered = f.ordered;
          applied = f.applied;
          unapplied = λ r is. ⊎_elim (λ old. f.unapplied r old)
              (λ new. let found = filter_there (is_of_key tree key own) more new.0 r new.1 in left r (found.place, found.there)) (in_either f.left (of_key tree key own more) r is);
        }

pub after_open_keeps : (st : Store) (client : ℕ) (head : Head) (records : List AtomicRec) → Ordered st → Numbers st → Opens st client head records
    → Ordered (after_head client head records st)
after_open_keeps st client head records o n opens = more_left st client head records o left
  where
    left : (r : AtomicRec) → IsIn records r → IsLeft st.tally r
    left r is =
        let new = opens.records_are is.0 r is.1 in
        let within = n.done_within r.tree (key_in r) r.page client opens.is_client in
        let number = new.number_is in
        subst (λ c. st.tally.done r.tree (key_in r) r.page c < r.number) (sym new.client_is) (omega (arith, within, number))

abbrev no_more : List AtomicRec
no_more = []

none_more : (place : ℕ) (r : AtomicRec) → StandsAt no_more place r → ⊥
none_more place r e = cc

pub after_settle_keeps : (st : Store) (client : ℕ) (head : Head) → Ordered st → Ordered (after_head client head [] st)
after_settle_keeps st client head o = more_left st client head [] o (λ r is. absurd (none_more is.0 r is.1))

-- ---- calls that apply nothing

-- the store with another tally, by which the same is applied and the leaves have the same
abbrev with_tally : Store → Tally → (ℕ → ℕ → List Link) → Store
with_tally st t chain = record { tally = record t { done = st.tally.done; value = st.tally.value }; book = record { log = st.book.log; chain = chain }; order = st.order }

kept : (st : Store) (t : Tally) (chain : ℕ → ℕ → List Link) → Ordered st → Ordered (with_tally st t chain)
kept st t chain o = record {
  first = λ tree key client is. let f = o.first tree key client is in record {
    taken = f.taken;
    left = f.left;
    split = f.split;
    ordered = f.ordered;
    applied = f.applied;
    unapplied = f.unapplied;
  };
  of_client = o.of_client;
  of_tree = o.of_tree;
  value = o.value;
}

pub after_logged_keeps : (st : Store) (client : ℕ) (post : Posted) → Ordered st → Ordered (after_logged client post st)
after_logged_keeps st client post o = kept st (after_logged client post st).tally st.book.chain o

pub after_posted_keeps : (st : Store) (tree page : ℕ) (post : Posted) → Ordered st → Ordered (after_posted tree page post st)
after_posted_keeps st tree page post o = kept st (after_posted tree page post st).tally st.book.chain o

pub after_log_mark_keeps : (st : Store) (client id : ℕ) → Ordered st → Ordered (after_log_mark client id st)
after_log_mark_keeps st client id o = kept st (after_log_mark client id st).tally st.book.chain o

pub after_post_mark_keeps : (st : Store) (tree page id : ℕ) → Ordered st → Ordered (after_post_mark tree page id st)
after_post_mark_keeps st tree page id o = kept st (after_post_mark tree page id st).tally st.book.chain o

pub after_page_keeps : (st : Store) (tree page : ℕ) (node : Node) (own : ℕ → ℕ) → Ordered st → Ordered (after_page tree page node own st)
after_page_keeps st tree page node own o = kept st (after_page tree page node own st).tally st.book.chain o

pub after_inner_keeps : (st : Store) (tree page : ℕ) (inner : Inner) (pieces : List Link) → Ordered st → Ordered (after_inner tree page inner pieces st)
after_inner_keeps st tree page inner pieces o = kept st (after_inner tree page inner pieces st).tally (after_inner tree page inner pieces st).book.chain o

pub after_root_keeps : (st : Store) (tree : ℕ) (root : Tree) → Ordered st → Ordered (after_root tree root st)
after_root_keeps st tree root o = kept st (after_root tree root st).tally st.book.chain o

pub after_raise_keeps : (st : Store) (tree : ℕ) (root : Tree) (level : ℕ) (links : List Link) → Ordered st → Ordered (after_raise tree root level links st)
after_raise_keeps st tree root level links o = kept st (after_raise tree root level links st).tally (after_raise tree root level links st).book.chain o

pub after_removal_keeps : (st : Store) (tree page : ℕ) → Ordered st → Ordered (after_removal tree page st)
after_removal_keeps st tree page o = kept st (after_removal tree page st).tally st.book.chain o

-- ---- leaves

module _ (st : Store) (p : Taking) (o : Ordered st) (n : Numbers st) (u : UnappliedOfOneQueue st) (t : Takes st p) where
  -- an entry that the leaf takes is that of an item that it lacks
  record IsTaken (e : Entry) : Type 0 where
    item : PuItem
    there : IsIn p.run item
    lacks : is_lacking st.tally p item ≡ true
    entry_is : taken_entry p.tree item ≡ e

  is_taken : (e : Entry) → IsIn (taken_entries st.tally p) e → IsTaken e
  is_taken e is =
      let x = map_there (taken_entry p.tree) (lacking st.tally p) is.0 e is.1 in
      let found = filter_there (is_lacking st.tally p) p.run is.0 x.0 x.1 in
      record { item = x.0; there = (found.place, found.there); lacks = found.test; entry_is = x.2 }

  -- whether the key is one of those that the leaf takes
  abbrev is_inside : ℕ → List ℕ → Bool
  is_inside tree key = (tree == p.tree) && p.range key

  -- nothing is taken of other keys
  none_outside : (tree : ℕ) (key : List ℕ) (client : ℕ) → is_inside tree key ≡ false → entries_of_key tree key client (taken_entries st.tally p) ≡ []
  none_outside tree key client out =
      filter_none (is_entry_of tree key client) (taken_entries st.tally p) (λ i e at. false_from_ne_true (is_entry_of tree key client e) (never i e at))
    where
      never : (i : ℕ) (e : Entry) → StandsAt (taken_entries st.tally p) i e → is_entry_of tree key client e ≡ true → ⊥
      never i e at test =
          let k = is_taken e (i, at) in
          let both = and_parts ((e.client == client) && (e.tree == tree)) (bytes_eq (key_of e.change) key) test in
          let tree_is : p.tree ≡ tree = ap (λ (a : Entry). a.tree) k.entry_is ∙ eqb-true e.tree tree (and_parts (e.client == client) (e.tree == tree) both.0).1 in
          let key_is : key_of k.item.rec.change ≡ key = ap (λ (a : Entry). key_of a.change) k.entry_is ∙ (bytes_eq-Decides (key_of e.change) key).0 both.1 in
          let inside = (and_parts (p.range (key_of k.item.rec.change)) (nat_lt (st.tally.done p.tree (key_of k.item.rec.change) p.queue k.item.rec.client) k.item.rec.number) k.lacks).0 in
          both_ways (is_inside tree key) out
          (and_from (tree == p.tree) (p.range key) (eq-eqb tree p.tree (sym tree_is)) (subst (λ a. p.range a ≡ true) key_is inside))

  outside : (tree : ℕ) (key : List ℕ) (client : ℕ) → IsClient client → is_inside tree key ≡ false → FirstApplied (after_leaf p st) tree key client
  outside tree key client is out =
      let f = o.first tree key client is in
      advanced st p tree key client f (nothing_taken st p tree key client f (none_outside tree key client out) (λ r left. after_other st p r (never f r left) (f.unapplied r left)))
    where
      never : (f : FirstApplied st tree key client) (r : AtomicRec) → IsIn f.left r → r.tree ≡ p.tree → r.page ≡ p.queue → p.range (key_in r) ≡ true → ⊥
      never f r left tree_is page_is in_range =
          let a = (left_among st tree key client f r left).is in
          both_ways (is_inside tree key) out
          (and_from (tree == p.tree) (p.range key) (eq-eqb tree p.tree (sym a.tree_is ∙ tree_is)) (subst (λ k. p.range k ≡ true) a.key_is in_range))

  inside : (tree : ℕ) (key : List ℕ) (client : ℕ) → IsClient client → is_inside tree key ≡ true → FirstApplied (after_leaf p st) tree key client
  inside tree key client is within =
      let both = and_parts (tree == p.tree) (p.range key) within in
      let f = o.first p.tree key client is in
      let run = t.consecutive client is in
      subst (λ a. FirstApplied (after_leaf p st) a key client) (sym (eqb-true tree p.tree both.0))
      (advanced st p p.tree key client f (takes_first st p n t key client is both.1 f run.0 run.1 u))

  leaf_first : (tree : ℕ) (key : List ℕ) (client : ℕ) → IsClient client → FirstApplied (after_leaf p st) tree key client
  leaf_first tree key client is = on (is_inside tree key) refl
    where
      on : (b : Bool) → is_inside tree key ≡ b → FirstApplied (after_leaf p st) tree key client
      on true e = inside tree key client is e
      on false e = outside tree key client is e

  taken_client : (e : Entry) → IsIn (taken_entries st.tally p) e → IsClient e.client
  taken_client e is =
      let k = is_taken e is in
      let i = t.items k.item k.there in
      subst (λ (a : Entry). IsClient a.client) k.entry_is (subst IsClient (item_client st p.tree p.queue k.item i) (n.placed i.of i.logged).client)

  taken_tree : (e : Entry) → IsIn (taken_entries st.tally p) e → IsTree e.tree
  taken_tree e is = let k = is_taken e is in subst (λ (a : Entry). IsTree a.tree) k.entry_is t.is_tree

  leaf_value : (tree : ℕ) (key : List ℕ)
      → fold_onto (st.tally.value tree) (taken_entries st.tally p) tree key ≡ fold (st.order ++ taken_entries st.tally p) tree key
  leaf_value tree key =
      let same : st.tally.value tree ≡ fold st.order tree = λ i k. o.value tree k i in
      ap (λ (rs : Records). fold_onto rs (taken_entries st.tally p) tree key) same
      ∙ sym (ap (λ (rs : Records). rs key) (fold_onto-append no_records st.order (taken_entries st.tally p) tree))

pub after_leaf_keeps : (st : Store) (p : Taking) → Ordered st → Numbers st → UnappliedOfOneQueue st → Takes st p → Ordered (after_leaf p st)
after_leaf_keeps st p o n u t = record {
  first = leaf_first st p o n u t;
  of_client = λ e is. ⊎_elim (λ old. o.of_client e old) (λ new. taken_client st p o n u t e new) (in_either st.order (taken_entries st.tally p) e is);
  of_tree = λ e is. ⊎_elim (λ old. o.of_tree e old) (λ new. taken_tree st p o n u t e new) (in_either st.order (taken_entries st.tally p) e is);
  value = leaf_value st p o n u t;
}

-- ---- the empty cloud

-- what is told where no object has a version and no queue has a message
abbrev told : CloudState → (ObjName → List Version) → (QueueName → List Posted) → Store
told s versions messages = record { tally = tally_of empty_book (record s { versions = versions; messages = messages }); book = empty_book; order = [] }

abbrev no_entries : List Entry
no_entries = []

not_ordered : (place : ℕ) (e : Entry) → StandsAt no_entries place e → ⊥
not_ordered place e is = cc

nothing_ordered : (s : CloudState) → Ordered (told s (λ name. []) (λ queue. []))
nothing_ordered s = record {
  first = λ tree key client is. record {
    taken = [];
    left = [];
    split = refl;
    ordered = refl;
    applied = λ r is. absurd (none_more is.0 r is.1);
    unapplied = λ r is. absurd (none_more is.0 r is.1);
  };
  of_client = λ e is. absurd (not_ordered is.0 e is.1);
  of_tree = λ e is. absurd (not_ordered is.0 e is.1);
  value = λ tree key. refl;
}

pub empty_order : (s : CloudState) → IsEmptyCloud s → Ordered (record { tally = tally_of empty_book s; book = empty_book; order = [] })
empty_order s empty =
    let versions : s.versions ≡ (λ (name : ObjName). []) = λ i name. empty.versions name i in
    let messages : s.messages ≡ (λ (queue : QueueName). []) = λ i queue. empty.messages queue i in
    subst (λ (vs : ObjName → List Version). Ordered (told s vs s.messages)) (sym versions)
    (subst (λ (ms : QueueName → List Posted). Ordered (told s (λ (name : ObjName). []) ms)) (sym messages) (nothing_ordered s))
