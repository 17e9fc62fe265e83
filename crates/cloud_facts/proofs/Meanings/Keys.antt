-- Each key of a newest leaf is one of a committed record, so it has no more records than were committed.
use Rattle.std.proofs.Common.{◌≡◌, ◌≢◌, ◌≤◌, ◌⊎◌, inl, inr, ℕ, Bool, true, false, cond, ◌==◌, ◌&&◌, List, [], ◌∷◌, length, Some, None, refl, sym, ap, subst, ◌∙◌, eq-eqb, eqb-true}
use Rattle.std.specs.List.{AllByRecursion}
use Rattle.std.specs.Str.{bytes_eq}
use Rattle.std.proofs.lemmas.Bool.{and_from}
use Rattle.std.proofs.lemmas.Slice.Eq.{bytes_eq-Decides}
use Rattle.byte_format.proofs.OrderLemmas.{same_is, same_itself}
use Rattle.byte_format.specs.Order.{bytes_same}
use Rattle.cloud_facts.specs.Words.{IsTree, Entry as Change, AtomicRec, Leaf, CloudState, newest, Book, Store, IsIn, nodes_of, roots_of, store_of, StandsUnder}
use Rattle.db_base.specs.Change.{key_of, act}
use Rattle.db_base.specs.declared.names.ObjName.TheVariants as object
use Rattle.history.specs.Fold.{Records, no_records, is_same_key, changed_by, fold_onto, fold}
use Rattle.leaf_view.specs.Fits.{IsEntryIn}
use Rattle.leaf_view.specs.Leaf.{Entry}
use Rattle.leaf_view.specs.Lookup.{holds, value_of}
use Rattle.replay_meaning.specs.Chain.{IsNewestLeaf}
use Rattle.cloud_facts.specs.Book.Records.{key_in, entry_of, entries_of}
use Rattle.cloud_facts.specs.Book.Telling.{newest_leaf, newest_root, leaf_for}
use Rattle.cloud_facts.specs.Chains.Chain.{IsChained}
use Rattle.cloud_facts.specs.Orders.Order.{is_entry_of, FirstApplied, Ordered}
use Rattle.cloud_facts.specs.Tellings.Taking.{IsLinked}
use Rattle.cloud_facts.proofs.Book.Lengths.{few_keys, image}
use Rattle.cloud_facts.proofs.Chains.GoneLemmas.{links_kept}
use Rattle.cloud_facts.proofs.Book.Places.{in_front}
use Rattle.cloud_facts.proofs.Chains.Pieces.{in_cases, in_first, in_rest, none_in}
use Rattle.cloud_facts.proofs.Meanings.Pages.{leaf_at, read_range, read_ascends}
use Rattle.cloud_facts.proofs.Numbers.Lists.{filter_at}
use Rattle.cloud_facts.proofs.Orders.Advances.{IsAmong, among}
use Rattle.cloud_facts.proofs.Tellings.Finding.{found_before}

-- ---- what changes a key

-- an entry of a tree and key
pub record Changes (entries : List Change) (tree : ℕ) (key : List ℕ) : Type 0 where
  pub entry : Change
  pub there : IsIn entries entry
  pub tree_is : entry.tree ≡ tree
  pub key_is : key_of entry.change ≡ key

-- a key that comes to have a value has an entry
abbrev AreFound : List Change → ℕ → List ℕ → Type 0
AreFound entries tree key = (records : Records) → records key ≡ None → fold_onto records entries tree key ≢ None → Changes entries tree key

found : (records : Records) (entries : List Change) (tree : ℕ) (key : List ℕ) → records key ≡ None → fold_onto records entries tree key ≢ None → Changes entries tree key
found records [] tree key none some = absurd (some none)
found records (e ∷ es) tree key none some = on (e.tree == tree) refl some (λ rs unset set. found rs es tree key unset set)
  where
    behind : Changes es tree key → Changes (e ∷ es) tree key
    behind c = record { entry = c.entry; there = in_rest e es c.entry c.there; tree_is = c.tree_is; key_is = c.key_is }

    here : e.tree ≡ tree → (b : Bool) → is_same_key key (key_of e.change) ≡ b → fold_onto (changed_by records e.change) es tree key ≢ None → AreFound es tree key → Changes (e ∷ es) tree key
    here is true same some later = record { entry = e; there = in_first e es; tree_is = is; key_is = sym (same_is key (key_of e.change) same) }
    here is false other some later =
        behind (later (changed_by records e.change) (ap (λ (b : Bool). cond b (act (records key) e.change) (records key)) other ∙ none) some)

    on : (b : Bool) → (e.tree == tree) ≡ b → fold_onto (cond b (changed_by records e.change) records) es tree key ≢ None → AreFound es tree key → Changes (e ∷ es) tree key
    on true is some later = here (eqb-true e.tree tree is) (is_same_key key (key_of e.change)) refl some later
    on false is some later = behind (later records none some)

every : {X : Type 0} (P : X → Type 0) (xs : List X) → AllByRecursion P xs → (x : X) → IsIn xs x → P x
every P [] all x is = absurd (none_in x is)
every {X} P (y ∷ xs) all x is = on (in_cases y xs x is) (every P xs all.1 x)
  where
    on : (y ≡ x) ⊎ IsIn xs x → (IsIn xs x → P x) → P x
    on (inl same) again = subst P same all.0
    on (inr there) again = again there

-- a record's key has a value
valued : (es : List Entry) (e : Entry) → IsIn es e → value_of e.key es ≢ None
valued [] e is = absurd (none_in e is)
valued (x ∷ es) e is = on (bytes_same x.key e.key) refl (in_cases x es e is) (valued es e)
  where
    on : (b : Bool) → bytes_same x.key e.key ≡ b → (x ≡ e) ⊎ IsIn es e → (IsIn es e → value_of e.key es ≢ None) → cond b (Some x.value) (value_of e.key es) ≢ None
    on true same at again = λ none. absurd (cc (none))
    on false other (inl is) again =
        let same : bytes_same x.key e.key ≡ true = ap (λ (y : Entry). bytes_same y.key e.key) is ∙ same_itself e.key in
        absurd (cc (same, other))
    on false other (inr there) again = again there

-- ---- committed records

-- a committed record of a tree and key
pub record IsCommitted (st : Store) (tree : ℕ) (key : List ℕ) : Type 0 where
  pub of : AtomicRec
  pub logged : IsIn st.book.log of
  pub key_is : key_in of ≡ key

committed : (st : Store) → Ordered st → (tree : ℕ) (key : List ℕ) → Changes st.order tree key → IsCommitted st tree key
committed st ordered tree key c = record { of = r.0; logged = logged.logged; key_is = logged.is.key_is }
  where
    client : ℕ
    client = c.entry.client

    first : FirstApplied st tree key client
    first = ordered.first tree key client (ordered.of_client c.entry c.there)

    test : is_entry_of tree key client c.entry ≡ true
    test =
        and_from ((c.entry.client == client) && (c.entry.tree == tree)) (bytes_eq (key_of c.entry.change) key)
        (and_from (c.entry.client == client) (c.entry.tree == tree) (eq-eqb c.entry.client client refl) (eq-eqb c.entry.tree tree c.tree_is))
        ((bytes_eq-Decides (key_of c.entry.change) key).1 c.key_is)

    taken : IsIn (entries_of first.taken) c.entry
    taken = subst (λ (es : List Change). IsIn es c.entry) first.ordered (filter_at (is_entry_of tree key client) st.order c.there.0 c.entry test c.there.1)

    r : (x : AtomicRec) × IsIn first.taken x × (entry_of x ≡ c.entry)
    r = image entry_of first.taken c.entry taken

    logged : IsAmong st tree key client r.0
    logged = among st tree key client r.0 (subst (λ (rs : List AtomicRec). IsIn rs r.0) (sym first.split) (in_front first.taken first.left r.0 r.1))

-- ---- the newest leaf of a link

module _ (book : Book) (order : List Change) (s : CloudState) (stands : StandsUnder book order s) (tree : ℕ) (of_tree : IsTree tree) where
  abbrev st : Store
  st = store_of book order s

  chained : IsChained (book.chain tree) (nodes_of s tree) (roots_of s tree) (st.tally.done tree) (st.tally.cursor tree 0)
  chained = stands.holds.chains tree of_tree

  module _ (page : ℕ) (at : IsLinked (book.chain tree 0) page) where
    abbrev leaf : Leaf
    leaf = newest_leaf (nodes_of s) tree page

    key_committed : (e : Entry) → IsIn leaf.records e → IsEntryIn leaf.low leaf.high e → (r : AtomicRec) × IsIn book.log r × (key_in r ≡ e.key)
    key_committed e there fits =
        let c = committed st stands.holds.order tree e.key (found no_records order tree e.key refl some) in
        (c.of, c.logged, c.key_is)
      where
        held : holds leaf e.key ≡ true
        held = and_from _ _ fits.from_low fits.to_high

        here : leaf_for book (nodes_of s) tree e.key ≡ leaf
        here = found_before book s tree page (newest_root (roots_of s) tree).level chained.levels chained.versions chained.newest at e.key held

        value : fold order tree e.key ≡ value_of e.key leaf.records
        value = sym (stands.holds.order.value tree e.key) ∙ ap (λ (l : Leaf). value_of e.key l.records) here

        some : fold order tree e.key ≢ None
        some none = valued leaf.records e there (sym value ∙ none)

    is_newest : IsNewestLeaf s tree page leaf
    is_newest =
        subst (λ (p : ℕ). IsNewestLeaf s tree p (newest_leaf (nodes_of s) tree p)) at.page_is
        (leaf_at s tree (book.chain tree) (st.tally.done tree) (st.tally.cursor tree 0) chained (links_kept st stands.holds.gones tree) stands.decodes at.place at.link at.linked).newest

    pub few_records : length leaf.records ≤ length book.log
    few_records =
        few_keys (λ (e : Entry). e.key) key_in leaf.records book.log (read_ascends tree page (newest s (object.Page tree page)) leaf is_newest)
        (λ e there. key_committed e there (every (IsEntryIn leaf.low leaf.high) leaf.records (read_range tree page (newest s (object.Page tree page)) leaf is_newest) e there))
