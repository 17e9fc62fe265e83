-- A head that settles keeps what holds of pending entries.
use Rattle.std.proofs.Common.{◌≡◌, ◌≢◌, ◌≤◌, ◌⊎◌, inl, inr, ℕ, true, List, [], ◌++◌, Some, append-nil, refl, sym, ap, subst, ◌∙◌}
use Rattle.std.specs.Prelude.{slice_get}
use Rattle.std.proofs.lemmas.Bool.{cases_eq}
use Rattle.db_base.specs.Change.{key_of}
use Rattle.cloud_facts.specs.Words.{IsClient, AtomicRec, Head, Store, IsIn, StandsAt}
use Rattle.head_codec.specs.declared.lists.Pending.{Pending}
use Rattle.history.specs.Legal.{AreSame}
use Rattle.cloud_facts.specs.Numbers.Numbers.{Numbers}
use Rattle.cloud_facts.specs.Pendings.Pending.{IsOwn, IsOfKey, IsPending, HeadPends, Pends}
use Rattle.cloud_facts.proofs.Pendings.Holding.{Holds, holds_of, pends_of}
use Rattle.cloud_facts.proofs.Numbers.Ways.{is_way, settled_way, way_epoch, way_txn}
use Rattle.route_plan.specs.Record.{pending_of}
use Rattle.cloud_facts.specs.Book.Effects.{after_head}
use Rattle.cloud_facts.specs.Book.Premises.{Settles, IsAppliedEntry}
use Rattle.cloud_facts.specs.Book.Records.{key_in, entry_of, IsApplied, IsUnderWay}
use Rattle.cloud_facts.proofs.Book.Names.{at_same, at_other}
use Rattle.cloud_facts.proofs.Book.Places.{get_map, in_either, in_front, in_none}

head_here : (st : Store) (client : ℕ) (head : Head) (c : ℕ) → c ≡ client → (after_head client head [] st).tally.head c ≡ head
head_here st client head c e = at_same client head st.tally.head c e

head_there : (st : Store) (client : ℕ) (head : Head) (c : ℕ) → c ≢ client → (after_head client head [] st).tally.head c ≡ st.tally.head c
head_there st client head c ne = at_other client head st.tally.head c ne

-- nothing joins the log
only_old : (log : List AtomicRec) (r : AtomicRec) → IsIn (log ++ []) r → IsIn log r
only_old log r is = on (in_either log [] r is)
  where
    on : IsIn log r ⊎ IsIn [] r → IsIn log r
    on (inl h) = h
    on (inr h) = absurd (in_none [] r refl h)

-- ---- a record that is not applied

-- what is under way becomes a pending entry, and so stays what was one
settled_pends : (st : Store) (client : ℕ) (head : Head) → Settles st client head → Pends st → (r : AtomicRec) → IsIn st.book.log r → r.client ≡ client
    → IsApplied st.tally r ⊎ IsIn head.pending (pending_of r)
settled_pends st client head settles pends r logged e = on (pends.each r logged)
  where
    turn : IsIn head.pending (pending_of r) ⊎ IsAppliedEntry st.tally client (pending_of r) → IsApplied st.tally r ⊎ IsIn head.pending (pending_of r)
    turn (inl p) = inr p
    turn (inr a) = inl (subst (λ c. r.number ≤ st.tally.done r.tree (key_in r) r.page c) (sym e) a)

    on : IsPending st.tally r → IsApplied st.tally r ⊎ IsIn head.pending (pending_of r)
    on (inl a) = inl a
    on (inr (inl w)) = inr (settles.pending_taken r logged e w)
    on (inr (inr p)) = turn (settles.pending_kept (pending_of r) (subst (λ c. IsIn (st.tally.head c).pending (pending_of r)) e p))

each_after : (st : Store) (client : ℕ) (head : Head) → Settles st client head → Pends st → (r : AtomicRec) → IsIn (st.book.log ++ []) r → IsPending (after_head client head [] st).tally r
each_after st client head settles pends r is = on (only_old st.book.log r is) (cases_eq r.client client)
  where
    mine : r.client ≡ client → IsApplied st.tally r ⊎ IsIn head.pending (pending_of r) → IsPending (after_head client head [] st).tally r
    mine e (inl a) = inl a
    mine e (inr p) = inr (inr (subst (λ (h : Head). IsIn h.pending (pending_of r)) (sym (head_here st client head r.client e)) p))

    other : r.client ≢ client → IsPending st.tally r → IsPending (after_head client head [] st).tally r
    other ne (inl a) = inl a
    other ne (inr (inl w)) = inr (inl (subst (λ h. is_way h r ≡ true) (sym (head_there st client head r.client ne)) w))
    other ne (inr (inr p)) = inr (inr (subst (λ (h : Head). IsIn h.pending (pending_of r)) (sym (head_there st client head r.client ne)) p))

    on : IsIn st.book.log r → (r.client ≡ client) ⊎ (r.client ≢ client) → IsPending (after_head client head [] st).tally r
    on logged (inl e) = mine e (settled_pends st client head settles pends r logged e)
    on logged (inr ne) = other ne (pends.each r logged)

-- ---- heads

-- two records of one transaction, tree and key are one, since no entry stands twice
one_record : (st : Store) → Numbers st → (a b : AtomicRec) → IsIn st.book.log a → IsIn st.book.log b → a.client ≡ b.client → a.epoch ≡ b.epoch → a.txn ≡ b.txn
    → a.tree ≡ b.tree → key_in a ≡ key_in b → a ≡ b
one_record st numbers a b one two client epoch txn tree key =
    let same : AreSame (entry_of a) (entry_of b) = record { client = client; epoch = epoch; txn = txn; tree = tree; key = key } in
    let place : one.0 ≡ two.0 =
    numbers.once one.0 two.0 (entry_of a) (entry_of b) (get_map entry_of st.book.log one.0 a one.1) (get_map entry_of st.book.log two.0 b two.1) same in
    let h : Some a ≡ Some b = sym one.1 ∙ (ap (λ k. slice_get st.book.log k) place ∙ two.1) in
    cc

-- an entry of the head that settles: one of before, or of a record that was under way
abbrev Came : Store → ℕ → Pending → Type 0
Came st client p = IsIn (st.tally.head client).pending p ⊎ ((r : AtomicRec) × IsIn st.book.log r × (r.client ≡ client) × IsUnderWay st.tally r × (p ≡ pending_of r))

settled_holds : (st : Store) (client : ℕ) (head : Head) → Settles st client head → Numbers st → Holds st.book.log client (st.tally.head client) → Holds (st.book.log ++ []) client head
settled_holds st client head settles numbers h = record {
  of_records = λ p is. of p (settles.pending_from p is);
  one_queue = λ p q one two key. queue p q (settles.pending_from p one) (settles.pending_from q two) key;
  under_way = λ p r is own way key. absurd (settled_way head r settles.phase way);
}
  where
    front : (r : AtomicRec) → IsIn st.book.log r → r.client ≡ client → IsOwn (st.book.log ++ []) client r
    front r logged e = record { logged = in_front st.book.log [] r logged; client_is = e }

    of : (p : Pending) → Came st client p → (r : AtomicRec) × IsOwn (st.book.log ++ []) client r × (p ≡ pending_of r)
    of p (inl is) = let o = h.of_records p is in (o.0, front o.0 o.1.logged o.1.client_is, o.2)
    of p (inr w) = (w.0, front w.0 w.1 w.2, w.4)

    way : (r : AtomicRec) → r.client ≡ client → IsUnderWay st.tally r → is_way (st.tally.head client) r ≡ true
    way r e w = subst (λ c. is_way (st.tally.head c) r ≡ true) e w

    page_of : (p : Pending) (r : AtomicRec) → p ≡ pending_of r → p.page ≡ r.page
    page_of p r e = ap (λ (x : Pending). x.page) e

    tree_of : (p : Pending) (r : AtomicRec) → p ≡ pending_of r → p.tree ≡ r.tree
    tree_of p r e = ap (λ (x : Pending). x.tree) e

    key_is : (p : Pending) (r : AtomicRec) → p ≡ pending_of r → key_of p.change ≡ key_in r
    key_is p r e = ap (λ (x : Pending). key_of x.change) e

    -- an entry of before, and a record that was under way
    mixed : (p : Pending) (r : AtomicRec) → IsIn (st.tally.head client).pending p → IsIn st.book.log r → r.client ≡ client → IsUnderWay st.tally r
        → p.tree ≡ r.tree → key_of p.change ≡ key_in r → r.page ≡ p.page
    mixed p r is logged e w tree key =
        h.under_way p r is (record { logged = logged; client_is = e }) (way r e w) (record { tree_is = tree; key_is = key })

    queue : (p q : Pending) → Came st client p → Came st client q → IsOfKey q p.tree (key_of p.change) → q.page ≡ p.page
    queue p q (inl one) (inl two) key = h.one_queue p q one two key
    queue p q (inl one) (inr w) key =
        page_of q w.0 w.4 ∙ mixed p w.0 one w.1 w.2 w.3 (sym key.tree_is ∙ tree_of q w.0 w.4) (sym key.key_is ∙ key_is q w.0 w.4)
    queue p q (inr w) (inl two) key =
        sym (page_of p w.0 w.4 ∙ mixed q w.0 two w.1 w.2 w.3 (key.tree_is ∙ tree_of p w.0 w.4) (key.key_is ∙ key_is p w.0 w.4))
    queue p q (inr w) (inr v) key =
        let wp = way w.0 w.2 w.3 in
        let vp = way v.0 v.2 v.3 in
        let same : v.0 ≡ w.0 = one_record st numbers v.0 w.0 v.1 w.1 (v.2 ∙ sym w.2) (way_epoch (st.tally.head client) v.0 vp ∙ sym (way_epoch (st.tally.head client) w.0 wp))
        (way_txn (st.tally.head client) v.0 vp ∙ sym (way_txn (st.tally.head client) w.0 wp))
        (sym (tree_of q v.0 v.4) ∙ (key.tree_is ∙ tree_of p w.0 w.4)) (sym (key_is q v.0 v.4) ∙ (key.key_is ∙ key_is p w.0 w.4)) in
        page_of q v.0 v.4 ∙ (ap (λ (r : AtomicRec). r.page) same ∙ sym (page_of p w.0 w.4))

-- another client's head
other_holds : (st : Store) (c : ℕ) → Holds st.book.log c (st.tally.head c) → Holds (st.book.log ++ []) c (st.tally.head c)
other_holds st c h = record {
  of_records = λ p is. let o = h.of_records p is in (o.0, record { logged = in_front st.book.log [] o.0 o.1.logged; client_is = o.1.client_is }, o.2);
  one_queue = h.one_queue;
  under_way = λ p r is own way key. h.under_way p r is (record { logged = only_old st.book.log r own.logged; client_is = own.client_is }) way key;
}

heads_after : (st : Store) (client : ℕ) (head : Head) → Settles st client head → Numbers st → Pends st → (c : ℕ) → IsClient c → HeadPends (after_head client head [] st) c
heads_after st client head settles numbers pends c is = on (cases_eq c client)
  where
    on : (c ≡ client) ⊎ (c ≢ client) → HeadPends (after_head client head [] st) c
    on (inl e) =
        let h : Holds (st.book.log ++ []) client head = settled_holds st client head settles numbers (holds_of st client (pends.heads client settles.is_client)) in
        let at_c : Holds (st.book.log ++ []) c head = subst (λ k. Holds (st.book.log ++ []) k head) (sym e) h in
        pends_of (after_head client head [] st) c (subst (λ (q : Head). Holds (st.book.log ++ []) c q) (sym (head_here st client head c e)) at_c)
    on (inr ne) =
        pends_of (after_head client head [] st) c
        (subst (λ (q : Head). Holds (st.book.log ++ []) c q) (sym (head_there st client head c ne)) (other_holds st c (holds_of st c (pends.heads c is))))

-- ---- the whole

pub settles_keeps : (st : Store) (client : ℕ) (head : Head) → Settles st client head → Numbers st → Pends st → Pends (after_head client head [] st)
settles_keeps st client head settles numbers pends = record {
  each = each_after st client head settles pends;
  heads = heads_after st client head settles numbers pends;
  sticky = λ i j a b one two before same. pends.sticky i j a b (old i a one) (old j b two) before same;
}
  where
    old : (k : ℕ) (r : AtomicRec) → StandsAt (st.book.log ++ []) k r → StandsAt st.book.log k r
    old k r there = let e : st.book.log ++ [] ≡ st.book.log = append-nil st.book.log in subst (λ (log : List AtomicRec). StandsAt log k r) e there
