-- A head that opens keeps what holds of pending entries.
use Rattle.std.proofs.Common.{◌≡◌, ◌≢◌, ◌+◌, ◌<◌, ◌≤◌, ◌⊎◌, inl, inr, ℕ, true, List, ◌++◌, length, sym, subst, ◌∙◌, arith}
use Rattle.std.proofs.lemmas.Bool.{cases_eq}
use Rattle.cloud_facts.specs.Words.{IsClient, AtomicRec, Head, Store, IsIn, StandsAt}
use Rattle.head_codec.specs.declared.lists.Pending.{Pending}
use Rattle.cloud_facts.specs.Numbers.Numbers.{Numbers, IsUpto}
use Rattle.cloud_facts.specs.Pendings.Pending.{IsOwn, AreOfKey, IsOfKey, IsPending, HeadPends, Pends}
use Rattle.cloud_facts.proofs.Pendings.Holding.{Holds, holds_of, pends_of}
use Rattle.cloud_facts.proofs.Numbers.Ways.{is_way, settled_way, open_way, way_epoch, way_txn, upto_earlier}
use Rattle.route_plan.specs.Record.{pending_of}
use Rattle.cloud_facts.specs.Book.Effects.{after_head}
use Rattle.cloud_facts.specs.Book.Premises.{Opens, IsAppliedEntry}
use Rattle.cloud_facts.specs.Book.Records.{key_in, IsApplied, IsUnderWay}
use Rattle.cloud_facts.proofs.Book.Names.{at_same, at_other}
use Rattle.cloud_facts.proofs.Book.Places.{get_cases, get_within, in_either, in_front}

-- the newest head of the client after the landing, and of another
head_here : (st : Store) (client : ℕ) (head : Head) (more : List AtomicRec) (c : ℕ) → c ≡ client → (after_head client head more st).tally.head c ≡ head
head_here st client head more c e = at_same client head st.tally.head c e

head_there : (st : Store) (client : ℕ) (head : Head) (more : List AtomicRec) (c : ℕ) → c ≢ client → (after_head client head more st).tally.head c ≡ st.tally.head c
head_there st client head more c ne = at_other client head st.tally.head c ne

-- ---- a record that is not applied

-- an earlier record of the client that is not applied is a pending entry of the head that opens
old_pends : (st : Store) (client : ℕ) (head : Head) (records : List AtomicRec) → Opens st client head records → Pends st → (r : AtomicRec) → IsIn st.book.log r → r.client ≡ client
    → IsApplied st.tally r ⊎ IsIn head.pending (pending_of r)
old_pends st client head records opens pends r logged e = on (pends.each r logged)
  where
    kept : IsIn (st.tally.head client).pending (pending_of r) → IsApplied st.tally r ⊎ IsIn head.pending (pending_of r)
    kept is = turn (opens.pending_kept (pending_of r) is)
      where
        turn : IsIn head.pending (pending_of r) ⊎ IsAppliedEntry st.tally client (pending_of r) → IsApplied st.tally r ⊎ IsIn head.pending (pending_of r)
        turn (inl p) = inr p
        turn (inr a) = inl (subst (λ c. r.number ≤ st.tally.done r.tree (key_in r) r.page c) (sym e) a)

    on : IsPending st.tally r → IsApplied st.tally r ⊎ IsIn head.pending (pending_of r)
    on (inl a) = inl a
    on (inr (inl w)) = absurd (settled_way (st.tally.head client) r opens.settled (subst (λ c. is_way (st.tally.head c) r ≡ true) e w))
    on (inr (inr p)) = kept (subst (λ c. IsIn (st.tally.head c).pending (pending_of r)) e p)

-- a record of the transaction that opens
new_way : (st : Store) (client : ℕ) (head : Head) (records : List AtomicRec) → Opens st client head records → (r : AtomicRec) → IsIn records r
    → IsUnderWay (after_head client head records st).tally r
new_way st client head records opens r is =
    let at_place = opens.records_are is.0 r is.1 in
    subst (λ h. is_way h r ≡ true) (sym (head_here st client head records r.client at_place.client_is))
    (open_way head r (length records) opens.phase at_place.epoch_is at_place.txn_is)

-- an earlier record of the client is not of it
old_way : (st : Store) (client : ℕ) (head : Head) (records : List AtomicRec) → Opens st client head records → Numbers st → (r : AtomicRec) → IsIn st.book.log r → r.client ≡ client
    → is_way head r ≡ true → ⊥
old_way st client head records opens numbers r logged e way =
    upto_earlier (st.tally.head client) head r (subst (λ c. IsUpto (st.tally.head c) r) e (numbers.placed r logged).upto) opens.epoch opens.later (way_epoch head r way) (way_txn head r way)

each_after : (st : Store) (client : ℕ) (head : Head) (records : List AtomicRec) → Opens st client head records → Pends st
    → (r : AtomicRec) → IsIn (st.book.log ++ records) r → IsPending (after_head client head records st).tally r
each_after st client head records opens pends r is = on (in_either st.book.log records r is)
  where
    mine : r.client ≡ client → IsApplied st.tally r ⊎ IsIn head.pending (pending_of r) → IsPending (after_head client head records st).tally r
    mine e (inl a) = inl a
    mine e (inr p) = inr (inr (subst (λ (h : Head). IsIn h.pending (pending_of r)) (sym (head_here st client head records r.client e)) p))

    other : r.client ≢ client → IsPending st.tally r → IsPending (after_head client head records st).tally r
    other ne (inl a) = inl a
    other ne (inr (inl w)) = inr (inl (subst (λ h. is_way h r ≡ true) (sym (head_there st client head records r.client ne)) w))
    other ne (inr (inr p)) = inr (inr (subst (λ (h : Head). IsIn h.pending (pending_of r)) (sym (head_there st client head records r.client ne)) p))

    old : IsIn st.book.log r → (r.client ≡ client) ⊎ (r.client ≢ client) → IsPending (after_head client head records st).tally r
    old logged (inl e) = mine e (old_pends st client head records opens pends r logged e)
    old logged (inr ne) = other ne (pends.each r logged)

    on : IsIn st.book.log r ⊎ IsIn records r → IsPending (after_head client head records st).tally r
    on (inl logged) = old logged (cases_eq r.client client)
    on (inr new) = inr (inl (new_way st client head records opens r new))

-- ---- heads

-- a record of a client stays one
own_front : (log more : List AtomicRec) (client : ℕ) (r : AtomicRec) → IsOwn log client r → IsOwn (log ++ more) client r
own_front log more client r own = record { logged = in_front log more r own.logged; client_is = own.client_is }

-- the head that opens
opened_holds : (st : Store) (client : ℕ) (head : Head) (records : List AtomicRec) → Opens st client head records → Numbers st → Holds st.book.log client (st.tally.head client)
    → Holds (st.book.log ++ records) client head
opened_holds st client head records opens numbers h = record {
  of_records = λ p is. let o = h.of_records p (opens.pending_from p is) in (o.0, own_front st.book.log records client o.0 o.1, o.2);
  one_queue = λ p q one two key. h.one_queue p q (opens.pending_from p one) (opens.pending_from q two) key;
  under_way = λ p r is own way key. on p r is own.client_is way key (in_either st.book.log records r own.logged);
}
  where
    on : (p : Pending) (r : AtomicRec) → IsIn head.pending p → r.client ≡ client → is_way head r ≡ true → IsOfKey p r.tree (key_in r) → IsIn st.book.log r ⊎ IsIn records r → r.page ≡ p.page
    on p r is e way key (inl logged) = absurd (old_way st client head records opens numbers r logged e way)
    on p r is e way key (inr new) = sym ((opens.records_are new.0 r new.1).sticky p is key.tree_is key.key_is)

-- another client's head
other_holds : (st : Store) (client : ℕ) (head : Head) (records : List AtomicRec) → Opens st client head records → (c : ℕ) → c ≢ client → Holds st.book.log c (st.tally.head c)
    → Holds (st.book.log ++ records) c (st.tally.head c)
other_holds st client head records opens c ne h = record {
  of_records = λ p is. let o = h.of_records p is in (o.0, own_front st.book.log records c o.0 o.1, o.2);
  one_queue = h.one_queue;
  under_way = λ p r is own way key. on p r is own.client_is way key (in_either st.book.log records r own.logged);
}
  where
    on : (p : Pending) (r : AtomicRec) → IsIn (st.tally.head c).pending p → r.client ≡ c → is_way (st.tally.head c) r ≡ true → IsOfKey p r.tree (key_in r)
        → IsIn st.book.log r ⊎ IsIn records r → r.page ≡ p.page
    on p r is e way key (inl logged) = h.under_way p r is (record { logged = logged; client_is = e }) way key
    on p r is e way key (inr new) = absurd (ne (sym e ∙ (opens.records_are new.0 r new.1).client_is))

heads_after : (st : Store) (client : ℕ) (head : Head) (records : List AtomicRec) → Opens st client head records → Numbers st → Pends st
    → (c : ℕ) → IsClient c → HeadPends (after_head client head records st) c
heads_after st client head records opens numbers pends c is = on (cases_eq c client)
  where
    on : (c ≡ client) ⊎ (c ≢ client) → HeadPends (after_head client head records st) c
    on (inl e) =
        let h : Holds (st.book.log ++ records) client head = opened_holds st client head records opens numbers (holds_of st client (pends.heads client opens.is_client)) in
        let at_c : Holds (st.book.log ++ records) c head = subst (λ k. Holds (st.book.log ++ records) k head) (sym e) h in
        pends_of (after_head client head records st) c (subst (λ (q : Head). Holds (st.book.log ++ records) c q) (sym (head_here st client head records c e)) at_c)
    on (inr ne) =
        let h : Holds (st.book.log ++ records) c (st.tally.head c) = other_holds st client head records opens c ne (holds_of st c (pends.heads c is)) in
        pends_of (after_head client head records st) c (subst (λ (q : Head). Holds (st.book.log ++ records) c q) (sym (head_there st client head records c ne)) h)

-- ---- two records of a key

sticky_after : (st : Store) (client : ℕ) (head : Head) (records : List AtomicRec) → Opens st client head records → Pends st
    → (i j : ℕ) (a b : AtomicRec) → StandsAt (st.book.log ++ records) i a → StandsAt (st.book.log ++ records) j b → i < j → AreOfKey a b → IsApplied st.tally a ⊎ (a.page ≡ b.page)
sticky_after st client head records opens pends i j a b one two before same = on (get_cases st.book.log records i a one) (get_cases st.book.log records j b two)
  where
    Place : ℕ → AtomicRec → Type 0
    Place k r = (StandsAt st.book.log k r) ⊎ ((n : ℕ) × (k ≡ length st.book.log + n) × StandsAt records n r)

    -- an earlier one, and one that opens
    joins : (n : ℕ) → StandsAt records n b → IsApplied st.tally a ⊎ IsIn head.pending (pending_of a) → IsApplied st.tally a ⊎ (a.page ≡ b.page)
    joins n there (inl applied) = inl applied
    joins n there (inr is) = inr ((opens.records_are n b there).sticky (pending_of a) is same.tree same.key)

    on : (StandsAt st.book.log i a) ⊎ ((n : ℕ) × (i ≡ length st.book.log + n) × StandsAt records n a)
        → (StandsAt st.book.log j b) ⊎ ((n : ℕ) × (j ≡ length st.book.log + n) × StandsAt records n b) → IsApplied st.tally a ⊎ (a.page ≡ b.page)
    on (inl p) (inl q) = pends.sticky i j a b p q before same
    on (inl p) (inr q) = joins q.0 q.2 (old_pends st client head records opens pends a (i, p) (same.client ∙ (opens.records_are q.0 b q.2).client_is))
    on (inr p) (inr q) = let e : p.0 ≡ q.0 = opens.distinct p.0 q.0 a b p.2 q.2 same.tree same.key in absurd (never p.0 q.0 p.1 q.1 e)
      where
        never : (m n : ℕ) → i ≡ length st.book.log + m → j ≡ length st.book.log + n → m ≡ n → ⊥
        never m n x y z = omega (arith, x, y, z, before)
    on (inr p) (inl q) = absurd (never (get_within st.book.log j b q) p.1)
      where
        never : j < length st.book.log → i ≡ length st.book.log + p.0 → ⊥
        never x y = omega (arith, x, y, before)

-- ---- the whole

pub opens_keeps : (st : Store) (client : ℕ) (head : Head) (records : List AtomicRec) → Opens st client head records → Numbers st → Pends st → Pends (after_head client head records st)
opens_keeps st client head records opens numbers pends = record {
  each = each_after st client head records opens pends;
  heads = heads_after st client head records opens numbers pends;
  sticky = sticky_after st client head records opens pends;
}
