-- A head that settles keeps what holds of the messages: what was under way was sent.
use Rattle.std.proofs.Common.{◌≡◌, ◌≢◌, ◌≤◌, ◌⊎◌, inl, inr, ℕ, Bool, true, false, List, [], ◌++◌, refl, sym, ap, subst, ◌∙◌, arith}
use Rattle.std.proofs.lemmas.Bool.{cases_eq}
use Rattle.cloud_facts.specs.Words.{IsClient, AtomicRec, Head, Store, IsIn, StandsAt}
use Rattle.head_codec.specs.declared.head.Phase.TheVariants.{Settled, Open}
use Rattle.cloud_facts.specs.Lefts.Left.{IsCopied, IsWaiting, HasWay, AreLogged, Leaves}
use Rattle.cloud_facts.proofs.Lefts.Holding.{LogHolds, log_of, logged_of, WayHolds, way_of, has_way}
use Rattle.cloud_facts.proofs.Lefts.HeadLemmas.{past_other, way_other}
use Rattle.cloud_facts.proofs.Lefts.MessageLemmas.{copy_of_message}
use Rattle.cloud_facts.proofs.Lefts.Ways.{ways_other}
use Rattle.cloud_facts.proofs.Numbers.Ways.{is_way}
use Rattle.route_plan.specs.Record.{pu_record_of}
use Rattle.cloud_facts.specs.Book.Effects.{after_head}
use Rattle.cloud_facts.specs.Book.Premises.{Settles, SettlesBehind}
use Rattle.cloud_facts.specs.Book.Records.{IsApplied, IsUnderWay, IsPast}
use Rattle.cloud_facts.specs.Book.Tally.{Tally}
use Rattle.cloud_facts.proofs.Book.Names.{at_same, at_other}
use Rattle.cloud_facts.proofs.Book.Places.{in_either, in_front, in_none}

-- nothing joins the log
only_old : (log : List AtomicRec) (r : AtomicRec) → IsIn (log ++ []) r → IsIn log r
only_old log r is = on (in_either log [] r is)
  where
    on : IsIn log r ⊎ IsIn [] r → IsIn log r
    on (inl h) = h
    on (inr h) = absurd (in_none [] r refl h)

-- a record is under way, or it is not
way_or_past : (t : Tally) (r : AtomicRec) → IsUnderWay t r ⊎ IsPast t r
way_or_past t r = on (is_way (t.head r.client) r)
  where
    on : (b : Bool) → (b ≡ true) ⊎ (b ≡ false)
    on true = inl refl
    on false = inr refl

settled_copied : (st : Store) (client : ℕ) (head : Head) → Settles st client head → Leaves st
    → (r : AtomicRec) → IsIn (st.book.log ++ []) r → IsApplied st.tally r ⊎ IsPast (after_head client head [] st).tally r → IsCopied st.tally r
settled_copied st client head settles h r is how = on (only_old st.book.log r is) how (cases_eq r.client client)
  where
    own : IsIn st.book.log r → r.client ≡ client → IsUnderWay st.tally r ⊎ IsPast st.tally r → IsCopied st.tally r
    own logged e (inl w) = let m = settles.copied r logged e w in copy_of_message (st.tally.posts r.tree r.page) m.0 (pu_record_of r) m.1
    own logged e (inr p) = h.copied r logged (inr p)

    on : IsIn st.book.log r → IsApplied st.tally r ⊎ IsPast (after_head client head [] st).tally r → (r.client ≡ client) ⊎ (r.client ≢ client) → IsCopied st.tally r
    on logged (inl a) either = h.copied r logged (inl a)
    on logged (inr p) (inl e) = own logged e (way_or_past st.tally r)
    on logged (inr p) (inr ne) = h.copied r logged (inr (past_other st client head [] r ne p))

settled_waiting : (st : Store) (client : ℕ) (head : Head) → Settles st client head → Leaves st
    → (r : AtomicRec) → IsIn (st.book.log ++ []) r → IsApplied st.tally r ⊎ (IsUnderWay (after_head client head [] st).tally r ⊎ IsWaiting st.tally r)
settled_waiting st client head settles h r is = on (only_old st.book.log r is) (h.waiting r (only_old st.book.log r is)) (cases_eq r.client client)
  where
    sent : IsApplied st.tally r ⊎ IsWaiting st.tally r → IsApplied st.tally r ⊎ (IsUnderWay (after_head client head [] st).tally r ⊎ IsWaiting st.tally r)
    sent (inl a) = inl a
    sent (inr w) = inr (inr w)

    on : IsIn st.book.log r → IsApplied st.tally r ⊎ (IsUnderWay st.tally r ⊎ IsWaiting st.tally r) → (r.client ≡ client) ⊎ (r.client ≢ client)
        → IsApplied st.tally r ⊎ (IsUnderWay (after_head client head [] st).tally r ⊎ IsWaiting st.tally r)
    on logged (inl a) either = inl a
    on logged (inr (inl w)) (inl e) = sent (settles.sent r logged e w)
    on logged (inr (inl w)) (inr ne) = inr (inl (way_other st client head [] r ne w))
    on logged (inr (inr w)) either = inr (inr w)

-- the epoch does not fall
epoch_rises : (before head : Head) → SettlesBehind before head → before.epoch ≤ head.epoch
epoch_rises before head (inl p) = omega (arith, p.0)
epoch_rises before head (inr e) = omega (arith, e)

log_stays : (st : Store) (c epoch : ℕ) → (st.tally.head c).epoch ≤ epoch → LogHolds (st.tally.logged c) (st.tally.head c).epoch st.book.log c
    → LogHolds (st.tally.logged c) epoch (st.book.log ++ []) c
log_stays st c epoch rises h = record {
  own = h.own;
  early = λ id r m. let e = h.early id r m in omega (arith, e, rises);
  distinct = h.distinct;
  committed = λ id r q m is e same txn. in_front st.book.log [] r (h.committed id r q m (only_old st.book.log q is) e same txn);
}

pub settles_keeps : (st : Store) (client : ℕ) (head : Head) → Settles st client head → Leaves st → Leaves (after_head client head [] st)
settles_keeps st client head settles h = record {
  copied = settled_copied st client head settles h;
  waiting = settled_waiting st client head settles h;
  ways = λ c count is phase. way c count is phase (cases_eq c client);
  logged = λ c is. log c is (cases_eq c client);
  sent = λ r is. h.sent r (only_old st.book.log r is);
}
  where
    none : (i : ℕ) (r : AtomicRec) → StandsAt [] i r → r.client ≡ client
    none i r e = absurd (in_none [] r refl (i, e))

    here : (c : ℕ) → c ≡ client → (after_head client head [] st).tally.head c ≡ head
    here c e = at_same client head st.tally.head c e

    there : (c : ℕ) → c ≢ client → (after_head client head [] st).tally.head c ≡ st.tally.head c
    there c ne = at_other client head st.tally.head c ne

    not_open : (count : ℕ) → Settled ≡ Open count → ⊥
    not_open count e = cc

    way : (c count : ℕ) → IsClient c → ((after_head client head [] st).tally.head c).phase ≡ Open count → (c ≡ client) ⊎ (c ≢ client) → HasWay (after_head client head [] st) c count
    way c count is phase (inl e) = absurd (not_open count (sym settles.phase ∙ (ap (λ (q : Head). q.phase) (sym (here c e)) ∙ phase)))
    way c count is phase (inr ne) =
        let w = way_of st c count (h.ways c count is (ap (λ (q : Head). q.phase) (sym (there c ne)) ∙ phase)) in
        has_way (after_head client head [] st) c count (subst (λ ws. WayHolds (st.tally.logged c) ws count) (sym (ways_other st client head [] c ne none)) w)

    log : (c : ℕ) → IsClient c → (c ≡ client) ⊎ (c ≢ client) → AreLogged (after_head client head [] st) c
    log c is (inl e) =
        let rises : (st.tally.head c).epoch ≤ head.epoch = subst (λ k. (st.tally.head k).epoch ≤ head.epoch) (sym e) (epoch_rises (st.tally.head client) head settles.behind) in
        logged_of (after_head client head [] st) c
        (subst (λ (q : Head). LogHolds (st.tally.logged c) q.epoch (st.book.log ++ []) c) (sym (here c e)) (log_stays st c head.epoch rises (log_of st c (h.logged c is))))
    log c is (inr ne) =
        logged_of (after_head client head [] st) c
        (subst (λ (q : Head). LogHolds (st.tally.logged c) q.epoch (st.book.log ++ []) c) (sym (there c ne)) (log_stays st c (st.tally.head c).epoch (omega arith) (log_of st c (h.logged c is))))
