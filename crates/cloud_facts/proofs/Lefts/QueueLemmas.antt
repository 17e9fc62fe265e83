-- What is sent and marked keeps what holds of the messages.
use Rattle.std.proofs.Common.{◌≡◌, ◌≤◌, ◌⊎◌, inl, inr, ℕ, true, List, [], ◌∷◌, ◌++◌, Some, refl, sym, ap, subst, ◌∙◌}
use Rattle.cloud_facts.specs.Words.{IsClient, AtomicRec, Posted, Store, at, IsIn}
use Rattle.cloud_trait.specs.State.{marked}
use Rattle.head_codec.specs.declared.head.Phase.TheVariants.{Open}
use Rattle.cloud_facts.specs.Lefts.Left.{IsCopied, IsWaiting, WasLogged, Leaves}
use Rattle.cloud_facts.proofs.Lefts.Holding.{LogHolds, log_of, logged_of, WayHolds, way_of, has_way}
use Rattle.cloud_facts.proofs.Lefts.Ways.{of_ways}
use Rattle.cloud_facts.proofs.Lefts.MessageLemmas.{copy_more, waits_more, logged_more, IsLast, log_cases, copy_marked, waits_marked, logged_marked, log_marked, log_message_more, log_message_marked}
use Rattle.cloud_facts.specs.Numbers.Numbers.{Numbers}
use Rattle.cloud_facts.proofs.Numbers.Ways.{is_way, way_epoch, way_txn}
use Rattle.route_plan.specs.Record.{pu_record_of}
use Rattle.cloud_facts.specs.Book.Effects.{after_logged, after_posted, after_log_mark, after_post_mark}
use Rattle.cloud_facts.specs.Book.Messages.{HasCopy, Waits, WaitsLogged, IsMessage, IsLogMessage}
use Rattle.cloud_facts.specs.Book.Premises.{Logs, MarksPost, MarksLog}
use Rattle.cloud_facts.specs.Book.Records.{IsApplied, IsUnderWay, is_open, under_way}
use Rattle.cloud_facts.proofs.Book.Names.{at_by, at2_by}

-- ---- a record is sent to an ATOMIC queue

-- the messages of the client with one more
more_holds : (st : Store) (client : ℕ) (post : Posted) (r : AtomicRec) → Logs st client post r
    → LogHolds (st.tally.logged client) (st.tally.head client).epoch st.book.log client → LogHolds (st.tally.logged client ++ post ∷ []) (st.tally.head client).epoch st.book.log client
more_holds st client post r logs h = record {
  own = λ id q m. own_of q (log_cases (st.tally.logged client) post id q m);
  early = λ id q m. early_of q (log_cases (st.tally.logged client) post id q m);
  distinct = λ i j a b one two epoch txn index. apart i j a b (log_cases (st.tally.logged client) post i a one) (log_cases (st.tally.logged client) post j b two) epoch txn index;
  committed = λ id q p m logged e epoch txn. committed_of id q p (log_cases (st.tally.logged client) post id q m) logged e epoch txn;
}
  where
    is : (id : ℕ) (q : AtomicRec) → IsLast (st.tally.logged client) post id q → r ≡ q
    is id q l = let e : Some r ≡ Some q = sym logs.reads ∙ l.reads in cc

    own_of : {id : ℕ} (q : AtomicRec) → IsLogMessage (st.tally.logged client) id q ⊎ IsLast (st.tally.logged client) post id q → q.client ≡ client
    own_of {id} q (inl m) = h.own id q m
    own_of {id} q (inr l) = subst (λ (x : AtomicRec). x.client ≡ client) (is id q l) logs.client_is

    early_of : {id : ℕ} (q : AtomicRec) → IsLogMessage (st.tally.logged client) id q ⊎ IsLast (st.tally.logged client) post id q → q.epoch ≤ (st.tally.head client).epoch
    early_of {id} q (inl m) = h.early id q m
    early_of {id} q (inr l) = subst (λ (x : AtomicRec). x.epoch ≤ (st.tally.head client).epoch) (is id q l) logs.epoch

    -- the new one agrees with none of before
    never : (i j : ℕ) (a b : AtomicRec) → IsLogMessage (st.tally.logged client) i a → IsLast (st.tally.logged client) post j b → a.epoch ≡ b.epoch → a.txn ≡ b.txn → a.index ≡ b.index → ⊥
    never i j a b m l epoch txn index =
        let e : b ≡ r = sym (is j b l) in
        logs.first i a m (epoch ∙ ap (λ (x : AtomicRec). x.epoch) e) (txn ∙ ap (λ (x : AtomicRec). x.txn) e) (index ∙ ap (λ (x : AtomicRec). x.index) e)

    apart : (i j : ℕ) (a b : AtomicRec) → IsLogMessage (st.tally.logged client) i a ⊎ IsLast (st.tally.logged client) post i a
        → IsLogMessage (st.tally.logged client) j b ⊎ IsLast (st.tally.logged client) post j b → a.epoch ≡ b.epoch → a.txn ≡ b.txn → a.index ≡ b.index → i ≡ j
    apart i j a b (inl m) (inl n) epoch txn index = h.distinct i j a b m n epoch txn index
    apart i j a b (inl m) (inr l) epoch txn index = absurd (never i j a b m l epoch txn index)
    apart i j a b (inr l) (inl n) epoch txn index = absurd (never j i b a n l (sym epoch) (sym txn) (sym index))
    apart i j a b (inr k) (inr l) epoch txn index = k.id_is ∙ sym l.id_is

    committed_of : (id : ℕ) (q p : AtomicRec) → IsLogMessage (st.tally.logged client) id q ⊎ IsLast (st.tally.logged client) post id q → IsIn st.book.log p → p.client ≡ client
        → p.epoch ≡ q.epoch → p.txn ≡ q.txn → IsIn st.book.log q
    committed_of id q p (inl m) logged e epoch txn = h.committed id q p m logged e epoch txn
    committed_of id q p (inr l) logged e epoch txn =
        let same : q ≡ r = sym (is id q l) in
        absurd (logs.uncommitted p logged e (epoch ∙ ap (λ (x : AtomicRec). x.epoch) same) (txn ∙ ap (λ (x : AtomicRec). x.txn) same))

more_way : (logged : List Posted) (post : Posted) (ways : List AtomicRec) (count : ℕ) → WayHolds logged ways count → WayHolds (logged ++ post ∷ []) ways count
more_way logged post ways count h = record {
  length_is = h.length_is;
  each = λ place r there. let w = h.each place r there in record { index_is = w.index_is; count_is = w.count_is; logged_is = logged_more logged (post ∷ []) r w.logged_is };
}

pub logged_keeps : (st : Store) (client : ℕ) (post : Posted) (r : AtomicRec) → Logs st client post r → Leaves st → Leaves (after_logged client post st)
logged_keeps st client post r logs h = record {
  copied = h.copied;
  waiting = h.waiting;
  ways = λ c count is opens. has_way (after_logged client post st) c count (way c count is opens);
  logged = λ c is. logged_of (after_logged client post st) c (log c is);
  sent = λ q logged. sent q (h.sent q logged);
}
  where
    sent : (q : AtomicRec) → WasLogged st.tally q → WasLogged (after_logged client post st).tally q
    sent q (id, m) = (
      id,
      at_by (λ c ps. IsLogMessage (st.tally.logged c) id q → IsLogMessage ps id q) client _ st.tally.logged
          (log_message_more (st.tally.logged client) (post ∷ []) id q) (λ c n. n) q.client m,
    )

    log : (c : ℕ) → IsClient c → LogHolds (at client (st.tally.logged client ++ post ∷ []) st.tally.logged c) (st.tally.head c).epoch st.book.log c
    log =
        at_by (λ c ps. IsClient c → LogHolds ps (st.tally.head c).epoch st.book.log c) client _ st.tally.logged
        (λ is. more_holds st client post r logs (log_of st client (h.logged client is))) (λ c is. log_of st c (h.logged c is))

    way : (c count : ℕ) → IsClient c → (st.tally.head c).phase ≡ Open count
        → WayHolds (at client (st.tally.logged client ++ post ∷ []) st.tally.logged c) (under_way st.tally c st.book.log) count
    way c count =
        at_by (λ c ps. IsClient c → (st.tally.head c).phase ≡ Open count → WayHolds ps (under_way st.tally c st.book.log) count) client _ st.tally.logged
        (λ is opens. more_way (st.tally.logged client) post (under_way st.tally client st.book.log) count (way_of st client count (h.ways client count is opens)))
        (λ c is opens. way_of st c count (h.ways c count is opens)) c

-- ---- an ATOMIC message is marked

marked_holds : (logged : List Posted) (marks epoch : ℕ) (log : List AtomicRec) (client : ℕ) → LogHolds logged epoch log client → LogHolds (marked logged marks) epoch log client
marked_holds logged marks epoch log client h = record {
  own = λ id r m. h.own id r (log_marked logged marks id r m);
  early = λ id r m. h.early id r (log_marked logged marks id r m);
  distinct = λ i j a b one two. h.distinct i j a b (log_marked logged marks i a one) (log_marked logged marks j b two);
  committed = λ id r q m. h.committed id r q (log_marked logged marks id r m);
}

-- the message of a record under way is not the one that is marked
marked_way : (st : Store) (client marks count : ℕ) → MarksLog st client marks → (st.tally.head client).phase ≡ Open count
    → WayHolds (st.tally.logged client) (under_way st.tally client st.book.log) count → WayHolds (marked (st.tally.logged client) marks) (under_way st.tally client st.book.log) count
marked_way st client marks count marking opens h = record {
  length_is = h.length_is;
  each = λ place r there. let w = h.each place r there in record {
    index_is = w.index_is;
    count_is = w.count_is;
    logged_is = on r (of_ways st.tally client st.book.log place r there) (logged_marked (st.tally.logged client) marks r w.logged_is);
  };
}
  where
    on : (r : AtomicRec) → (r.client ≡ client) × IsUnderWay st.tally r → IsLogMessage (st.tally.logged client) marks r ⊎ WaitsLogged (marked (st.tally.logged client) marks) r
        → WaitsLogged (marked (st.tally.logged client) marks) r
    on r own (inr w) = w
    on r own (inl m) =
        let way : is_way (st.tally.head client) r ≡ true = subst (λ c. is_way (st.tally.head c) r ≡ true) own.0 own.1 in
        absurd (marking.past r m (ap is_open opens) (way_epoch (st.tally.head client) r way) (way_txn (st.tally.head client) r way))

pub log_mark_keeps : (st : Store) (client id : ℕ) → MarksLog st client id → Leaves st → Leaves (after_log_mark client id st)
log_mark_keeps st client id marking h = record {
  copied = h.copied;
  waiting = h.waiting;
  ways = λ c count is opens. has_way (after_log_mark client id st) c count (way c count is opens);
  logged = λ c is. logged_of (after_log_mark client id st) c (log c is);
  sent = λ q logged. sent q (h.sent q logged);
}
  where
    sent : (q : AtomicRec) → WasLogged st.tally q → WasLogged (after_log_mark client id st).tally q
    sent q (sent_id, m) = (
      sent_id,
      at_by (λ c ps. IsLogMessage (st.tally.logged c) sent_id q → IsLogMessage ps sent_id q) client _ st.tally.logged
          (log_message_marked (st.tally.logged client) id sent_id q) (λ c n. n) q.client m,
    )

    log : (c : ℕ) → IsClient c → LogHolds (at client (marked (st.tally.logged client) id) st.tally.logged c) (st.tally.head c).epoch st.book.log c
    log =
        at_by (λ c ps. IsClient c → LogHolds ps (st.tally.head c).epoch st.book.log c) client _ st.tally.logged
        (λ is. marked_holds (st.tally.logged client) id (st.tally.head client).epoch st.book.log client (log_of st client (h.logged client is))) (λ c is. log_of st c (h.logged c is))

    way : (c count : ℕ) → IsClient c → (st.tally.head c).phase ≡ Open count
        → WayHolds (at client (marked (st.tally.logged client) id) st.tally.logged c) (under_way st.tally c st.book.log) count
    way c count =
        at_by (λ c ps. IsClient c → (st.tally.head c).phase ≡ Open count → WayHolds ps (under_way st.tally c st.book.log) count) client _ st.tally.logged
        (λ is opens. marked_way st client id count marking opens (way_of st client count (h.ways client count is opens)))
        (λ c is opens. way_of st c count (h.ways c count is opens)) c

-- ---- a record is sent to a pending update queue

pub posted_keeps : (st : Store) (tree page : ℕ) (post : Posted) → Leaves st → Leaves (after_posted tree page post st)
posted_keeps st tree page post h = record {
  copied = λ r logged how. copy r (h.copied r logged how);
  waiting = λ r logged. on r (h.waiting r logged);
  ways = λ c count is opens. has_way (after_posted tree page post st) c count (way_of st c count (h.ways c count is opens));
  logged = λ c is. logged_of (after_posted tree page post st) c (log_of st c (h.logged c is));
  sent = h.sent;
}
  where
    copy : (r : AtomicRec) → IsCopied st.tally r → IsCopied (after_posted tree page post st).tally r
    copy r =
        at2_by (λ t q ps. HasCopy (st.tally.posts t q) (pu_record_of r) → HasCopy ps (pu_record_of r)) tree page _ st.tally.posts
        (copy_more (st.tally.posts tree page) (post ∷ []) (pu_record_of r)) (λ t q is. is) r.tree r.page

    waits : (r : AtomicRec) → IsWaiting st.tally r → IsWaiting (after_posted tree page post st).tally r
    waits r =
        at2_by (λ t q ps. Waits (st.tally.posts t q) (pu_record_of r) → Waits ps (pu_record_of r)) tree page _ st.tally.posts
        (waits_more (st.tally.posts tree page) (post ∷ []) (pu_record_of r)) (λ t q is. is) r.tree r.page

    on : (r : AtomicRec) → IsApplied st.tally r ⊎ (IsUnderWay st.tally r ⊎ IsWaiting st.tally r) → IsApplied st.tally r ⊎ (IsUnderWay st.tally r ⊎ IsWaiting (after_posted tree page post st).tally r)
    on r (inl a) = inl a
    on r (inr (inl w)) = inr (inl w)
    on r (inr (inr w)) = inr (inr (waits r w))

-- ---- a pending update message is marked: its record is applied

pub post_mark_keeps : (st : Store) (tree page id : ℕ) → MarksPost st tree page id → Numbers st → Leaves st → Leaves (after_post_mark tree page id st)
post_mark_keeps st tree page id marking numbers h = record {
  copied = λ r logged how. copy r (h.copied r logged how);
  waiting = λ r logged. on r logged (h.waiting r logged);
  ways = λ c count is opens. has_way (after_post_mark tree page id st) c count (way_of st c count (h.ways c count is opens));
  logged = λ c is. logged_of (after_post_mark tree page id st) c (log_of st c (h.logged c is));
  sent = h.sent;
}
  where
    copy : (r : AtomicRec) → IsCopied st.tally r → IsCopied (after_post_mark tree page id st).tally r
    copy r =
        at2_by (λ t q ps. HasCopy (st.tally.posts t q) (pu_record_of r) → HasCopy ps (pu_record_of r)) tree page _ st.tally.posts
        (copy_marked (st.tally.posts tree page) id (pu_record_of r)) (λ t q is. is) r.tree r.page

    applied : (r : AtomicRec) → IsIn st.book.log r → tree ≡ r.tree → page ≡ r.page → IsMessage (st.tally.posts tree page) id (pu_record_of r) → IsApplied st.tally r
    applied r logged t q m =
        let under : r.number ≤ st.tally.cursor tree page r.client = marking.covered (pu_record_of r) m in
        numbers.covered r logged (subst (λ k. r.number ≤ st.tally.cursor r.tree k r.client) q (subst (λ k. r.number ≤ st.tally.cursor k page r.client) t under))

    waits : (r : AtomicRec) → IsIn st.book.log r → IsWaiting st.tally r → IsApplied st.tally r ⊎ IsWaiting (after_post_mark tree page id st).tally r
    waits r logged w =
        at2_by (λ t q ps. t ≡ r.tree → q ≡ r.page → Waits (st.tally.posts t q) (pu_record_of r) → IsApplied st.tally r ⊎ Waits ps (pu_record_of r)) tree page _ st.tally.posts
        (λ t q is. turn t q (waits_marked (st.tally.posts tree page) id (pu_record_of r) is)) (λ t q a b is. inr is) r.tree r.page refl refl w
      where
        turn : tree ≡ r.tree → page ≡ r.page → IsMessage (st.tally.posts tree page) id (pu_record_of r) ⊎ Waits (marked (st.tally.posts tree page) id) (pu_record_of r)
            → IsApplied st.tally r ⊎ Waits (marked (st.tally.posts tree page) id) (pu_record_of r)
        turn t q (inl m) = inl (applied r logged t q m)
        turn t q (inr is) = inr is

    on : (r : AtomicRec) → IsIn st.book.log r → IsApplied st.tally r ⊎ (IsUnderWay st.tally r ⊎ IsWaiting st.tally r)
        → IsApplied st.tally r ⊎ (IsUnderWay st.tally r ⊎ IsWaiting (after_post_mark tree page id st).tally r)
    on r logged (inl a) = inl a
    on r logged (inr (inl w)) = inr (inl w)
    on r logged (inr (inr w)) = turn (waits r logged w)
      where
        turn : IsApplied st.tally r ⊎ IsWaiting (after_post_mark tree page id st).tally r → IsApplied st.tally r ⊎ (IsUnderWay st.tally r ⊎ IsWaiting (after_post_mark tree page id st).tally r)
        turn (inl a) = inl a
        turn (inr is) = inr (inr is)
