-- What is sent and marked keeps what holds of the copies.
use Rattle.std.proofs.Common.{◌≡◌, ◌+◌, ◌<◌, ◌≤◌, ◌⊎◌, inl, inr, ℕ, Bool, true, false, List, [], ◌∷◌, ◌++◌, length, Some, refl, sym, ap, subst, ◌∙◌, arith}
use Rattle.std.proofs.lemmas.Bool.{cases_eq}
use Rattle.std.specs.Prelude.{slice_get}
use Rattle.cloud_facts.specs.Words.{IsClient, AtomicRec, Posted, Store, IsIn}
use Rattle.cloud_trait.specs.State.{marked}
use Rattle.cloud_facts.specs.Copies.Copies.{IsCopy, IsFirst, HasBefore, IsSentOn, WayBefore, Copies, PastIsSent}
use Rattle.cloud_facts.proofs.Copies.CopyLemmas.{copy_of_sent, copy_front, before_front, IsNew, new_cases, before_marked, copy_marked, copy_unmarked, sent_unmarked, sent_more, sent_marked}
use Rattle.cloud_facts.proofs.Copies.Order.{Ordered, order_of_filter}
use Rattle.log_codec.specs.Pu.{pu_of}
use Rattle.log_codec.specs.declared.record.PuRec.{PuRec}
use Rattle.cloud_facts.specs.Numbers.Numbers.{Numbers}
use Rattle.cloud_facts.proofs.Numbers.Known.{record_is, has_number}
use Rattle.cloud_facts.proofs.Numbers.Queues.{IsOfQueue, HasNumber, HasSeat, seat}
use Rattle.route_plan.specs.Record.{pu_record_of}
use Rattle.cloud_facts.specs.Book.Effects.{after_logged, after_posted, after_log_mark, after_post_mark}
use Rattle.cloud_facts.specs.Book.Messages.{HasCopy}
use Rattle.cloud_facts.specs.Book.Premises.{Posts, MarksPost}
use Rattle.cloud_facts.specs.Book.Records.{IsUnderWay, IsPast, is_under_way, is_of_queue, count_of}
use Rattle.cloud_facts.specs.Book.Tally.{Tally}
use Rattle.cloud_facts.proofs.Book.Names.{at2_by}
use Rattle.cloud_facts.proofs.Book.Places.{marked_other}

-- ---- ATOMIC queues

pub logged_keeps : (st : Store) (client : ℕ) (post : Posted) → Copies st → Copies (after_logged client post st)
logged_keeps st client post h = record { in_turn = h.in_turn; unmarked = h.unmarked; ways = h.ways }

pub log_mark_keeps : (st : Store) (client id : ℕ) → Copies st → Copies (after_log_mark client id st)
log_mark_keeps st client id h = record { in_turn = h.in_turn; unmarked = h.unmarked; ways = h.ways }

-- ---- a record is sent to a pending update queue

way_or_past : (t : Tally) (r : AtomicRec) → IsUnderWay t r ⊎ IsPast t r
way_or_past t r = on (is_under_way t r)
  where
    on : (b : Bool) → (b ≡ true) ⊎ (b ≡ false)
    on true = inl refl
    on false = inr refl

-- two records of a queue and client that are under way stand in the log by their numbers
ways_order : (st : Store) → Numbers st → (tree page client : ℕ) (q r : AtomicRec) → IsIn st.book.log q → IsIn st.book.log r
    → IsOfQueue tree page client q → IsOfQueue tree page client r → q.number < r.number → IsUnderWay st.tally q → IsUnderWay st.tally r
    → WayBefore st.tally.head st.book.log q r
ways_order st numbers tree page client q r in_q in_r of_q of_r less way_q way_r = record {
  i = in_log.i;
  j = in_log.j;
  before = in_log.less;
  one = in_log.one;
  other = in_log.other;
  client_is = of_q.client_is ∙ sym of_r.client_is;
  way_one = way_q;
  way_other = way_r;
}
  where
    seat_q : HasSeat st.book.log tree page client q
    seat_q = seat st.book.log numbers.in_order tree page client q in_q of_q

    seat_r : HasSeat st.book.log tree page client r
    seat_r = seat st.book.log numbers.in_order tree page client r in_r of_r

    apart : seat_q.place < seat_r.place
    apart = let a = seat_q.number_is in let b = seat_r.number_is in omega (arith, a, b, less)

    in_log : Ordered st.book.log q r
    in_log = order_of_filter (is_of_queue tree page client) st.book.log seat_q.place seat_r.place q r apart seat_q.there seat_r.there

-- the record of a number has a copy, where it is known to be sent
copy_of_record : (st : Store) (tree page client number : ℕ) (q : AtomicRec) → IsOfQueue tree page client q → q.number ≡ number → IsSentOn st.tally q
    → HasBefore (st.tally.posts tree page) client number (length (st.tally.posts tree page))
copy_of_record st tree page client number q is e copy =
    copy_of_sent (st.tally.posts tree page) client number (pu_record_of q) is.client_is e
    (subst (λ p. HasCopy (st.tally.posts tree p) (pu_record_of q)) is.page_is (subst (λ t. HasCopy (st.tally.posts t q.page) (pu_record_of q)) is.tree_is copy))

-- the number before that of the record that is sent was sent
number_before : (st : Store) (tree page : ℕ) (post : Posted) (r : AtomicRec) → Posts st tree page post r → PastIsSent st → Numbers st → Copies st
    → (client number : ℕ) → 1 ≤ number → r.client ≡ client → r.number ≡ number + 1
    → HasBefore (st.tally.posts tree page) client number (length (st.tally.posts tree page))
number_before st tree page post r posts past_is_sent numbers h client number some own e = on (way_or_past st.tally q.of) (way_or_past st.tally r)
  where
    of_r : IsOfQueue tree page client r
    of_r = record { client_is = own; tree_is = posts.tree_is; page_is = posts.page_is }

    most : number ≤ count_of tree page client st.book.log
    most = let within = (seat st.book.log numbers.in_order tree page client r posts.logged of_r).within in omega (arith, within, e)

    q : HasNumber st.book.log tree page client number
    q = has_number st numbers tree page client number some most

    -- the record was sent before
    again : IsSentOn st.tally r → HasBefore (st.tally.posts tree page) client number (length (st.tally.posts tree page))
    again copy =
        let c = copy_of_record st tree page client (number + 1) r of_r e copy in
        let b = h.in_turn tree page client number c.at some c.copy in
        record { at = b.at; copy = b.copy; before = let x = b.before in let y = c.before in omega (arith, x, y) }

    less : q.of.number < r.number
    less = let n = q.number_is in omega (arith, n, e)

    on : IsUnderWay st.tally q.of ⊎ IsPast st.tally q.of → IsUnderWay st.tally r ⊎ IsPast st.tally r
        → HasBefore (st.tally.posts tree page) client number (length (st.tally.posts tree page))
    on (inr past) either = copy_of_record st tree page client number q.of q.is q.number_is (past_is_sent q.of q.logged past)
    on (inl way) (inr past) = again (past_is_sent r posts.logged past)
    on (inl way) (inl way_r) =
        copy_of_record st tree page client number q.of q.is q.number_is
        (posts.turn q.of (ways_order st numbers tree page client q.of r q.logged posts.logged q.is of_r less way way_r))

-- what has a copy in a queue with one more had one before, or is the record that is sent
sent_cases : (posts : List Posted) (post : Posted) (r : AtomicRec) (rec : PuRec) → pu_of post.bytes ≡ Some (pu_record_of r) → HasCopy (posts ++ post ∷ []) rec
    → HasCopy posts rec ⊎ (rec ≡ pu_record_of r)
sent_cases posts post r rec reads c = on (new_cases posts post c.place c.message c.there)
  where
    same_rec : (a b : PuRec) → Some a ≡ Some b → a ≡ b
    same_rec a b e = cc

    on : (slice_get posts c.place ≡ Some c.message) ⊎ IsNew posts post c.place c.message → HasCopy posts rec ⊎ (rec ≡ pu_record_of r)
    on (inl there) = inl (record { place = c.place; message = c.message; there = there; reads = c.reads })
    on (inr new) = inr (same_rec rec (pu_record_of r) (sym c.reads ∙ (sym (ap (λ (m : Posted). pu_of m.bytes) new.message_is) ∙ reads)))

-- a record is the one that is sent
record IsSentOne (tree page : ℕ) (r x : AtomicRec) : Type 0 where
  pub tree_is : x.tree ≡ tree
  pub page_is : x.page ≡ page
  pub rec_is : pu_record_of x ≡ pu_record_of r

pub posted_keeps : (st : Store) (tree page : ℕ) (post : Posted) (r : AtomicRec) → Posts st tree page post r → PastIsSent st → Numbers st → Copies st
    → Copies (after_posted tree page post st)
posted_keeps st tree page post r posts past_is_sent numbers h = record {
  in_turn = λ t p client number place some copy. in_turn client number place some t p copy;
  unmarked = λ t p client number place is above first. unmarked client number place is t p above first;
  ways = λ q x b copy. ways q x b (cases x copy);
}
  where
    same_rec : (a b : PuRec) → Some a ≡ Some b → a ≡ b
    same_rec a b e = cc

    in_turn : (client number place : ℕ) → 1 ≤ number → (t p : ℕ) → IsCopy ((after_posted tree page post st).tally.posts t p) client (number + 1) place
        → HasBefore ((after_posted tree page post st).tally.posts t p) client number place
    in_turn client number place some =
        at2_by (λ t p ps. IsCopy ps client (number + 1) place → HasBefore ps client number place) tree page _ st.tally.posts
        (λ c. on c (new_cases (st.tally.posts tree page) post place c.message c.there)) (λ t p c. h.in_turn t p client number place some c)
      where
        on : (c : IsCopy (st.tally.posts tree page ++ post ∷ []) client (number + 1) place)
            → (slice_get (st.tally.posts tree page) place ≡ Some c.message) ⊎ IsNew (st.tally.posts tree page) post place c.message
            → HasBefore (st.tally.posts tree page ++ post ∷ []) client number place
        on c (inl there) =
            before_front (st.tally.posts tree page) (post ∷ []) client number place
            (h.in_turn tree page client number place some
            (record { message = c.message; rec = c.rec; there = there; reads = c.reads; client_is = c.client_is; number_is = c.number_is }))
        on c (inr new) =
            let rec_is : c.rec ≡ pu_record_of r =
            same_rec c.rec (pu_record_of r) (sym c.reads ∙ (sym (ap (λ (m : Posted). pu_of m.bytes) new.message_is) ∙ posts.reads)) in
            let own : r.client ≡ client = sym (ap (λ (p : PuRec). p.client) rec_is) ∙ c.client_is in
            let number_is : r.number ≡ number + 1 = sym (ap (λ (p : PuRec). p.number) rec_is) ∙ c.number_is in
            before_front (st.tally.posts tree page) (post ∷ []) client number place
            (subst (λ k. HasBefore (st.tally.posts tree page) client number k) (sym new.place_is)
            (number_before st tree page post r posts past_is_sent numbers h client number some own number_is))

    unmarked : (client number place : ℕ) → IsClient client → (t p : ℕ) → st.tally.cursor t p client < number
        → (first : IsFirst ((after_posted tree page post st).tally.posts t p) client number place) → first.copy.message.deleted ≡ false
    unmarked client number place is =
        at2_by (λ t p ps. st.tally.cursor t p client < number → (first : IsFirst ps client number place) → first.copy.message.deleted ≡ false)
        tree page _ st.tally.posts
        (λ above first. on above first (new_cases (st.tally.posts tree page) post place first.copy.message first.copy.there))
        (λ t p above first. h.unmarked t p client number place is above first)
      where
        on : st.tally.cursor tree page client < number → (first : IsFirst (st.tally.posts tree page ++ post ∷ []) client number place)
            → (slice_get (st.tally.posts tree page) place ≡ Some first.copy.message) ⊎ IsNew (st.tally.posts tree page) post place first.copy.message
            → first.copy.message.deleted ≡ false
        on above first (inl there) =
            let c = first.copy in
            h.unmarked tree page client number place is above
            (record {
              copy = record { message = c.message; rec = c.rec; there = there; reads = c.reads; client_is = c.client_is; number_is = c.number_is };
              earliest = λ i d. first.earliest i (copy_front (st.tally.posts tree page) (post ∷ []) client number i d);
            })
        on above first (inr new) = sym (ap (λ (m : Posted). m.deleted) new.message_is) ∙ posts.unmarked

    -- what is copied now was before, or is the record that is sent
    cases : (x : AtomicRec) → IsSentOn (after_posted tree page post st).tally x
        → IsSentOn st.tally x ⊎ IsSentOne tree page r x
    cases x =
        at2_by (λ t p ps. x.tree ≡ t → x.page ≡ p → HasCopy ps (pu_record_of x) → HasCopy (st.tally.posts t p) (pu_record_of x) ⊎ IsSentOne tree page r x)
        tree page _ st.tally.posts
        (λ a b c. on a b (sent_cases (st.tally.posts tree page) post r (pu_record_of x) posts.reads c)) (λ t p a b c. inl c) x.tree x.page refl refl
      where
        on : x.tree ≡ tree → x.page ≡ page → HasCopy (st.tally.posts tree page) (pu_record_of x) ⊎ (pu_record_of x ≡ pu_record_of r)
            → HasCopy (st.tally.posts tree page) (pu_record_of x) ⊎ IsSentOne tree page r x
        on a b (inl c) = inl c
        on a b (inr e) = inr (record { tree_is = a; page_is = b; rec_is = e })

    more : (q : AtomicRec) → IsSentOn st.tally q → IsSentOn (after_posted tree page post st).tally q
    more q =
        at2_by (λ t p ps. HasCopy (st.tally.posts t p) (pu_record_of q) → HasCopy ps (pu_record_of q)) tree page _ st.tally.posts
        (sent_more (st.tally.posts tree page) (post ∷ []) (pu_record_of q)) (λ t p c. c) q.tree q.page

    ways : (q x : AtomicRec) → WayBefore st.tally.head st.book.log q x → IsSentOn st.tally x ⊎ IsSentOne tree page r x
        → IsSentOn (after_posted tree page post st).tally q
    ways q x b (inl copy) = more q (h.ways q x b copy)
    ways q x b (inr is) =
        let client_is : x.client ≡ r.client = ap (λ (p : PuRec). p.client) is.rec_is in
        let number_is : x.number ≡ r.number = ap (λ (p : PuRec). p.number) is.rec_is in
        let same : x ≡ r = record_is st numbers x r (b.j, b.other) posts.logged (is.tree_is ∙ sym posts.tree_is) (is.page_is ∙ sym posts.page_is) client_is number_is in
        more q (posts.turn q (subst (λ y. WayBefore st.tally.head st.book.log q y) same b))

-- ---- a pending update message is marked: it is none above the cursor

pub post_mark_keeps : (st : Store) (tree page id : ℕ) → MarksPost st tree page id → Copies st → Copies (after_post_mark tree page id st)
post_mark_keeps st tree page id marking h = record {
  in_turn = λ t p client number place some copy. in_turn client number place some t p copy;
  unmarked = λ t p client number place is above first. unmarked client number place is t p above first;
  ways = λ q r b copy. stays q (h.ways q r b (before r copy));
}
  where
    in_turn : (client number place : ℕ) → 1 ≤ number → (t p : ℕ) → IsCopy ((after_post_mark tree page id st).tally.posts t p) client (number + 1) place
        → HasBefore ((after_post_mark tree page id st).tally.posts t p) client number place
    in_turn client number place some =
        at2_by (λ t p ps. IsCopy ps client (number + 1) place → HasBefore ps client number place) tree page _ st.tally.posts
        (λ c. before_marked (st.tally.posts tree page) id client number place
        (h.in_turn tree page client number place some (copy_unmarked (st.tally.posts tree page) id client (number + 1) place c)))
        (λ t p c. h.in_turn t p client number place some c)

    unmarked : (client number place : ℕ) → IsClient client → (t p : ℕ) → st.tally.cursor t p client < number
        → (first : IsFirst ((after_post_mark tree page id st).tally.posts t p) client number place) → first.copy.message.deleted ≡ false
    unmarked client number place is =
        at2_by (λ t p ps. st.tally.cursor t p client < number → (first : IsFirst ps client number place) → first.copy.message.deleted ≡ false)
        tree page _ st.tally.posts
        (λ above first. on above first (cases_eq id (place + 1))) (λ t p above first. h.unmarked t p client number place is above first)
      where
        same_message : (ps : List Posted) (a b : Posted) → slice_get ps place ≡ Some a → slice_get ps place ≡ Some b → a ≡ b
        same_message ps a b e f = cc

        on : st.tally.cursor tree page client < number → (first : IsFirst (marked (st.tally.posts tree page) id) client number place)
            → (id ≡ place + 1) ⊎ (id ≡ place + 1 → ⊥) → first.copy.message.deleted ≡ false
        on above first (inl e) =
            let c = copy_unmarked (st.tally.posts tree page) id client number place first.copy in
            let low : c.rec.number ≤ st.tally.cursor tree page c.rec.client =
            marking.covered c.rec (record { place = place; message = c.message; id_is = e; there = c.there; reads = c.reads }) in
            let at_client : c.rec.number ≤ st.tally.cursor tree page client = subst (λ k. c.rec.number ≤ st.tally.cursor tree page k) c.client_is low in
            absurd (omega (arith, at_client, above, c.number_is))
        on above first (inr ne) =
            let c = copy_unmarked (st.tally.posts tree page) id client number place first.copy in
            let old : IsFirst (st.tally.posts tree page) client number place = record {
              copy = c;
              earliest = λ i d. first.earliest i (copy_marked (st.tally.posts tree page) id client number i d);
            } in
            let same : c.message ≡ first.copy.message =
            same_message (marked (st.tally.posts tree page) id) c.message first.copy.message
            (marked_other (st.tally.posts tree page) id place c.message c.there ne) first.copy.there in
            sym (ap (λ (m : Posted). m.deleted) same) ∙ h.unmarked tree page client number place is above old

    before : (r : AtomicRec) → IsSentOn (after_post_mark tree page id st).tally r → IsSentOn st.tally r
    before r =
        at2_by (λ t p ps. HasCopy ps (pu_record_of r) → HasCopy (st.tally.posts t p) (pu_record_of r)) tree page _ st.tally.posts
        (sent_unmarked (st.tally.posts tree page) id (pu_record_of r)) (λ t p c. c) r.tree r.page

    stays : (q : AtomicRec) → IsSentOn st.tally q → IsSentOn (after_post_mark tree page id st).tally q
    stays q =
        at2_by (λ t p ps. HasCopy (st.tally.posts t p) (pu_record_of q) → HasCopy ps (pu_record_of q)) tree page _ st.tally.posts
        (sent_marked (st.tally.posts tree page) id (pu_record_of q)) (λ t p c. c) q.tree q.page
