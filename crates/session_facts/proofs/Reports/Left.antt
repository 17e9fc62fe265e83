-- Where a report counts no open head and no message that waits, nothing of its tree is left.
use Rattle.std.proofs.Common.{◌≡◌, ◌+◌, ◌<◌, ◌≤◌, ℕ, zero, suc, List, [], ◌∷◌, length, map, min, Some, None, Option, refl, sym, ap, subst, ◌∙◌, ◌⊎◌, inl, inr, Bool, true, false, arith, cond}
use Rattle.std.specs.Prelude.{◌==◌, ◌&&◌, ◌||◌, slice_get, unwrap_or}
use Rattle.std.specs.Option.{option_and_then}
use Rattle.std.specs.List.{list_any}
use Rattle.std.proofs.lemmas.Bool.{cases_lt, eqb-true, eq-eqb, and_from, and_parts}
use Rattle.cloud_facts.specs.Chains.Chain.{ChainHolds}
use Rattle.cloud_facts.specs.Chains.Links.{top_of}
use Rattle.cloud_facts.specs.Words.{IsClient, IsTree as IsTreeId, Entry, AtomicRec, Head, Tree, Version, Posted, CloudState, newest, Book, IsIn, roots_of, store_of}
use Rattle.db_base.specs.declared.names.ObjName.TheVariants as object
use Rattle.cloud_trait.specs.Delivery.{unmarked, unmarked_from}
use Rattle.cloud_trait.specs.State.{newest_of, greatest}
use Rattle.cloud_facts.proofs.Decoding.Newest.{IsLast, last_cases, last_map, newest_last}
use Rattle.cloud_facts.proofs.Decoding.Reading.{root_reads}
use Rattle.head_codec.specs.declared.head.Phase.{Phase}
use Rattle.head_codec.specs.declared.head.Phase.TheVariants.{Settled, Open}
use Rattle.head_codec.specs.Head.{empty_head}
use Rattle.history.specs.Fold.{of_tree}
use Rattle.leaf_view.proofs.Split.{range_is}
use Rattle.cloud_facts.specs.Lefts.Left.{NothingLeft}
use Rattle.log_codec.specs.declared.record.PuRec.{PuRec}
use Rattle.cloud_facts.proofs.Calls.Heads.{newest_head}
use Rattle.node_codec.proofs.TreeLemmas.{tree_fits}
use Rattle.node_codec.specs.Tree.{empty_tree, tree_of}
use Rattle.cloud_facts.specs.Numbers.Numbers.{Numbers}
use Rattle.cloud_facts.specs.Book.Messages.{Waits}
use Rattle.cloud_facts.specs.Book.Premises.{IsRouted}
use Rattle.cloud_facts.specs.Book.Records.{IsUnderWay, is_open, entry_of, entries_of}
use Rattle.cloud_facts.specs.Book.Telling.{queue_of, root_in}
use Rattle.world_audit.specs.Counts.{is_of, is_under_way, open_count, open_at, head_in, heads_upto, queue_at, messages_below, IsNextPage, AreWaiting}
use Rattle.session_facts.proofs.Reports.Settled.{head_seen}

-- ---- messages

unmarked_some : (posts : List Posted) (n place : ℕ) (m : Posted) → slice_get posts place ≡ Some m → m.deleted ≡ false → 1 ≤ length (unmarked_from n posts)
unmarked_some [] n place m e d = absurd (cc)
unmarked_some (p ∷ posts) n place m e d = on (λ k h. unmarked_some posts (n + 1) k m h d) p.deleted refl place e
  where
    on : ((k : ℕ) → slice_get posts k ≡ Some m → 1 ≤ length (unmarked_from (n + 1) posts)) → (b : Bool) → p.deleted ≡ b → (place : ℕ) → slice_get (p ∷ posts) place ≡ Some m
        → 1 ≤ length (cond b (unmarked_from (n + 1) posts) (record { id = n; bytes = p.bytes } ∷ unmarked_from (n + 1) posts))
    on again false f place h = omega arith
    on again true f zero h =
        let same : p ≡ m = cc in
        let no : true ≡ false = sym f ∙ ap (λ (q : Posted). q.deleted) same ∙ d in
        absurd (cc)
    on again true f (suc place) h = again place h

-- the messages of a page's queue are among those below any higher page
below_counts : (s : CloudState) (tree page next : ℕ) → page < next → length (unmarked (s.messages (queue_at tree page))) ≤ messages_below s tree next
unfolding messages_below
below_counts s tree page zero less = absurd (omega arith)
below_counts s tree page (suc n) less = on (λ h. below_counts s tree page n h) (cases_lt page n)
  where
    on : (page < n → length (unmarked (s.messages (queue_at tree page))) ≤ messages_below s tree n) → (page < n) ⊎ (n ≤ page)
        → length (unmarked (s.messages (queue_at tree page))) ≤ messages_below s tree n + length (unmarked (s.messages (queue_at tree n)))
    on again (inl h) = let k = again h in omega (arith, k)
    on again (inr h) =
        let same : page ≡ n = omega arith in
        subst (λ k. length (unmarked (s.messages (queue_at tree k))) ≤ messages_below s tree n + length (unmarked (s.messages (queue_at tree n)))) (sym same) (omega arith)

next_two : (bytes : Option (List ℕ)) (next : ℕ) → IsNextPage bytes next → 2 ≤ next
next_two None next e = omega (arith, e)
next_two (Some bytes) next p = let r = range_is 2 greatest p.0.next (tree_fits p.0 p.1.fits).next in omega (arith, p.2, r.0)

same_queue : (tree page : ℕ) → queue_of tree page ≡ queue_at tree page
same_queue tree zero = refl
same_queue tree (suc page) = refl

-- a tree without newest bytes has the empty root
none_root : (vs : List Version) → newest_of vs ≡ None → top_of (map root_in vs) ≡ empty_tree
none_root vs none = on (last_cases vs)
  where
    on : (vs ≡ []) ⊎ ((v : Version) × IsLast vs v) → top_of (map root_in vs) ≡ empty_tree
    on (inl e) = ap (λ (ws : List Version). top_of (map root_in ws)) e
    on (inr (v, last)) =
        let bytes : v.bytes ≡ None = sym (ap (option_and_then (λ (w : Version). w.bytes)) last) ∙ none in
        last_map root_in empty_tree vs v last ∙ ap (λ (o : Option (List ℕ)). unwrap_or (option_and_then tree_of o) empty_tree) bytes

-- the page that a report counts up to is the next free one of the newest root
next_is : (s : CloudState) (tree next : ℕ) → IsNextPage (newest s (object.Tree tree)) next → (top_of (roots_of s tree)).next ≡ next
next_is s tree next is = on (newest s (object.Tree tree)) refl is
  where
    on : (v : Option (List ℕ)) → newest s (object.Tree tree) ≡ v → IsNextPage v next → (top_of (roots_of s tree)).next ≡ next
    on None e p = ap (λ (t : Tree). t.next) (none_root (s.versions (object.Tree tree)) e) ∙ sym p
    on (Some bytes) e p =
        let last = newest_last (s.versions (object.Tree tree)) bytes e in
        ap (λ (t : Tree). t.next) (last_map root_in empty_tree (s.versions (object.Tree tree)) last.0 last.1 ∙ root_reads last.0 bytes p.0 last.2 p.1) ∙ sym p.2

-- a record goes to the tree's queue, or to that of a leaf, whose page is below the next free one
routed_below : (book : Book) (order : List Entry) (s : CloudState) (r : AtomicRec) (next : ℕ) → ChainHolds (store_of book order s) → IsTreeId r.tree → IsRouted book r
    → IsNextPage (newest s (object.Tree r.tree)) next → r.page < next
routed_below book order s r next chains of_tree (inl e) is = let two = next_two (newest s (object.Tree r.tree)) next is in omega (arith, e, two)
routed_below book order s r next chains of_tree (inr at) is =
    let below = ((chains r.tree of_tree).pages.linked 0 at.link at.linked).1 in
    let same = next_is s r.tree next is in
    omega (arith, below, same, at.page_is)

none_wait : (s : CloudState) (tree page : ℕ) (rec : PuRec) → (left : AreWaiting s tree 0) → page < left.next → Waits (s.messages (queue_of tree page)) rec → ⊥
none_wait s tree page rec left low w =
    let at : slice_get (s.messages (queue_at tree page)) w.place ≡ Some w.message = ap (λ q. slice_get (s.messages q) w.place) (sym (same_queue tree page)) ∙ w.there in
    let some : 1 ≤ length (unmarked (s.messages (queue_at tree page))) = unmarked_some (s.messages (queue_at tree page)) 1 w.place w.message at w.unmarked in
    let below : length (unmarked (s.messages (queue_at tree page))) ≤ messages_below s tree left.next = below_counts s tree page left.next low in
    let sum : 0 ≡ min (messages_below s tree left.next) greatest = left.sum in
    omega arith

-- ---- heads

-- a record of the head's transaction gives an entry of it
any_of : (tree : ℕ) (head : Head) (log : List AtomicRec) (place : ℕ) (r : AtomicRec) → slice_get log place ≡ Some r → r.tree ≡ tree → r.epoch ≡ head.epoch → r.txn ≡ head.txn
    → list_any (is_of r.client tree head) (of_tree tree (entries_of log)) ≡ true
any_of tree head [] place r there is epoch txn = absurd (cc)
any_of tree head (x ∷ log) place r there is epoch txn = on (λ k h. any_of tree head log k r h is epoch txn) (x.tree == tree) refl place there
  where
    rest : List Entry
    rest = of_tree tree (entries_of log)

    test : Entry → Bool
    test = is_of r.client tree head

    or_right : (b : Bool) → (b || true) ≡ true
    or_right true = refl
    or_right false = refl

    here : x ≡ r → test (entry_of x) ≡ true
    here e =
        let P : AtomicRec → Type 0 = λ z. test (entry_of z) ≡ true in
        let own : test (entry_of r) ≡ true =
        and_from _ _ (and_from _ _ (and_from _ _ (eq-eqb r.client r.client refl) (eq-eqb r.epoch head.epoch epoch)) (eq-eqb r.txn head.txn txn)) (eq-eqb r.tree tree is) in
        subst P (sym e) own

    of_this : x ≡ r → x.tree == tree ≡ true
    of_this e = eq-eqb x.tree tree (ap (λ (z : AtomicRec). z.tree) e ∙ is)

    on : ((k : ℕ) → slice_get log k ≡ Some r → list_any test rest ≡ true) → (b : Bool) → x.tree == tree ≡ b → (place : ℕ) → slice_get (x ∷ log) place ≡ Some r
        → list_any test (cond b (entry_of x ∷ rest) rest) ≡ true
    on again true f zero h = let e : x ≡ r = cc in ap (λ b. b || list_any test rest) (here e)
    on again true f (suc k) h = ap (λ b. test (entry_of x) || b) (again k h) ∙ or_right (test (entry_of x))
    on again false f zero h = let e : x ≡ r = cc in let no : true ≡ false = sym (of_this e) ∙ f in absurd (cc)
    on again false f (suc k) h = again k h

open_one : (client tree : ℕ) (entries : List Entry) (found : Option Head) → is_open (unwrap_or found empty_head).phase ≡ true
    → list_any (is_of client tree (unwrap_or found empty_head)) entries ≡ true → open_count client tree entries found ≡ 1
open_one client tree entries None is any = absurd (cc)
open_one client tree entries (Some head) is any = on head.phase refl is
  where
    on : (p : Phase) → head.phase ≡ p → is_open p ≡ true → open_count client tree entries (Some head) ≡ 1
    on (Open n) e f = ap (λ q. cond (is_under_way q && list_any (is_of client tree head) entries) 1 0) e ∙ ap (λ b. cond b 1 0) any
    on Settled e f = absurd (cc)

upto_counts : (s : CloudState) (tree client n : ℕ) (committed : List Entry) → 1 ≤ client → client ≤ n → open_at s client tree committed ≤ heads_upto s tree committed n
unfolding heads_upto
upto_counts s tree client zero committed some most = absurd (omega arith)
upto_counts s tree client (suc n) committed some most = on (λ h. upto_counts s tree client n committed some h) (cases_lt n client)
  where
    on : (client ≤ n → open_at s client tree committed ≤ heads_upto s tree committed n) → (n < client) ⊎ (client ≤ n)
        → open_at s client tree committed ≤ heads_upto s tree committed n + open_at s (suc n) tree committed
    on again (inl h) =
        let same : client ≡ suc n = omega arith in
        subst (λ k. open_at s k tree committed ≤ heads_upto s tree committed n + open_at s (suc n) tree committed) (sym same) (omega arith)
    on again (inr h) = let k : open_at s client tree committed ≤ heads_upto s tree committed n = again h in omega arith

none_open : (book : Book) (order : List Entry) (s : CloudState) (tree : ℕ) (r : AtomicRec) → IsClient r.client → heads_upto s tree (of_tree tree (entries_of book.log)) 64 ≡ 0
    → IsIn book.log r → r.tree ≡ tree → IsUnderWay (store_of book order s).tally r → ⊥
none_open book order s tree r c none logged is way =
    let found : Option Head = head_in (newest s (object.Head r.client)) in
    let head : (store_of book order s).tally.head r.client ≡ unwrap_or found empty_head =
    newest_head (s.versions (object.Head r.client)) ∙ head_seen (newest s (object.Head r.client)) in
    let W : Head → Type 0 = λ h. (is_open h.phase && ((r.epoch == h.epoch) && (r.txn == h.txn))) ≡ true in
    let own : W (unwrap_or found empty_head) = subst W head way in
    let parts = and_parts _ _ own in
    let two = and_parts _ _ parts.1 in
    let any = any_of tree (unwrap_or found empty_head) book.log logged.0 r logged.1 is (eqb-true _ _ two.0) (eqb-true _ _ two.1) in
    let one : open_at s r.client tree (of_tree tree (entries_of book.log)) ≡ 1 = open_one r.client tree (of_tree tree (entries_of book.log)) found parts.0 any in
    let upto : open_at s r.client tree (of_tree tree (entries_of book.log)) ≤ heads_upto s tree (of_tree tree (entries_of book.log)) 64 =
    upto_counts s tree r.client 64 (of_tree tree (entries_of book.log)) c.some c.most in
    omega arith

-- ---- what is left

pub nothing_left : (book : Book) (order : List Entry) (s : CloudState) (tree : ℕ) → ChainHolds (store_of book order s) → Numbers (store_of book order s)
    → heads_upto s tree (of_tree tree (entries_of book.log)) 64 ≡ 0 → AreWaiting s tree 0 → NothingLeft (store_of book order s) tree
nothing_left book order s tree chains n heads messages = record {
  ways = λ r logged is way. none_open book order s tree r (n.placed r logged).client heads logged is way;
  posts = λ page rec w. none_wait s tree page rec messages (low page rec w) w;
}
  where
    -- what waits in a queue is a record that goes there
    low : (page : ℕ) (rec : PuRec) → Waits (s.messages (queue_of tree page)) rec → page < messages.next
    low page rec w =
        let of = n.sent tree page w.place w.message w.there in
        let at = n.placed of.of of.logged in
        let next = subst (λ t. IsNextPage (newest s (object.Tree t)) messages.next) (sym of.tree_is) messages.is_next in
        let below = routed_below book order s of.of messages.next chains at.tree at.routed next in
        omega (arith, below, of.page_is)
