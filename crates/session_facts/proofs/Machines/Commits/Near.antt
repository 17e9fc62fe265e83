-- Where the numbers of the records of a commit do not fit, a counter of the head is near the end, and so is that of the client's newest head, which landed.
use Rattle.std.proofs.Common.{◌≡◌, ◌+◌, ◌-◌, ◌^◌, ◌<◌, ◌≤◌, ◌⊎◌, inl, inr, ℕ, Bool, true, false, List, [], ◌∷◌, ◌++◌, length, map, refl, ap, subst, ◌∙◌, arith}
use Rattle.std.specs.Prelude.{◌||◌, nat_le}
use Rattle.std.specs.List.{list_any}
use Rattle.std.specs.Option.{option_and_then}
use Rattle.std.proofs.lemmas.Bool.{leb-true}
use Rattle.std.proofs.lemmas.List.{length-append}
use Rattle.std.proofs.lemmas.List.Sums.{count_by-le-length}
use Rattle.cloud_facts.proofs.Decoding.Newest.{IsLast, last_cases, last_map, has_nth, never_gone}
use Rattle.cloud_facts.proofs.Decoding.Reading.{head_reads}
use Rattle.cloud_facts.specs.Words.{Entry, AtomicRec, Head, Version, CloudState, Book, store_of, StandsUnder}
use Rattle.cloud_facts.specs.Book.Telling.{head_in, last_or}
use Rattle.commit_writes.specs.Writing.{passes, routed_of}
use Rattle.db_base.specs.declared.names.ObjName.TheVariants as object
use Rattle.head_codec.specs.Head.{empty_head}
use Rattle.head_codec.specs.Spelling.{head_of}
use Rattle.head_codec.specs.declared.lists.QueueCount.{QueueCount}
use Rattle.recover_run.specs.declared.home.Home.{Home as Owner}
use Rattle.route_plan.specs.Queue.{number_of_queue, queue_of}
use Rattle.route_plan.specs.Route.{goes_to, next_number, record_behind, routed_behind, transaction}
use Rattle.session_facts.specs.Machines.Openings.Client.{AreCounted}
use Rattle.session_facts.specs.Sessions.Spent.{HasLastNumber}
use Rattle.txn_buffer.specs.Noted.{Noted}

-- the counter of some queue has fewer than 200 numbers behind it
abbrev pub IsNear : List QueueCount → Type 0
IsNear counters = (tree : ℕ) × (page : ℕ) × (2 ^ 64 - 1 < number_of_queue counters tree page + 200)

abbrev is_far : AtomicRec → Bool
is_far r = nat_le (2 ^ 64) r.number

-- ---- the records of a commit

number_near : (head : Head) (earlier : List AtomicRec) (tree page : ℕ) → length earlier < 200 → nat_le (2 ^ 64) (next_number head earlier tree page) ≡ true → IsNear head.counters
number_near head earlier tree page few far =
    let past = leb-true (2 ^ 64) (next_number head earlier tree page) far in
    let own = count_by-le-length (goes_to tree page) earlier in
    (tree, page, omega (arith, past, own, few))

near_behind : (client epoch txn count : ℕ) (head : Head) (earlier : List AtomicRec) (changes : List Noted) (leaves : List ℕ) → length earlier + length changes ≤ 200
    → list_any is_far (routed_behind (transaction client epoch txn count) head earlier changes leaves) ≡ true → IsNear head.counters
near_behind client epoch txn count head earlier [] leaves few far = absurd (cc (far))
near_behind client epoch txn count head earlier (n ∷ changes) [] few far = absurd (cc (far))
near_behind client epoch txn count head earlier (n ∷ changes) (leaf ∷ leaves) few far =
    on (is_far next) refl far (near_behind client epoch txn count head (earlier ++ next ∷ []) changes leaves (let all = length-append earlier (next ∷ []) in omega (arith, few, all)))
  where
    next : AtomicRec
    next = record_behind (transaction client epoch txn count) head earlier n leaf

    on : (b : Bool) → is_far next ≡ b → (b || list_any is_far (routed_behind (transaction client epoch txn count) head (earlier ++ next ∷ []) changes leaves)) ≡ true
        → (list_any is_far (routed_behind (transaction client epoch txn count) head (earlier ++ next ∷ []) changes leaves) ≡ true → IsNear head.counters) → IsNear head.counters
    on true e all again = number_near head earlier n.tree (queue_of head.pending n.tree n.change leaf) (omega (arith, few)) e
    on false e all again = again all

pub near_routed : (home : Owner) (changes : List Noted) (pages : List ℕ) → length changes ≤ 200 → passes (routed_of home changes pages) ≡ true → IsNear home.head.counters
near_routed home changes pages few far = near_behind home.client home.head.epoch home.attempt (length changes) home.head [] changes pages (omega (arith, few)) far

-- ---- the newest head

-- a head whose counter is near the end landed: the absent one counts nothing
near_landed : (book : Book) (order : List Entry) (s : CloudState) → StandsUnder book order s → (client : ℕ) → IsNear ((store_of book order s).tally.head client).counters → HasLastNumber s
near_landed book order s stands client near = on (last_cases (s.versions (object.Head client)))
  where
    newest : (h : Head) → last_or empty_head (map head_in (s.versions (object.Head client))) ≡ h → IsNear h.counters
    newest h is = subst (λ (g : Head). IsNear g.counters) is near

    on : (s.versions (object.Head client) ≡ []) ⊎ ((v : Version) × IsLast (s.versions (object.Head client)) v) → HasLastNumber s
    on (inl none) =
        let counts = newest empty_head (ap (λ (ws : List Version). last_or empty_head (map head_in ws)) none) in
        let last = counts.2 in
        absurd (omega (arith, last))
    on (inr (v, last)) =
        let heads = stands.decodes.versions (object.Head client) in
        let kind = has_nth (object.Head client) (s.versions (object.Head client)) (length (s.versions (object.Head client)) - 1) v heads
        (never_gone (object.Head client) (s.versions (object.Head client)) (λ no. no) heads) last in
        let there = newest kind.2.0 (last_map head_in empty_head (s.versions (object.Head client)) v last ∙ head_reads v kind.0 kind.2.0 kind.1 kind.2.1) in
        record {
          client = client;
          version = v;
          head = kind.2.0;
          landed = (length (s.versions (object.Head client)) - 1, last);
          reads = ap (option_and_then head_of) kind.1 ∙ kind.2.1;
          tree = there.0;
          page = there.1;
          last = there.2;
        }

-- counters that are at most the counts of what is committed are at most those of the newest head
pub near_told : (book : Book) (order : List Entry) (s : CloudState) → StandsUnder book order s → (client : ℕ) (counters : List QueueCount) → AreCounted book.log client counters → IsNear counters
    → HasLastNumber s
near_told book order s stands client counters counted (tree, page, last) =
    near_landed book order s stands client
    (tree, page, let few = counted tree page in let all = stands.holds.numbers.counters client tree page in omega (arith, last, few, all))
