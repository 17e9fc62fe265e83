-- What a tree checkpoint received, and how long the run is that it took of it.
use Rattle.std.proofs.Common.{◌≡◌, ◌≢◌, ◌+◌, ◌≤◌, ◌⊎◌, inl, inr, ℕ, Bool, true, cond, ◌==◌, List, [], ◌∷◌, length, Option, Some, None, Result, Ok, Err, refl, sym, ap, subst, ◌∙◌, arith}
use Rattle.std.specs.Prelude.{count_by, map, slice_get}
use Rattle.std.specs.List.{AllByRecursion}
use Rattle.std.proofs.lemmas.Bool.{and_from, eq-eqb}
use Rattle.std.proofs.lemmas.List.{length-map}
use Rattle.std.proofs.lemmas.List.Elements.{recursion_from_All}
use Rattle.std.proofs.lemmas.List.Sums.{sum_by-cons}
use Rattle.ckpt_parts.specs.Deleting.{next_id}
use Rattle.ckpt_parts.specs.declared.intake.Intake.{Intake}
use Rattle.ckpt_parts.specs.Intakes.{ids_of, items_of, intake_of, TakesItems, TakesIn}
use Rattle.cloud_facts.proofs.Book.Places.{get_map}
use Rattle.cloud_facts.proofs.Chains.Pieces.{none_in, in_first, in_rest, in_cases}
use Rattle.cloud_facts.specs.Words.{QueueName, PuItem, Answer, Posted, CloudState, Caller, Ask, Get, GetHeld, PutHeld, Send, Receive, Delete, Take, Renew, Release, received_of, IsIn, IsCall}
use Rattle.cloud_facts.specs.Book.Records.{Apart}
use Rattle.cloud_trait.specs.Ask.{ListHeld, RemoveHeld}
use Rattle.cloud_trait.specs.Delivery.{WasSent}
use Rattle.cloud_trait.specs.Weather.{Fits}
use Rattle.cloud_trait.specs.declared.answer.Answer.TheVariants as call
use Rattle.cloud_trait.specs.declared.message.Message.{Message}
use Rattle.db_base.specs.declared.names.QueueName.TheVariants as queue
use Rattle.log_codec.specs.Pu.{pu_of}
use Rattle.run_cursor.specs.Covered.{covered_ids}
use Rattle.run_cursor.specs.Run.{Taken, is_at, IsRun, IsWithin}
use Rattle.session_facts.proofs.Machines.Runs.Received.{all_in, each_in, items_sent}
use Rattle.session_facts.proofs.Machines.Runs.Taken.{run_in}
use Rattle.session_facts.proofs.Settling.Distinct.{new_apart, apart_distinct}
use Rattle.session_facts.proofs.Settling.Drains.{item_ids, covered_received}
use Rattle.session_facts.specs.Machines.TreeCheckpoints.Few.{distinct}
use Rattle.session_facts.specs.Machines.Runs.Knows.{IsSentItem}
use Rattle.session_facts.proofs.Settling.Trees.Steps.{TouchesNoQueue, TouchesQueue, work_quiet}
use Rattle.tree_ckpt.specs.Making.{received_after}
use Rattle.tree_ckpt.specs.Work.{delete_ask, work_ask}
use Rattle.tree_ckpt.specs.declared.work.Work.{Work}
use Rattle.tree_ckpt.specs.declared.work.Work.TheVariants as work

-- ---- a run has no item twice

counted_first : (p : PuItem → Bool) (x : PuItem) (xs : List PuItem) → p x ≡ true → count_by p (x ∷ xs) ≡ 1 + count_by p xs
counted_first p x xs e = sum_by-cons _ x xs ∙ ap (λ (b : Bool). cond b 1 0 + count_by p xs) e

counted_more : (p : PuItem → Bool) (x : PuItem) (xs : List PuItem) → count_by p xs ≤ count_by p (x ∷ xs)
counted_more p x xs = subst (λ (n : ℕ). count_by p xs ≤ n) (sym (sum_by-cons _ x xs)) (omega arith)

counted_some : (p : PuItem → Bool) (xs : List PuItem) (x : PuItem) → IsIn xs x → p x ≡ true → 1 ≤ count_by p xs
counted_some p [] x is e = absurd (none_in x is)
counted_some p (y ∷ xs) x is e = on (in_cases y xs x is) (λ there. counted_some p xs x there e)
  where
    on : (y ≡ x) ⊎ IsIn xs x → (IsIn xs x → 1 ≤ count_by p xs) → 1 ≤ count_by p (y ∷ xs)
    on (inl same) again = let first = counted_first p y xs (ap p same ∙ e) in omega (arith, first)
    on (inr there) again = let more = counted_more p y xs in let some = again there in omega (arith, more, some)

at_itself : (x : PuItem) → is_at x.rec.client x.rec.number x ≡ true
at_itself x = and_from (x.rec.client == x.rec.client) (x.rec.number == x.rec.number) (eq-eqb x.rec.client x.rec.client refl) (eq-eqb x.rec.number x.rec.number refl)

-- items each of which is the only one of its client and number
apart_items : (xs : List PuItem) → ((x : PuItem) → IsIn xs x → count_by (is_at x.rec.client x.rec.number) xs ≤ 1) → Apart xs
apart_items [] once = tt
apart_items (x ∷ xs) once = (other, apart_items xs (λ y is. less y is))
  where
    less : (y : PuItem) → IsIn xs y → count_by (is_at y.rec.client y.rec.number) xs ≤ 1
    less y is =
        let one = once y (in_rest x xs y is) in
        let more = counted_more (is_at y.rec.client y.rec.number) x xs in
        omega (arith, one, more)

    other : (y : PuItem) → IsIn xs y → y ≢ x
    other y is same =
        let one = once x (in_first x xs) in
        let first = counted_first (is_at x.rec.client x.rec.number) x xs (at_itself x) in
        let test : is_at x.rec.client x.rec.number y ≡ true = ap (is_at x.rec.client x.rec.number) same ∙ at_itself x in
        let some = counted_some (is_at x.rec.client x.rec.number) xs y is test in
        absurd (omega (arith, one, first, some))

run_apart : (cursor : List (ℕ × ℕ)) (items run : List PuItem) (top : List (ℕ × ℕ)) → IsRun cursor items run top → Apart run
run_apart cursor items run top is_run = apart_items run one
  where
    one : (x : PuItem) → IsIn run x → count_by (is_at x.rec.client x.rec.number) run ≤ 1
    one x is =
        let within = all_in (λ (y : PuItem). IsWithin cursor top y.rec.client y.rec.number) run is_run.within x is in
        let once = is_run.once x.rec.client x.rec.number within in
        omega (arith, once)

-- ---- ids

bytes_of : (p q : Posted) → Some p ≡ Some q → p.bytes ≡ q.bytes
bytes_of p q e = cc (e)

id_there : (xs : List PuItem) (x : PuItem) → IsIn xs x → IsIn (map (λ (y : PuItem). y.id) xs) x.id
id_there xs x is = (is.0, get_map (λ (y : PuItem). y.id) xs is.0 x is.1)

item_at : (xs : List PuItem) (n : ℕ) → IsIn (map (λ (y : PuItem). y.id) xs) n → (x : PuItem) × IsIn xs x × (x.id ≡ n)
item_at [] n is = absurd (none_in n is)
item_at (x ∷ xs) n is = on (item_at xs n) (in_cases x.id (map (λ (y : PuItem). y.id) xs) n is)
  where
    on : (IsIn (map (λ (y : PuItem). y.id) xs) n → (y : PuItem) × IsIn xs y × (y.id ≡ n)) → (x.id ≡ n) ⊎ IsIn (map (λ (y : PuItem). y.id) xs) n
        → (y : PuItem) × IsIn (x ∷ xs) y × (y.id ≡ n)
    on again (inl same) = (x, in_first x xs, same)
    on again (inr there) = let y = again there in (y.0, in_rest x xs y.0 y.1, y.2)

-- items of one id are one item
same_item : (posts : List Posted) (x y : PuItem) → IsSentItem posts x → IsSentItem posts y → x.id ≡ y.id → x ≡ y
same_item posts x y a b e = λ i. record { id = e i; rec = rec_is i }
  where
    place_is : a.place ≡ b.place
    place_is = let one = a.id in let other = b.id in omega (arith, one, other, e)

    message_is : Some a.message ≡ Some b.message
    message_is = sym a.there ∙ ap (slice_get posts) place_is ∙ b.there

    rec_is : x.rec ≡ y.rec
    rec_is = let reads : Some x.rec ≡ Some y.rec = sym a.reads ∙ ap pu_of (bytes_of a.message b.message message_is) ∙ b.reads in cc (reads)

ids_apart : (posts : List Posted) (xs : List PuItem) → ((x : PuItem) → IsIn xs x → IsSentItem posts x) → Apart xs → Apart (map (λ (x : PuItem). x.id) xs)
ids_apart posts [] sent apart = tt
ids_apart posts (x ∷ xs) sent apart = (other, ids_apart posts xs (λ y is. sent y (in_rest x xs y is)) apart.1)
  where
    other : (n : ℕ) → IsIn (map (λ (y : PuItem). y.id) xs) n → n ≢ x.id
    other n is same =
        let y = item_at xs n is in
        apart.0 y.0 y.1 (same_item posts y.0 x (sent y.0 (in_rest x xs y.0 y.1)) (sent x (in_first x xs)) (y.2 ∙ same))

-- the ids of a run are distinct ones of what it was taken of
run_fits : (posts : List Posted) (ms : List Message) (cursor : List (ℕ × ℕ)) (items run : List PuItem) (top : List (ℕ × ℕ))
    → AllByRecursion (WasSent posts) ms → items_of ms ≡ Ok items → IsRun cursor items run top → length run ≤ length (distinct (ids_of ms))
run_fits posts ms cursor items run top was read is_run =
    let few = apart_distinct (map (λ (x : PuItem). x.id) run) (ids_of ms) (ids_apart posts run sent (run_apart cursor items run top is_run)) within in
    let long = length-map run (λ (x : PuItem). x.id) in
    omega (arith, few, long)
  where
    sent : (x : PuItem) → IsIn run x → IsSentItem posts x
    sent x is = each_in (IsSentItem posts) items (items_sent posts ms items was read) x (run_in cursor items run top is_run x is)

    within : (n : ℕ) → IsIn (map (λ (x : PuItem). x.id) run) n → IsIn (ids_of ms) n
    within n is =
        let x = item_at run n is in
        subst (λ (l : List ℕ). IsIn l n) (item_ids ms items read)
        (subst (IsIn (map (λ (y : PuItem). y.id) items)) x.2 (id_there items x.0 (run_in cursor items run top is_run x.0 x.1)))

-- and so are those that its top covers
pub covered_fits : (ms : List Message) (items : List PuItem) (top : List (ℕ × ℕ)) → items_of ms ≡ Ok items
    → length (covered_ids top items) ≤ length (distinct (ids_of ms))
covered_fits ms items top read = apart_distinct (covered_ids top items) (ids_of ms) (new_apart [] _) (covered_received ms items top read)

takes_fits : (posts : List Posted) (q : QueueName) (cursor : List (ℕ × ℕ)) (ms : List Message) (read : Result (List PuItem) Message) (i : Intake)
    → AllByRecursion (WasSent posts) ms → items_of ms ≡ read → TakesItems q cursor read (Ok i)
    → (length i.deletions.ids ≤ length (distinct (ids_of ms))) × (length i.run.items ≤ length (distinct (ids_of ms)))
takes_fits posts q cursor ms (Err m) i was e h = absurd (cc (h))
takes_fits posts q cursor ms (Ok items) i was e h =
    let run : Taken = h.0 in
    let whole : intake_of items run ≡ i = cc (h.2) in
    subst (λ (j : Intake). (length j.deletions.ids ≤ length (distinct (ids_of ms))) × (length j.run.items ≤ length (distinct (ids_of ms)))) whole
    (covered_fits ms items run.top e, run_fits posts ms cursor items run.items run.top was e h.1)

-- the run of an intake, and what it is to delete, are no longer than the distinct ids of the messages
pub intake_fits : (posts : List Posted) (q : QueueName) (cursor : List (ℕ × ℕ)) (ms : List Message) (i : Intake) → AllByRecursion (WasSent posts) ms
    → TakesIn q cursor ms (Ok i) → (length i.deletions.ids ≤ length (distinct (ids_of ms))) × (length i.run.items ≤ length (distinct (ids_of ms)))
intake_fits posts q cursor ms i was h = takes_fits posts q cursor ms (items_of ms) i was refl h

-- the messages of a receive were sent
pub received_sent : (who : Caller) (queue : QueueName) (most : ℕ) (a : Answer) (s t : CloudState) → IsCall who (Receive queue most) a s t
    → (ms : List Message) → received_of a ≡ Ok ms → AllByRecursion (WasSent (s.messages queue)) ms
received_sent who queue most (call.Received got) s t c ms e =
    let same : got ≡ ms = cc (e) in
    subst (AllByRecursion (WasSent (s.messages queue))) same (recursion_from_All (WasSent (s.messages queue)) got c.row.1)
received_sent who queue most (call.Listed pages) s t c ms e = absurd (cc (e))
received_sent who queue most call.Failed s t c ms e = absurd (cc (e))
received_sent who queue most call.Memory s t c ms e = absurd (cc (e))
received_sent who queue most (call.Got v) s t c ms e = absurd (cc (e))
received_sent who queue most (call.Sent id) s t c ms e = absurd (cc (e))
received_sent who queue most call.Done s t c ms e = absurd (cc (e))
received_sent who queue most (call.Given l) s t c ms e = absurd (cc (e))
received_sent who queue most (call.Held until) s t c ms e = absurd (cc (e))
received_sent who queue most (call.Renewed until) s t c ms e = absurd (cc (e))
received_sent who queue most (call.Late until now) s t c ms e = absurd (cc (e))

-- ---- what was received stays

pub kept_by : (ask : Ask) (a : Answer) (ids : List ℕ) → ((ms : List Message) → Fits ask (call.Received ms) → ⊥) → Fits ask a → received_after ids a ≡ ids
kept_by ask (call.Received ms) ids never fits = absurd (never ms fits)
kept_by ask (call.Listed pages) ids never fits = refl
kept_by ask (call.Got v) ids never fits = refl
kept_by ask (call.Sent id) ids never fits = refl
kept_by ask call.Done ids never fits = refl
kept_by ask (call.Given l) ids never fits = refl
kept_by ask (call.Held until) ids never fits = refl
kept_by ask (call.Renewed until) ids never fits = refl
kept_by ask (call.Late until now) ids never fits = refl
kept_by ask call.Failed ids never fits = refl
kept_by ask call.Memory ids never fits = refl

pub quiet_kept : (ask : Ask) (a : Answer) (ids : List ℕ) → TouchesNoQueue ask → Fits ask a → received_after ids a ≡ ids
quiet_kept (Get name) a ids quiet fits = kept_by (Get name) a ids (λ ms f. f) fits
quiet_kept (GetHeld name l) a ids quiet fits = kept_by (GetHeld name l) a ids (λ ms f. f) fits
quiet_kept (ListHeld tree l) a ids quiet fits = kept_by (ListHeld tree l) a ids (λ ms f. f) fits
quiet_kept (RemoveHeld name l) a ids quiet fits = kept_by (RemoveHeld name l) a ids (λ ms f. f) fits
quiet_kept (PutHeld name bytes one two) a ids quiet fits = kept_by (PutHeld name bytes one two) a ids (λ ms f. f) fits
quiet_kept (Send q bytes) a ids quiet fits = absurd quiet
quiet_kept (Receive q most) a ids quiet fits = absurd quiet
quiet_kept (Delete q id) a ids quiet fits = absurd quiet
quiet_kept (Take l ticks) a ids quiet fits = kept_by (Take l ticks) a ids (λ ms f. f) fits
quiet_kept (Renew l ticks) a ids quiet fits = kept_by (Renew l ticks) a ids (λ ms f. f) fits
quiet_kept (Release l) a ids quiet fits = kept_by (Release l) a ids (λ ms f. f) fits

delete_kept : (tree : ℕ) (id : Option ℕ) (a : Answer) (ids : List ℕ) → Fits (delete_ask tree id) a → received_after ids a ≡ ids
delete_kept tree (Some id) a ids fits = kept_by (Delete (queue.TreePu tree) id) a ids (λ ms f. f) fits
delete_kept tree None a ids fits = quiet_kept (delete_ask tree None) a ids tt fits

quiet_by : (tree : ℕ) (w : Work) (a : Answer) (ids : List ℕ) → Fits (work_ask tree w) a → TouchesQueue w ⊎ TouchesNoQueue (work_ask tree w) → (TouchesQueue w → ⊥)
    → received_after ids a ≡ ids
quiet_by tree w a ids fits (inl touches) none = absurd (none touches)
quiet_by tree w a ids fits (inr quiet) none = quiet_kept (work_ask tree w) a ids quiet fits

-- the receive is at hand
abbrev pub IsReceiving : Work → Type 0
IsReceiving (work.Receiving l root) = Unit {0}
IsReceiving w = ⊥

pub received_stays : (tree : ℕ) (w : Work) (a : Answer) (ids : List ℕ) → Fits (work_ask tree w) a → IsReceiving w ⊎ (received_after ids a ≡ ids)
received_stays tree (work.Receiving l root) a ids fits = inl tt
received_stays tree (work.Deleting h applied) a ids fits = inr (delete_kept tree (next_id h.deletions.ids) a ids fits)
received_stays tree work.TakingTree a ids fits = inr (quiet_kept (work_ask tree work.TakingTree) a ids tt fits)
received_stays tree (work.GettingTree l) a ids fits = inr (quiet_kept (work_ask tree (work.GettingTree l)) a ids tt fits)
received_stays tree (work.Descending h d) a ids fits = inr (quiet_kept (work_ask tree (work.Descending h d)) a ids tt fits)
received_stays tree (work.TakingPage h c) a ids fits = inr (quiet_kept (work_ask tree (work.TakingPage h c)) a ids tt fits)
received_stays tree (work.Folding h f) a ids fits = inr (quiet_by tree (work.Folding h f) a ids fits (work_quiet tree (work.Folding h f)) (λ t. t))
received_stays tree (work.ReleasingPage h l o) a ids fits = inr (quiet_kept (Release l) a ids tt fits)
received_stays tree (work.LeftPage h o) a ids fits = inr (quiet_kept (work_ask tree (work.LeftPage h o)) a ids tt fits)
received_stays tree (work.Rising h r) a ids fits = inr (quiet_by tree (work.Rising h r) a ids fits (work_quiet tree (work.Rising h r)) (λ t. t))
received_stays tree (work.Releasing held end) a ids fits =
    inr (quiet_by tree (work.Releasing held end) a ids fits (work_quiet tree (work.Releasing held end)) (λ t. t))
received_stays tree work.Finished a ids fits = inr (quiet_kept (work_ask tree work.Finished) a ids tt fits)
