-- What a session's calls and checkpoints do to what waits, and to what its notes say of it.
use Rattle.std.proofs.Common.{◌≡◌, ◌≢◌, ◌≤◌, ◌<◌, ◌+◌, ◌-◌, ℕ, zero, suc, Bool, true, false, cond, ◌||◌, if◌then◌else◌, List, [], ◌∷◌, ◌++◌, length, map, take, Option, Some, None, refl, sym, ap, subst, ◌∙◌, arith}
use Rattle.std.specs.Prelude.{◌==◌, nat_le}
use Rattle.std.specs.List.{filter}
use Rattle.std.specs.BTreeMap.{is_at}
use Rattle.std.specs.Ordering.{is_eq, ordering_reverse}
use Rattle.std.specs.declared.cmp.Ordering.{Ordering}
use Rattle.std.specs.declared.cmp.Ordering.TheVariants.{Less, Equal, Greater}
use Rattle.std.proofs.lemmas.Bool.Decides.{nat_tests}
use Rattle.std.proofs.lemmas.Bool.{eqb-true}
use Rattle.std.proofs.lemmas.List.{length-take}
use Rattle.std.proofs.lemmas.List.Sorted.{length_permutation}
use Rattle.ckpt_policy.proofs.NoteLemmas.{counts-named, counts-other, is_known, unknown, one-place}
use Rattle.ckpt_policy.specs.contracts.place.PlaceOrd.TheImpl.Laws as places
use Rattle.ckpt_policy.specs.declared.note.Note.{Note}
use Rattle.ckpt_policy.specs.declared.note.Note.TheVariants.{Sent, Got, Kept}
use Rattle.ckpt_policy.specs.declared.place.Place.{Place}
use Rattle.ckpt_policy.specs.declared.role.Role.TheVariants.{Writer}
use Rattle.ckpt_policy.specs.Counting.{after_note}
use Rattle.ckpt_policy.specs.Due.{due}
use Rattle.ckpt_policy.specs.Ledger.{IsNumber}
use Rattle.ckpt_policy.specs.Notes.{counts_at, is_here, known, place_cmp, place_of, queue_at, queue_of}
use Rattle.cloud_trait.proofs.EffectLemmas.{effect_messages}
use Rattle.cloud_trait.proofs.NameLemmas.{queue_cmp-equal}
use Rattle.cloud_trait.proofs.RowLemmas.{row_by}
use Rattle.cloud_trait.proofs.StateLemmas.{put_at_by}
use Rattle.cloud_trait.specs.Ask.{Ask, Get, GetHeld, PutHeld, ListHeld, RemoveHeld, Send, Receive, Delete, Take, Renew, Release, TouchesNoMessage, effect}
use Rattle.cloud_trait.specs.Caller.{Caller}
use Rattle.cloud_trait.specs.Delivery.{unmarked, unmarked_from, IsDelivering}
use Rattle.cloud_trait.specs.Names.{queue_cmp}
use Rattle.cloud_trait.specs.State.{CloudState, Counts, mark_at, marked}
use Rattle.cloud_trait.specs.Weather.{counted, Weather}
use Rattle.cloud_trait.specs.declared.answer.Answer.{Answer}
use Rattle.cloud_trait.specs.declared.message.Message.{Message}
use Rattle.cloud_trait.specs.declared.state.Posted.{Posted}
use Rattle.db_base.specs.Limits.{most_received}
use Rattle.db_base.specs.declared.names.ObjName.TheVariants as object
use Rattle.db_base.specs.declared.names.QueueName.{QueueName}
use Rattle.db_base.specs.declared.names.QueueName.TheVariants.{Atomic, TreePu, PagePu}
use Rattle.session_notes.specs.Metered.{waiting_at, sent_since, IsMetered, AreBelow, AllKept, SendNoMore, SendOneCommit, noted, sends_in, sends_of}
use Rattle.session_notes.specs.Notebook.{note_of_ask, note_of_send, with_note}

-- ---- messages that wait

-- one message more
more_waiting : (n : ℕ) (ms : List Posted) (m : Posted) → length (unmarked_from n (ms ++ m ∷ [])) ≤ suc (length (unmarked_from n ms))
more_waiting n [] m = on m.deleted
  where
    on : (b : Bool) → length {A = Message} (cond b [] (record { id = n; bytes = m.bytes } ∷ [])) ≤ 1
    on true = omega arith
    on false = omega arith
more_waiting n (x ∷ xs) m = on x.deleted (more_waiting (n + 1) xs m)
  where
    on : (b : Bool) → length (unmarked_from (n + 1) (xs ++ m ∷ [])) ≤ suc (length (unmarked_from (n + 1) xs))
        → length (cond b (unmarked_from (n + 1) (xs ++ m ∷ [])) (record { id = n; bytes = x.bytes } ∷ unmarked_from (n + 1) (xs ++ m ∷ [])))
        ≤ suc (length (cond b (unmarked_from (n + 1) xs) (record { id = n; bytes = x.bytes } ∷ unmarked_from (n + 1) xs)))
    on true rest = rest
    on false rest = omega (arith, rest)

-- one that is deleted
mark_leaves : (n i : ℕ) (ms : List Posted) → length (unmarked_from n (mark_at ms i)) ≤ length (unmarked_from n ms)
mark_leaves n i [] = omega arith
mark_leaves n zero (m ∷ ms) = on m.deleted
  where
    on : (b : Bool) → length (unmarked_from (n + 1) ms) ≤ length (cond b (unmarked_from (n + 1) ms) (record { id = n; bytes = m.bytes } ∷ unmarked_from (n + 1) ms))
    on true = omega arith
    on false = omega arith
mark_leaves n (suc i) (m ∷ ms) = on m.deleted (mark_leaves (n + 1) i ms)
  where
    on : (b : Bool) → length (unmarked_from (n + 1) (mark_at ms i)) ≤ length (unmarked_from (n + 1) ms)
        → length (cond b (unmarked_from (n + 1) (mark_at ms i)) (record { id = n; bytes = m.bytes } ∷ unmarked_from (n + 1) (mark_at ms i)))
        ≤ length (cond b (unmarked_from (n + 1) ms) (record { id = n; bytes = m.bytes } ∷ unmarked_from (n + 1) ms))
    on true rest = rest
    on false rest = omega (arith, rest)

marked_waiting : (ms : List Posted) (id : ℕ) → length (unmarked (marked ms id)) ≤ length (unmarked ms)
marked_waiting ms id = on (id == 0)
  where
    on : (b : Bool) → length (unmarked (cond b ms (mark_at ms (id - 1)))) ≤ length (unmarked ms)
    on true = omega arith
    on false = mark_leaves 1 (id - 1) ms

-- where at most as many wait as a receive takes, one that delivers brings all
pub brings_all : (posts : List Posted) (most : ℕ) (messages : List Message) → IsDelivering posts most messages → length (unmarked posts) ≤ most
    → length messages ≡ length (unmarked posts)
brings_all posts most messages delivers few =
    let same = length_permutation (take most (unmarked posts)) messages delivers in
    let taken = length-take most (unmarked posts) in
    omega (arith, same, taken, few)

-- ---- one note more

itself : (place : Place) → is_at (place_cmp place) place ≡ true
itself place = on (place_cmp place place) refl
  where
    on : (o : Ordering) → place_cmp place place ≡ o → is_at (place_cmp place) place ≡ true
    on Less e = absurd (let t : Less ≡ Greater = sym e ∙ places.total-law.antisymm place place ∙ ap ordering_reverse e in cc)
    on Equal e = ap is_eq e
    on Greater e = absurd (let t : Greater ≡ Less = sym e ∙ places.total-law.antisymm place place ∙ ap ordering_reverse e in cc)

one_at : (place other : Place) → is_at (place_cmp place) other ≡ true → place ≡ other
one_at place other is = one-place place other (on (place_cmp place other) is)
  where
    on : (o : Ordering) → is_eq o ≡ true → o ≡ Equal
    on Less h = absurd (cc (h))
    on Equal h = refl
    on Greater h = absurd (cc (h))

-- the queue at a place stands there
pub queue_stands : (place : Place) → place_of (queue_at place) ≡ Some place
queue_stands place = on (place.page == 0) refl
  where
    on : (b : Bool) → (place.page == 0) ≡ b → place_of (if b then TreePu place.tree else PagePu place.tree place.page) ≡ Some place
    on true e = ap (λ (n : ℕ). Some (record { tree = place.tree; page = n })) (sym (eqb-true place.page 0 e))
    on false e = refl

stands_here : (queue : QueueName) (place : Place) → place_of queue ≡ Some place → is_here place (place_of queue) ≡ true
stands_here queue place is = ap (is_here place) is ∙ itself place

-- what a note does to what its queue counts, and to what the others do
by_note : (P : ℕ → Type 0) (n : Note) (notes : List Note) (place : Place) → P (sent_since notes place) → P (after_note (counts_at notes place) n).sent
    → P (sent_since (notes ++ n ∷ []) place)
by_note P n notes place same changed = on (is_here place (place_of (queue_of n))) refl
  where
    on : (b : Bool) → is_here place (place_of (queue_of n)) ≡ b → P (sent_since (notes ++ n ∷ []) place)
    on true e = subst (λ c. P c.sent) (sym (counts-named n place e notes)) changed
    on false e = subst (λ c. P c.sent) (sym (counts-other n place e notes)) same

sent_stays : (queue : QueueName) (notes : List Note) (place : Place) → sent_since notes place ≤ sent_since (notes ++ Sent queue ∷ []) place
sent_stays queue notes place = by_note (λ m. sent_since notes place ≤ m) (Sent queue) notes place (omega arith) (omega arith)

got_same : (queue : QueueName) (notes : List Note) (place : Place) → sent_since (notes ++ Got queue ∷ []) place ≡ sent_since notes place
got_same queue notes place = by_note (λ m. m ≡ sent_since notes place) (Got queue) notes place refl refl

pub kept_less : (queue : QueueName) (notes : List Note) → SendNoMore notes (notes ++ Kept queue ∷ [])
kept_less queue notes place = by_note (λ m. m ≤ sent_since notes place) (Kept queue) notes place (omega arith) (omega arith)

-- a send is one more of its queue
sent_more : (queue : QueueName) (notes : List Note) (place : Place) → place_of queue ≡ Some place
    → sent_since (notes ++ Sent queue ∷ []) place ≡ suc (sent_since notes place)
sent_more queue notes place is = ap (λ c. c.sent) (counts-named (Sent queue) place (stands_here queue place is) notes)

-- none is counted behind a checkpoint
pub kept_none : (queue : QueueName) (notes : List Note) (place : Place) → place_of queue ≡ Some place → sent_since (notes ++ Kept queue ∷ []) place ≡ 0
kept_none queue notes place is = ap (λ c. c.sent) (counts-named (Kept queue) place (stands_here queue place is) notes)

-- one that sends nothing adds none
pub adds_none : (ask : Ask) (notes : List Note) → ((queue : QueueName) (bytes : List ℕ) → ask ≢ Send queue bytes) → SendNoMore notes (with_note notes (note_of_ask ask))
adds_none (Get (object.Head client)) notes other place = omega arith
adds_none (Get (object.Tree tree)) notes other place = omega arith
adds_none (Get (object.Page tree page)) notes other place = let same = got_same (PagePu tree page) notes place in omega (arith, same)
adds_none (GetHeld name l) notes other place = omega arith
adds_none (PutHeld name bytes one two) notes other place = omega arith
adds_none (ListHeld tree l) notes other place = omega arith
adds_none (RemoveHeld name l) notes other place = omega arith
adds_none (Send queue bytes) notes other place = absurd (other queue bytes refl)
adds_none (Receive queue most) notes other place = omega arith
adds_none (Delete queue id) notes other place = omega arith
adds_none (Take lock ticks) notes other place = omega arith
adds_none (Renew l ticks) notes other place = omega arith
adds_none (Release l) notes other place = omega arith

-- none makes a queue count less
keeps_sent : (ask : Ask) (notes : List Note) (place : Place) → sent_since notes place ≤ sent_since (with_note notes (note_of_ask ask)) place
keeps_sent (Get (object.Head client)) notes place = omega arith
keeps_sent (Get (object.Tree tree)) notes place = omega arith
keeps_sent (Get (object.Page tree page)) notes place = let same = got_same (PagePu tree page) notes place in omega (arith, same)
keeps_sent (GetHeld name l) notes place = omega arith
keeps_sent (PutHeld name bytes one two) notes place = omega arith
keeps_sent (ListHeld tree l) notes place = omega arith
keeps_sent (RemoveHeld name l) notes place = omega arith
keeps_sent (Send (Atomic client) bytes) notes place = omega arith
keeps_sent (Send (TreePu tree) bytes) notes place = sent_stays (TreePu tree) notes place
keeps_sent (Send (PagePu tree page) bytes) notes place = sent_stays (PagePu tree page) notes place
keeps_sent (Receive queue most) notes place = omega arith
keeps_sent (Delete queue id) notes place = omega arith
keeps_sent (Take lock ticks) notes place = omega arith
keeps_sent (Renew l ticks) notes place = omega arith
keeps_sent (Release l) notes place = omega arith

-- ---- one call of a session that notes it

-- as many as are counted for the place wait at most in its queue
abbrev Fits : List Note → QueueName → List Posted → Type 0
Fits notes queue posts = (place : Place) → queue_at place ≡ queue → length (unmarked posts) ≤ sent_since notes place

fits : (notes : List Note) (s : CloudState) → IsMetered notes s → (queue : QueueName) → Fits notes queue (s.messages queue)
fits notes s metered queue place is = subst (λ (q : QueueName). length (unmarked (s.messages q)) ≤ sent_since notes place) is (metered place)

sends_metered : (who : Caller) (queue : QueueName) (bytes : List ℕ) (notes : List Note) (s : CloudState) → IsMetered notes s
    → IsMetered (with_note notes (note_of_send queue)) s → IsMetered (with_note notes (note_of_send queue)) (effect who (Send queue bytes) s)
sends_metered who queue bytes notes s metered later place =
    put_at_by (Fits (with_note notes (note_of_send queue))) queue_cmp queue_cmp-equal s.messages queue posts own
    (fits (with_note notes (note_of_send queue)) s later) (queue_at place) place refl
  where
    posts : List Posted
    posts = s.messages queue ++ record { who = who; bytes = bytes; deleted = false } ∷ []

    counted : (q : QueueName) (p : Place) → queue_at p ≡ q → sent_since (with_note notes (note_of_send q)) p ≡ suc (sent_since notes p)
    counted (Atomic client) p is = absurd (let none : None ≡ Some p = sym (ap place_of is) ∙ queue_stands p in cc)
    counted (TreePu tree) p is = sent_more (TreePu tree) notes p (sym (ap place_of is) ∙ queue_stands p)
    counted (PagePu tree page) p is = sent_more (PagePu tree page) notes p (sym (ap place_of is) ∙ queue_stands p)

    own : Fits (with_note notes (note_of_send queue)) queue posts
    own p is =
        let more = more_waiting 1 (s.messages queue) (record { who = who; bytes = bytes; deleted = false }) in
        let before = fits notes s metered queue p is in
        let now = counted queue p is in
        omega (arith, more, before, now)

deletes_metered : (who : Caller) (queue : QueueName) (id : ℕ) (notes : List Note) (s : CloudState) → IsMetered notes s
    → IsMetered notes (effect who (Delete queue id) s)
deletes_metered who queue id notes s metered place =
    put_at_by (Fits notes) queue_cmp queue_cmp-equal s.messages queue (marked (s.messages queue) id) own (fits notes s metered) (queue_at place) place refl
  where
    own : Fits notes queue (marked (s.messages queue) id)
    own p is =
        let less = marked_waiting (s.messages queue) id in
        let before = fits notes s metered queue p is in
        omega (arith, less, before)

-- it meters as before what it noted, whatever it is answered
pub call_metered : (who : Caller) (ask : Ask) (a : Answer) (c d : Counts) (b t : CloudState) → Weather who ask a (counted c b) (counted d t) → (notes : List Note) → IsMetered notes b
    → IsMetered (with_note notes (note_of_ask ask)) t
call_metered who ask a c d b t row notes metered = row_by (IsMetered (with_note notes (note_of_ask ask))) who ask a c d b t row same (λ permits. lands ask same)
  where
    same : IsMetered (with_note notes (note_of_ask ask)) b
    same place =
        let before = metered place in
        let more = keeps_sent ask notes place in
        omega (arith, before, more)

    quiet : (x : Ask) → TouchesNoMessage x → IsMetered (with_note notes (note_of_ask x)) b → IsMetered (with_note notes (note_of_ask x)) (effect who x b)
    quiet x none is place =
        subst (λ (f : QueueName → List Posted). length (unmarked (f (queue_at place))) ≤ sent_since (with_note notes (note_of_ask x)) place)
        (sym (effect_messages who x b none)) (is place)

    lands : (x : Ask) → IsMetered (with_note notes (note_of_ask x)) b → IsMetered (with_note notes (note_of_ask x)) (effect who x b)
    lands (Get name) is = quiet (Get name) tt is
    lands (GetHeld name l) is = quiet (GetHeld name l) tt is
    lands (PutHeld name bytes one two) is = quiet (PutHeld name bytes one two) tt is
    lands (ListHeld tree l) is = quiet (ListHeld tree l) tt is
    lands (RemoveHeld name l) is = quiet (RemoveHeld name l) tt is
    lands (Send queue bytes) is = sends_metered who queue bytes notes b metered is
    lands (Receive queue most) is = quiet (Receive queue most) tt is
    lands (Delete queue id) is = deletes_metered who queue id notes b metered
    lands (Take lock ticks) is = quiet (Take lock ticks) tt is
    lands (Renew l ticks) is = quiet (Renew l ticks) tt is
    lands (Release l) is = quiet (Release l) tt is

-- ---- a checkpoint that is done

-- it meters as before, where it left nothing of its queue
pub kept_metered : (own : Place) (notes : List Note) (s : CloudState) → unmarked (s.messages (queue_at own)) ≡ [] → IsMetered notes s
    → IsMetered (with_note notes (Some (Kept (queue_at own)))) s
kept_metered own notes s none metered place = on (is_at (place_cmp place) own) refl
  where
    stands : is_here place (place_of (queue_at own)) ≡ is_at (place_cmp place) own
    stands = ap (is_here place) (queue_stands own)

    on : (b : Bool) → is_at (place_cmp place) own ≡ b → waiting_at s place ≤ sent_since (notes ++ Kept (queue_at own) ∷ []) place
    on true e =
        let here : waiting_at s place ≡ waiting_at s own = ap (waiting_at s) (one_at place own e) in
        let empty : waiting_at s own ≡ 0 = ap length none in
        omega (arith, here, empty)
    on false e =
        let same : sent_since (notes ++ Kept (queue_at own) ∷ []) place ≡ sent_since notes place =
        ap (λ c. c.sent) (counts-other (Kept (queue_at own)) place (stands ∙ e) notes) in
        let before = metered place in
        omega (arith, same, before)

-- checkpoints count no send
pub all_less : (queues : List QueueName) (notes later : List Note) → AllKept queues notes later → SendNoMore notes later
all_less [] notes later kept place = kept place
all_less (queue ∷ queues) notes later (mid, less, rest) place =
    let first = less place in
    let own = kept_less queue mid place in
    let others = all_less queues (mid ++ Kept queue ∷ []) later rest place in
    omega (arith, first, own, others)

-- behind those of all places that pass a test none of these counts a send
passing_none : (test : Place → Bool) (places : List Place) (notes later : List Note) → AllKept (map queue_at (filter test places)) notes later
    → (place : Place) → is_known place places ≡ true → test place ≡ true → sent_since later place ≡ 0
passing_none test [] notes later kept place known passes = absurd (cc (known))
passing_none test (x ∷ xs) notes later kept place known passes =
    on (test x) refl (is_at (place_cmp place) x) refl kept known (λ other rest is. passing_none test xs other later rest place is passes)
  where
    Again : Type 0
    Again = (other : List Note) → AllKept (map queue_at (filter test xs)) other later → is_known place xs ≡ true → sent_since later place ≡ 0

    Rest : Bool → Type 0
    Rest b = AllKept (map queue_at (if b then x ∷ filter test xs else filter test xs)) notes later

    on : (b : Bool) → test x ≡ b → (here : Bool) → is_at (place_cmp place) x ≡ here → Rest b → (here || is_known place xs) ≡ true → Again → sent_since later place ≡ 0
    on true e true is (mid, less, rest) known again =
        let same : place ≡ x = one_at place x is in
        let none = kept_none (queue_at x) mid place (queue_stands x ∙ ap (λ (p : Place). Some p) (sym same)) in
        let last = all_less (map queue_at (filter test xs)) (mid ++ Kept (queue_at x) ∷ []) later rest place in
        omega (arith, none, last)
    on true e false is (mid, less, rest) known again = again (mid ++ Kept (queue_at x) ∷ []) rest known
    on false e true is rest known again = absurd (let t : false ≡ true = sym e ∙ ap test (sym (one_at place x is)) ∙ passes in cc)
    on false e false is rest known again = again notes rest known

-- ---- the numbers of a writer

-- behind the checkpoints of all that is due to a writer each queue counts fewer than k sends
pub works_below : (k client : ℕ) (notes later : List Note) → 1 ≤ k → AllKept (due Writer k client notes) notes later → AreBelow k later
works_below k client notes later some kept place = on (nat_le k (sent_since notes place)) refl (is_known place (known notes)) refl
  where
    on : (b : Bool) → nat_le k (sent_since notes place) ≡ b → (is : Bool) → is_known place (known notes) ≡ is → sent_since later place < k
    on true e true is =
        let gone = passing_none (λ (p : Place). nat_le k (sent_since notes p)) (known notes) notes later kept place is e in
        omega (arith, gone, some)
    on true e false is =
        let none : sent_since notes place ≡ 0 = ap (λ c. c.sent) (unknown notes place is) in
        let many : k ≤ sent_since notes place = grind (arith, nat_tests, e) in
        absurd (omega (arith, none, many, some))
    on false e is other =
        let few : sent_since notes place < k = grind (arith, nat_tests, e) in
        let now = all_less (due Writer k client notes) notes later kept place in
        omega (arith, few, now)

-- an operation counts no more sends than it made
pub adds_sends : (asks : List Ask) (notes : List Note) (place : Place) → sent_since (noted notes asks) place ≤ sent_since notes place + sends_in asks
adds_sends [] notes place = omega arith
adds_sends (ask ∷ asks) notes place =
    let rest = adds_sends asks notes place in
    let own = adds_own (note_of_ask ask) (noted notes asks) place in
    omega (arith, rest, own)
  where
    adds_own : (o : Option Note) (before : List Note) (p : Place) → sent_since (with_note before o) p ≤ sent_since before p + sends_of o
    adds_own None before p = omega arith
    adds_own (Some (Sent queue)) before p = by_note (λ m. m ≤ sent_since before p + 1) (Sent queue) before p (omega arith) (omega arith)
    adds_own (Some (Got queue)) before p = by_note (λ m. m ≤ sent_since before p + 0) (Got queue) before p (omega arith) (omega arith)
    adds_own (Some (Kept queue)) before p = by_note (λ m. m ≤ sent_since before p + 0) (Kept queue) before p (omega arith) (omega arith)

-- one commit behind that fewer wait than a receive takes
pub commit_short : (k : ℕ) → IsNumber k → (notes later : List Note) (s : CloudState) → AreBelow k notes → SendOneCommit notes later → IsMetered later s
    → (place : Place) → waiting_at s place < most_received
commit_short k is notes later s below one metered place =
    let few = below place in
    let most = one place in
    let wait = metered place in
    let top = is.1 in
    omega (arith, few, most, wait, top)

-- and behind the checkpoints fewer than k
pub work_short : (k client : ℕ) (notes later : List Note) (s : CloudState) → 1 ≤ k → AllKept (due Writer k client notes) notes later → IsMetered later s
    → (place : Place) → waiting_at s place ≤ k - 1
work_short k client notes later s some kept metered place =
    let few = works_below k client notes later some kept place in
    let wait = metered place in
    omega (arith, few, wait)
