-- Why a page checkpoint stops.
use Rattle.std.proofs.Common.{◌≡◌, ◌≢◌, ℕ, Bool, true, false, cond, List, Option, Some, None, Result, Ok, Err, refl, sym, ap, subst, inl, inr, ◌∙◌}
use Rattle.std.specs.Prelude.{◌==◌}
use Rattle.std.proofs.lemmas.Bool.{eqb-false}
use Rattle.db_base.specs.declared.names.Lock.{Lock}
use Rattle.db_base.specs.declared.names.Lock.TheVariants as lock
use Rattle.db_base.specs.declared.names.ObjName.{ObjName}
use Rattle.db_base.specs.declared.names.QueueName.{QueueName}
use Rattle.db_base.specs.declared.trouble.Trouble.TheVariants as trouble
use Rattle.byte_format.specs.Order.{bytes_same}
use Rattle.byte_format.specs.Whole.{offset}
use Rattle.leaf_view.specs.Leaf.{Leaf, leaf}
use Rattle.leaf_view.specs.Lookup.{empty_leaf}
use Rattle.run_cursor.specs.Run.{Taken, IsRun}
use Rattle.cloud_trait.specs.declared.answer.Answer.TheVariants as call
use Rattle.cloud_trait.specs.Ask.{GetHeld, PutHeld, Receive, Take}
use Rattle.ckpt_parts.specs.Intakes.{items_of, intake_of, message_damage, TakesItems}
use Rattle.ckpt_parts.specs.Leaves.{page_damage, absent_leaf, HoldsLeaf, bad_fence, fenced}
use Rattle.page_ckpt.specs.declared.stage.Stage.TheVariants.{GettingHome, Receiving, GettingRight, Releasing}
use Rattle.page_ckpt.specs.Paging.{Paging, Step, paging_ask, own_queue, home_name, right_name, HoldsNamed, is_visited, PagingLeads, KeepsLeases}
use Rattle.page_ckpt.specs.Leases.{HoldsAt, Stands}
use Rattle.page_ckpt.specs.Causes.{Matters, Shows, IsShown, Tells, IsOwnRun, LeadsOn}
use Rattle.page_ckpt.proofs.Words.{Trouble, PuItem, Answer, Message, CkptAnswer, Turn, More, Ended, Stopped, Claim, Goes, Ends, Stops, Took, Deed, given_of, got_of, received_of, done_of, Fits, Intake, Link}
use Rattle.page_ckpt.proofs.Outcomes.{leased, AreRead, Onward, Clears, Fails, Comes, comes}
use Rattle.page_ckpt.proofs.Outcomes as step
use Rattle.page_ckpt.proofs.Links.{link_taken}

-- the leases that the call needs are held
abbrev pub HoldsNeeded : Paging → Type 0
HoldsNeeded p = HoldsAt p.stage p p.held.first p.held.second

-- ---- calls that brought nothing

pub err_is : {A : Type 0} (t u : Trouble) → ◌≡◌ {A = Result A Trouble} (Err t) (Err u) → t ≡ u
err_is t u e = cc (e)

take_missed : (p n : Paging) (mine : Lock) (a : Answer) (t : Trouble) → paging_ask p ≡ Take mine 30 → Matters (paging_ask p) → Fits (Take mine 30) a
    → given_of mine a ≡ Err t → Shows p a n t
take_missed p n mine call.Failed t asks matters fits e = subst (Shows p call.Failed n) (err_is trouble.Failed t e) (refl, matters)
take_missed p n mine call.Memory t asks matters fits e = subst (Shows p call.Memory n) (err_is trouble.Memory t e) tt
take_missed p n mine (call.Held until) t asks matters fits e = subst (Shows p (call.Held until) n) (err_is (trouble.Busy mine until) t e) (asks, refl)
take_missed p n mine (call.Given l) t asks matters fits e = absurd (cc (e))
take_missed p n mine a t asks matters fits e = absurd fits

get_missed : (p n : Paging) (name : ObjName) (l : Claim) (a : Answer) (t : Trouble) → Matters (paging_ask p) → Fits (GetHeld name l) a → got_of a ≡ Err t → Shows p a n t
get_missed p n name l call.Failed t matters fits e = subst (Shows p call.Failed n) (err_is trouble.Failed t e) (refl, matters)
get_missed p n name l call.Memory t matters fits e = subst (Shows p call.Memory n) (err_is trouble.Memory t e) tt
get_missed p n name l (call.Late end now) t matters fits e = subst (Shows p (call.Late end now) n) (err_is (trouble.Late end now) t e) refl
get_missed p n name l (call.Got v) t matters fits e = absurd (cc (e))
get_missed p n name l a t matters fits e = absurd fits

receive_missed : (p n : Paging) (queue : QueueName) (a : Answer) (t : Trouble) → Matters (paging_ask p) → Fits (Receive queue 256) a → received_of a ≡ Err t → Shows p a n t
receive_missed p n queue call.Failed t matters fits e = subst (Shows p call.Failed n) (err_is trouble.Failed t e) (refl, matters)
receive_missed p n queue call.Memory t matters fits e = subst (Shows p call.Memory n) (err_is trouble.Memory t e) tt
receive_missed p n queue (call.Received ms) t matters fits e = absurd (cc (e))
receive_missed p n queue a t matters fits e = absurd fits

put_missed : (p n : Paging) (name : ObjName) (bytes : List ℕ) (one : Claim) (two : Option Claim) (a : Answer) (t : Trouble) → Matters (paging_ask p)
    → Fits (PutHeld name bytes one two) a → done_of a ≡ Err t → Shows p a n t
put_missed p n name bytes one two call.Failed t matters fits e = subst (Shows p call.Failed n) (err_is trouble.Failed t e) (refl, matters)
put_missed p n name bytes one two call.Memory t matters fits e = subst (Shows p call.Memory n) (err_is trouble.Memory t e) tt
put_missed p n name bytes one two (call.Late end now) t matters fits e = subst (Shows p (call.Late end now) n) (err_is (trouble.Late end now) t e) refl
put_missed p n name bytes one two call.Done t matters fits e = absurd (cc (e))
put_missed p n name bytes one two a t matters fits e = absurd fits

-- ---- pages and messages that are wrong

absent_shows : (p : Paging) (page : ℕ) (t : Trouble) → ◌≡◌ {A = Result Leaf Trouble} (Err t) (absent_leaf page) → (page ≢ 1) × (t ≡ trouble.Absent page)
absent_shows p page t e = on (page == 1) refl e where
  on : (b : Bool) → (page == 1) ≡ b → ◌≡◌ {A = Result Leaf Trouble} (Err t) (cond b (Ok empty_leaf) (Err (trouble.Absent page))) → (page ≢ 1) × (t ≡ trouble.Absent page)
  on true is h = absurd (cc (h))
  on false is h = (eqb-false page 1 is, cc (h))

named_shows : (n : Paging) (p : Paging) (first second : Option Claim) (got : Option (List ℕ)) (t : Trouble) → HoldsNamed p.tree p.page got (Err t)
    → Shows (leased p GettingHome first second) (call.Got got) n t
named_shows n p first second None t e =
    let absent : (p.page ≢ 1) × (t ≡ trouble.Absent p.page) = absent_shows p p.page t e in
    subst (λ (u : Trouble). Shows (leased p GettingHome first second) (call.Got None) n u) (sym absent.1) (inl (refl, refl), absent.0, refl)
named_shows n p first second (Some bytes) t (inl h) =
    let is : t ≡ trouble.NotALeaf p.page = cc (h.2) in
    subst (λ (u : Trouble). Shows (leased p GettingHome first second) (call.Got (Some bytes)) n u) (sym is) (refl, refl, (bytes, (h.0, refl, h.1)))
named_shows n p first second (Some bytes) t (inr (no_inner, inl h)) = absurd (cc (h.2))
named_shows n p first second (Some bytes) t (inr (no_inner, inr h)) =
    let is : t ≡ page_damage p.tree p.page (offset leaf bytes) = cc (h.1) in
    subst (λ (u : Trouble). Shows (leased p GettingHome first second) (call.Got (Some bytes)) n u) (sym is)
    (inl (p.page, refl, (inl (refl, refl), (bytes, refl, h.0, refl, λ k. no_inner))))

never_home : {X : Type 0} → GettingRight ≡ GettingHome → X
never_home e = absurd (cc (e))

right_shows : (n : Paging) (p : Paging) (first second : Option Claim) (got : Option (List ℕ)) (t : Trouble) → HoldsLeaf p.tree p.at.page got (Err t)
    → Shows (leased p GettingRight first second) (call.Got got) n t
right_shows n p first second None t e =
    let absent : (p.at.page ≢ 1) × (t ≡ trouble.Absent p.at.page) = absent_shows p p.at.page t e in
    subst (λ (u : Trouble). Shows (leased p GettingRight first second) (call.Got None) n u) (sym absent.1) (inr (refl, refl), absent.0, refl)
right_shows n p first second (Some bytes) t (inl h) = absurd (cc (h.2))
right_shows n p first second (Some bytes) t (inr h) =
    let is : t ≡ page_damage p.tree p.at.page (offset leaf bytes) = cc (h.1) in
    subst (λ (u : Trouble). Shows (leased p GettingRight first second) (call.Got (Some bytes)) n u) (sym is)
    (inl (p.at.page, refl, (inr (refl, refl), (bytes, refl, h.0, refl, λ k. never_home k))))

fence_shows : (n : Paging) (p : Paging) (first second : Option Claim) (got : Option (List ℕ)) (found : Leaf) (t : Trouble) (b : Bool) → bytes_same p.at.low found.low ≡ b
    → HoldsLeaf p.tree p.at.page got (Ok found)
    → ◌≡◌ {A = Result Leaf Trouble} (Err t) (cond b (Ok found) (Err (bad_fence p.at.page p.at.low found)))
    → Shows (leased p GettingRight first second) (call.Got got) n t
fence_shows n p first second got found t true is holds e = absurd (cc (e))
fence_shows n p first second got found t false is holds e =
    let same : t ≡ bad_fence p.at.page p.at.low found = cc (e) in
    subst (λ (u : Trouble). Shows (leased p GettingRight first second) (call.Got got) n u) (sym same)
    (refl, refl, refl, is, (got, (found, refl, holds, refl)))

linked_shows : (n : Paging) (p : Paging) (first second : Option Claim) (got : Option (List ℕ)) (plain : Result Leaf Trouble) (t : Trouble) → HoldsLeaf p.tree p.at.page got plain
    → Err t ≡ fenced p.at.page p.at.low plain → Shows (leased p GettingRight first second) (call.Got got) n t
linked_shows n p first second got (Ok found) t holds e = fence_shows n p first second got found t (bytes_same p.at.low found.low) refl holds e
linked_shows n p first second got (Err u) t holds e =
    let same : u ≡ t = cc (e) in
    subst (λ (v : Trouble). Shows (leased p GettingRight first second) (call.Got got) n v) same (right_shows n p first second got u holds)

items_shows : (n : Paging) (p : Paging) (first second : Option Claim) (cursor : List (ℕ × ℕ)) (ms : List Message) (read : Result (List PuItem) Message) (t : Trouble) → items_of ms ≡ read
    → TakesItems (own_queue p) cursor read (Err t) → Shows (leased p Receiving first second) (call.Received ms) n t
items_shows n p first second cursor ms (Ok items) t e h = absurd (cc (h.2))
items_shows n p first second cursor ms (Err m) t e h =
    let same : t ≡ message_damage (own_queue p) m = cc (h) in
    subst (λ (u : Trouble). Shows (leased p Receiving first second) (call.Received ms) n u) (sym same) (inr (refl, (ms, (m, refl, e, refl, refl))))

-- where a run was taken, each message was a record
items_read : (q : QueueName) (cursor : List (ℕ × ℕ)) (read : Result (List PuItem) Message) (i : Intake) → TakesItems q cursor read (Ok i)
    → (items : List PuItem) × (read ≡ Ok items)
items_read q cursor (Ok items) i takes = (items, refl)
items_read q cursor (Err m) i takes = absurd (cc (takes))

-- .. and it is one of these records
run_read : (p : Paging) (ms : List Message) (i : Intake) (read : AreRead p ms (Ok i)) (items : List PuItem) → items_of ms ≡ Ok items
    → IsRun read.cursor items i.run.items i.run.top
run_read p ms i read items reads =
    let taken : TakesItems (own_queue p) read.cursor (Ok items) (Ok i) =
    subst (λ (o : Result (List PuItem) Message). TakesItems (own_queue p) read.cursor o (Ok i)) reads read.takes in
    let is : i ≡ intake_of items taken.0 = cc (taken.2) in
    subst (λ (run : Taken). IsRun read.cursor items run.items run.top) (sym (ap (λ (x : Intake). x.run) is)) taken.1

-- ---- local work

pub onward_leads : {p q : Paging} {a : Answer} {o : Option Link} → Onward p a q o → LeadsOn p a q o
onward_leads (step.with_run p first second ms i read some) =
    let records : (items : List PuItem) × (items_of ms ≡ Ok items) = items_read (own_queue p) read.cursor (items_of ms) i read.takes in
    let run : IsOwnRun p records.0 i.run = (read.cursor, read.own, run_read p ms i read records.0 records.1) in
    inl (refl, (ms, (records.0, refl, records.1, some, run)), link_taken p.home i.run.items)
onward_leads (step.from_right p first second a) = inr (refl, refl)

-- it came to the same pages, and the page is as it was
pub onward_visited : {p q : Paging} {a : Answer} {o : Option Link} → Onward p a q o → (page : ℕ) → is_visited p page ≡ is_visited q page
onward_visited (step.with_run p first second ms i read some) page = refl
onward_visited (step.from_right p first second a) page = refl

pub onward_home : {p q : Paging} {a : Answer} {o : Option Link} → Onward p a q o → p.home ≡ q.home
onward_home (step.with_run p first second ms i read some) = refl
onward_home (step.from_right p first second a) = refl

onward_keeps : {p q : Paging} {a : Answer} {o : Option Link} → Onward p a q o → p.trouble ≡ q.trouble
onward_keeps (step.with_run p first second ms i read some) = refl
onward_keeps (step.from_right p first second a) = refl

clears_keeps : {p q : Paging} {a : Answer} → Clears p a q → p.trouble ≡ q.trouble
clears_keeps (step.no_run p first second ms i read none) = refl
clears_keeps (step.home_put p first second) = refl
clears_keeps (step.one_tried p first second a) = refl

-- the leases are given back next
abbrev stopped : Paging → Trouble → Paging
stopped q t = record q { stage = Releasing; trouble = Some t }

fails_shows : {p q : Paging} {a : Answer} {t : Trouble} → HoldsNeeded p → Fits (paging_ask p) a → Fails p a q t → Shows p a (stopped q t) t
fails_shows {p = from} {q = q} own fits (step.no_home p (Some l) None a t e) = get_missed from (stopped q t) (home_name p) l a t tt fits e
fails_shows {p = from} {q = q} own fits (step.no_right p (Some l) (Some r) a t e) = get_missed from (stopped q t) (right_name p) r a t tt fits e
fails_shows {p = from} {q = q} own fits (step.no_messages p first second a t e) = receive_missed from (stopped q t) (own_queue p) a t tt fits e
fails_shows {p = from} {q = q} own fits (step.no_lease p first second a t e) = take_missed from (stopped q t) (lock.Page p.tree p.at.page) a t refl tt fits e
fails_shows {p = from} {q = q} own fits (step.right_not_put p (Some l) (Some r) a t e) = put_missed from (stopped q t) (right_name p) p.out l (Some r) a t tt fits e
fails_shows {p = from} {q = q} own fits (step.home_not_put p (Some l) None a t e) = put_missed from (stopped q t) (home_name p) p.out l None a t tt fits e
fails_shows {q = q} own fits (step.bad_home p first second got t holds) = named_shows (stopped q t) p first second got t holds
fails_shows {q = q} own fits (step.bad_right p first second got t holds) = linked_shows (stopped q t) p first second got holds.0 t holds.1 holds.2
fails_shows {q = q} own fits (step.bad_message p first second ms t read) = items_shows (stopped q t) p first second read.cursor ms (items_of ms) t refl read.takes
fails_shows {q = q} own fits (step.round link on seen) = (onward_visited on link.page ∙ seen, (link, onward_leads on, refl))
fails_shows {q = q} own fits (step.home_spent on spent) = (refl, inl (onward_leads on, ap (λ (l : Leaf). l.version) (onward_home on) ∙ spent))
fails_shows own fits (step.right_spent p first second got l holds some spent) = (refl, inr (refl, (got, (l, refl, holds, some, spent))))
fails_shows own fits f = absurd own

-- ---- a step

-- what a step tells of its trouble
abbrev pub NextTells : Paging → Answer → Step → Type 0
NextTells p a (Goes n) = (t : Trouble) → n.trouble ≡ Some t → IsShown p a n t
NextTells p a (Ends n x) = p.trouble ≡ None
NextTells p a (Stops n t) = t ≢ trouble.Memory → IsShown p a n t

pub some_is : (t u : Trouble) → Some t ≡ Some u → t ≡ u
some_is t u e = cc (e)

tells : {p : Paging} {a : Answer} {next : Step} → HoldsNeeded p → Fits (paging_ask p) a → Comes p a next → NextTells p a next
tells {p = from} own fits (step.refused p first second a t e) = λ k. inr (take_missed from from (lock.Page p.tree p.page) a t refl tt fits e)
tells {p = p} {a = a} own fits (step.stops q t f) = λ u e. inr (subst (Shows p a (stopped q t)) (some_is t u e) (fails_shows own fits f))
tells own fits (step.turns q link on new) = λ t e. inl (onward_keeps on ∙ e)
tells own fits (step.puts_home q out on fresh is) = λ t e. inl (onward_keeps on ∙ e)
tells own fits (step.deletes q id c some) = λ t e. inl (clears_keeps c ∙ e)
tells own fits (step.rests q c none) = λ t e. inl (clears_keeps c ∙ e)
tells own fits (step.ends p first second a last none) = none
tells own fits (step.stopped p first second a t last kept) = λ k. inl kept
tells own fits (step.nothing p first second a) = absurd own
tells own fits c = λ t e. inl e

pub step_tells : (p : Paging) (h : List Deed) (a : Answer) (next : Step) → Stands p h → Fits (paging_ask p) a → PagingLeads p a next → NextTells p a next
step_tells p h a next s fits leads = tells s.own fits (comes p a next leads)

pub took_tells : (old new : Paging) (h : List Deed) (a : Answer) (turn : Turn CkptAnswer) → Stands old h → Fits (paging_ask old) a
    → Took PagingLeads KeepsLeases old a new turn → Tells old a new turn
took_tells old new h a More s fits took = step_tells old h a (Goes new) s fits took
took_tells old new h a (Ended x) s fits took = step_tells old h a (Ends new x) s fits took
took_tells old new h a (Stopped t) s fits took = λ k. step_tells old h a (Stops new t) s fits (took.0 k) k
