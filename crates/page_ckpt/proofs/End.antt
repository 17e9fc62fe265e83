-- A page checkpoint ends: each step that goes on leaves fewer calls.
use Rattle.std.proofs.Common.{◌≡◌, ℕ, ◌<◌, ◌≤◌, ◌+◌, ◌-◌, ◌*◌, ◌^◌, Bool, true, false, cond, List, [], ◌∷◌, ◌++◌, length, length-append, Option, Some, None, Result, Ok, Err, refl, sym, ap, subst, arith}
use Rattle.std.specs.Prelude.{map, filter}
use Rattle.std.proofs.lemmas.List.{length-map}
use Rattle.db_base.specs.declared.names.QueueName.{QueueName}
use Rattle.log_codec.specs.declared.record.PuRec.{PuRec}
use Rattle.log_codec.specs.Pu.{pu_of}
use Rattle.run_cursor.specs.Run.{Taken}
use Rattle.run_cursor.specs.Covered.{covered_ids, new_ones, is_seen, is_covered}
use Rattle.ckpt_parts.specs.declared.leases.Leases.{Leases}
use Rattle.ckpt_parts.specs.Deleting.{next_id, tried}
use Rattle.ckpt_parts.specs.Intakes.{item_with, with_first, items_of, intake_of, TakesIn, TakesItems}
use Rattle.page_ckpt.specs.Paging.{Paging, Step, paging_ask, own_queue, went, PagingLeads, KeepsLeases}
use Rattle.page_ckpt.specs.End.{held_count, calls_left}
use Rattle.page_ckpt.proofs.Words.{Trouble, PuItem, Answer, Message, CkptAnswer, Turn, More, Claim, Goes, Ends, Stops, Took, done_of, Fits, Intake, Link}
use Rattle.page_ckpt.proofs.Outcomes.{Onward, Clears, Fails, Comes, comes, AreRead}
use Rattle.page_ckpt.proofs.Outcomes as step

-- ---- a receive brings 256 messages at most, an item is read of each, and an id at most is deleted for each item

with_first_length : (m : Message) (o : Option PuRec) (rest : Result (List PuItem) Message) (items : List PuItem) (n : ℕ)
    → ((more : List PuItem) → rest ≡ Ok more → length more ≤ n) → with_first m o rest ≡ Ok items → length items ≤ n + 1
with_first_length m None rest items n h e = absurd (cc (e))
with_first_length m (Some rec) (Ok more) items n h e =
    let same : items ≡ item_with m.id rec ∷ more = cc (e) in
    subst (λ (xs : List PuItem). length xs ≤ n + 1) (sym same) (omega (arith, h more refl))
with_first_length m (Some rec) (Err bad) items n h e = absurd (cc (e))

items_length : (ms : List Message) (items : List PuItem) → items_of ms ≡ Ok items → length items ≤ length ms
items_length [] items e =
    let same : items ≡ [] = cc (e) in
    subst (λ (xs : List PuItem). length xs ≤ 0) (sym same) (omega arith)
items_length (m ∷ ms) items e = omega (arith, with_first_length m (pu_of m.bytes) (items_of ms) items (length ms) (items_length ms) e)

new_ones_length : (seen ns : List ℕ) → length (new_ones seen ns) ≤ length ns
new_ones_length seen [] = omega arith
new_ones_length seen (n ∷ ns) = on (is_seen seen n) (new_ones_length seen ns) (new_ones_length (seen ++ n ∷ []) ns) where
  on : (b : Bool) → length (new_ones seen ns) ≤ length ns → length (new_ones (seen ++ n ∷ []) ns) ≤ length ns
      → length (cond b (new_ones seen ns) (n ∷ new_ones (seen ++ n ∷ []) ns)) ≤ length (n ∷ ns)
  on true a b = omega (arith, a)
  on false a b = omega (arith, b)

filter_length : {X : Type 0} (p : X → Bool) (xs : List X) → length (filter p xs) ≤ length xs
filter_length p [] = omega arith
filter_length p (x ∷ xs) = on (p x) (filter_length p xs) where
  on : (b : Bool) → length (filter p xs) ≤ length xs → length (cond b (x ∷ filter p xs) (filter p xs)) ≤ length (x ∷ xs)
  on true h = omega (arith, h)
  on false h = omega (arith, h)

covered_length : (top : List (ℕ × ℕ)) (items : List PuItem) → length (covered_ids top items) ≤ length items
covered_length top items =
    let ids : List ℕ = map (λ (x : PuItem). x.id) (filter (is_covered top) items) in
    omega (arith, new_ones_length [] ids, length-map (filter (is_covered top) items) (λ (x : PuItem). x.id), filter_length (is_covered top) items)

-- what is to be deleted is no longer than the messages
takes_items_length : (q : QueueName) (cursor : List (ℕ × ℕ)) (read : Result (List PuItem) Message) (n : ℕ) (i : Intake)
    → ((items : List PuItem) → read ≡ Ok items → length items ≤ n) → TakesItems q cursor read (Ok i) → length i.deletions.ids ≤ n
takes_items_length q cursor (Err m) n i most h = absurd (cc (h))
takes_items_length q cursor (Ok items) n i most h =
    let run : Taken = h.0 in
    let whole : i ≡ intake_of items run = cc (h.2) in
    let same : i.deletions.ids ≡ covered_ids run.top items = ap (λ (j : Intake). j.deletions.ids) whole in
    subst (λ (xs : List ℕ). length xs ≤ n) (sym same) (omega (arith, covered_length run.top items, most items refl))

takes_length : (q : QueueName) (cursor : List (ℕ × ℕ)) (ms : List Message) (i : Intake) → TakesIn q cursor ms (Ok i) → length i.deletions.ids ≤ length ms
takes_length q cursor ms i h = takes_items_length q cursor (items_of ms) (length ms) i (items_length ms) h

-- ---- local work

held_most_of : (first second : Option Claim) → held_count (record { first = first; second = second }) ≤ 2
held_most_of None None = omega arith
held_most_of None (Some r) = omega arith
held_most_of (Some l) None = omega arith
held_most_of (Some l) (Some r) = omega arith

held_most : (h : Leases) → held_count h ≤ 2
held_most h = held_most_of h.first h.second

read_most : (p : Paging) (ms : List Message) (i : Intake) → AreRead p ms (Ok i) → length ms ≤ 256 → length i.deletions.ids ≤ 256
read_most p ms i read most = omega (arith, takes_length (own_queue p) read.cursor ms i read.takes, most)

onward_many : {p q : Paging} {a : Answer} {o : Option Link} → Fits (paging_ask p) a → Onward p a q o
    → length q.deletions.ids + 4 * (2 ^ 64 - length q.visited) + 5 ≤ calls_left p
onward_many fits (step.with_run p first second ms i read some) = omega (arith, read_most p ms i read fits)
onward_many fits (step.from_right p first second a) = omega arith

clears_many : {p q : Paging} {a : Answer} → Clears p a q → 2 < calls_left p
clears_many (step.no_run p first second ms i read none) = omega arith
clears_many (step.home_put p first second) = omega arith
clears_many (step.one_tried p first second a) = omega arith

-- a deletion that was tried is none that is left
tried_less : (ids : List ℕ) (deleted left id : ℕ) (b : Bool) → next_id (tried (record { ids = ids; deleted = deleted; left = left }) b).ids ≡ Some id
    → length (tried (record { ids = ids; deleted = deleted; left = left }) b).ids < length ids
tried_less [] deleted left id b e = absurd (cc (e))
tried_less (x ∷ ids) deleted left id true e = omega arith
tried_less (x ∷ ids) deleted left id false e = omega arith

clears_less : {p q : Paging} {a : Answer} (id : ℕ) → Fits (paging_ask p) a → Clears p a q → next_id q.deletions.ids ≡ Some id → length q.deletions.ids + 3 < calls_left p
clears_less id fits (step.no_run p first second ms i read none) e = omega (arith, read_most p ms i read fits)
clears_less id fits (step.home_put p first second) e = omega arith
clears_less id fits (step.one_tried p first second a) e =
    omega (arith, tried_less p.deletions.ids p.deletions.deleted p.deletions.left id (went (done_of a)) e)

fails_many : {p q : Paging} {a : Answer} {t : Trouble} → Fits (paging_ask p) a → Fails p a q t → 2 < calls_left p
fails_many fits (step.round link on seen) = omega (arith, onward_many fits on)
fails_many fits (step.home_spent on spent) = omega (arith, onward_many fits on)
fails_many fits f = omega arith

-- ---- a step

-- where a step goes on, fewer calls are left than this, unless there are too many right pages
abbrev Below : ℕ → Step → Type 0
Below n (Goes p) = length p.visited ≤ 2 ^ 64 → calls_left p < n
Below n (Ends p a) = Unit {0}
Below n (Stops p t) = Unit {0}

below : {p : Paging} {a : Answer} {next : Step} → Fits (paging_ask p) a → Comes p a next → Below (calls_left p) next
below fits (step.stops q t f) = λ few. omega (arith, held_most q.held, fails_many fits f)
below fits (step.turns q link on new) = λ few.
    let one : length (q.visited ++ link.page ∷ []) ≡ length q.visited + 1 = length-append q.visited (link.page ∷ []) in
    omega (arith, onward_many fits on, few, one)
below fits (step.puts_home q out on fresh leaf) = λ few. omega (arith, onward_many fits on)
below fits (step.deletes q id c e) = λ few. clears_less id fits c e
below fits (step.rests q c e) = λ few. omega (arith, held_most q.held, clears_many c)
below fits (step.refused p first second a t e) = tt
below fits (step.ends p first second a last e) = tt
below fits (step.stopped p first second a t last e) = tt
below fits (step.nothing p first second a) = tt
below fits c = λ few. omega arith

pub less : (p n : Paging) (a : Answer) → Fits (paging_ask p) a → length n.visited ≤ 2 ^ 64 → PagingLeads p a (Goes n) → calls_left n < calls_left p
less p n a fits few leads = below fits (comes p a (Goes n) leads) few

-- the same of the code's step
pub took_less : (old new : Paging) (a : Answer) (turn : Turn CkptAnswer) → Fits (paging_ask old) a → length new.visited ≤ 2 ^ 64
    → Took PagingLeads KeepsLeases old a new turn → turn ≡ More → calls_left new < calls_left old
took_less old new a turn fits few took more =
    let At : Turn CkptAnswer → Type 0 = Took PagingLeads KeepsLeases old a new in
    less old new a fits few (subst At more took)
