-- The spelling of a settled head, from the one of the head under way.
use Rattle.std.proofs.Common.{◌≡◌, ℕ, ◌+◌, ◌-◌, ◌≤◌, List, [], ◌∷◌, ◌++◌, length, take, drop, Option, Some, None, refl, sym, ap, ◌∙◌, append_assoc, subst, arith}
use Rattle.std.proofs.lemmas.List.{length-append, take-append-drop}
use Rattle.std.proofs.Math.Seq.{take-append_seam, drop-append_seam}
use Rattle.std.specs.List.{AllByRecursion}
use Rattle.std.specs.Int.{w64, to_be_bytes}
use Rattle.byte_format.specs.Format.{list_spelling}
use Rattle.head_codec.specs.declared.head.Head.{Head}
use Rattle.head_codec.specs.declared.head.Phase.{Phase}
use Rattle.head_codec.specs.declared.head.Phase.TheVariants.{Settled, Open}
use Rattle.head_codec.specs.declared.lists.Pending.{Pending}
use Rattle.head_codec.specs.Counters.{counter}
use Rattle.head_codec.specs.Pending.{pending_entry, FitsPending}
use Rattle.head_codec.specs.Spelling.{phase, head_bytes, FitsTypes, head_of, under_way, WasOpen}
use Rattle.head_codec.proofs.HeadLaws.{head_of-some}
use Rattle.head_codec.proofs.Keeping.{AllByRecursion-append}
use Rattle.head_codec.proofs.ListSpelling.{entries-any}

-- entries without the byte that ends a list of them
abbrev entries : List Pending → List ℕ
entries [] = []
entries (p ∷ ps) = 1 ∷ ((pending_entry None).spelling p ++ entries ps)

entries_then : (before : Option Pending) (ps more : List Pending) → list_spelling pending_entry before (ps ++ more) ≡ entries ps ++ list_spelling pending_entry None more
entries_then before [] more = entries-any before more
entries_then before (p ∷ ps) more =
    ap (λ (tail : List ℕ). 1 ∷ ((pending_entry None).spelling p ++ tail)) (entries_then (Some p) ps more)
    ∙ ap (λ (tail : List ℕ). 1 ∷ tail) (sym (append_assoc ((pending_entry None).spelling p) (entries ps) (list_spelling pending_entry None more)))

entries_end : (ps : List Pending) → list_spelling pending_entry None ps ≡ entries ps ++ 0 ∷ []
entries_end [] = refl
entries_end (p ∷ ps) =
    ap (λ (tail : List ℕ). 1 ∷ ((pending_entry None).spelling p ++ tail)) (entries-any (Some p) ps ∙ entries_end ps)
    ∙ ap (λ (tail : List ℕ). 1 ∷ tail) (sym (append_assoc ((pending_entry None).spelling p) (entries ps) (0 ∷ [])))

-- ---- parts of bytes

front_is : (bytes front back : List ℕ) (n : ℕ) → bytes ≡ front ++ back → length front ≡ n → take n bytes ≡ front
front_is bytes front back n is long = ap (λ (m : ℕ). take m bytes) (sym long) ∙ ap (λ (xs : List ℕ). take (length front) xs) is ∙ take-append_seam front back

back_is : (bytes front back : List ℕ) (n : ℕ) → bytes ≡ front ++ back → length front ≡ n → drop n bytes ≡ back
back_is bytes front back n is long = ap (λ (m : ℕ). drop m bytes) (sym long) ∙ ap (λ (xs : List ℕ). drop (length front) xs) is ∙ drop-append_seam front back

all_but_last : (bytes front : List ℕ) (last : ℕ) → bytes ≡ front ++ last ∷ [] → take (length bytes - 1) bytes ≡ front
all_but_last bytes front last is =
    let long : length bytes ≡ length front + 1 = ap (λ (xs : List ℕ). length xs) is ∙ length-append front (last ∷ []) in
    front_is bytes front (last ∷ []) (length bytes - 1) is (omega (arith, long))

-- ---- a head

-- the marks, the epoch and the transaction
abbrev front_of : Head → List ℕ
front_of h = 72 ∷ 1 ∷ (to_be_bytes w64 h.epoch ++ to_be_bytes w64 h.txn)

front_long : (h : Head) → length (front_of h) ≡ 18
front_long h = refl

-- the counters and the entries that it had
abbrev lists_of : Head → ℕ → List ℕ
lists_of h count = list_spelling counter None h.counters ++ entries (take (length h.pending - count) h.pending)

-- a head's spelling in its parts
parts : (epoch txn phase counters entries : List ℕ) → 72 ∷ 1 ∷ (epoch ++ (txn ++ (phase ++ (counters ++ entries)))) ≡ (72 ∷ 1 ∷ (epoch ++ txn)) ++ (phase ++ (counters ++ entries))
parts epoch txn phase counters entries = ap (λ (tail : List ℕ). 72 ∷ 1 ∷ tail) (sym (append_assoc epoch txn (phase ++ (counters ++ entries))))

open_parts : (h : Head) (count : ℕ) → head_bytes (under_way h count) ≡ front_of h ++ (phase.spelling (Open count) ++ (lists_of h count ++ 0 ∷ []))
unfolding head_bytes
open_parts h count =
    let kept = take (length h.pending - count) h.pending in
    let counters = list_spelling counter None h.counters in
    parts (to_be_bytes w64 h.epoch) (to_be_bytes w64 h.txn) (phase.spelling (Open count)) counters (list_spelling pending_entry None kept)
    ∙ ap (λ (tail : List ℕ). front_of h ++ (phase.spelling (Open count) ++ tail))
    (ap (λ (tail : List ℕ). counters ++ tail) (entries_end kept) ∙ sym (append_assoc counters (entries kept) (0 ∷ [])))

settled_parts : (h : Head) (count : ℕ) → h.phase ≡ Settled → head_bytes h ≡ front_of h ++ (0 ∷ [] ++ (lists_of h count ++ list_spelling pending_entry None (drop (length h.pending - count) h.pending)))
unfolding head_bytes
settled_parts h count settled =
    let n = length h.pending - count in
    let counters = list_spelling counter None h.counters in
    let more = list_spelling pending_entry None (drop n h.pending) in
    parts (to_be_bytes w64 h.epoch) (to_be_bytes w64 h.txn) (phase.spelling h.phase) counters (list_spelling pending_entry None h.pending)
    ∙ ap (λ (p : List ℕ). front_of h ++ (p ++ (counters ++ list_spelling pending_entry None h.pending))) (ap phase.spelling settled)
    ∙ ap (λ (tail : List ℕ). front_of h ++ (0 ∷ [] ++ tail))
    (ap (λ (ps : List Pending). counters ++ list_spelling pending_entry None ps) (sym (take-append-drop n h.pending))
    ∙ ap (λ (tail : List ℕ). counters ++ tail) (entries_then None (take n h.pending) (drop n h.pending))
    ∙ sym (append_assoc counters (entries (take n h.pending)) more))

-- the bytes of a head under way
open_is : (h : Head) (before : List ℕ) (count : ℕ) → WasOpen h before count → before ≡ front_of h ++ (phase.spelling (Open count) ++ (lists_of h count ++ 0 ∷ []))
open_is h before count was = (head_of-some before (under_way h count) was.spelled).2 ∙ open_parts h count

behind_phase : (h : Head) (before : List ℕ) (count : ℕ) → WasOpen h before count → drop 2 (drop 18 before) ≡ lists_of h count ++ 0 ∷ []
behind_phase h before count was =
    back_is (drop 18 before) (phase.spelling (Open count)) (lists_of h count ++ 0 ∷ []) 2
    (back_is before (front_of h) (phase.spelling (Open count) ++ (lists_of h count ++ 0 ∷ [])) 18 (open_is h before count was) (front_long h)) refl

pub long_enough : (h : Head) (before : List ℕ) (count : ℕ) → WasOpen h before count → 21 ≤ length before
long_enough h before count was =
    let whole : length before ≡ 18 + length (phase.spelling (Open count) ++ (lists_of h count ++ 0 ∷ [])) =
    ap (λ (xs : List ℕ). length xs) (open_is h before count was) ∙ length-append (front_of h) (phase.spelling (Open count) ++ (lists_of h count ++ 0 ∷ [])) in
    let behind : length (phase.spelling (Open count) ++ (lists_of h count ++ 0 ∷ [])) ≡ 2 + length (lists_of h count ++ 0 ∷ []) = length-append (phase.spelling (Open count)) (lists_of h count ++ 0 ∷ []) in
    let some : length (lists_of h count ++ 0 ∷ []) ≡ length (lists_of h count) + 1 = length-append (lists_of h count) (0 ∷ []) in
    omega (arith, whole, behind, some)

-- the bytes before the phase, the settled phase, the lists as they were, and what was added
pub settled_is : (h : Head) (before : List ℕ) (count : ℕ) → WasOpen h before count → take 18 before ++ (0 ∷ [] ++ (take (length (drop 2 (drop 18 before)) - 1) (drop 2 (drop 18 before)) ++ list_spelling pending_entry None (drop (length h.pending - count) h.pending))) ≡ head_bytes h
settled_is h before count was =
    let more = list_spelling pending_entry None (drop (length h.pending - count) h.pending) in
    let front : take 18 before ≡ front_of h = front_is before (front_of h) (phase.spelling (Open count) ++ (lists_of h count ++ 0 ∷ [])) 18 (open_is h before count was) (front_long h) in
    let lists : take (length (drop 2 (drop 18 before)) - 1) (drop 2 (drop 18 before)) ≡ lists_of h count = all_but_last (drop 2 (drop 18 before)) (lists_of h count) 0 (behind_phase h before count was) in
    ap (λ (xs : List ℕ). xs ++ (0 ∷ [] ++ (take (length (drop 2 (drop 18 before)) - 1) (drop 2 (drop 18 before)) ++ more))) front
    ∙ ap (λ (xs : List ℕ). front_of h ++ (0 ∷ [] ++ (xs ++ more))) lists
    ∙ sym (settled_parts h count was.settled)

-- what the bytes say of the types, and what is added
pub settled_fits : (h : Head) (before : List ℕ) (count : ℕ) → WasOpen h before count → AllByRecursion FitsPending (drop (length h.pending - count) h.pending) → FitsTypes h
settled_fits h before count was more =
    let types = (head_of-some before (under_way h count) was.spelled).1 in
    let n = length h.pending - count in record {
      epoch = types.epoch;
      txn = types.txn;
      counters = types.counters;
      pending = subst (λ (ps : List Pending). AllByRecursion FitsPending ps) (take-append-drop n h.pending) (AllByRecursion-append FitsPending (take n h.pending) (drop n h.pending) types.pending more);
    }

-- the parts that are written
pub settled_written : (h : Head) (before : List ℕ) (count : ℕ) (front rest behind lists : List ℕ) (more : List Pending) → WasOpen h before count → front ≡ take 18 before → rest ≡ drop 18 before → behind ≡ drop 2 rest → lists ≡ take (length behind - 1) behind → more ≡ drop (length h.pending - count) h.pending → front ++ (0 ∷ [] ++ (lists ++ list_spelling pending_entry None more)) ≡ head_bytes h
settled_written h before count front rest behind lists more was e1 e2 e3 e4 e5 = rw (e1, e4, e3, e2, e5) (settled_is h before count was)

-- ---- a head under way whose records are added

before_added : (old more : List Pending) → take (length (old ++ more) - length more) (old ++ more) ≡ old
before_added old more =
    let n : length (old ++ more) - length more ≡ length old = omega (arith, length-append old more) in
    ap (λ (n : ℕ). take n (old ++ more)) n ∙ take-append_seam old more

-- the bytes of the head under way are those that the settled head had before
pub was_open : (h : Head) (more : List Pending) (bytes : List ℕ) → head_of bytes ≡ Some h → h.phase ≡ Open (length more) → WasOpen (record h { phase = Settled; pending = h.pending ++ more }) bytes (length more)
was_open h more bytes is phase =
    let way : under_way (record h { phase = Settled; pending = h.pending ++ more }) (length more) ≡ h =
    ap (λ (p : List Pending). record h { phase = Open (length more); pending = p }) (before_added h.pending more)
    ∙ ap (λ (p : Phase). record h { phase = p }) (sym phase) in record {
      settled = refl;
      few = omega (arith, length-append h.pending more);
      spelled = is ∙ ap Some (sym way);
    }
