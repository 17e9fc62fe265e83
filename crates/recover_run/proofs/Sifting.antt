-- What a recovery knows of its queue while it gathers: every lost record that it saw is deleted, and nothing that it wants.
use Rattle.std.proofs.Common.{◌≡◌, ◌≤◌, ◌+◌, ◌++◌, ℕ, List, [], ◌∷◌, length, take, Bool, true, false, cond, not, ◌||◌, ◌&&◌, Some, Ok, inl, inr, refl, ap, sym, subst, ◌∙◌, arith}
use Rattle.std.specs.Prelude.{◌==◌, nat_le, filter, IsPermutation}
use Rattle.std.specs.List.{AllByRecursion, list_any}
use Rattle.std.proofs.lemmas.Bool.Decides.{nat_tests}
use Rattle.std.proofs.lemmas.List.{append_assoc, take_all}
use Rattle.std.proofs.lemmas.List.Elements.{All-from_recursion, recursion_from_All}
use Rattle.std.proofs.lemmas.List.Sorted.{All-permutation, IsPermutation-sym, list_any-IsPermutation}
use Rattle.head_codec.proofs.Keeping.{AllByRecursion-append}
use Rattle.log_codec.specs.declared.record.AtomicRec.{AtomicRec}
use Rattle.log_codec.specs.Atomic.{atomic_of}
use Rattle.cloud_trait.specs.declared.answer.Answer.TheVariants.{Received}
use Rattle.cloud_trait.specs.declared.message.Message.{Message}
use Rattle.cloud_trait.specs.declared.state.Posted.{Posted}
use Rattle.cloud_trait.specs.Ask.{Ask}
use Rattle.cloud_trait.specs.Delivery.{WasSent, unmarked, IsDelivering}
use Rattle.cloud_trait.specs.State.{marked, message_at}
use Rattle.recover_run.specs.declared.items.AtomicItem.{AtomicItem}
use Rattle.recover_run.specs.declared.wanted.Wanted.{Wanted}
use Rattle.recover_run.specs.Calls.{Calls, Brought, HoldsItem}
use Rattle.recover_run.specs.Emptying.{IsUptoEpoch}
use Rattle.recover_run.specs.Gathering.{Gathered, gathered_with, is_of, is_past, is_lost, kept_with, lost_ids, lost_now}
use Rattle.recover_run.specs.Ids.{has_id, new_ids}
use Rattle.recover_run.specs.Items.{items_of, item_with, ids_of}
use Rattle.recover_run.specs.Meaning.{IsKeptRecord}
use Rattle.recover_run.specs.Missing.{IsComplete, is_of_head, is_of_some, is_indexed, is_indexed_some}
use Rattle.recover_run.proofs.Finding.{marked_message, unmarked_sent, items_all, messages_all, indexed_items, kept_with_has, rising_full, many_pass, others_any, others_fewer}
use Rattle.recover_run.proofs.KeptRecords.{all_so, all_new, all_held, kept_more, kept_all, kept_rising, rising_room}
use Rattle.recover_run.proofs.Knows.{IsRising}
use Rattle.recover_run.proofs.Marks.{IsGone, marked_leaves, marked_all, none_gone, brought_all}
use Rattle.recover_run.proofs.Sweeping.{IsHandled, all_has, none_new, each_has, deletes_first, handled_ids}

-- under an id a lost record was sent
abbrev pub IsLostAt : Wanted → List Posted → ℕ → Type 0
IsLostAt w ms id = (rec : AtomicRec) × (bytes : List ℕ) × (message_at ms id ≡ Some bytes) × (atomic_of bytes ≡ Some rec) × (is_lost w rec ≡ true)

-- of the lost records that were seen those with these ids are still to be deleted, and the others are
pub record HasSeen (w : Wanted) (ms : List Posted) (ids : List ℕ) (g : Gathered) : Type 0 where
  pub handled : AllByRecursion (IsHandled ms ids) g.lost
  pub seen : AllByRecursion (λ id. IsLostAt w ms id → has_id g.lost id ≡ true) g.seen
  pub named : AllByRecursion (IsLostAt w ms) ids

lost_of : (w : Wanted) (r : AtomicRec) → is_lost w r ≡ true → is_of w r ≡ false
lost_of w r e = on (is_past w r) (is_of w r) e where
  on : (p o : Bool) → (p && not o) ≡ true → o ≡ false
  on true true e = absurd (cc)
  on true false e = refl
  on false true e = absurd (cc)
  on false false e = refl

-- ---- a deletion

lost_not : (w : Wanted) (n : ℕ) (ms : List Posted) (id : ℕ) (m : Message) → IsLostAt w ms id → WasSent ms m → m.id ≡ id → is_indexed w n m ≡ false
lost_not w n ms id m (rec, bytes, at, is, lost) sent same =
    let here : message_at ms id ≡ Some m.bytes = subst (λ k. message_at ms k ≡ Some m.bytes) same sent in
    let one : bytes ≡ m.bytes = (let both : Some bytes ≡ Some m.bytes = sym at ∙ here in cc) in
    let spelled : atomic_of m.bytes ≡ Some rec = subst (λ bs. atomic_of bs ≡ Some rec) one is in
    let other : is_of w rec ≡ false = lost_of w rec lost in
    ap (is_indexed_some w n) spelled ∙ rw other refl

all_not : (w : Wanted) (n : ℕ) (ms : List Posted) (id : ℕ) (xs : List Message) → IsLostAt w ms id → AllByRecursion (WasSent ms) xs
    → AllByRecursion (λ (m : Message). m.id ≡ id → is_indexed w n m ≡ false) xs
all_not w n ms id [] lost sent = tt
all_not w n ms id (m ∷ xs) lost sent = (λ same. lost_not w n ms id m lost sent.0 same, all_not w n ms id xs lost sent.1)

-- the deletion of a lost record leaves none missing
pub deleted_complete : (w : Wanted) (ms : List Posted) (id : ℕ) → IsLostAt w ms id → IsComplete w ms → IsComplete w (marked ms id)
deleted_complete w ms id lost c = record {
  each = λ n some within.
      ap (list_any (is_indexed w n)) (marked_leaves ms id)
      ∙ others_any (is_indexed w n) id (unmarked ms) (all_not w n ms id (unmarked ms) lost (unmarked_sent ms)) (c.each n some within);
  past = marked_all (IsUptoEpoch w.epoch) ms id c.past;
  few = omega (arith, c.few, others_fewer (is_of_head w) id (unmarked ms), ap (λ l. length (filter (is_of_head w) l)) (marked_leaves ms id));
}

lost_marked : (w : Wanted) (ms : List Posted) (id k : ℕ) → IsLostAt w ms k → IsLostAt w (marked ms id) k
lost_marked w ms id k (rec, bytes, at, is, lost) = (rec, bytes, marked_message ms id k ∙ at, is, lost)

lost_unmarked : (w : Wanted) (ms : List Posted) (id k : ℕ) → IsLostAt w (marked ms id) k → IsLostAt w ms k
lost_unmarked w ms id k (rec, bytes, at, is, lost) = (rec, bytes, sym (marked_message ms id k) ∙ at, is, lost)

pub all_ids : (P Q : ℕ → Type 0) → ((x : ℕ) → P x → Q x) → (xs : List ℕ) → AllByRecursion P xs → AllByRecursion Q xs
all_ids P Q f [] all = tt
all_ids P Q f (x ∷ xs) all = (f x all.0, all_ids P Q f xs all.1)

pub deleted_seen : (w : Wanted) (ms : List Posted) (id : ℕ) (ids : List ℕ) (g : Gathered) → HasSeen w ms (id ∷ ids) g → HasSeen w (marked ms id) ids g
deleted_seen w ms id ids g k = record {
  handled = deletes_first ms id ids g.lost k.handled;
  seen = all_ids _ _ (λ x f lost. f (lost_unmarked w ms id x lost)) g.seen k.seen;
  named = all_ids _ _ (λ x lost. lost_marked w ms id x lost) ids k.named.1;
}

-- ---- a receive

-- what is known of a record that a receive brought
abbrev IsBrought : Wanted → List Posted → AtomicItem → Type 0
IsBrought w ms x = ((bytes : List ℕ) × (message_at ms x.id ≡ Some bytes) × (atomic_of bytes ≡ Some x.rec)) × (IsGone ms x.id → ⊥) × (x.rec.epoch ≤ w.epoch)

all_brought : (w : Wanted) (ms : List Posted) (xs : List Message) → AllByRecursion (WasSent ms) xs → AllByRecursion (λ (m : Message). IsGone ms m.id → ⊥) xs
    → AllByRecursion (IsUptoEpoch w.epoch) xs → AllByRecursion (λ (m : Message). (rec : AtomicRec) → atomic_of m.bytes ≡ Some rec → IsBrought w ms (item_with m.id rec)) xs
all_brought w ms [] sent here past = tt
all_brought w ms (m ∷ xs) sent here past = (λ rec is. ((m.bytes, sent.0, is), here.0, past.0 rec is), all_brought w ms xs sent.1 here.1 past.1)

items_brought : (w : Wanted) (ms : List Posted) (answer : List Message) (items : List AtomicItem) → items_of answer ≡ Ok items → IsDelivering ms 256 answer
    → IsComplete w ms → AllByRecursion (IsBrought w ms) items
items_brought w ms answer items e is c =
    items_all (IsBrought w ms) answer items e
    (all_brought w ms answer (brought_all (WasSent ms) ms 256 answer is (unmarked_sent ms)) (brought_all _ ms 256 answer is (none_gone ms))
    (brought_all (IsUptoEpoch w.epoch) ms 256 answer is c.past))

lost_at : (w : Wanted) (ms : List Posted) (x : AtomicItem) → IsBrought w ms x → is_lost w x.rec ≡ true → IsLostAt w ms x.id
lost_at w ms x b lost = (x.rec, b.0.0, b.0.1, b.0.2, lost)

-- the ids of the lost ones
ids_lost : (w : Wanted) (ms : List Posted) (items : List AtomicItem) → AllByRecursion (IsBrought w ms) items → AllByRecursion (IsLostAt w ms) (lost_ids w items)
ids_lost w ms [] all = tt
ids_lost w ms (x ∷ items) all = on (is_lost w x.rec) refl (ids_lost w ms items all.1) where
  on : (b : Bool) → is_lost w x.rec ≡ b → AllByRecursion (IsLostAt w ms) (lost_ids w items)
      → AllByRecursion (IsLostAt w ms) (ids_of (cond b (x ∷ filter (λ (y : AtomicItem). is_lost w y.rec) items) (filter (λ (y : AtomicItem). is_lost w y.rec) items)))
  on true e rest = (lost_at w ms x all.0 e, rest)
  on false e rest = rest

-- what holds of the ids of the lost ones holds of each that is lost
each_lost : (w : Wanted) (ms : List Posted) (P : ℕ → Type 0) (items : List AtomicItem) → AllByRecursion (IsBrought w ms) items → AllByRecursion P (lost_ids w items)
    → AllByRecursion (λ id. IsLostAt w ms id → P id) (ids_of items)
each_lost w ms P [] all held = tt
each_lost w ms P (x ∷ items) all held = on (is_lost w x.rec) refl held (λ h. each_lost w ms P items all.1 h) where
  same_rec : IsLostAt w ms x.id → is_lost w x.rec ≡ true
  same_rec (rec, bytes, at, is, lost) =
      let one : all.0.0.0 ≡ bytes = (let both : Some all.0.0.0 ≡ Some bytes = sym all.0.0.1 ∙ at in cc) in
      let spelled : Some x.rec ≡ Some rec = sym all.0.0.2 ∙ (ap atomic_of one ∙ is) in
      let same : rec ≡ x.rec = cc in
      subst (λ r. is_lost w r ≡ true) same lost

  on : (b : Bool) → is_lost w x.rec ≡ b
      → AllByRecursion P (ids_of (cond b (x ∷ filter (λ (y : AtomicItem). is_lost w y.rec) items) (filter (λ (y : AtomicItem). is_lost w y.rec) items)))
      → (AllByRecursion P (lost_ids w items) → AllByRecursion (λ id. IsLostAt w ms id → P id) (ids_of items))
      → AllByRecursion (λ id. IsLostAt w ms id → P id) (ids_of (x ∷ items))
  on true e held rest = (λ lost. held.0, rest held.1)
  on false e held rest = (λ lost. let is : is_lost w x.rec ≡ true = same_rec lost in absurd (cc), rest held)

has_left : (xs ys : List ℕ) (id : ℕ) → has_id xs id ≡ true → has_id (xs ++ ys) id ≡ true
has_left [] ys id e = absurd (cc)
has_left (x ∷ xs) ys id e = on (x == id) e (λ h. has_left xs ys id h) where
  on : (b : Bool) → (b || has_id xs id) ≡ true → (has_id xs id ≡ true → has_id (xs ++ ys) id ≡ true) → (b || has_id (xs ++ ys) id) ≡ true
  on true e rest = refl
  on false e rest = rest e

has_last : (xs : List ℕ) (id : ℕ) → has_id (xs ++ id ∷ []) id ≡ true
has_last [] id = let same : (id == id) ≡ true = grind (arith, nat_tests) in rw same refl
has_last (x ∷ xs) id = on (x == id) (has_last xs id) where
  on : (b : Bool) → has_id (xs ++ id ∷ []) id ≡ true → (b || has_id (xs ++ id ∷ []) id) ≡ true
  on true e = refl
  on false e = e

-- a set with the new ids has each
with_new : (set ids : List ℕ) → AllByRecursion (λ id. has_id (set ++ new_ids set ids) id ≡ true) ids
with_new set [] = tt
with_new set (id ∷ ids) = on (has_id set id) refl (with_new set ids) (with_new (set ++ id ∷ []) ids) where
  on : (b : Bool) → has_id set id ≡ b → AllByRecursion (λ x. has_id (set ++ new_ids set ids) x ≡ true) ids
      → AllByRecursion (λ x. has_id ((set ++ id ∷ []) ++ new_ids (set ++ id ∷ []) ids) x ≡ true) ids
      → AllByRecursion (λ x. has_id (set ++ cond b (new_ids set ids) (id ∷ new_ids (set ++ id ∷ []) ids)) x ≡ true) (id ∷ ids)
  on true has same more = (has_left set (new_ids set ids) id has, same)
  on false has same more =
      let one : (set ++ id ∷ []) ++ new_ids (set ++ id ∷ []) ids ≡ set ++ id ∷ new_ids (set ++ id ∷ []) ids = append_assoc set (id ∷ []) (new_ids (set ++ id ∷ []) ids) in
      subst (λ l. AllByRecursion (λ x. has_id l x ≡ true) (id ∷ ids)) one
      (has_left (set ++ id ∷ []) (new_ids (set ++ id ∷ []) ids) id (has_last set id), more)

pub received_seen : (w : Wanted) (ms : List Posted) (g : Gathered) (answer : List Message) (items : List AtomicItem) → items_of answer ≡ Ok items → IsDelivering ms 256 answer
    → IsComplete w ms → HasSeen w ms [] g → HasSeen w ms (lost_now w g items) (gathered_with w g items)
received_seen w ms g answer items e is c k =
    let all : AllByRecursion (IsBrought w ms) items = items_brought w ms answer items e is c in
    let now : List ℕ = lost_now w g items in
    let after : List ℕ = g.lost ++ now in
    record {
      handled =
          AllByRecursion-append (IsHandled ms now) g.lost now
          (all_ids (IsHandled ms []) (IsHandled ms now) (λ x h. elim h [ inl has ↦ absurd (cc) | inr gone ↦ inr gone ]) g.lost k.handled)
          (handled_ids ms now now (each_has now));
      seen =
          AllByRecursion-append (λ id. IsLostAt w ms id → has_id after id ≡ true) g.seen (new_ids g.seen (ids_of items))
          (all_ids _ _ (λ x f lost. has_left g.lost now x (f lost)) g.seen k.seen)
          (all_new (λ id. IsLostAt w ms id → has_id after id ≡ true) g.seen (ids_of items)
          (each_lost w ms (λ id. has_id after id ≡ true) items all (with_new g.lost (lost_ids w items))));
      named = all_new (IsLostAt w ms) g.lost (lost_ids w items) (ids_lost w ms items all);
    }

-- of a receive that brings nothing new each record is of the head's transaction
not_lost : (w : Wanted) (r : AtomicRec) → r.epoch ≤ w.epoch → is_of w r ≡ false → is_lost w r ≡ true
not_lost w r past other = let before : is_past w r ≡ true = grind (arith, nat_tests, past) in rw before (rw other refl)

seen_of : (w : Wanted) (ms : List Posted) (g : Gathered) → HasSeen w ms [] g → (items : List AtomicItem) → AllByRecursion (IsBrought w ms) items
    → AllByRecursion (λ id. has_id g.seen id ≡ true) (ids_of items) → AllByRecursion (λ (x : AtomicItem). is_of w x.rec ≡ true) items
seen_of w ms g k [] all seen = tt
seen_of w ms g k (x ∷ items) all seen = (on (is_of w x.rec) refl, seen_of w ms g k items all.1 seen.1) where
  on : (b : Bool) → is_of w x.rec ≡ b → b ≡ true
  on true e = refl
  on false e =
      let lost : IsLostAt w ms x.id = lost_at w ms x all.0 (not_lost w x.rec all.0.2 e) in
      let has : has_id g.lost x.id ≡ true = all_has (λ id. IsLostAt w ms id → has_id g.lost id ≡ true) g.seen x.id k.seen seen.0 lost in
      absurd (elim (all_has (IsHandled ms []) g.lost x.id k.handled has) [ inl none ↦ absurd (cc) | inr gone ↦ all.0.1 gone ])

short : (w : Wanted) (ms : List Posted) → IsComplete w ms → AllByRecursion (λ (m : Message). is_of_head w m ≡ true) (take 256 (unmarked ms)) → length (unmarked ms) ≤ 255
short w ms c all = on (nat_le 256 (length (unmarked ms))) refl where
  on : (b : Bool) → nat_le 256 (length (unmarked ms)) ≡ b → length (unmarked ms) ≤ 255
  on true e =
      let long : 256 ≤ length (unmarked ms) = grind (arith, nat_tests, e) in
      let many : 256 ≤ length (filter (is_of_head w) (unmarked ms)) = many_pass (is_of_head w) 256 (unmarked ms) long all in
      absurd (omega (arith, many, c.few))
  on false e = grind (arith, nat_tests, e)

-- so it brings all messages, and every record that the head counts is kept
pub seen_whole : (w : Wanted) (ms : List Posted) (g : Gathered) (answer : List Message) (items : List AtomicItem) (cs : Calls) (ask : Ask) → items_of answer ≡ Ok items
    → IsDelivering ms 256 answer → IsComplete w ms → HasSeen w ms [] g → AllByRecursion (IsKeptRecord w cs) g.kept → IsRising 1 g.kept
    → new_ids g.seen (ids_of items) ≡ [] → length (kept_with w g.kept items) ≡ w.count
seen_whole w ms g answer items cs ask e is c k kept up none =
    let seen : AllByRecursion (λ id. has_id g.seen id ≡ true) (ids_of items) = none_new g.seen (ids_of items) none in
    let of : AllByRecursion (λ (x : AtomicItem). is_of w x.rec ≡ true) items = seen_of w ms g k items (items_brought w ms answer items e is c) seen in
    let all : AllByRecursion (λ (m : Message). is_of_head w m ≡ true) answer =
    messages_all (λ (x : AtomicItem). is_of w x.rec ≡ true) (λ (m : Message). is_of_head w m ≡ true) (λ m rec spelled h. ap (is_of_some w) spelled ∙ h) answer items e of in
    let taken : AllByRecursion (λ (m : Message). is_of_head w m ≡ true) (take 256 (unmarked ms)) =
    recursion_from_All (λ (m : Message). is_of_head w m ≡ true) (take 256 (unmarked ms))
    (All-permutation (λ (m : Message). is_of_head w m ≡ true) answer (take 256 (unmarked ms)) (IsPermutation-sym (take 256 (unmarked ms)) answer is)
    (All-from_recursion (λ (m : Message). is_of_head w m ≡ true) answer all)) in
    let few : length (unmarked ms) ≤ 255 = short w ms c taken in
    let perm : IsPermutation (unmarked ms) answer = subst (λ l. IsPermutation l answer) (take_all 256 (unmarked ms) (omega (arith, few))) is in
    let now : Calls = (ask, Received answer) ∷ cs in
    let brought : AllByRecursion (λ (x : AtomicItem). Brought x now) items =
    all_so (λ (x : AtomicItem). HoldsItem x answer) (λ (x : AtomicItem). Brought x now) (λ x h. inl (answer, refl, h)) items (all_held answer items e) in
    let more : AllByRecursion (IsKeptRecord w now) (kept_with w g.kept items) = kept_all w now g.kept items (kept_more w (ask, Received answer) cs g.kept kept) brought in
    let rising : IsRising 1 (kept_with w g.kept items) = kept_rising w now g.kept items up brought in
    let room : 1 + length (kept_with w g.kept items) ≤ w.count + 1 = rising_room w now 1 (kept_with w g.kept items) rising more (omega arith) in
    let full : w.count + 1 ≤ 1 + length (kept_with w g.kept items) =
    rising_full w.count 1 (kept_with w g.kept items) rising
    (λ n some within. kept_with_has w n g.kept items within
    (inr (sym (indexed_items w n answer items e) ∙ (sym (list_any-IsPermutation (is_indexed w n) (unmarked ms) answer perm) ∙ c.each n some within)))) in
    omega (arith, room, full)
