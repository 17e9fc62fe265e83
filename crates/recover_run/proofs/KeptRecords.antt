-- What is kept of the records that calls brought.
use Rattle.std.proofs.Common.{◌≡◌, ◌≢◌, ◌<◌, ◌≤◌, ◌+◌, ℕ, zero, suc, List, [], ◌∷◌, ◌++◌, length, take, Bool, true, false, cond, Option, Some, None, Result, Ok, Err, inl, inr, refl, ap, sym, subst, ◌∙◌, arith}
use Rattle.std.specs.Prelude.{map, filter, nat_lt, ◌==◌, slice_get}
use Rattle.std.specs.List.{AllByRecursion}
use Rattle.std.specs.declared.cmp.Ordering.{Ordering}
use Rattle.std.specs.declared.cmp.Ordering.TheVariants.{Less, Equal, Greater}
use Rattle.std.proofs.lemmas.Bool.Decides.{nat_tests}
use Rattle.std.proofs.lemmas.List.{append-nil, append_assoc}
use Rattle.log_codec.proofs.AtomicLaws.{atomic_of-some}
use Rattle.log_codec.specs.declared.record.AtomicRec.{AtomicRec}
use Rattle.log_codec.specs.Atomic.{atomic_of}
use Rattle.head_codec.specs.declared.head.Head.{Head}
use Rattle.head_codec.specs.declared.lists.Pending.{Pending}
use Rattle.head_codec.specs.Head.{next_head}
use Rattle.route_plan.specs.Record.{pending_of}
use Rattle.cloud_trait.specs.declared.answer.Answer.{Answer}
use Rattle.cloud_trait.specs.declared.message.Message.{Message}
use Rattle.cloud_trait.specs.Ask.{Ask}
use Rattle.recover_run.specs.declared.items.AtomicItem.{AtomicItem}
use Rattle.recover_run.specs.declared.wanted.Wanted.{Wanted}
use Rattle.recover_run.specs.Calls.{Calls, HoldsItem, Brought}
use Rattle.recover_run.specs.Gathering.{is_past, is_counted, kept_with}
use Rattle.recover_run.specs.Ids.{has_id, new_ids}
use Rattle.recover_run.specs.Items.{items_of, with_first, item_with, ids_of}
use Rattle.recover_run.specs.Kept.{with_item, placed}
use Rattle.recover_run.specs.Meaning.{AreNumbered, IsKeptRecord, head_behind}
use Rattle.recover_run.specs.Sending.{pending_with}
use Rattle.recover_run.proofs.Knows.{IsRising, IsNamed}

-- ---- lists

pub all_so : {A : Type 0} (P Q : A → Type 0) → ((x : A) → P x → Q x) → (xs : List A) → AllByRecursion P xs → AllByRecursion Q xs
all_so P Q f [] all = tt
all_so P Q f (x ∷ xs) all = (f x all.0, all_so P Q f xs all.1)

pub all_new : (P : ℕ → Type 0) (set ids : List ℕ) → AllByRecursion P ids → AllByRecursion P (new_ids set ids)
all_new P set [] all = tt
all_new P set (id ∷ ids) all = on (has_id set id) (all_new P set ids all.1) (all_new P (set ++ id ∷ []) ids all.1) where
  on : (b : Bool) → AllByRecursion P (new_ids set ids) → AllByRecursion P (new_ids (set ++ id ∷ []) ids)
      → AllByRecursion P (cond b (new_ids set ids) (id ∷ new_ids (set ++ id ∷ []) ids))
  on true same more = same
  on false same more = (all.0, more)

-- ---- what a receive brought

held_more : (m : Message) (ms : List Message) (o : Option AtomicRec) (rest : Result (List AtomicItem) Message) (items : List AtomicItem) → atomic_of m.bytes ≡ o
    → ((its : List AtomicItem) → rest ≡ Ok its → AllByRecursion (λ (x : AtomicItem). HoldsItem x ms) its)
    → with_first m o rest ≡ Ok items → AllByRecursion (λ (x : AtomicItem). HoldsItem x (m ∷ ms)) items
held_more m ms None rest items is more e = absurd (cc)
held_more m ms (Some rec) (Err bad) items is more e = absurd (cc)
held_more m ms (Some rec) (Ok its) items is more e =
    let same : item_with m.id rec ∷ its ≡ items = cc in
    subst (AllByRecursion (λ (x : AtomicItem). HoldsItem x (m ∷ ms))) same
    (inl (refl, is), all_so (λ (x : AtomicItem). HoldsItem x ms) (λ (x : AtomicItem). HoldsItem x (m ∷ ms)) (λ x h. inr h) its (more its refl))

pub all_held : (ms : List Message) (items : List AtomicItem) → items_of ms ≡ Ok items → AllByRecursion (λ (x : AtomicItem). HoldsItem x ms) items
all_held [] items e = let none : [] ≡ items = cc in subst (AllByRecursion (λ (x : AtomicItem). HoldsItem x [])) none tt
all_held (m ∷ ms) items e = held_more m ms (atomic_of m.bytes) (items_of ms) items refl (λ its is. all_held ms its is) e

held_index : (x : AtomicItem) (ms : List Message) → HoldsItem x ms → 1 ≤ x.rec.index
held_index x [] h = absurd h
held_index x (m ∷ ms) (inl h) = (atomic_of-some m.bytes x.rec h.1).0.position.some
held_index x (m ∷ ms) (inr h) = held_index x ms h

brought_index : (x : AtomicItem) (cs : Calls) → Brought x cs → 1 ≤ x.rec.index
brought_index x [] h = absurd h
brought_index x (c ∷ cs) (inl h) = held_index x h.0 h.2
brought_index x (c ∷ cs) (inr h) = brought_index x cs h

pub kept_more : (w : Wanted) (c : Ask × Answer) (cs : Calls) (kept : List AtomicItem) → AllByRecursion (IsKeptRecord w cs) kept → AllByRecursion (IsKeptRecord w (c ∷ cs)) kept
kept_more w c cs kept all = all_so (IsKeptRecord w cs) (IsKeptRecord w (c ∷ cs)) (λ x k. (k.0, inr k.1)) kept all

pub named_more : (test : AtomicRec → Bool) (c : Ask × Answer) (cs : Calls) (ids : List ℕ) → AllByRecursion (IsNamed test cs) ids → AllByRecursion (IsNamed test (c ∷ cs)) ids
named_more test c cs ids all = all_so (IsNamed test cs) (IsNamed test (c ∷ cs)) (λ id k. (k.0, k.1, k.2, inr k.3)) ids all

-- the ids of some of the items that were brought
pub named_ids : (test : AtomicRec → Bool) (cs : Calls) (items : List AtomicItem) → AllByRecursion (λ (x : AtomicItem). Brought x cs) items
    → AllByRecursion (IsNamed test cs) (ids_of (filter (λ (x : AtomicItem). test x.rec) items))
named_ids test cs [] all = tt
named_ids test cs (x ∷ items) all = on (test x.rec) refl (named_ids test cs items all.1) where
  on : (b : Bool) → test x.rec ≡ b → AllByRecursion (IsNamed test cs) (ids_of (filter (λ (y : AtomicItem). test y.rec) items))
      → AllByRecursion (IsNamed test cs) (ids_of (cond b (x ∷ filter (λ (y : AtomicItem). test y.rec) items) (filter (λ (y : AtomicItem). test y.rec) items)))
  on true e rest = ((x, refl, e, all.0), rest)
  on false e rest = rest

-- ---- the kept records

placed_all : (P : AtomicItem → Type 0) (x first : AtomicItem) (rest further : List AtomicItem) (o : Ordering) → P x → P first → AllByRecursion P rest → AllByRecursion P further
    → AllByRecursion P (placed o x first rest further)
placed_all P x first rest further Less here one all more = (here, (one, all))
placed_all P x first rest further Equal here one all more = (one, all)
placed_all P x first rest further Greater here one all more = (one, more)

pub with_item_all : (P : AtomicItem → Type 0) (kept : List AtomicItem) (x : AtomicItem) → AllByRecursion P kept → P x → AllByRecursion P (with_item kept x)
with_item_all P [] x all here = (here, tt)
with_item_all P (first ∷ rest) x all here = placed_all P x first rest (with_item rest x) _ here all.0 all.1 (with_item_all P rest x all.1 here)

below_true : (a b : ℕ) → nat_lt a b ≡ true → a < b
below_true a b e = grind (arith, nat_tests)

below_false : (a b : ℕ) → nat_lt a b ≡ false → b ≤ a
below_false a b e = grind (arith, nat_tests)

same_false : (a b : ℕ) → (a == b) ≡ false → a ≢ b
same_false a b e = grind (arith, nat_tests)

pub with_item_rising : (n : ℕ) (kept : List AtomicItem) (x : AtomicItem) → IsRising n kept → n ≤ x.rec.index → IsRising n (with_item kept x)
with_item_rising n [] x up from = (from, tt)
with_item_rising n (first ∷ rest) x up from =
    on (nat_lt x.rec.index first.rec.index) refl (x.rec.index == first.rec.index) refl (λ h. with_item_rising (first.rec.index + 1) rest x up.1 h)
  where
    on : (l : Bool) → nat_lt x.rec.index first.rec.index ≡ l → (s : Bool) → (x.rec.index == first.rec.index) ≡ s
        → (first.rec.index + 1 ≤ x.rec.index → IsRising (first.rec.index + 1) (with_item rest x))
        → IsRising n (placed (cond l Less (cond s Equal Greater)) x first rest (with_item rest x))
    on true e s f further = let less : x.rec.index < first.rec.index = below_true _ _ e in (from, (omega (arith, less), up.1))
    on false e true f further = up
    on false e false f further =
        let least : first.rec.index ≤ x.rec.index = below_false _ _ e in
        let other : x.rec.index ≢ first.rec.index = same_false _ _ f in
        (up.0, further (omega (arith, least, other)))

pub kept_all : (w : Wanted) (cs : Calls) (kept items : List AtomicItem) → AllByRecursion (IsKeptRecord w cs) kept → AllByRecursion (λ (x : AtomicItem). Brought x cs) items
    → AllByRecursion (IsKeptRecord w cs) (kept_with w kept items)
kept_all w cs kept [] all brought = all
kept_all w cs kept (x ∷ items) all brought =
    on (is_counted w x.rec) refl (λ more. kept_all w cs (with_item kept x) items more brought.1) (kept_all w cs kept items all brought.1)
  where
    on : (b : Bool) → is_counted w x.rec ≡ b
        → (AllByRecursion (IsKeptRecord w cs) (with_item kept x) → AllByRecursion (IsKeptRecord w cs) (kept_with w (with_item kept x) items))
        → AllByRecursion (IsKeptRecord w cs) (kept_with w kept items)
        → AllByRecursion (IsKeptRecord w cs) (kept_with w (cond b (with_item kept x) kept) items)
    on true e more same = more (with_item_all (IsKeptRecord w cs) kept x all (e, brought.0))
    on false e more same = same

pub kept_rising : (w : Wanted) (cs : Calls) (kept items : List AtomicItem) → IsRising 1 kept → AllByRecursion (λ (x : AtomicItem). Brought x cs) items → IsRising 1 (kept_with w kept items)
kept_rising w cs kept [] up brought = up
kept_rising w cs kept (x ∷ items) up brought =
    on (is_counted w x.rec) (kept_rising w cs (with_item kept x) items (with_item_rising 1 kept x up (brought_index x cs brought.0)) brought.1)
    (kept_rising w cs kept items up brought.1)
  where
    on : (b : Bool) → IsRising 1 (kept_with w (with_item kept x) items) → IsRising 1 (kept_with w kept items)
        → IsRising 1 (kept_with w (cond b (with_item kept x) kept) items)
    on true more same = more
    on false more same = same

-- a record that the head counts is of its epoch, and has an index of at most its count
counted_past : (w : Wanted) (r : AtomicRec) → is_counted w r ≡ true → is_past w r ≡ true
counted_past w r e = grind (arith, nat_tests)

counted_index : (w : Wanted) (r : AtomicRec) → is_counted w r ≡ true → r.index ≤ w.count
counted_index w r e = grind (arith, nat_tests)

pub kept_named : (w : Wanted) (cs : Calls) (kept : List AtomicItem) → AllByRecursion (IsKeptRecord w cs) kept → AllByRecursion (IsNamed (is_past w) cs) (ids_of kept)
kept_named w cs [] all = tt
kept_named w cs (x ∷ kept) all = ((x, refl, counted_past w x.rec all.0.0, all.0.1), kept_named w cs kept all.1)

-- strictly ascending numbers up to a bound, as many as there are: each follows the one before it
pub rising_room : (w : Wanted) (cs : Calls) (n : ℕ) (kept : List AtomicItem) → IsRising n kept → AllByRecursion (IsKeptRecord w cs) kept → n ≤ w.count + 1 → n + length kept ≤ w.count + 1
rising_room w cs n [] up all within = omega (arith, within)
rising_room w cs n (x ∷ kept) up all within =
    let last : x.rec.index ≤ w.count = counted_index w x.rec all.0.0 in
    let more : x.rec.index + 1 + length kept ≤ w.count + 1 = rising_room w cs (x.rec.index + 1) kept up.1 all.1 (omega (arith, last)) in
    omega (arith, more, up.0)

rising_numbered : (w : Wanted) (cs : Calls) (n : ℕ) (kept : List AtomicItem) → IsRising n kept → AllByRecursion (IsKeptRecord w cs) kept → n + length kept ≡ w.count + 1 → AreNumbered n kept
rising_numbered w cs n [] up all full = tt
rising_numbered w cs n (x ∷ kept) up all full =
    let last : x.rec.index ≤ w.count = counted_index w x.rec all.0.0 in
    let more : x.rec.index + 1 + length kept ≤ w.count + 1 = rising_room w cs (x.rec.index + 1) kept up.1 all.1 (omega (arith, last)) in
    let here : x.rec.index ≡ n = omega (arith, more, up.0, full) in
    (here, rising_numbered w cs (n + 1) kept (subst (λ k. IsRising (k + 1) kept) here up.1) all.1 (omega (arith, full)))

pub kept_numbered : (w : Wanted) (cs : Calls) (kept : List AtomicItem) → IsRising 1 kept → AllByRecursion (IsKeptRecord w cs) kept → length kept ≡ w.count → AreNumbered 1 kept
kept_numbered w cs kept up all whole = rising_numbered w cs 1 kept up all (omega (arith, whole))

-- ---- sends

take_next : {X : Type 0} (xs : List X) (k : ℕ) (x : X) → slice_get xs k ≡ Some x → take (suc k) xs ≡ take k xs ++ x ∷ []
take_next [] k x e = absurd (cc)
take_next (y ∷ ys) zero x e = let same : y ≡ x = cc in ap (λ z. z ∷ []) same
take_next (y ∷ ys) (suc k) x e = ap (λ zs. y ∷ zs) (take_next ys k x e)

pub take_more : {X : Type 0} (xs : List X) (k : ℕ) (x : X) → slice_get xs k ≡ Some x → take (k + 1) xs ≡ take k xs ++ x ∷ []
take_more xs k x e = let n : k + 1 ≡ suc k = omega arith in ap (λ m. take m xs) n ∙ take_next xs k x e

abbrev pub entries_of : List AtomicItem → List Pending
entries_of kept = map pending_of (map (λ (x : AtomicItem). x.rec) kept)

entries_more : (kept : List AtomicItem) (x : AtomicItem) → entries_of (kept ++ x ∷ []) ≡ entries_of kept ++ pending_of x.rec ∷ []
entries_more [] x = refl
entries_more (y ∷ kept) x = ap (λ l. pending_of y.rec ∷ l) (entries_more kept x)

pub pending_more : (h : Head) (kept : List AtomicItem) (x : AtomicItem) → pending_with (head_behind h kept) x.rec ≡ head_behind h (kept ++ x ∷ [])
pending_more h kept x =
    ap (λ (l : List Pending). record (next_head h) { pending = l })
    (append_assoc h.pending (entries_of kept) (pending_of x.rec ∷ []) ∙ ap (λ l. h.pending ++ l) (sym (entries_more kept x)))

pub pending_none : (h : Head) → next_head h ≡ head_behind h []
pending_none h = ap (λ (l : List Pending). record (next_head h) { pending = l }) (sym (append-nil h.pending))
