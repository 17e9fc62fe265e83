-- What is found among messages and among the records that are kept of them.
use Rattle.std.proofs.Common.{◌≡◌, ◌≢◌, ◌<◌, ◌≤◌, ◌⊎◌, ◌+◌, ◌-◌, ℕ, zero, suc, List, [], ◌∷◌, length, take, Bool, true, false, cond, not, ◌||◌, ◌&&◌, Option, Some, None, Result, Ok, Err, inl, inr, refl, ap, sym, subst, ◌∙◌, arith}
use Rattle.std.specs.Prelude.{◌==◌, nat_le, nat_lt, filter, slice_get}
use Rattle.std.specs.List.{AllByRecursion, list_any}
use Rattle.std.specs.Option.{option_map}
use Rattle.std.specs.declared.cmp.Ordering.{Ordering}
use Rattle.std.specs.declared.cmp.Ordering.TheVariants.{Less, Equal, Greater}
use Rattle.std.proofs.lemmas.Bool.Decides.{nat_tests}
use Rattle.log_codec.specs.declared.record.AtomicRec.{AtomicRec}
use Rattle.log_codec.specs.Atomic.{atomic_of}
use Rattle.cloud_trait.specs.declared.message.Message.{Message}
use Rattle.cloud_trait.specs.declared.state.Posted.{Posted}
use Rattle.cloud_trait.specs.Delivery.{WasSent, unmarked, unmarked_from}
use Rattle.cloud_trait.specs.State.{mark_at, marked, message_at}
use Rattle.recover_run.specs.declared.items.AtomicItem.{AtomicItem}
use Rattle.recover_run.specs.declared.wanted.Wanted.{Wanted}
use Rattle.recover_run.specs.Gathering.{is_of, is_counted, kept_with}
use Rattle.recover_run.specs.Items.{items_of, item_with, with_first}
use Rattle.recover_run.specs.Kept.{with_item, placed}
use Rattle.recover_run.specs.Missing.{is_indexed, is_indexed_some}
use Rattle.recover_run.proofs.Knows.{IsRising}
use Rattle.recover_run.proofs.Marks.{others}

nat_same : (a b : ℕ) → (a == b) ≡ true → a ≡ b
nat_same a b e = grind (arith, nat_tests)

nat_true : (a b : ℕ) → a ≡ b → (a == b) ≡ true
nat_true a b e = grind (arith, nat_tests)

nat_false : (a b : ℕ) → a ≢ b → (a == b) ≡ false
nat_false a b e = grind (arith, nat_tests)

-- ---- the messages of a queue by their ids

-- the bytes of the message at a place
abbrev bytes_at : List Posted → ℕ → Option (List ℕ)
bytes_at ms i = option_map (λ (m : Posted). m.bytes) (slice_get ms i)

mark_at_bytes : (ms : List Posted) (i j : ℕ) → bytes_at (mark_at ms i) j ≡ bytes_at ms j
mark_at_bytes [] i j = refl
mark_at_bytes (m ∷ ms) zero zero = refl
mark_at_bytes (m ∷ ms) zero (suc j) = refl
mark_at_bytes (m ∷ ms) (suc i) zero = refl
mark_at_bytes (m ∷ ms) (suc i) (suc j) = mark_at_bytes ms i j

-- a deletion leaves the bytes of each message
pub marked_message : (ms : List Posted) (id k : ℕ) → message_at (marked ms id) k ≡ message_at ms k
marked_message ms id k = on (id == 0) where
  on : (b : Bool) → message_at (cond b ms (mark_at ms (id - 1))) k ≡ message_at ms k
  on true = refl
  on false = ap (λ o. cond (k == 0) None o) (mark_at_bytes ms (id - 1) (k - 1))

sent_from : (all ms : List Posted) (k : ℕ) → ((j : ℕ) → message_at all (k + 1 + j) ≡ bytes_at ms j) → AllByRecursion (WasSent all) (unmarked_from (k + 1) ms)
sent_from all [] k f = tt
sent_from all (m ∷ ms) k f =
    on m.deleted
    (ap (message_at all) (omega arith) ∙ f 0)
    (sent_from all ms (k + 1) (λ j. let e : k + 1 + 1 + j ≡ k + 1 + suc j = omega arith in ap (message_at all) e ∙ f (suc j)))
  where
    on : (b : Bool) → message_at all (k + 1) ≡ Some m.bytes → AllByRecursion (WasSent all) (unmarked_from (k + 1 + 1) ms)
        → AllByRecursion (WasSent all) (cond b (unmarked_from (k + 1 + 1) ms) (record { id = k + 1; bytes = m.bytes } ∷ unmarked_from (k + 1 + 1) ms))
    on true here rest = rest
    on false here rest = (here, rest)

-- each message that is not deleted was sent
pub unmarked_sent : (ms : List Posted) → AllByRecursion (WasSent ms) (unmarked ms)
unmarked_sent ms = sent_from ms ms 0 at where
  at : (j : ℕ) → message_at ms (0 + 1 + j) ≡ bytes_at ms j
  at j =
      let some : (0 + 1 + j == 0) ≡ false = nat_false (0 + 1 + j) 0 (λ e. omega (arith, e)) in
      let less : 0 + 1 + j - 1 ≡ j = omega arith in
      ap (λ b. cond b None (bytes_at ms (0 + 1 + j - 1))) some ∙ ap (bytes_at ms) less

-- ---- the records of messages

pub items_all : (P : AtomicItem → Type 0) (ms : List Message) (items : List AtomicItem) → items_of ms ≡ Ok items
    → AllByRecursion (λ (m : Message). (rec : AtomicRec) → atomic_of m.bytes ≡ Some rec → P (item_with m.id rec)) ms → AllByRecursion P items
items_all P [] items e all = let none : [] ≡ items = cc in subst (AllByRecursion P) none tt
items_all P (m ∷ ms) items e all = read (atomic_of m.bytes) (items_of ms) refl (λ its is. items_all P ms its is all.1) e where
  read : (o : Option AtomicRec) (rest : Result (List AtomicItem) Message) → atomic_of m.bytes ≡ o → ((its : List AtomicItem) → rest ≡ Ok its → AllByRecursion P its)
      → with_first m o rest ≡ Ok items → AllByRecursion P items
  read None rest is more e = absurd (cc)
  read (Some rec) (Err bad) is more e = absurd (cc)
  read (Some rec) (Ok its) is more e = let same : item_with m.id rec ∷ its ≡ items = cc in subst (AllByRecursion P) same (all.0 rec is, more its refl)

pub messages_all : (Q : AtomicItem → Type 0) (P : Message → Type 0) → ((m : Message) (rec : AtomicRec) → atomic_of m.bytes ≡ Some rec → Q (item_with m.id rec) → P m)
    → (ms : List Message) (items : List AtomicItem) → items_of ms ≡ Ok items → AllByRecursion Q items → AllByRecursion P ms
messages_all Q P f [] items e all = tt
messages_all Q P f (m ∷ ms) items e all = read (atomic_of m.bytes) (items_of ms) refl (λ its is h. messages_all Q P f ms its is h) e where
  read : (o : Option AtomicRec) (rest : Result (List AtomicItem) Message) → atomic_of m.bytes ≡ o
      → ((its : List AtomicItem) → rest ≡ Ok its → AllByRecursion Q its → AllByRecursion P ms)
      → with_first m o rest ≡ Ok items → AllByRecursion P (m ∷ ms)
  read None rest is more e = absurd (cc)
  read (Some rec) (Err bad) is more e = absurd (cc)
  read (Some rec) (Ok its) is more e =
      let same : items ≡ item_with m.id rec ∷ its = cc in
      let each : AllByRecursion Q (item_with m.id rec ∷ its) = subst (AllByRecursion Q) same all in
      (f m rec is each.0, more its refl each.1)

-- whether a record is one of the head's transaction with this index
abbrev pub item_indexed : Wanted → ℕ → AtomicItem → Bool
item_indexed w n x = is_of w x.rec && (x.rec.index == n)

pub indexed_items : (w : Wanted) (n : ℕ) (ms : List Message) (items : List AtomicItem) → items_of ms ≡ Ok items
    → list_any (is_indexed w n) ms ≡ list_any (item_indexed w n) items
indexed_items w n [] items e = let none : [] ≡ items = cc in ap (λ its. list_any (item_indexed w n) its) none
indexed_items w n (m ∷ ms) items e = read (atomic_of m.bytes) (items_of ms) refl (λ its is. indexed_items w n ms its is) e where
  read : (o : Option AtomicRec) (rest : Result (List AtomicItem) Message) → atomic_of m.bytes ≡ o
      → ((its : List AtomicItem) → rest ≡ Ok its → list_any (is_indexed w n) ms ≡ list_any (item_indexed w n) its)
      → with_first m o rest ≡ Ok items → list_any (is_indexed w n) (m ∷ ms) ≡ list_any (item_indexed w n) items
  read None rest is more e = absurd (cc)
  read (Some rec) (Err bad) is more e = absurd (cc)
  read (Some rec) (Ok its) is more e =
      let same : item_with m.id rec ∷ its ≡ items = cc in
      ap (λ o. is_indexed_some w n o || list_any (is_indexed w n) ms) is
      ∙ (ap (λ b. (is_of w rec && (rec.index == n)) || b) (more its refl) ∙ ap (λ its. list_any (item_indexed w n) its) same)

-- ---- the kept records

-- one with this index is kept
abbrev pub HasKept : ℕ → List AtomicItem → Type 0
HasKept n kept = list_any (λ (x : AtomicItem). x.rec.index == n) kept ≡ true

placed_has : (n : ℕ) (o : Ordering) (x first : AtomicItem) (rest further : List AtomicItem) → HasKept n (first ∷ rest) → (HasKept n rest → HasKept n further)
    → HasKept n (placed o x first rest further)
placed_has n Less x first rest further has more = on (x.rec.index == n) where
  on : (b : Bool) → (b || list_any (λ (y : AtomicItem). y.rec.index == n) (first ∷ rest)) ≡ true
  on true = refl
  on false = has
placed_has n Equal x first rest further has more = has
placed_has n Greater x first rest further has more = on (first.rec.index == n) has where
  on : (b : Bool) → (b || list_any (λ (y : AtomicItem). y.rec.index == n) rest) ≡ true → (b || list_any (λ (y : AtomicItem). y.rec.index == n) further) ≡ true
  on true has = refl
  on false has = more has

with_item_has : (n : ℕ) (kept : List AtomicItem) (x : AtomicItem) → HasKept n kept → HasKept n (with_item kept x)
with_item_has n [] x has = absurd (cc)
with_item_has n (first ∷ rest) x has = placed_has n _ x first rest (with_item rest x) has (λ h. with_item_has n rest x h)

or_here : (a b : Bool) → a ≡ true → (a || b) ≡ true
or_here a b e = rw e refl

or_there : (a b : Bool) → b ≡ true → (a || b) ≡ true
or_there true b e = refl
or_there false b e = e

or_else : (a b : Bool) → (a || b) ≡ true → a ≡ false → b ≡ true
or_else true b e f = absurd (cc)
or_else false b e f = e

with_item_new : (n : ℕ) (kept : List AtomicItem) (x : AtomicItem) → x.rec.index ≡ n → HasKept n (with_item kept x)
with_item_new n [] x same = or_here (x.rec.index == n) false (nat_true _ _ same)
with_item_new n (first ∷ rest) x same =
    on (nat_lt x.rec.index first.rec.index) (x.rec.index == first.rec.index) refl (with_item_new n rest x same)
  where
    on : (l s : Bool) → (x.rec.index == first.rec.index) ≡ s → HasKept n (with_item rest x)
        → HasKept n (placed (cond l Less (cond s Equal Greater)) x first rest (with_item rest x))
    on true s e further = or_here (x.rec.index == n) _ (nat_true _ _ same)
    on false true e further = or_here (first.rec.index == n) _ (nat_true _ _ (sym (nat_same _ _ e) ∙ same))
    on false false e further = or_there (first.rec.index == n) _ further

and_left : (a b : Bool) → (a && b) ≡ true → a ≡ true
and_left true b e = refl
and_left false b e = absurd (cc)

and_right : (a b : Bool) → (a && b) ≡ true → b ≡ true
and_right true b e = e
and_right false b e = absurd (cc)

indexed_counted : (w : Wanted) (n : ℕ) (r : AtomicRec) → n ≤ w.count → (is_of w r && (r.index == n)) ≡ true → is_counted w r ≡ true
indexed_counted w n r few e =
    let here : is_of w r ≡ true = and_left (is_of w r) (r.index == n) e in
    let at : r.index ≡ n = nat_same _ _ (and_right (is_of w r) (r.index == n) e) in
    let within : nat_le r.index w.count ≡ true = grind (arith, nat_tests, few, at) in
    rw here within

-- a record that is received is kept, or one of its index was
pub kept_with_has : (w : Wanted) (n : ℕ) (kept items : List AtomicItem) → n ≤ w.count → HasKept n kept ⊎ (list_any (item_indexed w n) items ≡ true)
    → HasKept n (kept_with w kept items)
kept_with_has w n kept [] few (inl has) = has
kept_with_has w n kept [] few (inr e) = absurd (cc)
kept_with_has w n kept (x ∷ items) few has =
    on (is_counted w x.rec) refl (item_indexed w n x) refl has (λ more h. kept_with_has w n more items few h)
  where
    on : (b : Bool) → is_counted w x.rec ≡ b → (i : Bool) → item_indexed w n x ≡ i → HasKept n kept ⊎ ((i || list_any (item_indexed w n) items) ≡ true)
        → ((more : List AtomicItem) → HasKept n more ⊎ (list_any (item_indexed w n) items ≡ true) → HasKept n (kept_with w more items))
        → HasKept n (kept_with w (cond b (with_item kept x) kept) items)
    on true e i f (inl has) more = more (with_item kept x) (inl (with_item_has n kept x has))
    on false e i f (inl has) more = more kept (inl has)
    on true e true f (inr has) more = more (with_item kept x) (inl (with_item_new n kept x (nat_same _ _ (and_right (is_of w x.rec) (x.rec.index == n) f))))
    on false e true f (inr has) more = let is : is_counted w x.rec ≡ true = indexed_counted w n x.rec few f in absurd (cc)
    on true e false f (inr has) more = more (with_item kept x) (inr has)
    on false e false f (inr has) more = more kept (inr has)

rising_not : (n k : ℕ) (kept : List AtomicItem) → IsRising k kept → n < k → HasKept n kept → ⊥
rising_not n k [] up less has = absurd (cc)
rising_not n k (x ∷ kept) up less has =
    rising_not n (x.rec.index + 1) kept up.1 (omega (arith, less, up.0))
    (or_else (x.rec.index == n) _ has (nat_false _ _ (λ e. omega (arith, less, up.0, e))))

-- strictly ascending indices among which each from n to c is are as many at least
pub rising_full : (c n : ℕ) (kept : List AtomicItem) → IsRising n kept → ((i : ℕ) → n ≤ i → i ≤ c → HasKept i kept) → c + 1 ≤ n + length kept
rising_full c n [] up all = on (nat_lt c n) refl where
  on : (b : Bool) → nat_lt c n ≡ b → c + 1 ≤ n + 0
  on true e = let less : c < n = grind (arith, nat_tests, e) in omega (arith, less)
  on false e = let least : n ≤ c = grind (arith, nat_tests, e) in let no : HasKept n [] = all n (omega arith) least in absurd (cc)
rising_full c n (x ∷ kept) up all =
    on (nat_lt c n) refl (λ here up more. rising_full c (n + 1) kept up more)
  where
    on : (b : Bool) → nat_lt c n ≡ b
        → ((here : x.rec.index ≡ n) → IsRising (n + 1) kept → ((i : ℕ) → n + 1 ≤ i → i ≤ c → HasKept i kept) → c + 1 ≤ n + 1 + length kept)
        → c + 1 ≤ n + length (x ∷ kept)
    on true e rest = let less : c < n = grind (arith, nat_tests, e) in omega (arith, less)
    on false e rest =
        let least : n ≤ c = grind (arith, nat_tests, e) in
        let here : x.rec.index ≡ n = first (x.rec.index == n) refl (all n (omega arith) least) in
        let more : c + 1 ≤ n + 1 + length kept =
        rest here (subst (λ k. IsRising (k + 1) kept) here up.1)
        (λ i from to. or_else (x.rec.index == i) _ (all i (omega (arith, from)) to) (nat_false _ _ (λ f. omega (arith, from, f, here)))) in
        omega (arith, more)
      where
        first : (b : Bool) → (x.rec.index == n) ≡ b → (b || list_any (λ (y : AtomicItem). y.rec.index == n) kept) ≡ true → x.rec.index ≡ n
        first true e has = nat_same _ _ e
        first false e has = absurd (rising_not n (x.rec.index + 1) kept up.1 (omega (arith, up.0)) has)

-- ---- counting

-- of a list whose first n elements pass a test n at least do
pub many_pass : (p : Message → Bool) (n : ℕ) (xs : List Message) → n ≤ length xs → AllByRecursion (λ m. p m ≡ true) (take n xs) → n ≤ length (filter p xs)
many_pass p zero xs long all = omega arith
many_pass p (suc n) [] long all = absurd (omega (arith, long))
many_pass p (suc n) (x ∷ xs) long all = on (p x) all.0 (many_pass p n xs (omega (arith, long)) all.1) where
  on : (b : Bool) → b ≡ true → n ≤ length (filter p xs) → suc n ≤ length (cond b (x ∷ filter p xs) (filter p xs))
  on true e few = omega (arith, few)
  on false e few = absurd (cc)

pub others_fewer : (p : Message → Bool) (id : ℕ) (xs : List Message) → length (filter p (others id xs)) ≤ length (filter p xs)
others_fewer p id [] = omega arith
others_fewer p id (x ∷ xs) = on (x.id == id) (others_fewer p id xs) where
  more : (b : Bool) (ys zs : List Message) → length ys ≤ length zs → length (cond b (x ∷ ys) ys) ≤ length (cond b (x ∷ zs) zs)
  more true ys zs few = omega (arith, few)
  more false ys zs few = few

  less : (b : Bool) (ys zs : List Message) → length ys ≤ length zs → length ys ≤ length (cond b (x ∷ zs) zs)
  less true ys zs few = omega (arith, few)
  less false ys zs few = few

  on : (b : Bool) → length (filter p (others id xs)) ≤ length (filter p xs)
      → length (filter p (cond (not b) (x ∷ others id xs) (others id xs))) ≤ length (filter p (x ∷ xs))
  on true few = less (p x) (filter p (others id xs)) (filter p xs) few
  on false few = more (p x) (filter p (others id xs)) (filter p xs) few

pub others_any : (p : Message → Bool) (id : ℕ) (xs : List Message) → AllByRecursion (λ (m : Message). m.id ≡ id → p m ≡ false) xs → list_any p xs ≡ true
    → list_any p (others id xs) ≡ true
others_any p id [] not_it e = absurd (cc)
others_any p id (x ∷ xs) not_it e = on (x.id == id) refl (λ h. others_any p id xs not_it.1 h) where
  on : (b : Bool) → (x.id == id) ≡ b → (list_any p xs ≡ true → list_any p (others id xs) ≡ true) → list_any p (cond (not b) (x ∷ others id xs) (others id xs)) ≡ true
  on true same rest = rest (or_else (p x) (list_any p xs) e (not_it.0 (nat_same _ _ same)))
  on false other rest = at (p x) e where
    at : (b : Bool) → (b || list_any p xs) ≡ true → (b || list_any p (others id xs)) ≡ true
    at true e = refl
    at false e = rest e
