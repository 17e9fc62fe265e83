-- An index of pending entries leads to the last one of a tree and key.
use Rattle.std.proofs.Common.{◌≡◌, ◌≢◌, ℕ, zero, suc, ◌+◌, ◌-◌, ◌<◌, ◌≤◌, Bool, true, false, cond, List, [], ◌∷◌, ◌++◌, length, take, Some, None, refl, sym, ap, subst, ◌∙◌, arith, ⊎_elim}
use Rattle.std.specs.Prelude.{◌==◌, ◌&&◌, ◌||◌, if◌then◌else◌, replicate, slice_get, slice_index, find, reverse}
use Rattle.std.specs.List.{list_any}
use Rattle.std.specs.Str.{bytes_eq}
use Rattle.std.proofs.Math.Seq.{take-length}
use Rattle.std.proofs.lemmas.Bool.{cases_eq, cases_lt, eq-eqb, ne_eqb}
use Rattle.std.proofs.lemmas.List.{get_or-replicate, get_or_past, length-replicate, reverse-append}
use Rattle.std.proofs.lemmas.List.Sorted.{IsPermutation-reverse, list_any-IsPermutation}
use Rattle.std.proofs.lemmas.Option.{slice_get_cases, slice_get_within}
use Rattle.std.proofs.lemmas.Slice.Eq.{bytes_eq-Decides}
use Rattle.db_base.specs.Change.{key_of}
use Rattle.head_codec.specs.declared.lists.Pending.{Pending}
use Rattle.head_codec.specs.Slot.{slot_of}
use Rattle.route_plan.specs.Index.{entry_upto, Leads, IsIndex, IsTable}
use Rattle.route_plan.specs.Queue.{is_pending_of, last_pending}

-- ---- one entry more

take-more : {A : Type 0} (xs : List A) (i : ℕ) (x : A) → slice_get xs i ≡ Some x → take (suc i) xs ≡ take i xs ++ x ∷ []
take-more [] i x h = absurd cc
take-more (y ∷ ys) zero x h = let e : y ≡ x = cc in ap (λ z. z ∷ []) e
take-more (y ∷ ys) (suc i) x h = ap (λ l. y ∷ l) (take-more ys i x h)

last-more : (tree : ℕ) (key : List ℕ) (xs : List Pending) (e : Pending)
    → last_pending (xs ++ e ∷ []) tree key ≡ cond (is_pending_of tree key e) (Some e) (last_pending xs tree key)
last-more tree key xs e = ap (λ l. find (is_pending_of tree key) l) (reverse-append xs (e ∷ []))

last-upto : (pending : List Pending) (i : ℕ) (e : Pending) (tree : ℕ) (key : List ℕ) → slice_get pending i ≡ Some e
    → last_pending (take (suc i) pending) tree key ≡ cond (is_pending_of tree key e) (Some e) (last_pending (take i pending) tree key)
last-upto pending i e tree key here = ap (λ l. last_pending l tree key) (take-more pending i e here) ∙ last-more tree key (take i pending) e

and-false : (b : Bool) → (b && false) ≡ false
and-false true = refl
and-false false = refl

-- an entry of another slot is of another key
other-slot : (tree : ℕ) (key : List ℕ) (e : Pending) → slot_of key ≢ slot_of (key_of e.change) → is_pending_of tree key e ≡ false
other-slot tree key e apart = on (bytes_eq (key_of e.change) key) refl
  where
    on : (b : Bool) → bytes_eq (key_of e.change) key ≡ b → ((e.tree == tree) && b) ≡ false
    on true same = absurd (apart (ap slot_of (sym ((bytes_eq-Decides (key_of e.change) key).0 same))))
    on false differ = and-false (e.tree == tree)

-- ---- the index is built

pub start : (pending : List Pending) (newest before : ℕ → ℕ) → ((slot : ℕ) → newest slot ≡ 0) → IsIndex pending 0 newest before
start pending newest before none = record {
  slots = λ slot. subst (λ upto. Leads pending 0 slot upto) (sym (none slot)) (nothing slot);
  entries = λ i e low here. absurd (omega arith);
}
  where
    nothing : (slot : ℕ) → Leads pending 0 slot 0
    nothing slot = record { within = omega arith; of_slot = λ e here. absurd cc; same = λ tree key is. refl }

step-at : (pending : List Pending) (count : ℕ) (newest before newest' before' : ℕ → ℕ) (e : Pending) → slice_get pending count ≡ Some e → IsIndex pending count newest before
    → ((slot : ℕ) → newest' slot ≡ (if slot == slot_of (key_of e.change) then suc count else newest slot))
    → ((i : ℕ) → i < count → before' i ≡ before i) → before' count ≡ newest (slot_of (key_of e.change))
    → IsIndex pending (suc count) newest' before'
step-at pending count newest before newest' before' e here h put kept last = record { slots = slots; entries = entries }
  where
    own : ℕ
    own = slot_of (key_of e.change)

    newer : (slot : ℕ) → slot ≡ own → Leads pending (suc count) slot (suc count)
    newer slot same = record {
      within = omega arith;
      of_slot = λ d there. let is : e ≡ d = some_same (sym here ∙ there) in ap (λ (x : Pending). slot_of (key_of x.change)) (sym is) ∙ sym same;
      same = λ tree key is. refl;
    }
      where
        some_same : {a b : Pending} → Some a ≡ Some b → a ≡ b
        some_same p = cc

    older : (slot : ℕ) → slot ≢ own → Leads pending (suc count) slot (newest slot)
    older slot apart = record {
      within = omega (arith, (h.slots slot).within);
      of_slot = (h.slots slot).of_slot;
      same = λ tree key is. (h.slots slot).same tree key is
          ∙ sym (last-upto pending count e tree key here
          ∙ ap (λ b. cond b (Some e) (last_pending (take count pending) tree key)) (other-slot tree key e (λ f. apart (sym is ∙ f))));
    }

    slots : (slot : ℕ) → Leads pending (suc count) slot (newest' slot)
    slots slot = ⊎_elim
        (λ (same : slot ≡ own). subst (λ upto. Leads pending (suc count) slot upto) (sym (put slot ∙ ap (λ b. cond b (suc count) (newest slot)) (eq-eqb slot own same))) (newer slot same))
        (λ (apart : slot ≢ own). subst (λ upto. Leads pending (suc count) slot upto) (sym (put slot ∙ ap (λ b. cond b (suc count) (newest slot)) (ne_eqb slot own apart))) (older slot apart))
        (cases_eq slot own)

    entries : (i : ℕ) (d : Pending) → i < suc count → slice_get pending i ≡ Some d → Leads pending i (slot_of (key_of d.change)) (before' i)
    entries i d low there = ⊎_elim
        (λ (less : i < count). subst (λ upto. Leads pending i (slot_of (key_of d.change)) upto) (sym (kept i less)) (h.entries i d less there))
        (λ (most : count ≤ i). at_last i (omega arith) d there)
        (cases_lt i count)
      where
        at_last : (i : ℕ) → count ≡ i → (d : Pending) → slice_get pending i ≡ Some d → Leads pending i (slot_of (key_of d.change)) (before' i)
        at_last i same = subst (λ i. (d : Pending) → slice_get pending i ≡ Some d → Leads pending i (slot_of (key_of d.change)) (before' i)) same at_count
          where
            some_same : {a b : Pending} → Some a ≡ Some b → a ≡ b
            some_same p = cc

            at_count : (d : Pending) → slice_get pending count ≡ Some d → Leads pending count (slot_of (key_of d.change)) (before' count)
            at_count d there =
                subst (λ upto. Leads pending count (slot_of (key_of d.change)) upto) (sym last)
                (subst (λ (x : Pending). Leads pending count (slot_of (key_of x.change)) (newest own)) (some_same (sym here ∙ there)) (h.slots own))

pub step : (pending : List Pending) (count next : ℕ) (newest before newest' before' : ℕ → ℕ) (e : Pending) (slot upto : ℕ) → slice_get pending count ≡ Some e → IsIndex pending count newest before
    → slot ≡ slot_of (key_of e.change) → next ≡ count + 1 → upto ≡ newest slot
    → ((s : ℕ) → newest' s ≡ (if s == slot then next else newest s))
    → ((i : ℕ) → i < count → before' i ≡ before i) → before' count ≡ upto
    → IsIndex pending next newest' before'
step pending count next newest before newest' before' e slot upto here h is_slot is_next is_upto put kept last =
    let more : next ≡ suc count = omega arith in
    subst (λ n. IsIndex pending n newest' before') (sym more)
    (step-at pending count newest before newest' before' e here h
    (λ s. put s ∙ ap (λ n. cond (s == slot) n (newest s)) more ∙ ap (λ k. cond (s == k) (suc count) (newest s)) is_slot)
    kept (last ∙ is_upto ∙ ap newest is_slot))

-- what is built of the two tables
pub record IsBuilt (pending : List Pending) (newest before : List ℕ) : Type 0 where
  pub slots : length newest ≡ 4096
  pub within : length before ≤ length pending
  pub index : IsIndex pending (length before) (λ slot. slice_index newest slot) (λ i. slice_index before i)

all-zero : (n slot : ℕ) → slice_index (replicate n 0) slot ≡ 0
all-zero n slot =
    ⊎_elim (λ (low : slot < n). get_or-replicate n slot 0 0 low) (λ (high : n ≤ slot). get_or_past (replicate n 0) slot 0 (omega (arith, length-replicate {A = ℕ} n 0))) (cases_lt slot n)

pub built-start : (pending : List Pending) (newest before : List ℕ) (n : ℕ) → n ≡ 4096 → newest ≡ replicate n 0 → before ≡ [] → IsBuilt pending newest before
built-start pending newest before n size zeros none = record {
  slots = ap (λ l. length l) zeros ∙ (length-replicate n 0 ∙ size);
  within = omega (arith, ap (λ l. length l) none);
  index = subst (λ k. IsIndex pending k (λ slot. slice_index newest slot) (λ i. slice_index before i)) (sym (ap (λ l. length l) none))
      (start pending _ _ (λ slot. ap (λ l. slice_index l slot) zeros ∙ all-zero n slot));
}

pub built-step : (pending : List Pending) (newest before newest' before' : List ℕ) (n : ℕ) (e : Pending) (slot upto next : ℕ) → IsBuilt pending newest before
    → n ≡ length before → Some e ≡ slice_get pending n → slot ≡ slot_of (key_of e.change) → upto ≡ slice_index newest slot
    → ((i : ℕ) → i < length before → slice_index before' i ≡ slice_index before i) → slice_index before' (length before) ≡ upto → length before' ≡ length before + 1
    → next ≡ length before'
    → ((s : ℕ) → slice_index newest' s ≡ (if s == slot then next else slice_index newest s)) → length newest' ≡ length newest
    → IsBuilt pending newest' before'
built-step pending newest before newest' before' n e slot upto next h is_n here is_slot is_upto kept last longer is_next put same = record {
  slots = same ∙ h.slots;
  within = omega (arith, longer, slice_get_within pending (length before) e there);
  index = subst (λ k. IsIndex pending k (λ slot. slice_index newest' slot) (λ i. slice_index before' i)) is_next
      (step pending (length before) next (λ slot. slice_index newest slot) (λ i. slice_index before i) (λ slot. slice_index newest' slot) (λ i. slice_index before' i) e slot upto
      there h.index is_slot (is_next ∙ longer) is_upto put kept last);
}
  where
    there : slice_get pending (length before) ≡ Some e
    there = subst (λ k. slice_get pending k ≡ Some e) is_n (sym here)

pub built-smaller : (pending : List Pending) (before before' : List ℕ) (n : ℕ) (e : Pending) → n ≡ length before → Some e ≡ slice_get pending n → length before' ≡ length before + 1
    → length pending - length before' < length pending - length before
built-smaller pending before before' n e is_n here longer = omega (arith, slice_get_within pending n e (sym here), is_n, longer)

pub built-end : (pending : List Pending) (newest before : List ℕ) (n : ℕ) → IsBuilt pending newest before → n ≡ length before → None ≡ slice_get pending n
    → IsTable pending newest before
built-end pending newest before n h is_n none = record {
  slots = h.slots;
  entries = all;
  index = subst (λ k. IsIndex pending k (λ slot. slice_index newest slot) (λ i. slice_index before i)) all h.index;
}
  where
    past : length pending ≤ length before
    past = ⊎_elim (λ some. absurd (missing some.0 (none ∙ ap (λ k. slice_get pending k) is_n ∙ some.2))) (λ p. p.0) (slice_get_cases pending (length before)).1
      where
        missing : (x : Pending) → None ≡ Some x → ⊥
        missing x e = cc

    all : length before ≡ length pending
    all = omega (arith, past, h.within)

-- ---- the last entry is looked for

-- none behind the first `upto` entries is of the tree and key
pub record IsWay (pending : List Pending) (tree : ℕ) (key : List ℕ) (upto : ℕ) : Type 0 where
  pub within : upto ≤ length pending
  pub of_slot : (e : Pending) → entry_upto pending upto ≡ Some e → slot_of (key_of e.change) ≡ slot_of key
  pub same : last_pending (take upto pending) tree key ≡ last_pending pending tree key

pub way-start : (pending : List Pending) (newest before : ℕ → ℕ) (tree : ℕ) (key : List ℕ) (slot upto : ℕ) → IsIndex pending (length pending) newest before
    → slot ≡ slot_of key → upto ≡ newest slot → IsWay pending tree key upto
way-start pending newest before tree key slot upto h is_slot is_upto = subst (λ n. IsWay pending tree key n) (sym (is_upto ∙ ap newest is_slot)) (record {
  within = (h.slots (slot_of key)).within;
  of_slot = (h.slots (slot_of key)).of_slot;
  same = (h.slots (slot_of key)).same tree key refl ∙ ap (λ l. last_pending l tree key) (take-length pending);
})

pub way-found : (pending : List Pending) (tree : ℕ) (key : List ℕ) (upto : ℕ) (e : Pending) → IsWay pending tree key upto
    → Some e ≡ entry_upto pending upto → is_pending_of tree key e ≡ true → Some e ≡ last_pending pending tree key
way-found pending tree key zero e h here is = absurd cc
way-found pending tree key (suc i) e h here is =
    sym (ap (λ b. cond b (Some e) (last_pending (take i pending) tree key)) is) ∙ (sym (last-upto pending i e tree key (sym here)) ∙ h.same)

pub way-on : (pending : List Pending) (newest before : ℕ → ℕ) (tree : ℕ) (key : List ℕ) (upto i next : ℕ) (e : Pending) → IsIndex pending (length pending) newest before
    → IsWay pending tree key upto → Some e ≡ entry_upto pending upto → is_pending_of tree key e ≡ false → i ≡ upto - 1 → next ≡ before i
    → IsWay pending tree key next × (next < upto)
way-on pending newest before tree key zero i next e h way here differs is_i is_next = absurd cc
way-on pending newest before tree key (suc j) i next e h way here differs is_i is_next =
    subst (λ n. IsWay pending tree key n × (n < suc j)) (sym (is_next ∙ ap before (omega arith))) (
      record {
        within = omega (arith, lead.within, low);
        of_slot = λ d there. lead.of_slot d there ∙ own;
        same = lead.same tree key (sym own)
            ∙ (ap (λ b. cond b (Some e) (last_pending (take j pending) tree key)) (sym differs) ∙ (sym (last-upto pending j e tree key (sym here)) ∙ way.same));
      },
      omega (arith, lead.within),
    )
  where
    low : j < length pending
    low = slice_get_within pending j e (sym here)

    lead : Leads pending j (slot_of (key_of e.change)) (before j)
    lead = h.entries j e low (sym here)

    own : slot_of (key_of e.change) ≡ slot_of key
    own = way.of_slot e (sym here)

pub way-end : (pending : List Pending) (tree : ℕ) (key : List ℕ) (upto : ℕ) → IsWay pending tree key upto → None ≡ entry_upto pending upto → None ≡ last_pending pending tree key
way-end pending tree key zero h none = h.same
way-end pending tree key (suc i) h none = absurd (⊎_elim (λ some. missing some.0 (none ∙ some.2)) (λ past. omega (arith, past.0, h.within)) (slice_get_cases pending i).1)
  where
    missing : (x : Pending) → None ≡ Some x → ⊥
    missing x e = cc

-- ---- whether there is one

found-any : {X : Type 0} (p : X → Bool) (xs : List X) (x : X) → find p xs ≡ Some x → list_any p xs ≡ true
found-any p [] x e = absurd cc
found-any p (y ∷ ys) x e = on (p y) e (found-any p ys x)
  where
    on : (b : Bool) → cond b (Some y) (find p ys) ≡ Some x → (find p ys ≡ Some x → list_any p ys ≡ true) → (b || list_any p ys) ≡ true
    on true here rest = refl
    on false here rest = rest here

missing-any : {X : Type 0} (p : X → Bool) (xs : List X) → find p xs ≡ None → list_any p xs ≡ false
missing-any p [] e = refl
missing-any p (y ∷ ys) e = on (p y) e (missing-any p ys)
  where
    on : (b : Bool) → cond b (Some y) (find p ys) ≡ None → (find p ys ≡ None → list_any p ys ≡ false) → (b || list_any p ys) ≡ false
    on true none rest = absurd cc
    on false none rest = rest none

any-reverse : {X : Type 0} (p : X → Bool) (xs : List X) → list_any p xs ≡ list_any p (reverse xs)
any-reverse p xs = list_any-IsPermutation p xs (reverse xs) (IsPermutation-reverse xs)

pub any_found : (pending : List Pending) (tree : ℕ) (key : List ℕ) (e : Pending) → last_pending pending tree key ≡ Some e → list_any (is_pending_of tree key) pending ≡ true
any_found pending tree key e here = any-reverse (is_pending_of tree key) pending ∙ found-any (is_pending_of tree key) (reverse pending) e here

pub any_missing : (pending : List Pending) (tree : ℕ) (key : List ℕ) → last_pending pending tree key ≡ None → list_any (is_pending_of tree key) pending ≡ false
any_missing pending tree key none = any-reverse (is_pending_of tree key) pending ∙ missing-any (is_pending_of tree key) (reverse pending) none
