-- What is chosen of the items is a run in order of receipt.
use Rattle.std.proofs.Common.{ℕ, ◌≡◌, ◌+◌, ◌≤◌, Bool, true, false, List, [], ◌∷◌, ◌++◌, sym, refl, ap, ◌∙◌, arith, subst, append_assoc, cond, Some, None}
use Rattle.std.specs.Prelude.{◌||◌, All, find, count_by, IsPermutation, IsSorted, if◌then◌else◌}
use Rattle.std.specs.List.{list_any}
use Rattle.std.specs.Option.{option_or}
use Rattle.std.proofs.lemmas.Bool.Decides.{nat_tests}
use Rattle.std.proofs.lemmas.List.{append-nil}
use Rattle.std.proofs.lemmas.List.Sums.{sum_by_push, sum_by-cons}
use Rattle.std.proofs.lemmas.List.Elements.{All-push, All-weaker, All-nil}
use Rattle.std.proofs.lemmas.List.Sorted.{All-permutation, sum_by-IsPermutation}
use Rattle.std.proofs.lemmas.List.Folds.{find-append, list_any-append}
use Rattle.db_base.specs.Cursor.{number_of}
use Rattle.log_codec.specs.declared.record.PuItem.{PuItem}
use Rattle.log_codec.specs.Order.{item_cmp}
use Rattle.run_cursor.specs.Run.{has_number, first_at, is_at, IsRun, IsTop, IsWithin}
use Rattle.run_cursor.specs.Chosen.{chosen, is_wanted}

-- none that passes the test is counted where there is none
pub count_by-none : {X : Type 0} (p : X → Bool) (xs : List X) → list_any p xs ≡ false → count_by p xs ≡ 0
count_by-none p [] h = refl
count_by-none p (x ∷ xs) h = sum_by-cons _ x xs ∙ on (p x) h (count_by-none p xs)
  where
    on : (b : Bool) → (b || list_any p xs) ≡ false → (list_any p xs ≡ false → count_by p xs ≡ 0) → cond b 1 0 + count_by p xs ≡ 0
    on true e again = cc
    on false e again = omega (arith, again e)

-- one that passes the test is counted
count_by-some : {X : Type 0} (p : X → Bool) (xs : List X) → list_any p xs ≡ true → 1 ≤ count_by p xs
count_by-some p [] h = cc
count_by-some p (x ∷ xs) h = subst (λ n. 1 ≤ n) (sym (sum_by-cons _ x xs)) (on (p x) h (count_by-some p xs))
  where
    on : (b : Bool) → (b || list_any p xs) ≡ true → (list_any p xs ≡ true → 1 ≤ count_by p xs) → 1 ≤ cond b 1 0 + count_by p xs
    on true e again = omega arith
    on false e again = omega (arith, again e)

-- none is found where there is none
find-none : {X : Type 0} (p : X → Bool) (xs : List X) → list_any p xs ≡ false → find p xs ≡ None
find-none p [] h = refl
find-none p (x ∷ xs) h = on (p x) h (find-none p xs)
  where
    on : (b : Bool) → (b || list_any p xs) ≡ false → (list_any p xs ≡ false → find p xs ≡ None) → cond b (Some x) (find p xs) ≡ None
    on true e again = cc
    on false e again = again e

-- the first found stays the first
find-kept : {X : Type 0} (p : X → Bool) (xs : List X) (x y : X) → find p xs ≡ Some y → find p (xs ++ x ∷ []) ≡ Some y
find-kept p xs x y e = find-append p xs (x ∷ []) ∙ ap (λ o. option_or o (find p (x ∷ []))) e

-- a first one at the end is found there
find-new : {X : Type 0} (p : X → Bool) (xs : List X) (x : X) → list_any p xs ≡ false → p x ≡ true → find p (xs ++ x ∷ []) ≡ Some x
find-new p xs x none yes_ = find-append p xs (x ∷ []) ∙ (ap (λ o. option_or o (find p (x ∷ []))) (find-none p xs none) ∙ ap (λ b. cond b (Some x) None) yes_)

-- one more at the end is among them, or it was before
pub has_number-push : (xs : List PuItem) (x : PuItem) (c n : ℕ) → has_number (xs ++ x ∷ []) c n ≡ (has_number xs c n || is_at c n x)
has_number-push xs x c n = list_any-append (is_at c n) xs (x ∷ []) ∙ on (has_number xs c n) (is_at c n x)
  where
    on : (a b : Bool) → (a || (b || false)) ≡ (a || b)
    on true b = refl
    on false true = refl
    on false false = refl

-- an item is at its own client and number
is_at-self : (x : PuItem) → is_at x.rec.client x.rec.number x ≡ true
is_at-self x = grind (arith, nat_tests)

-- and at no other
pub record IsHere (x : PuItem) (c n : ℕ) : Type 0 where
  pub client : x.rec.client ≡ c
  pub number : x.rec.number ≡ n

pub is_at-true : (x : PuItem) (c n : ℕ) → is_at c n x ≡ true → IsHere x c n
is_at-true x c n h = record { client = grind (arith, nat_tests); number = grind (arith, nat_tests) }

-- an item is the first of its client and number
abbrev IsFirst : List PuItem → PuItem → Type 0
IsFirst items x = first_at items x.rec.client x.rec.number ≡ Some x

-- an item is within the run
abbrev IsInside : List (ℕ × ℕ) → List (ℕ × ℕ) → PuItem → Type 0
IsInside cursor top x = IsWithin cursor top x.rec.client x.rec.number

-- what was kept of the items that were passed: the first of each number within, once
pub record IsKept (cursor top : List (ℕ × ℕ)) (passed kept : List PuItem) : Type 0 where
  pub first : All (IsFirst passed) kept
  pub within : All (IsInside cursor top) kept
  pub once : (client number : ℕ) → IsWithin cursor top client number
      → count_by (is_at client number) kept ≡ (if has_number passed client number then 1 else 0)

-- a count with one more, which is new
one_more : (b : Bool) (k : ℕ) (h : Bool) → k ≡ cond h 1 0 → (b ≡ true → k ≡ 0) → k + cond b 1 0 ≡ cond (h || b) 1 0
one_more true k true e new = absurd (omega (arith, e, new refl))
one_more true k false e new = omega (arith, e)
one_more false k true e new = omega (arith, e)
one_more false k false e new = omega (arith, e)

-- a count with no more, since it was counted
no_more : (b : Bool) (k : ℕ) (h : Bool) → k ≡ cond h 1 0 → (b ≡ true → 1 ≤ k) → k ≡ cond (h || b) 1 0
no_more true k true e old = e
no_more true k false e old = absurd (omega (arith, e, old refl))
no_more false k true e old = e
no_more false k false e old = e

-- what is wanted is within and new
wanted_within : (cursor top : List (ℕ × ℕ)) (kept : List PuItem) (x : PuItem) → is_wanted cursor top kept x ≡ true
    → IsWithin cursor top x.rec.client x.rec.number
wanted_within cursor top kept x h = record { above = grind (arith, nat_tests); upto = grind (arith, nat_tests) }

wanted_new : (cursor top : List (ℕ × ℕ)) (kept : List PuItem) (x : PuItem) → is_wanted cursor top kept x ≡ true
    → has_number kept x.rec.client x.rec.number ≡ false
wanted_new cursor top kept x h = grind (arith, nat_tests)

-- what is not wanted and within was kept before
unwanted_old : (cursor top : List (ℕ × ℕ)) (kept : List PuItem) (x : PuItem) → is_wanted cursor top kept x ≡ false
    → IsWithin cursor top x.rec.client x.rec.number → has_number kept x.rec.client x.rec.number ≡ true
unwanted_old cursor top kept x h w = grind (arith, nat_tests)

-- one more is kept
keeps : (cursor top : List (ℕ × ℕ)) (passed kept : List PuItem) (x : PuItem) → IsKept cursor top passed kept
    → is_wanted cursor top kept x ≡ true → IsKept cursor top (passed ++ x ∷ []) (kept ++ x ∷ [])
keeps cursor top passed kept x h wanted = record { first = first; within = within; once = once }
  where
    new : has_number kept x.rec.client x.rec.number ≡ false
    new = wanted_new cursor top kept x wanted

    not_passed : has_number passed x.rec.client x.rec.number ≡ false
    not_passed = on (has_number passed x.rec.client x.rec.number) (h.once x.rec.client x.rec.number (wanted_within cursor top kept x wanted))
      where
        on : (b : Bool) → count_by (is_at x.rec.client x.rec.number) kept ≡ cond b 1 0 → b ≡ false
        on true e = absurd (omega (arith, e, count_by-none (is_at x.rec.client x.rec.number) kept new))
        on false e = refl

    first : All (IsFirst (passed ++ x ∷ [])) (kept ++ x ∷ [])
    first = All-push (IsFirst (passed ++ x ∷ [])) kept x
        (All-weaker (IsFirst passed) (IsFirst (passed ++ x ∷ [])) (λ y e. find-kept (is_at y.rec.client y.rec.number) passed x y e) kept h.first)
        (find-new (is_at x.rec.client x.rec.number) passed x not_passed (is_at-self x))

    within : All (IsInside cursor top) (kept ++ x ∷ [])
    within = All-push (IsInside cursor top) kept x h.within (wanted_within cursor top kept x wanted)

    none : (c n : ℕ) → is_at c n x ≡ true → count_by (is_at c n) kept ≡ 0
    none c n e = let here = is_at-true x c n e in count_by-none (is_at c n) kept (subst (λ m. has_number kept c m ≡ false) here.number (subst (λ d. has_number kept d x.rec.number ≡ false) here.client new))

    once : (c n : ℕ) → IsWithin cursor top c n → count_by (is_at c n) (kept ++ x ∷ []) ≡ (if has_number (passed ++ x ∷ []) c n then 1 else 0)
    once c n w = sum_by_push (λ y. cond (is_at c n y) 1 0) kept x ∙ (one_more (is_at c n x) (count_by (is_at c n) kept) (has_number passed c n) (h.once c n w) (none c n) ∙ sym (ap (λ b. cond b 1 0) (has_number-push passed x c n)))

-- one more is passed over
passes : (cursor top : List (ℕ × ℕ)) (passed kept : List PuItem) (x : PuItem) → IsKept cursor top passed kept
    → is_wanted cursor top kept x ≡ false → IsKept cursor top (passed ++ x ∷ []) kept
passes cursor top passed kept x h unwanted = record { first = first; within = h.within; once = once }
  where
    first : All (IsFirst (passed ++ x ∷ [])) kept
    first = All-weaker (IsFirst passed) (IsFirst (passed ++ x ∷ [])) (λ y e. find-kept (is_at y.rec.client y.rec.number) passed x y e) kept h.first

    old : (c n : ℕ) → IsWithin cursor top c n → is_at c n x ≡ true → 1 ≤ count_by (is_at c n) kept
    old c n w e = count_by-some (is_at c n) kept (on c n w (is_at-true x c n e))
      where
        on : (c n : ℕ) → IsWithin cursor top c n → IsHere x c n → has_number kept c n ≡ true
        on c n w here =
            subst (λ m. has_number kept c m ≡ true) here.number (subst (λ d. has_number kept d x.rec.number ≡ true) here.client
            (unwanted_old cursor top kept x unwanted
            (subst (λ m. IsWithin cursor top x.rec.client m) (sym here.number) (subst (λ d. IsWithin cursor top d n) (sym here.client) w))))

    once : (c n : ℕ) → IsWithin cursor top c n → count_by (is_at c n) kept ≡ (if has_number (passed ++ x ∷ []) c n then 1 else 0)
    once c n w = no_more (is_at c n x) (count_by (is_at c n) kept) (has_number passed c n) (h.once c n w) (old c n w) ∙ sym (ap (λ b. cond b 1 0) (has_number-push passed x c n))

-- the rest of the items is chosen from as those before were
pub chosen-is_kept : (cursor top : List (ℕ × ℕ)) (passed kept xs : List PuItem) → IsKept cursor top passed kept
    → IsKept cursor top (passed ++ xs) (chosen cursor top kept xs)
chosen-is_kept cursor top passed kept [] h = subst (λ p. IsKept cursor top p kept) (sym (append-nil passed)) h
chosen-is_kept cursor top passed kept (x ∷ xs) h =
    subst (λ p. IsKept cursor top p (chosen cursor top kept (x ∷ xs))) (append_assoc passed (x ∷ []) xs)
    (on (is_wanted cursor top kept x) refl (λ more. chosen-is_kept cursor top (passed ++ x ∷ []) more xs))
  where
    on : (b : Bool) → is_wanted cursor top kept x ≡ b
        → ((more : List PuItem) → IsKept cursor top (passed ++ x ∷ []) more
        → IsKept cursor top ((passed ++ x ∷ []) ++ xs) (chosen cursor top more xs))
        → IsKept cursor top ((passed ++ x ∷ []) ++ xs) (chosen cursor top (if b then kept ++ x ∷ [] else kept) xs)
    on true e again = again (kept ++ x ∷ []) (keeps cursor top passed kept x h e)
    on false e again = again kept (passes cursor top passed kept x h e)

-- what was chosen, in the order of items, is the run
pub run-from_chosen : (cursor top : List (ℕ × ℕ)) (items kept run : List PuItem)
    → ((c : ℕ) → IsTop (number_of cursor c) items c (number_of top c)) → kept ≡ chosen cursor top [] items
    → IsPermutation kept run → IsSorted item_cmp run → IsRun cursor items run top
run-from_chosen cursor top items kept run tops is moved sorted =
    record { tops = tops; first = All-permutation (IsFirst items) kept run moved h.first; within = All-permutation (IsInside cursor top) kept run moved h.within; once = once; sorted = sorted }
  where
    h : IsKept cursor top items kept
    h = subst (λ k. IsKept cursor top items k) (sym is)
        (chosen-is_kept cursor top [] [] items (record { first = All-nil (IsFirst []); within = All-nil (IsInside cursor top); once = λ c n w. refl }))

    once : (c n : ℕ) → IsWithin cursor top c n → count_by (is_at c n) run ≡ 1
    once c n w = sum_by-IsPermutation (λ y. cond (is_at c n y) 1 0) kept run moved ∙ (h.once c n w ∙ ap (λ b. cond b 1 0) ((tops c).each n w.above w.upto))
