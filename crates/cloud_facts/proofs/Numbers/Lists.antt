-- Places of lists, and of lists that are filtered or mapped.
use Rattle.std.proofs.Common.{◌≡◌, ◌+◌, ℕ, zero, suc, List, [], ◌∷◌, take, map, filter, count_by, slice_get, Some, refl, sym, ap, subst, ◌∙◌, Bool, true, false, cond, arith}
use Rattle.std.proofs.lemmas.List.Sums.{sum_by-cons}

-- ---- lists behind one another

-- nothing stands at two places of a list that has it once
pub get_same : {X : Type 0} (xs : List X) (i j : ℕ) (x y : X) → i ≡ j → slice_get xs i ≡ Some x → slice_get xs j ≡ Some y → x ≡ y
get_same xs i j x y same at_x at_y = cc

-- what stands in a front of a list stands in the list
pub take_there : {X : Type 0} (n : ℕ) (xs : List X) (k : ℕ) (x : X) → slice_get (take n xs) k ≡ Some x → slice_get xs k ≡ Some x
take_there zero xs k x at = absurd (cc)
take_there (suc n) [] k x at = absurd (cc)
take_there (suc n) (y ∷ xs) zero x at = at
take_there (suc n) (y ∷ xs) (suc k) x at = take_there n xs k x at

-- what stands in a list of values
pub map_there : {X Y : Type 0} (f : X → Y) (xs : List X) (k : ℕ) (y : Y) → slice_get (map f xs) k ≡ Some y → (x : X) × (slice_get xs k ≡ Some x) × (f x ≡ y)
map_there f [] k y at = absurd (cc)
map_there f (x ∷ xs) zero y at = let same : f x ≡ y = cc in (x, refl, same)
map_there f (x ∷ xs) (suc k) y at = map_there f xs k y at

pub map_at : {X Y : Type 0} (f : X → Y) (xs : List X) (k : ℕ) (x : X) → slice_get xs k ≡ Some x → slice_get (map f xs) k ≡ Some (f x)
map_at f [] k x at = absurd (cc)
map_at f (y ∷ xs) zero x at = let same : y ≡ x = cc in ap (λ z. Some (f z)) same
map_at f (y ∷ xs) (suc k) x at = map_at f xs k x at

-- ---- filtered lists

-- what stands among the elements that pass a test: where it stands in the list, and that as many pass before it
pub record Passes {X : Type 0} (p : X → Bool) (xs : List X) (k : ℕ) (x : X) : Type 0 where
  pub place : ℕ
  pub there : slice_get xs place ≡ Some x
  pub test : p x ≡ true
  pub before : count_by p (take place xs) ≡ k

pub filter_there : {X : Type 0} (p : X → Bool) (xs : List X) (k : ℕ) (x : X) → slice_get (filter p xs) k ≡ Some x → Passes p xs k x
filter_there p [] k x at = absurd (cc)
filter_there {X = X} p (y ∷ ys) k x at = on (p y) refl k at (λ n h. filter_there p ys n x h)
  where
    first : (b : Bool) → p y ≡ b → b ≡ true → (n : ℕ) → n ≡ 0 → y ≡ x → Passes p (y ∷ ys) n x
    first b e is n zeroth same = record { place = 0; there = ap Some same; test = subst (λ z. p z ≡ true) same (e ∙ is); before = sym zeroth }

    later : (b : Bool) → p y ≡ b → (n m : ℕ) → cond b 1 0 + n ≡ m → Passes p ys n x → Passes p (y ∷ ys) m x
    later b e n m sum h = record {
      place = suc h.place;
      there = h.there;
      test = h.test;
      before = sum_by-cons (λ z. cond (p z) 1 0) y (take h.place ys)
          ∙ (ap (λ c. cond c 1 0 + count_by p (take h.place ys)) e ∙ (ap (λ c. cond b 1 0 + c) h.before ∙ sum));
    }

    on : (b : Bool) → p y ≡ b → (n : ℕ) → slice_get (cond b (y ∷ filter p ys) (filter p ys)) n ≡ Some x
        → ((m : ℕ) → slice_get (filter p ys) m ≡ Some x → Passes p ys m x) → Passes p (y ∷ ys) n x
    on true e zero h again = let same : y ≡ x = cc in first true e refl 0 refl same
    on true e (suc n) h again = later true e n (suc n) (omega arith) (again n h)
    on false e n h again = later false e n n (omega arith) (again n h)

-- what passes the test stands among those that pass
pub filter_at : {X : Type 0} (p : X → Bool) (xs : List X) (i : ℕ) (x : X) → p x ≡ true → slice_get xs i ≡ Some x → (k : ℕ) × (slice_get (filter p xs) k ≡ Some x)
filter_at p [] i x passes at = absurd (cc)
filter_at p (y ∷ ys) zero x passes at =
    let same : y ≡ x = cc in
    (0, ap (λ b. slice_get (cond b (y ∷ filter p ys) (filter p ys)) 0) (ap p same ∙ passes) ∙ at)
filter_at p (y ∷ ys) (suc i) x passes at = on (p y) (filter_at p ys i x passes at)
  where
    on : (b : Bool) → (k : ℕ) × (slice_get (filter p ys) k ≡ Some x) → (k : ℕ) × (slice_get (cond b (y ∷ filter p ys) (filter p ys)) k ≡ Some x)
    on true h = (suc h.0, h.1)
    on false h = h

-- tests that agree on what stands in a list pass the same of it
pub filter_agree : {X : Type 0} (p q : X → Bool) (xs : List X) → ((i : ℕ) (x : X) → slice_get xs i ≡ Some x → p x ≡ q x) → filter p xs ≡ filter q xs
filter_agree p q [] same = refl
filter_agree p q (x ∷ xs) same =
    ap (λ b. cond b (x ∷ filter p xs) (filter p xs)) (same 0 x refl)
    ∙ ap (λ l. cond (q x) (x ∷ l) l) (filter_agree p q xs (λ i y at. same (suc i) y at))

-- a test that nothing of a list passes
pub filter_none : {X : Type 0} (p : X → Bool) (xs : List X) → ((i : ℕ) (x : X) → slice_get xs i ≡ Some x → p x ≡ false) → filter p xs ≡ []
filter_none p [] none = refl
filter_none p (x ∷ xs) none =
    ap (λ b. cond b (x ∷ filter p xs) (filter p xs)) (none 0 x refl) ∙ filter_none p xs (λ i y at. none (suc i) y at)

-- tests that agree count the same
pub count_agree : {X : Type 0} (p q : X → Bool) (xs : List X) → ((i : ℕ) (x : X) → slice_get xs i ≡ Some x → p x ≡ q x) → count_by p xs ≡ count_by q xs
count_agree p q [] same = refl
count_agree p q (x ∷ xs) same =
    sum_by-cons (λ z. cond (p z) 1 0) x xs
    ∙ (ap (λ b. cond b 1 0 + count_by p xs) (same 0 x refl)
    ∙ (ap (λ n. cond (q x) 1 0 + n) (count_agree p q xs (λ i y at. same (suc i) y at))
    ∙ sym (sum_by-cons (λ z. cond (q z) 1 0) x xs)))
