-- How bytes are put together of a front, a middle, a back and an end.
use Rattle.std.proofs.Common.{◌≡◌, ◌≤◌, ◌+◌, ◌-◌, ◌++◌, ℕ, List, length, take, drop, Bool, true, false, refl, sym, subst, ◌∙◌, ap, arith, append_assoc}
use Rattle.std.specs.List.{slice_range}
use Rattle.std.specs.Str.{bytes_eq}
use Rattle.std.proofs.Math.Seq.{take-add, take-append_seam, drop-append_seam}
use Rattle.std.proofs.lemmas.List.{take-append-drop, length-take, append_cancel_left}
use Rattle.std.proofs.lemmas.List.Folds.{drop_split}
use Rattle.std.proofs.lemmas.Slice.Eq.{bytes_eq-Decides}

-- a front in common grows by what is the same behind it
pub front_grows : (n k : ℕ) (a b : List ℕ) → take n a ≡ take n b → take k (drop n a) ≡ take k (drop n b) → take (n + k) a ≡ take (n + k) b
front_grows n k a b front more = take-add n k a ∙ ap (λ m. m ++ take k (drop n a)) front ∙ ap (λ m. take n b ++ m) more ∙ sym (take-add n k b)

-- a back in common grows by what is the same before it
pub back_grows : (n k : ℕ) (a b : List ℕ) → drop (length a - n) a ≡ drop (length b - n) b
    → slice_range a (length a - (n + k)) (length a - n) ≡ slice_range b (length b - (n + k)) (length b - n)
    → drop (length a - (n + k)) a ≡ drop (length b - (n + k)) b
back_grows n k a b back more =
    drop_split a (length a - (n + k)) (length a - n) (omega arith)
    ∙ ap (λ m. m ++ drop (length a - n) a) more
    ∙ ap (λ m. slice_range b (length b - (n + k)) (length b - n) ++ m) back
    ∙ sym (drop_split b (length b - (n + k)) (length b - n) (omega arith))

-- a list is cut where its first part ends
cut-front : (first second : List ℕ) (n : ℕ) → length first ≡ n → take n (first ++ second) ≡ first
cut-front first second n is = subst (λ (k : ℕ). take k (first ++ second) ≡ first) is (take-append_seam first second)

cut-rest : (first second : List ℕ) (n : ℕ) → length first ≡ n → drop n (first ++ second) ≡ second
cut-rest first second n is = subst (λ (k : ℕ). drop k (first ++ second) ≡ second) is (drop-append_seam first second)

-- what is put together of a front of a base, a middle of its own, a back of the base and an end of its own
pub put_together : (base bytes middle own : List ℕ) (front end back split : ℕ)
    → take front base ≡ take front bytes
    → middle ≡ take end (drop front bytes)
    → split ≤ length middle
    → drop back base ≡ drop split middle
    → own ≡ take split middle ++ drop end (drop front bytes)
    → take front base ++ (take split own ++ (drop back base ++ drop split own)) ≡ bytes
put_together base bytes middle own front end back split fronts is fits backs owned =
    let l : length (take split middle) ≡ split = omega (arith, length-take split middle) in
    let cut : take split own ≡ take split middle = rw owned (cut-front (take split middle) (drop end (drop front bytes)) split l) in
    let rest : drop split own ≡ drop end (drop front bytes) = rw owned (cut-rest (take split middle) (drop end (drop front bytes)) split l) in
    let inner : take split middle ++ (drop split middle ++ drop end (drop front bytes)) ≡ drop front bytes =
    sym (append_assoc (take split middle) (drop split middle) (drop end (drop front bytes)))
    ∙ ap (λ m. m ++ drop end (drop front bytes)) (take-append-drop split middle ∙ is)
    ∙ take-append-drop end (drop front bytes) in
    ap (λ m. m ++ (take split own ++ (drop back base ++ drop split own))) fronts
    ∙ ap (λ m. take front bytes ++ (m ++ (drop back base ++ drop split own))) cut
    ∙ ap (λ m. take front bytes ++ (take split middle ++ (m ++ drop split own))) backs
    ∙ ap (λ m. take front bytes ++ (take split middle ++ (drop split middle ++ m))) rest
    ∙ ap (λ m. take front bytes ++ m) inner
    ∙ take-append-drop front bytes

-- bytes that differ are told apart
told_apart : (a b : List ℕ) → (a ≡ b → ⊥) → false ≡ bytes_eq a b
told_apart a b differ = on (bytes_eq a b) (bytes_eq-Decides a b).0 where
  on : (r : Bool) → (r ≡ true → a ≡ b) → false ≡ r
  on true same = absurd (differ (same refl))
  on false same = refl

-- bytes behind a front in common are told apart as the whole is
rest_tells : (front a b xs ys : List ℕ) → xs ≡ front ++ a → ys ≡ front ++ b → bytes_eq a b ≡ bytes_eq xs ys
rest_tells front a b xs ys first second = on (bytes_eq a b) (bytes_eq-Decides a b).0 (bytes_eq-Decides a b).1 where
  on : (r : Bool) → (r ≡ true → a ≡ b) → (a ≡ b → r ≡ true) → r ≡ bytes_eq xs ys
  on true same tells = sym ((bytes_eq-Decides xs ys).1 (first ∙ ap (λ m. front ++ m) (same refl) ∙ sym second))
  on false same tells = told_apart xs ys (λ e. let t : false ≡ true = tells (append_cancel_left front a b (sym first ∙ e ∙ second)) in absurd (cc))

-- the second of the parts is not there
pub second_differs : (xs ys a b rest left : List ℕ) → xs ≡ a ++ (b ++ rest) → ys ≡ a ++ left
    → ((more : List ℕ) → left ≡ b ++ more → ⊥) → false ≡ bytes_eq xs ys
second_differs xs ys a b rest left whole is differ =
    told_apart xs ys (λ e. differ rest (append_cancel_left a left (b ++ rest) (sym is ∙ sym e ∙ whole)))

-- the third of the parts is not there
pub third_differs : (xs ys a b d part rest one two : List ℕ) → part ≡ d → xs ≡ a ++ (b ++ (d ++ rest)) → ys ≡ a ++ one → one ≡ b ++ two
    → ((more : List ℕ) → two ≡ part ++ more → ⊥) → false ≡ bytes_eq xs ys
third_differs xs ys a b d part rest one two same whole first second differ =
    second_differs xs ys (a ++ b) d rest two (whole ∙ sym (append_assoc a b (d ++ rest)))
    (first ∙ ap (λ m. a ++ m) second ∙ sym (append_assoc a b two))
    (λ more e. differ more (e ∙ ap (λ m. m ++ more) (sym same)))

-- the first three parts are there, and the last one tells
pub last_tells : (xs ys a b d part rest last one two three : List ℕ) → part ≡ d → last ≡ rest → xs ≡ a ++ (b ++ (d ++ rest))
    → ys ≡ a ++ one → one ≡ b ++ two → two ≡ part ++ three → bytes_eq last three ≡ bytes_eq xs ys
last_tells xs ys a b d part rest last one two three same ends whole first second third =
    rest_tells (a ++ (b ++ d)) last three xs ys
    (whole ∙ ap (λ m. a ++ m) (sym (append_assoc b d rest)) ∙ sym (append_assoc a (b ++ d) rest) ∙ ap (λ m. (a ++ (b ++ d)) ++ m) (sym ends))
    (first ∙ ap (λ m. a ++ m) (second ∙ ap (λ m. b ++ m) (third ∙ ap (λ m. m ++ three) same) ∙ sym (append_assoc b d three)) ∙ sym (append_assoc a (b ++ d) three))
