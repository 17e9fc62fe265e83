-- Lists of exact items are exact.
use Rattle.std.proofs.Common.{◌≡◌, ℕ, zero, suc, ◌<◌, ◌≤◌, Bool, true, false, cond, eqb, List, [], ◌∷◌, ◌++◌, length, Option, Some, Ok, Err, refl, sym, ap, subst, ◌∙◌, append_assoc, arith, inl, inr}
use Rattle.std.specs.Prelude.{◌&&◌}
use Rattle.std.proofs.lemmas.Bool.{and_parts, and_from, eqb-true}
use Rattle.std.proofs.lemmas.List.{length-append}
use Rattle.byte_format.specs.Format.{Reading, ◌>>=◌, Format, more_at, list_fits, list_spelling, list_from, list_at, list_of}
use Rattle.byte_format.specs.Whole.{IsBytes, IsExact}
use Rattle.byte_format.proofs.Steps.{bind_ok, bind_err, ok_is, never_err, err_is, IsBytes-along, IsBytes-behind, IsBytes-rest}

-- what the byte of a continuation was
abbrev pub continuation : Bool → ℕ
continuation true = 1
continuation false = 0

pub more_takes : (may_end : Bool) (bytes : List ℕ) (x : Bool × List ℕ) → more_at may_end bytes ≡ Ok x → (bytes ≡ continuation x.0 ∷ x.1) × (x.0 ≡ false → may_end ≡ true)
unfolding more_at
more_takes may_end [] x h = absurd cc
more_takes may_end (b ∷ bs) x h = on (eqb b 1) refl (eqb b 0 && may_end) refl h
  where
    Goal : Bool × List ℕ → Type 0
    Goal y = (b ∷ bs ≡ continuation y.0 ∷ y.1) × (y.0 ≡ false → may_end ≡ true)

    on : (one : Bool) → eqb b 1 ≡ one → (ends : Bool) → (eqb b 0 && may_end) ≡ ends → cond one (Ok (true, bs)) (cond ends (Ok (false, bs)) (Err (length (b ∷ bs)))) ≡ Ok x → Goal x
    on true is ends _ h = subst Goal (ok_is (true, bs) x h) (ap (λ (n : ℕ). n ∷ bs) (eqb-true b 1 is), λ no. absurd cc)
    on false _ true is h = let p = and_parts (eqb b 0) may_end is in subst Goal (ok_is (false, bs) x h) (ap (λ (n : ℕ). n ∷ bs) (eqb-true b 0 p.0), λ _. p.1)
    on false _ false _ h = absurd cc

pub more_within : (may_end : Bool) (bytes : List ℕ) (left : ℕ) → more_at may_end bytes ≡ Err left → length bytes ≡ left
unfolding more_at
more_within may_end [] left h = cc
more_within may_end (b ∷ bs) left h = on (eqb b 1) (eqb b 0 && may_end) h
  where
    on : (one ends : Bool) → cond {A = Reading Bool} one (Ok (true, bs)) (cond ends (Ok (false, bs)) (Err (length (b ∷ bs)))) ≡ Err left → length (b ∷ bs) ≡ left
    on true ends h = absurd cc
    on false true h = absurd cc
    on false false h = cc

pub more_again : (may_end : Bool) (rest : List ℕ) → more_at may_end (1 ∷ rest) ≡ Ok (true, rest)
unfolding more_at
more_again may_end rest = refl

pub end_again : (rest : List ℕ) → more_at true (0 ∷ rest) ≡ Ok (false, rest)
unfolding more_at
end_again rest = refl

-- an item, and the items behind it
abbrev pub list_next : {A : Type 0} → ℕ → (Option A → Format A) → Option A → List ℕ → Reading (List A)
list_next room item before rest = (item before).reading rest >>= λ x. list_from room true item (Some x.0) x.1 >>= λ xs. Ok (x.0 ∷ xs.0, xs.1)

-- what is read behind a continuation byte
abbrev pub list_behind : {A : Type 0} → ℕ → (Option A → Format A) → Option A → Bool × List ℕ → Reading (List A)
list_behind room item before (true, rest) = list_next room item before rest
list_behind room item before (false, rest) = Ok ([], rest)

pub list_from-suc : {A : Type 0} (room : ℕ) (may_end : Bool) (item : Option A → Format A) (before : Option A) (bytes : List ℕ) (more : Bool × List ℕ) → more_at may_end bytes ≡ Ok more → list_from (suc room) may_end item before bytes ≡ list_behind room item before more
list_from-suc room may_end item before bytes (true, rest) h = rw h refl
list_from-suc room may_end item before bytes (false, rest) h = rw h refl

-- a first item and the rest, or the end
pub list_takes : {A : Type 0} (item : Option A → Format A) → ((b : Option A) → IsExact (item b)) → (room : ℕ) (may_end : Bool) (before : Option A) (bytes : List ℕ) (x : List A × List ℕ) → IsBytes bytes
    → list_from room may_end item before bytes ≡ Ok x → (list_fits may_end item before x.0 ≡ true) × (bytes ≡ list_spelling item before x.0 ++ x.1)
list_takes item each zero may_end before bytes x fits h = absurd cc
list_takes {A = A} item each (suc room) may_end before bytes x fits h =
    let after : Bool × List ℕ → Reading (List A) = λ more. cond more.0 (list_next room item before more.1) (Ok ([], more.1)) in
    let a = bind_ok (more_at may_end bytes) after x h in
    let m = more_takes may_end bytes a.0 a.1 in
    on (list_takes item each room true) a.0.0 a.0.1 m.0 m.1 a.2
  where
    Goal : List ℕ → List A × List ℕ → Type 0
    Goal bs y = (list_fits may_end item before y.0 ≡ true) × (bs ≡ list_spelling item before y.0 ++ y.1)

    on : ((b : Option A) (bs : List ℕ) (y : List A × List ℕ) → IsBytes bs → list_from room true item b bs ≡ Ok y → (list_fits true item b y.0 ≡ true) × (bs ≡ list_spelling item b y.0 ++ y.1)) → (more : Bool) (rest : List ℕ) → bytes ≡ continuation more ∷ rest → (more ≡ false → may_end ≡ true) → cond {A = Reading (List A)} more (list_next room item before rest) (Ok ([], rest)) ≡ Ok x → Goal bytes x
    on ih false rest is may h =
        let made : List A × List ℕ = ([], rest) in
        subst (Goal bytes) (ok_is made x h) (may refl, is)
    on ih true rest is may h =
        let rest_fits = IsBytes-rest 1 rest (IsBytes-along bytes _ is fits) in
        let a = bind_ok ((item before).reading rest) (λ (y : A × List ℕ). list_from room true item (Some y.0) y.1 >>= λ ys. Ok (y.0 ∷ ys.0, ys.1)) x h in
        let p = (each before).takes rest a.0 rest_fits a.1 in
        let tail_fits = IsBytes-behind ((item before).spelling a.0.0) a.0.1 (IsBytes-along rest _ p.1 rest_fits) in
        let b = bind_ok (list_from room true item (Some a.0.0) a.0.1) (λ (ys : List A × List ℕ). Ok (a.0.0 ∷ ys.0, ys.1)) x a.2 in
        let q = ih (Some a.0.0) a.0.1 b.0 tail_fits b.1 in
        let made : List A × List ℕ = (a.0.0 ∷ b.0.0, b.0.1) in
        let parts : rest ≡ (item before).spelling a.0.0 ++ list_spelling item (Some a.0.0) b.0.0 ++ b.0.1 =
        p.1 ∙ ap (λ (r : List ℕ). (item before).spelling a.0.0 ++ r) q.1 ∙ sym (append_assoc ((item before).spelling a.0.0) (list_spelling item (Some a.0.0) b.0.0) b.0.1) in
        subst (Goal bytes) (ok_is made x b.2) (and_from _ _ p.0 q.0, is ∙ ap (λ (r : List ℕ). 1 ∷ r) parts)

pub list_again : {A : Type 0} (item : Option A → Format A) → ((b : Option A) → IsExact (item b)) → (xs : List A) (room : ℕ) (may_end : Bool) (before : Option A) (rest : List ℕ) → length xs < room
    → list_fits may_end item before xs ≡ true → list_from room may_end item before (list_spelling item before xs ++ rest) ≡ Ok (xs, rest)
list_again item each xs zero may_end before rest short fits = absurd (omega arith)
list_again item each [] (suc room) true before rest short fits = rw (end_again rest) refl
list_again item each [] (suc room) false before rest short fits = absurd cc
list_again item each (x ∷ xs) (suc room) may_end before rest short fits =
    let p = and_parts ((item before).fits x) (list_fits true item (Some x) xs) fits in
    let tail = list_again item each xs room true (Some x) rest (omega arith) p.1 in
    ap (λ (bs : List ℕ). list_from (suc room) may_end item before (1 ∷ bs)) (append_assoc ((item before).spelling x) (list_spelling item (Some x) xs) rest)
    ∙ rw (more_again may_end ((item before).spelling x ++ (list_spelling item (Some x) xs ++ rest)), (each before).again x (list_spelling item (Some x) xs ++ rest) p.0, tail) refl

pub list_within : {A : Type 0} (item : Option A → Format A) → ((b : Option A) → IsExact (item b)) → (room : ℕ) (may_end : Bool) (before : Option A) (bytes : List ℕ) (left : ℕ) → IsBytes bytes
    → list_from room may_end item before bytes ≡ Err left → left ≤ length bytes
list_within item each zero may_end before bytes left fits h = omega (arith, err_is (length bytes) left h)
list_within {A = A} item each (suc room) may_end before bytes left fits h =
    let after : Bool × List ℕ → Reading (List A) = λ more. cond more.0 (list_next room item before more.1) (Ok ([], more.1)) in
    elim (bind_err (more_at may_end bytes) after left h) [
      | inl a ↦ omega (arith, more_within may_end bytes left a)
      | inr a ↦ on (list_within item each room true) a.0.0 a.0.1 (more_takes may_end bytes a.0 a.1).0 a.2
    ]
  where
    on : ((b : Option A) (bs : List ℕ) (l : ℕ) → IsBytes bs → list_from room true item b bs ≡ Err l → l ≤ length bs) → (more : Bool) (rest : List ℕ) → bytes ≡ continuation more ∷ rest → cond {A = Reading (List A)} more (list_next room item before rest) (Ok ([], rest)) ≡ Err left → left ≤ length bytes
    on ih false rest is h = absurd (never_err _ left h)
    on ih true rest is h =
        let rest_fits = IsBytes-rest 1 rest (IsBytes-along bytes _ is fits) in
        let longer : suc (length rest) ≡ length bytes = ap length (sym is) in
        elim (bind_err ((item before).reading rest) (λ (y : A × List ℕ). list_from room true item (Some y.0) y.1 >>= λ ys. Ok (y.0 ∷ ys.0, ys.1)) left h) [
          | inl a ↦ omega (arith, (each before).within rest left rest_fits a)
          | inr a ↦
              let p = (each before).takes rest a.0 rest_fits a.1 in
              let tail_fits = IsBytes-behind ((item before).spelling a.0.0) a.0.1 (IsBytes-along rest _ p.1 rest_fits) in
              elim (bind_err (list_from room true item (Some a.0.0) a.0.1) (λ (ys : List A × List ℕ). Ok (a.0.0 ∷ ys.0, ys.1)) left a.2) [
                | inl b ↦ omega (arith, ih (Some a.0.0) a.0.1 left tail_fits b, ap length p.1, length-append ((item before).spelling a.0.0) a.0.1)
                | inr b ↦ absurd (never_err _ left b.2)
              ]
        ]

-- each item takes a byte
pub length-list_spelling : {A : Type 0} (item : Option A → Format A) (before : Option A) (xs : List A) → length xs < length (list_spelling item before xs)
length-list_spelling item before [] = omega arith
length-list_spelling item before (x ∷ xs) = omega (arith, length-list_spelling item (Some x) xs, length-append ((item before).spelling x) (list_spelling item (Some x) xs))

pub list_exact : {A : Type 0} (may_end : Bool) (item : Option A → Format A) (before : Option A) → ((b : Option A) → IsExact (item b)) → IsExact (list_of may_end item before)
unfolding list_at
list_exact may_end item before each = record {
  takes = λ bytes x fits h. list_takes item each (suc (length bytes)) may_end before bytes x fits h;
  again = λ v rest h. list_again item each v (suc (length (list_spelling item before v ++ rest))) may_end before rest (omega (arith, length-list_spelling item before v, length-append (list_spelling item before v) rest)) h;
  within = λ bytes left fits h. list_within item each (suc (length bytes)) may_end before bytes left fits h;
}

-- ---- a list under weaker rules

-- g takes what f takes, and spells it alike
pub record IsWider {A : Type 0} (f g : Format A) : Type 0 where
  pub fits : (x : A) → f.fits x ≡ true → g.fits x ≡ true
  pub alike : (x : A) → f.spelling x ≡ g.spelling x

pub list_fits-wider : {A : Type 0} (f g : Option A → Format A) → ((b : Option A) → IsWider (f b) (g b)) → (may_end : Bool) (before : Option A) (xs : List A) → list_fits may_end f before xs ≡ true → list_fits true g before xs ≡ true
list_fits-wider f g wider may_end before [] h = refl
list_fits-wider f g wider may_end before (x ∷ xs) h =
    let p = and_parts ((f before).fits x) (list_fits true f (Some x) xs) h in
    and_from _ _ ((wider before).fits x p.0) (list_fits-wider f g wider true (Some x) xs p.1)

pub list_spelling-wider : {A : Type 0} (f g : Option A → Format A) → ((b : Option A) → IsWider (f b) (g b)) → (before : Option A) (xs : List A) → list_spelling f before xs ≡ list_spelling g before xs
list_spelling-wider f g wider before [] = refl
list_spelling-wider f g wider before (x ∷ xs) =
    ap (λ (s : List ℕ). 1 ∷ s ++ list_spelling f (Some x) xs) ((wider before).alike x) ∙ ap (λ (s : List ℕ). 1 ∷ (g before).spelling x ++ s) (list_spelling-wider f g wider (Some x) xs)

-- so what is read under the one is read under the other
pub list_at-wider : {A : Type 0} (f g : Option A → Format A) → ((b : Option A) → IsExact (f b)) → ((b : Option A) → IsExact (g b)) → ((b : Option A) → IsWider (f b) (g b)) → (may_end : Bool) (before : Option A) (bytes : List ℕ) (x : List A × List ℕ)
    → IsBytes bytes → list_at may_end f before bytes ≡ Ok x → list_at true g before bytes ≡ Ok x
list_at-wider f g exact_f exact_g wider may_end before bytes x fits h =
    let p = (list_exact may_end f before exact_f).takes bytes x fits h in
    let is : bytes ≡ list_spelling g before x.0 ++ x.1 = p.1 ∙ ap (λ (s : List ℕ). s ++ x.1) (list_spelling-wider f g wider before x.0) in
    ap (list_at true g before) is ∙ (list_exact true g before exact_g).again x.0 x.1 (list_fits-wider f g wider may_end before x.0 p.0)
