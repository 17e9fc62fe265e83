-- A list that was checked, read again item by item.
use Rattle.std.proofs.Common.{◌≡◌, ℕ, suc, ◌<◌, true, false, List, [], ◌∷◌, ◌++◌, length, Option, Some, None, Ok, Err, refl, sym, ap, subst, ◌∙◌, arith}
use Rattle.std.specs.Prelude.{IsOk, is_ok}
use Rattle.std.proofs.lemmas.List.{length-append}
use Rattle.byte_format.specs.Format.{Reading, ◌>>=◌, Format, more_at, list_fits, list_spelling, list_from, list_at}
use Rattle.byte_format.specs.Whole.{IsBytes, IsExact}
use Rattle.byte_format.specs.Plain.{items_of, items_in, IsListed}
use Rattle.byte_format.proofs.Steps.{bind_ok, ok_is, never_err, IsBytes-along, IsBytes-behind, IsBytes-rest}
use Rattle.byte_format.proofs.Lists.{more_takes, list_next, list_from-suc, list_takes, list_exact, length-list_spelling}

read_ok : {A : Type 0} (r : Reading A) → IsOk r → (x : A × List ℕ) × (r ≡ Ok x)
read_ok (Ok x) h = (x, refl)
read_ok (Err d) h = absurd cc

pub listed_of : {A : Type 0} (f : Format A) (bytes : List ℕ) (x : List A × List ℕ) → list_at true (λ _. f) None bytes ≡ Ok x → IsListed f bytes × (items_in f bytes ≡ x.0)
listed_of f bytes x h = (ap is_ok h, ap items_of h)

-- the first item and the rest of a list
pub record Splits {A : Type 0} (f : Format A) (bytes behind : List ℕ) : Type 0 where
  pub item : A
  pub rest : List ℕ
  pub read : f.reading behind ≡ Ok (item, rest)
  pub listed : IsListed f rest
  pub items : items_in f bytes ≡ item ∷ items_in f rest

-- a continuation byte can be read
pub more_of : {A : Type 0} (f : Format A) (bytes : List ℕ) (left : ℕ) → IsListed f bytes → more_at true bytes ≡ Err left → ⊥
unfolding list_at
more_of f bytes left listed h = let r = read_ok (list_at true (λ _. f) None bytes) listed in let e : list_from (suc (length bytes)) true (λ _. f) None bytes ≡ Err left = rw h refl in absurd (never_err r.0 left (sym r.1 ∙ e))

pub ended_of : {A : Type 0} (f : Format A) (bytes behind : List ℕ) → more_at true bytes ≡ Ok (false, behind) → items_in f bytes ≡ []
unfolding list_at
ended_of f bytes behind h = ap items_of (list_from-suc (length bytes) true (λ _. f) None bytes (false, behind) h)

-- the item before makes no difference
list_spelling-plain : {A : Type 0} (f : Format A) (b c : Option A) (xs : List A) → list_spelling (λ _. f) b xs ≡ list_spelling (λ _. f) c xs
list_spelling-plain f b c [] = refl
list_spelling-plain f b c (x ∷ xs) = refl

list_fits-plain : {A : Type 0} (f : Format A) (b c : Option A) (xs : List A) → list_fits true (λ _. f) b xs ≡ list_fits true (λ _. f) c xs
list_fits-plain f b c [] = refl
list_fits-plain f b c (x ∷ xs) = refl

pub split_of : {A : Type 0} (f : Format A) → IsExact f → (bytes behind : List ℕ) → IsBytes bytes → IsListed f bytes → more_at true bytes ≡ Ok (true, behind) → Splits f bytes behind
unfolding list_at
split_of {A = A} f exact bytes behind fits listed h =
    let r = read_ok (list_at true (λ _. f) None bytes) listed in
    let next : list_next (length bytes) (λ _. f) None behind ≡ Ok r.0 = sym (list_from-suc (length bytes) true (λ _. f) None bytes (true, behind) h) ∙ r.1 in
    let a = bind_ok (f.reading behind) (λ (y : A × List ℕ). list_from (length bytes) true (λ _. f) (Some y.0) y.1 >>= λ ys. Ok (y.0 ∷ ys.0, ys.1)) r.0 next in
    let b = bind_ok (list_from (length bytes) true (λ _. f) (Some a.0.0) a.0.1) (λ (ys : List A × List ℕ). Ok (a.0.0 ∷ ys.0, ys.1)) r.0 a.2 in
    let behind_fits = IsBytes-rest 1 behind (IsBytes-along bytes _ (more_takes true bytes (true, behind) h).0 fits) in
    let rest_fits = IsBytes-behind (f.spelling a.0.0) a.0.1 (IsBytes-along behind _ (exact.takes behind a.0 behind_fits a.1).1 behind_fits) in
    let t = list_takes (λ (_ : Option A). f) (λ _. exact) (length bytes) true (Some a.0.0) a.0.1 b.0 rest_fits b.1 in
    let again : list_at true (λ _. f) None a.0.1 ≡ Ok b.0 =
    ap (list_at true (λ _. f) None) (t.1 ∙ ap (λ (s : List ℕ). s ++ b.0.1) (list_spelling-plain f (Some a.0.0) None b.0.0))
    ∙ (list_exact true (λ (_ : Option A). f) None (λ _. exact)).again b.0.0 b.0.1 (sym (list_fits-plain f (Some a.0.0) None b.0.0) ∙ t.0) in
    let l = listed_of f a.0.1 b.0 again in
    let whole = listed_of f bytes r.0 r.1 in
    let made : List A × List ℕ = (a.0.0 ∷ b.0.0, b.0.1) in
    record {
      item = a.0.0;
      rest = a.0.1;
      read = a.1;
      listed = l.0;
      items = whole.1 ∙ ap (λ (y : List A × List ℕ). y.0) (sym (ok_is made r.0 b.2)) ∙ ap (λ (ys : List A). a.0.0 ∷ ys) (sym l.1);
    }

-- a first item that was read
pub split_is : {A : Type 0} (f : Format A) → IsExact f → (bytes behind : List ℕ) (x : A × List ℕ) → IsBytes bytes → IsListed f bytes → more_at true bytes ≡ Ok (true, behind) → f.reading behind ≡ Ok x → IsListed f x.1 × (items_in f bytes ≡ x.0 ∷ items_in f x.1)
split_is {A = A} f exact bytes behind x fits listed h read =
    let s = split_of f exact bytes behind fits listed h in
    let made : A × List ℕ = (s.item, s.rest) in
    subst (λ (y : A × List ℕ). IsListed f y.1 × (items_in f bytes ≡ y.0 ∷ items_in f y.1)) (ok_is made x (sym s.read ∙ read)) (s.listed, s.items)

-- an item can be read
pub item_of : {A : Type 0} (f : Format A) → IsExact f → (bytes behind : List ℕ) (left : ℕ) → IsBytes bytes → IsListed f bytes → more_at true bytes ≡ Ok (true, behind) → f.reading behind ≡ Err left → ⊥
item_of {A = A} f exact bytes behind left fits listed h read =
    let s = split_of f exact bytes behind fits listed h in
    let made : A × List ℕ = (s.item, s.rest) in
    never_err made left (sym s.read ∙ read)

-- each item takes a byte
pub length-items_in : {A : Type 0} (f : Format A) → IsExact f → (bytes : List ℕ) → IsBytes bytes → IsListed f bytes → length (items_in f bytes) < length bytes
length-items_in {A = A} f exact bytes fits listed =
    let r = read_ok (list_at true (λ _. f) None bytes) listed in
    let l = listed_of f bytes r.0 r.1 in
    let p = (list_exact true (λ (_ : Option A). f) None (λ _. exact)).takes bytes r.0 fits r.1 in
    omega (arith, ap length l.1, ap length p.1, length-append (list_spelling (λ _. f) None r.0.0) r.0.1, length-list_spelling (λ (_ : Option A). f) None r.0.0)
