-- A page that is cut by sizes is cut as it should be.
use Rattle.std.proofs.Common.{◌≡◌, ℕ, zero, suc, ◌+◌, ◌/◌, ◌<◌, ◌≤◌, List, [], ◌∷◌, ◌++◌, length, refl, sym, ap, subst, ◌∙◌, arith, take, drop, length-drop}
use Rattle.std.specs.Prelude.{map}
use Rattle.std.specs.List.{AllByRecursion, flat_map}
use Rattle.std.proofs.lemmas.List.{append-nil, take-append-drop, length-take-le}
use Rattle.split_plan.specs.Cut.{first_key_of, EndsAt, FencesMeet, IsNewPart, BeginAs, IsCut, front_part, back_part, cut_by, pieces_of}
use Rattle.split_plan.specs.Part.{Part}
use Rattle.split_plan.specs.Sizes.{CanCut, count_of, cuts_of}
use Rattle.split_plan.proofs.Counting.{can-cuts, cuts-and-last}

pub can-behind : {A : Type 0} (n : ℕ) (sizes : List ℕ) (last : ℕ) (xs : List A) → CanCut (n ∷ sizes) last (length xs) → CanCut sizes last (length (drop n xs))
can-behind n sizes last xs can = subst (CanCut sizes last) (sym (length-drop n xs)) can.2

items-cut : {A X : Type 0} (key : A → List ℕ) (sizes : List ℕ) (free : ℕ) (p : Part A X) → flat_map (λ q. q.items) (cut_by key sizes free p) ≡ p.items
items-cut key [] free p = append-nil p.items
items-cut key (n ∷ sizes) free p = ap (λ xs. take n p.items ++ xs) (items-cut key sizes (free + 1) (back_part key n p)) ∙ take-append-drop n p.items

lengths-cut : {A X : Type 0} (key : A → List ℕ) (sizes : List ℕ) (last free : ℕ) (p : Part A X) → CanCut sizes last (length p.items)
    → map (λ q. length q.items) (cut_by key sizes free p) ≡ sizes ++ last ∷ []
lengths-cut key [] last free p can = ap (λ n. n ∷ []) can
lengths-cut key (n ∷ sizes) last free p can =
    let short : n ≤ length p.items = omega arith in
    ap (λ m. m ∷ map (λ q. length q.items) (cut_by key sizes (free + 1) (back_part key n p))) (length-take-le n p.items short)
    ∙ ap (λ ms. n ∷ ms) (lengths-cut key sizes last (free + 1) (back_part key n p) (can-behind n sizes last p.items can))

common-cut : {A X : Type 0} (key : A → List ℕ) (sizes : List ℕ) (free : ℕ) (p : Part A X) (x : X) → p.common ≡ x → AllByRecursion (λ q. q.common ≡ x) (cut_by key sizes free p)
common-cut key [] free p x e = (e, tt)
common-cut key (n ∷ sizes) free p x e = (e, common-cut key sizes (free + 1) (back_part key n p) x e)

ends-cut : {A X : Type 0} (key : A → List ℕ) (n : ℕ) (sizes : List ℕ) (free : ℕ) (whole p : Part A X) → EndsAt free whole (front_part key n free p) (cut_by key sizes (free + 1) (back_part key n p))
ends-cut key n [] free whole p = (refl, refl)
ends-cut key n (m ∷ sizes) free whole p = (refl, refl)

fences-cut : {A X : Type 0} (key : A → List ℕ) (sizes : List ℕ) (free : ℕ) (whole p : Part A X) → p.right ≡ whole.right → p.high ≡ whole.high → FencesMeet free whole (cut_by key sizes free p)
fences-cut key [] free whole p r h = ((r, h), tt)
fences-cut key (n ∷ sizes) free whole p r h = (ends-cut key n sizes free whole p, fences-cut key sizes (free + 1) whole (back_part key n p) r h)

first-of-front : {A : Type 0} (key : A → List ℕ) (n : ℕ) (xs : List A) → 0 < n → first_key_of key xs ≡ first_key_of key (take n xs)
first-of-front key zero xs some = absurd (omega arith)
first-of-front key (suc n) [] some = refl
first-of-front key (suc n) (x ∷ xs) some = refl

new-cut : {A X : Type 0} (key : A → List ℕ) (sizes : List ℕ) (last free : ℕ) (p : Part A X) → CanCut sizes last (length p.items) → IsNewPart key p → AllByRecursion (IsNewPart key) (cut_by key sizes free p)
new-cut key [] last free p can new = (new, tt)
new-cut key (n ∷ sizes) last free p can new = (
  record { version = new.version; low = new.low ∙ first-of-front key n p.items can.0 },
  new-cut key sizes last (free + 1) (back_part key n p) (can-behind n sizes last p.items can) (record { version = refl; low = refl }),
)

begin-cut : {A X : Type 0} (key : A → List ℕ) (sizes : List ℕ) (last free : ℕ) (p : Part A X) → CanCut sizes last (length p.items) → BeginAs key p (cut_by key sizes free p)
begin-cut key [] last free p can = (refl, refl, tt)
begin-cut key (n ∷ sizes) last free p can = (refl, refl, new-cut key sizes last (free + 1) (back_part key n p) (can-behind n sizes last p.items can) (record { version = refl; low = refl }))

-- the pieces of a page are a cut of it
pub pieces-are-a-cut : {A X : Type 0} (key : A → List ℕ) (free : ℕ) (whole : Part A X) → IsCut key free whole (pieces_of key free whole)
pieces-are-a-cut key free whole =
    let len = length whole.items in
    record {
      items = items-cut key (cuts_of len) free whole;
      sizes = lengths-cut key (cuts_of len) (len / count_of len) free whole (can-cuts len) ∙ cuts-and-last len;
      common = common-cut key (cuts_of len) free whole whole.common refl;
      begins = begin-cut key (cuts_of len) (len / count_of len) free whole (can-cuts len);
      fences = fences-cut key (cuts_of len) free whole whole refl refl;
    }
