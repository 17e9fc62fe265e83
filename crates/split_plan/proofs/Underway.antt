-- A page on its way into pieces.
use Rattle.std.proofs.Common.{◌≡◌, ℕ, ◌+◌, ◌/◌, ◌≤◌, List, [], ◌∷◌, ◌++◌, length, sym, ap, subst, ◌∙◌, append_assoc, arith}
use Rattle.std.specs.Prelude.{map}
use Rattle.std.specs.List.{AllByRecursion}
use Rattle.byte_format.specs.Format.{greatest}
use Rattle.split_plan.specs.declared.entry_list.NewEntry.{NewEntry}
use Rattle.split_plan.specs.declared.put_list.PagePut.{PagePut}
use Rattle.split_plan.specs.Cut.{front_part, back_part, cut_by, pieces_of}
use Rattle.split_plan.specs.Part.{Part}
use Rattle.split_plan.specs.Plan.{entry_of, on_pages, put_of}
use Rattle.split_plan.specs.Sizes.{CanCut, count_of, cuts_of}
use Rattle.split_plan.proofs.Counting.{can-cuts}
use Rattle.split_plan.proofs.Cutting.{can-behind}

-- what is there of the puts and entries, and what the pieces of the rest add, are those of the whole
pub record IsUnderway {A X : Type 0} (key : A → List ℕ) (bytes : Part A X → List ℕ) (Fits : Part A X → Type 0) (page free : ℕ) (whole : Part A X) (puts : List PagePut) (entries : List NewEntry) (sizes : List ℕ) (at next : ℕ) (rest : Part A X) : Type 0 where
  pub last : ℕ
  pub room : CanCut sizes last (length rest.items)
  pub pages : next + length sizes ≤ greatest
  pub put : puts ++ map (put_of bytes) (on_pages at next (cut_by key sizes next rest)) ≡ map (put_of bytes) (on_pages page free (pieces_of key free whole))
  pub entered : entries ++ map entry_of (on_pages at next (cut_by key sizes next rest)) ≡ map entry_of (on_pages page free (pieces_of key free whole))
  pub fit : AllByRecursion Fits (cut_by key sizes next rest) → AllByRecursion Fits (pieces_of key free whole)

pub begins : {A X : Type 0} (key : A → List ℕ) (bytes : Part A X → List ℕ) (Fits : Part A X → Type 0) (page free : ℕ) (whole : Part A X) (puts : List PagePut) (entries : List NewEntry) (sizes : List ℕ)
    → puts ≡ [] → entries ≡ [] → sizes ≡ cuts_of (length whole.items) → free + length sizes ≤ greatest
    → IsUnderway key bytes Fits page free whole puts entries sizes page free whole
begins key bytes Fits page free whole puts entries sizes none no_entry is pages =
    record {
      last = length whole.items / count_of (length whole.items);
      room = subst (λ (s : List ℕ). CanCut s (length whole.items / count_of (length whole.items)) (length whole.items)) (sym is) (can-cuts (length whole.items));
      pages = pages;
      put = ap (λ (ps : List PagePut). ps ++ map (put_of bytes) (on_pages page free (cut_by key sizes free whole))) none ∙ ap (λ (s : List ℕ). map (put_of bytes) (on_pages page free (cut_by key s free whole))) is;
      entered = ap (λ (es : List NewEntry). es ++ map entry_of (on_pages page free (cut_by key sizes free whole))) no_entry ∙ ap (λ (s : List ℕ). map entry_of (on_pages page free (cut_by key s free whole))) is;
      fit = λ h. subst (λ (s : List ℕ). AllByRecursion Fits (cut_by key s free whole)) is h;
    }

one_more : {B : Type 0} (xs xs' : List B) (y : B) (ys : List B) → xs' ≡ xs ++ y ∷ [] → xs' ++ ys ≡ xs ++ y ∷ ys
one_more xs xs' y ys e = ap (λ zs. zs ++ ys) e ∙ append_assoc xs (y ∷ []) ys

-- one piece is cut off
goes_on_at : {A X : Type 0} (key : A → List ℕ) (bytes : Part A X → List ℕ) (Fits : Part A X → Type 0) (page free : ℕ) (whole : Part A X) (puts puts' : List PagePut) (entries entries' : List NewEntry) (n : ℕ) (sizes : List ℕ) (at next : ℕ) (rest : Part A X)
    → IsUnderway key bytes Fits page free whole puts entries (n ∷ sizes) at next rest
    → puts' ≡ puts ++ put_of bytes (at, front_part key n next rest) ∷ [] → entries' ≡ entries ++ entry_of (at, front_part key n next rest) ∷ []
    → Fits (front_part key n next rest)
    → IsUnderway key bytes Fits page free whole puts' entries' sizes next (next + 1) (back_part key n rest)
goes_on_at key bytes Fits page free whole puts puts' entries entries' n sizes at next rest u e f fits =
    record {
      last = u.last;
      room = can-behind n sizes u.last rest.items u.room;
      pages = let h = u.pages in omega arith;
      put = one_more puts puts' _ _ e ∙ u.put;
      entered = one_more entries entries' _ _ f ∙ u.entered;
      fit = λ h. u.fit (fits, h);
    }

pub goes_on : {A X : Type 0} (key : A → List ℕ) (bytes : Part A X → List ℕ) (Fits : Part A X → Type 0) (page free : ℕ) (whole : Part A X) (puts puts' : List PagePut) (entries entries' : List NewEntry) (n : ℕ) (sizes sizes' : List ℕ) (at next next' : ℕ) (rest left right : Part A X)
    → IsUnderway key bytes Fits page free whole puts entries sizes at next rest → sizes ≡ n ∷ sizes'
    → left ≡ front_part key n next rest → right ≡ back_part key n rest → next' ≡ next + 1
    → puts' ≡ puts ++ put_of bytes (at, left) ∷ [] → entries' ≡ entries ++ entry_of (at, left) ∷ [] → Fits left
    → IsUnderway key bytes Fits page free whole puts' entries' sizes' next next' right
goes_on {A = A} {X = X} key bytes Fits page free whole puts puts' entries entries' n sizes sizes' at next next' rest left right u is l r behind e f fits =
    let u' : IsUnderway key bytes Fits page free whole puts entries (n ∷ sizes') at next rest = subst (λ (s : List ℕ). IsUnderway key bytes Fits page free whole puts entries s at next rest) is u in
    let e' : puts' ≡ puts ++ put_of bytes (at, front_part key n next rest) ∷ [] = e ∙ ap (λ (q : Part A X). puts ++ put_of bytes (at, q) ∷ []) l in
    let f' : entries' ≡ entries ++ entry_of (at, front_part key n next rest) ∷ [] = f ∙ ap (λ (q : Part A X). entries ++ entry_of (at, q) ∷ []) l in
    subst (λ (m : ℕ). IsUnderway key bytes Fits page free whole puts' entries' sizes' next m right) (sym behind)
    (subst (λ (q : Part A X). IsUnderway key bytes Fits page free whole puts' entries' sizes' next (next + 1) q) (sym r)
    (goes_on_at key bytes Fits page free whole puts puts' entries entries' n sizes' at next rest u' e' f' (subst Fits l fits)))

-- the last piece
pub ends : {A X : Type 0} (key : A → List ℕ) (bytes : Part A X → List ℕ) (Fits : Part A X → Type 0) (page free : ℕ) (whole : Part A X) (puts puts' : List PagePut) (entries entries' : List NewEntry) (sizes : List ℕ) (at next : ℕ) (rest : Part A X)
    → IsUnderway key bytes Fits page free whole puts entries sizes at next rest → sizes ≡ []
    → puts' ≡ puts ++ put_of bytes (at, rest) ∷ [] → entries' ≡ entries ++ entry_of (at, rest) ∷ [] → Fits rest
    → (puts' ≡ map (put_of bytes) (on_pages page free (pieces_of key free whole)))
    × (entries' ≡ map entry_of (on_pages page free (pieces_of key free whole)))
    × AllByRecursion Fits (pieces_of key free whole)
ends key bytes Fits page free whole puts puts' entries entries' sizes at next rest u is e f fits =
    let u' : IsUnderway key bytes Fits page free whole puts entries [] at next rest = subst (λ (s : List ℕ). IsUnderway key bytes Fits page free whole puts entries s at next rest) is u in
    (e ∙ u'.put, f ∙ u'.entered, u'.fit (fits, tt))
