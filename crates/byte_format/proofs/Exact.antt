-- Each combinator of exact formats is exact.
use Rattle.std.proofs.Common.{◌≡◌, ℕ, ◌≤◌, Bool, true, false, cond, eqb, List, [], ◌∷◌, ◌++◌, length, Option, Some, None, Ok, Err, refl, sym, ap, subst, ◌∙◌, append_assoc, arith, inl, inr}
use Rattle.std.specs.Prelude.{◌&&◌}
use Rattle.std.proofs.lemmas.Bool.{and_parts, and_from, eqb-true, eq-eqb}
use Rattle.std.proofs.lemmas.List.{length-append}
use Rattle.byte_format.specs.Format.{Reading, ◌>>=◌, Format, guarded, ruled, ◌then◌, mark_at, behind, option_fits, option_spelling, option_at, only_where, seen_as}
use Rattle.byte_format.specs.Whole.{IsExact}
use Rattle.byte_format.proofs.Steps.{bind_ok, bind_err, ok_is, never_err, guarded_ok, guarded_err, IsBytes-along, IsBytes-behind, IsBytes-rest}

pub ruled_exact : {A : Type 0} (rule : A → Bool) (f : Format A) → IsExact f → IsExact (ruled rule f)
ruled_exact {A = A} rule f e = record {
  takes = λ bytes x fits h.
      let a = bind_ok (f.reading bytes) (λ y. guarded (rule y.0) bytes y) x h in
      let g = guarded_ok (rule a.0.0) bytes a.0 x a.2 in
      let p = e.takes bytes a.0 fits a.1 in
      subst (λ (y : A × List ℕ). ((f.fits y.0 && rule y.0) ≡ true) × (bytes ≡ f.spelling y.0 ++ y.1)) g.1 (and_from _ _ p.0 g.0, p.1);
  again = λ v rest h.
      let p = and_parts (f.fits v) (rule v) h in
      rw (e.again v rest p.0, p.1) refl;
  within = λ bytes left fits h.
      elim (bind_err (f.reading bytes) (λ y. guarded (rule y.0) bytes y) left h) [
        | inl a ↦ e.within bytes left fits a
        | inr b ↦ omega (arith, guarded_err (rule b.0.0) bytes b.0 left b.2)
      ];
}

-- what is left behind a value that was taken is no longer than the bytes
shorter : (bytes front rest : List ℕ) (left : ℕ) → bytes ≡ front ++ rest → left ≤ length rest → left ≤ length bytes
shorter bytes front rest left e h = omega (arith, ap length e, length-append front rest)

pub then_exact : {A B : Type 0} (f : Format A) (g : A → Format B) → IsExact f → ((x : A) → IsExact (g x)) → IsExact (f then g)
then_exact {A = A} {B = B} f g e each = record {
  takes = λ bytes x fits h.
      let after : A × List ℕ → Reading (A × B) = λ a. (g a.0).reading a.1 >>= λ b. Ok ((a.0, b.0), b.1) in
      let a = bind_ok (f.reading bytes) after x h in
      let p = e.takes bytes a.0 fits a.1 in
      let rest_fits = IsBytes-behind (f.spelling a.0.0) a.0.1 (IsBytes-along bytes _ p.1 fits) in
      let b = bind_ok ((g a.0.0).reading a.0.1) (λ (b : B × List ℕ). Ok ((a.0.0, b.0), b.1)) x a.2 in
      let q = (each a.0.0).takes a.0.1 b.0 rest_fits b.1 in
      let parts : bytes ≡ f.spelling a.0.0 ++ (g a.0.0).spelling b.0.0 ++ b.0.1 =
      p.1 ∙ ap (λ (r : List ℕ). f.spelling a.0.0 ++ r) q.1 ∙ sym (append_assoc (f.spelling a.0.0) ((g a.0.0).spelling b.0.0) b.0.1) in
      let made : (A × B) × List ℕ = ((a.0.0, b.0.0), b.0.1) in
      subst (λ (y : (A × B) × List ℕ). ((f.fits y.0.0 && (g y.0.0).fits y.0.1) ≡ true) × (bytes ≡ f.spelling y.0.0 ++ (g y.0.0).spelling y.0.1 ++ y.1)) (ok_is made x b.2) (and_from _ _ p.0 q.0, parts);
  again = λ v rest h.
      let p = and_parts (f.fits v.0) ((g v.0).fits v.1) h in
      ap (λ (bs : List ℕ). f.reading bs >>= λ a. (g a.0).reading a.1 >>= λ b. Ok ((a.0, b.0), b.1)) (append_assoc (f.spelling v.0) ((g v.0).spelling v.1) rest)
      ∙ rw (e.again v.0 ((g v.0).spelling v.1 ++ rest) p.0, (each v.0).again v.1 rest p.1) refl;
  within = λ bytes left fits h.
      let after : A × List ℕ → Reading (A × B) = λ a. (g a.0).reading a.1 >>= λ b. Ok ((a.0, b.0), b.1) in
      elim (bind_err (f.reading bytes) after left h) [
        | inl a ↦ e.within bytes left fits a
        | inr a ↦
            let p = e.takes bytes a.0 fits a.1 in
            let rest_fits = IsBytes-behind (f.spelling a.0.0) a.0.1 (IsBytes-along bytes _ p.1 fits) in
            elim (bind_err ((g a.0.0).reading a.0.1) (λ (b : B × List ℕ). Ok ((a.0.0, b.0), b.1)) left a.2) [
              | inl b ↦ shorter bytes (f.spelling a.0.0) a.0.1 left p.1 ((each a.0.0).within a.0.1 left rest_fits b)
              | inr b ↦ absurd (never_err _ left b.2)
            ]
      ];
}

mark_takes : (mark : ℕ) (bytes rest : List ℕ) → mark_at mark bytes ≡ Ok rest → bytes ≡ mark ∷ rest
unfolding mark_at
mark_takes mark [] rest h = absurd cc
mark_takes mark (b ∷ bs) rest h = on (eqb b mark) refl h
  where
    on : (t : Bool) → eqb b mark ≡ t → (cond t (Ok bs) (Err (length (b ∷ bs)))) ≡ Ok rest → b ∷ bs ≡ mark ∷ rest
    on true same h = let e = eqb-true b mark same in cc
    on false same h = absurd cc

mark_again : (mark : ℕ) (rest : List ℕ) → mark_at mark (mark ∷ rest) ≡ Ok rest
unfolding mark_at
mark_again mark rest = rw (eq-eqb mark mark refl) refl

mark_within : (mark : ℕ) (bytes : List ℕ) (left : ℕ) → mark_at mark bytes ≡ Err left → length bytes ≡ left
unfolding mark_at
mark_within mark [] left h = cc
mark_within mark (b ∷ bs) left h = on (eqb b mark) h
  where
    on : (t : Bool) → (cond t (Ok bs) (Err (length (b ∷ bs)))) ≡ Err left → length (b ∷ bs) ≡ left
    on true h = absurd cc
    on false h = cc

pub behind_exact : {A : Type 0} (mark : ℕ) (f : Format A) → IsExact f → IsExact (behind mark f)
behind_exact mark f e = record {
  takes = λ bytes x fits h.
      let a = bind_ok (mark_at mark bytes) f.reading x h in
      let m = mark_takes mark bytes a.0 a.1 in
      let p = e.takes a.0 x (IsBytes-rest mark a.0 (IsBytes-along bytes _ m fits)) a.2 in
      (p.0, m ∙ ap (λ (r : List ℕ). mark ∷ r) p.1);
  again = λ v rest h. rw (mark_again mark (f.spelling v ++ rest)) (e.again v rest h);
  within = λ bytes left fits h.
      elim (bind_err (mark_at mark bytes) f.reading left h) [
        | inl a ↦ omega (arith, mark_within mark bytes left a)
        | inr a ↦
            let m = mark_takes mark bytes a.0 a.1 in
            shorter bytes (mark ∷ []) a.0 left m (e.within a.0 left (IsBytes-rest mark a.0 (IsBytes-along bytes _ m fits)) a.2)
      ];
}

some_again : {A : Type 0} (f : Format A) → IsExact f → (v : Option A) (rest : List ℕ) → option_fits true f v ≡ true → option_at true f (option_spelling f v ++ rest) ≡ Ok (v, rest)
some_again f e (Some x) rest h = rw (e.again x rest h) refl
some_again f e None rest h = absurd cc

none_again : {A : Type 0} (f : Format A) (v : Option A) (rest : List ℕ) → option_fits false f v ≡ true → option_at false f (option_spelling f v ++ rest) ≡ Ok (v, rest)
none_again f (Some x) rest h = absurd cc
none_again f None rest h = refl

pub only_where_exact : {A : Type 0} (there : Bool) (f : Format A) → IsExact f → IsExact (only_where there f)
only_where_exact {A = A} true f e = record {
  takes = λ bytes x fits h.
      let a = bind_ok (f.reading bytes) (λ (y : A × List ℕ). Ok (Some y.0, y.1)) x h in
      let p = e.takes bytes a.0 fits a.1 in
      let made : Option A × List ℕ = (Some a.0.0, a.0.1) in
      subst (λ (y : Option A × List ℕ). (option_fits true f y.0 ≡ true) × (bytes ≡ option_spelling f y.0 ++ y.1)) (ok_is made x a.2) p;
  again = λ v rest h. some_again f e v rest h;
  within = λ bytes left fits h.
      elim (bind_err (f.reading bytes) (λ (y : A × List ℕ). Ok (Some y.0, y.1)) left h) [
        | inl a ↦ e.within bytes left fits a
        | inr b ↦ absurd (never_err _ left b.2)
      ];
}
only_where_exact {A = A} false f e = record {
  takes = λ bytes x fits h.
      let made : Option A × List ℕ = (None, bytes) in
      subst (λ (y : Option A × List ℕ). (option_fits false f y.0 ≡ true) × (bytes ≡ option_spelling f y.0 ++ y.1)) (ok_is made x h) (refl, refl);
  again = λ v rest h. none_again f v rest h;
  within = λ bytes left fits h. absurd (never_err _ left h);
}

pub seen_as_exact : {A B : Type 0} (view : A → B) (back : B → A) (f : Format A) → IsExact f → ((x : A) → f.fits x ≡ true → back (view x) ≡ x) → ((y : B) → f.fits (back y) ≡ true → view (back y) ≡ y) → IsExact (seen_as view back f)
seen_as_exact {A = A} {B = B} view back f e undone redone = record {
  takes = λ bytes x fits h.
      let a = bind_ok (f.reading bytes) (λ (y : A × List ℕ). Ok (view y.0, y.1)) x h in
      let p = e.takes bytes a.0 fits a.1 in
      let made : B × List ℕ = (view a.0.0, a.0.1) in
      let u = undone a.0.0 p.0 in
      subst (λ (y : B × List ℕ). (f.fits (back y.0) ≡ true) × (bytes ≡ f.spelling (back y.0) ++ y.1)) (ok_is made x a.2) (ap f.fits u ∙ p.0, p.1 ∙ ap (λ (y : A). f.spelling y ++ a.0.1) (sym u));
  again = λ v rest h. rw (e.again (back v) rest h, redone v h) refl;
  within = λ bytes left fits h.
      elim (bind_err (f.reading bytes) (λ (y : A × List ℕ). Ok (view y.0, y.1)) left h) [
        | inl a ↦ e.within bytes left fits a
        | inr b ↦ absurd (never_err _ left b.2)
      ];
}
