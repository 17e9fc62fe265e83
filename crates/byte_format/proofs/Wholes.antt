-- All of the bytes: what is read is a spelling, and a spelling is read.
use Rattle.std.proofs.Common.{◌≡◌, ℕ, Bool, true, false, cond, eqb, List, [], ◌++◌, length, Ok, Err, refl, sym, ap, subst, ◌∙◌}
use Rattle.std.proofs.lemmas.Bool.{eqb-true}
use Rattle.std.proofs.lemmas.List.{append-nil, nil_from_length}
use Rattle.byte_format.specs.Format.{Format}
use Rattle.byte_format.specs.Whole.{whole, IsSpelling, IsBytes, IsExact}
use Rattle.byte_format.proofs.Steps.{bind_ok, ok_is}

ended : {A : Type 0} (b : Bool) (x : A) (left : ℕ) (v : A) → cond b (Ok x) (Err left) ≡ Ok v → (b ≡ true) × (x ≡ v)
ended true x left v e = (refl, cc)
ended false x left v e = absurd cc

-- what is read is a spelling of it
pub whole_found : {A : Type 0} (f : Format A) → IsExact f → (bytes : List ℕ) (v : A) → IsBytes bytes → whole f bytes ≡ Ok v → IsSpelling f bytes v
whole_found {A = A} f e bytes v fits h =
    let a = bind_ok (f.reading bytes) (λ (x : A × List ℕ). cond (eqb (length x.1) 0) (Ok x.0) (Err (length x.1))) v h in
    let g = ended (eqb (length a.0.1) 0) a.0.0 (length a.0.1) v a.2 in
    let p = e.takes bytes a.0 fits a.1 in
    let nothing : a.0.1 ≡ [] = nil_from_length a.0.1 (eqb-true _ _ g.0) in
    let is : bytes ≡ f.spelling a.0.0 = p.1 ∙ ap (λ (r : List ℕ). f.spelling a.0.0 ++ r) nothing ∙ append-nil (f.spelling a.0.0) in
    subst (λ (y : A). IsSpelling f bytes y) g.1 (record { fits = p.0; is = is })

-- a spelling is read, with nothing behind it
pub spelling_read : {A : Type 0} (f : Format A) → IsExact f → (bytes : List ℕ) (v : A) → IsSpelling f bytes v → f.reading bytes ≡ Ok (v, [])
spelling_read f e bytes v s = ap f.reading (s.is ∙ sym (append-nil (f.spelling v))) ∙ e.again v [] s.fits

pub whole_only : {A : Type 0} (f : Format A) → IsExact f → (bytes : List ℕ) (v : A) → IsSpelling f bytes v → whole f bytes ≡ Ok v
whole_only f e bytes v s = rw (spelling_read f e bytes v s) refl

-- bytes spell one value at most
pub one_value : {A : Type 0} (f : Format A) → IsExact f → (bytes : List ℕ) (v w : A) → IsSpelling f bytes v → IsSpelling f bytes w → v ≡ w
one_value f e bytes v w s t = ok_is v w (sym (whole_only f e bytes v s) ∙ whole_only f e bytes w t)
