-- A field that may be there is exact.
use Rattle.std.proofs.Common.{◌≡◌, ℕ, zero, suc, true, eqb, Option, Some, None, refl, arith, lit<}
use Rattle.std.specs.Prelude.{◌&&◌, nat_le}
use Rattle.std.proofs.lemmas.Bool.{and_parts, leb-true}
use Rattle.byte_format.specs.Format.{Format, in_range, option_fits, flagged, maybe}
use Rattle.byte_format.specs.Whole.{IsExact}
use Rattle.byte_format.proofs.Fields.{u8_exact}
use Rattle.byte_format.proofs.Exact.{then_exact, only_where_exact, seen_as_exact}

-- the flag is told by whether the field is there
maybe_undone : {A : Type 0} (f : Format A) (x : ℕ × Option A) → (in_range 0 1 x.0 && option_fits (eqb x.0 1) f x.1) ≡ true → flagged x.1 ≡ x
maybe_undone f (zero, None) h = refl
maybe_undone f (zero, Some v) h = absurd cc
maybe_undone f (suc zero, None) h = absurd cc
maybe_undone f (suc zero, Some v) h = refl
maybe_undone f (suc (suc n), x) h =
    let p = and_parts (in_range 0 1 (suc (suc n))) (option_fits (eqb (suc (suc n)) 1) f x) h in
    let q = and_parts (nat_le 0 (suc (suc n))) (nat_le (suc (suc n)) 1) p.0 in
    absurd (omega (arith, leb-true (suc (suc n)) 1 q.1))

maybe_redone : {A : Type 0} (y : Option A) → (flagged y).1 ≡ y
maybe_redone None = refl
maybe_redone (Some v) = refl

pub maybe_exact : {A : Type 0} (f : Format A) → IsExact f → IsExact (maybe f)
maybe_exact f e = seen_as_exact (λ x. x.1) flagged _ (then_exact _ _ (u8_exact 0 1 (lit< tt)) (λ there. only_where_exact _ _ e)) (maybe_undone f) (λ y _. maybe_redone y)
