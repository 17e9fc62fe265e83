-- Lists one element longer.
use Rattle.std.proofs.Common.{◌≡◌, ℕ, ◌+◌, List, [], ◌∷◌, ◌++◌, take, arith, add-one}
use Rattle.std.specs.Prelude.{Some, slice_get, map}
use Rattle.std.proofs.lemmas.List.{map-append}
use Rattle.std.proofs.lemmas.Option.{slice_get_within, get_or_from_slice_get}
use Rattle.std.proofs.Math.Seq.{take-suc}
use Rattle.std.proofs.lemmas.Grind.{common_steps}

pub take_one_more : {A : Type 0} (xs : List A) (i : ℕ) (x : A) → slice_get xs i ≡ Some x → take (i + 1) xs ≡ take i xs ++ x ∷ []
take_one_more xs i x h = let below = slice_get_within xs i x h in let at = get_or_from_slice_get xs i x x h in let t = take-suc xs i x below in rw add-one (cc)

pub one_more : {A B : Type 0} (f : A → B) (old log new : List B) (xs : List A) (i : ℕ) (x : A) (y : B)
    → slice_get xs i ≡ Some x → log ≡ old ++ map f (take i xs) → y ≡ f x → new ≡ log ++ y ∷ [] → new ≡ old ++ map f (take (i + 1) xs)
one_more f old log new xs i x y h e is n = let t = take_one_more xs i x h in rw t (grind (arith, common_steps, map-append))
