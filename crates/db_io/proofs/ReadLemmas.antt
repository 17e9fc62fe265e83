-- A read of bytes in memory.
use Rattle.std.proofs.Common.{◌≡◌, ℕ, ◌+◌, ◌-◌, List, [], ◌∷◌, ◌++◌, length, take, drop, min, Some, refl, sym, ap, ◌∙◌, arith}
use Rattle.std.proofs.lemmas.List.{take-append-drop, length-take-le, take_rest}
use lib.Seq.{drop-drop}
use Rattle.db_io.specs.Content.{Gives}

-- a list of no length is empty
is_empty : (xs : List ℕ) → length xs ≡ 0 → xs ≡ []
is_empty [] e = refl
is_empty (x ∷ xs) e = cc

some_is : {xs ys : List ℕ} → Some xs ≡ Some ys → ys ≡ xs
some_is e = cc

-- a read gives the first of what is left
pub gives_first : (all old new left : List ℕ) (at count most faults later : ℕ) → drop at all ≡ left
    → new ≡ old ++ take count left → count ≡ min (length left) most
    → Gives old new (record { content = Some left; faults = faults })
    (record { content = Some (drop (at + count) all); faults = later }) most count
gives_first all old new left at count most faults later is appended smaller = record {
  bytes = take count left;
  appended = appended;
  counted = sym (length-take-le count left (omega arith));
  within = omega arith;
  taken = λ told e. (
    drop (at + count) all,
    refl,
    some_is e ∙ sym (take-append-drop count left)
        ∙ ap (λ (l : List ℕ). take count left ++ l) (ap (drop count) (sym is) ∙ drop-drop count at all),
  );
  end = λ none some told e. some_is e ∙ is_empty left (omega arith);
}

-- what a slice from an index to the end holds
pub rest_is : (all shown left : List ℕ) (at : ℕ) → shown ≡ all → drop at all ≡ left → take (length shown - at) (drop at shown) ≡ left
rest_is all shown left at same is = rw same (take_rest all at ∙ is)
