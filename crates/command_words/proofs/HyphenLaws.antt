-- Words of which one begins with a hyphen are of no shape.
use Rattle.std.proofs.Common.{◌≡◌, ◌⊎◌, ◌∙◌, inl, inr, ℕ, Bool, true, false, true≢false, ◌&&◌, List, [], ◌∷◌, Option, Some, None, refl, sym, subst, arith}
use Rattle.std.specs.Prelude.{codes, nat_le, if◌then◌else◌}
use Rattle.std.specs.List.{list_all}
use Rattle.std.specs.Str.{bytes_eq}
use Rattle.std.proofs.lemmas.Slice.Eq.{bytes_eq-Decides}
use Rattle.std.proofs.lemmas.Bool.Decides.{nat_tests}
use Rattle.words.specs.Word.{number_of}
use Rattle.command_words.specs.declared.shape.Shape.{Shape as CommandShape}
use Rattle.command_words.specs.declared.shape.Shape.TheVariants.{Shell}
use Rattle.command_words.specs.Words.{generated, is_folder, settling_of, dumping_of, loading_of, shape_of, shell_over}

hyphen_name : (word name : List ℕ) → is_folder word ≡ false → is_folder name ≡ true → bytes_eq word name ≡ false
hyphen_name word name h k = on (bytes_eq word name) refl
  where
    on : (same : Bool) → bytes_eq word name ≡ same → same ≡ false
    on false e = refl
    on true e =
        let is : word ≡ name = (bytes_eq-Decides word name).0 e in
        let P : List ℕ → Type 0 = λ w. is_folder w ≡ false in
        let bad : is_folder name ≡ false = subst P is h in
        absurd (true≢false (sym k ∙ bad))

first_is_hyphen : (x : ℕ) (rest : List ℕ) → is_folder (x ∷ rest) ≡ false → x ≡ 45
first_is_hyphen x rest h = grind (arith, nat_tests)

no_number : (rest : List ℕ) → number_of (45 ∷ rest) ≡ None
unfolding number_of
no_number [] = refl
no_number (x ∷ rest) = refl

number_hyphen : (word : List ℕ) → is_folder word ≡ false → number_of word ≡ None
number_hyphen [] h = absurd (true≢false h)
number_hyphen (x ∷ rest) h =
    let P : ℕ → Type 0 = λ y. number_of (y ∷ rest) ≡ None in
    subst P (sym (first_is_hyphen x rest h)) (no_number rest)

both : (same : Bool) (x y : Option CommandShape) → x ≡ None → y ≡ None → (if same then x else y) ≡ None
both true x y p q = p
both false x y p q = q

ranged : (x y z : Bool) (s : CommandShape) → z ≡ false → (if x && (y && z) then Some s else None) ≡ None
ranged true true z s h = rw h refl
ranged true false z s h = refl
ranged false y z s h = refl

shell_hyphen : (n : Option ℕ) (dir : List ℕ) → is_folder dir ≡ false → shell_over n dir ≡ None
shell_hyphen None dir h = refl
shell_hyphen (Some client) dir h = ranged (nat_le 1 client) (nat_le client 64) (is_folder dir) (Shell client dir) h

settling_hyphen : (dir : List ℕ) → is_folder dir ≡ false → settling_of dir ≡ None
settling_hyphen dir h = rw h refl

dumping_hyphen : (dir : List ℕ) → is_folder dir ≡ false → dumping_of dir ≡ None
dumping_hyphen dir h = rw h refl

loading_hyphen : (dir : List ℕ) → is_folder dir ≡ false → loading_of dir ≡ None
loading_hyphen dir h = rw h refl

generated_none : (n m : Option ℕ) → m ≡ None → generated n m ≡ None
generated_none None m e = refl
generated_none (Some n) m e = rw e refl

shell_none : (n : Option ℕ) (dir : List ℕ) → n ≡ None → shell_over n dir ≡ None
shell_none n dir e = rw e refl

generated_first : (n m : Option ℕ) → n ≡ None → generated n m ≡ None
generated_first n m e = rw e refl

first_or_rest : (x y : Bool) → (x && y) ≡ false → (x ≡ false) ⊎ (y ≡ false)
first_or_rest true y h = inr h
first_or_rest false y h = inl refl

one : (c : List ℕ) → list_all is_folder (c ∷ []) ≡ false → shape_of (c ∷ []) ≡ None
one c h = elim (first_or_rest (is_folder c) true h) [
  | inl p ↦ rw (hyphen_name c (codes "replay") p refl) refl
  | inr p ↦ absurd (true≢false p)
]

two : (c a : List ℕ) → list_all is_folder (c ∷ a ∷ []) ≡ false → shape_of (c ∷ a ∷ []) ≡ None
two c a h = elim (first_or_rest (is_folder c) (list_all is_folder (a ∷ [])) h) [
  | inl p ↦ rw (hyphen_name c (codes "settle") p refl, hyphen_name c (codes "dump") p refl, hyphen_name c (codes "load") p refl) refl
  | inr p ↦ second (first_or_rest (is_folder a) true p)
]
  where
    second : (is_folder a ≡ false) ⊎ (true ≡ false) → shape_of (c ∷ a ∷ []) ≡ None
    second (inl p) =
        let load = both (bytes_eq c (codes "load")) (loading_of a) None (loading_hyphen a p) refl in
        let dump = both (bytes_eq c (codes "dump")) (dumping_of a) (if bytes_eq c (codes "load") then loading_of a else None) (dumping_hyphen a p) load in
        both (bytes_eq c (codes "settle")) (settling_of a)
        (if bytes_eq c (codes "dump") then dumping_of a else (if bytes_eq c (codes "load") then loading_of a else None)) (settling_hyphen a p) dump
    second (inr p) = absurd (true≢false p)

-- three words, where neither of the values gives a shape
three_of : (c a b : List ℕ) → generated (number_of a) (number_of b) ≡ None → shell_over (number_of a) b ≡ None → shape_of (c ∷ a ∷ b ∷ []) ≡ None
three_of c a b p q =
    let other : (if bytes_eq c (codes "shell") then shell_over (number_of a) b else None) ≡ None = both (bytes_eq c (codes "shell")) (shell_over (number_of a) b) None q refl in
    both (bytes_eq c (codes "gen")) (generated (number_of a) (number_of b)) (if bytes_eq c (codes "shell") then shell_over (number_of a) b else None) p other

three : (c a b : List ℕ) → list_all is_folder (c ∷ a ∷ b ∷ []) ≡ false → shape_of (c ∷ a ∷ b ∷ []) ≡ None
three c a b h = elim (first_or_rest (is_folder c) (list_all is_folder (a ∷ b ∷ [])) h) [
  | inl p ↦ rw (hyphen_name c (codes "gen") p refl, hyphen_name c (codes "shell") p refl) refl
  | inr p ↦ second (first_or_rest (is_folder a) (list_all is_folder (b ∷ [])) p)
]
  where
    third : (is_folder b ≡ false) ⊎ (true ≡ false) → shape_of (c ∷ a ∷ b ∷ []) ≡ None
    third (inl p) = three_of c a b (generated_none (number_of a) (number_of b) (number_hyphen b p)) (shell_hyphen (number_of a) b p)
    third (inr p) = absurd (true≢false p)

    second : (is_folder a ≡ false) ⊎ (list_all is_folder (b ∷ []) ≡ false) → shape_of (c ∷ a ∷ b ∷ []) ≡ None
    second (inl p) = three_of c a b (generated_first (number_of a) (number_of b) (number_hyphen a p)) (shell_none (number_of a) b (number_hyphen a p))
    second (inr p) = third (first_or_rest (is_folder b) true p)

pub hyphened : (words : List (List ℕ)) → list_all is_folder words ≡ false → shape_of words ≡ None
hyphened [] h = absurd (true≢false h)
hyphened (c ∷ []) h = one c h
hyphened (c ∷ a ∷ []) h = two c a h
hyphened (c ∷ a ∷ b ∷ []) h = three c a b h
hyphened (c ∷ a ∷ b ∷ d ∷ rest) h = refl
