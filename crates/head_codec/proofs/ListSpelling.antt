-- Lists whose items are spelled the same whatever stands before them, written item by item.
use Rattle.std.proofs.Common.{◌≡◌, ℕ, ◌≤◌, Bool, true, false, List, [], ◌∷◌, ◌++◌, length, Option, Some, None, refl, sym, ap, ◌∙◌, append_assoc, arith}
use Rattle.std.specs.List.{items_where_true, AllByRecursion}
use Rattle.std.specs.List.Retain.{IsFiltered}
use Rattle.std.proofs.lemmas.List.{append-nil}
use Rattle.byte_format.specs.Format.{list_spelling}
use Rattle.head_codec.specs.declared.lists.QueueCount.{QueueCount}
use Rattle.head_codec.specs.declared.lists.Pending.{Pending}
use Rattle.head_codec.specs.Counters.{counter}
use Rattle.head_codec.specs.Pending.{pending_entry, spellings, AreSpelled, FitsPending}

pub counters-any : (before : Option QueueCount) (xs : List QueueCount) → list_spelling counter before xs ≡ list_spelling counter None xs
counters-any before [] = refl
counters-any before (x ∷ xs) = refl

pub entries-any : (before : Option Pending) (xs : List Pending) → list_spelling pending_entry before xs ≡ list_spelling pending_entry None xs
entries-any before [] = refl
entries-any before (x ∷ xs) = refl

-- one item more is written, and the rest is still to be written
written : (out new text tail : List ℕ) → new ≡ out ++ (1 ∷ text) → new ++ tail ≡ out ++ (1 ∷ text ++ tail)
written out new text tail is = ap (λ (xs : List ℕ). xs ++ tail) is ∙ append_assoc out (1 ∷ text) tail

pub counters_step : (out new : List ℕ) (left rest : List QueueCount) (x : QueueCount) → left ≡ x ∷ rest → new ≡ out ++ (1 ∷ (counter None).spelling x) → new ++ list_spelling counter None rest ≡ out ++ list_spelling counter None left
counters_step out new left rest x is written_is =
    written out new ((counter None).spelling x) (list_spelling counter None rest) written_is
    ∙ ap (λ (tail : List ℕ). out ++ (1 ∷ (counter None).spelling x ++ tail)) (sym (counters-any (Some x) rest))
    ∙ ap (λ (xs : List QueueCount). out ++ list_spelling counter None xs) (sym is)

pub entries_step : (out new : List ℕ) (left rest : List Pending) (x : Pending) → left ≡ x ∷ rest → new ≡ out ++ (1 ∷ (pending_entry None).spelling x) → new ++ spellings rest ≡ out ++ spellings left
entries_step out new left rest x is written_is = written out new ((pending_entry None).spelling x) (spellings rest) written_is ∙ ap (λ (xs : List Pending). out ++ spellings xs) (sym is)

-- ---- the spellings of entries, and the spelling of their list

spellings-end : (xs : List Pending) → spellings xs ++ 0 ∷ [] ≡ list_spelling pending_entry None xs
spellings-end [] = refl
spellings-end (x ∷ xs) =
    append_assoc (1 ∷ (pending_entry None).spelling x) (spellings xs) (0 ∷ [])
    ∙ ap (λ (tail : List ℕ). 1 ∷ (pending_entry None).spelling x ++ tail) (spellings-end xs ∙ sym (entries-any (Some x) xs))

pub list_written : (out all new : List ℕ) (xs : List Pending) → all ≡ out ++ spellings xs → new ≡ all ++ 0 ∷ [] → new ≡ out ++ list_spelling pending_entry None xs
list_written out all new xs written_is ended =
    ended ∙ ap (λ (bytes : List ℕ). bytes ++ 0 ∷ []) written_is ∙ append_assoc out (spellings xs) (0 ∷ []) ∙ ap (λ (bytes : List ℕ). out ++ bytes) (spellings-end xs)

spellings-more : (xs : List Pending) (x : Pending) → spellings xs ++ (1 ∷ (pending_entry None).spelling x) ≡ spellings (xs ++ x ∷ [])
spellings-more [] x = sym (append-nil (1 ∷ (pending_entry None).spelling x))
spellings-more (y ∷ ys) x =
    append_assoc (1 ∷ (pending_entry None).spelling y) (spellings ys) (1 ∷ (pending_entry None).spelling x)
    ∙ ap (λ (tail : List ℕ). (1 ∷ (pending_entry None).spelling y) ++ tail) (spellings-more ys x)

fits-more : (xs : List Pending) (x : Pending) → AllByRecursion FitsPending xs → FitsPending x → AllByRecursion FitsPending (xs ++ x ∷ [])
fits-more [] x all one = (one, tt)
fits-more (y ∷ ys) x all one = (all.0, fits-more ys x all.1 one)

-- one entry more is spelled
pub spelled_more : (xs : List Pending) (x : Pending) (old new text : List ℕ) → AreSpelled xs old → new ≡ old ++ text → text ≡ 1 ∷ (pending_entry None).spelling x → FitsPending x
    → AreSpelled (xs ++ x ∷ []) new
spelled_more xs x old new text h written_is text_is fits = record {
  spelling = written_is ∙ ap (λ (bytes : List ℕ). bytes ++ text) h.spelling ∙ ap (λ (bytes : List ℕ). spellings xs ++ bytes) text_is ∙ spellings-more xs x;
  fits = fits-more xs x h.fits fits;
}

-- ---- a filter that leaves as many items leaves all

items-few : {X : Type 0} (bs : List Bool) (xs : List X) → length (items_where_true bs xs) ≤ length xs
items-few [] [] = omega arith
items-few [] (x ∷ xs) = omega arith
items-few (b ∷ bs) [] = omega arith
items-few (true ∷ bs) (x ∷ xs) = omega (arith, items-few bs xs)
items-few (false ∷ bs) (x ∷ xs) = omega (arith, items-few bs xs)

items-all : {X : Type 0} (bs : List Bool) (xs : List X) → length xs ≤ length (items_where_true bs xs) → items_where_true bs xs ≡ xs
items-all [] [] h = refl
items-all [] (x ∷ xs) h = absurd (omega (arith, h))
items-all (b ∷ bs) [] h = refl
items-all (true ∷ bs) (x ∷ xs) h = ap (λ l. x ∷ l) (items-all bs xs (omega (arith, h)))
items-all (false ∷ bs) (x ∷ xs) h = absurd (omega (arith, h, items-few bs xs))

pub filtered_none : {X P : Type 0} (R : P → X → Bool → P → Type 0) (p : P) (xs ys : List X) → IsFiltered R p xs ys → length xs ≤ length ys → ys ≡ xs
filtered_none R p xs ys h long = on h
  where
    on : IsFiltered R p xs ys → ys ≡ xs
    on (bs, q, same, turns, is) = is ∙ items-all bs xs (omega (arith, long, ap (λ l. length l) is))
