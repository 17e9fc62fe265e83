-- The pieces of a cut before any of them is put.
use Rattle.std.proofs.Common.{◌≡◌, ◌+◌, ℕ, List, [], ◌∷◌, length, map, reverse, refl, sym, ap, ◌∙◌, arith}
use Rattle.std.proofs.lemmas.List.{append-nil}
use Rattle.split_plan.proofs.Counting.{length-cuts}
use Rattle.split_plan.proofs.Cutting.{pieces-are-a-cut}
use Rattle.split_plan.specs.Cut.{BeginAs, cut_by, back_part, pieces_of}
use Rattle.split_plan.specs.Part.{Part}
use Rattle.split_plan.specs.Plan.{put_of, on_pages}
use Rattle.split_plan.specs.Sizes.{count_of, cuts_of}
use Rattle.session_facts.specs.Machines.Trees.Placings.{IsPlacing}

-- all of them are to be put
pub record IsAll {A X : Type 0} (bytes : Part A X → List ℕ) (page first : ℕ) (ps : List (Part A X)) : Type 0 where
  pub placing : IsPlacing bytes page first ps (reverse (map (put_of bytes) (on_pages page first ps)))
  pub none : placing.behind ≡ []
  pub count : length placing.middle + 1 ≡ length ps

pub all_placed : {A X : Type 0} (key : A → List ℕ) (bytes : Part A X → List ℕ) (page first : ℕ) (whole : Part A X) → IsAll bytes page first (pieces_of key first whole)
all_placed {A} {X} key bytes page first whole = on (pieces_of key first whole) (pieces-are-a-cut key first whole).begins
  where
    on : (ps : List (Part A X)) → BeginAs key whole ps → IsAll bytes page first ps
    on [] begins = absurd begins
    on (p ∷ ps) begins = record {
      placing = record { front = p; middle = ps; behind = []; pieces_are = ap (λ (qs : List (Part A X)). p ∷ qs) (sym (append-nil ps)); puts_are = refl };
      none = refl;
      count = omega arith;
    }

-- how many they are
parts_counted : {A X : Type 0} (key : A → List ℕ) (sizes : List ℕ) (free : ℕ) (p : Part A X) → length (cut_by key sizes free p) ≡ length sizes + 1
parts_counted key [] free p = refl
parts_counted key (n ∷ sizes) free p = let rest = parts_counted key sizes (free + 1) (back_part key n p) in omega (arith, rest)

pub parts_count : {A X : Type 0} (key : A → List ℕ) (free : ℕ) (whole : Part A X) → length (pieces_of key free whole) ≡ count_of (length whole.items)
parts_count key free whole = parts_counted key (cuts_of (length whole.items)) free whole ∙ length-cuts (length whole.items)
