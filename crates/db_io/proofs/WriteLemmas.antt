-- Writes, one by one and as a whole.
use Rattle.std.proofs.Common.{◌≡◌, ◌⊎◌, inl, inr, ℕ, List, [], ◌∷◌, ◌++◌, Option, Some, None, refl, sym, ap, ◌∙◌, append_assoc}
use Rattle.std.specs.List.{concat}
use Rattle.std.proofs.lemmas.List.{append-nil}
use Rattle.std.proofs.lemmas.List.Folds.{concat-append}
use Rattle.db_io.specs.Writes.{Written, AddsEach, AddsPart, joined, whole, Adds, AddsPrefix}

pub concat_push : (writes : List (List ℕ)) (bytes : List ℕ) → concat (writes ++ bytes ∷ []) ≡ concat writes ++ bytes
concat_push writes bytes = concat-append writes (bytes ∷ []) ∙ ap (λ z. concat writes ++ z) (append-nil bytes)

-- ---- from write to write

pub each_none : (w : Written) → AddsEach w w []
each_none w all e = e ∙ ap Some (sym (append-nil all))

pub each_more : (w v u : Written) (texts more : List (List ℕ)) → AddsEach w v texts → AddsEach v u more → AddsEach w u (texts ++ more)
each_more w v u texts more f g all e = g (all ++ texts) (f all e) ∙ ap Some (append_assoc all texts more)

-- ---- the whole of them

-- where the writes are told, the whole is what they join to
joins : (w : Written) (writes : List (List ℕ)) → w.writes ≡ Some writes → whole w ≡ Some (concat writes)
joins w writes e = ap joined e

-- where the whole is told, so are the writes
record AreTold (told : Option (List (List ℕ))) (all : List ℕ) : Type 0 where
  writes : List (List ℕ)
  are : told ≡ Some writes
  join : all ≡ concat writes

told_whole : (told : Option (List (List ℕ))) (all : List ℕ) → joined told ≡ Some all → AreTold told all
told_whole None all e = absurd (cc)
told_whole (Some writes) all e = record { writes = writes; are = refl; join = cc }

-- texts that are written one by one are written as the whole of them
pub each_whole : (w u : Written) (texts : List (List ℕ)) → AddsEach w u texts → Adds w u (concat texts)
each_whole w u texts adds all e =
    let t = told_whole w.writes all e in
    joins u (t.writes ++ texts) (adds t.writes t.are) ∙ ap Some (concat-append t.writes texts ∙ ap (λ z. z ++ concat texts) (sym t.join))

-- a text of which a first part was written in one write, or nothing, adds a first part of its bytes
pub part_whole : (w u : Written) (text : List ℕ) → AddsPart w u text → AddsPrefix w u text
part_whole w u text adds all e =
    let t = told_whole w.writes all e in
    on t (adds t.writes t.are)
  where
    on : (t : AreTold w.writes all) → (u.writes ≡ Some t.writes) ⊎ ((front : List ℕ) × (back : List ℕ) × (text ≡ front ++ back) × (u.writes ≡ Some (t.writes ++ front ∷ [])))
        → (front : List ℕ) × (back : List ℕ) × (text ≡ front ++ back) × (whole u ≡ Some (all ++ front))
    on t (inl same) = ([], text, refl, joins u t.writes same ∙ ap Some (sym t.join ∙ sym (append-nil all)))
    on t (inr p) =
        (p.0, p.1, p.2, joins u (t.writes ++ p.0 ∷ []) p.3 ∙ ap Some (concat_push t.writes p.0 ∙ ap (λ z. z ++ p.0) (sym t.join)))
