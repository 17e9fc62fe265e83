-- The least key of a run that is not handled, and a run that is handled whole.
use Rattle.std.proofs.Common.{◌≡◌, ◌⊎◌, inl, inr, ℕ, Bool, true, false, cond, List, [], ◌∷◌, Option, Some, None, refl, ap, subst, ◌∙◌}
use Rattle.byte_format.specs.Order.{bytes_below, below_bound}
use Rattle.cloud_facts.proofs.Chains.Pieces.{none_in, in_cases, not_itself}
use Rattle.db_base.specs.Change.{key_of}
use Rattle.leaf_edit.specs.Merging.{Rises}
use Rattle.log_codec.specs.declared.record.PuItem.{PuItem}
use Rattle.session_facts.proofs.Machines.Runs.Received.{each_in}
use Rattle.cloud_facts.specs.Book.Records.{IsIn}
use Rattle.tree_ckpt.specs.Moves.{key_from, key_from_or_none}

abbrev key : PuItem → List ℕ
key x = key_of x.rec.change

key_is : (a b : List ℕ) → Some a ≡ Some b → a ≡ b
key_is a b e = cc

-- a record is handled, or its key is not below the least one
least_from : (from least : List ℕ) (xs : List PuItem) → Rises xs → key_from from xs ≡ Some least → (x : PuItem) → IsIn xs x
    → (bytes_below (key x) from ≡ true) ⊎ (bytes_below (key x) least ≡ false)
least_from from least [] up e x there = absurd (none_in x there)
least_from from least (y ∷ ys) up e x there = on (bytes_below (key y) from) refl e (least_from from least ys up.1) (in_cases y ys x there)
  where
    on : (b : Bool) → bytes_below (key y) from ≡ b → cond b (key_from from ys) (Some (key y)) ≡ Some least
        → (key_from from ys ≡ Some least → (z : PuItem) → IsIn ys z → (bytes_below (key z) from ≡ true) ⊎ (bytes_below (key z) least ≡ false))
        → (y ≡ x) ⊎ IsIn ys x → (bytes_below (key x) from ≡ true) ⊎ (bytes_below (key x) least ≡ false)
    on true h f again (inl same) = inl (subst (λ (z : PuItem). bytes_below (key z) from ≡ true) same h)
    on true h f again (inr rest) = again f x rest
    on false h f again (inl same) =
        let is : key y ≡ least = key_is (key y) least f in
        inr (subst (λ (z : PuItem). bytes_below (key z) least ≡ false) same (ap (λ (k : List ℕ). bytes_below k least) is ∙ not_itself least))
    on false h f again (inr rest) =
        let is : key y ≡ least = key_is (key y) least f in
        inr (subst (λ (k : List ℕ). bytes_below (key x) k ≡ false) is (each_in (λ (z : PuItem). bytes_below (key z) (key y) ≡ false) ys up.0 x rest))

-- where none is left all are handled
none_from : (from : List ℕ) (xs : List PuItem) → key_from from xs ≡ None → (x : PuItem) → IsIn xs x → bytes_below (key x) from ≡ true
none_from from [] e x there = absurd (none_in x there)
none_from from (y ∷ ys) e x there = on (bytes_below (key y) from) refl e (none_from from ys) (in_cases y ys x there)
  where
    on : (b : Bool) → bytes_below (key y) from ≡ b → cond b (key_from from ys) (Some (key y)) ≡ None
        → (key_from from ys ≡ None → (z : PuItem) → IsIn ys z → bytes_below (key z) from ≡ true) → (y ≡ x) ⊎ IsIn ys x → bytes_below (key x) from ≡ true
    on true h f again (inl same) = subst (λ (z : PuItem). bytes_below (key z) from ≡ true) same h
    on true h f again (inr rest) = again f x rest
    on false h f again at = absurd (cc)

-- the same of a bound, of which there may be none
pub least_is : (from : Option (List ℕ)) (least : List ℕ) (xs : List PuItem) → Rises xs → key_from_or_none from xs ≡ Some least → (x : PuItem) → IsIn xs x
    → (below_bound (key x) from ≡ true) ⊎ (bytes_below (key x) least ≡ false)
least_is (Some from) least xs up e = least_from from least xs up e
least_is None least xs up e = absurd (cc (e))

pub all_below : (from : Option (List ℕ)) (xs : List PuItem) → key_from_or_none from xs ≡ None → (x : PuItem) → IsIn xs x → below_bound (key x) from ≡ true
all_below (Some from) xs e = none_from from xs e
all_below None xs e = λ x there. refl
