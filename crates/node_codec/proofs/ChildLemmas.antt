-- The child of a key is the greatest entry at most the key.
use Rattle.std.proofs.Common.{◌≡◌, ℕ, ◌-◌, Bool, true, false, cond, List, [], ◌∷◌, Option, Some, None, refl, sym, ap, subst, ◌∙◌, ◌⊎◌, inl, inr}
use Rattle.std.specs.List.{AllByRecursion}
use Rattle.std.proofs.lemmas.Bool.{and_parts}
use Rattle.byte_format.specs.Format.{greatest, list_fits}
use Rattle.byte_format.specs.Order.{bytes_below}
use Rattle.node_codec.specs.Node.{Entry, entry, later_of, child_of}
use Rattle.node_codec.specs.Greatest.{IsGreatestAtMost}
use Rattle.node_codec.specs.Tree.{Tree, IsSoundTree}
use Rattle.node_codec.specs.Inner.{Inner, HasInnerSpelling}
use Rattle.node_codec.proofs.EntryLemmas.{behind_parts, below_chain}
use Rattle.node_codec.proofs.TreeLemmas.{tree_fits}
use Rattle.node_codec.proofs.InnerLemmas.{inner_fits}

-- where no entry is at most the key, each is above it
all_above : (key : List ℕ) (xs : List Entry) → child_of key xs ≡ None → AllByRecursion (λ x. bytes_below key x.0 ≡ true) xs
all_above key [] is = tt
all_above key (x ∷ xs) is = on (all_above key xs) (child_of key xs) refl (bytes_below key x.0) refl is
  where
    on : (child_of key xs ≡ None → AllByRecursion (λ y. bytes_below key y.0 ≡ true) xs) → (later : Option Entry) → child_of key xs ≡ later → (below : Bool) → bytes_below key x.0 ≡ below
        → later_of (cond below None (Some x)) later ≡ None → AllByRecursion (λ y. bytes_below key y.0 ≡ true) (x ∷ xs)
    on rest (Some y) was below above h = absurd cc
    on rest None was true above h = (above, rest was)
    on rest None was false above h = absurd cc

-- the child of a list is that of its rest, or the first where the rest has none
with_first : (key : List ℕ) (x : Entry) (xs : List Entry) (e : Entry) → (child_of key xs ≡ Some e → IsGreatestAtMost key e xs × (bytes_below x.0 e.0 ≡ true)) → child_of key (x ∷ xs) ≡ Some e
    → IsGreatestAtMost key e (x ∷ xs) × ((x ≡ e) ⊎ (bytes_below x.0 e.0 ≡ true))
with_first key x xs e rest is = on (child_of key xs) refl (bytes_below key x.0) refl is
  where
    passed : IsGreatestAtMost key e xs × (bytes_below x.0 e.0 ≡ true) → IsGreatestAtMost key e (x ∷ xs) × ((x ≡ e) ⊎ (bytes_below x.0 e.0 ≡ true))
    passed g = (
      record { front = x ∷ g.0.front; back = g.0.back; parts = ap (λ (ys : List Entry). x ∷ ys) g.0.parts; at_most = g.0.at_most; before = (g.1, g.0.before); behind = g.0.behind },
      inr g.1,
    )

    here : child_of key xs ≡ None → bytes_below key x.0 ≡ false → x ≡ e → IsGreatestAtMost key e (x ∷ xs) × ((x ≡ e) ⊎ (bytes_below x.0 e.0 ≡ true))
    here none at_most same = (
      subst (λ (y : Entry). IsGreatestAtMost key y (x ∷ xs)) same (record { front = []; back = xs; parts = refl; at_most = at_most; before = tt; behind = all_above key xs none }),
      inl same,
    )

    on : (later : Option Entry) → child_of key xs ≡ later → (below : Bool) → bytes_below key x.0 ≡ below → later_of (cond below None (Some x)) later ≡ Some e
        → IsGreatestAtMost key e (x ∷ xs) × ((x ≡ e) ⊎ (bytes_below x.0 e.0 ≡ true))
    on (Some y) was below above h = passed (rest (was ∙ h))
    on None was true above h = absurd cc
    on None was false above h = here was above cc

behind : (key low : List ℕ) (high : Option (List ℕ)) (last : ℕ) (b : Entry) (xs : List Entry) (e : Entry) → list_fits true (entry low high last) (Some b) xs ≡ true → child_of key xs ≡ Some e
    → IsGreatestAtMost key e xs × (bytes_below b.0 e.0 ≡ true)
behind key low high last b [] e fits is = absurd cc
behind key low high last b (x ∷ xs) e fits is =
    let a = and_parts ((entry low high last (Some b)).fits x) (list_fits true (entry low high last) (Some x) xs) fits in
    let rises = (behind_parts low high last b x a.0).0 in
    let g = with_first key x xs e (behind key low high last x xs e a.1) is in
    (g.0, elim g.1 [ inl same ↦ ap (λ (y : Entry). bytes_below b.0 y.0) (sym same) ∙ rises | inr more ↦ below_chain b.0 x.0 e.0 rises more ])

pub child_is_greatest : (key low : List ℕ) (high : Option (List ℕ)) (last : ℕ) (xs : List Entry) (e : Entry) → list_fits false (entry low high last) None xs ≡ true → child_of key xs ≡ Some e → IsGreatestAtMost key e xs
child_is_greatest key low high last [] e fits is = absurd cc
child_is_greatest key low high last (x ∷ xs) e fits is =
    let a = and_parts ((entry low high last None).fits x) (list_fits true (entry low high last) (Some x) xs) fits in
    (with_first key x xs e (behind key low high last x xs e a.1) is).0

pub tree_child : (t : Tree) (key : List ℕ) (e : Entry) → IsSoundTree t → child_of key t.entries ≡ Some e → IsGreatestAtMost key e t.entries
tree_child t key e fits is = child_is_greatest key [] None (t.next - 1) t.entries e (tree_fits (record t { version = 1 }) fits).entries is

pub inner_child : (n : Inner) (key : List ℕ) (e : Entry) → HasInnerSpelling n → child_of key n.entries ≡ Some e → IsGreatestAtMost key e n.entries
inner_child n key e fits is = child_is_greatest key n.low n.high greatest n.entries e (inner_fits n fits).entries is
