-- The newest version of a link's page: its level and low key, and the keys that it holds.
use Rattle.std.proofs.Common.{◌≡◌, ◌≢◌, ◌-◌, ℕ, zero, suc, List, [], ◌∷◌, length, slice_get, refl, sym, ap, subst, arith}
use Rattle.std.specs.Prelude.{unwrap_or}
use Rattle.leaf_view.specs.Lookup.{empty_leaf}
use Rattle.cloud_facts.specs.Words.{Link, Node, Leafy, IsIn}
use Rattle.cloud_facts.specs.Book.Tally.{low_of}
use Rattle.cloud_facts.specs.Book.Telling.{last_or}
use Rattle.cloud_facts.specs.Chains.Chain.{AreLevels, AreVersions, AreNewest}
use Rattle.cloud_facts.specs.Chains.Links.{first_link, newest_node, IsOfLevel}
use Rattle.cloud_facts.proofs.Chains.Pieces.{in_rest}

-- the last of a list that is not empty is in it
pub last_in : {A : Type 0} (none : A) (xs : List A) → xs ≢ [] → IsIn xs (last_or none xs)
last_in none [] some = absurd (some refl)
last_in none (x ∷ []) some = (zero, refl)
last_in none (x ∷ y ∷ xs) some = on (last_in none (y ∷ xs) (λ e. absurd (cc)))
  where
    far : length (x ∷ y ∷ xs) - 1 ≡ suc (length (y ∷ xs) - 1)
    far = omega arith

    same : last_or none (x ∷ y ∷ xs) ≡ last_or none (y ∷ xs)
    same = ap (λ (i : ℕ). unwrap_or (slice_get (x ∷ y ∷ xs) i) none) far

    on : IsIn (y ∷ xs) (last_or none (y ∷ xs)) → IsIn (x ∷ y ∷ xs) (last_or none (x ∷ y ∷ xs))
    on k = subst (λ z. IsIn (x ∷ y ∷ xs) z) (sym same) (in_rest x (y ∷ xs) (last_or none (y ∷ xs)) k)

-- the newest version of a link's page, which is the empty leaf where page 1 is absent
pub record IsNewestOf (level : ℕ) (link : Link) (node : Node) : Type 0 where
  pub level_is : IsOfLevel level node
  pub low : low_of node ≡ link.low

pub newest_is : (chain : ℕ → List Link) (nodes : ℕ → List Node) (height : ℕ) → AreLevels chain height → AreVersions chain nodes → AreNewest chain nodes
    → (level : ℕ) (link : Link) → IsIn (chain level) link → IsNewestOf level link (newest_node nodes link.page)
newest_is chain nodes height lv vs nw level link h = on (nodes link.page) refl
  where
    first : IsIn (chain 0) first_link
    first = (zero, ap (λ (ls : List Link). slice_get ls 0) lv.leaves.1)

    on : (ns : List Node) → nodes link.page ≡ ns → IsNewestOf level link (last_or (Leafy empty_leaf) ns)
    on [] e =
        let only = nw.absent level link h e in
        let same = lv.once level 0 link first_link h first only.1 in
        record { level_is = only.0; low = sym same.1 }
    on (n ∷ ns) e =
        let there : IsIn (nodes link.page) (last_or (Leafy empty_leaf) (n ∷ ns)) =
        subst (λ (ms : List Node). IsIn ms (last_or (Leafy empty_leaf) (n ∷ ns))) (sym e) (last_in (Leafy empty_leaf) (n ∷ ns) (λ z. absurd (cc))) in
        let v = vs level link (last_or (Leafy empty_leaf) (n ∷ ns)) h there in
        record { level_is = v.level_is; low = v.low }
