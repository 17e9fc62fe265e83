-- What a cache hands out of an object that it accepted.
use Rattle.std.proofs.Common.{◌≡◌, ℕ, Bool, true, false, List, Option, Some, None, Result, Ok, Err, refl, sym, ap, ◌∙◌}
use Rattle.std.specs.Result.{result_ok}
use Rattle.byte_format.specs.Whole.{whole, offset}
use Rattle.std.proofs.lemmas.Option.{none-some, same_Some}
use Rattle.byte_format.proofs.Steps.{ok_is, never_err}
use Rattle.db_base.specs.declared.names.ObjName.TheVariants.{Tree, Page}
use Rattle.db_base.specs.declared.trouble.Trouble.TheVariants.{Stale}
use Rattle.leaf_view.specs.Leaf.{Leaf, leaf}
use Rattle.leaf_view.specs.Lookup.{empty_leaf}
use Rattle.node_codec.specs.Inner.{Inner, inner_format, inner_of}
use Rattle.node_codec.specs.Tree.{Tree as Root, tree_format, tree_of, empty_tree}
use Rattle.page_cache.specs.Spelled.{version_or, leaf_version, inner_version, root_version}
use Rattle.page_cache.specs.Cache.{Cache, accepts}
use Rattle.page_cache.specs.Held.{leaf_in, as_leaf, as_inner, as_root, leaf_at, inner_at, root_at}
use Rattle.page_cache.proofs.CacheLemmas.{never, accept_kept, accept_version, accept_absent}

-- a version that was read is that of what the bytes are read as
of_version : {A : Type 0} (version : A → ℕ) (at n : ℕ) (r : Result A ℕ) → version_or version at r ≡ Ok n → (v : A) × (result_ok r ≡ Some v) × (version v ≡ n)
of_version version at n (Ok v) h = (v, refl, ok_is (version v) n h)
of_version version at n (Err left) h = absurd (never_err n at (sym h))

leaf_of_version : (bytes : List ℕ) (n : ℕ) → leaf_version bytes ≡ Ok n → (l : Leaf) × (leaf_in bytes ≡ Some l) × (l.version ≡ n)
unfolding leaf_version leaf_in
leaf_of_version bytes n h = of_version (λ (l : Leaf). l.version) (offset leaf bytes) n (whole leaf bytes) h

inner_of_version : (bytes : List ℕ) (n : ℕ) → inner_version bytes ≡ Ok n → (i : Inner) × (inner_of bytes ≡ Some i) × (i.version ≡ n)
unfolding inner_version inner_of
inner_of_version bytes n h = of_version (λ (i : Inner). i.version) (offset inner_format bytes) n (whole inner_format bytes) h

root_of_version : (bytes : List ℕ) (n : ℕ) → root_version bytes ≡ Ok n → (t : Root) × (tree_of bytes ≡ Some t) × (t.version ≡ n)
unfolding root_version tree_of
root_of_version bytes n h = of_version (λ (t : Root). t.version) (offset tree_format bytes) n (whole tree_format bytes) h

abbrev found : ℕ → Result ℕ ℕ
found version = Ok version

-- what bytes are read as has the version that is read
read_so : {A : Type 0} (version : A → ℕ) (at : ℕ) (r : Result A ℕ) (v : A) → result_ok r ≡ Some v → version_or version at r ≡ Ok (version v)
read_so {A = A} version at (Ok w) v h = ap (λ (x : A). found (version x)) (same_Some w v h)
read_so {A = A} version at (Err left) v h = absurd (none-some v h)

pub version_of_leaf : (bytes : List ℕ) (l : Leaf) → leaf_in bytes ≡ Some l → leaf_version bytes ≡ Ok l.version
unfolding leaf_version leaf_in
version_of_leaf bytes l h = read_so (λ (l : Leaf). l.version) (offset leaf bytes) (whole leaf bytes) l h

pub version_of_inner : (bytes : List ℕ) (n : Inner) → inner_of bytes ≡ Some n → inner_version bytes ≡ Ok n.version
unfolding inner_version inner_of
version_of_inner bytes n h = read_so (λ (n : Inner). n.version) (offset inner_format bytes) (whole inner_format bytes) n h

pub version_of_root : (bytes : List ℕ) (t : Root) → tree_of bytes ≡ Some t → root_version bytes ≡ Ok t.version
unfolding root_version tree_of
version_of_root bytes t h = read_so (λ (t : Root). t.version) (offset tree_format bytes) (whole tree_format bytes) t h

pub accept_leaf : (c : Cache) (tree page : ℕ) (got : Option (List ℕ)) (version : ℕ) (d : Cache) → accepts c (Page tree page) true got ≡ Ok (version, d)
    → (l : Leaf) × (leaf_at d (Page tree page) ≡ Some l) × (l.version ≡ version)
accept_leaf c tree page None version d h =
    (empty_leaf, ap as_leaf (accept_kept c (Page tree page) true None version d h), sym (accept_absent c (Page tree page) true version d h))
accept_leaf c tree page (Some bytes) version d h =
    let l = leaf_of_version bytes version (accept_version c (Page tree page) true bytes version d h) in
    (l.0, ap as_leaf (accept_kept c (Page tree page) true (Some bytes) version d h) ∙ l.1, l.2)

pub accept_inner : (c : Cache) (tree page : ℕ) (got : Option (List ℕ)) (version : ℕ) (d : Cache) → accepts c (Page tree page) false got ≡ Ok (version, d)
    → (n : Inner) × (inner_at d (Page tree page) ≡ Some n) × (n.version ≡ version)
accept_inner c tree page None version d h = absurd (never (Stale page 1 0) (version, d) h)
accept_inner c tree page (Some bytes) version d h =
    let n = inner_of_version bytes version (accept_version c (Page tree page) false bytes version d h) in
    (n.0, ap as_inner (accept_kept c (Page tree page) false (Some bytes) version d h) ∙ n.1, n.2)

pub accept_root : (c : Cache) (tree : ℕ) (leaf : Bool) (got : Option (List ℕ)) (version : ℕ) (d : Cache) → accepts c (Tree tree) leaf got ≡ Ok (version, d)
    → (t : Root) × (root_at d (Tree tree) ≡ Some t) × (t.version ≡ version)
accept_root c tree leaf None version d h =
    (empty_tree, ap as_root (accept_kept c (Tree tree) leaf None version d h), sym (accept_absent c (Tree tree) leaf version d h))
accept_root c tree leaf (Some bytes) version d h =
    let t = root_of_version bytes version (accept_version c (Tree tree) leaf bytes version d h) in
    (t.0, ap as_root (accept_kept c (Tree tree) leaf (Some bytes) version d h) ∙ t.1, t.2)
