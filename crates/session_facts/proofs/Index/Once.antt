-- The index finds one value at a key, and only at a key.
use Rattle.std.proofs.Common.{◌≡◌, ◌∙◌, ℕ, suc, Bool, true, false, cond, not, List, [], ◌∷◌, Option, Some, None, ap, refl, sym, subst}
use Rattle.std.specs.List.{AllByRecursion}
use Rattle.std.proofs.lemmas.Option.{same_Some}
use Rattle.byte_format.proofs.OrderLemmas.{same_is}
use Rattle.byte_format.specs.Order.{bytes_same}
use Rattle.cloud_facts.proofs.Meanings.Pages.{read_range}
use Rattle.cloud_facts.specs.Words.{Leaf, Inner, Tree, CloudState, newest}
use Rattle.db_base.specs.Key.{IsKey}
use Rattle.db_base.specs.Value.{Value}
use Rattle.db_base.specs.declared.names.ObjName.TheVariants as object
use Rattle.leaf_view.specs.Fits.{IsEntryIn}
use Rattle.leaf_view.specs.Leaf.{Entry as Kept}
use Rattle.leaf_view.specs.Lookup.{value_of}
use Rattle.node_codec.proofs.SpellingLaws.{tree_only, inner_only}
use Rattle.node_codec.specs.Inner.{inner_of}
use Rattle.node_codec.specs.Node.{Entry, child_of}
use Rattle.replay_meaning.proofs.ChainLemmas.{one_leaf}
use Rattle.replay_meaning.specs.Chain.{IsNewestLeaf}
use Rattle.replay_meaning.specs.Index.{IsRightOf, IsWithin, IsNewestInner, Reaches, ends, right_leaf, right_inner, down, IsRootIn, Finds}

-- a key is not both below a high key and not
not_both : (key : List ℕ) (high : Option (List ℕ)) → IsRightOf key high → IsWithin key high → ⊥
not_both key None right within = right
not_both key (Some high) right within = let no : not true ≡ true = ap not (sym within) ∙ right in absurd (cc (no))

-- one entry leads to one page
one_page : (a b : Entry) → Some a ≡ Some b → a.1 ≡ b.1
one_page a b e = ap (λ (x : Entry). x.1) (same_Some a b e)

-- a record with a value is at a key
value_key : (key low : List ℕ) (high : Option (List ℕ)) (es : List Kept) (v : Value) → AllByRecursion (IsEntryIn low high) es
    → value_of key es ≡ Some v → IsKey key
value_key key low high [] v all found = absurd (cc (found))
value_key key low high (e ∷ es) v all found = on (bytes_same e.key key) refl found (λ more. value_key key low high es v all.1 more)
  where
    on : (b : Bool) → bytes_same e.key key ≡ b → cond b (Some e.value) (value_of key es) ≡ Some v → (value_of key es ≡ Some v → IsKey key) → IsKey key
    on true is here again = subst IsKey (same_is e.key key is) all.0.key
    on false is there again = again there

module _ (t : CloudState) (tree : ℕ) (key : List ℕ) where
  leaf_once : (page : ℕ) (l m : Leaf) → IsNewestLeaf t tree page l → IsNewestLeaf t tree page m → l ≡ m
  leaf_once page l m a b = one_leaf tree page (newest t (object.Page tree page)) l m a b

  inner_once : (page : ℕ) (n m : Inner) → IsNewestInner t tree page n → IsNewestInner t tree page m → n ≡ m
  inner_once page n m (bytes, e, is) (others, f, are) =
      let same : bytes ≡ others = same_Some bytes others (sym e ∙ f) in
      same_Some n m (sym (inner_only bytes n is) ∙ (ap inner_of same ∙ inner_only others m are))

  root_once : (bytes : Option (List ℕ)) (a b : Tree) → IsRootIn bytes a → IsRootIn bytes b → a ≡ b
  root_once None a b e f = e ∙ sym f
  root_once (Some bytes) a b e f = same_Some a b (sym (tree_only bytes a e) ∙ tree_only bytes b f)

  -- a walk ends at one leaf
  reaches_once : (level page : ℕ) (l m : Leaf) → Reaches t tree key level page l → Reaches t tree key level page m → l ≡ m
  reaches_once level page l m (ends p x is within) (ends q y at below) = leaf_once p x y is at
  reaches_once level page l m (ends p x is within) (right_leaf q from y at right rest) =
      absurd (not_both key from.high right (subst (λ (z : Leaf). IsWithin key z.high) (leaf_once p x from is at) within))
  reaches_once level page l m (right_leaf p from x is right rest) (ends q y at within) =
      absurd (not_both key from.high right (subst (λ (z : Leaf). IsWithin key z.high) (leaf_once p y from at is) within))
  reaches_once level page l m (right_leaf p from x is right rest) (right_leaf q other y at beside more) =
      reaches_once 0 from.right x y rest (subst (λ (z : Leaf). Reaches t tree key 0 z.right y) (leaf_once p other from at is) more)
  reaches_once level page l m (right_inner above p node x is right rest) (right_inner over q other y at beside more) =
      reaches_once (suc above) node.right x y rest (subst (λ (z : Inner). Reaches t tree key (suc above) z.right y) (inner_once p other node at is) more)
  reaches_once level page l m (right_inner above p node x is right rest) (down over q other y low child at within found more) =
      absurd (not_both key node.high right (subst (λ (z : Inner). IsWithin key z.high) (inner_once p other node at is) within))
  reaches_once level page l m (down above p node x low child is within found rest) (right_inner over q other y at right more) =
      absurd (not_both key other.high right (subst (λ (z : Inner). IsWithin key z.high) (inner_once p node other is at) within))
  reaches_once level page l m (down above p node x low child is within found rest) (down over q other y least next at below there more) =
      let entries = ap (λ (z : Inner). child_of key z.entries) (inner_once p node other is at) in
      let same : child ≡ next = one_page (low, child) (least, next) (sym found ∙ (entries ∙ there)) in
      reaches_once above child x y rest (subst (λ (to : ℕ). Reaches t tree key above to y) (sym same) more)

  pub finds_once : (a b : Option Value) → Finds t tree key a → Finds t tree key b → a ≡ b
  finds_once a b f g =
      f.value_is ∙ (ap (λ (l : Leaf). value_of key l.records) (reaches_once f.above f.child f.leaf g.leaf f.reaches there) ∙ sym g.value_is)
    where
      root : g.root ≡ f.root
      root = root_once (newest t (object.Tree tree)) g.root f.root g.is_root f.is_root

      child : g.child ≡ f.child
      child = one_page (g.low, g.child) (f.low, f.child) (sym g.entry ∙ (ap (λ (r : Tree). child_of key r.entries) root ∙ f.entry))

      levels : suc g.above ≡ suc f.above
      levels = sym g.level ∙ (ap (λ (r : Tree). r.level) root ∙ f.level)

      level : g.above ≡ f.above
      level = cc (levels)

      there : Reaches t tree key f.above f.child g.leaf
      there =
          subst (λ (page : ℕ). Reaches t tree key f.above page g.leaf) child
          (subst (λ (n : ℕ). Reaches t tree key n g.child g.leaf) level g.reaches)

  -- the leaf at which a walk ends is the newest one of some page
  reaches_leaf : (level page : ℕ) (l : Leaf) → Reaches t tree key level page l → (at : ℕ) × IsNewestLeaf t tree at l
  reaches_leaf level page l (ends p x is within) = (p, is)
  reaches_leaf level page l (right_leaf p from x is right rest) = reaches_leaf 0 from.right x rest
  reaches_leaf level page l (right_inner above p node x is right rest) = reaches_leaf (suc above) node.right x rest
  reaches_leaf level page l (down above p node x low child is within found rest) = reaches_leaf above child x rest

  pub found_key : (v : Value) → Finds t tree key (Some v) → IsKey key
  found_key v f =
      let at = reaches_leaf f.above f.child f.leaf f.reaches in
      value_key key f.leaf.low f.leaf.high f.leaf.records v (read_range tree at.0 (newest t (object.Page tree at.0)) f.leaf at.1) (sym f.value_is)
