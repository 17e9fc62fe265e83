-- What is known of a tree stays where the newest bytes of each object are the same.
use Rattle.std.proofs.Common.{◌≡◌, ℕ, suc, List, [], ◌∷◌, Ok, sym, subst, ◌∙◌}
use Rattle.std.specs.Prelude.{Option}
use Rattle.db_base.specs.Value.{Value}
use Rattle.db_base.specs.declared.names.ObjName.{ObjName}
use Rattle.db_base.specs.declared.names.ObjName.TheVariants as object
use Rattle.cloud_trait.specs.State.{CloudState, newest}
use Rattle.leaf_view.specs.Leaf.{Leaf}
use Rattle.node_codec.specs.Inner.{Inner}
use Rattle.replay_meaning.specs.Chain.{IsReadAs, IsNewestLeaf, Leads}
use Rattle.replay_meaning.specs.Index.{IsNewestInner, IsRootIn, Reaches, ends, right_leaf, right_inner, down, Finds}

-- the newest bytes of each object are the same
abbrev pub AreNewest : CloudState → CloudState → Type 0
AreNewest s t = (name : ObjName) → newest t name ≡ newest s name

pub newest_leaf_same : (s t : CloudState) → AreNewest s t → (tree page : ℕ) (l : Leaf) → IsNewestLeaf s tree page l → IsNewestLeaf t tree page l
newest_leaf_same s t e tree page l h = let P : Option (List ℕ) → Type 0 = λ b. IsReadAs tree page b (Ok l) in subst P (sym (e (object.Page tree page))) h

pub newest_inner_same : (s t : CloudState) → AreNewest s t → (tree page : ℕ) (node : Inner) → IsNewestInner s tree page node → IsNewestInner t tree page node
newest_inner_same s t e tree page node h = (h.0, e (object.Page tree page) ∙ h.1, h.2)

pub leads_same : (s t : CloudState) → AreNewest s t → (tree from : ℕ) (leaves : List Leaf) (to : ℕ) → Leads s tree from leaves to → Leads t tree from leaves to
leads_same s t e tree from [] to h = h
leads_same s t e tree from (l ∷ leaves) to h = (h.0, newest_leaf_same s t e tree from l h.1, leads_same s t e tree l.right leaves to h.2)

pub reaches_same : (s t : CloudState) → AreNewest s t → (tree : ℕ) (key : List ℕ) (level page : ℕ) (leaf : Leaf) → Reaches s tree key level page leaf → Reaches t tree key level page leaf
reaches_same s t e tree key level page leaf (ends p l is within) = ends p l (newest_leaf_same s t e tree p l is) within
reaches_same s t e tree key level page leaf (right_leaf p from l is right rest) =
    right_leaf p from l (newest_leaf_same s t e tree p from is) right (reaches_same s t e tree key 0 from.right l rest)
reaches_same s t e tree key level page leaf (right_inner above p node l is right rest) =
    right_inner above p node l (newest_inner_same s t e tree p node is) right (reaches_same s t e tree key (suc above) node.right l rest)
reaches_same s t e tree key level page leaf (down above p node l low child is within entry rest) =
    down above p node l low child (newest_inner_same s t e tree p node is) within entry (reaches_same s t e tree key above child l rest)

pub finds_same : (s t : CloudState) → AreNewest s t → (tree : ℕ) (key : List ℕ) (value : Option Value) → Finds s tree key value → Finds t tree key value
finds_same s t e tree key value h = record {
  root = h.root;
  is_root = (let P : Option (List ℕ) → Type 0 = λ b. IsRootIn b h.root in subst P (sym (e (object.Tree tree))) h.is_root);
  low = h.low;
  child = h.child;
  entry = h.entry;
  above = h.above;
  level = h.level;
  leaf = h.leaf;
  reaches = reaches_same s t e tree key h.above h.child h.leaf h.reaches;
  value_is = h.value_is;
}
