-- What led a walk to the page in hand: the link of an object that it found in the cache when it began, or that one of its calls got.
use Rattle.std.specs.Prelude.{ℕ, ◌≡◌, ◌⊎◌, List, [], ◌∷◌, Option, Some}
use Rattle.db_base.specs.declared.names.ObjName.{ObjName}
use Rattle.db_base.specs.declared.names.ObjName.TheVariants as object
use Rattle.leaf_view.specs.Leaf.{Leaf}
use Rattle.leaf_view.specs.Lookup.{page_at}
use Rattle.node_codec.specs.Inner.{Inner}
use Rattle.node_codec.specs.Tree.{Tree}
use Rattle.cloud_trait.specs.declared.answer.Answer.{Answer}
use Rattle.cloud_trait.specs.declared.answer.Answer.TheVariants.{Got}
use Rattle.cloud_trait.specs.Ask.{Get}
use Rattle.cloud_trait.specs.Machine.{Goes, Deed, IsMade}
use Rattle.page_cache.specs.Cache.{Cache, kept_at}
use Rattle.page_cache.specs.Held.{leaf_at, inner_at, root_at}
use Rattle.tree_walk.specs.Walk.{Spot, Walk, sought, entry_for, right_of, asks, walk_next}
use Rattle.tree_walk.specs.Causes.{below, aside, node_link, Brings}
use Rattle.tree_walk.specs.Within.{IsBegun}

-- one of these calls got this of an object
abbrev pub WasGot : List Deed → ObjName → Option (List ℕ) → Type 0
WasGot [] name got = ⊥
WasGot (d ∷ h) name got = ((d.ask ≡ Get name) × (d.answer ≡ Got got)) ⊎ WasGot h name got

-- a cache keeps nothing but what the walk found in the one with which it began, and what its calls got
abbrev pub HasRead : Cache → List Deed → Cache → Type 0
HasRead began h c = (name : ObjName) (got : Option (List ℕ)) → kept_at c name ≡ Some got → (kept_at began name ≡ Some got) ⊎ WasGot h name got

-- an object of the tree that a cache keeps leads the key to the page: the tree object, an inner node, or a leaf to the right
abbrev pub LinksTo : Cache → ℕ → List ℕ → Spot → Type 0
LinksTo c tree key s =
    ((t : Tree) × (root_at c (object.Tree tree) ≡ Some t) × (s ≡ below t.level (entry_for key t.entries)))
    ⊎ (((page : ℕ) × (n : Inner) × (inner_at c (object.Page tree page) ≡ Some n) × (s ≡ node_link key n))
    ⊎ ((page : ℕ) × (l : Leaf) × (next : ℕ × List ℕ) × (leaf_at c (object.Page tree page) ≡ Some l) × (right_of key l.high (page_at l.right) ≡ Some next)
    × (s ≡ aside 0 next)))

-- an object that the walk read so links to the page
abbrev pub WasLinked : Cache → List Deed → Walk → Spot → Type 0
WasLinked began h w s = (c : Cache) × HasRead began h c × LinksTo c w.tree (sought w) s

-- the walk came from its begin to this state by these calls, the newest first, whatever others did between them
abbrev pub Walked : Walk × Cache → List Deed → Walk × Cache → Type 0
Walked start [] m = m ≡ start
Walked start (d ∷ h) m = (from : Walk × Cache) × Walked start h from × (d.ask ≡ asks from) × IsMade d × (walk_next from d.answer ≡ Goes m)

-- the cache with which a walk began
abbrev pub began_with : (start : Walk × Cache) → IsBegun start → Cache
began_with start begun = begun.3

-- what led to the page in hand before a call, and what the cache keeps with what the call got
pub record LedBy (began : Cache) (h : List Deed) (d : Deed) (old : Walk × Cache) (a : Answer) : Type 0 where
  pub was : (s : Spot) → old.0.spot ≡ Some s → WasLinked began h old.0 s
  pub read : (c : Cache) → Brings old a c → HasRead began (d ∷ h) c
