-- Why a sweep stops: each trouble is shown by the answer of the step that brings it.
use Rattle.std.specs.Prelude.{ℕ, ◌≡◌, ◌≢◌, true, false, List, Option, Some, None, Ok, Err, ◌⊎◌}
use Rattle.db_base.specs.Limits.{tree_ticks}
use Rattle.db_base.specs.declared.names.ObjName.TheVariants as object
use Rattle.db_base.specs.declared.names.Place.{Place}
use Rattle.db_base.specs.declared.names.Place.TheVariants as place
use Rattle.db_base.specs.declared.trouble.Trouble.{Trouble}
use Rattle.db_base.specs.declared.trouble.Trouble.TheVariants as trouble
use Rattle.byte_format.specs.Order.{bytes_same}
use Rattle.byte_format.specs.Whole.{whole, offset}
use Rattle.leaf_view.specs.Leaf.{Leaf, leaf}
use Rattle.node_codec.specs.Inner.{Inner, inner_of, inner_format}
use Rattle.node_codec.specs.Tree.{Tree, tree_of, tree_format}
use Rattle.cloud_trait.specs.declared.answer.Answer.{Answer}
use Rattle.cloud_trait.specs.declared.answer.Answer.TheVariants as call
use Rattle.cloud_trait.specs.declared.turn.Turn.{Turn}
use Rattle.cloud_trait.specs.declared.turn.Turn.TheVariants.{More, Ended, Stopped}
use Rattle.cloud_trait.specs.Ask.{Ask, Release, Take}
use Rattle.orphan_sweep.specs.declared.paths.Paths.{Paths}
use Rattle.orphan_sweep.specs.declared.spot.Spot.{Spot}
use Rattle.orphan_sweep.specs.declared.stage.Stage.TheVariants.{GettingTree, Reading}
use Rattle.orphan_sweep.specs.declared.swept.Swept.{Swept}
use Rattle.orphan_sweep.specs.Pages.{leaf_held, root_held, top_spot, paths_of, onward}
use Rattle.orphan_sweep.specs.Sweeping.{Sweeping, sweep_ask, is_among}

-- a call whose failure stops the sweep: each but the release
abbrev pub Matters : Ask → Type 0
Matters (Release l) = ⊥
Matters ask = Unit {0}

-- the tree object's bytes spell none
abbrev pub BreaksRoot : Sweeping → Answer → ℕ → Type 0
BreaksRoot s a at = (s.stage ≡ GettingTree) × ((bytes : List ℕ) × (a ≡ call.Got (Some bytes)) × (tree_of bytes ≡ None) × (at ≡ offset tree_format bytes))

-- the page at hand is to be a leaf, and its bytes spell none
abbrev pub BreaksLeaf : Spot → Answer → ℕ → Type 0
BreaksLeaf s a at =
    (s.level ≡ 0) × ((bytes : List ℕ) × ((left : ℕ) × (a ≡ call.Got (Some bytes)) × (whole leaf bytes ≡ Err left) × (at ≡ offset leaf bytes)))

-- it is to be an inner node, and its bytes spell none
abbrev pub BreaksInner : Spot → Answer → ℕ → Type 0
BreaksInner s a at =
    (s.level ≢ 0) × ((bytes : List ℕ) × (a ≡ call.Got (Some bytes)) × (inner_of bytes ≡ None) × (at ≡ offset inner_format bytes))

-- .. or it is page 1 and absent, which is a leaf, or it is of another level, which stands at offset 10
abbrev pub BreaksLevel : Spot → Answer → ℕ → Type 0
BreaksLevel s a at =
    (s.level ≢ 0)
    × (((s.page ≡ 1) × (a ≡ call.Got None) × (at ≡ 0))
    ⊎ ((bytes : List ℕ) × ((n : Inner) × (a ≡ call.Got (Some bytes)) × (inner_of bytes ≡ Some n) × (n.level ≢ s.level) × (at ≡ 10))))

abbrev pub BreaksPage : Sweeping → Answer → ℕ → Type 0
BreaksPage s a at = (s.stage ≡ Reading) × (BreaksLeaf s.at a at ⊎ (BreaksInner s.at a at ⊎ BreaksLevel s.at a at))

abbrev pub Breaks : Sweeping → Answer → Place → ℕ → Type 0
Breaks s a where_it_is at =
    ((where_it_is ≡ place.Object (object.Tree s.tree)) × BreaksRoot s a at)
    ⊎ ((where_it_is ≡ place.Object (object.Page s.tree s.at.page)) × BreaksPage s a at)

-- a held get brought a page with this low key: a leaf, where an absent page 1 is the empty one, or an inner node of the level that was promised
abbrev pub HasLow : Sweeping → Answer → List ℕ → Type 0
HasLow s a low =
    ((s.at.level ≡ 0) × ((got : Option (List ℕ)) × ((l : Leaf) × (a ≡ call.Got got) × (leaf_held s.tree s.at.page got ≡ Ok l) × (low ≡ l.low))))
    ⊎ ((s.at.level ≢ 0)
    × ((bytes : List ℕ) × ((n : Inner) × (a ≡ call.Got (Some bytes)) × (inner_of bytes ≡ Some n) × (n.level ≡ s.at.level) × (low ≡ n.low))))

-- a low key that is not the one that led to the page: the empty one, or the high key of the page on its left
abbrev pub BreaksFence : Sweeping → Answer → ℕ → List ℕ → List ℕ → Type 0
BreaksFence s a page expected found =
    (s.stage ≡ Reading) × (page ≡ s.at.page) × (expected ≡ s.at.low) × (bytes_same expected found ≡ false) × HasLow s a found

-- a held get brought a tree object or a page that leads to this one next
abbrev pub LeadsTo : Sweeping → Answer → Spot → Type 0
LeadsTo s a spot =
    ((s.stage ≡ GettingTree)
    × ((got : Option (List ℕ)) × ((root : Tree) × (a ≡ call.Got got) × (root_held s.tree got ≡ Ok root) × (spot ≡ top_spot root))))
    ⊎ ((s.stage ≡ Reading)
    × ((got : Option (List ℕ)) × ((paths : Paths) × (a ≡ call.Got got) × (paths_of s.tree s.at got ≡ Ok paths) × (onward s.at paths ≡ Some spot))))

-- it leads to a page that was come to before
abbrev pub GoesRound : Sweeping → Answer → ℕ → Type 0
GoesRound s a page = (is_among s.visited page ≡ true) × ((spot : Spot) × LeadsTo s a spot × (page ≡ spot.page))

-- What the answer to the call in hand must be where this trouble comes of it. Want of memory is free.
abbrev pub Shows : Sweeping → Answer → Trouble → Type 0
Shows s a trouble.Failed = (a ≡ call.Failed) × Matters (sweep_ask s)
Shows s a (trouble.Late end now) = a ≡ call.Late end now
Shows s a (trouble.Busy lock until) = (sweep_ask s ≡ Take lock tree_ticks) × (a ≡ call.Held until)
Shows s a (trouble.Absent page) = (s.stage ≡ Reading) × (page ≡ s.at.page) × (page ≢ 1) × (a ≡ call.Got None)
Shows s a (trouble.Damaged where_it_is at) = Breaks s a where_it_is at
Shows s a (trouble.BadFence page expected found) = BreaksFence s a page expected found
Shows s a (trouble.Loop page) = GoesRound s a page
Shows s a (trouble.NotALeaf page) = ⊥
Shows s a (trouble.Exhausted what) = ⊥
Shows s a (trouble.Waiting have need) = ⊥
Shows s a (trouble.Stale page least got) = ⊥
Shows s a trouble.Memory = Unit {0}

-- a trouble that is kept or answered after a call was kept before it, or the call's answer shows it
abbrev pub IsShown : Sweeping → Answer → Trouble → Type 0
IsShown s a t = (s.trouble ≡ Some t) ⊎ Shows s a t

-- what a step tells of its trouble
abbrev pub Tells : Sweeping → Answer → Sweeping → Turn Swept → Type 0
Tells s a n More = (t : Trouble) → n.trouble ≡ Some t → IsShown s a t
Tells s a n (Ended x) = s.trouble ≡ None
Tells s a n (Stopped t) = t ≢ trouble.Memory → IsShown s a t
