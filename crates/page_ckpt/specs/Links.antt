-- The link that a run takes from a leaf.
use Rattle.std.specs.Prelude.{ℕ, ◌≡◌, ◌≢◌, true, false, List, Option, Some, None, ◌⊎◌}
use Rattle.std.specs.List.{Any, All}
use Rattle.db_base.specs.Change.{key_of}
use Rattle.byte_format.specs.Order.{bytes_below, below_bound}
use Rattle.leaf_view.specs.Leaf.{Leaf}
use Rattle.log_codec.specs.declared.record.PuItem.{PuItem}
use Rattle.page_ckpt.specs.declared.link.Link.{Link}

-- a key of the run is not below this one
abbrev pub ReachesTo : List ℕ → List PuItem → Type 0
ReachesTo key run = Any (λ (x : PuItem). bytes_below (key_of x.rec.change) key ≡ false) run

-- all keys of the run are below the bound, where there is one
abbrev pub StaysBelow : Option (List ℕ) → List PuItem → Type 0
StaysBelow bound run = All (λ (x : PuItem). below_bound (key_of x.rec.change) bound ≡ true) run

-- from a leaf with this right page, 0 for none, and this high key
abbrev pub TakesRight : ℕ → Option (List ℕ) → List PuItem → Option Link → Type 0
TakesRight right high run (Some link) = (right ≢ 0) × (link.page ≡ right) × (high ≡ Some link.low) × ReachesTo link.low run
TakesRight right high run None = (right ≡ 0) ⊎ StaysBelow high run

-- The run takes the link to the leaf's right page, with the leaf's high key, where a key of the run is not below that. It takes none where the leaf
-- has no right page, or all keys of the run are below its high key.
abbrev pub TakesLink : Leaf → List PuItem → Option Link → Type 0
TakesLink l run link = TakesRight l.right l.high run link
