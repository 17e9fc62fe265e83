-- What is to be put: a reservation, and then pages.
use Rattle.std.specs.Prelude.{ℕ, ◌==◌, ◌&&◌, Bool, List, [], ◌∷◌, drop, length, Option, Some, None, is_none}
use Rattle.db_base.specs.declared.names.ObjName.TheVariants as object
use Rattle.cloud_trait.specs.Ask.{Ask, PutHeld}
use Rattle.cloud_trait.specs.Claim.{Claim}
use Rattle.split_plan.specs.declared.put_list.PagePut.{PagePut}
use Rattle.tree_phases.specs.declared.placing.Placing.{Placing}

-- the put in hand: the reservation under the tree's lease, or the next page under both
abbrev pub put_next : ℕ → Claim → Option Claim → List PagePut → Option Ask
put_next tree l second [] = None
put_next tree l second (x ∷ xs) = Some (PutHeld (object.Page tree x.page) x.bytes l second)

abbrev pub put_first : ℕ → Claim → Option Ask → Option (List ℕ) → Option Ask
put_first tree l pages (Some bytes) = Some (PutHeld (object.Tree tree) bytes l None)
put_first tree l pages None = pages

abbrev pub put_in_hand : Placing → ℕ → Claim → Option Claim → Option Ask
put_in_hand p tree l second = put_first tree l (put_next tree l second p.puts) p.reserved

-- the newest tree object once the put in hand landed
abbrev pub root_after : Option (List ℕ) → Option (List ℕ) → Option (List ℕ)
root_after (Some bytes) root = Some bytes
root_after None root = root

abbrev pub landed_root : Placing → Option (List ℕ) → Option (List ℕ)
landed_root p root = root_after p.reserved root

-- what is left to put once the put in hand landed
abbrev pub puts_after : Option (List ℕ) → List PagePut → List PagePut
puts_after (Some bytes) puts = puts
puts_after None puts = drop 1 puts

abbrev pub landed_placing : Placing → Placing
landed_placing p = record { reserved = None; puts = puts_after p.reserved p.puts }

-- nothing is to be put
abbrev pub has_nothing : Placing → Bool
has_nothing p = is_none p.reserved && (length p.puts == 0)

-- one page is to be put, and nothing before it
abbrev pub has_one_page : Placing → Bool
has_one_page p = is_none p.reserved && (length p.puts == 1)
