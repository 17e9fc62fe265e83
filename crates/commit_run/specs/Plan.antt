-- The leaves of a commit's changes, as far as they are known.
use Rattle.std.specs.Prelude.{ℕ, ◌||◌, Bool, List, [], ◌∷◌, ◌++◌, length, drop, Option, Some, None, if◌then◌else◌}
use Rattle.std.specs.List.{list_any}
use Rattle.std.specs.Option.{option_map_or}
use Rattle.db_base.specs.Change.{goes_to_leaf, key_of}
use Rattle.head_codec.specs.declared.lists.Pending.{Pending}
use Rattle.leaf_view.specs.Leaf.{Leaf}
use Rattle.route_plan.specs.Queue.{is_pending_of}
use Rattle.txn_buffer.specs.Noted.{Noted}
use Rattle.commit_run.specs.Ended.{Ended, ended_of, page_at}

-- the leaf of each change, from the first on as far as they are known, and the leaves at which walks of the commit ended, in the
-- order of the walks
pub record Plan : Type 0 where
  pub pages : List ℕ
  pub ended : List Ended

abbrev pub empty_plan : Plan
empty_plan = record { pages = []; ended = [] }

-- whether an entry is pending of a tree and key
abbrev pub has_pending : List Pending → ℕ → List ℕ → Bool
has_pending pending tree key = list_any (is_pending_of tree key) pending

-- whether a change seeks a leaf: an update or an addition does, and a change whose tree and key have a pending entry
abbrev pub seeks : List Pending → Noted → Bool
seeks pending n = goes_to_leaf n.change || has_pending pending n.tree (key_of n.change)

-- the page of a change that needs no walk: that of a leaf at which a walk ended and in whose range the key lies, and page 1
-- where it seeks no leaf. None where it needs a walk
abbrev pub page_without : List Pending → List Ended → Noted → Option ℕ
page_without pending ended n = if seeks pending n then page_at ended n.tree (key_of n.change) else Some 1

abbrev pub page_next : List Pending → List Ended → Option Noted → Option ℕ
page_next pending ended (Some n) = page_without pending ended n
page_next pending ended None = None

-- the pages of changes up to the first that needs a walk
abbrev pub pages_of : List Pending → List Ended → List Noted → List ℕ
pages_of pending ended [] = []
pages_of pending ended (n ∷ changes) = option_map_or (λ page. page ∷ pages_of pending ended changes) (page_without pending ended n) []

-- the plan with the pages of the next changes, up to the first that needs a walk
abbrev pub advanced : Plan → List Pending → List Noted → Plan
advanced p pending changes = record p { pages = p.pages ++ pages_of pending p.ended (drop (length p.pages) changes) }

-- a walk ended at a leaf
abbrev pub with_leaf : Plan → ℕ → ℕ → Leaf → Plan
with_leaf p tree page leaf = record p { ended = p.ended ++ ended_of tree page leaf ∷ [] }

-- the next change has this page
abbrev pub with_page : Plan → ℕ → Plan
with_page p page = record p { pages = p.pages ++ page ∷ [] }
