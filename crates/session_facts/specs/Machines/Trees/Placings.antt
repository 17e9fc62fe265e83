-- The pieces of a page that is cut, on their way: they are put from the right end on, on numbers that were reserved for them.
use Rattle.std.specs.Prelude.{ℕ, ◌≡◌, ◌+◌, ◌<◌, ◌≤◌, Bool, false, List, [], ◌∷◌, ◌++◌, length, map, reverse}
use Rattle.cloud_facts.specs.Chains.Chain.{IsUnlinked}
use Rattle.cloud_facts.specs.Chains.Cuts.{HaveLanded}
use Rattle.cloud_facts.specs.Words.{Tree, Link, Node}
use Rattle.node_codec.specs.Tree.{tree_bytes, HasTreeSpelling}
use Rattle.split_plan.specs.declared.put_list.PagePut.{PagePut}
use Rattle.split_plan.specs.Part.{Part}
use Rattle.split_plan.specs.Plan.{put_of, on_pages}

-- of these pieces the first, for the page itself, and those beside it are still to be put; those behind them landed
pub record IsPlacing {A X : Type 0} (bytes : Part A X → List ℕ) (page first : ℕ) (pieces : List (Part A X)) (puts : List PagePut) : Type 0 where
  pub front : Part A X
  pub middle : List (Part A X)
  pub behind : List (Part A X)
  pub pieces_are : pieces ≡ front ∷ (middle ++ behind)
  pub puts_are : puts ≡ reverse (map (put_of bytes) (on_pages page first (front ∷ middle)))

-- the new pieces of a node: their numbers go from `first` on, some are still to be put, and those behind them were
pub record Numbered (Piece : Type 0) : Type 0 where
  pub first : ℕ
  pub middle : List Piece
  pub behind : List Piece

abbrev pub numbered : {Piece : Type 0} → ℕ → List Piece → List Piece → Numbered Piece
numbered first middle behind = record { first = first; middle = middle; behind = behind }

-- the numbers from `first` on are these pieces': reserved, in no chain and not removed; those that landed did so once, and the others have no version
pub record AreReserved {A X : Type 0} (node : Part A X → Node) (chain : ℕ → List Link) (nodes : ℕ → List Node) (gone : ℕ → Bool) (next : ℕ)
    (of : Numbered (Part A X)) : Type 0 where
  pub within : of.first + (length of.middle + length of.behind) ≤ next
  pub above : (page : ℕ) → of.first ≤ page → page < of.first + (length of.middle + length of.behind) → 1 < page
  pub unlinked : (page : ℕ) → of.first ≤ page → page < of.first + (length of.middle + length of.behind) → IsUnlinked chain page
  pub there : (page : ℕ) → of.first ≤ page → page < of.first + (length of.middle + length of.behind) → gone page ≡ false
  pub absent : (page : ℕ) → of.first ≤ page → page < of.first + length of.middle → nodes page ≡ []
  pub landed : HaveLanded node nodes (of.first + length of.middle) of.behind

-- a root's next version with so many numbers reserved, from its `next` on, and nothing else changed
abbrev pub reserving : ℕ → Tree → Tree
reserving count root = record root { version = root.version + 1; next = root.next + count }

-- the bytes are that version's
pub record IsReservation (root : Tree) (count first : ℕ) (bytes : List ℕ) : Type 0 where
  pub first_is : first ≡ root.next
  pub bytes_are : bytes ≡ tree_bytes (reserving count root)
  pub fits : HasTreeSpelling (reserving count root)
