-- What must be known of a tree's chains before a node or a root lands.
use Rattle.std.specs.Prelude.{ℕ, ◌≡◌, ◌+◌, ◌<◌, ◌≤◌, ◌⊎◌, true, List, [], ◌∷◌, length, slice_get, Option, Some, None}
use Rattle.byte_format.specs.Order.{bytes_below}
use Rattle.leaf_view.specs.Fits.{Ascend}
use Rattle.leaf_view.specs.Leaf.{Leaf}
use Rattle.leaf_view.specs.Lookup.{number_of as done_number}
use Rattle.node_codec.specs.Inner.{Inner}
use Rattle.node_codec.specs.Tree.{Tree}
use Rattle.split_plan.specs.Sizes.{count_of}
use Rattle.cloud_facts.specs.Book.Book.{Link}
use Rattle.cloud_facts.specs.Book.Effects.{Taking}
use Rattle.cloud_facts.specs.Book.Records.{StandsAt, IsIn}
use Rattle.cloud_facts.specs.Book.Tally.{Node, Leafy, Branch, Store, low_of}
use Rattle.cloud_facts.specs.Chains.Chain.{IsUnlinked}
use Rattle.cloud_facts.specs.Chains.Links.{link_below, Ascends, top_of, IsOfLevel, EndsBefore, NamesLinks, NamesBelow, NodeNames}

-- ---- pieces of a cut

-- a piece's page has landed exactly once: from the piece's low key up to the next link
pub record IsPiece (nodes : ℕ → List Node) (level : ℕ) (piece : Link) (next : Option Link) : Type 0 where
  pub node : Node
  pub landed : nodes piece.page ≡ node ∷ []
  pub level_is : IsOfLevel level node
  pub low : low_of node ≡ piece.low
  pub ends : EndsBefore node next

-- the first of some pieces, or what is behind them all
abbrev pub first_or : Option Link → List Link → Option Link
first_or after [] = after
first_or after (piece ∷ pieces) = Some piece

-- the fences of pieces from left to right meet, and the last one ends before what is behind them all
abbrev pub ArePieces : (ℕ → List Node) → ℕ → List Link → Option Link → Type 0
ArePieces nodes level [] after = Unit {0}
ArePieces nodes level (piece ∷ pieces) after = IsPiece nodes level piece (first_or after pieces) × ArePieces nodes level pieces after

-- the pages of pieces are in no chain, and no page comes twice
pub record AreNew (chain : ℕ → List Link) (pieces : List Link) : Type 0 where
  pub unlinked : (piece : Link) → IsIn pieces piece → IsUnlinked chain piece.page
  pub distinct : (a b : Link) → IsIn pieces a → IsIn pieces b → a.page ≡ b.page → a.low ≡ b.low

-- ---- a link's page

-- a node lands on the page of a link, up to the next link, or as the left one of pieces that go up to it
pub record LandsOn (chain : ℕ → List Link) (nodes : ℕ → List Node) (level page : ℕ) (node : Node) (pieces : List Link) : Type 0 where
  pub place : ℕ
  pub link : Link
  pub linked : StandsAt (chain level) place link
  pub page_is : link.page ≡ page
  pub level_is : IsOfLevel level node
  pub low : low_of node ≡ link.low
  pub ends : EndsBefore node (first_or (slice_get (chain level) (place + 1)) pieces)
  pub names : NodeNames chain node
  -- the pieces behind it
  pub pieces_are : ArePieces nodes level pieces (slice_get (chain level) (place + 1))
  pub ascends : Ascend link_below (Some link) pieces
  pub within : (piece next : Link) → IsIn pieces piece → StandsAt (chain level) (place + 1) next → bytes_below piece.low next.low ≡ true
  pub new : AreNew chain pieces

-- a leaf lands on the page of a link of the leaf chain; the pieces of a leaf have its table
pub record LandsLeaf (st : Store) (p : Taking) : Type 0 where
  pub lands : LandsOn (st.book.chain p.tree) (st.tally.nodes p.tree) 0 p.page (Leafy p.leaf) p.pieces
  pub table : (piece : Link) (l : Leaf) → IsIn p.pieces piece → st.tally.nodes p.tree piece.page ≡ Leafy l ∷ [] → (page client : ℕ)
      → done_number l.done page client ≡ done_number p.leaf.done page client

-- an inner node lands on the page of a link of its level
abbrev pub LandsInner : Store → ℕ → ℕ → Inner → List Link → Type 0
LandsInner st tree page inner pieces = LandsOn (st.book.chain tree) (st.tally.nodes tree) inner.level page (Branch inner) pieces

-- ---- other pages, and roots

-- a page in no chain lands that was reserved, and has no version
pub record LandsNew (st : Store) (tree page : ℕ) (node : Node) : Type 0 where
  pub absent : st.tally.nodes tree page ≡ []
  pub reserved : page < (top_of (st.tally.roots tree)).next
  pub names : NodeNames (st.book.chain tree) node

-- So many pages may be reserved at once: as many as a leaf is cut into that has a record for each committed one and for each message ever sent to the tree's
-- queue, or a node that names each page of a level.
abbrev pub MayReserve : Store → ℕ → ℕ → Type 0
MayReserve st tree pages =
    (pages ≤ count_of (length st.book.log + length (st.tally.posts tree 0))) ⊎ ((level : ℕ) × (pages ≤ count_of (length (st.book.chain tree level))))

-- a root of the same level lands: with more pages reserved, or with more entries
pub record LandsRoot (st : Store) (tree : ℕ) (root : Tree) : Type 0 where
  pub level : root.level ≡ (top_of (st.tally.roots tree)).level
  pub pages : ℕ
  pub next : root.next ≡ (top_of (st.tally.roots tree)).next + pages
  pub few : MayReserve st tree pages
  pub names : NamesBelow (st.book.chain tree) root.level [] root.entries

-- a root lands that is one level higher: the pieces of the one before are a new level from the left end to the right end, and it names them
pub record Raises (st : Store) (tree : ℕ) (root : Tree) (level : ℕ) (links : List Link) : Type 0 where
  pub level_is : level ≡ (top_of (st.tally.roots tree)).level
  pub height : root.level ≡ level + 1
  pub next : root.next ≡ (top_of (st.tally.roots tree)).next
  pub names : NamesLinks links [] root.entries
  pub begins : (link : Link) × StandsAt links 0 link × (link.low ≡ [])
  pub ascends : Ascends links
  pub pieces_are : ArePieces (st.tally.nodes tree) level links None
  pub new : AreNew (st.book.chain tree) links
