-- What a cloud tells under a book.
use Rattle.std.specs.Prelude.{ℕ, zero, suc, ◌-◌, Bool, false, List, [], ◌∷◌, map, filter, length, slice_get, Option, Some, None, is_some, is_none, unwrap_or, if◌then◌else◌}
use Rattle.std.specs.Option.{option_and_then}
use Rattle.std.specs.Result.{result_ok}
use Rattle.byte_format.specs.Order.{bytes_below}
use Rattle.byte_format.specs.Whole.{whole}
use Rattle.db_base.specs.Cursor.{number_of}
use Rattle.db_base.specs.declared.names.ObjName.TheVariants as object
use Rattle.db_base.specs.declared.names.QueueName.{QueueName}
use Rattle.db_base.specs.declared.names.QueueName.TheVariants.{Atomic, TreePu, PagePu}
use Rattle.cloud_trait.specs.declared.state.Version.{Version}
use Rattle.cloud_trait.specs.State.{CloudState}
use Rattle.head_codec.specs.declared.head.Head.{Head}
use Rattle.head_codec.specs.Head.{empty_head}
use Rattle.head_codec.specs.Spelling.{head_of}
use Rattle.leaf_view.specs.Leaf.{Leaf, leaf}
use Rattle.leaf_view.specs.Lookup.{empty_leaf, value_of, number_of as done_number}
use Rattle.node_codec.specs.Inner.{Inner, inner_of}
use Rattle.node_codec.specs.Tree.{Tree, empty_tree, tree_of}
use Rattle.cloud_facts.specs.Book.Book.{Book, Link}
use Rattle.cloud_facts.specs.Book.Tally.{Node, Leafy, Branch, Tally}

-- ---- versions

-- the last of a list, or what stands for it where there is none
abbrev pub last_or : {A : Type 0} → A → List A → A
last_or none xs = unwrap_or (slice_get xs (length xs - 1)) none

-- a version of a head, a root or a page by its bytes; no bytes, and bytes in no spelling, stand for what is absent
abbrev pub head_in : Version → Head
head_in v = unwrap_or (option_and_then head_of v.bytes) empty_head

abbrev pub root_in : Version → Tree
root_in v = unwrap_or (option_and_then tree_of v.bytes) empty_tree

-- the leaf that bytes spell
unfoldable pub leaf_of_bytes : List ℕ → Option Leaf
leaf_of_bytes bytes = result_ok (whole leaf bytes)

abbrev pub branch_or : Option Inner → Node
branch_or (Some n) = Branch n
branch_or None = Leafy empty_leaf

abbrev pub node_or : Option Leaf → List ℕ → Node
node_or (Some l) bytes = Leafy l
node_or None bytes = branch_or (inner_of bytes)

abbrev pub node_of_bytes : Option (List ℕ) → Node
node_of_bytes (Some bytes) = node_or (leaf_of_bytes bytes) bytes
node_of_bytes None = Leafy empty_leaf

abbrev pub node_in : Version → Node
node_in v = node_of_bytes v.bytes

-- the versions that have bytes
abbrev pub with_bytes : List Version → List Version
with_bytes vs = filter (λ (v : Version). is_some v.bytes) vs

-- the newest version has no bytes: the object was removed
abbrev pub is_bare : Version → Bool
is_bare v = is_none v.bytes

abbrev pub is_gone : List Version → Bool
is_gone vs = last_or false (map is_bare vs)

-- ---- the leaf that holds a key

-- the page of the last link whose low key is at most the key; page 1 where there is none
abbrev pub page_from : ℕ → List ℕ → List Link → ℕ
page_from before key [] = before
page_from before key (link ∷ links) = if bytes_below key link.low then before else page_from link.page key links

abbrev pub page_for : Book → ℕ → List ℕ → ℕ
page_for book tree key = page_from 1 key (book.chain tree 0)

-- a leaf as it is, and the empty one for what is none
abbrev pub leaf_in : Node → Leaf
leaf_in (Leafy l) = l
leaf_in (Branch n) = empty_leaf

-- the newest version of a page as a leaf
abbrev pub newest_leaf : (ℕ → ℕ → List Node) → ℕ → ℕ → Leaf
newest_leaf nodes tree page = leaf_in (last_or (Leafy empty_leaf) (nodes tree page))

-- the newest leaf of the page for the key
abbrev pub leaf_for : Book → (ℕ → ℕ → List Node) → ℕ → List ℕ → Leaf
leaf_for book nodes tree key = newest_leaf nodes tree (page_for book tree key)

-- ---- the whole

abbrev pub queue_of : ℕ → ℕ → QueueName
queue_of tree zero = TreePu tree
queue_of tree (suc page) = PagePu tree (suc page)

-- a removal is none of a page's nodes
abbrev pub nodes_of : CloudState → ℕ → ℕ → List Node
nodes_of s tree page = map node_in (with_bytes (s.versions (object.Page tree page)))

abbrev pub gone_of : CloudState → ℕ → ℕ → Bool
gone_of s tree page = is_gone (s.versions (object.Page tree page))

abbrev pub roots_of : CloudState → ℕ → List Tree
roots_of s tree = map root_in (s.versions (object.Tree tree))

abbrev pub newest_root : (ℕ → List Tree) → ℕ → Tree
newest_root roots tree = last_or empty_tree (roots tree)

-- the cursor of a queue: the newest root's, or the own entry of the newest leaf
abbrev pub cursor_of : CloudState → ℕ → ℕ → ℕ → ℕ
cursor_of s tree zero client = number_of (newest_root (roots_of s) tree).cursor client
cursor_of s tree (suc page) client = done_number (newest_leaf (nodes_of s) tree (suc page)).done (suc page) client

abbrev pub tally_of : Book → CloudState → Tally
tally_of book s = record {
  head = λ client. last_or empty_head (map head_in (s.versions (object.Head client)));
  logged = λ client. s.messages (Atomic client);
  posts = λ tree page. s.messages (queue_of tree page);
  cursor = cursor_of s;
  done = λ tree key page client. done_number (leaf_for book (nodes_of s) tree key).done page client;
  value = λ tree key. value_of key (leaf_for book (nodes_of s) tree key).records;
  nodes = nodes_of s;
  gone = gone_of s;
  roots = roots_of s;
}
