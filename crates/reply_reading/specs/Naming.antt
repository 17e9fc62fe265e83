-- How identifiers and names are read.
use Rattle.std.specs.Prelude.{ℕ, ◌&&◌, nat_le, List, [], ◌∷◌, codes, Option, Some, None, option_map, if◌then◌else◌}
use Rattle.std.specs.Str.{bytes_eq}
use Rattle.db_base.specs.Limits.{last_client, last_tree}
use Rattle.db_base.specs.declared.names.Lock.{Lock}
use Rattle.db_base.specs.declared.names.Lock.TheVariants as lock
use Rattle.db_base.specs.declared.names.ObjName.{ObjName}
use Rattle.db_base.specs.declared.names.ObjName.TheVariants as object
use Rattle.db_base.specs.declared.names.QueueName.{QueueName}
use Rattle.db_base.specs.declared.names.QueueName.TheVariants.{Atomic, TreePu, PagePu}
use Rattle.db_base.specs.declared.names.Place.{Place}
use Rattle.db_base.specs.declared.names.Place.TheVariants.{Object, Message}
use Rattle.words.specs.Word.{number_of}
use Rattle.words.specs.Line.{◌>>=◌, parts_of, word_at, end_at, one_of, two_of}

-- a client, 1 to 64
unfoldable pub client_of : ℕ → Option ℕ
client_of n = if nat_le 1 n && nat_le n last_client then Some n else None

-- a tree, 1 to 16
unfoldable pub tree_of : ℕ → Option ℕ
tree_of n = if nat_le 1 n && nat_le n last_tree then Some n else None

-- a page, from 1 on
unfoldable pub page_of : ℕ → Option ℕ
page_of n = if nat_le 1 n then Some n else None

-- a client and nothing else
unfoldable pub client_alone : List (List ℕ) → Option ℕ
client_alone words = do
  number ← one_of words
  client_of number

-- a tree and nothing else
unfoldable pub tree_alone : List (List ℕ) → Option ℕ
tree_alone words = do
  number ← one_of words
  tree_of number

-- a page and nothing else
unfoldable pub page_alone : List (List ℕ) → Option ℕ
page_alone words = do
  number ← one_of words
  page_of number

-- a tree, a page and nothing else
unfoldable pub page_of_tree : List (List ℕ) → Option (ℕ × ℕ)
page_of_tree words = do
  numbers ← two_of words
  tree ← tree_of numbers.0
  page ← page_of numbers.1
  Some (tree, page)

-- a lock by its kind
unfoldable pub lock_by : List ℕ → List (List ℕ) → Option Lock
lock_by kind parts =
    if bytes_eq kind (codes "client") then option_map lock.Client (client_alone parts)
    else if bytes_eq kind (codes "tree") then option_map lock.Tree (tree_alone parts)
    else if bytes_eq kind (codes "page") then option_map (λ x. lock.Page x.0 x.1) (page_of_tree parts)
    else None

unfoldable pub lock_of : List ℕ → Option Lock
lock_of word = do
  kind ← word_at (parts_of 58 word)
  lock_by kind.0 kind.1

-- an object by its kind
unfoldable pub object_by : List ℕ → List (List ℕ) → Option ObjName
object_by kind parts =
    if bytes_eq kind (codes "head") then option_map object.Head (client_alone parts)
    else if bytes_eq kind (codes "tree") then option_map object.Tree (tree_alone parts)
    else if bytes_eq kind (codes "page") then option_map (λ x. object.Page x.0 x.1) (page_of_tree parts)
    else None

unfoldable pub object_of : List ℕ → Option ObjName
object_of word = do
  kind ← word_at (parts_of 58 word)
  object_by kind.0 kind.1

-- the queue of a page, and the tree's own where there is none
abbrev pub queue_at : ℕ → Option ℕ → QueueName
queue_at tree None = TreePu tree
queue_at tree (Some page) = PagePu tree page

-- a tree, a page or 0, and nothing else
unfoldable pub pu_alone : List (List ℕ) → Option QueueName
pu_alone words = do
  numbers ← two_of words
  tree ← tree_of numbers.0
  Some (queue_at tree (page_of numbers.1))

-- a queue by its kind
unfoldable pub queue_by : List ℕ → List (List ℕ) → Option QueueName
queue_by kind parts =
    if bytes_eq kind (codes "atomic") then option_map Atomic (client_alone parts)
    else if bytes_eq kind (codes "pu") then pu_alone parts
    else None

unfoldable pub queue_of : List ℕ → Option QueueName
queue_of word = do
  kind ← word_at (parts_of 58 word)
  queue_by kind.0 kind.1

-- an object, or a message where its position is behind the name
unfoldable pub place_behind : List ℕ → List (List ℕ) → Option Place
place_behind name [] = option_map Object (object_of name)
place_behind name (id ∷ left) = do
  queue ← queue_of name
  number ← number_of id
  end ← end_at left
  Some (Message queue number)

unfoldable pub place_of : List ℕ → Option Place
place_of word = do
  name ← word_at (parts_of 35 word)
  place_behind name.0 name.1
