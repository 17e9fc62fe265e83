-- The names of files and folders: a kind, and behind it the numbers as bytes in lower-case hexadecimal.
use Rattle.std.specs.Prelude.{ℕ, ◌≡◌, ◌≢◌, ◌<◌, ◌^◌, Result, Err, List, [], ◌∷◌, ◌++◌, Option, Some, None, codes}
use Rattle.std.specs.Int.{w64, to_be_bytes}
use Rattle.db_base.specs.Ids.{IsClient, IsTree, IsPage}
use Rattle.db_base.specs.declared.names.Lock.{Lock}
use Rattle.db_base.specs.declared.names.Lock.TheVariants as lock
use Rattle.db_base.specs.declared.names.ObjName.{ObjName}
use Rattle.db_base.specs.declared.names.ObjName.TheVariants as object
use Rattle.db_base.specs.declared.names.QueueName.{QueueName}
use Rattle.db_base.specs.declared.names.QueueName.TheVariants as queue
use Rattle.words.specs.Word.{hexadecimal}
use Rattle.folder_names.specs.declared.fault.NameFault.{NameFault}
use Rattle.folder_names.specs.declared.fault.NameFault.TheVariants.{NotOurs}

-- a page of a tree: a byte for the tree, eight for the page, the most significant one first
unfoldable pub place_bytes : ℕ → ℕ → List ℕ
place_bytes tree page = tree ∷ to_be_bytes w64 page

abbrev pub place_text : ℕ → ℕ → List ℕ
place_text tree page = hexadecimal (place_bytes tree page)

-- the kinds of objects
abbrev pub head_kind : List ℕ
head_kind = codes "head-"

abbrev pub tree_kind : List ℕ
tree_kind = codes "tree-"

abbrev pub page_kind : List ℕ
page_kind = codes "page-"

-- the file of an object
abbrev pub file_text : ObjName → List ℕ
file_text (object.Head client) = head_kind ++ hexadecimal (client ∷ [])
file_text (object.Tree tree) = tree_kind ++ hexadecimal (tree ∷ [])
file_text (object.Page tree page) = page_kind ++ place_text tree page

-- the kinds of queues
abbrev pub atomic_kind : List ℕ
atomic_kind = codes "atomic-"

abbrev pub updates_kind : List ℕ
updates_kind = codes "updates-"

-- the folder of a queue; a tree's own queue stands under page 0
abbrev pub folder_text : QueueName → List ℕ
folder_text (queue.Atomic client) = atomic_kind ++ hexadecimal (client ∷ [])
folder_text (queue.TreePu tree) = updates_kind ++ place_text tree 0
folder_text (queue.PagePu tree page) = updates_kind ++ place_text tree page

-- the file of a lock is that of what it guards
abbrev pub lock_text : Lock → List ℕ
lock_text (lock.Client client) = file_text (object.Head client)
lock_text (lock.Tree tree) = file_text (object.Tree tree)
lock_text (lock.Page tree page) = file_text (object.Page tree page)

-- the numbers of a name are in their ranges
abbrev pub IsObject : ObjName → Type 0
IsObject (object.Head client) = IsClient client
IsObject (object.Tree tree) = IsTree tree
IsObject (object.Page tree page) = IsTree tree × IsPage page × (page < 2 ^ 64)

abbrev pub IsQueue : QueueName → Type 0
IsQueue (queue.Atomic client) = IsClient client
IsQueue (queue.TreePu tree) = IsTree tree
IsQueue (queue.PagePu tree page) = IsTree tree × IsPage page × (page < 2 ^ 64)

-- the one byte
abbrev pub only : List ℕ → Option ℕ
only [] = None
only (x ∷ []) = Some x
only (x ∷ y ∷ ys) = None

-- where the text is no name, this holds
abbrev pub IfNotOurs : {A : Type 0} → Result A NameFault → Type 0 → Type 0
IfNotOurs result holds = result ≡ Err NotOurs → holds

-- the text names no page
abbrev pub IsNoPlace : List ℕ → Type 0
IsNoPlace text = (tree page : ℕ) → IsTree tree → IsPage page → page < 2 ^ 64 → text ≢ place_text tree page

-- and is the file of no page of this tree
abbrev pub IsNoPageOf : ℕ → List ℕ → Type 0
IsNoPageOf tree text = (page : ℕ) → IsObject (object.Page tree page) → text ≢ file_text (object.Page tree page)

-- the text names no queue of a tree, nor of a page
abbrev pub IsNoUpdates : List ℕ → Type 0
IsNoUpdates text = (tree page : ℕ) → IsTree tree → page < 2 ^ 64 → text ≢ place_text tree page
