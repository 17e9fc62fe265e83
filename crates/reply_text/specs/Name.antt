-- Names as words: parts parted by colons, and a message as its queue, a number sign and its position.
use Rattle.std.specs.Prelude.{ℕ, List, [], ◌∷◌, codes}
use Rattle.std.specs.Fmt.{decimal}
use Rattle.words.specs.Line.{text_of}
use Rattle.db_base.specs.declared.names.Lock.{Lock}
use Rattle.db_base.specs.declared.names.Lock.TheVariants as lock
use Rattle.db_base.specs.declared.names.ObjName.{ObjName}
use Rattle.db_base.specs.declared.names.ObjName.TheVariants as object
use Rattle.db_base.specs.declared.names.QueueName.{QueueName}
use Rattle.db_base.specs.declared.names.QueueName.TheVariants.{Atomic, TreePu, PagePu}
use Rattle.db_base.specs.declared.names.Place.{Place}
use Rattle.db_base.specs.declared.names.Place.TheVariants.{Object, Message}

-- a kind and a number
abbrev pub one_part : List ℕ → ℕ → List ℕ
one_part kind number = text_of 58 (kind ∷ decimal number ∷ [])

-- a kind and two numbers
abbrev pub two_parts : List ℕ → ℕ → ℕ → List ℕ
two_parts kind first second = text_of 58 (kind ∷ decimal first ∷ decimal second ∷ [])

-- what a lease locks
abbrev pub lock_word : Lock → List ℕ
lock_word (lock.Client client) = one_part (codes "client") client
lock_word (lock.Tree tree) = one_part (codes "tree") tree
lock_word (lock.Page tree page) = two_parts (codes "page") tree page

-- an object
abbrev pub object_word : ObjName → List ℕ
object_word (object.Head client) = one_part (codes "head") client
object_word (object.Tree tree) = one_part (codes "tree") tree
object_word (object.Page tree page) = two_parts (codes "page") tree page

-- a queue; the tree's own has page 0
abbrev pub queue_word : QueueName → List ℕ
queue_word (Atomic client) = one_part (codes "atomic") client
queue_word (TreePu tree) = two_parts (codes "pu") tree 0
queue_word (PagePu tree page) = two_parts (codes "pu") tree page

-- where damaged bytes were found
abbrev pub place_word : Place → List ℕ
place_word (Object name) = object_word name
place_word (Message queue id) = text_of 35 (queue_word queue ∷ decimal id ∷ [])
