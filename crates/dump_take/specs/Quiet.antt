-- When a database is quiet, and the first name that shows that it is not.
use Rattle.std.specs.Prelude.{ℕ, ◌≡◌, ◌<◌, ◌⊎◌, List, [], Option, Some}
use Rattle.db_base.specs.Ids.{IsClient, IsTree}
use Rattle.db_base.specs.declared.names.ObjName.TheVariants as object
use Rattle.db_base.specs.declared.names.QueueName.{QueueName}
use Rattle.cloud_trait.specs.State.{CloudState, newest}
use Rattle.cloud_trait.specs.Delivery.{unmarked}
use Rattle.head_codec.specs.declared.head.Head.{Head}
use Rattle.head_codec.specs.declared.head.Phase.TheVariants.{Settled, Open}
use Rattle.head_codec.specs.Spelling.{head_of}
use Rattle.reply_text.specs.Name.{object_word, queue_word}
use Rattle.world_audit.specs.Counts.{queue_at, IsNextPage}

-- a version of a head rests: there is none, or it spells a settled head
abbrev pub HeadRests : Option (List ℕ) → Type 0
HeadRests found = (bytes : List ℕ) → found ≡ Some bytes → (head : Head) × (head_of bytes ≡ Some head) × (head.phase ≡ Settled)

-- the newest heads of the clients below a number rest
abbrev pub HeadsRest : CloudState → ℕ → Type 0
HeadsRest s n = (client : ℕ) → IsClient client → client < n → HeadRests (newest s (object.Head client))

-- and so do those of all clients
abbrev pub AllHeadsRest : CloudState → Type 0
AllHeadsRest s = (client : ℕ) → IsClient client → HeadRests (newest s (object.Head client))

-- a queue has no message that is not deleted
abbrev pub IsDrained : CloudState → QueueName → Type 0
IsDrained s queue = unmarked (s.messages queue) ≡ []

-- the newest root of the tree can be read, or there is none; and its queue is drained, and so are those of the pages that are not free
-- by that root
pub record TreeRests (s : CloudState) (tree : ℕ) : Type 0 where
  pub next : ℕ
  pub is_next : IsNextPage (newest s (object.Tree tree)) next
  pub drained : (page : ℕ) → page < next → IsDrained s (queue_at tree page)

-- the trees below a number rest
abbrev pub TreesRest : CloudState → ℕ → Type 0
TreesRest s n = (tree : ℕ) → IsTree tree → tree < n → TreeRests s tree

-- a database is quiet: no head is open, and no pending update waits
pub record IsQuiet (s : CloudState) : Type 0 where
  pub heads : AllHeadsRest s
  pub trees : (tree : ℕ) → IsTree tree → TreeRests s tree

-- a version of a head spells one whose commit is under way
pub record IsOpen (found : Option (List ℕ)) : Type 0 where
  pub bytes : List ℕ
  pub put : found ≡ Some bytes
  pub head : Head
  pub spelled : head_of bytes ≡ Some head
  pub count : ℕ
  pub phase : head.phase ≡ Open count

-- a head is open, and those of the clients before rest: the head's name
pub record HeadIsFirst (s : CloudState) (name : List ℕ) : Type 0 where
  pub client : ℕ
  pub is_client : IsClient client
  pub is_open : IsOpen (newest s (object.Head client))
  pub earlier : HeadsRest s client
  pub named : name ≡ object_word (object.Head client)

-- a message waits for a tree in the queue of a page, where page 0 is for the tree's own, and none in those before: the queue's name
pub record QueueIsFirst (s : CloudState) (tree : ℕ) (name : List ℕ) : Type 0 where
  pub next : ℕ
  pub is_next : IsNextPage (newest s (object.Tree tree)) next
  pub page : ℕ
  pub below : page < next
  pub earlier : (p : ℕ) → p < page → IsDrained s (queue_at tree p)
  pub waits : IsDrained s (queue_at tree page) → ⊥
  pub named : name ≡ queue_word (queue_at tree page)

-- a tree is the first with such a queue
pub record TreeIsFirst (s : CloudState) (name : List ℕ) : Type 0 where
  pub tree : ℕ
  pub is_tree : IsTree tree
  pub waits : QueueIsFirst s tree name
  pub earlier : TreesRest s tree

-- the first name that shows that a database is not quiet: heads by client, then, where all rest, queues by tree and page
abbrev pub IsNotQuiet : CloudState → List ℕ → Type 0
IsNotQuiet s name = HeadIsFirst s name ⊎ (AllHeadsRest s × TreeIsFirst s name)
