-- What looks at objects and queues show.
use Rattle.std.specs.Prelude.{ℕ, ◌≡◌, ◌==◌, ◌&&◌, Bool, false, nat_lt, nat_le, IsTrue, List, length, Option, Some}
use Rattle.std.specs.Ordering.{is_eq}
use Rattle.db_base.specs.declared.names.ObjName.{ObjName}
use Rattle.db_base.specs.declared.names.ObjName.TheVariants as object
use Rattle.db_base.specs.declared.names.QueueName.{QueueName}
use Rattle.db_base.specs.declared.names.QueueName.TheVariants.{Atomic, TreePu, PagePu}
use Rattle.cloud_trait.specs.Names.{object_cmp, queue_cmp}
use Rattle.cloud_trait.specs.Seen.{Seen, Showing}
use Rattle.cloud_trait.specs.State.{CloudState, newest}
use Rattle.cloud_trait.specs.Delivery.{unmarked}
use Rattle.world_audit.specs.Finding.{IsSeenBy}

-- the newest versions of these objects are what looks answered
abbrev pub AreShown : (ObjName → Bool) → (ObjName → Option (List ℕ)) → CloudState → Type 0
AreShown objects versions s = (name : ObjName) → IsTrue (objects name) → newest s name ≡ versions name

-- these queues have as many messages that are not deleted as looks answered
abbrev pub AreCounted : (QueueName → Bool) → (QueueName → ℕ) → CloudState → Type 0
AreCounted queues counts s = (queue : QueueName) → IsTrue (queues queue) → length (unmarked (s.messages queue)) ≡ counts queue

-- the newest versions of a state are what the cloud tells that looks show
abbrev pub IsShownIn : Seen → CloudState → Type 0
IsShownIn before s = (shown : Showing) × (before.shown ≡ Some shown) × IsSeenBy shown s

-- looks at these objects and queues, and no others, show something of a state: it holds of the told one; of each whose newest versions are what the cloud
-- tells that looks show, with messages as they were counted; and of each with versions as the looks answered, and messages as they were counted
pub record Sees (before : Seen) (objects : ObjName → Bool) (queues : QueueName → Bool) (Holds : CloudState → Type 0) : Type 0 where
  pub versions : ObjName → Option (List ℕ)
  pub counts : QueueName → ℕ
  pub told : (s : CloudState) → before.state ≡ Some s → Holds s
  pub shown : (s : CloudState) → IsShownIn before s → AreCounted queues counts s → Holds s
  pub looks : (s : CloudState) → AreShown objects versions s → AreCounted queues counts s → Holds s

-- ---- the objects and queues that are looked at

abbrev pub no_object : ObjName → Bool
no_object name = false

abbrev pub no_queue : QueueName → Bool
no_queue queue = false

-- one object
abbrev pub one_object : ObjName → ObjName → Bool
one_object name other = is_eq (object_cmp name other)

-- one queue
abbrev pub one_queue : QueueName → QueueName → Bool
one_queue queue other = is_eq (queue_cmp queue other)

-- the heads of the clients up to a number
abbrev pub heads_to : ℕ → ObjName → Bool
heads_to n (object.Head client) = nat_le client n
heads_to n (object.Tree tree) = false
heads_to n (object.Page tree page) = false

-- the root of a tree
abbrev pub root_of : ℕ → ObjName → Bool
root_of t (object.Head client) = false
root_of t (object.Tree tree) = tree == t
root_of t (object.Page tree page) = false

-- the roots of the trees up to a number
abbrev pub roots_to : ℕ → ObjName → Bool
roots_to n (object.Head client) = false
roots_to n (object.Tree tree) = nat_le tree n
roots_to n (object.Page tree page) = false

-- the pages of the trees up to a number
abbrev pub pages_to : ℕ → ObjName → Bool
pages_to n (object.Head client) = false
pages_to n (object.Tree tree) = false
pages_to n (object.Page tree page) = nat_le tree n

-- the queue of a tree, and the queues of its pages below a number
abbrev pub queues_below : ℕ → ℕ → QueueName → Bool
queues_below t n (Atomic client) = false
queues_below t n (TreePu tree) = (tree == t) && nat_lt 0 n
queues_below t n (PagePu tree page) = (tree == t) && nat_lt page n

-- all queues of a tree
abbrev pub queues_of : ℕ → QueueName → Bool
queues_of t (Atomic client) = false
queues_of t (TreePu tree) = tree == t
queues_of t (PagePu tree page) = tree == t

-- the queues of the trees up to a number
abbrev pub queues_to : ℕ → QueueName → Bool
queues_to n (Atomic client) = false
queues_to n (TreePu tree) = nat_le tree n
queues_to n (PagePu tree page) = nat_le tree n
