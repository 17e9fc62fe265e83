-- The queues that a client's changes go to, and the numbers that it used in them.
use Rattle.std.specs.Prelude.{ℕ, ◌==◌, ◌&&◌, Bool, List, reverse, find, Option, if◌then◌else◌}
use Rattle.std.specs.Option.{option_map_or}
use Rattle.std.specs.Str.{bytes_eq}
use Rattle.db_base.specs.Change.{goes_to_leaf, key_of}
use Rattle.db_base.specs.declared.change.Change.{Change}
use Rattle.db_base.specs.declared.names.QueueName.{QueueName}
use Rattle.db_base.specs.declared.names.QueueName.TheVariants.{TreePu, PagePu}
use Rattle.head_codec.specs.declared.lists.Pending.{Pending}
use Rattle.head_codec.specs.declared.lists.QueueCount.{QueueCount}

-- whether a counter is that of a queue: the tree's where the page is 0, else the leaf's
abbrev pub is_counter_of : ℕ → ℕ → QueueCount → Bool
is_counter_of tree page counter = (counter.tree == tree) && (counter.page == page)

-- the last number that was used in a queue, 0 where none was
abbrev pub number_of_queue : List QueueCount → ℕ → ℕ → ℕ
number_of_queue counters tree page = option_map_or (λ counter. counter.number) (find (is_counter_of tree page) counters) 0

-- whether a pending entry is of a tree and key
abbrev pub is_pending_of : ℕ → List ℕ → Pending → Bool
is_pending_of tree key entry = (entry.tree == tree) && bytes_eq (key_of entry.change) key

-- the last pending entry of a tree and key
abbrev pub last_pending : List Pending → ℕ → List ℕ → Option Pending
last_pending pending tree key = find (is_pending_of tree key) (reverse pending)

-- the queue of a change whose key has no pending entry: its leaf's, or the tree's
abbrev pub first_queue : Change → ℕ → ℕ
first_queue change leaf = if goes_to_leaf change then leaf else 0

-- the page of the queue that a change goes to: that of the last pending entry of its tree and key, where there is one
abbrev pub queue_of : List Pending → ℕ → Change → ℕ → ℕ
queue_of pending tree change leaf = option_map_or (λ entry. entry.page) (last_pending pending tree (key_of change)) (first_queue change leaf)

-- the name of the queue of a page, and for page 0 of the tree's queue
abbrev pub queue_name : ℕ → ℕ → QueueName
queue_name tree page = if page == 0 then TreePu tree else PagePu tree page
