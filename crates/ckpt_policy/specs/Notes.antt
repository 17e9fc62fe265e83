-- What a session's notes say of the pending update queues.
use Rattle.std.specs.Prelude.{◌==◌, Bool, false, if◌then◌else◌, List, [], ◌∷◌, count_by, Option, Some, None}
use Rattle.std.specs.declared.cmp.Ordering.{Ordering}
use Rattle.std.specs.Ordering.{nat_cmp, ordering_then}
use Rattle.std.specs.List.{list_any}
use Rattle.std.specs.BTreeMap.{is_at}
use Rattle.std.specs.BTreeSet.{insert_key}
use Rattle.db_base.specs.declared.names.QueueName.{QueueName}
use Rattle.db_base.specs.declared.names.QueueName.TheVariants.{Atomic, TreePu, PagePu}
use Rattle.ckpt_policy.specs.declared.counts.Counts.{Counts}
use Rattle.ckpt_policy.specs.declared.note.Note.{Note}
use Rattle.ckpt_policy.specs.declared.note.Note.TheVariants.{Sent, Got, Kept}
use Rattle.ckpt_policy.specs.declared.place.Place.{Place}

-- the queue that a note names
abbrev pub queue_of : Note → QueueName
queue_of (Sent queue) = queue
queue_of (Got queue) = queue
queue_of (Kept queue) = queue

-- where a pending update queue stands: by its tree and its page, 0 for the tree's own
abbrev pub place_of : QueueName → Option Place
place_of (Atomic client) = None
place_of (TreePu tree) = Some (record { tree = tree; page = 0 })
place_of (PagePu tree page) = Some (record { tree = tree; page = page })

-- a queue of pending updates
abbrev pub IsPending : QueueName → Type 0
IsPending (Atomic client) = ⊥
IsPending (TreePu tree) = Unit {0}
IsPending (PagePu tree page) = Unit {0}

-- the queue at a place
abbrev pub queue_at : Place → QueueName
queue_at p = if p.page == 0 then TreePu p.tree else PagePu p.tree p.page

-- by tree, and then by page
abbrev pub place_cmp : Place → Place → Ordering
place_cmp a b = ordering_then (nat_cmp a.tree b.tree) (nat_cmp a.page b.page)

-- whether a queue stands at the place
abbrev pub is_here : Place → Option Place → Bool
is_here place None = false
is_here place (Some other) = is_at (place_cmp place) other

abbrev pub is_sent : Place → Note → Bool
is_sent place (Sent queue) = is_here place (place_of queue)
is_sent place (Got queue) = false
is_sent place (Kept queue) = false

abbrev pub is_got : Place → Note → Bool
is_got place (Sent queue) = false
is_got place (Got queue) = is_here place (place_of queue)
is_got place (Kept queue) = false

abbrev pub is_kept : Place → Note → Bool
is_kept place (Sent queue) = false
is_kept place (Got queue) = false
is_kept place (Kept queue) = is_here place (place_of queue)

-- the notes behind the last that is so; all of them, where none is
abbrev pub behind_last : (Note → Bool) → List Note → List Note
behind_last is_so [] = []
behind_last is_so (note ∷ notes) =
    if list_any is_so notes then behind_last is_so notes else (if is_so note then notes else note ∷ notes)

-- what the notes say of the queue at a place: how often it was checkpointed, and what was sent to it and got of it since
abbrev pub counts_at : List Note → Place → Counts
counts_at notes place = record {
  kept = count_by (is_kept place) notes;
  sent = count_by (is_sent place) (behind_last (is_kept place) notes);
  got = count_by (is_got place) (behind_last (is_kept place) notes);
}

-- places in order, with one more
abbrev pub with_place : List Place → Option Place → List Place
with_place places None = places
with_place places (Some place) = insert_key place_cmp places place

-- places in order, with those that the notes name
abbrev pub known_with : List Place → List Note → List Place
known_with places [] = places
known_with places (note ∷ notes) = known_with (with_place places (place_of (queue_of note))) notes

-- the places of the queues that the notes name, in order, each once
abbrev pub known : List Note → List Place
known notes = known_with [] notes
