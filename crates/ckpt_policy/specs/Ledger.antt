-- A ledger, and the notes for which it stands.
use Rattle.std.specs.Prelude.{◌≡◌, ℕ, ◌≤◌, ◌<◌, ◌+◌, List, map, Option, Some, None}
use Rattle.std.specs.BTreeMap.{is_at}
use Rattle.std.specs.Map.{lookup}
use Rattle.db_base.specs.Limits.{most_changes, most_received}
use Rattle.ckpt_policy.specs.declared.counts.Counts.{Counts}
use Rattle.ckpt_policy.specs.declared.note.Note.{Note}
use Rattle.ckpt_policy.specs.declared.place.Place.{Place}
use Rattle.ckpt_policy.specs.declared.role.Role.{Role}
use Rattle.ckpt_policy.specs.Counting.{IsFull}
use Rattle.ckpt_policy.specs.Notes.{counts_at, known, place_cmp, place_of, queue_of}

-- by which rule, of which number, for which client it chooses; and its counts by place
pub record Account : Type 0 where
  pub role : Role
  pub k : ℕ
  pub client : ℕ
  pub counts : List (Place × Counts)

-- the numbers that are allowed: a writer's queue is then never longer than what one receive takes
abbrev pub IsNumber : ℕ → Type 0
IsNumber k = (1 ≤ k) × (k ≤ 56)

-- a queue in which fewer than k messages wait is, behind one commit more, still shorter than what a receive takes
abbrev pub StaysShort : ℕ → Type 0
StaysShort k = (waiting sent : ℕ) → waiting < k → sent ≤ most_changes → waiting + sent < most_received

-- it knows the queues that the notes name, in order, and of each what they say
abbrev pub StandsFor : Account → List Note → Type 0
StandsFor account notes = account.counts ≡ map (λ place. (place, counts_at notes place)) (known notes)

-- a queue that is new takes memory, and the count of one that is known may be full
abbrev pub IsNewOrFull : Option Counts → Note → Type 0
IsNewOrFull None note = Unit {0}
IsNewOrFull (Some counts) note = IsFull counts note

-- why a note of the queue at a place is refused; a note of no such queue never is
abbrev pub MayRefuseAt : Account → Note → Option Place → Type 0
MayRefuseAt account note None = ⊥
MayRefuseAt account note (Some place) = IsNewOrFull (lookup (is_at (place_cmp place)) account.counts) note

-- why a note is refused
abbrev pub MayRefuse : Account → Note → Type 0
MayRefuse account note = MayRefuseAt account note (place_of (queue_of note))
