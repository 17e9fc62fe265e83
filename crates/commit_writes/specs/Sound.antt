-- What the bytes in hand spell, and what a commit keeps while it writes.
use Rattle.std.specs.Prelude.{ℕ, ◌≡◌, ◌≤◌, length, slice_get, List, Option, Some, None}
use Rattle.std.specs.List.{AllByRecursion}
use Rattle.db_base.specs.Limits.{most_changes}
use Rattle.head_codec.specs.Counters.{AreCounters}
use Rattle.head_codec.specs.Spelling.{IsPhase, head_of}
use Rattle.head_codec.specs.declared.head.Head.{Head}
use Rattle.head_codec.specs.declared.head.Phase.TheVariants.{Open}
use Rattle.log_codec.specs.declared.record.AtomicRec.{AtomicRec}
use Rattle.log_codec.specs.Atomic.{HasPlace, atomic_of}
use Rattle.log_codec.specs.Pu.{pu_of}
use Rattle.route_plan.specs.Record.{pu_record_of}
use Rattle.commit_writes.specs.declared.stage.Stage.{Stage}
use Rattle.commit_writes.specs.declared.stage.Stage.TheVariants.{Waiting, Logging, Opening, Sending, Settling, Deleting, Finished}
use Rattle.commit_writes.specs.Writing.{Writing, Before}

abbrev pub LogsRecord : Writing → Option AtomicRec → Type 0
LogsRecord w (Some r) = atomic_of w.out ≡ Some r
LogsRecord w None = ⊥

abbrev pub SendsRecord : Writing → Option AtomicRec → Type 0
SendsRecord w (Some r) = pu_of w.out ≡ Some (pu_record_of r)
SendsRecord w None = ⊥

abbrev pub PutsHead : Writing → Type 0
PutsHead w = head_of w.out ≡ Some w.home.head

abbrev pub IsThere : Option ℕ → Type 0
IsThere (Some id) = Unit {0}
IsThere None = ⊥

abbrev pub IsSoundAt : Stage → Writing → Type 0
IsSoundAt Waiting w = Unit {0}
IsSoundAt Logging w = LogsRecord w (slice_get w.records w.place)
IsSoundAt Opening w = PutsHead w
IsSoundAt Sending w = SendsRecord w (slice_get w.records w.place)
IsSoundAt Settling w = PutsHead w
IsSoundAt Deleting w = IsThere (slice_get w.ids w.place)
IsSoundAt Finished w = Unit {0}

-- a put in hand puts the home's head, a send the next record, and a deletion is of an ATOMIC message of the commit
abbrev pub IsSound : Writing → Type 0
IsSound w = IsSoundAt w.stage w

-- what the put that commits changed in the head had a spelling too
pub record IsBefore (b : Before) : Type 0 where
  pub phase : IsPhase b.phase
  pub counters : AreCounters None b.counters

-- what a commit keeps: a change is there, what it sends and puts has spellings, and the bytes in hand are those of the call that they are for
pub record KeepsSound (w : Writing) : Type 0 where
  pub some : 1 ≤ length w.changes
  pub few : length w.records ≤ most_changes
  pub before : IsBefore w.before
  pub placed : AllByRecursion HasPlace w.records
  pub sound : IsSound w

-- bytes that are kept of the head that commits are its own, and it is under way with the records
abbrev pub IsSpelled : Head → List AtomicRec → Option (List ℕ) → Type 0
IsSpelled h records (Some bytes) = (head_of bytes ≡ Some h) × (h.phase ≡ Open (length records))
IsSpelled h records None = Unit {0}
