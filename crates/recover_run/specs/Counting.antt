-- Which of the records that the head counts the calls of a recovery brought.
use Rattle.std.specs.Prelude.{ℕ, ◌++◌, List, [], ◌∷◌, Option, Some, None, if◌then◌else◌}
use Rattle.head_codec.specs.declared.head.Head.{Head}
use Rattle.head_codec.specs.Head.{empty_head}
use Rattle.log_codec.specs.declared.record.AtomicRec.{AtomicRec}
use Rattle.log_codec.specs.Atomic.{atomic_of}
use Rattle.cloud_trait.specs.declared.answer.Answer.{Answer}
use Rattle.cloud_trait.specs.declared.answer.Answer.TheVariants.{Got, Received}
use Rattle.cloud_trait.specs.declared.message.Message.{Message}
use Rattle.cloud_trait.specs.Ask.{Ask, GetHeld}
use Rattle.recover_run.specs.declared.wanted.Wanted.{Wanted}
use Rattle.recover_run.specs.Calls.{Calls, head_in}
use Rattle.recover_run.specs.Gathering.{wanted_of, is_counted}
use Rattle.recover_run.specs.Ids.{new_ids}

-- ---- what the head counts

-- bytes that spell no head tell nothing of it
abbrev pub wanted_in : Option Head → Wanted
wanted_in (Some h) = wanted_of h
wanted_in None = wanted_of empty_head

abbrev pub wanted_after : Ask → Answer → Wanted → Wanted
wanted_after (GetHeld name l) (Got v) w = wanted_in (head_in v)
wanted_after ask answer w = w

-- the records that the head counts which the held get of the calls brought; before it, none
abbrev pub wanted_by : Calls → Wanted
wanted_by [] = wanted_of empty_head
wanted_by (c ∷ cs) = wanted_after c.0 c.1 (wanted_by cs)

-- ---- which of them came

-- the index of a message's record, where it is counted
abbrev pub index_in : Wanted → Option AtomicRec → List ℕ
index_in w (Some rec) = if is_counted w rec then rec.index ∷ [] else []
index_in w None = []

abbrev pub indices_of : Wanted → List Message → List ℕ
indices_of w [] = []
indices_of w (m ∷ ms) = index_in w (atomic_of m.bytes) ++ indices_of w ms

abbrev pub indices_in : Wanted → Answer → List ℕ
indices_in w (Received ms) = indices_of w ms
indices_in w a = []

-- the indices of the counted records that calls brought, each once, in the order in which they came first
abbrev pub known_indices : Wanted → Calls → List ℕ
known_indices w [] = []
known_indices w (c ∷ cs) = known_indices w cs ++ new_ids (known_indices w cs) (indices_in w c.1)
