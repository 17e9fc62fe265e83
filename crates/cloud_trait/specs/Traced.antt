-- The trace beside what landed: each version and each message has its row, under its position.
use Rattle.std.specs.Prelude.{ℕ, ◌≡◌, ◌+◌, Bool, false, List, [], ◌∷◌, filter, map}
use Rattle.std.specs.Ordering.{is_eq}
use Rattle.db_base.specs.declared.names.ObjName.{ObjName}
use Rattle.db_base.specs.declared.names.QueueName.{QueueName}
use Rattle.cloud_trait.specs.declared.state.Version.{Version}
use Rattle.cloud_trait.specs.declared.state.Posted.{Posted}
use Rattle.cloud_trait.specs.declared.state.Landing.{Landing}
use Rattle.cloud_trait.specs.declared.state.Site.{Site}
use Rattle.cloud_trait.specs.declared.state.Site.TheVariants.{Object, Queue}
use Rattle.cloud_trait.specs.Caller.{Caller}
use Rattle.cloud_trait.specs.Names.{object_cmp, queue_cmp}
use Rattle.cloud_trait.specs.State.{CloudState}
use Rattle.cloud_trait.specs.Upto.{upto, trace_upto}

-- the site is this object
abbrev pub is_object : ObjName → Site → Bool
is_object name (Object other) = is_eq (object_cmp other name)
is_object name (Queue queue) = false

-- the site is this queue
abbrev pub is_queue : QueueName → Site → Bool
is_queue queue (Object name) = false
is_queue queue (Queue other) = is_eq (queue_cmp other queue)

-- the rows of puts of an object
abbrev pub object_rows : ObjName → List Landing → List Landing
object_rows name rows = filter (λ (r : Landing). is_object name r.site) rows

-- the rows of sends to a queue
abbrev pub queue_rows : QueueName → List Landing → List Landing
queue_rows queue rows = filter (λ (r : Landing). is_queue queue r.site) rows

-- the rows of versions of an object, the first under this position
abbrev pub version_rows : ObjName → ℕ → List Version → List Landing
version_rows name n [] = []
version_rows name n (v ∷ vs) = record { who = v.who; site = Object name; position = n } ∷ version_rows name (n + 1) vs

-- the rows of messages of a queue, the first under this position
abbrev pub post_rows : QueueName → ℕ → List Posted → List Landing
post_rows queue n [] = []
post_rows queue n (m ∷ ms) = record { who = m.who; site = Queue queue; position = n } ∷ post_rows queue (n + 1) ms

-- the rows of the trace at an object are its versions', and those at a queue its messages', in order and under their positions
pub record IsTraced (s : CloudState) : Type 0 where
  pub versions : (name : ObjName) → object_rows name s.trace ≡ version_rows name 1 (s.versions name)
  pub messages : (queue : QueueName) → queue_rows queue s.trace ≡ post_rows queue 1 (s.messages queue)

-- who landed each version, message and row
abbrev pub who_put : List Version → List Caller
who_put vs = map (λ (v : Version). v.who) vs

abbrev pub who_sent : List Posted → List Caller
who_sent ms = map (λ (m : Posted). m.who) ms

abbrev pub who_made : List Landing → List Caller
who_made rows = map (λ (r : Landing). r.who) rows

-- the state up to event n has a version or message exactly where it has its row: the rows that are left at a name are those of the
-- versions or messages that are left, each under the position that it has in the whole
pub record CutsAlike (n : ℕ) (s : CloudState) : Type 0 where
  pub of_versions : (name : ObjName) → object_rows name (upto s n).trace ≡ trace_upto n (version_rows name 1 (s.versions name))
  pub versions : (name : ObjName) → who_made (object_rows name (upto s n).trace) ≡ who_put ((upto s n).versions name)
  pub of_messages : (queue : QueueName) → queue_rows queue (upto s n).trace ≡ trace_upto n (post_rows queue 1 (s.messages queue))
  pub messages : (queue : QueueName) → who_made (queue_rows queue (upto s n).trace) ≡ who_sent ((upto s n).messages queue)
