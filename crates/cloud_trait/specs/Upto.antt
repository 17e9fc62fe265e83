-- The state up to an event.
use Rattle.std.specs.Prelude.{ℕ, ◌≡◌, ◌≤◌, nat_le, List, filter, map, All}
use Rattle.db_base.specs.declared.names.ObjName.{ObjName}
use Rattle.db_base.specs.declared.names.QueueName.{QueueName}
use Rattle.cloud_trait.specs.declared.state.Version.{Version}
use Rattle.cloud_trait.specs.declared.state.Posted.{Posted}
use Rattle.cloud_trait.specs.declared.state.Landing.{Landing}
use Rattle.cloud_trait.specs.Caller.{Caller}
use Rattle.cloud_trait.specs.State.{CloudState}

-- the versions that landed up to event n
abbrev pub versions_upto : ℕ → List Version → List Version
versions_upto n vs = filter (λ (v : Version). nat_le v.who.event n) vs

-- the messages that were sent up to event n, with the marks that they have
abbrev pub messages_upto : ℕ → List Posted → List Posted
messages_upto n ms = filter (λ (m : Posted). nat_le m.who.event n) ms

-- the rows of the trace up to event n
abbrev pub trace_upto : ℕ → List Landing → List Landing
trace_upto n rows = filter (λ (r : Landing). nat_le r.who.event n) rows

-- the state with only the versions, messages and rows up to event n
abbrev pub upto : CloudState → ℕ → CloudState
upto s n = record s {
  versions = λ name. versions_upto n (s.versions name);
  messages = λ queue. messages_upto n (s.messages queue);
  trace = trace_upto n s.trace;
}

-- who sent each message, and what
abbrev pub posts_of : List Posted → List (Caller × List ℕ)
posts_of ms = map (λ (m : Posted). (m.who, m.bytes)) ms

-- up to event n two states hold the same, but for the marks of deleted messages, which have no event
pub record AgreeUpto (n : ℕ) (s t : CloudState) : Type 0 where
  pub versions : (name : ObjName) → versions_upto n (t.versions name) ≡ versions_upto n (s.versions name)
  pub messages : (queue : QueueName) → posts_of (messages_upto n (t.messages queue)) ≡ posts_of (messages_upto n (s.messages queue))
  pub trace : trace_upto n t.trace ≡ trace_upto n s.trace

-- all that a state holds landed up to event n
pub record IsUpto (n : ℕ) (s : CloudState) : Type 0 where
  pub versions : (name : ObjName) → All (λ (v : Version). v.who.event ≤ n) (s.versions name)
  pub messages : (queue : QueueName) → All (λ (m : Posted). m.who.event ≤ n) (s.messages queue)
  pub trace : All (λ (r : Landing). r.who.event ≤ n) s.trace
