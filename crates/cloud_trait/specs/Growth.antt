-- What calls leave of a cloud: nothing that landed is lost, and the clock does not fall.
use Rattle.std.specs.Prelude.{◌≡◌, ◌≤◌, List, ◌++◌}
use Rattle.db_base.specs.declared.names.ObjName.{ObjName}
use Rattle.db_base.specs.declared.names.QueueName.{QueueName}
use Rattle.cloud_trait.specs.State.{CloudState}
use Rattle.cloud_trait.specs.Upto.{posts_of}

-- the list begins with the other
abbrev pub BeginsWith : {X : Type 0} → List X → List X → Type 0
BeginsWith {X} xs ys = (more : List X) × (ys ≡ xs ++ more)

-- versions, messages and the trace have only grown at their ends, marks apart, and the clock has not fallen
pub record HasGrown (s t : CloudState) : Type 0 where
  pub versions : (name : ObjName) → BeginsWith (s.versions name) (t.versions name)
  pub messages : (queue : QueueName) → BeginsWith (posts_of (s.messages queue)) (posts_of (t.messages queue))
  pub trace : BeginsWith s.trace t.trace
  pub later : s.now ≤ t.now

-- the clock, the waits, the wish and the newest call are as they were
pub record IsAtRest (s t : CloudState) : Type 0 where
  pub now : t.now ≡ s.now
  pub waits : t.waits ≡ s.waits
  pub wish : t.wish ≡ s.wish
  pub last : t.last ≡ s.last
