-- What holds of every version that landed in a cloud, and of every message that was sent.
use Rattle.std.specs.Prelude.{ℕ, ◌≡◌, ◌+◌, false, List, length, Some}
use Rattle.db_base.specs.declared.names.ObjName.{ObjName}
use Rattle.db_base.specs.declared.names.QueueName.{QueueName}
use Rattle.cloud_trait.specs.Ask.{Ask, PutHeld, RemoveHeld, Send}
use Rattle.cloud_trait.specs.State.{CloudState, newest}
use Rattle.cloud_facts.specs.Book.Telling.{is_gone}
use Rattle.cloud_facts.specs.Decoding.Kinds.{IsNth, IsRemoval, AreOfKind, MomentsDiffer, MovesOn, IsMessageOf, AreMessagesOf}

pub record Decodes (s : CloudState) : Type 0 where
  -- each version has bytes and is one of its kind, with its number, or is the last one, which removes a page
  pub versions : (name : ObjName) → AreOfKind name (s.versions name)
  -- no head is of the moment of the one before
  pub moments : (name : ObjName) → MomentsDiffer name (s.versions name)
  -- each message is one of its queue
  pub messages : (queue : QueueName) → AreMessagesOf queue (s.messages queue)

-- bytes that land as the newest version of an object are its next version, and it was not removed
pub record IsNext (s : CloudState) (name : ObjName) (bytes : List ℕ) : Type 0 where
  pub there : is_gone (s.versions name) ≡ false
  pub kind : IsNth name (length (s.versions name) + 1) bytes
  pub moves : MovesOn name (s.versions name) bytes

-- what must be known of a call that lands: a put puts a next version, a page that is removed has bytes, a send sends a message of its queue
abbrev pub Spells : CloudState → Ask → Type 0
Spells s (PutHeld name bytes one two) = IsNext s name bytes
Spells s (RemoveHeld name l) = IsRemoval name × (bytes : List ℕ) × (newest s name ≡ Some bytes)
Spells s (Send queue bytes) = IsMessageOf queue bytes
Spells s ask = Unit {0}
