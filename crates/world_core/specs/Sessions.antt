-- Sessions of which one changes.
use Rattle.std.specs.Prelude.{ℕ, ◌≡◌, ◌≤◌, [], List, length, slice_get, slice_set, Option, Some, None, Result, Ok, Err}
use Rattle.db_base.specs.declared.refusal.Refused.{Refused}
use Rattle.txn_buffer.specs.declared.buffer.TheConstants.{MAX_CHANGES}
use Rattle.txn_buffer.specs.Noted.{Noted, noted_in, put_in}
use Rattle.client_work.specs.Session.{Acting, rule_of, MayIndex, NoteRefused, PutRefused, AbortRefused, ask_of_work}
use Rattle.cloud_trait.specs.Ask.{Ask}
use Rattle.db_base.specs.declared.names.ObjName.{ObjName}
use Rattle.history.specs.Audited.{Audited}
use Rattle.world_core.specs.Put.{Put, put_of, noted_put}
use Rattle.world_core.specs.declared.asked.Noting.{Noting}
use Rattle.world_core.specs.declared.asked.Noting.TheVariants.{Single, Indexed}

-- the session of a number does this, and the others stay
pub record Changes (number : ℕ) (Does : Acting → Acting → Type 0) (old new : List Acting) : Type 0 where
  pub before : Acting
  pub after : Acting
  pub there : slice_get old number ≡ Some before
  pub does : Does before after
  pub rest : new ≡ slice_set old number after

-- the changes after what is noted joined them
abbrev pub joined : Noting → List Noted → List Noted
joined (Single tree change) buffer = noted_in buffer tree change
joined (Indexed tree key payload attr) buffer = put_in buffer tree key payload attr

-- a record that is noted may join the index of its tree
abbrev pub MayJoin : Noting → Type 0
MayJoin (Single tree change) = Unit {0}
MayJoin (Indexed tree key payload attr) = MayIndex tree key attr

-- why it is not noted
abbrev pub JoinRefused : Acting → Noting → Refused → Type 0
JoinRefused s (Single tree change) why = NoteRefused s tree change why
JoinRefused s (Indexed tree key payload attr) why = PutRefused s tree key payload attr why

-- it is noted in an open session; a refusal changes nothing
abbrev pub NotesIn : Noting → Acting → Acting → Result (Unit {0}) Refused → Type 0
NotesIn noting before after (Ok done) =
    (after ≡ record before { buffer = joined noting before.buffer }) × (rule_of before.work ≡ None) × (length after.buffer ≤ MAX_CHANGES) × MayJoin noting
NotesIn noting before after (Err why) = (after ≡ before) × JoinRefused before noting why

-- the changes of an open session are dropped; a refusal changes nothing
abbrev pub AbortsIn : Acting → Acting → Result (Unit {0}) Refused → Type 0
AbortsIn before after (Ok done) = (after ≡ record before { buffer = [] }) × (rule_of before.work ≡ None)
AbortsIn before after (Err why) = (after ≡ before) × AbortRefused before why

-- a session of a number has nothing at work
pub record IsNotWorking (number : ℕ) (sessions : List Acting) : Type 0 where
  pub session : Acting
  pub there : slice_get sessions number ≡ Some session
  pub idle : ask_of_work session.work ≡ None

-- it has a call in hand
pub record IsAtWork (number : ℕ) (sessions : List Acting) : Type 0 where
  pub session : Acting
  pub there : slice_get sessions number ≡ Some session
  pub ask : Ask
  pub hand : ask_of_work session.work ≡ Some ask

-- it has this put in hand, or none
pub record HasPut (number : ℕ) (sessions : List Acting) (put : Option Put) : Type 0 where
  pub session : Acting
  pub there : slice_get sessions number ≡ Some session
  pub put_is : put_of session.work ≡ put

-- it has a put of this object in hand
pub record Puts (number : ℕ) (sessions : List Acting) (name : ObjName) : Type 0 where
  pub put : Put
  pub has : HasPut number sessions (Some put)
  pub named : put.name ≡ name

-- the audit has what a put of the object by the session of a number commits or applies
pub record NotesPut (number : ℕ) (sessions : List Acting) (name : ObjName) (old new : Audited) : Type 0 where
  pub session : Acting
  pub there : slice_get sessions number ≡ Some session
  pub noted : new ≡ noted_put name session.work old
