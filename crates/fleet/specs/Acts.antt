-- What programs do to a store, one act at a time.
use Rattle.std.specs.Prelude.{ℕ, ◌≡◌, ◌≤◌, List, Option, Some, None, Result, Ok}
use Rattle.cloud_facts.specs.Book.Tally.{at}
use Rattle.cloud_trait.specs.declared.answer.Answer.{Answer as Heard}
use Rattle.cloud_trait.specs.declared.turn.Turn.{Turn}
use Rattle.cloud_trait.specs.Ask.{Ask}
use Rattle.cloud_trait.specs.Caller.{Caller}
use Rattle.cloud_trait.specs.Machine.{Deed}
use Rattle.cloud_trait.specs.Seen.{Seen}
use Rattle.cloud_trait.specs.State.{CloudState, Counts}
use Rattle.client_work.specs.declared.answer.Answer.{Answer}
use Rattle.client_work.specs.declared.answer.Begun.{Begun}
use Rattle.client_work.specs.declared.op.Op.{Op}
use Rattle.client_work.specs.Session.{Acting, Begins, StepsSession, ask_of_work, rule_of, closed_session, settling_session, sweeping_session}
use Rattle.db_base.specs.Ids.{IsTree}
use Rattle.db_base.specs.declared.refusal.Refused.{Refused}
use Rattle.fleet.specs.Fleet.{Fleet}
use Rattle.session_facts.specs.Machines.Commits.Knows.{MayCommit}
use Rattle.session_facts.specs.Sessions.Calls.{session_step, reply_of}
use Rattle.session_facts.specs.Sessions.Knows.{IsRightOp}
use Rattle.session_facts.specs.Sessions.Led.{IsRow}
use Rattle.txn_buffer.specs.Noted.{Noted}

-- one service call of a program: its session before and behind the call, what it asked and was answered, and what that came to
pub record Deal : Type 0 where
  pub program : ℕ
  pub old : Acting
  pub new : Acting
  pub ask : Ask
  pub answer : Heard
  pub turn : Turn Answer

-- a program makes a call, or goes on without one; it dies, whatever it was at; or time passes
pub data Act : Type 0 where
  calls : (deal : Deal) → Act
  alone : (program : ℕ) (new : Acting) → Act
  dies : (program : ℕ) → Act
  passes : Act

-- ---- what a program does by its contract

-- A step of its session, over whatever cloud it has: the call in hand was this one, and it heard this answer.
pub record IsDeal (d : Deal) : Type 0 where
  pub who : Caller
  pub before : Seen
  pub after : Seen
  pub steps : StepsSession who before after d.old d.new (Ok d.turn)
  pub hand : ask_of_work d.old.work ≡ Some d.ask
  pub answered : reply_of (session_step who before after d.old d.new d.turn) steps ≡ d.answer

-- Without a call: an operation begins, is refused, or is answered at once; an open client notes changes that it may commit; a closed session
-- begins to settle, or to sweep a tree.
pub data IsAlone (old : Acting) : Acting → Type 0 where
  begins : (op : Op) (result : Result Begun Refused) (new : Acting) → IsRightOp op → Begins op old new result → IsAlone old new
  notes : (buffer : List Noted) → rule_of old.work ≡ None → MayCommit buffer → IsAlone old (record old { buffer = buffer })
  settles : old ≡ closed_session → IsAlone old settling_session
  sweeps : (tree : ℕ) → IsTree tree → old ≡ closed_session → IsAlone old (sweeping_session tree)

-- ---- what that is to the store

-- what is seen of a store that tells its state and its newest answer
abbrev pub told : Counts → CloudState → Option Heard → Seen
told counts state heard = record { counts = counts; state = Some state; heard = heard; shown = None }

-- the call as the store knows it: made by the program, at an event that it names
abbrev pub deed_of : Deal → ℕ → Fleet → Fleet → Deed
deed_of d event from to = record {
  who = record { session = d.program; event = event };
  ask = d.ask;
  answer = d.answer;
  before = told from.counts from.state None;
  after = told to.counts to.state (Some d.answer);
}

-- a program's call is one row of the table over the store, and its session goes on
pub record Calls (d : Deal) (from to : Fleet) : Type 0 where
  pub deal : IsDeal d
  pub event : ℕ
  pub row : IsRow (deed_of d event from to) d.old.work d.new.work
  pub old : from.sessions d.program ≡ d.old
  pub sessions : to.sessions ≡ at d.program d.new from.sessions

-- the session of a program is another one, and the store stays
abbrev pub Changes : ℕ → Acting → Fleet → Fleet → Type 0
Changes program new from to = to ≡ record from { sessions = at program new from.sessions }

-- the clock does not fall, what landed and the locks stay, and no program goes on
pub record Passes (from to : Fleet) : Type 0 where
  pub versions : to.state.versions ≡ from.state.versions
  pub messages : to.state.messages ≡ from.state.messages
  pub trace : to.state.trace ≡ from.state.trace
  pub locks : to.state.locks ≡ from.state.locks
  pub later : from.state.now ≤ to.state.now
  pub sessions : to.sessions ≡ from.sessions

abbrev pub Does : Act → Fleet → Fleet → Type 0
Does (calls d) from to = Calls d from to
Does (alone program new) from to = IsAlone (from.sessions program) new × Changes program new from to
Does (dies program) from to = Changes program closed_session from to
Does passes from to = Passes from to
