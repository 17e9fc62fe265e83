-- How many messages a writer leaves in the pending update queues.
use Rattle.std.specs.Prelude.{ℕ, ◌≡◌, ◌+◌, ◌-◌, ◌≤◌, List, length, slice_get, Some, Result, Ok, Err}
use Rattle.db_base.specs.Limits.{most_changes}
use Rattle.ckpt_policy.specs.declared.note.Note.{Note}
use Rattle.ckpt_policy.specs.declared.place.Place.{Place}
use Rattle.ckpt_policy.specs.declared.role.Role.TheVariants.{Writer}
use Rattle.ckpt_policy.specs.Ledger.{Account, IsNumber, StandsFor as AccountStands}
use Rattle.cloud_trait.specs.State.{CloudState}
use Rattle.event_text.specs.declared.event.Event.{Event}
use Rattle.replay_meaning.specs.Standing.{Line}
use Rattle.reply_text.specs.declared.reply.Reply.{Reply}
use Rattle.session_facts.specs.Lines.Facts.{session_at}
use Rattle.session_notes.specs.declared.notebook.Notebook.{Notebook}
use Rattle.session_notes.specs.Metered.{IsMetered, sent_since, waiting_at}
use Rattle.session_facts.specs.Writers.Sending.{SendsAtMost}
use Rattle.world_core.specs.EachStep.{StepFact, EachStep}
use Rattle.world_core.specs.Handled.{Handled}
use Rattle.world_core.specs.Stands.{WorldStands}
use Rattle.world_core.specs.World.{World}
use Rattle.world_core.specs.Writers.{Stage, Unbound, Even, Owing, Astray, by_line, stage_of}
use Rattle.world_core.specs.declared.world.WorldFault.{WorldFault}
use Rattle.world_core.specs.Span.{Span}

-- the ledger of a writer of k, that stands for these notes
pub record IsWriters (k : ℕ) (notes : List Note) (book : Notebook) : Type 0 where
  pub account : Account
  pub ledger : book.ledger ≡ Some account
  pub role : account.role ≡ Writer
  pub number : account.k ≡ k
  pub stands : AccountStands account notes

-- it is that of the session of a number
pub record HasLedger (session k : ℕ) (notes : List Note) (books : List Notebook) : Type 0 where
  pub book : Notebook
  pub there : slice_get books session ≡ Some book
  pub is : IsWriters k notes book

-- In no queue wait more messages than its notes say were sent there since its last checkpoint; and these are, with those that the session may still
-- send by what it has in hand, within a bound.
pub record Meters (session k bound : ℕ) (world : World) (t : CloudState) : Type 0 where
  pub notes : List Note
  pub ledger : HasLedger session k notes world.notes
  pub number : IsNumber k
  pub metered : IsMetered notes t
  pub left : ℕ
  pub sends : SendsAtMost left (session_at world.sessions session).work
  pub within : (place : Place) → sent_since notes place + left ≤ bound

-- fewer than k behind its work, and those of one commit more since
abbrev pub MetersAt : Stage → ℕ → ℕ → World → CloudState → Type 0
MetersAt Unbound session k world t = Unit {0}
MetersAt Even session k world t = Meters session k (k - 1) world t
MetersAt Owing session k world t = Meters session k (k - 1 + most_changes) world t
MetersAt Astray session k world t = Unit {0}

-- in each pending update queue at most k - 1 messages are not deleted
abbrev pub LeavesFew : ℕ → CloudState → Type 0
LeavesFew k t = (place : Place) → waiting_at t place ≤ k - 1

abbrev pub LeavesFewAt : Stage → ℕ → CloudState → Type 0
LeavesFewAt Unbound k t = Unit {0}
LeavesFewAt Even k t = LeavesFew k t
LeavesFewAt Owing k t = Unit {0}
LeavesFewAt Astray k t = Unit {0}

-- in a step's call no message and no lock was withheld, and it did not fail
abbrev pub StepGoesThrough : StepFact
StepGoesThrough who wish span turn p = (p.to.counts.withheld ≡ p.under.counts.withheld) × (p.to.counts.faults ≡ p.under.counts.faults)

-- Whatever lines a world and a cloud stood for before a line, where each step of it went through: what a writer's notes meter behind these lines they meter
-- behind this one too, as it then stands; and where it worked behind its last commit it left few.
abbrev pub KeepsMeter : ℕ → Event → Span → Result Reply WorldFault → Type 0
KeepsMeter n event span (Ok reply) =
    (lines : List Line) (t u : CloudState) → length lines + 1 ≡ n → span.before.state ≡ Some t → span.after.state ≡ Some u → WorldStands lines span.old t
    → (handled : Handled n event span (Ok reply)) → EachStep StepGoesThrough n event span (Ok reply) handled
    → (session k : ℕ) → MetersAt (stage_of session k lines) session k span.old t
    → MetersAt (by_line session k event reply (stage_of session k lines)) session k span.new u × LeavesFewAt (by_line session k event reply (stage_of session k lines)) k u
KeepsMeter n event span (Err fault) = Unit {0}
