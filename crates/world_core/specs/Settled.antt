-- What a settling leaves where nobody else acts, which is so within its line, and how many calls it makes at most: over whatever cloud runs left.
use Rattle.std.specs.Prelude.{ℕ, ◌≡◌, ◌≢◌, ◌≤◌, List, [], Some, Result, Ok}
use Rattle.cloud_trait.specs.Calm.{NamesLasting}
use Rattle.client_work.specs.Session.{ask_of_work}
use Rattle.client_work.specs.declared.answer.Answer.{Answer}
use Rattle.cloud_facts.specs.Words.{IsClient, IsTree, Lock, Entry, Turn, CloudState, Caller, Seen, Ask}
use Rattle.cloud_trait.specs.Delivery.{unmarked}
use Rattle.cloud_trait.specs.declared.answer.Answer.TheVariants.{Memory}
use Rattle.db_base.specs.Limits.{last_client}
use Rattle.db_base.specs.declared.names.QueueName.TheVariants as queue
use Rattle.db_base.specs.declared.wish.Wish.{Wish}
use Rattle.event_text.specs.declared.event.Event.{Event}
use Rattle.event_text.specs.declared.event.Event.TheVariants as event
use Rattle.replay_meaning.specs.Standing.{Posture}
use Rattle.reply_text.specs.declared.reply.Reply.{Reply}
use Rattle.reply_text.specs.declared.reply.Reply.TheVariants as reply
use Rattle.session_facts.specs.Lines.Answers.{IsSoundReply}
use Rattle.session_facts.specs.Lines.Facts.{session_at, SomeBookStands}
use Rattle.session_facts.specs.Sessions.Calls.{session_step, reply_of}
use Rattle.session_facts.specs.Sessions.Spent.{IsSpentToSettle}
use Rattle.session_facts.specs.Sessions.Untroubled.{GivesBackLasting, IsSpent, IsUntroubled}
use Rattle.session_facts.specs.Settling.Bound.{SettlesWithin}
use Rattle.world_audit.specs.Counts.{heads_upto, AreWaiting}
use Rattle.world_core.specs.Calm.{StepIsCalm, SettlesWell, work_at}
use Rattle.world_core.specs.EachStep.{StepFact, EachStep}
use Rattle.world_core.specs.Explained.{StepExplains}
use Rattle.world_core.specs.Handled.{Handled, StepsLooked}
use Rattle.world_core.specs.declared.world.WorldFault.{WorldFault}
use Rattle.world_core.specs.Span.{Span}

-- in a step's call no message and no lock was withheld
abbrev pub StepDelivers : StepFact
StepDelivers who wish span turn p = p.to.counts.withheld ≡ p.under.counts.withheld

-- A step went well but for the lock that it may take: its call found memory and no count rose in it, and the leases that it names lasted, also one that
-- it gives back.
pub record StepGoesWell (who : Caller) (wish : Wish) (span : Span) (turn : Turn Answer) (p : StepsLooked who wish span turn) : Type 0 where
  pub ask : Ask
  pub hand : ask_of_work p.session.before.work ≡ Some ask
  pub memory : reply_of (session_step who p.under p.to p.session.before p.session.after turn) p.session.does ≢ Memory
  pub counts : p.to.counts ≡ p.under.counts
  pub lasting : (t : CloudState) → p.to.state ≡ Some t → NamesLasting ask t.now
  pub returned : (t : CloudState) → p.to.state ≡ Some t → GivesBackLasting ask t.now

-- no lock is held
abbrev pub NoLockHeld : CloudState → Type 0
NoLockHeld s = (l : Lock) → (s.locks l).until ≤ s.now

-- ---- what is left

-- the two numbers that a report of a tree shows are 0: no head is open with an entry of it, whatever was committed, and no message waits for it
pub record LeavesTree (s : CloudState) (tree : ℕ) : Type 0 where
  pub heads : (committed : List Entry) → heads_upto s tree committed last_client ≡ 0
  pub messages : AreWaiting s tree 0

abbrev pub LeavesNothing : CloudState → Type 0
LeavesNothing s = (tree : ℕ) → IsTree tree → LeavesTree s tree

-- no ATOMIC queue has a message that is not deleted
abbrev pub LeavesNoLog : CloudState → Type 0
LeavesNoLog s = (client : ℕ) → IsClient client → unmarked (s.messages (queue.Atomic client)) ≡ []

-- ---- the whole

-- a settling that came to its end left nothing in the cloud that it left
pub record LeftNothing (after : Seen) : Type 0 where
  pub state : CloudState
  pub told : after.state ≡ Some state
  pub nothing : LeavesNothing state

-- one whose calls went well left nothing in the ATOMIC queues either, and made so many calls, which are within the bound
pub record SettledWithin (before : CloudState) (after : Seen) (calls : ℕ) : Type 0 where
  pub state : CloudState
  pub told : after.state ≡ Some state
  pub nothing : LeavesNothing state
  pub no_log : LeavesNoLog state
  pub within : SettlesWithin before state calls

-- where in no step a message was withheld it left nothing, whatever calls failed
abbrev pub SettledLeaves : (n calls : ℕ) (span : Span) → Handled n event.Settle span (Ok (reply.Settled calls)) → Type 0
SettledLeaves n calls span handled = EachStep StepDelivers n event.Settle span (Ok (reply.Settled calls)) handled → LeftNothing span.after

-- what it is answered where no lock was held at its begin and every step went well: that it settled, within the bound, unless the cloud that it left
-- tells a counter as spent
abbrev pub AnswersSettled : CloudState → Seen → Reply → Type 0
AnswersSettled t after (reply.Settled calls) = SettledWithin t after calls
AnswersSettled t after (reply.NotSettled k) = (u : CloudState) × (after.state ≡ Some u) × IsSpent IsSpentToSettle u k
AnswersSettled t after r = ⊥

-- It shows no trouble that only damage could cause, each of its steps explains what it brought, and where each was calm it comes to its end.
pub record SettlesRightly (n : ℕ) (span : Span) (r : Reply) (handled : Handled n event.Settle span (Ok r)) : Type 0 where
  pub sound : (posture : Posture) → IsSoundReply posture r
  pub explains : EachStep StepExplains n event.Settle span (Ok r) handled
  pub calm : EachStep StepIsCalm n event.Settle span (Ok r) handled → (u : CloudState) → span.after.state ≡ Some u → IsUntroubled u (work_at span.new 0) × SettlesWell u r

-- Whatever lines led to a world and a cloud for which some book stands before a settling, however it was handled: where in no step a message was
-- withheld a settling that came to its end left nothing; where no lock was held and every step went well it came to its end so; and it was right.
abbrev pub SettlingLeaves : ℕ → Event → Span → Result Reply WorldFault → Type 0
SettlingLeaves n event.Settle span (Ok (reply.Settled calls)) =
    (t : CloudState) → span.before.state ≡ Some t → SomeBookStands (session_at span.old.sessions) t
    → (handled : Handled n event.Settle span (Ok (reply.Settled calls))) → SettledLeaves n calls span handled
SettlingLeaves n event span result = Unit {0}

abbrev pub SettlingEnds : ℕ → Event → Span → Result Reply WorldFault → Type 0
SettlingEnds n event.Settle span (Ok r) =
    (t : CloudState) → span.before.state ≡ Some t → SomeBookStands (session_at span.old.sessions) t → NoLockHeld t
    → (handled : Handled n event.Settle span (Ok r)) → EachStep StepGoesWell n event.Settle span (Ok r) handled → AnswersSettled t span.after r
SettlingEnds n event span result = Unit {0}

abbrev pub SettlingIsRight : ℕ → Event → Span → Result Reply WorldFault → Type 0
SettlingIsRight n event.Settle span (Ok r) =
    (t : CloudState) → span.before.state ≡ Some t → SomeBookStands (session_at span.old.sessions) t
    → (handled : Handled n event.Settle span (Ok r)) → SettlesRightly n span r handled
SettlingIsRight n event span result = Unit {0}
