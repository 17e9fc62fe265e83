-- A tree checkpoint that a line brings to its end names its new pieces.
use Rattle.std.specs.Prelude.{ℕ, ◌≡◌, ◌+◌, List, length, Some, Result}
use Rattle.client_work.specs.declared.answer.Answer.TheVariants as answer
use Rattle.client_work.specs.declared.work.Work.TheVariants.{Folding}
use Rattle.cloud_trait.specs.declared.turn.CkptAnswer.{CkptAnswer}
use Rattle.cloud_trait.specs.declared.turn.Turn.TheVariants.{Ended}
use Rattle.cloud_trait.specs.State.{CloudState}
use Rattle.event_text.specs.declared.event.Event.{Event}
use Rattle.recover_run.specs.declared.home.Home.{Home}
use Rattle.replay_meaning.specs.Standing.{Line}
use Rattle.reply_text.specs.declared.reply.Reply.{Reply}
use Rattle.session_facts.specs.Machines.TreeCheckpoints.Named.{NamesPieces}
use Rattle.tree_ckpt.specs.Making.{Making}
use Rattle.world_core.specs.declared.world.WorldFault.{WorldFault}
use Rattle.world_core.specs.declared.asked.Asked.{Asked}
use Rattle.world_core.specs.declared.asked.Asked.TheVariants.{Session}
use Rattle.world_core.specs.EachStep.{StepFact, EachAsked}
use Rattle.world_core.specs.Handled.{Answers, Handled}
use Rattle.world_core.specs.Stands.{WorldStands}
use Rattle.world_core.specs.Span.{Span}

-- a step that ends a session's tree checkpoint with `done` finds each new piece, and each page that was come to by a right link, named by the level above
abbrev pub StepNames : StepFact
StepNames who wish span turn p =
    (s : CloudState) → p.under.state ≡ Some s → (home : Home) (m : Making) (done : CkptAnswer) → p.session.before.work ≡ Folding home m → turn ≡ Ended (answer.Done done) → NamesPieces s m done

-- so does each step of a line of a session; a settling has no checkpoint of a session in hand, nor has a sweep
abbrev pub NamesAt : (n : ℕ) (asked : Asked) (span : Span) (result : Result Reply WorldFault) → Answers n asked span result → Type 0
NamesAt n (Session number request) span result answers = EachAsked StepNames n (Session number request) span result answers
NamesAt n asked span result answers = Unit {0}

-- whatever lines a world and a cloud stood for before a line, it does, however it was handled
abbrev pub NamesSteps : ℕ → Event → Span → Result Reply WorldFault → Type 0
NamesSteps n event span result =
    (lines : List Line) (t : CloudState) → length lines + 1 ≡ n → span.before.state ≡ Some t → WorldStands lines span.old t
    → (handled : Handled n event span result) → NamesAt n handled.asked span result handled.answers
