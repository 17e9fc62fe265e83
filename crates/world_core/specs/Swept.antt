-- What a sweep of a tree leaves, over whatever cloud runs left.
use Rattle.std.specs.Prelude.{ℕ, ◌≡◌, Some, Result, Ok}
use Rattle.cloud_facts.specs.Words.{IsTree, CloudState, Seen}
use Rattle.event_text.specs.declared.event.Event.{Event}
use Rattle.event_text.specs.declared.event.Event.TheVariants as event
use Rattle.reply_text.specs.declared.reply.Reply.{Reply}
use Rattle.reply_text.specs.declared.reply.Reply.TheVariants as reply
use Rattle.session_facts.specs.Lines.Facts.{session_at, SomeBookStands}
use Rattle.session_facts.specs.Machines.Sweeps.Remains.{Remains, AreJustReached}
use Rattle.session_facts.specs.Machines.Sweeps.Same.{TellsTheSame}
use Rattle.world_core.specs.Handled.{Handled}
use Rattle.world_core.specs.declared.world.WorldFault.{WorldFault}
use Rattle.world_core.specs.Span.{Span}

-- where it is answered that it swept, just the reached pages have bytes
abbrev pub IsSweptTo : CloudState → CloudState → ℕ → Result Reply WorldFault → Type 0
IsSweptTo s t tree (Ok (reply.Swept kept removed)) = AreJustReached s t tree
IsSweptTo s t tree result = Unit {0}

-- of the cloud before it a sweep leaves all but pages that nothing reached, so what is read of trees is as it was
pub record SweptFrom (s : CloudState) (after : Seen) (tree : ℕ) (result : Result Reply WorldFault) : Type 0 where
  pub state : CloudState
  pub told : after.state ≡ Some state
  pub remains : Remains s state tree
  pub same : TellsTheSame s state
  pub swept : IsSweptTo s state tree result

-- Whatever lines led to a world and a cloud for which some book stands before the sweep of a tree, however it was handled and whatever it answers, also
-- for want of memory: it leaves all but pages that nothing reached, and where it swept, just the reached pages have bytes.
abbrev pub SweepLeaves : ℕ → Event → Span → Result Reply WorldFault → Type 0
SweepLeaves n (event.Sweep tree) span result =
    (s : CloudState) → span.before.state ≡ Some s → SomeBookStands (session_at span.old.sessions) s → IsTree tree → Handled n (event.Sweep tree) span result
    → SweptFrom s span.after tree result
SweepLeaves n event span result = Unit {0}
