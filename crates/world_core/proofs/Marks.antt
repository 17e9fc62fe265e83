-- The newest call after a step.
use Rattle.std.proofs.Common.{ℕ, List, Ok}
use Rattle.cloud_facts.specs.Words.{Turn, CloudState, Caller, Seen}
use Rattle.cloud_trait.specs.Weather.{counted, Leaves}
use Rattle.cloud_trait.proofs.RowLemmas.{leaves_last, leaves_waits}
use Rattle.db_base.specs.declared.wish.Wish.{Wish}
use Rattle.client_work.specs.declared.answer.Answer.{Answer}
use Rattle.client_work.specs.Session.{Acting, StepsSession}
use Rattle.session_facts.proofs.Lines.Outcome.{MadeCall, made_call}
use Rattle.world_audit.specs.Look.{Looked}
use Rattle.world_core.specs.Sessions.{Changes}
use Rattle.world_core.specs.Handled.{SetsWish, IsNewestCall}

pub newest_call : (who : Caller) (wish : Wish) (before from under to after : Seen) (number : ℕ) (old new : List Acting) (turn : Turn Answer) → Looked before from → SetsWish wish from under
    → Changes number (λ a b. StepsSession who under to a b (Ok turn)) old new → Looked to after → IsNewestCall who wish before after
newest_call who wish before from under to after number old new turn first sets step last x told =
    let wished : CloudState = record x { wish = wish } in
    let call : MadeCall who under to step.before.work = made_call who under to step.before.work step.after.work turn step.does.work in
    let l : Leaves who call.ask call.answer (counted under.counts wished) to.counts to.state = call.made.state wished (sets.set x (first.stays x told)) in (
      l.after,
      last.stays l.after l.told,
      leaves_last who call.ask call.answer under.counts to.counts wished to.state l,
      leaves_waits who call.ask call.answer under.counts to.counts wished to.state l,
    )
