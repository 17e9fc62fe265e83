-- Where a settling begins nothing was made and nothing is left of what came before.
use Rattle.std.proofs.Common.{◌≡◌, List, refl, arith}
use Rattle.client_work.specs.Session.{closed_session}
use Rattle.cloud_facts.specs.Words.{Entry, CloudState, Book}
use Rattle.session_facts.proofs.Settling.CostParts.{Cost, LeftAndCost}
use Rattle.session_facts.proofs.Settling.Lefts.{Left}
use Rattle.session_facts.proofs.Settling.Turns.{first_moment}
use Rattle.session_facts.specs.Sessions.Knows.{Sessions, SessionsStand}
use Rattle.settle_run.specs.Settling.{new_settling}

module _ (book : Book) (order : List Entry) (t : CloudState) (sessions : Sessions) (closed : sessions 0 ≡ closed_session) (stand : SessionsStand book order t sessions) where
  pub left_begins : Left new_settling (first_moment book order t sessions closed stand)
  left_begins = λ k is less. let some = is.some in absurd (omega (arith, less, some))

  pub cost_begins : Cost t new_settling (first_moment book order t sessions closed stand)
  cost_begins = (
    λ k is less. let some = is.some in absurd (omega (arith, less, some)),
    record {
      few = λ n e. omega arith;
      heads = λ k from. refl;
      logs = λ k from. refl;
      sends = λ q pending. refl;
      longer = λ q. omega arith;
    },
  )

  pub both_begin : LeftAndCost t new_settling (first_moment book order t sessions closed stand)
  both_begin = (left_begins, cost_begins)
