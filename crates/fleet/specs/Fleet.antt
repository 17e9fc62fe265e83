-- A fleet: any number of programs on one store.
use Rattle.std.specs.Prelude.{ℕ, ◌≡◌}
use Rattle.cloud_trait.specs.State.{CloudState, Counts, IsEmptyCloud}
use Rattle.client_work.specs.Session.{closed_session}
use Rattle.session_facts.specs.Sessions.Knows.{Sessions}

-- the store, what it counts, and the session of each program by the program's number
pub record Fleet : Type 0 where
  pub counts : Counts
  pub state : CloudState
  pub sessions : Sessions

-- nothing ever landed, and no program has begun
pub record IsNew (f : Fleet) : Type 0 where
  pub empty : IsEmptyCloud f.state
  pub closed : (program : ℕ) → f.sessions program ≡ closed_session
