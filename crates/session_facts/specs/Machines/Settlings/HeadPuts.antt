-- What a put of a head that a settling has in hand is.
use Rattle.std.specs.Prelude.{ℕ, ◌≡◌, List, Some}
use Rattle.head_codec.specs.Spelling.{head_of}
use Rattle.head_codec.specs.declared.head.Head.{Head}
use Rattle.head_codec.specs.declared.head.Phase.TheVariants.{Settled}
use Rattle.settle_run.specs.declared.part.Part.{Part as AtWork}
use Rattle.settle_run.specs.declared.part.Part.TheVariants.{Client, Tree, Page}
use Rattle.settle_run.specs.Settling.{Settling}

-- the client's recovery is at work
abbrev pub IsAtClient : AtWork → ℕ → Type 0
IsAtClient (Client other m) client = other ≡ client
IsAtClient (Tree tree m) client = ⊥
IsAtClient (Page tree page m) client = ⊥

-- the bytes spell a head of the client at work that is settled: it commits nothing
pub record PutsHead (s : Settling) (client : ℕ) (bytes : List ℕ) : Type 0 where
  pub head : Head
  pub spells : head_of bytes ≡ Some head
  pub client_is : IsAtClient s.part client
  pub settled : head.phase ≡ Settled
