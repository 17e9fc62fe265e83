-- What a put of a head that a session has in hand is.
use Rattle.std.specs.Prelude.{ℕ, ◌≡◌, ◌⊎◌, List, Some, None}
use Rattle.client_work.specs.Session.{opens_of, committing_of}
use Rattle.client_work.specs.declared.work.Work.{Work}
use Rattle.client_work.specs.declared.work.Work.TheVariants.{Closed, Idle, Opening, Committing, Reading, Scanning, Looking, Folding, Paging, Closing, Renewing, Settling, Sweeping, Broken}
use Rattle.commit_run.specs.Run.{home_of as home_of_run}
use Rattle.commit_run.specs.Sound.{IsSoundRun}
use Rattle.head_codec.specs.Spelling.{head_of}
use Rattle.head_codec.specs.declared.head.Head.{Head}
use Rattle.head_codec.specs.declared.head.Phase.TheVariants as phase
use Rattle.recover_run.specs.Recovery.{IsSound as IsSoundOpening}
use Rattle.session_facts.specs.Machines.Settlings.HeadPuts.{IsAtClient}
use Rattle.settle_run.specs.Parts.{IsSoundPart}
use Rattle.txn_buffer.specs.Noted.{Noted}

-- what is at work has the bytes in hand that it is to put or send
abbrev pub IsSoundWork : Work → Type 0
IsSoundWork (Opening r) = IsSoundOpening r
IsSoundWork (Committing r) = IsSoundRun r
IsSoundWork (Reading home m) = Unit {0}
IsSoundWork (Scanning home m) = Unit {0}
IsSoundWork (Looking home m) = Unit {0}
IsSoundWork (Folding home f) = Unit {0}
IsSoundWork (Paging home p) = Unit {0}
IsSoundWork Closed = Unit {0}
IsSoundWork (Idle home) = Unit {0}
IsSoundWork (Closing l) = Unit {0}
IsSoundWork (Renewing home) = Unit {0}
IsSoundWork (Settling m) = IsSoundPart m.part
IsSoundWork (Sweeping m) = Unit {0}
IsSoundWork (Broken l) = Unit {0}

-- it is at work for a client
abbrev pub IsClientOf : Work → ℕ → Type 0
IsClientOf (Opening r) client = r.client ≡ client
IsClientOf (Committing r) client = (home_of_run r).client ≡ client
IsClientOf (Reading home m) client = home.client ≡ client
IsClientOf (Scanning home m) client = home.client ≡ client
IsClientOf (Looking home m) client = home.client ≡ client
IsClientOf (Folding home f) client = home.client ≡ client
IsClientOf (Paging home p) client = home.client ≡ client
IsClientOf Closed client = ⊥
IsClientOf (Idle home) client = home.client ≡ client
IsClientOf (Closing l) client = ⊥
IsClientOf (Renewing home) client = home.client ≡ client
IsClientOf (Settling m) client = IsAtClient m.part client
IsClientOf (Sweeping m) client = ⊥
IsClientOf (Broken l) client = ⊥

-- the head opens a transaction of the changes that are committed
pub record Commits (work : Work) (head : Head) : Type 0 where
  pub opens : opens_of work ≡ Some head
  pub changes : List Noted
  pub committing : committing_of work ≡ Some changes
  pub count : ℕ
  pub phase_is : head.phase ≡ phase.Open count

-- the bytes spell a head of the client, which commits, or is settled and commits nothing
pub record PutsHead (work : Work) (client : ℕ) (bytes : List ℕ) : Type 0 where
  pub head : Head
  pub spells : head_of bytes ≡ Some head
  pub client_is : IsClientOf work client
  pub how : Commits work head ⊎ ((opens_of work ≡ None) × (head.phase ≡ phase.Settled))
