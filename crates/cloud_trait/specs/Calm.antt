-- Calls that go well, by what the cloud is: no count rises, the locks that they take are free, and the leases that they name last.
use Rattle.std.specs.Prelude.{ℕ, ◌≡◌, ◌≤◌, List, [], ◌∷◌, Some, None}
use Rattle.cloud_trait.specs.declared.answer.Answer.{Answer}
use Rattle.cloud_trait.specs.declared.answer.Answer.TheVariants.{Held, Late, Failed}
use Rattle.cloud_trait.specs.Ask.{Ask, GetHeld, PutHeld, ListHeld, RemoveHeld, Take, Renew}
use Rattle.cloud_trait.specs.Claim.{Lasts}
use Rattle.cloud_trait.specs.Machine.{Deed}
use Rattle.cloud_trait.specs.State.{CloudState}

-- the answer of a call that was not refused: it did not fail, no lease was over, and no lock was held
abbrev pub GoesWell : Answer → Type 0
GoesWell Failed = ⊥
GoesWell (Late end now) = ⊥
GoesWell (Held until) = ⊥
GoesWell answer = Unit {0}

-- the leases that the call names last at a moment; a release may come late
abbrev pub NamesLasting : Ask → ℕ → Type 0
NamesLasting (GetHeld name l) now = Lasts now l
NamesLasting (PutHeld name bytes one None) now = Lasts now one
NamesLasting (PutHeld name bytes one (Some two)) now = Lasts now one × Lasts now two
NamesLasting (ListHeld tree l) now = Lasts now l
NamesLasting (RemoveHeld name l) now = Lasts now l
NamesLasting (Renew l ticks) now = Lasts now l
NamesLasting ask now = Unit {0}

-- the lock that the call takes is free at a moment
abbrev pub TakesFree : Ask → CloudState → ℕ → Type 0
TakesFree (Take lock ticks) s now = (s.locks lock).until ≤ now
TakesFree ask s now = Unit {0}

-- a call over a cloud that tells its state: no count rose in it, the lock that it takes was free, and the leases that it names lasted, at the
-- clock that it left
pub record IsCalm (d : Deed) : Type 0 where
  pub before : CloudState
  pub after : CloudState
  pub told : d.before.state ≡ Some before
  pub left : d.after.state ≡ Some after
  pub counts : d.after.counts ≡ d.before.counts
  pub free : TakesFree d.ask before after.now
  pub lasting : NamesLasting d.ask after.now

-- .. and so were all of them
abbrev pub AreCalm : List Deed → Type 0
AreCalm [] = Unit {0}
AreCalm (d ∷ h) = IsCalm d × AreCalm h

-- nobody else acted between a call and the next one: the state is the one that the call left
abbrev pub ComesNext : List Deed → Deed → Type 0
ComesNext [] d = Unit {0}
ComesNext (last ∷ h) d = d.before.state ≡ last.after.state

-- .. and so between all of them, the newest first
abbrev pub AreAlone : List Deed → Type 0
AreAlone [] = Unit {0}
AreAlone (d ∷ h) = ComesNext h d × AreAlone h
