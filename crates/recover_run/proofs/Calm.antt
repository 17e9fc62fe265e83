-- A recovery whose calls are calm stops for no failed call, no lease that is over and no lock that is held.
use Rattle.std.proofs.Common.{◌≡◌, ◌≢◌, ℕ, List, [], ◌∷◌, Option, Some, None, Err, inl, inr, ap, sym, subst}
use Rattle.db_base.specs.declared.trouble.Trouble.TheVariants as trouble
use Rattle.db_base.specs.declared.trouble.Counter.{Counter}
use Rattle.cloud_trait.specs.Caller.{Caller}
use Rattle.cloud_trait.specs.Seen.{Seen}
use Rattle.cloud_trait.specs.Weather.{Makes}
use Rattle.cloud_trait.specs.Calm.{GoesWell, AreCalm}
use Rattle.cloud_trait.proofs.CalmLemmas.{goes_well}
use Rattle.recover_run.specs.Causes.{Shows, IsShown}
use Rattle.recover_run.specs.Emptying.{deed_of}
use Rattle.recover_run.specs.Recovery.{new_recovery}
use Rattle.recover_run.specs.Calm.{MayStop, StopsWell}
use Rattle.recover_run.proofs.Causes.{took_tells}
use Rattle.recover_run.proofs.Words.{Trouble, Answer, Turn, More, Ended, Stopped, Claim, LeadsBy, Took, Deed, calls_of, Fits, Aim, RecoverAnswer, Calls, Recovery, recovery_ask, recovery_next, KeepsLeases, Went}

-- what an answer shows that goes well
shown_may : (r : Recovery) (a : Answer) (calls : Calls) (t : Trouble) → GoesWell a → Shows r a calls t → MayStop t
shown_may r a calls trouble.Failed well shows = absurd (subst GoesWell shows.1 well)
shown_may r a calls (trouble.Late end now) well shows = absurd (subst GoesWell shows well)
shown_may r a calls (trouble.Busy lock until) well shows = absurd (subst GoesWell shows.2 well)
shown_may r a calls (trouble.Damaged place offset) well shows = tt
shown_may r a calls (trouble.Exhausted what) well shows = subst (λ (c : Counter). MayStop (trouble.Exhausted c)) (sym shows.0) tt
shown_may r a calls (trouble.Waiting have need) well shows = tt
shown_may r a calls trouble.Memory well shows = tt
shown_may r a calls (trouble.Absent page) well shows = absurd shows
shown_may r a calls (trouble.NotALeaf page) well shows = absurd shows
shown_may r a calls (trouble.BadFence page expected found) well shows = absurd shows
shown_may r a calls (trouble.Loop page) well shows = absurd shows
shown_may r a calls (trouble.Stale page least got) well shows = absurd shows

none_first : (client : ℕ) (aim : Aim) (old : Option Claim) (r : Recovery) (t : Trouble) → r ≡ new_recovery client aim old → r.ending ≡ Some (Err t) → ⊥
none_first client aim old r t is kept =
    let none : r.ending ≡ None = ap (λ (m : Recovery). m.ending) is in cc (none, kept)

-- what is kept behind calm calls
kept_may : (client : ℕ) (aim : Aim) (old : Option Claim) (h : List Deed) (r : Recovery) → Went client aim old h r → AreCalm h
    → (t : Trouble) → r.ending ≡ Some (Err t) → MayStop t
kept_may client aim old [] r is calm t kept = absurd (none_first client aim old r t is kept)
kept_may client aim old (d ∷ h) r (from, came, asks, made, leads, follows) calm t kept =
    or_before (took_tells client aim old h from r d.answer More came (subst (λ q. Fits q d.answer) asks made.fits) leads t kept)
    (λ before. kept_may client aim old h from came calm.1 t before)
  where
    or_before : IsShown from d.answer ((recovery_ask from, d.answer) ∷ calls_of h) t → (from.ending ≡ Some (Err t) → MayStop t) → MayStop t
    or_before (inl before) earlier = earlier before
    or_before (inr shows) earlier = shown_may from d.answer _ t (goes_well d made calm.0) shows

-- want of memory is no other trouble
pub memory_or : (P : Trouble → Type 0) (t : Trouble) → P trouble.Memory → (t ≢ trouble.Memory → P t) → P t
memory_or P trouble.Memory here there = here
memory_or P t here there = there (λ e. absurd (cc))

pub came_well : (who : Caller) (before after : Seen) (old new : Recovery) (a : Answer) (turn : Turn RecoverAnswer) → Makes who (recovery_ask old) a before after
    → Took (LeadsBy recovery_next) KeepsLeases old a new turn → (client : ℕ) (aim : Aim) (former : Option Claim) (h : List Deed)
    → Went client aim former h old → AreCalm (deed_of who old a before after ∷ h) → StopsWell turn
came_well who before after old new a More made took client aim former h went calm = tt
came_well who before after old new a (Ended answer) made took client aim former h went calm = tt
came_well who before after old new a (Stopped t) made took client aim former h went calm =
    memory_or MayStop t tt (λ other. on (took_tells client aim former h old new a (Stopped t) went made.fits took other))
  where
    on : IsShown old a ((recovery_ask old, a) ∷ calls_of h) t → MayStop t
    on (inl kept) = kept_may client aim former h old went calm.1 t kept
    on (inr shows) = shown_may old a _ t (goes_well (deed_of who old a before after) made calm.0) shows
