-- The locks of a cloud on which nobody has a lease but one session.
use Rattle.std.specs.Prelude.{ℕ, ◌≡◌, ◌≢◌, ◌<◌, ◌≤◌, ◌⊎◌, List, [], ◌∷◌}
use Rattle.cloud_facts.specs.Words.{Lock, CloudState, Claim, Ask, Take, Renew, Release, IsIn}
use Rattle.cloud_trait.specs.declared.state.Hold.{Hold}

-- a lock stands as the lease says: in its generation, and held until its end
pub record StandsAs (c : Claim) (hold : Hold) : Type 0 where
  pub given : 0 < c.generation
  pub current : c.generation ≡ hold.generation
  pub ends : hold.until ≡ c.end

-- a lock that stands so is free at a moment, or it is that of one of these leases and stands as that says
abbrev pub IsOwn : List Claim → ℕ → Lock → Hold → Type 0
IsOwn held now l hold = (hold.until ≤ now) ⊎ ((c : Claim) × IsIn held c × (c.lock ≡ l) × StandsAs c hold)

-- nobody has a lease beside these
abbrev pub HoldsAlone : List Claim → CloudState → Type 0
HoldsAlone held s = (l : Lock) → IsOwn held s.now l (s.locks l)

-- none of these leases is of the lock
abbrev pub HasNone : List Claim → Lock → Type 0
HasNone held l = (c : Claim) → IsIn held c → c.lock ≢ l

-- a call takes no lock of these leases, and gives back the newest of them
abbrev pub UsesOwn : Ask → List Claim → Type 0
UsesOwn (Take lock ticks) held = HasNone held lock
UsesOwn (Release l) [] = ⊥
UsesOwn (Release l) (c ∷ cs) = l ≡ c
UsesOwn (Renew l ticks) held = ⊥
UsesOwn ask held = Unit {0}
