-- Which lock guards an object, and what a session's call may touch.
use Rattle.std.specs.Prelude.{ℕ, ◌≡◌, ◌≤◌, ◌⊎◌, ◌==◌, if◌then◌else◌, List, [], ◌∷◌, ◌++◌, Option, Some, None, IfSome, IsSomeAnd}
use Rattle.cloud_facts.specs.Words.{ObjName, Lock, Leaf, Version, CloudState, newest, Claim, Lasts, Ask, Get, GetHeld, PutHeld, Send, Receive, Delete, Take, Renew, Release}
use Rattle.db_base.specs.declared.names.Lock.TheVariants as lock
use Rattle.db_base.specs.declared.names.ObjName.TheVariants as object
use Rattle.cloud_trait.specs.Ask.{ListHeld, RemoveHeld}
use Rattle.leaf_view.specs.Leaf.{leaf}
use Rattle.byte_format.specs.Whole.{whole}
use Rattle.std.specs.Result.{result_ok}
use Rattle.cloud_facts.specs.Leases.Leases.{Hands, Holds}

-- the lock of a page by its newest bytes: a leaf's own; a page above 1 that was never put, and an inner node, are guarded by their tree's
abbrev pub guard_of_leaf : ℕ → ℕ → Option Leaf → Lock
guard_of_leaf tree page (Some l) = lock.Page tree page
guard_of_leaf tree page None = lock.Tree tree

abbrev pub guard_of_page : ℕ → ℕ → Option (List ℕ) → Lock
guard_of_page tree page (Some bytes) = guard_of_leaf tree page (result_ok (whole leaf bytes))
guard_of_page tree page None = if page == 1 then lock.Page tree page else lock.Tree tree

-- the lock that guards an object, by its newest bytes
abbrev pub guard_of : ObjName → Option (List ℕ) → Lock
guard_of (object.Head client) bytes = lock.Client client
guard_of (object.Tree tree) bytes = lock.Tree tree
guard_of (object.Page tree page) bytes = guard_of_page tree page bytes

abbrev pub guard : CloudState → ObjName → Lock
guard s name = guard_of name (newest s name)

-- while the leases that a put names last, one of them is of the lock that guards the object; a page is removed under its tree's lock, a leaf
-- too, and nothing else is removed
abbrev pub IsGuarded : CloudState → ℕ → Ask → Type 0
IsGuarded s now (PutHeld name bytes one two) = Lasts now one × IfSome two (Lasts now) → (one.lock ≡ guard s name) ⊎ IsSomeAnd two (λ l. l.lock ≡ guard s name)
IsGuarded s now (Get name) = Unit {0}
IsGuarded s now (GetHeld name l) = Unit {0}
IsGuarded s now (ListHeld tree l) = Unit {0}
IsGuarded s now (RemoveHeld (object.Head client) l) = ⊥
IsGuarded s now (RemoveHeld (object.Tree tree) l) = ⊥
IsGuarded s now (RemoveHeld (object.Page tree page) l) = Lasts now l → l.lock ≡ lock.Tree tree
IsGuarded s now (Send queue bytes) = Unit {0}
IsGuarded s now (Receive queue most) = Unit {0}
IsGuarded s now (Delete queue id) = Unit {0}
IsGuarded s now (Take lock ticks) = Unit {0}
IsGuarded s now (Renew l ticks) = Unit {0}
IsGuarded s now (Release l) = Unit {0}

-- a session has a lease of the lock that lasts at a moment
pub record HasLasting (now : ℕ) (hands : Hands) (session : ℕ) (k : Lock) : Type 0 where
  pub lease : Claim
  pub held : Holds hands session lease
  pub lock : lease.lock ≡ k
  pub lasts : Lasts now lease

-- a session has a lease of a lock of this generation
pub record HasCurrent (hands : Hands) (session : ℕ) (k : Lock) (generation : ℕ) : Type 0 where
  pub lease : Claim
  pub held : Holds hands session lease
  pub lock : lease.lock ≡ k
  pub current : lease.generation ≡ generation

-- these versions of a page are those before, and its removal by a session that has a lasting lease of the tree
pub record IsRemovedBy (hands : Hands) (session now : ℕ) (name : ObjName) (before after : List Version) : Type 0 where
  pub tree : ℕ
  pub page : ℕ
  pub name_is : name ≡ object.Page tree page
  pub removal : Version
  pub none : removal.bytes ≡ None
  pub versions : after ≡ before ++ removal ∷ []
  pub lasting : HasLasting now hands session (lock.Tree tree)

-- what a call of a session may do to a state, where `now` is the clock that it leaves: a lock moves only where it was over or the session
-- has it, and an object's newest version only where the session has a lasting lease of its guard, or removes a page under
-- a lasting lease of its tree; messages and versions only grow
pub record Allowed (hands : Hands) (session : ℕ) (s t : CloudState) : Type 0 where
  pub later : s.now ≤ t.now
  pub generations : (k : Lock) → (s.locks k).generation ≤ (t.locks k).generation
  pub locks : (k : Lock) → (t.locks k ≡ s.locks k) ⊎ (((s.locks k).until ≤ t.now) ⊎ HasCurrent hands session k (s.locks k).generation)
  pub objects : (name : ObjName) → (t.versions name ≡ s.versions name)
      ⊎ (HasLasting t.now hands session (guard s name) ⊎ IsRemovedBy hands session t.now name (s.versions name) (t.versions name))
