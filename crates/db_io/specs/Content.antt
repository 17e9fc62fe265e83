-- What a source tells, and what a read does to it.
use Rattle.std.specs.Prelude.{◌≡◌, ℕ, ◌<◌, ◌≤◌, List, [], ◌++◌, length, Option, Some, None, Result, Ok, Err}
use Rattle.db_io.specs.declared.fault.IoFault.{IoFault}
use Rattle.db_io.specs.declared.fault.IoFault.TheVariants.{Failed, Memory}

-- what it will give from here on, where it tells it, and how many of its calls failed
pub record Told : Type 0 where
  pub content : Option (List ℕ)
  pub faults : ℕ

-- what is told where only the count of faults is
abbrev pub faults_alone : ℕ → Told
faults_alone faults = record { content = None; faults = faults }

-- content that is told begins with these bytes, and loses them
abbrev pub Takes : Told → Told → List ℕ → Type 0
Takes old new bytes = (all : List ℕ) → old.content ≡ Some all
    → (rest : List ℕ) × (new.content ≡ Some rest) × (all ≡ bytes ++ rest)

-- a read gave so many bytes, at most so many, which came from the content; none where some were wanted says that the content was at its end
pub record Gives (old new : List ℕ) (before after : Told) (most count : ℕ) : Type 0 where
  pub bytes : List ℕ
  pub appended : new ≡ old ++ bytes
  pub counted : count ≡ length bytes
  pub within : count ≤ most
  pub taken : Takes before after bytes
  pub end : count ≡ 0 → 0 < most → (all : List ℕ) → before.content ≡ Some all → all ≡ []

-- the count of faults rises where a call failed, and stands at every other answer
abbrev pub Counts : {A : Type 0} → Result A IoFault → ℕ → ℕ → Type 0
Counts (Ok answer) old new = new ≡ old
Counts (Err Failed) old new = old < new
Counts (Err Memory) old new = new ≡ old
