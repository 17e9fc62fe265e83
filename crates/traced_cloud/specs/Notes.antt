-- The calls that were noted.
use Rattle.std.specs.Prelude.{ℕ, ◌≡◌, Bool, false, List, [], ◌∷◌, ◌++◌, Option}
use Rattle.db_base.specs.declared.names.Lock.{Lock}
use Rattle.db_base.specs.declared.names.ObjName.{ObjName}
use Rattle.cloud_trait.specs.declared.answer.Answer.{Answer}
use Rattle.cloud_trait.specs.Ask.{PutHeld, Renew, Release}
use Rattle.cloud_trait.specs.Caller.{Caller}
use Rattle.cloud_trait.specs.Claim.{Claim}
use Rattle.traced_cloud.specs.Note.{note_of}
use Rattle.traced_cloud.specs.declared.note.Note.{Note}

-- the notes, in the order of the calls, and whether memory ran out for one
pub record Notes : Type 0 where
  pub made : List Note
  pub short : Bool

-- one call more is noted, behind the others; where memory ran out for a note, that is told from then on
pub record Adds (note : Note) (old new : Notes) : Type 0 where
  pub whole : new.short ≡ false → old.short ≡ false
  pub made : new.short ≡ false → new.made ≡ old.made ++ note ∷ []

-- a put is noted, under whatever leases
abbrev pub AddsPut : Caller → ObjName → List ℕ → Answer → Notes → Notes → Type 0
AddsPut who name bytes answer old new = (one : Claim) (two : Option Claim) → Adds (note_of who (PutHeld name bytes one two) answer) old new

-- a renewal is noted, and a release, of whatever lease of this lock
abbrev pub AddsRenewal : Caller → Lock → ℕ → Answer → Notes → Notes → Type 0
AddsRenewal who lock ticks answer old new = (l : Claim) → l.lock ≡ lock → Adds (note_of who (Renew l ticks) answer) old new

abbrev pub AddsRelease : Caller → Lock → Answer → Notes → Notes → Type 0
AddsRelease who lock answer old new = (l : Claim) → l.lock ≡ lock → Adds (note_of who (Release l) answer) old new
