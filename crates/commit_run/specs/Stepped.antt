-- A step of a commit beside the cache: its call, what that was answered, and all that is said of them.
use Rattle.std.specs.Prelude.{◌≡◌, ◌≤◌, ℕ, List, ◌∷◌, length, Some}
use Rattle.std.specs.List.{AllByRecursion}
use Rattle.db_base.specs.declared.trouble.CommitAnswer.{CommitAnswer}
use Rattle.db_base.specs.declared.trouble.CommitAnswer.TheVariants.{Committed}
use Rattle.txn_buffer.specs.Noted.{Noted}
use Rattle.cloud_trait.specs.declared.answer.Answer.{Answer}
use Rattle.cloud_trait.specs.declared.turn.Turn.{Turn}
use Rattle.cloud_trait.specs.declared.turn.Turn.TheVariants.{Ended}
use Rattle.cloud_trait.specs.Caller.{Caller}
use Rattle.cloud_trait.specs.Seen.{Seen}
use Rattle.cloud_trait.specs.State.{CloudState}
use Rattle.cloud_trait.specs.Weather.{Makes}
use Rattle.cloud_trait.specs.Machine.{LeadsBy, Took, Deed}
use Rattle.cloud_trait.specs.Calm.{IsCalm, AreCalm, AreAlone}
use Rattle.recover_run.specs.declared.home.Home.{Home}
use Rattle.page_cache.specs.Cache.{Cache}
use Rattle.commit_writes.specs.Writing.{Writing}
use Rattle.commit_writes.specs.Calls.{told}
use Rattle.commit_writes.specs.Meaning.{MeansTurn}
use Rattle.commit_writes.specs.Stepped.{deed_of}
use Rattle.commit_writes.specs.Calm.{AreMarked, RaisesNoFault, AreGone}
use Rattle.commit_run.specs.declared.hand.Hand.{Hand}
use Rattle.commit_run.specs.declared.hand.Hand.TheVariants.{Writes, First, Change}
use Rattle.commit_run.specs.Causes.{Causes}
use Rattle.commit_run.specs.Demands.{DemandsNext}
use Rattle.commit_run.specs.CallDemands.{Exact, IsRefusing, IsAmple}
use Rattle.commit_run.specs.Meaning.{IsWriting, home_in, MeansWalks}
use Rattle.commit_run.specs.Plain.{IsPlain, GoesPlainly}
use Rattle.commit_run.specs.Run.{Run, home_of, asks, run_next, KeepsHome}
use Rattle.commit_run.specs.Calm.{EndsWell}
use Rattle.commit_run.specs.Within.{Went}

-- the commit of changes by a home, beside the cache with which it began, and the calls by which it came here
pub record Course : Type 0 where
  pub home : Home
  pub changes : List Noted
  pub cache : Cache
  pub calls : List Deed

abbrev pub course_of : Home → List Noted → Cache → List Deed → Course
course_of home changes c h = record { home = home; changes = changes; cache = c; calls = h }

-- Behind the walks: what is written are the records of sticky routing, and the calls behind the walks mean what they mean of these. Where all
-- calls were calm and nobody else acted between them, the ATOMIC messages of a commit are marked in the state that its last call left; where no
-- call raised the count of faults, each was marked by its own deletion, whoever else acted.
pub record MeansWrites (course : Course) (call : Deed) (w : Writing) (left : Home) (turn : Turn CommitAnswer) : Type 0 where
  pub writing : IsWriting course.home course.changes course.cache course.calls w
  pub means : MeansTurn (home_in writing) w.records (told (call ∷ writing.later)) left turn
  pub marks : 1 ≤ length course.changes → AreCalm (call ∷ course.calls) → AreAlone (call ∷ course.calls) → (x : ℕ) → turn ≡ Ended (Committed x)
      → (s : CloudState) → call.after.state ≡ Some s → AreMarked (home_in writing) w.records (told (call ∷ writing.later)) s
  pub clears : 1 ≤ length course.changes → AllByRecursion RaisesNoFault (call ∷ course.calls) → (x : ℕ) → turn ≡ Ended (Committed x)
      → AreGone (home_in writing) w.records (call ∷ writing.later)

-- in a walk, and behind the walks
abbrev pub MeansIn : Hand → Course → Deed → Writing → Home → Turn CommitAnswer → Type 0
MeansIn Writes course call w left turn = MeansWrites course call w left turn
MeansIn (First walk) course call w left turn = MeansWalks course.home course.changes course.cache (told (call ∷ course.calls)) left turn
MeansIn (Change walk) course call w left turn = MeansWalks course.home course.changes course.cache (told (call ∷ course.calls)) left turn

-- what a step says of the commit that came here, with its own call
pub record Whole (course : Course) (call : Deed) (old new : Run × Cache) (turn : Turn CommitAnswer) : Type 0 where
  pub means : MeansIn old.0.hand course call old.0.draft.writes (home_of new.0) turn
  pub exact : 1 ≤ length course.changes → Exact course.home course.changes course.calls (asks old) call.answer turn
  pub well : 1 ≤ length course.changes → IsCalm call → EndsWell turn
  pub plain : IsPlain course.home course.changes → GoesPlainly course.changes (call ∷ course.calls) turn

-- the call in hand was made and answered so, and of this one answer: the step that it leads to, why that ends, where it has to end, and what it
-- means by the whole run
pub record Stepped (who : Caller) (before after : Seen) (old new : Run × Cache) (turn : Turn CommitAnswer) : Type 0 where
  pub answer : Answer
  pub made : Makes who (asks old) answer before after
  pub took : Took (LeadsBy run_next) KeepsHome old answer new turn
  pub causes : Causes old answer new turn
  pub refused : IsRefusing old answer turn
  pub demands : DemandsNext old answer turn
  pub ample : IsAmple (asks old) answer turn
  pub whole : (home : Home) (changes : List Noted) (c : Cache) (h : List Deed) → Went home changes c h old
      → Whole (course_of home changes c h) (deed_of who (asks old) answer before after) old new turn
