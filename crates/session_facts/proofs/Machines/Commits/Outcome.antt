-- What a commit knows after each of its calls, whatever it answered.
use Rattle.std.proofs.Common.{◌≡◌, ℕ, List, [], ◌∷◌, Option, Some, None, refl}
use Rattle.std.specs.Prelude.{slice_get}
use Rattle.cloud_facts.specs.Calls.Acting.{footing, actor, Setting, Outcome}
use Rattle.cloud_facts.specs.Words.{Entry, AtomicRec, Answer, CloudState, Caller, Ask, Book, store_of, IsCall}
use Rattle.session_facts.specs.Machines.Commits.Knows.{LogsNext, SendsNext, Deletes, KnowsCommitAt, KnowsCommit, KnowsNext}
use Rattle.session_facts.specs.Machines.Commits.Audited.{noted_at, commit_note}
use Rattle.session_facts.proofs.Machines.Commits.Deleted.{deleting_outcome}
use Rattle.session_facts.proofs.Machines.Commits.SentLogged.{logging_outcome}
use Rattle.session_facts.proofs.Machines.Commits.Nexts.{stands_of}
use Rattle.session_facts.proofs.Machines.Commits.PutOpened.{opening_outcome}
use Rattle.session_facts.proofs.Machines.Commits.PutSettled.{settling_outcome}
use Rattle.session_facts.proofs.Machines.Commits.Ready.{committer, Ready}
use Rattle.session_facts.proofs.Machines.Commits.SentOn.{sending_outcome}
use Rattle.commit_writes.specs.declared.stage.Stage.{Stage}
use Rattle.commit_writes.specs.declared.stage.Stage.TheVariants.{Waiting, Logging, Opening, Sending, Settling, Deleting, Finished}
use Rattle.commit_writes.specs.Sound.{LogsRecord, SendsRecord, IsThere, IsSoundAt, IsSound}
use Rattle.commit_writes.specs.Writing.{Writing, log_ask, send_ask, delete_ask, ask_at, writing_ask, writing_next}
use Rattle.commit_writes.proofs.Outcomes.{at as staged}
use Rattle.cloud_facts.specs.Homes.Homes.{Home, Part, Parts}

module _ (who : Caller) (book : Book) (order : List Entry) (s t : CloudState) (parts : Parts) (w : Writing) (reply : Answer) (part : Part) (g : Home) where
  abbrev ReadyAt : Stage → Type 0
  ReadyAt stage = Ready (footing book order s) t.now (committer parts who.session (staged w stage)) (staged w stage) part g

  abbrev OutcomeBy : Stage → Ask → Type 0
  OutcomeBy stage ask = Outcome (footing book order s) t (actor parts who.session (w.home.lease ∷ [])) ask (noted_at stage (staged w stage) ask) (KnowsNext (writing_next (staged w stage) reply))

  logging : ReadyAt Logging → LogsNext (store_of book order s) t.now (staged w Logging) g → (o : Option AtomicRec) → slice_get w.records w.place ≡ o → LogsRecord w o
      → IsCall who (log_ask w) reply s t → OutcomeBy Logging (log_ask w)
  logging ready a (Some r) there reads call = logging_outcome who book order s t parts w reply part g ready a r there reads call
  logging ready a None there never call = absurd never

  sending : ReadyAt Sending → SendsNext (store_of book order s) t.now (staged w Sending) → (o : Option AtomicRec) → slice_get w.records w.place ≡ o → SendsRecord w o
      → IsCall who (send_ask w o) reply s t → OutcomeBy Sending (send_ask w o)
  sending ready a (Some r) there reads call = sending_outcome who book order s t parts w reply part g ready a r there reads call
  sending ready a None there never call = absurd never

  deleting : ReadyAt Deleting → Deletes (store_of book order s) t.now (staged w Deleting) g → (o : Option ℕ) → slice_get w.ids w.place ≡ o → IsThere o
      → IsCall who (delete_ask w o) reply s t → OutcomeBy Deleting (delete_ask w o)
  deleting ready a (Some id) there is call = deleting_outcome who book order s t parts w reply part g ready a id there call
  deleting ready a None there never call = absurd never

  outcome_at : (stage : Stage) → ReadyAt stage → KnowsCommitAt stage (store_of book order s) t.now (staged w stage) g → IsSoundAt stage w → IsCall who (ask_at stage w) reply s t
      → OutcomeBy stage (ask_at stage w)
  outcome_at Waiting ready never sound call = absurd never
  outcome_at Logging ready a sound call = logging ready a (slice_get w.records w.place) refl sound call
  outcome_at Opening ready a sound call = opening_outcome who book order s t parts w reply part g ready a sound call
  outcome_at Sending ready a sound call = sending ready a (slice_get w.records w.place) refl sound call
  outcome_at Settling ready a sound call = settling_outcome who book order s t parts w reply part g ready a sound call
  outcome_at Deleting ready a sound call = deleting ready a (slice_get w.ids w.place) refl sound call
  outcome_at Finished ready never sound call = absurd never

pub commit_outcome : (who : Caller) (book : Book) (order : List Entry) (s t : CloudState) (parts : Parts) (w : Writing) (reply : Answer) (part : Part)
    → Setting (footing book order s) t.now (actor parts who.session (w.home.lease ∷ [])) → parts who.session ≡ part → KnowsCommit (store_of book order s) t.now w part → IsSound w
    → IsCall who (writing_ask w) reply s t → Outcome (footing book order s) t (actor parts who.session (w.home.lease ∷ [])) (writing_ask w) (commit_note w (writing_ask w)) (KnowsNext (writing_next w reply))
commit_outcome who book order s t parts w reply part setting is k sound call =
    outcome_at who book order s t parts w reply part k.home w.stage (record { setting = setting; is = is; stands = stands_of (store_of book order s) t.now w part k }) k.at sound call
