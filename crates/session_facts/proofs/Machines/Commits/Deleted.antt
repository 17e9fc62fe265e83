-- What a deletion of an ATOMIC message leaves.
use Rattle.std.proofs.Common.{◌≡◌, ◌⊎◌, inl, inr, ℕ, List, [], ◌∷◌, Some, refl}
use Rattle.std.specs.Prelude.{slice_get}
use Rattle.cloud_facts.specs.Calls.Acting.{footing, actor, Outcome}
use Rattle.cloud_facts.specs.Words.{Entry, Answer, CloudState, called, Caller, Ask, Delete, Book, Store, at, store_of, IsCall}
use Rattle.cloud_facts.proofs.Calls.Calls.{landed_or_not}
use Rattle.cloud_facts.proofs.Calls.Outcomes.{stays, other_landed}
use Rattle.cloud_trait.specs.Ask.{Lands}
use Rattle.session_facts.specs.Machines.Commits.Knows.{attempt_of, Deletes, KnowsNext}
use Rattle.session_facts.specs.Machines.Commits.Audited.{noted_at}
use Rattle.session_facts.proofs.Machines.Commits.Records.{messages_stay}
use Rattle.session_facts.proofs.Machines.Commits.Logged.{marks, spared}
use Rattle.session_facts.proofs.Machines.Commits.Nexts.{WriteStep, part_next, next_homes, leads}
use Rattle.session_facts.proofs.Machines.Commits.Ready.{committer, Ready, homes}
use Rattle.commit_writes.specs.declared.stage.Stage.TheVariants.{Deleting}
use Rattle.commit_writes.specs.Writing.{Writing, writing_next}
use Rattle.commit_writes.proofs.Outcomes.{comes, at as staged}
use Rattle.db_base.specs.declared.names.QueueName.TheVariants.{Atomic}
use Rattle.cloud_facts.specs.Homes.Homes.{Home, Part, Parts, HomesHold}
use Rattle.cloud_facts.proofs.Homes.HomeLemmas.{marked_keeps, keeps_part}
use Rattle.cloud_facts.specs.Landings.Landing as landing
use Rattle.cloud_facts.specs.Book.Effects.{after_log_mark}
use Rattle.cloud_facts.proofs.Book.GrowthLemmas.{log_mark_grows}

module _ (who : Caller) (book : Book) (order : List Entry) (s t : CloudState) (parts : Parts) (v : Writing) (reply : Answer) (part : Part) (g : Home)
    (ready : Ready (footing book order s) t.now (committer parts who.session (staged v Deleting)) (staged v Deleting) part g) (a : Deletes (store_of book order s) t.now (staged v Deleting) g) (id : ℕ)
    (there : slice_get v.ids v.place ≡ Some id) where
  abbrev w : Writing
  w = staged v Deleting

  abbrev st : Store
  st = store_of book order s

  abbrev client : ℕ
  client = w.home.client

  abbrev step : WriteStep
  step = writing_next w reply

  abbrev ask : Ask
  ask = Delete (Atomic client) id

  abbrev su : Store
  su = after_log_mark client id st

  abbrev OutcomeOf : Ask → Type 0
  OutcomeOf q = Outcome (footing book order s) t (actor parts who.session (w.home.lease ∷ [])) q (noted_at Deleting w q) (KnowsNext step)

  after_homes : HomesHold su.tally t.now (at who.session part parts)
  after_homes =
      keeps_part su.tally t.now parts who.session part ready.is
      (marked_keeps st t.now parts client id (spared st t.now w g a id there parts who.session part (ready.stands).home ready.is (ready.setting).homes) (ready.setting).homes)

  still : Deletes su t.now w g
  still = record {
    committed = a.committed;
    settled = a.settled;
    txn_is = a.txn_is;
    past = a.past;
    newest = a.newest;
    trees = a.trees;
    of_records = a.of_records;
    counted = a.counted;
    needed = a.needed;
    messages = messages_stay st su (attempt_of w) w.ids (log_mark_grows st client id) a.messages;
  }

  pub deleting_outcome : IsCall who ask reply s t → OutcomeOf ask
  deleting_outcome call = on (landed_or_not who ask reply s t call)
    where
      on : (t ≡ called who t.now s) ⊎ Lands who ask (called who t.now s) t → OutcomeOf ask
      on (inl e) =
          stays who book order s t parts (w.home.lease ∷ []) ask (noted_at Deleting w ask) (KnowsNext step) e (ready.setting).cloud (part_next step part)
          (next_homes st.tally t.now parts who.session part step (homes who book order s t.now parts w part g ready))
          (leads st t.now part (comes w reply) ready.stands a)
      on (inr lands) =
          other_landed who book order s t parts (w.home.lease ∷ []) ask (noted_at Deleting w ask) (KnowsNext step) su lands (ready.setting).cloud (landing.marks_log client id (marks st t.now w g a id there)) tt tt tt
          (part_next step part) (next_homes su.tally t.now parts who.session part step after_homes)
          (leads su t.now part (comes w reply) ready.stands still)
          (λ look new. refl) refl
