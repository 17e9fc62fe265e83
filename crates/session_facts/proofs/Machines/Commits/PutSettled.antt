-- What the put that settles leaves.
use Rattle.std.proofs.Common.{◌≡◌, ◌⊎◌, inl, inr, ℕ, List, [], ◌∷◌, Some, None, Ok, refl, sym, ap, subst, ◌∙◌}
use Rattle.std.proofs.lemmas.List.{append-nil}
use Rattle.cloud_facts.specs.Calls.Acting.{footing}
use Rattle.cloud_facts.specs.Words.{Entry, AtomicRec, Head, Answer, CloudState, called, Caller, Lasts, done_of, Book, Store, at, store_of, IsCall}
use Rattle.cloud_facts.specs.Calls.Looks.{audit_of}
use Rattle.cloud_facts.proofs.Calls.Calls.{put_cases, put_lasts}
use Rattle.cloud_facts.proofs.Calls.Outcomes.{stays, put_landed}
use Rattle.cloud_trait.specs.Ask.{Lands}
use Rattle.session_facts.proofs.Machines.Openings.Counted.{counted_in, settled_counted}
use Rattle.session_facts.proofs.Machines.Openings.Entries.{settled_trees, settled_records, records_in}
use Rattle.session_facts.specs.Machines.Commits.Knows.{attempt_of, SettlesOpened, Deletes, KnowsNext}
use Rattle.session_facts.specs.Machines.Commits.Audited.{noted_at}
use Rattle.session_facts.proofs.Machines.Commits.Records.{messages_stay}
use Rattle.session_facts.proofs.Machines.Commits.Others.{committed_on}
use Rattle.session_facts.proofs.Machines.Commits.Nexts.{WriteStep, Stands, part_next, next_homes, leads}
use Rattle.session_facts.proofs.Machines.Commits.Ready.{committer, Ready, OutcomeAt, at_home, homes, lasting, alone}
use Rattle.session_facts.proofs.Machines.Commits.Settled.{settles_opened}
use Rattle.commit_writes.specs.declared.stage.Stage.TheVariants.{Settling}
use Rattle.commit_writes.specs.Writing.{Writing, head_ask, writing_next}
use Rattle.commit_writes.proofs.Outcomes.{comes, at as staged}
use Rattle.db_base.specs.declared.names.ObjName.TheVariants as object
use Rattle.head_codec.specs.Spelling.{head_of}
use Rattle.cloud_facts.specs.Homes.Homes.{Home, Part, AtHome, Parts, HomesHold}
use Rattle.cloud_facts.proofs.Homes.HomeLemmas.{commits_keeps, rests_keeps}
use Rattle.cloud_facts.specs.Landings.Landing as landing
use Rattle.cloud_facts.proofs.Landings.LandingLemmas.{settles_later}
use Rattle.cloud_facts.specs.Book.Effects.{after_head}
use Rattle.cloud_facts.specs.Book.Premises.{Settles}
use Rattle.cloud_facts.proofs.Book.GrowthLemmas.{head_grows}
use Rattle.cloud_facts.proofs.Book.Names.{at_same}
use Rattle.cloud_facts.proofs.Book.Places.{in_front}

module _ (who : Caller) (book : Book) (order : List Entry) (s t : CloudState) (parts : Parts) (v : Writing) (reply : Answer) (part : Part) (g : Home)
    (ready : Ready (footing book order s) t.now (committer parts who.session (staged v Settling)) (staged v Settling) part g) (k : SettlesOpened (store_of book order s) t.now (staged v Settling))
    (sound : head_of v.out ≡ Some v.home.head) (call : IsCall who (head_ask v) reply s t) where
  abbrev w : Writing
  w = staged v Settling

  abbrev st : Store
  st = store_of book order s

  abbrev client : ℕ
  client = w.home.client

  abbrev step : WriteStep
  step = writing_next w reply

  abbrev su : Store
  su = after_head client w.home.head [] st

  -- its ATOMIC messages are needed no more
  abbrev rested : Home
  rested = record g { needed = [] }

  same_client : g.client ≡ client
  same_client = ((ready.stands).home).client_is

  after_stands : Stands (attempt_of w) w.changes (AtHome rested) rested
  after_stands = record {
    client = (ready.stands).client;
    lock = (ready.stands).lock;
    changes_may = (ready.stands).changes_may;
    home = record {
      part_is = refl;
      client_is = ((ready.stands).home).client_is;
      epoch_is = ((ready.stands).home).epoch_is;
      attempt_is = ((ready.stands).home).attempt_is;
      lease_is = ((ready.stands).home).lease_is;
    };
  }

  module _ (lasts : Lasts t.now w.home.lease) where
    settles : Settles st client w.home.head
    settles = settles_opened st t.now w (ready.stands).client k lasts

    newest_epoch : (st.tally.head client).epoch ≡ g.epoch
    newest_epoch = ap (λ (h : Head). h.epoch) ((k.has).newest lasts) ∙ ((k.has).epoch_is ∙ sym ((ready.stands).home).epoch_is)

    after_homes : HomesHold su.tally t.now (at who.session (AtHome rested) parts)
    after_homes =
        rests_keeps su.tally t.now parts who.session g (at_home who book order s t.now parts w part g ready)
        (subst (λ c. HomesHold (after_head c w.home.head [] st).tally t.now parts) same_client
        (commits_keeps st t.now parts who.session g w.home.head [] (at_home who book order s t.now parts w part g ready) (lasting who book order s t.now parts w part g ready lasts)
        (sym ((ready.stands).home).epoch_is) (subst (λ c. (st.tally.head c).epoch ≡ g.epoch) (sym same_client) newest_epoch)
        (alone who book order s t.now parts w part g ready lasts) (ready.setting).homes))

    here : su.tally.head client ≡ w.home.head
    here = at_same client w.home.head st.tally.head client refl

    deletes : Deletes su t.now w rested
    deletes = record {
      committed = committed_on book.log su.book.log (attempt_of w) w.changes (λ r is. in_front book.log [] r is) k.committed;
      settled = settles.phase;
      txn_is = ap (λ (h : Head). h.txn) k.head ∙ (k.has).txn_is;
      past = inl here;
      newest = λ still. here;
      trees = settled_trees st client w.home.head (ready.setting).cloud.holds settles;
      of_records = records_in book.log su.book.log client w.home.head.pending (λ r is. in_front book.log [] r is)
          (settled_records st client w.home.head settles (ready.setting).cloud.holds);
      counted = counted_in book.log su.book.log client w.home.head.counters ([], refl) (settled_counted st client w.home.head settles (ready.setting).cloud.holds.numbers);
      needed = refl;
      messages = messages_stay st su (attempt_of w) w.ids (head_grows st client w.home.head [] (settles_later (st.tally.head client) w.home.head settles.behind settles.phase)) k.messages;
    }

    noted : noted_at Settling w (head_ask w) (audit_of book order) ≡ audit_of su.book su.order
    noted = ap (λ (log : List AtomicRec). audit_of (record book { log = log }) order) (sym (append-nil book.log))

    settled_outcome : Lands who (head_ask w) (called who t.now s) t → OutcomeAt (footing book order s) t (committer parts who.session w) w reply Settling
    settled_outcome lands =
        put_landed who book order s t parts (w.home.lease ∷ []) (noted_at Settling w (head_ask w)) (KnowsNext step) (object.Head client) w.out w.home.lease None su lands (ready.setting).cloud
        (landing.settles client w.home.head w.out w.home.lease None sound settles) tt tt tt (part_next step (AtHome rested))
        (next_homes su.tally t.now parts who.session (AtHome rested) step after_homes)
        (leads su t.now (AtHome rested) (comes w reply) after_stands (λ done. deletes))
        noted

  pub settling_outcome : OutcomeAt (footing book order s) t (committer parts who.session w) w reply Settling
  settling_outcome = on (put_cases who (object.Head client) w.out w.home.lease None reply s t call)
    where
      on : ((t ≡ called who t.now s) × (done_of reply ≡ Ok tt → ⊥)) ⊎ Lands who (head_ask w) (called who t.now s) t → OutcomeAt (footing book order s) t (committer parts who.session w) w reply Settling
      on (inl p) =
          stays who book order s t parts (w.home.lease ∷ []) (head_ask w) (noted_at Settling w (head_ask w)) (KnowsNext step) p.0 (ready.setting).cloud (part_next step part)
          (next_homes st.tally t.now parts who.session part step (homes who book order s t.now parts w part g ready))
          (leads st t.now part (comes w reply) ready.stands (λ done. absurd (p.1 done)))
      on (inr lands) = settled_outcome (put_lasts who (object.Head client) w.out w.home.lease None (called who t.now s) t lands) lands
