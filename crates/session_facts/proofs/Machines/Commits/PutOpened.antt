-- What the put that commits leaves.
use Rattle.std.proofs.Common.{◌≡◌, ◌⊎◌, inl, inr, ℕ, List, [], ◌∷◌, ◌++◌, map, Some, None, Ok, refl, sym, ap, subst, ◌∙◌, arith, append-nil}
use Rattle.std.proofs.lemmas.List.{map-append}
use Rattle.cloud_facts.specs.Calls.Acting.{footing, IsPruned}
use Rattle.cloud_facts.specs.Words.{Entry, AtomicRec, Head, Answer, CloudState, called, Caller, Lasts, done_of, Book, Store, at, IsIn, store_of, IsCall}
use Rattle.cloud_facts.specs.Calls.Looks.{audit_of}
use Rattle.cloud_facts.proofs.Calls.Calls.{put_cases, put_lasts, put_late}
use Rattle.cloud_facts.proofs.Calls.Outcomes.{stays, put_landed}
use Rattle.cloud_trait.specs.Ask.{Lands}
use Rattle.cloud_trait.specs.Growth.{BeginsWith}
use Rattle.session_facts.specs.Machines.Commits.Knows.{attempt_of, IsOfAttempt, AreMessagesOf, OpensBehind, HasOpened, HasCommitted, KnowsNext}
use Rattle.session_facts.specs.Machines.Commits.Audited.{noted_at}
use Rattle.session_facts.proofs.Machines.Commits.Records.{record_of, record_for, messages_stay}
use Rattle.session_facts.proofs.Machines.Commits.Nexts.{WriteStep, IsLeft, part_next, next_homes, knows_home, leads, restored_is}
use Rattle.session_facts.proofs.Machines.Commits.Opened as opened
use Rattle.session_facts.proofs.Machines.Commits.Ready.{committer, Ready, OutcomeAt, at_home, holds, homes, lasting, alone}
use Rattle.session_facts.proofs.Machines.Commits.Routes.{records}
use Rattle.commit_writes.specs.declared.stage.Stage.TheVariants.{Opening}
use Rattle.commit_writes.specs.Writing.{Writing, head_ask, restored, writing_next}
use Rattle.commit_writes.proofs.Outcomes.{comes, at as staged}
use Rattle.db_base.specs.declared.names.ObjName.TheVariants as object
use Rattle.head_codec.specs.Spelling.{head_of}
use Rattle.history.specs.Audited.{committed_entry}
use Rattle.cloud_facts.specs.Homes.Homes.{Home, Part, Parts, HomesHold}
use Rattle.cloud_facts.proofs.Homes.HomeLemmas.{commits_keeps, keeps_part}
use Rattle.cloud_facts.specs.Landings.Landing as landing
use Rattle.cloud_facts.proofs.Landings.LandingLemmas.{opens_later}
use Rattle.route_plan.specs.Heads.{opened_head}
use Rattle.cloud_facts.specs.Book.Effects.{after_head}
use Rattle.cloud_facts.specs.Book.Messages.{IsLogMessage, WaitsLogged}
use Rattle.cloud_facts.specs.Book.Premises.{Opens}
use Rattle.cloud_facts.specs.Book.Records.{entry_of, entries_of}
use Rattle.cloud_facts.proofs.Book.GrowthLemmas.{head_grows}
use Rattle.cloud_facts.proofs.Book.Names.{at_same}
use Rattle.cloud_facts.proofs.Book.Places.{in_either, in_behind}
use Rattle.session_facts.proofs.Machines.Openings.Counted.{counted_in, log_in}
use Rattle.session_facts.proofs.Machines.Openings.Entries.{records_in}

module _ (who : Caller) (book : Book) (order : List Entry) (s t : CloudState) (parts : Parts) (v : Writing) (reply : Answer) (part : Part) (g : Home)
    (ready : Ready (footing book order s) t.now (committer parts who.session (staged v Opening)) (staged v Opening) part g) (a : OpensBehind (store_of book order s) t.now (staged v Opening) g)
    (sound : head_of v.out ≡ Some v.home.head) (call : IsCall who (head_ask v) reply s t) where
  abbrev w : Writing
  w = staged v Opening

  abbrev st : Store
  st = store_of book order s

  abbrev client : ℕ
  client = w.home.client

  abbrev step : WriteStep
  step = writing_next w reply

  -- the head as it was is left where the put was late
  left : (u : Store) → (Lasts t.now w.home.lease → IsPruned u.tally client (u.tally.head client) a.base) → BeginsWith book.log u.book.log → IsLeft u t.now part w (restored w.home.head w.before)
  left u newest grows =
      subst (λ h. IsLeft u t.now part w h) (sym (restored_is w a.base a.head a.before))
      (knows_home u t.now (attempt_of w) w.changes part g a.base ready.stands (a.routes).epoch_is (let e = (a.routes).later in omega (arith, e)) (a.routes).settled newest (a.routes).trees
      (records_in book.log u.book.log client (a.base).pending (log_in book.log u.book.log grows) (a.routes).of_records)
      (counted_in book.log u.book.log client (a.base).counters grows (a.routes).counted))

  -- ---- where it landed

  module _ (lasts : Lasts t.now w.home.lease) where
    abbrev before : Head
    before = st.tally.head client

    pruned : IsPruned st.tally client before a.base
    pruned = (a.routes).newest lasts

    abbrev recs : List AtomicRec
    recs = records client (a.base).epoch w.home.attempt a.base w.changes (a.routes).pages

    records_are : w.records ≡ recs
    records_are = (a.routes).records_are

    head_is : w.home.head ≡ opened_head a.base w.home.attempt recs
    head_is = a.head ∙ ap (λ rs. opened_head a.base w.home.attempt rs) records_are

    before_epoch : before.epoch ≡ w.home.head.epoch
    before_epoch = sym pruned.epoch ∙ (a.routes).epoch_is

    same_client : g.client ≡ client
    same_client = ((ready.stands).home).client_is

    -- the records wait in the ATOMIC queue
    waits : (r : AtomicRec) → IsIn recs r → WaitsLogged (st.tally.logged client) r
    waits r is =
        subst (λ c. WaitsLogged (st.tally.logged c) r) same_client
        ((holds who book order s t.now parts w part g ready).waiting (lasting who book order s t.now parts w part g ready lasts) r
        (subst (λ rs. IsIn rs r) (sym records_are ∙ sym (a.has).needed) is))

    -- and nothing else of the transaction was sent there
    own : (id : ℕ) (q : AtomicRec) → IsLogMessage (st.tally.logged client) id q → q.epoch ≡ (a.base).epoch → q.txn ≡ w.home.attempt → IsIn recs q
    own id q m epoch txn =
        subst (λ rs. IsIn rs q) ((a.has).sent ∙ records_are)
        ((holds who book order s t.now parts w part g ready).own id q (subst (λ c. IsLogMessage (st.tally.logged c) id q) (sym same_client) m)
        (epoch ∙ ((a.routes).epoch_is ∙ sym ((ready.stands).home).epoch_is)) (txn ∙ sym ((ready.stands).home).attempt_is))

    opens_recs : Opens st client w.home.head recs
    opens_recs =
        opened.opens st client w.home.attempt w.changes (a.routes).pages a.base w.home.head (ready.stands).client ((ready.setting).cloud).holds.numbers
        (((ready.setting).cloud).holds.pends.heads client (ready.stands).client) (ready.stands).changes_may (a.routes).some (a.routes).paged ((a.routes).leaves lasts) pruned
        (a.routes).settled (a.routes).later head_is waits own

    abbrev su : Store
    su = after_head client w.home.head recs st

    after_homes : HomesHold su.tally t.now (at who.session part parts)
    after_homes =
        keeps_part su.tally t.now parts who.session part ready.is
        (subst (λ c. HomesHold (after_head c w.home.head recs st).tally t.now parts) same_client
        (commits_keeps st t.now parts who.session g w.home.head recs (at_home who book order s t.now parts w part g ready) (lasting who book order s t.now parts w part g ready lasts)
        (sym ((ready.stands).home).epoch_is)
        (subst (λ c. (st.tally.head c).epoch ≡ g.epoch) (sym same_client) (before_epoch ∙ sym ((ready.stands).home).epoch_is))
        (alone who book order s t.now parts w part g ready lasts) (ready.setting).homes))

    has_opened : HasOpened su t.now (attempt_of w) w.records w.home.head
    has_opened = record {
      phase = ap (λ (h : Head). h.phase) a.head;
      epoch_is = refl;
      txn_is = ap (λ (h : Head). h.txn) a.head;
      logged = λ r there. (
        in_behind book.log recs r (subst (λ rs. IsIn rs r) records_are there),
        (record_of st t.now (attempt_of w) w.changes w.records a.base a.routes there.0 r there.1).is,
      );
      indexed = λ place r there. (record_of st t.now (attempt_of w) w.changes w.records a.base a.routes place r there).index_is;
      newest = λ still. at_same client w.home.head st.tally.head client refl;
      all = λ r there of. all r of (in_either book.log recs r there);
    }
      where
        all : (r : AtomicRec) → IsOfAttempt (attempt_of w) r → IsIn book.log r ⊎ IsIn recs r → IsIn w.records r
        all r of (inr new) = subst (λ rs. IsIn rs r) (sym records_are) new
        all r of (inl old) = absurd ((a.routes).uncommitted r old of)

    -- each change has its record
    has_committed : HasCommitted su.book.log (attempt_of w) w.changes
    has_committed place n at =
        let for = record_for st t.now (attempt_of w) w.changes w.records a.base a.routes place n at in
        let of = has_opened.logged for.of (place, for.is) in
        record { of = for.of; logged = of.0; is = of.1; index_is = has_opened.indexed place for.of for.is; tree_is = for.tree_is; change_is = for.change_is }

    messages : AreMessagesOf su (attempt_of w) w.ids
    messages = messages_stay st su (attempt_of w) w.ids (head_grows st client w.home.head recs (opens_later st client w.home.head recs opens_recs)) a.messages

    noted : noted_at Opening w (head_ask w) (audit_of book order) ≡ audit_of su.book su.order
    noted = ap (λ (es : List Entry). record { committed = es; order = order }) entries
      where
        entries : entries_of book.log ++ map (committed_entry client w.home.head.epoch w.home.head.txn) w.changes ≡ entries_of (book.log ++ recs)
        entries =
            ap (λ es. entries_of book.log ++ es)
            (ap (λ (h : Head). map (committed_entry client h.epoch h.txn) w.changes) head_is
            ∙ sym (opened.entries_are client (a.base).epoch w.home.attempt a.base w.changes (a.routes).pages (a.routes).paged))
            ∙ sym (map-append entry_of book.log recs)

    opened_outcome : Lands who (head_ask w) (called who t.now s) t → OutcomeAt (footing book order s) t (committer parts who.session w) w reply Opening
    opened_outcome lands =
        put_landed who book order s t parts (w.home.lease ∷ []) (noted_at Opening w (head_ask w)) (KnowsNext step) (object.Head client) w.out w.home.lease None su lands (ready.setting).cloud
        (landing.opens client w.home.head recs w.out w.home.lease None sound opens_recs) tt
        (g, at_home who book order s t.now parts w part g ready, sym same_client, sym ((ready.stands).home).epoch_is) tt (part_next step part)
        (next_homes su.tally t.now parts who.session part step after_homes)
        (leads su t.now part (comes w reply) ready.stands (
          λ done. record { has = has_opened; committed = has_committed; sent = λ place r less there. absurd (omega (arith, less)); messages = messages },
          λ end late e. left su (λ still. absurd (put_late who (object.Head client) w.out w.home.lease reply s t call end late e still)) (recs, refl),
        ))
        noted

  pub opening_outcome : OutcomeAt (footing book order s) t (committer parts who.session w) w reply Opening
  opening_outcome = on (put_cases who (object.Head client) w.out w.home.lease None reply s t call)
    where
      on : ((t ≡ called who t.now s) × (done_of reply ≡ Ok tt → ⊥)) ⊎ Lands who (head_ask w) (called who t.now s) t → OutcomeAt (footing book order s) t (committer parts who.session w) w reply Opening
      on (inl p) =
          stays who book order s t parts (w.home.lease ∷ []) (head_ask w) (noted_at Opening w (head_ask w)) (KnowsNext step) p.0 (ready.setting).cloud (part_next step part)
          (next_homes st.tally t.now parts who.session part step (homes who book order s t.now parts w part g ready))
          (leads st t.now part (comes w reply) ready.stands (λ done. absurd (p.1 done), λ end late e. left st (a.routes).newest ([], sym (append-nil book.log))))
      on (inr lands) = opened_outcome (put_lasts who (object.Head client) w.out w.home.lease None (called who t.now s) t lands) lands
