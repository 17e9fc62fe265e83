-- What a send to the ATOMIC queue leaves.
use Rattle.std.proofs.Common.{◌≡◌, ◌+◌, ◌⊎◌, inl, inr, ℕ, suc, List, [], ◌∷◌, ◌++◌, length, take, Some, Ok, refl, sym, ap, subst, ◌∙◌, arith}
use Rattle.std.specs.Prelude.{slice_get}
use Rattle.session_facts.specs.Machines.Openings.Client.{KnowsClient}
use Rattle.cloud_facts.specs.Calls.Acting.{footing, opened_client}
use Rattle.cloud_facts.specs.Words.{QueueName, Entry, AtomicRec, Answer, Posted, CloudState, called, Caller, Send, sent_of, Book, Store, at, IsIn, store_of, IsCall}
use Rattle.cloud_facts.proofs.Calls.Calls.{send_cases}
use Rattle.cloud_facts.proofs.Calls.Outcomes.{stays, other_landed}
use Rattle.cloud_trait.specs.declared.answer.Answer.TheVariants.{Sent}
use Rattle.cloud_trait.specs.Ask.{Lands}
use Rattle.session_facts.specs.Machines.Commits.Knows.{attempt_of, IsOfAttempt, IsMessageOf, AreMessagesOf, Routes, HasSent, LogsNext, KnowsNext}
use Rattle.session_facts.specs.Machines.Commits.Audited.{noted_at}
use Rattle.session_facts.proofs.Machines.Commits.Records.{take_next, record_of, messages_stay}
use Rattle.session_facts.proofs.Machines.Commits.Others.{routes_others}
use Rattle.session_facts.proofs.Machines.Commits.Logged.{logs}
use Rattle.session_facts.proofs.Machines.Commits.Nexts.{WriteStep, Stands, part_next, next_homes, knows_home, leads}
use Rattle.session_facts.proofs.Machines.Commits.Ready.{committer, Ready, OutcomeAt, at_home, holds, homes}
use Rattle.commit_writes.specs.declared.stage.Stage.TheVariants.{Logging}
use Rattle.commit_writes.specs.Writing.{Writing, log_ask, writing_next}
use Rattle.commit_writes.proofs.Outcomes.{comes, at as staged}
use Rattle.db_base.specs.declared.names.QueueName.TheVariants.{Atomic}
use Rattle.cloud_facts.specs.Homes.Homes.{Home, Part, AtHome, Parts, HomesHold}
use Rattle.cloud_facts.proofs.Homes.HomeLemmas.{with_sent, logged_keeps}
use Rattle.cloud_facts.specs.Landings.Landing.{sent_by}
use Rattle.cloud_facts.specs.Landings.Landing as landing
use Rattle.log_codec.specs.Atomic.{atomic_of}
use Rattle.cloud_facts.specs.Book.Effects.{after_logged}
use Rattle.cloud_facts.specs.Book.Messages.{IsLogMessage}
use Rattle.cloud_facts.specs.Book.Premises.{Logs}
use Rattle.cloud_facts.proofs.Book.GrowthLemmas.{logged_grows}
use Rattle.cloud_facts.proofs.Book.Names.{at_same}
use Rattle.cloud_facts.proofs.Book.Places.{get_behind, get_single, in_either}

-- the number that a send gave is that of the place behind all messages
pub sent_id : (who : Caller) (queue : QueueName) (bytes : List ℕ) (answer : Answer) (s t : CloudState) → IsCall who (Send queue bytes) answer s t → (id : ℕ) → sent_of answer ≡ Ok id
    → id ≡ length (s.messages queue) + 1
sent_id who queue bytes (Sent k) s t call id e = let same : k ≡ id = cc in sym same ∙ call.row.1
sent_id who queue bytes answer s t call id e = absurd (cc)

module _ (who : Caller) (book : Book) (order : List Entry) (s t : CloudState) (parts : Parts) (v : Writing) (reply : Answer) (part : Part) (g : Home)
    (ready : Ready (footing book order s) t.now (committer parts who.session (staged v Logging)) (staged v Logging) part g) (a : LogsNext (store_of book order s) t.now (staged v Logging) g) (r : AtomicRec)
    (there : slice_get v.records v.place ≡ Some r) (reads : atomic_of v.out ≡ Some r) (call : IsCall who (log_ask v) reply s t) where
  abbrev w : Writing
  w = staged v Logging

  abbrev st : Store
  st = store_of book order s

  abbrev client : ℕ
  client = w.home.client

  abbrev step : WriteStep
  step = writing_next w reply

  abbrev post : Posted
  post = sent_by who w.out

  abbrev su : Store
  su = after_logged client post st

  abbrev after : Part
  after = AtHome (with_sent g r)

  sends : Logs st client post r
  sends = logs st t.now w g who (ready.stands).client part (ready.stands).home (holds who book order s t.now parts w part g ready) a r there reads

  is_of : IsOfAttempt (attempt_of w) r
  is_of = (record_of st t.now (attempt_of w) w.changes w.records w.home.head a.routes w.place r there).is

  same_client : g.client ≡ client
  same_client = ((ready.stands).home).client_is

  after_homes : HomesHold su.tally t.now (at who.session after parts)
  after_homes =
      subst (λ c. HomesHold (after_logged c post st).tally t.now (at who.session after parts)) same_client
      (logged_keeps st t.now parts who.session g post r (at_home who book order s t.now parts w part g ready) (subst (λ c. Logs st c post r) (sym same_client) sends)
      (is_of.epoch_is ∙ sym ((ready.stands).home).epoch_is) (is_of.txn_is ∙ sym ((ready.stands).home).attempt_is) (ready.setting).homes)

  after_stands : Stands (attempt_of w) w.changes after (with_sent g r)
  after_stands = record {
    client = (ready.stands).client;
    lock = (ready.stands).lock;
    changes_may = (ready.stands).changes_may;
    home = record {
      part_is = refl;
      client_is = ((ready.stands).home).client_is;
      epoch_is = ((ready.stands).home).epoch_is;
      attempt_is = ((ready.stands).home).attempt_is;
      lease_is = ((ready.stands).home).lease_is;
    };
  }

  -- one more record was sent
  has : HasSent (with_sent g r) (take (w.place + 1) w.records)
  has = record { sent = ap (λ rs. rs ++ r ∷ []) (a.has).sent ∙ more; needed = ap (λ rs. rs ++ r ∷ []) (a.has).needed ∙ more }
    where
      suc_is : suc w.place ≡ w.place + 1
      suc_is = omega arith

      more : take w.place w.records ++ r ∷ [] ≡ take (w.place + 1) w.records
      more = sym (take_next w.place w.records r there) ∙ ap (λ n. take n w.records) suc_is

  messages : (id : ℕ) → sent_of reply ≡ Ok id → AreMessagesOf su (attempt_of w) (w.ids ++ id ∷ [])
  messages id done x is = on (in_either w.ids (id ∷ []) x is)
    where
      new : IsMessageOf su (attempt_of w) id
      new = record {
        of = r;
        is = is_of;
        message = subst (λ ps. IsLogMessage ps id r) (sym (at_same client (st.tally.logged client ++ post ∷ []) st.tally.logged client refl)) (record {
          place = length (st.tally.logged client) + 0;
          message = post;
          id_is = let e = sent_id who (Atomic client) w.out reply s t call id done in omega (arith, e);
          there = get_behind (st.tally.logged client) (post ∷ []) 0 post refl;
          reads = reads;
        });
      }

      on : IsIn w.ids x ⊎ IsIn (id ∷ []) x → IsMessageOf su (attempt_of w) x
      on (inl old) = messages_stay st su (attempt_of w) w.ids (logged_grows st client post) a.messages x old
      on (inr last) = subst (IsMessageOf su (attempt_of w)) (get_single id last.0 x last.1) new

  pub logging_outcome : OutcomeAt (footing book order s) t (committer parts who.session w) w reply Logging
  logging_outcome = on (send_cases who (Atomic client) w.out reply s t call)
    where
      left : (u : Store) (p : Part) (h : Home) → Stands (attempt_of w) w.changes p h → Routes u t.now (attempt_of w) w.changes w.records w.home.head
          → KnowsClient u t.now (opened_client client w.home.lease w.home.head w.home.attempt) p
      left u p h stands routes = knows_home u t.now (attempt_of w) w.changes p h w.home.head stands refl (let e = routes.later in omega (arith, e)) routes.settled routes.newest routes.trees routes.of_records routes.counted

      -- the records are routed as before
      routes_after : Routes su t.now (attempt_of w) w.changes w.records w.home.head
      routes_after =
          routes_others st su t.now t.now (attempt_of w) (omega arith) (λ lasts. refl) (λ q is of. is) (ready.stands).client (logged_grows st client post) w.changes w.records
          w.home.head a.routes

      on : ((t ≡ called who t.now s) × ((id : ℕ) → sent_of reply ≡ Ok id → ⊥)) ⊎ Lands who (log_ask w) (called who t.now s) t → OutcomeAt (footing book order s) t (committer parts who.session w) w reply Logging
      on (inl p) =
          stays who book order s t parts (w.home.lease ∷ []) (log_ask w) (noted_at Logging w (log_ask w)) (KnowsNext step) p.0 (ready.setting).cloud (part_next step part)
          (next_homes st.tally t.now parts who.session part step (homes who book order s t.now parts w part g ready))
          (leads st t.now part (comes w reply) ready.stands (λ id done. absurd (p.1 id done), left st part g ready.stands a.routes))
      on (inr lands) =
          other_landed who book order s t parts (w.home.lease ∷ []) (log_ask w) (noted_at Logging w (log_ask w)) (KnowsNext step) su lands (ready.setting).cloud (landing.logs client w.out r sends) tt tt tt
          (part_next step after) (next_homes su.tally t.now parts who.session after step after_homes)
          (leads su t.now after (comes w reply) after_stands
          (λ id done. record { routes = routes_after; has = has; messages = messages id done }, left su after (with_sent g r) after_stands routes_after))
          (λ look new. refl) refl
