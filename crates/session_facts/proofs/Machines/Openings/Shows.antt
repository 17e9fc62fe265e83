-- What a call of an opening or a recovery shows of the trouble that it meets, and that a trouble which waits is its answer.
use Rattle.std.proofs.Common.{◌≡◌, ◌≢◌, ◌-◌, ◌^◌, ◌<◌, ◌≤◌, ◌==◌, ◌⊎◌, inl, inr, ℕ, true, false, List, [], ◌∷◌, length, Option, Some, None, Result, Ok, Err, refl, sym, ap, subst, ◌∙◌, arith}
use Rattle.std.specs.Prelude.{slice_get, nat_le}
use Rattle.std.specs.Option.{option_and_then}
use Rattle.std.specs.List.{AllByRecursion}
use Rattle.std.proofs.lemmas.Bool.{cases_lt, and_from, eq-eqb}
use Rattle.std.proofs.lemmas.Bool.Decides.{nat_tests}
use Rattle.cloud_facts.specs.Words.{IsClient, Trouble, QueueName, Entry, AtomicRec, Head, Answer, Version, CloudState, called, newest, Caller, Seen, Claim, Lasts, Ask, GetHeld, PutHeld, Receive, Goes, Ends, Stops, done_of, received_of, sent_of, Book, Store, IsIn, store_of, StandsUnder}
use Rattle.cloud_facts.specs.Book.Messages.{IsDeleted}
use Rattle.cloud_facts.specs.Homes.Homes.{Part, PartHolds, OpeningHolds}
use Rattle.cloud_trait.specs.declared.answer.Answer.TheVariants.{Got, Received}
use Rattle.cloud_trait.specs.declared.message.Message.{Message}
use Rattle.cloud_trait.specs.Delivery.{IsDelivering}
use Rattle.cloud_trait.specs.State.{Counts}
use Rattle.cloud_trait.specs.Weather.{counted, Makes, Rose, Weather}
use Rattle.db_base.specs.declared.names.Lock.TheVariants as lock
use Rattle.db_base.specs.declared.names.ObjName.TheVariants as object
use Rattle.db_base.specs.declared.names.QueueName.TheVariants as queue
use Rattle.db_base.specs.declared.trouble.Counter.{Counter}
use Rattle.db_base.specs.declared.trouble.Counter.TheVariants as counter
use Rattle.db_base.specs.declared.trouble.Trouble.TheVariants as trouble
use Rattle.head_codec.specs.Spelling.{head_of}
use Rattle.route_plan.specs.Queue.{queue_name}
use Rattle.session_facts.specs.Machines.Openings.Knows.{leases_of_recovery, IsWanted, HasSifted, HasLease, opening_with, MayEnd, KnowsGathering, KnowsSifted, KnowsOpeningAt, KnowsOpening}
use Rattle.session_facts.specs.Sessions.Spent.{HasLastEpoch}
use Rattle.session_facts.specs.Sessions.Explains.{trouble_at, trouble_of_ending, trouble_of_recovery, MeetsNext, IsShown}
use Rattle.session_facts.proofs.Machines.Openings.Complete.{none_missing}
use Rattle.session_facts.proofs.Machines.Openings.Messages.{sent_message}
use Rattle.session_facts.proofs.Machines.Openings.Others.{lease_in_hand}
use Rattle.session_facts.proofs.Machines.Openings.Sifted.{none_some}
use Rattle.session_facts.proofs.Machines.Openings.Unmarked.{deleted_gone}
use Rattle.session_facts.proofs.Sessions.Shows.{held_newest, row_of, got_shown, put_shown, delete_shown, received_shown, sent_shown, given_shown}
use Rattle.recover_run.specs.declared.items.AtomicItem.{AtomicItem}
use Rattle.recover_run.specs.declared.stage.RecoverAnswer.{RecoverAnswer}
use Rattle.recover_run.specs.declared.stage.Stage.{Stage}
use Rattle.recover_run.specs.declared.stage.Stage.TheVariants.{Taking, Getting, Receiving, Putting, Releasing}
use Rattle.recover_run.specs.declared.wanted.Wanted.{Wanted}
use Rattle.recover_run.specs.Calls.{Calls, HoldsItem, Brought}
use Rattle.recover_run.specs.Gathering.{Gathered, gathered_with, is_of, is_counted, is_lost, kept_with}
use Rattle.recover_run.specs.Ids.{has_id, new_ids}
use Rattle.recover_run.specs.Items.{items_of, ids_of}
use Rattle.recover_run.specs.Meaning.{IsKeptRecord}
use Rattle.recover_run.specs.Missing.{IsComplete}
use Rattle.recover_run.specs.Recovery.{Recovery, Step, recovery_ask, recovery_next, under, delete_next, send_next, SendsRecord, IsSoundAt, IsSound}
use Rattle.recover_run.proofs.Outcomes.{at, Loses, Fails, Comes, comes_to}
use Rattle.recover_run.proofs.Outcomes as step
use Rattle.std.proofs.lemmas.Option.{none-some, same_Some}
use Rattle.recover_run.proofs.Turns.{AtWork, Turns, turns}
use Rattle.recover_run.proofs.Turns as turn
use Rattle.recover_run.proofs.KeptRecords.{all_so}
use Rattle.recover_run.proofs.Sifting.{HasSeen, IsLostAt, seen_whole}
use Rattle.recover_run.proofs.Sweeping.{IsHandled, each_has}
use Rattle.session_facts.proofs.Machines.Commits.Records.{one_record}

-- ---- what was received, as a recovery with which nobody else acts knows it

module _ (st : Store) (client : ℕ) (w : Wanted) where
  seen_so : (g : Gathered) → HasSifted st client w [] g → HasSeen w (st.tally.logged client) [] g
  seen_so g h = record {
    handled = all_so (λ id. has_id g.lost id ≡ true) (IsHandled (st.tally.logged client) []) (λ id has. gone id (h.deleted id has)) g.lost (each_has g.lost);
    seen = all_so (λ id. has_id g.seen id ≡ true) (λ id. IsLostAt w (st.tally.logged client) id → has_id g.lost id ≡ true) noted g.seen (each_has g.seen);
    named = tt;
  }
    where
      gone : (id : ℕ) → (has_id [] id ≡ true) ⊎ IsDeleted (st.tally.logged client) id → IsHandled (st.tally.logged client) [] id
      gone id (inl none) = absurd (cc)
      gone id (inr deleted) = inr (deleted_gone (st.tally.logged client) id deleted)

      noted : (id : ℕ) → has_id g.seen id ≡ true → IsLostAt w (st.tally.logged client) id → has_id g.lost id ≡ true
      noted id has lost =
          let s = h.seen id has in
          let m = sent_message (st.tally.logged client) (record { id = id; bytes = lost.1 }) lost.0 lost.2 lost.3 in
          let same = one_record (st.tally.logged client) id lost.0 s.of m s.message in
          s.noted (subst (λ (r : AtomicRec). is_lost w r ≡ true) same lost.4)

  -- the kept records, as one receive may bring them
  messages_from : (kept : List AtomicItem) → AllByRecursion (IsWanted st client w) kept → List Message
  messages_from [] all = []
  messages_from (x ∷ kept) all = record { id = x.id; bytes = all.0.message.message.bytes } ∷ messages_from kept all.1

  held_from : (kept : List AtomicItem) → (all : AllByRecursion (IsWanted st client w) kept) → AllByRecursion (λ (x : AtomicItem). HoldsItem x (messages_from kept all)) kept
  unfolding messages_from
  held_from [] all = tt
  held_from (x ∷ kept) all =
      let rest = held_from kept all.1 in (
        inl (refl, all.0.message.reads),
        all_so (λ (y : AtomicItem). HoldsItem y (messages_from kept all.1)) (λ (y : AtomicItem). HoldsItem y (messages_from (x ∷ kept) all)) (λ y h. inr h) kept rest,
      )

  wanted_counts : (r : AtomicItem) → IsWanted st client w r → is_counted w r.rec ≡ true
  wanted_counts x k =
      and_from (is_of w x.rec) (nat_le x.rec.index w.count)
      (and_from (x.rec.epoch == w.epoch) (x.rec.txn == w.txn) (eq-eqb x.rec.epoch w.epoch k.epoch_is) (eq-eqb x.rec.txn w.txn k.txn_is)) (le_true x.rec.index w.count k.within)
    where
      le_true : (a b : ℕ) → a ≤ b → nat_le a b ≡ true
      le_true a b e = grind (arith, nat_tests)

  abbrev calls_from : Ask → (kept : List AtomicItem) → AllByRecursion (IsWanted st client w) kept → Calls
  calls_from ask kept all = (ask, Received (messages_from kept all)) ∷ []

  kept_so : (ask : Ask) (kept : List AtomicItem) → (all : AllByRecursion (IsWanted st client w) kept) → AllByRecursion (IsKeptRecord w (calls_from ask kept all)) kept
  kept_so ask kept all =
      both kept all
      (all_so (λ (x : AtomicItem). HoldsItem x (messages_from kept all)) (λ (x : AtomicItem). Brought x (calls_from ask kept all)) (λ x h. inl (messages_from kept all, refl, h)) kept
      (held_from kept all))
    where
      both : (xs : List AtomicItem) → AllByRecursion (IsWanted st client w) xs → AllByRecursion (λ (x : AtomicItem). Brought x (calls_from ask kept all)) xs
          → AllByRecursion (IsKeptRecord w (calls_from ask kept all)) xs
      both [] wanted brought = tt
      both (x ∷ xs) wanted brought = ((wanted_counts x wanted.0, brought.0), both xs wanted.1 brought.1)

-- what a receive answered it delivered, or the count of what was withheld rose
received_row : (who : Caller) (q : QueueName) (a : Answer) (c d : Counts) (b t : CloudState) → Weather who (Receive q 256) a (counted c b) (counted d t) → (ms : List Message) → received_of a ≡ Ok ms
    → IsDelivering (b.messages q) 256 ms ⊎ Rose c.withheld d.withheld
received_row who q (Received ns) c d b t row ms e = let same : ns ≡ ms = cc in subst (λ (l : List Message). IsDelivering (b.messages q) 256 l ⊎ Rose c.withheld d.withheld) same row.2
received_row who q a c d b t row ms e = absurd (cc)

-- a newest head in the last epoch has landed
held_last : (client : ℕ) (h : Head) (t : CloudState) {bytes : List ℕ} → newest t (object.Head client) ≡ Some bytes → head_of bytes ≡ Some h → h.epoch ≡ 2 ^ 64 - 1 → HasLastEpoch t
held_last client h t {bytes} is reads last = on (t.versions (object.Head client)) (slice_get (t.versions (object.Head client)) (length (t.versions (object.Head client)) - 1)) refl refl is
  where
    on : (vs : List Version) (o : Option Version) → vs ≡ t.versions (object.Head client) → slice_get vs (length vs - 1) ≡ o → option_and_then (λ (v : Version). v.bytes) o ≡ Some bytes → HasLastEpoch t
    on vs (Some v) all at e =
        record { client = client; version = v; head = h; landed = subst (λ (xs : List Version). IsIn xs v) all (length vs - 1, at); reads = ap (option_and_then head_of) e ∙ reads; last = last }
    on vs None all at e = absurd (cc (e))

-- ---- one step

module _ (who : Caller) (before after : Seen) (s t : CloudState) (book : Book) (order : List Entry) (told : before.state ≡ Some s) (told_after : after.state ≡ Some t)
    (cloud : StandsUnder book order s) (part : Part) (holds : PartHolds (store_of book order s).tally t.now part) (Spent : CloudState → Counter → Type 0)
    (own : HasLastEpoch t → Spent t counter.Epoch) where
  abbrev st : Store
  st = store_of book order s

  -- where the call was made and had this answer, it shows the trouble
  abbrev By : List Claim → Ask → Answer → Trouble → Type 0
  By held ask a k = Makes who ask a before after → IsShown ask held Spent (before.counts, s) (after.counts, t) k

  abbrev Shown : Recovery → Answer → Trouble → Type 0
  Shown r a k = By (leases_of_recovery r) (recovery_ask r) a k

  under_lease : (r : Recovery) (make : Claim → Ask) (a : Answer) (k : Trouble) → (has : HasLease r.client r.former r.lease) → By (leases_of_recovery r) (make has.now) a k
      → By (leases_of_recovery r) (under r r.lease make) a k
  under_lease r make a k has by = subst (λ (o : Option Claim). By (leases_of_recovery r) (under r o make) a k) (sym has.is) by

  delete_missed : (r : Recovery) (ids : List ℕ) (a : Answer) (k : Trouble) → 1 ≤ length ids → done_of a ≡ Err k → By (leases_of_recovery r) (delete_next r ids) a k
  delete_missed r [] a k some e = absurd (omega (arith, some))
  delete_missed r (id ∷ ids) a k some e = λ made. delete_shown who before after s t told told_after (leases_of_recovery r) Spent (queue.Atomic r.client) id a made k e

  send_missed : (r : Recovery) (o : Option AtomicItem) (a : Answer) (k : Trouble) → SendsRecord r o → sent_of a ≡ Err k → By (leases_of_recovery r) (send_next r o) a k
  send_missed r None a k never e = absurd never
  send_missed r (Some x) a k reads e = λ made. sent_shown who before after s t told told_after (leases_of_recovery r) Spent (queue_name x.rec.tree x.rec.page) r.out a made k e

  receive_missed : (r : Recovery) (a : Answer) (k : Trouble) → received_of a ≡ Err k → By (leases_of_recovery r) (Receive (queue.Atomic r.client) 256) a k
  receive_missed r a k e = λ made. received_shown who before after s t told told_after (leases_of_recovery r) Spent (queue.Atomic r.client) 256 a made k e

  -- the head that is got under the lease is the newest, and has landed
  head_last : (r : Recovery) (l : Claim) (bytes : List ℕ) (h : Head) → head_of bytes ≡ Some h → h.epoch ≡ 2 ^ 64 - 1
      → By (leases_of_recovery r) (GetHeld (object.Head r.client) l) (Got (Some bytes)) (trouble.Exhausted counter.Epoch)
  head_last r l bytes h reads last made =
      own (held_last r.client h t (held_newest who (object.Head r.client) l (Got (Some bytes)) before.counts after.counts (called who t.now s) t
      (row_of who before after s t told told_after (leases_of_recovery r) Spent (GetHeld (object.Head r.client) l) (Got (Some bytes)) made) (Some bytes) refl) reads last)

  -- ---- records that are not received

  abbrev receive : Recovery → Ask
  receive r = Receive (queue.Atomic r.client) 256

  module _ (r : Recovery) (is : IsClient r.client) (g : KnowsGathering st r part) (sifted : KnowsSifted st r []) (ms : List Message) (items : List AtomicItem) (read : items_of ms ≡ Ok items) where
    -- while the lease lasts, a receive that delivers and brings nothing new leaves no record out
    whole : Lasts t.now g.read.held.now → IsDelivering (st.tally.logged r.client) 256 ms → new_ids r.gathered.seen (ids_of items) ≡ []
        → length (kept_with r.wanted r.gathered.kept items) ≡ r.wanted.count
    whole lasts delivers none =
        seen_whole r.wanted (st.tally.logged r.client) r.gathered ms items (calls_from st r.client r.wanted (receive r) r.gathered.kept g.read.kept_are) (receive r) read delivers complete
        (seen_so st r.client r.wanted r.gathered sifted) (kept_so st r.client r.wanted (receive r) r.gathered.kept g.read.kept_are) g.read.rising none
      where
        newest_of : OpeningHolds st.tally t.now (opening_with r.client g.read.before g.read.held.now) → st.tally.head r.client ≡ g.read.before
        newest_of o = o.newest lasts

        newest : st.tally.head r.client ≡ g.read.before
        newest = newest_of (subst (λ (p : Part). PartHolds st.tally t.now p) g.read.part_is holds)

        complete : IsComplete r.wanted (st.tally.logged r.client)
        complete =
            subst (λ (w : Wanted). IsComplete w (st.tally.logged r.client)) (sym g.read.wanted_is)
            (none_missing st r.client g.read.before cloud.holds.leaves is newest)

    waiting_shown : length (kept_with r.wanted r.gathered.kept items) ≢ r.wanted.count → (gathered_with r.wanted r.gathered items).fresh ≡ false
        → By (leases_of_recovery r) (receive r) (Received ms) (trouble.Waiting (length (kept_with r.wanted r.gathered.kept items)) r.wanted.count)
    waiting_shown fewer stale made =
        on (cases_lt t.now g.read.held.now.end) (received_row who (queue.Atomic r.client) (Received ms) before.counts after.counts (called who t.now s) t
        (row_of who before after s t told told_after (leases_of_recovery r) Spent (receive r) (Received ms) made) ms refl)
      where
        on : (t.now < g.read.held.now.end) ⊎ (g.read.held.now.end ≤ t.now) → IsDelivering (st.tally.logged r.client) 256 ms ⊎ Rose before.counts.withheld after.counts.withheld
            → IsShown (receive r) (leases_of_recovery r) Spent (before.counts, s) (after.counts, t) (trouble.Waiting (length (kept_with r.wanted r.gathered.kept items)) r.wanted.count)
        on (inl lasts) (inl delivers) = absurd (fewer (whole lasts delivers (none_some _ stale)))
        on (inl lasts) (inr rose) = inl rose
        on (inr over) delivered = inr (g.read.held.now, lease_in_hand r.former r.lease g.read.held.now g.read.held.is, over)

  waits_shown : {r q : Recovery} {a : Answer} {ids : List ℕ} → Loses r a q ids → IsClient r.client → KnowsOpeningAt r.stage st t.now r part → length q.gathered.kept ≢ q.wanted.count
      → q.gathered.fresh ≡ false → Shown r a (trouble.Waiting (length q.gathered.kept) q.wanted.count)
  waits_shown (step.received r ms items read) is c fewer stale = waiting_shown (at r Receiving) is c.0 c.1 ms items read fewer stale
  waits_shown (step.one_gone r) is c fewer stale = absurd (let clash : true ≡ false = sym c.2.1 ∙ stale in cc (clash))

  -- ---- the whole

  fails_shown : {r q : Recovery} {a : Answer} {k : Trouble} → Fails r a q k → IsClient r.client → KnowsOpeningAt r.stage st t.now r part → IsSoundAt r.stage r → Shown r a k
  fails_shown (step.no_head r a k e) is c sound =
      under_lease (at r Getting) (λ l. GetHeld (object.Head r.client) l) a k c.0
      (λ made. got_shown who before after s t told told_after (leases_of_recovery r) Spent (object.Head r.client) c.0.now a made k e)
  fails_shown (step.no_messages r a k e) is c sound = receive_missed r a k e
  fails_shown (step.not_deleted r a k e) is c sound = delete_missed r r.ids a k sound.1 e
  fails_shown (step.not_sent r a k e) is c sound = send_missed r (slice_get r.gathered.kept r.sent) a k sound.1 e
  fails_shown (step.not_put r a k e) is c sound =
      let held = c.read.held in
      under_lease (at r Putting) (λ l. PutHeld (object.Head r.client) r.out l None) a k held
      (λ made. put_shown who before after s t told told_after (leases_of_recovery r) Spent (object.Head r.client) r.out held.now None a made k e)
  fails_shown (step.not_swept r a k e) is c sound = receive_missed r a k e
  fails_shown (step.last_epoch r bytes h reads last) is c sound =
      under_lease (at r Getting) (λ l. GetHeld (object.Head r.client) l) (Got (Some bytes)) (trouble.Exhausted counter.Epoch) c.0 (head_last r c.0.now bytes h reads last)
  fails_shown (step.waits q loses fewer stale) is c sound = waits_shown loses is c fewer stale
  fails_shown f is c sound = λ made. tt

  -- where no trouble waits, the call shows the one that the step keeps or stops with
  step_shown : {r : Recovery} {a : Answer} {next : Step} → Comes r a next → IsClient r.client → KnowsOpeningAt r.stage st t.now r part → IsSoundAt r.stage r → trouble_of_recovery r ≡ None
      → (k : Trouble) → MeetsNext trouble_of_recovery next k → Shown r a k
  step_shown (step.refused r a j e) is c sound none k meets =
      subst (λ (q : Trouble). Shown (at r Taking) a q) meets
      (λ made. given_shown who before after s t told told_after (leases_of_recovery r) Spent (lock.Client r.client) 600 a made j e)
  step_shown {r = r} {a = a} (step.stops q j f) is c sound none k meets = subst (λ (q : Trouble). Shown r a q) (same_Some j k meets) (fails_shown f is c sound)
  step_shown (step.opens r ms items read past aims) is c sound none k meets = absurd meets
  step_shown (step.ends r a answer e) is c sound none k meets = absurd meets
  step_shown (step.stopped r a j e) is c sound none k meets = absurd (none-some j (sym none ∙ ap trouble_of_ending e))
  step_shown (step.astray r a e) is c sound none k meets = absurd (subst MayEnd e c.2)
  step_shown (step.nothing r a) is c sound none k meets = absurd c
  step_shown outcome is c sound none k meets = absurd (none-some k meets)

module _ (who : Caller) (before after : Seen) (s t : CloudState) (book : Book) (order : List Entry) (told : before.state ≡ Some s) (told_after : after.state ≡ Some t)
    (cloud : StandsUnder book order s) (r : Recovery) (part : Part) (holds : PartHolds (store_of book order s).tally t.now part) (reply : Answer)
    (made : Makes who (recovery_ask r) reply before after) (knows : KnowsOpening (store_of book order s) t.now r part) (sound : IsSound r)
    (Spent : CloudState → Counter → Type 0) (own : HasLastEpoch t → Spent t counter.Epoch) where
  pub recovery_shows : trouble_of_recovery r ≡ None → (next : Step) → recovery_next r reply ≡ next → (k : Trouble) → MeetsNext trouble_of_recovery next k
      → IsShown (recovery_ask r) (leases_of_recovery r) Spent (before.counts, s) (after.counts, t) k
  recovery_shows none next e k meets =
      step_shown who before after s t book order told told_after cloud part holds Spent own (comes_to r reply next e) knows.client knows.at sound none k meets made

-- ---- a trouble that waits

-- a step stops with it
abbrev pub StopsWith : Step → Trouble → Type 0
StopsWith (Goes n) k = ⊥
StopsWith (Ends n a) k = ⊥
StopsWith (Stops n q) k = q ≡ k

none_waits : (stage : Stage) (ending : Option (Result RecoverAnswer Trouble)) (k : Trouble) → AtWork stage → trouble_at stage ending ≡ Some k → ⊥
none_waits Releasing ending k work e = absurd work
none_waits stage ending k work e = none-some k e

answers : {r : Recovery} {a : Answer} {next : Step} → Turns r a next → (k : Trouble) → trouble_of_recovery r ≡ Some k → StopsWith next k
answers {r = r} (turn.works n w goes) k waits = none_waits r.stage r.ending k w.at_work waits
answers {r = r} (turn.halts q ending w may) k waits = none_waits r.stage r.ending k w.at_work waits
answers {r = r} (turn.opens q epoch w is) k waits = none_waits r.stage r.ending k w.at_work waits
answers (turn.ends r a answer e) k waits = none-some k (sym (ap trouble_of_ending e) ∙ waits)
answers (turn.stopped r a t e) k waits = same_Some t k (sym (ap trouble_of_ending e) ∙ waits)
answers (turn.astray r a e) k waits = absurd (none-some k (sym (ap trouble_of_ending e) ∙ waits))
answers c k waits = absurd (none-some k waits)

pub recovery_answers : (r : Recovery) (reply : Answer) (k : Trouble) → trouble_of_recovery r ≡ Some k → StopsWith (recovery_next r reply) k
recovery_answers r reply k waits = answers (turns r reply) k waits
