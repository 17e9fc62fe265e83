-- What the calls of an opening leave that touch an object or a message, whether they land or not.
use Rattle.std.proofs.Common.{◌≡◌, ◌+◌, ◌<◌, ◌≤◌, ◌⊎◌, inl, inr, ℕ, List, [], ◌∷◌, length, Some, None, Ok, refl, sym, ap, subst, ◌∙◌, arith}
use Rattle.std.specs.Prelude.{slice_get}
use Rattle.std.specs.List.{AllByRecursion}
use Rattle.std.proofs.lemmas.List.{append-nil}
use Rattle.cloud_facts.specs.Calls.Acting.{footing, actor, opened_client, IsPruned, KnowsHome, Setting, Outcome}
use Rattle.cloud_facts.specs.Words.{IsClient, Entry, AtomicRec, Head, Answer, CloudState, called, Caller, Lasts, Ask, PutHeld, Send, Delete, done_of, sent_of, Book, Store, at, IsIn, store_of, IsCall}
use Rattle.cloud_facts.specs.Calls.Looks.{audit_of}
use Rattle.cloud_facts.specs.Calls.Others.{Passes, WasSentOn}
use Rattle.cloud_facts.proofs.Calls.Calls.{put_cases, put_lasts, send_cases, delete_cases}
use Rattle.cloud_facts.proofs.Calls.OthersLemmas.{pruned_itself}
use Rattle.cloud_facts.proofs.Calls.Outcomes.{stays, other_landed, put_landed}
use Rattle.cloud_facts.proofs.Calls.Passing.{landing_passes, passes_itself}
use Rattle.cloud_trait.specs.Ask.{Lands}
use Rattle.db_base.specs.declared.names.ObjName.TheVariants as object
use Rattle.db_base.specs.declared.names.QueueName.TheVariants as queue
use Rattle.head_codec.specs.Spelling.{head_of}
use Rattle.cloud_facts.specs.Copies.Copies.{SendsInTurn}
use Rattle.cloud_facts.specs.Homes.Homes.{Home, Part, Parts, AtHome, PartHolds, HomesHold, HomeHolds, OpeningHolds, IsSpared}
use Rattle.cloud_facts.proofs.Homes.HomeLemmas.{keeps_part, opened_keeps, marked_keeps, aside_keeps, spared_read, spared_early}
use Rattle.cloud_facts.specs.Landings.Landing.{Landing, settles, posts, marks_log, sent_by}
use Rattle.cloud_facts.specs.Lefts.Left.{IsCopied}
use Rattle.cloud_facts.proofs.Lefts.MessageLemmas.{marked_deleted}
use Rattle.log_codec.specs.Pu.{pu_of}
use Rattle.session_facts.specs.Machines.Openings.Knows.{leases_of_recovery, IsWanted, IsMessageThat, KnowsGathering, KnowsSifted, KnowsLost, KnowsSending, KnowsPut, KnowsNext, opening_with}
use Rattle.session_facts.proofs.Machines.Openings.Kept.{each_in, wanted_ids}
use Rattle.session_facts.proofs.Machines.Openings.Nexts.{LeadsToPart, KnowsBehind, leads}
use Rattle.session_facts.proofs.Machines.Openings.Marks.{past_low, marks_past, lost_low, marks_lost}
use Rattle.session_facts.proofs.Machines.Openings.Others.{lease_in_hand, gathers_passes, sifted_passes, sends_pass, messages_pass, put_passes}
use Rattle.session_facts.proofs.Machines.Openings.Sifted.{deleted_sifted}
use Rattle.session_facts.proofs.Machines.Openings.Sends.{posts_record, posted_sent, sent_in_turn, settles_read}
use Rattle.recover_run.specs.declared.items.AtomicItem.{AtomicItem}
use Rattle.recover_run.specs.declared.wanted.Wanted.{Wanted}
use Rattle.recover_run.specs.Gathering.{is_lost, is_past}
use Rattle.recover_run.specs.Ids.{rest_of}
use Rattle.recover_run.proofs.Outcomes.{at as at_stage, comes}
use Rattle.recover_run.specs.declared.stage.Stage.{Stage}
use Rattle.recover_run.specs.declared.stage.Stage.TheVariants.{Deleting, Sending, Putting, Clearing}
use Rattle.recover_run.specs.Recovery.{Recovery, Step, recovery_next}
use Rattle.route_plan.specs.Record.{pu_record_of}
use Rattle.cloud_facts.specs.Book.Effects.{after_head, after_log_mark, after_posted}
use Rattle.cloud_facts.specs.Book.Messages.{IsLogMessage, IsDeleted}
use Rattle.cloud_facts.specs.Book.Premises.{MarksLog, Settles}
use Rattle.session_facts.proofs.Machines.Openings.Counted.{counted_stay, settled_counted}
use Rattle.session_facts.proofs.Machines.Openings.Entries.{settled_trees, settled_records, records_stay}
use Rattle.cloud_facts.specs.Book.Telling.{queue_of}
use Rattle.cloud_facts.proofs.Book.Names.{at_same}

module _ (who : Caller) (book : Book) (order : List Entry) (s t : CloudState) (parts : Parts) (r : Recovery) (part : Part) (reply : Answer)
    (setting : Setting (footing book order s) t.now (actor parts who.session (leases_of_recovery r))) (mine : parts who.session ≡ part) (is : IsClient r.client) where
  abbrev st : Store
  st = store_of book order s

  -- where the answer leads from a stage
  abbrev pub next : Stage → Step
  next stage = recovery_next (at_stage r stage) reply

  -- what a call of the stage leaves
  abbrev pub Leaves : Stage → Ask → Type 0
  Leaves stage ask = Outcome (footing book order s) t (actor parts who.session (leases_of_recovery r)) ask (λ a. a) (KnowsNext (next stage))

  pub after : (stage : Stage) (u : Store) (p : Part) → HomesHold u.tally t.now (at who.session p parts)
      → KnowsBehind who.session parts u t.now p stage (at_stage r stage) reply → LeadsToPart who.session parts u t.now (next stage)
  after stage u p homes k = leads who.session parts u t.now p homes is k (comes (at_stage r stage) reply)

  pub here : HomesHold st.tally t.now (at who.session part parts)
  here = keeps_part st.tally t.now parts who.session part mine setting.homes

  part_holds : PartHolds st.tally t.now part
  part_holds = subst (λ (p : Part). PartHolds st.tally t.now p) mine (setting.homes.each who.session)

  stayed : (stage : Stage) (ask : Ask) → t ≡ called who t.now s → KnowsBehind who.session parts st t.now part stage (at_stage r stage) reply → Leaves stage ask
  stayed stage ask e k =
      let l = after stage st part here k in
      stays who book order s t parts (leases_of_recovery r) ask (λ a. a) (KnowsNext (next stage)) e setting.cloud l.part l.homes l.knows

  -- ---- deletions

  module _ (id : ℕ) (call : IsCall who (Delete (queue.Atomic r.client) id) reply s t) (of : AtomicRec) (message : IsLogMessage (st.tally.logged r.client) id of)
      (marks : MarksLog st r.client id) (spared : IsSpared st.tally t.now parts r.client id) where
    abbrev marked_store : Store
    marked_store = after_log_mark r.client id st

    deletes : (stage : Stage) → ((u : Store) → Passes st u → u.tally.head ≡ st.tally.head → (done_of reply ≡ Ok tt → IsDeleted (u.tally.logged r.client) id)
        → KnowsBehind who.session parts u t.now part stage (at_stage r stage) reply) → Leaves stage (Delete (queue.Atomic r.client) id)
    deletes stage knows = on (delete_cases who (queue.Atomic r.client) id reply s t call)
      where
        landing : Landing who st (Delete (queue.Atomic r.client) id) marked_store
        landing = marks_log r.client id marks

        known : KnowsBehind who.session parts marked_store t.now part stage (at_stage r stage) reply
        known =
            knows marked_store (landing_passes who st (Delete (queue.Atomic r.client) id) marked_store setting.cloud.holds landing) refl
            (λ done. subst (λ ps. IsDeleted ps id) (sym (at_same r.client _ st.tally.logged r.client refl)) (marked_deleted (st.tally.logged r.client) id of message))

        on : ((t ≡ called who t.now s) × (done_of reply ≡ Ok tt → ⊥)) ⊎ Lands who (Delete (queue.Atomic r.client) id) (called who t.now s) t
            → Leaves stage (Delete (queue.Atomic r.client) id)
        on (inl p) = stayed stage (Delete (queue.Atomic r.client) id) p.0 (knows st (passes_itself st) refl (λ done. absurd (p.1 done)))
        on (inr lands) =
            let l = after stage marked_store part (keeps_part marked_store.tally t.now parts who.session part mine (marked_keeps st t.now parts r.client id spared setting.homes)) known in
            other_landed who book order s t parts (leases_of_recovery r) (Delete (queue.Atomic r.client) id) (λ a. a) (KnowsNext (next stage)) marked_store lands setting.cloud
            (marks_log r.client id marks) tt tt tt l.part l.homes l.knows (λ look new. refl) refl

  -- of a lost record
  pub lost_deleted : (id : ℕ) (ids : List ℕ) → r.ids ≡ id ∷ ids → IsCall who (Delete (queue.Atomic r.client) id) reply s t → KnowsGathering st r part
      → KnowsSifted st r r.ids → KnowsLost st r → Leaves Deleting (Delete (queue.Atomic r.client) id)
  lost_deleted id ids ids_are call k sifted lost =
      deletes id call that.of that.message (marks_lost st r.client r.wanted k.read.before id k.read.wanted_is holds.later that) spared Deleting
      (λ u passes heads gone. (
        gathers_passes st u r.client passes r.former r.lease r.wanted r.head r.gathered.kept part k,
        (messages_pass st u r.client passes (is_lost r.wanted) r.ids lost.0, lost.1),
        λ done. subst (λ l. KnowsSifted u r (rest_of l)) (sym ids_are)
            (deleted_sifted u r.client r.wanted id ids r.gathered (subst (KnowsSifted u r) ids_are (sifted_passes st u r.client passes r.wanted r.ids r.gathered sifted)) (gone done)),
      ))
    where
      that : IsMessageThat st r.client (is_lost r.wanted) id
      that = (subst (AllByRecursion (IsMessageThat st r.client (is_lost r.wanted))) ids_are lost.0).0

      holds : OpeningHolds st.tally t.now (opening_with r.client k.read.before k.read.held.now)
      holds = subst (λ (p : Part). PartHolds st.tally t.now p) k.read.part_is part_holds

      spared : IsSpared st.tally t.now parts r.client id
      spared =
          spared_read st.tally t.now parts who.session (opening_with r.client k.read.before k.read.held.now) id (mine ∙ k.read.part_is)
          (λ q m. let low = lost_low st r.client r.wanted id that q m in let e : r.wanted.epoch ≡ k.read.before.epoch = ap (λ (w : Wanted). w.epoch) k.read.wanted_is in omega (arith, low, e))
          setting.homes

  -- of a past record, behind the put
  pub past_deleted : (id : ℕ) (ids : List ℕ) → r.ids ≡ id ∷ ids → IsCall who (Delete (queue.Atomic r.client) id) reply s t → KnowsPut st t.now r part
      → AllByRecursion (IsMessageThat st r.client (is_past r.wanted)) r.ids → Leaves Clearing (Delete (queue.Atomic r.client) id)
  past_deleted id ids ids_are call k all =
      deletes id call that.of that.message (marks_past st r.client r.wanted id later that) spared Clearing
      (λ u passes heads gone. (
        put_passes st u t.now t.now r.client r.former r.lease r.wanted r.head part (omega arith) passes.grows (λ l e lock_is lasts. ap (λ (f : ℕ → Head). f r.client) heads) k,
        messages_pass st u r.client passes (is_past r.wanted) r.ids all,
      ))
    where
      that : IsMessageThat st r.client (is_past r.wanted) id
      that = (subst (AllByRecursion (IsMessageThat st r.client (is_past r.wanted))) ids_are all).0

      home : Home
      home = k.home.at.home

      holds : HomeHolds st.tally t.now k.home.at.home
      holds = subst (λ (p : Part). PartHolds st.tally t.now p) k.home.at.part_is part_holds

      later : r.wanted.epoch < (st.tally.head r.client).epoch
      later =
          let early : k.home.at.home.epoch ≤ (st.tally.head r.client).epoch = subst (λ c. k.home.at.home.epoch ≤ (st.tally.head c).epoch) k.home.at.client_is holds.early in
          let e = k.home.at.epoch_is in let above = k.later in omega (arith, early, e, above)

      low : (q : AtomicRec) → IsLogMessage (st.tally.logged r.client) id q → q.epoch < k.home.at.home.epoch
      low q m = let past = past_low st r.client r.wanted id that q m in let e = k.home.at.epoch_is in let above = k.later in omega (arith, past, e, above)

      spared : IsSpared st.tally t.now parts r.client id
      spared =
          subst (λ c. IsSpared st.tally t.now parts c id) k.home.at.client_is
          (spared_early st.tally t.now parts who.session k.home.at.home id (mine ∙ k.home.at.part_is) (λ q m. low q (subst (λ c. IsLogMessage (st.tally.logged c) id q) k.home.at.client_is m)) setting.homes)

  -- ---- a send

  module _ (x : AtomicItem) (there : slice_get r.gathered.kept r.sent ≡ Some x) (reads : pu_of r.out ≡ Some (pu_record_of x.rec)) (k : KnowsSending st r part r.sent) where
    abbrev send : Ask
    send = Send (queue_of x.rec.tree x.rec.page) r.out

    abbrev sent_store : Store
    sent_store = after_posted x.rec.tree x.rec.page (sent_by who r.out) st

    logged : IsIn book.log x.rec
    logged = (each_in (IsWanted st r.client r.wanted) r.gathered.kept k.read.kept_are x (r.sent, there)).logged

    opening : OpeningHolds st.tally t.now (opening_with r.client k.read.before k.read.held.now)
    opening = subst (λ (p : Part). PartHolds st.tally t.now p) k.read.part_is part_holds

    turn : SendsInTurn st x.rec
    turn =
        sent_in_turn st r.client r.former r.lease r.wanted r.head r.gathered.kept part r.sent setting.cloud.holds.leaves is k opening.later x there

    abbrev sending : Landing who st send sent_store
    sending = posts x.rec.tree x.rec.page r.out x.rec (posts_record st who x.rec r.out logged reads turn)

    sends : (u : Store) → Passes st u → ((id : ℕ) → sent_of reply ≡ Ok id → WasSentOn u.tally x.rec × IsCopied u.tally x.rec)
        → KnowsBehind who.session parts u t.now part Sending (at_stage r Sending) reply
    sends u passes done = (sends_pass st u r.client passes r.former r.lease r.wanted r.head r.gathered.kept part r.sent k, (x, there, done))

    pub record_sent : IsCall who send reply s t → Leaves Sending send
    record_sent call = on (send_cases who (queue_of x.rec.tree x.rec.page) r.out reply s t call)
      where
        on : ((t ≡ called who t.now s) × ((id : ℕ) → sent_of reply ≡ Ok id → ⊥)) ⊎ Lands who send (called who t.now s) t → Leaves Sending send
        on (inl p) = stayed Sending send p.0 (sends st (passes_itself st) (λ id done. absurd (p.1 id done)))
        on (inr lands) =
            let l =
            after Sending sent_store part (keeps_part sent_store.tally t.now parts who.session part mine (aside_keeps st.tally sent_store.tally t.now parts refl refl setting.homes))
            (sends sent_store (landing_passes who st send sent_store setting.cloud.holds sending) (λ id done. posted_sent st who x.rec r.out reads)) in
            other_landed who book order s t parts (leases_of_recovery r) send (λ a. a) (KnowsNext (next Sending)) sent_store lands setting.cloud sending tt tt tt l.part l.homes l.knows
            (λ look new. refl) refl

  -- ---- the put

  module _ (k : KnowsSending st r part (length r.gathered.kept)) (spells : head_of r.out ≡ Some r.head) where
    abbrev put : Ask
    put = PutHeld (object.Head r.client) r.out k.read.held.now None

    abbrev put_store : Store
    put_store = after_head r.client r.head [] st

    module _ (lasts : Lasts t.now k.read.held.now) where
      abbrev new : Home
      new = record { client = r.client; epoch = r.head.epoch; attempt = 0; lease = k.read.held.now; sent = []; needed = [] }

      newest : st.tally.head r.client ≡ k.read.before
      newest = opens_newest (subst (λ (p : Part). PartHolds st.tally t.now p) k.read.part_is part_holds)
        where
          opens_newest : OpeningHolds st.tally t.now (opening_with r.client k.read.before k.read.held.now) → st.tally.head r.client ≡ k.read.before
          opens_newest h = h.newest lasts

      settles_so : Settles st r.client r.head
      settles_so = settles_read st r.client r.former r.lease r.wanted r.head r.gathered.kept part setting.cloud.holds.leaves is k newest

      abbrev settling : Landing who st put put_store
      settling = settles r.client r.head r.out k.read.held.now None spells settles_so

      passes : Passes st put_store
      passes = landing_passes who st put put_store setting.cloud.holds settling

      epoch : r.head.epoch ≡ k.read.before.epoch + 1
      epoch = ap (λ (h : Head). h.epoch) k.head_is

      opened : HomesHold put_store.tally t.now (at who.session (AtHome new) parts)
      opened =
          opened_keeps st t.now parts who.session (opening_with r.client k.read.before k.read.held.now) r.head (mine ∙ k.read.part_is) lasts epoch
          (setting.alone k.read.held.now r.client (lease_in_hand r.former r.lease k.read.held.now k.read.held.is) k.read.held.lock lasts)
          (setting.cloud.holds.leaves.logged r.client is).early setting.homes

      home_at : KnowsHome put_store t.now (opened_client r.client k.read.held.now r.head 0) (AtHome new)
      home_at = record {
        is_client = is;
        lock_is = k.read.held.lock;
        within = let none : r.head.txn ≡ 0 = ap (λ (h : Head). h.txn) k.head_is in omega (arith, none);
        settled = ap (λ (h : Head). h.phase) k.head_is;
        newest = λ l. subst (λ (h : Head). IsPruned put_store.tally r.client h r.head) (sym (at_same r.client r.head st.tally.head r.client refl)) (pruned_itself put_store.tally r.client r.head);
        home = new;
        part_is = refl;
        client_is = refl;
        lease_is = refl;
        epoch_is = refl;
        begun = omega arith;
      }

      has_put : KnowsPut put_store t.now r (AtHome new)
      has_put = record {
        held = k.read.held;
        home = record {
          at = home_at;
          trees = settled_trees st r.client r.head setting.cloud.holds settles_so;
          of_records = records_stay st put_store r.client r.head.pending passes.grows (settled_records st r.client r.head settles_so setting.cloud.holds);
          counted = counted_stay st put_store r.client r.head.counters passes.grows (settled_counted st r.client r.head settles_so setting.cloud.holds.numbers);
        };
        later = let e : r.wanted.epoch ≡ k.read.before.epoch = ap (λ (w : Wanted). w.epoch) k.read.wanted_is in omega (arith, e, epoch);
      }

      head_landed : Lands who put (called who t.now s) t → Leaves Putting put
      head_landed lands =
          let l = after Putting put_store (AtHome new) opened (k.read.held, λ done. (has_put, wanted_ids put_store r.client r.wanted r.gathered.kept sent_on.read.kept_are)) in
          put_landed who book order s t parts (leases_of_recovery r) (λ a. a) (KnowsNext (next Putting)) (object.Head r.client) r.out k.read.held.now None put_store lands setting.cloud settling tt tt tt l.part l.homes l.knows (ap (λ log. audit_of (record book { log = log }) order) (sym (append-nil book.log)))
        where
          sent_on : KnowsSending put_store r part (length r.gathered.kept)
          sent_on = sends_pass st put_store r.client passes r.former r.lease r.wanted r.head r.gathered.kept part (length r.gathered.kept) k

    pub head_put : IsCall who put reply s t → Leaves Putting put
    head_put call = on (put_cases who (object.Head r.client) r.out k.read.held.now None reply s t call)
      where
        on : ((t ≡ called who t.now s) × (done_of reply ≡ Ok tt → ⊥)) ⊎ Lands who put (called who t.now s) t → Leaves Putting put
        on (inl p) = stayed Putting put p.0 (k.read.held, λ done. absurd (p.1 done))
        on (inr lands) = head_landed (put_lasts who (object.Head r.client) r.out k.read.held.now None (called who t.now s) t lands) lands
