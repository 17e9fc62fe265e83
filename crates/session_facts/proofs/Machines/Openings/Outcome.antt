-- What a call of an opening leaves, whatever it was answered and whether it landed or not.
use Rattle.std.proofs.Common.{◌≡◌, ◌≤◌, ℕ, List, [], ◌∷◌, length, Option, Some, None, Ok, refl, sym, ap, subst, ◌∙◌, arith}
use Rattle.std.specs.Prelude.{slice_get, All}
use Rattle.std.specs.List.{AllByRecursion}
use Rattle.std.proofs.lemmas.List.Elements.{recursion_from_All}
use Rattle.cloud_facts.specs.Calls.Acting.{footing, actor, Setting, Outcome}
use Rattle.cloud_facts.specs.Words.{IsClient, ObjName, QueueName, Lock, Entry, Answer, CloudState, newest, Caller, Claim, Lasts, Ask, GetHeld, PutHeld, Send, Receive, Delete, Take, Release, got_of, given_of, received_of, Book, Store, store_of, IsCall}
use Rattle.cloud_facts.proofs.Calls.Heads.{head_at, newest_head, held_seen}
use Rattle.cloud_facts.proofs.Calls.Outcomes.{quiet}
use Rattle.cloud_trait.specs.declared.answer.Answer.TheVariants.{Got, Received, Given}
use Rattle.cloud_trait.specs.declared.message.Message.{Message}
use Rattle.cloud_trait.specs.Ask.{PutsNothing, TouchesNoMessage}
use Rattle.cloud_trait.specs.Delivery.{WasSent}
use Rattle.cloud_trait.specs.Weather.{Fits}
use Rattle.db_base.specs.declared.names.Lock.TheVariants as lock
use Rattle.db_base.specs.declared.names.ObjName.TheVariants as object
use Rattle.db_base.specs.declared.names.QueueName.TheVariants as queue
use Rattle.cloud_facts.specs.Homes.Homes.{Part, Parts, Away, IsAlone}
use Rattle.session_facts.specs.Machines.Openings.Knows.{leases_of_recovery, HasFormer, HasLease, HasReadNothing, IsMessageThat, KnowsGathering, KnowsSifted, KnowsLost, KnowsSending, KnowsPut, KnowsOpeningAt, KnowsOpening, KnowsNext}
use Rattle.session_facts.proofs.Machines.Openings.Landings.{Leaves, after, here, lost_deleted, past_deleted, record_sent, head_put}
use Rattle.session_facts.proofs.Machines.Openings.Nexts.{KnowsBehind}
use Rattle.session_facts.proofs.Machines.Openings.Others.{lease_in_hand}
use Rattle.session_facts.proofs.Machines.Openings.Refusals.{ReadsHead, AllRead, newest_reads, all_read}
use Rattle.recover_run.specs.declared.items.AtomicItem.{AtomicItem}
use Rattle.recover_run.specs.declared.stage.Stage.{Stage}
use Rattle.recover_run.specs.declared.stage.Stage.TheVariants.{ReleasingOld, Taking, Getting, Receiving, Deleting, Sending, Putting, Clearing, Sweeping, Releasing, Finished}
use Rattle.recover_run.specs.Gathering.{is_past}
use Rattle.recover_run.specs.Recovery.{Recovery, recovery_ask, ask_at, under, delete_next, send_next, recovery_next, SendsRecord, IsSoundAt, IsSound}
use Rattle.session_facts.proofs.Machines.Commits.Settled.{queue_is}

-- ---- what an answer shows

-- a lease that was given is of the lock that was asked for
given_lock : (k : Lock) (a : Answer) → Fits (Take k 600) a → (l : Claim) → given_of k a ≡ Ok l → l.lock ≡ k
given_lock k (Given m) fits l same = let one : m ≡ l = cc in subst (λ (x : Claim). x.lock ≡ k) one fits
given_lock k a fits l same = absurd (cc)

-- a held get that was answered found its lease lasting
held_lasts : (who : Caller) (name : ObjName) (l : Claim) (a : Answer) (s t : CloudState) → IsCall who (GetHeld name l) a s t → (v : Option (List ℕ)) → got_of a ≡ Ok v → Lasts t.now l
held_lasts who name l (Got w) s t call v e = call.row.1
held_lasts who name l a s t call v e = absurd (cc)

-- what was received was sent
received_sent : (who : Caller) (q : QueueName) (a : Answer) (s t : CloudState) → IsCall who (Receive q 256) a s t → (ms : List Message) → received_of a ≡ Ok ms
    → AllByRecursion (WasSent (s.messages q)) ms
received_sent who q (Received ns) s t call ms got =
    let same : ns ≡ ms = cc in recursion_from_All (WasSent (s.messages q)) ms (subst (All (WasSent (s.messages q))) same call.row.1)
received_sent who q a s t call ms got = absurd (cc)

-- ---- by the stage

module _ (who : Caller) (book : Book) (order : List Entry) (s t : CloudState) (parts : Parts) (r : Recovery) (part : Part) (reply : Answer)
    (setting : Setting (footing book order s) t.now (actor parts who.session (leases_of_recovery r))) (mine : parts who.session ≡ part) (is : IsClient r.client) (call : IsCall who (recovery_ask r) reply s t)
    (fits : Fits (recovery_ask r) reply) where
  abbrev st : Store
  st = store_of book order s

  abbrev Out : Type 0
  Out = Outcome (footing book order s) t (actor parts who.session (leases_of_recovery r)) (recovery_ask r) (λ a. a) (KnowsNext (recovery_next r reply))

  abbrev Stay : Stage → Ask → Type 0
  Stay stage ask = Leaves who book order s t parts r part reply setting mine is stage ask

  asks : (stage : Stage) → r.stage ≡ stage → recovery_ask r ≡ ask_at stage r
  asks stage e = ap (λ (g : Stage). ask_at g r) e

  under_lease : (stage : Stage) → r.stage ≡ stage → (lease : Option Claim) (l : Claim) (make : Claim → Ask) → ask_at stage r ≡ under r lease make → lease ≡ Some l → recovery_ask r ≡ make l
  under_lease stage e lease l make is_under held = asks stage e ∙ (is_under ∙ ap (λ (o : Option Claim). under r o make) held)

  call_at : (ask : Ask) → recovery_ask r ≡ ask → IsCall who ask reply s t
  call_at ask e = subst (λ (a : Ask). IsCall who a reply s t) e call

  -- what its call leaves, by the call and the step of its stage
  out_at : (stage : Stage) → r.stage ≡ stage → (ask : Ask) → recovery_ask r ≡ ask → Stay stage ask → Out
  out_at stage e ask asked o = subst (λ (a : Ask). Stay r.stage a) (sym asked) (subst (λ (g : Stage). Stay g ask) (sym e) o)

  quiet_at : (stage : Stage) → r.stage ≡ stage → (ask : Ask) → recovery_ask r ≡ ask → PutsNothing ask → TouchesNoMessage ask
      → KnowsBehind who.session parts st t.now part stage (record r { stage = stage }) reply → Out
  quiet_at stage e ask asked puts touches k =
      let l = after who book order s t parts r part reply setting mine is stage st part (here who book order s t parts r part reply setting mine is) k in
      out_at stage e ask asked
      (quiet who book order s t parts (leases_of_recovery r) ask (λ a. a) (KnowsNext (recovery_next (record r { stage = stage }) reply)) reply (call_at ask asked) puts touches setting.cloud l.part l.homes l.knows)

  -- ---- without a part

  at_old : r.stage ≡ ReleasingOld → HasFormer r.former r.lease → HasReadNothing r part → Out
  at_old e f nothing = quiet_at ReleasingOld e (Release f.old) (under_lease ReleasingOld e r.former f.old Release refl f.is) tt tt (f, nothing)

  at_taking : r.stage ≡ Taking → r.former ≡ None → HasReadNothing r part → Out
  at_taking e none nothing =
      quiet_at Taking e (Take (lock.Client r.client) 600) (asks Taking e) tt tt
      (none, nothing, given_lock (lock.Client r.client) reply (subst (λ (a : Ask). Fits a reply) (asks Taking e) fits))

  at_getting : r.stage ≡ Getting → HasLease r.client r.former r.lease → HasReadNothing r part → Out
  at_getting e held nothing = quiet_at Getting e get asked tt tt (held, nothing, setting.cloud.holds.leaves, setting.homes, seen)
    where
      get : Ask
      get = GetHeld (object.Head r.client) held.now

      asked : recovery_ask r ≡ get
      asked = under_lease Getting e r.lease held.now (λ l. GetHeld (object.Head r.client) l) refl held.is

      newest_is : (v : Option (List ℕ)) → got_of reply ≡ Ok v → v ≡ newest s (object.Head r.client)
      newest_is v got = held_seen who (object.Head r.client) held.now reply s t (call_at get asked) v got

      seen : (v : Option (List ℕ)) → got_of reply ≡ Ok v → (st.tally.head r.client ≡ head_at v) × IsAlone t.now parts who.session r.client × ReadsHead v
      seen v got = (
        newest_head (s.versions (object.Head r.client)) ∙ ap head_at (sym (newest_is v got)),
        setting.alone held.now r.client (lease_in_hand r.former r.lease held.now held.is) held.lock (held_lasts who (object.Head r.client) held.now reply s t (call_at get asked) v got),
        newest_reads s r.client v setting.cloud.decodes (sym (newest_is v got)),
      )

  at_releasing : r.stage ≡ Releasing → HasLease r.client r.former r.lease → part ≡ Away → Out
  at_releasing e held away = quiet_at Releasing e (Release held.now) (under_lease Releasing e r.lease held.now Release refl held.is) tt tt away

  -- ---- receives

  sent_there : (stage : Stage) → r.stage ≡ stage → ask_at stage r ≡ Receive (queue.Atomic r.client) 256 → (ms : List Message) → received_of reply ≡ Ok ms
      → AllByRecursion (WasSent (st.tally.logged r.client)) ms × AllRead ms
  sent_there stage e receives ms got =
      let was = received_sent who (queue.Atomic r.client) reply s t (call_at (Receive (queue.Atomic r.client) 256) (asks stage e ∙ receives)) ms got in
      (was, all_read s r.client setting.cloud.decodes ms was)

  at_receiving : r.stage ≡ Receiving → KnowsGathering st r part → KnowsSifted st r [] → Out
  at_receiving e k sifted =
      quiet_at Receiving e (Receive (queue.Atomic r.client) 256) (asks Receiving e) tt tt (k, sifted, setting.cloud.holds.leaves.logged r.client is, sent_there Receiving e refl)

  at_sweeping : r.stage ≡ Sweeping → KnowsPut st t.now r part → Out
  at_sweeping e k = quiet_at Sweeping e (Receive (queue.Atomic r.client) 256) (asks Sweeping e) tt tt (k, sent_there Sweeping e refl)

  -- ---- deletions

  at_deleting : r.stage ≡ Deleting → KnowsGathering st r part → KnowsSifted st r r.ids → KnowsLost st r → 1 ≤ length r.ids → Out
  at_deleting e k sifted lost some = on r.ids refl
    where
      on : (ids : List ℕ) → r.ids ≡ ids → Out
      on [] ids_are = let none : length r.ids ≡ 0 = ap (λ (ids : List ℕ). length ids) ids_are in absurd (omega (arith, some, none))
      on (id ∷ ids) ids_are =
          let asked : recovery_ask r ≡ Delete (queue.Atomic r.client) id = asks Deleting e ∙ ap (delete_next r) ids_are in
          out_at Deleting e (Delete (queue.Atomic r.client) id) asked
          (lost_deleted who book order s t parts r part reply setting mine is id ids ids_are (call_at (Delete (queue.Atomic r.client) id) asked) k sifted lost)

  at_clearing : r.stage ≡ Clearing → KnowsPut st t.now r part → AllByRecursion (IsMessageThat st r.client (is_past r.wanted)) r.ids → 1 ≤ length r.ids → Out
  at_clearing e k all some = on r.ids refl
    where
      on : (ids : List ℕ) → r.ids ≡ ids → Out
      on [] ids_are = let none : length r.ids ≡ 0 = ap (λ (ids : List ℕ). length ids) ids_are in absurd (omega (arith, some, none))
      on (id ∷ ids) ids_are =
          let asked : recovery_ask r ≡ Delete (queue.Atomic r.client) id = asks Clearing e ∙ ap (delete_next r) ids_are in
          out_at Clearing e (Delete (queue.Atomic r.client) id) asked
          (past_deleted who book order s t parts r part reply setting mine is id ids ids_are (call_at (Delete (queue.Atomic r.client) id) asked) k all)

  -- ---- sends, and the put

  at_sending : r.stage ≡ Sending → KnowsSending st r part r.sent → SendsRecord r (slice_get r.gathered.kept r.sent) → Out
  at_sending e k sound = on (slice_get r.gathered.kept r.sent) refl sound
    where
      on : (o : Option AtomicItem) → slice_get r.gathered.kept r.sent ≡ o → SendsRecord r o → Out
      on None there w = absurd w
      on (Some x) there reads =
          let asked = asks Sending e ∙ (ap (send_next r) there ∙ ap (λ q. Send q r.out) (queue_is x.rec.tree x.rec.page)) in
          out_at Sending e _ asked (record_sent who book order s t parts r part reply setting mine is x there reads k (call_at _ asked))

  at_putting : r.stage ≡ Putting → KnowsSending st r part (length r.gathered.kept) → IsSoundAt Putting r → Out
  at_putting e k sound =
      let asked = under_lease Putting e r.lease k.read.held.now (λ l. PutHeld (object.Head r.client) r.out l None) refl k.read.held.is in
      out_at Putting e _ asked (head_put who book order s t parts r part reply setting mine is k sound.1 (call_at _ asked))

  -- ---- the whole

  by_stage : KnowsOpeningAt r.stage st t.now r part → IsSound r → Out
  by_stage k sound = on r.stage refl k sound
    where
      on : (stage : Stage) → r.stage ≡ stage → KnowsOpeningAt stage st t.now r part → IsSoundAt stage r → Out
      on ReleasingOld e a w = at_old e a.0 a.1
      on Taking e a w = at_taking e a.0 a.2
      on Getting e a w = at_getting e a.0 a.1
      on Receiving e a w = at_receiving e a.0 a.1
      on Deleting e a w = at_deleting e a.0 a.1 a.2 w.1
      on Sending e a w = at_sending e a w.1
      on Putting e a w = at_putting e a w
      on Clearing e a w = at_clearing e a.0 a.1 w.1
      on Sweeping e a w = at_sweeping e a
      on Releasing e a w = at_releasing e a.0 a.1
      on Finished e a w = absurd a

-- a call of an opening
pub opening_outcome : (who : Caller) (book : Book) (order : List Entry) (s t : CloudState) (parts : Parts) (r : Recovery) (part : Part) (reply : Answer)
    → Setting (footing book order s) t.now (actor parts who.session (leases_of_recovery r)) → parts who.session ≡ part → KnowsOpening (store_of book order s) t.now r part → IsSound r
    → IsCall who (recovery_ask r) reply s t → Fits (recovery_ask r) reply → Outcome (footing book order s) t (actor parts who.session (leases_of_recovery r)) (recovery_ask r) (λ a. a) (KnowsNext (recovery_next r reply))
opening_outcome who book order s t parts r part reply setting mine k sound call fits = by_stage who book order s t parts r part reply setting mine k.client call fits k.at sound
