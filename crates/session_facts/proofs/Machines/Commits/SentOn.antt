-- What a send to a pending update queue leaves.
use Rattle.std.proofs.Common.{◌≡◌, ◌≤◌, ◌<◌, ◌+◌, ◌⊎◌, inl, inr, ℕ, List, [], ◌∷◌, Some, Ok, refl, sym, ap, subst, ◌∙◌, arith}
use Rattle.std.specs.Prelude.{slice_get}
use Rattle.std.proofs.lemmas.Bool.{cases_lt}
use Rattle.cloud_facts.specs.Words.{IsClient, Entry, AtomicRec, Head, Answer, CloudState, called, Caller, Ask, Send, sent_of, Book, Store, at, IsIn, store_of, IsCall}
use Rattle.cloud_facts.specs.Calls.Acting.{footing, actor, Outcome}
use Rattle.cloud_facts.specs.Calls.Others.{WasSentOn, Passes}
use Rattle.cloud_facts.proofs.Calls.Calls.{send_cases}
use Rattle.cloud_facts.proofs.Calls.Outcomes.{stays, other_landed}
use Rattle.cloud_facts.proofs.Calls.Passing.{landing_passes}
use Rattle.cloud_trait.specs.Ask.{Lands}
use Rattle.session_facts.specs.Machines.Commits.Knows.{attempt_of, IsOfAttempt, SendsNext, AreSentOn, KnowsNext}
use Rattle.session_facts.specs.Machines.Commits.Audited.{noted_at}
use Rattle.session_facts.proofs.Machines.Commits.Records.{messages_stay}
use Rattle.session_facts.proofs.Machines.Commits.Others.{sent_others, opened_others}
use Rattle.session_facts.proofs.Machines.Commits.Nexts.{WriteStep, part_next, next_homes, leads}
use Rattle.session_facts.proofs.Machines.Commits.Ready.{committer, Ready, homes}
use Rattle.session_facts.proofs.Machines.Commits.Settled.{queue_is, posts_record, posted_waits, posted_copied}
use Rattle.commit_writes.specs.declared.stage.Stage.TheVariants.{Sending}
use Rattle.commit_writes.specs.Writing.{Writing, writing_next}
use Rattle.commit_writes.proofs.Outcomes.{comes, placed, at as staged}
use Rattle.cloud_facts.specs.Copies.Copies.{IsSentOn, SendsInTurn}
use Rattle.cloud_facts.proofs.Copies.Turns.{sends_in_turn}
use Rattle.cloud_facts.proofs.Numbers.Ways.{way_epoch, way_txn}
use Rattle.cloud_facts.specs.Homes.Homes.{Home, Part, Parts}
use Rattle.cloud_facts.proofs.Homes.HomeLemmas.{aside_keeps}
use Rattle.cloud_facts.specs.Landings.Landing.{Landing, sent_by}
use Rattle.cloud_facts.specs.Landings.Landing as landing
use Rattle.cloud_facts.specs.Lefts.Left.{IsCopied}
use Rattle.log_codec.specs.Pu.{pu_of}
use Rattle.route_plan.specs.Queue.{queue_name}
use Rattle.route_plan.specs.Record.{pu_record_of}
use Rattle.cloud_facts.specs.Book.Effects.{after_posted}
use Rattle.cloud_facts.specs.Book.Records.{IsUnderWay}
use Rattle.cloud_facts.specs.Book.Telling.{queue_of}
use Rattle.cloud_facts.proofs.Book.GrowthLemmas.{posted_grows}

module _ (who : Caller) (book : Book) (order : List Entry) (s t : CloudState) (parts : Parts) (v : Writing) (reply : Answer) (part : Part) (g : Home)
    (ready : Ready (footing book order s) t.now (committer parts who.session (staged v Sending)) (staged v Sending) part g) (a : SendsNext (store_of book order s) t.now (staged v Sending)) (r : AtomicRec)
    (there : slice_get v.records v.place ≡ Some r) (reads : pu_of v.out ≡ Some (pu_record_of r)) where
  abbrev w : Writing
  w = staged v Sending

  abbrev st : Store
  st = store_of book order s

  abbrev step : WriteStep
  step = writing_next w reply

  abbrev send : Ask
  send = Send (queue_of r.tree r.page) w.out

  abbrev OutcomeOf : Ask → Type 0
  OutcomeOf ask = Outcome (footing book order s) t (actor parts who.session (w.home.lease ∷ [])) ask (noted_at Sending w ask) (KnowsNext step)

  is_logged : (q : AtomicRec) → IsIn w.records q → IsIn book.log q
  is_logged q is = ((a.has).logged q is).0

  abbrev su : Store
  su = after_posted r.tree r.page (sent_by who w.out) st

  -- those before it in the transaction were sent on
  turn : SendsInTurn st r
  turn = sends_in_turn st r ((ready.setting).cloud).holds.leaves (subst IsClient (sym of_r.client_is) (ready.stands).client) known
    where
      of_r : IsOfAttempt (attempt_of w) r
      of_r = ((a.has).logged r (w.place, there)).1

      known : IsUnderWay st.tally r → (q : AtomicRec) → IsIn book.log q → q.client ≡ r.client → IsUnderWay st.tally q → q.index < r.index → IsSentOn st.tally q
      known way q logged own way_q less = (a.sent in_q.0 q before in_q.1).1
        where
          same : st.tally.head q.client ≡ st.tally.head r.client
          same = ap st.tally.head own

          of_q : IsOfAttempt (attempt_of w) q
          of_q = record {
            client_is = own ∙ of_r.client_is;
            epoch_is =
                way_epoch (st.tally.head q.client) q way_q
                ∙ (ap (λ (h : Head). h.epoch) same ∙ (sym (way_epoch (st.tally.head r.client) r way) ∙ of_r.epoch_is));
            txn_is = way_txn (st.tally.head q.client) q way_q ∙ (ap (λ (h : Head). h.txn) same ∙ (sym (way_txn (st.tally.head r.client) r way) ∙ of_r.txn_is));
          }

          in_q : IsIn w.records q
          in_q = (a.has).all q logged of_q

          before : in_q.0 < w.place
          before = let one = (a.has).indexed in_q.0 q in_q.1 in let other = (a.has).indexed w.place r there in omega (arith, one, other, less)

  abbrev lands_there : Landing who st send su
  lands_there = landing.posts r.tree r.page w.out r (posts_record st who r w.out (is_logged r (w.place, there)) reads turn)

  passes : Passes st su
  passes = landing_passes who st send su ((ready.setting).cloud).holds lands_there

  more : AreSentOn su w.records (w.place + 1)
  more place q less at = on (cases_lt place w.place)
    where
      on : (place < w.place) ⊎ (w.place ≤ place) → WasSentOn su.tally q × IsCopied su.tally q
      on (inl before) = sent_others st su w.records w.place passes is_logged a.sent place q before at
      on (inr last) =
          let here : place ≡ w.place = omega (arith, less, last) in
          let same : r ≡ q = record_is r q (sym there ∙ (ap (slice_get w.records) (sym here) ∙ at)) in
          subst (λ (x : AtomicRec). WasSentOn su.tally x × IsCopied su.tally x) same
          (inr (posted_waits st who r w.out reads), posted_copied st who r w.out reads)
        where
          record_is : (x y : AtomicRec) → Some x ≡ Some y → x ≡ y
          record_is x y f = cc

  sent : SendsNext su t.now (placed w (w.place + 1))
  sent = record {
    has = opened_others st su t.now t.now (attempt_of w) (omega arith) (λ lasts. refl) (λ q is of. is) w.records w.home.head (λ q is. is) a.has;
    committed = a.committed;
    sent = more;
    messages = messages_stay st su (attempt_of w) w.ids (posted_grows st r.tree r.page (sent_by who w.out)) a.messages;
  }

  sent_there : IsCall who send reply s t → OutcomeOf send
  sent_there call = on (send_cases who (queue_of r.tree r.page) w.out reply s t call)
    where
      on : ((t ≡ called who t.now s) × ((id : ℕ) → sent_of reply ≡ Ok id → ⊥)) ⊎ Lands who send (called who t.now s) t → OutcomeOf send
      on (inl p) =
          stays who book order s t parts (w.home.lease ∷ []) send (noted_at Sending w send) (KnowsNext step) p.0 (ready.setting).cloud (part_next step part)
          (next_homes st.tally t.now parts who.session part step (homes who book order s t.now parts w part g ready))
          (leads st t.now part (comes w reply) ready.stands (λ id done. absurd (p.1 id done)))
      on (inr lands) =
          other_landed who book order s t parts (w.home.lease ∷ []) send (noted_at Sending w send) (KnowsNext step) su lands (ready.setting).cloud lands_there tt tt tt (part_next step part)
          (next_homes su.tally t.now parts who.session part step (aside_keeps st.tally su.tally t.now (at who.session part parts) refl refl (homes who book order s t.now parts w part g ready)))
          (leads su t.now part (comes w reply) ready.stands (λ id done. sent))
          (λ look new. refl) refl

  pub sending_outcome : IsCall who (Send (queue_name r.tree r.page) w.out) reply s t → OutcomeOf (Send (queue_name r.tree r.page) w.out)
  sending_outcome call =
      subst (λ q. OutcomeOf (Send q w.out)) (sym (queue_is r.tree r.page)) (sent_there (subst (λ q. IsCall who (Send q w.out) reply s t) (queue_is r.tree r.page) call))
