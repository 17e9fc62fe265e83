-- Why the settling of a session meets a trouble.
use Rattle.std.proofs.Common.{◌≡◌, ◌≢◌, ◌≤◌, inl, inr, List, Some, None, refl, sym, subst, ◌∙◌, arith}
use Rattle.client_work.specs.Session.{StepsSettling}
use Rattle.client_work.specs.declared.answer.Answer.{Answer}
use Rattle.client_work.specs.declared.answer.Answer.TheVariants as answer
use Rattle.client_work.specs.declared.work.Work.{Work}
use Rattle.client_work.specs.declared.work.Work.TheVariants.{Closed, Settling}
use Rattle.cloud_facts.specs.Words.{Trouble, Entry, Answer as Reply, Turn, More, Ended, Stopped, CloudState, Caller, Seen, Goes, Ends, Stops, Book, Store, store_of}
use Rattle.cloud_facts.specs.Homes.Homes.{PartHolds}
use Rattle.cloud_facts.proofs.Calls.Calls.{call_of}
use Rattle.cloud_trait.specs.declared.answer.Answer.TheVariants.{Memory}
use Rattle.cloud_trait.specs.Weather.{Makes}
use Rattle.db_base.specs.declared.trouble.Trouble.TheVariants as trouble
use Rattle.session_facts.specs.Sessions.Calls.{calling_of, settling_reply}
use Rattle.session_facts.specs.Sessions.Explains.{trouble_of_part, left_of_part, Meets, IsShown, Explains}
use Rattle.session_facts.specs.Sessions.Spent.{IsSpentToSettle}
use Rattle.session_facts.specs.Sessions.Knows.{leases_of, KnowsWork, Sessions, SessionsStand}
use Rattle.session_facts.specs.Machines.Settlings.Knows.{KnowsSettling}
use Rattle.session_facts.proofs.Sessions.Spent.{HasAll, told_later}
use Rattle.session_facts.proofs.Sessions.Answered.{answered_is, waited_is}
use Rattle.session_facts.proofs.Sessions.Laws.{setting_of, known_at}
use Rattle.session_facts.proofs.Machines.Settlings.Explains.{settle_shows, settle_keeps, settle_left}
use Rattle.settle_run.specs.declared.settled.Settled.{Settled}
use Rattle.settle_run.specs.Parts.{IsSoundPart}
use Rattle.settle_run.specs.Settling.{Settling as SettlingState, settle_ask, SettleLeads}

module _ (who : Caller) (before after : Seen) (s t : CloudState) (book : Book) (order : List Entry) (sessions : Sessions) (told : before.state ≡ Some s)
    (told_after : after.state ≡ Some t)
    (stand : SessionsStand book order s sessions) where
  abbrev old : Work
  old = (sessions who.session).work

  abbrev st : Store
  st = store_of book order s

  module _ (m : SettlingState) (is : old ≡ Settling m) (grown : HasAll s t) (sound : IsSoundPart m.part) where
    abbrev Explained : Work → Turn Answer → Type 0
    Explained work turn = Explains (settle_ask m) (before.counts, s) (after.counts, t) (Settling m) work turn

    module _ (reply : Reply) (made : Makes who (settle_ask m) reply before after) (found : reply ≢ Memory) where
      later : s.now ≤ t.now
      later = (call_of who (settle_ask m) reply before after s t made told told_after).later

      holds : PartHolds st.tally t.now (stand.parts who.session)
      holds = (setting_of book order s sessions stand t.now who.session later).homes.each who.session

      knows : KnowsSettling st t.now m (stand.parts who.session)
      knows = subst (λ w. KnowsWork st t.now (sessions who.session).cache w (stand.parts who.session)) is (known_at book order s sessions stand t.now who.session later)

      goes_on : (n : SettlingState) → SettleLeads m reply (Goes n) → Explained (Settling n) More
      goes_on n leads = record {
        shown = shown;
        kept = λ k waits.
            settle_keeps who before after s t book order told told_after stand.cloud (stand.parts who.session) holds reply found (told_later book order s t stand.cloud grown) m knows.work sound made (Goes n) leads k waits;
        left = settle_left who before after s t book order told told_after stand.cloud (stand.parts who.session) holds reply found (told_later book order s t stand.cloud grown) m knows.work sound made (Goes n) leads;
      }
        where
          shown : trouble_of_part m.part ≡ None → left_of_part m.part ≡ 0 → (k : Trouble) → k ≢ trouble.Memory → Meets (Settling n) More k
              → IsShown (settle_ask m) (leases_of (Settling m)) IsSpentToSettle (before.counts, s) (after.counts, t) k
          shown none clean k other (inl e) =
              settle_shows who before after s t book order told told_after stand.cloud (stand.parts who.session) holds reply found (told_later book order s t stand.cloud grown) m knows.work sound made (Goes n) leads none clean k e
          shown none clean k other (inr e) = absurd (cc)

      ends : (n : SettlingState) (x : Settled) → SettleLeads m reply (Ends n x) → Explained Closed (Ended (answer.Settled x))
      ends n x leads = record {
        shown = λ none clean k other meets. never k meets;
        kept = λ k waits.
            absurd (settle_keeps who before after s t book order told told_after stand.cloud (stand.parts who.session) holds reply found (told_later book order s t stand.cloud grown) m knows.work sound made (Ends n x) leads k waits);
        left = inl (omega arith);
      }
        where
          never : (k : Trouble) → Meets Closed (Ended (answer.Settled x)) k → IsShown (settle_ask m) (leases_of (Settling m)) IsSpentToSettle (before.counts, s) (after.counts, t) k
          never k (inl e) = absurd (cc)
          never k (inr e) = absurd (cc)

      stops : (n : SettlingState) (q : Trouble) → (q ≢ trouble.Memory → SettleLeads m reply (Stops n q)) → Explained Closed (Ended (answer.Trouble q))
      stops n q leads = record {
        shown = λ none clean k other meets. shown none clean k other (answered_is Closed q k refl meets);
        kept = λ k waits.
            waited_is Closed q k
            (λ other.
            settle_keeps who before after s t book order told told_after stand.cloud (stand.parts who.session) holds reply found (told_later book order s t stand.cloud grown) m knows.work sound made (Stops n q) (leads other) k waits);
        left = inl (omega arith);
      }
        where
          shown : trouble_of_part m.part ≡ None → left_of_part m.part ≡ 0 → (k : Trouble) → k ≢ trouble.Memory → q ≡ k
              → IsShown (settle_ask m) (leases_of (Settling m)) IsSpentToSettle (before.counts, s) (after.counts, t) k
          shown none clean k other same =
              settle_shows who before after s t book order told told_after stand.cloud (stand.parts who.session) holds reply found (told_later book order s t stand.cloud grown) m knows.work sound made (Stops n q)
              (leads (λ memory. other (sym same ∙ memory))) none clean k same

    pub settling_explains : (work : Work) (turn : Turn Answer) → (steps : StepsSettling who before after m work turn) → settling_reply (calling_of who before after) m work turn steps ≢ Memory
        → Explains (settle_ask m) (before.counts, s) (after.counts, t) (Settling m) work turn
    settling_explains work More (n, steps, to, less) found = subst (λ (w : Work). Explained w More) (sym to) (goes_on steps.did.answer steps.did.made found n steps.did.took)
    settling_explains work (Ended (answer.Settled x)) (n, steps, to) found =
        subst (λ (w : Work). Explained w (Ended (answer.Settled x))) (sym to) (ends steps.did.answer steps.did.made found n x steps.did.took)
    settling_explains work (Ended (answer.Trouble k)) (n, steps, to) found =
        subst (λ (w : Work). Explained w (Ended (answer.Trouble k))) (sym to) (stops steps.did.answer steps.did.made found n k steps.did.took.0)
    settling_explains work (Stopped k) never found = absurd never
    settling_explains work (Ended answer.Closed) never found = absurd never
    settling_explains work (Ended (answer.Renewed end)) never found = absurd never
    settling_explains work (Ended (answer.Opened epoch)) never found = absurd never
    settling_explains work (Ended (answer.Commit a)) never found = absurd never
    settling_explains work (Ended (answer.Done n)) never found = absurd never
    settling_explains work (Ended answer.Value) never found = absurd never
    settling_explains work (Ended answer.Scan) never found = absurd never
    settling_explains work (Ended (answer.Swept x)) never found = absurd never
