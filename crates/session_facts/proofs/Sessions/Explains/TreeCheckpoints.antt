-- Why the tree checkpoint of a session meets a trouble.
use Rattle.std.proofs.Common.{◌≡◌, ◌≢◌, inl, inr, ℕ, List, Some, None, sym, subst, ◌∙◌, arith}
use Rattle.client_work.specs.Session.{StepsFolding, stopped_work}
use Rattle.client_work.specs.declared.answer.Answer.{Answer}
use Rattle.client_work.specs.declared.answer.Answer.TheVariants as answer
use Rattle.client_work.specs.declared.work.Work.{Work}
use Rattle.client_work.specs.declared.work.Work.TheVariants.{Idle, Folding}
use Rattle.cloud_facts.specs.Words.{Trouble, Entry, Answer as Reply, Turn, More, Ended, Stopped, CloudState, Caller, Seen, Goes, Ends, Stops, Book, Store, store_of}
use Rattle.cloud_trait.specs.declared.answer.Answer.TheVariants.{Memory}
use Rattle.cloud_trait.specs.declared.turn.CkptAnswer.{CkptAnswer}
use Rattle.cloud_trait.specs.Weather.{Makes}
use Rattle.db_base.specs.declared.trouble.Trouble.TheVariants as trouble
use Rattle.recover_run.specs.declared.home.Home.{Home}
use Rattle.session_facts.specs.Sessions.Calls.{calling_of, folding_reply}
use Rattle.session_facts.specs.Sessions.Explains.{trouble_of_making, Meets, IsShown, Explains}
use Rattle.session_facts.specs.Sessions.Spent.{IsSpentInTree}
use Rattle.session_facts.specs.Sessions.Knows.{leases_of, KnowsWork, Sessions, SessionsStand}
use Rattle.session_facts.specs.Machines.TreeCheckpoints.Knows.{KnowsMaking}
use Rattle.session_facts.proofs.Sessions.Spent.{HasAll, IsToldBy, told_later}
use Rattle.session_facts.proofs.Sessions.Answered.{stopped_none, answered_is, waited_is}
use Rattle.session_facts.proofs.Machines.TreeCheckpoints.Explains.{making_shows, making_left, making_keeps}
use Rattle.tree_ckpt.specs.Making.{Making, making_ask, MakingLeads}

module _ (who : Caller) (before after : Seen) (s t : CloudState) (told : before.state ≡ Some s) (told_after : after.state ≡ Some t) (st : Store) (now : ℕ) (home : Home) (m : Making)
    (knows : KnowsMaking st now m) (tells : IsToldBy st s t) where
  abbrev Explained : Work → Turn Answer → Type 0
  Explained work turn = Explains (making_ask m) (before.counts, s) (after.counts, t) (Folding home m) work turn

  module _ (reply : Reply) (made : Makes who (making_ask m) reply before after) (found : reply ≢ Memory) where
    goes_on : (n : Making) → MakingLeads m reply (Goes n) → Explained (Folding home n) More
    goes_on n leads = record {
      shown = λ none clean k other meets. shown none k meets;
      kept = λ k e. making_keeps m reply (Goes n) leads k e;
      left = making_left who before after s t told told_after (leases_of (Folding home m)) (IsSpentInTree m.tree) reply st now m knows made tells (λ what is. is) (Goes n) leads found;
    }
      where
        shown : trouble_of_making m ≡ None → (k : Trouble) → Meets (Folding home n) More k → IsShown (making_ask m) (leases_of (Folding home m)) (IsSpentInTree m.tree) (before.counts, s) (after.counts, t) k
        shown none k (inl e) = making_shows who before after s t told told_after (leases_of (Folding home m)) (IsSpentInTree m.tree) reply st now m knows made tells (λ what is. is) (Goes n) leads none k e
        shown none k (inr e) = absurd (cc)

    ends : (n : Making) (done : CkptAnswer) → MakingLeads m reply (Ends n done) → Explained (Idle home) (Ended (answer.Done done))
    ends n done leads = record {
      shown = λ none clean k other meets. never k meets;
      kept = λ k e. absurd (making_keeps m reply (Ends n done) leads k e);
      left = making_left who before after s t told told_after (leases_of (Folding home m)) (IsSpentInTree m.tree) reply st now m knows made tells (λ what is. is) (Ends n done) leads found;
    }
      where
        never : (k : Trouble) → Meets (Idle home) (Ended (answer.Done done)) k → IsShown (making_ask m) (leases_of (Folding home m)) (IsSpentInTree m.tree) (before.counts, s) (after.counts, t) k
        never k (inl e) = absurd (cc)
        never k (inr e) = absurd (cc)

    stops : (n : Making) (q : Trouble) → (q ≢ trouble.Memory → MakingLeads m reply (Stops n q)) → Explained (stopped_work q home) (Ended (answer.Trouble q))
    stops n q leads = record {
      shown = λ none clean k other meets. shown none k other (answered_is (stopped_work q home) q k (stopped_none q home) meets);
      kept = λ k e. waited_is (stopped_work q home) q k (λ other. making_keeps m reply (Stops n q) (leads other) k e);
      left = inl (omega arith);
    }
      where
        shown : trouble_of_making m ≡ None → (k : Trouble) → k ≢ trouble.Memory → q ≡ k → IsShown (making_ask m) (leases_of (Folding home m)) (IsSpentInTree m.tree) (before.counts, s) (after.counts, t) k
        shown none k other same =
            making_shows who before after s t told told_after (leases_of (Folding home m)) (IsSpentInTree m.tree) reply st now m knows made tells (λ what is. is) (Stops n q) (leads (λ memory. other (sym same ∙ memory))) none k same

  making_explains : (work : Work) (turn : Turn Answer) → (steps : StepsFolding who before after (home, m) work turn) → folding_reply (calling_of who before after) (home, m) work turn steps ≢ Memory
      → Explained work turn
  making_explains work More (n, steps, is, less) found = subst (λ (w : Work). Explained w More) (sym is) (goes_on steps.answer steps.made found n steps.took)
  making_explains work (Ended (answer.Done done)) (n, steps, is) found =
      subst (λ (w : Work). Explained w (Ended (answer.Done done))) (sym is) (ends steps.answer steps.made found n done steps.took)
  making_explains work (Ended (answer.Trouble k)) (n, steps, is) found =
      subst (λ (w : Work). Explained w (Ended (answer.Trouble k))) (sym is) (stops steps.answer steps.made found n k steps.took.0)
  making_explains work (Stopped k) never found = absurd never
  making_explains work (Ended answer.Closed) never found = absurd never
  making_explains work (Ended (answer.Renewed end)) never found = absurd never
  making_explains work (Ended (answer.Opened epoch)) never found = absurd never
  making_explains work (Ended (answer.Commit a)) never found = absurd never
  making_explains work (Ended answer.Value) never found = absurd never
  making_explains work (Ended answer.Scan) never found = absurd never
  making_explains work (Ended (answer.Settled n)) never found = absurd never
  making_explains work (Ended (answer.Swept x)) never found = absurd never

-- ---- of a session

module _ (who : Caller) (before after : Seen) (s t : CloudState) (book : Book) (order : List Entry) (sessions : Sessions) (told : before.state ≡ Some s)
    (told_after : after.state ≡ Some t)
    (stand : SessionsStand book order s sessions) where
  abbrev old : Work
  old = (sessions who.session).work

  pub folding_explains : (home : Home) (m : Making) → old ≡ Folding home m → HasAll s t → (work : Work) (turn : Turn Answer) → (steps : StepsFolding who before after (home, m) work turn)
      → folding_reply (calling_of who before after) (home, m) work turn steps ≢ Memory → Explains (making_ask m) (before.counts, s) (after.counts, t) (Folding home m) work turn
  folding_explains home m is grown work turn steps found =
      making_explains who before after s t told told_after (store_of book order s) s.now home m known (told_later book order s t stand.cloud grown) work turn steps found
    where
      known : KnowsMaking (store_of book order s) s.now m
      known = (subst (λ w. KnowsWork (store_of book order s) s.now (sessions who.session).cache w (stand.parts who.session)) is (stand.each who.session).work).1
