-- Why a session's page checkpoint meets a trouble.
use Rattle.std.proofs.Common.{◌≡◌, ◌≢◌, ◌≤◌, ◌⊎◌, inl, inr, ℕ, Some, None, sym, ap, subst, ◌∙◌, arith}
use Rattle.client_work.specs.Session.{StepsPaging, stopped_work}
use Rattle.client_work.specs.declared.answer.Answer.{Answer}
use Rattle.client_work.specs.declared.answer.Answer.TheVariants as answer
use Rattle.client_work.specs.declared.work.Work.{Work}
use Rattle.client_work.specs.declared.work.Work.TheVariants.{Idle, Paging as PagingOn}
use Rattle.cloud_facts.specs.Words.{Trouble, Turn, More, Ended, Stopped, CloudState, Caller, Seen, Goes, Ends, Stops, Store}
use Rattle.cloud_trait.specs.declared.answer.Answer.TheVariants.{Memory}
use Rattle.cloud_trait.specs.declared.turn.CkptAnswer.{CkptAnswer}
use Rattle.cloud_trait.specs.Machine.{Steps, occasion_of}
use Rattle.cloud_trait.specs.Weather.{Rose}
use Rattle.db_base.specs.declared.trouble.Trouble.TheVariants as trouble
use Rattle.page_ckpt.specs.Paging.{Paging, paging_ask, paging_machine}
use Rattle.recover_run.specs.declared.home.Home.{Home}
use Rattle.session_facts.specs.Machines.PageCheckpoints.Knows.{KnowsPaging}
use Rattle.session_facts.specs.Sessions.Calls.{calling_of, paging_reply}
use Rattle.session_facts.specs.Sessions.Explains.{Explains, IsShown, Meets, left_in, trouble_in}
use Rattle.session_facts.specs.Sessions.Spent.{IsSpentInPages}
use Rattle.session_facts.specs.Sessions.Knows.{leases_of}
use Rattle.session_facts.proofs.Machines.PageCheckpoints.Explains.{paging_shown, paging_left, waiting_kept}
use Rattle.session_facts.proofs.Sessions.Spent.{IsToldBy}
use Rattle.session_facts.proofs.Sessions.Answered.{answered_is, stopped_none, waited_is}

module _ (who : Caller) (before after : Seen) (s t : CloudState) (told : before.state ≡ Some s) (told_after : after.state ≡ Some t) (st : Store) (now : ℕ) (home : Home) (p : Paging)
    (knows : KnowsPaging st now p) (tells : IsToldBy st s t) (work : Work) where
  abbrev Taken : Paging → Turn CkptAnswer → Type 0
  Taken m turn = Steps paging_machine (occasion_of who before after) p m turn

  abbrev Does : Turn Answer → Type 0
  Does turn = Explains (paging_ask p) (before.counts, s) (after.counts, t) (PagingOn home p) work turn

  goes_on : (m : Paging) (steps : Taken m More) → steps.answer ≢ Memory → work ≡ PagingOn home m → Does More
  goes_on m steps found is = record {
    shown = λ none clean k other meets. on none k meets;
    kept = λ k e. ap trouble_in is ∙ waiting_kept p steps.answer knows.waits k e (Goes m) steps.took;
    left =
        subst (λ (w : Work). (left_in w ≤ p.deletions.left) ⊎ Rose before.counts.faults after.counts.faults) (sym is)
        (paging_left who before after s t told told_after (leases_of (PagingOn home p)) (IsSpentInPages p.tree) st now p steps.answer knows steps.made tells (λ what is. is) found (Goes m) steps.took);
  }
    where
      on : p.trouble ≡ None → (k : Trouble) → Meets work More k → IsShown (paging_ask p) (leases_of (PagingOn home p)) (IsSpentInPages p.tree) (before.counts, s) (after.counts, t) k
      on none k (inl e) =
          paging_shown who before after s t told told_after (leases_of (PagingOn home p)) (IsSpentInPages p.tree) st now p steps.answer knows steps.made tells (λ what is. is) none (Goes m) steps.took k (ap trouble_in (sym is) ∙ e)
      on none k (inr e) = absurd (cc (e))

  ends : (n : CkptAnswer) (m : Paging) (steps : Taken m (Ended n)) → steps.answer ≢ Memory → work ≡ Idle home → Does (Ended (answer.Done n))
  ends n m steps found is = record {
    shown = λ none clean k other meets. on k meets;
    kept = λ k e. absurd (waiting_kept p steps.answer knows.waits k e (Ends m n) steps.took);
    left = paging_left who before after s t told told_after (leases_of (PagingOn home p)) (IsSpentInPages p.tree) st now p steps.answer knows steps.made tells (λ what is. is) found (Ends m n) steps.took;
  }
    where
      on : (k : Trouble) → Meets work (Ended (answer.Done n)) k → IsShown (paging_ask p) (leases_of (PagingOn home p)) (IsSpentInPages p.tree) (before.counts, s) (after.counts, t) k
      on k (inl e) = absurd (let none = ap trouble_in is in cc (none, e))
      on k (inr e) = absurd (cc (e))

  stops : (q : Trouble) (m : Paging) (steps : Taken m (Stopped q)) → work ≡ stopped_work q home → Does (Ended (answer.Trouble q))
  stops q m steps is = record {
    shown = λ none clean k other meets. on none k other (answered_is work q k (ap trouble_in is ∙ stopped_none q home) meets);
    kept = λ k e. waited_is work q k (λ other. waiting_kept p steps.answer knows.waits k e (Stops m q) (steps.took.0 other));
    left = inl (omega arith);
  }
    where
      on : p.trouble ≡ None → (k : Trouble) → k ≢ trouble.Memory → q ≡ k → IsShown (paging_ask p) (leases_of (PagingOn home p)) (IsSpentInPages p.tree) (before.counts, s) (after.counts, t) k
      on none k other same =
          paging_shown who before after s t told told_after (leases_of (PagingOn home p)) (IsSpentInPages p.tree) st now p steps.answer knows steps.made tells (λ what is. is) none (Stops m q)
          (steps.took.0 (λ memory. other (sym same ∙ memory))) k same

  -- a step of a page checkpoint, where there was memory for its call
  pub paging_explains : (turn : Turn Answer) (steps : StepsPaging who before after (home, p) work turn) → paging_reply (calling_of who before after) (home, p) work turn steps ≢ Memory → Does turn
  paging_explains More steps found = goes_on steps.0 steps.1 found steps.2
  paging_explains (Ended (answer.Done n)) steps found = ends n steps.0 steps.1 found steps.2
  paging_explains (Ended (answer.Trouble q)) steps found = stops q steps.0 steps.1 steps.2
  paging_explains (Stopped q) never found = absurd never
  paging_explains (Ended (answer.Opened epoch)) never found = absurd never
  paging_explains (Ended answer.Closed) never found = absurd never
  paging_explains (Ended (answer.Renewed end)) never found = absurd never
  paging_explains (Ended (answer.Commit a)) never found = absurd never
  paging_explains (Ended answer.Value) never found = absurd never
  paging_explains (Ended answer.Scan) never found = absurd never
  paging_explains (Ended (answer.Settled n)) never found = absurd never
  paging_explains (Ended (answer.Swept x)) never found = absurd never
