-- Why a close and a renewal meet a trouble.
use Rattle.std.proofs.Common.{◌≡◌, ◌≤◌, ◌⊎◌, inl, inr, [], ◌∷◌, Option, Some, None, refl, ap, subst, ◌∙◌, arith}
use Rattle.client_work.specs.Session.{StepsClosing, StepsRenewing}
use Rattle.client_work.specs.declared.answer.Answer.{Answer}
use Rattle.client_work.specs.declared.answer.Answer.TheVariants as answer
use Rattle.client_work.specs.declared.work.Work.{Work}
use Rattle.client_work.specs.declared.work.Work.TheVariants.{Closing, Renewing}
use Rattle.cloud_facts.specs.Words.{Trouble, Turn, More, Ended, Stopped, CloudState, Caller, Seen, Claim, Ask, Renew, Release}
use Rattle.cloud_trait.specs.Weather.{Rose}
use Rattle.recover_run.specs.declared.home.Home.{Home}
use Rattle.session_facts.specs.Sessions.Explains.{Explains, IsShown, Meets, left_in, left_told, trouble_in, trouble_of_turn, spent_for}
use Rattle.session_facts.specs.Sessions.Knows.{leases_of}
use Rattle.session_facts.proofs.Sessions.Answered.{stopped_none}
use Rattle.session_facts.proofs.Sessions.Shows.{release_shown, renewed_shown}
use Rattle.std.proofs.lemmas.Option.{same_Some}

never_some : {X : Type 0} (o : Option Trouble) (k : Trouble) → o ≡ None → o ≡ Some k → X
never_some o k none some = absurd (cc (none, some))

module _ (who : Caller) (before after : Seen) (s t : CloudState) (told : before.state ≡ Some s) (told_after : after.state ≡ Some t) where
  abbrev Shows : Ask → Work → Trouble → Type 0
  Shows ask old k = IsShown ask (leases_of old) (spent_for old) (before.counts, s) (after.counts, t) k

  -- an operation of one call, in which no trouble waits: it explains itself where a trouble that it answers is shown
  one_call : (ask : Ask) (old work : Work) (a : Answer) → trouble_in old ≡ None → trouble_in work ≡ None → ((k : Trouble) → trouble_of_turn (Ended a) ≡ Some k → Shows ask old k)
      → (left_told work (Ended a) ≤ left_in old) ⊎ Rose before.counts.faults after.counts.faults → Explains ask (before.counts, s) (after.counts, t) old work (Ended a)
  one_call ask old work a none rests shows left_is = record {
    shown = λ free clean k other meets. on k meets;
    kept = λ k e. never_some (trouble_in old) k none e;
    left = left_is;
  }
    where
      on : (k : Trouble) → Meets work (Ended a) k → Shows ask old k
      on k (inl e) = never_some (trouble_in work) k rests e
      on k (inr e) = shows k e

  none_is : {X : Type 0} (k : Trouble) → ◌≡◌ {A = Option Trouble} None (Some k) → X
  none_is k e = absurd (cc (e))

  -- the one step of a close
  pub closing_explains : (lease : Claim) (work : Work) (turn : Turn Answer) → StepsClosing lease who before after work turn
      → Explains (Release lease) (before.counts, s) (after.counts, t) (Closing lease) work turn
  closing_explains lease work (Ended answer.Closed) steps =
      one_call (Release lease) (Closing lease) work answer.Closed refl (ap trouble_in steps.1) (λ k e. none_is k e) (inl (omega arith))
  closing_explains lease work (Ended (answer.Trouble q)) steps =
      one_call (Release lease) (Closing lease) work (answer.Trouble q) refl (ap trouble_in steps.1)
      (λ k e. subst (Shows (Release lease) (Closing lease)) (same_Some q k e)
      (release_shown who before after s t told told_after (lease ∷ []) (spent_for (Closing lease)) lease (steps.0).answer (steps.0).made q (steps.0).took)) (inl (omega arith))
  closing_explains lease work More never = absurd never
  closing_explains lease work (Stopped q) never = absurd never
  closing_explains lease work (Ended (answer.Opened epoch)) never = absurd never
  closing_explains lease work (Ended (answer.Renewed end)) never = absurd never
  closing_explains lease work (Ended (answer.Commit a)) never = absurd never
  closing_explains lease work (Ended answer.Value) never = absurd never
  closing_explains lease work (Ended answer.Scan) never = absurd never
  closing_explains lease work (Ended (answer.Settled n)) never = absurd never
  closing_explains lease work (Ended (answer.Swept x)) never = absurd never
  closing_explains lease work (Ended (answer.Done n)) never = absurd never

  -- the one step of a renewal
  pub renewing_explains : (home : Home) (work : Work) (turn : Turn Answer) → StepsRenewing home who before after work turn
      → Explains (Renew home.lease 600) (before.counts, s) (after.counts, t) (Renewing home) work turn
  renewing_explains home work (Ended (answer.Renewed end)) steps =
      one_call (Renew home.lease 600) (Renewing home) work (answer.Renewed end) refl (ap trouble_in steps.2) (λ k e. none_is k e) (inl (omega arith))
  renewing_explains home work (Ended (answer.Trouble q)) steps =
      one_call (Renew home.lease 600) (Renewing home) work (answer.Trouble q) refl (ap trouble_in steps.2 ∙ stopped_none q steps.0)
      (λ k e. subst (Shows (Renew home.lease 600) (Renewing home)) (same_Some q k e)
      (renewed_shown who before after s t told told_after (home.lease ∷ []) (spent_for (Renewing home)) home.lease 600 (steps.1).answer (steps.1).made q (steps.1).took)) (inl (omega arith))
  renewing_explains home work More never = absurd never
  renewing_explains home work (Stopped q) never = absurd never
  renewing_explains home work (Ended (answer.Opened epoch)) never = absurd never
  renewing_explains home work (Ended answer.Closed) never = absurd never
  renewing_explains home work (Ended (answer.Commit a)) never = absurd never
  renewing_explains home work (Ended answer.Value) never = absurd never
  renewing_explains home work (Ended answer.Scan) never = absurd never
  renewing_explains home work (Ended (answer.Settled n)) never = absurd never
  renewing_explains home work (Ended (answer.Swept x)) never = absurd never
  renewing_explains home work (Ended (answer.Done n)) never = absurd never
