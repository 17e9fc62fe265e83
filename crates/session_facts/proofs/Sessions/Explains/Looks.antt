-- Why a look-up is answered with a trouble: its call shows it.
use Rattle.std.proofs.Common.{◌≡◌, ◌≢◌, List, Some, None, refl, sym, ap, subst, ◌∙◌}
use Rattle.std.proofs.lemmas.Option.{same_Some}
use Rattle.attr_index.specs.Look.{Look, look_ask}
use Rattle.client_work.specs.Session.{LooksBy, acting_of, in_hand}
use Rattle.client_work.specs.Shows.{own_of}
use Rattle.client_work.specs.declared.answer.Answer.{Answer}
use Rattle.client_work.specs.declared.answer.Answer.TheVariants as answer
use Rattle.client_work.specs.declared.shown.Shown.{Shown}
use Rattle.client_work.specs.declared.work.Work.{Work}
use Rattle.client_work.specs.declared.work.Work.TheVariants.{Looking}
use Rattle.cloud_facts.specs.Words.{Trouble, Entry, Turn, More, Ended, Stopped, CloudState, Caller, Seen, Book, Store, store_of, StandsUnder}
use Rattle.db_base.specs.declared.trouble.Trouble.TheVariants as trouble
use Rattle.page_cache.specs.Cache.{Cache}
use Rattle.recover_run.specs.declared.home.Home.{Home}
use Rattle.session_facts.specs.Machines.Looks.Knows.{KnowsLooking, LookLeads}
use Rattle.session_facts.specs.Sessions.Explains.{Explains, IsShown, left_in, spent_for, trouble_in}
use Rattle.session_facts.specs.Sessions.Knows.{leases_of}
use Rattle.session_facts.proofs.Machines.Looks.Explains.{look_shown}
use Rattle.session_facts.proofs.Sessions.Explains.Walks.{no_trouble, goes_explains, ends_explains}
use Rattle.txn_buffer.specs.Noted.{Noted}
use Rattle.session_facts.proofs.Sessions.Answered.{stopped_none}

module _ (who : Caller) (before after : Seen) (s t : CloudState) (book : Book) (order : List Entry) (told : before.state ≡ Some s) (told_after : after.state ≡ Some t)
    (stands : StandsUnder book order s) (home : Home) (l : Look) (kept : Cache) (known : KnowsLooking (store_of book order s) l kept) where
  abbrev st : Store
  st = store_of book order s

  abbrev Explained : Work → Turn Answer → Type 0
  Explained work turn = Explains (look_ask l) (before.counts, s) (after.counts, t) (Looking home l) work turn

  abbrev ShowsLook : Trouble → Type 0
  ShowsLook k = IsShown (look_ask l) (leases_of (Looking home l)) (spent_for (Looking home l)) (before.counts, s) (after.counts, t) k

  pub looking_explains : (buffer : List Noted) (d : Cache) (work : Work) (shown : Shown) (turn : Turn Answer) → LooksBy who before after (in_hand home l kept) (acting_of buffer work d shown) turn → Explained work turn
  looking_explains buffer d work shown More (m, steps, work_is, none, less) =
      goes_explains (look_ask l) before.counts after.counts s t (Looking home l) work refl (ap trouble_in work_is) (ap left_in work_is)
  looking_explains buffer d work shown (Ended answer.Scan) (m, steps, work_is, some) =
      ends_explains (look_ask l) before.counts after.counts s t (Looking home l) work refl (ap trouble_in work_is) answer.Scan refl (λ k e other. absurd (no_trouble None k refl e))
  looking_explains buffer d work shown (Ended (answer.Trouble q)) (m, steps, work_is, none) =
      ends_explains (look_ask l) before.counts after.counts s t (Looking home l) work refl (ap trouble_in work_is ∙ stopped_none q home) (answer.Trouble q) refl
      (λ k e other. subst ShowsLook (same_Some q k e) (stops (λ memory. other (sym (same_Some q k e) ∙ memory))))
    where
      stops : q ≢ trouble.Memory → ShowsLook q
      stops other =
          (subst (LookLeads st ShowsLook) (steps.took.0 other)
          (look_shown book order s stands who before after t told told_after (leases_of (Looking home l)) (spent_for (Looking home l)) (own_of home buffer) l kept known
          steps.walked.answer steps.walked.made)).1
  looking_explains buffer d work shown (Stopped q) never = absurd never
  looking_explains buffer d work shown (Ended (answer.Opened epoch)) never = absurd never
  looking_explains buffer d work shown (Ended answer.Closed) never = absurd never
  looking_explains buffer d work shown (Ended (answer.Renewed end)) never = absurd never
  looking_explains buffer d work shown (Ended (answer.Done n)) never = absurd never
  looking_explains buffer d work shown (Ended (answer.Commit a)) never = absurd never
  looking_explains buffer d work shown (Ended answer.Value) never = absurd never
  looking_explains buffer d work shown (Ended (answer.Settled n)) never = absurd never
  looking_explains buffer d work shown (Ended (answer.Swept x)) never = absurd never
