-- A settling that waits for records under a lease that is over gives this lease back next.
use Rattle.std.proofs.Common.{◌≡◌, ◌⊎◌, inl, inr, ℕ, List, Some, None, sym, subst, ◌∙◌}
use Rattle.cloud_facts.specs.Words.{Trouble, Entry, Answer, CloudState, Caller, Seen, Claim, Ask, Release, Next, Goes, Ends, Stops, Book, Store, store_of, StandsUnder}
use Rattle.cloud_facts.specs.Homes.Homes.{Part, PartHolds}
use Rattle.cloud_trait.specs.declared.turn.CkptAnswer.{CkptAnswer}
use Rattle.cloud_trait.specs.Claim.{IsOver}
use Rattle.cloud_trait.specs.Weather.{Makes, Rose}
use Rattle.db_base.specs.declared.trouble.Counter.{Counter}
use Rattle.db_base.specs.declared.trouble.Trouble.TheVariants as trouble
use Rattle.page_ckpt.specs.Paging.{Paging, paging_ask, PagingLeads}
use Rattle.recover_run.specs.declared.stage.RecoverAnswer.{RecoverAnswer}
use Rattle.recover_run.specs.Recovery.{Recovery, recovery_ask, recovery_next, IsSound}
use Rattle.session_facts.specs.Machines.Openings.Knows.{KnowsOpening, leases_of_recovery}
use Rattle.session_facts.specs.Machines.PageCheckpoints.Knows.{KnowsPaging, leases_of_paging}
use Rattle.session_facts.specs.Sessions.Explains.{trouble_of_recovery, trouble_of_making, trouble_of_part, MeetsNext, ReceivesLate}
use Rattle.session_facts.specs.Machines.Settlings.Knows.{KnowsAtWork}
use Rattle.session_facts.specs.Machines.TreeCheckpoints.Knows.{KnowsMaking, leases_of_making}
use Rattle.session_facts.proofs.Machines.Openings.Late.{GivesLateBack, recovery_late}
use Rattle.session_facts.proofs.Machines.Openings.Shows.{recovery_shows}
use Rattle.session_facts.proofs.Machines.PageCheckpoints.Explains.{paging_shown}
use Rattle.session_facts.proofs.Sessions.Spent.{IsToldBy, told_behind}
use Rattle.session_facts.proofs.Sessions.Quiet.{paging_quiet, making_quiet}
use Rattle.session_facts.proofs.Machines.Settlings.Anew.{BeginsAnew, passed_anew, anew_clean}
use Rattle.session_facts.proofs.Machines.Settlings.Explains.{trouble_by}
use Rattle.settle_run.proofs.Outcomes.{Comes, came_by}
use Rattle.settle_run.proofs.Outcomes as step
use Rattle.session_facts.proofs.Machines.TreeCheckpoints.Explains.{making_shows}
use Rattle.settle_run.specs.declared.part.Part.{Part as AtWork}
use Rattle.settle_run.specs.declared.part.Part.TheVariants.{Client, Tree, Page}
use Rattle.settle_run.specs.Parts.{part_ask, recovers, makes, pages, PartLeads, IsSoundPart}
use Rattle.settle_run.specs.Settling.{Settling, Step, settle_ask, counted, with_part, SettleLeads}
use Rattle.tree_ckpt.specs.Making.{Making, making_ask, MakingLeads}

-- a part, or a settling, is about to give back a lease that is over
abbrev IsAboutToGiveBack : AtWork → ℕ → Type 0
IsAboutToGiveBack w now = (l : Claim) × (part_ask w ≡ Release l) × IsOver now l

abbrev PartGivesBack : Next AtWork ℕ → ℕ → Type 0
PartGivesBack (Goes w) now = IsAboutToGiveBack w now
PartGivesBack (Ends w left) now = ⊥
PartGivesBack (Stops w q) now = ⊥

abbrev pub SettlingGivesBack : Step → ℕ → Type 0
SettlingGivesBack (Goes n) now = IsAboutToGiveBack n.part now
SettlingGivesBack (Ends n x) now = ⊥
SettlingGivesBack (Stops n q) now = ⊥

-- a part that begins waits for nothing
anew_waits : (next : Step) → BeginsAnew next → (have need : ℕ) → MeetsNext trouble_by next (trouble.Waiting have need) → ⊥
anew_waits (Goes n) anew have need meets = let other : None ≡ Some (trouble.Waiting have need) = sym (anew_clean n.part anew).0 ∙ meets in cc (other)
anew_waits (Ends n x) anew have need never = never
anew_waits (Stops n q) anew have need same = absurd (subst (λ (k : Trouble). BeginsAnew (Stops n k)) same anew)

module _ (who : Caller) (before after : Seen) (s t : CloudState) (book : Book) (order : List Entry) (told : before.state ≡ Some s) (told_after : after.state ≡ Some t)
    (cloud : StandsUnder book order s) (part : Part) (holds : PartHolds (store_of book order s).tally t.now part) (reply : Answer) where
  abbrev st : Store
  st = store_of book order s

  tells : (ask : Ask) → Makes who ask reply before after → IsToldBy st s t
  tells ask made = told_behind who ask reply before after book order s t cloud told told_after made

  -- what is spent is of no matter here
  abbrev any_spent : CloudState → Counter → Type 0
  any_spent u what = Unit {0}

  abbrev Withheld : Type 0
  Withheld = Rose before.counts.withheld after.counts.withheld

  -- what a part comes to that waits
  abbrev Waits : AtWork → Next AtWork ℕ → Type 0
  Waits w next = trouble_of_part w ≡ None → (have need : ℕ) → MeetsNext trouble_of_part next (trouble.Waiting have need) → Withheld ⊎ PartGivesBack next t.now

  client_waits : (client : ℕ) (m : Recovery) → KnowsOpening st t.now m part → IsSound m → Makes who (recovery_ask m) reply before after → (next : Next Recovery RecoverAnswer)
      → recovery_next m reply ≡ next → Waits (Client client m) (recovers client next)
  client_waits client m knows sound made next leads none have need meets =
      on (recovery_shows who before after s t book order told told_after cloud m part holds reply made knows sound any_spent (λ last. tt) none next leads (trouble.Waiting have need) (met next meets))
    where
      met : (x : Next Recovery RecoverAnswer) → MeetsNext trouble_of_part (recovers client x) (trouble.Waiting have need) → MeetsNext trouble_of_recovery x (trouble.Waiting have need)
      met (Goes n) meets = meets
      met (Ends n a) meets = meets
      met (Stops n q) meets = meets

      back : (x : Next Recovery RecoverAnswer) → GivesLateBack st t.now m part reply knows x → PartGivesBack (recovers client x) t.now
      back (Goes n) gives = gives
      back (Ends n a) never = never
      back (Stops n q) never = never

      on : Withheld ⊎ ReceivesLate (recovery_ask m) (leases_of_recovery m) t.now → Withheld ⊎ PartGivesBack (recovers client next) t.now
      on (inl rose) = inl rose
      on (inr late) = inr (back next (recovery_late st t.now m part reply knows none next leads have need (met next meets) late))

  tree_waits : (tree : ℕ) (m : Making) → KnowsMaking st t.now m → Makes who (making_ask m) reply before after → (next : Next Making CkptAnswer) → MakingLeads m reply next
      → Waits (Tree tree m) (makes tree next)
  tree_waits tree m knows made next leads none have need meets =
      on (making_shows who before after s t told told_after (leases_of_making m) any_spent reply st t.now m knows made (tells (making_ask m) made) (λ what is. tt) next leads none (trouble.Waiting have need) (met next meets))
    where
      met : (x : Next Making CkptAnswer) → MeetsNext trouble_of_part (makes tree x) (trouble.Waiting have need) → MeetsNext trouble_of_making x (trouble.Waiting have need)
      met (Goes n) meets = meets
      met (Ends n a) meets = meets
      met (Stops n q) meets = meets

      on : Withheld ⊎ ReceivesLate (making_ask m) (leases_of_making m) t.now → Withheld ⊎ PartGivesBack (makes tree next) t.now
      on (inl rose) = inl rose
      on (inr late) = absurd (making_quiet (leases_of_making m) t.now m late)

  page_waits : (tree page : ℕ) (m : Paging) → KnowsPaging st t.now m → Makes who (paging_ask m) reply before after → (next : Next Paging CkptAnswer) → PagingLeads m reply next
      → Waits (Page tree page m) (pages tree page next)
  page_waits tree page m knows made next leads none have need meets =
      on (paging_shown who before after s t told told_after (leases_of_paging m) any_spent st t.now m reply knows made (tells (paging_ask m) made) (λ what is. tt) none next leads (trouble.Waiting have need) (met next meets))
    where
      met : (x : Next Paging CkptAnswer) → MeetsNext trouble_of_part (pages tree page x) (trouble.Waiting have need) → MeetsNext (λ (n : Paging). n.trouble) x (trouble.Waiting have need)
      met (Goes n) meets = meets
      met (Ends n a) meets = meets
      met (Stops n q) meets = meets

      on : Withheld ⊎ ReceivesLate (paging_ask m) (leases_of_paging m) t.now → Withheld ⊎ PartGivesBack (pages tree page next) t.now
      on (inl rose) = inl rose
      on (inr late) = absurd (paging_quiet (leases_of_paging m) t.now m late)

  part_waits : (w : AtWork) → KnowsAtWork st t.now w part → IsSoundPart w → Makes who (part_ask w) reply before after → (next : Next AtWork ℕ) → PartLeads w reply next → Waits w next
  part_waits (Client client m) k sound made next (step, leads, to) = subst (Waits (Client client m)) (sym to) (client_waits client m k.knows sound made step leads)
  part_waits (Tree tree m) k sound made next (step, leads, to) = subst (Waits (Tree tree m)) (sym to) (tree_waits tree m k.knows made step leads)
  part_waits (Page tree page m) k sound made next (step, leads, to) = subst (Waits (Page tree page m)) (sym to) (page_waits tree page m k.knows made step leads)

  -- the settling
  pub settle_waits : (m : Settling) → KnowsAtWork st t.now m.part part → IsSoundPart m.part → Makes who (settle_ask m) reply before after → (next : Step) → SettleLeads m reply next
      → trouble_of_part m.part ≡ None → (have need : ℕ) → MeetsNext trouble_by next (trouble.Waiting have need)
      → Rose before.counts.withheld after.counts.withheld ⊎ SettlingGivesBack next t.now
  settle_waits m knows sound made next (x, leads, to) none have need meets = on (came_by m x next to) (part_waits m.part knows sound made x leads) meets
    where
      on : {y : Next AtWork ℕ} {n : Step} → Comes m y n → Waits m.part y → MeetsNext trouble_by n (trouble.Waiting have need) → Withheld ⊎ SettlingGivesBack n t.now
      on (step.goes w) waits met = waits none have need met
      on (step.stops w q) waits met = waits none have need met
      on (step.leaves w left some) waits same = absurd (cc (same))
      on (step.ends w n e) waits met = absurd (anew_waits n (passed_anew (counted (with_part m w)) n e) have need met)
