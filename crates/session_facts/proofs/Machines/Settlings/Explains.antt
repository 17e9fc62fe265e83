-- Why a settling meets a trouble: the call of its part at work shows it, or a deletion of that part failed.
use Rattle.std.proofs.Common.{◌≡◌, ◌≢◌, ◌≤◌, ◌⊎◌, inl, inr, ℕ, List, Option, Some, None, sym, subst, ◌∙◌, arith}
use Rattle.cloud_facts.specs.Words.{Trouble, Entry, Answer, CloudState, Caller, Seen, Next, Goes, Ends, Stops, Book, Store, store_of, StandsUnder}
use Rattle.cloud_facts.specs.Homes.Homes.{Part, PartHolds}
use Rattle.cloud_trait.specs.declared.answer.Answer.TheVariants.{Memory}
use Rattle.cloud_trait.specs.declared.turn.CkptAnswer.{CkptAnswer}
use Rattle.cloud_trait.specs.Weather.{Makes, Rose}
use Rattle.page_ckpt.specs.Paging.{Paging, PagingLeads, paging_ask}
use Rattle.recover_run.specs.declared.stage.RecoverAnswer.{RecoverAnswer}
use Rattle.recover_run.specs.Recovery.{Recovery, recovery_ask, recovery_next, IsSound}
use Rattle.session_facts.specs.Machines.Openings.Knows.{KnowsOpening}
use Rattle.session_facts.specs.Machines.PageCheckpoints.Knows.{KnowsPaging, leases_of_paging}
use Rattle.session_facts.specs.Sessions.Explains.{trouble_of_recovery, trouble_of_making, trouble_of_part, left_in_tree, left_of_part, MeetsNext, IsShown}
use Rattle.session_facts.specs.Sessions.Spent.{IsSpentToSettle}
use Rattle.session_facts.specs.Machines.Settlings.Knows.{KnowsAtWork, leases_at_work}
use Rattle.session_facts.specs.Machines.TreeCheckpoints.Knows.{KnowsMaking, leases_of_making}
use Rattle.session_facts.proofs.Machines.Openings.Shows.{recovery_shows, StopsWith, recovery_answers}
use Rattle.session_facts.proofs.Machines.PageCheckpoints.Explains.{KeepsNext, left_behind, paging_shown, paging_left, waiting_kept}
use Rattle.session_facts.proofs.Sessions.Spent.{IsToldBy, pages_in_tree}
use Rattle.session_facts.proofs.Sessions.Shows.{free_shown}
use Rattle.session_facts.proofs.Machines.TreeCheckpoints.Explains.{left_next, making_shows, making_left, making_keeps}
use Rattle.settle_run.specs.declared.part.Part.{Part as AtWork}
use Rattle.settle_run.specs.declared.part.Part.TheVariants.{Client, Tree, Page}
use Rattle.settle_run.specs.Parts.{part_ask, recovers, makes, pages, PartLeads, IsSoundPart}
use Rattle.settle_run.specs.Settling.{Settling, Step, settle_ask, counted, with_part, SettleLeads}
use Rattle.settle_run.proofs.Outcomes.{Comes, came_by}
use Rattle.settle_run.proofs.Outcomes as step
use Rattle.tree_ckpt.specs.Making.{Making, making_ask, MakingLeads}
use Rattle.session_facts.proofs.Machines.Settlings.Anew.{BeginsAnew, passed_anew, anew_clean}

-- ---- the part at work

-- how many failed deletions a step of a part tells
abbrev left_by_part : Next AtWork ℕ → ℕ
left_by_part (Goes w) = left_of_part w
left_by_part (Ends w left) = left
left_by_part (Stops w q) = 0

abbrev pub trouble_by : Settling → Option Trouble
trouble_by s = trouble_of_part s.part

-- and one of a settling
abbrev pub left_by : Step → ℕ
left_by (Goes n) = left_of_part n.part
left_by (Ends n x) = 0
left_by (Stops n q) = 0

module _ (who : Caller) (before after : Seen) (s t : CloudState) (book : Book) (order : List Entry) (told : before.state ≡ Some s) (told_after : after.state ≡ Some t)
    (cloud : StandsUnder book order s) (part : Part) (holds : PartHolds (store_of book order s).tally t.now part) (reply : Answer) (found : reply ≢ Memory)
    (tells : IsToldBy (store_of book order s) s t) where
  abbrev st : Store
  st = store_of book order s

  abbrev FaultsRose : Type 0
  FaultsRose = Rose before.counts.faults after.counts.faults

  abbrev Shows : AtWork → Trouble → Type 0
  Shows w k = IsShown (part_ask w) (leases_at_work w) IsSpentToSettle (before.counts, s) (after.counts, t) k

  -- what a step of a part brings
  pub record PartExplains (w : AtWork) (next : Next AtWork ℕ) : Type 0 where
    pub shown : trouble_of_part w ≡ None → (k : Trouble) → MeetsNext trouble_of_part next k → Shows w k
    pub kept : (k : Trouble) → trouble_of_part w ≡ Some k → MeetsNext trouble_of_part next k
    pub left : (left_by_part next ≤ left_of_part w) ⊎ FaultsRose

  client_explains : (client : ℕ) (m : Recovery) → KnowsOpening st t.now m part → IsSound m → Makes who (recovery_ask m) reply before after → (next : Next Recovery RecoverAnswer)
      → recovery_next m reply ≡ next → PartExplains (Client client m) (recovers client next)
  client_explains client m knows sound made next leads = record {
    shown = λ none k meets. recovery_shows who before after s t book order told told_after cloud m part holds reply made knows sound IsSpentToSettle (λ last. inl last) none next leads k (of_client next k meets);
    kept = λ k waits. to_client next k (subst (λ (n : Next Recovery RecoverAnswer). StopsWith n k) leads (recovery_answers m reply k waits));
    left = inl (none_left next);
  }
    where
      of_client : (x : Next Recovery RecoverAnswer) (k : Trouble) → MeetsNext trouble_of_part (recovers client x) k → MeetsNext trouble_of_recovery x k
      of_client (Goes n) k meets = meets
      of_client (Ends n a) k meets = meets
      of_client (Stops n q) k meets = meets

      to_client : (x : Next Recovery RecoverAnswer) (k : Trouble) → StopsWith x k → MeetsNext trouble_of_part (recovers client x) k
      to_client (Goes n) k never = absurd never
      to_client (Ends n a) k never = never
      to_client (Stops n q) k is = is

      none_left : (x : Next Recovery RecoverAnswer) → left_by_part (recovers client x) ≤ 0
      none_left (Goes n) = omega arith
      none_left (Ends n a) = omega arith
      none_left (Stops n q) = omega arith

  tree_explains : (tree : ℕ) (m : Making) → KnowsMaking st t.now m → Makes who (making_ask m) reply before after → (next : Next Making CkptAnswer) → MakingLeads m reply next
      → PartExplains (Tree tree m) (makes tree next)
  tree_explains tree m knows made next leads = record {
    shown = λ none k meets. making_shows who before after s t told told_after (leases_of_making m) IsSpentToSettle reply st t.now m knows made tells (λ what is. inr (m.tree, is)) next leads none k (of_tree next k meets);
    kept = λ k waits. to_tree next k (making_keeps m reply next leads k waits);
    left = tree_left next (making_left who before after s t told told_after (leases_of_making m) IsSpentToSettle reply st t.now m knows made tells (λ what is. inr (m.tree, is)) next leads found);
  }
    where
      of_tree : (x : Next Making CkptAnswer) (k : Trouble) → MeetsNext trouble_of_part (makes tree x) k → MeetsNext trouble_of_making x k
      of_tree (Goes n) k meets = meets
      of_tree (Ends n a) k meets = meets
      of_tree (Stops n q) k meets = meets

      to_tree : (x : Next Making CkptAnswer) (k : Trouble) → MeetsNext trouble_of_making x k → MeetsNext trouble_of_part (makes tree x) k
      to_tree (Goes n) k meets = meets
      to_tree (Ends n a) k meets = meets
      to_tree (Stops n q) k meets = meets

      tree_left : (x : Next Making CkptAnswer) → (left_next x ≤ left_in_tree m.work) ⊎ FaultsRose → (left_by_part (makes tree x) ≤ left_in_tree m.work) ⊎ FaultsRose
      tree_left (Goes n) left = left
      tree_left (Ends n a) left = left
      tree_left (Stops n q) left = left

  page_explains : (tree page : ℕ) (m : Paging) → KnowsPaging st t.now m → Makes who (paging_ask m) reply before after → (next : Next Paging CkptAnswer) → PagingLeads m reply next
      → PartExplains (Page tree page m) (pages tree page next)
  page_explains tree page m knows made next leads = record {
    shown = λ none k meets. paging_shown who before after s t told told_after (leases_of_paging m) IsSpentToSettle st t.now m reply knows made tells (λ what is. inr (m.tree, pages_in_tree m.tree t what is)) none next leads k (of_page next k meets);
    kept = λ k waits. to_page_part next k (waiting_kept m reply knows.waits k waits next leads);
    left = page_left next (paging_left who before after s t told told_after (leases_of_paging m) IsSpentToSettle st t.now m reply knows made tells (λ what is. inr (m.tree, pages_in_tree m.tree t what is)) found next leads);
  }
    where
      of_page : (x : Next Paging CkptAnswer) (k : Trouble) → MeetsNext trouble_of_part (pages tree page x) k → MeetsNext (λ (n : Paging). n.trouble) x k
      of_page (Goes n) k meets = meets
      of_page (Ends n a) k meets = meets
      of_page (Stops n q) k meets = meets

      to_page_part : (x : Next Paging CkptAnswer) (k : Trouble) → KeepsNext k x → MeetsNext trouble_of_part (pages tree page x) k
      to_page_part (Goes n) k kept = kept
      to_page_part (Ends n a) k kept = kept
      to_page_part (Stops n q) k kept = kept

      page_left : (x : Next Paging CkptAnswer) → (left_behind x ≤ m.deletions.left) ⊎ FaultsRose → (left_by_part (pages tree page x) ≤ m.deletions.left) ⊎ FaultsRose
      page_left (Goes n) left = left
      page_left (Ends n a) left = left
      page_left (Stops n q) left = left

  part_explains : (w : AtWork) → KnowsAtWork st t.now w part → IsSoundPart w → Makes who (part_ask w) reply before after → (next : Next AtWork ℕ)
      → PartLeads w reply next → PartExplains w next
  part_explains (Client client m) k sound made next (step, leads, to) = subst (PartExplains (Client client m)) (sym to) (client_explains client m k.knows sound made step leads)
  part_explains (Tree tree m) k sound made next (step, leads, to) = subst (PartExplains (Tree tree m)) (sym to) (tree_explains tree m k.knows made step leads)
  part_explains (Page tree page m) k sound made next (step, leads, to) = subst (PartExplains (Page tree page m)) (sym to) (page_explains tree page m k.knows made step leads)

  -- ---- the settling

  module _ (m : Settling) where
    anew_shows : (next : Step) → BeginsAnew next → (k : Trouble) → MeetsNext trouble_by next k → Shows m.part k
    anew_shows (Goes n) anew k meets = absurd (let other : None ≡ Some k = sym (anew_clean n.part anew).0 ∙ meets in cc (other))
    anew_shows (Ends n x) anew k never = absurd never
    anew_shows (Stops n q) anew k same = subst (Shows m.part) same (free_shown (part_ask m.part) (leases_at_work m.part) IsSpentToSettle before.counts after.counts s t q anew)

    anew_left : (next : Step) → BeginsAnew next → left_by next ≤ left_of_part m.part
    anew_left (Goes n) anew = let none : left_of_part n.part ≡ 0 = (anew_clean n.part anew).1 in omega (arith, none)
    anew_left (Ends n x) anew = omega arith
    anew_left (Stops n q) anew = omega arith

    shows_by : {x : Next AtWork ℕ} {next : Step} → Comes m x next → PartExplains m.part x → trouble_of_part m.part ≡ None → left_of_part m.part ≡ 0 → (k : Trouble)
        → MeetsNext trouble_by next k → Shows m.part k
    shows_by (step.goes w) e none clean k meets = e.shown none k meets
    shows_by (step.stops w q) e none clean k meets = e.shown none k meets
    shows_by (step.leaves w left some) e none clean k same = subst (Shows m.part) same (rose e.left)
      where
        -- none had failed before, so this call failed
        rose : (left ≤ left_of_part m.part) ⊎ FaultsRose → FaultsRose
        rose (inl most) = absurd (omega (arith, some, most, clean))
        rose (inr failed) = failed
    shows_by (step.ends w next is) e none clean k meets = anew_shows next (passed_anew (counted (with_part m w)) next is) k meets

    keeps_by : {x : Next AtWork ℕ} {next : Step} → Comes m x next → PartExplains m.part x → (k : Trouble) → trouble_of_part m.part ≡ Some k → MeetsNext trouble_by next k
    keeps_by (step.goes w) e k waits = e.kept k waits
    keeps_by (step.stops w q) e k waits = e.kept k waits
    keeps_by (step.leaves w left some) e k waits = absurd (e.kept k waits)
    keeps_by (step.ends w next is) e k waits = absurd (e.kept k waits)

    left_after : {x : Next AtWork ℕ} {next : Step} → Comes m x next → PartExplains m.part x → (left_by next ≤ left_of_part m.part) ⊎ FaultsRose
    left_after (step.goes w) e = e.left
    left_after (step.ends w next is) e = inl (anew_left next (passed_anew (counted (with_part m w)) next is))
    left_after c e = inl (omega arith)

    module _ (knows : KnowsAtWork st t.now m.part part) (sound : IsSoundPart m.part) (made : Makes who (settle_ask m) reply before after) where
      explained : (x : Next AtWork ℕ) → PartLeads m.part reply x → PartExplains m.part x
      explained x leads = part_explains m.part knows sound made x leads

      pub settle_shows : (next : Step) → SettleLeads m reply next → trouble_of_part m.part ≡ None → left_of_part m.part ≡ 0 → (k : Trouble) → MeetsNext trouble_by next k
          → IsShown (settle_ask m) (leases_at_work m.part) IsSpentToSettle (before.counts, s) (after.counts, t) k
      settle_shows next (x, leads, to) none clean k meets = shows_by (came_by m x next to) (explained x leads) none clean k meets

      pub settle_keeps : (next : Step) → SettleLeads m reply next → (k : Trouble) → trouble_of_part m.part ≡ Some k → MeetsNext trouble_by next k
      settle_keeps next (x, leads, to) k waits = keeps_by (came_by m x next to) (explained x leads) k waits

      pub settle_left : (next : Step) → SettleLeads m reply next → (left_by next ≤ left_of_part m.part) ⊎ Rose before.counts.faults after.counts.faults
      settle_left next (x, leads, to) = left_after (came_by m x next to) (explained x leads)
