-- A settling goes on with a part that puts no head but settled ones.
use Rattle.std.proofs.Common.{◌≡◌, ℕ, refl, sym, subst}
use Rattle.cloud_trait.specs.declared.answer.Answer.{Answer}
use Rattle.cloud_trait.specs.declared.turn.CkptAnswer.{CkptAnswer}
use Rattle.cloud_trait.specs.Machine.{Next, Goes, Ends, Stops}
use Rattle.page_ckpt.specs.Paging.{Paging}
use Rattle.recover_run.specs.Recovery.{Recovery, recovery_next}
use Rattle.recover_run.specs.declared.stage.RecoverAnswer.{RecoverAnswer}
use Rattle.settle_run.specs.declared.part.Part.{Part}
use Rattle.settle_run.specs.declared.part.Part.TheVariants.{Client, Tree, Page}
use Rattle.settle_run.specs.Parts.{part_again, recovers, makes, pages, PartLeads}
use Rattle.settle_run.specs.Settling.{Settling, Step, counted, with_part, SettleLeads}
use Rattle.settle_run.proofs.Outcomes.{Comes, came_by}
use Rattle.settle_run.proofs.Outcomes as step
use Rattle.tree_ckpt.specs.Making.{Making}
use Rattle.session_facts.specs.Lines.Running.{IsSettledHead, PutsSettled}
use Rattle.session_facts.proofs.Machines.Openings.SettledHeads.{settled_on}
use Rattle.session_facts.proofs.Machines.Settlings.Anew.{BeginsAnew, passed_anew, each_anew}

-- where the part goes on
abbrev PartOn : Next Part ℕ → Type 0
PartOn (Goes part) = PutsSettled part
PartOn (Ends part left) = Unit {0}
PartOn (Stops part t) = Unit {0}

recovers_on : (client : ℕ) (r : Recovery) (a : Answer) (n : Next Recovery RecoverAnswer) → recovery_next r a ≡ n → IsSettledHead r → PartOn (recovers client n)
recovers_on client r a (Goes m) leads h = settled_on r m a leads h
recovers_on client r a (Ends m answer) leads h = tt
recovers_on client r a (Stops m t) leads h = tt

makes_on : (tree : ℕ) (n : Next Making CkptAnswer) → PartOn (makes tree n)
makes_on tree (Goes m) = tt
makes_on tree (Ends m answer) = tt
makes_on tree (Stops m t) = tt

pages_on : (tree page : ℕ) (n : Next Paging CkptAnswer) → PartOn (pages tree page n)
pages_on tree page (Goes m) = tt
pages_on tree page (Ends m answer) = tt
pages_on tree page (Stops m t) = tt

part_on : (part : Part) (a : Answer) (next : Next Part ℕ) → PartLeads part a next → PutsSettled part → PartOn next
part_on (Client client r) a next (n, leads, is) h = subst PartOn (sym is) (recovers_on client r a n leads h)
part_on (Tree tree m) a next (n, leads, is) h = subst PartOn (sym is) (makes_on tree n)
part_on (Page tree page m) a next (n, leads, is) h = subst PartOn (sym is) (pages_on tree page n)

-- where the settling goes on
abbrev SettlesOn : Step → Type 0
SettlesOn (Goes s) = PutsSettled s.part
SettlesOn (Ends s n) = Unit {0}
SettlesOn (Stops s t) = Unit {0}

again_on : (part : Part) → PutsSettled (part_again part)
again_on (Client client m) = refl
again_on (Tree tree m) = tt
again_on (Page tree page m) = tt

anew_on : (next : Step) → BeginsAnew next → SettlesOn next
anew_on (Goes n) anew = each_anew PutsSettled again_on n.part anew
anew_on (Ends n x) anew = tt
anew_on (Stops n t) anew = tt

stays : {s : Settling} {x : Next Part ℕ} {next : Step} → Comes s x next → PartOn x → SettlesOn next
stays (step.goes part) h = h
stays {s = s} (step.ends part next e) h = anew_on next (passed_anew (counted (with_part s part)) next e)
stays c h = tt

pub settling_stays : (s n : Settling) (a : Answer) → SettleLeads s a (Goes n) → PutsSettled s.part → PutsSettled n.part
settling_stays s n a (next, leads, is) h = stays (came_by s next (Goes n) is) (part_on s.part a next leads h)
