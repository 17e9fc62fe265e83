-- Why a settling stops: for no object that is damaged, no fence, no way, no page and no stale read.
use Rattle.std.proofs.Common.{◌≡◌, ◌∙◌, ℕ, true, false, List, Some, sym, subst}
use Rattle.cloud_facts.specs.Calls.Acting.{footing, actor, Setting}
use Rattle.cloud_facts.specs.Words.{Trouble, Entry, Answer, CloudState, Caller, Claim, Next, Goes, Ends, Stops, Book, Store, store_of, IsCall}
use Rattle.cloud_trait.specs.declared.turn.CkptAnswer.{CkptAnswer}
use Rattle.db_base.specs.declared.trouble.Counter.TheVariants as counter
use Rattle.db_base.specs.declared.trouble.Trouble.TheVariants as trouble
use Rattle.cloud_facts.specs.Homes.Homes.{Parts}
use Rattle.leaf_view.specs.Lookup.{page_at}
use Rattle.session_facts.specs.Machines.Openings.Knows.{MayStopOpening}
use Rattle.session_facts.proofs.Machines.Openings.Stops.{opening_stops}
use Rattle.page_ckpt.specs.Paging.{Paging, PagingLeads}
use Rattle.session_facts.specs.Machines.PageCheckpoints.Knows.{MayStopPage}
use Rattle.session_facts.proofs.Machines.PageCheckpoints.Outcome.{paging_stops}
use Rattle.recover_run.specs.declared.stage.RecoverAnswer.{RecoverAnswer}
use Rattle.recover_run.specs.Recovery.{Recovery, recovery_next}
use Rattle.session_facts.specs.Sessions.Stops.{MaySettle}
use Rattle.session_facts.specs.Machines.Settlings.Knows.{IsOfNoPage, KnowsAtWork, KnowsSettling, leases_at_work, leases_of_settling}
use Rattle.session_facts.proofs.Machines.Settlings.Ways.{PartWay, part_way, unvisited}
use Rattle.settle_run.specs.declared.part.Part.{Part as AtWork}
use Rattle.settle_run.specs.declared.part.Part.TheVariants.{Client, Tree, Page}
use Rattle.settle_run.specs.Parts.{part_ask, recovers, makes, pages, PartLeads}
use Rattle.settle_run.specs.Settling.{Settling, Step, settle_ask, is_visited, counted, with_part, SettleLeads}
use Rattle.settle_run.proofs.Outcomes.{Passes, passes_by, Comes, came_by}
use Rattle.settle_run.proofs.Outcomes as step
use Rattle.tree_ckpt.specs.Making.{Making, MakingLeads}
use Rattle.session_facts.specs.Machines.TreeCheckpoints.Knows.{MayStopTree}
use Rattle.session_facts.proofs.Machines.TreeCheckpoints.Outcome.{making_stops}

-- ---- where a settling goes on

abbrev StepMay : Step → Type 0
StepMay (Goes s) = Unit {0}
StepMay (Ends s x) = Unit {0}
StepMay (Stops s t) = MaySettle t

-- where a checkpoint of a page leads is a page whose own checkpoints did not begin before
abbrev LeadsOnce : AtWork → Settling → Type 0
LeadsOnce (Client client m) s = Unit {0}
LeadsOnce (Tree tree m) s = Unit {0}
LeadsOnce (Page tree page m) s = (right : ℕ) → page_at m.home.right ≡ Some right → is_visited s right ≡ false

passes_may : {s : Settling} {next : Step} → Passes s next → LeadsOnce s.part s → StepMay next
passes_may (step.round s tree page m right none link seen) once = absurd (let clash : true ≡ false = sym seen ∙ once right link in cc (clash))
passes_may p once = tt

-- ---- the part at work

abbrev PartMay : Settling → Next AtWork ℕ → Type 0
PartMay s (Goes w) = Unit {0}
PartMay s (Ends w left) = LeadsOnce w s
PartMay s (Stops w t) = MaySettle t

-- the settling counts a call, and stands as its part does
same_once : (s : Settling) (w : AtWork) → LeadsOnce w s → LeadsOnce w (counted (with_part s w))
same_once s (Client client m) once = tt
same_once s (Tree tree m) once = tt
same_once s (Page tree page m) once = once

may_by : {s : Settling} {x : Next AtWork ℕ} {next : Step} → Comes s x next → PartMay s x → StepMay next
may_by (step.stops w t) may = may
may_by {s = s} (step.ends w next e) may = passes_may (passes_by (counted (with_part s w)) next e) (same_once s w may)
may_by c may = tt

of_opening : (t : Trouble) → MayStopOpening t → MaySettle t
of_opening (trouble.Exhausted counter.Epoch) may = tt
of_opening trouble.Failed may = tt
of_opening (trouble.Late end now) may = tt
of_opening (trouble.Busy lock until) may = tt
of_opening (trouble.Waiting have need) may = tt
of_opening trouble.Memory may = tt
of_opening t may = absurd may

of_tree : (t : Trouble) → MayStopTree t → MaySettle t
of_tree trouble.Failed may = tt
of_tree (trouble.Late end now) may = tt
of_tree (trouble.Busy lock until) may = tt
of_tree (trouble.Exhausted counter.Version) may = tt
of_tree (trouble.Exhausted counter.Pages) may = tt
of_tree trouble.Memory may = tt
of_tree t may = absurd may

of_page : (page : ℕ) (t : Trouble) → MayStopPage page t → IsOfNoPage t → MaySettle t
of_page page trouble.Failed may fair = tt
of_page page (trouble.Late end now) may fair = tt
of_page page (trouble.Busy lock until) may fair = tt
of_page page (trouble.Exhausted counter.Version) may fair = tt
of_page page trouble.Memory may fair = tt
of_page page (trouble.Absent named) may fair = absurd fair
of_page page (trouble.NotALeaf named) may fair = absurd fair
of_page page t may fair = absurd may

module _ (who : Caller) (s t : CloudState) (book : Book) (order : List Entry) (parts : Parts) (reply : Answer) (at : Settling) (leases : List Claim)
    (setting : Setting (footing book order s) t.now (actor parts who.session leases)) where
  abbrev st : Store
  st = store_of book order s

  part_may : (w : AtWork) → Setting (footing book order s) t.now (actor parts who.session (leases_at_work w)) → KnowsAtWork st s.now w (parts who.session) → IsCall who (part_ask w) reply s t
      → (x : Next AtWork ℕ) → PartLeads w reply x → PartWay st at.visited x → PartMay at x
  part_may (Client client m) held k call x (step, leads, to) way = subst (PartMay at) (sym to) (on step leads)
    where
      on : (step : Next Recovery RecoverAnswer) → recovery_next m reply ≡ step → PartMay at (recovers client step)
      on (Goes n) leads = tt
      on (Ends n a) leads = tt
      on (Stops n q) leads = of_opening q (opening_stops st s.now m (parts who.session) reply k.knows n q leads)
  part_may (Tree tree m) held k call x (step, leads, to) way = subst (PartMay at) (sym to) (on step leads)
    where
      on : (step : Next Making CkptAnswer) → MakingLeads m reply step → PartMay at (makes tree step)
      on (Goes n) leads = tt
      on (Ends n a) leads = tt
      on (Stops n q) leads = of_tree q (making_stops who s t book order parts (leases_at_work (Tree tree m)) m reply held (λ y is. is) k.knows call n q leads)
  part_may (Page tree page m) held k call x (step, leads, to) way = subst (PartMay at) (sym to) (on step leads (subst (PartWay st at.visited) to way))
    where
      on : (step : Next Paging CkptAnswer) → PagingLeads m reply step → PartWay st at.visited (pages tree page step) → PartMay at (pages tree page step)
      on (Goes n) leads way = tt
      on (Ends n a) leads way = unvisited who s t book order parts leases reply at.visited setting tree way.0 at page n.home way.1 way.2
      on (Stops n q) leads way = of_page m.page q (paging_stops who s t book order parts (leases_at_work (Page tree page m)) m reply held k.knows call n q leads) way

pub settling_stops : (who : Caller) (s t : CloudState) (book : Book) (order : List Entry) (parts : Parts) (reply : Answer) (m : Settling)
    → Setting (footing book order s) t.now (actor parts who.session (leases_of_settling m)) → KnowsSettling (store_of book order s) s.now m (parts who.session)
    → IsCall who (settle_ask m) reply s t → (n : Settling) (k : Trouble) → SettleLeads m reply (Stops n k) → MaySettle k
settling_stops who s t book order parts reply m setting knows call n k (x, leads, to) =
    may_by (came_by m x (Stops n k) to)
    (part_may who s t book order parts reply m (leases_of_settling m) setting m.part setting knows.work call x leads
    (part_way who s t book order parts (leases_of_settling m) reply m.visited setting m.part knows.work knows.way call x leads))
