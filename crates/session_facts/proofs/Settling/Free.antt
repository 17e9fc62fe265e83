-- Where nobody else has a lease, no call of a settling finds a lock held.
use Rattle.std.proofs.Common.{◌≡◌, ◌≢◌, ◌≤◌, inl, ℕ, List, [], refl, sym, subst}
use Rattle.cloud_trait.specs.Calm.{TakesFree}
use Rattle.ckpt_parts.specs.Leasing.{outstanding_after}
use Rattle.cloud_facts.specs.Words.{Lock, Answer, CloudState, called, Caller, Claim, Next, Goes, Ends, Stops, Store}
use Rattle.cloud_facts.specs.Homes.Homes.{Part}
use Rattle.cloud_trait.specs.declared.answer.Answer.TheVariants.{Failed, Memory}
use Rattle.cloud_trait.specs.declared.turn.CkptAnswer.{CkptAnswer}
use Rattle.cloud_trait.specs.State.{Counts}
use Rattle.cloud_trait.specs.Weather.{counted as counted_state, Weather}
use Rattle.page_ckpt.specs.Paging.{Paging}
use Rattle.recover_run.specs.declared.stage.RecoverAnswer.{RecoverAnswer}
use Rattle.recover_run.specs.Recovery.{Recovery}
use Rattle.session_facts.specs.Machines.Openings.Knows.{leases_of_recovery}
use Rattle.session_facts.specs.Machines.PageCheckpoints.Knows.{leases_of_paging}
use Rattle.session_facts.specs.Settling.Locks.{HoldsAlone, UsesOwn}
use Rattle.session_facts.specs.Machines.Settlings.Knows.{KnowsAtWork, leases_at_work, leases_of_settling}
use Rattle.session_facts.specs.Machines.TreeCheckpoints.Knows.{leases_of_making}
use Rattle.session_facts.proofs.Settling.Recoveries.Leases.{recovery_uses, recovery_holds}
use Rattle.session_facts.proofs.Settling.Locks.{HoldsNext, takes_free, call_alone}
use Rattle.session_facts.proofs.Settling.Pages.Leases.{paging_uses, paging_holds}
use Rattle.session_facts.proofs.Settling.Trees.Leases.{making_uses, making_holds}
use Rattle.session_facts.proofs.Machines.Settlings.Anew.{BeginsAnew, passed_anew, each_anew}
use Rattle.settle_run.proofs.Outcomes.{Comes, came_by}
use Rattle.settle_run.proofs.Outcomes as step
use Rattle.settle_run.specs.declared.part.Part.{Part as AtWork}
use Rattle.settle_run.specs.declared.part.Part.TheVariants.{Client, Tree, Page}
use Rattle.settle_run.specs.Parts.{part_again, part_ask, recovers, makes, pages, PartLeads, IsSoundPart}
use Rattle.settle_run.specs.Settling.{Settling, Step, new_settling, settle_ask, counted, with_part, SettleLeads}
use Rattle.tree_ckpt.specs.Making.{Making}

-- ---- the part at work

part_uses : (st : Store) (now : ℕ) (w : AtWork) (part : Part) → KnowsAtWork st now w part → IsSoundPart w → UsesOwn (part_ask w) (leases_at_work w)
part_uses st now (Client client m) part k sound = recovery_uses st now m part k.knows sound
part_uses st now (Tree tree m) part k sound = making_uses st now m k.knows
part_uses st now (Page tree page m) part k sound = paging_uses st now m k.knows

client_holds : (held : List Claim) (client : ℕ) (next : Next Recovery RecoverAnswer) → HoldsNext leases_of_recovery held next → HoldsNext leases_at_work held (recovers client next)
client_holds held client (Goes n) holds = holds
client_holds held client (Ends n a) holds = holds
client_holds held client (Stops n t) holds = holds

tree_holds : (held : List Claim) (tree : ℕ) (next : Next Making CkptAnswer) → HoldsNext leases_of_making held next → HoldsNext leases_at_work held (makes tree next)
tree_holds held tree (Goes n) holds = holds
tree_holds held tree (Ends n a) holds = holds
tree_holds held tree (Stops n t) holds = holds

page_holds : (held : List Claim) (tree page : ℕ) (next : Next Paging CkptAnswer) → HoldsNext leases_of_paging held next → HoldsNext leases_at_work held (pages tree page next)
page_holds held tree page (Goes n) holds = holds
page_holds held tree page (Ends n a) holds = holds
page_holds held tree page (Stops n t) holds = holds

part_holds : (st : Store) (now : ℕ) (w : AtWork) (part : Part) → KnowsAtWork st now w part → IsSoundPart w → (a : Answer) (next : Next AtWork ℕ) → PartLeads w a next
    → HoldsNext leases_at_work (outstanding_after (part_ask w) a (leases_at_work w)) next
part_holds st now (Client client m) part k sound a next (step, leads, to) =
    subst (HoldsNext leases_at_work (outstanding_after (part_ask (Client client m)) a (leases_at_work (Client client m)))) (sym to)
    (client_holds (outstanding_after (part_ask (Client client m)) a (leases_at_work (Client client m))) client step (recovery_holds st now m part k.aim_is k.knows sound a step leads))
part_holds st now (Tree tree m) part k sound a next (step, leads, to) =
    subst (HoldsNext leases_at_work (outstanding_after (part_ask (Tree tree m)) a (leases_at_work (Tree tree m)))) (sym to)
    (tree_holds (outstanding_after (part_ask (Tree tree m)) a (leases_at_work (Tree tree m))) tree step (making_holds st now m k.knows a step leads))
part_holds st now (Page tree page m) part k sound a next (step, leads, to) =
    subst (HoldsNext leases_at_work (outstanding_after (part_ask (Page tree page m)) a (leases_at_work (Page tree page m)))) (sym to)
    (page_holds (outstanding_after (part_ask (Page tree page m)) a (leases_at_work (Page tree page m))) tree page step (paging_holds st now m k.knows a step leads))

-- ---- what comes next has no lease

again_none : (w : AtWork) → leases_at_work (part_again w) ≡ []
again_none (Client client m) = refl
again_none (Tree tree m) = refl
again_none (Page tree page m) = refl

anew_none : (next : Step) → BeginsAnew next → HoldsNext leases_of_settling [] next
anew_none (Goes n) anew = each_anew (λ (w : AtWork). leases_at_work w ≡ []) again_none n.part anew
anew_none (Ends n x) anew = refl
anew_none (Stops n t) anew = refl

holds_by : {s : Settling} {x : Next AtWork ℕ} {next : Step} → Comes s x next → (held : List Claim) → HoldsNext leases_at_work held x → HoldsNext leases_of_settling held next
holds_by {s = s} (step.ends w next e) held none =
    subst (λ (cs : List Claim). HoldsNext leases_of_settling cs next) (sym none) (anew_none next (passed_anew (counted (with_part s w)) next e))
holds_by (step.goes w) held same = same
holds_by c held none = none

-- ---- a settling

-- before its first call it has none
pub begins_alone : (s : CloudState) → ((l : Lock) → (s.locks l).until ≤ s.now) → HoldsAlone (leases_of_settling new_settling) s
begins_alone s free l = inl (free l)

module _ (st : Store) (now : ℕ) (m : Settling) (part : Part) (knows : KnowsAtWork st now m.part part) (sound : IsSoundPart m.part) where
  -- it takes no lock of one of its leases
  pub settling_uses : UsesOwn (settle_ask m) (leases_of_settling m)
  settling_uses = part_uses st now m.part part knows sound

  -- and has those that its call left it
  pub settling_holds : (a : Answer) (next : Step) → SettleLeads m a next → HoldsNext leases_of_settling (outstanding_after (settle_ask m) a (leases_of_settling m)) next
  settling_holds a next (x, leads, to) =
      holds_by (came_by m x next to) (outstanding_after (settle_ask m) a (leases_of_settling m)) (part_holds st now m.part part knows sound a x leads)

  module _ (s : CloudState) (alone : HoldsAlone (leases_of_settling m) s) where
    -- the lock that its call takes is free
    pub settling_takes_free : (later : ℕ) → s.now ≤ later → TakesFree (settle_ask m) s later
    settling_takes_free later after = takes_free (settle_ask m) (leases_of_settling m) s later alone settling_uses after

    -- and behind a call that found memory and did not fail it is so again
    pub settling_alone : (who : Caller) (a : Answer) (c d : Counts) (t : CloudState) → s.now ≤ t.now → Weather who (settle_ask m) a (counted_state c (called who t.now s)) (counted_state d t) → a ≢ Failed → a ≢ Memory
        → (n : Settling) → SettleLeads m a (Goes n) → HoldsAlone (leases_of_settling n) t
    settling_alone who a c d t later row failed memory n leads =
        subst (λ (cs : List Claim). HoldsAlone cs t) (sym (settling_holds a (Goes n) leads))
        (call_alone who (settle_ask m) a c d s t later row (leases_of_settling m) alone settling_uses failed memory)
