-- The leases of a settling.
use Rattle.std.proofs.Common.{◌≡◌, ℕ, List, [], refl, sym, ap, subst, ◌∙◌}
use Rattle.cloud_facts.specs.Calls.Acting.{footing, exchange, actor, Setting, Handles}
use Rattle.cloud_facts.specs.Words.{Entry, Answer, CloudState, Caller, Claim, Next, Goes, Ends, Stops, Book, IsIn, store_of, IsCall}
use Rattle.cloud_facts.proofs.Calls.Outcomes.{fewer_handles}
use Rattle.cloud_trait.specs.declared.turn.CkptAnswer.{CkptAnswer}
use Rattle.cloud_facts.specs.Homes.Homes.{Part, Parts}
use Rattle.session_facts.specs.Machines.Openings.Knows.{leases_of_recovery, leases_of_next}
use Rattle.session_facts.proofs.Machines.Openings.Hands.{opening_handles}
use Rattle.page_ckpt.specs.Paging.{Step as PageStep}
use Rattle.session_facts.specs.Machines.PageCheckpoints.Knows.{leases_of_paging, leases_next as leases_paging}
use Rattle.session_facts.proofs.Machines.PageCheckpoints.Hands.{paging_handles, paging_home_handles}
use Rattle.recover_run.specs.Recovery.{Recovery, Step as RecoveryStep, recovery_ask, recovery_next}
use Rattle.settle_run.specs.declared.part.Part.{Part as AtWork}
use Rattle.settle_run.specs.declared.part.Part.TheVariants.{Client, Tree, Page}
use Rattle.settle_run.specs.Parts.{part_ask, recovers, makes, pages, PartLeads}
use Rattle.settle_run.specs.Settling.{Settling, Step, settle_ask, SettleLeads}
use Rattle.session_facts.specs.Machines.Settlings.Knows.{KnowsAtWork, KnowsSettling, leases_at_work, leases_of_settling, leases_next}
use Rattle.session_facts.proofs.Machines.Settlings.Beside.{handles_alone}
use Rattle.session_facts.proofs.Machines.Settlings.Nexts.{leases_moved, moved_leases}
use Rattle.session_facts.proofs.Machines.Settlings.Others.{at_work_later}
use Rattle.cloud_facts.proofs.Book.Places.{in_none}
use Rattle.tree_ckpt.specs.Making.{Making}
use Rattle.session_facts.specs.Machines.TreeCheckpoints.Knows.{leases_of_making, leases_next as leases_making}
use Rattle.session_facts.proofs.Machines.TreeCheckpoints.Hands.{making_handles, making_home_handles}

-- what a step of a machine leaves is what the part has then
making_leases : (tree : ℕ) (n : Next Making CkptAnswer) → leases_making n ≡ leases_moved (makes tree n)
making_leases tree (Goes m) = refl
making_leases tree (Ends m x) = refl
making_leases tree (Stops m t) = refl

paging_leases : (tree page : ℕ) (n : PageStep) → leases_paging n ≡ leases_moved (pages tree page n)
paging_leases tree page (Goes m) = refl
paging_leases tree page (Ends m x) = refl
paging_leases tree page (Stops m t) = refl

recovery_leases : (client : ℕ) (n : RecoveryStep) (x : Claim) → IsIn (leases_moved (recovers client n)) x → IsIn (leases_of_next n) x
recovery_leases client (Goes m) x is = is
recovery_leases client (Ends m a) x is = absurd (in_none [] x refl is)
recovery_leases client (Stops m t) x is = is

module _ (who : Caller) (s t : CloudState) (book : Book) (order : List Entry) (parts : Parts) (leases : List Claim) (reply : Answer) (part : Part)
    (setting : Setting (footing book order s) t.now (actor parts who.session leases)) where
  abbrev Does : AtWork → List Claim → Type 0
  Does w after = Handles (exchange who s t (part_ask w) reply) (leases_at_work w) after

  opens : (client : ℕ) (m : Recovery) → KnowsAtWork (store_of book order s) s.now (Client client m) part → IsCall who (recovery_ask m) reply s t
      → Handles (exchange who s t (recovery_ask m) reply) (leases_of_recovery m) (leases_of_next (recovery_next m reply))
  opens client m k call = let later = at_work_later (store_of book order s) s.now t.now (Client client m) part call.later k in opening_handles who book order s t m part reply later.knows

  work_handles : (w : AtWork) → KnowsAtWork (store_of book order s) s.now w part → IsCall who (part_ask w) reply s t → (n : Next AtWork ℕ) → PartLeads w reply n → Does w (leases_moved n)
  work_handles (Client client m) k call n (step, leads, is) =
      subst (λ q. Does (Client client m) (leases_moved q)) (sym is)
      (fewer_handles who s t (recovery_ask m) reply (leases_of_recovery m) (leases_of_next step) (leases_moved (recovers client step)) (recovery_leases client step)
      (subst (λ q. Handles (exchange who s t (recovery_ask m) reply) (leases_of_recovery m) (leases_of_next q)) leads (opens client m k call)))
  work_handles (Tree tree m) k call n (step, leads, is) =
      subst (Does (Tree tree m)) (making_leases tree step ∙ sym (ap leases_moved is))
      (handles_alone who s t (part_ask (Tree tree m)) reply (leases_of_making m) (leases_making step) 1
      (λ home home_lock. making_handles who s t book order parts leases m reply setting k.knows call home 1 home_lock step leads))
  work_handles (Page tree page m) k call n (step, leads, is) =
      subst (Does (Page tree page m)) (paging_leases tree page step ∙ sym (ap leases_moved is))
      (handles_alone who s t (part_ask (Page tree page m)) reply (leases_of_paging m) (leases_paging step) 1
      (λ home home_lock. paging_handles who s t book order parts leases m reply setting k.knows call home 1 home_lock step leads))

  work_drops : (w : AtWork) → KnowsAtWork (store_of book order s) s.now w part → IsCall who (part_ask w) reply s t → Does w []
  work_drops (Client client m) k call =
      fewer_handles who s t (recovery_ask m) reply (leases_of_recovery m) (leases_of_next (recovery_next m reply)) [] (λ x is. absurd (in_none [] x refl is)) (opens client m k call)
  work_drops (Tree tree m) k call =
      handles_alone who s t (part_ask (Tree tree m)) reply (leases_of_making m) [] 1
      (λ home home_lock. making_home_handles who s t book order parts leases m reply setting k.knows call home 1 home_lock)
  work_drops (Page tree page m) k call =
      handles_alone who s t (part_ask (Page tree page m)) reply (leases_of_paging m) [] 1
      (λ home home_lock. paging_home_handles who s t book order parts leases m reply setting k.knows call home 1 home_lock)

-- the leases of a call of a settling, and those in hand where it leads: none at an end or a stop
pub settling_handles : (who : Caller) (s t : CloudState) (book : Book) (order : List Entry) (parts : Parts) (leases : List Claim) (m : Settling) (part : Part) (reply : Answer)
    → Setting (footing book order s) t.now (actor parts who.session leases) → KnowsSettling (store_of book order s) s.now m part → IsCall who (settle_ask m) reply s t → (next : Step)
    → SettleLeads m reply next → Handles (exchange who s t (settle_ask m) reply) (leases_of_settling m) (leases_next next)
settling_handles who s t book order parts leases m part reply setting k call next (n, leads, is) =
    subst (Handles (exchange who s t (settle_ask m) reply) (leases_of_settling m)) (moved_leases m n ∙ sym (ap leases_next is))
    (work_handles who s t book order parts leases reply part setting m.part k.work call n leads)

-- wherever it leads, and also where memory ran out, all may be let go
pub settling_drops : (who : Caller) (s t : CloudState) (book : Book) (order : List Entry) (parts : Parts) (leases : List Claim) (m : Settling) (part : Part) (reply : Answer)
    → Setting (footing book order s) t.now (actor parts who.session leases) → KnowsSettling (store_of book order s) s.now m part → IsCall who (settle_ask m) reply s t
    → Handles (exchange who s t (settle_ask m) reply) (leases_of_settling m) []
settling_drops who s t book order parts leases m part reply setting k call = work_drops who s t book order parts leases reply part setting m.part k.work call
