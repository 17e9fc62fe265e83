-- What is known where a part goes on, ends or stops is known of the settling.
use Rattle.std.proofs.Common.{◌≡◌, ◌+◌, ℕ, zero, suc, List, [], Some, refl, sym, arith}
use Rattle.cloud_facts.specs.Words.{IsClient, IsTree, Answer, Claim, Next, Goes, Ends, Stops, Store}
use Rattle.db_base.specs.Ids.{IsPage}
use Rattle.cloud_facts.specs.Homes.Homes.{Part, Away}
use Rattle.leaf_view.specs.Lookup.{page_at}
use Rattle.settle_run.specs.declared.part.Part.{Part as AtWork}
use Rattle.settle_run.specs.declared.part.Part.TheVariants.{Client, Tree, Page}
use Rattle.settle_run.specs.Parts.{part_again, PartLeads}
use Rattle.settle_run.specs.Settling.{Settling, Step, counted, with_part, moved}
use Rattle.settle_run.proofs.Outcomes.{Passes, passes_by, Comes, comes}
use Rattle.settle_run.proofs.Outcomes as step
use Rattle.session_facts.specs.Machines.Settlings.Knows.{KnowsAtWork, leases_at_work, leases_next}
use Rattle.session_facts.proofs.Machines.Settlings.Anew.{BeginsAnew, passed_anew, each_anew}
use Rattle.session_facts.proofs.Machines.Settlings.Begins.{client_begins, tree_begins, page_begins}

-- ---- where a step of a part leads

-- what is at work is of a client, a tree or a page
abbrev pub IsPlace : AtWork → Type 0
IsPlace (Client client m) = IsClient client
IsPlace (Tree tree m) = IsTree tree
IsPlace (Page tree page m) = IsTree tree × IsPage page

-- a part that is over has left its client
abbrev pub KnowsMoved : Next AtWork ℕ → Store → ℕ → Part → Type 0
KnowsMoved (Goes w) st now part = KnowsAtWork st now w part
KnowsMoved (Ends w left) st now part = IsPlace w × (part ≡ Away)
KnowsMoved (Stops w t) st now part = part ≡ Away

-- .. wherever an answer leads
abbrev pub KnowsBehind : AtWork → Answer → Store → ℕ → Part → Type 0
KnowsBehind w reply st now part = (n : Next AtWork ℕ) → PartLeads w reply n → KnowsMoved n st now part

abbrev pub leases_moved : Next AtWork ℕ → List Claim
leases_moved (Goes w) = leases_at_work w
leases_moved (Ends w left) = []
leases_moved (Stops w t) = []

-- what is at work next
abbrev pub WorksNext : Step → Store → ℕ → Part → Type 0
WorksNext (Goes n) st now part = KnowsAtWork st now n.part part
WorksNext (Ends n x) st now part = part ≡ Away
WorksNext (Stops n t) st now part = part ≡ Away

-- ---- what comes next knows nothing yet

module _ (st : Store) (now : ℕ) (part : Part) (away : part ≡ Away) where
  page_is : (n right : ℕ) → page_at n ≡ Some right → IsPage right
  page_is zero right e = absurd (cc (e))
  page_is (suc n) right e = let same : suc n ≡ right = cc (e) in omega (arith, same)

  again_knows : (w : AtWork) → IsPlace w → KnowsAtWork st now (part_again w) part
  again_knows (Client client m) is = client_begins st now part away client is
  again_knows (Tree tree m) is = tree_begins st now part away tree is
  again_knows (Page tree page m) is = page_begins st now part away tree page is.0 is.1

  passes_know : {s : Settling} {next : Step} → Passes s next → IsPlace s.part → WorksNext next st now part
  passes_know (step.again s id ids news) is = again_knows s.part is
  passes_know (step.next_client s client m less) is = client_begins st now part away (client + 1) (record { some = omega (arith, is.some); most = omega (arith, less) })
  passes_know (step.first_tree s client m most) is = tree_begins st now part away 1 (record { some = omega arith; most = omega arith })
  passes_know (step.first_page s tree m none) is = page_begins st now part away tree 1 is (omega arith)
  passes_know (step.right_page s tree page m right none link new) is = page_begins st now part away tree right is.0 (page_is m.home.right right link)
  passes_know (step.next_tree s tree page m none last less) is =
      let own : IsTree tree = is.0 in
      tree_begins st now part away (tree + 1) (record { some = omega (arith, own.some); most = omega (arith, less) })
  passes_know (step.round s tree page m right none link seen) is = away
  passes_know (step.all_done s tree page m none last most) is = away

know_by : {s : Settling} {x : Next AtWork ℕ} {next : Step} → Comes s x next → (st : Store) (now : ℕ) (part : Part) → KnowsMoved x st now part → WorksNext next st now part
know_by (step.goes w) st now part k = k
know_by (step.stops w t) st now part k = k
know_by (step.leaves w left some) st now part k = k.1
know_by {s = s} (step.ends w next e) st now part k = passes_know st now part k.1 (passes_by (counted (with_part s w)) next e) k.0

pub moved_knows : (s : Settling) (n : Next AtWork ℕ) (st : Store) (now : ℕ) (part : Part) → KnowsMoved n st now part → WorksNext (moved s n) st now part
moved_knows s n st now part k = know_by (comes s n) st now part k

-- ---- and has no lease

again_leases : (w : AtWork) → leases_at_work (part_again w) ≡ []
again_leases (Client client m) = refl
again_leases (Tree tree m) = refl
again_leases (Page tree page m) = refl

anew_leases : (next : Step) → BeginsAnew next → leases_next next ≡ []
anew_leases (Goes n) anew = each_anew (λ (w : AtWork). leases_at_work w ≡ []) again_leases n.part anew
anew_leases (Ends n x) anew = refl
anew_leases (Stops n t) anew = refl

leases_by : {s : Settling} {x : Next AtWork ℕ} {next : Step} → Comes s x next → leases_moved x ≡ leases_next next
leases_by {s = s} (step.ends w next e) = sym (anew_leases next (passed_anew (counted (with_part s w)) next e))
leases_by c = refl

-- the leases in hand are those that the step of the part left
pub moved_leases : (s : Settling) (n : Next AtWork ℕ) → leases_moved n ≡ leases_next (moved s n)
moved_leases s n = leases_by (comes s n)
