-- A walk one leaf further.
use Rattle.std.proofs.Common.{◌≡◌, ℕ, List, [], ◌∷◌, ◌++◌, refl, sym, ◌∙◌, subst}
use Rattle.std.specs.Prelude.{Option, Some, None}
use Rattle.db_base.specs.Ids.{IsPage}
use Rattle.db_base.specs.declared.names.ObjName.TheVariants.{Page}
use Rattle.report_types.specs.declared.stored.Stored.{Stored}
use Rattle.cloud_trait.specs.State.{CloudState, newest}
use Rattle.replay_meaning.specs.Chain.{Leads, Walked}
use Rattle.replay_meaning.proofs.ChainLemmas.{leads_on, records_on, right_page, no_page}
use Rattle.world_audit.specs.Walk.{Adds}

pub walk_first : (s : CloudState) (tree : ℕ) → Walked s tree 1 []
walk_first s tree = record { leaves = []; lead = refl; are = refl }

pub walk_on : (s : CloudState) (tree page to : ℕ) (next : Option ℕ) (old new : List Stored)
    → Walked s tree page old → IsPage page → next ≡ Some to → Adds (newest s (Page tree page)) tree page old new next → Walked s tree to new
walk_on s tree page to next old new w is_page e a = record {
  leaves = w.leaves ++ a.leaf ∷ [];
  lead = subst (λ (n : ℕ). Leads s tree 1 (w.leaves ++ a.leaf ∷ []) n) (right_page a.leaf.right to (sym e ∙ a.right)) (leads_on s tree 1 w.leaves page a.leaf w.lead is_page a.read);
  are = records_on w.leaves a.leaf old new w.are a.added;
}

pub walk_ends : (s : CloudState) (tree page : ℕ) (next : Option ℕ) (old new : List Stored)
    → Walked s tree page old → IsPage page → next ≡ None → Adds (newest s (Page tree page)) tree page old new next → Walked s tree 0 new
walk_ends s tree page next old new w is_page e a = record {
  leaves = w.leaves ++ a.leaf ∷ [];
  lead = subst (λ (n : ℕ). Leads s tree 1 (w.leaves ++ a.leaf ∷ []) n) (no_page a.leaf.right (sym e ∙ a.right)) (leads_on s tree 1 w.leaves page a.leaf w.lead is_page a.read);
  are = records_on w.leaves a.leaf old new w.are a.added;
}
