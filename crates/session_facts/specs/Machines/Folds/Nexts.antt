-- What is known where the answer of a leaf's get or put leads, and what such a put adds to the audit.
use Rattle.std.specs.Prelude.{ℕ, List, ◌++◌, map}
use Rattle.cloud_facts.specs.Words.{Claim, Ask, PutHeld, Goes, Ends, Stops, Store}
use Rattle.db_base.specs.declared.names.ObjName.TheVariants as object
use Rattle.history.specs.Audited.{Audited, applied_entry}
use Rattle.tree_phases.specs.declared.folding.Folding.{Folding}
use Rattle.tree_phases.specs.declared.folding.Left.TheVariants.{Right, Handled}
use Rattle.tree_phases.specs.Folding.{FoldingStep, applying}
use Rattle.tree_ckpt.specs.declared.work.Coming.{Coming}
use Rattle.session_facts.specs.Machines.Trees.Leaves.{KnowsRest, IsCome, IsPutting}

-- the leaf on the right, to which a leaf is left
abbrev pub right_of : Folding → List ℕ → ℕ → Coming
right_of f low page = record { chart = f.chart; page = page; low = low; visited = f.visited }

abbrev pub KnowsStep : Store → ℕ → Claim → List ℕ → FoldingStep → Type 0
KnowsStep u now lease ids (Goes f) = IsPutting u now lease f ids
KnowsStep u now lease ids (Ends f (Right low page)) = IsCome u now lease (right_of f low page) ids
KnowsStep u now lease ids (Ends f Handled) = KnowsRest u now lease f.chart ids
KnowsStep u now lease ids (Stops f t) = Unit {0}

-- a put of a page adds the records that it applies, which are none but at the leaf's own
abbrev pub fold_note : Folding → Ask → Audited → Audited
fold_note f (PutHeld (object.Page tree page) bytes one two) a = record a { order = a.order ++ map (applied_entry tree) (applying f) }
fold_note f ask a = a
