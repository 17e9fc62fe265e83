-- Why an answer, a plan or a way down stops a checkpoint: no damage does.
use Rattle.std.proofs.Common.{◌+◌, ◌==◌, ℕ, Bool, true, false, cond, Some, None, Result, Ok, Err}
use Rattle.std.specs.Prelude.{nat_lt}
use Rattle.cloud_facts.specs.Words.{Trouble, Tree, Claim, Next, Goes, Ends, Stops, Store}
use Rattle.db_base.specs.declared.trouble.Trouble.TheVariants as trouble
use Rattle.node_codec.specs.Tree.{tree_bytes}
use Rattle.session_facts.specs.Sessions.Spent.{IsOfFolding}
use Rattle.session_facts.specs.Machines.TreeCheckpoints.Knows.{MayStopTree}
use Rattle.tree_phases.specs.declared.descent.Descent.{Descent}
use Rattle.session_facts.specs.Machines.Trees.Ways.{WayLeads}
use Rattle.tree_phases.specs.declared.reserve.Reserved.{Reserved}
use Rattle.tree_phases.specs.Reserve.{version_spent, pages_spent, next_tree, reserved, reserved_by, reservation}
use Rattle.session_facts.proofs.Machines.Refusals.{TakesRefusals}

-- a step that stops does so for such a trouble
abbrev pub StopsWell : {M A : Type 0} → Next M A → Type 0
StopsWell (Goes m) = Unit {0}
StopsWell (Ends m x) = Unit {0}
StopsWell (Stops m t) = MayStopTree t

-- a counter stands at its last value
abbrev pub IsSpent : Trouble → Type 0
IsSpent (trouble.Exhausted what) = IsOfFolding what
IsSpent t = ⊥

pub spent_may : (t : Trouble) → IsSpent t → MayStopTree t
spent_may (trouble.Exhausted what) is = is
spent_may t is = absurd is

-- what it comes to is no other trouble
abbrev pub IsFair : {X : Type 0} → Result X Trouble → Type 0
IsFair (Ok x) = Unit {0}
IsFair (Err t) = IsSpent t

-- an answer that brings no value stops it
pub tree_refusals : TakesRefusals MayStopTree
tree_refusals = record { failed = tt; late = λ until now. tt; memory = tt }

-- ---- numbers that are reserved

pub next_fair : (t : Tree) → IsFair (next_tree t)
next_fair t = on (t.version == 18446744073709551615)
  where
    on : (b : Bool) → (let kept : Result Tree Trouble = Ok (record t { version = t.version + 1 }) in IsFair (cond b (Err version_spent) kept))
    on true = tt
    on false = tt

reserved_fair : (count : ℕ) (t : Tree) → IsFair (reserved count t)
reserved_fair count t = on (nat_lt 18446744073709551615 (t.next + count))
  where
    on : (b : Bool)
        → (let kept : Result Reserved Trouble = Ok (record { put = Some (tree_bytes (record t { next = t.next + count })); first = t.next }) in IsFair (cond b (Err pages_spent) kept))
    on true = tt
    on false = tt

by_fair : (count : ℕ) (t : Result Tree Trouble) → IsFair t → IsFair (reserved_by count t)
by_fair count (Ok t) may = reserved_fair count t
by_fair count (Err t) may = may

pub reservation_fair : (t : Tree) (page count : ℕ) → IsFair (reservation t page count)
reservation_fair t page count = on (count == 0)
  where
    on : (b : Bool) → (let kept : Result Reserved Trouble = Ok (record { put = None; first = page }) in IsFair (cond b kept (reserved_by count (next_tree t))))
    on true = tt
    on false = by_fair count (next_tree t) (next_fair t)

-- ---- the way down

-- it stops for what it may
pub descent_may : (st : Store) (now : ℕ) (lease : Claim) (May : Trouble → Type 0) → ((t : Trouble) → May t → MayStopTree t) → (next : Next Descent (Unit {0})) → WayLeads st now lease May next
    → StopsWell next
descent_may st now lease May may (Goes d) k = tt
descent_may st now lease May may (Ends d x) k = tt
descent_may st now lease May may (Stops d t) k = may t k
