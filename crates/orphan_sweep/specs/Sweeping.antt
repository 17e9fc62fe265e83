-- A sweep as a machine: what it knows, what it asks, and where each answer leads.
use Rattle.std.specs.Prelude.{ℕ, ◌≡◌, ◌+◌, ◌-◌, ◌==◌, not, Bool, List, [], ◌∷◌, ◌++◌, length, filter, slice_get, Option, Some, None, Result, Ok, Err, if◌then◌else◌}
use Rattle.std.specs.List.{list_any}
use Rattle.db_base.specs.Limits.{tree_ticks}
use Rattle.db_base.specs.declared.names.Lock.TheVariants as lock
use Rattle.db_base.specs.declared.names.ObjName.TheVariants as object
use Rattle.db_base.specs.declared.trouble.Trouble.{Trouble}
use Rattle.db_base.specs.declared.trouble.Trouble.TheVariants as trouble
use Rattle.node_codec.specs.Tree.{Tree}
use Rattle.cloud_trait.specs.declared.answer.Answer.{Answer}
use Rattle.cloud_trait.specs.declared.answer.Answer.TheVariants.{Failed}
use Rattle.cloud_trait.specs.declared.turn.Turn.{Turn}
use Rattle.cloud_trait.specs.Ask.{Ask, GetHeld, ListHeld, RemoveHeld, Take, Release}
use Rattle.cloud_trait.specs.Claim.{Claim}
use Rattle.cloud_trait.specs.Machine.{Next, Goes, Ends, Stops, Took, Machine, machine_by, LeadsBy}
use Rattle.cloud_trait.specs.Views.{given_of, got_of, listed_of, done_of}
use Rattle.orphan_sweep.specs.declared.paths.Paths.{Paths}
use Rattle.orphan_sweep.specs.declared.spot.Spot.{Spot}
use Rattle.orphan_sweep.specs.declared.stage.Stage.{Stage}
use Rattle.orphan_sweep.specs.declared.stage.Stage.TheVariants.{TakingTree, GettingTree, Reading, Listing, Removing, Releasing, Finished}
use Rattle.orphan_sweep.specs.declared.swept.Swept.{Swept}
use Rattle.orphan_sweep.specs.Pages.{leftmost, root_held, top_spot, paths_of, onward}

-- where a sweep stands: its tree, the tree's lease, the page at hand, the pages that it came to, that one with them, the listed pages that it
-- did not come to, how many it came to, how many of the others it removed, and the trouble that it answers once its lease is given back
pub record Sweeping : Type 0 where
  pub tree : ℕ
  pub stage : Stage
  pub held : Option Claim
  pub at : Spot
  pub visited : List ℕ
  pub orphans : List ℕ
  pub kept : ℕ
  pub removed : ℕ
  pub trouble : Option Trouble

-- the sweep of a tree before its first call
abbrev pub new_sweeping : ℕ → Sweeping
new_sweeping tree = record {
  tree = tree;
  stage = TakingTree;
  held = None;
  at = leftmost 0 1;
  visited = [];
  orphans = [];
  kept = 0;
  removed = 0;
  trouble = None;
}

-- ---- the call in hand

abbrev pub take_tree : Sweeping → Ask
take_tree s = Take (lock.Tree s.tree) tree_ticks

-- under the tree's lease, where it is held
abbrev pub under : Sweeping → Option Claim → (Claim → Ask) → Ask
under s (Some l) ask = ask l
under s None ask = take_tree s

-- the first orphan that is not removed
abbrev pub next_orphan : Sweeping → Option ℕ
next_orphan s = slice_get s.orphans s.removed

abbrev pub remove_next : Sweeping → Claim → Option ℕ → Ask
remove_next s l (Some page) = RemoveHeld (object.Page s.tree page) l
remove_next s l None = take_tree s

abbrev pub ask_at : Stage → Sweeping → Ask
ask_at TakingTree s = take_tree s
ask_at GettingTree s = under s s.held (GetHeld (object.Tree s.tree))
ask_at Reading s = under s s.held (GetHeld (object.Page s.tree s.at.page))
ask_at Listing s = under s s.held (ListHeld s.tree)
ask_at Removing s = under s s.held (λ l. remove_next s l (next_orphan s))
ask_at Releasing s = under s s.held Release
ask_at Finished s = take_tree s

abbrev pub sweep_ask : Sweeping → Ask
sweep_ask s = ask_at s.stage s

-- ---- the lease as the call in hand leaves it

abbrev pub held_after : Stage → Option Claim → Option Claim
held_after Releasing held = None
held_after stage held = held

-- a lease that the call in hand gives back has left
abbrev pub handed : Sweeping → Sweeping
handed s = record s { held = held_after s.stage s.held }

-- ---- where an answer leads

abbrev pub Step : Type 0
Step = Next Sweeping Swept

-- the lease is given back, and then the sweep stops
abbrev pub stopping : Sweeping → Trouble → Step
stopping s t = Goes (record s { stage = Releasing; trouble = Some t })

abbrev pub taken_by : Sweeping → Result Claim Trouble → Step
taken_by s (Ok l) = Goes (record s { stage = GettingTree; held = Some l })
taken_by s (Err t) = Stops s t

-- whether a page is among these
abbrev pub is_among : List ℕ → ℕ → Bool
is_among pages page = list_any (λ q. q == page) pages

-- the page is read next
abbrev pub to_page : Sweeping → Spot → Step
to_page s spot = Goes (record s { stage = Reading; at = spot; visited = s.visited ++ spot.page ∷ [] })

-- .. unless the sweep came to it before; where there is none, the listing is next
abbrev pub goes_on : Sweeping → Option Spot → Step
goes_on s (Some spot) = if is_among s.visited spot.page then stopping s (trouble.Loop spot.page) else to_page s spot
goes_on s None = Goes (record s { stage = Listing })

abbrev pub root_found : Sweeping → Result Tree Trouble → Step
root_found s (Ok root) = goes_on s (Some (top_spot root))
root_found s (Err t) = stopping s t

-- after the held get of the tree object
abbrev pub root_got : Sweeping → Result (Option (List ℕ)) Trouble → Step
root_got s (Ok got) = root_found s (root_held s.tree got)
root_got s (Err t) = stopping s t

abbrev pub page_found : Sweeping → Result Paths Trouble → Step
page_found s (Ok paths) = goes_on s (onward s.at paths)
page_found s (Err t) = stopping s t

-- after the held get of a page
abbrev pub page_got : Sweeping → Result (Option (List ℕ)) Trouble → Step
page_got s (Ok got) = page_found s (paths_of s.tree s.at got)
page_got s (Err t) = stopping s t

-- the next orphan is removed next, or the lease is given back where none is left
abbrev pub removes_by : Sweeping → Option ℕ → Step
removes_by s (Some page) = Goes (record s { stage = Removing })
removes_by s None = Goes (record s { stage = Releasing })

abbrev pub removes : Sweeping → Step
removes s = removes_by s (next_orphan s)

-- the listed pages that the sweep did not come to, in the order of the list
abbrev pub strays : List ℕ → List ℕ → List ℕ
strays visited listed = filter (λ page. not (is_among visited page)) listed

abbrev pub with_list : Sweeping → List ℕ → Sweeping
with_list s listed =
    record s { orphans = strays s.visited listed; kept = length listed - length (strays s.visited listed); removed = 0 }

-- after the listing
abbrev pub listed_by : Sweeping → Result (List ℕ) Trouble → Step
listed_by s (Ok listed) = removes (with_list s listed)
listed_by s (Err t) = stopping s t

abbrev pub one_removed : Sweeping → Sweeping
one_removed s = record s { removed = s.removed + 1 }

-- after a removal
abbrev pub removed_by : {A : Type 0} → Sweeping → Result A Trouble → Step
removed_by s (Ok _) = removes (one_removed s)
removed_by s (Err t) = stopping s t

-- what a sweep answers at its end
abbrev pub swept_of : Sweeping → Swept
swept_of s = record { kept = s.kept; removed = s.removed }

-- after the release, whatever it answered
abbrev pub finished_by : Sweeping → Option Trouble → Step
finished_by s (Some t) = Stops (record s { stage = Finished; trouble = None }) t
finished_by s None = Ends (record s { stage = Finished }) (swept_of s)

-- where an answer leads once the lease has left that the call gave back
abbrev pub absorbed_at : Stage → Sweeping → Answer → Step
absorbed_at TakingTree s a = taken_by s (given_of (lock.Tree s.tree) a)
absorbed_at GettingTree s a = root_got s (got_of a)
absorbed_at Reading s a = page_got s (got_of a)
absorbed_at Listing s a = listed_by s (listed_of a)
absorbed_at Removing s a = removed_by s (done_of a)
absorbed_at Releasing s a = finished_by s s.trouble
absorbed_at Finished s a = Stops s trouble.Failed

abbrev pub absorbed : Sweeping → Answer → Step
absorbed s a = absorbed_at s.stage s a

-- where an answer leads
abbrev pub sweep_next : Sweeping → Answer → Step
sweep_next s a = absorbed (handed s) a

-- at want of memory the step leaves the lease as it is
abbrev pub SameLease : Sweeping → Answer → Sweeping → Type 0
SameLease s a n = n.held ≡ s.held

-- a part of the step leads so from this state, whatever was answered; at want of memory it keeps the lease
abbrev pub TurnsBy : (Sweeping → Next Sweeping Swept → Type 0) → Sweeping → Sweeping → Turn Swept → Type 0
TurnsBy leads old new turn = Took (λ from _ next. leads from next) SameLease old Failed new turn

-- and so does the call with its step, but for a lease that the call gives back
abbrev pub KeepsLease : Sweeping → Answer → Sweeping → Type 0
KeepsLease s a n = n.held ≡ (handed s).held

-- a sweep, as a machine
abbrev pub sweep_machine : Machine Sweeping Swept
sweep_machine = machine_by sweep_ask (LeadsBy sweep_next) KeepsLease
