-- The tree object that is put last has a cursor that is raised to the run's top.
use Rattle.std.proofs.Common.{◌≡◌, ◌+◌, ℕ, Bool, true, false, cond, List, [], ◌∷◌, length, Option, Some, None, Result, Ok, Err, refl, sym, subst, ◌∙◌}
use Rattle.std.specs.Prelude.{◌==◌, ◌&&◌, nat_lt}
use Rattle.node_codec.specs.Node.{raised, with_entry}
use Rattle.node_codec.specs.Tree.{Tree, tree_bytes, with_child}
use Rattle.split_plan.specs.Plan.{root_above}
use Rattle.split_plan.specs.Sizes.{count_of}
use Rattle.tree_phases.specs.Read.{tree_held}
use Rattle.tree_phases.specs.Reserve.{version_spent, pages_spent, reservation}
use Rattle.tree_phases.specs.Root.{is_named, with_named, new_pages, lowered, cut_at, cut_by, cut_behind, root_cut, root_plan, uncut}
use Rattle.tree_phases.specs.Root as root
use Rattle.tree_phases.specs.Rising.{RisingStep, plan_of, last_plan, rise, landed, risen_by}
use Rattle.tree_ckpt.proofs.Words.{Trouble, Taken, Goes, Ends, Stops, Link, Reserved, Rising, RootPlan}
use Rattle.tree_ckpt.proofs.RiseOutcomes.{Rises, Lands, rises, lands}
use Rattle.tree_ckpt.proofs.RiseOutcomes as step

-- bytes of a tree object whose cursor is raised to the run's top
abbrev pub IsLastRoot : Taken → List ℕ → Type 0
IsLastRoot run bytes = (t : Tree) × (before : List (ℕ × ℕ)) × (bytes ≡ tree_bytes t) × (t.cursor ≡ raised before run.top)

-- where the last put is made, it is such
abbrev pub LastIs : Rising → Type 0
LastIs r = (bytes : List ℕ) → r.last ≡ Some bytes → IsLastRoot r.chart.run bytes

pub none_last : (r : Rising) → r.last ≡ None → LastIs r
none_last r none bytes e = absurd (let other : None ≡ Some bytes = sym none ∙ e in cc (other))

-- ---- the plan

child_cursor : (low : List ℕ) (page : ℕ) (t : Tree) → (with_child low page t).cursor ≡ t.cursor
child_cursor low page t = on (nat_lt page t.next) where
  on : (b : Bool) → (cond b (record t { entries = with_entry low page t.entries }) t).cursor ≡ t.cursor
  on true = refl
  on false = refl

named_cursor : (level : ℕ) (ls : List Link) (t : Tree) → (with_named level ls t).cursor ≡ t.cursor
named_cursor level [] t = refl
named_cursor level (l ∷ ls) t = on (is_named level l) (λ u. named_cursor level ls u) where
  on : (b : Bool) → ((u : Tree) → (with_named level ls u).cursor ≡ u.cursor) → (with_named level ls (cond b (with_child l.low l.page t) t)).cursor ≡ t.cursor
  on true rest = rest (with_child l.low l.page t) ∙ child_cursor l.low l.page t
  on false rest = rest t

abbrev PlanLasts : Taken → Result RootPlan Trouble → Type 0
PlanLasts run (Ok p) = IsLastRoot run p.last
PlanLasts run (Err t) = Unit {0}

cut_lasts : (run : Taken) (before : List (ℕ × ℕ)) (t : Tree) (put : Option (List ℕ)) (count : ℕ) (spent : Bool) → t.cursor ≡ raised before run.top
    → PlanLasts run (cut_at put count spent t)
cut_lasts run before t put count spent e = on (nat_lt 18446744073709551615 (t.next + count)) where
  on : (b : Bool) → PlanLasts run (cond b (Err pages_spent) (Ok (lowered put spent (record t { next = t.next + count }) t.next)))
  on true = tt
  on false = (root_above (new_pages t.next (record t { next = t.next + count })) (record t { next = t.next + count }), before, refl, e)

next_lasts : (run : Taken) (before : List (ℕ × ℕ)) (t : Tree) (put : Option (List ℕ)) (count : ℕ) (b : Bool) → t.cursor ≡ raised before run.top
    → PlanLasts run (cut_by put count t (cond b (Err version_spent) (Ok (record t { version = t.version + 1 }))))
next_lasts run before t put count true e = cut_lasts run before t put count true e
next_lasts run before t put count false e = cut_lasts run before (record t { version = t.version + 1 }) put count false e

behind_lasts : (run : Taken) (before : List (ℕ × ℕ)) (t : Tree) (r : Result Reserved Trouble) → t.cursor ≡ raised before run.top → PlanLasts run (cut_behind t r)
behind_lasts run before t (Ok r) e = next_lasts run before t r.put (count_of (length t.entries)) (t.version == 18446744073709551615) e
behind_lasts run before t (Err f) e = tt

root_lasts : (run : Taken) (before : List (ℕ × ℕ)) (stood t : Tree) → t.cursor ≡ raised before run.top → PlanLasts run (root_plan stood t)
root_lasts run before stood t e = on (nat_lt 64 (length t.entries) && nat_lt stood.level 255) where
  on : (b : Bool) → PlanLasts run (cond b (root_cut stood t) (Ok (uncut t)))
  on true = behind_lasts run before t (reservation stood 1 (count_of (length t.entries))) e
  on false = (t, before, refl, e)

last_lasts : (r : Rising) → PlanLasts r.chart.run (last_plan r)
last_lasts r = on ((tree_held r.chart.root).version == 18446744073709551615) where
  up : Tree
  up = record (record (tree_held r.chart.root) { version = (tree_held r.chart.root).version + 1 }) { cursor = raised (tree_held r.chart.root).cursor r.chart.run.top }

  on : (b : Bool)
      → PlanLasts r.chart.run (plan_of (tree_held r.chart.root) (root.risen_by (tree_held r.chart.root).level r.chart.links r.chart.run.top
      (cond b (Err version_spent) (Ok (record (tree_held r.chart.root) { version = (tree_held r.chart.root).version + 1 })))))
  on true = tt
  on false =
      root_lasts r.chart.run (tree_held r.chart.root).cursor (tree_held r.chart.root) (with_named (tree_held r.chart.root).level r.chart.links up)
      (named_cursor (tree_held r.chart.root).level r.chart.links up)

-- ---- the way up

-- where it goes on the run stays, and the last put is as it is to be
abbrev pub UpKeeps : Rising → RisingStep → Type 0
UpKeeps r (Goes e) = (e.chart.run ≡ r.chart.run) × LastIs e
UpKeeps r (Ends e x) = Unit {0}
UpKeeps r (Stops e t) = Unit {0}

rises_keep : {r : Rising} {next : RisingStep} → LastIs r → Rises r next → UpKeeps r next
rises_keep last (step.node_due k p at e) = (refl, last)
rises_keep {r = r} last (step.root_due p none e) =
    (refl, λ bytes f. let same : p.last ≡ bytes = cc (f) in subst (IsLastRoot r.chart.run) same (subst (PlanLasts r.chart.run) e (last_lasts r)))
rises_keep last c = tt

pub rise_keeps : (r : Rising) → LastIs r → UpKeeps r (rise r)
rise_keeps r last = rises_keep last (rises r)

-- the same from where a put landed
from_landed : (r : Rising) (next : RisingStep) → UpKeeps (landed r) next → UpKeeps r next
from_landed r (Goes e) h = h
from_landed r (Ends e x) h = tt
from_landed r (Stops e t) h = tt

lands_keep : {r : Rising} {done : Result (Unit {0}) Trouble} {next : RisingStep} → LastIs r → Lands r done next → UpKeeps r next
lands_keep last (step.more x some up) = (refl, last)
lands_keep {r = r} {next = next} last (step.goes_on x some nothing between up) = from_landed r next (rises_keep last up)
lands_keep last c = tt

pub risen_keeps : (r : Rising) (done : Result (Unit {0}) Trouble) → LastIs r → UpKeeps r (risen_by r done)
risen_keeps r done last = lands_keep last (lands r done)
