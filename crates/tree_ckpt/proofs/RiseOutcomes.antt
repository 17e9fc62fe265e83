-- What the way up comes to, whatever branches led there.
use Rattle.std.proofs.Common.{◌≡◌, ◌+◌, Bool, true, false, cond, List, ℕ, Option, Some, None, Result, Ok, Err, refl, ap, ◌∙◌}
use Rattle.std.specs.Prelude.{◌||◌, ◌&&◌, not, is_some}
use Rattle.tree_phases.specs.Placing.{has_nothing}
use Rattle.tree_phases.specs.Read.{tree_held}
use Rattle.tree_phases.specs.Reserve.{version_spent}
use Rattle.tree_phases.specs.Nodes.{node_plan}
use Rattle.tree_phases.specs.Rising.{RisingStep, next_touched, touched_node, put_node, put_root, last_plan, rise_at, rise, landed, after_put, risen_by}
use Rattle.tree_ckpt.proofs.Words.{Trouble, Goes, Ends, Stops, KeptNode, Rising, PagePlan, RootPlan}

-- something is to be put on the way up
abbrev pub IsRising : Rising → Type 0
IsRising r = (not (has_nothing r.placing) || (is_some r.last && not r.is_spent)) ≡ true

-- the next node that a link goes to is put, or the tree object where there is none
pub data Rises (r : Rising) : RisingStep → Type 0 where
  node_due : (k : KeptNode) (p : PagePlan) → touched_node r ≡ Some k → node_plan (tree_held r.chart.root) r.chart.tree k r.chart.links ≡ Ok p
      → Rises r (put_node r (next_touched r + 1) (k.level + 1) (Ok p))
  no_node : (k : KeptNode) (t : Trouble) → touched_node r ≡ Some k → node_plan (tree_held r.chart.root) r.chart.tree k r.chart.links ≡ Err t → Rises r (Stops r t)
  root_due : (p : RootPlan) → touched_node r ≡ None → last_plan r ≡ Ok p → Rises r (put_root r (Ok p))
  no_root : (t : Trouble) → touched_node r ≡ None → last_plan r ≡ Err t → Rises r (Stops r t)

-- behind a put: more of it follows, the way up goes on, it has ended, or its last version is spent
pub data Lands (r : Rising) : Result (Unit {0}) Trouble → RisingStep → Type 0 where
  not_put : (t : Trouble) → Lands r (Err t) (Stops r t)
  is_last : (x : Unit {0}) → has_nothing r.placing ≡ true → Lands r (Ok x) (Ends r tt)
  more : (x : Unit {0}) → has_nothing r.placing ≡ false → IsRising (landed r) → Lands r (Ok x) (Goes (landed r))
  cut_short : (x : Unit {0}) → has_nothing r.placing ≡ false → has_nothing (landed r).placing ≡ true → is_some r.last ≡ true → r.is_spent ≡ true
      → Lands r (Ok x) (Stops (landed r) version_spent)
  goes_on : {next : RisingStep} (x : Unit {0}) → has_nothing r.placing ≡ false → has_nothing (landed r).placing ≡ true → r.last ≡ None → Rises (landed r) next
      → Lands r (Ok x) next

-- ---- the way up, taken apart

puts_node : (r : Rising) (k : KeptNode) (plan : Result PagePlan Trouble) → touched_node r ≡ Some k → node_plan (tree_held r.chart.root) r.chart.tree k r.chart.links ≡ plan
    → Rises r (put_node r (next_touched r + 1) (k.level + 1) plan)
puts_node r k (Ok p) at e = node_due k p at e
puts_node r k (Err t) at e = no_node k t at e

puts_root : (r : Rising) (plan : Result RootPlan Trouble) → touched_node r ≡ None → last_plan r ≡ plan → Rises r (put_root r plan)
puts_root r (Ok p) none e = root_due p none e
puts_root r (Err t) none e = no_root t none e

pub rises : (r : Rising) → Rises r (rise r)
rises r = on (touched_node r) refl where
  on : (o : Option KeptNode) → touched_node r ≡ o → Rises r (rise_at r (next_touched r) o)
  on (Some k) e = puts_node r k (node_plan (tree_held r.chart.root) r.chart.tree k r.chart.links) e refl
  on None e = puts_root r (last_plan r) e refl

pub lands : (r : Rising) (done : Result (Unit {0}) Trouble) → Lands r done (risen_by r done)
lands r (Err t) = not_put t
lands r (Ok x) = on (has_nothing r.placing) refl where
  further : has_nothing r.placing ≡ false → (b : Bool) → has_nothing (landed r).placing ≡ b → (last : Option (List ℕ)) → r.last ≡ last → (spent : Bool) → r.is_spent ≡ spent
      → Lands r (Ok x) (cond (not b || is_some last) (cond (b && spent) (Stops (landed r) version_spent) (Goes (landed r))) (rise (landed r)))
  further some false e last l spent s = more x some (ap (λ (b : Bool). not b || (is_some r.last && not r.is_spent)) e)
  further some true e (Some bytes) l true s = cut_short x some e (ap (λ (o : Option (List ℕ)). is_some o) l) s
  further some true e (Some bytes) l false s =
      more x some (ap (λ (b : Bool). not b || (is_some r.last && not r.is_spent)) e
      ∙ (ap (λ (o : Option (List ℕ)). is_some o && not r.is_spent) l ∙ ap not s))
  further some true e None l spent s = goes_on x some e l (rises (landed r))

  on : (b : Bool) → has_nothing r.placing ≡ b → Lands r (Ok x) (cond b (Ends r tt) (after_put (landed r)))
  on true e = is_last x e
  on false e = further e (has_nothing (landed r).placing) refl r.last refl r.is_spent refl

-- ---- .. and back: a way up by what it comes to

pub rises_rise : {r : Rising} {next : RisingStep} → Rises r next → rise r ≡ next
rises_rise {r = r} (node_due k p at e) = ap (rise_at r (next_touched r)) at ∙ ap (put_node r (next_touched r + 1) (k.level + 1)) e
rises_rise {r = r} (no_node k t at e) = ap (rise_at r (next_touched r)) at ∙ ap (put_node r (next_touched r + 1) (k.level + 1)) e
rises_rise {r = r} (root_due p none e) = ap (rise_at r (next_touched r)) none ∙ ap (put_root r) e
rises_rise {r = r} (no_root t none e) = ap (rise_at r (next_touched r)) none ∙ ap (put_root r) e
