-- Why the way up stops: what is due there has something spent.
use Rattle.std.proofs.Common.{◌≡◌, ◌<◌, ◌+◌, ℕ, zero, suc, Bool, true, false, List, [], ◌∷◌, length, Option, Some, None, Result, Ok, Err, refl, ap, subst, ◌∙◌, inl, inr, ◌⊎◌, arith}
use Rattle.std.specs.Prelude.{◌==◌, ◌||◌, ◌&&◌, ◌-◌, not, is_none, is_some, slice_get, map}
use Rattle.std.proofs.lemmas.List.{length-map, length-reverse}
use Rattle.node_codec.specs.Inner.{Inner, inner_of}
use Rattle.node_codec.specs.Tree.{Tree}
use Rattle.split_plan.specs.Cut.{cut_by as pieces_by}
use Rattle.split_plan.specs.Part.{NodePart, entry_key, part_of_node}
use Rattle.split_plan.specs.Plan.{put_of, on_pages, node_bytes, node_pieces}
use Rattle.split_plan.specs.Sizes.{count_of, cuts_of}
use Rattle.tree_phases.specs.Placing.{has_nothing}
use Rattle.tree_phases.specs.Read.{inner_read, tree_held}
use Rattle.tree_phases.specs.Reserve.{version_spent, reservation}
use Rattle.tree_phases.specs.Nodes as nodes
use Rattle.tree_phases.specs.Rising.{RisingStep, next_touched, touched_node, rise, landed}
use Rattle.tree_ckpt.specs.Causes.{Calls, Shows}
use Rattle.tree_ckpt.specs.Due.{NodeDue, RootDue, WasLastButOne}
use Rattle.tree_ckpt.proofs.Words.{Trouble, Answer, Goes, Ends, Stops, Ask, KeptNode, Placing, Reserved, Rising, PagePlan, RootPlan}
use Rattle.tree_ckpt.proofs.Brought.{IsKeptNode, AreKept, Charted}
use Rattle.tree_ckpt.proofs.Folds.{not_empty}
use Rattle.tree_ckpt.proofs.Plots.{HasPut, spent_shows, chart_landed}
use Rattle.tree_ckpt.proofs.RiseOutcomes.{IsRising, Rises, Lands, rises, lands}
use Rattle.tree_ckpt.proofs.RiseOutcomes as step
use Rattle.tree_ckpt.proofs.Spent.{IsSpentFor, PlanTells, CutsShort, node_plan_tells, last_plan_tells, last_plan_short}

pub kept_at : (tree : ℕ) (ks : List KeptNode) (at : ℕ) (k : KeptNode) (cs : Calls) → AreKept tree ks cs → slice_get ks at ≡ Some k → IsKeptNode tree k cs
kept_at tree [] at k cs h e = absurd (cc (e))
kept_at tree (x ∷ xs) zero k cs h e = let same : x ≡ k = cc (e) in subst (λ (n : KeptNode). IsKeptNode tree n cs) same h.0
kept_at tree (x ∷ xs) (suc at) k cs h e = kept_at tree xs at k cs h.1 e

-- where the last version is reserved, the tree object stood at the last version but one
abbrev pub KnowsSpent : ℕ → Rising → Calls → Type 0
KnowsSpent tree r cs = r.is_spent ≡ true → WasLastButOne tree cs

-- a page is to be put
HasPage : Placing → Type 0
HasPage p = 0 < length p.puts

page_is : (p : Placing) → HasPage p → has_nothing p ≡ false
unfolding HasPage
page_is p some = on p.reserved where
  on : (reserved : Option (List ℕ)) → (is_none reserved && (length p.puts == 0)) ≡ false
  on (Some bytes) = refl
  on None = not_empty p.puts some

pages_some : (page free : ℕ) (ps : List NodePart) → length (on_pages page free ps) ≡ length ps
pages_some page free [] = refl
pages_some page free (p ∷ ps) = omega (arith, pages_some free (free + 1) ps)

cut_some : (sizes : List ℕ) (free : ℕ) (p : NodePart) → 0 < length (pieces_by entry_key sizes free p)
cut_some [] free p = omega arith
cut_some (n ∷ sizes) free p = omega arith

pieces_some : (page : ℕ) (n : Inner) (r : Reserved) → HasPage (nodes.in_pieces page n r).placing
unfolding HasPage
pieces_some page n r =
    let ps : List NodePart = node_pieces r.first n in
    omega (
      arith,
      length-reverse (map (put_of node_bytes) (on_pages page r.first ps)),
      length-map (on_pages page r.first ps) (put_of node_bytes),
      pages_some page r.first ps,
      cut_some (cuts_of (length n.entries)) r.first (part_of_node n),
    )

abbrev NodeHasPage : Result PagePlan Trouble → Type 0
NodeHasPage (Ok p) = HasPage p.placing
NodeHasPage (Err t) = Unit {0}

by_some : (page : ℕ) (n : Inner) (r : Result Reserved Trouble) → NodeHasPage (nodes.planned_by page n r)
by_some page n (Ok r) = pieces_some page n r
by_some page n (Err t) = tt

of_some : (t : Tree) (page : ℕ) (r : Result Inner Trouble) → NodeHasPage (nodes.planned_of t page r)
of_some t page (Ok n) = by_some page n (reservation t page (count_of (length n.entries) - 1))
of_some t page (Err f) = tt

-- what is due on the way up has something spent
abbrev pub UpSpends : Rising → Trouble → Type 0
UpSpends up t =
    ((k : KeptNode) × (n : Inner) × (touched_node up ≡ Some k) × (inner_of k.bytes ≡ Some n) × IsSpentFor (NodeDue (tree_held up.chart.root) n up.chart.links) t)
    ⊎ ((touched_node up ≡ None) × IsSpentFor (RootDue (tree_held up.chart.root) up.chart.links up.chart.run.top) t)

module _ (tree : ℕ) (cs : Calls) (ask : Ask) (a : Answer) where
  -- ---- the way

  abbrev pub RiseTells : Rising → RisingStep → Type 0
  RiseTells up (Goes r) = Charted tree r.chart cs × IsRising r × KnowsSpent tree r cs
  RiseTells up (Ends r x) = Unit {0}
  RiseTells up (Stops r t) = Shows tree cs ask a t × UpSpends up t

  either_true : (b : Bool) → (b || true) ≡ true
  either_true true = refl
  either_true false = refl

  -- a tree object is put, or its pieces are
  root_rises : (p : RootPlan) (spent : Bool) → p.is_spent ≡ spent → (p.is_spent ≡ true → 0 < length p.placing.puts) → (not (has_nothing p.placing) || (true && not p.is_spent)) ≡ true
  unfolding HasPage
  root_rises p false e some = ap (λ (b : Bool). not (has_nothing p.placing) || not b) e ∙ either_true (not (has_nothing p.placing))
  root_rises p true e some = ap (λ (b : Bool). not b || not p.is_spent) (page_is p.placing (some e))

  rises_tell : {r : Rising} {next : RisingStep} → Charted tree r.chart cs → KnowsSpent tree r cs → Rises r next → RiseTells r next
  rises_tell {r = r} c spent (step.node_due k p at e) = (
    record { same = c.same; root = c.root; nodes = c.nodes },
    ap (λ (b : Bool). not b || (is_some r.last && not r.is_spent))
        (page_is p.placing (subst NodeHasPage e (of_some (tree_held r.chart.root) k.page (nodes.linked_by r.chart.links (inner_read r.chart.tree k.page k.bytes))))),
    spent,
  )
  rises_tell {r = r} c spent (step.no_node k t at e) =
      let kept : IsKeptNode tree k cs = kept_at tree r.chart.nodes (next_touched r) k cs c.nodes at in
      let h : IsSpentFor (NodeDue (tree_held r.chart.root) kept.1.0 r.chart.links) t =
      subst (PlanTells (NodeDue (tree_held r.chart.root) kept.1.0 r.chart.links)) e (node_plan_tells (tree_held r.chart.root) r.chart.tree k kept.1.0 r.chart.links kept.1.1) in
      (spent_shows tree cs ask a (NodeDue (tree_held r.chart.root) kept.1.0 r.chart.links) t h, inl (k, kept.1.0, at, kept.1.1, h))
  rises_tell {r = r} c spent (step.root_due p none e) =
      let short : CutsShort (tree_held r.chart.root) (Ok p) = subst (CutsShort (tree_held r.chart.root)) e (last_plan_short (tree_held r.chart.root) r.chart.links r.chart.run.top) in (
        record { same = c.same; root = c.root; nodes = c.nodes },
        root_rises p p.is_spent refl (λ f. (short f).1),
        λ f. (tree_held r.chart.root, c.root, (short f).0),
      )
  rises_tell {r = r} c spent (step.no_root t none e) =
      let h : IsSpentFor (RootDue (tree_held r.chart.root) r.chart.links r.chart.run.top) t =
      subst (PlanTells (RootDue (tree_held r.chart.root) r.chart.links r.chart.run.top)) e (last_plan_tells (tree_held r.chart.root) r.chart.links r.chart.run.top) in
      (spent_shows tree cs ask a (RootDue (tree_held r.chart.root) r.chart.links r.chart.run.top) t h, inr (none, h))

  pub rise_tells : (r : Rising) → Charted tree r.chart cs → KnowsSpent tree r cs → RiseTells r (rise r)
  rise_tells r c spent = rises_tell c spent (rises r)

  -- behind the last put of a node, or behind the pieces of a tree object for which no version is left
  abbrev pub PutStops : Rising → Trouble → Type 0
  PutStops r t =
      (has_nothing r.placing ≡ false) × (has_nothing (landed r).placing ≡ true)
      × (((r.last ≡ None) × UpSpends (landed r) t) ⊎ ((is_some r.last ≡ true) × (r.is_spent ≡ true) × (t ≡ version_spent)))

  abbrev pub PutTells : Rising → RisingStep → Type 0
  PutTells r (Goes n) = Charted tree n.chart cs × IsRising n × KnowsSpent tree n cs
  PutTells r (Ends n x) = Unit {0}
  PutTells r (Stops n t) = Shows tree cs ask a t × PutStops r t

  put_tells : (r : Rising) (next : RisingStep) → has_nothing r.placing ≡ false → has_nothing (landed r).placing ≡ true → r.last ≡ None → RiseTells (landed r) next → PutTells r next
  put_tells r (Goes n) some nothing between h = h
  put_tells r (Ends n x) some nothing between h = h
  put_tells r (Stops n t) some nothing between h = (h.0, (some, nothing, inl (between, h.1)))

  pub rise_put_tells : {r : Rising} {next : RisingStep} → Charted tree r.chart cs → KnowsSpent tree r cs → HasPut tree cs ask a r.placing.reserved → Lands r (Ok tt) next → PutTells r next
  rise_put_tells k spent put (step.is_last x nothing) = tt
  rise_put_tells {r = r} k spent put (step.more x some on) = (chart_landed tree cs ask a r.chart r.placing k put, on, spent)
  rise_put_tells k spent put (step.cut_short x some nothing behind short) = (tt, (some, nothing, inr (behind, short, refl)))
  rise_put_tells {r = r} {next = next} k spent put (step.goes_on x some nothing between on) =
      put_tells r next some nothing between (rises_tell (chart_landed tree cs ask a r.chart r.placing k put) spent on)
