-- The troubles that the local work of a checkpoint meets: that of the answer in hand, or one of what was read or planned, which no call shows.
use Rattle.std.proofs.Common.{◌≡◌, ℕ, true, false, List, Option, Some, None, Result, Ok, Err, refl, sym, ap, subst, ◌∙◌}
use Rattle.std.specs.Prelude.{is_some}
use Rattle.byte_format.specs.Whole.{offset}
use Rattle.cloud_facts.specs.Words.{Trouble, Leaf, Inner, Answer, Next, Goes, Ends, Stops, done_of, got_of}
use Rattle.db_base.specs.declared.trouble.Trouble.TheVariants as trouble
use Rattle.tree_phases.specs.declared.folding.Folding.{Folding}
use Rattle.tree_phases.specs.declared.folding.Left.{Left}
use Rattle.tree_phases.specs.declared.page_plan.PagePlan.{PagePlan}
use Rattle.tree_phases.specs.Folding.{bad_low, folding_next}
use Rattle.leaf_view.specs.Leaf.{leaf as leaf_format}
use Rattle.node_codec.specs.Inner.{inner_of, inner_format}
use Rattle.session_facts.proofs.Sessions.Shows.{IsFree}
use Rattle.tree_ckpt.proofs.Spent.{IsSpentFor, PlanTells, leaf_plan_tells, node_plan_tells, last_plan_tells}
use Rattle.tree_ckpt.specs.Due.{Due, LeafDue, NodeDue, RootDue}
use Rattle.tree_ckpt.specs.Working.{HoldsLeaf}
use Rattle.tree_ckpt.proofs.LeafOutcomes.{works}
use Rattle.tree_ckpt.proofs.LeafOutcomes as leaf
use Rattle.tree_ckpt.proofs.RiseOutcomes as rise
use Rattle.tree_ckpt.proofs.WayOutcomes.{Arrives, arrives, Gets}
use Rattle.tree_ckpt.proofs.WayOutcomes as way
use Rattle.tree_phases.specs.declared.descent.Descent.{Descent}
use Rattle.tree_phases.specs.declared.fork.Fork.{Fork}
use Rattle.tree_phases.specs.Descent.{begun}
use Rattle.tree_ckpt.specs.Moves.{down_from, root_entry}
use Rattle.tree_phases.specs.declared.chart.Chart.{Chart}
use Rattle.tree_phases.specs.declared.kept.KeptNode.{KeptNode}
use Rattle.tree_phases.specs.Placing.{has_nothing}
use Rattle.tree_phases.specs.Read.{damaged, inner_or, tree_held}
use Rattle.tree_phases.specs.declared.rising.Rising.{Rising}
use Rattle.tree_phases.specs.declared.root.RootPlan.{RootPlan}
use Rattle.tree_phases.specs.Nodes.{planned_of, linked_by, node_plan}
use Rattle.tree_phases.specs.Rising.{touched_node, landed}
use Rattle.tree_phases.specs.Reserve.{version_spent}

-- what it comes to is no other trouble
abbrev pub HasFree : {X : Type 0} → Result X Trouble → Type 0
HasFree (Ok x) = Unit {0}
HasFree (Err t) = IsFree t

-- ---- what is read

node_free : {d : Descent} {bytes : List ℕ} {r : Result Fork Trouble} → way.Reads d bytes r → HasFree r
node_free (way.leads n f is on) = tt
node_free r = tt

-- a step stops for such a trouble alone
abbrev pub StopsFor : {M A : Type 0} → (Trouble → Type 0) → Next M A → Type 0
StopsFor Met (Goes m) = Unit {0}
StopsFor Met (Ends m x) = Unit {0}
StopsFor Met (Stops m t) = Met t

-- where the plan of what is due is spent, the trouble is met
abbrev pub MeetsSpent : (Trouble → Type 0) → Due → Type 0
MeetsSpent Met due = (t : Trouble) → IsSpentFor due t → Met t

module _ (Met : Trouble → Type 0) (free : (t : Trouble) → IsFree t → Met t) where
  -- ---- down

  arrives_for : {d : Descent} {next : Next Descent (Unit {0})} → Arrives d next → StopsFor Met next
  arrives_for (way.round d above seen) = free (trouble.Loop d.page) tt
  arrives_for (way.breaks d k t fresh kept e reads) = free t (node_free reads)
  arrives_for (way.further d k fork p on) = arrives_for on
  arrives_for w = tt

  pub gets_for : {d : Descent} {g : Result (Option (List ℕ)) Trouble} {next : Next Descent (Unit {0})} → Gets d g next → ((t : Trouble) → g ≡ Err t → Met t) → StopsFor Met next
  gets_for (way.goes_on bytes n fork is leads on) refused = arrives_for on
  gets_for (way.wrong bytes t reads) refused = free t (node_free reads)
  gets_for {d = d} (way.no_root first) refused = free (damaged d.chart.tree d.page 0) tt
  gets_for {d = d} (way.absent other) refused = free (trouble.Absent d.page) tt
  gets_for (way.refused t) refused = refused t refl

  -- ---- a leaf

  -- what is due at a leaf
  abbrev pub leaf_due : Folding → Leaf → Due
  leaf_due f l = LeafDue (tree_held f.chart.root) l f.chart.run.items

  -- each leaf that the answer may be meets what is spent of it
  abbrev pub SpendsLeaf : Folding → Option (List ℕ) → Type 0
  SpendsLeaf f got = (l : Leaf) → HoldsLeaf f.page l got → MeetsSpent Met (leaf_due f l)

  reads_for : (f : Folding) {g : Result (Option (List ℕ)) Trouble} {next : Next Folding Left} → ((t : Trouble) → g ≡ Err t → Met t) → ((got : Option (List ℕ)) → g ≡ Ok got → SpendsLeaf f got)
      → leaf.Reads f g next → StopsFor Met next
  reads_for f refused spent (leaf.refused t) = refused t refl
  reads_for f refused spent (leaf.absent other) = free (trouble.Absent f.page) tt
  reads_for f refused spent (leaf.wrong bytes left e) = free (damaged f.chart.tree f.page (offset leaf_format bytes)) tt
  reads_for f refused spent (leaf.misled got l holds e) = free (bad_low f l.low) tt
  reads_for f refused spent (leaf.loops got l high right behind e) = free (trouble.Loop right) tt
  reads_for f refused spent (leaf.passes got l high right behind e) = tt
  reads_for f refused spent (leaf.spares got l here none) = tt
  reads_for f refused spent (leaf.plans got l x xs p here some e) = tt
  reads_for f refused spent (leaf.unplanned got l x xs t here some e) =
      spent got refl l here.holds t
      (subst (λ (p : Result PagePlan Trouble). PlanTells (leaf_due f l) p) e (leaf_plan_tells (tree_held f.chart.root) f.page l f.chart.run.items))

  placed_for : (f : Folding) {g : Result (Unit {0}) Trouble} {next : Next Folding Left} → ((t : Trouble) → g ≡ Err t → Met t) → leaf.Lands f g next → StopsFor Met next
  placed_for f refused (leaf.not_put t) = refused t refl
  placed_for f refused (leaf.lands x e) = tt
  placed_for f refused (leaf.is_put x e) = tt

  -- the leaf is read while nothing is to be put
  pub folding_for : (f : Folding) (a : Answer) → (has_nothing f.placing ≡ true → (t : Trouble) → got_of a ≡ Err t → Met t)
      → (has_nothing f.placing ≡ false → (t : Trouble) → done_of a ≡ Err t → Met t)
      → (has_nothing f.placing ≡ true → (got : Option (List ℕ)) → got_of a ≡ Ok got → SpendsLeaf f got) → StopsFor Met (folding_next f a)
  folding_for f a unread unput spent = on (works f a)
    where
      on : {next : Next Folding Left} → leaf.Works f a next → StopsFor Met next
      on (leaf.gets e r) = reads_for f (unread e) (spent e) r
      on (leaf.puts e l) = placed_for f (unput e) l

  -- ---- up

  -- what is due on the way up: the next node, or the tree object
  abbrev pub node_due : Rising → Inner → Due
  node_due r n = NodeDue (tree_held r.chart.root) n r.chart.links

  abbrev pub root_due : Rising → Due
  root_due r = RootDue (tree_held r.chart.root) r.chart.links r.chart.run.top

  -- whatever is due next meets what is spent of it
  pub record SpendsUp (r : Rising) : Type 0 where
    pub node : (k : KeptNode) → touched_node r ≡ Some k → (n : Inner) → inner_of k.bytes ≡ Some n → MeetsSpent Met (node_due r n)
    pub root : MeetsSpent Met (root_due r)

  -- a node that does not read as one is damaged
  plan_for : (r : Rising) (k : KeptNode) (o : Option Inner) → inner_of k.bytes ≡ o → ((n : Inner) → inner_of k.bytes ≡ Some n → MeetsSpent Met (node_due r n)) → (t : Trouble)
      → node_plan (tree_held r.chart.root) r.chart.tree k r.chart.links ≡ Err t → Met t
  plan_for r k (Some n) reads spent t e =
      spent n reads t (subst (λ (p : Result PagePlan Trouble). PlanTells (node_due r n) p) e (node_plan_tells (tree_held r.chart.root) r.chart.tree k n r.chart.links reads))
  plan_for r k None reads spent t e =
      subst Met (same (damaged r.chart.tree k.page (offset inner_format k.bytes)) none) (free (damaged r.chart.tree k.page (offset inner_format k.bytes)) tt)
    where
      planned : Option Inner → Result PagePlan Trouble
      planned o = planned_of (tree_held r.chart.root) k.page (linked_by r.chart.links (inner_or r.chart.tree k.page (offset inner_format k.bytes) o))

      none : planned None ≡ Err t
      none = ap planned (sym reads) ∙ e

      same : (u : Trouble) → ◌≡◌ {A = Result PagePlan Trouble} (Err u) (Err t) → u ≡ t
      same u f = cc

  pub rises_for : {r : Rising} {next : Next Rising (Unit {0})} → SpendsUp r → rise.Rises r next → StopsFor Met next
  rises_for spent (rise.node_due k p at e) = tt
  rises_for {r = r} spent (rise.no_node k t at e) = plan_for r k (inner_of k.bytes) refl (spent.node k at) t e
  rises_for spent (rise.root_due p none e) = tt
  rises_for {r = r} spent (rise.no_root t none e) =
      spent.root t (subst (λ (p : Result RootPlan Trouble). PlanTells (root_due r) p) e (last_plan_tells (tree_held r.chart.root) r.chart.links r.chart.run.top))

  -- behind a put: the last piece of a tree object for which no version is left, or what is due next where no last put is planned
  pub record SpendsBehind (r : Rising) : Type 0 where
    pub short : has_nothing r.placing ≡ false → has_nothing (landed r).placing ≡ true → is_some r.last ≡ true → r.is_spent ≡ true → Met version_spent
    pub between : has_nothing (landed r).placing ≡ true → r.last ≡ None → SpendsUp (landed r)

  pub lands_for : {r : Rising} {g : Result (Unit {0}) Trouble} {next : Next Rising (Unit {0})} → ((t : Trouble) → g ≡ Err t → Met t) → SpendsBehind r → rise.Lands r g next
      → StopsFor Met next
  lands_for refused spent (rise.not_put t) = refused t refl
  lands_for refused spent (rise.is_last x e) = tt
  lands_for refused spent (rise.more x some rising) = tt
  lands_for refused spent (rise.cut_short x some nothing last is) = spent.short some nothing last is
  lands_for refused spent (rise.goes_on x some nothing none next) = rises_for (spent.between nothing none) next

  -- ---- from the tree object

  pub down_for : (to : Chart) → StopsFor Met (down_from to (root_entry to))
  down_for to = arrives_for (arrives (begun to (root_entry to).0 (root_entry to).1))
