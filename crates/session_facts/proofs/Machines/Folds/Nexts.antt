-- Where the held get of a leaf leads: to the right, behind the leaf, or to the puts of its pieces; and what is known there.
use Rattle.std.proofs.Common.{◌≡◌, ◌⊎◌, inl, inr, ℕ, true, false, List, [], ◌∷◌, ◌++◌, Option, Some, Result, Ok, refl, sym, ap, subst, arith}
use Rattle.byte_format.specs.Order.{bytes_below}
use Rattle.cloud_facts.proofs.Chains.Pieces.{none_in, in_cases, in_both}
use Rattle.cloud_facts.specs.Words.{Trouble, Entry, PuItem, Leaf, Answer, CloudState, newest, Claim, Ends, got_of, Book, Store, IsIn, nodes_of, store_of, StandsUnder}
use Rattle.db_base.specs.declared.names.ObjName.TheVariants as object
use Rattle.leaf_edit.specs.Lacked.{lacked}
use Rattle.tree_phases.specs.declared.folding.Folding.{Folding}
use Rattle.tree_phases.specs.declared.folding.Left.TheVariants.{Handled}
use Rattle.tree_phases.specs.declared.page_plan.PagePlan.{PagePlan}
use Rattle.tree_phases.specs.Folding.{FoldingStep, turned, handled_to, put_planned, folding_next}
use Rattle.tree_phases.specs.Plan.{leaf_plan}
use Rattle.leaf_view.specs.Lookup.{page_at}
use Rattle.cloud_facts.specs.Book.Telling.{newest_leaf}
use Rattle.tree_ckpt.proofs.LeafOutcomes.{Reads, Works, works}
use Rattle.tree_ckpt.proofs.LeafOutcomes as step
use Rattle.tree_ckpt.specs.Working.{HoldsLeaf}
use Rattle.tree_phases.specs.declared.link.Link.{Link as Found}
use Rattle.tree_phases.specs.Placing.{has_nothing}
use Rattle.tree_phases.specs.Read.{tree_held}
use Rattle.session_facts.specs.Machines.Trees.Charts.{IsFound, AreFound}
use Rattle.session_facts.specs.Machines.Folds.Nexts.{right_of, KnowsStep}
use Rattle.session_facts.specs.Machines.Trees.Leaves.{IsCome, IsReading, IsPutting}
use Rattle.session_facts.specs.Machines.Trees.Ways.{IsOnWay}
use Rattle.session_facts.proofs.Machines.Folds.Plans.{nothing_left, plan_known}
use Rattle.session_facts.proofs.Machines.Folds.Leaves.{held_is, leaf_right}

module _ (book : Book) (order : List Entry) (s : CloudState) (stands : StandsUnder book order s) (now : ℕ) (lease : Claim) (f : Folding) (ids : List ℕ)
    (k : IsReading (store_of book order s) now lease f ids) where
  abbrev st : Store
  st = store_of book order s

  abbrev tree : ℕ
  tree = f.chart.tree

  abbrev leaf : Leaf
  leaf = newest_leaf (nodes_of s) tree f.page

  abbrev items : List PuItem
  items = f.chart.run.items

  abbrev Known : FoldingStep → Type 0
  Known = KnowsStep st now lease ids

  -- the leaf that is got is the newest of its page
  newest_is : (got : Option (List ℕ)) (l : Leaf) → got ≡ newest s (object.Page tree f.page) → HoldsLeaf f.page l got → l ≡ leaf
  newest_is got l seen holds = held_is book order s stands tree k.at.chart.tree f.page f.low f.chart.key f.visited k.at.way got l (sym seen) holds

  -- to the right
  right_leads : (high : List ℕ) (right : ℕ) → leaf.high ≡ Some high → page_at leaf.right ≡ Some right → bytes_below f.chart.key high ≡ false
      → IsCome st now lease (right_of (turned f high right) high right) ids
  right_leads high right is named out = record {
    rest = record {
      chart = record { tree = k.at.chart.tree; root = k.at.chart.root; nodes = k.at.chart.nodes; links = found };
      run = record { took = k.run.took; done = k.run.done };
      apart = k.apart;
    };
    way = way;
    least = k.least;
  }
    where
      way : IsOnWay (book.chain tree) 0 right high f.chart.key (f.visited ++ f.page ∷ [])
      way = leaf_right book order s stands tree k.at.chart.tree f.page f.low f.chart.key f.visited k.at.way high right is named out

      link : Found
      link = record { level = 1; low = high; page = right }

      found : AreFound (book.chain tree) (f.chart.links ++ link ∷ [])
      found l there = turn (in_both f.chart.links (link ∷ []) l there)
        where
          here : (link ≡ l) ⊎ IsIn [] l → IsFound (book.chain tree) l
          here (inl same) = subst (IsFound (book.chain tree)) same (record { above = omega arith; linked = way.at.linked })
          here (inr nothing) = absurd (none_in l nothing)

          turn : IsIn f.chart.links l ⊎ IsIn (link ∷ []) l → IsFound (book.chain tree) l
          turn (inl old) = k.at.chart.links l old
          turn (inr new) = here (in_cases link [] l new)

  -- behind it, where it lacks nothing
  spared_leads : (l : Leaf) → l ≡ leaf → lacked l 0 items ≡ [] → Known (Ends (handled_to f l.high) Handled)
  spared_leads l is none = subst (λ (m : Leaf). Known (Ends (handled_to f m.high) Handled)) (sym is) (record {
    chart = record { tree = k.at.chart.tree; root = k.at.chart.root; nodes = k.at.chart.nodes; links = k.at.chart.links };
    run = record {
      took = k.run.took;
      done = nothing_left book order s stands now lease f ids k.at k.run k.apart k.least (subst (λ (m : Leaf). lacked m 0 items ≡ []) is none);
    };
    apart = k.apart;
  })

  -- to the puts of its pieces
  planned_leads : (l : Leaf) → l ≡ leaf → (plan : PagePlan) → leaf_plan (tree_held f.chart.root) f.page l items ≡ Ok plan
      → IsPutting st now lease (put_planned (handled_to f l.high) (lacked l 0 items) plan) ids
  planned_leads l is plan = subst (λ (m : Leaf). leaf_plan (tree_held f.chart.root) f.page m items ≡ Ok plan
      → IsPutting st now lease (put_planned (handled_to f m.high) (lacked m 0 items) plan) ids) (sym is)
      (plan_known book order s stands now lease f ids k.at k.run k.apart k.least plan)

  reads_lead : {g : Result (Option (List ℕ)) Trouble} {next : FoldingStep} → ((v : Option (List ℕ)) → g ≡ Ok v → v ≡ newest s (object.Page tree f.page)) → Reads f g next → Known next
  reads_lead seen (step.passes got l high right behind new) =
      let is = newest_is got l (seen got refl) behind.holds in
      right_leads high right (subst (λ (m : Leaf). m.high ≡ Some high) is behind.goes.0) (subst (λ (m : Leaf). page_at m.right ≡ Some right) is behind.goes.1) behind.beyond
  reads_lead seen (step.spares got l here none) = spared_leads l (newest_is got l (seen got refl) here.holds) none
  reads_lead seen (step.plans got l x xs plan here some e) =
      subst (λ (missing : List PuItem). IsPutting st now lease (put_planned (handled_to f l.high) missing plan) ids) some
      (planned_leads l (newest_is got l (seen got refl) here.holds) plan e)
  reads_lead seen c = tt

  works_lead : {a : Answer} {next : FoldingStep} → ((v : Option (List ℕ)) → got_of a ≡ Ok v → v ≡ newest s (object.Page tree f.page)) → Works f a next → Known next
  works_lead seen (step.gets nothing r) = reads_lead seen r
  works_lead seen (step.puts some l) = let none : has_nothing f.placing ≡ true = ap has_nothing k.placing_is in absurd (cc (some, none))

  pub leaf_leads : (a : Answer) → ((v : Option (List ℕ)) → got_of a ≡ Ok v → v ≡ newest s (object.Page tree f.page)) → Known (folding_next f a)
  leaf_leads a seen = works_lead seen (works f a)
