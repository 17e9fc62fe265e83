-- A leaf under its lease stops a checkpoint for no damage: it is the leaf that its link promised, and no page is come to twice.
use Rattle.std.proofs.Common.{◌≡◌, ◌<◌, ◌==◌, ℕ, Bool, true, false, cond, List, ◌∷◌, length, map, Option, Some, None, Result, Ok, Err, refl, sym, ap, subst, ◌∙◌, arith}
use Rattle.std.proofs.lemmas.Bool.{eq-eqb}
use Rattle.std.proofs.lemmas.List.{length-reverse, length-map}
use Rattle.byte_format.specs.Order.{bytes_below, bytes_same}
use Rattle.byte_format.proofs.OrderLemmas.{same_itself}
use Rattle.cloud_facts.specs.Words.{Trouble, Entry, PuItem, Leaf, Tree, Answer, CloudState, newest, Claim, got_of, Book, Store, nodes_of, store_of, StandsUnder}
use Rattle.db_base.specs.declared.names.ObjName.TheVariants as object
use Rattle.leaf_edit.specs.Applied.{applied}
use Rattle.tree_phases.specs.declared.folding.Folding.{Folding}
use Rattle.tree_phases.specs.declared.page_plan.PagePlan.{PagePlan}
use Rattle.tree_phases.specs.Folding.{FoldingStep, folding_next}
use Rattle.tree_phases.specs.Plan.{planned_by, leaf_plan}
use Rattle.tree_phases.specs.Plan as plan
use Rattle.leaf_view.specs.Lookup.{page_at}
use Rattle.split_plan.specs.declared.put_list.PagePut.{PagePut}
use Rattle.split_plan.specs.Plan.{put_of, on_pages, leaf_bytes}
use Rattle.cloud_facts.specs.Book.Telling.{newest_leaf}
use Rattle.session_facts.specs.Machines.TreeCheckpoints.Knows.{MayStopTree}
use Rattle.session_facts.proofs.Machines.TreeCheckpoints.Stops.{StopsWell, IsFair, spent_may, tree_refusals, reservation_fair}
use Rattle.session_facts.proofs.Machines.Refusals.{got_may, done_may}
use Rattle.session_facts.specs.Machines.Trees.Leaves.{IsReading, IsPutting}
use Rattle.session_facts.proofs.Machines.Folds.Leaves.{leaf_low, absent_is, whole_is, held_is, leaf_right, right_fresh}
use Rattle.tree_ckpt.specs.Causes.{GoesRight}
use Rattle.tree_ckpt.specs.Working.{HoldsLeaf}
use Rattle.tree_ckpt.proofs.Tours.{page_left}
use Rattle.tree_ckpt.proofs.LeafOutcomes.{Reads, Lands, Works, came_to, reads, works}
use Rattle.tree_ckpt.proofs.LeafOutcomes as step
use Rattle.tree_phases.specs.declared.reserve.Reserved.{Reserved}
use Rattle.tree_phases.specs.Placing.{has_nothing}
use Rattle.tree_phases.specs.Read.{tree_held}
use Rattle.tree_phases.specs.Reserve.{version_spent}

-- ---- the plan of a leaf

by_fair : (page : ℕ) (l : Leaf) (r : Result Reserved Trouble) → IsFair r → IsFair (planned_by page l r)
by_fair page l (Ok r) may = tt
by_fair page l (Err t) may = may

pub plan_fair : (root : Tree) (page : ℕ) (l : Leaf) (run : List PuItem) → IsFair (leaf_plan root page l run)
plan_fair root page l run = on (l.version == 18446744073709551615)
  where
    on : (b : Bool) → IsFair (cond b (Err version_spent) (plan.planned root page (applied l 0 run)))
    on true = tt
    on false = by_fair page (applied l 0 run) _ (reservation_fair root page _)

-- ---- the get

module _ (book : Book) (order : List Entry) (s : CloudState) (stands : StandsUnder book order s) (now : ℕ) (lease : Claim) (f : Folding) (ids : List ℕ)
    (k : IsReading (store_of book order s) now lease f ids) where
  abbrev tree : ℕ
  tree = f.chart.tree

  abbrev leaf : Leaf
  leaf = newest_leaf (nodes_of s) tree f.page

  -- what the get brought is the newest leaf
  read_is : (got : Option (List ℕ)) (l : Leaf) → got ≡ newest s (object.Page tree f.page) → HoldsLeaf f.page l got → l ≡ leaf
  read_is got l seen holds = held_is book order s stands tree k.at.chart.tree f.page f.low f.chart.key f.visited k.at.way got l (sym seen) holds

  low_same : (l : Leaf) → l ≡ leaf → bytes_same l.low f.low ≡ true
  low_same l is =
      ap (λ (m : Leaf). bytes_same m.low f.low) is
      ∙ (ap (λ (low : List ℕ). bytes_same low f.low) (leaf_low book order s stands tree k.at.chart.tree f.page f.low f.chart.key f.visited k.at.way) ∙ same_itself f.low)

  -- no page is come to twice
  fresh : (l : Leaf) (high : List ℕ) (right : ℕ) → l ≡ leaf → GoesRight l.high (page_at l.right) high right → bytes_below f.chart.key high ≡ false → came_to f right ≡ false
  fresh l high right is goes out =
      right_fresh book order s stands tree k.at.chart.tree f.page f.low f.chart.key f.visited k.at.way high right
      (leaf_right book order s stands tree k.at.chart.tree f.page f.low f.chart.key f.visited k.at.way high right
      (subst (λ (m : Leaf). m.high ≡ Some high) is goes.0) (subst (λ (m : Leaf). page_at m.right ≡ Some right) is goes.1) out)

  reads_may : {g : Result (Option (List ℕ)) Trouble} {next : FoldingStep} → ((v : Option (List ℕ)) → g ≡ Ok v → v ≡ newest s (object.Page tree f.page)) → ((t : Trouble) → g ≡ Err t → MayStopTree t)
      → Reads f g next → StopsWell next
  reads_may seen refused (step.refused t) = refused t refl
  reads_may seen refused (step.absent other) =
      let here = eq-eqb f.page 1 (absent_is book order s stands tree k.at.chart.tree f.page f.low f.chart.key f.visited k.at.way (sym (seen None refl))).0 in absurd (cc (other, here))
  reads_may seen refused (step.wrong bytes left e) =
      let none = whole_is book order s stands tree k.at.chart.tree f.page f.low f.chart.key f.visited k.at.way bytes (sym (seen (Some bytes) refl)) (Err left) e in absurd (cc (none))
  reads_may seen refused (step.misled got l holds e) = let same = low_same l (read_is got l (seen got refl) holds) in absurd (cc (e, same))
  reads_may seen refused (step.loops got l high right behind e) =
      let new = fresh l high right (read_is got l (seen got refl) behind.holds) behind.goes behind.beyond in absurd (cc (e, new))
  reads_may seen refused (step.unplanned got l x xs t here some e) =
      spent_may t (subst (λ (p : Result PagePlan Trouble). IsFair p) e (plan_fair (tree_held f.chart.root) f.page l f.chart.run.items))
  reads_may seen refused c = tt

  read_may : {a : Answer} {next : FoldingStep} → ((v : Option (List ℕ)) → got_of a ≡ Ok v → v ≡ newest s (object.Page tree f.page)) → Works f a next → StopsWell next
  read_may {a = a} seen (step.gets nothing r) = reads_may seen (got_may tree_refusals a) r
  read_may seen (step.puts some l) = let none : has_nothing f.placing ≡ true = ap has_nothing k.placing_is in absurd (cc (some, none))

  pub leaf_may : (a : Answer) → ((v : Option (List ℕ)) → got_of a ≡ Ok v → v ≡ newest s (object.Page tree f.page)) → StopsWell (folding_next f a)
  leaf_may a seen = read_may seen (works f a)

-- ---- the puts

lands_may : {f : Folding} {g : Result (Unit {0}) Trouble} {next : FoldingStep} → ((t : Trouble) → g ≡ Err t → MayStopTree t) → Lands f g next → StopsWell next
lands_may refused (step.not_put t) = refused t refl
lands_may refused c = tt

works_may : {f : Folding} {a : Answer} {next : FoldingStep} → 0 < length f.placing.puts → Works f a next → StopsWell next
works_may {f = f} some (step.gets nothing r) = let full = page_left f.placing some in absurd (cc (nothing, full))
works_may {a = a} some (step.puts full l) = lands_may (done_may tree_refusals a) l

pub put_may : (st : Store) (now : ℕ) (lease : Claim) (f : Folding) (ids : List ℕ) → IsPutting st now lease f ids → (reply : Answer) → StopsWell (folding_next f reply)
put_may st now lease f ids k reply = works_may some (works f reply)
  where
    some : 0 < length f.placing.puts
    some =
        let pages = on_pages f.page k.puts.first (k.puts.placing.front ∷ k.puts.placing.middle) in
        let e : length f.placing.puts ≡ length pages =
        ap (λ (xs : List PagePut). length xs) k.puts.placing.puts_are ∙ (length-reverse (map (put_of leaf_bytes) pages) ∙ length-map pages (put_of leaf_bytes)) in
        omega (arith, e)
