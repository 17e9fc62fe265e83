-- What the work at a leaf comes to, whatever branches led there.
use Rattle.std.proofs.Common.{◌≡◌, ℕ, Bool, true, false, cond, List, [], ◌∷◌, Option, Some, None, Result, Ok, Err, refl, sym, ap, ◌∙◌}
use Rattle.std.specs.Prelude.{◌==◌, ◌||◌}
use Rattle.std.proofs.lemmas.Bool.{eqb-true}
use Rattle.byte_format.specs.Order.{below_bound, bytes_below, bytes_same}
use Rattle.byte_format.specs.Whole.{whole, offset}
use Rattle.db_base.specs.declared.trouble.Trouble.TheVariants as trouble
use Rattle.leaf_view.specs.Leaf.{Leaf, leaf}
use Rattle.leaf_view.specs.Lookup.{empty_leaf, page_at}
use Rattle.leaf_edit.specs.Lacked.{lacked}
use Rattle.run_cursor.specs.Covered.{is_seen}
use Rattle.tree_phases.specs.Placing.{has_nothing, has_one_page}
use Rattle.tree_phases.specs.Read.{damaged, leaf_or, tree_held}
use Rattle.tree_phases.specs.declared.folding.Left.TheVariants.{Right, Handled}
use Rattle.tree_phases.specs.Plan.{leaf_plan}
use Rattle.tree_phases.specs.Folding.{FoldingStep, turned, handled_to, put_planned, planned, handled_by, handle, to_right, leaf_side, leaf_at, leaf_found, leaf_got, bad_low, landed, counted, leaf_put, folding_next}
use Rattle.tree_ckpt.specs.Causes.{GoesRight}
use Rattle.tree_ckpt.specs.Working.{HoldsLeaf}
use Rattle.tree_ckpt.proofs.Words.{Trouble, PuItem, Answer, Goes, Ends, Stops, got_of, done_of, Folding, PagePlan}
use Rattle.tree_ckpt.proofs.Fences.{HasSides, read_sides}

-- This leaf was got and is what the link to it promised, and the key in hand is below its high key ..
pub record IsHere (f : Folding) (got : Option (List ℕ)) (l : Leaf) : Type 0 where
  pub holds : HoldsLeaf f.page l got
  pub promised : bytes_same l.low f.low ≡ true
  pub below : below_bound f.chart.key l.high ≡ true

-- .. or it lies behind it, on the page on its right.
pub record IsBehind (f : Folding) (got : Option (List ℕ)) (l : Leaf) (high : List ℕ) (right : ℕ) : Type 0 where
  pub holds : HoldsLeaf f.page l got
  pub promised : bytes_same l.low f.low ≡ true
  pub goes : GoesRight l.high (page_at l.right) high right
  pub beyond : bytes_below f.chart.key high ≡ false

-- the way came to the page before
abbrev pub came_to : Folding → ℕ → Bool
came_to f right = (right == f.page) || is_seen f.visited right

-- behind the get of the leaf
pub data Reads (f : Folding) : Result (Option (List ℕ)) Trouble → FoldingStep → Type 0 where
  refused : (t : Trouble) → Reads f (Err t) (Stops f t)
  absent : (f.page == 1) ≡ false → Reads f (Ok None) (Stops f (trouble.Absent f.page))
  wrong : (bytes : List ℕ) (left : ℕ) → whole leaf bytes ≡ Err left → Reads f (Ok (Some bytes)) (Stops f (damaged f.chart.tree f.page (offset leaf bytes)))
  misled : (got : Option (List ℕ)) (l : Leaf) → HoldsLeaf f.page l got → bytes_same l.low f.low ≡ false → Reads f (Ok got) (Stops f (bad_low f l.low))
  loops : (got : Option (List ℕ)) (l : Leaf) (high : List ℕ) (right : ℕ) → IsBehind f got l high right → came_to f right ≡ true
      → Reads f (Ok got) (Stops f (trouble.Loop right))
  passes : (got : Option (List ℕ)) (l : Leaf) (high : List ℕ) (right : ℕ) → IsBehind f got l high right → came_to f right ≡ false
      → Reads f (Ok got) (Ends (turned f high right) (Right high right))
  spares : (got : Option (List ℕ)) (l : Leaf) → IsHere f got l → lacked l 0 f.chart.run.items ≡ [] → Reads f (Ok got) (Ends (handled_to f l.high) Handled)
  plans : (got : Option (List ℕ)) (l : Leaf) (x : PuItem) (xs : List PuItem) (p : PagePlan) → IsHere f got l → lacked l 0 f.chart.run.items ≡ x ∷ xs
      → leaf_plan (tree_held f.chart.root) f.page l f.chart.run.items ≡ Ok p → Reads f (Ok got) (Goes (put_planned (handled_to f l.high) (x ∷ xs) p))
  unplanned : (got : Option (List ℕ)) (l : Leaf) (x : PuItem) (xs : List PuItem) (t : Trouble) → IsHere f got l → lacked l 0 f.chart.run.items ≡ x ∷ xs
      → leaf_plan (tree_held f.chart.root) f.page l f.chart.run.items ≡ Err t → Reads f (Ok got) (Stops f t)

-- behind a put
pub data Lands (f : Folding) : Result (Unit {0}) Trouble → FoldingStep → Type 0 where
  not_put : (t : Trouble) → Lands f (Err t) (Stops f t)
  lands : (x : Unit {0}) → has_one_page f.placing ≡ false → Lands f (Ok x) (Goes (landed f))
  is_put : (x : Unit {0}) → has_one_page f.placing ≡ true → Lands f (Ok x) (Ends (counted (landed f)) Handled)

-- behind its call: the leaf was got, or something was put
pub data Works (f : Folding) (a : Answer) : FoldingStep → Type 0 where
  gets : {next : FoldingStep} → has_nothing f.placing ≡ true → Reads f (got_of a) next → Works f a next
  puts : {next : FoldingStep} → has_nothing f.placing ≡ false → Lands f (done_of a) next → Works f a next

-- ---- the work at a leaf, taken apart

sides_of : (page : ℕ) (l : Leaf) (got : Option (List ℕ)) → HoldsLeaf page l got → HasSides l.right l.high
sides_of page l (Some bytes) e = read_sides bytes l e
sides_of page l None e = λ none. ap (λ (m : Leaf). m.high) e.1

plans_by : (f : Folding) (got : Option (List ℕ)) (l : Leaf) (x : PuItem) (xs : List PuItem) → IsHere f got l → lacked l 0 f.chart.run.items ≡ x ∷ xs → (p : Result PagePlan Trouble)
    → leaf_plan (tree_held f.chart.root) f.page l f.chart.run.items ≡ p → Reads f (Ok got) (planned f l.high (x ∷ xs) p)
plans_by f got l x xs here some (Ok p) e = plans got l x xs p here some e
plans_by f got l x xs here some (Err t) e = unplanned got l x xs t here some e

handles : (f : Folding) (got : Option (List ℕ)) (l : Leaf) → IsHere f got l → (items : List PuItem) → lacked l 0 f.chart.run.items ≡ items → Reads f (Ok got) (handled_by f l items)
handles f got l here [] e = spares got l here e
handles f got l here (x ∷ xs) e = plans_by f got l x xs here e (leaf_plan (tree_held f.chart.root) f.page l f.chart.run.items) refl

turns_by : (f : Folding) (got : Option (List ℕ)) (l : Leaf) (high : List ℕ) (right : ℕ) → IsBehind f got l high right → (b : Bool) → came_to f right ≡ b
    → Reads f (Ok got) (cond b (Stops f (trouble.Loop right)) (Ends (turned f high right) (Right high right)))
turns_by f got l high right behind true e = loops got l high right behind e
turns_by f got l high right behind false e = passes got l high right behind e

module _ (f : Folding) (got : Option (List ℕ)) (l : Leaf) (holds : HoldsLeaf f.page l got) where
  key_by : (high : List ℕ) (right : ℕ) → bytes_same l.low f.low ≡ true → GoesRight l.high (page_at l.right) high right → (b : Bool) → bytes_below f.chart.key high ≡ b
      → Reads f (Ok got) (cond b (handle f l) (to_right f high right))
  key_by high right promised goes true e =
      handles f got l (record { holds = holds; promised = promised; below = ap (below_bound f.chart.key) goes.0 ∙ e }) (lacked l 0 f.chart.run.items) refl
  key_by high right promised goes false e =
      turns_by f got l high right (record { holds = holds; promised = promised; goes = goes; beyond = e }) (came_to f right) refl

  side_by : bytes_same l.low f.low ≡ true → (high : Option (List ℕ)) → l.high ≡ high → (right : Option ℕ) → page_at l.right ≡ right → Reads f (Ok got) (leaf_side f l high right)
  side_by promised None h right r =
      handles f got l (record { holds = holds; promised = promised; below = ap (below_bound f.chart.key) h }) (lacked l 0 f.chart.run.items) refl
  side_by promised (Some high) h None r = absurd (let none : None ≡ Some high = sym (sides_of f.page l got holds r) ∙ h in cc (none))
  side_by promised (Some high) h (Some right) r = key_by high right promised (h, r) (bytes_below f.chart.key high) refl

  low_by : (b : Bool) → bytes_same l.low f.low ≡ b → Reads f (Ok got) (cond b (leaf_side f l l.high (page_at l.right)) (Stops f (bad_low f l.low)))
  low_by true e = side_by e l.high refl (page_at l.right) refl
  low_by false e = misled got l holds e

pub reads : (f : Folding) (g : Result (Option (List ℕ)) Trouble) → Reads f g (leaf_got f g)
reads f (Ok (Some bytes)) = on (whole leaf bytes) refl where
  on : (r : Result Leaf ℕ) → whole leaf bytes ≡ r → Reads f (Ok (Some bytes)) (leaf_found f (leaf_or f.chart.tree f.page (offset leaf bytes) r))
  on (Ok l) e = low_by f (Some bytes) l e (bytes_same l.low f.low) refl
  on (Err left) e = wrong bytes left e
reads f (Ok None) = on (f.page == 1) refl where
  on : (b : Bool) → (f.page == 1) ≡ b → Reads f (Ok None) (cond b (leaf_at f empty_leaf) (Stops f (trouble.Absent f.page)))
  on true e = low_by f None empty_leaf (eqb-true f.page 1 e, refl) (bytes_same empty_leaf.low f.low) refl
  on false e = absent e
reads f (Err t) = refused t

pub put_lands : (f : Folding) (done : Result (Unit {0}) Trouble) → Lands f done (leaf_put f done)
put_lands f (Ok x) = on (has_one_page f.placing) refl where
  on : (b : Bool) → has_one_page f.placing ≡ b → Lands f (Ok x) (cond b (Ends (counted (landed f)) Handled) (Goes (landed f)))
  on true e = is_put x e
  on false e = lands x e
put_lands f (Err t) = not_put t

pub works : (f : Folding) (a : Answer) → Works f a (folding_next f a)
works f a = on (has_nothing f.placing) refl where
  on : (b : Bool) → has_nothing f.placing ≡ b → Works f a (cond b (leaf_got f (got_of a)) (leaf_put f (done_of a)))
  on true e = gets e (reads f (got_of a))
  on false e = puts e (put_lands f (done_of a))
