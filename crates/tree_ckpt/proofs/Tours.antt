-- How the work of a tree checkpoint goes from leaf to leaf.
use Rattle.std.proofs.Common.{◌≡◌, ◌<◌, ◌+◌, ℕ, Bool, true, false, List, [], ◌∷◌, ◌++◌, length, Option, Some, None, Result, Ok, Err, refl, sym, ap, subst, ◌∙◌, inl, inr, ◌⊎◌, arith, append_assoc}
use Rattle.std.specs.Prelude.{◌==◌, ◌&&◌, not, is_none, unwrap_or}
use Rattle.std.proofs.lemmas.Bool.{eqb-true}
use Rattle.std.proofs.lemmas.List.{append-nil}
use Rattle.byte_format.specs.Order.{below_bound}
use Rattle.byte_format.proofs.OrderLemmas.{same_is}
use Rattle.db_base.specs.declared.names.Lock.TheVariants as lock
use Rattle.db_base.specs.declared.names.ObjName.TheVariants as object
use Rattle.leaf_view.specs.Leaf.{Leaf}
use Rattle.leaf_view.specs.Lookup.{page_at, holds}
use Rattle.leaf_edit.specs.Lacked.{lacked}
use Rattle.cloud_trait.specs.declared.answer.Answer.TheVariants as call
use Rattle.cloud_trait.proofs.ViewLemmas.{got_of-ok}
use Rattle.cloud_trait.specs.Ask.{GetHeld, Take, Release}
use Rattle.ckpt_parts.specs.Intakes.{has_items}
use Rattle.tree_phases.specs.Kept.{links_at, with_kept}
use Rattle.node_codec.specs.Inner.{Inner, inner_of}
use Rattle.tree_phases.specs.Placing.{put_in_hand, landed_root, landed_placing, has_nothing, has_one_page}
use Rattle.tree_phases.specs.Read.{tree_held}
use Rattle.tree_phases.specs.Descent.{descent_ask, descent_next}
use Rattle.tree_phases.specs.declared.folding.Left.TheVariants.{Right, Handled}
use Rattle.tree_phases.specs.Plan.{leaf_plan}
use Rattle.tree_phases.specs.Folding as fold
use Rattle.tree_ckpt.specs.Causes.{Calls, WasGot, GoesRight}
use Rattle.tree_ckpt.specs.Meaning.{Opening}
use Rattle.tree_ckpt.specs.Working.{done_over, puts_of, Visit, held_over, visits_over, AreLooks, HoldsLeaf, IsLeft, IsFor, IsVisit, Place, leaf_place, IsLeftFor, IsStart, IsCome, seeking, IsWay, IsOver, IsAmong, root_behind, links_behind, looks_of, AreVisits, lacked_on, IsSettled, PutsLeaf, AreTurns, Outcome, Planned, Spared, Passed}
use Rattle.tree_ckpt.proofs.Words.{Trouble, PuItem, Taken, Answer, Claim, Next, Goes, Ends, Stops, got_of, done_of, Ask, PagePut, Chart, KeptNode, Placing, Link, Descent, Folding, Left, PagePlan}
use Rattle.tree_ckpt.proofs.Answers.{done_is}
use Rattle.tree_ckpt.proofs.Brought.{AreKept, kept_more}
use Rattle.tree_ckpt.proofs.Turns.{Turned, WayTurned, place_of, turns_more, turns_both, way_more, way_both, node_got, got_turned}
use Rattle.tree_ckpt.proofs.Entries.{among_front, among_back}
use Rattle.tree_ckpt.proofs.Whole.{AreRising, IsNoted, noted_new, noted_with, rising_with}
use Rattle.tree_ckpt.proofs.Charts.{IsFurther, GoesFurther, descent_further}
use Rattle.tree_ckpt.proofs.Covers.{IsLeast, AreHandledTo, none_handled, handled_more, handled_here, low_upto}
use Rattle.tree_ckpt.proofs.Folds.{not_empty, plan_some}
use Rattle.tree_ckpt.proofs.Pieces.{leaf_puts}
use Rattle.tree_ckpt.proofs.LeafOutcomes.{Reads, Lands, Works, works}
use Rattle.tree_ckpt.proofs.LeafOutcomes as step
use Rattle.tree_ckpt.proofs.Lows.{IsUpto, ComesUpto, WayUpto, descent_upto}
use Rattle.tree_ckpt.proofs.WayOutcomes.{Gets, gets}
use Rattle.tree_ckpt.proofs.WayOutcomes as way

-- ---- between leaves

-- what was got is kept, by level
abbrev AreAllNoted : ℕ → Calls → List KeptNode → Type 0
AreAllNoted tree looks nodes = (page : ℕ) (bytes : List ℕ) → WasGot (object.Page tree page) (Some bytes) looks → IsNoted page bytes nodes

abbrev pub AreNoted : ℕ → Calls → List KeptNode → Type 0
AreNoted tree looks nodes = AreAllNoted tree looks nodes × AreRising nodes

-- behind visits
pub record Rests (lease : Claim) (tree : ℕ) (run : Taken) (stood : Option (List ℕ)) (count : ℕ) (from : Option (List ℕ)) (found : List Link) (nodes : List KeptNode) (o : Opening) (work : Calls) : Type 0 where
  pub visits : List Visit
  pub are : AreVisits tree lease run o.got visits
  pub linked : found ≡ links_behind visits
  pub noted : AreNoted tree (looks_of visits) nodes
  pub root : stood ≡ root_behind o.got visits
  pub applied : count ≡ lacked_on run visits
  pub handled : AreHandledTo run.items from visits
  pub calls : work ≡ visits_over tree lease visits []

-- each node that was got is one that the way led over, or the first that it leads over now
abbrev pub AreOver : ℕ → Calls → List Inner → List Inner → Type 0
AreOver tree looks ns first = (page : ℕ) (bytes : List ℕ) → WasGot (object.Page tree page) (Some bytes) looks → IsOver bytes ns ⊎ IsOver bytes first

-- behind visits, and on the way down to the leaf of the least key that is not handled, at a place from which it leads over this first node
pub record Tours (lease : Claim) (tree : ℕ) (run : Taken) (stood : Option (List ℕ)) (count : ℕ) (from : Option (List ℕ)) (key : List ℕ) (found : List Link) (nodes : List KeptNode) (place : Place) (first : List Inner) (o : Opening) (work : Calls) : Type 0 where
  pub before : Calls
  pub known : List Link
  pub olds : List KeptNode
  pub rests : Rests lease tree run stood count from known olds o before
  pub turns : List Link
  pub turned : AreTurns tree work turns
  pub come : IsCome stood (seeking tree key work) rests.visits turns place
  pub linked : found ≡ known ++ turns
  pub least : IsLeast run.items from key
  pub looks : Calls
  pub looked : AreLooks tree lease looks
  pub over : AreOver tree looks come.2.0 first
  pub noted : AreNoted tree (looks ++ looks_of rests.visits) nodes
  pub calls : work ≡ looks ++ before

abbrev pub RestsAt : Claim → Chart → Opening → Calls → Type 0
RestsAt lease c o work = Rests lease c.tree c.run c.root c.applied c.from c.links c.nodes o work

abbrev pub ToursAt : Claim → Chart → Place → Opening → Calls → Type 0
ToursAt lease c place o work = Tours lease c.tree c.run c.root c.applied c.from c.key c.links c.nodes place [] o work

pub rests_tours : (lease : Claim) (c : Chart) (start : Place) (o : Opening) (work : Calls) → IsLeast c.run.items c.from c.key → (k : RestsAt lease c o work)
    → IsStart c.root c.key k.visits start → ToursAt lease c start o work
rests_tours lease c start o work least k begins = record {
  before = work;
  known = c.links;
  olds = c.nodes;
  rests = k;
  turns = [];
  turned = tt;
  come = (start, begins, ([], (refl, refl)));
  linked = sym (append-nil c.links);
  least = least;
  looks = [];
  looked = tt;
  over = λ page bytes h. absurd h;
  noted = k.noted;
  calls = refl;
}

-- before the first leaf
pub first_rests : (lease : Claim) (c : Chart) (o : Opening) → c.root ≡ o.got → c.applied ≡ 0 → c.from ≡ Some [] → c.links ≡ [] → c.nodes ≡ [] → RestsAt lease c o []
first_rests lease c o root applied from links nodes = record {
  visits = [];
  are = tt;
  linked = links;
  noted = (λ page bytes h. absurd h, subst AreRising (sym nodes) tt);
  root = root;
  applied = applied;
  handled = subst (λ (b : Option (List ℕ)). AreHandledTo c.run.items b []) (sym from) (none_handled c.run.items);
  calls = refl;
}

over_now : (bytes : List ℕ) (first new old : List Inner) → ((n : Inner) → IsAmong n first → IsAmong n new) → IsOver bytes old ⊎ IsOver bytes first
    → IsOver bytes (new ++ old) ⊎ IsOver bytes []
over_now bytes first new old seen (inl h) = inl (h.0, h.1, among_back h.0 new old h.2)
over_now bytes first new old seen (inr h) = inl (h.0, h.1, among_front h.0 new old (seen h.0 h.2))

further_tours : (lease : Claim) (n : ℕ) (c : Chart) (nodes : List KeptNode) (start : Place) (first : List Inner) (d : Descent) (o : Opening) (work : Calls) → IsFurther n c d.chart
    → Turned c.tree work c.links nodes c.key start first d → Tours lease c.tree c.run c.root c.applied c.from c.key c.links nodes start first o work
    → ToursAt lease d.chart (place_of d) o work
further_tours lease n c nodes start first d o work f t k =
    let e : Chart = d.chart in
    let q : Place = place_of d in
    let turned : Tours lease c.tree c.run c.root c.applied c.from c.key e.links e.nodes q [] o work = record {
      before = k.before;
      known = k.known;
      olds = k.olds;
      rests = k.rests;
      turns = k.turns ++ t.rest;
      turned = turns_both c.tree k.turns t.rest work k.turned t.are;
      come = (k.come.0, k.come.1, (t.over ++ k.come.2.0, way_both c.tree c.key work k.come.0 k.come.2.0 start k.turns t.over q t.rest k.come.2.1 t.way));
      linked = t.linked ∙ ap (λ (ls : List Link). ls ++ t.rest) k.linked ∙ append_assoc k.known k.turns t.rest;
      least = k.least;
      looks = k.looks;
      looked = k.looked;
      over = λ page bytes h. over_now bytes first t.over k.come.2.0 t.seen (k.over page bytes h);
      noted = subst (AreNoted c.tree (k.looks ++ looks_of k.rests.visits)) (sym t.same) k.noted;
      calls = k.calls;
    } in
    subst (λ (key : List ℕ). Tours lease e.tree e.run e.root e.applied e.from key e.links e.nodes q [] o work) (sym f.key)
    (subst (λ (b : Option (List ℕ)). Tours lease e.tree e.run e.root e.applied b c.key e.links e.nodes q [] o work) (sym f.from)
    (subst (λ (m : ℕ). Tours lease e.tree e.run e.root m c.from c.key e.links e.nodes q [] o work) (sym f.applied)
    (subst (λ (r : Option (List ℕ)). Tours lease e.tree e.run r c.applied c.from c.key e.links e.nodes q [] o work) (sym f.root)
    (subst (λ (r : Taken). Tours lease e.tree r c.root c.applied c.from c.key e.links e.nodes q [] o work) (sym f.run)
    (subst (λ (t : ℕ). Tours lease t c.run c.root c.applied c.from c.key e.links e.nodes q [] o work) (sym f.tree) turned)))))

-- where the way down goes on, or ends at a leaf
abbrev pub WayTours : Claim → Next Descent (Unit {0}) → Opening → Calls → Type 0
WayTours lease (Goes d) o work = ToursAt lease d.chart (place_of d) o work × ComesUpto d
WayTours lease (Ends d x) o work = ToursAt lease d.chart (leaf_place d.low d.page) o work × ComesUpto d
WayTours lease (Stops d t) o work = Unit {0}

at_level : Descent → ℕ → Place
at_level d level = record { level = level; low = d.low; page = d.page }

pub way_tours : (lease : Claim) (n : ℕ) (c : Chart) (nodes : List KeptNode) (start : Place) (first : List Inner) (next : Next Descent (Unit {0})) (o : Opening) (work : Calls)
    → GoesFurther n c next → WayUpto next → WayTurned c.tree work c.links nodes c.key start first next
    → Tours lease c.tree c.run c.root c.applied c.from c.key c.links nodes start first o work → WayTours lease next o work
unfolding at_level
way_tours lease n c nodes start first (Goes d) o work f upto t k = (further_tours lease n c nodes start first d o work f t k, upto)
way_tours lease n c nodes start first (Ends d x) o work f upto t k = (
  subst (λ (level : ℕ). ToursAt lease d.chart (at_level d level) o work) t.1 (further_tours lease n c nodes start first d o work f t.0 k),
  upto,
)
way_tours lease n c nodes start first (Stops d t) o work f upto turned k = tt

-- a node more is got, and kept
all_noted_got : (tree : ℕ) (d : Descent) (got : List ℕ) (l : Claim) (a : Answer) (looks : Calls) → d.chart.tree ≡ tree → a ≡ call.Got (Some got) → AreAllNoted tree looks d.chart.nodes
    → AreAllNoted tree ((descent_ask d l, a) ∷ looks) (with_kept (node_got d got) d.chart.nodes)
all_noted_got tree d got l a looks same e h page bytes (inr g) = noted_with page bytes (node_got d got) d.chart.nodes (h page bytes g)
all_noted_got tree d got l a looks same e h page bytes (inl b) =
    let ask : GetHeld (object.Page d.chart.tree d.page) l ≡ GetHeld (object.Page tree page) b.0 = ap (λ (c : Ask × Answer). c.0) b.1 in
    let answer : call.Got (Some got) ≡ call.Got (Some bytes) = sym e ∙ ap (λ (c : Ask × Answer). c.1) b.1 in
    let at : d.page ≡ page = cc (ask) in
    let is : got ≡ bytes = cc (answer) in
    subst (λ (p : ℕ). IsNoted p bytes (with_kept (node_got d got) d.chart.nodes)) at
    (subst (λ (bs : List ℕ). IsNoted d.page bs (with_kept (node_got d got) d.chart.nodes)) is (noted_new (node_got d got) d.chart.nodes))

noted_got : (tree : ℕ) (d : Descent) (got : List ℕ) (l : Claim) (a : Answer) (looks : Calls) → d.chart.tree ≡ tree → a ≡ call.Got (Some got) → AreNoted tree looks d.chart.nodes
    → AreNoted tree ((descent_ask d l, a) ∷ looks) (with_kept (node_got d got) d.chart.nodes)
noted_got tree d got l a looks same e h = (all_noted_got tree d got l a looks same e h.0, rising_with (node_got d got) d.chart.nodes h.1)

-- the node that was got is the first that the way leads over now
got_over : (tree : ℕ) (d : Descent) (got : List ℕ) (n : Inner) (l : Claim) (a : Answer) (looks : Calls) (ns : List Inner) → a ≡ call.Got (Some got) → inner_of got ≡ Some n
    → AreOver tree looks ns [] → AreOver tree ((descent_ask d l, a) ∷ looks) ns (n ∷ [])
got_over tree d got n l a looks ns e is h page bytes (inl b) =
    let answer : call.Got (Some got) ≡ call.Got (Some bytes) = sym e ∙ ap (λ (c : Ask × Answer). c.1) b.1 in
    let same : got ≡ bytes = cc (answer) in
    inr (n, ap inner_of (sym same) ∙ is, inl refl)
got_over tree d got n l a looks ns e is h page bytes (inr g) = on (h page bytes g) where
  on : IsOver bytes ns ⊎ IsOver bytes [] → IsOver bytes ns ⊎ IsOver bytes (n ∷ [])
  on (inl x) = inl x
  on (inr x) = absurd x.2

gets_tours : {d : Descent} {g : Result (Option (List ℕ)) Trouble} {next : Next Descent (Unit {0})} (lease : Claim) (a : Answer) (o : Opening) (work : Calls)
    → AreKept d.chart.tree d.chart.nodes work → ToursAt lease d.chart (place_of d) o work → got_of a ≡ g → GoesFurther 1 d.chart next → WayUpto next → Gets d g next
    → WayTours lease next o ((descent_ask d lease, a) ∷ work)
gets_tours {d = d} {next = next} lease a o work kept k e f upto (way.goes_on bytes n fork spelt leads on) =
    let ask : Ask = descent_ask d lease in
    let is : a ≡ call.Got (Some bytes) = got_of-ok a (Some bytes) e in
    way_tours lease 1 d.chart (with_kept (node_got d bytes) d.chart.nodes) (place_of d) (n ∷ []) next o ((ask, a) ∷ work) f upto
    (got_turned d.chart.tree ((ask, a) ∷ work) d bytes n fork spelt leads (kept_more d.chart.tree d.chart.nodes (ask, a) work kept)
    (inl (lease, ap (λ (x : Answer). (ask, x)) is)) on) (record {
      before = k.before;
      known = k.known;
      olds = k.olds;
      rests = k.rests;
      turns = k.turns;
      turned = turns_more d.chart.tree k.turns (ask, a) work k.turned;
      come = (k.come.0, k.come.1, (k.come.2.0, way_more d.chart.tree d.chart.key k.come.0 k.come.2.0 (place_of d) k.turns (ask, a) work k.come.2.1));
      linked = k.linked;
      least = k.least;
      looks = (ask, a) ∷ k.looks;
      looked = ((d.page, bytes, ap (λ (x : Answer). (ask, x)) is), k.looked);
      over = got_over d.chart.tree d bytes n lease a k.looks k.come.2.0 is spelt k.over;
      noted = noted_got d.chart.tree d bytes lease a (k.looks ++ looks_of k.rests.visits) refl is k.noted;
      calls = ap (λ (cs : Calls). (ask, a) ∷ cs) k.calls;
    })
gets_tours lease a o work kept k e f upto w = tt

pub descent_tours : (lease : Claim) (d : Descent) (a : Answer) (o : Opening) (work : Calls) → AreKept d.chart.tree d.chart.nodes work → ToursAt lease d.chart (place_of d) o work
    → WayTours lease (descent_next d a) o ((descent_ask d lease, a) ∷ work)
descent_tours lease d a o work kept k = gets_tours lease a o work kept k refl (descent_further d a) (descent_upto d a) (gets d (got_of a))

-- ---- puts

-- the put in hand is the first of those that are left
pub put_in_turn : (p : Placing) (tree : ℕ) (one : Claim) (two : Option Claim) (other : Ask) (work : Calls) → has_nothing p ≡ false
    → done_over (puts_of tree one two p) work ≡ done_over (puts_of tree one two (landed_placing p)) ((unwrap_or (put_in_hand p tree one two) other, call.Done) ∷ work)
put_in_turn p tree one two other work some = on p.reserved p.puts some where
  placing : Option (List ℕ) → List PagePut → Placing
  placing reserved puts = record { reserved = reserved; puts = puts }

  on : (reserved : Option (List ℕ)) (puts : List PagePut) → has_nothing (placing reserved puts) ≡ false
      → done_over (puts_of tree one two (placing reserved puts)) work
      ≡ done_over (puts_of tree one two (landed_placing (placing reserved puts))) ((unwrap_or (put_in_hand (placing reserved puts) tree one two) other, call.Done) ∷ work)
  on (Some bytes) puts e = refl
  on None (x ∷ xs) e = refl
  on None [] e = absurd (cc (e))

-- nothing is left to put
pub none_left : (p : Placing) (tree : ℕ) (one : Claim) (two : Option Claim) (work : Calls) → has_nothing p ≡ true → done_over (puts_of tree one two p) work ≡ work
none_left p tree one two work none = on p.reserved p.puts none where
  placing : Option (List ℕ) → List PagePut → Placing
  placing reserved puts = record { reserved = reserved; puts = puts }

  on : (reserved : Option (List ℕ)) (puts : List PagePut) → has_nothing (placing reserved puts) ≡ true → done_over (puts_of tree one two (placing reserved puts)) work ≡ work
  on (Some bytes) puts e = absurd (cc (e))
  on None (x ∷ xs) e = absurd (let other : (length (x ∷ xs) == 0) ≡ false = not_empty (x ∷ xs) (omega arith) in cc)
  on None [] e = refl

pub page_left : (p : Placing) → 0 < length p.puts → has_nothing p ≡ false
page_left p some = on p.reserved where
  on : (reserved : Option (List ℕ)) → (is_none reserved && (length p.puts == 0)) ≡ false
  on (Some bytes) = refl
  on None = not_empty p.puts some

-- behind the last put nothing is left, and behind others a page is
one_lands : (p : Placing) → has_one_page p ≡ true → has_nothing (landed_placing p) ≡ true
one_lands p e = on p.reserved p.puts e where
  placing : Option (List ℕ) → List PagePut → Placing
  placing reserved puts = record { reserved = reserved; puts = puts }

  on : (reserved : Option (List ℕ)) (puts : List PagePut) → has_one_page (placing reserved puts) ≡ true → has_nothing (landed_placing (placing reserved puts)) ≡ true
  on (Some bytes) puts f = absurd (cc (f))
  on None [] f = refl
  on None (x ∷ []) f = refl
  on None (x ∷ y ∷ ys) f = absurd (let one : length (x ∷ y ∷ ys) ≡ 1 = eqb-true (length (x ∷ y ∷ ys)) 1 f in omega (arith, one))

more_left : (p : Placing) → 0 < length p.puts → has_one_page p ≡ false → 0 < length (landed_placing p).puts
more_left p some e = on p.reserved p.puts some e where
  placing : Option (List ℕ) → List PagePut → Placing
  placing reserved puts = record { reserved = reserved; puts = puts }

  on : (reserved : Option (List ℕ)) (puts : List PagePut) → 0 < length puts → has_one_page (placing reserved puts) ≡ false
      → 0 < length (landed_placing (placing reserved puts)).puts
  on (Some bytes) puts h f = h
  on None [] h f = absurd (omega (arith, h))
  on None (x ∷ []) h f = absurd (cc (f))
  on None (x ∷ y ∷ ys) h f = omega arith

-- ---- at a leaf

-- it is taken, and was not got yet
pub record BeginsLeaf (lease : Claim) (f : Folding) (o : Opening) (work : Calls) : Type 0 where
  pub before : Calls
  pub tours : ToursAt lease f.chart (leaf_place f.low f.page) o before
  pub empty : f.placing ≡ fold.no_placing
  pub upto : IsUpto f.low f.chart.key
  pub calls : work ≡ (Take (lock.Page f.chart.tree f.page) 30, call.Given f.lease) ∷ before

-- it was got, and its puts are under way
pub record Puts (lease : Claim) (f : Folding) (o : Opening) (work : Calls) : Type 0 where
  pub visits : List Visit
  pub are : AreVisits f.chart.tree lease f.chart.run o.got visits
  pub visit : Visit
  pub is : IsVisit f.chart.tree lease f.chart.run o.got visits visit
  pub linked : f.chart.links ≡ links_behind (visit ∷ visits)
  pub noted : AreNoted f.chart.tree (looks_of (visit ∷ visits)) f.chart.nodes
  pub own : visit.lease ≡ f.lease
  pub root : landed_root f.placing f.chart.root ≡ root_behind o.got (visit ∷ visits)
  pub applied : f.chart.applied + length f.lacked ≡ lacked_on f.chart.run (visit ∷ visits)
  pub handled : AreHandledTo f.chart.run.items f.chart.from (visit ∷ visits)
  pub calls : done_over (puts_of f.chart.tree lease (Some f.lease) f.placing) work ≡ held_over f.chart.tree lease visit (visits_over f.chart.tree lease visits [])
  pub some : 0 < length f.placing.puts

abbrev pub AtLeaf : Claim → Folding → Opening → Calls → Type 0
AtLeaf lease f o work = BeginsLeaf lease f o work ⊎ Puts lease f o work

-- it is done, and was not given back yet
pub record Visits (lease l : Claim) (tree : ℕ) (run : Taken) (stood : Option (List ℕ)) (count : ℕ) (from : Option (List ℕ)) (found : List Link) (nodes : List KeptNode) (o : Opening) (work : Calls) : Type 0 where
  pub visits : List Visit
  pub are : AreVisits tree lease run o.got visits
  pub visit : Visit
  pub is : IsVisit tree lease run o.got visits visit
  pub linked : found ≡ links_behind (visit ∷ visits)
  pub noted : AreNoted tree (looks_of (visit ∷ visits)) nodes
  pub own : visit.lease ≡ l
  pub root : stood ≡ root_behind o.got (visit ∷ visits)
  pub applied : count ≡ lacked_on run (visit ∷ visits)
  pub handled : AreHandledTo run.items from (visit ∷ visits)
  pub calls : work ≡ held_over tree lease visit (visits_over tree lease visits [])

abbrev pub VisitsAt : Claim → Claim → Chart → Opening → Calls → Type 0
VisitsAt lease own c o work = Visits lease own c.tree c.run c.root c.applied c.from c.links c.nodes o work

-- a leaf that is left for its right page, which has a low key not above the key at hand
abbrev pub LeavesUpto : Chart → Left → List Visit → Type 0
LeavesUpto c (Right low page) vs = IsLeast c.run.items c.from c.key × IsUpto low c.key × IsLeftFor c.key (leaf_place low page) vs
LeavesUpto c Handled vs = Unit {0}

-- where the work at it leads
abbrev pub LeafTours : Claim → Next Folding Left → Opening → Calls → Type 0
LeafTours lease (Goes f) o work = AtLeaf lease f o work
LeafTours lease (Ends f out) o work = (k : VisitsAt lease f.lease f.chart o work) × LeavesUpto f.chart out (k.visit ∷ k.visits)
LeafTours lease (Stops f t) o work = Unit {0}

-- ---- the get

now_over : (bytes : List ℕ) (ns : List Inner) → IsOver bytes ns ⊎ IsOver bytes [] → IsOver bytes ns
now_over bytes ns (inl h) = h
now_over bytes ns (inr h) = absurd h.2

-- this leaf was got
record IsGot (lease : Claim) (f : Folding) (got : Option (List ℕ)) (l : Leaf) (o : Opening) (work : Calls) : Type 0 where
  before : Calls
  tours : ToursAt lease f.chart (leaf_place f.low f.page) o before
  holds : HoldsLeaf f.page l got
  upto : IsUpto f.low f.chart.key
  calls : work ≡ (GetHeld (object.Page f.chart.tree f.page) f.lease, call.Got got) ∷ (Take (lock.Page f.chart.tree f.page) 30, call.Given f.lease) ∷ before

module _ (lease : Claim) (f : Folding) (got : Option (List ℕ)) (l : Leaf) (o : Opening) (work : Calls) (k : IsGot lease f got l o work) (same_low : l.low ≡ f.low) where
  -- the visit that it is, with what was planned
  visit_with : Outcome → Visit
  visit_with outcome =
      record { key = f.chart.key; looks = k.tours.looks; turns = k.tours.turns; page = f.page; lease = f.lease; got = got; leaf = l; outcome = outcome; freed = call.Done }

  visit_calls : Calls
  visit_calls =
      (GetHeld (object.Page f.chart.tree f.page) f.lease, call.Got got) ∷ (Take (lock.Page f.chart.tree f.page) 30, call.Given f.lease)
      ∷ k.tours.looks ++ visits_over f.chart.tree lease k.tours.rests.visits []

  got_calls : work ≡ visit_calls
  unfolding visit_calls
  got_calls =
      k.calls
      ∙ ap (λ (cs : Calls). (GetHeld (object.Page f.chart.tree f.page) f.lease, call.Got got) ∷ (Take (lock.Page f.chart.tree f.page) 30, call.Given f.lease) ∷ cs)
      (k.tours.calls ∙ ap (λ (cs : Calls). k.tours.looks ++ cs) k.tours.rests.calls)

  tour_calls : k.before ≡ k.tours.looks ++ visits_over f.chart.tree lease k.tours.rests.visits []
  tour_calls = k.tours.calls ∙ ap (λ (cs : Calls). k.tours.looks ++ cs) k.tours.rests.calls

  -- it is the visit that it is
  seen : (outcome : Outcome) → IsFor f.chart.key l outcome → IsLeft f.chart.run (root_behind o.got k.tours.rests.visits) f.page l outcome
      → IsVisit f.chart.tree lease f.chart.run o.got k.tours.rests.visits (visit_with outcome)
  unfolding visit_with
  seen outcome is_for left = record {
    looks = k.tours.looked;
    turns = subst (λ (cs : Calls). AreTurns f.chart.tree cs k.tours.turns) tour_calls k.tours.turned;
    come = (
      k.tours.come.0,
      subst (λ (root : Option (List ℕ)). IsStart root f.chart.key k.tours.rests.visits k.tours.come.0) k.tours.rests.root k.tours.come.1,
      (
        k.tours.come.2.0,
        subst (λ (low : List ℕ). IsWay (seeking f.chart.tree f.chart.key (k.tours.looks ++ visits_over f.chart.tree lease k.tours.rests.visits [])) k.tours.come.0 k.tours.come.2.0
            (leaf_place low f.page) k.tours.turns) (sym same_low)
            (subst (λ (cs : Calls). IsWay (seeking f.chart.tree f.chart.key cs) k.tours.come.0 k.tours.come.2.0 (leaf_place f.low f.page) k.tours.turns) tour_calls k.tours.come.2.1),
      ),
    );
    over = λ page bytes h. now_over bytes k.tours.come.2.0 (k.tours.over page bytes h);
    holds = k.holds;
    is_for = is_for;
    left = left;
  }

  links_seen : f.chart.links ≡ links_behind k.tours.rests.visits ++ k.tours.turns
  links_seen = k.tours.linked ∙ ap (λ (ls : List Link). ls ++ k.tours.turns) k.tours.rests.linked

  -- where it is settled the keys below its high key are handled
  handles : IsUpto l.low f.chart.key → (outcome : Outcome) → IsSettled outcome
      → AreHandledTo f.chart.run.items l.high (visit_with outcome ∷ k.tours.rests.visits)
  unfolding visit_with
  handles low outcome settled =
      handled_here f.chart.run.items f.chart.from f.chart.key (visit_with outcome) k.tours.rests.visits settled low k.tours.least k.tours.rests.handled

  -- it lacks nothing
  spared : IsUpto l.low f.chart.key → holds l f.chart.key ≡ true → has_items (lacked l 0 f.chart.run.items) ≡ false
      → Visits lease f.lease f.chart.tree f.chart.run f.chart.root f.chart.applied l.high f.chart.links f.chart.nodes o work
  unfolding visit_with visit_calls
  spared low here none = record {
    visits = k.tours.rests.visits;
    are = k.tours.rests.are;
    visit = visit_with Spared;
    is = seen Spared here none;
    linked = links_seen;
    noted = k.tours.noted;
    own = refl;
    root = k.tours.rests.root;
    applied = omega (arith, k.tours.rests.applied);
    handled = handles low Spared tt;
    calls = got_calls;
  }

  -- it is left by its right link
  passed : (link : Link) → link.level ≡ 1 → IsUpto link.low f.chart.key → GoesRight l.high (page_at l.right) link.low link.page
      → (v : Visits lease f.lease f.chart.tree f.chart.run f.chart.root f.chart.applied f.chart.from (f.chart.links ++ link ∷ []) f.chart.nodes o work)
      × IsLeftFor f.chart.key (leaf_place link.low link.page) (v.visit ∷ v.visits)
  unfolding visit_with visit_calls
  passed link level upto goes = (
    record {
      visits = k.tours.rests.visits;
      are = k.tours.rests.are;
      visit = visit_with (Passed link);
      is = seen (Passed link) upto (level, goes);
      linked = ap (λ (ls : List Link). ls ++ link ∷ []) links_seen;
      noted = k.tours.noted;
      own = refl;
      root = k.tours.rests.root;
      applied = omega (arith, k.tours.rests.applied);
      handled = handled_more f.chart.run.items f.chart.from (visit_with (Passed link)) k.tours.rests.visits k.tours.rests.handled;
      calls = got_calls;
    },
    (refl, refl),
  )

  -- it is to be put as planned
  planned : IsUpto l.low f.chart.key → holds l f.chart.key ≡ true → (items : List PuItem) → lacked l 0 f.chart.run.items ≡ items → has_items items ≡ true → (p : PagePlan)
      → leaf_plan (tree_held f.chart.root) f.page l f.chart.run.items ≡ Ok p → AtLeaf lease (fold.put_planned (fold.handled_to f l.high) items p) o work
  unfolding visit_with visit_calls
  planned low here items same some p e = inr (record {
    visits = k.tours.rests.visits;
    are = k.tours.rests.are;
    visit = visit_with (Planned p);
    is = seen (Planned p) here (
      ap has_items same ∙ some,
      subst (λ (r : Option (List ℕ)). PutsLeaf (tree_held r) f.page l f.chart.run.items p) k.tours.rests.root
          (leaf_puts (tree_held f.chart.root) f.page l f.chart.run.items p e),
    );
    linked = ap (λ (ls : List Link). ls ++ links_at 1 p.entries) links_seen;
    noted = k.tours.noted;
    own = refl;
    root = ap (landed_root p.placing) k.tours.rests.root;
    applied = omega (arith, k.tours.rests.applied, ap (λ (xs : List PuItem). length xs) same);
    handled = handles low (Planned p) tt;
    calls = ap (done_over (puts_of f.chart.tree lease (Some f.lease) p.placing)) got_calls;
    some = plan_some (tree_held f.chart.root) f.page l f.chart.run.items p e;
  })

  -- a key that is not below its low key and is below its high key is in its range
  in_range : IsUpto l.low f.chart.key → below_bound f.chart.key l.high ≡ true → holds l f.chart.key ≡ true
  in_range low below = ap (λ (b : Bool). not b && below_bound f.chart.key l.high) low ∙ below

-- the get of a leaf that is taken
abbrev get_of : Folding → Ask
get_of f = GetHeld (object.Page f.chart.tree f.page) f.lease

got_now : (lease : Claim) (f : Folding) (got : Option (List ℕ)) (l : Leaf) (o : Opening) (work : Calls) → BeginsLeaf lease f o work → HoldsLeaf f.page l got
    → IsGot lease f got l o ((get_of f, call.Got got) ∷ work)
got_now lease f got l o work k e =
    record { before = k.before; tours = k.tours; upto = k.upto; holds = e; calls = ap (λ (cs : Calls). (get_of f, call.Got got) ∷ cs) k.calls }

reads_tour : {f : Folding} {next : Next Folding Left} (lease : Claim) (got : Option (List ℕ)) (o : Opening) (work : Calls) → BeginsLeaf lease f o work → Reads f (Ok got) next
    → LeafTours lease next o ((get_of f, call.Got got) ∷ work)
reads_tour {f = f} lease got o work k (step.passes same l high right behind new) =
    let now : IsGot lease f got l o ((get_of f, call.Got got) ∷ work) = got_now lease f got l o work k behind.holds in
    let left = passed lease f got l o ((get_of f, call.Got got) ∷ work) now (same_is l.low f.low behind.promised) (record { level = 1; low = high; page = right }) refl behind.beyond behind.goes in
    (left.0, (now.tours.least, behind.beyond, left.1))
reads_tour {f = f} lease got o work k (step.spares same l here none) =
    let low : IsUpto l.low f.chart.key = low_upto l f.low f.chart.key here.promised k.upto in
    let now : IsGot lease f got l o ((get_of f, call.Got got) ∷ work) = got_now lease f got l o work k here.holds in
    let promised : l.low ≡ f.low = same_is l.low f.low here.promised in (
      spared lease f got l o ((get_of f, call.Got got) ∷ work) now promised low
          (in_range lease f got l o ((get_of f, call.Got got) ∷ work) now promised low here.below) (ap has_items none),
      tt,
    )
reads_tour {f = f} lease got o work k (step.plans same l x xs p here some e) =
    let low : IsUpto l.low f.chart.key = low_upto l f.low f.chart.key here.promised k.upto in
    let now : IsGot lease f got l o ((get_of f, call.Got got) ∷ work) = got_now lease f got l o work k here.holds in
    let promised : l.low ≡ f.low = same_is l.low f.low here.promised in
    planned lease f got l o ((get_of f, call.Got got) ∷ work) now promised low
    (in_range lease f got l o ((get_of f, call.Got got) ∷ work) now promised low here.below) (x ∷ xs) some refl p e
reads_tour lease got o work k c = tt

got_tour : {f : Folding} {g : Result (Option (List ℕ)) Trouble} {next : Next Folding Left} (lease : Claim) (a : Answer) (o : Opening) (work : Calls) → BeginsLeaf lease f o work → got_of a ≡ g
    → Reads f g next → LeafTours lease next o ((get_of f, a) ∷ work)
got_tour {f = f} {g = Ok got} {next = next} lease a o work k e r =
    subst (λ (x : Answer). LeafTours lease next o ((get_of f, x) ∷ work)) (sym (got_of-ok a got e)) (reads_tour lease got o work k r)
got_tour {g = Err t} lease a o work k e (step.refused u) = tt

-- ---- the puts

-- what is put for a leaf in hand
abbrev put_ask : Claim → Folding → Ask
put_ask lease f = fold.folding_ask f lease

one_put : (lease : Claim) (f : Folding) (o : Opening) (work : Calls) (k : Puts lease f o work)
    → done_over (puts_of f.chart.tree lease (Some f.lease) (landed_placing f.placing)) ((put_ask lease f, call.Done) ∷ work)
    ≡ held_over f.chart.tree lease k.visit (visits_over f.chart.tree lease k.visits [])
one_put lease f o work k = sym (put_in_turn f.placing f.chart.tree lease (Some f.lease) (get_of f) work (page_left f.placing k.some)) ∙ k.calls

lands_tour : {f : Folding} {done : Result (Unit {0}) Trouble} {next : Next Folding Left} (lease : Claim) (a : Answer) (o : Opening) (work : Calls) → Puts lease f o work → done_of a ≡ done
    → Lands f done next → LeafTours lease next o ((put_ask lease f, a) ∷ work)
lands_tour lease a o work k e (step.not_put t) = tt
lands_tour {f = f} lease a o work k e (step.is_put x one) =
    subst (λ (b : Answer). LeafTours lease (Ends (fold.counted (fold.landed f)) Handled) o ((put_ask lease f, b) ∷ work)) (sym (done_is a x e)) (
      record {
        visits = k.visits;
        are = k.are;
        visit = k.visit;
        is = k.is;
        linked = k.linked;
        noted = k.noted;
        own = k.own;
        root = k.root;
        applied = k.applied;
        handled = k.handled;
        calls = sym (none_left (landed_placing f.placing) f.chart.tree lease (Some f.lease) ((put_ask lease f, call.Done) ∷ work) (one_lands f.placing one)) ∙ one_put lease f o work k;
      },
      tt,
    )
lands_tour {f = f} lease a o work k e (step.lands x more) =
    subst (λ (b : Answer). LeafTours lease (Goes (fold.landed f)) o ((put_ask lease f, b) ∷ work)) (sym (done_is a x e)) (inr (record {
      visits = k.visits;
      are = k.are;
      visit = k.visit;
      is = k.is;
      linked = k.linked;
      noted = k.noted;
      own = k.own;
      root = k.root;
      applied = k.applied;
      handled = k.handled;
      calls = one_put lease f o work k;
      some = more_left f.placing k.some more;
    }))

-- ---- all at a leaf

not_both : {X : Type 0} (b : Bool) → b ≡ true → b ≡ false → X
not_both true e f = absurd (cc (f))
not_both false e f = absurd (cc (e))

works_tour : {f : Folding} {a : Answer} {next : Next Folding Left} (lease : Claim) (o : Opening) (work : Calls) → AtLeaf lease f o work → Works f a next
    → LeafTours lease next o ((fold.folding_ask f lease, a) ∷ work)
works_tour {f = f} {a = a} {next = next} lease o work (inl k) (step.gets nothing r) =
    subst (λ (p : Placing). LeafTours lease next o ((unwrap_or (put_in_hand p f.chart.tree lease (Some f.lease)) (get_of f), a) ∷ work)) (sym k.empty)
    (got_tour lease a o work k refl r)
works_tour {f = f} lease o work (inl k) (step.puts some l) = not_both (has_nothing f.placing) (ap has_nothing k.empty) some
works_tour {f = f} lease o work (inr k) (step.gets nothing r) = not_both (has_nothing f.placing) nothing (page_left f.placing k.some)
works_tour {a = a} lease o work (inr k) (step.puts some l) = lands_tour lease a o work k refl l

pub leaf_tours : (lease : Claim) (f : Folding) (a : Answer) (o : Opening) (work : Calls) → AtLeaf lease f o work
    → LeafTours lease (fold.folding_next f a) o ((fold.folding_ask f lease, a) ∷ work)
leaf_tours lease f a o work k = works_tour lease o work k (works f a)

-- ---- from one to the next

pub taken_tours : (lease : Claim) (c : Chart) (l : Claim) (page : ℕ) (low visited : List ℕ) (o : Opening) (work : Calls) → IsUpto low c.key → ToursAt lease c (leaf_place low page) o work
    → AtLeaf lease (fold.begun c l page low visited) o ((Take (lock.Page c.tree page) 30, call.Given l) ∷ work)
taken_tours lease c l page low visited o work upto k = inl (record { before = work; tours = k; empty = refl; upto = upto; calls = refl })

freed_handled : (xs : List PuItem) (from : Option (List ℕ)) (v : Visit) (a : Answer) (visits : List Visit) → AreHandledTo xs from (v ∷ visits)
    → AreHandledTo xs from (record v { freed = a } ∷ visits)
freed_handled [] from v a visits h = tt
freed_handled (x ∷ xs) from v a visits h = (h.0, freed_handled xs from v a visits h.1)

pub left_rests : (lease own : Claim) (c : Chart) (a : Answer) (o : Opening) (work : Calls) (k : VisitsAt lease own c o work)
    → (r : RestsAt lease c o ((Release own, a) ∷ work)) × (r.visits ≡ record k.visit { freed = a } ∷ k.visits)
left_rests lease own c a o work k =
    let freed : Visit = record k.visit { freed = a } in (
      record {
        visits = freed ∷ k.visits;
        are = (record { looks = k.is.looks; turns = k.is.turns; come = k.is.come; over = k.is.over; holds = k.is.holds; is_for = k.is.is_for; left = k.is.left }, k.are);
        linked = k.linked;
        noted = k.noted;
        root = k.root;
        applied = k.applied;
        handled = freed_handled c.run.items c.from k.visit a k.visits k.handled;
        calls = ap (λ (cs : Calls). (Release own, a) ∷ cs) k.calls ∙ ap (λ (l : Claim). (Release l, a) ∷ held_over c.tree lease k.visit (visits_over c.tree lease k.visits [])) (sym k.own);
      },
      refl,
    )
