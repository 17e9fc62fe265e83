-- What is due needs few new pages.
use Rattle.std.proofs.Common.{◌≡◌, ◌+◌, ◌*◌, ◌-◌, ◌/◌, ◌≤◌, ◌==◌, ℕ, Bool, true, false, cond, nat_lt, List, [], ◌∷◌, ◌++◌, length, Option, Some, None, sym, ap, subst, ◌∙◌, inl, inr, arith}
use Rattle.std.specs.Prelude.{◌&&◌}
use Rattle.std.specs.List.{AllByRecursion}
use Rattle.std.proofs.lemmas.List.{length-append}
use Rattle.leaf_view.specs.Leaf.{Leaf}
use Rattle.node_codec.specs.Inner.{Inner}
use Rattle.node_codec.specs.Node.{raised as raised_cursor}
use Rattle.node_codec.specs.Tree.{Tree}
use Rattle.split_plan.specs.Sizes.{count_of}
use Rattle.tree_phases.specs.Placing.{has_nothing, landed_placing}
use Rattle.tree_phases.specs.Read.{tree_held}
use Rattle.tree_ckpt.specs.declared.work.Work.TheVariants as work
use Rattle.tree_ckpt.specs.Causes.{Calls}
use Rattle.tree_ckpt.specs.Due.{Due, LeafDue, NodeDue, RootDue, IsUp, IsDue, NeedsFew, raised}
use Rattle.tree_ckpt.specs.Making.{Making, new_making, making_ask, MakingLeads}
use Rattle.tree_ckpt.specs.Meaning.{Opening, opening_calls}
use Rattle.tree_ckpt.specs.Leases.{Went}
use Rattle.tree_ckpt.specs.Stepped.{calls_with}
use Rattle.tree_ckpt.specs.Working.{held_over, visits_over, done_over, puts_of, reserved_before, page_puts, climbs_over, root_behind, root_above, links_behind, links_above}
use Rattle.tree_ckpt.proofs.Words.{PuItem, Taken, Answer, Claim, Deed, Came, calls_of, Fits, Ask, PagePut, Chart, Placing, Link, Folding, Rising, Held, Work}
use Rattle.tree_ckpt.proofs.Added.{node_entries, root_entries}
use Rattle.tree_ckpt.proofs.Climbs.{Climbs, UpTo}
use Rattle.tree_ckpt.proofs.Folds.{not_empty}
use Rattle.tree_ckpt.proofs.Meaning.{Amid, DoneAt}
use Rattle.tree_ckpt.proofs.Received.{items_length}
use Rattle.tree_ckpt.proofs.RunLengths.{applied_records, run_length}
use Rattle.tree_ckpt.proofs.Told.{AreTold, done_many, up_told}
use Rattle.tree_ckpt.proofs.Tours.{AtLeaf, VisitsAt, page_left}

never : {X : Type 0} {b : Bool} → b ≡ false → b ≡ true → X
never none some = absurd (let e : false ≡ true = sym none ∙ some in cc (e))

-- ---- numbers

leaf_few : (had run all calls : ℕ) → all ≤ had + run → run ≤ 256 → 5 ≤ calls → count_of all - 1 ≤ had / 64 + calls
leaf_few had run all calls few most some = omega (arith, few, most, some)

node_few : (had lows all n calls : ℕ) → all ≤ had + lows → lows ≤ 2 * n → n + 3 ≤ calls → count_of all - 1 ≤ had / 64 + calls
node_few had lows all n calls few most some = omega (arith, few, most, some)

root_few : (had lows all n calls : ℕ) → all ≤ had + lows → lows ≤ 2 * n → n + 3 ≤ calls → count_of all ≤ had / 64 + calls
root_few had lows all n calls few most some = omega (arith, few, most, some)

-- ---- calls

-- each answer fits its call
came_fits : (tree : ℕ) (h : List Deed) (m : Making) → Came making_ask MakingLeads (new_making tree) h m → AllByRecursion (λ c. Fits c.0 c.1) (calls_of h)
came_fits tree [] m came = tt
came_fits tree (d ∷ h) m came = (came.3.fits, came_fits tree h came.0 came.1)

fits_behind : (front back : Calls) → AllByRecursion (λ c. Fits c.0 c.1) (front ++ back) → AllByRecursion (λ c. Fits c.0 c.1) back
fits_behind [] back fits = fits
fits_behind (c ∷ front) back fits = fits_behind front back fits.1

opening_many : (tree : ℕ) (lease : Claim) (o : Opening) (w cs : Calls) → cs ≡ w ++ opening_calls tree lease o → length cs ≡ length w + 3
opening_many tree lease o w cs is = ap (λ (xs : Calls). length xs) is ∙ length-append w (opening_calls tree lease o)

module _ (tree : ℕ) (cs : Calls) (fits : AllByRecursion (λ c. Fits c.0 c.1) cs) where
  -- the receive brought 256 records at most
  run_few : (h : Held) (f : Folding) (Is : Opening → Calls → Type 0) → Amid tree h f.chart.run Is cs → length f.chart.run.items ≤ 256
  run_few h f Is k =
      let received : length k.opening.messages ≤ 256 =
      (fits_behind k.work (opening_calls tree h.lease k.opening) (subst (λ (xs : Calls). AllByRecursion (λ c. Fits c.0 c.1) xs) k.calls fits)).0 in
      let read = items_length k.opening.messages k.opening.items k.opened.read in
      let run = run_length (tree_held k.opening.got).cursor k.opening.items k.opening.run.items k.opening.run.top k.opened.run in
      let same : length k.opening.run.items ≡ length f.chart.run.items = ap (λ (r : Taken). length r.items) k.same in
      omega (arith, received, read, run, same)

  -- ---- a leaf

  begun_many : (h : Held) (f : Folding) (o : Opening) (w : Calls) → has_nothing f.placing ≡ true → AtLeaf h.lease f o w → 1 ≤ length w
  begun_many h f o w nothing (inl b) = let calls = ap (λ (xs : Calls). length xs) b.calls in omega (arith, calls)
  begun_many h f o w nothing (inr p) = absurd (let some : has_nothing f.placing ≡ false = page_left f.placing p.some in cc (some, nothing))

  leaf_needs : (h : Held) (f : Folding) (l : Leaf) → has_nothing f.placing ≡ true → DoneAt tree (work.Folding h f) cs
      → (root : Tree) (c : Ask × Answer) → NeedsFew (LeafDue root l f.chart.run.items) (c ∷ cs)
  leaf_needs h f l nothing k root c =
      let begun = begun_many h f k.opening k.work nothing k.is in
      let many = opening_many tree h.lease k.opening k.work cs k.calls in
      let few = applied_records l f.chart.run.items in
      let run = run_few h f (λ o w. AtLeaf h.lease f o w) k in
      leaf_few (length l.records) (length f.chart.run.items) _ (length (c ∷ cs)) few run (omega (arith, begun, many))

-- ---- on the way up

-- one put is left at most where nothing is behind it
one_left : (tree : ℕ) (one : Claim) (p : Placing) → has_nothing (landed_placing p) ≡ true → length (puts_of tree one None p) ≤ 1
one_left tree one p nothing = on p.reserved p.puts nothing where
  placing : Option (List ℕ) → List PagePut → Placing
  placing reserved puts = record { reserved = reserved; puts = puts }

  on : (reserved : Option (List ℕ)) (puts : List PagePut) → has_nothing (landed_placing (placing reserved puts)) ≡ true
      → length (reserved_before tree one reserved (page_puts tree one None puts)) ≤ 1
  on (Some bytes) [] e = omega arith
  on (Some bytes) (x ∷ xs) e = absurd (let some : (length (x ∷ xs) == 0) ≡ false = not_empty (x ∷ xs) (omega arith) in never some e)
  on None [] e = omega arith
  on None (x ∷ []) e = omega arith
  on None (x ∷ y ∷ ys) e = absurd (let some : (length (y ∷ ys) == 0) ≡ false = not_empty (y ∷ ys) (omega arith) in never some e)

-- between the puts of two plans
rising_told : (lease : Claim) (r : Rising) (o : Opening) (w : Calls) → r.last ≡ None → has_nothing (landed_placing r.placing) ≡ true → Climbs lease r o w
    → AreTold r.chart.links (length w + 1)
rising_told lease r o w between nothing k =
    let tree : ℕ = r.chart.tree in
    let below : Calls = visits_over tree lease k.ups.visits [] in
    let told : AreTold (links_above (links_behind k.ups.visits) k.ups.climbs) (length (climbs_over tree lease k.ups.climbs below)) =
    up_told tree lease r.chart.run o.got k.ups.visits k.ups.climbs k.ups.are below (root_behind o.got k.ups.visits) k.ups.climbed in
    let puts =
    subst
    (λ (last : Option (List ℕ)).
    UpTo r.is_spent tree lease r.chart.run.top r.placing r.chart.root (root_above (root_behind o.got k.ups.visits) k.ups.climbs) (links_above (links_behind k.ups.visits) k.ups.climbs)
    (climbs_over tree lease k.ups.climbs below) w last) between k.upto in
    let over : length (done_over (puts_of tree lease None r.placing) w) ≡ length (climbs_over tree lease k.ups.climbs below) = ap (λ (xs : Calls). length xs) puts.1 in
    let many = done_many (puts_of tree lease None r.placing) w in
    let one = one_left tree lease r.placing nothing in
    let few = told.few in
    subst (λ (ls : List Link). AreTold ls (length w + 1)) (sym k.ups.linked)
    (record { lows = told.lows; within = told.within; few = omega (arith, over, many, one, few) })

-- behind the last leaf
begun_told : (lease own : Claim) (c : Chart) (o : Opening) (w : Calls) → VisitsAt lease own c o w → AreTold c.links (length w + 1)
begun_told lease own c o w v =
    let told : AreTold (links_behind (v.visit ∷ v.visits)) (length (visits_over c.tree lease (v.visit ∷ v.visits) [])) =
    up_told c.tree lease c.run o.got (v.visit ∷ v.visits) [] (v.is, v.are) [] None tt in
    let calls : length w ≡ length (held_over c.tree lease v.visit (visits_over c.tree lease v.visits [])) = ap (λ (xs : Calls). length xs) v.calls in
    let few = told.few in
    subst (λ (ls : List Link). AreTold ls (length w + 1)) (sym v.linked)
    (record { lows = told.lows; within = told.within; few = omega (arith, calls, few) })

module _ (tree : ℕ) (cs : Calls) (a : Answer) where
  -- the low keys of the links that it knows are few, by the calls before
  record KnowsFew (links : List Link) : Type 0 where
    calls : ℕ
    told : AreTold links calls
    most : calls + 3 ≤ length cs + 1

  up_few : (w : Work) → DoneAt tree w cs → (up : Rising) → IsUp w a up → KnowsFew up.chart.links
  up_few w k up (inl b) =
      let known = subst (λ (x : Work). DoneAt tree x cs) b.stands k in
      let many = opening_many tree b.held.lease known.opening known.work cs known.calls in
      subst (λ (u : Rising). KnowsFew u.chart.links) (sym b.is) (record {
        calls = length known.work + 1;
        told = begun_told b.held.lease b.lease b.chart known.opening known.work known.is.0;
        most = omega (arith, many);
      })
  up_few w k up (inr g) =
      let known = (subst (λ (x : Work). DoneAt tree x cs) g.stands k).0 in
      let many = opening_many tree g.held.lease known.opening known.work cs known.calls in
      subst (λ (u : Rising). KnowsFew u.chart.links) (sym g.is) (record {
        calls = length known.work + 1;
        told = rising_told g.held.lease g.from known.opening known.work g.between g.nothing known.is;
        most = omega (arith, many);
      })

  node_needs : (root : Tree) (n : Inner) (links : List Link) (c : Ask × Answer) → KnowsFew links → NeedsFew (NodeDue root n links) (c ∷ cs)
  node_needs root n links c k =
      let few = node_entries n k.told.lows links k.told.within in
      let lows = k.told.few in
      let most = k.most in
      node_few (length n.entries) (length k.told.lows) _ k.calls (length (c ∷ cs)) few lows (omega (arith, most))

  root_needs : (root : Tree) (links : List Link) (top : List (ℕ × ℕ)) (c : Ask × Answer) → KnowsFew links → NeedsFew (RootDue root links top) (c ∷ cs)
  root_needs root links top c k = on (nat_lt 64 (length t.entries) && nat_lt root.level 255)
    where
      t : Tree
      t = raised root links top

      all : count_of (length t.entries) ≤ length root.entries / 64 + length (c ∷ cs)
      all =
          let few : length t.entries ≤ length root.entries + length k.told.lows =
          root_entries root.level k.told.lows links (record (record root { version = root.version + 1 }) { cursor = raised_cursor root.cursor top }) k.told.within in
          let lows = k.told.few in
          let most = k.most in
          root_few (length root.entries) (length k.told.lows) (length t.entries) k.calls (length (c ∷ cs)) few lows (omega (arith, most))

      on : (b : Bool) → cond b (count_of (length t.entries)) 0 ≤ length root.entries / 64 + length (c ∷ cs)
      on true = all
      on false = omega arith

-- ---- whatever is due

pub due_few : (m : Making) (h : List Deed) (a : Answer) → Went h m → DoneAt m.tree m.work (calls_of h) → (due : Due) → IsDue m.work a due → NeedsFew due (calls_with m h a)
due_few m h a went k (LeafDue root l run) is =
    let known = subst (λ (x : Work). DoneAt m.tree x (calls_of h)) is.stands k in
    subst (λ (items : List PuItem). NeedsFew (LeafDue root l items) (calls_with m h a)) (sym is.run_is)
    (leaf_needs m.tree (calls_of h) (came_fits m.tree h m went) is.held is.from l is.nothing known root (making_ask m, a))
due_few m h a went k (NodeDue root n links) is =
    subst (λ (ls : List Link). NeedsFew (NodeDue root n ls) (calls_with m h a)) (sym is.links_are)
    (node_needs m.tree (calls_of h) a root n is.up.chart.links (making_ask m, a) (up_few m.tree (calls_of h) a m.work k is.up is.is_up))
due_few m h a went k (RootDue root links top) is =
    subst (λ (ls : List Link). NeedsFew (RootDue root ls top) (calls_with m h a)) (sym is.links_are)
    (root_needs m.tree (calls_of h) a root is.up.chart.links top (making_ask m, a) (up_few m.tree (calls_of h) a m.work k is.up is.is_up))
