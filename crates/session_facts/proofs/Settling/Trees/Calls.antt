-- How many calls of a tree checkpoint are left, where its tree has so many pages: each step that goes on leaves fewer.
use Rattle.std.proofs.Common.{◌≡◌, ◌<◌, ◌≤◌, ◌+◌, ◌-◌, ◌*◌, ◌⊎◌, inl, inr, ℕ, Bool, true, false, cond, List, [], ◌∷◌, ◌++◌, length, length-append, Option, Some, None, Result, Ok, refl, sym, ap, subst, ◌∙◌, arith, add-mul, mul-add, mul-le-mul_right}
use Rattle.std.specs.Prelude.{◌==◌}
use Rattle.std.proofs.lemmas.Option.{slice_get_within}
use Rattle.ckpt_parts.specs.declared.intake.Intake.{Intake}
use Rattle.ckpt_parts.specs.declared.leases.Leases.{Leases}
use Rattle.ckpt_parts.specs.Deleting.{next_id, tried}
use Rattle.ckpt_parts.specs.Intakes.{has_items, TakesIn}
use Rattle.ckpt_parts.specs.Leasing.{claims_of, newest_lease, without_newest}
use Rattle.cloud_facts.specs.Words.{Trouble, PuItem, Answer, Claim, Next, Goes, Ends, Stops, done_of, received_of}
use Rattle.cloud_trait.specs.declared.message.Message.{Message}
use Rattle.db_base.specs.declared.names.QueueName.TheVariants as queue
use Rattle.tree_phases.specs.declared.folding.Folding.{Folding}
use Rattle.tree_phases.specs.declared.folding.Left.{Left}
use Rattle.tree_phases.specs.declared.folding.Left.TheVariants.{Right, Handled}
use Rattle.tree_phases.specs.Folding as fold
use Rattle.tree_phases.specs.Folding.{no_placing}
use Rattle.run_cursor.specs.Run.{Taken}
use Rattle.split_plan.specs.declared.put_list.PagePut.{PagePut}
use Rattle.tree_ckpt.proofs.Charts.{GoesFurther, arrive_further, descent_further}
use Rattle.tree_ckpt.proofs.Folds.{not_empty, GetLeaves, reads_leave}
use Rattle.tree_ckpt.proofs.Keys.{next_fewer, from_most}
use Rattle.tree_ckpt.proofs.Tours.{page_left as has_page}
use Rattle.tree_ckpt.proofs.Outcomes.{Seeks, Descends, Ascends, Clears, Fails, Comes, comes}
use Rattle.tree_ckpt.proofs.Outcomes as step
use Rattle.tree_ckpt.proofs.LeafOutcomes.{works}
use Rattle.tree_ckpt.proofs.LeafOutcomes as leaf
use Rattle.tree_ckpt.proofs.RiseOutcomes.{Rises, Lands, rises, lands}
use Rattle.tree_ckpt.proofs.RiseOutcomes as climb
use Rattle.tree_ckpt.specs.End.{from_on, from_on_or_none, above, unhandled, behind_key, ids_in}
use Rattle.tree_phases.specs.declared.descent.Descent.{Descent}
use Rattle.tree_phases.specs.Descent.{descent_next}
use Rattle.tree_phases.specs.Descent as way
use Rattle.tree_ckpt.specs.declared.work.Held.{Held}
use Rattle.tree_ckpt.specs.declared.work.Onward.TheVariants as onward
use Rattle.tree_ckpt.specs.declared.work.Work.{Work}
use Rattle.tree_ckpt.specs.declared.work.Work.TheVariants as work
use Rattle.tree_ckpt.specs.Moves.{Step, stopping, went, descending_on, root_entry, down_from, key_from_or_none, folding_on, Leads}
use Rattle.tree_ckpt.specs.Work.{one_lease}
use Rattle.tree_phases.specs.declared.chart.Chart.{Chart}
use Rattle.tree_phases.specs.declared.kept.KeptNode.{KeptNode}
use Rattle.tree_phases.specs.declared.placing.Placing.{Placing}
use Rattle.tree_phases.specs.Kept.{links_at}
use Rattle.tree_phases.specs.Placing.{has_nothing, has_one_page, landed_placing, landed_root}
use Rattle.tree_phases.specs.Read.{tree_held}
use Rattle.tree_phases.specs.declared.rising.Rising.{Rising}
use Rattle.tree_phases.specs.Rising as rise
use Rattle.session_facts.specs.Machines.TreeCheckpoints.Counting.{piece_calls, for_keys, next_of, around, at_leaves, up_left, calls_left}
use Rattle.session_facts.proofs.Settling.Trees.Pieces.{node_few, last_few, GotLeaf, reads_leaf}

-- ---- what its tree leaves room for

-- the nodes that were got and the numbers that are reserved are within so many pages
pub record HasRoom (p : ℕ) (c : Chart) : Type 0 where
  pub nodes : length c.nodes ≤ p
  pub next : next_of c ≤ p + 1

-- a tree object that reserves numbers does so for all pages that are to be put, but for this many
abbrev pub Reserving : ℕ → Chart → Placing → Type 0
Reserving own c p = (bytes : List ℕ) → p.reserved ≡ Some bytes → (tree_held (Some bytes)).next + own ≡ next_of c + length p.puts

abbrev pub own_of : Option (List ℕ) → ℕ
own_of None = 1
own_of (Some last) = 0

abbrev pub FitsLeaf : ℕ → Folding → Type 0
FitsLeaf p f = ((f.placing ≡ no_placing) × (length f.visited ≤ p)) ⊎ ((0 < length f.placing.puts) × Reserving 1 f.chart f.placing)

abbrev pub FitsWork : ℕ → Work → Type 0
FitsWork p (work.Descending h d) = HasRoom p d.chart
FitsWork p (work.TakingPage h c) = HasRoom p c.chart × (length c.visited ≤ p)
FitsWork p (work.Folding h f) = HasRoom p f.chart × FitsLeaf p f
FitsWork p (work.ReleasingPage h l (onward.Right c)) = HasRoom p c.chart × (length c.visited ≤ p)
FitsWork p (work.ReleasingPage h l (onward.Handled c)) = HasRoom p c
FitsWork p (work.LeftPage h (onward.Handled c)) = HasRoom p c
FitsWork p (work.Rising h r) = (next_of r.chart ≤ p + 1) × Reserving (own_of r.last) r.chart r.placing
FitsWork p w = Unit {0}

-- where a step goes on, fewer calls are left than this, where the tree leaves room
Below : ℕ → ℕ → Step → Type 0
Below p n (Goes w) = FitsWork p w → calls_left p w < n
Below p n (Ends w a) = Unit {0}
Below p n (Stops w t) = Unit {0}

-- ---- keys

fewer_for : (p a b : ℕ) → a + 1 ≤ b → for_keys p a + (3 * p + 8) ≤ for_keys p b
unfolding for_keys
fewer_for p a b h =
    let one : (a + 1) * (3 * p + 8) ≤ b * (3 * p + 8) = mul-le-mul_right (3 * p + 8) h in
    let split : (a + 1) * (3 * p + 8) ≡ a * (3 * p + 8) + 1 * (3 * p + 8) = add-mul a 1 (3 * p + 8) in
    omega (arith, one, split)

no_more_for : (p a b : ℕ) → a ≤ b → for_keys p a ≤ for_keys p b
unfolding for_keys
no_more_for p a b h = mul-le-mul_right (3 * p + 8) h

-- all of it is within the bound
all_within : (p d keys : ℕ) → keys ≤ d → 1 ≤ d → d + for_keys p keys + 4 * p + 10 ≤ 14 + d * (8 * p + 16)
unfolding for_keys
all_within p d keys h some =
    let few : keys * (3 * p + 8) ≤ d * (3 * p + 8) = mul-le-mul_right (3 * p + 8) h in
    let whole : d * ((3 * p + 8) + (5 * p + 8)) ≡ d * (3 * p + 8) + d * (5 * p + 8) = mul-add d (3 * p + 8) (5 * p + 8) in
    let rest : d * ((5 * p + 7) + 1) ≡ d * (5 * p + 7) + d * 1 = mul-add d (5 * p + 7) 1 in
    let one : 1 * (5 * p + 7) ≤ d * (5 * p + 7) = mul-le-mul_right (5 * p + 7) some in
    let sum : (3 * p + 8) + (5 * p + 8) ≡ 8 * p + 16 = omega arith in
    let shown : d * ((3 * p + 8) + (5 * p + 8)) ≡ d * (8 * p + 16) = ap (λ (n : ℕ). d * n) sum in
    let more : d * ((5 * p + 7) + 1) ≡ d * (5 * p + 8) = ap (λ (n : ℕ). d * n) (omega arith) in
    omega (arith, few, whole, rest, one, shown, more)

fewer_keys : (from : Option (List ℕ)) (key : List ℕ) (xs : List PuItem) → key_from_or_none from xs ≡ Some key → above key xs + 1 ≤ from_on_or_none from xs
fewer_keys (Some from) key xs e = next_fewer from key xs e
fewer_keys None key xs e = absurd (cc (e))

-- a chart of the same run and key has as many keys behind it
behind_same : (c e : Chart) → e.run ≡ c.run → e.key ≡ c.key → behind_key e ≡ behind_key c
behind_same c e run key = ap (λ (k : List ℕ). above k e.run.items) key ∙ ap (λ (r : Taken). above c.key r.items) run

next_same : (c e : Chart) → e.root ≡ c.root → next_of e ≡ next_of c
next_same c e root = ap (λ (r : Option (List ℕ)). (tree_held r).next) root

-- ---- stops and deletions

below_stop : (p n : ℕ) (l : Claim) (t : Trouble) → 2 < n → Below p n (stopping (one_lease l) t)
unfolding Below
below_stop p n l t h = λ room. omega (arith, h)

-- ---- up

-- the way up goes on, or stops; behind its end the deletions come
abbrev rising_then : Held → Next Rising (Unit {0}) → Step
rising_then h (Goes r) = Goes (work.Rising h r)
rising_then h (Ends r x) = Goes (work.Deleting h r.chart.applied)
rising_then h (Stops r t) = stopping (one_lease h.lease) t

-- where the way up goes on
BelowUp : ℕ → ℕ → Next Rising (Unit {0}) → Type 0
BelowUp p n (Goes r) = next_of r.chart ≤ p + 1 → Reserving (own_of r.last) r.chart r.placing → up_left p r.last r < n
BelowUp p n (Ends r x) = Unit {0}
BelowUp p n (Stops r t) = Unit {0}

below_rising : (p n m : ℕ) (h : Held) (next : Next Rising (Unit {0})) → BelowUp p m next → ids_in h + 4 + m ≤ n → Below p n (rising_then h next)
unfolding Below BelowUp
below_rising p n m h (Goes r) up few = λ room. omega (arith, up room.0 room.1, few)
below_rising p n m h (Ends r x) up few = λ room. omega (arith, few)
below_rising p n m h (Stops r t) up few = below_stop p n h.lease t (omega (arith, few))

up_more : (p n m : ℕ) (next : Next Rising (Unit {0})) → n ≤ m → BelowUp p n next → BelowUp p m next
unfolding BelowUp
up_more p n m (Goes r) more h = λ next reserves. omega (arith, h next reserves, more)
up_more p n m (Ends r x) more h = tt
up_more p n m (Stops r t) more h = tt

-- the next node, or the tree object as the last put
rises_up : {r : Rising} {next : Next Rising (Unit {0})} (p : ℕ) → r.last ≡ None → Rises r next
    → BelowUp p (2 * (length r.chart.nodes - r.at) + (p + 1 - next_of r.chart) + 4) next
unfolding BelowUp
rises_up {r = r} p none (climb.node_due k q there e) =
    subst (λ (last : Option (List ℕ)). next_of r.chart ≤ p + 1 → Reserving (own_of last) r.chart q.placing
    → up_left p last (record r { chart = record r.chart { links = r.chart.links ++ links_at (k.level + 1) q.entries }; at = rise.next_touched r + 1; placing = q.placing })
    < 2 * (length r.chart.nodes - r.at) + (p + 1 - next_of r.chart) + 4)
    (sym none) (λ next reserves.
    let few = node_few (tree_held r.chart.root) r.chart.tree k r.chart.links q e in
    let within = slice_get_within r.chart.nodes (rise.next_touched r) k there in
    omega (arith, few, within))
rises_up {r = r} p none (climb.root_due q gone e) = λ next reserves. let few = last_few (tree_held r.chart.root) r.chart.links r.chart.run.top q e in omega (arith, few)
rises_up p none c = tt

-- ---- a put

-- what the put in hand leaves, with the numbers that it may have reserved
landed_fewer : (p own next : ℕ) (root : Option (List ℕ)) (placing : Placing) → has_nothing placing ≡ false → (tree_held root).next ≡ next
    → ((bytes : List ℕ) → placing.reserved ≡ Some bytes → (tree_held (Some bytes)).next + own ≡ next + length placing.puts)
    → (tree_held (landed_root placing root)).next ≤ p + 1
    → piece_calls (own + 1) (landed_placing placing) + (p + 1 - (tree_held (landed_root placing root)).next) + 1 ≤ piece_calls (own + 1) placing + (p + 1 - next)
landed_fewer p own next root placing some is reserves room = on placing.reserved placing.puts some (λ bytes e. reserves bytes e) room
  where
    on : (reserved : Option (List ℕ)) (puts : List PagePut) → has_nothing (record { reserved = reserved; puts = puts }) ≡ false
        → ((bytes : List ℕ) → reserved ≡ Some bytes → (tree_held (Some bytes)).next + own ≡ next + length puts)
        → (tree_held (landed_root (record { reserved = reserved; puts = puts }) root)).next ≤ p + 1
        → piece_calls (own + 1) (landed_placing (record { reserved = reserved; puts = puts }))
        + (p + 1 - (tree_held (landed_root (record { reserved = reserved; puts = puts }) root)).next) + 1
        ≤ piece_calls (own + 1) (record { reserved = reserved; puts = puts }) + (p + 1 - next)
    on (Some bytes) puts some reserves room = let is_next = reserves bytes refl in omega (arith, is_next, room)
    on None [] some reserves room = absurd (cc (some))
    on None (x ∷ xs) some reserves room = omega (arith, is, room)

-- the same where nothing is left of it
last_fewer : (p next : ℕ) (root : Option (List ℕ)) (placing : Placing) → has_nothing placing ≡ false → has_nothing (landed_placing placing) ≡ true
    → (tree_held root).next ≡ next
    → ((bytes : List ℕ) → placing.reserved ≡ Some bytes → (tree_held (Some bytes)).next + 1 ≡ next + length placing.puts)
    → (p + 1 - (tree_held (landed_root placing root)).next) + 1 ≤ piece_calls 2 placing + (p + 1 - next)
last_fewer p next root placing some none is reserves = on placing.reserved placing.puts some none (λ bytes e. reserves bytes e)
  where
    on : (reserved : Option (List ℕ)) (puts : List PagePut) → has_nothing (record { reserved = reserved; puts = puts }) ≡ false
        → has_nothing (landed_placing (record { reserved = reserved; puts = puts })) ≡ true
        → ((bytes : List ℕ) → reserved ≡ Some bytes → (tree_held (Some bytes)).next + 1 ≡ next + length puts)
        → (p + 1 - (tree_held (landed_root (record { reserved = reserved; puts = puts }) root)).next) + 1
        ≤ piece_calls 2 (record { reserved = reserved; puts = puts }) + (p + 1 - next)
    on (Some bytes) [] some none reserves = let is_next = reserves bytes refl in omega (arith, is_next)
    on (Some bytes) (x ∷ xs) some none reserves = let more : (length (x ∷ xs) == 0) ≡ false = not_empty (x ∷ xs) (omega arith) in absurd (cc (more, none))
    on None [] some none reserves = absurd (cc (some))
    on None (x ∷ xs) some none reserves = omega (arith, is)

one_landed : (p : ℕ) (r : Rising) → has_nothing r.placing ≡ false → (last : Option (List ℕ)) → Reserving (own_of last) r.chart r.placing → next_of (rise.landed r).chart ≤ p + 1
    → up_left p last (rise.landed r) < up_left p last r
one_landed p r some None reserves room = let fewer = landed_fewer p 1 (next_of r.chart) r.chart.root r.placing some refl reserves room in omega (arith, fewer)
one_landed p r some (Some bytes) reserves room = let fewer = landed_fewer p 0 (next_of r.chart) r.chart.root r.placing some refl reserves room in omega (arith, fewer)

all_landed : (p : ℕ) (r : Rising) → has_nothing r.placing ≡ false → has_nothing (rise.landed r).placing ≡ true → (last : Option (List ℕ)) → last ≡ None → Reserving (own_of last) r.chart r.placing
    → 2 * (length r.chart.nodes - r.at) + (p + 1 - next_of (rise.landed r).chart) + 4 ≤ up_left p last r
all_landed p r some done None none reserves = let fewer = last_fewer p (next_of r.chart) r.chart.root r.placing some done refl reserves in omega (arith, fewer)
all_landed p r some done (Some bytes) none reserves = absurd (cc (none))

lands_up : {r : Rising} {done : Result (Unit {0}) Trouble} {next : Next Rising (Unit {0})} (p : ℕ) → Reserving (own_of r.last) r.chart r.placing → Lands r done next
    → BelowUp p (up_left p r.last r) next
unfolding BelowUp
lands_up {r = r} p reserves (climb.more x some on) = λ room more. one_landed p r some r.last reserves room
lands_up {r = r} {next = next} p reserves (climb.goes_on x some done between on) =
    up_more p (2 * (length r.chart.nodes - r.at) + (p + 1 - next_of (rise.landed r).chart) + 4) (up_left p r.last r) next (all_landed p r some done r.last between reserves)
    (rises_up p between on)
lands_up p reserves c = tt

up_some : (p : ℕ) (last : Option (List ℕ)) (r : Rising) → 1 ≤ up_left p last r
up_some p None r = omega arith
up_some p (Some bytes) r = omega arith

-- ---- down

below_descending : (p n more : ℕ) (h : Held) (c : Chart) (next : Next Descent (Unit {0})) → GoesFurther more c next
    → (length c.nodes + more ≤ p → ids_in h + (2 * p + 8) + (p - (length c.nodes + more)) + ((p + 1) - next_of c) + for_keys p (behind_key c) + 3 * p + 6 < n)
    → 2 < n → Below p n (descending_on h next)
unfolding Below
below_descending p n more h c (Goes d) f few some = λ room.
    let keys = ap (for_keys p) (behind_same c d.chart f.run f.key) in
    let next = next_same c d.chart f.root in
    let nodes = room.nodes in
    omega (arith, few (omega (arith, f.nodes, nodes)), f.nodes, nodes, keys, next)
below_descending p n more h c (Ends d x) f few some = λ room.
    let keys = ap (for_keys p) (behind_same c d.chart f.run f.key) in
    let next = next_same c d.chart f.root in
    let nodes = room.0.nodes in
    omega (arith, few (omega (arith, f.nodes, nodes)), f.nodes, nodes, keys, next)
below_descending p n more h c (Stops d t) f few some = below_stop p n h.lease t some

some_within : (p d : ℕ) → d ≤ d * (8 * p + 16)
some_within p d =
    let split : d * ((8 * p + 15) + 1) ≡ d * (8 * p + 15) + d * 1 = mul-add d (8 * p + 15) 1 in
    let same : d * ((8 * p + 15) + 1) ≡ d * (8 * p + 16) = ap (λ (n : ℕ). d * n) (omega arith) in
    omega (arith, split, same)

some_items : (xs : List PuItem) (d : ℕ) → has_items xs ≡ true → length xs ≤ d → 1 ≤ d
some_items [] d e few = absurd (cc (e))
some_items (x ∷ xs) d e few = omega (arith, few)

-- ---- a leaf

-- with a page to be put
calls_at : (p : ℕ) (h : Held) (f : Folding) → 0 < length f.placing.puts
    → calls_left p (work.Folding h f) ≡ around p h f.chart + for_keys p (unhandled f.chart) + piece_calls 2 f.placing + 2
calls_at p h f some =
    ap
    (λ (none : Bool). cond none (at_leaves p h f.chart (length f.visited) + 5)
    (around p h f.chart + for_keys p (unhandled f.chart) + piece_calls 2 f.placing + 2))
    (not_empty f.placing.puts some)

below_got : (p : ℕ) (h : Held) (f : Folding) (next : Next Folding Left) → GetLeaves f next → GotLeaf f next
    → Below p (at_leaves p h f.chart (length f.visited) + 5) (folding_on h next)
unfolding Below
below_got p h f (Goes g) got leaf = λ room.
    let at = calls_at p h g got.1 in
    let keys = no_more_for p (unhandled g.chart) (behind_key f.chart) got.0.left in
    let next = next_same f.chart g.chart leaf.0 in
    let few = leaf.1 in
    let nodes = got.0.nodes in
    omega (arith, at, keys, next, few, nodes)
below_got p h f (Ends g (Right low page)) got leaf = λ room.
    let keys = ap (for_keys p) (behind_same f.chart g.chart got.run got.key) in
    let next = next_same f.chart g.chart leaf.0 in
    let nodes = ap (λ (ns : List KeptNode). length ns) got.nodes in
    let visited = ap (λ (ns : List ℕ). length ns) leaf.1 ∙ length-append f.visited (f.page ∷ []) in
    let within = room.1 in
    omega (arith, keys, next, nodes, visited, within)
below_got p h f (Ends g Handled) got leaf = λ room.
    let keys = no_more_for p (unhandled g.chart) (behind_key f.chart) got.left in
    let next = next_same f.chart g.chart leaf in
    let nodes = got.nodes in
    omega (arith, keys, next, nodes)
below_got p h f (Stops g t) got leaf = λ room. omega arith

same_root : (p : Placing) (root : Option (List ℕ)) → has_one_page p ≡ true → landed_root p root ≡ root
same_root p root e = on p.reserved p.puts e where
  on : (reserved : Option (List ℕ)) (puts : List PagePut) → has_one_page (record { reserved = reserved; puts = puts }) ≡ true
      → landed_root (record { reserved = reserved; puts = puts }) root ≡ root
  on (Some bytes) puts e = absurd (cc (e))
  on None puts e = refl

more_left : (p : Placing) → has_one_page p ≡ false → 0 < length p.puts → 0 < length (landed_placing p).puts
more_left p e some = on p.reserved p.puts e some where
  on : (reserved : Option (List ℕ)) (puts : List PagePut) → has_one_page (record { reserved = reserved; puts = puts }) ≡ false → 0 < length puts
      → 0 < length (landed_placing (record { reserved = reserved; puts = puts })).puts
  on (Some bytes) puts e some = some
  on None [] e some = absurd (omega (arith, some))
  on None (x ∷ []) e some = absurd (cc (e))
  on None (x ∷ y ∷ ys) e some = omega arith

lands_below : {f : Folding} {done : Result (Unit {0}) Trouble} {next : Next Folding Left} (p : ℕ) (h : Held) → 0 < length f.placing.puts → Reserving 1 f.chart f.placing → leaf.Lands f done next
    → Below p (around p h f.chart + for_keys p (unhandled f.chart) + piece_calls 2 f.placing + 2) (folding_on h next)
unfolding Below
lands_below {f = f} p h some reserves (leaf.is_put x e) = λ room. let next = next_same f.chart (fold.landed f).chart (same_root f.placing f.chart.root e) in omega (arith, next)
lands_below {f = f} p h some reserves (leaf.lands x e) = λ room.
    let at = calls_at p h (fold.landed f) (more_left f.placing e some) in
    let fewer = landed_fewer p 1 (next_of f.chart) f.chart.root f.placing (has_page f.placing some) refl reserves room.0.next in
    omega (arith, at, fewer)
lands_below p h some reserves (leaf.not_put t) = λ room. omega arith

works_below : {f : Folding} {a : Answer} {next : Next Folding Left} (p : ℕ) (h : Held) → FitsLeaf p f → leaf.Works f a next → Below p (calls_left p (work.Folding h f)) (folding_on h next)
works_below {f = f} {next = next} p h (inl reading) (leaf.gets nothing r) =
    subst (λ (n : ℕ). Below p n (folding_on h next)) (sym (ap (λ (placing : Placing). calls_left p (work.Folding h (record f { placing = placing }))) reading.0))
    (below_got p h f next (reads_leave r) (reads_leaf r))
works_below p h (inl reading) (leaf.puts some l) = let nothing = ap has_nothing reading.0 in absurd (cc (nothing, some))
works_below {f = f} p h (inr putting) (leaf.gets nothing r) = let some = has_page f.placing putting.0 in absurd (cc (nothing, some))
works_below {f = f} {next = next} p h (inr putting) (leaf.puts some l) =
    subst (λ (n : ℕ). Below p n (folding_on h next)) (sym (calls_at p h f putting.0)) (lands_below p h putting.0 putting.1 l)

folded_below : (p : ℕ) (h : Held) (f : Folding) (a : Answer) (next : Next Folding Left) → FitsLeaf p f → fold.folding_next f a ≡ next → Below p (calls_left p (work.Folding h f)) (folding_on h next)
folded_below p h f a next fits e = subst (λ (x : Next Folding Left). Below p (calls_left p (work.Folding h f)) (folding_on h x)) e (works_below p h fits (works f a))

-- ---- wherever it stands

-- what is left before a step
abbrev pub before_step : ℕ → Work → ℕ → ℕ
before_step p (work.Receiving l root) d = 14 + d * (8 * p + 16)
before_step p w d = calls_left p w

-- a receive brings no more ids and records than this
abbrev BringsFew : ℕ → ℕ → Work → Answer → Type 0
BringsFew d tree w a =
    (l : Claim) (root : Option (List ℕ)) → w ≡ work.Receiving l root → (i : Intake) (ms : List Message) (cursor : List (ℕ × ℕ)) → received_of a ≡ Ok ms → TakesIn (queue.TreePu tree) cursor ms (Ok i)
    → (length i.deletions.ids ≤ d) × (length i.run.items ≤ d)

module _ (p d tree : ℕ) where
  -- where the next key is sought, so many are left for what is around the leaves and for all keys that are left
  seeks_few : {w : Work} {a : Answer} {h : Held} {c : Chart} → Seeks tree w a h c → FitsWork p w → BringsFew d tree w a
      → (length c.nodes ≤ p) × (around p h c + for_keys p (unhandled c) < before_step p w d)
  seeks_few (step.with_run l root ms i takes some) fits few =
      let most = few l root refl i ms (tree_held root).cursor refl takes in
      let keys : from_on [] i.run.items ≤ length i.run.items = from_most [] i.run.items in
      let within = all_within p d (from_on [] i.run.items) (omega (arith, keys, most.1)) (some_items i.run.items d some most.1) in
      (omega arith, omega (arith, within, most.0))
  seeks_few (step.from_leaf h l c a) fits few = (fits.nodes, omega arith)
  seeks_few (step.alone h c a) fits few = (fits.nodes, omega arith)

  way_below : {w : Work} {a : Answer} {h : Held} {next : Next Descent (Unit {0})} → Descends tree w a h next → FitsWork p w → BringsFew d tree w a → Below p (before_step p w d) (descending_on h next)
  way_below {w = w} {h = h} (step.begins {c = c} key s e) fits few =
      let room = seeks_few s fits few in
      let to : Chart = record c { key = key } in
      let fewer : for_keys p (behind_key to) + (3 * p + 8) ≤ for_keys p (unhandled c) = fewer_for p (behind_key to) (unhandled c) (fewer_keys c.from key c.run.items e) in
      below_descending p (before_step p w d) 0 h to (down_from to (root_entry to)) (arrive_further (way.begun to (root_entry to).0 (root_entry to).1))
      (λ nodes. omega (arith, room.1, fewer)) (omega (arith, room.1))
  way_below (step.goes_on h way a) fits few = below_descending p _ 1 h way.chart (descent_next way a) (descent_further way a) (λ nodes. omega (arith, nodes)) (omega arith)

  up_below : {w : Work} {a : Answer} {h : Held} {next : Next Rising (Unit {0})} → Ascends tree w a h next → FitsWork p w → BringsFew d tree w a → Below p (before_step p w d) (rising_then h next)
  up_below {w = w} {h = h} (step.begins_up {c = c} s e) fits few =
      let room = seeks_few s fits few in
      below_rising p (before_step p w d) (2 * (length c.nodes - 0) + (p + 1 - next_of c) + 4) h (rise.rise (rise.begun c)) (rises_up p refl (rises (rise.begun c))) (omega (arith, room.1, room.0))
  up_below (step.goes_up h r a) fits few = below_rising p _ (up_left p r.last r) h (rise.rising_next r a) (lands_up p fits.1 (lands r (done_of a))) (omega arith)

  -- an id fewer, where one is left
  tried_fewer : (ids : List ℕ) (deleted left id : ℕ) (b : Bool) → next_id (tried (record { ids = ids; deleted = deleted; left = left }) b).ids ≡ Some id
      → length (tried (record { ids = ids; deleted = deleted; left = left }) b).ids < length ids
  tried_fewer [] deleted left id b e = absurd (cc (e))
  tried_fewer (x ∷ ids) deleted left id true e = omega arith
  tried_fewer (x ∷ ids) deleted left id false e = omega arith

  deletes_below : {w : Work} {a : Answer} {h : Held} {applied : ℕ} → Clears tree w a h applied → (id : ℕ) → next_id h.deletions.ids ≡ Some id → FitsWork p w → BringsFew d tree w a
      → Below p (before_step p w d) (Goes (work.Deleting h applied))
  unfolding Below
  deletes_below (step.no_run l root ms i takes none) id e fits few =
      let most = few l root refl i ms (tree_held root).cursor refl takes in
      let within = some_within p d in
      λ room. omega (arith, within, most.0)
  deletes_below (step.risen r x up) id e fits few = up_below up fits few
  deletes_below (step.one_tried h applied a) id e fits few =
      let fewer = tried_fewer h.deletions.ids h.deletions.deleted h.deletions.left id (went (done_of a)) e in
      λ room. omega (arith, fewer)

  rests_below : {w : Work} {a : Answer} {h : Held} {applied : ℕ} → Clears tree w a h applied → FitsWork p w → BringsFew d tree w a → 2 < before_step p w d
  unfolding Below
  rests_below (step.no_run l root ms i takes none) fits few = omega arith
  rests_below (step.risen r x up) fits few = let more = up_below up fits few tt in omega (arith, more)
  rests_below (step.one_tried h applied a) fits few = omega arith

  fails_below : {w : Work} {a : Answer} {held : Leases} {t : Trouble} → Fails tree w a held t → FitsWork p w → BringsFew d tree w a → Below p (before_step p w d) (stopping held t)
  unfolding Below
  fails_below (step.no_tree l a t e) fits few = λ room. omega arith
  fails_below (step.bad_tree l bytes e) fits few = λ room. omega arith
  fails_below (step.no_messages l root a t e) fits few = λ room. omega arith
  fails_below (step.bad_message l root ms t takes) fits few = λ room. omega arith
  fails_below (step.no_lease h c a t e) fits few = λ room. omega arith
  fails_below (step.no_way e t down) fits few = way_below down fits few
  fails_below (step.no_leaf h f g a t e) fits few = folded_below p h f a (Stops g t) fits.1 e
  fails_below (step.no_ascent r t up) fits few = up_below up fits few

  gives_fewer : (first second : Option Claim) (l : Claim) → newest_lease (without_newest (record { first = first; second = second })) ≡ Some l
      → length (claims_of (without_newest (record { first = first; second = second }))) < length (claims_of (record { first = first; second = second }))
  gives_fewer (Some k) (Some r) l e = omega arith
  gives_fewer (Some k) None l e = absurd (cc (e))
  gives_fewer None (Some r) l e = absurd (cc (e))
  gives_fewer None None l e = absurd (cc (e))

  below : {w : Work} {a : Answer} {next : Step} → Comes tree w a next → FitsWork p w → BringsFew d tree w a → Below p (before_step p w d) next
  unfolding Below
  below (step.takes_tree l) fits few = λ room. omega arith
  below (step.reads_tree l got is) fits few = λ room. omega arith
  below (step.stops held t f) fits few = fails_below f fits few
  below (step.descends h e down) fits few = way_below down fits few
  below (step.arrives h e x down) fits few = way_below down fits few
  below (step.takes_page h c l) fits few = λ room. omega arith
  below (step.folds h f g a e) fits few = folded_below p h f a (Goes g) fits.1 e
  below (step.leaves h f g out a e) fits few = folded_below p h f a (Ends g out) fits.1 e
  below (step.turns h l c a) fits few = λ room. omega arith
  below (step.turns_alone h c a) fits few = λ room. omega arith
  below (step.ascends h r up) fits few = up_below up fits few
  below (step.deletes h applied id c e) fits few = deletes_below c id e fits few
  below (step.rests h applied c e) fits few = let more = rests_below c fits few in λ room. omega (arith, more)
  below (step.gives_back held l end a e) fits few = let fewer = gives_fewer held.first held.second l e in λ room. omega (arith, fewer)
  below c fits few = tt

-- a step that goes on leaves fewer calls
pub goes_fewer : (p d tree : ℕ) (w : Work) (a : Answer) (v : Work) → FitsWork p w → FitsWork p v
    → ((l : Claim) (root : Option (List ℕ)) → w ≡ work.Receiving l root → (i : Intake) (ms : List Message) (cursor : List (ℕ × ℕ)) → received_of a ≡ Ok ms → TakesIn (queue.TreePu tree) cursor ms (Ok i)
    → (length i.deletions.ids ≤ d) × (length i.run.items ≤ d))
    → Leads tree w a (Goes v) → calls_left p v < before_step p w d
unfolding Below
goes_fewer p d tree w a v fits after few leads = below p d tree (comes tree w a (Goes v) leads) fits few after

-- the call in hand is one that is left
pub one_left : (p : ℕ) (w : Work) → 1 ≤ calls_left p w
one_left p work.TakingTree = omega arith
one_left p (work.GettingTree l) = omega arith
one_left p (work.Receiving l root) = omega arith
one_left p (work.Descending h d) = omega arith
one_left p (work.TakingPage h c) = omega arith
one_left p (work.Folding h f) = on (length f.placing.puts == 0) where
  on : (b : Bool)
      → 1 ≤ cond b (at_leaves p h f.chart (length f.visited) + 5) (around p h f.chart + for_keys p (unhandled f.chart) + piece_calls 2 f.placing + 2)
  on true = omega arith
  on false = omega arith
one_left p (work.ReleasingPage h l (onward.Right c)) = omega arith
one_left p (work.ReleasingPage h l (onward.Handled c)) = omega arith
one_left p (work.LeftPage h (onward.Right c)) = omega arith
one_left p (work.LeftPage h (onward.Handled c)) = omega arith
one_left p (work.Rising h r) = omega arith
one_left p (work.Deleting h applied) = omega arith
one_left p (work.Releasing held end) = omega arith
one_left p work.Finished = omega arith
