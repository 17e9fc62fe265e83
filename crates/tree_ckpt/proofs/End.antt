-- A tree checkpoint ends: each step that goes on leaves fewer calls.
use Rattle.std.proofs.Common.{◌≡◌, ◌<◌, ◌≤◌, ◌+◌, ◌-◌, ◌*◌, ℕ, Bool, true, false, cond, List, [], ◌∷◌, length, Option, Some, None, Result, sym, ap, subst, ◌∙◌, arith}
use Rattle.std.specs.Prelude.{◌==◌}
use Rattle.std.proofs.lemmas.Option.{slice_get_within}
use Rattle.db_base.specs.declared.names.QueueName.TheVariants as queue
use Rattle.ckpt_parts.specs.Deleting.{tried}
use Rattle.ckpt_parts.specs.Leasing.{claims_of, newest_lease, without_newest}
use Rattle.tree_phases.specs.Placing.{has_nothing, has_one_page, landed_placing}
use Rattle.tree_phases.specs.Read.{tree_held}
use Rattle.tree_phases.specs.Descent.{descent_next}
use Rattle.tree_phases.specs.declared.folding.Left.TheVariants.{Right, Handled}
use Rattle.tree_phases.specs.Folding as fold
use Rattle.tree_phases.specs.Rising as rise
use Rattle.tree_ckpt.specs.declared.work.Work.TheVariants as work
use Rattle.tree_ckpt.specs.Work.{work_ask}
use Rattle.tree_ckpt.specs.Moves.{Step, stopping, went, key_from_or_none, folding_on}
use Rattle.tree_ckpt.specs.Way.{from_root}
use Rattle.tree_ckpt.specs.End.{most, above, unhandled, behind_key, from_on_or_none, a_key, puts_left, up_by, up_left, the_end, ids_in, on_the_way, calls_in, IsShortChart, IsShort}
use Rattle.tree_ckpt.specs.Leases.{HasIds}
use Rattle.tree_ckpt.specs.Making.{Making, making_ask, MakingLeads, KeepsLeases}
use Rattle.tree_ckpt.proofs.Words.{Trouble, PuItem, Answer, CkptAnswer, Turn, More, Claim, Next, Goes, Ends, Stops, Took, done_of, Fits, PagePut, Leases, Chart, KeptNode, Placing, Descent, Folding, Left, Rising, Held, Work}
use Rattle.tree_ckpt.proofs.Outcomes.{Seeks, Descends, Ascends, Clears, Fails, Comes, comes, has_ids}
use Rattle.tree_ckpt.proofs.Outcomes as step
use Rattle.tree_ckpt.proofs.LeafOutcomes as leaf
use Rattle.tree_ckpt.proofs.Charts.{GoesFurther, arrive_further, descent_further}
use Rattle.tree_ckpt.proofs.Folds.{not_empty, GetLeaves, reads_leave}
use Rattle.tree_ckpt.proofs.Keys.{next_fewer, from_most}
use Rattle.tree_ckpt.proofs.Received.{takes_length}
use Rattle.tree_ckpt.proofs.RiseOutcomes.{Rises, Lands, lands}
use Rattle.tree_ckpt.proofs.RiseOutcomes as up

-- where a step goes on, fewer calls are left than this, unless a list is too long
Below : ℕ → Step → Type 0
Below n (Goes w) = IsShort w → calls_in w < n
Below n (Ends w a) = Unit {0}
Below n (Stops w t) = Unit {0}

-- ---- the next key

-- fewer calls are left behind a key that is sought
record IsSought (n : ℕ) (h : Held) (c : Chart) : Type 0 where
  down : length c.run.items ≤ most → on_the_way h c (unhandled c) 0 < n
  ends : the_end (ids_in h) < n

seeks_less : {tree : ℕ} {w : Work} {a : Answer} {h : Held} {c : Chart} → Fits (work_ask tree w) a → Seeks tree w a h c → IsSought (calls_in w) h c
seeks_less {tree = tree} fits (step.with_run l root ms i takes some) =
    let ids = takes_length (queue.TreePu tree) (tree_held root).cursor ms i takes in
    let few : length ms ≤ 256 = fits in
    let keys = from_most [] i.run.items in
    record { down = λ short. omega (arith, ids, few, keys, short); ends = omega (arith, ids, few) }
seeks_less fits (step.from_leaf h l c a) = record { down = λ short. omega arith; ends = omega arith }
seeks_less fits (step.alone h c a) = record { down = λ short. omega arith; ends = omega arith }

-- ---- down

-- fewer calls are left where a way down leads
BelowWay : ℕ → Held → Next Descent (Unit {0}) → Type 0
BelowWay n h (Goes d) = IsShortChart d.chart → on_the_way h d.chart (behind_key d.chart) (most + 8) < n
BelowWay n h (Ends d x) = IsShortChart d.chart → on_the_way h d.chart (behind_key d.chart) (most + 8) < n
BelowWay n h (Stops d t) = Unit {0}

behind_same : (c e : Chart) → e.run ≡ c.run → e.key ≡ c.key → behind_key e ≡ behind_key c
behind_same c e run key = ap (λ (k : List ℕ). above k e.run.items) key ∙ ap (λ (r : _). above c.key r.items) run

way_less : (n more : ℕ) (h : Held) (c : Chart) (next : Next Descent (Unit {0})) → GoesFurther more c next
    → (length c.run.items ≤ most → length c.nodes + more ≤ most
    → the_end (ids_in h) + ((most - (length c.nodes + more)) + 4 * (most - length c.links)) + a_key * behind_key c + (most + 8) < n)
    → BelowWay n h next
unfolding BelowWay
way_less n more h c (Goes d) f few = λ short.
    let run = ap (λ (r : _). length r.items) f.run in
    omega (arith, few (omega (arith, short.run, run)) (omega (arith, f.nodes, short.nodes)), f.nodes, f.links, short.nodes, short.links, behind_same c d.chart f.run f.key)
way_less n more h c (Ends d x) f few = λ short.
    let run = ap (λ (r : _). length r.items) f.run in
    omega (arith, few (omega (arith, short.run, run)) (omega (arith, f.nodes, short.nodes)), f.nodes, f.links, short.nodes, short.links, behind_same c d.chart f.run f.key)
way_less n more h c (Stops d t) f few = tt

fewer_keys : (from : Option (List ℕ)) (key : List ℕ) (xs : List PuItem) → key_from_or_none from xs ≡ Some key → above key xs + 1 ≤ from_on_or_none from xs
fewer_keys (Some from) key xs e = next_fewer from key xs e
fewer_keys None key xs e = absurd (cc (e))

descends_less : {tree : ℕ} {w : Work} {a : Answer} {h : Held} {next : Next Descent (Unit {0})} → Fits (work_ask tree w) a → Descends tree w a h next → BelowWay (calls_in w) h next
descends_less {w = w} {h = h} {next = next} fits (step.begins {c = c} key s e) =
    let sought : IsSought (calls_in w) h c = seeks_less fits s in
    let fewer = fewer_keys c.from key c.run.items e in
    way_less (calls_in w) 0 h (record c { key = key }) next (arrive_further (from_root (record c { key = key }))) (λ run nodes. omega (arith, sought.down run, fewer))
descends_less fits (step.goes_on h d a) =
    way_less (calls_in (work.Descending h d)) 1 h d.chart (descent_next d a) (descent_further d a) (λ run nodes. omega (arith, nodes))

-- some are left
way_many : {tree : ℕ} {w : Work} {a : Answer} {h : Held} {next : Next Descent (Unit {0})} → Fits (work_ask tree w) a → Descends tree w a h next → 1 < calls_in w
way_many {w = w} {h = h} fits (step.begins {c = c} key s e) = let sought : IsSought (calls_in w) h c = seeks_less fits s in let ends = sought.ends in omega (arith, ends)
way_many fits (step.goes_on h d a) = omega arith

-- ---- up

up_most_by : (last : Option (List ℕ)) (at puts : ℕ) → puts ≤ most + 1 → up_by last at puts ≤ (most + 3) * most + 2 * most + 4
up_most_by None at puts few = omega (arith, few)
up_most_by (Some bytes) at puts few = omega (arith, few)

reserved_most : (p : Placing) → length p.puts ≤ most → puts_left p ≤ most + 1
reserved_most p few = on p.reserved p.puts few where
  on : (reserved : Option (List ℕ)) (puts : List PagePut) → length puts ≤ most → puts_left (record { reserved = reserved; puts = puts }) ≤ most + 1
  on (Some bytes) puts few = omega (arith, few)
  on None puts few = omega (arith, few)

up_most : (r : Rising) → length r.placing.puts ≤ most → up_left r ≤ (most + 3) * most + 2 * most + 4
up_most r few = up_most_by r.last r.at (puts_left r.placing) (reserved_most r.placing few)

-- where the way up goes on
BelowUp : ℕ → Next Rising (Unit {0}) → Type 0
BelowUp n (Goes r) = length r.chart.nodes ≤ most → length r.placing.puts ≤ most → up_left r < n
BelowUp n (Ends r x) = Unit {0}
BelowUp n (Stops r t) = Unit {0}

any_rising : (next : Next Rising (Unit {0})) → BelowUp ((most + 3) * most + 2 * most + 5) next
unfolding BelowUp
any_rising (Goes r) = λ nodes puts. omega (arith, up_most r puts)
any_rising (Ends r x) = tt
any_rising (Stops r t) = tt

up_more : (n m : ℕ) (next : Next Rising (Unit {0})) → n ≤ m → BelowUp n next → BelowUp m next
unfolding BelowUp
up_more n m (Goes r) more h = λ nodes puts. omega (arith, h nodes puts, more)
up_more n m (Ends r x) more h = tt
up_more n m (Stops r t) more h = tt

rises_up : {r : Rising} {next : Next Rising (Unit {0})} → r.last ≡ None → Rises r next → BelowUp ((most + 3) * (most - r.at) + (most + 3)) next
unfolding BelowUp
rises_up {r = r} none (up.node_due k p there e) = λ nodes puts.
    omega (
      arith,
      nodes,
      slice_get_within r.chart.nodes (rise.next_touched r) k there,
      reserved_most p.placing puts,
      ap (λ (last : Option (List ℕ)). up_by last (rise.next_touched r + 1) (puts_left p.placing)) none,
    )
rises_up none (up.root_due p gone e) = λ nodes puts. omega (arith, reserved_most p.placing puts)
rises_up none c = tt

one_fewer : (p : Placing) → has_nothing p ≡ false → puts_left (landed_placing p) + 1 ≤ puts_left p
one_fewer p e = on p.reserved p.puts e where
  on : (reserved : Option (List ℕ)) (puts : List PagePut) → has_nothing (record { reserved = reserved; puts = puts }) ≡ false
      → puts_left (landed_placing (record { reserved = reserved; puts = puts })) + 1 ≤ puts_left (record { reserved = reserved; puts = puts })
  on (Some bytes) puts e = omega arith
  on None [] e = absurd (cc (e))
  on None (x ∷ xs) e = omega arith

fewer_up : (last : Option (List ℕ)) (at n m : ℕ) → n + 1 ≤ m → up_by last at n < up_by last at m
fewer_up None at n m h = omega (arith, h)
fewer_up (Some bytes) at n m h = omega (arith, h)

up_none : (last : Option (List ℕ)) (at puts : ℕ) → last ≡ None → (most + 3) * (most - at) + (most + 3) ≤ up_by last at puts
up_none None at puts e = omega arith
up_none (Some bytes) at puts e = absurd (cc (e))

lands_up : {r : Rising} {done : Result (Unit {0}) Trouble} {next : Next Rising (Unit {0})} → Lands r done next → BelowUp (up_left r) next
unfolding BelowUp
lands_up {r = r} (up.more x some on) = λ nodes puts. fewer_up r.last r.at (puts_left (landed_placing r.placing)) (puts_left r.placing) (one_fewer r.placing some)
lands_up {r = r} {next = next} (up.goes_on x some nothing between on) =
    up_more ((most + 3) * (most - r.at) + (most + 3)) (up_left r) next (up_none r.last r.at (puts_left r.placing) between) (rises_up between on)
lands_up c = tt

record IsAscent (n : ℕ) (h : Held) (next : Next Rising (Unit {0})) : Type 0 where
  calls : ℕ
  below : BelowUp calls next
  few : ids_in h + 3 + calls ≤ n

ascends_less : {tree : ℕ} {w : Work} {a : Answer} {h : Held} {next : Next Rising (Unit {0})} → Fits (work_ask tree w) a → Ascends tree w a h next → IsAscent (calls_in w) h next
ascends_less {w = w} {h = h} {next = next} fits (step.begins_up {c = c} s e) =
    let sought : IsSought (calls_in w) h c = seeks_less fits s in
    let ends = sought.ends in
    record { calls = (most + 3) * most + 2 * most + 5; below = any_rising next; few = omega (arith, ends) }
ascends_less fits (step.goes_up h r a) = record { calls = up_left r; below = lands_up (lands r (done_of a)); few = omega arith }

-- ---- a leaf

-- the calls that are left with this to be put
abbrev leaf_calls : Held → Chart → Placing → ℕ
leaf_calls h c p = cond (length p.puts == 0) (on_the_way h c (behind_key c) (puts_left p + most + 6)) (on_the_way h c (unhandled c) (puts_left p + 2))

leaf_many : (h : Held) (c : Chart) (p : Placing) → 2 < leaf_calls h c p
leaf_many h c p = on (length p.puts == 0) where
  on : (b : Bool) → 2 < cond b (on_the_way h c (behind_key c) (puts_left p + most + 6)) (on_the_way h c (unhandled c) (puts_left p + 2))
  on true = omega arith
  on false = omega arith

calls_paged : (h : Held) (c : Chart) (p : Placing) → 0 < length p.puts → leaf_calls h c p ≡ on_the_way h c (unhandled c) (puts_left p + 2)
calls_paged h c p some =
    ap (λ (n : Bool). cond n (on_the_way h c (behind_key c) (puts_left p + most + 6)) (on_the_way h c (unhandled c) (puts_left p + 2))) (not_empty p.puts some)

calls_got : (h : Held) (c : Chart) (p : Placing) → has_nothing p ≡ true → leaf_calls h c p ≡ on_the_way h c (behind_key c) (most + 6)
calls_got h c p e = on p.reserved p.puts e where
  on : (reserved : Option (List ℕ)) (puts : List PagePut) → has_nothing (record { reserved = reserved; puts = puts }) ≡ true
      → leaf_calls h c (record { reserved = reserved; puts = puts }) ≡ on_the_way h c (behind_key c) (most + 6)
  on (Some bytes) puts f = absurd (cc (f))
  on None [] f = omega arith
  on None (x ∷ xs) f = absurd (let some = not_empty (x ∷ xs) (omega arith) in cc (some, f))

-- behind a put one fewer is left
one_less : (h : Held) (c : Chart) (p : Placing) → has_nothing p ≡ false → has_one_page p ≡ false → leaf_calls h c (landed_placing p) < leaf_calls h c p
one_less h c p some more = on p.reserved p.puts some more where
  on : (reserved : Option (List ℕ)) (puts : List PagePut) → has_nothing (record { reserved = reserved; puts = puts }) ≡ false
      → has_one_page (record { reserved = reserved; puts = puts }) ≡ false
      → leaf_calls h c (landed_placing (record { reserved = reserved; puts = puts })) < leaf_calls h c (record { reserved = reserved; puts = puts })
  on (Some bytes) puts f g = pages (length puts == 0) where
    pages : (b : Bool) → cond b (on_the_way h c (behind_key c) (0 + length puts + most + 6)) (on_the_way h c (unhandled c) (0 + length puts + 2))
        < cond b (on_the_way h c (behind_key c) (1 + length puts + most + 6)) (on_the_way h c (unhandled c) (1 + length puts + 2))
    pages true = omega arith
    pages false = omega arith
  on None [] f g = absurd (cc (f))
  on None (x ∷ []) f g = absurd (cc (g))
  on None (x ∷ y ∷ ys) f g =
      omega (
        arith,
        calls_paged h c (record { reserved = None; puts = y ∷ ys }) (omega arith),
        calls_paged h c (record { reserved = None; puts = x ∷ y ∷ ys }) (omega arith),
      )

last_less : (h : Held) (c : Chart) (p : Placing) → has_one_page p ≡ true → on_the_way h c (unhandled c) 1 < leaf_calls h c p
last_less h c p last = on p.reserved p.puts last where
  on : (reserved : Option (List ℕ)) (puts : List PagePut) → has_one_page (record { reserved = reserved; puts = puts }) ≡ true
      → on_the_way h c (unhandled c) 1 < leaf_calls h c (record { reserved = reserved; puts = puts })
  on (Some bytes) puts f = absurd (cc (f))
  on None [] f = absurd (cc (f))
  on None (x ∷ xs) f = omega (arith, calls_paged h c (record { reserved = None; puts = x ∷ xs }) (omega arith))

below_got : (h : Held) (f : Folding) (next : Next Folding Left) → GetLeaves f next
    → Below (on_the_way h f.chart (behind_key f.chart) (most + 6)) (folding_on h next)
unfolding Below
below_got h f (Goes g) got = λ short.
    omega (arith, calls_paged h g.chart g.placing got.1, got.0.left, got.0.nodes, got.0.links, reserved_most g.placing short.1, short.0.nodes, short.0.links)
below_got h f (Ends g (Right low page)) got = λ short.
    omega (arith, got.links, ap (λ (ns : List KeptNode). length ns) got.nodes, short.links, behind_same f.chart g.chart got.run got.key)
below_got h f (Ends g Handled) got = λ short. omega (arith, got.left, got.nodes, got.links)
below_got h f (Stops g t) got = λ short. omega arith

below_put : {f : Folding} {done : Result (Unit {0}) Trouble} {next : Next Folding Left} (h : Held) → has_nothing f.placing ≡ false → leaf.Lands f done next
    → Below (leaf_calls h f.chart f.placing) (folding_on h next)
unfolding Below
below_put {f = f} h some (leaf.not_put t) = λ short. leaf_many h f.chart f.placing
below_put {f = f} h some (leaf.lands x more) = λ short. one_less h f.chart f.placing some more
below_put {f = f} h some (leaf.is_put x last) = λ short. last_less h f.chart f.placing last

works_less : {f : Folding} {a : Answer} {next : Next Folding Left} (h : Held) → leaf.Works f a next → Below (leaf_calls h f.chart f.placing) (folding_on h next)
works_less {f = f} {next = next} h (leaf.gets nothing r) =
    subst (λ (n : ℕ). Below n (folding_on h next)) (sym (calls_got h f.chart f.placing nothing)) (below_got h f next (reads_leave r))
works_less h (leaf.puts some l) = below_put h some l

below_folded : (h : Held) (f : Folding) (a : Answer) (next : Next Folding Left) → fold.folding_next f a ≡ next → Below (calls_in (work.Folding h f)) (folding_on h next)
below_folded h f a next e = subst (λ (x : Next Folding Left). Below (calls_in (work.Folding h f)) (folding_on h x)) e (works_less h (leaf.works f a))

-- ---- deletions and releases

record IsCleared (n : ℕ) (h : Held) : Type 0 where
  ends : 1 < n
  more : HasIds h.deletions.ids → ids_in h + 2 < n

tried_fewer : (ids : List ℕ) (deleted left : ℕ) (b : Bool) → HasIds (tried (record { ids = ids; deleted = deleted; left = left }) b).ids
    → length (tried (record { ids = ids; deleted = deleted; left = left }) b).ids + 2 < length ids + 2
tried_fewer [] deleted left b has = absurd has
tried_fewer (id ∷ ids) deleted left true has = omega arith
tried_fewer (id ∷ ids) deleted left false has = omega arith

clears_less : {tree : ℕ} {w : Work} {a : Answer} {h : Held} {applied : ℕ} → Fits (work_ask tree w) a → Clears tree w a h applied → IsCleared (calls_in w) h
clears_less {tree = tree} fits (step.no_run l root ms i takes none) =
    let ids = takes_length (queue.TreePu tree) (tree_held root).cursor ms i takes in
    let few : length ms ≤ 256 = fits in
    record { ends = omega arith; more = λ has. omega (arith, ids, few) }
clears_less {w = w} {h = h} fits (step.risen r x on) =
    let up : IsAscent (calls_in w) h (Ends r x) = ascends_less fits on in
    let few = up.few in
    record { ends = omega (arith, few); more = λ has. omega (arith, few) }
clears_less fits (step.one_tried h applied a) =
    record { ends = omega arith; more = λ has. tried_fewer h.deletions.ids h.deletions.deleted h.deletions.left (went (done_of a)) has }

released_less : (first second : Option Claim) (l : Claim) → newest_lease (without_newest (record { first = first; second = second })) ≡ Some l
    → length (claims_of (without_newest (record { first = first; second = second }))) < length (claims_of (record { first = first; second = second }))
released_less (Some f) (Some s) l e = omega arith
released_less (Some f) None l e = absurd (cc (e))
released_less None second l e = absurd (none second e) where
  none : (s : Option Claim) → newest_lease (without_newest (record { first = None; second = s })) ≡ Some l → ⊥
  none (Some s) e = absurd (cc (e))
  none None e = absurd (cc (e))

-- two leases at most are left to be given back
fails_less : {tree : ℕ} {w : Work} {a : Answer} {held : Leases} {t : Trouble} → Fits (work_ask tree w) a → Fails tree w a held t → Below (calls_in w) (stopping held t)
unfolding Below
fails_less fits (step.no_leaf h f g a t e) = below_folded h f a (Stops g t) e
fails_less fits (step.no_way d t way) = λ short. way_many fits way
fails_less {w = w} fits (step.no_ascent {h = h} r t on) =
    let up : IsAscent (calls_in w) h (Stops r t) = ascends_less fits on in
    let few = up.few in λ short. omega (arith, few)
fails_less fits f = λ short. omega arith

-- ---- a step

step_less : {tree : ℕ} {w : Work} {a : Answer} {next : Step} → Fits (work_ask tree w) a → Comes tree w a next → Below (calls_in w) next
unfolding Below BelowWay BelowUp
step_less fits (step.refused a t e) = tt
step_less fits (step.stops held t f) = fails_less fits f
step_less fits (step.descends h d way) = descends_less fits way
step_less fits (step.arrives h d x way) = λ short. let less = descends_less fits way short in omega (arith, less)
step_less fits (step.folds h f g a e) = below_folded h f a (Goes g) e
step_less fits (step.leaves h f g out a e) = below_folded h f a (Ends g out) e
step_less {w = w} fits (step.ascends h r on) =
    let up : IsAscent (calls_in w) h (Goes r) = ascends_less fits on in
    let few = up.few in λ short. let less = up.below short.0 short.1 in omega (arith, less, few)
step_less fits (step.deletes h applied id c e) = λ short. (clears_less fits c).more (has_ids h.deletions.ids id e)
step_less fits (step.rests h applied c e) = λ short. (clears_less fits c).ends
step_less fits (step.gives_back held l end a e) = λ short. released_less held.first held.second l e
step_less fits (step.ends held x a e) = tt
step_less fits (step.stopped held t a e) = tt
step_less fits (step.nothing a) = tt
step_less fits c = λ short. omega arith

-- the same of the code's step
pub took_less : (old new : Making) (a : Answer) (turn : Turn CkptAnswer) → Fits (making_ask old) a → IsShort new.work
    → Took MakingLeads KeepsLeases old a new turn → turn ≡ More → calls_in new.work < calls_in old.work
unfolding Below
took_less old new a turn fits short took more =
    let At : Turn CkptAnswer → Type 0 = Took MakingLeads KeepsLeases old a new in
    let leads : MakingLeads old a (Goes new) = subst At more took in
    step_less fits (comes old.tree old.work a (Goes new.work) leads.1) short
