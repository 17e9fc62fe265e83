-- A tree checkpoint stops for what the answer of its call demands.
use Rattle.std.proofs.Common.{◌≡◌, ◌≢◌, ◌⊎◌, ℕ, Bool, true, false, List, [], ◌∷◌, Option, Some, None, Result, Ok, Err, refl, sym, ap, subst, inl, inr, ◌∙◌}
use Rattle.std.specs.Prelude.{◌==◌, ◌||◌, ◌&&◌, not, is_some}
use Rattle.std.proofs.lemmas.Bool.{eq-eqb}
use Rattle.db_base.specs.declared.names.Lock.TheVariants as lock
use Rattle.db_base.specs.declared.names.ObjName.TheVariants as object
use Rattle.db_base.specs.declared.names.Place.TheVariants as place
use Rattle.db_base.specs.declared.names.QueueName.TheVariants as queue
use Rattle.db_base.specs.declared.trouble.Trouble.TheVariants as trouble
use Rattle.db_base.specs.declared.trouble.Counter.TheVariants as counter
use Rattle.byte_format.specs.Order.{below_bound, bytes_same, bytes_below}
use Rattle.byte_format.specs.Whole.{whole, offset}
use Rattle.leaf_view.specs.Leaf.{Leaf, leaf as leaf_format}
use Rattle.leaf_view.specs.Lookup.{page_at}
use Rattle.leaf_edit.specs.Lacked.{lacked}
use Rattle.node_codec.specs.Inner.{Inner, inner_of, inner_format}
use Rattle.node_codec.specs.Tree.{Tree, tree_format}
use Rattle.cloud_trait.specs.declared.answer.Answer.TheVariants as call
use Rattle.cloud_trait.specs.Ask.{GetHeld, Receive, Take}
use Rattle.ckpt_parts.specs.Deleting.{next_id}
use Rattle.ckpt_parts.specs.Intakes.{has_items, message_damage, TakesItems}
use Rattle.ckpt_parts.specs.Leasing.{newest_lease, without_newest}
use Rattle.run_cursor.specs.Covered.{is_seen}
use Rattle.tree_phases.specs.Placing.{has_nothing}
use Rattle.tree_phases.specs.Read.{damaged, tree_held}
use Rattle.tree_phases.specs.Reserve.{version_spent, pages_spent, next_tree}
use Rattle.tree_phases.specs.Descent.{passed, with_node, descent_next}
use Rattle.tree_phases.specs.Plan.{leaf_plan}
use Rattle.tree_phases.specs.Folding.{FoldingStep, folding_ask, folding_next, bad_low}
use Rattle.tree_phases.specs.Fork.{bad_fence, forked_on}
use Rattle.tree_phases.specs.Nodes.{node_plan}
use Rattle.tree_phases.specs.Rising.{RisingStep, rising_ask, rising_next, touched_node, plan_of, last_plan, rise}
use Rattle.tree_phases.specs.Root.{risen_by}
use Rattle.tree_ckpt.specs.declared.work.Onward.TheVariants as onward
use Rattle.tree_ckpt.specs.declared.work.Work.TheVariants as work
use Rattle.tree_ckpt.specs.Work.{work_ask, delete_ask, release_ask, one_lease}
use Rattle.tree_ckpt.specs.Moves.{Step, stopping, tree_damage, Leads}
use Rattle.tree_ckpt.specs.Making.{Making, making_ask, MakingLeads, KeepsLeases}
use Rattle.tree_ckpt.specs.Leases.{HasIds, HoldsOne, HoldsAt, Stands}
use Rattle.tree_ckpt.specs.Causes.{Calls, GoesRight, ticks_of, kept_trouble}
use Rattle.tree_ckpt.specs.Way.{behind, BreaksFrom, from_root, BreaksWay}
use Rattle.tree_ckpt.specs.Due.{Due, LeafDue, NodeDue, RootDue, IsSpent, HasNoPages, GetsLeaf, IsUp, IsDue, IsCutShort, Spends}
use Rattle.tree_ckpt.specs.Demands.{Refuses, BreaksRoot, BreaksRecord, BreaksNode, BreaksLeaf, Demands}
use Rattle.tree_ckpt.specs.Stepped.{Owes}
use Rattle.tree_ckpt.proofs.Words.{Trouble, Lock, ObjName, QueueName, PuItem, Answer, Message, CkptAnswer, Turn, More, Ended, Stopped, Claim, Next, Goes, Ends, Stops, Took, Deed, calls_of, given_of, got_of, received_of, done_of, Fits, Ask, PagePut, Leases, Chart, KeptNode, Link, Descent, Fork, Folding, Rising, Held, Work}
use Rattle.tree_ckpt.specs.Working.{HoldsLeaf}
use Rattle.tree_ckpt.proofs.Causes.{KnowsAt}
use Rattle.tree_ckpt.proofs.Outcomes.{Descends, Ascends, Fails}
use Rattle.tree_ckpt.proofs.Outcomes as step
use Rattle.tree_ckpt.proofs.Failing.{IsOneWay, fails_lead, refusal_leads, no_messages_lead, bad_message_leads, kept_leads}
use Rattle.tree_ckpt.proofs.LeafOutcomes.{Reads, Works, came_to, works}
use Rattle.tree_ckpt.proofs.LeafOutcomes as leaf
use Rattle.tree_ckpt.proofs.WayOutcomes.{Arrives, Gets, arrives, gets, reads_fork}
use Rattle.tree_ckpt.proofs.WayOutcomes as way
use Rattle.tree_ckpt.proofs.RiseOutcomes.{Rises, rises}
use Rattle.tree_ckpt.proofs.RiseOutcomes as climb
use Rattle.tree_ckpt.proofs.Spent.{leaf_plan_spent, leaf_plan_full, node_plan_spent, node_plan_full, last_plan_spent, last_plan_full}
use Rattle.tree_ckpt.proofs.Walking.{page_same, damage_same, fence_same, promised_leads, behind_keeps, way_stops}
use Rattle.tree_ckpt.proofs.Lows.{root_upto}

some_is : (t u : Trouble) → Some t ≡ Some u → t ≡ u
some_is t u e = cc (e)

err_is : {A : Type 0} (t u : Trouble) → ◌≡◌ {A = Result A Trouble} (Err t) (Err u) → t ≡ u
err_is t u e = cc (e)

-- it stops for this trouble
abbrev IsStop : {M A : Type 0} → Trouble → Next M A → Type 0
IsStop t (Goes m) = ⊥
IsStop t (Ends m x) = ⊥
IsStop t (Stops m u) = u ≡ t

-- the trouble is kept or answered
abbrev NextOwes : Step → Trouble → Type 0
NextOwes (Goes w) t = kept_trouble w ≡ Some t
NextOwes (Ends w x) t = ⊥
NextOwes (Stops w u) t = u ≡ t

owes_same : (t u : Trouble) (next : Step) → t ≡ u → NextOwes next t → NextOwes next u
owes_same t u next e h = subst (NextOwes next) e h

stopping_owes : {next : Step} (held : Leases) (t : Trouble) → next ≡ stopping held t → NextOwes next t
stopping_owes held t e = subst (λ (x : Step). NextOwes x t) (sym e) refl

stops_owe : {next : Step} (t : Trouble) → next ≡ Stops work.Finished t → NextOwes next t
stops_owe t e = subst (λ (x : Step). NextOwes x t) (sym e) refl

-- a step that fails keeps its trouble
fails_owe : (tree : ℕ) {w : Work} {a : Answer} {held : Leases} {t : Trouble} (next : Step) → IsOneWay w → Fails tree w a held t → Leads tree w a next → NextOwes next t
fails_owe tree {held = held} {t = t} next one f leads = stopping_owes held t (fails_lead one f leads)

-- .. where the work at a leaf, the way down or the way up stops
stop_is : {M A : Type 0} (t : Trouble) (next : Next M A) → IsStop t next → (m : M) × (next ≡ Stops m t)
stop_is t (Goes m) s = absurd s
stop_is t (Ends m x) s = absurd s
stop_is t (Stops m u) s = (m, ap (Stops m) s)

leaf_owes : (tree : ℕ) (next : Step) (h : Held) (f : Folding) (a : Answer) (t : Trouble) → IsStop t (folding_next f a) → Leads tree (work.Folding h f) a next → NextOwes next t
leaf_owes tree next h f a t s leads = let at = stop_is t (folding_next f a) s in fails_owe tree next tt (step.no_leaf h f at.0 a t at.1) leads

down_owes : (tree : ℕ) {w : Work} {a : Answer} {h : Held} {way : Next Descent (Unit {0})} (next : Step) (t : Trouble) → IsOneWay w → Descends tree w a h way → IsStop t way
    → Leads tree w a next → NextOwes next t
down_owes tree {w = w} {a = a} {h = h} {way = x} next t one d s leads =
    let at = stop_is t x s in fails_owe tree next one (step.no_way at.0 t (subst (Descends tree w a h) at.1 d)) leads

up_owes : (tree : ℕ) {w : Work} {a : Answer} {h : Held} {way : Next Rising (Unit {0})} (next : Step) (t : Trouble) → IsOneWay w → Ascends tree w a h way → IsStop t way
    → Leads tree w a next → NextOwes next t
up_owes tree {w = w} {a = a} {h = h} {way = x} next t one up s leads =
    let at = stop_is t x s in fails_owe tree next one (step.no_ascent at.0 t (subst (Ascends tree w a h) at.1 up)) leads

-- ---- calls that were refused

-- a leaf's call takes no lock
no_folding_takes : (f : Folding) (l : Claim) (lk : Lock) → folding_ask f l ≡ Take lk (ticks_of lk) → ⊥
no_folding_takes f l lk e = on f.placing.reserved f.placing.puts e where
  on : (reserved : Option (List ℕ)) (puts : List PagePut) → folding_ask (record f { placing = record { reserved = reserved; puts = puts } }) l ≡ Take lk (ticks_of lk) → ⊥
  on (Some bytes) puts e = absurd (cc (e))
  on None [] e = absurd (cc (e))
  on None (x ∷ xs) e = absurd (cc (e))

no_rising_takes : (r : Rising) (l : Claim) (lk : Lock) → rising_ask r l ≡ Take lk (ticks_of lk) → ⊥
no_rising_takes r l lk e = on r.placing.reserved r.placing.puts r.last e where
  on : (reserved : Option (List ℕ)) (puts : List PagePut) (last : Option (List ℕ))
      → rising_ask (record r { placing = record { reserved = reserved; puts = puts }; last = last }) l ≡ Take lk (ticks_of lk) → ⊥
  on (Some bytes) puts last e = absurd (cc (e))
  on None (x ∷ xs) last e = absurd (cc (e))
  on None [] (Some bytes) e = absurd (cc (e))
  on None [] None e = absurd (cc (e))

busy_same : (mine lk : Lock) (ticks until : ℕ) → Take mine ticks ≡ Take lk (ticks_of lk) → trouble.Busy mine until ≡ trouble.Busy lk until
busy_same mine lk ticks until e = ap (λ (x : Lock). trouble.Busy x until) (taken e) where
  taken : Take mine ticks ≡ Take lk (ticks_of lk) → mine ≡ lk
  taken same = cc (same)

-- what a call sees of an answer that refused it
refused_view : {A : Type 0} (view : Answer → Result A Trouble) (ask : Ask) (a : Answer) (t : Trouble) → view call.Failed ≡ Err trouble.Failed
    → ((end now : ℕ) → view (call.Late end now) ≡ Err (trouble.Late end now))
    → ((lk : Lock) (until : ℕ) → ask ≡ Take lk (ticks_of lk) → view (call.Held until) ≡ Err (trouble.Busy lk until)) → Refuses ask a t → view a ≡ Err t
refused_view view ask a trouble.Failed failed late busy k = ap view k.0 ∙ failed
refused_view view ask a (trouble.Late end now) failed late busy k = ap view k ∙ late end now
refused_view view ask a (trouble.Busy lk until) failed late busy k = ap view k.1 ∙ busy lk until k.0
refused_view view ask a t failed late busy k = absurd k

take_refused : (mine : Lock) (ticks : ℕ) (a : Answer) (t : Trouble) → Refuses (Take mine ticks) a t → given_of mine a ≡ Err t
take_refused mine ticks a t k =
    refused_view (given_of mine) (Take mine ticks) a t refl (λ end now. refl) (λ lk until asks. ap Err (busy_same mine lk ticks until asks)) k

get_refused : (name : ObjName) (l : Claim) (a : Answer) (t : Trouble) → Refuses (GetHeld name l) a t → got_of a ≡ Err t
get_refused name l a t k = refused_view got_of (GetHeld name l) a t refl (λ end now. refl) (λ lk until asks. absurd (cc (asks))) k

receive_refused : (queue : QueueName) (a : Answer) (t : Trouble) → Refuses (Receive queue 256) a t → received_of a ≡ Err t
receive_refused queue a t k = refused_view received_of (Receive queue 256) a t refl (λ end now. refl) (λ lk until asks. absurd (cc (asks))) k

-- the leaf's work stops for such an answer, whatever its call is
got_nothing : {f : Folding} {t : Trouble} {next : FoldingStep} → Reads f (Err t) next → IsStop t next
got_nothing (leaf.refused t) = refl

put_nothing : {f : Folding} {t : Trouble} {next : FoldingStep} → leaf.Lands f (Err t) next → IsStop t next
put_nothing (leaf.not_put t) = refl

folding_refused : {f : Folding} {a : Answer} {next : FoldingStep} (t : Trouble) (l : Claim) → Refuses (folding_ask f l) a t → Works f a next → IsStop t next
folding_refused {f = f} {a = a} {next = next} t l k (leaf.gets nothing r) =
    let e : got_of a ≡ Err t = refused_view got_of (folding_ask f l) a t refl (λ end now. refl) (λ lk until asks. absurd (no_folding_takes f l lk asks)) k in
    got_nothing (subst (λ (g : Result (Option (List ℕ)) Trouble). Reads f g next) e r)
folding_refused {f = f} {a = a} {next = next} t l k (leaf.puts some w) =
    let e : done_of a ≡ Err t = refused_view done_of (folding_ask f l) a t refl (λ end now. refl) (λ lk until asks. absurd (no_folding_takes f l lk asks)) k in
    put_nothing (subst (λ (d : Result (Unit {0}) Trouble). leaf.Lands f d next) e w)

-- .. and so do the way down and the way up
node_refused : {d : Descent} {next : Next Descent (Unit {0})} (t : Trouble) → Gets d (Err t) next → IsStop t next
node_refused u (way.refused t) = refl

descent_refused : (tree : ℕ) (l : Claim) (d : Descent) (a : Answer) (t : Trouble) → Refuses (GetHeld (object.Page tree d.page) l) a t → IsStop t (descent_next d a)
descent_refused tree l d a t k =
    node_refused {d = d} t (subst (λ (g : Result (Option (List ℕ)) Trouble). Gets d g (descent_next d a)) (get_refused (object.Page tree d.page) l a t k) (gets d (got_of a)))

rise_refused : {r : Rising} {next : RisingStep} (t : Trouble) → climb.Lands r (Err t) next → IsStop t next
rise_refused u (climb.not_put t) = refl

rising_refused : (l : Claim) (r : Rising) (a : Answer) (t : Trouble) → Refuses (rising_ask r l) a t → IsStop t (rising_next r a)
rising_refused l r a t k =
    let e : done_of a ≡ Err t = refused_view done_of (rising_ask r l) a t refl (λ end now. refl) (λ lk until asks. absurd (no_rising_takes r l lk asks)) k in
    rise_refused {r = r} t (subst (λ (d : Result (Unit {0}) Trouble). climb.Lands r d (rising_next r a)) e (climb.lands r (done_of a)))

-- no deletion and no release is refused
delete_goes : (tree : ℕ) (ids : List ℕ) (a : Answer) (t : Trouble) → HasIds ids → Fits (delete_ask tree (next_id ids)) a → Refuses (delete_ask tree (next_id ids)) a t → ⊥
delete_goes tree [] a t has fits k = absurd has
delete_goes tree (id ∷ ids) a trouble.Failed has fits k = k.1
delete_goes tree (id ∷ ids) a (trouble.Late end now) has fits k = subst (Fits (delete_ask tree (Some id))) k fits
delete_goes tree (id ∷ ids) a (trouble.Busy lk until) has fits k = absurd (cc (k.0))
delete_goes tree (id ∷ ids) a t has fits k = k

release_goes : (tree : ℕ) (lease : Option Claim) (a : Answer) (t : Trouble) → HoldsOne lease → Fits (release_ask tree lease) a → Refuses (release_ask tree lease) a t → ⊥
release_goes tree None a t has fits k = absurd has
release_goes tree (Some l) a trouble.Failed has fits k = k.1
release_goes tree (Some l) a (trouble.Late end now) has fits k = subst (Fits (release_ask tree (Some l))) k fits
release_goes tree (Some l) a (trouble.Busy lk until) has fits k = absurd (cc (k.0))
release_goes tree (Some l) a t has fits k = k

refused_owes : (tree : ℕ) (w : Work) (a : Answer) (next : Step) (t : Trouble) → HoldsAt tree w → Fits (work_ask tree w) a → Leads tree w a next
    → Refuses (work_ask tree w) a t → NextOwes next t
refused_owes tree work.TakingTree a next t own fits leads k = stops_owe t (refusal_leads tree a t (take_refused (lock.Tree tree) 60 a t k) leads)
refused_owes tree (work.GettingTree l) a next t own fits leads k = fails_owe tree next tt (step.no_tree l a t (get_refused (object.Tree tree) l a t k)) leads
refused_owes tree (work.Receiving l root) a next t own fits leads k =
    stopping_owes (one_lease l) t (no_messages_lead tree l root a t (receive_refused (queue.TreePu tree) a t k) leads)
refused_owes tree (work.Descending h d) a next t own fits leads k =
    down_owes tree next t tt (step.goes_on h d a) (descent_refused d.chart.tree h.lease d a t k) leads
refused_owes tree (work.TakingPage h c) a next t own fits leads k =
    fails_owe tree next tt (step.no_lease h c a t (take_refused (lock.Page c.chart.tree c.page) 30 a t k)) leads
refused_owes tree (work.Folding h f) a next t own fits leads k = leaf_owes tree next h f a t (folding_refused {f = f} t h.lease k (works f a)) leads
refused_owes tree (work.ReleasingPage h l o) a next t own fits leads k = absurd (release_goes tree (Some l) a t tt fits k)
refused_owes tree (work.Rising h r) a next t own fits leads k = up_owes tree next t tt (step.goes_up h r a) (rising_refused h.lease r a t k) leads
refused_owes tree (work.Deleting h applied) a next t own fits leads k = absurd (delete_goes tree h.deletions.ids a t own.1 fits k)
refused_owes tree (work.Releasing held end) a next t own fits leads k = absurd (release_goes tree (newest_lease held) a t own fits k)
refused_owes tree w a next t own fits leads k = absurd own

-- ---- the tree object

-- the step at another way to write the work and the answer
led : (tree : ℕ) (w v : Work) (a b : Answer) (next : Step) → w ≡ v → a ≡ b → Leads tree w a next → Leads tree v b next
led tree w v a b next is e leads = subst (λ (x : Answer). Leads tree v x next) e (subst (λ (x : Work). Leads tree x a next) is leads)

root_owes : (tree : ℕ) (w : Work) (a : Answer) (next : Step) (t : Trouble) → Leads tree w a next → BreaksRoot tree w a t → NextOwes next t
root_owes tree w a next (trouble.Damaged where_it_is at) leads (here, (l, is, (bytes, e, none, there))) =
    owes_same (tree_damage tree bytes) (trouble.Damaged where_it_is at) next
    (damage_same (place.Object (object.Tree tree)) where_it_is at (offset tree_format bytes) here there)
    (fails_owe tree next tt (step.bad_tree l bytes none) (led tree w (work.GettingTree l) a (call.Got (Some bytes)) next is e leads))
root_owes tree w a next t leads k = absurd k

-- ---- messages

record_owes : (tree : ℕ) (w : Work) (a : Answer) (next : Step) (t : Trouble) → Leads tree w a next → BreaksRecord tree w a t → NextOwes next t
record_owes tree w a next (trouble.Damaged where_it_is at) leads ((l, (root, is)), (ms, (bad, e, read, here, there))) =
    let damage : Trouble = message_damage (queue.TreePu tree) bad in
    owes_same damage (trouble.Damaged where_it_is at) next (damage_same (place.Message (queue.TreePu tree) bad.id) where_it_is at _ here there)
    (stopping_owes (one_lease l) damage (bad_message_leads tree l root ms damage
    (subst (λ (x : Result (List PuItem) Message). TakesItems (queue.TreePu tree) (tree_held root).cursor x (Err damage)) (sym read) refl)
    (led tree w (work.Receiving l root) a (call.Received ms) next is e leads)))
record_owes tree w a next t leads k = absurd k

-- ---- inner nodes

-- a page that is not there: page 1, or another one
no_page_one : {d : Descent} {next : Next Descent (Unit {0})} → d.page ≡ 1 → Gets d (Ok None) next → IsStop (damaged d.chart.tree d.page 0) next
no_page_one first (way.no_root e) = refl
no_page_one first (way.absent other) = absurd (other first)

no_other_page : {d : Descent} {next : Next Descent (Unit {0})} → d.page ≢ 1 → Gets d (Ok None) next → IsStop (trouble.Absent d.page) next
no_other_page other (way.no_root first) = absurd (other first)
no_other_page other (way.absent e) = refl

-- bytes that lead nowhere
node_stops : {d : Descent} {bytes : List ℕ} {next : Next Descent (Unit {0})} (t : Trouble) → way.Reads d bytes (Err t) → Gets d (Ok (Some bytes)) next → IsStop t next
node_stops t r (way.goes_on bytes n f is leads on) = absurd (let clash : Ok f ≡ Err t = sym (reads_fork (way.leads n f is leads)) ∙ reads_fork r in cc (clash))
node_stops t r (way.wrong bytes u s) = err_is u t (sym (reads_fork s) ∙ reads_fork r)

node_got : {d : Descent} {next : Next Descent (Unit {0})} (t u : Trouble) (a : Answer) (got : Option (List ℕ)) → a ≡ call.Got got → t ≡ u
    → (Gets d (Ok got) next → IsStop t next) → Gets d (got_of a) next → IsStop u next
node_got {d = d} {next = next} t u a got e same stops g =
    subst (λ (x : Trouble). IsStop x next) same (stops (subst (λ (x : Answer). Gets d (got_of x) next) e g))

node_breaks : {next : Next Descent (Unit {0})} (tree : ℕ) (d : Descent) (a : Answer) (t : Trouble) → d.chart.tree ≡ tree → BreaksNode tree d a t → Gets d (got_of a) next → IsStop t next
node_breaks tree d a (trouble.Absent page) same (here, other, e) =
    node_got (trouble.Absent d.page) (trouble.Absent page) a None e (ap trouble.Absent (sym here)) (no_other_page (subst (λ (x : ℕ). x ≢ 1) here other))
node_breaks tree d a (trouble.Damaged where_it_is at) same (here, inl (inl (first, there, e))) =
    node_got (damaged d.chart.tree d.page 0) (trouble.Damaged where_it_is at) a None e (page_same tree d.chart.tree d.page at 0 where_it_is same here there) (no_page_one first)
node_breaks tree d a (trouble.Damaged where_it_is at) same (here, inl (inr (bytes, e, none, there))) =
    let damage : Trouble = damaged d.chart.tree d.page (offset inner_format bytes) in
    node_got damage (trouble.Damaged where_it_is at) a (Some bytes) e
    (page_same tree d.chart.tree d.page at (offset inner_format bytes) where_it_is same here there) (node_stops damage (way.no_node none))
node_breaks tree d a (trouble.Damaged where_it_is at) same (here, inr (there, (n, (bytes, e, some), other))) =
    let damage : Trouble = damaged d.chart.tree d.page 10 in
    node_got damage (trouble.Damaged where_it_is at) a (Some bytes) e (page_same tree d.chart.tree d.page at 10 where_it_is same here there)
    (node_stops damage (way.other_level n some other))
node_breaks tree d a (trouble.BadFence page expected found) same (here, low, (n, (bytes, e, some), level, is, fence)) =
    node_got (bad_fence d.page d.low n.low) (trouble.BadFence page expected found) a (Some bytes) e (fence_same d.page page d.low expected n.low found here low is)
    (node_stops (bad_fence d.page d.low n.low) (way.other_low n some level fence))
node_breaks tree d a t same k = absurd k

-- ---- leaves

-- one leaf is got
gets_held : (page : ℕ) (a : Answer) (l : Leaf) → GetsLeaf page a l → (got : Option (List ℕ)) × (a ≡ call.Got got) × HoldsLeaf page l got
gets_held page a l (inl (bytes, e, read)) = (Some bytes, e, read)
gets_held page a l (inr (first, e, is)) = (None, e, (first, is))

held_same : (page : ℕ) (l m : Leaf) (got : Option (List ℕ)) → HoldsLeaf page l got → HoldsLeaf page m got → l ≡ m
held_same page l m (Some bytes) one two = let same : Ok l ≡ Ok m = sym one ∙ two in cc (same)
held_same page l m None one two = one.1 ∙ sym two.1

-- what is known of it is known of the leaf that a case speaks of
of_held : (P : Leaf → Type 0) (f : Folding) (got : Option (List ℕ)) (l m : Leaf) → HoldsLeaf f.page l got → P l → HoldsLeaf f.page m got → P m
of_held P f got l m holds k there = subst P (held_same f.page l m got holds there) k

-- page 1 is never absent
page_one : (f : Folding) (l : Leaf) → HoldsLeaf f.page l None → (f.page == 1) ≡ false → ⊥
page_one f l holds other = let first = eq-eqb f.page 1 holds.0 in cc (first, other)

no_leaf : {X : Type 0} (bytes : List ℕ) (left : ℕ) (l : Leaf) → whole leaf_format bytes ≡ Err left → whole leaf_format bytes ≡ Ok l → X
no_leaf bytes left l wrong right = absurd (cc (wrong, right))

-- no leaf is got
abbrev missing : Folding → Option (List ℕ) → Trouble
missing f (Some bytes) = damaged f.chart.tree f.page (offset leaf_format bytes)
missing f None = trouble.Absent f.page

missing_stops : {f : Folding} (got : Option (List ℕ)) {next : FoldingStep} → ((l : Leaf) → HoldsLeaf f.page l got → ⊥) → Reads f (Ok got) next → IsStop (missing f got) next
missing_stops got never (leaf.absent e) = refl
missing_stops got never (leaf.wrong bytes left e) = refl
missing_stops got never (leaf.misled same l holds low) = absurd (never l holds)
missing_stops got never (leaf.loops same l high right behind seen) = absurd (never l behind.holds)
missing_stops got never (leaf.passes same l high right behind new) = absurd (never l behind.holds)
missing_stops got never (leaf.spares same l here none) = absurd (never l here.holds)
missing_stops got never (leaf.plans same l x xs p here some e) = absurd (never l here.holds)
missing_stops got never (leaf.unplanned same l x xs t here some e) = absurd (never l here.holds)

-- its low key is another one than the link promised
misled_stops : {f : Folding} {next : FoldingStep} (got : Option (List ℕ)) (l : Leaf) → HoldsLeaf f.page l got → bytes_same l.low f.low ≡ false → Reads f (Ok got) next
    → IsStop (bad_low f l.low) next
misled_stops {f = f} got l holds low r = on got holds r where
  never : {X : Type 0} (o : Option (List ℕ)) (m : Leaf) → HoldsLeaf f.page l o → HoldsLeaf f.page m o → bytes_same m.low f.low ≡ true → X
  never o m here there same = absurd (let other = of_held (λ (x : Leaf). bytes_same x.low f.low ≡ false) f o l m here low there in cc (same, other))

  on : {x : FoldingStep} (o : Option (List ℕ)) → HoldsLeaf f.page l o → Reads f (Ok o) x → IsStop (bad_low f l.low) x
  on o here (leaf.absent other) = absurd (page_one f l here other)
  on o here (leaf.wrong bytes left e) = no_leaf bytes left l e here
  on o here (leaf.misled got m there e) = ap (λ (x : Leaf). bad_low f x.low) (held_same f.page m l o there here)
  on o here (leaf.loops got m high right behind seen) = never o m here behind.holds behind.promised
  on o here (leaf.passes got m high right behind new) = never o m here behind.holds behind.promised
  on o here (leaf.spares got m at none) = never o m here at.holds at.promised
  on o here (leaf.plans got m x xs p at some e) = never o m here at.holds at.promised
  on o here (leaf.unplanned got m x xs t at some e) = never o m here at.holds at.promised

-- a right link leads to a page that the way came to before
record IsRound (f : Folding) (page : ℕ) (l : Leaf) : Type 0 where
  promised : bytes_same l.low f.low ≡ true
  high : List ℕ
  right : GoesRight l.high (page_at l.right) high page
  beyond : bytes_below f.chart.key high ≡ false
  came : came_to f page ≡ true

round_here : {X : Type 0} (f : Folding) (page : ℕ) (l : Leaf) → IsRound f page l → below_bound f.chart.key l.high ≡ true → X
round_here f page l k below = absurd (let above = ap (below_bound f.chart.key) k.right.0 ∙ k.beyond in cc (below, above))

round_page : (f : Folding) (page other : ℕ) (l : Leaf) → IsRound f page l → page_at l.right ≡ Some other → other ≡ page
round_page f page other l k e = let same : Some other ≡ Some page = sym e ∙ k.right.1 in cc (same)

round_stops : {f : Folding} {next : FoldingStep} (page : ℕ) (got : Option (List ℕ)) (l : Leaf) → HoldsLeaf f.page l got → IsRound f page l → Reads f (Ok got) next
    → IsStop (trouble.Loop page) next
round_stops {f = f} page got l holds k r = on got holds r where
  same : (o : Option (List ℕ)) (m : Leaf) → HoldsLeaf f.page l o → HoldsLeaf f.page m o → IsRound f page m
  same o m here there = of_held (IsRound f page) f o l m here k there

  on : {x : FoldingStep} (o : Option (List ℕ)) → HoldsLeaf f.page l o → Reads f (Ok o) x → IsStop (trouble.Loop page) x
  on o here (leaf.absent other) = absurd (page_one f l here other)
  on o here (leaf.wrong bytes left e) = no_leaf bytes left l e here
  on o here (leaf.misled got m there e) = absurd (let is = (same o m here there).promised in cc (is, e))
  on o here (leaf.loops got m high right behind seen) = ap trouble.Loop (round_page f page right m (same o m here behind.holds) behind.goes.1)
  on o here (leaf.passes got m high right behind new) =
      absurd (let came = ap (came_to f) (round_page f page right m (same o m here behind.holds) behind.goes.1) ∙ k.came in cc (came, new))
  on o here (leaf.spares got m at none) = round_here f page m (same o m here at.holds) at.below
  on o here (leaf.plans got m x xs p at some e) = round_here f page m (same o m here at.holds) at.below
  on o here (leaf.unplanned got m x xs t at some e) = round_here f page m (same o m here at.holds) at.below

came_before : (f : Folding) (page : ℕ) → (page ≡ f.page) ⊎ (is_seen f.visited page ≡ true) → came_to f page ≡ true
came_before f page (inl e) = ap (λ (b : Bool). b || is_seen f.visited page) (eq-eqb page f.page e)
came_before f page (inr e) = ap (λ (b : Bool). (page == f.page) || b) e ∙ either (page == f.page) where
  either : (b : Bool) → (b || true) ≡ true
  either true = refl
  either false = refl

-- behind the get of a leaf
got_stops : {f : Folding} {a : Answer} {next : FoldingStep} (t : Trouble) (got : Option (List ℕ)) → a ≡ call.Got got → has_nothing f.placing ≡ true
    → (Reads f (Ok got) next → IsStop t next) → Works f a next → IsStop t next
got_stops {f = f} {next = next} t got e nothing stops (leaf.gets same r) = stops (subst (λ (x : Answer). Reads f (got_of x) next) e r)
got_stops t got e nothing stops (leaf.puts some l) = absurd (cc (nothing, some))

leaf_breaks : {f : Folding} {a : Answer} {next : FoldingStep} (tree : ℕ) (t : Trouble) → f.chart.tree ≡ tree → has_nothing f.placing ≡ true → BreaksLeaf tree f a t → Works f a next
    → IsStop t next
leaf_breaks {f = f} {next = next} tree (trouble.Absent page) same nothing (here, other, e) w =
    got_stops {f = f} (trouble.Absent page) None e nothing
    (λ r. subst (λ (p : ℕ). IsStop (trouble.Absent p) next) (sym here) (missing_stops {f = f} None (λ l holds. absurd ((subst (λ (x : ℕ). x ≢ 1) here other) holds.0)) r)) w
leaf_breaks {f = f} {next = next} tree (trouble.Damaged where_it_is at) same nothing (here, (bytes, (left, e, wrong, there))) w =
    got_stops {f = f} (trouble.Damaged where_it_is at) (Some bytes) e nothing
    (λ r. subst (λ (t : Trouble). IsStop t next) (page_same tree f.chart.tree f.page at (offset leaf_format bytes) where_it_is same here there)
    (missing_stops {f = f} (Some bytes) (λ l. no_leaf bytes left l wrong) r)) w
leaf_breaks {f = f} {a = a} {next = next} tree (trouble.BadFence page expected found) same nothing (here, low, (l, gets, is, fence)) w =
    let at = gets_held f.page a l gets in
    got_stops {f = f} (trouble.BadFence page expected found) at.0 at.1 nothing
    (λ r. subst (λ (t : Trouble). IsStop t next) (fence_same f.page page f.low expected l.low found here low is) (misled_stops at.0 l at.2 fence r)) w
leaf_breaks {f = f} {a = a} tree (trouble.Loop page) same nothing (l, high, gets, promised, right, beyond, seen) w =
    let at = gets_held f.page a l gets in
    got_stops {f = f} (trouble.Loop page) at.0 at.1 nothing
    (round_stops {f = f} page at.0 l at.2 (record { promised = promised; high = high; right = right; beyond = beyond; came = came_before f page seen })) w
leaf_breaks tree t same nothing k w = absurd k

-- ---- the way over nodes that were got before

way_at : {next : Next Descent (Unit {0})} (t : Trouble) → (e : Descent) × (next ≡ Stops e t) → IsStop t next
way_at t (e, stops) = subst (IsStop t) (sym stops) refl

-- behind a node that is what the link to it promised
over_stops : {d : Descent} {bytes : List ℕ} {n : Inner} {next : Next Descent (Unit {0})} (t : Trouble) → inner_of bytes ≡ Some n → way.Leads d n (forked_on d.chart.key n)
    → (Arrives (behind (with_node d bytes) n) next → IsStop t next) → Gets d (Ok (Some bytes)) next → IsStop t next
over_stops {d = d} {n = n} {next = next} t is leads stops (way.goes_on bytes m f reads on there) =
    let both : Some m ≡ Some n = sym reads ∙ is in
    let same : m ≡ n = cc (both) in
    stops (subst (λ (x : Fork). Arrives (passed (with_node d bytes) x) next) (on.forked ∙ ap (forked_on d.chart.key) same) there)
over_stops {d = d} {n = n} t is leads stops (way.wrong bytes u r) =
    absurd (let clash : Ok (forked_on d.chart.key n) ≡ Err u = sym (reads_fork (way.leads n (forked_on d.chart.key n) is leads)) ∙ reads_fork r in cc (clash))

way_owes : (tree : ℕ) (w : Work) (cs : Calls) (a : Answer) (next : Step) (t : Trouble) → KnowsAt tree w cs → Leads tree w a next → BreaksWay tree w a t → NextOwes next t
way_owes tree w cs a next t knows leads (d, inl b, breaks) =
    let known : KnowsAt tree (work.Descending b.held b.from) cs = subst (λ (x : Work). KnowsAt tree x cs) b.stands knows in
    let start : Descent = behind (with_node b.from b.bytes) b.node in
    let keeps = behind_keeps (with_node b.from b.bytes) b.bytes b.node b.reads in
    down_owes tree next t tt (step.goes_on b.held b.from (call.Got (Some b.bytes)))
    (over_stops {d = b.from} t b.reads (promised_leads b.from b.bytes b.node known.upto b.reads b.promised)
    (λ on. way_at t (way_stops tree start t _ (keeps.tree ∙ known.chart.same) keeps.upto (subst (λ (x : Descent). BreaksFrom tree x t) b.leads breaks) on))
    (gets b.from (Ok (Some b.bytes))))
    (led tree w (work.Descending b.held b.from) a (call.Got (Some b.bytes)) next b.stands b.brought leads)
way_owes tree w cs a next t knows leads (d, inr b, breaks) =
    let known : KnowsAt tree (work.ReleasingPage b.held b.lease (onward.Handled b.chart)) cs = subst (λ (x : Work). KnowsAt tree x cs) b.stands knows in
    let c : Chart = record b.chart { key = b.key } in
    down_owes tree next t tt (step.begins b.key (step.from_leaf b.held b.lease b.chart a) b.next)
    (way_at t (way_stops tree (from_root c) t _ known.same (root_upto c) (subst (λ (x : Descent). BreaksFrom tree x t) b.leads breaks) (arrives (from_root c))))
    (led tree w (work.ReleasingPage b.held b.lease (onward.Handled b.chart)) a a next b.stands refl leads)

-- ---- what is spent

-- a leaf that is to be put and cannot be planned
record IsUnplanned (f : Folding) (t : Trouble) (l : Leaf) : Type 0 where
  promised : bytes_same l.low f.low ≡ true
  stays : below_bound f.chart.key l.high ≡ true
  lacks : has_items (lacked l 0 f.chart.run.items) ≡ true
  unplanned : leaf_plan (tree_held f.chart.root) f.page l f.chart.run.items ≡ Err t

unplanned_beyond : {X : Type 0} (f : Folding) (t : Trouble) (l : Leaf) (high : List ℕ) → IsUnplanned f t l → l.high ≡ Some high → bytes_below f.chart.key high ≡ false → X
unplanned_beyond f t l high k is beyond = absurd (let above = ap (below_bound f.chart.key) is ∙ beyond in let below = k.stays in cc (below, above))

unplanned_stops : {f : Folding} {next : FoldingStep} (t : Trouble) (got : Option (List ℕ)) (l : Leaf) → HoldsLeaf f.page l got → IsUnplanned f t l → Reads f (Ok got) next → IsStop t next
unplanned_stops {f = f} t got l holds k r = on got holds r where
  same : (o : Option (List ℕ)) (m : Leaf) → HoldsLeaf f.page l o → HoldsLeaf f.page m o → IsUnplanned f t m
  same o m here there = of_held (IsUnplanned f t) f o l m here k there

  on : {x : FoldingStep} (o : Option (List ℕ)) → HoldsLeaf f.page l o → Reads f (Ok o) x → IsStop t x
  on o here (leaf.absent other) = absurd (page_one f l here other)
  on o here (leaf.wrong bytes left e) = no_leaf bytes left l e here
  on o here (leaf.misled got m there e) = absurd (let is = (same o m here there).promised in cc (is, e))
  on o here (leaf.loops got m high right behind seen) = unplanned_beyond f t m high (same o m here behind.holds) behind.goes.0 behind.beyond
  on o here (leaf.passes got m high right behind new) = unplanned_beyond f t m high (same o m here behind.holds) behind.goes.0 behind.beyond
  on o here (leaf.spares got m at none) = absurd (let some : false ≡ true = sym (ap has_items none) ∙ (same o m here at.holds).lacks in cc (some))
  on o here (leaf.plans got m x xs p at some e) = absurd (let never = (same o m here at.holds).unplanned in cc (never, e))
  on o here (leaf.unplanned got m x xs u at some e) = let both : Err u ≡ Err t = sym e ∙ (same o m here at.holds).unplanned in cc (both)

-- the way up goes on from here
up_goes : (tree : ℕ) (w : Work) (a : Answer) (next : Step) (t : Trouble) (up : Rising) → Leads tree w a next → IsUp w a up
    → ((x : RisingStep) → Rises up x → IsStop t x) → NextOwes next t
up_goes tree w a next t up leads (inl b) stops =
    up_owes tree next t tt (step.begins_up (step.from_leaf b.held b.lease b.chart a) b.none) (subst (λ (r : Rising). IsStop t (rise r)) b.is (stops (rise up) (rises up)))
    (led tree w (work.ReleasingPage b.held b.lease (onward.Handled b.chart)) a a next b.stands refl leads)
up_goes tree w a next t up leads (inr g) stops =
    up_owes tree next t tt (step.goes_up g.held g.from call.Done) (on (climb.lands g.from (Ok tt)))
    (led tree w (work.Rising g.held g.from) a call.Done next g.stands g.put leads) where
      on : {x : RisingStep} → climb.Lands g.from (Ok tt) x → IsStop t x
      on (climb.is_last y none) = absurd (let some = g.some in cc (none, some))
      on (climb.more y some more) =
          absurd (let never : false ≡ true = sym (ap (λ (b : Bool). not b || (is_some g.from.last && not g.from.is_spent)) g.nothing
          ∙ ap (λ (o : Option (List ℕ)). is_some o && not g.from.is_spent) g.between) ∙ more in cc (never))
      on (climb.cut_short y some none last spent) = absurd (let none : is_some g.from.last ≡ false = ap (λ (o : Option (List ℕ)). is_some o) g.between in cc (last, none))
      on {x = x} (climb.goes_on y some none between goes) = stops x (subst (λ (r : Rising). Rises r x) (sym g.is) goes)

node_unplanned : {up : Rising} {x : RisingStep} (t : Trouble) (k : KeptNode) → touched_node up ≡ Some k → node_plan (tree_held up.chart.root) up.chart.tree k up.chart.links ≡ Err t
    → Rises up x → IsStop t x
node_unplanned {up = up} t k next planned (climb.node_due m p at e) =
    let both : Some m ≡ Some k = sym at ∙ next in
    let same : m ≡ k = cc (both) in
    absurd (let ok = subst (λ (n : KeptNode). node_plan (tree_held up.chart.root) up.chart.tree n up.chart.links ≡ Ok p) same e in cc (ok, planned))
node_unplanned {up = up} t k next planned (climb.no_node m u at e) =
    let both : Some m ≡ Some k = sym at ∙ next in
    let same : m ≡ k = cc (both) in
    let is : Err u ≡ Err t = sym (subst (λ (n : KeptNode). node_plan (tree_held up.chart.root) up.chart.tree n up.chart.links ≡ Err u) same e) ∙ planned in cc (is)
node_unplanned t k next planned (climb.root_due p none e) = absurd (cc (next, none))
node_unplanned t k next planned (climb.no_root u none e) = absurd (cc (next, none))

root_unplanned : {up : Rising} {x : RisingStep} (t : Trouble) → touched_node up ≡ None → last_plan up ≡ Err t → Rises up x → IsStop t x
root_unplanned t none planned (climb.node_due k p at e) = absurd (cc (none, at))
root_unplanned t none planned (climb.no_node k u at e) = absurd (cc (none, at))
root_unplanned t none planned (climb.root_due p same e) = absurd (cc (planned, e))
root_unplanned t none planned (climb.no_root u same e) = let is : Err u ≡ Err t = sym e ∙ planned in cc (is)

-- what is due cannot be planned
DueStops : Due → Trouble → Type 0
DueStops (LeafDue root l run) t = (page : ℕ) → leaf_plan root page l run ≡ Err t
DueStops (NodeDue root n links) t = (tree : ℕ) (k : KeptNode) → inner_of k.bytes ≡ Some n → node_plan root tree k links ≡ Err t
DueStops (RootDue root links top) t = plan_of root (risen_by root.level links top (next_tree root)) ≡ Err t

due_owes : (tree : ℕ) (w : Work) (a : Answer) (next : Step) (t : Trouble) → Leads tree w a next → (due : Due) → IsDue w a due → DueStops due t → NextOwes next t
unfolding DueStops
due_owes tree w a next t leads (LeafDue root l run) is stops =
    let planned : leaf_plan (tree_held is.from.chart.root) is.from.page l is.from.chart.run.items ≡ Err t =
    sym (ap (λ (r : Tree). leaf_plan r is.from.page l run) is.root_is ∙ ap (leaf_plan (tree_held is.from.chart.root) is.from.page l) is.run_is) ∙ stops is.from.page in
    let at = gets_held is.from.page a l is.gets in
    leaf_owes tree next is.held is.from a t
    (got_stops {f = is.from} t at.0 at.1 is.nothing
    (unplanned_stops {f = is.from} t at.0 l at.2 (record { promised = is.promised; stays = is.stays; lacks = is.lacks; unplanned = planned })) (works is.from a))
    (led tree w (work.Folding is.held is.from) a a next is.stands refl leads)
due_owes tree w a next t leads (NodeDue root n links) is stops =
    let up : Rising = is.up in
    let planned : node_plan (tree_held up.chart.root) up.chart.tree is.kept up.chart.links ≡ Err t =
    sym (ap (λ (r : Tree). node_plan r up.chart.tree is.kept links) is.root_is ∙ ap (node_plan (tree_held up.chart.root) up.chart.tree is.kept) is.links_are)
    ∙ stops up.chart.tree is.kept is.reads in
    up_goes tree w a next t up leads is.is_up (λ x. node_unplanned {up = up} t is.kept is.next planned)
due_owes tree w a next t leads (RootDue root links top) is stops =
    let up : Rising = is.up in
    let stood : Tree = tree_held up.chart.root in
    let planned : last_plan up ≡ Err t =
    sym (ap (λ (r : Tree). plan_of r (risen_by r.level links top (next_tree r))) is.root_is
    ∙ (ap (λ (ls : List Link). plan_of stood (risen_by stood.level ls top (next_tree stood))) is.links_are
    ∙ ap (λ (x : List (ℕ × ℕ)). plan_of stood (risen_by stood.level up.chart.links x (next_tree stood))) is.top_is)) ∙ stops in
    up_goes tree w a next t up leads is.is_up (λ x. root_unplanned {up = up} t is.none planned)

spent_stops : (due : Due) → IsSpent due → DueStops due version_spent
unfolding DueStops
spent_stops (LeafDue root l run) s = λ page. leaf_plan_spent root page l run s
spent_stops (NodeDue root n links) s = λ tree k reads. node_plan_spent root tree k n links reads s
spent_stops (RootDue root links top) s = last_plan_spent root links top s

full_stops : (due : Due) → HasNoPages due → DueStops due pages_spent
unfolding DueStops
full_stops (LeafDue root l run) s = λ page. leaf_plan_full root page l run s
full_stops (NodeDue root n links) s = λ tree k reads. node_plan_full root tree k n links reads s
full_stops (RootDue root links top) s = last_plan_full root links top s

-- behind the last piece there is no version for the tree object
short_owes : (tree : ℕ) (w : Work) (a : Answer) (next : Step) → Leads tree w a next → IsCutShort w a → NextOwes next version_spent
short_owes tree w a next leads is =
    up_owes tree next version_spent tt (step.goes_up is.held is.from call.Done) (on (climb.lands is.from (Ok tt)))
    (led tree w (work.Rising is.held is.from) a call.Done next is.stands is.put leads) where
      on : {x : RisingStep} → climb.Lands is.from (Ok tt) x → IsStop version_spent x
      on (climb.is_last y none) = absurd (let some = is.some in cc (none, some))
      on (climb.more y some more) =
          absurd (let never : false ≡ true = sym (ap (λ (b : Bool). not b || (is_some is.from.last && not is.from.is_spent)) is.nothing
          ∙ (ap (λ (b : Bool). b && not is.from.is_spent) is.behind ∙ ap not is.spent)) ∙ more in cc (never))
      on (climb.cut_short y some none last spent) = refl
      on (climb.goes_on y some none between goes) = absurd (let never : true ≡ false = sym is.behind ∙ ap (λ (o : Option (List ℕ)). is_some o) between in cc (never))

spent_owes : (tree : ℕ) (w : Work) (a : Answer) (next : Step) (t : Trouble) → Leads tree w a next → Spends w a t → NextOwes next t
spent_owes tree w a next (trouble.Exhausted counter.Version) leads (inl (due, is, s)) = due_owes tree w a next version_spent leads due is (spent_stops due s)
spent_owes tree w a next (trouble.Exhausted counter.Version) leads (inr is) = short_owes tree w a next leads is
spent_owes tree w a next (trouble.Exhausted counter.Pages) leads (due, is, s) = due_owes tree w a next pages_spent leads due is (full_stops due s)
spent_owes tree w a next (trouble.Exhausted what) leads k = absurd k
spent_owes tree w a next t leads k = absurd k

-- ---- all

-- at a node, and at a leaf that is got next
at_node : (tree : ℕ) (h : Held) (d : Descent) (w : Work) (cs : Calls) (a : Answer) (next : Step) (t : Trouble) → w ≡ work.Descending h d → KnowsAt tree w cs
    → Leads tree w a next → BreaksNode tree d a t → NextOwes next t
at_node tree h d w cs a next t is knows leads k =
    let known : KnowsAt tree (work.Descending h d) cs = subst (λ (x : Work). KnowsAt tree x cs) is knows in
    down_owes tree next t tt (step.goes_on h d a) (node_breaks tree d a t known.chart.same k (gets d (got_of a))) (led tree w (work.Descending h d) a a next is refl leads)

at_leaf : (tree : ℕ) (h : Held) (f : Folding) (w : Work) (cs : Calls) (a : Answer) (next : Step) (t : Trouble) → w ≡ work.Folding h f
    → has_nothing f.placing ≡ true → KnowsAt tree w cs → Leads tree w a next → BreaksLeaf tree f a t → NextOwes next t
at_leaf tree h f w cs a next t is nothing knows leads k =
    let known : KnowsAt tree (work.Folding h f) cs = subst (λ (x : Work). KnowsAt tree x cs) is knows in
    leaf_owes tree next h f a t (leaf_breaks tree t known.chart.same nothing k (works f a)) (led tree w (work.Folding h f) a a next is refl leads)

demanded_owes : (m : Making) (h : List Deed) (a : Answer) (next : Step) (t : Trouble) → Stands m h → KnowsAt m.tree m.work (calls_of h)
    → Fits (making_ask m) a → Leads m.tree m.work a next → Demands m.tree m.work a t → NextOwes next t
demanded_owes m h a next t s knows fits leads (inl k) = refused_owes m.tree m.work a next t s.own fits leads k
demanded_owes m h a next t s knows fits leads (inr (inl k)) = root_owes m.tree m.work a next t leads k
demanded_owes m h a next t s knows fits leads (inr (inr (inl k))) = record_owes m.tree m.work a next t leads k
demanded_owes m h a next t s knows fits leads (inr (inr (inr (inl (held, (d, is, k)))))) = at_node m.tree held d m.work (calls_of h) a next t is knows leads k
demanded_owes m h a next t s knows fits leads (inr (inr (inr (inr (inl (held, (f, is, nothing, k))))))) =
    at_leaf m.tree held f m.work (calls_of h) a next t is nothing knows leads k
demanded_owes m h a next t s knows fits leads (inr (inr (inr (inr (inr (inl k)))))) = way_owes m.tree m.work (calls_of h) a next t knows leads k
demanded_owes m h a next t s knows fits leads (inr (inr (inr (inr (inr (inr k)))))) = spent_owes m.tree m.work a next t leads k

-- a trouble that was kept stays until it is answered
kept_owes : (tree : ℕ) (w : Work) (a : Answer) (next : Step) (t : Trouble) → Leads tree w a next → kept_trouble w ≡ Some t → NextOwes next t
kept_owes tree (work.Releasing held (Ok x)) a next t leads kept = absurd (cc (kept))
kept_owes tree (work.Releasing held (Err u)) a next t leads kept = owes_same u t next (some_is u t kept) (on (kept_leads tree held u a leads)) where
  on : (next ≡ stopping (without_newest held) u) ⊎ (next ≡ Stops work.Finished u) → NextOwes next u
  on (inl e) = stopping_owes (without_newest held) u e
  on (inr e) = stops_owe u e
kept_owes tree w a next t leads kept = absurd (cc (kept))

step_owes : (m : Making) (h : List Deed) (a : Answer) (next : Step) (t : Trouble) → Stands m h → KnowsAt m.tree m.work (calls_of h) → Fits (making_ask m) a
    → Leads m.tree m.work a next → (kept_trouble m.work ≡ Some t) ⊎ Demands m.tree m.work a t → NextOwes next t
step_owes m h a next t s knows fits leads (inl kept) = kept_owes m.tree m.work a next t leads kept
step_owes m h a next t s knows fits leads (inr k) = demanded_owes m h a next t s knows fits leads k

pub took_owes : (old new : Making) (h : List Deed) (a : Answer) (turn : Turn CkptAnswer) (t : Trouble) → Stands old h → KnowsAt old.tree old.work (calls_of h)
    → Fits (making_ask old) a → Took MakingLeads KeepsLeases old a new turn → (kept_trouble old.work ≡ Some t) ⊎ Demands old.tree old.work a t → Owes new turn t
took_owes old new h a More t s knows fits took k = step_owes old h a (Goes new.work) t s knows fits took.1 k
took_owes old new h a (Ended x) t s knows fits took k = step_owes old h a (Ends new.work x) t s knows fits took.1 k
took_owes old new h a (Stopped u) t s knows fits took k = λ memory. step_owes old h a (Stops new.work u) t s knows fits (took.0 memory).1 k
