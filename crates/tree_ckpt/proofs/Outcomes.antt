-- What a step of a tree checkpoint comes to, whatever branches led there.
use Rattle.std.proofs.Common.{◌≡◌, ℕ, Bool, true, false, List, [], ◌∷◌, Option, Some, None, Result, Ok, Err, refl, sym, subst}
use Rattle.db_base.specs.declared.names.Lock.TheVariants as lock
use Rattle.db_base.specs.declared.names.QueueName.TheVariants as queue
use Rattle.db_base.specs.declared.trouble.Trouble.TheVariants as trouble
use Rattle.node_codec.specs.Tree.{Tree, tree_of}
use Rattle.cloud_trait.specs.declared.answer.Answer.TheVariants as call
use Rattle.cloud_trait.proofs.ViewLemmas.{given_of-ok, got_of-ok, received_of-ok}
use Rattle.ckpt_parts.specs.Deleting.{next_id, tried}
use Rattle.ckpt_parts.specs.Intakes.{has_items, TakesIn}
use Rattle.ckpt_parts.specs.Leasing.{newest_lease, without_newest}
use Rattle.tree_phases.specs.Read.{tree_held}
use Rattle.tree_phases.specs.Descent.{descent_next}
use Rattle.tree_phases.specs.Folding.{folding_next}
use Rattle.tree_phases.specs.Folding as fold
use Rattle.tree_phases.specs.Rising.{rising_next}
use Rattle.tree_phases.specs.Rising as rise
use Rattle.tree_ckpt.specs.declared.work.Onward.TheVariants as onward
use Rattle.tree_ckpt.specs.declared.work.Work.TheVariants as work
use Rattle.tree_ckpt.specs.Work.{one_lease, two_leases}
use Rattle.tree_ckpt.specs.Moves.{Step, stopping, released_by, answer_of, deleting_by, went, rising_on, leaf_of, descending_on, root_entry, down_from, next_key, going_by, page_taken, onward_from, folding_on, tree_taken, tree_damage, tree_read, tree_got, chart_of, started, intake_taken, ReceivedBy, Leads}
use Rattle.tree_ckpt.specs.Leases.{HasIds}
use Rattle.tree_ckpt.proofs.Words.{Trouble, Answer, Message, CkptAnswer, Claim, Next, Goes, Ends, Stops, given_of, got_of, received_of, done_of, Intake, Leases, Chart, Descent, Folding, Left, Rising, Coming, Held, Work}

-- ---- local work between the call and where the step ends

-- The next key of the run is sought, once a run was taken in or a leaf was given back.
pub data Seeks (tree : ℕ) : Work → Answer → Held → Chart → Type 0 where
  with_run : (l : Claim) (root : Option (List ℕ)) (ms : List Message) (i : Intake) → TakesIn (queue.TreePu tree) (tree_held root).cursor ms (Ok i) → has_items i.run.items ≡ true
      → Seeks tree (work.Receiving l root) (call.Received ms) (record { lease = l; deletions = i.deletions }) (chart_of tree root i.run)
  from_leaf : (h : Held) (l : Claim) (c : Chart) (a : Answer) → Seeks tree (work.ReleasingPage h l (onward.Handled c)) a h c
  alone : (h : Held) (c : Chart) (a : Answer) → Seeks tree (work.LeftPage h (onward.Handled c)) a h c

-- A way down begins for that key, or goes on behind a node.
pub data Descends (tree : ℕ) : Work → Answer → Held → Next Descent (Unit {0}) → Type 0 where
  begins : {w : Work} {a : Answer} {h : Held} {c : Chart} (key : List ℕ) → Seeks tree w a h c → next_key c ≡ Some key
      → Descends tree w a h (down_from (record c { key = key }) (root_entry (record c { key = key })))
  goes_on : (h : Held) (d : Descent) (a : Answer) → Descends tree (work.Descending h d) a h (descent_next d a)

-- The way up begins where no key is left, or goes on behind a put.
pub data Ascends (tree : ℕ) : Work → Answer → Held → Next Rising (Unit {0}) → Type 0 where
  begins_up : {w : Work} {a : Answer} {h : Held} {c : Chart} → Seeks tree w a h c → next_key c ≡ None → Ascends tree w a h (rise.rise (rise.begun c))
  goes_up : (h : Held) (r : Rising) (a : Answer) → Ascends tree (work.Rising h r) a h (rising_next r a)

-- The deletions come next: the run is empty, the way up has ended, or a deletion was tried.
pub data Clears (tree : ℕ) : Work → Answer → Held → ℕ → Type 0 where
  no_run : (l : Claim) (root : Option (List ℕ)) (ms : List Message) (i : Intake) → TakesIn (queue.TreePu tree) (tree_held root).cursor ms (Ok i) → has_items i.run.items ≡ false
      → Clears tree (work.Receiving l root) (call.Received ms) (record { lease = l; deletions = i.deletions }) 0
  risen : {w : Work} {a : Answer} {h : Held} (r : Rising) (x : Unit {0}) → Ascends tree w a h (Ends r x) → Clears tree w a h r.chart.applied
  one_tried : (h : Held) (applied : ℕ) (a : Answer)
      → Clears tree (work.Deleting h applied) a (record h { deletions = tried h.deletions (went (done_of a)) }) applied

-- A trouble stops it, and these leases are given back.
pub data Fails (tree : ℕ) : Work → Answer → Leases → Trouble → Type 0 where
  no_tree : (l : Claim) (a : Answer) (t : Trouble) → got_of a ≡ Err t → Fails tree (work.GettingTree l) a (one_lease l) t
  bad_tree : (l : Claim) (bytes : List ℕ) → tree_of bytes ≡ None → Fails tree (work.GettingTree l) (call.Got (Some bytes)) (one_lease l) (tree_damage tree bytes)
  no_messages : (l : Claim) (root : Option (List ℕ)) (a : Answer) (t : Trouble) → received_of a ≡ Err t → Fails tree (work.Receiving l root) a (one_lease l) t
  bad_message : (l : Claim) (root : Option (List ℕ)) (ms : List Message) (t : Trouble) → TakesIn (queue.TreePu tree) (tree_held root).cursor ms (Err t)
      → Fails tree (work.Receiving l root) (call.Received ms) (one_lease l) t
  no_lease : (h : Held) (c : Coming) (a : Answer) (t : Trouble) → given_of (lock.Page c.chart.tree c.page) a ≡ Err t → Fails tree (work.TakingPage h c) a (one_lease h.lease) t
  no_way : {w : Work} {a : Answer} {h : Held} (d : Descent) (t : Trouble) → Descends tree w a h (Stops d t) → Fails tree w a (one_lease h.lease) t
  no_leaf : (h : Held) (f g : Folding) (a : Answer) (t : Trouble) → folding_next f a ≡ Stops g t → Fails tree (work.Folding h f) a (two_leases h.lease g.lease) t
  no_ascent : {w : Work} {a : Answer} {h : Held} (r : Rising) (t : Trouble) → Ascends tree w a h (Stops r t) → Fails tree w a (one_lease h.lease) t

-- ---- where it ends

-- what was got is a tree object, or there is none
abbrev pub IsTree : Option (List ℕ) → Type 0
IsTree (Some bytes) = (t : Tree) × (tree_of bytes ≡ Some t)
IsTree None = Unit {0}

pub data Comes (tree : ℕ) : Work → Answer → Step → Type 0 where
  takes_tree : (l : Claim) → Comes tree work.TakingTree (call.Given l) (Goes (work.GettingTree l))
  refused : (a : Answer) (t : Trouble) → given_of (lock.Tree tree) a ≡ Err t → Comes tree work.TakingTree a (Stops work.Finished t)
  reads_tree : (l : Claim) (got : Option (List ℕ)) → IsTree got → Comes tree (work.GettingTree l) (call.Got got) (Goes (work.Receiving l got))
  stops : {w : Work} {a : Answer} (held : Leases) (t : Trouble) → Fails tree w a held t → Comes tree w a (stopping held t)
  descends : {w : Work} {a : Answer} (h : Held) (d : Descent) → Descends tree w a h (Goes d) → Comes tree w a (Goes (work.Descending h d))
  arrives : {w : Work} {a : Answer} (h : Held) (d : Descent) (x : Unit {0}) → Descends tree w a h (Ends d x) → Comes tree w a (Goes (work.TakingPage h (leaf_of d)))
  takes_page : (h : Held) (c : Coming) (l : Claim)
      → Comes tree (work.TakingPage h c) (call.Given l) (Goes (work.Folding h (fold.begun c.chart l c.page c.low c.visited)))
  folds : (h : Held) (f g : Folding) (a : Answer) → folding_next f a ≡ Goes g → Comes tree (work.Folding h f) a (Goes (work.Folding h g))
  leaves : (h : Held) (f g : Folding) (out : Left) (a : Answer) → folding_next f a ≡ Ends g out
      → Comes tree (work.Folding h f) a (Goes (work.ReleasingPage h g.lease (onward_from g out)))
  turns : (h : Held) (l : Claim) (c : Coming) (a : Answer) → Comes tree (work.ReleasingPage h l (onward.Right c)) a (Goes (work.TakingPage h c))
  turns_alone : (h : Held) (c : Coming) (a : Answer) → Comes tree (work.LeftPage h (onward.Right c)) a (Goes (work.TakingPage h c))
  ascends : {w : Work} {a : Answer} (h : Held) (r : Rising) → Ascends tree w a h (Goes r) → Comes tree w a (Goes (work.Rising h r))
  deletes : {w : Work} {a : Answer} (h : Held) (applied id : ℕ) → Clears tree w a h applied → next_id h.deletions.ids ≡ Some id → Comes tree w a (Goes (work.Deleting h applied))
  rests : {w : Work} {a : Answer} (h : Held) (applied : ℕ) → Clears tree w a h applied → next_id h.deletions.ids ≡ None
      → Comes tree w a (Goes (work.Releasing (one_lease h.lease) (Ok (answer_of applied h.deletions))))
  gives_back : (held : Leases) (l : Claim) (end : Result CkptAnswer Trouble) (a : Answer) → newest_lease (without_newest held) ≡ Some l
      → Comes tree (work.Releasing held end) a (Goes (work.Releasing (without_newest held) end))
  ends : (held : Leases) (x : CkptAnswer) (a : Answer) → newest_lease (without_newest held) ≡ None → Comes tree (work.Releasing held (Ok x)) a (Ends work.Finished x)
  stopped : (held : Leases) (t : Trouble) (a : Answer) → newest_lease (without_newest held) ≡ None → Comes tree (work.Releasing held (Err t)) a (Stops work.Finished t)
  nothing : (a : Answer) → Comes tree work.Finished a (Stops work.Finished trouble.Failed)

-- an id is left
pub has_ids : (ids : List ℕ) (id : ℕ) → next_id ids ≡ Some id → HasIds ids
has_ids [] id e = absurd (cc (e))
has_ids (x ∷ ids) id e = tt

-- ---- a step, taken apart

by_step : {tree : ℕ} {w : Work} {a : Answer} (next built : Step) → next ≡ built → Comes tree w a built → Comes tree w a next
by_step {tree = tree} {w = w} {a = a} next built e c = subst (Comes tree w a) (sym e) c

by_answer : {tree : ℕ} {w : Work} {next : Step} (a given : Answer) → a ≡ given → Comes tree w given next → Comes tree w a next
by_answer {tree = tree} {w = w} {next = next} a given e c = subst (λ (x : Answer). Comes tree w x next) (sym e) c

tree_takes : (tree : ℕ) (a : Answer) (g : Result Claim Trouble) → given_of (lock.Tree tree) a ≡ g → Comes tree work.TakingTree a (tree_taken g)
tree_takes tree a (Ok l) e = by_answer a _ (given_of-ok (lock.Tree tree) a l e) (takes_tree l)
tree_takes tree a (Err t) e = refused a t e

tree_reads : (tree : ℕ) (l : Claim) (bytes : List ℕ) (o : Option Tree) → tree_of bytes ≡ o → Comes tree (work.GettingTree l) (call.Got (Some bytes)) (tree_read tree l bytes o)
tree_reads tree l bytes (Some t) e = reads_tree l (Some bytes) (t, e)
tree_reads tree l bytes None e = stops (one_lease l) (tree_damage tree bytes) (bad_tree l bytes e)

tree_gets : (tree : ℕ) (l : Claim) (a : Answer) (g : Result (Option (List ℕ)) Trouble) → got_of a ≡ g → Comes tree (work.GettingTree l) a (tree_got tree l g)
tree_gets tree l a (Ok (Some bytes)) e = by_answer a _ (got_of-ok a (Some bytes) e) (tree_reads tree l bytes (tree_of bytes) refl)
tree_gets tree l a (Ok None) e = by_answer a _ (got_of-ok a None e) (reads_tree l None tt)
tree_gets tree l a (Err t) e = stops (one_lease l) t (no_tree l a t e)

clears : {tree : ℕ} {w : Work} {a : Answer} (h : Held) (applied : ℕ) (id : Option ℕ) → next_id h.deletions.ids ≡ id → Clears tree w a h applied
    → Comes tree w a (deleting_by h applied id)
clears h applied (Some id) e c = deletes h applied id c e
clears h applied None e c = rests h applied c e

rises : {tree : ℕ} {w : Work} {a : Answer} (h : Held) (next : Next Rising (Unit {0})) → Ascends tree w a h next → Comes tree w a (rising_on h next)
rises h (Goes r) up = ascends h r up
rises h (Ends r x) up = clears h r.chart.applied (next_id h.deletions.ids) refl (risen r x up)
rises h (Stops r t) up = stops (one_lease h.lease) t (no_ascent r t up)

goes_down : {tree : ℕ} {w : Work} {a : Answer} (h : Held) (next : Next Descent (Unit {0})) → Descends tree w a h next → Comes tree w a (descending_on h next)
goes_down h (Goes d) way = descends h d way
goes_down h (Ends d x) way = arrives h d x way
goes_down h (Stops d t) way = stops (one_lease h.lease) t (no_way d t way)

seeks : {tree : ℕ} {w : Work} {a : Answer} (h : Held) (c : Chart) (key : Option (List ℕ)) → next_key c ≡ key → Seeks tree w a h c → Comes tree w a (going_by h c key)
seeks h c (Some key) e s = goes_down h (down_from (record c { key = key }) (root_entry (record c { key = key }))) (begins key s e)
seeks h c None e s = rises h (rise.rise (rise.begun c)) (begins_up s e)

starts : (tree : ℕ) (l : Claim) (root : Option (List ℕ)) (ms : List Message) (i : Intake) (b : Bool) → has_items i.run.items ≡ b
    → TakesIn (queue.TreePu tree) (tree_held root).cursor ms (Ok i)
    → Comes tree (work.Receiving l root) (call.Received ms) (started (record { lease = l; deletions = i.deletions }) (chart_of tree root i.run) b)
starts tree l root ms i true some takes =
    seeks (record { lease = l; deletions = i.deletions }) (chart_of tree root i.run) (next_key (chart_of tree root i.run)) refl (with_run l root ms i takes some)
starts tree l root ms i false none takes = clears (record { lease = l; deletions = i.deletions }) 0 (next_id i.deletions.ids) refl (no_run l root ms i takes none)

intakes : (tree : ℕ) (l : Claim) (root : Option (List ℕ)) (ms : List Message) (taken : Result Intake Trouble) → TakesIn (queue.TreePu tree) (tree_held root).cursor ms taken
    → Comes tree (work.Receiving l root) (call.Received ms) (intake_taken tree l root taken)
intakes tree l root ms (Ok i) takes = starts tree l root ms i (has_items i.run.items) refl takes
intakes tree l root ms (Err t) takes = stops (one_lease l) t (bad_message l root ms t takes)

receives : (tree : ℕ) (l : Claim) (root : Option (List ℕ)) (a : Answer) (next : Step) (g : Result (List Message) Trouble) → received_of a ≡ g
    → ReceivedBy tree l root g next → Comes tree (work.Receiving l root) a next
receives tree l root a next (Ok ms) e h = by_step next _ h.2 (by_answer a _ (received_of-ok a ms e) (intakes tree l root ms h.0 h.1))
receives tree l root a next (Err t) e h = by_step next _ h (stops (one_lease l) t (no_messages l root a t e))

page_takes : (tree : ℕ) (h : Held) (c : Coming) (a : Answer) (g : Result Claim Trouble) → given_of (lock.Page c.chart.tree c.page) a ≡ g
    → Comes tree (work.TakingPage h c) a (page_taken h c g)
page_takes tree h c a (Ok l) e = by_answer a _ (given_of-ok (lock.Page c.chart.tree c.page) a l e) (takes_page h c l)
page_takes tree h c a (Err t) e = stops (one_lease h.lease) t (no_lease h c a t e)

leaf_folds : (tree : ℕ) (h : Held) (f : Folding) (a : Answer) (next : Next Folding Left) → folding_next f a ≡ next → Comes tree (work.Folding h f) a (folding_on h next)
leaf_folds tree h f a (Goes g) e = folds h f g a e
leaf_folds tree h f a (Ends g out) e = leaves h f g out a e
leaf_folds tree h f a (Stops g t) e = stops (two_leases h.lease g.lease) t (no_leaf h f g a t e)

gives : (tree : ℕ) (held : Leases) (end : Result CkptAnswer Trouble) (a : Answer) (l : Option Claim) → newest_lease (without_newest held) ≡ l
    → Comes tree (work.Releasing held end) a (released_by (without_newest held) end l)
gives tree held end a (Some l) e = gives_back held l end a e
gives tree held (Ok x) a None e = ends held x a e
gives tree held (Err t) a None e = stopped held t a e

pub comes : (tree : ℕ) (w : Work) (a : Answer) (next : Step) → Leads tree w a next → Comes tree w a next
comes tree work.TakingTree a next e = by_step next _ e (tree_takes tree a (given_of (lock.Tree tree) a) refl)
comes tree (work.GettingTree l) a next e = by_step next _ e (tree_gets tree l a (got_of a) refl)
comes tree (work.Receiving l root) a next h = receives tree l root a next (received_of a) refl h
comes tree (work.Descending h d) a next e = by_step next _ e (goes_down h (descent_next d a) (goes_on h d a))
comes tree (work.TakingPage h c) a next e = by_step next _ e (page_takes tree h c a (given_of (lock.Page c.chart.tree c.page) a) refl)
comes tree (work.Folding h f) a next e = by_step next _ e (leaf_folds tree h f a (folding_next f a) refl)
comes tree (work.ReleasingPage h l (onward.Right c)) a next e = by_step next _ e (turns h l c a)
comes tree (work.ReleasingPage h l (onward.Handled c)) a next e = by_step next _ e (seeks h c (next_key c) refl (from_leaf h l c a))
comes tree (work.LeftPage h (onward.Right c)) a next e = by_step next _ e (turns_alone h c a)
comes tree (work.LeftPage h (onward.Handled c)) a next e = by_step next _ e (seeks h c (next_key c) refl (alone h c a))
comes tree (work.Rising h r) a next e = by_step next _ e (rises h (rising_next r a) (goes_up h r a))
comes tree (work.Deleting h applied) a next e =
    by_step next _ e (clears (record h { deletions = tried h.deletions (went (done_of a)) }) applied _ refl (one_tried h applied a))
comes tree (work.Releasing held end) a next e = by_step next _ e (gives tree held end a (newest_lease (without_newest held)) refl)
comes tree work.Finished a next e = by_step next _ e (nothing a)
