-- Where the answer of each call leads a tree checkpoint.
use Rattle.std.specs.Prelude.{ℕ, ◌≡◌, ◌≢◌, Bool, true, false, List, [], ◌∷◌, Option, Some, None, Result, Ok, Err, if◌then◌else◌}
use Rattle.byte_format.specs.Order.{bytes_below}
use Rattle.byte_format.specs.Whole.{offset}
use Rattle.db_base.specs.Change.{key_of}
use Rattle.db_base.specs.declared.names.Lock.TheVariants as lock
use Rattle.db_base.specs.declared.names.ObjName.TheVariants as object
use Rattle.db_base.specs.declared.names.Place.TheVariants as place
use Rattle.db_base.specs.declared.names.QueueName.TheVariants as queue
use Rattle.db_base.specs.declared.trouble.Trouble.{Trouble}
use Rattle.db_base.specs.declared.trouble.Trouble.TheVariants as trouble
use Rattle.cloud_trait.specs.declared.answer.Answer.{Answer}
use Rattle.cloud_trait.specs.declared.message.Message.{Message}
use Rattle.cloud_trait.specs.declared.turn.CkptAnswer.{CkptAnswer}
use Rattle.cloud_trait.specs.declared.turn.Turn.{Turn}
use Rattle.cloud_trait.specs.declared.turn.Turn.TheVariants.{More, Ended, Stopped}
use Rattle.cloud_trait.specs.Claim.{Claim}
use Rattle.cloud_trait.specs.Machine.{Next, Goes, Ends, Stops}
use Rattle.cloud_trait.specs.Views.{given_of, got_of, received_of, done_of}
use Rattle.node_codec.specs.Node.{Entry, child_of}
use Rattle.node_codec.specs.Tree.{Tree, tree_of, tree_format}
use Rattle.log_codec.specs.declared.record.PuItem.{PuItem}
use Rattle.run_cursor.specs.Run.{Taken}
use Rattle.ckpt_parts.specs.declared.intake.Intake.{Intake}
use Rattle.ckpt_parts.specs.declared.leases.Leases.{Leases}
use Rattle.ckpt_parts.specs.Deleting.{Deleting, next_id, tried}
use Rattle.ckpt_parts.specs.Intakes.{has_items, TakesIn}
use Rattle.ckpt_parts.specs.Leasing.{newest_lease}
use Rattle.tree_phases.specs.declared.chart.Chart.{Chart}
use Rattle.tree_phases.specs.Read.{tree_held}
use Rattle.tree_phases.specs.declared.descent.Descent.{Descent}
use Rattle.tree_phases.specs.Descent as way
use Rattle.tree_phases.specs.declared.folding.Folding.{Folding}
use Rattle.tree_phases.specs.declared.folding.Left.{Left}
use Rattle.tree_phases.specs.declared.folding.Left.TheVariants as left
use Rattle.tree_phases.specs.Folding as fold
use Rattle.tree_phases.specs.declared.rising.Rising.{Rising}
use Rattle.tree_phases.specs.Rising as rise
use Rattle.tree_ckpt.specs.declared.moved.Moved.{Moved}
use Rattle.tree_ckpt.specs.declared.work.Coming.{Coming}
use Rattle.tree_ckpt.specs.declared.work.Held.{Held}
use Rattle.tree_ckpt.specs.declared.work.Onward.{Onward}
use Rattle.tree_ckpt.specs.declared.work.Onward.TheVariants as onward
use Rattle.tree_ckpt.specs.declared.work.Work.{Work}
use Rattle.tree_ckpt.specs.declared.work.Work.TheVariants as work
use Rattle.tree_ckpt.specs.Work.{one_lease, two_leases, claims_in, handed}

abbrev pub Step : Type 0
Step = Next Work CkptAnswer

-- the code went where a step leads; at want of memory the leases are held that were held
abbrev pub MovesTo : (Step → Type 0) → List Claim → Work → Turn CkptAnswer → Type 0
MovesTo Leads claims w More = Leads (Goes w)
MovesTo Leads claims w (Ended a) = Leads (Ends w a)
MovesTo Leads claims w (Stopped t) = (t ≢ trouble.Memory → Leads (Stops w t)) × (t ≡ trouble.Memory → claims_in w ≡ claims)

abbrev pub Moves : (Step → Type 0) → List Claim → Moved → Type 0
Moves Leads claims m = MovesTo Leads claims m.work m.turn

-- the same where there is one step
abbrev pub MovesOn : Step → List Claim → Moved → Type 0
MovesOn step claims m = Moves (λ next. next ≡ step) claims m

-- ---- stops and ends

-- the leases are given back, and then the checkpoint stops
abbrev pub stopping : Leases → Trouble → Step
stopping held t = Goes (work.Releasing held (Err t))

-- no lease is held any more
abbrev pub finished : Result CkptAnswer Trouble → Step
finished (Ok a) = Ends work.Finished a
finished (Err t) = Stops work.Finished t

abbrev pub turn_of : Result CkptAnswer Trouble → Turn CkptAnswer
turn_of (Ok a) = Ended a
turn_of (Err t) = Stopped t

-- after a release, whatever it answered: the next lease is given back, or the checkpoint ends
abbrev pub released_by : Leases → Result CkptAnswer Trouble → Option Claim → Step
released_by held end (Some l) = Goes (work.Releasing held end)
released_by held end None = finished end

-- ---- deletions

abbrev pub answer_of : ℕ → Deleting → CkptAnswer
answer_of applied d = record { applied = applied; deleted = d.deleted; left = d.left }

-- the next id is deleted, or the lease is given back where all are
abbrev pub deleting_by : Held → ℕ → Option ℕ → Step
deleting_by h applied (Some id) = Goes (work.Deleting h applied)
deleting_by h applied None = Goes (work.Releasing (one_lease h.lease) (Ok (answer_of applied h.deletions)))

abbrev pub deleting : Held → ℕ → Step
deleting h applied = deleting_by h applied (next_id h.deletions.ids)

abbrev pub went : {A B : Type 0} → Result A B → Bool
went (Ok _) = true
went (Err _) = false

-- after a deletion
abbrev pub deleted_by : {A : Type 0} → Held → ℕ → Result A Trouble → Step
deleted_by h applied done = deleting (record h { deletions = tried h.deletions (went done) }) applied

-- ---- up

-- behind the last put of the way up come the deletions
abbrev pub rising_on : Held → Next Rising (Unit {0}) → Step
rising_on h (Goes r) = Goes (work.Rising h r)
rising_on h (Ends r _) = deleting h r.chart.applied
rising_on h (Stops r t) = stopping (one_lease h.lease) t

-- ---- down

-- the leaf to which the way down leads
abbrev pub leaf_of : Descent → Coming
leaf_of d = record { chart = d.chart; page = d.page; low = d.low; visited = d.visited }

abbrev pub descending_on : Held → Next Descent (Unit {0}) → Step
descending_on h (Goes d) = Goes (work.Descending h d)
descending_on h (Ends d _) = Goes (work.TakingPage h (leaf_of d))
descending_on h (Stops d t) = stopping (one_lease h.lease) t

-- the tree object's entry for the key
abbrev pub entry_or : Option Entry → Entry
entry_or (Some e) = e
entry_or None = ([], 1)

abbrev pub root_entry : Chart → Entry
root_entry c = entry_or (child_of c.key (tree_held c.root).entries)

-- down from the tree object to the leaf of the chart's key
abbrev pub down_from : Chart → Entry → Next Descent (Unit {0})
down_from c e = way.arrive (way.begun c e.0 e.1)

abbrev pub going_down : Held → Chart → Step
going_down h c = descending_on h (down_from c (root_entry c))

-- ---- key by key

-- the least key of the run from this one on; the run is in the order of keys
abbrev pub key_from : List ℕ → List PuItem → Option (List ℕ)
key_from from [] = None
key_from from (x ∷ xs) = if bytes_below (key_of x.rec.change) from then key_from from xs else Some (key_of x.rec.change)

abbrev pub key_from_or_none : Option (List ℕ) → List PuItem → Option (List ℕ)
key_from_or_none (Some from) xs = key_from from xs
key_from_or_none None xs = None

-- the least key of the run that is not handled
abbrev pub next_key : Chart → Option (List ℕ)
next_key c = key_from_or_none c.from c.run.items

abbrev pub going_by : Held → Chart → Option (List ℕ) → Step
going_by h c (Some key) = going_down h (record c { key = key })
going_by h c None = rising_on h (rise.rise (rise.begun c))

-- down for the next key, and up where all are handled
abbrev pub going : Held → Chart → Step
going h c = going_by h c (next_key c)

-- ---- a leaf

abbrev pub page_taken : Held → Coming → Result Claim Trouble → Step
page_taken h c (Ok l) = Goes (work.Folding h (fold.begun c.chart l c.page c.low c.visited))
page_taken h c (Err t) = stopping (one_lease h.lease) t

-- the leaf on the right, or the next key
abbrev pub onward_from : Folding → Left → Onward
onward_from f (left.Right low page) = onward.Right (record { chart = f.chart; page = page; low = low; visited = f.visited })
onward_from f left.Handled = onward.Handled f.chart

-- a leaf that is left is given back
abbrev pub folding_on : Held → Next Folding Left → Step
folding_on h (Goes f) = Goes (work.Folding h f)
folding_on h (Ends f way_out) = Goes (work.ReleasingPage h f.lease (onward_from f way_out))
folding_on h (Stops f t) = stopping (two_leases h.lease f.lease) t

abbrev pub page_left : Held → Onward → Step
page_left h (onward.Right c) = Goes (work.TakingPage h c)
page_left h (onward.Handled c) = going h c

-- ---- opening

abbrev pub tree_taken : Result Claim Trouble → Step
tree_taken (Ok l) = Goes (work.GettingTree l)
tree_taken (Err t) = Stops work.Finished t

-- bytes that spell no tree object
abbrev pub tree_damage : ℕ → List ℕ → Trouble
tree_damage tree bytes = trouble.Damaged (place.Object (object.Tree tree)) (offset tree_format bytes)

abbrev pub tree_read : ℕ → Claim → List ℕ → Option Tree → Step
tree_read tree l bytes (Some t) = Goes (work.Receiving l (Some bytes))
tree_read tree l bytes None = stopping (one_lease l) (tree_damage tree bytes)

-- after the held get of the tree object
abbrev pub tree_got : ℕ → Claim → Result (Option (List ℕ)) Trouble → Step
tree_got tree l (Ok (Some bytes)) = tree_read tree l bytes (tree_of bytes)
tree_got tree l (Ok None) = Goes (work.Receiving l None)
tree_got tree l (Err t) = stopping (one_lease l) t

-- before the first key of a run
abbrev pub chart_of : ℕ → Option (List ℕ) → Taken → Chart
chart_of tree root run = record { tree = tree; root = root; run = run; from = Some []; key = []; nodes = []; links = []; applied = 0 }

-- a run is applied; where it is empty, the deletions come at once
abbrev pub started : Held → Chart → Bool → Step
started h c true = going h c
started h c false = deleting h 0

abbrev pub intake_taken : ℕ → Claim → Option (List ℕ) → Result Intake Trouble → Step
intake_taken tree l root (Ok i) = started (record { lease = l; deletions = i.deletions }) (chart_of tree root i.run) (has_items i.run.items)
intake_taken tree l root (Err t) = stopping (one_lease l) t

-- after the receive: the run is taken after the tree object's cursor
abbrev pub ReceivedBy : ℕ → Claim → Option (List ℕ) → Result (List Message) Trouble → Step → Type 0
ReceivedBy tree l root (Ok ms) next =
    (taken : Result Intake Trouble) × TakesIn (queue.TreePu tree) (tree_held root).cursor ms taken × (next ≡ intake_taken tree l root taken)
ReceivedBy tree l root (Err t) next = next ≡ stopping (one_lease l) t

-- ---- all

-- where an answer leads once the lease has left that the call gave back
abbrev pub Absorbs : ℕ → Work → Answer → Step → Type 0
Absorbs tree work.TakingTree a next = next ≡ tree_taken (given_of (lock.Tree tree) a)
Absorbs tree (work.GettingTree l) a next = next ≡ tree_got tree l (got_of a)
Absorbs tree (work.Receiving l root) a next = ReceivedBy tree l root (received_of a) next
Absorbs tree (work.Descending h d) a next = next ≡ descending_on h (way.descent_next d a)
Absorbs tree (work.TakingPage h c) a next = next ≡ page_taken h c (given_of (lock.Page c.chart.tree c.page) a)
Absorbs tree (work.Folding h f) a next = next ≡ folding_on h (fold.folding_next f a)
Absorbs tree (work.ReleasingPage h l o) a next = next ≡ Stops work.Finished trouble.Failed
Absorbs tree (work.LeftPage h o) a next = next ≡ page_left h o
Absorbs tree (work.Rising h r) a next = next ≡ rising_on h (rise.rising_next r a)
Absorbs tree (work.Deleting h applied) a next = next ≡ deleted_by h applied (done_of a)
Absorbs tree (work.Releasing held end) a next = next ≡ released_by held end (newest_lease held)
Absorbs tree work.Finished a next = next ≡ Stops work.Finished trouble.Failed

-- where an answer leads
abbrev pub Leads : ℕ → Work → Answer → Step → Type 0
Leads tree w a next = Absorbs tree (handed w) a next
