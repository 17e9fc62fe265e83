-- From what a step comes to back to the step: what fails so stops it.
use Rattle.std.proofs.Common.{◌≡◌, ◌⊎◌, ℕ, List, Option, Some, None, Result, Ok, Err, inl, inr, sym, ap, subst, ◌∙◌}
use Rattle.db_base.specs.declared.names.Lock.TheVariants as lock
use Rattle.db_base.specs.declared.names.QueueName.{QueueName}
use Rattle.db_base.specs.declared.names.QueueName.TheVariants as queue
use Rattle.log_codec.specs.declared.record.PuItem.{PuItem}
use Rattle.cloud_trait.specs.declared.answer.Answer.TheVariants as call
use Rattle.ckpt_parts.specs.Intakes.{items_of, TakesItems}
use Rattle.ckpt_parts.specs.Leasing.{newest_lease, without_newest}
use Rattle.tree_phases.specs.Read.{tree_held}
use Rattle.tree_ckpt.specs.declared.work.Work.TheVariants as work
use Rattle.tree_ckpt.specs.Moves.{Step, stopping, released_by, rising_on, descending_on, next_key, going_by, page_taken, folding_on, tree_taken, tree_read, tree_got, intake_taken, ReceivedBy, Leads}
use Rattle.tree_ckpt.specs.Work.{one_lease}
use Rattle.tree_ckpt.proofs.Outcomes.{Seeks, Descends, Ascends, Fails}
use Rattle.tree_ckpt.proofs.Outcomes as step
use Rattle.tree_ckpt.proofs.Words.{Trouble, Answer, Message, Claim, Next, Stops, given_of, received_of, Intake, Leases, Chart, Descent, Rising, Held, Work}

-- a receive may bring one of several runs, and each leads on in its own way
abbrev pub IsOneWay : Work → Type 0
IsOneWay (work.Receiving l root) = ⊥
IsOneWay w = Unit {0}

seeks_lead : {tree : ℕ} {w : Work} {a : Answer} {h : Held} {c : Chart} {next : Step} → IsOneWay w → Seeks tree w a h c → Leads tree w a next → next ≡ going_by h c (next_key c)
seeks_lead one (step.with_run l root ms i takes some) leads = absurd one
seeks_lead one (step.from_leaf h l c a) leads = leads
seeks_lead one (step.alone h c a) leads = leads

descends_lead : {tree : ℕ} {w : Work} {a : Answer} {h : Held} {way : Next Descent (Unit {0})} {next : Step} → IsOneWay w → Descends tree w a h way → Leads tree w a next
    → next ≡ descending_on h way
descends_lead one (step.begins {h = h} {c = c} key s e) leads = seeks_lead one s leads ∙ ap (going_by h c) e
descends_lead one (step.goes_on h d a) leads = leads

ascends_lead : {tree : ℕ} {w : Work} {a : Answer} {h : Held} {way : Next Rising (Unit {0})} {next : Step} → IsOneWay w → Ascends tree w a h way → Leads tree w a next
    → next ≡ rising_on h way
ascends_lead one (step.begins_up {h = h} {c = c} s none) leads = seeks_lead one s leads ∙ ap (going_by h c) none
ascends_lead one (step.goes_up h r a) leads = leads

pub fails_lead : {tree : ℕ} {w : Work} {a : Answer} {held : Leases} {t : Trouble} {next : Step} → IsOneWay w → Fails tree w a held t → Leads tree w a next → next ≡ stopping held t
fails_lead {tree = tree} one (step.no_tree l a t e) leads = leads ∙ ap (tree_got tree l) e
fails_lead {tree = tree} one (step.bad_tree l bytes none) leads = leads ∙ ap (tree_read tree l bytes) none
fails_lead one (step.no_lease h c a t e) leads = leads ∙ ap (page_taken h c) e
fails_lead one (step.no_way d t way) leads = descends_lead one way leads
fails_lead one (step.no_leaf h f g a t e) leads = leads ∙ ap (folding_on h) e
fails_lead one (step.no_ascent r t up) leads = ascends_lead one up leads
fails_lead one f leads = absurd one

pub refusal_leads : {next : Step} (tree : ℕ) (a : Answer) (t : Trouble) → given_of (lock.Tree tree) a ≡ Err t → Leads tree work.TakingTree a next → next ≡ Stops work.Finished t
refusal_leads tree a t e leads = leads ∙ ap tree_taken e

-- ---- a receive

pub no_messages_lead : {next : Step} (tree : ℕ) (l : Claim) (root : Option (List ℕ)) (a : Answer) (t : Trouble) → received_of a ≡ Err t → Leads tree (work.Receiving l root) a next
    → next ≡ stopping (one_lease l) t
no_messages_lead {next = next} tree l root a t e leads = subst (λ (g : Result (List Message) Trouble). ReceivedBy tree l root g next) e leads

-- what cannot be taken in was not taken in otherwise
takes_none : (q : QueueName) (cursor : List (ℕ × ℕ)) (read : Result (List PuItem) Message) (t : Trouble) (taken : Result Intake Trouble) → TakesItems q cursor read (Err t)
    → TakesItems q cursor read taken → taken ≡ Err t
takes_none q cursor (Ok items) t taken (run, of, e) there = absurd (cc (e))
takes_none q cursor (Err m) t taken e there = there ∙ sym e

pub bad_message_leads : {next : Step} (tree : ℕ) (l : Claim) (root : Option (List ℕ)) (ms : List Message) (t : Trouble)
    → TakesItems (queue.TreePu tree) (tree_held root).cursor (items_of ms) (Err t) → Leads tree (work.Receiving l root) (call.Received ms) next → next ≡ stopping (one_lease l) t
bad_message_leads tree l root ms t takes (taken, there, e) =
    e ∙ ap (intake_taken tree l root) (takes_none (queue.TreePu tree) (tree_held root).cursor (items_of ms) t taken takes there)

-- ---- a trouble that was kept

-- the next lease is given back, or the checkpoint stops
pub kept_leads : {next : Step} (tree : ℕ) (held : Leases) (t : Trouble) (a : Answer) → Leads tree (work.Releasing held (Err t)) a next
    → (next ≡ stopping (without_newest held) t) ⊎ (next ≡ Stops work.Finished t)
kept_leads {next = next} tree held t a leads = on (newest_lease (without_newest held)) leads where
  on : (lease : Option Claim) → next ≡ released_by (without_newest held) (Err t) lease → (next ≡ stopping (without_newest held) t) ⊎ (next ≡ Stops work.Finished t)
  on (Some l) e = inl e
  on None e = inr e
