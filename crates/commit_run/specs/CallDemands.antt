-- Which answer a whole commit ends with, exactly, by its calls so far and the answer of the call in hand.
use Rattle.std.specs.Prelude.{◌≡◌, ◌⊎◌, ◌+◌, true, false, List, length}
use Rattle.db_base.specs.declared.trouble.Trouble.{Trouble}
use Rattle.db_base.specs.declared.trouble.Trouble.TheVariants as trouble
use Rattle.db_base.specs.declared.trouble.Counter.TheVariants as counter
use Rattle.db_base.specs.declared.trouble.CommitAnswer.{CommitAnswer}
use Rattle.db_base.specs.declared.trouble.CommitAnswer.TheVariants.{NotCommitted}
use Rattle.txn_buffer.specs.Noted.{Noted}
use Rattle.cloud_trait.specs.declared.answer.Answer.{Answer}
use Rattle.cloud_trait.specs.declared.turn.Turn.{Turn}
use Rattle.cloud_trait.specs.declared.turn.Turn.TheVariants.{Ended, Stopped}
use Rattle.cloud_trait.specs.Ask.{Ask}
use Rattle.cloud_trait.specs.Machine.{Stops, Deed}
use Rattle.recover_run.specs.declared.home.Home.{Home}
use Rattle.page_cache.specs.Cache.{Cache}
use Rattle.tree_walk.specs.Walk.{Walk, walk_next}
use Rattle.commit_writes.specs.Writing.{is_spent}
use Rattle.commit_writes.specs.Calls.{told}
use Rattle.commit_writes.specs.Demands.{Demands, Exactly, IsAmple as IsAmpleWriting}
use Rattle.commit_run.specs.declared.hand.Hand.{Hand}
use Rattle.commit_run.specs.declared.hand.Hand.TheVariants.{Writes, First, Change}
use Rattle.commit_run.specs.Run.{Run, is_stale}
use Rattle.commit_run.specs.Within.{GetsNothing}

-- the answers that calls demand by themselves; with any other trouble a commit ends at what a walk read, or at a number
abbrev pub IsOfCalls : CommitAnswer → Type 0
IsOfCalls (NotCommitted trouble.Failed) = Unit {0}
IsOfCalls (NotCommitted (trouble.Late end now)) = Unit {0}
IsOfCalls (NotCommitted t) = ⊥
IsOfCalls answer = Unit {0}

-- the walk in hand stops so by this answer, and at no stale page
abbrev pub StopsIn : Hand → Cache → Answer → Trouble → Type 0
StopsIn Writes c a t = ⊥
StopsIn (First w) c a t = (after : Walk × Cache) × (walk_next (w, c) a ≡ Stops after t) × (is_stale t ≡ false)
StopsIn (Change w) c a t = (after : Walk × Cache) × (walk_next (w, c) a ≡ Stops after t) × (is_stale t ≡ false)

-- a step ends with an answer that calls demand by themselves exactly where the calls so far and this one demand it
abbrev pub Exact : Home → List Noted → List Deed → Ask → Answer → Turn CommitAnswer → Type 0
Exact home changes h ask answer turn = (x : CommitAnswer) → IsOfCalls x → Exactly (Demands (length changes) (home.attempt + 1) (told h) ask answer x) x turn

-- a walk that stops, and at no stale page, ends the commit with that trouble
abbrev pub IsRefusing : Run × Cache → Answer → Turn CommitAnswer → Type 0
IsRefusing old answer turn = (t : Trouble) → StopsIn old.0.hand old.1 answer t → (turn ≡ Ended (NotCommitted t)) ⊎ (turn ≡ Stopped trouble.Memory)

-- want of memory never takes the place of what a refused send or put demands
abbrev pub IsAmple : Ask → Answer → Turn CommitAnswer → Type 0
IsAmple ask answer turn = GetsNothing ask → IsAmpleWriting ask answer turn

-- at its beginning: the greatest attempt number refuses it, and nothing else does so
abbrev pub ExactReady : Home → Turn CommitAnswer → Type 0
ExactReady home turn = Exactly (is_spent home ≡ true) (NotCommitted (trouble.Exhausted counter.Txn)) turn
