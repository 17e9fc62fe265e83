-- What a settling did, as its calls tell it.
use Rattle.std.specs.Prelude.{ℕ, ◌≡◌, ◌≢◌, ◌+◌, ◌⊎◌, true, List, [], ◌∷◌, ◌++◌, length, Some}
use Rattle.std.specs.List.{AllByRecursion}
use Rattle.db_base.specs.declared.trouble.Trouble.{Trouble}
use Rattle.db_base.specs.declared.trouble.Trouble.TheVariants as trouble
use Rattle.leaf_view.specs.Lookup.{page_at}
use Rattle.cloud_trait.specs.declared.answer.Answer.{Answer}
use Rattle.cloud_trait.specs.declared.turn.Turn.{Turn}
use Rattle.cloud_trait.specs.declared.turn.Turn.TheVariants.{More, Ended, Stopped}
use Rattle.cloud_trait.specs.Caller.{Caller}
use Rattle.cloud_trait.specs.Seen.{Seen}
use Rattle.cloud_trait.specs.Machine.{Next, Goes, Ends, Stops, Deed, Came, IsMade, Steps, occasion_of}
use Rattle.db_base.specs.Ids.{IsClient, IsTree}
use Rattle.recover_run.specs.Ids.{has_id, new_ids}
use Rattle.recover_run.specs.Recovery.{Recovery}
use Rattle.page_ckpt.specs.Paging.{Paging}
use Rattle.settle_run.specs.declared.part.Part.{Part}
use Rattle.settle_run.specs.declared.part.Part.TheVariants.{Client, Tree, Page}
use Rattle.settle_run.specs.declared.settled.Settled.{Settled}
use Rattle.settle_run.specs.Parts.{part_ask, part_again, part_received, PartLeads, PartWent}
use Rattle.settle_run.specs.Settling.{Settling, new_settling, settle_ask, SettleLeads, passed, is_visited, settling_machine}
use Rattle.settle_run.specs.Leases.{AreReturned}
use Rattle.settle_run.specs.Stepped.{part_deed, PartStepped}
use Rattle.tree_ckpt.specs.Making.{Making}

-- the settling came here from its first call on by these calls, the newest first
abbrev pub Went : List Deed → Settling → Type 0
Went h s = Came settle_ask SettleLeads new_settling h s

-- the call of a step, as it was answered
abbrev pub deed_of : Caller → Settling → Answer → Seen → Seen → Deed
deed_of who s answer before after = record { who = who; ask = settle_ask s; answer = answer; before = before; after = after }

-- ---- whole parts

-- a part that ended: as it stood then, and its calls, the newest first
pub record Run : Type 0 where
  pub part : Part
  pub deeds : List Deed

-- it ran from its first call on to its end, and no deletion of it failed that counts
pub record IsRun (r : Run) : Type 0 where
  pub last : Deed
  pub earlier : List Deed
  pub before : Part
  pub deeds : r.deeds ≡ last ∷ earlier
  pub went : PartWent earlier before
  pub asked : last.ask ≡ part_ask before
  pub made : IsMade last
  pub ended : PartLeads before last.answer (Ends r.part 0)

-- a settling behind a part that it began with
abbrev pub behind : Settling → Run → Settling
behind s r = record s { part = r.part; calls = s.calls + length r.deeds }

-- parts that ran, the newest first, and a settling that stands before the first call of its next part: the first part is the recovery of
-- client 1, and each other one is what comes behind the part before it
abbrev pub Ran : List Run → Settling → Type 0
Ran [] s = s ≡ new_settling
Ran (r ∷ rs) s = (from : Settling) × Ran rs from × IsRun r × (part_again r.part ≡ from.part) × (passed (behind from r) ≡ Goes s)

-- all their calls, the newest first
abbrev pub deeds_of : List Run → List Deed
deeds_of [] = []
deeds_of (r ∷ rs) = r.deeds ++ deeds_of rs

-- ---- what they were together

-- a part ran, and stood so at its end
abbrev pub RanTo : List Run → Part → Type 0
RanTo [] part = ⊥
RanTo (r ∷ rs) part = (r.part ≡ part) ⊎ RanTo rs part

-- a checkpoint of a queue received this
abbrev pub Received : List Run → Part → ℕ → Type 0
Received runs queue id = (part : Part) × (RanTo runs part × ((part_again part ≡ queue) × (has_id (part_received part) id ≡ true)))

-- a checkpoint of a queue ran that received nothing new: what it received, an earlier one of that queue had received
abbrev pub Empties : List Run → Part → Type 0
Empties [] part = ⊥
Empties (r ∷ rs) part = ((r.part ≡ part) × AllByRecursion (Received rs (part_again part)) (part_received part)) ⊎ Empties rs part

-- so the queues of these pages of a tree were emptied, and each of those checkpoints read the next page as its right page
abbrev pub EmptiesPages : List Run → ℕ → ℕ → List ℕ → ℕ → Type 0
EmptiesPages runs tree from [] to = from ≡ to
EmptiesPages runs tree from (page ∷ pages) to = (page ≡ from) × ((m : Paging) × (Empties runs (Page tree page m) × EmptiesPages runs tree m.home.right pages to))

-- and so was a tree's own, and those of its pages from page 1 up to one without a right page
pub record EmptiesTree (runs : List Run) (tree : ℕ) : Type 0 where
  pub making : Making
  pub own : Empties runs (Tree tree making)
  pub pages : List ℕ
  pub all : EmptiesPages runs tree 1 pages 0

-- every client was recovered, and every tree emptied
pub record IsWhole (runs : List Run) : Type 0 where
  pub clients : (client : ℕ) → IsClient client → (m : Recovery) × RanTo runs (Client client m)
  pub trees : (tree : ℕ) → IsTree tree → EmptiesTree runs tree

-- ---- the end

-- all parts ran, and nothing comes behind the last; these were all calls, and the answer counts them
pub record IsSettled (h : List Deed) (left : Settling) (answer : Settled) : Type 0 where
  pub runs : List Run
  pub from : Settling
  pub ran : Ran runs from
  pub last : Run
  pub ends : IsRun last
  pub place : part_again last.part ≡ from.part
  pub passes : passed (behind from last) ≡ Ends left answer
  pub whole : IsWhole (last ∷ runs)
  pub all : h ≡ deeds_of (last ∷ runs)
  pub counts : answer.calls ≡ length h

abbrev pub MeansTurn : List Deed → Settling → Turn Settled → Type 0
MeansTurn h left More = Unit {0}
MeansTurn h left (Ended answer) = IsSettled h left answer
MeansTurn h left (Stopped t) = Unit {0}

-- ---- stops

-- the part at work stopped so
abbrev pub StopsPart : Settling → Answer → Trouble → Type 0
StopsPart s a t = (p : Part) × PartLeads s.part a (Stops p t)

-- a checkpoint ended, and deletions of it had failed
abbrev pub LeavesSome : Settling → Answer → Type 0
LeavesSome s a = (p : Part) × ((left : ℕ) × (left ≢ 0) × PartLeads s.part a (Ends p left))

-- the last checkpoint of a page ended, and its right page is one whose own checkpoints were made
abbrev pub GoesRound : Settling → Answer → ℕ → Type 0
GoesRound s a right =
    (tree : ℕ) × ((page : ℕ) × ((m : Paging) × PartLeads s.part a (Ends (Page tree page m) 0) × (new_ids s.known m.received ≡ [])
    × (page_at m.home.right ≡ Some right) × (is_visited s right ≡ true)))

-- why a settling stops so
abbrev pub Stopping : Settling → Answer → Trouble → Type 0
Stopping s a t = StopsPart s a t ⊎ (((t ≡ trouble.Failed) × LeavesSome s a) ⊎ ((right : ℕ) × (t ≡ trouble.Loop right) × GoesRound s a right))

abbrev pub Tells : Settling → Answer → Turn Settled → Type 0
Tells s a More = Unit {0}
Tells s a (Ended answer) = Unit {0}
Tells s a (Stopped t) = t ≢ trouble.Memory → Stopping s a t

-- ---- both ways

-- the last checkpoint of a page received nothing new, and its right page is this one, whose own checkpoints were made
abbrev pub RoundTo : Settling → Part → ℕ → Type 0
RoundTo s (Page tree page m) right = (new_ids s.known m.received ≡ []) × ((page_at m.home.right ≡ Some right) × (is_visited s right ≡ true))
RoundTo s part right = ⊥

-- with which trouble a step of the part at work has to stop the settling: with its own, with Failed where deletions had failed, with Loop where the
-- way would go round, and else with none
abbrev pub MustStop : Settling → Next Part ℕ → Trouble → Type 0
MustStop s (Goes part) t = ⊥
MustStop s (Stops part k) t = t ≡ k
MustStop s (Ends part left) t =
    ((left ≢ 0) × (t ≡ trouble.Failed)) ⊎ ((left ≡ 0) × ((right : ℕ) × (RoundTo s part right × (t ≡ trouble.Loop right))))

-- the part at work took a step that has to stop it with none, or so
abbrev pub MustNotStop : Settling → Answer → Type 0
MustNotStop s a = (next : Next Part ℕ) × (PartLeads s.part a next × ((t : Trouble) → MustStop s next t → ⊥))

abbrev pub HasToStop : Settling → Answer → Trouble → Type 0
HasToStop s a t = (next : Next Part ℕ) × (PartLeads s.part a next × MustStop s next t)

-- it stops where it has to, and nowhere else
abbrev pub StopsExactly : Settling → Answer → Turn Settled → Type 0
StopsExactly s a More = MustNotStop s a
StopsExactly s a (Ended answer) = MustNotStop s a
StopsExactly s a (Stopped t) = t ≢ trouble.Memory → HasToStop s a t

-- where a step of the part at work came to
abbrev pub next_of : Part → Turn ℕ → Next Part ℕ
next_of p More = Goes p
next_of p (Ended left) = Ends p left
next_of p (Stopped t) = Stops p t

-- the settling stops where this has to stop it, and so, and nowhere else
abbrev pub Follows : Settling → Next Part ℕ → Turn Settled → Type 0
Follows s next More = (t : Trouble) → MustStop s next t → ⊥
Follows s next (Ended answer) = (t : Trouble) → MustStop s next t → ⊥
Follows s next (Stopped t) = t ≢ trouble.Memory → MustStop s next t

-- ---- a step

-- What a step of a settling is, all of it by the one answer that the cloud gave. The code made the call in hand and took the step that this answer leads
-- to (`did`), and so did the machine of the part at work, whose contract tells the cause of each trouble that it keeps or answers (`stepped`). The
-- settling stops by where that step came to (`follows`), as the part at work shows (`tells`), and nowhere else (`exact`); want of memory is free.
-- Whichever calls it came by, its end tells what they were with this one (`means`), and before an end each lease that they took was given back by a
-- call (`returned`).
pub record Stepped (who : Caller) (before after : Seen) (old new : Settling) (turn : Turn Settled) : Type 0 where
  pub did : Steps settling_machine (occasion_of who before after) old new turn
  pub part : Part
  pub part_turn : Turn ℕ
  pub stepped : PartStepped (part_deed who old.part did.answer before after) old.part part part_turn
  pub follows : Follows old (next_of part part_turn) turn
  pub tells : Tells old did.answer turn
  pub exact : StopsExactly old did.answer turn
  pub means : (h : List Deed) → Went h old → MeansTurn (deed_of who old did.answer before after ∷ h) new turn
  pub returned : (h : List Deed) → Went h old → AreReturned (deed_of who old did.answer before after ∷ h) turn
