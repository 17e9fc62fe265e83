-- A tree checkpoint as a machine.
use Rattle.std.specs.Prelude.{ℕ, ◌≡◌, List, []}
use Rattle.cloud_trait.specs.declared.answer.Answer.{Answer}
use Rattle.cloud_trait.specs.declared.answer.Answer.TheVariants.{Received}
use Rattle.cloud_trait.specs.declared.turn.CkptAnswer.{CkptAnswer}
use Rattle.cloud_trait.specs.declared.turn.Turn.{Turn}
use Rattle.cloud_trait.specs.Ask.{Ask}
use Rattle.cloud_trait.specs.Machine.{Next, Goes, Ends, Stops, Machine, machine_by}
use Rattle.ckpt_parts.specs.Intakes.{ids_of}
use Rattle.tree_ckpt.specs.declared.work.Work.{Work}
use Rattle.tree_ckpt.specs.declared.work.Work.TheVariants.{TakingTree}
use Rattle.tree_ckpt.specs.Work.{work_ask, claims_in, handed}
use Rattle.tree_ckpt.specs.Moves.{Absorbs, MovesTo}

-- its tree, what its receive answered, and where it stands
pub record Making : Type 0 where
  pub tree : ℕ
  pub received : List ℕ
  pub work : Work

-- the checkpoint of a tree before its first call
abbrev pub new_making : ℕ → Making
new_making tree = record { tree = tree; received = []; work = TakingTree }

-- the call in hand
abbrev pub making_ask : Making → Ask
making_ask m = work_ask m.tree m.work

-- the ids of a receive are kept
abbrev pub received_after : List ℕ → Answer → List ℕ
received_after ids (Received ms) = ids_of ms
received_after ids a = ids

abbrev pub with_received : Making → Answer → Making
with_received m a = record m { received = received_after m.received a }

-- the tree stays
abbrev pub Keeps : Making → Answer → Making → Type 0
Keeps m a n = (n.tree ≡ m.tree) × (n.received ≡ received_after m.received a)

abbrev pub with_work : Making → Work → Making
with_work m w = record m { work = w }

-- a lease that the call in hand gives back has left
abbrev pub handed_over : Making → Making
handed_over m = with_work m (handed m.work)

-- where an answer leads once that lease has left
abbrev pub AbsorbsBy : Making → Answer → Next Making CkptAnswer → Type 0
AbsorbsBy m a (Goes n) = Keeps m a n × Absorbs m.tree m.work a (Goes n.work)
AbsorbsBy m a (Ends n x) = Keeps m a n × Absorbs m.tree m.work a (Ends n.work x)
AbsorbsBy m a (Stops n t) = Keeps m a n × Absorbs m.tree m.work a (Stops n.work t)

-- where an answer leads
abbrev pub MakingLeads : Making → Answer → Next Making CkptAnswer → Type 0
MakingLeads m a next = AbsorbsBy (handed_over m) a next

-- once the ids are noted it went so
abbrev pub WentBy : Making → Answer → Making → Turn CkptAnswer → Type 0
WentBy m a n turn = (n ≡ with_work m n.work) × MovesTo (Absorbs m.tree m.work a) (claims_in m.work) n.work turn

-- at want of memory the step leaves the leases as they are
abbrev pub SameLeases : Making → Answer → Making → Type 0
SameLeases m a n = claims_in n.work ≡ claims_in m.work

-- and so does the call with its step, but for a lease that the call gives back
abbrev pub KeepsLeases : Making → Answer → Making → Type 0
KeepsLeases m a n = claims_in n.work ≡ claims_in (handed m.work)

-- a tree checkpoint, as a machine
abbrev pub making_machine : Machine Making CkptAnswer
making_machine = machine_by making_ask MakingLeads KeepsLeases
