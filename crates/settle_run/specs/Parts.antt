-- A part of a settling: the recovery of a client, or a checkpoint of a queue.
use Rattle.std.specs.Prelude.{ℕ, ◌≡◌, List, [], None}
use Rattle.log_codec.specs.declared.record.PuItem.{PuItem}
use Rattle.cloud_trait.specs.declared.answer.Answer.{Answer}
use Rattle.cloud_trait.specs.declared.turn.CkptAnswer.{CkptAnswer}
use Rattle.cloud_trait.specs.declared.turn.Turn.{Turn}
use Rattle.cloud_trait.specs.declared.turn.Turn.TheVariants.{More, Ended, Stopped}
use Rattle.cloud_trait.specs.Ask.{Ask}
use Rattle.cloud_trait.specs.Machine.{Next, Goes, Ends, Stops, LeadsBy, Deed, Came, Machine, machine_by}
use Rattle.recover_run.specs.declared.stage.Aim.TheVariants as aim
use Rattle.recover_run.specs.declared.stage.RecoverAnswer.{RecoverAnswer}
use Rattle.recover_run.specs.Recovery.{Recovery, new_recovery, recovery_ask, recovery_next, KeepsLeases as KeepsRecovery, IsSound}
use Rattle.tree_ckpt.specs.Work.{applying_in}
use Rattle.tree_ckpt.specs.Making.{Making, new_making, making_ask, MakingLeads, KeepsLeases as KeepsMaking}
use Rattle.page_ckpt.specs.Paging.{Paging, new_paging, paging_ask, PagingLeads, KeepsLeases as KeepsPaging}
use Rattle.settle_run.specs.declared.part.Part.{Part}
use Rattle.settle_run.specs.declared.part.Part.TheVariants.{Client, Tree, Page}

-- ---- a part before its first call

abbrev pub part_of_client : ℕ → Part
part_of_client client = Client client (new_recovery client aim.Settling None)

abbrev pub part_of_tree : ℕ → Part
part_of_tree tree = Tree tree (new_making tree)

abbrev pub part_of_page : ℕ → ℕ → Part
part_of_page tree page = Page tree page (new_paging tree page)

-- the same once more
abbrev pub part_again : Part → Part
part_again (Client client m) = part_of_client client
part_again (Tree tree m) = part_of_tree tree
part_again (Page tree page m) = part_of_page tree page

-- ---- what is seen of it

-- the call in hand
abbrev pub part_ask : Part → Ask
part_ask (Client client m) = recovery_ask m
part_ask (Tree tree m) = making_ask m
part_ask (Page tree page m) = paging_ask m

-- the items that the put in hand of a checkpoint applies
abbrev pub part_applying : Part → List PuItem
part_applying (Client client m) = []
part_applying (Tree tree m) = applying_in m.work
part_applying (Page tree page m) = m.applying

-- what a checkpoint received
abbrev pub part_received : Part → List ℕ
part_received (Client client m) = []
part_received (Tree tree m) = m.received
part_received (Page tree page m) = m.received

-- a recovery has the bytes in hand that it is to put or send
abbrev pub IsSoundPart : Part → Type 0
IsSoundPart (Client client m) = IsSound m
IsSoundPart (Tree tree m) = Unit {0}
IsSoundPart (Page tree page m) = Unit {0}

-- ---- its steps

-- a turn, at an end with the number of deletions of a checkpoint that failed; a recovery counts none
abbrev pub recovered_turn : Turn RecoverAnswer → Turn ℕ
recovered_turn More = More
recovered_turn (Ended answer) = Ended 0
recovered_turn (Stopped t) = Stopped t

abbrev pub left_turn : Turn CkptAnswer → Turn ℕ
left_turn More = More
left_turn (Ended answer) = Ended answer.left
left_turn (Stopped t) = Stopped t

-- and so of where a step leads
abbrev pub recovers : ℕ → Next Recovery RecoverAnswer → Next Part ℕ
recovers client (Goes m) = Goes (Client client m)
recovers client (Ends m answer) = Ends (Client client m) 0
recovers client (Stops m t) = Stops (Client client m) t

abbrev pub makes : ℕ → Next Making CkptAnswer → Next Part ℕ
makes tree (Goes m) = Goes (Tree tree m)
makes tree (Ends m answer) = Ends (Tree tree m) answer.left
makes tree (Stops m t) = Stops (Tree tree m) t

abbrev pub pages : ℕ → ℕ → Next Paging CkptAnswer → Next Part ℕ
pages tree page (Goes m) = Goes (Page tree page m)
pages tree page (Ends m answer) = Ends (Page tree page m) answer.left
pages tree page (Stops m t) = Stops (Page tree page m) t

-- a part takes the step of its machine
abbrev pub PartLeads : Part → Answer → Next Part ℕ → Type 0
PartLeads (Client client m) a next = (n : Next Recovery RecoverAnswer) × LeadsBy recovery_next m a n × (next ≡ recovers client n)
PartLeads (Tree tree m) a next = (n : Next Making CkptAnswer) × MakingLeads m a n × (next ≡ makes tree n)
PartLeads (Page tree page m) a next = (n : Next Paging CkptAnswer) × PagingLeads m a n × (next ≡ pages tree page n)

-- at want of memory it keeps its leases as its machine does
abbrev pub KeepsPart : Part → Answer → Part → Type 0
KeepsPart (Client client m) a (Client other n) = (other ≡ client) × KeepsRecovery m a n
KeepsPart (Tree tree m) a (Tree other n) = (other ≡ tree) × KeepsMaking m a n
KeepsPart (Page tree page m) a (Page other right n) = (other ≡ tree) × (right ≡ page) × KeepsPaging m a n
KeepsPart old a new = ⊥

-- a part, as a machine
abbrev pub part_machine : Machine Part ℕ
part_machine = machine_by part_ask PartLeads KeepsPart

-- the part came here from its own first call on by these calls, the newest first
abbrev pub PartWent : List Deed → Part → Type 0
PartWent h (Client client m) = Came recovery_ask (LeadsBy recovery_next) (new_recovery client aim.Settling None) h m
PartWent h (Tree tree m) = Came making_ask MakingLeads (new_making tree) h m
PartWent h (Page tree page m) = Came paging_ask PagingLeads (new_paging tree page) h m
