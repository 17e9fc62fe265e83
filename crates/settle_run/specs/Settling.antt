-- A settling as a machine: what it knows, what it asks, and where each answer may lead.
use Rattle.std.specs.Prelude.{ℕ, ◌≡◌, ◌+◌, ◌==◌, ◌++◌, nat_lt, Bool, if◌then◌else◌, List, [], ◌∷◌, Option, Some, None}
use Rattle.std.specs.List.{list_any}
use Rattle.db_base.specs.Limits.{last_client, last_tree}
use Rattle.db_base.specs.declared.trouble.Trouble.TheVariants as trouble
use Rattle.leaf_view.specs.Lookup.{page_at}
use Rattle.cloud_trait.specs.declared.answer.Answer.{Answer}
use Rattle.cloud_trait.specs.declared.answer.Answer.TheVariants.{Failed}
use Rattle.cloud_trait.specs.declared.turn.Turn.{Turn}
use Rattle.cloud_trait.specs.declared.turn.Turn.TheVariants.{More, Ended, Stopped}
use Rattle.cloud_trait.specs.Ask.{Ask}
use Rattle.cloud_trait.specs.Machine.{Next, Goes, Ends, Stops, Took, Machine, machine_by}
use Rattle.recover_run.specs.Ids.{new_ids}
use Rattle.settle_run.specs.declared.part.Part.{Part}
use Rattle.settle_run.specs.declared.part.Part.TheVariants.{Client, Tree, Page}
use Rattle.settle_run.specs.declared.settled.Settled.{Settled}
use Rattle.settle_run.specs.Parts.{part_of_client, part_of_tree, part_of_page, part_again, part_ask, part_received, PartLeads, KeepsPart}

-- where a settling stands: the part at work; the ids that checkpoints received from the queue at work; the pages of the tree at work whose
-- own checkpoints began; and how many calls it made
pub record Settling : Type 0 where
  pub part : Part
  pub known : List ℕ
  pub visited : List ℕ
  pub calls : ℕ

-- a settling before its first call: client 1 is recovered first
abbrev pub new_settling : Settling
new_settling = record { part = part_of_client 1; known = []; visited = []; calls = 0 }

abbrev pub settle_ask : Settling → Ask
settle_ask s = part_ask s.part

-- ---- what comes next

abbrev pub Step : Type 0
Step = Next Settling Settled

-- a part begins, with a queue of which nothing is known
abbrev pub begins : Settling → Part → Step
begins s part = Goes (record s { part = part; known = [] })

-- behind the last client comes the first tree
abbrev pub behind_client : ℕ → Part
behind_client client = if nat_lt client last_client then part_of_client (client + 1) else part_of_tree 1

-- the checkpoints of a page begin
abbrev pub to_page : Settling → ℕ → ℕ → Step
to_page s tree page = begins (record s { visited = s.visited ++ page ∷ [] }) (part_of_page tree page)

-- the next tree begins, or all are settled
abbrev pub behind_tree : Settling → ℕ → Step
behind_tree s tree =
    if nat_lt tree last_tree then begins (record s { visited = [] }) (part_of_tree (tree + 1))
    else Ends s (record { calls = s.calls })

-- the page's own checkpoints began before
abbrev pub is_visited : Settling → ℕ → Bool
is_visited s page = list_any (λ q. q == page) s.visited

-- the right page is next, unless its own checkpoints were made; where there is none, the tree is done
abbrev pub goes_right : Settling → ℕ → Option ℕ → Step
goes_right s tree (Some page) = if is_visited s page then Stops s (trouble.Loop page) else to_page s tree page
goes_right s tree None = behind_tree s tree

-- behind a client the next one; behind a tree's queue its first page; behind a page its right page as its last checkpoint read it
abbrev pub goes_on : Settling → Part → Step
goes_on s (Client client m) = begins s (behind_client client)
goes_on s (Tree tree m) = to_page (record s { visited = [] }) tree 1
goes_on s (Page tree page m) = goes_right s tree (page_at m.home.right)

-- the same again where ids were received that are new, and else what comes next
abbrev pub passed_with : Settling → List ℕ → Step
passed_with s [] = goes_on s s.part
passed_with s (id ∷ ids) = Goes (record s { part = part_again s.part; known = s.known ++ id ∷ ids })

abbrev pub passed : Settling → Step
passed s = passed_with s (new_ids s.known (part_received s.part))

-- ---- where an answer leads

-- a failed deletion stops the settling
abbrev pub ended_by : Settling → ℕ → Step
ended_by s left = if left == 0 then passed s else Stops s trouble.Failed

-- one more call was made
abbrev pub counted : Settling → Settling
counted s = record s { calls = s.calls + 1 }

-- by what the step of the part came to, where the part stands behind it
abbrev pub after_turn : Settling → Turn ℕ → Step
after_turn s More = Goes (counted s)
after_turn s (Ended left) = ended_by (counted s) left
after_turn s (Stopped t) = Stops (counted s) t

abbrev pub with_part : Settling → Part → Settling
with_part s part = record s { part = part }

abbrev pub moved : Settling → Next Part ℕ → Step
moved s (Goes part) = after_turn (with_part s part) More
moved s (Ends part left) = after_turn (with_part s part) (Ended left)
moved s (Stops part t) = after_turn (with_part s part) (Stopped t)

-- the part at work takes its step, and the settling goes on by it
abbrev pub SettleLeads : Settling → Answer → Step → Type 0
SettleLeads s a next = (n : Next Part ℕ) × PartLeads s.part a n × (next ≡ moved s n)

-- ---- leases

abbrev pub SamePart : Settling → Answer → Settling → Type 0
SamePart s a n = n.part ≡ s.part

-- a part of the step leads so from this state, whatever was answered; at want of memory it keeps the part
abbrev pub TurnsBy : (Settling → Next Settling Settled → Type 0) → Settling → Settling → Turn Settled → Type 0
TurnsBy leads old new turn = Took (λ from _ next. leads from next) SamePart old Failed new turn

-- at want of memory the part at work stands as a step of its own leaves it, with its leases
abbrev pub KeepsSettling : Settling → Answer → Settling → Type 0
KeepsSettling s a n = (turn : Turn ℕ) × Took PartLeads KeepsPart s.part a n.part turn

-- a settling, as a machine
abbrev pub settling_machine : Machine Settling Settled
settling_machine = machine_by settle_ask SettleLeads KeepsSettling
