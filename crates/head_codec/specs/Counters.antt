-- The format of a head's counters, and their order.
use Rattle.std.specs.Prelude.{ℕ, ◌≤◌, ◌<◌, ◌==◌, nat_lt, Bool, true, not, ◌||◌, ◌⊎◌, ◌≡◌, List, [], ◌∷◌, Option, Some, None}
use Rattle.std.specs.Int.{w8}
use Rattle.byte_format.specs.Format.{Format, number, ruled, ◌then◌, seen_as, list_of}
use Rattle.change_codec.specs.Number.{u64_from}
use Rattle.head_codec.specs.declared.lists.QueueCount.{QueueCount}

-- the least tree behind a counter
abbrev pub least_tree : Option QueueCount → ℕ
least_tree None = 1
least_tree (Some before) = before.tree

-- in one tree the pages ascend
abbrev pub page_rises : Option QueueCount → ℕ → ℕ → Bool
page_rises None tree page = true
page_rises (Some before) tree page = not (before.tree == tree) || nat_lt before.page page

-- the tree, not below the one before; the page, above the one before in the same tree; the number
abbrev pub counter_fields : Option QueueCount → Format (ℕ × (ℕ × ℕ))
counter_fields before = number w8 (least_tree before) 16 then λ tree. ruled (page_rises before tree) (u64_from 0) then λ page. u64_from 1

abbrev pub counter_of_fields : ℕ × (ℕ × ℕ) → QueueCount
counter_of_fields (tree, (page, number)) = record { tree = tree; page = page; number = number }

abbrev pub fields_of_counter : QueueCount → ℕ × (ℕ × ℕ)
fields_of_counter c = (c.tree, (c.page, c.number))

-- a counter behind the one before it
abbrev pub counter : Option QueueCount → Format QueueCount
counter before = seen_as counter_of_fields fields_of_counter (counter_fields before)

-- the counters of a head
abbrev pub counters : Format (List QueueCount)
counters = list_of true counter None

-- a counter stands behind the one before it, in a later tree or on a later page of the same tree
abbrev pub IsBehind : Option QueueCount → QueueCount → Type 0
IsBehind None c = Unit {0}
IsBehind (Some before) c = (before.tree < c.tree) ⊎ ((before.tree ≡ c.tree) × (before.page < c.page))

-- counters ascend strictly by tree, then page, and their numbers count from 1
abbrev pub AreCounters : Option QueueCount → List QueueCount → Type 0
AreCounters before [] = Unit {0}
AreCounters before (c ∷ cs) = IsBehind before c × (1 ≤ c.number) × AreCounters (Some c) cs
