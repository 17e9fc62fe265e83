use Rattle.std.proofs.Common.{◌≡◌, ◌∙◌, ap, [], ◌∷◌, ◌++◌, None, List, ℕ}
use Rattle.std.specs.Int.{w64, to_be_bytes}
use Rattle.byte_format.specs.Format.{list_spelling}
use Rattle.change_codec.proofs.Appends.{append_more, append_five}
use Rattle.head_codec.specs.declared.lists.QueueCount.{QueueCount}
use Rattle.head_codec.specs.Counters.{counter}
use Rattle.head_codec.specs.Pending.{pending_entry}
use Rattle.head_codec.specs.Spelling.{phase, head_bytes}
use Rattle.head_codec.proofs.codec.add_head.Goals as goal

pub returns-clause-spelling : goal.returns-clause-spelling
unfolding head_bytes
returns-clause-spelling c =
    let h = c.args.of.now in
    let counters : List ℕ = list_spelling counter None h.counters in
    let entries : List ℕ = list_spelling pending_entry None h.pending in
    let fifth : c.add_counters.new.out.items ≡ c.add_phase.new.out.items ++ counters = c.in_ok-add_counters.ensures.spelling ∙ ap (λ (xs : List QueueCount). c.add_phase.new.out.items ++ list_spelling counter None xs) c.as_slice.ensures in
    let sixth : c.add_to.new.out.items ≡ c.add_counters.new.out.items ++ entries = c.in_ok-add_to.ensures.spelling in
    append_more c.args.out.now.items c.try_add.new.out.items c.add_to.new.out.items (72 ∷ 1 ∷ []) (to_be_bytes w64 h.epoch ++ (to_be_bytes w64 h.txn ++ (phase.spelling h.phase ++ (counters ++ entries))))
    c.in_ok-try_add.ensures
    (append_five c.try_add.new.out.items c.try_add_u64.new.out.items c.try_add_u64-2.new.out.items c.add_phase.new.out.items c.add_counters.new.out.items c.add_to.new.out.items
    (to_be_bytes w64 h.epoch) (to_be_bytes w64 h.txn) (phase.spelling h.phase) counters entries
    c.in_ok-try_add_u64.ensures c.in_ok-try_add_u64-2.ensures c.in_ok-add_phase.ensures fifth sixth)
