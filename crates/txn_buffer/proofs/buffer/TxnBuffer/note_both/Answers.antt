use Rattle.std.proofs.Common.{refl, ◌∙◌, arith}
use Rattle.txn_buffer.proofs.NotedLemmas.{both_count, both_room}
use Rattle.txn_buffer.proofs.buffer.TxnBuffer.note_both.Goals as goal

pub returns-then-len-new-gt-MAX_CHANGES-clause-many : goal.returns-then-len-new-gt-MAX_CHANGES-clause-many
returns-then-len-new-gt-MAX_CHANGES-clause-many c =
    let count =
    both_count c.args.self.now c.self.inside.changes.entries c.of_change-key.result c.of_change-other_key.result c.args.tree c.args.change c.args.other_tree c.args.other c.added.result
    c.added-2.result c.self.view_is c.requires c.of_change-key.ensures.tree c.of_change-key.ensures.key c.of_change-other_key.ensures.tree c.of_change-other_key.ensures.key
    c.added.ensures c.added-2.ensures in
    (λ e. omega (arith, count), λ h. refl)

pub returns-then-is_err-clause-many : goal.returns-then-is_err-clause-many
returns-then-is_err-clause-many c =
    let count =
    both_count c.args.self.now c.self.inside.changes.entries c.of_change-key.result c.of_change-other_key.result c.args.tree c.args.change c.args.other_tree c.args.other c.added.result
    c.added-2.result c.self.view_is c.requires c.of_change-key.ensures.tree c.of_change-key.ensures.key c.of_change-other_key.ensures.tree c.of_change-other_key.ensures.key
    c.added.ensures c.added-2.ensures in
    (λ e. absurd (cc (e)), λ h. absurd (omega (arith, count, h)))

pub store-requires-in-Ok-clause-room : goal.store-requires-in-Ok-clause-room
store-requires-in-Ok-clause-room c =
    let count =
    both_count c.args.self.now c.self.inside.changes.entries c.of_change-key.result c.of_change-other_key.result c.args.tree c.args.change c.args.other_tree c.args.other c.added.result
    c.added-2.result c.self.view_is c.requires c.of_change-key.ensures.tree c.of_change-key.ensures.key c.of_change-other_key.ensures.tree c.of_change-other_key.ensures.key
    c.added.ensures c.added-2.ensures in
    λ none.
    both_room c.args.self.now c.store.new.changes.entries c.args.tree c.args.change c.args.other_tree c.args.other c.requires
    (c.in-Ok.ensures.ok ∙ cc) (omega (arith, count)) (cc (none))
