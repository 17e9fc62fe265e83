use Rattle.std.proofs.Common.{◌<◌, ◌∙◌, arith}
use Rattle.head_codec.proofs.Front.{front_bytes}
use Rattle.head_codec.proofs.counters.add_counter.Goals as goal

pub returns-clause-spelling : goal.returns-clause-spelling
returns-clause-spelling c =
    let item = c.args.item.now in
    let small : item.tree < 256 = omega (arith, c.get-tree.ensures.range.most) in
    c.in_ok-try_add.ensures
    ∙ front_bytes c.args.out.now.items c.get-tree.result item.tree item.page item.number c.bytes_of.result c.bytes_of-2.result c.get-tree.ensures.number small c.bytes_of.ensures.bytes c.bytes_of-2.ensures.bytes
