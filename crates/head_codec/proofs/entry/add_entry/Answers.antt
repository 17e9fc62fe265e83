use Rattle.std.proofs.Common.{◌<◌, ◌∷◌, ◌++◌, ◌∙◌, arith}
use Rattle.std.specs.Int.{w8, w64, to_be_bytes}
use Rattle.change_codec.specs.Change.{change_bytes}
use Rattle.change_codec.proofs.Appends.{append_more}
use Rattle.head_codec.proofs.Front.{front_bytes}
use Rattle.head_codec.proofs.entry.add_entry.Goals as goal

pub returns-clause-spelling : goal.returns-clause-spelling
returns-clause-spelling c =
    let entry = c.args.entry.now in
    let old = c.args.out.now.items in
    let small : entry.tree < 256 = omega (arith, c.get-tree.ensures.range.most) in
    append_more old c.try_add.new.out.items c.add_change.new.out.items
    (1 ∷ (to_be_bytes w8 entry.tree ++ (to_be_bytes w64 entry.page ++ to_be_bytes w64 entry.number))) (change_bytes entry.change)
    (c.in_ok-try_add.ensures ∙ front_bytes old c.get-tree.result entry.tree entry.page entry.number c.bytes_of.result c.bytes_of-2.result c.get-tree.ensures.number small c.bytes_of.ensures.bytes c.bytes_of-2.ensures.bytes)
    c.in_ok-add_change.ensures.spelling
