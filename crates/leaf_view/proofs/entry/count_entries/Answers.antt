use Rattle.std.proofs.Common.{arith}
use Rattle.byte_format.proofs.Plain.{length-items_in}
use Rattle.leaf_view.specs.Leaf.{plain_entry}
use Rattle.leaf_view.proofs.Exact.{plain_entry_exact}
use Rattle.leaf_view.proofs.entry.count_entries.Goals as goal

pub loop-rest-init : goal.loop-rest-init
loop-rest-init c =
    record {
      listed = c.requires;
      counted = omega arith;
      small = length-items_in (plain_entry c.args.format) (plain_entry_exact c.args.format) c.args.bytes.now (λ i. omega (arith, c.type_inv.bytes i)) c.requires;
    }
