use Rattle.std.proofs.Common.{arith}
use Rattle.leaf_edit.proofs.HeadBytes.{fields-end}
use Rattle.leaf_edit.proofs.spell.add_fields.Goals as goal

pub returns : goal.returns
returns c = record {
  items = fields-end c.args.version _ _ _ _ _ _ _ _ _ _ c.add_u8.ensures.items c.add_u8-2.ensures.items c.add_u64.ensures.items
      c.add_text8.ensures.items c.add_u64-2.ensures.items c.add_high.ensures.items;
  capacity = omega arith;
}
