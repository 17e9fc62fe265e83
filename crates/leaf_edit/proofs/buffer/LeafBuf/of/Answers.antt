use Rattle.std.proofs.Common.{List, length, sym, ap, ◌∙◌}
use Rattle.leaf_view.specs.Leaf.{Entry, Leaf}
use Rattle.leaf_edit.specs.Buffer.{leaf_in}
use Rattle.leaf_edit.proofs.Spelled.{leaf_in_is}
use Rattle.leaf_edit.proofs.buffer.LeafBuf.of.Goals as goal

pub known-requires : goal.known-requires
known-requires c = (leaf_in c.args.bytes.items, rw c.deref.ensures.value c.requires.spelled)

pub invariant_of-result : goal.invariant_of-result
invariant_of-result c =
    let is = rw c.deref.ensures.value at c.known.ensures in
    record {
      written = c.requires;
      counted = c.len-count.ensures ∙ (ap (λ (es : List Entry). length es) c.records.ensures.records
          ∙ sym (ap (λ (l : Leaf). length l.records) (leaf_in_is c.args.bytes.items c.known.result is)));
    }
