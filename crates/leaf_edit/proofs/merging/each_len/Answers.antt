use Rattle.std.proofs.Common.{◌≡◌, ◌∷◌, sym, ap, ◌∙◌, arith}
use Rattle.leaf_view.specs.Shown.{shown}
use Rattle.leaf_edit.specs.Sizes.{entries_size}
use Rattle.leaf_edit.proofs.Stepping.{tail-of}
use Rattle.leaf_edit.proofs.merging.each_len.Goals as goal

pub loop-key-preserved : goal.loop-key-preserved
loop-key-preserved c =
    let split : c.loop-key.left ≡ shown (c.in-Some.key, c.in-Some.payload, c.in-Some.attr) ∷ c.in-Some.rest = sym c.again.ensures ∙ c.in-Some.ensures in
    record {
      records = tail-of _ _ _ split c.loop-key.invariant.records;
      sum = omega (arith, c.in_ok-sum.ensures, c.entry_len.ensures, ap entries_size split);
    }
