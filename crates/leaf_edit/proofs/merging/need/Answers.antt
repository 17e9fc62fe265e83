use Rattle.std.proofs.Common.{refl, List, length, sym, subst, arith, ap}
use Rattle.leaf_view.specs.Leaf.{Entry}
use Rattle.log_codec.specs.declared.record.PuItem.{PuItem}
use Rattle.leaf_edit.specs.Applied.{applied}
use Rattle.leaf_edit.specs.Edited.{edited_by}
use Rattle.leaf_edit.specs.Merging.{AreChanges, AreRecords}
use Rattle.leaf_edit.specs.Sizes.{entries_size, high_size}
use Rattle.leaf_edit.proofs.InOrder.{Rises-sorted, lacked-changes}
use Rattle.leaf_edit.proofs.Sizes.{no-size, same-size, leaf-size}
use Rattle.leaf_edit.proofs.Whole.{records-are}
use Rattle.leaf_edit.proofs.merging.need.Goals as goal

pub records_len-requires-clause-records : goal.records_len-requires-clause-records
records_len-requires-clause-records c = subst AreRecords (sym c.records.ensures.records) (records-are c.args.leaf.now c.records.ensures.formed)

pub records_len-requires-clause-changes : goal.records_len-requires-clause-changes
records_len-requires-clause-changes c = subst AreChanges (sym c.of.ensures) (lacked-changes c.args.leaf.now c.args.queue c.args.run.now c.requires)

pub returns-in_err-table : goal.returns-in_err-table
returns-in_err-table c =
    no-size _ _ c.from_residual.ensures (omega (
      arith,
      c.in_err-table.ensures,
      leaf-size (applied c.args.leaf.now c.args.queue c.args.run.now) refl,
      ap (λ low. length low) c.low.ensures.low,
      ap high_size c.high.ensures.high,
    ))

pub returns : goal.returns
returns c =
    same-size _ _ _ c.records_len.ensures (omega (
      arith,
      c.in_ok-table.ensures,
      leaf-size (applied c.args.leaf.now c.args.queue c.args.run.now) refl,
      ap (λ low. length low) c.low.ensures.low,
      ap high_size c.high.ensures.high,
      ap (λ (rs : List Entry). entries_size (edited_by rs c.of.result)) c.records.ensures.records,
      ap (λ (xs : List PuItem). entries_size (edited_by c.args.leaf.now.records xs)) c.of.ensures,
    ))

pub of-requires-clause-rise : goal.of-requires-clause-rise
of-requires-clause-rise c = Rises-sorted c.args.run.now c.requires.sorted
