use Rattle.std.proofs.Common.{◌≡◌, Some, false, sym, ap, ◌∙◌}
use Rattle.std.specs.Option.{option_copied}
use Rattle.db_base.specs.Change.{key_of}
use Rattle.byte_format.specs.Order.{bytes_below}
use Rattle.log_codec.specs.declared.record.PuItem.{PuItem}
use Rattle.leaf_edit.proofs.Parted.{Rises-behind, all-front, bounded, same-from, same-upto}
use Rattle.leaf_edit.proofs.held.held.Goals as goal

pub parted-requires-in-Some : goal.parted-requires-in-Some
parted-requires-in-Some c = Rises-behind c.args.run.now c.parted.result.0.now c.parted.result.1.now c.parted.ensures.whole c.requires

pub returns-in-None-clause-same : goal.returns-in-None-clause-same
returns-in-None-clause-same c =
    λ queue. same-from c.args.leaf.now queue c.low.result.now c.args.run.now c.parted.result.0.now c.parted.result.1.now c.low.ensures.low
    c.parted.ensures.whole c.parted.ensures.below

pub returns-in-Some-clause-held : goal.returns-in-Some-clause-held
returns-in-Some-clause-held c =
    let is_high : Some c.in-Some.high.now ≡ c.args.leaf.now.high = sym (ap option_copied c.in-Some.is) ∙ c.high.ensures.high in
    bounded c.args.leaf.now c.low.result.now c.in-Some.high.now c.parted-in-Some.result.0.now c.low.ensures.low is_high
    (all-front (λ (y : PuItem). bytes_below (key_of y.rec.change) c.low.result.now ≡ false) c.parted.result.1.now c.parted-in-Some.result.0.now
    c.parted-in-Some.result.1.now c.parted-in-Some.ensures.whole c.parted.ensures.from)
    c.parted-in-Some.ensures.below

pub returns-in-Some-clause-same : goal.returns-in-Some-clause-same
returns-in-Some-clause-same c =
    let is_high : Some c.in-Some.high.now ≡ c.args.leaf.now.high = sym (ap option_copied c.in-Some.is) ∙ c.high.ensures.high in
    λ queue. same-upto c.args.leaf.now queue c.in-Some.high.now c.parted.result.1.now c.parted-in-Some.result.0.now c.parted-in-Some.result.1.now
    is_high c.parted-in-Some.ensures.whole c.parted-in-Some.ensures.from
    ∙ same-from c.args.leaf.now queue c.low.result.now c.args.run.now c.parted.result.0.now c.parted.result.1.now c.low.ensures.low
    c.parted.ensures.whole c.parted.ensures.below
