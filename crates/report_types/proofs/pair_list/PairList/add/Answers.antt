use Rattle.std.proofs.Common.{sym}
use Rattle.report_types.proofs.Laid.{laid_after, pairs_after}
use Rattle.report_types.proofs.pair_list.PairList.add.Goals as goal

pub invariant_of-self : goal.invariant_of-self
invariant_of-self c =
    laid_after c.add_record.result c.self.inside.bytes.items _ c.args.key.now c.args.payload.now c.self.inside.lengths.items _ c.add_record.ensures.bytes c.add_record.ensures.lengths c.add_record.ensures.err c.self.invariant

pub returns-clause-ok : goal.returns-clause-ok
returns-clause-ok c =
    rw (sym c.self.view_is)
    (pairs_after c.add_record.result c.self.inside.bytes.items _ c.args.key.now c.args.payload.now c.self.inside.lengths.items _ c.add_record.ensures.bytes c.add_record.ensures.lengths c.self.invariant)
