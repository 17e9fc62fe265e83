use Rattle.std.proofs.Common.{◌∙◌, sym, ap, length, List}
use Rattle.db_base.specs.declared.pair.Pair.{Pair}
use Rattle.report_types.proofs.Laid.{length_of_pairs}
use Rattle.report_types.proofs.pair_list.PairList.len.Goals as goal

pub returns : goal.returns
returns c =
    ap length c.as_slice.ensures.value ∙ (sym (length_of_pairs c.self.inside.bytes.items c.self.inside.lengths.items) ∙ ap (λ (t : List Pair). length t) c.self.view_is)
