use Rattle.std.proofs.Common.{refl}
use Rattle.std.specs.Option.{option_copied}
use Rattle.leaf_view.proofs.Exact.{record_exact}
use Rattle.leaf_view.proofs.ascent.skip_records.Goals as goal

pub skip_list-requires : goal.skip_list-requires
skip_list-requires c κs = ((refl, tt), record_exact c.args.rules.now.format c.args.rules.now.low.now (option_copied c.args.rules.now.high))
