use Rattle.std.proofs.Common.{refl}
use Rattle.client_work.proofs.Stepped.{reads_by}
use Rattle.client_work.proofs.work.WorkHand.begin.Goals as goal

pub returns-in-Read : goal.returns-in-Read
returns-in-Read c =
    reads_by c.args.op _ _ _ _ _ _ _ _ _ _ _ _ _ c.in-Read.is c.into_home-in-Read.ensures refl c.new-read.ensures c.after_read.ensures c.begin_reading-left.ensures
