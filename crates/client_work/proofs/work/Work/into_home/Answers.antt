use Rattle.client_work.proofs.Rests.{only_idle}
use Rattle.client_work.proofs.work.Work.into_home.Goals as goal

pub unreachable-requires : goal.unreachable-requires
unreachable-requires c = only_idle c.args.self c.requires c.in_default.not-Idle
