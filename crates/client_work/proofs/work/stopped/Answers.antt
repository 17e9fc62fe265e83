use Rattle.client_work.proofs.Stops.{stays_idle}
use Rattle.client_work.proofs.work.stopped.Goals as goal

pub returns-in_default : goal.returns-in_default
returns-in_default c = stays_idle c.args.trouble.now c.args.home c.in_default.not-Memory
