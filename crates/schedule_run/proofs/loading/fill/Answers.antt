use Rattle.std.proofs.Common.{refl}
use Rattle.schedule_run.specs.Loading.{fill_went, fill_bad, fill_unread}
use Rattle.schedule_run.proofs.loading.fill.Goals as goal

pub returns-in-Ok-clause-went : goal.returns-in-Ok-clause-went
returns-in-Ok-clause-went g c = fill_went c.in-Ok.dump.trees c.in-Ok.ensures.found c.fill_from.ensures.went

pub returns-in-Err-BadLine-clause-went : goal.returns-in-Err-BadLine-clause-went
returns-in-Err-BadLine-clause-went g c =
    fill_bad c.in-Err-BadLine.number (c.in-Err-BadLine.ensures.bad c.in-Err-BadLine.number (rw c.in-Err-BadLine.field-0-is refl)) c.write_bad_line.ensures.told refl

pub returns-in-Err-Memory-clause-went : goal.returns-in-Err-Memory-clause-went
returns-in-Err-Memory-clause-went g c = fill_unread refl (record { output = refl; seen = refl })

pub returns-in-Ok-clause-bad_line : goal.returns-in-Ok-clause-bad_line
returns-in-Ok-clause-bad_line g c e = absurd (c.fill_from.ensures.good e)

pub returns-in-Err-BadLine-clause-bad_line : goal.returns-in-Err-BadLine-clause-bad_line
returns-in-Err-BadLine-clause-bad_line g c e =
    (c.in-Err-BadLine.ensures.bad c.in-Err-BadLine.number (rw c.in-Err-BadLine.field-0-is refl)).none
