use Rattle.client_work.proofs.Stepped.{shows_by, steps_by}
use Rattle.client_work.proofs.work.Work.step_other.Goals as goal

pub returns-in-Reading-clause-shows : goal.returns-in-Reading-clause-shows
returns-in-Reading-clause-shows g c = shows_by _ _ _ _ _ _ _ _ _ _ _ _ c.in-Reading.is c.after_read.ensures (c.step_reading-left.ensures.reads c.args.buffer.now)

pub returns-in-Looking-clause-steps : goal.returns-in-Looking-clause-steps
returns-in-Looking-clause-steps g c =
    steps_by _ _ _ _ _ _ _ _ c.in-Looking.is c.after_look.ensures
    (c.args.buffer.now, c.args.cache.now, c.step_looking-left.new.cache, c.step_looking-left.result.1, c.step_looking-left.ensures)

pub returns-in-Looking-clause-shows : goal.returns-in-Looking-clause-shows
returns-in-Looking-clause-shows g c = shows_by _ _ _ _ _ _ _ _ _ _ _ _ c.in-Looking.is c.after_look.ensures c.step_looking-left.ensures
