use Rattle.db_base.proofs.ChangeLaws.{act-act}
use Rattle.db_base.proofs.change.net_acts_as_both.Goals as goal

pub returns : goal.returns
returns c = act-act
