use Rattle.db_io.proofs.LineLemmas.{line_to, line_whole}
use Rattle.db_io.proofs.lines.line_len.Goals as goal

pub returns-in-Some : goal.returns-in-Some
returns-in-Some c = line_to c.args.text.now c.in-Some.index c.in-Some.ensures

pub returns-in-None : goal.returns-in-None
returns-in-None c = line_whole c.args.text.now c.in-None.ensures
