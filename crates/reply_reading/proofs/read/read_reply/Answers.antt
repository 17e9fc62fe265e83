use Rattle.reply_reading.proofs.ReplyLaws.{read_found, read_only}
use Rattle.reply_reading.proofs.read.read_reply.Goals as goal

pub returns-clause-found : goal.returns-clause-found
returns-clause-found c = read_found c.args.text.now _ (rw c.of.ensures at c.reply_of_lines.ensures)

pub returns-clause-only : goal.returns-clause-only
returns-clause-only c = read_only c.args.text.now _ (rw c.of.ensures at c.reply_of_lines.ensures)
