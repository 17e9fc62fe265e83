use Rattle.event_text.proofs.EventLaws.{shell_found, shell_only}
use Rattle.event_text.proofs.event.Event.read_shell.Goals as goal

pub returns-in-Some-clause-found : goal.returns-in-Some-clause-found
returns-in-Some-clause-found c = shell_found c.args.line.now c.in-Some.text.now _ c.in-Some.ensures.some (rw c.of.ensures at c.shell_event_of_words.ensures)

pub returns-in-Some-clause-only : goal.returns-in-Some-clause-only
returns-in-Some-clause-only c = shell_only c.args.line.now c.in-Some.text.now _ c.in-Some.ensures.some (rw c.of.ensures at c.shell_event_of_words.ensures)
