use Rattle.std.proofs.Common.{sym}
use Rattle.words.proofs.Splitting.{end_at-parts_of}
use Rattle.words.proofs.parts.Parts.end.Goals as goal

pub returns-in-Some-clause-value : goal.returns-in-Some-clause-value
returns-in-Some-clause-value c = rw (sym c.self.view_is, c.in-Some.is) (end_at-parts_of c.self.inside.separator c.in-Some.field-0.now)
