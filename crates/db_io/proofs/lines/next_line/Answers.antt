use Rattle.std.proofs.Common.{◌∙◌, arith}
use Rattle.db_io.proofs.LineLemmas.{take_line, drop_line, length-text, length-first_line, lines_of-first}
use Rattle.db_io.proofs.lines.next_line.Goals as goal

pub split_at-requires : goal.split_at-requires
split_at-requires c = omega (arith, c.line_len.ensures, length-text c.args.text.now)

pub returns-clause-line : goal.returns-clause-line
returns-clause-line c = c.split_at.ensures.front ∙ take_line c.args.text.now c.line_len.result c.line_len.ensures

pub returns-clause-rest : goal.returns-clause-rest
returns-clause-rest c = c.split_at.ensures.back ∙ drop_line c.args.text.now c.line_len.result c.line_len.ensures

pub returns-clause-lines : goal.returns-clause-lines
returns-clause-lines c =
    rw (
      c.split_at.ensures.front,
      c.split_at.ensures.back,
      take_line c.args.text.now c.line_len.result c.line_len.ensures,
      drop_line c.args.text.now c.line_len.result c.line_len.ensures,
    ) (lines_of-first c.args.text.now c.requires)

pub returns-clause-shorter : goal.returns-clause-shorter
returns-clause-shorter c =
    omega (arith, c.split_at.ensures.back_len, c.line_len.ensures, length-text c.args.text.now, length-first_line c.args.text.now c.requires)
