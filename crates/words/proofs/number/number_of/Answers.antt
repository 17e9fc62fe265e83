use Rattle.std.proofs.Common.{rules, tests}
use Rattle.std.proofs.Common.{sym}
use Rattle.std.specs.Str.{all_ascii_digits}
use Rattle.words.specs.Word.{number_of, has_no_leading_zero}
use Rattle.words.proofs.Numerals.{both, number_of-parsed, IsUtf8-digits}
use Rattle.words.proofs.number.number_of.Goals as goal

pub returns-then-not-is_numeral : goal.returns-then-not-is_numeral
unfolding number_of
returns-then-not-is_numeral c = search (rules, tests)

pub returns-in-Ok : goal.returns-in-Ok
returns-in-Ok c =
    let word = c.args.word.now in
    let text = c.in-Ok.ensures.cases.0 in
    rw c.ok.ensures.value (number_of-parsed word c.parse.result (rw text at c.parse.ensures.value.0) (sym c.if-not-is_numeral.ensures))

pub returns-in-Err : goal.returns-in-Err
returns-in-Err c =
    let parts = both (has_no_leading_zero c.args.word.now) (all_ascii_digits c.args.word.now) (sym c.if-not-is_numeral.ensures) in
    absurd (c.in-Err.ensures.cases.0 (IsUtf8-digits c.args.word.now parts.1))
