use Rattle.std.proofs.Common.{rules, tests, ◌∙◌}
use Rattle.std.specs.Str.{bytes_eq}
use Rattle.std.proofs.lemmas.Iterator.{YieldsList-from_slice}
use Rattle.std.proofs.lemmas.Iterator.Search.{find_from_yields_List}
use Rattle.reply_text.specs.Reply.{refusal_word}
use Rattle.reply_reading.specs.Kind.{refusals}
use Rattle.reply_reading.proofs.read.refusal_of.Goals as goal

pub returns : goal.returns
returns c =
    let found = find_from_yields_List (λ k. bytes_eq (refusal_word k) c.args.word.now) _ _ c.find.result c.find.ensures.ran (YieldsList-from_slice refusals cc) (λ x b q k. search (rules, tests)) in
    c.copied.ensures ∙ found
