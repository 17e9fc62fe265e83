use Rattle.std.proofs.Common.{rules, tests, ◌∙◌}
use Rattle.std.specs.Str.{bytes_eq}
use Rattle.std.proofs.lemmas.Iterator.{YieldsList-from_slice}
use Rattle.std.proofs.lemmas.Iterator.Search.{find_from_yields_List}
use Rattle.event_text.specs.Keyword.{keyword_text, keywords}
use Rattle.event_text.proofs.keyword.Keyword.of.Goals as goal

pub returns : goal.returns
returns c =
    let found = find_from_yields_List (λ keyword. bytes_eq (keyword_text keyword) c.args.word.now) _ _ c.find.result c.find.ensures.ran (YieldsList-from_slice keywords cc) (λ x b q k. search (rules, tests)) in
    c.copied.ensures ∙ found
