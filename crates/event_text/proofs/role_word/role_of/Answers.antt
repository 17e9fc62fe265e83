use Rattle.std.proofs.Common.{rules, tests, ◌∙◌}
use Rattle.std.specs.Str.{bytes_eq}
use Rattle.std.proofs.lemmas.Iterator.{YieldsList-from_slice}
use Rattle.std.proofs.lemmas.Iterator.Search.{find_from_yields_List}
use Rattle.event_text.specs.RoleWord.{role_text, roles}
use Rattle.event_text.proofs.role_word.role_of.Goals as goal

pub returns : goal.returns
returns c =
    let found = find_from_yields_List (λ role. bytes_eq (role_text role) c.args.word.now) _ _ c.find.result c.find.ensures.ran (YieldsList-from_slice roles cc) (λ x b q k. search (rules, tests)) in
    c.copied.ensures ∙ found
