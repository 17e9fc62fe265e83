use Rattle.std.proofs.Common.{◌≡◌, List, ℕ, [], ◌∷◌, ap, ◌∙◌, refl, ◌&&◌, rules, tests}
use Rattle.std.specs.Str.{all_ascii_digits}
use Rattle.std.specs.Char.{is_ascii_digit}
use Rattle.std.specs.List.{list_all}
use Rattle.std.proofs.lemmas.Iterator.{YieldsList-from_slice}
use Rattle.std.proofs.lemmas.Iterator.Search.{all_from_yields_List}
use Rattle.words.proofs.number.are_digits.Goals as goal

same : (word : List ℕ) → list_all is_ascii_digit word ≡ all_ascii_digits word
same [] = refl
same (b ∷ word) = ap (λ t. is_ascii_digit b && t) (same word)

pub returns : goal.returns
returns c =
    let xs = c.args.word.now in
    all_from_yields_List is_ascii_digit _ _ _ c.all.ensures.ran (YieldsList-from_slice xs cc) (λ x b q k. search (rules, tests)) ∙ same xs
