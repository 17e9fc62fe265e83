use Rattle.std.proofs.Common.{◌∙◌, ◌++◌, sym, ap, map, length, List, ℕ}
use Rattle.std.specs.Prelude.{codes}
use Rattle.std.specs.Fmt.{decimal}
use Rattle.reply_text.specs.Reply.{behind_each, pair_word}
use Rattle.reply_text.proofs.Texts.{text_of_scan}
use Rattle.reply_text.proofs.write.scan_text.Goals as goal

pub returns-clause-ok : goal.returns-clause-ok
returns-clause-ok c =
    let pairs = c.args.pairs.now in
    (rw c.pairs.ensures at c.in_ok-add_pair_words.ensures)
    ∙ ap (λ (t : List ℕ). t ++ behind_each 32 (map pair_word pairs)) (rw c.len-count.ensures at c.in_ok-text.ensures.ok)
    ∙ sym (text_of_scan (codes "scan") (decimal (length pairs)) (map pair_word pairs))
