use Rattle.std.proofs.Common.{◌∙◌, sym, ap, arith}
use Rattle.std.proofs.lemmas.Bool.Decides.{nat_tests}
use Rattle.folder_names.specs.Names.{file_text}
use Rattle.folder_names.proofs.Spelled.{one_tree}
use Rattle.folder_names.proofs.objects.page_in.Goals as goal

pub returns-else-get-clause-none : goal.returns-else-get-clause-none
returns-else-get-clause-none c = λ _ page is e.
    let same = one_tree c.in-Page.of c.in-Page.page c.args.tree page c.get.ensures.range is.0 (ap file_text (sym c.in-Page.is) ∙ e) in
    let one = c.get.ensures.number in
    let other = c.get-in-Page.ensures.number in
    let apart = c.if-get.false in
    absurd (grind (arith, nat_tests))
