use Rattle.std.proofs.Common.{sym, subst}
use Rattle.std.specs.Result.{IsOk}
use Rattle.db_base.specs.Ids.{IsTree}
use Rattle.folder_names.proofs.Spelled.{no_tree}
use Rattle.folder_names.proofs.objects.tree_in.Goals as goal

pub returns-in-Err-new-clause-none : goal.returns-in-Err-new-clause-none
returns-in-Err-new-clause-none c = λ _ n is e.
    no_tree c.args.word.now c.in-Ok.number n c.in-Ok.ensures.byte
    (λ it. let no_ok = subst IsOk c.in-Err-new.is (c.new.ensures.valid.1 (subst IsTree (sym c.from.ensures) it)) in absurd cc) c.in-Ok.ensures.ok is e
