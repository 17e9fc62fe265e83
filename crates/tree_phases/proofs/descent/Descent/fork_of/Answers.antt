use Rattle.std.proofs.Common.{Result, sym, subst}
use Rattle.db_base.specs.declared.trouble.Trouble.{Trouble}
use Rattle.node_codec.specs.Inner.{Inner}
use Rattle.tree_phases.specs.Descent.{forked_by}
use Rattle.tree_phases.specs.Going.{Finds}
use Rattle.tree_phases.proofs.descent.Descent.fork_of.Goals as goal

pub returns : goal.returns
returns c =
    let P : Result Inner Trouble → Type 0 = λ read. Finds c.fork.result (forked_by c.args.self.now read) in
    subst P (sym (c.view.ensures c.args.self.now.chart.tree c.args.self.now.page)) c.fork.ensures
