use Rattle.std.proofs.Common.{Ok, Err, sym, ap, ◌∙◌, arith}
use Rattle.node_codec.specs.Tree.{Tree, tree_format}
use Rattle.node_codec.proofs.TreeLemmas.{tree_exact}
use Rattle.page_cache.specs.Spelled.{root_version}
use Rattle.page_cache.proofs.ReadingLemmas.{version_spelled, fault_found}
use Rattle.page_cache.proofs.reading.root_version.Goals as goal

pub returns-in-Ok-clause-version : goal.returns-in-Ok-clause-version
unfolding root_version
returns-in-Ok-clause-version c =
    ap Ok c.version.ensures.value ∙ sym (version_spelled tree_format tree_exact c.args.bytes.now (λ (t : Tree). t.version) c.in-Ok.view c.in-Ok.ensures.found)

pub returns-in-Err-clause-version : goal.returns-in-Err-clause-version
unfolding root_version
returns-in-Err-clause-version c =
    ap Err c.in-Err.ensures.offset
    ∙ sym (fault_found tree_format tree_exact c.args.bytes.now (λ (t : Tree). t.version) (λ i. omega (arith, c.type_inv.bytes i)) c.in-Err.ensures.only)
