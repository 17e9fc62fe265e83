use Rattle.std.proofs.Common.{Ok, Err, sym, ap, ◌∙◌, arith}
use Rattle.leaf_view.specs.Leaf.{Leaf, leaf}
use Rattle.leaf_view.proofs.Exact.{leaf_exact}
use Rattle.page_cache.specs.Spelled.{leaf_version}
use Rattle.page_cache.proofs.ReadingLemmas.{version_spelled, fault_found}
use Rattle.page_cache.proofs.reading.leaf_version.Goals as goal

pub returns-in-Ok-clause-version : goal.returns-in-Ok-clause-version
unfolding leaf_version
returns-in-Ok-clause-version c =
    ap Ok c.version.ensures.version ∙ sym (version_spelled leaf leaf_exact c.args.bytes.now (λ (l : Leaf). l.version) c.in-Ok.view c.in-Ok.ensures.found)

pub returns-in-Err-clause-version : goal.returns-in-Err-clause-version
unfolding leaf_version
returns-in-Err-clause-version c =
    ap Err c.in-Err.ensures.offset
    ∙ sym (fault_found leaf leaf_exact c.args.bytes.now (λ (l : Leaf). l.version) (λ i. omega (arith, c.type_inv.bytes i)) (λ l s. let bad = c.in-Err.ensures.only l s in cc))
