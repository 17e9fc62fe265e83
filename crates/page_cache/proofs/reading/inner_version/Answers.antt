use Rattle.std.proofs.Common.{Ok, Err, sym, ap, ◌∙◌, arith}
use Rattle.node_codec.specs.Inner.{Inner, inner_format}
use Rattle.node_codec.proofs.InnerLemmas.{inner_exact}
use Rattle.page_cache.specs.Spelled.{inner_version}
use Rattle.page_cache.proofs.ReadingLemmas.{version_spelled, fault_found}
use Rattle.page_cache.proofs.reading.inner_version.Goals as goal

pub returns-in-Ok-clause-version : goal.returns-in-Ok-clause-version
unfolding inner_version
returns-in-Ok-clause-version c =
    ap Ok c.version.ensures.value ∙ sym (version_spelled inner_format inner_exact c.args.bytes.now (λ (n : Inner). n.version) c.in-Ok.view c.in-Ok.ensures.found)

pub returns-in-Err-clause-version : goal.returns-in-Err-clause-version
unfolding inner_version
returns-in-Err-clause-version c =
    ap Err c.in-Err.ensures.offset
    ∙ sym (fault_found inner_format inner_exact c.args.bytes.now (λ (n : Inner). n.version) (λ i. omega (arith, c.type_inv.bytes i)) c.in-Err.ensures.only)
