use Rattle.std.proofs.Common.{sym, ◌∙◌, arith}
use Rattle.byte_format.proofs.Steps.{ok_is, never_err}
use Rattle.byte_format.proofs.Wholes.{whole_found, whole_only}
use Rattle.node_codec.specs.Inner.{inner_format}
use Rattle.node_codec.proofs.InnerLemmas.{inner_exact}
use Rattle.node_codec.proofs.inner_view.InnerView.read.Goals as goal

pub returns-in-Ok-clause-found : goal.returns-in-Ok-clause-found
returns-in-Ok-clause-found c = whole_found inner_format inner_exact c.args.bytes.now c.in-Ok.view (λ i. omega (arith, c.type_inv.bytes i)) c.in-Ok.ensures

pub returns-in-Ok-clause-only : goal.returns-in-Ok-clause-only
returns-in-Ok-clause-only c = λ t s. ok_is c.in-Ok.view t (sym c.in-Ok.ensures ∙ whole_only inner_format inner_exact c.args.bytes.now t s)

pub returns-in-Err-clause-only : goal.returns-in-Err-clause-only
returns-in-Err-clause-only c = λ t s. never_err t c.in-Err.stop.left (sym (whole_only inner_format inner_exact c.args.bytes.now t s) ∙ c.in-Err.ensures)
