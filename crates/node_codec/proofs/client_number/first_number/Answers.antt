use Rattle.std.proofs.Common.{arith}
use Rattle.node_codec.specs.Node.{plain_number}
use Rattle.node_codec.proofs.PlainLemmas.{first_of, none_of, never_stops, never_stops_in_item}
use Rattle.node_codec.proofs.NodeLemmas.{plain_number_exact}
use Rattle.node_codec.proofs.client_number.first_number.Goals as goal

pub returns-in_default : goal.returns-in_default
returns-in_default c = absurd (never_stops plain_number c.args.bytes.now c.in_default.field-0.left c.requires c.in_default.ensures)

pub returns-then-not-more : goal.returns-then-not-more
returns-then-not-more c = none_of plain_number c.args.bytes.now c.in-Ok.behind.now c.in-Ok.more c.in-Ok.ensures c.if-not-more.true

pub returns-in-Ok-number_from : goal.returns-in-Ok-number_from
returns-in-Ok-number_from c =
    first_of plain_number plain_number_exact c.args.bytes.now c.in-Ok.behind.now c.in-Ok.more c.in-Ok-number_from.first c.in-Ok-number_from.rest.now (λ i. omega (arith, c.type_inv.bytes i)) c.requires c.in-Ok.ensures c.if-not-more.false c.in-Ok-number_from.ensures

pub returns-in-Err : goal.returns-in-Err
returns-in-Err c = absurd (never_stops_in_item plain_number c.args.bytes.now c.in-Ok.behind.now c.in-Ok.more c.in-Err._stop.left c.requires c.in-Ok.ensures c.if-not-more.false c.in-Err.ensures)
