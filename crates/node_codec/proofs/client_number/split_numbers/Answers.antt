use Rattle.std.proofs.Common.{List, [], Ok, sym, ap, ◌∙◌, arith}
use Rattle.node_codec.specs.Node.{plain_number}
use Rattle.node_codec.specs.Plain.{items_of}
use Rattle.node_codec.proofs.PlainLemmas.{rest_no_longer, list_alone, items_of-read, whole_list_read}
use Rattle.node_codec.proofs.NodeLemmas.{plain_number_exact}
use Rattle.node_codec.proofs.client_number.split_numbers.Goals as goal

pub overflow_sub-bytes : goal.overflow_sub-bytes
overflow_sub-bytes c = rest_no_longer plain_number plain_number_exact c.args.bytes.now (items_of plain_number c.args.bytes.now) c.in_ok-rest.rest.now (λ i. omega (arith, c.type_inv.bytes i)) c.in_ok-rest.ensures.listed

pub returns-clause-gives : goal.returns-clause-gives
returns-clause-gives c =
    let items = items_of plain_number c.args.bytes.now in
    let alone = list_alone plain_number plain_number_exact c.args.bytes.now items c.in_ok-rest.rest.now c.split_at.result.0.now (λ i. omega (arith, c.type_inv.bytes i)) c.in_ok-rest.ensures.listed c.split_at.ensures.front in
    c.in_ok-rest.ensures.gives ∙ ap (λ (xs : List _). Ok (xs, c.in_ok-rest.rest.now)) (sym (items_of-read plain_number c.split_at.result.0.now items [] alone))

pub returns-clause-listed : goal.returns-clause-listed
returns-clause-listed c =
    let items = items_of plain_number c.args.bytes.now in
    whole_list_read plain_number c.split_at.result.0.now items
    (list_alone plain_number plain_number_exact c.args.bytes.now items c.in_ok-rest.rest.now c.split_at.result.0.now (λ i. omega (arith, c.type_inv.bytes i)) c.in_ok-rest.ensures.listed c.split_at.ensures.front)
