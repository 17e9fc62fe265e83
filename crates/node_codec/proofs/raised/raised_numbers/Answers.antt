use Rattle.std.proofs.Common.{◌≤◌, [], true, None, ap, ◌∙◌, arith}
use Rattle.byte_format.specs.Format.{greatest, list_fits}
use Rattle.node_codec.specs.Node.{plain_number, client_number}
use Rattle.node_codec.specs.Plain.{items_of}
use Rattle.node_codec.proofs.PlainLemmas.{whole_list_read, items_of-read}
use Rattle.node_codec.proofs.NodeLemmas.{raised_begins, raised_goes_on, raised_ends}
use Rattle.node_codec.specs.Node.{raised}
use Rattle.node_codec.proofs.raised.raised_numbers.Goals as goal

pub loop-client-init : goal.loop-client-init
loop-client-init c = rw c.new-out.ensures.items (raised_begins (items_of plain_number c.args.numbers.now) c.args.cursor.now)

pub loop-client-preserved : goal.loop-client-preserved
loop-client-preserved c =
    let small : c.greater_number.result ≤ greatest = omega arith in
    let step = raised_goes_on (items_of plain_number c.args.numbers.now) c.args.cursor.now c.loop-client.client c.greater_number.result c.loop-client.out.items c.loop-client.invariant c.loop-client-test.true c.greater_number.ensures small in
    rw c.in_ok-push_number.ensures step

pub returns-clause-listed : goal.returns-clause-listed
returns-clause-listed c =
    let r = raised_ends (items_of plain_number c.args.numbers.now) c.args.cursor.now c.loop-client.client c.loop-client.out.items c.try_add_u8.new.out.items c.loop-client.invariant (omega arith) c.in_ok-try_add_u8.ensures in
    whole_list_read plain_number c.try_add_u8.new.out.items (raised (items_of plain_number c.args.numbers.now) c.args.cursor.now) r.reads

pub returns-clause-value : goal.returns-clause-value
returns-clause-value c =
    let r = raised_ends (items_of plain_number c.args.numbers.now) c.args.cursor.now c.loop-client.client c.loop-client.out.items c.try_add_u8.new.out.items c.loop-client.invariant (omega arith) c.in_ok-try_add_u8.ensures in
    items_of-read plain_number c.try_add_u8.new.out.items (raised (items_of plain_number c.args.numbers.now) c.args.cursor.now) [] r.reads

pub returns-clause-fits : goal.returns-clause-fits
returns-clause-fits c =
    let r = raised_ends (items_of plain_number c.args.numbers.now) c.args.cursor.now c.loop-client.client c.loop-client.out.items c.try_add_u8.new.out.items c.loop-client.invariant (omega arith) c.in_ok-try_add_u8.ensures in
    let value = items_of-read plain_number c.try_add_u8.new.out.items (raised (items_of plain_number c.args.numbers.now) c.args.cursor.now) [] r.reads in
    ap (list_fits true client_number None) value ∙ r.fits
