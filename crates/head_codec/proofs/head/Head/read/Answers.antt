use Rattle.std.proofs.Common.{◌∙◌, arith}
use Rattle.byte_format.specs.Whole.{whole, IsBytes}
use Rattle.byte_format.proofs.Wholes.{whole_found}
use Rattle.change_codec.proofs.Decoding.{read_spells, refused_spells, decoded-err, offset-err, stopped_at}
use Rattle.head_codec.specs.Spelling.{head, head_of, head_offset}
use Rattle.head_codec.proofs.HeadLaws.{head_exact, HasSpelling-fits, head_of-spelling}
use Rattle.head_codec.proofs.head.Head.read.Goals as goal

pub returns-in-Ok-clause-found : goal.returns-in-Ok-clause-found
returns-in-Ok-clause-found c =
    let bytes : IsBytes c.args.bytes.now = λ i. omega (arith, c.type_inv.bytes i) in
    let s = whole_found head head_exact c.args.bytes.now c.in-Ok.head bytes c.in-Ok.ensures in
    let f = HasSpelling-fits c.in-Ok.head s.fits in
    (f.0, f.1, s)

pub returns-in-Ok-clause-only : goal.returns-in-Ok-clause-only
returns-in-Ok-clause-only c = λ h s. read_spells head head_exact c.args.bytes.now c.in-Ok.head h c.in-Ok.ensures s

pub returns-in-Ok-clause-decoded : goal.returns-in-Ok-clause-decoded
returns-in-Ok-clause-decoded c =
    let bytes : IsBytes c.args.bytes.now = λ i. omega (arith, c.type_inv.bytes i) in
    head_of-spelling c.args.bytes.now c.in-Ok.head (whole_found head head_exact c.args.bytes.now c.in-Ok.head bytes c.in-Ok.ensures)

pub returns-in-Err-Stopped-clause-only : goal.returns-in-Err-Stopped-clause-only
returns-in-Err-Stopped-clause-only c =
    let failed = stopped_at (whole head c.args.bytes.now) c.in-Err-Stopped.field-0 c.in-Err-Stopped.stop c.in-Err-Stopped.field-0-is c.in-Err-Stopped.ensures in
    λ h s. refused_spells head head_exact c.args.bytes.now c.in-Err-Stopped.stop.left h failed s

pub returns-in-Err-Stopped-clause-offset : goal.returns-in-Err-Stopped-clause-offset
unfolding head_offset
returns-in-Err-Stopped-clause-offset c =
    let failed = stopped_at (whole head c.args.bytes.now) c.in-Err-Stopped.field-0 c.in-Err-Stopped.stop c.in-Err-Stopped.field-0-is c.in-Err-Stopped.ensures in
    c.offset.ensures ∙ offset-err head c.args.bytes.now c.in-Err-Stopped.stop.left failed

pub returns-in-Err-Stopped-clause-decoded : goal.returns-in-Err-Stopped-clause-decoded
unfolding head_of
returns-in-Err-Stopped-clause-decoded c =
    let failed = stopped_at (whole head c.args.bytes.now) c.in-Err-Stopped.field-0 c.in-Err-Stopped.stop c.in-Err-Stopped.field-0-is c.in-Err-Stopped.ensures in
    decoded-err head c.args.bytes.now c.in-Err-Stopped.stop.left failed
