use Rattle.std.proofs.Common.{◌∙◌, arith}
use Rattle.byte_format.specs.Whole.{whole, IsBytes}
use Rattle.byte_format.proofs.Wholes.{whole_found}
use Rattle.change_codec.proofs.Decoding.{read_spells, refused_spells, decoded-err, offset-err, stopped_at}
use Rattle.log_codec.specs.Atomic.{atomic_record, atomic_of, atomic_offset}
use Rattle.log_codec.proofs.AtomicLaws.{atomic_exact, IsAtomicRecord-fits, atomic_of-spelling}
use Rattle.log_codec.proofs.record.AtomicRec.read.Goals as goal

pub returns-in-Ok-clause-found : goal.returns-in-Ok-clause-found
returns-in-Ok-clause-found c =
    let bytes : IsBytes c.args.bytes.now = λ i. omega (arith, c.type_inv.bytes i) in
    let s = whole_found atomic_record atomic_exact c.args.bytes.now c.in-Ok.rec bytes c.in-Ok.ensures in
    (IsAtomicRecord-fits c.in-Ok.rec s.fits, s)

pub returns-in-Ok-clause-only : goal.returns-in-Ok-clause-only
returns-in-Ok-clause-only c = λ r s. read_spells atomic_record atomic_exact c.args.bytes.now c.in-Ok.rec r c.in-Ok.ensures s

pub returns-in-Ok-clause-decoded : goal.returns-in-Ok-clause-decoded
returns-in-Ok-clause-decoded c =
    let bytes : IsBytes c.args.bytes.now = λ i. omega (arith, c.type_inv.bytes i) in
    atomic_of-spelling c.args.bytes.now c.in-Ok.rec (whole_found atomic_record atomic_exact c.args.bytes.now c.in-Ok.rec bytes c.in-Ok.ensures)

pub returns-in-Err-Stopped-clause-only : goal.returns-in-Err-Stopped-clause-only
returns-in-Err-Stopped-clause-only c =
    let failed = stopped_at (whole atomic_record c.args.bytes.now) c.in-Err-Stopped.field-0 c.in-Err-Stopped.stop c.in-Err-Stopped.field-0-is c.in-Err-Stopped.ensures in
    λ r s. refused_spells atomic_record atomic_exact c.args.bytes.now c.in-Err-Stopped.stop.left r failed s

pub returns-in-Err-Stopped-clause-offset : goal.returns-in-Err-Stopped-clause-offset
unfolding atomic_offset
returns-in-Err-Stopped-clause-offset c =
    let failed = stopped_at (whole atomic_record c.args.bytes.now) c.in-Err-Stopped.field-0 c.in-Err-Stopped.stop c.in-Err-Stopped.field-0-is c.in-Err-Stopped.ensures in
    c.offset.ensures ∙ offset-err atomic_record c.args.bytes.now c.in-Err-Stopped.stop.left failed

pub returns-in-Err-Stopped-clause-decoded : goal.returns-in-Err-Stopped-clause-decoded
unfolding atomic_of
returns-in-Err-Stopped-clause-decoded c =
    let failed = stopped_at (whole atomic_record c.args.bytes.now) c.in-Err-Stopped.field-0 c.in-Err-Stopped.stop c.in-Err-Stopped.field-0-is c.in-Err-Stopped.ensures in
    decoded-err atomic_record c.args.bytes.now c.in-Err-Stopped.stop.left failed
