use Rattle.std.proofs.Common.{Ok, Err}
use Rattle.db_io.specs.declared.output.OutputFault.TheVariants.{WriteFault, Memory}
use Rattle.call_trace.proofs.TraceLemmas.{writes_so}
use Rattle.call_trace.proofs.trace.write_woven.Goals as goal

pub returns-in-Ok-write_text : goal.returns-in-Ok-write_text
returns-in-Ok-write_text g c =
    writes_so c.args.form c.args.replies.now c.writes.result.now c.args.notes.now c.args.status (g.O.Sink.told c.args.sink.now)
    (g.O.Sink.told c.write_text.new.sink) c.in-Ok.text c.as_slice.result.now (Ok tt) c.writes.ensures c.in-Ok.ensures c.as_slice.ensures
    c.in-Ok-write_text.ensures

pub returns-in-Err-WriteFault : goal.returns-in-Err-WriteFault
returns-in-Err-WriteFault g c =
    writes_so c.args.form c.args.replies.now c.writes.result.now c.args.notes.now c.args.status (g.O.Sink.told c.args.sink.now)
    (g.O.Sink.told c.write_text.new.sink) c.in-Ok.text c.as_slice.result.now (Err WriteFault) c.writes.ensures c.in-Ok.ensures c.as_slice.ensures
    (rw c.in-Err-WriteFault.field-0-is at c.in-Err-WriteFault.ensures)

pub returns-in-Ok : goal.returns-in-Ok
returns-in-Ok g c =
    writes_so c.args.form c.args.replies.now c.writes.result.now c.args.notes.now c.args.status (g.O.Sink.told c.args.sink.now)
    (g.O.Sink.told c.write_text.new.sink) c.in-Ok.text c.as_slice.result.now (Err Memory) c.writes.ensures c.in-Ok.ensures c.as_slice.ensures
    (rw c.in-Err-Memory.field-0-is at c.in-Err-Memory.ensures)
