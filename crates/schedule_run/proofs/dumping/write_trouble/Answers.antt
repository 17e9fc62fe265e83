use Rattle.std.proofs.Common.{rules, ◌≡◌, ◌∙◌, false, sym, Err}
use Rattle.dump_take.specs.declared.stop.DumpStop.TheVariants as stop
use Rattle.schedule_run.specs.declared.dumping.DumpingFault.TheVariants.{Stopped}
use Rattle.schedule_run.specs.Dumping.{is_memory}
use Rattle.schedule_run.proofs.DumpingLemmas.{tells_trouble, end_fails, end_writes, no_memory}
use Rattle.schedule_run.proofs.dumping.write_trouble.Goals as goal

pub returns-then-is_memory-clause-told : goal.returns-then-is_memory-clause-told
returns-then-is_memory-clause-told g c = no_memory (Err (stop.Trouble c.args.trouble)) (g.O.Sink.told c.args.sink.now)

pub returns-clause-told : goal.returns-clause-told
returns-clause-told g c =
    let other : is_memory c.args.trouble ≡ false = search rules in
    rw c.end_of.ensures (tells_trouble c.args.trouble _ _ _ other c.write_plain-written.ensures)

pub returns-clause-write_fault : goal.returns-clause-write_fault
returns-clause-write_fault g c e = end_fails _ (Err Stopped) _ _ _ c.write_plain-written.ensures (λ e. cc) (sym c.end_of.ensures ∙ e)

pub returns-clause-writes : goal.returns-clause-writes
returns-clause-writes g c = rw c.end_of.ensures (end_writes _ (Err Stopped) _ _ _ c.write_plain-written.ensures)
