-- The end of a dump.
use Rattle.std.proofs.Common.{◌≡◌, ◌<◌, ◌⊎◌, List, ℕ, false, Result, Ok, Err, refl, subst, inl, inr}
use Rattle.std.specs.Prelude.{codes}
use Rattle.cloud_trait.specs.Seen.{Seen}
use Rattle.db_base.specs.declared.trouble.Trouble.{Trouble}
use Rattle.db_io.specs.Writes.{Written, AddsPart}
use Rattle.dump_take.specs.declared.stop.DumpStop.{DumpStop}
use Rattle.dump_take.specs.declared.stop.DumpStop.TheVariants as stop
use Rattle.dump_take.specs.Parts.{StopsDark}
use Rattle.dump_take.specs.Taken.{Takes}
use Rattle.dump_text.specs.declared.dump.Dump.{Dump}
use Rattle.dump_text.specs.Text.{dump_text}
use Rattle.db_io.specs.declared.output.OutputFault.{OutputFault}
use Rattle.db_io.specs.declared.output.OutputFault.TheVariants as output
use Rattle.db_io.specs.Output.{WasWritten}
use Rattle.reply_text.specs.declared.reply.Reply.TheVariants as reply
use Rattle.schedule_run.specs.Outside.{effects}
use Rattle.schedule_run.specs.Written.{name_line, plain_line}
use Rattle.schedule_run.specs.declared.dumping.DumpingFault.{DumpingFault}
use Rattle.schedule_run.specs.declared.dumping.DumpingFault.TheVariants.{NotQuiet, Stopped, WriteFault, Memory}
use Rattle.schedule_run.specs.Dumping.{is_memory, taken_text, IsTold, DumpEnded, end_of}
use Rattle.world_audit.specs.Look.{Looked}

-- nothing is written of a text
nothing : (w : Written) (text : List ℕ) → AddsPart w w text
nothing w text = λ all e. inl e

-- where a dump had no memory to write its text
pub no_memory : (taken : Result Dump DumpStop) (w : Written) → IsTold taken (Err Memory) w w
no_memory taken w = nothing w (taken_text taken)

-- the writing of a text ends a dump by a failed write exactly where one failed
pub end_fails : (written : Result (Unit {0}) OutputFault) (end : Result (Unit {0}) DumpingFault) (text : List ℕ) (w u : Written) → WasWritten w u text written
    → (end ≡ Err WriteFault → ⊥) → end_of written end ≡ Err WriteFault → w.faults < u.faults
end_fails (Ok done) end text w u p other e = absurd (other e)
end_fails (Err output.WriteFault) end text w u p other e = p.1
end_fails (Err output.Memory) end text w u p other e = absurd (cc)

pub end_writes : (written : Result (Unit {0}) OutputFault) (end : Result (Unit {0}) DumpingFault) (text : List ℕ) (w u : Written) → WasWritten w u text written
    → (end_of written end ≡ Err WriteFault) ⊎ (u.faults ≡ w.faults)
end_writes (Ok done) end text w u p = inr p.1
end_writes (Err output.WriteFault) end text w u p = inl refl
end_writes (Err output.Memory) end text w u p = inr p.1

-- a dump whose text was written, or a part of it, ends so
pub tells_dump : (dump : Dump) (text : List ℕ) (written : Result (Unit {0}) OutputFault) (w u : Written) → text ≡ dump_text dump.trees → WasWritten w u text written
    → IsTold (Ok dump) (end_of written (Ok tt)) w u
tells_dump dump text written w u is p = on written (subst (λ t. WasWritten w u t written) is p)
  where
    on : (written : Result (Unit {0}) OutputFault) → WasWritten w u (dump_text dump.trees) written → IsTold (Ok dump) (end_of written (Ok tt)) w u
    on (Ok done) p = (dump, refl, p.0)
    on (Err output.WriteFault) p = p.0
    on (Err output.Memory) p = p.0

-- and so does one of what is not quiet
pub tells_name : (name : List ℕ) (written : Result (Unit {0}) OutputFault) (w u : Written) → WasWritten w u (name_line (codes "not-quiet") name) written
    → IsTold (Err (stop.NotQuiet name)) (end_of written (Err NotQuiet)) w u
tells_name name (Ok done) w u p = (name, refl, p.0)
tells_name name (Err output.WriteFault) w u p = p.0
tells_name name (Err output.Memory) w u p = p.0

-- and one that stopped, unless memory ran out
pub tells_trouble : (trouble : Trouble) (written : Result (Unit {0}) OutputFault) (w u : Written) → is_memory trouble ≡ false
    → WasWritten w u (plain_line (reply.Trouble trouble)) written → IsTold (Err (stop.Trouble trouble)) (end_of written (Err Stopped)) w u
tells_trouble trouble (Ok done) w u other p = (other, p.0)
tells_trouble trouble (Err output.WriteFault) w u other p = p.0
tells_trouble trouble (Err output.Memory) w u other p = p.0

-- a dump that was taken, and told so, ends so
pub dump_ended : (taken : Result Dump DumpStop) (ended : Result (Unit {0}) DumpingFault) (w u : Written) (s t : Seen) → Takes s taken → Looked s t → StopsDark taken s t
    → IsTold taken ended w u → DumpEnded ended (effects w s) (effects u t)
dump_ended taken ended w u s t takes looked failed told = record { taken = taken; takes = takes; looked = looked; failed = failed; told = told }
