-- The count of writes that failed.
use Rattle.std.proofs.Common.{◌≡◌, ◌<◌, ◌⊎◌, if◌then◌else◌, ℕ, Bool, true, false, List, Result, Ok, Err, refl, inl, inr}
use Rattle.db_io.specs.Writes.{Written}
use Rattle.db_io.specs.declared.output.OutputFault.{OutputFault}
use Rattle.db_io.specs.declared.output.OutputFault.TheVariants as output
use Rattle.db_io.specs.Output.{WasWritten}
use Rattle.reply_text.specs.declared.reply.Reply.{Reply}
use Rattle.schedule_run.specs.declared.settling.SettleFault.TheVariants.{NotSettled, WriteFault}
use Rattle.schedule_run.specs.Settling.{is_settled, settle_end_of}

abbrev pub well : {F : Type 0} → Result (Unit {0}) F
well = Ok tt

-- where a line ended well, no write of it failed
pub unfaulted : {F : Type 0} (fault : F) (before after : ℕ) → (well ≡ Err fault) ⊎ (after ≡ before) → after ≡ before
unfaulted fault before after (inl e) = absurd (cc)
unfaulted fault before after (inr same) = same

-- the writing of a settling's reply fails only where the settling ends by that
pub settle_writes : (written : Result (Unit {0}) OutputFault) (reply : Reply) (text : List ℕ) (w u : Written) → WasWritten w u text written
    → (settle_end_of written reply ≡ Err WriteFault) ⊎ (u.faults ≡ w.faults)
settle_writes (Ok done) reply text w u p = inr p.1
settle_writes (Err output.WriteFault) reply text w u p = inl refl
settle_writes (Err output.Memory) reply text w u p = inr p.1

-- what a settling answers by its reply alone tells of no write
told_alone : (b : Bool) → (if b then well else Err NotSettled) ≡ Err WriteFault → ⊥
told_alone true e = cc
told_alone false e = cc

-- and where it ends by that, it failed
pub settle_fails : (written : Result (Unit {0}) OutputFault) (reply : Reply) (text : List ℕ) (w u : Written) → WasWritten w u text written → settle_end_of written reply ≡ Err WriteFault
    → w.faults < u.faults
settle_fails (Ok done) reply text w u p e = absurd (told_alone (is_settled reply) e)
settle_fails (Err output.WriteFault) reply text w u p e = p.1
settle_fails (Err output.Memory) reply text w u p e = absurd (cc)
