-- The counts of one queue after one note of it more.
use Rattle.std.specs.Prelude.{suc, ◌≤◌, ◌^◌}
use Rattle.ckpt_policy.specs.declared.counts.Counts.{Counts}
use Rattle.ckpt_policy.specs.declared.note.Note.{Note}
use Rattle.ckpt_policy.specs.declared.note.Note.TheVariants.{Sent, Got, Kept}

abbrev pub no_counts : Counts
no_counts = record { kept = 0; sent = 0; got = 0 }

abbrev pub after_note : Counts → Note → Counts
after_note c (Sent queue) = record c { sent = suc c.sent }
after_note c (Got queue) = record c { got = suc c.got }
after_note c (Kept queue) = record { kept = suc c.kept; sent = 0; got = 0 }

-- the count that a note raises is the greatest u64
abbrev pub IsFull : Counts → Note → Type 0
IsFull c (Sent queue) = 2 ^ 64 ≤ suc c.sent
IsFull c (Got queue) = 2 ^ 64 ≤ suc c.got
IsFull c (Kept queue) = 2 ^ 64 ≤ suc c.kept
