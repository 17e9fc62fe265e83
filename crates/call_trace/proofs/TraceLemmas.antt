-- What was run and what was written, as the theorem of a trace has it.
use Rattle.std.proofs.Common.{◌≡◌, ℕ, List, [], ◌∷◌, refl, subst, ◌∙◌}
use Rattle.std.specs.Prelude.{Result, codes}
use Rattle.cloud_trait.specs.Seen.{Seen}
use Rattle.command_words.specs.Words.{shape_of}
use Rattle.db_io.specs.Content.{Told}
use Rattle.db_io.specs.Writes.{Written}
use Rattle.db_io.specs.Output.{WasWritten}
use Rattle.db_io.specs.declared.output.OutputFault.{OutputFault}
use Rattle.schedule_run.specs.Outside.{outside}
use Rattle.schedule_run.specs.Run.{Ran, Replays}
use Rattle.schedule_run.specs.declared.status.Status.{Status}
use Rattle.traced_cloud.specs.declared.form.Form.{Form}
use Rattle.traced_cloud.specs.declared.note.Note.{Note}
use Rattle.traced_cloud.specs.Replies.{told_of}
use Rattle.traced_cloud.specs.Woven.{woven}
use Rattle.call_trace.specs.Trace.{Writes, writes_all, after, traced}

-- a text that is the weave was written
pub writes_so : (form : Form) (replies others : List (List ℕ)) (notes : List Note) (status : Status) (written now_written : Written) (text bytes : List ℕ)
    (ended : Result (Unit {0}) OutputFault) → others ≡ replies → text ≡ woven form 1 others notes → bytes ≡ text
    → WasWritten written now_written bytes ended → Writes (traced form replies notes) status (after status ended) written now_written
writes_so form replies others notes status written now_written text bytes ended e f h w =
    writes_all ended refl
    (subst (λ z. WasWritten written now_written z ended)
    (h ∙ (f ∙ subst (λ z. woven form 1 others notes ≡ woven form 1 z notes) e refl)) w)

-- the words of a replay ran as one
pub replays_so : (words : List (List ℕ)) (status : Status) (left rest : Told) (before replies : List (List ℕ)) (start now : Seen)
    → words ≡ codes "replay" ∷ [] → before ≡ []
    → Ran (shape_of words) status (outside left (told_of before) start) (outside rest (told_of replies) now)
    → Replays status (outside left (told_of []) start) (outside rest (told_of replies) now)
replays_so words status left rest before replies start now e f r =
    subst (λ z. Replays status (outside left (told_of z) start) (outside rest (told_of replies) now)) f
    (subst (λ z. Ran (shape_of z) status (outside left (told_of before) start) (outside rest (told_of replies) now)) e r)
