-- What a cloud that notes its calls has noted.
use Rattle.cloud_trait.specs.declared.answer.Answer.{Answer}
use Rattle.cloud_trait.specs.Ask.{Ask}
use Rattle.cloud_trait.specs.Caller.{Caller}
use Rattle.traced_cloud.specs.Note.{note_of}
use Rattle.traced_cloud.specs.Notes.{Adds}
use Rattle.traced_cloud.specs.declared.noting.NotingCloud.{NotingCloud}

-- the call is noted behind the others, with what it answered
abbrev pub IsNoted : {C : Type 0} → Caller → Ask → Answer → NotingCloud C → NotingCloud C → Type 0
IsNoted who ask answer old new = Adds (note_of who ask answer) old.trace new.trace
