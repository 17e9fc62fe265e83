-- What is seen of a folder that stands for a cloud.
use Rattle.std.specs.Prelude.{ℕ, ◌≡◌, None}
use Rattle.cloud_trait.specs.declared.answer.Answer.{Answer}
use Rattle.cloud_trait.specs.Ask.{Ask}
use Rattle.cloud_trait.specs.Caller.{Caller}
use Rattle.cloud_trait.specs.Seen.{Seen}
use Rattle.cloud_trait.specs.Weather.{Makes, LeavesLeases}
use Rattle.folder_cloud.specs.declared.folder_cloud.FolderCloud.{FolderCloud}

-- how often a service call failed and how often a look failed; no state, no answer and nothing of what looks show is told
abbrev pub counted : ℕ → ℕ → Seen
counted faults dark = record { counts = record { faults = faults; withheld = 0; stale = 0; dark = dark }; state = None; heard = None; shown = None }

abbrev pub seen_of : {R K : Type 0} → FolderCloud R K → Seen
seen_of c = counted c.faults c.dark

-- no call and no look has failed yet
abbrev pub IsFresh : {R K : Type 0} → FolderCloud R K → Type 0
IsFresh c = seen_of c ≡ counted 0 0

-- whoever asked and whatever was asked, it was answered so
abbrev pub AnswersAll : Answer → Seen → Seen → Type 0
AnswersAll answer old new = (who : Caller) (ask : Ask) → Makes who ask answer old new

-- and every lease is as it was
abbrev pub KeepsAllLeases : Answer → Seen → Seen → Type 0
KeepsAllLeases answer old new = (who : Caller) → LeavesLeases who answer old new
