-- A step of a commit's writes: its call, what that was answered, and all that is said of them.
use Rattle.db_base.specs.declared.trouble.CommitAnswer.{CommitAnswer}
use Rattle.cloud_trait.specs.declared.answer.Answer.{Answer}
use Rattle.cloud_trait.specs.declared.turn.Turn.{Turn}
use Rattle.cloud_trait.specs.Ask.{Ask}
use Rattle.cloud_trait.specs.Caller.{Caller}
use Rattle.cloud_trait.specs.Seen.{Seen}
use Rattle.cloud_trait.specs.Weather.{Makes}
use Rattle.cloud_trait.specs.Machine.{LeadsBy, Took, Deed}
use Rattle.commit_writes.specs.Writing.{Writing, writing_ask, writing_next, KeepsHome}
use Rattle.commit_writes.specs.Meaning.{Meant}
use Rattle.commit_writes.specs.Demands.{Exact, IsAmple}
use Rattle.commit_writes.specs.Calm.{Well, Marks, Clears}

-- a call that a step made
abbrev pub deed_of : Caller → Ask → Answer → Seen → Seen → Deed
deed_of who ask answer before after = record { who = who; ask = ask; answer = answer; before = before; after = after }

-- the call in hand was made and answered so, and of this one answer: the step that it leads to, what that means by the whole run, where it
-- ends, and what it leaves where calls go well
pub record Stepped (who : Caller) (before after : Seen) (old new : Writing) (turn : Turn CommitAnswer) : Type 0 where
  pub answer : Answer
  pub made : Makes who (writing_ask old) answer before after
  pub took : Took (LeadsBy writing_next) KeepsHome old answer new turn
  pub means : Meant old answer new turn
  pub exact : Exact old answer turn
  pub ample : IsAmple (writing_ask old) answer turn
  pub well : Well (deed_of who (writing_ask old) answer before after) old turn
  pub marks : Marks (deed_of who (writing_ask old) answer before after) old turn
  pub clears : Clears (deed_of who (writing_ask old) answer before after) old turn
