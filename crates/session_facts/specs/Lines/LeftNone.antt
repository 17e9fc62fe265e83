-- What a commit that is answered `not-committed` left among what was committed: nothing.
use Rattle.std.specs.Prelude.{ℕ, ◌≡◌, List}
use Rattle.client_work.specs.declared.work.Work.{Work}
use Rattle.client_work.specs.declared.work.Work.TheVariants.{Idle}
use Rattle.cloud_facts.specs.Words.{CommitAnswer, Entry, IsIn}
use Rattle.db_base.specs.declared.trouble.CommitAnswer.TheVariants.{NotCommitted}
use Rattle.recover_run.specs.declared.home.Home.{Home}
use Rattle.replay_meaning.specs.Standing.{Posture, Working, Committing}
use Rattle.reply_text.specs.declared.reply.Reply.{Reply}
use Rattle.reply_text.specs.declared.reply.Reply.TheVariants as reply

-- no entry is of the client's transaction of this number and epoch
abbrev pub HasNone : List Entry → ℕ → ℕ → ℕ → Type 0
HasNone entries client epoch txn = (e : Entry) → IsIn entries e → e.client ≡ client → e.epoch ≡ epoch → e.txn ≡ txn → ⊥

-- the client is idle, and its last attempt, which was the commit, has no entry
pub record HasLeftNone (entries : List Entry) (work : Work) : Type 0 where
  pub home : Home
  pub rests : work ≡ Idle home
  pub none : HasNone entries home.client home.head.epoch home.attempt

-- a commit that is answered so leaves what is in hand then
abbrev pub LeavesNone : List Entry → Work → CommitAnswer → Type 0
LeavesNone entries work (NotCommitted t) = HasLeftNone entries work
LeavesNone entries work a = Unit {0}

-- that of a session that stood so; one that is answered at its begin made no call
abbrev pub LeavesNoneAt : List Entry → Posture → Work → CommitAnswer → Type 0
LeavesNoneAt entries (Working (Committing changes)) work a = LeavesNone entries work a
LeavesNoneAt entries posture work a = Unit {0}

-- and the reply to it
abbrev pub IsLeftReply : List Entry → Posture → Work → Reply → Type 0
IsLeftReply entries posture work (reply.Commit a) = LeavesNoneAt entries posture work a
IsLeftReply entries posture work reply = Unit {0}
