-- The grammar of replies: which values have a text, and that a text spells a value.
use Rattle.std.specs.Prelude.{ℕ, ◌≡◌, List, [], ◌∷◌, length, Option, IfSome}
use Rattle.db_base.specs.Ids.{IsClient, IsTree, IsPage}
use Rattle.db_base.specs.Key.{IsKey, IsPayload, IsAttr}
use Rattle.db_base.specs.declared.change.Change.{Change}
use Rattle.db_base.specs.declared.change.Change.TheVariants.{Insert, Update, Delete, Add}
use Rattle.db_base.specs.declared.names.Lock.{Lock}
use Rattle.db_base.specs.declared.names.Lock.TheVariants as lock
use Rattle.db_base.specs.declared.names.ObjName.{ObjName}
use Rattle.db_base.specs.declared.names.ObjName.TheVariants as object
use Rattle.db_base.specs.declared.names.QueueName.{QueueName}
use Rattle.db_base.specs.declared.names.QueueName.TheVariants.{Atomic, TreePu, PagePu}
use Rattle.db_base.specs.declared.names.Place.{Place}
use Rattle.db_base.specs.declared.names.Place.TheVariants.{Object, Message}
use Rattle.db_base.specs.declared.pair.Pair.{Pair}
use Rattle.db_base.specs.declared.trouble.CommitAnswer.{CommitAnswer}
use Rattle.db_base.specs.declared.trouble.CommitAnswer.TheVariants.{Committed, NotCommitted, InDoubt, CommittedOpen}
use Rattle.db_base.specs.declared.trouble.Trouble.{Trouble}
use Rattle.db_base.specs.declared.trouble.Trouble.TheVariants.{Failed, Late, Busy, Waiting, Stale, Absent, NotALeaf, Damaged, BadFence, Loop, Exhausted, Memory}
use Rattle.report_types.specs.declared.entry.Entry.{Entry}
use Rattle.report_types.specs.declared.report.Report.{Report}
use Rattle.report_types.specs.declared.stored.Stored.{Stored}
use Rattle.words.specs.Word.{AreBytes, IsNumber}
use Rattle.reply_text.specs.declared.reply.Reply.{Reply}
use Rattle.reply_text.specs.declared.reply.Reply.TheVariants as reply
use Rattle.reply_text.specs.Reply.{reply_text}

-- each item of a list is as it should be
abbrev pub AreAll : {A : Type 0} → (A → Type 0) → List A → Type 0
AreAll Is [] = Unit {0}
AreAll Is (x ∷ items) = Is x × AreAll Is items

-- a page's number
abbrev pub IsPageNumber : ℕ → Type 0
IsPageNumber page = IsPage page × IsNumber page

-- names of clients 1 to 64, of trees 1 to 16, of pages from 1 on
abbrev pub IsLock : Lock → Type 0
IsLock (lock.Client client) = IsClient client
IsLock (lock.Tree tree) = IsTree tree
IsLock (lock.Page tree page) = IsTree tree × IsPageNumber page

abbrev pub IsObject : ObjName → Type 0
IsObject (object.Head client) = IsClient client
IsObject (object.Tree tree) = IsTree tree
IsObject (object.Page tree page) = IsTree tree × IsPageNumber page

abbrev pub IsQueue : QueueName → Type 0
IsQueue (Atomic client) = IsClient client
IsQueue (TreePu tree) = IsTree tree
IsQueue (PagePu tree page) = IsTree tree × IsPageNumber page

abbrev pub IsPlace : Place → Type 0
IsPlace (Object name) = IsObject name
IsPlace (Message queue id) = IsQueue queue × IsNumber id

-- want of memory has no text
abbrev pub IsTrouble : Trouble → Type 0
IsTrouble Failed = Unit {0}
IsTrouble (Late end now) = IsNumber end × IsNumber now
IsTrouble (Busy lock until) = IsLock lock × IsNumber until
IsTrouble (Waiting have need) = IsNumber have × IsNumber need
IsTrouble (Stale page least got) = IsPageNumber page × IsNumber least × IsNumber got
IsTrouble (Absent page) = IsPageNumber page
IsTrouble (NotALeaf page) = IsPageNumber page
IsTrouble (Damaged place offset) = IsPlace place × IsNumber offset
IsTrouble (BadFence page expected found) = IsPageNumber page × AreBytes expected × AreBytes found
IsTrouble (Loop page) = IsPageNumber page
IsTrouble (Exhausted what) = Unit {0}
IsTrouble Memory = ⊥

abbrev pub IsCommit : CommitAnswer → Type 0
IsCommit (Committed txn) = IsNumber txn
IsCommit (NotCommitted trouble) = IsTrouble trouble
IsCommit InDoubt = Unit {0}
IsCommit (CommittedOpen trouble) = IsTrouble trouble

abbrev pub IsRecord : Pair → Type 0
IsRecord pair = AreBytes pair.key × AreBytes pair.payload

abbrev pub IsStored : Stored → Type 0
IsStored stored = AreBytes stored.key × AreBytes stored.payload × IfSome stored.attr AreBytes

-- an attribute, where there is one
abbrev pub IsAttribute : Option (List ℕ) → Type 0
IsAttribute attr = IfSome attr (λ bytes. IsAttr bytes × AreBytes bytes)

-- a change of a key of 1 to 64 bytes, with a payload of at most 1,024 and an attribute of 1 to 32 where it is an
-- insert with one, or an amount of 64 bits
abbrev pub IsBlindChange : Change → Type 0
IsBlindChange (Insert key payload attr) = (IsKey key × AreBytes key) × (IsPayload payload × AreBytes payload) × IsAttribute attr
IsBlindChange (Update key payload) = (IsKey key × AreBytes key) × (IsPayload payload × AreBytes payload)
IsBlindChange (Delete key) = IsKey key × AreBytes key
IsBlindChange (Add key amount) = (IsKey key × AreBytes key) × IsNumber amount

-- an entry of the tree that is reported
abbrev pub IsEntryOf : ℕ → Entry → Type 0
IsEntryOf tree entry = IsClient entry.client × IsNumber entry.epoch × IsNumber entry.txn × (entry.tree ≡ tree) × IsBlindChange entry.change

-- a list that a line with its length goes before
abbrev pub IsListOf : {A : Type 0} → (A → Type 0) → List A → Type 0
IsListOf Is items = AreAll Is items × IsNumber (length items)

pub record IsReport (report : Report) : Type 0 where
  pub tree : IsTree report.tree
  pub committed : IsListOf (IsEntryOf report.tree) report.committed
  pub order : IsListOf (IsEntryOf report.tree) report.order
  pub contents : IsListOf IsStored report.contents
  pub heads : IsNumber report.heads
  pub messages : IsNumber report.messages

-- numbers, bytes and names are in their ranges; the entries of a report are of its tree
abbrev pub IsInRange : Reply → Type 0
IsInRange reply.Begun = Unit {0}
IsInRange reply.Called = Unit {0}
IsInRange reply.Noted = Unit {0}
IsInRange reply.Aborted = Unit {0}
IsInRange reply.Crashed = Unit {0}
IsInRange reply.Waited = Unit {0}
IsInRange (reply.Refused refusal) = Unit {0}
IsInRange (reply.Opened epoch) = IsNumber epoch
IsInRange reply.Closed = Unit {0}
IsInRange (reply.Renewed end) = IsNumber end
IsInRange (reply.Commit answer) = IsCommit answer
IsInRange (reply.Done answer) = IsNumber answer.applied × IsNumber answer.deleted × IsNumber answer.left
IsInRange (reply.Value payload) = AreBytes payload
IsInRange reply.NoValue = Unit {0}
IsInRange (reply.Scan pairs) = IsListOf IsRecord pairs
IsInRange (reply.Settled calls) = IsNumber calls
IsInRange (reply.Swept kept removed) = IsNumber kept × IsNumber removed
IsInRange (reply.Worked done passed) = IsNumber done × IsNumber passed
IsInRange (reply.NotSettled trouble) = IsTrouble trouble
IsInRange (reply.Trouble trouble) = IsTrouble trouble
IsInRange (reply.Report report) = IsReport report

-- a text that spells a reply
pub record IsReply (text : List ℕ) (reply : Reply) : Type 0 where
  pub in_range : IsInRange reply
  pub is : text ≡ reply_text reply
