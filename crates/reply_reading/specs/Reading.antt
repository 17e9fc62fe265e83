-- How a reply of one line is read, word by word.
use Rattle.std.specs.Prelude.{ℕ, ◌==◌, List, codes, Option, Some, None, option_map, if◌then◌else◌}
use Rattle.std.specs.Str.{bytes_eq}
use Rattle.db_base.specs.Refusal.{number_of_refusal}
use Rattle.db_base.specs.declared.refusal.Refusal.{Refusal}
use Rattle.db_base.specs.declared.trouble.CommitAnswer.TheVariants.{Committed, NotCommitted, InDoubt, CommittedOpen}
use Rattle.db_base.specs.declared.trouble.Trouble.{Trouble}
use Rattle.db_base.specs.declared.trouble.Trouble.TheVariants.{Failed, Late, Busy, Waiting, Stale, Absent, NotALeaf, Damaged, BadFence, Loop, Exhausted}
use Rattle.words.specs.Word.{space}
use Rattle.words.specs.Line.{◌>>=◌, parts_of, word_at, number_at, bytes_at, end_at, one_of, two_of, three_of}
use Rattle.reply_reading.specs.Naming.{page_of, page_alone, lock_of, place_of}
use Rattle.reply_text.specs.declared.reply.Reply.{Reply}
use Rattle.reply_text.specs.declared.reply.Reply.TheVariants as reply
use Rattle.reply_reading.specs.declared.reply_kind.ReplyKind.{ReplyKind}
use Rattle.reply_reading.specs.declared.reply_kind.ReplyKind.TheVariants as answer
use Rattle.reply_reading.specs.declared.trouble_kind.TroubleKind.{TroubleKind}
use Rattle.reply_reading.specs.declared.trouble_kind.TroubleKind.TheVariants as stop
use Rattle.reply_reading.specs.Kind.{reply_kind_of, trouble_kind_of, refusal_of, counter_of}
use Rattle.reply_reading.specs.Counted.{scan_of, report_of}

-- a value where nothing is left
unfoldable pub alone : {A : Type 0} → A → List (List ℕ) → Option A
alone x words = do
  end ← end_at words
  Some x

-- ---- troubles

-- a lock, a number and nothing else
unfoldable pub busy_of : List (List ℕ) → Option Trouble
busy_of words = do
  word ← word_at words
  lock ← lock_of word.0
  until ← one_of word.1
  Some (Busy lock until)

-- a page, two numbers and nothing else
unfoldable pub stale_of : List (List ℕ) → Option Trouble
stale_of words = do
  numbers ← three_of words
  page ← page_of numbers.0
  Some (Stale page numbers.1 numbers.2)

-- a place, a number and nothing else
unfoldable pub damaged_of : List (List ℕ) → Option Trouble
damaged_of words = do
  word ← word_at words
  place ← place_of word.0
  offset ← one_of word.1
  Some (Damaged place offset)

-- a page, bytes twice and nothing else
unfoldable pub fence_of : List (List ℕ) → Option Trouble
fence_of words = do
  number ← number_at words
  expected ← bytes_at number.1
  found ← bytes_at expected.1
  end ← end_at found.1
  page ← page_of number.0
  Some (BadFence page expected.0 found.0)

-- a counter and nothing else
unfoldable pub exhausted_of : List (List ℕ) → Option Trouble
exhausted_of words = do
  word ← word_at words
  end ← end_at word.1
  counter ← counter_of word.0
  Some (Exhausted counter)

-- the trouble that a kind begins
unfoldable pub trouble_by : TroubleKind → List (List ℕ) → Option Trouble
trouble_by stop.Failed words = alone Failed words
trouble_by stop.Late words = option_map (λ x. Late x.0 x.1) (two_of words)
trouble_by stop.Busy words = busy_of words
trouble_by stop.Waiting words = option_map (λ x. Waiting x.0 x.1) (two_of words)
trouble_by stop.Stale words = stale_of words
trouble_by stop.Absent words = option_map Absent (page_alone words)
trouble_by stop.NotALeaf words = option_map NotALeaf (page_alone words)
trouble_by stop.Damaged words = damaged_of words
trouble_by stop.BadFence words = fence_of words
trouble_by stop.Loop words = option_map Loop (page_alone words)
trouble_by stop.Exhausted words = exhausted_of words

-- the trouble of a first word and those behind it
unfoldable pub trouble_behind : List ℕ → List (List ℕ) → Option Trouble
trouble_behind word words = do
  kind ← trouble_kind_of word
  trouble_by kind words

-- the trouble of words
unfoldable pub trouble_of : List (List ℕ) → Option Trouble
trouble_of words = do
  first ← word_at words
  trouble_behind first.0 first.1

-- ---- replies of one line

-- a rule's number, its word and nothing else
unfoldable pub refused_of : List (List ℕ) → Option Refusal
refused_of words = do
  number ← number_at words
  word ← word_at number.1
  end ← end_at word.1
  refusal ← refusal_of word.0
  if number_of_refusal refusal == number.0 then Some refusal else None

-- bytes and nothing else
unfoldable pub bytes_alone : List (List ℕ) → Option (List ℕ)
bytes_alone words = do
  bytes ← bytes_at words
  end ← end_at bytes.1
  Some bytes.0

-- the reply that a kind begins
unfoldable pub reply_by : ReplyKind → List (List ℕ) → Option Reply
reply_by answer.Begun words = alone reply.Begun words
reply_by answer.Called words = alone reply.Called words
reply_by answer.Noted words = alone reply.Noted words
reply_by answer.Aborted words = alone reply.Aborted words
reply_by answer.Crashed words = alone reply.Crashed words
reply_by answer.Waited words = alone reply.Waited words
reply_by answer.Refused words = option_map reply.Refused (refused_of words)
reply_by answer.Opened words = option_map reply.Opened (one_of words)
reply_by answer.Closed words = alone reply.Closed words
reply_by answer.Renewed words = option_map reply.Renewed (one_of words)
reply_by answer.Committed words = option_map (λ txn. reply.Commit (Committed txn)) (one_of words)
reply_by answer.InDoubt words = alone (reply.Commit InDoubt) words
reply_by answer.NotCommitted words = option_map (λ trouble. reply.Commit (NotCommitted trouble)) (trouble_of words)
reply_by answer.CommittedOpen words = option_map (λ trouble. reply.Commit (CommittedOpen trouble)) (trouble_of words)
reply_by answer.Done words = option_map (λ x. reply.Done (record { applied = x.0; deleted = x.1; left = x.2 })) (three_of words)
reply_by answer.Value words = option_map reply.Value (bytes_alone words)
reply_by answer.NoValue words = alone reply.NoValue words
reply_by answer.Scan words = option_map reply.Scan (scan_of words)
reply_by answer.Settled words = option_map reply.Settled (one_of words)
reply_by answer.Swept words = option_map (λ x. reply.Swept x.0 x.1) (two_of words)
reply_by answer.Worked words = option_map (λ x. reply.Worked x.0 x.1) (two_of words)
reply_by answer.NotSettled words = option_map reply.NotSettled (trouble_of words)

-- the reply of a kind, or the trouble where the first word is of none
unfoldable pub reply_or_trouble : Option ReplyKind → List ℕ → List (List ℕ) → Option Reply
reply_or_trouble None word words = option_map reply.Trouble (trouble_behind word words)
reply_or_trouble (Some kind) word words = reply_by kind words

-- the reply of one line, of its first word and those behind it
unfoldable pub reply_behind : List ℕ → List (List ℕ) → Option Reply
reply_behind word words = reply_or_trouble (reply_kind_of word) word words

-- a reply behind which no line is left
unfoldable pub alone_reply : Option Reply → List (List ℕ) → Option Reply
alone_reply read lines = do
  end ← end_at lines
  read

-- the reply of the words of its first line, and of its other lines
unfoldable pub reply_of_words : List (List ℕ) → List (List ℕ) → Option Reply
reply_of_words words lines = do
  first ← word_at words
  if bytes_eq first.0 (codes "report") then option_map reply.Report (report_of first.1 lines) else alone_reply (reply_behind first.0 first.1) lines

-- the reply of lines
unfoldable pub reply_of_lines : List (List ℕ) → Option Reply
reply_of_lines lines = do
  first ← word_at lines
  reply_of_words (parts_of space first.0) first.1
