-- What is written of replies.
use Rattle.std.specs.Prelude.{ℕ, ◌≡◌, ◌+◌, List, [], ◌∷◌, ◌++◌, codes}
use Rattle.std.specs.Fmt.{decimal}
use Rattle.words.specs.Word.{space, newline}
use Rattle.db_io.specs.Writes.{Written, AddsEach, AddsPart}
use Rattle.reply_text.specs.declared.reply.Reply.{Reply}
use Rattle.reply_text.specs.Reply.{reply_text}
use Rattle.replay_meaning.specs.Standing.{Line}
use Rattle.schedule_run.specs.Outside.{Effects}

-- a reply as it is written: a number, a space, its text, a line feed
abbrev pub reply_line : ℕ → Reply → List ℕ
reply_line n reply = decimal n ++ space ∷ reply_text reply ++ newline ∷ []

-- under no number: its text, a line feed
abbrev pub plain_line : Reply → List ℕ
plain_line reply = reply_text reply ++ newline ∷ []

-- a word, a space, a name, a line feed
abbrev pub name_line : List ℕ → List ℕ → List ℕ
name_line word name = word ++ (space ∷ name ++ newline ∷ [])

-- a word, a space, a number, a line feed
abbrev pub count_line : List ℕ → ℕ → List ℕ
count_line word count = word ++ (space ∷ decimal count ++ newline ∷ [])

-- the replies to lines in order, each a text for itself, the first under this number
abbrev pub replies_from : ℕ → List Line → List (List ℕ)
replies_from n [] = []
replies_from n (line ∷ lines) = reply_line n line.reply ∷ replies_from (n + 1) lines

abbrev pub replies : List Line → List (List ℕ)
replies lines = replies_from 1 lines

-- replies in order, each a text for itself, the first under this number
abbrev pub shown_from : ℕ → List Reply → List (List ℕ)
shown_from n [] = []
shown_from n (reply ∷ replies) = reply_line n reply ∷ shown_from (n + 1) replies

-- what is written of a line that is in no grammar: `bad line`, a space, the number of the line, a line feed
abbrev pub bad_line : ℕ → List ℕ
bad_line n = codes "bad line " ++ decimal n ++ newline ∷ []

-- each of these texts is written, in one write, and behind them nothing or a first part of that one, in one write
pub record AddsFront (written now_written : Written) (texts : List (List ℕ)) (text : List ℕ) : Type 0 where
  pub between : Written
  pub each : AddsEach written between texts
  pub front : AddsPart between now_written text

-- nothing was written, and no call was made
pub record NothingRan (before after : Effects) : Type 0 where
  pub output : after.output ≡ before.output
  pub seen : after.cloud ≡ before.cloud
