-- Calls and replies as JSON objects, one a line.
use Rattle.std.specs.Prelude.{ℕ, List, [], ◌∷◌, ◌++◌, Option, Some, None, codes, ◌==◌, ◌||◌, if◌then◌else◌}
use Rattle.std.specs.Fmt.{decimal}
use Rattle.words.specs.Word.{newline}
use Rattle.reply_text.specs.Call.{made_word, target_word}
use Rattle.traced_cloud.specs.Line.{answer_text}
use Rattle.traced_cloud.specs.declared.note.Note.{Note}

-- the marks of JSON
abbrev pub quote : ℕ
quote = 34

abbrev pub comma : ℕ
comma = 44

abbrev pub colon : ℕ
colon = 58

abbrev pub backslash : ℕ
backslash = 92

abbrev pub opening : ℕ
opening = 123

abbrev pub closing : ℕ
closing = 125

-- a member that is a number: a byte that leads to it, its name in quotes, a colon, the number
abbrev pub number_member : ℕ → List ℕ → ℕ → List ℕ
number_member lead name n = (lead ∷ quote ∷ []) ++ name ++ quote ∷ colon ∷ decimal n

-- the begin of an object: the number of a line
unfoldable pub object_begin : ℕ → List ℕ
object_begin n = number_member opening (codes "line") n

-- a member that is a string, behind a comma, up to the string
abbrev pub word_member : List ℕ → List ℕ
word_member name = comma ∷ quote ∷ name ++ quote ∷ colon ∷ quote ∷ []

-- how many messages a call wanted, or for how many ticks
abbrev pub limit_member : Option ℕ → List ℕ
limit_member None = []
limit_member (Some n) = number_member comma (codes "limit") n

-- what a call did, and to what
unfoldable pub call_words : Note → List ℕ
call_words note = word_member (codes "call") ++ made_word note.kind ++ quote ∷ word_member (codes "name") ++ target_word note.target ++ quote ∷ []

-- the session of a call
unfoldable pub session_member : ℕ → List ℕ
session_member session = number_member comma (codes "session") session

-- who made a call, what it did, to what, and what it wanted
unfoldable pub asked_members : Note → List ℕ
asked_members note = session_member note.who.session ++ call_words note ++ limit_member note.limit

-- what it answered, and the end of the object
unfoldable pub answered_members : Note → List ℕ
answered_members note = word_member (codes "answer") ++ answer_text note ++ quote ∷ closing ∷ newline ∷ []

-- a call
abbrev pub call_object : Note → List ℕ
call_object note = object_begin note.who.event ++ asked_members note ++ answered_members note

-- a byte of a string: a line feed, a quote and a backslash are escaped
abbrev pub escaped : ℕ → List ℕ
escaped byte = if byte == newline then backslash ∷ codes "n" else (if byte == quote || byte == backslash then backslash ∷ byte ∷ [] else byte ∷ [])

abbrev pub escaped_all : List ℕ → List ℕ
escaped_all [] = []
escaped_all (byte ∷ bytes) = escaped byte ++ escaped_all bytes

-- a reply: the number of its line, and its text
abbrev pub reply_object : ℕ → List ℕ → List ℕ
reply_object n reply =
    object_begin n ++ word_member (codes "reply") ++ escaped_all reply ++ quote ∷ closing ∷ newline ∷ []
