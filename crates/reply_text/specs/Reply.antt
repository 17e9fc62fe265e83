-- The text of a reply: lines parted by line feeds, each of words parted by one space.
use Rattle.std.specs.Prelude.{ℕ, ◌≡◌, Result, IfOk, List, [], ◌∷◌, ◌++◌, map, length, codes}
use Rattle.std.specs.Fmt.{decimal}
use Rattle.std.specs.declared.string.String.{String}
use Rattle.std.specs.String.{string_bytes}
use Rattle.words.specs.Word.{hexadecimal, space, newline}
use Rattle.words.specs.Line.{text_of, last_words}
use Rattle.db_base.specs.Refusal.{number_of_refusal}
use Rattle.db_base.specs.declared.refusal.Refusal.{Refusal}
use Rattle.db_base.specs.declared.refusal.Refusal.TheVariants.{EmptyKey, LongKey, LongPayload, TooManyChanges, BadNumber, NotOpen, AtWork, Broken, AlreadyOpen, NotWorking, BadAttr, LongEntry}
use Rattle.db_base.specs.declared.change.Change.{Change}
use Rattle.db_base.specs.declared.change.Change.TheVariants.{Insert, Update, Delete, Add}
use Rattle.db_base.specs.declared.pair.Pair.{Pair}
use Rattle.db_base.specs.declared.trouble.Counter.{Counter}
use Rattle.db_base.specs.declared.trouble.Counter.TheVariants.{Epoch, Txn, Number, Version, Pages}
use Rattle.db_base.specs.declared.trouble.CommitAnswer.{CommitAnswer}
use Rattle.db_base.specs.declared.trouble.CommitAnswer.TheVariants.{Committed, NotCommitted, InDoubt, CommittedOpen}
use Rattle.db_base.specs.declared.trouble.Trouble.{Trouble}
use Rattle.db_base.specs.declared.trouble.Trouble.TheVariants.{Failed, Late, Busy, Waiting, Stale, Absent, NotALeaf, Damaged, BadFence, Loop, Exhausted, Memory}
use Rattle.report_types.specs.declared.entry.Entry.{Entry}
use Rattle.report_types.specs.declared.report.Report.{Report}
use Rattle.report_types.specs.declared.stored.Stored.{Stored}
use Rattle.reply_text.specs.declared.reply.Reply.{Reply}
use Rattle.reply_text.specs.declared.reply.Reply.TheVariants as reply
use Rattle.reply_text.specs.Name.{lock_word, place_word}

-- the word of a rule
abbrev pub refusal_word : Refusal → List ℕ
refusal_word EmptyKey = codes "empty-key"
refusal_word LongKey = codes "long-key"
refusal_word LongPayload = codes "long-payload"
refusal_word TooManyChanges = codes "too-many"
refusal_word BadNumber = codes "bad-number"
refusal_word NotOpen = codes "not-open"
refusal_word AtWork = codes "at-work"
refusal_word Broken = codes "broken"
refusal_word AlreadyOpen = codes "already-open"
refusal_word NotWorking = codes "not-working"
refusal_word BadAttr = codes "bad-attr"
refusal_word LongEntry = codes "long-entry"

-- the word of a counter
abbrev pub counter_word : Counter → List ℕ
counter_word Epoch = codes "epoch"
counter_word Txn = codes "txn"
counter_word Number = codes "number"
counter_word Version = codes "version"
counter_word Pages = codes "pages"

-- the words of a trouble; want of memory has none
abbrev pub trouble_words : Trouble → List (List ℕ)
trouble_words Failed = codes "failed" ∷ []
trouble_words (Late end now) = codes "late" ∷ decimal end ∷ decimal now ∷ []
trouble_words (Busy lock until) = codes "busy" ∷ lock_word lock ∷ decimal until ∷ []
trouble_words (Waiting have need) = codes "waiting" ∷ decimal have ∷ decimal need ∷ []
trouble_words (Stale page least got) = codes "stale" ∷ decimal page ∷ decimal least ∷ decimal got ∷ []
trouble_words (Absent page) = codes "absent" ∷ decimal page ∷ []
trouble_words (NotALeaf page) = codes "not-leaf" ∷ decimal page ∷ []
trouble_words (Damaged place offset) = codes "damaged" ∷ place_word place ∷ decimal offset ∷ []
trouble_words (BadFence page expected found) = codes "bad-fence" ∷ decimal page ∷ hexadecimal expected ∷ hexadecimal found ∷ []
trouble_words (Loop page) = codes "loop" ∷ decimal page ∷ []
trouble_words (Exhausted what) = codes "exhausted" ∷ counter_word what ∷ []
trouble_words Memory = []

-- want of memory has no text
abbrev pub HasText : Trouble → Type 0
HasText Failed = Unit {0}
HasText (Late end now) = Unit {0}
HasText (Busy lock until) = Unit {0}
HasText (Waiting have need) = Unit {0}
HasText (Stale page least got) = Unit {0}
HasText (Absent page) = Unit {0}
HasText (NotALeaf page) = Unit {0}
HasText (Damaged place offset) = Unit {0}
HasText (BadFence page expected found) = Unit {0}
HasText (Loop page) = Unit {0}
HasText (Exhausted what) = Unit {0}
HasText Memory = ⊥

-- the words of how a commit ended
abbrev pub commit_words : CommitAnswer → List (List ℕ)
commit_words (Committed txn) = codes "committed" ∷ decimal txn ∷ []
commit_words (NotCommitted trouble) = codes "not-committed" ∷ trouble_words trouble
commit_words InDoubt = codes "in-doubt" ∷ []
commit_words (CommittedOpen trouble) = codes "committed-open" ∷ trouble_words trouble

-- a commit's answer that shows no want of memory
abbrev pub CommitHasText : CommitAnswer → Type 0
CommitHasText (Committed txn) = Unit {0}
CommitHasText (NotCommitted trouble) = HasText trouble
CommitHasText InDoubt = Unit {0}
CommitHasText (CommittedOpen trouble) = HasText trouble

-- a record as one word: its key, `=` and its payload
abbrev pub pair_word : Pair → List ℕ
pair_word pair = text_of 61 (hexadecimal pair.key ∷ hexadecimal pair.payload ∷ [])

-- a record of a leaf as words: its key, its payload, and its attribute where it has one
abbrev pub stored_words : Stored → List (List ℕ)
stored_words stored = hexadecimal stored.key ∷ hexadecimal stored.payload ∷ last_words stored.attr

-- the words of a change
abbrev pub change_words : Change → List (List ℕ)
change_words (Insert key payload attr) = codes "insert" ∷ hexadecimal key ∷ hexadecimal payload ∷ last_words attr
change_words (Update key payload) = codes "update" ∷ hexadecimal key ∷ hexadecimal payload ∷ []
change_words (Delete key) = codes "delete" ∷ hexadecimal key ∷ []
change_words (Add key amount) = codes "add" ∷ hexadecimal key ∷ decimal amount ∷ []

-- the words of an entry of a report
abbrev pub entry_words : Entry → List (List ℕ)
entry_words entry = decimal entry.client ∷ decimal entry.epoch ∷ decimal entry.txn ∷ change_words entry.change

-- the line of a record, and that of an entry
abbrev pub stored_text : Stored → List ℕ
stored_text stored = text_of space (stored_words stored)

abbrev pub entry_text : Entry → List ℕ
entry_text entry = text_of space (entry_words entry)

-- the line of a list's name and length
abbrev pub count_text : List ℕ → ℕ → List ℕ
count_text name count = text_of space (name ∷ decimal count ∷ [])

-- the lines of a list, behind a line with its length
abbrev pub section_lines : {A : Type 0} → List ℕ → (A → List (List ℕ)) → List A → List (List (List ℕ))
section_lines name words items = (name ∷ decimal (length items) ∷ []) ∷ map words items

-- the lines of a report
abbrev pub report_lines : Report → List (List (List ℕ))
report_lines report =
    (codes "report" ∷ decimal report.tree ∷ [])
    ∷ (section_lines (codes "committed") entry_words report.committed
    ++ (section_lines (codes "order") entry_words report.order
    ++ (section_lines (codes "contents") stored_words report.contents
    ++ (codes "left" ∷ decimal report.heads ∷ decimal report.messages ∷ []) ∷ [])))

-- the words of a refusal: the rule's number and word
abbrev pub refusal_words : Refusal → List (List ℕ)
refusal_words refusal = codes "refused" ∷ decimal (number_of_refusal refusal) ∷ refusal_word refusal ∷ []

-- the lines of a reply
abbrev pub reply_lines : Reply → List (List (List ℕ))
reply_lines reply.Begun = (codes "begun" ∷ []) ∷ []
reply_lines reply.Called = (codes "called" ∷ []) ∷ []
reply_lines reply.Noted = (codes "noted" ∷ []) ∷ []
reply_lines reply.Aborted = (codes "aborted" ∷ []) ∷ []
reply_lines reply.Crashed = (codes "crashed" ∷ []) ∷ []
reply_lines reply.Waited = (codes "waited" ∷ []) ∷ []
reply_lines (reply.Refused refusal) = refusal_words refusal ∷ []
reply_lines (reply.Opened epoch) = (codes "opened" ∷ decimal epoch ∷ []) ∷ []
reply_lines reply.Closed = (codes "closed" ∷ []) ∷ []
reply_lines (reply.Renewed end) = (codes "renewed" ∷ decimal end ∷ []) ∷ []
reply_lines (reply.Commit answer) = commit_words answer ∷ []
reply_lines (reply.Done answer) = (codes "done" ∷ decimal answer.applied ∷ decimal answer.deleted ∷ decimal answer.left ∷ []) ∷ []
reply_lines (reply.Value payload) = (codes "value" ∷ hexadecimal payload ∷ []) ∷ []
reply_lines reply.NoValue = (codes "none" ∷ []) ∷ []
reply_lines (reply.Scan pairs) = (codes "scan" ∷ decimal (length pairs) ∷ map pair_word pairs) ∷ []
reply_lines (reply.Settled calls) = (codes "settled" ∷ decimal calls ∷ []) ∷ []
reply_lines (reply.Swept kept removed) = (codes "swept" ∷ decimal kept ∷ decimal removed ∷ []) ∷ []
reply_lines (reply.Worked done passed) = (codes "worked" ∷ decimal done ∷ decimal passed ∷ []) ∷ []
reply_lines (reply.NotSettled trouble) = (codes "not-settled" ∷ trouble_words trouble) ∷ []
reply_lines (reply.Trouble trouble) = trouble_words trouble ∷ []
reply_lines (reply.Report report) = report_lines report

-- the text of a reply, without its event's number and without a line feed at its end
abbrev pub reply_text : Reply → List ℕ
reply_text reply = text_of newline (map (text_of space) (reply_lines reply))

-- what was written is the line of these words, unless it failed
abbrev pub Spells : {Z E : Type 0} → Result (String Z) E → List (List ℕ) → Type 0
Spells {Z} result words = IfOk result (λ (text : String Z). string_bytes text ≡ text_of space words)

-- and the lines of these words
abbrev pub SpellsLines : {Z E : Type 0} → Result (String Z) E → List (List (List ℕ)) → Type 0
SpellsLines {Z} result lines = IfOk result (λ (text : String Z). string_bytes text ≡ text_of newline (map (text_of space) lines))

-- the text has more behind it
abbrev pub AddsText : {Z : Type 0} → String Z → String Z → List ℕ → Type 0
AddsText old new more = string_bytes new ≡ string_bytes old ++ more

-- a reply that shows no want of memory
abbrev pub ReplyHasText : Reply → Type 0
ReplyHasText reply.Begun = Unit {0}
ReplyHasText reply.Called = Unit {0}
ReplyHasText reply.Noted = Unit {0}
ReplyHasText reply.Aborted = Unit {0}
ReplyHasText reply.Crashed = Unit {0}
ReplyHasText reply.Waited = Unit {0}
ReplyHasText (reply.Refused refusal) = Unit {0}
ReplyHasText (reply.Opened epoch) = Unit {0}
ReplyHasText reply.Closed = Unit {0}
ReplyHasText (reply.Renewed end) = Unit {0}
ReplyHasText (reply.Commit answer) = CommitHasText answer
ReplyHasText (reply.Done answer) = Unit {0}
ReplyHasText (reply.Value payload) = Unit {0}
ReplyHasText reply.NoValue = Unit {0}
ReplyHasText (reply.Scan pairs) = Unit {0}
ReplyHasText (reply.Settled calls) = Unit {0}
ReplyHasText (reply.Swept kept removed) = Unit {0}
ReplyHasText (reply.Worked done passed) = Unit {0}
ReplyHasText (reply.NotSettled trouble) = HasText trouble
ReplyHasText (reply.Trouble trouble) = HasText trouble
ReplyHasText (reply.Report report) = Unit {0}

-- texts with a separator before each
abbrev pub behind_each : ℕ → List (List ℕ) → List ℕ
behind_each separator [] = []
behind_each separator (text ∷ texts) = separator ∷ (text ++ behind_each separator texts)
