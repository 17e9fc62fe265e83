-- The summary of a generated schedule: six lines.
use Rattle.std.specs.Prelude.{ℕ, List, [], ◌∷◌, ◌++◌, length, codes}
use Rattle.std.specs.Fmt.{decimal}
use Rattle.words.specs.Word.{space, newline}
use Rattle.reply_text.specs.declared.reply.Reply.{Reply}
use Rattle.reply_text.specs.declared.reply.Reply.TheVariants.{Report}
use Rattle.reply_text.specs.Reply.{reply_text}

-- a line of a name and a value
abbrev pub labelled : List ℕ → List ℕ → List ℕ
labelled name value = name ++ space ∷ (value ++ newline ∷ [])

-- the figures of a report; of a reply that is none its text stands in place of each
abbrev pub committed_word : Reply → List ℕ
committed_word (Report report) = decimal (length report.committed)
committed_word reply = reply_text reply

abbrev pub order_word : Reply → List ℕ
order_word (Report report) = decimal (length report.order)
order_word reply = reply_text reply

abbrev pub contents_word : Reply → List ℕ
contents_word (Report report) = decimal (length report.contents)
contents_word reply = reply_text reply

abbrev pub left_words : Reply → List ℕ
left_words (Report report) = decimal report.heads ++ space ∷ decimal report.messages
left_words reply = reply_text reply

-- how many events, the figures of the report, and between them the text of the settling's reply
abbrev pub summary : ℕ → Reply → Reply → List ℕ
summary count settling report =
    labelled (codes "events") (decimal count)
    ++ labelled (codes "committed") (committed_word report)
    ++ labelled (codes "order") (order_word report)
    ++ labelled (codes "contents") (contents_word report)
    ++ reply_text settling ++ newline ∷ []
    ++ labelled (codes "left") (left_words report)
