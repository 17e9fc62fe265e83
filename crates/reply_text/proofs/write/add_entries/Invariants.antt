use Rattle.std.proofs.Common.{◌≡◌, ◌++◌, length, map}
use Rattle.std.specs.String.{string_bytes}
use Rattle.words.specs.Line.{text_of}
use Rattle.reply_text.specs.Reply.{behind_each, entry_words}
use Rattle.reply_text.proofs.write.add_entries.Given as goal

abbrev pub invariant-loop-entry : goal.invariant-loop-entry
invariant-loop-entry l = string_bytes l.text ++ behind_each 10 (map (λ entry. text_of 32 (entry_words entry)) l.left) ≡ string_bytes l.fn.text ++ behind_each 10 (map (λ entry. text_of 32 (entry_words entry)) l.fn.entries)

abbrev pub decreases-loop-entry : goal.decreases-loop-entry
decreases-loop-entry l = length l.left
