use Rattle.std.proofs.Common.{◌≡◌, ◌++◌, length, map}
use Rattle.std.specs.String.{string_bytes}
use Rattle.words.specs.Line.{text_of}
use Rattle.reply_text.specs.Reply.{behind_each, stored_words}
use Rattle.reply_text.proofs.write.add_contents.Given as goal

abbrev pub invariant-loop-stored : goal.invariant-loop-stored
invariant-loop-stored l = string_bytes l.text ++ behind_each 10 (map (λ stored. text_of 32 (stored_words stored)) l.left) ≡ string_bytes l.fn.text ++ behind_each 10 (map (λ stored. text_of 32 (stored_words stored)) l.fn.records)

abbrev pub decreases-loop-stored : goal.decreases-loop-stored
decreases-loop-stored l = length l.left
