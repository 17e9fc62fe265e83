use Rattle.std.proofs.Common.{◌≡◌, ◌++◌, length, map}
use Rattle.std.specs.String.{string_bytes}
use Rattle.reply_text.specs.Reply.{behind_each, pair_word}
use Rattle.reply_text.proofs.write.add_pair_words.Given as goal

abbrev pub invariant-loop-key : goal.invariant-loop-key
invariant-loop-key l = string_bytes l.text ++ behind_each 32 (map pair_word l.left) ≡ string_bytes l.fn.text ++ behind_each 32 (map pair_word l.fn.pairs)

abbrev pub decreases-loop-key : goal.decreases-loop-key
decreases-loop-key l = length l.left
