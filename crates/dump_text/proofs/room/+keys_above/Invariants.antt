use Rattle.dump_text.proofs.room.+keys_above.Given as goal

abbrev pub decreases-keys_above : goal.decreases-keys_above
decreases-keys_above l = l.len
