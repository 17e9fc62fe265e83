use Rattle.dump_text.proofs.room.+keys_within.Given as goal

abbrev pub decreases-keys_within : goal.decreases-keys_within
decreases-keys_within l = l.len
