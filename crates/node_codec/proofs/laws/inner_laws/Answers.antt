use Rattle.node_codec.proofs.SpellingLaws.{inner_again, inner_only, inner_found, inner_parts_lie, inner_low_lies, inner_high_lies}
use Rattle.node_codec.proofs.laws.inner_laws.Goals as goal

pub returns : goal.returns
returns c = record { again = inner_again; only = inner_only; found = inner_found; parts = inner_parts_lie; low = inner_low_lies; high = inner_high_lies }
