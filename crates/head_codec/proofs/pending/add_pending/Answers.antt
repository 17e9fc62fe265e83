use Rattle.head_codec.proofs.ListSpelling.{list_written}
use Rattle.head_codec.proofs.pending.add_pending.Goals as goal

pub returns-clause-spelling : goal.returns-clause-spelling
returns-clause-spelling c = list_written c.args.out.now.items c.add_entries.new.out.items c.try_add_u8.new.out.items c.args.entries.now c.in_ok-add_entries.ensures.spelling c.in_ok-try_add_u8.ensures
