use Rattle.head_codec.proofs.ListSpelling.{spelled_more}
use Rattle.head_codec.proofs.pending_list.spell_next.Goals as goal

pub returns : goal.returns
returns c = spelled_more _ _ _ _ _ c.requires c.in_ok-try_add.ensures c.spelled.ensures.spelling c.spelled.ensures.valid
