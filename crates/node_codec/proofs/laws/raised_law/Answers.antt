use Rattle.node_codec.proofs.SpellingLaws.{number_of-raised}
use Rattle.node_codec.proofs.laws.raised_law.Goals as goal

pub returns : goal.returns
returns c = λ numbers others client h. number_of-raised numbers others client h.some h.most
