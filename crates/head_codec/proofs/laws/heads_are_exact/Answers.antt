use Rattle.head_codec.proofs.HeadLaws.{head_exact, head_fits-from, head_of-bytes, head_of-some, HasSpelling-fits}
use Rattle.head_codec.proofs.Keeping.{HasSpelling-first, HasSpelling-next_head}
use Rattle.head_codec.proofs.laws.heads_are_exact.Goals as goal

pub returns-clause-exact : goal.returns-clause-exact
returns-clause-exact c = head_exact

pub returns-clause-whole : goal.returns-clause-whole
returns-clause-whole c = λ h. (HasSpelling-fits h, λ both. head_fits-from h both.0 both.1)

pub returns-clause-again : goal.returns-clause-again
returns-clause-again c = head_of-bytes

pub returns-clause-spelled : goal.returns-clause-spelled
returns-clause-spelled c = head_of-some

pub returns-clause-first : goal.returns-clause-first
returns-clause-first c = HasSpelling-first

pub returns-clause-next : goal.returns-clause-next
returns-clause-next c = HasSpelling-next_head
