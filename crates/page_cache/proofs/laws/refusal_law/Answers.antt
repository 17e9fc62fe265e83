use Rattle.page_cache.proofs.RefusalLemmas.{accept_refused}
use Rattle.page_cache.proofs.laws.refusal_law.Goals as goal

pub returns : goal.returns
returns c = accept_refused
