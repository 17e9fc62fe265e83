use Rattle.page_cache.proofs.ViewLemmas.{accept_leaf, accept_inner, accept_root}
use Rattle.page_cache.proofs.laws.view_laws.Goals as goal

pub returns : goal.returns
returns c = record { leaf = accept_leaf; inner = accept_inner; root = accept_root }
