use Rattle.std.proofs.Common.{refl}
use Rattle.page_cache.proofs.CacheLemmas.{drop_gone, drop_others}
use Rattle.page_cache.proofs.laws.drop_laws.Goals as goal

pub returns : goal.returns
returns c = record { gone = drop_gone; others = drop_others; served = λ d name other. refl }
