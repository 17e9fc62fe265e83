use Rattle.std.proofs.Common.{Ok, sym, ap, ◌∙◌}
use Rattle.page_cache.proofs.ViewLemmas.{version_of_root}
use Rattle.page_cache.proofs.reading.known_root_version.Goals as goal

pub returns : goal.returns
returns c = version_of_root c.args.bytes.now c.root_of.result c.root_of.ensures ∙ ap Ok (sym c.version.ensures.value)
