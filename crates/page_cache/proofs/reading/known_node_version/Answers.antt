use Rattle.std.proofs.Common.{Ok, sym, ap, ◌∙◌}
use Rattle.page_cache.proofs.ViewLemmas.{version_of_inner}
use Rattle.page_cache.proofs.reading.known_node_version.Goals as goal

pub returns-in-Some : goal.returns-in-Some
returns-in-Some c = version_of_inner c.args.bytes.now c.in-Some.view (sym c.in-Some.ensures) ∙ ap Ok (sym c.version.ensures.value)
