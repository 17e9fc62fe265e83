use Rattle.page_cache.proofs.ReadingLemmas.{is_tree_of}
use Rattle.page_cache.proofs.reading.root_of.Goals as goal

pub returns : goal.returns
returns c = is_tree_of c.args.bytes.now c.known.result c.known.ensures
