use Rattle.std.proofs.Common.{sym}
use Rattle.page_cache.proofs.ReadingLemmas.{marked_leaf, unmarked_none, is_leaf_in}
use Rattle.page_cache.proofs.reading.leaf_of.Goals as goal

pub known-requires : goal.known-requires
known-requires c = marked_leaf c.args.bytes.now c.requires (sym c.if-is_marked.ensures)

pub returns-then-is_marked : goal.returns-then-is_marked
returns-then-is_marked c = sym (is_leaf_in c.args.bytes.now c.known.result c.known.ensures)

pub returns-else-is_marked : goal.returns-else-is_marked
returns-else-is_marked c = sym (unmarked_none c.args.bytes.now c.requires (sym c.if-is_marked.ensures))
