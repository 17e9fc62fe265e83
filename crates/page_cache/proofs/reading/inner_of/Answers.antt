use Rattle.std.proofs.Common.{sym}
use Rattle.page_cache.proofs.ReadingLemmas.{unmarked_inner, marked_none, is_inner_of}
use Rattle.page_cache.proofs.reading.inner_of.Goals as goal

pub known-requires : goal.known-requires
known-requires c = unmarked_inner c.args.bytes.now c.requires (sym c.if-is_marked.ensures)

pub returns-then-is_marked : goal.returns-then-is_marked
returns-then-is_marked c = sym (marked_none c.args.bytes.now c.requires (sym c.if-is_marked.ensures))

pub returns-else-is_marked : goal.returns-else-is_marked
returns-else-is_marked c = sym (is_inner_of c.args.bytes.now c.known.result c.known.ensures)
