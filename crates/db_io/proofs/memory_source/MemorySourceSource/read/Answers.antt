use Rattle.std.proofs.Common.{◌≡◌, ap, drop}
use Rattle.db_io.proofs.ReadLemmas.{gives_first, rest_is}
use Rattle.db_io.proofs.memory_source.MemorySourceSource.read.Goals as goal

pub returns-in-Ok-clause-gives : goal.returns-in-Ok-clause-gives
returns-in-Ok-clause-gives c =
    let left : drop c.self.inside.at c.self.inside.bytes.items ≡ c.args.self.now.content = ap (λ s. s.content) c.self.view_is in
    let rest = rest_is c.self.inside.bytes.items c.deref-2.result.now c.args.self.now.content c.self.inside.at c.deref-2.ensures.value left in
    gives_first _ _ _ _ _ _ _ _ _ left (rw rest at c.in-Ok.ensures.ok) (rw rest at c.min-count.ensures)
