use Rattle.page_cache.proofs.ObjectLemmas.{kept_spelled}
use Rattle.page_cache.proofs.objects.Objects.get.Goals as goal

pub returns-clause-spelled : goal.returns-clause-spelled
returns-clause-spelled c = rw c.peek.ensures (kept_spelled c.args.name.now c.self.inside.kept.entries c.self.invariant.1.spelled)
