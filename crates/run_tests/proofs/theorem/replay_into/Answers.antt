use Rattle.std.proofs.Common.{ℕ, List, Some, map, refl, ap, ◌∙◌}
use Rattle.std.specs.Prelude.{string_bytes}
use Rattle.db_io.specs.MemoryEnd.{MemoryEnd, told_by, written_by}
use Rattle.memory_cloud.specs.Memory.{seen_of, state_of}
use Rattle.run_tests.proofs.TheoremLemmas.{is_replay}
use Rattle.run_tests.proofs.theorem.replay_into.Goals as goal

pub returns-in-Done : goal.returns-in-Done
returns-in-Done c = λ done.
    is_replay c.args.text.now c.run.new.sink.content (told_by c.in-Ok-new.source) (told_by c.run.new.source) (written_by c.args.sink.now) (written_by c.run.new.sink)
    (seen_of c.new-cloud.result) (seen_of c.run.new.cloud) (state_of c.new-cloud.result) (ap (λ (e : MemoryEnd (List ℕ)). Some e.content) c.in-Ok-new.ensures.ok) (ap Some c.requires) refl c.new-cloud.ensures.told
    c.new-cloud.ensures.empty (map string_bytes c.as_slice.result.now) (ap (map string_bytes) c.as_slice.ensures.value ∙ c.in-Ok.ensures) c.in-Done.ensures.ran
