use Rattle.std.proofs.Common.{map, ap, rules, ◌∙◌}
use Rattle.std.specs.Prelude.{string_bytes}
use Rattle.call_trace.specs.Trace.{traces_all}
use Rattle.call_trace.proofs.TraceLemmas.{replays_so}
use Rattle.call_trace.proofs.trace.trace_replay.Goals as goal

pub returns : goal.returns
returns g c =
    traces_all c.run-status.result c.run-status.new.sink (search rules)
    (replays_so (map string_bytes c.as_slice.result.now) c.run-status.result (g.I.Source.told c.args.source.now)
    (g.I.Source.told c.run-status.new.source) c.new-replies.result c.run-status.new.sink (g.C.Cloud.seen c.args.cloud.now.cloud)
    (g.C.Cloud.seen c.run-status.new.cloud.cloud) (ap (map string_bytes) c.as_slice.ensures.value ∙ c.in-Ok.ensures) c.new-replies.ensures
    c.run-status.ensures.ran)
    (let w = c.write_woven.ensures in rw c.notes.ensures at w)
