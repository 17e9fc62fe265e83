use Rattle.std.proofs.Common.{◌≡◌, ◌++◌, length}
use Rattle.traced_cloud.specs.Json.{escaped_all}
use Rattle.traced_cloud.proofs.json.add_string.Given as goal

abbrev pub invariant-loop-rest : goal.invariant-loop-rest
invariant-loop-rest l = l.text ++ escaped_all l.rest ≡ l.initial.text ++ escaped_all l.bytes

abbrev pub decreases-loop-rest : goal.decreases-loop-rest
decreases-loop-rest l = length l.rest
