use Rattle.std.proofs.Common.{rules, arith, ◌≡◌, ◌++◌, ◌-◌, length, take, drop}
use Rattle.memory_cloud.proofs.SharingLemmas.{put_together}
use Rattle.memory_cloud.proofs.shared.Shared.next.Goals as goal

pub returns : goal.returns
returns c =
    let front = c.common_front-front.result in
    let end = c.max-end.result - c.common_front-front.result in
    let split = length c.split_at-2.result.0.now - c.common_back-count.result in
    let back = length c.as_slice-base.result.now - c.common_back-count.result in
    let base : c.in_ok-clone.field-0.value ≡ c.as_slice-base.result.now = search rules in
    let fronts : take front c.in_ok-clone.field-0.value ≡ take front c.args.bytes.now = rw base c.common_front-front.ensures.same in
    let middle : c.split_at-2.result.0.now ≡ take end (drop front c.args.bytes.now) = search rules in
    let backs : drop back c.in_ok-clone.field-0.value ≡ drop split c.split_at-2.result.0.now = rw base c.common_back-count.ensures.same in
    let owned : c.in_ok-joined.field-0 ≡ take split c.split_at-2.result.0.now ++ drop end (drop front c.args.bytes.now) = search rules in
    put_together c.in_ok-clone.field-0.value c.args.bytes.now c.split_at-2.result.0.now c.in_ok-joined.field-0 front end back split fronts middle (omega arith) backs owned
