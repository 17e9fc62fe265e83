use Rattle.std.specs.Option.{option_copied}
use Rattle.traced_cloud.proofs.noting.NotingCloudCloud.put_held.Goals as goal

pub returns-in-Ok-clause-noted : goal.returns-in-Ok-clause-noted
returns-in-Ok-clause-noted g c =
    let h = c.put.ensures c.args.first.now (option_copied c.args.second) in rw c.copy-put.ensures at h

pub returns-in-Err-clause-noted : goal.returns-in-Err-clause-noted
returns-in-Err-clause-noted g c =
    let h = c.not_put.ensures c.args.first.now (option_copied c.args.second) in rw c.copy-put.ensures at h
