use Rattle.cloud_trait.specs.Ask.{Renew}
use Rattle.folder_cloud.proofs.folder_cloud.FolderCloudCloud.renew.Goals as goal

pub returns-in-Err-Fault-clause-made : goal.returns-in-Err-Fault-clause-made
returns-in-Err-Fault-clause-made g c = c.fail_held.ensures.made c.args._who (Renew c.args.lease.now c.args.ticks)
