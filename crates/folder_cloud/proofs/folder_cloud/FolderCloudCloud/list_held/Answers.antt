use Rattle.cloud_trait.specs.Ask.{ListHeld}
use Rattle.folder_cloud.proofs.folder_cloud.FolderCloudCloud.list_held.Goals as goal

pub returns-in-Err-Fault : goal.returns-in-Err-Fault
returns-in-Err-Fault g c = record { made = c.fail_held.ensures.made c.args._who (ListHeld c.args.tree c.args.lease.now) }
