use Rattle.cloud_trait.specs.Ask.{RemoveHeld}
use Rattle.folder_cloud.proofs.folder_cloud.FolderCloudCloud.remove_held.Goals as goal

pub returns-in-Err-Fault : goal.returns-in-Err-Fault
returns-in-Err-Fault g c = record { made = c.fail_held.ensures.made c.args._who (RemoveHeld c.args.name c.args.lease.now) }
