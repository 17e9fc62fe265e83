use Rattle.cloud_trait.specs.Ask.{Receive}
use Rattle.folder_cloud.proofs.folder_cloud.FolderCloudCloud.receive.Goals as goal

pub returns-in-Err : goal.returns-in-Err
returns-in-Err g c = record { made = c.fail.ensures.made c.args._who (Receive c.args.queue c.args.max) }
