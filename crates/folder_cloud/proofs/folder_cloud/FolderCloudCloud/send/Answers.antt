use Rattle.cloud_trait.specs.Ask.{Send}
use Rattle.folder_cloud.proofs.folder_cloud.FolderCloudCloud.send.Goals as goal

pub returns-in-Err : goal.returns-in-Err
returns-in-Err g c = record { made = c.fail.ensures.made c.args._who (Send c.args.queue c.args.bytes.now) }
