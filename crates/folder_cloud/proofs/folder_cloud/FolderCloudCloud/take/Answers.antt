use Rattle.cloud_trait.specs.Ask.{Take}
use Rattle.folder_cloud.proofs.folder_cloud.FolderCloudCloud.take.Goals as goal

pub returns-in-Err : goal.returns-in-Err
returns-in-Err g c = record { made = c.fail.ensures.made c.args._who (Take c.args.lock c.args.ticks) }
