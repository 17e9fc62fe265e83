use Rattle.cloud_trait.specs.Ask.{Delete}
use Rattle.folder_cloud.proofs.folder_cloud.FolderCloudCloud.delete.Goals as goal

pub returns-in-Err : goal.returns-in-Err
returns-in-Err g c = record { made = c.fail.ensures.made c.args._who (Delete c.args.queue c.args.id) }
