use Rattle.cloud_trait.specs.Ask.{Get}
use Rattle.folder_cloud.proofs.folder_cloud.FolderCloudCloud.get.Goals as goal

pub returns-in-Err : goal.returns-in-Err
returns-in-Err g c = record { made = c.fail.ensures.made c.args._who (Get c.args.name) }
