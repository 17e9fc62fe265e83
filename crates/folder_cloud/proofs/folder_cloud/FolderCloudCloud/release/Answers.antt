use Rattle.cloud_trait.specs.Ask.{Release}
use Rattle.folder_cloud.proofs.folder_cloud.FolderCloudCloud.release.Goals as goal

pub returns-in-Err : goal.returns-in-Err
returns-in-Err g c = record { made = c.fail.ensures.made c.args._who (Release c.args.lease) }
