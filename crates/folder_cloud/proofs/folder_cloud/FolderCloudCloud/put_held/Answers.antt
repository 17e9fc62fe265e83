use Rattle.std.specs.Option.{option_copied}
use Rattle.cloud_trait.specs.Ask.{PutHeld}
use Rattle.folder_cloud.proofs.folder_cloud.FolderCloudCloud.put_held.Goals as goal

pub returns-in-Err-Fault : goal.returns-in-Err-Fault
returns-in-Err-Fault g c = record { made = c.fail_held.ensures.made c.args._who (PutHeld c.args.name c.args.bytes.now c.args.first.now (option_copied c.args.second)) }
