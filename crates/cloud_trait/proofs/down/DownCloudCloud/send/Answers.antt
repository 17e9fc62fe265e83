use Rattle.cloud_trait.proofs.down.DownCloudCloud.send.Goals as goal

pub returns : goal.returns
returns c = record { made = c.fail.ensures.made _ }
