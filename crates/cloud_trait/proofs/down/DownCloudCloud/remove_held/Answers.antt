use Rattle.cloud_trait.proofs.down.DownCloudCloud.remove_held.Goals as goal

pub returns : goal.returns
returns c = record { made = c.fail_held.ensures.made _ }
