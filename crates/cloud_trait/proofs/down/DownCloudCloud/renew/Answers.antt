use Rattle.cloud_trait.proofs.down.DownCloudCloud.renew.Goals as goal

pub returns-clause-made : goal.returns-clause-made
returns-clause-made c = c.fail_held.ensures.made _
