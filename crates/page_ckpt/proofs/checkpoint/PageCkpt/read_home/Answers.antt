use Rattle.std.proofs.Common.{subst, Ok}
use Rattle.cloud_trait.specs.Machine.{Goes}
use Rattle.page_ckpt.specs.contracts.checkpoint.PageCkpt.{the_view}
use Rattle.page_ckpt.specs.declared.stage.Stage.TheVariants.{Receiving}
use Rattle.page_ckpt.specs.Paging.{Paging, HomeGot, leaf_or_empty}
use Rattle.page_ckpt.proofs.Leading.{home_took}
use Rattle.page_ckpt.proofs.checkpoint.PageCkpt.read_home.Goals as goal

pub returns-in-Ok-clause-took : goal.returns-in-Ok-clause-took
returns-in-Ok-clause-took c =
    subst (λ (p : Paging). HomeGot p (Ok c.args.got) (Goes (record (the_view c.self.inside) { stage = Receiving; home = leaf_or_empty c.in-Ok.home }))) c.self.view_is
    (home_took (the_view c.self.inside) c.args.got c.in-Ok.home c.in-Ok.ensures)
