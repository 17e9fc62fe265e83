use Rattle.std.proofs.Common.{◌≡◌, Result, Err, subst}
use Rattle.std.specs.Option.{option_copied}
use Rattle.db_base.specs.declared.trouble.Trouble.{Trouble}
use Rattle.leaf_view.specs.Leaf.{Leaf}
use Rattle.cloud_trait.specs.declared.answer.Answer.{Answer}
use Rattle.cloud_trait.specs.Machine.{Took}
use Rattle.cloud_trait.specs.declared.answer.Answer.TheVariants.{Failed}
use Rattle.ckpt_parts.specs.declared.fault.Fault.{Fault}
use Rattle.ckpt_parts.specs.declared.fault.Fault.TheVariants.{Stops}
use Rattle.ckpt_parts.specs.Leaves.{HoldsLinked}
use Rattle.ckpt_parts.specs.Unless.{UnlessMemory}
use Rattle.page_ckpt.specs.Paging.{Paging, Step, stopping, SameLeases}
use Rattle.page_ckpt.proofs.Leading.{right_stopped}
use Rattle.page_ckpt.proofs.checkpoint.PageCkpt.read_right_bytes.Goals as goal

pub returns-in-Err-Stops : goal.returns-in-Err-Stops
returns-in-Err-Stops c =
    let e : c.linked_leaf.result ≡ Err (Stops c.in-Err-Stops.trouble) = cc (c.in-Err-Stops.is, c.in-Err-Stops.field-0-is) in
    let found = subst (λ (r : Result Leaf Fault). UnlessMemory (HoldsLinked c.self.inside.tree c.self.inside.at.page c.as_slice.result.now (option_copied c.args.got)) r) e c.linked_leaf.ensures in
    let low = subst (λ (low : _). HoldsLinked c.self.inside.tree c.self.inside.at.page low (option_copied c.args.got) (Err c.in-Err-Stops.trouble)) c.as_slice.ensures found in
    let holds = subst (λ (p : Paging). HoldsLinked p.tree p.at.page p.at.low (option_copied c.args.got) (Err c.in-Err-Stops.trouble)) c.self.view_is low in
    let stops = subst (λ (t : Trouble). Took (λ (q : Paging) (x : Answer) (next : Step). next ≡ stopping q t) SameLeases c.args.self.now Failed c.stop.new.self c.stop.result) c.in-Err-Stops.trouble-is c.stop.ensures.took in
    right_stopped c.args.self.now c.stop.new.self Failed c.stop.result (option_copied c.args.got) c.in-Err-Stops.trouble holds stops
