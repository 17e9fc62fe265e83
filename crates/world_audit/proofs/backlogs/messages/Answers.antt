use Rattle.std.proofs.Common.{◌∙◌, ap, refl}
use Rattle.db_base.specs.declared.names.QueueName.{QueueName}
use Rattle.std.specs.Prelude.{ℕ, length}
use Rattle.std.proofs.lemmas.Result.{err_from_is_err_and}
use Rattle.cloud_trait.specs.Delivery.{unmarked}
use Rattle.world_audit.proofs.Looks.{looked_on, told_newest}
use Rattle.world_audit.proofs.Totals.{messages_none, messages_more}
use Rattle.world_audit.proofs.Answered.{root_read, root_slip, root_stops_here}
use Rattle.world_audit.proofs.backlogs.messages.Goals as goal

pub loop-page-init : goal.loop-page-init
loop-page-init g c = (c.peek.ensures.looked, λ s h. messages_none s c.args.tree)

pub loop-page-preserved : goal.loop-page-preserved
loop-page-preserved g c = (
  looked_on _ _ _ c.loop-page.invariant.0 c.backlog.ensures.looked,
  λ s h. messages_more s c.args.tree c.loop-page.page c.loop-page.sum c.in_ok-more.more c.saturating_add-sum.result (c.loop-page.invariant.1 s h)
      (let f : QueueName → ℕ = λ q. length (unmarked (s.messages q)) in c.in_ok-more.ensures.length s (c.loop-page.invariant.0.stays s h) ∙ ap f c.queue_at.ensures)
      c.saturating_add-sum.ensures,
)

pub returns-in_err-next-clause-found : goal.returns-in_err-next-clause-found
returns-in_err-next-clause-found g c =
    let p = err_from_is_err_and c.from_residual-in_err-next.result c.from_residual-in_err-next.ensures.1 in
    root_stops_here _ c.args.tree c.in_ok-bytes.bytes (told_newest (g.C.Cloud.seen c.args.cloud.now) _ c.in_ok-bytes.bytes c.in_ok-bytes.ensures.newest c.in_ok-bytes.ensures.shown) c.from_residual-in_err-next.result c.in_err-next.field-0.0 (rw (p.1, p.2) refl) c.in_err-next.ensures.err

pub returns-clause-found : goal.returns-clause-found
returns-clause-found g c = root_read _ c.args.tree c.in_ok-bytes.bytes (told_newest (g.C.Cloud.seen c.args.cloud.now) _ c.in_ok-bytes.bytes c.in_ok-bytes.ensures.newest c.in_ok-bytes.ensures.shown) c.loop-page.sum c.in_ok-next.next c.in_ok-next.ensures.ok

pub returns-in_err-bytes-clause-found : goal.returns-in_err-bytes-clause-found
returns-in_err-bytes-clause-found g c =
    let p = err_from_is_err_and c.from_residual.result c.from_residual.ensures.1 in
    root_slip _ c.args.tree c.from_residual.result c.in_err-bytes.field-0.0 (rw (p.1, p.2) refl) c.in_err-bytes.ensures.only

pub returns-in_err-more-clause-found : goal.returns-in_err-more-clause-found
returns-in_err-more-clause-found g c =
    let p = err_from_is_err_and c.from_residual-in_err-more.result c.from_residual-in_err-more.ensures.1 in
    root_slip _ c.args.tree c.from_residual-in_err-more.result c.in_err-more.field-0.0 (rw (p.1, p.2) refl) c.in_err-more.ensures.only
