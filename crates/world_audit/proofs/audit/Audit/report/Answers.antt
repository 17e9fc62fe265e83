use Rattle.std.proofs.Common.{refl}
use Rattle.std.specs.Prelude.{Ok, Err}
use Rattle.world_audit.specs.Finding.{HeadsFound}
use Rattle.std.proofs.lemmas.Result.{err_from_is_err_and}
use Rattle.world_audit.proofs.Looks.{looked_on}
use Rattle.world_audit.proofs.Answered.{shown_behind, finds_memory, finds_leaves, finds_heads, finds_root, finds_whole}
use Rattle.world_audit.proofs.audit.Audit.report.Goals as goal

pub returns-in_err-committed-clause-found : goal.returns-in_err-committed-clause-found
returns-in_err-committed-clause-found g c =
    let p = err_from_is_err_and c.from_residual.result c.from_residual.ensures.1 in
    finds_memory c.args.tree _ c.from_residual.result c.in_err-committed.field-0.0 (rw (p.1, p.2) refl) c.in_err-committed.ensures.memory

pub returns-in_err-order-clause-found : goal.returns-in_err-order-clause-found
returns-in_err-order-clause-found g c =
    let p = err_from_is_err_and c.from_residual-in_err-order.result c.from_residual-in_err-order.ensures.1 in
    finds_memory c.args.tree _ c.from_residual-in_err-order.result c.in_err-order.field-0.0 (rw (p.1, p.2) refl) c.in_err-order.ensures.memory

pub returns-in_err-contents-clause-found : goal.returns-in_err-contents-clause-found
returns-in_err-contents-clause-found g c =
    let p = err_from_is_err_and c.from_residual-in_err-contents.result c.from_residual-in_err-contents.ensures.1 in
    finds_leaves c.args.tree _ c.from_residual-in_err-contents.result c.in_err-contents.field-0.0 (rw (p.1, p.2) refl) c.in_err-contents.ensures.found

pub returns-in_err-heads-clause-found : goal.returns-in_err-heads-clause-found
returns-in_err-heads-clause-found g c =
    let p = err_from_is_err_and c.from_residual-in_err-heads.result c.from_residual-in_err-heads.ensures.1 in
    finds_heads c.args.tree _ c.from_residual-in_err-heads.result c.in_ok-contents.contents c.in_ok-contents.ensures.found c.as_slice.result.now
    c.in_err-heads.field-0.0 (rw (p.1, p.2) refl) (shown_behind _ _ _ (HeadsFound c.args.tree c.as_slice.result.now (Err c.in_err-heads.field-0.0)) c.in_ok-contents.ensures.looked c.in_err-heads.ensures.found)

pub returns-in_err-messages-clause-found : goal.returns-in_err-messages-clause-found
returns-in_err-messages-clause-found g c =
    let p = err_from_is_err_and c.from_residual-in_err-messages.result c.from_residual-in_err-messages.ensures.1 in
    finds_root c.args.tree _ c.from_residual-in_err-messages.result c.in_ok-contents.contents c.in_ok-contents.ensures.found c.as_slice.result.now c.in_ok-heads.heads
    (shown_behind _ _ _ (HeadsFound c.args.tree c.as_slice.result.now (Ok c.in_ok-heads.heads)) c.in_ok-contents.ensures.looked c.in_ok-heads.ensures.found)
    c.in_err-messages.field-0.0 (rw (p.1, p.2) refl)
    (shown_behind _ _ _ _ (looked_on _ _ _ c.in_ok-contents.ensures.looked c.in_ok-heads.ensures.looked) c.in_err-messages.ensures.found)

pub returns-clause-found : goal.returns-clause-found
returns-clause-found g c =
    finds_whole c.args.tree _ _ c.in_ok-contents.contents c.in_ok-contents.ensures.found c.as_slice.result.now c.in_ok-heads.heads
    (shown_behind _ _ _ (HeadsFound c.args.tree c.as_slice.result.now (Ok c.in_ok-heads.heads)) c.in_ok-contents.ensures.looked c.in_ok-heads.ensures.found)
    c.in_ok-messages.messages _ refl refl refl (rw (c.as_slice.ensures) refl)
    (shown_behind _ _ _ _ (looked_on _ _ _ c.in_ok-contents.ensures.looked c.in_ok-heads.ensures.looked) c.in_ok-messages.ensures.found)
