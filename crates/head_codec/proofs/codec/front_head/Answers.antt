use Rattle.std.proofs.Common.{refl}
use Rattle.std.proofs.lemmas.Result.{err_from_is_err_and}
use Rattle.head_codec.specs.Spelling.{head_at}
use Rattle.head_codec.proofs.HeadLaws.{counter_exact, pending_exact}
use Rattle.head_codec.proofs.codec.front_head.Goals as goal

pub owned_list-requires : goal.owned_list-requires
owned_list-requires c = counter_exact

pub owned_list-requires-2 : goal.owned_list-requires-2
owned_list-requires-2 c = pending_exact

pub returns-in_err-rest : goal.returns-in_err-rest
unfolding head_at
returns-in_err-rest c =
    let p = err_from_is_err_and c.from_residual.result c.from_residual.ensures.1 in
    rw (p.1, p.2, c.in_err-rest.ensures) refl

pub returns-in_err-rest-2 : goal.returns-in_err-rest-2
unfolding head_at
returns-in_err-rest-2 c =
    let p = err_from_is_err_and c.from_residual-in_err-rest-2.result c.from_residual-in_err-rest-2.ensures.1 in
    rw (p.1, p.2, c.in_ok-rest.ensures, c.in_err-rest-2.ensures) refl

pub returns-in_err-epoch : goal.returns-in_err-epoch
unfolding head_at
returns-in_err-epoch c =
    let p = err_from_is_err_and c.from_residual-in_err-epoch.result c.from_residual-in_err-epoch.ensures.1 in
    rw (p.1, p.2, c.in_ok-rest.ensures, c.in_ok-rest-2.ensures, c.in_err-epoch.ensures.gives) refl

pub returns-in_err-txn : goal.returns-in_err-txn
unfolding head_at
returns-in_err-txn c =
    let p = err_from_is_err_and c.from_residual-in_err-txn.result c.from_residual-in_err-txn.ensures.1 in
    rw (p.1, p.2, c.in_ok-rest.ensures, c.in_ok-rest-2.ensures, c.in_ok-epoch.ensures.gives, c.in_err-txn.ensures.gives) refl

pub returns-in_err-phase : goal.returns-in_err-phase
unfolding head_at
returns-in_err-phase c =
    let p = err_from_is_err_and c.from_residual-in_err-phase.result c.from_residual-in_err-phase.ensures.1 in
    rw (p.1, p.2, c.in_ok-rest.ensures, c.in_ok-rest-2.ensures, c.in_ok-epoch.ensures.gives, c.in_ok-txn.ensures.gives, c.in_err-phase.ensures) refl
