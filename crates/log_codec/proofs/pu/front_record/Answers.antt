use Rattle.std.proofs.Common.{refl}
use Rattle.std.proofs.lemmas.Result.{err_from_is_err_and}
use Rattle.log_codec.specs.Pu.{pu_at}
use Rattle.log_codec.proofs.pu.front_record.Goals as goal

pub returns-in_err-rest : goal.returns-in_err-rest
unfolding pu_at
returns-in_err-rest c =
    let p = err_from_is_err_and c.from_residual.result c.from_residual.ensures.1 in
    rw (p.1, p.2, c.in_err-rest.ensures) refl

pub returns-in_err-rest-2 : goal.returns-in_err-rest-2
unfolding pu_at
returns-in_err-rest-2 c =
    let p = err_from_is_err_and c.from_residual-in_err-rest-2.result c.from_residual-in_err-rest-2.ensures.1 in
    rw (p.1, p.2, c.in_ok-rest.ensures, c.in_err-rest-2.ensures) refl

pub returns-in_err-client : goal.returns-in_err-client
unfolding pu_at
returns-in_err-client c =
    let p = err_from_is_err_and c.from_residual-in_err-client.result c.from_residual-in_err-client.ensures.1 in
    rw (p.1, p.2, c.in_ok-rest.ensures, c.in_ok-rest-2.ensures, c.in_err-client.ensures.gives) refl

pub returns-in_err-epoch : goal.returns-in_err-epoch
unfolding pu_at
returns-in_err-epoch c =
    let p = err_from_is_err_and c.from_residual-in_err-epoch.result c.from_residual-in_err-epoch.ensures.1 in
    rw (p.1, p.2, c.in_ok-rest.ensures, c.in_ok-rest-2.ensures, c.in_ok-client.ensures.gives, c.in_err-epoch.ensures.gives) refl

pub returns-in_err-txn : goal.returns-in_err-txn
unfolding pu_at
returns-in_err-txn c =
    let p = err_from_is_err_and c.from_residual-in_err-txn.result c.from_residual-in_err-txn.ensures.1 in
    rw (p.1, p.2, c.in_ok-rest.ensures, c.in_ok-rest-2.ensures, c.in_ok-client.ensures.gives, c.in_ok-epoch.ensures.gives, c.in_err-txn.ensures.gives) refl

pub returns-in_err-number : goal.returns-in_err-number
unfolding pu_at
returns-in_err-number c =
    let p = err_from_is_err_and c.from_residual-in_err-number.result c.from_residual-in_err-number.ensures.1 in
    rw (p.1, p.2, c.in_ok-rest.ensures, c.in_ok-rest-2.ensures, c.in_ok-client.ensures.gives, c.in_ok-epoch.ensures.gives, c.in_ok-txn.ensures.gives, c.in_err-number.ensures.gives) refl
