use Rattle.std.proofs.Common.{refl, sym, subst, Err, ◌≡◌, ◌∙◌}
use Rattle.recover_run.specs.declared.home.Home.{Home}
use Rattle.client_work.specs.Left.{at_rest}
use Rattle.client_work.specs.Session.{RenewsHome, stopped_work}
use Rattle.client_work.proofs.renewing.step_renewal.Goals as goal

pub returns-in-Err : goal.returns-in-Err
returns-in-Err g c =
    let At : Home → Type 0 = λ old. (new : Home) × RenewsHome old new c.args.who (g.C.Cloud.seen c.args.cloud.now) (g.C.Cloud.seen c.renew.new.cloud) (Err c.in-Err.trouble)
    × (at_rest c.stopped.result ≡ stopped_work c.in-Err.trouble new) in
    subst At c.home.view_is (
      record { client = c.home.inside.client; lease = c.renew.new.lease; head = c.home.inside.head; attempt = c.home.inside.attempt },
      record {
        answer = c.renew.result;
        made = c.renew.ensures.made;
        took = sym c.renewed.ensures ∙ c.in-Err.is;
        lease = c.renew.ensures.lease;
        home = refl;
      },
      c.stopped.ensures,
    )
