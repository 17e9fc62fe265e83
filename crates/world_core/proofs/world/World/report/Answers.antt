use Rattle.std.proofs.Common.{refl, sym, subst, inr}
use Rattle.std.specs.Prelude.{Err}
use Rattle.world_audit.specs.Finding.{Finds}
use Rattle.world_core.specs.World.{World}
use Rattle.world_core.specs.Handled.{ReportReply}
use Rattle.world_core.proofs.Stopping.{report_stops}
use Rattle.world_core.proofs.world.World.report.Goals as goal

pub returns-in-Err-report : goal.returns-in-Err-report
returns-in-Err-report g c =
    let world : World = record { sessions = c.self.inside.sessions; audit = c.self.inside.audit; blind = c.self.inside.blind; notes = c.self.inside.notes } in rw (← c.self.view_is) (record {
      world = refl;
      looked = c.in-Err-report.ensures.looked;
      reply = subst (λ r. ReportReply c.args.tree (g.C.Cloud.seen c.args.cloud.now) (g.C.Cloud.seen c.report.new.cloud) world r) (sym c.trouble_reply.ensures) (report_stops c.args.tree (g.C.Cloud.seen c.args.cloud.now) (g.C.Cloud.seen c.report.new.cloud) world c.in-Err-report.trouble (c.in-Ok.ensures.valid.0 refl) (record {
        blinded = λ e. absurd (cc);
        failed = λ e. inr (c.in-Err-report.ensures.failed e);
        found = λ sees. subst (λ k. Finds k (g.C.Cloud.seen c.args.cloud.now) (Err c.in-Err-report.trouble)) c.in-Ok.ensures.ok c.in-Err-report.ensures.found;
      }));
    })
