use Rattle.std.proofs.Common.{inl, inr, ap, sym, subst}
use Rattle.cloud_trait.specs.Caller.{Caller}
use Rattle.world_core.specs.Handled.{LeavesReplied, Runs}
use Rattle.world_core.specs.Span.{span_of}
use Rattle.world_core.proofs.ReplyLemmas.{runs_to}
use Rattle.world_core.proofs.world.World.run.Goals as goal

pub returns-in-Ok-clause-runs : goal.returns-in-Ok-clause-runs
returns-in-Ok-clause-runs g c =
    subst (λ r. Runs c.args.who (span_of (g.C.Cloud.seen c.args.cloud.now) (g.C.Cloud.seen c.run_on.new.cloud) c.args.self.now c.replied.new.self) r) (sym c.replied.ensures.same)
    (inr (inl (runs_to c.args.who (g.C.Cloud.seen c.args.cloud.now) (g.C.Cloud.seen c.run_on.new.cloud) c.args.self.now c.run_on.new.self c.replied.new.self
    c.in-Ok.answer c.who-2.inside.session (g.S.SessionCalls.acting c.session.result.now) c.reply_of-reply.result (ap (λ (w : Caller). w.session) c.who-2.view_is) c.in-Ok.ensures.comes c.session.ensures c.reply_of-reply.ensures
    (subst (λ n. LeavesReplied n c.reply_of-reply.result c.run_on.new.self c.replied.new.self) (ap (λ (w : Caller). w.session) c.who-2.view_is) c.replied.ensures.leaves))))
