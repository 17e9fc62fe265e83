use Rattle.std.proofs.Common.{inl, inr, ap, sym, subst}
use Rattle.cloud_trait.specs.Caller.{Caller}
use Rattle.world_core.specs.Handled.{LeavesReplied, MakesStep}
use Rattle.world_core.specs.Span.{span_of}
use Rattle.world_core.proofs.ReplyLemmas.{steps_to}
use Rattle.world_core.proofs.world.World.step.Goals as goal

pub returns-in-Ok-clause-steps : goal.returns-in-Ok-clause-steps
returns-in-Ok-clause-steps g c =
    subst (λ r. MakesStep c.args.who c.args.wish (span_of (g.C.Cloud.seen c.args.cloud.now) (g.C.Cloud.seen c.step_under.new.cloud) c.args.self.now c.replied.new.self) r) (sym c.replied.ensures.same)
    (inr (inl (steps_to c.args.who c.args.wish (g.C.Cloud.seen c.args.cloud.now) (g.C.Cloud.seen c.step_under.new.cloud) c.args.self.now c.step_under.new.self c.replied.new.self
    c.in-Ok.turn c.who-2.inside.session (g.S.SessionCalls.acting c.session.result.now) c.turn_reply-reply.result (ap (λ (w : Caller). w.session) c.who-2.view_is) c.in-Ok.ensures.looked c.session.ensures c.turn_reply-reply.ensures
    (subst (λ n. LeavesReplied n c.turn_reply-reply.result c.step_under.new.self c.replied.new.self) (ap (λ (w : Caller). w.session) c.who-2.view_is) c.replied.ensures.leaves))))
