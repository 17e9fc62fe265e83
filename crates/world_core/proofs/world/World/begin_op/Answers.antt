use Rattle.std.proofs.Common.{subst, sym}
use Rattle.world_core.specs.Handled.{BeginsOp}
use Rattle.world_core.specs.Sessions.{Changes}
use Rattle.world_core.proofs.ReplyLemmas.{begins_to}
use Rattle.world_core.proofs.world.World.begin_op.Goals as goal

pub returns-clause-session : goal.returns-clause-session
returns-clause-session g c =
    rw (← c.self.view_is) (subst (λ r. Changes c.args.number (BeginsOp c.args.op r) c.self.inside.sessions c.replied.new.self.sessions) (sym c.replied.ensures.same)
    (begins_to c.args.number c.args.op (record { sessions = c.self.inside.sessions; audit = c.self.inside.audit; blind = c.self.inside.blind; notes = c.self.inside.notes })
    (record { sessions = c.begin-begun.new.self; audit = c.self.inside.audit; blind = c.self.inside.blind; notes = c.self.inside.notes }) c.replied.new.self
    c.begin-begun.result (g.S.SessionCalls.acting c.get.result.now) c.begun_reply-reply.result c.begin-begun.ensures c.get.ensures c.begun_reply-reply.ensures c.replied.ensures.leaves))
