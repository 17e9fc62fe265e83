use Rattle.std.proofs.Common.{ℕ, inl, subst}
use Rattle.client_work.specs.Session.{settling_session}
use Rattle.session_facts.specs.Lines.Errands.{settles}
use Rattle.world_core.specs.Handled.{Has, SettlesOn}
use Rattle.world_core.specs.Span.{span_of}
use Rattle.world_core.proofs.world.World.settle.Goals as goal

pub returns-in-Ok-clause-settles : goal.returns-in-Ok-clause-settles
returns-in-Ok-clause-settles g c =
    let Own : ℕ → Type 0 = λ k.
    Has k settling_session c.args.self.now c.begin_settling.new.self
    × SettlesOn settles (record { session = k; event = c.args.n }) (span_of (g.C.Cloud.seen c.args.cloud.now) (g.C.Cloud.seen c.settle_on.new.cloud) c.begin_settling.new.self c.settle_on.new.self) c.settle_on.result
    in
    let h : Own 0 = subst Own c.settler-session.ensures (c.in-Ok.ensures.ok, c.settle_on.ensures.settles) in
    inl (record { begun = c.begin_settling.new.self; begins = h.0; notes = c.begin_settling.ensures.notes; settles = h.1 })
