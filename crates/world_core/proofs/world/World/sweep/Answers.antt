use Rattle.std.proofs.Common.{ℕ, inl, subst}
use Rattle.client_work.specs.Session.{sweeping_session}
use Rattle.session_facts.specs.Lines.Errands.{sweeps}
use Rattle.world_core.specs.Handled.{Has, SettlesOn}
use Rattle.world_core.specs.Span.{span_of}
use Rattle.world_core.proofs.world.World.sweep.Goals as goal

pub returns-in-Ok-clause-sweeps : goal.returns-in-Ok-clause-sweeps
returns-in-Ok-clause-sweeps g c =
    let Own : ℕ → Type 0 = λ k.
    Has k (sweeping_session c.args.tree) c.args.self.now c.begin_sweep.new.self
    × SettlesOn (sweeps c.args.tree) (record { session = k; event = c.args.n }) (span_of (g.C.Cloud.seen c.args.cloud.now) (g.C.Cloud.seen c.sweep_on.new.cloud) c.begin_sweep.new.self c.sweep_on.new.self) c.sweep_on.result
    in
    let h : Own 0 = subst Own c.settler-session.ensures (c.in-Ok.ensures.ok, c.sweep_on.ensures.sweeps) in
    inl (record { begun = c.begin_sweep.new.self; begins = h.0; notes = c.begin_sweep.ensures.notes; settles = h.1 })
