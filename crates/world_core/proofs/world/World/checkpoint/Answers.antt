use Rattle.std.proofs.Common.{ap, inr, subst}
use Rattle.std.proofs.lemmas.Result.{on_err_weaker}
use Rattle.cloud_trait.specs.Caller.{Caller}
use Rattle.client_work.specs.declared.answer.Answer.TheVariants as answer
use Rattle.world_core.specs.Handled.{BeginsCheckpoint, BreaksOff, ComesTo}
use Rattle.world_core.specs.Span.{span_of}
use Rattle.world_core.proofs.Checkpointing.{answers_checkpoint, answers_none}
use Rattle.world_core.proofs.world.World.checkpoint.Goals as goal

pub unreachable-requires : goal.unreachable-requires
unreachable-requires g c =
    answers_none c.in_ok-run_on.field-0 c.in_default.not-Done c.in_default.not-Trouble
    (answers_checkpoint c.args.who c.args.queue (g.C.Cloud.seen c.args.cloud.now) (g.C.Cloud.seen c.run_on.new.cloud) c.args.self.now c.begin_checkpoint.new.self c.run_on.new.self c.in_ok-run_on.field-0
    c.requires.opened
    (subst (λ n. BeginsCheckpoint n c.args.queue c.args.self.now c.begin_checkpoint.new.self) (ap (λ (w : Caller). w.session) c.who.view_is) c.begin_checkpoint.ensures.begins)
    c.in_ok-run_on.ensures.comes)

pub returns-in-Trouble-clause-short : goal.returns-in-Trouble-clause-short
returns-in-Trouble-clause-short g c = on_err_weaker c.pass_over.result (λ p. record {
  queue = c.args.queue;
  begun = c.begin_checkpoint.new.self;
  begins = subst (λ n. BeginsCheckpoint n c.args.queue c.args.self.now c.begin_checkpoint.new.self) (ap (λ (w : Caller). w.session) c.who.view_is) c.begin_checkpoint.ensures.begins;
  fails = inr (
    c.run_on.new.self,
    subst (λ t. ComesTo c.args.who (span_of (g.C.Cloud.seen c.args.cloud.now) (g.C.Cloud.seen c.run_on.new.cloud) c.begin_checkpoint.new.self c.run_on.new.self) (answer.Trouble t)) p.1
        (subst (λ a. ComesTo c.args.who (span_of (g.C.Cloud.seen c.args.cloud.now) (g.C.Cloud.seen c.run_on.new.cloud) c.begin_checkpoint.new.self c.run_on.new.self) a) c.in-Trouble.is c.in_ok-run_on.ensures.comes),
    subst (λ n. BreaksOff n c.run_on.new.self c.pass_over.new.self) (ap (λ (w : Caller). w.session) c.who-2.view_is) p.0,
  );
}) c.pass_over.ensures.short
