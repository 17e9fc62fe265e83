use Rattle.world_core.specs.Handled.{start, BreaksOff, StepsLooked}
use Rattle.world_core.specs.Span.{span_of}
use Rattle.world_core.proofs.Going.{went_further, works_further, less_further}
use Rattle.world_core.proofs.GrowthLemmas.{grows_same, grows_on}
use Rattle.world_core.proofs.QuotaLemmas.{spends_not, spends_on}
use Rattle.cloud_trait.specs.Caller.{Caller}
use Rattle.std.proofs.Common.{ap, refl, subst}
use Rattle.db_base.specs.declared.wish.Wish.TheVariants.{Plain}
use Rattle.world_core.proofs.world.World.run_on.Goals as goal

pub steps-init : goal.steps-init
steps-init g c = record {
  went = start;
  grows = grows_same _ (g.C.Cloud.seen c.args.cloud.now) (g.C.Cloud.seen c.args.cloud.now) refl;
  spends = spends_not c.args.quota.now (g.C.Cloud.seen c.args.cloud.now) (g.C.Cloud.seen c.args.cloud.now) (λ x told. told);
  works = c.requires;
}

pub steps-preserved : goal.steps-preserved
steps-preserved g c = record {
  went = went_further c.args.who (g.C.Cloud.seen c.args.cloud.now) (g.C.Cloud.seen c.steps.cloud) (g.C.Cloud.seen c.step_within.new.cloud)
      c.args.self.now c.steps.self c.step_within.new.self c.in-Ok-More.field-0 c.in-Ok-More.field-0-is c.steps.invariant.went c.in-Ok-More.ensures.looked;
  grows = grows_on c.args.who.event (g.C.Cloud.seen c.args.cloud.now) (g.C.Cloud.seen c.steps.cloud) (g.C.Cloud.seen c.step_within.new.cloud) c.steps.invariant.grows c.step_within.ensures.grows;
  spends = spends_on (g.C.Cloud.seen c.args.cloud.now) (g.C.Cloud.seen c.steps.cloud) (g.C.Cloud.seen c.step_within.new.cloud) c.args.quota.now c.steps.quota c.step_within.new.quota c.steps.invariant.spends c.step_within.ensures.spends;
  works = works_further c.args.who (g.C.Cloud.seen c.steps.cloud) (g.C.Cloud.seen c.step_within.new.cloud) c.steps.self c.step_within.new.self c.in-Ok-More.field-0 c.in-Ok-More.field-0-is c.in-Ok-More.ensures.looked;
}

pub returns-in-Err-clause-grows : goal.returns-in-Err-clause-grows
returns-in-Err-clause-grows g c =
    grows_on c.args.who.event (g.C.Cloud.seen c.args.cloud.now) (g.C.Cloud.seen c.steps.cloud) (g.C.Cloud.seen c.step_within.new.cloud) c.steps.invariant.grows c.step_within.ensures.grows

pub returns-in-Ok-Ended-clause-grows : goal.returns-in-Ok-Ended-clause-grows
returns-in-Ok-Ended-clause-grows g c =
    grows_on c.args.who.event (g.C.Cloud.seen c.args.cloud.now) (g.C.Cloud.seen c.steps.cloud) (g.C.Cloud.seen c.step_within.new.cloud) c.steps.invariant.grows c.step_within.ensures.grows

pub returns-in-Err-clause-spends : goal.returns-in-Err-clause-spends
returns-in-Err-clause-spends g c =
    spends_on (g.C.Cloud.seen c.args.cloud.now) (g.C.Cloud.seen c.steps.cloud) (g.C.Cloud.seen c.step_within.new.cloud) c.args.quota.now c.steps.quota c.step_within.new.quota c.steps.invariant.spends c.step_within.ensures.spends

pub returns-in-Ok-Ended-clause-spends : goal.returns-in-Ok-Ended-clause-spends
returns-in-Ok-Ended-clause-spends g c =
    spends_on (g.C.Cloud.seen c.args.cloud.now) (g.C.Cloud.seen c.steps.cloud) (g.C.Cloud.seen c.step_within.new.cloud) c.args.quota.now c.steps.quota c.step_within.new.quota c.steps.invariant.spends c.step_within.ensures.spends

pub steps-smaller : goal.steps-smaller
steps-smaller g c =
    less_further c.args.who (g.C.Cloud.seen c.steps.cloud) (g.C.Cloud.seen c.step_within.new.cloud) c.steps.self c.step_within.new.self c.in-Ok-More.field-0 c.in-Ok-More.field-0-is c.in-Ok-More.ensures.looked

pub returns-in-Err-clause-short : goal.returns-in-Err-clause-short
returns-in-Err-clause-short g c = record {
  mid = g.C.Cloud.seen c.steps.cloud;
  world = c.steps.self;
  went = c.steps.invariant.went;
  short = record {
    works = c.steps.invariant.works;
    left = c.step_within.new.self;
    falls = c.in-Err.ensures.short;
    breaks = subst (λ n. BreaksOff n c.step_within.new.self c.break_off.new.self) (ap (λ (w : Caller). w.session) c.who.view_is) c.break_off.ensures;
  };
}

pub returns-in-Ok-Ended-clause-comes : goal.returns-in-Ok-Ended-clause-comes
returns-in-Ok-Ended-clause-comes g c = record {
  mid = g.C.Cloud.seen c.steps.cloud;
  world = c.steps.self;
  went = c.steps.invariant.went;
  steps = subst (λ t. StepsLooked c.args.who Plain (span_of (g.C.Cloud.seen c.steps.cloud) (g.C.Cloud.seen c.step_within.new.cloud) c.steps.self c.step_within.new.self) t) c.in-Ok-Ended.field-0-is c.in-Ok-Ended.ensures.looked;
}
