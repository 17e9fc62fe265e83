use Rattle.std.proofs.Common.{◌≡◌, ◌<◌, ◌^◌, length, subst, arith}
use Rattle.byte_format.specs.Whole.{IsBytes}
use Rattle.cloud_trait.specs.declared.turn.Turn.TheVariants.{More}
use Rattle.cloud_trait.specs.Machine.{occasion_of}
use Rattle.tree_walk.specs.Walk.{sought}
use Rattle.attr_index.specs.End.{calls_left}
use Rattle.txn_buffer.specs.Noted.{AreDistinct}
use Rattle.attr_index.specs.Look.{Own, Look}
use Rattle.attr_index.specs.Stepped.{Stepped}
use Rattle.attr_index.proofs.Turns.{look_stepped, look_fewer}
use Rattle.attr_index.proofs.Within.{looked_within}
use Rattle.attr_index.proofs.lookup.Lookup.step.Goals as goal

pub returns-clause-stepped : goal.returns-clause-stepped
returns-clause-stepped g c =
    let P : Look → Type 0 = λ s. Stepped c.args.own.now (occasion_of c.args.who (g.C.Cloud.seen c.args.cloud.now) (g.C.Cloud.seen c.step-moved.new.cloud)) (s, c.args.cache.now) (c.walked-turn.new.self, c.walked-turn.new.cache) c.walked-turn.result in
    subst P c.self.view_is
    (look_stepped c.args.own.now c.args.who _ _ _ _ (c.step-moved.new.self, c.step-moved.new.cache) c.step-moved.result c.walked-turn.result c.step-moved.ensures.stepped c.step-moved.ensures.ends c.walked-turn.ensures.moves c.walked-turn.ensures.served
    (subst (λ (o : Own). AreDistinct o.buffer) c.own.view_is c.len.ensures.noted.distinct))

pub returns-clause-less : goal.returns-clause-less
returns-clause-less g c =
    let few : length c.self-2.inside.listed.items < 2 ^ 64 = omega (arith, c.self-2.inside.listed.ok.0, c.self-2.inside.listed.small.0, c.self-2.inside.listed.small.1) in
    subst (λ (s : Look). c.walked-turn.result ≡ More → calls_left c.walked-turn.new.self < calls_left s) c.self.view_is
    (look_fewer c.args.own.now c.args.who _ _ _ (c.walked-turn.new.self, c.walked-turn.new.cache) (c.step-moved.new.self, c.step-moved.new.cache) c.step-moved.result c.walked-turn.result c.step-moved.ensures.stepped c.step-moved.ensures.less c.step-moved.ensures.ends c.walked-turn.ensures.moves
    (subst (λ (s : Look). IsBytes (sought s.walk)) c.self-2.view_is (subst IsBytes c.sought.ensures c.are_bytes.ensures))
    (subst (λ (s : Look). length s.listed < 2 ^ 64) c.self-2.view_is few))

pub returns-clause-within : goal.returns-clause-within
returns-clause-within g c = λ q h vs came. looked_within q c.args.own.now h vs (c.args.self.now, c.args.cache.now) came
