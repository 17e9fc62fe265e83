use Rattle.std.proofs.Common.{◌≡◌, Some, None, sym, ap, subst, ◌∙◌}
use Rattle.cloud_trait.specs.Ask.{Ask}
use Rattle.cloud_trait.specs.Call.{ask_of}
use Rattle.cloud_trait.specs.Weather.{Makes}
use Rattle.tree_ckpt.specs.Work.{work_ask, leaving}
use Rattle.tree_ckpt.proofs.Calling.{gives, stays}
use Rattle.tree_ckpt.proofs.called.make_call.Goals as goal

pub returns-in-Some-clause-made : goal.returns-in-Some-clause-made
returns-in-Some-clause-made g c =
    let e : leaving c.args.place.now ≡ Some c.in-Some.lease = sym c.give.ensures.lease ∙ c.in-Some.is in
    subst (λ (ask : Ask). Makes c.args.who ask c.let_go.result (g.C.Cloud.seen c.args.cloud.now) (g.C.Cloud.seen c.let_go.new.cloud))
    (sym (gives c.args.tree c.args.place.now c.in-Some.lease e)) c.let_go.ensures

pub returns-in-None-clause-made : goal.returns-in-None-clause-made
returns-in-None-clause-made g c =
    let e : leaving c.args.place.now ≡ None = sym c.give.ensures.lease ∙ c.in-None.is in
    let same : ask_of c.in_hand.result ≡ work_ask c.args.tree c.args.place.now = c.in_hand.ensures ∙ ap (work_ask c.args.tree) (c.give.ensures.left ∙ stays c.args.place.now e) in
    subst (λ (ask : Ask). Makes c.args.who ask c.perform.result (g.C.Cloud.seen c.args.cloud.now) (g.C.Cloud.seen c.perform.new.cloud)) same c.perform.ensures
