use Rattle.std.proofs.Common.{arith, length, rules, ◌≡◌, ◌∙◌, ◌∷◌, ◌++◌, ◌<◌}
use Rattle.memory_cloud.specs.Choice.{chosen_at}
use Rattle.memory_cloud.proofs.QueueLemmas.{choose-step}
use Rattle.memory_cloud.proofs.copies.add_chosen.Goals as goal

pub loop-position-preserved : goal.loop-position-preserved
loop-position-preserved c =
    let e : c.loop-position.left.now ≡ c.in-Some.position.now ∷ c.in-Some.rest.now = search rules in
    let p : c.push_chosen.new.out.items ≡ c.loop-position.out.items ++ chosen_at c.args.messages.now c.in-Some.position.now = search rules in
    let h : length c.loop-position.out.items < c.args.most = omega (arith, c.loop-position.out.ok.0) in
    rw p (choose-step c.loop-position.out.items c.args.most c.in-Some.position.now c.args.messages.now c.in-Some.rest.now h ∙ (rw e at c.loop-position.invariant))
