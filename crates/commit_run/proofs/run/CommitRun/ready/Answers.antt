use Rattle.std.proofs.Common.{subst}
use Rattle.commit_run.specs.Run.{Run, run_ready, Led}
use Rattle.commit_run.proofs.Causes.{ready_causes}
use Rattle.commit_run.proofs.Demands.{ready_demands}
use Rattle.commit_run.proofs.Meaning.{ready_means}
use Rattle.commit_run.proofs.End.{ready_most}
use Rattle.commit_run.proofs.CallDemands.{ready_exact}
use Rattle.commit_run.proofs.run.CommitRun.ready.Goals as goal

pub returns-clause-means : goal.returns-clause-means
returns-clause-means c =
    λ home changes new. ready_means home changes c.args.cache.now c.args.self.now (record { draft = c.begin-hand.new.self; hand = c.begin-hand.result.0 }, c.begin-hand.new.cache) c.begin-hand.result.1 new
    (subst (λ (r : Run). Led (run_ready (r, c.args.cache.now)) (record { draft = c.begin-hand.new.self; hand = c.begin-hand.result.0 }, c.begin-hand.new.cache) c.begin-hand.result.1) c.self.view_is c.begin-hand.ensures.led)

pub returns-clause-calls : goal.returns-clause-calls
returns-clause-calls c =
    λ home changes new. ready_most home changes c.args.cache.now c.args.self.now (record { draft = c.begin-hand.new.self; hand = c.begin-hand.result.0 }, c.begin-hand.new.cache) c.begin-hand.result.1 new
    (subst (λ (r : Run). Led (run_ready (r, c.args.cache.now)) (record { draft = c.begin-hand.new.self; hand = c.begin-hand.result.0 }, c.begin-hand.new.cache) c.begin-hand.result.1) c.self.view_is c.begin-hand.ensures.led)

pub returns-clause-exact : goal.returns-clause-exact
returns-clause-exact c =
    λ home changes new. ready_exact home changes c.args.cache.now c.args.self.now (record { draft = c.begin-hand.new.self; hand = c.begin-hand.result.0 }, c.begin-hand.new.cache) c.begin-hand.result.1 new
    (subst (λ (r : Run). Led (run_ready (r, c.args.cache.now)) (record { draft = c.begin-hand.new.self; hand = c.begin-hand.result.0 }, c.begin-hand.new.cache) c.begin-hand.result.1) c.self.view_is c.begin-hand.ensures.led)

pub returns-clause-causes : goal.returns-clause-causes
returns-clause-causes c =
    λ home changes new. ready_causes home changes c.args.cache.now c.args.self.now (record { draft = c.begin-hand.new.self; hand = c.begin-hand.result.0 }, c.begin-hand.new.cache) c.begin-hand.result.1 new
    (subst (λ (r : Run). Led (run_ready (r, c.args.cache.now)) (record { draft = c.begin-hand.new.self; hand = c.begin-hand.result.0 }, c.begin-hand.new.cache) c.begin-hand.result.1) c.self.view_is c.begin-hand.ensures.led)

pub returns-clause-demands : goal.returns-clause-demands
returns-clause-demands c =
    λ home changes new. ready_demands home changes c.args.cache.now c.args.self.now (record { draft = c.begin-hand.new.self; hand = c.begin-hand.result.0 }, c.begin-hand.new.cache) c.begin-hand.result.1 c.len.ensures.whole new
    (subst (λ (r : Run). Led (run_ready (r, c.args.cache.now)) (record { draft = c.begin-hand.new.self; hand = c.begin-hand.result.0 }, c.begin-hand.new.cache) c.begin-hand.result.1) c.self.view_is c.begin-hand.ensures.led)
