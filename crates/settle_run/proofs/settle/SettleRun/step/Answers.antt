use Rattle.std.proofs.Common.{◌≡◌, ◌<◌, List, refl, subst}
use Rattle.cloud_trait.specs.declared.turn.Turn.TheVariants.{More}
use Rattle.cloud_trait.specs.Machine.{Deed}
use Rattle.settle_run.specs.End.{calls_left}
use Rattle.settle_run.specs.Meaning.{Went, Stepped, deed_of}
use Rattle.settle_run.specs.Settling.{Settling}
use Rattle.settle_run.specs.Leases.{GivesBack}
use Rattle.settle_run.specs.contracts.settle.SettleRun.{the_view}
use Rattle.settle_run.proofs.Causes.{took_exact, took_follows, exact_tells}
use Rattle.settle_run.proofs.End.{turn_less}
use Rattle.settle_run.proofs.Leases.{went_holds, took_gives, took_returns}
use Rattle.settle_run.proofs.Meaning.{went_stands, own_calls, took_means}
use Rattle.settle_run.proofs.Stepped.{followed}
use Rattle.settle_run.proofs.settle.SettleRun.step.Goals as goal

pub returns-clause-steps : goal.returns-clause-steps
returns-clause-steps g c =
    let s = c.step-turn.ensures.steps.did in
    let goes = followed (the_view c.self.inside) c.follow-next.new.self c.step-turn.new.self s.answer c.step-turn.result c.follow-next.result s.took c.follow-next.ensures in
    let exact = took_exact (the_view c.self.inside) c.follow-next.new.self s.answer c.follow-next.result goes in
    let before = g.C.Cloud.seen c.args.cloud.now in
    let after = g.C.Cloud.seen c.step-turn.new.cloud in
    subst
    (λ (old : Settling). Stepped c.args.who before after old c.follow-next.new.self c.follow-next.result)
    c.self.view_is
    (record {
      did = record { answer = s.answer; made = s.made; took = goes };
      part = c.step-turn.new.self;
      part_turn = c.step-turn.result;
      stepped = c.step-turn.ensures.steps.stepped;
      follows = took_follows (the_view c.self.inside) c.follow-next.new.self c.step-turn.new.self c.step-turn.result c.follow-next.result c.follow-next.ensures;
      tells = exact_tells (the_view c.self.inside) s.answer c.follow-next.result exact;
      exact = exact;
      means = λ h went.
          took_means h (deed_of c.args.who (the_view c.self.inside) s.answer before after) (the_view c.self.inside) c.follow-next.new.self c.follow-next.result
          (went_stands h (the_view c.self.inside) went) refl s.made goes;
      returned = λ h went.
          took_returns h (deed_of c.args.who (the_view c.self.inside) s.answer before after) (the_view c.self.inside) c.follow-next.new.self c.follow-next.result
          (went_stands h (the_view c.self.inside) went) refl s.made goes;
    })

pub returns-clause-less : goal.returns-clause-less
returns-clause-less g c =
    let s = c.step-turn.ensures.steps.did in
    subst
    (λ (old : Settling). (h : List Deed) → Went h old → c.follow-next.result ≡ More → calls_left c.follow-next.new.self < calls_left old)
    c.self.view_is
    (λ h went.
    let own = own_calls h (the_view c.self.inside) went in
    turn_less (the_view c.self.inside) c.follow-next.new.self c.step-turn.new.self s.answer c.step-turn.result c.follow-next.result s.took c.follow-next.ensures
    c.few.ensures.known c.few.ensures.visited (c.step-turn.ensures.less own.0 own.1))

pub returns-clause-holds : goal.returns-clause-holds
returns-clause-holds g c = λ h went. went_holds h c.args.self.now went

pub returns-clause-gives_back : goal.returns-clause-gives_back
returns-clause-gives_back g c =
    let s = c.step-turn.ensures.steps.did in
    subst
    (λ (old : Settling). (h : List Deed) → Went h old → GivesBack c.follow-next.new.self c.follow-next.result)
    c.self.view_is
    (λ h went.
    let own = own_calls h (the_view c.self.inside) went in
    took_gives (the_view c.self.inside) c.follow-next.new.self c.step-turn.new.self own.0 s.answer c.step-turn.result c.follow-next.result own.1 s.made.fits
    s.took c.follow-next.ensures)
