use Rattle.std.proofs.Common.{◌^◌, refl, subst}
use Rattle.recover_run.specs.Emptying.{deed_of}
use Rattle.recover_run.specs.Recovery.{IsSound}
use Rattle.recover_run.proofs.Ample.{handed_ample, handed_spared, took_ample}
use Rattle.recover_run.proofs.End.{took_less}
use Rattle.recover_run.proofs.Demands.{took_exact, took_nothing, took_answers}
use Rattle.recover_run.proofs.Handing.{handed_keeps, took_handed}
use Rattle.recover_run.proofs.Causes.{took_tells}
use Rattle.recover_run.proofs.Meaning.{came_known, came_means}
use Rattle.recover_run.proofs.Leases.{stands_leases, stands_names, stands_gives, took_returns, took_hands}
use Rattle.recover_run.proofs.Emptying.{came_empties}
use Rattle.recover_run.proofs.Calm.{came_well}
use Rattle.recover_run.proofs.Missing.{came_waits}
use Rattle.recover_run.proofs.Within.{went_few}
use Rattle.recover_run.proofs.recover.RecoverRun.step.Goals as goal

pub absorb-turn-requires : goal.absorb-turn-requires
absorb-turn-requires g c = handed_keeps c.args.self.now _ c.call-answer.result c.call-answer.ensures.left

pub returns-clause-steps : goal.returns-clause-steps
returns-clause-steps g c =
    let old = c.args.self.now in
    let answer = c.call-answer.result in
    let made = c.call-answer.ensures.made in
    let fits = c.call-answer.ensures.made.fits in
    let took = took_handed old _ answer _ _ c.call-answer.ensures.left c.absorb-turn.ensures.took in
    record {
      did = record { answer = answer; made = made; took = took };
      memory = c.absorb-turn.ensures.memory;
      ample = took_ample old _ answer _ took
          (handed_ample old _ answer _ c.call-answer.ensures.left c.absorb-turn.ensures.refused)
          (handed_spared old _ answer _ c.call-answer.ensures.left c.absorb-turn.ensures.spared);
      means = λ client aim former h went.
          let known = came_known client aim former h old went in
          record {
            own = known.client_is;
            aims = known.aim_is;
            tells = took_tells client aim former h old _ answer _ went fits took;
            owes = took_exact client aim former h old _ answer _ went fits took;
            absent = took_nothing old _ answer _ took;
            answers = took_answers client aim former h old _ answer _ went took;
            done = came_means old _ answer _ took client aim former h went;
            hands = took_hands client aim former h old _ answer _ went fits took;
            returned = took_returns client aim former h (deed_of _ old answer _ _) old _ _ went refl fits took;
            well = came_well _ _ _ old _ answer _ made took client aim former h went;
            waits = came_waits _ _ _ old _ answer _ made took client aim former h went;
            empties = came_empties _ _ _ old _ answer _ made took client aim former h went;
          };
    }

pub returns-clause-less : goal.returns-clause-less
returns-clause-less g c =
    took_less (2 ^ 64) 255 c.args.self.now _ c.call-answer.result _ (subst IsSound c.self.view_is c.self.invariant) c.few.ensures
    (took_handed c.args.self.now _ _ _ _ c.call-answer.ensures.left c.absorb-turn.ensures.took)

pub returns-clause-leases : goal.returns-clause-leases
returns-clause-leases g c = λ client aim former h went. stands_leases client aim former h c.args.self.now went

pub returns-clause-names : goal.returns-clause-names
returns-clause-names g c = λ client aim former h went. stands_names client aim former h c.args.self.now went

pub returns-clause-gives_back : goal.returns-clause-gives_back
returns-clause-gives_back g c = λ client aim former h went.
    stands_gives client aim former h c.args.self.now _ c.call-answer.result _ went c.call-answer.ensures.made.fits
    (took_handed c.args.self.now _ _ _ _ c.call-answer.ensures.left c.absorb-turn.ensures.took)

pub returns-clause-within : goal.returns-clause-within
returns-clause-within g c = λ client aim former h went. went_few client aim former h c.args.self.now went
