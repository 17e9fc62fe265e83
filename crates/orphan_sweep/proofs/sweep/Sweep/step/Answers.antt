use Rattle.cloud_trait.proofs.CalmLemmas.{goes_well}
use Rattle.cloud_trait.specs.Machine.{calls_of}
use Rattle.orphan_sweep.proofs.Ample.{handed_refused, handed_wants, took_ample}
use Rattle.orphan_sweep.proofs.Calm.{went_quiet, tells_well}
use Rattle.orphan_sweep.proofs.Causes.{took_tells}
use Rattle.orphan_sweep.proofs.Demands.{took_owes}
use Rattle.orphan_sweep.proofs.End.{took_less}
use Rattle.orphan_sweep.proofs.Leading.{took_handed}
use Rattle.orphan_sweep.proofs.Leases.{went_stands, stands_names, stands_few, took_gives, took_returns}
use Rattle.orphan_sweep.proofs.Meaning.{went_knows, knows_removes, took_swept}
use Rattle.orphan_sweep.proofs.sweep.Sweep.step.Goals as goal

pub returns-clause-steps : goal.returns-clause-steps
returns-clause-steps g c =
    let old = c.args.self.now in
    let answer = c.call-answer.result in
    let fits = c.call-answer.ensures.made.fits in
    let took = took_handed old _ _ answer _ c.call-answer.ensures.left c.absorb-turn.ensures.took in
    record {
      did = record { answer = answer; made = c.call-answer.ensures.made; took = took };
      memory = c.absorb-turn.ensures.memory;
      means = λ h went.
          let stands = went_stands old h went in
          let knows = went_knows old h went in
          let tells = took_tells old _ answer _ stands.own fits took in
          record {
            knows = knows;
            removes = knows_removes old (calls_of h) knows;
            stands = stands;
            names = stands_names old h stands;
            few = stands_few old h stands;
            tells = tells;
            ample = took_ample old _ answer _ stands.own took
                (handed_refused old _ answer _ c.call-answer.ensures.left c.absorb-turn.ensures.refused)
                (handed_wants old _ answer _ c.call-answer.ensures.left c.absorb-turn.ensures.listed);
            owes = λ t other shown. took_owes old _ answer _ t stands.own (went_quiet old h went) fits took other shown;
            swept = took_swept old _ (calls_of h) answer _ knows took;
            returned = took_returns old _ h answer _ stands fits took;
            well = λ calm. tells_well old c.absorb-turn.new.self h answer _ went calm.1 (goes_well _ c.call-answer.ensures.made calm.0) tells;
          };
    }

pub returns-clause-less : goal.returns-clause-less
returns-clause-less g c =
    took_less c.args.self.now _ c.call-answer.result _ c.are_few.ensures.visited c.are_few.ensures.orphans
    (took_handed c.args.self.now _ _ c.call-answer.result _ c.call-answer.ensures.left c.absorb-turn.ensures.took)

pub returns-clause-gives_back : goal.returns-clause-gives_back
returns-clause-gives_back g c = λ h went.
    took_gives c.args.self.now _ h c.call-answer.result _ (went_stands c.args.self.now h went) c.call-answer.ensures.made.fits
    (took_handed c.args.self.now _ _ c.call-answer.result _ c.call-answer.ensures.left c.absorb-turn.ensures.took)
