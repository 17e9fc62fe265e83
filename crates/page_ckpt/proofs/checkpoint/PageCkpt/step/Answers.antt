use Rattle.page_ckpt.proofs.Ample.{handed_ample}
use Rattle.page_ckpt.proofs.Meaning.{went_knows, knows_done, knows_brought}
use Rattle.page_ckpt.proofs.Causes.{took_tells}
use Rattle.page_ckpt.proofs.End.{took_less}
use Rattle.page_ckpt.proofs.Demands.{took_owes}
use Rattle.page_ckpt.proofs.Calm.{went_quiet, took_well}
use Rattle.cloud_trait.proofs.CalmLemmas.{goes_well}
use Rattle.page_ckpt.proofs.Leading.{took_handed}
use Rattle.page_ckpt.proofs.Leases.{went_stands, stands_names, stands_gives, stands_returns, stands_few}
use Rattle.page_ckpt.proofs.checkpoint.PageCkpt.step.Goals as goal

pub returns-clause-steps : goal.returns-clause-steps
returns-clause-steps g c =
    let old = c.args.self.now in
    let answer = c.call-answer.result in
    let fits = c.call-answer.ensures.made.fits in
    let took = took_handed old _ _ answer _ c.call-answer.ensures.left c.absorb-turn.ensures.took in
    record {
      did = record { answer = answer; made = c.call-answer.ensures.made; took = took };
      memory = c.absorb-turn.ensures.memory;
      ample = handed_ample old _ answer _ c.call-answer.ensures.left c.absorb-turn.ensures.refused c.absorb-turn.ensures.wants;
      means = λ h went.
          let stands = went_stands old h went in
          let knows = went_knows old h went in
          let tells = took_tells old _ h answer _ stands fits took in
          let done = knows_done old _ h answer _ knows took in
          record {
            tells = tells;
            owes = λ t other shown. took_owes old _ h answer _ t stands (went_quiet old h went) fits took other shown;
            brought = knows_brought old _ knows;
            done = done;
            returned = stands_returns old _ h answer _ stands fits took;
            well = λ calm had. took_well old _ h answer _ went calm.1 had (goes_well _ c.call-answer.ensures.made calm.0) took tells done;
          };
    }

pub returns-clause-less : goal.returns-clause-less
returns-clause-less g c =
    took_less c.args.self.now _ c.call-answer.result _ c.call-answer.ensures.made.fits c.has_few_visited.ensures
    (took_handed c.args.self.now _ _ c.call-answer.result _ c.call-answer.ensures.left c.absorb-turn.ensures.took)

pub returns-clause-leases : goal.returns-clause-leases
returns-clause-leases g c = λ h went. (went_stands c.args.self.now h went).held

pub returns-clause-names : goal.returns-clause-names
returns-clause-names g c = λ h went. stands_names c.args.self.now h (went_stands c.args.self.now h went)

pub returns-clause-gives_back : goal.returns-clause-gives_back
returns-clause-gives_back g c = λ h went.
    stands_gives c.args.self.now _ h c.call-answer.result _ (went_stands c.args.self.now h went) c.call-answer.ensures.made.fits
    (took_handed c.args.self.now _ _ c.call-answer.result _ c.call-answer.ensures.left c.absorb-turn.ensures.took)

pub returns-clause-few : goal.returns-clause-few
returns-clause-few g c = λ h went. stands_few c.args.self.now h (went_stands c.args.self.now h went)
