use Rattle.std.proofs.Common.{Ok, Err}
use Rattle.schedule_run.proofs.LoadingLemmas.{load_went, never_bad}
use Rattle.schedule_run.proofs.loading.fill_from.Goals as goal

pub returns-in-Ok-clause-went : goal.returns-in-Ok-clause-went
returns-in-Ok-clause-went g c = load_went c.args.dump.now.trees (Ok c.in-Ok.loaded) _ _ _ _ _ c.in-Ok.ensures.went c.in-Ok.ensures.calls c.in-Ok.ensures.leaves c.write_loaded.ensures.told

pub returns-in-Err-clause-went : goal.returns-in-Err-clause-went
returns-in-Err-clause-went g c = load_went c.args.dump.now.trees (Err c.in-Err.stop) _ _ _ _ _ c.in-Err.ensures.went c.in-Err.ensures.calls c.in-Err.ensures.leaves c.write_stop.ensures.told

pub returns-in-Ok-clause-good : goal.returns-in-Ok-clause-good
returns-in-Ok-clause-good g c e =
    let told = rw e at c.write_loaded.ensures.told in
    let clash = told.0 in absurd (cc)

pub returns-in-Err-clause-good : goal.returns-in-Err-clause-good
returns-in-Err-clause-good g c e =
    let told = rw e at c.write_stop.ensures.told in never_bad c.in-Err.stop told.0
