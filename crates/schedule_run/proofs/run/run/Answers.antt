use Rattle.std.proofs.Common.{Some, map, subst, sym}
use Rattle.std.specs.Prelude.{string_bytes}
use Rattle.schedule_run.specs.Run.{IsOfShape}
use Rattle.schedule_run.specs.declared.status.Status.TheVariants as status
use Rattle.schedule_run.proofs.RunLemmas.{asked_within, not_asked}
use Rattle.schedule_run.proofs.CompleteLemmas.{completes, memory_of, of_words, stops_at_bad_line, out_of_memory}
use Rattle.schedule_run.proofs.LoadCompleting.{load_completes, load_out_of_memory}
use Rattle.schedule_run.proofs.run.run.Goals as goal

pub run_asked-requires : goal.run_asked-requires
run_asked-requires g c = asked_within (map string_bytes c.args.words.now) _ c.in-Ok.ensures

pub returns-in-Ok-clause-only : goal.returns-in-Ok-clause-only
returns-in-Ok-clause-only g c = rw c.in-Ok.ensures c.run_asked.ensures.only

pub returns-in-Ok-clause-unread : goal.returns-in-Ok-clause-unread
returns-in-Ok-clause-unread g c e = absurd (of_words c.in-Ok.asked (subst (IsOfShape (Some c.in-Ok.asked)) e c.run_asked.ensures.only))

pub returns-in-Err-BadWords-clause-only : goal.returns-in-Err-BadWords-clause-only
returns-in-Err-BadWords-clause-only g c =
    let none = rw c.in-Err-BadWords.field-0-is at c.in-Err-BadWords.ensures in subst (λ asked. IsOfShape asked status.BadWords) (sym none) tt

pub returns-in-Err-Memory-clause-only : goal.returns-in-Err-Memory-clause-only
returns-in-Err-Memory-clause-only g c = memory_of _

pub returns-in-Ok-clause-too_long : goal.returns-in-Ok-clause-too_long
returns-in-Ok-clause-too_long g c e = rw c.in-Ok.ensures (c.run_asked.ensures.too_long e)

pub returns-in-Ok-clause-within : goal.returns-in-Ok-clause-within
returns-in-Ok-clause-within g c = rw c.in-Ok.ensures c.run_asked.ensures.within

pub returns-in-Ok-clause-bad_line : goal.returns-in-Ok-clause-bad_line
returns-in-Ok-clause-bad_line g c e = rw c.in-Ok.ensures (c.run_asked.ensures.bad_line e)

pub returns-in-Ok-clause-ran : goal.returns-in-Ok-clause-ran
returns-in-Ok-clause-ran g c = rw c.in-Ok.ensures c.run_asked.ensures.ran

pub returns-in-Err-Memory-clause-ran : goal.returns-in-Err-Memory-clause-ran
returns-in-Err-Memory-clause-ran g c = not_asked _ _ _ _

pub returns-in-Ok-clause-complete : goal.returns-in-Ok-clause-complete
returns-in-Ok-clause-complete g c =
    let e = c.run_asked.ensures in
    rw c.in-Ok.ensures
    (completes _ _ _ _ _ _ _ _
    (record {
      only = e.only;
      read_fault = e.read_fault;
      too_long = e.too_long;
      bad_line = e.bad_line;
      write_fault = e.write_fault;
    })
    e.ran)

pub returns-in-Ok-clause-complete_load : goal.returns-in-Ok-clause-complete_load
returns-in-Ok-clause-complete_load g c =
    let e = c.run_asked.ensures in
    rw c.in-Ok.ensures
    (load_completes _ _ _ _ _ _ _ _
    (completes _ _ _ _ _ _ _ _
    (record {
      only = e.only;
      read_fault = e.read_fault;
      too_long = e.too_long;
      bad_line = e.bad_line;
      write_fault = e.write_fault;
    })
    e.ran))

pub returns-in-Ok-clause-at_bad_line : goal.returns-in-Ok-clause-at_bad_line
returns-in-Ok-clause-at_bad_line g c =
    let e = c.run_asked.ensures in
    rw c.in-Ok.ensures
    (stops_at_bad_line _ _ _ _ _ _ _ _
    (record {
      only = e.only;
      read_fault = e.read_fault;
      too_long = e.too_long;
      bad_line = e.bad_line;
      write_fault = e.write_fault;
    })
    e.ran)

pub returns-in-Err-Memory-clause-complete : goal.returns-in-Err-Memory-clause-complete
returns-in-Err-Memory-clause-complete g c order good = out_of_memory _ _ _ _ _ _

pub returns-in-Err-Memory-clause-at_bad_line : goal.returns-in-Err-Memory-clause-at_bad_line
returns-in-Err-Memory-clause-at_bad_line g c order known bad = out_of_memory _ _ _ _ _ _

pub returns-in-Err-Memory-clause-complete_load : goal.returns-in-Err-Memory-clause-complete_load
returns-in-Err-Memory-clause-complete_load g c = load_out_of_memory _ _ _ _ _ _ _
