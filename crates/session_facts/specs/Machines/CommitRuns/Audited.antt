-- What a landed put of a commit run adds to the audit.
use Rattle.cloud_trait.specs.Ask.{Ask}
use Rattle.session_facts.specs.Machines.Commits.Audited.{commit_note}
use Rattle.commit_run.specs.declared.hand.Hand.{Hand}
use Rattle.commit_run.specs.declared.hand.Hand.TheVariants.{Writes, First, Change}
use Rattle.commit_run.specs.Run.{Run}
use Rattle.commit_writes.specs.Writing.{Writing}
use Rattle.history.specs.Audited.{Audited}

abbrev pub noted_in : Hand → Writing → Ask → Audited → Audited
noted_in Writes w ask a = commit_note w ask a
noted_in (First walk) w ask a = a
noted_in (Change walk) w ask a = a

-- what it writes adds what the commit adds, and a walk adds nothing
abbrev pub run_note : Run → Ask → Audited → Audited
run_note r ask a = noted_in r.hand r.draft.writes ask a
