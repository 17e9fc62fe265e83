-- What is left of a session that is broken off, as want of memory leaves it.
use Rattle.client_work.specs.declared.shown.Shown.TheVariants.{Nothing}
use Rattle.client_work.specs.declared.work.Work.{Work}
use Rattle.client_work.specs.declared.work.Work.TheVariants.{Closed, Idle, Opening, Committing, Reading, Scanning, Looking, Paging, Folding, Closing, Renewing, Settling, Sweeping, Broken}
use Rattle.commit_run.specs.Run.{home_of as home_of_run}
use Rattle.client_work.specs.Session.{Acting, noted_behind, shown_behind}

-- nothing is left in hand of an opening, a close, a settling or a sweep, and of an open client its lease alone
abbrev pub broken_work : Work → Work
broken_work Closed = Closed
broken_work (Idle home) = Broken home.lease
broken_work (Opening m) = Closed
broken_work (Committing m) = Broken (home_of_run m).lease
broken_work (Reading home m) = Broken home.lease
broken_work (Scanning home m) = Broken home.lease
broken_work (Looking home m) = Broken home.lease
broken_work (Paging home m) = Broken home.lease
broken_work (Folding home m) = Broken home.lease
broken_work (Closing lease) = Closed
broken_work (Renewing home) = Broken home.lease
broken_work (Settling m) = Closed
broken_work (Sweeping m) = Closed
broken_work (Broken lease) = Broken lease

-- a close drops what was noted, a closed session keeps nothing of the cloud, and nothing is shown
abbrev pub broken_off : Acting → Acting
broken_off s = record {
  buffer = noted_behind s.work s.buffer;
  work = broken_work s.work;
  cache = shown_behind (broken_work s.work) s.cache;
  shown = Nothing;
}
