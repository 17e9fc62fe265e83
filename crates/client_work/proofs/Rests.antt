-- What no rule keeps from beginning is an open client with nothing at work.
use Rattle.std.proofs.Common.{◌≡◌, ◌≢◌, true, Some, None, refl}
use Rattle.db_base.specs.declared.refusal.Refusal.{Refusal}
use Rattle.db_base.specs.declared.refusal.Refusal.TheVariants as rule
use Rattle.recover_run.specs.declared.home.Home.{Home}
use Rattle.commit_run.specs.Run.{Run}
use Rattle.orphan_sweep.specs.Sweeping.{Sweeping as SweepingState}
use Rattle.page_ckpt.specs.Paging.{Paging as Page}
use Rattle.settle_run.specs.Settling.{Settling as SettlingState}
use Rattle.tree_ckpt.specs.Making.{Making}
use Rattle.client_work.specs.declared.work.Work.{Work}
use Rattle.client_work.specs.declared.work.Work.TheVariants.{Closed, Idle, Opening, Committing, Reading, Scanning, Looking, Paging, Folding, Closing, Renewing, Settling, Sweeping, Broken}
use Rattle.client_work.specs.Session.{is_other, is_working, rule_of}

some_none : (r : Refusal) → Some r ≡ None → ⊥
some_none r e = cc

pub only_idle : (w : Work) → rule_of w ≡ None → ((home : Home) → w ≢ Idle home) → ⊥
only_idle (Idle home) e other = other home refl
only_idle Closed e other = some_none rule.NotOpen e
only_idle (Opening m) e other = some_none rule.AtWork e
only_idle (Committing m) e other = some_none rule.AtWork e
only_idle (Reading home m) e other = some_none rule.AtWork e
only_idle (Scanning home m) e other = some_none rule.AtWork e
only_idle (Looking home m) e other = some_none rule.AtWork e
only_idle (Paging home m) e other = some_none rule.AtWork e
only_idle (Folding home m) e other = some_none rule.AtWork e
only_idle (Closing lease) e other = some_none rule.AtWork e
only_idle (Renewing home) e other = some_none rule.AtWork e
only_idle (Settling m) e other = some_none rule.AtWork e
only_idle (Sweeping m) e other = some_none rule.AtWork e
only_idle (Broken lease) e other = some_none rule.Broken e

-- what is at work and neither a commit nor a checkpoint nor a settling nor a sweep
pub other_work : (w : Work) → is_working w ≡ true → ((m : Run) → w ≢ Committing m) → ((home : Home) (m : Page) → w ≢ Paging home m) → ((home : Home) (m : Making) → w ≢ Folding home m)
    → ((m : SettlingState) → w ≢ Settling m) → ((m : SweepingState) → w ≢ Sweeping m) → is_other w ≡ true
other_work (Committing m) at_work commit page fold settle sweep = absurd (commit m refl)
other_work (Paging home m) at_work commit page fold settle sweep = absurd (page home m refl)
other_work (Folding home m) at_work commit page fold settle sweep = absurd (fold home m refl)
other_work (Opening m) at_work commit page fold settle sweep = refl
other_work (Reading home m) at_work commit page fold settle sweep = refl
other_work (Scanning home m) at_work commit page fold settle sweep = refl
other_work (Looking home m) at_work commit page fold settle sweep = refl
other_work (Closing lease) at_work commit page fold settle sweep = refl
other_work (Renewing home) at_work commit page fold settle sweep = refl
other_work (Settling m) at_work commit page fold settle sweep = absurd (settle m refl)
other_work (Sweeping m) at_work commit page fold settle sweep = absurd (sweep m refl)
other_work Closed at_work commit page fold settle sweep = absurd cc
other_work (Idle home) at_work commit page fold settle sweep = absurd cc
other_work (Broken lease) at_work commit page fold settle sweep = absurd cc
