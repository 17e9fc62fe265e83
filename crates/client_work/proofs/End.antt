-- What is at work ends.
use Rattle.std.proofs.Common.{◌<◌, ℕ, Ok, refl, sym, subst}
use Rattle.cloud_trait.specs.declared.turn.Turn.TheVariants.{More}
use Rattle.cloud_trait.specs.Caller.{Caller}
use Rattle.cloud_trait.specs.Seen.{Seen}
use Rattle.range_scan.specs.End.{calls_left as scanning_left}
use Rattle.client_work.specs.declared.work.Work.{Work}
use Rattle.client_work.specs.declared.work.Work.TheVariants.{Closed, Idle, Opening, Committing, Reading, Scanning, Looking, Paging, Folding, Closing, Renewing, Settling, Sweeping, Broken}
use Rattle.client_work.specs.Session.{Acting, StepsSession, StepsAt, ScansLess, calls_left}

-- a scan that goes on has fewer calls left
scan_less : (left : ℕ) (w : Work) → ScansLess left w → calls_left w < left
scan_less left (Scanning home m) p = p
scan_less left Closed p = absurd p
scan_less left (Idle home) p = absurd p
scan_less left (Opening m) p = absurd p
scan_less left (Committing m) p = absurd p
scan_less left (Reading home m) p = absurd p
scan_less left (Looking home m) p = absurd p
scan_less left (Paging home m) p = absurd p
scan_less left (Folding home m) p = absurd p
scan_less left (Closing lease) p = absurd p
scan_less left (Renewing home) p = absurd p
scan_less left (Settling m) p = absurd p
scan_less left (Sweeping m) p = absurd p
scan_less left (Broken lease) p = absurd p

work_less : (who : Caller) (before after : Seen) (w new : Work) → StepsAt who before after w new More → calls_left new < calls_left w
work_less who before after (Opening m) new p = subst (λ (z : Work). calls_left z < calls_left (Opening m)) (sym p.1.2) p.1.3
work_less who before after (Committing m) new p = subst (λ (z : Work). calls_left z < calls_left (Committing m)) (sym p.3.2) p.3.3
work_less who before after (Reading home m) new p = subst (λ (z : Work). calls_left z < calls_left (Reading home m)) (sym p.2) p.3
work_less who before after (Scanning home m) new p = scan_less (scanning_left m.scan) new (p.4.less refl)
work_less who before after (Looking home m) new p = subst (λ (z : Work). calls_left z < calls_left (Looking home m)) (sym p.4.2) p.4.4
work_less who before after (Paging home m) new p = subst (λ (z : Work). calls_left z < calls_left (Paging home m)) (sym p.2) p.3
work_less who before after (Folding home m) new p = subst (λ (z : Work). calls_left z < calls_left (Folding home m)) (sym p.2) p.3
work_less who before after Closed new p = absurd p
work_less who before after (Idle home) new p = absurd p
work_less who before after (Closing lease) new p = absurd p
work_less who before after (Renewing home) new p = absurd p
work_less who before after (Settling m) new p = subst (λ (z : Work). calls_left z < calls_left (Settling m)) (sym p.1.2) p.1.3
work_less who before after (Sweeping m) new p = subst (λ (z : Work). calls_left z < calls_left (Sweeping m)) (sym p.2) p.3
work_less who before after (Broken lease) new p = absurd p

-- a step that goes on leaves fewer calls than before
pub session_less : (who : Caller) (before after : Seen) (old new : Acting) → StepsSession who before after old new (Ok More) → calls_left new.work < calls_left old.work
session_less who before after old new p = work_less who before after old.work new.work p.work
