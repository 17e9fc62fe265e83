-- What a session is that is broken off: it works for no client.
use Rattle.std.proofs.Common.{◌≡◌, ℕ}
use Rattle.head_codec.specs.declared.head.Head.{Head}
use Rattle.commit_run.specs.Run.{home_of}
use Rattle.client_work.specs.declared.work.Work.{Work}
use Rattle.client_work.specs.declared.work.Work.TheVariants.{Closed, Idle, Opening, Committing, Reading, Scanning, Looking, Paging, Folding, Closing, Renewing, Settling, Sweeping, Broken}
use Rattle.client_work.specs.BrokenOff.{broken_work}
use Rattle.session_facts.proofs.Rows.Opened.{LeadsOpened, away_leads}

pub broken_away : (w b : Work) (Was : ℕ → Type 0) (Is : Head → Type 0) → b ≡ broken_work w → LeadsOpened Was Is b
broken_away Closed b Was Is e = away_leads Was Is Closed b e (λ head. tt) tt (λ client h. h)
broken_away (Idle home) b Was Is e = away_leads Was Is (Broken home.lease) b e (λ head. tt) tt (λ client h. h)
broken_away (Opening m) b Was Is e = away_leads Was Is Closed b e (λ head. tt) tt (λ client h. h)
broken_away (Committing m) b Was Is e = away_leads Was Is (Broken (home_of m).lease) b e (λ head. tt) tt (λ client h. h)
broken_away (Reading home m) b Was Is e = away_leads Was Is (Broken home.lease) b e (λ head. tt) tt (λ client h. h)
broken_away (Scanning home m) b Was Is e = away_leads Was Is (Broken home.lease) b e (λ head. tt) tt (λ client h. h)
broken_away (Looking home m) b Was Is e = away_leads Was Is (Broken home.lease) b e (λ head. tt) tt (λ client h. h)
broken_away (Paging home m) b Was Is e = away_leads Was Is (Broken home.lease) b e (λ head. tt) tt (λ client h. h)
broken_away (Folding home m) b Was Is e = away_leads Was Is (Broken home.lease) b e (λ head. tt) tt (λ client h. h)
broken_away (Closing lease) b Was Is e = away_leads Was Is Closed b e (λ head. tt) tt (λ client h. h)
broken_away (Renewing home) b Was Is e = away_leads Was Is (Broken home.lease) b e (λ head. tt) tt (λ client h. h)
broken_away (Settling m) b Was Is e = away_leads Was Is Closed b e (λ head. tt) tt (λ client h. h)
broken_away (Sweeping m) b Was Is e = away_leads Was Is Closed b e (λ head. tt) tt (λ client h. h)
broken_away (Broken lease) b Was Is e = away_leads Was Is (Broken lease) b e (λ head. tt) tt (λ client h. h)
