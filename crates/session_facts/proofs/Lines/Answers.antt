-- A session at work is answered with a trouble that is right by how it stands.
use Rattle.std.proofs.Common.{sym, subst}
use Rattle.client_work.specs.declared.work.Work.{Work}
use Rattle.client_work.specs.declared.work.Work.TheVariants as work
use Rattle.db_base.specs.declared.trouble.Trouble.{Trouble}
use Rattle.replay_meaning.specs.Standing.{Posture, Standing}
use Rattle.session_facts.specs.Lines.Answers.{MayTrouble}
use Rattle.session_facts.specs.Lines.Facts.{WorksAs}
use Rattle.session_facts.specs.Sessions.Stops.{MayAnswer}

-- as the lines say that it stands
pub may_by_lines : (w : Work) (s : Standing) (t : Trouble) → WorksAs w s → MayAnswer w t → MayTrouble s.posture t
may_by_lines (work.Opening r) s t acts may = subst (λ (p : Posture). MayTrouble p t) (sym acts.0) may
may_by_lines (work.Committing r) s t acts may = subst (λ (p : Posture). MayTrouble p t) (sym acts.0) may
may_by_lines (work.Reading home m) s t acts may = subst (λ (p : Posture). MayTrouble p t) (sym acts.0) may
may_by_lines (work.Scanning home l) s t acts may = subst (λ (p : Posture). MayTrouble p t) (sym acts.0) may
may_by_lines (work.Looking home m) s t acts may = subst (λ (p : Posture). MayTrouble p t) (sym acts.0) may
may_by_lines (work.Paging home p) s t acts may = subst (λ (q : Posture). MayTrouble q t) (sym acts.0) may
may_by_lines (work.Folding home f) s t acts may = subst (λ (p : Posture). MayTrouble p t) (sym acts.0) may
may_by_lines (work.Closing lease) s t acts may = subst (λ (p : Posture). MayTrouble p t) (sym acts) may
may_by_lines (work.Renewing home) s t acts may = subst (λ (p : Posture). MayTrouble p t) (sym acts.0) may
may_by_lines (work.Settling m) s t acts may = absurd acts
may_by_lines (work.Sweeping m) s t acts may = absurd acts
may_by_lines work.Closed s t acts may = absurd may
may_by_lines (work.Idle home) s t acts may = absurd may
may_by_lines (work.Broken lease) s t acts may = absurd may
