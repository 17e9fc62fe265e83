-- What a session does with what it has in hand, and with its cache beside that, the session does.
use Rattle.std.proofs.Common.{◌≡◌, ◌∙◌, List, Ok, sym, subst, ap}
use Rattle.txn_buffer.specs.Noted.{Noted}
use Rattle.cloud_trait.specs.Caller.{Caller}
use Rattle.cloud_trait.specs.Seen.{Seen}
use Rattle.cloud_trait.specs.declared.turn.Turn.{Turn}
use Rattle.page_cache.specs.Cache.{Cache}
use Rattle.client_work.specs.declared.answer.Answer.{Answer}
use Rattle.client_work.specs.declared.phase.Phase.{Phase}
use Rattle.client_work.specs.declared.shown.Shown.{Shown}
use Rattle.client_work.specs.declared.work.Work.{Work}
use Rattle.client_work.specs.Phase.{kept_in, noted_in, phase_of}
use Rattle.client_work.specs.Causes.{HasCome, CausesAt, MachineSteps}
use Rattle.client_work.specs.Session.{Acting, StepsSession, StepsAt, ShowsAt, ShowsWhole, noted_behind, shown_behind, acting_of}
use Rattle.client_work.specs.Shows.{IsKnown}
use Rattle.client_work.proofs.Causes.{step_causes}
use Rattle.client_work.proofs.Came.{steps_come}
use Rattle.client_work.proofs.Shows.{step_known}
use Rattle.client_session.proofs.Phases.{kept_by, noted_by}

module _ (who : Caller) (before after : Seen) (work left : Work) (buffer noted : List Noted) (c d kept : Cache) (earlier shown : Shown) (turn : Turn Answer) (p q : Phase)
    (is_p : p ≡ phase_of work) (is_q : q ≡ phase_of left) (is_noted : noted ≡ noted_in p buffer) (is_kept : kept ≡ kept_in q d) (known : IsKnown buffer work c × HasCome work c)
    (steps : StepsAt who before after work left turn) (shows : ShowsAt who before after (work, c) (acting_of noted left d shown) turn)
    (machine : MachineSteps who before after (work, c) (left, d) turn) where
  noted_so : noted ≡ noted_behind work buffer
  noted_so = is_noted ∙ (ap (λ (z : Phase). noted_in z buffer) is_p ∙ noted_by work buffer)

  kept_so : kept ≡ shown_behind left d
  kept_so = is_kept ∙ (ap (λ (z : Phase). kept_in z d) is_q ∙ kept_by left d)

  abbrev old_is : Acting
  old_is = record { buffer = buffer; work = work; cache = c; shown = earlier }

  abbrev new_with : Cache → Acting
  new_with k = record { buffer = noted; work = left; cache = k; shown = shown }

  both : IsKnown noted left (shown_behind left d) × ShowsWhole who before after old_is (new_with (shown_behind left d)) (Ok turn)
  both = step_known who before after buffer noted c d earlier work left shown turn noted_so known.0 steps shows

  came : HasCome left (shown_behind left d)
  came = steps_come who before after noted c d work left shown turn known.1 steps shows machine

  causes : CausesAt who before after (work, c) (left, d) turn
  causes = step_causes who before after noted c d buffer work left shown turn known.0 known.1 steps shows machine

  -- what is known of the session behind the step
  pub known_on : IsKnown noted left kept × HasCome left kept
  known_on = (subst (IsKnown noted left) (sym kept_so) both.0, subst (HasCome left) (sym kept_so) came)

  pub stepped : (old : Acting) → old_is ≡ old → StepsSession who before after old (new_with kept) (Ok turn)
  stepped old is_old =
      subst (λ (s : Acting). StepsSession who before after s (new_with kept) (Ok turn)) is_old (record {
        buffer = noted_so;
        work = steps;
        shown = (d, shows, kept_so);
        whole = subst (λ (k : Cache). ShowsWhole who before after old_is (new_with k) (Ok turn)) (sym kept_so) both.1;
        causes = (d, causes, kept_so);
      })
