-- What is left of a session that is broken off.
use Rattle.std.proofs.Common.{◌≡◌, ◌∙◌, List, ap, subst, sym}
use Rattle.page_cache.specs.Cache.{Cache}
use Rattle.txn_buffer.specs.Noted.{Noted}
use Rattle.client_work.specs.declared.phase.Phase.{Phase}
use Rattle.client_work.specs.declared.shown.Shown.{Shown}
use Rattle.client_work.specs.declared.shown.Shown.TheVariants.{Nothing}
use Rattle.client_work.specs.declared.work.Work.{Work}
use Rattle.client_work.specs.declared.work.Work.TheVariants.{Closed, Idle, Opening, Committing, Reading, Scanning, Looking, Paging, Folding, Closing, Renewing, Settling, Sweeping, Broken}
use Rattle.client_work.specs.BrokenOff.{broken_off, broken_work}
use Rattle.client_work.specs.Causes.{HasCome}
use Rattle.client_work.specs.Phase.{kept_in, noted_in, phase_of}
use Rattle.client_work.specs.Session.{Acting, noted_behind, shown_behind}
use Rattle.client_work.specs.Shows.{IsKnown}
use Rattle.client_session.proofs.Phases.{kept_by, noted_by}

-- no scan and no look-up is in hand then, and nothing that calls led to
unscanned : (w : Work) (buffer : List Noted) (c : Cache) → IsKnown buffer (broken_work w) c × HasCome (broken_work w) c
unscanned Closed buffer c = (tt, tt)
unscanned (Idle home) buffer c = (tt, tt)
unscanned (Opening m) buffer c = (tt, tt)
unscanned (Committing m) buffer c = (tt, tt)
unscanned (Reading home m) buffer c = (tt, tt)
unscanned (Scanning home m) buffer c = (tt, tt)
unscanned (Looking home m) buffer c = (tt, tt)
unscanned (Paging home m) buffer c = (tt, tt)
unscanned (Folding home m) buffer c = (tt, tt)
unscanned (Closing lease) buffer c = (tt, tt)
unscanned (Renewing home) buffer c = (tt, tt)
unscanned (Settling m) buffer c = (tt, tt)
unscanned (Sweeping m) buffer c = (tt, tt)
unscanned (Broken lease) buffer c = (tt, tt)

module _ (work was left : Work) (buffer noted : List Noted) (c kept : Cache) (earlier : Shown) (p q : Phase) (is_was : was ≡ work) (is_left : left ≡ broken_work was)
    (is_p : p ≡ phase_of work) (is_q : q ≡ phase_of left) (is_noted : noted ≡ noted_in p buffer) (is_kept : kept ≡ kept_in q c) where
  left_so : left ≡ broken_work work
  left_so = is_left ∙ ap broken_work is_was

  noted_so : noted ≡ noted_behind work buffer
  noted_so = is_noted ∙ (ap (λ (z : Phase). noted_in z buffer) is_p ∙ noted_by work buffer)

  kept_so : kept ≡ shown_behind (broken_work work) c
  kept_so = is_kept ∙ (ap (λ (z : Phase). kept_in z c) is_q ∙ (kept_by left c ∙ ap (λ (w : Work). shown_behind w c) left_so))

  abbrev new_with : List Noted → Work → Cache → Acting
  new_with b w k = record { buffer = b; work = w; cache = k; shown = Nothing }

  -- nothing has to be known of what is left
  pub known_broken : IsKnown noted left kept × HasCome left kept
  known_broken = subst (λ (w : Work). IsKnown noted w kept × HasCome w kept) (sym left_so) (unscanned work noted kept)

  pub broken : (old : Acting) → (let s : Acting = record { buffer = buffer; work = work; cache = c; shown = earlier } in s ≡ old) → new_with noted left kept ≡ broken_off old
  broken old is_old =
      subst (λ (s : Acting). new_with noted left kept ≡ broken_off s) is_old
      (ap (λ (b : List Noted). new_with b left kept) noted_so
      ∙ (ap (λ (w : Work). new_with (noted_behind work buffer) w kept) left_so ∙ ap (λ (k : Cache). new_with (noted_behind work buffer) (broken_work work) k) kept_so))
