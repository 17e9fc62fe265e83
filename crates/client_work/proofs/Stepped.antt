-- What one machine did, what is in hand did.
use Rattle.std.proofs.Common.{◌≡◌, ◌∙◌, ℕ, false, List, Some, Ok, sym, subst, ap₂}
use Rattle.txn_buffer.specs.Noted.{Noted}
use Rattle.cloud_trait.specs.Caller.{Caller}
use Rattle.cloud_trait.specs.Seen.{Seen}
use Rattle.cloud_trait.specs.declared.turn.Turn.{Turn}
use Rattle.page_cache.specs.Cache.{Cache}
use Rattle.recover_run.specs.declared.home.Home.{Home}
use Rattle.tree_walk.specs.Walk.{Walk, new_walk}
use Rattle.client_work.specs.declared.answer.Answer.{Answer}
use Rattle.client_work.specs.declared.answer.Begun.{Begun}
use Rattle.client_work.specs.declared.op.Op.{Op}
use Rattle.client_work.specs.declared.op.Op.TheVariants as op
use Rattle.client_work.specs.declared.shown.Shown.{Shown}
use Rattle.client_work.specs.declared.shown.Shown.TheVariants.{Nothing}
use Rattle.client_work.specs.declared.work.Work.{Work}
use Rattle.client_work.specs.declared.work.Work.TheVariants.{Idle}
use Rattle.client_work.specs.Causes.{MachineSteps}
use Rattle.client_work.specs.Session.{StepsAt, ShowsAt, ReadsOf, acting_of, ended_by, Begins}

pub steps_by : (who : Caller) (before after : Seen) (old was new left : Work) (turn : Turn Answer) → old ≡ was → new ≡ left → StepsAt who before after was left turn → StepsAt who before after old new turn
steps_by who before after old was new left turn is_was is_left steps =
    subst (λ (w : Work). StepsAt who before after w new turn) (sym is_was) (subst (λ (w : Work). StepsAt who before after was w turn) (sym is_left) steps)

pub shows_by : (who : Caller) (before after : Seen) (buffer : List Noted) (old was new left : Work) (c d : Cache) (shown : Shown) (turn : Turn Answer) → old ≡ was → new ≡ left
    → ShowsAt who before after (was, c) (acting_of buffer left d shown) turn → ShowsAt who before after (old, c) (acting_of buffer new d shown) turn
shows_by who before after buffer old was new left c d shown turn is_was is_left shows =
    subst (λ (w : Work). ShowsAt who before after (w, c) (acting_of buffer new d shown) turn) (sym is_was)
    (subst (λ (w : Work). ShowsAt who before after (was, c) (acting_of buffer w d shown) turn) (sym is_left) shows)

pub machine_by : (who : Caller) (before after : Seen) (old was new left : Work) (c d : Cache) (turn : Turn Answer) → old ≡ was → new ≡ left
    → MachineSteps who before after (was, c) (left, d) turn → MachineSteps who before after (old, c) (new, d) turn
machine_by who before after old was new left c d turn is_was is_left steps =
    subst (λ (w : Work). MachineSteps who before after (w, c) (new, d) turn) (sym is_was) (subst (λ (w : Work). MachineSteps who before after (was, c) (w, d) turn) (sym is_left) steps)

-- the same where the machine's step left something in hand, and what that is behind this answer is had then
module _ (who : Caller) (before after reached : Seen) (old was left mid new : Work) (turn answered : Turn Answer) (is_after : after ≡ reached) (is_was : old ≡ was) (is_left : mid ≡ left) (is_answer : turn ≡ answered)
    (ends : new ≡ ended_by mid turn) where
  is_ended : new ≡ ended_by left answered
  is_ended = ends ∙ ap₂ ended_by is_left is_answer

  pub steps_ended : StepsAt who before reached was (ended_by left answered) answered → StepsAt who before after old new turn
  steps_ended steps =
      subst (λ (s : Seen). StepsAt who before s old new turn) (sym is_after)
      (subst (λ (t : Turn Answer). StepsAt who before reached old new t) (sym is_answer) (steps_by who before reached old was new (ended_by left answered) answered is_was is_ended steps))

  pub machine_ended : (c d e : Cache) → d ≡ e → MachineSteps who before reached (was, c) (ended_by left answered, e) answered → MachineSteps who before after (old, c) (new, d) turn
  machine_ended c d e is_cache steps =
      subst (λ (s : Seen). MachineSteps who before s (old, c) (new, d) turn) (sym is_after)
      (subst (λ (t : Turn Answer). MachineSteps who before reached (old, c) (new, d) t) (sym is_answer)
      (subst (λ (z : Cache). MachineSteps who before reached (old, c) (new, z) answered) (sym is_cache)
      (machine_by who before reached old was new (ended_by left answered) c e answered is_was is_ended steps)))

-- a read that begins beside an open client begins an operation
pub reads_by : (o : Op) (tree : ℕ) (key : List ℕ) (buffer noted : List Noted) (old new left : Work) (home : Home) (start : Walk) (c d : Cache) (shown : Shown) (begun : Begun)
    → o ≡ op.Read tree key → old ≡ Idle home → noted ≡ buffer → start ≡ new_walk tree (Some key) false → new ≡ left → ReadsOf home (start, c) (left, d) shown begun
    → Begins o (acting_of buffer old c Nothing) (acting_of noted new d shown) (Ok begun)
reads_by o tree key buffer noted old new left home start c d shown begun is_read is_idle is_noted is_start is_left reads =
    subst (λ (z : Op). Begins z (acting_of buffer old c Nothing) (acting_of noted new d shown) (Ok begun)) (sym is_read) (
      home,
      is_idle,
      (
        is_noted,
        subst (λ (w : Work). ReadsOf home (new_walk tree (Some key) false, c) (w, d) shown begun) (sym is_left) (subst (λ (s : Walk). ReadsOf home (s, c) (left, d) shown begun) is_start reads),
      ),
    )
