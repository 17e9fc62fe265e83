-- That no attempt is left is answered to a commit that begins alone, by a home whose last attempt has the greatest number.
use Rattle.std.proofs.Common.{◌≡◌, ◌≢◌, ◌-◌, ◌^◌, inl, inr, List, Some, true, false, refl, sym, ap, subst, ◌∙◌, eqb-true}
use Rattle.client_work.specs.Session.{CommitsOf, StepsCommit}
use Rattle.client_work.specs.declared.answer.Answer.TheVariants as answer
use Rattle.client_work.specs.declared.answer.Begun.TheVariants.{Answered}
use Rattle.client_work.specs.declared.work.Work.{Work}
use Rattle.cloud_facts.specs.Words.{Trouble, CommitAnswer, Answer, Ended, Caller, Seen, Ends}
use Rattle.cloud_trait.specs.Machine.{LeadsBy, Took}
use Rattle.cloud_trait.specs.Views.{trouble_of}
use Rattle.cloud_trait.specs.Weather.{Fits}
use Rattle.cloud_trait.specs.declared.answer.Answer.TheVariants as call
use Rattle.commit_run.proofs.Causes.{WalkCause, write_causes, walk_causes}
use Rattle.commit_run.proofs.CallDemands.{ready_exact}
use Rattle.commit_run.specs.Causes.{TellsOf, ShowsIn}
use Rattle.commit_run.specs.Draft.{Draft}
use Rattle.commit_run.specs.Run.{Run, KeepsHome, ask_at, new_run, run_next, run_ready, target_of}
use Rattle.commit_run.specs.Trips.{left_by_turn}
use Rattle.commit_run.specs.declared.hand.Hand.{Hand}
use Rattle.commit_run.specs.declared.hand.Hand.TheVariants.{Writes, First, Change}
use Rattle.db_base.specs.declared.trouble.CommitAnswer.TheVariants.{NotCommitted}
use Rattle.db_base.specs.declared.trouble.Counter.TheVariants as counter
use Rattle.db_base.specs.declared.trouble.Trouble.TheVariants as trouble
use Rattle.page_cache.specs.Cache.{Cache}
use Rattle.recover_run.specs.declared.home.Home.{Home}
use Rattle.tree_walk.specs.Causes.{LinkShows}
use Rattle.tree_walk.specs.Walk.{Walk, new_walk, walk_next}
use Rattle.txn_buffer.specs.Noted.{Noted}

-- no attempt is left
abbrev pub no_attempt : Trouble
no_attempt = trouble.Exhausted counter.Txn

-- ---- at the begin

ends_spent : (home : Home) (changes : List Noted) (c : Cache) (n : Run × Cache) → run_ready (new_run home changes, c) ≡ Ends n (NotCommitted no_attempt) → home.attempt ≡ 2 ^ 64 - 1
ends_spent home changes c n led = eqb-true home.attempt (2 ^ 64 - 1) ((ready_exact home changes c (new_run home changes) n (Ended (NotCommitted no_attempt)) refl led).only refl)

pub begins_spent : (home : Home) (changes : List Noted) (old new : Cache) (work : Work) (a : CommitAnswer) → CommitsOf home changes old new work (Answered (answer.Commit a))
    → a ≡ NotCommitted no_attempt → home.attempt ≡ 2 ^ 64 - 1
begins_spent home changes old new work a c is = ends_spent home changes old (c.0, new) (c.1 ∙ ap (λ x. Ends (c.0, new) x) is)

-- ---- behind it

never_link : (c : Cache) (old w : Walk) (t : Trouble) → LinkShows c old w t → t ≢ no_attempt
never_link c old w t (inl (s, at, led, inl level)) is = let clash = sym level.is ∙ is in absurd (cc (clash))
never_link c old w t (inl (s, at, led, inr fence)) is = let clash = sym fence.is ∙ is in absurd (cc (clash))
never_link c old w t (inr loop) is = let clash = sym loop.is ∙ is in absurd (cc (clash))

never_walk : (w : Walk) (c : Cache) (a : Answer) (changes : List Noted) (n : Run) (t : Trouble) → WalkCause w c a changes n t → t ≢ no_attempt
never_walk w c a changes n t (inl (left, e, stale, inl (inl both))) is = let clash = sym both.0 ∙ is in absurd (cc (clash))
never_walk w c a changes n t (inl (left, e, stale, inl (inr (got, answered, inl old)))) is = let clash = sym old.is ∙ is in absurd (cc (clash))
never_walk w c a changes n t (inl (left, e, stale, inl (inr (got, answered, inr damaged)))) is = let clash = sym damaged.is ∙ is in absurd (cc (clash))
never_walk w c a changes n t (inl (left, e, stale, inr (d, brings, link))) is = never_link d w left.0 t link is
never_walk w c a changes n t (inr (inl (place, change, there, (left, e, link)))) is =
    never_link (left_by_turn (walk_next (w, c) a)).1 (new_walk change.tree (Some (target_of change).1) false) left.0 t link is
never_walk w c a changes n t (inr (inr number)) is = let clash = sym number.0 ∙ is in absurd (cc (clash))

never_call : (a : Answer) → trouble_of a ≢ no_attempt
never_call (call.Late end now) is = absurd (cc (is))
never_call call.Memory is = absurd (cc (is))
never_call a is = absurd (cc (is))

never_in : (hand : Hand) (d : Draft) (c : Cache) (a : Answer) (n : Run × Cache) (x : CommitAnswer) → Fits (ask_at hand d.writes) a
    → Took (LeadsBy run_next) KeepsHome (record { draft = d; hand = hand }, c) a n (Ended x) → x ≢ NotCommitted no_attempt
never_in Writes d c a n x fits took is =
    never_call a (sym (subst (TellsOf (ShowsIn Writes c a d.writes.changes n.0)) is (write_causes d c a n (Ended x) took)))
never_in (First w) d c a n x fits took is =
    never_walk w c a d.writes.changes n.0 no_attempt (subst (TellsOf (WalkCause w c a d.writes.changes n.0)) is (walk_causes true d w c a n (Ended x) fits took)) refl
never_in (Change w) d c a n x fits took is =
    never_walk w c a d.writes.changes n.0 no_attempt (subst (TellsOf (WalkCause w c a d.writes.changes n.0)) is (walk_causes false d w c a n (Ended x) fits took)) refl

pub steps_unspent : (who : Caller) (before after : Seen) (m : Run) (c d : Cache) (work : Work) (x : CommitAnswer) → StepsCommit who before after (m, c) (work, d) (Ended (answer.Commit x))
    → x ≢ NotCommitted no_attempt
steps_unspent who before after m c d work x p = never_in m.hand m.draft c p.1.answer (p.0, d) x p.1.made.fits p.1.took
