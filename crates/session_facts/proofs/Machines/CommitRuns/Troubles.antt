-- Which troubles a commit tells where its call found memory: not want of it, and an open head is one of the call's.
use Rattle.std.proofs.Common.{sym, subst, inl, inr, ◌≢◌, true, false, List, refl}
use Rattle.recover_run.specs.declared.home.Home.{Home}
use Rattle.cloud_facts.specs.Words.{Trouble, CommitAnswer, Answer, Next, Goes, Ends, Stops}
use Rattle.cloud_trait.specs.declared.answer.Answer.TheVariants.{Got, Sent, Received, Listed, Done, Given, Held, Renewed, Late, Failed, Memory}
use Rattle.cloud_trait.specs.Views.{trouble_of}
use Rattle.commit_run.specs.declared.hand.Hand.{Hand}
use Rattle.commit_run.specs.declared.hand.Hand.TheVariants.{Writes, First, Change}
use Rattle.commit_run.specs.Draft.{Draft}
use Rattle.commit_run.specs.Run.{Run, new_run, wrote, walked, run_ready, next_at, run_next}
use Rattle.commit_writes.specs.Writing.{Writing, writing_next}
use Rattle.commit_run.proofs.Outcomes as step
use Rattle.commit_run.proofs.Outcomes.{NextRun, Leads, BeginsWith, taken, walked_leads, ready_leads}
use Rattle.commit_writes.proofs.Outcomes as written
use Rattle.commit_writes.proofs.Outcomes.{Leaves, Comes as Wrote, comes as wrote_by}
use Rattle.db_base.specs.declared.trouble.CommitAnswer.TheVariants.{NotCommitted, CommittedOpen}
use Rattle.db_base.specs.declared.trouble.Trouble.TheVariants as trouble
use Rattle.page_cache.specs.Cache.{Cache}
use Rattle.session_facts.proofs.Machines.CommitRuns.Nexts.{RunStep}
use Rattle.txn_buffer.specs.Noted.{Noted}

-- a trouble that no call brings
abbrev pub IsByNoCall : Trouble → Type 0
IsByNoCall trouble.Failed = ⊥
IsByNoCall (trouble.Late end now) = ⊥
IsByNoCall (trouble.Busy lock until) = ⊥
IsByNoCall (trouble.Waiting have need) = ⊥
IsByNoCall (trouble.Stale page least got) = ⊥
IsByNoCall t = Unit {0}

-- a trouble is the call's
abbrev IsOfCall : Trouble → Type 0
IsOfCall t = (IsByNoCall t → ⊥) × (t ≢ trouble.Memory)

-- what a commit tells
abbrev pub IsTold : CommitAnswer → Type 0
IsTold (NotCommitted t) = t ≢ trouble.Memory
IsTold (CommittedOpen t) = IsByNoCall t → ⊥
IsTold answer = Unit {0}

-- ---- answers that bring no value

refusal : (a : Answer) → a ≢ Memory → IsOfCall (trouble_of a)
refusal (Got v) found = (λ none. none, λ e. cc)
refusal (Sent id) found = (λ none. none, λ e. cc)
refusal (Received ms) found = (λ none. none, λ e. cc)
refusal (Listed pages) found = (λ none. none, λ e. cc)
refusal Done found = (λ none. none, λ e. cc)
refusal (Given l) found = (λ none. none, λ e. cc)
refusal (Held until) found = (λ none. none, λ e. cc)
refusal (Renewed e) found = (λ none. none, λ e. cc)
refusal (Late e n) found = (λ none. none, λ e. cc)
refusal Failed found = (λ none. none, λ e. cc)
refusal Memory found = absurd (found refl)

-- ---- what is written

abbrev TellsWriting : Next Writing CommitAnswer → Type 0
TellsWriting (Goes w) = Unit {0}
TellsWriting (Ends w a) = IsTold a
TellsWriting (Stops w t) = Unit {0}

leaves_tell : {w : Writing} {a : Answer} → Leaves w a → a ≢ Memory
leaves_tell (written.not_sent w a failed) = failed.found
leaves_tell (written.not_settled w a failed) = failed.found

writes_tell : (w : Writing) (a : Answer) (x : Next Writing CommitAnswer) → Wrote w a x → TellsWriting x
writes_tell v a x (written.goes_on w id next (written.logs r e)) = tt
writes_tell v a x (written.goes_on w id next (written.opens e)) = tt
writes_tell v a x (written.not_logged w y failed) = (refusal a failed.found).1
writes_tell v a x (written.late w end now) = λ memory. cc
writes_tell v a x (written.doubts w y failed) = tt
writes_tell w a x (written.sends n r posts e) = tt
writes_tell w a x (written.settles n posts e) = tt
writes_tell w a x (written.stays_open leaves) = (refusal a (leaves_tell leaves)).0
writes_tell w a x (written.deletes n id clears e) = tt
writes_tell w a x (written.ends n clears e) = tt
writes_tell w a x (written.lacks v under) = tt
writes_tell v a x (written.waits w y) = tt
writes_tell v a x (written.rests w y) = tt

-- ---- where a step leads

abbrev pub EndsTold : RunStep → Type 0
EndsTold (Goes m) = Unit {0}
EndsTold (Ends m a) = IsTold a
EndsTold (Stops m t) = Unit {0}

wrote_told : (d : Draft) (c : Cache) (n : Next Writing CommitAnswer) → TellsWriting n → EndsTold (wrote d c n)
wrote_told d c (Goes w) told = tt
wrote_told d c (Ends w a) told = told
wrote_told d c (Stops w t) told = tt

leads_told : (w : Writing) (x : NextRun) → Leads w x → EndsTold x
leads_told w x (step.walks first e v k kept) = tt
leads_told w x (step.writes e k v kept paged starts) = tt
leads_told w x (step.refuses e k t kept other) = other
leads_told w x (step.lacks e k kept) = tt

-- how a call of a commit ends that found memory
pub run_tells : (m : Run × Cache) (reply : Answer) → reply ≢ Memory → EndsTold (run_next m reply)
run_tells m reply found = on m.0.hand
  where
    on : (hand : Hand) → EndsTold (next_at hand m.0.draft m.1 reply)
    on Writes = wrote_told m.0.draft m.1 (writing_next m.0.draft.writes reply) (writes_tell m.0.draft.writes reply (writing_next m.0.draft.writes reply) (wrote_by m.0.draft.writes reply))
    on (First w) = leads_told m.0.draft.writes (walked true m.0.draft w m.1 reply) (walked_leads m.0.draft true w m.1 reply)
    on (Change w) = leads_told m.0.draft.writes (walked false m.0.draft w m.1 reply) (walked_leads m.0.draft false w m.1 reply)

-- a commit as it begins
pub ready_tells : (home : Home) (changes : List Noted) (c : Cache) → EndsTold (run_ready (new_run home changes, c))
ready_tells home changes c = on (ready_leads home changes c) where
  on : BeginsWith home changes c (run_ready (new_run home changes, c)) → EndsTold (run_ready (new_run home changes, c))
  on (inl spent) = subst EndsTold (sym spent.1) (λ memory. cc)
  on (inr so) = leads_told (taken home changes).writes (run_ready (new_run home changes, c)) so.1
