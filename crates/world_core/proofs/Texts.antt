-- Every reply has a text.
use Rattle.std.proofs.Common.{◌≡◌, ℕ, Bool, true, false, Option, Some, None, Result, Ok, Err, sym, subst, inl, inr}
use Rattle.std.specs.Prelude.{IfOk}
use Rattle.db_base.specs.declared.refusal.Refused.{Refused}
use Rattle.db_base.specs.declared.refusal.Refused.TheVariants as refused
use Rattle.cloud_facts.specs.Words.{Trouble, CommitAnswer, Turn, More, Ended, Stopped, Seen}
use Rattle.db_base.specs.declared.trouble.CommitAnswer.TheVariants.{Committed, NotCommitted, InDoubt, CommittedOpen}
use Rattle.db_base.specs.declared.trouble.Trouble.TheVariants as trouble
use Rattle.db_base.specs.declared.wish.Wish.{Wish}
use Rattle.db_base.specs.Value.{Value}
use Rattle.client_work.specs.Session.{Acting, items_of, value_of}
use Rattle.client_work.specs.declared.answer.Answer.{Answer}
use Rattle.client_work.specs.declared.answer.Answer.TheVariants as answer
use Rattle.client_work.specs.declared.answer.Begun.{Begun}
use Rattle.client_work.specs.declared.answer.Begun.TheVariants.{Working, Answered}
use Rattle.reply_text.specs.Reply.{HasText, CommitHasText, ReplyHasText}
use Rattle.reply_text.specs.declared.reply.Reply.{Reply}
use Rattle.reply_text.specs.declared.reply.Reply.TheVariants as reply
use Rattle.ckpt_policy.specs.declared.role.Role.{Role}
use Rattle.world_core.specs.declared.asked.Asked.{Asked}
use Rattle.world_core.specs.declared.asked.Asked.TheVariants.{Session, Wait, Report, Settle, Sweep}
use Rattle.world_core.specs.declared.asked.Request.{Request}
use Rattle.world_core.specs.declared.asked.Request.TheVariants.{Begin, Note, Abort, Policy, Work as WorksDue, Step, Run, Crash}
use Rattle.world_core.specs.declared.world.WorldFault.{WorldFault}
use Rattle.world_core.specs.World.{World}
use Rattle.world_core.specs.Handled.{Declines, FindsNoMemory, MakesStep, Runs, SettlesOn, Settles, Crashes, Does, ReportReply, Answers, Policies, WorksThrough}
use Rattle.session_facts.specs.Lines.Errands.{Errand, settles, sweeps}
use Rattle.world_core.specs.Replying.{declined, done_reply, told, told_by, commit_reply, trouble_reply, value_reply, RepliesTo, RepliesBegun, RepliesFor, RepliesTurn}
use Rattle.world_core.specs.Span.{span_of}

-- the reply of a line
abbrev IsOk : Reply → Result Reply WorldFault → Type 0
IsOk r result = (let own : Result Reply WorldFault = Ok r in own ≡ result)

no_memory : (r : Reply) → FindsNoMemory (Ok r) → ⊥
no_memory r e = absurd (cc)

-- ---- what tells a trouble

-- a reply that tells a trouble is the one that tells it, and that trouble has a text
pub told_is : (tell : Trouble → Reply) (t : Trouble) (r : Reply) → IsOk r (told_by tell (told t)) → (r ≡ tell t) × HasText t
told_is tell trouble.Memory r e = absurd (cc)
told_is tell trouble.Failed r e = (cc, tt)
told_is tell (trouble.Late end now) r e = (cc, tt)
told_is tell (trouble.Busy lock until) r e = (cc, tt)
told_is tell (trouble.Waiting have need) r e = (cc, tt)
told_is tell (trouble.Stale page least got) r e = (cc, tt)
told_is tell (trouble.Absent page) r e = (cc, tt)
told_is tell (trouble.NotALeaf page) r e = (cc, tt)
told_is tell (trouble.Damaged place offset) r e = (cc, tt)
told_is tell (trouble.BadFence page expected found) r e = (cc, tt)
told_is tell (trouble.Loop page) r e = (cc, tt)
told_is tell (trouble.Exhausted what) r e = (cc, tt)

-- and so for the end of a commit
pub commit_is : (a : CommitAnswer) (r : Reply) → IsOk r (commit_reply a) → (r ≡ reply.Commit a) × CommitHasText a
commit_is (NotCommitted t) r e = told_is (λ k. reply.Commit (NotCommitted k)) t r e
commit_is (CommittedOpen t) r e = told_is (λ k. reply.Commit (CommittedOpen k)) t r e
commit_is (Committed txn) r e = (cc, tt)
commit_is InDoubt r e = (cc, tt)

-- ---- the replies to answers

is_text : (r q : Reply) → r ≡ q → ReplyHasText q → ReplyHasText r
is_text r q e text = subst ReplyHasText (sym e) text

plain_text : (r q : Reply) → IsOk r (Ok q) → ReplyHasText q → ReplyHasText r
plain_text r q e text = let is : r ≡ q = cc in is_text r q is text

declined_text : (r : Reply) (why : Refused) → IsOk r (declined why) → ReplyHasText r
declined_text r (refused.Rule rule) e = plain_text r (reply.Refused rule) e tt
declined_text r refused.Memory e = absurd (cc)

declines_text : (r : Reply) (why : Refused) (before after : Seen) (old new : World) → Declines why (span_of before after old new) (Ok r) → ReplyHasText r
declines_text r why before after old new h = declined_text r why h.reply

done_text : (r q : Reply) (done : Result (Unit {0}) Refused) → IsOk r (done_reply q done) → ReplyHasText q → ReplyHasText r
done_text r q (Ok x) e text = plain_text r q e text
done_text r q (Err why) e text = declined_text r why e

trouble_text : (r : Reply) (t : Trouble) → IsOk r (trouble_reply t) → ReplyHasText r
trouble_text r t e = let is = told_is (λ k. reply.Trouble k) t r e in is_text r (reply.Trouble t) is.0 is.1

value_text : (value : Option Value) (r : Reply) → r ≡ value_reply value → ReplyHasText r
value_text None r e = is_text r reply.NoValue e tt
value_text (Some value) r e = is_text r (reply.Value value.payload) e tt

answer_text : (a : Answer) (left : Acting) (r : Reply) → RepliesTo a left (Ok r) → ReplyHasText r
answer_text (answer.Opened epoch) left r e = plain_text r (reply.Opened epoch) e tt
answer_text answer.Closed left r e = plain_text r reply.Closed e tt
answer_text (answer.Renewed end) left r e = plain_text r (reply.Renewed end) e tt
answer_text (answer.Done n) left r e = plain_text r (reply.Done n) e tt
answer_text (answer.Commit a) left r e = let is = commit_is a r e in is_text r (reply.Commit a) is.0 is.1
answer_text answer.Value left r e = value_text (value_of left) r e
answer_text answer.Scan left r e = is_text r (reply.Scan (items_of left)) e tt
answer_text (answer.Settled s) left r e = plain_text r (reply.Settled s.calls) e tt
answer_text (answer.Swept x) left r e = plain_text r (reply.Swept x.kept x.removed) e tt
answer_text (answer.Trouble t) left r e = trouble_text r t e

-- the reply to the answer of session 0 on an errand is one of these
module _ (P : Reply → Type 0) (settled : (calls : ℕ) → P (reply.Settled calls)) (unsettled : (k : Trouble) → HasText k → P (reply.NotSettled k))
    (swept : (kept removed : ℕ) → P (reply.Swept kept removed)) (unswept : (k : Trouble) → HasText k → P (reply.Trouble k)) where
  plain_is : (r q : Reply) → IsOk r (Ok q) → P q → P r
  plain_is r q e holds = let is : r ≡ q = cc in subst P (sym is) holds

  pub errand_is : (errand : Errand) (a : Answer) (r : Reply) → RepliesFor errand a (Ok r) → P r
  errand_is settles (answer.Settled s) r e = plain_is r (reply.Settled s.calls) e (settled s.calls)
  errand_is settles (answer.Trouble t) r e = let is = told_is (λ k. reply.NotSettled k) t r e in subst P (sym is.0) (unsettled t is.1)
  errand_is settles a r e = absurd e
  errand_is (sweeps tree) (answer.Swept x) r e = plain_is r (reply.Swept x.kept x.removed) e (swept x.kept x.removed)
  errand_is (sweeps tree) (answer.Trouble t) r e = let is = told_is (λ k. reply.Trouble k) t r e in subst P (sym is.0) (unswept t is.1)
  errand_is (sweeps tree) a r e = absurd e

begun_text : (begun : Result Begun Refused) (left : Acting) (r : Reply) → RepliesBegun begun left (Ok r) → ReplyHasText r
begun_text (Ok Working) left r e = plain_text r reply.Begun e tt
begun_text (Ok (Answered a)) left r e = answer_text a left r e
begun_text (Err why) left r e = declined_text r why e

turn_text : (turn : Turn Answer) (left : Acting) (r : Reply) → RepliesTurn turn left (Ok r) → ReplyHasText r
turn_text More left r e = plain_text r reply.Called e tt
turn_text (Ended a) left r e = answer_text a left r e
turn_text (Stopped t) left r e = trouble_text r t e

-- ---- the replies to lines

module _ (n : ℕ) (before after : Seen) (old new : World) (r : Reply) where
  step_text : (k : ℕ) (wish : Wish) → MakesStep (record { session = k; event = n }) wish (span_of before after old new) (Ok r) → ReplyHasText r
  step_text k wish (inl refuses) = declines_text r _ before after old new refuses.declines
  step_text k wish (inr (inl step)) = turn_text step.turn step.steps.session.after r step.replies
  step_text k wish (inr (inr memory)) = absurd (no_memory r memory.0)

  run_text : (k : ℕ) → Runs (record { session = k; event = n }) (span_of before after old new) (Ok r) → ReplyHasText r
  run_text k (inl refuses) = declines_text r _ before after old new refuses.declines
  run_text k (inr (inl run)) = answer_text run.answer run.comes.steps.session.after r run.replies
  run_text k (inr (inr memory)) = absurd (no_memory r memory.0)

  crash_text : (k : ℕ) (done : Bool) → Crashes (record { session = k; event = n }) done (span_of before after old new) (Ok r) → ReplyHasText r
  crash_text k false h = plain_text r reply.Crashed h.replies tt
  crash_text k true (inl idle) = plain_text r reply.Crashed idle.dies.replies tt
  crash_text k true (inr (inl h)) = plain_text r reply.Crashed h.replies tt
  crash_text k true (inr (inr memory)) = absurd (no_memory r memory.0)

  policy_text : (k : ℕ) (role : Role) (number : ℕ) → Policies k role number (span_of before after old new) (Ok r) → ReplyHasText r
  policy_text k role number (inl refuses) = declines_text r _ before after old new refuses.declines
  policy_text k role number (inr (inl refuses)) = declines_text r _ before after old new refuses.1.declines
  policy_text k role number (inr (inr gives)) = plain_text r reply.Noted gives.replies tt

  through_text : (k : ℕ) → WorksThrough (record { session = k; event = n }) (span_of before after old new) (Ok r) → ReplyHasText r
  through_text k (inl refuses) = declines_text r _ before after old new refuses.declines
  through_text k (inr (inl down)) = plain_text r (reply.Worked down.done down.passed) down.replies tt
  through_text k (inr (inr memory)) = absurd (no_memory r memory.0)

  does_text : (k : ℕ) (request : Request) → Does (record { session = k; event = n }) request (span_of before after old new) (Ok r) → ReplyHasText r
  does_text k (Begin op) h = begun_text h.1.does.begun h.1.after r h.1.does.replies
  does_text k (Note noting) h = done_text r reply.Noted h.1.does.noted h.1.does.replies tt
  does_text k Abort h = done_text r reply.Aborted h.1.does.dropped h.1.does.replies tt
  does_text k (Policy role number) h = policy_text k role number h
  does_text k WorksDue h = through_text k h
  does_text k (Step wish) h = step_text k wish h
  does_text k Run h = run_text k h
  does_text k (Crash done) h = crash_text k done h

  errand_text : (errand : Errand) → Settles errand n (span_of before after old new) (Ok r) → ReplyHasText r
  errand_text errand (inr memory) = absurd (no_memory r memory.0)
  errand_text errand (inl h) = on h.settles
    where
      on : SettlesOn errand (record { session = 0; event = n }) (span_of before after h.begun new) (Ok r) → ReplyHasText r
      on (inl s) = errand_is ReplyHasText (λ calls. tt) (λ k text. text) (λ kept removed. tt) (λ k text. text) errand s.answer r s.replies
      on (inr memory) = absurd (no_memory r memory.0)

report_text : (tree : ℕ) (before after : Seen) (world : World) (r : Reply) → ReportReply tree before after world (Ok r) → ReplyHasText r
report_text tree before after world (reply.Report shown) h = tt
report_text tree before after world (reply.Trouble t) h = h.1
report_text tree before after world (reply.Refused rule) h = tt
report_text tree before after world r h = absurd h

pub has_text : (n : ℕ) (asked : Asked) (before after : Seen) (old new : World) (result : Result Reply WorldFault) → Answers n asked (span_of before after old new) result
    → IfOk result ReplyHasText
has_text n (Session k (Ok request)) before after old new (Ok r) (inl h) = does_text n before after old new r k request h.1
has_text n (Session k (Err why)) before after old new (Ok r) (inl h) = declines_text r why before after old new h.1
has_text n (Session k request) before after old new (Ok r) (inr none) = declines_text r _ before after old new none.declines
has_text n (Wait ticks) before after old new (Ok r) (inl h) = plain_text r reply.Waited h.0.replies tt
has_text n (Wait ticks) before after old new (Ok r) (inr long) = declines_text r _ before after old new long.declines
has_text n (Report tree) before after old new (Ok r) h = report_text tree before after old r h.reply
has_text n Settle before after old new (Ok r) h = errand_text n before after old new r settles h
has_text n (Sweep (Ok tree)) before after old new (Ok r) h = errand_text n before after old new r (sweeps tree) h.1
has_text n (Sweep (Err why)) before after old new (Ok r) h = declines_text r why before after old new h
has_text n asked before after old new (Err fault) h = tt
