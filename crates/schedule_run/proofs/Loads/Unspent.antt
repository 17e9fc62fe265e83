-- When a line of a load is answered that no attempt is left: where it begins a commit behind as many lines as there are numbers of attempts.
use Rattle.std.proofs.Common.{◌≡◌, ◌-◌, ◌^◌, ◌≤◌, inl, inr, ℕ, List, Option, Some, None, Result, Ok, Err, sym, ap, subst, ◌∙◌, arith}
use Rattle.client_work.specs.Session.{Acting, Begins, CommitsNoted, CommitsOf, Follows, StepsAt, value_of, acting_of}
use Rattle.client_work.specs.declared.listing.Listing.{Listing}
use Rattle.client_work.specs.declared.answer.Answer.{Answer}
use Rattle.client_work.specs.declared.answer.Answer.TheVariants as answer
use Rattle.client_work.specs.declared.answer.Begun.{Begun}
use Rattle.client_work.specs.declared.answer.Begun.TheVariants.{Working, Answered}
use Rattle.client_work.specs.declared.op.Op.TheVariants as op
use Rattle.client_work.specs.declared.work.Work.{Work}
use Rattle.client_work.specs.declared.work.Work.TheVariants.{Idle, Opening, Committing, Scanning, Looking, Settling, Sweeping}
use Rattle.client_work.specs.declared.shown.Shown.{Shown}
use Rattle.cloud_facts.specs.Words.{CommitAnswer, Turn, More, Ended, Stopped, Caller, Seen}
use Rattle.db_base.specs.Value.{Value}
use Rattle.db_base.specs.declared.refusal.Refusal.TheVariants.{BadNumber, NotWorking}
use Rattle.db_base.specs.declared.refusal.Refused.{Refused}
use Rattle.db_base.specs.declared.refusal.Refused.TheVariants as refused
use Rattle.db_base.specs.declared.trouble.CommitAnswer.TheVariants.{Committed, NotCommitted}
use Rattle.db_base.specs.declared.trouble.Trouble.TheVariants as trouble
use Rattle.db_base.specs.declared.wish.Wish.{Wish}
use Rattle.event_text.specs.declared.event.Event.TheVariants as event
use Rattle.page_cache.specs.Cache.{Cache}
use Rattle.recover_run.specs.declared.home.Home.{Home}
use Rattle.reply_text.specs.declared.reply.Reply.{Reply}
use Rattle.reply_text.specs.declared.reply.Reply.TheVariants as reply
use Rattle.session_facts.proofs.Machines.CommitRuns.Attempts.{no_attempt, begins_spent, steps_unspent}
use Rattle.txn_buffer.specs.Noted.{Noted}
use Rattle.world_core.proofs.EveryLine.{does_own, asked_is}
use Rattle.world_core.proofs.StandsLemmas.{no_memory}
use Rattle.world_core.proofs.Texts.{commit_is}
use Rattle.world_core.specs.Asked.{Asks}
use Rattle.world_core.specs.Handled.{Does, Answers, Handled, Runs, StepsLooked}
use Rattle.world_core.specs.Replying.{RepliesBegun, RepliesTo, declined, value_reply}
use Rattle.world_core.specs.World.{World}
use Rattle.world_core.specs.declared.world.WorldFault.{WorldFault}
use Rattle.world_core.specs.declared.asked.Asked.{Asked}
use Rattle.world_core.specs.declared.asked.Asked.TheVariants.{Session, Wait, Report, Settle, Sweep}
use Rattle.world_core.specs.declared.asked.Request.TheVariants.{Begin, Run}
use Rattle.world_core.specs.Span.{span_of}
use Rattle.schedule_run.proofs.Loads.Fair.{declined_not}
use Rattle.schedule_run.proofs.Loads.Numbered.{AtMost, own_work, changes_work}

-- ---- replies

-- the reply that tells how a commit ended is to no other answer
answers_commit : (x : Answer) (left : Acting) (r : Reply) (y : CommitAnswer) → RepliesTo x left (Ok r) → r ≡ reply.Commit y → x ≡ answer.Commit y
answers_commit (answer.Opened epoch) left r y e is = absurd (cc)
answers_commit answer.Closed left r y e is = absurd (cc)
answers_commit (answer.Renewed end) left r y e is = absurd (cc)
answers_commit (answer.Done n) left r y e is = absurd (cc)
answers_commit (answer.Commit a) left r y e is = let f : reply.Commit a ≡ reply.Commit y = sym (commit_is a r e).0 ∙ is in let same : a ≡ y = cc in ap answer.Commit same
answers_commit answer.Value left r y e is = on (value_of left) e
  where
    on : (v : Option Value) → r ≡ value_reply v → answer.Value ≡ answer.Commit y
    on None f = absurd (cc)
    on (Some value) f = absurd (cc)
answers_commit answer.Scan left r y e is = absurd (cc)
answers_commit (answer.Settled s) left r y e is = absurd (cc)
answers_commit (answer.Swept x) left r y e is = absurd (cc)
answers_commit (answer.Trouble trouble.Memory) left r y e is = absurd (cc)
answers_commit (answer.Trouble t) left r y e is = absurd (cc)

-- ---- steps

module _ (y : CommitAnswer) (is : y ≡ NotCommitted no_attempt) where
  lists : (home : Home) (buffer : List Noted) (l : Listing) (d : Cache) (moved : Turn ℕ) (new : Work) (shown : Shown) → Follows home l moved (acting_of buffer new d shown) (Ended (answer.Commit y)) → ⊥
  lists home buffer l d More new shown f = let clash = f.2 in absurd (cc)
  lists home buffer l d (Ended page) new shown f = absurd f
  lists home buffer l d (Stopped t) new shown f = let clash = f.2 in absurd (cc)

  step_unspent : (who : Caller) (before after : Seen) (w new : Work) → StepsAt who before after w new (Ended (answer.Commit y)) → ⊥
  step_unspent who before after (Committing m) new (sound, c, d, p) = steps_unspent who before after m c d new y p is
  step_unspent who before after (Opening m) new p = absurd p.1
  step_unspent who before after (Settling m) new p = absurd p.1
  step_unspent who before after (Sweeping m) new p = absurd p
  step_unspent who before after (Scanning home m) new (buffer, c, d, shown, p) = lists home buffer (record { scan = p.scan; pairs = m.pairs }) d p.moved new shown p.follows
  step_unspent who before after (Looking home m) new (buffer, c, d, shown, never) = absurd never
  step_unspent who before after w new p = absurd p

  turn_unspent : (who : Caller) (wish : Wish) (before after : Seen) (old new : World) (x : Answer) (r : Reply) → (p : StepsLooked who wish (span_of before after old new) (Ended x))
      → RepliesTo x p.session.after (Ok r) → r ≡ reply.Commit y → ⊥
  turn_unspent who wish before after old new x r p replies told =
      step_unspent who p.under p.to p.session.before.work p.session.after.work
      (subst (λ z. StepsAt who p.under p.to p.session.before.work p.session.after.work (Ended z)) (answers_commit x p.session.after r y replies told) p.session.does.work)

  -- ---- lines

  declined_no : (r : Reply) (why : Refused) → (let own : Result Reply WorldFault = Ok r in own ≡ declined why) → r ≡ reply.Commit y → ⊥
  declined_no r why e told = declined_not r (reply.Commit y) why e (λ rule same. cc) told

  module _ (m : ℕ) (before after : Seen) (old new : World) (r : Reply) (told : r ≡ reply.Commit y) where
    runs : (k : ℕ) → Runs (record { session = k; event = m }) (span_of before after old new) (Ok r) → ⊥
    runs k (inl refuses) = declined_no r (refused.Rule NotWorking) refuses.declines.reply told
    runs k (inr (inl run)) = turn_unspent _ _ run.comes.mid after run.comes.world new run.answer r run.comes.steps run.replies told
    runs k (inr (inr memory)) = absurd (no_memory r memory.0)

    run_asked : (session : ℕ) (asked : Asked) → Asks (event.Run session) asked → Answers m asked (span_of before after old new) (Ok r) → ⊥
    run_asked session (Session k (Ok request)) asks (inl p) = runs k (does_own m k request Run before after old new r (asked_is request Run asks.1) p.1)
    run_asked session (Session k (Err why)) asks (inl p) = declined_no r why p.1.reply told
    run_asked session (Session k request) asks (inr none) = declined_no r (refused.Rule BadNumber) none.declines.reply told
    run_asked session (Wait ticks) asks p = absurd asks
    run_asked session (Report tree) asks p = absurd asks
    run_asked session Settle asks p = absurd asks
    run_asked session (Sweep t) asks p = absurd asks

    -- a run never tells it
    pub run_unspent : (session : ℕ) → Handled m (event.Run session) (span_of before after old new) (Ok r) → ⊥
    run_unspent session handled = run_asked session handled.asked handled.asks handled.answers

    -- a commit at once, of a home whose last attempt is the greatest
    commits : (home : Home) (a b : Acting) (x : Answer) → CommitsNoted home a.buffer a.cache b.cache b.work (Answered x) → x ≡ answer.Commit y → home.attempt ≡ 2 ^ 64 - 1
    commits home a b x (inl nothing) e =
        let f : Answered (answer.Commit (Committed 0)) ≡ Answered (answer.Commit (NotCommitted no_attempt)) = sym nothing.answer ∙ ap Answered (e ∙ ap answer.Commit is) in
        absurd (cc)
    commits home a b x (inr (some, c)) e =
        begins_spent home a.buffer a.cache b.cache b.work y (subst (λ z. CommitsOf home a.buffer a.cache b.cache b.work (Answered z)) e c) is

    begins : (n : ℕ) (a b : Acting) (begun : Result Begun Refused) → Begins op.Commit a b begun → RepliesBegun begun b (Ok r) → AtMost n a.work → 2 ^ 64 - 1 ≤ n
    begins n a b (Ok Working) does e few = absurd (cc)
    begins n a b (Ok (Answered x)) does e few =
        let last = commits does.0 a b x does.2.1 (answers_commit x b r y e told) in
        let own : AtMost n (Idle does.0) = subst (AtMost n) does.1 few in
        let within = own.1 in
        let number : does.0.attempt ≡ own.0 = own.2 in
        omega (arith, last, within, number)
    begins n a b (Err why) does e few = absurd (declined_no r why e told)

    commit_asked : (n session : ℕ) (asked : Asked) → session ≡ 1 → AtMost n (own_work old) → Asks (event.Commit session) asked → Answers m asked (span_of before after old new) (Ok r) → 2 ^ 64 - 1 ≤ n
    commit_asked n session (Session k (Ok request)) one few asks (inl p) =
        let d = subst (λ j. Does (record { session = j; event = m }) (Begin op.Commit) (span_of before after old new) (Ok r)) (asks.0 ∙ one) (does_own m k request (Begin op.Commit) before after old new r (asked_is request (Begin op.Commit) asks.1) p.1) in
        let c = d.1 in
        let w = changes_work _ old new c in
        begins n c.before c.after c.does.begun c.does.begins c.does.replies (subst (AtMost n) w.0 few)
    commit_asked n session (Session k (Err why)) one few asks (inl p) = absurd (declined_no r why p.1.reply told)
    commit_asked n session (Session k request) one few asks (inr none) = absurd (declined_no r (refused.Rule BadNumber) none.declines.reply told)
    commit_asked n session (Wait ticks) one few asks p = absurd asks
    commit_asked n session (Report tree) one few asks p = absurd asks
    commit_asked n session Settle one few asks p = absurd asks
    commit_asked n session (Sweep t) one few asks p = absurd asks

    -- a commit of session 1 tells it only behind so many that were begun
    pub commit_spent : (n session : ℕ) → session ≡ 1 → AtMost n (own_work old) → Handled m (event.Commit session) (span_of before after old new) (Ok r) → 2 ^ 64 - 1 ≤ n
    commit_spent n session one few handled = commit_asked n session handled.asked one few handled.asks handled.answers
