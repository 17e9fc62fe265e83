-- What the reply of a line says is so, over any cloud, and by the lines before it.
use Rattle.std.proofs.Common.{◌≡◌, ◌+◌, ◌⊎◌, ℕ, List, [], ◌∷◌, ◌++◌, length, Bool, true, false, Option, Some, None, Result, Ok, Err, refl, sym, ap, subst, ◌∙◌, inl, inr, arith}
use Rattle.std.proofs.lemmas.Option.{same_Some}
use Rattle.client_work.specs.Causes.{deed_by}
use Rattle.client_work.specs.Session.{Acting, closed_session, ask_of_work, value_of, items_of}
use Rattle.client_work.specs.declared.answer.Answer.{Answer}
use Rattle.client_work.specs.declared.answer.Answer.TheVariants as answer
use Rattle.client_work.specs.declared.work.Work.{Work}
use Rattle.client_work.specs.declared.work.Work.TheVariants as work
use Rattle.cloud_facts.proofs.Book.Names.{at_same}
use Rattle.cloud_facts.specs.Words.{QueueName, Turn, More, Ended, Stopped, CloudState, Caller, Seen, Ask, Lasts}
use Rattle.cloud_trait.specs.State.{end_after}
use Rattle.db_base.specs.Limits.{client_ticks}
use Rattle.db_base.specs.declared.refusal.Refusal.{Refusal}
use Rattle.db_base.specs.declared.refusal.Refused.{Refused}
use Rattle.db_base.specs.declared.refusal.Refused.TheVariants as refused
use Rattle.db_base.specs.declared.wish.Wish.{Wish}
use Rattle.db_base.specs.declared.wish.Wish.TheVariants.{Plain}
use Rattle.db_base.specs.Value.{Value}
use Rattle.event_text.specs.declared.event.Event.{Event}
use Rattle.event_text.specs.declared.event.Event.TheVariants as event
use Rattle.recover_run.specs.declared.home.Home.{Home}
use Rattle.replay_meaning.specs.Standing.{Line, Standing, Opening, Reading, LookingUp, Paging as PagingPage, Folding as FoldingTree, standing}
use Rattle.reply_text.specs.declared.reply.Reply.{Reply}
use Rattle.reply_text.specs.declared.reply.Reply.TheVariants as reply
use Rattle.session_facts.proofs.Lines.Outcome.{made_call}
use Rattle.session_facts.proofs.Sessions.Lists.{session_there}
use Rattle.session_facts.specs.Lines.Facts.{session_at, WorksAs}
use Rattle.session_facts.specs.Lines.Shown.{scan_task}
use Rattle.session_facts.specs.Sessions.Knows.{KnowsWork}
use Rattle.cloud_facts.specs.Words.{store_of}
use Rattle.tree_walk.specs.Walk.{sought}
use Rattle.world_core.proofs.AllCalls.{stepped_was, call_by, settles_tell, sweeps_tell}
use Rattle.world_core.proofs.Counting.{stands_after}
use Rattle.world_core.proofs.LastCalls.{renews_at, opens_by, renews_by, reads_by, scans_by, done_by}
use Rattle.world_core.proofs.StandsLemmas.{IsUnderWay, changed_at, has_at, way_begins, went_on, told_under, no_stop, no_memory, replies_to}
use Rattle.world_core.proofs.Texts.{commit_is}
use Rattle.world_core.specs.Asked.{Asks, OfSession, IsStep}
use Rattle.world_core.specs.Handled.{Declines, StepsLooked, MakesStep, Runs, Crashes, Works as WorksLine, WorksThrough, Answers, Handled, Does, no_checkpoint, checkpoint_more, gone_through}
use Rattle.world_core.specs.Replying.{declined, value_reply, RepliesTo, RepliesTurn}
use Rattle.world_core.specs.Sessions.{Changes}
use Rattle.world_core.specs.Span.{span_of}
use Rattle.world_core.specs.Stands.{WorldStands, StandsFor}
use Rattle.world_core.specs.Tells.{MakesHand, LetsTimeGo, Sweeps, Dies, Calls, Reads, Scans, Finds, Pages, Folds, TellsEnd, WorksOver, no_queue, one_done, one_passed, Works, caller_of, Tells, IsAtWorkOn, WorksOnFor, newest_head, IsInNewest, EndsFromNow, TellsEndBy, TellsBy, TellsSo}
use Rattle.world_core.specs.World.{World}
use Rattle.world_core.specs.declared.asked.Asked.{Asked}
use Rattle.world_core.specs.declared.asked.Asked.TheVariants.{Session, Wait, Report, Settle, Sweep}
use Rattle.world_core.specs.declared.asked.Request.{Request}
use Rattle.world_core.specs.declared.asked.Request.TheVariants.{Work as WorksDue, Step, Run, Crash}
use Rattle.world_core.specs.declared.world.WorldFault.{WorldFault}

-- ---- the one call of a line

module _ (who : Caller) (wish : Wish) (before after : Seen) (old new : World) (turn : Turn Answer) (p : StepsLooked who wish (span_of before after old new) turn) where
  -- it is the one that the session had in hand
  calls_one : (last : World) → Calls who (span_of before after old last)
  calls_one last =
      let c = made_call who p.under p.to p.session.before.work p.session.after.work turn p.session.does.work in
      record {
        d = deed_by who c.ask c.answer p.under p.to;
        hand = ap (λ (a : Acting). ask_of_work a.work) (stepped_was who wish before after old new turn p) ∙ c.hand;
        are = (before, refl, call_by who wish before after old new turn p c.ask c.answer c.made);
      }

-- ---- the end of an operation

module _ (who : Caller) (wish : Wish) (before mid after : Seen) (old world new : World) where
  value_tells : (value : Option Value) (r : Reply) → r ≡ value_reply value → Reads who value (span_of before after old new) → TellsEnd who r (span_of before after old new)
  value_tells None r e reads = subst (λ (q : Reply). TellsEnd who q (span_of before after old new)) (sym e) reads
  value_tells (Some value) r e reads = subst (λ (q : Reply). TellsEnd who q (span_of before after old new)) (sym e) (value, refl, reads)

  plainly : (r q : Reply) → (let own : Result Reply WorldFault = Ok r in own ≡ Ok q) → TellsEnd who q (span_of before after old new) → TellsEnd who r (span_of before after old new)
  plainly r q e tells = let is : r ≡ q = cc (e) in subst (λ (z : Reply). TellsEnd who z (span_of before after old new)) (sym is) tells

  pub end_tells : (a : Answer) (p : StepsLooked who wish (span_of mid after world new) (Ended a)) (r : Reply) → RepliesTo a p.session.after (Ok r) → TellsEnd who r (span_of before after old new)
  end_tells (answer.Opened epoch) p r e =
      plainly r (reply.Opened epoch) e (opens_by who wish before mid after old world new epoch p (λ client. Unit {0}) (λ m was. tt)).0
  end_tells answer.Closed p r e = plainly r reply.Closed e tt
  end_tells (answer.Renewed end) p r e = plainly r (reply.Renewed end) e (renews_by who wish before mid after old world new end p)
  end_tells (answer.Done done) p r e = plainly r (reply.Done done) e (on (done_by who wish before mid after old world new done p (λ tree page. Unit {0}) (λ tree. Unit {0}) (λ home m was. tt) (λ home m was. tt)))
    where
      on : (Pages who done (span_of before after old new) × Unit {0}) ⊎ (Folds who done (span_of before after old new) × Unit {0}) → TellsEnd who (reply.Done done) (span_of before after old new)
      on (inl x) = inl x.0
      on (inr x) = inr x.0
  end_tells (answer.Commit c) p r e = subst (λ (z : Reply). TellsEnd who z (span_of before after old new)) (sym (commit_is c r e).0) tt
  end_tells answer.Value p r e =
      value_tells (value_of p.session.after) r e (reads_by who wish before mid after old world new p (λ walk client. Unit {0}) (λ home w was. tt)).0
  end_tells answer.Scan p r e =
      subst (λ (z : Reply). TellsEnd who z (span_of before after old new)) (sym e)
      (on (scans_by who wish before mid after old world new p (λ range client. Unit {0}) (λ query client. Unit {0}) (λ home m was. tt) (λ home m was. tt)))
    where
      on : (Scans who (items_of p.session.after) (span_of before after old new) × Unit {0}) ⊎ (Finds who (items_of p.session.after) (span_of before after old new) × Unit {0})
          → TellsEnd who (reply.Scan (items_of p.session.after)) (span_of before after old new)
      on (inl x) = inl x.0
      on (inr x) = inr x.0
  end_tells (answer.Settled s) p r e = plainly r (reply.Settled s.calls) e tt
  end_tells (answer.Swept x) p r e = plainly r (reply.Swept x.kept x.removed) e tt
  end_tells (answer.Trouble t) p r e = let is = replies_to (answer.Trouble t) p.session.after r e in subst (λ (z : Reply). TellsEnd who z (span_of before after old new)) (sym is.0.0) tt

-- ---- by the lines

-- the head of an open client, where what stands behind its line tells it
newest_in : (lines : List Line) (new : World) (after : Seen) (r : Reply) → StandsFor lines new after r → (k : ℕ) (home : Home) → (session_at new.sessions k).work ≡ work.Idle home → IsInNewest home after
newest_in lines new after r f k home is = λ u told lasts.
    let h = f.stands.by_lines.holds in
    let known : KnowsWork (store_of h.book h.order f.after) f.after.now (session_at new.sessions k).cache (work.Idle home) (h.stand.parts k) =
    subst (λ (w : Work). KnowsWork (store_of h.book h.order f.after) f.after.now (session_at new.sessions k).cache w (h.stand.parts k)) is (h.stand.each k).work in
    let P : CloudState → Type 0 = λ x. Lasts x.now home.lease → (newest_head x home.client).epoch ≡ home.head.epoch in
    let here : P f.after = λ l. sym (known.at.newest l).epoch in
    subst P (same_Some f.after u (sym f.told ∙ told)) here lasts

module _ (lines : List Line) (who : Caller) (wish : Wish) (before mid after : Seen) (old world new : World) (number : who.event ≡ length lines + 1) (way : IsUnderWay lines world mid)
    (newest : (home : Home) → (session_at new.sessions who.session).work ≡ work.Idle home → IsInNewest home after) where
  abbrev stood : Standing
  stood = standing lines who.session

  module _ (turn : Turn Answer) (p : StepsLooked who wish (span_of mid after world new) turn) where
    acts : (w : Work) → p.session.before.work ≡ w → WorksAs w stood
    acts w is = subst (λ (v : Work). WorksAs v stood) (ap (λ (a : Acting). a.work) (stepped_was who wish mid after world new turn p) ∙ is) (way.goes.acts who.session).work

  value_by : (value : Option Value) (r : Reply) → r ≡ value_reply value → (x : Reads who value (span_of before after old new)) × WorksOnFor lines who.session (Reading x.walk.tree (sought x.walk)) x.home.client
      → TellsEndBy lines who r (span_of before after old new)
  value_by None r e reads = subst (λ (q : Reply). TellsEndBy lines who q (span_of before after old new)) (sym e) reads
  value_by (Some value) r e reads = subst (λ (q : Reply). TellsEndBy lines who q (span_of before after old new)) (sym e) (value, refl, reads)

  plainly_by : (r q : Reply) → (let own : Result Reply WorldFault = Ok r in own ≡ Ok q) → TellsEndBy lines who q (span_of before after old new) → TellsEndBy lines who r (span_of before after old new)
  plainly_by r q e tells = let is : r ≡ q = cc (e) in subst (λ (z : Reply). TellsEndBy lines who z (span_of before after old new)) (sym is) tells

  ends_from_now : (end : ℕ) → StepsLooked who wish (span_of mid after world new) (Ended (answer.Renewed end)) → EndsFromNow end after
  ends_from_now end p = λ u told.
      let r = renews_at who p.under p.to p.session.after.work p.session.before.cache p.session.does.causes.0 p.session.before.work end p.session.does.work p.session.does.causes.1 in
      let l = r.made.state (record way.after { wish = wish }) (told_under lines who wish mid after world new (Ended (answer.Renewed end)) number way p) in
      subst (λ (x : CloudState). end ≡ end_after x.now client_ticks) (same_Some l.after u (sym (p.look_after.stays l.after l.told) ∙ told)) l.row.1

  pub end_by : (a : Answer) (p : StepsLooked who wish (span_of mid after world new) (Ended a)) (r : Reply) → RepliesTo a p.session.after (Ok r) → TellsEndBy lines who r (span_of before after old new)
  end_by (answer.Opened epoch) p r e =
      let x = opens_by who wish before mid after old world new epoch p (λ client. WorksOnFor lines who.session Opening client)
      (λ m was. let s = acts (Ended (answer.Opened epoch)) p (work.Opening m) was in (s.0, s.1)) in
      plainly_by r (reply.Opened epoch) e (x.0, x.1, newest x.0.home x.0.is_open)
  end_by answer.Closed p r e = plainly_by r reply.Closed e tt
  end_by (answer.Renewed end) p r e = plainly_by r (reply.Renewed end) e (ends_from_now end p)
  end_by (answer.Done done) p r e =
      plainly_by r (reply.Done done) e
      (done_by who wish before mid after old world new done p (λ tree page. IsAtWorkOn lines who.session (PagingPage tree page)) (λ tree. IsAtWorkOn lines who.session (FoldingTree tree))
      (λ home m was. (acts (Ended (answer.Done done)) p (work.Paging home m) was).0) (λ home m was. (acts (Ended (answer.Done done)) p (work.Folding home m) was).0))
  end_by (answer.Commit c) p r e = subst (λ (z : Reply). TellsEndBy lines who z (span_of before after old new)) (sym (commit_is c r e).0) tt
  end_by answer.Value p r e =
      value_by (value_of p.session.after) r e
      (reads_by who wish before mid after old world new p (λ walk client. WorksOnFor lines who.session (Reading walk.tree (sought walk)) client)
      (λ home w was. let s = acts (Ended answer.Value) p (work.Reading home w) was in (s.0, s.1)))
  end_by answer.Scan p r e =
      subst (λ (z : Reply). TellsEndBy lines who z (span_of before after old new)) (sym e)
      (scans_by who wish before mid after old world new p (λ range client. WorksOnFor lines who.session (scan_task range) client)
      (λ query client. WorksOnFor lines who.session (LookingUp query.tree query.attr) client)
      (λ home m was. let s = acts (Ended answer.Scan) p (work.Scanning home m) was in (s.0, s.1)) (λ home m was. let s = acts (Ended answer.Scan) p (work.Looking home m) was in (s.0, s.1)))
  end_by (answer.Settled s) p r e = plainly_by r (reply.Settled s.calls) e tt
  end_by (answer.Swept x) p r e = plainly_by r (reply.Swept x.kept x.removed) e tt
  end_by (answer.Trouble t) p r e =
      let is = replies_to (answer.Trouble t) p.session.after r e in subst (λ (z : Reply). TellsEndBy lines who z (span_of before after old new)) (sym is.0.0) tt

-- ---- lines of a session

-- a line that is not done is answered by the rule that refuses it
abbrev IsRefused : Reply → Type 0
IsRefused r = (rule : Refusal) × (r ≡ reply.Refused rule)

declined_is : (r : Reply) (why : Refused) → (let result : Result Reply WorldFault = Ok r in result ≡ declined why) → IsRefused r
declined_is r (refused.Rule rule) e = (rule, cc (e))
declined_is r refused.Memory e = absurd (cc (e))

declines_is : {why : Refused} → (r : Reply) (before after : Seen) (old new : World) → Declines why (span_of before after old new) (Ok r) → IsRefused r
declines_is {why} r before after old new h = declined_is r why h.reply

-- the checkpoints of a work, counted by what each came to
none_more : (count : ℕ) → count ≡ count + 0
none_more count = omega arith

works_over : (who : Caller) (before : Seen) (old : World) (queues : List QueueName) (done passed : ℕ) (after : Seen) (new : World)
    → WorksLine who before old (gone_through queues done passed) after new → WorksOver who before old queues done passed after new
works_over who before old queues done passed after new no_checkpoint = no_queue
works_over who before old queues done passed after new (checkpoint_more others kept left mid world queue (answer.Done a) _ _ works makes passes) =
    subst (λ (q : ℕ). WorksOver who before old (others ++ queue ∷ []) (kept + 1) q after new) (none_more left)
    (one_done others kept left mid after world new queue a (works_over who before old others kept left mid world works) makes)
works_over who before old queues done passed after new (checkpoint_more others kept left mid world queue (answer.Trouble t) _ _ works makes passes) =
    subst (λ (q : ℕ). WorksOver who before old (others ++ queue ∷ []) q (left + 1) after new) (none_more kept)
    (one_passed others kept left mid after world new queue t (works_over who before old others kept left mid world works) makes passes)
works_over who before old queues done passed after new (checkpoint_more others kept left mid world queue a _ _ works makes passes) = absurd passes

not_worked : (done passed : ℕ) → IsRefused (reply.Worked done passed) → ⊥
not_worked done passed is = absurd (cc (is.1))

same_done : (done passed d p : ℕ) → (let r : Result Reply WorldFault = Ok (reply.Worked done passed) in r ≡ Ok (reply.Worked d p)) → d ≡ done
same_done done passed d p e = cc (e)

same_passed : (done passed d p : ℕ) → (let r : Result Reply WorldFault = Ok (reply.Worked done passed) in r ≡ Ok (reply.Worked d p)) → p ≡ passed
same_passed done passed d p e = cc (e)

module _ (n k : ℕ) (before after : Seen) (old new : World) where
  module _ (r : Reply) where
    abbrev Said : Type 0
    Said = TellsEnd (caller_of n k) r (span_of before after old new)

    refused_tells : IsRefused r → Said
    refused_tells is = subst (λ (z : Reply). TellsEnd (caller_of n k) z (span_of before after old new)) (sym is.1) tt

    step_tells : (wish : Wish) → MakesStep (caller_of n k) wish (span_of before after old new) (Ok r) → Said
    step_tells wish (inl refuses) = refused_tells (declines_is r before after old new refuses.declines)
    step_tells wish (inr (inl step)) = on step.turn step.steps step.replies
      where
        on : (turn : Turn Answer) (p : StepsLooked (caller_of n k) wish (span_of before after old new) turn) → RepliesTurn turn p.session.after (Ok r) → Said
        on More p e = plainly (caller_of n k) wish before before after old old new r reply.Called e (calls_one (caller_of n k) wish before after old new More p new)
        on (Ended a) p e = end_tells (caller_of n k) wish before before after old old new a p r e
        on (Stopped t) p e = absurd (no_stop _ p.under p.to p.session.before p.session.after t p.session.does)
    step_tells wish (inr (inr memory)) = absurd (no_memory r memory.0)

    run_tells : Runs (caller_of n k) (span_of before after old new) (Ok r) → Said
    run_tells (inl refuses) = refused_tells (declines_is r before after old new refuses.declines)
    run_tells (inr (inl run)) = end_tells (caller_of n k) Plain before run.comes.mid after old run.comes.world new run.answer run.comes.steps r run.replies
    run_tells (inr (inr memory)) = absurd (no_memory r memory.0)

    module _ (lines : List Line) (t : CloudState) (number : length lines + 1 ≡ n) (told : before.state ≡ Some t) (stands : WorldStands lines old t)
        (newest : (home : Home) → (session_at new.sessions k).work ≡ work.Idle home → IsInNewest home after) where
      abbrev SaidBy : Type 0
      SaidBy = TellsEndBy lines (caller_of n k) r (span_of before after old new)

      way : IsUnderWay lines old before
      way = way_begins lines before old t told stands.by_lines

      refused_by : IsRefused r → SaidBy
      refused_by is = subst (λ (z : Reply). TellsEndBy lines (caller_of n k) z (span_of before after old new)) (sym is.1) tt

      step_by : (wish : Wish) → MakesStep (caller_of n k) wish (span_of before after old new) (Ok r) → SaidBy
      step_by wish (inl refuses) = refused_by (declines_is r before after old new refuses.declines)
      step_by wish (inr (inl step)) = on step.turn step.steps step.replies
        where
          on : (turn : Turn Answer) (p : StepsLooked (caller_of n k) wish (span_of before after old new) turn) → RepliesTurn turn p.session.after (Ok r) → SaidBy
          on More p e = plainly_by lines (caller_of n k) wish before before after old old new (sym number) way newest r reply.Called e tt
          on (Ended a) p e = end_by lines (caller_of n k) wish before before after old old new (sym number) way newest a p r e
          on (Stopped t) p e = absurd (no_stop _ p.under p.to p.session.before p.session.after t p.session.does)
      step_by wish (inr (inr memory)) = absurd (no_memory r memory.0)

      run_by : Runs (caller_of n k) (span_of before after old new) (Ok r) → SaidBy
      run_by (inl refuses) = refused_by (declines_is r before after old new refuses.declines)
      run_by (inr (inl run)) =
          end_by lines (caller_of n k) Plain before run.comes.mid after old run.comes.world new (sym number)
          (went_on lines (caller_of n k) before old run.comes.mid run.comes.world (sym number) way run.comes.went) newest run.answer run.comes.steps r run.replies
      run_by (inr (inr memory)) = absurd (no_memory r memory.0)

  -- a session that dies
  closes : Changes k (λ a b. b ≡ closed_session) old.sessions new.sessions → session_at new.sessions k ≡ closed_session
  closes c = changed_at k _ old.sessions new.sessions c k ∙ (at_same k c.after (session_at old.sessions) k refl ∙ c.does)

  crash_tells : (done : Bool) → Crashes (caller_of n k) done (span_of before after old new) (Ok reply.Crashed) → Dies (caller_of n k) done (span_of before after old new)
  crash_tells false h = record { calls = h.quiet.seen; closed = closes h.closed }
  crash_tells true (inl h) =
      let none : ask_of_work (session_at old.sessions k).work ≡ None = ap (λ (a : Acting). ask_of_work a.work) (session_there old.sessions k h.rests.session h.rests.there) ∙ h.rests.idle in
      record { calls = subst (λ (o : Option Ask). MakesHand (caller_of n k) o before after) (sym none) h.dies.quiet.seen; closed = closes h.dies.closed }
  crash_tells true (inr (inl h)) =
      let c = calls_one (caller_of n k) Plain before after old h.world h.turn h.steps new in
      record {
        calls = subst (λ (o : Option Ask). MakesHand (caller_of n k) o before after) (sym c.hand) (c.d, refl, c.are);
        closed = has_at k closed_session h.world new h.closes k ∙ at_same k closed_session (session_at h.world.sessions) k refl;
      }
  crash_tells true (inr (inr memory)) = absurd (no_memory reply.Crashed memory.0)

  -- a work
  work_tells : (done passed : ℕ) → WorksThrough (caller_of n k) (span_of before after old new) (Ok (reply.Worked done passed)) → Works (caller_of n k) done passed (span_of before after old new)
  work_tells done passed (inl refuses) = absurd (not_worked done passed (declines_is (reply.Worked done passed) before after old new refuses.declines))
  work_tells done passed (inr (inl down)) =
      let over = works_over (caller_of n k) before old down.queues down.done down.passed after new down.works in
      record {
        queues = down.queues;
        due = down.due;
        over = subst (λ (x : ℕ). WorksOver (caller_of n k) before old down.queues x passed after new) (same_done done passed down.done down.passed down.replies)
            (subst (λ (y : ℕ). WorksOver (caller_of n k) before old down.queues down.done y after new) (same_passed done passed down.done down.passed down.replies) over);
      }
  work_tells done passed (inr (inr memory)) = absurd (no_memory (reply.Worked done passed) memory.0)

  -- what is asked of a session is done, or the line is not
  served : (Is : Result Request Refused → Type 0) (wanted : Request) → ((q : Request) → Is (Ok q) → q ≡ wanted) → (r : Reply) (asked : Asked) → OfSession k Is asked
      → Answers n asked (span_of before after old new) (Ok r)
      → Does (caller_of n k) wanted (span_of before after old new) (Ok r) ⊎ IsRefused r
  served Is wanted one r (Session j (Ok q)) belongs (inl p) =
      inl
      (subst (λ i. Does (caller_of n i) wanted (span_of before after old new) (Ok r)) belongs.0
      (subst (λ (x : Request). Does (caller_of n j) x (span_of before after old new) (Ok r)) (one q belongs.1) p.1))
  served Is wanted one r (Session j (Err why)) belongs (inl p) = inr (declines_is r before after old new p.1)
  served Is wanted one r (Session j q) belongs (inr none) = inr (declines_is r before after old new none.declines)
  served Is wanted one r (Wait ticks) belongs answers = absurd belongs
  served Is wanted one r (Report tree) belongs answers = absurd belongs
  served Is wanted one r Settle belongs answers = absurd belongs
  served Is wanted one r (Sweep tree) belongs answers = absurd belongs

-- ---- every line

the_request : (q wanted : Request) → (let a : Result Request Refused = Ok q in a ≡ Ok wanted) → q ≡ wanted
the_request q wanted e = cc (e)

wait_tells : (ticks n : ℕ) (before after : Seen) (old new : World) → Answers n (Wait ticks) (span_of before after old new) (Ok reply.Waited) → LetsTimeGo ticks (span_of before after old new)
wait_tells ticks n before after old new (inl h) = record { no_call = h.0.no_call; waited = h.0.waited; world = h.1 }
wait_tells ticks n before after old new (inr long) = let is = declines_is reply.Waited before after old new long.declines in absurd (cc (is.1))

module _ (n : ℕ) (before after : Seen) (old new : World) where
  tells_for : (e : Event) (r : Reply) (asked : Asked) → Asks e asked → Answers n asked (span_of before after old new) (Ok r) → Tells n e r (span_of before after old new)
  tells_for (event.Wait ticks) reply.Waited asked asks answers =
      wait_tells ticks n before after old new (subst (λ z. Answers n z (span_of before after old new) (Ok reply.Waited)) asks answers)
  tells_for (event.Crash k done) reply.Crashed asked asks answers = on (served n k before after old new _ (Crash done) (λ q e. the_request q (Crash done) e) reply.Crashed asked asks answers)
    where
      on : Does (caller_of n k) (Crash done) (span_of before after old new) (Ok reply.Crashed) ⊎ IsRefused reply.Crashed
          → Dies (caller_of n k) done (span_of before after old new)
      on (inl does) = crash_tells n k before after old new done does
      on (inr is) = absurd (cc (is.1))
  tells_for event.Settle (reply.Settled calls) asked asks answers =
      settles_tell n before after old new calls (subst (λ z. Answers n z (span_of before after old new) (Ok (reply.Settled calls))) asks answers)
  tells_for (event.Sweep tree) (reply.Swept kept removed) (Sweep (Ok of)) asks answers =
      subst (λ (x : ℕ). Sweeps (caller_of n 0) x kept removed (span_of before after old new)) asks.0 (sweeps_tell n of before after old new kept removed answers.1)
  tells_for (event.Sweep tree) (reply.Swept kept removed) (Sweep (Err why)) asks answers = let is = declines_is (reply.Swept kept removed) before after old new answers in absurd (cc (is.1))
  tells_for (event.Sweep tree) (reply.Swept kept removed) (Session k q) asks answers = absurd asks
  tells_for (event.Sweep tree) (reply.Swept kept removed) (Wait ticks) asks answers = absurd asks
  tells_for (event.Sweep tree) (reply.Swept kept removed) (Report of) asks answers = absurd asks
  tells_for (event.Sweep tree) (reply.Swept kept removed) Settle asks answers = absurd asks
  tells_for (event.Work k) (reply.Worked done passed) asked asks answers =
      on (served n k before after old new _ WorksDue (λ q e. the_request q WorksDue e) (reply.Worked done passed) asked asks answers)
    where
      on : Does (caller_of n k) WorksDue (span_of before after old new) (Ok (reply.Worked done passed))
          ⊎ IsRefused (reply.Worked done passed)
          → Works (caller_of n k) done passed (span_of before after old new)
      on (inl does) = work_tells n k before after old new done passed does
      on (inr is) = absurd (not_worked done passed is)
  tells_for (event.Step k wish) r asked asks answers = on (served n k before after old new (IsStep wish) (Step wish) (λ q e. e) r asked asks answers)
    where
      on : Does (caller_of n k) (Step wish) (span_of before after old new) (Ok r) ⊎ IsRefused r
          → TellsEnd (caller_of n k) r (span_of before after old new)
      on (inl does) = step_tells n k before after old new r wish does
      on (inr is) = refused_tells n k before after old new r is
  tells_for (event.Run k) r asked asks answers = on (served n k before after old new _ Run (λ q e. the_request q Run e) r asked asks answers)
    where
      on : Does (caller_of n k) Run (span_of before after old new) (Ok r) ⊎ IsRefused r
          → TellsEnd (caller_of n k) r (span_of before after old new)
      on (inl does) = run_tells n k before after old new r does
      on (inr is) = refused_tells n k before after old new r is
  tells_for e r asked asks answers = tt

  -- by the lines
  module _ (lines : List Line) (t : CloudState) (number : length lines + 1 ≡ n) (told : before.state ≡ Some t) (stands : WorldStands lines old t)
      (newest : (k : ℕ) (home : Home) → (session_at new.sessions k).work ≡ work.Idle home → IsInNewest home after) where
    by_for : (e : Event) (r : Reply) (asked : Asked) → Asks e asked → Answers n asked (span_of before after old new) (Ok r) → TellsBy lines n e r (span_of before after old new)
    by_for (event.Step k wish) r asked asks answers = on (served n k before after old new (IsStep wish) (Step wish) (λ q e. e) r asked asks answers)
      where
        on : Does (caller_of n k) (Step wish) (span_of before after old new) (Ok r) ⊎ IsRefused r
            → TellsEndBy lines (caller_of n k) r (span_of before after old new)
        on (inl does) = step_by n k before after old new r lines t number told stands (newest k) wish does
        on (inr is) = refused_by n k before after old new r lines t number told stands (newest k) is
    by_for (event.Run k) r asked asks answers = on (served n k before after old new _ Run (λ q e. the_request q Run e) r asked asks answers)
      where
        on : Does (caller_of n k) Run (span_of before after old new) (Ok r) ⊎ IsRefused r
            → TellsEndBy lines (caller_of n k) r (span_of before after old new)
        on (inl does) = run_by n k before after old new r lines t number told stands (newest k) does
        on (inr is) = refused_by n k before after old new r lines t number told stands (newest k) is
    by_for e r asked asks answers = tt

pub tells : (n : ℕ) (event : Event) (before after : Seen) (old new : World) (r : Reply) → Handled n event (span_of before after old new) (Ok r) → Tells n event r (span_of before after old new)
tells n event before after old new r h = tells_for n before after old new event r h.asked h.asks h.answers

pub tells_by : (n : ℕ) (event : Event) (before after : Seen) (old new : World) (r : Reply) → Handled n event (span_of before after old new) (Ok r) → (lines : List Line) (t : CloudState) → length lines + 1 ≡ n
    → before.state ≡ Some t → WorldStands lines old t → TellsBy lines n event r (span_of before after old new)
tells_by n event before after old new r h lines t number told stands =
    by_for n before after old new lines t number told stands
    (newest_in (lines ++ record { event = event; reply = r } ∷ []) new after r (stands_after n event before after old new (Ok r) h lines t number told stands))
    event r h.asked h.asks h.answers

pub tells_so : (n : ℕ) (event : Event) (before after : Seen) (old new : World) (result : Result Reply WorldFault) → Handled n event (span_of before after old new) result
    → TellsSo n event (span_of before after old new) result
tells_so n event before after old new (Ok r) h = (tells n event before after old new r h, tells_by n event before after old new r h)
tells_so n event before after old new (Err fault) h = tt
