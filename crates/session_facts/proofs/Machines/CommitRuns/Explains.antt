-- Why a commit ends in trouble: its call failed or came too late. A stale walk is passed over.
use Rattle.std.proofs.Common.{◌≡◌, ◌≢◌, List, Option, Some, None, Result, Ok, Err, refl}
use Rattle.std.specs.Prelude.{slice_get}
use Rattle.cloud_facts.specs.Words.{Trouble, Entry, AtomicRec, Answer, CloudState, Caller, Seen, Claim, Ask, done_of, sent_of, Book, Store, store_of, StandsUnder}
use Rattle.cloud_facts.proofs.Calls.Calls.{call_of}
use Rattle.cloud_trait.specs.declared.answer.Answer.TheVariants.{Got, Sent, Received, Listed, Done, Given, Held, Renewed, Late, Failed, Memory}
use Rattle.cloud_trait.specs.Weather.{Makes}
use Rattle.commit_run.specs.declared.hand.Hand.{Hand}
use Rattle.commit_run.specs.declared.hand.Hand.TheVariants.{Writes, First, Change}
use Rattle.commit_run.specs.Run.{Run, ask_at, run_ask, run_next}
use Rattle.commit_run.specs.Sound.{IsSoundAt, IsSoundRun}
use Rattle.commit_writes.specs.declared.stage.Stage.{Stage}
use Rattle.commit_writes.specs.declared.stage.Stage.TheVariants.{Waiting, Logging, Opening, Sending, Settling, Deleting, Finished}
use Rattle.commit_writes.specs.Sound.{SendsRecord, IsSoundAt as IsSoundStage}
use Rattle.commit_writes.specs.Writing.{Writing, head_ask, send_ask, ask_at as stage_ask}
use Rattle.db_base.specs.declared.names.ObjName.TheVariants as object
use Rattle.db_base.specs.declared.names.QueueName.TheVariants as queue
use Rattle.db_base.specs.declared.trouble.Counter.{Counter}
use Rattle.db_base.specs.declared.trouble.Counter.TheVariants as counter
use Rattle.db_base.specs.declared.trouble.Trouble.TheVariants as trouble
use Rattle.cloud_facts.specs.Homes.Homes.{Home, Part}
use Rattle.page_cache.specs.Cache.{Cache}
use Rattle.route_plan.specs.Queue.{queue_name}
use Rattle.session_facts.specs.Machines.Commits.Knows.{KnowsCommitAt}
use Rattle.session_facts.specs.Machines.CommitRuns.Knows.{KnowsSeeking, KnowsHand, KnowsRun}
use Rattle.session_facts.specs.Sessions.Explains.{IsShown}
use Rattle.session_facts.specs.Sessions.Spent.{IsSpentToCommit}
use Rattle.session_facts.proofs.Machines.CommitRuns.Stops.{IsFair, IsOpeningFair, MayAnswerAt, MayAnswerIn, EndsWell, run_ends_by}
use Rattle.session_facts.proofs.Machines.Commits.Near.{near_told}
use Rattle.session_facts.proofs.Sessions.Spent.{all_behind, number_later}
use Rattle.session_facts.proofs.Sessions.Shows.{sent_shown, put_shown}
use Rattle.session_facts.specs.Machines.Walks.Knows.{WalkLeads}
use Rattle.session_facts.proofs.Machines.Walks.Explains.{walk_shown}
use Rattle.tree_walk.specs.Walk.{Walk, walk_ask, walk_next}

-- what brings no value is fair where each trouble of it may come
fair : {X : Type 0} (May : Trouble → Type 0) (g : Result X Trouble) → ((k : Trouble) → g ≡ Err k → May k) → IsFair May g
fair May (Ok x) each = tt
fair May (Err k) each = each k refl

module _ (book : Book) (order : List Entry) (s : CloudState) (stands : StandsUnder book order s) (who : Caller) (before after : Seen) (t : CloudState) (told : before.state ≡ Some s)
    (told_after : after.state ≡ Some t) (held : List Claim) (Spent : CloudState → Counter → Type 0) where
  abbrev pub st : Store
  st = store_of book order s

  -- a trouble is shown by this call
  abbrev pub Shown : Ask → Trouble → Type 0
  Shown ask k = IsShown ask held Spent (before.counts, s) (after.counts, t) k

  -- ---- what is written

  -- the put that commits is in doubt where it failed
  opening_shown : (w : Writing) (reply : Answer) → Makes who (head_ask w) reply before after → reply ≢ Memory → IsOpeningFair (Shown (head_ask w)) (done_of reply)
  opening_shown w Done made some = tt
  opening_shown w (Late end now) made some =
      put_shown who before after s t told told_after held Spent (object.Head w.home.client) w.out w.home.lease None (Late end now) made (trouble.Late end now) refl
  opening_shown w Failed made some = made.failed refl
  opening_shown w Memory made some = absurd (some refl)
  opening_shown w (Got v) made some = absurd made.fits
  opening_shown w (Sent id) made some = absurd made.fits
  opening_shown w (Received ms) made some = absurd made.fits
  opening_shown w (Listed pages) made some = absurd made.fits
  opening_shown w (Given l) made some = absurd made.fits
  opening_shown w (Held until) made some = absurd made.fits
  opening_shown w (Renewed end) made some = absurd made.fits

  sending_shown : (w : Writing) (o : Option AtomicRec) (reply : Answer) → SendsRecord w o → Makes who (send_ask w o) reply before after → IsFair (Shown (send_ask w o)) (sent_of reply)
  sending_shown w (Some r) reply sound made =
      fair (Shown (send_ask w (Some r))) (sent_of reply) (sent_shown who before after s t told told_after held Spent (queue_name r.tree r.page) w.out reply made)
  sending_shown w None reply sound made = absurd sound

  stage_shown : (w : Writing) (stage : Stage) (g : Home) (reply : Answer) → KnowsCommitAt stage st t.now w g → IsSoundStage stage w → Makes who (stage_ask stage w) reply before after
      → reply ≢ Memory → MayAnswerAt (Shown (stage_ask stage w)) stage reply
  stage_shown w Waiting g reply at sound made some = absurd at
  stage_shown w Logging g reply at sound made some =
      fair (Shown (stage_ask Logging w)) (sent_of reply) (sent_shown who before after s t told told_after held Spent (queue.Atomic w.home.client) w.out reply made)
  stage_shown w Opening g reply at sound made some = opening_shown w reply made some
  stage_shown w Sending g reply at sound made some = sending_shown w (slice_get w.records w.place) reply sound made
  stage_shown w Settling g reply at sound made some =
      fair (Shown (stage_ask Settling w)) (done_of reply)
      (put_shown who before after s t told told_after held Spent (object.Head w.home.client) w.out w.home.lease None reply made)
  stage_shown w Deleting g reply at sound made some = tt
  stage_shown w Finished g reply at sound made some = absurd at

  -- ---- the whole

  -- a call of a commit that found memory ends it for nothing that it does not show
  pub run_shown : (m : Run × Cache) (part : Part) (reply : Answer) → KnowsRun st t.now m part → IsSoundRun m.0 → Makes who (run_ask m.0) reply before after → reply ≢ Memory
      → ((what : Counter) → IsSpentToCommit t what → Spent t what) → EndsWell (Shown (run_ask m.0)) (run_next m reply)
  run_shown m part reply k sound made some own =
      run_ends_by (Shown (run_ask m.0)) (own counter.Txn tt) book order s stands
      (λ client counters counted near. own counter.Number (number_later s t (all_behind who (run_ask m.0) reply before after s t told told_after made) (near_told book order s stands client counters counted near)))
      (Shown (run_ask m.0)) (λ trouble shown stale. shown) who t m part reply k
      (call_of who (run_ask m.0) reply before after s t made told told_after) (on m.0.hand k.hand sound made)
    where
      walks : (w : Walk) → KnowsSeeking st t.now m.0.draft w part → Makes who (walk_ask w) reply before after → WalkLeads st (Shown (walk_ask w)) (walk_next (w, m.1) reply)
      walks w seeks made = walk_shown book order s stands who before after t told told_after held Spent w m.1 (record { walk = seeks.walk; cache = k.cache }) reply made

      on : (hand : Hand) → KnowsHand hand st t.now m.0.draft part → IsSoundAt hand m.0.draft.writes → Makes who (ask_at hand m.0.draft.writes) reply before after
          → MayAnswerIn (Shown (ask_at hand m.0.draft.writes)) (Shown (ask_at hand m.0.draft.writes)) st hand m reply
      on Writes a sound made = stage_shown m.0.draft.writes m.0.draft.writes.stage a.home reply a.at sound made some
      on (First w) a sound made = walks w a made
      on (Change w) a sound made = walks w a made
