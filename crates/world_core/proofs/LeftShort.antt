-- What a line leaves of the sessions for which memory ran out.
use Rattle.std.proofs.Common.{◌≡◌, ℕ, List, [], Bool, true, false, Some, None, Option, Result, Ok, Err, refl, sym, ap, subst, ◌∙◌, inl, inr, ◌⊎◌}
use Rattle.std.specs.Prelude.{get_or, slice_get, slice_set}
use Rattle.std.proofs.lemmas.List.{set-get_or, set-set}
use Rattle.std.proofs.lemmas.Option.{slice_get_within, slice_get-get_or}
use Rattle.db_base.specs.declared.refusal.Refused.{Refused}
use Rattle.db_base.specs.declared.refusal.Refused.TheVariants as refused
use Rattle.cloud_facts.specs.Words.{Trouble, CommitAnswer, QueueName, Answer as Heard, Turn, More, Ended, Stopped, Caller, Seen, Claim, Ask, Release, Ends}
use Rattle.db_base.specs.declared.trouble.CommitAnswer.TheVariants.{Committed, NotCommitted, InDoubt, CommittedOpen}
use Rattle.db_base.specs.declared.trouble.Trouble.TheVariants as trouble
use Rattle.db_base.specs.declared.wish.Wish.{Wish}
use Rattle.db_base.specs.declared.wish.Wish.TheVariants.{Plain}
use Rattle.event_text.specs.declared.event.Event.{Event}
use Rattle.reply_text.specs.declared.reply.Reply.{Reply}
use Rattle.reply_text.specs.declared.reply.Reply.TheVariants as reply
use Rattle.txn_buffer.specs.Noted.{Noted}
use Rattle.page_cache.specs.Cache.{Cache}
use Rattle.recover_run.specs.declared.home.Home.{Home}
use Rattle.recover_run.specs.declared.stage.RecoverAnswer.{RecoverAnswer}
use Rattle.recover_run.specs.Recovery.{Recovery, Step as Leads, recovery_ask, under}
use Rattle.recover_run.proofs.Outcomes.{Comes, gives_old, takes, refused as taken_not, stops, finds_none, reads_settled, reads_open, deletes, receives, sends, puts, clears, sweeps, clears_past, opens, closes, ends, stopped, astray, nothing as does_nothing, comes_to}
use Rattle.tree_walk.specs.Walk.{Walk, new_walk}
use Rattle.attr_index.specs.Look.{Query}
use Rattle.client_work.specs.declared.answer.Answer.{Answer}
use Rattle.client_work.specs.declared.answer.Answer.TheVariants as answer
use Rattle.client_work.specs.declared.answer.Begun.{Begun}
use Rattle.client_work.specs.declared.answer.Begun.TheVariants.{Working, Answered}
use Rattle.client_work.specs.declared.listing.Listing.{Listing}
use Rattle.client_work.specs.declared.op.Op.{Op}
use Rattle.client_work.specs.declared.op.Op.TheVariants as op
use Rattle.client_work.specs.declared.shown.Shown.{Shown}
use Rattle.client_work.specs.declared.work.Work.{Work}
use Rattle.client_work.specs.declared.work.Work.TheVariants.{Closed, Idle, Opening, Committing, Reading, Scanning, Looking, Paging, Folding, Closing, Renewing, Settling, Sweeping, Broken}
use Rattle.client_work.specs.BrokenOff.{broken_off, broken_work}
use Rattle.client_work.specs.Session.{Acting, closed_session, Begins, BeginsWith, CommitsIn, CommitsNoted, CommitsOf, Follows, HasInHand, LooksIn, LooksOf, ReadsIn, ReadsOf, ScansIn, folding_begun_by, paging_begun_by, StepsAt, StepsSession, ask_of_work, committed_work, stopped_work, acting_of}
use Rattle.session_facts.proofs.Rows.CallKinds.{HasCheckpoint}
use Rattle.ckpt_policy.specs.declared.role.Role.{Role}
use Rattle.session_facts.specs.Sessions.Knows.{Sessions}
use Rattle.session_facts.specs.Lines.Facts.{session_at}
use Rattle.session_facts.proofs.Sessions.Lists.{session_there}
use Rattle.client_work.specs.declared.shown.Shown.TheVariants.{Nothing}
use Rattle.range_scan.specs.Scan.{new_scan}
use Rattle.world_core.proofs.Workers.{IsBetween, IsInside, open_rests, within_begun, within_works}
use Rattle.world_core.specs.declared.asked.Asked.{Asked}
use Rattle.world_core.specs.declared.asked.Asked.TheVariants.{Session, Wait, Report, Settle, Sweep}
use Rattle.world_core.specs.declared.asked.Noting.{Noting}
use Rattle.world_core.specs.declared.asked.Request.{Request}
use Rattle.world_core.specs.declared.asked.Request.TheVariants.{Begin, Note, Abort, Policy, Work as WorksDue, Step, Run, Crash}
use Rattle.world_core.specs.declared.world.WorldFault.{WorldFault}
use Rattle.session_facts.specs.Lines.Errands as errands
use Rattle.world_core.specs.Handled.{Answers, BeginsOp, BreaksOff, ComesTo, Crashes, Does, DropsChanges, FallsShort, Handled, MakesStep, NotesChange, Runs, RunsShort, Settles, SettlesOn, StepsLooked, StopsShort, Went, further, start, CheckpointFails, Checkpoints, FailsAt, IsUndone, KnowsNoDue, Policies, Works, WorksThrough, checkpoint_more, is_done, no_checkpoint, gone_through}
use Rattle.world_core.specs.LeftShort.{AskedShort, IsBroken, IsLeftShort, LeavesShort, ServesShort, SettlerShort}
use Rattle.world_core.specs.Put.{Put, put_of, put_of_ask}
use Rattle.world_core.specs.Replying.{RepliesBegun, RepliesTurn, done_reply}
use Rattle.world_core.specs.Sessions.{Changes, NotesIn, AbortsIn}
use Rattle.world_core.specs.World.{World}
use Rattle.world_core.specs.Span.{span_of}
use Rattle.world_core.proofs.Going.{after_there, put_before, same_session}

-- ---- what is broken off

-- a client's lease is left
abbrev HasLease : Work → Type 0
HasLease w = (lease : Claim) × (w ≡ Broken lease)

with_lease : (w u : Work) (lease : Claim) → w ≡ u → broken_work u ≡ Broken lease → HasLease (broken_work w)
with_lease w u lease is so = (lease, ap broken_work is ∙ so)

stopped_lease : (w : Work) (t : Trouble) (home : Home) → w ≡ stopped_work t home → HasLease (broken_work w)
stopped_lease w trouble.Memory home is = with_lease w (Broken home.lease) home.lease is refl
stopped_lease w t home is = with_lease w (Idle home) home.lease is refl

committed_lease : (w : Work) (a : CommitAnswer) (home : Home) → w ≡ committed_work a home → HasLease (broken_work w)
committed_lease w (Committed txn) home is = with_lease w (Idle home) home.lease is refl
committed_lease w (NotCommitted t) home is = with_lease w (Idle home) home.lease is refl
committed_lease w InDoubt home is = with_lease w (Broken home.lease) home.lease is refl
committed_lease w (CommittedOpen t) home is = with_lease w (Broken home.lease) home.lease is refl

followed_lease : (home : Home) (buffer : List Noted) (m : Listing) (c : Cache) (moved : Turn ℕ) (w : Work) (shown : Shown) (turn : Turn Answer) → Follows home m moved (acting_of buffer w c shown) turn
    → HasLease (broken_work w)
followed_lease home buffer m c More w shown turn f = with_lease w (Scanning home m) home.lease f.0 refl
followed_lease home buffer m c (Ended page) w shown More (all, listed, goes, is, nothing) = with_lease w (Scanning home _) home.lease is refl
followed_lease home buffer m c (Ended page) w shown (Ended answer.Scan) (all, listed, over, is, shows) = with_lease w (Idle home) home.lease is refl
followed_lease home buffer m c (Ended page) w shown (Ended (answer.Trouble t)) f = with_lease w (Broken home.lease) home.lease f.1 refl
followed_lease home buffer m c (Ended page) w shown turn f = absurd f
followed_lease home buffer m c (Stopped t) w shown turn f = stopped_lease w t home f.0

-- as it stands, with a call in hand
broken_now : (w : Work) (ask : Ask) → ask_of_work w ≡ Some ask → IsBroken w (broken_work w)
broken_now Closed ask e = absurd (cc (e))
broken_now (Idle home) ask e = (home.lease, refl)
broken_now (Opening m) ask e = refl
broken_now (Committing m) ask e = (_, refl)
broken_now (Reading home m) ask e = (home.lease, refl)
broken_now (Scanning home m) ask e = (home.lease, refl)
broken_now (Looking home m) ask e = (home.lease, refl)
broken_now (Paging home m) ask e = (home.lease, refl)
broken_now (Folding home m) ask e = (home.lease, refl)
broken_now (Closing lease) ask e = refl
broken_now (Renewing home) ask e = (home.lease, refl)
broken_now (Settling m) ask e = refl
broken_now (Sweeping m) ask e = refl
broken_now (Broken lease) ask e = absurd (cc (e))

-- a step that goes on keeps what is at work

to_lease : (w v u : Work) → v ≡ w → IsBroken v u → IsBroken w u
to_lease w v u is h = subst (λ z. IsBroken z u) is h

followed_more : (home : Home) (buffer : List Noted) (m : Listing) (c : Cache) (moved : Turn ℕ) (v u : Work) (shown : Shown) → Follows home m moved (acting_of buffer v c shown) More → IsBroken v u → HasLease u
followed_more home buffer m c More v u shown f h = to_lease (Scanning home m) v u f.0 h
followed_more home buffer m c (Ended page) v u shown (all, listed, goes, is, nothing) h = to_lease (Scanning home _) v u is h
followed_more home buffer m c (Stopped t) v u shown f h = absurd (cc (f.2))

broken_more : (who : Caller) (before after : Seen) (w v u : Work) → StepsAt who before after w v More → IsBroken v u → IsBroken w u
broken_more who before after (Opening m) v u p h = to_lease (Opening _) v u p.1.2 h
broken_more who before after (Committing m) v u p h = to_lease (Committing _) v u p.3.2 h
broken_more who before after (Reading home m) v u p h = to_lease (Reading home _) v u p.2 h
broken_more who before after (Scanning home m) v u (buffer, c, d, shown, p) h = followed_more home buffer (record { scan = p.scan; pairs = m.pairs }) d p.moved v u shown p.follows h
broken_more who before after (Looking home m) v u (buffer, c, d, shown, p) h = to_lease (Looking home _) v u p.2 h
broken_more who before after (Paging home m) v u p h = to_lease (Paging home _) v u p.2 h
broken_more who before after (Folding home m) v u p h = to_lease (Folding home _) v u p.2 h
broken_more who before after (Closing lease) v u p h = absurd p
broken_more who before after (Renewing home) v u p h = absurd p
broken_more who before after (Settling m) v u p h = to_lease (Settling _) v u p.1.2 h
broken_more who before after (Sweeping m) v u p h = to_lease (Sweeping _) v u p.2 h
broken_more who before after Closed v u p h = absurd p
broken_more who before after (Idle home) v u p h = absurd p
broken_more who before after (Broken lease) v u p h = absurd p

-- behind a step that did not open a client

abbrev IsNotOpened : Turn Answer → Type 0
IsNotOpened (Ended (answer.Opened epoch)) = ⊥
IsNotOpened turn = Unit {0}

broken_last : (who : Caller) (before after : Seen) (w v : Work) (turn : Turn Answer) → IsNotOpened turn → StepsAt who before after w v turn → IsBroken w (broken_work v)
broken_last who before after (Opening m) v More not p = ap broken_work p.1.2
broken_last who before after (Opening m) v (Ended (answer.Opened epoch)) not p = absurd not
broken_last who before after (Opening m) v (Ended (answer.Trouble k)) not p = ap broken_work p.1.2
broken_last who before after (Opening m) v turn not p = absurd p.1
broken_last who before after (Committing m) v More not p = with_lease v (Committing p.3.0) _ p.3.2 refl
broken_last who before after (Committing m) v (Ended (answer.Commit a)) not p = committed_lease v a _ p.3.2
broken_last who before after (Committing m) v (Ended (answer.Trouble k)) not p = with_lease v (Broken _) _ p.3.2 refl
broken_last who before after (Committing m) v turn not p = absurd p.3
broken_last who before after (Reading home m) v More not p = with_lease v (Reading home p.0) home.lease p.2 refl
broken_last who before after (Reading home m) v (Ended answer.Value) not p = with_lease v (Idle home) home.lease p.1 refl
broken_last who before after (Reading home m) v (Ended (answer.Trouble k)) not p = stopped_lease v k home p.1
broken_last who before after (Reading home m) v turn not p = absurd p
broken_last who before after (Scanning home m) v turn not (buffer, c, d, shown, p) =
    followed_lease home buffer (record { scan = p.scan; pairs = m.pairs }) d p.moved v shown turn p.follows
broken_last who before after (Looking home m) v More not (buffer, c, d, shown, p) = with_lease v (Looking home p.0) home.lease p.2 refl
broken_last who before after (Looking home m) v (Ended answer.Scan) not (buffer, c, d, shown, p) = with_lease v (Idle home) home.lease p.2 refl
broken_last who before after (Looking home m) v (Ended (answer.Trouble k)) not (buffer, c, d, shown, p) = stopped_lease v k home p.2
broken_last who before after (Looking home m) v turn not (buffer, c, d, shown, never) = absurd never
broken_last who before after (Paging home m) v More not p = with_lease v (Paging home p.0) home.lease p.2 refl
broken_last who before after (Paging home m) v (Ended (answer.Done n)) not p = with_lease v (Idle home) home.lease p.2 refl
broken_last who before after (Paging home m) v (Ended (answer.Trouble k)) not p = stopped_lease v k home p.2
broken_last who before after (Paging home m) v turn not p = absurd p
broken_last who before after (Folding home m) v More not p = with_lease v (Folding home p.0) home.lease p.2 refl
broken_last who before after (Folding home m) v (Ended (answer.Done n)) not p = with_lease v (Idle home) home.lease p.2 refl
broken_last who before after (Folding home m) v (Ended (answer.Trouble k)) not p = stopped_lease v k home p.2
broken_last who before after (Folding home m) v turn not p = absurd p
broken_last who before after (Closing lease) v (Ended answer.Closed) not p = ap broken_work p.1
broken_last who before after (Closing lease) v (Ended (answer.Trouble k)) not p = ap broken_work p.1
broken_last who before after (Closing lease) v turn not p = absurd p
broken_last who before after (Renewing home) v (Ended (answer.Renewed end)) not p = with_lease v (Idle p.0) _ p.2 refl
broken_last who before after (Renewing home) v (Ended (answer.Trouble k)) not p = stopped_lease v k p.0 p.2
broken_last who before after (Renewing home) v turn not p = absurd p
broken_last who before after (Settling m) v More not p = ap broken_work p.1.2
broken_last who before after (Settling m) v (Ended (answer.Settled n)) not p = ap broken_work p.1.2
broken_last who before after (Settling m) v (Ended (answer.Trouble k)) not p = ap broken_work p.1.2
broken_last who before after (Settling m) v turn not p = absurd p.1
broken_last who before after (Sweeping m) v More not p = ap broken_work p.2
broken_last who before after (Sweeping m) v (Ended (answer.Swept x)) not p = ap broken_work p.2
broken_last who before after (Sweeping m) v (Ended (answer.Trouble k)) not p = ap broken_work p.2
broken_last who before after (Sweeping m) v turn not p = absurd p
broken_last who before after Closed v turn not p = absurd p
broken_last who before after (Idle home) v turn not p = absurd p
broken_last who before after (Broken lease) v turn not p = absurd p

-- ---- a put opens no client

release_no_put : (r : Recovery) (l : Option Claim) → put_of_ask (under r l Release) ≡ None
release_no_put r (Some l) = refl
release_no_put r None = refl

ends_no_put : (r : Recovery) (a : Heard) (next : Leads) (m : Recovery) (x : RecoverAnswer) → Comes r a next → next ≡ Ends m x → put_of_ask (recovery_ask r) ≡ None
ends_no_put _ _ _ m x (gives_old r a) e = absurd (cc (e))
ends_no_put _ _ _ m x (takes r l) e = absurd (cc (e))
ends_no_put _ _ _ m x (taken_not r a t is) e = absurd (cc (e))
ends_no_put _ _ _ m x (stops q t fails) e = absurd (cc (e))
ends_no_put _ _ _ m x (finds_none r is) e = absurd (cc (e))
ends_no_put _ _ _ m x (reads_settled h reads is) e = absurd (cc (e))
ends_no_put _ _ _ m x (reads_open h count reads is) e = absurd (cc (e))
ends_no_put _ _ _ m x (deletes q id ids loses) e = absurd (cc (e))
ends_no_put _ _ _ m x (receives q loses few fresh) e = absurd (cc (e))
ends_no_put _ _ _ m x (sends q place item readies is) e = absurd (cc (e))
ends_no_put _ _ _ m x (puts q place readies is) e = absurd (cc (e))
ends_no_put _ _ _ m x (clears q id ids so) e = absurd (cc (e))
ends_no_put _ _ _ m x (sweeps q so) e = absurd (cc (e))
ends_no_put _ _ _ m x (clears_past r ms items id ids is so) e = absurd (cc (e))
ends_no_put _ _ _ m x (opens r ms items is so aims) e = refl
ends_no_put _ _ _ m x (closes r ms items is so aims) e = absurd (cc (e))
ends_no_put _ _ _ m x (ends r a answer is) e = release_no_put r r.lease
ends_no_put _ _ _ m x (stopped r a t is) e = absurd (cc (e))
ends_no_put _ _ _ m x (astray r a is) e = absurd (cc (e))
ends_no_put _ _ _ m x (does_nothing r a) e = absurd (cc (e))

not_followed : (home : Home) (buffer : List Noted) (m : Listing) (c : Cache) (moved : Turn ℕ) (w : Work) (shown : Shown) (epoch : ℕ) → Follows home m moved (acting_of buffer w c shown) (Ended (answer.Opened epoch)) → ⊥
not_followed home buffer m c More w shown epoch f = absurd (cc (f.2))
not_followed home buffer m c (Ended page) w shown epoch f = absurd f
not_followed home buffer m c (Stopped t) w shown epoch f = absurd (cc (f.2))

opened_no_put : (who : Caller) (before after : Seen) (w v : Work) (epoch : ℕ) → StepsAt who before after w v (Ended (answer.Opened epoch)) → put_of w ≡ None
opened_no_put who before after (Opening m) v epoch (sound, p) = ends_no_put m p.1.answer _ p.0 _ (comes_to m p.1.answer _ p.1.took) refl
opened_no_put who before after (Committing m) v epoch p = absurd p.3
opened_no_put who before after (Reading home m) v epoch p = absurd p
opened_no_put who before after (Scanning home m) v epoch (buffer, c, d, shown, p) =
    absurd (not_followed home buffer (record { scan = p.scan; pairs = m.pairs }) d p.moved v shown epoch p.follows)
opened_no_put who before after (Looking home m) v epoch (buffer, c, d, shown, never) = absurd never
opened_no_put who before after (Paging home m) v epoch p = absurd p
opened_no_put who before after (Folding home m) v epoch p = absurd p
opened_no_put who before after (Closing lease) v epoch p = absurd p
opened_no_put who before after (Renewing home) v epoch p = absurd p
opened_no_put who before after (Settling m) v epoch p = absurd p.1
opened_no_put who before after (Sweeping m) v epoch p = absurd p
opened_no_put who before after Closed v epoch p = absurd p
opened_no_put who before after (Idle home) v epoch p = absurd p
opened_no_put who before after (Broken lease) v epoch p = absurd p

not_by_put : (who : Caller) (before after : Seen) (w v : Work) (turn : Turn Answer) (put : Put) → put_of w ≡ Some put → StepsAt who before after w v turn → IsNotOpened turn
not_by_put who before after w v (Ended (answer.Opened epoch)) put is p = let none : put_of w ≡ None = opened_no_put who before after w v epoch p in absurd (cc (none, is))
not_by_put who before after w v turn put is p = tt

-- nor does the end of a checkpoint
not_by_done : (turn : Turn Answer) → is_done turn ≡ true → IsNotOpened turn
not_by_done (Ended (answer.Opened epoch)) e = absurd (cc (e))
not_by_done turn e = tt

not_by_undone : (who : Caller) (old : World) (before after : Seen) (a b : Acting) (turn : Turn Answer) → slice_get old.sessions who.session ≡ Some a → IsUndone who.session old turn
    → StepsAt who before after a.work b.work turn → IsNotOpened turn
not_by_undone who old before after a b turn there (inl (put, has)) p =
    not_by_put who before after a.work b.work turn put (put_before who.session old.sessions (Some put) a has there) p
not_by_undone who old before after a b turn there (inr done) p = not_by_done turn done

-- and its reply is told
not_untold : (turn : Turn Answer) (left : Acting) (why : WorldFault) → RepliesTurn turn left (Err why) → IsNotOpened turn
not_untold (Ended (answer.Opened epoch)) left why replies = absurd (cc (replies))
not_untold turn left why replies = tt

-- ---- the sessions of a world

-- one change behind another
changes_on : (k : ℕ) (P Q R : Acting → Acting → Type 0) (a b c : List Acting) → ((x y z : Acting) → P x y → Q y z → R x z) → Changes k P a b → Changes k Q b c → Changes k R a c
changes_on k P Q R a b c join p q =
    let same : p.after ≡ q.before = same_session b k p.after q.before (after_there k P a b p) q.there in
    record {
      before = p.before;
      after = q.after;
      there = p.there;
      does = join p.before p.after q.after p.does (subst (λ z. Q z q.after) (sym same) q.does);
      rest = q.rest ∙ ap (λ l. slice_set l k q.after) p.rest ∙ set-set a k p.after q.after;
    }

abbrev IsOff : Acting → Acting → Type 0
IsOff a b = b ≡ broken_off a

off_now : (a b : Acting) → IsBroken a.work (broken_work a.work) → IsOff a b → IsLeftShort a b
off_now a b broken is = record { work = subst (λ (z : Acting). IsBroken a.work z.work) (sym is) broken; shown = ap (λ (z : Acting). z.shown) is }

off_behind : (who : Caller) (before after : Seen) (turn : Turn Answer) (x y z : Acting) → IsNotOpened turn → StepsSession who before after x y (Ok turn) → IsOff y z → IsLeftShort x z
off_behind who before after turn x y z not p is =
    record { work = subst (λ (s : Acting). IsBroken x.work s.work) (sym is) (broken_last who before after x.work y.work turn not p.work); shown = ap (λ (s : Acting). s.shown) is }

-- how one session stands behind all that was done
abbrev Leaves : Type 1
Leaves = Acting → Acting → Type 0

module _ (who : Caller) (R : Leaves) (new : List Acting) where
  went_changes : ((before after : Seen) (x y z : Acting) → StepsSession who before after x y (Ok More) → R y z → R x z) → (before : Seen) (old : World) (mid : Seen) (world : World)
      → Went who before old mid world → Changes who.session R world.sessions new → Changes who.session R old.sessions new
  went_changes join before old mid world start c = c
  went_changes join before old mid world (further from _ earlier _ went step) c =
      went_changes join before old from earlier went
      (changes_on who.session _ R R earlier.sessions world.sessions new (join step.under step.to) step.session c)

module _ (who : Caller) where
  short_more : (before after : Seen) (x y z : Acting) → StepsSession who before after x y (Ok More) → IsLeftShort y z → IsLeftShort x z
  short_more before after x y z p h = record { work = broken_more who before after x.work y.work z.work p.work h.work; shown = h.shown }

  went_short : (before : Seen) (old : World) (mid : Seen) (world new : World) → Went who before old mid world → Changes who.session IsLeftShort world.sessions new.sessions
      → Changes who.session IsLeftShort old.sessions new.sessions
  went_short before old mid world new went c = went_changes who IsLeftShort new.sessions short_more before old mid world went c

  -- a step that was made, and that opened no client
  made_short : (wish : Wish) (before after : Seen) (old left new : World) (turn : Turn Answer) → IsNotOpened turn → StepsLooked who wish (span_of before after old left) turn → BreaksOff who.session left new
      → Changes who.session IsLeftShort old.sessions new.sessions
  made_short wish before after old left new turn not p off =
      changes_on who.session _ IsOff IsLeftShort old.sessions left.sessions new.sessions (λ x y z s is. off_behind who p.under p.to turn x y z not s is) p.session off.session

  runs_short : (wish : Wish) (before after : Seen) (old new : World) → RunsShort who wish (span_of before after old new) → Changes who.session IsLeftShort old.sessions new.sessions
  runs_short wish before after old new s = falls s.falls
    where
      falls : FallsShort who wish (span_of before after old s.left) → Changes who.session IsLeftShort old.sessions new.sessions
      falls (inl un) =
          let c : Changes who.session IsOff old.sessions new.sessions = subst (λ l. Changes who.session IsOff l new.sessions) un.sessions s.breaks.session in
          let same : s.works.session ≡ c.before = same_session old.sessions who.session s.works.session c.before s.works.there c.there in
          let hand : ask_of_work c.before.work ≡ Some s.works.ask = subst (λ (z : Acting). ask_of_work z.work ≡ Some s.works.ask) same s.works.hand in
          record { before = c.before; after = c.after; there = c.there; does = off_now c.before c.after (broken_now c.before.work s.works.ask hand) c.does; rest = c.rest }
      falls (inr p) =
          let not : IsNotOpened p.turn = not_by_undone who old p.under p.to p.session.before p.session.after p.turn p.session.there p.undone p.session.does.work in
          let steps = p.session in
          let off = s.breaks.session in
          let same : steps.after ≡ off.before = same_session s.left.sessions who.session steps.after off.before (after_there who.session _ old.sessions s.left.sessions steps) off.there in
          record {
            before = steps.before;
            after = off.after;
            there = steps.there;
            does = off_behind who p.under p.to p.turn steps.before steps.after off.after not steps.does (subst (λ z. IsOff z off.after) (sym same) off.does);
            rest = off.rest ∙ ap (λ l. slice_set l who.session off.after) steps.rest ∙ set-set old.sessions who.session steps.after off.after;
          }

  stops_short : (before after : Seen) (old new : World) → StopsShort who (span_of before after old new) → Changes who.session IsLeftShort old.sessions new.sessions
  stops_short before after old new s = went_short before old s.mid s.world new s.went (runs_short Plain s.mid after s.world new s.short)

  comes_short : (before after : Seen) (old left new : World) (a : Answer) → ComesTo who (span_of before after old left) a → IsNotOpened (Ended a) → BreaksOff who.session left new
      → Changes who.session IsLeftShort old.sessions new.sessions
  comes_short before after old left new a c not off = went_short before old c.mid c.world new c.went (made_short Plain c.mid after c.world left new (Ended a) not c.steps off)

-- ---- a session's work

-- a session is left with its lease alone, whatever it was
abbrev IsLeftOpen : Acting → Acting → Type 0
IsLeftOpen a b = HasLease b.work × (b.shown ≡ Nothing)

checkpoint_lease : (home : Home) (w u : Work) → HasCheckpoint home w → IsBroken w u → HasLease u
checkpoint_lease home (Paging h m) u is broken = broken
checkpoint_lease home (Folding h m) u is broken = broken
checkpoint_lease home w u is broken = absurd is

module _ (who : Caller) (new : World) where
  abbrev LeftOpen : World → Type 0
  LeftOpen world = Changes who.session IsLeftOpen world.sessions new.sessions

  left_before : (Did : Acting → Acting → Type 0) (old world : World) → Changes who.session Did old.sessions world.sessions → LeftOpen world → LeftOpen old
  left_before Did old world p q = changes_on who.session Did IsLeftOpen IsLeftOpen old.sessions world.sessions new.sessions (λ x y z s is. is) p q

  left_went : (before : Seen) (old : World) (mid : Seen) (world : World) → Went who before old mid world → LeftOpen world → LeftOpen old
  left_went before old mid world went c = went_changes who IsLeftOpen new.sessions (λ b a x y z s is. is) before old mid world went c

  left_made : (queue : QueueName) (before after : Seen) (old world : World) (a : Answer) → Checkpoints who queue (span_of before after old world) a → LeftOpen world → LeftOpen old
  left_made queue before after old world a c left =
      left_before _ old c.begun c.begins.session
      (left_went before c.begun c.comes.mid c.comes.world c.comes.went (left_before _ c.comes.world world c.comes.steps.session left))

  worked_left : (before : Seen) (old : World) (queues : List QueueName) (done passed : ℕ) (after : Seen) (world : World) → Works who before old (gone_through queues done passed) after world
      → LeftOpen world → LeftOpen old
  worked_left before old queues done passed after world no_checkpoint left = left
  worked_left before old queues done passed after world (checkpoint_more others kept passes_by mid prior queue a _ _ works makes passes) left =
      worked_left before old others kept passes_by mid prior works (left_made queue mid after prior world a makes left)

module _ (who : Caller) (home : Home) (first : Sessions) (new : World) where
  -- memory ran out in a checkpoint
  fails_left : (before after : Seen) (begun : World) → IsInside who.session home first begun → CheckpointFails who (span_of before after begun new) → LeftOpen who new begun
  fails_left before after begun w fails = by (short fails)
    where
      short : CheckpointFails who (span_of before after begun new) → Changes who.session IsLeftShort begun.sessions new.sessions
      short (inl s) = stops_short who before after begun new s
      short (inr (left, c, off)) = comes_short who before after begun left new (answer.Trouble trouble.Memory) c tt off

      by : Changes who.session IsLeftShort begun.sessions new.sessions → LeftOpen who new begun
      by c = record {
        before = c.before;
        after = c.after;
        there = c.there;
        does = (
          checkpoint_lease home c.before.work c.after.work (subst (λ (a : Acting). HasCheckpoint home a.work) (session_there begun.sessions who.session c.before c.there) w.works) c.does.work,
          c.does.shown,
        );
        rest = c.rest;
      }

  falls_left : (before after : Seen) (old : World) → IsBetween who.session home first old → KnowsNoDue who.session (span_of before after old new) ⊎ FailsAt who (span_of before after old new) → LeftOpen who new old
  falls_left before after old w (inl none) =
      let c = none.breaks.session in
      let idle : c.before.work ≡ Idle home = ap (λ (a : Acting). a.work) (sym (session_there old.sessions who.session c.before c.there)) ∙ w.works in
      record {
        before = c.before;
        after = c.after;
        there = c.there;
        does = (subst (λ (a : Acting). HasLease a.work) (sym c.does) (with_lease c.before.work (Idle home) home.lease idle refl), ap (λ (a : Acting). a.shown) c.does);
        rest = c.rest;
      }
  falls_left before after old w (inr fails) =
      left_before who new _ old fails.begun fails.begins.session
      (fails_left before after fails.begun (within_begun who.session home first fails.queue old fails.begun w fails.begins) fails.fails)

-- a session that was open at its begin
from_open : (who : Caller) (home : Home) (old new : World) → (session_at old.sessions who.session).work ≡ Idle home → LeftOpen who new old
    → Changes who.session IsLeftShort old.sessions new.sessions
from_open who home old new opened c = record {
  before = c.before;
  after = c.after;
  there = c.there;
  does = record {
    work = subst (λ w. IsBroken w c.after.work) (sym (ap (λ (a : Acting). a.work) (sym (session_there old.sessions who.session c.before c.there)) ∙ opened)) c.does.0;
    shown = c.does.1;
  };
  rest = c.rest;
}

-- ---- a settler

abbrev IsClosed : Acting → Acting → Type 0
IsClosed a b = b ≡ closed_session

module _ (who : Caller) (new : World) where
  abbrev Shut : World → Type 0
  Shut world = Changes who.session IsClosed world.sessions new.sessions

  shut_before : (Does : Acting → Acting → Type 0) (old world : World) → Changes who.session Does old.sessions world.sessions → Shut world → Shut old
  shut_before Does old world p q = changes_on who.session Does IsClosed IsClosed old.sessions world.sessions new.sessions (λ x y z s is. is) p q

  shut_went : (before : Seen) (old : World) (mid : Seen) (world : World) → Went who before old mid world → Shut world → Shut old
  shut_went before old mid world went c = went_changes who IsClosed new.sessions (λ b a x y z s is. is) before old mid world went c

  shut_short : (before after : Seen) (old left : World) → RunsShort who Plain (span_of before after old left) → Shut left → Shut old
  shut_short before after old left s c = falls s.falls
    where
      off : Shut s.left
      off = shut_before IsOff s.left left s.breaks.session c

      falls : FallsShort who Plain (span_of before after old s.left) → Shut old
      falls (inl un) = subst (λ l. Changes who.session IsClosed l new.sessions) un.sessions off
      falls (inr p) = shut_before _ old s.left p.session off

-- ---- an operation's begin

-- what is answered at once stands in an open client or leaves its lease
commits_lease : (home : Home) (changes : List Noted) (c d : Cache) (w : Work) (a : Answer) → CommitsOf home changes c d w (Answered a) → HasLease (broken_work w)
commits_lease home changes c d w (answer.Commit a) p = with_lease w (Idle _) _ p.2 refl
commits_lease home changes c d w (answer.Trouble t) p = with_lease w (Broken home.lease) home.lease p.1 refl
commits_lease home changes c d w a p = absurd p

noted_lease : (home : Home) (changes : List Noted) (c d : Cache) (w : Work) (a : Answer) → CommitsNoted home changes c d w (Answered a) → HasLease (broken_work w)
noted_lease home changes c d w a (inl nothing) = with_lease w (Idle home) home.lease nothing.work_is refl
noted_lease home changes c d w a (inr some) = commits_lease home changes c d w a some.1

reads_lease : (home : Home) (walk : Walk) (c d : Cache) (w : Work) (shown : Shown) (a : Answer) → ReadsOf home (walk, c) (w, d) shown (Answered a) → HasLease (broken_work w)
reads_lease home walk c d w shown answer.Value p = with_lease w (Idle home) home.lease p.3 refl
reads_lease home walk c d w shown (answer.Trouble t) p = stopped_lease w t home p.2
reads_lease home walk c d w shown a p = absurd p

looks_lease : (home : Home) (q : Query) (c d : Cache) (w : Work) (shown : Shown) (a : Answer) → LooksOf home q c (w, d) shown (Answered a) → HasLease (broken_work w)
looks_lease home q c d w shown (answer.Trouble t) (leads, is, none) = stopped_lease w t home is
looks_lease home q c d w shown a never = absurd never

-- a begin that was answered at once, and whose reply found no memory
in_client : (Effect : Home → Acting → Begun → Type 0) (a left : Acting) (result : Result Begun Refused) (why : WorldFault) → BeginsWith Effect a left result → RepliesBegun result left (Err why)
    → ((home : Home) (x : Answer) → Effect home left (Answered x) → HasLease (broken_work left.work)) → IsBroken a.work (broken_work left.work)
in_client Effect a left (Ok Working) why p replies has = absurd (cc (replies))
in_client Effect a left (Ok (Answered x)) why p replies has = subst (λ w. IsBroken w (broken_work left.work)) (sym p.1) (has p.0 x p.2)
in_client Effect a left (Err (refused.Rule r)) why p replies has = absurd (cc (replies))
in_client Effect a left (Err refused.Memory) why p replies has = absurd p

look_short : (tree : ℕ) (attr : List ℕ) (a left : Acting) (result : Result Begun Refused) (why : WorldFault) → Begins (op.Lookup tree attr) a left result → RepliesBegun result left (Err why)
    → IsBroken a.work (broken_work left.work)
look_short tree attr a left (Ok begun) why (few, begins) replies =
    in_client (LooksIn tree attr a) a left (Ok begun) why begins replies
    (λ home x has. looks_lease home (record { tree = tree; attr = attr }) a.cache left.cache left.work left.shown x has.1)
look_short tree attr a left (Err (refused.Rule r)) why begins replies = absurd (cc (replies))
look_short tree attr a left (Err refused.Memory) why (inl (bad, above, same)) replies = absurd (cc (bad))
look_short tree attr a left (Err refused.Memory) why (inr (few, never)) replies = absurd never

begun_short : (o : Op) (a left : Acting) (result : Result Begun Refused) (why : WorldFault) → Begins o a left result → RepliesBegun result left (Err why) → IsBroken a.work (broken_work left.work)
begun_short (op.Open client) a left (Ok Working) why p replies = absurd (cc (replies))
begun_short (op.Open client) a left (Ok (Answered x)) why p replies = absurd p
begun_short (op.Open client) a left (Err (refused.Rule r)) why p replies = absurd (cc (replies))
begun_short (op.Open client) a left (Err refused.Memory) why p replies = absurd p
begun_short op.Close a left result why p replies = in_client (λ home. HasInHand a (Closing home.lease)) a left result why p replies (λ home x has. absurd (cc (has.0)))
begun_short op.Renew a left result why p replies = in_client (λ home. HasInHand a (Renewing home)) a left result why p replies (λ home x has. absurd (cc (has.0)))
begun_short op.Commit a left result why p replies =
    in_client (CommitsIn a) a left result why p replies (λ home x has. noted_lease home a.buffer a.cache left.cache left.work x has.1)
begun_short (op.Read tree key) a left result why p replies =
    in_client (ReadsIn tree key a) a left result why p replies (λ home x has. reads_lease home (new_walk tree (Some key) false) a.cache left.cache left.work left.shown x has.1)
begun_short (op.Scan tree low high) a left result why p replies =
    in_client (ScansIn (new_scan tree low high) a) a left result why p replies
    (λ home x has. followed_lease home a.buffer (record { scan = has.1.scan; pairs = [] }) left.cache has.1.moved left.work left.shown has.1.turn has.1.follows)
begun_short (op.Lookup tree attr) a left result why p replies = look_short tree attr a left result why p replies
begun_short (op.Page tree page) a left result why p replies = in_client (λ home. HasInHand a (paging_begun_by tree page home)) a left result why p replies (λ home x has. absurd (cc (has.0)))
begun_short (op.Tree tree) a left result why p replies = in_client (λ home. HasInHand a (folding_begun_by tree home)) a left result why p replies (λ home x has. absurd (cc (has.0)))

untold_short : (o : Op) (why : WorldFault) (a b : Acting) → BeginsOp o (Err why) a b → IsLeftShort a b
untold_short o why a b p = record {
  work = subst (λ (s : Acting). IsBroken a.work s.work) (sym p.breaks) (begun_short o a p.left p.begun why p.begins p.replies);
  shown = ap (λ (s : Acting). s.shown) p.breaks;
}

-- ---- a change that could not be noted

-- what stands in a place stays there
set_own : (l : List Acting) (k : ℕ) (a : Acting) → slice_get l k ≡ Some a → slice_set l k a ≡ l
set_own l k a there =
    let got : Some a ≡ Some (get_or l k a) = sym there ∙ slice_get-get_or l k a (slice_get_within l k a there) in
    let is : a ≡ get_or l k a = cc in
    ap (λ z. slice_set l k z) is ∙ set-get_or l k a

noted_not : (k : ℕ) (noting : Noting) (why : WorldFault) (old new : List Acting) → Changes k (NotesChange noting (Err why)) old new → new ≡ old
noted_not k noting why old new c = on c.does.noted c.does.notes c.does.replies
  where
    on : (noted : Result (Unit {0}) Refused) → NotesIn noting c.before c.after noted → (let own : Result Reply WorldFault = Err why in own ≡ done_reply reply.Noted noted) → new ≡ old
    on (Ok done) notes replies = absurd (cc (replies))
    on (Err e) notes replies = c.rest ∙ (ap (λ a. slice_set old k a) notes.0 ∙ set_own old k c.before c.there)

dropped_not : (k : ℕ) (why : WorldFault) (old new : List Acting) → Changes k (DropsChanges (Err why)) old new → ⊥
dropped_not k why old new c = on c.does.dropped c.does.drops c.does.replies
  where
    on : (dropped : Result (Unit {0}) Refused) → AbortsIn c.before c.after dropped → (let own : Result Reply WorldFault = Err why in own ≡ done_reply reply.Aborted dropped) → ⊥
    on (Ok done) drops replies = absurd (cc (replies))
    on (Err (refused.Rule r)) drops replies = absurd (cc (replies))
    on (Err refused.Memory) drops replies = drops.1

-- ---- every line

module _ (n : ℕ) (before after : Seen) (old new : World) (why : WorldFault) where
  abbrev No : Result Reply WorldFault
  No = Err why

  abbrev Short : ℕ → Type 0
  Short k = Changes k IsLeftShort old.sessions new.sessions

  abbrev who : ℕ → Caller
  who k = record { session = k; event = n }

  step_short : (k : ℕ) (wish : Wish) → MakesStep (record { session = k; event = n }) wish (span_of before after old new) No → Short k
  step_short k wish (inl refuses) = absurd (cc (refuses.declines.reply))
  step_short k wish (inr (inl made)) =
      made_short (who k) wish before after old made.left new made.turn (not_untold made.turn made.steps.session.after why made.replies) made.steps made.breaks
  step_short k wish (inr (inr memory)) = runs_short (who k) wish before after old new memory.1

  run_short : (k : ℕ) → Runs (record { session = k; event = n }) (span_of before after old new) No → Short k
  run_short k (inl refuses) = absurd (cc (refuses.declines.reply))
  run_short k (inr (inl run)) =
      comes_short (who k) before after old run.left new run.answer run.comes (not_untold (Ended run.answer) run.comes.steps.session.after why run.replies) run.breaks
  run_short k (inr (inr memory)) = stops_short (who k) before after old new memory.1

  crash_short : (k : ℕ) (done : Bool) → Crashes (record { session = k; event = n }) done (span_of before after old new) No → Short k
  crash_short k false dies = absurd (cc (dies.replies))
  crash_short k true (inl idle) = absurd (cc (idle.dies.replies))
  crash_short k true (inr (inl dies)) = absurd (cc (dies.replies))
  crash_short k true (inr (inr memory)) = runs_short (who k) Plain before after old new memory.1

  -- a ledger takes no memory
  policy_told : (k : ℕ) (role : Role) (kept : ℕ) → Policies k role kept (span_of before after old new) No → ⊥
  policy_told k role kept (inl refuses) = absurd (cc (refuses.declines.reply))
  policy_told k role kept (inr (inl refuses)) = absurd (cc (refuses.1.declines.reply))
  policy_told k role kept (inr (inr gives)) = absurd (cc (gives.replies))

  work_short : (k : ℕ) → WorksThrough (record { session = k; event = n }) (span_of before after old new) No → Short k
  work_short k (inl refuses) = absurd (cc (refuses.declines.reply))
  work_short k (inr (inl down)) = absurd (cc (down.replies))
  work_short k (inr (inr memory)) =
      let s = memory.1 in
      let rest = open_rests k old s.opened in
      from_open (who k) rest.0 old new rest.2.works
      (worked_left (who k) new before old s.queues s.done s.passed s.mid s.world s.works
      (falls_left (who k) rest.0 (session_at old.sessions) new s.mid after s.world
      (within_works (who k) rest.0 (session_at old.sessions) before old s.queues s.done s.passed s.mid s.world rest.2 s.works) s.falls))

  does_short : (k : ℕ) (request : Request) → Does (record { session = k; event = n }) request (span_of before after old new) No → ServesShort k request old.sessions new.sessions
  does_short k (Begin o) h =
      let c = h.1 in
      record { before = c.before; after = c.after; there = c.there; does = untold_short o why c.before c.after c.does; rest = c.rest }
  does_short k (Note noting) h = noted_not k noting why old.sessions new.sessions h.1
  does_short k Abort h = dropped_not k why old.sessions new.sessions h.1
  does_short k (Step wish) h = step_short k wish h
  does_short k (Policy role kept) h = absurd (policy_told k role kept h)
  does_short k WorksDue h = work_short k h
  does_short k Run h = run_short k h
  does_short k (Crash done) h = crash_short k done h

  same_sessions : new ≡ old → new.sessions ≡ old.sessions
  same_sessions same = ap (λ (w : World). w.sessions) same

  shut_on : (errand : errands.Errand) (begun : World) → SettlesOn errand (who 0) (span_of before after begun new) No → Changes 0 IsClosed begun.sessions new.sessions
  shut_on errand begun (inl s) =
      let c = s.comes in
      shut_went (who 0) new before begun c.mid c.world c.went (shut_before (who 0) new _ c.world s.left c.steps.session s.closes.session_is)
  shut_on errand begun (inr memory) =
      let s = memory.1.stops in
      shut_went (who 0) new before begun s.mid s.world s.went (shut_short (who 0) new s.mid after s.world memory.1.left s.short memory.1.closes.session_is)

  errand_short : (errand : errands.Errand) → Settles errand n (span_of before after old new) No → SettlerShort old.sessions new.sessions
  errand_short errand (inl s) = inr (shut_before (who 0) new _ old s.begun s.begins.session_is (shut_on errand s.begun s.settles))
  errand_short errand (inr memory) = inl (same_sessions memory.1.world)

  asked_short : (asked : Asked) → Answers n asked (span_of before after old new) No → AskedShort asked old.sessions new.sessions
  asked_short (Session k (Ok request)) (inl h) = does_short k request h.1
  asked_short (Session k (Err e)) (inl h) = same_sessions h.1.world
  asked_short (Session k request) (inr none) = absurd (cc (none.declines.reply))
  asked_short (Wait ticks) (inl h) = absurd (cc (h.0.replies))
  asked_short (Wait ticks) (inr long) = absurd (cc (long.declines.reply))
  asked_short (Report tree) h = same_sessions h.world
  asked_short Settle h = errand_short errands.settles h
  asked_short (Sweep (Ok tree)) h = errand_short (errands.sweeps tree) h.1
  asked_short (Sweep (Err e)) h = same_sessions h.world

pub left_short : (n : ℕ) (event : Event) (before after : Seen) (old new : World) (result : Result Reply WorldFault) → Handled n event (span_of before after old new) result
    → LeavesShort event old new result
left_short n event before after old new (Ok reply) h = tt
left_short n event before after old new (Err why) h = (h.asked, h.asks, asked_short n before after old new why h.asked h.answers)
