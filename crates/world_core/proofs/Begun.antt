-- Why an operation that was answered at its begin came to that.
use Rattle.std.proofs.Common.{◌≡◌, ◌≢◌, ℕ, [], List, inl, inr, false, refl, ap, subst, Option, Some, Result, Ok, Err}
use Rattle.db_base.specs.declared.refusal.Refused.{Refused}
use Rattle.cloud_facts.specs.Words.{Trouble, CommitAnswer, Turn, More, Ended, Stopped, Seen, Next, Goes, Ends, Stops}
use Rattle.db_base.specs.declared.trouble.CommitAnswer.TheVariants.{Committed}
use Rattle.db_base.specs.declared.trouble.Trouble.TheVariants as trouble
use Rattle.txn_buffer.specs.Noted.{Noted}
use Rattle.page_cache.specs.Cache.{Cache}
use Rattle.tree_walk.specs.Causes.{LinkShows}
use Rattle.tree_walk.specs.Walk.{Walk, new_walk, walk_ready}
use Rattle.tree_walk.proofs.Causes.{ready_shows}
use Rattle.tree_walk.proofs.Outcomes.{unended_ready}
use Rattle.attr_index.specs.Look.{Query, Look, new_look, set_out}
use Rattle.range_scan.specs.Scan.{Scan, new_scan}
use Rattle.range_scan.proofs.Demands.{scan_ready_shows}
use Rattle.recover_run.specs.declared.home.Home.{Home}
use Rattle.commit_run.specs.Run.{new_run}
use Rattle.commit_run.proofs.Causes.{ready_causes}
use Rattle.commit_run.proofs.CallDemands.{ready_exact}
use Rattle.commit_run.proofs.Meaning.{ready_means}
use Rattle.client_work.specs.declared.listing.Listing.{Listing}
use Rattle.client_work.specs.Session.{Acting, CommitsNoted, LooksOf, ReadsOf, ScansOf, Follows, begins_by, Begins, acting_of}
use Rattle.client_work.specs.declared.answer.Answer.{Answer}
use Rattle.client_work.specs.declared.answer.Answer.TheVariants as answer
use Rattle.client_work.specs.declared.answer.Begun.{Begun}
use Rattle.client_work.specs.declared.answer.Begun.TheVariants.{Working, Answered}
use Rattle.client_work.specs.declared.op.Op.{Op}
use Rattle.client_work.specs.declared.op.Op.TheVariants as op
use Rattle.client_work.specs.declared.shown.Shown.{Shown}
use Rattle.client_work.specs.declared.work.Work.{Work}
use Rattle.reply_text.specs.declared.reply.Reply.{Reply}
use Rattle.world_core.specs.declared.asked.Asked.{Asked}
use Rattle.world_core.specs.declared.asked.Asked.TheVariants.{Session, Wait, Report, Settle, Sweep}
use Rattle.world_core.specs.declared.asked.Request.{Request}
use Rattle.world_core.specs.declared.asked.Request.TheVariants.{Begin, Note, Abort, Policy, Work as WorksDue, Step, Run, Crash}
use Rattle.world_core.specs.World.{World}
use Rattle.world_core.specs.declared.world.WorldFault.{WorldFault}
use Rattle.world_core.specs.Begun.{CommitShows, KeptShows, BeginShows, WasBegun, ShowsBegin, DoesShow, ServesShow, AsksShow}
use Rattle.world_core.specs.Handled.{BeginsOp, Does, Serves, Answers}
use Rattle.world_core.specs.Span.{span_of}

-- ---- each operation

commit_shown : (home : Home) (changes : List Noted) (c d : Cache) (work : Work) (a : CommitAnswer) → CommitsNoted home changes c d work (Answered (answer.Commit a)) → CommitShows home changes c a
commit_shown home changes c d work a (inl nothing) = let at : Answered (answer.Commit a) ≡ Answered (answer.Commit (Committed 0)) = nothing.answer in inl (nothing.none, cc (at))
commit_shown home changes c d work a (inr some) = inr (
  some.1.0,
  ready_causes home changes c (new_run home changes) (some.1.0, d) (Ended a) refl some.1.1,
  ready_means home changes c (new_run home changes) (some.1.0, d) (Ended a) refl some.1.1,
  ready_exact home changes c (new_run home changes) (some.1.0, d) (Ended a) refl some.1.1,
)

read_shown : (home : Home) (start : Walk) (c d : Cache) (work : Work) (shown : Shown) (t : Trouble) → ReadsOf home (start, c) (work, d) shown (Answered (answer.Trouble t)) → KeptShows start c t
read_shown home start c d work shown t h other = (h.0, ready_shows start c (h.0, d) (Stopped t) h.1 t refl other)

-- a scan that is answered a trouble at its begin stopped by it in its walk, if memory did not run out
scan_stopped : (home : Home) (buffer : List Noted) (m : Listing) (c : Cache) (moved : Turn ℕ) (work : Work) (shown : Shown) (turn : Turn Answer) (begun : Begun) (t : Trouble)
    → Follows home m moved (acting_of buffer work c shown) turn → begins_by turn begun → begun ≡ Answered (answer.Trouble t) → t ≢ trouble.Memory → moved ≡ Stopped t
scan_stopped home buffer m c More work shown turn begun t follows begins is other =
    let over : begun ≡ Working = subst (λ x. begins_by x begun) follows.2 begins in absurd (let both : Working ≡ Answered (answer.Trouble t) = cc (over, is) in cc (both))
scan_stopped home buffer m c (Stopped s) work shown turn begun t follows begins is other =
    let over : begun ≡ Answered (answer.Trouble s) = subst (λ x. begins_by x begun) follows.2 begins in
    let same : s ≡ t = cc (over, is) in ap Stopped same
scan_stopped home buffer m c (Ended page) work shown More begun t follows begins is other = absurd (let both : Working ≡ Answered (answer.Trouble t) = cc (begins, is) in cc (both))
scan_stopped home buffer m c (Ended page) work shown (Ended (answer.Trouble s)) begun t follows begins is other =
    let same : s ≡ t = cc (begins, is) in absurd (other (cc (same, follows.0)))
scan_stopped home buffer m c (Ended page) work shown (Ended answer.Scan) begun t follows begins is other =
    absurd (let both : Answered answer.Scan ≡ Answered (answer.Trouble t) = cc (begins, is) in cc (both))
scan_stopped home buffer m c (Ended page) work shown (Ended (answer.Opened epoch)) begun t follows begins is other = absurd follows
scan_stopped home buffer m c (Ended page) work shown (Ended answer.Closed) begun t follows begins is other = absurd follows
scan_stopped home buffer m c (Ended page) work shown (Ended (answer.Renewed end)) begun t follows begins is other = absurd follows
scan_stopped home buffer m c (Ended page) work shown (Ended (answer.Commit a)) begun t follows begins is other = absurd follows
scan_stopped home buffer m c (Ended page) work shown (Ended (answer.Done a)) begun t follows begins is other = absurd follows
scan_stopped home buffer m c (Ended page) work shown (Ended answer.Value) begun t follows begins is other = absurd follows
scan_stopped home buffer m c (Ended page) work shown (Ended (answer.Settled a)) begun t follows begins is other = absurd follows
scan_stopped home buffer m c (Ended page) work shown (Ended (answer.Swept a)) begun t follows begins is other = absurd follows
scan_stopped home buffer m c (Ended page) work shown (Stopped s) begun t follows begins is other = absurd follows

scan_shown : (home : Home) (buffer : List Noted) (start : Scan) (c d : Cache) (work : Work) (shown : Shown) (begun : Begun) (t : Trouble) → ScansOf home start c (acting_of buffer work d shown) begun
    → begun ≡ Answered (answer.Trouble t) → KeptShows start.walk c t
scan_shown home buffer start c d work shown begun t s is other =
    (s.scan.walk, scan_ready_shows start c (s.scan, d) s.moved s.moves t (scan_stopped home buffer (record { scan = s.scan; pairs = [] }) d s.moved work shown s.turn begun t s.follows s.begins is other) other)

-- a look-up that is answered a trouble at its begin stopped by it in its first walk, if memory did not run out
look_shown : (home : Home) (q : Query) (c d : Cache) (work : Work) (shown : Shown) (t : Trouble) → LooksOf home q c (work, d) shown (Answered (answer.Trouble t)) → KeptShows (new_look q).walk c t
look_shown home q c d work shown t (must, is, none) other = let leads = must other in on leads.0 (walk_ready ((new_look q).walk, c)) refl leads.1
  where
    on : (m : Look) (x : Next (Walk × Cache) ℕ) → walk_ready ((new_look q).walk, c) ≡ x → set_out (new_look q) x ≡ Stops (m, d) t
        → (left : Walk) × LinkShows c (new_look q).walk left t
    on m (Goes n) ready leads = absurd (cc (leads))
    on m (Ends n page) ready leads = absurd (unended_ready ((new_look q).walk, c) n page ready)
    on m (Stops n s) ready leads = let same : s ≡ t = cc (leads) in (n.0, ready_shows (new_look q).walk c n (Stopped s) (λ some. ready) t (ap Stopped same) other)

-- ---- every begin

commit_begun : (old new : Acting) (begun : Begun) → Begins op.Commit old new (Ok begun) → BeginShows op.Commit old begun
commit_begun old new begun h a is = (h.0, h.1, commit_shown h.0 old.buffer old.cache new.cache new.work a (subst (CommitsNoted h.0 old.buffer old.cache new.cache new.work) is h.2.1))

read_begun : (tree : ℕ) (key : List ℕ) (old new : Acting) (begun : Begun) → Begins (op.Read tree key) old new (Ok begun) → BeginShows (op.Read tree key) old begun
read_begun tree key old new begun h t is =
    read_shown h.0 (new_walk tree (Some key) false) old.cache new.cache new.work new.shown t (subst (ReadsOf h.0 (new_walk tree (Some key) false, old.cache) (new.work, new.cache) new.shown) is h.2.1)

scan_begun : (tree : ℕ) (from to : Option (List ℕ)) (old new : Acting) (begun : Begun) → Begins (op.Scan tree from to) old new (Ok begun) → BeginShows (op.Scan tree from to) old begun
scan_begun tree from to old new begun h t is = scan_shown h.0 old.buffer (new_scan tree from to) old.cache new.cache new.work new.shown begun t h.2.1 is

look_begun : (tree : ℕ) (attr : List ℕ) (old new : Acting) (begun : Begun) → Begins (op.Lookup tree attr) old new (Ok begun) → BeginShows (op.Lookup tree attr) old begun
look_begun tree attr old new begun (few, (home, idle, does)) t is =
    let q : Query = record { tree = tree; attr = attr } in
    look_shown home q old.cache new.cache new.work new.shown t (subst (LooksOf home q old.cache (new.work, new.cache) new.shown) is does.1)

was_begun : (o : Op) (old new : Acting) (begun : Result Begun Refused) → Begins o old new begun → WasBegun o old begun
was_begun o old new (Err why) h = tt
was_begun op.Commit old new (Ok begun) h = commit_begun old new begun h
was_begun (op.Read tree key) old new (Ok begun) h = read_begun tree key old new begun h
was_begun (op.Scan tree from to) old new (Ok begun) h = scan_begun tree from to old new begun h
was_begun (op.Lookup tree attr) old new (Ok begun) h = look_begun tree attr old new begun h
was_begun (op.Open client) old new (Ok begun) h = tt
was_begun op.Close old new (Ok begun) h = tt
was_begun op.Renew old new (Ok begun) h = tt
was_begun (op.Page tree page) old new (Ok begun) h = tt
was_begun (op.Tree tree) old new (Ok begun) h = tt

begin_shown : (o : Op) (result : Result Reply WorldFault) (old new : Acting) (h : BeginsOp o result old new) → ShowsBegin o result old new h
begin_shown o (Ok reply) old new told = was_begun o old new told.begun told.begins
begin_shown o (Err why) old new untold = was_begun o old untold.left untold.begun untold.begins

-- ---- the begin of a line

module _ (n : ℕ) (before after : Seen) (old new : World) (result : Result Reply WorldFault) where
  does_begun : (k : ℕ) (request : Request) (h : Does (record { session = k; event = n }) request (span_of before after old new) result) → DoesShow (record { session = k; event = n }) request (span_of before after old new) result h
  does_begun k (Begin o) h = begin_shown o result h.1.before h.1.after h.1.does
  does_begun k (Step wish) h = tt
  does_begun k Run h = tt
  does_begun k (Crash done) h = tt
  does_begun k (Note noting) h = tt
  does_begun k Abort h = tt
  does_begun k (Policy role number) h = tt
  does_begun k WorksDue h = tt

  serves_begun : (k : ℕ) (request : Result Request Refused) (h : Serves (record { session = k; event = n }) request (span_of before after old new) result) → ServesShow (record { session = k; event = n }) request (span_of before after old new) result h
  serves_begun k (Ok request) h = does_begun k request h
  serves_begun k (Err why) h = tt

  pub asked_begun : (asked : Asked) (h : Answers n asked (span_of before after old new) result) → AsksShow n asked (span_of before after old new) result h
  asked_begun (Session k request) (inl served) = serves_begun k request served.1
  asked_begun (Session k request) (inr none) = tt
  asked_begun (Wait ticks) waits = tt
  asked_begun (Report tree) reports = tt
  asked_begun Settle settles = tt
  asked_begun (Sweep tree) sweeps = tt
