-- Lines that begin an operation, note a change or drop what was noted.
use Rattle.std.proofs.Common.{◌≡◌, ◌≤◌, ℕ, List, [], ◌∷◌, ◌++◌, length, false, Some, None, Result, Ok, Err, unwrap_or, refl, sym, ap, subst, ◌∙◌, ◌⊎◌, inl, inr, ◌≢◌}
use Rattle.std.proofs.lemmas.Bool.{cases_eq}
use Rattle.world_core.specs.Span.{span_of}
use Rattle.cloud_facts.specs.Words.{IsClient, IsTree, Trouble, Turn, More, Ended, Stopped, CloudState, Seen, Goes, Ends, at}
use Rattle.db_base.specs.Ids.{IsPage}
use Rattle.db_base.specs.Change.{IsChange}
use Rattle.db_base.specs.declared.refusal.Refusal.{Refusal}
use Rattle.db_base.specs.declared.refusal.Refused.{Refused}
use Rattle.db_base.specs.declared.refusal.Refused.TheVariants as refused
use Rattle.db_base.specs.declared.trouble.Trouble.TheVariants as trouble
use Rattle.db_base.specs.declared.trouble.CommitAnswer.TheVariants.{Committed, NotCommitted}
use Rattle.event_text.specs.declared.event.Event.{Event}
use Rattle.event_text.specs.declared.event.Event.TheVariants as event
use Rattle.reply_text.specs.declared.reply.Reply.{Reply}
use Rattle.reply_text.specs.declared.reply.Reply.TheVariants as reply
use Rattle.txn_buffer.specs.Noted.{Noted}
use Rattle.recover_run.specs.declared.home.Home.{Home}
use Rattle.client_work.specs.declared.answer.Answer.{Answer}
use Rattle.client_work.specs.declared.answer.Answer.TheVariants as answer
use Rattle.client_work.specs.declared.answer.Begun.{Begun}
use Rattle.client_work.specs.declared.answer.Begun.TheVariants.{Working, Answered}
use Rattle.client_work.specs.declared.op.Op.{Op}
use Rattle.client_work.specs.declared.op.Op.TheVariants as op
use Rattle.client_work.specs.declared.listing.Listing.{Listing}
use Rattle.client_work.specs.declared.shown.Shown.TheVariants.{Nothing}
use Rattle.client_work.specs.declared.work.Work.{Work}
use Rattle.client_work.specs.declared.work.Work.TheVariants as work
use Rattle.client_work.specs.Session.{Acting, Begins, BeginsOpening, BeginsWith, BeginsIndexed, HasInHand, CommitsNothing, CommitsNoted, CommitsIn, CommitsOf, Follows, LooksIn, LooksOf, ReadsIn, ReadsOf, ScansIn, ScansOf, begins_by, paging_begun_by, folding_begun_by, old_lease, rule_of, stopped_work, acting_of}
use Rattle.session_facts.specs.Sessions.Knows.{Sessions, SessionsStand, IsRightOp}
use Rattle.session_facts.proofs.Sessions.Begins.{begins_keeps}
use Rattle.session_facts.proofs.Sessions.Laws.{buffer_keeps, same_sessions}
use Rattle.page_cache.specs.Cache.{Cache}
use Rattle.range_scan.specs.Scan.{Scan, new_scan, scan_ready, moved_on}
use Rattle.tree_walk.specs.Moves.{Moves}
use Rattle.tree_walk.specs.Walk.{new_walk}
use Rattle.attr_index.specs.Look.{Query}
use Rattle.commit_run.specs.Run.{home_of}
use Rattle.session_facts.specs.Machines.Commits.Knows.{MayCommit}
use Rattle.session_facts.proofs.Machines.Commits.Noted.{may_none}
use Rattle.cloud_facts.proofs.Book.Names.{at_same, at_other}
use Rattle.replay_meaning.specs.Standing.{Line, Standing, Working as WorkingOn, Committing as CommittingAll, Reading as ReadingKey, Scanning as ScanningRange, LookingUp, standing, after_own, joins}
use Rattle.session_facts.specs.Lines.Facts.{session_at, ActsAs, BeginsCommit, WorksAs}
use Rattle.session_facts.proofs.Sessions.LandedBegins.{BeginsBefore, begins_before}
use Rattle.session_facts.proofs.Lines.Acts.{IsReplyTo}
use Rattle.session_facts.proofs.Machines.CommitRuns.Stays.{RunsFor, IsRefusal, run_begins}
use Rattle.session_facts.proofs.Lines.More.{line_of, refused_own}
use Rattle.session_facts.proofs.Machines.Openings.Stays.{opening_begins}
use Rattle.session_facts.proofs.Machines.Walks.Stays.{reading_begins}
use Rattle.session_facts.proofs.Machines.Scans.Stays.{range_of, moved_range, scanning_begins, scanning_begins_ended}
use Rattle.session_facts.proofs.Machines.Looks.Stays.{look_begins_for}
use Rattle.world_core.specs.declared.asked.Noting.{Noting}
use Rattle.world_core.specs.World.{World}
use Rattle.world_core.specs.declared.world.WorldFault.{WorldFault}
use Rattle.world_core.specs.Asked.{bound_of, IsPlace, change_in}
use Rattle.world_core.specs.Sessions.{Changes, NotesIn, AbortsIn, joined}
use Rattle.world_core.specs.Replying.{declined, done_reply, trouble_reply, RepliesBegun}
use Rattle.world_core.specs.Handled.{BeginsOp, NotesChange, DropsChanges}
use Rattle.world_core.proofs.Joining.{may_join}
use Rattle.world_core.proofs.Behind.{LineLeaves}
use Rattle.world_core.proofs.Texts.{commit_is}
use Rattle.world_core.proofs.StandsLemmas.{IsNoReport, Ready, StaysBehind, acts_before, changed_was, quiet_line, quiet_refused, replies_to}

-- the reply of a line
abbrev pub IsOk : Reply → Result Reply WorldFault → Type 0
IsOk r result = (let own : Result Reply WorldFault = Ok r in own ≡ result)

pub refused_is : (r : Reply) (rule : Refusal) → IsOk r (declined (refused.Rule rule)) → r ≡ reply.Refused rule
refused_is r rule e = cc

-- ---- an operation begins

-- the operation of a line keeps what stands
begun_stands : (lines : List Line) (event : Event) (k : ℕ) (before after : Seen) (old new : World) (t : CloudState) (o : Op) (r : Reply) → IsRightOp o
    → (ready : Ready lines event k (span_of before after old new) t) → (c : Changes k (BeginsOp o (Ok r)) old.sessions new.sessions)
    → SessionsStand ready.stands.holds.book ready.stands.holds.order t (at k c.after (session_at old.sessions))
begun_stands lines event k before after old new t o r right ready c =
    begins_keeps o ready.stands.holds.book ready.stands.holds.order t (session_at old.sessions) k c.after c.does.begun right ready.stands.holds.stand
    (subst (λ a. Begins o a c.after c.does.begun) (sym (changed_was k _ old.sessions new.sessions c)) c.does.begins)

-- and leaves no commit behind the put of its open head that was not there before
begun_behind : (event : Event) (k : ℕ) (old new : World) (o : Op) (r : Reply) → (c : Changes k (BeginsOp o (Ok r)) old.sessions new.sessions) → StaysBehind k (line_of event r) c.before c.after
begun_behind event k old new o r c behind = on (begins_before c.before c.after o c.does.begun c.does.begins)
  where
    never : (rule : Refusal) → reply.Refused rule ≡ reply.Begun → ⊥
    never rule e = absurd (cc (e))

    on : BeginsBefore c.before c.after c.does.begun → (c.after.work ≡ c.before.work) × (BeginsCommit k (line_of event r) → ⊥)
    on (inl (rule, is, same)) =
        let declines : RepliesBegun (Err (refused.Rule rule)) c.after (Ok r) = subst (λ x. RepliesBegun x c.after (Ok r)) is c.does.replies in
        (ap (λ (a : Acting). a.work) same, λ begins. never rule (sym (refused_is r rule declines) ∙ begins.begun))
    on (inr before) = absurd (before behind)

-- how the session stands after it
abbrev pub LeavesSession : Event → Reply → ℕ → List Line → Acting → Type 0
LeavesSession event r k lines a = ActsAs a (after_own event r (standing lines k)) × IsNoReport r

pub refused_session : (event : Event) (r : Reply) (rule : Refusal) (k : ℕ) (lines : List Line) (a b : Acting) → IsOk r (declined (refused.Rule rule)) → b ≡ a → ActsAs a (standing lines k)
    → LeavesSession event r k lines b
refused_session event r rule k lines a b e same acts =
    let is : r ≡ reply.Refused rule = refused_is r rule e in
    let P : Reply → Type 0 = λ z. LeavesSession event z k lines b in
    subst P (sym is) (subst (ActsAs b) (sym (refused_own event rule (standing lines k))) (subst (λ z. ActsAs z (standing lines k)) (sym same) acts), tt)

pub opens : (k client : ℕ) (r : Reply) (lines : List Line) (a b : Acting) (begun : Result Begun Refused) → ActsAs a (standing lines k) → BeginsOpening client a b begun → RepliesBegun begun b (Ok r)
    → LeavesSession (event.Open k client) r k lines b
opens k client r lines a b (Ok Working) acts begins e =
    let is : r ≡ reply.Begun = cc in
    let P : Reply → Type 0 = λ z. LeavesSession (event.Open k client) z k lines b in
    subst P (sym is) (subst (λ z. ActsAs z (after_own (event.Open k client) reply.Begun (standing lines k))) (sym begins.1) (record { buffer = refl; work = (refl, refl, refl, opening_begins client (old_lease a.work), refl) }), tt)
opens k client r lines a b (Ok (Answered x)) acts begins e = absurd begins
opens k client r lines a b (Err (refused.Rule rule)) acts begins e = refused_session (event.Open k client) r rule k lines a b e begins.1 acts
opens k client r lines a b (Err refused.Memory) acts begins e = absurd begins

-- what the lines say of an open client
pub idle_of : (k : ℕ) (lines : List Line) (a : Acting) (home : Home) → a.work ≡ work.Idle home → ActsAs a (standing lines k) → WorksAs (work.Idle home) (standing lines k)
idle_of k lines a home e acts = subst (λ w. WorksAs w (standing lines k)) e acts.work

-- an operation begins that leaves what was noted
pub has_in_hand : (event : Event) (k : ℕ) (r : Reply) (lines : List Line) (own : Home → Work) (a b : Acting) (begun : Result Begun Refused) → ActsAs a (standing lines k)
    → ((home : Home) → WorksAs (work.Idle home) (standing lines k) → ActsAs (record a { work = own home; shown = Nothing }) (after_own event reply.Begun (standing lines k)))
    → BeginsWith (λ home. HasInHand a (own home)) a b begun → RepliesBegun begun b (Ok r) → LeavesSession event r k lines b
has_in_hand event k r lines own a b (Ok begun) acts stands begins e =
    let idle = idle_of k lines a begins.0 begins.1 acts in
    let answered : RepliesBegun (Ok Working) b (Ok r) = subst (λ x. RepliesBegun (Ok x) b (Ok r)) begins.2.0 e in
    let is : r ≡ reply.Begun = cc in
    let P : Reply → Type 0 = λ z. LeavesSession event z k lines b in
    subst P (sym is) (subst (λ z. ActsAs z (after_own event reply.Begun (standing lines k))) (sym begins.2.1) (stands begins.0 idle), tt)
has_in_hand event k r lines own a b (Err (refused.Rule rule)) acts stands begins e = refused_session event r rule k lines a b e begins.1 acts
has_in_hand event k r lines own a b (Err refused.Memory) acts stands begins e = absurd begins

-- a session is its buffer and its work
acts_by : (b : Acting) (w : Work) (s : Standing) → b.work ≡ w → b.buffer ≡ s.buffer → WorksAs w s → ActsAs b s
acts_by b w s e buffer works = record { buffer = buffer; work = subst (λ z. WorksAs z s) (sym e) works }

commits_of : (k : ℕ) (r : Reply) (lines : List Line) (buffer : List Noted) (home : Home) (c : Cache) (b : Acting) (begun : Begun) → buffer ≡ (standing lines k).buffer
    → WorksAs (work.Idle home) (standing lines k) → b.buffer ≡ [] → CommitsOf home buffer c b.cache b.work begun → RepliesBegun (Ok begun) b (Ok r) → LeavesSession (event.Commit k) r k lines b
commits_of k r lines buffer home c b Working same idle empty commits e =
    let is : r ≡ reply.Begun = cc in
    let go : RunsFor IsRefusal buffer home.client (Goes (commits.0, b.cache)) = subst (RunsFor IsRefusal buffer home.client) commits.1 (run_begins home buffer c) in
    let P : Reply → Type 0 = λ z. LeavesSession (event.Commit k) z k lines b in
    subst P (sym is) (
      acts_by b (work.Committing commits.0) (after_own (event.Commit k) reply.Begun (standing lines k)) commits.2 empty
          (ap (λ cs. WorkingOn (CommittingAll cs)) (sym same ∙ sym go.0), idle.1 ∙ sym go.1, go.2),
      tt,
    )
commits_of k r lines buffer home c b (Answered (answer.Commit a)) same idle empty commits e =
    let end : RunsFor IsRefusal buffer home.client (Ends (commits.0, b.cache) a) = subst (RunsFor IsRefusal buffer home.client) commits.1 (run_begins home buffer c) in
    let f = (commit_is a r e).0 in
    let is : r ≡ reply.Commit (NotCommitted end.1.0) = f ∙ ap (λ z. reply.Commit z) end.1.1 in
    let P : Reply → Type 0 = λ z. LeavesSession (event.Commit k) z k lines b in
    subst P (sym is)
    (acts_by b (work.Idle (home_of commits.0)) (after_own (event.Commit k) (reply.Commit (NotCommitted end.1.0)) (standing lines k)) commits.2 empty (idle.0, idle.1 ∙ sym end.0), tt)
commits_of k r lines buffer home c b (Answered (answer.Trouble z)) same idle empty commits e = absurd (on z commits.0 e)
  where
    on : (z : Trouble) → z ≡ trouble.Memory → IsOk r (trouble_reply z) → ⊥
    on z same e = let own : IsOk r (trouble_reply trouble.Memory) = subst (λ x. IsOk r (trouble_reply x)) same e in absurd (cc)
commits_of k r lines buffer home c b (Answered a) same idle empty commits e = absurd commits

commits_nothing : (k : ℕ) (r : Reply) (lines : List Line) (buffer : List Noted) (home : Home) (c : Cache) (b : Acting) (begun : Begun) → buffer ≡ (standing lines k).buffer
    → WorksAs (work.Idle home) (standing lines k) → b.buffer ≡ [] → CommitsNothing home buffer c b.cache b.work begun → RepliesBegun (Ok begun) b (Ok r) → LeavesSession (event.Commit k) r k lines b
commits_nothing k r lines buffer home c b begun same idle empty nothing e =
    let answered : RepliesBegun (Ok (Answered (answer.Commit (Committed 0)))) b (Ok r) = subst (λ x. RepliesBegun (Ok x) b (Ok r)) nothing.answer e in
    let is = (commit_is (Committed 0) r answered).0 in
    let P : Reply → Type 0 = λ z. LeavesSession (event.Commit k) z k lines b in
    subst P (sym is) (acts_by b (work.Idle home) (standing lines k) nothing.work_is (empty ∙ sym nothing.none ∙ same) idle, tt)

pub commits : (k : ℕ) (r : Reply) (lines : List Line) (a b : Acting) (begun : Result Begun Refused) → ActsAs a (standing lines k) → BeginsWith (CommitsIn a) a b begun
    → RepliesBegun begun b (Ok r) → LeavesSession (event.Commit k) r k lines b
commits k r lines a b (Ok begun) acts begins e = on begins.2.1
  where
    on : CommitsNoted begins.0 a.buffer a.cache b.cache b.work begun → LeavesSession (event.Commit k) r k lines b
    on (inl nothing) = commits_nothing k r lines a.buffer begins.0 a.cache b begun acts.buffer (idle_of k lines a begins.0 begins.1 acts) begins.2.0 nothing e
    on (inr some) = commits_of k r lines a.buffer begins.0 a.cache b begun acts.buffer (idle_of k lines a begins.0 begins.1 acts) begins.2.0 some.1 e
commits k r lines a b (Err (refused.Rule rule)) acts begins e = refused_session (event.Commit k) r rule k lines a b e begins.1 acts
commits k r lines a b (Err refused.Memory) acts begins e = absurd begins

-- a client stays open behind a read that stopped, but for want of memory
stays_idle : (t : Trouble) (home : Home) → (t ≡ trouble.Memory → ⊥) → stopped_work t home ≡ work.Idle home
stays_idle trouble.Memory home never = absurd (never refl)
stays_idle t home never = refl

-- a read begins, or it is answered at once
reads_of : (k tree : ℕ) (key : List ℕ) (r : Reply) (lines : List Line) (home : Home) (old : Cache) (b : Acting) (begun : Begun) → b.buffer ≡ (standing lines k).buffer
    → WorksAs (work.Idle home) (standing lines k) → ReadsOf home (new_walk tree (Some key) false, old) (b.work, b.cache) b.shown begun → RepliesBegun (Ok begun) b (Ok r)
    → LeavesSession (event.Read k tree key) r k lines b
reads_of k tree key r lines home old b Working same idle reads e =
    let is : r ≡ reply.Begun = cc in
    let looks = reading_begins tree key old b.cache reads.0 reads.1 in
    let P : Reply → Type 0 = λ z. LeavesSession (event.Read k tree key) z k lines b in
    subst P (sym is) (
      acts_by b (work.Reading home reads.0) (after_own (event.Read k tree key) reply.Begun (standing lines k)) reads.2 same
          (ap (λ i. WorkingOn (ReadingKey i key)) (sym looks.0) ∙ ap (λ i. WorkingOn (ReadingKey reads.0.tree i)) (sym looks.1), idle.1),
      tt,
    )
reads_of k tree key r lines home old b (Answered answer.Value) same idle reads e = on (replies_to answer.Value b r e).0
  where
    P : Reply → Type 0
    P z = LeavesSession (event.Read k tree key) z k lines b

    acts : ActsAs b (standing lines k)
    acts = acts_by b (work.Idle home) (standing lines k) reads.3 same idle

    on : IsReplyTo answer.Value r → P r
    on (inl none) = subst P (sym none) (acts, tt)
    on (inr (payload, some)) = subst P (sym some) (acts, tt)
reads_of k tree key r lines home old b (Answered (answer.Trouble t)) same idle reads e =
    let is = (replies_to (answer.Trouble t) b r e).0 in
    let P : Reply → Type 0 = λ z. LeavesSession (event.Read k tree key) z k lines b in
    subst P (sym is.0) (acts_by b (work.Idle home) (standing lines k) (reads.2 ∙ stays_idle t home is.1) same idle, tt)
reads_of k tree key r lines home old b (Answered a) same idle reads e = absurd reads

pub reads : (k tree : ℕ) (key : List ℕ) (r : Reply) (lines : List Line) (a b : Acting) (begun : Result Begun Refused) → ActsAs a (standing lines k) → BeginsWith (ReadsIn tree key a) a b begun
    → RepliesBegun begun b (Ok r) → LeavesSession (event.Read k tree key) r k lines b
reads k tree key r lines a b (Ok begun) acts begins e =
    reads_of k tree key r lines begins.0 a.cache b begun (begins.2.0 ∙ acts.buffer) (idle_of k lines a begins.0 begins.1 acts) begins.2.1 e
reads k tree key r lines a b (Err (refused.Rule rule)) acts begins e = refused_session (event.Read k tree key) r rule k lines a b e begins.1 acts
reads k tree key r lines a b (Err refused.Memory) acts begins e = absurd begins

-- the bytes of a bound
bound_bytes : (bytes : List ℕ) → unwrap_or (bound_of bytes) [] ≡ bytes
bound_bytes [] = refl
bound_bytes (b ∷ bs) = refl

-- a scan begins, or it is answered at once
module _ (k tree : ℕ) (first last : List ℕ) (r : Reply) (lines : List Line) (home : Home) (b : Acting) (begun : Begun)
    (same : b.buffer ≡ (standing lines k).buffer) (idle : WorksAs (work.Idle home) (standing lines k)) (replies : RepliesBegun (Ok begun) b (Ok r)) where
  abbrev scan_line : Event
  scan_line = event.Scan k tree first last

  abbrev Left : Reply → Type 0
  Left z = LeavesSession scan_line z k lines b

  -- between these bounds
  abbrev IsBetween : Listing → Type 0
  IsBetween l = range_of l.scan ≡ WorkingOn (ScanningRange tree (unwrap_or (bound_of first) []) (unwrap_or (bound_of last) []))

  scan_works : (l : Listing) → b.work ≡ work.Scanning home l → IsBetween l → begun ≡ Working → Left r
  scan_works l e between is =
      let answered : RepliesBegun (Ok Working) b (Ok r) = subst (λ x. RepliesBegun (Ok x) b (Ok r)) is replies in
      let begins : r ≡ reply.Begun = cc in
      let range : range_of l.scan ≡ WorkingOn (ScanningRange tree first last) =
      between ∙ ap (λ i. WorkingOn (ScanningRange tree i (unwrap_or (bound_of last) []))) (bound_bytes first) ∙ ap (λ i. WorkingOn (ScanningRange tree first i)) (bound_bytes last) in
      subst Left (sym begins) (acts_by b (work.Scanning home l) (after_own scan_line reply.Begun (standing lines k)) e same (sym range, idle.1), tt)

  scan_shows : b.work ≡ work.Idle home → begun ≡ Answered answer.Scan → Left r
  scan_shows e is =
      let answered : RepliesBegun (Ok (Answered answer.Scan)) b (Ok r) = subst (λ x. RepliesBegun (Ok x) b (Ok r)) is replies in
      let shows = (replies_to answer.Scan b r answered).0 in
      subst Left (sym shows.1) (acts_by b (work.Idle home) (standing lines k) e same idle, tt)

  scan_stops : (t : Trouble) → b.work ≡ stopped_work t home → begun ≡ Answered (answer.Trouble t) → Left r
  scan_stops t e is =
      let answered : RepliesBegun (Ok (Answered (answer.Trouble t))) b (Ok r) = subst (λ x. RepliesBegun (Ok x) b (Ok r)) is replies in
      let stops = (replies_to (answer.Trouble t) b r answered).0 in
      subst Left (sym stops.0) (acts_by b (work.Idle home) (standing lines k) (e ∙ stays_idle t home stops.1) same idle, tt)

  scan_forgets : (t : Trouble) → t ≡ trouble.Memory → begun ≡ Answered (answer.Trouble t) → Left r
  scan_forgets t memory is =
      let answered : RepliesBegun (Ok (Answered (answer.Trouble t))) b (Ok r) = subst (λ x. RepliesBegun (Ok x) b (Ok r)) is replies in
      absurd ((replies_to (answer.Trouble t) b r answered).0.1 memory)

  scans_by : (buffer : List Noted) (old : Cache) (n : Scan) (moved : Turn ℕ) (turn : Turn Answer) → Moves (scan_ready (new_scan tree (bound_of first) (bound_of last), old)) (n, b.cache) moved
      → Follows home (record { scan = n; pairs = [] }) moved (acting_of buffer b.work b.cache b.shown) turn → begins_by turn begun → Left r
  scans_by buffer old n More turn moves f is =
      scan_works (record { scan = n; pairs = [] }) f.0 (scanning_begins tree (bound_of first) (bound_of last) old b.cache n moves) (subst (λ z. begins_by z begun) f.2 is)
  scans_by buffer old n (Ended page) More moves (all, listed, goes, e, shown) is =
      scan_works (record { scan = moved_on n; pairs = all }) e (moved_range n ∙ scanning_begins_ended tree (bound_of first) (bound_of last) old b.cache n page moves) is
  scans_by buffer old n (Ended page) (Ended answer.Scan) moves (all, listed, over, e, shown) is = scan_shows e is
  scans_by buffer old n (Ended page) (Ended (answer.Trouble t)) moves f is = scan_forgets t f.0 is
  scans_by buffer old n (Ended page) (Ended a) moves f is = absurd f
  scans_by buffer old n (Ended page) (Stopped t) moves f is = absurd f
  scans_by buffer old n (Stopped t) turn moves f is = scan_stops t f.0 (subst (λ z. begins_by z begun) f.2 is)

pub scans : (k tree : ℕ) (first last : List ℕ) (r : Reply) (lines : List Line) (a b : Acting) (begun : Result Begun Refused) → ActsAs a (standing lines k)
    → BeginsWith (ScansIn (new_scan tree (bound_of first) (bound_of last)) a) a b begun → RepliesBegun begun b (Ok r) → LeavesSession (event.Scan k tree first last) r k lines b
scans k tree first last r lines a b (Ok begun) acts begins e =
    let s : ScansOf begins.0 (new_scan tree (bound_of first) (bound_of last)) a.cache (acting_of a.buffer b.work b.cache b.shown) begun = begins.2.1 in
    scans_by k tree first last r lines begins.0 b begun (begins.2.0 ∙ acts.buffer) (idle_of k lines a begins.0 begins.1 acts) e a.buffer a.cache s.scan s.moved s.turn s.moves s.follows s.begins
scans k tree first last r lines a b (Err (refused.Rule rule)) acts begins e = refused_session (event.Scan k tree first last) r rule k lines a b e begins.1 acts
scans k tree first last r lines a b (Err refused.Memory) acts begins e = absurd begins

-- a look-up begins, or it stops at once
looks_of : (k tree : ℕ) (attr : List ℕ) (r : Reply) (lines : List Line) (home : Home) (old : Cache) (b : Acting) (begun : Begun) → b.buffer ≡ (standing lines k).buffer
    → WorksAs (work.Idle home) (standing lines k) → LooksOf home (record { tree = tree; attr = attr }) old (b.work, b.cache) b.shown begun → RepliesBegun (Ok begun) b (Ok r)
    → LeavesSession (event.Lookup k tree attr) r k lines b
looks_of k tree attr r lines home old b Working same idle (m, ready, is, none) e =
    let begins : r ≡ reply.Begun = cc in
    let query : Query = record { tree = tree; attr = attr } in
    let for : m.query ≡ query = look_begins_for query m old b.cache ready in
    let P : Reply → Type 0 = λ z. LeavesSession (event.Lookup k tree attr) z k lines b in
    subst P (sym begins) (
      acts_by b (work.Looking home m) (after_own (event.Lookup k tree attr) reply.Begun (standing lines k)) is same
          (ap (λ (q : Query). WorkingOn (LookingUp q.tree q.attr)) (sym for), idle.1),
      tt,
    )
looks_of k tree attr r lines home old b (Answered (answer.Trouble t)) same idle (leads, is, none) e =
    let tells = (replies_to (answer.Trouble t) b r e).0 in
    let P : Reply → Type 0 = λ z. LeavesSession (event.Lookup k tree attr) z k lines b in
    subst P (sym tells.0) (acts_by b (work.Idle home) (standing lines k) (is ∙ stays_idle t home tells.1) same idle, tt)
looks_of k tree attr r lines home old b (Answered a) same idle never e = absurd never

pub looks : (k tree : ℕ) (attr : List ℕ) (r : Reply) (lines : List Line) (a b : Acting) (begun : Result Begun Refused) → ActsAs a (standing lines k)
    → BeginsIndexed tree (LooksIn tree attr a) a b begun → RepliesBegun begun b (Ok r) → LeavesSession (event.Lookup k tree attr) r k lines b
looks k tree attr r lines a b (Ok begun) acts (few, (home, idle, does)) e =
    looks_of k tree attr r lines home a.cache b begun (does.0 ∙ acts.buffer) (idle_of k lines a home idle acts) does.1 e
looks k tree attr r lines a b (Err (refused.Rule rule)) acts (inl (bad, above, same)) e = refused_session (event.Lookup k tree attr) r rule k lines a b e same acts
looks k tree attr r lines a b (Err (refused.Rule rule)) acts (inr (few, (why, same))) e = refused_session (event.Lookup k tree attr) r rule k lines a b e same acts
looks k tree attr r lines a b (Err refused.Memory) acts (inl (bad, above, same)) e = absurd (cc (bad))
looks k tree attr r lines a b (Err refused.Memory) acts (inr (few, never)) e = absurd never

pub opening_begun : (lines : List Line) (k client : ℕ) (r : Reply) (before after : Seen) (old new : World) (t : CloudState) → IsClient client
    → Ready lines (event.Open k client) k (span_of before after old new) t → Changes k (BeginsOp (op.Open client) (Ok r)) old.sessions new.sessions
    → LineLeaves (lines ++ line_of (event.Open k client) r ∷ []) new after r
opening_begun lines k client r before after old new t is ready c =
    let left = opens k client r lines c.before c.after c.does.begun (acts_before lines (event.Open k client) k before after old new t _ ready c) c.does.begins c.does.replies in
    quiet_line lines (event.Open k client) r k before after old new t _ ready c (begun_stands lines (event.Open k client) k before after old new t (op.Open client) r is ready c) left.0
    (begun_behind (event.Open k client) k old new (op.Open client) r c) left.1

-- .. and leaves what stands
module _ (lines : List Line) (event : Event) (k : ℕ) (r : Reply) (before after : Seen) (old new : World) (t : CloudState) (ready : Ready lines event k (span_of before after old new) t) where
  in_hand_begun : (o : Op) (own : Home → Work) → IsRightOp o → (c : Changes k (BeginsOp o (Ok r)) old.sessions new.sessions)
      → ((home : Home) → WorksAs (work.Idle home) (standing lines k) → ActsAs (record c.before { work = own home; shown = Nothing }) (after_own event reply.Begun (standing lines k)))
      → BeginsWith (λ home. HasInHand c.before (own home)) c.before c.after c.does.begun → LineLeaves (lines ++ line_of event r ∷ []) new after r
  in_hand_begun o own right c stands begins =
      let left = has_in_hand event k r lines own c.before c.after c.does.begun (acts_before lines event k before after old new t _ ready c) stands begins c.does.replies in
      quiet_line lines event r k before after old new t _ ready c (begun_stands lines event k before after old new t o r right ready c) left.0
      (begun_behind event k old new o r c) left.1

  -- how a session that changes has its buffer
  same_buffer : (o : Op) → (c : Changes k (BeginsOp o (Ok r)) old.sessions new.sessions) → c.before.buffer ≡ (standing lines k).buffer
  same_buffer o c = (acts_before lines event k before after old new t _ ready c).buffer

pub folding_begun : (lines : List Line) (k tree : ℕ) (r : Reply) (before after : Seen) (old new : World) (t : CloudState) → IsTree tree
    → Ready lines (event.Tree k tree) k (span_of before after old new) t → Changes k (BeginsOp (op.Tree tree) (Ok r)) old.sessions new.sessions
    → LineLeaves (lines ++ line_of (event.Tree k tree) r ∷ []) new after r
folding_begun lines k tree r before after old new t is ready c =
    in_hand_begun lines (event.Tree k tree) k r before after old new t ready (op.Tree tree) (folding_begun_by tree) is c
    (λ home idle. record { buffer = same_buffer lines (event.Tree k tree) k r before after old new t ready (op.Tree tree) c; work = (refl, idle.1, tt) }) c.does.begins

pub paging_begun : (lines : List Line) (k tree page : ℕ) (r : Reply) (before after : Seen) (old new : World) (t : CloudState) → IsTree tree → IsPage page
    → Ready lines (event.Page k tree page) k (span_of before after old new) t → Changes k (BeginsOp (op.Page tree page) (Ok r)) old.sessions new.sessions
    → LineLeaves (lines ++ line_of (event.Page k tree page) r ∷ []) new after r
paging_begun lines k tree page r before after old new t is_tree is_page ready c =
    in_hand_begun lines (event.Page k tree page) k r before after old new t ready (op.Page tree page) (paging_begun_by tree page) (is_tree, is_page) c
    (λ home idle. record { buffer = same_buffer lines (event.Page k tree page) k r before after old new t ready (op.Page tree page) c; work = (refl, idle.1) }) c.does.begins

pub close_begun : (lines : List Line) (k : ℕ) (r : Reply) (before after : Seen) (old new : World) (t : CloudState)
    → Ready lines (event.Close k) k (span_of before after old new) t → Changes k (BeginsOp op.Close (Ok r)) old.sessions new.sessions
    → LineLeaves (lines ++ line_of (event.Close k) r ∷ []) new after r
close_begun lines k r before after old new t ready c =
    in_hand_begun lines (event.Close k) k r before after old new t ready op.Close (λ home. work.Closing home.lease) tt c
    (λ home idle. record { buffer = same_buffer lines (event.Close k) k r before after old new t ready op.Close c; work = refl }) c.does.begins

pub renewal_begun : (lines : List Line) (k : ℕ) (r : Reply) (before after : Seen) (old new : World) (t : CloudState)
    → Ready lines (event.Renew k) k (span_of before after old new) t → Changes k (BeginsOp op.Renew (Ok r)) old.sessions new.sessions
    → LineLeaves (lines ++ line_of (event.Renew k) r ∷ []) new after r
renewal_begun lines k r before after old new t ready c =
    in_hand_begun lines (event.Renew k) k r before after old new t ready op.Renew (λ home. work.Renewing home) tt c
    (λ home idle. record { buffer = same_buffer lines (event.Renew k) k r before after old new t ready op.Renew c; work = (refl, idle.1) }) c.does.begins

pub commit_begun : (lines : List Line) (k : ℕ) (r : Reply) (before after : Seen) (old new : World) (t : CloudState)
    → Ready lines (event.Commit k) k (span_of before after old new) t → Changes k (BeginsOp op.Commit (Ok r)) old.sessions new.sessions
    → LineLeaves (lines ++ line_of (event.Commit k) r ∷ []) new after r
commit_begun lines k r before after old new t ready c =
    let left = commits k r lines c.before c.after c.does.begun (acts_before lines (event.Commit k) k before after old new t _ ready c) c.does.begins c.does.replies in
    quiet_line lines (event.Commit k) r k before after old new t _ ready c (begun_stands lines (event.Commit k) k before after old new t op.Commit r tt ready c) left.0
    (begun_behind (event.Commit k) k old new op.Commit r c) left.1

pub read_begun : (lines : List Line) (k tree : ℕ) (key : List ℕ) (r : Reply) (before after : Seen) (old new : World) (t : CloudState) → IsTree tree
    → Ready lines (event.Read k tree key) k (span_of before after old new) t → Changes k (BeginsOp (op.Read tree key) (Ok r)) old.sessions new.sessions
    → LineLeaves (lines ++ line_of (event.Read k tree key) r ∷ []) new after r
read_begun lines k tree key r before after old new t is ready c =
    let left = reads k tree key r lines c.before c.after c.does.begun (acts_before lines (event.Read k tree key) k before after old new t _ ready c) c.does.begins c.does.replies in
    quiet_line lines (event.Read k tree key) r k before after old new t _ ready c
    (begun_stands lines (event.Read k tree key) k before after old new t (op.Read tree key) r is ready c) left.0
    (begun_behind (event.Read k tree key) k old new (op.Read tree key) r c) left.1

pub scan_begun : (lines : List Line) (k tree : ℕ) (first last : List ℕ) (r : Reply) (before after : Seen) (old new : World) (t : CloudState) → IsTree tree
    → Ready lines (event.Scan k tree first last) k (span_of before after old new) t → Changes k (BeginsOp (op.Scan tree (bound_of first) (bound_of last)) (Ok r)) old.sessions new.sessions
    → LineLeaves (lines ++ line_of (event.Scan k tree first last) r ∷ []) new after r
scan_begun lines k tree first last r before after old new t is ready c =
    let left = scans k tree first last r lines c.before c.after c.does.begun (acts_before lines (event.Scan k tree first last) k before after old new t _ ready c) c.does.begins c.does.replies in
    quiet_line lines (event.Scan k tree first last) r k before after old new t _ ready c
    (begun_stands lines (event.Scan k tree first last) k before after old new t (op.Scan tree (bound_of first) (bound_of last)) r is ready c) left.0
    (begun_behind (event.Scan k tree first last) k old new (op.Scan tree (bound_of first) (bound_of last)) r c) left.1

pub look_begun : (lines : List Line) (k tree : ℕ) (attr : List ℕ) (r : Reply) (before after : Seen) (old new : World) (t : CloudState) → IsTree tree
    → Ready lines (event.Lookup k tree attr) k (span_of before after old new) t → Changes k (BeginsOp (op.Lookup tree attr) (Ok r)) old.sessions new.sessions
    → LineLeaves (lines ++ line_of (event.Lookup k tree attr) r ∷ []) new after r
look_begun lines k tree attr r before after old new t is ready c =
    let left = looks k tree attr r lines c.before c.after c.does.begun (acts_before lines (event.Lookup k tree attr) k before after old new t _ ready c) c.does.begins c.does.replies in
    quiet_line lines (event.Lookup k tree attr) r k before after old new t _ ready c
    (begun_stands lines (event.Lookup k tree attr) k before after old new t (op.Lookup tree attr) r is ready c) left.0
    (begun_behind (event.Lookup k tree attr) k old new (op.Lookup tree attr) r c) left.1

-- ---- changes are noted and dropped

-- a session that stays
same_stands : (lines : List Line) (event : Event) (k : ℕ) (before after : Seen) (old new : World) (t : CloudState) (Does : Acting → Acting → Type 0)
    → (ready : Ready lines event k (span_of before after old new) t) → (c : Changes k Does old.sessions new.sessions) → c.after ≡ c.before
    → SessionsStand ready.stands.holds.book ready.stands.holds.order t (at k c.after (session_at old.sessions))
same_stands lines event k before after old new t Does ready c same =
    same_sessions ready.stands.holds.book ready.stands.holds.order t (session_at old.sessions) (at k c.after (session_at old.sessions)) each ready.stands.holds.stand
  where
    each : (n : ℕ) → at k c.after (session_at old.sessions) n ≡ session_at old.sessions n
    each n = on (cases_eq n k)
      where
        on : (n ≡ k) ⊎ (n ≢ k) → at k c.after (session_at old.sessions) n ≡ session_at old.sessions n
        on (inl e) =
            at_same k c.after (session_at old.sessions) n e ∙ same ∙ sym (changed_was k Does old.sessions new.sessions c) ∙ ap (session_at old.sessions) (sym e)
        on (inr ne) = at_other k c.after (session_at old.sessions) n ne

-- what a session works on does not look at the buffer of an open client
pub works_with : (w : Work) (s : Standing) (buffer : List Noted) → rule_of w ≡ None → WorksAs w s → WorksAs w (record s { buffer = buffer })
works_with (work.Idle home) s buffer opened works = works
works_with w s buffer opened works = absurd (cc)

-- another buffer of an open client
buffer_line : (lines : List Line) (event : Event) (r : Reply) (k : ℕ) (before after : Seen) (old new : World) (t : CloudState) (Does : Acting → Acting → Type 0) (buffer : List Noted)
    → (ready : Ready lines event k (span_of before after old new) t) → (c : Changes k Does old.sessions new.sessions) → c.after ≡ record c.before { buffer = buffer } → rule_of c.before.work ≡ None
    → MayCommit buffer → after_own event r (standing lines k) ≡ record (standing lines k) { buffer = buffer } → (r ≡ reply.Begun → ⊥) → IsNoReport r
    → LineLeaves (lines ++ line_of event r ∷ []) new after r
buffer_line lines event r k before after old new t Does buffer ready c is opened may own other plain =
    quiet_line lines event r k before after old new t Does ready c stand (subst (ActsAs c.after) (sym own) acts)
    (λ behind. (ap (λ (a : Acting). a.work) is, λ begins. other begins.begun)) plain
  where
    f : Sessions
    f = session_at old.sessions

    was : f k ≡ c.before
    was = changed_was k Does old.sessions new.sessions c

    stand : SessionsStand ready.stands.holds.book ready.stands.holds.order t (at k c.after f)
    stand =
        let S : Acting → Type 0 = λ a. SessionsStand ready.stands.holds.book ready.stands.holds.order t (at k a f) in
        subst S (ap (λ (a : Acting). record a { buffer = buffer }) was ∙ sym is)
        (buffer_keeps ready.stands.holds.book ready.stands.holds.order t f k buffer may ready.stands.holds.stand)

    acts : ActsAs c.after (record (standing lines k) { buffer = buffer })
    acts =
        let had = acts_before lines event k before after old new t Does ready c in
        subst (λ a. ActsAs a (record (standing lines k) { buffer = buffer })) (sym is)
        (record { buffer = refl; work = works_with c.before.work (standing lines k) buffer opened had.work })

-- a line that notes something
pub notes : (lines : List Line) (event : Event) (k : ℕ) (noting : Noting) (r : Reply) (before after : Seen) (old new : World) (t : CloudState) → IsPlace noting → IsChange (change_in noting)
    → ((q : Reply) (s : Standing) → after_own event q s ≡ joins (joined noting) q s)
    → Ready lines event k (span_of before after old new) t → Changes k (NotesChange noting (Ok r)) old.sessions new.sessions → LineLeaves (lines ++ line_of event r ∷ []) new after r
notes lines event k noting r before after old new t is_place is_change own ready c = on c.does.noted c.does.notes c.does.replies
  where
    s : Standing
    s = standing lines k

    on : (noted : Result (Unit {0}) Refused) → NotesIn noting c.before c.after noted → IsOk r (done_reply reply.Noted noted) → LineLeaves (lines ++ line_of event r ∷ []) new after r
    on (Ok done) h e =
        let is : r ≡ reply.Noted = cc in
        let P : Reply → Type 0 = λ z. LineLeaves (lines ++ line_of event z ∷ []) new after z in
        let had = acts_before lines event k before after old new t _ ready c in
        let few : length (joined noting c.before.buffer) ≤ 200 = subst (λ (a : Acting). length a.buffer ≤ 200) h.0 h.2 in
        let may : MayCommit c.before.buffer =
        subst (λ (a : Acting). MayCommit a.buffer) (changed_was k _ old.sessions new.sessions c) (ready.stands.holds.stand.each k).buffer in
        subst P (sym is) (buffer_line lines event reply.Noted k before after old new t _ (joined noting c.before.buffer) ready c h.0 h.1
        (may_join noting c.before.buffer is_place is_change h.3 few may)
        (own reply.Noted s ∙ ap (λ b. record s { buffer = joined noting b }) (sym had.buffer)) (λ q. cc (q)) tt)
    on (Err (refused.Rule rule)) h e =
        quiet_refused lines event r rule k before after old new t _ ready c (same_stands lines event k before after old new t _ ready c h.0) (refused_is r rule e) h.0
    on (Err refused.Memory) h e = absurd (cc (e))

-- a line that drops what was noted
pub aborts : (lines : List Line) (k : ℕ) (r : Reply) (before after : Seen) (old new : World) (t : CloudState)
    → Ready lines (event.Abort k) k (span_of before after old new) t → Changes k (DropsChanges (Ok r)) old.sessions new.sessions → LineLeaves (lines ++ line_of (event.Abort k) r ∷ []) new after r
aborts lines k r before after old new t ready c = on c.does.dropped c.does.drops c.does.replies
  where
    on : (dropped : Result (Unit {0}) Refused) → AbortsIn c.before c.after dropped → IsOk r (done_reply reply.Aborted dropped) → LineLeaves (lines ++ line_of (event.Abort k) r ∷ []) new after r
    on (Ok done) h e =
        let is : r ≡ reply.Aborted = cc in
        let P : Reply → Type 0 = λ z. LineLeaves (lines ++ line_of (event.Abort k) z ∷ []) new after z in
        subst P (sym is) (buffer_line lines (event.Abort k) reply.Aborted k before after old new t _ [] ready c h.0 h.1 may_none refl (λ q. cc (q)) tt)
    on (Err (refused.Rule rule)) h e =
        quiet_refused lines (event.Abort k) r rule k before after old new t _ ready c (same_stands lines (event.Abort k) k before after old new t _ ready c h.0) (refused_is r rule e) h.0
    on (Err refused.Memory) h e = absurd h.1
