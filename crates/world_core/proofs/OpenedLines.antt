-- Lines that open no client twice open no transaction twice, whatever was in the cloud before, and whatever their results.
use Rattle.std.proofs.Common.{◌≡◌, ◌+◌, ◌≤◌, ℕ, List, [], ◌∷◌, ◌++◌, length, Some, Ok, Err, Result, refl, sym, ap, subst, ◌∙◌, ◌⊎◌, inl, inr, Bool, true, false, arith}
use Rattle.db_base.specs.declared.refusal.Refused.{Refused}
use Rattle.db_base.specs.declared.refusal.Refused.TheVariants as refused
use Rattle.db_base.specs.declared.wish.Wish.{Wish}
use Rattle.db_base.specs.declared.wish.Wish.TheVariants.{Plain}
use Rattle.event_text.specs.declared.event.Event.{Event}
use Rattle.event_text.specs.declared.event.Event.TheVariants as event
use Rattle.reply_text.specs.declared.reply.Reply.{Reply}
use Rattle.reply_text.specs.declared.reply.Reply.TheVariants as reply
use Rattle.txn_buffer.specs.Noted.{Noted}
use Rattle.page_cache.specs.Cache.{Cache}
use Rattle.cloud_facts.specs.Words.{QueueName, Head, Turn, More, Ended, CloudState, Caller, Seen, Goes, Ends, at}
use Rattle.recover_run.specs.declared.home.Home.{Home}
use Rattle.tree_walk.specs.Walk.{new_walk}
use Rattle.attr_index.specs.Look.{Query}
use Rattle.commit_run.specs.Run.{home_of}
use Rattle.client_work.specs.declared.answer.Answer.{Answer}
use Rattle.client_work.specs.declared.answer.Answer.TheVariants as answer
use Rattle.client_work.specs.declared.answer.Begun.{Begun}
use Rattle.client_work.specs.declared.answer.Begun.TheVariants.{Working, Answered}
use Rattle.client_work.specs.declared.op.Op.{Op}
use Rattle.client_work.specs.declared.op.Op.TheVariants as op
use Rattle.client_work.specs.declared.shown.Shown.{Shown}
use Rattle.client_work.specs.declared.work.Work.{Work}
use Rattle.client_work.specs.declared.work.Work.TheVariants as work
use Rattle.client_work.specs.BrokenOff.{broken_off}
use Rattle.client_work.specs.Session.{Acting, closed_session, StepsSession, Begins, BeginsWith, BeginsOpening, HasInHand, CommitsIn, CommitsOf, CommitsNoted, LooksIn, LooksOf, ReadsOf, ReadsIn, ScansIn, old_lease, stopped_work, paging_begun_by, folding_begun_by}
use Rattle.range_scan.specs.Scan.{new_scan}
use Rattle.replay_meaning.specs.Standing.{Line, Closed, standing}
use Rattle.session_facts.specs.Lines.Facts.{session_at, ActsAs}
use Rattle.session_facts.specs.Sessions.Knows.{Sessions}
use Rattle.session_facts.specs.Rows.Opened.{MayHaveOpened, TakesNumber, WorksFor, AddsApart, AddsNoneTwice}
use Rattle.session_facts.proofs.Lines.More.{line_of}
use Rattle.session_facts.proofs.Rows.Opened.{LeadsOpened, LeadsHome, scan_leads, stopped_leads, away_leads, closed_leads, apart_changes, apart_more, apart_same, apart_rows, apart_none_twice, opening_apart, session_apart, errand_apart, worker_apart}
use Rattle.session_facts.proofs.Machines.CommitRuns.Opened.{RunsFrom, run_begins_from}
use Rattle.session_facts.proofs.Machines.CommitRuns.Stays.{RunsFor, IsRefusal, run_begins}
use Rattle.session_facts.proofs.Sessions.Indexed.{indexed_or}
use Rattle.session_facts.proofs.Lines.Settler.{errand_row}
use Rattle.session_facts.specs.Lines.Errands.{Errand, settles, sweeps, event_for, session_for, AreRowsOf}
use Rattle.world_audit.specs.Look.{Looked}
use Rattle.db_base.specs.declared.names.QueueName.TheVariants.{Atomic, PagePu, TreePu}
use Rattle.ckpt_policy.specs.Notes.{IsPending}
use Rattle.ckpt_policy.specs.declared.role.Role.{Role}
use Rattle.world_core.proofs.Workers.{IsBetween, open_rests, within_begun, within_went, within_works, worker, IsInside}
use Rattle.world_core.specs.World.{World}
use Rattle.world_core.specs.declared.asked.Noting.{Noting}
use Rattle.world_core.specs.declared.asked.Request.{Request}
use Rattle.world_core.specs.declared.asked.Request.TheVariants.{Begin, Note, Abort, Policy, Work as WorksDue, Step, Run, Crash}
use Rattle.world_core.specs.declared.asked.Asked.{Asked}
use Rattle.world_core.specs.declared.asked.Asked.TheVariants.{Session, Wait, Report, Settle, Sweep}
use Rattle.world_core.specs.declared.world.WorldFault.{WorldFault}
use Rattle.world_core.specs.Asked.{Asks}
use Rattle.world_core.specs.Replying.{RepliesBegun}
use Rattle.world_core.specs.Sessions.{Changes, NotesIn, AbortsIn}
use Rattle.world_core.specs.Handled.{Has, BeginsOp, BreaksOff, SetsWish, StepsLooked, StepsTo, FallsShort, RunsShort, MakesStep, Went, start, further, StopsShort, ComesTo, RunsTo, Runs, SettlesOn, Settles, Dies, Crashes, CrashesDone, Does, Answers, Handled, BeginsCheckpoint, CheckpointFails, FailsAt, KnowsNoDue, Policies, Works, WorksThrough, checkpoint_more, checkpoint_of, no_checkpoint, gone_through}
use Rattle.world_core.specs.Added.{WorldAdds}
use Rattle.world_core.specs.Opened.{AsksToOpen, IsOpenedIn, OpenEachOnce, WorldApart}
use Rattle.world_core.specs.Span.{span_of}
use Rattle.world_core.proofs.AddedSteps.{outset, IsAdding, SettlerAdds, adding_begins, begun_way, settler_went, went_adding}
use Rattle.world_core.proofs.BrokenOff.{broken_away}
use Rattle.world_core.proofs.StandsLemmas.{changed_at, changed_was, settler}

-- ---- events that open clients

pub opened_more : (events : List Event) (e : Event) (client : ℕ) → IsOpenedIn events client → IsOpenedIn (events ++ e ∷ []) client
opened_more [] e client h = absurd h
opened_more (x ∷ events) e client (inl h) = inl h
opened_more (x ∷ events) e client (inr h) = inr (opened_more events e client h)

pub opened_last : (events : List Event) (e : Event) (client : ℕ) → AsksToOpen e client → IsOpenedIn (events ++ e ∷ []) client
opened_last [] e client h = inl h
opened_last (x ∷ events) e client h = inr (opened_last events e client h)

-- what the last of them opens no earlier one did
pub opened_new : (events : List Event) (e : Event) (client : ℕ) → OpenEachOnce (events ++ e ∷ []) → AsksToOpen e client → IsOpenedIn events client → ⊥
opened_new [] e client once opens h = absurd h
opened_new (x ∷ events) e client once opens (inl h) = once.0 client h (opened_last events e client opens)
opened_new (x ∷ events) e client once opens (inr h) = opened_new events e client once.1 opens h

opened_behind : (events more : List Event) (client : ℕ) → IsOpenedIn events client → IsOpenedIn (events ++ more) client
opened_behind [] more client h = absurd h
opened_behind (x ∷ events) more client (inl h) = inl h
opened_behind (x ∷ events) more client (inr h) = inr (opened_behind events more client h)

pub once_before : (events more : List Event) → OpenEachOnce (events ++ more) → OpenEachOnce events
once_before [] more once = tt
once_before (x ∷ events) more once = (λ client opens h. once.0 client opens (opened_behind events more client h), once_before events more once.1)

-- the line that begins opening a client is one that asks for it
begins_opening : (e : Event) (k client : ℕ) → Asks e (Session k (Ok (Begin (op.Open client)))) → AsksToOpen e client
begins_opening (event.Open session own) k client asks = let is : Begin (op.Open client) ≡ Begin (op.Open own) = asks.1.1 in cc
begins_opening (event.Close session) k client asks = absurd (cc (asks.1))
begins_opening (event.Renew session) k client asks = absurd (cc (asks.1))
begins_opening (event.Commit session) k client asks = absurd (cc (asks.1))
begins_opening (event.Abort session) k client asks = absurd (cc (asks.1))
begins_opening (event.Read session tree key) k client asks = absurd (cc (asks.1.2))
begins_opening (event.Scan session tree from to) k client asks = absurd (cc (asks.1.3))
begins_opening (event.Lookup session tree attr) k client asks = absurd (cc (asks.1.2))
begins_opening (event.Page session tree page) k client asks = absurd (cc (asks.1.2))
begins_opening (event.Tree session tree) k client asks = absurd (cc (asks.1.1))
begins_opening (event.Run session) k client asks = absurd (cc (asks.1))
begins_opening (event.Policy session role kept) k client asks = absurd (cc (asks.1))
begins_opening (event.Work session) k client asks = absurd (cc (asks.1))
begins_opening (event.Step session wish) k client asks = absurd (cc (asks.1))
begins_opening (event.Crash session done) k client asks = absurd (cc (asks.1))
begins_opening (event.Wait ticks) k client asks = absurd (cc)
begins_opening (event.Report tree) k client asks = absurd (cc)
begins_opening event.Settle k client asks = absurd (cc)
begins_opening (event.Sweep tree) k client asks = absurd asks
begins_opening e k client asks = absurd asks.1

-- ---- an operation begins

same_session : (a b : Acting) → b ≡ a → TakesNumber a.work → LeadsOpened (λ client. WorksFor client a.work) (MayHaveOpened a.work) b.work
same_session a b e takes = subst (λ (z : Acting). LeadsOpened (λ client. WorksFor client a.work) (MayHaveOpened a.work) z.work) (sym e) (λ head h. h, takes, λ client h. h)

from_idle : (home : Home) (a : Acting) (w : Work) → a.work ≡ work.Idle home → LeadsHome home w → LeadsOpened (λ client. WorksFor client a.work) (MayHaveOpened a.work) w
from_idle home a w e h = subst (λ x. LeadsOpened (λ client. WorksFor client x) (MayHaveOpened x) w) (sym e) h

to_work : (home : Home) (b w : Work) → b ≡ w → LeadsHome home w → LeadsHome home b
to_work home b w e h = subst (LeadsHome home) (sym e) h

-- an operation of an open client
with_home : (Effect : Home → Acting → Begun → Type 0) (a b : Acting) (result : Result Begun Refused) → ((home : Home) (begun : Begun) → Effect home b begun → LeadsHome home b.work)
    → BeginsWith Effect a b result → TakesNumber a.work → LeadsOpened (λ client. WorksFor client a.work) (MayHaveOpened a.work) b.work
with_home Effect a b (Ok begun) leads begins takes = from_idle begins.0 a b.work begins.1 (leads begins.0 begun begins.2)
with_home Effect a b (Err (refused.Rule rule)) leads begins takes = same_session a b begins.1 takes
with_home Effect a b (Err refused.Memory) leads begins takes = absurd begins

in_hand : (own : Home → Work) (a b : Acting) (home : Home) (begun : Begun) → LeadsHome home (own home) → HasInHand a (own home) b begun → LeadsHome home b.work
in_hand own a b home begun so has = subst (λ (z : Acting). LeadsHome home z.work) (sym has.1) so

-- one that is in hand then
hands : (own : Home → Work) (a b : Acting) (result : Result Begun Refused) → ((home : Home) → LeadsHome home (own home)) → BeginsWith (λ home. HasInHand a (own home)) a b result
    → TakesNumber a.work → LeadsOpened (λ client. WorksFor client a.work) (MayHaveOpened a.work) b.work
hands own a b result so begins takes = with_home (λ home. HasInHand a (own home)) a b result (λ home begun. in_hand own a b home begun (so home)) begins takes

commits_so : (home : Home) (buffer : List Noted) (c d : Cache) (w : Work) (begun : Begun) → CommitsOf home buffer c d w begun → LeadsHome home w
commits_so home buffer c d w Working commits =
    let go : RunsFrom home.head.epoch (home.attempt + 1) (Goes (commits.0, d)) = subst (RunsFrom home.head.epoch (home.attempt + 1)) commits.1 (run_begins_from home buffer c) in
    let own : RunsFor IsRefusal buffer home.client (Goes (commits.0, d)) = subst (RunsFor IsRefusal buffer home.client) commits.1 (run_begins home buffer c) in
    let from = go.1 in
    to_work home w (work.Committing commits.0) commits.2 (λ head h. (h.0 ∙ sym go.0, omega (arith, h.1, from)), go.2, λ client h. sym own.1 ∙ h)
commits_so home buffer c d w (Answered (answer.Commit a)) commits =
    let end : RunsFrom home.head.epoch (home.attempt + 1) (Ends (commits.0, d) a) = subst (RunsFrom home.head.epoch (home.attempt + 1)) commits.1 (run_begins_from home buffer c) in
    let own : RunsFor IsRefusal buffer home.client (Ends (commits.0, d) a) = subst (RunsFor IsRefusal buffer home.client) commits.1 (run_begins home buffer c) in
    let from = end.1 in
    to_work home w (work.Idle (home_of commits.0)) commits.2 (λ head h. (h.0 ∙ sym end.0, omega (arith, h.1, from)), tt, λ client h. sym own.0 ∙ h)
commits_so home buffer c d w (Answered (answer.Trouble t)) commits = to_work home w (work.Broken home.lease) commits.1 (λ head h. tt, tt, λ client h. absurd h)
commits_so home buffer c d w (Answered a) commits = absurd commits

commits_noted : (home : Home) (buffer : List Noted) (c d : Cache) (w : Work) (begun : Begun) → CommitsNoted home buffer c d w begun → LeadsHome home w
commits_noted home buffer c d w begun (inl nothing) = to_work home w (work.Idle home) nothing.work_is (λ head h. h, tt, λ client h. h)
commits_noted home buffer c d w begun (inr some) = commits_so home buffer c d w begun some.1

reads_so : (home : Home) (tree : ℕ) (key : List ℕ) (c d : Cache) (w : Work) (shown : Shown) (begun : Begun) → ReadsOf home (new_walk tree (Some key) false, c) (w, d) shown begun → LeadsHome home w
reads_so home tree key c d w shown Working reads = to_work home w (work.Reading home reads.0) reads.2 (λ head h. h, tt, λ client h. h)
reads_so home tree key c d w shown (Answered answer.Value) reads = to_work home w (work.Idle home) reads.3 (λ head h. h, tt, λ client h. h)
reads_so home tree key c d w shown (Answered (answer.Trouble t)) reads = to_work home w (stopped_work t home) reads.2 (stopped_leads t home)
reads_so home tree key c d w shown (Answered a) reads = absurd reads

looks_so : (home : Home) (q : Query) (c d : Cache) (w : Work) (shown : Shown) (begun : Begun) → LooksOf home q c (w, d) shown begun → LeadsHome home w
looks_so home q c d w shown Working (m, ready, is, none) = to_work home w (work.Looking home m) is (λ head h. h, tt, λ client h. h)
looks_so home q c d w shown (Answered (answer.Trouble t)) (stopped, is, none) = to_work home w (stopped_work t home) is (stopped_leads t home)
looks_so home q c d w shown (Answered a) never = absurd never

-- what works for the same client as before may have opened no less, and puts no head but of the number that it took
abbrev OpensNoMore : Acting → Acting → Type 0
OpensNoMore a b = LeadsOpened (λ client. WorksFor client a.work) (MayHaveOpened a.work) b.work

-- an operation that opens no client
abbrev OpensNoClient : Op → Type 0
OpensNoClient (op.Open client) = ⊥
OpensNoClient o = Unit {0}

look_so : (tree : ℕ) (attr : List ℕ) (a b : Acting) (result : Result Begun Refused) → Begins (op.Lookup tree attr) a b result → TakesNumber a.work → OpensNoMore a b
look_so tree attr a b result begins takes = on (indexed_or tree (LooksIn tree attr a) a b result begins)
  where
    on : (b ≡ a) ⊎ ((tree ≤ 8) × BeginsWith (LooksIn tree attr a) a b result) → OpensNoMore a b
    on (inl same) = same_session a b same takes
    on (inr (few, begun)) =
        with_home (LooksIn tree attr a) a b result
        (λ home done looks. looks_so home (record { tree = tree; attr = attr }) a.cache b.cache b.work b.shown done looks.1) begun takes

begins_so : (o : Op) (a b : Acting) (result : Result Begun Refused) → OpensNoClient o → Begins o a b result → TakesNumber a.work → OpensNoMore a b
begins_so (op.Open client) a b result within begins takes = absurd within
begins_so op.Close a b result within begins takes = hands (λ (h : Home). work.Closing h.lease) a b result (λ home. (λ head h. tt, tt, λ client h. absurd h)) begins takes
begins_so op.Renew a b result within begins takes = hands (λ (h : Home). work.Renewing h) a b result (λ home. (λ head h. h, tt, λ client h. h)) begins takes
begins_so op.Commit a b result within begins takes =
    with_home (CommitsIn a) a b result (λ home begun commits. commits_noted home a.buffer a.cache b.cache b.work begun commits.1) begins takes
begins_so (op.Read tree key) a b result within begins takes =
    with_home (ReadsIn tree key a) a b result (λ home begun reads. reads_so home tree key a.cache b.cache b.work b.shown begun reads.1) begins takes
begins_so (op.Scan tree low high) a b result within begins takes =
    with_home (ScansIn (new_scan tree low high) a) a b result
    (λ home begun scans. scan_leads home a.buffer (record { scan = scans.1.scan; pairs = [] }) b.cache scans.1.moved b.work b.shown scans.1.turn scans.1.follows) begins takes
begins_so (op.Lookup tree attr) a b result within begins takes = look_so tree attr a b result begins takes
begins_so (op.Page tree page) a b result within begins takes = hands (paging_begun_by tree page) a b result (λ home. (λ head h. h, tt, λ client h. h)) begins takes
begins_so (op.Tree tree) a b result within begins takes = hands (folding_begun_by tree) a b result (λ home. (λ head h. h, tt, λ client h. h)) begins takes

-- a change is noted, or all are dropped
notes_so : (noting : Noting) (a b : Acting) (noted : Result (Unit {0}) Refused) → NotesIn noting a b noted → TakesNumber a.work → OpensNoMore a b
notes_so noting a b (Ok done) h takes = subst (λ (z : Acting). OpensNoMore a z) (sym h.0) (λ head k. k, takes, λ client k. k)
notes_so noting a b (Err why) h takes = same_session a b h.0 takes

aborts_so : (a b : Acting) (dropped : Result (Unit {0}) Refused) → AbortsIn a b dropped → TakesNumber a.work → OpensNoMore a b
aborts_so a b (Ok done) h takes = subst (λ (z : Acting). OpensNoMore a z) (sym h.0) (λ head k. k, takes, λ client k. k)
aborts_so a b (Err why) h takes = same_session a b h.0 takes

-- an opening is never answered at its begin, and each reply to its begin is told
untold_opening : (client : ℕ) (why : WorldFault) (a left : Acting) (begun : Result Begun Refused) → BeginsOpening client a left begun → RepliesBegun begun left (Err why) → ⊥
untold_opening client why a left (Ok Working) begins replies = absurd (cc (replies))
untold_opening client why a left (Ok (Answered x)) begins replies = begins
untold_opening client why a left (Err (refused.Rule rule)) begins replies = absurd (cc (replies))
untold_opening client why a left (Err refused.Memory) begins replies = begins

opening_begins : (client : ℕ) (r : Result Reply WorldFault) (a b : Acting) → BeginsOp (op.Open client) r a b → (begun : Result Begun Refused) × BeginsOpening client a b begun
opening_begins client (Ok reply) a b p = (p.begun, p.begins)
opening_begins client (Err why) a b p = absurd (untold_opening client why a p.left p.begun p.begins p.replies)

-- ---- a session that is broken off works for no client, whatever it worked on before

broken_from : (a left b : Acting) → b ≡ broken_off left → OpensNoMore a b
broken_from a left b e = broken_away left.work b.work _ _ (ap (λ (z : Acting). z.work) e)

broken_leads : (a b : Acting) → b ≡ broken_off a → OpensNoMore a b
broken_leads a b e = broken_from a a b e

-- ---- what is no call

module _ (events : List Event) (first : CloudState) where
  abbrev Was : ℕ → Type 0
  Was = IsOpenedIn events

  seen_stays : (f : Sessions) (before after : Seen) → ((x : CloudState) → before.state ≡ Some x → after.state ≡ Some x) → AddsApart Was first f before → AddsApart Was first f after
  seen_stays f before after stays h = apart_rows Was first f before after h h.rows.state (stays h.rows.state h.rows.told) refl refl

  wished : (f : Sessions) (wish : Wish) (before after : Seen) → SetsWish wish before after → AddsApart Was first f before → AddsApart Was first f after
  wished f wish before after sets h = apart_rows Was first f before after h (record h.rows.state { wish = wish }) (sets.set h.rows.state h.rows.told) refl refl

  -- a line that changes neither the world nor the cloud
  nothing_done : (before after : Seen) (old new : World) → new ≡ old → after ≡ before → WorldApart events first old before → WorldApart events first new after
  nothing_done before after old new same seen h = subst (λ z. WorldApart events first z after) (sym same) (subst (WorldApart events first old) (sym seen) h)

  -- a session changes without a call
  changes : (k : ℕ) (seen : Seen) (old new : World) (Does : Acting → Acting → Type 0) → (c : Changes k Does old.sessions new.sessions)
      → (TakesNumber c.before.work → OpensNoMore c.before c.after) → WorldApart events first old seen → WorldApart events first new seen
  changes k seen old new Does c leads h =
      let was : session_at old.sessions k ≡ c.before = changed_was k Does old.sessions new.sessions c in
      let so : OpensNoMore c.before c.after = leads (subst (λ (a : Acting). TakesNumber a.work) was (h.takes k)) in
      apart_same Was first _ (session_at new.sessions) seen (changed_at k Does old.sessions new.sessions c)
      (apart_changes Was (session_at old.sessions) k c.after first seen (subst (λ (a : Acting). OpensNoMore a c.after) (sym was) so) h)

  quietly : (k : ℕ) (before after : Seen) (old new : World) (Does : Acting → Acting → Type 0) → after ≡ before → (c : Changes k Does old.sessions new.sessions)
      → (TakesNumber c.before.work → OpensNoMore c.before c.after) → WorldApart events first old before → WorldApart events first new after
  quietly k before after old new Does same c leads h = subst (WorldApart events first new) (sym same) (changes k before old new Does c leads h)

  -- it is closed
  closes : (k : ℕ) (seen : Seen) (old new : World) → Has k closed_session old new → WorldApart events first old seen → WorldApart events first new seen
  closes k seen old new has h = changes k seen old new _ has.session_is (λ takes. closed_leads _ _ _ (ap (λ (a : Acting). a.work) has.session_is.does)) h

  -- it is broken off
  breaks : (k : ℕ) (seen : Seen) (old new : World) → BreaksOff k old new → WorldApart events first old seen → WorldApart events first new seen
  breaks k seen old new off h = changes k seen old new _ off.session (λ takes. broken_leads off.session.before off.session.after off.session.does) h

  -- ---- a step

  module _ (lines : List Line) (n : ℕ) (at : length lines + 1 ≡ n) (k : ℕ) where
    abbrev who : Caller
    who = record { session = k; event = n }

    -- its call under a wish, between two looks
    called : (wish : Wish) (before from under to after : Seen) (old new : World) (turn : Turn Answer) → IsAdding lines first old before → Looked before from
        → SetsWish wish from under → Changes k (λ a b. StepsSession who under to a b (Ok turn)) old.sessions new.sessions → Looked to after → WorldApart events first old before
        → WorldApart events first new after
    called wish before from under to after old new turn way look_before wishes session look_after h =
        let f : Sessions = session_at old.sessions in
        let own : StepsSession who under to (f k) session.after (Ok turn) =
        subst (λ a. StepsSession who under to a session.after (Ok turn)) (sym (changed_was k _ old.sessions new.sessions session)) session.does in
        apart_same Was first _ (session_at new.sessions) after (changed_at k _ old.sessions new.sessions session)
        (seen_stays _ to after look_after.stays
        (session_apart Was lines who under to first f session.after turn (sym at) (way.acts k).work own.work
        (wished f wish from under wishes (seen_stays f before from look_before.stays h))))

    stepped : (wish : Wish) (before after : Seen) (old new : World) (turn : Turn Answer) → IsAdding lines first old before → StepsLooked who wish (span_of before after old new) turn
        → WorldApart events first old before → WorldApart events first new after
    stepped wish before after old new turn way p h = called wish before p.from p.under p.to after old new turn way p.look_before p.wishes p.session p.look_after h

    went_on : (before : Seen) (old : World) (after : Seen) (new : World) → IsAdding lines first old before → Went who before old after new → WorldApart events first old before
        → WorldApart events first new after
    went_on before old after new way start h = h
    went_on before old after new way (further mid _ world _ went step) h =
        stepped Plain mid after world new More (went_adding lines first who before old mid world (sym at) way went) step (went_on before old mid world way went h)

    -- memory ran out beside its call
    ran_short : (wish : Wish) (before after : Seen) (old new : World) → IsAdding lines first old before → RunsShort who wish (span_of before after old new) → WorldApart events first old before
        → WorldApart events first new after
    ran_short wish before after old new way s h = breaks k after s.left new s.breaks (falls s.falls)
      where
        falls : FallsShort who wish (span_of before after old s.left) → WorldApart events first s.left after
        falls (inl un) =
            apart_same Was first _ (session_at s.left.sessions) after (λ j. ap (λ (l : List Acting). session_at l j) un.sessions) (seen_stays _ before after un.looked.stays h)
        falls (inr p) = called wish before p.from p.under p.to after old s.left p.turn way p.look_before p.wishes p.session p.look_after h

    made_once : (wish : Wish) (before after : Seen) (old new : World) (result : Result Reply WorldFault) → IsAdding lines first old before → StepsTo (record { session = k; event = n }) wish (span_of before after old new) result
        → WorldApart events first old before → WorldApart events first new after
    made_once wish before after old new (Ok reply) way step h = stepped wish before after old new step.turn way step.steps h
    made_once wish before after old new (Err why) way step h = breaks k after step.left new step.breaks (stepped wish before after old step.left step.turn way step.steps h)

    steps_once : (wish : Wish) (before after : Seen) (old new : World) (result : Result Reply WorldFault) → IsAdding lines first old before → MakesStep (record { session = k; event = n }) wish (span_of before after old new) result
        → WorldApart events first old before → WorldApart events first new after
    steps_once wish before after old new result way (inl refuses) h = nothing_done before after old new refuses.declines.world refuses.declines.seen h
    steps_once wish before after old new result way (inr (inl step)) h = made_once wish before after old new result way step h
    steps_once wish before after old new result way (inr (inr memory)) h = ran_short wish before after old new way memory.1 h

    stopped_short : (before after : Seen) (old new : World) → IsAdding lines first old before → StopsShort who (span_of before after old new) → WorldApart events first old before
        → WorldApart events first new after
    stopped_short before after old new way s h =
        ran_short Plain s.mid after s.world new (went_adding lines first who before old s.mid s.world (sym at) way s.went) s.short (went_on before old s.mid s.world way s.went h)

    came_once : (before after : Seen) (old left : World) (answer : Answer) → IsAdding lines first old before → ComesTo who (span_of before after old left) answer
        → WorldApart events first old before → WorldApart events first left after
    came_once before after old left answer way c h =
        stepped Plain c.mid after c.world left _ (went_adding lines first who before old c.mid c.world (sym at) way c.went) c.steps (went_on before old c.mid c.world way c.went h)

    ran_once : (before after : Seen) (old new : World) (result : Result Reply WorldFault) → IsAdding lines first old before → RunsTo (record { session = k; event = n }) (span_of before after old new) result
        → WorldApart events first old before → WorldApart events first new after
    ran_once before after old new (Ok reply) way run h = came_once before after old new run.answer way run.comes h
    ran_once before after old new (Err why) way run h = breaks k after run.left new run.breaks (came_once before after old run.left run.answer way run.comes h)

    runs_once : (before after : Seen) (old new : World) (result : Result Reply WorldFault) → IsAdding lines first old before → Runs (record { session = k; event = n }) (span_of before after old new) result
        → WorldApart events first old before → WorldApart events first new after
    runs_once before after old new result way (inl refuses) h = nothing_done before after old new refuses.declines.world refuses.declines.seen h
    runs_once before after old new result way (inr (inl run)) h = ran_once before after old new result way run h
    runs_once before after old new result way (inr (inr memory)) h = stopped_short before after old new way memory.1 h

    -- ---- a session that dies

    dies : (before after : Seen) (old new : World) (result : Result Reply WorldFault) → Dies k (span_of before after old new) result → WorldApart events first old before
        → WorldApart events first new after
    dies before after old new result d h =
        quietly k before after old new _ d.quiet.seen d.closed (λ takes. closed_leads _ _ _ (ap (λ (a : Acting). a.work) d.closed.does)) h

    dies_done : (before after : Seen) (old new : World) (result : Result Reply WorldFault) → IsAdding lines first old before → CrashesDone who (span_of before after old new) result
        → WorldApart events first old before → WorldApart events first new after
    dies_done before after old new result way (inl d) h = closes k after d.world new d.closes (stepped Plain before after old d.world d.turn way d.steps h)
    dies_done before after old new result way (inr memory) h = ran_short Plain before after old new way memory.1 h

    crashes_once : (done : Bool) (before after : Seen) (old new : World) (result : Result Reply WorldFault) → IsAdding lines first old before → Crashes (record { session = k; event = n }) done (span_of before after old new) result
        → WorldApart events first old before → WorldApart events first new after
    crashes_once false before after old new result way d h = dies before after old new result d h
    crashes_once true before after old new result way (inl idle) h = dies before after old new result idle.dies h
    crashes_once true before after old new result way (inr d) h = dies_done before after old new result way d h

  -- ---- a session's work

  module _ (n k : ℕ) (home : Home) (others : Sessions) where
    worker_called : (before from under to after : Seen) (old new : World) (turn : Turn Answer) → IsInside k home others old → Looked before from → SetsWish Plain from under
        → Changes k (λ a b. StepsSession (worker k n) under to a b (Ok turn)) old.sessions new.sessions → Looked to after → WorldApart events first old before
        → WorldApart events first new after
    worker_called before from under to after old new turn w look_before wishes session look_after h =
        let f : Sessions = session_at old.sessions in
        let own : StepsSession (worker k n) under to (f k) session.after (Ok turn) =
        subst (λ a. StepsSession (worker k n) under to a session.after (Ok turn)) (sym (changed_was k _ old.sessions new.sessions session)) session.does in
        apart_same Was first _ (session_at new.sessions) after (changed_at k _ old.sessions new.sessions session)
        (seen_stays _ to after look_after.stays
        (worker_apart Was (worker k n) home under to first f session.after turn w.works own.work
        (wished f Plain from under wishes (seen_stays f before from look_before.stays h))))

    worker_stepped : (before after : Seen) (old new : World) (turn : Turn Answer) → IsInside k home others old → StepsLooked (worker k n) Plain (span_of before after old new) turn
        → WorldApart events first old before → WorldApart events first new after
    worker_stepped before after old new turn w p h = worker_called before p.from p.under p.to after old new turn w p.look_before p.wishes p.session p.look_after h

    worker_on : (before : Seen) (old : World) (after : Seen) (new : World) → IsInside k home others old → Went (worker k n) before old after new → WorldApart events first old before
        → WorldApart events first new after
    worker_on before old after new w start h = h
    worker_on before old after new w (further mid _ world _ went p) h =
        worker_stepped mid after world new More (within_went (worker k n) home others before old mid world w went) p (worker_on before old mid world w went h)

    within_op : (queue : QueueName) → IsPending queue → OpensNoClient (checkpoint_of queue)
    within_op (TreePu tree) pending = tt
    within_op (PagePu tree page) pending = tt
    within_op (Atomic client) pending = absurd pending

    worker_begun : (queue : QueueName) (seen : Seen) (old begun : World) → BeginsCheckpoint k queue old begun → WorldApart events first old seen → WorldApart events first begun seen
    worker_begun queue seen old begun b h =
        changes k seen old begun _ b.session
        (begins_so (checkpoint_of queue) b.session.before b.session.after (Ok Working) (within_op queue b.pending) b.session.does) h

    works_once : (before : Seen) (old : World) (queues : List QueueName) (done passed : ℕ) (after : Seen) (new : World) → IsBetween k home others old
        → Works (worker k n) before old (gone_through queues done passed) after new → WorldApart events first old before → WorldApart events first new after
    works_once before old queues done passed after new w no_checkpoint h = h
    works_once before old queues done passed after new w (checkpoint_more earlier kept left mid world queue a _ _ works makes passes) h =
        let was = within_works (worker k n) home others before old earlier kept left mid world w works in
        let begun = within_begun k home others queue world makes.begun was makes.begins in
        let c = makes.comes in
        worker_stepped c.mid after c.world new (Ended a) (within_went (worker k n) home others mid makes.begun c.mid c.world begun c.went) c.steps
        (worker_on mid makes.begun c.mid c.world begun c.went (worker_begun queue mid world makes.begun makes.begins (works_once before old earlier kept left mid world w works h)))

    -- memory ran out
    worker_short : (before after : Seen) (old new : World) → IsInside k home others old → RunsShort (worker k n) Plain (span_of before after old new) → WorldApart events first old before
        → WorldApart events first new after
    worker_short before after old new w s h = breaks k after s.left new s.breaks (falls s.falls)
      where
        falls : FallsShort (worker k n) Plain (span_of before after old s.left) → WorldApart events first s.left after
        falls (inl un) =
            apart_same Was first _ (session_at s.left.sessions) after (λ j. ap (λ (l : List Acting). session_at l j) un.sessions) (seen_stays _ before after un.looked.stays h)
        falls (inr p) = worker_called before p.from p.under p.to after old s.left p.turn w p.look_before p.wishes p.session p.look_after h

    works_fail : (before after : Seen) (begun new : World) → IsInside k home others begun → CheckpointFails (worker k n) (span_of before after begun new) → WorldApart events first begun before
        → WorldApart events first new after
    works_fail before after begun new w (inl s) h =
        worker_short s.mid after s.world new (within_went (worker k n) home others before begun s.mid s.world w s.went) s.short (worker_on before begun s.mid s.world w s.went h)
    works_fail before after begun new w (inr (left, c, off)) h =
        breaks k after left new off
        (worker_stepped c.mid after c.world left _ (within_went (worker k n) home others before begun c.mid c.world w c.went) c.steps (worker_on before begun c.mid c.world w c.went h))

    works_fall : (before after : Seen) (old new : World) → IsBetween k home others old → KnowsNoDue k (span_of before after old new) ⊎ FailsAt (worker k n) (span_of before after old new)
        → WorldApart events first old before → WorldApart events first new after
    works_fall before after old new w (inl none) h = subst (WorldApart events first new) (sym none.seen) (breaks k before old new none.breaks h)
    works_fall before after old new w (inr fails) h =
        works_fail before after fails.begun new (within_begun k home others fails.queue old fails.begun w fails.begins) fails.fails (worker_begun fails.queue before old fails.begun fails.begins h)

  -- ---- the settler

  module _ (errand : Errand) (lines : List Line) (n : ℕ) (at : length lines + 1 ≡ n) (others : Sessions) (closed : (standing lines 0).posture ≡ Closed) where
    abbrev line : Line
    line = line_of (event_for errand) reply.Called

    abbrev all : List Line
    all = lines ++ line ∷ []

    row : AreRowsOf errand all (settler n)
    row = errand_row errand lines reply.Called (settler n) refl (sym at)

    settler_called : (before from under to after : Seen) (old new : World) (turn : Turn Answer) → SettlerAdds errand n (outset all first others) old before → Looked before from
        → SetsWish Plain from under → Changes 0 (λ a b. StepsSession (settler n) under to a b (Ok turn)) old.sessions new.sessions → Looked to after
        → WorldApart events first old before → WorldApart events first new after
    settler_called before from under to after old new turn way look_before wishes session look_after h =
        let f : Sessions = session_at old.sessions in
        let own : StepsSession (settler n) under to (f 0) session.after (Ok turn) =
        subst (λ a. StepsSession (settler n) under to a session.after (Ok turn)) (sym (changed_was 0 _ old.sessions new.sessions session)) session.does in
        apart_same Was first _ (session_at new.sessions) after (changed_at 0 _ old.sessions new.sessions session)
        (seen_stays _ to after look_after.stays
        (errand_apart errand Was lines line (settler n) under to first f session.after turn (sym at) way.works row closed own.work
        (wished f Plain from under wishes (seen_stays f before from look_before.stays h))))

    settler_on : (before : Seen) (old : World) (after : Seen) (new : World) → SettlerAdds errand n (outset all first others) old before → Went (settler n) before old after new
        → WorldApart events first old before → WorldApart events first new after
    settler_on before old after new way start h = h
    settler_on before old after new way (further mid _ world _ went p) h =
        settler_called mid p.from p.under p.to after world new More (settler_went errand n all first others row before old mid world way went) p.look_before p.wishes p.session p.look_after
        (settler_on before old mid world way went h)

    settler_short : (before after : Seen) (old new : World) → SettlerAdds errand n (outset all first others) old before → RunsShort (settler n) Plain (span_of before after old new)
        → WorldApart events first old before → WorldApart events first new after
    settler_short before after old new way s h = breaks 0 after s.left new s.breaks (falls s.falls)
      where
        falls : FallsShort (settler n) Plain (span_of before after old s.left) → WorldApart events first s.left after
        falls (inl un) =
            apart_same Was first _ (session_at s.left.sessions) after (λ j. ap (λ (l : List Acting). session_at l j) un.sessions) (seen_stays _ before after un.looked.stays h)
        falls (inr p) = settler_called before p.from p.under p.to after old s.left p.turn way p.look_before p.wishes p.session p.look_after h

    settles_on : (before after : Seen) (old new : World) (result : Result Reply WorldFault) → SettlerAdds errand n (outset all first others) old before → SettlesOn errand (settler n) (span_of before after old new) result
        → WorldApart events first old before → WorldApart events first new after
    settles_on before after old new result way (inl s) h =
        let c = s.comes in
        let p = c.steps in
        closes 0 after s.left new s.closes
        (settler_called c.mid p.from p.under p.to after c.world s.left _ (settler_went errand n all first others row before old c.mid c.world way c.went) p.look_before p.wishes p.session p.look_after
        (settler_on before old c.mid c.world way c.went h))
    settles_on before after old new result way (inr memory) h =
        let s = memory.1.stops in
        closes 0 after memory.1.left new memory.1.closes
        (settler_short s.mid after s.world memory.1.left (settler_went errand n all first others row before old s.mid s.world way s.went) s.short (settler_on before old s.mid s.world way s.went h))

-- ---- every line

module _ (events : List Event) (first : CloudState) (n : ℕ) (before after : Seen) (old new : World) (result : Result Reply WorldFault) (lines : List Line)
    (at : length lines + 1 ≡ n) (w : WorldAdds lines first old before) (h : WorldApart events first old before) where
  abbrev Apart : Type 0
  Apart = WorldApart events first new after

  way : IsAdding lines first old before
  way = adding_begins lines first old before w

  settles_so : (errand : Errand) → Settles errand n (span_of before after old new) result → Apart
  settles_so errand (inl s) =
      settles_on events first errand lines n at (session_at old.sessions) closed before after s.begun new result (begun_way errand lines first n reply.Called before old s.begun at w s.begins) s.settles
      (changes events first 0 before old s.begun _ s.begins.session_is (λ takes. away errand _ _ _ (ap (λ (a : Acting). a.work) s.begins.session_is.does)) h)
    where
      away : (errand : Errand) (For : ℕ → Type 0) (Was : Head → Type 0) (w : Work) → w ≡ (session_for errand).work → LeadsOpened For Was w
      away settles For Was w is = away_leads _ _ _ w is (λ head. tt) tt (λ client k. k)
      away (sweeps tree) For Was w is = away_leads _ _ _ w is (λ head. tt) tt (λ client k. k)

      closed : (standing lines 0).posture ≡ Closed
      closed = (subst (λ (a : Acting). ActsAs a (standing lines 0)) w.rests (w.acts 0)).work
  settles_so errand (inr memory) = nothing_done events first before after old new memory.1.world memory.1.seen h

  begun_within : (o : Op) (r : Result Reply WorldFault) (a b : Acting) → OpensNoClient o → BeginsOp o r a b → TakesNumber a.work → OpensNoMore a b
  begun_within o (Ok reply) a b within begins takes = begins_so o a b begins.begun within begins.begins takes
  begun_within o (Err why) a b within begins takes = broken_from a begins.left b begins.breaks

  does_within : (k : ℕ) (o : Op) → OpensNoClient o → Does (record { session = k; event = n }) (Begin o) (span_of before after old new) result → Apart
  does_within k o within done = quietly events first k before after old new _ done.0.seen done.1 (begun_within o result done.1.before done.1.after within done.1.does) h

  policy_so : (k : ℕ) (role : Role) (kept : ℕ) → Policies k role kept (span_of before after old new) result → Apart
  policy_so k role kept (inl refuses) = nothing_done events first before after old new refuses.declines.world refuses.declines.seen h
  policy_so k role kept (inr (inl refuses)) = nothing_done events first before after old new refuses.1.declines.world refuses.1.declines.seen h
  policy_so k role kept (inr (inr gives)) =
      subst (WorldApart events first new) (sym gives.quiet.seen)
      (apart_same (IsOpenedIn events) first _ (session_at new.sessions) before (λ j. ap (λ (l : List Acting). session_at l j) gives.sessions) h)

  works_so : (k : ℕ) → WorksThrough (record { session = k; event = n }) (span_of before after old new) result → Apart
  works_so k (inl refuses) = nothing_done events first before after old new refuses.declines.world refuses.declines.seen h
  works_so k (inr (inl down)) =
      let rest = open_rests k old down.opened in
      works_once events first n k rest.0 (session_at old.sessions) before old down.queues down.done down.passed after new rest.2 down.works h
  works_so k (inr (inr memory)) =
      let s = memory.1 in
      let rest = open_rests k old s.opened in
      works_fall events first n k rest.0 (session_at old.sessions) s.mid after s.world new
      (within_works (worker k n) rest.0 (session_at old.sessions) before old s.queues s.done s.passed s.mid s.world rest.2 s.works) s.falls
      (works_once events first n k rest.0 (session_at old.sessions) before old s.queues s.done s.passed s.mid s.world rest.2 s.works h)

  waits_so : (ticks : ℕ) → Answers n (Wait ticks) (span_of before after old new) result → Apart
  waits_so ticks (inl k) =
      let waited = k.0.waited h.rows.state h.rows.told in
      subst (λ z. WorldApart events first z after) (sym k.1)
      (apart_rows _ first _ before after h waited.after waited.told (ap (λ (z : CloudState). z.versions) waited.rest) (ap (λ (z : CloudState). z.trace) waited.rest))
  waits_so ticks (inr long) = nothing_done events first before after old new long.declines.world long.declines.seen h

  -- ---- a client is opened

  module _ (e : Event) (once : OpenEachOnce (events ++ e ∷ [])) where
    abbrev Then : Type 0
    Then = WorldApart (events ++ e ∷ []) first new after

    with_more : Apart → Then
    with_more k = apart_more _ _ first _ after (λ client. opened_more events e client) k

    begins_one : (k client : ℕ) → AsksToOpen e client → after ≡ before → (c : Changes k (λ a b. (begun : Result Begun Refused) × BeginsOpening client a b begun) old.sessions new.sessions) → Then
    begins_one k client opens same c = on c.does.0 c.does.1
      where
        f : Sessions
        f = session_at old.sessions

        on : (begun : Result Begun Refused) → BeginsOpening client c.before c.after begun → Then
        on (Ok Working) begins =
            subst (WorldApart (events ++ e ∷ []) first new) (sym same)
            (apart_same _ first _ (session_at new.sessions) before (changed_at k _ old.sessions new.sessions c)
            (apart_more _ _ first _ before known
            (opening_apart (IsOpenedIn events) f k c.after client (old_lease c.before.work) (ap (λ (a : Acting). a.work) begins.1) (opened_new events e client once opens) first before h)))
          where
            known : (other : ℕ) → IsOpenedIn events other ⊎ (other ≡ client) → IsOpenedIn (events ++ e ∷ []) other
            known other (inl k) = opened_more events e other k
            known other (inr is) = subst (IsOpenedIn (events ++ e ∷ [])) (sym is) (opened_last events e client opens)
        on (Ok (Answered a)) begins = absurd begins
        on (Err (refused.Rule rule)) begins = with_more (quietly events first k before after old new _ same c (same_session c.before c.after begins.1) h)
        on (Err refused.Memory) begins = absurd begins

    opens_so : (k client : ℕ) → AsksToOpen e client → Does (record { session = k; event = n }) (Begin (op.Open client)) (span_of before after old new) result → Then
    opens_so k client opens done =
        let c = done.1 in
        let begins = opening_begins client result c.before c.after c.does in
        begins_one k client opens done.0.seen (record { before = c.before; after = c.after; there = c.there; does = begins; rest = c.rest })

    does_so : (k : ℕ) (request : Request) → ((client : ℕ) → request ≡ Begin (op.Open client) → AsksToOpen e client) → Does (record { session = k; event = n }) request (span_of before after old new) result → Then
    does_so k (Begin (op.Open client)) own done = opens_so k client (own client refl) done
    does_so k (Begin op.Close) own done = with_more (does_within k op.Close tt done)
    does_so k (Begin op.Renew) own done = with_more (does_within k op.Renew tt done)
    does_so k (Begin op.Commit) own done = with_more (does_within k op.Commit tt done)
    does_so k (Begin (op.Read tree key)) own done = with_more (does_within k (op.Read tree key) tt done)
    does_so k (Begin (op.Scan tree low high)) own done = with_more (does_within k (op.Scan tree low high) tt done)
    does_so k (Begin (op.Lookup tree attr)) own done = with_more (does_within k (op.Lookup tree attr) tt done)
    does_so k (Begin (op.Page tree page)) own done = with_more (does_within k (op.Page tree page) tt done)
    does_so k (Begin (op.Tree tree)) own done = with_more (does_within k (op.Tree tree) tt done)
    does_so k (Note noting) own done =
        with_more (quietly events first k before after old new _ done.0.seen done.1 (notes_so noting done.1.before done.1.after done.1.does.noted done.1.does.notes) h)
    does_so k Abort own done =
        with_more (quietly events first k before after old new _ done.0.seen done.1 (aborts_so done.1.before done.1.after done.1.does.dropped done.1.does.drops) h)
    does_so k (Policy role kept) own done = with_more (policy_so k role kept done)
    does_so k WorksDue own done = with_more (works_so k done)
    does_so k (Step wish) own done = with_more (steps_once events first lines n at k wish before after old new result way done h)
    does_so k Run own done = with_more (runs_once events first lines n at k before after old new result way done h)
    does_so k (Crash d) own done = with_more (crashes_once events first lines n at k d before after old new result way done h)

    asked_so : (asked : Asked) → Asks e asked → Answers n asked (span_of before after old new) result → Then
    asked_so (Session k (Ok request)) asks (inl p) =
        does_so k request (λ client is. begins_opening e k client (subst (λ q. Asks e (Session k (Ok q))) is asks)) p.1
    asked_so (Session k (Err why)) asks (inl p) = with_more (nothing_done events first before after old new p.1.world p.1.seen h)
    asked_so (Session k request) asks (inr none) = with_more (nothing_done events first before after old new none.declines.world none.declines.seen h)
    asked_so (Wait ticks) asks p = with_more (waits_so ticks p)
    asked_so (Report tree) asks p =
        with_more (subst (λ z. WorldApart events first z after) (sym p.world) (seen_stays events first _ before after p.looked.stays h))
    asked_so Settle asks p = with_more (settles_so settles p)
    asked_so (Sweep (Ok tree)) asks p = with_more (settles_so (sweeps tree) p.1)
    asked_so (Sweep (Err why)) asks p = with_more (nothing_done events first before after old new p.world p.seen h)

-- a line that was handled
pub handled_apart : (n : ℕ) (e : Event) (before after : Seen) (old new : World) (result : Result Reply WorldFault) (events : List Event) (lines : List Line) (first : CloudState)
    → length lines + 1 ≡ n → OpenEachOnce (events ++ e ∷ []) → Handled n e (span_of before after old new) result → WorldAdds lines first old before
    → WorldApart events first old before → WorldApart (events ++ e ∷ []) first new after
handled_apart n e before after old new result events lines first at once handled w h =
    asked_so events first n before after old new result lines at w h e once handled.asked handled.asks handled.answers

-- no two rows that were added open one transaction
pub none_twice : (events : List Event) (first : CloudState) (world : World) (seen : Seen) → WorldApart events first world seen → AddsNoneTwice first seen
none_twice events first world seen h = apart_none_twice _ first _ seen h
