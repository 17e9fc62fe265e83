-- What a call of a session leaves of all that holds.
use Rattle.std.proofs.Common.{◌≡◌, ◌≤◌, ◌+◌, ℕ, List, length, Some, Ok, refl, sym, ap, ◌∙◌, Bool, false, arith, Option, None}
use Rattle.std.specs.Prelude.{All}
use Rattle.cloud_facts.specs.Words.{Trouble, Answer as CallAnswer, Turn, More, Ended, Stopped, CloudState, called, newest, Caller, Seen, Ask, Renew, Release, at, store_of}
use Rattle.db_base.specs.declared.wish.Wish.{Wish}
use Rattle.cloud_facts.specs.Calls.Looks.{audit_of}
use Rattle.cloud_trait.specs.declared.state.Landing.{Landing}
use Rattle.cloud_trait.specs.Ask.{effect}
use Rattle.cloud_trait.specs.Weather.{counted, Makes, Leaves}
use Rattle.cloud_trait.proofs.EffectLemmas.{grown_itself}
use Rattle.cloud_trait.proofs.RowLemmas.{row_by, leaves_grown, leaves_upto}
use Rattle.cloud_trait.specs.Growth.{HasGrown}
use Rattle.history.specs.Audited.{Audited}
use Rattle.session_facts.specs.Rows.Asks.{MayAsk}
use Rattle.page_cache.specs.Cache.{Cache}
use Rattle.recover_run.specs.declared.home.Home.{Home}
use Rattle.recover_run.specs.Recovery.{recovery_ask}
use Rattle.commit_run.specs.Run.{run_ask}
use Rattle.tree_ckpt.specs.Making.{making_ask}
use Rattle.page_ckpt.specs.Paging.{paging_ask}
use Rattle.client_work.specs.declared.answer.Answer.{Answer}
use Rattle.client_work.specs.declared.answer.Answer.TheVariants as answer
use Rattle.client_work.specs.declared.listing.Listing.{Listing}
use Rattle.client_work.specs.declared.shown.Shown.{Shown}
use Rattle.client_work.specs.declared.work.Work.{Work}
use Rattle.client_work.specs.declared.work.Work.TheVariants.{Closed, Idle, Opening, Committing, Reading, Scanning, Looking, Paging, Folding, Closing, Renewing, Settling, Sweeping, Broken}
use Rattle.client_work.specs.Session.{Acting, Follows, StepsSession, StepsAt, ask_of_work, committing_of, acting_of}
use Rattle.txn_buffer.specs.Noted.{Noted}
use Rattle.replay_meaning.specs.Standing.{Line, standing}
use Rattle.replay_meaning.specs.Committed.{committed}
use Rattle.replay_meaning.specs.Kinds.{IsOfKind, OpensOnce}
use Rattle.cloud_facts.specs.Book.Records.{entries_of}
use Rattle.session_facts.specs.Sessions.Audited.{audited}
use Rattle.session_facts.specs.Sessions.HeadPuts.{IsSoundWork}
use Rattle.session_facts.specs.Sessions.Knows.{ground, Sessions, Goes}
use Rattle.session_facts.proofs.Sessions.Led.{sound_of}
use Rattle.session_facts.proofs.Sessions.Outcome.{session_keeps}
use Rattle.session_facts.proofs.Sessions.HeadPuts.{head_put}
use Rattle.session_facts.proofs.Sessions.Laws.{rest_keeps, decodes}
use Rattle.session_facts.specs.Lines.Facts.{AllLanded, IsOfCommit, IsPlaced, WorksAs, CloudHolds}
use Rattle.session_facts.specs.Sessions.Landed.{LandedFor}
use Rattle.session_facts.proofs.Lines.Landed.{landed_set, own_row}
use Rattle.session_facts.proofs.Sessions.Landed.{for_grows, landed_on}
use Rattle.session_facts.proofs.Rows.CallKinds.{HasCheckpoint, IsWorkersRow, checkpoint_asks, checkpoint_none, errand_none, errand_asks, call_kind, call_opens}
use Rattle.session_facts.specs.Lines.Errands.{Errand, WorksOn, AreRowsOf}
use Rattle.session_facts.proofs.Rows.Committed.{CommitsAs, stood_on, ask_commits, audited_commits}
use Rattle.session_facts.proofs.Lines.Committed.{placed_effect, placed_called}
use Rattle.session_facts.proofs.Rows.Once.{OpensUnopened, once_same, once_effect}
use Rattle.session_facts.proofs.Rows.Lines.{kinds_same, kinds_effect}
use Rattle.attr_index.specs.Look.{look_ask}
use Rattle.range_scan.specs.Scan.{scan_ask}
use Rattle.orphan_sweep.specs.Sweeping.{sweep_ask}
use Rattle.settle_run.specs.Settling.{settle_ask}
use Rattle.tree_walk.specs.Walk.{walk_ask}
use Rattle.session_facts.proofs.Reports.Order.{reported_more}

-- the call that a step of a session's work made
pub record MadeCall (who : Caller) (before after : Seen) (w : Work) : Type 0 where
  pub ask : Ask
  pub answer : CallAnswer
  pub hand : ask_of_work w ≡ Some ask
  pub made : Makes who ask answer before after

pub made_call : (who : Caller) (before after : Seen) (w new : Work) (turn : Turn Answer) → StepsAt who before after w new turn → MadeCall who before after w
made_call who before after (Opening m) new More p = record { ask = recovery_ask m; answer = p.1.1.answer; hand = refl; made = p.1.1.made }
made_call who before after (Opening m) new (Ended (answer.Opened epoch)) p = record { ask = recovery_ask m; answer = p.1.1.answer; hand = refl; made = p.1.1.made }
made_call who before after (Opening m) new (Ended (answer.Trouble k)) p = record { ask = recovery_ask m; answer = p.1.1.answer; hand = refl; made = p.1.1.made }
made_call who before after (Opening m) new turn p = absurd p.1
made_call who before after (Committing m) new More (sound, c, d, p) = record { ask = run_ask m; answer = p.1.answer; hand = refl; made = p.1.made }
made_call who before after (Committing m) new (Ended (answer.Commit a)) (sound, c, d, p) = record { ask = run_ask m; answer = p.1.answer; hand = refl; made = p.1.made }
made_call who before after (Committing m) new (Ended (answer.Trouble k)) (sound, c, d, p) = record { ask = run_ask m; answer = p.1.answer; hand = refl; made = p.1.made }
made_call who before after (Committing m) new turn (sound, c, d, p) = absurd p
made_call who before after (Reading home m) new More p = record { ask = walk_ask m; answer = p.1.answer; hand = refl; made = p.1.made }
made_call who before after (Reading home m) new (Ended answer.Value) p = record { ask = walk_ask m; answer = p.0.answer; hand = refl; made = p.0.made }
made_call who before after (Reading home m) new (Ended (answer.Trouble k)) p = record { ask = walk_ask m; answer = p.0.answer; hand = refl; made = p.0.made }
made_call who before after (Reading home m) new turn p = absurd p
made_call who before after (Scanning home m) new turn (buffer, c, d, shown, p) = record { ask = scan_ask m.scan; answer = p.steps.answer; hand = refl; made = p.steps.made }
made_call who before after (Looking home m) new More (buffer, c, d, shown, (n, steps, is, none, less)) =
    record { ask = look_ask m; answer = steps.walked.answer; hand = refl; made = steps.walked.made }
made_call who before after (Looking home m) new (Ended answer.Scan) (buffer, c, d, shown, (n, steps, is, some)) =
    record { ask = look_ask m; answer = steps.walked.answer; hand = refl; made = steps.walked.made }
made_call who before after (Looking home m) new (Ended (answer.Trouble k)) (buffer, c, d, shown, (n, steps, is, none)) =
    record { ask = look_ask m; answer = steps.walked.answer; hand = refl; made = steps.walked.made }
made_call who before after (Looking home m) new turn (buffer, c, d, shown, never) = absurd never
made_call who before after (Paging home m) new More p = record { ask = paging_ask m; answer = p.1.answer; hand = refl; made = p.1.made }
made_call who before after (Paging home m) new (Ended (answer.Done n)) p = record { ask = paging_ask m; answer = p.1.answer; hand = refl; made = p.1.made }
made_call who before after (Paging home m) new (Ended (answer.Trouble k)) p = record { ask = paging_ask m; answer = p.1.answer; hand = refl; made = p.1.made }
made_call who before after (Paging home m) new turn p = absurd p
made_call who before after (Folding home f) new More p = record { ask = making_ask f; answer = p.1.answer; hand = refl; made = p.1.made }
made_call who before after (Folding home f) new (Ended (answer.Done n)) p = record { ask = making_ask f; answer = p.1.answer; hand = refl; made = p.1.made }
made_call who before after (Folding home f) new (Ended (answer.Trouble k)) p = record { ask = making_ask f; answer = p.1.answer; hand = refl; made = p.1.made }
made_call who before after (Folding home f) new turn p = absurd p
made_call who before after (Closing lease) new (Ended answer.Closed) p = record { ask = Release lease; answer = p.0.answer; hand = refl; made = p.0.made }
made_call who before after (Closing lease) new (Ended (answer.Trouble k)) p = record { ask = Release lease; answer = p.0.answer; hand = refl; made = p.0.made }
made_call who before after (Closing lease) new turn p = absurd p
made_call who before after (Renewing home) new (Ended (answer.Renewed end)) p = record { ask = Renew home.lease 600; answer = p.1.answer; hand = refl; made = p.1.made }
made_call who before after (Renewing home) new (Ended (answer.Trouble k)) p = record { ask = Renew home.lease 600; answer = p.1.answer; hand = refl; made = p.1.made }
made_call who before after (Renewing home) new turn p = absurd p
made_call who before after (Settling m) new More p = record { ask = settle_ask m; answer = p.1.1.did.answer; hand = refl; made = p.1.1.did.made }
made_call who before after (Settling m) new (Ended (answer.Settled n)) p = record { ask = settle_ask m; answer = p.1.1.did.answer; hand = refl; made = p.1.1.did.made }
made_call who before after (Settling m) new (Ended (answer.Trouble k)) p = record { ask = settle_ask m; answer = p.1.1.did.answer; hand = refl; made = p.1.1.did.made }
made_call who before after (Settling m) new turn p = absurd p.1
made_call who before after (Sweeping m) new More p = record { ask = sweep_ask m; answer = p.1.did.answer; hand = refl; made = p.1.did.made }
made_call who before after (Sweeping m) new (Ended (answer.Swept x)) p = record { ask = sweep_ask m; answer = p.1.did.answer; hand = refl; made = p.1.did.made }
made_call who before after (Sweeping m) new (Ended (answer.Trouble k)) p = record { ask = sweep_ask m; answer = p.1.did.answer; hand = refl; made = p.1.did.made }
made_call who before after (Sweeping m) new turn p = absurd p
made_call who before after Closed new turn p = absurd p
made_call who before after (Idle home) new turn p = absurd p
made_call who before after (Broken lease) new turn p = absurd p

-- a step of a scan never stops
scan_goes_on : (home : Home) (buffer : List Noted) (m : Listing) (c : Cache) (moved : Turn ℕ) (new : Work) (shown : Shown) (t : Trouble) → Follows home m moved (acting_of buffer new c shown) (Stopped t) → ⊥
scan_goes_on home buffer m c More new shown t f = cc (f.2)
scan_goes_on home buffer m c (Ended page) new shown t f = f
scan_goes_on home buffer m c (Stopped k) new shown t f = cc (f.2)

-- a step never stops: a trouble is an answer
pub never_stops : (who : Caller) (before after : Seen) (w new : Work) (t : Trouble) → StepsAt who before after w new (Stopped t) → ⊥
never_stops who before after (Opening m) new t p = p.1
never_stops who before after (Committing m) new t (sound, c, d, p) = p
never_stops who before after (Reading home m) new t p = p
never_stops who before after (Scanning home m) new t (buffer, c, d, shown, p) = scan_goes_on home buffer (record { scan = p.scan; pairs = m.pairs }) d p.moved new shown t p.follows
never_stops who before after (Looking home m) new t (buffer, c, d, shown, never) = never
never_stops who before after (Paging home m) new t p = p
never_stops who before after (Folding home f) new t p = p
never_stops who before after (Closing lease) new t p = p
never_stops who before after (Renewing home) new t p = p
never_stops who before after (Settling m) new t p = p.1
never_stops who before after (Sweeping m) new t p = p
never_stops who before after Closed new t p = p
never_stops who before after (Idle home) new t p = p
never_stops who before after (Broken lease) new t p = p

-- what the audit took, and whether one of its looks failed
pub record Lookout : Type 0 where
  pub audit : Audited
  pub blind : Bool

abbrev pub lookout : Audited → Bool → Lookout
lookout audit blind = record { audit = audit; blind = blind }

-- what a look before and after a put tells the audit, where neither failed
pub record Sees (x : CloudState) (after : Seen) (w : Work) (old new : Lookout) : Type 0 where
  pub saw : new.blind ≡ false → old.blind ≡ false
  pub audit : new.blind ≡ false → (y : CloudState) → after.state ≡ Some y → new.audit ≡ audited (newest x) (newest y) w old.audit

-- what a call leaves, with the sessions behind it, up to event n
pub record CallLeavesUpto (n : ℕ) (lines : List Line) (after : Seen) (sessions : Sessions) (b : Audited) (blind : Bool) : Type 0 where
  pub state : CloudState
  pub told : after.state ≡ Some state
  pub holds : CloudHolds n lines sessions b blind state

-- and within the line behind these
abbrev pub CallLeaves : List Line → Seen → Sessions → Audited → Bool → Type 0
CallLeaves lines after sessions b blind = CallLeavesUpto (length lines + 1) lines after sessions b blind

-- the call in hand commits what the lines say, and its row is of a kind that they allow, and of the commit where that is at work
pub record IsByLines (lines : List Line) (who : Caller) (w : Work) (ask : Ask) : Type 0 where
  pub owns : (changes : List Noted) → committing_of w ≡ Some changes → (place : ℕ) (row : Landing) → row.who ≡ who → IsOfCommit lines who.session changes place row
  pub commits : CommitsAs lines who w ask
  pub kind : (row : Landing) → row.who ≡ who → MayAsk lines row ask

-- whatever is at work, where its call is so
pub call_leaves : (n : ℕ) (lines : List Line) (who : Caller) (before after : Seen) (x : CloudState) (sessions : Sessions) (new : Acting) (turn : Turn Answer) (a b : Audited) (blind blind_after : Bool)
    → who.event ≤ n → before.state ≡ Some x → CloudHolds n lines sessions a blind x → ((ask : Ask) → ask_of_work (sessions who.session).work ≡ Some ask → IsByLines lines who (sessions who.session).work ask)
    → StepsSession who before after (sessions who.session) new (Ok turn) → Sees x after (sessions who.session).work (lookout a blind) (lookout b blind_after)
    → CallLeavesUpto n lines after (at who.session new sessions) b blind_after
call_leaves n lines who before after x sessions new turn a b blind blind_after event told h by p sees =
    record { state = l.after; told = l.told; holds = holds }
  where
    w : Work
    w = (sessions who.session).work

    call : MadeCall who before after w
    call = made_call who before after w new.work turn p.work

    l : Leaves who call.ask call.answer (counted before.counts x) after.counts after.state
    l = call.made.state x told

    goes : Goes (ground h.book h.order x sessions) l.after who.session new
    goes = session_keeps who before after x l.after h.book h.order sessions new (Ok turn) told l.told h.stand p

    b0 : CloudState
    b0 = called who l.after.now x

    -- what the call keeps, where its effect does
    kept : (P : CloudState → Type 0) → P b0 → P (effect who call.ask b0) → P l.after
    kept P begun lands = row_by P who call.ask call.answer before.counts after.counts b0 l.after l.row begun (λ permits. lands)

    Placed : CloudState → Type 0
    Placed t = All (IsPlaced t.versions) t.trace

    placed_before : Placed b0
    placed_before = placed_called who l.after.now x h.cloud.placed

    placed : Placed l.after
    placed = kept Placed placed_before (placed_effect who call.ask b0 placed_before)

    OfKind : CloudState → Type 0
    OfKind t = All (IsOfKind lines t) t.trace

    kinds_before : OfKind b0
    kinds_before = kinds_same lines x b0 refl refl h.cloud.kinds

    kinds : OfKind l.after
    kinds = kept OfKind kinds_before (kinds_effect lines who call.ask b0 placed_before (by call.ask call.hand).kind kinds_before)

    sound : IsSoundWork w
    sound = sound_of who before after w new.work turn p.work

    once_before : OpensOnce b0
    once_before = once_same x b0 refl refl h.cloud.once

    unopened : OpensUnopened b0 call.ask
    unopened =
        call_opens lines b0 (store_of h.book h.order x) x.now (sessions who.session).cache (h.stand.parts who.session) w call.ask h.cloud.committed kinds_before
        (h.stand.each who.session).work sound call.hand

    once : OpensOnce l.after
    once = kept OpensOnce once_before (once_effect who call.ask b0 placed_before unopened once_before)

    entries : entries_of goes.book_after.log ≡ committed lines l.after
    entries =
        ap (λ (z : Audited). z.committed) (sym goes.noted)
        ∙ audited_commits lines who w call.ask call.answer before.counts after.counts x after.state (audit_of h.book h.order) call.hand l h.cloud.placed h.cloud.committed
        (decodes goes.book_after goes.order_after l.after (at who.session new sessions) goes.stand) (by call.ask call.hand).commits

    seen : blind_after ≡ false → b ≡ audit_of goes.book_after goes.order_after
    seen e = sees.audit e l.after l.told ∙ ap (λ z. audited (newest x) (newest l.after) w z) (h.seen (sees.saw e)) ∙ goes.noted

    mine : LandedFor (IsOfCommit lines who.session) l.after new.work
    mine =
        landed_on (IsOfCommit lines who.session) who before after x l.after told l.told (store_of h.book h.order x) x.now (sessions who.session).cache (h.stand.parts who.session) w new.work turn
        (h.stand.each who.session).work (by call.ask call.hand).owns (h.landed who.session) p.work

    grown : HasGrown x l.after
    grown = leaves_grown who call.ask call.answer before.counts after.counts x after.state l

    holds : CloudHolds n lines (at who.session new sessions) b blind_after l.after
    holds = record {
      book = goes.book_after;
      order = goes.order_after;
      stand = goes.stand;
      cloud = record {
        placed = placed;
        upto = leaves_upto n who call.ask call.answer before.counts after.counts x after.state l event h.cloud.upto;
        committed = entries;
        kinds = kinds;
        once = once;
      };
      seen = seen;
      reported = reported_more lines h.order goes.order_after goes.order_goes_on h.reported;
      landed = landed_set lines who.session sessions new l.after mine (λ k. for_grows (IsOfCommit lines k) x l.after (sessions k).work grown (h.landed k));
    }

-- a call of a session within a line
pub call_holds : (lines : List Line) (who : Caller) (before after : Seen) (x : CloudState) (sessions : Sessions) (new : Acting) (turn : Turn Answer) (a b : Audited) (blind blind_after : Bool)
    → who.event ≡ length lines + 1 → before.state ≡ Some x → CloudHolds (length lines + 1) lines sessions a blind x → WorksAs (sessions who.session).work (standing lines who.session)
    → StepsSession who before after (sessions who.session) new (Ok turn) → Sees x after (sessions who.session).work (lookout a blind) (lookout b blind_after)
    → CallLeaves lines after (at who.session new sessions) b blind_after
call_holds lines who before after x sessions new turn a b blind blind_after event told h acts p sees =
    call_leaves (length lines + 1) lines who before after x sessions new turn a b blind blind_after (omega (arith, event)) told h by p sees
  where
    w : Work
    w = (sessions who.session).work

    sound : IsSoundWork w
    sound = sound_of who before after w new.work turn p.work

    by : (ask : Ask) → ask_of_work w ≡ Some ask → IsByLines lines who w ask
    by ask hand = record {
      owns = own_row lines who w event acts;
      commits = ask_commits lines who w ask (stood_on lines who w event acts)
          (λ client bytes one two is. head_put (store_of h.book h.order x) x.now (sessions who.session).cache w (h.stand.parts who.session) (h.stand.each who.session).work
          sound client bytes one two (hand ∙ ap (λ a. Some a) is));
      kind = call_kind lines who w ask event acts sound hand;
    }

-- a call of session 0 on an errand up to event n, where the line that asks it is one of the lines
pub errand_holds : (errand : Errand) (n : ℕ) (lines : List Line) (who : Caller) (before after : Seen) (x : CloudState) (sessions : Sessions) (new : Acting) (turn : Turn Answer) (a b : Audited) (blind blind_after : Bool)
    → who.event ≤ n → before.state ≡ Some x → CloudHolds n lines sessions a blind x → WorksOn errand (sessions who.session).work → AreRowsOf errand lines who
    → StepsSession who before after (sessions who.session) new (Ok turn) → Sees x after (sessions who.session).work (lookout a blind) (lookout b blind_after)
    → CallLeavesUpto n lines after (at who.session new sessions) b blind_after
errand_holds errand n lines who before after x sessions new turn a b blind blind_after event told h works own p sees =
    call_leaves n lines who before after x sessions new turn a b blind blind_after event told h by p sees
  where
    w : Work
    w = (sessions who.session).work

    sound : IsSoundWork w
    sound = sound_of who before after w new.work turn p.work

    commits_none : (changes : List Noted) → committing_of w ≡ Some changes → ⊥
    commits_none changes e = never (sym (errand_none errand w works) ∙ e)
      where
        never : (let none : Option (List Noted) = None in none ≡ Some changes) → ⊥
        never h = absurd (cc)

    by : (ask : Ask) → ask_of_work w ≡ Some ask → IsByLines lines who w ask
    by ask hand = record {
      owns = λ changes e place row is. absurd (commits_none changes e);
      commits = ask_commits lines who w ask (λ changes e. absurd (commits_none changes e))
          (λ client bytes one two is. head_put (store_of h.book h.order x) x.now (sessions who.session).cache w (h.stand.parts who.session) (h.stand.each who.session).work
          sound client bytes one two (hand ∙ ap (λ a. Some a) is));
      kind = λ row is. errand_asks errand lines row w works (own row is) sound ask hand;
    }

-- a call of a checkpoint up to event n, where the line that works is one of the lines
pub work_holds : (n : ℕ) (lines : List Line) (who : Caller) (home : Home) (before after : Seen) (x : CloudState) (sessions : Sessions) (new : Acting) (turn : Turn Answer) (a b : Audited) (blind blind_after : Bool)
    → who.event ≤ n → before.state ≡ Some x → CloudHolds n lines sessions a blind x → HasCheckpoint home (sessions who.session).work → IsWorkersRow lines who
    → StepsSession who before after (sessions who.session) new (Ok turn) → Sees x after (sessions who.session).work (lookout a blind) (lookout b blind_after)
    → CallLeavesUpto n lines after (at who.session new sessions) b blind_after
work_holds n lines who home before after x sessions new turn a b blind blind_after event told h checkpoint worker p sees =
    call_leaves n lines who before after x sessions new turn a b blind blind_after event told h by p sees
  where
    w : Work
    w = (sessions who.session).work

    sound : IsSoundWork w
    sound = sound_of who before after w new.work turn p.work

    commits_none : (changes : List Noted) → committing_of w ≡ Some changes → ⊥
    commits_none changes e = never (sym (checkpoint_none home w checkpoint) ∙ e)
      where
        never : (let none : Option (List Noted) = None in none ≡ Some changes) → ⊥
        never h = absurd (cc)

    by : (ask : Ask) → ask_of_work w ≡ Some ask → IsByLines lines who w ask
    by ask hand = record {
      owns = λ changes e place row is. absurd (commits_none changes e);
      commits = ask_commits lines who w ask (λ changes e. absurd (commits_none changes e))
          (λ client bytes one two is. head_put (store_of h.book h.order x) x.now (sessions who.session).cache w (h.stand.parts who.session) (h.stand.each who.session).work
          sound client bytes one two (hand ∙ ap (λ a. Some a) is));
      kind = λ row is. checkpoint_asks lines row home w checkpoint (worker row is) ask hand;
    }

-- ---- what is no call

-- rows that stay
landed_still : (lines : List Line) (sessions : Sessions) (s t : CloudState) → HasGrown s t → AllLanded lines sessions s → AllLanded lines sessions t
landed_still lines sessions s t grown all k = for_grows (IsOfCommit lines k) s t (sessions k).work grown (all k)

-- a wish that is set leaves all that holds
pub wish_holds : (n : ℕ) (lines : List Line) (sessions : Sessions) (a : Audited) (blind : Bool) (x : CloudState) (wish : Wish) → CloudHolds n lines sessions a blind x
    → CloudHolds n lines sessions a blind (record x { wish = wish })
wish_holds n lines sessions a blind x wish h = record {
  book = h.book;
  order = h.order;
  stand = rest_keeps h.book h.order x (record x { wish = wish }) sessions refl refl refl refl (omega arith) h.stand;
  cloud = record {
    placed = h.cloud.placed;
    upto = record { versions = h.cloud.upto.versions; messages = h.cloud.upto.messages; trace = h.cloud.upto.trace };
    committed = h.cloud.committed;
    kinds = kinds_same lines x (record x { wish = wish }) refl refl h.cloud.kinds;
    once = once_same x (record x { wish = wish }) refl refl h.cloud.once;
  };
  seen = h.seen;
  reported = h.reported;
  landed = landed_still lines sessions x (record x { wish = wish }) (grown_itself x (record x { wish = wish }) refl refl refl refl) h.landed;
}

-- and so does a wait
pub wait_holds : (n : ℕ) (lines : List Line) (sessions : Sessions) (a : Audited) (blind : Bool) (x : CloudState) (now waits : ℕ) → x.now ≤ now → CloudHolds n lines sessions a blind x
    → CloudHolds n lines sessions a blind (record x { now = now; waits = waits })
wait_holds n lines sessions a blind x now waits later h = record {
  book = h.book;
  order = h.order;
  stand = rest_keeps h.book h.order x (record x { now = now; waits = waits }) sessions refl refl refl refl later h.stand;
  cloud = record {
    placed = h.cloud.placed;
    upto = record { versions = h.cloud.upto.versions; messages = h.cloud.upto.messages; trace = h.cloud.upto.trace };
    committed = h.cloud.committed;
    kinds = kinds_same lines x (record x { now = now; waits = waits }) refl refl h.cloud.kinds;
    once = once_same x (record x { now = now; waits = waits }) refl refl h.cloud.once;
  };
  seen = h.seen;
  reported = h.reported;
  landed =
      let still : HasGrown x (record x { waits = waits }) = grown_itself x (record x { waits = waits }) refl refl refl refl in
      landed_still lines sessions x (record x { now = now; waits = waits }) (record { versions = still.versions; messages = still.messages; trace = still.trace; later = later }) h.landed;
}
