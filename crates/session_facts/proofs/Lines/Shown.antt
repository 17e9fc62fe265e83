-- What a read, a scan and a look-up show is what the lines say.
use Rattle.std.proofs.Common.{◌≡◌, ◌⊎◌, inl, inr, ℕ, List, Ok, sym, ap, subst, ◌∙◌, Bool}
use Rattle.client_work.specs.Session.{Acting, ShowsList, StepsAt, StepsSession, noted_behind}
use Rattle.client_work.specs.declared.answer.Answer.{Answer}
use Rattle.client_work.specs.declared.answer.Answer.TheVariants as answer
use Rattle.client_work.specs.declared.work.Work.{Work}
use Rattle.client_work.specs.declared.work.Work.TheVariants.{Reading, Scanning, Looking, Settling, Sweeping}
use Rattle.cloud_facts.specs.Book.Messages.{IsLogMessage}
use Rattle.cloud_facts.specs.Words.{Entry, Turn, More, Ended, CloudState, Caller, Seen, Store, IsIn, store_of}
use Rattle.cloud_facts.specs.Book.Records.{entry_of}
use Rattle.cloud_facts.specs.Homes.Homes.{Part}
use Rattle.cloud_facts.proofs.Book.Places.{get_map}
use Rattle.db_base.specs.declared.names.QueueName.TheVariants.{Atomic}
use Rattle.head_codec.specs.declared.lists.Pending.{Pending}
use Rattle.history.specs.Audited.{Audited}
use Rattle.recover_run.specs.declared.home.Home.{Home}
use Rattle.replay_meaning.specs.Standing.{Line, Standing, standing}
use Rattle.session_facts.specs.Lines.Facts.{WorksAs, ActsAs, CloudHolds}
use Rattle.session_facts.specs.Sessions.Knows.{Sessions, IsHome, KnowsWork}
use Rattle.session_facts.proofs.Rows.CallKinds.{HasCheckpoint}
use Rattle.session_facts.specs.Lines.Shown.{IsOfCommitted, ScansByLines, LooksByLines, ShowsByLines, moment}

module _ (n : ℕ) (lines : List Line) (sessions : Sessions) (audit : Audited) (blind : Bool) (t : CloudState) (h : CloudHolds n lines sessions audit blind t) where
  abbrev st : Store
  st = store_of h.book h.order t

  -- the pending entries of an open client are of what it committed by the lines
  pending_by : (home : Home) (part : Part) → IsHome st t.now home part → (p : Pending) → IsIn home.head.pending p → IsOfCommitted lines t home.client p
  pending_by home part k p is =
      let own = k.of_records p is in
      let sent = h.stand.cloud.holds.leaves.sent own.0 own.1.logged in
      record {
        of = own.0;
        own = own.1.client_is;
        pending_is = own.2;
        committed = subst (λ (es : List Entry). IsIn es (entry_of own.0)) h.cloud.committed
            (own.1.logged.0, get_map entry_of h.book.log own.1.logged.0 own.0 own.1.logged.1);
        sent = (sent.0, subst (λ (c : ℕ). IsLogMessage (t.messages (Atomic c)) sent.0 own.0) own.1.client_is sent.1);
      }

  module _ (who : Caller) (before after : Seen) (new : Acting) where
    abbrev mine : Acting
    mine = sessions who.session

    abbrev s : Standing
    s = standing lines who.session

    -- what is in hand is known, and stands by the lines
    known_as : (w : Work) → mine.work ≡ w → KnowsWork st t.now mine.cache w (h.stand.parts who.session)
    known_as w is = subst (λ (v : Work). KnowsWork st t.now mine.cache v (h.stand.parts who.session)) is (h.stand.each who.session).work

    stands_as : (w : Work) → mine.work ≡ w → ActsAs mine s → WorksAs w s
    stands_as w is acts = subst (λ (v : Work). WorksAs v s) is acts.work

    -- a scan or a look-up
    lists : ActsAs mine s → ShowsList who before after mine new → ScansByLines lines t who (moment before mine) (moment after new) ⊎ LooksByLines lines t who (moment before mine) (moment after new)
    lists acts (inl (home, scan, was, shows)) =
        let stands = stands_as (Scanning home scan) was acts in
        inl (record {
          home = home;
          listing = scan;
          was = was;
          shows = shows;
          by = record {
            works = stands.0;
            client = stands.1;
            noted = acts.buffer;
            pending = pending_by home (h.stand.parts who.session) (known_as (Scanning home scan) was).0;
          };
        })
    lists acts (inr (home, look, was, shows)) =
        let stands = stands_as (Looking home look) was acts in
        inr (record {
          home = home;
          look = look;
          was = was;
          shows = shows;
          by = record {
            works = stands.0;
            client = stands.1;
            noted = acts.buffer;
            pending = pending_by home (h.stand.parts who.session) (known_as (Looking home look) was).0;
          };
        })

    pub shown_by_lines : (turn : Turn Answer) → ActsAs mine s → StepsSession who before after mine new (Ok turn) → ShowsByLines lines t who (moment before mine) (moment after new) turn
    shown_by_lines (Ended answer.Value) acts p =
        let read = p.whole in
        let stands = stands_as (Reading read.0 read.1) read.2 acts in
        record {
          home = read.0;
          walk = read.1;
          was = read.2;
          shows = read.3;
          by = record {
            works = stands.0;
            client = stands.1;
            noted = p.buffer ∙ (ap (λ (w : Work). noted_behind w mine.buffer) read.2 ∙ acts.buffer);
            pending = pending_by read.0 (h.stand.parts who.session) (known_as (Reading read.0 read.1) read.2).0;
          };
        }
    shown_by_lines (Ended answer.Scan) acts p = lists acts p.whole
    shown_by_lines turn acts p = tt

-- ---- session 0, whatever the cloud tells

-- what is at work is its own: it settles, or it sweeps a tree
abbrev pub IsSettler : Work → Type 0
IsSettler (Settling m) = Unit {0}
IsSettler (Sweeping m) = Unit {0}
IsSettler w = ⊥

pub settler_goes : (who : Caller) (before after : Seen) (w new : Work) → IsSettler w → StepsAt who before after w new More → IsSettler new
settler_goes who before after (Settling m) new is p = subst IsSettler (sym p.1.2) tt
settler_goes who before after (Sweeping m) new is p = subst IsSettler (sym p.2) tt
settler_goes who before after w new is p = absurd is

-- it shows neither
pub settler_by_lines : (lines : List Line) (t : CloudState) (who : Caller) (before after : Seen) (old new : Acting) (turn : Turn Answer) → IsSettler old.work
    → StepsSession who before after old new (Ok turn) → ShowsByLines lines t who (moment before old) (moment after new) turn
settler_by_lines lines t who before after old new (Ended answer.Value) settles p = absurd (subst IsSettler p.whole.2 settles)
settler_by_lines lines t who before after old new (Ended answer.Scan) settles p = absurd (never p.whole)
  where
    never : ShowsList who before after old new → ⊥
    never (inl (home, scan, was, shows)) = subst IsSettler was settles
    never (inr (home, look, was, shows)) = subst IsSettler was settles
settler_by_lines lines t who before after old new turn settles p = tt

-- nor does a checkpoint
pub checkpoint_by_lines : (lines : List Line) (t : CloudState) (who : Caller) (before after : Seen) (home : Home) (old new : Acting) (turn : Turn Answer) → HasCheckpoint home old.work
    → StepsSession who before after old new (Ok turn) → ShowsByLines lines t who (moment before old) (moment after new) turn
checkpoint_by_lines lines t who before after home old new (Ended answer.Value) has p = absurd (subst (HasCheckpoint home) p.whole.2 has)
checkpoint_by_lines lines t who before after home old new (Ended answer.Scan) has p = absurd (never p.whole)
  where
    never : ShowsList who before after old new → ⊥
    never (inl (of, scan, was, shows)) = subst (HasCheckpoint home) was has
    never (inr (of, look, was, shows)) = subst (HasCheckpoint home) was has
checkpoint_by_lines lines t who before after home old new turn has p = tt
