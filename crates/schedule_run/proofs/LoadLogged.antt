-- What a load logs that came to its end.
use Rattle.std.proofs.Common.{◌≡◌, ◌≤◌, ◌<◌, ◌+◌, ℕ, zero, suc, List, [], ◌∷◌, ◌++◌, length, map, take, drop, Some, Ok, refl, sym, ap, subst, ◌∙◌, arith, cond, Bool, true, false, inl, inr, ◌⊎◌}
use Rattle.std.specs.Prelude.{slice_get, replicate, ◌==◌}
use Rattle.std.proofs.lemmas.List.{take-append-drop, length-take}
use Rattle.std.proofs.lemmas.Option.{slice_get_within}
use Rattle.client_work.specs.Session.{Acting, closed_session}
use Rattle.client_work.specs.declared.work.Work.{Work}
use Rattle.cloud_trait.specs.Growth.{BeginsWith}
use Rattle.cloud_facts.specs.Words.{Entry, CloudState, Seen}
use Rattle.cloud_trait.specs.State.{IsEmptyCloud}
use Rattle.cloud_trait.specs.Traced.{IsTraced}
use Rattle.cloud_trait.specs.Upto.{IsUpto}
use Rattle.db_base.specs.declared.trouble.CommitAnswer.TheVariants.{Committed}
use Rattle.dump_text.specs.Dump.{IsDumpable}
use Rattle.dump_text.specs.declared.dump.DumpedTree.{DumpedTree}
use Rattle.event_text.specs.declared.event.Event.{Event}
use Rattle.event_text.specs.declared.event.Event.TheVariants as event
use Rattle.schedule_run.proofs.Loads.Behind.{transaction_later, all_bounded}
use Rattle.schedule_run.proofs.Loads.Course.{changes_of, all_changes}
use Rattle.schedule_run.proofs.Loads.Dumps.{dump_parts, distinct_all, parts_enough, parts_count}
use Rattle.schedule_run.proofs.Loads.Lines.{AllLoad, IsLoading, WasCommitted, LoadLine, numbers, numbers-push, number_by, number_stays, all_load_front, all_load_last, all_load_taken}
use Rattle.schedule_run.proofs.Loads.Messages.{IsSent, AllBounded, are_logged}
use Rattle.schedule_run.proofs.Loads.Numbered.{Numbered, own_work, line_numbered}
use Rattle.schedule_run.proofs.Loads.Sent.{WasSent, SentAt, line_sends, sent_numbered}
use Rattle.schedule_run.specs.Loads.Loaded.{AreLogged}
use Rattle.load_plan.specs.Events.{Placed, records_of, parts, parts_of, transactions, insert_of, checkpoint_at, checkpoints_from, checkpoints_of, part_events, later_events, commit_events, load_events}
use Rattle.replay_meaning.specs.Committed.{committed}
use Rattle.replay_meaning.specs.Standing.{Line, Posture, Working, Committing, Standing, session_of, standing}
use Rattle.reply_text.specs.declared.reply.Reply.{Reply}
use Rattle.reply_text.specs.declared.reply.Reply.TheVariants as reply
use Rattle.session_facts.proofs.Lines.More.{line_of}
use Rattle.session_facts.specs.Lines.Facts.{session_at}
use Rattle.txn_buffer.specs.Noted.{Noted}
use Rattle.world_core.proofs.OpenedLines.{once_before}
use Rattle.world_core.specs.Handled.{Handled}
use Rattle.world_core.specs.Opened.{AsksToOpen, IsOpenedIn, OpenEachOnce}
use Rattle.world_core.specs.Stands.{WorldStands}
use Rattle.world_core.specs.World.{World}
use Rattle.world_core.specs.Span.{span_of}
use Rattle.schedule_run.specs.Answered.{IsNew, WentOn, start, further, events_of}
use Rattle.schedule_run.specs.Shell.{AreWhole}
use Rattle.schedule_run.proofs.LoadFronts.{Front, front, LastOf, last_of, take_next}
use Rattle.schedule_run.proofs.OnceLemmas.{OpenNone, none_more, events_more, went_apart}
use Rattle.schedule_run.proofs.ShellOnce.{shell_once, once_whole}
use Rattle.schedule_run.proofs.SoundLemmas.{AreSoundly, went_soundly}

-- ---- the events of a load open one client, once

inserts_none : (part : List Placed) → OpenNone (map insert_of part)
inserts_none [] client h = h
inserts_none (p ∷ part) client (inl h) = h
inserts_none (p ∷ part) client (inr h) = inserts_none part client h

checkpoint_none : (last tree : ℕ) → OpenNone (checkpoint_at last tree)
checkpoint_none last tree client = on (tree == last)
  where
    on : (b : Bool) → IsOpenedIn (cond b [] (event.Tree 1 tree ∷ [])) client → ⊥
    on true h = h
    on false (inl h) = h
    on false (inr h) = h

checkpoints_none : (last : ℕ) (part : List Placed) → OpenNone (checkpoints_from last part)
checkpoints_none last [] = λ client h. h
checkpoints_none last (p ∷ part) = none_more (checkpoint_at last p.tree) (checkpoints_from p.tree part) (checkpoint_none last p.tree) (checkpoints_none p.tree part)

-- one event more in front
front_none : (e : Event) (events : List Event) → ((client : ℕ) → AsksToOpen e client → ⊥) → OpenNone events → OpenNone (e ∷ events)
front_none e events one none client (inl h) = one client h
front_none e events one none client (inr h) = none client h

part_none : (part : List Placed) → OpenNone (part_events part)
part_none part =
    none_more (map insert_of part) (event.Commit 1 ∷ checkpoints_of part) (inserts_none part) (front_none (event.Commit 1) (checkpoints_of part) (λ client h. h) (checkpoints_none 0 part))

later_none : (later : List (List Placed)) → OpenNone (later_events later)
later_none [] = λ client h. h
later_none (part ∷ later) =
    front_none (event.Renew 1) (part_events part ++ later_events later) (λ client h. h) (none_more (part_events part) (later_events later) (part_none part) (later_none later))

commits_none : (all : List (List Placed)) → OpenNone (commit_events all)
commits_none [] = λ client h. h
commits_none (part ∷ later) = none_more (part_events part) (later_events later) (part_none part) (later_none later)

load_once : (trees : List DumpedTree) → OpenEachOnce (load_events trees)
load_once trees =
    shell_once 1 (commit_events (parts_of trees) ++ event.Close 1 ∷ event.Settle ∷ [])
    (none_more (commit_events (parts_of trees)) (event.Close 1 ∷ event.Settle ∷ []) (commits_none (parts_of trees))
    (front_none (event.Close 1) (event.Settle ∷ []) (λ client h. h) (front_none event.Settle [] (λ client h. h) (λ client h. h))))

-- of the first lines too
taken_once : (n : ℕ) (lines : List Line) → OpenEachOnce (events_of lines) → OpenEachOnce (events_of (take n lines))
taken_once n lines once =
    once_before (events_of (take n lines)) (events_of (drop n lines))
    (subst OpenEachOnce (events_more (take n lines) (drop n lines)) (subst (λ ls. OpenEachOnce (events_of ls)) (sym (take-append-drop n lines)) once))

-- ---- the numbers of transactions

went_numbered : (before : Seen) (old : World) (lines : List Line) (after : Seen) (new : World) → WentOn before old lines after new → AllLoad lines → Numbered 0 (own_work old)
    → Numbered (numbers lines) (own_work new)
went_numbered before old lines after new start all h = h
went_numbered before old lines after new (further earlier line mid _ world _ went handled) all h =
    subst (λ n. Numbered n (own_work new)) (sym (numbers-push earlier line))
    (line_numbered (length earlier + 1) (numbers earlier) line.event mid after world new line.reply (all_load_last earlier line all) handled
    (went_numbered before old earlier mid world went (all_load_front earlier (line ∷ []) all) h))

-- a new world has opened none
pub fresh_numbered : {blind : Bool} → (world : World) → IsNew blind world → Numbered 0 (own_work world)
fresh_numbered world fresh = subst (λ (sessions : List Acting). Numbered 0 (session_at sessions 1).work) (sym fresh.sessions) tt

-- ---- what each transaction sent

module _ {blind : Bool} (before : Seen) (first : World) (t : CloudState) (lines : List Line) (after : Seen) (new : World) (went : WentOn before first lines after new) (fresh : IsNew blind first)
    (told : before.state ≡ Some t) (empty : IsEmptyCloud t) (stands : WorldStands [] first t) (u : CloudState) (seen : after.state ≡ Some u) (all : AllLoad lines) where
  front_at : (n : ℕ) → n ≤ length lines → Front n (take n lines) lines before first u
  front_at n within = front before first t lines after new went told stands u seen n within

  -- behind the line that answered it
  sent_behind : (index : ℕ) (changes : List Noted) (w : WasCommitted lines index changes) (f : Front (w.place + 1) (take (w.place + 1) lines) lines before first u)
      → LastOf (take w.place lines) w.line before first f.mid f.world → IsSent u (committed lines u) (index + 1) changes
  sent_behind index changes w f l = transaction_later (w.place + 1) f.state u entries (committed lines u) (index + 1) changes upto (f.landed.agree (w.place + 1) (omega arith)) begins own.1
    where
      earlier : List Line
      earlier = take w.place lines

      e : Event
      e = w.line.event

      r : Reply
      r = reply.Commit (Committed w.txn)

      entries : List Entry
      entries = committed (earlier ++ line_of e r ∷ []) f.state

      o : AreSoundly earlier l.mid l.world
      o = went_soundly before first t earlier l.mid l.world l.went told stands

      handled : Handled (length earlier + 1) e (span_of l.mid f.mid l.world f.world) (Ok r)
      handled = subst (λ q. Handled (length earlier + 1) e (span_of l.mid f.mid l.world f.world) (Ok q)) w.answer l.handled

      by_session : SentAt f.state entries (standing earlier 1).client (standing earlier 1).posture (own_work f.world) (Committed w.txn)
      by_session =
          subst (λ k. SentAt f.state entries (standing earlier k).client (standing earlier k).posture (session_at f.world.sessions k).work (Committed w.txn)) w.own
          (line_sends earlier e l.mid f.mid l.world f.world w.txn o.state f.state o.told f.told o.stands handled)

      by_posture : SentAt f.state entries (standing earlier 1).client (Working (Committing changes)) (own_work f.world) (Committed w.txn)
      by_posture = subst (λ q. SentAt f.state entries (standing earlier 1).client q (own_work f.world) (Committed w.txn)) w.works by_session

      sent : WasSent f.state entries 1 changes (own_work f.world) w.txn
      sent = subst (λ c. WasSent f.state entries c changes (own_work f.world) w.txn) w.client by_posture

      next : take (w.place + 1) lines ≡ earlier ++ w.line ∷ []
      next = take_next lines w.place w.line w.there

      never : w.line.reply ≡ reply.Begun → ⊥
      never is = let two : r ≡ reply.Begun = sym w.answer ∙ is in absurd (cc)

      number : numbers (take (w.place + 1) lines) ≡ index + 1
      number = ap numbers next ∙ numbers-push earlier w.line ∙ number_stays e w.line.reply (numbers earlier) never ∙ w.number

      numbered : Numbered (index + 1) (own_work f.world)
      numbered =
          subst (λ k. Numbered k (own_work f.world)) number
          (went_numbered before first (take (w.place + 1) lines) f.mid f.world f.went (all_load_taken (w.place + 1) lines all) (fresh_numbered first fresh))

      own : (w.txn ≡ index + 1) × IsSent f.state entries (index + 1) changes
      own = sent_numbered f.state entries changes (own_work f.world) (index + 1) w.txn sent numbered

      within : w.place < length lines
      within = slice_get_within lines w.place w.line w.there

      upto : IsUpto (w.place + 1) f.state
      upto = subst (λ k. IsUpto k f.state) (omega (arith, length-take (w.place + 1) lines, within)) f.stands.by_lines.holds.cloud.upto

      begins : BeginsWith entries (committed lines u)
      begins =
          subst (λ ls. BeginsWith (committed ls f.state) (committed lines u))
          (next ∙ ap (λ q. earlier ++ record { event = e; reply = q } ∷ []) w.answer) f.goes_on

  sent_at : (index : ℕ) (changes : List Noted) → WasCommitted lines index changes → IsSent u (committed lines u) (index + 1) changes
  sent_at index changes w =
      let within : w.place < length lines = slice_get_within lines w.place w.line w.there in
      let f = front_at (w.place + 1) (omega (arith, within)) in
      sent_behind index changes w f
      (last_of before first (take (w.place + 1) lines) f.mid f.world f.went (take w.place lines) w.line (take_next lines w.place w.line w.there))

  -- ---- the rows

  module _ (parts_are : List (List Noted)) (own : Standing) (h : IsLoading parts_are lines own) (once : OpenEachOnce (events_of lines)) (final : WorldStands lines new u) where
    bounded : (epoch : ℕ) × AllBounded u epoch (length parts_are)
    bounded = on (front_at h.last h.ends.within)
      where
        on : Front h.last (take h.last lines) lines before first u → (epoch : ℕ) × AllBounded u epoch (length parts_are)
        on f =
            all_bounded parts_are lines h.last h.ends h.commits f.state u final.by_lines.holds.cloud.kinds (f.landed.agree h.last (omega arith)) f.landed.versions
            f.stands.by_lines.holds.cloud.placed (IsOpenedIn (events_of (take h.last lines))) t (session_at f.world.sessions) f.mid empty.trace f.told
            (went_apart before first t told fresh (take h.last lines) f.mid f.world f.went (taken_once h.last lines once)) (f.stands.by_lines.acts 1).work
            (subst (λ k. Numbered k (own_work f.world)) h.ends.count
            (went_numbered before first (take h.last lines) f.mid f.world f.went (all_load_taken h.last lines all) (fresh_numbered first fresh)))

-- ---- the whole

pub load_logs : {blind : Bool} → (trees : List DumpedTree) (before : Seen) (first : World) (t : CloudState) (lines : List Line) (after : Seen) (new : World) (own : Standing) (u : CloudState)
    → IsDumpable trees → WentOn before first lines after new → IsNew blind first → before.state ≡ Some t → IsEmptyCloud t → WorldStands [] first t → after.state ≡ Some u
    → WorldStands lines new u → IsTraced u → OpenEachOnce (events_of lines) → IsLoading (all_changes (parts_of trees)) lines own → AreLogged u (records_of trees)
load_logs trees before first t lines after new own u dumpable went fresh told empty stands seen final traced once h =
    are_logged records (transactions (length records)) (parts_enough trees dumpable) (distinct_all trees dumpable) (dump_parts trees dumpable) lines (length lines)
    final.by_lines.holds.book final.by_lines.holds.order u (session_at new.sessions) final.by_lines.holds.stand final.by_lines.holds.cloud traced h.commits b.0
    (subst (AllBounded u b.0) (parts_count (transactions (length records)) records) b.1)
    (λ index changes at. sent_at before first t lines after new went fresh told empty stands u seen h.each index changes (h.done index changes at))
  where
    records : List Placed
    records = records_of trees

    b : (epoch : ℕ) × AllBounded u epoch (length (all_changes (parts_of trees)))
    b = bounded before first t lines after new went fresh told empty stands u seen h.each (all_changes (parts_of trees)) own h once final

pub whole_once : (trees : List DumpedTree) (lines : List Line) (replies : List Reply) → AreWhole (load_events trees) lines replies → OpenEachOnce (events_of lines)
whole_once trees lines replies whole = once_whole (load_events trees) lines replies whole (load_once trees)
