-- The lines of a replay, one after another.
use Rattle.std.proofs.Common.{suc, ◌≡◌, ◌<◌, ◌≤◌, ◌+◌, ◌⊎◌, ℕ, List, [], ◌∷◌, ◌++◌, length, Bool, false, take, Some, Result, Ok, Err, refl, sym, ap, subst, ◌∙◌, inl, inr, append_assoc, arith, length-append}
use Rattle.std.specs.Prelude.{slice_get}
use Rattle.std.proofs.lemmas.List.{nil_from_length, take-append-le}
use Rattle.std.proofs.lemmas.Option.{slice_get_within}
use Rattle.std.proofs.lemmas.Bool.{cases_lt}
use Rattle.cloud_trait.specs.State.{CloudState, IsEmptyCloud}
use Rattle.cloud_trait.specs.Seen.{Seen}
use Rattle.cloud_trait.specs.declared.state.Hold.{Hold}
use Rattle.cloud_trait.specs.Traced.{IsTraced}
use Rattle.cloud_trait.specs.Upto.{upto, AgreeUpto, IsUpto, posts_of}
use Rattle.cloud_trait.proofs.StateLemmas.{slice_get-push}
use Rattle.cloud_trait.proofs.TracedLemmas.{empty_traced}
use Rattle.cloud_trait.proofs.UptoLemmas.{agree_itself, versions_upto-all, messages_upto-all, trace_upto-all}
use Rattle.db_io.specs.Writes.{Written, AddsEach, AddsOne, AddsPart}
use Rattle.db_io.proofs.WriteLemmas.{each_none, each_more}
use Rattle.event_text.specs.declared.event.Event.{Event}
use Rattle.event_text.specs.Event.{IsEvent}
use Rattle.db_io.specs.Lines.{lines_of}
use Rattle.reply_text.specs.declared.reply.Reply.{Reply}
use Rattle.reply_text.specs.declared.reply.Reply.TheVariants as reply
use Rattle.replay_meaning.specs.Standing.{Line}
use Rattle.replay_meaning.specs.Right.{ReportIsRight}
use Rattle.session_facts.proofs.Reports.Upto.{HoldTheSame, right_same, kinds_upto}
use Rattle.world_core.specs.World.{World}
use Rattle.world_core.specs.declared.world.WorldFault.{WorldFault}
use Rattle.world_core.specs.declared.world.WorldFault.TheVariants as world
use Rattle.world_core.specs.Alone.{IsAloneIn}
use Rattle.world_core.specs.Handled.{Handled}
use Rattle.world_core.specs.Stands.{WorldStands, StandsOn, Grows}
use Rattle.world_core.specs.Span.{span_of}
use Rattle.world_core.proofs.StartLemmas.{new_stands}
use Rattle.world_core.proofs.Caused.{caused}
use Rattle.schedule_run.specs.Outside.{Effects, effects}
use Rattle.schedule_run.proofs.Cuts.{TextCut, text_cut}
use Rattle.schedule_run.specs.declared.replay.LineFault.{LineFault}
use Rattle.schedule_run.specs.declared.replay.LineFault.TheVariants.{BadLine, WriteFault, Memory}
use Rattle.schedule_run.specs.Answered.{IsNew, WentOn, start, further, AreAnswered, AreExplained, AreMetered, ReportsAreRight, RepliesAreSound, ActsByTheLines, AcknowledgedStay, KeepsTheTheorem, ReportsCome}
use Rattle.schedule_run.proofs.BehindLemmas.{lines_left, lines_settled}
use Rattle.schedule_run.proofs.SoundLemmas.{get_before, take_whole, went_soundly, went_explained, went_metered}
use Rattle.schedule_run.proofs.SeeingLemmas.{went_comes}
use Rattle.schedule_run.proofs.CausedLemmas.{lines_caused, lines_told}
use Rattle.schedule_run.proofs.OnceLemmas.{went_adds, lines_once, unanswered_short, unanswered_kinds, unanswered_once}
use Rattle.schedule_run.proofs.StayLemmas.{stay_upto, went_stay}
use Rattle.schedule_run.specs.Written.{reply_line, replies_from, replies, bad_line}
use Rattle.schedule_run.specs.Replayed.{AreSpelled, WroteFront, reply_cut, refusal_cut, EndedBy, between, writing, handling, Ended, WentThrough, Handles, HasHandledLines, IsAnswered, LineWent, event_handled, refused, unread}

-- ---- lines and their texts

spelled_more : (texts : List (List ℕ)) (lines : List Line) (text : List ℕ) (line : Line) → AreSpelled texts lines → IsEvent text line.event → AreSpelled (texts ++ text ∷ []) (lines ++ line ∷ [])
spelled_more [] [] text line s is = (is, tt)
spelled_more [] (l ∷ lines) text line s is = absurd s
spelled_more (t ∷ texts) [] text line s is = absurd s
spelled_more (t ∷ texts) (l ∷ lines) text line s is = (s.0, spelled_more texts lines text line s.1 is)

spelled_length : (texts : List (List ℕ)) (lines : List Line) → AreSpelled texts lines → length lines ≡ length texts
spelled_length [] [] s = refl
spelled_length [] (l ∷ lines) s = absurd s
spelled_length (t ∷ texts) [] s = absurd s
spelled_length (t ∷ texts) (l ∷ lines) s = ap suc (spelled_length texts lines s.1)

replies_more : (n m : ℕ) (lines : List Line) (line : Line) → m ≡ n + length lines → replies_from n (lines ++ line ∷ []) ≡ replies_from n lines ++ reply_line m line.reply ∷ []
replies_more n m [] line e =
    let f : m ≡ n = omega arith in ap (λ k. reply_line k line.reply ∷ []) (sym f)
replies_more n m (l ∷ lines) line e =
    let f : m ≡ (n + 1) + length lines = omega arith in
    ap (λ xs. reply_line n l.reply ∷ xs) (replies_more (n + 1) m lines line f)

-- ---- reports

pub report_same : (lines : List Line) (s t : CloudState) (r : Reply) → HoldTheSame s t → ReportIsRight lines s r → ReportIsRight lines t r
report_same lines s t (reply.Report r) same right = right_same lines s t r same right
report_same lines s t r same right = tt

-- the reports so far stay right, and the new one is
reports_more : (lines : List Line) (line : Line) (u v : CloudState) → ((k : ℕ) → k < length lines + 1 → AgreeUpto k u v) → IsUpto (length lines + 1) v
    → ReportsAreRight lines u → ReportIsRight (lines ++ line ∷ []) v line.reply → ReportsAreRight (lines ++ line ∷ []) v
reports_more lines line u v agree all so new k l at = on (cases_lt k (length lines)) where
  on : (k < length lines) ⊎ (length lines ≤ k) → ReportIsRight (take (k + 1) (lines ++ line ∷ [])) (upto v (k + 1)) l.reply
  on (inl less) =
      let old : slice_get lines k ≡ Some l = sym (get_before lines line k less) ∙ at in
      let front : take (k + 1) (lines ++ line ∷ []) ≡ take (k + 1) lines = take-append-le (k + 1) lines (line ∷ []) (omega arith) in
      let a : AgreeUpto (k + 1) u v = agree (k + 1) (omega arith) in
      subst (λ ls. ReportIsRight ls (upto v (k + 1)) l.reply) (sym front)
      (report_same (take (k + 1) lines) (upto u (k + 1)) (upto v (k + 1)) l.reply (record { versions = a.versions; messages = a.messages; trace = a.trace }) (so k l old))
  on (inr more) =
      let within : k < length (lines ++ line ∷ []) = slice_get_within (lines ++ line ∷ []) k l at in
      let e : k ≡ length lines = omega (arith, length-append lines (line ∷ [])) in
      let same : Some line ≡ Some l = sym (slice_get-push lines line k e) ∙ at in
      let is : line ≡ l = cc in
      let whole : take (k + 1) (lines ++ line ∷ []) ≡ lines ++ line ∷ [] = take_whole (lines ++ line ∷ []) (k + 1) (omega (arith, length-append lines (line ∷ []))) in
      let n : k + 1 ≡ length lines + 1 = omega arith in
      let upto_all : IsUpto (k + 1) v = subst (λ m. IsUpto m v) (sym n) all in
      subst (λ ls. ReportIsRight ls (upto v (k + 1)) l.reply) (sym whole)
      (report_same (lines ++ line ∷ []) v (upto v (k + 1)) l.reply
      (record {
        versions = λ name. versions_upto-all (k + 1) (v.versions name) (upto_all.versions name);
        messages = λ queue. ap posts_of (messages_upto-all (k + 1) (v.messages queue) (upto_all.messages queue));
        trace = trace_upto-all (k + 1) v.trace upto_all.trace;
      })
      (subst (λ (x : Line). ReportIsRight (lines ++ line ∷ []) v x.reply) is new))

-- what was put and sent is what the lines allow, in every later state

pub acts_upto : (lines : List Line) (world : World) (u v : CloudState) → WorldStands lines world u → AgreeUpto (length lines) u v → ActsByTheLines lines v
acts_upto lines world u v stands agree = let cloud = stands.by_lines.holds.cloud in kinds_upto (length lines) lines u v cloud.upto agree cloud.kinds cloud.once

acts_now : (lines : List Line) (world : World) (u : CloudState) → WorldStands lines world u → ActsByTheLines lines u
acts_now lines world u stands = acts_upto lines world u u stands (agree_itself (length lines) u u refl refl refl)

-- ---- one line more

-- what stood and was right stands and is right with one line more
pub stands_more : (lines : List Line) (line : Line) (n : ℕ) (t z : Seen) (old new : World) → n ≡ 1 + length lines
    → StandsOn n line.event (span_of t z old new) (Ok line.reply) → Grows n t z → (u : CloudState) → t.state ≡ Some u → WorldStands lines old u → ReportsAreRight lines u
    → IsTraced u → (v : CloudState) × (z.state ≡ Some v) × WorldStands (lines ++ line ∷ []) new v × ReportsAreRight (lines ++ line ∷ []) v × IsTraced v
stands_more lines line n t z old new k on grows u told stands so traced =
    let f = on lines u (omega arith) told stands in
    let g = grows u told in
    let same : Some f.after ≡ Some g.0 = sym f.told ∙ g.1 in
    let is : g.0 ≡ f.after = cc in
    let agree : (j : ℕ) → j < length lines + 1 → AgreeUpto j u f.after = λ j less. subst (λ v. AgreeUpto j u v) is (g.2 j (omega arith)) in
    let m : length (lines ++ line ∷ []) ≡ length lines + 1 = omega (arith, length-append lines (line ∷ [])) in
    let upto_all : IsUpto (length lines + 1) f.after = subst (λ m. IsUpto m f.after) m f.stands.by_lines.holds.cloud.upto in
    (f.after, f.told, f.stands, reports_more lines line u f.after agree upto_all so f.right, subst IsTraced is (g.3 traced))

-- the lines that were handled, with one more
lines_more : (texts : List (List ℕ)) (text : List ℕ) (n : ℕ) (w v u : Written) (s t z : Seen) (first old new : World) (line : Line)
    → n ≡ length texts + 1 → Handles texts (effects w s) (effects v t) first old → IsEvent text line.event → IsAnswered n line.event (span_of t z old new) line.reply → Grows n t z
    → AddsOne v u (reply_line n line.reply) → Handles (texts ++ text ∷ []) (effects w s) (effects u z) first new
lines_more texts text n w v u s t z first old new line count h spells a grows adds =
    let m : length h.lines ≡ length texts = spelled_length texts h.lines h.spelled in
    let k : n ≡ 1 + length h.lines = omega arith in
    let l : n ≡ length h.lines + 1 = omega arith in
    record {
      lines = h.lines ++ line ∷ [];
      spelled = spelled_more texts h.lines text line h.spelled spells;
      wrote = subst (λ xs. AddsEach w u xs) (sym (replies_more 1 n h.lines line k)) (each_more w v u (replies h.lines) (reply_line n line.reply ∷ []) h.wrote adds);
      went = further h.lines line t z old new h.went (subst (λ j. Handled j line.event (span_of t z old new) (Ok line.reply)) l a.handled);
      stands = λ x told empty. let o = h.stands x told empty in stands_more h.lines line n t z old new k a.stands grows o.0 o.1 o.2 o.3 o.4;
    }

-- a new world stands for no lines over an empty cloud
pub fresh_stands : {blind : Bool} → (world : World) (t : CloudState) → IsNew blind world → IsEmptyCloud t → WorldStands [] world t
fresh_stands world t fresh empty = new_stands world.sessions world.audit world.blind world.notes t fresh.sessions fresh.audit empty

-- and so every reply of lines that were handled from it on is sound
pub replies_sound : {blind : Bool} → (lines : List Line) (s t : Seen) (first world : World) (x : CloudState) → WentOn s first lines t world → IsNew blind first → s.state ≡ Some x → IsEmptyCloud x
    → RepliesAreSound lines
replies_sound lines s t first world x went fresh told empty = (went_soundly s first x lines t world went told (fresh_stands first x fresh empty)).sound

-- and each line explains itself
pub lines_explained : {blind : Bool} → (lines : List Line) (s t : Seen) (first world : World) (x : CloudState) → (went : WentOn s first lines t world) → IsNew blind first → s.state ≡ Some x → IsEmptyCloud x
    → AreExplained s first lines t world went
lines_explained lines s t first world x went fresh told empty = went_explained s first x lines t world went told (fresh_stands first x fresh empty)

-- over an empty cloud every session is alone
fresh_alone : (world : World) (x : CloudState) → IsEmptyCloud x → (session : ℕ) → IsAloneIn session world x
fresh_alone world x empty session l = inl (let never : (x.locks l).until ≡ 0 = ap (λ (h : Hold). h.until) (empty.locks l) in omega (arith, never))

-- and a writer leaves few messages
pub lines_metered : {blind : Bool} → (lines : List Line) (s t : Seen) (first world : World) (x : CloudState) → (went : WentOn s first lines t world) → IsNew blind first → s.state ≡ Some x → IsEmptyCloud x
    → AreMetered s first lines t world went
lines_metered lines s t first world x went fresh told empty =
    went_metered s first x lines t world went told (fresh_stands first x fresh empty) (fresh_alone first x empty)

-- and where no look failed reports come
pub reports_come : (lines : List Line) (s t : Seen) (first world : World) (x : CloudState) → WentOn s first lines t world → IsNew false first → s.state ≡ Some x → IsEmptyCloud x
    → ReportsCome lines s t
reports_come lines s t first world x went fresh told empty = went_comes s first x lines t world went told (fresh_stands first x fresh empty) fresh.sees

-- and what they acknowledged stays committed
pub acknowledged_stay : {blind : Bool} → (lines : List Line) (s t : Seen) (first world : World) (x u : CloudState) → WentOn s first lines t world → IsNew blind first → s.state ≡ Some x → IsEmptyCloud x → t.state ≡ Some u
    → AcknowledgedStay lines u
acknowledged_stay lines s t first world x u went fresh told empty seen = went_stay s first x lines t world u went told (fresh_stands first x fresh empty) seen

-- ---- the lines of a text

pub at_start : (text : List ℕ) (w : Written) (s : Seen) (world : World) → IsNew false world → HasHandledLines text text 0 (effects w s, world) (effects w s, world)
at_start text w s world fresh = record {
  earlier = [];
  at = refl;
  count = refl;
  handles = record {
    lines = [];
    spelled = tt;
    wrote = each_none w;
    went = start;
    stands = λ t told empty. (
      t,
      told,
      fresh_stands world t fresh empty,
      λ k line at. absurd (cc),
      empty_traced t empty,
    );
  };
}

pub at_more : (text rest behind line : List ℕ) (n m : ℕ) (w v u : Written) (s t z : Seen) (first old new : World)
    → HasHandledLines text rest n (effects w s, first) (effects v t, old) → lines_of rest ≡ line ∷ lines_of behind → m ≡ n + 1 → LineWent (Ok tt) m line (effects v t, old) (effects u z, new) → Grows m t z
    → HasHandledLines text behind m (effects w s, first) (effects u z, new)
at_more text rest behind line n m w v u s t z first old new is split next (event_handled event spells p) grows =
    let c : length is.earlier ≡ n = is.count in
    record {
      earlier = is.earlier ++ line ∷ [];
      at = is.at ∙ ap (λ ls. is.earlier ++ ls) split ∙ sym (append_assoc is.earlier (line ∷ []) (lines_of behind));
      count = omega (arith, length-append is.earlier (line ∷ []));
      handles = lines_more is.earlier line m w v u s t z first old new (record { event = event; reply = p.0 }) (omega arith) is.handles spells p.1 grows p.2;
    }
at_more text rest behind line n m w v u s t z first old new is split next (refused bad e p) grows = absurd p
at_more text rest behind line n m w v u s t z first old new is split next (unread e f h) grows = absurd (cc)

-- the theorem of lines behind which nothing landed
pub keeps_now : {blind : Bool} → (lines : List Line) (s t : Seen) (first world : World) → WentOn s first lines t world → IsNew blind first
    → ((x : CloudState) → s.state ≡ Some x → IsEmptyCloud x → (u : CloudState) × (t.state ≡ Some u) × WorldStands lines world u × ReportsAreRight lines u × IsTraced u) → KeepsTheTheorem lines s t
keeps_now lines s t first world went fresh stands x told empty =
    let o = stands x told empty in (
      o.0,
      o.1,
      o.3,
      replies_sound lines s t first world x went fresh told empty,
      acts_now lines world o.0 o.2,
      acknowledged_stay lines s t first world x o.0 went fresh told empty o.1,
      o.4,
    )

abbrev answered : (texts : List (List ℕ)) (w v : Written) (s t : Seen) (first world : World) → IsNew false first
    → (h : Handles texts (effects w s) (effects v t) first world) → AreAnswered false h.lines s t
answered texts w v s t first world fresh h = record {
  first = first;
  fresh = fresh;
  last = world;
  went = h.went;
  explained = λ x told empty. lines_explained h.lines s t first world x h.went fresh told empty;
  metered = λ x told empty. lines_metered h.lines s t first world x h.went fresh told empty;
  settled = lines_settled h.lines s t first world h.went fresh;
  left = lines_left h.lines s t first world h.went fresh;
  reports = λ x told empty. reports_come h.lines s t first world x h.went fresh told empty;
  kinds = λ x told. went_adds s first x told fresh h.lines t world h.went;
  once = lines_once h.lines s t first world h.went fresh;
  caused = lines_caused s first h.lines t world h.went;
  told = lines_told s first h.lines t world h.went;
}

pub at_end : (text rest : List ℕ) (n : ℕ) (w v : Written) (s t : Seen) (first world : World) → IsNew false first
    → HasHandledLines text rest n (effects w s, first) (effects v t, world) → length rest ≡ 0 → WentThrough text (Ok tt) (effects w s) (effects v t)
at_end text rest n w v s t first world fresh is none = record {
  lines = is.handles.lines;
  earlier = is.earlier;
  later = lines_of rest;
  at = is.at;
  spelled = is.handles.spelled;
  so = (ap lines_of (nil_from_length rest none), answered is.earlier w v s t first world fresh is.handles, is.handles.wrote);
  theorem = keeps_now is.handles.lines s t first world is.handles.went fresh is.handles.stands;
}

-- where a run stops between two lines for want of memory
pub at_stop : (text rest : List ℕ) (n : ℕ) (w v : Written) (s t : Seen) (first world : World) → IsNew false first
    → HasHandledLines text rest n (effects w s, first) (effects v t, world) → WentThrough text (Err Memory) (effects w s) (effects v t)
at_stop text rest n w v s t first world fresh is = record {
  lines = is.handles.lines;
  earlier = is.earlier;
  later = lines_of rest;
  at = is.at;
  spelled = is.handles.spelled;
  so = between (answered is.earlier w v s t first world fresh is.handles) is.handles.wrote;
  theorem = keeps_now is.handles.lines s t first world is.handles.went fresh is.handles.stands;
}

-- ---- a line that ends the run

-- a text of the lines was met, and calls were made at it
pub record IsMet (cut : TextCut) (n m : ℕ) (z : Seen) (start now : Effects × World) : Type 0 where
  pub fresh : IsNew false start.1
  pub is : HasHandledLines cut.whole cut.rest n start now
  pub split : lines_of cut.rest ≡ cut.line ∷ lines_of cut.behind
  pub next : m ≡ n + 1
  pub grows : Grows m now.0.cloud z

met_count : {text rest behind line : List ℕ} {n m : ℕ} {w v : Written} {s t z : Seen} {first old : World}
    → (met : IsMet (text_cut text rest behind line) n m z (effects w s, first) (effects v t, old)) → m ≡ length met.is.handles.lines + 1
met_count {text} {rest} {behind} {line} {n} {m} met =
    let at : length met.is.earlier ≡ n = met.is.count in
    let k : length met.is.handles.lines ≡ length met.is.earlier = spelled_length met.is.earlier met.is.handles.lines met.is.handles.spelled in
    let next : m ≡ n + 1 = met.next in
    omega arith

-- the reports of what was handled, after calls of a later line
keeps : {text rest behind line : List ℕ} {n m : ℕ} {w v : Written} {s t z : Seen} {first old : World}
    → (met : IsMet (text_cut text rest behind line) n m z (effects w s, first) (effects v t, old)) → KeepsTheTheorem met.is.handles.lines s z
keeps {text} {rest} {behind} {line} {n} {m} {w} {v} {s} {t} {z} {first} {old} met x told empty =
    let h = met.is.handles in
    let o = h.stands x told empty in
    let g = met.grows o.0 o.1 in
    let count : m ≡ length h.lines + 1 = met_count met in (
      g.0,
      g.1,
      λ k line at.
          let within : k < length h.lines = slice_get_within h.lines k line at in
          let a : AgreeUpto (k + 1) o.0 g.0 = g.2 (k + 1) (omega arith) in
          report_same (take (k + 1) h.lines) (upto o.0 (k + 1)) (upto g.0 (k + 1)) line.reply (record { versions = a.versions; messages = a.messages; trace = a.trace }) (o.3 k line at),
      replies_sound h.lines s t first old x h.went met.fresh told empty,
      acts_upto h.lines old o.0 g.0 o.2 (g.2 (length h.lines) (omega (arith, count))),
      stay_upto h.lines o.0 g.0 (λ j within. g.2 j (omega (arith, count))) (acknowledged_stay h.lines s t first old x o.0 h.went met.fresh told empty o.1),
      g.3 o.4,
    )

-- the run ends before a text that has no reply
ends_before : {text rest behind line : List ℕ} {n m : ℕ} {w v : Written} {s t z : Seen} {first old : World}
    → (ended : Result (Unit {0}) LineFault) (u : Written) → (met : IsMet (text_cut text rest behind line) n m z (effects w s, first) (effects v t, old))
    → Ended ended met.is.handles.lines (line ∷ lines_of behind) (effects w s) (effects u z) → WentThrough text ended (effects w s) (effects u z)
ends_before {text} {rest} {behind} {line} ended u met so = record {
  lines = met.is.handles.lines;
  earlier = met.is.earlier;
  later = line ∷ lines_of behind;
  at = met.is.at ∙ ap (λ ls. met.is.earlier ++ ls) met.split;
  spelled = met.is.handles.spelled;
  so = so;
  theorem = keeps met;
}

-- the lines with the text's own
went_answer : {text rest behind line : List ℕ} {n m : ℕ} {w v : Written} {s t z : Seen} {first old : World}
    → (met : IsMet (text_cut text rest behind line) n m z (effects w s, first) (effects v t, old)) (new : World) (one : Line) → IsAnswered m one.event (span_of t z old new) one.reply
    → WentOn s first (met.is.handles.lines ++ one ∷ []) z new
went_answer {text} {rest} {behind} {line} {n} {m} {w} {v} {s} {t} {z} {first} {old} met new one a =
    further met.is.handles.lines one t z old new met.is.handles.went (subst (λ j. Handled j one.event (span_of t z old new) (Ok one.reply)) (met_count met) a.handled)

with_answer : {text rest behind line : List ℕ} {n m : ℕ} {w v : Written} {s t z : Seen} {first old : World}
    → (met : IsMet (text_cut text rest behind line) n m z (effects w s, first) (effects v t, old)) (new : World) (one : Line) → IsAnswered m one.event (span_of t z old new) one.reply
    → AreAnswered false (met.is.handles.lines ++ one ∷ []) s z
with_answer {text} {rest} {behind} {line} {n} {m} {w} {v} {s} {t} {z} {first} {old} met new one a =
    let went : WentOn s first (met.is.handles.lines ++ one ∷ []) z new = went_answer met new one a in
    record {
      first = first;
      fresh = met.fresh;
      last = new;
      went = went;
      explained = λ x told empty. lines_explained (met.is.handles.lines ++ one ∷ []) s z first new x went met.fresh told empty;
      metered = λ x told empty. lines_metered (met.is.handles.lines ++ one ∷ []) s z first new x went met.fresh told empty;
      settled = lines_settled (met.is.handles.lines ++ one ∷ []) s z first new went met.fresh;
      left = lines_left (met.is.handles.lines ++ one ∷ []) s z first new went met.fresh;
      reports = λ x told empty. reports_come (met.is.handles.lines ++ one ∷ []) s z first new x went met.fresh told empty;
      kinds = λ x told. went_adds s first x told met.fresh (met.is.handles.lines ++ one ∷ []) z new went;
      once = lines_once (met.is.handles.lines ++ one ∷ []) s z first new went met.fresh;
      caused = lines_caused s first (met.is.handles.lines ++ one ∷ []) z new went;
      told = lines_told s first (met.is.handles.lines ++ one ∷ []) z new went;
    }

-- the run ends behind a text that has a reply
ends_behind : {text rest behind line : List ℕ} {n m : ℕ} {w v : Written} {s t z : Seen} {first old : World}
    → (ended : Result (Unit {0}) LineFault) (u : Written) (new : World) (one : Line) → (met : IsMet (text_cut text rest behind line) n m z (effects w s, first) (effects v t, old))
    → IsEvent line one.event → IsAnswered m one.event (span_of t z old new) one.reply
    → Ended ended (met.is.handles.lines ++ one ∷ []) (lines_of behind) (effects w s) (effects u z) → WentThrough text ended (effects w s) (effects u z)
ends_behind {text} {rest} {behind} {line} {n} {m} {w} {v} {s} {t} {z} {first} {old} ended u new one met spells a so =
    let h = met.is.handles in
    let count : m ≡ length h.lines + 1 = met_count met in
    record {
      lines = h.lines ++ one ∷ [];
      earlier = met.is.earlier ++ line ∷ [];
      later = lines_of behind;
      at = met.is.at ∙ ap (λ ls. met.is.earlier ++ ls) met.split ∙ sym (append_assoc met.is.earlier (line ∷ []) (lines_of behind));
      spelled = spelled_more met.is.earlier h.lines line one h.spelled spells;
      so = so;
      theorem =
          keeps_now (h.lines ++ one ∷ []) s z first new (went_answer met new one a) met.fresh
          (λ x told empty. let o = h.stands x told empty in stands_more h.lines one m t z old new (omega arith) a.stands met.grows o.0 o.1 o.2 o.3 o.4);
    }

-- the lines before the text, where no call was made at it
before_unmoved : {text rest behind line : List ℕ} {n m : ℕ} {w v : Written} {s t z : Seen} {first old : World}
    → (met : IsMet (text_cut text rest behind line) n m z (effects w s, first) (effects v t, old)) → z ≡ t → AreAnswered false met.is.handles.lines s z
before_unmoved {text} {rest} {behind} {line} {n} {m} {w} {v} {s} {t} {z} {first} {old} met e =
    let h = met.is.handles in
    subst (λ x. AreAnswered false h.lines s x) (sym e) (answered met.is.earlier w v s t first old met.fresh h)

-- the event of the text has no reply
no_answer : {text rest behind line : List ℕ} {n m : ℕ} {w v : Written} {s t z : Seen} {first old : World}
    → (met : IsMet (text_cut text rest behind line) n m z (effects w s, first) (effects v t, old)) (u : Written) (new : World) (event : Event) (fault : WorldFault) → IsEvent line event
    → Handled m event (span_of t z old new) (Err fault) → u ≡ v → EndedBy fault met.is.handles.lines (line ∷ lines_of behind) (effects w s) (effects u z)
no_answer {text} {rest} {behind} {line} {n} {m} {w} {v} {s} {t} {z} {first} {old} met u new event fault spells handled same =
    let h = met.is.handles in
    let own : Handled (length h.lines + 1) event (span_of t z old new) (Err fault) = subst (λ j. Handled j event (span_of t z old new) (Err fault)) (met_count met) handled in
    record {
      event = event;
      spelled = spells;
      handled = record {
        mid = t;
        answered = answered met.is.earlier w v s t first old met.fresh h;
        last = new;
        handled = own;
        short = unanswered_short h.lines event fault s t z first old new h.went met.fresh own;
        kinds = unanswered_kinds h.lines event fault s t z first old new h.went met.fresh own;
        once = unanswered_once h.lines event fault s t z first old new h.went met.fresh own;
        caused = caused (length h.lines + 1) event t z old new (Err fault) own;
      };
      wrote = subst (λ x. AddsEach w x (replies h.lines)) (sym same) h.wrote;
    }

-- the reply was cut
cut_reply : {text rest behind line : List ℕ} {n m : ℕ} {w v : Written} {s t z : Seen} {first old : World}
    → (met : IsMet (text_cut text rest behind line) n m z (effects w s, first) (effects v t, old)) (u : Written) (one : Line) → AddsPart v u (reply_line m one.reply)
    → WroteFront (met.is.handles.lines ++ one ∷ []) (lines_of behind) w u
cut_reply {text} {rest} {behind} {line} {n} {m} {w} {v} met u one front =
    let ls = met.is.handles.lines in
    let count : m ≡ length ls + 1 = met_count met in
    let at : m ≡ length (ls ++ one ∷ []) = omega (arith, length-append ls (one ∷ [])) in
    reply_cut ls one refl (record { between = v; each = met.is.handles.wrote; front = subst (λ j. AddsPart v u (reply_line j one.reply)) at front })

-- the refusal was cut
cut_refusal : {text rest behind line : List ℕ} {n m : ℕ} {w v : Written} {s t z : Seen} {first old : World}
    → (met : IsMet (text_cut text rest behind line) n m z (effects w s, first) (effects v t, old)) (u : Written) → ((event : Event) → IsEvent line event → ⊥) → AddsPart v u (bad_line m)
    → WroteFront met.is.handles.lines (line ∷ lines_of behind) w u
cut_refusal {text} {rest} {behind} {line} {n} {m} {w} {v} met u bad front =
    refusal_cut bad (record { between = v; each = met.is.handles.wrote; front = subst (λ j. AddsPart v u (bad_line j)) (met_count met) front })

by_fault : {text rest behind line : List ℕ} {n m : ℕ} {w v : Written} {s t z : Seen} {first old : World}
    → (u : Written) (new : World) (fault : LineFault) → IsMet (text_cut text rest behind line) n m z (effects w s, first) (effects v t, old)
    → LineWent (Err fault) m line (effects v t, old) (effects u z, new) → WentThrough text (Err fault) (effects w s) (effects u z)
by_fault {text} {rest} {behind} {line} {n} {m} {w} {v} {s} {t} {z} {first} {old} u new BadLine met (event_handled event spells p) = absurd p
by_fault {text} {rest} {behind} {line} {n} {m} {w} {v} {s} {t} {z} {first} {old} u new BadLine met (refused bad e adds) =
    let h = met.is.handles in
    let all = each_more w v u (replies h.lines) (bad_line m ∷ []) h.wrote adds in
    ends_before (Err BadLine) u met (bad, before_unmoved met e, subst (λ j. AddsEach w u (replies h.lines ++ bad_line j ∷ [])) (met_count met) all)
by_fault {text} {rest} {behind} {line} {n} {m} {w} {v} {s} {t} {z} {first} {old} u new BadLine met (unread e f same) = absurd (cc)
by_fault {text} {rest} {behind} {line} {n} {m} {w} {v} {s} {t} {z} {first} {old} u new WriteFault met (event_handled event spells p) =
    let one : Line = record { event = event; reply = p.0 } in
    ends_behind (Err WriteFault) u new one met spells p.1 (with_answer met new one p.1, cut_reply met u one p.2)
by_fault {text} {rest} {behind} {line} {n} {m} {w} {v} {s} {t} {z} {first} {old} u new WriteFault met (refused bad e front) = ends_before (Err WriteFault) u met (before_unmoved met e, cut_refusal met u bad front)
by_fault {text} {rest} {behind} {line} {n} {m} {w} {v} {s} {t} {z} {first} {old} u new WriteFault met (unread e f same) = absurd (cc)
by_fault {text} {rest} {behind} {line} {n} {m} {w} {v} {s} {t} {z} {first} {old} u new Memory met (event_handled event spells (inl p)) =
    let one : Line = record { event = event; reply = p.0 } in
    ends_behind (Err Memory) u new one met spells p.1 (writing (with_answer met new one p.1) (cut_reply met u one p.2))
by_fault {text} {rest} {behind} {line} {n} {m} {w} {v} {s} {t} {z} {first} {old} u new Memory met (event_handled event spells (inr p)) = ends_before (Err Memory) u met (handling (no_answer met u new event world.Memory spells p.0 p.1))
by_fault {text} {rest} {behind} {line} {n} {m} {w} {v} {s} {t} {z} {first} {old} u new Memory met (refused bad e front) = ends_before (Err Memory) u met (writing (before_unmoved met e) (cut_refusal met u bad front))
by_fault {text} {rest} {behind} {line} {n} {m} {w} {v} {s} {t} {z} {first} {old} u new Memory met (unread e f same) =
    let h = met.is.handles in
    ends_before (Err Memory) u met (between (before_unmoved met f) (subst (λ x. AddsEach w x (replies h.lines)) (sym same) h.wrote))

pub at_fault : (text rest behind line : List ℕ) (n m : ℕ) (w v u : Written) (s t z : Seen) (first old new : World) (fault : LineFault)
    → IsNew false first → HasHandledLines text rest n (effects w s, first) (effects v t, old) → lines_of rest ≡ line ∷ lines_of behind → m ≡ n + 1
    → LineWent (Err fault) m line (effects v t, old) (effects u z, new) → Grows m t z → WentThrough text (Err fault) (effects w s) (effects u z)
at_fault text rest behind line n m w v u s t z first old new fault fresh is split next went grows =
    let met : IsMet (text_cut text rest behind line) n m z (effects w s, first) (effects v t, old) = record { fresh = fresh; is = is; split = split; next = next; grows = grows } in
    by_fault u new fault met went
