-- What each line adds to the trace of any cloud is of its kind.
use Rattle.std.proofs.Common.{◌≡◌, ◌+◌, ◌≤◌, ℕ, List, [], ◌∷◌, ◌++◌, length, Ok, Err, Result, None, refl, sym, subst, inl, inr}
use Rattle.db_base.specs.Ids.{IsSession}
use Rattle.db_base.specs.declared.refusal.Refused.{Refused}
use Rattle.db_base.specs.declared.refusal.Refused.TheVariants as refused
use Rattle.event_text.specs.declared.event.Event.{Event}
use Rattle.event_text.specs.declared.event.Event.TheVariants as event
use Rattle.reply_text.specs.declared.reply.Reply.{Reply}
use Rattle.reply_text.specs.declared.reply.Reply.TheVariants as reply
use Rattle.txn_buffer.specs.Noted.{Noted}
use Rattle.cloud_trait.specs.State.{CloudState}
use Rattle.cloud_trait.specs.Seen.{Seen}
use Rattle.client_work.specs.declared.op.Op.TheVariants as op
use Rattle.client_work.specs.declared.work.Work.TheVariants as work
use Rattle.client_work.specs.Session.{Acting, rule_of, paging_begun_by, folding_begun_by}
use Rattle.replay_meaning.specs.Standing.{Line, Standing, standing, after_own, session_of, joins}
use Rattle.session_facts.specs.Lines.Facts.{ActsAs}
use Rattle.session_facts.proofs.Lines.More.{line_of, refused_own}
use Rattle.session_facts.specs.Lines.Errands.{settles, sweeps}
use Rattle.world_core.specs.World.{World}
use Rattle.world_core.specs.declared.asked.Noting.{Noting}
use Rattle.world_core.specs.declared.asked.Request.{Request}
use Rattle.world_core.specs.declared.asked.Request.TheVariants.{Begin, Note, Abort, Policy, Work as WorksDue, Step, Run, Crash}
use Rattle.world_core.specs.declared.asked.Asked.{Asked}
use Rattle.world_core.specs.declared.asked.Asked.TheVariants.{Session, Wait, Report, Settle, Sweep}
use Rattle.world_core.specs.Asked.{bound_of, IsOpening, IsReading, IsScanning, IsLookingUp, IsPaging, IsFolding, IsNoted, IsStep, OfSession, Asks, noting_of}
use Rattle.world_core.specs.Replying.{done_reply}
use Rattle.world_core.specs.Sessions.{NotesIn, AbortsIn, joined}
use Rattle.world_core.specs.Handled.{NotesChange, DropsChanges, Does, Answers, Handled}
use Rattle.world_core.specs.Added.{WorldAdds}
use Rattle.world_core.specs.Span.{span_of}
use Rattle.world_core.proofs.WorkerRows.{adds_work}
use Rattle.world_core.proofs.AddedSteps.{adds_policy, adds_declined, adds_quietly, adds_step, adds_run, adds_crash, adds_errand, adds_wait, adds_report}
use Rattle.world_core.proofs.BeginLemmas.{IsOk, refused_is, opens, has_in_hand, commits, reads, scans, looks, works_with}
use Rattle.world_core.proofs.EveryLine.{does_own, asked_is}

-- a request to a session is served, or it is not done
request_adds : (n k : ℕ) (event : Event) (Is : Result Request Refused → Type 0) (asked : Asked) (before after : Seen) (old new : World) (r : Reply) (lines : List Line) (first : CloudState)
    → OfSession k Is asked → Answers n asked (span_of before after old new) (Ok r) → WorldAdds lines first old before
    → ((request : Request) → 1 ≤ k → Is (Ok request) → Does (record { session = k; event = n }) request (span_of before after old new) (Ok r) → WorldAdds (lines ++ line_of event r ∷ []) first new after)
    → WorldAdds (lines ++ line_of event r ∷ []) first new after
request_adds n k event Is (Session number (Ok request)) before after old new r lines first belongs (inl p) w served =
    let own : IsSession k = subst IsSession belongs.0 p.0 in
    served request own.some belongs.1 (subst (λ j. Does (record { session = j; event = n }) request (span_of before after old new) (Ok r)) belongs.0 p.1)
request_adds n k event Is (Session number (Err why)) before after old new r lines first belongs (inl p) w served =
    adds_declined lines event r why first before after old new p.1 w
request_adds n k event Is (Session number request) before after old new r lines first belongs (inr none) w served =
    adds_declined lines event r _ first before after old new none.declines w
request_adds n k event Is (Wait ticks) before after old new r lines first belongs answers w served = absurd belongs
request_adds n k event Is (Report tree) before after old new r lines first belongs answers w served = absurd belongs
request_adds n k event Is Settle before after old new r lines first belongs answers w served = absurd belongs
request_adds n k event Is (Sweep tree) before after old new r lines first belongs answers w served = absurd belongs

-- ---- a change is noted, and changes are dropped

-- another buffer of an open client
acts_with : (a b : Acting) (s : Standing) (buffer : List Noted) → b ≡ record a { buffer = buffer } → rule_of a.work ≡ None → ActsAs a s → ActsAs b (record s { buffer = buffer })
acts_with a b s buffer is opened acts =
    subst (λ z. ActsAs z (record s { buffer = buffer })) (sym is) (record { buffer = refl; work = works_with a.work s buffer opened acts.work })

-- a refusal leaves the session as it was
acts_refused : (event : Event) (r : Reply) (why : Refused) (a b : Acting) (s : Standing) → IsOk r (done_reply reply.Noted (Err why)) → b ≡ a → ActsAs a s → ActsAs b (after_own event r s)
acts_refused event r (refused.Rule rule) a b s e same acts =
    subst (λ z. ActsAs b (after_own event z s)) (sym (refused_is r rule e))
    (subst (ActsAs b) (sym (refused_own event rule s)) (subst (λ z. ActsAs z s) (sym same) acts))
acts_refused event r refused.Memory a b s e same acts = absurd (cc (e))

notes_acts : (event : Event) (noting : Noting) (r : Reply) (a b : Acting) (s : Standing) → ((q : Reply) (z : Standing) → after_own event q z ≡ joins (joined noting) q z)
    → NotesChange noting (Ok r) a b → ActsAs a s → ActsAs b (after_own event r s)
notes_acts event noting r a b s own p acts = on p.noted p.notes p.replies
  where
    on : (noted : Result (Unit {0}) Refused) → NotesIn noting a b noted → IsOk r (done_reply reply.Noted noted) → ActsAs b (after_own event r s)
    on (Ok done) h e =
        let is : r ≡ reply.Noted = cc in
        subst (λ z. ActsAs b (after_own event z s)) (sym is)
        (subst (ActsAs b) (sym (own reply.Noted s))
        (subst (λ buffer. ActsAs b (record s { buffer = joined noting buffer })) acts.buffer
        (acts_with a b s (joined noting a.buffer) h.0 h.1 acts)))
    on (Err why) h e = acts_refused event r why a b s e h.0 acts

aborts_acts : (k : ℕ) (r : Reply) (a b : Acting) (s : Standing) → DropsChanges (Ok r) a b → ActsAs a s → ActsAs b (after_own (event.Abort k) r s)
aborts_acts k r a b s p acts = on p.dropped p.drops p.replies
  where
    on : (dropped : Result (Unit {0}) Refused) → AbortsIn a b dropped → IsOk r (done_reply reply.Aborted dropped) → ActsAs b (after_own (event.Abort k) r s)
    on (Ok done) h e =
        let is : r ≡ reply.Aborted = cc in
        subst (λ z. ActsAs b (after_own (event.Abort k) z s)) (sym is) (acts_with a b s [] h.0 h.1 acts)
    on (Err why) h e = acts_refused (event.Abort k) r why a b s e h.0 acts

noted_adds : (lines : List Line) (event : Event) (n k : ℕ) (noting : Noting) (request : Request) (before after : Seen) (old new : World) (r : Reply) (first : CloudState)
    → session_of event ≡ k → 1 ≤ k → ((q : Reply) (s : Standing) → after_own event q s ≡ joins (joined noting) q s)
    → WorldAdds lines first old before → IsNoted noting (Ok request) → Does (record { session = k; event = n }) request (span_of before after old new) (Ok r) → WorldAdds (lines ++ line_of event r ∷ []) first new after
noted_adds lines event n k noting (Note asked) before after old new r first own some does w is done =
    let h : Does (record { session = k; event = n }) (Note noting) (span_of before after old new) (Ok r) = subst (λ j. Does (record { session = k; event = n }) (Note j) (span_of before after old new) (Ok r)) is.0 done in
    adds_quietly lines event r k first before after old new _ own some h.0 h.1
    (notes_acts event noting r h.1.before h.1.after (standing lines k) does h.1.does) w
noted_adds lines event n k noting (Begin o) before after old new r first own some does w is done = absurd is
noted_adds lines event n k noting (Policy role number) before after old new r first own some does w is done = absurd is
noted_adds lines event n k noting WorksDue before after old new r first own some does w is done = absurd is
noted_adds lines event n k noting Abort before after old new r first own some does w is done = absurd is
noted_adds lines event n k noting (Step wish) before after old new r first own some does w is done = absurd is
noted_adds lines event n k noting Run before after old new r first own some does w is done = absurd is
noted_adds lines event n k noting (Crash d) before after old new r first own some does w is done = absurd is

-- ---- every line

module _ (n : ℕ) (before after : Seen) (old new : World) (r : Reply) (lines : List Line) (first : CloudState) (at : length lines + 1 ≡ n) (w : WorldAdds lines first old before) where
  -- what a line of this event leaves
  abbrev Adds : Event → Type 0
  Adds event = WorldAdds (lines ++ line_of event r ∷ []) first new after

  by_request : (k : ℕ) (event : Event) (Is : Result Request Refused → Type 0) (asked : Asked) → OfSession k Is asked → Answers n asked (span_of before after old new) (Ok r)
      → ((request : Request) → 1 ≤ k → Is (Ok request) → Does (record { session = k; event = n }) request (span_of before after old new) (Ok r) → Adds event) → Adds event
  by_request k event Is asked asks answers served = request_adds n k event Is asked before after old new r lines first asks answers w served

  does : (k : ℕ) (request own : Request) → request ≡ own → Does (record { session = k; event = n }) request (span_of before after old new) (Ok r) → Does (record { session = k; event = n }) own (span_of before after old new) (Ok r)
  does k request own is done = does_own n k request own before after old new r is done

  asked_adds : (event : Event) (asked : Asked) → Asks event asked → Answers n asked (span_of before after old new) (Ok r) → Adds event
  asked_adds (event.Open k client) asked asks answers = by_request k (event.Open k client) (IsOpening client) asked asks answers
      (λ request some is done.
      let h = does k request (Begin (op.Open client)) is.1 done in
      adds_quietly lines (event.Open k client) r k first before after old new _ refl some h.0 h.1
      (λ acts. (opens k client r lines h.1.before h.1.after h.1.does.begun acts h.1.does.begins h.1.does.replies).0) w)
  asked_adds (event.Read k tree key) asked asks answers = by_request k (event.Read k tree key) (IsReading tree key) asked asks answers
      (λ request some is done.
      let h = does k request (Begin (op.Read tree key)) is.2 done in
      adds_quietly lines (event.Read k tree key) r k first before after old new _ refl some h.0 h.1
      (λ acts. (reads k tree key r lines h.1.before h.1.after h.1.does.begun acts h.1.does.begins h.1.does.replies).0) w)
  asked_adds (event.Scan k tree low high) asked asks answers = by_request k (event.Scan k tree low high) (IsScanning tree low high) asked asks answers
      (λ request some is done.
      let h = does k request (Begin (op.Scan tree (bound_of low) (bound_of high))) is.3 done in
      adds_quietly lines (event.Scan k tree low high) r k first before after old new _ refl some h.0 h.1
      (λ acts. (scans k tree low high r lines h.1.before h.1.after h.1.does.begun acts h.1.does.begins h.1.does.replies).0) w)
  asked_adds (event.Lookup k tree attr) asked asks answers = by_request k (event.Lookup k tree attr) (IsLookingUp tree attr) asked asks answers
      (λ request some is done.
      let h = does k request (Begin (op.Lookup tree attr)) is.2 done in
      adds_quietly lines (event.Lookup k tree attr) r k first before after old new _ refl some h.0 h.1
      (λ acts. (looks k tree attr r lines h.1.before h.1.after h.1.does.begun acts h.1.does.begins h.1.does.replies).0) w)
  asked_adds (event.Page k tree page) asked asks answers = by_request k (event.Page k tree page) (IsPaging tree page) asked asks answers
      (λ request some is done.
      let h = does k request (Begin (op.Page tree page)) is.2 done in
      adds_quietly lines (event.Page k tree page) r k first before after old new _ refl some h.0 h.1
      (λ acts. (has_in_hand (event.Page k tree page) k r lines (paging_begun_by tree page) h.1.before h.1.after h.1.does.begun acts
      (λ home idle. record { buffer = acts.buffer; work = (refl, idle.1) }) h.1.does.begins h.1.does.replies).0) w)
  asked_adds (event.Tree k tree) asked asks answers = by_request k (event.Tree k tree) (IsFolding tree) asked asks answers
      (λ request some is done.
      let h = does k request (Begin (op.Tree tree)) is.1 done in
      adds_quietly lines (event.Tree k tree) r k first before after old new _ refl some h.0 h.1
      (λ acts. (has_in_hand (event.Tree k tree) k r lines (folding_begun_by tree) h.1.before h.1.after h.1.does.begun acts
      (λ home idle. record { buffer = acts.buffer; work = (refl, idle.1, tt) }) h.1.does.begins h.1.does.replies).0) w)
  asked_adds (event.Close k) asked asks answers = by_request k (event.Close k) (λ request. request ≡ Ok (Begin op.Close)) asked asks answers
      (λ request some is done.
      let h = does k request (Begin op.Close) (asked_is request (Begin op.Close) is) done in
      adds_quietly lines (event.Close k) r k first before after old new _ refl some h.0 h.1
      (λ acts. (has_in_hand (event.Close k) k r lines (λ home. work.Closing home.lease) h.1.before h.1.after h.1.does.begun acts
      (λ home idle. record { buffer = acts.buffer; work = refl }) h.1.does.begins h.1.does.replies).0) w)
  asked_adds (event.Renew k) asked asks answers = by_request k (event.Renew k) (λ request. request ≡ Ok (Begin op.Renew)) asked asks answers
      (λ request some is done.
      let h = does k request (Begin op.Renew) (asked_is request (Begin op.Renew) is) done in
      adds_quietly lines (event.Renew k) r k first before after old new _ refl some h.0 h.1
      (λ acts. (has_in_hand (event.Renew k) k r lines (λ home. work.Renewing home) h.1.before h.1.after h.1.does.begun acts
      (λ home idle. record { buffer = acts.buffer; work = (refl, idle.1) }) h.1.does.begins h.1.does.replies).0) w)
  asked_adds (event.Commit k) asked asks answers = by_request k (event.Commit k) (λ request. request ≡ Ok (Begin op.Commit)) asked asks answers
      (λ request some is done.
      let h = does k request (Begin op.Commit) (asked_is request (Begin op.Commit) is) done in
      adds_quietly lines (event.Commit k) r k first before after old new _ refl some h.0 h.1
      (λ acts. (commits k r lines h.1.before h.1.after h.1.does.begun acts h.1.does.begins h.1.does.replies).0) w)
  asked_adds (event.Abort k) asked asks answers = by_request k (event.Abort k) (λ request. request ≡ Ok Abort) asked asks answers
      (λ request some is done.
      let h = does k request Abort (asked_is request Abort is) done in
      adds_quietly lines (event.Abort k) r k first before after old new _ refl some h.0 h.1 (aborts_acts k r h.1.before h.1.after (standing lines k) h.1.does) w)
  asked_adds (event.Policy k role number) asked asks answers = by_request k (event.Policy k role number) (λ request. request ≡ Ok (Policy role number)) asked asks answers
      (λ request some is done. adds_policy lines first k number role r before after old new w (does k request (Policy role number) (asked_is request (Policy role number) is) done))
  asked_adds (event.Work k) asked asks answers = by_request k (event.Work k) (λ request. request ≡ Ok WorksDue) asked asks answers
      (λ request some is done. adds_work lines first k n r before after old new at some w (does k request WorksDue (asked_is request WorksDue is) done))
  asked_adds (event.Step k wish) asked asks answers = by_request k (event.Step k wish) (IsStep wish) asked asks answers
      (λ request some is done. adds_step lines first k n wish r before after old new at some w (does k request (Step wish) is done))
  asked_adds (event.Run k) asked asks answers = by_request k (event.Run k) (λ request. request ≡ Ok Run) asked asks answers
      (λ request some is done. adds_run lines first k n r before after old new at some w (does k request Run (asked_is request Run is) done))
  asked_adds (event.Crash k d) asked asks answers = by_request k (event.Crash k d) (λ request. request ≡ Ok (Crash d)) asked asks answers
      (λ request some is done. adds_crash lines first k n d r before after old new at some w (does k request (Crash d) (asked_is request (Crash d) is) done))
  asked_adds (event.Wait ticks) asked asks answers =
      adds_wait lines first ticks r before after old new w (subst (λ z. Answers n z (span_of before after old new) (Ok r)) asks answers)
  asked_adds (event.Report tree) asked asks answers =
      adds_report lines first tree r before after old new w (subst (λ z. Answers n z (span_of before after old new) (Ok r)) asks answers)
  asked_adds event.Settle asked asks answers =
      adds_errand settles lines first n r before after old new at w (subst (λ z. Answers n z (span_of before after old new) (Ok r)) asks answers)
  asked_adds (event.Sweep number) (Sweep (Ok tree)) asks answers =
      subst (λ (k : ℕ). WorldAdds (lines ++ line_of (event.Sweep k) r ∷ []) first new after) asks.0 (adds_errand (sweeps tree) lines first n r before after old new at w answers.1)
  asked_adds (event.Sweep number) (Sweep (Err why)) asks answers = adds_declined lines (event.Sweep number) r why first before after old new answers w
  asked_adds (event.Sweep number) asked asks answers = absurd asks
  asked_adds e asked asks answers = by_request (session_of e) e (IsNoted (noting_of e)) asked asks answers
      (λ request some is done. noted_adds lines e n (session_of e) (noting_of e) request before after old new r first refl some (λ q z. refl) w is done)

-- a line that was handled
pub handled_adds : (n : ℕ) (event : Event) (before after : Seen) (old new : World) (r : Reply) (lines : List Line) (first : CloudState) → length lines + 1 ≡ n
    → Handled n event (span_of before after old new) (Ok r) → WorldAdds lines first old before → WorldAdds (lines ++ line_of event r ∷ []) first new after
handled_adds n event before after old new r lines first at h w = asked_adds n before after old new r lines first at w event h.asked h.asks h.answers
