-- After a call a session stands as the lines say.
use Rattle.std.proofs.Common.{◌≡◌, ◌⊎◌, inl, inr, ℕ, List, [], refl, sym, ap, subst, ◌∙◌}
use Rattle.cloud_facts.specs.Words.{Trouble, CommitAnswer, Answer as Heard, Turn, More, Ended, Stopped, Caller, Seen, Goes, Ends, Stops}
use Rattle.db_base.specs.declared.trouble.Trouble.TheVariants as trouble
use Rattle.db_base.specs.declared.trouble.CommitAnswer.TheVariants.{Committed, NotCommitted, InDoubt, CommittedOpen}
use Rattle.txn_buffer.specs.Noted.{Noted}
use Rattle.cloud_trait.specs.Machine.{LeadsBy, Took}
use Rattle.db_base.specs.declared.pair.Pair.{Pair}
use Rattle.range_scan.specs.Scan.{Scan, scan_next, moved_on, KeepsServed}
use Rattle.recover_run.specs.declared.home.Home.{Home}
use Rattle.recover_run.specs.declared.stage.RecoverAnswer.TheVariants.{Opened}
use Rattle.commit_run.specs.Run.{Run, home_of as home_of_run}
use Rattle.attr_index.specs.Look.{Query}
use Rattle.client_work.specs.Shows.{own_of}
use Rattle.client_work.specs.declared.answer.Answer.{Answer}
use Rattle.client_work.specs.declared.answer.Answer.TheVariants as answer
use Rattle.client_work.specs.declared.listing.Listing.{Listing}
use Rattle.client_work.specs.declared.shown.Shown.{Shown}
use Rattle.client_work.specs.declared.work.Work.{Work}
use Rattle.client_work.specs.declared.work.Work.TheVariants.{Closed, Idle, Opening, Committing, Reading, Scanning, Looking, Paging, Folding, Closing, Renewing, Settling, Sweeping, Broken}
use Rattle.page_cache.specs.Cache.{Cache}
use Rattle.tree_walk.specs.Walk.{sought}
use Rattle.client_work.specs.Session.{Follows, StepsAt, ShowsAt, noted_behind, opened_work, committed_work, stopped_work, acting_of}
use Rattle.reply_text.specs.declared.reply.Reply.{Reply}
use Rattle.reply_text.specs.declared.reply.Reply.TheVariants as reply
use Rattle.replay_meaning.specs.Standing.{Standing, Posture, Working, Opening as OpeningTask, Closing as ClosingTask, Renewing as RenewingTask, Committing as Noting, Reading as ReadingKey, LookingUp, Paging as PagingPage, Folding as FoldingTree, steps, answered, idle, broken, shut}
use Rattle.session_facts.specs.Lines.Facts.{WorksAs}
use Rattle.session_facts.proofs.Machines.TreeCheckpoints.Stays.{tree_stays}
use Rattle.session_facts.proofs.Machines.Openings.Stays.{OpensFor, opens_on}
use Rattle.session_facts.proofs.Machines.CommitRuns.Stays.{RunsFor, AnyAnswer, runs_on}
use Rattle.session_facts.proofs.Machines.PageCheckpoints.Stays.{same_page}
use Rattle.session_facts.proofs.Machines.Openings.SettledHeads.{settled_on}
use Rattle.session_facts.proofs.Machines.Looks.Stays.{look_goes_for}
use Rattle.session_facts.proofs.Machines.Walks.Stays.{reading_goes}
use Rattle.session_facts.proofs.Machines.Scans.Stays.{range_of, scanning_goes, scanning_ends, moved_range}

-- the reply shows the answer; want of memory has none
abbrev pub IsReplyTo : Answer → Reply → Type 0
IsReplyTo (answer.Opened epoch) r = r ≡ reply.Opened epoch
IsReplyTo answer.Closed r = r ≡ reply.Closed
IsReplyTo (answer.Renewed end) r = r ≡ reply.Renewed end
IsReplyTo (answer.Done n) r = r ≡ reply.Done n
IsReplyTo answer.Value r = (r ≡ reply.NoValue) ⊎ ((payload : List ℕ) × (r ≡ reply.Value payload))
IsReplyTo answer.Scan r = (pairs : List Pair) × (r ≡ reply.Scan pairs)
IsReplyTo (answer.Settled n) r = r ≡ reply.Settled n.calls
IsReplyTo (answer.Swept x) r = r ≡ reply.Swept x.kept x.removed
IsReplyTo (answer.Commit a) r = r ≡ reply.Commit a
IsReplyTo (answer.Trouble t) r = (r ≡ reply.Trouble t) × (t ≡ trouble.Memory → ⊥)

-- another work that is the same
works_same : (w z : Work) (s : Standing) → w ≡ z → WorksAs z s → WorksAs w s
works_same w z s e h = subst (λ x. WorksAs x s) (sym e) h

-- ---- a step that goes on

-- a scan that goes on looks through the same range
scan_goes_as : (home : Home) (buffer : List Noted) (l : Listing) (c d : Cache) (n : Scan) (a : Heard) (moved : Turn ℕ) (new : Work) (shows : Shown) (s : Standing)
    → Took (LeadsBy scan_next) KeepsServed (l.scan, c) a (n, d) moved → Follows home (record { scan = n; pairs = l.pairs }) moved (acting_of buffer new d shows) More
    → WorksAs (Scanning home l) s → WorksAs new s
scan_goes_as home buffer l c d n a More new shows s took f acts =
    works_same new (Scanning home (record { scan = n; pairs = l.pairs })) s f.0 (acts.0 ∙ sym (scanning_goes l.scan n c d a took), acts.1)
scan_goes_as home buffer l c d n a (Ended page) new shows s took (all, listed, goes, is, nothing) acts =
    works_same new (Scanning home (record { scan = moved_on n; pairs = all })) s is (acts.0 ∙ sym (moved_range n ∙ scanning_ends l.scan n c d a page took), acts.1)
scan_goes_as home buffer l c d n a (Stopped t) new shows s took f acts = absurd (cc (f.2))

pub goes_as : (who : Caller) (before after : Seen) (buffer : List Noted) (w new : Work) (c d : Cache) (shows : Shown) (s : Standing) → StepsAt who before after w new More
    → ShowsAt who before after (w, c) (acting_of buffer new d shows) More → WorksAs w s → WorksAs new s
goes_as who before after buffer (Opening m) new c d shows s (sound, p) shown acts =
    let on : OpensFor m.client (Goes p.0) = subst (OpensFor m.client) p.1.took (opens_on m p.1.answer acts.3) in
    works_same new (Opening p.0) s p.2 (acts.0, acts.1 ∙ sym on.0, acts.2, on.1, settled_on m p.0 p.1.answer p.1.took acts.4)
goes_as who before after buffer (Committing r) new c d shows s (sound, e, f, p) (q, none) acts =
    let on : RunsFor AnyAnswer r.draft.writes.changes (home_of_run r).client (Goes (q.0, d)) =
    subst (RunsFor AnyAnswer r.draft.writes.changes (home_of_run r).client) q.1.took (runs_on (r, c) q.1.answer acts.2) in
    works_same new (Committing q.0) s q.2 (acts.0 ∙ ap (λ cs. Working (Noting cs)) (sym on.0), acts.1 ∙ sym on.1, on.2)
goes_as who before after buffer (Reading home m) new c d shows s p shown acts =
    let same = reading_goes m shown.0 c d shown.1.answer shown.1.took in
    works_same new (Reading home shown.0) s shown.2 (acts.0 ∙ ap (λ k. Working (ReadingKey k (sought m))) (sym same.0) ∙ ap (λ k. Working (ReadingKey shown.0.tree k)) (sym same.1), acts.1)
goes_as who before after buffer (Scanning home l) new c d shows s p shown acts = scan_goes_as home buffer l c d shown.scan shown.steps.answer shown.moved new shows s shown.steps.took shown.follows acts
goes_as who before after buffer (Looking home l) new c d shows s p shown acts =
    let same = look_goes_for (own_of home buffer) l shown.0 c d shown.1.walked.answer shown.1.took in
    works_same new (Looking home shown.0) s shown.2 (acts.0 ∙ ap (λ (q : Query). Working (LookingUp q.tree q.attr)) (sym same), acts.1)
goes_as who before after buffer (Paging home m) new c d shows s p shown acts =
    let same = same_page m p.0 p.1.answer p.1.took in
    works_same new (Paging home p.0) s p.2 (acts.0 ∙ ap (λ k. Working (PagingPage k m.page)) (sym same.0) ∙ ap (λ k. Working (PagingPage p.0.tree k)) (sym same.1), acts.1)
goes_as who before after buffer (Folding home f) new c d shows s p shown acts =
    let same : p.0.tree ≡ f.tree = p.1.took.0.0 in
    works_same new (Folding home p.0) s p.2 (acts.0 ∙ ap (λ k. Working (FoldingTree k)) (sym same), acts.1, tree_stays f p.0 p.1.answer p.1.took acts.2)
goes_as who before after buffer (Closing lease) new c d shows s p shown acts = absurd p
goes_as who before after buffer (Renewing home) new c d shows s p shown acts = absurd p
goes_as who before after buffer (Settling m) new c d shows s p shown acts = absurd acts
goes_as who before after buffer (Sweeping m) new c d shows s p shown acts = absurd acts
goes_as who before after buffer Closed new c d shows s p shown acts = absurd p
goes_as who before after buffer (Idle home) new c d shows s p shown acts = absurd p
goes_as who before after buffer (Broken lease) new c d shows s p shown acts = absurd p

-- and what it noted stays
pub goes_noted : (who : Caller) (before after : Seen) (w new : Work) (buffer : List Noted) → StepsAt who before after w new More → noted_behind w buffer ≡ buffer
goes_noted who before after (Opening m) new buffer p = refl
goes_noted who before after (Committing m) new buffer p = refl
goes_noted who before after (Reading home m) new buffer p = refl
goes_noted who before after (Scanning home m) new buffer p = refl
goes_noted who before after (Looking home l) new buffer p = refl
goes_noted who before after (Paging home m) new buffer p = refl
goes_noted who before after (Folding home f) new buffer p = refl
goes_noted who before after (Closing lease) new buffer p = absurd p
goes_noted who before after (Renewing home) new buffer p = refl
goes_noted who before after (Settling m) new buffer p = refl
goes_noted who before after (Sweeping m) new buffer p = refl
goes_noted who before after Closed new buffer p = refl
goes_noted who before after (Idle home) new buffer p = refl
goes_noted who before after (Broken lease) new buffer p = refl

-- ---- a step that is answered

-- how a session stands after an answer: its work as the reply says, and what its buffer is behind the work
pub record StandsEnded (w new : Work) (s after : Standing) : Type 0 where
  pub work : WorksAs new after
  pub buffer : after.buffer ≡ noted_behind w s.buffer

ends_at : (w new : Work) (s after is : Standing) → after ≡ is → WorksAs new is → is.buffer ≡ noted_behind w s.buffer → StandsEnded w new s after
ends_at w new s after is e works buffer = record {
  work = subst (WorksAs new) (sym e) works;
  buffer = ap (λ (z : Standing). z.buffer) e ∙ buffer;
}

-- how a session stands after a reply, by what it works on
after_reply : (s is : Standing) (p : Posture) (r q : Reply) → r ≡ q → s.posture ≡ p → steps q s ≡ answered s.posture q s → answered p q s ≡ is → steps r s ≡ is
after_reply s is p r q e f g h = ap (λ z. steps z s) e ∙ g ∙ ap (λ z. answered z q s) f ∙ h

-- an operation that ends and leaves the client open
ends_idle : (w new : Work) (home : Home) (s : Standing) (p : Posture) (r q : Reply) → r ≡ q → s.posture ≡ p → steps q s ≡ answered s.posture q s → answered p q s ≡ idle s
    → new ≡ Idle home → s.client ≡ home.client → s.buffer ≡ noted_behind w s.buffer → StandsEnded w new s (steps r s)
ends_idle w new home s p r q e f g h is client buffer =
    ends_at w new s (steps r s) (idle s) (after_reply s (idle s) p r q e f g h) (works_same new (Idle home) (idle s) is (refl, client)) buffer

-- one that ends in doubt
ends_broken : (w new : Work) (home : Home) (s : Standing) (p : Posture) (r q : Reply) → r ≡ q → s.posture ≡ p → steps q s ≡ answered s.posture q s → answered p q s ≡ broken s
    → new ≡ Broken home.lease → s.buffer ≡ noted_behind w s.buffer → StandsEnded w new s (steps r s)
ends_broken w new home s p r q e f g h is buffer =
    ends_at w new s (steps r s) (broken s) (after_reply s (broken s) p r q e f g h) (works_same new (Broken home.lease) (broken s) is refl) buffer

-- and one that closes the session
ends_shut : (w new : Work) (s : Standing) (p : Posture) (r q : Reply) → r ≡ q → s.posture ≡ p → steps q s ≡ answered s.posture q s → answered p q s ≡ shut s
    → new ≡ Closed → noted_behind w s.buffer ≡ [] → StandsEnded w new s (steps r s)
ends_shut w new s p r q e f g h is buffer =
    ends_at w new s (steps r s) (shut s) (after_reply s (shut s) p r q e f g h) (works_same new Closed (shut s) is refl) (sym buffer)

commit_ends : (s : Standing) (m : Run) (new : Work) (a : CommitAnswer) (home : Home) (r : Reply) → r ≡ reply.Commit a → s.posture ≡ Working (Noting m.draft.writes.changes)
    → s.client ≡ home.client → new ≡ committed_work a home → StandsEnded (Committing m) new s (steps r s)
commit_ends s m new (Committed txn) home r e works client is =
    ends_idle (Committing m) new home s (Working (Noting m.draft.writes.changes)) r (reply.Commit (Committed txn)) e works refl refl is client refl
commit_ends s m new (NotCommitted t) home r e works client is =
    ends_idle (Committing m) new home s (Working (Noting m.draft.writes.changes)) r (reply.Commit (NotCommitted t)) e works refl refl is client refl
commit_ends s m new InDoubt home r e works client is =
    ends_broken (Committing m) new home s (Working (Noting m.draft.writes.changes)) r (reply.Commit InDoubt) e works refl refl is refl
commit_ends s m new (CommittedOpen t) home r e works client is =
    ends_broken (Committing m) new home s (Working (Noting m.draft.writes.changes)) r (reply.Commit (CommittedOpen t)) e works refl refl is refl

-- a trouble that is answered leaves the client open
stopped_idle : (t : Trouble) (home : Home) → (t ≡ trouble.Memory → ⊥) → stopped_work t home ≡ Idle home
stopped_idle trouble.Memory home never = absurd (never refl)
stopped_idle t home never = refl

-- a scan that ends leaves the client open
scan_ends_as : (home : Home) (buffer : List Noted) (l : Listing) (d : Cache) (n : Scan) (moved : Turn ℕ) (new : Work) (shows : Shown) (s : Standing) (a : Answer) (r : Reply)
    → Follows home (record { scan = n; pairs = l.pairs }) moved (acting_of buffer new d shows) (Ended a) → IsReplyTo a r → WorksAs (Scanning home l) s → StandsEnded (Scanning home l) new s (steps r s)
scan_ends_as home buffer l d n More new shows s a r f is acts = absurd (cc (f.2))
scan_ends_as home buffer l d n (Ended page) new shows s answer.Scan r (all, listed, over, e, shown) is acts =
    ends_idle (Scanning home l) new home s (range_of l.scan) r (reply.Scan is.0) is.1 acts.0 refl refl e acts.1 refl
scan_ends_as home buffer l d n (Ended page) new shows s (answer.Trouble t) r f is acts = absurd (is.1 f.0)
scan_ends_as home buffer l d n (Ended page) new shows s a r f is acts = absurd f
scan_ends_as home buffer l d n (Stopped t) new shows s (answer.Trouble k) r f is acts =
    let same : t ≡ k = cc (f.2) in
    ends_idle (Scanning home l) new home s (range_of l.scan) r (reply.Trouble k) is.0 acts.0 refl refl (f.0 ∙ ap (λ q. stopped_work q home) same ∙ stopped_idle k home is.1) acts.1 refl
scan_ends_as home buffer l d n (Stopped t) new shows s a r f is acts = absurd (cc (f.2))

pub ends_as : (who : Caller) (before after : Seen) (w new : Work) (s : Standing) (a : Answer) (r : Reply) → StepsAt who before after w new (Ended a) → IsReplyTo a r → WorksAs w s
    → StandsEnded w new s (steps r s)
ends_as who before after (Opening m) new s (answer.Opened epoch) r (sound, p) is acts =
    let end : OpensFor m.client (Ends p.0 (Opened epoch)) = subst (OpensFor m.client) p.1.took (opens_on m p.1.answer acts.3) in
    ends_idle (Opening m) new end.0 s (Working OpeningTask) r (reply.Opened epoch) is acts.0 refl refl (p.2 ∙ ap opened_work end.1) (acts.1 ∙ sym end.2) refl
ends_as who before after (Opening m) new s (answer.Trouble t) r (sound, p) is acts =
    ends_shut (Opening m) new s (Working OpeningTask) r (reply.Trouble t) is.0 acts.0 refl refl p.2 acts.2
ends_as who before after (Opening m) new s a r p is acts = absurd p.1
ends_as who before after (Committing m) new s (answer.Commit a) r (sound, c, d, p) is acts =
    let end : RunsFor AnyAnswer m.draft.writes.changes (home_of_run m).client (Ends (p.0, d) a) =
    subst (RunsFor AnyAnswer m.draft.writes.changes (home_of_run m).client) p.1.took (runs_on (m, c) p.1.answer acts.2) in
    commit_ends s m new a (home_of_run p.0) r is acts.0 (acts.1 ∙ sym end.0) p.2
ends_as who before after (Committing m) new s (answer.Trouble t) r (sound, c, d, p) is acts =
    let end : RunsFor AnyAnswer m.draft.writes.changes (home_of_run m).client (Stops (p.0, d) t) =
    subst (RunsFor AnyAnswer m.draft.writes.changes (home_of_run m).client) (p.1.took.0 is.1) (runs_on (m, c) p.1.answer acts.2) in
    absurd (is.1 end)
ends_as who before after (Committing m) new s a r (sound, c, d, p) is acts = absurd p
ends_as who before after (Reading home m) new s answer.Value r p (inl is) acts =
    ends_idle (Reading home m) new home s (Working (ReadingKey m.tree (sought m))) r reply.NoValue is acts.0 refl refl p.1 acts.1 refl
ends_as who before after (Reading home m) new s answer.Value r p (inr (payload, is)) acts =
    ends_idle (Reading home m) new home s (Working (ReadingKey m.tree (sought m))) r (reply.Value payload) is acts.0 refl refl p.1 acts.1 refl
ends_as who before after (Reading home m) new s (answer.Trouble t) r p is acts =
    ends_idle (Reading home m) new home s (Working (ReadingKey m.tree (sought m))) r (reply.Trouble t) is.0 acts.0 refl refl (p.1 ∙ stopped_idle t home is.1) acts.1 refl
ends_as who before after (Reading home m) new s a r p is acts = absurd p
ends_as who before after (Scanning home l) new s a r (buffer, c, d, shows, p) is acts =
    scan_ends_as home buffer l d p.scan p.moved new shows s a r p.follows is acts
ends_as who before after (Looking home l) new s answer.Scan r (buffer, c, d, shows, p) is acts =
    ends_idle (Looking home l) new home s (Working (LookingUp l.query.tree l.query.attr)) r (reply.Scan is.0) is.1 acts.0 refl refl p.2 acts.1 refl
ends_as who before after (Looking home l) new s (answer.Trouble t) r (buffer, c, d, shows, p) is acts =
    ends_idle (Looking home l) new home s (Working (LookingUp l.query.tree l.query.attr)) r (reply.Trouble t) is.0 acts.0 refl refl (p.2 ∙ stopped_idle t home is.1) acts.1 refl
ends_as who before after (Looking home l) new s a r (buffer, c, d, shows, p) is acts = absurd p
ends_as who before after (Paging home m) new s (answer.Done n) r p is acts =
    ends_idle (Paging home m) new home s (Working (PagingPage m.tree m.page)) r (reply.Done n) is acts.0 refl refl p.2 acts.1 refl
ends_as who before after (Paging home m) new s (answer.Trouble t) r p is acts =
    ends_idle (Paging home m) new home s (Working (PagingPage m.tree m.page)) r (reply.Trouble t) is.0 acts.0 refl refl (p.2 ∙ stopped_idle t home is.1) acts.1 refl
ends_as who before after (Paging home m) new s a r p is acts = absurd p
ends_as who before after (Folding home f) new s (answer.Done n) r p is acts =
    ends_idle (Folding home f) new home s (Working (FoldingTree f.tree)) r (reply.Done n) is acts.0 refl refl p.2 acts.1 refl
ends_as who before after (Folding home f) new s (answer.Trouble t) r p is acts =
    ends_idle (Folding home f) new home s (Working (FoldingTree f.tree)) r (reply.Trouble t) is.0 acts.0 refl refl (p.2 ∙ stopped_idle t home is.1) acts.1 refl
ends_as who before after (Folding home f) new s a r p is acts = absurd p
ends_as who before after (Closing lease) new s answer.Closed r p is acts =
    ends_shut (Closing lease) new s (Working ClosingTask) r reply.Closed is acts refl refl p.1 refl
ends_as who before after (Closing lease) new s (answer.Trouble t) r p is acts =
    ends_shut (Closing lease) new s (Working ClosingTask) r (reply.Trouble t) is.0 acts refl refl p.1 refl
ends_as who before after (Closing lease) new s a r p is acts = absurd p
ends_as who before after (Renewing home) new s (answer.Renewed end) r p is acts =
    ends_idle (Renewing home) new p.0 s (Working RenewingTask) r (reply.Renewed end) is acts.0 refl refl p.2 (acts.1 ∙ sym (ap (λ (h : Home). h.client) p.1.home)) refl
ends_as who before after (Renewing home) new s (answer.Trouble t) r p is acts =
    ends_idle (Renewing home) new p.0 s (Working RenewingTask) r (reply.Trouble t) is.0 acts.0 refl refl (p.2 ∙ stopped_idle t p.0 is.1)
    (acts.1 ∙ sym (ap (λ (h : Home). h.client) p.1.home)) refl
ends_as who before after (Renewing home) new s a r p is acts = absurd p
ends_as who before after (Settling m) new s a r p is acts = absurd acts
ends_as who before after (Sweeping m) new s a r p is acts = absurd acts
ends_as who before after Closed new s a r p is acts = absurd p
ends_as who before after (Idle home) new s a r p is acts = absurd p
ends_as who before after (Broken lease) new s a r p is acts = absurd p
