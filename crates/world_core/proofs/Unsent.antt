-- Behind lines of no commit nothing was committed, and no message is in a pending update queue; a session that is still to be bound as a writer has no others.
use Rattle.std.proofs.Common.{◌≡◌, ◌≢◌, ◌-◌, ◌==◌, ℕ, zero, suc, Bool, true, false, cond, List, [], ◌∷◌, ◌++◌, length, take, Option, Some, None, refl, ap, ◌∙◌, arith, ne_eqb}
use Rattle.ckpt_policy.specs.declared.place.Place.{Place}
use Rattle.cloud_facts.specs.Words.{Entry, AtomicRec, Head, Posted, CloudState, IsIn}
use Rattle.cloud_facts.specs.Book.Records.{entries_of}
use Rattle.cloud_facts.specs.Book.Telling.{queue_of}
use Rattle.cloud_trait.specs.Delivery.{unmarked}
use Rattle.cloud_trait.specs.declared.state.Landing.{Landing}
use Rattle.cloud_trait.specs.declared.state.Site.{Site}
use Rattle.cloud_trait.specs.declared.state.Site.TheVariants.{Object, Queue}
use Rattle.db_base.specs.declared.names.ObjName.TheVariants as object
use Rattle.db_base.specs.declared.names.QueueName.TheVariants.{TreePu, PagePu}
use Rattle.db_base.specs.declared.trouble.CommitAnswer.TheVariants.{InDoubt, CommittedOpen}
use Rattle.event_text.specs.declared.event.Event.{Event}
use Rattle.event_text.specs.declared.event.Event.TheVariants as event
use Rattle.head_codec.specs.declared.head.Phase.{Phase}
use Rattle.head_codec.specs.declared.head.Phase.TheVariants as phase
use Rattle.head_codec.specs.Spelling.{head_of}
use Rattle.replay_meaning.specs.Committed.{Versions, changes_at, task_changes, entries_of_bytes, entries_of_head, entries_of_phase, site_entries, row_entries, committed_by}
use Rattle.replay_meaning.specs.Standing.{Line, Task, Opening, Closing, Renewing, Committing, Reading, Scanning, LookingUp, Paging, Folding, Posture, Closed, Idle, Broken, Working, Standing, aborts, after_line, after_own, answered, begins, begins_opening, commit_answered, crashes, joins, opening_answered, session_of, standing, standing_from, steps, task_answered, unnamed}
use Rattle.reply_text.specs.declared.reply.Reply.{Reply}
use Rattle.reply_text.specs.declared.reply.Reply.TheVariants as reply
use Rattle.session_notes.specs.Metered.{waiting_at}
use Rattle.txn_buffer.specs.Noted.{Noted}
use Rattle.world_core.proofs.Behind.{LinesStand}
use Rattle.world_core.specs.World.{World}
use Rattle.world_core.specs.Writers.{Stage, Unbound, Even, Owing, Astray, bound_line, by_line, commits, own_line, stage_from, stage_of, unbound_line, works}

-- ---- lines of no commit

abbrev pub IsNoCommit : Event → Type 0
IsNoCommit (event.Commit session) = ⊥
IsNoCommit e = Unit {0}

abbrev pub NoCommits : List Line → Type 0
NoCommits [] = Unit {0}
NoCommits (line ∷ lines) = IsNoCommit line.event × NoCommits lines

first_none : (n : ℕ) (lines : List Line) → NoCommits lines → NoCommits (take n lines)
first_none zero lines none = tt
first_none (suc n) [] none = tt
first_none (suc n) (line ∷ lines) none = (none.0, first_none n lines none.1)

-- no line leads back there
never_worked : (r : Reply) (stage : Stage) → stage ≢ Unbound → works r stage ≢ Unbound
never_worked (reply.Worked done passed) stage ne = on (passed == 0)
  where
    on : (b : Bool) → cond b Even Astray ≢ Unbound
    on true = λ e. cc (e)
    on false = λ e. cc (e)
never_worked (reply.Refused rule) stage ne = ne
never_worked r stage ne = λ e. cc (e)

never_commits : (stage : Stage) → commits stage ≢ Unbound
never_commits Even = λ e. cc (e)
never_commits stage = λ e. cc (e)

never_bound : (e : Event) (r : Reply) (stage : Stage) → stage ≢ Unbound → bound_line e r stage ≢ Unbound
never_bound (event.Commit session) r stage ne = never_commits stage
never_bound (event.Work session) r stage ne = never_worked r stage ne
never_bound (event.Policy session role number) r stage ne = λ e. cc (e)
never_bound (event.Open session client) r stage ne = λ e. cc (e)
never_bound (event.Close session) r stage ne = λ e. cc (e)
never_bound (event.Crash session done) r stage ne = λ e. cc (e)
never_bound (event.Page session tree page) r stage ne = λ e. cc (e)
never_bound (event.Tree session tree) r stage ne = λ e. cc (e)
never_bound e r stage ne = ne

no_commit : (k : ℕ) (e : Event) (r : Reply) → unbound_line k e r ≡ Unbound → IsNoCommit e
no_commit k (event.Commit session) r is = absurd (cc (is))
no_commit k e r is = tt

own_unbound : (k : ℕ) (e : Event) (r : Reply) (stage : Stage) → own_line k e r stage ≡ Unbound → (stage ≡ Unbound) × IsNoCommit e
own_unbound k e r Unbound is = (refl, no_commit k e r is)
own_unbound k e r Even is = absurd (never_bound e r Even (λ h. cc (h)) is)
own_unbound k e r Owing is = absurd (never_bound e r Owing (λ h. cc (h)) is)
own_unbound k e r Astray is = absurd (cc (is))

by_unbound : (session k : ℕ) (e : Event) (r : Reply) (stage : Stage) → by_line session k e r stage ≡ Unbound → (stage ≡ Unbound) × IsNoCommit e
by_unbound session k (event.Wait ticks) r stage is = (is, tt)
by_unbound session k (event.Report tree) r stage is = (is, tt)
by_unbound session k event.Settle r stage is = absurd (cc (is))
by_unbound session k (event.Sweep tree) r stage is = absurd (cc (is))
by_unbound session k e r stage is = on (session_of e == session) is
  where
    on : (b : Bool) → cond b (own_line k e r stage) Astray ≡ Unbound → (stage ≡ Unbound) × IsNoCommit e
    on true is = own_unbound k e r stage is
    on false is = absurd (cc (is))

from_unbound : (session k : ℕ) (lines : List Line) (stage : Stage) → stage_from session k stage lines ≡ Unbound → (stage ≡ Unbound) × NoCommits lines
from_unbound session k [] stage is = (is, tt)
from_unbound session k (line ∷ lines) stage is =
    let rest = from_unbound session k lines (by_line session k line.event line.reply stage) is in
    let own = by_unbound session k line.event line.reply stage rest.0 in
    (own.0, (own.1, rest.1))

pub unbound_none : (session k : ℕ) (lines : List Line) → stage_of session k lines ≡ Unbound → NoCommits lines
unbound_none session k lines is = (from_unbound session k lines Unbound is).1

-- one line more
from_push : (session k : ℕ) (stage : Stage) (lines : List Line) (line : Line)
    → stage_from session k stage (lines ++ line ∷ []) ≡ by_line session k line.event line.reply (stage_from session k stage lines)
from_push session k stage [] line = refl
from_push session k stage (first ∷ lines) line = from_push session k (by_line session k first.event first.reply stage) lines line

pub stage_line : (session k : ℕ) (lines : List Line) (line : Line) → stage_of session k (lines ++ line ∷ []) ≡ by_line session k line.event line.reply (stage_of session k lines)
stage_line session k lines line = from_push session k Unbound lines line

-- ---- no session stands as committing

abbrev IsQuiet : Standing → Type 0
IsQuiet s = changes_at s.posture ≡ []

begins_quiet : (task : Task) (r : Reply) (s : Standing) → task_changes task ≡ [] → IsQuiet s → IsQuiet (begins task r s)
begins_quiet task reply.Begun s none quiet = none
begins_quiet task r s none quiet = quiet

opening_quiet : (client : ℕ) (r : Reply) (s : Standing) → IsQuiet s → IsQuiet (begins_opening client r s)
opening_quiet client reply.Begun s quiet = refl
opening_quiet client r s quiet = quiet

joins_quiet : (Join : List Noted → List Noted) (r : Reply) (s : Standing) → IsQuiet s → IsQuiet (joins Join r s)
joins_quiet Join reply.Noted s quiet = quiet
joins_quiet Join r s quiet = quiet

aborts_quiet : (r : Reply) (s : Standing) → IsQuiet s → IsQuiet (aborts r s)
aborts_quiet reply.Aborted s quiet = quiet
aborts_quiet r s quiet = quiet

crashes_quiet : (r : Reply) (s : Standing) → IsQuiet s → IsQuiet (crashes r s)
crashes_quiet reply.Crashed s quiet = refl
crashes_quiet r s quiet = quiet

opened_quiet : (r : Reply) (s : Standing) → IsQuiet (opening_answered r s)
opened_quiet (reply.Opened epoch) s = refl
opened_quiet r s = refl

committed_quiet : (r : Reply) (s : Standing) → IsQuiet (commit_answered r s)
committed_quiet (reply.Commit InDoubt) s = refl
committed_quiet (reply.Commit (CommittedOpen t)) s = refl
committed_quiet r s = refl

task_quiet : (task : Task) (r : Reply) (s : Standing) → IsQuiet (task_answered task r s)
task_quiet Opening r s = opened_quiet r s
task_quiet Closing r s = refl
task_quiet (Committing changes) r s = committed_quiet r s
task_quiet Renewing r s = refl
task_quiet (Reading tree key) r s = refl
task_quiet (Scanning tree from to) r s = refl
task_quiet (LookingUp tree attr) r s = refl
task_quiet (Paging tree page) r s = refl
task_quiet (Folding tree) r s = refl

answered_quiet : (posture : Posture) (r : Reply) (s : Standing) → IsQuiet s → IsQuiet (answered posture r s)
answered_quiet (Working task) r s quiet = task_quiet task r s
answered_quiet Closed r s quiet = quiet
answered_quiet Idle r s quiet = quiet
answered_quiet Broken r s quiet = quiet

steps_quiet : (r : Reply) (s : Standing) → IsQuiet s → IsQuiet (steps r s)
steps_quiet reply.Called s quiet = quiet
steps_quiet (reply.Refused rule) s quiet = quiet
steps_quiet r s quiet = answered_quiet s.posture r s quiet

own_quiet : (e : Event) (r : Reply) (s : Standing) → IsNoCommit e → IsQuiet s → IsQuiet (after_own e r s)
own_quiet (event.Open session client) r s none quiet = opening_quiet client r s quiet
own_quiet (event.Close session) r s none quiet = begins_quiet Closing r s refl quiet
own_quiet (event.Renew session) r s none quiet = begins_quiet Renewing r s refl quiet
own_quiet (event.Insert session tree key payload attr) r s none quiet = joins_quiet _ r s quiet
own_quiet (event.Put session tree key payload attr) r s none quiet = joins_quiet _ r s quiet
own_quiet (event.Update session tree key payload) r s none quiet = joins_quiet _ r s quiet
own_quiet (event.Delete session tree key) r s none quiet = joins_quiet _ r s quiet
own_quiet (event.Add session tree key amount) r s none quiet = joins_quiet _ r s quiet
own_quiet (event.Commit session) r s none quiet = absurd none
own_quiet (event.Abort session) r s none quiet = aborts_quiet r s quiet
own_quiet (event.Read session tree key) r s none quiet = begins_quiet (Reading tree key) r s refl quiet
own_quiet (event.Scan session tree from to) r s none quiet = begins_quiet (Scanning tree from to) r s refl quiet
own_quiet (event.Lookup session tree attr) r s none quiet = begins_quiet (LookingUp tree attr) r s refl quiet
own_quiet (event.Page session tree page) r s none quiet = begins_quiet (Paging tree page) r s refl quiet
own_quiet (event.Tree session tree) r s none quiet = begins_quiet (Folding tree) r s refl quiet
own_quiet (event.Policy session role k) r s none quiet = quiet
own_quiet (event.Work session) r s none quiet = quiet
own_quiet (event.Step session wish) r s none quiet = steps_quiet r s quiet
own_quiet (event.Run session) r s none quiet = steps_quiet r s quiet
own_quiet (event.Crash session done) r s none quiet = crashes_quiet r s quiet
own_quiet (event.Wait ticks) r s none quiet = quiet
own_quiet (event.Report tree) r s none quiet = quiet
own_quiet event.Settle r s none quiet = quiet
own_quiet (event.Sweep tree) r s none quiet = quiet

from_quiet : (session : ℕ) (lines : List Line) (s : Standing) → NoCommits lines → IsQuiet s → IsQuiet (standing_from session s lines)
from_quiet session [] s none quiet = quiet
from_quiet session (line ∷ lines) s none quiet = from_quiet session lines (after_line session s line) none.1 (on (session_of line.event == session))
  where
    on : (b : Bool) → IsQuiet (cond b (after_own line.event line.reply s) s)
    on true = own_quiet line.event line.reply s none.0 quiet
    on false = quiet

-- ---- nothing was committed

phase_none : (p : Phase) (client : ℕ) (head : Head) → entries_of_phase p client head [] ≡ []
phase_none (phase.Open count) client head = refl
phase_none phase.Settled client head = refl

head_none : (client : ℕ) (o : Option Head) → entries_of_head client o [] ≡ []
head_none client (Some head) = phase_none head.phase client head
head_none client None = refl

bytes_none : (client : ℕ) (o : Option (List ℕ)) → entries_of_bytes client o [] ≡ []
bytes_none client (Some bytes) = head_none client (head_of bytes)
bytes_none client None = refl

site_none : (versions : Versions) (position : ℕ) (site : Site) → site_entries [] versions position site ≡ []
site_none versions position (Object (object.Head client)) = bytes_none client _
site_none versions position (Object (object.Tree tree)) = refl
site_none versions position (Object (object.Page tree page)) = refl
site_none versions position (Queue queue) = refl

row_none : (lines : List Line) (versions : Versions) (row : Landing) → NoCommits lines → row_entries lines versions row ≡ []
row_none lines versions row none =
    let before : List Line = take (row.who.event - 1) lines in
    let quiet : changes_at (standing before row.who.session).posture ≡ [] = from_quiet row.who.session before unnamed (first_none (row.who.event - 1) lines none) refl in
    ap (λ (changes : List Noted). site_entries changes versions row.position row.site) quiet ∙ site_none versions row.position row.site

rows_none : (lines : List Line) (versions : Versions) (rows : List Landing) → NoCommits lines → committed_by lines versions rows ≡ []
rows_none lines versions [] none = refl
rows_none lines versions (row ∷ rows) none =
    ap (λ (es : List Entry). es ++ committed_by lines versions rows) (row_none lines versions row none) ∙ rows_none lines versions rows none

-- ---- so no message waits

no_records : (log : List AtomicRec) → entries_of log ≡ [] → log ≡ []
no_records [] none = refl
no_records (r ∷ log) none = absurd (cc (none))

in_none : (log : List AtomicRec) (r : AtomicRec) → log ≡ [] → IsIn log r → ⊥
in_none [] r none (place, at) = cc (at)
in_none (x ∷ log) r none (place, at) = cc (none)

no_posts : (posts : List Posted) → ((m : Posted) → IsIn posts m → ⊥) → posts ≡ []
no_posts [] never = refl
no_posts (m ∷ posts) never = absurd (never m (0, refl))

at_place : (t : CloudState) (tree page : ℕ) → t.messages (queue_of tree page) ≡ [] → waiting_at t (record { tree = tree; page = page }) ≡ 0
at_place t tree zero none = ap (λ (ms : List Posted). length (unmarked ms)) none
at_place t tree (suc page) none =
    ap (λ (b : Bool). length (unmarked (t.messages (cond b (TreePu tree) (PagePu tree (suc page)))))) (ne_eqb (suc page) 0 (λ e. never e))
    ∙ ap (λ (ms : List Posted). length (unmarked ms)) none
  where
    never : suc page ≡ 0 → ⊥
    never e = omega (arith, e)

module _ (lines : List Line) (world : World) (t : CloudState) (stands : LinesStand lines world t) (none : NoCommits lines) where
  empty_log : stands.holds.book.log ≡ []
  empty_log = no_records stands.holds.book.log (stands.holds.cloud.committed ∙ rows_none lines t.versions t.trace none)

  no_message : (tree page : ℕ) → t.messages (queue_of tree page) ≡ []
  no_message tree page =
      no_posts (t.messages (queue_of tree page))
      (λ m is. let of = stands.holds.stand.cloud.holds.numbers.sent tree page is.0 m is.1 in in_none stands.holds.book.log of.of empty_log of.logged)

  pub none_waits : (place : Place) → waiting_at t place ≡ 0
  none_waits place = at_place t place.tree place.page (no_message place.tree place.page)
