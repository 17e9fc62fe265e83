-- What the audit takes of a call is what its row of the trace commits by the lines.
use Rattle.std.proofs.Common.{◌≡◌, ◌⊎◌, ◌+◌, ◌-◌, ◌<◌, ℕ, List, [], ◌∷◌, ◌++◌, length, map, take, Option, Some, None, refl, sym, ap, subst, ◌∙◌, inl, inr, Bool, true, false, cond, arith}
use Rattle.std.specs.Prelude.{All, not, ◌&&◌}
use Rattle.std.specs.Str.{bytes_eq}
use Rattle.std.proofs.lemmas.List.{append-nil}
use Rattle.std.proofs.lemmas.Option.{slice_get_within}
use Rattle.std.proofs.lemmas.Slice.Eq.{bytes_eq-Decides}
use Rattle.db_base.specs.declared.names.ObjName.TheVariants as object
use Rattle.cloud_facts.specs.Words.{Entry, Head, Answer, Version, CloudState, called, newest, Caller, Claim, Ask, Get, GetHeld, PutHeld, Send, Receive, Delete, Take, Renew, Release}
use Rattle.head_codec.specs.declared.head.Phase.TheVariants as phase
use Rattle.head_codec.specs.Spelling.{head_of}
use Rattle.txn_buffer.specs.Noted.{Noted}
use Rattle.cloud_trait.specs.Bench.{has_bytes}
use Rattle.cloud_facts.specs.Calls.Looks.{has_landed}
use Rattle.cloud_trait.specs.Names.{object_cmp}
use Rattle.cloud_trait.specs.State.{Counts, landed, newest_of}
use Rattle.cloud_trait.specs.Ask.{ListHeld, RemoveHeld, Permits, effect}
use Rattle.cloud_trait.specs.Weather.{counted, Leaves}
use Rattle.cloud_trait.proofs.NameLemmas.{object_cmp-total}
use Rattle.cloud_trait.proofs.RowLemmas.{row_by}
use Rattle.cloud_trait.proofs.StateLemmas.{landed_newest, put_at_same, slice_get-push}
use Rattle.cloud_facts.specs.Decoding.Decodes.{Decodes}
use Rattle.cloud_facts.specs.Decoding.Kinds.{MomentsDiffer}
use Rattle.cloud_facts.proofs.Decoding.Newest.{newest_last}
use Rattle.history.specs.Audited.{Audited, committed_entry}
use Rattle.client_work.specs.declared.work.Work.{Work}
use Rattle.client_work.specs.declared.work.Work.TheVariants.{Closed, Idle, Opening, Committing, Reading, Scanning, Looking, Paging, Folding, Closing, Renewing, Settling, Sweeping, Broken}
use Rattle.client_work.specs.Session.{ask_of_work, committing_of, opens_of}
use Rattle.replay_meaning.specs.Standing.{Line, Standing, standing}
use Rattle.replay_meaning.specs.Committed.{committed, entries_of_bytes, entries_of_head, entries_of_phase, changes_at}
use Rattle.session_facts.specs.Sessions.Audited.{noted_at, noted_head, noted_in_hand, audited}
use Rattle.session_facts.specs.Sessions.HeadPuts.{Commits, PutsHead}
use Rattle.session_facts.specs.Lines.Facts.{IsPlaced, WorksAs}
use Rattle.session_facts.proofs.Lines.Committed.{put_entries, committed_effect, now_standing, slice_get-append_left}

-- ---- where bytes are the newest

own_bytes : (bytes : List ℕ) → has_bytes (Some bytes) bytes ≡ true
own_bytes bytes = (bytes_eq-Decides bytes bytes).1 refl

-- the newest bytes are others where they can't be these
lacks_bytes : (found : Option (List ℕ)) (bytes : List ℕ) → (found ≡ Some bytes → ⊥) → has_bytes found bytes ≡ false
lacks_bytes None bytes differ = refl
lacks_bytes (Some b) bytes differ = on (bytes_eq b bytes) refl
  where
    on : (same : Bool) → bytes_eq b bytes ≡ same → same ≡ false
    on true e = absurd (differ (ap (λ (x : List ℕ). Some x) ((bytes_eq-Decides b bytes).0 e)))
    on false e = refl

-- a head that landed behind its own bytes would be of the moment before
not_behind_itself : (client : ℕ) (vs : List Version) (v : Version) (bytes : List ℕ) (head : Head) → v.bytes ≡ Some bytes → MomentsDiffer (object.Head client) (vs ++ v ∷ [])
    → head_of bytes ≡ Some head → newest_of vs ≡ Some bytes → ⊥
not_behind_itself client vs v bytes head has differ spells same =
    let last = newest_last vs bytes same in
    let within : length vs - 1 < length vs = slice_get_within vs (length vs - 1) last.0 last.1 in
    differ (length vs - 1) last.0 v bytes bytes
    (slice_get-append_left vs (v ∷ []) (length vs - 1) within ∙ last.1)
    (slice_get-push vs v (length vs - 1 + 1) (omega arith)) last.2 has head head spells spells (record { epoch = refl; txn = refl; phase = refl })

-- ---- what a call commits

-- a call lands no head
abbrev LandsNoHead : Ask → Type 0
LandsNoHead (PutHeld (object.Head client) bytes one two) = ⊥
LandsNoHead ask = Unit {0}

-- the audit takes nothing more as committed from a call, and its row commits nothing
pub record CommitsNone (lines : List Line) (who : Caller) (w : Work) (ask : Ask) : Type 0 where
  pub row : put_entries lines who ask ≡ []
  pub noted : (a : Audited) → (noted_at w ask a).committed ≡ a.committed

-- it takes what the row commits, by the head that the bytes spell
pub record CommitsHead (lines : List Line) (who : Caller) (w : Work) (bytes : List ℕ) (ask : Ask) : Type 0 where
  pub head : Head
  pub spells : head_of bytes ≡ Some head
  pub noted : (a : Audited) → (noted_at w ask a).committed ≡ a.committed ++ put_entries lines who ask

-- one of both
pub data CommitsAs (lines : List Line) (who : Caller) (w : Work) : Ask → Type 0 where
  none : (ask : Ask) → CommitsNone lines who w ask → CommitsAs lines who w ask
  some : (client : ℕ) (bytes : List ℕ) (one : Claim) (two : Option Claim) → CommitsHead lines who w bytes (PutHeld (object.Head client) bytes one two)
      → CommitsAs lines who w (PutHeld (object.Head client) bytes one two)

no_head_row : (lines : List Line) (who : Caller) (ask : Ask) → LandsNoHead ask → put_entries lines who ask ≡ []
no_head_row lines who (PutHeld (object.Head client) bytes one two) h = absurd h
no_head_row lines who (PutHeld (object.Tree tree) bytes one two) h = refl
no_head_row lines who (PutHeld (object.Page tree page) bytes one two) h = refl
no_head_row lines who (Get name) h = refl
no_head_row lines who (GetHeld name l) h = refl
no_head_row lines who (ListHeld tree l) h = refl
no_head_row lines who (RemoveHeld name l) h = refl
no_head_row lines who (Send queue bytes) h = refl
no_head_row lines who (Receive queue most) h = refl
no_head_row lines who (Delete queue id) h = refl
no_head_row lines who (Take l ticks) h = refl
no_head_row lines who (Renew l ticks) h = refl
no_head_row lines who (Release l) h = refl

no_head_noted : (w : Work) (ask : Ask) (a : Audited) → LandsNoHead ask → (noted_at w ask a).committed ≡ a.committed
no_head_noted w (PutHeld (object.Head client) bytes one two) a h = absurd h
no_head_noted w (PutHeld (object.Tree tree) bytes one two) a h = refl
no_head_noted w (PutHeld (object.Page tree page) bytes one two) a h = refl
no_head_noted w (Get name) a h = refl
no_head_noted w (GetHeld name l) a h = refl
no_head_noted w (ListHeld tree l) a h = refl
no_head_noted w (RemoveHeld name l) a h = refl
no_head_noted w (Send queue bytes) a h = refl
no_head_noted w (Receive queue most) a h = refl
no_head_noted w (Delete queue id) a h = refl
no_head_noted w (Take l ticks) a h = refl
no_head_noted w (Renew l ticks) a h = refl
no_head_noted w (Release l) a h = refl

no_head : (lines : List Line) (who : Caller) (w : Work) (ask : Ask) → LandsNoHead ask → CommitsAs lines who w ask
no_head lines who w ask h = none ask (record { row = no_head_row lines who ask h; noted = λ a. no_head_noted w ask a h })

-- a settled head commits nothing, and an open one its changes
settled_entries : (client : ℕ) (bytes : List ℕ) (head : Head) (changes : List Noted) → head_of bytes ≡ Some head → head.phase ≡ phase.Settled
    → entries_of_bytes client (Some bytes) changes ≡ []
settled_entries client bytes head changes e f = ap (λ o. entries_of_head client o changes) e ∙ ap (λ p. entries_of_phase p client head changes) f

pub opened_entries : (client : ℕ) (bytes : List ℕ) (head : Head) (count : ℕ) (changes : List Noted) → head_of bytes ≡ Some head → head.phase ≡ phase.Open count
    → entries_of_bytes client (Some bytes) changes ≡ map (committed_entry client head.epoch head.txn) changes
opened_entries client bytes head count changes e f = ap (λ o. entries_of_head client o changes) e ∙ ap (λ p. entries_of_phase p client head changes) f

-- ---- the call in hand

-- the changes of the commit at work are those on which the session stands
pub working_changes : (w : Work) (s : Standing) (changes : List Noted) → WorksAs w s → committing_of w ≡ Some changes → changes_at s.posture ≡ changes
working_changes (Committing m) s changes acts e = let same : m.draft.writes.changes ≡ changes = cc in ap changes_at acts.0 ∙ same
working_changes (Opening m) s changes acts e = absurd (cc)
working_changes (Paging home p) s changes acts e = absurd (cc)
working_changes (Folding home f) s changes acts e = absurd (cc)
working_changes (Closing lease) s changes acts e = absurd (cc)
working_changes (Renewing home) s changes acts e = absurd (cc)
working_changes (Reading home m) s changes acts e = absurd (cc)
working_changes (Scanning home m) s changes acts e = absurd (cc)
working_changes (Looking home m) s changes acts e = absurd (cc)
working_changes (Settling m) s changes acts e = absurd (cc)
working_changes (Sweeping m) s changes acts e = absurd (cc)
working_changes Closed s changes acts e = absurd (cc)
working_changes (Idle home) s changes acts e = absurd (cc)
working_changes (Broken lease) s changes acts e = absurd (cc)

-- at its line the session stood on the changes that are committed
abbrev pub StoodOn : List Line → Caller → Work → Type 0
StoodOn lines who w = (changes : List Noted) → committing_of w ≡ Some changes → changes_at (standing (take (who.event - 1) lines) who.session).posture ≡ changes

pub stood_on : (lines : List Line) (who : Caller) (w : Work) → who.event ≡ length lines + 1 → WorksAs w (standing lines who.session) → StoodOn lines who w
stood_on lines who w event acts changes e =
    ap (λ (s : Standing). changes_at s.posture) (now_standing lines who event) ∙ working_changes w (standing lines who.session) changes acts e

-- a put of a head
head_commits : (lines : List Line) (who : Caller) (w : Work) (client : ℕ) (bytes : List ℕ) (one : Claim) (two : Option Claim) → StoodOn lines who w
    → PutsHead w client bytes → CommitsAs lines who w (PutHeld (object.Head client) bytes one two)
head_commits lines who w client bytes one two stood p = on p.how
  where
    on : Commits w p.head ⊎ ((opens_of w ≡ None) × (p.head.phase ≡ phase.Settled)) → CommitsAs lines who w (PutHeld (object.Head client) bytes one two)
    on (inl c) =
        let taken : (a : Audited) → noted_head client (opens_of w) (committing_of w) a ≡ noted_head client (Some p.head) (Some c.changes) a =
        λ a. ap (λ o. noted_head client o (committing_of w) a) c.opens ∙ ap (λ o. noted_head client (Some p.head) o a) c.committing in
        let row : put_entries lines who (PutHeld (object.Head client) bytes one two) ≡ map (committed_entry client p.head.epoch p.head.txn) c.changes =
        ap (λ changes. entries_of_bytes client (Some bytes) changes) (stood c.changes c.committing)
        ∙ opened_entries client bytes p.head c.count c.changes p.spells c.phase_is in
        some client bytes one two (record {
          head = p.head;
          spells = p.spells;
          noted = λ a. ap (λ (z : Audited). z.committed) (taken a) ∙ ap (λ es. a.committed ++ es) (sym row);
        })
    on (inr s) = none (PutHeld (object.Head client) bytes one two) (record {
      row = settled_entries client bytes p.head (changes_at (standing (take (who.event - 1) lines) who.session).posture) p.spells s.1;
      noted = λ a. ap (λ (z : Audited). z.committed) (ap (λ o. noted_head client o (committing_of w) a) s.0);
    })

-- a call in hand whose puts of heads are those of the work
pub ask_commits : (lines : List Line) (who : Caller) (w : Work) (ask : Ask) → StoodOn lines who w
    → ((client : ℕ) (bytes : List ℕ) (one : Claim) (two : Option Claim) → ask ≡ PutHeld (object.Head client) bytes one two → PutsHead w client bytes) → CommitsAs lines who w ask
ask_commits lines who w (PutHeld (object.Head client) bytes one two) stood puts = head_commits lines who w client bytes one two stood (puts client bytes one two refl)
ask_commits lines who w (PutHeld (object.Tree tree) bytes one two) stood puts = no_head lines who w (PutHeld (object.Tree tree) bytes one two) tt
ask_commits lines who w (PutHeld (object.Page tree page) bytes one two) stood puts = no_head lines who w (PutHeld (object.Page tree page) bytes one two) tt
ask_commits lines who w (Get name) stood puts = no_head lines who w (Get name) tt
ask_commits lines who w (GetHeld name l) stood puts = no_head lines who w (GetHeld name l) tt
ask_commits lines who w (ListHeld tree l) stood puts = no_head lines who w (ListHeld tree l) tt
ask_commits lines who w (RemoveHeld name l) stood puts = no_head lines who w (RemoveHeld name l) tt
ask_commits lines who w (Send queue bytes) stood puts = no_head lines who w (Send queue bytes) tt
ask_commits lines who w (Receive queue most) stood puts = no_head lines who w (Receive queue most) tt
ask_commits lines who w (Delete queue id) stood puts = no_head lines who w (Delete queue id) tt
ask_commits lines who w (Take l ticks) stood puts = no_head lines who w (Take l ticks) tt
ask_commits lines who w (Renew l ticks) stood puts = no_head lines who w (Renew l ticks) tt
ask_commits lines who w (Release l) stood puts = no_head lines who w (Release l) tt

-- ---- a call

same_either : (b : Bool) (more a : Audited) (es : List Entry) → more.committed ≡ es → a.committed ≡ es → (cond b more a).committed ≡ es
same_either true more a es e f = e
same_either false more a es e f = f

never_new : (p : Bool) (y z : Audited) → cond (not p && p) y z ≡ z
never_new true y z = refl
never_new false y z = refl

is_new : (p q : Bool) (y z : Audited) → p ≡ false → q ≡ true → cond (not p && q) y z ≡ y
is_new p q y z e f = ap (λ b. cond (not b && q) y z) e ∙ ap (λ b. cond b y z) f

-- after a call the audit has as committed what the lines committed
taken : (lines : List Line) (who : Caller) (w : Work) (ask : Ask) (answer : Answer) (c d : Counts) (s : CloudState) (u : Option CloudState) (a : Audited)
    → (l : Leaves who ask answer (counted c s) d u) → All (IsPlaced s.versions) s.trace → a.committed ≡ committed lines s → Decodes l.after → CommitsAs lines who w ask
    → (cond (has_landed (newest s) (newest l.after) (Some ask)) (noted_at w ask a) a).committed ≡ committed lines l.after
taken lines who w ask answer c d s u a l placed so decodes (none _ nothing) =
    let b : CloudState = called who l.after.now s in
    let Has : CloudState → Type 0 = λ t. a.committed ≡ committed lines t in
    let lands : a.committed ≡ committed lines (effect who ask b) =
    so ∙ sym (append-nil (committed lines b)) ∙ ap (λ es. committed lines b ++ es) (sym nothing.row) ∙ sym (committed_effect lines who ask b placed) in
    let after : a.committed ≡ committed lines l.after = row_by Has who ask answer c d b l.after l.row so (λ permits. lands) in
    same_either (has_landed (newest s) (newest l.after) (Some ask)) (noted_at w ask a) a (committed lines l.after) (nothing.noted a ∙ after) after
taken lines who w ask answer c d s u a l placed so decodes (some client bytes one two put) =
    row_by Has who ask answer c d b l.after l.row (λ apart. begun) lands (decodes.moments (object.Head client))
  where
    b : CloudState
    b = called who l.after.now s

    more : Audited
    more = noted_at w (PutHeld (object.Head client) bytes one two) a

    v : Version
    v = record { who = who; bytes = Some bytes }

    Noted : CloudState → Type 0
    Noted t = (cond (not (has_bytes (newest s (object.Head client)) bytes) && has_bytes (newest t (object.Head client)) bytes) more a).committed ≡ committed lines t

    -- where the heads of a state are of moments of their own
    Has : CloudState → Type 0
    Has t = MomentsDiffer (object.Head client) (t.versions (object.Head client)) → Noted t

    begun : Noted b
    begun = ap (λ (z : Audited). z.committed) (never_new (has_bytes (newest s (object.Head client)) bytes) more a) ∙ so

    grown : (landed who (object.Head client) bytes b).versions (object.Head client) ≡ s.versions (object.Head client) ++ v ∷ []
    grown = put_at_same object_cmp object_cmp-total b.versions (object.Head client) (b.versions (object.Head client) ++ v ∷ [])

    fresh : MomentsDiffer (object.Head client) ((landed who (object.Head client) bytes b).versions (object.Head client)) → has_bytes (newest s (object.Head client)) bytes ≡ false
    fresh apart =
        lacks_bytes (newest s (object.Head client)) bytes
        (not_behind_itself client (s.versions (object.Head client)) v bytes put.head refl (subst (MomentsDiffer (object.Head client)) grown apart) put.spells)

    lands : Permits (PutHeld (object.Head client) bytes one two) b → Has (landed who (object.Head client) bytes b)
    lands permits = λ apart.
        ap (λ (z : Audited). z.committed)
        (is_new (has_bytes (newest s (object.Head client)) bytes) (has_bytes (newest (landed who (object.Head client) bytes b) (object.Head client)) bytes) more a (fresh apart)
        (ap (λ found. has_bytes found bytes) (landed_newest who (object.Head client) bytes b) ∙ own_bytes bytes))
        ∙ put.noted a ∙ ap (λ es. es ++ put_entries lines who (PutHeld (object.Head client) bytes one two)) so
        ∙ sym (committed_effect lines who (PutHeld (object.Head client) bytes one two) b placed)

pub audited_commits : (lines : List Line) (who : Caller) (w : Work) (ask : Ask) (answer : Answer) (c d : Counts) (s : CloudState) (u : Option CloudState) (a : Audited)
    → ask_of_work w ≡ Some ask → (l : Leaves who ask answer (counted c s) d u) → All (IsPlaced s.versions) s.trace → a.committed ≡ committed lines s → Decodes l.after
    → CommitsAs lines who w ask → (audited (newest s) (newest l.after) w a).committed ≡ committed lines l.after
audited_commits lines who w ask answer c d s u a hand l placed so decodes commits =
    ap (λ o. (cond (has_landed (newest s) (newest l.after) o) (noted_in_hand w o a) a).committed) hand
    ∙ taken lines who w ask answer c d s u a l placed so decodes commits
