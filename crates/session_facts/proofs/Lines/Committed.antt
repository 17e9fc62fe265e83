-- What a call that lands, and one more line, add to the committed entries.
use Rattle.std.proofs.Common.{◌≡◌, ◌≤◌, ◌<◌, ◌+◌, ◌-◌, ℕ, zero, suc, List, [], ◌∷◌, ◌++◌, length, take, Some, refl, ap, ap₂, sym, subst, ◌∙◌, arith, false, ne_eqb}
use Rattle.std.specs.Prelude.{All, slice_get, cond, Option, None}
use Rattle.std.specs.Option.{option_and_then}
use Rattle.std.specs.Bool.{◌==◌}
use Rattle.std.specs.List.{flat_map}
use Rattle.std.proofs.lemmas.List.{append-nil, length-append, take_all, take-append-le}
use Rattle.std.proofs.lemmas.List.Concat.{flat_map-append}
use Rattle.std.proofs.lemmas.List.Elements.{All-nil, All-head, All-tail, All-push, All-same, All-weaker}
use Rattle.cloud_facts.specs.Words.{ObjName, QueueName, Entry, Version, Posted, CloudState, called, Caller, Claim, Ask, Get, GetHeld, PutHeld, Send, Receive, Delete, Take, Renew, Release}
use Rattle.db_base.specs.declared.names.ObjName.TheVariants as object
use Rattle.txn_buffer.specs.Noted.{Noted}
use Rattle.cloud_trait.specs.declared.state.Landing.{Landing}
use Rattle.cloud_trait.specs.declared.state.Site.{Site}
use Rattle.cloud_trait.specs.declared.state.Site.TheVariants.{Object, Queue}
use Rattle.cloud_trait.specs.Ask.{ListHeld, RemoveHeld, effect, PutsNothing, LandsNoRow}
use Rattle.cloud_trait.specs.Names.{object_cmp}
use Rattle.cloud_trait.specs.State.{IsEmptyCloud, version_at, landed, removed, stored, sent}
use Rattle.cloud_trait.specs.Upto.{IsUpto}
use Rattle.cloud_trait.proofs.NameLemmas.{object_cmp-equal, object_cmp-total}
use Rattle.cloud_trait.proofs.StateLemmas.{put_at_by, put_at_same, slice_get-push}
use Rattle.cloud_trait.proofs.EffectLemmas.{effect_versions, effect_trace}
use Rattle.replay_meaning.specs.Standing.{Line, Standing, unnamed, standing, standing_from, after_line}
use Rattle.replay_meaning.specs.Committed.{Versions, changes_at, changes_of_row, entries_of_bytes, site_entries, row_entries, committed_by, committed}
use Rattle.session_facts.specs.Lines.Facts.{IsPlaced, IsPlacedAt}

-- what a landed call commits
abbrev pub put_entries : List Line → Caller → Ask → List Entry
put_entries lines who (PutHeld (object.Head client) bytes one two) =
    entries_of_bytes client (Some bytes) (changes_at (standing (take (who.event - 1) lines) who.session).posture)
put_entries lines who ask = []

-- ---- versions of a list with one more at its end

pub slice_get-append_left : {X : Type 0} (xs ys : List X) (i : ℕ) → i < length xs → slice_get (xs ++ ys) i ≡ slice_get xs i
slice_get-append_left [] ys i h = absurd (omega arith)
slice_get-append_left (x ∷ xs) ys zero h = refl
slice_get-append_left (x ∷ xs) ys (suc i) h = slice_get-append_left xs ys i (omega arith)

version_at-push : (vs : List Version) (v : Version) → version_at (vs ++ v ∷ []) (length vs + 1) ≡ v.bytes
version_at-push vs v =
    let zero_not : (length vs + 1 == 0) ≡ false = ne_eqb (length vs + 1) 0 (λ e. omega arith) in
    let last : length vs + 1 - 1 ≡ length vs = omega arith in
    rw zero_not (ap (option_and_then (λ (x : Version). x.bytes)) (slice_get-push vs v (length vs + 1 - 1) last))

-- the versions that are there stay
version_at-push_old : (vs : List Version) (v : Version) (k : ℕ) → k ≤ length vs → version_at (vs ++ v ∷ []) k ≡ version_at vs k
version_at-push_old vs v zero h = refl
version_at-push_old vs v (suc i) h =
    let before : suc i - 1 < length vs = omega arith in
    ap (λ (o : Option Version). cond (suc i == 0) None (option_and_then (λ (x : Version). x.bytes) o)) (slice_get-append_left vs (v ∷ []) (suc i - 1) before)

-- the version that landed, with bytes or without, and those before it
pub new_version : (who : Caller) (name : ObjName) (bytes : Option (List ℕ)) (b : CloudState) → version_at ((stored who name bytes b).versions name) (length (b.versions name) + 1) ≡ bytes
new_version who name bytes b =
    ap (λ vs. version_at vs (length (b.versions name) + 1)) (put_at_same object_cmp object_cmp-total b.versions name (b.versions name ++ record { who = who; bytes = bytes } ∷ []))
    ∙ version_at-push (b.versions name) (record { who = who; bytes = bytes })

pub kept_version : (who : Caller) (name : ObjName) (bytes : Option (List ℕ)) (b : CloudState) (position : ℕ) (q : ObjName) → position ≤ length (b.versions q)
    → version_at ((stored who name bytes b).versions q) position ≡ version_at (b.versions q) position
kept_version who name bytes b position q =
    put_at_by (λ p vs. position ≤ length (b.versions p) → version_at vs position ≡ version_at (b.versions p) position) object_cmp object_cmp-equal b.versions name (b.versions name ++ record { who = who; bytes = bytes } ∷ [])
    (version_at-push_old (b.versions name) (record { who = who; bytes = bytes }) position) (λ p h. refl) q

-- ---- lists

-- two functions that agree at each item of a list join to the same
flat_map-agree : {X A : Type 0} (f g : X → List A) (xs : List X) → All (λ x. f x ≡ g x) xs → flat_map f xs ≡ flat_map g xs
flat_map-agree f g [] h = refl
flat_map-agree {X} f g (x ∷ xs) h =
    ap₂ (λ ys zs. ys ++ zs) (All-head (λ (y : X). f y ≡ g y) x xs h) (flat_map-agree f g xs (All-tail (λ (y : X). f y ≡ g y) x xs h))

-- ---- what a call that lands commits

pub committed_same : (lines : List Line) (s t : CloudState) → t.versions ≡ s.versions → t.trace ≡ s.trace → committed lines t ≡ committed lines s
committed_same lines s t v r = ap₂ (committed_by lines) v r

-- a call that puts nothing and leaves no row commits nothing
committed_rest : (lines : List Line) (who : Caller) (ask : Ask) (b : CloudState) → PutsNothing ask → LandsNoRow ask → committed lines (effect who ask b) ≡ committed lines b ++ []
committed_rest lines who ask b p r =
    committed_same lines b (effect who ask b) (effect_versions who ask b p) (effect_trace who ask b r) ∙ sym (append-nil (committed lines b))

-- rows and one more
committed_push : (lines : List Line) (versions : Versions) (rows : List Landing) (row : Landing) → committed_by lines versions (rows ++ row ∷ []) ≡ committed_by lines versions rows ++ row_entries lines versions row
committed_push lines versions rows row =
    flat_map-append (row_entries lines versions) rows (row ∷ []) ∙ ap (λ es. committed_by lines versions rows ++ es) (append-nil (row_entries lines versions row))

committed_sent : (lines : List Line) (who : Caller) (queue : QueueName) (bytes : List ℕ) (b : CloudState) → committed lines (sent who queue bytes b) ≡ committed lines b ++ []
committed_sent lines who queue bytes b =
    committed_push lines b.versions b.trace (record { who = who; site = Queue queue; position = length (b.messages queue) + 1 })

-- what a row that is placed commits stays under more versions
site_entries_kept : (changes : List Noted) (who : Caller) (name : ObjName) (bytes : Option (List ℕ)) (b : CloudState) (position : ℕ) (site : Site)
    → IsPlacedAt b.versions position site → site_entries changes (stored who name bytes b).versions position site ≡ site_entries changes b.versions position site
site_entries_kept changes who name bytes b position (Object (object.Head client)) h =
    ap (λ v. entries_of_bytes client v changes) (kept_version who name bytes b position (object.Head client) h)
site_entries_kept changes who name bytes b position (Object (object.Tree tree)) h = refl
site_entries_kept changes who name bytes b position (Object (object.Page tree page)) h = refl
site_entries_kept changes who name bytes b position (Queue queue) h = refl

committed_kept : (lines : List Line) (who : Caller) (name : ObjName) (bytes : Option (List ℕ)) (b : CloudState) (rows : List Landing) → All (IsPlaced b.versions) rows
    → committed_by lines (stored who name bytes b).versions rows ≡ committed_by lines b.versions rows
committed_kept lines who name bytes b rows h =
    flat_map-agree (row_entries lines (stored who name bytes b).versions) (row_entries lines b.versions) rows
    (All-weaker (IsPlaced b.versions) (λ row. row_entries lines (stored who name bytes b).versions row ≡ row_entries lines b.versions row)
    (λ row g. site_entries_kept (changes_of_row lines row) who name bytes b row.position row.site g) rows h)

-- what the new row commits
new_entries : (lines : List Line) (who : Caller) (name : ObjName) (bytes : List ℕ) (one : Claim) (two : Option Claim) (b : CloudState)
    → row_entries lines (landed who name bytes b).versions (record { who = who; site = Object name; position = length (b.versions name) + 1 }) ≡ put_entries lines who (PutHeld name bytes one two)
new_entries lines who (object.Head client) bytes one two b =
    ap (λ v. entries_of_bytes client v (changes_at (standing (take (who.event - 1) lines) who.session).posture)) (new_version who (object.Head client) (Some bytes) b)
new_entries lines who (object.Tree tree) bytes one two b = refl
new_entries lines who (object.Page tree page) bytes one two b = refl

-- a removal commits nothing
no_entries : (lines : List Line) (who : Caller) (name : ObjName) (b : CloudState)
    → row_entries lines (removed who name b).versions (record { who = who; site = Object name; position = length (b.versions name) + 1 }) ≡ []
no_entries lines who (object.Head client) b =
    ap (λ v. entries_of_bytes client v (changes_at (standing (take (who.event - 1) lines) who.session).posture)) (new_version who (object.Head client) None b)
no_entries lines who (object.Tree tree) b = refl
no_entries lines who (object.Page tree page) b = refl

-- a version that landed commits what its row does
committed_stored : (lines : List Line) (who : Caller) (name : ObjName) (bytes : Option (List ℕ)) (b : CloudState) (more : List Entry) → All (IsPlaced b.versions) b.trace
    → row_entries lines (stored who name bytes b).versions (record { who = who; site = Object name; position = length (b.versions name) + 1 }) ≡ more
    → committed lines (stored who name bytes b) ≡ committed lines b ++ more
committed_stored lines who name bytes b more h e =
    committed_push lines (stored who name bytes b).versions b.trace (record { who = who; site = Object name; position = length (b.versions name) + 1 })
    ∙ ap₂ (λ xs ys. xs ++ ys) (committed_kept lines who name bytes b b.trace h) e

pub committed_effect : (lines : List Line) (who : Caller) (ask : Ask) (b : CloudState) → All (IsPlaced b.versions) b.trace → committed lines (effect who ask b) ≡ committed lines b ++ put_entries lines who ask
committed_effect lines who (PutHeld name bytes one two) b h =
    committed_stored lines who name (Some bytes) b (put_entries lines who (PutHeld name bytes one two)) h (new_entries lines who name bytes one two b)
committed_effect lines who (RemoveHeld name l) b h = committed_stored lines who name None b [] h (no_entries lines who name b)
committed_effect lines who (Send queue bytes) b h = committed_sent lines who queue bytes b
committed_effect lines who (Get name) b h = sym (append-nil (committed lines b))
committed_effect lines who (GetHeld name l) b h = sym (append-nil (committed lines b))
committed_effect lines who (ListHeld tree l) b h = sym (append-nil (committed lines b))
committed_effect lines who (Receive queue most) b h = sym (append-nil (committed lines b))
committed_effect lines who (Delete queue id) b h = committed_rest lines who (Delete queue id) b tt tt
committed_effect lines who (Take lock ticks) b h = committed_rest lines who (Take lock ticks) b tt tt
committed_effect lines who (Renew l ticks) b h = committed_rest lines who (Renew l ticks) b tt tt
committed_effect lines who (Release l) b h = committed_rest lines who (Release l) b tt tt

pub committed_called : (lines : List Line) (who : Caller) (t : ℕ) (s : CloudState) → committed lines (called who t s) ≡ committed lines s
committed_called lines who t s = refl

pub placed_same : (s u : CloudState) (rows : List Landing) → u.versions ≡ s.versions → All (IsPlaced s.versions) rows → All (IsPlaced u.versions) rows
placed_same s u rows v h = let P : Versions → Type 0 = λ f. All (IsPlaced f) rows in subst P (sym v) h

pub placed_called : (who : Caller) (t : ℕ) (s : CloudState) → All (IsPlaced s.versions) s.trace → All (IsPlaced (called who t s).versions) (called who t s).trace
placed_called who t s h = placed_same s (called who t s) s.trace refl h

placed_at_kept : (who : Caller) (name : ObjName) (bytes : Option (List ℕ)) (b : CloudState) (position : ℕ) (site : Site) → IsPlacedAt b.versions position site → IsPlacedAt (stored who name bytes b).versions position site
placed_at_kept who name bytes b position (Object q) h =
    put_at_by (λ p vs. position ≤ length (b.versions p) → position ≤ length vs) object_cmp object_cmp-equal b.versions name (b.versions name ++ record { who = who; bytes = bytes } ∷ [])
    (λ g. omega (arith, length-append (b.versions name) (record { who = who; bytes = bytes } ∷ []))) (λ p g. g) q h
placed_at_kept who name bytes b position (Queue queue) h = tt

new_placed : (who : Caller) (name : ObjName) (bytes : Option (List ℕ)) (b : CloudState) → length (b.versions name) + 1 ≤ length ((stored who name bytes b).versions name)
new_placed who name bytes b =
    let e : length ((stored who name bytes b).versions name) ≡ length (b.versions name ++ record { who = who; bytes = bytes } ∷ []) =
    ap length (put_at_same object_cmp object_cmp-total b.versions name (b.versions name ++ record { who = who; bytes = bytes } ∷ [])) in
    omega (arith, length-append (b.versions name) (record { who = who; bytes = bytes } ∷ []))

stored_placed : (who : Caller) (name : ObjName) (bytes : Option (List ℕ)) (b : CloudState) → All (IsPlaced b.versions) b.trace
    → All (IsPlaced (stored who name bytes b).versions) (stored who name bytes b).trace
stored_placed who name bytes b h =
    All-push (IsPlaced (stored who name bytes b).versions) b.trace (record { who = who; site = Object name; position = length (b.versions name) + 1 })
    (All-weaker (IsPlaced b.versions) (IsPlaced (stored who name bytes b).versions) (λ row. placed_at_kept who name bytes b row.position row.site) b.trace h)
    (new_placed who name bytes b)

-- a call that puts nothing and leaves no row
placed_rest : (who : Caller) (ask : Ask) (b : CloudState) → PutsNothing ask → LandsNoRow ask → All (IsPlaced b.versions) b.trace → All (IsPlaced (effect who ask b).versions) (effect who ask b).trace
placed_rest who ask b p r h =
    placed_same b (effect who ask b) (effect who ask b).trace (effect_versions who ask b p) (All-same (IsPlaced b.versions) (effect who ask b).trace b.trace (effect_trace who ask b r) h)

pub placed_effect : (who : Caller) (ask : Ask) (b : CloudState) → All (IsPlaced b.versions) b.trace → All (IsPlaced (effect who ask b).versions) (effect who ask b).trace
placed_effect who (PutHeld name bytes one two) b h = stored_placed who name (Some bytes) b h
placed_effect who (RemoveHeld name l) b h = stored_placed who name None b h
placed_effect who (Send queue bytes) b h =
    All-push (IsPlaced (sent who queue bytes b).versions) b.trace (record { who = who; site = Queue queue; position = length (b.messages queue) + 1 })
    (placed_same b (sent who queue bytes b) b.trace refl h) tt
placed_effect who (Get name) b h = h
placed_effect who (GetHeld name l) b h = h
placed_effect who (ListHeld tree l) b h = h
placed_effect who (Receive queue most) b h = h
placed_effect who (Delete queue id) b h = placed_rest who (Delete queue id) b tt tt h
placed_effect who (Take lock ticks) b h = placed_rest who (Take lock ticks) b tt tt h
placed_effect who (Renew l ticks) b h = placed_rest who (Renew l ticks) b tt tt h
placed_effect who (Release l) b h = placed_rest who (Release l) b tt tt h

-- ---- one more line

standing_from-push : (session : ℕ) (s : Standing) (lines : List Line) (line : Line) → standing_from session s (lines ++ line ∷ []) ≡ after_line session (standing_from session s lines) line
standing_from-push session s [] line = refl
standing_from-push session s (first ∷ lines) line = standing_from-push session (after_line session s first) lines line

pub standing_line : (lines : List Line) (line : Line) (s : ℕ) → standing (lines ++ line ∷ []) s ≡ after_line s (standing lines s) line
standing_line lines line s = standing_from-push s unnamed lines line

-- how a session stood at a row is told by the lines before its event
row_more : (lines more : List Line) (versions : Versions) (row : Landing) → row.who.event ≤ length lines + 1 → row_entries (lines ++ more) versions row ≡ row_entries lines versions row
row_more lines more versions row h =
    let before : row.who.event - 1 ≤ length lines = omega arith in
    ap (λ (ls : List Line). site_entries (changes_at (standing ls row.who.session).posture) versions row.position row.site) (take-append-le (row.who.event - 1) lines more before)

pub committed_more : (lines more : List Line) (t : CloudState) → All (λ (r : Landing). r.who.event ≤ length lines + 1) t.trace → committed (lines ++ more) t ≡ committed lines t
committed_more lines more t h =
    flat_map-agree (row_entries (lines ++ more) t.versions) (row_entries lines t.versions) t.trace
    (All-weaker (λ r. r.who.event ≤ length lines + 1) (λ r. row_entries (lines ++ more) t.versions r ≡ row_entries lines t.versions r) (λ r g. row_more lines more t.versions r g) t.trace h)

pub committed_line : (lines : List Line) (line : Line) (t : CloudState) → All (λ (r : Landing). r.who.event ≤ length lines + 1) t.trace → committed (lines ++ line ∷ []) t ≡ committed lines t
committed_line lines line t h = committed_more lines (line ∷ []) t h

-- at a call within a line its session stands as after the lines before it
pub now_standing : (lines : List Line) (who : Caller) → who.event ≡ length lines + 1 → standing (take (who.event - 1) lines) who.session ≡ standing lines who.session
now_standing lines who e =
    let all : length lines ≤ who.event - 1 = omega arith in
    ap (λ (ls : List Line). standing ls who.session) (take_all (who.event - 1) lines all)

-- ---- the start

pub empty_committed : (lines : List Line) (s : CloudState) → IsEmptyCloud s → committed lines s ≡ []
empty_committed lines s e = ap (committed_by lines s.versions) e.trace

pub empty_placed : (s : CloudState) → IsEmptyCloud s → All (IsPlaced s.versions) s.trace
empty_placed s e = All-same (IsPlaced s.versions) s.trace [] e.trace (All-nil (IsPlaced s.versions))

pub empty_upto : (s : CloudState) → IsEmptyCloud s → IsUpto 0 s
empty_upto s e = record {
  versions = λ name. All-same (λ (v : Version). v.who.event ≤ 0) (s.versions name) [] (e.versions name) (All-nil (λ (v : Version). v.who.event ≤ 0));
  messages = λ queue. All-same (λ (m : Posted). m.who.event ≤ 0) (s.messages queue) [] (e.messages queue) (All-nil (λ (m : Posted). m.who.event ≤ 0));
  trace = All-same (λ (r : Landing). r.who.event ≤ 0) s.trace [] e.trace (All-nil (λ (r : Landing). r.who.event ≤ 0));
}

pub upto_more : (n m : ℕ) (t : CloudState) → n ≤ m → IsUpto n t → IsUpto m t
upto_more n m t l h = record {
  versions = λ name. All-weaker (λ (v : Version). v.who.event ≤ n) (λ (v : Version). v.who.event ≤ m) (λ v g. omega arith) (t.versions name) (h.versions name);
  messages = λ queue. All-weaker (λ (p : Posted). p.who.event ≤ n) (λ (p : Posted). p.who.event ≤ m) (λ p g. omega arith) (t.messages queue) (h.messages queue);
  trace = All-weaker (λ (r : Landing). r.who.event ≤ n) (λ (r : Landing). r.who.event ≤ m) (λ r g. omega arith) t.trace h.trace;
}
