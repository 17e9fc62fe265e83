-- No transaction opens twice: a head that opens one is put where nothing of it was committed.
use Rattle.std.proofs.Common.{◌≡◌, ◌≤◌, ◌+◌, ℕ, zero, suc, List, [], ◌∷◌, ◌++◌, length, map, Option, Some, None, refl, sym, ap, subst, ◌∙◌, inl, inr, ◌⊎◌, arith}
use Rattle.std.specs.Prelude.{All, slice_get}
use Rattle.std.specs.List.{flat_map}
use Rattle.std.proofs.lemmas.List.Elements.{All-head, All-tail}
use Rattle.cloud_facts.specs.Words.{ObjName, Entry, AtomicRec, Head, CloudState, Caller, Claim, Ask, Get, GetHeld, PutHeld, Send, Receive, Delete, Take, Renew, Release, IsIn}
use Rattle.db_base.specs.declared.names.ObjName.TheVariants as object
use Rattle.cloud_trait.specs.declared.state.Landing.{Landing}
use Rattle.cloud_trait.specs.declared.state.Site.{Site}
use Rattle.cloud_trait.specs.declared.state.Site.TheVariants.{Object, Queue}
use Rattle.cloud_trait.specs.Ask.{ListHeld, RemoveHeld, effect}
use Rattle.cloud_trait.specs.State.{IsEmptyCloud, version_at, landed, removed, stored, sent}
use Rattle.cloud_trait.proofs.EffectLemmas.{effect_versions, effect_trace}
use Rattle.head_codec.specs.declared.head.Phase.TheVariants as phase
use Rattle.head_codec.specs.Spelling.{head_of, IsPhase}
use Rattle.head_codec.proofs.HeadLaws.{head_of-some}
use Rattle.history.specs.Audited.{committed_entry}
use Rattle.txn_buffer.specs.Noted.{Noted}
use Rattle.cloud_facts.proofs.Numbers.Lists.{map_there}
use Rattle.replay_meaning.specs.Standing.{Line, standing_of_row}
use Rattle.replay_meaning.specs.Committed.{Versions, changes_at, changes_of_row, entries_of_bytes, site_entries, row_entries, committed}
use Rattle.replay_meaning.specs.Kinds.{CommitsCount, MayPutHead, MayPutPhase, MayPutBytes, IsOfKindAt, IsOfKind, LandsOpen, OpensOnce}
use Rattle.session_facts.specs.Lines.Facts.{IsPlaced, IsPlacedAt}
use Rattle.session_facts.proofs.Lines.Committed.{new_version, kept_version}
use Rattle.session_facts.proofs.Rows.Committed.{opened_entries}
use Rattle.cloud_facts.specs.Book.Records.{entry_of, entries_of}
use Rattle.cloud_facts.proofs.Book.Places.{get_cases, get_single, in_front, in_behind}

-- ---- lists

pub at_place : {X : Type 0} (P : X → Type 0) (xs : List X) (i : ℕ) (x : X) → All P xs → slice_get xs i ≡ Some x → P x
at_place P [] i x h e = absurd (cc)
at_place P (y ∷ ys) zero x h e = let same : y ≡ x = cc in subst P same (All-head P y ys h)
at_place P (y ∷ ys) (suc i) x h e = at_place P ys i x (All-tail P y ys h) e

-- what an item of a list maps to is in the joined lists
in_flat_map : {X A : Type 0} (f : X → List A) (xs : List X) (i : ℕ) (x : X) (a : A) → slice_get xs i ≡ Some x → IsIn (f x) a → IsIn (flat_map f xs) a
in_flat_map f [] i x a e is = absurd (cc)
in_flat_map f (y ∷ ys) zero x a e is = let same : x ≡ y = cc in in_front (f y) (flat_map f ys) a (subst (λ z. IsIn (f z) a) same is)
in_flat_map f (y ∷ ys) (suc i) x a e is = in_behind (f y) (flat_map f ys) a (in_flat_map f ys i x a e is)

-- where a list is not empty, something of each mapped list is there
first_of_map : {X A : Type 0} (f : X → A) (xs : List X) → 1 ≤ length xs → (x : X) × IsIn (map f xs) (f x)
first_of_map f [] some = absurd (omega arith)
first_of_map f (x ∷ xs) some = (x, (0, refl))

-- the only place of one row behind others
last_place : (rows : List Landing) (row : Landing) (i k : ℕ) (a : Landing) → i ≡ length rows + k → slice_get (row ∷ []) k ≡ Some a → i ≡ length rows
last_place rows row i zero a at e = omega (arith, at)
last_place rows row i (suc k) a at e = absurd (cc)

-- ---- what a row that opened a transaction committed

-- the open head of a row counts one change at least
counts_some : (bytes : List ℕ) (head : Head) (count : ℕ) → head_of bytes ≡ Some head → head.phase ≡ phase.Open count → 1 ≤ count
counts_some bytes head count spells opens = (subst IsPhase opens (head_of-some bytes head spells).0.phase).0

-- its session committed as many changes
row_commits : (lines : List Line) (t : CloudState) (row : Landing) (client : ℕ) (head : Head) → IsOfKind lines t row → (o : LandsOpen t row client head)
    → CommitsCount client o.count (standing_of_row lines row)
row_commits lines t row client head kind o =
    let put : MayPutBytes lines row client (version_at (t.versions (object.Head client)) row.position) = subst (IsOfKindAt lines t row) o.site kind in
    let spelled : MayPutHead lines row client (head_of o.bytes) = subst (MayPutBytes lines row client) o.put put in
    subst (MayPutPhase lines row client) o.opens (subst (MayPutHead lines row client) o.spells spelled)

-- an entry of the head's transaction is committed
pub record HasEntry (entries : List Entry) (client : ℕ) (head : Head) : Type 0 where
  pub entry : Entry
  pub there : IsIn entries entry
  pub client_is : entry.client ≡ client
  pub epoch_is : entry.epoch ≡ head.epoch
  pub txn_is : entry.txn ≡ head.txn

row_has : (lines : List Line) (t : CloudState) (place : ℕ) (row : Landing) (client : ℕ) (head : Head) → slice_get t.trace place ≡ Some row → IsOfKind lines t row → LandsOpen t row client head
    → HasEntry (committed lines t) client head
row_has lines t place row client head at kind o = record {
  entry = committed_entry client head.epoch head.txn first.0;
  there = in_flat_map (row_entries lines t.versions) t.trace place row _ at (subst (λ (es : List Entry). IsIn es (committed_entry client head.epoch head.txn first.0)) (sym entries) first.1);
  client_is = refl;
  epoch_is = refl;
  txn_is = refl;
}
  where
    c : CommitsCount client o.count (standing_of_row lines row)
    c = row_commits lines t row client head kind o

    entries : row_entries lines t.versions row ≡ map (committed_entry client head.epoch head.txn) c.changes
    entries =
        ap (site_entries (changes_of_row lines row) t.versions row.position) o.site
        ∙ ap (λ found. entries_of_bytes client found (changes_of_row lines row)) o.put
        ∙ ap (λ posture. entries_of_bytes client (Some o.bytes) (changes_at posture)) c.commits
        ∙ opened_entries client o.bytes head o.count c.changes o.spells o.opens

    first : (n : Noted) × IsIn (map (committed_entry client head.epoch head.txn) c.changes) (committed_entry client head.epoch head.txn n)
    first = first_of_map (committed_entry client head.epoch head.txn) c.changes (let some = counts_some o.bytes head o.count o.spells o.opens in omega (arith, some, c.as_many))

-- of a transaction of which the log has nothing no row opened a head
pub not_opened : (lines : List Line) (t : CloudState) (log : List AtomicRec) (place : ℕ) (row : Landing) (client : ℕ) (head new : Head) → entries_of log ≡ committed lines t
    → slice_get t.trace place ≡ Some row → IsOfKind lines t row → LandsOpen t row client head → head.epoch ≡ new.epoch → head.txn ≡ new.txn
    → ((r : AtomicRec) → IsIn log r → r.client ≡ client → r.epoch ≡ new.epoch → r.txn ≡ new.txn → ⊥) → ⊥
not_opened lines t log place row client head new so at kind o epoch txn fresh =
    let has = row_has lines t place row client head at kind o in
    let logged = map_there entry_of log has.there.0 has.entry (ap (λ (es : List Entry). slice_get es has.there.0) so ∙ has.there.1) in
    fresh logged.0 (has.there.0, logged.1)
    (ap (λ (e : Entry). e.client) logged.2 ∙ has.client_is)
    (ap (λ (e : Entry). e.epoch) logged.2 ∙ has.epoch_is ∙ epoch)
    (ap (λ (e : Entry). e.txn) logged.2 ∙ has.txn_is ∙ txn)

-- ---- a call that lands

-- no row opened this transaction
abbrev pub IsUnopened : CloudState → ℕ → Head → Type 0
IsUnopened t client new = (place : ℕ) (row : Landing) (head : Head) → slice_get t.trace place ≡ Some row → LandsOpen t row client head → head.epoch ≡ new.epoch → head.txn ≡ new.txn → ⊥

-- where a call puts an open head, no row opened its transaction
abbrev pub OpensUnopened : CloudState → Ask → Type 0
OpensUnopened t (PutHeld (object.Head client) bytes one two) = (head : Head) (count : ℕ) → head_of bytes ≡ Some head → head.phase ≡ phase.Open count → IsUnopened t client head
OpensUnopened t ask = Unit {0}

pub lands_same : (s t : CloudState) (row : Landing) (client : ℕ) (head : Head) → t.versions ≡ s.versions → LandsOpen t row client head → LandsOpen s row client head
lands_same s t row client head v o = record {
  site = o.site;
  bytes = o.bytes;
  put = ap (λ (vs : Versions). version_at (vs (object.Head client)) row.position) (sym v) ∙ o.put;
  spells = o.spells;
  count = o.count;
  opens = o.opens;
}

pub once_same : (s t : CloudState) → t.versions ≡ s.versions → t.trace ≡ s.trace → OpensOnce s → OpensOnce t
once_same s t v r once i j a b client x y at_i at_j open_a open_b =
    once i j a b client x y (ap (λ (rows : List Landing). slice_get rows i) (sym r) ∙ at_i) (ap (λ (rows : List Landing). slice_get rows j) (sym r) ∙ at_j)
    (lands_same s t a client x v open_a) (lands_same s t b client y v open_b)

-- a row of a queue opens no head
pub sends_none : (t : CloudState) (row : Landing) (client : ℕ) (head : Head) (queue : _) → row.site ≡ Queue queue → LandsOpen t row client head → ⊥
sends_none t row client head queue is o = let never : Queue queue ≡ Object (object.Head client) = sym is ∙ o.site in absurd (cc)

-- one row more that opens nothing twice
module _ (rows : List Landing) (row : Landing) (s t : CloudState) (trace : t.trace ≡ rows ++ row ∷ []) (before : s.trace ≡ rows) where
  -- where a row of before is open now it was open, and where the new one is, no earlier one was open of its transaction
  pub once_more : ((i : ℕ) (a : Landing) (client : ℕ) (x : Head) → slice_get s.trace i ≡ Some a → LandsOpen t a client x → LandsOpen s a client x)
      → ((client : ℕ) (x : Head) → LandsOpen t row client x → IsUnopened s client x) → OpensOnce s → OpensOnce t
  once_more old new once i j a b client x y at_i at_j open_a open_b epoch txn =
      on (get_cases rows (row ∷ []) i a (ap (λ (rs : List Landing). slice_get rs i) (sym trace) ∙ at_i)) (get_cases rows (row ∷ []) j b (ap (λ (rs : List Landing). slice_get rs j) (sym trace) ∙ at_j))
    where
      there : (k : ℕ) (c : Landing) → slice_get rows k ≡ Some c → slice_get s.trace k ≡ Some c
      there k c e = ap (λ (rs : List Landing). slice_get rs k) before ∙ e

      is_new : (k : ℕ) (c : Landing) (z : Head) → slice_get (row ∷ []) k ≡ Some c → LandsOpen t c client z → IsUnopened s client z
      is_new k c z e o = new client z (subst (λ (q : Landing). LandsOpen t q client z) (sym (get_single row k c e)) o)

      on : (slice_get rows i ≡ Some a) ⊎ ((k : ℕ) × (i ≡ length rows + k) × (slice_get (row ∷ []) k ≡ Some a))
          → (slice_get rows j ≡ Some b) ⊎ ((k : ℕ) × (j ≡ length rows + k) × (slice_get (row ∷ []) k ≡ Some b)) → i ≡ j
      on (inl e) (inl f) = once i j a b client x y (there i a e) (there j b f) (old i a client x (there i a e) open_a) (old j b client y (there j b f) open_b) epoch txn
      on (inl e) (inr q) = absurd (is_new q.0 b y q.2 open_b i a x (there i a e) (old i a client x (there i a e) open_a) epoch txn)
      on (inr p) (inl f) = absurd (is_new p.0 a x p.2 open_a j b y (there j b f) (old j b client y (there j b f) open_b) (sym epoch) (sym txn))
      on (inr p) (inr q) = last_place rows row i p.0 a p.1 p.2 ∙ sym (last_place rows row j q.0 b q.1 q.2)

-- a row that was placed put the same before
pub put_kept : (who : Caller) (name : ObjName) (bytes : Option (List ℕ)) (b : CloudState) (row : Landing) (client : ℕ) (head : Head) → IsPlaced b.versions row
    → LandsOpen (stored who name bytes b) row client head → LandsOpen b row client head
put_kept who name bytes b row client head placed o =
    let within : row.position ≤ length (b.versions (object.Head client)) = subst (IsPlacedAt b.versions row.position) o.site placed in
    record {
      site = o.site;
      bytes = o.bytes;
      put = sym (kept_version who name bytes b row.position (object.Head client) within) ∙ o.put;
      spells = o.spells;
      count = o.count;
      opens = o.opens;
    }

pub own_client : (m n : ℕ) → (let a : Site = Object (object.Head m) in a ≡ Object (object.Head n)) → m ≡ n
own_client m n e = cc

-- the version behind a row that opens a head has its bytes
pub opened_bytes : (who : Caller) (name : ObjName) (bytes : Option (List ℕ)) (b : CloudState) (client : ℕ) (x : Head)
    → (o : LandsOpen (stored who name bytes b) (record { who = who; site = Object name; position = length (b.versions name) + 1 }) client x) → bytes ≡ Some o.bytes
opened_bytes who (object.Head own) bytes b client x o =
    sym (new_version who (object.Head own) bytes b)
    ∙ ap (λ c. version_at ((stored who (object.Head own) bytes b).versions (object.Head c)) (length (b.versions (object.Head own)) + 1)) (own_client own client o.site) ∙ o.put
opened_bytes who (object.Tree tree) bytes b client x o = let never : Object (object.Tree tree) ≡ Object (object.Head client) = o.site in absurd (cc)
opened_bytes who (object.Page tree page) bytes b client x o = let never : Object (object.Page tree page) ≡ Object (object.Head client) = o.site in absurd (cc)

-- the row of a removal opens none
pub removes_none : (who : Caller) (name : ObjName) (b : CloudState) (client : ℕ) (x : Head)
    → LandsOpen (removed who name b) (record { who = who; site = Object name; position = length (b.versions name) + 1 }) client x → ⊥
removes_none who name b client x o = let never : None ≡ Some o.bytes = opened_bytes who name None b client x o in absurd (cc)

-- the row of a put opens what its bytes spell
put_opens : (who : Caller) (name : ObjName) (bytes : List ℕ) (one : Claim) (two : Option Claim) (b : CloudState) (client : ℕ) (x : Head) → OpensUnopened b (PutHeld name bytes one two)
    → LandsOpen (landed who name bytes b) (record { who = who; site = Object name; position = length (b.versions name) + 1 }) client x → IsUnopened b client x
put_opens who (object.Head own) bytes one two b client x new o =
    let put : Some bytes ≡ Some o.bytes = opened_bytes who (object.Head own) (Some bytes) b client x o in
    let is : bytes ≡ o.bytes = cc in
    subst (λ c. IsUnopened b c x) (own_client own client o.site) (new x o.count (ap head_of is ∙ o.spells) o.opens)
put_opens who (object.Tree tree) bytes one two b client x new o = let never : Object (object.Tree tree) ≡ Object (object.Head client) = o.site in absurd (cc)
put_opens who (object.Page tree page) bytes one two b client x new o = let never : Object (object.Page tree page) ≡ Object (object.Head client) = o.site in absurd (cc)

-- a call that opens nothing twice
pub once_effect : (who : Caller) (ask : Ask) (b : CloudState) → All (IsPlaced b.versions) b.trace → OpensUnopened b ask → OpensOnce b → OpensOnce (effect who ask b)
once_effect who (PutHeld name bytes one two) b placed new once =
    once_more b.trace (record { who = who; site = Object name; position = length (b.versions name) + 1 }) b (landed who name bytes b) refl refl
    (λ i a client x at. put_kept who name (Some bytes) b a client x (at_place (IsPlaced b.versions) b.trace i a placed at))
    (λ client x. put_opens who name bytes one two b client x new) once
once_effect who (RemoveHeld name l) b placed new once =
    once_more b.trace (record { who = who; site = Object name; position = length (b.versions name) + 1 }) b (removed who name b) refl refl
    (λ i a client x at. put_kept who name None b a client x (at_place (IsPlaced b.versions) b.trace i a placed at))
    (λ client x o. absurd (removes_none who name b client x o)) once
once_effect who (Send queue bytes) b placed new once =
    once_more b.trace (record { who = who; site = Queue queue; position = length (b.messages queue) + 1 }) b (sent who queue bytes b) refl refl
    (λ i a client x at. lands_same b (sent who queue bytes b) a client x refl)
    (λ client x o. absurd (sends_none (sent who queue bytes b) _ client x queue refl o)) once
once_effect who (Get name) b placed new once = once
once_effect who (GetHeld name l) b placed new once = once
once_effect who (ListHeld tree l) b placed new once = once
once_effect who (Receive queue most) b placed new once = once
once_effect who (Delete queue id) b placed new once = once_same b (effect who (Delete queue id) b) refl refl once
once_effect who (Take lock ticks) b placed new once = once_same b (effect who (Take lock ticks) b) refl refl once
once_effect who (Renew l ticks) b placed new once = once_same b (effect who (Renew l ticks) b) (effect_versions who (Renew l ticks) b tt) (effect_trace who (Renew l ticks) b tt) once
once_effect who (Release l) b placed new once = once_same b (effect who (Release l) b) (effect_versions who (Release l) b tt) (effect_trace who (Release l) b tt) once

-- ---- the start

pub empty_once : (s : CloudState) → IsEmptyCloud s → OpensOnce s
empty_once s e i j a b client x y at_i at_j open_a open_b epoch txn = absurd (nothing (ap (λ (rows : List Landing). slice_get rows i) (sym e.trace) ∙ at_i))
  where
    nothing : (let none : List Landing = [] in slice_get none i ≡ Some a) → ⊥
    nothing h = absurd (cc)
