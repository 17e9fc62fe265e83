-- The rows that put open heads, and the entries that they committed.
use Rattle.std.proofs.Common.{◌≡◌, ◌+◌, ◌-◌, ◌⊎◌, inl, inr, ℕ, zero, suc, Bool, true, false, List, [], ◌∷◌, cond, Option, Some, None, refl, sym, ap, subst, ◌∙◌, arith, eqb-true}
use Rattle.std.specs.Prelude.{slice_get, All, ◌==◌}
use Rattle.std.specs.List.{flat_map}
use Rattle.std.specs.Option.{option_and_then}
use Rattle.cloud_facts.specs.Words.{ObjName, Entry, Head, Version, CloudState, IsIn, StandsAt}
use Rattle.cloud_facts.proofs.Book.Places.{in_either, in_front, in_behind, get_map}
use Rattle.cloud_facts.proofs.Numbers.Lists.{map_there, filter_there}
use Rattle.cloud_trait.specs.State.{version_at}
use Rattle.cloud_trait.specs.Traced.{IsTraced, is_object, object_rows, version_rows}
use Rattle.cloud_trait.specs.declared.state.Landing.{Landing}
use Rattle.cloud_trait.specs.declared.state.Site.{Site}
use Rattle.cloud_trait.specs.declared.state.Site.TheVariants.{Object, Queue}
use Rattle.db_base.specs.declared.names.ObjName.TheVariants as object
use Rattle.head_codec.specs.declared.head.Phase.{Phase}
use Rattle.head_codec.specs.declared.head.Phase.TheVariants as phase
use Rattle.head_codec.specs.Spelling.{head_of}
use Rattle.history.specs.Audited.{committed_entry}
use Rattle.replay_meaning.specs.Committed.{changes_at, changes_of_row, entries_of_phase, entries_of_head, entries_of_bytes, site_entries, row_entries, committed_by, committed}
use Rattle.replay_meaning.specs.Kinds.{CommitsCount, MayPutPhase, MayPutHead, MayPutBytes, IsOfKindAt, IsOfKind, LandsOpen}
use Rattle.replay_meaning.specs.Standing.{Line, standing_of_row}
use Rattle.session_facts.proofs.Rows.Once.{at_place}
use Rattle.txn_buffer.specs.Noted.{Noted}
use Rattle.schedule_run.proofs.Loads.Lines.{CommitsParts}
use Rattle.schedule_run.specs.Loads.Loaded.{WasOpened}

-- ---- from an entry to its row

-- a row put an open head, and this change is one of those on which its session stood
pub record RowCommits (lines : List Line) (t : CloudState) (row : Landing) (e : Entry) : Type 0 where
  pub client : ℕ
  pub head : Head
  pub lands : LandsOpen t row client head
  pub noted : Noted
  pub noted_in : IsIn (changes_of_row lines row) noted
  pub is : e ≡ committed_entry client head.epoch head.txn noted

module _ (lines : List Line) (t : CloudState) (row : Landing) (e : Entry) where
  abbrev changes : List Noted
  changes = changes_of_row lines row

  by_phase : (client : ℕ) (bytes : List ℕ) (head : Head) (p : Phase) → row.site ≡ Object (object.Head client) → version_at (t.versions (object.Head client)) row.position ≡ Some bytes
      → head_of bytes ≡ Some head → head.phase ≡ p → IsIn (entries_of_phase p client head changes) e → RowCommits lines t row e
  by_phase client bytes head phase.Settled site put spells is there = absurd (cc (there.1))
  by_phase client bytes head (phase.Open count) site put spells is (place, at) =
      let m = map_there (committed_entry client head.epoch head.txn) changes place e at in
      record {
        client = client;
        head = head;
        lands = record { site = site; bytes = bytes; put = put; spells = spells; count = count; opens = is };
        noted = m.0;
        noted_in = (place, m.1);
        is = sym m.2;
      }

  by_head : (client : ℕ) (bytes : List ℕ) (h : Option Head) → row.site ≡ Object (object.Head client) → version_at (t.versions (object.Head client)) row.position ≡ Some bytes
      → head_of bytes ≡ h → IsIn (entries_of_head client h changes) e → RowCommits lines t row e
  by_head client bytes (Some head) site put spells there = by_phase client bytes head head.phase site put spells refl there
  by_head client bytes None site put spells there = absurd (cc (there.1))

  by_bytes : (client : ℕ) (b : Option (List ℕ)) → row.site ≡ Object (object.Head client) → version_at (t.versions (object.Head client)) row.position ≡ b
      → IsIn (entries_of_bytes client b changes) e → RowCommits lines t row e
  by_bytes client (Some bytes) site put there = by_head client bytes (head_of bytes) site put refl there
  by_bytes client None site put there = absurd (cc (there.1))

  by_site : (site : Site) → row.site ≡ site → IsIn (site_entries changes t.versions row.position site) e → RowCommits lines t row e
  by_site (Object (object.Head client)) is there = by_bytes client (version_at (t.versions (object.Head client)) row.position) is refl there
  by_site (Object (object.Tree tree)) is there = absurd (cc (there.1))
  by_site (Object (object.Page tree page)) is there = absurd (cc (there.1))
  by_site (Queue queue) is there = absurd (cc (there.1))

pub record HasRow (lines : List Line) (t : CloudState) (e : Entry) : Type 0 where
  pub place : ℕ
  pub row : Landing
  pub there : slice_get t.trace place ≡ Some row
  pub commits : RowCommits lines t row e

in_rows : (lines : List Line) (t : CloudState) (e : Entry) (rows : List Landing) → IsIn (committed_by lines t.versions rows) e
    → (place : ℕ) × (row : Landing) × (slice_get rows place ≡ Some row) × RowCommits lines t row e
in_rows lines t e [] is = absurd (cc (is.1))
in_rows lines t e (row ∷ rows) is = on (in_rows lines t e rows) (in_either (row_entries lines t.versions row) (committed_by lines t.versions rows) e is)
  where
    on : (IsIn (committed_by lines t.versions rows) e → (place : ℕ) × (r : Landing) × (slice_get rows place ≡ Some r) × RowCommits lines t r e)
        → IsIn (row_entries lines t.versions row) e ⊎ IsIn (committed_by lines t.versions rows) e
        → (place : ℕ) × (r : Landing) × (slice_get (row ∷ rows) place ≡ Some r) × RowCommits lines t r e
    on again (inl here) = (zero, row, refl, by_site lines t row e row.site refl here)
    on again (inr later) = let p = again later in (suc p.0, p.1, p.2, p.3)

pub row_of : (lines : List Line) (t : CloudState) (e : Entry) → IsIn (committed lines t) e → HasRow lines t e
row_of lines t e is = let p = in_rows lines t e t.trace is in record { place = p.0; row = p.1; there = p.2; commits = p.3 }

-- ---- from a row to its entries

-- what an item of a list maps to is in the joined lists
in_flat_map : {X A : Type 0} (f : X → List A) (xs : List X) (i : ℕ) (x : X) (a : A) → slice_get xs i ≡ Some x → IsIn (f x) a → IsIn (flat_map f xs) a
in_flat_map f [] i x a e is = absurd (cc)
in_flat_map f (y ∷ ys) zero x a e is = let same : x ≡ y = cc in in_front (f y) (flat_map f ys) a (subst (λ z. IsIn (f z) a) same is)
in_flat_map f (y ∷ ys) (suc i) x a e is = in_behind (f y) (flat_map f ys) a (in_flat_map f ys i x a e is)

pub entry_of_row : (lines : List Line) (t : CloudState) (place : ℕ) (row : Landing) (client : ℕ) (head : Head) (n : Noted) → slice_get t.trace place ≡ Some row → LandsOpen t row client head
    → IsIn (changes_of_row lines row) n → IsIn (committed lines t) (committed_entry client head.epoch head.txn n)
entry_of_row lines t place row client head n at lands is =
    in_flat_map (row_entries lines t.versions) t.trace place row (committed_entry client head.epoch head.txn n) at
    (subst (λ s. IsIn (site_entries (changes_of_row lines row) t.versions row.position s) (committed_entry client head.epoch head.txn n)) (sym lands.site)
    (subst (λ b. IsIn (entries_of_bytes client b (changes_of_row lines row)) (committed_entry client head.epoch head.txn n)) (sym lands.put)
    (subst (λ h. IsIn (entries_of_head client h (changes_of_row lines row)) (committed_entry client head.epoch head.txn n)) (sym lands.spells)
    (subst (λ p. IsIn (entries_of_phase p client head (changes_of_row lines row)) (committed_entry client head.epoch head.txn n)) (sym lands.opens)
    (is.0, get_map (committed_entry client head.epoch head.txn) (changes_of_row lines row) is.0 n is.1)))))

-- ---- the transaction of a row

-- its session committed as many changes
pub row_counts : (lines : List Line) (t : CloudState) (row : Landing) (client : ℕ) (head : Head) → IsOfKind lines t row → (o : LandsOpen t row client head)
    → CommitsCount client o.count (standing_of_row lines row)
row_counts lines t row client head kind o =
    let put : MayPutBytes lines row client (version_at (t.versions (object.Head client)) row.position) = subst (IsOfKindAt lines t row) o.site kind in
    let spelled : MayPutHead lines row client (head_of o.bytes) = subst (MayPutBytes lines row client) o.put put in
    subst (MayPutPhase lines row client) o.opens (subst (MayPutHead lines row client) o.spells spelled)

-- a row that opened a transaction is of client 1, and committed a part of the load
pub record OfPart (parts : List (List Noted)) (lines : List Line) (row : Landing) (client : ℕ) : Type 0 where
  pub client_is : client ≡ 1
  pub index : ℕ
  pub part : StandsAt parts index (changes_of_row lines row)

pub row_part : (parts : List (List Noted)) (lines : List Line) (t : CloudState) (place : ℕ) (row : Landing) (client : ℕ) (head : Head) → CommitsParts parts lines
    → All (IsOfKind lines t) t.trace → slice_get t.trace place ≡ Some row → LandsOpen t row client head → OfPart parts lines row client
row_part parts lines t place row client head commits kinds at lands =
    let c = row_counts lines t row client head (at_place (IsOfKind lines t) t.trace place row kinds at) lands in
    let p = commits (row.who.event - 1) row.who.session c.changes c.commits in
    record {
      client_is = sym c.own ∙ p.client_is;
      index = p.part.0;
      part = subst (StandsAt parts p.part.0) (sym (ap changes_at c.commits)) p.part.1;
    }

-- ---- from a version to its row

version_there : (name : ObjName) (n : ℕ) (vs : List Version) (place : ℕ) (v : Version) → slice_get vs place ≡ Some v
    → slice_get (version_rows name n vs) place ≡ Some (record { who = v.who; site = Object name; position = n + place })
version_there name n [] place v at = absurd (cc)
version_there name n (w ∷ vs) zero v at =
    let same : w ≡ v = cc in
    let first : n ≡ n + 0 = omega arith in
    ap (λ (z : Version). Some (record { who = z.who; site = Object name; position = n })) same ∙ ap (λ m. Some (record { who = v.who; site = Object name; position = m })) first
version_there name n (w ∷ vs) (suc place) v at =
    let next : n + 1 + place ≡ n + suc place = omega arith in
    version_there name (n + 1) vs place v at ∙ ap (λ m. Some (record { who = v.who; site = Object name; position = m })) next

-- an open head that landed has its row
pub record OpenedBy (t : CloudState) (client epoch txn : ℕ) : Type 0 where
  pub place : ℕ
  pub row : Landing
  pub there : slice_get t.trace place ≡ Some row
  pub head : Head
  pub lands : LandsOpen t row client head
  pub epoch_is : head.epoch ≡ epoch
  pub txn_is : head.txn ≡ txn

pub opened_by : (t : CloudState) (client epoch txn : ℕ) → IsTraced t → WasOpened t client epoch txn → OpenedBy t client epoch txn
opened_by t client epoch txn traced w =
    let name : ObjName = object.Head client in
    let row : Landing = record { who = w.version.who; site = Object name; position = 1 + w.place } in
    let at : slice_get (object_rows name t.trace) w.place ≡ Some row =
    ap (λ (rows : List Landing). slice_get rows w.place) (traced.versions name) ∙ version_there name 1 (t.versions name) w.place w.version w.there in
    let p = filter_there (λ (r : Landing). is_object name r.site) t.trace w.place row at in
    let before : 1 + w.place - 1 ≡ w.place = omega arith in
    record {
      place = p.place;
      row = row;
      there = p.there;
      head = w.head;
      lands = record {
        site = refl;
        bytes = w.bytes;
        put = ap (λ k. cond (1 + w.place == 0) None (option_and_then (λ (v : Version). v.bytes) (slice_get (t.versions name) k))) before
            ∙ later (1 + w.place == 0) refl ∙ ap (λ (o : Option Version). option_and_then (λ (v : Version). v.bytes) o) w.there ∙ w.put;
        spells = w.spells;
        count = w.count;
        opens = w.opens;
      };
      epoch_is = w.epoch_is;
      txn_is = w.txn_is;
    }
  where
    later : (b : Bool) → (1 + w.place == 0) ≡ b → cond b None (option_and_then (λ (v : Version). v.bytes) (slice_get (t.versions (object.Head client)) w.place))
        ≡ option_and_then (λ (v : Version). v.bytes) (slice_get (t.versions (object.Head client)) w.place)
    later false e = refl
    later true e = let zero_is : 1 + w.place ≡ 0 = eqb-true (1 + w.place) 0 e in absurd (omega (arith, zero_is))

-- and an open head that a row put has landed
pub was_opened : (t : CloudState) (row : Landing) (client : ℕ) (head : Head) → LandsOpen t row client head → WasOpened t client head.epoch head.txn
was_opened t row client head o = on (row.position == 0) refl o.put
  where
    vs : List Version
    vs = t.versions (object.Head client)

    found : (v : Option Version) → slice_get vs (row.position - 1) ≡ v → option_and_then (λ (z : Version). z.bytes) v ≡ Some o.bytes → WasOpened t client head.epoch head.txn
    found (Some v) at e = record {
      place = row.position - 1;
      version = v;
      there = at;
      bytes = o.bytes;
      put = e;
      head = head;
      spells = o.spells;
      epoch_is = refl;
      txn_is = refl;
      count = o.count;
      opens = o.opens;
    }
    found None at e = absurd (cc)

    on : (b : Bool) → (row.position == 0) ≡ b → cond b None (option_and_then (λ (v : Version). v.bytes) (slice_get vs (row.position - 1))) ≡ Some o.bytes
        → WasOpened t client head.epoch head.txn
    on true e put = absurd (cc)
    on false e put = found (slice_get vs (row.position - 1)) refl put
