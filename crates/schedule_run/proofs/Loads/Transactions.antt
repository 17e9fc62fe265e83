-- What the lines of a load committed: the inserts of its transactions, and nothing else.
use Rattle.std.proofs.Common.{◌≡◌, ◌-◌, ◌⊎◌, inl, inr, ℕ, List, [], ◌∷◌, Option, Some, None, refl, sym, ap, ◌∙◌}
use Rattle.std.specs.Prelude.{All}
use Rattle.std.proofs.lemmas.List.Elements.{All-head, All-tail}
use Rattle.cloud_facts.specs.Words.{Entry, Head, CloudState, IsIn}
use Rattle.cloud_facts.proofs.Book.Places.{in_either}
use Rattle.cloud_facts.proofs.Numbers.Lists.{map_there}
use Rattle.cloud_trait.specs.State.{version_at}
use Rattle.cloud_trait.specs.declared.state.Landing.{Landing}
use Rattle.cloud_trait.specs.declared.state.Site.{Site}
use Rattle.cloud_trait.specs.declared.state.Site.TheVariants.{Object, Queue}
use Rattle.db_base.specs.declared.names.ObjName.TheVariants as object
use Rattle.head_codec.specs.declared.head.Phase.{Phase}
use Rattle.head_codec.specs.declared.head.Phase.TheVariants as phase
use Rattle.head_codec.specs.Spelling.{head_of}
use Rattle.history.specs.Audited.{committed_entry}
use Rattle.replay_meaning.specs.Committed.{changes_at, changes_of_row, entries_of_phase, entries_of_head, entries_of_bytes, site_entries, row_entries, committed_by, committed}
use Rattle.replay_meaning.specs.Kinds.{MayPutPhase, MayPutHead, MayPutBytes, IsOfKindAt, IsOfKind}
use Rattle.replay_meaning.specs.Standing.{Line, Posture, Closed, Idle, Broken, Working, Opening, Closing, Renewing, Committing, Reading, Scanning, LookingUp, Paging, Folding, Standing, standing_of_row}
use Rattle.txn_buffer.specs.Noted.{Noted}
use Rattle.schedule_run.proofs.Loads.Lines.{CommitsParts, IsLoading}

-- ---- one row

-- an entry is of a change of a transaction of the load
pub record IsOfLoad (parts : List (List Noted)) (e : Entry) : Type 0 where
  pub changes : List Noted
  pub part : IsIn parts changes
  pub noted : Noted
  pub there : IsIn changes noted
  pub epoch : ℕ
  pub txn : ℕ
  pub is : e ≡ committed_entry 1 epoch txn noted

-- a session that stands at changes commits them
committing_by : (p : Posture) (n : Noted) → IsIn (changes_at p) n → (changes : List Noted) × (p ≡ Working (Committing changes)) × IsIn changes n
committing_by (Working (Committing changes)) n is = (changes, refl, is)
committing_by (Working Opening) n is = absurd (cc (is.1))
committing_by (Working Closing) n is = absurd (cc (is.1))
committing_by (Working Renewing) n is = absurd (cc (is.1))
committing_by (Working (Reading tree key)) n is = absurd (cc (is.1))
committing_by (Working (Scanning tree from to)) n is = absurd (cc (is.1))
committing_by (Working (LookingUp tree attr)) n is = absurd (cc (is.1))
committing_by (Working (Paging tree page)) n is = absurd (cc (is.1))
committing_by (Working (Folding tree)) n is = absurd (cc (is.1))
committing_by Closed n is = absurd (cc (is.1))
committing_by Idle n is = absurd (cc (is.1))
committing_by Broken n is = absurd (cc (is.1))

module _ (parts : List (List Noted)) (lines : List Line) (commits : CommitsParts parts lines) (t : CloudState) (row : Landing) where
  abbrev s : Standing
  s = standing_of_row lines row

  by_phase : (p : Phase) (client : ℕ) (head : Head) (e : Entry) → MayPutPhase lines row client p → IsIn (entries_of_phase p client head (changes_of_row lines row)) e → IsOfLoad parts e
  by_phase phase.Settled client head e may is = absurd (cc (is.1))
  by_phase (phase.Open count) client head e may (place, at) =
      let m = map_there (committed_entry client head.epoch head.txn) (changes_of_row lines row) place e at in
      let c = committing_by s.posture m.0 (place, m.1) in
      let p = commits (row.who.event - 1) row.who.session c.0 c.1 in
      record {
        changes = c.0;
        part = p.part;
        noted = m.0;
        there = c.2;
        epoch = head.epoch;
        txn = head.txn;
        is = sym m.2 ∙ ap (λ k. committed_entry k head.epoch head.txn m.0) (sym may.own ∙ p.client_is);
      }

  by_head : (client : ℕ) (h : Option Head) (e : Entry) → MayPutHead lines row client h → IsIn (entries_of_head client h (changes_of_row lines row)) e → IsOfLoad parts e
  by_head client (Some head) e may is = by_phase head.phase client head e may is
  by_head client None e may is = absurd may

  by_bytes : (client : ℕ) (b : Option (List ℕ)) (e : Entry) → MayPutBytes lines row client b → IsIn (entries_of_bytes client b (changes_of_row lines row)) e → IsOfLoad parts e
  by_bytes client (Some bytes) e may is = by_head client (head_of bytes) e may is
  by_bytes client None e may is = absurd may

  by_site : (site : Site) (e : Entry) → IsOfKindAt lines t row site → IsIn (site_entries (changes_of_row lines row) t.versions row.position site) e → IsOfLoad parts e
  by_site (Object (object.Head client)) e may is = by_bytes client (version_at (t.versions (object.Head client)) row.position) e may is
  by_site (Object (object.Tree tree)) e may is = absurd (cc (is.1))
  by_site (Object (object.Page tree page)) e may is = absurd (cc (is.1))
  by_site (Queue queue) e may is = absurd (cc (is.1))

  by_row : (e : Entry) → IsOfKind lines t row → IsIn (row_entries lines t.versions row) e → IsOfLoad parts e
  by_row e may is = by_site row.site e may is

-- ---- all rows

by_rows : (parts : List (List Noted)) (lines : List Line) (t : CloudState) → CommitsParts parts lines → (rows : List Landing) → All (IsOfKind lines t) rows → (e : Entry)
    → IsIn (committed_by lines t.versions rows) e → IsOfLoad parts e
by_rows parts lines t commits [] kinds e is = absurd (cc (is.1))
by_rows parts lines t commits (row ∷ rows) kinds e is =
    on (by_rows parts lines t commits rows (All-tail (IsOfKind lines t) row rows kinds) e) (in_either (row_entries lines t.versions row) (committed_by lines t.versions rows) e is)
  where
    on : (IsIn (committed_by lines t.versions rows) e → IsOfLoad parts e) → IsIn (row_entries lines t.versions row) e ⊎ IsIn (committed_by lines t.versions rows) e → IsOfLoad parts e
    on again (inl here) = by_row parts lines commits t row e (All-head (IsOfKind lines t) row rows kinds) here
    on again (inr later) = again later

-- what was committed is of the load
pub committed_of : (parts : List (List Noted)) (lines : List Line) (own : Standing) (t : CloudState) → IsLoading parts lines own → All (IsOfKind lines t) t.trace → (e : Entry)
    → IsIn (committed lines t) e → IsOfLoad parts e
committed_of parts lines own t h kinds e is = by_rows parts lines t h.commits t.trace kinds e is
