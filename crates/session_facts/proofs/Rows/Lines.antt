-- The kinds of rows stay under more lines and more versions, and a call that may be made leaves a row of its kind.
use Rattle.std.proofs.Common.{◌≡◌, ◌≤◌, ◌+◌, ◌-◌, ℕ, List, [], ◌∷◌, ◌++◌, length, Option, Some, None, refl, sym, ap, subst, ◌∙◌, inl, inr, arith}
use Rattle.std.specs.Prelude.{All}
use Rattle.std.proofs.lemmas.List.{take-append-le}
use Rattle.std.proofs.lemmas.List.Elements.{All-nil, All-push, All-same, All-weaker}
use Rattle.cloud_facts.specs.Words.{ObjName, QueueName, Head, CloudState, Caller, Claim, Ask, Get, GetHeld, PutHeld, Send, Receive, Delete, Take, Renew, Release}
use Rattle.db_base.specs.declared.names.ObjName.TheVariants as object
use Rattle.db_base.specs.declared.names.QueueName.TheVariants.{Atomic, TreePu, PagePu}
use Rattle.cloud_trait.specs.declared.state.Landing.{Landing}
use Rattle.cloud_trait.specs.declared.state.Site.{Site}
use Rattle.cloud_trait.specs.declared.state.Site.TheVariants.{Object, Queue}
use Rattle.cloud_trait.specs.Ask.{ListHeld, RemoveHeld, effect}
use Rattle.cloud_trait.specs.State.{IsEmptyCloud, version_at, landed, removed, stored, sent}
use Rattle.cloud_trait.proofs.EffectLemmas.{effect_versions, effect_trace}
use Rattle.head_codec.specs.declared.head.Phase.{Phase}
use Rattle.head_codec.specs.declared.head.Phase.TheVariants as phase
use Rattle.head_codec.specs.Spelling.{head_of}
use Rattle.session_facts.specs.Rows.Asks.{MayAsk}
use Rattle.replay_meaning.specs.Standing.{Line, Standing, standing, standing_of_row}
use Rattle.replay_meaning.specs.Committed.{Versions}
use Rattle.replay_meaning.specs.Kinds.{OpensClient, IsCommitting, CommitsFor, CommitsCount, FoldsTree, FoldsPage, IsOfSettler, IsOfSweep, IsOfWork, MaySettleHead, MayPutRoot, MayPutPage, MayLandPage, MaySendPending, MayPutPhase, MayPutHead, MayPutBytes, MaySend, IsOfKindAt, IsOfKind}
use Rattle.session_facts.specs.Lines.Facts.{IsPlaced, IsPlacedAt}
use Rattle.session_facts.proofs.Lines.Committed.{new_version, kept_version}
use Rattle.cloud_facts.proofs.Book.Places.{get_front}

-- what two facts of each item give
all_both : {X : Type 0} (P Q R : X → Type 0) (xs : List X) → ((x : X) → P x → Q x → R x) → All P xs → All Q xs → All R xs
all_both P Q R xs f h g k d less = f _ (h k d less) (g k d less)

-- ---- more lines

module _ (lines more : List Line) (row : Landing) (within : row.who.event ≤ length lines + 1) where
  same : standing_of_row (lines ++ more) row ≡ standing_of_row lines row
  same =
      let before : row.who.event - 1 ≤ length lines = omega arith in
      ap (λ (ls : List Line). standing ls row.who.session) (take-append-le (row.who.event - 1) lines more before)

  stands_more : (P : Standing → Type 0) → P (standing_of_row lines row) → P (standing_of_row (lines ++ more) row)
  stands_more P h = subst P (sym same) h

  settler_more : IsOfSettler lines row → IsOfSettler (lines ++ more) row
  settler_more s = record { session = s.session; place = s.place; event = s.event; line = s.line; there = get_front lines more s.place s.line s.there; settles = s.settles }

  sweep_more : (tree : ℕ) → IsOfSweep lines row tree → IsOfSweep (lines ++ more) row tree
  sweep_more tree s = record { session = s.session; place = s.place; event = s.event; line = s.line; there = get_front lines more s.place s.line s.there; sweeps = s.sweeps }

  worker_more : IsOfWork lines row → IsOfWork (lines ++ more) row
  worker_more w = record { place = w.place; event = w.event; line = w.line; there = get_front lines more w.place w.line w.there; works = w.works }

  settled_more : (client : ℕ) → MaySettleHead lines row client → MaySettleHead (lines ++ more) row client
  settled_more client (inl o) = inl (stands_more (OpensClient client) o)
  settled_more client (inr (inl c)) = inr (inl (stands_more (CommitsFor client) c))
  settled_more client (inr (inr s)) = inr (inr (settler_more s))

  root_more : (tree : ℕ) → MayPutRoot lines row tree → MayPutRoot (lines ++ more) row tree
  root_more tree (inl f) = inl (stands_more (FoldsTree tree) f)
  root_more tree (inr (inl s)) = inr (inl (settler_more s))
  root_more tree (inr (inr w)) = inr (inr (worker_more w))

  page_more : (tree : ℕ) → MayPutPage lines row tree → MayPutPage (lines ++ more) row tree
  page_more tree (inl f) = inl (stands_more (FoldsPage tree) f)
  page_more tree (inr root) = inr (root_more tree root)

  version_more : (tree : ℕ) (bytes : Option (List ℕ)) → MayLandPage lines row tree bytes → MayLandPage (lines ++ more) row tree bytes
  version_more tree (Some bytes) h = page_more tree h
  version_more tree None h = sweep_more tree h

  pending_more : MaySendPending lines row → MaySendPending (lines ++ more) row
  pending_more (inl c) = inl (stands_more IsCommitting c)
  pending_more (inr (inl o)) = inr (inl (o.0, stands_more (OpensClient o.0) o.1))
  pending_more (inr (inr s)) = inr (inr (settler_more s))

  send_more : (queue : QueueName) → MaySend lines row queue → MaySend (lines ++ more) row queue
  send_more (Atomic client) h = stands_more (CommitsFor client) h
  send_more (TreePu tree) h = pending_more h
  send_more (PagePu tree page) h = pending_more h

  phase_more : (client : ℕ) (at : Phase) → MayPutPhase lines row client at → MayPutPhase (lines ++ more) row client at
  phase_more client phase.Settled h = settled_more client h
  phase_more client (phase.Open count) h = stands_more (CommitsCount client count) h

  head_more : (client : ℕ) (head : Option Head) → MayPutHead lines row client head → MayPutHead (lines ++ more) row client head
  head_more client (Some head) h = phase_more client head.phase h
  head_more client None h = absurd h

  bytes_more : (client : ℕ) (bytes : Option (List ℕ)) → MayPutBytes lines row client bytes → MayPutBytes (lines ++ more) row client bytes
  bytes_more client (Some bytes) h = head_more client (head_of bytes) h
  bytes_more client None h = absurd h

  kind_more : (t : CloudState) (site : Site) → IsOfKindAt lines t row site → IsOfKindAt (lines ++ more) t row site
  kind_more t (Object (object.Head client)) h = bytes_more client (version_at (t.versions (object.Head client)) row.position) h
  kind_more t (Object (object.Tree tree)) h = root_more tree h
  kind_more t (Object (object.Page tree page)) h = version_more tree (version_at (t.versions (object.Page tree page)) row.position) h
  kind_more t (Queue queue) h = send_more queue h

-- rows that landed by the next line stay of their kinds
pub rows_line : (lines : List Line) (line : Line) (t : CloudState) (rows : List Landing) → All (λ (r : Landing). r.who.event ≤ length lines + 1) rows → All (IsOfKind lines t) rows
    → All (IsOfKind (lines ++ line ∷ []) t) rows
rows_line lines line t rows early kinds =
    all_both (λ (r : Landing). r.who.event ≤ length lines + 1) (IsOfKind lines t) (IsOfKind (lines ++ line ∷ []) t) rows
    (λ row within kind. kind_more lines (line ∷ []) row within t row.site kind) early kinds

pub kinds_line : (lines : List Line) (line : Line) (t : CloudState) → All (λ (r : Landing). r.who.event ≤ length lines + 1) t.trace → All (IsOfKind lines t) t.trace
    → All (IsOfKind (lines ++ line ∷ []) t) t.trace
kinds_line lines line t early kinds = rows_line lines line t t.trace early kinds

-- ---- a call that lands

-- the kind of a row is told by the versions
kind_same_at : (lines : List Line) (s t : CloudState) (row : Landing) (site : Site) → t.versions ≡ s.versions → IsOfKindAt lines s row site → IsOfKindAt lines t row site
kind_same_at lines s t row (Object (object.Head client)) v g =
    subst (λ (vs : Versions). MayPutBytes lines row client (version_at (vs (object.Head client)) row.position)) (sym v) g
kind_same_at lines s t row (Object (object.Tree tree)) v g = g
kind_same_at lines s t row (Object (object.Page tree page)) v g =
    subst (λ (vs : Versions). MayLandPage lines row tree (version_at (vs (object.Page tree page)) row.position)) (sym v) g
kind_same_at lines s t row (Queue queue) v g = g

pub rows_same : (lines : List Line) (s t : CloudState) (rows : List Landing) → t.versions ≡ s.versions → All (IsOfKind lines s) rows → All (IsOfKind lines t) rows
rows_same lines s t rows v h = All-weaker (IsOfKind lines s) (IsOfKind lines t) (λ row. kind_same_at lines s t row row.site v) rows h

pub kinds_same : (lines : List Line) (s t : CloudState) → t.versions ≡ s.versions → t.trace ≡ s.trace → All (IsOfKind lines s) s.trace → All (IsOfKind lines t) t.trace
kinds_same lines s t v e h = All-same (IsOfKind lines t) t.trace s.trace e (rows_same lines s t s.trace v h)

-- a row that is placed stays of its kind under one version more
kind_kept : (lines : List Line) (who : Caller) (name : ObjName) (bytes : Option (List ℕ)) (b : CloudState) (row : Landing) (site : Site) → IsPlacedAt b.versions row.position site
    → IsOfKindAt lines b row site → IsOfKindAt lines (stored who name bytes b) row site
kind_kept lines who name bytes b row (Object (object.Head client)) placed h =
    subst (MayPutBytes lines row client) (sym (kept_version who name bytes b row.position (object.Head client) placed)) h
kind_kept lines who name bytes b row (Object (object.Tree tree)) placed h = h
kind_kept lines who name bytes b row (Object (object.Page tree page)) placed h =
    subst (MayLandPage lines row tree) (sym (kept_version who name bytes b row.position (object.Page tree page) placed)) h
kind_kept lines who name bytes b row (Queue queue) placed h = h

-- a put leaves a row of its kind
put_kind : (lines : List Line) (who : Caller) (name : ObjName) (bytes : List ℕ) (one : Claim) (two : Option Claim) (b : CloudState) (row : Landing) → row.position ≡ length (b.versions name) + 1
    → MayAsk lines row (PutHeld name bytes one two) → IsOfKindAt lines (landed who name bytes b) row (Object name)
put_kind lines who (object.Head client) bytes one two b row at may =
    subst (MayPutBytes lines row client) (sym (ap (version_at ((landed who (object.Head client) bytes b).versions (object.Head client))) at ∙ new_version who (object.Head client) (Some bytes) b)) may
put_kind lines who (object.Tree tree) bytes one two b row at may = may
put_kind lines who (object.Page tree page) bytes one two b row at may =
    subst (MayLandPage lines row tree) (sym (ap (version_at ((landed who (object.Page tree page) bytes b).versions (object.Page tree page))) at ∙ new_version who (object.Page tree page) (Some bytes) b)) may

-- and so does a removal
removal_kind : (lines : List Line) (who : Caller) (name : ObjName) (l : Claim) (b : CloudState) (row : Landing) → row.position ≡ length (b.versions name) + 1
    → MayAsk lines row (RemoveHeld name l) → IsOfKindAt lines (removed who name b) row (Object name)
removal_kind lines who (object.Page tree page) l b row at may =
    subst (MayLandPage lines row tree) (sym (ap (version_at ((removed who (object.Page tree page) b).versions (object.Page tree page))) at ∙ new_version who (object.Page tree page) None b)) may
removal_kind lines who (object.Head client) l b row at may = absurd may
removal_kind lines who (object.Tree tree) l b row at may = absurd may

-- a call that may be made keeps all rows of their kinds
pub kinds_effect : (lines : List Line) (who : Caller) (ask : Ask) (b : CloudState) → All (IsPlaced b.versions) b.trace → ((row : Landing) → row.who ≡ who → MayAsk lines row ask)
    → All (IsOfKind lines b) b.trace → All (IsOfKind lines (effect who ask b)) (effect who ask b).trace
kinds_effect lines who (PutHeld name bytes one two) b placed may h =
    let row : Landing = record { who = who; site = Object name; position = length (b.versions name) + 1 } in
    let old : All (IsOfKind lines (landed who name bytes b)) b.trace =
    all_both (IsPlaced b.versions) (IsOfKind lines b) (IsOfKind lines (landed who name bytes b)) b.trace (λ r at kind. kind_kept lines who name (Some bytes) b r r.site at kind) placed h in
    All-push (IsOfKind lines (landed who name bytes b)) b.trace row old (put_kind lines who name bytes one two b row refl (may row refl))
kinds_effect lines who (RemoveHeld name l) b placed may h =
    let row : Landing = record { who = who; site = Object name; position = length (b.versions name) + 1 } in
    let old : All (IsOfKind lines (removed who name b)) b.trace =
    all_both (IsPlaced b.versions) (IsOfKind lines b) (IsOfKind lines (removed who name b)) b.trace (λ r at kind. kind_kept lines who name None b r r.site at kind) placed h in
    All-push (IsOfKind lines (removed who name b)) b.trace row old (removal_kind lines who name l b row refl (may row refl))
kinds_effect lines who (Send queue bytes) b placed may h =
    let row : Landing = record { who = who; site = Queue queue; position = length (b.messages queue) + 1 } in
    All-push (IsOfKind lines (sent who queue bytes b)) b.trace row (kinds_same lines b (record (sent who queue bytes b) { trace = b.trace }) refl refl h) (may row refl)
kinds_effect lines who (Get name) b placed may h = h
kinds_effect lines who (GetHeld name l) b placed may h = h
kinds_effect lines who (ListHeld tree l) b placed may h = h
kinds_effect lines who (Receive queue most) b placed may h = h
kinds_effect lines who (Delete queue id) b placed may h = kinds_same lines b (effect who (Delete queue id) b) refl refl h
kinds_effect lines who (Take lock ticks) b placed may h = kinds_same lines b (effect who (Take lock ticks) b) refl refl h
kinds_effect lines who (Renew l ticks) b placed may h =
    kinds_same lines b (effect who (Renew l ticks) b) (effect_versions who (Renew l ticks) b tt) (effect_trace who (Renew l ticks) b tt) h
kinds_effect lines who (Release l) b placed may h = kinds_same lines b (effect who (Release l) b) (effect_versions who (Release l) b tt) (effect_trace who (Release l) b tt) h

-- ---- the start

pub empty_kinds : (lines : List Line) (s : CloudState) → IsEmptyCloud s → All (IsOfKind lines s) s.trace
empty_kinds lines s e = All-same (IsOfKind lines s) s.trace [] e.trace (All-nil (IsOfKind lines s))
