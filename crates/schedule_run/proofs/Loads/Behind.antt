-- What stands in a state stands in later ones, and what landed up to a line stood behind it.
use Rattle.std.proofs.Common.{◌≡◌, ◌≤◌, ◌<◌, ◌-◌, ℕ, zero, suc, Bool, List, [], ◌++◌, length, take, cond, Option, Some, None, refl, sym, ap, subst, ◌∙◌, arith}
use Rattle.std.specs.Prelude.{slice_get, All, nat_le, ◌==◌}
use Rattle.std.specs.Option.{option_and_then}
use Rattle.std.proofs.lemmas.Bool.{le-leb}
use Rattle.client_work.specs.declared.work.Work.{Work}
use Rattle.client_work.specs.declared.work.Work.TheVariants.{Closed, Idle, Opening, Committing, Reading, Scanning, Looking, Paging, Folding, Closing, Renewing, Settling, Sweeping, Broken}
use Rattle.cloud_facts.proofs.Book.Places.{get_map, get_within, in_front}
use Rattle.cloud_facts.proofs.Numbers.Lists.{map_there, filter_there, filter_at}
use Rattle.cloud_facts.specs.Words.{ObjName, Entry, Head, Version, Posted, CloudState, Caller, Seen, IsIn}
use Rattle.cloud_trait.specs.Growth.{BeginsWith}
use Rattle.cloud_trait.specs.State.{version_at}
use Rattle.cloud_trait.specs.Upto.{AgreeUpto, IsUpto, messages_upto, trace_upto, posts_of}
use Rattle.cloud_trait.specs.declared.state.Landing.{Landing}
use Rattle.db_base.specs.declared.names.ObjName.TheVariants as object
use Rattle.db_base.specs.declared.names.QueueName.TheVariants.{Atomic}
use Rattle.history.specs.Audited.{committed_entry}
use Rattle.log_codec.specs.Atomic.{atomic_of}
use Rattle.recover_run.specs.declared.home.Home.{Home}
use Rattle.replay_meaning.specs.Kinds.{IsOfKind, LandsOpen}
use Rattle.replay_meaning.specs.Standing.{Line, Closed as Shut, Idle as Resting, Standing, standing}
use Rattle.session_facts.proofs.Lines.Committed.{slice_get-append_left}
use Rattle.session_facts.proofs.Rows.Once.{at_place, lands_same}
use Rattle.session_facts.specs.Lines.Facts.{IsPlaced, IsPlacedAt, WorksAs}
use Rattle.session_facts.specs.Rows.Opened.{AddsApart, WorksFor, MayHaveOpened, with_rows}
use Rattle.session_facts.specs.Sessions.Knows.{Sessions}
use Rattle.txn_buffer.specs.Noted.{Noted}
use Rattle.schedule_run.proofs.Loads.Lines.{CommitsParts, EndsPart}
use Rattle.schedule_run.proofs.Loads.Messages.{SentAs, IsSent, AllBounded}
use Rattle.schedule_run.proofs.Loads.Numbered.{Numbered}
use Rattle.schedule_run.proofs.Loads.Rows.{row_counts, row_part}

-- ---- messages

message_later : (n : ℕ) (s u : CloudState) → IsUpto n s → AgreeUpto n s u → (place : ℕ) (m : Posted) → slice_get (s.messages (Atomic 1)) place ≡ Some m
    → (at : ℕ) × (later : Posted) × (slice_get (u.messages (Atomic 1)) at ≡ Some later) × (later.bytes ≡ m.bytes)
message_later n s u all agree place m at =
    let early : Posted → Bool = λ (p : Posted). nat_le p.who.event n in
    let post : Posted → Caller × List ℕ = λ (p : Posted). (p.who, p.bytes) in
    let own = at_place (λ (p : Posted). p.who.event ≤ n) (s.messages (Atomic 1)) place m (all.messages (Atomic 1)) at in
    let f = filter_at early (s.messages (Atomic 1)) place m (le-leb m.who.event n own) at in
    let old : slice_get (posts_of (messages_upto n (s.messages (Atomic 1)))) f.0 ≡ Some (post m) = get_map post (messages_upto n (s.messages (Atomic 1))) f.0 m f.1 in
    let new : slice_get (posts_of (messages_upto n (u.messages (Atomic 1)))) f.0 ≡ Some (post m) =
    subst (λ (l : List (Caller × List ℕ)). slice_get l f.0 ≡ Some (post m)) (sym (agree.messages (Atomic 1))) old in
    let p = map_there post (messages_upto n (u.messages (Atomic 1))) f.0 (post m) new in
    let q = filter_there early (u.messages (Atomic 1)) f.0 p.0 p.1 in
    (q.place, p.0, q.there, ap (λ (x : Caller × List ℕ). x.1) p.2)

sent_later : (n : ℕ) (s u : CloudState) → IsUpto n s → AgreeUpto n s u → (epoch txn place : ℕ) (x : Noted) → SentAs s epoch txn place x → SentAs u epoch txn place x
sent_later n s u all agree epoch txn place x w =
    let m = message_later n s u all agree w.at w.message w.there in
    record {
      at = m.0;
      of = w.of;
      message = m.1;
      there = m.2;
      reads = ap atomic_of m.3 ∙ w.reads;
      epoch_is = w.epoch_is;
      txn_is = w.txn_is;
      index_is = w.index_is;
      tree_is = w.tree_is;
      change_is = w.change_is;
    }

pub transaction_later : (n : ℕ) (s u : CloudState) (old new : List Entry) (txn : ℕ) (changes : List Noted) → IsUpto n s → AgreeUpto n s u → BeginsWith old new → IsSent s old txn changes
    → IsSent u new txn changes
transaction_later n s u old new txn changes all agree begins w = record {
  epoch = w.epoch;
  sent = λ place x at. sent_later n s u all agree w.epoch txn place x (w.sent place x at);
  logged = λ x is. subst (λ es. IsIn es (committed_entry 1 w.epoch txn x)) (sym begins.1) (in_front old begins.0 (committed_entry 1 w.epoch txn x) (w.logged x is));
}

-- ---- rows

-- a row up to an event is in each state that holds the same up to it
row_before : (n : ℕ) (s u : CloudState) → AgreeUpto n s u → (place : ℕ) (row : Landing) → slice_get u.trace place ≡ Some row → row.who.event ≤ n
    → (at : ℕ) × (slice_get s.trace at ≡ Some row)
row_before n s u agree place row at early =
    let test : Landing → Bool = λ (r : Landing). nat_le r.who.event n in
    let f = filter_at test u.trace place row (le-leb row.who.event n early) at in
    let g : slice_get (trace_upto n s.trace) f.0 ≡ Some row = ap (λ (rows : List Landing). slice_get rows f.0) (sym agree.trace) ∙ f.1 in
    let h = filter_there test s.trace f.0 row g in
    (h.place, h.there)

version_kept : (vs more : List Version) (k : ℕ) → k ≤ length vs → version_at (vs ++ more) k ≡ version_at vs k
version_kept vs more zero h = refl
version_kept vs more (suc i) h =
    let before : suc i - 1 < length vs = omega arith in
    ap (λ (o : Option Version). cond (suc i == 0) None (option_and_then (λ (x : Version). x.bytes) o)) (slice_get-append_left vs more (suc i - 1) before)

-- and put there what it put
lands_before : (s u : CloudState) (row : Landing) (client : ℕ) (head : Head) → ((name : ObjName) → BeginsWith (s.versions name) (u.versions name)) → IsPlaced s.versions row
    → LandsOpen u row client head → LandsOpen s row client head
lands_before s u row client head begins placed o =
    let name : ObjName = object.Head client in
    let within : row.position ≤ length (s.versions name) = subst (IsPlacedAt s.versions row.position) o.site placed in
    let b = begins name in
    record {
      site = o.site;
      bytes = o.bytes;
      put = sym (ap (λ (vs : List Version). version_at vs row.position) b.1 ∙ version_kept (s.versions name) b.0 row.position within) ∙ o.put;
      spells = o.spells;
      count = o.count;
      opens = o.opens;
    }

-- ---- the bounds

-- a session that rests by the lines has its client at rest
resting : (w : Work) (s : Standing) → WorksAs w s → s.posture ≡ Resting → (home : Home) × (w ≡ Idle home) × (s.client ≡ home.client)
resting (Idle home) s acts e = (home, refl, acts.1)
resting Closed s acts e = let never : Shut ≡ Resting = sym acts ∙ e in absurd (cc)
resting (Opening r) s acts e = let is = acts.0 in absurd (cc)
resting (Committing r) s acts e = let is = acts.0 in absurd (cc)
resting (Reading home m) s acts e = let is = acts.0 in absurd (cc)
resting (Scanning home l) s acts e = let is = acts.0 in absurd (cc)
resting (Looking home m) s acts e = let is = acts.0 in absurd (cc)
resting (Paging home p) s acts e = let is = acts.0 in absurd (cc)
resting (Folding home f) s acts e = let is = acts.0 in absurd (cc)
resting (Closing lease) s acts e = absurd (cc)
resting (Renewing home) s acts e = let is = acts.0 in absurd (cc)
resting (Settling m) s acts e = absurd acts
resting (Sweeping m) s acts e = absurd acts
resting (Broken lease) s acts e = absurd (cc)

-- the rows of a cloud that was empty are of the epoch of the client, which rests, and of one of the transactions that it has begun
rows_bounded : (Was : ℕ → Type 0) (t x : CloudState) (f : Sessions) (seen : Seen) (home : Home) (most : ℕ) → t.trace ≡ [] → seen.state ≡ Some x → AddsApart Was t f seen
    → (f 1).work ≡ Idle home → home.client ≡ 1 → home.attempt ≡ most → AllBounded x home.head.epoch most
rows_bounded Was t x f seen home most none told h rests client number place row head at lands =
    let same : h.rows.state ≡ x = one h.rows.state x (sym h.rows.told ∙ told) in
    let trace : x.trace ≡ h.rows.adds.added =
    sym (ap (λ (z : CloudState). z.trace) same) ∙ h.rows.adds.trace ∙ ap (λ (rows : List Landing). rows ++ h.rows.adds.added) none in
    let there : slice_get h.rows.adds.added place ≡ Some row = ap (λ (rows : List Landing). slice_get rows place) (sym trace) ∙ at in
    let m = h.rows.adds.opened place row 1 head there (lands_same (with_rows h.rows.state h.rows.adds.added) h.rows.state row 1 head refl (subst (λ (z : CloudState). LandsOpen z row 1 head) (sym same) lands)) in
    let k = m.own 1 (subst (WorksFor 1) (sym rests) client) in
    let own = subst (λ w. MayHaveOpened w head) rests k in
    let below = own.1 in
    (own.0, omega (arith, below, number))
  where
    one : (a b : CloudState) → Some a ≡ Some b → a ≡ b
    one a b e = cc

module _ (parts : List (List Noted)) (lines : List Line) (last : ℕ) (ends : EndsPart parts lines last) (commits : CommitsParts parts lines) (x u : CloudState)
    (kinds : All (IsOfKind lines u) u.trace) (agree : AgreeUpto last x u) (begins : (name : ObjName) → BeginsWith (x.versions name) (u.versions name))
    (placed : All (IsPlaced x.versions) x.trace) where
  -- so are all rows behind them, since no later one opens a transaction
  pub bounded_later : (epoch most : ℕ) → AllBounded x epoch most → AllBounded u epoch most
  bounded_later epoch most bounded place row head at lands =
      let c = row_counts lines u row 1 head (at_place (IsOfKind lines u) u.trace place row kinds at) lands in
      let before : row.who.event - 1 < last = ends.past (row.who.event - 1) row.who.session c.changes c.commits in
      let b = row_before last x u agree place row at (omega (arith, before)) in
      bounded b.0 row head b.1 (lands_before x u row 1 head begins (at_place (IsPlaced x.versions) x.trace b.0 row placed b.1) lands)

  -- where there is a transaction the client rests behind the last one
  pub all_bounded : (Was : ℕ → Type 0) (t : CloudState) (f : Sessions) (seen : Seen) → t.trace ≡ [] → seen.state ≡ Some x → AddsApart Was t f seen
      → WorksAs (f 1).work (standing (take last lines) 1) → Numbered (length parts) (f 1).work → (epoch : ℕ) × AllBounded u epoch (length parts)
  all_bounded Was t f seen none told h acts number = on (length parts) refl
    where
      empty : length parts ≡ 0 → (place index : ℕ) (row : Landing) (head : Head) → slice_get u.trace place ≡ Some row → LandsOpen u row 1 head → ⊥
      empty e place index row head at lands =
          let p = row_part parts lines u place row 1 head commits kinds at lands in
          let within = get_within parts p.index _ p.part in
          omega (arith, within, e)

      some : 1 ≤ length parts → (epoch : ℕ) × AllBounded u epoch (length parts)
      some k =
          let stands = ends.rests k in
          let r = resting (f 1).work (standing (take last lines) 1) acts (ap (λ (s : Standing). s.posture) stands) in
          let client : r.0.client ≡ 1 = sym r.2 ∙ ap (λ (s : Standing). s.client) stands in
          (r.0.head.epoch, bounded_later r.0.head.epoch (length parts) (rows_bounded Was t x f seen r.0 (length parts) none told h r.1 client (subst (Numbered (length parts)) r.1 number)))

      on : (k : ℕ) → length parts ≡ k → (epoch : ℕ) × AllBounded u epoch (length parts)
      on zero e = (0, λ place row head at lands. absurd (empty e place 0 row head at lands))
      on (suc k) e = some (omega (arith, e))
