-- The ATOMIC messages of transactions that were opened are the inserts of the records, by transaction and index.
use Rattle.std.proofs.Common.{◌≡◌, ◌≤◌, ◌<◌, ◌+◌, ◌*◌, ◌-◌, ℕ, zero, suc, List, [], ◌∷◌, length, Some, refl, sym, ap, subst, ◌∙◌, arith}
use Rattle.std.specs.Prelude.{slice_get}
use Rattle.cloud_facts.specs.Words.{Entry, AtomicRec, Head, Posted, CloudState, Book, Store, IsIn, StandsAt, store_of}
use Rattle.cloud_facts.specs.Book.Messages.{IsLogMessage}
use Rattle.cloud_facts.specs.Book.Records.{entry_of, entries_of}
use Rattle.cloud_facts.specs.Lefts.Left.{AreLogged as AreAllLogged}
use Rattle.cloud_facts.proofs.Book.Places.{get_map}
use Rattle.cloud_facts.proofs.Numbers.Lists.{map_there, get_same}
use Rattle.cloud_trait.specs.Traced.{IsTraced}
use Rattle.cloud_trait.specs.declared.state.Landing.{Landing}
use Rattle.db_base.specs.Change.{key_of}
use Rattle.db_base.specs.declared.names.QueueName.TheVariants.{Atomic}
use Rattle.history.specs.Audited.{committed_entry}
use Rattle.load_plan.specs.Events.{Placed, parts}
use Rattle.log_codec.proofs.AtomicLaws.{atomic_of-some}
use Rattle.log_codec.specs.Atomic.{atomic_of}
use Rattle.replay_meaning.specs.Committed.{changes_of_row, committed}
use Rattle.replay_meaning.specs.Kinds.{LandsOpen}
use Rattle.replay_meaning.specs.Standing.{Line}
use Rattle.session_facts.proofs.Machines.Commits.Distinct.{distinct_places}
use Rattle.session_facts.specs.Lines.Facts.{CloudStands}
use Rattle.session_facts.specs.Sessions.Knows.{Sessions, SessionsStand}
use Rattle.txn_buffer.specs.Noted.{Noted, AreDistinct}
use Rattle.schedule_run.proofs.Loads.Course.{noted_of, changes_of, all_changes, AreAllParts}
use Rattle.schedule_run.proofs.Loads.Lines.{CommitsParts}
use Rattle.schedule_run.proofs.Loads.Places.{part_place, in_part_at, place_tells}
use Rattle.schedule_run.proofs.Loads.Rows.{HasRow, row_of, entry_of_row, OfPart, row_part, OpenedBy, opened_by, was_opened}
use Rattle.schedule_run.specs.Loads.Loaded.{WasOpened, IsCommittedMessage, HasMessage, IsOfRecord, AreLogged}
use Rattle.schedule_run.proofs.Loads.Dumps.{parts_count}
use Rattle.session_facts.proofs.Machines.Openings.Sends.{there_at}

-- ---- what each transaction sent

-- a change at a place of a transaction has its ATOMIC message, with the place as index
pub record SentAs (t : CloudState) (epoch txn place : ℕ) (n : Noted) : Type 0 where
  pub at : ℕ
  pub of : AtomicRec
  pub message : Posted
  pub there : slice_get (t.messages (Atomic 1)) at ≡ Some message
  pub reads : atomic_of message.bytes ≡ Some of
  pub epoch_is : of.epoch ≡ epoch
  pub txn_is : of.txn ≡ txn
  pub index_is : of.index ≡ place + 1
  pub tree_is : of.tree ≡ n.tree
  pub change_is : of.change ≡ n.change

-- the changes of a transaction of this number were sent, and committed
pub record IsSent (t : CloudState) (entries : List Entry) (txn : ℕ) (changes : List Noted) : Type 0 where
  pub epoch : ℕ
  pub sent : (place : ℕ) (n : Noted) → StandsAt changes place n → SentAs t epoch txn place n
  pub logged : (n : Noted) → IsIn changes n → IsIn entries (committed_entry 1 epoch txn n)

-- a row that put an open head of client 1 is of this epoch, and of one of so many transactions
abbrev pub AllBounded : CloudState → ℕ → ℕ → Type 0
AllBounded t epoch most = (place : ℕ) (row : Landing) (head : Head) → slice_get t.trace place ≡ Some row → LandsOpen t row 1 head → (head.epoch ≡ epoch) × (head.txn ≤ most)

module _ (records : List Placed) (count : ℕ) (enough : length records ≤ 200 * count) (distinct : AreDistinct (changes_of records)) (are : AreAllParts (parts count records))
    (lines : List Line) (n : ℕ) (book : Book) (order : List Entry) (t : CloudState) (sessions : Sessions) (stand : SessionsStand book order t sessions) (cloud : CloudStands n lines book t)
    (traced : IsTraced t) (commits : CommitsParts (all_changes (parts count records)) lines) (epoch : ℕ) (bounded : AllBounded t epoch count)
    (sent : (index : ℕ) (changes : List Noted) → StandsAt (all_changes (parts count records)) index changes → IsSent t (committed lines t) (index + 1) changes) where
  abbrev all : List (List Noted)
  all = all_changes (parts count records)

  abbrev st : Store
  st = store_of book order t

  -- ---- parts

  -- a part by its changes
  record PartAt (index : ℕ) (changes : List Noted) : Type 0 where
    part : List Placed
    at : slice_get (parts count records) index ≡ Some part
    is : changes_of part ≡ changes

  part_at : (index : ℕ) (changes : List Noted) → StandsAt all index changes → PartAt index changes
  part_at index changes at = let m = map_there changes_of (parts count records) index changes at in record { part = m.0; at = m.1; is = m.2 }

  -- a change of a part is the insert of a record at its place
  record RecordAt (index place : ℕ) (x : Noted) : Type 0 where
    small : place < 200
    loaded : Placed
    there : slice_get records (200 * index + place) ≡ Some loaded
    is : noted_of loaded ≡ x

  record_at : (index : ℕ) (changes : List Noted) (place : ℕ) (x : Noted) → StandsAt all index changes → StandsAt changes place x → RecordAt index place x
  record_at index changes place x at there =
      let p = part_at index changes at in
      let m = map_there noted_of p.part place x (subst (λ cs. slice_get cs place ≡ Some x) (sym p.is) there) in
      let w = part_place count records index p.part place m.0 p.at m.1 in
      record { small = w.0; loaded = m.0; there = w.1; is = m.2 }

  -- parts that share a change are one
  shared : (i j : ℕ) (cs ds : List Noted) (x : Noted) → StandsAt all i cs → StandsAt all j ds → IsIn cs x → IsIn ds x → i ≡ j
  shared i j cs ds x at_i at_j in_i in_j =
      let a = record_at i cs in_i.0 x at_i in_i.1 in
      let b = record_at j ds in_j.0 x at_j in_j.1 in
      let one : 200 * i + in_i.0 ≡ 200 * j + in_j.0 =
      distinct_places (changes_of records) distinct (200 * i + in_i.0) (200 * j + in_j.0) (noted_of a.loaded) (noted_of b.loaded)
      (get_map noted_of records (200 * i + in_i.0) a.loaded a.there) (get_map noted_of records (200 * j + in_j.0) b.loaded b.there)
      (ap (λ (z : Noted). z.tree) (a.is ∙ sym b.is)) (ap (λ (z : Noted). key_of z.change) (a.is ∙ sym b.is)) in
      let small_a = a.small in
      let small_b = b.small in
      omega (arith, one, small_a, small_b)

  -- each has a change
  some_at : (ps : List (List Placed)) → AreAllParts ps → (index : ℕ) (part : List Placed) → slice_get ps index ≡ Some part → (x : Noted) × IsIn (changes_of part) x
  some_at [] ok index part at = absurd (cc)
  some_at (p ∷ ps) ok zero part at = let same : p ≡ part = cc in subst (λ q. (x : Noted) × IsIn (changes_of q) x) same (first p ok.0.some)
    where
      first : (q : List Placed) → 1 ≤ length q → (x : Noted) × IsIn (changes_of q) x
      first [] none = absurd (omega arith)
      first (y ∷ ys) some = (noted_of y, (zero, refl))
  some_at (p ∷ ps) ok (suc index) part at = some_at ps ok.1 index part at

  some_of : (index : ℕ) (changes : List Noted) → StandsAt all index changes → (x : Noted) × IsIn changes x
  some_of index changes at =
      let p = part_at index changes at in
      let s = some_at (parts count records) are index p.part p.at in
      (s.0, subst (λ cs. IsIn cs s.0) p.is s.1)

  -- ---- rows

  -- the row that opened the transaction of a part
  record OpenRow (index : ℕ) (changes : List Noted) : Type 0 where
    place : ℕ
    row : Landing
    there : slice_get t.trace place ≡ Some row
    head : Head
    lands : LandsOpen t row 1 head
    epoch_is : head.epoch ≡ epoch
    txn_is : head.txn ≡ index + 1
    changes_are : changes_of_row lines row ≡ changes

  open_row : (index : ℕ) (changes : List Noted) (at : StandsAt all index changes) → OpenRow index changes × ((sent index changes at).epoch ≡ epoch)
  open_row index changes at =
      let s = sent index changes at in
      let x = some_of index changes at in
      let r = row_of lines t (committed_entry 1 s.epoch (index + 1) x.0) (s.logged x.0 x.1) in
      let c = r.commits in
      let p = row_part all lines t r.place r.row c.client c.head commits cloud.kinds r.there c.lands in
      let same_epoch : s.epoch ≡ c.head.epoch = ap (λ (e : Entry). e.epoch) c.is in
      let same_txn : index + 1 ≡ c.head.txn = ap (λ (e : Entry). e.txn) c.is in
      let lands : LandsOpen t r.row 1 c.head = subst (λ k. LandsOpen t r.row k c.head) p.client_is c.lands in
      let b = bounded r.place r.row c.head r.there lands in
      let noted : x.0 ≡ c.noted = same_noted x.0 c.noted (ap (λ (e : Entry). e.tree) c.is) (ap (λ (e : Entry). e.change) c.is) in
      let one : index ≡ p.index = shared index p.index changes (changes_of_row lines r.row) x.0 at p.part x.1 (subst (λ y. IsIn (changes_of_row lines r.row) y) (sym noted) c.noted_in) in (
        record {
          place = r.place;
          row = r.row;
          there = r.there;
          head = c.head;
          lands = lands;
          epoch_is = b.0;
          txn_is = sym same_txn;
          changes_are = get_same all p.index index (changes_of_row lines r.row) changes (sym one) p.part at;
        },
        same_epoch ∙ b.0,
      )
    where
      same_noted : (x y : Noted) → x.tree ≡ y.tree → x.change ≡ y.change → x ≡ y
      same_noted x y tree change = λ i. record { tree = tree i; change = change i }

  -- ---- the log

  logged : AreAllLogged st 1
  logged = stand.cloud.holds.leaves.logged 1 (record { some = omega arith; most = omega arith })

  -- a committed entry is that of a record of the log
  record LogRecord (e : Entry) : Type 0 where
    of : AtomicRec
    there : IsIn book.log of
    is : entry_of of ≡ e

  log_record : (e : Entry) → IsIn (committed lines t) e → LogRecord e
  log_record e is =
      let own : IsIn (entries_of book.log) e = subst (λ es. IsIn es e) (sym cloud.committed) is in
      let m = map_there entry_of book.log own.0 e own.1 in
      record { of = m.0; there = (own.0, m.1); is = m.2 }

  -- whose number is one at least
  log_number : (r : AtomicRec) → IsIn book.log r → 1 ≤ r.txn
  log_number r is =
      let m = stand.cloud.holds.leaves.sent r is in
      (atomic_of-some m.1.message.bytes r m.1.reads).0.txn.some

  -- a row that opened a transaction of client 1 is that of a part
  record IsOpenRow (client : ℕ) (row : Landing) (head : Head) : Type 0 where
    client_is : client ≡ 1
    epoch_is : head.epoch ≡ epoch
    index : ℕ
    txn_is : head.txn ≡ index + 1
    part : StandsAt all index (changes_of_row lines row)

  -- so is one whose number is known to be one at least
  open_row_by : (place : ℕ) (row : Landing) (client : ℕ) (head : Head) → slice_get t.trace place ≡ Some row → LandsOpen t row 1 head → OfPart all lines row client
      → (head.epoch ≡ epoch) × (head.txn ≤ count) → 1 ≤ head.txn → (changes : List Noted) → (at : StandsAt all (head.txn - 1) changes) → OpenRow (head.txn - 1) changes → IsOpenRow client row head
  open_row_by place row client head there lands p b some changes at o =
      let behind : o.head.txn ≡ head.txn = let e = o.txn_is in omega (arith, e, some) in
      let same_place : place ≡ o.place = cloud.once place o.place row o.row 1 head o.head there o.there lands o.lands (b.0 ∙ sym o.epoch_is) (sym behind) in
      let same_row : row ≡ o.row = get_same t.trace place o.place row o.row same_place there o.there in
      let own : changes_of_row lines row ≡ changes = ap (changes_of_row lines) same_row ∙ o.changes_are in
      record {
        client_is = p.client_is;
        epoch_is = b.0;
        index = head.txn - 1;
        txn_is = omega (arith, some);
        part = subst (StandsAt all (head.txn - 1)) (sym own) at;
      }

  -- the number of a row that opened a part is that of a record in the log
  row_number : (place : ℕ) (row : Landing) (head : Head) → slice_get t.trace place ≡ Some row → LandsOpen t row 1 head → (index : ℕ) → StandsAt all index (changes_of_row lines row)
      → 1 ≤ head.txn
  row_number place row head there lands index part =
      let x = some_of index (changes_of_row lines row) part in
      let r = log_record (committed_entry 1 head.epoch head.txn x.0) (entry_of_row lines t place row 1 head x.0 there lands x.1) in
      subst (λ k. 1 ≤ k) (ap (λ (e : Entry). e.txn) r.is) (log_number r.of r.there)

  part_below : (k : ℕ) → 1 ≤ k → k ≤ count → (changes : List Noted) × StandsAt all (k - 1) changes
  part_below k some most = let long = parts_count count records in there_at all (k - 1) (omega (arith, some, most, long))

  is_open_row : (place : ℕ) (row : Landing) (client : ℕ) (head : Head) → slice_get t.trace place ≡ Some row → LandsOpen t row client head → IsOpenRow client row head
  is_open_row place row client head there lands_in = on (row_part all lines t place row client head commits cloud.kinds there lands_in)
    where
      on : OfPart all lines row client → IsOpenRow client row head
      on p = by_number (row_number place row head there lands p.index p.part)
        where
          lands : LandsOpen t row 1 head
          lands = subst (λ k. LandsOpen t row k head) p.client_is lands_in

          b : (head.epoch ≡ epoch) × (head.txn ≤ count)
          b = bounded place row head there lands

          by_number : 1 ≤ head.txn → IsOpenRow client row head
          by_number some = by_part (part_below head.txn some b.1)
            where
              by_part : (changes : List Noted) × StandsAt all (head.txn - 1) changes → IsOpenRow client row head
              by_part own = open_row_by place row client head there lands p b some own.0 own.1 (open_row (head.txn - 1) own.0 own.1).0

  -- ---- messages

  -- a record in the log that agrees with another one in all but index and number is the same
  one_record : (a b : AtomicRec) → IsIn book.log a → IsIn book.log b → a.client ≡ b.client → a.epoch ≡ b.epoch → a.txn ≡ b.txn → a.tree ≡ b.tree → a.change ≡ b.change → a ≡ b
  one_record a b in_a in_b client same_epoch txn tree change =
      let place : in_a.0 ≡ in_b.0 =
      stand.cloud.holds.numbers.once in_a.0 in_b.0 (entry_of a) (entry_of b) (get_map entry_of book.log in_a.0 a in_a.1) (get_map entry_of book.log in_b.0 b in_b.1)
      (record { client = client; epoch = same_epoch; txn = txn; tree = tree; key = ap key_of change }) in
      get_same book.log in_a.0 in_b.0 a b place in_a.1 in_b.1

  log_message : (client at : ℕ) (r : AtomicRec) → (m : IsCommittedMessage t client at r) → IsLogMessage (t.messages (Atomic client)) (at + 1) r
  log_message client at r m = record { place = at; message = m.message; id_is = refl; there = m.there; reads = m.reads }

  -- what is known of a message of a transaction that was opened: its row, which opened a part, and a record of its transaction in the log
  record Met (client at : ℕ) (r : AtomicRec) : Type 0 where
    place : ℕ
    row : Landing
    there : slice_get t.trace place ≡ Some row
    head : Head
    lands : LandsOpen t row 1 head
    client_is : client ≡ 1
    index : ℕ
    part : StandsAt all index (changes_of_row lines row)
    head_epoch : head.epoch ≡ r.epoch
    head_txn : head.txn ≡ r.txn
    epoch_is : r.epoch ≡ epoch
    txn_is : r.txn ≡ index + 1
    message : IsLogMessage (t.messages (Atomic 1)) (at + 1) r
    known : AtomicRec
    in_log : IsIn book.log known
    known_client : known.client ≡ 1
    known_epoch : known.epoch ≡ r.epoch
    known_txn : known.txn ≡ r.txn

  met : (client at : ℕ) (r : AtomicRec) → IsCommittedMessage t client at r → Met client at r
  met client at r m = by_row (opened_by t client r.epoch r.txn traced m.opened)
    where
      by_row : OpenedBy t client r.epoch r.txn → Met client at r
      by_row o = by_part (is_open_row o.place o.row client o.head o.there o.lands)
        where
          by_part : IsOpenRow client o.row o.head → Met client at r
          by_part p = by_log (log_record (committed_entry 1 o.head.epoch o.head.txn x.0) (entry_of_row lines t o.place o.row 1 o.head x.0 o.there lands x.1))
            where
              lands : LandsOpen t o.row 1 o.head
              lands = subst (λ k. LandsOpen t o.row k o.head) p.client_is o.lands

              x : (y : Noted) × IsIn (changes_of_row lines o.row) y
              x = some_of p.index (changes_of_row lines o.row) p.part

              by_log : LogRecord (committed_entry 1 o.head.epoch o.head.txn x.0) → Met client at r
              by_log q = record {
                place = o.place;
                row = o.row;
                there = o.there;
                head = o.head;
                lands = lands;
                client_is = p.client_is;
                index = p.index;
                part = p.part;
                head_epoch = o.epoch_is;
                head_txn = o.txn_is;
                epoch_is = sym o.epoch_is ∙ p.epoch_is;
                txn_is = sym o.txn_is ∙ p.txn_is;
                message = subst (λ k. IsLogMessage (t.messages (Atomic k)) (at + 1) r) p.client_is (log_message client at r m);
                known = q.of;
                in_log = q.there;
                known_client = ap (λ (e : Entry). e.client) q.is;
                known_epoch = ap (λ (e : Entry). e.epoch) q.is ∙ o.epoch_is;
                known_txn = ap (λ (e : Entry). e.txn) q.is ∙ o.txn_is;
              }

  -- a message of the transaction of a record in the log is in the log
  comes_in : (known : AtomicRec) (id : ℕ) (r : AtomicRec) → IsIn book.log known → known.client ≡ 1 → known.epoch ≡ r.epoch → known.txn ≡ r.txn → IsLogMessage (t.messages (Atomic 1)) id r
      → IsIn book.log r
  comes_in known id r in_log client same_epoch txn m = logged.committed id r known m in_log client same_epoch txn

  -- its change is one of the part
  record ItsChange (row : Landing) (r : AtomicRec) : Type 0 where
    noted : Noted
    noted_in : IsIn (changes_of_row lines row) noted
    tree_is : r.tree ≡ noted.tree
    change_is : r.change ≡ noted.change

  its_change : (place : ℕ) (row : Landing) (head : Head) (r : AtomicRec) → slice_get t.trace place ≡ Some row → LandsOpen t row 1 head → head.epoch ≡ r.epoch → head.txn ≡ r.txn
      → IsIn book.log r → ItsChange row r
  its_change place row head r at lands head_epoch head_txn in_log = by_entry (row_of lines t (entry_of r) entry)
    where
      entry : IsIn (committed lines t) (entry_of r)
      entry = subst (λ es. IsIn es (entry_of r)) cloud.committed (in_log.0, get_map entry_of book.log in_log.0 r in_log.1)

      by_entry : HasRow lines t (entry_of r) → ItsChange row r
      by_entry o = by_part (is_open_row o.place o.row o.commits.client o.commits.head o.there o.commits.lands)
        where
          by_part : IsOpenRow o.commits.client o.row o.commits.head → ItsChange row r
          by_part p =
              let lands_then : LandsOpen t o.row 1 o.commits.head = subst (λ k. LandsOpen t o.row k o.commits.head) p.client_is o.commits.lands in
              let same_epoch : o.commits.head.epoch ≡ head.epoch = sym (ap (λ (e : Entry). e.epoch) o.commits.is) ∙ sym head_epoch in
              let same_txn : o.commits.head.txn ≡ head.txn = sym (ap (λ (e : Entry). e.txn) o.commits.is) ∙ sym head_txn in
              let same_place : o.place ≡ place = cloud.once o.place place o.row row 1 o.commits.head head o.there at lands_then lands same_epoch same_txn in
              let same_row : o.row ≡ row = get_same t.trace o.place place o.row row same_place o.there at in
              record {
                noted = o.commits.noted;
                noted_in = subst (λ z. IsIn (changes_of_row lines z) o.commits.noted) same_row o.commits.noted_in;
                tree_is = ap (λ (e : Entry). e.tree) o.commits.is;
                change_is = ap (λ (e : Entry). e.change) o.commits.is;
              }

  -- the message that the transaction sent for the change is this one
  sent_index : (client at : ℕ) (r : AtomicRec) (m : Met client at r) (c : ItsChange m.row r) → IsIn book.log r → r.index ≡ c.noted_in.0 + 1
  sent_index client at r m c in_log = by_epoch (open_row m.index (changes_of_row lines m.row) m.part).1
    where
      s : IsSent t (committed lines t) (m.index + 1) (changes_of_row lines m.row)
      s = sent m.index (changes_of_row lines m.row) m.part

      by_epoch : s.epoch ≡ epoch → r.index ≡ c.noted_in.0 + 1
      by_epoch s_epoch = by_message (s.sent c.noted_in.0 c.noted c.noted_in.1)
        where
          by_message : SentAs t s.epoch (m.index + 1) c.noted_in.0 c.noted → r.index ≡ c.noted_in.0 + 1
          by_message w =
              let own : IsLogMessage (t.messages (Atomic 1)) (w.at + 1) w.of = record { place = w.at; message = w.message; id_is = refl; there = w.there; reads = w.reads } in
              let w_epoch : w.of.epoch ≡ r.epoch = w.epoch_is ∙ s_epoch ∙ sym m.epoch_is in
              let w_txn : w.of.txn ≡ r.txn = w.txn_is ∙ sym m.txn_is in
              let w_log : IsIn book.log w.of = comes_in m.known (w.at + 1) w.of m.in_log m.known_client (m.known_epoch ∙ sym w_epoch) (m.known_txn ∙ sym w_txn) own in
              let one : r ≡ w.of =
              one_record r w.of in_log w_log (logged.own (at + 1) r m.message ∙ sym (logged.own (w.at + 1) w.of own)) (sym w_epoch) (sym w_txn) (c.tree_is ∙ sym w.tree_is)
              (c.change_is ∙ sym w.change_is) in
              ap (λ (z : AtomicRec). z.index) one ∙ w.index_is

  -- a message of a transaction that was opened is that of a record
  of_change : (client at : ℕ) (r : AtomicRec) (m : Met client at r) (c : ItsChange m.row r) → r.index ≡ c.noted_in.0 + 1
      → RecordAt m.index c.noted_in.0 c.noted → IsOfRecord records epoch client r
  of_change client at r m c index of =
      let tells = place_tells (200 * m.index + c.noted_in.0) m.index c.noted_in.0 refl of.small in
      record {
        client_is = m.client_is;
        epoch_is = m.epoch_is;
        place = 200 * m.index + c.noted_in.0;
        loaded = of.loaded;
        there = of.there;
        loads = record {
          txn = m.txn_is ∙ ap (λ k. k + 1) (sym tells.0);
          index = index ∙ ap (λ k. k + 1) (sym tells.1);
          tree = c.tree_is ∙ sym (ap (λ (z : Noted). z.tree) of.is);
          change = c.change_is ∙ sym (ap (λ (z : Noted). z.change) of.is);
        };
      }

  with_change : (client at : ℕ) (r : AtomicRec) (m : Met client at r) → IsIn book.log r → ItsChange m.row r → IsOfRecord records epoch client r
  with_change client at r m in_log c =
      of_change client at r m c (sent_index client at r m c in_log) (record_at m.index (changes_of_row lines m.row) c.noted_in.0 c.noted m.part c.noted_in.1)

  when_met : (client at : ℕ) (r : AtomicRec) (m : Met client at r) → IsOfRecord records epoch client r
  when_met client at r m = on (comes_in m.known (at + 1) r m.in_log m.known_client m.known_epoch m.known_txn m.message)
    where
      on : IsIn book.log r → IsOfRecord records epoch client r
      on in_log = with_change client at r m in_log (its_change m.place m.row m.head r m.there m.lands m.head_epoch m.head_txn in_log)

  is_of_record : (client at : ℕ) (r : AtomicRec) → IsCommittedMessage t client at r → IsOfRecord records epoch client r
  is_of_record client at r m = when_met client at r (met client at r m)

  -- each record has its message
  has_message : (place : ℕ) (p : Placed) → slice_get records place ≡ Some p → HasMessage t epoch place p
  has_message place p at =
      let s = in_part_at count records place p enough at in
      let part : StandsAt all s.at (changes_of s.part) = get_map changes_of (parts count records) s.at s.part s.part_at in
      let x = sent s.at (changes_of s.part) part in
      let o = open_row s.at (changes_of s.part) part in
      let w = x.sent s.within (noted_of p) (get_map noted_of s.part s.within p s.there) in
      let tells = place_tells place s.at s.within s.is s.small in
      let own_epoch : w.of.epoch ≡ epoch = w.epoch_is ∙ o.1 in
      let opened : WasOpened t 1 o.0.head.epoch o.0.head.txn = was_opened t o.0.row 1 o.0.head o.0.lands in
      record {
        at = w.at;
        of = w.of;
        message = record {
          message = w.message;
          there = w.there;
          reads = w.reads;
          opened = subst (λ e. WasOpened t 1 e w.of.txn) (o.0.epoch_is ∙ sym own_epoch) (subst (λ k. WasOpened t 1 o.0.head.epoch k) (o.0.txn_is ∙ sym w.txn_is) opened);
        };
        epoch_is = own_epoch;
        loads = record {
          txn = w.txn_is ∙ ap (λ k. k + 1) (sym tells.0);
          index = w.index_is ∙ ap (λ k. k + 1) (sym tells.1);
          tree = w.tree_is;
          change = w.change_is;
        };
      }

  one_message : (i j : ℕ) (a b : AtomicRec) → IsCommittedMessage t 1 i a → IsCommittedMessage t 1 j b → a.txn ≡ b.txn → a.index ≡ b.index → i ≡ j
  one_message i j a b m k txn index =
      let e = (is_of_record 1 i a m).epoch_is in
      let f = (is_of_record 1 j b k).epoch_is in
      let same : i + 1 ≡ j + 1 = logged.distinct (i + 1) (j + 1) a b (log_message 1 i a m) (log_message 1 j b k) (e ∙ sym f) txn index in
      omega (arith, same)

  pub are_logged : AreLogged t records
  are_logged = record {
    epoch = epoch;
    each = has_message;
    alone = λ client at r is m. is_of_record client at r m;
    once = one_message;
  }
