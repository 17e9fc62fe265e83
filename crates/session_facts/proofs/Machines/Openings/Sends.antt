-- What the sends of an opening and its put rest on.
use Rattle.std.proofs.Common.{◌≡◌, ◌+◌, ◌<◌, ◌==◌, ◌&&◌, ◌⊎◌, inl, inr, ℕ, true, List, [], ◌∷◌, ◌++◌, length, map, Option, Some, None, refl, sym, ap, subst, ◌∙◌, arith}
use Rattle.std.specs.Prelude.{slice_get}
use Rattle.std.specs.List.{AllByRecursion}
use Rattle.std.proofs.lemmas.Bool.{and_from, eq-eqb}
use Rattle.std.proofs.lemmas.List.{take_all}
use Rattle.cloud_facts.specs.Calls.Others.{WasSentOn}
use Rattle.cloud_facts.specs.Copies.Copies.{IsSentOn, SendsInTurn}
use Rattle.cloud_facts.proofs.Copies.Turns.{sends_in_turn}
use Rattle.cloud_facts.specs.Words.{IsClient, AtomicRec, Head, Caller, Claim, Store, IsIn, StandsAt}
use Rattle.head_codec.specs.declared.head.Phase.{Phase}
use Rattle.head_codec.specs.declared.head.Phase.TheVariants.{Settled, Open}
use Rattle.head_codec.specs.declared.lists.Pending.{Pending}
use Rattle.cloud_facts.specs.Homes.Homes.{Part}
use Rattle.cloud_facts.specs.Landings.Landing.{sent_by}
use Rattle.cloud_facts.specs.Lefts.Left.{IsCopied, HasWay, Leaves}
use Rattle.cloud_facts.proofs.Lefts.MessageLemmas.{copy_of_waits}
use Rattle.log_codec.specs.Pu.{pu_of}
use Rattle.cloud_facts.proofs.Numbers.Lists.{filter_at, map_there, map_at, get_same}
use Rattle.cloud_facts.proofs.Numbers.Ways.{is_way, settled_way, open_way, way_epoch}
use Rattle.session_facts.specs.Machines.Openings.Knows.{opener, IsWanted, SendsOn}
use Rattle.session_facts.proofs.Machines.Openings.Kept.{each_in, index_at}
use Rattle.recover_run.specs.declared.items.AtomicItem.{AtomicItem}
use Rattle.recover_run.specs.declared.wanted.Wanted.{Wanted}
use Rattle.recover_run.specs.Gathering.{count_of, wanted_of}
use Rattle.recover_run.specs.Meaning.{head_behind}
use Rattle.recover_run.proofs.Knows.{IsRising}
use Rattle.route_plan.proofs.Places.{past_none}
use Rattle.route_plan.specs.Queue.{number_of_queue}
use Rattle.route_plan.specs.Record.{pu_record_of, pending_of}
use Rattle.cloud_facts.specs.Book.Effects.{after_posted}
use Rattle.cloud_facts.specs.Book.Premises.{Settles, Posts}
use Rattle.cloud_facts.specs.Book.Records.{IsUnderWay, is_under_way, under_way}
use Rattle.cloud_facts.proofs.Book.Places.{get_within, in_either, in_front, in_behind}
use Rattle.session_facts.proofs.Machines.Commits.Settled.{posted_waits}

-- ---- a send

pub posts_record : (st : Store) (who : Caller) (r : AtomicRec) (bytes : List ℕ) → IsIn st.book.log r → pu_of bytes ≡ Some (pu_record_of r) → SendsInTurn st r
    → Posts st r.tree r.page (sent_by who bytes) r
posts_record st who r bytes logged reads turn = record { logged = logged; tree_is = refl; page_is = refl; reads = reads; unmarked = refl; turn = turn }

pub posted_sent : (st : Store) (who : Caller) (r : AtomicRec) (bytes : List ℕ) → pu_of bytes ≡ Some (pu_record_of r)
    → WasSentOn (after_posted r.tree r.page (sent_by who bytes) st).tally r × IsCopied (after_posted r.tree r.page (sent_by who bytes) st).tally r
posted_sent st who r bytes reads =
    let waits = posted_waits st who r bytes reads in (inr waits, copy_of_waits _ (pu_record_of r) waits)

-- ---- what is under way of the head that was read

pub there_at : {X : Type 0} (xs : List X) (k : ℕ) → k < length xs → (x : X) × (slice_get xs k ≡ Some x)
there_at {X} xs k within = on (slice_get xs k) refl
  where
    on : (o : Option X) → slice_get xs k ≡ o → (x : X) × (slice_get xs k ≡ Some x)
    on (Some x) e = (x, e)
    on None e = let past = past_none xs k e in absurd (omega (arith, past, within))

module _ (st : Store) (client : ℕ) (before : Head) (w : Wanted) (kept : List AtomicItem) (leaves : Leaves st) (is_client : IsClient client) (newest : st.tally.head client ≡ before)
    (wanted : w ≡ wanted_of before) (rising : IsRising 1 kept) (all : AllByRecursion (IsWanted st client w) kept) (whole : length kept ≡ w.count) where
  -- a wanted record is under way
  wanted_way : (x : AtomicItem) (count : ℕ) → before.phase ≡ Open count → IsWanted st client w x → IsUnderWay st.tally x.rec
  wanted_way x count opens is =
      subst (λ (h : Head). is_way h x.rec ≡ true) (sym (ap st.tally.head is.client_is ∙ newest))
      (open_way before x.rec count opens (is.epoch_is ∙ ap (λ (v : Wanted). v.epoch) wanted) (is.txn_is ∙ ap (λ (v : Wanted). v.txn) wanted))

  way_at : (r : AtomicRec) → IsIn st.book.log r → r.client ≡ client → IsUnderWay st.tally r → (k : ℕ) × StandsAt (under_way st.tally client st.book.log) k r
  way_at r logged own way =
      filter_at (λ (q : AtomicRec). (q.client == client) && is_under_way st.tally q) st.book.log logged.0 r
      (and_from (r.client == client) (is_under_way st.tally r) (eq-eqb r.client client own) way) logged.1

  -- each record under way is kept
  pub way_kept : (r : AtomicRec) → IsIn st.book.log r → r.client ≡ client → IsUnderWay st.tally r → (place : ℕ) × (x : AtomicItem) × StandsAt kept place x × (x.rec ≡ r)
  way_kept r logged own way = on before.phase refl
    where
      here : is_way before r ≡ true
      here = subst (λ (h : Head). is_way h r ≡ true) (ap st.tally.head own ∙ newest) way

      open_kept : (count : ℕ) → before.phase ≡ Open count → (place : ℕ) × (x : AtomicItem) × StandsAt kept place x × (x.rec ≡ r)
      open_kept count opens = (k, x.0, x.1, same)
        where
          ways : HasWay st client count
          ways = leaves.ways client count is_client (ap (λ (h : Head). h.phase) newest ∙ opens)

          at_r : (k : ℕ) × StandsAt (under_way st.tally client st.book.log) k r
          at_r = way_at r logged own way

          k : ℕ
          k = at_r.0

          within : k < length kept
          within =
              let room = get_within (under_way st.tally client st.book.log) k r at_r.1 in
              let count_is : w.count ≡ count = ap (λ (v : Wanted). v.count) wanted ∙ ap count_of opens in
              let n = ways.length_is in omega (arith, room, count_is, n, whole)

          x : (y : AtomicItem) × StandsAt kept k y
          x = there_at kept k within

          is : IsWanted st client w x.0
          is = each_in (IsWanted st client w) kept all x.0 (k, x.1)

          at_x : (j : ℕ) × StandsAt (under_way st.tally client st.book.log) j x.0.rec
          at_x = way_at x.0.rec is.logged is.client_is (wanted_way x.0 count opens is)

          one : at_x.0 ≡ k
          one =
              let mine : x.0.rec.index ≡ 1 + k = index_at st client w 1 kept rising all (omega (arith, whole)) k x.0 x.1 in
              let its = (ways.each at_x.0 x.0.rec at_x.1).index_is in omega (arith, mine, its)

          same : x.0.rec ≡ r
          same = get_same (under_way st.tally client st.book.log) at_x.0 k x.0.rec r one at_x.1 at_r.1

      on : (p : Phase) → before.phase ≡ p → (place : ℕ) × (x : AtomicItem) × StandsAt kept place x × (x.rec ≡ r)
      on Settled e = absurd (settled_way before r e here)
      on (Open count) e = open_kept count e

-- ---- the turn

-- a kept record is sent behind those of its transaction before it, whatever head is the newest
pub sent_in_turn : (st : Store) (client : ℕ) (former lease : Option Claim) (w : Wanted) (head : Head) (kept : List AtomicItem) (part : Part) (sent : ℕ) → Leaves st → IsClient client
    → (k : SendsOn st (opener client former lease w) head kept part sent) → (st.tally.head client ≡ k.read.before) ⊎ (k.read.before.epoch < (st.tally.head client).epoch)
    → (x : AtomicItem) → StandsAt kept sent x → SendsInTurn st x.rec
sent_in_turn st client former lease w head kept part sent leaves is k later x there =
    sends_in_turn st x.rec leaves (subst IsClient (sym of_x.client_is) is) (λ way. known (newest way later))
  where
    of_x : IsWanted st client w x
    of_x = each_in (IsWanted st client w) kept k.read.kept_are x (sent, there)

    newest : IsUnderWay st.tally x.rec → (st.tally.head client ≡ k.read.before) ⊎ (k.read.before.epoch < (st.tally.head client).epoch) → st.tally.head client ≡ k.read.before
    newest way (inl same) = same
    newest way (inr above) =
        let one = way_epoch (st.tally.head x.rec.client) x.rec way in
        let other = ap (λ c. (st.tally.head c).epoch) of_x.client_is in
        let read = of_x.epoch_is ∙ ap (λ (v : Wanted). v.epoch) k.read.wanted_is in absurd (omega (arith, one, other, read, above))

    known : st.tally.head client ≡ k.read.before → (q : AtomicRec) → IsIn st.book.log q → q.client ≡ x.rec.client → IsUnderWay st.tally q → q.index < x.rec.index → IsSentOn st.tally q
    known same q logged own way less =
        subst (λ (y : AtomicRec). IsSentOn st.tally y) of.3 (k.was_sent of.0 of.1 before of.2).1
      where
        of : (place : ℕ) × (y : AtomicItem) × StandsAt kept place y × (y.rec ≡ q)
        of = way_kept st client k.read.before w kept leaves is same k.read.wanted_is k.read.rising k.read.kept_are k.whole q logged (own ∙ of_x.client_is) way

        at : (place : ℕ) (y : AtomicItem) → StandsAt kept place y → y.rec.index ≡ 1 + place
        at place y there = index_at st client w 1 kept k.read.rising k.read.kept_are (let n = k.whole in omega (arith, n)) place y there

        before : of.0 < sent
        before =
            let one = at of.0 of.1 of.2 in let other = at sent x there in let same_index = ap (λ (y : AtomicRec). y.index) of.3 in
            omega (arith, one, other, same_index, less)

-- ---- the put

abbrev entries_of : List AtomicItem → List Pending
entries_of kept = map pending_of (map (λ (x : AtomicItem). x.rec) kept)

-- the head of the next epoch lands behind the one that was read, with all that was under way sent on and pending
pub settles_read : (st : Store) (client : ℕ) (former lease : Option Claim) (w : Wanted) (head : Head) (kept : List AtomicItem) (part : Part) → Leaves st → IsClient client
    → (k : SendsOn st (opener client former lease w) head kept part (length kept)) → st.tally.head client ≡ k.read.before → Settles st client head
settles_read st client former lease w head kept part leaves is k newest = record {
  is_client = is;
  phase = ap (λ (h : Head). h.phase) head_is;
  behind = inr (ap (λ (h : Head). h.epoch) head_is ∙ ap (λ (h : Head). h.epoch + 1) (sym newest));
  counters = λ tree page. ap (λ (h : Head). number_of_queue h.counters tree page) head_is ∙ ap (λ (h : Head). number_of_queue h.counters tree page) (sym newest);
  sent = λ r logged own way. (sent_of r logged own way).0;
  copied = λ r logged own way. let c = (sent_of r logged own way).1 in (c.place + 1, record { place = c.place; message = c.message; id_is = refl; there = c.there; reads = c.reads });
  pending_kept = λ p in_old. inl (subst (λ ps. IsIn ps p) (sym pending) (in_front _ (entries_of kept) p (subst (λ (h : Head). IsIn h.pending p) newest in_old)));
  pending_taken = λ r logged own way. subst (λ ps. IsIn ps (pending_of r)) (sym pending) (in_behind k.read.before.pending (entries_of kept) (pending_of r) (taken r (kept_of r logged own way)));
  pending_from = λ p in_new. from p (in_either k.read.before.pending (entries_of kept) p (subst (λ ps. IsIn ps p) pending in_new));
}
  where
    head_is : head ≡ head_behind k.read.before kept
    head_is = k.head_is ∙ ap (head_behind k.read.before) (take_all (length kept) kept (omega arith))

    pending : head.pending ≡ k.read.before.pending ++ (entries_of kept)
    pending = ap (λ (h : Head). h.pending) head_is

    kept_of : (r : AtomicRec) → IsIn st.book.log r → r.client ≡ client → IsUnderWay st.tally r → (place : ℕ) × (x : AtomicItem) × StandsAt kept place x × (x.rec ≡ r)
    kept_of = way_kept st client k.read.before w kept leaves is newest k.read.wanted_is k.read.rising k.read.kept_are k.whole

    sent_of : (r : AtomicRec) → IsIn st.book.log r → r.client ≡ client → IsUnderWay st.tally r → WasSentOn st.tally r × IsCopied st.tally r
    sent_of r logged own way =
        let x = kept_of r logged own way in
        subst (λ (q : AtomicRec). WasSentOn st.tally q × IsCopied st.tally q) x.3 (k.was_sent x.0 x.1 (get_within kept x.0 x.1 x.2) x.2)

    taken : (r : AtomicRec) → (place : ℕ) × (x : AtomicItem) × StandsAt kept place x × (x.rec ≡ r) → IsIn (entries_of kept) (pending_of r)
    taken r x =
        subst (λ (q : AtomicRec). IsIn (entries_of kept) (pending_of q)) x.3
        (x.0, map_at pending_of (map (λ (y : AtomicItem). y.rec) kept) x.0 x.1.rec (map_at (λ (y : AtomicItem). y.rec) kept x.0 x.1 x.2))

    from : (p : Pending) → IsIn k.read.before.pending p ⊎ IsIn (entries_of kept) p
        → IsIn (st.tally.head client).pending p ⊎ ((r : AtomicRec) × IsIn st.book.log r × (r.client ≡ client) × IsUnderWay st.tally r × (p ≡ pending_of r))
    from p (inl old) = inl (subst (λ (h : Head). IsIn h.pending p) (sym newest) old)
    from p (inr new) =
        let r = map_there pending_of (map (λ (y : AtomicItem). y.rec) kept) new.0 p new.1 in
        let x = map_there (λ (y : AtomicItem). y.rec) kept new.0 r.0 r.1 in
        let wanted : IsWanted st client w x.0 = each_in (IsWanted st client w) kept k.read.kept_are x.0 (new.0, x.1) in
        inr (x.0.rec, wanted.logged, wanted.client_is, under x.0 wanted k.read.before.phase refl, sym (ap pending_of x.2 ∙ r.2))
      where
        under : (x : AtomicItem) → IsWanted st client w x → (phase : Phase) → k.read.before.phase ≡ phase → IsUnderWay st.tally x.rec
        under x is_wanted (Open count) e =
            wanted_way st client k.read.before w kept leaves is newest k.read.wanted_is k.read.rising k.read.kept_are k.whole x count e is_wanted
        under x is_wanted Settled e = absurd (none x is_wanted)
          where
            none : (y : AtomicItem) → IsWanted st client w y → ⊥
            none y wanted = never kept k.read.kept_are (k.whole ∙ (ap (λ (v : Wanted). v.count) k.read.wanted_is ∙ ap count_of e)) new
              where
                never : (xs : List AtomicItem) → AllByRecursion (IsWanted st client w) xs → length xs ≡ 0 → IsIn (map pending_of (map (λ (z : AtomicItem). z.rec) xs)) p → ⊥
                never [] all length_is (place, there) = cc
                never (z ∷ xs) all length_is there = omega (arith, length_is)
