-- What an opening knows survives the calls of others.
use Rattle.std.proofs.Common.{◌≡◌, ◌≤◌, ◌⊎◌, inl, inr, ℕ, List, [], ◌++◌, Bool, true, Option, Some, sym, ap, subst, ◌∙◌, arith}
use Rattle.std.specs.List.{AllByRecursion}
use Rattle.cloud_facts.specs.Calls.Acting.{opened_client, KnowsHome, HasLeaseOf, of_option}
use Rattle.cloud_facts.specs.Calls.Others.{Others, Passes, WasSentOn}
use Rattle.cloud_facts.proofs.Calls.Copies.{copied_stays, log_stays}
use Rattle.cloud_facts.proofs.Calls.OthersLemmas.{in_option, pruned_stays}
use Rattle.cloud_facts.specs.Words.{AtomicRec, Head, Claim, Lasts, Store, IsIn}
use Rattle.db_base.specs.declared.names.Lock.TheVariants as lock
use Rattle.cloud_facts.specs.Homes.Homes.{Part, Away}
use Rattle.cloud_facts.specs.Lefts.Left.{IsCopied}
use Rattle.session_facts.specs.Machines.Openings.Client.{KnowsClient}
use Rattle.session_facts.specs.Machines.Openings.Knows.{opener_of, opener, leases_of_recovery, IsCommitted, IsWanted, IsMessageThat, HasRead, Gathers, SendsOn, HasSifted, HasPut, KnowsOpeningAt, KnowsOpening}
use Rattle.session_facts.proofs.Machines.Openings.Kept.{each_in}
use Rattle.session_facts.proofs.Machines.Openings.Messages.{log_message_stays}
use Rattle.recover_run.specs.declared.items.AtomicItem.{AtomicItem}
use Rattle.recover_run.specs.declared.stage.Stage.{Stage}
use Rattle.recover_run.specs.declared.stage.Stage.TheVariants.{ReleasingOld, Taking, Getting, Receiving, Deleting, Sending, Putting, Clearing, Sweeping, Releasing, Finished}
use Rattle.recover_run.specs.declared.wanted.Wanted.{Wanted}
use Rattle.recover_run.specs.Gathering.{Gathered}
use Rattle.recover_run.specs.Ids.{has_id}
use Rattle.recover_run.specs.Recovery.{Recovery}
use Rattle.recover_run.proofs.KeptRecords.{all_so}
use Rattle.cloud_facts.specs.Book.Growth.{Grows}
use Rattle.cloud_facts.specs.Book.Messages.{IsDeleted}
use Rattle.cloud_facts.proofs.Book.Places.{in_front, in_behind}
use Rattle.session_facts.proofs.Machines.Openings.Counted.{counted_stay}
use Rattle.session_facts.proofs.Machines.Openings.Entries.{records_stay}

-- ---- leases in hand

pub former_in_hand : (former lease : Option Claim) (l : Claim) → former ≡ Some l → IsIn (of_option former ++ of_option lease) l
former_in_hand former lease l e = in_front (of_option former) (of_option lease) l (in_option former l e)

pub lease_in_hand : (former lease : Option Claim) (l : Claim) → lease ≡ Some l → IsIn (of_option former ++ of_option lease) l
lease_in_hand former lease l e = in_behind (of_option former) (of_option lease) l (in_option lease l e)

-- ---- what any call leaves

module _ (st su : Store) (client : ℕ) (passes : Passes st su) where
  pub message_passes : (test : AtomicRec → Bool) (id : ℕ) → IsMessageThat st client test id → IsMessageThat su client test id
  message_passes test id m = record {
    of = m.of;
    message = log_message_stays (st.tally.logged client) (su.tally.logged client) id m.of (passes.grows.logged client) m.message;
    passes = m.passes;
  }

  pub messages_pass : (test : AtomicRec → Bool) (ids : List ℕ) → AllByRecursion (IsMessageThat st client test) ids → AllByRecursion (IsMessageThat su client test) ids
  messages_pass test ids all = all_so (IsMessageThat st client test) (IsMessageThat su client test) (message_passes test) ids all

  wanted_passes : (w : Wanted) (x : AtomicItem) → IsWanted st client w x → IsWanted su client w x
  wanted_passes w x is = record {
    message = log_message_stays (st.tally.logged client) (su.tally.logged client) x.id x.rec (passes.grows.logged client) is.message;
    logged = log_stays st su x.rec passes.grows is.logged;
    client_is = is.client_is;
    epoch_is = is.epoch_is;
    txn_is = is.txn_is;
    within = is.within;
  }

  committed_passes : (w : Wanted) → IsCommitted st.book.log client w → IsCommitted su.book.log client w
  committed_passes w c = record { of = c.of; logged = log_stays st su c.of passes.grows c.logged; client_is = c.client_is; epoch_is = c.epoch_is; txn_is = c.txn_is }

  abbrev read_passes : (former lease : Option Claim) (w : Wanted) (kept : List AtomicItem) (part : Part)
      → HasRead st (opener client former lease w) kept part → HasRead su (opener client former lease w) kept part
  read_passes former lease w kept part r = record {
    held = r.held;
    before = r.before;
    part_is = r.part_is;
    wanted_is = r.wanted_is;
    committed = λ some. committed_passes w (r.committed some);
    kept_are = all_so (IsWanted st client w) (IsWanted su client w) (wanted_passes w) kept r.kept_are;
    rising = r.rising;
  }

  pub gathers_passes : (former lease : Option Claim) (w : Wanted) (head : Head) (kept : List AtomicItem) (part : Part) → Gathers st (opener client former lease w) head kept part
      → Gathers su (opener client former lease w) head kept part
  gathers_passes former lease w head kept part g = record { read = read_passes former lease w kept part g.read; head_is = g.head_is }

  pub sifted_passes : (w : Wanted) (ids : List ℕ) (g : Gathered) → HasSifted st client w ids g → HasSifted su client w ids g
  sifted_passes w ids g h = record {
    seen = λ id has. let s = h.seen id has in record {
      of = s.of;
      message = log_message_stays (st.tally.logged client) (su.tally.logged client) id s.of (passes.grows.logged client) s.message;
      noted = s.noted;
    };
    deleted = λ id has. still id (h.deleted id has);
  }
    where
      still : (id : ℕ) → (has_id ids id ≡ true) ⊎ IsDeleted (st.tally.logged client) id → (has_id ids id ≡ true) ⊎ IsDeleted (su.tally.logged client) id
      still id (inl has) = inl has
      still id (inr gone) = inr (passes.deleted client id gone)

  pub sends_pass : (former lease : Option Claim) (w : Wanted) (head : Head) (kept : List AtomicItem) (part : Part) (sent : ℕ) → SendsOn st (opener client former lease w) head kept part sent
      → SendsOn su (opener client former lease w) head kept part sent
  sends_pass former lease w head kept part sent s = record {
    read = read_passes former lease w kept part s.read;
    whole = s.whole;
    head_is = s.head_is;
    was_sent = λ place x less there. still x (place, there) (s.was_sent place x less there);
  }
    where
      still : (x : AtomicItem) → IsIn kept x → WasSentOn st.tally x.rec × IsCopied st.tally x.rec → WasSentOn su.tally x.rec × IsCopied su.tally x.rec
      still x there was =
          (passes.sent_on x.rec (each_in (IsWanted st client w) kept s.read.kept_are x there).logged was.0, copied_stays st su x.rec passes.grows was.1)

-- ---- an open client

-- what an open client knows, where its newest head stays while its lease lasts
pub home_passes : (st su : Store) (now later client : ℕ) (lease : Claim) (head : Head) (attempt : ℕ) (part : Part) → now ≤ later → Grows st su
    → (Lasts later lease → su.tally.head client ≡ st.tally.head client) → KnowsClient st now (opened_client client lease head attempt) part → KnowsClient su later (opened_client client lease head attempt) part
home_passes st su now later client lease head attempt part after grows same c = record {
  at = record {
    is_client = k.is_client;
    lock_is = k.lock_is;
    within = k.within;
    settled = k.settled;
    newest = λ lasts. pruned_stays st su client head k.is_client grows (same lasts) (k.newest (omega (arith, lasts, after)));
    home = k.home;
    part_is = k.part_is;
    client_is = k.client_is;
    lease_is = k.lease_is;
    epoch_is = k.epoch_is;
    begun = k.begun;
  };
  trees = c.trees;
  of_records = records_stay st su client head.pending grows c.of_records;
  counted = counted_stay st su client head.counters grows c.counted;
}
  where
    k : KnowsHome st now (opened_client client lease head attempt) part
    k = c.at

pub put_passes : (st su : Store) (now later client : ℕ) (former lease : Option Claim) (w : Wanted) (head : Head) (part : Part) → now ≤ later → Grows st su
    → ((l : Claim) → lease ≡ Some l → l.lock ≡ lock.Client client → Lasts later l → su.tally.head client ≡ st.tally.head client)
    → HasPut st now (opener client former lease w) head part → HasPut su later (opener client former lease w) head part
put_passes st su now later client former lease w head part after grows same k = record {
  held = k.held;
  home = home_passes st su now later client k.held.now head 0 part after grows (same k.held.now k.held.is k.held.lock) k.home;
  later = k.later;
}

-- ---- the whole

pub opening_others : (st su : Store) (now later : ℕ) (r : Recovery) (part : Part) → now ≤ later → Others (leases_of_recovery r) later st su → KnowsOpening st now r part
    → KnowsOpening su later r part
opening_others st su now later r part after o k = record { client = k.client; at = on r.stage k.at }
  where
    same : (l : Claim) → r.lease ≡ Some l → l.lock ≡ lock.Client r.client → Lasts later l → su.tally.head r.client ≡ st.tally.head r.client
    same l is at_lock lasts = o.head l r.client (lease_in_hand r.former r.lease l is) at_lock lasts

    on : (stage : Stage) → KnowsOpeningAt stage st now r part → KnowsOpeningAt stage su later r part
    on ReleasingOld a = a
    on Taking a = a
    on Getting a = a
    on Receiving a = (
      gathers_passes st su r.client o.passes r.former r.lease r.wanted r.head r.gathered.kept part a.0,
      sifted_passes st su r.client o.passes r.wanted [] r.gathered a.1,
    )
    on Deleting a = (
      gathers_passes st su r.client o.passes r.former r.lease r.wanted r.head r.gathered.kept part a.0,
      sifted_passes st su r.client o.passes r.wanted r.ids r.gathered a.1,
      (messages_pass st su r.client o.passes _ r.ids a.2.0, a.2.1),
    )
    on Sending a = sends_pass st su r.client o.passes r.former r.lease r.wanted r.head r.gathered.kept part r.sent a
    on Putting a = sends_pass st su r.client o.passes r.former r.lease r.wanted r.head r.gathered.kept part _ a
    on Clearing a = (put_passes st su now later r.client r.former r.lease r.wanted r.head part after o.passes.grows same a.0, messages_pass st su r.client o.passes _ r.ids a.1)
    on Sweeping a = put_passes st su now later r.client r.former r.lease r.wanted r.head part after o.passes.grows same a
    on Releasing a = a
    on Finished a = a

-- ---- the lease of its part

-- what an opening has of its client stands under the lease in hand
pub opening_lease : (st : Store) (now : ℕ) (r : Recovery) (part : Part) → KnowsOpening st now r part → HasLeaseOf (leases_of_recovery r) part
opening_lease st now r part k = on r.stage k.at
  where
    away : part ≡ Away → HasLeaseOf (leases_of_recovery r) part
    away e = subst (HasLeaseOf (leases_of_recovery r)) (sym e) tt

    read : HasRead st (opener_of r) r.gathered.kept part → HasLeaseOf (leases_of_recovery r) part
    read a = subst (HasLeaseOf (leases_of_recovery r)) (sym a.part_is) (lease_in_hand r.former r.lease a.held.now a.held.is, a.held.lock)

    put : HasPut st now (opener_of r) r.head part → HasLeaseOf (leases_of_recovery r) part
    put a =
        subst (HasLeaseOf (leases_of_recovery r)) (sym a.home.at.part_is) (
          subst (IsIn (leases_of_recovery r)) (sym a.home.at.lease_is) (lease_in_hand r.former r.lease a.held.now a.held.is),
          ap (λ (l : Claim). l.lock) a.home.at.lease_is ∙ (a.held.lock ∙ ap lock.Client (sym a.home.at.client_is)),
        )

    on : (stage : Stage) → KnowsOpeningAt stage st now r part → HasLeaseOf (leases_of_recovery r) part
    on ReleasingOld a = away a.1.1
    on Taking a = away a.2.1
    on Getting a = away a.1.1
    on Receiving a = read a.0.read
    on Deleting a = read a.0.read
    on Sending a = read a.read
    on Putting a = read a.read
    on Clearing a = put a.0
    on Sweeping a = put a
    on Releasing a = away a.1
    on Finished a = absurd a
