-- Where the answer to a call of an opening leads, by what was known before it and by what it brought.
use Rattle.std.proofs.Common.{◌≡◌, ◌+◌, ◌≤◌, ◌==◌, ◌&&◌, ℕ, Bool, true, false, List, [], ◌∷◌, ◌++◌, length, Option, Some, None, Result, Ok, Err, refl, sym, ap, subst, ◌∙◌, arith}
use Rattle.std.specs.Prelude.{unwrap_or, slice_get}
use Rattle.std.specs.List.{AllByRecursion}
use Rattle.cloud_facts.proofs.Calls.Heads.{head_at}
use Rattle.cloud_facts.specs.Calls.Others.{WasSentOn}
use Rattle.cloud_facts.specs.Words.{IsClient, Trouble, AtomicRec, Head, Answer, Claim, Goes, done_of, got_of, given_of, received_of, sent_of, Store, at, StandsAt}
use Rattle.cloud_trait.specs.Delivery.{WasSent}
use Rattle.cloud_trait.specs.declared.message.Message.{Message}
use Rattle.db_base.specs.declared.names.Lock.TheVariants as lock
use Rattle.head_codec.specs.Head.{empty_head}
use Rattle.head_codec.specs.declared.head.Phase.{Phase}
use Rattle.head_codec.specs.declared.head.Phase.TheVariants.{Settled, Open}
use Rattle.cloud_facts.specs.Homes.Homes.{Part, Parts, Away, Opens, IsAlone, HomesHold}
use Rattle.cloud_facts.proofs.Homes.HomeLemmas.{away_keeps, reads_keeps, part_again}
use Rattle.cloud_facts.specs.Lefts.Left.{HasWay, IsCopied, AreLogged, Leaves}
use Rattle.cloud_facts.proofs.Lefts.Ways.{of_ways}
use Rattle.cloud_facts.proofs.Numbers.Lists.{filter_there}
use Rattle.cloud_facts.proofs.Numbers.Ways.{is_way, way_epoch, way_txn}
use Rattle.session_facts.specs.Machines.Openings.Knows.{HasFormer, HasLease, IsCommitted, IsWanted, IsMessageThat, HasSifted, opening_with, MayStopOpening, EndsWell, HasReadNothing, KnowsGathering, KnowsSifted, KnowsLost, KnowsSending, KnowsPut, KnowsOpeningAt, KnowsEnd, KnowsNext}
use Rattle.session_facts.proofs.Machines.Openings.Gathered.{KnowsLosing, rest_all, received_known, whole_known, sent_known, all_known}
use Rattle.session_facts.proofs.Machines.Openings.Messages.{items_sent, that_ids}
use Rattle.session_facts.proofs.Machines.Openings.Refusals.{ReadsHead, AllRead, opening_refusals}
use Rattle.session_facts.proofs.Machines.Refusals.{got_may, sent_may, received_may, done_may}
use Rattle.session_facts.proofs.Machines.Openings.Sends.{there_at}
use Rattle.recover_run.specs.declared.items.AtomicItem.{AtomicItem}
use Rattle.recover_run.specs.declared.stage.RecoverAnswer.{RecoverAnswer}
use Rattle.recover_run.specs.declared.stage.RecoverAnswer.TheVariants.{Opened, Nothing}
use Rattle.recover_run.specs.declared.stage.Stage.{Stage}
use Rattle.recover_run.specs.declared.stage.Stage.TheVariants.{ReleasingOld, Taking, Getting, Receiving, Deleting, Sending, Putting, Clearing, Sweeping, Releasing, Finished}
use Rattle.recover_run.specs.Gathering.{Gathered, nothing_gathered, count_of, is_past, past_ids, wanted_of}
use Rattle.recover_run.specs.Ids.{has_id, rest_of}
use Rattle.recover_run.specs.Items.{items_of, ids_of}
use Rattle.recover_run.specs.Recovery.{Recovery, Step, behind, releasing, home_with, with_pending}
use Rattle.recover_run.proofs.KeptRecords.{all_new}
use Rattle.recover_run.proofs.Knows.{IsRising}
use Rattle.recover_run.proofs.Outcomes.{at as at_stage, swept, Reads, Loses, Readies, Clears, Fails, Comes}
use Rattle.recover_run.proofs.Outcomes as step
use Rattle.recover_run.proofs.Turns.{loses_works, readies_works, clears_works, fails_works}
use Rattle.cloud_facts.specs.Book.Records.{is_under_way, under_way}

-- a step leads to a part that is known, and that stands beside those of the other sessions
pub record LeadsToPart (session : ℕ) (parts : Parts) (u : Store) (now : ℕ) (step : Step) : Type 0 where
  pub part : Part
  pub homes : HomesHold u.tally now (at session part parts)
  pub knows : KnowsNext step u now part

-- ---- the record that an open head has

-- the first record under way of an open head is committed
pub committed_head : (st : Store) (client : ℕ) (h : Head) → Leaves st → IsClient client → st.tally.head client ≡ h → 1 ≤ count_of h.phase → IsCommitted st.book.log client (wanted_of h)
committed_head st client h leaves is newest some = on h.phase refl
  where
    of_way : (count : ℕ) → h.phase ≡ Open count → (r : AtomicRec) → StandsAt (under_way st.tally client st.book.log) 0 r → IsCommitted st.book.log client (wanted_of h)
    of_way count e r there =
        let p = filter_there (λ (x : AtomicRec). (x.client == client) && is_under_way st.tally x) st.book.log 0 r there in
        let own = of_ways st.tally client st.book.log 0 r there in
        let way : is_way h r ≡ true = subst (λ (k : Head). is_way k r ≡ true) (ap st.tally.head own.0 ∙ newest) own.1 in
        record { of = r; logged = (p.place, p.there); client_is = own.0; epoch_is = way_epoch h r way; txn_is = way_txn h r way }

    on : (p : Phase) → h.phase ≡ p → IsCommitted st.book.log client (wanted_of h)
    on Settled e = let none : count_of h.phase ≡ 0 = ap count_of e in absurd (omega (arith, some, none))
    on (Open count) e =
        let ways : HasWay st client count = leaves.ways client count is (ap (λ (k : Head). k.phase) newest ∙ e) in
        let count_is : count_of h.phase ≡ count = ap count_of e in
        let whole = ways.length_is in
        let first = there_at (under_way st.tally client st.book.log) 0 (omega (arith, some, count_is, whole)) in
        of_way count e first.0 first.1

-- ---- what is known behind a call

-- the head was read, which is the session's part from now on, and nothing is gathered yet
record KnowsRead (session : ℕ) (parts : Parts) (u : Store) (now : ℕ) (r : Recovery) : Type 0 where
  part : Part
  homes : HomesHold u.tally now (at session part parts)
  gathers : KnowsGathering u r part
  sifted : KnowsSifted u r []
  none : r.gathered.kept ≡ []

module _ (session : ℕ) (parts : Parts) (u : Store) (now : ℕ) (part : Part) where
  -- the messages of this receive were sent, and are records
  abbrev HasReceived : ℕ → Answer → Type 0
  HasReceived client a = (ms : List Message) → received_of a ≡ Ok ms → AllByRecursion (WasSent (u.tally.logged client)) ms × AllRead ms

  -- these messages are of records of past epochs
  abbrev ArePast : Recovery → List ℕ → Type 0
  ArePast r ids = AllByRecursion (IsMessageThat u r.client (is_past r.wanted)) ids

  -- by its stage, in a cloud that the call may have changed: what was known before it, and what its answer shows
  abbrev pub KnowsBehind : Stage → Recovery → Answer → Type 0
  KnowsBehind ReleasingOld r a = HasFormer r.former r.lease × HasReadNothing r part
  KnowsBehind Taking r a = (r.former ≡ None) × HasReadNothing r part × ((l : Claim) → given_of (lock.Client r.client) a ≡ Ok l → l.lock ≡ lock.Client r.client)
  KnowsBehind Getting r a =
      HasLease r.client r.former r.lease × HasReadNothing r part × Leaves u × HomesHold u.tally now parts
      × ((v : Option (List ℕ)) → got_of a ≡ Ok v → (u.tally.head r.client ≡ head_at v) × IsAlone now parts session r.client × ReadsHead v)
  KnowsBehind Receiving r a = KnowsGathering u r part × KnowsSifted u r [] × AreLogged u r.client × HasReceived r.client a
  KnowsBehind Deleting r a = KnowsGathering u r part × KnowsLost u r × (done_of a ≡ Ok tt → KnowsSifted u r (rest_of r.ids))
  KnowsBehind Sending r a =
      KnowsSending u r part r.sent
      × ((x : AtomicItem) × (slice_get r.gathered.kept r.sent ≡ Some x) × ((id : ℕ) → sent_of a ≡ Ok id → WasSentOn u.tally x.rec × IsCopied u.tally x.rec))
  KnowsBehind Putting r a = HasLease r.client r.former r.lease × (done_of a ≡ Ok tt → KnowsPut u now r part × ArePast r (ids_of r.gathered.kept))
  KnowsBehind Clearing r a = KnowsPut u now r part × ArePast r r.ids
  KnowsBehind Sweeping r a = KnowsPut u now r part × HasReceived r.client a
  KnowsBehind Releasing r a = part ≡ Away
  KnowsBehind Finished r a = ⊥

  -- ---- behind the local work

  head_known : (r : Recovery) (h : Head) → IsClient r.client → HasLease r.client r.former r.lease → r.gathered ≡ nothing_gathered → Leaves u → HomesHold u.tally now parts
      → u.tally.head r.client ≡ h → IsAlone now parts session r.client → KnowsRead session parts u now (behind r h)
  head_known r h is held nothing leaves homes newest alone = record {
    part = Opens (opening_with r.client h held.now);
    homes = reads_keeps u.tally now parts session (opening_with r.client h held.now) is newest alone homes;
    gathers = record {
      read = record {
        held = held;
        before = h;
        part_is = refl;
        wanted_is = refl;
        committed = committed_head u r.client h leaves is newest;
        kept_are = subst (AllByRecursion (IsWanted u r.client (wanted_of h))) (sym none) tt;
        rising = subst (IsRising 1) (sym none) tt;
      };
      head_is = refl;
    };
    sifted =
        subst (HasSifted u r.client (wanted_of h) []) (sym nothing)
        (record { seen = λ id has. absurd (none_has id has); deleted = λ id has. absurd (none_has id has) });
    none = none;
  }
    where
      none : r.gathered.kept ≡ []
      none = ap (λ (g : Gathered). g.kept) nothing

      none_has : (id : ℕ) → has_id [] id ≡ true → ⊥
      none_has id has = cc

  reads_known : {r : Recovery} {a : Answer} {h : Head} → IsClient r.client → KnowsBehind r.stage r a → Reads r a h → KnowsRead session parts u now (behind r h)
  reads_known is k (step.spelled r bytes h e other) =
      let seen = k.4 (Some bytes) refl in
      head_known (at_stage r Getting) h is k.0 k.1.0 k.2 k.3 (seen.0 ∙ ap (λ (o : Option Head). unwrap_or o empty_head) e) seen.1
  reads_known is k (step.absent r opening) = let seen = k.4 None refl in head_known (at_stage r Getting) empty_head is k.0 k.1.0 k.2 k.3 seen.0 seen.1

  loses_known : {r q : Recovery} {a : Answer} {ids : List ℕ} → KnowsBehind r.stage r a → Loses r a q ids → KnowsLosing u part q ids
  loses_known k (step.received r ms items e) = received_known u part (at_stage r Receiving) k.2 k.0 k.1 ms items (k.3 ms refl).0 e
  loses_known k (step.one_gone r) =
      let new = k.1.1 in record { gathers = k.0; sifted = k.2 refl; lost = rest_all _ r.ids k.1.0; stale = λ stale. absurd (cc (new, stale)) }

  readies_known : {r q : Recovery} {a : Answer} {place : ℕ} → KnowsBehind r.stage r a → Readies r a q place → KnowsSending u q part place
  readies_known k (step.whole q loses e) = whole_known u part q (loses_known k loses).gathers e
  readies_known k (step.one_sent r id) =
      let (x, there, done) = k.1 in
      subst (λ (o : Option AtomicItem). KnowsSending u (with_pending (at_stage r Sending) o) part (r.sent + 1)) (sym there)
      (sent_known u part (at_stage r Sending) x there k.0 (done id refl))

  clears_known : {r q : Recovery} {a : Answer} {ids : List ℕ} → KnowsBehind r.stage r a → Clears r a q ids → KnowsPut u now q part × ArePast q ids
  clears_known k (step.head_put r) =
      let put = k.1 refl in (put.0, all_new (IsMessageThat u r.client (is_past r.wanted)) [] (ids_of r.gathered.kept) put.1)
  clears_known k (step.one_tried r a) = (k.0, rest_all _ r.ids k.1)

  swept_known : (r : Recovery) (ms : List Message) (items : List AtomicItem) (ids : List ℕ) → AllByRecursion (WasSent (u.tally.logged r.client)) ms → items_of ms ≡ Ok items
      → swept r items ≡ ids → ArePast r ids
  swept_known r ms items ids was e are =
      subst (ArePast r) are
      (all_new (IsMessageThat u r.client (is_past r.wanted)) r.swept (past_ids r.wanted items)
      (that_ids u r.client (is_past r.wanted) items (items_sent (u.tally.logged r.client) ms items was e)))

  -- no head and no message is damaged
  fails_known : {r q : Recovery} {a : Answer} {t : Trouble} → KnowsBehind r.stage r a → Fails r a q t → HasLease q.client q.former q.lease × MayStopOpening t
  fails_known k (step.no_head r a t e) = (k.0, got_may opening_refusals a t e)
  fails_known k (step.no_messages r a t e) = (k.0.read.held, received_may opening_refusals a t e)
  fails_known k (step.not_deleted r a t e) = (k.0.read.held, done_may opening_refusals a t e)
  fails_known k (step.not_sent r a t e) = (k.0.read.held, sent_may opening_refusals a t e)
  fails_known k (step.not_put r a t e) = (k.0, done_may opening_refusals a t e)
  fails_known k (step.not_swept r a t e) = (k.0.held, received_may opening_refusals a t e)
  fails_known k (step.bad_head r bytes none) = let reads = (k.4 (Some bytes) refl).2.1 in absurd (cc (none, reads))
  fails_known k (step.last_epoch r bytes h e last) = (k.0, tt)
  fails_known k (step.bad_message r ms m e) = absurd ((k.3 ms refl).1 m e)
  fails_known k (step.bad_swept r ms m e) = absurd ((k.1 ms refl).1 m e)
  fails_known k (step.waits q loses other stale) = ((loses_known k loses).gathers.read.held, tt)

  -- ---- where it leads

  module _ (homes : HomesHold u.tally now (at session part parts)) where
    goes : {n : Recovery} → IsClient n.client → KnowsOpeningAt n.stage u now n part → LeadsToPart session parts u now (Goes n)
    goes is k = record { part = part; homes = homes; knows = record { client = is; at = k } }

    -- without its part it gives the lease back
    halts : (q : Recovery) (ending : Result RecoverAnswer Trouble) → IsClient q.client → HasLease q.client q.former q.lease → EndsWell ending
        → LeadsToPart session parts u now (releasing q ending)
    halts q ending is held may = record {
      part = Away;
      homes = subst (λ (ps : Parts). HomesHold u.tally now ps) (part_again session part Away parts) (away_keeps u.tally now (at session part parts) session homes);
      knows = record { client = is; at = (held, refl, may) };
    }

    own : {client same : ℕ} → IsClient client → same ≡ client → IsClient same
    own is e = subst IsClient (sym e) is

    pub leads : {r : Recovery} {a : Answer} {next : Step} → IsClient r.client → KnowsBehind r.stage r a → Comes r a next → LeadsToPart session parts u now next
    leads is k (step.gives_old r a) = goes is (refl, k.0.none, k.1)
    leads is k (step.takes r l) = goes is (record { now = l; is = refl; lock = k.2 l refl; none = k.0 }, k.1)
    leads is k (step.refused r a t e) = record { part = part; homes = homes; knows = k.1.1 }
    leads is k (step.stops q t f) = let known = fails_known k f in halts q (Err t) (own is (fails_works f).client) known.0 known.1
    leads is k (step.finds_none r e) = halts (at_stage r Getting) (Ok Nothing) is k.0 tt
    leads {r = r} is k (step.reads_settled h reads e) =
        let b = reads_known is k reads in
        let whole = whole_known u b.part (behind r h) b.gathers (ap (λ (kept : List AtomicItem). length kept) b.none ∙ sym (ap count_of e)) in
        record {
          part = b.part;
          homes = b.homes;
          knows = record { client = is; at = all_known u b.part (behind r h) 0 (ap (λ (kept : List AtomicItem). slice_get kept 0) b.none) whole };
        }
    leads is k (step.reads_open h count reads e) =
        let b = reads_known is k reads in record { part = b.part; homes = b.homes; knows = record { client = is; at = (b.gathers, b.sifted) } }
    leads is k (step.deletes q id ids loses) = goes (own is (loses_works loses).client) (b.gathers, b.sifted, (b.lost, new q.gathered.fresh b.stale))
      where
        b : KnowsLosing u part q (id ∷ ids)
        b = loses_known k loses

        new : (fresh : Bool) → (fresh ≡ false → id ∷ ids ≡ []) → fresh ≡ true
        new true stale = refl
        new false stale = let none : id ∷ ids ≡ [] = stale refl in absurd (cc (none))
    leads is k (step.receives q loses other new) = let b = loses_known k loses in goes (own is (loses_works loses).client) (b.gathers, b.sifted)
    leads is k (step.sends q place x ready e) = goes (own is (readies_works ready).client) (readies_known k ready)
    leads is k (step.puts q place ready e) = goes (own is (readies_works ready).client) (all_known u part q place e (readies_known k ready))
    leads is k (step.clears q id ids c) = goes (own is (clears_works c).client) (clears_known k c)
    leads is k (step.sweeps q c) = goes (own is (clears_works c).client) (clears_known k c).0
    leads is k (step.clears_past r ms items id ids e are) = goes is (k.0, swept_known r ms items (id ∷ ids) (k.1 ms refl).0 e are)
    leads is k (step.opens r ms items e none opening) = record {
      part = part;
      homes = homes;
      knows = subst (λ (o : Option Claim). KnowsEnd (home_with (record (at_stage r Finished) { swept = r.swept ++ []; ids = [] }) o) u now part) (sym k.0.held.is) k.0.home;
    }
    leads is k (step.closes r ms items e none settles) = halts (record (at_stage r Sweeping) { swept = r.swept ++ []; ids = [] }) (Ok (Opened r.head.epoch)) is k.0.held tt
    leads is k (step.ends r a answer e) = record { part = part; homes = homes; knows = k }
    leads is k (step.stopped r a t e) = record { part = part; homes = homes; knows = k }
    leads is k (step.astray r a e) = record { part = part; homes = homes; knows = k }
    leads is k (step.nothing r a) = absurd k
