-- What each step of a recovery makes of what is known.
use Rattle.std.proofs.Common.{◌≡◌, ◌<◌, ◌≤◌, ◌+◌, ℕ, suc, List, [], ◌∷◌, ◌++◌, length, take, Option, Some, None, Result, Ok, inl, inr, refl, ap, sym, subst, ◌∙◌, arith}
use Rattle.std.specs.Prelude.{slice_get}
use Rattle.std.specs.List.{AllByRecursion}
use Rattle.std.proofs.lemmas.List.{take_all}
use Rattle.std.proofs.lemmas.Option.{slice_get_within}
use Rattle.route_plan.proofs.Places.{past_none}
use Rattle.db_base.specs.declared.names.Lock.TheVariants as lock
use Rattle.db_base.specs.declared.names.ObjName.TheVariants as object
use Rattle.db_base.specs.declared.names.QueueName.TheVariants as queue
use Rattle.db_base.specs.declared.trouble.Trouble.{Trouble}
use Rattle.head_codec.specs.declared.head.Head.{Head}
use Rattle.head_codec.specs.declared.head.Phase.TheVariants.{Settled}
use Rattle.head_codec.specs.Head.{empty_head}
use Rattle.head_codec.specs.Spelling.{head_bytes}
use Rattle.log_codec.specs.Pu.{pu_bytes}
use Rattle.route_plan.specs.Queue.{queue_name}
use Rattle.route_plan.specs.Record.{pu_record_of}
use Rattle.cloud_trait.specs.declared.answer.Answer.{Answer}
use Rattle.cloud_trait.specs.declared.answer.Answer.TheVariants.{Got, Sent, Received, Done, Given}
use Rattle.cloud_trait.specs.declared.message.Message.{Message}
use Rattle.cloud_trait.specs.declared.turn.Turn.{Turn}
use Rattle.cloud_trait.specs.declared.turn.Turn.TheVariants.{More, Ended, Stopped}
use Rattle.cloud_trait.specs.Ask.{Ask, GetHeld, PutHeld, Send, Delete, Take, Release}
use Rattle.cloud_trait.specs.Claim.{Claim}
use Rattle.cloud_trait.specs.Machine.{Goes, Ends, LeadsBy, Took, Came, Deed, calls_of}
use Rattle.recover_run.specs.declared.items.AtomicItem.{AtomicItem}
use Rattle.recover_run.specs.declared.stage.Aim.{Aim}
use Rattle.recover_run.specs.declared.stage.Aim.TheVariants.{Opening, Settling}
use Rattle.recover_run.specs.declared.stage.Stage.TheVariants.{ReleasingOld, Taking, Getting, Receiving, Deleting, Sending, Putting, Clearing, Sweeping, Releasing, Finished}
use Rattle.recover_run.specs.declared.stage.RecoverAnswer.{RecoverAnswer}
use Rattle.recover_run.specs.declared.stage.RecoverAnswer.TheVariants.{Opened, Nothing}
use Rattle.recover_run.specs.declared.wanted.Wanted.{Wanted}
use Rattle.recover_run.specs.Calls.{Calls, Brought, IsStart, Reading, head_in, AreGathers, AreSends, AreSweeps, Gathers, Sweeps, HoldsItem, send_of}
use Rattle.recover_run.specs.Gathering.{is_lost, is_past, count_of, kept_with, lost_now, lost_ids, past_ids}
use Rattle.recover_run.specs.Ids.{rest_of}
use Rattle.recover_run.specs.Items.{items_of, ids_of}
use Rattle.recover_run.specs.Meaning.{home_opened, IsKeptRecord, IsOpened, IsClosing, Means, MeansTurn, head_behind, put_of}
use Rattle.recover_run.specs.Recovery.{Recovery, Step, new_recovery, recovery_ask, recovery_next, ask_at, under, receive_next, delete_next, send_next, behind, with_pending, home_of, home_with, KeepsLeases}
use Rattle.recover_run.proofs.Outcomes as step
use Rattle.recover_run.proofs.Outcomes.{at, gathered, swept, Reads, Loses, Readies, Clears, Comes, comes}
use Rattle.recover_run.proofs.Turns.{loses_works, readies_works, clears_works, fails_works}
use Rattle.recover_run.specs.Sending.{pending_with}
use Rattle.recover_run.proofs.KeptRecords.{all_so, all_new, all_held, kept_more, named_more, named_ids, kept_all, kept_rising, kept_named, kept_numbered, take_more, pending_more, pending_none}
use Rattle.recover_run.proofs.Knows.{IsRising, IsNamed, Known, Gathering, SentSome, SentAll, Put, getting, KnowsTaken, KnowsSending, KnowsNone, KnowsEnding, KnowsDeleting, KnowsClearing, KnowsAt, KnowsNext}

-- ---- the head

abbrev reading_of : (client : ℕ) (old : Option Claim) (l : Claim) (start : Calls) (v : Option (List ℕ)) (h : Head) → IsStart old start → head_in v ≡ Some h
    → Reading client old ((GetHeld (object.Head client) l, Got v) ∷ (Take (lock.Client client) 600, Given l) ∷ start)
reading_of client old l start v h started reads = record { start = start; started = started; lease = l; bytes = v; head = h; reads = reads; calls = refl }

-- this head was read, and no record is kept
read_known : (r : Recovery) (old : Option Claim) (cs : Calls) (v : Option (List ℕ)) (h : Head) → KnowsTaken old cs r → head_in v ≡ Some h
    → Gathering old ((ask_at Getting r, Got v) ∷ cs) (behind r h) × (r.gathered.kept ≡ [])
read_known r old cs v h k reads =
    let m : Recovery = getting r.client r.aim k.lease in
    let front : Calls = (GetHeld (object.Head r.client) k.lease, Got v) ∷ (Take (lock.Client r.client) 600, Given k.lease) ∷ k.start in
    let at : Gathering old front (behind m h) = record {
      known = record {
        front = front;
        reading = reading_of r.client old k.lease k.start v h k.started reads;
        lease_is = refl;
        wanted_is = refl;
        gathers = [];
        gathered = tt;
        brought = tt;
        rising = tt;
      };
      head_is = refl;
      calls = refl;
    } in
    subst (λ n. Gathering old ((ask_at Getting n, Got v) ∷ cs) (behind n h) × (n.gathered.kept ≡ [])) (sym k.is)
    (subst (λ l. Gathering old ((GetHeld (object.Head r.client) k.lease, Got v) ∷ l) (behind m h)) (sym k.calls) at, refl)

reads_known : {r : Recovery} {a : Answer} (old : Option Claim) (cs : Calls) (h : Head) → KnowsAt r.stage old cs r → Reads r a h
    → Gathering old ((recovery_ask r, a) ∷ cs) (behind r h) × (r.gathered.kept ≡ [])
reads_known old cs h k (step.spelled r bytes read e other) = read_known (at r Getting) old cs (Some bytes) h k e
reads_known old cs h k (step.absent r opening) = read_known (at r Getting) old cs None h k refl

-- a settled head has no records to send on
settled_known : (old : Option Claim) (cs : Calls) (r : Recovery) (h : Head) → Gathering old cs (behind r h) × (r.gathered.kept ≡ []) → h.phase ≡ Settled → SentAll old cs (behind r h)
settled_known old cs r h (g, empty) is = record {
  known = g.known;
  whole = ap (λ (l : List AtomicItem). length l) empty ∙ sym (ap count_of is);
  sends = [];
  sent_are = subst (λ (l : List AtomicItem). AreSends l (length l) []) (sym empty) refl;
  head_is = g.head_is ∙ (pending_none g.known.reading.head ∙ ap (λ l. head_behind g.known.reading.head l) (sym empty));
  calls = g.calls;
}

-- a settling found none
abbrev without_head : Recovery → Recovery
without_head r = record r { stage = Releasing; ending = Some (Ok Nothing) }

none_known : (r : Recovery) (old : Option Claim) (cs : Calls) → KnowsTaken old cs r → r.aim ≡ Settling → KnowsNone old ((ask_at Getting r, Got None) ∷ cs) (without_head r)
none_known r old cs k settles =
    let m : Recovery = getting r.client r.aim k.lease in
    let front : Calls = (GetHeld (object.Head r.client) k.lease, Got None) ∷ (Take (lock.Client r.client) 600, Given k.lease) ∷ k.start in
    let at : KnowsNone old front (without_head m) = record {
      front = front;
      reading = reading_of r.client old k.lease k.start None empty_head k.started refl;
      lease_is = refl;
      settles = settles;
      none = refl;
      calls = refl;
    } in
    subst (λ n. KnowsNone old ((ask_at Getting n, Got None) ∷ cs) (without_head n)) (sym k.is)
    (subst (λ l. KnowsNone old ((GetHeld (object.Head r.client) k.lease, Got None) ∷ l) (without_head m)) (sym k.calls) at)

-- ---- the take

taken_known : (r : Recovery) (old : Option Claim) (cs : Calls) (l : Claim) → IsStart old cs → r ≡ new_recovery r.client r.aim None
    → KnowsTaken old ((ask_at Taking r, Given l) ∷ cs) (record r { stage = Getting; lease = Some l })
taken_known r old cs l started is =
    record { lease = l; start = cs; started = started; is = ap (λ (m : Recovery). record m { stage = Getting; lease = Some l }) is; calls = refl }

old_known : (r : Recovery) (old : Option Claim) (cs : Calls) (a : Answer) → KnowsAt ReleasingOld old cs r → KnowsAt Taking old ((ask_at ReleasingOld r, a) ∷ cs) (record r { stage = Taking; former = None })
old_known r old cs a (l, was, none, is) = (
  subst (λ (o : Option Claim). IsStart o ((ask_at ReleasingOld r, a) ∷ cs)) (sym was)
      (a, ap (λ (m : Recovery). (ask_at ReleasingOld m, a) ∷ cs) is ∙ ap (λ (n : Calls). (Release l, a) ∷ n) none),
  ap (λ (m : Recovery). record m { stage = Taking; former = None }) is,
)

-- ---- gathering

-- nothing was sent yet
none_sent : (old : Option Claim) (cs : Calls) (r : Recovery) → Gathering old cs r → length r.gathered.kept ≡ r.wanted.count → SentSome old cs (record r { sent = 0 })
none_sent old cs r k whole = record {
  known = k.known;
  whole = whole;
  sends = [];
  sent_are = refl;
  within = omega arith;
  head_is = k.head_is ∙ pending_none k.known.reading.head;
  calls = k.calls;
}

-- with a call of gathering more
abbrev gathers_more : (old : Option Claim) (client : ℕ) (lease : Option Claim) (w : Wanted) (kept more : List AtomicItem) (c : Ask × Answer) (k : Known old client lease w kept)
    → Gathers client w k.gathers c → AllByRecursion (IsKeptRecord w (c ∷ k.gathers)) more → IsRising 1 more
    → Known old client lease w more
gathers_more old client lease w kept more c k is brought rising = record {
  front = k.front;
  reading = k.reading;
  lease_is = k.lease_is;
  wanted_is = k.wanted_is;
  gathers = c ∷ k.gathers;
  gathered = (is, k.gathered);
  brought = brought;
  rising = rising;
}

received_known : (r : Recovery) (old : Option Claim) (cs : Calls) (ms : List Message) (items : List AtomicItem) → items_of ms ≡ Ok items → Gathering old cs r
    → (g : Gathering old ((receive_next r, Received ms) ∷ cs) (gathered r items)) × AllByRecursion (IsNamed (is_lost r.wanted) g.known.gathers) (lost_now r.wanted r.gathered items)
received_known r old cs ms items e k =
    let c : Ask × Answer = (receive_next r, Received ms) in
    let now : Calls = c ∷ k.known.gathers in
    let brought : AllByRecursion (λ (x : AtomicItem). Brought x now) items =
    all_so (λ (x : AtomicItem). HoldsItem x ms) (λ (x : AtomicItem). Brought x now) (λ x h. inl (ms, refl, h)) items (all_held ms items e) in
    let known : Known old r.client r.lease r.wanted (kept_with r.wanted r.gathered.kept items) =
    gathers_more old r.client r.lease r.wanted r.gathered.kept (kept_with r.wanted r.gathered.kept items) c k.known (inl (ms, refl))
    (kept_all r.wanted now r.gathered.kept items (kept_more r.wanted c k.known.gathers r.gathered.kept k.known.brought) brought)
    (kept_rising r.wanted now r.gathered.kept items k.known.rising brought) in (
      record { known = known; head_is = k.head_is; calls = ap (λ l. c ∷ l) k.calls },
      all_new (IsNamed (is_lost r.wanted) now) r.gathered.lost (lost_ids r.wanted items) (named_ids (is_lost r.wanted) now items brought),
    )

gone_known : (r : Recovery) (old : Option Claim) (cs : Calls) (ids : List ℕ) → KnowsDeleting old cs r ids
    → (g : Gathering old ((delete_next r ids, Done) ∷ cs) r) × AllByRecursion (IsNamed (is_lost r.wanted) g.known.gathers) (rest_of ids)
gone_known r old cs [] k = absurd (omega (arith, k.some))
gone_known r old cs (id ∷ ids) k =
    let c : Ask × Answer = (delete_next r (id ∷ ids), Done) in
    let (x, is, lost, brought) = k.named.0 in
    let known : Known old r.client r.lease r.wanted r.gathered.kept =
    gathers_more old r.client r.lease r.wanted r.gathered.kept r.gathered.kept c k.so_far.known
    (inr (x, ap (λ i. (Delete (queue.Atomic r.client) i, Done)) (sym is), lost, brought))
    (kept_more r.wanted c k.so_far.known.gathers r.gathered.kept k.so_far.known.brought) k.so_far.known.rising in (
      record { known = known; head_is = k.so_far.head_is; calls = ap (λ l. c ∷ l) k.so_far.calls },
      named_more (is_lost r.wanted) c k.so_far.known.gathers ids k.named.1,
    )

loses_known : {r : Recovery} {a : Answer} (old : Option Claim) (cs : Calls) (q : Recovery) (ids : List ℕ) → KnowsAt r.stage old cs r → Loses r a q ids
    → (g : Gathering old ((recovery_ask r, a) ∷ cs) q) × AllByRecursion (IsNamed (is_lost q.wanted) g.known.gathers) ids
loses_known old cs q ids k (step.received r ms items e) = received_known (at r Receiving) old cs ms items e k
loses_known old cs q ids k (step.one_gone r) = gone_known (at r Deleting) old cs r.ids k

-- ---- sends

sends_more : (kept : List AtomicItem) (n : ℕ) (x : AtomicItem) (id : ℕ) (sends : Calls) → slice_get kept n ≡ Some x → AreSends kept n sends → AreSends kept (n + 1) ((send_of x, Sent id) ∷ sends)
sends_more kept n x id sends here are =
    let one : suc n ≡ n + 1 = omega arith in
    subst (λ m. AreSends kept m ((send_of x, Sent id) ∷ sends)) one (x, id, sends, here, refl, are)

-- a send in hand is that of the next record
sent_known : (r : Recovery) (old : Option Claim) (cs : Calls) (id : ℕ) (o : Option AtomicItem) → slice_get r.gathered.kept r.sent ≡ o → KnowsSending old cs r o
    → SentSome old ((send_next r o, Sent id) ∷ cs) (record (with_pending r o) { sent = r.sent + 1 })
sent_known r old cs id None e k = let here : None ≡ Some k.item = k.here in absurd (cc)
sent_known r old cs id (Some x) e k =
    let same : x ≡ k.item = (let here : Some x ≡ Some k.item = k.here in cc) in
    let out : r.out ≡ pu_bytes (pu_record_of x.rec) = k.out ∙ ap (λ (y : AtomicItem). pu_bytes (pu_record_of y.rec)) (sym same) in
    let within : r.sent < length r.gathered.kept = slice_get_within r.gathered.kept r.sent x e in
    let more : take (r.sent + 1) r.gathered.kept ≡ take r.sent r.gathered.kept ++ x ∷ [] = take_more r.gathered.kept r.sent x e in
    let ask : send_next r (Some x) ≡ send_of x = ap (λ b. Send (queue_name x.rec.tree x.rec.page) b) out in
    record {
      known = k.so_far.known;
      whole = k.so_far.whole;
      sends = (send_of x, Sent id) ∷ k.so_far.sends;
      sent_are = sends_more r.gathered.kept r.sent x id k.so_far.sends e k.so_far.sent_are;
      within = omega (arith, within);
      head_is =
          ap (λ h. pending_with h x.rec) k.so_far.head_is
          ∙ (pending_more k.so_far.known.reading.head (take r.sent r.gathered.kept) x ∙ ap (λ l. head_behind k.so_far.known.reading.head l) (sym more));
      calls = ap (λ q. (q, Sent id) ∷ cs) ask ∙ ap (λ l. (send_of x, Sent id) ∷ l) k.so_far.calls;
    }

readies_known : {r : Recovery} {a : Answer} (old : Option Claim) (cs : Calls) (q : Recovery) (place : ℕ) → KnowsAt r.stage old cs r → Readies r a q place
    → SentSome old ((recovery_ask r, a) ∷ cs) (record q { sent = place })
readies_known old cs q place k (step.whole p loses same) = none_sent old _ p (loses_known old cs p [] k loses).0 same
readies_known old cs q place k (step.one_sent r id) = sent_known (at r Sending) old cs id (slice_get r.gathered.kept r.sent) refl k

-- all were sent
puts_known : (old : Option Claim) (cs : Calls) (r : Recovery) → SentSome old cs r → slice_get r.gathered.kept r.sent ≡ None → SentAll old cs r
puts_known old cs r k e =
    let past : length r.gathered.kept ≤ r.sent = past_none r.gathered.kept r.sent e in
    let all : r.sent ≡ length r.gathered.kept = omega (arith, past, k.within) in
    record {
      known = k.known;
      whole = k.whole;
      sends = k.sends;
      sent_are = subst (λ n. AreSends r.gathered.kept n k.sends) all k.sent_are;
      head_is = k.head_is ∙ ap (λ l. head_behind k.known.reading.head l) (take_all r.sent r.gathered.kept past);
      calls = k.calls;
    }

-- ---- behind the put

put_asked : (r : Recovery) (l : Claim) → r.lease ≡ Some l → r.out ≡ head_bytes r.head → ask_at Putting r ≡ put_of r.client l r.head
put_asked r l lease out =
    ap (λ o. under r o (λ x. PutHeld (object.Head r.client) r.out x None)) lease ∙ ap (λ b. PutHeld (object.Head r.client) b l None) out

-- the head was put
abbrev first_put : (r : Recovery) (old : Option Claim) (cs : Calls) → SentAll old cs r → r.out ≡ head_bytes r.head → Put old ((ask_at Putting r, Done) ∷ cs) r
first_put r old cs k out = record {
  known = k.known;
  whole = k.whole;
  sends = k.sends;
  sent_are = k.sent_are;
  head_is = k.head_is;
  sweeps = [];
  swept = tt;
  calls = ap (λ q. (q, Done) ∷ cs) (put_asked r k.known.reading.lease k.known.lease_is out) ∙ ap (λ l. (put_of r.client k.known.reading.lease r.head, Done) ∷ l) k.calls;
}

-- with a call behind the put more
abbrev sweeps_more : (r : Recovery) (old : Option Claim) (cs : Calls) (c : Ask × Answer) (k : Put old cs r) → Sweeps r.client r.wanted (k.sweeps ++ k.known.gathers) c
    → Put old (c ∷ cs) r
sweeps_more r old cs c k is = record {
  known = k.known;
  whole = k.whole;
  sends = k.sends;
  sent_are = k.sent_are;
  head_is = k.head_is;
  sweeps = c ∷ k.sweeps;
  swept = (is, k.swept);
  calls = ap (λ l. c ∷ l) k.calls;
}

cleared_known : (r : Recovery) (old : Option Claim) (cs : Calls) (a : Answer) (ids : List ℕ) → KnowsClearing old cs r ids
    → (p : Put old ((delete_next r ids, a) ∷ cs) r) × AllByRecursion (IsNamed (is_past r.wanted) (p.sweeps ++ p.known.gathers)) (rest_of ids)
cleared_known r old cs a [] k = absurd (omega (arith, k.some))
cleared_known r old cs a (id ∷ ids) k =
    let c : Ask × Answer = (delete_next r (id ∷ ids), a) in
    let (x, is, past, brought) = k.named.0 in (
      sweeps_more r old cs c k.so_far (inr (x, a, ap (λ i. (Delete (queue.Atomic r.client) i, a)) (sym is), past, brought)),
      named_more (is_past r.wanted) c (k.so_far.sweeps ++ k.so_far.known.gathers) ids k.named.1,
    )

clears_known : {r : Recovery} {a : Answer} (old : Option Claim) (cs : Calls) (q : Recovery) (ids : List ℕ) → KnowsAt r.stage old cs r → Clears r a q ids
    → (p : Put old ((recovery_ask r, a) ∷ cs) q) × AllByRecursion (IsNamed (is_past q.wanted) (p.sweeps ++ p.known.gathers)) ids
clears_known old cs q ids k (step.head_put r) = (
  first_put (at r Putting) old cs k.0 k.1,
  all_new (IsNamed (is_past r.wanted) k.0.known.gathers) [] (ids_of r.gathered.kept) (kept_named r.wanted k.0.known.gathers r.gathered.kept k.0.known.brought),
)
clears_known old cs q ids k (step.one_tried r a) = cleared_known (at r Clearing) old cs a r.ids k

swept_known : (r : Recovery) (old : Option Claim) (cs : Calls) (ms : List Message) (items : List AtomicItem) (ids : List ℕ) → items_of ms ≡ Ok items → swept r items ≡ ids → Put old cs r
    → (p : Put old ((receive_next r, Received ms) ∷ cs) r) × AllByRecursion (IsNamed (is_past r.wanted) (p.sweeps ++ p.known.gathers)) ids
swept_known r old cs ms items ids e are k =
    let c : Ask × Answer = (receive_next r, Received ms) in
    let now : Calls = c ∷ (k.sweeps ++ k.known.gathers) in
    let brought : AllByRecursion (λ (x : AtomicItem). Brought x now) items =
    all_so (λ (x : AtomicItem). HoldsItem x ms) (λ (x : AtomicItem). Brought x now) (λ x h. inl (ms, refl, h)) items (all_held ms items e) in (
      sweeps_more r old cs c k (inl (ms, refl)),
      subst (AllByRecursion (IsNamed (is_past r.wanted) now)) are
          (all_new (IsNamed (is_past r.wanted) now) r.swept (past_ids r.wanted items) (named_ids (is_past r.wanted) now items brought)),
    )

opened_means : (r : Recovery) (old : Option Claim) (cs closing : Calls) (all : Calls) (k : Put old cs r) → IsClosing r.aim k.known.reading.lease closing → all ≡ closing ++ cs
    → (left : Recovery) → left.head ≡ r.head → home_of left ≡ home_opened r.aim r.client k.known.reading.lease r.head
    → IsOpened r.client r.aim old all left r.head.epoch
opened_means r old cs closing all k closes are left same home = record {
  front = k.known.front;
  reading = k.known.reading;
  gathers = k.known.gathers;
  gathered = subst (λ w. AreGathers r.client w k.known.gathers) k.known.wanted_is k.known.gathered;
  kept = r.gathered.kept;
  brought = subst (λ w. AllByRecursion (IsKeptRecord w k.known.gathers) r.gathered.kept) k.known.wanted_is k.known.brought;
  numbered = kept_numbered r.wanted k.known.gathers r.gathered.kept k.known.rising k.known.brought k.whole;
  whole = k.whole ∙ ap (λ (w : Wanted). w.count) k.known.wanted_is;
  sends = k.sends;
  sent = k.sent_are;
  sweeps = k.sweeps;
  swept = subst (λ w. AreSweeps r.client w k.known.gathers k.sweeps) k.known.wanted_is k.swept;
  closing = closing;
  closes = closes;
  are =
      are ∙ (ap (λ l. closing ++ l) k.calls
      ∙ ap (λ h. closing ++ (k.sweeps ++ (put_of r.client k.known.reading.lease h, Done) ∷ (k.sends ++ (k.known.gathers ++ k.known.front)))) k.head_is);
  head = same ∙ k.head_is;
  epoch_is = ap (λ (h : Head). h.epoch) k.head_is;
  home = home ∙ ap (λ (h : Head). home_opened r.aim r.client k.known.reading.lease h) k.head_is;
}

-- an opening ends so
opening_means : (r : Recovery) (old : Option Claim) (cs : Calls) → r.aim ≡ Opening → Put old cs r → IsOpened r.client r.aim old cs (record r { stage = Finished }) r.head.epoch
opening_means r old cs e k =
    opened_means r old cs [] cs k (subst (λ aim. IsClosing aim k.known.reading.lease []) (sym e) refl) refl (record r { stage = Finished }) refl
    (ap (home_with r) k.known.lease_is ∙ ap (λ (m : Aim). home_opened m r.client k.known.reading.lease r.head) (sym e))

-- ---- the release

released_asked : (r : Recovery) (l : Claim) → r.lease ≡ Some l → ask_at Releasing r ≡ Release l
released_asked r l lease = ap (λ o. under r o Release) lease

released_known : (r : Recovery) (old : Option Claim) (cs : Calls) (a : Answer) (answer : RecoverAnswer) → KnowsEnding (Some (Ok answer)) old cs r
    → Means r.client r.aim old ((ask_at Releasing r, a) ∷ cs) (record r { stage = Finished; lease = None; ending = None }) answer
released_known r old cs a (Opened epoch) (k, settles, is) =
    let l = k.known.reading.lease in
    let left : Recovery = record r { stage = Finished; lease = None; ending = None } in
    let all : Calls = (ask_at Releasing r, a) ∷ cs in
    subst (λ e. IsOpened r.client r.aim old all left e) (sym is)
    (opened_means r old cs ((Release l, a) ∷ []) all k (subst (λ aim. IsClosing aim l ((Release l, a) ∷ [])) (sym settles) (a, refl))
    (ap (λ q. (q, a) ∷ cs) (released_asked r l k.known.lease_is)) left refl (ap (λ (m : Aim). home_opened m r.client l r.head) (sym settles)))
released_known r old cs a Nothing k = record {
  front = k.front;
  reading = k.reading;
  settles = k.settles;
  none = k.none;
  answer = a;
  are = ap (λ q. (q, a) ∷ cs) (released_asked r k.reading.lease k.lease_is) ∙ ap (λ l. (Release k.reading.lease, a) ∷ l) k.calls;
}

-- ---- each step, and the whole run

comes_known : {r : Recovery} {a : Answer} {next : Step} (old : Option Claim) (cs : Calls) → KnowsAt r.stage old cs r → Comes r a next → KnowsNext r.client r.aim old ((recovery_ask r, a) ∷ cs) next
comes_known old cs k (step.gives_old r a) = (refl, refl, old_known (at r ReleasingOld) old cs a k)
comes_known old cs k (step.takes r l) = (refl, refl, taken_known (at r Taking) old cs l k.0 k.1)
comes_known old cs k (step.refused r a t e) = tt
comes_known old cs k (step.stops q t f) = let w = fails_works f in (w.client, w.aim, tt)
comes_known old cs k (step.finds_none r e) = (refl, refl, none_known (at r Getting) old cs k e)
comes_known {r = r} {a = a} old cs k (step.reads_settled h reads e) = (refl, refl, (settled_known old ((recovery_ask r, a) ∷ cs) r h (reads_known old cs h k reads) e, refl))
comes_known old cs k (step.reads_open h count reads e) = (refl, refl, (reads_known old cs h k reads).0)
comes_known old cs k (step.deletes q id ids loses) =
    let w = loses_works loses in
    let so = loses_known old cs q (id ∷ ids) k loses in
    (w.client, w.aim, record { so_far = so.0; some = omega arith; named = so.1 })
comes_known old cs k (step.receives q loses other new) = let w = loses_works loses in (w.client, w.aim, (loses_known old cs q [] k loses).0)
comes_known old cs k (step.sends q place x ready e) =
    let w = readies_works ready in
    (w.client, w.aim, record { so_far = readies_known old cs q place k ready; item = x; here = e; out = refl })
comes_known old cs k (step.puts q place ready e) =
    let w = readies_works ready in
    (w.client, w.aim, (puts_known old _ (record q { sent = place }) (readies_known old cs q place k ready) e, refl))
comes_known old cs k (step.clears q id ids c) =
    let w = clears_works c in
    let so = clears_known old cs q (id ∷ ids) k c in
    (w.client, w.aim, record { so_far = so.0; some = omega arith; named = so.1 })
comes_known old cs k (step.sweeps q c) = let w = clears_works c in (w.client, w.aim, (clears_known old cs q [] k c).0)
comes_known old cs k (step.clears_past r ms items id ids e are) =
    let so = swept_known (at r Sweeping) old cs ms items (id ∷ ids) e are k in
    (refl, refl, record { so_far = so.0; some = omega arith; named = so.1 })
comes_known old cs k (step.opens r ms items e none is) =
    opening_means (record (at r Sweeping) { swept = r.swept ++ []; ids = [] }) old _ is (swept_known (at r Sweeping) old cs ms items [] e none k).0
comes_known old cs k (step.closes r ms items e none is) = (refl, refl, ((swept_known (at r Sweeping) old cs ms items [] e none k).0, is, refl))
comes_known old cs k (step.ends r a answer e) =
    released_known (at r Releasing) old cs a answer (subst (λ (o : Option (Result RecoverAnswer Trouble)). KnowsEnding o old cs (at r Releasing)) e k)
comes_known old cs k (step.stopped r a t e) = tt
comes_known old cs k (step.astray r a e) = tt
comes_known old cs k (step.nothing r a) = tt

pub record Knows (client : ℕ) (aim : Aim) (old : Option Claim) (cs : Calls) (r : Recovery) : Type 0 where
  pub client_is : r.client ≡ client
  pub aim_is : r.aim ≡ aim
  pub at : KnowsAt r.stage old cs r

start_known : (client : ℕ) (aim : Aim) (old : Option Claim) → Knows client aim old [] (new_recovery client aim old)
start_known client aim None = record { client_is = refl; aim_is = refl; at = (refl, refl) }
start_known client aim (Some l) = record { client_is = refl; aim_is = refl; at = (l, refl, refl, refl) }

went_known : (client : ℕ) (aim : Aim) (old : Option Claim) (cs : Calls) (r m : Recovery) (a : Answer) → Knows client aim old cs r → recovery_next r a ≡ Goes m
    → Knows client aim old ((recovery_ask r, a) ∷ cs) m
went_known client aim old cs r m a k goes =
    let next : KnowsNext r.client r.aim old ((recovery_ask r, a) ∷ cs) (Goes m) = subst (KnowsNext r.client r.aim old ((recovery_ask r, a) ∷ cs)) goes (comes_known old cs k.at (comes r a)) in
    record { client_is = next.0 ∙ k.client_is; aim_is = next.1 ∙ k.aim_is; at = next.2 }

pub came_known : (client : ℕ) (aim : Aim) (old : Option Claim) (h : List Deed) (r : Recovery) → Came recovery_ask (LeadsBy recovery_next) (new_recovery client aim old) h r
    → Knows client aim old (calls_of h) r
came_known client aim old [] r is = subst (λ m. Knows client aim old [] m) (sym is) (start_known client aim old)
came_known client aim old (d ∷ h) r (from, came, asks, made, leads, follows) =
    subst (λ q. Knows client aim old ((q, d.answer) ∷ calls_of h) r) (sym asks)
    (went_known client aim old (calls_of h) from r d.answer (came_known client aim old h from came) leads)

-- an answer means what it says
ended_means : (client : ℕ) (aim : Aim) (old : Option Claim) (cs : Calls) (r new : Recovery) (a : Answer) (answer : RecoverAnswer) → Knows client aim old cs r
    → recovery_next r a ≡ Ends new answer → Means client aim old ((recovery_ask r, a) ∷ cs) new answer
ended_means client aim old cs r new a answer k ends =
    let next : Means r.client r.aim old ((recovery_ask r, a) ∷ cs) new answer = subst (KnowsNext r.client r.aim old ((recovery_ask r, a) ∷ cs)) ends (comes_known old cs k.at (comes r a)) in
    subst (λ c. Means c aim old ((recovery_ask r, a) ∷ cs) new answer) k.client_is
    (subst (λ m. Means r.client m old ((recovery_ask r, a) ∷ cs) new answer) k.aim_is next)

pub came_means : (old new : Recovery) (a : Answer) (turn : Turn RecoverAnswer) → Took (LeadsBy recovery_next) KeepsLeases old a new turn
    → (client : ℕ) (aim : Aim) (former : Option Claim) (h : List Deed) → Came recovery_ask (LeadsBy recovery_next) (new_recovery client aim former) h old
    → MeansTurn client aim former ((recovery_ask old, a) ∷ calls_of h) new turn
came_means old new a More took client aim former h came = tt
came_means old new a (Ended answer) took client aim former h came = ended_means client aim former (calls_of h) old new a answer (came_known client aim former h old came) took
came_means old new a (Stopped t) took client aim former h came = tt
