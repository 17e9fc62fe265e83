-- How many calls a recovery makes at most, by the ids that they received.
use Rattle.std.proofs.Common.{◌≡◌, ◌<◌, ◌≤◌, ◌+◌, ◌*◌, ℕ, List, [], ◌∷◌, ◌++◌, length, length-append, Bool, true, false, cond, Option, Some, None, Ok, refl, ap, sym, subst, ◌∙◌, arith}
use Rattle.std.specs.Prelude.{◌==◌, ◌||◌, nat_eq, filter, slice_get}
use Rattle.std.specs.List.{AllByRecursion, IsDistinct}
use Rattle.std.specs.Set.{is_member}
use Rattle.std.proofs.lemmas.Bool.Decides.{nat_tests}
use Rattle.std.proofs.lemmas.Cmp.{nat_eq_equiv}
use Rattle.std.proofs.lemmas.List.{append-nil, append_assoc}
use Rattle.std.proofs.lemmas.List.Folds.{list_any-append}
use Rattle.std.proofs.lemmas.Map.Made.{length-le_from_is_member}
use Rattle.db_base.specs.declared.names.ObjName.TheVariants as object
use Rattle.db_base.specs.declared.trouble.Trouble.{Trouble}
use Rattle.head_codec.specs.declared.head.Head.{Head}
use Rattle.cloud_trait.specs.declared.answer.Answer.{Answer}
use Rattle.cloud_trait.specs.declared.answer.Answer.TheVariants as call
use Rattle.cloud_trait.specs.declared.message.Message.{Message}
use Rattle.cloud_trait.specs.Ask.{Ask, GetHeld, PutHeld, Release}
use Rattle.cloud_trait.specs.Claim.{Claim}
use Rattle.cloud_trait.specs.Machine.{Goes, Ends, Stops, Deed, calls_of}
use Rattle.recover_run.specs.declared.items.AtomicItem.{AtomicItem}
use Rattle.recover_run.specs.declared.stage.Aim.{Aim}
use Rattle.recover_run.specs.declared.stage.Stage.{Stage}
use Rattle.recover_run.specs.declared.stage.Stage.TheVariants.{ReleasingOld, Taking, Getting, Receiving, Deleting, Sending, Putting, Clearing, Sweeping, Releasing, Finished}
use Rattle.recover_run.specs.declared.wanted.Wanted.{Wanted}
use Rattle.recover_run.specs.End.{calls_left, left_at, KnowsAtMost}
use Rattle.recover_run.specs.Calls.{Calls, IsStart}
use Rattle.recover_run.specs.Causes.{ids_in, known_ids}
use Rattle.recover_run.specs.Gathering.{Gathered, kept_with, is_counted, is_lost, is_past, lost_ids, past_ids, count_of}
use Rattle.recover_run.specs.Ids.{has_id, new_ids}
use Rattle.recover_run.specs.Items.{items_of, ids_of}
use Rattle.recover_run.specs.Kept.{with_item}
use Rattle.log_codec.specs.declared.record.AtomicRec.{AtomicRec}
use Rattle.recover_run.specs.Recovery.{Recovery, Step, new_recovery, recovery_ask, ask_at, under, delete_next, send_next, behind, with_pending}
use Rattle.recover_run.proofs.Outcomes as step
use Rattle.recover_run.proofs.Outcomes.{at, swept, Reads, Loses, Readies, Clears, Fails, Comes, comes}
use Rattle.recover_run.specs.Leases.{Went}
use Rattle.recover_run.specs.Within.{counted, counted_after, count_in, AreFew}
use Rattle.recover_run.proofs.End.{ReadyAt, less_ready}
use Rattle.recover_run.proofs.KeptRecords.{all_so, all_new, with_item_all}
use Rattle.recover_run.proofs.Knows.{KnowsAt}
use Rattle.recover_run.proofs.Meaning.{came_known}
use Rattle.recover_run.proofs.Heard.{HeardAt, items_ids, received_seen, went_heard}
use Rattle.recover_run.proofs.Leases.{StandsAt, went_stands}

-- ---- sets of ids

-- every id is in a set
abbrev Within : List ℕ → List ℕ → Type 0
Within set ids = AllByRecursion (λ (id : ℕ). has_id set id ≡ true) ids

or_left : (a b : Bool) → a ≡ true → (a || b) ≡ true
or_left true b e = refl
or_left false b e = absurd (cc (e))

or_right : (a b : Bool) → b ≡ true → (a || b) ≡ true
or_right true b e = refl
or_right false b e = e

or_false_left : (a b : Bool) → (a || b) ≡ false → a ≡ false
or_false_left true b e = absurd (cc (e))
or_false_left false b e = refl

or_false_right : (a b : Bool) → (a || b) ≡ false → b ≡ false
or_false_right true b e = absurd (cc (e))
or_false_right false b e = e

same_is : (a : ℕ) → (a == a) ≡ true
same_is a = grind (arith, nat_tests)

other_way : (a b : ℕ) → (a == b) ≡ (b == a)
other_way a b = grind (arith, nat_tests)

has_more : (set more : List ℕ) (id : ℕ) → has_id set id ≡ true → has_id (set ++ more) id ≡ true
has_more set more id e =
    list_any-append (λ (q : ℕ). q == id) set more ∙ or_left (has_id set id) (has_id more id) e

has_behind : (set more : List ℕ) (id : ℕ) → has_id more id ≡ true → has_id (set ++ more) id ≡ true
has_behind set more id e =
    list_any-append (λ (q : ℕ). q == id) set more ∙ or_right (has_id set id) (has_id more id) e

within_more : (set more ids : List ℕ) → Within set ids → Within (set ++ more) ids
within_more set more ids all = all_so (λ (id : ℕ). has_id set id ≡ true) (λ (id : ℕ). has_id (set ++ more) id ≡ true) (λ id e. has_more set more id e) ids all

within_append : (set xs ys : List ℕ) → Within set xs → Within set ys → Within set (xs ++ ys)
within_append set [] ys all more = more
within_append set (x ∷ xs) ys all more = (all.0, within_append set xs ys all.1 more)

-- new ids are known behind the set
within_new : (set ids : List ℕ) → Within (set ++ new_ids set ids) ids
within_new set [] = tt
within_new set (id ∷ ids) = on (has_id set id) refl (within_new set ids) (within_new (set ++ id ∷ []) ids) where
  on : (b : Bool) → has_id set id ≡ b → Within (set ++ new_ids set ids) ids → Within ((set ++ id ∷ []) ++ new_ids (set ++ id ∷ []) ids) ids
      → Within (set ++ cond b (new_ids set ids) (id ∷ new_ids (set ++ id ∷ []) ids)) (id ∷ ids)
  on true e same more = (has_more set (new_ids set ids) id e, same)
  on false e same more =
      let here : has_id (id ∷ new_ids (set ++ id ∷ []) ids) id ≡ true = or_left (id == id) (has_id (new_ids (set ++ id ∷ []) ids) id) (same_is id) in (
        has_behind set (id ∷ new_ids (set ++ id ∷ []) ids) id here,
        subst (λ (l : List ℕ). Within l ids) (append_assoc set (id ∷ []) (new_ids (set ++ id ∷ []) ids)) more,
      )

-- no id stands twice
apart_end : (x : ℕ) (xs : List ℕ) (id : ℕ) → AllByRecursion (λ (y : ℕ). nat_eq x y ≡ false) xs → nat_eq x id ≡ false
    → AllByRecursion (λ (y : ℕ). nat_eq x y ≡ false) (xs ++ id ∷ [])
apart_end x [] id all e = (e, tt)
apart_end x (y ∷ xs) id all e = (all.0, apart_end x xs id all.1 e)

distinct_end : (xs : List ℕ) (id : ℕ) → IsDistinct nat_eq xs → has_id xs id ≡ false → IsDistinct nat_eq (xs ++ id ∷ [])
unfolding IsDistinct
distinct_end [] id apart e = (tt, tt)
distinct_end (x ∷ xs) id apart e =
    (apart_end x xs id apart.0 (or_false_left (x == id) (has_id xs id) e), distinct_end xs id apart.1 (or_false_right (x == id) (has_id xs id) e))

distinct_new : (set ids : List ℕ) → IsDistinct nat_eq set → IsDistinct nat_eq (set ++ new_ids set ids)
distinct_new set [] apart = subst (IsDistinct nat_eq) (sym (append-nil set)) apart
distinct_new set (id ∷ ids) apart = on (has_id set id) refl (distinct_new set ids apart) (λ more. distinct_new (set ++ id ∷ []) ids more) where
  on : (b : Bool) → has_id set id ≡ b → IsDistinct nat_eq (set ++ new_ids set ids)
      → (IsDistinct nat_eq (set ++ id ∷ []) → IsDistinct nat_eq ((set ++ id ∷ []) ++ new_ids (set ++ id ∷ []) ids))
      → IsDistinct nat_eq (set ++ cond b (new_ids set ids) (id ∷ new_ids (set ++ id ∷ []) ids))
  on true e same more = same
  on false e same more =
      subst (IsDistinct nat_eq) (append_assoc set (id ∷ []) (new_ids (set ++ id ∷ []) ids)) (more (distinct_end set id apart e))

nat_eq_true : (a b : ℕ) → (a == b) ≡ true → a ≡ b
nat_eq_true a b e = grind (arith, nat_tests)

or_rest : (a b : Bool) → a ≡ false → (a || b) ≡ true → b ≡ true
or_rest true b f k = absurd (cc (f))
or_rest false b f k = k

-- the same test the other way round
turned : (set : List ℕ) (id : ℕ) → has_id set id ≡ true → is_member nat_eq set id ≡ true
turned [] id h = h
turned (x ∷ set) id h = either (x == id) (has_id set id) h refl (λ g. turned set id g) where
  either : (a b : Bool) → (a || b) ≡ true → (x == id) ≡ a → (b ≡ true → is_member nat_eq set id ≡ true) → ((id == x) || is_member nat_eq set id) ≡ true
  either true b h e f = or_left (id == x) (is_member nat_eq set id) (other_way id x ∙ e)
  either false b h e f = or_right (id == x) (is_member nat_eq set id) (f h)

-- an id of the list
member_within : (set ids : List ℕ) (q : ℕ) → Within set ids → is_member nat_eq ids q ≡ true → is_member nat_eq set q ≡ true
member_within set [] q all e = absurd (cc (e))
member_within set (id ∷ ids) q all e = on (q == id) refl (λ more. member_within set ids q all.1 more) where
  on : (b : Bool) → (q == id) ≡ b → (is_member nat_eq ids q ≡ true → is_member nat_eq set q ≡ true) → is_member nat_eq set q ≡ true
  on true is behind =
      let same : q ≡ id = nat_eq_true q id is in
      subst (λ (k : ℕ). is_member nat_eq set k ≡ true) (sym same) (turned set id all.0)
  on false is behind = behind (or_rest (q == id) (is_member nat_eq ids q) is e)

-- distinct ids of a set are at most as many
few_within : (set ids : List ℕ) → IsDistinct nat_eq ids → Within set ids → length ids ≤ length set
few_within set ids apart all = length-le_from_is_member nat_eq_equiv ids set apart (λ q e. member_within set ids q all e)

-- ---- what is known of what was received

-- ids of a set, each once
pub record IsPart (set ids : List ℕ) : Type 0 where
  pub apart : IsDistinct nat_eq ids
  pub within : Within set ids

part_more : (set more ids : List ℕ) → IsPart set ids → IsPart (set ++ more) ids
part_more set more ids k = record { apart = k.apart; within = within_more set more ids k.within }

-- with the new ones of some ids of the set
part_new : (set ids more : List ℕ) → IsPart set ids → Within set more → IsPart set (ids ++ new_ids ids more)
part_new set ids more k all = record {
  apart = distinct_new ids more k.apart;
  within = within_append set ids (new_ids ids more) k.within (all_new (λ (id : ℕ). has_id set id ≡ true) ids more all);
}

abbrev HasIds : List ℕ → List AtomicItem → Type 0
HasIds set items = AllByRecursion (λ (x : AtomicItem). has_id set x.id ≡ true) items

holds_more : (set more : List ℕ) (items : List AtomicItem) → HasIds set items → HasIds (set ++ more) items
holds_more set more items all =
    all_so (λ (x : AtomicItem). has_id set x.id ≡ true) (λ (x : AtomicItem). has_id (set ++ more) x.id ≡ true) (λ x e. has_more set more x.id e) items all

holds_ids : (set : List ℕ) (items : List AtomicItem) → HasIds set items → Within set (ids_of items)
holds_ids set [] all = tt
holds_ids set (x ∷ items) all = (all.0, holds_ids set items all.1)

ids_hold : (set : List ℕ) (items : List AtomicItem) → Within set (ids_of items) → HasIds set items
ids_hold set [] all = tt
ids_hold set (x ∷ items) all = (all.0, ids_hold set items all.1)

some_within : (set : List ℕ) (test : AtomicRec → Bool) (items : List AtomicItem) → HasIds set items
    → Within set (ids_of (filter (λ (x : AtomicItem). test x.rec) items))
some_within set test [] all = tt
some_within set test (x ∷ items) all = on (test x.rec) (some_within set test items all.1) where
  on : (b : Bool) → Within set (ids_of (filter (λ (y : AtomicItem). test y.rec) items))
      → Within set (ids_of (cond b (x ∷ filter (λ (y : AtomicItem). test y.rec) items) (filter (λ (y : AtomicItem). test y.rec) items)))
  on true rest = (all.0, rest)
  on false rest = rest

kept_holds : (set : List ℕ) (w : Wanted) (kept items : List AtomicItem) → HasIds set kept → HasIds set items → HasIds set (kept_with w kept items)
kept_holds set w kept [] all more = all
kept_holds set w kept (x ∷ items) all more =
    on (is_counted w x.rec)
    (kept_holds set w (with_item kept x) items (with_item_all (λ (y : AtomicItem). has_id set y.id ≡ true) kept x all more.0) more.1)
    (kept_holds set w kept items all more.1)
  where
    on : (b : Bool) → HasIds set (kept_with w (with_item kept x) items) → HasIds set (kept_with w kept items)
        → HasIds set (kept_with w (cond b (with_item kept x) kept) items)
    on true one none = one
    on false one none = none

-- what a recovery knows is of what its calls received
pub record Reached (set : List ℕ) (n : ℕ) (g : Gathered) (swept : List ℕ) (w : Wanted) : Type 0 where
  pub seen : length g.seen ≤ length set
  pub lost : IsPart set g.lost
  pub kept : HasIds set g.kept
  pub swept_are : IsPart set swept
  pub count : w.count ≤ n

abbrev Reaches : Calls → Recovery → Type 0
Reaches cs r = Reached (known_ids cs) (counted cs) r.gathered r.swept r.wanted

abbrev NextReaches : Calls → Step → Type 0
NextReaches cs (Goes n) = Reaches cs n
NextReaches cs (Ends n x) = Unit {0}
NextReaches cs (Stops n t) = Unit {0}

-- with more received ids
reached_more : (set more : List ℕ) (n : ℕ) (g : Gathered) (swept : List ℕ) (w : Wanted) → Reached set n g swept w → Reached (set ++ more) n g swept w
reached_more set more n g swept w k = record {
  seen = omega (arith, k.seen, length-append set more);
  lost = part_more set more g.lost k.lost;
  kept = holds_more set more g.kept k.kept;
  swept_are = part_more set more swept k.swept_are;
  count = k.count;
}

-- ---- local work

-- the items of a receive are of what its call received
items_hold : (cs : Calls) (q : Ask) (ms : List Message) (items : List AtomicItem) → items_of ms ≡ Ok items → HasIds (known_ids ((q, call.Received ms) ∷ cs)) items
items_hold cs q ms items e =
    ids_hold (known_ids ((q, call.Received ms) ∷ cs)) items
    (subst (Within (known_ids ((q, call.Received ms) ∷ cs))) (sym (items_ids ms items e)) (within_new (known_ids cs) (ids_in (call.Received ms))))

none_part : (set : List ℕ) → IsPart set []
unfolding IsDistinct
none_part set = record { apart = tt; within = tt }

loses_reach : {r : Recovery} {a : Answer} (cs : Calls) (q : Recovery) (ids : List ℕ) → HeardAt r.stage cs r → Reaches ((recovery_ask r, a) ∷ cs) r → Loses r a q ids
    → Reaches ((recovery_ask r, a) ∷ cs) q
loses_reach cs q ids heard k (step.received r ms items e) =
    let ask : Ask = recovery_ask (at r Receiving) in
    let set : List ℕ = known_ids ((ask, call.Received ms) ∷ cs) in
    let held : HasIds set items = items_hold cs ask ms items e in
    record {
      seen = omega (arith, ap (λ (l : List ℕ). length l) (received_seen r.gathered.seen cs ask ms items e heard.seen));
      lost = part_new set r.gathered.lost (lost_ids r.wanted items) k.lost (some_within set (is_lost r.wanted) items held);
      kept = kept_holds set r.wanted r.gathered.kept items k.kept held;
      swept_are = k.swept_are;
      count = k.count;
    }
loses_reach cs q ids heard k (step.one_gone r) = k

readies_reach : {r : Recovery} {a : Answer} (cs : Calls) (q : Recovery) (place : ℕ) → HeardAt r.stage cs r → Reaches ((recovery_ask r, a) ∷ cs) r → Readies r a q place
    → Reaches ((recovery_ask r, a) ∷ cs) q
readies_reach cs q place heard k (step.whole d loses same) = loses_reach cs d [] heard k loses
readies_reach cs q place heard k (step.one_sent r id) = passed (slice_get r.gathered.kept r.sent) where
  passed : (o : Option AtomicItem) → Reaches ((recovery_ask (at r Sending), call.Sent id) ∷ cs) (with_pending (at r Sending) o)
  passed (Some x) = k
  passed None = k

clears_reach : {r : Recovery} {a : Answer} (cs : Calls) (q : Recovery) (ids : List ℕ) → Reaches ((recovery_ask r, a) ∷ cs) r → Clears r a q ids → Reaches ((recovery_ask r, a) ∷ cs) q
clears_reach cs q ids k (step.head_put r) =
    let set : List ℕ = known_ids ((recovery_ask (at r Putting), call.Done) ∷ cs) in
    record {
      seen = k.seen;
      lost = k.lost;
      kept = k.kept;
      swept_are = part_new set [] (ids_of r.gathered.kept) (none_part set) (holds_ids set r.gathered.kept k.kept);
      count = k.count;
    }
clears_reach cs q ids k (step.one_tried r a) = k

fails_reach : {r : Recovery} {a : Answer} (cs : Calls) (q : Recovery) (t : Trouble) → HeardAt r.stage cs r → Reaches ((recovery_ask r, a) ∷ cs) r → Fails r a q t
    → Reaches ((recovery_ask r, a) ∷ cs) q
fails_reach cs q t heard k (step.waits d loses other stale) = loses_reach cs d [] heard k loses
fails_reach cs q t heard k f = k

-- with the ids of past epochs that a receive behind the put brought
sweeps_reach : (cs : Calls) (r : Recovery) (ms : List Message) (items : List AtomicItem) (ids : List ℕ) → items_of ms ≡ Ok items → swept r items ≡ ids
    → (let all : Calls = (recovery_ask (at r Sweeping), call.Received ms) ∷ cs in Reaches all r → Reached (known_ids all) (counted all) r.gathered (r.swept ++ ids) r.wanted)
sweeps_reach cs r ms items ids e are k =
    let all : Calls = (recovery_ask (at r Sweeping), call.Received ms) ∷ cs in
    subst (λ (l : List ℕ). Reached (known_ids all) (counted all) r.gathered (r.swept ++ l) r.wanted) are (record {
      seen = k.seen;
      lost = k.lost;
      kept = k.kept;
      swept_are = part_new (known_ids all) r.swept (past_ids r.wanted items) k.swept_are (some_within (known_ids all) (is_past r.wanted) items (items_hold cs (recovery_ask (at r Sweeping)) ms items e));
      count = k.count;
    })

-- ---- calls that count nothing

abbrev IsNoGet : Ask → Type 0
IsNoGet (GetHeld name l) = ⊥
IsNoGet q = Unit {0}

counted_still : (q : Ask) (a : Answer) (n : ℕ) → IsNoGet q → counted_after q a n ≡ n
counted_still (GetHeld name l) a n other = absurd other
counted_still q a n other = refl

under_gets : (r : Recovery) (o : Option Claim) (ask : Claim → Ask) → ((l : Claim) → IsNoGet (ask l)) → IsNoGet (under r o ask)
under_gets r (Some l) ask other = other l
under_gets r None ask other = tt

delete_gets : (r : Recovery) (ids : List ℕ) → IsNoGet (delete_next r ids)
delete_gets r [] = tt
delete_gets r (id ∷ ids) = tt

send_gets : (r : Recovery) (o : Option AtomicItem) → IsNoGet (send_next r o)
send_gets r (Some x) = tt
send_gets r None = tt

-- before the get none is counted
start_counted : (old : Option Claim) (cs : Calls) → IsStart old cs → counted cs ≡ 0
start_counted None cs start = ap counted start
start_counted (Some l) cs start = ap counted start.1

-- with a call more no fewer are counted
counted_grows : (st : Stage) (old : Option Claim) (cs : Calls) (r : Recovery) (a : Answer) → KnowsAt st old cs r → counted cs ≤ counted ((ask_at st r, a) ∷ cs)
counted_grows ReleasingOld old cs r a k = omega (arith, counted_still (ask_at ReleasingOld r) a (counted cs) (under_gets r r.former Release (λ l. tt)))
counted_grows Taking old cs r a k = omega (arith, counted_still (ask_at Taking r) a (counted cs) tt)
counted_grows Getting old cs r a k =
    let none : counted cs ≡ 0 = ap counted k.calls ∙ start_counted old k.start k.started in
    omega (arith, none)
counted_grows Receiving old cs r a k = omega (arith, counted_still (ask_at Receiving r) a (counted cs) tt)
counted_grows Deleting old cs r a k = omega (arith, counted_still (ask_at Deleting r) a (counted cs) (delete_gets r r.ids))
counted_grows Sending old cs r a k = omega (arith, counted_still (ask_at Sending r) a (counted cs) (send_gets r (slice_get r.gathered.kept r.sent)))
counted_grows Putting old cs r a k =
    omega (arith, counted_still (ask_at Putting r) a (counted cs) (under_gets r r.lease (λ l. PutHeld (object.Head r.client) r.out l None) (λ l. tt)))
counted_grows Clearing old cs r a k = omega (arith, counted_still (ask_at Clearing r) a (counted cs) (delete_gets r r.ids))
counted_grows Sweeping old cs r a k = omega (arith, counted_still (ask_at Sweeping r) a (counted cs) tt)
counted_grows Releasing old cs r a k = omega (arith, counted_still (ask_at Releasing r) a (counted cs) (under_gets r r.lease Release (λ l. tt)))
counted_grows Finished old cs r a k = omega (arith, counted_still (ask_at Finished r) a (counted cs) tt)

-- what was reached stays so behind a call more
reached_grows : (cs : Calls) (q : Ask) (a : Answer) (r : Recovery) → counted cs ≤ counted ((q, a) ∷ cs) → Reaches cs r → Reaches ((q, a) ∷ cs) r
reached_grows cs q a r few k =
    let more : Reached (known_ids ((q, a) ∷ cs)) (counted cs) r.gathered r.swept r.wanted =
    reached_more (known_ids cs) (new_ids (known_ids cs) (ids_in a)) (counted cs) r.gathered r.swept r.wanted k in
    record { seen = more.seen; lost = more.lost; kept = more.kept; swept_are = more.swept_are; count = omega (arith, more.count, few) }

-- ---- a step

-- the head that was read counts as many records as its calls say
reads_count : {r : Recovery} {a : Answer} (client : ℕ) (aim : Aim) (old : Option Claim) (h : List Deed) (head : Head) → StandsAt r.stage client aim old h r → Reads r a head
    → count_of head.phase ≤ counted ((recovery_ask r, a) ∷ calls_of h)
reads_count client aim old h head st (step.absent r opening) = omega arith
reads_count client aim old h head st (step.spelled r bytes read e other) =
    let asks : ask_at Getting r ≡ GetHeld (object.Head r.client) st.0.lease = ap (λ (o : Option Claim). under r o (λ l. GetHeld (object.Head r.client) l)) st.0.lease_is in
    subst (λ (q : Ask). count_of head.phase ≤ counted ((q, call.Got (Some bytes)) ∷ calls_of h)) (sym asks) (omega (arith, ap count_in e))

reads_reach : {r : Recovery} {a : Answer} (client : ℕ) (aim : Aim) (old : Option Claim) (h : List Deed) (head : Head) → StandsAt r.stage client aim old h r
    → Reaches ((recovery_ask r, a) ∷ calls_of h) r → Reads r a head → Reaches ((recovery_ask r, a) ∷ calls_of h) (behind r head)
reads_reach client aim old h head st k reads =
    record { seen = k.seen; lost = k.lost; kept = k.kept; swept_are = k.swept_are; count = reads_count client aim old h head st reads }

comes_reach : {r : Recovery} {a : Answer} {next : Step} (client : ℕ) (aim : Aim) (old : Option Claim) (h : List Deed) → StandsAt r.stage client aim old h r → HeardAt r.stage (calls_of h) r
    → Reaches ((recovery_ask r, a) ∷ calls_of h) r → Comes r a next → NextReaches ((recovery_ask r, a) ∷ calls_of h) next
comes_reach client aim old h st heard k (step.gives_old r a) = k
comes_reach client aim old h st heard k (step.takes r l) = k
comes_reach client aim old h st heard k (step.refused r a t e) = tt
comes_reach client aim old h st heard k (step.stops q t f) = fails_reach (calls_of h) q t heard k f
comes_reach client aim old h st heard k (step.finds_none r e) = k
comes_reach client aim old h st heard k (step.reads_settled head reads e) = reads_reach client aim old h head st k reads
comes_reach client aim old h st heard k (step.reads_open head count reads e) = reads_reach client aim old h head st k reads
comes_reach client aim old h st heard k (step.deletes q id ids loses) = loses_reach (calls_of h) q (id ∷ ids) heard k loses
comes_reach client aim old h st heard k (step.receives q loses other new) = loses_reach (calls_of h) q [] heard k loses
comes_reach client aim old h st heard k (step.sends q place x ready e) = readies_reach (calls_of h) q place heard k ready
comes_reach client aim old h st heard k (step.puts q place ready e) = readies_reach (calls_of h) q place heard k ready
comes_reach client aim old h st heard k (step.clears q id ids c) = clears_reach (calls_of h) q (id ∷ ids) k c
comes_reach client aim old h st heard k (step.sweeps q c) = clears_reach (calls_of h) q [] k c
comes_reach client aim old h st heard k (step.clears_past r ms items id ids e are) = sweeps_reach (calls_of h) r ms items (id ∷ ids) e are k
comes_reach client aim old h st heard k (step.opens r ms items e none is) = tt
comes_reach client aim old h st heard k (step.closes r ms items e none is) = sweeps_reach (calls_of h) r ms items [] e none k
comes_reach client aim old h st heard k (step.ends r a answer e) = tt
comes_reach client aim old h st heard k (step.stopped r a t e) = tt
comes_reach client aim old h st heard k (step.astray r a e) = tt
comes_reach client aim old h st heard k (step.nothing r a) = tt

start_reaches : (client : ℕ) (aim : Aim) (old : Option Claim) → Reaches [] (new_recovery client aim old)
start_reaches client aim old = record { seen = omega arith; lost = none_part []; kept = tt; swept_are = none_part []; count = omega arith }

went_reaches : (client : ℕ) (aim : Aim) (old : Option Claim) (h : List Deed) (r : Recovery) → Went client aim old h r → Reaches (calls_of h) r
went_reaches client aim old [] r is = subst (λ (m : Recovery). Reaches [] m) (sym is) (start_reaches client aim old)
went_reaches client aim old (d ∷ h) r (from, came, asks, made, leads, follows) =
    let before : Reaches (calls_of h) from = went_reaches client aim old h from came in
    let grown : Reaches ((recovery_ask from, d.answer) ∷ calls_of h) from =
    reached_grows (calls_of h) (recovery_ask from) d.answer from
    (counted_grows from.stage old (calls_of h) from d.answer (came_known client aim old h from came).at) before in
    subst (λ (q : Ask). Reaches ((q, d.answer) ∷ calls_of h) r) (sym asks)
    (subst (NextReaches ((recovery_ask from, d.answer) ∷ calls_of h)) leads
    (comes_reach client aim old h (went_stands client aim old h from came) (went_heard client aim old h from came) grown (comes from d.answer)))

-- ---- the bound

known_at_most : (d n : ℕ) (cs : Calls) (r : Recovery) → Reaches cs r → length (known_ids cs) ≤ d → counted cs ≤ n → KnowsAtMost d n r
known_at_most d n cs r k few none = record {
  seen = omega (arith, k.seen, few);
  lost = omega (arith, few_within (known_ids cs) r.gathered.lost k.lost.apart k.lost.within, few);
  swept = omega (arith, few_within (known_ids cs) r.swept k.swept_are.apart k.swept_are.within, few);
  count = omega (arith, k.count, none);
}

ready_at : (st : Stage) (old : Option Claim) (cs : Calls) (r : Recovery) → KnowsAt st old cs r → ReadyAt st r
ready_at ReleasingOld old cs r k = tt
ready_at Taking old cs r k = tt
ready_at Getting old cs r k = tt
ready_at Receiving old cs r k = tt
ready_at Deleting old cs r k = k.some
ready_at Sending old cs r k = (k.item, k.here)
ready_at Putting old cs r k = tt
ready_at Clearing old cs r k = k.some
ready_at Sweeping old cs r k = tt
ready_at Releasing old cs r k = tt
ready_at Finished old cs r k = tt

start_left : (d n : ℕ) (client : ℕ) (aim : Aim) (old : Option Claim) → calls_left d n (new_recovery client aim old) ≤ 4 * d + n + 7
start_left d n client aim None = omega arith
start_left d n client aim (Some l) = omega arith

went_left : (d n : ℕ) (client : ℕ) (aim : Aim) (old : Option Claim) (h : List Deed) (r : Recovery) → Went client aim old h r → length (known_ids (calls_of h)) ≤ d
    → counted (calls_of h) ≤ n → length h + calls_left d n r ≤ 4 * d + n + 7
went_left d n client aim old [] r is few none =
    subst (λ (m : Recovery). 0 + calls_left d n m ≤ 4 * d + n + 7) (sym is) (omega (arith, start_left d n client aim old))
went_left d n client aim old (e ∷ h) r (from, came, asks, made, leads, follows) few none =
    let known = (came_known client aim old h from came).at in
    let fewer_ids : length (known_ids (calls_of h)) ≤ d =
    omega (arith, few, length-append (known_ids (calls_of h)) (new_ids (known_ids (calls_of h)) (ids_in e.answer))) in
    let asked : counted ((recovery_ask from, e.answer) ∷ calls_of h) ≤ n = subst (λ (q : Ask). counted ((q, e.answer) ∷ calls_of h) ≤ n) asks none in
    let grows : counted (calls_of h) ≤ counted ((recovery_ask from, e.answer) ∷ calls_of h) = counted_grows from.stage old (calls_of h) from e.answer known in
    let before : length h + calls_left d n from ≤ 4 * d + n + 7 = went_left d n client aim old h from came fewer_ids (omega (arith, asked, grows)) in
    let less : calls_left d n r < calls_left d n from =
    less_ready d n from r e.answer (ready_at from.stage old (calls_of h) from known) leads
    (known_at_most d n (calls_of (e ∷ h)) r (went_reaches client aim old (e ∷ h) r (from, came, asks, made, leads, follows)) few none) in
    omega (arith, before, less)

one_left : (st : Stage) (d n : ℕ) (client : ℕ) (aim : Aim) (old : Option Claim) (h : List Deed) (r : Recovery) → StandsAt st client aim old h r → 1 ≤ left_at st d n r
one_left ReleasingOld d n client aim old h r st = omega arith
one_left Taking d n client aim old h r st = omega arith
one_left Getting d n client aim old h r st = omega arith
one_left Receiving d n client aim old h r st = omega arith
one_left Deleting d n client aim old h r st = omega arith
one_left Sending d n client aim old h r st = omega arith
one_left Putting d n client aim old h r st = omega arith
one_left Clearing d n client aim old h r st = omega arith
one_left Sweeping d n client aim old h r st = omega arith
one_left Releasing d n client aim old h r st = omega arith
one_left Finished d n client aim old h r st = absurd st

-- with the call in hand
pub went_few : (client : ℕ) (aim : Aim) (old : Option Claim) (h : List Deed) (r : Recovery) → Went client aim old h r → AreFew (calls_of h) (length h + 1)
went_few client aim old h r went =
    let d : ℕ = length (known_ids (calls_of h)) in
    let n : ℕ = counted (calls_of h) in
    let all : length h + calls_left d n r ≤ 4 * d + n + 7 = went_left d n client aim old h r went (omega arith) (omega arith) in
    omega (arith, all, one_left r.stage d n client aim old h r (went_stands client aim old h r went))
