-- What the calls of a recovery brought is what it has gathered.
use Rattle.std.proofs.Common.{◌≡◌, ◌<◌, ◌≤◌, ◌+◌, ℕ, List, [], ◌∷◌, ◌++◌, append-nil, length, length-append, Bool, true, false, cond, Option, Some, None, Result, Ok, Err, refl, ap, sym, subst, ◌∙◌, arith}
use Rattle.std.specs.Prelude.{◌==◌, ◌||◌, nat_lt, map}
use Rattle.std.specs.List.{list_any}
use Rattle.std.specs.declared.cmp.Ordering.TheVariants.{Less, Equal, Greater}
use Rattle.std.proofs.lemmas.Bool.Decides.{nat_tests}
use Rattle.db_base.specs.declared.names.ObjName.{ObjName}
use Rattle.db_base.specs.declared.names.ObjName.TheVariants as object
use Rattle.log_codec.specs.declared.record.AtomicRec.{AtomicRec}
use Rattle.log_codec.specs.Atomic.{atomic_of}
use Rattle.cloud_trait.specs.declared.answer.Answer.TheVariants as call
use Rattle.cloud_trait.specs.Ask.{Get, ListHeld, RemoveHeld, Renew}
use Rattle.recover_run.specs.Calls.{head_in}
use Rattle.recover_run.specs.Causes.{ids_in, known_ids, NothingNew}
use Rattle.recover_run.specs.Counting.{wanted_in, wanted_after, wanted_by, index_in, indices_of, indices_in, known_indices}
use Rattle.recover_run.specs.Gathering.{Gathered, nothing_gathered, wanted_of, kept_with, is_counted}
use Rattle.recover_run.specs.Ids.{has_id, new_ids, has_some}
use Rattle.recover_run.specs.Items.{items_of, with_first, item_with, ids_of}
use Rattle.recover_run.specs.Kept.{placed, with_item}
use Rattle.recover_run.specs.Recovery.{new_recovery, under, delete_next, behind}
use Rattle.recover_run.proofs.KeptRecords.{with_item_rising}
use Rattle.recover_run.proofs.Knows.{IsRising, KnowsAt}
use Rattle.recover_run.proofs.Meaning.{came_known}
use Rattle.recover_run.proofs.Words.{Head, Answer, Message, Ask, GetHeld, PutHeld, Send, Receive, Delete, Take, Release, Claim, Goes, Ends, Stops, Deed, calls_of, Fits, AtomicItem, Aim, Stage, ReleasingOld, Taking, Getting, Receiving, Deleting, Sending, Putting, Clearing, Sweeping, Releasing, Finished, Wanted, Calls, Recovery, Step, recovery_ask, Went}
use Rattle.recover_run.proofs.Outcomes.{at, Reads, Loses, Comes, comes_to}
use Rattle.recover_run.proofs.Outcomes as step

-- ---- what a call received

-- the ids of the records are those of the messages
items_first : (m : Message) (ms : List Message) (o : Option AtomicRec) (rest : Result (List AtomicItem) Message) (items : List AtomicItem)
    → ((its : List AtomicItem) → rest ≡ Ok its → ids_of its ≡ map (λ (x : Message). x.id) ms)
    → with_first m o rest ≡ Ok items → ids_of items ≡ map (λ (x : Message). x.id) (m ∷ ms)
items_first m ms None rest items more e = absurd (cc (e))
items_first m ms (Some rec) (Err bad) items more e = absurd (cc (e))
items_first m ms (Some rec) (Ok its) items more e =
    let same : item_with m.id rec ∷ its ≡ items = cc (e) in
    sym (ap ids_of same) ∙ ap (λ (l : List ℕ). m.id ∷ l) (more its refl)

pub items_ids : (ms : List Message) (items : List AtomicItem) → items_of ms ≡ Ok items → ids_of items ≡ map (λ (x : Message). x.id) ms
items_ids [] items e = let none : [] ≡ items = cc (e) in sym (ap ids_of none)
items_ids (m ∷ ms) items e = items_first m ms (atomic_of m.bytes) (items_of ms) items (λ its is. items_ids ms its is) e

-- a call that is no receive brings no ids
abbrev IsNoReceive : Ask → Type 0
IsNoReceive (Receive queue most) = ⊥
IsNoReceive q = Unit {0}

received_fits : (q : Ask) (ms : List Message) → IsNoReceive q → Fits q (call.Received ms) → ⊥
received_fits (Get name) ms plain fits = fits
received_fits (GetHeld name l) ms plain fits = fits
received_fits (PutHeld name bytes one two) ms plain fits = fits
received_fits (ListHeld tree l) ms plain fits = fits
received_fits (RemoveHeld name l) ms plain fits = fits
received_fits (Send queue bytes) ms plain fits = fits
received_fits (Receive queue most) ms plain fits = plain
received_fits (Delete queue id) ms plain fits = fits
received_fits (Take taken ticks) ms plain fits = fits
received_fits (Renew l ticks) ms plain fits = fits
received_fits (Release l) ms plain fits = fits

brings_no_ids : (q : Ask) (a : Answer) → IsNoReceive q → Fits q a → ids_in a ≡ []
brings_no_ids q (call.Received ms) plain fits = absurd (received_fits q ms plain fits)
brings_no_ids q a plain fits = refl

known_still : (c : Ask × Answer) (cs : Calls) → ids_in c.1 ≡ [] → known_ids (c ∷ cs) ≡ known_ids cs
known_still c cs none = ap (λ (l : List ℕ). known_ids cs ++ new_ids (known_ids cs) l) none ∙ append-nil (known_ids cs)

under_receives : (r : Recovery) (o : Option Claim) (ask : Claim → Ask) → ((l : Claim) → IsNoReceive (ask l)) → IsNoReceive (under r o ask)
under_receives r (Some l) ask plain = plain l
under_receives r None ask plain = tt

indices_still : (w : Wanted) (c : Ask × Answer) (cs : Calls) → indices_in w c.1 ≡ [] → known_indices w (c ∷ cs) ≡ known_indices w cs
indices_still w c cs none = ap (λ (l : List ℕ). known_indices w cs ++ new_ids (known_indices w cs) l) none ∙ append-nil (known_indices w cs)

-- whether the newest receive brought something new
abbrev pub FreshIs : Bool → Type 0 → Type 0
FreshIs true None_new = None_new → ⊥
FreshIs false None_new = None_new

fresh_so : (ids : List ℕ) → FreshIs (has_some ids) (ids ≡ [])
fresh_so [] = refl
fresh_so (id ∷ ids) = λ e. absurd (cc (e))

-- after a receive of these items
pub received_seen : (seen : List ℕ) (cs : Calls) (q : Ask) (ms : List Message) (items : List AtomicItem) → items_of ms ≡ Ok items → seen ≡ known_ids cs
    → seen ++ new_ids seen (ids_of items) ≡ known_ids ((q, call.Received ms) ∷ cs)
received_seen seen cs q ms items e same =
    ap (λ (l : List ℕ). seen ++ new_ids seen l) (items_ids ms items e) ∙ ap (λ (s : List ℕ). s ++ new_ids s (map (λ (x : Message). x.id) ms)) same

pub received_new : (seen : List ℕ) (cs : Calls) (ms : List Message) (items : List AtomicItem) → items_of ms ≡ Ok items → seen ≡ known_ids cs
    → new_ids seen (ids_of items) ≡ new_ids (known_ids cs) (ids_in (call.Received ms))
received_new seen cs ms items e same =
    ap (λ (l : List ℕ). new_ids seen l) (items_ids ms items e) ∙ ap (λ (s : List ℕ). new_ids s (map (λ (x : Message). x.id) ms)) same

pub received_fresh : (seen : List ℕ) (cs : Calls) (q : Ask) (ms : List Message) (items : List AtomicItem) → items_of ms ≡ Ok items → seen ≡ known_ids cs
    → FreshIs (has_some (new_ids seen (ids_of items))) (NothingNew ((q, call.Received ms) ∷ cs))
received_fresh seen cs q ms items e same =
    let now : new_ids seen (ids_of items) ≡ new_ids (known_ids cs) (ids_in (call.Received ms)) = received_new seen cs ms items e same in
    subst (λ (l : List ℕ). FreshIs (has_some l) (NothingNew ((q, call.Received ms) ∷ cs))) (sym now) (fresh_so (new_ids (known_ids cs) (ids_in (call.Received ms))))

-- ---- counted records

abbrev pub has_index : List AtomicItem → ℕ → Bool
has_index kept n = list_any (λ (x : AtomicItem). x.rec.index == n) kept

-- these records have these indices, each once
pub record Match (kept : List AtomicItem) (set : List ℕ) : Type 0 where
  pub same : (n : ℕ) → has_index kept n ≡ has_id set n
  pub many : length kept ≡ length set

below_true : (a b : ℕ) → nat_lt a b ≡ true → a < b
below_true a b e = grind (arith, nat_tests)

same_true : (a b : ℕ) → (a == b) ≡ true → a ≡ b
same_true a b e = grind (arith, nat_tests)

differs : (a b : ℕ) → a < b → (b == a) ≡ false
differs a b e = grind (arith, nat_tests)

turned : (a b : ℕ) → (a == b) ≡ (b == a)
turned a b = grind (arith, nat_tests)

swap : (a b c : Bool) → (a || (b || c)) ≡ ((b || c) || a)
swap true true c = refl
swap true false true = refl
swap true false false = refl
swap false true c = refl
swap false false true = refl
swap false false false = refl

once : (a b : Bool) → (a || b) ≡ ((a || b) || a)
once true b = refl
once false true = refl
once false false = refl

regroup : (a b c d : Bool) → b ≡ (c || d) → (a || b) ≡ ((a || c) || d)
regroup true b c d e = refl
regroup false b c d e = e

-- a record in its place among others brings its index
with_item_has : (kept : List AtomicItem) (x : AtomicItem) (n : ℕ) → has_index (with_item kept x) n ≡ (has_index kept n || (x.rec.index == n))
with_item_has [] x n = last (x.rec.index == n) where
  last : (b : Bool) → (b || false) ≡ (false || b)
  last true = refl
  last false = refl
with_item_has (first ∷ rest) x n = on (nat_lt x.rec.index first.rec.index) (x.rec.index == first.rec.index) refl (with_item_has rest x n) where
  on : (less same : Bool) → (x.rec.index == first.rec.index) ≡ same → has_index (with_item rest x) n ≡ (has_index rest n || (x.rec.index == n))
      → has_index (placed (cond less Less (cond same Equal Greater)) x first rest (with_item rest x)) n ≡ (((first.rec.index == n) || has_index rest n) || (x.rec.index == n))
  on true same e further = swap (x.rec.index == n) (first.rec.index == n) (has_index rest n)
  on false true e further =
      subst (λ (i : ℕ). ((first.rec.index == n) || has_index rest n) ≡ (((first.rec.index == n) || has_index rest n) || (i == n))) (sym (same_true _ _ e))
      (once (first.rec.index == n) (has_index rest n))
  on false false e further = regroup (first.rec.index == n) (has_index (with_item rest x) n) (has_index rest n) (x.rec.index == n) further

-- none of ascending indices is below the first
none_below : (n i : ℕ) (kept : List AtomicItem) → IsRising n kept → i < n → has_index kept i ≡ false
none_below n i [] up less = refl
none_below n i (first ∷ rest) up less =
    let here : i < first.rec.index = omega (arith, up.0, less) in
    ap (λ (b : Bool). b || has_index rest i) (differs i first.rec.index here) ∙ none_below (first.rec.index + 1) i rest up.1 (omega (arith, here))

or_none : (a b : Bool) → a ≡ false → (a || b) ≡ b
or_none true b e = absurd (cc (e))
or_none false b e = refl

-- and it makes them one more where its index is new
with_item_new : (n : ℕ) (kept : List AtomicItem) (x : AtomicItem) → IsRising n kept → has_index kept x.rec.index ≡ false → length (with_item kept x) ≡ length kept + 1
with_item_new n [] x up new = refl
with_item_new n (first ∷ rest) x up new =
    on (nat_lt x.rec.index first.rec.index) (x.rec.index == first.rec.index) refl refl (λ rest_new. with_item_new (first.rec.index + 1) rest x up.1 rest_new)
  where
    on : (less same : Bool) → nat_lt x.rec.index first.rec.index ≡ less → (x.rec.index == first.rec.index) ≡ same → (has_index rest x.rec.index ≡ false → length (with_item rest x) ≡ length rest + 1)
        → length (placed (cond less Less (cond same Equal Greater)) x first rest (with_item rest x)) ≡ length (first ∷ rest) + 1
    on true same l e more = omega arith
    on false true l e more =
        let here : (first.rec.index == x.rec.index) ≡ true = turned first.rec.index x.rec.index ∙ e in
        absurd (cc (new, ap (λ (b : Bool). b || has_index rest x.rec.index) here))
    on false false l e more =
        let rest_new : has_index rest x.rec.index ≡ false =
        sym (or_none (first.rec.index == x.rec.index) (has_index rest x.rec.index) (turned first.rec.index x.rec.index ∙ e)) ∙ new in
        omega (arith, more rest_new)

with_item_old : (n : ℕ) (kept : List AtomicItem) (x : AtomicItem) → IsRising n kept → has_index kept x.rec.index ≡ true → length (with_item kept x) ≡ length kept
with_item_old n [] x up old = absurd (cc (old))
with_item_old n (first ∷ rest) x up old =
    on (nat_lt x.rec.index first.rec.index) (x.rec.index == first.rec.index) refl refl (λ rest_old. with_item_old (first.rec.index + 1) rest x up.1 rest_old)
  where
    on : (less same : Bool) → nat_lt x.rec.index first.rec.index ≡ less → (x.rec.index == first.rec.index) ≡ same
        → (has_index rest x.rec.index ≡ true → length (with_item rest x) ≡ length rest)
        → length (placed (cond less Less (cond same Equal Greater)) x first rest (with_item rest x)) ≡ length (first ∷ rest)
    on true same l e more =
        let none : has_index (first ∷ rest) x.rec.index ≡ false = none_below first.rec.index x.rec.index (first ∷ rest) (omega arith, up.1) (below_true _ _ l) in
        absurd (cc (none, old))
    on false true l e more = refl
    on false false l e more =
        let rest_old : has_index rest x.rec.index ≡ true =
        sym (or_none (first.rec.index == x.rec.index) (has_index rest x.rec.index) (turned first.rec.index x.rec.index ∙ e)) ∙ old in
        omega (arith, more rest_old)

id_more : (set : List ℕ) (i n : ℕ) → has_id (set ++ i ∷ []) n ≡ (has_id set n || (i == n))
id_more [] i n = last (i == n) where
  last : (b : Bool) → (b || false) ≡ (false || b)
  last true = refl
  last false = refl
id_more (s ∷ set) i n = regroup (s == n) (has_id (set ++ i ∷ []) n) (has_id set n) (i == n) (id_more set i n)

add_new : (kept : List AtomicItem) (set : List ℕ) (x : AtomicItem) → IsRising 0 kept → Match kept set → has_id set x.rec.index ≡ false
    → Match (with_item kept x) (set ++ x.rec.index ∷ [])
add_new kept set x up m new = record {
  same = λ n. with_item_has kept x n ∙ (ap (λ (b : Bool). b || (x.rec.index == n)) (m.same n) ∙ sym (id_more set x.rec.index n));
  many =
      with_item_new 0 kept x up (m.same x.rec.index ∙ new) ∙ (ap (λ (n : ℕ). n + 1) m.many ∙ sym (length-append set (x.rec.index ∷ [])));
}

absorbed : (set : List ℕ) (i n : ℕ) → has_id set i ≡ true → (has_id set n || (i == n)) ≡ has_id set n
absorbed set i n old = on (i == n) refl where
  keeps : (b : Bool) → (b || false) ≡ b
  keeps true = refl
  keeps false = refl

  on : (b : Bool) → (i == n) ≡ b → (has_id set n || b) ≡ has_id set n
  on true e = let at_n : has_id set n ≡ true = subst (λ (k : ℕ). has_id set k ≡ true) (same_true i n e) old in ap (λ (c : Bool). c || true) at_n ∙ sym at_n
  on false e = keeps (has_id set n)

add_old : (kept : List AtomicItem) (set : List ℕ) (x : AtomicItem) → IsRising 0 kept → Match kept set → has_id set x.rec.index ≡ true → Match (with_item kept x) set
add_old kept set x up m old = record {
  same = λ n. with_item_has kept x n ∙ (ap (λ (b : Bool). b || (x.rec.index == n)) (m.same n) ∙ absorbed set x.rec.index n old);
  many = with_item_old 0 kept x up (m.same x.rec.index ∙ old) ∙ m.many;
}

assoc : (set : List ℕ) (i : ℕ) (more : List ℕ) → (set ++ i ∷ []) ++ more ≡ set ++ i ∷ more
assoc [] i more = refl
assoc (s ∷ set) i more = ap (λ (l : List ℕ). s ∷ l) (assoc set i more)

-- with the records of a receive
matches : (w : Wanted) (kept : List AtomicItem) (set : List ℕ) (ms : List Message) (items : List AtomicItem) → items_of ms ≡ Ok items → IsRising 0 kept → Match kept set
    → Match (kept_with w kept items) (set ++ new_ids set (indices_of w ms))
matches w kept set [] items e up m =
    let none : [] ≡ items = cc (e) in
    subst (λ (its : List AtomicItem). Match (kept_with w kept its) (set ++ [])) none (subst (Match kept) (sym (append-nil set)) m)
matches w kept set (n ∷ ms) items e up m = first (atomic_of n.bytes) (items_of ms) e (λ k s its. matches w k s ms its) where
  counted : (rec : AtomicRec) (its : List AtomicItem) (c : Bool) → (c ≡ is_counted w rec)
      → ((k : List AtomicItem) (s : List ℕ) → IsRising 0 k → Match k s → Match (kept_with w k its) (s ++ new_ids s (indices_of w ms)))
      → Match (kept_with w (cond c (with_item kept (item_with n.id rec)) kept) its) (set ++ new_ids set (cond c (rec.index ∷ []) [] ++ indices_of w ms))
  counted rec its false is more = more kept set up m
  counted rec its true is more = known (has_id set rec.index) refl where
    x : AtomicItem
    x = item_with n.id rec

    known : (old : Bool) → has_id set rec.index ≡ old
        → Match (kept_with w (with_item kept x) its)
        (set ++ cond old (new_ids set (indices_of w ms)) (rec.index ∷ new_ids (set ++ rec.index ∷ []) (indices_of w ms)))
    known true old = more (with_item kept x) set (with_item_rising 0 kept x up (omega arith)) (add_old kept set x up m old)
    known false new =
        subst (Match (kept_with w (with_item kept x) its)) (assoc set rec.index (new_ids (set ++ rec.index ∷ []) (indices_of w ms)))
        (more (with_item kept x) (set ++ rec.index ∷ []) (with_item_rising 0 kept x up (omega arith)) (add_new kept set x up m new))

  first : (o : Option AtomicRec) (rest : Result (List AtomicItem) Message) → with_first n o rest ≡ Ok items
      → ((k : List AtomicItem) (s : List ℕ) (its : List AtomicItem) → rest ≡ Ok its → IsRising 0 k → Match k s → Match (kept_with w k its) (s ++ new_ids s (indices_of w ms)))
      → Match (kept_with w kept items) (set ++ new_ids set (index_in w o ++ indices_of w ms))
  first None rest is more = absurd (cc (is))
  first (Some rec) (Err bad) is more = absurd (cc (is))
  first (Some rec) (Ok its) is more =
      let same : item_with n.id rec ∷ its ≡ items = cc (is) in
      subst (λ (all : List AtomicItem). Match (kept_with w kept all) (set ++ new_ids set (index_in w (Some rec) ++ indices_of w ms))) same
      (counted rec its (is_counted w rec) refl (λ k s. more k s its refl))

rising_from : (n m : ℕ) (kept : List AtomicItem) → n ≤ m → IsRising m kept → IsRising n kept
rising_from n m [] less up = tt
rising_from n m (x ∷ kept) less up = (omega (arith, less, up.0), up.1)

-- ---- what was heard

-- before the head is read the calls brought nothing
pub record IsSilent (r : Recovery) (cs : Calls) : Type 0 where
  pub gathered : r.gathered ≡ nothing_gathered
  pub ids : known_ids cs ≡ []
  pub indices : (w : Wanted) → known_indices w cs ≡ []

-- what was gathered is what the calls brought of the records that the head counts which they read
pub record IsHeard (r : Recovery) (cs : Calls) : Type 0 where
  pub seen : r.gathered.seen ≡ known_ids cs
  pub wanted : r.wanted ≡ wanted_by cs
  pub kept : Match r.gathered.kept (known_indices r.wanted cs)

abbrev pub HeardAt : Stage → Calls → Recovery → Type 0
HeardAt ReleasingOld cs r = IsSilent r cs
HeardAt Taking cs r = IsSilent r cs
HeardAt Getting cs r = IsSilent r cs
HeardAt Receiving cs r = IsHeard r cs
HeardAt Deleting cs r = IsHeard r cs × FreshIs r.gathered.fresh (NothingNew cs)
HeardAt stage cs r = Unit {0}

-- the records that are kept ascend
abbrev pub AscendAt : Stage → Recovery → Type 0
AscendAt Receiving r = IsRising 1 r.gathered.kept
AscendAt Deleting r = IsRising 1 r.gathered.kept
AscendAt stage r = Unit {0}

abbrev NextHeard : Calls → Step → Type 0
NextHeard cs (Goes n) = HeardAt n.stage cs n
NextHeard cs (Ends n x) = Unit {0}
NextHeard cs (Stops n t) = Unit {0}

-- a call more that brings nothing
silent_more : (r : Recovery) (c : Ask × Answer) (cs : Calls) → IsSilent r cs → ids_in c.1 ≡ [] → ((w : Wanted) → indices_in w c.1 ≡ []) → IsSilent r (c ∷ cs)
silent_more r c cs silent none no_index = record {
  gathered = silent.gathered;
  ids = known_still c cs none ∙ silent.ids;
  indices = λ w. indices_still w c cs (no_index w) ∙ silent.indices w;
}

indices_fit : (w : Wanted) (q : Ask) (a : Answer) → IsNoReceive q → Fits q a → indices_in w a ≡ []
indices_fit w q (call.Received ms) plain fits = absurd (received_fits q ms plain fits)
indices_fit w q a plain fits = refl

-- the get of the head tells what it counts
get_tells : (r : Recovery) (o : Option Claim) (name : ObjName) (v : Option (List ℕ)) (w : Wanted) → Fits (under r o (λ l. GetHeld name l)) (call.Got v)
    → wanted_after (under r o (λ l. GetHeld name l)) (call.Got v) w ≡ wanted_in (head_in v)
get_tells r (Some l) name v w fits = refl
get_tells r None name v w fits = absurd fits

-- a deletion tells nothing of it
delete_tells : (r : Recovery) (ids : List ℕ) (a : Answer) (w : Wanted) → wanted_after (delete_next r ids) a w ≡ w
delete_tells r [] a w = refl
delete_tells r (id ∷ ids) a w = refl

-- behind a receive or a deletion of lost records
pub loses_heard : {r : Recovery} {a : Answer} (cs : Calls) (q : Recovery) (ids : List ℕ) → HeardAt r.stage cs r → AscendAt r.stage r → Loses r a q ids
    → IsHeard q ((recovery_ask r, a) ∷ cs) × FreshIs q.gathered.fresh (NothingNew ((recovery_ask r, a) ∷ cs))
loses_heard cs q ids heard up (step.received r ms items e) = (
  record {
    seen = received_seen r.gathered.seen cs (recovery_ask (at r Receiving)) ms items e heard.seen;
    wanted = heard.wanted;
    kept = matches r.wanted r.gathered.kept (known_indices r.wanted cs) ms items e (rising_from 0 1 r.gathered.kept (omega arith) up) heard.kept;
  },
  received_fresh r.gathered.seen cs (recovery_ask (at r Receiving)) ms items e heard.seen,
)
loses_heard cs q ids heard up (step.one_gone r) =
    let c : Ask × Answer = (recovery_ask (at r Deleting), call.Done) in (
      record {
        seen = heard.0.seen ∙ sym (known_still c cs refl);
        wanted = heard.0.wanted ∙ sym (delete_tells r r.ids call.Done (wanted_by cs));
        kept = subst (Match r.gathered.kept) (sym (indices_still r.wanted c cs refl)) heard.0.kept;
      },
      heard.1,
    )

-- the head was read
read_heard : (r : Recovery) (cs : Calls) (v : Option (List ℕ)) (h : Head) → head_in v ≡ Some h → IsSilent (at r Getting) cs → Fits (recovery_ask (at r Getting)) (call.Got v)
    → IsHeard (behind (at r Getting) h) ((recovery_ask (at r Getting), call.Got v) ∷ cs)
read_heard r cs v h e silent fits =
    let c : Ask × Answer = (recovery_ask (at r Getting), call.Got v) in
    let more : IsSilent (at r Getting) (c ∷ cs) = silent_more (at r Getting) c cs silent refl (λ w. refl) in
    let wants : wanted_after c.0 (call.Got v) (wanted_by cs) ≡ wanted_of h = get_tells (at r Getting) r.lease (object.Head r.client) v (wanted_by cs) fits ∙ ap wanted_in e in
    let none : Match nothing_gathered.kept [] = record { same = λ n. refl; many = refl } in
    record {
      seen = ap (λ (g : Gathered). g.seen) more.gathered ∙ sym more.ids;
      wanted = sym wants;
      kept =
          subst (λ (g : Gathered). Match g.kept (known_indices (wanted_of h) (c ∷ cs))) (sym more.gathered)
          (subst (Match []) (sym (more.indices (wanted_of h))) none);
    }

reads_heard : {r : Recovery} {a : Answer} (cs : Calls) (h : Head) → HeardAt r.stage cs r → Fits (recovery_ask r) a → Reads r a h
    → IsHeard (behind r h) ((recovery_ask r, a) ∷ cs)
reads_heard cs h silent fits (step.spelled r bytes k e other) =
    read_heard r cs (Some bytes) h e silent fits
reads_heard cs h silent fits (step.absent r opening) = read_heard r cs None h refl silent fits

heard_after : {r : Recovery} {a : Answer} {next : Step} (cs : Calls) → HeardAt r.stage cs r → AscendAt r.stage r → Fits (recovery_ask r) a → Comes r a next
    → NextHeard ((recovery_ask r, a) ∷ cs) next
heard_after cs silent up fits (step.gives_old r a) =
    let plain : IsNoReceive (recovery_ask (at r ReleasingOld)) = under_receives (at r ReleasingOld) r.former Release (λ l. tt) in
    let more : IsSilent (at r ReleasingOld) ((recovery_ask (at r ReleasingOld), a) ∷ cs) =
    silent_more (at r ReleasingOld) (recovery_ask (at r ReleasingOld), a) cs silent (brings_no_ids _ a plain fits) (λ w. indices_fit w _ a plain fits) in
    record { gathered = more.gathered; ids = more.ids; indices = more.indices }
heard_after cs silent up fits (step.takes r l) =
    let more : IsSilent (at r Taking) ((recovery_ask (at r Taking), call.Given l) ∷ cs) = silent_more (at r Taking) (recovery_ask (at r Taking), call.Given l) cs silent refl (λ w. refl) in
    record { gathered = more.gathered; ids = more.ids; indices = more.indices }
heard_after cs heard up fits (step.refused r a t e) = tt
heard_after cs heard up fits (step.stops q t f) = tt
heard_after cs heard up fits (step.finds_none r e) = tt
heard_after cs heard up fits (step.reads_settled h reads e) = tt
heard_after cs heard up fits (step.reads_open h count reads e) =
    let is = reads_heard cs h heard fits reads in
    record { seen = is.seen; wanted = is.wanted; kept = is.kept }
heard_after cs heard up fits (step.deletes q id ids loses) =
    let is = loses_heard cs q (id ∷ ids) heard up loses in (record { seen = is.0.seen; wanted = is.0.wanted; kept = is.0.kept }, is.1)
heard_after cs heard up fits (step.receives q loses other new) =
    let is = loses_heard cs q [] heard up loses in record { seen = is.0.seen; wanted = is.0.wanted; kept = is.0.kept }
heard_after cs heard up fits (step.sends q place x ready e) = tt
heard_after cs heard up fits (step.puts q place ready e) = tt
heard_after cs heard up fits (step.clears q id ids c) = tt
heard_after cs heard up fits (step.sweeps q c) = tt
heard_after cs heard up fits (step.clears_past r ms items id ids e are) = tt
heard_after cs heard up fits (step.opens r ms items e none is) = tt
heard_after cs heard up fits (step.closes r ms items e none is) = tt
heard_after cs heard up fits (step.ends r a answer e) = tt
heard_after cs heard up fits (step.stopped r a t e) = tt
heard_after cs heard up fits (step.astray r a e) = tt
heard_after cs heard up fits (step.nothing r a) = tt

-- ---- histories

known_ascend : (st : Stage) (old : Option Claim) (cs : Calls) (r : Recovery) → KnowsAt st old cs r → AscendAt st r
known_ascend ReleasingOld old cs r k = tt
known_ascend Taking old cs r k = tt
known_ascend Getting old cs r k = tt
known_ascend Receiving old cs r k = k.known.rising
known_ascend Deleting old cs r k = k.so_far.known.rising
known_ascend Sending old cs r k = tt
known_ascend Putting old cs r k = tt
known_ascend Clearing old cs r k = tt
known_ascend Sweeping old cs r k = tt
known_ascend Releasing old cs r k = tt
known_ascend Finished old cs r k = tt

pub went_ascend : (client : ℕ) (aim : Aim) (old : Option Claim) (h : List Deed) (r : Recovery) → Went client aim old h r → AscendAt r.stage r
went_ascend client aim old h r went = known_ascend r.stage old (calls_of h) r (came_known client aim old h r went).at

start_heard : (client : ℕ) (aim : Aim) (old : Option Claim) → HeardAt (new_recovery client aim old).stage [] (new_recovery client aim old)
start_heard client aim None = record { gathered = refl; ids = refl; indices = λ w. refl }
start_heard client aim (Some l) = record { gathered = refl; ids = refl; indices = λ w. refl }

pub went_heard : (client : ℕ) (aim : Aim) (old : Option Claim) (h : List Deed) (r : Recovery) → Went client aim old h r → HeardAt r.stage (calls_of h) r
went_heard client aim old [] r is = subst (λ (m : Recovery). HeardAt m.stage [] m) (sym is) (start_heard client aim old)
went_heard client aim old (d ∷ h) r (from, came, asks, made, leads, follows) =
    let fits : Fits (recovery_ask from) d.answer = subst (λ (q : Ask). Fits q d.answer) asks made.fits in
    subst (λ (q : Ask). HeardAt r.stage ((q, d.answer) ∷ calls_of h) r) (sym asks)
    (heard_after (calls_of h) (went_heard client aim old h from came) (went_ascend client aim old h from came) fits (comes_to from d.answer (Goes r) leads))
