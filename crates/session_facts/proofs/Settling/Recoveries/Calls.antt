-- The calls of a settling's recovery where nobody else acts: what its held get read, which messages it received, and so how many they are and
-- that none is left.
use Rattle.std.proofs.Common.{◌≡◌, ◌+◌, ◌*◌, ◌≤◌, ◌==◌, ◌||◌, ℕ, Bool, true, false, cond, List, [], ◌∷◌, ◌++◌, append-nil, append_assoc, length, map, Option, Some, None, refl, sym, ap, subst, ◌∙◌, arith}
use Rattle.std.specs.Prelude.{nat_eq, slice_get}
use Rattle.std.specs.List.{AllByRecursion, IsDistinct, list_any}
use Rattle.std.proofs.lemmas.Bool.Decides.{nat_tests}
use Rattle.std.proofs.lemmas.Cmp.{nat_eq_equiv}
use Rattle.std.proofs.lemmas.List.{length-map}
use Rattle.std.proofs.lemmas.Map.Keys.{IsDistinct-push}
use Rattle.std.proofs.lemmas.Map.Made.{length-le_from_is_member}
use Rattle.cloud_trait.specs.Calm.{IsCalm, AreCalm, AreAlone}
use Rattle.cloud_trait.proofs.CalmLemmas.{delivers}
use Rattle.cloud_facts.specs.Words.{ObjName, Answer, Version, CloudState, called, newest, Claim, Ask, Get, GetHeld, PutHeld, Send, Receive, Delete, Take, Renew, Release, Deed, calls_of}
use Rattle.cloud_trait.specs.declared.answer.Answer.TheVariants.{Got, Sent, Received, Listed, Done, Given, Held, Renewed, Late, Failed, Memory}
use Rattle.cloud_trait.specs.declared.message.Message.{Message}
use Rattle.cloud_trait.specs.Ask.{ListHeld, RemoveHeld}
use Rattle.cloud_trait.specs.Delivery.{unmarked}
use Rattle.cloud_trait.specs.Machine.{IsMade}
use Rattle.cloud_trait.specs.State.{newest_of}
use Rattle.cloud_trait.specs.Weather.{counted as counted_state, Weather, Leaves, Fits}
use Rattle.cloud_trait.proofs.RowLemmas.{row_versions}
use Rattle.db_base.specs.declared.names.Lock.TheVariants as lock
use Rattle.db_base.specs.declared.names.ObjName.TheVariants as object
use Rattle.db_base.specs.declared.names.QueueName.TheVariants as queue
use Rattle.head_codec.proofs.Keeping.{AllByRecursion-append}
use Rattle.recover_run.specs.declared.items.AtomicItem.{AtomicItem}
use Rattle.recover_run.specs.declared.stage.Aim.TheVariants.{Settling}
use Rattle.recover_run.specs.declared.stage.Stage.{Stage}
use Rattle.recover_run.specs.declared.stage.Stage.TheVariants.{ReleasingOld, Taking, Getting, Receiving, Deleting, Sending, Putting, Clearing, Sweeping, Releasing, Finished}
use Rattle.recover_run.specs.Calls.{Calls, head_in, Reading}
use Rattle.recover_run.specs.Causes.{ids_in, known_ids}
use Rattle.recover_run.specs.Emptying.{IsBeginning}
use Rattle.recover_run.specs.Ids.{has_id, new_ids}
use Rattle.recover_run.specs.Meaning.{IsOpened, IsNothing}
use Rattle.recover_run.specs.Recovery.{Recovery, recovery_ask, ask_at, under, delete_next, send_next}
use Rattle.recover_run.specs.Leases.{Went, Names}
use Rattle.recover_run.specs.Within.{counted, counted_after, count_in}
use Rattle.recover_run.proofs.CalmCalls.{unmarked_since}
use Rattle.recover_run.proofs.KeptRecords.{all_new}
use Rattle.recover_run.proofs.Knows.{KnowsAt, KnowsTaken}
use Rattle.recover_run.proofs.Marks.{brought_all}
use Rattle.recover_run.proofs.Meaning.{Knows, came_known}
use Rattle.recover_run.proofs.Leases.{stands_names}
use Rattle.recover_run.proofs.Sweeping.{all_has, each_has}
use Rattle.recover_run.proofs.Within.{went_few}
use Rattle.std.proofs.lemmas.Option.{same_Some}

-- ---- states that follow one another

-- a history of calls leads from one state to another, the newest first, each call from the state that the one before it left
abbrev pub LeadsOver : CloudState → List Deed → CloudState → Type 0
LeadsOver first [] now = now ≡ first
LeadsOver first (d ∷ h) now = (b : CloudState) × LeadsOver first h b × IsMade d × (d.before.state ≡ Some b) × (d.after.state ≡ Some now)

-- the row of a call
pub deed_row : (d : Deed) (b t : CloudState) → IsMade d → d.before.state ≡ Some b → d.after.state ≡ Some t → Weather d.who d.ask d.answer (counted_state d.before.counts (called d.who t.now b)) (counted_state d.after.counts t)
deed_row d b t made before after = on (made.state b before)
  where
    on : Leaves d.who d.ask d.answer (counted_state d.before.counts b) d.after.counts d.after.state → Weather d.who d.ask d.answer (counted_state d.before.counts (called d.who t.now b)) (counted_state d.after.counts t)
    on l =
        subst (λ (u : CloudState). Weather d.who d.ask d.answer (counted_state d.before.counts (called d.who u.now b)) (counted_state d.after.counts u)) (same_Some l.after t (sym l.told ∙ after)) l.row

-- ---- what the held get read

-- a held get of the calls read these bytes
abbrev pub ReadsAs : Option (List ℕ) → Ask × Answer → Type 0
ReadsAs first c = (name : ObjName) (l : Claim) (v : Option (List ℕ)) → c.0 ≡ GetHeld name l → c.1 ≡ Got v → v ≡ first

-- the head is read at one stage alone
asks_get : (stage : Stage) (r : Recovery) (name : ObjName) (l : Claim) → ask_at stage r ≡ GetHeld name l → stage ≡ Getting
asks_get Getting r name l e = refl
asks_get ReleasingOld r name l e = absurd (on r.former e)
  where
    on : (o : Option Claim) → under r o Release ≡ GetHeld name l → ⊥
    on (Some x) f = cc
    on None f = cc
asks_get Taking r name l e = absurd (cc)
asks_get Receiving r name l e = absurd (cc)
asks_get Deleting r name l e = absurd (on r.ids e)
  where
    on : (ids : List ℕ) → delete_next r ids ≡ GetHeld name l → ⊥
    on [] f = cc
    on (id ∷ ids) f = cc
asks_get Sending r name l e = absurd (on (slice_get r.gathered.kept r.sent) e)
  where
    on : (o : Option AtomicItem) → send_next r o ≡ GetHeld name l → ⊥
    on (Some x) f = cc
    on None f = cc
asks_get Putting r name l e = absurd (on r.lease e)
  where
    on : (o : Option Claim) → under r o (λ x. PutHeld (object.Head r.client) r.out x None) ≡ GetHeld name l → ⊥
    on (Some x) f = cc
    on None f = cc
asks_get Clearing r name l e = absurd (on r.ids e)
  where
    on : (ids : List ℕ) → delete_next r ids ≡ GetHeld name l → ⊥
    on [] f = cc
    on (id ∷ ids) f = cc
asks_get Sweeping r name l e = absurd (cc)
asks_get Releasing r name l e = absurd (on r.lease e)
  where
    on : (o : Option Claim) → under r o Release ≡ GetHeld name l → ⊥
    on (Some x) f = cc
    on None f = cc
asks_get Finished r name l e = absurd (cc)

module _ (client : ℕ) (first : CloudState) where
  abbrev name : ObjName
  name = object.Head client

  -- the take before it left the head
  taken_same : (h : List Deed) (b : CloudState) (k : ℕ) (l : Claim) → calls_of h ≡ (Take (lock.Client k) 600, Given l) ∷ [] → LeadsOver first h b → newest b name ≡ newest first name
  taken_same [] b k l are told = absurd (cc)
  taken_same (d ∷ []) b k l are (a, same, made, before, after) =
      let one : d.ask ≡ Take (lock.Client k) 600 = ap first_ask are in
      let row = deed_row d a b made before after in
      let taken = subst (λ ask. Weather d.who ask d.answer (counted_state d.before.counts (called d.who b.now a)) (counted_state d.after.counts b)) one row in
      ap (λ (f : ObjName → List Version). newest_of (f name)) (row_versions d.who (Take (lock.Client k) 600) d.answer d.before.counts d.after.counts (called d.who b.now a) b taken tt)
      ∙ ap (λ (s : CloudState). newest s name) same
    where
      first_ask : Calls → Ask
      first_ask [] = d.ask
      first_ask (c ∷ cs) = c.0
  taken_same (d ∷ e ∷ h) b k l are told = absurd (more (ap length are))
    where
      more : length (calls_of (d ∷ e ∷ h)) ≡ 1 → ⊥
      more n = omega (arith, n)

  -- so it read the bytes of the beginning
  get_reads : (h : List Deed) (d : Deed) (r : Recovery) (b t : CloudState) → Went client Settling None h r → d.ask ≡ recovery_ask r → LeadsOver first h b → IsMade d
      → d.before.state ≡ Some b → d.after.state ≡ Some t → ReadsAs (newest first name) (d.ask, d.answer)
  get_reads h d r b t went asks told made before after = λ n l v e f. reads n l v e f
    where
      k : Knows client Settling None (calls_of h) r
      k = came_known client Settling None h r went

      taken : r.stage ≡ Getting → newest b name ≡ newest first name
      taken at = on (subst (λ s. KnowsAt s None (calls_of h) r) at k.at)
        where
          on : KnowsTaken None (calls_of h) r → newest b name ≡ newest first name
          on g = taken_same h b r.client g.lease (g.calls ∙ ap (λ (cs : Calls). (Take (lock.Client r.client) 600, Given g.lease) ∷ cs) g.started) told

      named : (n : ObjName) (l : Claim) → r.stage ≡ Getting → recovery_ask r ≡ GetHeld n l → n ≡ name
      named n l at e = on r.lease (subst (λ s. ask_at s r ≡ GetHeld n l) at e)
        where
          on : (o : Option Claim) → under r o (λ x. GetHeld (object.Head r.client) x) ≡ GetHeld n l → n ≡ name
          on (Some x) g = let same : object.Head r.client ≡ n = cc in sym same ∙ ap object.Head k.client_is
          on None g = absurd (cc)

      reads : (n : ObjName) (l : Claim) (v : Option (List ℕ)) → d.ask ≡ GetHeld n l → d.answer ≡ Got v → v ≡ newest first name
      reads n l v e f =
          let at = asks_get r.stage r n l (sym asks ∙ e) in
          let row = subst (λ a. Weather d.who (GetHeld n l) a (counted_state d.before.counts (called d.who t.now b)) (counted_state d.after.counts t)) f
          (subst (λ ask. Weather d.who ask d.answer (counted_state d.before.counts (called d.who t.now b)) (counted_state d.after.counts t)) e (deed_row d b t made before after)) in
          row.2 ∙ (ap (newest b) (named n l at (sym asks ∙ e)) ∙ taken at)

  all_read : (h : List Deed) (r : Recovery) (now : CloudState) → Went client Settling None h r → LeadsOver first h now → AllByRecursion (ReadsAs (newest first name)) (calls_of h)
  all_read [] r now went told = tt
  all_read (d ∷ h) r now (from, went, asks, made, leads, follows) (b, told, made_again, before, after) =
      (get_reads h d from b now went asks told made before after, all_read h from b went told)

  -- the newest call too
  pub calls_read : (h : List Deed) (d : Deed) (r : Recovery) (t : CloudState) → Went client Settling None h r → d.ask ≡ recovery_ask r → LeadsOver first (d ∷ h) t
      → AllByRecursion (ReadsAs (newest first name)) ((recovery_ask r, d.answer) ∷ calls_of h)
  calls_read h d r t went asks (b, told, made, before, after) = (
    subst (λ ask. ReadsAs (newest first name) (ask, d.answer)) asks (get_reads h d r b t went asks told made before after),
    all_read h r b went told,
  )

  -- ---- which messages were received

  abbrev ids_first : List ℕ
  ids_first = map (λ (m : Message). m.id) (unmarked (first.messages (queue.Atomic client)))

  -- a message that was not deleted at the beginning has the id
  abbrev Had : ℕ → Type 0
  Had id = has_id ids_first id ≡ true

  had_first : AllByRecursion (λ (m : Message). Had m.id) (unmarked (first.messages (queue.Atomic client)))
  had_first = on (unmarked (first.messages (queue.Atomic client))) (each_has ids_first)
    where
      on : (ms : List Message) → AllByRecursion Had (map (λ (m : Message). m.id) ms) → AllByRecursion (λ (m : Message). Had m.id) ms
      on [] all = tt
      on (m ∷ ms) all = (all.0, on ms all.1)

  asks_receive : (h : List Deed) (ask : Ask) (ms : List Message) → Fits ask (Received ms) → Names client None h ask → ask ≡ Receive (queue.Atomic client) 256
  asks_receive h (Receive q most) ms fits named = ap (λ x. Receive x most) named.0 ∙ ap (λ n. Receive (queue.Atomic client) n) named.1
  asks_receive h (Get n) ms fits named = absurd fits
  asks_receive h (GetHeld n l) ms fits named = absurd fits
  asks_receive h (ListHeld tree l) ms fits named = absurd fits
  asks_receive h (RemoveHeld n l) ms fits named = absurd fits
  asks_receive h (PutHeld n bytes one two) ms fits named = absurd fits
  asks_receive h (Send q bytes) ms fits named = absurd fits
  asks_receive h (Delete q id) ms fits named = absurd fits
  asks_receive h (Take l ticks) ms fits named = absurd fits
  asks_receive h (Renew l ticks) ms fits named = absurd fits
  asks_receive h (Release l) ms fits named = absurd fits

  answer_had : (h : List Deed) (d : Deed) (r : Recovery) → Went client Settling None h r → d.ask ≡ recovery_ask r → IsMade d → AreCalm (d ∷ h) → AreAlone (d ∷ h)
      → IsBeginning (d ∷ h) first → AllByRecursion Had (ids_in d.answer)
  answer_had h d r went asks made calm alone begins = on d.answer refl
    where
      c : IsCalm d
      c = calm.0

      ids_had : (ms : List Message) → AllByRecursion (λ (m : Message). Had m.id) ms → AllByRecursion Had (map (λ (m : Message). m.id) ms)
      ids_had [] all = tt
      ids_had (m ∷ ms) all = (all.0, ids_had ms all.1)

      asked : (ms : List Message) → d.answer ≡ Received ms → d.ask ≡ Receive (queue.Atomic client) 256
      asked ms e =
          asks
          ∙ asks_receive h (recovery_ask r) ms (subst (λ ask. Fits ask (Received ms)) asks (subst (Fits d.ask) e made.fits)) (stands_names client Settling None h r went)

      received : (ms : List Message) → d.answer ≡ Received ms → AllByRecursion (λ (m : Message). Had m.id) ms
      received ms e =
          brought_all (λ (m : Message). Had m.id) (c.before.messages (queue.Atomic client)) 256 ms (delivers d (queue.Atomic client) 256 ms c.before made c (asked ms e) e c.told)
          (unmarked_since (λ (m : Message). Had m.id) client Settling None first had_first h d r went calm.1 alone begins c.before c.told)

      on : (a : Answer) → d.answer ≡ a → AllByRecursion Had (ids_in a)
      on (Received ms) e = ids_had ms (received ms e)
      on (Listed pages) e = tt
      on (Got v) e = tt
      on (Sent id) e = tt
      on Done e = tt
      on (Given l) e = tt
      on (Held until) e = tt
      on (Renewed end) e = tt
      on (Late end now) e = tt
      on Failed e = tt
      on Memory e = tt

  -- calls that are some begin there
  abbrev Begins : List Deed → Type 0
  Begins [] = Unit {0}
  Begins (d ∷ h) = IsBeginning (d ∷ h) first

  earlier_begin : (d : Deed) (h : List Deed) → IsBeginning (d ∷ h) first → Begins h
  earlier_begin d [] begins = tt
  earlier_begin d (e ∷ h) begins = begins

  known_had : (h : List Deed) (r : Recovery) → Went client Settling None h r → AreCalm h → AreAlone h → Begins h → AllByRecursion Had (known_ids (calls_of h))
  known_had [] r went calm alone begins = tt
  known_had (d ∷ h) r (from, went, asks, made, leads, follows) calm alone begins =
      AllByRecursion-append Had (known_ids (calls_of h)) (new_ids (known_ids (calls_of h)) (ids_in d.answer)) (known_had h from went calm.1 alone.1 (earlier_begin d h begins))
      (all_new Had (known_ids (calls_of h)) (ids_in d.answer) (answer_had h d from went asks made calm alone begins))

-- ---- how many they are

-- a held get that read such bytes counts the records of their head
counted_by : (m : ℕ) (ask : Ask) (a : Answer) (n : ℕ) → n ≤ m → ((name : ObjName) (l : Claim) (v : Option (List ℕ)) → ask ≡ GetHeld name l → a ≡ Got v → count_in (head_in v) ≤ m)
    → counted_after ask a n ≤ m
counted_by m (GetHeld name l) (Got v) n low f = f name l v refl refl
counted_by m ask a n low f = low

counted_first : (v : Option (List ℕ)) (cs : Calls) → AllByRecursion (ReadsAs v) cs → counted cs ≤ count_in (head_in v)
counted_first v [] all = omega arith
counted_first v (c ∷ cs) all =
    counted_by (count_in (head_in v)) c.0 c.1 (counted cs) (counted_first v cs all.1)
    (λ name l w e f. let same : w ≡ v = all.0 name l w e f in subst (λ x. count_in (head_in x) ≤ count_in (head_in v)) (sym same) (omega arith))

other_way : (a b : ℕ) → (a == b) ≡ (b == a)
other_way a b = grind (arith, nat_tests)

-- whether a set has an id, the test turned round
turned : (set : List ℕ) (id : ℕ) → list_any (nat_eq id) set ≡ has_id set id
turned [] id = refl
turned (x ∷ set) id = ap (λ b. b || list_any (nat_eq id) set) (other_way id x) ∙ ap (λ c. (x == id) || c) (turned set id)

distinct_new : (set ids : List ℕ) → IsDistinct nat_eq set → IsDistinct nat_eq (set ++ new_ids set ids)
distinct_new set [] apart = subst (IsDistinct nat_eq) (sym (append-nil set)) apart
distinct_new set (id ∷ ids) apart = on (has_id set id) refl (distinct_new set ids apart) (λ more. distinct_new (set ++ id ∷ []) ids more)
  where
    on : (b : Bool) → has_id set id ≡ b → IsDistinct nat_eq (set ++ new_ids set ids)
        → (IsDistinct nat_eq (set ++ id ∷ []) → IsDistinct nat_eq ((set ++ id ∷ []) ++ new_ids (set ++ id ∷ []) ids))
        → IsDistinct nat_eq (set ++ cond b (new_ids set ids) (id ∷ new_ids (set ++ id ∷ []) ids))
    on true e same more = same
    on false e same more =
        subst (IsDistinct nat_eq) (append_assoc set (id ∷ []) (new_ids (set ++ id ∷ []) ids)) (more (IsDistinct-push nat_eq_equiv set id apart (turned set id ∙ e)))

known_apart : (cs : Calls) → IsDistinct nat_eq (known_ids cs)
unfolding IsDistinct
known_apart [] = tt
known_apart (c ∷ cs) = distinct_new (known_ids cs) (ids_in c.1) (known_apart cs)

-- distinct ids of a set are at most as many
few_of : (set ids : List ℕ) → IsDistinct nat_eq ids → AllByRecursion (λ id. has_id set id ≡ true) ids → length ids ≤ length set
few_of set ids apart all =
    length-le_from_is_member nat_eq_equiv ids set apart (λ q e. turned set q ∙ all_has (λ id. has_id set id ≡ true) ids q all (sym (turned ids q) ∙ e))

-- where all went well, eight calls, four for each message that was left at the beginning, and one for each record that the head counted
pub few_calls : (client : ℕ) (first now : CloudState) (h : List Deed) (d : Deed) (r : Recovery) → Went client Settling None h r → LeadsOver first h now → AreCalm h → AreAlone h
    → IsBeginning (d ∷ h) first
    → length (d ∷ h) ≤ 8 + (4 * length (unmarked (first.messages (queue.Atomic client))) + count_in (head_in (newest first (object.Head client))))
few_calls client first now h d r went told calm alone begins =
    let few : length h + 1 ≤ 7 + 4 * length (known_ids (calls_of h)) + counted (calls_of h) = went_few client Settling None h r went in
    let ids : length (known_ids (calls_of h)) ≤ length (ids_first client first) =
    few_of (ids_first client first) (known_ids (calls_of h)) (known_apart (calls_of h)) (known_had client first h r went calm alone (earlier_begin client first d h begins)) in
    let records : counted (calls_of h) ≤ count_in (head_in (newest first (object.Head client))) =
    counted_first (newest first (object.Head client)) (calls_of h) (all_read client first h r now went told) in
    let same = length-map (unmarked (first.messages (queue.Atomic client))) (λ (m : Message). m.id) in
    omega (arith, few, ids, records, same)

-- ---- what it read of the head

all_behind : {X : Type 0} (P : X → Type 0) (xs ys : List X) → AllByRecursion P (xs ++ ys) → AllByRecursion P ys
all_behind P [] ys all = all
all_behind P (x ∷ xs) ys all = all_behind P xs ys all.1

front_reads : (client : ℕ) (old : Option Claim) (v : Option (List ℕ)) (front : Calls) → (g : Reading client old front) → AllByRecursion (ReadsAs v) front → g.bytes ≡ v
front_reads client old v front g all = (subst (AllByRecursion (ReadsAs v)) g.calls all).0 (object.Head client) g.lease g.bytes refl refl

pub opened_reads : (client : ℕ) (v : Option (List ℕ)) (calls : Calls) (left : Recovery) (epoch : ℕ) → (o : IsOpened client Settling None calls left epoch) → AllByRecursion (ReadsAs v) calls
    → o.reading.bytes ≡ v
opened_reads client v calls left epoch o all =
    let whole = subst (AllByRecursion (ReadsAs v)) o.are all in
    let swept = all_behind (ReadsAs v) o.closing _ whole in
    let put = all_behind (ReadsAs v) o.sweeps _ swept in
    let gathered = all_behind (ReadsAs v) o.sends _ put.1 in
    front_reads client None v o.front o.reading (all_behind (ReadsAs v) o.gathers o.front gathered)

pub nothing_reads : (client : ℕ) (v : Option (List ℕ)) (calls : Calls) → (o : IsNothing client Settling None calls) → AllByRecursion (ReadsAs v) calls → o.reading.bytes ≡ v
nothing_reads client v calls o all = front_reads client None v o.front o.reading (subst (AllByRecursion (ReadsAs v)) o.are all).1
