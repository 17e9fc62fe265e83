-- What a settling's recovery leaves where nobody else acts: no message of its client, and no open head.
use Rattle.std.proofs.Common.{◌≡◌, ℕ, List, [], ◌∷◌, Option, Some, None, Result, Ok, Err, refl, sym, ap, subst, ◌∙◌}
use Rattle.std.specs.List.{AllByRecursion}
use Rattle.cloud_trait.specs.Calm.{IsCalm, AreCalm, AreAlone}
use Rattle.cloud_trait.specs.Plenty.{HadMemory}
use Rattle.cloud_facts.proofs.Calls.Calls.{put_lasts}
use Rattle.cloud_facts.proofs.Calls.Heads.{head_at, newest_head}
use Rattle.cloud_facts.specs.Words.{Trouble, ObjName, Entry, Head, Answer, Ended, Version, CloudState, called, newest, Claim, Lasts, Ask, GetHeld, PutHeld, Release, Goes, Ends, Stops, Deed, calls_of, got_of, Book, Store, store_of}
use Rattle.cloud_facts.specs.Calls.Acting.{IsPruned}
use Rattle.cloud_facts.specs.Homes.Homes.{Part}
use Rattle.cloud_trait.specs.declared.answer.Answer.TheVariants.{Got, Done}
use Rattle.cloud_trait.specs.declared.message.Message.{Message}
use Rattle.cloud_trait.specs.Ask.{PutsNothing}
use Rattle.cloud_trait.specs.Delivery.{unmarked}
use Rattle.cloud_trait.specs.Machine.{IsMade}
use Rattle.cloud_trait.specs.State.{newest_of}
use Rattle.cloud_trait.specs.Weather.{counted, Weather}
use Rattle.cloud_trait.proofs.RowLemmas.{row_versions}
use Rattle.db_base.specs.declared.names.ObjName.TheVariants as object
use Rattle.db_base.specs.declared.names.QueueName.TheVariants as queue
use Rattle.head_codec.specs.declared.head.Phase.TheVariants.{Settled}
use Rattle.recover_run.specs.declared.stage.Aim.TheVariants.{Settling}
use Rattle.recover_run.specs.declared.stage.RecoverAnswer.{RecoverAnswer}
use Rattle.recover_run.specs.declared.stage.RecoverAnswer.TheVariants.{Opened, Nothing}
use Rattle.recover_run.specs.declared.stage.Stage.{Stage}
use Rattle.recover_run.specs.declared.stage.Stage.TheVariants.{Getting, Putting, Clearing, Sweeping, Releasing}
use Rattle.recover_run.specs.Calls.{head_in}
use Rattle.recover_run.specs.Emptying.{IsBeginning, HadMemory as HadMemoryOf, HasNoLater}
use Rattle.recover_run.specs.Meaning.{IsOpened, IsNothing}
use Rattle.recover_run.specs.Recovery.{Recovery, Step, recovery_ask, recovery_next, ask_at, take_lease, under, delete_next}
use Rattle.recover_run.proofs.Outcomes.{Clears, Comes, comes_to}
use Rattle.recover_run.proofs.Outcomes as step
use Rattle.recover_run.specs.Leases.{Went}
use Rattle.recover_run.proofs.CalmCalls.{Moves, Shrunk, move_shrinks, shrunk_all, unmarked_since}
use Rattle.recover_run.proofs.Emptying.{came_empties}
use Rattle.recover_run.proofs.Meaning.{Knows, came_known, came_means}
use Rattle.session_facts.specs.Machines.Openings.Knows.{KnowsPut, KnowsOpening}
use Rattle.session_facts.proofs.Settling.Recoveries.Calls.{LeadsOver, deed_row, calls_read, opened_reads, nothing_reads}

-- ---- no message is left

pub nothing_left : (ms : List Message) → AllByRecursion (λ (m : Message). ⊥) ms → ms ≡ []
nothing_left [] all = refl
nothing_left (m ∷ ms) all = absurd all.0

memory_of : (h : List Deed) → HadMemory h → HadMemoryOf h
memory_of [] memory = tt
memory_of (d ∷ h) memory = (memory.0, memory_of h memory.1)

-- the same of the newest call, by what it asked
abbrev AlikeAt : Deed → List Deed → CloudState → Ask → Type 0
AlikeAt d h first ask = AreCalm (record d { ask = ask } ∷ h) × AreAlone (record d { ask = ask } ∷ h) × IsBeginning (record d { ask = ask } ∷ h) first

-- where all went well: at the beginning no record may be of a later epoch than the head, and where there is none no message may be left
pub leaves_none : (client : ℕ) (first last : CloudState) (h : List Deed) (d : Deed) (r new : Recovery) (answer : RecoverAnswer) → Went client Settling None h r → d.ask ≡ recovery_ask r
    → recovery_next r d.answer ≡ Ends new answer → LeadsOver first (d ∷ h) last → HadMemory h → AreCalm (d ∷ h) → AreAlone (d ∷ h) → IsBeginning (d ∷ h) first
    → ((head : Head) → head_in (newest first (object.Head client)) ≡ Some head → HasNoLater head.epoch (first.messages (queue.Atomic client)))
    → (newest first (object.Head client) ≡ None → unmarked (first.messages (queue.Atomic client)) ≡ [])
    → unmarked (last.messages (queue.Atomic client)) ≡ []
leaves_none client first last h d r new (Opened epoch) went asks ends told memory calm alone begins upto none =
    came_empties d.who d.before d.after r new d.answer (Ended (Opened epoch)) (subst (λ ask. IsMade (record d { ask = ask })) asks told.2) ends client Settling None h went (memory_of h memory)
    same.0 same.1 first same.2 opens.reading.head.epoch opens.epoch_is (upto opens.reading.head (sym (ap head_in read) ∙ opens.reading.reads)) last told.4
  where
    opens : IsOpened client Settling None ((recovery_ask r, d.answer) ∷ calls_of h) new epoch
    opens = came_means r new d.answer (Ended (Opened epoch)) ends client Settling None h went

    read : opens.reading.bytes ≡ newest first (object.Head client)
    read = opened_reads client (newest first (object.Head client)) ((recovery_ask r, d.answer) ∷ calls_of h) new epoch opens (calls_read client first h d r last went asks told)

    same : AlikeAt d h first (recovery_ask r)
    same = subst (AlikeAt d h first) asks (calm, alone, begins)
leaves_none client first last h d r new Nothing went asks ends told memory calm alone begins upto none =
    nothing_left (unmarked (last.messages (queue.Atomic client)))
    (shrunk_all (λ (m : Message). ⊥) (c.before.messages (queue.Atomic client)) (last.messages (queue.Atomic client)) shrunk
    (unmarked_since (λ (m : Message). ⊥) client Settling None first (subst (AllByRecursion (λ (m : Message). ⊥)) (sym (none absent)) tt) h d r went calm.1 alone begins c.before c.told))
  where
    is : IsNothing client Settling None ((recovery_ask r, d.answer) ∷ calls_of h)
    is = came_means r new d.answer (Ended Nothing) ends client Settling None h went

    absent : newest first (object.Head client) ≡ None
    absent =
        sym (nothing_reads client (newest first (object.Head client)) ((recovery_ask r, d.answer) ∷ calls_of h) is (calls_read client first h d r last went asks told)) ∙ is.none

    c : IsCalm d
    c = calm.0

    moves : Moves r d c.before last
    moves = record { asks = asks; made = told.2; calm = c; before = c.told; after = told.4 }

    k : Knows client Settling None (calls_of h) r
    k = came_known client Settling None h r went

    shrunk : Shrunk (c.before.messages (queue.Atomic client)) (last.messages (queue.Atomic client))
    shrunk = subst (λ n. Shrunk (c.before.messages (queue.Atomic n)) (last.messages (queue.Atomic n))) k.client_is (move_shrinks r d c.before last moves)

-- ---- no head is open

-- the newest head of a client is settled, or there is none
abbrev pub IsSettled : ℕ → CloudState → Type 0
IsSettled client s = (head_at (newest s (object.Head client))).phase ≡ Settled

-- behind the put, and where there is nothing to do
abbrev EndsSettled : Option (Result RecoverAnswer Trouble) → Type 0 → Type 0
EndsSettled (Some (Ok a)) P = P
EndsSettled (Some (Err t)) P = Unit {0}
EndsSettled None P = Unit {0}

abbrev pub SettledAt : Stage → Option (Result RecoverAnswer Trouble) → Type 0 → Type 0
SettledAt Clearing ending P = P
SettledAt Sweeping ending P = P
SettledAt Releasing ending P = EndsSettled ending P
SettledAt stage ending P = Unit {0}

abbrev EndsIn : Step → Type 0 → Type 0
EndsIn (Goes n) P = Unit {0}
EndsIn (Ends n a) P = P
EndsIn (Stops n t) P = Unit {0}

abbrev SettledNext : Type 0 → Step → Type 0
SettledNext P (Goes n) = SettledAt n.stage n.ending P
SettledNext P (Ends n a) = P
SettledNext P (Stops n t) = Unit {0}

module _ (P : Type 0) (st : Store) (now : ℕ) (part : Part) where
  abbrev KnowsOn : Step → Type 0
  KnowsOn (Goes n) = KnowsOpening st now n part
  KnowsOn (Ends n a) = Unit {0}
  KnowsOn (Stops n t) = Unit {0}

  -- a put that landed leaves it so, and deletions behind it do
  clears_settled : {r q : Recovery} {a : Answer} {ids : List ℕ} → Clears r a q ids → SettledAt r.stage r.ending P → KnowsPut st now q part
      → (r.stage ≡ Putting → a ≡ Done → KnowsPut st now r part → P) → P
  clears_settled (step.head_put r) p k put = put refl refl k
  clears_settled (step.one_tried r a) p k put = p

  -- where a step of a settling's recovery leads
  next_settled : {r : Recovery} {a : Answer} {next : Step} → Comes r a next → SettledAt r.stage r.ending P → KnowsOn next → (r.stage ≡ Getting → got_of a ≡ Ok None → P)
      → (r.stage ≡ Putting → a ≡ Done → KnowsPut st now r part → P) → SettledNext P next
  next_settled (step.finds_none r settles) p k none put = none refl refl
  next_settled (step.clears q id ids c) p k none put = clears_settled c p k.at.0 put
  next_settled (step.sweeps q c) p k none put = clears_settled c p k.at put
  next_settled (step.clears_past r ms items id ids e are) p k none put = p
  next_settled (step.opens r ms items e past is) p k none put = p
  next_settled (step.closes r ms items e past is) p k none put = p
  next_settled (step.ends r a answer e) p k none put = subst (λ (o : Option (Result RecoverAnswer Trouble)). EndsSettled o P) e p
  next_settled c p k none put = tt

-- ---- each call

puts_release : (r : Recovery) (o : Option Claim) → PutsNothing (under r o Release)
puts_release r (Some l) = tt
puts_release r None = tt

puts_delete : (r : Recovery) (ids : List ℕ) → PutsNothing (delete_next r ids)
puts_delete r [] = tt
puts_delete r (id ∷ ids) = tt

module _ (client : ℕ) (d : Deed) (r : Recovery) (b t : CloudState) (asks : d.ask ≡ recovery_ask r) (made : IsMade d) (before : d.before.state ≡ Some b) (after : d.after.state ≡ Some t)
    (own : r.client ≡ client) where
  abbrev name : ObjName
  name = object.Head client

  abbrev Row : Ask → Answer → Type 0
  Row ask a = Weather d.who ask a (counted d.before.counts (called d.who t.now b)) (counted d.after.counts t)

  row_at : (ask : Ask) (a : Answer) → recovery_ask r ≡ ask → d.answer ≡ a → Row ask a
  row_at ask a e f = subst (Row ask) f (subst (λ x. Row x d.answer) (asks ∙ e) (deed_row d b t made before after))

  -- a call that puts nothing leaves the head
  head_stays : (ask : Ask) → recovery_ask r ≡ ask → PutsNothing ask → newest t name ≡ newest b name
  head_stays ask e puts =
      ap (λ (f : ObjName → List Version). newest_of (f name)) (row_versions d.who ask d.answer d.before.counts d.after.counts (called d.who t.now b) t (row_at ask d.answer e refl) puts)

  settled_stays : (ask : Ask) → recovery_ask r ≡ ask → PutsNothing ask → IsSettled client b → IsSettled client t
  settled_stays ask e puts p = subst (λ (v : Option (List ℕ)). (head_at v).phase ≡ Settled) (sym (head_stays ask e puts)) p

  asks_at : (stage : Stage) → r.stage ≡ stage → recovery_ask r ≡ ask_at stage r
  asks_at stage e = ap (λ (g : Stage). ask_at g r) e

  stage_stays : (stage : Stage) → r.stage ≡ stage → SettledAt stage r.ending (IsSettled client b) → SettledAt stage r.ending (IsSettled client t)
  stage_stays Clearing e p = settled_stays (ask_at Clearing r) (asks_at Clearing e) (puts_delete r r.ids) p
  stage_stays Sweeping e p = settled_stays (ask_at Sweeping r) (asks_at Sweeping e) tt p
  stage_stays Releasing e p = on r.ending p
    where
      on : (ending : Option (Result RecoverAnswer Trouble)) → EndsSettled ending (IsSettled client b) → EndsSettled ending (IsSettled client t)
      on (Some (Ok a)) q = settled_stays (ask_at Releasing r) (asks_at Releasing e) (puts_release r r.lease) q
      on (Some (Err x)) q = tt
      on None q = tt
  stage_stays stage e p = tt

  -- an absent head
  none_settled : r.stage ≡ Getting → got_of d.answer ≡ Ok None → IsSettled client t
  none_settled e got = on r.lease (asks_at Getting e) d.answer refl got
    where
      absent : (l : Claim) (v : Option (List ℕ)) → recovery_ask r ≡ GetHeld (object.Head r.client) l → Row (GetHeld (object.Head r.client) l) (Got v) → v ≡ None → newest t name ≡ None
      absent l v asked row none = head_stays (GetHeld (object.Head r.client) l) asked tt ∙ (ap (λ k. newest b (object.Head k)) (sym own) ∙ (sym row.2 ∙ none))

      on : (o : Option Claim) → recovery_ask r ≡ under r o (λ l. GetHeld (object.Head r.client) l) → (a : Answer) → d.answer ≡ a → got_of a ≡ Ok None → IsSettled client t
      on (Some l) asked (Got v) f g =
          let none : v ≡ None = cc in
          subst (λ (w : Option (List ℕ)). (head_at w).phase ≡ Settled) (sym (absent l v asked (row_at (GetHeld (object.Head r.client) l) (Got v) asked f) none)) refl
      on None asked (Got v) f g = absurd (row_at (take_lease r) (Got v) asked f)
      on o asked a f g = absurd (cc)

  -- a head that landed
  put_settled : (book : Book) (order : List Entry) (part : Part) → r.stage ≡ Putting → d.answer ≡ Done → KnowsPut (store_of book order t) t.now r part → IsSettled client t
  put_settled book order part e done p = subst (λ c. IsSettled c t) own phase
    where
      asked : recovery_ask r ≡ PutHeld (object.Head r.client) r.out p.held.now None
      asked = asks_at Putting e ∙ ap (λ (o : Option Claim). under r o (λ l. PutHeld (object.Head r.client) r.out l None)) p.held.is

      lasts : Lasts t.now p.held.now
      lasts = put_lasts d.who (object.Head r.client) r.out p.held.now None (called d.who t.now b) t (row_at (PutHeld (object.Head r.client) r.out p.held.now None) Done asked done)

      pruned : IsPruned (store_of book order t).tally r.client ((store_of book order t).tally.head r.client) r.head
      pruned = p.home.at.newest lasts

      phase : IsSettled r.client t
      phase = ap (λ (h : Head). h.phase) (sym (newest_head (t.versions (object.Head r.client)))) ∙ (sym pruned.phase ∙ p.home.at.settled)

  -- what a step leaves, and the last one
  pub step_settles : (book : Book) (order : List Entry) (part : Part) (n : Recovery) → recovery_next r d.answer ≡ Goes n → r.aim ≡ Settling
      → SettledAt r.stage r.ending (IsSettled client b) → KnowsOpening (store_of book order t) t.now n part → SettledAt n.stage n.ending (IsSettled client t)
  step_settles book order part n goes settles p k =
      next_settled (IsSettled client t) (store_of book order t) t.now part (comes_to r d.answer (Goes n) goes) (stage_stays r.stage refl p) k none_settled (put_settled book order part)

  ended : {m : Recovery} {a : Answer} {next : Step} → Comes m a next → SettledAt m.stage m.ending (IsSettled client t) → EndsIn next (IsSettled client t)
  ended (step.opens m ms items e past is) p = p
  ended (step.ends m a answer e) p = subst (λ (o : Option (Result RecoverAnswer Trouble)). EndsSettled o (IsSettled client t)) e p
  ended c p = tt

  pub end_settles : (n : Recovery) (a : RecoverAnswer) → recovery_next r d.answer ≡ Ends n a → r.aim ≡ Settling → SettledAt r.stage r.ending (IsSettled client b) → IsSettled client t
  end_settles n a ends settles p = ended (comes_to r d.answer (Ends n a) ends) (stage_stays r.stage refl p)
