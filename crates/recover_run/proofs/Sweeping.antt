-- What a calm recovery knows of its queue behind the put: whatever it is to delete is marked, once it was.
use Rattle.std.proofs.Common.{◌≡◌, ◌≢◌, ◌≤◌, ◌⊎◌, ◌+◌, ◌++◌, ℕ, List, [], ◌∷◌, Bool, true, false, cond, ◌||◌, Option, Some, None, Result, Ok, Err, inl, inr, refl, sym, subst, arith}
use Rattle.std.specs.Prelude.{◌==◌}
use Rattle.std.specs.List.{AllByRecursion}
use Rattle.std.proofs.lemmas.Bool.Decides.{nat_tests}
use Rattle.db_base.specs.declared.trouble.Trouble.{Trouble}
use Rattle.head_codec.proofs.Keeping.{AllByRecursion-append}
use Rattle.log_codec.specs.declared.record.AtomicRec.{AtomicRec}
use Rattle.log_codec.specs.Atomic.{atomic_of}
use Rattle.cloud_trait.specs.declared.answer.Answer.{Answer}
use Rattle.cloud_trait.specs.declared.answer.Answer.TheVariants.{Received}
use Rattle.cloud_trait.specs.declared.message.Message.{Message}
use Rattle.cloud_trait.specs.declared.state.Posted.{Posted}
use Rattle.cloud_trait.specs.Delivery.{unmarked, IsDelivering}
use Rattle.cloud_trait.specs.Machine.{Goes, Ends, Stops}
use Rattle.recover_run.specs.declared.items.AtomicItem.{AtomicItem}
use Rattle.recover_run.specs.declared.wanted.Wanted.{Wanted}
use Rattle.recover_run.specs.declared.stage.Stage.{Stage}
use Rattle.recover_run.specs.declared.stage.Stage.TheVariants.{Clearing, Sweeping, Releasing}
use Rattle.recover_run.specs.declared.stage.RecoverAnswer.{RecoverAnswer}
use Rattle.recover_run.specs.declared.stage.RecoverAnswer.TheVariants.{Opened, Nothing}
use Rattle.recover_run.specs.Emptying.{HasNoLater, IsUptoEpoch}
use Rattle.recover_run.specs.Gathering.{is_past, past_ids}
use Rattle.recover_run.specs.Ids.{has_id, new_ids, rest_of}
use Rattle.recover_run.specs.Items.{items_of, item_with, with_first}
use Rattle.recover_run.specs.Recovery.{Recovery, Step, kept_ids}
use Rattle.recover_run.proofs.Outcomes.{Clears, Comes}
use Rattle.recover_run.proofs.Outcomes as step
use Rattle.recover_run.proofs.Marks.{IsGone, marked_all, marked_gone, none_gone, brought_all, brought_none}
use Rattle.cloud_trait.specs.State.{marked}

-- ---- ids

same_true : (a b : ℕ) → (a == b) ≡ true → a ≡ b
same_true a b e = grind (arith, nat_tests)

-- what holds of each id of a set holds of an id that it has
pub all_has : (P : ℕ → Type 0) (set : List ℕ) (id : ℕ) → AllByRecursion P set → has_id set id ≡ true → P id
all_has P [] id all e = absurd (cc)
all_has P (x ∷ set) id all e = on (x == id) refl e (λ f. all_has P set id all.1 f) where
  on : (b : Bool) → (x == id) ≡ b → (b || has_id set id) ≡ true → (has_id set id ≡ true → P id) → P id
  on true same e rest = subst P (same_true x id same) all.0
  on false other e rest = rest e

-- where none is new, the set has each
pub none_new : (set ids : List ℕ) → new_ids set ids ≡ [] → AllByRecursion (λ id. has_id set id ≡ true) ids
none_new set [] e = tt
none_new set (id ∷ ids) e = on (has_id set id) refl e (λ f. none_new set ids f) where
  on : (b : Bool) → has_id set id ≡ b → cond b (new_ids set ids) (id ∷ new_ids (set ++ id ∷ []) ids) ≡ []
      → (new_ids set ids ≡ [] → AllByRecursion (λ x. has_id set x ≡ true) ids) → AllByRecursion (λ x. has_id set x ≡ true) (id ∷ ids)
  on true has e rest = (has, rest e)
  on false has e rest = absurd (cc)

has_more : (x : ℕ) (ids : List ℕ) (id : ℕ) → has_id ids id ≡ true → has_id (x ∷ ids) id ≡ true
has_more x ids id e = on (x == id) where
  on : (b : Bool) → (b || has_id ids id) ≡ true
  on true = refl
  on false = e

pub each_has : (ids : List ℕ) → AllByRecursion (λ id. has_id ids id ≡ true) ids
each_has [] = tt
each_has (id ∷ ids) = (here, more ids (each_has ids)) where
  here : has_id (id ∷ ids) id ≡ true
  here = let same : (id == id) ≡ true = grind (arith, nat_tests) in rw same refl

  more : (xs : List ℕ) → AllByRecursion (λ x. has_id ids x ≡ true) xs → AllByRecursion (λ x. has_id (id ∷ ids) x ≡ true) xs
  more [] all = tt
  more (x ∷ xs) all = (has_more id ids x all.0, more xs all.1)

-- ---- what is known

-- an id is still to be deleted, or it was
abbrev pub IsHandled : List Posted → List ℕ → ℕ → Type 0
IsHandled ms ids id = (has_id ids id ≡ true) ⊎ IsGone ms id

-- where no record is of a later epoch, nothing is left
abbrev pub IsEmptied : List Posted → Wanted → Type 0
IsEmptied ms w = HasNoLater w.epoch ms → unmarked ms ≡ []

abbrev pub SweptEnding : List Posted → Wanted → Option (Result RecoverAnswer Trouble) → Type 0
SweptEnding ms w (Some (Ok (Opened epoch))) = (epoch ≡ w.epoch + 1) × IsEmptied ms w
SweptEnding ms w o = Unit {0}

abbrev pub SweptAt : Stage → List Posted → Recovery → Type 0
SweptAt Clearing ms r = AllByRecursion (IsHandled ms r.ids) r.swept
SweptAt Sweeping ms r = AllByRecursion (IsGone ms) r.swept
SweptAt Releasing ms r = SweptEnding ms r.wanted r.ending
SweptAt st ms r = Unit {0}

abbrev pub SweptEnds : List Posted → Wanted → RecoverAnswer → Type 0
SweptEnds ms w (Opened epoch) = (epoch ≡ w.epoch + 1) × IsEmptied ms w
SweptEnds ms w Nothing = Unit {0}

abbrev pub SweptNext : List Posted → Step → Type 0
SweptNext ms (Goes m) = SweptAt m.stage ms m
SweptNext ms (Ends m a) = SweptEnds ms m.wanted a
SweptNext ms (Stops m t) = Unit {0}

-- what a calm call behind the put did to the queue: a deletion marks, a receive delivers
abbrev pub Deletes : List ℕ → List Posted → List Posted → Type 0
Deletes [] ms ns = ⊥
Deletes (id ∷ ids) ms ns = ns ≡ marked ms id

abbrev pub Delivers : Answer → List Posted → Type 0
Delivers (Received answer) ms = IsDelivering ms 256 answer
Delivers a ms = Unit {0}

abbrev pub HeardAt : Stage → Recovery → Answer → List Posted → List Posted → Type 0
HeardAt Clearing r a ms ns = Deletes r.ids ms ns
HeardAt Sweeping r a ms ns = (ns ≡ ms) × Delivers a ms × (r.head.epoch ≡ r.wanted.epoch + 1)
HeardAt Releasing r a ms ns = ns ≡ ms
HeardAt st r a ms ns = Unit {0}

-- ---- deletions

-- with no id to be deleted each was
handled_none : (ms : List Posted) (xs : List ℕ) → AllByRecursion (IsHandled ms []) xs → AllByRecursion (IsGone ms) xs
handled_none ms [] all = tt
handled_none ms (x ∷ xs) all = (elim all.0 [ inl has ↦ absurd (cc) | inr gone ↦ gone ], handled_none ms xs all.1)

-- of the handled ids the deletion of the first leaves those behind it
pub deletes_first : (ms : List Posted) (id : ℕ) (ids swept : List ℕ) → AllByRecursion (IsHandled ms (id ∷ ids)) swept → AllByRecursion (IsHandled (marked ms id) ids) swept
deletes_first ms id ids [] all = tt
deletes_first ms id ids (x ∷ swept) all = (here all.0, deletes_first ms id ids swept all.1) where
  here : IsHandled ms (id ∷ ids) x → IsHandled (marked ms id) ids x
  here (inl has) = on (id == x) refl has where
    on : (b : Bool) → (id == x) ≡ b → (b || has_id ids x) ≡ true → IsHandled (marked ms id) ids x
    on true same e = inr (subst (IsGone (marked ms id)) (same_true id x same) (marked_gone ms id))
    on false other e = inl e
  here (inr gone) = inr (marked_all (λ (m : Message). m.id ≢ x) ms id gone)

first_gone : (ms ns : List Posted) (ids swept : List ℕ) → Deletes ids ms ns → AllByRecursion (IsHandled ms ids) swept → AllByRecursion (IsHandled ns (rest_of ids)) swept
first_gone ms ns [] swept e all = absurd e
first_gone ms ns (id ∷ ids) swept e all = subst (λ l. AllByRecursion (IsHandled l ids) swept) (sym e) (deletes_first ms id ids swept all)

pub handled_ids : (ms : List Posted) (ids xs : List ℕ) → AllByRecursion (λ id. has_id ids id ≡ true) xs → AllByRecursion (IsHandled ms ids) xs
handled_ids ms ids [] all = tt
handled_ids ms ids (x ∷ xs) all = (inl all.0, handled_ids ms ids xs all.1)

pub handled_gone : (ms : List Posted) (ids xs : List ℕ) → AllByRecursion (IsGone ms) xs → AllByRecursion (IsHandled ms ids) xs
handled_gone ms ids [] all = tt
handled_gone ms ids (x ∷ xs) all = (inr all.0, handled_gone ms ids xs all.1)

-- ---- receives

past_true : (w : Wanted) (r : AtomicRec) → r.epoch ≤ w.epoch → is_past w r ≡ true
past_true w r e = grind (arith, nat_tests)

-- a receive that brings nothing which is to be deleted brings nothing
first_none : (ms : List Posted) (w : Wanted) (swept : List ℕ) (answer : List Message) (items : List AtomicItem) → items_of answer ≡ Ok items
    → new_ids swept (past_ids w items) ≡ [] → AllByRecursion (IsGone ms) swept
    → AllByRecursion (IsUptoEpoch w.epoch) answer → AllByRecursion (λ (m : Message). IsGone ms m.id → ⊥) answer → answer ≡ []
first_none ms w swept [] items e none gone upto here = refl
first_none ms w swept (m ∷ answer) items e none gone upto here = absurd (read (atomic_of m.bytes) (items_of answer) refl e) where
  held : (rec : AtomicRec) (its : List AtomicItem) → is_past w rec ≡ true → new_ids swept (past_ids w (item_with m.id rec ∷ its)) ≡ [] → ⊥
  held rec its past none = here.0 (all_has (IsGone ms) swept m.id gone (none_new swept (m.id ∷ past_ids w its) (subst (λ ids. new_ids swept ids ≡ []) first none)).0) where
    first : past_ids w (item_with m.id rec ∷ its) ≡ m.id ∷ past_ids w its
    first = rw past refl

  read : (o : Option AtomicRec) (rest : Result (List AtomicItem) Message) → atomic_of m.bytes ≡ o → with_first m o rest ≡ Ok items → ⊥
  read None rest is e = absurd (cc)
  read (Some rec) (Err bad) is e = absurd (cc)
  read (Some rec) (Ok its) is e =
      let same : item_with m.id rec ∷ its ≡ items = cc in
      held rec its (past_true w rec (upto.0 rec is)) (subst (λ xs. new_ids swept (past_ids w xs) ≡ []) (sym same) none)

-- so nothing is left
last_empties : (ms : List Posted) (w : Wanted) (swept : List ℕ) (answer : List Message) (items : List AtomicItem) → items_of answer ≡ Ok items
    → new_ids swept (past_ids w items) ≡ [] → AllByRecursion (IsGone ms) swept → IsDelivering ms 256 answer → IsEmptied ms w
last_empties ms w swept answer items e none gone is upto =
    let nothing : answer ≡ [] =
    first_none ms w swept answer items e none gone (brought_all (IsUptoEpoch w.epoch) ms 256 answer is upto) (brought_all _ ms 256 answer is (none_gone ms)) in
    brought_none ms 256 (omega arith) (subst (IsDelivering ms 256) nothing is)

-- ---- each step

clears_swept : {r q : Recovery} {a : Answer} {ids : List ℕ} → Clears r a q ids → (ms ns : List Posted) → HeardAt r.stage r a ms ns → SweptAt r.stage ms r
    → AllByRecursion (IsHandled ns ids) q.swept
clears_swept (step.head_put r) ms ns heard is = handled_ids ns (kept_ids r) (kept_ids r) (each_has (kept_ids r))
clears_swept (step.one_tried r a) ms ns heard is = first_gone ms ns r.ids r.swept heard is

-- a receive behind the put that brings nothing to be deleted is the last
receive_last : (r : Recovery) (answer : List Message) (items : List AtomicItem) (ms ns : List Posted) → items_of answer ≡ Ok items → step.swept r items ≡ []
    → HeardAt Sweeping r (Received answer) ms ns → AllByRecursion (IsGone ms) r.swept → (r.head.epoch ≡ r.wanted.epoch + 1) × IsEmptied ns r.wanted
receive_last r answer items ms ns e none heard gone =
    (heard.2, subst (λ l. IsEmptied l r.wanted) (sym heard.0) (last_empties ms r.wanted r.swept answer items e none gone heard.1))

swept_ends : (ms : List Posted) (w : Wanted) (answer : RecoverAnswer) → SweptEnding ms w (Some (Ok answer)) → SweptEnds ms w answer
swept_ends ms w (Opened epoch) is = is
swept_ends ms w Nothing is = tt

pub swept : {r : Recovery} {a : Answer} {next : Step} → Comes r a next → (ms ns : List Posted) → HeardAt r.stage r a ms ns → SweptAt r.stage ms r → SweptNext ns next
swept (step.clears q id ids c) ms ns heard is = clears_swept c ms ns heard is
swept (step.sweeps q c) ms ns heard is = handled_none ns q.swept (clears_swept c ms ns heard is)
swept (step.clears_past r answer items id ids e are) ms ns heard is =
    AllByRecursion-append (IsHandled ns (id ∷ ids)) r.swept (id ∷ ids)
    (handled_gone ns (id ∷ ids) r.swept (subst (λ l. AllByRecursion (IsGone l) r.swept) (sym heard.0) is))
    (handled_ids ns (id ∷ ids) (id ∷ ids) (each_has (id ∷ ids)))
swept (step.opens r answer items e none aims) ms ns heard is = receive_last r answer items ms ns e none heard is
swept (step.closes r answer items e none aims) ms ns heard is = receive_last r answer items ms ns e none heard is
swept (step.ends r a answer e) ms ns heard is =
    swept_ends ns r.wanted answer (subst (SweptEnding ns r.wanted) e (subst (λ l. SweptEnding l r.wanted r.ending) (sym heard) is))
swept c ms ns heard is = tt
