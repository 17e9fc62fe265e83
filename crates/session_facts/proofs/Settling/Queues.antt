-- A queue from which checkpoints receive until one receives no id that is new to them.
use Rattle.std.proofs.Common.{◌≡◌, ◌≤◌, ◌⊎◌, inl, inr, ℕ, zero, suc, Bool, true, false, cond, List, [], ◌∷◌, ◌++◌, length, Some, refl, sym, ap, subst, ◌∙◌, arith}
use Rattle.std.specs.Prelude.{◌==◌, ◌||◌}
use Rattle.std.specs.List.{AllByRecursion}
use Rattle.std.proofs.lemmas.Bool.{eqb-true}
use Rattle.ckpt_parts.specs.Intakes.{ids_of}
use Rattle.cloud_facts.proofs.Book.Places.{in_none, in_either}
use Rattle.cloud_facts.specs.Words.{QueueName, CloudState, IsIn}
use Rattle.cloud_trait.specs.Delivery.{IsDelivering}
use Rattle.cloud_trait.specs.declared.message.Message.{Message}
use Rattle.recover_run.proofs.Marks.{brought_all, brought_none}
use Rattle.recover_run.proofs.Sweeping.{none_new}
use Rattle.recover_run.specs.Ids.{has_id, new_ids}
use Rattle.session_facts.specs.Settling.Runs.{waiting, Drains}
use Rattle.cloud_facts.proofs.Chains.Pieces.{in_rest}
use Rattle.cloud_facts.proofs.Orders.Filters.{nothing_in}
use Rattle.session_facts.proofs.Machines.Folds.Cuts.{each_by}

-- ---- lists

pub any_in : (ids : List ℕ) (id : ℕ) → has_id ids id ≡ true → IsIn ids id
any_in [] id e = absurd (cc (e))
any_in (x ∷ ids) id e = on (x == id) refl e (λ h. any_in ids id h)
  where
    on : (b : Bool) → (x == id) ≡ b → (b || has_id ids id) ≡ true → (has_id ids id ≡ true → IsIn ids id) → IsIn (x ∷ ids) id
    on true f h again = let same : x ≡ id = eqb-true x id f in (zero, ap (λ (n : ℕ). Some n) same)
    on false f h again = in_rest x ids id (again h)

pub new_in : (set ids : List ℕ) (x : ℕ) → IsIn (new_ids set ids) x → IsIn ids x
new_in set [] x is = is
new_in set (id ∷ ids) x is = on (has_id set id) is (λ other h. new_in other ids x h)
  where
    on : (b : Bool) → IsIn (cond b (new_ids set ids) (id ∷ new_ids (set ++ id ∷ []) ids)) x → ((other : List ℕ) → IsIn (new_ids other ids) x → IsIn ids x) → IsIn (id ∷ ids) x
    on true h again = in_rest id ids x (again set h)
    on false (zero, e) again = (zero, e)
    on false (suc place, e) again = in_rest id ids x (again (set ++ id ∷ []) (place, e))

-- ---- a queue

-- no unmarked message of it was received before
abbrev pub AreNews : List ℕ → QueueName → CloudState → Type 0
AreNews known q s = (m : Message) → IsIn (waiting s q) m → IsIn known m.id → ⊥

pub none_received : (q : QueueName) (s : CloudState) → AreNews [] q s
none_received q s m is known = in_none [] m.id refl known

module _ (q : QueueName) (known received : List ℕ) (first last : CloudState) (news : AreNews known q first) (drains : Drains q received first last) where
  -- a receive that brought nothing new brought nothing
  pub none_brought : new_ids known received ≡ [] → drains.messages ≡ []
  none_brought none = on drains.messages refl
    where
      Unknown : Message → Type 0
      Unknown m = IsIn known m.id → ⊥

      on : (ms : List Message) → drains.messages ≡ ms → drains.messages ≡ []
      on [] e = e
      on (m ∷ ms) e =
          let all : AllByRecursion (λ (id : ℕ). has_id known id ≡ true) (ids_of (m ∷ ms)) =
          subst (λ (l : List ℕ). AllByRecursion (λ (id : ℕ). has_id known id ≡ true) l) (drains.told ∙ ap ids_of e) (none_new known received none) in
          let unknown : AllByRecursion Unknown (m ∷ ms) =
          subst (AllByRecursion Unknown) e (brought_all Unknown (first.messages q) 256 drains.messages drains.delivered (each_by Unknown (waiting first q) news)) in
          absurd (unknown.0 (any_in known m.id all.0))

  pub none_told : new_ids known received ≡ [] → received ≡ []
  none_told none = drains.told ∙ ap ids_of (none_brought none)

  -- and then nothing waits
  pub none_waited : new_ids known received ≡ [] → waiting first q ≡ []
  none_waited none = brought_none (first.messages q) 256 (omega arith) (subst (IsDelivering (first.messages q) 256) (none_brought none) drains.delivered)

  pub none_left : new_ids known received ≡ [] → waiting last q ≡ []
  none_left none = nothing_in (waiting last q) (λ m is. in_none (waiting first q) m (none_waited none) (drains.kept m is).0)

  -- what waits behind it was not received before, nor by it
  pub news_left : (ids : List ℕ) → new_ids known received ≡ ids → AreNews (known ++ ids) q last
  news_left ids e m is there = on (in_either known ids m.id there)
    where
      on : IsIn known m.id ⊎ IsIn ids m.id → ⊥
      on (inl old) = news m (drains.kept m is).0 old
      on (inr new) = (drains.kept m is).1 (new_in known received m.id (subst (λ (l : List ℕ). IsIn l m.id) (sym e) new))

  -- one that brought something new brought something
  pub some_told : (id : ℕ) (ids : List ℕ) → new_ids known received ≡ id ∷ ids → 1 ≤ length received
  some_told id ids e = on received refl
    where
      on : (l : List ℕ) → received ≡ l → 1 ≤ length received
      on [] f =
          let none : new_ids known received ≡ [] = ap (new_ids known) f in
          absurd (cc (e, none))
      on (x ∷ l) f = let is : length received ≡ length (x ∷ l) = ap length f in omega (arith, is)
