-- What an opening knows of the lost records that it received: each is noted, and the noted ones are deleted one by one.
use Rattle.std.proofs.Common.{◌≡◌, ◌==◌, ◌||◌, ◌⊎◌, inl, inr, ℕ, Bool, true, false, cond, eqb-true, List, [], ◌∷◌, ◌++◌, filter, append_assoc, refl, sym, ap, subst, ◌∙◌}
use Rattle.std.specs.List.{AllByRecursion}
use Rattle.std.proofs.lemmas.List.Folds.{list_any-append}
use Rattle.log_codec.specs.declared.record.AtomicRec.{AtomicRec}
use Rattle.cloud_facts.specs.Book.Messages.{IsLogMessage, IsDeleted}
use Rattle.cloud_facts.specs.Book.Tally.{Store}
use Rattle.session_facts.specs.Machines.Openings.Knows.{WasSifted, HasSifted}
use Rattle.session_facts.proofs.Machines.Openings.Messages.{IsSent}
use Rattle.recover_run.specs.declared.items.AtomicItem.{AtomicItem}
use Rattle.recover_run.specs.declared.wanted.Wanted.{Wanted}
use Rattle.recover_run.specs.Gathering.{Gathered, gathered_with, is_lost, lost_ids, lost_now}
use Rattle.recover_run.specs.Ids.{has_id, new_ids, has_some}
use Rattle.recover_run.specs.Items.{ids_of}
use Rattle.recover_run.proofs.KeptRecords.{all_new}
use Rattle.recover_run.proofs.Sweeping.{all_has, none_new, each_has}
use Rattle.session_facts.proofs.Machines.Commits.Records.{one_record}

-- ---- sets of ids

has_parts : (xs ys : List ℕ) (id : ℕ) → has_id (xs ++ ys) id ≡ true → (has_id xs id ≡ true) ⊎ (has_id ys id ≡ true)
has_parts xs ys id e = on (has_id xs id) refl (sym (list_any-append (λ other. other == id) xs ys) ∙ e)
  where
    on : (b : Bool) → has_id xs id ≡ b → (b || has_id ys id) ≡ true → (has_id xs id ≡ true) ⊎ (has_id ys id ≡ true)
    on true has h = inl has
    on false has h = inr h

has_front : (xs ys : List ℕ) (id : ℕ) → has_id xs id ≡ true → has_id (xs ++ ys) id ≡ true
has_front xs ys id e = list_any-append (λ other. other == id) xs ys ∙ ap (λ b. b || has_id ys id) e

has_behind : (xs ys : List ℕ) (id : ℕ) → has_id ys id ≡ true → has_id (xs ++ ys) id ≡ true
has_behind xs ys id e = list_any-append (λ other. other == id) xs ys ∙ on (has_id xs id)
  where
    on : (b : Bool) → (b || has_id ys id) ≡ true
    on true = refl
    on false = e

-- new ids are of the ids
has_of_new : (set ids : List ℕ) (id : ℕ) → has_id (new_ids set ids) id ≡ true → has_id ids id ≡ true
has_of_new set ids id e =
    all_has (λ x. has_id ids x ≡ true) (new_ids set ids) id (all_new (λ x. has_id ids x ≡ true) set ids (each_has ids)) e

-- a set with the new ids has each
has_new : (set ids : List ℕ) (id : ℕ) → has_id ids id ≡ true → has_id (set ++ new_ids set ids) id ≡ true
has_new set [] id e = absurd (cc)
has_new set (x ∷ ids) id e = on (has_id set x) refl (x == id) refl e (λ f. has_new set ids id f) (λ f. has_new (set ++ x ∷ []) ids id f)
  where
    on : (b : Bool) → has_id set x ≡ b → (c : Bool) → (x == id) ≡ c → (c || has_id ids id) ≡ true
        → (has_id ids id ≡ true → has_id (set ++ new_ids set ids) id ≡ true)
        → (has_id ids id ≡ true → has_id ((set ++ x ∷ []) ++ new_ids (set ++ x ∷ []) ids) id ≡ true)
        → has_id (set ++ cond b (new_ids set ids) (x ∷ new_ids (set ++ x ∷ []) ids)) id ≡ true
    on true has true same h old more = has_front set (new_ids set ids) id (subst (λ k. has_id set k ≡ true) (eqb-true x id same) has)
    on true has false other h old more = old h
    on false has true same h old more =
        has_behind set (x ∷ new_ids (set ++ x ∷ []) ids) id (ap (λ b. b || has_id (new_ids (set ++ x ∷ []) ids) id) same)
    on false has false other h old more = subst (λ l. has_id l id ≡ true) (append_assoc set (x ∷ []) (new_ids (set ++ x ∷ []) ids)) (more h)

-- where the set has each, none is new
new_none : (set ids : List ℕ) → AllByRecursion (λ id. has_id set id ≡ true) ids → new_ids set ids ≡ []
new_none set [] all = refl
new_none set (id ∷ ids) all = ap (λ b. cond b (new_ids set ids) (id ∷ new_ids (set ++ id ∷ []) ids)) all.0 ∙ new_none set ids all.1

pub none_some : (ids : List ℕ) → has_some ids ≡ false → ids ≡ []
none_some [] e = refl
none_some (id ∷ ids) e = absurd (cc)

-- ---- a receive

module _ (st : Store) (client : ℕ) (w : Wanted) where
  -- its items, where the ids of the lost ones are noted
  items_sifted : (set : List ℕ) (items : List AtomicItem) → AllByRecursion (IsSent (st.tally.logged client)) items
      → ((i : ℕ) → has_id (lost_ids w items) i ≡ true → has_id set i ≡ true) → (id : ℕ) → has_id (ids_of items) id ≡ true → WasSifted st client w set id
  items_sifted set [] sent held id has = absurd (cc)
  items_sifted set (x ∷ items) sent held id has = on (is_lost w x.rec) refl (x.id == id) refl held has (λ h e. items_sifted set items sent.1 h id e)
    where
      here : (x.id == id) ≡ true → IsLogMessage (st.tally.logged client) id x.rec
      here same = subst (λ i. IsLogMessage (st.tally.logged client) i x.rec) (eqb-true x.id id same) sent.0

      clash : is_lost w x.rec ≡ false → is_lost w x.rec ≡ true → ⊥
      clash e f = cc

      on : (b : Bool) → is_lost w x.rec ≡ b → (c : Bool) → (x.id == id) ≡ c
          → ((i : ℕ) → has_id (ids_of (cond b (x ∷ filter (λ (y : AtomicItem). is_lost w y.rec) items) (filter (λ (y : AtomicItem). is_lost w y.rec) items))) i ≡ true → has_id set i ≡ true)
          → (c || has_id (ids_of items) id) ≡ true
          → (((i : ℕ) → has_id (lost_ids w items) i ≡ true → has_id set i ≡ true) → has_id (ids_of items) id ≡ true → WasSifted st client w set id)
          → WasSifted st client w set id
      on true lost true same h e more = record { of = x.rec; message = here same; noted = λ l. h id (ap (λ b. b || has_id (lost_ids w items) id) same) }
      on false other true same h e more = record { of = x.rec; message = here same; noted = λ l. absurd (clash other l) }
      on true lost false elsewhere h e more = more (λ i f. h i (has_behind (x.id ∷ []) (lost_ids w items) i f)) e
      on false other false elsewhere h e more = more h e

  pub received_sifted : (g : Gathered) (items : List AtomicItem) → AllByRecursion (IsSent (st.tally.logged client)) items → HasSifted st client w [] g
      → HasSifted st client w (lost_now w g items) (gathered_with w g items)
  received_sifted g items sent h = record {
    seen = λ id has. on_seen id (has_parts g.seen (new_ids g.seen (ids_of items)) id has);
    deleted = λ id has. on_lost id (has_parts g.lost (lost_now w g items) id has);
  }
    where
      on_seen : (id : ℕ) → (has_id g.seen id ≡ true) ⊎ (has_id (new_ids g.seen (ids_of items)) id ≡ true) → WasSifted st client w (g.lost ++ lost_now w g items) id
      on_seen id (inl old) =
          let s = h.seen id old in record { of = s.of; message = s.message; noted = λ lost. has_front g.lost (lost_now w g items) id (s.noted lost) }
      on_seen id (inr new) =
          items_sifted (g.lost ++ lost_now w g items) items sent (λ i e. has_new g.lost (lost_ids w items) i e) id (has_of_new g.seen (ids_of items) id new)

      on_lost : (id : ℕ) → (has_id g.lost id ≡ true) ⊎ (has_id (lost_now w g items) id ≡ true)
          → (has_id (lost_now w g items) id ≡ true) ⊎ IsDeleted (st.tally.logged client) id
      on_lost id (inl old) = still (h.deleted id old)
        where
          still : (has_id [] id ≡ true) ⊎ IsDeleted (st.tally.logged client) id → (has_id (lost_now w g items) id ≡ true) ⊎ IsDeleted (st.tally.logged client) id
          still (inl none) = absurd (cc)
          still (inr gone) = inr gone
      on_lost id (inr new) = inl new

  -- one that brings nothing new brings no lost record that is not noted
  pub stale_none : (g : Gathered) (items : List AtomicItem) → AllByRecursion (IsSent (st.tally.logged client)) items → HasSifted st client w [] g
      → has_some (new_ids g.seen (ids_of items)) ≡ false → lost_now w g items ≡ []
  stale_none g items sent h stale =
      new_none g.lost (lost_ids w items) (noted items sent (none_new g.seen (ids_of items) (none_some (new_ids g.seen (ids_of items)) stale)))
    where
      noted : (xs : List AtomicItem) → AllByRecursion (IsSent (st.tally.logged client)) xs → AllByRecursion (λ id. has_id g.seen id ≡ true) (ids_of xs)
          → AllByRecursion (λ id. has_id g.lost id ≡ true) (lost_ids w xs)
      noted [] sent seen = tt
      noted (x ∷ xs) sent seen = on (is_lost w x.rec) refl (noted xs sent.1 seen.1)
        where
          s : WasSifted st client w g.lost x.id
          s = h.seen x.id seen.0

          on : (b : Bool) → is_lost w x.rec ≡ b → AllByRecursion (λ id. has_id g.lost id ≡ true) (lost_ids w xs)
              → AllByRecursion (λ id. has_id g.lost id ≡ true)
              (ids_of (cond b (x ∷ filter (λ (y : AtomicItem). is_lost w y.rec) xs) (filter (λ (y : AtomicItem). is_lost w y.rec) xs)))
          on true lost rest =
              let same : x.rec ≡ s.of = one_record (st.tally.logged client) x.id x.rec s.of sent.0 s.message in
              (s.noted (subst (λ (r : AtomicRec). is_lost w r ≡ true) same lost), rest)
          on false other rest = rest

  -- ---- a deletion

  pub deleted_sifted : (id : ℕ) (ids : List ℕ) (g : Gathered) → HasSifted st client w (id ∷ ids) g → IsDeleted (st.tally.logged client) id → HasSifted st client w ids g
  deleted_sifted id ids g h gone = record { seen = h.seen; deleted = λ i has. on_lost i (h.deleted i has) }
    where
      on_lost : (i : ℕ) → (has_id (id ∷ ids) i ≡ true) ⊎ IsDeleted (st.tally.logged client) i → (has_id ids i ≡ true) ⊎ IsDeleted (st.tally.logged client) i
      on_lost i (inl has) = on (id == i) refl has
        where
          on : (b : Bool) → (id == i) ≡ b → (b || has_id ids i) ≡ true → (has_id ids i ≡ true) ⊎ IsDeleted (st.tally.logged client) i
          on true same e = inr (subst (IsDeleted (st.tally.logged client)) (eqb-true id i same) gone)
          on false other e = inl e
      on_lost i (inr done) = inr done
