-- What is kept of a queue.
use Rattle.std.proofs.Common.{◌≡◌, ◌<◌, ◌≤◌, ◌+◌, ◌-◌, ◌++◌, ℕ, zero, suc, List, [], ◌∷◌, length, take, refl, ap, sym, subst, ◌∙◌, arith, Bool, true, false, cond, eqb, ltb, Option, Some, None}
use Rattle.std.specs.Prelude.{slice_get, slice_set, slice_index_or}
use Rattle.std.specs.List.{position, position_or_len, remove}
use Rattle.std.specs.Option.{option_map_or, option_map, OnSome}
use Rattle.std.proofs.lemmas.Bool.{eqb-true, eqb-false, ne_eqb, ltb-true, ltb-false}
use Rattle.std.proofs.lemmas.List.{append-nil, append_assoc, length-append}
use Rattle.cloud_trait.specs.declared.state.Posted.{Posted}
use Rattle.cloud_trait.specs.declared.message.Message.{Message}
use Rattle.cloud_trait.specs.State.{mark_at, marked, message_at}
use Rattle.cloud_trait.specs.Delivery.{unmarked_from, unmarked}
use Rattle.memory_cloud.specs.Choice.{open_from, chosen, chosen_at}

-- a message that is written back with its mark is marked
pub mark_at-set : (xs : List Posted) (i : ℕ) (m : Posted) → i < length xs → m ≡ slice_index_or xs i m → slice_set xs i (record { who = m.who; bytes = m.bytes; deleted = true }) ≡ mark_at xs i
mark_at-set [] i m h e = absurd (omega arith)
mark_at-set (x ∷ xs) zero m h e = ap (λ (y : Posted). record { who = y.who; bytes = y.bytes; deleted = true } ∷ xs) e
mark_at-set (x ∷ xs) (suc i) m h e = ap (λ ys. x ∷ ys) (mark_at-set xs i m (omega arith) e)

-- past the end there is nothing to mark
pub mark_at-past : (xs : List Posted) (i : ℕ) → length xs ≤ i → mark_at xs i ≡ xs
mark_at-past [] i h = refl
mark_at-past (x ∷ xs) zero h = absurd (omega arith)
mark_at-past (x ∷ xs) (suc i) h = ap (λ ys. x ∷ ys) (mark_at-past xs i (omega arith))

-- where a number stands among those that are kept
abbrev pub place_of : ℕ → List ℕ → ℕ
place_of id ids = position_or_len (λ k. eqb k id) ids

-- a number below that of the first message is not kept
absent : (n id : ℕ) (ms : List Posted) → id < n → place_of id (open_from n ms) ≡ length (open_from n ms)
absent n id [] h = refl
absent n id (m ∷ ms) h = on m.deleted (eqb n id) refl (absent (n + 1) id ms (omega arith)) where
  on : (d same : Bool) → eqb n id ≡ same → place_of id (open_from (n + 1) ms) ≡ length (open_from (n + 1) ms)
      → place_of id (cond d (open_from (n + 1) ms) (n ∷ open_from (n + 1) ms)) ≡ length (cond d (open_from (n + 1) ms) (n ∷ open_from (n + 1) ms))
  on true same e again = again
  on false true e again = absurd (let f = eqb-true n id e in omega arith)
  on false false e again = rw e (omega (arith, again))

one-more : (k : ℕ) → 1 + k ≡ suc k
one-more k = omega arith

-- a message that is kept is no longer so once it is marked
pub marks-kept : (n i id : ℕ) (ms : List Posted) → id ≡ n + i → place_of id (open_from n ms) < length (open_from n ms)
    → remove (open_from n ms) (place_of id (open_from n ms)) ≡ open_from n (mark_at ms i)
marks-kept n i id [] e h = absurd (omega arith)
marks-kept n zero id (m ∷ ms) e h = on m.deleted (eqb n id) refl h where
  on : (d same : Bool) → eqb n id ≡ same
      → place_of id (cond d (open_from (n + 1) ms) (n ∷ open_from (n + 1) ms)) < length (cond d (open_from (n + 1) ms) (n ∷ open_from (n + 1) ms))
      → remove (cond d (open_from (n + 1) ms) (n ∷ open_from (n + 1) ms)) (place_of id (cond d (open_from (n + 1) ms) (n ∷ open_from (n + 1) ms))) ≡ open_from (n + 1) ms
  on true same f g = absurd (let a = absent (n + 1) id ms (omega arith) in omega arith)
  on false true f g = rw f refl
  on false false f g = absurd (eqb-false n id f (omega arith))
marks-kept n (suc i) id (m ∷ ms) e h = on m.deleted (eqb n id) refl h (marks-kept (n + 1) i id ms (omega arith)) where
  on : (d same : Bool) → eqb n id ≡ same
      → place_of id (cond d (open_from (n + 1) ms) (n ∷ open_from (n + 1) ms)) < length (cond d (open_from (n + 1) ms) (n ∷ open_from (n + 1) ms))
      → (place_of id (open_from (n + 1) ms) < length (open_from (n + 1) ms)
      → remove (open_from (n + 1) ms) (place_of id (open_from (n + 1) ms)) ≡ open_from (n + 1) (mark_at ms i))
      → remove (cond d (open_from (n + 1) ms) (n ∷ open_from (n + 1) ms)) (place_of id (cond d (open_from (n + 1) ms) (n ∷ open_from (n + 1) ms)))
      ≡ cond d (open_from (n + 1) (mark_at ms i)) (n ∷ open_from (n + 1) (mark_at ms i))
  on true same f g again = again g
  on false true f g again = absurd (let a = eqb-true n id f in omega arith)
  on false false f g again = rw (f, one-more (place_of id (open_from (n + 1) ms))) (ap (λ ids. n ∷ ids) (again (omega (arith, (rw f at g)))))

-- a message that is not kept is marked already, or is not there
pub marks-past : (n i id : ℕ) (ms : List Posted) → id ≡ n + i → length (open_from n ms) ≤ place_of id (open_from n ms) → mark_at ms i ≡ ms
marks-past n i id [] e h = refl
marks-past n zero id (m ∷ ms) e h = on m.deleted (eqb n id) refl refl h where
  on : (d same : Bool) → eqb n id ≡ same → m.deleted ≡ d
      → length (cond d (open_from (n + 1) ms) (n ∷ open_from (n + 1) ms)) ≤ place_of id (cond d (open_from (n + 1) ms) (n ∷ open_from (n + 1) ms))
      → mark_at (m ∷ ms) zero ≡ m ∷ ms
  on true same f deleted g = ap (λ d. record { who = m.who; bytes = m.bytes; deleted = d } ∷ ms) (sym deleted)
  on false true f deleted g = absurd (let a : place_of id (n ∷ open_from (n + 1) ms) ≡ 0 = rw f refl in omega arith)
  on false false f deleted g = absurd (eqb-false n id f (omega arith))
marks-past n (suc i) id (m ∷ ms) e h = ap (λ xs. m ∷ xs) (on m.deleted (eqb n id) refl h (marks-past (n + 1) i id ms (omega arith))) where
  on : (d same : Bool) → eqb n id ≡ same
      → length (cond d (open_from (n + 1) ms) (n ∷ open_from (n + 1) ms)) ≤ place_of id (cond d (open_from (n + 1) ms) (n ∷ open_from (n + 1) ms))
      → (length (open_from (n + 1) ms) ≤ place_of id (open_from (n + 1) ms) → mark_at ms i ≡ ms) → mark_at ms i ≡ ms
  on true same f g again = again g
  on false true f g again = absurd (let a = eqb-true n id f in omega arith)
  on false false f g again = again (omega (arith, (rw f at g)))

-- a message that is sent is kept
pub sends-kept : (n : ℕ) (ms : List Posted) (m : Posted) → open_from n (ms ++ m ∷ []) ≡ open_from n ms ++ cond m.deleted [] ((n + length ms) ∷ [])
sends-kept n [] m = on m.deleted where
  on : (d : Bool) → cond d [] (n ∷ []) ≡ cond d [] ((n + 0) ∷ [])
  on true = refl
  on false = ap (λ k. k ∷ []) (omega arith)
sends-kept n (x ∷ ms) m = on x.deleted (sends-kept (n + 1) ms m ∙ ap (λ k. open_from (n + 1) ms ++ cond m.deleted [] (k ∷ [])) (omega arith)) where
  on : (d : Bool) → open_from (n + 1) (ms ++ m ∷ []) ≡ open_from (n + 1) ms ++ cond m.deleted [] ((n + suc (length ms)) ∷ [])
      → cond d (open_from (n + 1) (ms ++ m ∷ [])) (n ∷ open_from (n + 1) (ms ++ m ∷ []))
      ≡ cond d (open_from (n + 1) ms) (n ∷ open_from (n + 1) ms) ++ cond m.deleted [] ((n + suc (length ms)) ∷ [])
  on true again = again
  on false again = ap (λ ids. n ∷ ids) again

-- how many are kept
pub length-kept : (n : ℕ) (ms : List Posted) → length (open_from n ms) ≡ length (unmarked_from n ms)
length-kept n [] = refl
length-kept n (m ∷ ms) = on m.deleted (length-kept (n + 1) ms) where
  on : (d : Bool) → length (open_from (n + 1) ms) ≡ length (unmarked_from (n + 1) ms)
      → length (cond d (open_from (n + 1) ms) (n ∷ open_from (n + 1) ms)) ≡ length (cond d (unmarked_from (n + 1) ms) (record { id = n; bytes = m.bytes } ∷ unmarked_from (n + 1) ms))
  on true again = again
  on false again = ap suc again

-- the message behind so many
behind : (front : List Posted) (m : Posted) (rest : List Posted) → slice_get (front ++ m ∷ rest) (length front) ≡ Some m
behind [] m rest = refl
behind (x ∷ front) m rest = behind front m rest

told-at : (all : List Posted) (n k : ℕ) (m : Posted) → n ≡ k + 1 → slice_get all k ≡ Some m → message_at all n ≡ Some m.bytes
told-at all n k m e is =
    let at : n - 1 ≡ k = omega arith in
    let some : eqb n 0 ≡ false = ne_eqb n 0 (λ z. absurd (omega arith)) in
    rw (some, at) (ap (option_map (λ (x : Posted). x.bytes)) is)

-- those that are kept are the messages that are not deleted
chosen-from : (front rest all : List Posted) (n : ℕ) → n ≡ length front + 1 → all ≡ front ++ rest → chosen all (open_from n rest) ≡ unmarked_from n rest
chosen-from front [] all n e is = refl
chosen-from front (m ∷ rest) all n e is =
    on m.deleted (told-at all n (length front) m e (rw is (behind front m rest)))
    (chosen-from (front ++ m ∷ []) rest all (n + 1) (omega (arith, length-append front (m ∷ []))) (is ∙ sym (append_assoc front (m ∷ []) rest))) where
      on : (d : Bool) → message_at all n ≡ Some m.bytes → chosen all (open_from (n + 1) rest) ≡ unmarked_from (n + 1) rest
          → chosen all (cond d (open_from (n + 1) rest) (n ∷ open_from (n + 1) rest)) ≡ cond d (unmarked_from (n + 1) rest) (record { id = n; bytes = m.bytes } ∷ unmarked_from (n + 1) rest)
      on true there again = again
      on false there again = rw there (ap (λ ms. record { id = n; bytes = m.bytes } ∷ ms) again)

pub chosen-kept : (ms : List Posted) → chosen ms (open_from 1 ms) ≡ unmarked ms
chosen-kept ms = chosen-from [] ms ms 1 refl refl

-- one item more of what is taken
takes-more : {X : Type 0} (out : List X) (x : X) (xs : List X) (j k : ℕ) → j ≡ suc k → (out ++ x ∷ []) ++ take k xs ≡ out ++ take j (x ∷ xs)
takes-more out x xs j k e = rw (e, append_assoc)

-- a step of a choice
pub choose-step : (out : List Message) (most p : ℕ) (ms : List Posted) (ps : List ℕ) → length out < most → (out ++ chosen_at ms p) ++ take (most - length (out ++ chosen_at ms p)) (chosen ms ps) ≡ out ++ take (most - length out) (chosen ms (p ∷ ps))
choose-step out most p ms ps h = on (message_at ms p) where
  on : (o : Option (List ℕ)) → (out ++ option_map_or (λ bytes. record { id = p; bytes = bytes } ∷ []) o []) ++ take (most - length (out ++ option_map_or (λ bytes. record { id = p; bytes = bytes } ∷ []) o [])) (chosen ms ps) ≡ out ++ take (most - length out) (option_map_or (λ bytes. record { id = p; bytes = bytes } ∷ chosen ms ps) o (chosen ms ps))
  on None = rw (append-nil out)
  on (Some bytes) = takes-more out _ (chosen ms ps) (most - length out) (most - length (out ++ record { id = p; bytes = bytes } ∷ [])) (omega (arith, length-append out (record { id = p; bytes = bytes } ∷ [])))

-- what is chosen by two lists of positions, one behind the other
chosen-append : (ms : List Posted) (ps qs : List ℕ) → chosen ms (ps ++ qs) ≡ chosen ms ps ++ chosen ms qs
chosen-append ms [] qs = refl
chosen-append ms (p ∷ ps) qs = on (message_at ms p) (chosen-append ms ps qs) where
  on : (o : Option (List ℕ)) → chosen ms (ps ++ qs) ≡ chosen ms ps ++ chosen ms qs
      → option_map_or (λ bytes. record { id = p; bytes = bytes } ∷ chosen ms (ps ++ qs)) o (chosen ms (ps ++ qs))
      ≡ option_map_or (λ bytes. record { id = p; bytes = bytes } ∷ chosen ms ps) o (chosen ms ps) ++ chosen ms qs
  on None again = again
  on (Some bytes) again = ap (λ out. record { id = p; bytes = bytes } ∷ out) again

-- the first so many of one list, and then of the next while there are fewer
take-both : {X : Type 0} (n : ℕ) (xs ys : List X) → take n xs ++ take (n - length (take n xs)) ys ≡ take n (xs ++ ys)
take-both zero xs ys = refl
take-both (suc n) [] ys = let left : suc n - 0 ≡ suc n = omega arith in rw left refl
take-both (suc n) (x ∷ xs) ys =
    let left : suc n - suc (length (take n xs)) ≡ n - length (take n xs) = omega arith in
    rw left (ap (λ out. x ∷ out) (take-both n xs ys))

-- what two runs of a choice came to
pub chosen-both : (most : ℕ) (ms : List Posted) (front back : List ℕ) (mid out : List Message)
    → mid ≡ take most (chosen ms front) → out ≡ mid ++ take (most - length mid) (chosen ms back)
    → out ≡ take most (chosen ms (front ++ back))
chosen-both most ms front back mid out e f =
    rw (f, e, chosen-append ms front back) (take-both most (chosen ms front) (chosen ms back))

-- ---- what is kept after each call

pub added : (ms ns : List Posted) (m : Posted) (ids : List ℕ) (id : ℕ) → ids ≡ open_from 1 ms → ns ≡ ms ++ m ∷ [] → m.deleted ≡ false → id ≡ length ns → ids ++ id ∷ [] ≡ open_from 1 ns
added ms ns m ids id e is d at =
    let n : id ≡ 1 + length ms = omega (arith, ap length is, length-append ms (m ∷ [])) in
    rw (is, e, n) (sym (sends-kept 1 ms m ∙ ap (λ b. open_from 1 ms ++ cond b [] ((1 + length ms) ∷ [])) d))

pub added-deleted : (ms ns : List Posted) (m : Posted) (ids : List ℕ) → ids ≡ open_from 1 ms → ns ≡ ms ++ m ∷ [] → m.deleted ≡ true → ids ≡ open_from 1 ns
added-deleted ms ns m ids e is d =
    rw (is, e) (sym (sends-kept 1 ms m ∙ ap (λ b. open_from 1 ms ++ cond b [] ((1 + length ms) ∷ [])) d ∙ append-nil (open_from 1 ms)))

place-some : (p : ℕ → Bool) (ids : List ℕ) (place : ℕ) → position p ids ≡ Some place → (position_or_len p ids ≡ place) × (place < length ids)
place-some p ids place e = on (ltb (position_or_len p ids) (length ids)) refl e where
  on : (b : Bool) → ltb (position_or_len p ids) (length ids) ≡ b → cond b (Some (position_or_len p ids)) None ≡ Some place → (position_or_len p ids ≡ place) × (place < length ids)
  on true h is = let same : position_or_len p ids ≡ place = cc in (same, (let l = ltb-true (position_or_len p ids) (length ids) h in omega arith))
  on false h is = absurd cc

place-none : (p : ℕ → Bool) (ids : List ℕ) → position p ids ≡ None → length ids ≤ position_or_len p ids
place-none p ids e = on (ltb (position_or_len p ids) (length ids)) refl e where
  on : (b : Bool) → ltb (position_or_len p ids) (length ids) ≡ b → cond b (Some (position_or_len p ids)) None ≡ None → length ids ≤ position_or_len p ids
  on true h is = absurd cc
  on false h is = let l = ltb-false (position_or_len p ids) (length ids) h in omega arith

-- a place at which a number stands is one of the list
pub stands-within : (ids : List ℕ) (id place : ℕ) → position (λ k. eqb k id) ids ≡ Some place → place < length ids
stands-within ids id place is = (place-some (λ k. eqb k id) ids place is).1

-- what holds where something was given
pub of-given : {X : Type 0} (given : Option X) (x : X) (P : Type 0) → given ≡ Some x → OnSome given P → P
of-given given x P is h = subst (λ o. OnSome o P) is h

pub marks : (ms : List Posted) (ids : List ℕ) (id place : ℕ) → ids ≡ open_from 1 ms → 1 ≤ id → position (λ k. eqb k id) ids ≡ Some place
    → remove ids place ≡ open_from 1 (mark_at ms (id - 1))
marks ms ids id place e some is =
    let there = place-some (λ k. eqb k id) ids place is in
    let at : place_of id (open_from 1 ms) ≡ place = subst (λ (xs : List ℕ). place_of id xs ≡ place) e there.0 in
    let within : place < length (open_from 1 ms) = subst (λ (xs : List ℕ). place < length xs) e there.1 in
    rw (e, sym at) (marks-kept 1 (id - 1) id ms (omega arith) (omega arith))

pub marks-none : (ms : List Posted) (ids : List ℕ) (id : ℕ) → ids ≡ open_from 1 ms → 1 ≤ id → position (λ k. eqb k id) ids ≡ None → ms ≡ marked ms id
marks-none ms ids id e some is =
    let past : length (open_from 1 ms) ≤ place_of id (open_from 1 ms) = subst (λ (xs : List ℕ). length xs ≤ place_of id xs) e (place-none (λ k. eqb k id) ids is) in
    let number : eqb id 0 ≡ false = ne_eqb id 0 (λ z. absurd (omega arith)) in
    rw number (sym (marks-past 1 (id - 1) id ms (omega arith) past))
