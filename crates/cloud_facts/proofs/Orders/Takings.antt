-- A leaf whose range holds a key takes, of what is left of the key, the records that the run has of its queue.
use Rattle.std.proofs.Common.{◌≡◌, ◌+◌, ◌-◌, ◌<◌, ◌≤◌, ◌⊎◌, ⊎_elim, inl, inr, ℕ, Bool, true, false, ◌==◌, ◌&&◌, max, List, [], ◌∷◌, ◌++◌, take, drop, filter, refl, sym, ap, subst, ◌∙◌, arith, eqb-true}
use Rattle.std.specs.Prelude.{nat_lt}
use Rattle.std.proofs.lemmas.Bool.{and_parts, and_from, cases_lt, eqb-false, ltb-true, lt-ltb, le-ltb}
use Rattle.std.proofs.lemmas.List.{take-append-drop}
use Rattle.std.proofs.lemmas.List.Elements.{filter-append}
use Rattle.std.proofs.lemmas.Slice.Eq.{bytes_eq-Decides}
use Rattle.cloud_facts.specs.Words.{IsClient, AtomicRec, Store, IsIn, StandsAt}
use Rattle.leaf_edit.specs.Raised.{greatest_of}
use Rattle.cloud_facts.specs.Book.Effects.{Taking, taken_entries, after_leaf}
use Rattle.cloud_facts.specs.Book.Premises.{IsConsecutive, Takes}
use Rattle.cloud_facts.specs.Book.Records.{key_in, is_of_queue, of_queue, is_of_key, entries_of, IsApplied}
use Rattle.cloud_facts.specs.Book.Tally.{Tally}
use Rattle.cloud_facts.specs.Numbers.Numbers.{Numbers}
use Rattle.cloud_facts.proofs.Numbers.Lists.{filter_there, filter_agree, take_there}
use Rattle.cloud_facts.proofs.Numbers.Queues.{queue_test, queue_parts}
use Rattle.cloud_facts.specs.Orders.Order.{IsLeft, FirstApplied, UnappliedOfOneQueue}
use Rattle.cloud_facts.proofs.Orders.Advances.{IsOfKey, key_test, key_parts, left_among, in_left, Advances, after_most, after_same, after_other, nothing_taken}
use Rattle.cloud_facts.proofs.Orders.Filters.{filter-twice, filter_back, same_test, nothing_in, take_below, drop_there}
use Rattle.cloud_facts.proofs.Orders.Lacked.{has_key, window, lacked_entries}

abbrev no_records : List AtomicRec
no_records = []

-- where all of some records are of one queue, they are of this one, or none is
one_or_none : (xs : List AtomicRec) (queue : ℕ) → ((r q : AtomicRec) → IsIn xs r → IsIn xs q → r.page ≡ q.page)
    → ((r : AtomicRec) → IsIn xs r → r.page ≡ queue) ⊎ ((r : AtomicRec) → IsIn xs r → r.page ≡ queue → ⊥)
one_or_none [] queue one = inr (λ r is e. never r is.0 is.1)
  where
    never : (r : AtomicRec) (place : ℕ) → StandsAt no_records place r → ⊥
    never r place e = cc
one_or_none (x ∷ xs) queue one = on (x.page == queue) refl
  where
    on : (b : Bool) → (x.page == queue) ≡ b → ((r : AtomicRec) → IsIn (x ∷ xs) r → r.page ≡ queue) ⊎ ((r : AtomicRec) → IsIn (x ∷ xs) r → r.page ≡ queue → ⊥)
    on true e = inl (λ r is. one r x is (0, refl) ∙ eqb-true x.page queue e)
    on false e = inr (λ r is same. eqb-false x.page queue e (one x r (0, refl) is ∙ same))

-- whether a record is left
abbrev is_left : Tally → AtomicRec → Bool
is_left t r = nat_lt (t.done r.tree (key_in r) r.page r.client) r.number

module _ (st : Store) (p : Taking) (n : Numbers st) (t : Takes st p) (key : List ℕ) (client : ℕ) (is_client : IsClient client) (inside : p.range key ≡ true)
    (f : FirstApplied st p.tree key client) (from : ℕ) (c : IsConsecutive st p.tree p.queue p.run client from) where
  abbrev queue : List AtomicRec
  queue = of_queue p.tree p.queue client st.book.log

  -- the number that the leaf has of the key, or that the run begins behind; and how many the run has behind it
  abbrev base : ℕ
  base = max (st.tally.done p.tree key p.queue client) from

  abbrev more : ℕ
  more = greatest_of p.run client - base

  abbrev now : List AtomicRec
  now = window st p.tree p.queue client key more base

  abbrev still : List AtomicRec
  still = filter (has_key key) (drop more (drop base queue))

  -- ---- the records of the queue that have the key

  record IsBeyond (number : ℕ) (r : AtomicRec) : Type 0 where
    logged : IsIn st.book.log r
    is : IsOfKey p.tree key client r
    page_is : r.page ≡ p.queue
    above : number < r.number
    done_is : st.tally.done r.tree (key_in r) r.page r.client ≡ st.tally.done p.tree key p.queue client

  names : (r : AtomicRec) → IsOfKey p.tree key client r → r.page ≡ p.queue
      → st.tally.done r.tree (key_in r) r.page r.client ≡ st.tally.done p.tree key p.queue client
  names r is page_is =
      ap (λ a. st.tally.done a (key_in r) r.page r.client) is.tree_is
      ∙ (ap (λ a. st.tally.done p.tree a r.page r.client) is.key_is
      ∙ (ap (λ a. st.tally.done p.tree key a r.client) page_is ∙ ap (λ a. st.tally.done p.tree key p.queue a) is.client_is))

  beyond : (number place : ℕ) (r : AtomicRec) → StandsAt queue place r → has_key key r ≡ true → number ≤ place → IsBeyond number r
  beyond number place r at has upto =
      let found = filter_there (is_of_queue p.tree p.queue client) st.book.log place r at in
      let of = queue_parts p.tree p.queue client r found.test in
      let number_is = n.in_order p.tree p.queue client place r at in
      let is : IsOfKey p.tree key client r = record { client_is = of.client_is; tree_is = of.tree_is; key_is = (bytes_eq-Decides (key_in r) key).0 has } in
      record { logged = (found.place, found.there); is = is; page_is = of.page_is; above = omega (arith, number_is, upto); done_is = names r is of.page_is }

  now_beyond : (r : AtomicRec) → IsIn now r → IsBeyond base r × (r.number ≤ greatest_of p.run client)
  now_beyond r is =
      let found = filter_there (has_key key) (take more (drop base queue)) is.0 r is.1 in
      let less = take_below more (drop base queue) found.place r found.there in
      let at = drop_there base queue found.place r (take_there more (drop base queue) found.place r found.there) in
      let number_is = n.in_order p.tree p.queue client (base + found.place) r at in (
        beyond base (base + found.place) r at found.test (omega arith),
        reached base (greatest_of p.run client) found.place r.number less number_is,
      )
    where
      reached : (b g k x : ℕ) → k < g - b → x ≡ b + k + 1 → x ≤ g
      reached b g k x less is = omega (arith, less, is)

  still_beyond : (r : AtomicRec) → IsIn still r → IsBeyond (base + more) r
  still_beyond r is =
      let found = filter_there (has_key key) (drop more (drop base queue)) is.0 r is.1 in
      let at = drop_there base queue (more + found.place) r (drop_there more (drop base queue) found.place r found.there) in
      beyond (base + more) (base + (more + found.place)) r at found.test (omega arith)

  now_applied : (r : AtomicRec) → IsIn now r → IsApplied (after_leaf p st).tally r
  now_applied r is =
      let b = now_beyond r is in
      after_same st p r b.0.is.tree_is b.0.page_is (subst (λ a. p.range a ≡ true) (sym b.0.is.key_is) inside)
      (subst (λ a. r.number ≤ greatest_of p.run a) (sym b.0.is.client_is) b.1)

  still_left : (r : AtomicRec) → IsIn still r → IsLeft (after_leaf p st).tally r
  still_left r is =
      let b = still_beyond r is in
      after_most st p r (lower (st.tally.done r.tree (key_in r) r.page r.client) (st.tally.done p.tree key p.queue client) from more r.number b.done_is b.above)
      (subst (λ a. greatest_of p.run a < r.number) (sym b.is.client_is) (higher base (greatest_of p.run client) r.number b.above))
    where
      lower : (d e f m x : ℕ) → d ≡ e → max e f + m < x → d < x
      lower d e f m x same above = omega (arith, same, above)

      higher : (b g x : ℕ) → b + (g - b) < x → g < x
      higher b g x above = omega (arith, above)

  -- ---- what is left, where all of it is of the run's queue

  abbrev is_beyond : AtomicRec → Bool
  is_beyond r = nat_lt base r.number

  queue_beyond : filter is_beyond queue ≡ drop base queue
  queue_beyond =
      ap (λ l. filter is_beyond l) (sym (take-append-drop base queue))
      ∙ filter_back is_beyond (take base queue) (drop base queue) within above
    where
      within : (r : AtomicRec) → IsIn (take base queue) r → is_beyond r ≡ false
      within r is =
          let less = take_below base queue is.0 r is.1 in
          let number_is = n.in_order p.tree p.queue client is.0 r (take_there base queue is.0 r is.1) in
          le-ltb base r.number (omega (arith, less, number_is))

      above : (r : AtomicRec) → IsIn (drop base queue) r → is_beyond r ≡ true
      above r is =
          let number_is = n.in_order p.tree p.queue client (base + is.0) r (drop_there base queue is.0 r is.1) in
          lt-ltb base r.number (omega (arith, number_is))

  -- a record of the key that is left is beyond what the leaf has and the run begins behind
  left_beyond : (r : AtomicRec) → IsIn st.book.log r → IsOfKey p.tree key client r → r.page ≡ p.queue → IsLeft st.tally r → base < r.number
  left_beyond r logged is page_is left =
      ⊎_elim (λ past. larger (st.tally.done r.tree (key_in r) r.page r.client) (st.tally.done p.tree key p.queue client) from r.number (names r is page_is) left past)
      (λ low. absurd (never low)) (cases_lt from r.number)
    where
      larger : (d e f x : ℕ) → d ≡ e → d < x → f < x → max e f < x
      larger d e f x same above past = omega (arith, same, above, past)

      cursor_is : st.tally.cursor r.tree r.page r.client ≡ st.tally.cursor p.tree p.queue client
      cursor_is = ap (λ a. st.tally.cursor a r.page r.client) is.tree_is
          ∙ (ap (λ a. st.tally.cursor p.tree a r.client) page_is ∙ ap (λ a. st.tally.cursor p.tree p.queue a) is.client_is)

      never : r.number ≤ from → ⊥
      never low =
          let covered = c.covered in
          let applied = n.covered r logged (omega (arith, low, covered, cursor_is)) in
          omega (arith, applied, left)

  abbrev IsAllOfQueue : Type 0
  IsAllOfQueue = (r : AtomicRec) → IsIn f.left r → r.page ≡ p.queue

  same_left : IsAllOfQueue → (i : ℕ) (r : AtomicRec) → StandsAt st.book.log i r
      → (is_of_key p.tree key client r && is_left st.tally r) ≡ ((is_of_queue p.tree p.queue client r && is_beyond r) && has_key key r)
  same_left all i r at = same_test (is_of_key p.tree key client r && is_left st.tally r) ((is_of_queue p.tree p.queue client r && is_beyond r) && has_key key r) there back
    where
      there : (is_of_key p.tree key client r && is_left st.tally r) ≡ true → ((is_of_queue p.tree p.queue client r && is_beyond r) && has_key key r) ≡ true
      there h =
          let both = and_parts (is_of_key p.tree key client r) (is_left st.tally r) h in
          let is = key_parts p.tree key client r both.0 in
          let left : IsLeft st.tally r = ltb-true (st.tally.done r.tree (key_in r) r.page r.client) r.number both.1 in
          let page_is = all r (in_left st p.tree key client f r (i, at) is left) in
          and_from (is_of_queue p.tree p.queue client r && is_beyond r) (has_key key r)
          (and_from (is_of_queue p.tree p.queue client r) (is_beyond r)
          (queue_test p.tree p.queue client r (record { client_is = is.client_is; tree_is = is.tree_is; page_is = page_is }))
          (lt-ltb base r.number (left_beyond r (i, at) is page_is left)))
          ((bytes_eq-Decides (key_in r) key).1 is.key_is)

      back : ((is_of_queue p.tree p.queue client r && is_beyond r) && has_key key r) ≡ true → (is_of_key p.tree key client r && is_left st.tally r) ≡ true
      back h =
          let both = and_parts (is_of_queue p.tree p.queue client r && is_beyond r) (has_key key r) h in
          let first = and_parts (is_of_queue p.tree p.queue client r) (is_beyond r) both.0 in
          let of = queue_parts p.tree p.queue client r first.0 in
          let is : IsOfKey p.tree key client r = record { client_is = of.client_is; tree_is = of.tree_is; key_is = (bytes_eq-Decides (key_in r) key).0 both.1 } in
          let above = ltb-true base r.number first.1 in
          and_from (is_of_key p.tree key client r) (is_left st.tally r) (key_test p.tree key client r is)
          (lt-ltb (st.tally.done r.tree (key_in r) r.page r.client) r.number
          (smaller (st.tally.done r.tree (key_in r) r.page r.client) (st.tally.done p.tree key p.queue client) from r.number (names r is of.page_is) above))
        where
          smaller : (d e f x : ℕ) → d ≡ e → max e f < x → d < x
          smaller d e f x same above = omega (arith, same, above)

  left_is : IsAllOfQueue → f.left ≡ now ++ still
  left_is all =
      sym (ap (λ l. filter (is_left st.tally) l) f.split ∙ filter_back (is_left st.tally) f.taken f.left done left)
      ∙ (filter-twice (is_left st.tally) (is_of_key p.tree key client) st.book.log
      ∙ (filter_agree (λ r. is_of_key p.tree key client r && is_left st.tally r) (λ r. (is_of_queue p.tree p.queue client r && is_beyond r) && has_key key r) st.book.log (same_left all)
      ∙ (sym (filter-twice (has_key key) (λ r. is_of_queue p.tree p.queue client r && is_beyond r) st.book.log)
      ∙ (ap (λ l. filter (has_key key) l) (sym (filter-twice is_beyond (is_of_queue p.tree p.queue client) st.book.log) ∙ (queue_beyond ∙ sym (take-append-drop more (drop base queue))))
      ∙ filter-append (has_key key) (take more (drop base queue)) (drop more (drop base queue))))))
    where
      done : (r : AtomicRec) → IsIn f.taken r → is_left st.tally r ≡ false
      done r is = le-ltb (st.tally.done r.tree (key_in r) r.page r.client) r.number (f.applied r is)

      left : (r : AtomicRec) → IsIn f.left r → is_left st.tally r ≡ true
      left r is = lt-ltb (st.tally.done r.tree (key_in r) r.page r.client) r.number (f.unapplied r is)

  -- ---- and where none of it is

  now_none : ((r : AtomicRec) → IsIn f.left r → r.page ≡ p.queue → ⊥) → now ≡ []
  now_none none = nothing_in now (λ r is. let b = (now_beyond r is).0 in
      none r (in_left st p.tree key client f r b.logged b.is
      (smaller (st.tally.done r.tree (key_in r) r.page r.client) (st.tally.done p.tree key p.queue client) from r.number b.done_is b.above)) b.page_is)
    where
      smaller : (d e f x : ℕ) → d ≡ e → max e f < x → d < x
      smaller d e f x same above = omega (arith, same, above)

  pub takes_first : UnappliedOfOneQueue st → Advances (after_leaf p st) p.tree key client f.left (taken_entries st.tally p)
  takes_first u = on (one_or_none f.left p.queue same)
    where
      same : (r q : AtomicRec) → IsIn f.left r → IsIn f.left q → r.page ≡ q.page
      same r q in_r in_q =
          let a = left_among st p.tree key client f r in_r in
          let b = left_among st p.tree key client f q in_q in
          u.one r q a.logged b.logged (a.is.client_is ∙ sym b.is.client_is) (a.is.tree_is ∙ sym b.is.tree_is) (a.is.key_is ∙ sym b.is.key_is) (f.unapplied r in_r) (f.unapplied q in_q)

      on : IsAllOfQueue ⊎ ((r : AtomicRec) → IsIn f.left r → r.page ≡ p.queue → ⊥) → Advances (after_leaf p st) p.tree key client f.left (taken_entries st.tally p)
      on (inl all) = record {
        now = now;
        still = still;
        split = left_is all;
        ordered = lacked_entries st p n t client key from c inside;
        applied = now_applied;
        unapplied = still_left;
      }
      on (inr none) = nothing_taken st p p.tree key client f (lacked_entries st p n t client key from c inside ∙ ap (λ l. entries_of l) (now_none none))
          (λ r is. after_other st p r (λ tree_is page_is in_range. none r is page_is) (f.unapplied r is))
