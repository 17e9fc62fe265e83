-- A run of a tree's queue is no longer than the queue ever was.
use Rattle.std.proofs.Common.{◌≡◌, ◌≢◌, ◌+◌, ◌<◌, ◌≤◌, ◌==◌, ◌⊎◌, inl, inr, ℕ, Bool, true, cond, count_by, List, [], ◌∷◌, length, Some, refl, sym, ap, subst, ◌∙◌, arith}
use Rattle.std.specs.Prelude.{slice_get}
use Rattle.std.proofs.lemmas.Bool.{and_from, eq-eqb}
use Rattle.std.proofs.lemmas.List.Sums.{sum_by-cons}
use Rattle.cloud_facts.proofs.Book.Places.{get_within}
use Rattle.cloud_facts.proofs.Chains.Pieces.{in_cases, in_first, in_rest, none_in}
use Rattle.cloud_facts.specs.Book.Messages.{HasCopy}
use Rattle.cloud_facts.specs.Words.{PuItem, Posted, Store, IsIn}
use Rattle.cloud_facts.specs.Book.Records.{Apart}
use Rattle.log_codec.specs.Pu.{pu_of}
use Rattle.log_codec.specs.declared.record.PuRec.{PuRec}
use Rattle.run_cursor.specs.Run.{Taken, is_at}
use Rattle.session_facts.proofs.Machines.Runs.Taken.{run_in, run_within}
use Rattle.session_facts.proofs.Settling.Trees.Lists.{pages_fit}
use Rattle.session_facts.specs.Machines.Runs.Knows.{TookRun}

-- ---- items with numbers of their own

counted_first : (p : PuItem → Bool) (x : PuItem) (xs : List PuItem) → p x ≡ true → count_by p (x ∷ xs) ≡ 1 + count_by p xs
counted_first p x xs e = sum_by-cons _ x xs ∙ ap (λ (b : Bool). cond b 1 0 + count_by p xs) e

counted_more : (p : PuItem → Bool) (x : PuItem) (xs : List PuItem) → count_by p xs ≤ count_by p (x ∷ xs)
counted_more p x xs = subst (λ (n : ℕ). count_by p xs ≤ n) (sym (sum_by-cons _ x xs)) (omega arith)

counted_some : (p : PuItem → Bool) (xs : List PuItem) (x : PuItem) → IsIn xs x → p x ≡ true → 1 ≤ count_by p xs
counted_some p [] x is e = absurd (none_in x is)
counted_some p (y ∷ xs) x is e = on (in_cases y xs x is) (λ there. counted_some p xs x there e)
  where
    on : (y ≡ x) ⊎ IsIn xs x → (IsIn xs x → 1 ≤ count_by p xs) → 1 ≤ count_by p (y ∷ xs)
    on (inl same) again = let first = counted_first p y xs (ap p same ∙ e) in omega (arith, first)
    on (inr there) again = let more = counted_more p y xs in let some = again there in omega (arith, more, some)

-- none has the client and number of another
abbrev AreOnce : List PuItem → Type 0
AreOnce xs = (x : PuItem) → IsIn xs x → count_by (is_at x.rec.client x.rec.number) xs ≤ 1

once_behind : (x : PuItem) (xs : List PuItem) → AreOnce (x ∷ xs) → AreOnce xs
once_behind x xs once y is =
    let one = once y (in_rest x xs y is) in
    let more = counted_more (is_at y.rec.client y.rec.number) x xs in
    omega (arith, one, more)

at_record : (x y : PuItem) → y.rec ≡ x.rec → is_at x.rec.client x.rec.number y ≡ true
at_record x y same =
    and_from (y.rec.client == x.rec.client) (y.rec.number == x.rec.number) (eq-eqb y.rec.client x.rec.client (ap (λ (r : PuRec). r.client) same))
    (eq-eqb y.rec.number x.rec.number (ap (λ (r : PuRec). r.number) same))

once_first : (x : PuItem) (xs : List PuItem) → AreOnce (x ∷ xs) → (y : PuItem) → IsIn xs y → y.rec ≡ x.rec → ⊥
once_first x xs once y is same =
    let one = once x (in_first x xs) in
    let first = counted_first (is_at x.rec.client x.rec.number) x xs (at_record x x refl) in
    let some = counted_some (is_at x.rec.client x.rec.number) xs y is (at_record x y same) in
    absurd (omega (arith, one, first, some))

-- ---- the messages that they came in

module _ (posts : List Posted) where
  abbrev AreSent : List PuItem → Type 0
  AreSent xs = (x : PuItem) → IsIn xs x → HasCopy posts x.rec

  sent_behind : (x : PuItem) (xs : List PuItem) → AreSent (x ∷ xs) → AreSent xs
  sent_behind x xs sent y is = sent y (in_rest x xs y is)

  -- their numbers, from 1 on
  abbrev numbers : (xs : List PuItem) → AreSent xs → List ℕ
  numbers [] sent = []
  numbers (x ∷ xs) sent = ((sent x (in_first x xs)).place + 1) ∷ numbers xs (sent_behind x xs sent)

  numbers_many : (xs : List PuItem) (sent : AreSent xs) → length (numbers xs sent) ≡ length xs
  numbers_many [] sent = refl
  numbers_many (x ∷ xs) sent = let rest = numbers_many xs (sent_behind x xs sent) in omega (arith, rest)

  record Comes (xs : List PuItem) (n : ℕ) : Type 0 where
    item : PuItem
    there : IsIn xs item
    copy : HasCopy posts item.rec
    number : copy.place + 1 ≡ n

  comes : (xs : List PuItem) (sent : AreSent xs) (n : ℕ) → IsIn (numbers xs sent) n → Comes xs n
  comes [] sent n is = absurd (none_in n is)
  comes (x ∷ xs) sent n is = on (in_cases ((sent x (in_first x xs)).place + 1) (numbers xs (sent_behind x xs sent)) n is) (comes xs (sent_behind x xs sent) n)
    where
      on : ((sent x (in_first x xs)).place + 1 ≡ n) ⊎ IsIn (numbers xs (sent_behind x xs sent)) n → (IsIn (numbers xs (sent_behind x xs sent)) n → Comes xs n) → Comes (x ∷ xs) n
      on (inl same) again = record { item = x; there = in_first x xs; copy = sent x (in_first x xs); number = same }
      on (inr rest) again = let c = again rest in record { item = c.item; there = in_rest x xs c.item c.there; copy = c.copy; number = c.number }

  -- one message is one record
  one_record : (a b : PuRec) (c : HasCopy posts a) (d : HasCopy posts b) → c.place ≡ d.place → a ≡ b
  one_record a b c d same =
      let place : Some c.message ≡ Some d.message = sym c.there ∙ (ap (slice_get posts) same ∙ d.there) in
      record_is (sym c.reads ∙ (ap (λ (p : Posted). pu_of p.bytes) (message_is c.message d.message place) ∙ d.reads))
    where
      message_is : (p q : Posted) → Some p ≡ Some q → p ≡ q
      message_is p q e = cc

      record_is : Some a ≡ Some b → a ≡ b
      record_is e = cc

  numbers_apart : (xs : List PuItem) (sent : AreSent xs) → AreOnce xs → Apart (numbers xs sent)
  numbers_apart [] sent once = tt
  numbers_apart (x ∷ xs) sent once = (other, numbers_apart xs (sent_behind x xs sent) (once_behind x xs once))
    where
      other : (n : ℕ) → IsIn (numbers xs (sent_behind x xs sent)) n → n ≢ (sent x (in_first x xs)).place + 1
      other n is same =
          let c = comes xs (sent_behind x xs sent) n is in
          let number = c.number in
          once_first x xs once c.item c.there (one_record c.item.rec x.rec c.copy (sent x (in_first x xs)) (omega (arith, number, same)))

  few_items : (xs : List PuItem) → AreSent xs → AreOnce xs → length xs ≤ length posts
  few_items xs sent once =
      let many = numbers_many xs sent in
      let few = pages_fit (numbers xs sent) (length posts) (length posts + 1) (numbers_apart xs sent once) within (omega arith) in
      omega (arith, many, few)
    where
      within : (n : ℕ) → IsIn (numbers xs sent) n → (1 ≤ n) × (n < length posts + 1)
      within n is =
          let c = comes xs sent n is in
          let number = c.number in
          let less = get_within posts c.copy.place c.copy.message c.copy.there in
          (omega (arith, number), omega (arith, number, less))

-- a run has each number once
pub run_length : (st : Store) (tree : ℕ) (from : List (ℕ × ℕ)) (run : Taken) (ids : List ℕ) → TookRun st tree 0 from run ids → length run.items ≤ length (st.tally.posts tree 0)
run_length st tree from run ids took =
    few_items (st.tally.posts tree 0) run.items
    (λ x is. (took.items x (run_in from took.received run.items run.top took.is_run x is)).sent)
    (λ x is. let once = took.is_run.once x.rec.client x.rec.number (run_within from took.received run.items run.top took.is_run x is) in omega (arith, once))
