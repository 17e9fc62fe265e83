-- Counters stay in order as they are raised, and tell the last number of each queue.
use Rattle.std.proofs.Common.{◌≡◌, ℕ, ◌<◌, ◌≤◌, Bool, true, false, cond, List, [], ◌∷◌, Option, Some, None, refl, ap, sym, ◌∙◌, arith, inl, inr, ⊎_elim}
use Rattle.std.specs.Prelude.{find}
use Rattle.std.specs.declared.cmp.Ordering.{Ordering}
use Rattle.std.specs.declared.cmp.Ordering.TheVariants.{Less, Equal, Greater}
use Rattle.std.specs.Ordering.{nat_cmp, ordering_then, MatchOrdering}
use Rattle.std.specs.Option.{option_map_or}
use Rattle.std.specs.List.{AllByRecursion}
use Rattle.std.proofs.lemmas.Cmp.{ranked}
use Rattle.std.proofs.lemmas.Bool.Decides.{nat_tests}
use Rattle.head_codec.specs.Counters.{IsBehind, AreCounters}
use Rattle.head_codec.specs.declared.lists.QueueCount.{QueueCount}
use Rattle.log_codec.specs.declared.record.AtomicRec.{AtomicRec}
use Rattle.route_plan.specs.Heads.{counter_cmp, put_counter, with_counter, raised_by}
use Rattle.route_plan.specs.Queue.{is_counter_of, number_of_queue}
use Rattle.route_plan.specs.Record.{counter_of}
use Rattle.route_plan.specs.Route.{last_number}

-- two counters are of one queue
abbrev AreOfOneQueue : QueueCount → QueueCount → Type 0
AreOfOneQueue a b = (a.tree ≡ b.tree) × (a.page ≡ b.page)

-- what the order of two counters says
ranks : (a b : QueueCount) → MatchOrdering (counter_cmp a b) (IsBehind (Some a) b) (AreOfOneQueue a b) (IsBehind (Some b) a)
ranks a b = on (nat_cmp a.tree b.tree) (nat_cmp a.page b.page) (ranked a.tree b.tree (nat_cmp a.tree b.tree) refl) (ranked a.page b.page (nat_cmp a.page b.page) refl)
  where
    on : (o p : Ordering) → MatchOrdering o (a.tree < b.tree) (a.tree ≡ b.tree) (b.tree < a.tree) → MatchOrdering p (a.page < b.page) (a.page ≡ b.page) (b.page < a.page)
        → MatchOrdering (ordering_then o p) (IsBehind (Some a) b) (AreOfOneQueue a b) (IsBehind (Some b) a)
    on Less p t g = inl t
    on Greater p t g = inl t
    on Equal Less t g = inr (t, g)
    on Equal Equal t g = (t, g)
    on Equal Greater t g = inr (sym t, g)

-- what stands behind a counter stands behind another of its queue
behind-same : (c d : QueueCount) (counters : List QueueCount) → AreOfOneQueue c d → AreCounters (Some d) counters → AreCounters (Some c) counters
behind-same c d [] same h = tt
behind-same c d (e ∷ counters) same h = (⊎_elim (λ l. inl (omega (arith, same.0, l))) (λ r. inr (same.0 ∙ r.0, omega (arith, same.1, r.1))) h.0, h.1, h.2)

-- counters stay in order where one is put in its place
pub with_counter-ascends : (before : Option QueueCount) (counters : List QueueCount) (c : QueueCount)
    → IsBehind before c → 1 ≤ c.number → AreCounters before counters → AreCounters before (with_counter counters c)
with_counter-ascends before [] c behind counts h = (behind, counts, tt)
with_counter-ascends before (d ∷ counters) c behind counts h =
    on (counter_cmp c d) (ranks c d) (λ b. with_counter-ascends (Some d) counters c b counts h.2)
  where
    on : (o : Ordering) → MatchOrdering o (IsBehind (Some c) d) (AreOfOneQueue c d) (IsBehind (Some d) c)
        → (IsBehind (Some d) c → AreCounters (Some d) (with_counter counters c)) → AreCounters before (put_counter o c d counters (with_counter counters c))
    on Less b further = (behind, counts, (b, h.1, h.2))
    on Equal same further = (behind, counts, behind-same c d counters same h.2)
    on Greater b further = (h.0, h.1, further b)

-- counters stay in order as records raise them
pub raised_by-ascends : (counters : List QueueCount) (records : List AtomicRec) → AreCounters None counters
    → AllByRecursion (λ (r : AtomicRec). 1 ≤ r.number) records → AreCounters None (raised_by counters records)
raised_by-ascends counters [] h all = h
raised_by-ascends counters (r ∷ records) h all =
    raised_by-ascends (with_counter counters (counter_of r)) records (with_counter-ascends None counters (counter_of r) tt all.0 h) all.1

-- the first counter, or the others
number_of_queue-cons : (c : QueueCount) (counters : List QueueCount) (tree page : ℕ)
    → number_of_queue (c ∷ counters) tree page ≡ cond (is_counter_of tree page c) c.number (number_of_queue counters tree page)
number_of_queue-cons c counters tree page = on (is_counter_of tree page c)
  where
    on : (b : Bool) → option_map_or (λ (counter : QueueCount). counter.number) (cond b (Some c) (find (is_counter_of tree page) counters)) 0
        ≡ cond b c.number (option_map_or (λ (counter : QueueCount). counter.number) (find (is_counter_of tree page) counters) 0)
    on true = refl
    on false = refl

-- two counters of one queue are those of the same queues
same_test : (c d : QueueCount) (tree page : ℕ) → AreOfOneQueue c d → is_counter_of tree page d ≡ is_counter_of tree page c
same_test c d tree page same = cc (same.0, same.1)

-- two counters in order are not of one queue
not_both : (c d : QueueCount) (tree page : ℕ) → IsBehind (Some d) c → is_counter_of tree page c ≡ true → is_counter_of tree page d ≡ true → ⊥
not_both c d tree page h atc atd = grind (arith, nat_tests)

-- the last number of a queue where a counter is put in its place
pub number_of_queue-with_counter : (counters : List QueueCount) (c : QueueCount) (tree page : ℕ)
    → number_of_queue (with_counter counters c) tree page ≡ cond (is_counter_of tree page c) c.number (number_of_queue counters tree page)
number_of_queue-with_counter [] c tree page = number_of_queue-cons c [] tree page
number_of_queue-with_counter (d ∷ counters) c tree page =
    on (counter_cmp c d) (ranks c d) (number_of_queue-with_counter counters c tree page)
  where
    equal : (b : Bool) → is_counter_of tree page d ≡ b
        → cond b c.number (number_of_queue counters tree page) ≡ cond b c.number (cond (is_counter_of tree page d) d.number (number_of_queue counters tree page))
    equal true e = refl
    equal false e = sym (ap (λ b. cond b d.number (number_of_queue counters tree page)) e)

    greater : (b p : Bool) (n : ℕ) → (b ≡ true → p ≡ true → ⊥) → cond p d.number (cond b c.number n) ≡ cond b c.number (cond p d.number n)
    greater true true n not_ = absurd (not_ refl refl)
    greater true false n not_ = refl
    greater false p n not_ = refl

    on : (o : Ordering) → MatchOrdering o (IsBehind (Some c) d) (AreOfOneQueue c d) (IsBehind (Some d) c)
        → number_of_queue (with_counter counters c) tree page ≡ cond (is_counter_of tree page c) c.number (number_of_queue counters tree page)
        → number_of_queue (put_counter o c d counters (with_counter counters c)) tree page
        ≡ cond (is_counter_of tree page c) c.number (number_of_queue (d ∷ counters) tree page)
    on Less b again = number_of_queue-cons c (d ∷ counters) tree page
    on Equal same again =
        number_of_queue-cons c counters tree page
        ∙ (equal (is_counter_of tree page c) (same_test c d tree page same)
        ∙ sym (ap (λ n. cond (is_counter_of tree page c) c.number n) (number_of_queue-cons d counters tree page)))
    on Greater b again =
        number_of_queue-cons d (with_counter counters c) tree page
        ∙ (ap (λ n. cond (is_counter_of tree page d) d.number n) again
        ∙ (greater (is_counter_of tree page c) (is_counter_of tree page d) (number_of_queue counters tree page) (not_both c d tree page b)
        ∙ sym (ap (λ n. cond (is_counter_of tree page c) c.number n) (number_of_queue-cons d counters tree page))))

-- the last number of a queue after records: that of the last record of the queue, or the one before
pub number_of_queue-raised_by : (counters : List QueueCount) (records : List AtomicRec) (tree page : ℕ)
    → number_of_queue (raised_by counters records) tree page ≡ last_number tree page (number_of_queue counters tree page) records
number_of_queue-raised_by counters [] tree page = refl
number_of_queue-raised_by counters (r ∷ records) tree page =
    number_of_queue-raised_by (with_counter counters (counter_of r)) records tree page
    ∙ ap (λ n. last_number tree page n records) (number_of_queue-with_counter counters (counter_of r) tree page)
