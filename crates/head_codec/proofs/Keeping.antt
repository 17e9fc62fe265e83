-- What keeps a head's spelling.
use Rattle.std.proofs.Common.{◌≤◌, Bool, true, false, cond, List, [], ◌∷◌, ◌++◌, None, filter, arith}
use Rattle.std.specs.List.{AllByRecursion}
use Rattle.head_codec.specs.declared.head.Head.{Head}
use Rattle.head_codec.specs.declared.lists.Pending.{Pending}
use Rattle.head_codec.specs.Head.{empty_head, next_head}
use Rattle.head_codec.specs.Counters.{AreCounters}
use Rattle.head_codec.specs.Spelling.{HasSpelling}

pub AllByRecursion-append : {A : Type 0} (P : A → Type 0) (xs ys : List A) → AllByRecursion P xs → AllByRecursion P ys → AllByRecursion P (xs ++ ys)
AllByRecursion-append P [] ys front back = back
AllByRecursion-append P (x ∷ xs) ys front back = (front.0, AllByRecursion-append P xs ys front.1 back)

pub AllByRecursion-filter : {A : Type 0} (P : A → Type 0) (keep : A → Bool) (xs : List A) → AllByRecursion P xs → AllByRecursion P (filter keep xs)
AllByRecursion-filter P keep [] all = tt
AllByRecursion-filter {A = A} P keep (x ∷ xs) all = on (keep x) (AllByRecursion-filter P keep xs all.1)
  where
    on : (kept : Bool) → AllByRecursion P (filter keep xs) → AllByRecursion P (cond kept (x ∷ filter keep xs) (filter keep xs))
    on true rest = (all.0, rest)
    on false rest = rest

-- the next epoch of any head has a spelling where its lists have
pub next_head-spelling : (h : Head) → AreCounters None h.counters → AllByRecursion (λ (p : Pending). 1 ≤ p.number) h.pending → HasSpelling (next_head h)
next_head-spelling h counters pending = record { epoch = omega arith; phase = tt; counters = counters; pending = pending }

pub HasSpelling-next_head : (h : Head) → HasSpelling h → HasSpelling (next_head h)
HasSpelling-next_head h is = next_head-spelling h is.counters is.pending

-- the first epoch of a client
pub HasSpelling-first : HasSpelling (next_head empty_head)
HasSpelling-first = next_head-spelling empty_head tt tt

-- pending entries are added at the end
pub HasSpelling-append : (h : Head) (more : List Pending) → HasSpelling h → AllByRecursion (λ (p : Pending). 1 ≤ p.number) more → HasSpelling (record h { pending = h.pending ++ more })
HasSpelling-append h more is are = record {
  epoch = is.epoch;
  phase = is.phase;
  counters = is.counters;
  pending = AllByRecursion-append (λ (p : Pending). 1 ≤ p.number) h.pending more is.pending are;
}

-- pending entries are left out
pub HasSpelling-filter : (h : Head) (keep : Pending → Bool) → HasSpelling h → HasSpelling (record h { pending = filter keep h.pending })
HasSpelling-filter h keep is = record {
  epoch = is.epoch;
  phase = is.phase;
  counters = is.counters;
  pending = AllByRecursion-filter (λ (p : Pending). 1 ≤ p.number) keep h.pending is.pending;
}
