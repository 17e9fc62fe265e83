-- The records that an opening keeps.
use Rattle.std.proofs.Common.{◌≡◌, ◌+◌, ◌≤◌, ℕ, zero, suc, Bool, true, false, cond, List, [], ◌∷◌, length, refl, sym, ap, subst, ◌∙◌, arith}
use Rattle.std.specs.Prelude.{nat_le}
use Rattle.std.specs.List.{AllByRecursion}
use Rattle.std.specs.declared.cmp.Ordering.{Ordering}
use Rattle.std.specs.declared.cmp.Ordering.TheVariants.{Less, Equal, Greater}
use Rattle.std.proofs.lemmas.Bool.Decides.{nat_tests}
use Rattle.session_facts.specs.Machines.Openings.Knows.{IsWanted, IsMessageThat}
use Rattle.recover_run.specs.declared.items.AtomicItem.{AtomicItem}
use Rattle.recover_run.specs.declared.wanted.Wanted.{Wanted}
use Rattle.recover_run.specs.Gathering.{is_counted, is_past, kept_with}
use Rattle.recover_run.specs.Items.{ids_of}
use Rattle.recover_run.specs.Kept.{with_item, placed}
use Rattle.recover_run.proofs.Knows.{IsRising}
use Rattle.cloud_facts.specs.Book.Records.{IsIn, StandsAt}
use Rattle.cloud_facts.specs.Book.Tally.{Store}

-- ---- facts on each

pub each_in : {X : Type 0} (P : X → Type 0) (xs : List X) → AllByRecursion P xs → (x : X) → IsIn xs x → P x
each_in P [] all x (place, there) = absurd (cc)
each_in P (y ∷ ys) all x (zero, there) = let same : y ≡ x = cc in subst P same all.0
each_in P (y ∷ ys) all x (suc place, there) = each_in P ys all.1 x (place, there)

placed_all : (P : AtomicItem → Type 0) (x first : AtomicItem) (rest further : List AtomicItem) (o : Ordering) → P x → P first → AllByRecursion P rest → AllByRecursion P further
    → AllByRecursion P (placed o x first rest further)
placed_all P x first rest further Less here one all more = (here, (one, all))
placed_all P x first rest further Equal here one all more = (one, all)
placed_all P x first rest further Greater here one all more = (one, more)

with_item_all : (P : AtomicItem → Type 0) (kept : List AtomicItem) (x : AtomicItem) → AllByRecursion P kept → P x → AllByRecursion P (with_item kept x)
with_item_all P [] x all here = (here, tt)
with_item_all P (first ∷ rest) x all here = placed_all P x first rest (with_item rest x) _ here all.0 all.1 (with_item_all P rest x all.1 here)

-- what holds of the kept ones, and of each that is counted of the items, holds of the kept ones then
pub kept_with_all : (P : AtomicItem → Type 0) (w : Wanted) (kept items : List AtomicItem) → AllByRecursion P kept
    → AllByRecursion (λ (x : AtomicItem). is_counted w x.rec ≡ true → P x) items → AllByRecursion P (kept_with w kept items)
kept_with_all P w kept [] all more = all
kept_with_all P w kept (x ∷ items) all more =
    on (is_counted w x.rec) refl (λ with_x. kept_with_all P w (with_item kept x) items with_x more.1) (kept_with_all P w kept items all more.1)
  where
    on : (b : Bool) → is_counted w x.rec ≡ b → (AllByRecursion P (with_item kept x) → AllByRecursion P (kept_with w (with_item kept x) items))
        → AllByRecursion P (kept_with w kept items) → AllByRecursion P (kept_with w (cond b (with_item kept x) kept) items)
    on true e further same = further (with_item_all P kept x all (more.0 e))
    on false e further same = same

-- ---- their ids

same_past : (w : Wanted) (epoch : ℕ) → epoch ≡ w.epoch → nat_le epoch w.epoch ≡ true
same_past w epoch e = grind (arith, nat_tests)

-- the ids of wanted records are of past ones
pub wanted_ids : (st : Store) (client : ℕ) (w : Wanted) (kept : List AtomicItem) → AllByRecursion (IsWanted st client w) kept
    → AllByRecursion (IsMessageThat st client (is_past w)) (ids_of kept)
wanted_ids st client w [] all = tt
wanted_ids st client w (x ∷ kept) all =
    (record { of = x.rec; message = all.0.message; passes = same_past w x.rec.epoch all.0.epoch_is }, wanted_ids st client w kept all.1)

-- ---- their indices

-- indices that ascend up to a bound leave room for no more
rising_room : (st : Store) (client : ℕ) (w : Wanted) (n : ℕ) (kept : List AtomicItem) → IsRising n kept → AllByRecursion (IsWanted st client w) kept → n ≤ w.count + 1
    → n + length kept ≤ w.count + 1
rising_room st client w n [] up all within = omega (arith, within)
rising_room st client w n (x ∷ kept) up all within =
    let last : x.rec.index ≤ w.count = all.0.within in
    let more : x.rec.index + 1 + length kept ≤ w.count + 1 = rising_room st client w (x.rec.index + 1) kept up.1 all.1 (omega (arith, last)) in
    omega (arith, more, up.0)

-- as many as there are indices have each in its place
pub index_at : (st : Store) (client : ℕ) (w : Wanted) (n : ℕ) (kept : List AtomicItem) → IsRising n kept → AllByRecursion (IsWanted st client w) kept → n + length kept ≡ w.count + 1
    → (place : ℕ) (x : AtomicItem) → StandsAt kept place x → x.rec.index ≡ n + place
index_at st client w n [] up all full place x there = absurd (cc)
index_at st client w n (y ∷ kept) up all full place x there = on (λ whole k at. index_at st client w (y.rec.index + 1) kept up.1 all.1 whole k x at) place there
  where
    here : y.rec.index ≡ n
    here =
        let last : y.rec.index ≤ w.count = all.0.within in
        let more : y.rec.index + 1 + length kept ≤ w.count + 1 = rising_room st client w (y.rec.index + 1) kept up.1 all.1 (omega (arith, last)) in
        omega (arith, more, up.0, full)

    on : (y.rec.index + 1 + length kept ≡ w.count + 1 → (k : ℕ) → StandsAt kept k x → x.rec.index ≡ y.rec.index + 1 + k) → (k : ℕ) → StandsAt (y ∷ kept) k x → x.rec.index ≡ n + k
    on again zero at = let same : y ≡ x = cc in ap (λ (z : AtomicItem). z.rec.index) (sym same) ∙ (here ∙ omega arith)
    on again (suc k) at = let rest : x.rec.index ≡ y.rec.index + 1 + k = again (omega (arith, here, full)) k at in omega (arith, rest, here)
