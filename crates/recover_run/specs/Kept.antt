-- The records that a recovery keeps, in order of index.
use Rattle.std.specs.Prelude.{ℕ, ◌≡◌, ◌≤◌, List, [], ◌∷◌, length, Option, Some, None}
use Rattle.std.specs.List.{AllByRecursion, insert}
use Rattle.std.specs.declared.cmp.Ordering.{Ordering}
use Rattle.std.specs.declared.cmp.Ordering.TheVariants.{Less, Equal, Greater}
use Rattle.std.specs.Ordering.{nat_cmp}
use Rattle.log_codec.specs.Atomic.{HasPlace}
use Rattle.recover_run.specs.declared.items.AtomicItem.{AtomicItem}

-- a record in its place among those of ascending index; where its index is there already, the one that was kept first stays
abbrev pub placed : Ordering → AtomicItem → AtomicItem → List AtomicItem → List AtomicItem → List AtomicItem
placed Less x first rest further = x ∷ first ∷ rest
placed Equal x first rest further = first ∷ rest
placed Greater x first rest further = first ∷ further

abbrev pub with_item : List AtomicItem → AtomicItem → List AtomicItem
with_item [] x = x ∷ []
with_item (first ∷ rest) x = placed (nat_cmp x.rec.index first.rec.index) x first rest (with_item rest x)

-- the place at which a record of an index is put, where it is put
abbrev pub Places : List AtomicItem → ℕ → Option ℕ → Type 0
Places items index (Some place) = (place ≤ length items) × ((x : AtomicItem) → x.rec.index ≡ index → insert items place x ≡ with_item items x)
Places items index None = (x : AtomicItem) → x.rec.index ≡ index → items ≡ with_item items x

-- each record has its place in its transaction, so it has a spelling as a pending update record
abbrev pub AllPlaced : List AtomicItem → Type 0
AllPlaced items = AllByRecursion (λ (x : AtomicItem). HasPlace x.rec) items
