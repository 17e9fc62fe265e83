-- The format of a head is exact, and what fits it.
use Rattle.std.proofs.Common.{◌≡◌, ℕ, ◌-◌, ◌^◌, ◌≤◌, Bool, true, false, eqb, ltb, List, [], ◌∷◌, Option, Some, None, inl, inr, refl, sym, ap, ◌∙◌, arith, lit<}
use Rattle.std.specs.Prelude.{not, ◌||◌, ◌&&◌}
use Rattle.std.specs.List.{AllByRecursion}
use Rattle.std.specs.Int.{w8}
use Rattle.std.proofs.lemmas.Bool.{and_parts, and_from, eqb-true, eqb-false, ltb-true, lt-ltb, eq-eqb, ne_eqb}
use Rattle.byte_format.specs.Format.{number, in_range, list_fits, option_fits}
use Rattle.byte_format.specs.Whole.{IsSpelling, IsExact}
use Rattle.byte_format.proofs.Fields.{number_exact, wide8}
use Rattle.byte_format.proofs.Exact.{ruled_exact, behind_exact, then_exact, only_where_exact, seen_as_exact}
use Rattle.byte_format.proofs.Lists.{list_exact}
use Rattle.change_codec.specs.Change.{change_fits}
use Rattle.change_codec.proofs.Changes.{change_exact, IsChange-fits, change_fits-from}
use Rattle.change_codec.proofs.Numbers.{u64_exact, IsWithin-from, in_range-from}
use Rattle.change_codec.proofs.Decoding.{decoded_spells, decoded-spelling}
use Rattle.head_codec.specs.declared.head.Head.{Head}
use Rattle.head_codec.specs.declared.head.Phase.{Phase}
use Rattle.head_codec.specs.declared.head.Phase.TheVariants.{Settled, Open}
use Rattle.head_codec.specs.declared.lists.QueueCount.{QueueCount}
use Rattle.head_codec.specs.declared.lists.Pending.{Pending}
use Rattle.head_codec.specs.Counters.{least_tree, page_rises, counter_fields, counter_of_fields, fields_of_counter, counter, IsBehind, AreCounters}
use Rattle.head_codec.specs.Pending.{pending_fields, pending_of_fields, fields_of_pending, pending_entry, FitsPending}
use Rattle.head_codec.specs.Spelling.{phase_of_fields, fields_of_phase, phase_fields, phase, head_fields, head_of_fields, fields_of_head, head_fits, head_bytes, head_at, head, head_of, IsPhase, HasSpelling, FitsCounter, FitsTypes}

pub counter_exact : (before : Option QueueCount) → IsExact (counter before)
counter_exact before = seen_as_exact counter_of_fields fields_of_counter (counter_fields before) (
    then_exact _ _ (number_exact w8 _ wide8 (least_tree before) 16 (lit< tt)) (λ tree.
    then_exact _ _ (ruled_exact (page_rises before tree) _ (u64_exact 0)) (λ page. u64_exact 1)))
    (λ x h. refl) (λ c h. refl)

pub pending_exact : (before : Option Pending) → IsExact (pending_entry before)
pending_exact before = seen_as_exact pending_of_fields fields_of_pending pending_fields (
    then_exact _ _ (number_exact w8 _ wide8 1 16 (lit< tt)) (λ tree.
    then_exact _ _ (u64_exact 0) (λ page. then_exact _ _ (u64_exact 1) (λ number. change_exact))))
    (λ x h. refl) (λ p h. refl)

-- a phase with a count is 1
with_count : (kind count : ℕ) (one : Bool) → eqb kind 1 ≡ one → option_fits one (number w8 1 200) (Some count) ≡ true → fields_of_phase (Open count) ≡ (kind, Some count)
with_count kind count true is there = ap (λ (n : ℕ). (n, Some count)) (sym (eqb-true kind 1 is))
with_count kind count false is there = absurd cc

-- a phase without one is 0
without_count : (kind : ℕ) (one : Bool) → eqb kind 1 ≡ one → in_range 0 1 kind ≡ true → option_fits one (number w8 1 200) None ≡ true → fields_of_phase Settled ≡ (kind, None)
without_count kind true is range there = absurd cc
without_count kind false is range there =
    let w = IsWithin-from 0 1 kind range in
    let zero : 0 ≡ kind = omega (arith, w.high, eqb-false kind 1 is) in
    ap (λ (n : ℕ). (n, None)) zero

phase_undone : (x : ℕ × Option ℕ) → phase_fields.fits x ≡ true → fields_of_phase (phase_of_fields x) ≡ x
phase_undone (kind, Some count) h = with_count kind count (eqb kind 1) refl (and_parts _ _ h).1
phase_undone (kind, None) h = without_count kind (eqb kind 1) refl (and_parts _ _ h).0 (and_parts _ _ h).1

phase_redone : (p : Phase) → phase_of_fields (fields_of_phase p) ≡ p
phase_redone Settled = refl
phase_redone (Open count) = refl

phase_exact : IsExact phase
phase_exact = seen_as_exact phase_of_fields fields_of_phase phase_fields (
    then_exact _ _ (number_exact w8 _ wide8 0 1 (lit< tt)) (λ kind. only_where_exact _ _ (number_exact w8 _ wide8 1 200 (lit< tt))))
    phase_undone (λ p h. phase_redone p)

fields_exact : IsExact head_fields
fields_exact =
    behind_exact 72 _ (behind_exact 1 _ (
    then_exact _ _ (u64_exact 1) (λ epoch.
    then_exact _ _ (u64_exact 0) (λ txn.
    then_exact _ _ phase_exact (λ phase.
    then_exact _ _ (list_exact true counter None counter_exact) (λ counters.
    list_exact true pending_entry None pending_exact))))))

pub head_exact : IsExact head
unfolding head_fits head_bytes head_at
head_exact = seen_as_exact head_of_fields fields_of_head head_fields fields_exact (λ x h. refl) (λ x h. refl)

-- ---- what fits

behind_from : (b c : QueueCount) (same rises : Bool) → eqb b.tree c.tree ≡ same → ltb b.page c.page ≡ rises → b.tree ≤ c.tree → (not same || rises) ≡ true → IsBehind (Some b) c
behind_from b c true true is up low h = inr (eqb-true b.tree c.tree is, ltb-true b.page c.page up)
behind_from b c true false is up low h = absurd cc
behind_from b c false rises is up low h = inl (omega (arith, eqb-false b.tree c.tree is))

IsBehind-from : (before : Option QueueCount) (c : QueueCount) → least_tree before ≤ c.tree → page_rises before c.tree c.page ≡ true → IsBehind before c
IsBehind-from None c low h = tt
IsBehind-from (Some b) c low h = behind_from b c (eqb b.tree c.tree) (ltb b.page c.page) refl refl low h

-- what a fitting counter is
record CounterFits (before : Option QueueCount) (c : QueueCount) : Type 0 where
  pub low : least_tree before ≤ c.tree
  pub high : c.tree ≤ 16
  pub rises : page_rises before c.tree c.page ≡ true
  pub page : c.page ≤ 2 ^ 64 - 1
  pub some : 1 ≤ c.number
  pub number : c.number ≤ 2 ^ 64 - 1

CounterFits-from : (before : Option QueueCount) (c : QueueCount) → (counter before).fits c ≡ true → CounterFits before c
CounterFits-from before c h =
    let tree = and_parts (in_range (least_tree before) 16 c.tree) ((in_range 0 (2 ^ 64 - 1) c.page && page_rises before c.tree c.page) && in_range 1 (2 ^ 64 - 1) c.number) h in
    let rest = and_parts (in_range 0 (2 ^ 64 - 1) c.page && page_rises before c.tree c.page) (in_range 1 (2 ^ 64 - 1) c.number) tree.1 in
    let page = and_parts (in_range 0 (2 ^ 64 - 1) c.page) (page_rises before c.tree c.page) rest.0 in
    let t = IsWithin-from (least_tree before) 16 c.tree tree.0 in
    let n = IsWithin-from 1 (2 ^ 64 - 1) c.number rest.1 in
    record { low = t.low; high = t.high; rises = page.1; page = (IsWithin-from 0 (2 ^ 64 - 1) c.page page.0).high; some = n.low; number = n.high }

pub counters-fit : (before : Option QueueCount) (cs : List QueueCount) → 1 ≤ least_tree before → list_fits true counter before cs ≡ true → AreCounters before cs × AllByRecursion FitsCounter cs
counters-fit before [] low h = (tt, tt)
counters-fit before (c ∷ cs) low h =
    let p = and_parts ((counter before).fits c) (list_fits true counter (Some c) cs) h in
    let f = CounterFits-from before c p.0 in
    let some : 1 ≤ c.tree = omega (arith, low, f.low) in
    let tail = counters-fit (Some c) cs some p.1 in
    let types : FitsCounter c = record { tree = record { some = some; most = f.high }; page = omega (arith, f.page); number = omega (arith, f.number) } in
    ((IsBehind-from before c f.low f.rises, f.some, tail.0), (types, tail.1))

least_tree-behind : (before : Option QueueCount) (c : QueueCount) → FitsCounter c → IsBehind before c → least_tree before ≤ c.tree
least_tree-behind None c types is = types.tree.some
least_tree-behind (Some b) c types (inl lt) = omega (arith, lt)
least_tree-behind (Some b) c types (inr same) = omega (arith, same.0)

page_rises-behind : (before : Option QueueCount) (c : QueueCount) → IsBehind before c → page_rises before c.tree c.page ≡ true
page_rises-behind None c is = refl
page_rises-behind (Some b) c (inl lt) = ap (λ (same : Bool). not same || ltb b.page c.page) (ne_eqb b.tree c.tree (λ e. omega (arith, lt, e)))
page_rises-behind (Some b) c (inr same) = ap (λ (e : Bool). not e || ltb b.page c.page) (eq-eqb b.tree c.tree same.0) ∙ lt-ltb b.page c.page same.1

pub fit-counters : (before : Option QueueCount) (cs : List QueueCount) → AreCounters before cs → AllByRecursion FitsCounter cs → list_fits true counter before cs ≡ true
fit-counters before [] order types = refl
fit-counters before (c ∷ cs) order types =
    and_from _ _ (
    and_from _ _ (in_range-from (least_tree before) 16 c.tree (least_tree-behind before c types.0 order.0) types.0.tree.most) (
    and_from _ _ (
    and_from _ _ (in_range-from 0 (2 ^ 64 - 1) c.page (omega arith) (omega (arith, types.0.page))) (page_rises-behind before c order.0))
    (in_range-from 1 (2 ^ 64 - 1) c.number order.1 (omega (arith, types.0.number)))))
    (fit-counters (Some c) cs order.2 types.1)

entry_fits : (p : Pending) → (pending_entry None).fits p ≡ true → (1 ≤ p.number) × FitsPending p
entry_fits p h =
    let tree = and_parts (in_range 1 16 p.tree) (in_range 0 (2 ^ 64 - 1) p.page && (in_range 1 (2 ^ 64 - 1) p.number && change_fits p.change)) h in
    let page = and_parts (in_range 0 (2 ^ 64 - 1) p.page) (in_range 1 (2 ^ 64 - 1) p.number && change_fits p.change) tree.1 in
    let number = and_parts (in_range 1 (2 ^ 64 - 1) p.number) (change_fits p.change) page.1 in
    let t = IsWithin-from 1 16 p.tree tree.0 in
    let g = IsWithin-from 0 (2 ^ 64 - 1) p.page page.0 in
    let n = IsWithin-from 1 (2 ^ 64 - 1) p.number number.0 in
    (n.low, record { tree = record { some = t.low; most = t.high }; page = omega (arith, g.high); number = omega (arith, n.high); change = IsChange-fits p.change number.1 })

fits_entry : (p : Pending) → 1 ≤ p.number → FitsPending p → (pending_entry None).fits p ≡ true
fits_entry p some types =
    and_from _ _ (in_range-from 1 16 p.tree types.tree.some types.tree.most) (
    and_from _ _ (in_range-from 0 (2 ^ 64 - 1) p.page (omega arith) (omega (arith, types.page))) (
    and_from _ _ (in_range-from 1 (2 ^ 64 - 1) p.number some (omega (arith, types.number))) (change_fits-from p.change types.change)))

pub entries-fit : (before : Option Pending) (ps : List Pending) → list_fits true pending_entry before ps ≡ true → AllByRecursion (λ (p : Pending). 1 ≤ p.number) ps × AllByRecursion FitsPending ps
entries-fit before [] h = (tt, tt)
entries-fit before (p ∷ ps) h =
    let a = and_parts ((pending_entry None).fits p) (list_fits true pending_entry (Some p) ps) h in
    let here = entry_fits p a.0 in
    let tail = entries-fit (Some p) ps a.1 in
    ((here.0, tail.0), (here.1, tail.1))

pub fit-entries : (before : Option Pending) (ps : List Pending) → AllByRecursion (λ (p : Pending). 1 ≤ p.number) ps → AllByRecursion FitsPending ps → list_fits true pending_entry before ps ≡ true
fit-entries before [] some types = refl
fit-entries before (p ∷ ps) some types = and_from _ _ (fits_entry p some.0 types.0) (fit-entries (Some p) ps some.1 types.1)

phase-fits : (p : Phase) → phase.fits p ≡ true → IsPhase p
phase-fits Settled h = tt
phase-fits (Open count) h = let w = IsWithin-from 1 200 count h in (w.low, w.high)

fits-phase : (p : Phase) → IsPhase p → phase.fits p ≡ true
fits-phase Settled h = refl
fits-phase (Open count) h = in_range-from 1 200 count h.0 h.1

-- what fits has a spelling, and is as its types say
pub HasSpelling-fits : (h : Head) → head_fits h ≡ true → HasSpelling h × FitsTypes h
unfolding head_fits
HasSpelling-fits h fits =
    let rest_3 = list_fits true counter None h.counters && list_fits true pending_entry None h.pending in
    let epoch = and_parts (in_range 1 (2 ^ 64 - 1) h.epoch) (in_range 0 (2 ^ 64 - 1) h.txn && (phase.fits h.phase && rest_3)) fits in
    let txn = and_parts (in_range 0 (2 ^ 64 - 1) h.txn) (phase.fits h.phase && rest_3) epoch.1 in
    let p = and_parts (phase.fits h.phase) rest_3 txn.1 in
    let lists = and_parts (list_fits true counter None h.counters) (list_fits true pending_entry None h.pending) p.1 in
    let e = IsWithin-from 1 (2 ^ 64 - 1) h.epoch epoch.0 in
    let t = IsWithin-from 0 (2 ^ 64 - 1) h.txn txn.0 in
    let cs = counters-fit None h.counters (omega arith) lists.0 in
    let ps = entries-fit None h.pending lists.1 in (
      record { epoch = e.low; phase = phase-fits h.phase p.0; counters = cs.0; pending = ps.0 },
      record { epoch = omega (arith, e.high); txn = omega (arith, t.high); counters = cs.1; pending = ps.1 },
    )

pub head_fits-from : (h : Head) → HasSpelling h → FitsTypes h → head_fits h ≡ true
unfolding head_fits
head_fits-from h is types =
    and_from _ _ (in_range-from 1 (2 ^ 64 - 1) h.epoch is.epoch (omega (arith, types.epoch))) (
    and_from _ _ (in_range-from 0 (2 ^ 64 - 1) h.txn (omega arith) (omega (arith, types.txn))) (
    and_from _ _ (fits-phase h.phase is.phase) (
    and_from _ _ (fit-counters None h.counters is.counters types.counters) (fit-entries None h.pending is.pending types.pending))))

-- ---- the decoder

pub head_spells : (h : Head) (bytes : List ℕ) → HasSpelling h → FitsTypes h → bytes ≡ head_bytes h → IsSpelling head bytes h
head_spells h bytes is types same = record { fits = head_fits-from h is types; is = same }

-- what is decoded is spelled so
pub head_of_spells : (bytes : List ℕ) (h : Head) → head_of bytes ≡ Some h → IsSpelling head bytes h
unfolding head_of
head_of_spells bytes h e = decoded_spells head bytes h e

-- what is spelled so is decoded
pub head_of-spelling : (bytes : List ℕ) (h : Head) → IsSpelling head bytes h → head_of bytes ≡ Some h
unfolding head_of
head_of-spelling bytes h s = decoded-spelling head head_exact bytes h s

-- a head that is written is read again
pub head_of-bytes : (h : Head) → HasSpelling h → FitsTypes h → head_of (head_bytes h) ≡ Some h
head_of-bytes h is types = head_of-spelling (head_bytes h) h (head_spells h (head_bytes h) is types refl)

-- what is decoded has a spelling, and the bytes are it
pub head_of-some : (bytes : List ℕ) (h : Head) → head_of bytes ≡ Some h → HasSpelling h × FitsTypes h × (bytes ≡ head_bytes h)
head_of-some bytes h e =
    let s = head_of_spells bytes h e in
    let f = HasSpelling-fits h s.fits in
    (f.0, f.1, s.is)
