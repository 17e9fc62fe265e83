-- How many leaves a commit knows: behind a walk for a change one more than before it.
use Rattle.std.proofs.Common.{◌≡◌, ◌≤◌, ◌<◌, ◌+◌, ℕ, Bool, true, false, List, [], ◌∷◌, ◌++◌, length, drop, Option, Some, None, refl, ap, sym, subst, ◌∙◌, arith, length-append}
use Rattle.std.specs.Prelude.{slice_get}
use Rattle.std.specs.Option.{option_map}
use Rattle.leaf_view.specs.Lookup.{holds}
use Rattle.commit_run.specs.Ended.{page_at as ended_page}
use Rattle.commit_run.specs.Plan.{Plan}
use Rattle.commit_run.specs.Draft.{KnowsNoMore, with_kept}
use Rattle.commit_run.proofs.Words.{Leaf, Noted, Answer, Ends, Cache, leaf_at, Walk, IsAtLeaf, sought, object_of, walk_next, ended_of, pages_of, Draft, pruned_behind, planned, leaf_noted, paged, target_of, next_target}
use Rattle.commit_run.proofs.Hands.{one_left, same_target}
use Rattle.commit_run.proofs.Outcomes as step
use Rattle.commit_run.proofs.Outcomes.{HasKept, used_kept, Behind}
use Rattle.commit_run.proofs.Finding.{held_spans, found_last, next_found}

behind_target : (d : Draft) (w : Walk) (c : Cache) → next_target (pruned_behind d w c) ≡ next_target d
behind_target d w c = ap (λ (cs : List Noted). option_map target_of (slice_get cs (length d.plan.pages))) (used_kept d.writes c w.used).changes

-- ---- a walk ended at a leaf that holds its key: the next change's leaf is known

noted_finds : (d : Draft) (tree page : ℕ) (key : List ℕ) (leaf : Leaf) (o : Option Leaf) → o ≡ Some leaf → holds leaf key ≡ true → next_target d ≡ Some (tree, key)
    → 1 ≤ length (pages_of d.writes.home.head.pending (with_kept d.plan tree page o).ended (drop (length (with_kept d.plan tree page o).pages) d.writes.changes))
noted_finds d tree page key leaf o e holding target =
    let found : (p : ℕ) × (ended_page (d.plan.ended ++ ended_of tree page leaf ∷ []) tree key ≡ Some p) = found_last tree key d.plan.ended (ended_of tree page leaf) (held_spans tree page key leaf holding) in
    subst (λ (x : Option Leaf). 1 ≤ length (pages_of d.writes.home.head.pending (with_kept d.plan tree page x).ended (drop (length (with_kept d.plan tree page x).pages) d.writes.changes))) (sym e)
    (next_found d.writes.home.head.pending (d.plan.ended ++ ended_of tree page leaf ∷ []) tree key found.0 found.1 d.writes.changes (length d.plan.pages) target)

noted_pages : (p : Plan) (tree page : ℕ) (o : Option Leaf) → (with_kept p tree page o).pages ≡ p.pages
noted_pages p tree page None = refl
noted_pages p tree page (Some leaf) = refl

planned_more : (d : Draft) (more : ℕ) → more ≤ length (pages_of d.writes.home.head.pending d.plan.ended (drop (length d.plan.pages) d.writes.changes)) → length d.plan.pages + more ≤ length (planned d).plan.pages
planned_more d more h = omega (arith, h, length-append d.plan.pages (pages_of d.writes.home.head.pending d.plan.ended (drop (length d.plan.pages) d.writes.changes)))

-- ---- planning on

-- as many leaves as before the walk in hand, and one more behind that for a change
abbrev pub known_then : Bool → Draft → ℕ
known_then true d = length d.plan.pages
known_then false d = length d.plan.pages + 1

-- a draft behind the walk in hand: of the same changes, with as many known leaves
pub record IsBehind (first : Bool) (d e : Draft) : Type 0 where
  pub same : HasKept d.writes e.writes
  pub within : KnowsNoMore e
  pub known : known_then first d ≤ length (planned e).plan.pages

noted_behind : (first : Bool) (d : Draft) (w : Walk) (c : Cache) (page : ℕ) → KnowsNoMore d → (first ≡ false → next_target d ≡ Some (w.tree, sought w)) → IsAtLeaf w c page
    → IsBehind first d (leaf_noted (pruned_behind d w c) w c page)
noted_behind first d w c page within target at = record { same = same; within = omega (arith, within, pages, ap length same.changes); known = on first target } where
  e : Draft
  e = leaf_noted (pruned_behind d w c) w c page

  same : HasKept d.writes e.writes
  same = used_kept d.writes c w.used

  pages : length e.plan.pages ≡ length d.plan.pages
  pages = ap length (noted_pages d.plan w.tree page (leaf_at c (object_of w)))

  on : (b : Bool) → (b ≡ false → next_target d ≡ Some (w.tree, sought w)) → known_then b d ≤ length (planned e).plan.pages
  on true to = omega (arith, pages, planned_more e 0 (omega arith))
  on false to =
      omega (arith, pages, planned_more e 1 (noted_finds (pruned_behind d w c) w.tree page (sought w) at.leaf (leaf_at c (object_of w)) (ap (leaf_at c) at.in_hand ∙ at.kept) at.holds (behind_target d w c ∙ to refl)))

paged_behind : (d : Draft) (w : Walk) (c : Cache) → length d.plan.pages < length d.writes.changes → IsBehind false d (paged (pruned_behind d w c) 1)
paged_behind d w c room =
    let same : HasKept d.writes (pruned_behind d w c).writes = used_kept d.writes c w.used in
    let pages : length (d.plan.pages ++ 1 ∷ []) ≡ length d.plan.pages + 1 = length-append d.plan.pages (1 ∷ []) in
    record { same = same; within = omega (arith, room, pages, ap length same.changes); known = omega (arith, pages, planned_more (paged (pruned_behind d w c) 1) 0 (omega arith)) }

pruned_past : (d : Draft) (w : Walk) (c : Cache) → KnowsNoMore d → IsBehind true d (pruned_behind d w c)
pruned_past d w c within =
    let same : HasKept d.writes (pruned_behind d w c).writes = used_kept d.writes c w.used in
    record { same = same; within = omega (arith, within, ap length same.changes); known = omega (arith, planned_more (pruned_behind d w c) 0 (omega arith)) }

pub behind_pages : (d : Draft) (w : Walk) (c : Cache) (a : Answer) (first : Bool) (e : Draft) (k : Cache) → KnowsNoMore d → (first ≡ false → next_target d ≡ Some (w.tree, sought w))
    → ((m : Walk × Cache) (page : ℕ) → walk_next (w, c) a ≡ Ends m page → IsAtLeaf m.0 m.1 page) → Behind d w c a first e k → IsBehind first d e
behind_pages d w c a first e k within target ends (step.at_leaf one m page ended aims) =
    noted_behind first d m.0 m.1 page within (λ change. target change ∙ ap Some (same_target w.tree w.key m.0 aims)) (ends m page ended)
behind_pages d w c a first e k within target ends (step.at_stale m t stopped is) = paged_behind d m.0 m.1 (one_left d (w.tree, sought w) (target refl))
behind_pages d w c a first e k within target ends (step.passed_over m t stopped is) = pruned_past d m.0 m.1 within
