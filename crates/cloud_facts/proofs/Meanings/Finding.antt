-- The index finds for every key the leaf of the page for the key: down by the greatest entries at most the key, and right while the key is not below.
use Rattle.std.proofs.Common.{◌≡◌, ℕ, zero, suc, not, List, Option, Some, None, refl, sym, ap, subst, ◌∙◌, arith}
use Rattle.std.specs.Prelude.{slice_get}
use Rattle.cloud_facts.specs.Words.{Leaf, CloudState, Link, IsIn, StandsAt, nodes_of, roots_of}
use Rattle.leaf_view.specs.Lookup.{value_of}
use Rattle.cloud_facts.specs.Book.Telling.{page_from, newest_leaf, newest_root, gone_of}
use Rattle.cloud_facts.specs.Chains.Chain.{IsChained}
use Rattle.cloud_facts.specs.Chains.Gones.{AreKept}
use Rattle.cloud_facts.specs.Chains.Links.{link_of, page_after, low_after}
use Rattle.cloud_facts.specs.Decoding.Decodes.{Decodes}
use Rattle.replay_meaning.specs.Index.{IsRightOf, IsWithin, Reaches, ends, right_leaf, right_inner, down, Finds}
use Rattle.cloud_facts.specs.Meanings.Meets.{IsFrom}
use Rattle.cloud_facts.proofs.Meanings.Pages.{leaf_at, inner_at, root_at}
use Rattle.cloud_facts.proofs.Meanings.Stale.{stale_down, newest_root_meets}
use Rattle.cloud_facts.proofs.Meanings.Walking.{IsBefore, walks, ends_at}

-- ---- fences

is_right : (key : List ℕ) (high : Option (List ℕ)) (next : Link) → high ≡ Some next.low → IsFrom next key → IsRightOf key high
is_right key high next e from = subst (IsRightOf key) (sym e) (ap not from)

is_within : (key : List ℕ) (high : Option (List ℕ)) (next : Option Link) → high ≡ low_after next → IsBefore key next → IsWithin key high
is_within key high None e before = subst (IsWithin key) (sym e) tt
is_within key high (Some next) e before = subst (IsWithin key) (sym e) before

-- ---- one level

module _ (s : CloudState) (tree : ℕ) (chain : ℕ → List Link) (done : List ℕ → ℕ → ℕ → ℕ) (cursor : ℕ → ℕ)
    (h : IsChained chain (nodes_of s tree) (roots_of s tree) done cursor) (kept : AreKept chain (gone_of s tree)) (d : Decodes s) (key : List ℕ) where
  abbrev leaf : ℕ → Leaf
  leaf page = newest_leaf (nodes_of s) tree page

  abbrev target : Leaf
  target = leaf (page_from 1 key (chain 0))

  right_of_leaf : (place : ℕ) (link next : Link) → StandsAt (chain 0) place link → StandsAt (chain 0) (suc place) next → IsFrom next key
      → Reaches s tree key 0 next.page target → Reaches s tree key 0 link.page target
  right_of_leaf place link next there after from again =
      let at = leaf_at s tree chain done cursor h kept d place link there in
      let high : (leaf link.page).high ≡ Some next.low = at.ends.high ∙ ap low_after after in
      let page : (leaf link.page).right ≡ next.page = at.ends.right ∙ ap page_after after in
      right_leaf link.page (leaf link.page) target at.newest (is_right key (leaf link.page).high next high from)
      (subst (λ (p : ℕ). Reaches s tree key 0 p target) (sym page) again)

  at_leaf : (place : ℕ) (link : Link) → StandsAt (chain 0) place link → IsFrom link key → IsBefore key (slice_get (chain 0) (suc place))
      → Reaches s tree key 0 link.page target
  at_leaf place link there from before =
      let at = leaf_at s tree chain done cursor h kept d place link there in
      let here : page_from 1 key (chain 0) ≡ link.page = ends_at key 1 None (chain 0) (h.levels.ascends 0) place link there from before in
      subst (λ (p : ℕ). Reaches s tree key 0 link.page (leaf p)) (sym here)
      (ends link.page (leaf link.page) at.newest (is_within key (leaf link.page).high (slice_get (chain 0) (suc place)) at.ends.high before))

  right_of_inner : (level place : ℕ) (link next : Link) → StandsAt (chain (suc level)) place link → StandsAt (chain (suc level)) (suc place) next
      → IsFrom next key
      → Reaches s tree key (suc level) next.page target → Reaches s tree key (suc level) link.page target
  right_of_inner level place link next there after from again =
      let at = inner_at s tree chain done cursor h kept d level place link there in
      let high : at.node.high ≡ Some next.low = at.ends.high ∙ ap low_after after in
      let page : at.node.right ≡ next.page = at.ends.right ∙ ap page_after after in
      right_inner level link.page at.node target at.newest (is_right key at.node.high next high from)
      (subst (λ (p : ℕ). Reaches s tree key (suc level) p target) (sym page) again)

  at_inner : (level : ℕ) → ((link : Link) → IsIn (chain level) link → IsFrom link key → Reaches s tree key level link.page target)
      → (place : ℕ) (link : Link) → StandsAt (chain (suc level)) place link → IsFrom link key → IsBefore key (slice_get (chain (suc level)) (suc place))
      → Reaches s tree key (suc level) link.page target
  at_inner level below place link there from before =
      let at = inner_at s tree chain done cursor h kept d level place link there in
      let meets = stale_down chain (nodes_of s tree) (roots_of s tree) done cursor h (suc level) link at.node key (place, there) at.landed from in
      let same : meets.below ≡ level = omega (arith, meets.level_is) in
      down level link.page at.node target meets.entry.0 meets.entry.1 at.newest
      (is_within key at.node.high (slice_get (chain (suc level)) (suc place)) at.ends.high before) meets.found
      (below (link_of meets.entry) (subst (λ (l : ℕ). IsIn (chain l) (link_of meets.entry)) same meets.linked) meets.from)

  -- ---- all levels

  reaches : (level : ℕ) (link : Link) → IsIn (chain level) link → IsFrom link key → Reaches s tree key level link.page target
  reaches zero link linked from = walks (λ (p : ℕ). Reaches s tree key 0 p target) key (chain 0) right_of_leaf at_leaf linked.0 link linked.1 from
  reaches (suc level) link linked from =
      walks (λ (p : ℕ). Reaches s tree key (suc level) p target) key (chain (suc level)) (right_of_inner level) (at_inner level (reaches level))
      linked.0 link linked.1 from

  pub finds : Finds s tree key (value_of key (newest_leaf (nodes_of s) tree (page_from 1 key (chain 0))).records)
  finds =
      let meets = newest_root_meets chain (nodes_of s tree) (roots_of s tree) done cursor h key in
      record {
        root = newest_root (roots_of s) tree;
        is_root = root_at s tree d;
        low = meets.entry.0;
        child = meets.entry.1;
        entry = meets.found;
        above = meets.below;
        level = meets.level_is;
        leaf = target;
        reaches = reaches meets.below (link_of meets.entry) meets.linked meets.from;
        value_is = refl;
      }
