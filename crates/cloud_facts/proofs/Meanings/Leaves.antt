-- The newest leaves of the links of the leaf chain lead from page 1 to the end.
use Rattle.std.proofs.Common.{◌∙◌, ◌≡◌, ℕ, zero, suc, List, [], ◌∷◌, arith, refl, sym, ap, subst}
use Rattle.std.specs.Prelude.{slice_get}
use Rattle.cloud_facts.specs.Words.{Leaf, CloudState, newest, Link, IsIn, StandsAt, nodes_of, roots_of}
use Rattle.db_base.specs.declared.names.ObjName.TheVariants as object
use Rattle.cloud_facts.specs.Book.Telling.{newest_leaf, gone_of}
use Rattle.cloud_facts.specs.Chains.Chain.{IsChained}
use Rattle.cloud_facts.specs.Chains.Gones.{AreKept}
use Rattle.cloud_facts.specs.Chains.Links.{page_after}
use Rattle.cloud_facts.specs.Decoding.Decodes.{Decodes}
use Rattle.replay_meaning.specs.Chain.{Leads, AreLeaves}
use Rattle.replay_meaning.proofs.ChainLemmas.{one_leaf}
use Rattle.cloud_facts.specs.Meanings.Contents.{leaves_of, IsAlong}
use Rattle.cloud_facts.proofs.Meanings.Pages.{IsLeafAt, leaf_at}
use Rattle.db_base.specs.Ids.{IsPage}

leads_links : (s : CloudState) (tree : ℕ) (leaf : ℕ → Leaf) (links : List Link) → ((link : Link) → IsIn links link → IsPage link.page)
    → ((place : ℕ) (link : Link) → StandsAt links place link → IsLeafAt s tree leaf link (slice_get links (suc place)))
    → Leads s tree (page_after (slice_get links 0)) (leaves_of leaf links) 0
leads_links s tree leaf [] pages each = refl
leads_links s tree leaf (x ∷ links) pages each =
    let first = each zero x refl in
    let rest = leads_links s tree leaf links (λ a k. pages a (suc k.0, k.1)) (λ place a k. each (suc place) a k) in
    (pages x (zero, refl), first.newest, subst (λ (p : ℕ). Leads s tree p (leaves_of leaf links) 0) (sym first.ends.right) rest)

-- the chain of leaves is never broken
pub links_are_leaves : (s : CloudState) (tree : ℕ) (chain : ℕ → List Link) (done : List ℕ → ℕ → ℕ → ℕ) (cursor : ℕ → ℕ)
    → IsChained chain (nodes_of s tree) (roots_of s tree) done cursor → AreKept chain (gone_of s tree) → Decodes s → AreLeaves s tree (leaves_of (newest_leaf (nodes_of s) tree) (chain 0))
links_are_leaves s tree chain done cursor h kept d =
    subst (λ (p : ℕ). Leads s tree p (leaves_of (newest_leaf (nodes_of s) tree) (chain 0)) 0) first
    (leads_links s tree (newest_leaf (nodes_of s) tree) (chain 0) (λ link k. (h.pages.linked 0 link k).0) (leaf_at s tree chain done cursor h kept d))
  where
    first : page_after (slice_get (chain 0) 0) ≡ 1
    first = ap (λ (ls : List Link). page_after (slice_get ls 0)) h.levels.leaves.1

-- there is one such list of leaves
pub one_way : (s : CloudState) (tree from : ℕ) (leaves others : List Leaf) → Leads s tree from leaves 0 → Leads s tree from others 0 → leaves ≡ others
one_way s tree from [] [] a b = refl
one_way s tree from [] (m ∷ others) a b = absurd (omega (arith, a, b.0))
one_way s tree from (l ∷ leaves) [] a b = absurd (omega (arith, b, a.0))
one_way s tree from (l ∷ leaves) (m ∷ others) a b =
    let same : l ≡ m = one_leaf tree from (newest s (object.Page tree from)) l m a.1 b.1 in
    let there : Leads s tree l.right others 0 = subst (λ (x : Leaf). Leads s tree x.right others 0) (sym same) b.2 in
    ap (λ (ls : List Leaf). l ∷ ls) (one_way s tree l.right leaves others a.2 there) ∙ ap (λ (x : Leaf). x ∷ others) same

-- ---- some of the leaves

along : (s : CloudState) (tree : ℕ) (leaf : ℕ → Leaf) (links : List Link)
    → ((place : ℕ) (link : Link) → StandsAt links place link → IsLeafAt s tree leaf link (slice_get links (suc place))) → (leaves : List Leaf) (page : ℕ)
    → Leads s tree (page_after (slice_get links 0)) leaves page → IsAlong leaf links leaves page
along s tree leaf links each [] page lead = record { front = []; rest = links; is = refl; leaves_are = refl; page_is = sym lead }
along s tree leaf [] each (l ∷ leaves) page lead = absurd (omega (arith, lead.0))
along s tree leaf (x ∷ links) each (l ∷ leaves) page lead =
    let first = each zero x refl in
    let same : l ≡ leaf x.page = one_leaf tree x.page (newest s (object.Page tree x.page)) l (leaf x.page) lead.1 first.newest in
    let right : l.right ≡ page_after (slice_get links 0) = ap (λ (y : Leaf). y.right) same ∙ first.ends.right in
    let again = along s tree leaf links (λ place a k. each (suc place) a k) leaves page (subst (λ (p : ℕ). Leads s tree p leaves page) right lead.2) in
    record {
      front = x ∷ again.front;
      rest = again.rest;
      is = ap (λ (ls : List Link). x ∷ ls) again.is;
      leaves_are = ap (λ (ls : List Leaf). l ∷ ls) again.leaves_are ∙ ap (λ (y : Leaf). y ∷ leaves_of leaf again.front) same;
      page_is = again.page_is;
    }

-- leaves that lead from page 1 to a page are those of the first links, and the page is that of the next one
pub leads_along : (s : CloudState) (tree : ℕ) (chain : ℕ → List Link) (done : List ℕ → ℕ → ℕ → ℕ) (cursor : ℕ → ℕ)
    → IsChained chain (nodes_of s tree) (roots_of s tree) done cursor → AreKept chain (gone_of s tree) → Decodes s → (leaves : List Leaf) (page : ℕ) → Leads s tree 1 leaves page
    → IsAlong (newest_leaf (nodes_of s) tree) (chain 0) leaves page
leads_along s tree chain done cursor h kept d leaves page lead =
    let first : page_after (slice_get (chain 0) 0) ≡ 1 = ap (λ (ls : List Link). page_after (slice_get ls 0)) h.levels.leaves.1 in
    along s tree (newest_leaf (nodes_of s) tree) (chain 0) (leaf_at s tree chain done cursor h kept d) leaves page
    (subst (λ (p : ℕ). Leads s tree p leaves page) (sym first) lead)
