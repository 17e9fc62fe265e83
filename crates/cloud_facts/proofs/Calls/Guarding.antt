-- What the leases of one session guard, a call of another one leaves as it is: heads, roots, inner nodes, absent pages, links and leaves.
use Rattle.std.proofs.Common.{◌≡◌, ◌≢◌, ◌⊎◌, inl, inr, ℕ, Bool, true, false, cond, List, [], map, Option, Some, None, refl, sym, ap, subst, ◌∙◌, arith}
use Rattle.std.proofs.lemmas.Bool.{eq-eqb, ne_eqb}
use Rattle.cloud_facts.specs.Chains.Links.{newest_node}
use Rattle.cloud_facts.specs.Calls.Links.{HasTreeLease, SameLinks, LinksBy, SameGone, GoneBy}
use Rattle.cloud_facts.specs.Calls.Others.{Passes, Others}
use Rattle.cloud_facts.specs.Calls.Pages.{IsLeafPage, IsTreePage}
use Rattle.cloud_facts.specs.Words.{ObjName, Entry, Leaf, Inner, Version, CloudState, newest, Claim, Lasts, Book, Store, Node, Leafy, Branch, IsIn, nodes_of, store_of, StandsUnder}
use Rattle.cloud_facts.proofs.Calls.Pages.{some_landed, none_landed}
use Rattle.cloud_facts.proofs.Calls.Passing.{passes_itself}
use Rattle.db_base.specs.declared.names.Lock.TheVariants as lock
use Rattle.db_base.specs.declared.names.ObjName.TheVariants as object
use Rattle.cloud_facts.specs.Decoding.Decodes.{Decodes}
use Rattle.cloud_facts.specs.Decoding.Kinds.{IsNode, IsRemoval}
use Rattle.cloud_facts.proofs.Decoding.Reading.{leaf_only, node_spelled}
use Rattle.cloud_facts.proofs.Decoding.Values.{newest_page_decodes}
use Rattle.cloud_facts.proofs.Decoding.Versions.{bare_added}
use Rattle.head_codec.specs.Head.{empty_head}
use Rattle.leaf_view.specs.Leaf.{IsLeaf}
use Rattle.cloud_facts.specs.Leases.Guards.{guard, guard_of_leaf, guard_of_page, IsRemovedBy, Allowed}
use Rattle.cloud_facts.specs.Leases.Leases.{Hands, LeasesHold}
use Rattle.cloud_facts.proofs.Leases.GuardLemmas.{guarded_stays, lasting_apart}
use Rattle.node_codec.specs.Inner.{IsInner}
use Rattle.cloud_facts.specs.Book.Telling.{last_or, head_in, root_in, node_in, node_or, with_bytes, gone_of, leaf_of_bytes}

-- ---- guards, by what is told

-- the guard of a page whose bytes spell a leaf, and of one whose bytes spell none
guard_read : (tree page : ℕ) (bytes : List ℕ) (o : Option Leaf) → leaf_of_bytes bytes ≡ o → guard_of_page tree page (Some bytes) ≡ guard_of_leaf tree page o
unfolding leaf_of_bytes
guard_read tree page bytes o e = ap (guard_of_leaf tree page) e

guard_absent : (tree page : ℕ) → page ≢ 1 → guard_of_page tree page None ≡ lock.Tree tree
guard_absent tree page other = ap (λ (b : Bool). cond b (lock.Page tree page) (lock.Tree tree)) (ne_eqb page 1 other)

guard_first : (tree page : ℕ) → page ≡ 1 → guard_of_page tree page None ≡ lock.Page tree page
guard_first tree page first = ap (λ (b : Bool). cond b (lock.Page tree page) (lock.Tree tree)) (eq-eqb page 1 first)

-- the bytes of an inner node spell no leaf
no_leaf : (bytes : List ℕ) (n : Inner) → IsInner bytes n → leaf_of_bytes bytes ≡ None
no_leaf bytes n spells = on (leaf_of_bytes bytes) refl
  where
    on : (o : Option Leaf) → leaf_of_bytes bytes ≡ o → o ≡ None
    on None e = refl
    on (Some l) e =
        let reads : node_or (leaf_of_bytes bytes) bytes ≡ Branch n = node_spelled bytes (Branch n) spells in
        let no : Leafy l ≡ Branch n = ap (λ (o : Option Leaf). node_or o bytes) (sym e) ∙ reads in
        absurd (cc)

-- a leaf that was not removed is guarded by its page's lock
pub leaf_guard : (s : CloudState) (tree page : ℕ) → Decodes s → gone_of s tree page ≡ false → IsLeafPage (nodes_of s tree) page → guard s (object.Page tree page) ≡ lock.Page tree page
leaf_guard s tree page d there is = on (newest s (object.Page tree page)) refl
  where
    on : (v : Option (List ℕ)) → newest s (object.Page tree page) ≡ v → guard_of_page tree page v ≡ lock.Page tree page
    on None e = guard_first tree page (is.absent (none_landed s tree page d there e))
    on (Some bytes) e =
        let spells : IsLeaf bytes is.leaf = subst (λ (n : Node). IsNode bytes n) is.is (newest_page_decodes s tree page bytes d e) in
        guard_read tree page bytes (Some is.leaf) (leaf_only bytes is.leaf spells)

-- an inner node and an absent page by their tree's
pub tree_guard : (s : CloudState) (tree page : ℕ) → Decodes s → gone_of s tree page ≡ false → IsTreePage (nodes_of s tree) page → guard s (object.Page tree page) ≡ lock.Tree tree
tree_guard s tree page d there (inl (none, other)) = ap (guard_of_page tree page) (some_landed s tree page none) ∙ guard_absent tree page other
tree_guard s tree page d there (inr (n, is)) = on (newest s (object.Page tree page)) refl
  where
    on : (v : Option (List ℕ)) → newest s (object.Page tree page) ≡ v → guard_of_page tree page v ≡ lock.Tree tree
    on None e = absurd (never (nodes_of s tree page) (none_landed s tree page d there e))
      where
        never : (ns : List Node) → nodes_of s tree page ≡ [] → ⊥
        never ns none = let no : newest_node (λ p. []) page ≡ Branch n = ap (λ (l : List Node). newest_node (λ p. l) page) (sym none) ∙ is in cc
    on (Some bytes) e =
        let spells : IsInner bytes n = subst (λ (x : Node). IsNode bytes x) is (newest_page_decodes s tree page bytes d e) in
        guard_read tree page bytes None (no_leaf bytes n spells)

-- ---- a call of another session

pub others_of : (book new : Book) (order later : List Entry) (s t : CloudState) (hands : Hands) (actor session : ℕ) → StandsUnder book order s → StandsUnder new later t
    → LeasesHold s.now s.locks hands → Allowed hands actor s t → session ≢ actor → Passes (store_of book order s) (store_of new later t)
    → LinksBy (hands actor) t.now (store_of book order s) (store_of new later t) → GoneBy (hands actor) t.now (store_of book order s) (store_of new later t)
    → Others (hands session) t.now (store_of book order s) (store_of new later t)
others_of book new order later s t hands actor session stands after leases allowed ne passes joins removes = record {
  passes = passes;
  head = λ l client is at lasts. ap (λ (vs : List Version). last_or empty_head (map head_in vs)) (kept (object.Head client) (λ no. no) l is at lasts);
  roots = λ l tree is at lasts. ap (map root_in) (kept (object.Tree tree) (λ no. no) l is at lasts);
  links = links;
  gone = gone;
  page = λ l tree page is at lasts own. nodes tree page l is lasts (λ there. at ∙ sym (tree_guard s tree page stands.decodes there own));
  leaf = λ l tree page is at lasts own. nodes tree page l is lasts (λ there. at ∙ sym (leaf_guard s tree page stands.decodes there own));
}
  where
    stays : (name : ObjName) (l : Claim) → IsIn (hands session) l → l.lock ≡ guard s name → Lasts t.now l
        → (t.versions name ≡ s.versions name) ⊎ IsRemovedBy hands actor t.now name (s.versions name) (t.versions name)
    stays name l is at lasts = guarded_stays s t hands actor session name leases allowed ne (record { lease = l; held = is; lock = at; lasts = lasts })

    -- heads and roots are not removed
    kept : (name : ObjName) → (IsRemoval name → ⊥) → (l : Claim) → IsIn (hands session) l → l.lock ≡ guard s name → Lasts t.now l → t.versions name ≡ s.versions name
    kept name never l is at lasts = on (stays name l is at lasts)
      where
        on : (t.versions name ≡ s.versions name) ⊎ IsRemovedBy hands actor t.now name (s.versions name) (t.versions name) → t.versions name ≡ s.versions name
        on (inl same) = same
        on (inr r) = absurd (never (subst IsRemoval (sym r.name_is) tt))

    -- a removal leaves the nodes of a page, and what was removed before is in no chain, and stays as it is
    nodes : (tree page : ℕ) (l : Claim) → IsIn (hands session) l → Lasts t.now l → (gone_of s tree page ≡ false → l.lock ≡ guard s (object.Page tree page))
        → nodes_of t tree page ≡ nodes_of s tree page
    nodes tree page l is lasts at = on (gone_of s tree page) refl
      where
        by : (t.versions (object.Page tree page) ≡ s.versions (object.Page tree page))
            ⊎ IsRemovedBy hands actor t.now (object.Page tree page) (s.versions (object.Page tree page)) (t.versions (object.Page tree page))
            → nodes_of t tree page ≡ nodes_of s tree page
        by (inl same) = ap (λ (vs : List Version). map node_in (with_bytes vs)) same
        by (inr r) =
            ap (λ (vs : List Version). map node_in (with_bytes vs)) r.versions
            ∙ ap (map node_in) (bare_added (s.versions (object.Page tree page)) r.removal r.none)

        on : (b : Bool) → gone_of s tree page ≡ b → nodes_of t tree page ≡ nodes_of s tree page
        on true e =
            passes.grows.unlinked tree page (stands.holds.gones tree page e).0 (after.holds.gones tree page (passes.grows.gone tree page e)).1
        on false e = by (stays (object.Page tree page) l is (at e) lasts)

    -- two sessions have no lasting lease of one tree
    never : (l : Claim) (tree : ℕ) → IsIn (hands session) l → l.lock ≡ lock.Tree tree → Lasts t.now l → HasTreeLease (hands actor) t.now tree → ⊥
    never l tree is at lasts has =
        lasting_apart s.now s.locks hands session actor (lock.Tree tree) leases ne
        (record { lease = l; held = is; lock = at; lasts = omega (arith, lasts, allowed.later) })
        (record {
          lease = has.lease;
          held = has.held;
          lock = has.lock_is;
          current = (leases.each actor has.lease has.held).lasting (omega (arith, has.lasts, allowed.later)) ∙ ap (λ q. (s.locks q).generation) has.lock_is;
        })

    links : (l : Claim) (tree : ℕ) → IsIn (hands session) l → l.lock ≡ lock.Tree tree → Lasts t.now l → SameLinks (store_of book order s) (store_of new later t) tree
    links l tree is at lasts = on (joins tree)
      where
        on : SameLinks (store_of book order s) (store_of new later t) tree ⊎ HasTreeLease (hands actor) t.now tree → SameLinks (store_of book order s) (store_of new later t) tree
        on (inl same) = same
        on (inr has) = absurd (never l tree is at lasts has)

    gone : (l : Claim) (tree : ℕ) → IsIn (hands session) l → l.lock ≡ lock.Tree tree → Lasts t.now l → SameGone (store_of book order s) (store_of new later t) tree
    gone l tree is at lasts = on (removes tree)
      where
        on : SameGone (store_of book order s) (store_of new later t) tree ⊎ HasTreeLease (hands actor) t.now tree → SameGone (store_of book order s) (store_of new later t) tree
        on (inl same) = same
        on (inr has) = absurd (never l tree is at lasts has)

-- nothing changes
pub others_itself : (mine : List Claim) (later : ℕ) (st : Store) → Others mine later st st
others_itself mine later st = record {
  passes = passes_itself st;
  head = λ l client is e lasts. refl;
  roots = λ l tree is e lasts. refl;
  links = λ l tree is e lasts level. refl;
  gone = λ l tree is e lasts page. refl;
  page = λ l tree page is e lasts own. refl;
  leaf = λ l tree page is e lasts own. refl;
}

-- fewer leases are relied on
pub fewer_others : (mine more : List Claim) (later : ℕ) (st su : Store) → ((l : Claim) → IsIn mine l → IsIn more l) → Others more later st su → Others mine later st su
fewer_others mine more later st su within o = record {
  passes = o.passes;
  head = λ l client is. o.head l client (within l is);
  roots = λ l tree is. o.roots l tree (within l is);
  links = λ l tree is. o.links l tree (within l is);
  gone = λ l tree is. o.gone l tree (within l is);
  page = λ l tree page is. o.page l tree page (within l is);
  leaf = λ l tree page is. o.leaf l tree page (within l is);
}
