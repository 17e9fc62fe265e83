-- The versions of a page, its newest one by the newest bytes, and its queue.
use Rattle.std.proofs.Common.{◌≡◌, ◌+◌, ◌≤◌, ◌⊎◌, inl, inr, ℕ, zero, suc, true, false, List, map, Option, Some, None, refl, sym, ap, subst, ◌∙◌, arith}
use Rattle.std.specs.Prelude.{is_some}
use Rattle.cloud_facts.specs.Chains.Gones.{Gones}
use Rattle.cloud_facts.proofs.Chains.GoneLemmas.{links_kept}
use Rattle.cloud_facts.specs.Chains.Links.{newest_node}
use Rattle.cloud_facts.proofs.Calls.Pages.{none_landed}
use Rattle.cloud_facts.specs.Words.{Leaf, Version, CloudState, newest, Store, Node, Leafy, IsIn, StandsAt, nodes_of}
use Rattle.cloud_facts.specs.Decoding.Decodes.{Decodes}
use Rattle.cloud_facts.specs.Decoding.Kinds.{HasNth, IsLastRemoval, AreOfKind}
use Rattle.db_base.specs.declared.names.ObjName.TheVariants as object
use Rattle.db_base.specs.declared.names.QueueName.TheVariants as queue
use Rattle.cloud_facts.proofs.Decoding.Newest.{last_map, last_there, newest_last}
use Rattle.cloud_facts.proofs.Decoding.Reading.{leaf_only, node_reads}
use Rattle.cloud_facts.proofs.Decoding.Versions.{all_there}
use Rattle.cloud_facts.proofs.Numbers.Lists.{Passes, filter_there}
use Rattle.leaf_view.specs.Leaf.{IsLeaf}
use Rattle.leaf_view.specs.Lookup.{empty_leaf, number_of as done_number}
use Rattle.cloud_facts.specs.Book.Tally.{version_of}
use Rattle.cloud_facts.specs.Book.Telling.{last_or, node_in, node_of_bytes, node_or, with_bytes, gone_of, newest_leaf, cursor_of, queue_of}
use Rattle.cloud_facts.proofs.Book.Lengths.{image}
use Rattle.cloud_facts.specs.Tellings.Taking.{IsLinked}

-- ---- versions

-- no page that is linked was removed
pub linked_kept : (st : Store) → Gones st → (tree level page : ℕ) → IsLinked (st.book.chain tree level) page → st.tally.gone tree page ≡ false
linked_kept st h tree level page linked =
    subst (λ (p : ℕ). st.tally.gone tree p ≡ false) linked.page_is (links_kept st h tree level linked.link (linked.place, linked.linked))

-- a node is of the number of one of these versions
abbrev pub IsNumbered : List Version → Node → Type 0
IsNumbered vs n = (place : ℕ) × (v : Version) × StandsAt vs place v × (version_of n ≡ place + 1)

pub node_numbered : (tree page : ℕ) (vs : List Version) (n : Node) → AreOfKind (object.Page tree page) vs → IsIn (map node_in (with_bytes vs)) n
    → IsNumbered vs n
node_numbered tree page vs n are is = on (image node_in (with_bytes vs) n is)
  where
    on : (v : Version) × IsIn (with_bytes vs) v × (node_in v ≡ n) → IsNumbered vs n
    on (v, (among, at), same) = by (filter_there (λ (w : Version). is_some w.bytes) vs among v at)
      where
        by : Passes (λ (w : Version). is_some w.bytes) vs among v → IsNumbered vs n
        by p = kind (are p.place v p.there)
          where
            kind : HasNth (object.Page tree page) (p.place + 1) v ⊎ IsLastRemoval (object.Page tree page) vs p.place v → IsNumbered vs n
            kind (inl k) = (p.place, v, p.there, ap version_of (sym same ∙ node_reads v k.0 k.2.0 k.1 k.2.1) ∙ k.2.2)
            kind (inr r) =
                let no : true ≡ false = sym p.test ∙ ap (λ (b : Option (List ℕ)). is_some b) r.none in
                absurd (cc (no))

-- ---- the newest version

-- a page without bytes that was not removed is the empty leaf
pub absent_page : (s : CloudState) (tree page : ℕ) → Decodes s → gone_of s tree page ≡ false → newest s (object.Page tree page) ≡ None
    → newest_node (nodes_of s tree) page ≡ Leafy empty_leaf
absent_page s tree page d there none = ap (λ (ns : List Node). last_or (Leafy empty_leaf) ns) (none_landed s tree page d there none)

-- and one whose bytes spell a leaf is that leaf
pub spelled_page : (s : CloudState) (tree page : ℕ) (bytes : List ℕ) (l : Leaf) → Decodes s → newest s (object.Page tree page) ≡ Some bytes → IsLeaf bytes l
    → newest_node (nodes_of s tree) page ≡ Leafy l
spelled_page s tree page bytes l d e spells =
    let last = newest_last (s.versions (object.Page tree page)) bytes e in
    let all = all_there (object.Page tree page) (s.versions (object.Page tree page)) (d.versions (object.Page tree page))
    (last_there (s.versions (object.Page tree page)) last.0 bytes last.1 last.2) in
    ap (λ (vs : List Version). last_or (Leafy empty_leaf) (map node_in vs)) all
    ∙ (last_map node_in (Leafy empty_leaf) (s.versions (object.Page tree page)) last.0 last.1
    ∙ (ap node_of_bytes last.2
    ∙ ap (λ (o : Option Leaf). node_or o bytes) (leaf_only bytes l spells)))

-- ---- the queue of a page

-- its cursor is what the newest leaf has done of it
pub own_cursor : (s : CloudState) (tree page client : ℕ) → 1 ≤ page → cursor_of s tree page client ≡ done_number (newest_leaf (nodes_of s) tree page).done page client
own_cursor s tree zero client some = absurd (omega (arith, some))
own_cursor s tree (suc page) client some = refl

pub own_queue : (tree page : ℕ) → 1 ≤ page → queue_of tree page ≡ queue.PagePu tree page
own_queue tree zero some = absurd (omega (arith, some))
own_queue tree (suc page) some = refl
