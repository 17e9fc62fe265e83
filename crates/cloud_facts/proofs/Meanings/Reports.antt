-- What a report reads of a tree: its chain of leaves is whole, its records have the values that are told, and the index finds them.
use Rattle.std.proofs.Common.{◌≡◌, ℕ, cond, Bool, List, Option, ◌∷◌, sym, ap, subst, ◌∙◌}
use Rattle.cloud_facts.specs.Words.{IsTree, Leaf, CloudState, Link, Store, nodes_of, roots_of}
use Rattle.db_base.specs.Value.{Value}
use Rattle.leaf_view.specs.Lookup.{value_of}
use Rattle.node_codec.proofs.NodeLemmas.{not_below_empty}
use Rattle.replay_meaning.specs.Right.{value_at}
use Rattle.cloud_facts.specs.Book.Tally.{Tally}
use Rattle.cloud_facts.specs.Book.Telling.{tally_of, page_from, newest_leaf, gone_of}
use Rattle.cloud_facts.specs.Chains.Chain.{IsChained, ChainHolds}
use Rattle.cloud_facts.specs.Chains.Gones.{Gones, AreKept}
use Rattle.cloud_facts.proofs.Chains.GoneLemmas.{links_kept}
use Rattle.cloud_facts.specs.Chains.Links.{first_link, Ascends}
use Rattle.cloud_facts.specs.Decoding.Decodes.{Decodes}
use Rattle.replay_meaning.specs.Chain.{AreLeaves, records_of}
use Rattle.replay_meaning.specs.Index.{Finds}
use Rattle.cloud_facts.specs.Meanings.Contents.{leaves_of, IsRead}
use Rattle.cloud_facts.proofs.Meanings.Ascending.{records_ascend}
use Rattle.cloud_facts.proofs.Meanings.Contents.{AreRanged, contents_from}
use Rattle.cloud_facts.proofs.Meanings.Finding.{finds}
use Rattle.cloud_facts.proofs.Meanings.Leaves.{links_are_leaves, one_way}
use Rattle.cloud_facts.proofs.Meanings.Pages.{leaf_at, read_ascends, read_range}

-- the links of a leaf chain begin with the first leaf
contents_all : (key : List ℕ) (leaf : ℕ → Leaf) (links rest : List Link) → links ≡ first_link ∷ rest → Ascends links → AreRanged leaf links
    → value_at key (records_of (leaves_of leaf links)) ≡ value_of key (leaf (page_from 1 key links)).records
contents_all key leaf links rest e up ranged =
    subst (λ (ls : List Link). value_at key (records_of (leaves_of leaf ls)) ≡ value_of key (leaf (page_from 1 key ls)).records) (sym e)
    (contents_from key leaf first_link rest (subst Ascends e up).1 (subst (AreRanged leaf) e ranged) ∙ sym same)
  where
    same : value_of key (leaf (page_from 1 key (first_link ∷ rest))).records ≡ value_of key (leaf (page_from 1 key rest)).records
    same = ap (λ (b : Bool). value_of key (leaf (cond b 1 (page_from 1 key rest))).records) (not_below_empty key)

pub chained_reads : (s : CloudState) (tree : ℕ) (chain : ℕ → List Link) (done : List ℕ → ℕ → ℕ → ℕ) (cursor : ℕ → ℕ)
    → IsChained chain (nodes_of s tree) (roots_of s tree) done cursor → AreKept chain (gone_of s tree) → Decodes s
    → IsRead s tree (leaves_of (newest_leaf (nodes_of s) tree) (chain 0)) (λ key. value_of key (newest_leaf (nodes_of s) tree (page_from 1 key (chain 0))).records)
chained_reads s tree chain done cursor h kept d = record {
  chain = links_are_leaves s tree chain done cursor h kept d;
  ascending = records_ascend (newest_leaf (nodes_of s) tree) (chain 0) (h.levels.ascends 0) ranged;
  contents = λ key. contents_all key (newest_leaf (nodes_of s) tree) (chain 0) h.levels.leaves.0 h.levels.leaves.1 (h.levels.ascends 0) ranged;
  found = λ key. finds s tree chain done cursor h kept d key;
}
  where
    ranged : AreRanged (newest_leaf (nodes_of s) tree) (chain 0)
    ranged place link there = let at = leaf_at s tree chain done cursor h kept d place link there in record {
      low = at.low;
      high = at.ends.high;
      records = read_range tree link.page _ (newest_leaf (nodes_of s) tree link.page) at.newest;
      ascend = read_ascends tree link.page _ (newest_leaf (nodes_of s) tree link.page) at.newest;
    }

-- the leaves of a tree that a store tells
abbrev pub leaves_in : Store → ℕ → List Leaf
leaves_in st tree = leaves_of (newest_leaf st.tally.nodes tree) (st.book.chain tree 0)

-- a cloud that tells a store whose chains hold is read as the store tells
pub store_reads : (s : CloudState) (st : Store) (tree : ℕ) → tally_of st.book s ≡ st.tally → ChainHolds st → Gones st → IsTree tree → Decodes s
    → IsRead s tree (leaves_in st tree) (st.tally.value tree)
store_reads s st tree e h gones is d =
    subst (λ (t : Tally). IsRead s tree (leaves_of (newest_leaf t.nodes tree) (st.book.chain tree 0)) (t.value tree)) e
    (chained_reads s tree (st.book.chain tree) ((tally_of st.book s).done tree) ((tally_of st.book s).cursor tree 0)
    (subst (λ (t : Tally). IsChained (st.book.chain tree) (t.nodes tree) (t.roots tree) (t.done tree) (t.cursor tree 0)) (sym e) (h tree is))
    (subst (λ (t : Tally). AreKept (st.book.chain tree) (t.gone tree)) (sym e) (links_kept st gones tree)) d)

-- whatever leaves are all of the tree, they are those
pub all_leaves : (s : CloudState) (tree : ℕ) (leaves others : List Leaf) (value : List ℕ → Option Value) → IsRead s tree leaves value
    → AreLeaves s tree others
    → IsRead s tree others value
all_leaves s tree leaves others value read are =
    subst (λ (ls : List Leaf). IsRead s tree ls value) (one_way s tree 1 leaves others read.chain are) read

-- the index finds for each key what the records of all leaves have at it
pub finds_contents : (s : CloudState) (tree : ℕ) (leaves : List Leaf) (value : List ℕ → Option Value) → IsRead s tree leaves value → (key : List ℕ)
    → Finds s tree key (value_at key (records_of leaves))
finds_contents s tree leaves value read key = subst (Finds s tree key) (sym (read.contents key)) (read.found key)
