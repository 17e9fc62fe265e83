-- The first leaf of a tree, and the newest versions of the pages of its leaf chain.
use Rattle.std.proofs.Common.{◌≡◌, ℕ, List, refl, arith}
use Rattle.cloud_facts.specs.Words.{IsTree, Entry, CloudState, Book, Link, Node, Leafy, Branch, IsIn, nodes_of, StandsUnder}
use Rattle.cloud_facts.specs.Chains.Links.{newest_node, IsOfLevel}
use Rattle.cloud_facts.proofs.Chains.Newest.{newest_is}
use Rattle.cloud_facts.specs.Calls.Pages.{IsLeafPage}
use Rattle.cloud_facts.specs.Book.Telling.{newest_leaf, leaf_in}

module _ (book : Book) (order : List Entry) (s : CloudState) (stands : StandsUnder book order s) (tree : ℕ) (is : IsTree tree) where
  leafy : (node : Node) → IsOfLevel 0 node → node ≡ Leafy (leaf_in node)
  leafy (Leafy l) level = refl
  leafy (Branch n) level = absurd (omega (arith, level.1))

  -- the newest version of a page of the leaf chain is a leaf
  pub newest_leafy : (link : Link) → IsIn (book.chain tree 0) link → newest_node (nodes_of s tree) link.page ≡ Leafy (newest_leaf (nodes_of s) tree link.page)
  newest_leafy link linked =
      let h = stands.holds.chains tree is in
      leafy (newest_node (nodes_of s tree) link.page) (newest_is (book.chain tree) (nodes_of s tree) _ h.levels h.versions h.newest 0 link linked).level_is

  -- so it is guarded by its own lock
  pub chain_leaf : (link : Link) → IsIn (book.chain tree 0) link → IsLeafPage (nodes_of s tree) link.page
  chain_leaf link linked = record {
    leaf = newest_leaf (nodes_of s) tree link.page;
    is = newest_leafy link linked;
    absent = λ none. ((stands.holds.chains tree is).newest.absent 0 link linked none).1;
  }
