-- What other sessions may rely on: each call that lands on the chains only adds to what is told.
use Rattle.std.proofs.Common.{◌≡◌, ◌≤◌, ℕ, List, [], arith}
use Rattle.cloud_facts.specs.Words.{IsClient, IsTree, Inner, Tree, Link, Store, Node}
use Rattle.cloud_facts.proofs.Book.GrowthLemmas.{leaf_grows, page_grows, inner_grows, raise_grows}
use Rattle.cloud_facts.specs.Book.Effects.{Taking, after_leaf, after_page, after_inner, after_raise}
use Rattle.cloud_facts.specs.Book.Growth.{Grows}
use Rattle.cloud_facts.specs.Book.Premises.{CoversApplied}
use Rattle.cloud_facts.specs.Chains.Chain.{ChainHolds}
use Rattle.cloud_facts.specs.Chains.Landing.{LandsLeaf, LandsInner, LandsNew, Raises}

pub after_leaf_grows : (st : Store) (p : Taking) → LandsLeaf st p → Grows st (after_leaf p st)
after_leaf_grows st p leaf = leaf_grows st p leaf.lands.link (leaf.lands.place, leaf.lands.linked) leaf.lands.page_is

pub after_inner_grows : (st : Store) (tree page : ℕ) (inner : Inner) (pieces : List Link) → LandsInner st tree page inner pieces
    → Grows st (after_inner tree page inner pieces st)
after_inner_grows st tree page inner pieces lands =
    inner_grows st tree page inner pieces lands.link (lands.place, lands.linked) lands.page_is

-- the numbers of its own queue that the page lands with are at least those that the absent page had
pub after_page_grows : (st : Store) (tree page : ℕ) (node : Node) (own : ℕ → ℕ)
    → ((client : ℕ) → IsClient client → st.tally.cursor tree page client ≤ own client) → LandsNew st tree page node
    → Grows st (after_page tree page node own st)
after_page_grows st tree page node own rises lands = page_grows st tree page node own rises lands.absent

pub after_raise_grows : (st : Store) (tree : ℕ) (root : Tree) (level : ℕ) (links : List Link) → IsTree tree → ChainHolds st
    → CoversApplied st tree root → Raises st tree root level links → Grows st (after_raise tree root level links st)
after_raise_grows st tree root level links is holds covers raises = raise_grows st tree root level links covers (let same = raises.next in omega (arith, same)) none
  where
    none : st.book.chain tree level ≡ []
    none = (holds tree is).levels.above level (omega (arith, raises.level_is))
