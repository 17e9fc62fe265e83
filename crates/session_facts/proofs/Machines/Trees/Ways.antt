-- The way down from the root to a leaf: where it begins, and where the held get of a node leads.
use Rattle.std.proofs.Common.{◌≡◌, ◌≢◌, ◌-◌, ◌<◌, ◌⊎◌, inl, inr, ℕ, zero, suc, List, [], ◌∷◌, ◌++◌, take, drop, Option, Some, None, Result, Ok, Err, refl, sym, subst, ◌∙◌, arith, take-append-drop}
use Rattle.cloud_facts.specs.Chains.Chain.{IsChained}
use Rattle.cloud_facts.specs.Chains.Links.{newest_node, IsOfLevel}
use Rattle.cloud_facts.proofs.Chains.Newest.{newest_is, last_in}
use Rattle.cloud_facts.proofs.Chains.GoneLemmas.{links_kept}
use Rattle.cloud_facts.specs.Meanings.Meets.{IsAt}
use Rattle.cloud_facts.proofs.Meanings.Stale.{stale_root, absent_root}
use Rattle.cloud_facts.proofs.Meanings.Steps.{from_root, from_none}
use Rattle.cloud_facts.specs.Words.{Trouble, Entry as Change, Inner, Tree, CloudState, newest, Claim, Next, Book, Link, Store, Node, Leafy, Branch, IsIn, nodes_of, roots_of, store_of, StandsUnder}
use Rattle.db_base.specs.declared.names.ObjName.TheVariants as object
use Rattle.cloud_facts.specs.Decoding.Kinds.{IsNode}
use Rattle.cloud_facts.proofs.Decoding.Values.{newest_page_decodes}
use Rattle.leaf_view.specs.Lookup.{empty_leaf}
use Rattle.node_codec.specs.Inner.{IsInner}
use Rattle.node_codec.specs.Node.{Entry, child_of}
use Rattle.cloud_facts.specs.Book.Telling.{newest_root}
use Rattle.cloud_facts.proofs.Book.Places.{in_either, in_front, in_behind, in_none}
use Rattle.tree_phases.specs.declared.descent.Descent.{Descent}
use Rattle.tree_phases.specs.Descent.{begun, passed, with_node}
use Rattle.tree_phases.specs.declared.fork.Fork.{Fork}
use Rattle.tree_phases.specs.Fork.{forked_on}
use Rattle.tree_phases.proofs.Reading.{inner_is}
use Rattle.tree_phases.specs.declared.chart.Chart.{Chart}
use Rattle.tree_phases.specs.declared.kept.KeptNode.{KeptNode}
use Rattle.tree_phases.specs.Kept.{place_of, with_kept}
use Rattle.tree_phases.specs.Read.{tree_held}
use Rattle.session_facts.specs.Machines.Trees.Charts.{IsRootOf, KnowsNode, KnowsNodes, KnowsChart}
use Rattle.session_facts.specs.Machines.Trees.Ways.{KnowsWay, WayLeads}
use Rattle.cloud_facts.proofs.Calls.Pages.{none_landed}
use Rattle.session_facts.proofs.Machines.Trees.Strides.{bytes_lead, arrives_on}
use Rattle.tree_ckpt.proofs.WayOutcomes.{Reads, Gets, reads_fork}
use Rattle.tree_ckpt.proofs.WayOutcomes as way

-- ---- from the root

-- a root that landed, and that of an absent tree, have an entry for every key, and it names a link of the level below
root_meets : (chain : ℕ → List Link) (nodes : ℕ → List Node) (roots : List Tree) (done : List ℕ → ℕ → ℕ → ℕ) (cursor : ℕ → ℕ) → IsChained chain nodes roots done cursor
    → (root : Tree) (key : List ℕ) → IsRootOf roots root → (e : Entry) × (child_of key root.entries ≡ Some e) × IsAt chain (root.level - 1) e.1 e.0 key
root_meets chain nodes roots done cursor h root key (inl none) =
    let m = absent_root chain nodes roots done cursor h key in
    subst (λ (r : Tree). (e : Entry) × (child_of key r.entries ≡ Some e) × IsAt chain (r.level - 1) e.1 e.0 key) (sym none)
    (m.entry, m.found, from_none chain nodes roots done cursor h key m.entry m.found)
root_meets chain nodes roots done cursor h root key (inr landed) =
    let m = stale_root chain nodes roots done cursor h root key landed in
    let below : root.level - 1 ≡ m.below = omega (arith, m.level_is) in (
      m.entry,
      m.found,
      subst (λ (l : ℕ). IsAt chain l m.entry.1 m.entry.0 key) (sym below)
          (from_root chain nodes roots done cursor h root key m.below m.entry landed m.level_is m.found),
    )

pub way_begins : (st : Store) (now : ℕ) (lease : Claim) (c : Chart) → IsChained (st.book.chain c.tree) (st.tally.nodes c.tree) (st.tally.roots c.tree) (st.tally.done c.tree) (st.tally.cursor c.tree 0)
    → KnowsChart st now lease c → (e : Entry) × (child_of c.key (tree_held c.root).entries ≡ Some e) × KnowsWay st now lease (begun c e.0 e.1)
way_begins st now lease c h k =
    let m = root_meets (st.book.chain c.tree) (st.tally.nodes c.tree) (st.tally.roots c.tree) (st.tally.done c.tree) (st.tally.cursor c.tree 0) h (tree_held c.root) c.key k.root.landed in
    (m.0, m.1, record { chart = k; way = record { at = m.2; behind = λ p there. absurd (in_none [] p refl there) } })

-- ---- nodes that were got

-- a node that was got is the new one, or one that was got before
kept_cases : (k x : KeptNode) (ks : List KeptNode) → IsIn (with_kept k ks) x → (k ≡ x) ⊎ IsIn ks x
kept_cases k x ks there = on (in_either (take (place_of k ks) ks) (k ∷ drop (place_of k ks) ks) x there)
  where
    whole : take (place_of k ks) ks ++ drop (place_of k ks) ks ≡ ks
    whole = take-append-drop (place_of k ks) ks

    on : IsIn (take (place_of k ks) ks) x ⊎ IsIn (k ∷ drop (place_of k ks) ks) x → (k ≡ x) ⊎ IsIn ks x
    on (inl old) = inr (subst (λ (l : List KeptNode). IsIn l x) whole (in_front (take (place_of k ks) ks) (drop (place_of k ks) ks) x old))
    on (inr (zero, is)) = let same : k ≡ x = cc in inl same
    on (inr (suc place, is)) = inr (subst (λ (l : List KeptNode). IsIn l x) whole (in_behind (take (place_of k ks) ks) (drop (place_of k ks) ks) x (place, is)))

pub nodes_more : (st : Store) (now : ℕ) (lease : Claim) (tree : ℕ) (k : KeptNode) (ks : List KeptNode) → KnowsNode st now lease tree k → KnowsNodes st now lease tree ks
    → KnowsNodes st now lease tree (with_kept k ks)
nodes_more st now lease tree k ks new old x there = on (kept_cases k x ks there)
  where
    on : (k ≡ x) ⊎ IsIn ks x → KnowsNode st now lease tree x
    on (inl same) = subst (KnowsNode st now lease tree) same new
    on (inr before) = old x before

-- the newest node of a link's page above the leaves is an inner node
branch_of : (level : ℕ) (node : Node) → 0 < level → IsOfLevel level node → (n : Inner) × (node ≡ Branch n)
branch_of level (Leafy l) above is = absurd (omega (arith, above, is))
branch_of level (Branch n) above is = (n, refl)

module _ (book : Book) (order : List Change) (s : CloudState) (stands : StandsUnder book order s) (now : ℕ) (lease : Claim) (d : Descent)
    (k : KnowsWay (store_of book order s) now lease d) (above : 0 < d.level) where
  abbrev st : Store
  st = store_of book order s

  chained : IsChained (book.chain d.chart.tree) (nodes_of s d.chart.tree) (roots_of s d.chart.tree) (st.tally.done d.chart.tree) (st.tally.cursor d.chart.tree 0)
  chained = stands.holds.chains d.chart.tree k.chart.tree

  abbrev link : Link
  link = record { low = d.low; page = d.page }

  node : (n : Inner) × (newest_node (nodes_of s d.chart.tree) d.page ≡ Branch n)
  node =
      branch_of d.level (newest_node (nodes_of s d.chart.tree) d.page) above
      (newest_is (book.chain d.chart.tree) (nodes_of s d.chart.tree) (newest_root (roots_of s) d.chart.tree).level chained.levels chained.versions chained.newest
      d.level link k.way.at.linked).level_is

  some : nodes_of s d.chart.tree d.page ≢ []
  some e = let level = (chained.newest.absent d.level link k.way.at.linked e).0 in absurd (omega (arith, above, level))

  landed : IsIn (nodes_of s d.chart.tree d.page) (Branch node.0)
  landed = subst (λ (x : Node). IsIn (nodes_of s d.chart.tree d.page) x) node.1 (last_in (Leafy empty_leaf) (nodes_of s d.chart.tree d.page) some)

  spelled : (bytes : List ℕ) → newest s (object.Page d.chart.tree d.page) ≡ Some bytes → IsInner bytes node.0
  spelled bytes e = subst (λ (x : Node). IsNode bytes x) node.1 (newest_page_decodes s d.chart.tree d.page bytes stands.decodes e)

  -- the node that is got is a link's, of the level and low key that led there
  got_known : (bytes : List ℕ) → newest s (object.Page d.chart.tree d.page) ≡ Some bytes
      → KnowsNode st now lease d.chart.tree (record { page = d.page; level = d.level; low = d.low; bytes = bytes })
  got_known bytes e = record {
    inner = node.0;
    spells = spelled bytes e;
    linked = k.way.at.linked;
    landed = landed;
    newest = λ lasts. node.1;
  }

  with_known : (bytes : List ℕ) → newest s (object.Page d.chart.tree d.page) ≡ Some bytes → KnowsWay st now lease (with_node d bytes)
  with_known bytes e = record {
    chart = record {
      tree = k.chart.tree;
      root = k.chart.root;
      nodes = nodes_more st now lease d.chart.tree (record { page = d.page; level = d.level; low = d.low; bytes = bytes }) d.chart.nodes (got_known bytes e) k.chart.nodes;
      links = k.chart.links;
    };
    way = k.way;
  }

  -- what is read of the node leads on
  bytes_on : {r : Result Fork Trouble} (bytes : List ℕ) → Some bytes ≡ newest s (object.Page d.chart.tree d.page) → Reads d bytes r → r ≡ Ok (forked_on d.chart.key node.0)
  bytes_on bytes is r =
      sym (reads_fork r)
      ∙ (bytes_lead st now lease stands.holds.chains d bytes node.0 k (inner_is d.chart.tree d.page bytes node.0 (spelled bytes (sym is))) landed).0

  behind_knows : (bytes : List ℕ) → Some bytes ≡ newest s (object.Page d.chart.tree d.page) → KnowsWay st now lease (passed (with_node d bytes) (forked_on d.chart.key node.0))
  behind_knows bytes is =
      (bytes_lead st now lease stands.holds.chains (with_node d bytes) bytes node.0 (with_known bytes (sym is))
      (inner_is d.chart.tree d.page bytes node.0 (spelled bytes (sym is))) landed).1

  never_absent : {X : Type 0} → None ≡ newest s (object.Page d.chart.tree d.page) → X
  never_absent is = absurd (some (none_landed s d.chart.tree d.page stands.decodes (links_kept st stands.holds.gones d.chart.tree d.level link k.way.at.linked) (sym is)))

  -- the held get of a node leads on, and where it stops it was refused or failed
  pub got_leads : {g : Result (Option (List ℕ)) Trouble} {next : Next Descent (Unit {0})} → ((v : Option (List ℕ)) → g ≡ Ok v → v ≡ newest s (object.Page d.chart.tree d.page))
      → Gets d g next → WayLeads st now lease (λ t. g ≡ Err t) next
  got_leads seen (way.goes_on bytes n f reads leads on) =
      let is : Some bytes ≡ newest s (object.Page d.chart.tree d.page) = seen (Some bytes) refl in
      let both : Ok f ≡ Ok (forked_on d.chart.key node.0) = bytes_on bytes is (way.leads n f reads leads) in
      let same : f ≡ forked_on d.chart.key node.0 = cc (both) in
      arrives_on st now lease stands.holds.chains (λ t. Ok (Some bytes) ≡ Err t) on
      (subst (λ (x : Fork). KnowsWay st now lease (passed (with_node d bytes) x)) (sym same) (behind_knows bytes is))
  got_leads seen (way.wrong bytes t r) = absurd (let clash : Err t ≡ Ok (forked_on d.chart.key node.0) = bytes_on bytes (seen (Some bytes) refl) r in cc (clash))
  got_leads seen (way.no_root first) = never_absent (seen None refl)
  got_leads seen (way.absent other) = never_absent (seen None refl)
  got_leads seen (way.refused t) = refl
