-- What a checkpoint knows behind a landed put of a leaf, its chart with it: the pieces that are left, and behind the last one the whole chart.
use Rattle.std.proofs.Common.{◌≡◌, ◌+◌, ◌-◌, ◌⊎◌, inl, inr, ℕ, List, [], ◌∷◌, ◌++◌, drop, length, map, Option, Some, None, refl, sym, ap, subst, ◌∙◌, arith}
use Rattle.cloud_facts.specs.Chains.Cuts.{links_on}
use Rattle.cloud_facts.specs.Chains.Links.{newest_node, top_of}
use Rattle.cloud_facts.proofs.Chains.Pieces.{none_in, in_first, in_rest, in_cases, in_both, joined_has}
use Rattle.cloud_facts.specs.Words.{Entry, PuItem, Leaf, Inner, Tree, CloudState, Caller, Claim, Lasts, PutHeld, Book, Link, Store, Node, Leafy, Branch, IsIn, nodes_of, roots_of, store_of, StandsUnder}
use Rattle.cloud_facts.proofs.Calls.Passing.{landing_passes}
use Rattle.db_base.specs.declared.names.ObjName.TheVariants as object
use Rattle.leaf_edit.specs.Applied.{applied}
use Rattle.tree_phases.specs.declared.folding.Folding.{Folding}
use Rattle.tree_phases.specs.Folding.{landed, counted}
use Rattle.session_facts.specs.Machines.Runs.Knows.{TookRun}
use Rattle.session_facts.proofs.Machines.Runs.Marks.{run_stays}
use Rattle.split_plan.specs.Part.{LeafPart}
use Rattle.split_plan.specs.Plan.{entry_of, on_pages, leaf_bytes, leaf_pieces}
use Rattle.cloud_facts.specs.Book.Growth.{Grows}
use Rattle.cloud_facts.proofs.Tellings.Names.{at2_same, at2_beside}
use Rattle.cloud_facts.specs.Tellings.Pieces.{right_of}
use Rattle.tree_phases.specs.declared.link.Link.{Link as Found}
use Rattle.tree_phases.specs.Kept.{links_at}
use Rattle.tree_phases.specs.Placing.{root_after}
use Rattle.tree_phases.specs.Read.{tree_held}
use Rattle.session_facts.specs.Machines.Trees.Charts.{KnowsRoot, IsFound, AreFound}
use Rattle.session_facts.specs.Machines.Trees.Leaves.{KnowsRest, IsPutting}
use Rattle.session_facts.proofs.Machines.Trees.Others.{root_stays, nodes_stay, links_stay}
use Rattle.session_facts.proofs.Machines.Folds.Puts.{piece_after, piece_lands, piece_known, page_stays, reserved_last, within, left_after, left_lands, left_done, pieces_left}
use Rattle.session_facts.proofs.Machines.TreeCheckpoints.RunLengths.{run_length}
use Rattle.session_facts.proofs.Machines.Folds.Reserves.{reserving_after, reserving_lands, reserving_root, reserving_known, held}
use Rattle.session_facts.proofs.Machines.Folds.Pieces.{taken}
use Rattle.session_facts.proofs.Machines.Risings.Effects.{no_branch}

-- ---- the links of new pieces

-- what is noted for the level above are the links of the pieces
pub pieces_noted : (free : ℕ) (ps : List LeafPart) (l : Found) → IsIn (links_at 1 (map entry_of (on_pages free (free + 1) ps))) l
    → (l.level ≡ 1) × IsIn (links_on free ps) (record { low = l.low; page = l.page })
pieces_noted free [] l there = absurd (none_in l there)
pieces_noted free (p ∷ ps) l there =
    on (pieces_noted (free + 1) ps l) (in_cases (record { level = 1; low = p.low; page = free }) (links_at 1 (map entry_of (on_pages (free + 1) (free + 1 + 1) ps))) l there)
  where
    on : (IsIn (links_at 1 (map entry_of (on_pages (free + 1) (free + 1 + 1) ps))) l → (l.level ≡ 1) × IsIn (links_on (free + 1) ps) (record { low = l.low; page = l.page }))
        → (record { level = 1; low = p.low; page = free } ≡ l) ⊎ IsIn (links_at 1 (map entry_of (on_pages (free + 1) (free + 1 + 1) ps))) l
        → (l.level ≡ 1) × IsIn (links_on free (p ∷ ps)) (record { low = l.low; page = l.page })
    on again (inl same) = (
      sym (ap (λ (f : Found). f.level) same),
      subst (λ (f : Found). IsIn (links_on free (p ∷ ps)) (record { low = f.low; page = f.page })) same (in_first (record { low = p.low; page = free }) (links_on (free + 1) ps)),
    )
    on again (inr rest) =
        let r = again rest in
        (r.0, in_rest (record { low = p.low; page = free }) (links_on (free + 1) ps) (record { low = l.low; page = l.page }) r.1)

-- and a leaf's page has none
leafy_branch : (node : Node) (l : Leaf) (n : Inner) → node ≡ Leafy l → node ≡ Branch n → ⊥
leafy_branch node l n a b = let no : Leafy l ≡ Branch n = sym a ∙ b in cc

module _ (book : Book) (order : List Entry) (s : CloudState) (stands : StandsUnder book order s) (now : ℕ) (lease : Claim) (f : Folding) (ids : List ℕ)
    (p : IsPutting (store_of book order s) now lease f ids) where
  abbrev st : Store
  st = store_of book order s

  abbrev tree : ℕ
  tree = f.chart.tree

  abbrev run : List PuItem
  run = f.chart.run.items

  abbrev nobody : Caller
  nobody = record { session = 0; event = 0 }

  -- the run, behind a root with the same cursor
  run_with : (su : Store) (root : Tree) → Grows st su → root.cursor ≡ (tree_held f.chart.root).cursor → TookRun su tree 0 root.cursor f.chart.run ids
  run_with su root grows same =
      subst (λ (c : List (ℕ × ℕ)). TookRun su tree 0 c f.chart.run ids) (sym same) (run_stays st su tree 0 (tree_held f.chart.root).cursor f.chart.run ids grows p.took)

  -- ---- the reservation

  pub reserving_putting : (newest : top_of (roots_of s tree) ≡ tree_held f.chart.root) (bytes : List ℕ) (some : f.placing.reserved ≡ Some bytes)
      → IsPutting (reserving_after book order s stands now lease f p.tree run p.puts newest bytes some) now lease (landed f) ids
  reserving_putting newest bytes some = record {
    tree = p.tree;
    root = reserving_root book order s stands now lease f p.tree run p.puts newest bytes some;
    nodes = nodes_stay st su now now lease tree f.chart.nodes (omega arith) grows (λ lasts page n is. refl) p.nodes;
    apart = p.apart;
    took = run_with su (tree_held (landed f).chart.root) grows (ap (λ (t : Tree). t.cursor) (held book order s stands now lease f p.tree run p.puts newest bytes some));
    lock_is = p.lock_is;
    puts = reserving_known book order s stands now lease f p.tree run p.puts newest bytes some;
    notes = p.notes;
  }
    where
      su : Store
      su = reserving_after book order s stands now lease f p.tree run p.puts newest bytes some

      grows : Grows st su
      grows =
          (landing_passes nobody st (PutHeld (object.Tree tree) bytes lease None) su stands.holds
          (reserving_lands book order s stands now lease f p.tree run p.puts newest bytes some nobody (run_length (store_of book order s) f.chart.tree (tree_held f.chart.root).cursor f.chart.run ids p.took))).grows

  -- ---- the pages

  module _ (none : f.placing.reserved ≡ None) (lasts : Lasts now lease) (leaf_lasts : Lasts now f.lease) where
    -- no root was put
    same_root : tree_held (landed f).chart.root ≡ tree_held f.chart.root
    same_root = ap (λ (o : Option (List ℕ)). tree_held (root_after o f.chart.root)) none

    root_with : (su : Store) → Grows st su → su.tally.roots tree ≡ st.tally.roots tree → KnowsRoot su now lease tree (tree_held (landed f).chart.root)
    root_with su grows same =
        subst (KnowsRoot su now lease tree) (sym same_root) (root_stays st su now now lease tree (tree_held f.chart.root) (omega arith) grows (λ l. same) p.root)

    module _ (middle : List LeafPart) (last : LeafPart) (is : p.puts.placing.middle ≡ middle ++ last ∷ []) where
      pub piece_putting : IsPutting (piece_after book order s stands now lease f p.tree run p.took.clients p.puts none lasts leaf_lasts nobody middle last is) now lease (landed f) ids
      piece_putting = record {
        tree = p.tree;
        root = root_with su grows refl;
        nodes = nodes_stay st su now now lease tree f.chart.nodes (omega arith) grows same_nodes p.nodes;
        apart = p.apart;
        took = run_with su (tree_held (landed f).chart.root) grows (ap (λ (t : Tree). t.cursor) same_root);
        lock_is = p.lock_is;
        puts = piece_known book order s stands now lease f p.tree run p.took.clients p.puts none lasts leaf_lasts nobody middle last is;
        notes = p.notes;
      }
        where
          su : Store
          su = piece_after book order s stands now lease f p.tree run p.took.clients p.puts none lasts leaf_lasts nobody middle last is

          number : ℕ
          number = p.puts.first + length middle

          grows : Grows st su
          grows =
              (landing_passes nobody st (PutHeld (object.Page tree number) (leaf_bytes last) lease (Some f.lease)) su stands.holds
              (piece_lands book order s stands now lease f p.tree run p.took.clients p.puts none lasts leaf_lasts nobody middle last is)).grows

          absent : nodes_of s tree number ≡ []
          absent =
              (reserved_last book order s stands now lease f p.tree run p.took.clients p.puts none lasts leaf_lasts nobody middle last is).absent number (omega arith)
              (within book order s stands now lease f p.tree run p.took.clients p.puts none lasts leaf_lasts nobody middle last is)

          same_nodes : Lasts now lease → (page : ℕ) (n : Inner) → newest_node (nodes_of s tree) page ≡ Branch n → su.tally.nodes tree page ≡ nodes_of s tree page
          same_nodes l page n newest =
              page_stays book order s stands now lease f p.tree run p.took.clients p.puts none lasts leaf_lasts nobody middle last is page
              (λ e. no_branch (nodes_of s tree) page n (ap (nodes_of s tree) e ∙ absent) newest)

    -- ---- the leaf itself

    module _ (is : p.puts.placing.middle ≡ []) where
      abbrev whole : Leaf
      whole = applied p.puts.leaf 0 run

      pub left_rest : KnowsRest (left_after book order s stands now lease f p.tree run p.took.clients p.puts none lasts leaf_lasts nobody is) now lease (counted (landed f)).chart ids
      left_rest = record {
        chart = record {
          tree = p.tree;
          root = root_with su grows refl;
          nodes = nodes_stay st su now now lease tree f.chart.nodes (omega arith) grows same_nodes p.nodes;
          links = found;
        };
        run = record {
          took = run_with su (tree_held (landed f).chart.root) grows (ap (λ (t : Tree). t.cursor) same_root);
          done = left_done book order s stands now lease f p.tree run p.took.clients p.puts none lasts leaf_lasts nobody is;
        };
        apart = p.apart;
      }
        where
          su : Store
          su = left_after book order s stands now lease f p.tree run p.took.clients p.puts none lasts leaf_lasts nobody is

          grows : Grows st su
          grows =
              (landing_passes nobody st (PutHeld (object.Page tree f.page) (leaf_bytes p.puts.placing.front) lease (Some f.lease)) su stands.holds
              (left_lands book order s stands now lease f p.tree run p.took.clients p.puts none lasts leaf_lasts nobody is (tree_held f.chart.root).cursor p.took.received f.chart.run.top
              p.took.is_run p.took.behind p.took.items)).grows

          same_nodes : Lasts now lease → (page : ℕ) (n : Inner) → newest_node (nodes_of s tree) page ≡ Branch n → su.tally.nodes tree page ≡ nodes_of s tree page
          same_nodes l page n newest =
              at2_beside tree f.page _ (nodes_of s) tree page
              (λ e. leafy_branch (newest_node (nodes_of s tree) f.page) p.puts.leaf n (p.puts.newest leaf_lasts).is (sym (ap (newest_node (nodes_of s tree)) e) ∙ newest))

          behind : List LeafPart
          behind = p.puts.placing.behind

          -- the pieces behind the leaf are links then
          pieces_are : leaf_pieces p.puts.first whole ≡ p.puts.placing.front ∷ behind
          pieces_are = p.puts.placing.pieces_are ∙ ap (λ (m : List LeafPart). p.puts.placing.front ∷ (m ++ behind)) is

          joined : (a : Link) → IsIn (links_on p.puts.first behind) a → IsIn (su.book.chain tree 0) a
          joined a there =
              subst (λ (ls : List Link). IsIn ls a) (sym (at2_same tree 0 _ book.chain tree 0 refl refl))
              (joined_has f.page (taken book order s stands tree f.page p.tree run p.took.clients p.puts.linked p.puts.first).pieces (book.chain tree 0) p.puts.linked.place p.puts.linked.link a
              p.puts.linked.linked p.puts.linked.page_is
              (subst (λ (ps : List LeafPart). IsIn (links_on p.puts.first (right_of ps)) a)
              (sym (pieces_left book order s stands now lease f p.tree run p.took.clients p.puts none lasts leaf_lasts nobody is)) there))

          noted : (l : Found) → IsIn (links_at 1 (drop 1 (map entry_of (on_pages f.page p.puts.first (leaf_pieces p.puts.first whole))))) l → IsFound (su.book.chain tree) l
          noted l there =
              let r =
              pieces_noted p.puts.first behind l
              (subst (λ (ps : List LeafPart). IsIn (links_at 1 (drop 1 (map entry_of (on_pages f.page p.puts.first ps)))) l) pieces_are there) in
              let level = r.0 in
              record {
                above = omega (arith, level);
                linked = subst (λ (k : ℕ). IsIn (su.book.chain tree (k - 1)) (record { low = l.low; page = l.page })) (sym level) (joined (record { low = l.low; page = l.page }) r.1);
              }

          found : AreFound (su.book.chain tree) f.chart.links
          found l there =
              on (in_both p.notes.found (links_at 1 (drop 1 (map entry_of (on_pages f.page p.puts.first (leaf_pieces p.puts.first whole))))) l
              (subst (λ (ls : List Found). IsIn ls l) p.notes.links_are there))
            where
              on : IsIn p.notes.found l ⊎ IsIn (links_at 1 (drop 1 (map entry_of (on_pages f.page p.puts.first (leaf_pieces p.puts.first whole))))) l → IsFound (su.book.chain tree) l
              on (inl before) = links_stay st su tree p.notes.found grows p.notes.are_found l before
              on (inr new) = noted l new
