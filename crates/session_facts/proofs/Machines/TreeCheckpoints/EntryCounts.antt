-- A page has no more entries than the level below has links, and a level no more links than there are numbers of pages.
use Rattle.std.proofs.Common.{◌≡◌, ◌+◌, ◌-◌, ◌*◌, ◌^◌, ◌<◌, ◌≤◌, ℕ, Bool, true, false, cond, nat_lt, List, [], ◌∷◌, ◌++◌, length, map, drop, Option, Some, None, refl, ap, arith}
use Rattle.std.proofs.lemmas.Bool.{and_parts}
use Rattle.std.proofs.lemmas.List.{length-map}
use Rattle.byte_format.specs.Format.{greatest, list_fits}
use Rattle.byte_format.specs.Order.{bytes_below, bytes_same}
use Rattle.cloud_facts.proofs.Book.Lengths.{few_keys, image}
use Rattle.cloud_facts.proofs.Calls.Rows.{page_of, pages_apart}
use Rattle.cloud_facts.proofs.Chains.Joining.{level_apart}
use Rattle.cloud_facts.specs.Words.{Inner, Tree, Link, Node, IsIn}
use Rattle.cloud_facts.specs.Chains.Chain.{IsChained}
use Rattle.cloud_facts.specs.Chains.Links.{link_below, link_of, Ascends, NamesBelow, top_of}
use Rattle.leaf_view.specs.Fits.{Ascend}
use Rattle.node_codec.proofs.EntryLemmas.{behind_parts}
use Rattle.node_codec.proofs.InnerLemmas.{inner_fits}
use Rattle.node_codec.proofs.TreeLemmas.{tree_fits}
use Rattle.node_codec.specs.Inner.{HasInnerSpelling}
use Rattle.node_codec.specs.Node.{Entry, entry, with_entry}
use Rattle.node_codec.specs.Tree.{IsSoundTree, with_child}
use Rattle.session_facts.proofs.Settling.Trees.Lists.{pages_fit}
use Rattle.session_facts.proofs.Machines.Trees.Names.{links_name, named_names}
use Rattle.session_facts.proofs.Machines.Risings.Spells.{ArePages, links_fit, named_spelled}
use Rattle.session_facts.proofs.Machines.Risings.Places.{parts_count}
use Rattle.session_facts.specs.Machines.Trees.Charts.{AreFound}
use Rattle.session_facts.specs.Machines.Risings.Knows.{piece_links}
use Rattle.split_plan.specs.Part.{NodePart, entry_key, part_of_node}
use Rattle.split_plan.specs.Plan.{entry_of, node_pieces, on_pages}
use Rattle.split_plan.specs.Sizes.{count_of}
use Rattle.tree_phases.specs.Kept.{link_at}
use Rattle.tree_phases.specs.declared.kept.KeptNode.{KeptNode}
use Rattle.tree_phases.specs.declared.link.Link.{Link as Found}
use Rattle.tree_phases.specs.Nodes.{goes_to, with_links}
use Rattle.tree_phases.specs.Root.{is_named, with_named}

-- ---- entries that fit

module _ (low : List ℕ) (high : Option (List ℕ)) (last : ℕ) where
  -- behind an entry their low keys ascend
  behind_ascend : (may_end : Bool) (before : Entry) (es : List Entry) → list_fits may_end (entry low high last) (Some before) es ≡ true → Ascend link_below (Some (link_of before)) (map link_of es)
  behind_ascend may_end before [] fits = tt
  behind_ascend may_end before (x ∷ es) fits =
      let a = and_parts ((entry low high last (Some before)).fits x) (list_fits true (entry low high last) (Some x) es) fits in
      ((behind_parts low high last before x a.0).0, behind_ascend true x es a.1)

  pub all_ascend : (es : List Entry) → list_fits false (entry low high last) None es ≡ true → Ascends (map link_of es)
  all_ascend [] fits = tt
  all_ascend (x ∷ es) fits =
      let a = and_parts ((entry low high last None).fits x) (list_fits true (entry low high last) (Some x) es) fits in
      (tt, behind_ascend true x es a.1)

-- entries that ascend, and name links of a level
pub few_entries : (links : List Link) (es : List Entry) → Ascends (map link_of es) → ((e : Entry) → IsIn es e → IsIn links (link_of e)) → length es ≤ length links
few_entries links es ascends names =
    let all = length-map es link_of in
    let few = few_keys (λ (l : Link). l.low) (λ (l : Link). l.low) (map link_of es) links ascends each in
    omega (arith, all, few)
  where
    each : (l : Link) → IsIn (map link_of es) l → (other : Link) × IsIn links other × (other.low ≡ l.low)
    each l is = let e = image link_of es l is in (link_of e.0, names e.0 e.1, ap (λ (x : Link). x.low) e.2)

-- ---- links add entries of their own

added_one : (low : List ℕ) (page : ℕ) (es : List Entry) → length (with_entry low page es) ≤ length es + 1
added_one low page [] = omega arith
added_one low page (e ∷ es) = on (bytes_below low e.0) (bytes_same low e.0) (added_one low page es)
  where
    on : (b c : Bool) → length (with_entry low page es) ≤ length es + 1 → length (cond b ((low, page) ∷ e ∷ es) (cond c (e ∷ es) (e ∷ with_entry low page es))) ≤ length (e ∷ es) + 1
    on true c again = omega arith
    on false true again = omega arith
    on false false again = omega (arith, again)

links_add : (n : Inner) (ls : List Found) (es : List Entry) → length (with_links n ls es) ≤ length es + length ls
links_add n [] es = omega arith
links_add n (l ∷ ls) es = on (goes_to n l) (λ fs. links_add n ls fs)
  where
    on : (b : Bool) → ((fs : List Entry) → length (with_links n ls fs) ≤ length fs + length ls) → length (with_links n ls (cond b (with_entry l.low l.page es) es)) ≤ length es + length (l ∷ ls)
    on true again = let rest = again (with_entry l.low l.page es) in let one = added_one l.low l.page es in omega (arith, rest, one)
    on false again = let rest = again es in omega (arith, rest)

more_links : (n : Inner) (ls ms : List Found) (es : List Entry) → length (with_links n (ls ++ ms) es) ≤ length (with_links n ls es) + length ms
more_links n [] ms es = links_add n ms es
more_links n (l ∷ ls) ms es = more_links n ls ms (cond (goes_to n l) (with_entry l.low l.page es) es)

child_adds : (low : List ℕ) (page : ℕ) (t : Tree) → length (with_child low page t).entries ≤ length t.entries + 1
child_adds low page t = on (nat_lt page t.next)
  where
    on : (b : Bool) → length (cond b (record t { entries = with_entry low page t.entries }) t).entries ≤ length t.entries + 1
    on true = added_one low page t.entries
    on false = omega arith

named_add : (level : ℕ) (ls : List Found) (t : Tree) → length (with_named level ls t).entries ≤ length t.entries + length ls
named_add level [] t = omega arith
named_add level (l ∷ ls) t = on (is_named level l) (λ u. named_add level ls u)
  where
    on : (b : Bool) → ((u : Tree) → length (with_named level ls u).entries ≤ length u.entries + length ls) → length (with_named level ls (cond b (with_child l.low l.page t) t)).entries ≤ length t.entries + length (l ∷ ls)
    on true again = let rest = again (with_child l.low l.page t) in let one = child_adds l.low l.page t in omega (arith, rest, one)
    on false again = let rest = again t in omega (arith, rest)

more_named : (level : ℕ) (ls ms : List Found) (t : Tree) → length (with_named level (ls ++ ms) t).entries ≤ length (with_named level ls t).entries + length ms
more_named level [] ms t = named_add level ms t
more_named level (l ∷ ls) ms t = more_named level ls ms (cond (is_named level l) (with_child l.low l.page t) t)

-- the entries of a tree object with links are told by its own entries and its next page
child_same : (low : List ℕ) (page : ℕ) (t u : Tree) → t.next ≡ u.next → t.entries ≡ u.entries
    → ((with_child low page t).next ≡ (with_child low page u).next) × ((with_child low page t).entries ≡ (with_child low page u).entries)
child_same low page t u next entries = on (nat_lt page t.next) (nat_lt page u.next) (ap (nat_lt page) next)
  where
    on : (b c : Bool) → b ≡ c
        → ((cond b (record t { entries = with_entry low page t.entries }) t).next ≡ (cond c (record u { entries = with_entry low page u.entries }) u).next)
        × ((cond b (record t { entries = with_entry low page t.entries }) t).entries ≡ (cond c (record u { entries = with_entry low page u.entries }) u).entries)
    on true true e = (next, ap (with_entry low page) entries)
    on false false e = (next, entries)
    on true false e = absurd (cc (e))
    on false true e = absurd (cc (e))

named_same : (level : ℕ) (ls : List Found) (t u : Tree) → t.next ≡ u.next → t.entries ≡ u.entries → (with_named level ls t).entries ≡ (with_named level ls u).entries
named_same level [] t u next entries = entries
named_same level (l ∷ ls) t u next entries = on (is_named level l) (λ v w. named_same level ls v w)
  where
    on : (b : Bool) → ((v w : Tree) → v.next ≡ w.next → v.entries ≡ w.entries → (with_named level ls v).entries ≡ (with_named level ls w).entries)
        → (with_named level ls (cond b (with_child l.low l.page t) t)).entries ≡ (with_named level ls (cond b (with_child l.low l.page u) u)).entries
    on true again = let same = child_same l.low l.page t u next entries in again (with_child l.low l.page t) (with_child l.low l.page u) same.0 same.1
    on false again = again t u next entries

-- ---- a node and a tree object with links that were found, and others behind them

module _ (chain : ℕ → List Link) (nodes : ℕ → List Node) (roots : List Tree) (done : List ℕ → ℕ → ℕ → ℕ) (cursor : ℕ → ℕ) (chained : IsChained chain nodes roots done cursor)
    (most : (top_of roots).next ≤ greatest) where
  found_pages : (ls : List Found) → AreFound chain ls → ArePages ls
  found_pages ls found l there =
      let page = chained.pages.linked (l.level - 1) (record { low = l.low; page = l.page }) (found l there).linked in
      let less = page.1 in
      (page.0, omega (arith, less, most))

  pub few_known : (n : Inner) (known : List Found) → HasInnerSpelling n → NamesBelow chain n.level n.low n.entries → AreFound chain known
      → length (with_links n known n.entries) ≤ length (chain (n.level - 1))
  few_known n known spells names found =
      few_entries (chain (n.level - 1)) (with_links n known n.entries)
      (all_ascend n.low n.high greatest (with_links n known n.entries) (links_fit n known n.entries (found_pages known found) (inner_fits n spells).entries))
      (links_name chain n known n.entries found names).links.names

  pub few_in_node : (n : Inner) (known more : List Found) → HasInnerSpelling n → NamesBelow chain n.level n.low n.entries → AreFound chain known
      → length (with_links n (known ++ more) n.entries) ≤ length (chain (n.level - 1)) + length more
  few_in_node n known more spells names found =
      let added = more_links n known more n.entries in
      let few = few_known n known spells names found in
      omega (arith, added, few)

  pub few_in_root : (root t : Tree) (known more : List Found) → IsSoundTree root → NamesBelow chain root.level [] root.entries → AreFound chain known → t.next ≡ root.next → t.entries ≡ root.entries
      → length (with_named root.level (known ++ more) t).entries ≤ length (chain (root.level - 1)) + length more
  few_in_root root t known more sound names found next entries =
      let added = more_named root.level known more t in
      let same : length (with_named root.level known t).entries ≡ length (with_named root.level known first).entries =
      ap (λ (es : List Entry). length es) (named_same root.level known t first next entries) in
      let few = few_entries (chain (root.level - 1)) (with_named root.level known first).entries
      (all_ascend [] None ((with_named root.level known first).next - 1) (with_named root.level known first).entries
      (tree_fits (with_named root.level known first) (named_spelled root.level known first (found_pages known found) sound)).entries)
      (named_names chain root.level known first found names).links.names in
      omega (arith, added, same, few)
    where
      first : Tree
      first = record root { version = 1 }

  -- a level has no more links than there are numbers of pages
  pub few_links : (level : ℕ) → length (chain level) ≤ greatest
  few_links level =
      let all = length-map (chain level) page_of in
      let few = pages_fit (map page_of (chain level)) greatest (greatest + 1) (pages_apart (chain level) (level_apart chain (top_of roots).level chained.levels level)) within (omega arith) in
      omega (arith, all, few)
    where
      within : (n : ℕ) → IsIn (map page_of (chain level)) n → (1 ≤ n) × (n < greatest + 1)
      within n is =
          let l = image page_of (chain level) n is in
          let page = chained.pages.linked level l.0 l.1 in
          let number = l.2 in
          let some = page.0 in
          let less = page.1 in
          (omega (arith, number, some), omega (arith, number, less, most))

-- ---- pieces

-- as many links go up as a node has new pieces
on_as_many : (page free : ℕ) (ps : List NodePart) → length (on_pages page free ps) ≡ length ps
on_as_many page free [] = refl
on_as_many page free (p ∷ ps) = let rest = on_as_many free (free + 1) ps in omega (arith, rest)

less_first : {X : Type 0} (xs : List X) → length (drop 1 xs) ≡ length xs - 1
less_first [] = refl
less_first (x ∷ xs) = omega arith

pub pieces_noted : (k : KeptNode) (first : ℕ) (n : Inner) → length (piece_links k first n) ≡ count_of (length n.entries) - 1
pieces_noted k first n =
    let ps : List NodePart = node_pieces first n in
    let links = length-map (drop 1 (map entry_of (on_pages k.page first ps))) (link_at (k.level + 1)) in
    let behind = less_first (map entry_of (on_pages k.page first ps)) in
    let entries = length-map (on_pages k.page first ps) entry_of in
    let pages = on_as_many k.page first ps in
    let count = parts_count entry_key first (part_of_node n) in
    omega (arith, links, behind, entries, pages, count)

-- more items are cut into no fewer pieces
pub pieces_more : (few many : ℕ) → few ≤ many → count_of few ≤ count_of many
pieces_more few many less = omega (arith, less)

-- entries, and beside them as many more as another page has new pieces
pub few_pieces : (own more other : ℕ) → own ≤ greatest + more → more ≤ count_of other - 1 → other ≤ greatest → count_of own ≤ 2 ^ 59
few_pieces own more other few pieces less = omega (arith, few, pieces, less)

pub few_landed : (own more other rows : ℕ) → own ≤ rows + 1 + more → more ≤ count_of other - 1 → other ≤ rows + 1 → count_of own ≤ 4 * rows + 1
few_landed own more other rows few pieces less = omega (arith, few, pieces, less)
