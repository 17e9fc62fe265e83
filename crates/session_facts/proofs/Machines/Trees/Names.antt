-- Entries name links of the level below, also with the links that go up.
use Rattle.std.proofs.Common.{◌≡◌, ◌-◌, ◌==◌, ◌⊎◌, inl, inr, ℕ, Bool, true, false, cond, not, nat_lt, ◌&&◌, List, [], ◌∷◌, length, Some, refl, ap, subst, ◌∙◌}
use Rattle.std.specs.Prelude.{nat_le}
use Rattle.std.proofs.lemmas.Bool.{and_parts, eqb-true, not-true}
use Rattle.byte_format.specs.Order.{bytes_below, bytes_same, below_bound}
use Rattle.cloud_facts.specs.Chains.Links.{link_of, NamesLinks, NamesBelow}
use Rattle.cloud_facts.proofs.Chains.Pieces.{in_cases, in_first, in_rest}
use Rattle.node_codec.proofs.NodeLemmas.{not_below_empty}
use Rattle.cloud_facts.specs.Words.{Inner, Tree, Link, IsIn}
use Rattle.node_codec.specs.Inner.{first_low_of}
use Rattle.node_codec.specs.Node.{Entry, with_entry}
use Rattle.node_codec.specs.Tree.{with_child}
use Rattle.tree_phases.specs.declared.link.Link.{Link as Found}
use Rattle.tree_phases.specs.Nodes.{goes_to, with_links}
use Rattle.tree_phases.specs.Root.{is_named, with_named}
use Rattle.session_facts.specs.Machines.Trees.Charts.{IsFound, AreFound}

-- ---- one more entry

pub in_with : (low : List ℕ) (page : ℕ) (es : List Entry) (e : Entry) → IsIn (with_entry low page es) e → ((low, page) ≡ e) ⊎ IsIn es e
in_with low page [] e there = in_cases (low, page) [] e there
in_with low page (x ∷ es) e there = on (in_with low page es e) (bytes_below low x.0) (bytes_same low x.0) there
  where
    behind : (x ≡ e) ⊎ IsIn (with_entry low page es) e → (IsIn (with_entry low page es) e → ((low, page) ≡ e) ⊎ IsIn es e) → ((low, page) ≡ e) ⊎ IsIn (x ∷ es) e
    behind (inl same) again = inr (subst (λ (y : Entry). IsIn (x ∷ es) y) same (in_first x es))
    behind (inr rest) again = turn (again rest)
      where
        turn : ((low, page) ≡ e) ⊎ IsIn es e → ((low, page) ≡ e) ⊎ IsIn (x ∷ es) e
        turn (inl new) = inl new
        turn (inr old) = inr (in_rest x es e old)

    on : (IsIn (with_entry low page es) e → ((low, page) ≡ e) ⊎ IsIn es e) → (b c : Bool)
        → IsIn (cond b ((low, page) ∷ x ∷ es) (cond c (x ∷ es) (x ∷ with_entry low page es))) e → ((low, page) ≡ e) ⊎ IsIn (x ∷ es) e
    on again true c h = in_cases (low, page) (x ∷ es) e h
    on again false true h = inr h
    on again false false h = behind (in_cases x (with_entry low page es) e h) again

pub first_with : (low first : List ℕ) (page : ℕ) (es : List Entry) → first_low_of es ≡ Some first → bytes_below low first ≡ false → first_low_of (with_entry low page es) ≡ Some first
first_with low first page [] is from = absurd (cc)
first_with low first page (x ∷ es) is from = on (bytes_below low x.0) (bytes_same low x.0) (ap (bytes_below low) same ∙ from)
  where
    same : x.0 ≡ first
    same = one x.0 first is
      where
        one : (a b : List ℕ) → Some a ≡ Some b → a ≡ b
        one a b e = cc

    on : (b c : Bool) → b ≡ false → first_low_of (cond b ((low, page) ∷ x ∷ es) (cond c (x ∷ es) (x ∷ with_entry low page es))) ≡ Some first
    on true c e = absurd (cc)
    on false true e = is
    on false false e = is

pub names_more : (links : List Link) (low : List ℕ) (es : List Entry) (new : List ℕ) (page : ℕ) → NamesLinks links low es → IsIn links (record { low = new; page = page })
    → bytes_below new low ≡ false → NamesLinks links low (with_entry new page es)
names_more links low es new page n linked from = record {
  names = λ e there. on e (in_with new page es e there);
  first = first_with new low page es n.first from;
}
  where
    on : (e : Entry) → ((new, page) ≡ e) ⊎ IsIn es e → IsIn links (link_of e)
    on e (inl same) = subst (λ (x : Entry). IsIn links (link_of x)) same linked
    on e (inr old) = n.names e old

-- ---- the links of a level

-- of a root
pub named_names : (chain : ℕ → List Link) (level : ℕ) (ls : List Found) (t : Tree) → AreFound chain ls → NamesBelow chain level [] t.entries
    → NamesBelow chain level [] (with_named level ls t).entries
named_names chain level [] t found n = n
named_names chain level (l ∷ ls) t found n =
    named_names chain level ls (cond (is_named level l) (with_child l.low l.page t) t) (λ k there. found k (in_rest l ls k there)) (on (is_named level l) refl)
  where
    here : IsFound chain l
    here = found l (in_first l ls)

    added : l.level ≡ level → (b : Bool) → NamesBelow chain level [] (cond b (record t { entries = with_entry l.low l.page t.entries }) t).entries
    added same true = record {
      height = n.height;
      links =
          names_more (chain (level - 1)) [] t.entries l.low l.page n.links
          (subst (λ (k : ℕ). IsIn (chain (k - 1)) (record { low = l.low; page = l.page })) same here.linked) (not_below_empty l.low);
    }
    added same false = n

    on : (b : Bool) → is_named level l ≡ b → NamesBelow chain level [] (cond b (with_child l.low l.page t) t).entries
    on true e = added (eqb-true l.level level (and_parts (l.level == level) (nat_le (length l.low) 64) e).0) (nat_lt l.page t.next)
    on false e = n

-- the rest of the root is as it was
pub record KeepsRest (t u : Tree) : Type 0 where
  pub version : u.version ≡ t.version
  pub next : u.next ≡ t.next
  pub level : u.level ≡ t.level
  pub cursor : u.cursor ≡ t.cursor

rest_keeps : (b : Bool) (es : List Entry) (t : Tree) → KeepsRest t (cond b (record t { entries = es }) t)
rest_keeps true es t = record { version = refl; next = refl; level = refl; cursor = refl }
rest_keeps false es t = record { version = refl; next = refl; level = refl; cursor = refl }

rest_again : (t u v : Tree) → KeepsRest t u → KeepsRest u v → KeepsRest t v
rest_again t u v a b = record { version = b.version ∙ a.version; next = b.next ∙ a.next; level = b.level ∙ a.level; cursor = b.cursor ∙ a.cursor }

pub named_rest : (level : ℕ) (ls : List Found) (t : Tree) → KeepsRest t (with_named level ls t)
named_rest level [] t = record { version = refl; next = refl; level = refl; cursor = refl }
named_rest level (l ∷ ls) t =
    rest_again t (cond (is_named level l) (with_child l.low l.page t) t) (with_named level ls (cond (is_named level l) (with_child l.low l.page t) t)) (on (is_named level l))
    (named_rest level ls (cond (is_named level l) (with_child l.low l.page t) t))
  where
    on : (b : Bool) → KeepsRest t (cond b (with_child l.low l.page t) t)
    on true = rest_keeps (nat_lt l.page t.next) (with_entry l.low l.page t.entries) t
    on false = record { version = refl; next = refl; level = refl; cursor = refl }

-- of an inner node
pub links_name : (chain : ℕ → List Link) (n : Inner) (ls : List Found) (es : List Entry) → AreFound chain ls → NamesBelow chain n.level n.low es
    → NamesBelow chain n.level n.low (with_links n ls es)
links_name chain n [] es found names = names
links_name chain n (l ∷ ls) es found names =
    links_name chain n ls (cond (goes_to n l) (with_entry l.low l.page es) es) (λ k there. found k (in_rest l ls k there)) (on (goes_to n l) refl)
  where
    here : IsFound chain l
    here = found l (in_first l ls)

    on : (b : Bool) → goes_to n l ≡ b → NamesBelow chain n.level n.low (cond b (with_entry l.low l.page es) es)
    on true e =
        let a = and_parts (l.level == n.level) (nat_le (length l.low) 64 && (not (bytes_below l.low n.low) && below_bound l.low n.high)) e in
        let b = and_parts (nat_le (length l.low) 64) (not (bytes_below l.low n.low) && below_bound l.low n.high) a.1 in
        let c = and_parts (not (bytes_below l.low n.low)) (below_bound l.low n.high) b.1 in
        record {
          height = names.height;
          links =
              names_more (chain (n.level - 1)) n.low es l.low l.page names.links
              (subst (λ (k : ℕ). IsIn (chain (k - 1)) (record { low = l.low; page = l.page })) (eqb-true l.level n.level a.0) here.linked)
              (not-true (bytes_below l.low n.low) c.0);
        }
    on false e = names
