-- Where a landed version of an inner node leads: its fences are those that led to it, and the way goes on at a link.
use Rattle.std.proofs.Common.{◌≡◌, ◌+◌, ◌-◌, ◌==◌, ◌⊎◌, inl, inr, ℕ, zero, suc, Bool, true, false, cond, not, ◌&&◌, List, [], ◌∷◌, ◌++◌, Option, Some, None, Ok, Err, refl, sym, ap, subst, ◌∙◌, arith}
use Rattle.std.proofs.lemmas.Bool.{and_from, eq-eqb}
use Rattle.byte_format.specs.Order.{bytes_below, bytes_same}
use Rattle.byte_format.proofs.OrderLemmas.{same_itself}
use Rattle.cloud_facts.specs.Chains.Chain.{IsVersionOf, IsChained}
use Rattle.cloud_facts.specs.Meanings.Meets.{IsAt, IsPassed}
use Rattle.cloud_facts.proofs.Meanings.Stale.{stale_down}
use Rattle.cloud_facts.proofs.Meanings.Steps.{goes_down, goes_right, passed_right, passed_down, left_right, left_down}
use Rattle.cloud_facts.specs.Words.{Inner, Tree, Claim, Link, Store, Node, Branch, IsIn}
use Rattle.node_codec.specs.Node.{Entry, child_of, page_at}
use Rattle.cloud_facts.proofs.Book.Places.{in_either, in_none}
use Rattle.tree_phases.specs.declared.descent.Descent.{Descent}
use Rattle.tree_phases.specs.declared.fork.Fork.{Fork}
use Rattle.tree_phases.specs.declared.fork.Fork.TheVariants.{Right, Down}
use Rattle.tree_phases.specs.Descent.{forked, passed}
use Rattle.tree_phases.specs.Fork.{bad_fence, down_to, down_from, fork_at, forked_on}
use Rattle.replay_meaning.specs.Index.{IsRightOf}
use Rattle.tree_phases.specs.declared.link.Link.{Link as Found}
use Rattle.tree_phases.specs.Read.{damaged}
use Rattle.session_facts.specs.Machines.Trees.Charts.{KnowsChart, IsFound, AreFound}
use Rattle.session_facts.specs.Machines.Trees.Ways.{IsOnWay, KnowsWay}

-- a page that is named
pub named_page : (n page : ℕ) → page_at n ≡ Some page → n ≡ page
named_page n page e = on (n == 0) e
  where
    on : (b : Bool) → cond b None (Some n) ≡ Some page → n ≡ page
    on true f = absurd (cc)
    on false f = cc

-- what is in a list with one more is in the list, or that one
pub in_more : {X : Type 0} (xs : List X) (y x : X) → IsIn (xs ++ y ∷ []) x → IsIn xs x ⊎ (y ≡ x)
in_more xs y x is = on (in_either xs (y ∷ []) x is)
  where
    on : IsIn xs x ⊎ IsIn (y ∷ []) x → IsIn xs x ⊎ (y ≡ x)
    on (inl old) = inl old
    on (inr (zero, there)) = let same : y ≡ x = cc in inr same
    on (inr (suc place, there)) = absurd (in_none [] x refl (place, there))

-- a way goes on at the page that a fork names
abbrev pub ForkLeads : (ℕ → List Link) → Descent → Fork → Type 0
ForkLeads chain d (Right low page) = IsOnWay chain d.level page low d.chart.key (d.visited ++ d.page ∷ [])
ForkLeads chain d (Down low page) = IsOnWay chain (d.level - 1) page low d.chart.key (d.visited ++ d.page ∷ [])

module _ (chain : ℕ → List Link) (nodes : ℕ → List Node) (roots : List Tree) (done : List ℕ → ℕ → ℕ → ℕ) (cursor : ℕ → ℕ)
    (h : IsChained chain nodes roots done cursor) (d : Descent) (n : Inner) (way : IsOnWay chain d.level d.page d.low d.chart.key d.visited)
    (landed : IsIn (nodes d.page) (Branch n)) where
  version : IsVersionOf (chain d.level) d.level (record { low = d.low; page = d.page }) (Branch n)
  version = h.versions d.level (record { low = d.low; page = d.page }) (Branch n) way.at.linked landed

  -- its level and its low key are those that led there
  pub is_forked : forked d n ≡ Ok (forked_on d.chart.key n)
  is_forked =
      ap (λ (b : Bool). cond b (cond (bytes_same n.low d.low && not (bytes_below d.chart.key n.low)) (Ok (forked_on d.chart.key n)) (Err (bad_fence d.page d.low n.low)))
      (Err (damaged d.chart.tree d.page 10))) (eq-eqb n.level d.level version.level_is.0)
      ∙ ap (λ (b : Bool). cond b (Ok (forked_on d.chart.key n)) (Err (bad_fence d.page d.low n.low))) fences
    where
      fences : (bytes_same n.low d.low && not (bytes_below d.chart.key n.low)) ≡ true
      fences =
          and_from (bytes_same n.low d.low) (not (bytes_below d.chart.key n.low)) (ap (bytes_same n.low) (sym version.low) ∙ same_itself n.low)
          (ap not (ap (bytes_below d.chart.key) version.low ∙ way.at.from))

  -- to the right
  right_leads : (high : List ℕ) (right : ℕ) → n.high ≡ Some high → page_at n.right ≡ Some right → bytes_below d.chart.key high ≡ false
      → IsOnWay chain d.level right high d.chart.key (d.visited ++ d.page ∷ [])
  right_leads high right is page out = record { at = subst (λ (p : ℕ). IsAt chain d.level p high d.chart.key) (named_page n.right right page) goes.0; behind = behind }
    where
      goes : IsAt chain d.level n.right high d.chart.key × (bytes_below d.low high ≡ true)
      goes =
          goes_right chain nodes roots done cursor h d.level d.page d.low high d.chart.key (Branch n) way.at landed is
          (subst (IsRightOf d.chart.key) (sym is) (ap not out))

      behind : (p : ℕ) → IsIn (d.visited ++ d.page ∷ []) p → IsPassed chain d.level high p
      behind p there = on (in_more d.visited d.page p there)
        where
          on : IsIn d.visited p ⊎ (d.page ≡ p) → IsPassed chain d.level high p
          on (inl old) = passed_right chain d.level d.low high p goes.1 (way.behind p old)
          on (inr same) = subst (IsPassed chain d.level high) same (left_right chain d.level d.page d.low high d.chart.key way.at goes.1)

  -- down
  down_leads : (e : Entry) → child_of d.chart.key n.entries ≡ Some e → IsOnWay chain (d.level - 1) e.1 e.0 d.chart.key (d.visited ++ d.page ∷ [])
  down_leads e found = record {
    at = goes_down chain nodes roots done cursor h (d.level - 1) d.page d.low d.chart.key n e above landed found;
    behind = behind;
  }
    where
      height : d.level ≡ suc (d.level - 1)
      height = let some = version.level_is.1 in omega (arith, some)

      above : IsAt chain (suc (d.level - 1)) d.page d.low d.chart.key
      above = subst (λ (l : ℕ). IsAt chain l d.page d.low d.chart.key) height way.at

      behind : (p : ℕ) → IsIn (d.visited ++ d.page ∷ []) p → IsPassed chain (d.level - 1) e.0 p
      behind p there = on (in_more d.visited d.page p there)
        where
          on : IsIn d.visited p ⊎ (d.page ≡ p) → IsPassed chain (d.level - 1) e.0 p
          on (inl old) = passed_down chain (d.level - 1) d.low e.0 p (subst (λ (l : ℕ). IsPassed chain l d.low p) height (way.behind p old))
          on (inr same) = subst (IsPassed chain (d.level - 1) e.0) same (left_down chain (d.level - 1) d.page d.low e.0 d.chart.key above)

  pub fork_leads : ForkLeads chain d (forked_on d.chart.key n)
  fork_leads = on n.high refl (page_at n.right) refl
    where
      child : (e : Entry) × (child_of d.chart.key n.entries ≡ Some e)
      child =
          let m = stale_down chain nodes roots done cursor h d.level (record { low = d.low; page = d.page }) n d.chart.key way.at.linked landed way.at.from in
          (m.entry, m.found)

      down : ForkLeads chain d (down_from d.chart.key n)
      down = subst (λ (o : Option Entry). ForkLeads chain d (down_to o)) (sym child.1) (down_leads child.0 child.1)

      on : (high : Option (List ℕ)) → n.high ≡ high → (right : Option ℕ) → page_at n.right ≡ right
          → ForkLeads chain d (fork_at d.chart.key (down_from d.chart.key n) high right)
      on None e right f = down
      on (Some high) e None f = down
      on (Some high) e (Some right) f = turn (bytes_below d.chart.key high) refl
        where
          turn : (b : Bool) → bytes_below d.chart.key high ≡ b → ForkLeads chain d (cond b (down_from d.chart.key n) (Right high right))
          turn true g = down
          turn false g = right_leads high right e f g

-- ---- behind it

-- a page that was come to by a right link is a link that goes up
right_found : (chain : ℕ → List Link) (links : List Found) (level : ℕ) (low : List ℕ) (page : ℕ) → AreFound chain links
    → IsIn (chain level) (record { low = low; page = page }) → AreFound chain (links ++ record { level = level + 1; low = low; page = page } ∷ [])
right_found chain links level low page found linked l there = on (in_more links (record { level = level + 1; low = low; page = page }) l there)
  where
    new : IsFound chain (record { level = level + 1; low = low; page = page })
    new =
        let same : level ≡ level + 1 - 1 = omega arith in
        record { above = omega arith; linked = subst (λ (k : ℕ). IsIn (chain k) (record { low = low; page = page })) same linked }

    on : IsIn links l ⊎ (record { level = level + 1; low = low; page = page } ≡ l) → IsFound chain l
    on (inl old) = found l old
    on (inr same) = subst (IsFound chain) same new

pub passed_known : (st : Store) (now : ℕ) (lease : Claim) (d : Descent) (fork : Fork) → KnowsChart st now lease d.chart
    → ForkLeads (st.book.chain d.chart.tree) d fork → KnowsWay st now lease (passed d fork)
passed_known st now lease d (Right low page) k leads = record {
  chart = record {
    tree = k.tree;
    root = k.root;
    nodes = k.nodes;
    links = right_found (st.book.chain d.chart.tree) d.chart.links d.level low page k.links leads.at.linked;
  };
  way = leads;
}
passed_known st now lease d (Down low page) k leads = record { chart = k; way = leads }
