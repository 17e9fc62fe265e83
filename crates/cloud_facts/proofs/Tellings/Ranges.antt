-- The newest leaf of a link's page has the keys from the link's low key on, up to the next link's.
use Rattle.std.proofs.Common.{◌≡◌, ◌≢◌, ◌+◌, ◌-◌, ℕ, Bool, true, false, List, [], ◌∷◌, ◌++◌, length, Option, refl, sym, ap, subst, ◌∙◌, ◌⊎◌, inl, inr, arith}
use Rattle.std.specs.Prelude.{slice_get, unwrap_or, not, ◌&&◌}
use Rattle.std.specs.List.{AllByRecursion}
use Rattle.std.proofs.lemmas.Bool.{and_parts, not-true}
use Rattle.byte_format.specs.Order.{bytes_below, below_bound}
use Rattle.cloud_facts.specs.Words.{Leaf, Link, Node, Leafy, Branch, IsIn, StandsAt}
use Rattle.leaf_view.specs.Lookup.{empty_leaf, holds}
use Rattle.node_codec.proofs.NodeLemmas.{not_below_empty}
use Rattle.cloud_facts.specs.Book.Tally.{version_of, low_of, high_of, right_of as right_page}
use Rattle.cloud_facts.specs.Book.Telling.{last_or, leaf_in, page_from}
use Rattle.cloud_facts.specs.Chains.Chain.{AreLevels, AreVersions, AreNewest}
use Rattle.cloud_facts.specs.Chains.Links.{first_link, newest_node, IsOfLevel, page_after, low_after}
use Rattle.cloud_facts.proofs.Decoding.Newest.{IsLast, last_cases}
use Rattle.cloud_facts.proofs.Tellings.Walks.{from_below, passes, stops, IsBefore, goes_other}

-- the last of a list stands for it
pub last_is : {A : Type 0} (none : A) (xs : List A) (x : A) → IsLast xs x → last_or none xs ≡ x
last_is {A} none xs x e = ap (λ (o : Option A). unwrap_or o none) e

-- a node of level 0 is a leaf
leaf_low : (node : Node) → IsOfLevel 0 node → low_of node ≡ (leaf_in node).low
leaf_low (Leafy l) level = refl
leaf_low (Branch n) level = absurd (omega (arith, level.1))

leaf_high : (node : Node) → IsOfLevel 0 node → high_of node ≡ (leaf_in node).high
leaf_high (Leafy l) level = refl
leaf_high (Branch n) level = absurd (omega (arith, level.1))

leaf_right : (node : Node) → IsOfLevel 0 node → right_page node ≡ (leaf_in node).right
leaf_right (Leafy l) level = refl
leaf_right (Branch n) level = absurd (omega (arith, level.1))

leaf_version : (node : Node) → IsOfLevel 0 node → version_of node ≡ (leaf_in node).version
leaf_version (Leafy l) level = refl
leaf_version (Branch n) level = absurd (omega (arith, level.1))

-- a leaf of the keys from a low key on up to a next link
pub record IsBetween (l : Leaf) (least : List ℕ) (next : Option Link) : Type 0 where
  pub low : l.low ≡ least
  pub right : l.right ≡ page_after next
  pub high : l.high ≡ low_after next

module _ (chain : ℕ → List Link) (nodes : ℕ → List Node) (height : ℕ) (lv : AreLevels chain height) (vs : AreVersions chain nodes)
    (nw : AreNewest chain nodes) where
  -- page 1 is that of the empty low key
  pub low_of_first : (link : Link) → IsIn (chain 0) link → link.page ≡ 1 → link.low ≡ []
  low_of_first link linked e =
      let first : IsIn (chain 0) first_link = (0, ap (λ (ls : List Link). slice_get ls 0) lv.leaves.1) in
      (lv.once 0 0 link first_link linked first e).1

  newest_cases : (place : ℕ) (link : Link) → StandsAt (chain 0) place link → (nodes link.page ≡ []) ⊎ ((x : Node) × IsLast (nodes link.page) x)
      → IsOfLevel 0 (newest_node nodes link.page) × (low_of (newest_node nodes link.page) ≡ link.low)
  newest_cases place link linked (inl e) =
      subst (λ (ns : List Node). IsOfLevel 0 (last_or (Leafy empty_leaf) ns) × (low_of (last_or (Leafy empty_leaf) ns) ≡ link.low)) (sym e)
      (refl, sym (low_of_first link (place, linked) (nw.absent 0 link (place, linked) e).1))
  newest_cases place link linked (inr p) =
      let v = vs 0 link p.0 (place, linked) (length (nodes link.page) - 1, p.1) in
      subst (λ (n : Node). IsOfLevel 0 n × (low_of n ≡ link.low)) (sym (last_is (Leafy empty_leaf) (nodes link.page) p.0 p.1)) (v.level_is, v.low)

  pub newest_between : (place : ℕ) (link : Link) → StandsAt (chain 0) place link
      → IsBetween (leaf_in (newest_node nodes link.page)) link.low (slice_get (chain 0) (place + 1))
  newest_between place link linked =
      let n = newest_cases place link linked (last_cases (nodes link.page)) in
      record {
        low = sym (leaf_low (newest_node nodes link.page) n.0) ∙ n.1;
        right = sym (leaf_right (newest_node nodes link.page) n.0) ∙ (nw.ends 0 place link linked).right;
        high = sym (leaf_high (newest_node nodes link.page) n.0) ∙ (nw.ends 0 place link linked).high;
      }

  pub newest_version : (place : ℕ) (link : Link) → StandsAt (chain 0) place link
      → version_of (newest_node nodes link.page) ≡ (leaf_in (newest_node nodes link.page)).version
  newest_version place link linked = leaf_version (newest_node nodes link.page) (newest_cases place link linked (last_cases (nodes link.page))).0

-- ---- where keys go

-- the key goes behind a link: to one that is not above it
pub record IsBeyond (key : List ℕ) (rest : List Link) : Type 0 where
  pub link : Link
  pub behind : List Link
  pub is : rest ≡ link ∷ behind
  pub from : bytes_below key link.low ≡ false

before_of : (key : List ℕ) (rest : List Link) → below_bound key (low_after (slice_get rest 0)) ≡ true → IsBefore key rest
before_of key [] e = tt
before_of key (x ∷ rest) e = e

beyond_of : (key : List ℕ) (rest : List Link) → below_bound key (low_after (slice_get rest 0)) ≡ false → IsBeyond key rest
beyond_of key [] e = absurd (cc)
beyond_of key (x ∷ rest) e = record { link = x; behind = rest; is = refl; from = e }

holds_is : (l : Leaf) (low : List ℕ) (next : Option Link) (key : List ℕ) → IsBetween l low next
    → holds l key ≡ (not (bytes_below key low) && below_bound key (low_after next))
holds_is l low next key b = λ i. not (bytes_below key (b.low i)) && below_bound key (b.high i)

-- a key that the leaf holds
pub held : (l : Leaf) (link : Link) (rest : List Link) (key : List ℕ) → IsBetween l link.low (slice_get rest 0) → holds l key ≡ true
    → (bytes_below key link.low ≡ false) × IsBefore key rest
held l link rest key b h =
    let p = and_parts (not (bytes_below key link.low)) (below_bound key (low_after (slice_get rest 0)))
    (sym (holds_is l link.low (slice_get rest 0) key b) ∙ h) in
    (not-true (bytes_below key link.low) p.0, before_of key rest p.1)

-- a key that it does not hold
pub unheld : (l : Leaf) (link : Link) (rest : List Link) (key : List ℕ) → IsBetween l link.low (slice_get rest 0) → holds l key ≡ false
    → (bytes_below key link.low ≡ true) ⊎ ((bytes_below key link.low ≡ false) × IsBeyond key rest)
unheld l link rest key b h = on (bytes_below key link.low) refl (below_bound key (low_after (slice_get rest 0))) refl
  where
    on : (u : Bool) → bytes_below key link.low ≡ u → (v : Bool) → below_bound key (low_after (slice_get rest 0)) ≡ v
        → (u ≡ true) ⊎ ((u ≡ false) × IsBeyond key rest)
    on true e v f = inl refl
    on false e false f = inr (refl, beyond_of key rest f)
    on false e true f =
        let both : (not (bytes_below key link.low) && below_bound key (low_after (slice_get rest 0))) ≡ true = λ i. not (e i) && f i in
        let no : true ≡ false = sym both ∙ sym (holds_is l link.low (slice_get rest 0) key b) ∙ h in
        absurd cc

-- a key of the leaf goes to its page or a piece behind it
pub goes_here : (key : List ℕ) (front : List Link) (link : Link) (rest : List Link) → AllByRecursion (λ a. bytes_below a.low link.low ≡ true) front
    → bytes_below key link.low ≡ false
    → page_from 1 key (front ++ link ∷ rest) ≡ page_from link.page key rest
goes_here key front link rest below from = passes key 1 front link rest (from_below key link.low front below from) from

-- where another key goes: the same page with pieces as without, and none of theirs
pub record GoesPast (key : List ℕ) (page : ℕ) (front : List Link) (link : Link) (pieces rest : List Link) : Type 0 where
  pub same : page_from 1 key (front ++ link ∷ (pieces ++ rest)) ≡ page_from 1 key (front ++ link ∷ rest)
  pub other : page_from 1 key (front ++ link ∷ rest) ≢ page

pub goes_past : (key : List ℕ) (front : List Link) (link : Link) (pieces rest : List Link) → AllByRecursion (λ a. bytes_below a.low link.low ≡ true) front
    → AllByRecursion (λ a. a.page ≢ link.page) front → AllByRecursion (λ a. a.page ≢ link.page) rest → (link.page ≡ 1 → link.low ≡ [])
    → ((next : Link) (behind : List Link) → rest ≡ next ∷ behind → AllByRecursion (λ a. bytes_below a.low next.low ≡ true) pieces)
    → (bytes_below key link.low ≡ true) ⊎ ((bytes_below key link.low ≡ false) × IsBeyond key rest) → GoesPast key link.page front link pieces rest
goes_past key front link pieces rest below front_other rest_other first within (inl e) = record {
  same = stops key 1 front link (pieces ++ rest) e ∙ sym (stops key 1 front link rest e);
  other = λ is. goes_other key 1 link.page front one front_other (sym (stops key 1 front link rest e) ∙ is);
}
  where
    one : 1 ≢ link.page
    one is = let none : bytes_below key link.low ≡ false = ap (bytes_below key) (first (sym is)) ∙ not_below_empty key in absurd (cc)
goes_past key front link pieces rest below front_other rest_other first within (inr (from, b)) =
    subst (λ (ls : List Link). GoesPast key link.page front link pieces ls) (sym b.is) (record {
      same = new ∙ sym old;
      other = λ is. goes_other key b.link.page link.page b.behind others.0 others.1 (sym old ∙ is);
    })
  where
    others : AllByRecursion (λ a. a.page ≢ link.page) (b.link ∷ b.behind)
    others = subst (λ (ls : List Link). AllByRecursion (λ a. a.page ≢ link.page) ls) b.is rest_other

    old : page_from 1 key (front ++ link ∷ (b.link ∷ b.behind)) ≡ page_from b.link.page key b.behind
    old = goes_here key front link (b.link ∷ b.behind) below from ∙ passes key link.page [] b.link b.behind tt b.from

    new : page_from 1 key (front ++ link ∷ (pieces ++ b.link ∷ b.behind)) ≡ page_from b.link.page key b.behind
    new =
        goes_here key front link (pieces ++ b.link ∷ b.behind) below from
        ∙ passes key link.page pieces b.link b.behind (from_below key b.link.low pieces (within b.link b.behind b.is) b.from) b.from
