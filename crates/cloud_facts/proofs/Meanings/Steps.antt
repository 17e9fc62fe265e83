-- The steps of a walk for a key by whatever versions it gets: it is always at a link that is not above the key, and never again at a page.
use Rattle.std.proofs.Common.{◌≡◌, ◌<◌, ℕ, suc, true, List, Some, refl, sym, ap, subst, ◌∙◌, ◌⊎◌, inl, inr, arith}
use Rattle.byte_format.specs.Order.{bytes_below}
use Rattle.cloud_facts.specs.Words.{Inner, Tree, Link, Node, Branch, IsIn}
use Rattle.node_codec.specs.Node.{Entry, child_of}
use Rattle.node_codec.specs.Tree.{empty_tree}
use Rattle.node_codec.proofs.EntryLemmas.{below_chain}
use Rattle.cloud_facts.specs.Book.Tally.{right_of, high_of}
use Rattle.cloud_facts.specs.Chains.Chain.{IsChained}
use Rattle.cloud_facts.specs.Chains.Links.{link_of}
use Rattle.cloud_facts.proofs.Chains.Monotone.{Stay}
use Rattle.replay_meaning.specs.Index.{IsRightOf}
use Rattle.cloud_facts.specs.Meanings.Meets.{MeetsRight, MeetsBelow, IsAt, IsPassed}
use Rattle.cloud_facts.proofs.Meanings.Stale.{stale_right, stale_down, stale_root, absent_root, never_again, other_level}

-- the entry for the key is where a walk goes down
child_is : (chain : ℕ → List Link) (level below : ℕ) (key : List ℕ) (entries : List Entry) (e : Entry) → MeetsBelow chain level key entries
    → level ≡ suc below → child_of key entries ≡ Some e → IsAt chain below e.1 e.0 key
child_is chain level below key entries e meets is found =
    let same : meets.below ≡ below = omega (arith, meets.level_is, is) in
    let both : Some meets.entry ≡ Some e = sym meets.found ∙ found in
    let entry : meets.entry ≡ e = cc in
    record {
      linked = subst (λ (l : ℕ). IsIn (chain l) (link_of e)) same (subst (λ (x : Entry). IsIn (chain meets.below) (link_of x)) entry meets.linked);
      from = ap (λ (x : Entry). bytes_below key x.0) (sym entry) ∙ meets.from;
    }

-- links stay
pub at_stays : (chain more : ℕ → List Link) → Stay chain more → (level page : ℕ) (low key : List ℕ) → IsAt chain level page low key
    → IsAt more level page low key
at_stays chain more stay level page low key at = record { linked = stay level (record { low = low; page = page }) at.linked; from = at.from }

pub passed_stays : (chain more : ℕ → List Link) → Stay chain more → (level : ℕ) (low : List ℕ) (page : ℕ) → IsPassed chain level low page
    → IsPassed more level low page
passed_stays chain more stay level low page p =
    record { height = p.height; link = p.link; linked = stay p.height p.link p.linked; page_is = p.page_is; behind = p.behind }

-- ---- pages that are behind

-- what is behind stays behind, further right and further down
pub passed_right : (chain : ℕ → List Link) (level : ℕ) (low high : List ℕ) (page : ℕ) → bytes_below low high ≡ true → IsPassed chain level low page
    → IsPassed chain level high page
passed_right chain level low high page beyond p = record {
  height = p.height;
  link = p.link;
  linked = p.linked;
  page_is = p.page_is;
  behind = on p.behind;
}
  where
    on : (level < p.height) ⊎ ((p.height ≡ level) × (bytes_below p.link.low low ≡ true))
        → (level < p.height) ⊎ ((p.height ≡ level) × (bytes_below p.link.low high ≡ true))
    on (inl above) = inl above
    on (inr k) = inr (k.0, below_chain p.link.low low high k.1 beyond)

pub passed_down : (chain : ℕ → List Link) (level : ℕ) (low child : List ℕ) (page : ℕ) → IsPassed chain (suc level) low page → IsPassed chain level child page
passed_down chain level low child page p = record {
  height = p.height;
  link = p.link;
  linked = p.linked;
  page_is = p.page_is;
  behind = inl (on p.behind);
}
  where
    on : (suc level < p.height) ⊎ ((p.height ≡ suc level) × (bytes_below p.link.low low ≡ true)) → level < p.height
    on (inl above) = omega (arith, above)
    on (inr k) = omega (arith, k.0)

-- so is the page that is left
pub left_right : (chain : ℕ → List Link) (level page : ℕ) (low high key : List ℕ) → IsAt chain level page low key → bytes_below low high ≡ true
    → IsPassed chain level high page
left_right chain level page low high key at beyond =
    record { height = level; link = record { low = low; page = page }; linked = at.linked; page_is = refl; behind = inr (refl, beyond) }

pub left_down : (chain : ℕ → List Link) (level page : ℕ) (low child key : List ℕ) → IsAt chain (suc level) page low key → IsPassed chain level child page
left_down chain level page low child key at =
    record { height = suc level; link = record { low = low; page = page }; linked = at.linked; page_is = refl; behind = inl (omega arith) }

-- ---- the steps

module _ (chain : ℕ → List Link) (nodes : ℕ → List Node) (roots : List Tree) (done : List ℕ → ℕ → ℕ → ℕ) (cursor : ℕ → ℕ)
    (h : IsChained chain nodes roots done cursor) where
  -- from any landed root, and from an absent one
  pub from_root : (root : Tree) (key : List ℕ) (below : ℕ) (e : Entry) → IsIn roots root → root.level ≡ suc below → child_of key root.entries ≡ Some e
      → IsAt chain below e.1 e.0 key
  from_root root key below e landed level found =
      child_is chain root.level below key root.entries e (stale_root chain nodes roots done cursor h root key landed) level found

  pub from_none : (key : List ℕ) (e : Entry) → child_of key empty_tree.entries ≡ Some e → IsAt chain 0 e.1 e.0 key
  from_none key e found = child_is chain 1 0 key empty_tree.entries e (absent_root chain nodes roots done cursor h key) refl found

  -- down from any landed version of an inner node
  pub goes_down : (level page : ℕ) (low key : List ℕ) (inner : Inner) (e : Entry) → IsAt chain (suc level) page low key → IsIn (nodes page) (Branch inner)
      → child_of key inner.entries ≡ Some e → IsAt chain level e.1 e.0 key
  goes_down level page low key inner e at landed found =
      let link : Link = record { low = low; page = page } in
      child_is chain (suc level) level key inner.entries e
      (stale_down chain nodes roots done cursor h (suc level) link inner key at.linked landed at.from) refl found

  -- right from any landed version: a strictly greater low key
  pub goes_right : (level page : ℕ) (low high key : List ℕ) (node : Node) → IsAt chain level page low key → IsIn (nodes page) node → high_of node ≡ Some high
      → IsRightOf key (high_of node) → IsAt chain level (right_of node) high key × (bytes_below low high ≡ true)
  goes_right level page low high key node at landed is right =
      let link : Link = record { low = low; page = page } in
      let meets : MeetsRight (chain level) link key node = stale_right chain nodes roots done cursor h level link node key at.linked landed right in
      let both : Some meets.next.low ≡ Some high = sym meets.high_is ∙ is in
      let low_is : meets.next.low ≡ high = cc in
      let next : meets.next ≡ record { low = high; page = right_of node } = λ i. record { low = low_is i; page = meets.page_is i } in (
        record { linked = subst (λ (x : Link). IsIn (chain level) x) next meets.linked; from = ap (bytes_below key) (sym low_is) ∙ meets.from },
        ap (bytes_below low) (sym low_is) ∙ meets.beyond,
      )

  -- a walk is never at a page that is behind it
  pub not_passed : (level page : ℕ) (low key : List ℕ) → IsAt chain level page low key → IsPassed chain level low page → ⊥
  not_passed level page low key at p = on p.behind
    where
      link : Link
      link = record { low = low; page = page }

      on : (level < p.height) ⊎ ((p.height ≡ level) × (bytes_below p.link.low low ≡ true)) → ⊥
      on (inl above) =
          other_level chain nodes roots done cursor h p.height level p.link link p.linked at.linked (λ e. absurd (omega (arith, above, e))) p.page_is
      on (inr k) =
          never_again chain nodes roots done cursor h level p.link link (subst (λ (l : ℕ). IsIn (chain l) p.link) k.0 p.linked) at.linked k.1 p.page_is
