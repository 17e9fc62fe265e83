-- What a walk meets at any landed version of a page or a root, of the newest or an older one: never a wrong fence, and never a page twice.
use Rattle.std.proofs.Common.{◌≡◌, ◌≢◌, ◌-◌, ℕ, Bool, true, false, List, [], ◌∷◌, Option, Some, None, refl, sym, ap, subst, ◌∙◌, ◌⊎◌, inl, inr, arith}
use Rattle.std.specs.Prelude.{◌==◌}
use Rattle.std.proofs.lemmas.Bool.{eqb-true, eqb-false, not-true}
use Rattle.byte_format.specs.Order.{bytes_below}
use Rattle.cloud_facts.specs.Words.{Inner, Tree, Link, Node, Branch, IsIn}
use Rattle.node_codec.specs.Node.{Entry}
use Rattle.node_codec.specs.Tree.{empty_tree}
use Rattle.node_codec.proofs.NodeLemmas.{not_below_empty}
use Rattle.cloud_facts.specs.Book.Tally.{right_of, high_of}
use Rattle.cloud_facts.specs.Chains.Chain.{NamesRight, IsVersionOf, IsChained}
use Rattle.cloud_facts.specs.Chains.Links.{first_link, link_of, top_of, NamesBelow}
use Rattle.cloud_facts.proofs.Chains.Pieces.{in_first, in_cases, none_in, not_itself}
use Rattle.cloud_facts.proofs.Chains.Newest.{last_in}
use Rattle.replay_meaning.specs.Index.{IsRightOf}
use Rattle.cloud_facts.specs.Meanings.Meets.{IsFrom, MeetsRight, MeetsBelow}
use Rattle.cloud_facts.proofs.Meanings.Children.{child_found}

-- ---- one version

-- there is nothing to the right of no high key
right_of_some : (key : List ℕ) (high : Option (List ℕ)) (low : List ℕ) → high ≡ Some low → IsRightOf key high → bytes_below key low ≡ false
right_of_some key None low e right = absurd (right)
right_of_some key (Some high) low e right =
    let is : high ≡ low = cc in
    ap (bytes_below key) (sym is) ∙ not-true (bytes_below key high) right

right_of_none : (key : List ℕ) (high : Option (List ℕ)) → high ≡ None → IsRightOf key high → ⊥
right_of_none key None e right = right
right_of_none key (Some high) e right = absurd (cc)

pub meets_right : (links : List Link) (level : ℕ) (link : Link) (node : Node) (key : List ℕ) → IsVersionOf links level link node → IsRightOf key (high_of node)
    → MeetsRight links link key node
meets_right links level link node key v right = on (right_of node == 0) refl
  where
    beside : NamesRight links link node → MeetsRight links link key node
    beside r = record {
      next = r.next;
      linked = r.linked;
      page_is = r.page_is;
      high_is = r.high_is;
      beyond = r.beyond;
      from = right_of_some key (high_of node) r.next.low r.high_is right;
    }

    on : (b : Bool) → (right_of node == 0) ≡ b → MeetsRight links link key node
    on true e = absurd (right_of_none key (high_of node) (v.last (eqb-true (right_of node) 0 e)) right)
    on false e = beside (v.right (eqb-false (right_of node) 0 e))

pub meets_below : (chain : ℕ → List Link) (level : ℕ) (low : List ℕ) (entries : List Entry) (key : List ℕ) → NamesBelow chain level low entries
    → bytes_below key low ≡ false → MeetsBelow chain level key entries
meets_below chain level low entries key n from =
    let c = child_found key low entries n.links.first from in
    record {
      below = level - 1;
      level_is = omega (arith, n.height);
      entry = c.0;
      found = c.1.found;
      linked = n.links.names c.0 c.1.there;
      from = c.1.at_most;
    }

-- ---- a tree

module _ (chain : ℕ → List Link) (nodes : ℕ → List Node) (roots : List Tree) (done : List ℕ → ℕ → ℕ → ℕ) (cursor : ℕ → ℕ)
    (h : IsChained chain nodes roots done cursor) where
  -- where the key is not below its high key the walk goes on further right
  pub stale_right : (level : ℕ) (link : Link) (node : Node) (key : List ℕ) → IsIn (chain level) link → IsIn (nodes link.page) node
      → IsRightOf key (high_of node) → MeetsRight (chain level) link key node
  stale_right level link node key linked landed right = meets_right (chain level) level link node key (h.versions level link node linked landed) right

  -- an inner node has an entry for a key that is not below the link's low key, also where the key is past its high key
  pub stale_down : (level : ℕ) (link : Link) (inner : Inner) (key : List ℕ) → IsIn (chain level) link → IsIn (nodes link.page) (Branch inner)
      → IsFrom link key → MeetsBelow chain level key inner.entries
  stale_down level link inner key linked landed from =
      let v = h.versions level link (Branch inner) linked landed in
      let names : NamesBelow chain level inner.low inner.entries =
      subst (λ (l : ℕ). NamesBelow chain l inner.low inner.entries) v.level_is.0 (h.entries.of_nodes link.page (Branch inner) landed) in
      meets_below chain level inner.low inner.entries key names (ap (bytes_below key) v.low ∙ from)

  -- so has a root, for every key
  pub stale_root : (root : Tree) (key : List ℕ) → IsIn roots root → MeetsBelow chain root.level key root.entries
  stale_root root key landed = meets_below chain root.level [] root.entries key (h.entries.of_roots root landed) (not_below_empty key)

  -- an absent root is that of the empty tree
  pub absent_root : (key : List ℕ) → MeetsBelow chain empty_tree.level key empty_tree.entries
  absent_root key = meets_below chain 1 [] empty_tree.entries key (record { height = omega arith; links = record { names = λ e k. only e k; first = refl } })
      (not_below_empty key)
    where
      only : (e : Entry) → IsIn empty_tree.entries e → IsIn (chain 0) (link_of e)
      only e k = on (in_cases ([], 1) [] e k)
        where
          first : IsIn (chain 0) first_link
          first = subst (λ (ls : List Link). IsIn ls first_link) (sym h.levels.leaves.1) (in_first first_link h.levels.leaves.0)

          on : (([], 1) ≡ e) ⊎ IsIn {A = Entry} [] e → IsIn (chain 0) (link_of e)
          on (inl is) = subst (λ (x : Entry). IsIn (chain 0) (link_of x)) is first
          on (inr none) = absurd (none_in e none)

  -- so has the newest root, be it absent or not
  pub newest_root_meets : (key : List ℕ) → MeetsBelow chain (top_of roots).level key (top_of roots).entries
  newest_root_meets key = on roots refl
    where
      on : (rs : List Tree) → roots ≡ rs → MeetsBelow chain (top_of rs).level key (top_of rs).entries
      on [] e = absent_root key
      on (r ∷ rs) e =
          stale_root (top_of (r ∷ rs)) key (subst (λ (ts : List Tree). IsIn ts (top_of (r ∷ rs))) (sym e) (last_in empty_tree (r ∷ rs) (λ z. absurd (cc))))

  -- no page comes twice: neither further right at a level, nor at another level
  pub never_again : (level : ℕ) (a b : Link) → IsIn (chain level) a → IsIn (chain level) b → bytes_below a.low b.low ≡ true → a.page ≢ b.page
  never_again level a b h_a h_b beyond e =
      let low : a.low ≡ b.low = (h.levels.once level level a b h_a h_b e).1 in
      let not : bytes_below a.low b.low ≡ false = ap (bytes_below a.low) (sym low) ∙ not_itself a.low in
      absurd (cc)

  pub other_level : (l m : ℕ) (a b : Link) → IsIn (chain l) a → IsIn (chain m) b → l ≢ m → a.page ≢ b.page
  other_level l m a b h_a h_b apart e = apart (h.levels.once l m a b h_a h_b e).0
