-- An empty cloud's trees: each is its first leaf, which is absent.
use Rattle.std.proofs.Common.{◌≡◌, ◌+◌, ℕ, zero, suc, List, [], ◌∷◌, map, None, refl, sym, ap, subst, ◌∙◌, Bool, true, false, cond, arith}
use Rattle.std.specs.Prelude.{slice_get, ◌==◌}
use Rattle.std.proofs.lemmas.Bool.{eqb-true, eq-eqb}
use Rattle.cloud_facts.specs.Words.{Tree, Version, CloudState, Link, Node, IsIn, StandsAt, nodes_of, roots_of}
use Rattle.cloud_trait.specs.State.{IsEmptyCloud}
use Rattle.db_base.specs.declared.names.ObjName.TheVariants as object
use Rattle.cloud_facts.specs.Book.Book.{empty_book, first_leaf}
use Rattle.cloud_facts.specs.Book.Telling.{tally_of, node_in, with_bytes, root_in}
use Rattle.cloud_facts.specs.Chains.Chain.{AreLevels, IsChained, ChainHolds}
use Rattle.cloud_facts.specs.Chains.Links.{Ascends, first_link, page_after, low_after}
use Rattle.cloud_facts.proofs.Chains.Names.{in_single}
use Rattle.cloud_facts.proofs.Chains.Pieces.{none_in, none_stands}

-- the links of level 0, and of the others
first_leaf_cases : (P : List Link → Type 0) (level : ℕ) → (level ≡ 0 → P (first_link ∷ [])) → ((level ≡ 0 → ⊥) → P []) → P (first_leaf level)
first_leaf_cases P level same other = on (level == 0) refl
  where
    on : (b : Bool) → (level == 0) ≡ b → P (cond b (first_link ∷ []) [])
    on true e = same (eqb-true level 0 e)
    on false e = other (λ z. let yes : (level == 0) ≡ true = eq-eqb level 0 z in absurd (cc))

in_first_leaf : (level : ℕ) (a : Link) → IsIn (first_leaf level) a → (level ≡ 0) × (first_link ≡ a)
in_first_leaf level a h =
    first_leaf_cases (λ (ls : List Link). IsIn ls a → (level ≡ 0) × (first_link ≡ a)) level (λ e k. (e, in_single first_link a k))
    (λ ne k. absurd (none_in a k)) h

none_next : (place : ℕ) (a : Link) → StandsAt (first_link ∷ []) place a → slice_get (first_link ∷ []) (place + 1) ≡ None
none_next zero a h = refl
none_next (suc place) a h = absurd (none_stands place a h)

first_levels : AreLevels (λ level. first_leaf level) 1
first_levels = record {
  leaves = ([], refl);
  begins = λ level h. first_leaf_cases (λ (ls : List Link). (link : Link) × StandsAt ls 0 link × (link.low ≡ [])) level
      (λ e. (first_link, refl, refl)) (λ ne. absurd (ne (omega arith)));
  above = λ level h. first_leaf_cases (λ (ls : List Link). ls ≡ []) level (λ e. absurd (omega arith)) (λ ne. refl);
  ascends = λ level. first_leaf_cases (λ (ls : List Link). Ascends ls) level (λ e. (tt, tt)) (λ ne. tt);
  once = λ l m a b h k e.
      let x = in_first_leaf l a h in
      let y = in_first_leaf m b k in
      (x.0 ∙ sym y.0, ap (λ (z : Link). z.low) (sym x.1 ∙ y.1));
}

-- no page has a version
abbrev nothing_landed : ℕ → List Node
nothing_landed page = []

nothing_chained : (done : List ℕ → ℕ → ℕ → ℕ) (cursor : ℕ → ℕ) → IsChained (λ level. first_leaf level) nothing_landed [] done cursor
nothing_chained done cursor = record {
  levels = first_levels;
  versions = λ level link node h k. absurd (none_in node k);
  entries = record { of_roots = λ root h. absurd (none_in root h); of_nodes = λ page node h. absurd (none_in node h) };
  newest = record {
    ends = λ level place link h. record { right = right level place link h; high = high level place link h };
    absent = λ level link h none. let is = in_first_leaf level link h in (is.0, ap (λ (x : Link). x.page) (sym is.1));
  };
  pages = record {
    linked = λ level link h.
        let is : link.page ≡ 1 = ap (λ (x : Link). x.page) (sym (in_first_leaf level link h).1) in
        (omega (arith, is), omega (arith, is));
    landed = λ page some. absurd (some refl);
    unlinked = λ page out. omega arith;
  };
  covered = record { leaves = λ link node h k. absurd (none_in node k); cursors = λ root h. absurd (none_in root h) };
}
  where
    next : (level place : ℕ) (link : Link) → StandsAt (first_leaf level) place link → slice_get (first_leaf level) (place + 1) ≡ None
    next level place link h =
        first_leaf_cases (λ (ls : List Link). StandsAt ls place link → slice_get ls (place + 1) ≡ None) level (λ e k. none_next place link k)
        (λ ne k. absurd (none_stands place link k)) h

    right : (level place : ℕ) (link : Link) → StandsAt (first_leaf level) place link → 0 ≡ page_after (slice_get (first_leaf level) (place + 1))
    right level place link h = ap page_after (sym (next level place link h))

    high : (level place : ℕ) (link : Link) → StandsAt (first_leaf level) place link → None ≡ low_after (slice_get (first_leaf level) (place + 1))
    high level place link h = ap low_after (sym (next level place link h))

pub empty_chains : (s : CloudState) → IsEmptyCloud s → ChainHolds (record { tally = tally_of empty_book s; book = empty_book; order = [] })
empty_chains s empty tree is =
    let t = tally_of empty_book s in
    let nodes : nothing_landed ≡ nodes_of s tree = λ i page. ap (λ (vs : List Version). map node_in (with_bytes vs)) (sym (empty.versions (object.Page tree page))) i in
    let roots : [] ≡ roots_of s tree = ap (map root_in) (sym (empty.versions (object.Tree tree))) in
    subst (λ (ns : ℕ → List Node). IsChained (λ level. first_leaf level) ns (roots_of s tree) (t.done tree) (t.cursor tree 0)) nodes
    (subst (λ (rs : List Tree). IsChained (λ level. first_leaf level) nothing_landed rs (t.done tree) (t.cursor tree 0)) roots
    (nothing_chained (t.done tree) (t.cursor tree 0)))
