-- A look-up makes the calls of its walks, and no other.
use Rattle.std.proofs.Common.{◌≡◌, ℕ, ◌+◌, ◌≤◌, ◌<◌, Bool, true, false, List, [], ◌∷◌, ◌++◌, length, Option, Some, None, length-append, refl, ap, sym, subst, arith}
use Rattle.std.specs.Prelude.{if◌then◌else◌}
use Rattle.byte_format.specs.Order.{below_bound}
use Rattle.db_base.specs.Ids.{index_of}
use Rattle.attr_index.proofs.Words.{Stage, Index, Records, Deed, Ends, Goes, Next, Stops, Leaf}
use Rattle.cloud_trait.specs.Machine.{IsMade}
use Rattle.page_cache.specs.Cache.{Cache}
use Rattle.page_cache.specs.Held.{leaf_at}
use Rattle.tree_walk.specs.Walk.{Walk, object_of, sought, new_walk, walk_ready, walk_next, pages}
use Rattle.tree_walk.specs.Within.{IsBegun, IsOnce}
use Rattle.tree_walk.proofs.End.{more_pages}
use Rattle.tree_walk.proofs.Within.{once_goes, once_begun}
use Rattle.tree_walk.proofs.Served.{IsServedBy, end_served}
use Rattle.attr_index.specs.Look.{Query, Own, Look, look_asks, bound_of, index_walk, set_out, walks, new_look, to_first, to_record, behind_leaf, with_keys, with_found, leaf_read_at, leaf_read, walked, look_next}
use Rattle.attr_index.specs.Meaning.{Visit, leaf_of, leaf_by, visited, Looked, tree_at}
use Rattle.attr_index.specs.Within.{IsOfWalk, AreOfWalks, LooksWithin}
use Rattle.attr_index.proofs.Meaning.{Holds, looked_holds}

-- ---- where it goes on behind a leaf, a new walk is in hand

abbrev BeginsWalk : Next (Look × Cache) (Unit {0}) → Type 0
BeginsWalk (Goes n) = IsBegun (n.0.walk, n.1)
BeginsWalk (Ends n done) = Unit {0}
BeginsWalk (Stops n t) = Unit {0}

walks_begins : (l : Look) (tree : ℕ) (key : List ℕ) (c : Cache) → BeginsWalk (walks l (new_walk tree (Some key) false) c)
walks_begins l tree key c = on (walk_ready (new_walk tree (Some key) false, c)) refl where
  on : (x : Next (Walk × Cache) ℕ) → walk_ready (new_walk tree (Some key) false, c) ≡ x → BeginsWalk (set_out l x)
  on (Goes m) is = (tree, Some key, false, c, is)
  on (Ends m page) is = tt
  on (Stops m t) is = tt

first_begins : (l : Look) (keys : List (List ℕ)) (c : Cache) → BeginsWalk (to_first l keys c)
first_begins l [] c = tt
first_begins l (key ∷ keys) c = walks_begins (record l { stage = Records; listed = keys }) l.query.tree key c

behind_begins : (l : Look) (high : Option (List ℕ)) (c : Cache) → BeginsWalk (behind_leaf l high c)
behind_begins l None c = first_begins l l.listed c
behind_begins l (Some high) c = on (below_bound high (bound_of l.query)) where
  on : (b : Bool) → BeginsWalk (if b then walks l (index_walk l.query high) c else to_record l c)
  on true = walks_begins l (index_of l.query.tree) high c
  on false = first_begins l l.listed c

leaf_begins : (stage : Stage) (l : Look) (own : Own) (leaf : Leaf) (c : Cache) → BeginsWalk (leaf_read_at stage l own leaf c)
leaf_begins Index l own leaf c = behind_begins (with_keys l own leaf) leaf.high c
leaf_begins Records l own leaf c = first_begins (with_found l own leaf) l.listed c

read_begins : (l : Look) (own : Own) (o : Option Leaf) (c : Cache) → BeginsWalk (leaf_read l own o c)
read_begins l own None c = tt
read_begins l own (Some leaf) c = leaf_begins l.stage l own leaf c

-- ---- the calls of its walks

record IsMadeUp (q : Query) (h : List Deed) (vs : List Visit) (m : Look × Cache) : Type 0 where
  way : List Deed
  before : List Deed
  others : ℕ
  are : h ≡ way ++ before
  of_walk : IsOfWalk (tree_at q m.0.stage) (sought m.0.walk) way (m.0.walk, m.1)
  of_walks : AreOfWalks q before others vs
  few : length before ≤ others

-- a walk without calls
none_yet : (q : Query) (own : Own) (vs : List Visit) (m : Look × Cache) → Holds q own vs m.0 → IsBegun (m.0.walk, m.1)
    → IsOfWalk (tree_at q m.0.stage) (sought m.0.walk) [] (m.0.walk, m.1)
none_yet q own vs m h begun = record {
  start = (m.0.walk, m.1);
  begun = begun;
  walked = refl;
  of_tree = h.tree;
  to_key = refl;
  once = once_begun (m.0.walk, m.1) begun;
  bound = omega arith;
}

next_made : (q : Query) (own : Own) (h : List Deed) (vs : List Visit) (m n : Look × Cache) (d : Deed) → Holds q own vs m.0
    → Holds q own (visited m.0 d (leaf_by m d) vs) n.0 → d.ask ≡ look_asks m → IsMade d → IsMadeUp q h vs m → look_next own m d.answer ≡ Goes n
    → IsMadeUp q (d ∷ h) (visited m.0 d (leaf_by m d) vs) n
next_made q own h vs m n d old new asked made up goes = on (walk_next (m.0.walk, m.1) d.answer) refl new goes where
  on : (x : Next (Walk × Cache) ℕ) → walk_next (m.0.walk, m.1) d.answer ≡ x → Holds q own (visited m.0 d (leaf_of x) vs) n.0
      → walked m.0 own x ≡ Goes n → IsMadeUp q (d ∷ h) (visited m.0 d (leaf_of x) vs) n
  on (Goes k) is now goes =
      let same : ◌≡◌ {A = Look × Cache} (record m.0 { walk = k.0 }, k.1) n = cc (goes) in
      let more : pages m.0.walk < pages k.0 = more_pages (m.0.walk, m.1) k d.answer is in
      let walk : ◌≡◌ {A = Walk × Cache} k (n.0.walk, n.1) = ap (λ (x : Look × Cache). (x.0.walk, x.1)) same in
      let once : IsOnce k.0 = once_goes (m.0.walk, m.1) k d.answer up.of_walk.once is in
      let few : length up.way ≤ pages m.0.walk = up.of_walk.bound in
      let longer : length (d ∷ up.way) ≤ pages k.0 = omega (arith, few, more) in
      record {
        way = d ∷ up.way;
        before = up.before;
        others = up.others;
        are = ap (λ (xs : List Deed). d ∷ xs) up.are;
        of_walk = record {
          start = up.of_walk.start;
          begun = up.of_walk.begun;
          walked = ((m.0.walk, m.1), up.of_walk.walked, asked, made, subst (λ (x : Walk × Cache). walk_next (m.0.walk, m.1) d.answer ≡ Goes x) walk is);
          of_tree = now.tree;
          to_key = refl;
          once = subst (λ (x : Walk × Cache). IsOnce x.0) walk once;
          bound = subst (λ (x : Walk × Cache). length (d ∷ up.way) ≤ pages x.0) walk longer;
        };
        of_walks = up.of_walks;
        few = up.few;
      }
  on (Ends k page) is now goes =
      let served : IsServedBy m.0.walk d.answer k page = end_served (m.0.walk, m.1) k d.answer page old.walk is in
      let begun : IsBegun (n.0.walk, n.1) = subst BeginsWalk goes (read_begins (record m.0 { walk = k.0 }) own (leaf_at k.1 (object_of k.0)) k.1) in
      let calls : length (up.way ++ up.before) ≡ length up.way + length up.before = length-append up.way up.before in
      let few : length up.way ≤ pages m.0.walk = up.of_walk.bound in
      let few_before : length up.before ≤ up.others = up.few in
      let V : Option Leaf → List Visit = λ o. visited m.0 d o vs in
      subst (λ (o : Option Leaf). IsMadeUp q (d ∷ h) (V o) n) (sym served.kept)
      (record {
        way = [];
        before = d ∷ h;
        others = (1 + pages m.0.walk) + up.others;
        are = refl;
        of_walk = none_yet q own (V (leaf_at k.1 (object_of k.0))) n now begun;
        of_walks = ((m.0.walk, m.1), up.way, up.before, up.others, ap (λ (xs : List Deed). d ∷ xs) up.are, refl, up.of_walk, up.of_walks);
        few = omega (arith, calls, few, few_before, ap (λ (xs : List Deed). length xs) up.are);
      })
  on (Stops k t) is now goes = absurd (cc (goes))

-- ---- the whole run

looked_made : (q : Query) (own : Own) (h : List Deed) (vs : List Visit) (m : Look × Cache) → Looked q own h vs m → IsMadeUp q h vs m
looked_made q own [] vs m (c, none, ready) =
    let begun : IsBegun (m.0.walk, m.1) = subst BeginsWalk ready (walks_begins (new_look q) _ _ c) in
    record {
      way = [];
      before = [];
      others = 0;
      are = refl;
      of_walk = none_yet q own vs m (looked_holds q own [] vs m (c, none, ready)) begun;
      of_walks = subst (λ (xs : List Visit). AreOfWalks q [] 0 xs) (sym none) (refl, refl);
      few = omega arith;
    }
looked_made q own (d ∷ h) vs m (from, before, came, asked, made, goes, are) =
    let now : Holds q own vs m.0 = looked_holds q own (d ∷ h) vs m (from, before, came, asked, made, goes, are) in
    let new : Holds q own (visited from.0 d (leaf_by from d) before) m.0 = subst (λ (xs : List Visit). Holds q own xs m.0) are now in
    subst (λ (xs : List Visit). IsMadeUp q (d ∷ h) xs m) (sym are)
    (next_made q own h before from m d (looked_holds q own h before from came) new asked made (looked_made q own h before from came) goes)

pub looked_within : (q : Query) (own : Own) (h : List Deed) (vs : List Visit) (m : Look × Cache) → Looked q own h vs m → LooksWithin q h vs m (length h + 1)
looked_within q own h vs m came =
    let up : IsMadeUp q h vs m = looked_made q own h vs m came in
    let calls : length (up.way ++ up.before) ≡ length up.way + length up.before = length-append up.way up.before in
    let few : length up.way ≤ pages m.0.walk = up.of_walk.bound in
    let few_before : length up.before ≤ up.others = up.few in
    record {
      way = up.way;
      before = up.before;
      others = up.others;
      are = up.are;
      of_walk = up.of_walk;
      of_walks = up.of_walks;
      bound = omega (arith, calls, few, few_before, ap (λ (xs : List Deed). length xs) up.are);
    }
