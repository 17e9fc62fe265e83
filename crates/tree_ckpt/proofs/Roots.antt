-- A reservation leaves the level of the tree object as it is.
use Rattle.std.proofs.Common.{◌≡◌, ◌≢◌, ◌<◌, ◌≤◌, ◌+◌, ◌-◌, ℕ, Bool, true, false, cond, List, [], ◌∷◌, length, Option, Some, None, refl, sym, ap, subst, ◌∙◌, arith}
use Rattle.std.specs.Prelude.{◌&&◌, unwrap_or}
use Rattle.std.specs.List.{AllByRecursion}
use Rattle.byte_format.specs.Format.{greatest, in_range, list_fits}
use Rattle.byte_format.specs.Order.{bytes_below}
use Rattle.node_codec.specs.Node.{Entry, entry, may_stand, child_of, later_of}
use Rattle.node_codec.specs.Tree.{Tree, tree_of, empty_tree, HasTreeSpelling}
use Rattle.node_codec.proofs.EntryLemmas.{fits_to_last}
use Rattle.node_codec.proofs.NodeLemmas.{in_range_from, in_range_parts}
use Rattle.node_codec.proofs.SpellingLaws.{tree_again}
use Rattle.node_codec.proofs.TreeLemmas.{TreeFits, tree_fits, fit_tree}
use Rattle.tree_phases.specs.Placing.{root_after}
use Rattle.tree_phases.specs.Read.{tree_held}
use Rattle.tree_ckpt.specs.Working.{Reserves}
use Rattle.tree_ckpt.proofs.Fits.{tree_read_fits}
use Rattle.tree_ckpt.proofs.Nodes.{and_both}

-- a tree object that was read, or that of an empty tree
pub record IsHeldRoot (t : Tree) : Type 0 where
  pub fits : TreeFits (record t { version = 1 })
  pub version : t.version ≤ greatest

empty_held : IsHeldRoot empty_tree
empty_held = record { fits = record { version = refl; next = refl; level = refl; cursor = refl; entries = refl }; version = omega arith }

read_held : (t : Tree) → HasTreeSpelling t → IsHeldRoot t
read_held t h =
    let f : TreeFits t = tree_fits t h in
    record {
      fits = record { version = refl; next = f.next; level = f.level; cursor = f.cursor; entries = f.entries };
      version = (in_range_parts 1 greatest t.version f.version).1;
    }

pub is_held : (root : Option (List ℕ)) → IsHeldRoot (tree_held root)
is_held None = empty_held
is_held (Some bytes) = on (tree_of bytes) refl where
  on : (o : Option Tree) → tree_of bytes ≡ o → IsHeldRoot (unwrap_or o empty_tree)
  on (Some t) e = read_held t (tree_read_fits bytes t e)
  on None e = empty_held

-- its next version, with so many numbers reserved
abbrev pub reserving : Tree → ℕ → Tree
reserving t count = record t { version = t.version + 1; next = t.next + count }

next_fits : (t : Tree) (count : ℕ) → IsHeldRoot t → t.version ≢ greatest → t.next + count ≤ greatest → HasTreeSpelling (reserving t count)
next_fits t count k spare within =
    let next = in_range_parts 2 greatest t.next k.fits.next in
    let more : t.version < greatest = omega (arith, k.version, spare) in
    fit_tree (reserving t count) (record {
      version = in_range_from 1 greatest (t.version + 1) (omega arith) (omega (arith, more));
      next = in_range_from 2 greatest (t.next + count) (omega (arith, next.0)) within;
      level = k.fits.level;
      cursor = k.fits.cursor;
      entries = fits_to_last [] None (t.next - 1) (t.next + count - 1) false None t.entries (omega arith) k.fits.entries;
    })

-- what stands behind a reservation: the level stays, and the next number is behind those that were reserved
pub record IsBehind (t u : Tree) (count : ℕ) (first : ℕ) : Type 0 where
  pub level : u.level ≡ t.level
  pub next : t.next ≤ u.next
  pub beyond : 1 ≤ count → first + count ≤ u.next

pub held_after : (root : Option (List ℕ)) (first count : ℕ) (o : Option (List ℕ)) → Reserves (tree_held root) first count o
    → IsBehind (tree_held root) (tree_held (root_after o root)) count first
held_after root first count None h = record { level = refl; next = omega arith; beyond = λ some. absurd (omega (arith, some, h)) }
held_after root first count (Some bytes) h =
    let fits : HasTreeSpelling (reserving (tree_held root) count) = next_fits (tree_held root) count (is_held root) h.1 h.2 in
    let stands : tree_held (Some bytes) ≡ reserving (tree_held root) count =
    ap (λ (b : List ℕ). unwrap_or (tree_of b) empty_tree) h.3 ∙ ap (λ (t : Option Tree). unwrap_or t empty_tree) (tree_again (reserving (tree_held root) count) fits) in
    record {
      level = ap (λ (t : Tree). t.level) stands;
      next = subst (λ (t : Tree). (tree_held root).next ≤ t.next) (sym stands) (omega arith);
      beyond = λ some. subst (λ (t : Tree). first + count ≤ t.next) (sym stands) (omega (arith, h.0));
    }

module _ (key : List ℕ) where
  -- the child for a key is one of the entries
  pub child_all : (P : Entry → Type 0) (es : List Entry) (e : Entry) → AllByRecursion P es → child_of key es ≡ Some e → P e
  child_all P [] e h is = absurd (cc (is))
  child_all P (x ∷ xs) e h is = on (child_of key xs) refl is (λ f g. child_all P xs f h.1 g) where
    mine : (b : Bool) → later_of (cond b None (Some x)) None ≡ Some e → P e
    mine true g = absurd (cc (g))
    mine false g = let same : x ≡ e = cc (g) in subst P same h.0

    on : (o : Option Entry) → child_of key xs ≡ o → later_of (cond (bytes_below key x.0) None (Some x)) o ≡ Some e → ((f : Entry) → child_of key xs ≡ Some f → P f) → P e
    on (Some f) at g rest = let same : f ≡ e = cc (g) in subst P same (rest f at)
    on None at g rest = mine (bytes_below key x.0) g

-- low keys that fit are short
pub entries_short : (low : List ℕ) (high : Option (List ℕ)) (last : ℕ) (may_end : Bool) (before : Option Entry) (es : List Entry) → list_fits may_end (entry low high last) before es ≡ true
    → AllByRecursion (λ (e : Entry). length e.0 ≤ 64) es
entries_short low high last may_end before [] h = tt
entries_short low high last may_end before (e ∷ es) h =
    let parts = and_both ((entry low high last before).fits e) (list_fits true (entry low high last) (Some e) es) h in
    let own = and_both (in_range 0 64 (length e.0) && may_stand low high before e.0) _ parts.0 in
    let text = and_both (in_range 0 64 (length e.0)) (may_stand low high before e.0) own.0 in
    ((in_range_parts 0 64 (length e.0) text.0).1, entries_short low high last true (Some e) es parts.1)
