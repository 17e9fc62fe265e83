-- What an inner node or a leaf that was read has: a level above the leaves, a high key exactly beside a right page and above its low key, and entries from
-- its low key on.
use Rattle.std.proofs.Common.{◌≡◌, ◌≤◌, ℕ, suc, Bool, true, false, cond, List, [], ◌∷◌, length, Option, Some, None, Result, Ok, Err, refl, sym, ap, subst, ◌∙◌, arith}
use Rattle.std.specs.Prelude.{◌==◌, IsSome}
use Rattle.std.specs.Int.{w8, w64}
use Rattle.std.specs.Result.{result_ok}
use Rattle.std.proofs.lemmas.Bool.{eqb-true}
use Rattle.byte_format.specs.Format.{Format, greatest, number, text, mark_at, behind, ◌then◌, list_of, list_at, list_fits}
use Rattle.byte_format.specs.HighKey.{key_above, high_key}
use Rattle.byte_format.specs.Order.{bytes_below}
use Rattle.byte_format.specs.Whole.{whole}
use Rattle.leaf_view.specs.Leaf.{Leaf, Head, Heads, head_of, head_parts, leaf, leaf_head, leaf_of, leaf_parts, done_item, record_item}
use Rattle.leaf_view.specs.Lookup.{page_at}
use Rattle.node_codec.specs.Inner.{Inner, inner_of, inner_format, inner_fields, inner_of_fields, fields_of_inner, InnerFields}
use Rattle.node_codec.specs.Node as node
use Rattle.node_codec.specs.Node.{Entry, entry, child_of}
use Rattle.node_codec.proofs.NodeLemmas.{has_child}
use Rattle.tree_ckpt.specs.Moves.{entry_or}
use Rattle.tree_ckpt.specs.Working.{HoldsLeaf}
use Rattle.tree_ckpt.proofs.Fences.{HasSides, bound, seen_read, behind_read, then_read, whole_read, option_read}
use Rattle.tree_ckpt.proofs.Fits.{entries_fit}
use Rattle.tree_ckpt.proofs.Nodes.{IsAbove, AreFrom, number_read, above_read, list_from_low}
use Rattle.tree_ckpt.proofs.Roots.{child_all, entries_short}

-- ---- a whole node

-- a node names no right page where the number is 0
pub no_page : (right : ℕ) → node.page_at right ≡ None → page_at right ≡ None
no_page right e = on (right == 0) refl e where
  on : (b : Bool) → (right == 0) ≡ b → cond b None (Some right) ≡ None → page_at right ≡ None
  on true f g = ap page_at (eqb-true right 0 f)
  on false f g = absurd (cc (g))

pub record IsSoundNode (n : Inner) : Type 0 where
  pub level : 1 ≤ n.level
  pub sides : HasSides n.right n.high
  pub high : IsAbove n.low n.high
  pub entries : AreFrom n.low n.entries
  pub fits : list_fits false (entry n.low n.high greatest) None n.entries ≡ true

abbrev from_high : List ℕ → Option (List ℕ) → Format (List Entry)
from_high low high = list_of false (entry low high greatest) None

abbrev from_right : List ℕ → Format (ℕ × (Option (List ℕ) × List Entry))
from_right low = number w64 0 greatest then λ right. high_key low right then λ high. from_high low high

abbrev from_low : Format (List ℕ × (ℕ × (Option (List ℕ) × List Entry)))
from_low = text w8 0 64 then λ low. from_right low

abbrev from_level : Format (ℕ × (List ℕ × (ℕ × (Option (List ℕ) × List Entry))))
from_level = number w8 1 255 then λ level. from_low

abbrev from_version : Format InnerFields
from_version = number w64 1 greatest then λ version. from_level

whole_sound : (bytes : List ℕ) (n : Inner) → whole inner_format bytes ≡ Ok n → IsSoundNode n
unfolding list_at
whole_sound bytes n e =
    let w = whole_read inner_format bytes n e in
    let s = seen_read inner_of_fields fields_of_inner inner_fields bytes w.0 w.1 in
    let b = behind_read 0x49 (behind 1 from_version) bytes s.0 s.1 in
    let c = behind_read 1 from_version b.0 s.0 b.1 in
    let v = then_read (number w64 1 greatest) (λ version. from_level) c.0 s.0 c.1 in
    let k = then_read (number w8 1 255) (λ level. from_low) v.0 (s.0.0.1, s.0.1) v.2 in
    let l = then_read (text w8 0 64) from_right k.0 (s.0.0.1.1, s.0.1) k.2 in
    let low : List ℕ = s.0.0.1.1.0 in
    let r = then_read (number w64 0 greatest) (λ right. high_key low right then λ high. from_high low high) l.0 (s.0.0.1.1.1, s.0.1) l.2 in
    let right : ℕ = s.0.0.1.1.1.0 in
    let h = then_read (high_key low right) (from_high low) r.0 (s.0.0.1.1.1.1, s.0.1) r.2 in
    let high : Option (List ℕ) = s.0.0.1.1.1.1.0 in
    let made : IsSoundNode (inner_of_fields s.0.0) = record {
      level = (number_read w8 1 255 v.0 (s.0.0.1.0, k.0) k.1).0;
      sides = option_read (key_above low) r.0 right (high, h.0) h.1;
      high = above_read low right r.0 (high, h.0) h.1;
      entries = list_from_low (suc (length h.0)) false low high greatest None h.0 (s.0.0.1.1.1.1.1, s.0.1) h.2 tt;
      fits = entries_fit low high greatest h.0 (s.0.0.1.1.1.1.1, s.0.1) h.2;
    } in
    subst IsSoundNode (s.2 ∙ w.2) made

pub node_sound : (bytes : List ℕ) (n : Inner) → inner_of bytes ≡ Some n → IsSoundNode n
unfolding inner_of
node_sound bytes n e = on (whole inner_format bytes) refl e where
  on : (r : Result Inner ℕ) → whole inner_format bytes ≡ r → result_ok r ≡ Some n → IsSoundNode n
  on (Ok m) f g = let same : m ≡ n = cc (g) in subst IsSoundNode same (whole_sound bytes m f)
  on (Err left) f g = absurd (cc (g))

-- the child for a key that is not below the low key has a low key from that on, and a short one
pub child_sound : (n : Inner) (key : List ℕ) → IsSoundNode n → bytes_below key n.low ≡ false
    → (bytes_below (entry_or (child_of key n.entries)).0 n.low ≡ false) × (length (entry_or (child_of key n.entries)).0 ≤ 64)
child_sound n key k from = on (child_of key n.entries) refl (has_child key n.low n.high greatest n.entries k.fits from) where
  on : (o : Option Entry) → child_of key n.entries ≡ o → IsSome o → (bytes_below (entry_or o).0 n.low ≡ false) × (length (entry_or o).0 ≤ 64)
  on (Some e) at some = (
    child_all key (λ (x : Entry). bytes_below x.0 n.low ≡ false) n.entries e k.entries at,
    child_all key (λ (x : Entry). length x.0 ≤ 64) n.entries e (entries_short n.low n.high greatest false None n.entries k.fits) at,
  )
  on None at some = absurd (cc (some))

-- ---- a leaf

abbrev leaf_from_right : List ℕ → Format (ℕ × Option (List ℕ))
leaf_from_right low = number w64 0 greatest then λ right. high_key low right

abbrev leaf_from_low : Format (List ℕ × (ℕ × Option (List ℕ)))
leaf_from_low = text w8 0 64 then λ low. leaf_from_right low

abbrev leaf_from_version : Format (ℕ × (List ℕ × (ℕ × Option (List ℕ))))
leaf_from_version = number w64 1 greatest then λ version. leaf_from_low

abbrev leaf_from_format : Format Heads
leaf_from_format = number w8 1 2 then λ format. leaf_from_version

head_above : (bytes : List ℕ) (x : Head × List ℕ) → leaf_head.reading bytes ≡ Ok x → IsAbove x.0.low x.0.high
unfolding leaf_head
head_above bytes x e =
    let s = seen_read head_of head_parts (behind 76 leaf_from_format) bytes x e in
    let b = behind_read 76 leaf_from_format bytes s.0 s.1 in
    let c = then_read (number w8 1 2) (λ format. leaf_from_version) b.0 s.0 b.1 in
    let v = then_read (number w64 1 greatest) (λ version. leaf_from_low) c.0 (s.0.0.1, s.0.1) c.2 in
    let l = then_read (text w8 0 64) leaf_from_right v.0 (s.0.0.1.1, s.0.1) v.2 in
    let r = then_read (number w64 0 greatest) (high_key s.0.0.1.1.0) l.0 (s.0.0.1.1.1, s.0.1) l.2 in
    let above : IsAbove s.0.0.1.1.0 s.0.0.1.1.1.1 = above_read s.0.0.1.1.0 s.0.0.1.1.1.0 r.0 (s.0.0.1.1.1.1, s.0.1) r.2 in
    subst (λ (h : Head). IsAbove h.low h.high) s.2 above

read_above : (bytes : List ℕ) (l : Leaf) → whole leaf bytes ≡ Ok l → IsAbove l.low l.high
unfolding leaf
read_above bytes l e =
    let w = whole_read leaf bytes l e in
    let s = seen_read leaf_of leaf_parts (leaf_head then λ head. list_of true done_item None then λ done. list_of true (record_item head.format head.low head.high) None) bytes w.0 w.1 in
    let t = then_read leaf_head (λ head. list_of true done_item None then λ done. list_of true (record_item head.format head.low head.high) None) bytes s.0 s.1 in
    let above : IsAbove s.0.0.0.low s.0.0.0.high = head_above bytes (s.0.0.0, t.0) t.1 in
    let read : IsAbove w.0.0.low w.0.0.high = subst (λ (k : Leaf). IsAbove k.low k.high) s.2 above in
    subst (λ (k : Leaf). IsAbove k.low k.high) w.2 read

pub leaf_above : (page : ℕ) (l : Leaf) (got : Option (List ℕ)) → HoldsLeaf page l got → IsAbove l.low l.high
leaf_above page l (Some bytes) h = read_above bytes l h
leaf_above page l None h = subst (λ (k : Leaf). IsAbove k.low k.high) (sym h.1) tt

-- bytes of a leaf are none of an inner node
marked : (a b : ℕ) (bytes rest more : List ℕ) → mark_at a bytes ≡ Ok rest → mark_at b bytes ≡ Ok more → a ≡ b
unfolding mark_at
marked a b [] rest more e f = absurd (cc (e))
marked a b (x ∷ xs) rest more e f = on (x == a) refl (x == b) refl e f where
  on : (c : Bool) → (x == a) ≡ c → (d : Bool) → (x == b) ≡ d → cond c (Ok xs) (Err (length (x ∷ xs))) ≡ Ok rest → cond d (Ok xs) (Err (length (x ∷ xs))) ≡ Ok more → a ≡ b
  on true g true h e f = sym (eqb-true x a g) ∙ eqb-true x b h
  on true g false h e f = absurd (cc (f))
  on false g d h e f = absurd (cc (e))

leaf_marked : (bytes : List ℕ) (l : Leaf) → whole leaf bytes ≡ Ok l → (rest : List ℕ) × (mark_at 76 bytes ≡ Ok rest)
unfolding leaf leaf_head
leaf_marked bytes l e =
    let w = whole_read leaf bytes l e in
    let s = seen_read leaf_of leaf_parts (leaf_head then λ head. list_of true done_item None then λ done. list_of true (record_item head.format head.low head.high) None) bytes w.0 w.1 in
    let t = then_read leaf_head (λ head. list_of true done_item None then λ done. list_of true (record_item head.format head.low head.high) None) bytes s.0 s.1 in
    let h = seen_read head_of head_parts (behind 76 leaf_from_format) bytes (s.0.0.0, t.0) t.1 in
    let b = bound (mark_at 76 bytes) leaf_from_format.reading h.0 h.1 in
    (b.0, b.1)

node_marked : (bytes : List ℕ) (n : Inner) → inner_of bytes ≡ Some n → (rest : List ℕ) × (mark_at 0x49 bytes ≡ Ok rest)
unfolding inner_of
node_marked bytes n e = on (whole inner_format bytes) refl e where
  read : (m : Inner) → whole inner_format bytes ≡ Ok m → (rest : List ℕ) × (mark_at 0x49 bytes ≡ Ok rest)
  read m f =
      let w = whole_read inner_format bytes m f in
      let s = seen_read inner_of_fields fields_of_inner inner_fields bytes w.0 w.1 in
      let b = bound (mark_at 0x49 bytes) (behind 1 from_version).reading s.0 s.1 in
      (b.0, b.1)

  on : (r : Result Inner ℕ) → whole inner_format bytes ≡ r → result_ok r ≡ Some n → (rest : List ℕ) × (mark_at 0x49 bytes ≡ Ok rest)
  on (Ok m) f g = read m f
  on (Err left) f g = absurd (cc (g))

pub leaf_no_node : (bytes : List ℕ) (l : Leaf) (n : Inner) → whole leaf bytes ≡ Ok l → inner_of bytes ≡ Some n → ⊥
leaf_no_node bytes l n e f =
    let a = leaf_marked bytes l e in
    let b = node_marked bytes n f in
    let same : 76 ≡ 0x49 = marked 76 0x49 bytes a.0 b.0 a.1 b.1 in
    omega (arith, same)
