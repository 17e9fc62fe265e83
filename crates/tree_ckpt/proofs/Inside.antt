-- The low key of a new piece of a leaf or an inner node lies in its range.
use Rattle.std.proofs.Common.{◌≡◌, ◌≤◌, ◌+◌, ◌-◌, ◌/◌, ◌⊎◌, ℕ, zero, suc, Bool, true, false, cond, List, [], ◌∷◌, ◌++◌, length, Option, Some, None, Ok, refl, sym, ap, subst, ◌∙◌, inl, inr, arith}
use Rattle.std.specs.Prelude.{◌==◌, ◌&&◌, not, map, drop, nat_le}
use Rattle.std.specs.Int.{w8, w16}
use Rattle.std.specs.List.{AllByRecursion, flat_map}
use Rattle.std.proofs.lemmas.Bool.{leb-true}
use Rattle.byte_format.specs.Format.{Format, greatest, in_range, list_fits, list_of, maybe, only_where, ruled, text, ◌then◌}
use Rattle.byte_format.specs.Order.{bytes_below, below_bound}
use Rattle.byte_format.specs.Whole.{whole}
use Rattle.db_base.specs.Change.{key_of}
use Rattle.leaf_view.specs.Leaf.{Leaf, leaf, leaf_head, leaf_of, leaf_parts, done_item, record_item, attr_text, attribute, key_stands}
use Rattle.leaf_view.specs.Leaf.{Entry as Rec, entry_of as record_of, entry_parts as record_parts}
use Rattle.leaf_view.specs.Fits.{IsEntryIn}
use Rattle.leaf_view.specs.Lookup.{holds}
use Rattle.leaf_view.proofs.Split.{records_fit}
use Rattle.leaf_edit.specs.Applied.{applied}
use Rattle.leaf_edit.specs.Lacked.{is_lacked, lacked}
use Rattle.tree_ckpt.proofs.Words.{PuItem, NewEntry, Placing, Link, PagePlan}
use Rattle.tree_ckpt.proofs.Keyed.{edited_by-keys}
use Rattle.node_codec.specs.Inner.{Inner, inner_of}
use Rattle.node_codec.specs.Node.{Entry, entry, may_stand, follows, with_entry}
use Rattle.split_plan.specs.Cut.{IsCut, IsNewPart, first_key_of}
use Rattle.split_plan.specs.Part.{Part, entry_key, record_key, part_of_leaf, part_of_node}
use Rattle.split_plan.specs.Plan.{entry_of, on_pages, node_bytes}
use Rattle.split_plan.specs.Sizes.{count_of, sizes_of, cuts_of, CanCut}
use Rattle.split_plan.proofs.Counting.{can-cuts, cuts-and-last}
use Rattle.tree_phases.specs.Kept.{links_at}
use Rattle.tree_phases.specs.Nodes.{goes_to, with_links}
use Rattle.node_codec.specs.Tree.{Tree}
use Rattle.tree_ckpt.specs.Working.{IsAmong, PutsPieces, form_of, PutsLeaf, HoldsLeaf, linked_node, HoldsLow}
use Rattle.tree_ckpt.proofs.Fences.{seen_read, then_read, whole_read}
use Rattle.tree_ckpt.proofs.Fits.{ReadsFit, maybe_fits, only_where_fits, text_fits, ruled_fits, then_fits, seen_fits, list_of_fits}
use Rattle.tree_ckpt.proofs.Entries.{among_front, among_back, entry_at, with_from}
use Rattle.tree_ckpt.proofs.Nodes.{and_both}
use Rattle.tree_ckpt.proofs.Roots.{entries_short}
use Rattle.tree_ckpt.proofs.Sound.{IsSoundNode, node_sound}

-- ---- no piece is empty

abbrev AreSome : List ℕ → Type 0
AreSome ns = AllByRecursion (λ n. 1 ≤ n) ns

cuts_some : (sizes : List ℕ) (last len : ℕ) → CanCut sizes last len → 1 ≤ len → AreSome (sizes ++ last ∷ [])
cuts_some [] last len h some = (omega (arith, h, some), tt)
cuts_some (n ∷ sizes) last len h some = (h.0, cuts_some sizes last (len - n) h.2 (omega (arith, h.1)))

sizes_some : (len : ℕ) → 1 ≤ len → AreSome (sizes_of len)
sizes_some len some = subst AreSome (cuts-and-last len) (cuts_some (cuts_of len) (len / count_of len) len (can-cuts len) some)

-- ---- a piece begins with one of its items

first_among : {A : Type 0} (key : A → List ℕ) (xs : List A) → 1 ≤ length xs → (x : A) × IsAmong x xs × (first_key_of key xs ≡ key x)
first_among key [] some = absurd (omega (arith, some))
first_among key (x ∷ xs) some = (x, inl refl, refl)

piece_low : {A X : Type 0} (key : A → List ℕ) (e : NewEntry) (page free : ℕ) (ps : List (Part A X)) → IsAmong e (map entry_of (on_pages page free ps))
    → AllByRecursion (λ (p : Part A X). IsNewPart key p) ps → AreSome (map (λ (p : Part A X). length p.items) ps)
    → (x : A) × IsAmong x (flat_map (λ (p : Part A X). p.items) ps) × (e.low ≡ key x)
piece_low key e page free [] h new some = absurd h
piece_low {A} {X} key e page free (p ∷ ps) (inl same) new some =
    let first = first_among key p.items some.0 in (
      first.0,
      among_front first.0 p.items (flat_map (λ (q : Part A X). q.items) ps) first.1,
      ap (λ (y : NewEntry). y.low) (sym same) ∙ (new.0.low ∙ first.2),
    )
piece_low {A} {X} key e page free (p ∷ ps) (inr h) new some =
    let rest = piece_low key e free (free + 1) ps h new.1 some.1 in
    (rest.0, among_back rest.0 p.items (flat_map (λ (q : Part A X). q.items) ps) rest.1, rest.2)

module _ {A X : Type 0} (key : A → List ℕ) (first : ℕ) (whole : Part A X) where
  new_low : (page : ℕ) (e : NewEntry) (ps : List (Part A X)) → IsCut key first whole ps → IsAmong e (drop 1 (map entry_of (on_pages page first ps)))
      → (x : A) × IsAmong x whole.items × (e.low ≡ key x)
  new_low page e [] cut h = absurd h
  new_low page e (p ∷ ps) cut h = on (length whole.items) cut.sizes where
    found : AreSome (map (λ (q : Part A X). length q.items) (p ∷ ps)) → (x : A) × IsAmong x whole.items × (e.low ≡ key x)
    found some =
        let low = piece_low key e first (first + 1) ps h cut.begins.2 some.1 in
        (low.0, subst (λ (xs : List A). IsAmong low.0 xs) cut.items (among_back low.0 p.items (flat_map (λ (q : Part A X). q.items) ps) low.1), low.2)

    alone : (ms : List ℕ) → length p.items ∷ ms ≡ 0 ∷ [] → ms ≡ []
    alone ms e = ap (λ (ns : List ℕ). drop 1 ns) e

    nothing : (qs : List (Part A X)) → map (λ (q : Part A X). length q.items) qs ≡ [] → IsAmong e (map entry_of (on_pages first (first + 1) qs)) → (x : A) × IsAmong x whole.items × (e.low ≡ key x)
    nothing [] none g = absurd g
    nothing (q ∷ qs) none g = absurd (cc (none))

    on : (len : ℕ) → map (λ (q : Part A X). length q.items) (p ∷ ps) ≡ sizes_of len → (x : A) × IsAmong x whole.items × (e.low ≡ key x)
    on zero sizes = nothing ps (alone (map (λ (q : Part A X). length q.items) ps) sizes) h
    on (suc n) sizes = found (subst AreSome (sym sizes) (sizes_some (suc n) (omega arith)))

-- ---- the entries of a node lie in its range

entries_within : (low : List ℕ) (high : Option (List ℕ)) (last : ℕ) (may_end : Bool) (before : Option Entry) (es : List Entry) → list_fits may_end (entry low high last) before es ≡ true
    → AllByRecursion (λ (e : Entry). below_bound e.0 high ≡ true) es
entries_within low high last may_end before [] h = tt
entries_within low high last may_end before (e ∷ es) h =
    let parts = and_both ((entry low high last before).fits e) (list_fits true (entry low high last) (Some e) es) h in
    let own = and_both (in_range 0 64 (length e.0) && may_stand low high before e.0) _ parts.0 in
    let text = and_both (in_range 0 64 (length e.0)) (may_stand low high before e.0) own.0 in
    (on (follows low before e.0) text.1, entries_within low high last true (Some e) es parts.1) where
      on : (b : Bool) → cond b (below_bound e.0 high) false ≡ true → below_bound e.0 high ≡ true
      on true g = g
      on false g = absurd (cc (g))

among_all : {A : Type 0} (P : A → Type 0) (x : A) (xs : List A) → AllByRecursion P xs → IsAmong x xs → P x
among_all P x [] all h = absurd h
among_all P x (y ∷ ys) all (inl e) = subst P e all.0
among_all P x (y ∷ ys) all (inr h) = among_all P x ys all.1 h

own_holds : (n : Inner) (e : Entry) → IsSoundNode n → IsAmong e n.entries → HoldsLow n e.0
own_holds n e k h = record {
  short = among_all (λ (x : Entry). length x.0 ≤ 64) e n.entries (entries_short n.low n.high greatest false None n.entries k.fits) h;
  from = among_all (λ (x : Entry). bytes_below x.0 n.low ≡ false) e n.entries k.entries h;
  to = among_all (λ (x : Entry). below_bound x.0 n.high ≡ true) e n.entries (entries_within n.low n.high greatest false None n.entries k.fits) h;
}

goes_holds : (n : Inner) (l : Link) → goes_to n l ≡ true → HoldsLow n l.low
goes_holds n l h =
    let a = and_both (l.level == n.level) (nat_le (length l.low) 64 && (not (bytes_below l.low n.low) && below_bound l.low n.high)) h in
    let b = and_both (nat_le (length l.low) 64) (not (bytes_below l.low n.low) && below_bound l.low n.high) a.1 in
    let c = and_both (not (bytes_below l.low n.low)) (below_bound l.low n.high) b.1 in
    record { short = leb-true (length l.low) 64 b.0; from = turned (bytes_below l.low n.low) c.0; to = c.1 } where
      turned : (b : Bool) → not b ≡ true → b ≡ false
      turned true e = absurd (cc (e))
      turned false e = refl

linked_holds : (n : Inner) (ls : List Link) (e : Entry) (es : List Entry) → ((x : Entry) → IsAmong x es → HoldsLow n x.0) → IsAmong e (with_links n ls es) → HoldsLow n e.0
linked_holds n [] e es each h = each e h
linked_holds n (l ∷ ls) e es each h = linked_holds n ls e (cond (goes_to n l) (with_entry l.low l.page es) es) (λ x g. on (goes_to n l) refl x g) h where
  new : goes_to n l ≡ true → (x : Entry) → IsAmong x es ⊎ (entry_at l.low l.page ≡ x) → HoldsLow n x.0
  new goes x (inl g) = each x g
  new goes x (inr same) = subst (λ (y : Entry). HoldsLow n y.0) same (goes_holds n l goes)

  on : (b : Bool) → goes_to n l ≡ b → (x : Entry) → IsAmong x (cond b (with_entry l.low l.page es) es) → HoldsLow n x.0
  on true goes x g = new goes x (with_from x l.low l.page es g)
  on false goes x g = each x g

low_of : (level : ℕ) (l : Link) (es : List NewEntry) → IsAmong l (links_at level es) → (e : NewEntry) × IsAmong e es × (l.low ≡ e.low)
low_of level l [] h = absurd h
low_of level l (e ∷ es) (inl same) = (e, inl refl, ap (λ (m : Link). m.low) (sym same))
low_of level l (e ∷ es) (inr h) = let rest = low_of level l es h in (rest.0, inr rest.1, rest.2)

pub node_piece_holds : (root : Tree) (page : ℕ) (bytes : List ℕ) (n : Inner) (ls : List Link) (placing : Placing) (entries : List NewEntry) (level : ℕ) (l : Link)
    → inner_of bytes ≡ Some n → PutsPieces (form_of entry_key node_bytes) root page (part_of_node (linked_node n ls)) placing entries → IsAmong l (links_at level entries) → HoldsLow n l.low
node_piece_holds root page bytes n ls placing entries level l spelt put h =
    let e = low_of level l entries h in
    let x = new_low entry_key put.first (part_of_node (linked_node n ls)) page e.0 put.pieces put.cut (subst (λ (es : List NewEntry). IsAmong e.0 es) put.entries e.1) in
    subst (HoldsLow n) (sym (e.2 ∙ x.2)) (linked_holds n ls x.0 n.entries (λ y g. own_holds n y (node_sound bytes n spelt) g) x.1)

-- ---- a leaf

-- a record's key is from a low key on and below a bound
abbrev IsKeyWithin : List ℕ → Option (List ℕ) → List ℕ → Type 0
IsKeyWithin low high key = (bytes_below key low ≡ false) × (below_bound key high ≡ true)

abbrev KeyWithin : List ℕ → Option (List ℕ) → Rec → Type 0
KeyWithin low high e = IsKeyWithin low high e.key

abbrev SetsWithin : List ℕ → Option (List ℕ) → PuItem → Type 0
SetsWithin low high x = IsKeyWithin low high (key_of x.rec.change)

turned_false : (b : Bool) → not b ≡ true → b ≡ false
turned_false true e = absurd (cc (e))
turned_false false e = refl

attribute_fits : (format : ℕ) → ReadsFit (attribute format)
attribute_fits format = on (format == 2) where
  on : (b : Bool) → ReadsFit (cond b (maybe attr_text) (only_where false attr_text))
  on true = maybe_fits attr_text (text_fits w8 1 32)
  on false = only_where_fits false attr_text (text_fits w8 1 32)

abbrev from_payload : ℕ → Format (List ℕ × Option (List ℕ))
from_payload format = text w16 0 1024 then λ payload. attribute format

record_fits : (format : ℕ) (low : List ℕ) (high : Option (List ℕ)) (before : Option Rec) → ReadsFit (record_item format low high before)
unfolding record_item
record_fits format low high before =
    seen_fits record_of record_parts (ruled (key_stands low high before) (text w8 1 64) then λ (key : List ℕ). from_payload format) (λ x. refl)
    (then_fits (ruled (key_stands low high before) (text w8 1 64)) (λ (key : List ℕ). from_payload format)
    (ruled_fits (key_stands low high before) (text w8 1 64) (text_fits w8 1 64))
    (λ key. then_fits (text w16 0 1024) (λ (payload : List ℕ). attribute format) (text_fits w16 0 1024) (λ payload. attribute_fits format)))

within_all : (low : List ℕ) (high : Option (List ℕ)) (es : List Rec) → AllByRecursion (IsEntryIn low high) es → AllByRecursion (KeyWithin low high) es
within_all low high [] h = tt
within_all low high (e ∷ es) h = ((turned_false (bytes_below e.key low) h.0.from_low, h.0.to_high), within_all low high es h.1)

read_within : (bytes : List ℕ) (l : Leaf) → whole leaf bytes ≡ Ok l → AllByRecursion (KeyWithin l.low l.high) l.records
unfolding leaf
read_within bytes l e =
    let w = whole_read leaf bytes l e in
    let s = seen_read leaf_of leaf_parts (leaf_head then λ head. list_of true done_item None then λ done. list_of true (record_item head.format head.low head.high) None) bytes w.0 w.1 in
    let t = then_read leaf_head (λ head. list_of true done_item None then λ done. list_of true (record_item head.format head.low head.high) None) bytes s.0 s.1 in
    let format : ℕ = s.0.0.0.format in
    let low : List ℕ = s.0.0.0.low in
    let high : Option (List ℕ) = s.0.0.0.high in
    let d = then_read (list_of true done_item None) (λ done. list_of true (record_item format low high) None) t.0 (s.0.0.1, s.0.1) t.2 in
    let fit : list_fits true (record_item format low high) None s.0.0.1.1 ≡ true = list_of_fits true (record_item format low high) None (record_fits format low high) d.0 (s.0.0.1.1, s.0.1) d.2 in
    let all : AllByRecursion (KeyWithin low high) s.0.0.1.1 = within_all low high s.0.0.1.1 (records_fit format low high None s.0.0.1.1 fit).0.0 in
    let read : AllByRecursion (KeyWithin w.0.0.low w.0.0.high) w.0.0.records = subst (λ (k : Leaf). AllByRecursion (KeyWithin k.low k.high) k.records) s.2 all in
    subst (λ (k : Leaf). AllByRecursion (KeyWithin k.low k.high) k.records) w.2 read

held_within : (page : ℕ) (l : Leaf) (got : Option (List ℕ)) → HoldsLeaf page l got → AllByRecursion (KeyWithin l.low l.high) l.records
held_within page l (Some bytes) h = read_within bytes l h
held_within page l None h = subst (λ (k : Leaf). AllByRecursion (KeyWithin k.low k.high) k.records) (sym h.1) tt

lacked_within : (l : Leaf) (run : List PuItem) → AllByRecursion (SetsWithin l.low l.high) (lacked l 0 run)
lacked_within l [] = tt
lacked_within l (x ∷ xs) = on (is_lacked l 0 x) refl (lacked_within l xs) where
  here : is_lacked l 0 x ≡ true → SetsWithin l.low l.high x
  here e =
      let p = and_both (holds l (key_of x.rec.change)) _ e in
      let q = and_both (not (bytes_below (key_of x.rec.change) l.low)) (below_bound (key_of x.rec.change) l.high) p.0 in
      (turned_false (bytes_below (key_of x.rec.change) l.low) q.0, q.1)

  on : (b : Bool) → is_lacked l 0 x ≡ b → AllByRecursion (SetsWithin l.low l.high) (lacked l 0 xs)
      → AllByRecursion (SetsWithin l.low l.high) (cond b (x ∷ lacked l 0 xs) (lacked l 0 xs))
  on true e again = (here e, again)
  on false e again = again

-- the low key of a new piece of a leaf lies in the leaf's range
pub leaf_piece_holds : (root : Tree) (page : ℕ) (l : Leaf) (got : Option (List ℕ)) (run : List PuItem) (p : PagePlan) (level : ℕ) (m : Link) → HoldsLeaf page l got
    → PutsLeaf root page l run p → IsAmong m (links_at level p.entries) → holds l m.low ≡ true
leaf_piece_holds root page l got run p level m holding put h =
    let e = low_of level m p.entries h in
    let x = new_low record_key put.first (part_of_leaf (applied l 0 run)) page e.0 put.pieces put.cut (subst (λ (es : List NewEntry). IsAmong e.0 es) put.entries e.1) in
    let all : AllByRecursion (KeyWithin l.low l.high) (applied l 0 run).records =
    edited_by-keys (IsKeyWithin l.low l.high) l.records (lacked l 0 run) (lacked_within l run) (held_within page l got holding) in
    let within : KeyWithin l.low l.high x.0 = among_all (KeyWithin l.low l.high) x.0 (applied l 0 run).records all x.1 in
    ap (holds l) (e.2 ∙ x.2) ∙ (ap (λ (b : Bool). not b && below_bound x.0.key l.high) within.0 ∙ within.1)
