-- A root that names the pieces of the old one.
use Rattle.std.proofs.Common.{◌≡◌, ℕ, zero, suc, ◌+◌, ◌<◌, ◌≤◌, true, false, List, [], ◌∷◌, ◌++◌, length, None, Some, Option, refl, sym, ap, subst, ◌∙◌, append_assoc, arith, drop}
use Rattle.std.specs.Prelude.{map}
use Rattle.std.specs.List.{AllByRecursion}
use Rattle.std.specs.Ordering.{is_lt, is_eq, ordering_reverse}
use Rattle.std.specs.declared.cmp.Ordering.{Ordering}
use Rattle.std.specs.declared.cmp.Ordering.TheVariants.{Less, Equal, Greater}
use Rattle.std.proofs.lemmas.Bool.{and_parts}
use Rattle.std.proofs.lemmas.Cmp.{nat_list_cmp_total}
use Rattle.std.proofs.lemmas.List.{append-nil}
use Rattle.byte_format.specs.Format.{greatest, list_fits}
use Rattle.byte_format.specs.Order.{bytes_cmp, bytes_below, bytes_same}
use Rattle.node_codec.specs.Node.{Entry, entry, with_entry}
use Rattle.node_codec.specs.Inner.{Inner, node_of_root}
use Rattle.node_codec.specs.Tree.{Tree, raised_root, with_child}
use Rattle.node_codec.proofs.EntryLemmas.{behind_parts, below_chain}
use Rattle.node_codec.proofs.InnerLemmas.{inner_fits}
use Rattle.node_codec.proofs.NodeLemmas.{first_low, in_range_parts}
use Rattle.node_codec.proofs.TreeLemmas.{with_child_is}
use Rattle.split_plan.specs.declared.entry_list.NewEntry.{NewEntry}
use Rattle.split_plan.specs.Cut.{first_key_of, back_part, cut_by}
use Rattle.split_plan.specs.Part.{NodePart, entry_key, node_of_part, part_of_node}
use Rattle.split_plan.specs.Plan.{IsNodePart, child_of, entry_of, node_pieces, on_pages, root_above, root_pieces, with_children}
use Rattle.split_plan.specs.Sizes.{CanCut, count_of, cuts_of}
use Rattle.split_plan.proofs.Counting.{can-cuts, length-cuts}
use Rattle.split_plan.proofs.Cutting.{can-behind}

-- ---- keys that rise

-- each entry's key is above that of the one before, the first one's above k
abbrev pub RisesFrom : List ℕ → List Entry → Type 0
RisesFrom k [] = Unit {0}
RisesFrom k (e ∷ es) = (bytes_below k e.0 ≡ true) × RisesFrom e.0 es

abbrev pub Rises : List Entry → Type 0
Rises [] = Unit {0}
Rises (e ∷ es) = RisesFrom e.0 es

rises-behind : (k : List ℕ) (es : List Entry) → RisesFrom k es → Rises es
rises-behind k [] h = tt
rises-behind k (e ∷ es) h = h.1

rises-drop : (n : ℕ) (es : List Entry) → Rises es → Rises (drop n es)
rises-drop zero es h = h
rises-drop (suc n) [] h = tt
rises-drop (suc n) (e ∷ es) h = rises-drop n es (rises-behind e.0 es h)

below-first : (k : List ℕ) (n : ℕ) (es : List Entry) → RisesFrom k es → n < length es → bytes_below k (first_key_of entry_key (drop n es)) ≡ true
below-first k n [] h less = absurd (omega arith)
below-first k zero (e ∷ es) h less = h.0
below-first k (suc n) (e ∷ es) h less = below_chain k e.0 (first_key_of entry_key (drop n es)) h.0 (below-first e.0 n es h.1 (omega arith))

first-below : (n : ℕ) (es : List Entry) → Rises es → 0 < n → n < length es → bytes_below (first_key_of entry_key es) (first_key_of entry_key (drop n es)) ≡ true
first-below n [] h some less = absurd (omega arith)
first-below zero (e ∷ es) h some less = absurd (omega arith)
first-below (suc n) (e ∷ es) h some less = below-first e.0 n es h (omega arith)

fits-rise : (low : List ℕ) (high : Option (List ℕ)) (last : ℕ) (b : Entry) (es : List Entry) → list_fits true (entry low high last) (Some b) es ≡ true → RisesFrom b.0 es
fits-rise low high last b [] h = tt
fits-rise low high last b (e ∷ es) h =
    let a = and_parts ((entry low high last (Some b)).fits e) (list_fits true (entry low high last) (Some e) es) h in
    ((behind_parts low high last b e a.0).0, fits-rise low high last e es a.1)

fits-rises : (low : List ℕ) (high : Option (List ℕ)) (last : ℕ) (es : List Entry) → list_fits false (entry low high last) None es ≡ true → Rises es
fits-rises low high last [] h = absurd cc
fits-rises low high last (e ∷ es) h = fits-rise low high last e es (and_parts ((entry low high last None).fits e) (list_fits true (entry low high last) (Some e) es) h).1

-- ---- the low keys of pieces

-- the entries of pieces as they stand in a root
abbrev pairs : ℕ → ℕ → List NodePart → List Entry
pairs page free ps = map child_of (map entry_of (on_pages page free ps))

-- those behind the first piece
abbrev rest-of : (page free : ℕ) (sizes : List ℕ) (p : NodePart) → List Entry
rest-of page free [] p = []
rest-of page free (n ∷ sizes) p = pairs free (free + 1) (cut_by entry_key sizes (free + 1) (back_part entry_key n p))

pairs-cut : (page free : ℕ) (sizes : List ℕ) (p : NodePart) → pairs page free (cut_by entry_key sizes free p) ≡ (p.low, page) ∷ rest-of page free sizes p
pairs-cut page free [] p = refl
pairs-cut page free (n ∷ sizes) p = refl

pairs-rise : (sizes : List ℕ) (last page free : ℕ) (p : NodePart) → CanCut sizes last (length p.items) → Rises p.items → RisesFrom (first_key_of entry_key p.items) (rest-of page free sizes p)
pairs-rise [] last page free p can rises = tt
pairs-rise (n ∷ sizes) last page free p can rises =
    let q : NodePart = back_part entry_key n p in
    subst (RisesFrom (first_key_of entry_key p.items)) (sym (pairs-cut free (free + 1) sizes q))
    (first-below n p.items rises can.0 can.1, pairs-rise sizes last free (free + 1) q (can-behind n sizes last p.items can) (rises-drop n p.items rises))

-- ---- entries added in order

-- the key is above those of all entries, as soon as it is above k
abbrev AllUpTo : List ℕ → List Entry → Type 0
AllUpTo k es = AllByRecursion (λ e. (key : List ℕ) → bytes_below k key ≡ true → bytes_below e.0 key ≡ true) es

not_above : (a b : List ℕ) → bytes_below a b ≡ true → (bytes_below b a ≡ false) × (bytes_same b a ≡ false)
not_above a b h = on (bytes_cmp a b) (bytes_cmp b a) (nat_list_cmp_total.antisymm b a) h
  where
    on : (o r : Ordering) → r ≡ ordering_reverse o → is_lt o ≡ true → (is_lt r ≡ false) × (is_eq r ≡ false)
    on Less r e h = (ap is_lt e, ap is_eq e)
    on Equal r e h = absurd cc
    on Greater r e h = absurd cc

added-last : (k low : List ℕ) (page : ℕ) (es : List Entry) → AllUpTo k es → bytes_below k low ≡ true → with_entry low page es ≡ es ++ (low, page) ∷ []
added-last k low page [] all above = refl
added-last k low page (e ∷ es) all above =
    let n = not_above e.0 low (all.0 low above) in
    let ih : with_entry low page es ≡ es ++ (low, page) ∷ [] = added-last k low page es all.1 above in
    rw (n.0, n.1) (ap (λ xs. e ∷ xs) ih)

up-to-more : (k low : List ℕ) (page : ℕ) (es : List Entry) → AllUpTo k es → bytes_below k low ≡ true → AllUpTo low (es ++ (low, page) ∷ [])
up-to-more k low page [] all above = ((λ key h. h), tt)
up-to-more k low page (e ∷ es) all above = ((λ key h. below_chain e.0 low key (all.0 low above) h), up-to-more k low page es all.1 above)

children-added : (k : List ℕ) (es : List NewEntry) (t : Tree) → AllUpTo k t.entries → RisesFrom k (map child_of es) → AllByRecursion (λ e. e.page < t.next) es
    → with_children es t ≡ record t { entries = t.entries ++ map child_of es }
children-added k [] t all rises below = ap (λ (xs : List Entry). record t { entries = xs }) (sym (append-nil t.entries))
children-added k (e ∷ es) t all rises below =
    let u : Tree = record t { entries = t.entries ++ child_of e ∷ [] } in
    let one : with_child e.low e.page t ≡ u = with_child_is e.low e.page t below.0 ∙ ap (λ (xs : List Entry). record t { entries = xs }) (added-last k e.low e.page t.entries all rises.0) in
    ap (with_children es) one
    ∙ children-added e.low es u (up-to-more k e.low e.page t.entries all rises.0) rises.1 below.1
    ∙ ap (λ (xs : List Entry). record t { entries = xs }) (append_assoc t.entries (child_of e ∷ []) (map child_of es))

-- ---- the pages and keys of the new entries

length-cut : (sizes : List ℕ) (free : ℕ) (p : NodePart) → length (cut_by entry_key sizes free p) ≡ length sizes + 1
length-cut [] free p = refl
length-cut (n ∷ sizes) free p = let ih = length-cut sizes (free + 1) (back_part entry_key n p) in omega arith

pages-below : (ps : List NodePart) (page free next : ℕ) → page < next → free + length ps ≤ next + 1 → AllByRecursion (λ e. e.page < next) (map entry_of (on_pages page free ps))
pages-below [] page free next below room = tt
pages-below (p ∷ []) page free next below room = (below, tt)
pages-below (p ∷ q ∷ ps) page free next below room = (below, pages-below (q ∷ ps) free (free + 1) next (omega arith) (omega arith))

pub lows-short : (ps : List NodePart) (page free : ℕ) → AllByRecursion IsNodePart ps → AllByRecursion (λ e. length e.low ≤ 64) (map entry_of (on_pages page free ps))
lows-short [] page free h = tt
lows-short (p ∷ ps) page free h = ((in_range_parts 0 64 (length p.low) (inner_fits (node_of_part p) h.0.fits).low).1, lows-short ps free (free + 1) h.1)

-- ---- the root above the pieces

-- the entry that the new root has from the beginning
first-there : (first : ℕ) (t : Tree) (low : List ℕ) → low ≡ [] → first < t.next → with_child low first (raised_root first t) ≡ raised_root first t
first-there first t low is below = ap (λ (k : List ℕ). with_child k first (raised_root first t)) is ∙ with_child_is [] first (raised_root first t) below

named-by : (first : ℕ) (sizes : List ℕ) (last : ℕ) (p : NodePart) (t : Tree) → p.low ≡ [] → first_key_of entry_key p.items ≡ [] → CanCut sizes last (length p.items) → Rises p.items → first + (length sizes + 1) ≤ t.next
    → with_children (map entry_of (on_pages first (first + 1) (cut_by entry_key sizes (first + 1) p))) (raised_root first t) ≡ root_above (map entry_of (on_pages first (first + 1) (cut_by entry_key sizes (first + 1) p))) t
named-by first [] last p t low key can rises room =
    first-there first t p.low low (omega arith) ∙ ap (λ (k : List ℕ). record t { level = t.level + 1; entries = (k, first) ∷ [] }) (sym low)
named-by first (n ∷ sizes) last p t low key can rises room =
    let q : NodePart = back_part entry_key n p in
    let es : List NewEntry = map entry_of (on_pages (first + 1) (first + 1 + 1) (cut_by entry_key sizes (first + 1 + 1) q)) in
    let behind : RisesFrom [] (map child_of es) = subst (λ (k : List ℕ). RisesFrom k (map child_of es)) key (pairs-rise (n ∷ sizes) last first (first + 1) p can rises) in
    let count = length-cut sizes (first + 1 + 1) q in
    ap (with_children es) (first-there first t p.low low (omega arith))
    ∙ children-added [] es (raised_root first t) ((λ key h. h), tt) behind (pages-below (cut_by entry_key sizes (first + 1 + 1) q) (first + 1) (first + 1 + 1) t.next (omega arith) (omega arith))
    ∙ ap (λ (k : List ℕ). record t { level = t.level + 1; entries = (k, first) ∷ map child_of es }) (sym low)

first-key : (es : List Entry) (k : List ℕ) (page : ℕ) (rest : List Entry) → es ≡ (k, page) ∷ rest → first_key_of entry_key es ≡ k
first-key es k page rest e = ap (first_key_of entry_key) e

-- the root to which the entries of all pieces are added names just these
pub named : (first : ℕ) (t : Tree) → IsNodePart (part_of_node (node_of_root t)) → first + count_of (length t.entries) ≤ t.next
    → with_children (map entry_of (on_pages first (first + 1) (root_pieces first t))) (raised_root first t) ≡ root_above (map entry_of (on_pages first (first + 1) (root_pieces first t))) t
named first t part room =
    let n : Inner = node_of_root t in
    let fits = (inner_fits n part.fits).entries in
    let f = first_low [] None greatest t.entries fits in
    let count = length-cuts (length t.entries) in
    named-by first (cuts_of (length t.entries)) _ (part_of_node n) t refl (first-key t.entries [] f.0 f.1 f.2) (can-cuts (length t.entries)) (fits-rises [] None greatest t.entries fits) (omega arith)

-- ---- as the code has them

pub root-lows : (es : List NewEntry) (first free : ℕ) (ps : List NodePart) → es ≡ map entry_of (on_pages first free ps) → AllByRecursion IsNodePart ps → AllByRecursion (λ e. length e.low ≤ 64) es
root-lows es first free ps is fit = subst (AllByRecursion (λ (e : NewEntry). length e.low ≤ 64)) (sym is) (lows-short ps first free fit)

pub root-named : (es : List NewEntry) (first free : ℕ) (node : Inner) (old new t : Tree) → es ≡ map entry_of (on_pages first free (node_pieces free node)) → node ≡ node_of_root t → free ≡ first + 1 → old ≡ raised_root first t → new ≡ with_children es old
    → IsNodePart (part_of_node node) → first + count_of (length t.entries) ≤ t.next → new ≡ root_above es t
root-named es first free node old new t is below next above added part room =
    let e : es ≡ map entry_of (on_pages first (first + 1) (root_pieces first t)) =
    is ∙ ap (λ (n : Inner). map entry_of (on_pages first free (node_pieces free n))) below ∙ ap (λ (f : ℕ). map entry_of (on_pages first f (node_pieces f (node_of_root t)))) next in
    added
    ∙ ap (λ (r : Tree). with_children es r) above
    ∙ ap (λ (xs : List NewEntry). with_children xs (raised_root first t)) e
    ∙ named first t (subst (λ (n : Inner). IsNodePart (part_of_node n)) below part) room
    ∙ ap (λ (xs : List NewEntry). root_above xs t) (sym e)
