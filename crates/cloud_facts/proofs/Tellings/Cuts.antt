-- A key finds in the pieces of a leaf what it finds in the leaf.
use Rattle.std.proofs.Common.{◌≡◌, ◌+◌, ◌<◌, ℕ, zero, suc, Bool, true, false, cond, List, [], ◌∷◌, ◌++◌, length, Option, Some, None, refl, sym, ap, subst, ◌∙◌, take, drop, arith}
use Rattle.byte_format.specs.Order.{bytes_below, bytes_same}
use Rattle.byte_format.proofs.OrderLemmas.{same_is}
use Rattle.db_base.specs.Value.{Value}
use Rattle.leaf_edit.proofs.Values.{value_of-before}
use Rattle.leaf_view.specs.Fits.{Ascend, entry_below}
use Rattle.leaf_view.specs.Leaf.{Entry, Leaf}
use Rattle.leaf_view.specs.Lookup.{value_of}
use Rattle.node_codec.proofs.EntryLemmas.{below_chain}
use Rattle.split_plan.specs.Cut.{first_key_of, back_part, cut_by}
use Rattle.split_plan.specs.Part.{LeafPart, leaf_of_part, record_key}
use Rattle.split_plan.specs.Sizes.{CanCut}
use Rattle.split_plan.proofs.Cutting.{can-behind}
use Rattle.cloud_facts.specs.Book.Book.{Link}
use Rattle.cloud_facts.specs.Book.Telling.{page_from}
use Rattle.cloud_facts.specs.Chains.Cuts.{links_on}
use Rattle.cloud_facts.specs.Tellings.Pieces.{first_part, right_of}
use Rattle.cloud_facts.proofs.Tellings.Fences.{cut_links}
use Rattle.cloud_facts.proofs.Tellings.Walks.{IsBefore, stops_here}

-- ---- records that are cut

-- a record stands before those behind it
first_above : (e : Entry) (n : ℕ) (es : List Entry) → Ascend entry_below (Some e) es → n < length es
    → bytes_below e.key (first_key_of record_key (drop n es)) ≡ true
first_above e n [] up less = absurd (omega arith)
first_above e zero (f ∷ es) up less = up.0
first_above e (suc n) (f ∷ es) up less = below_chain e.key f.key (first_key_of record_key (drop n es)) up.0 (first_above f n es up.1 (omega arith))

-- the front of records in order, where the key is from the first record behind it on
absent_front : (key : List ℕ) (before : Option Entry) (n : ℕ) (es : List Entry) → Ascend entry_below before es → n < length es
    → bytes_below key (first_key_of record_key (drop n es)) ≡ false
    → value_of key es ≡ value_of key (drop n es)
absent_front key before zero es up less from = refl
absent_front key before (suc n) [] up less from = refl
absent_front key before (suc n) (e ∷ es) up less from = on (absent_front key (Some e) n es up.1 (omega arith) from) (bytes_same e.key key) refl
  where
    on : value_of key es ≡ value_of key (drop n es) → (b : Bool) → bytes_same e.key key ≡ b
        → cond b (Some e.value) (value_of key es) ≡ value_of key (drop n es)
    on again false h = again
    on again true h =
        let under : bytes_below key (first_key_of record_key (drop n es)) ≡ true =
        ap (λ (k : List ℕ). bytes_below k (first_key_of record_key (drop n es))) (sym (same_is e.key key h)) ∙ first_above e n es up.1 (omega arith) in
        let no : true ≡ false = sym under ∙ from in
        absurd cc

-- the records behind the front, where the key is below the first of them
absent_back : (key : List ℕ) (before : Option Entry) (n : ℕ) (es : List Entry) → Ascend entry_below before es → n < length es
    → bytes_below key (first_key_of record_key (drop n es)) ≡ true
    → value_of key es ≡ value_of key (take n es)
absent_back key before zero [] up less below = refl
absent_back key before zero (e ∷ es) up less below = value_of-before key before (e ∷ es) up below
absent_back key before (suc n) [] up less below = refl
absent_back key before (suc n) (e ∷ es) up less below =
    ap (λ (v : Option Value). cond (bytes_same e.key key) (Some e.value) v) (absent_back key (Some e) n es up.1 (omega arith) below)

forget : (before : Option Entry) (es : List Entry) → Ascend entry_below before es → Ascend entry_below None es
forget before [] up = tt
forget before (e ∷ es) up = (tt, up.1)

ascend_drop : (before : Option Entry) (n : ℕ) (es : List Entry) → Ascend entry_below before es → Ascend entry_below None (drop n es)
ascend_drop before zero es up = forget before es up
ascend_drop before (suc n) [] up = tt
ascend_drop before (suc n) (e ∷ es) up = ascend_drop (Some e) n es up.1

-- ---- pieces

-- the newest leaves of the pages from this one on are these parts
abbrev pub AreAt : (ℕ → Leaf) → ℕ → List LeafPart → Type 0
AreAt leaves free [] = Unit {0}
AreAt leaves free (p ∷ ps) = (leaves free ≡ leaf_of_part p) × AreAt leaves (free + 1) ps

cut_at : (leaves : ℕ → Leaf) (none : LeafPart) (sizes : List ℕ) (page free : ℕ) (p : LeafPart) → AreAt leaves page (cut_by record_key sizes free p)
    → (leaves page ≡ leaf_of_part (first_part none (cut_by record_key sizes free p))) × AreAt leaves (page + 1) (right_of (cut_by record_key sizes free p))
cut_at leaves none [] page free p at = (at.0, at.1)
cut_at leaves none (n ∷ sizes) page free p at = (at.0, at.1)

-- on the page a key finds the table of the whole, and the value that it has there
pub record Finds (l : Leaf) (p : LeafPart) (key : List ℕ) : Type 0 where
  pub done : l.done ≡ p.common
  pub value : value_of key l.records ≡ value_of key p.items

pub cut_finds : (leaves : ℕ → Leaf) (none : LeafPart) (sizes : List ℕ) (last free page : ℕ) (p : LeafPart) → CanCut sizes last (length p.items)
    → Ascend entry_below None p.items
    → leaves page ≡ leaf_of_part (first_part none (cut_by record_key sizes free p)) → AreAt leaves free (right_of (cut_by record_key sizes free p))
    → (key : List ℕ) (rest : List Link) → IsBefore key rest
    → Finds (leaves (page_from page key (links_on free (right_of (cut_by record_key sizes free p)) ++ rest))) p key
cut_finds leaves none [] last free page p can up left right key rest before =
    subst (λ (q : ℕ). Finds (leaves q) p key) (sym (stops_here key page rest before))
    (subst (λ (l : Leaf). Finds l p key) (sym left) (record { done = refl; value = refl }))
cut_finds leaves none (n ∷ sizes) last free page p can up left right key rest before =
    subst (λ (ls : List Link). Finds (leaves (page_from page key (ls ++ rest))) p key)
    (sym (cut_links record_key sizes free (free + 1) (back_part record_key n p)))
    (on (cut_finds leaves none sizes last (free + 1) free (back_part record_key n p) (can-behind n sizes last p.items can)
    (ascend_drop None n p.items up) at.0 at.1 key rest before)
    (bytes_below key (first_key_of record_key (drop n p.items))) refl)
  where
    behind : List Link
    behind = links_on (free + 1) (right_of (cut_by record_key sizes (free + 1) (back_part record_key n p))) ++ rest

    less : n < length p.items
    less = can.1

    at : (leaves free ≡ leaf_of_part (first_part none (cut_by record_key sizes (free + 1) (back_part record_key n p)))) × AreAt leaves (free + 1)
        (right_of (cut_by record_key sizes (free + 1) (back_part record_key n p)))
    at = cut_at leaves none sizes free (free + 1) (back_part record_key n p) right

    on : Finds (leaves (page_from free key behind)) (back_part record_key n p) key → (b : Bool) → bytes_below key (first_key_of record_key (drop n p.items)) ≡ b
        → Finds (leaves (cond b page (page_from free key behind))) p key
    on again true e = subst (λ (l : Leaf). Finds l p key) (sym left) (record { done = refl; value = sym (absent_back key None n p.items up less e) })
    on again false e = record { done = again.done; value = again.value ∙ sym (absent_front key None n p.items up less e) }
