-- The records of the leaves of a chain are in the order of their keys.
use Rattle.std.proofs.Common.{◌≡◌, ℕ, zero, suc, Bool, true, false, not, List, [], ◌∷◌, ◌++◌, map, Option, Some, None, refl, sym, ap, subst, ◌∙◌}
use Rattle.std.specs.List.{AllByRecursion}
use Rattle.byte_format.specs.Order.{bytes_below, bytes_same, below_bound}
use Rattle.byte_format.proofs.OrderLemmas.{same_is}
use Rattle.report_types.specs.declared.stored.Stored.{Stored}
use Rattle.leaf_view.specs.Fits.{Ascend, IsEntryIn, entry_below}
use Rattle.leaf_view.specs.Leaf.{Entry, Leaf}
use Rattle.node_codec.proofs.EntryLemmas.{above, below_chain}
use Rattle.replay_meaning.specs.Right.{stored_below}
use Rattle.cloud_facts.specs.Book.Book.{Link}
use Rattle.cloud_facts.specs.Chains.Links.{link_below}
use Rattle.cloud_facts.specs.Meanings.Contents.{leaves_of}
use Rattle.cloud_facts.proofs.Meanings.Contents.{IsRanged, AreRanged}
use Rattle.replay_meaning.specs.Chain.{stored_of, records_of}

-- what is below a low key is below what is not
between : (a low key : List ℕ) → bytes_below a low ≡ true → not (bytes_below key low) ≡ true → bytes_below a key ≡ true
between a low key less past = on (bytes_below key low) refl (bytes_same key low) refl
  where
    on : (b : Bool) → bytes_below key low ≡ b → (same : Bool) → bytes_same key low ≡ same → bytes_below a key ≡ true
    on true e same f = absurd (let never : not true ≡ true = ap not (sym e) ∙ past in cc)
    on false e true f = subst (λ k. bytes_below a k ≡ true) (sym (same_is key low f)) less
    on false e false f = below_chain a low key less (above key low e f)

-- the record before is below a key, where there is one
abbrev IsLow : List ℕ → Option Stored → Type 0
IsLow low None = Unit {0}
IsLow low (Some p) = bytes_below p.key low ≡ true

-- behind a record of a leaf, its later ones ascend, and so does what goes on from each below the high key
tail_ascends : (low : List ℕ) (high : Option (List ℕ)) (e : Entry) (es : List Entry) (behind : List Stored) → below_bound e.key high ≡ true
    → AllByRecursion (IsEntryIn low high) es → Ascend entry_below (Some e) es → ((p : Stored) → below_bound p.key high ≡ true → Ascend stored_below (Some p) behind)
    → Ascend stored_below (Some (stored_of e)) (map stored_of es ++ behind)
tail_ascends low high e [] behind within are up on = on (stored_of e) within
tail_ascends low high e (f ∷ es) behind within are up on = (up.0, tail_ascends low high f es behind are.0.to_high are.1 up.1 on)

-- and so do all of its records, behind one that is below its low key
leaf_ascends : (low : List ℕ) (high : Option (List ℕ)) (before : Option Stored) (es : List Entry) (behind : List Stored) → IsLow low before
    → AllByRecursion (IsEntryIn low high) es → Ascend entry_below None es → Ascend stored_below before behind
    → ((p : Stored) → below_bound p.key high ≡ true → Ascend stored_below (Some p) behind) → Ascend stored_below before (map stored_of es ++ behind)
leaf_ascends low high before [] behind less are up none on = none
leaf_ascends low high None (e ∷ es) behind less are up none on = (tt, tail_ascends low high e es behind are.0.to_high are.1 up.1 on)
leaf_ascends low high (Some p) (e ∷ es) behind less are up none on =
    (between p.key low e.key less are.0.from_low, tail_ascends low high e es behind are.0.to_high are.1 up.1 on)

low_behind : (low next : List ℕ) (before : Option Stored) → bytes_below low next ≡ true → IsLow low before → IsLow next before
low_behind low next None up less = tt
low_behind low next (Some p) up less = below_chain p.key low next less up

ascend_from : (leaf : ℕ → Leaf) (before : Option Stored) (x : Link) (links : List Link) → Ascend link_below (Some x) links → AreRanged leaf (x ∷ links) → IsLow x.low before
    → Ascend stored_below before (records_of (leaves_of leaf (x ∷ links)))
ascend_from leaf before x [] up ranged less =
    let is : IsRanged leaf x None = ranged zero x refl in
    leaf_ascends (leaf x.page).low (leaf x.page).high before (leaf x.page).records [] (subst (λ l. IsLow l before) (sym is.low) less) is.records is.ascend tt (λ p within. tt)
ascend_from leaf before x (y ∷ links) up ranged less =
    leaf_ascends (leaf x.page).low (leaf x.page).high before (leaf x.page).records (records_of (leaves_of leaf (y ∷ links))) (subst (λ l. IsLow l before) (sym is.low) less)
    is.records is.ascend (ascend_from leaf before y links up.1 later (low_behind x.low y.low before up.0 less))
    (λ p within. ascend_from leaf (Some p) y links up.1 later (ap (below_bound p.key) (sym is.high) ∙ within))
  where
    is : IsRanged leaf x (Some y)
    is = ranged zero x refl

    later : AreRanged leaf (y ∷ links)
    later place a k = ranged (suc place) a k

-- the records of all leaves of a chain
pub records_ascend : (leaf : ℕ → Leaf) (links : List Link) → Ascend link_below None links → AreRanged leaf links → Ascend stored_below None (records_of (leaves_of leaf links))
records_ascend leaf [] up ranged = tt
records_ascend leaf (x ∷ links) up ranged = ascend_from leaf None x links up.1 ranged tt
