-- The bytes of the parts of a cut leaf are their spellings.
use Rattle.std.proofs.Common.{◌≡◌, ℕ, ◌<◌, ◌≤◌, List, [], ◌∷◌, ◌++◌, length, Option, Some, refl, ap, ◌∙◌, arith, take, drop}
use Rattle.byte_format.specs.Format.{greatest}
use Rattle.leaf_view.specs.declared.done.Done.{Done}
use Rattle.leaf_view.specs.Leaf.{Entry, Leaf, IsLeaf}
use Rattle.leaf_view.specs.Fits.{IsWellFormed, IsVersion}
use Rattle.leaf_edit.specs.Cut.{first_key, left_part, right_part}
use Rattle.leaf_edit.specs.Merging.{AreRecords}
use Rattle.leaf_edit.specs.Spelled.{dones_before, entries_bytes, fields_bytes}
use Rattle.leaf_edit.proofs.CutFits.{left-formed, right-formed}
use Rattle.leaf_edit.proofs.Whole.{parts-spell, records-are}

fields-same : (v v' : ℕ) (low low' : List ℕ) (r r' : ℕ) (h h' : Option (List ℕ)) → v ≡ v' → low ≡ low' → r ≡ r' → h ≡ h' → fields_bytes v low r h ≡ fields_bytes v' low' r' h'
fields-same v v' low low' r r' h h' a b c d =
    ap (λ v. fields_bytes v low r h) a ∙ (ap (λ low. fields_bytes v' low r h) b ∙ (ap (λ r. fields_bytes v' low' r h) c ∙ ap (λ h. fields_bytes v' low' r' h) d))

pub left-spelled : (l : Leaf) (n right : ℕ) (o a b c d : List ℕ) (version : ℕ) (low key : List ℕ) (page : ℕ) (ds : List Done) (rs : List Entry)
    → IsVersion l.version → IsWellFormed l → 0 < n → n < length l.records → 1 ≤ right → right ≤ greatest
    → o ≡ [] → version ≡ l.version → low ≡ l.low → page ≡ right → key ≡ first_key (drop n l.records) → ds ≡ l.done → rs ≡ l.records
    → a ≡ o ++ fields_bytes version low page (Some key) → b ≡ a ++ dones_before ds [] → c ≡ b ++ 0 ∷ [] → d ≡ c ++ entries_bytes (take n rs)
    → IsLeaf d (left_part n right l)
left-spelled l n right o a b c d version low key page ds rs is h some less one most ho hv hlow hpage hkey hds hrs ha hb hc hd =
    parts-spell (left_part n right l) o a b c d refl is (left-formed n right l some less one most h) ho
    (ha ∙ ap (λ x. o ++ x) (fields-same version l.version low l.low page right (Some key) (Some (first_key (drop n l.records))) hv hlow hpage (ap (λ k. Some k) hkey)))
    (hb ∙ ap (λ ds. a ++ dones_before ds []) hds) hc (hd ∙ ap (λ rs. c ++ entries_bytes (take n rs)) hrs)

pub right-spelled : (l : Leaf) (n : ℕ) (o a b c d : List ℕ) (key : List ℕ) (right : ℕ) (high : Option (List ℕ)) (ds : List Done) (rest : List Entry)
    → IsWellFormed l → n < length l.records
    → o ≡ [] → key ≡ first_key (drop n l.records) → right ≡ l.right → high ≡ l.high → ds ≡ l.done → rest ≡ drop n l.records
    → a ≡ o ++ fields_bytes 1 key right high → b ≡ a ++ dones_before ds [] → c ≡ b ++ 0 ∷ [] → d ≡ c ++ entries_bytes rest
    → IsLeaf d (right_part n l)
right-spelled l n o a b c d key right high ds rest h less ho hkey hright hhigh hds hrest ha hb hc hd =
    parts-spell (right_part n l) o a b c d refl (record { some = omega arith; most = omega arith }) (right-formed n l less h) ho
    (ha ∙ ap (λ x. o ++ x) (fields-same 1 1 key (first_key (drop n l.records)) right l.right high l.high refl hkey hright hhigh))
    (hb ∙ ap (λ ds. a ++ dones_before ds []) hds) hc (hd ∙ ap (λ rs. c ++ entries_bytes rs) hrest)

pub rest-are : (l : Leaf) (n : ℕ) → n < length l.records → IsWellFormed l → AreRecords (drop n l.records)
rest-are l n less h = records-are (right_part n l) (right-formed n l less h)
