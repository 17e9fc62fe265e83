-- The bytes that begin with a prefix stand together in the order of bytes, and the entries of an attribute are among them.
use Rattle.std.proofs.Common.{◌≡◌, ℕ, ◌+◌, ◌<◌, Bool, true, false, nat_lt, List, [], ◌∷◌, ◌++◌, length, Option, Some, None, ◌↔◌, ◌⊎◌, inl, inr, refl, sym, ap, subst, ◌∙◌, arith}
use Rattle.std.specs.Prelude.{if◌then◌else◌, ◌==◌}
use Rattle.std.proofs.lemmas.Bool.{cases_order, le-ltb, ltb-false, eq-eqb, eqb-true}
use Rattle.byte_format.specs.Order.{bytes_below, below_bound}
use Rattle.byte_format.specs.Whole.{IsBytes}
use Rattle.byte_format.proofs.Steps.{IsBytes-rest}
use Rattle.db_base.specs.Entry.{IsEntry}
use Rattle.db_base.specs.Key.{IsAttr}
use Rattle.attr_index.specs.Prefix.{prefix_of, BeginsWith, next_behind, next_of, behind, record_key}
use Rattle.attr_index.proofs.Firsts.{first_below, first_above, first_same, none_below}

-- ---- what begins with a prefix

pub never_below : (prefix rest : List ℕ) → bytes_below (prefix ++ rest) prefix ≡ false
never_below [] [] = refl
never_below [] (b ∷ rest) = refl
never_below (p ∷ ps) rest = first_same p p (ps ++ rest) ps refl ∙ never_below ps rest

pub below_next : (prefix rest : List ℕ) → below_bound (prefix ++ rest) (next_of prefix) ≡ true
below_next [] rest = refl
below_next (p ∷ ps) rest = by (next_of ps) (below_next ps rest) where
  below_raised : (b : Bool) → below_bound (p ∷ ps ++ rest) (if b then Some ((p + 1) ∷ []) else None) ≡ true
  below_raised true = first_below p (p + 1) (ps ++ rest) [] (omega arith)
  below_raised false = refl

  by : (next : Option (List ℕ)) → below_bound (ps ++ rest) next ≡ true → below_bound (p ∷ ps ++ rest) (next_behind p next) ≡ true
  by (Some next) below = first_same p p (ps ++ rest) next refl ∙ below
  by None below = below_raised (nat_lt p 255)

-- bytes whose first one is above that of the prefix are not below the next bytes
not_next : (p b : ℕ) (bs : List ℕ) (next : Option (List ℕ)) → b < 256 → p < b → below_bound (b ∷ bs) (next_behind p next) ≡ true → ⊥
not_next p b bs (Some next) small above below = absurd (cc (below, first_above b p bs next above))
not_next p b bs None small above below = on (nat_lt p 255) refl below where
  at : (b ≡ p + 1) ⊎ ((b < p + 1) ⊎ (p + 1 < b)) → bytes_below (b ∷ bs) ((p + 1) ∷ []) ≡ true → ⊥
  at (inl same) h = none_below bs (sym (first_same b (p + 1) bs [] same) ∙ h)
  at (inr (inl less)) h = omega (arith, above, less)
  at (inr (inr more)) h = absurd (cc (h, first_above b (p + 1) bs [] more))

  on : (low : Bool) → nat_lt p 255 ≡ low → below_bound (b ∷ bs) (if low then Some ((p + 1) ∷ []) else None) ≡ true → ⊥
  on true low h = at (cases_order b (p + 1)) h
  on false low h = omega (arith, above, small, ltb-false p 255 low)

begins : (prefix bytes : List ℕ) → IsBytes bytes → bytes_below bytes prefix ≡ false → below_bound bytes (next_of prefix) ≡ true
    → BeginsWith prefix bytes
begins [] bytes fits from to = (bytes, refl)
begins (p ∷ ps) [] fits from to = absurd (cc (from))
begins (p ∷ ps) (b ∷ bs) fits from to = at (cases_order b p) (begins ps bs (IsBytes-rest b bs fits)) where
  to_next : (next : Option (List ℕ)) → b ≡ p → below_bound (b ∷ bs) (next_behind p next) ≡ true → below_bound bs next ≡ true
  to_next (Some next) same below = sym (first_same b p bs next same) ∙ below
  to_next None same below = refl

  with_first : b ≡ p → BeginsWith ps bs → BeginsWith (p ∷ ps) (b ∷ bs)
  with_first same (rest, is) = (rest, cc (same, is))

  at : (b ≡ p) ⊎ ((b < p) ⊎ (p < b)) → (bytes_below bs ps ≡ false → below_bound bs (next_of ps) ≡ true → BeginsWith ps bs)
      → BeginsWith (p ∷ ps) (b ∷ bs)
  at (inl same) more = with_first same (more (sym (first_same b p bs ps same) ∙ from) (to_next (next_of ps) same to))
  at (inr (inl below)) more = absurd (cc (from, first_below b p bs ps below))
  at (inr (inr above)) more = absurd (not_next p b bs (next_of ps) (fits 0) above to)

-- Bytes begin with a prefix exactly where they stand from it on and below the next bytes.
pub begins_between : (prefix bytes : List ℕ) → IsBytes bytes
    → BeginsWith prefix bytes ↔ ((bytes_below bytes prefix ≡ false) × (below_bound bytes (next_of prefix) ≡ true))
begins_between prefix bytes fits = (λ h. subst Stands (sym h.1) (never_below prefix h.0, below_next prefix h.0), λ h. begins prefix bytes fits h.0 h.1) where
  Stands : List ℕ → Type 0
  Stands xs = (bytes_below xs prefix ≡ false) × (below_bound xs (next_of prefix) ≡ true)

-- ---- the record's key of an entry

pub behind_prefix : (prefix key : List ℕ) → 0 < length key → behind prefix (prefix ++ key) ≡ Some key
behind_prefix [] [] some = absurd (omega (arith, some))
behind_prefix [] (b ∷ bs) some = refl
behind_prefix (p ∷ ps) key some = ap (λ (same : Bool). if same then behind ps (ps ++ key) else None) (eq-eqb p p refl) ∙ behind_prefix ps key some

behind_is : (prefix bytes key : List ℕ) → behind prefix bytes ≡ Some key → (bytes ≡ prefix ++ key) × (0 < length key)
behind_is [] [] key e = absurd (cc (e))
behind_is [] (b ∷ bs) key e = let same : b ∷ bs ≡ key = cc (e) in subst (λ (k : List ℕ). (b ∷ bs ≡ k) × (0 < length k)) same (refl, omega arith)
behind_is (p ∷ ps) [] key e = absurd (cc (e))
behind_is (p ∷ ps) (b ∷ bs) key e = on (p == b) refl e (behind_is ps bs key) where
  on : (same : Bool) → (p == b) ≡ same → (if same then behind ps bs else None) ≡ Some key
      → (behind ps bs ≡ Some key → (bs ≡ ps ++ key) × (0 < length key)) → (b ∷ bs ≡ p ∷ ps ++ key) × (0 < length key)
  on true same h more = let is = more h in (cc (eqb-true p b same, is.0), is.1)
  on false same h more = absurd (cc (h))

-- an entry of the attribute has the record's key behind what each of them begins with
pub key_of_entry : (bytes attr key : List ℕ) → IsEntry bytes attr key → record_key attr bytes ≡ Some key
key_of_entry bytes attr key entry =
    ap (λ (long : Bool). if long then None else behind (prefix_of attr) bytes) (le-ltb 64 (length bytes) entry.short)
    ∙ ap (behind (prefix_of attr)) entry.spelled ∙ behind_prefix (prefix_of attr) key entry.some

entry_of_key : (bytes attr key : List ℕ) → IsAttr attr → record_key attr bytes ≡ Some key → IsEntry bytes attr key
entry_of_key bytes attr key is e = on (nat_lt 64 (length bytes)) refl e where
  on : (long : Bool) → nat_lt 64 (length bytes) ≡ long → (if long then None else behind (prefix_of attr) bytes) ≡ Some key → IsEntry bytes attr key
  on true long h = absurd (cc (h))
  on false long h =
      let found = behind_is (prefix_of attr) bytes key h in
      record { is_attr = is; some = found.1; short = ltb-false 64 (length bytes) long; spelled = found.0 }

-- .. and bytes that are no entry of it have none
pub key_of_none : (bytes attr : List ℕ) → IsAttr attr → ((key : List ℕ) → IsEntry bytes attr key → ⊥) → record_key attr bytes ≡ None
key_of_none bytes attr is never = on (record_key attr bytes) refl where
  on : (o : Option (List ℕ)) → record_key attr bytes ≡ o → o ≡ None
  on (Some key) e = absurd (never key (entry_of_key bytes attr key is e))
  on None e = refl
