-- The format of a change is exact, and what fits it.
use Rattle.std.proofs.Common.{◌≡◌, ◌-◌, ◌^◌, ◌<◌, ℕ, Bool, true, false, eqb, List, length, Option, Some, None, refl, ap, sym, arith, lit<, cond, inl, inr}
use Rattle.std.specs.Prelude.{nat_le, ◌&&◌, ◌≤◌, ◌⊎◌}
use Rattle.std.specs.Int.{w8, w16, w64}
use Rattle.std.proofs.lemmas.Bool.{and_parts, and_from, or_parts, or_cases, leb-true, leb-false, le-leb, eqb-true, eqb-false}
use Rattle.db_base.specs.Change.{IsChange}
use Rattle.db_base.specs.Key.{IsKey, IsPayload, IsAttr}
use Rattle.db_base.specs.declared.change.Change.{Change}
use Rattle.db_base.specs.declared.change.Change.TheVariants.{Insert, Update, Delete, Add}
use Rattle.byte_format.specs.Format.{Format, number, text, in_range, option_fits}
use Rattle.byte_format.specs.Whole.{IsExact}
use Rattle.byte_format.proofs.Fields.{number_exact, text_exact, wide8, wide16, wide64}
use Rattle.byte_format.proofs.Exact.{then_exact, only_where_exact, seen_as_exact}
use Rattle.change_codec.specs.Change.{change_fields, change_of, fields_of_change, change_fits, change_bytes, change_at, change, has_payload, ChangeParts}

fields_exact : IsExact change_fields
fields_exact =
    then_exact _ _ (number_exact w8 _ wide8 1 5 (lit< tt)) (λ kind.
    then_exact _ _ (text_exact w8 _ wide8 1 64 (lit< tt)) (λ key.
    then_exact _ _ (only_where_exact _ _ (text_exact w16 _ wide16 0 1024 (lit< tt))) (λ payload.
    then_exact _ _ (only_where_exact _ _ (number_exact w64 _ wide64 0 (2 ^ 64 - 1) (lit< tt))) (λ amount.
    only_where_exact _ _ (text_exact w8 _ wide8 1 32 (lit< tt))))))

abbrev Fields : Type 0
Fields = ℕ × (List ℕ × (Option (List ℕ) × ChangeParts))

-- whether the payload, the amount and the attribute are there where the kind has them
abbrev payload_fit : ℕ → Option (List ℕ) → Bool
payload_fit kind payload = option_fits (has_payload kind) (text w16 0 1024) payload

abbrev amount_fit : ℕ → Option ℕ → Bool
amount_fit kind amount = option_fits (eqb kind 4) (number w64 0 (2 ^ 64 - 1)) amount

abbrev attr_fit : ℕ → Option (List ℕ) → Bool
attr_fit kind attr = option_fits (eqb kind 5) (text w8 1 32) attr

-- a part that is there is wanted, and one that is not is not
wanted : {A : Type 0} (f : Format A) (a : A) (is : Bool) → option_fits is f (Some a) ≡ true → is ≡ true
wanted f a true h = refl
wanted f a false h = absurd cc

unwanted : {A : Type 0} (f : Format A) (is : Bool) → option_fits is f None ≡ true → is ≡ false
unwanted f true h = absurd cc
unwanted f false h = refl

-- a kind that has a payload
low_or_five : (kind : ℕ) → has_payload kind ≡ true → (kind ≤ 2) ⊎ (kind ≡ 5)
low_or_five kind h = elim (or_cases (nat_le kind 2) (eqb kind 5) h) [
  | inl low ↦ inl (leb-true kind 2 low)
  | inr five ↦ inr (eqb-true kind 5 five)
]

-- one that has neither an amount nor an attribute is 1 or 2
with_payload : (kind : ℕ) (key payload : List ℕ) (two : Bool) → eqb kind 2 ≡ two → 1 ≤ kind → kind ≤ 2
    → fields_of_change (cond two (Update key payload) (Insert key payload None)) ≡ (kind, (key, (Some payload, (None, None))))
with_payload kind key payload true is some most = ap {B = Fields} (λ (n : ℕ). (n, (key, (Some payload, (None, None))))) (sym (eqb-true kind 2 is))
with_payload kind key payload false is some most =
    let one : 1 ≡ kind = omega (arith, some, most, eqb-false kind 2 is) in
    ap {B = Fields} (λ (n : ℕ). (n, (key, (Some payload, (None, None))))) one

-- one with an attribute is 5
with_attr : (kind : ℕ) (key payload attr : List ℕ) → kind ≡ 5
    → fields_of_change (cond (eqb kind 2) (Update key payload) (Insert key payload (Some attr))) ≡ (kind, (key, (Some payload, (None, Some attr))))
with_attr kind key payload attr is = rw is refl

-- what fits, part by part
record Fit (kind : ℕ) (payload : Option (List ℕ)) (amount : Option ℕ) (attr : Option (List ℕ)) : Type 0 where
  pub some : 1 ≤ kind
  pub most : kind ≤ 5
  pub text_fits : payload_fit kind payload ≡ true
  pub sum_fits : amount_fit kind amount ≡ true
  pub mark_fits : attr_fit kind attr ≡ true

parts : (kind : ℕ) (key : List ℕ) (payload : Option (List ℕ)) (amount : Option ℕ) (attr : Option (List ℕ))
    → change_fields.fits (kind, (key, (payload, (amount, attr)))) ≡ true → Fit kind payload amount attr
parts kind key payload amount attr h =
    let third : Bool = amount_fit kind amount && attr_fit kind attr in
    let second : Bool = payload_fit kind payload && third in
    let first = and_parts (in_range 1 5 kind) (in_range 1 64 (length key) && second) h in
    let range = and_parts (nat_le 1 kind) (nat_le kind 5) first.0 in
    let rest = and_parts (payload_fit kind payload) third (and_parts (in_range 1 64 (length key)) second first.1).1 in
    let last = and_parts (amount_fit kind amount) (attr_fit kind attr) rest.1 in
    record { some = leb-true 1 kind range.0; most = leb-true kind 5 range.1; text_fits = rest.0; sum_fits = last.0; mark_fits = last.1 }

is_four : (kind amount : ℕ) → amount_fit kind (Some amount) ≡ true → kind ≡ 4
is_four kind amount h = eqb-true kind 4 (wanted (number w64 0 (2 ^ 64 - 1)) amount (eqb kind 4) h)

is_not_four : (kind : ℕ) → amount_fit kind None ≡ true → kind ≡ 4 → ⊥
is_not_four kind h = eqb-false kind 4 (unwanted (number w64 0 (2 ^ 64 - 1)) (eqb kind 4) h)

is_five : (kind : ℕ) (attr : List ℕ) → attr_fit kind (Some attr) ≡ true → kind ≡ 5
is_five kind attr h = eqb-true kind 5 (wanted (text w8 1 32) attr (eqb kind 5) h)

is_not_five : (kind : ℕ) → attr_fit kind None ≡ true → kind ≡ 5 → ⊥
is_not_five kind h = eqb-false kind 5 (unwanted (text w8 1 32) (eqb kind 5) h)

has_text : (kind : ℕ) (payload : List ℕ) → payload_fit kind (Some payload) ≡ true → (kind ≤ 2) ⊎ (kind ≡ 5)
has_text kind payload h = low_or_five kind (wanted (text w16 0 1024) payload (has_payload kind) h)

-- above 2, and not 5
record HasNoText (kind : ℕ) : Type 0 where
  pub above : 2 < kind
  pub other : kind ≡ 5 → ⊥

has_no_text : (kind : ℕ) → payload_fit kind None ≡ true → HasNoText kind
has_no_text kind h =
    let p = or_parts (nat_le kind 2) (eqb kind 5) (unwanted (text w16 0 1024) (has_payload kind) h) in
    record { above = leb-false kind 2 p.0; other = eqb-false kind 5 p.1 }

undone : (x : Fields) → change_fields.fits x ≡ true → fields_of_change (change_of x) ≡ x
undone (kind, (key, (Some payload, (Some amount, attr)))) h =
    let p = parts kind key (Some payload) (Some amount) attr h in
    absurd (elim (has_text kind payload p.text_fits) [
      | inl low ↦ omega (arith, low, is_four kind amount p.sum_fits)
      | inr five ↦ omega (arith, five, is_four kind amount p.sum_fits)
    ])
undone (kind, (key, (Some payload, (None, Some attr)))) h =
    let p = parts kind key (Some payload) None (Some attr) h in with_attr kind key payload attr (is_five kind attr p.mark_fits)
undone (kind, (key, (Some payload, (None, None)))) h =
    let p = parts kind key (Some payload) None None h in
    elim (has_text kind payload p.text_fits) [
      | inl low ↦ with_payload kind key payload (eqb kind 2) refl p.some low
      | inr five ↦ absurd (is_not_five kind p.mark_fits five)
    ]
undone (kind, (key, (None, (Some amount, Some attr)))) h =
    let p = parts kind key None (Some amount) (Some attr) h in
    absurd (omega (arith, is_four kind amount p.sum_fits, is_five kind attr p.mark_fits))
undone (kind, (key, (None, (Some amount, None)))) h =
    let p = parts kind key None (Some amount) None h in
    ap {B = Fields} (λ (n : ℕ). (n, (key, (None, (Some amount, None))))) (sym (is_four kind amount p.sum_fits))
undone (kind, (key, (None, (None, Some attr)))) h =
    let p = parts kind key None None (Some attr) h in
    absurd ((has_no_text kind p.text_fits).other (is_five kind attr p.mark_fits))
undone (kind, (key, (None, (None, None)))) h =
    let p = parts kind key None None None h in
    let above = (has_no_text kind p.text_fits).above in
    let three : 3 ≡ kind = omega (arith, above, p.most, is_not_four kind p.sum_fits, is_not_five kind p.mark_fits) in
    ap {B = Fields} (λ (n : ℕ). (n, (key, (None, (None, None))))) three

redone : (c : Change) → change_of (fields_of_change c) ≡ c
redone (Insert key payload None) = refl
redone (Insert key payload (Some attr)) = refl
redone (Update key payload) = refl
redone (Delete key) = refl
redone (Add key amount) = refl

pub change_exact : IsExact change
unfolding change_fits change_bytes change_at
change_exact = seen_as_exact change_of fields_of_change change_fields fields_exact undone (λ c h. redone c)

key_from : (key : List ℕ) → in_range 1 64 (length key) ≡ true → IsKey key
key_from key h = let p = and_parts (nat_le 1 (length key)) (nat_le (length key) 64) h in record { some = omega (arith, leb-true 1 (length key) p.0); short = leb-true (length key) 64 p.1 }

payload_from : (payload : List ℕ) → in_range 0 1024 (length payload) ≡ true → IsPayload payload
payload_from payload h = leb-true (length payload) 1024 (and_parts (nat_le 0 (length payload)) (nat_le (length payload) 1024) h).1

key_fits : (key : List ℕ) → IsKey key → in_range 1 64 (length key) ≡ true
key_fits key k = and_from _ _ (le-leb 1 (length key) (omega arith)) (le-leb (length key) 64 k.short)

payload_fits : (payload : List ℕ) → IsPayload payload → in_range 0 1024 (length payload) ≡ true
payload_fits payload p = and_from _ _ (le-leb 0 (length payload) (omega arith)) (le-leb (length payload) 1024 p)

attr_from : (attr : List ℕ) → in_range 1 32 (length attr) ≡ true → IsAttr attr
attr_from attr h = let p = and_parts (nat_le 1 (length attr)) (nat_le (length attr) 32) h in record { some = omega (arith, leb-true 1 (length attr) p.0); short = leb-true (length attr) 32 p.1 }

attr_fits : (attr : List ℕ) → IsAttr attr → in_range 1 32 (length attr) ≡ true
attr_fits attr a = and_from _ _ (le-leb 1 (length attr) (omega arith)) (le-leb (length attr) 32 a.short)

amount_from : (amount : ℕ) → in_range 0 (2 ^ 64 - 1) amount ≡ true → amount < 2 ^ 64
amount_from amount h = let most = leb-true amount (2 ^ 64 - 1) (and_parts (nat_le 0 amount) (nat_le amount (2 ^ 64 - 1)) h).1 in omega (arith, most)

amount_fits : (amount : ℕ) → amount < 2 ^ 64 → in_range 0 (2 ^ 64 - 1) amount ≡ true
amount_fits amount h = and_from _ _ (le-leb 0 amount (omega arith)) (le-leb amount (2 ^ 64 - 1) (omega (arith, h)))

abbrev key_in : List ℕ → Bool
key_in key = in_range 1 64 (length key)

abbrev payload_in : List ℕ → Bool
payload_in payload = in_range 0 1024 (length payload)

-- what fits is a change
pub IsChange-fits : (c : Change) → change_fits c ≡ true → IsChange c
unfolding change_fits
IsChange-fits (Insert key payload None) h =
    let p = and_parts (key_in key) _ h in
    record { key = key_from key p.0; payload = payload_from payload (and_parts (payload_in payload) true p.1).0; attr = tt; amount = lit< tt }
IsChange-fits (Insert key payload (Some attr)) h =
    let p = and_parts (key_in key) _ h in
    let q = and_parts (payload_in payload) (in_range 1 32 (length attr)) p.1 in
    record { key = key_from key p.0; payload = payload_from payload q.0; attr = attr_from attr q.1; amount = lit< tt }
IsChange-fits (Update key payload) h =
    let p = and_parts (key_in key) _ h in
    record { key = key_from key p.0; payload = payload_from payload (and_parts (payload_in payload) true p.1).0; attr = tt; amount = lit< tt }
IsChange-fits (Delete key) h = record { key = key_from key (and_parts (key_in key) true h).0; payload = omega arith; attr = tt; amount = lit< tt }
IsChange-fits (Add key amount) h =
    let p = and_parts (key_in key) _ h in
    record { key = key_from key p.0; payload = omega arith; attr = tt; amount = amount_from amount (and_parts (in_range 0 (2 ^ 64 - 1) amount) true p.1).0 }

pub change_fits-from : (c : Change) → IsChange c → change_fits c ≡ true
unfolding change_fits
change_fits-from (Insert key payload None) h = and_from _ _ (key_fits key h.key) (and_from _ _ (payload_fits payload h.payload) refl)
change_fits-from (Insert key payload (Some attr)) h = and_from _ _ (key_fits key h.key) (and_from _ _ (payload_fits payload h.payload) (attr_fits attr h.attr))
change_fits-from (Update key payload) h = and_from _ _ (key_fits key h.key) (and_from _ _ (payload_fits payload h.payload) refl)
change_fits-from (Delete key) h = and_from _ _ (key_fits key h.key) refl
change_fits-from (Add key amount) h = and_from _ _ (key_fits key h.key) (and_from _ _ (amount_fits amount h.amount) refl)
