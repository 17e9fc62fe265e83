-- The format of a change, which log records and heads share.
use Rattle.std.specs.Prelude.{ℕ, ◌-◌, ◌^◌, ◌==◌, ◌||◌, nat_le, Bool, List, Option, Some, None, if◌then◌else◌}
use Rattle.std.specs.Int.{w8, w16, w64}
use Rattle.db_base.specs.Limits.{longest_key, longest_payload}
use Rattle.db_base.specs.declared.change.Change.{Change}
use Rattle.db_base.specs.declared.change.Change.TheVariants.{Insert, Update, Delete, Add}
use Rattle.byte_format.specs.Format.{Format, Reading, number, text, ◌then◌, only_where, seen_as}

-- whether a change of the kind has a payload
abbrev pub has_payload : ℕ → Bool
has_payload kind = nat_le kind 2 || kind == 5

-- the amount of an addition, and the attribute of an insert
abbrev pub ChangeParts : Type 0
ChangeParts = Option ℕ × Option (List ℕ)

-- the kind, 1 Insert without attribute, 2 Update, 3 Delete, 4 Add, 5 Insert with one; the key; the payload of an insert or update; the amount; the attribute
abbrev pub change_fields : Format (ℕ × (List ℕ × (Option (List ℕ) × ChangeParts)))
change_fields =
    number w8 1 5 then λ kind. text w8 1 longest_key then λ key. only_where (has_payload kind) (text w16 0 longest_payload) then λ payload.
    only_where (kind == 4) (number w64 0 (2 ^ 64 - 1)) then λ amount. only_where (kind == 5) (text w8 1 32)

abbrev pub change_of : ℕ × (List ℕ × (Option (List ℕ) × ChangeParts)) → Change
change_of (kind, (key, (Some payload, (amount, attr)))) = if kind == 2 then Update key payload else Insert key payload attr
change_of (kind, (key, (None, (Some amount, attr)))) = Add key amount
change_of (kind, (key, (None, (None, attr)))) = Delete key

abbrev pub fields_of_change : Change → ℕ × (List ℕ × (Option (List ℕ) × ChangeParts))
fields_of_change (Insert key payload None) = (1, (key, (Some payload, (None, None))))
fields_of_change (Insert key payload (Some attr)) = (5, (key, (Some payload, (None, Some attr))))
fields_of_change (Update key payload) = (2, (key, (Some payload, (None, None))))
fields_of_change (Delete key) = (3, (key, (None, (None, None))))
fields_of_change (Add key amount) = (4, (key, (None, (Some amount, None))))

abbrev pub change_table : Format Change
change_table = seen_as change_of fields_of_change change_fields

-- the table's parts by name, so that the formats above are not read down to the fields of a change
unfoldable pub change_fits : Change → Bool
change_fits = change_table.fits

unfoldable pub change_bytes : Change → List ℕ
change_bytes = change_table.spelling

unfoldable pub change_at : List ℕ → Reading Change
change_at = change_table.reading

-- the format of a change
abbrev pub change : Format Change
change = record { fits = change_fits; spelling = change_bytes; reading = change_at }
