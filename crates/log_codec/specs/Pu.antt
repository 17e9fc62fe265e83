-- The format of a pending update record.
use Rattle.std.specs.Prelude.{ℕ, ◌≤◌, Bool, List, Option}
use Rattle.std.specs.Int.{w8}
use Rattle.db_base.specs.Ids.{IsClient}
use Rattle.db_base.specs.Limits.{last_client}
use Rattle.db_base.specs.declared.change.Change.{Change}
use Rattle.byte_format.specs.Format.{Format, Reading, number, ◌then◌, behind, seen_as}
use Rattle.byte_format.specs.Whole.{offset}
use Rattle.db_base.specs.Change.{IsChange}
use Rattle.change_codec.specs.Change.{change}
use Rattle.change_codec.specs.Number.{u64_from, IsCount}
use Rattle.change_codec.specs.Decoded.{decoded}
use Rattle.log_codec.specs.declared.record.PuRec.{PuRec}

-- the bytes 50 and 01 of hexadecimal; client, epoch, transaction, number, change
abbrev pub pu_fields : Format (ℕ × (ℕ × (ℕ × (ℕ × Change))))
pu_fields = behind 80 (behind 1 (number w8 1 last_client then λ client. u64_from 1 then λ epoch. u64_from 1 then λ txn. u64_from 1 then λ number. change))

abbrev pub pu_of_fields : ℕ × (ℕ × (ℕ × (ℕ × Change))) → PuRec
pu_of_fields (client, (epoch, (txn, (number, change)))) = record { client = client; epoch = epoch; txn = txn; number = number; change = change }

abbrev pub fields_of_pu : PuRec → ℕ × (ℕ × (ℕ × (ℕ × Change)))
fields_of_pu r = (r.client, (r.epoch, (r.txn, (r.number, r.change))))

abbrev pub pu_table : Format PuRec
pu_table = seen_as pu_of_fields fields_of_pu pu_fields

unfoldable pub pu_fits : PuRec → Bool
pu_fits = pu_table.fits

-- the one spelling of a pending update record
unfoldable pub pu_bytes : PuRec → List ℕ
pu_bytes = pu_table.spelling

unfoldable pub pu_at : List ℕ → Reading PuRec
pu_at = pu_table.reading

-- the format of a pending update record
abbrev pub pu_record : Format PuRec
pu_record = record { fits = pu_fits; spelling = pu_bytes; reading = pu_at }

-- the record that the bytes spell, where they spell one
unfoldable pub pu_of : List ℕ → Option PuRec
pu_of = decoded pu_record

-- the place of the first field that is cut short or breaks its rule, or behind the last field where bytes follow it
unfoldable pub pu_offset : List ℕ → ℕ
pu_offset = offset pu_record

-- what a record needs to have a spelling
pub record IsPuRecord (r : PuRec) : Type 0 where
  pub client : IsClient r.client
  pub epoch : IsCount r.epoch
  pub txn : IsCount r.txn
  pub number : IsCount r.number
  pub change : IsChange r.change

-- a record of its parts
abbrev pub pu_with : ℕ → ℕ → ℕ → ℕ → Change → PuRec
pu_with client epoch txn number change = record { client = client; epoch = epoch; txn = txn; number = number; change = change }

-- what of it the types leave open: its numbers count from 1
pub record CountsFromOne (r : PuRec) : Type 0 where
  pub epoch : 1 ≤ r.epoch
  pub txn : 1 ≤ r.txn
  pub number : 1 ≤ r.number
