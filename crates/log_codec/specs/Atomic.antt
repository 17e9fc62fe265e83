-- The format of an ATOMIC record.
use Rattle.std.specs.Prelude.{ℕ, ◌≤◌, ◌<◌, ◌^◌, Bool, List, Option}
use Rattle.std.specs.Int.{w8}
use Rattle.db_base.specs.Ids.{IsClient, IsTree}
use Rattle.db_base.specs.Limits.{last_client, most_changes}
use Rattle.db_base.specs.declared.change.Change.{Change}
use Rattle.byte_format.specs.Format.{Format, Reading, number, ◌then◌, behind, seen_as}
use Rattle.byte_format.specs.Whole.{offset}
use Rattle.db_base.specs.Change.{IsChange}
use Rattle.change_codec.specs.Change.{change}
use Rattle.change_codec.specs.Number.{u64_from, IsCount}
use Rattle.change_codec.specs.Decoded.{decoded}
use Rattle.log_codec.specs.declared.record.AtomicRec.{AtomicRec}

-- index and count of a record within its transaction
abbrev pub Position : Type 0
Position = ℕ × ℕ

-- the tree and the page of a record's pending update queue, its number there, and the change
abbrev pub Update : Type 0
Update = ℕ × (ℕ × (ℕ × Change))

-- the index from 1 on, the count from the index to 200
abbrev pub position : Format Position
position = number w8 1 255 then λ index. number w8 index most_changes

abbrev pub update : Format Update
update = number w8 1 16 then λ tree. u64_from 0 then λ page. u64_from 1 then λ number. change

-- the bytes 41 and 01 of hexadecimal; client, epoch, transaction, index, count, tree, page, number, change
abbrev pub atomic_fields : Format (ℕ × (ℕ × (ℕ × (Position × Update))))
atomic_fields = behind 65 (behind 1 (number w8 1 last_client then λ client. u64_from 1 then λ epoch. u64_from 1 then λ txn. position then λ position. update))

abbrev pub atomic_of_fields : ℕ × (ℕ × (ℕ × (Position × Update))) → AtomicRec
atomic_of_fields (client, (epoch, (txn, ((index, count), (tree, (page, (number, change))))))) =
    record { client = client; epoch = epoch; txn = txn; index = index; count = count; tree = tree; page = page; number = number; change = change }

abbrev pub fields_of_atomic : AtomicRec → ℕ × (ℕ × (ℕ × (Position × Update)))
fields_of_atomic r = (r.client, (r.epoch, (r.txn, ((r.index, r.count), (r.tree, (r.page, (r.number, r.change)))))))

abbrev pub atomic_table : Format AtomicRec
atomic_table = seen_as atomic_of_fields fields_of_atomic atomic_fields

unfoldable pub atomic_fits : AtomicRec → Bool
atomic_fits = atomic_table.fits

-- the one spelling of an ATOMIC record
unfoldable pub atomic_bytes : AtomicRec → List ℕ
atomic_bytes = atomic_table.spelling

unfoldable pub atomic_at : List ℕ → Reading AtomicRec
atomic_at = atomic_table.reading

-- the format of an ATOMIC record
abbrev pub atomic_record : Format AtomicRec
atomic_record = record { fits = atomic_fits; spelling = atomic_bytes; reading = atomic_at }

-- the record that the bytes spell, where they spell one
unfoldable pub atomic_of : List ℕ → Option AtomicRec
atomic_of = decoded atomic_record

-- the place of the first field that is cut short or breaks its rule, or behind the last field where bytes follow it
unfoldable pub atomic_offset : List ℕ → ℕ
atomic_offset = offset atomic_record

-- the place of a record within its transaction: from 1 to the count, which is 200 at most
pub record IsPosition (index count : ℕ) : Type 0 where
  pub some : 1 ≤ index
  pub within : index ≤ count
  pub few : count ≤ most_changes

-- what a record needs to have a spelling
pub record IsAtomicRecord (r : AtomicRec) : Type 0 where
  pub client : IsClient r.client
  pub epoch : IsCount r.epoch
  pub txn : IsCount r.txn
  pub position : IsPosition r.index r.count
  pub tree : IsTree r.tree
  pub page : r.page < 2 ^ 64
  pub number : IsCount r.number
  pub change : IsChange r.change

-- what of it the types leave open: its numbers count from 1, and its place is one
pub record HasPlace (r : AtomicRec) : Type 0 where
  pub epoch : 1 ≤ r.epoch
  pub txn : 1 ≤ r.txn
  pub position : IsPosition r.index r.count
  pub number : 1 ≤ r.number
