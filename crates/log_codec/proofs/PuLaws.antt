-- The format of a pending update record is exact, and what fits it.
use Rattle.std.proofs.Common.{◌≡◌, ℕ, ◌<◌, true, List, [], ◌∷◌, ◌++◌, Some, refl, sym, ap, lit<}
use Rattle.std.specs.Int.{w8, w64, to_be_bytes}
use Rattle.std.proofs.lemmas.Bool.{and_parts, and_from}
use Rattle.db_base.specs.declared.change.Change.{Change}
use Rattle.byte_format.specs.Whole.{IsSpelling, IsExact}
use Rattle.byte_format.proofs.Fields.{number_exact, wide8}
use Rattle.byte_format.proofs.Exact.{behind_exact, then_exact, seen_as_exact}
use Rattle.change_codec.specs.Change.{change_bytes}
use Rattle.change_codec.proofs.Changes.{change_exact, IsChange-fits, change_fits-from}
use Rattle.change_codec.proofs.Numbers.{u64_exact, IsWithin-from, in_range-from, IsCount-from, count_in_range}
use Rattle.change_codec.proofs.Decoding.{decoded_spells, decoded-spelling}
use Rattle.change_codec.proofs.Appends.{to_be_bytes-byte}
use Rattle.log_codec.specs.declared.record.PuRec.{PuRec}
use Rattle.log_codec.specs.Pu.{pu_fields, pu_of_fields, fields_of_pu, pu_fits, pu_bytes, pu_at, pu_record, pu_of, IsPuRecord}

fields_exact : IsExact pu_fields
fields_exact =
    behind_exact 80 _ (behind_exact 1 _ (
    then_exact _ _ (number_exact w8 _ wide8 1 64 (lit< tt)) (λ client.
    then_exact _ _ (u64_exact 1) (λ epoch.
    then_exact _ _ (u64_exact 1) (λ txn.
    then_exact _ _ (u64_exact 1) (λ number.
    change_exact))))))

undone : (x : ℕ × (ℕ × (ℕ × (ℕ × Change)))) → pu_fields.fits x ≡ true → fields_of_pu (pu_of_fields x) ≡ x
undone (client, (epoch, (txn, (number, change)))) h = refl

redone : (r : PuRec) → pu_fields.fits (fields_of_pu r) ≡ true → pu_of_fields (fields_of_pu r) ≡ r
redone r h = refl

pub pu_exact : IsExact pu_record
unfolding pu_fits pu_bytes pu_at
pu_exact = seen_as_exact pu_of_fields fields_of_pu pu_fields fields_exact undone redone

-- what fits is a record
pub IsPuRecord-fits : (r : PuRec) → pu_fits r ≡ true → IsPuRecord r
unfolding pu_fits
IsPuRecord-fits r h =
    let client = and_parts _ _ h in
    let epoch = and_parts _ _ client.1 in
    let txn = and_parts _ _ epoch.1 in
    let number = and_parts _ _ txn.1 in
    let c = IsWithin-from 1 64 r.client client.0 in
    record {
      client = record { some = c.low; most = c.high };
      epoch = IsCount-from r.epoch epoch.0;
      txn = IsCount-from r.txn txn.0;
      number = IsCount-from r.number number.0;
      change = IsChange-fits r.change number.1;
    }

pub pu_fits-from : (r : PuRec) → IsPuRecord r → pu_fits r ≡ true
unfolding pu_fits
pu_fits-from r is =
    and_from _ _ (in_range-from 1 64 r.client is.client.some is.client.most) (
    and_from _ _ (count_in_range r.epoch is.epoch) (
    and_from _ _ (count_in_range r.txn is.txn) (
    and_from _ _ (count_in_range r.number is.number) (change_fits-from r.change is.change))))

-- the spelling of a record is a spelling
pub pu_spells : (r : PuRec) (bytes : List ℕ) → IsPuRecord r → bytes ≡ pu_bytes r → IsSpelling pu_record bytes r
pu_spells r bytes is same = record { fits = pu_fits-from r is; is = same }

-- what is decoded is spelled so
pub pu_of_spells : (bytes : List ℕ) (r : PuRec) → pu_of bytes ≡ Some r → IsSpelling pu_record bytes r
unfolding pu_of
pu_of_spells bytes r h = decoded_spells pu_record bytes r h

-- what is spelled so is decoded
pub pu_of-spelling : (bytes : List ℕ) (r : PuRec) → IsSpelling pu_record bytes r → pu_of bytes ≡ Some r
unfolding pu_of
pu_of-spelling bytes r s = decoded-spelling pu_record pu_exact bytes r s

-- the spelling of a record, field by field
pub pu_bytes-fields : (r : PuRec) → r.client < 256 → (80 ∷ 1 ∷ r.client ∷ []) ++ (to_be_bytes w64 r.epoch ++ (to_be_bytes w64 r.txn ++ (to_be_bytes w64 r.number ++ change_bytes r.change))) ≡ pu_bytes r
unfolding pu_bytes
pu_bytes-fields r small = ap (λ (client : List ℕ). 80 ∷ 1 ∷ client ++ (to_be_bytes w64 r.epoch ++ (to_be_bytes w64 r.txn ++ (to_be_bytes w64 r.number ++ change_bytes r.change)))) (sym (to_be_bytes-byte r.client small))

-- a record that is written is read again
pub pu_of-bytes : (r : PuRec) → IsPuRecord r → pu_of (pu_bytes r) ≡ Some r
pu_of-bytes r is = pu_of-spelling (pu_bytes r) r (pu_spells r (pu_bytes r) is refl)

-- what is decoded is a record, and the bytes are its spelling
pub pu_of-some : (bytes : List ℕ) (r : PuRec) → pu_of bytes ≡ Some r → IsPuRecord r × (bytes ≡ pu_bytes r)
pu_of-some bytes r e = let s = pu_of_spells bytes r e in (IsPuRecord-fits r s.fits, s.is)
