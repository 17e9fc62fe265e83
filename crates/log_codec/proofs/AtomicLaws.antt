-- The format of an ATOMIC record is exact, and what fits it.
use Rattle.std.proofs.Common.{◌≡◌, ℕ, ◌-◌, ◌^◌, ◌<◌, true, List, [], ◌∷◌, ◌++◌, Some, refl, sym, ap, ◌∙◌, arith, lit<}
use Rattle.std.specs.Int.{w8, w64, to_be_bytes}
use Rattle.std.proofs.lemmas.Bool.{and_parts, and_from}
use Rattle.byte_format.specs.Whole.{IsSpelling, IsExact}
use Rattle.byte_format.proofs.Fields.{number_exact, wide8}
use Rattle.byte_format.proofs.Exact.{behind_exact, then_exact, seen_as_exact}
use Rattle.change_codec.specs.Change.{change_bytes}
use Rattle.change_codec.proofs.Appends.{to_be_bytes-byte}
use Rattle.change_codec.proofs.Changes.{change_exact, IsChange-fits, change_fits-from}
use Rattle.change_codec.proofs.Numbers.{u64_exact, IsWithin-from, in_range-from, IsCount-from, count_in_range}
use Rattle.change_codec.proofs.Decoding.{decoded_spells, decoded-spelling}
use Rattle.log_codec.specs.declared.record.AtomicRec.{AtomicRec}
use Rattle.log_codec.specs.Atomic.{position, update, atomic_fields, atomic_of_fields, fields_of_atomic, atomic_fits, atomic_bytes, atomic_at, atomic_record, atomic_of, IsAtomicRecord}

position_exact : IsExact position
position_exact = then_exact _ _ (number_exact w8 _ wide8 1 255 (lit< tt)) (λ index. number_exact w8 _ wide8 index 200 (lit< tt))

update_exact : IsExact update
update_exact =
    then_exact _ _ (number_exact w8 _ wide8 1 16 (lit< tt)) (λ tree.
    then_exact _ _ (u64_exact 0) (λ page. then_exact _ _ (u64_exact 1) (λ number. change_exact)))

fields_exact : IsExact atomic_fields
fields_exact =
    behind_exact 65 _ (behind_exact 1 _ (
    then_exact _ _ (number_exact w8 _ wide8 1 64 (lit< tt)) (λ client.
    then_exact _ _ (u64_exact 1) (λ epoch.
    then_exact _ _ (u64_exact 1) (λ txn.
    then_exact _ _ position_exact (λ position. update_exact))))))

pub atomic_exact : IsExact atomic_record
unfolding atomic_fits atomic_bytes atomic_at
atomic_exact = seen_as_exact atomic_of_fields fields_of_atomic atomic_fields fields_exact (λ x h. refl) (λ r h. refl)

-- what fits is a record
pub IsAtomicRecord-fits : (r : AtomicRec) → atomic_fits r ≡ true → IsAtomicRecord r
unfolding atomic_fits
IsAtomicRecord-fits r h =
    let client = and_parts _ _ h in
    let epoch = and_parts _ _ client.1 in
    let txn = and_parts _ _ epoch.1 in
    let both = and_parts _ _ txn.1 in
    let place = and_parts _ _ both.0 in
    let tree = and_parts _ _ both.1 in
    let page = and_parts _ _ tree.1 in
    let number = and_parts _ _ page.1 in
    let c = IsWithin-from 1 64 r.client client.0 in
    let i = IsWithin-from 1 255 r.index place.0 in
    let n = IsWithin-from r.index 200 r.count place.1 in
    let t = IsWithin-from 1 16 r.tree tree.0 in
    let g = IsWithin-from 0 (2 ^ 64 - 1) r.page page.0 in
    record {
      client = record { some = c.low; most = c.high };
      epoch = IsCount-from r.epoch epoch.0;
      txn = IsCount-from r.txn txn.0;
      position = record { some = i.low; within = n.low; few = n.high };
      tree = record { some = t.low; most = t.high };
      page = omega (arith, g.high);
      number = IsCount-from r.number number.0;
      change = IsChange-fits r.change number.1;
    }

pub atomic_fits-from : (r : AtomicRec) → IsAtomicRecord r → atomic_fits r ≡ true
unfolding atomic_fits
atomic_fits-from r is =
    and_from _ _ (in_range-from 1 64 r.client is.client.some is.client.most) (
    and_from _ _ (count_in_range r.epoch is.epoch) (
    and_from _ _ (count_in_range r.txn is.txn) (
    and_from _ _ (
    and_from _ _ (in_range-from 1 255 r.index is.position.some (omega (arith, is.position.within, is.position.few))) (in_range-from r.index 200 r.count is.position.within is.position.few)) (
    and_from _ _ (in_range-from 1 16 r.tree is.tree.some is.tree.most) (
    and_from _ _ (in_range-from 0 (2 ^ 64 - 1) r.page (omega arith) (omega (arith, is.page))) (
    and_from _ _ (count_in_range r.number is.number) (change_fits-from r.change is.change)))))))

-- the spelling of a record is a spelling
pub atomic_spells : (r : AtomicRec) (bytes : List ℕ) → IsAtomicRecord r → bytes ≡ atomic_bytes r → IsSpelling atomic_record bytes r
atomic_spells r bytes is same = record { fits = atomic_fits-from r is; is = same }

-- what is decoded is spelled so
pub atomic_of_spells : (bytes : List ℕ) (r : AtomicRec) → atomic_of bytes ≡ Some r → IsSpelling atomic_record bytes r
unfolding atomic_of
atomic_of_spells bytes r h = decoded_spells atomic_record bytes r h

-- what is spelled so is decoded
pub atomic_of-spelling : (bytes : List ℕ) (r : AtomicRec) → IsSpelling atomic_record bytes r → atomic_of bytes ≡ Some r
unfolding atomic_of
atomic_of-spelling bytes r s = decoded-spelling atomic_record atomic_exact bytes r s

-- a record that is written is read again
pub atomic_of-bytes : (r : AtomicRec) → IsAtomicRecord r → atomic_of (atomic_bytes r) ≡ Some r
atomic_of-bytes r is = atomic_of-spelling (atomic_bytes r) r (atomic_spells r (atomic_bytes r) is refl)

-- what is decoded is a record, and the bytes are its spelling
pub atomic_of-some : (bytes : List ℕ) (r : AtomicRec) → atomic_of bytes ≡ Some r → IsAtomicRecord r × (bytes ≡ atomic_bytes r)
atomic_of-some bytes r e = let s = atomic_of_spells bytes r e in (IsAtomicRecord-fits r s.fits, s.is)

-- the spelling of a record, field by field
pub atomic_bytes-fields : (r : AtomicRec) → r.client < 256 → r.index < 256 → r.count < 256 → r.tree < 256
    → (65 ∷ 1 ∷ r.client ∷ []) ++ (to_be_bytes w64 r.epoch ++ (to_be_bytes w64 r.txn ++ ((r.index ∷ r.count ∷ r.tree ∷ []) ++ (to_be_bytes w64 r.page ++ (to_be_bytes w64 r.number ++ change_bytes r.change))))) ≡ atomic_bytes r
unfolding atomic_bytes
atomic_bytes-fields r client index count tree =
    let tail : List ℕ = to_be_bytes w64 r.page ++ (to_be_bytes w64 r.number ++ change_bytes r.change) in
    let times : List ℕ → List ℕ = λ (rest : List ℕ). to_be_bytes w64 r.epoch ++ (to_be_bytes w64 r.txn ++ rest) in
    let i = sym (to_be_bytes-byte r.index index) in
    let n = sym (to_be_bytes-byte r.count count) in
    let t = sym (to_be_bytes-byte r.tree tree) in
    ap (λ (bytes : List ℕ). 65 ∷ 1 ∷ bytes ++ times ((r.index ∷ r.count ∷ r.tree ∷ []) ++ tail)) (sym (to_be_bytes-byte r.client client))
    ∙ ap (λ (bytes : List ℕ). 65 ∷ 1 ∷ to_be_bytes w8 r.client ++ times (bytes ++ (r.count ∷ r.tree ∷ tail))) i
    ∙ ap (λ (bytes : List ℕ). 65 ∷ 1 ∷ to_be_bytes w8 r.client ++ times (to_be_bytes w8 r.index ++ (bytes ++ (r.tree ∷ tail)))) n
    ∙ ap (λ (bytes : List ℕ). 65 ∷ 1 ∷ to_be_bytes w8 r.client ++ times (to_be_bytes w8 r.index ++ (to_be_bytes w8 r.count ++ (bytes ++ tail)))) t
