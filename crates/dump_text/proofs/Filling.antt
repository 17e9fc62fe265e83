-- Records behind a record: as many as there is room for, and no more.
use Rattle.std.proofs.Common.{◌≡◌, ℕ, zero, suc, ◌<◌, ◌≤◌, true, List, [], ◌∷◌, length, Option, Some, None, refl, sym, arith}
use Rattle.std.specs.List.{AllByRecursion}
use Rattle.byte_format.specs.Order.{bytes_below}
use Rattle.leaf_view.specs.Fits.{Ascend, Behind}
use Rattle.words.specs.Word.{AreBytes}
use Rattle.report_types.specs.declared.stored.Stored.{Stored}
use Rattle.dump_text.specs.Dump.{IsRecord, stored_below}
use Rattle.dump_text.specs.Room.{keys_above, room}
use Rattle.dump_text.specs.Text.{HasBytes}
use Rattle.dump_text.proofs.Rooms.{next_of, above_falls, all_above}

-- the key of a record, or no byte
abbrev key_of : Option Stored → List ℕ
key_of None = []
key_of (Some s) = s.key

-- a key of bytes, or none
pub record IsKeyed (before : Option Stored) : Type 0 where
  pub bytes : AreBytes (key_of before)
  pub short : length (key_of before) ≤ 64

room_is : (before : Option Stored) → room before ≡ keys_above 64 (key_of before)
room_is None = sym (all_above 64)
room_is (Some s) = refl

behind_is : (before : Option Stored) (s : Stored) → bytes_below (key_of before) s.key ≡ true → Behind stored_below before s
behind_is None s h = tt
behind_is (Some b) s h = h

-- n records behind one
pub record Filled (before : Option Stored) (n : ℕ) : Type 0 where
  pub records : List Stored
  pub count : length records ≡ n
  pub each : AllByRecursion IsRecord records
  pub bytes : AllByRecursion HasBytes records
  pub ascending : Ascend stored_below before records

-- a key alone
abbrev pub bare : List ℕ → Stored
bare key = record { key = key; payload = []; attr = None }

bare_record : (key : List ℕ) → 0 < length key → length key ≤ 64 → IsRecord (bare key)
bare_record key some short = record {
  key = record { some = some; short = short };
  payload = omega arith;
  attr = tt;
}

no_bytes : AreBytes []
no_bytes i = omega arith

bare_bytes : (key : List ℕ) → AreBytes key → HasBytes (bare key)
bare_bytes key h = record { key = h; payload = no_bytes; attr = tt }

pub fill : (n : ℕ) (before : Option Stored) → IsKeyed before → n ≤ room before → Filled before n
fill zero before keyed h = record { records = []; count = refl; each = tt; bytes = tt; ascending = tt }
fill (suc n) before keyed h =
    let is = room_is before in
    let x = next_of 64 (key_of before) keyed.bytes keyed.short (omega arith) in
    let less = x.left in
    let rest = fill n (Some (bare x.next)) (record { bytes = x.bytes; short = x.short }) (omega arith) in
    record {
      records = bare x.next ∷ rest.records;
      count = let k = rest.count in omega arith;
      each = (bare_record x.next x.some x.short, rest.each);
      bytes = (bare_bytes x.next x.bytes, rest.bytes);
      ascending = (behind_is before (bare x.next) x.behind, rest.ascending);
    }

-- a key stands behind no byte
above_none : (key : List ℕ) → 0 < length key → bytes_below [] key ≡ true
above_none [] some = absurd (omega arith)
above_none (b ∷ key) some = refl

falls : (before : Option Stored) (s : Stored) → IsRecord s → HasBytes s → Behind stored_below before s → room (Some s) < room before
falls None s is bytes h =
    let e = all_above 64 in
    let f = above_falls 64 [] s.key is.key.short bytes.key (above_none s.key is.key.some) in
    omega arith
falls (Some b) s is bytes h = above_falls 64 b.key s.key is.key.short bytes.key h

-- there is room for the records that stand behind one
pub few : (before : Option Stored) (records : List Stored) → AllByRecursion IsRecord records → AllByRecursion HasBytes records → Ascend stored_below before records → length records ≤ room before
few before [] each bytes up = omega arith
few before (s ∷ records) each bytes up =
    let rest = few (Some s) records each.1 bytes.1 up.1 in
    let less = falls before s each.0 bytes.0 up.0 in
    omega arith
