-- What the bytes of an object say of themselves at their front.
use Rattle.std.specs.Prelude.{ℕ, List, [], ◌∷◌, Option, Some, None, ◌==◌, ◌||◌, if◌then◌else◌}
use Rattle.std.specs.Result.{result_ok}
use Rattle.std.specs.Int.{w64}
use Rattle.byte_format.specs.Format.{number_at, greatest}
use Rattle.traced_cloud.specs.declared.stamp.Stamp.{Stamp}
use Rattle.traced_cloud.specs.declared.stamp.Stamp.TheVariants.{Version, Head}

-- the number in the first eight bytes, and the bytes behind it
abbrev pub first_number : List ℕ → Option (ℕ × List ℕ)
first_number bytes = result_ok (number_at w64 0 greatest bytes)

-- a version
abbrev pub version_in : Option (ℕ × List ℕ) → Option Stamp
version_in None = None
version_in (Some version) = Some (Version version.0)

-- a page or a tree object, behind its tag and its format: the version
abbrev pub version_stamp : List ℕ → Option Stamp
version_stamp bytes = version_in (first_number bytes)

-- the phase in the first byte; 1 is open
abbrev pub phase_in : ℕ → ℕ → List ℕ → Option Stamp
phase_in epoch txn [] = None
phase_in epoch txn (phase ∷ rest) = Some (Head epoch txn (phase == 1))

-- the transaction, and then the phase
abbrev pub txn_in : ℕ → Option (ℕ × List ℕ) → Option Stamp
txn_in epoch None = None
txn_in epoch (Some txn) = phase_in epoch txn.0 txn.1

-- the epoch, and then the transaction
abbrev pub epoch_in : Option (ℕ × List ℕ) → Option Stamp
epoch_in None = None
epoch_in (Some epoch) = txn_in epoch.0 (first_number epoch.1)

-- a head, behind its tag and its format
abbrev pub head_stamp : List ℕ → Option Stamp
head_stamp bytes = epoch_in (first_number bytes)

-- a head has the tag `H`; a leaf `L`, an inner node `I` and a tree object `T`; other bytes say nothing
abbrev pub stamp_of : List ℕ → Option Stamp
stamp_of [] = None
stamp_of (tag ∷ []) = None
stamp_of (tag ∷ format ∷ rest) =
    if tag == 72 then head_stamp rest
    else (if tag == 76 || (tag == 73 || tag == 84) then version_stamp rest else None)
