-- Where the held get of a leaf leads: to the right, to the next key, or to the puts of its pieces.
use Rattle.std.proofs.Common.{◌≡◌, ◌≢◌, ◌+◌, ◌≤◌, ◌==◌, ◌⊎◌, ℕ, Bool, true, false, cond, nat_lt, List, Some, None, Result, Ok, Err, refl, subst}
use Rattle.std.proofs.lemmas.Bool.{eqb-true, eqb-false, ltb-false}
use Rattle.byte_format.specs.Format.{greatest}
use Rattle.db_base.specs.declared.trouble.Trouble.{Trouble}
use Rattle.node_codec.specs.Tree.{Tree, tree_bytes, empty_tree, HasTreeSpelling}
use Rattle.tree_phases.specs.declared.reserve.Reserved.{Reserved}
use Rattle.tree_phases.specs.Reserve.{version_spent, pages_spent, next_tree, reserved_by, reservation}
use Rattle.session_facts.specs.Machines.Trees.Placings.{reserving, IsReservation}
use Rattle.session_facts.proofs.Machines.Trees.Reserves.{reserving_fits}

-- ---- reservations

-- what is reserved: nothing, or so many numbers from the root's `next` on by its next version
pub data Reserving (root : Tree) (page count : ℕ) : Reserved → Type 0 where
  none : count ≡ 0 → Reserving root page count (record { put = None; first = page })
  some : (count ≡ 0 → ⊥) → (bytes : List ℕ) (first : ℕ) → IsReservation root count first bytes → root.next + count ≤ greatest
      → Reserving root page count (record { put = Some bytes; first = first })

-- the bytes of a root's next version with so many numbers reserved, and the first of them
abbrev with_reserved : Tree → ℕ → Reserved
with_reserved root count = record { put = Some (tree_bytes (reserving count root)); first = root.next }

abbrev none_reserved : ℕ → Reserved
none_reserved page = record { put = None; first = page }

abbrev AreReserved : Tree → ℕ → Bool → Result Reserved Trouble
AreReserved root count b = cond b (Err pages_spent) (Ok (with_reserved root count))

abbrev made : Reserved → Result Reserved Trouble
made r = Ok r

one_reserved : (a b : Reserved) → made a ≡ made b → a ≡ b
one_reserved a b q = cc

reserved_is : (root : Tree) (page count : ℕ) → (root ≡ empty_tree) ⊎ HasTreeSpelling root → (count ≡ 0 → ⊥) → (r : Reserved) → reserved_by count (next_tree root) ≡ Ok r → Reserving root page count r
reserved_is root page count spelled any r e = on (root.version == 18446744073709551615) refl e
  where
    fits : root.version ≢ greatest → root.next + count ≤ greatest → HasTreeSpelling (reserving count root)
    fits = reserving_fits count root spelled

    known : root.version ≢ greatest → root.next + count ≤ greatest → with_reserved root count ≡ r → Reserving root page count r
    known spare room same =
        subst (Reserving root page count) same (some any (tree_bytes (reserving count root)) root.next (record { first_is = refl; bytes_are = refl; fits = fits spare room }) room)

    numbers : root.version ≢ greatest → (b : Bool) → nat_lt 18446744073709551615 (root.next + count) ≡ b → AreReserved root count b ≡ Ok r → Reserving root page count r
    numbers spare true h f = absurd (cc)
    numbers spare false h f = known spare (ltb-false 18446744073709551615 (root.next + count) h) (one_reserved (with_reserved root count) r f)

    on : (b : Bool) → (root.version == 18446744073709551615) ≡ b → reserved_by count (cond b (Err version_spent) (Ok (record root { version = root.version + 1 }))) ≡ Ok r → Reserving root page count r
    on true h f = absurd (cc)
    on false h f = numbers (eqb-false root.version 18446744073709551615 h) (nat_lt 18446744073709551615 (root.next + count)) refl f

pub reservation_is : (root : Tree) (page count : ℕ) → (root ≡ empty_tree) ⊎ HasTreeSpelling root → (r : Reserved) → reservation root page count ≡ Ok r → Reserving root page count r
reservation_is root page count spelled r e = on (count == 0) refl e
  where
    on : (b : Bool) → (count == 0) ≡ b → cond b (Ok (none_reserved page)) (reserved_by count (next_tree root)) ≡ Ok r → Reserving root page count r
    on true h f = subst (Reserving root page count) (one_reserved (none_reserved page) r f) (none (eqb-true count 0 h))
    on false h f = reserved_is root page count spelled (eqb-false count 0 h) r f
