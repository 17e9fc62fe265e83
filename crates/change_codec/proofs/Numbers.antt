-- Ranges of numbers as facts.
use Rattle.std.proofs.Common.{◌≡◌, ℕ, ◌-◌, ◌^◌, ◌≤◌, true, arith, lit<}
use Rattle.std.specs.Prelude.{nat_le}
use Rattle.std.specs.Int.{w64}
use Rattle.std.proofs.lemmas.Bool.{and_parts, and_from, leb-true, le-leb}
use Rattle.byte_format.specs.Format.{in_range}
use Rattle.byte_format.specs.Whole.{IsExact}
use Rattle.byte_format.proofs.Fields.{number_exact, wide64}
use Rattle.change_codec.specs.Number.{u64_from, IsCount}

pub u64_exact : (least : ℕ) → IsExact (u64_from least)
u64_exact least = number_exact w64 _ wide64 least (2 ^ 64 - 1) (lit< tt)

-- what a test of a range says
pub record IsWithin (least most n : ℕ) : Type 0 where
  pub low : least ≤ n
  pub high : n ≤ most

pub IsWithin-from : (least most n : ℕ) → in_range least most n ≡ true → IsWithin least most n
IsWithin-from least most n h = let p = and_parts (nat_le least n) (nat_le n most) h in record { low = leb-true least n p.0; high = leb-true n most p.1 }

pub in_range-from : (least most n : ℕ) → least ≤ n → n ≤ most → in_range least most n ≡ true
in_range-from least most n low high = and_from _ _ (le-leb least n low) (le-leb n most high)

pub IsCount-from : (n : ℕ) → in_range 1 (2 ^ 64 - 1) n ≡ true → IsCount n
IsCount-from n h = let w = IsWithin-from 1 (2 ^ 64 - 1) n h in record { some = w.low; fits = omega (arith, w.high) }

pub count_in_range : (n : ℕ) → IsCount n → in_range 1 (2 ^ 64 - 1) n ≡ true
count_in_range n c = in_range-from 1 (2 ^ 64 - 1) n c.some (omega (arith, c.fits))
