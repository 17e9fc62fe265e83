-- Laws of the order of bytes.
use Rattle.std.proofs.Common.{◌≡◌, ℕ, true, List, refl, ap}
use Rattle.std.specs.Ordering.{is_eq}
use Rattle.std.specs.FinMap.{nat_cmp-IsAntisymmetric, slice_cmp-IsAntisymmetric}
use Rattle.std.specs.declared.cmp.Ordering.{Ordering}
use Rattle.std.specs.declared.cmp.Ordering.TheVariants.{Less, Equal, Greater}
use Rattle.byte_format.specs.Order.{bytes_cmp, bytes_same}
use Rattle.std.proofs.lemmas.Cmp.{tied_itself, nat_list_cmp_total}

equal_of : (o : Ordering) → is_eq o ≡ true → o ≡ Equal
equal_of Less h = absurd cc
equal_of Equal h = refl
equal_of Greater h = absurd cc

-- the same bytes are one list
pub same_is : (a b : List ℕ) → bytes_same a b ≡ true → a ≡ b
same_is a b h = slice_cmp-IsAntisymmetric nat_cmp-IsAntisymmetric a b (equal_of (bytes_cmp a b) h)

pub same_itself : (a : List ℕ) → bytes_same a a ≡ true
same_itself a = ap is_eq (tied_itself nat_list_cmp_total a)
