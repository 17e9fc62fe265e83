-- The order of keys, and of the bounds of ranges.
use Rattle.std.proofs.Common.{◌≡◌, ℕ, Bool, true, false, List, Option, Some, None, refl, ap, sym, subst, ◌∙◌}
use Rattle.std.specs.Prelude.{◌&&◌, ◌||◌, if◌then◌else◌}
use Rattle.std.specs.Ordering.{ordering_reverse, is_eq, is_lt}
use Rattle.std.specs.declared.cmp.Ordering.{Ordering}
use Rattle.std.specs.declared.cmp.Ordering.TheVariants.{Less, Equal, Greater}
use Rattle.std.proofs.lemmas.Cmp.{nat_list_cmp_total}
use Rattle.byte_format.specs.Order.{bytes_cmp, bytes_below, below_bound}
use Rattle.byte_format.proofs.OrderLemmas.{same_is}
use Rattle.range_scan.specs.Bounds.{cut_at}

pub is_less : (o : Ordering) → is_lt o ≡ true → o ≡ Less
is_less Less e = refl
is_less Equal e = absurd (cc (e))
is_less Greater e = absurd (cc (e))

pub below_trans : (a b c : List ℕ) → bytes_below a b ≡ true → bytes_below b c ≡ true → bytes_below a c ≡ true
below_trans a b c e f = ap is_lt (nat_list_cmp_total.trans a b c (is_less (bytes_cmp a b) e) (is_less (bytes_cmp b c) f))

pub bound_trans : (a b : List ℕ) (bound : Option (List ℕ)) → bytes_below a b ≡ true → below_bound b bound ≡ true → below_bound a bound ≡ true
bound_trans a b None e f = refl
bound_trans a b (Some c) e f = below_trans a b c e f

-- a key below one that another is not below
pub below_least : (a b c : List ℕ) → bytes_below a b ≡ true → bytes_below c b ≡ false → bytes_cmp a c ≡ Less
below_least a b c e f = on (bytes_cmp b c) refl where
  less : bytes_cmp a b ≡ Less
  less = is_less (bytes_cmp a b) e

  on : (o : Ordering) → bytes_cmp b c ≡ o → bytes_cmp a c ≡ Less
  on Less is = nat_list_cmp_total.trans a b c less is
  on Equal is = subst (λ (k : List ℕ). bytes_cmp a k ≡ Less) (same_is b c (ap is_eq is)) less
  on Greater is =
      let back : bytes_cmp c b ≡ Less = nat_list_cmp_total.antisymm c b ∙ ap ordering_reverse is in
      let below : bytes_below c b ≡ true = ap is_lt back in
      absurd (cc (below, f))

-- ---- the later of two begins, and the nearer of two ends

pub later_then : (a b key : List ℕ) → bytes_below a b ≡ true → bytes_below key b ≡ (bytes_below key a || bytes_below key b)
later_then a b key e = on (bytes_below key a) refl where
  on : (x : Bool) → bytes_below key a ≡ x → bytes_below key b ≡ (x || bytes_below key b)
  on true is = below_trans key a b is e
  on false is = refl

pub later_else : (a b key : List ℕ) → bytes_below a b ≡ false → bytes_below key a ≡ (bytes_below key a || bytes_below key b)
later_else a b key e = on (bytes_below key a) (bytes_below key b) refl refl where
  on : (x y : Bool) → bytes_below key a ≡ x → bytes_below key b ≡ y → x ≡ (x || y)
  on true y one two = refl
  on false false one two = refl
  on false true one two =
      let below : bytes_below key a ≡ true = ap is_lt (below_least key b a two e) in
      absurd (cc (below, one))

pub nearer_then : (a key : List ℕ) (b : Option (List ℕ)) → below_bound a b ≡ true → bytes_below key a ≡ (bytes_below key a && below_bound key b)
nearer_then a key b e = on (bytes_below key a) refl where
  on : (x : Bool) → bytes_below key a ≡ x → x ≡ (x && below_bound key b)
  on true is = sym (bound_trans key a b is e)
  on false is = refl

pub nearer_else : (a key : List ℕ) (b : Option (List ℕ)) → below_bound a b ≡ false → below_bound key b ≡ (bytes_below key a && below_bound key b)
nearer_else a key None e = absurd (cc (e))
nearer_else a key (Some b) e = on (bytes_below key a) (bytes_below key b) refl refl where
  on : (x y : Bool) → bytes_below key a ≡ x → bytes_below key b ≡ y → y ≡ (x && y)
  on true y one two = refl
  on false false one two = refl
  on false true one two =
      let below : bytes_below key a ≡ true = ap is_lt (below_least key b a two e) in
      absurd (cc (below, one))

-- a key of a leaf's range is below the bound where it is below the cut
pub cut_same : (high to : Option (List ℕ)) (key : List ℕ) → below_bound key high ≡ true → below_bound key to ≡ below_bound key (cut_at high to)
cut_same high None key e = refl
cut_same high (Some to) key e = on (below_bound to high) refl where
  past : (h : Option (List ℕ)) → below_bound key h ≡ true → below_bound to h ≡ false → bytes_below key to ≡ true
  past None f g = absurd (cc (g))
  past (Some k) f g = ap is_lt (below_least key k to f g)

  on : (b : Bool) → below_bound to high ≡ b → bytes_below key to ≡ below_bound key (if b then Some to else None)
  on true is = refl
  on false is = past high e is
