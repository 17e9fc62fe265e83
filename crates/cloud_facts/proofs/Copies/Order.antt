-- Filtered lists keep the order.
use Rattle.std.proofs.Common.{◌≡◌, ◌<◌, ℕ, zero, suc, Bool, true, false, cond, List, [], ◌∷◌, filter, Some, sym, ap, subst, ◌∙◌, arith}
use Rattle.std.specs.Prelude.{slice_get}
use Rattle.cloud_facts.proofs.Numbers.Lists.{filter_there, filter_at}

-- one stands before another in a list
pub record Ordered {X : Type 0} (xs : List X) (x y : X) : Type 0 where
  pub i : ℕ
  pub j : ℕ
  pub less : i < j
  pub one : slice_get xs i ≡ Some x
  pub other : slice_get xs j ≡ Some y

behind : {X : Type 0} (z : X) (zs : List X) (x y : X) → Ordered zs x y → Ordered (z ∷ zs) x y
behind z zs x y h = record { i = suc h.i; j = suc h.j; less = let l = h.less in omega (arith, l); one = h.one; other = h.other }

-- of two that pass a test the first stands before the second among those that pass
pub filter_order : {X : Type 0} (p : X → Bool) (xs : List X) (i j : ℕ) (x y : X) → i < j → slice_get xs i ≡ Some x → slice_get xs j ≡ Some y
    → p x ≡ true → p y ≡ true → Ordered (filter p xs) x y
filter_order p [] i j x y less e f px py = absurd (cc)
filter_order p (z ∷ zs) zero zero x y less e f px py = absurd (omega (arith, less))
filter_order {X} p (z ∷ zs) zero (suc j) x y less e f px py =
    let same : z ≡ x = cc in
    let rest = filter_at p zs j y py f in
    subst (λ b. Ordered (cond b (z ∷ filter p zs) (filter p zs)) x y) (sym (ap p same ∙ px))
    (record { i = 0; j = suc rest.0; less = omega arith; one = e; other = rest.1 })
filter_order p (z ∷ zs) (suc i) zero x y less e f px py = absurd (omega (arith, less))
filter_order {X} p (z ∷ zs) (suc i) (suc j) x y less e f px py = on (p z) (filter_order p zs i j x y (omega (arith, less)) e f px py)
  where
    on : (b : Bool) → Ordered (filter p zs) x y → Ordered (cond b (z ∷ filter p zs) (filter p zs)) x y
    on true h = behind z (filter p zs) x y h
    on false h = h

-- and the other way round
pub order_of_filter : {X : Type 0} (p : X → Bool) (xs : List X) (k l : ℕ) (x y : X) → k < l → slice_get (filter p xs) k ≡ Some x
    → slice_get (filter p xs) l ≡ Some y
    → Ordered xs x y
order_of_filter p [] k l x y less e f = absurd (cc)
order_of_filter {X} p (z ∷ zs) k l x y less e f = on (p z) k l less e f (λ a b c d g. order_of_filter p zs a b x y c d g)
  where
    on : (b : Bool) (k l : ℕ) → k < l → slice_get (cond b (z ∷ filter p zs) (filter p zs)) k ≡ Some x
        → slice_get (cond b (z ∷ filter p zs) (filter p zs)) l ≡ Some y
        → ((a b : ℕ) → a < b → slice_get (filter p zs) a ≡ Some x → slice_get (filter p zs) b ≡ Some y → Ordered zs x y) → Ordered (z ∷ zs) x y
    on true zero zero less e f again = absurd (omega (arith, less))
    on true zero (suc l) less e f again =
        let rest = filter_there p zs l y f in
        record { i = 0; j = suc rest.place; less = omega arith; one = e; other = rest.there }
    on true (suc k) zero less e f again = absurd (omega (arith, less))
    on true (suc k) (suc l) less e f again = behind z zs x y (again k l (omega (arith, less)) e f)
    on false k l less e f again = behind z zs x y (again k l less e f)
