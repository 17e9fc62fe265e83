-- The items of a run that are of a client and key, by their numbers: behind each number stand the item of the next one and those behind it.
use Rattle.std.proofs.Common.{◌≡◌, ◌<◌, ◌≤◌, ◌+◌, ℕ, suc, Bool, true, false, cond, List, [], ◌∷◌, max, Some, refl, sym, ap, subst, ◌∙◌, arith, eqb, ⊎_elim, add-one}
use Rattle.std.specs.Prelude.{All, ⊤, ◌==◌, ◌&&◌, nat_lt, filter, find, count_by, IsSorted}
use Rattle.std.specs.List.{AllByRecursion}
use Rattle.std.specs.Str.{bytes_eq}
use Rattle.std.proofs.lemmas.Bool.{cases_lt, eqb-true, eqb-false, ltb-true, ltb-false, lt-ltb, le-ltb, and_parts}
use Rattle.std.proofs.lemmas.List.Elements.{recursion_from_All}
use Rattle.std.proofs.lemmas.List.Sums.{sum_by-cons}
use Rattle.std.proofs.lemmas.List.Sorted.{ranks_by, sorted_far}
use Rattle.std.proofs.lemmas.Slice.Eq.{bytes_eq-Decides}
use Rattle.std.proofs.lemmas.Cmp.{tied_itself, nat_cmp_total, nat_list_cmp_total}
use Rattle.std.specs.declared.cmp.Ordering.TheVariants.{Less, Equal, Greater}
use Rattle.std.specs.Ordering.{is_lt, nat_cmp, ordering_then}
use Rattle.std.specs.Cmp.Lexicographic.{slice_cmp}
use Rattle.db_base.specs.Change.{key_of}
use Rattle.leaf_edit.specs.Raised.{greatest_of}
use Rattle.log_codec.specs.declared.record.PuItem.{PuItem}
use Rattle.run_cursor.specs.Run.{is_at}
use Rattle.log_codec.specs.Order.{item_cmp}
use Rattle.log_codec.proofs.ItemOrder.{item_cmp_total}
use Rattle.cloud_facts.proofs.Orders.Filters.{found_passes}

-- what holds of all holds of what is found
found-holds : {A : Type 0} (P : A → Type 0) (p : A → Bool) (xs : List A) (x : A) → AllByRecursion P xs → find p xs ≡ Some x → P x
found-holds P p [] x all h = absurd cc
found-holds P p (y ∷ ys) x all h = on (p y) h (found-holds P p ys x all.1)
  where
    on : (b : Bool) → cond b (Some y) (find p ys) ≡ Some x → (find p ys ≡ Some x → P x) → P x
    on true is again = let same : y ≡ x = cc in subst P same all.0
    on false is again = again is

-- ---- the items of a client and key behind a number

-- whether an item is of this client and key and its number is above this one
abbrev pub is_behind : ℕ → List ℕ → ℕ → PuItem → Bool
is_behind client key n x = (x.rec.client == client) && (bytes_eq (key_of x.rec.change) key && nat_lt n x.rec.number)

-- none is behind the greatest
pub none-behind : (client : ℕ) (key : List ℕ) (n : ℕ) (xs : List PuItem) → greatest_of xs client ≤ n → filter (is_behind client key n) xs ≡ []
none-behind client key n [] h = refl
none-behind client key n (x ∷ xs) h = on (eqb x.rec.client client) h (none-behind client key n xs)
  where
    other : (b c : Bool) → c ≡ false → (b && c) ≡ false
    other true c e = e
    other false c e = refl

    on : (b : Bool) → max (cond b x.rec.number 0) (greatest_of xs client) ≤ n → (greatest_of xs client ≤ n → filter (is_behind client key n) xs ≡ [])
        → cond (b && (bytes_eq (key_of x.rec.change) key && nat_lt n x.rec.number)) (x ∷ filter (is_behind client key n) xs) (filter (is_behind client key n) xs) ≡ []
    on true le again =
        ap (λ b. cond b (x ∷ filter (is_behind client key n) xs) (filter (is_behind client key n) xs)) (other (bytes_eq (key_of x.rec.change) key) (nat_lt n x.rec.number) (le-ltb n x.rec.number (omega arith)))
        ∙ again (omega arith)
    on false le again = again (omega arith)

-- ---- the next item of a client

-- no item stands behind one that is greater
abbrev pub Rise : List PuItem → Type 0
Rise [] = ⊤
Rise (x ∷ xs) = AllByRecursion (λ (y : PuItem). is_lt (item_cmp y x) ≡ false) xs × Rise xs

tail-sorted : (x : PuItem) (xs : List PuItem) → IsSorted item_cmp (x ∷ xs) → IsSorted item_cmp xs
tail-sorted x xs h k d low high = rw add-one (rw add-one at (h (suc k) d (omega arith) (omega arith)))

first-least : (x : PuItem) (xs : List PuItem) → IsSorted item_cmp (x ∷ xs) → All (λ (y : PuItem). is_lt (item_cmp y x) ≡ false) xs
first-least x xs h k d in_range = sorted_far (λ a b. is_lt (item_cmp a b)) (ranks_by item_cmp_total (λ x. x)) (x ∷ xs) h 0 (suc k) d (omega arith) (omega arith)

pub rise-sorted : (xs : List PuItem) → IsSorted item_cmp xs → Rise xs
rise-sorted [] h = tt
rise-sorted (x ∷ xs) h = (recursion_from_All (λ (y : PuItem). is_lt (item_cmp y x) ≡ false) xs (first-least x xs h), rise-sorted xs (tail-sorted x xs h))

-- of two items of one key and client the one that is not less has no smaller number
not_less-number : (x y : PuItem) → key_of y.rec.change ≡ key_of x.rec.change → y.rec.client ≡ x.rec.client → is_lt (item_cmp y x) ≡ false
    → x.rec.number ≤ y.rec.number
not_less-number x y keys clients h = on (nat_lt y.rec.number x.rec.number) refl
    (sym (ap is_lt (ap (λ o. ordering_then o (ordering_then (nat_cmp y.rec.client x.rec.client) (nat_cmp y.rec.number x.rec.number))) same_key
    ∙ ap (λ o. ordering_then o (nat_cmp y.rec.number x.rec.number)) same_client)) ∙ h)
  where
    same_key : slice_cmp nat_cmp (key_of y.rec.change) (key_of x.rec.change) ≡ Equal
    same_key = ap (λ k. slice_cmp nat_cmp (key_of y.rec.change) k) (sym keys) ∙ tied_itself nat_list_cmp_total (key_of y.rec.change)

    same_client : nat_cmp y.rec.client x.rec.client ≡ Equal
    same_client = ap (λ c. nat_cmp y.rec.client c) (sym clients) ∙ tied_itself nat_cmp_total y.rec.client

    on : (b : Bool) → nat_lt y.rec.number x.rec.number ≡ b → is_lt (cond b Less (cond (y.rec.number == x.rec.number) Equal Greater)) ≡ false
        → x.rec.number ≤ y.rec.number
    on true e less = absurd cc
    on false e less = ltb-false y.rec.number x.rec.number e

-- an item that has not this number is behind it where it is behind the one before
behind-other : (client : ℕ) (key : List ℕ) (n : ℕ) (x : PuItem) → is_at client (n + 1) x ≡ false → is_behind client key n x ≡ is_behind client key (n + 1) x
behind-other client key n x other = on (x.rec.client == client) other
  where
    above : (x.rec.number == (n + 1)) ≡ false → nat_lt n x.rec.number ≡ nat_lt (n + 1) x.rec.number
    above e = ⊎_elim (λ lt. lt-ltb n x.rec.number (omega arith) ∙ sym (lt-ltb (n + 1) x.rec.number lt))
        (λ le. le-ltb n x.rec.number (let differ : x.rec.number ≡ n + 1 → ⊥ = eqb-false x.rec.number (n + 1) e in omega (arith, differ)) ∙ sym (le-ltb (n + 1) x.rec.number le))
        (cases_lt (n + 1) x.rec.number)

    on : (b : Bool) → (b && (x.rec.number == (n + 1))) ≡ false
        → (b && (bytes_eq (key_of x.rec.change) key && nat_lt n x.rec.number)) ≡ (b && (bytes_eq (key_of x.rec.change) key && nat_lt (n + 1) x.rec.number))
    on true e = ap (λ m. bytes_eq (key_of x.rec.change) key && m) (above e)
    on false e = refl

-- and so are all where none has the number
behind-none : (client : ℕ) (key : List ℕ) (n : ℕ) (xs : List PuItem) → count_by (is_at client (n + 1)) xs ≡ 0
    → filter (is_behind client key n) xs ≡ filter (is_behind client key (n + 1)) xs
behind-none client key n [] none = refl
behind-none client key n (x ∷ xs) none = on (is_at client (n + 1) x) refl (sym (sum_by-cons (λ y. cond (is_at client (n + 1) y) 1 0) x xs) ∙ none) (behind-none client key n xs)
  where
    on : (b : Bool) → is_at client (n + 1) x ≡ b → cond b 1 0 + count_by (is_at client (n + 1)) xs ≡ 0
        → (count_by (is_at client (n + 1)) xs ≡ 0 → filter (is_behind client key n) xs ≡ filter (is_behind client key (n + 1)) xs)
        → filter (is_behind client key n) (x ∷ xs) ≡ filter (is_behind client key (n + 1)) (x ∷ xs)
    on true e count again = absurd (omega (arith, count))
    on false e count again =
        ap (λ b. cond b (x ∷ filter (is_behind client key n) xs) (filter (is_behind client key n) xs)) (behind-other client key n x e)
        ∙ ap (λ l. cond (is_behind client key (n + 1) x) (x ∷ l) l) (again (omega (arith, count)))

-- an item at the number is behind the one before where it has the key, and is not behind its own
pub record AtNext (client : ℕ) (key : List ℕ) (n : ℕ) (x : PuItem) : Type 0 where
  pub own : x.rec.client ≡ client
  pub at : x.rec.number ≡ n + 1
  pub before : is_behind client key n x ≡ bytes_eq (key_of x.rec.change) key
  pub behind : is_behind client key (n + 1) x ≡ false

pub at-next : (client : ℕ) (key : List ℕ) (n : ℕ) (x : PuItem) → is_at client (n + 1) x ≡ true → AtNext client key n x
at-next client key n x is = record {
  own = client_is;
  at = number_is;
  before = turned (x.rec.client == client) (bytes_eq (key_of x.rec.change) key) (nat_lt n x.rec.number) parts.0 (lt-ltb n x.rec.number (omega (arith, number_is)));
  behind = not_behind (x.rec.client == client) (bytes_eq (key_of x.rec.change) key) (nat_lt (n + 1) x.rec.number) (le-ltb (n + 1) x.rec.number (omega (arith, number_is)));
}
  where
    parts : ((x.rec.client == client) ≡ true) × ((x.rec.number == (n + 1)) ≡ true)
    parts = and_parts (x.rec.client == client) (x.rec.number == (n + 1)) is

    client_is : x.rec.client ≡ client
    client_is = eqb-true x.rec.client client parts.0

    number_is : x.rec.number ≡ n + 1
    number_is = eqb-true x.rec.number (n + 1) parts.1

    turned : (c b m : Bool) → c ≡ true → m ≡ true → (c && (b && m)) ≡ b
    turned c true m is_own above = rw (is_own, above) refl
    turned c false m is_own above = rw (is_own) refl

    not_behind : (c b m : Bool) → m ≡ false → (c && (b && m)) ≡ false
    not_behind true true m e = e
    not_behind true false m e = refl
    not_behind false b m e = refl

-- what is behind a number is the item of the next, where that has the key, and what is behind the next
pub behind-next : (client : ℕ) (key : List ℕ) (n : ℕ) (xs : List PuItem) (x : PuItem) → Rise xs → count_by (is_at client (n + 1)) xs ≡ 1
    → find (is_at client (n + 1)) xs ≡ Some x
    → filter (is_behind client key n) xs
    ≡ cond (bytes_eq (key_of x.rec.change) key) (x ∷ filter (is_behind client key (n + 1)) xs) (filter (is_behind client key (n + 1)) xs)
behind-next client key n [] x rise one is = absurd cc
behind-next client key n (y ∷ ys) x rise one is =
    on (is_at client (n + 1) y) refl (sym (sum_by-cons (λ z. cond (is_at client (n + 1) z) 1 0) y ys) ∙ one) is (behind-next client key n ys x rise.1)
  where
    old : List PuItem
    old = filter (is_behind client key n) ys

    new : List PuItem
    new = filter (is_behind client key (n + 1)) ys

    here : is_at client (n + 1) y ≡ true → old ≡ new → cond (is_behind client key n y) (y ∷ old) old
        ≡ cond (bytes_eq (key_of y.rec.change) key) (y ∷ cond (is_behind client key (n + 1) y) (y ∷ new) new) (cond (is_behind client key (n + 1) y) (y ∷ new) new)
    here e same = let next = at-next client key n y e in
        ap (λ b. cond b (y ∷ old) old) next.before
        ∙ (ap (λ l. cond (bytes_eq (key_of y.rec.change) key) (y ∷ l) l) same
        ∙ sym (ap (λ b. cond (bytes_eq (key_of y.rec.change) key) (y ∷ cond b (y ∷ new) new) (cond b (y ∷ new) new)) next.behind))

    -- no item of the key that is behind the number stands before that of the number
    apart : is_behind client key (n + 1) y ≡ true → bytes_eq (key_of x.rec.change) key ≡ true → find (is_at client (n + 1)) ys ≡ Some x → ⊥
    apart behind has is =
        let next = at-next client key n x (found_passes (is_at client (n + 1)) ys x is) in
        let own = and_parts (y.rec.client == client) (bytes_eq (key_of y.rec.change) key && nat_lt (n + 1) y.rec.number) behind in
        let keyed = and_parts (bytes_eq (key_of y.rec.change) key) (nat_lt (n + 1) y.rec.number) own.1 in
        let keys : key_of x.rec.change ≡ key_of y.rec.change = (bytes_eq-Decides (key_of x.rec.change) key).0 has ∙ sym ((bytes_eq-Decides (key_of y.rec.change) key).0 keyed.0) in
        let clients : x.rec.client ≡ y.rec.client = next.own ∙ sym (eqb-true y.rec.client client own.0) in
        let upto : y.rec.number ≤ x.rec.number = not_less-number y x keys clients (found-holds (λ z. is_lt (item_cmp z y) ≡ false) (is_at client (n + 1)) ys x rise.0 is) in
        let above : n + 1 < y.rec.number = ltb-true (n + 1) y.rec.number keyed.1 in
        let at : x.rec.number ≡ n + 1 = next.at in
        omega (arith, upto, above, at)

    there : (s b : Bool) → (s ≡ true → b ≡ true → ⊥) → old ≡ cond b (x ∷ new) new → cond s (y ∷ old) old ≡ cond b (x ∷ cond s (y ∷ new) new) (cond s (y ∷ new) new)
    there true true differ same = absurd (differ refl refl)
    there true false differ same = ap (λ l. y ∷ l) same
    there false b differ same = same

    on : (b : Bool) → is_at client (n + 1) y ≡ b → cond b 1 0 + count_by (is_at client (n + 1)) ys ≡ 1 → cond b (Some y) (find (is_at client (n + 1)) ys) ≡ Some x
        → (count_by (is_at client (n + 1)) ys ≡ 1 → find (is_at client (n + 1)) ys ≡ Some x → old ≡ cond (bytes_eq (key_of x.rec.change) key) (x ∷ new) new)
        → filter (is_behind client key n) (y ∷ ys)
        ≡ cond (bytes_eq (key_of x.rec.change) key) (x ∷ filter (is_behind client key (n + 1)) (y ∷ ys)) (filter (is_behind client key (n + 1)) (y ∷ ys))
    on true e count is again =
        let same : y ≡ x = cc in
        subst (λ z. filter (is_behind client key n) (y ∷ ys) ≡ cond (bytes_eq (key_of z.rec.change) key) (z ∷ filter (is_behind client key (n + 1)) (y ∷ ys)) (filter (is_behind client key (n + 1)) (y ∷ ys)))
        same (here e (behind-none client key n ys (omega (arith, count))))
    on false e count is again =
        ap (λ b. cond b (y ∷ old) old) (behind-other client key n y e)
        ∙ there (is_behind client key (n + 1) y) (bytes_eq (key_of x.rec.change) key) (λ behind has. apart behind has is) (again (omega (arith, count)) is)
