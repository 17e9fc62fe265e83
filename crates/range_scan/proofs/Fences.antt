-- A leaf that is read begins below its high key.
use Rattle.std.proofs.Common.{◌≡◌, ℕ, Bool, true, false, List, Option, Some, None, Result, Ok, Err, refl, subst}
use Rattle.std.specs.Prelude.{◌==◌, length, if◌then◌else◌}
use Rattle.std.specs.Int.{w8, w64}
use Rattle.std.specs.Result.{result_ok}
use Rattle.byte_format.specs.Format.{Reading, Format, ◌>>=◌, greatest, number, text, guarded, ruled, ◌then◌, mark_at, behind, only_where, seen_as, list_of}
use Rattle.byte_format.specs.HighKey.{key_above, high_key}
use Rattle.byte_format.specs.Order.{bytes_below, below_bound}
use Rattle.leaf_view.specs.Leaf.{Head, Leaf, Heads, head_of, head_parts, leaf_head, leaf, leaf_of, leaf_parts, done_item, record_item}
use Rattle.leaf_view.specs.Lookup.{empty_leaf}
use Rattle.page_cache.specs.Held.{leaf_in, as_leaf}
use Rattle.range_scan.specs.Whole.{IsFenced}

-- what is read has this
Gives : {A : Type 0} → (A → Type 0) → Reading A → Type 0
Gives P (Ok x) = P x.0
Gives P (Err left) = Unit {0}

Always : {A : Type 0} → Format A → (A → Type 0) → Type 0
Always f P = (bytes : List ℕ) → Gives P (f.reading bytes)

bind_gives : {A B : Type 0} (P : A → Type 0) (Q : B → Type 0) (r : Reading A) (k : A × List ℕ → Reading B) → Gives P r → ((x : A × List ℕ) → P x.0 → Gives Q (k x)) → Gives Q (r >>= k)
unfolding Gives
bind_gives P Q (Ok x) k h more = more x h
bind_gives P Q (Err left) k h more = tt

any : {A : Type 0} (r : Reading A) → Gives (λ (x : A). Unit {0}) r
unfolding Gives
any (Ok x) = tt
any (Err left) = tt

ruled_always : {A : Type 0} (rule : A → Bool) (f : Format A) → Always (ruled rule f) (λ x. rule x ≡ true)
unfolding Always Gives
ruled_always {A} rule f bytes = bind_gives (λ (x : A). Unit {0}) (λ (x : A). rule x ≡ true) (f.reading bytes) (λ x. guarded (rule x.0) bytes x) (any (f.reading bytes)) (λ x h. by x (rule x.0) refl) where
  by : (x : A × List ℕ) (b : Bool) → rule x.0 ≡ b → Gives (λ (y : A). rule y ≡ true) (guarded b bytes x)
  by x true e = e
  by x false e = tt

then_always : {A B : Type 0} (P : A × B → Type 0) (f : Format A) (g : A → Format B) → ((a : A) → Always (g a) (λ b. P (a, b))) → Always (f then g) P
unfolding Always Gives
then_always {A} {B} P f g h bytes =
    bind_gives (λ (a : A). Unit {0}) P (f.reading bytes) (λ a. (g a.0).reading a.1 >>= λ b. Ok ((a.0, b.0), b.1)) (any (f.reading bytes))
    (λ a k. bind_gives (λ (b : B). P (a.0, b)) P ((g a.0).reading a.1) (λ b. Ok ((a.0, b.0), b.1)) (h a.0 a.1) (λ b is. is))

first_always : {A B : Type 0} (P : A → Type 0) (f : Format A) (g : A → Format B) → Always f P → Always (f then g) (λ x. P x.0)
unfolding Always Gives
first_always {A} {B} P f g h bytes =
    bind_gives P (λ (x : A × B). P x.0) (f.reading bytes) (λ a. (g a.0).reading a.1 >>= λ b. Ok ((a.0, b.0), b.1)) (h bytes)
    (λ a is. bind_gives (λ (b : B). Unit {0}) (λ (x : A × B). P x.0) ((g a.0).reading a.1) (λ b. Ok ((a.0, b.0), b.1)) (any ((g a.0).reading a.1)) (λ b k. is))

behind_always : {A : Type 0} (P : A → Type 0) (mark : ℕ) (f : Format A) → Always f P → Always (behind mark f) P
unfolding Always Gives
behind_always P mark f h bytes = on (mark_at mark bytes) where
  on : (r : Result (List ℕ) ℕ) → Gives P (r >>= f.reading)
  on (Ok rest) = h rest
  on (Err left) = tt

SomeIs : {A : Type 0} → (A → Type 0) → Option A → Type 0
SomeIs P None = Unit {0}
SomeIs P (Some x) = P x

where_always : {A : Type 0} (P : A → Type 0) (there : Bool) (f : Format A) → Always f P → Always (only_where there f) (SomeIs P)
unfolding Always Gives SomeIs
where_always P true f h bytes = bind_gives P (SomeIs P) (f.reading bytes) (λ x. Ok (Some x.0, x.1)) (h bytes) (λ x is. is)
where_always P false f h bytes = tt

seen_always : {A B : Type 0} (P : B → Type 0) (view : A → B) (back : B → A) (f : Format A) → Always f (λ x. P (view x)) → Always (seen_as view back f) P
unfolding Always Gives
seen_always {A} P view back f h bytes = bind_gives (λ (x : A). P (view x)) P (f.reading bytes) (λ x. Ok (view x.0, x.1)) (h bytes) (λ x is. is)

-- ---- of a leaf

high_fenced : (low : List ℕ) (right : ℕ) → Always (high_key low right) (λ high. below_bound low high ≡ true)
unfolding Always Gives SomeIs
high_fenced low right bytes =
    let some = where_always (λ (k : List ℕ). bytes_below low k ≡ true) _ (key_above low) (ruled_always (bytes_below low) (text w8 1 64)) bytes in
    by ((high_key low right).reading bytes) some
  where
    by : (r : Reading (Option (List ℕ))) → Gives (SomeIs (λ (k : List ℕ). bytes_below low k ≡ true)) r → Gives (λ (high : Option (List ℕ)). below_bound low high ≡ true) r
    by (Ok (Some k, rest)) h = h
    by (Ok (None, rest)) h = refl
    by (Err left) h = tt

head_fenced : Always leaf_head (λ h. below_bound h.low h.high ≡ true)
unfolding leaf_head
head_fenced =
    let Fine : Heads → Type 0 = λ x. below_bound x.1.1.0 x.1.1.1.1 ≡ true in
    seen_always (λ (h : Head). below_bound h.low h.high ≡ true) head_of head_parts _
    (behind_always Fine 76 _
    (then_always Fine (number w8 1 2) _ (λ format. then_always (λ x. below_bound x.1.0 x.1.1.1 ≡ true) (number w64 1 greatest) _ (λ version. then_always (λ x. below_bound x.0 x.1.1 ≡ true) (text w8 0 64) _ (λ low. then_always (λ x. below_bound low x.1 ≡ true) (number w64 0 greatest) _ (λ right. high_fenced low right))))))

leaf_fenced : Always leaf IsFenced
unfolding leaf
leaf_fenced =
    seen_always IsFenced leaf_of leaf_parts _ (first_always (λ (h : Head). below_bound h.low h.high ≡ true) leaf_head (λ head. list_of true done_item None then λ done. list_of true (record_item head.format head.low head.high) None) head_fenced)

whole_fenced : (bytes : List ℕ) (l : Leaf) → leaf_in bytes ≡ Some l → IsFenced l
unfolding leaf_in Always Gives
whole_fenced bytes l e = on (leaf.reading bytes) (leaf_fenced bytes) e where
  ended : (x : Leaf × List ℕ) (b : Bool) → IsFenced x.0 → result_ok (if b then Ok x.0 else Err (length x.1)) ≡ Some l → IsFenced l
  ended x true h is = let same : x.0 ≡ l = cc (is) in subst IsFenced same h
  ended x false h is = absurd (cc (is))

  on : (r : Reading Leaf) → Gives IsFenced r → result_ok (r >>= λ x. if length x.1 == 0 then Ok x.0 else Err (length x.1)) ≡ Some l → IsFenced l
  on (Ok x) h is = ended x (length x.1 == 0) h is
  on (Err left) h is = absurd (cc (is))

pub read_is_fenced : (got : Option (List ℕ)) (l : Leaf) → as_leaf (Some got) ≡ Some l → IsFenced l
read_is_fenced None l e = subst IsFenced (the_leaf e) refl where
  the_leaf : as_leaf (Some None) ≡ Some l → empty_leaf ≡ l
  the_leaf h = cc (h)
read_is_fenced (Some bytes) l e = whole_fenced bytes l e
