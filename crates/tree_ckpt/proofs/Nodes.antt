-- What parts of an inner node that was read have: a high key is above the low key, and the entries are from the low key on.
use Rattle.std.proofs.Common.{◌≡◌, ◌≤◌, ℕ, zero, suc, Bool, true, false, cond, List, [], ◌∷◌, length, Option, Some, None, Ok, refl, sym, ap, subst, ◌∙◌, arith}
use Rattle.std.specs.Prelude.{◌==◌, ◌&&◌, not, nat_le, take, drop}
use Rattle.std.specs.Int.{Width, w8, w64}
use Rattle.std.specs.List.{AllByRecursion}
use Rattle.std.proofs.lemmas.Bool.{leb-true}
use Rattle.std.proofs.lemmas.List.{length-take-le}
use Rattle.byte_format.specs.Format.{Format, ◌>>=◌, greatest, guarded, in_range, number, number_at, unsigned_at, text, text_at, ruled, option_at, list_from, more_at}
use Rattle.byte_format.specs.HighKey.{key_above, high_key}
use Rattle.byte_format.specs.Order.{bytes_below, below_bound}
use Rattle.byte_format.proofs.OrderLemmas.{same_is}
use Rattle.node_codec.proofs.EntryLemmas.{below_chain}
use Rattle.node_codec.specs.Node.{Entry, entry, may_stand, follows}
use Rattle.tree_ckpt.proofs.Fences.{bound, of_ok, then_read}
use Rattle.tree_ckpt.proofs.Keys.{not_itself}

-- ---- parts of a format

pub guard_read : {A : Type 0} (b : Bool) (bytes : List ℕ) (x y : A × List ℕ) → guarded b bytes x ≡ Ok y → (b ≡ true) × (x ≡ y)
guard_read true bytes x y e = (refl, of_ok x y e)
guard_read false bytes x y e = absurd (cc (e))

pub and_both : (a b : Bool) → (a && b) ≡ true → (a ≡ true) × (b ≡ true)
and_both true b e = (refl, e)
and_both false b e = absurd (cc (e))

pub number_read : (w : Width) (least most : ℕ) (bytes : List ℕ) (y : ℕ × List ℕ) → number_at w least most bytes ≡ Ok y → (least ≤ y.0) × (y.0 ≤ most)
unfolding number_at
number_read w least most bytes y e =
    let b = bound (unsigned_at w bytes) (λ (n : ℕ × List ℕ). guarded (in_range least most n.0) bytes n) y e in
    let g = guard_read (in_range least most b.0.0) bytes b.0 y b.2 in
    let parts = and_both (nat_le least b.0.0) (nat_le b.0.0 most) g.0 in
    let same : b.0.0 ≡ y.0 = ap (λ (p : ℕ × List ℕ). p.0) g.1 in
    (subst (λ (n : ℕ). least ≤ n) same (leb-true least b.0.0 parts.0), subst (λ (n : ℕ). n ≤ most) same (leb-true b.0.0 most parts.1))

text_read : (w : Width) (least most : ℕ) (bytes : List ℕ) (y : List ℕ × List ℕ) → text_at w least most bytes ≡ Ok y → length y.0 ≤ most
unfolding text_at
text_read w least most bytes y e =
    let b = bound (number_at w least most bytes) (λ (n : ℕ × List ℕ). guarded (nat_le n.0 (length n.1)) bytes (take n.0 n.1, drop n.0 n.1)) y e in
    let n = number_read w least most bytes b.0 b.1 in
    let g = guard_read (nat_le b.0.0 (length b.0.1)) bytes (take b.0.0 b.0.1, drop b.0.0 b.0.1) y b.2 in
    let same : take b.0.0 b.0.1 ≡ y.0 = ap (λ (p : List ℕ × List ℕ). p.0) g.1 in
    let short : length (take b.0.0 b.0.1) ≡ b.0.0 = length-take-le b.0.0 b.0.1 (leb-true b.0.0 (length b.0.1) g.0) in
    subst (λ (t : List ℕ). length t ≤ most) same (omega (arith, short, n.1))

pub ruled_read : {A : Type 0} (rule : A → Bool) (f : Format A) (bytes : List ℕ) (y : A × List ℕ) → (ruled rule f).reading bytes ≡ Ok y → (f.reading bytes ≡ Ok y) × (rule y.0 ≡ true)
ruled_read {A} rule f bytes y e =
    let b = bound (f.reading bytes) (λ (x : A × List ℕ). guarded (rule x.0) bytes x) y e in
    let g = guard_read (rule b.0.0) bytes b.0 y b.2 in
    (b.1 ∙ ap (λ (x : A × List ℕ). Ok x) g.1, subst (λ (x : A × List ℕ). rule x.0 ≡ true) g.1 g.0)

-- ---- the high key

-- a high key is above the low key, and short
abbrev pub IsAbove : List ℕ → Option (List ℕ) → Type 0
IsAbove low None = Unit {0}
IsAbove low (Some high) = (bytes_below low high ≡ true) × (length high ≤ 64)

pub above_read : (low : List ℕ) (right : ℕ) (bytes : List ℕ) (y : Option (List ℕ) × List ℕ) → (high_key low right).reading bytes ≡ Ok y → IsAbove low y.0
above_read low right bytes y e = on (not (right == 0)) e where
  on : (b : Bool) → option_at b (key_above low) bytes ≡ Ok y → IsAbove low y.0
  on true f =
      let b = bound ((key_above low).reading bytes) (λ (x : List ℕ × List ℕ). Ok (Some x.0, x.1)) y f in
      let r = ruled_read (bytes_below low) (text w8 1 64) bytes b.0 b.1 in
      let is : IsAbove low (Some b.0.0) = (r.1, text_read w8 1 64 bytes b.0 r.0) in
      subst (λ (x : Option (List ℕ) × List ℕ). IsAbove low x.0) (of_ok (Some b.0.0, b.0.1) y b.2) is
  on false f = subst (λ (x : Option (List ℕ) × List ℕ). IsAbove low x.0) (of_ok (None, bytes) y f) tt

-- ---- the entries

-- none has a low key below this one
abbrev pub AreFrom : List ℕ → List Entry → Type 0
AreFrom low es = AllByRecursion (λ e. bytes_below e.0 low ≡ false) es

abbrev BehindFrom : List ℕ → Option Entry → Type 0
BehindFrom low None = Unit {0}
BehindFrom low (Some e) = bytes_below e.0 low ≡ false

pub not_under : (a b c : List ℕ) → bytes_below a b ≡ true → bytes_below a c ≡ false → bytes_below b c ≡ false
not_under a b c h k = on (bytes_below b c) refl where
  on : (x : Bool) → bytes_below b c ≡ x → bytes_below b c ≡ false
  on false e = e
  on true e = absurd (let chain : bytes_below a c ≡ true = below_chain a b c h e in cc)

entry_from : (low : List ℕ) (high : Option (List ℕ)) (last : ℕ) (before : Option Entry) (bytes : List ℕ) (y : Entry × List ℕ) → (entry low high last before).reading bytes ≡ Ok y
    → BehindFrom low before → bytes_below y.0.0 low ≡ false
entry_from low high last before bytes y e behind_it =
    let t = then_read (ruled (may_stand low high before) (text w8 0 64)) (λ (k : List ℕ). ruled (λ (page : ℕ). nat_le page last) (number w64 1 greatest)) bytes y e in
    let r = ruled_read (may_stand low high before) (text w8 0 64) bytes (y.0.0, t.0) t.1 in
    stands (follows low before y.0.0) refl r.1 where
      placed : (b : Option Entry) → BehindFrom low b → follows low b y.0.0 ≡ true → bytes_below y.0.0 low ≡ false
      placed None h f = subst (λ (k : List ℕ). bytes_below k low ≡ false) (sym (same_is y.0.0 low f)) (not_itself low)
      placed (Some b) h f = not_under b.0 y.0.0 low f h

      stands : (b : Bool) → follows low before y.0.0 ≡ b → cond b (below_bound y.0.0 high) false ≡ true → bytes_below y.0.0 low ≡ false
      stands true f g = placed before behind_it f
      stands false f g = absurd (cc (g))

pub list_from_low : (room : ℕ) (may_end : Bool) (low : List ℕ) (high : Option (List ℕ)) (last : ℕ) (before : Option Entry) (bytes : List ℕ) (y : List Entry × List ℕ)
    → list_from room may_end (entry low high last) before bytes ≡ Ok y → BehindFrom low before → AreFrom low y.0
list_from_low zero may_end low high last before bytes y e h = absurd (cc (e))
list_from_low (suc room) may_end low high last before bytes y e h =
    let items : Option Entry → Format Entry = entry low high last in
    let m = bound (more_at may_end bytes) (λ (more : Bool × List ℕ). cond more.0
    ((items before).reading more.1 >>= λ (x : Entry × List ℕ). list_from room true items (Some x.0) x.1 >>= λ (xs : List Entry × List ℕ). Ok (x.0 ∷ xs.0, xs.1))
    (Ok ([], more.1))) y e in
    on m.0.0 m.0.1 m.2 (λ b rest z f k. list_from_low room true low high last b rest z f k) where
      on : (more : Bool) (then_on : List ℕ)
          → cond more
          ((entry low high last before).reading then_on >>= λ (x : Entry × List ℕ). list_from room true (entry low high last) (Some x.0) x.1 >>= λ (xs : List Entry × List ℕ). Ok (x.0 ∷ xs.0, xs.1))
          (Ok ([], then_on)) ≡ Ok y
          → ((b : Option Entry) (rest : List ℕ) (z : List Entry × List ℕ) → list_from room true (entry low high last) b rest ≡ Ok z → BehindFrom low b → AreFrom low z.0)
          → AreFrom low y.0
      on false then_on f rest = subst (λ (x : List Entry × List ℕ). AreFrom low x.0) (of_ok ([], then_on) y f) tt
      on true then_on f rest =
          let items : Option Entry → Format Entry = entry low high last in
          let first = bound ((items before).reading then_on) (λ (x : Entry × List ℕ). list_from room true items (Some x.0) x.1 >>= λ (xs : List Entry × List ℕ). Ok (x.0 ∷ xs.0, xs.1)) y f in
          let second = bound (list_from room true items (Some first.0.0) first.0.1) (λ (xs : List Entry × List ℕ). Ok (first.0.0 ∷ xs.0, xs.1)) y first.2 in
          let stands : bytes_below first.0.0.0 low ≡ false = entry_from low high last before then_on first.0 first.1 h in
          let all : AreFrom low (first.0.0 ∷ second.0.0) = (stands, rest (Some first.0.0) first.0.1 second.0 second.1 stands) in
          subst (λ (x : List Entry × List ℕ). AreFrom low x.0) (of_ok (first.0.0 ∷ second.0.0, second.0.1) y second.2) all
