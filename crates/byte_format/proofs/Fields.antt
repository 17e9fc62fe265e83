-- Numbers and texts are exact.
use Rattle.std.specs.Prelude.{nat_le}
use Rattle.std.proofs.Common.{◌≡◌, ℕ, ◌^◌, ◌<◌, ◌≤◌, true, List, [], ◌∷◌, ◌++◌, length, take, drop, Ok, Err, refl, sym, ap, subst, ◌∙◌, append_assoc, arith, inl, inr}
use Rattle.std.specs.Int.{Width, w8, w16, w64, byte_len, from_be_bytes, to_be_bytes}
use Rattle.std.proofs.lemmas.Bool.{leb-true, le-leb, and_parts}
use Rattle.std.proofs.lemmas.List.{take_at, drop_at, take-append-drop, length-append, length-take}
use Rattle.std.proofs.lemmas.Nat.{be_bytes_2, be_bytes_8, from_be_bytes-to_be_bytes_2, from_be_bytes-to_be_bytes_8}
use Rattle.byte_format.specs.Format.{guarded, in_range, unsigned_at, number_at, number, text_at, text}
use Rattle.byte_format.specs.Whole.{IsBytes, IsExact}
use Rattle.byte_format.proofs.Steps.{bind_ok, bind_err, guarded_ok, guarded_err, IsBytes-take}

-- what the conversion of a width does, both ways
pub record IsWide (w : Width) (limit : ℕ) : Type 0 where
  pub len : (n : ℕ) → length (to_be_bytes w n) ≡ byte_len w
  pub back : (bytes : List ℕ) → length bytes ≡ byte_len w → IsBytes bytes → to_be_bytes w (from_be_bytes w bytes) ≡ bytes
  pub again : (n : ℕ) → n < limit → from_be_bytes w (to_be_bytes w n) ≡ n

byte_back : (bytes : List ℕ) → length bytes ≡ 1 → IsBytes bytes → to_be_bytes w8 (from_be_bytes w8 bytes) ≡ bytes
byte_back [] len fits = absurd (omega arith)
byte_back (b ∷ []) len fits = grind (arith, fits 0)
byte_back (b ∷ c ∷ bs) len fits = absurd (omega arith)

pub wide8 : IsWide w8 (2 ^ 8)
wide8 = record { len = λ n. refl; back = byte_back; again = λ n lt. grind arith }

pub wide16 : IsWide w16 (2 ^ 16)
wide16 = record { len = λ n. refl; back = λ bytes len fits. be_bytes_2 bytes _ len fits refl; again = λ n lt. from_be_bytes-to_be_bytes_2 n lt }

pub wide64 : IsWide w64 (2 ^ 64)
wide64 = record { len = λ n. refl; back = λ bytes len fits. be_bytes_8 bytes _ len fits refl; again = λ n lt. from_be_bytes-to_be_bytes_8 n lt }

pub number_takes : (w : Width) (limit : ℕ) (wide : IsWide w limit) (least most : ℕ) (bytes : List ℕ) (x : ℕ × List ℕ) → IsBytes bytes → number_at w least most bytes ≡ Ok x → (in_range least most x.0 ≡ true) × (bytes ≡ to_be_bytes w x.0 ++ x.1)
unfolding number_at
number_takes w limit wide least most bytes x fits e =
    let n = byte_len w in
    let read : ℕ × List ℕ = (from_be_bytes w (take n bytes), drop n bytes) in
    let a = bind_ok (unsigned_at w bytes) (λ y. guarded (in_range least most y.0) bytes y) x e in
    let g = guarded_ok _ bytes read a.0 a.1 in
    let r = guarded_ok (in_range least most a.0.0) bytes a.0 x a.2 in
    let long : n ≤ length bytes = leb-true n (length bytes) g.0 in
    let front : to_be_bytes w read.0 ≡ take n bytes = wide.back (take n bytes) (omega (arith, length-take n bytes)) (IsBytes-take n bytes fits) in
    let parts : bytes ≡ to_be_bytes w read.0 ++ read.1 = sym (take-append-drop n bytes) ∙ ap (λ (t : List ℕ). t ++ drop n bytes) (sym front) in
    subst (λ (y : ℕ × List ℕ). (in_range least most y.0 ≡ true) × (bytes ≡ to_be_bytes w y.0 ++ y.1)) r.1 (r.0, subst (λ (y : ℕ × List ℕ). bytes ≡ to_be_bytes w y.0 ++ y.1) g.1 parts)

pub number_again : (w : Width) (limit : ℕ) (wide : IsWide w limit) (least most n : ℕ) (rest : List ℕ) → most < limit → in_range least most n ≡ true → number_at w least most (to_be_bytes w n ++ rest) ≡ Ok (n, rest)
unfolding number_at
number_again w limit wide least most n rest below ok =
    let len = wide.len n in
    let small : n < limit = omega (arith, leb-true n most (and_parts _ _ ok).1) in
    let back : from_be_bytes w (take (byte_len w) (to_be_bytes w n ++ rest)) ≡ n = ap (from_be_bytes w) (take_at (to_be_bytes w n) rest (byte_len w) len) ∙ wide.again n small in
    rw (le-leb (byte_len w) (length (to_be_bytes w n ++ rest)) (omega (arith, length-append (to_be_bytes w n) rest)), back, drop_at (to_be_bytes w n) rest (byte_len w) len, ok) refl

pub number_within : (w : Width) (least most : ℕ) (bytes : List ℕ) (left : ℕ) → number_at w least most bytes ≡ Err left → length bytes ≡ left
unfolding number_at
number_within w least most bytes left e =
    elim (bind_err (unsigned_at w bytes) (λ y. guarded (in_range least most y.0) bytes y) left e) [
      | inl a ↦ guarded_err _ bytes _ left a
      | inr b ↦ guarded_err _ bytes b.0 left b.2
    ]

pub number_exact : (w : Width) (limit : ℕ) (wide : IsWide w limit) (least most : ℕ) → most < limit → IsExact (number w least most)
number_exact w limit wide least most below = record {
  takes = number_takes w limit wide least most;
  again = λ v rest ok. number_again w limit wide least most v rest below ok;
  within = λ bytes left fits e. omega (arith, number_within w least most bytes left e);
}

pub text_takes : (w : Width) (limit : ℕ) (wide : IsWide w limit) (least most : ℕ) (bytes : List ℕ) (x : List ℕ × List ℕ) → IsBytes bytes → text_at w least most bytes ≡ Ok x → (in_range least most (length x.0) ≡ true) × (bytes ≡ to_be_bytes w (length x.0) ++ x.0 ++ x.1)
unfolding text_at
text_takes w limit wide least most bytes x fits e =
    let a = bind_ok (number_at w least most bytes) (λ n. guarded (nat_le n.0 (length n.1)) bytes (take n.0 n.1, drop n.0 n.1)) x e in
    let n = a.0 in
    let t = number_takes w limit wide least most bytes n fits a.1 in
    let g = guarded_ok (nat_le n.0 (length n.1)) bytes (take n.0 n.1, drop n.0 n.1) x a.2 in
    let long : n.0 ≤ length n.1 = leb-true n.0 (length n.1) g.0 in
    let len : length (take n.0 n.1) ≡ n.0 = omega (arith, length-take n.0 n.1) in
    let range : in_range least most (length (take n.0 n.1)) ≡ true = ap (in_range least most) len ∙ t.0 in
    let parts : bytes ≡ to_be_bytes w (length (take n.0 n.1)) ++ take n.0 n.1 ++ drop n.0 n.1 =
    t.1 ∙ ap (λ (r : List ℕ). to_be_bytes w n.0 ++ r) (sym (take-append-drop n.0 n.1)) ∙ sym (append_assoc (to_be_bytes w n.0) (take n.0 n.1) (drop n.0 n.1)) ∙ ap (λ (k : ℕ). to_be_bytes w k ++ take n.0 n.1 ++ drop n.0 n.1) (sym len) in
    subst (λ (y : List ℕ × List ℕ). (in_range least most (length y.0) ≡ true) × (bytes ≡ to_be_bytes w (length y.0) ++ y.0 ++ y.1)) g.1 (range, parts)

pub text_again : (w : Width) (limit : ℕ) (wide : IsWide w limit) (least most : ℕ) (t rest : List ℕ) → most < limit → in_range least most (length t) ≡ true → text_at w least most (to_be_bytes w (length t) ++ t ++ rest) ≡ Ok (t, rest)
unfolding text_at
text_again w limit wide least most t rest below ok =
    let read : number_at w least most (to_be_bytes w (length t) ++ t ++ rest) ≡ Ok (length t, t ++ rest) =
    ap (number_at w least most) (append_assoc (to_be_bytes w (length t)) t rest) ∙ number_again w limit wide least most (length t) (t ++ rest) below ok in
    rw (read, le-leb (length t) (length (t ++ rest)) (omega (arith, length-append t rest)), take_at t rest (length t) refl, drop_at t rest (length t) refl) refl

pub text_within : (w : Width) (least most : ℕ) (bytes : List ℕ) (left : ℕ) → text_at w least most bytes ≡ Err left → length bytes ≡ left
unfolding text_at
text_within w least most bytes left e =
    elim (bind_err (number_at w least most bytes) (λ n. guarded (nat_le n.0 (length n.1)) bytes (take n.0 n.1, drop n.0 n.1)) left e) [
      | inl a ↦ number_within w least most bytes left a
      | inr b ↦ guarded_err _ bytes (take b.0.0 b.0.1, drop b.0.0 b.0.1) left b.2
    ]

pub text_exact : (w : Width) (limit : ℕ) (wide : IsWide w limit) (least most : ℕ) → most < limit → IsExact (text w least most)
text_exact w limit wide least most below = record {
  takes = text_takes w limit wide least most;
  again = λ v rest ok. text_again w limit wide least most v rest below ok;
  within = λ bytes left fits e. omega (arith, text_within w least most bytes left e);
}

-- ---- at the widths in use

pub u8_exact : (least most : ℕ) → most < 2 ^ 8 → IsExact (number w8 least most)
u8_exact least most below = number_exact w8 (2 ^ 8) wide8 least most below

pub u64_exact : (least most : ℕ) → most < 2 ^ 64 → IsExact (number w64 least most)
u64_exact least most below = number_exact w64 (2 ^ 64) wide64 least most below

pub text8_exact : (least most : ℕ) → most < 2 ^ 8 → IsExact (text w8 least most)
text8_exact least most below = text_exact w8 (2 ^ 8) wide8 least most below

pub text16_exact : (least most : ℕ) → most < 2 ^ 16 → IsExact (text w16 least most)
text16_exact least most below = text_exact w16 (2 ^ 16) wide16 least most below
