-- Readers of words: what is read is spelled so, and each spelling is read.
use Rattle.std.proofs.Common.{◌≡◌, ℕ, ◌^◌, ◌<◌, List, [], ◌∷◌, ◌++◌, Option, Some, None, refl, ap, ◌∙◌, append_assoc, append-nil, map}
use Rattle.std.specs.Fmt.{decimal}
use Rattle.std.specs.Prelude.{IfSome}
use Rattle.std.proofs.lemmas.Option.{same_Some}
use Rattle.words.specs.Word.{AreBytes, AreNumbers, hexadecimal, number_of, bytes_of}
use Rattle.words.specs.Line.{◌>>=◌, with_left, number_at, bytes_at, end_at, last_words, last_of, numbers_of, one_of, two_of, three_of, place_of, record_of, sum_of}
use Rattle.words.proofs.Numerals.{number_of-takes, number_of-decimal}
use Rattle.words.proofs.Hexadecimal.{bytes_of-takes, bytes_of-hexadecimal}

-- the value of a step that did not fail
pub bind_some : {A B : Type 0} (o : Option A) (f : A → Option B) (y : B) → (o >>= f) ≡ Some y → (x : A) × (o ≡ Some x) × (f x ≡ Some y)
bind_some (Some x) f y e = (x, refl, e)
bind_some None f y e = absurd cc

-- ---- a number, bytes, the end

left_takes : {A : Type 0} (o : Option A) (left : List (List ℕ)) (x : A × List (List ℕ)) → with_left left o ≡ Some x → (o ≡ Some x.0) × (left ≡ x.1)
left_takes {A = A} (Some v) left x e = let same : (v, left) ≡ x = same_Some (v, left) x e in (ap (λ (p : A × List (List ℕ)). Some p.0) same, ap (λ (p : A × List (List ℕ)). p.1) same)
left_takes None left x e = absurd cc

pub number_at-takes : (words : List (List ℕ)) (x : ℕ × List (List ℕ)) → number_at words ≡ Some x → (x.0 < 2 ^ 64) × (words ≡ decimal x.0 ∷ x.1)
unfolding number_at
number_at-takes [] x e = absurd cc
number_at-takes (word ∷ left) x e =
    let parts = left_takes (number_of word) left x e in
    let number = number_of-takes word x.0 parts.0 in
    (number.0, rw (number.1, parts.1) refl)

pub number_at-again : (n : ℕ) (left : List (List ℕ)) → n < 2 ^ 64 → number_at (decimal n ∷ left) ≡ Some (n, left)
unfolding number_at
number_at-again n left small = rw (number_of-decimal n small) refl

pub bytes_at-takes : (words : List (List ℕ)) (x : List ℕ × List (List ℕ)) → bytes_at words ≡ Some x → AreBytes x.0 × (words ≡ hexadecimal x.0 ∷ x.1)
unfolding bytes_at
bytes_at-takes [] x e = absurd cc
bytes_at-takes (word ∷ left) x e =
    let parts = left_takes (bytes_of word) left x e in
    let bytes = bytes_of-takes word x.0 parts.0 in
    (bytes.0, rw (bytes.1, parts.1) refl)

pub bytes_at-again : (bytes : List ℕ) (left : List (List ℕ)) → AreBytes bytes → bytes_at (hexadecimal bytes ∷ left) ≡ Some (bytes, left)
unfolding bytes_at
bytes_at-again bytes left h = rw (bytes_of-hexadecimal bytes h) refl

pub end_at-takes : (words : List (List ℕ)) (x : Unit {0}) → end_at words ≡ Some x → words ≡ []
unfolding end_at
end_at-takes [] x e = refl
end_at-takes (word ∷ left) x e = absurd cc

pub end_at-again : end_at [] ≡ Some tt
unfolding end_at
end_at-again = refl

-- ---- all words as numbers

-- the numbers before, and those of the rest
abbrev pub with_front : List ℕ → Option (List ℕ) → Option (List ℕ)
with_front front None = None
with_front front (Some numbers) = Some (front ++ numbers)

pub numbers_of-none : (front : List ℕ) (word : List ℕ) (words : List (List ℕ)) → number_of word ≡ None → with_front front (numbers_of (word ∷ words)) ≡ None
unfolding numbers_of
numbers_of-none front word words e = rw e refl

pub numbers_of-more : (front : List ℕ) (word : List ℕ) (words : List (List ℕ)) (n : ℕ) → number_of word ≡ Some n → with_front (front ++ n ∷ []) (numbers_of words) ≡ with_front front (numbers_of (word ∷ words))
unfolding numbers_of
numbers_of-more front word words n e = rw e (on (numbers_of words))
  where
    on : (o : Option (List ℕ)) → with_front (front ++ n ∷ []) o ≡ with_front front (o >>= (λ ns. Some (n ∷ ns)))
    on None = refl
    on (Some ns) = ap (λ (l : List ℕ). Some l) (append_assoc front (n ∷ []) ns)

pub numbers_of-end : (front : List ℕ) → with_front front (numbers_of []) ≡ Some front
unfolding numbers_of
numbers_of-end front = simp append-nil

-- ---- shapes of lines

-- what stands behind a word
behind : (word : List ℕ) {a b : List (List ℕ)} → a ≡ b → word ∷ a ≡ word ∷ b
behind word e = ap (λ (words : List (List ℕ)). word ∷ words) e

pub one_of-takes : (words : List (List ℕ)) (n : ℕ) → one_of words ≡ Some n → (n < 2 ^ 64) × (words ≡ decimal n ∷ [])
unfolding one_of
one_of-takes words n e =
    let a = bind_some (number_at words) _ n e in
    let z = bind_some (end_at a.0.1) _ n a.2 in
    let number = number_at-takes words a.0 a.1 in
    let nothing = end_at-takes a.0.1 z.0 z.1 in
    let same : a.0.0 ≡ n = same_Some a.0.0 n z.2 in
    rw (← same) (number.0, rw (← nothing) number.1)

pub one_of-again : (n : ℕ) → n < 2 ^ 64 → one_of (decimal n ∷ []) ≡ Some n
unfolding one_of
one_of-again n small = rw (number_at-again n [] small, end_at-again) refl

pub two_of-takes : (words : List (List ℕ)) (x : ℕ × ℕ) → two_of words ≡ Some x → (x.0 < 2 ^ 64) × (x.1 < 2 ^ 64) × (words ≡ decimal x.0 ∷ decimal x.1 ∷ [])
unfolding two_of
two_of-takes words x e =
    let a = bind_some (number_at words) _ x e in
    let b = bind_some (number_at a.0.1) _ x a.2 in
    let z = bind_some (end_at b.0.1) _ x b.2 in
    let first = number_at-takes words a.0 a.1 in
    let second = number_at-takes a.0.1 b.0 b.1 in
    let nothing = end_at-takes b.0.1 z.0 z.1 in
    let same : (a.0.0, b.0.0) ≡ x = same_Some (a.0.0, b.0.0) x z.2 in
    rw (← same) (first.0, second.0, first.1 ∙ behind _ (second.1 ∙ behind _ nothing))

pub two_of-again : (m n : ℕ) → m < 2 ^ 64 → n < 2 ^ 64 → two_of (decimal m ∷ decimal n ∷ []) ≡ Some (m, n)
unfolding two_of
two_of-again m n p q = rw (number_at-again m (decimal n ∷ []) p, number_at-again n [] q, end_at-again) refl

pub three_of-takes : (words : List (List ℕ)) (x : ℕ × ℕ × ℕ) → three_of words ≡ Some x → (x.0 < 2 ^ 64) × (x.1 < 2 ^ 64) × (x.2 < 2 ^ 64) × (words ≡ decimal x.0 ∷ decimal x.1 ∷ decimal x.2 ∷ [])
unfolding three_of
three_of-takes words x e =
    let a = bind_some (number_at words) _ x e in
    let b = bind_some (number_at a.0.1) _ x a.2 in
    let d = bind_some (number_at b.0.1) _ x b.2 in
    let z = bind_some (end_at d.0.1) _ x d.2 in
    let first = number_at-takes words a.0 a.1 in
    let second = number_at-takes a.0.1 b.0 b.1 in
    let third = number_at-takes b.0.1 d.0 d.1 in
    let nothing = end_at-takes d.0.1 z.0 z.1 in
    let same : (a.0.0, b.0.0, d.0.0) ≡ x = same_Some (a.0.0, b.0.0, d.0.0) x z.2 in
    rw (← same) (first.0, second.0, third.0, first.1 ∙ behind _ (second.1 ∙ behind _ (third.1 ∙ behind _ nothing)))

pub three_of-again : (l m n : ℕ) → l < 2 ^ 64 → m < 2 ^ 64 → n < 2 ^ 64 → three_of (decimal l ∷ decimal m ∷ decimal n ∷ []) ≡ Some (l, m, n)
unfolding three_of
three_of-again l m n o p q = rw (number_at-again l (decimal m ∷ decimal n ∷ []) o, number_at-again m (decimal n ∷ []) p, number_at-again n [] q, end_at-again) refl

pub place_of-takes : (words : List (List ℕ)) (x : ℕ × List ℕ) → place_of words ≡ Some x → (x.0 < 2 ^ 64) × AreBytes x.1 × (words ≡ decimal x.0 ∷ hexadecimal x.1 ∷ [])
unfolding place_of
place_of-takes words x e =
    let a = bind_some (number_at words) _ x e in
    let b = bind_some (bytes_at a.0.1) _ x a.2 in
    let z = bind_some (end_at b.0.1) _ x b.2 in
    let first = number_at-takes words a.0 a.1 in
    let second = bytes_at-takes a.0.1 b.0 b.1 in
    let nothing = end_at-takes b.0.1 z.0 z.1 in
    let same : (a.0.0, b.0.0) ≡ x = same_Some (a.0.0, b.0.0) x z.2 in
    rw (← same) (first.0, second.0, first.1 ∙ behind _ (second.1 ∙ behind _ nothing))

pub place_of-again : (n : ℕ) (bytes : List ℕ) → n < 2 ^ 64 → AreBytes bytes → place_of (decimal n ∷ hexadecimal bytes ∷ []) ≡ Some (n, bytes)
unfolding place_of
place_of-again n bytes p q = rw (number_at-again n (hexadecimal bytes ∷ []) p, bytes_at-again bytes [] q, end_at-again) refl

pub sum_of-takes : (words : List (List ℕ)) (x : ℕ × List ℕ × ℕ) → sum_of words ≡ Some x → (x.0 < 2 ^ 64) × AreBytes x.1 × (x.2 < 2 ^ 64) × (words ≡ decimal x.0 ∷ hexadecimal x.1 ∷ decimal x.2 ∷ [])
unfolding sum_of
sum_of-takes words x e =
    let a = bind_some (number_at words) _ x e in
    let b = bind_some (bytes_at a.0.1) _ x a.2 in
    let d = bind_some (number_at b.0.1) _ x b.2 in
    let z = bind_some (end_at d.0.1) _ x d.2 in
    let first = number_at-takes words a.0 a.1 in
    let second = bytes_at-takes a.0.1 b.0 b.1 in
    let third = number_at-takes b.0.1 d.0 d.1 in
    let nothing = end_at-takes d.0.1 z.0 z.1 in
    let same : (a.0.0, b.0.0, d.0.0) ≡ x = same_Some (a.0.0, b.0.0, d.0.0) x z.2 in
    rw (← same) (first.0, second.0, third.0, first.1 ∙ behind _ (second.1 ∙ behind _ (third.1 ∙ behind _ nothing)))

pub sum_of-again : (n : ℕ) (bytes : List ℕ) (amount : ℕ) → n < 2 ^ 64 → AreBytes bytes → amount < 2 ^ 64 → sum_of (decimal n ∷ hexadecimal bytes ∷ decimal amount ∷ []) ≡ Some (n, bytes, amount)
unfolding sum_of
sum_of-again n bytes amount o p q = rw (number_at-again n (hexadecimal bytes ∷ decimal amount ∷ []) o, bytes_at-again bytes (decimal amount ∷ []) p, number_at-again amount [] q, end_at-again) refl

pub record_of-takes : (words : List (List ℕ)) (x : ℕ × List ℕ × List ℕ) → record_of words ≡ Some x → (x.0 < 2 ^ 64) × AreBytes x.1 × AreBytes x.2 × (words ≡ decimal x.0 ∷ hexadecimal x.1 ∷ hexadecimal x.2 ∷ [])
unfolding record_of
record_of-takes words x e =
    let a = bind_some (number_at words) _ x e in
    let b = bind_some (bytes_at a.0.1) _ x a.2 in
    let d = bind_some (bytes_at b.0.1) _ x b.2 in
    let z = bind_some (end_at d.0.1) _ x d.2 in
    let first = number_at-takes words a.0 a.1 in
    let second = bytes_at-takes a.0.1 b.0 b.1 in
    let third = bytes_at-takes b.0.1 d.0 d.1 in
    let nothing = end_at-takes d.0.1 z.0 z.1 in
    let same : (a.0.0, b.0.0, d.0.0) ≡ x = same_Some (a.0.0, b.0.0, d.0.0) x z.2 in
    rw (← same) (first.0, second.0, third.0, first.1 ∙ behind _ (second.1 ∙ behind _ (third.1 ∙ behind _ nothing)))

pub record_of-again : (n : ℕ) (first second : List ℕ) → n < 2 ^ 64 → AreBytes first → AreBytes second → record_of (decimal n ∷ hexadecimal first ∷ hexadecimal second ∷ []) ≡ Some (n, first, second)
unfolding record_of
record_of-again n first second o p q = rw (number_at-again n (hexadecimal first ∷ hexadecimal second ∷ []) o, bytes_at-again first (hexadecimal second ∷ []) p, bytes_at-again second [] q, end_at-again) refl

-- a last word, or none
pub last_of-takes : (words : List (List ℕ)) (last : Option (List ℕ)) → last_of words ≡ Some last → IfSome last AreBytes × (words ≡ last_words last)
unfolding last_of
last_of-takes [] last e = let same : None ≡ last = same_Some None last e in rw (← same) (tt, refl)
last_of-takes (word ∷ words) last e =
    let a = bind_some (bytes_of word) _ last e in
    let z = bind_some (end_at words) _ last a.2 in
    let bytes = bytes_of-takes word a.0 a.1 in
    let nothing = end_at-takes words z.0 z.1 in
    let same : Some a.0 ≡ last = same_Some (Some a.0) last z.2 in
    rw (← same) (bytes.0, ap (λ (w : List ℕ). w ∷ words) bytes.1 ∙ behind _ nothing)

pub last_of-again : (last : Option (List ℕ)) → IfSome last AreBytes → last_of (last_words last) ≡ Some last
unfolding last_of
last_of-again None h = refl
last_of-again (Some bytes) h = rw (bytes_of-hexadecimal bytes h, end_at-again) refl

-- the words of numbers
pub numbers_of-takes : (words : List (List ℕ)) (numbers : List ℕ) → numbers_of words ≡ Some numbers → AreNumbers numbers × (words ≡ map decimal numbers)
unfolding numbers_of
numbers_of-takes [] numbers e = let same : [] ≡ numbers = same_Some [] numbers e in rw (← same) (tt, refl)
numbers_of-takes (word ∷ words) numbers e =
    let a = bind_some (number_of word) _ numbers e in
    let b = bind_some (numbers_of words) _ numbers a.2 in
    let first = number_of-takes word a.0 a.1 in
    let rest = numbers_of-takes words b.0 b.1 in
    let same : a.0 ∷ b.0 ≡ numbers = same_Some (a.0 ∷ b.0) numbers b.2 in
    rw (← same) ((first.0, rest.0), ap (λ (w : List ℕ). w ∷ words) first.1 ∙ behind _ rest.1)

pub numbers_of-again : (numbers : List ℕ) → AreNumbers numbers → numbers_of (map decimal numbers) ≡ Some numbers
unfolding numbers_of
numbers_of-again [] h = refl
numbers_of-again (n ∷ numbers) h = rw (number_of-decimal n h.0, numbers_of-again numbers h.1) refl
