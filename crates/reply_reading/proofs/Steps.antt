-- Steps of readers on words.
use Rattle.std.proofs.Common.{◌≡◌, ℕ, Bool, true, false, cond, List, [], ◌∷◌, Option, Some, None, Result, Ok, Err, refl, sym, ap, ◌∙◌, ◌⊎◌, inl, inr}
use Rattle.std.specs.Prelude.{option_map}
use Rattle.std.specs.List.{find}
use Rattle.std.specs.Str.{bytes_eq}
use Rattle.std.proofs.lemmas.Option.{same_Some}
use Rattle.std.proofs.lemmas.Slice.Eq.{bytes_eq-Decides}
use Rattle.std.specs.Result.{IsErrAnd}
use Rattle.words.specs.declared.fault.TextFault.{TextFault}
use Rattle.words.specs.declared.fault.TextFault.TheVariants.{NotInGrammar, Memory}
use Rattle.words.specs.Word.{Reads}
use Rattle.words.specs.Line.{word_at, end_at}
use Rattle.words.proofs.Shapes.{bind_some, end_at-takes, end_at-again}
use Rattle.reply_reading.specs.Reading.{alone}

-- what stands behind a word
pub behind : (word : List ℕ) {a b : List (List ℕ)} → a ≡ b → word ∷ a ≡ word ∷ b
behind word e = ap (λ (words : List (List ℕ)). word ∷ words) e

-- what a word stands in front of
pub before : {a b : List ℕ} (words : List (List ℕ)) → a ≡ b → a ∷ words ≡ b ∷ words
before words e = ap (λ (word : List ℕ). word ∷ words) e

-- the value that a function was applied to
pub mapped : {A B : Type 0} (f : A → B) (o : Option A) (y : B) → option_map f o ≡ Some y → (x : A) × (o ≡ Some x) × (f x ≡ y)
mapped f (Some x) y e = (x, refl, same_Some (f x) y e)
mapped f None y e = absurd cc

-- which way a choice went
pub chosen : {A : Type 0} (b : Bool) (x y z : A) → cond b x y ≡ z → ((b ≡ true) × (x ≡ z)) ⊎ ((b ≡ false) × (y ≡ z))
chosen true x y z e = inl (refl, e)
chosen false x y z e = inr (refl, e)

pub nothing : {A : Type 0} (x : A) → None ≡ Some x → ⊥
nothing x e = absurd cc

-- a spelled word
pub spelled : (word text : List ℕ) → bytes_eq word text ≡ true → word ≡ text
spelled word text e = (bytes_eq-Decides word text).0 e

-- what is found by its spelling
pub find_spelled : {A : Type 0} (text : A → List ℕ) (word : List ℕ) (x : A) (among : List A) → find (λ k. bytes_eq (text k) word) among ≡ Some x → word ≡ text x
find_spelled text word x [] e = absurd cc
find_spelled text word x (k ∷ among) e =
    elim (chosen (bytes_eq (text k) word) (Some k) (find (λ k. bytes_eq (text k) word) among) (Some x) e) [
      | inl here ↦ sym ((bytes_eq-Decides (text k) word).0 here.0) ∙ ap text (same_Some k x here.1)
      | inr there ↦ find_spelled text word x among there.1
    ]

pub word_at-takes : (words : List (List ℕ)) (x : List ℕ × List (List ℕ)) → word_at words ≡ Some x → words ≡ x.0 ∷ x.1
unfolding word_at
word_at-takes [] x e = absurd cc
word_at-takes (word ∷ words) x e = let same : (word, words) ≡ x = same_Some (word, words) x e in ap (λ (p : List ℕ × List (List ℕ)). p.0 ∷ p.1) same

pub word_at-none : (words : List (List ℕ)) → word_at words ≡ None → words ≡ []
unfolding word_at
word_at-none [] e = refl
word_at-none (word ∷ words) e = absurd cc

-- what a reader that refused shows
pub refused : {A : Type 0} (e : TextFault) (o : Option A) → Reads (Err e) o → e ≡ NotInGrammar → o ≡ None
refused NotInGrammar o reads bad = reads
refused Memory o reads bad = absurd cc

-- an error that is passed on
pub passed_on : {A : Type 0} (result : Result A TextFault) (e : TextFault) (o : Option A) → IsErrAnd result (λ x. x ≡ e) → (e ≡ NotInGrammar → o ≡ None) → Reads result o
passed_on (Ok x) e o is none = absurd is
passed_on (Err NotInGrammar) e o is none = none (sym is)
passed_on (Err Memory) e o is none = tt

pub alone-takes : {A : Type 0} (x y : A) (words : List (List ℕ)) → alone x words ≡ Some y → (x ≡ y) × (words ≡ [])
unfolding alone
alone-takes x y words e =
    let z = bind_some (end_at words) _ y e in
    (same_Some x y z.2, end_at-takes words z.0 z.1)

pub alone-again : {A : Type 0} (x : A) → alone x [] ≡ Some x
unfolding alone
alone-again x = rw end_at-again refl
