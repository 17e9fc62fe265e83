-- Lines on words: what is read is spelled so, and each spelling is read.
use Rattle.std.proofs.Common.{◌≡◌, ℕ, ◌^◌, ◌<◌, Bool, true, false, cond, List, [], ◌∷◌, ◌++◌, Option, Some, None, refl, sym, ap, ◌∙◌, ◌⊎◌, inl, inr}
use Rattle.std.specs.Prelude.{codes, IfSome}
use Rattle.std.specs.Fmt.{decimal}
use Rattle.std.specs.Char.{is_ascii_digit}
use Rattle.std.specs.Str.{bytes_eq}
use Rattle.std.proofs.lemmas.Option.{same_Some}
use Rattle.std.proofs.lemmas.Slice.Eq.{bytes_eq-Decides}
use Rattle.words.specs.Word.{hexadecimal, AreBytes, bytes_of}
use Rattle.words.specs.Line.{parts_of, text_of, word_at, bytes_at, last_words, last_of, two_of}
use Rattle.words.proofs.Shapes.{bind_some, bytes_at-takes, bytes_at-again, last_of-takes, last_of-again, two_of-takes, two_of-again}
use Rattle.words.proofs.Splitting.{all_lack, lacks, lacks-decimal, lacks-hexadecimal, lacks-text_of, parts_of-text_of, text_of-parts_of, is_hex_byte}
use Rattle.report_types.specs.declared.stored.Stored.{Stored}
use Rattle.dump_text.specs.BadLine.{line_feeds}
use Rattle.dump_text.specs.Text.{tree_line, record_line, HasBytes}
use Rattle.dump_text.specs.Words.{tree_of_words, stored_of_words}
use Rattle.dump_text.proofs.Feeds.{feedless}

-- the words of a tree's line, and of a record's
abbrev pub tree_words : ℕ → ℕ → List (List ℕ)
tree_words tree count = codes "tree" ∷ decimal tree ∷ decimal count ∷ []

abbrev pub stored_words : Stored → List (List ℕ)
stored_words s = hexadecimal s.key ∷ hexadecimal s.payload ∷ last_words s.attr

-- which way a choice went
pub chosen : {A : Type 0} (b : Bool) (x y z : A) → cond b x y ≡ z → ((b ≡ true) × (x ≡ z)) ⊎ ((b ≡ false) × (y ≡ z))
chosen true x y z e = inl (refl, e)
chosen false x y z e = inr (refl, e)

-- what stands behind a word
behind : (word : List ℕ) {a b : List (List ℕ)} → a ≡ b → word ∷ a ≡ word ∷ b
behind word e = ap (λ (words : List (List ℕ)). word ∷ words) e

-- ---- words

pub tree_takes : (words : List (List ℕ)) (x : ℕ × ℕ) → tree_of_words words ≡ Some x → (x.0 < 2 ^ 64) × (x.1 < 2 ^ 64) × (words ≡ tree_words x.0 x.1)
unfolding tree_of_words word_at
tree_takes [] x e = absurd cc
tree_takes (word ∷ words) x e =
    elim (chosen (bytes_eq word (codes "tree")) (two_of words) None (Some x) e) [
      | inl here ↦
          let numbers = two_of-takes words x here.1 in
          let first : word ≡ codes "tree" = (bytes_eq-Decides word (codes "tree")).0 here.0 in
          (numbers.0, numbers.1, ap (λ (w : List ℕ). w ∷ words) first ∙ behind _ numbers.2)
      | inr there ↦ absurd (nothing x there.1)
    ]
  where
    nothing : (x : ℕ × ℕ) → None ≡ Some x → ⊥
    nothing x e = absurd cc

pub tree_again : (tree count : ℕ) → tree < 2 ^ 64 → count < 2 ^ 64 → tree_of_words (tree_words tree count) ≡ Some (tree, count)
unfolding tree_of_words word_at
tree_again tree count t n = two_of-again tree count t n

pub stored_takes : (words : List (List ℕ)) (s : Stored) → stored_of_words words ≡ Some s → HasBytes s × (words ≡ stored_words s)
unfolding stored_of_words
stored_takes words s e =
    let k = bind_some (bytes_at words) _ s e in
    let p = bind_some (bytes_at k.0.1) _ s k.2 in
    let a = bind_some (last_of p.0.1) _ s p.2 in
    let key = bytes_at-takes words k.0 k.1 in
    let payload = bytes_at-takes k.0.1 p.0 p.1 in
    let attr = last_of-takes p.0.1 a.0 a.1 in
    let same = same_Some _ s a.2 in
    rw (← same) (record { key = key.0; payload = payload.0; attr = attr.0 }, key.1 ∙ behind _ (payload.1 ∙ behind _ attr.1))

pub stored_again : (s : Stored) → HasBytes s → stored_of_words (stored_words s) ≡ Some s
unfolding stored_of_words
stored_again s h = rw (bytes_at-again s.key (hexadecimal s.payload ∷ last_words s.attr) h.key, bytes_at-again s.payload (last_words s.attr) h.payload, last_of-again s.attr h.attr) refl

-- ---- what no word has

tree_lack : (c tree count : ℕ) → is_ascii_digit c ≡ false → lacks c (codes "tree") ≡ true → tree < 2 ^ 64 → count < 2 ^ 64 → all_lack c (tree_words tree count) ≡ true
tree_lack c tree count out word t n = rw (word, lacks-decimal c tree t out, lacks-decimal c count n out) refl

last_lack : (c : ℕ) (last : Option (List ℕ)) → is_hex_byte c ≡ false → IfSome last AreBytes → all_lack c (last_words last) ≡ true
last_lack c None out h = refl
last_lack c (Some bytes) out h = rw (lacks-hexadecimal c bytes h out) refl

stored_lack : (c : ℕ) (s : Stored) → is_hex_byte c ≡ false → HasBytes s → all_lack c (stored_words s) ≡ true
stored_lack c s out h = rw (lacks-hexadecimal c s.key h.key out, lacks-hexadecimal c s.payload h.payload out, last_lack c s.attr out h.attr) refl

-- ---- lines

-- a line of a tree is spelled so
pub tree_spelled : (line : List ℕ) (x : ℕ × ℕ) → tree_of_words (parts_of 32 line) ≡ Some x → (x.0 < 2 ^ 64) × (x.1 < 2 ^ 64) × (line ++ 10 ∷ [] ≡ tree_line x.0 x.1)
tree_spelled line x e =
    let t = tree_takes (parts_of 32 line) x e in
    (t.0, t.1, ap (λ (l : List ℕ). l ++ 10 ∷ []) (sym (text_of-parts_of 32 line) ∙ ap (text_of 32) t.2))

-- a line of a record is
pub stored_spelled : (line : List ℕ) (s : Stored) → stored_of_words (parts_of 32 line) ≡ Some s → HasBytes s × (line ++ 10 ∷ [] ≡ record_line s)
stored_spelled line s e =
    let t = stored_takes (parts_of 32 line) s e in
    (t.0, ap (λ (l : List ℕ). l ++ 10 ∷ []) (sym (text_of-parts_of 32 line) ∙ ap (text_of 32) t.1))

-- each line of a tree is read
pub tree_read : (tree count : ℕ) → tree < 2 ^ 64 → count < 2 ^ 64 → tree_of_words (parts_of 32 (text_of 32 (tree_words tree count))) ≡ Some (tree, count)
tree_read tree count t n =
    ap tree_of_words (parts_of-text_of 32 (codes "tree") (decimal tree ∷ decimal count ∷ []) (tree_lack 32 tree count refl refl t n)) ∙ tree_again tree count t n

-- each line of a record is
pub stored_read : (s : Stored) → HasBytes s → stored_of_words (parts_of 32 (text_of 32 (stored_words s))) ≡ Some s
stored_read s h =
    ap stored_of_words (parts_of-text_of 32 (hexadecimal s.key) (hexadecimal s.payload ∷ last_words s.attr) (stored_lack 32 s refl h)) ∙ stored_again s h

-- they have no line feed
pub tree_feedless : (tree count : ℕ) → tree < 2 ^ 64 → count < 2 ^ 64 → line_feeds (text_of 32 (tree_words tree count)) ≡ 0
tree_feedless tree count t n = feedless (text_of 32 (tree_words tree count)) (lacks-text_of 10 32 (tree_words tree count) refl (tree_lack 10 tree count refl refl t n))

pub stored_feedless : (s : Stored) → HasBytes s → line_feeds (text_of 32 (stored_words s)) ≡ 0
stored_feedless s h = feedless (text_of 32 (stored_words s)) (lacks-text_of 10 32 (stored_words s) refl (stored_lack 10 s refl h))

-- no line is empty
pub tree_some : (x : ℕ × ℕ) → tree_of_words (parts_of 32 []) ≡ Some x → ⊥
unfolding tree_of_words word_at
tree_some x e = absurd cc

pub stored_some : (s : Stored) → stored_of_words (parts_of 32 []) ≡ Some s → ⊥
unfolding stored_of_words bytes_at bytes_of
stored_some s e = absurd cc
