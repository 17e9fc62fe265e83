-- Line feeds of a text.
use Rattle.std.proofs.Common.{◌≡◌, ℕ, suc, ◌+◌, ◌≤◌, Bool, true, false, not, cond, eqb, ltb, List, [], ◌∷◌, ◌++◌, length, take, Some, None, refl, sym, ap, ◌∙◌, arith}
use Rattle.std.specs.List.{position_or_len}
use Rattle.std.proofs.lemmas.Bool.{and_parts, ltb-false}
use Rattle.std.proofs.Math.Numerals.{one-add}
use Rattle.words.proofs.Splitting.{lacks}
use Rattle.dump_text.specs.BadLine.{line_feeds}

-- a byte that is no line feed, before a text without one
feed_free : (b : ℕ) (text : List ℕ) → line_feeds (b ∷ text) ≡ 0 → (b ≡ 10 → ⊥) × (line_feeds text ≡ 0)
feed_free b text h = on (eqb b 10) refl h
  where
    on : (feed : Bool) → eqb b 10 ≡ feed → cond feed 1 0 + line_feeds text ≡ 0 → (b ≡ 10 → ⊥) × (line_feeds text ≡ 0)
    on true e h = absurd (omega arith)
    on false e h = ((λ is. differ (sym (ap (λ (x : ℕ). eqb x 10) is) ∙ e)), omega arith)
      where
        differ : eqb 10 10 ≡ false → ⊥
        differ e = absurd cc

none_before : (text : List ℕ) → length text ≤ position_or_len (λ b. eqb b 10) text → line_feeds text ≡ 0
none_before [] h = refl
none_before (b ∷ text) h = on (eqb b 10) h (λ k. none_before text k)
  where
    on : (feed : Bool) → suc (length text) ≤ cond (not feed) (1 + position_or_len (λ b. eqb b 10) text) 0 → (length text ≤ position_or_len (λ b. eqb b 10) text → line_feeds text ≡ 0) → cond feed 1 0 + line_feeds text ≡ 0
    on true h ih = absurd (omega arith)
    on false h ih = let k = ih (omega arith) in omega arith

front_free : (text : List ℕ) → line_feeds (take (position_or_len (λ b. eqb b 10) text) text) ≡ 0
front_free [] = refl
front_free (b ∷ text) = on (eqb b 10) refl (front_free text)
  where
    on : (feed : Bool) → eqb b 10 ≡ feed → line_feeds (take (position_or_len (λ b. eqb b 10) text) text) ≡ 0 → line_feeds (take (cond (not feed) (1 + position_or_len (λ b. eqb b 10) text) 0) (b ∷ text)) ≡ 0
    on true e ih = refl
    on false e ih = rw (one-add (position_or_len (λ b. eqb b 10) text), e) (omega arith)

-- where no place is found there is no line feed
pub no_feed : (text : List ℕ) → None ≡ cond (ltb (position_or_len (λ b. eqb b 10) text) (length text)) (Some (position_or_len (λ b. eqb b 10) text)) None → line_feeds text ≡ 0
no_feed text e = on (ltb (position_or_len (λ b. eqb b 10) text) (length text)) refl e
  where
    on : (within : Bool) → ltb (position_or_len (λ b. eqb b 10) text) (length text) ≡ within → None ≡ cond within (Some (position_or_len (λ b. eqb b 10) text)) None → line_feeds text ≡ 0
    on true lt e = absurd cc
    on false ge e = none_before text (ltb-false _ _ ge)

-- there is none before the first place
pub feedless_front : (text : List ℕ) (at : ℕ) → Some at ≡ cond (ltb (position_or_len (λ b. eqb b 10) text) (length text)) (Some (position_or_len (λ b. eqb b 10) text)) None → line_feeds (take at text) ≡ 0
feedless_front text at e = on (ltb (position_or_len (λ b. eqb b 10) text) (length text)) e
  where
    on : (within : Bool) → Some at ≡ cond within (Some (position_or_len (λ b. eqb b 10) text)) None → line_feeds (take at text) ≡ 0
    on true e = let same : at ≡ position_or_len (λ b. eqb b 10) text = cc in rw same (front_free text)
    on false e = absurd cc

-- a word that lacks line feeds
pub feedless : (word : List ℕ) → lacks 10 word ≡ true → line_feeds word ≡ 0
feedless [] h = refl
feedless (b ∷ word) h =
    let parts = and_parts (not (eqb b 10)) (lacks 10 word) h in
    on (eqb b 10) parts.0 (feedless word parts.1)
  where
    on : (feed : Bool) → not feed ≡ true → line_feeds word ≡ 0 → cond feed 1 0 + line_feeds word ≡ 0
    on true n ih = absurd cc
    on false n ih = omega arith

pub feeds_both : (a b : List ℕ) → line_feeds (a ++ b) ≡ line_feeds a + line_feeds b
feeds_both [] b = omega arith
feeds_both (x ∷ a) b = let ih = feeds_both a b in omega arith

-- lines that are ended, and one more
pub one_more : (before line : List ℕ) → line_feeds line ≡ 0 → line_feeds (before ++ line ++ 10 ∷ []) ≡ line_feeds before + 1
one_more before line h =
    let a = feeds_both (before ++ line) (10 ∷ []) in
    let b = feeds_both before line in
    let e : line_feeds (10 ∷ []) ≡ 1 = refl in
    omega arith

-- the first line of a text is one
pub first_is : (a b x y : List ℕ) → line_feeds a ≡ 0 → line_feeds b ≡ 0 → a ++ 10 ∷ x ≡ b ++ 10 ∷ y → (a ≡ b) × (x ≡ y)
first_is [] [] x y p q e = (refl, cc)
first_is [] (d ∷ b) x y p q e = absurd ((feed_free d b q).0 (cc))
first_is (c ∷ a) [] x y p q e = absurd ((feed_free c a p).0 (cc))
first_is (c ∷ a) (d ∷ b) x y p q e =
    let rest : a ++ 10 ∷ x ≡ b ++ 10 ∷ y = cc in
    let first : c ≡ d = cc in
    let ih = first_is a b x y (feed_free c a p).1 (feed_free d b q).1 rest in
    let same : a ≡ b = ih.0 in
    (cc, ih.1)

-- a text that is ended begins with the first line
pub begins_so : (a b x y : List ℕ) → line_feeds a ≡ 0 → b ++ 10 ∷ y ≡ a ++ 10 ∷ x → (z : List ℕ) × (b ++ 10 ∷ [] ≡ a ++ 10 ∷ z)
begins_so [] [] x y p e = ([], refl)
begins_so [] (d ∷ b) x y p e = (b ++ 10 ∷ [], let first : d ≡ 10 = cc in ap (λ (v : ℕ). v ∷ (b ++ 10 ∷ [])) first)
begins_so (c ∷ a) [] x y p e = absurd ((feed_free c a p).0 (cc))
begins_so (c ∷ a) (d ∷ b) x y p e =
    let rest : b ++ 10 ∷ y ≡ a ++ 10 ∷ x = cc in
    let first : d ≡ c = cc in
    let ih = begins_so a b x y (feed_free c a p).1 rest in
    let same : b ++ 10 ∷ [] ≡ a ++ 10 ∷ ih.0 = ih.1 in
    (ih.0, cc)
