-- Which pages were come to where the reading of a tree's levels goes on: one more to the right, or further down.
use Rattle.std.proofs.Common.{◌≡◌, ◌+◌, ◌-◌, ◌<◌, ◌≤◌, ◌⊎◌, inl, inr, ℕ, zero, suc, nat_lt, Bool, true, false, List, [], ◌∷◌, ◌++◌, Some, None, refl, sym, ap, subst, ◌∙◌, arith}
use Rattle.std.specs.Prelude.{slice_get, ◌==◌, ◌||◌}
use Rattle.std.proofs.lemmas.Bool.{eqb-true, eq-eqb, ltb-true, ltb-false}
use Rattle.cloud_facts.specs.Book.Book.{Link}
use Rattle.cloud_facts.specs.Book.Records.{StandsAt, IsIn}
use Rattle.cloud_facts.proofs.Chains.Pieces.{none_stands, none_in, in_cases, in_front, in_back, in_both}
use Rattle.orphan_sweep.specs.Sweeping.{is_among}
use Rattle.session_facts.specs.Machines.Sweeps.Places.{IsUptoPlace, WasCome, AreUpto, AreAll}

-- ---- lists

-- what stands in a list stands before its end
pub before_end : {A : Type 0} (xs : List A) (end place : ℕ) (x : A) → slice_get xs end ≡ None → StandsAt xs place x → place < end
before_end [] end place x none there = absurd (none_stands place x there)
before_end (y ∷ xs) zero place x none there = absurd (cc (none))
before_end (y ∷ xs) (suc end) zero x none there = omega arith
before_end (y ∷ xs) (suc end) (suc place) x none there = let h = before_end xs end place x none there in omega (arith, h)

-- two things at one place are one
pub one_thing : {A : Type 0} (xs : List A) (i j : ℕ) (x y : A) → i ≡ j → StandsAt xs i x → StandsAt xs j y → x ≡ y
one_thing xs i j x y e there here = let both : Some x ≡ Some y = sym there ∙ (ap (slice_get xs) e ∙ here) in cc (both)

pub among_in : (pages : List ℕ) (page : ℕ) → is_among pages page ≡ true → IsIn pages page
among_in [] page e = absurd (cc (e))
among_in (p ∷ pages) page e = on (p == page) refl (among_in pages page) e
  where
    on : (b : Bool) → (p == page) ≡ b → (is_among pages page ≡ true → IsIn pages page) → (b || is_among pages page) ≡ true → IsIn (p ∷ pages) page
    on true same again f = (zero, ap (λ (x : ℕ). Some x) (eqb-true p page same))
    on false same again f = let r = again f in (suc r.0, r.1)

or_true : (b : Bool) → (b || true) ≡ true
or_true true = refl
or_true false = refl

pub in_among : (pages : List ℕ) (page : ℕ) → IsIn pages page → is_among pages page ≡ true
in_among [] page is = absurd (none_in page is)
in_among (p ∷ pages) page is = on (in_among pages page) (in_cases p pages page is)
  where
    on : (IsIn pages page → is_among pages page ≡ true) → (p ≡ page) ⊎ IsIn pages page → ((p == page) || is_among pages page) ≡ true
    on again (inl same) = ap (λ (b : Bool). b || is_among pages page) (eq-eqb p page same)
    on again (inr k) = ap (λ (b : Bool). (p == page) || b) (again k) ∙ or_true (p == page)

-- ---- the pages up to a place

-- the first page of the highest level
pub come_first : (chain : ℕ → List Link) (top : ℕ) (link : Link) → ((level : ℕ) → top < level → chain level ≡ []) → StandsAt (chain top) 0 link
    → AreUpto chain top 0 (link.page ∷ [])
come_first chain top link above there = record { pages = pages; only = λ page is. turn page (in_cases link.page [] page is) }
  where
    first : (at : ℕ) (x : Link) → StandsAt (chain top) at x → at ≤ 0 → IsIn (link.page ∷ []) x.page
    first at x here low =
        let same : link ≡ x = one_thing (chain top) 0 at link x (omega (arith, low)) there here in
        (zero, ap (λ (l : Link). Some l.page) same)

    pages : (height at : ℕ) (x : Link) → StandsAt (chain height) at x → IsUptoPlace top 0 height at → IsIn (link.page ∷ []) x.page
    pages height at x here (inl higher) = absurd (none_in x (subst (λ (ls : List Link). IsIn ls x) (above height higher) (at, here)))
    pages height at x here (inr same) = first at x (subst (λ (l : ℕ). StandsAt (chain l) at x) same.0 here) same.1

    turn : (page : ℕ) → (link.page ≡ page) ⊎ IsIn {A = ℕ} [] page → WasCome chain top 0 page
    turn page (inl same) = record { height = top; at = 0; link = link; linked = there; page_is = same; upto = inr (refl, omega arith) }
    turn page (inr none) = absurd (none_in page none)

-- one more
come_more : (chain : ℕ → List Link) (level place l p : ℕ) (visited : List ℕ) (link : Link) → AreUpto chain level place visited → StandsAt (chain l) p link
    → ((height at : ℕ) → IsUptoPlace level place height at → IsUptoPlace l p height at)
    → ((height at : ℕ) (x : Link) → StandsAt (chain height) at x → IsUptoPlace l p height at → IsUptoPlace level place height at ⊎ (link.page ≡ x.page))
    → AreUpto chain l p (visited ++ link.page ∷ [])
come_more chain level place l p visited link come there wider cases = record {
  pages = λ height at x here upto. pages height at x here (cases height at x here upto);
  only = λ page is. turn page (in_both visited (link.page ∷ []) page is);
}
  where
    pages : (height at : ℕ) (x : Link) → StandsAt (chain height) at x → IsUptoPlace level place height at ⊎ (link.page ≡ x.page) → IsIn (visited ++ link.page ∷ []) x.page
    pages height at x here (inl old) = in_front visited (link.page ∷ []) x.page (come.pages height at x here old)
    pages height at x here (inr same) = in_back visited (link.page ∷ []) x.page (zero, ap (λ (n : ℕ). Some n) same)

    last : (page : ℕ) → (link.page ≡ page) ⊎ IsIn {A = ℕ} [] page → WasCome chain l p page
    last page (inl same) = record { height = l; at = p; link = link; linked = there; page_is = same; upto = inr (refl, omega arith) }
    last page (inr none) = absurd (none_in page none)

    turn : (page : ℕ) → IsIn visited page ⊎ IsIn (link.page ∷ []) page → WasCome chain l p page
    turn page (inl old) =
        let w = come.only page old in
        record { height = w.height; at = w.at; link = w.link; linked = w.linked; page_is = w.page_is; upto = wider w.height w.at w.upto }
    turn page (inr new) = last page (in_cases link.page [] page new)

-- to the right
pub come_right : (chain : ℕ → List Link) (level place : ℕ) (visited : List ℕ) (next : Link) → AreUpto chain level place visited
    → StandsAt (chain level) (place + 1) next → AreUpto chain level (place + 1) (visited ++ next.page ∷ [])
come_right chain level place visited next come there = come_more chain level place level (place + 1) visited next come there wider cases
  where
    wider : (height at : ℕ) → IsUptoPlace level place height at → IsUptoPlace level (place + 1) height at
    wider height at (inl above) = inl above
    wider height at (inr s) = inr (s.0, omega (arith, s.1))

    cases : (height at : ℕ) (x : Link) → StandsAt (chain height) at x → IsUptoPlace level (place + 1) height at → IsUptoPlace level place height at ⊎ (next.page ≡ x.page)
    cases height at x here (inl above) = inl (inl above)
    cases height at x here (inr s) = on (nat_lt place at) refl
      where
        on : (b : Bool) → nat_lt place at ≡ b → IsUptoPlace level place height at ⊎ (next.page ≡ x.page)
        on true e =
            let beyond = ltb-true place at e in
            let same : next ≡ x = one_thing (chain level) (place + 1) at next x (omega (arith, beyond, s.1)) there (subst (λ (l : ℕ). StandsAt (chain l) at x) s.0 here) in
            inr (ap (λ (l : Link). l.page) same)
        on false e = inl (inr (s.0, ltb-false place at e))

-- from the right end of a level down
pub come_down : (chain : ℕ → List Link) (level place : ℕ) (visited : List ℕ) (first : Link) → AreUpto chain level place visited
    → slice_get (chain level) (place + 1) ≡ None → 0 < level → StandsAt (chain (level - 1)) 0 first → AreUpto chain (level - 1) 0 (visited ++ first.page ∷ [])
come_down chain level place visited first come end some there = come_more chain level place (level - 1) 0 visited first come there wider cases
  where
    wider : (height at : ℕ) → IsUptoPlace level place height at → IsUptoPlace (level - 1) 0 height at
    wider height at (inl above) = inl (omega (arith, above))
    wider height at (inr s) = inl (omega (arith, s.0, some))

    cases : (height at : ℕ) (x : Link) → StandsAt (chain height) at x → IsUptoPlace (level - 1) 0 height at → IsUptoPlace level place height at ⊎ (first.page ≡ x.page)
    cases height at x here (inr s) =
        let same : first ≡ x = one_thing (chain (level - 1)) 0 at first x (omega (arith, s.1)) there (subst (λ (l : ℕ). StandsAt (chain l) at x) s.0 here) in
        inr (ap (λ (l : Link). l.page) same)
    cases height at x here (inl above) = on (nat_lt level height) refl
      where
        on : (b : Bool) → nat_lt level height ≡ b → IsUptoPlace level place height at ⊎ (first.page ≡ x.page)
        on true e = inl (inl (ltb-true level height e))
        on false e =
            let low = ltb-false level height e in
            let same : height ≡ level = omega (arith, low, above) in
            let before : at < place + 1 = before_end (chain level) (place + 1) at x end (subst (λ (l : ℕ). StandsAt (chain l) at x) same here) in
            inl (inr (same, omega (arith, before)))

-- at the right end of the leaves all pages were come to
pub all_come : (chain : ℕ → List Link) (place : ℕ) (visited : List ℕ) → AreUpto chain 0 place visited → slice_get (chain 0) (place + 1) ≡ None → AreAll chain visited
all_come chain place visited come end = record {
  pages = λ level link is. come.pages level is.0 link is.1 (upto level is.0 link is.1);
  only = λ page is.
      let w = come.only page is in
      record { level = w.height; link = w.link; linked = (w.at, w.linked); page_is = w.page_is };
}
  where
    upto : (level at : ℕ) (link : Link) → StandsAt (chain level) at link → IsUptoPlace 0 place level at
    upto zero at link there = let before : at < place + 1 = before_end (chain 0) (place + 1) at link end there in inr (refl, omega (arith, before))
    upto (suc level) at link there = inl (omega arith)
