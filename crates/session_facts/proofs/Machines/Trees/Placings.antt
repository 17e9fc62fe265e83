-- The pieces of a cut, one after another from the right end.
use Rattle.std.proofs.Common.{◌≡◌, ◌≢◌, ◌+◌, ◌<◌, ◌≤◌, ◌⊎◌, inl, inr, ℕ, zero, Bool, false, List, [], ◌∷◌, ◌++◌, length, map, reverse, refl, sym, ap, subst, ◌∙◌, arith}
use Rattle.std.proofs.lemmas.List.{reverse-append, map-append, length_push}
use Rattle.cloud_facts.specs.Chains.Chain.{AreLevels, IsUnlinked, ArePages}
use Rattle.cloud_facts.specs.Chains.Cuts.{links_on, HaveLanded}
use Rattle.cloud_facts.specs.Chains.Links.{first_link}
use Rattle.cloud_facts.proofs.Chains.Pieces.{none_in, in_cases}
use Rattle.split_plan.specs.Part.{Part}
use Rattle.split_plan.specs.Plan.{put_of, on_pages}
use Rattle.std.specs.Prelude.{slice_get}
use Rattle.cloud_facts.specs.Words.{Link, Node, IsIn}
use Rattle.session_facts.specs.Machines.Trees.Placings.{numbered, AreReserved}

-- ---- the last of a list

pub last_cases : {A : Type 0} (xs : List A) → (xs ≡ []) ⊎ ((front : List A) × (last : A) × (xs ≡ front ++ last ∷ []))
last_cases [] = inl refl
last_cases {A} (x ∷ xs) = on (last_cases xs)
  where
    on : (xs ≡ []) ⊎ ((front : List A) × (last : A) × (xs ≡ front ++ last ∷ [])) → (x ∷ xs ≡ []) ⊎ ((front : List A) × (last : A) × (x ∷ xs ≡ front ++ last ∷ []))
    on (inl e) = inr ([], x, ap (λ (l : List A). x ∷ l) e)
    on (inr p) = inr (x ∷ p.0, p.1, ap (λ (l : List A). x ∷ l) p.2)

-- ---- puts, the rightmost first

pages_more : {A X : Type 0} (page free : ℕ) (front : Part A X) (middle : List (Part A X)) (last : Part A X)
    → on_pages page free (front ∷ (middle ++ last ∷ [])) ≡ on_pages page free (front ∷ middle) ++ (free + length middle, last) ∷ []
pages_more {A} {X} page free front [] last = ap (λ (n : ℕ). (page, front) ∷ (n, last) ∷ []) (omega arith)
pages_more {A} {X} page free front (p ∷ middle) last =
    let far : free + 1 + length middle ≡ free + length (p ∷ middle) = omega arith in
    ap (λ (l : List (ℕ × Part A X)). (page, front) ∷ l)
    (pages_more free (free + 1) p middle last ∙ ap (λ (n : ℕ). on_pages free (free + 1) (p ∷ middle) ++ (n, last) ∷ []) far)

-- the rightmost piece is put first
pub puts_more : {A X : Type 0} (bytes : Part A X → List ℕ) (page free : ℕ) (front : Part A X) (middle : List (Part A X)) (last : Part A X)
    → reverse (map (put_of bytes) (on_pages page free (front ∷ (middle ++ last ∷ []))))
    ≡ record { page = free + length middle; bytes = bytes last } ∷ reverse (map (put_of bytes) (on_pages page free (front ∷ middle)))
puts_more {A} {X} bytes page free front middle last =
    ap (λ (l : List (ℕ × Part A X)). reverse (map (put_of bytes) l)) (pages_more page free front middle last)
    ∙ (ap reverse (map-append (put_of bytes) (on_pages page free (front ∷ middle)) ((free + length middle, last) ∷ []))
    ∙ reverse-append (map (put_of bytes) (on_pages page free (front ∷ middle))) (put_of bytes (free + length middle, last) ∷ []))

-- ---- pages of pieces

pub on_range : {A X : Type 0} (free : ℕ) (ps : List (Part A X)) (a : Link) → IsIn (links_on free ps) a → (free ≤ a.page) × (a.page < free + length ps)
on_range free [] a there = absurd (none_in a there)
on_range free (p ∷ ps) a there = on (on_range (free + 1) ps a) (in_cases (record { low = p.low; page = free }) (links_on (free + 1) ps) a there)
  where
    on : (IsIn (links_on (free + 1) ps) a → (free + 1 ≤ a.page) × (a.page < free + 1 + length ps)) → (record { low = p.low; page = free } ≡ a) ⊎ IsIn (links_on (free + 1) ps) a
        → (free ≤ a.page) × (a.page < free + length (p ∷ ps))
    on again (inl same) = let is : free ≡ a.page = ap (λ (l : Link). l.page) same in (omega (arith, is), omega (arith, is))
    on again (inr rest) = let r = again rest in let low = r.0 in let high = r.1 in (omega (arith, low), omega (arith, high))

pub landed_stays : {A X : Type 0} (node : Part A X → Node) (nodes more : ℕ → List Node) (free : ℕ) (ps : List (Part A X))
    → ((page : ℕ) → free ≤ page → page < free + length ps → more page ≡ nodes page) → HaveLanded node nodes free ps → HaveLanded node more free ps
landed_stays node nodes more free [] same landed = tt
landed_stays node nodes more free (p ∷ ps) same landed = (
  same free (omega arith) (omega arith) ∙ landed.0,
  landed_stays node nodes more (free + 1) ps (λ page low high. same page (omega (arith, low)) (omega (arith, high))) landed.1,
)

-- ---- numbers that were reserved

-- they stay while their pages and the chains do, and no number is given back
pub reserved_stays : {A X : Type 0} (node : Part A X → Node) (chain more : ℕ → List Link) (nodes new : ℕ → List Node) (gone still : ℕ → Bool) (next later first : ℕ)
    (middle behind : List (Part A X))
    → ((page : ℕ) → IsUnlinked chain page → IsUnlinked more page)
    → ((page : ℕ) → first ≤ page → page < first + (length middle + length behind) → new page ≡ nodes page) → ((page : ℕ) → still page ≡ gone page) → next ≤ later
    → AreReserved node chain nodes gone next (numbered first middle behind) → AreReserved node more new still later (numbered first middle behind)
reserved_stays node chain more nodes new gone still next later first middle behind links same kept rises r = record {
  within = let w = r.within in omega (arith, w, rises);
  above = r.above;
  unlinked = λ page low high. links page (r.unlinked page low high);
  there = λ page low high. kept page ∙ r.there page low high;
  absent = λ page low high. same page low (omega (arith, high)) ∙ r.absent page low high;
  landed =
      landed_stays node nodes new (first + length middle) behind
      (λ page low high. same page (omega (arith, low)) (omega (arith, high))) r.landed;
}

-- the rightmost of those that are to be put lands
pub piece_landed : {A X : Type 0} (node : Part A X → Node) (chain : ℕ → List Link) (nodes new : ℕ → List Node) (gone : ℕ → Bool) (next first : ℕ) (middle : List (Part A X))
    (last : Part A X) (behind : List (Part A X)) → new (first + length middle) ≡ nodes (first + length middle) ++ node last ∷ []
    → ((page : ℕ) → page ≢ first + length middle → new page ≡ nodes page)
    → AreReserved node chain nodes gone next (numbered first (middle ++ last ∷ []) behind) → AreReserved node chain new gone next (numbered first middle (last ∷ behind))
piece_landed node chain nodes new gone next first middle last behind here there r = record {
  within = let w = r.within in omega (arith, w, count);
  above = λ page low high. r.above page low (omega (arith, high, count));
  unlinked = λ page low high. r.unlinked page low (omega (arith, high, count));
  there = λ page low high. r.there page low (omega (arith, high, count));
  absent = λ page low high. there page (λ e. absurd (omega (arith, e, high))) ∙ r.absent page low (omega (arith, high, count));
  landed = (
    here ∙ ap (λ (ns : List Node). ns ++ node last ∷ []) (r.absent (first + length middle) (omega arith) (omega (arith, count))),
    landed_stays node nodes new (first + length middle + 1) behind (λ page low high. there page (λ e. absurd (omega (arith, e, low))))
        (subst (λ (n : ℕ). HaveLanded node nodes n behind) far r.landed),
  );
}
  where
    count : length (middle ++ last ∷ []) ≡ length middle + 1
    count = length_push middle last

    far : first + length (middle ++ last ∷ []) ≡ first + length middle + 1
    far = omega (arith, count)

-- ---- fresh numbers

-- the numbers from a root's `next` on have no version and are in no chain, so those that its next version reserves are free
pub fresh_reserved : {A X : Type 0} (node : Part A X → Node) (chain : ℕ → List Link) (nodes : ℕ → List Node) (gone : ℕ → Bool) (next later : ℕ) (height : ℕ)
    (middle : List (Part A X)) → AreLevels chain height → ArePages chain nodes next → ((page : ℕ) → nodes page ≡ [] → gone page ≡ false)
    → later ≡ next + length middle → AreReserved node chain nodes gone later (numbered next middle [])
fresh_reserved {A} {X} node chain nodes gone next later height middle lv pages kept is = record {
  within = omega (arith, is);
  above = λ page low high. let first = two in omega (arith, first, low);
  unlinked = λ page low high. unlinked page low;
  there = λ page low high. kept page (absent page low (nodes page) refl);
  absent = λ page low high. absent page low (nodes page) refl;
  landed = tt;
}
  where
    two : 1 < next
    two = (pages.linked 0 first_link (zero, ap (λ (ls : List Link). slice_get ls 0) lv.leaves.1)).1

    unlinked : (page : ℕ) → next ≤ page → IsUnlinked chain page
    unlinked page low level link linked e = let below = (pages.linked level link linked).1 in absurd (omega (arith, below, e, low))

    absent : (page : ℕ) → next ≤ page → (ns : List Node) → nodes page ≡ ns → nodes page ≡ []
    absent page low [] e = e
    absent page low (n ∷ ns) e =
        let some : nodes page ≢ [] = λ none. never (sym none ∙ e) in
        let below = (pages.landed page some).1 in
        absurd (omega (arith, below, low))
      where
        never : [] ≡ n ∷ ns → ⊥
        never q = cc

-- a page without new pieces needs none
pub none_reserved : {A X : Type 0} (node : Part A X → Node) (chain : ℕ → List Link) (nodes : ℕ → List Node) (gone : ℕ → Bool) (next first : ℕ) → first ≤ next
    → AreReserved {A = A} {X = X} node chain nodes gone next (numbered first [] [])
none_reserved node chain nodes gone next first less = record {
  within = omega (arith, less);
  above = λ page low high. absurd (omega (arith, low, high));
  unlinked = λ page low high. absurd (omega (arith, low, high));
  there = λ page low high. absurd (omega (arith, low, high));
  absent = λ page low high. absurd (omega (arith, low, high));
  landed = tt;
}
