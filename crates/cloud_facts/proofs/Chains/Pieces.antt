-- Lists of links, and pieces that join them behind the link of a page.
use Rattle.std.proofs.Common.{◌≡◌, ◌≢◌, ℕ, zero, suc, List, [], ◌∷◌, ◌++◌, Option, Some, refl, sym, ap, subst, ◌∙◌, ◌⊎◌, inl, inr, Bool, true, false, cond}
use Rattle.std.specs.Prelude.{slice_get, ◌==◌}
use Rattle.std.proofs.lemmas.Bool.{eqb-true, eqb-false}
use Rattle.std.proofs.lemmas.Cmp.{nat_list_cmp_total, tied_itself}
use Rattle.std.specs.Ordering.{is_lt}
use Rattle.byte_format.specs.Order.{bytes_below}
use Rattle.leaf_view.specs.Fits.{Ascend}
use Rattle.node_codec.proofs.EntryLemmas.{below_chain}
use Rattle.cloud_facts.specs.Words.{Link, Node, IsIn, StandsAt}
use Rattle.cloud_facts.specs.Book.Book.{with_pieces}
use Rattle.cloud_facts.specs.Chains.Landing.{IsPiece, ArePieces, first_or}
use Rattle.cloud_facts.specs.Chains.Links.{link_below}

-- ---- lists

pub none_stands : {A : Type 0} (place : ℕ) (x : A) → StandsAt [] place x → ⊥
none_stands place x e = absurd (cc)

pub none_in : {A : Type 0} (x : A) → IsIn [] x → ⊥
none_in x h = none_stands h.0 x h.1

pub in_first : {A : Type 0} (x : A) (xs : List A) → IsIn (x ∷ xs) x
in_first x xs = (zero, refl)

pub in_rest : {A : Type 0} (y : A) (xs : List A) (x : A) → IsIn xs x → IsIn (y ∷ xs) x
in_rest y xs x h = (suc h.0, h.1)

pub in_cases : {A : Type 0} (y : A) (xs : List A) (x : A) → IsIn (y ∷ xs) x → (y ≡ x) ⊎ IsIn xs x
in_cases {A} y xs x h = on h.0 h.1
  where
    on : (place : ℕ) → StandsAt (y ∷ xs) place x → (y ≡ x) ⊎ IsIn xs x
    on zero e = inl (cc)
    on (suc place) e = inr (place, e)

pub in_front : {A : Type 0} (xs ys : List A) (x : A) → IsIn xs x → IsIn (xs ++ ys) x
in_front [] ys x h = absurd (none_in x h)
in_front (y ∷ xs) ys x h = on (in_front xs ys x) (in_cases y xs x h)
  where
    on : (IsIn xs x → IsIn (xs ++ ys) x) → (y ≡ x) ⊎ IsIn xs x → IsIn (y ∷ xs ++ ys) x
    on again (inl e) = (zero, ap Some e)
    on again (inr k) = in_rest y (xs ++ ys) x (again k)

pub in_back : {A : Type 0} (xs ys : List A) (x : A) → IsIn ys x → IsIn (xs ++ ys) x
in_back [] ys x h = h
in_back (y ∷ xs) ys x h = in_rest y (xs ++ ys) x (in_back xs ys x h)

pub in_both : {A : Type 0} (xs ys : List A) (x : A) → IsIn (xs ++ ys) x → IsIn xs x ⊎ IsIn ys x
in_both [] ys x h = inr h
in_both (y ∷ xs) ys x h = on (in_both xs ys x) (in_cases y (xs ++ ys) x h)
  where
    far : IsIn xs x ⊎ IsIn ys x → IsIn (y ∷ xs) x ⊎ IsIn ys x
    far (inl k) = inl (in_rest y xs x k)
    far (inr k) = inr k

    on : (IsIn (xs ++ ys) x → IsIn xs x ⊎ IsIn ys x) → (y ≡ x) ⊎ IsIn (xs ++ ys) x → IsIn (y ∷ xs) x ⊎ IsIn ys x
    on again (inl e) = inl (zero, ap Some e)
    on again (inr k) = far (again k)

-- ---- low keys that ascend

-- what stands in a list that ascends behind something is above it
pub ascend_all : (before : Link) (links : List Link) (a : Link) → Ascend link_below (Some before) links → IsIn links a → bytes_below before.low a.low ≡ true
ascend_all before [] a up h = absurd (none_in a h)
ascend_all before (b ∷ links) a up h = on (ascend_all b links a up.1) (in_cases b links a h)
  where
    on : (IsIn links a → bytes_below b.low a.low ≡ true) → (b ≡ a) ⊎ IsIn links a → bytes_below before.low a.low ≡ true
    on again (inl e) = ap (λ (x : Link). bytes_below before.low x.low) (sym e) ∙ up.0
    on again (inr k) = below_chain before.low b.low a.low up.0 (again k)

-- the next one is above
pub ascend_next : (before : Option Link) (links : List Link) (place : ℕ) (a b : Link) → Ascend link_below before links
    → StandsAt links place a → StandsAt links (suc place) b → bytes_below a.low b.low ≡ true
ascend_next before [] place a b up h g = absurd (cc)
ascend_next before (x ∷ links) zero a b up h g =
    let e : x ≡ a = cc in
    ap (λ (y : Link). bytes_below y.low b.low) (sym e) ∙ ascend_all x links b up.1 (zero, g)
ascend_next before (x ∷ links) (suc place) a b up h g = ascend_next (Some x) links place a b up.1 h g

-- a list that ascends does so behind what is below its first
pub ascend_behind : (before : Option Link) (links : List Link) (a : Link) → Ascend link_below before links
    → ((b : Link) → StandsAt links 0 b → bytes_below a.low b.low ≡ true) → Ascend link_below (Some a) links
ascend_behind before [] a up below = tt
ascend_behind before (b ∷ links) a up below = (below b refl, up.1)

-- two lists ascend behind one another where the one is below the first of the other
pub ascend_both : (before : Option Link) (xs ys : List Link) → Ascend link_below before xs → Ascend link_below before ys
    → ((x y : Link) → IsIn xs x → StandsAt ys 0 y → bytes_below x.low y.low ≡ true) → Ascend link_below before (xs ++ ys)
ascend_both before [] ys up upper below = upper
ascend_both before (x ∷ xs) ys up upper below =
    let behind : Ascend link_below (Some x) ys = ascend_behind before ys x upper (λ y h. below x y (in_first x xs) h) in
    (up.0, ascend_both (Some x) xs ys up.1 behind (λ a y h. below a y (in_rest x xs a h)))

-- ---- lists in which no page comes twice

pub not_itself : (a : List ℕ) → bytes_below a a ≡ false
not_itself a = ap is_lt (tied_itself nat_list_cmp_total a)

abbrev pub Apart : List Link → Type 0
Apart [] = Unit {0}
Apart (a ∷ links) = ((b : Link) → IsIn links b → b.page ≢ a.page) × Apart links

-- where low keys ascend, and two links of one page have one low key
pub apart_of : (before : Option Link) (links : List Link) → Ascend link_below before links
    → ((a b : Link) → IsIn links a → IsIn links b → a.page ≡ b.page → a.low ≡ b.low) → Apart links
apart_of before [] up same = tt
apart_of before (x ∷ links) up same = (first, apart_of (Some x) links up.1 (λ a b h k. same a b (in_rest x links a h) (in_rest x links b k)))
  where
    first : (b : Link) → IsIn links b → b.page ≢ x.page
    first b k e =
        let low : b.low ≡ x.low = same b x (in_rest x links b k) (in_first x links) e in
        let under : bytes_below x.low b.low ≡ true = ascend_all x links b up.1 k in
        let not : bytes_below x.low b.low ≡ false = ap (bytes_below x.low) low ∙ not_itself x.low in
        absurd (cc)

-- a page stands at one place
pub one_place : (links : List Link) → Apart links → (i j : ℕ) (a b : Link) → StandsAt links i a → StandsAt links j b → a.page ≡ b.page → i ≡ j
one_place [] once i j a b h k e = absurd (none_stands i a h)
one_place (x ∷ links) once zero zero a b h k e = refl
one_place (x ∷ links) once zero (suc j) a b h k e =
    let is : x ≡ a = cc in
    absurd (once.0 b (j, k) (sym e ∙ ap (λ (y : Link). y.page) (sym is)))
one_place (x ∷ links) once (suc i) zero a b h k e =
    let is : x ≡ b = cc in
    absurd (once.0 a (i, h) (e ∙ ap (λ (y : Link). y.page) (sym is)))
one_place (x ∷ links) once (suc i) (suc j) a b h k e = ap suc (one_place links once.1 i j a b h k e)

-- ---- pieces that join behind the link of a page

pub joined_head : (page : ℕ) (pieces links : List Link) → slice_get (with_pieces page pieces links) 0 ≡ slice_get links 0
joined_head page pieces [] = refl
joined_head page pieces (x ∷ links) = on (x.page == page)
  where
    on : (b : Bool) → slice_get (cond b (x ∷ (pieces ++ links)) (x ∷ with_pieces page pieces links)) 0 ≡ Some x
    on true = refl
    on false = refl

-- pieces join
pub joined_has : (page : ℕ) (pieces links : List Link) (place : ℕ) (link a : Link) → StandsAt links place link → link.page ≡ page → IsIn pieces a
    → IsIn (with_pieces page pieces links) a
joined_has page pieces [] place link a there is h = absurd (none_stands place link there)
joined_has page pieces (x ∷ links) place link a there is h = on (λ place there. joined_has page pieces links place link a there is h)
    (x.page == page) refl place there
  where
    on : ((place : ℕ) → StandsAt links place link → IsIn (with_pieces page pieces links) a) → (b : Bool) → (x.page == page) ≡ b → (place : ℕ)
        → StandsAt (x ∷ links) place link
        → IsIn (cond b (x ∷ (pieces ++ links)) (x ∷ with_pieces page pieces links)) a
    on again true e place there = in_rest x (pieces ++ links) a (in_front pieces links a h)
    on again false e zero there =
        let same : x ≡ link = cc in
        absurd (eqb-false x.page page e (ap (λ (y : Link). y.page) same ∙ is))
    on again false e (suc place) there = in_rest x (with_pieces page pieces links) a (again place there)

-- and nothing else does
pub joined_cases : (page : ℕ) (pieces links : List Link) (a : Link) → IsIn (with_pieces page pieces links) a → IsIn links a ⊎ IsIn pieces a
joined_cases page pieces [] a h = inl h
joined_cases page pieces (x ∷ links) a h = on (joined_cases page pieces links a) (x.page == page) h
  where
    swap : IsIn pieces a ⊎ IsIn links a → IsIn (x ∷ links) a ⊎ IsIn pieces a
    swap (inl k) = inr k
    swap (inr k) = inl (in_rest x links a k)

    cut : (x ≡ a) ⊎ IsIn (pieces ++ links) a → IsIn (x ∷ links) a ⊎ IsIn pieces a
    cut (inl e) = inl (zero, ap Some e)
    cut (inr k) = swap (in_both pieces links a k)

    far : IsIn links a ⊎ IsIn pieces a → IsIn (x ∷ links) a ⊎ IsIn pieces a
    far (inl k) = inl (in_rest x links a k)
    far (inr k) = inr k

    behind : (IsIn (with_pieces page pieces links) a → IsIn links a ⊎ IsIn pieces a) → (x ≡ a) ⊎ IsIn (with_pieces page pieces links) a
        → IsIn (x ∷ links) a ⊎ IsIn pieces a
    behind again (inl e) = inl (zero, ap Some e)
    behind again (inr k) = far (again k)

    on : (IsIn (with_pieces page pieces links) a → IsIn links a ⊎ IsIn pieces a) → (b : Bool)
        → IsIn (cond b (x ∷ (pieces ++ links)) (x ∷ with_pieces page pieces links)) a → IsIn (x ∷ links) a ⊎ IsIn pieces a
    on again true k = cut (in_cases x (pieces ++ links) a k)
    on again false k = behind again (in_cases x (with_pieces page pieces links) a k)

-- low keys ascend still
pub joined_ascends : (page : ℕ) (pieces : List Link) (before : Option Link) (links : List Link) (place : ℕ) (link : Link) → Apart links
    → Ascend link_below before links
    → StandsAt links place link → link.page ≡ page → Ascend link_below (Some link) pieces
    → ((piece next : Link) → IsIn pieces piece → StandsAt links (suc place) next → bytes_below piece.low next.low ≡ true)
    → Ascend link_below before (with_pieces page pieces links)
joined_ascends page pieces before [] place link once up there is piece_up within = absurd (none_stands place link there)
joined_ascends page pieces before (x ∷ links) place link once up there is piece_up within =
    on (λ place link there is. joined_ascends page pieces (Some x) links place link once.1 up.1 there is) (x.page == page) refl place there within
  where
    on : ((place : ℕ) (link : Link) → StandsAt links place link → link.page ≡ page → Ascend link_below (Some link) pieces
        → ((piece next : Link) → IsIn pieces piece → StandsAt links (suc place) next → bytes_below piece.low next.low ≡ true)
        → Ascend link_below (Some x) (with_pieces page pieces links))
        → (b : Bool) → (x.page == page) ≡ b → (place : ℕ) → StandsAt (x ∷ links) place link
        → ((piece next : Link) → IsIn pieces piece → StandsAt (x ∷ links) (suc place) next → bytes_below piece.low next.low ≡ true)
        → Ascend link_below before (cond b (x ∷ (pieces ++ links)) (x ∷ with_pieces page pieces links))
    on again true e zero there within =
        let same : x ≡ link = cc in
        let ups : Ascend link_below (Some x) pieces = subst (λ (y : Link). Ascend link_below (Some y) pieces) (sym same) piece_up in
        (up.0, ascend_both (Some x) pieces links ups up.1 within)
    on again true e (suc place) there within = absurd (once.0 link (place, there) (is ∙ sym (eqb-true x.page page e)))
    on again false e zero there within =
        let same : x ≡ link = cc in
        absurd (eqb-false x.page page e (ap (λ (y : Link). y.page) same ∙ is))
    on again false e (suc place) there within = (up.0, again place link there is piece_up within)

-- ---- what is next to each link

-- something of the longer list is another page's link, with the same next one; or the page's, before the pieces; or a piece
pub data Standing (nodes : ℕ → List Node) (level page : ℕ) (pieces links : List Link) (a : Link) (next : Option Link) : Type 0 where
  IsOther : (place : ℕ) → StandsAt links place a → a.page ≢ page → next ≡ slice_get links (suc place) → Standing nodes level page pieces links a next
  IsLeft : (place : ℕ) → StandsAt links place a → a.page ≡ page → next ≡ first_or (slice_get links (suc place)) pieces
      → Standing nodes level page pieces links a next
  IsNew : IsIn pieces a → IsPiece nodes level a next → Standing nodes level page pieces links a next

further : (nodes : ℕ → List Node) (level page : ℕ) (pieces links : List Link) (x a : Link) (next : Option Link) → Standing nodes level page pieces links a next
    → Standing nodes level page pieces (x ∷ links) a next
further nodes level page pieces links x a next (IsOther place h ne e) = IsOther (suc place) h ne e
further nodes level page pieces links x a next (IsLeft place h is e) = IsLeft (suc place) h is e
further nodes level page pieces links x a next (IsNew h p) = IsNew h p

first_of_both : (pieces links : List Link) → slice_get (pieces ++ links) 0 ≡ first_or (slice_get links 0) pieces
first_of_both [] links = refl
first_of_both (p ∷ pieces) links = refl

-- a piece with the next link, or a link behind the pieces with its next one
pub data Behinds (nodes : ℕ → List Node) (level : ℕ) (pieces links : List Link) (a : Link) (next : Option Link) : Type 0 where
  InPieces : IsIn pieces a → IsPiece nodes level a next → Behinds nodes level pieces links a next
  InLinks : (place : ℕ) → StandsAt links place a → next ≡ slice_get links (suc place) → Behinds nodes level pieces links a next

behind_next : (nodes : ℕ → List Node) (level : ℕ) (pieces links : List Link) → ArePieces nodes level pieces (slice_get links 0) → (i : ℕ) (a : Link)
    → StandsAt (pieces ++ links) i a → Behinds nodes level pieces links a (slice_get (pieces ++ links) (suc i))
behind_next nodes level [] links are i a h = InLinks i h refl
behind_next nodes level (p ∷ pieces) links are zero a h =
    let is : p ≡ a = cc in
    let piece : IsPiece nodes level p (slice_get (pieces ++ links) 0) =
    subst (λ (o : Option Link). IsPiece nodes level p o) (sym (first_of_both pieces links)) are.0 in
    InPieces (zero, h) (subst (λ (x : Link). IsPiece nodes level x (slice_get (pieces ++ links) 0)) is piece)
behind_next nodes level (p ∷ pieces) links are (suc i) a h = on (behind_next nodes level pieces links are.1 i a h)
  where
    on : Behinds nodes level pieces links a (slice_get (pieces ++ links) (suc i))
        → Behinds nodes level (p ∷ pieces) links a (slice_get (pieces ++ links) (suc i))
    on (InPieces k piece) = InPieces (in_rest p pieces a k) piece
    on (InLinks place k e) = InLinks place k e

pub joined_next : (nodes : ℕ → List Node) (level page : ℕ) (pieces links : List Link) → Apart links
    → ((place : ℕ) (link : Link) → StandsAt links place link → link.page ≡ page → ArePieces nodes level pieces (slice_get links (suc place)))
    → (i : ℕ) (a : Link) → StandsAt (with_pieces page pieces links) i a
    → Standing nodes level page pieces links a (slice_get (with_pieces page pieces links) (suc i))
joined_next nodes level page pieces [] once are i a h = absurd (none_stands i a h)
joined_next nodes level page pieces (x ∷ links) once are i a h = on (joined_next nodes level page pieces links once.1
    (λ place link. are (suc place) link)) (x.page == page) refl i h
  where
    left : (i : ℕ) → x.page ≡ page → Behinds nodes level pieces links a (slice_get (pieces ++ links) (suc i))
        → Standing nodes level page pieces (x ∷ links) a (slice_get (pieces ++ links) (suc i))
    left i is (InPieces k piece) = IsNew k piece
    left i is (InLinks place k e) = IsOther (suc place) k (λ same. once.0 a (place, k) (same ∙ sym is)) e

    on : ((i : ℕ) (a : Link) → StandsAt (with_pieces page pieces links) i a
        → Standing nodes level page pieces links a (slice_get (with_pieces page pieces links) (suc i)))
        → (b : Bool) → (x.page == page) ≡ b → (i : ℕ) → StandsAt (cond b (x ∷ (pieces ++ links)) (x ∷ with_pieces page pieces links)) i a
        → Standing nodes level page pieces (x ∷ links) a (slice_get (cond b (x ∷ (pieces ++ links)) (x ∷ with_pieces page pieces links)) (suc i))
    on again true e zero k =
        let is : x ≡ a = cc in
        IsLeft zero k (ap (λ (y : Link). y.page) (sym is) ∙ eqb-true x.page page e) (first_of_both pieces links)
    on again true e (suc i) k = left i (eqb-true x.page page e) (behind_next nodes level pieces links (are zero x refl (eqb-true x.page page e)) i a k)
    on again false e zero k =
        let is : x ≡ a = cc in
        IsOther zero k (λ same. eqb-false x.page page e (ap (λ (y : Link). y.page) is ∙ same)) (joined_head page pieces links)
    on again false e (suc i) k =
        further nodes level page pieces links x a (slice_get (with_pieces page pieces links) (suc i))
        (again i a k)
