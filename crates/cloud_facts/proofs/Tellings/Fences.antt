-- The fences of the pieces of a cut.
use Rattle.std.proofs.Common.{◌≡◌, ◌+◌, ◌≤◌, ℕ, true, List, [], ◌∷◌, Option, Some, None, refl, sym, ap, subst, ◌∙◌, ◌⊎◌, inl, inr, arith}
use Rattle.std.specs.Prelude.{slice_get}
use Rattle.std.specs.List.{AllByRecursion}
use Rattle.byte_format.specs.Order.{bytes_below}
use Rattle.leaf_view.specs.Fits.{Ascend}
use Rattle.node_codec.proofs.EntryLemmas.{below_chain}
use Rattle.split_plan.specs.Cut.{front_part, back_part, cut_by}
use Rattle.split_plan.specs.Part.{Part}
use Rattle.cloud_facts.specs.Words.{Link, Node, IsIn, StandsAt}
use Rattle.cloud_facts.specs.Book.Tally.{low_of, right_of as right_page, high_of}
use Rattle.cloud_facts.specs.Chains.Chain.{IsUnlinked}
use Rattle.cloud_facts.specs.Chains.Landing.{ArePieces, LandsOn, first_or}
use Rattle.cloud_facts.specs.Chains.Links.{link_below, IsOfLevel, EndsBefore, NodeNames, page_after, low_after}
use Rattle.cloud_facts.proofs.Chains.Pieces.{none_in, in_cases}
use Rattle.cloud_facts.specs.Chains.Cuts.{links_on, HaveLanded}
use Rattle.cloud_facts.specs.Tellings.Pieces.{first_part, right_of}

-- the first of the parts has the low key of the whole
pub cut_links : {A X : Type 0} (key : A → List ℕ) (sizes : List ℕ) (page free : ℕ) (p : Part A X)
    → links_on page (cut_by key sizes free p) ≡ record { low = p.low; page = page } ∷ links_on (page + 1) (right_of (cut_by key sizes free p))
cut_links key [] page free p = refl
cut_links key (n ∷ sizes) page free p = refl

cut_low : {A X : Type 0} (key : A → List ℕ) (none : Part A X) (sizes : List ℕ) (free : ℕ) (p : Part A X)
    → (first_part none (cut_by key sizes free p)).low ≡ p.low
cut_low key none [] free p = refl
cut_low key none (n ∷ sizes) free p = refl

pub cut_common : {A X : Type 0} (key : A → List ℕ) (none : Part A X) (sizes : List ℕ) (free : ℕ) (p : Part A X)
    → (first_part none (cut_by key sizes free p)).common ≡ p.common
cut_common key none [] free p = refl
cut_common key none (n ∷ sizes) free p = refl

pub cut_version : {A X : Type 0} (key : A → List ℕ) (none : Part A X) (sizes : List ℕ) (free : ℕ) (p : Part A X)
    → (first_part none (cut_by key sizes free p)).version ≡ p.version
cut_version key none [] free p = refl
cut_version key none (n ∷ sizes) free p = refl

-- ---- low keys

-- the low key of a part is below its high key
abbrev pub Rises : {A X : Type 0} → Part A X → Type 0
Rises p = (high : List ℕ) → p.high ≡ Some high → bytes_below p.low high ≡ true

pub lows_ascend : {A X : Type 0} (key : A → List ℕ) (sizes : List ℕ) (from free : ℕ) (p : Part A X) (link : Link) → link.low ≡ p.low
    → AllByRecursion Rises (cut_by key sizes free p)
    → Ascend link_below (Some link) (links_on from (right_of (cut_by key sizes free p)))
lows_ascend key [] from free p link e rise = tt
lows_ascend key (n ∷ sizes) from free p link e rise =
    subst (λ (ls : List Link). Ascend link_below (Some link) ls) (sym (cut_links key sizes from (free + 1) (back_part key n p))) (
      ap (λ (k : List ℕ). bytes_below k (back_part key n p).low) e ∙ rise.0 (back_part key n p).low refl,
      lows_ascend key sizes (from + 1) (free + 1) (back_part key n p) (record { low = (back_part key n p).low; page = from }) refl rise.1,
    )

low_under : {A X : Type 0} (key : A → List ℕ) (sizes : List ℕ) (free : ℕ) (p : Part A X) (high : List ℕ) → p.high ≡ Some high
    → AllByRecursion Rises (cut_by key sizes free p)
    → bytes_below p.low high ≡ true
low_under key [] free p high e rise = rise.0 high e
low_under key (n ∷ sizes) free p high e rise =
    below_chain p.low (back_part key n p).low high (rise.0 (back_part key n p).low refl) (low_under key sizes (free + 1) (back_part key n p) high e rise.1)

pub lows_under : {A X : Type 0} (key : A → List ℕ) (sizes : List ℕ) (from free : ℕ) (p : Part A X) (high : List ℕ) → p.high ≡ Some high
    → AllByRecursion Rises (cut_by key sizes free p)
    → AllByRecursion (λ a. bytes_below a.low high ≡ true) (links_on from (right_of (cut_by key sizes free p)))
lows_under key [] from free p high e rise = tt
lows_under key (n ∷ sizes) from free p high e rise =
    subst (λ (ls : List Link). AllByRecursion (λ a. bytes_below a.low high ≡ true) ls) (sym (cut_links key sizes from (free + 1) (back_part key n p)))
    (low_under key sizes (free + 1) (back_part key n p) high e rise.1, lows_under key sizes (from + 1) (free + 1) (back_part key n p) high e rise.1)

pub all_in : (P : Link → Type 0) (links : List Link) → AllByRecursion P links → (a : Link) → IsIn links a → P a
all_in P [] all a h = absurd (none_in a h)
all_in P (x ∷ links) all a h = on (all_in P links all.1 a) (in_cases x links a h)
  where
    on : (IsIn links a → P a) → (x ≡ a) ⊎ IsIn links a → P a
    on again (inl e) = subst P e all.0
    on again (inr k) = again k

-- ---- pages

pages_from : {A X : Type 0} (from : ℕ) (ps : List (Part A X)) (a : Link) → IsIn (links_on from ps) a → from ≤ a.page
pages_from from [] a h = absurd (none_in a h)
pages_from from (p ∷ ps) a h = on (pages_from (from + 1) ps a) (in_cases (record { low = p.low; page = from }) (links_on (from + 1) ps) a h)
  where
    on : (IsIn (links_on (from + 1) ps) a → from + 1 ≤ a.page) → (record { low = p.low; page = from } ≡ a) ⊎ IsIn (links_on (from + 1) ps) a → from ≤ a.page
    on again (inl e) = let same : from ≡ a.page = ap (λ (x : Link). x.page) e in omega (arith, same)
    on again (inr k) = let more = again k in omega (arith, more)

-- no page comes twice
pub pages_distinct : {A X : Type 0} (from : ℕ) (ps : List (Part A X)) (a b : Link) → IsIn (links_on from ps) a → IsIn (links_on from ps) b
    → a.page ≡ b.page → a.low ≡ b.low
pages_distinct from [] a b h k e = absurd (none_in a h)
pages_distinct from (p ∷ ps) a b h k e =
    on (pages_distinct (from + 1) ps a b) (in_cases (record { low = p.low; page = from }) (links_on (from + 1) ps) a h)
    (in_cases (record { low = p.low; page = from }) (links_on (from + 1) ps) b k)
  where
    First : Link → Type 0
    First x = record { low = p.low; page = from } ≡ x

    on : (IsIn (links_on (from + 1) ps) a → IsIn (links_on (from + 1) ps) b → a.page ≡ b.page → a.low ≡ b.low)
        → (record { low = p.low; page = from } ≡ a) ⊎ IsIn (links_on (from + 1) ps) a
        → (record { low = p.low; page = from } ≡ b) ⊎ IsIn (links_on (from + 1) ps) b → a.low ≡ b.low
    on again (inl x) (inl y) = ap (λ (l : Link). l.low) (sym x ∙ y)
    on again (inl x) (inr y) =
        let same : from ≡ a.page = ap (λ (l : Link). l.page) x in
        let more = pages_from (from + 1) ps b y in
        absurd (omega (arith, same, more, e))
    on again (inr x) (inl y) =
        let same : from ≡ b.page = ap (λ (l : Link). l.page) y in
        let more = pages_from (from + 1) ps a x in
        absurd (omega (arith, same, more, e))
    on again (inr x) (inr y) = again x y e

-- ---- pieces as versions

-- versions that show a part's fences
pub record ShowsFences {A X : Type 0} (node : Part A X → Node) : Type 0 where
  pub low : (p : Part A X) → low_of (node p) ≡ p.low
  pub right : (p : Part A X) → right_page (node p) ≡ p.right
  pub high : (p : Part A X) → high_of (node p) ≡ p.high

-- a part goes up to the next link
pub record GoesTo {A X : Type 0} (p : Part A X) (next : Option Link) : Type 0 where
  pub right : p.right ≡ page_after next
  pub high : p.high ≡ low_after next

pub first_ends : {A X : Type 0} (key : A → List ℕ) (node : Part A X → Node) → ShowsFences node
    → (none : Part A X) (sizes : List ℕ) (free : ℕ) (p : Part A X) (next : Option Link) → GoesTo p next
    → EndsBefore (node (first_part none (cut_by key sizes free p))) (first_or next (links_on free (right_of (cut_by key sizes free p))))
first_ends key node shows none [] free p next goes = record { right = shows.right p ∙ goes.right; high = shows.high p ∙ goes.high }
first_ends key node shows none (n ∷ sizes) free p next goes =
    subst (λ (ls : List Link). EndsBefore (node (front_part key n free p)) (first_or next ls)) (sym (cut_links key sizes free (free + 1) (back_part key n p)))
    (record { right = shows.right (front_part key n free p); high = shows.high (front_part key n free p) })

landed_first : {A X : Type 0} (key : A → List ℕ) (node : Part A X → Node) (nodes : ℕ → List Node) (none : Part A X) (sizes : List ℕ) (page free : ℕ)
    (p : Part A X)
    → HaveLanded node nodes page (cut_by key sizes free p)
    → (nodes page ≡ node (first_part none (cut_by key sizes free p)) ∷ []) × HaveLanded node nodes (page + 1) (right_of (cut_by key sizes free p))
landed_first key node nodes none [] page free p landed = (landed.0, landed.1)
landed_first key node nodes none (n ∷ sizes) page free p landed = (landed.0, landed.1)

-- the other pieces are pieces of the level
pub cut_pieces : {A X : Type 0} (key : A → List ℕ) (node : Part A X → Node) → ShowsFences node → (nodes : ℕ → List Node) (level : ℕ) (common : X)
    → ((p : Part A X) → p.common ≡ common → IsOfLevel level (node p))
    → (none : Part A X) (sizes : List ℕ) (free : ℕ) (p : Part A X) (next : Option Link) → p.common ≡ common → GoesTo p next
    → HaveLanded node nodes free (right_of (cut_by key sizes free p)) → ArePieces nodes level (links_on free (right_of (cut_by key sizes free p))) next
cut_pieces key node shows nodes level common leveled none [] free p next same goes landed = tt
cut_pieces key node shows nodes level common leveled none (n ∷ sizes) free p next same goes landed =
    let back = back_part key n p in
    let f = landed_first key node nodes none sizes free (free + 1) back landed in
    subst (λ (ls : List Link). ArePieces nodes level ls next) (sym (cut_links key sizes free (free + 1) back)) (
      record {
        node = node (first_part none (cut_by key sizes (free + 1) back));
        landed = f.0;
        level_is = leveled (first_part none (cut_by key sizes (free + 1) back)) (cut_common key none sizes (free + 1) back ∙ same);
        low = shows.low (first_part none (cut_by key sizes (free + 1) back)) ∙ cut_low key none sizes (free + 1) back;
        ends = first_ends key node shows none sizes (free + 1) back next (record { right = goes.right; high = goes.high });
      },
      cut_pieces key node shows nodes level common leveled none sizes (free + 1) back next same (record { right = goes.right; high = goes.high }) f.1,
    )

-- the left piece of a cut lands on the page of a link
pub cut_lands : {A X : Type 0} (key : A → List ℕ) (node : Part A X → Node) → ShowsFences node
    → (chain : ℕ → List Link) (nodes : ℕ → List Node) (level : ℕ) (sizes : List ℕ) (free : ℕ) (p : Part A X)
    → ((q : Part A X) → q.common ≡ p.common → IsOfLevel level (node q)) → (place : ℕ) (link : Link) → StandsAt (chain level) place link → p.low ≡ link.low
    → GoesTo p (slice_get (chain level) (place + 1)) → AllByRecursion Rises (cut_by key sizes free p)
    → NodeNames chain (node (first_part p (cut_by key sizes free p)))
    → HaveLanded node nodes free (right_of (cut_by key sizes free p))
    → ((piece : Link) → IsIn (links_on free (right_of (cut_by key sizes free p))) piece → IsUnlinked chain piece.page)
    → LandsOn chain nodes level link.page (node (first_part p (cut_by key sizes free p))) (links_on free (right_of (cut_by key sizes free p)))
cut_lands key node shows chain nodes level sizes free p leveled place link linked low goes rise names landed unlinked = record {
  place = place;
  link = link;
  linked = linked;
  page_is = refl;
  level_is = leveled (first_part p (cut_by key sizes free p)) (cut_common key p sizes free p);
  low = shows.low (first_part p (cut_by key sizes free p)) ∙ cut_low key p sizes free p ∙ low;
  ends = first_ends key node shows p sizes free p (slice_get (chain level) (place + 1)) goes;
  names = names;
  pieces_are = cut_pieces key node shows nodes level p.common leveled p sizes free p (slice_get (chain level) (place + 1)) refl goes landed;
  ascends = lows_ascend key sizes free free p link (sym low) rise;
  within = λ piece next h there.
      all_in (λ a. bytes_below a.low next.low ≡ true) (links_on free (right_of (cut_by key sizes free p)))
      (lows_under key sizes free free p next.low (goes.high ∙ ap low_after there) rise) piece h;
  new = record { unlinked = unlinked; distinct = pages_distinct free (right_of (cut_by key sizes free p)) };
}

-- all pieces have what is common
cut_all_common : {A X : Type 0} (key : A → List ℕ) (sizes : List ℕ) (free : ℕ) (p : Part A X) (x : X) → p.common ≡ x
    → AllByRecursion (λ (q : Part A X). q.common ≡ x) (cut_by key sizes free p)
cut_all_common key [] free p x e = (e, tt)
cut_all_common key (n ∷ sizes) free p x e = (e, cut_all_common key sizes (free + 1) (back_part key n p) x e)

rest_all : {A X : Type 0} (P : Part A X → Type 0) (ps : List (Part A X)) → AllByRecursion P ps → AllByRecursion P (right_of ps)
rest_all P [] all = tt
rest_all P (p ∷ ps) all = all.1

pub all_common : {A X : Type 0} (key : A → List ℕ) (sizes : List ℕ) (free : ℕ) (p : Part A X)
    → AllByRecursion (λ (q : Part A X). q.common ≡ p.common) (right_of (cut_by key sizes free p))
all_common {A} {X} key sizes free p = rest_all (λ (q : Part A X). q.common ≡ p.common) (cut_by key sizes free p) (cut_all_common key sizes free p p.common refl)

-- what holds of the first part and of those behind it holds of all
pub all_parts : {A X : Type 0} (P : Part A X → Type 0) (key : A → List ℕ) (none : Part A X) (sizes : List ℕ) (free : ℕ) (p : Part A X)
    → P (first_part none (cut_by key sizes free p))
    → AllByRecursion P (right_of (cut_by key sizes free p)) → AllByRecursion P (cut_by key sizes free p)
all_parts P key none [] free p first rest = (first, rest)
all_parts P key none (n ∷ sizes) free p first rest = (first, rest)

-- ---- the pieces of a root, as a new level

-- all pieces are pieces of the level, from the first page on
pub level_pieces : {A X : Type 0} (key : A → List ℕ) (node : Part A X → Node) → ShowsFences node
    → (nodes : ℕ → List Node) (level : ℕ) (sizes : List ℕ) (first : ℕ) (p : Part A X)
    → ((q : Part A X) → q.common ≡ p.common → IsOfLevel level (node q)) → (next : Option Link) → GoesTo p next
    → HaveLanded node nodes first (cut_by key sizes (first + 1) p) → ArePieces nodes level (links_on first (cut_by key sizes (first + 1) p)) next
level_pieces key node shows nodes level sizes first p leveled next goes landed =
    let f = landed_first key node nodes p sizes first (first + 1) p landed in
    let left = first_part p (cut_by key sizes (first + 1) p) in
    subst (λ (ls : List Link). ArePieces nodes level ls next) (sym (cut_links key sizes first (first + 1) p)) (
      record {
        node = node left;
        landed = f.0;
        level_is = leveled left (cut_common key p sizes (first + 1) p);
        low = shows.low left ∙ cut_low key p sizes (first + 1) p;
        ends = first_ends key node shows p sizes (first + 1) p next goes;
      },
      cut_pieces key node shows nodes level p.common leveled p sizes (first + 1) p next refl goes f.1,
    )

-- their low keys ascend
pub level_ascends : {A X : Type 0} (key : A → List ℕ) (sizes : List ℕ) (first free : ℕ) (p : Part A X) → AllByRecursion Rises (cut_by key sizes free p)
    → Ascend link_below None (links_on first (cut_by key sizes free p))
level_ascends key sizes first free p rise =
    subst (λ (ls : List Link). Ascend link_below None ls) (sym (cut_links key sizes first free p))
    (tt, lows_ascend key sizes (first + 1) free p (record { low = p.low; page = first }) refl rise)
