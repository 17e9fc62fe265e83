-- Where a walk along the newest leaves comes to, by the links that it passed.
use Rattle.std.proofs.Common.{◌≡◌, ◌<◌, ℕ, zero, suc, true, List, [], ◌∷◌, ◌++◌, length, Option, Some, Ok, refl, sym, ap, subst, ◌∙◌, ◌⊎◌, inl, inr, arith}
use Rattle.std.specs.Prelude.{slice_get, slice_index_or}
use Rattle.std.specs.List.{Contains}
use Rattle.byte_format.specs.Order.{bytes_below}
use Rattle.cloud_facts.specs.Words.{Trouble, Leaf, CloudState, Link, IsIn, StandsAt}
use Rattle.db_base.specs.declared.trouble.Trouble.TheVariants.{Failed, Late, Busy, Waiting, Stale, Absent, NotALeaf, Damaged, BadFence, Loop, Exhausted, Memory}
use Rattle.leaf_view.specs.Fits.{Ascend}
use Rattle.cloud_facts.specs.Chains.Links.{link_below, page_after, low_after}
use Rattle.cloud_facts.proofs.Chains.Pieces.{none_in, in_first, in_rest, in_cases, in_back, ascend_all}
use Rattle.replay_meaning.specs.Chain.{IsReadAs}
use Rattle.replay_meaning.proofs.ChainLemmas.{one_leaf}
use Rattle.world_audit.specs.Stop.{pages_of, Meet, StopsWalk}
use Rattle.cloud_facts.specs.Meanings.Contents.{leaves_of}
use Rattle.cloud_facts.proofs.Meanings.Pages.{IsLeafAt}

abbrev pub AreAt : CloudState → ℕ → (ℕ → Leaf) → List Link → Type 0
AreAt s tree leaf links = (place : ℕ) (link : Link) → StandsAt links place link → IsLeafAt s tree leaf link (slice_get links (suc place))

-- the low key that the leaves of the first links lead to is that of the next link, which there is
pub meets : (s : CloudState) (tree : ℕ) (leaf : ℕ → Leaf) (front rest : List Link) → AreAt s tree leaf (front ++ rest) → (first low : List ℕ)
    → low_after (slice_get (front ++ rest) 0) ≡ Some first → Meet first (leaves_of leaf front) low → low_after (slice_get rest 0) ≡ Some low
meets s tree leaf [] rest each first low begins meet = begins ∙ ap (λ (k : List ℕ). Some k) meet
meets s tree leaf (x ∷ front) rest each first low begins meet =
    let at = each zero x refl in
    meets s tree leaf front rest (λ place a k. each (suc place) a k) meet.1 low (sym at.ends.high ∙ meet.2) meet.3

-- the pages of those leaves are those of the links
pub visited : (s : CloudState) (tree : ℕ) (leaf : ℕ → Leaf) (front rest : List Link) → AreAt s tree leaf (front ++ rest) → (from page : ℕ)
    → from ≡ page_after (slice_get (front ++ rest) 0) → IsIn (pages_of from (leaves_of leaf front)) page → (a : Link) × IsIn front a × (a.page ≡ page)
visited s tree leaf [] rest each from page begins k = absurd (none_in page k)
visited s tree leaf (x ∷ front) rest each from page begins k =
    on (visited s tree leaf front rest (λ place a k. each (suc place) a k) (leaf x.page).right page (each zero x refl).ends.right)
    (in_cases from (pages_of (leaf x.page).right (leaves_of leaf front)) page k)
  where
    further : (a : Link) × IsIn front a × (a.page ≡ page) → (a : Link) × IsIn (x ∷ front) a × (a.page ≡ page)
    further p = (p.0, in_rest x front p.0 p.1, p.2)

    on : (IsIn (pages_of (leaf x.page).right (leaves_of leaf front)) page → (a : Link) × IsIn front a × (a.page ≡ page))
        → (from ≡ page) ⊎ IsIn (pages_of (leaf x.page).right (leaves_of leaf front)) page → (a : Link) × IsIn (x ∷ front) a × (a.page ≡ page)
    on again (inl e) = (x, in_first x front, sym begins ∙ e)
    on again (inr k) = further (again k)

-- the links before one are below it
pub front_below : (before : Option Link) (front : List Link) (y : Link) (rest : List Link) → Ascend link_below before (front ++ y ∷ rest)
    → (a : Link) → IsIn front a
    → bytes_below a.low y.low ≡ true
front_below before [] y rest up a k = absurd (none_in a k)
front_below before (x ∷ front) y rest up a k = on (front_below (Some x) front y rest up.1 a) (in_cases x front a k)
  where
    on : (IsIn front a → bytes_below a.low y.low ≡ true) → (x ≡ a) ⊎ IsIn front a → bytes_below a.low y.low ≡ true
    on again (inl e) =
        ap (λ (z : Link). bytes_below z.low y.low) (sym e) ∙ ascend_all x (front ++ y ∷ rest) y up.1 (in_back front (y ∷ rest) y (in_first y rest))
    on again (inr k) = again k

contains_at : (xs : List ℕ) (x k : ℕ) → k < length xs → slice_index_or xs k x ≡ x → IsIn xs x
contains_at [] x k less is = absurd (omega (arith, less))
contains_at (y ∷ xs) x zero less is = (zero, ap (λ (z : ℕ). Some z) is)
contains_at (y ∷ xs) x (suc k) less is = in_rest y xs x (contains_at xs x k (omega (arith, less)) is)

pub contains_in : (xs : List ℕ) (x : ℕ) → Contains xs x → IsIn xs x
contains_in xs x h = contains_at xs x h.0 h.1 h.2

-- nothing stops a walk at a page that reads as a leaf with the low key that is expected, and was not visited
pub no_stop : (tree : ℕ) (pages : List ℕ) (page : ℕ) (low : List ℕ) (bytes : Option (List ℕ)) (l : Leaf) → IsReadAs tree page bytes (Ok l) → l.low ≡ low
    → (IsIn pages page → ⊥) → (trouble : Trouble) → StopsWalk tree pages page low bytes trouble → ⊥
no_stop tree pages page low bytes l reads low_is new (Absent p) why =
    let P : Option (List ℕ) → Type 0 = λ b. IsReadAs tree page b (Ok l) in
    why.1 (subst P why.2 reads).0
no_stop tree pages page low bytes l reads low_is new (Damaged there at) why =
    let P : Option (List ℕ) → Type 0 = λ b. IsReadAs tree page b (Ok l) in
    why.4 l (subst P why.2 reads)
no_stop tree pages page low bytes l reads low_is new (Loop p) why = new (contains_in pages page why.1)
no_stop tree pages page low bytes l reads low_is new (BadFence p expected found) why =
    let same : l ≡ why.2 = one_leaf tree page bytes l why.2 reads why.3 in
    why.5 (why.1 ∙ sym low_is ∙ ap (λ (x : Leaf). x.low) same ∙ sym why.4)
no_stop tree pages page low bytes l reads low_is new Failed why = why
no_stop tree pages page low bytes l reads low_is new (Late end now) why = why
no_stop tree pages page low bytes l reads low_is new (Busy lock until) why = why
no_stop tree pages page low bytes l reads low_is new (Waiting have need) why = why
no_stop tree pages page low bytes l reads low_is new (Stale p least got) why = why
no_stop tree pages page low bytes l reads low_is new (NotALeaf p) why = why
no_stop tree pages page low bytes l reads low_is new (Exhausted what) why = why
no_stop tree pages page low bytes l reads low_is new Memory why = why
