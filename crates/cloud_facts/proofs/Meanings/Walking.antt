-- A walk to the right along the links of a level.
use Rattle.std.proofs.Common.{◌≡◌, ℕ, zero, suc, Bool, true, false, cond, List, [], ◌∷◌, Option, Some, None, refl, sym, ap, subst, ◌∙◌}
use Rattle.std.specs.Prelude.{slice_get}
use Rattle.byte_format.specs.Order.{bytes_below}
use Rattle.leaf_view.specs.Fits.{Ascend}
use Rattle.node_codec.proofs.EntryLemmas.{below_chain}
use Rattle.cloud_facts.specs.Book.Book.{Link}
use Rattle.cloud_facts.specs.Book.Records.{StandsAt}
use Rattle.cloud_facts.specs.Book.Telling.{page_from}
use Rattle.cloud_facts.specs.Chains.Links.{link_below}
use Rattle.cloud_facts.proofs.Chains.Pieces.{none_stands, ascend_all}
use Rattle.cloud_facts.specs.Meanings.Meets.{IsFrom}

-- the key is below the next link, where there is one
abbrev pub IsBefore : List ℕ → Option Link → Type 0
IsBefore key None = Unit {0}
IsBefore key (Some next) = bytes_below key next.low ≡ true

-- a low key below one that is not above the key is not above it either
pub still_from : (key low least : List ℕ) → bytes_below least low ≡ true → bytes_below key low ≡ false → bytes_below key least ≡ false
still_from key low least less from = on (bytes_below key least) refl
  where
    on : (b : Bool) → bytes_below key least ≡ b → b ≡ false
    on true e = let under : bytes_below key low ≡ true = below_chain key least low e less in absurd (cc)
    on false e = refl

-- what holds of the page where the walk for a key ends, and of each page whose right page it holds of, holds of every page from which it begins
pub walks : (P : ℕ → Type 0) (key : List ℕ) (links : List Link)
    → ((place : ℕ) (link next : Link) → StandsAt links place link → StandsAt links (suc place) next → IsFrom next key → P next.page → P link.page)
    → ((place : ℕ) (link : Link) → StandsAt links place link → IsFrom link key → IsBefore key (slice_get links (suc place)) → P link.page)
    → (place : ℕ) (link : Link) → StandsAt links place link → IsFrom link key → P link.page
walks P key [] right ends place link there from = absurd (none_stands place link there)
walks P key (x ∷ links) right ends place link there from =
    on (walks P key links (λ p a b. right (suc p) a b) (λ p a. ends (suc p) a)) place link there from
  where
    beside : ((place : ℕ) (link : Link) → StandsAt links place link → IsFrom link key → P link.page)
        → (link : Link) → StandsAt (x ∷ links) zero link → IsFrom link key → (next : Option Link) → slice_get links zero ≡ next → P link.page
    beside again link there from None e = ends zero link there from (subst (IsBefore key) (sym e) tt)
    beside again link there from (Some next) e = go (bytes_below key next.low) refl
      where
        go : (b : Bool) → bytes_below key next.low ≡ b → P link.page
        go true below = ends zero link there from (subst (IsBefore key) (sym e) below)
        go false past = right zero link next there e past (again zero next e past)

    on : ((place : ℕ) (link : Link) → StandsAt links place link → IsFrom link key → P link.page)
        → (place : ℕ) (link : Link) → StandsAt (x ∷ links) place link → IsFrom link key → P link.page
    on again zero link there from = beside again link there from (slice_get links zero) refl
    on again (suc place) link there from = again place link there from

-- the walk ends at the page for the key
stops_before : (key : List ℕ) (page : ℕ) (links : List Link) → IsBefore key (slice_get links 0) → page_from page key links ≡ page
stops_before key page [] before = refl
stops_before key page (x ∷ links) before = ap (λ (b : Bool). cond b page (page_from x.page key links)) before

pub ends_at : (key : List ℕ) (page : ℕ) (before : Option Link) (links : List Link) → Ascend link_below before links → (place : ℕ) (link : Link)
    → StandsAt links place link → IsFrom link key → IsBefore key (slice_get links (suc place)) → page_from page key links ≡ link.page
ends_at key page before [] up place link there from last = absurd (none_stands place link there)
ends_at key page before (x ∷ links) up zero link there from last =
    let is : x ≡ link = cc in
    ap (λ (b : Bool). cond b page (page_from x.page key links)) (ap (λ (a : Link). bytes_below key a.low) is ∙ from)
    ∙ stops_before key x.page links last ∙ ap (λ (a : Link). a.page) is
ends_at key page before (x ∷ links) up (suc place) link there from last =
    ap (λ (b : Bool). cond b page (page_from x.page key links)) (still_from key link.low x.low (ascend_all x links link up.1 (place, there)) from)
    ∙ ends_at key x.page (Some x) links up.1 place link there from last
