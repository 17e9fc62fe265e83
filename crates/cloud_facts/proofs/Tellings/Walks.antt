-- How a key goes along links that ascend.
use Rattle.std.proofs.Common.{◌≡◌, ◌≢◌, ◌+◌, ℕ, zero, suc, Bool, true, false, cond, List, [], ◌∷◌, ◌++◌, Option, Some, refl, sym, ap, subst, ◌∙◌, arith}
use Rattle.std.specs.Prelude.{slice_get}
use Rattle.std.specs.List.{AllByRecursion}
use Rattle.std.proofs.lemmas.Bool.{eq-eqb, ne_eqb}
use Rattle.byte_format.specs.Order.{bytes_below}
use Rattle.leaf_view.specs.Fits.{Ascend}
use Rattle.node_codec.proofs.EntryLemmas.{below_chain}
use Rattle.cloud_facts.specs.Book.Book.{Link, with_pieces}
use Rattle.cloud_facts.specs.Book.Records.{StandsAt, IsIn}
use Rattle.cloud_facts.specs.Book.Telling.{page_from}
use Rattle.cloud_facts.specs.Chains.Links.{link_below}
use Rattle.cloud_facts.proofs.Chains.Pieces.{Apart, in_first, in_rest, ascend_all}

-- ---- a link, with those before it and those behind it

pub record Split (links : List Link) (place : ℕ) (link : Link) : Type 0 where
  pub front : List Link
  pub rest : List Link
  pub is : links ≡ front ++ link ∷ rest
  pub next : slice_get links (place + 1) ≡ slice_get rest 0
  pub below : AllByRecursion (λ a. bytes_below a.low link.low ≡ true) front
  pub front_other : AllByRecursion (λ a. a.page ≢ link.page) front
  pub rest_other : AllByRecursion (λ a. a.page ≢ link.page) rest

all_of : (P : Link → Type 0) (links : List Link) → ((a : Link) → IsIn links a → P a) → AllByRecursion P links
all_of P [] h = tt
all_of P (x ∷ links) h = (h x (in_first x links), all_of P links (λ a k. h a (in_rest x links a k)))

pub split_at : (before : Option Link) (links : List Link) (place : ℕ) (link : Link) → Ascend link_below before links → Apart links
    → StandsAt links place link → Split links place link
split_at before [] place link up apart there = absurd (cc)
split_at before (x ∷ links) zero link up apart there =
    let same : x ≡ link = cc in
    record {
      front = [];
      rest = links;
      is = ap (λ (a : Link). a ∷ links) same;
      next = refl;
      below = tt;
      front_other = tt;
      rest_other = subst (λ (a : Link). AllByRecursion (λ b. b.page ≢ a.page) links) same (all_of (λ b. b.page ≢ x.page) links apart.0);
    }
split_at before (x ∷ links) (suc place) link up apart there = let again = split_at (Some x) links place link up.1 apart.1 there in record {
  front = x ∷ again.front;
  rest = again.rest;
  is = ap (λ (ls : List Link). x ∷ ls) again.is;
  next = (let n : suc place + 1 ≡ suc (place + 1) = omega arith in ap (slice_get (x ∷ links)) n) ∙ again.next;
  below = (ascend_all x links link up.1 (place, there), again.below);
  front_other = ((λ e. apart.0 link (place, there) (sym e)), again.front_other);
  rest_other = again.rest_other;
}

-- pieces that join behind the link's page
pub with_pieces-split : (page : ℕ) (pieces front : List Link) (link : Link) (rest : List Link) → link.page ≡ page
    → AllByRecursion (λ a. a.page ≢ link.page) front
    → with_pieces page pieces (front ++ link ∷ rest) ≡ front ++ link ∷ (pieces ++ rest)
with_pieces-split page pieces [] link rest e other =
    ap (λ (b : Bool). cond b (link ∷ (pieces ++ rest)) (link ∷ with_pieces page pieces rest)) (eq-eqb link.page page e)
with_pieces-split page pieces (x ∷ front) link rest e other =
    ap (λ (b : Bool). cond b (x ∷ (pieces ++ (front ++ link ∷ rest))) (x ∷ with_pieces page pieces (front ++ link ∷ rest)))
    (ne_eqb x.page page (λ h. other.0 (h ∙ sym e)))
    ∙ ap (λ (ls : List Link). x ∷ ls) (with_pieces-split page pieces front link rest e other.1)

-- ---- where a key goes

-- the key is below none of the low keys
abbrev pub IsFrom : List ℕ → List Link → Type 0
IsFrom key links = AllByRecursion (λ a. bytes_below key a.low ≡ false) links

-- a low key that is below one that is at most the key
not_above : (key low least : List ℕ) → bytes_below least low ≡ true → bytes_below key low ≡ false → bytes_below key least ≡ false
not_above key low least less from = on (bytes_below key least) refl
  where
    on : (b : Bool) → bytes_below key least ≡ b → b ≡ false
    on true e = let h : bytes_below key low ≡ true = below_chain key least low e less in absurd (cc)
    on false e = refl

pub from_below : (key low : List ℕ) (links : List Link) → AllByRecursion (λ a. bytes_below a.low low ≡ true) links → bytes_below key low ≡ false
    → IsFrom key links
from_below key low [] below from = tt
from_below key low (x ∷ links) below from = (not_above key low x.low below.0 from, from_below key low links below.1 from)

-- links that are not above the key are passed
pub passes : (key : List ℕ) (before : ℕ) (links : List Link) (link : Link) (rest : List Link) → IsFrom key links → bytes_below key link.low ≡ false
    → page_from before key (links ++ link ∷ rest) ≡ page_from link.page key rest
passes key before [] link rest from here = ap (λ (b : Bool). cond b before (page_from link.page key rest)) here
passes key before (x ∷ links) link rest from here =
    ap (λ (b : Bool). cond b before (page_from x.page key (links ++ link ∷ rest))) from.0 ∙ passes key x.page links link rest from.1 here

-- what is behind a link above the key does not count
pub stops : (key : List ℕ) (before : ℕ) (links : List Link) (link : Link) (rest : List Link) → bytes_below key link.low ≡ true
    → page_from before key (links ++ link ∷ rest) ≡ page_from before key links
stops key before [] link rest here = ap (λ (b : Bool). cond b before (page_from link.page key rest)) here
stops key before (x ∷ links) link rest here = ap (λ (p : ℕ). cond (bytes_below key x.low) before p) (stops key x.page links link rest here)

-- the key is below the first of the links, where there is one
abbrev pub IsBefore : List ℕ → List Link → Type 0
IsBefore key [] = Unit {0}
IsBefore key (x ∷ links) = bytes_below key x.low ≡ true

pub stops_here : (key : List ℕ) (page : ℕ) (rest : List Link) → IsBefore key rest → page_from page key rest ≡ page
stops_here key page [] before = refl
stops_here key page (x ∷ rest) before = ap (λ (b : Bool). cond b page (page_from x.page key rest)) before

-- the page of a key is that before the links, or none of those that they are not of
pub goes_other : (key : List ℕ) (before page : ℕ) (links : List Link) → before ≢ page → AllByRecursion (λ a. a.page ≢ page) links
    → page_from before key links ≢ page
goes_other key before page [] ne other = ne
goes_other key before page (x ∷ links) ne other = on (bytes_below key x.low) (goes_other key x.page page links other.0 other.1)
  where
    on : (b : Bool) → page_from x.page key links ≢ page → cond b before (page_from x.page key links) ≢ page
    on true again = ne
    on false again = again
