-- Which page a key goes to.
use Rattle.std.proofs.Common.{◌≡◌, ◌≢◌, ℕ, Bool, true, false, cond, List, [], ◌∷◌, refl, sym, ◌∙◌, ◌⊎◌, inl, inr}
use Rattle.byte_format.specs.Order.{bytes_below}
use Rattle.cloud_facts.specs.Book.Book.{Book, Link}
use Rattle.cloud_facts.specs.Book.Records.{IsIn}
use Rattle.cloud_facts.specs.Book.Telling.{page_from, page_for}
use Rattle.cloud_facts.proofs.Chains.Pieces.{in_first, in_rest}

-- the page of a key is that of a link, or the one before them all
pub page_cases : (before : ℕ) (key : List ℕ) (links : List Link)
    → (page_from before key links ≡ before) ⊎ ((link : Link) × IsIn links link × (page_from before key links ≡ link.page))
page_cases before key [] = inl refl
page_cases before key (link ∷ links) = on (bytes_below key link.low) (page_cases link.page key links)
  where
    on : (b : Bool) → (page_from link.page key links ≡ link.page) ⊎ ((l : Link) × IsIn links l × (page_from link.page key links ≡ l.page))
        → (cond b before (page_from link.page key links) ≡ before) ⊎
        ((l : Link) × IsIn (link ∷ links) l × (cond b before (page_from link.page key links) ≡ l.page))
    on true again = inl refl
    on false (inl e) = inr (link, in_first link links, e)
    on false (inr p) = inr (p.0, in_rest link links p.0 p.1, p.2)

-- no key goes to a page above 1 that is in no link of the leaf chain
pub never_goes : (book : Book) (tree page : ℕ) (key : List ℕ) → page ≢ 1 → ((link : Link) → IsIn (book.chain tree 0) link → link.page ≢ page)
    → page_for book tree key ≢ page
never_goes book tree page key above unlinked e = on (page_cases 1 key (book.chain tree 0))
  where
    on : (page_for book tree key ≡ 1) ⊎ ((link : Link) × IsIn (book.chain tree 0) link × (page_for book tree key ≡ link.page)) → ⊥
    on (inl one) = above (sym e ∙ one)
    on (inr p) = unlinked p.0 p.1 (sym p.2 ∙ e)
