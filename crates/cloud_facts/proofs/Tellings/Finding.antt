-- The newest leaf of a page of the leaf chain is found for the keys that it holds.
use Rattle.std.proofs.Common.{◌≡◌, ◌+◌, ℕ, true, false, List, [], ◌∷◌, ◌++◌, Option, Some, None, sym, ap, subst, ◌∙◌, ◌⊎◌, inl, inr}
use Rattle.std.specs.Prelude.{slice_get}
use Rattle.byte_format.specs.Order.{bytes_below}
use Rattle.cloud_facts.specs.Words.{Leaf, CloudState, Book, Link, StandsAt, nodes_of}
use Rattle.leaf_view.specs.Lookup.{holds}
use Rattle.cloud_facts.specs.Book.Premises.{Ranges}
use Rattle.cloud_facts.specs.Book.Telling.{newest_leaf, page_from, page_for, leaf_for}
use Rattle.cloud_facts.specs.Chains.Chain.{AreLevels, AreVersions, AreNewest}
use Rattle.cloud_facts.proofs.Chains.Joining.{level_apart}
use Rattle.cloud_facts.specs.Tellings.Taking.{IsLinked}
use Rattle.cloud_facts.proofs.Tellings.Ranges.{IsBetween, IsBeyond, newest_between, held, unheld, goes_here}
use Rattle.cloud_facts.proofs.Tellings.Walks.{Split, split_at, IsBefore, stops_here}

module _ (book : Book) (s : CloudState) (tree page height : ℕ) (lv : AreLevels (book.chain tree) height) (vs : AreVersions (book.chain tree) (nodes_of s tree))
    (nw : AreNewest (book.chain tree) (nodes_of s tree)) (at : IsLinked (book.chain tree 0) page) where
  abbrev old : Leaf
  old = newest_leaf (nodes_of s) tree page

  abbrev links : List Link
  links = book.chain tree 0

  pub split : Split links at.place at.link
  split = split_at None links at.place at.link (lv.ascends 0) (level_apart (book.chain tree) height lv 0) at.linked

  pub between : IsBetween old at.link.low (slice_get split.rest 0)
  between =
      subst (λ (o : Option Link). IsBetween old at.link.low o) split.next
      (subst (λ (p : ℕ). IsBetween (newest_leaf (nodes_of s) tree p) at.link.low (slice_get links (at.place + 1))) at.page_is
      (newest_between (book.chain tree) (nodes_of s tree) height lv vs nw at.place at.link at.linked))

  -- where a key goes
  pub goes_before : (key : List ℕ) → page_for book tree key ≡ page_from 1 key (split.front ++ at.link ∷ split.rest)
  goes_before key = ap (page_from 1 key) split.is

  pub found_before : (key : List ℕ) → holds old key ≡ true → leaf_for book (nodes_of s) tree key ≡ old
  found_before key h =
      let p = held old at.link split.rest key between h in
      ap (newest_leaf (nodes_of s) tree)
      (goes_before key ∙ goes_here key split.front at.link split.rest split.below p.0 ∙ stops_here key at.link.page split.rest p.1 ∙ at.page_is)

  pub between_next : IsBetween old at.link.low (slice_get links (at.place + 1))
  between_next = subst (λ (o : Option Link). IsBetween old at.link.low o) (sym split.next) between

  -- the range is that of the page's link
  pub ranges_are : Ranges book tree page (holds old)
  ranges_are = record {
    place = at.place;
    link = at.link;
    linked = at.linked;
    page_is = at.page_is;
    low = λ key h. (held old at.link split.rest key between h).0;
    below = λ next key there h. next_below key next (held old at.link split.rest key between h).1 (sym split.next ∙ there);
    whole = λ key h. out key (unheld old at.link split.rest key between h);
  }
    where
      first_below : (key : List ℕ) (next : Link) (rest : List Link) → IsBefore key rest → slice_get rest 0 ≡ Some next → bytes_below key next.low ≡ true
      first_below key next [] before e = absurd (cc)
      first_below key next (x ∷ rest) before e = let same : x ≡ next = cc in ap (λ (a : Link). bytes_below key a.low) (sym same) ∙ before

      next_below : (key : List ℕ) (next : Link) → IsBefore key split.rest → slice_get split.rest 0 ≡ Some next → bytes_below key next.low ≡ true
      next_below key next before e = first_below key next split.rest before e

      out : (key : List ℕ) → (bytes_below key at.link.low ≡ true) ⊎ ((bytes_below key at.link.low ≡ false) × IsBeyond key split.rest)
          → (bytes_below key at.link.low ≡ true) ⊎ ((next : Link) × StandsAt links (at.place + 1) next × (bytes_below key next.low ≡ false))
      out key (inl e) = inl e
      out key (inr (e, b)) = inr (b.link, split.next ∙ ap (λ (ls : List Link). slice_get ls 0) b.is, b.from)
