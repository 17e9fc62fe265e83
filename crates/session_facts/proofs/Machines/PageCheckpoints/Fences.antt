-- Where a leaf of the chain leads to the right, by the versions that landed and the order of low keys.
use Rattle.std.proofs.Common.{◌≡◌, ◌≢◌, ◌⊎◌, inl, inr, ◌||◌, ◌==◌, ℕ, zero, suc, Bool, true, false, not, List, [], ◌∷◌, ◌++◌, Option, Some, None, refl, sym, ap, subst, ◌∙◌}
use Rattle.std.specs.Prelude.{slice_get}
use Rattle.std.specs.List.{list_any}
use Rattle.std.proofs.lemmas.Bool.{eqb-true}
use Rattle.byte_format.specs.Order.{bytes_below, bytes_same, below_bound}
use Rattle.byte_format.proofs.OrderLemmas.{same_is}
use Rattle.cloud_facts.specs.Chains.Chain.{AreLevels, AreVersions, IsVersionOf, NamesRight}
use Rattle.cloud_facts.specs.Chains.Links.{first_link}
use Rattle.cloud_facts.proofs.Chains.Newest.{last_in}
use Rattle.cloud_facts.proofs.Chains.Pieces.{not_itself}
use Rattle.db_base.specs.Change.{key_of}
use Rattle.cloud_facts.specs.Words.{PuItem, Leaf, Link, Node, Leafy, IsIn}
use Rattle.leaf_view.specs.Lookup.{empty_leaf, page_at}
use Rattle.node_codec.proofs.EntryLemmas.{above, below_chain}
use Rattle.page_ckpt.specs.Paging.{reaches_beyond, link_by, link_of}
use Rattle.cloud_facts.specs.Book.Telling.{last_or, leaf_in}
use Rattle.cloud_facts.proofs.Book.Places.{in_either, in_none}
use Rattle.session_facts.specs.Machines.PageCheckpoints.Rights.{IsLanded, IsNewestLeaf, IsUptoLink, RunLeads}

-- ---- the order of low keys

-- what is above a key is above all that are not above it
pub below_from : (a b c : List ℕ) → bytes_below a b ≡ false → bytes_below a c ≡ true → bytes_below b c ≡ true
below_from a b c not_above below = on (bytes_same a b) refl
  where
    on : (same : Bool) → bytes_same a b ≡ same → bytes_below b c ≡ true
    on true e = subst (λ (x : List ℕ). bytes_below x c ≡ true) (same_is a b e) below
    on false e = below_chain b a c (above a b not_above e) below

-- and never below them
pub not_below_from : (a b c : List ℕ) → bytes_below a b ≡ false → bytes_below a c ≡ true → bytes_below c b ≡ false
not_below_from a b c not_above below = on (bytes_below c b) refl
  where
    on : (less : Bool) → bytes_below c b ≡ less → bytes_below c b ≡ false
    on true e =
        let ring : bytes_below c c ≡ true = below_chain c b c e (below_from a b c not_above below) in
        let none : bytes_below c c ≡ false = not_itself c in
        absurd (cc)
    on false e = e

-- ---- the fences of a leaf that landed

-- the low key is that of the link, and where there is a right page it is that of a link further right, with the high key
pub record HasFences (links : List Link) (link : Link) (l : Leaf) : Type 0 where
  pub low : l.low ≡ link.low
  pub right : l.right ≢ 0 → NamesRight links link (Leafy l)
  pub last : l.right ≡ 0 → l.high ≡ None

pub landed_fences : (chain : ℕ → List Link) (nodes : ℕ → List Node) (height : ℕ) → AreLevels chain height → AreVersions chain nodes → (link : Link) → IsIn (chain 0) link → (l : Leaf)
    → IsLanded nodes link.page l → HasFences (chain 0) link l
landed_fences chain nodes height levels versions link linked l (inl empty) =
    subst (HasFences (chain 0) link) (sym empty.1)
    (record { low = sym (levels.once 0 0 link first_link linked first empty.0).1; right = λ some. absurd (some refl); last = λ none. refl })
  where
    first : IsIn (chain 0) first_link
    first = (zero, ap (λ (ls : List Link). slice_get ls 0) levels.leaves.1)
landed_fences chain nodes height levels versions link linked l (inr there) =
    let v : IsVersionOf (chain 0) 0 link (Leafy l) = versions 0 link (Leafy l) linked there in
    record { low = v.low; right = v.right; last = v.last }

-- the newest leaf landed
pub newest_landed : (nodes : ℕ → List Node) (page : ℕ) (l : Leaf) → IsNewestLeaf nodes page l → IsLanded nodes page l
newest_landed nodes page l newest = on (nodes page) refl
  where
    on : (ns : List Node) → nodes page ≡ ns → IsLanded nodes page l
    on [] e =
        let is : Leafy empty_leaf ≡ Leafy l = ap (λ (ms : List Node). last_or (Leafy empty_leaf) ms) (sym e) ∙ newest.is in
        inl (newest.absent e, ap leaf_in (sym is))
    on (n ∷ ns) e = inr (subst (IsIn (nodes page)) newest.is (last_in (Leafy empty_leaf) (nodes page) (λ none. some (sym e ∙ none))))
      where
        some : n ∷ ns ≡ [] → ⊥
        some none = cc

-- ---- the link that a run takes

-- a right page that is named
pub named_right : (n page : ℕ) → page_at n ≡ Some page → n ≡ page
named_right zero page e = absurd (cc)
named_right (suc n) page e = cc

none_named : (n : ℕ) → page_at n ≡ None → n ≡ 0
none_named zero e = refl
none_named (suc n) e = absurd (cc)

pub some_named : (n page : ℕ) → page_at n ≡ Some page → n ≢ 0
some_named zero page e none = absurd (cc)
some_named (suc n) page e none = absurd (cc)

-- no key of a run is beyond a bound
none_beyond : (bound : Option (List ℕ)) (run : List PuItem) → reaches_beyond bound run ≡ false → (x : PuItem) → IsIn run x → below_bound (key_of x.rec.change) bound ≡ true
none_beyond bound [] e x (place, there) = absurd (cc)
none_beyond bound (y ∷ run) e x is = on (below_bound (key_of y.rec.change) bound) refl e (none_beyond bound run) is
  where
    on : (b : Bool) → below_bound (key_of y.rec.change) bound ≡ b → (not b || reaches_beyond bound run) ≡ false
        → (reaches_beyond bound run ≡ false → (w : PuItem) → IsIn run w → below_bound (key_of w.rec.change) bound ≡ true) → IsIn (y ∷ run) x
        → below_bound (key_of x.rec.change) bound ≡ true
    on true h f again (zero, there) = let same : y ≡ x = cc in subst (λ (w : PuItem). below_bound (key_of w.rec.change) bound ≡ true) same h
    on true h f again (suc place, there) = again f x (place, there)
    on false h f again at = absurd (cc)

pub link_leads : (links : List Link) (link : Link) (l : Leaf) (run : List PuItem) → HasFences links link l → RunLeads links link.low l.high run (link_of l run)
link_leads links link l run fences = on (page_at l.right) l.high (reaches_beyond l.high run) refl refl refl
  where
    on : (o : Option ℕ) (high : Option (List ℕ)) (b : Bool) → page_at l.right ≡ o → l.high ≡ high → reaches_beyond l.high run ≡ b
        → RunLeads links link.low l.high run (link_by o high b)
    on None high b e f g = λ x is. ap (below_bound (key_of x.rec.change)) (fences.last (none_named l.right e))
    on (Some page) None b e f g = λ x is. ap (below_bound (key_of x.rec.change)) f
    on (Some page) (Some high) false e f g = none_beyond l.high run g
    on (Some page) (Some high) true e f g =
        let names : NamesRight links link (Leafy l) = fences.right (some_named l.right page e) in
        let both : Some names.next.low ≡ Some high = sym names.high_is ∙ f in
        let low_is : names.next.low ≡ high = cc in
        let page_is : names.next.page ≡ page = names.page_is ∙ named_right l.right page e in
        let next_is : names.next ≡ record { low = high; page = page } = λ i. record { low = low_is i; page = page_is i } in (
          subst (IsIn links) next_is names.linked,
          ap (bytes_below link.low) (sym low_is) ∙ names.beyond,
          f,
        )

-- ---- no page is come to twice

module _ (chain : ℕ → List Link) (height : ℕ) (levels : AreLevels chain height) (at low : List ℕ) (next : ℕ) (linked : IsIn (chain 0) (record { low = low; page = next }))
    (beyond : bytes_below at low ≡ true) where
  -- a page that is not further right than one before
  pub another : (page : ℕ) → IsUptoLink (chain 0) at page → next ≢ page
  another page k e = never (sym (not_itself low) ∙ ap (λ (x : List ℕ). bytes_below x low) (sym same) ∙ below_from at k.link.low low k.upto beyond)
    where
      same : k.link.low ≡ low
      same = (levels.once 0 0 k.link (record { low = low; page = next }) k.linked linked (k.page_is ∙ sym e)).1

      never : false ≡ true → ⊥
      never q = cc

  -- is not further right than the next one
  pub upto_next : (page : ℕ) → IsUptoLink (chain 0) at page → IsUptoLink (chain 0) low page
  upto_next page k = record { link = k.link; linked = k.linked; page_is = k.page_is; upto = not_below_from at k.link.low low k.upto beyond }

  -- nor is that one itself
  pub upto_itself : IsUptoLink (chain 0) low next
  upto_itself = record { link = record { low = low; page = next }; linked = linked; page_is = refl; upto = not_itself low }

  pub upto_more : (visited : List ℕ) → ((p : ℕ) → IsIn visited p → IsUptoLink (chain 0) at p) → (p : ℕ) → IsIn (visited ++ next ∷ []) p → IsUptoLink (chain 0) low p
  upto_more visited behind p is = on (in_either visited (next ∷ []) p is)
    where
      on : IsIn visited p ⊎ IsIn (next ∷ []) p → IsUptoLink (chain 0) low p
      on (inl old) = upto_next p (behind p old)
      on (inr (zero, there)) = let same : next ≡ p = cc in subst (IsUptoLink (chain 0) low) same upto_itself
      on (inr (suc place, there)) = absurd (in_none [] p refl (place, there))

  pub unseen : (visited : List ℕ) → ((p : ℕ) → IsIn visited p → IsUptoLink (chain 0) at p) → list_any (λ q. q == next) visited ≡ false
  unseen [] behind = refl
  unseen (q ∷ visited) behind = on (q == next) refl (unseen visited (λ p is. behind p (suc is.0, is.1)))
    where
      on : (b : Bool) → (q == next) ≡ b → list_any (λ p. p == next) visited ≡ false → (b || list_any (λ p. p == next) visited) ≡ false
      on true e rest = absurd (another q (behind q (zero, refl)) (sym (eqb-true q next e)))
      on false e rest = rest

  -- so the next page was not come to
  pub not_visited : (page : ℕ) (visited : List ℕ) → IsUptoLink (chain 0) at page → ((p : ℕ) → IsIn visited p → IsUptoLink (chain 0) at p)
      → ((next == page) || list_any (λ q. q == next) visited) ≡ false
  not_visited page visited home behind = on (next == page) refl
    where
      on : (b : Bool) → (next == page) ≡ b → (b || list_any (λ q. q == next) visited) ≡ false
      on true e = absurd (another page home (eqb-true next page e))
      on false e = unseen visited behind
