-- What a listing brings, and what the removal of an orphan leaves of the others.
use Rattle.std.proofs.Common.{◌≡◌, ◌≢◌, ◌+◌, ◌<◌, ◌≤◌, ◌==◌, ◌&&◌, ◌⊎◌, inl, inr, ℕ, zero, suc, nat_lt, Bool, true, false, cond, List, [], ◌∷◌, length, Option, Some, None, refl, sym, ap, subst, ◌∙◌, arith}
use Rattle.std.specs.Prelude.{slice_get, not, Contains, IsSome}
use Rattle.std.proofs.lemmas.Bool.{ltb-true, ltb-false}
use Rattle.std.proofs.lemmas.List.Elements.{All-contains}
use Rattle.std.proofs.lemmas.Option.{slice_get_within, get_or_from_slice_get}
use Rattle.cloud_facts.specs.Words.{Entry, CloudState, newest, Book, Link, Store, IsIn, StandsAt, nodes_of, store_of, StandsUnder}
use Rattle.cloud_facts.specs.Book.Effects.{after_removal}
use Rattle.cloud_facts.specs.Book.Premises.{Removes}
use Rattle.cloud_facts.specs.Book.Telling.{gone_of}
use Rattle.cloud_facts.proofs.Audits.Visits.{contains_in}
use Rattle.cloud_facts.proofs.Calls.Pages.{none_landed, some_landed}
use Rattle.cloud_facts.proofs.Chains.Pieces.{none_in, in_cases}
use Rattle.cloud_facts.proofs.Decoding.Newest.{newest_last, last_there}
use Rattle.cloud_facts.proofs.Tellings.Names.{at2_same, at2_beside}
use Rattle.cloud_trait.specs.Listing.{AscendAbove, IsListing}
use Rattle.db_base.specs.declared.names.ObjName.TheVariants as object
use Rattle.orphan_sweep.proofs.Lists.{ascends, stray_at}
use Rattle.orphan_sweep.specs.Sweeping.{is_among, strays}
use Rattle.session_facts.specs.Machines.Sweeps.Places.{AreAll}
use Rattle.session_facts.specs.Machines.Sweeps.Knows.{IsClearing}
use Rattle.session_facts.proofs.Machines.Sweeps.Places.{among_in, in_among}

-- ---- lists

-- in a list that ascends the further is the greater
above_all : (low : ℕ) (xs : List ℕ) (j b : ℕ) → AscendAbove low xs → StandsAt xs j b → low < b
above_all low [] j b up there = absurd (none_in b (j, there))
above_all low (x ∷ xs) zero b up there = let same : x ≡ b = cc (there) in subst (λ (n : ℕ). low < n) same up.0
above_all low (x ∷ xs) (suc j) b up there = let further = above_all x xs j b up.1 there in omega (arith, up.0, further)

further_above : (low : ℕ) (xs : List ℕ) (i j a b : ℕ) → AscendAbove low xs → StandsAt xs i a → StandsAt xs j b → i < j → a < b
further_above low [] i j a b up there here less = absurd (none_in a (i, there))
further_above low (x ∷ xs) zero zero a b up there here less = absurd (omega (arith, less))
further_above low (x ∷ xs) zero (suc j) a b up there here less =
    let same : x ≡ a = cc (there) in subst (λ (n : ℕ). n < b) same (above_all x xs j b up.1 here)
further_above low (x ∷ xs) (suc i) zero a b up there here less = absurd (omega (arith, less))
further_above low (x ∷ xs) (suc i) (suc j) a b up there here less = further_above x xs i j a b up.1 there here (omega (arith, less))

-- a listed page that was not come to is a stray
pub stray_in : (visited listed : List ℕ) (page : ℕ) → IsIn listed page → is_among visited page ≡ false → IsIn (strays visited listed) page
stray_in visited [] page is apart = absurd (none_in page is)
stray_in visited (x ∷ xs) page is apart = on (is_among visited x) refl (in_cases x xs page is) (λ k. stray_in visited xs page k apart)
  where
    on : (b : Bool) → is_among visited x ≡ b → (x ≡ page) ⊎ IsIn xs page → (IsIn xs page → IsIn (strays visited xs) page)
        → IsIn (cond (not b) (x ∷ strays visited xs) (strays visited xs)) page
    on true seen (inl same) again = let no : true ≡ false = sym seen ∙ (ap (is_among visited) same ∙ apart) in absurd (cc (no))
    on true seen (inr k) again = again k
    on false new (inl same) again = (zero, ap (λ (n : ℕ). Some n) same)
    on false new (inr k) again = let r = again k in (suc r.0, r.1)

some_is : (o : Option (List ℕ)) → IsSome o → (bytes : List ℕ) × (o ≡ Some bytes)
some_is (Some bytes) is = (bytes, refl)
some_is None is = absurd (cc (is))

-- ---- what a listing brings

module _ (book : Book) (order : List Entry) (s : CloudState) (stands : StandsUnder book order s) (tree : ℕ) (visited listed : List ℕ) (all : AreAll (book.chain tree) visited)
    (l : IsListing s tree listed) where
  abbrev st : Store
  st = store_of book order s

  -- a page that was not come to is in no chain
  unlinked : (page : ℕ) → is_among visited page ≡ false → (level : ℕ) (link : Link) → IsIn (book.chain tree level) link → link.page ≢ page
  unlinked page apart level link linked e =
      let no : true ≡ false = sym (in_among visited link.page (all.pages level link linked)) ∙ (ap (is_among visited) e ∙ apart) in
      absurd (cc (no))

  -- a page in no chain was not come to
  apart_from : (page : ℕ) → ((level : ℕ) (link : Link) → IsIn (book.chain tree level) link → link.page ≢ page) → is_among visited page ≡ false
  apart_from page out = on (is_among visited page) refl
    where
      on : (b : Bool) → is_among visited page ≡ b → b ≡ false
      on true e = let o = all.only page (among_in visited page e) in absurd (out o.level o.link o.linked o.page_is)
      on false e = refl

  -- an object with newest bytes has landed, and was not removed
  bytes_there : (page : ℕ) (bytes : List ℕ) → newest s (object.Page tree page) ≡ Some bytes → gone_of s tree page ≡ false
  bytes_there page bytes e =
      let last = newest_last (s.versions (object.Page tree page)) bytes e in
      last_there (s.versions (object.Page tree page)) last.0 bytes last.1 last.2

  bytes_landed : (page : ℕ) (bytes : List ℕ) → newest s (object.Page tree page) ≡ Some bytes → nodes_of s tree page ≢ []
  bytes_landed page bytes e none = let no : None ≡ Some bytes = sym (some_landed s tree page none) ∙ e in absurd (cc (no))

  removes : (page : ℕ) → is_among listed page ≡ true → is_among visited page ≡ false → Removes st tree page
  removes page there apart =
      let is = some_is (newest s (object.Page tree page)) (have (among_in listed page there)) in
      record { unlinked = unlinked page apart; landed = bytes_landed page is.0 is.1; there = bytes_there page is.0 is.1 }
    where
      in_contains : (xs : List ℕ) (x place : ℕ) → StandsAt xs place x → Contains xs x
      in_contains xs x place e = (place, slice_get_within xs place x e, get_or_from_slice_get xs place x x e)

      have : IsIn listed page → IsSome (newest s (object.Page tree page))
      have is = All-contains (λ n. IsSome (newest s (object.Page tree n))) listed page l.have (in_contains listed page is.0 is.1)

  -- it has newest bytes where it landed and was not removed
  has_bytes : (page : ℕ) → nodes_of s tree page ≢ [] → gone_of s tree page ≡ false → IsSome (newest s (object.Page tree page))
  has_bytes page landed there = on (newest s (object.Page tree page)) refl
    where
      on : (o : Option (List ℕ)) → newest s (object.Page tree page) ≡ o → IsSome o
      on (Some bytes) e = refl
      on None e = absurd (landed (none_landed s tree page stands.decodes there e))

  pub listing_clears : IsClearing st tree visited (strays visited listed) 0
  listing_clears = record {
    all = all;
    ascending = ascends (λ page. not (is_among visited page)) 0 listed l.ascending;
    gone = λ place page before there. absurd (omega (arith, before));
    left = λ place page from there. let stray = stray_at visited listed place page there in removes page stray.0 stray.1;
    whole = λ page other r.
        let is = stray_in visited listed page (contains_in listed page (l.whole page (has_bytes page r.landed r.there))) (apart_from page r.unlinked) in
        (is.0, omega arith, is.1);
  }

-- ---- what a removal leaves

-- what is gone is gone still, and nothing else is than that page
still_gone : (b g : Bool) → g ≡ true → cond b true g ≡ true
still_gone true g e = refl
still_gone false g e = e

there_before : (b g : Bool) → cond b true g ≡ false → g ≡ false
there_before true g e = absurd (cc (e))
there_before false g e = e

module _ (st : Store) (tree : ℕ) (visited orphans : List ℕ) (removed page : ℕ) (k : IsClearing st tree visited orphans removed) (next : slice_get orphans removed ≡ Some page) where
  abbrev su : Store
  su = after_removal tree page st

  now_gone : (place p : ℕ) → place < removed + 1 → StandsAt orphans place p → su.tally.gone tree p ≡ true
  now_gone place p before there = on (nat_lt place removed) refl
    where
      on : (b : Bool) → nat_lt place removed ≡ b → su.tally.gone tree p ≡ true
      on true e = still_gone ((tree == tree) && (p == page)) (st.tally.gone tree p) (k.gone place p (ltb-true place removed e) there)
      on false e =
          let from = ltb-false place removed e in
          let at : place ≡ removed = omega (arith, before, from) in
          let both : Some p ≡ Some page = sym there ∙ (ap (slice_get orphans) at ∙ next) in
          let same : p ≡ page = cc (both) in
          at2_same tree page true st.tally.gone tree p refl same

  now_left : (place p : ℕ) → removed + 1 ≤ place → StandsAt orphans place p → Removes su tree p
  now_left place p from there =
      let r = k.left place p (omega (arith, from)) there in
      let greater : page < p = further_above 0 orphans removed place page p k.ascending next there (omega (arith, from)) in
      record {
        unlinked = r.unlinked;
        landed = r.landed;
        there = at2_beside tree page true st.tally.gone tree p (λ same. omega (arith, greater, same)) ∙ r.there;
      }

  pub removal_clears : IsClearing su tree visited orphans (removed + 1)
  removal_clears = record {
    all = k.all;
    ascending = k.ascending;
    gone = now_gone;
    left = now_left;
    whole = λ p other r.
        let old = k.whole p other (record {
          unlinked = r.unlinked;
          landed = r.landed;
          there = there_before ((tree == tree) && (p == page)) (st.tally.gone tree p) r.there;
        }) in
        (old.0, further old.0 p old.1 old.2 r.there, old.2);
  }
    where
      further : (place p : ℕ) → removed ≤ place → StandsAt orphans place p → su.tally.gone tree p ≡ false → removed + 1 ≤ place
      further place p from there not_gone = on (nat_lt removed place) refl
        where
          on : (b : Bool) → nat_lt removed place ≡ b → removed + 1 ≤ place
          on true e = let less = ltb-true removed place e in omega (arith, less)
          on false e =
              let upto = ltb-false removed place e in
              let gone : su.tally.gone tree p ≡ true = now_gone place p (omega (arith, upto)) there in
              let no : true ≡ false = sym gone ∙ not_gone in
              absurd (cc (no))

-- ---- the end

-- once all orphans are removed, none is left that landed and is in no chain
pub all_swept : (st : Store) (tree : ℕ) (visited orphans : List ℕ) (removed : ℕ) → IsClearing st tree visited orphans removed → removed ≡ length orphans → (page : ℕ) → page ≢ 1
    → Removes st tree page → ⊥
all_swept st tree visited orphans removed k all page other r =
    let at = k.whole page other r in
    let within = slice_get_within orphans at.0 page at.2 in
    omega (arith, all, within, at.1)
