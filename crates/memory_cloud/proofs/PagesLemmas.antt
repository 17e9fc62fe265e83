-- The pages read off the map of objects are the tree's, in ascending order.
use Rattle.std.proofs.Common.{◌≡◌, ◌<◌, ◌&&◌, ◌==◌, ℕ, List, [], ◌∷◌, ◌++◌, Bool, true, false, cond, Option, Some, All, Contains, is_some, IsSome, refl, sym, subst, inl, inr, arith, nat_cmp, is_eq, Ordering, Less, Equal, Greater}
use Rattle.std.specs.BTreeMap.{BTreeMap, IsOrdered, get, is_at}
use Rattle.std.specs.Global.{Vec}
use Rattle.std.specs.List.{AllByRecursion}
use Rattle.std.specs.List.Sorted.{IsStrictlySortedBy}
use Rattle.std.specs.Map.{keys_of, lookup}
use Rattle.std.specs.Option.{option_map_or}
use Rattle.std.specs.Ordering.{ordering_then, MatchOrdering}
use Rattle.std.proofs.lemmas.Bool.Decides.{eqb_tells}
use Rattle.std.proofs.lemmas.Cmp.{nat_cmp_total, ranked, tied_itself}
use Rattle.std.proofs.lemmas.List.Elements.{All-nil, All-cons, All-head, All-weaker, recursion_from_All, Contains-append_right}
use Rattle.std.proofs.lemmas.Map.Keys.{sorted_head, sorted_tail}
use Rattle.std.proofs.lemmas.Map.Views.{All-found, exact_unsigned_eq}
use Rattle.db_base.specs.Ids.{IsPage}
use Rattle.db_base.specs.declared.names.ObjName.{ObjName}
use Rattle.db_base.specs.declared.names.ObjName.TheVariants.{Head, Tree, Page}
use Rattle.cloud_trait.specs.declared.state.Version.{Version}
use Rattle.cloud_trait.specs.Listing.{AscendAbove}
use Rattle.cloud_trait.specs.Names.{object_cmp}
use Rattle.cloud_trait.specs.State.{newest_of}
use Rattle.cloud_trait.proofs.NameLemmas.{object_cmp-total, object_cmp-equal}
use Rattle.memory_cloud.specs.Pages.{page_at, pages_of, IsListed}

-- a page before one of the same tree has the lower number
less_below : (p q : ℕ) (o : Ordering) → o ≡ nat_cmp p q → o ≡ Less → p < q
less_below p q o is less =
    let P : Ordering → Type 0 = λ x. MatchOrdering x (p < q) (p ≡ q) (q < p) in
    subst P less (ranked p q o is)

page_below : (tree p q : ℕ) → object_cmp (Page tree p) (Page tree q) ≡ Less → p < q
page_below tree p q less =
    let P : Ordering → Type 0 = λ o. ordering_then o (nat_cmp p q) ≡ Less in
    less_below p q (nat_cmp p q) refl (subst P (tied_itself nat_cmp_total tree) less)

-- a page of a tree is one of this tree that has bytes, or it adds nothing
page_cases : (tree of page : ℕ) (vs : List Version) (rest : List ℕ) (P : List ℕ → Type 0) → (of ≡ tree → IsSome (newest_of vs) → P (page ∷ rest)) → P rest → P (page_at tree (Page of page) vs ++ rest)
page_cases tree of page vs rest P here other = on (of == tree) (is_some (newest_of vs)) (λ same is. here (exact_unsigned_eq of tree same) is) other where
  on : (same is : Bool) → (same ≡ true → is ≡ true → P (page ∷ rest)) → P rest → P (cond (same && is) (page ∷ []) [] ++ rest)
  on true true f g = f refl refl
  on true false f g = g
  on false is f g = g

-- the pages of the tree behind one of its pages have numbers above it
pages_above : (tree p : ℕ) (es : List (ObjName × Vec Version)) → AllByRecursion (λ y. object_cmp (Page tree p) y ≡ Less) (keys_of es) → All (λ q. p < q) (pages_of tree es)
pages_above tree p [] h = All-nil (λ q. p < q)
pages_above tree p ((Head c, v) ∷ es) h = pages_above tree p es h.1
pages_above tree p ((Tree t, v) ∷ es) h = pages_above tree p es h.1
pages_above tree p ((Page t q, v) ∷ es) h =
    let more = pages_above tree p es h.1 in
    let L : ℕ → Type 0 = λ x. object_cmp (Page tree p) (Page x q) ≡ Less in
    page_cases tree t q v.items (pages_of tree es) (λ xs. All (λ x. p < x) xs)
    (λ same is. All-cons (λ x. p < x) q (pages_of tree es) (page_below tree p q (subst L same h.0)) more)
    more

pages_ascend : (tree low : ℕ) (es : List (ObjName × Vec Version)) → IsStrictlySortedBy object_cmp (keys_of es) → All (λ q. low < q) (pages_of tree es) → AscendAbove low (pages_of tree es)
pages_ascend tree low [] s h = tt
pages_ascend tree low ((Head c, v) ∷ es) s h = pages_ascend tree low es (sorted_tail object_cmp (Head c) (keys_of es) s) h
pages_ascend tree low ((Tree t, v) ∷ es) s h = pages_ascend tree low es (sorted_tail object_cmp (Tree t) (keys_of es) s) h
pages_ascend tree low ((Page t q, v) ∷ es) s h =
    let rest = sorted_tail object_cmp (Page t q) (keys_of es) s in
    let behind = sorted_head object_cmp (Page t q) (keys_of es) s in
    let B : ℕ → Type 0 = λ x. AllByRecursion (λ y. object_cmp (Page x q) y ≡ Less) (keys_of es) in
    page_cases tree t q v.items (pages_of tree es) (λ xs. All (λ x. low < x) xs → AscendAbove low xs)
    (λ same is above. (All-head (λ x. low < x) q (pages_of tree es) above, pages_ascend tree q es rest (pages_above tree q es (subst B same behind))))
    (λ above. pages_ascend tree low es rest above)
    h

-- what a look-up finds at a page
abbrev found_at : (ObjName → Option (Vec Version)) → ℕ → ℕ → Option (List ℕ)
found_at f tree page = newest_of (option_map_or (λ (v : Vec Version). v.items) (f (Page tree page)) [])

-- each of the pages has bytes
pages_have : (f : ObjName → Option (Vec Version)) (tree : ℕ) (es : List (ObjName × Vec Version)) → AllByRecursion (λ (e : ObjName × Vec Version). f e.0 ≡ Some e.1) es → All (λ page. IsSome (found_at f tree page)) (pages_of tree es)
pages_have f tree [] h = All-nil (λ page. IsSome (found_at f tree page))
pages_have f tree ((Head c, v) ∷ es) h = pages_have f tree es h.1
pages_have f tree ((Tree t, v) ∷ es) h = pages_have f tree es h.1
pages_have f tree ((Page t q, v) ∷ es) h =
    let more = pages_have f tree es h.1 in
    let F : ℕ → Type 0 = λ x. f (Page x q) ≡ Some v in
    let N : Option (Vec Version) → Type 0 = λ o. IsSome (newest_of (option_map_or (λ (v : Vec Version). v.items) o [])) in
    page_cases tree t q v.items (pages_of tree es) (λ xs. All (λ page. IsSome (found_at f tree page)) xs)
    (λ same is. All-cons (λ page. IsSome (found_at f tree page)) q (pages_of tree es) (subst N (sym (subst F same h.0)) is) more)
    more

-- a page of the tree that has bytes is one of them
page_there : (tree page : ℕ) (vs : List Version) (rest : List ℕ) → IsSome (newest_of vs) → Contains (page_at tree (Page tree page) vs ++ rest) page
page_there tree page vs rest is =
    let same : (tree == tree) ≡ true = elim (eqb_tells tree tree) [ inl w ↦ w.0 | inr w ↦ absurd (w.1 refl) ] in
    rw (same, is) (0, omega arith, refl)

pages_whole : (tree page : ℕ) (es : List (ObjName × Vec Version)) → IsSome (found_at (λ name. lookup (is_at (object_cmp name)) es) tree page) → Contains (pages_of tree es) page
pages_whole tree page [] h = absurd (cc)
pages_whole tree page (e ∷ es) h = on (object_cmp (Page tree page) e.0) refl h (pages_whole tree page es) where
  on : (o : Ordering) → object_cmp (Page tree page) e.0 ≡ o → IsSome (newest_of (option_map_or (λ (v : Vec Version). v.items) (cond (is_eq o) (Some e.1) (lookup (is_at (object_cmp (Page tree page))) es)) [])) → (IsSome (found_at (λ name. lookup (is_at (object_cmp name)) es) tree page) → Contains (pages_of tree es) page) → Contains (page_at tree e.0 e.1.items ++ pages_of tree es) page
  on Less is there more = Contains-append_right (page_at tree e.0 e.1.items) (pages_of tree es) page (more there)
  on Greater is there more = Contains-append_right (page_at tree e.0 e.1.items) (pages_of tree es) page (more there)
  on Equal is there more =
      let P : ObjName → Type 0 = λ k. Contains (page_at tree k e.1.items ++ pages_of tree es) page in
      subst P (object_cmp-equal (Page tree page) e.0 is) (page_there tree page e.1.items (pages_of tree es) there)

pages_listed : (m : BTreeMap ObjName (Vec Version)) (tree : ℕ) → IsOrdered object_cmp m → All IsPage (pages_of tree m.entries) → IsListed m tree (pages_of tree m.entries)
pages_listed m tree ordered are = record {
  ascending = pages_ascend tree 0 m.entries ordered (All-weaker IsPage (λ q. 0 < q) (λ q h. omega (arith, h)) (pages_of tree m.entries) are);
  have = pages_have (get object_cmp m) tree m.entries (recursion_from_All (λ (e : ObjName × Vec Version). get object_cmp m e.0 ≡ Some e.1) m.entries (All-found object_cmp-total m ordered));
  whole = λ page. pages_whole tree page m.entries;
}

-- what one walk over the map collects is a listing
pub walked_listed : (m : BTreeMap ObjName (Vec Version)) (tree : ℕ) (pages : List ℕ) → IsOrdered object_cmp m → pages ≡ pages_of tree m.entries → All IsPage pages → IsListed m tree pages
walked_listed m tree pages ordered all are =
    let A : List ℕ → Type 0 = All IsPage in
    subst (IsListed m tree) (sym all) (pages_listed m tree ordered (subst A all are))
