-- The way of a settling to the right: it stays what it is while the cloud grows, and leads to no page twice.
use Rattle.std.proofs.Common.{◌≡◌, ◌∙◌, ℕ, zero, suc, false, List, [], ◌∷◌, ◌++◌, Some, None, refl, ap, subst}
use Rattle.std.specs.Prelude.{slice_get}
use Rattle.cloud_facts.specs.Words.{Trouble, Leaf, Link, Store, Leafy, IsIn}
use Rattle.cloud_facts.specs.Book.Growth.{Grows}
use Rattle.cloud_facts.specs.Chains.Chain.{AreLevels, AreVersions, NamesRight}
use Rattle.cloud_facts.specs.Chains.Links.{first_link}
use Rattle.leaf_view.specs.Lookup.{page_at}
use Rattle.page_ckpt.specs.Paging.{new_paging}
use Rattle.session_facts.specs.Machines.PageCheckpoints.Rights.{IsLanded, IsUptoLink}
use Rattle.session_facts.proofs.Machines.PageCheckpoints.Fences.{landed_fences, named_right, some_named, unseen, upto_more}
use Rattle.session_facts.proofs.Machines.PageCheckpoints.Others.{landed_stays, upto_stays}
use Rattle.session_facts.specs.Machines.Settlings.Knows.{ReadsPage, ComesTo, KnowsWay}
use Rattle.settle_run.specs.declared.part.Part.{Part as AtWork}
use Rattle.settle_run.specs.declared.part.Part.TheVariants.{Client, Tree, Page}
use Rattle.settle_run.specs.Settling.{Settling, is_visited}

-- ---- while the cloud grows

pub comes_stays : (st su : Store) (tree page : ℕ) (visited : List ℕ) → Grows st su → ComesTo st tree page visited → ComesTo su tree page visited
comes_stays st su tree page visited grows k = record {
  low = k.low;
  linked = grows.links tree 0 (record { low = k.low; page = page }) k.linked;
  behind = λ p there. upto_stays (st.book.chain tree 0) (su.book.chain tree 0) (grows.links tree 0) k.low p (k.behind p there);
}

pub way_stays : (st su : Store) (w : AtWork) (visited : List ℕ) → Grows st su → KnowsWay st w visited → KnowsWay su w visited
way_stays st su (Client client m) visited grows k = tt
way_stays st su (Tree tree m) visited grows k = tt
way_stays st su (Page tree page m) visited grows k = (
  comes_stays st su tree page visited grows k.0,
  record {
    landed = λ none past. landed_stays (st.tally.nodes tree) (su.tally.nodes tree) page m.home (grows.nodes tree page) (k.1.landed none past);
    fair = k.1.fair;
  },
)

-- ---- a page's checkpoint at its begin

pub reads_nothing : (st : Store) (tree page : ℕ) → ReadsPage st tree page (new_paging tree page)
reads_nothing st tree page = record { landed = λ none past. absurd past; fair = λ t e. absurd (never t e) }
  where
    never : (t : Trouble) → None ≡ Some t → ⊥
    never t e = absurd (cc)

-- ---- to the right

module _ (st : Store) (tree height : ℕ) (levels : AreLevels (st.book.chain tree) height) (versions : AreVersions (st.book.chain tree) (st.tally.nodes tree)) where
  abbrev links : List Link
  links = st.book.chain tree 0

  -- the first page is at the left end
  pub first_comes : ComesTo st tree 1 (1 ∷ [])
  first_comes = record { low = []; linked = first; behind = behind }
    where
      first : IsIn links first_link
      first = (zero, ap (λ (ls : List Link). slice_get ls 0) levels.leaves.1)

      none : (p : ℕ) → IsIn [] p → IsUptoLink links [] p
      none p (place, there) = absurd (cc)

      behind : (p : ℕ) → IsIn (1 ∷ []) p → IsUptoLink links [] p
      behind p (zero, there) = let same : 1 ≡ p = cc in record { link = first_link; linked = first; page_is = same; upto = refl }
      behind p (suc place, there) = none p (place, there)

  module _ (page : ℕ) (home : Leaf) (visited : List ℕ) (comes : ComesTo st tree page visited) (landed : IsLanded (st.tally.nodes tree) page home) (right : ℕ)
      (named : page_at home.right ≡ Some right) where
    abbrev link : Link
    link = record { low = comes.low; page = page }

    names : NamesRight links link (Leafy home)
    names = (landed_fences (st.book.chain tree) (st.tally.nodes tree) height levels versions link comes.linked home landed).right (some_named home.right right named)

    page_is : names.next.page ≡ right
    page_is = names.page_is ∙ named_right home.right right named

    next_is : names.next ≡ record { low = names.next.low; page = right }
    next_is = λ i. record { low = names.next.low; page = page_is i }

    linked : IsIn links (record { low = names.next.low; page = right })
    linked = subst (IsIn links) next_is names.linked

    -- it is a page of the chain, whose own checkpoints did not begin before
    pub right_comes : ComesTo st tree right (visited ++ right ∷ [])
    right_comes = record {
      low = names.next.low;
      linked = linked;
      behind = upto_more (st.book.chain tree) height levels comes.low names.next.low right linked names.beyond visited comes.behind;
    }

    pub right_unvisited : (s : Settling) → s.visited ≡ visited → is_visited s right ≡ false
    right_unvisited s same =
        ap (λ (v : List ℕ). is_visited (record s { visited = v }) right) same
        ∙ unseen (st.book.chain tree) height levels comes.low names.next.low right linked names.beyond visited comes.behind
