-- What is known of the leaves of a tree: each page has one, and they lead from one to the next.
use Rattle.std.proofs.Common.{◌≡◌, ℕ, zero, suc, List, [], ◌∷◌, ◌++◌, Option, Some, None, Ok, refl, sym, ap, subst, ◌∙◌}
use Rattle.std.specs.Prelude.{map}
use Rattle.std.proofs.lemmas.List.{flat_map_more}
use Rattle.db_base.specs.Ids.{IsPage}
use Rattle.report_types.specs.declared.stored.Stored.{Stored}
use Rattle.byte_format.proofs.Wholes.{one_value}
use Rattle.cloud_trait.specs.State.{CloudState}
use Rattle.leaf_view.specs.Leaf.{Leaf, leaf}
use Rattle.leaf_view.specs.Fits.{Ascend, entry_below, IsHigh}
use Rattle.leaf_view.specs.Lookup.{page_at}
use Rattle.leaf_view.proofs.Exact.{leaf_exact}
use Rattle.leaf_view.proofs.Split.{leaf_fits}
use Rattle.replay_meaning.specs.Chain.{IsReadAs, IsNewestLeaf, Leads, Walked, records_of, stored_of}

-- ---- the newest leaf of a page

pub one_leaf : (tree page : ℕ) (bytes : Option (List ℕ)) (l m : Leaf) → IsReadAs tree page bytes (Ok l) → IsReadAs tree page bytes (Ok m) → l ≡ m
one_leaf tree page None l m a b = a.1 ∙ sym b.1
one_leaf tree page (Some bytes) l m a b = one_value leaf leaf_exact bytes l m a b

pub read_ascends : (tree page : ℕ) (bytes : Option (List ℕ)) (l : Leaf) → IsReadAs tree page bytes (Ok l) → Ascend entry_below None l.records
read_ascends tree page None l is = subst (λ (x : Leaf). Ascend entry_below None x.records) (sym is.1) tt
read_ascends tree page (Some bytes) l is = (leaf_fits l is.fits).1.records_ascend

pub read_high : (tree page : ℕ) (bytes : Option (List ℕ)) (l : Leaf) → IsReadAs tree page bytes (Ok l) → IsHigh l.low l.right l.high
read_high tree page None l is = subst (λ (x : Leaf). IsHigh x.low x.right x.high) (sym is.1) refl
read_high tree page (Some bytes) l is = (leaf_fits l is.fits).1.high

-- ---- leaves that lead on

-- one leaf further
pub leads_on : (s : CloudState) (tree from : ℕ) (leaves : List Leaf) (page : ℕ) (l : Leaf)
    → Leads s tree from leaves page → IsPage page → IsNewestLeaf s tree page l → Leads s tree from (leaves ++ l ∷ []) l.right
leads_on s tree from [] page l e low is = let P : ℕ → Type 0 = λ p. IsPage p × IsNewestLeaf s tree p l × (l.right ≡ l.right) in subst P (sym e) (low, is, refl)
leads_on s tree from (x ∷ xs) page l h low is = (h.0, h.1, leads_on s tree x.right xs page l h.2 low is)

-- the page that a right link of some number names
pub right_page : (n to : ℕ) → Some to ≡ page_at n → n ≡ to
right_page zero to e = cc
right_page (suc n) to e = cc

pub no_page : (n : ℕ) → None ≡ page_at n → n ≡ 0
no_page zero e = refl
no_page (suc n) e = cc

pub records_on : (leaves : List Leaf) (l : Leaf) (old new : List Stored) → old ≡ records_of leaves → new ≡ old ++ map stored_of l.records → new ≡ records_of (leaves ++ l ∷ [])
records_on leaves l old new o n = n ∙ (ap (λ (x : List Stored). x ++ map stored_of l.records) o ∙ flat_map_more (λ (m : Leaf). map stored_of m.records) [] leaves l)

-- ---- a walk

-- a walk begins at page 1, with no record
pub walk_begins : (s : CloudState) (tree : ℕ) → Walked s tree 1 []
walk_begins s tree = record { leaves = []; lead = refl; are = refl }
