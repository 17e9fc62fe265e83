-- What was removed is in no chain, whatever lands.
use Rattle.std.proofs.Common.{◌≡◌, ◌⊎◌, inl, inr, ℕ, Bool, true, false, List, [], ◌∷◌, ◌++◌, refl, sym, ap, ◌∙◌}
use Rattle.cloud_facts.specs.Words.{Inner, Tree, Version, CloudState, Link, Store, Node, IsIn}
use Rattle.cloud_trait.specs.State.{IsEmptyCloud}
use Rattle.db_base.specs.declared.names.ObjName.TheVariants as object
use Rattle.cloud_facts.specs.Book.Book.{with_pieces}
use Rattle.cloud_facts.specs.Book.Effects.{Taking, after_leaf, after_page, after_inner, after_raise, after_removal}
use Rattle.cloud_facts.specs.Book.Growth.{Grows}
use Rattle.cloud_facts.specs.Book.Premises.{Removes, AreThere}
use Rattle.cloud_facts.specs.Book.Tally.{at2}
use Rattle.cloud_facts.specs.Book.Telling.{is_gone}
use Rattle.cloud_facts.specs.Chains.Gones.{Gones, AreKept}
use Rattle.cloud_facts.proofs.Book.Empty.{empty_store}
use Rattle.cloud_facts.proofs.Book.Names.{at2_by}
use Rattle.cloud_facts.proofs.Chains.Pieces.{joined_cases}

-- no page of a link was removed
pub links_kept : (st : Store) → Gones st → (tree : ℕ) → AreKept (st.book.chain tree) (st.tally.gone tree)
links_kept st h tree level link linked = on (st.tally.gone tree link.page) refl
  where
    on : (b : Bool) → st.tally.gone tree link.page ≡ b → st.tally.gone tree link.page ≡ false
    on true e = absurd ((h tree link.page e).1 level link linked refl)
    on false e = e

-- nor was one that never landed
pub absent_kept : (st : Store) → Gones st → (tree page : ℕ) → st.tally.nodes tree page ≡ [] → st.tally.gone tree page ≡ false
absent_kept st h tree page none = on (st.tally.gone tree page) refl
  where
    on : (b : Bool) → st.tally.gone tree page ≡ b → st.tally.gone tree page ≡ false
    on true e = absurd ((h tree page e).0 none)
    on false e = e

-- ---- what lands

-- something stays in a list that goes on
still_some : {A : Type 0} (xs more ys : List A) → ys ≡ xs ++ more → (xs ≡ [] → ⊥) → ys ≡ [] → ⊥
still_some [] more ys is some none = some refl
still_some (x ∷ xs) more ys is some none = let no : x ∷ (xs ++ more) ≡ [] = sym is ∙ none in cc

-- where nothing more was removed, and what joins a chain was not
pub kept_by : (st su : Store) → Grows st su → ((tree page : ℕ) → su.tally.gone tree page ≡ true → st.tally.gone tree page ≡ true)
    → ((tree level : ℕ) (link : Link) → IsIn (su.book.chain tree level) link → IsIn (st.book.chain tree level) link ⊎ (st.tally.gone tree link.page ≡ false))
    → Gones st → Gones su
kept_by st su grows same joins h tree page gone = (some, out)
  where
    was : st.tally.gone tree page ≡ true
    was = same tree page gone

    some : su.tally.nodes tree page ≡ [] → ⊥
    some none = still_some (st.tally.nodes tree page) (grows.nodes tree page).0 (su.tally.nodes tree page) (grows.nodes tree page).1 (h tree page was).0 none

    out : (level : ℕ) (link : Link) → IsIn (su.book.chain tree level) link → link.page ≡ page → ⊥
    out level link linked is = on (joins tree level link linked)
      where
        on : IsIn (st.book.chain tree level) link ⊎ (st.tally.gone tree link.page ≡ false) → ⊥
        on (inl old) = (h tree page was).1 level link old is
        on (inr there) = let no : false ≡ true = sym there ∙ (ap (λ (p : ℕ). st.tally.gone tree p) is ∙ was) in cc

-- pages join behind a page
pieces_join : (st : Store) (tree level page : ℕ) (pieces : List Link) → AreThere st tree pieces → (t l : ℕ) (link : Link)
    → IsIn (at2 tree level (with_pieces page pieces (st.book.chain tree level)) st.book.chain t l) link
    → IsIn (st.book.chain t l) link ⊎ (st.tally.gone t link.page ≡ false)
pieces_join st tree level page pieces there t l link =
    at2_by (λ a k links. IsIn links link → IsIn (st.book.chain a k) link ⊎ (st.tally.gone a link.page ≡ false)) tree level
    (with_pieces page pieces (st.book.chain tree level)) st.book.chain (λ is. on (joined_cases page pieces (st.book.chain tree level) link is)) (λ a k is. inl is) t l
  where
    on : IsIn (st.book.chain tree level) link ⊎ IsIn pieces link → IsIn (st.book.chain tree level) link ⊎ (st.tally.gone tree link.page ≡ false)
    on (inl old) = inl old
    on (inr new) = inr (there link new)

pub leaf_keeps : (st : Store) (p : Taking) → Grows st (after_leaf p st) → AreThere st p.tree p.pieces → Gones st → Gones (after_leaf p st)
leaf_keeps st p grows there h = kept_by st (after_leaf p st) grows (λ t q is. is) (pieces_join st p.tree 0 p.page p.pieces there) h

pub inner_keeps : (st : Store) (tree page : ℕ) (inner : Inner) (pieces : List Link) → Grows st (after_inner tree page inner pieces st)
    → AreThere st tree pieces → Gones st → Gones (after_inner tree page inner pieces st)
inner_keeps st tree page inner pieces grows there h =
    kept_by st (after_inner tree page inner pieces st) grows (λ t q is. is) (pieces_join st tree inner.level page pieces there) h

pub page_keeps : (st : Store) (tree page : ℕ) (node : Node) (own : ℕ → ℕ) → Grows st (after_page tree page node own st) → Gones st
    → Gones (after_page tree page node own st)
page_keeps st tree page node own grows h = kept_by st (after_page tree page node own st) grows (λ t q is. is) (λ t l link is. inl is) h

-- a level of new links
pub raise_keeps : (st : Store) (tree : ℕ) (root : Tree) (level : ℕ) (links : List Link) → Grows st (after_raise tree root level links st)
    → AreThere st tree links → Gones st → Gones (after_raise tree root level links st)
raise_keeps st tree root level links grows there h = kept_by st (after_raise tree root level links st) grows (λ t q is. is) joins h
  where
    joins : (t l : ℕ) (link : Link) → IsIn (at2 tree level links st.book.chain t l) link → IsIn (st.book.chain t l) link ⊎ (st.tally.gone t link.page ≡ false)
    joins t l link =
        at2_by (λ a k ls. IsIn ls link → IsIn (st.book.chain a k) link ⊎ (st.tally.gone a link.page ≡ false)) tree level links st.book.chain
        (λ is. inr (there link is)) (λ a k is. inl is) t l

-- a page is removed
pub removal_keeps : (st : Store) (tree page : ℕ) → Removes st tree page → Gones st → Gones (after_removal tree page st)
removal_keeps st tree page o h =
    at2_by (λ t q b. b ≡ true → (st.tally.nodes t q ≡ [] → ⊥) × ((level : ℕ) (link : Link) → IsIn (st.book.chain t level) link → link.page ≡ q → ⊥)) tree page true
    st.tally.gone (λ is. (o.landed, o.unlinked)) (λ t q is. h t q is)

-- ---- the beginning

pub empty_gones : (s : CloudState) → IsEmptyCloud s → Gones (empty_store s)
empty_gones s empty tree page gone =
    let none : is_gone (s.versions (object.Page tree page)) ≡ false = ap (λ (vs : List Version). is_gone vs) (empty.versions (object.Page tree page)) in
    let no : true ≡ false = sym gone ∙ none in
    absurd (cc)
