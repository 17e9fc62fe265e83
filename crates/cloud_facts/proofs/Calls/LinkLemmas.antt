-- A call joins links to a tree, and removes its pages, only where it owes a lease of it.
use Rattle.std.proofs.Common.{◌≡◌, ◌==◌, ◌⊎◌, inl, inr, ℕ, Bool, true, false, cond, List, [], ◌∷◌, refl, sym, ap, subst, ◌∙◌}
use Rattle.std.proofs.lemmas.Bool.{eqb-true, eqb-false}
use Rattle.cloud_facts.specs.Words.{Caller, Claim, Ask, Link, Store}
use Rattle.cloud_facts.specs.Landings.Landing.{Landing, opens, settles, logs, posts, marks_log, marks_post, puts_leaf, puts_page, puts_inner, puts_root, raises_root, removes, stays}
use Rattle.cloud_facts.specs.Book.Book.{with_pieces}
use Rattle.cloud_facts.specs.Book.Tally.{at2}
use Rattle.cloud_facts.proofs.Book.Names.{at2_by}
use Rattle.cloud_facts.proofs.Tellings.Names.{at2_other}
use Rattle.cloud_facts.specs.Calls.Links.{in_hand_at, HasTreeLease, LinksBy, GoneBy, OwesLease}

-- no pieces join
pub no_pieces : (page : ℕ) (links : List Link) → with_pieces page [] links ≡ links
no_pieces page [] = refl
no_pieces page (x ∷ links) = on (x.page == page) (no_pieces page links)
  where
    on : (b : Bool) → with_pieces page [] links ≡ links → cond b (x ∷ links) (x ∷ with_pieces page [] links) ≡ x ∷ links
    on true e = refl
    on false e = ap (λ (l : List Link). x ∷ l) e

-- a level of one tree changes
one_level : (mine : List Claim) (now tree level : ℕ) (links : List Link) (chain : ℕ → ℕ → List Link) → HasTreeLease mine now tree → (t : ℕ)
    → ((l : ℕ) → at2 tree level links chain t l ≡ chain t l) ⊎ HasTreeLease mine now t
one_level mine now tree level links chain has t = on (t == tree) refl
  where
    on : (b : Bool) → (t == tree) ≡ b → ((l : ℕ) → at2 tree level links chain t l ≡ chain t l) ⊎ HasTreeLease mine now t
    on true e = inr (subst (HasTreeLease mine now) (sym (eqb-true t tree e)) has)
    on false e = inl (λ l. at2_other tree level links chain t l (eqb-false t tree e))

pub landing_links : (mine : List Claim) (now : ℕ) (who : Caller) (st : Store) (ask : Ask) (su : Store) → (l : Landing who st ask su) → OwesLease (in_hand_at mine now) who st ask su l
    → LinksBy mine now st su
landing_links mine now who st ask su (opens client head records bytes one two e o) owes tree = inl (λ level. refl)
landing_links mine now who st ask su (settles client head bytes one two e o) owes tree = inl (λ level. refl)
landing_links mine now who st ask su (logs client bytes r o) owes tree = inl (λ level. refl)
landing_links mine now who st ask su (posts t page bytes r o) owes tree = inl (λ level. refl)
landing_links mine now who st ask su (marks_log client id o) owes tree = inl (λ level. refl)
landing_links mine now who st ask su (marks_post t page id o) owes tree = inl (λ level. refl)
landing_links mine now who st ask su (puts_leaf p bytes one two e takes lands there) (inl none) tree =
    inl (λ level. at2_by (λ t l links. links ≡ st.book.chain t l) p.tree 0 (with_pieces p.page p.pieces (st.book.chain p.tree 0)) st.book.chain
    (ap (λ (ps : List Link). with_pieces p.page ps (st.book.chain p.tree 0)) none ∙ no_pieces p.page (st.book.chain p.tree 0)) (λ t l. refl) tree level)
landing_links mine now who st ask su (puts_leaf p bytes one two e takes lands there) (inr has) tree =
    one_level mine now p.tree 0 (with_pieces p.page p.pieces (st.book.chain p.tree 0)) st.book.chain has tree
landing_links mine now who st ask su (puts_page t page node bytes one two is e first lands) owes tree = inl (λ level. refl)
landing_links mine now who st ask su (puts_inner t page node pieces bytes one two is e lands there) owes tree =
    one_level mine now t node.level (with_pieces page pieces (st.book.chain t node.level)) st.book.chain owes tree
landing_links mine now who st ask su (puts_root t root bytes one two is e covers lands) owes tree = inl (λ level. refl)
landing_links mine now who st ask su (raises_root t root level links bytes one two is e covers lands there) owes tree =
    one_level mine now t level links st.book.chain owes tree
landing_links mine now who st ask su (removes t page l is o) owes tree = inl (λ level. refl)
landing_links mine now who st ask su (stays asked puts touches) owes tree = inl (λ level. refl)

-- a page of one tree is removed
one_gone : (mine : List Claim) (now tree page : ℕ) (gone : ℕ → ℕ → Bool) → HasTreeLease mine now tree → (t : ℕ)
    → ((p : ℕ) → at2 tree page true gone t p ≡ gone t p) ⊎ HasTreeLease mine now t
one_gone mine now tree page gone has t = on (t == tree) refl
  where
    on : (b : Bool) → (t == tree) ≡ b → ((p : ℕ) → at2 tree page true gone t p ≡ gone t p) ⊎ HasTreeLease mine now t
    on true e = inr (subst (HasTreeLease mine now) (sym (eqb-true t tree e)) has)
    on false e = inl (λ p. at2_other tree page true gone t p (eqb-false t tree e))

pub landing_gone : (mine : List Claim) (now : ℕ) (who : Caller) (st : Store) (ask : Ask) (su : Store) → (l : Landing who st ask su) → OwesLease (in_hand_at mine now) who st ask su l
    → GoneBy mine now st su
landing_gone mine now who st ask su (opens client head records bytes one two e o) owes tree = inl (λ page. refl)
landing_gone mine now who st ask su (settles client head bytes one two e o) owes tree = inl (λ page. refl)
landing_gone mine now who st ask su (logs client bytes r o) owes tree = inl (λ page. refl)
landing_gone mine now who st ask su (posts t p bytes r o) owes tree = inl (λ page. refl)
landing_gone mine now who st ask su (marks_log client id o) owes tree = inl (λ page. refl)
landing_gone mine now who st ask su (marks_post t p id o) owes tree = inl (λ page. refl)
landing_gone mine now who st ask su (puts_leaf p bytes one two e takes lands there) owes tree = inl (λ page. refl)
landing_gone mine now who st ask su (puts_page t p node bytes one two is e first lands) owes tree = inl (λ page. refl)
landing_gone mine now who st ask su (puts_inner t p node pieces bytes one two is e lands there) owes tree = inl (λ page. refl)
landing_gone mine now who st ask su (puts_root t root bytes one two is e covers lands) owes tree = inl (λ page. refl)
landing_gone mine now who st ask su (raises_root t root level links bytes one two is e covers lands there) owes tree = inl (λ page. refl)
landing_gone mine now who st ask su (removes t p l is o) owes tree = one_gone mine now t p st.tally.gone owes tree
landing_gone mine now who st ask su (stays asked puts touches) owes tree = inl (λ page. refl)
