-- How many of the nodes that were got are not passed: fewer behind each of them.
use Rattle.std.proofs.Common.{◌≡◌, ◌+◌, ◌<◌, ◌≤◌, ◌==◌, ℕ, Bool, true, false, cond, ◌||◌, List, [], ◌∷◌, ◌++◌, length, Some, refl, sym, ap, subst, ◌∙◌, arith}
use Rattle.std.specs.Prelude.{find}
use Rattle.std.proofs.lemmas.Bool.{eq-eqb, eqb-true}
use Rattle.std.proofs.lemmas.List.Folds.{list_any-append}
use Rattle.run_cursor.specs.Covered.{is_seen}
use Rattle.tree_phases.specs.declared.kept.KeptNode.{KeptNode}

abbrev pub unseen : List ℕ → List KeptNode → ℕ
unseen pages [] = 0
unseen pages (k ∷ ks) = cond (is_seen pages k.page) (unseen pages ks) (unseen pages ks + 1)

pub unseen_most : (pages : List ℕ) (ks : List KeptNode) → unseen pages ks ≤ length ks
unseen_most pages [] = omega arith
unseen_most pages (k ∷ ks) = on (is_seen pages k.page) (unseen_most pages ks) where
  on : (b : Bool) → unseen pages ks ≤ length ks → cond b (unseen pages ks) (unseen pages ks + 1) ≤ length (k ∷ ks)
  on true less = omega (arith, less)
  on false less = omega (arith, less)

seen_more : (pages : List ℕ) (page other : ℕ) → is_seen (pages ++ page ∷ []) other ≡ (is_seen pages other || is_seen (page ∷ []) other)
seen_more pages page other = list_any-append (λ (m : ℕ). m == other) pages (page ∷ [])

unseen_fewer : (pages : List ℕ) (page : ℕ) (ks : List KeptNode) → unseen (pages ++ page ∷ []) ks ≤ unseen pages ks
unseen_fewer pages page [] = omega arith
unseen_fewer pages page (k ∷ ks) =
    subst (λ (b : Bool). cond b (unseen (pages ++ page ∷ []) ks) (unseen (pages ++ page ∷ []) ks + 1) ≤ unseen pages (k ∷ ks)) (sym (seen_more pages page k.page))
    (on (is_seen pages k.page) (is_seen (page ∷ []) k.page) (unseen_fewer pages page ks)) where
      on : (a b : Bool) → unseen (pages ++ page ∷ []) ks ≤ unseen pages ks
          → cond (a || b) (unseen (pages ++ page ∷ []) ks) (unseen (pages ++ page ∷ []) ks + 1) ≤ cond a (unseen pages ks) (unseen pages ks + 1)
      on true b less = less
      on false true less = omega (arith, less)
      on false false less = omega (arith, less)

pub unseen_less : (pages : List ℕ) (page : ℕ) (ks : List KeptNode) (k : KeptNode) → find (λ (n : KeptNode). n.page == page) ks ≡ Some k → is_seen pages page ≡ false
    → unseen (pages ++ page ∷ []) ks < unseen pages ks
unseen_less pages page [] k e fresh = absurd (cc (e))
unseen_less pages page (x ∷ ks) k e fresh = at (x.page == page) refl (unseen_less pages page ks k) e fresh where
  now_seen : x.page ≡ page → is_seen (pages ++ page ∷ []) x.page ≡ true
  now_seen same =
      seen_more pages page x.page
      ∙ (ap (λ (b : Bool). b || is_seen (page ∷ []) x.page) (ap (is_seen pages) same ∙ fresh) ∙ ap (λ (b : Bool). b || false) (eq-eqb page x.page (sym same)))

  on : (a b : Bool) → unseen (pages ++ page ∷ []) ks < unseen pages ks
      → cond (a || b) (unseen (pages ++ page ∷ []) ks) (unseen (pages ++ page ∷ []) ks + 1) < cond a (unseen pages ks) (unseen pages ks + 1)
  on true b less = less
  on false true less = omega (arith, less)
  on false false less = omega (arith, less)

  at : (b : Bool) → (x.page == page) ≡ b
      → (find (λ (n : KeptNode). n.page == page) ks ≡ Some k → is_seen pages page ≡ false → unseen (pages ++ page ∷ []) ks < unseen pages ks) → cond b (Some x) (find (λ (n : KeptNode). n.page == page) ks) ≡ Some k → is_seen pages page ≡ false
      → unseen (pages ++ page ∷ []) (x ∷ ks) < unseen pages (x ∷ ks)
  at true same rest f new =
      let is : x.page ≡ page = eqb-true x.page page same in
      subst (λ (b : Bool). cond b (unseen (pages ++ page ∷ []) ks) (unseen (pages ++ page ∷ []) ks + 1) < unseen pages (x ∷ ks)) (sym (now_seen is))
      (subst (λ (b : Bool). unseen (pages ++ page ∷ []) ks < cond b (unseen pages ks) (unseen pages ks + 1)) (sym (ap (is_seen pages) is ∙ fresh))
      (omega (arith, unseen_fewer pages page ks)))
  at false same rest f new =
      subst (λ (b : Bool). cond b (unseen (pages ++ page ∷ []) ks) (unseen (pages ++ page ∷ []) ks + 1) < unseen pages (x ∷ ks)) (sym (seen_more pages page x.page))
      (on (is_seen pages x.page) (is_seen (page ∷ []) x.page) (rest f new))
