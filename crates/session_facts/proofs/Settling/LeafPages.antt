-- A tree has one list of leaf pages, so the bound of a settling is one number.
use Rattle.std.proofs.Common.{◌≡◌, ◌+◌, ℕ, List, [], ◌∷◌, refl, sym, ap, subst, ◌∙◌, arith}
use Rattle.std.specs.Prelude.{◌-◌, ◌*◌}
use Rattle.cloud_trait.specs.State.{CloudState}
use Rattle.db_base.specs.Ids.{IsTree}
use Rattle.session_facts.proofs.Settling.Sums.{sum_same}
use Rattle.session_facts.specs.Settling.Bound.{sum_upto, client_calls, to_settle, tree_calls, LeadAlong, most_calls}
use Rattle.session_facts.specs.Machines.TreeCheckpoints.Few.{next_page}

-- right pages lead along one list alone from a page to none
pub one_way : (right : ℕ → ℕ) (from : ℕ) (ps qs : List ℕ) → LeadAlong right from ps 0 → LeadAlong right from qs 0 → ps ≡ qs
one_way right from [] [] one other = refl
one_way right from [] (q ∷ qs) one other = let some = other.0 in let is = other.1.0 in absurd (omega (arith, one, some, is))
one_way right from (p ∷ ps) [] one other = let some = one.0 in let is = one.1.0 in absurd (omega (arith, other, some, is))
one_way right from (p ∷ ps) (q ∷ qs) one other =
    let same : q ≡ p = other.1.0 ∙ sym one.1.0 in
    let rest : ps ≡ qs = one_way right (right p) ps qs one.1.1 (subst (λ (n : ℕ). LeadAlong right (right n) qs 0) same other.1.1) in
    ap (λ (n : ℕ). n ∷ ps) (sym same) ∙ ap (λ (ns : List ℕ). q ∷ ns) rest

pub same_most : (before after : CloudState) (leaves others : ℕ → List ℕ) → ((tree : ℕ) → IsTree tree → leaves tree ≡ others tree)
    → most_calls before after leaves ≡ most_calls before after others
same_most before after leaves others same =
    ap (λ (n : ℕ). 64 * 8 + sum_upto (client_calls before) 64 + n)
    (sum_same (λ k. tree_calls (to_settle before after) (next_page after k - 1) k (leaves k)) (λ k. tree_calls (to_settle before after) (next_page after k - 1) k (others k)) 16
    (λ k some most. ap (tree_calls (to_settle before after) (next_page after k - 1) k) (same k (record { some = some; most = most }))))
