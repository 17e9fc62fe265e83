-- Laws of a walk over nodes that were got before.
use Rattle.std.proofs.Common.{◌≡◌, ◌<◌, ◌-◌, ℕ, zero, suc, sym, ap, ◌∙◌, arith}
use Rattle.db_base.specs.declared.trouble.Trouble.{Trouble}
use Rattle.db_base.specs.declared.trouble.Trouble.TheVariants as trouble
use Rattle.cloud_trait.specs.Machine.{Goes, Ends, Stops}
use Rattle.tree_phases.specs.declared.descent.Descent.{Descent}
use Rattle.tree_phases.specs.declared.descent.Reach.{Reach}
use Rattle.tree_phases.specs.Descent.{stride, follow, walk}

-- a stride that goes on leaves one fewer
pub walk_more : (n : ℕ) (d e : Descent) → 0 < n → stride d ≡ Goes e → walk n d ≡ walk (n - 1) e
unfolding walk
walk_more zero d e h s = absurd (omega arith)
walk_more (suc n) d e h s =
    let k : suc n - 1 ≡ n = omega arith in
    ap (follow (walk n)) s ∙ sym (ap (λ (m : ℕ). walk m e) k)

-- one that ends or stops is the last
pub walk_ended : (n : ℕ) (d e : Descent) (reach : Reach) → stride d ≡ Ends e reach → walk n d ≡ Ends e reach
unfolding walk
walk_ended zero d e reach s = ap (follow (λ (x : Descent). Stops x (trouble.Loop x.page))) s
walk_ended (suc n) d e reach s = ap (follow (walk n)) s

pub walk_stopped : (n : ℕ) (d e : Descent) (t : Trouble) → stride d ≡ Stops e t → walk n d ≡ Stops e t
unfolding walk
walk_stopped zero d e t s = ap (follow (λ (x : Descent). Stops x (trouble.Loop x.page))) s
walk_stopped (suc n) d e t s = ap (follow (walk n)) s

-- so many strides are all that there are nodes for
pub walk_stuck : (d e : Descent) → stride d ≡ Goes e → walk 0 d ≡ Stops e (trouble.Loop e.page)
unfolding walk
walk_stuck d e s = ap (follow (λ (x : Descent). Stops x (trouble.Loop x.page))) s
