use Rattle.std.proofs.Common.{ℕ, ◌+◌, List, [], ◌∷◌, ◌++◌, sym, subst, arith}
use Rattle.cloud_trait.specs.Listing.{AscendAbove}
use Rattle.hostile_runs.proofs.AscendLemmas.{ascend_behind}
use Rattle.hostile_runs.proofs.ascending.Ascending.add.Goals as goal

pub invariant_of-self-then-number-self : goal.invariant_of-self-then-number-self
invariant_of-self-then-number-self c =
    let old = c.self.inside in
    let number = c.get-number.result in
    let is = c.get-number.ensures.number in
    subst (λ (ns : List ℕ). AscendAbove 0 (ns ++ (number + 1) ∷ [])) (sym c.in_ok-push.ensures.items)
    (ascend_behind 0 old.pages.items (old.last + 1) c.args.page (number + 1) c.self.invariant (omega (arith, is, c.if-number-self.true)) (omega (arith, is)))
