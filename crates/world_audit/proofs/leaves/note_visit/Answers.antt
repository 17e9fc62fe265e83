use Rattle.std.proofs.Common.{◌≡◌, ℕ, Bool, true, false, not, refl, sym, ap, ◌∙◌, inr}
use Rattle.std.specs.List.{list_any}
use Rattle.std.specs.Prelude.{nat_eq}
use Rattle.std.proofs.lemmas.Bool.{eqb-true}
use Rattle.indexmap.proofs.CallerLemmas.{Contains-list_any}
use Rattle.world_audit.proofs.leaves.note_visit.Goals as goal

-- what is not new is there
there : (b : Bool) → false ≡ not b → b ≡ true
there true e = refl
there false e = absurd (cc)

pub returns-in-Ok-false-clause-err : goal.returns-in-Ok-false-clause-err
returns-in-Ok-false-clause-err c = inr (
  refl,
  Contains-list_any _ eqb-true _ _ (
      ap (λ (page : ℕ). list_any (nat_eq page) c.args.visited.now.keys) (sym c.get.ensures.number)
      ∙ there _ (sym c.in-Ok-false.field-0-test ∙ c.in-Ok-false.ensures.added)),
)
