use Rattle.std.proofs.Common.{◌≡◌, ℕ, List, Option, Bor, sym, subst, ◌∙◌}
use Rattle.std.specs.Prelude.{◌&&◌}
use Rattle.std.specs.Option.{option_copied}
use Rattle.byte_format.specs.Order.{below_bound}
use Rattle.range_scan.proofs.Order.{nearer_then, nearer_else}
use Rattle.range_scan.proofs.bounds.nearer.Goals as goal

pub returns-in-Some : goal.returns-in-Some
returns-in-Some c = λ key.
    subst (λ (o : Option (Bor (List ℕ))). below_bound key (option_copied o) ≡ (below_bound key (option_copied o) && below_bound key (option_copied c.args.b))) (sym c.in-Some.is)
    (nearer_then c.in-Some.key.now key (option_copied c.args.b) (sym c.is_below_bound.ensures ∙ c.if-is_below_bound.true))

pub returns-in_default : goal.returns-in_default
returns-in_default c = λ key.
    subst (λ (o : Option (Bor (List ℕ))). below_bound key (option_copied c.args.b) ≡ (below_bound key (option_copied o) && below_bound key (option_copied c.args.b))) (sym c.in-Some.is)
    (nearer_else c.in-Some.key.now key (option_copied c.args.b) (sym c.is_below_bound.ensures ∙ c.if-is_below_bound.false))
