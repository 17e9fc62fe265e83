use Rattle.std.proofs.Common.{◌≡◌, ◌+◌, true, false, refl, sym, ap, ◌∙◌, inr}
use Rattle.run_cursor.proofs.top.pass.Goals as goal

pub returns-then-not-is_next : goal.returns-then-not-is_next
returns-then-not-is_next c =
    inr (refl, λ e. let both : true ≡ false = sym (c.is_next.ensures.1 (e ∙ ap (λ n. n + 1) (sym c.get.ensures))) ∙ c.if-not-is_next.true in cc)
