use Rattle.std.proofs.Common.{rules, ◌≡◌, ◌∷◌, ℕ, List, sym, subst}
use Rattle.log_codec.specs.declared.record.PuItem.{PuItem}
use Rattle.run_cursor.proofs.Tops.{IsFollowed, follow_start, follow_step}
use Rattle.run_cursor.proofs.top.top_in_order.Goals as goal

pub loop-x-init : goal.loop-x-init
loop-x-init c =
    let P : List (ℕ × ℕ) → Type 0 = λ top. IsFollowed c.args.cursor.now c.args.items.now c.args.items.now top in
    subst P (sym c.in_ok-top.ensures) (follow_start _ _)

pub loop-x-preserved : goal.loop-x-preserved
loop-x-preserved c =
    let left : c.loop-x.left.now ≡ c.in-Some.x.now ∷ c.in-Some.rest.now = search rules in
    let P : List PuItem → Type 0 = λ left. IsFollowed c.args.cursor.now c.args.items.now left c.loop-x.top in
    follow_step _ _ _ _ c.loop-x.top _ (subst P left c.loop-x.invariant) c.in_ok-follow.ensures

pub returns : goal.returns
returns c = c.loop-x.invariant.led
