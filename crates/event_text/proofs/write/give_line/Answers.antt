use Rattle.std.proofs.Common.{◌≡◌, ◌∙◌, ◌++◌, [], sym, ap, List, ℕ, lit<, append-nil}
use Rattle.std.specs.String.{string_bytes}
use Rattle.std.proofs.lemmas.List.{nil_from_length}
use Rattle.event_text.proofs.Spaced.{give_whole, spaced}
use Rattle.event_text.proofs.write.give_line.Goals as goal

pub returns : goal.returns
returns c =
    let none : c.loop-position.left.now ≡ [] = nil_from_length _ c.in_default.ensures.cases in
    let pushed = rw (c.push.ensures.ascii (lit< tt)) at c.in_ok-push.ensures.bytes in
    give_whole c.args.session c.args.positions.now _ _ _ c.in_ok-line.ensures.ok (sym (append-nil _) ∙ ap (λ (t : List ℕ). string_bytes c.loop-position.line ++ spaced t) (sym none) ∙ c.loop-position.invariant) pushed
