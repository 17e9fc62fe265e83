use Rattle.std.proofs.Common.{◌≡◌, ◌+◌, ◌<◌, Bool, length, sym, subst, arith}
use Rattle.ckpt_parts.specs.Deleting.{Deleting, tried}
use Rattle.ckpt_parts.specs.contracts.deletions.Deletions.{the_view}
use Rattle.ckpt_parts.proofs.Tries.{tried_went, tried_failed}
use Rattle.ckpt_parts.proofs.deletions.Deletions.note.Goals as goal

pub returns-then-went : goal.returns-then-went
returns-then-went c =
    let h : c.self.inside.deleted + c.self.inside.left < length c.self.inside.ids.items = omega (arith, c.if-self-len.false, c.len.ensures) in
    let new : Deleting = the_view (record c.self.inside { deleted = c.self.inside.deleted + 1 }) in
    subst (λ (m : Deleting). new ≡ tried m c.args.went) c.self.view_is
    (subst (λ (b : Bool). new ≡ tried (the_view c.self.inside) b) (sym c.if-went.true) (tried_went c.self.inside.ids.items _ _ h))

pub returns : goal.returns
returns c =
    let h : c.self.inside.deleted + c.self.inside.left < length c.self.inside.ids.items = omega (arith, c.if-self-len.false, c.len.ensures) in
    let new : Deleting = the_view (record c.self.inside { left = c.self.inside.left + 1 }) in
    subst (λ (m : Deleting). new ≡ tried m c.args.went) c.self.view_is
    (subst (λ (b : Bool). new ≡ tried (the_view c.self.inside) b) (sym c.if-went.false) (tried_failed c.self.inside.ids.items _ _ h))
