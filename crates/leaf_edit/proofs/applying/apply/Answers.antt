use Rattle.std.proofs.Common.{List, refl, sym, ap, subst, arith, ◌∙◌}
use Rattle.leaf_view.specs.Leaf.{Leaf}
use Rattle.log_codec.specs.declared.record.PuItem.{PuItem}
use Rattle.leaf_edit.specs.Raised.{RaisesNumbers}
use Rattle.leaf_edit.specs.Sizes.{most_size}
use Rattle.leaf_edit.proofs.InOrder.{Rises-sorted}
use Rattle.leaf_edit.proofs.Lengthened.{applied-most}
use Rattle.leaf_edit.proofs.Spelled.{leaf_in_is, written}
use Rattle.leaf_edit.proofs.TableNumbers.{raises}
use Rattle.leaf_edit.proofs.applying.apply.Goals as goal

pub of-changes-requires-clause-rise : goal.of-changes-requires-clause-rise
of-changes-requires-clause-rise c = Rises-sorted c.args.run.now c.requires.sorted

pub spell-requires-clause-room : goal.spell-requires-clause-room
spell-requires-clause-room c = omega (
  arith,
  applied-most c.args.leaf.now c.args.queue c.args.run.now,
  ap (λ (xs : List PuItem). most_size c.args.leaf.now c.args.leaf.now.records xs) (c.again.ensures ∙ c.of-changes.ensures),
  c.in-Some.ensures,
  c.in_ok-out.ensures.capacity,
)

pub of-requires : goal.of-requires
of-requires c = written _ _ c.spell.ensures.spelled refl

pub returns-clause-ok : goal.returns-clause-ok
returns-clause-ok c = c.of.ensures ∙ leaf_in_is _ _ c.spell.ensures.spelled

pub returns-clause-done : goal.returns-clause-done
returns-clause-done c =
    let P : Leaf → Type 0 = λ new. RaisesNumbers c.args.leaf.now.done new.done c.args.queue c.args.run.now in
    subst P (sym (c.of.ensures ∙ leaf_in_is _ _ c.spell.ensures.spelled)) (raises _ _ _)
