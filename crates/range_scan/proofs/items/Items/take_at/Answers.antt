use Rattle.std.proofs.Common.{◌<◌, length, map, arith, refl, ap, sym, ◌∙◌}
use Rattle.leaf_view.specs.Shown.{valued}
use Rattle.range_scan.proofs.Placing.{not_taken, taken}
use Rattle.range_scan.proofs.items.Items.take_at.Goals as goal

pub returns-then-not-is_same-clause-value : goal.returns-then-not-is_same-clause-value
returns-then-not-is_same-clause-value c =
    let within : c.args.place < length c.self.inside.pairs.items = omega (arith, c.in-Some.ensures.variant.0 refl) in
    (not_taken c.args.key.now c.self.inside.pairs.items c.args.self.now c.args.place c.in-Some.field-0.now within c.in-Some.ensures.lookup c.self.view_is
    (sym c.is_same.ensures ∙ c.if-not-is_same.true)).0

pub returns-then-not-is_same-clause-rest : goal.returns-then-not-is_same-clause-rest
returns-then-not-is_same-clause-rest c =
    let within : c.args.place < length c.self.inside.pairs.items = omega (arith, c.in-Some.ensures.variant.0 refl) in
    (not_taken c.args.key.now c.self.inside.pairs.items c.args.self.now c.args.place c.in-Some.field-0.now within c.in-Some.ensures.lookup c.self.view_is
    (sym c.is_same.ensures ∙ c.if-not-is_same.true)).1

pub returns-clause-value : goal.returns-clause-value
returns-clause-value c =
    let within : c.args.place < length c.self.inside.pairs.items = omega (arith, c.in-Some.ensures.variant.0 refl) in
    (taken c.args.key.now c.self.inside.pairs.items c.args.self.now c.args.place c.in-Some.field-0.now (c.in-Some-remove.field-0-0, c.in-Some-remove.value) within
    c.in-Some.ensures.lookup c.in-Some-remove.ensures.value c.self.view_is (sym c.is_same.ensures ∙ c.if-not-is_same.false)).0

pub returns-clause-rest : goal.returns-clause-rest
returns-clause-rest c =
    let within : c.args.place < length c.self.inside.pairs.items = omega (arith, c.in-Some.ensures.variant.0 refl) in
    ap (map valued) c.in-Some-remove.ensures.items
    ∙ (taken c.args.key.now c.self.inside.pairs.items c.args.self.now c.args.place c.in-Some.field-0.now (c.in-Some-remove.field-0-0, c.in-Some-remove.value) within
    c.in-Some.ensures.lookup c.in-Some-remove.ensures.value c.self.view_is (sym c.is_same.ensures ∙ c.if-not-is_same.false)).1
