use Rattle.std.proofs.Common.{sym, refl, ◌∙◌}
use Rattle.route_plan.proofs.Indexes.{way-start, way-found, way-on, way-end}
use Rattle.route_plan.proofs.slots.last_in.Goals as goal

pub loop-entry-init : goal.loop-entry-init
loop-entry-init c = way-start _ _ _ _ _ c.slot_of-slot.result _ c.requires.index c.slot_of-slot.ensures.slot refl

pub returns-then-is_of : goal.returns-then-is_of
returns-then-is_of c = way-found _ _ _ _ _ c.loop-entry.invariant c.in-Some.ensures.entry (sym c.is_of.ensures ∙ c.if-is_of.true)

pub loop-entry-preserved : goal.loop-entry-preserved
loop-entry-preserved c =
    (way-on _ _ _ _ _ _ _ _ _ c.requires.index c.loop-entry.invariant c.in-Some.ensures.entry (sym c.is_of.ensures ∙ c.if-is_of.false) refl refl).0

pub loop-entry-smaller : goal.loop-entry-smaller
loop-entry-smaller c =
    (way-on _ _ _ _ _ _ _ _ _ c.requires.index c.loop-entry.invariant c.in-Some.ensures.entry (sym c.is_of.ensures ∙ c.if-is_of.false) refl refl).1

pub returns : goal.returns
returns c = way-end _ _ _ _ c.loop-entry.invariant c.in_default.ensures.entry
