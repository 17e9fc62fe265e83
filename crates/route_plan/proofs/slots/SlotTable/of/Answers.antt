use Rattle.std.proofs.Common.{◌≡◌, refl, rules, arith, ◌∙◌}
use Rattle.std.specs.Prelude.{slice_index}
use Rattle.std.proofs.lemmas.Grind.{common_steps}
use Rattle.route_plan.proofs.Indexes.{built-start, built-step, built-smaller, built-end}
use Rattle.route_plan.proofs.slots.SlotTable.of.Goals as goal

pub loop-entry-init : goal.loop-entry-init
loop-entry-init c = built-start _ _ _ 4096 refl (c.in_ok-newest.ensures.items_if_clones_equal (λ y h. h)) c.new-before.ensures.items

pub loop-entry-preserved : goal.loop-entry-preserved
loop-entry-preserved c =
    let older : c.index-older.result.now ≡ slice_index c.loop-entry.newest.items c.slot-slot.result = first_of (search rules, grind (arith, common_steps)) in
    built-step _ _ _ _ _ _ c.in-Some.entry.now _ _ _ c.loop-entry.invariant (c.len.ensures ∙ c.loop-entry.before.ok.0) c.in-Some.ensures
    c.slot-slot.ensures.slot older c.in_ok-push.ensures.kept c.in_ok-push.ensures.last c.in_ok-push.ensures.length
    (c.len-upto.ensures ∙ c.push.new.before.ok.0) c.put.ensures.each c.put.ensures.length

pub loop-entry-smaller : goal.loop-entry-smaller
loop-entry-smaller c =
    built-smaller _ _ _ _ c.in-Some.entry.now (c.len.ensures ∙ c.loop-entry.before.ok.0) c.in-Some.ensures c.in_ok-push.ensures.length

pub returns : goal.returns
returns c = built-end _ _ _ _ c.loop-entry.invariant (c.len.ensures ∙ c.loop-entry.before.ok.0) c.in_default.ensures
