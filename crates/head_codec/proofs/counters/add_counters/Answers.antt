use Rattle.std.proofs.Common.{◌≡◌, ◌∷◌, ◌∙◌, subst, sym, List}
use Rattle.std.specs.List.{AllByRecursion}
use Rattle.head_codec.specs.declared.lists.QueueCount.{QueueCount}
use Rattle.head_codec.specs.Spelling.{FitsCounter}
use Rattle.head_codec.proofs.ListSpelling.{counters_step}
use Rattle.head_codec.proofs.counters.add_counters.Goals as goal

pub loop-item-preserved : goal.loop-item-preserved
loop-item-preserved c =
    let is : c.loop-item.left.now ≡ c.in-Some.item.now ∷ c.in-Some.rest.now = c.in-Some.ensures.cases.0 in (
      counters_step c.loop-item.out.items c.add_counter.new.out.items c.loop-item.left.now c.in-Some.rest.now c.in-Some.item.now is c.in_ok-add_counter.ensures.spelling ∙ c.loop-item.invariant.0,
      λ rest. c.loop-item.invariant.1 (subst (λ (xs : List QueueCount). AllByRecursion FitsCounter xs) (sym is) (c.in_ok-add_counter.ensures.valid, rest)),
    )
