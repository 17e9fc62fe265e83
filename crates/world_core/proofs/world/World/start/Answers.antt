use Rattle.std.proofs.Common.{◌≡◌, List, [], ap, ◌∙◌}
use Rattle.history.specs.Audited.{Audited}
use Rattle.report_types.specs.declared.entry.Entry.{Entry}
use Rattle.world_core.proofs.StartLemmas.{new_stands}
use Rattle.world_core.proofs.world.World.start.Goals as goal

pub returns-clause-stands : goal.returns-clause-stands
returns-clause-stands g c = λ t empty. new_stands _ _ _ _ t c.in_ok-new.ensures.ok (nothing c.new-2.result c.new-2.ensures.committed c.new-2.ensures.order) empty
  where
    nothing : (a : Audited) → a.committed ≡ [] → a.order ≡ [] → a ≡ record { committed = []; order = [] }
    nothing a c o = ap (λ (l : List Entry). record a { committed = l }) c ∙ ap (λ (l : List Entry). record { committed = []; order = l }) o
