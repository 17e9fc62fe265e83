use Rattle.std.proofs.Common.{◌≡◌, map, take}
use Rattle.cloud_trait.specs.declared.message.Message.{Message}
use Rattle.traced_cloud.proofs.note.ids_of.Given as goal

abbrev pub invariant-loop-message : goal.invariant-loop-message
invariant-loop-message l = l.ids ≡ map (λ (m : Message). m.id) (take l.message-index l.messages)
