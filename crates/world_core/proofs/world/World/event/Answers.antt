use Rattle.world_core.proofs.Counting.{stands_after}
use Rattle.world_core.proofs.Alone.{keeps_alone}
use Rattle.world_core.proofs.Bounded.{few_calls}
use Rattle.world_core.proofs.Calm.{well_after}
use Rattle.world_core.proofs.Caused.{caused}
use Rattle.world_core.proofs.Explained.{explained}
use Rattle.world_core.proofs.Keeping.{keeps_book}
use Rattle.world_core.proofs.Settled.{settling_ends, settling_leaves, settling_right}
use Rattle.world_core.proofs.MeteredLines.{keeps_meter}
use Rattle.world_core.proofs.Named.{names_pieces}
use Rattle.world_core.proofs.PassedOver.{passes_well}
use Rattle.world_core.proofs.Shown.{shown}
use Rattle.world_core.proofs.ShownByLines.{shown_by}
use Rattle.world_core.proofs.Sound.{sound_after}
use Rattle.world_core.proofs.Spared.{spares_writer}
use Rattle.world_core.proofs.Swept.{sweep_leaves}
use Rattle.world_core.proofs.Tagged.{shows_tagged}
use Rattle.world_core.proofs.Acknowledged.{durable_after}
use Rattle.world_core.proofs.Landings.{landed_after}
use Rattle.world_core.proofs.LeftNone.{nothing_after}
use Rattle.world_core.proofs.LeftShort.{left_short}
use Rattle.world_core.proofs.Tells.{tells_so}
use Rattle.world_core.proofs.world.World.event.Goals as goal

pub returns-clause-stands : goal.returns-clause-stands
returns-clause-stands g c = stands_after _ _ _ _ _ _ _ c.handle.ensures.handled

pub returns-clause-tells : goal.returns-clause-tells
returns-clause-tells g c = tells_so _ _ _ _ _ _ _ c.handle.ensures.handled

pub returns-clause-sound : goal.returns-clause-sound
returns-clause-sound g c = sound_after _ _ _ _ _ _ _ c.handle.ensures.handled

pub returns-clause-acknowledged : goal.returns-clause-acknowledged
returns-clause-acknowledged g c = durable_after _ _ _ _ _ _ _ c.handle.ensures.handled

pub returns-clause-landed : goal.returns-clause-landed
returns-clause-landed g c = landed_after _ _ _ _ _ _ _ c.handle.ensures.handled

pub returns-clause-explained : goal.returns-clause-explained
returns-clause-explained g c = explained _ _ _ _ _ _ _

pub returns-clause-caused : goal.returns-clause-caused
returns-clause-caused g c = caused _ _ _ _ _ _ _

pub returns-clause-shown : goal.returns-clause-shown
returns-clause-shown g c = shown _ _ _ _ _ _ _

pub returns-clause-shown_by_lines : goal.returns-clause-shown_by_lines
returns-clause-shown_by_lines g c = shown_by _ _ _ _ _ _ _

pub returns-clause-tagged : goal.returns-clause-tagged
returns-clause-tagged g c = shows_tagged _ _ _ _ _ _ _ c.handle.ensures.handled

pub returns-clause-calm : goal.returns-clause-calm
returns-clause-calm g c = well_after _ _ _ _ _ _ _

pub returns-clause-alone : goal.returns-clause-alone
returns-clause-alone g c = keeps_alone _ _ _ _ _ _ _

pub returns-clause-bounded : goal.returns-clause-bounded
returns-clause-bounded g c = few_calls _ _ _ _ _ _ _

pub returns-clause-named : goal.returns-clause-named
returns-clause-named g c = names_pieces _ _ _ _ _ _ _

pub returns-clause-metered : goal.returns-clause-metered
returns-clause-metered g c = keeps_meter _ _ _ _ _ _ _

pub returns-clause-passed : goal.returns-clause-passed
returns-clause-passed g c = passes_well _ _ _ _ _ _ _

pub returns-clause-spared : goal.returns-clause-spared
returns-clause-spared g c = spares_writer _ _ _ _ _ _ _

pub returns-clause-settled : goal.returns-clause-settled
returns-clause-settled g c = settling_leaves _ _ _ _ _ _ _

pub returns-clause-settles : goal.returns-clause-settles
returns-clause-settles g c = settling_ends _ _ _ _ _ _ _

pub returns-clause-settling : goal.returns-clause-settling
returns-clause-settling g c = settling_right _ _ _ _ _ _ _

pub returns-clause-swept : goal.returns-clause-swept
returns-clause-swept g c = sweep_leaves _ _ _ _ _ _ _

pub returns-clause-keeps : goal.returns-clause-keeps
returns-clause-keeps g c = keeps_book _ _ _ _ _ _ _ c.handle.ensures.handled

pub returns-clause-left_nothing : goal.returns-clause-left_nothing
returns-clause-left_nothing g c = nothing_after _ _ _ _ _ _ _ c.handle.ensures.handled

pub returns-clause-short : goal.returns-clause-short
returns-clause-short g c = left_short _ _ _ _ _ _ _ c.handle.ensures.handled
