-- A dump of what was loaded writes the text that was loaded.
use Rattle.std.proofs.Common.{◌≡◌, List, Some, Ok, ap, subst, ◌∙◌}
use Rattle.cloud_trait.specs.Seen.{Seen}
use Rattle.cloud_trait.specs.State.{CloudState}
use Rattle.db_io.specs.Writes.{AddsOne}
use Rattle.dump_take.proofs.OneDump.{one_dump}
use Rattle.dump_take.specs.Taken.{AreDumped, IsTaken}
use Rattle.dump_text.specs.Text.{dump_text}
use Rattle.dump_text.specs.declared.dump.DumpedTree.{DumpedTree}
use Rattle.schedule_run.specs.Dumping.{taken_text}
use Rattle.schedule_run.specs.LoadLeft.{DumpsAs}

pub dumps_as : (u : CloudState) (now : Seen) (trees : List DumpedTree) → now.state ≡ Some u → AreDumped u trees → DumpsAs (dump_text trees) now
dumps_as u now trees told are written now_written later ended =
    let dump = ended.told.0 in
    let is : ended.taken ≡ Ok dump = ended.told.1 in
    let taken : IsTaken ended.takes.looks (Ok dump) = subst (IsTaken ended.takes.looks) is ended.takes.taken in
    let of : AreDumped u dump.trees = subst (λ s. AreDumped s dump.trees) (ended.takes.told u told) taken.1 in
    let same : dump.trees ≡ trees = one_dump u trees dump.trees are of in
    subst (AddsOne written now_written) (ap taken_text is ∙ ap dump_text same) ended.told.2
