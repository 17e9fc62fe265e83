use Rattle.std.proofs.Common.{◌≡◌, ◌++◌, All}
use Rattle.db_base.specs.Ids.{IsPage}
use Rattle.memory_cloud.specs.Pages.{pages_of}
use Rattle.memory_cloud.proofs.objects.pages.Given as goal

abbrev pub invariant-loop-name : goal.invariant-loop-name
invariant-loop-name l = record {
  walked : l.pages.items ++ pages_of l.tree l.name-iterator ≡ pages_of l.tree l.objects.entries;
  pages : All IsPage l.pages.items;
}
