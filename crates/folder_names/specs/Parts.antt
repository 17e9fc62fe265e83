-- The parts of a store's folder in which names change, by their paths.
use Rattle.std.specs.Prelude.{List, ℕ, ◌++◌, codes}
use Rattle.folder_names.specs.declared.parts.Part.{Part}
use Rattle.folder_names.specs.declared.parts.Part.TheVariants.{Objects, Queues, Queue}
use Rattle.folder_names.specs.Names.{folder_text, IsQueue}

abbrev pub part_text : Part → List ℕ
part_text Objects = codes "objects"
part_text Queues = codes "queues"
part_text (Queue queue) = codes "queues/" ++ folder_text queue

-- the numbers of a part's queue are in their ranges
abbrev pub IsPart : Part → Type 0
IsPart Objects = Unit {0}
IsPart Queues = Unit {0}
IsPart (Queue queue) = IsQueue queue
