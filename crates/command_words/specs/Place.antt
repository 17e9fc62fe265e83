-- Where the command of some words runs.
use Rattle.std.specs.Prelude.{◌≡◌, Option, Some, None, Result, Ok, Err, ⊤}
use Rattle.command_words.specs.declared.place.Place.{Place}
use Rattle.command_words.specs.declared.place.Place.TheVariants.{InMemory, Made, Standing, MadeAtFirstCall}
use Rattle.command_words.specs.declared.shape.Shape.{Shape}
use Rattle.command_words.specs.declared.shape.Shape.TheVariants.{Replay, Gen, Shell, Settle, Dump, Load}
use Rattle.command_words.specs.declared.shape.WordsFault.{WordsFault}
use Rattle.command_words.specs.declared.shape.WordsFault.TheVariants.{BadWords, Memory}

-- a shell may be the first of a store; what is settled or dumped is there; and a load makes its folder at its first call, so once its text is a dump
abbrev pub place_of : Shape → Place
place_of Replay = InMemory
place_of (Gen number count) = InMemory
place_of (Shell client dir) = Made dir
place_of (Settle dir) = Standing dir
place_of (Dump dir) = Standing dir
place_of (Load dir) = MadeAtFirstCall dir

-- an answer is the place of the words' shape, or that they are of none; want of memory tells nothing
abbrev pub Finds : Result Place WordsFault → Option Shape → Type 0
Finds (Ok place) (Some asked) = place ≡ place_of asked
Finds (Ok place) None = ⊥
Finds (Err BadWords) read = read ≡ None
Finds (Err Memory) read = ⊤
