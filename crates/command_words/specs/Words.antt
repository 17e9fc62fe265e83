-- The shapes of a command line: the command, and then its values.
use Rattle.std.specs.Prelude.{◌≡◌, ℕ, Bool, true, ◌&&◌, not, nat_eq, nat_le, if◌then◌else◌, List, [], ◌∷◌, Option, Some, None, Result, Ok, Err, codes, ⊤}
use Rattle.std.specs.Str.{bytes_eq}
use Rattle.db_base.specs.Limits.{last_client}
use Rattle.words.specs.Word.{number_of}
use Rattle.command_words.specs.declared.read.TheConstants.{MAX_COUNT}
use Rattle.command_words.specs.declared.shape.Shape.{Shape}
use Rattle.command_words.specs.declared.shape.Shape.TheVariants.{Replay, Gen, Shell, Settle, Dump, Load}
use Rattle.command_words.specs.declared.shape.WordsFault.{WordsFault}
use Rattle.command_words.specs.declared.shape.WordsFault.TheVariants.{BadWords, Memory}

-- a word that names a folder does not begin with a hyphen; it may be empty
abbrev pub is_folder : List ℕ → Bool
is_folder [] = true
is_folder (byte ∷ rest) = not (nat_eq byte 45)

-- the number of what is generated, and how much of it: at most the rounds that are generated
abbrev pub generated : Option ℕ → Option ℕ → Option Shape
generated None count = None
generated (Some number) None = None
generated (Some number) (Some count) = if nat_le count MAX_COUNT then Some (Gen number count) else None

-- a shell of a client, 1 to 64, over a folder
abbrev pub shell_over : Option ℕ → List ℕ → Option Shape
shell_over None dir = None
shell_over (Some client) dir = if nat_le 1 client && (nat_le client last_client && is_folder dir) then Some (Shell client dir) else None

-- a settling of a folder
abbrev pub settling_of : List ℕ → Option Shape
settling_of dir = if is_folder dir then Some (Settle dir) else None

-- a dump of a folder, and a folder that is filled
abbrev pub dumping_of : List ℕ → Option Shape
dumping_of dir = if is_folder dir then Some (Dump dir) else None

abbrev pub loading_of : List ℕ → Option Shape
loading_of dir = if is_folder dir then Some (Load dir) else None

-- the shape of a command line's words, where they are of one
abbrev pub shape_of : List (List ℕ) → Option Shape
shape_of [] = None
shape_of (command ∷ []) = if bytes_eq command (codes "replay") then Some Replay else None
shape_of (command ∷ dir ∷ []) =
    if bytes_eq command (codes "settle") then settling_of dir
    else (if bytes_eq command (codes "dump") then dumping_of dir
    else (if bytes_eq command (codes "load") then loading_of dir else None))
shape_of (command ∷ one ∷ two ∷ []) =
    if bytes_eq command (codes "gen") then generated (number_of one) (number_of two)
    else (if bytes_eq command (codes "shell") then shell_over (number_of one) two else None)
shape_of (command ∷ one ∷ two ∷ three ∷ rest) = None

-- an answer is the shape, or that the words are of none; want of memory tells nothing
abbrev pub Answers : Result Shape WordsFault → Option Shape → Type 0
Answers (Ok shape) read = read ≡ Some shape
Answers (Err BadWords) read = read ≡ None
Answers (Err Memory) read = ⊤

-- an answer is the name that is given, or that none is; want of memory tells nothing
abbrev pub Names : Result (List ℕ) WordsFault → Option (List ℕ) → Type 0
Names (Ok name) given = given ≡ Some name
Names (Err BadWords) given = given ≡ None
Names (Err Memory) given = ⊤
