-- The command as its parser knows it: six subcommands, of which one is required.
use Rattle.std.specs.Prelude.{ℕ, ◌&&◌, nat_le, true, List, Option, Some, None, codes, option_and_then, if◌then◌else◌}
use Rattle.std.specs.Str.{bytes_eq}
use Rattle.db_base.specs.Limits.{last_client}
use Rattle.clap.specs.Words.{App, Row, Rule, new_app, new_rule, with_rule, with_subcommand, first_of}
use Rattle.words.specs.Word.{number_of}
use Rattle.command_words.specs.declared.shape.Shape.{Shape as CommandShape}
use Rattle.command_words.specs.declared.shape.Shape.TheVariants.{Replay, Shell, Settle, Dump, Load}
use Rattle.command_words.specs.Words.{generated}

-- a value that must be there
abbrev pub value_rule : List ℕ → Rule
value_rule id = record (new_rule id) { required = true }

-- `replay`
abbrev pub replay_app : App
replay_app = new_app (codes "replay")

-- `gen NUMBER COUNT`
abbrev pub gen_app : App
gen_app = with_rule (with_rule (new_app (codes "gen")) (value_rule (codes "number"))) (value_rule (codes "count"))

-- `shell CLIENT DIR`
abbrev pub shell_app : App
shell_app = with_rule (with_rule (new_app (codes "shell")) (value_rule (codes "client"))) (value_rule (codes "dir"))

-- `settle DIR`
abbrev pub settle_app : App
settle_app = with_rule (new_app (codes "settle")) (value_rule (codes "dir"))

-- `dump DIR`
abbrev pub dump_app : App
dump_app = with_rule (new_app (codes "dump")) (value_rule (codes "dir"))

-- `load DIR`
abbrev pub load_app : App
load_app = with_rule (new_app (codes "load")) (value_rule (codes "dir"))

-- the program without its name, and with no subcommand for help
abbrev pub top_app : App
top_app =
    let a = new_app (codes "s3db") in
    record a { top = record a.top { no_binary_name = true; disable_help_subcommand = true; subcommand_required = true } }

abbrev pub command_app : App
command_app =
    let first = with_subcommand (with_subcommand top_app replay_app.top) gen_app.top in
    let second = with_subcommand (with_subcommand first shell_app.top) settle_app.top in
    with_subcommand (with_subcommand second dump_app.top) load_app.top

-- the number of a value, where it is one
abbrev pub number_in : List ℕ → List Row → Option ℕ
number_in id rows = option_and_then number_of (first_of id rows)

-- what a subcommand's values ask for
abbrev pub shell_in : Option ℕ → Option (List ℕ) → Option CommandShape
shell_in None dir = None
shell_in (Some client) None = None
shell_in (Some client) (Some dir) = if nat_le 1 client && nat_le client last_client then Some (Shell client dir) else None

abbrev pub settling_in : Option (List ℕ) → Option CommandShape
settling_in None = None
settling_in (Some dir) = Some (Settle dir)

abbrev pub dumping_in : Option (List ℕ) → Option CommandShape
dumping_in None = None
dumping_in (Some dir) = Some (Dump dir)

abbrev pub loading_in : Option (List ℕ) → Option CommandShape
loading_in None = None
loading_in (Some dir) = Some (Load dir)

-- the shape of a subcommand and its values
abbrev pub shape_of_values : List ℕ → List Row → Option CommandShape
shape_of_values name rows =
    if bytes_eq name (codes "replay") then Some Replay
    else (if bytes_eq name (codes "gen") then generated (number_in (codes "number") rows) (number_in (codes "count") rows)
    else (if bytes_eq name (codes "shell") then shell_in (number_in (codes "client") rows) (first_of (codes "dir") rows)
    else (if bytes_eq name (codes "settle") then settling_in (first_of (codes "dir") rows)
    else (if bytes_eq name (codes "dump") then dumping_in (first_of (codes "dir") rows)
    else (if bytes_eq name (codes "load") then loading_in (first_of (codes "dir") rows)
    else None)))))

abbrev pub shape_in : Option (List ℕ × List Row) → Option CommandShape
shape_in None = None
shape_in (Some p) = shape_of_values p.0 p.1
