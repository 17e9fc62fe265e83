use Rattle.std.proofs.Common.{rules, ◌≡◌, ◌∙◌, Option, false, map, string_bytes, subst, true}
use Rattle.std.specs.List.{list_all}
use Rattle.std.proofs.lemmas.List.Folds.{list_all-map}
use Rattle.clap.specs.Words.{app_of, subcommand_rows_of}
use Rattle.command_words.specs.Command.{shape_in}
use Rattle.command_words.specs.declared.shape.Shape.{Shape}
use Rattle.command_words.specs.Words.{Answers, is_folder, shape_of}
use Rattle.command_words.proofs.HyphenLaws.{hyphened}
use Rattle.command_words.proofs.MatchLaws.{none_where_err, shape_where_ok}
use Rattle.command_words.proofs.read.shape.Goals as goal

pub returns-then-not-are_no_flags : goal.returns-then-not-are_no_flags
returns-then-not-are_no_flags c =
    let each : list_all (λ w. is_folder (string_bytes w)) c.args.words.now ≡ false = search rules in
    hyphened (map string_bytes c.args.words.now) (list_all-map is_folder string_bytes c.args.words.now ∙ each)

pub returns-in-Ok-try_get_matches_from : goal.returns-in-Ok-try_get_matches_from
returns-in-Ok-try_get_matches_from c =
    let each : list_all (λ w. is_folder (string_bytes w)) c.args.words.now ≡ true = search rules in
    let all : list_all is_folder (map string_bytes c.args.words.now) ≡ true = list_all-map is_folder string_bytes c.args.words.now ∙ each in
    let parse = c.in-Ok-try_get_matches_from in
    let is : shape_in (subcommand_rows_of parse.matches) ≡ shape_of (map string_bytes c.args.words.now) =
    shape_where_ok (app_of c.in-Ok.command) (map string_bytes c.args.words.now) parse.matches c.in-Ok.ensures all parse.ensures.kinds parse.ensures.matches in
    let P : Option Shape → Type 0 = λ wanted. Answers c.parsed.result wanted in
    subst P is c.parsed.ensures

pub returns : goal.returns
returns c =
    let each : list_all (λ w. is_folder (string_bytes w)) c.args.words.now ≡ true = search rules in
    let all : list_all is_folder (map string_bytes c.args.words.now) ≡ true = list_all-map is_folder string_bytes c.args.words.now ∙ each in
    none_where_err (app_of c.in-Ok.command) (map string_bytes c.args.words.now) c.in-Err.error c.in-Ok.ensures all c.in-Err.ensures.kinds
    (λ e. c.in_default-kind.not-OutOfMemory (c.kind.ensures ∙ e))
