-- What a parse tells of the words.
use Rattle.std.proofs.Common.{◌≡◌, ◌∙◌, ap, subst, inl, inr, ℕ, true, List, [], None}
use Rattle.std.specs.List.{list_all}
use Rattle.clap.specs.Words.{App, HasMatchesOf, HasKind, fault_of, is_simple_and_free, kind_of, subcommand_of, subcommand_rows_of}
use Rattle.clap.specs.declared.parser.matches.ArgMatches.{ArgMatches}
use Rattle.clap.specs.declared.error.Error.{Error}
use Rattle.clap.specs.declared.error.kind.ErrorKind.TheVariants.{OutOfMemory}
use Rattle.command_words.specs.Command.{command_app, shape_in}
use Rattle.command_words.specs.Words.{is_folder, shape_of}
use Rattle.command_words.proofs.ClapLaws.{none_where_refused, read_where_ok, simple, simple_and_free}

pub shape_where_ok : (a : App) (words : List (List ℕ)) (m : ArgMatches) → a ≡ command_app → list_all is_folder words ≡ true → (is_simple_and_free a ≡ true → fault_of a words ≡ []) → HasMatchesOf a words m → shape_in (subcommand_rows_of m) ≡ shape_of words
shape_where_ok a words m is h faults has =
    let F : App → Type 0 = λ x. is_simple_and_free x ≡ true → fault_of x words ≡ [] in
    let M : App → Type 0 = λ x. HasMatchesOf x words m in
    let none : fault_of command_app words ≡ [] = (subst F is faults) simple_and_free in
    let rows : subcommand_rows_of m ≡ subcommand_of command_app words = ((subst M is has) simple).1 in
    ap shape_in rows ∙ read_where_ok words h none

pub none_where_err : (a : App) (words : List (List ℕ)) (e : Error) → a ≡ command_app → list_all is_folder words ≡ true → (is_simple_and_free a ≡ true → HasKind (fault_of a words) e) → (kind_of e ≡ OutOfMemory → ⊥) → shape_of words ≡ None
none_where_err a words e is h faults other =
    let F : App → Type 0 = λ x. is_simple_and_free x ≡ true → HasKind (fault_of x words) e in
    on ((subst F is faults) simple_and_free)
  where
    on : HasKind (fault_of command_app words) e → shape_of words ≡ None
    on (inl p) = absurd (other p)
    on (inr q) = none_where_refused words (kind_of e) h q
