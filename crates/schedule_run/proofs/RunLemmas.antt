-- What is asked, and what is read.
use Rattle.std.proofs.Common.{◌≡◌, ◌≤◌, ℕ, Bool, true, false, if◌then◌else◌, ◌&&◌, nat_le, List, [], ◌∷◌, length, Option, Some, None, Result, Ok, Err, refl, sym, subst, inr, arith}
use Rattle.std.specs.Prelude.{codes}
use Rattle.std.specs.Str.{bytes_eq}
use Rattle.std.proofs.lemmas.Bool.{leb-true}
use Rattle.cloud_trait.specs.Seen.{Seen}
use Rattle.db_io.specs.Content.{Told, Takes}
use Rattle.db_io.specs.Writes.{Written}
use Rattle.db_io.specs.Input.{WasRead, AreAll}
use Rattle.db_io.specs.declared.input.InputFault.{InputFault}
use Rattle.db_io.specs.declared.input.InputFault.TheVariants as input
use Rattle.db_io.specs.declared.input.TheConstants.{MAX_LINES, MAX_DUMP}
use Rattle.db_io.specs.declared.output.OutputFault.TheVariants as output
use Rattle.schedule_run.specs.Outside.{effects, outside}
use Rattle.schedule_run.specs.declared.replay.LineFault.{LineFault}
use Rattle.schedule_run.specs.declared.settling.SettleFault.TheVariants as settle
use Rattle.schedule_run.specs.declared.shell.ShellFault.{ShellFault}
use Rattle.schedule_run.specs.Replayed.{ReplayWent}
use Rattle.schedule_run.specs.Shell.{ShellWent}
use Rattle.schedule_run.specs.declared.dumping.DumpingFault.{DumpingFault}
use Rattle.schedule_run.specs.declared.loading.LoadingFault.{LoadingFault}
use Rattle.schedule_run.specs.Dumping.{DumpEnded}
use Rattle.schedule_run.specs.Loading.{FillEnded}
use Rattle.schedule_run.specs.Generated as generated
use Rattle.schedule_run.specs.Settling as settling
use Rattle.words.specs.Word.{number_of}
use Rattle.command_words.specs.declared.read.TheConstants.{MAX_COUNT}
use Rattle.command_words.specs.declared.shape.Shape.{Shape}
use Rattle.command_words.specs.declared.shape.Shape.TheVariants.{Replay, Gen, Shell, Settle, Dump, Load}
use Rattle.command_words.specs.Words.{is_folder, generated, shell_over, settling_of, dumping_of, loading_of, shape_of}
use Rattle.schedule_run.specs.declared.status.Status.TheVariants as status
use Rattle.schedule_run.specs.Status.{ended_as, status_of_input, status_of_line, status_of_shell, status_of_dump, status_of_load}
use Rattle.schedule_run.proofs.OnceLemmas.{once_nothing}
use Rattle.schedule_run.specs.Run.{AsksWithin, WasWithin, ReadWhole, Replays, replay_unread, replay_went, RunsShell, shell_unread, shell_went, RunsDump, dump_unasked, dump_went, RunsLoad, load_unread, load_went, Ran}

-- where no read was made, nothing was read
pub reads_nothing : (limit : ℕ) (source : Told) → WasWithin limit source source
reads_nothing limit source = record { bytes = []; taken = λ all e. (all, e, refl); within = omega arith }

-- an input that was read is the source to its end
abbrev whole : (limit : ℕ) (before after : Told) (input : List ℕ) → WasRead limit before after (Ok input) → ReadWhole limit before after
whole limit before after input read =
    let tells = read.tells in
    record {
      bytes = input;
      taken = subst (λ b. Takes before after b) (sym tells.0) read.taken;
      all = subst (λ b. AreAll before b) (sym tells.0) tells.2;
      within = subst (λ b. length b ≤ limit) (sym tells.0) tells.1;
    }

-- ---- the commands

pub replay_ran : (left rest : Told) (w u : Written) (s t : Seen) (text input : List ℕ) (ended : Result (Unit {0}) LineFault) → WasRead MAX_LINES left rest (Ok input)
    → text ≡ input → ReplayWent ended text (effects w s) (effects u t) → Replays (ended_as status_of_line ended) (outside left w s) (outside rest u t)
replay_ran left rest w u s t text input ended read same went =
    replay_went (whole MAX_LINES left rest input read) ended refl (subst (λ b. ReplayWent ended b (effects w s) (effects u t)) same went)

pub shell_ran : (client : ℕ) (left rest : Told) (w u : Written) (s t : Seen) (text input : List ℕ) (ended : Result (Unit {0}) ShellFault) → WasRead MAX_LINES left rest (Ok input)
    → text ≡ input → ShellWent client text ended (effects w s) (effects u t) → RunsShell client (ended_as status_of_shell ended) (outside left w s) (outside rest u t)
shell_ran client left rest w u s t text input ended read same went =
    shell_went (whole MAX_LINES left rest input read) ended refl (subst (λ b. ShellWent client b ended (effects w s) (effects u t)) same went)

pub load_ran : (left rest : Told) (w u : Written) (s t : Seen) (text input : List ℕ) (ended : Result (Unit {0}) LoadingFault) → WasRead MAX_DUMP left rest (Ok input)
    → text ≡ input → FillEnded text ended (effects w s) (effects u t) → RunsLoad (ended_as status_of_load ended) (outside left w s) (outside rest u t)
load_ran left rest w u s t text input ended read same went =
    load_went (whole MAX_DUMP left rest input read) ended refl (subst (λ b. FillEnded b ended (effects w s) (effects u t)) same went)

-- where the input was not read, nothing ran
pub replay_not_read : (left rest : Told) (w : Written) (s : Seen) (fault : InputFault) → Replays (status_of_input fault) (outside left w s) (outside rest w s)
replay_not_read left rest w s fault = replay_unread fault refl (record { output = refl; seen = refl })

pub shell_not_read : (client : ℕ) (left rest : Told) (w : Written) (s : Seen) (fault : InputFault) → RunsShell client (status_of_input fault) (outside left w s) (outside rest w s)
shell_not_read client left rest w s fault = shell_unread fault refl (record { output = refl; seen = refl })

pub load_not_read : (left rest : Told) (w : Written) (s : Seen) (fault : InputFault) → RunsLoad (status_of_input fault) (outside left w s) (outside rest w s)
load_not_read left rest w s fault = load_unread fault refl (record { output = refl; seen = refl })

-- where there was no memory for the words, nothing ran, whatever they ask for
pub not_asked : (asked : Option Shape) (left : Told) (w : Written) (s : Seen) → Ran asked status.Memory (outside left w s) (outside left w s)
not_asked None left w s = record { ends = inr refl; unread = refl; nothing = record { output = refl; seen = refl } }
not_asked (Some Replay) left w s = replay_not_read left left w s input.Memory
not_asked (Some (Gen number count)) left w s =
    (refl, record { ended = Err output.Memory; leads = refl; went = generated.out_before (record { output = refl; seen = refl }); opens_once = once_nothing s s refl })
not_asked (Some (Shell client dir)) left w s = shell_not_read client left left w s input.Memory
not_asked (Some (Settle dir)) left w s =
    (refl, record { ended = Err settle.Memory; leads = refl; went = settling.out_before (record { output = refl; seen = refl }) })
not_asked (Some (Dump dir)) left w s = (refl, dump_unasked refl (record { output = refl; seen = refl }))
not_asked (Some (Load dir)) left w s = load_not_read left left w s input.Memory

pub dump_ran : (ended : Result (Unit {0}) DumpingFault) (w u : Written) (s t : Seen) → DumpEnded ended (effects w s) (effects u t) → RunsDump (ended_as status_of_dump ended) (effects w s) (effects u t)
dump_ran ended w u s t went = dump_went ended refl went

-- ---- the words

if_some : (b : Bool) (x asked : Shape) → (if b then Some x else None) ≡ Some asked → (b ≡ true) × (x ≡ asked)
if_some true x asked e =
    let is : x ≡ asked = cc in (refl, is)
if_some false x asked e = absurd (cc)

generated_within : (number count : Option ℕ) (asked : Shape) → generated number count ≡ Some asked → AsksWithin asked
generated_within None count asked e = absurd (cc)
generated_within (Some number) None asked e = absurd (cc)
generated_within (Some number) (Some count) asked e =
    let p = if_some (nat_le count MAX_COUNT) (Gen number count) asked e in
    let within : count ≤ MAX_COUNT = leb-true count MAX_COUNT p.0 in
    subst AsksWithin p.1 within

shell_within : (client : Option ℕ) (dir : List ℕ) (asked : Shape) → shell_over client dir ≡ Some asked → AsksWithin asked
shell_within None dir asked e = absurd (cc)
shell_within (Some client) dir asked e =
    let p = if_some (nat_le 1 client && (nat_le client 64 && is_folder dir)) (Shell client dir) asked e in
    subst AsksWithin p.1 tt

settling_within : (dir : List ℕ) (asked : Shape) → settling_of dir ≡ Some asked → AsksWithin asked
settling_within dir asked e = subst AsksWithin (if_some (is_folder dir) (Settle dir) asked e).1 tt

one_within : (b : Bool) (asked : Shape) → (if b then Some Replay else None) ≡ Some asked → AsksWithin asked
one_within b asked e = subst AsksWithin (if_some b Replay asked e).1 tt

dumping_within : (dir : List ℕ) (asked : Shape) → dumping_of dir ≡ Some asked → AsksWithin asked
dumping_within dir asked e = subst AsksWithin (if_some (is_folder dir) (Dump dir) asked e).1 tt

loading_within : (dir : List ℕ) (asked : Shape) → loading_of dir ≡ Some asked → AsksWithin asked
loading_within dir asked e = subst AsksWithin (if_some (is_folder dir) (Load dir) asked e).1 tt

two_within : (b c d : Bool) (dir : List ℕ) (asked : Shape)
    → (if b then settling_of dir else (if c then dumping_of dir else (if d then loading_of dir else None))) ≡ Some asked → AsksWithin asked
two_within true c d dir asked e = settling_within dir asked e
two_within false true d dir asked e = dumping_within dir asked e
two_within false false true dir asked e = loading_within dir asked e
two_within false false false dir asked e = absurd (cc)

three_within : (b c : Bool) (one two : Option ℕ) (dir : List ℕ) (asked : Shape)
    → (if b then generated one two else (if c then shell_over one dir else None)) ≡ Some asked → AsksWithin asked
three_within true c one two dir asked e = generated_within one two asked e
three_within false true one two dir asked e = shell_within one dir asked e
three_within false false one two dir asked e = absurd (cc)

-- no more rounds are asked for than are generated
pub asked_within : (words : List (List ℕ)) (asked : Shape) → shape_of words ≡ Some asked → AsksWithin asked
asked_within [] asked e = absurd (cc)
asked_within (command ∷ []) asked e = one_within (bytes_eq command (codes "replay")) asked e
asked_within (command ∷ dir ∷ []) asked e = two_within (bytes_eq command (codes "settle")) (bytes_eq command (codes "dump")) (bytes_eq command (codes "load")) dir asked e
asked_within (command ∷ one ∷ two ∷ []) asked e =
    three_within (bytes_eq command (codes "gen")) (bytes_eq command (codes "shell")) (number_of one) (number_of two) two asked e
asked_within (command ∷ one ∷ two ∷ three ∷ rest) asked e = absurd (cc)
