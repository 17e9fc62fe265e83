-- What the parser makes of words that begin with no hyphen.
use Rattle.std.proofs.Common.{◌≡◌, ℕ, Bool, true, false, cond, not, ◌&&◌, eqb, List, [], ◌∷◌, ◌++◌, Option, Some, None, refl, sym, ap, subst, ◌∙◌, append-nil, append_assoc}
use Rattle.std.specs.Prelude.{codes, fold, nat_le, if◌then◌else◌}
use Rattle.std.specs.List.{list_all}
use Rattle.std.specs.Str.{bytes_eq}
use Rattle.std.proofs.lemmas.Bool.{and_parts}
use Rattle.std.proofs.lemmas.Slice.Eq.{bytes_eq-Decides}
use Rattle.clap.specs.declared.error.kind.ErrorKind.{ErrorKind}
use Rattle.clap.specs.Kinds.{IsAmong, Kinds, or_else}
use Rattle.clap.specs.Faults.{fault_of, is_simple_and_free, level_fault, walk_fault}
use Rattle.clap.specs.Walk.{Names, Rule, Text, Walk, walk_from, walked, nothing_held, rows_after}
use Rattle.clap.specs.Simple.{App, Shape, built, is_simple, built_leaf, inherited, with_leaf_noted, marked_built, names_of, subcommand_of}
use Rattle.clap.specs.Lexer.{long_of, short_of, strip_byte}
use Rattle.clap.proofs.OnLiterals.{clap_on_literals}
use Rattle.command_words.specs.Command.{command_app, replay_app, gen_app, shell_app, settle_app, dump_app, load_app, shape_in, shell_in, settling_in, dumping_in, loading_in}
use Rattle.words.specs.Word.{number_of}
use Rattle.command_words.specs.declared.shape.Shape.{Shape as CommandShape}
use Rattle.command_words.specs.declared.shape.Shape.TheVariants.{Shell}
use Rattle.command_words.specs.Words.{generated, is_folder, settling_of, dumping_of, loading_of, shape_of, shell_over}

-- ---- words that begin with no hyphen

no_dashes : (word : Text) → is_folder word ≡ true → bytes_eq word (45 ∷ 45 ∷ []) ≡ false
no_dashes [] h = refl
no_dashes (x ∷ word) h = on (eqb x 45) h
  where
    on : (same : Bool) → not same ≡ true → (same && bytes_eq word (45 ∷ [])) ≡ false
    on true h = absurd cc
    on false h = refl

no_hyphen : (word : Text) → is_folder word ≡ true → strip_byte 45 word ≡ None
no_hyphen [] h = refl
no_hyphen (x ∷ word) h = on (eqb x 45) h
  where
    on : (same : Bool) → not same ≡ true → cond same (Some word) None ≡ None
    on true h = absurd cc
    on false h = refl

no_long : (word : Text) → is_folder word ≡ true → long_of word ≡ None
no_long word h = rw (no_hyphen word h) refl

no_short : (word : Text) → is_folder word ≡ true → short_of word ≡ None
no_short word h = rw (no_hyphen word h) refl

-- ---- behind a subcommand the walk gathers the words

abbrev stopped_at : Walk → Text → List Text → Walk
stopped_at w name words = record w { stopped = Some (name, words) }

stopped_walk : (c : List Rule) (names : Names) (w : Walk) (name : Text) (so_far rest : List Text) → fold (walked c names) (stopped_at w name so_far) rest ≡ stopped_at w name (so_far ++ rest)
unfolding walked
stopped_walk c names w name so_far [] = ap (stopped_at w name) (sym (append-nil so_far))
stopped_walk c names w name so_far (word ∷ rest) = stopped_walk c names w name (so_far ++ word ∷ []) rest ∙ ap (stopped_at w name) (append_assoc so_far (word ∷ []) rest)

stopped_fault : (s : Shape) (names : Names) (w : Walk) (name : Text) (so_far rest : List Text) → walk_fault s names (stopped_at w name so_far) rest ≡ []
unfolding walk_fault walked
stopped_fault s names w name so_far [] = refl
stopped_fault s names w name so_far (word ∷ rest) = stopped_fault s names w name (so_far ++ word ∷ []) rest

no_more : (kinds : Kinds) → or_else kinds [] ≡ kinds
no_more [] = refl
no_more (k ∷ kinds) = refl

-- ---- the words of a subcommand

-- what is read agrees with what is wanted, and a fault means that nothing is
abbrev pub Agrees : Kinds → Option CommandShape → Option CommandShape → Type 0
Agrees [] read wanted = read ≡ wanted
Agrees (k ∷ kinds) read wanted = wanted ≡ None

-- a subcommand as it is built
abbrev leaf_of : App → Shape
leaf_of a = built_leaf (inherited (with_leaf_noted (marked_built command_app.top)) a.top)

abbrev leaf_fault : Shape → List Text → Kinds
leaf_fault s words = level_fault s [] nothing_held words false []

abbrev leaf_read : Shape → Text → List Text → Option CommandShape
leaf_read s name words = shape_in (Some (name, rows_after s.rules [] words))

all_first : (word : Text) (words : List Text) → list_all is_folder (word ∷ words) ≡ true → (is_folder word ≡ true) × (list_all is_folder words ≡ true)
all_first word words h = and_parts (is_folder word) (list_all is_folder words) h

-- a range with a test more that holds
same_range : (x y z : Bool) (s : CommandShape) → z ≡ true → (if x && y then Some s else None) ≡ (if x && (y && z) then Some s else None)
same_range true true z s h = rw h refl
same_range true false z s h = refl
same_range false y z s h = refl

same_shell : (client : Option ℕ) (dir : Text) → is_folder dir ≡ true → shell_in client (Some dir) ≡ shell_over client dir
same_shell None dir h = refl
same_shell (Some client) dir h = same_range (nat_le 1 client) (nat_le client 64) (is_folder dir) (Shell client dir) h

same_settling : (dir : Text) → is_folder dir ≡ true → settling_in (Some dir) ≡ settling_of dir
same_settling dir h = rw h refl

same_dumping : (dir : Text) → is_folder dir ≡ true → dumping_in (Some dir) ≡ dumping_of dir
same_dumping dir h = rw h refl

same_loading : (dir : Text) → is_folder dir ≡ true → loading_in (Some dir) ≡ loading_of dir
same_loading dir h = rw h refl

agree_replay : (words : List Text) → list_all is_folder words ≡ true → Agrees (leaf_fault (leaf_of replay_app) words) (leaf_read (leaf_of replay_app) (codes "replay") words) (shape_of (codes "replay" ∷ words))
unfolding clap_on_literals
agree_replay [] h = refl
agree_replay (a ∷ []) h =
    let p = (all_first a [] h).0 in
    rw (no_dashes a p, no_long a p, no_short a p) refl
agree_replay (a ∷ b ∷ []) h =
    let p = (all_first a (b ∷ []) h).0 in
    rw (no_dashes a p, no_long a p, no_short a p) refl
agree_replay (a ∷ b ∷ c ∷ words) h =
    let p = (all_first a (b ∷ c ∷ words) h).0 in
    rw (no_dashes a p, no_long a p, no_short a p) refl

agree_settle : (words : List Text) → list_all is_folder words ≡ true → Agrees (leaf_fault (leaf_of settle_app) words) (leaf_read (leaf_of settle_app) (codes "settle") words) (shape_of (codes "settle" ∷ words))
unfolding clap_on_literals
agree_settle [] h = refl
agree_settle (a ∷ []) h =
    let p = (all_first a [] h).0 in
    rw (no_dashes a p, no_long a p, no_short a p) (same_settling a p)
agree_settle (a ∷ b ∷ []) h =
    let p = all_first a (b ∷ []) h in
    let q = (all_first b [] p.1).0 in
    rw (no_dashes a p.0, no_long a p.0, no_short a p.0, no_dashes b q, no_long b q, no_short b q) refl
agree_settle (a ∷ b ∷ c ∷ words) h =
    let p = all_first a (b ∷ c ∷ words) h in
    let q = (all_first b (c ∷ words) p.1).0 in
    rw (no_dashes a p.0, no_long a p.0, no_short a p.0, no_dashes b q, no_long b q, no_short b q) refl

agree_dump : (words : List Text) → list_all is_folder words ≡ true → Agrees (leaf_fault (leaf_of dump_app) words) (leaf_read (leaf_of dump_app) (codes "dump") words) (shape_of (codes "dump" ∷ words))
unfolding clap_on_literals
agree_dump [] h = refl
agree_dump (a ∷ []) h =
    let p = (all_first a [] h).0 in
    rw (no_dashes a p, no_long a p, no_short a p) (same_dumping a p)
agree_dump (a ∷ b ∷ []) h =
    let p = all_first a (b ∷ []) h in
    let q = (all_first b [] p.1).0 in
    rw (no_dashes a p.0, no_long a p.0, no_short a p.0, no_dashes b q, no_long b q, no_short b q) refl
agree_dump (a ∷ b ∷ c ∷ words) h =
    let p = all_first a (b ∷ c ∷ words) h in
    let q = (all_first b (c ∷ words) p.1).0 in
    rw (no_dashes a p.0, no_long a p.0, no_short a p.0, no_dashes b q, no_long b q, no_short b q) refl

agree_load : (words : List Text) → list_all is_folder words ≡ true → Agrees (leaf_fault (leaf_of load_app) words) (leaf_read (leaf_of load_app) (codes "load") words) (shape_of (codes "load" ∷ words))
unfolding clap_on_literals
agree_load [] h = refl
agree_load (a ∷ []) h =
    let p = (all_first a [] h).0 in
    rw (no_dashes a p, no_long a p, no_short a p) (same_loading a p)
agree_load (a ∷ b ∷ []) h =
    let p = all_first a (b ∷ []) h in
    let q = (all_first b [] p.1).0 in
    rw (no_dashes a p.0, no_long a p.0, no_short a p.0, no_dashes b q, no_long b q, no_short b q) refl
agree_load (a ∷ b ∷ c ∷ words) h =
    let p = all_first a (b ∷ c ∷ words) h in
    let q = (all_first b (c ∷ words) p.1).0 in
    rw (no_dashes a p.0, no_long a p.0, no_short a p.0, no_dashes b q, no_long b q, no_short b q) refl

agree_gen : (words : List Text) → list_all is_folder words ≡ true → Agrees (leaf_fault (leaf_of gen_app) words) (leaf_read (leaf_of gen_app) (codes "gen") words) (shape_of (codes "gen" ∷ words))
unfolding clap_on_literals
agree_gen [] h = refl
agree_gen (a ∷ []) h =
    let p = (all_first a [] h).0 in
    rw (no_dashes a p, no_long a p, no_short a p) refl
agree_gen (a ∷ b ∷ []) h =
    let p = all_first a (b ∷ []) h in
    let q = (all_first b [] p.1).0 in
    rw (no_dashes a p.0, no_long a p.0, no_short a p.0, no_dashes b q, no_long b q, no_short b q) (refl {a = generated (number_of a) (number_of b)})
agree_gen (a ∷ b ∷ c ∷ words) h =
    let p = all_first a (b ∷ c ∷ words) h in
    let q = all_first b (c ∷ words) p.1 in
    let r = (all_first c words q.1).0 in
    rw (no_dashes a p.0, no_long a p.0, no_short a p.0, no_dashes b q.0, no_long b q.0, no_short b q.0, no_dashes c r, no_long c r, no_short c r) refl

agree_shell : (words : List Text) → list_all is_folder words ≡ true → Agrees (leaf_fault (leaf_of shell_app) words) (leaf_read (leaf_of shell_app) (codes "shell") words) (shape_of (codes "shell" ∷ words))
unfolding clap_on_literals
agree_shell [] h = refl
agree_shell (a ∷ []) h =
    let p = (all_first a [] h).0 in
    rw (no_dashes a p, no_long a p, no_short a p) refl
agree_shell (a ∷ b ∷ []) h =
    let p = all_first a (b ∷ []) h in
    let q = (all_first b [] p.1).0 in
    rw (no_dashes a p.0, no_long a p.0, no_short a p.0, no_dashes b q, no_long b q, no_short b q) (same_shell (number_of a) b q)
agree_shell (a ∷ b ∷ c ∷ words) h =
    let p = all_first a (b ∷ c ∷ words) h in
    let q = all_first b (c ∷ words) p.1 in
    let r = (all_first c words q.1).0 in
    rw (no_dashes a p.0, no_long a p.0, no_short a p.0, no_dashes b q.0, no_long b q.0, no_short b q.0, no_dashes c r, no_long c r, no_short c r) refl

-- ---- the first word

abbrev top_of : Shape
top_of = (built command_app).top

abbrev top_names : Names
top_names = names_of (built command_app)

top_replay : (rest : List Text) → (fault_of command_app (codes "replay" ∷ rest) ≡ leaf_fault (leaf_of replay_app) rest) × (subcommand_of command_app (codes "replay" ∷ rest) ≡ Some (codes "replay", rows_after (leaf_of replay_app).rules [] rest))
unfolding clap_on_literals
top_replay rest =
    let walk_is = stopped_walk top_of.rules top_names (walk_from nothing_held) (codes "replay") [] rest in
    let walk_fault_is = stopped_fault top_of top_names (walk_from nothing_held) (codes "replay") [] rest in
    (rw (walk_is, walk_fault_is) (no_more (leaf_fault (leaf_of replay_app) rest)), rw walk_is refl)

top_gen : (rest : List Text) → (fault_of command_app (codes "gen" ∷ rest) ≡ leaf_fault (leaf_of gen_app) rest) × (subcommand_of command_app (codes "gen" ∷ rest) ≡ Some (codes "gen", rows_after (leaf_of gen_app).rules [] rest))
unfolding clap_on_literals
top_gen rest =
    let walk_is = stopped_walk top_of.rules top_names (walk_from nothing_held) (codes "gen") [] rest in
    let walk_fault_is = stopped_fault top_of top_names (walk_from nothing_held) (codes "gen") [] rest in
    (rw (walk_is, walk_fault_is) (no_more (leaf_fault (leaf_of gen_app) rest)), rw walk_is refl)

top_shell : (rest : List Text) → (fault_of command_app (codes "shell" ∷ rest) ≡ leaf_fault (leaf_of shell_app) rest) × (subcommand_of command_app (codes "shell" ∷ rest) ≡ Some (codes "shell", rows_after (leaf_of shell_app).rules [] rest))
unfolding clap_on_literals
top_shell rest =
    let walk_is = stopped_walk top_of.rules top_names (walk_from nothing_held) (codes "shell") [] rest in
    let walk_fault_is = stopped_fault top_of top_names (walk_from nothing_held) (codes "shell") [] rest in
    (rw (walk_is, walk_fault_is) (no_more (leaf_fault (leaf_of shell_app) rest)), rw walk_is refl)

top_settle : (rest : List Text) → (fault_of command_app (codes "settle" ∷ rest) ≡ leaf_fault (leaf_of settle_app) rest) × (subcommand_of command_app (codes "settle" ∷ rest) ≡ Some (codes "settle", rows_after (leaf_of settle_app).rules [] rest))
unfolding clap_on_literals
top_settle rest =
    let walk_is = stopped_walk top_of.rules top_names (walk_from nothing_held) (codes "settle") [] rest in
    let walk_fault_is = stopped_fault top_of top_names (walk_from nothing_held) (codes "settle") [] rest in
    (rw (walk_is, walk_fault_is) (no_more (leaf_fault (leaf_of settle_app) rest)), rw walk_is refl)

top_dump : (rest : List Text) → (fault_of command_app (codes "dump" ∷ rest) ≡ leaf_fault (leaf_of dump_app) rest) × (subcommand_of command_app (codes "dump" ∷ rest) ≡ Some (codes "dump", rows_after (leaf_of dump_app).rules [] rest))
unfolding clap_on_literals
top_dump rest =
    let walk_is = stopped_walk top_of.rules top_names (walk_from nothing_held) (codes "dump") [] rest in
    let walk_fault_is = stopped_fault top_of top_names (walk_from nothing_held) (codes "dump") [] rest in
    (rw (walk_is, walk_fault_is) (no_more (leaf_fault (leaf_of dump_app) rest)), rw walk_is refl)

top_load : (rest : List Text) → (fault_of command_app (codes "load" ∷ rest) ≡ leaf_fault (leaf_of load_app) rest) × (subcommand_of command_app (codes "load" ∷ rest) ≡ Some (codes "load", rows_after (leaf_of load_app).rules [] rest))
unfolding clap_on_literals
top_load rest =
    let walk_is = stopped_walk top_of.rules top_names (walk_from nothing_held) (codes "load") [] rest in
    let walk_fault_is = stopped_fault top_of top_names (walk_from nothing_held) (codes "load") [] rest in
    (rw (walk_is, walk_fault_is) (no_more (leaf_fault (leaf_of load_app) rest)), rw walk_is refl)

-- what agrees stays so under equal terms
moved : (kinds k : Kinds) (read r wanted : Option CommandShape) → kinds ≡ k → read ≡ r → Agrees k r wanted → Agrees kinds read wanted
moved kinds k read r wanted e f h = rw (e, f) h

-- a test turned round
turned : (a b : Text) → bytes_eq a b ≡ false → bytes_eq b a ≡ false
turned a b h = on (bytes_eq b a) refl
  where
    on : (same : Bool) → bytes_eq b a ≡ same → same ≡ false
    on false e = refl
    on true e =
        let is : b ≡ a = (bytes_eq-Decides b a).0 e in
        let back : bytes_eq a b ≡ true = (bytes_eq-Decides a b).1 (sym is) in
        absurd (differ (bytes_eq a b) back h)
      where
        differ : (x : Bool) → x ≡ true → x ≡ false → ⊥
        differ true p q = absurd cc
        differ false p q = absurd cc

-- a word that names no subcommand
record IsNoName (word : Text) : Type 0 where
  replay : bytes_eq word (codes "replay") ≡ false
  gen : bytes_eq word (codes "gen") ≡ false
  shell : bytes_eq word (codes "shell") ≡ false
  settle : bytes_eq word (codes "settle") ≡ false
  dump : bytes_eq word (codes "dump") ≡ false
  load : bytes_eq word (codes "load") ≡ false

-- as a first word it is of no shape
no_name : (word : Text) (rest : List Text) → IsNoName word → shape_of (word ∷ rest) ≡ None
no_name word [] other = rw other.replay refl
no_name word (a ∷ []) other = rw (other.settle, other.dump, other.load) refl
no_name word (a ∷ b ∷ []) other = rw (other.gen, other.shell) refl
no_name word (a ∷ b ∷ c ∷ rest) other = refl

-- and is refused
stray : (word : Text) (rest : List Text) (read wanted : Option CommandShape) → is_folder word ≡ true → IsNoName word → wanted ≡ None → Agrees (fault_of command_app (word ∷ rest)) read wanted
unfolding clap_on_literals
stray word rest read wanted p other none =
    let r = turned word (codes "replay") other.replay in
    let g = turned word (codes "gen") other.gen in
    let s = turned word (codes "shell") other.shell in
    let t = turned word (codes "settle") other.settle in
    let d = turned word (codes "dump") other.dump in
    let l = turned word (codes "load") other.load in
    rw (r, g, s, t, d, l, no_dashes word p, no_long word p, no_short word p) none

-- ---- all words

-- what the parser makes of the words agrees with their shape
abbrev pub AgreesAt : List Text → Type 0
AgreesAt words = Agrees (fault_of command_app words) (shape_in (subcommand_of command_app words)) (shape_of words)

nothing_given : AgreesAt []
unfolding clap_on_literals
nothing_given = refl

at_replay : (rest : List Text) → list_all is_folder rest ≡ true → AgreesAt (codes "replay" ∷ rest)
at_replay rest h =
    let words = codes "replay" ∷ rest in
    let top = top_replay rest in
    moved (fault_of command_app words) (leaf_fault (leaf_of replay_app) rest) (shape_in (subcommand_of command_app words)) (leaf_read (leaf_of replay_app) (codes "replay") rest) (shape_of words)
    top.0 (ap shape_in top.1) (agree_replay rest h)

at_gen : (rest : List Text) → list_all is_folder rest ≡ true → AgreesAt (codes "gen" ∷ rest)
at_gen rest h =
    let words = codes "gen" ∷ rest in
    let top = top_gen rest in
    moved (fault_of command_app words) (leaf_fault (leaf_of gen_app) rest) (shape_in (subcommand_of command_app words)) (leaf_read (leaf_of gen_app) (codes "gen") rest) (shape_of words)
    top.0 (ap shape_in top.1) (agree_gen rest h)

at_shell : (rest : List Text) → list_all is_folder rest ≡ true → AgreesAt (codes "shell" ∷ rest)
at_shell rest h =
    let words = codes "shell" ∷ rest in
    let top = top_shell rest in
    moved (fault_of command_app words) (leaf_fault (leaf_of shell_app) rest) (shape_in (subcommand_of command_app words)) (leaf_read (leaf_of shell_app) (codes "shell") rest) (shape_of words)
    top.0 (ap shape_in top.1) (agree_shell rest h)

at_settle : (rest : List Text) → list_all is_folder rest ≡ true → AgreesAt (codes "settle" ∷ rest)
at_settle rest h =
    let words = codes "settle" ∷ rest in
    let top = top_settle rest in
    moved (fault_of command_app words) (leaf_fault (leaf_of settle_app) rest) (shape_in (subcommand_of command_app words)) (leaf_read (leaf_of settle_app) (codes "settle") rest) (shape_of words)
    top.0 (ap shape_in top.1) (agree_settle rest h)

at_dump : (rest : List Text) → list_all is_folder rest ≡ true → AgreesAt (codes "dump" ∷ rest)
at_dump rest h =
    let words = codes "dump" ∷ rest in
    let top = top_dump rest in
    moved (fault_of command_app words) (leaf_fault (leaf_of dump_app) rest) (shape_in (subcommand_of command_app words)) (leaf_read (leaf_of dump_app) (codes "dump") rest) (shape_of words)
    top.0 (ap shape_in top.1) (agree_dump rest h)

at_load : (rest : List Text) → list_all is_folder rest ≡ true → AgreesAt (codes "load" ∷ rest)
at_load rest h =
    let words = codes "load" ∷ rest in
    let top = top_load rest in
    moved (fault_of command_app words) (leaf_fault (leaf_of load_app) rest) (shape_in (subcommand_of command_app words)) (leaf_read (leaf_of load_app) (codes "load") rest) (shape_of words)
    top.0 (ap shape_in top.1) (agree_load rest h)

at_name : (word name : Text) (rest : List Text) → bytes_eq word name ≡ true → AgreesAt (name ∷ rest) → AgreesAt (word ∷ rest)
at_name word name rest e h =
    let P : Text → Type 0 = λ w. AgreesAt (w ∷ rest) in
    subst P (sym ((bytes_eq-Decides word name).0 e)) h

-- the word is tried with each name in turn
on_load : (word : Text) (rest : List Text) (same : Bool) → bytes_eq word (codes "load") ≡ same → is_folder word ≡ true → list_all is_folder rest ≡ true → bytes_eq word (codes "replay") ≡ false → bytes_eq word (codes "gen") ≡ false → bytes_eq word (codes "shell") ≡ false → bytes_eq word (codes "settle") ≡ false → bytes_eq word (codes "dump") ≡ false → AgreesAt (word ∷ rest)
on_load word rest true e p q r g s t d = at_name word (codes "load") rest e (at_load rest q)
on_load word rest false e p q r g s t d =
    let other : IsNoName word = record { replay = r; gen = g; shell = s; settle = t; dump = d; load = e } in
    stray word rest (shape_in (subcommand_of command_app (word ∷ rest))) (shape_of (word ∷ rest)) p other (no_name word rest other)

on_dump : (word : Text) (rest : List Text) (same : Bool) → bytes_eq word (codes "dump") ≡ same → is_folder word ≡ true → list_all is_folder rest ≡ true → bytes_eq word (codes "replay") ≡ false → bytes_eq word (codes "gen") ≡ false → bytes_eq word (codes "shell") ≡ false → bytes_eq word (codes "settle") ≡ false → AgreesAt (word ∷ rest)
on_dump word rest true e p q r g s t = at_name word (codes "dump") rest e (at_dump rest q)
on_dump word rest false e p q r g s t = on_load word rest (bytes_eq word (codes "load")) refl p q r g s t e

on_settle : (word : Text) (rest : List Text) (same : Bool) → bytes_eq word (codes "settle") ≡ same → is_folder word ≡ true → list_all is_folder rest ≡ true → bytes_eq word (codes "replay") ≡ false → bytes_eq word (codes "gen") ≡ false → bytes_eq word (codes "shell") ≡ false → AgreesAt (word ∷ rest)
on_settle word rest true e p q r g s = at_name word (codes "settle") rest e (at_settle rest q)
on_settle word rest false e p q r g s = on_dump word rest (bytes_eq word (codes "dump")) refl p q r g s e

on_shell : (word : Text) (rest : List Text) (same : Bool) → bytes_eq word (codes "shell") ≡ same → is_folder word ≡ true → list_all is_folder rest ≡ true → bytes_eq word (codes "replay") ≡ false → bytes_eq word (codes "gen") ≡ false → AgreesAt (word ∷ rest)
on_shell word rest true e p q r g = at_name word (codes "shell") rest e (at_shell rest q)
on_shell word rest false e p q r g = on_settle word rest (bytes_eq word (codes "settle")) refl p q r g e

on_gen : (word : Text) (rest : List Text) (same : Bool) → bytes_eq word (codes "gen") ≡ same → is_folder word ≡ true → list_all is_folder rest ≡ true → bytes_eq word (codes "replay") ≡ false → AgreesAt (word ∷ rest)
on_gen word rest true e p q r = at_name word (codes "gen") rest e (at_gen rest q)
on_gen word rest false e p q r = on_shell word rest (bytes_eq word (codes "shell")) refl p q r e

on_replay : (word : Text) (rest : List Text) (same : Bool) → bytes_eq word (codes "replay") ≡ same → is_folder word ≡ true → list_all is_folder rest ≡ true → AgreesAt (word ∷ rest)
on_replay word rest true e p q = at_name word (codes "replay") rest e (at_replay rest q)
on_replay word rest false e p q = on_gen word rest (bytes_eq word (codes "gen")) refl p q e

pub agrees : (words : List Text) → list_all is_folder words ≡ true → AgreesAt words
agrees [] h = nothing_given
agrees (word ∷ rest) h =
    let parts = all_first word rest h in
    on_replay word rest (bytes_eq word (codes "replay")) refl parts.0 parts.1

-- ---- what a caller of the parser reads

pub simple : is_simple command_app ≡ true
simple = refl

pub simple_and_free : is_simple_and_free command_app ≡ true
simple_and_free = refl

pub read_where_ok : (words : List Text) → list_all is_folder words ≡ true → fault_of command_app words ≡ [] → shape_in (subcommand_of command_app words) ≡ shape_of words
read_where_ok words h none =
    let P : Kinds → Type 0 = λ kinds. Agrees kinds (shape_in (subcommand_of command_app words)) (shape_of words) in
    subst P none (agrees words h)

pub none_where_refused : (words : List Text) (k : ErrorKind) → list_all is_folder words ≡ true → IsAmong k (fault_of command_app words) → shape_of words ≡ None
none_where_refused words k h among = on (fault_of command_app words) (shape_in (subcommand_of command_app words)) (shape_of words) (agrees words h) among
  where
    on : (kinds : Kinds) (read wanted : Option CommandShape) → Agrees kinds read wanted → IsAmong k kinds → wanted ≡ None
    on [] read wanted a m = absurd m
    on (x ∷ kinds) read wanted a m = a
