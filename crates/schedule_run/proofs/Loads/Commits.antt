-- How many commits a load runs.
use Rattle.std.proofs.Common.{◌≡◌, ◌+◌, ℕ, zero, suc, List, [], ◌∷◌, ◌++◌, length, map, drop, refl, ap, cond, Bool, true, false, arith}
use Rattle.std.specs.Prelude.{◌==◌}
use Rattle.dump_text.specs.declared.dump.DumpedTree.{DumpedTree}
use Rattle.event_text.specs.declared.event.Event.{Event}
use Rattle.event_text.specs.declared.event.Event.TheVariants as event
use Rattle.load_plan.specs.Events.{Placed, records_of, parts, parts_of, transactions, insert_of, checkpoint_at, checkpoints_from, checkpoints_of, part_events, later_events, commit_events, load_events}
use Rattle.schedule_run.specs.Loads.Loaded.{commits_in}

one_more : (e : Event) (xs ys : List Event) → commits_in (xs ++ ys) ≡ commits_in xs + commits_in ys → commits_in (e ∷ (xs ++ ys)) ≡ commits_in (e ∷ xs) + commits_in ys
one_more (event.Commit session) xs ys again = omega (arith, again)
one_more e xs ys again = again

commits_more : (xs ys : List Event) → commits_in (xs ++ ys) ≡ commits_in xs + commits_in ys
commits_more [] ys = omega arith
commits_more (x ∷ xs) ys = one_more x xs ys (commits_more xs ys)

inserts_commit : (part : List Placed) → commits_in (map insert_of part) ≡ 0
inserts_commit [] = refl
inserts_commit (p ∷ part) = inserts_commit part

checkpoint_commits : (last tree : ℕ) → commits_in (checkpoint_at last tree) ≡ 0
checkpoint_commits last tree = on (tree == last)
  where
    on : (b : Bool) → commits_in (cond b [] (event.Tree 1 tree ∷ [])) ≡ 0
    on true = refl
    on false = refl

checkpoints_commit : (last : ℕ) (part : List Placed) → commits_in (checkpoints_from last part) ≡ 0
checkpoints_commit last [] = refl
checkpoints_commit last (p ∷ part) =
    let both : commits_in (checkpoint_at last p.tree ++ checkpoints_from p.tree part) ≡ commits_in (checkpoint_at last p.tree) + commits_in (checkpoints_from p.tree part) =
    commits_more (checkpoint_at last p.tree) (checkpoints_from p.tree part) in
    let first = checkpoint_commits last p.tree in
    let rest = checkpoints_commit p.tree part in
    omega (arith, both, first, rest)

-- a part has one
part_commits : (part : List Placed) → commits_in (part_events part) ≡ 1
part_commits part =
    let both : commits_in (part_events part) ≡ commits_in (map insert_of part) + suc (commits_in (checkpoints_of part)) = commits_more (map insert_of part) (event.Commit 1 ∷ checkpoints_of part) in
    let inserts = inserts_commit part in
    let rest = checkpoints_commit 0 part in
    omega (arith, both, inserts, rest)

later_commits : (later : List (List Placed)) → commits_in (later_events later) ≡ length later
later_commits [] = refl
later_commits (part ∷ later) =
    let both : commits_in (part_events part ++ later_events later) ≡ commits_in (part_events part) + commits_in (later_events later) = commits_more (part_events part) (later_events later) in
    let one = part_commits part in
    let rest = later_commits later in
    omega (arith, both, one, rest)

commits_each : (all : List (List Placed)) → commits_in (commit_events all) ≡ length all
commits_each [] = refl
commits_each (part ∷ later) = later_commits (part ∷ later)

parts_length : (n : ℕ) (ps : List Placed) → length (parts n ps) ≡ n
parts_length zero ps = refl
parts_length (suc n) ps = ap suc (parts_length n (drop 200 ps))

pub load_commits : (trees : List DumpedTree) → commits_in (load_events trees) ≡ transactions (length (records_of trees))
load_commits trees =
    let both : commits_in (load_events trees) ≡ commits_in (commit_events (parts_of trees)) + 0 = commits_more (commit_events (parts_of trees)) (event.Close 1 ∷ event.Settle ∷ []) in
    let each = commits_each (parts_of trees) in
    let count = parts_length (transactions (length (records_of trees))) (records_of trees) in
    omega (arith, both, each, count)
