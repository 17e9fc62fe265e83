-- The records of a dump, and their parts.
use Rattle.std.proofs.Common.{suc, ◌≡◌, ◌+◌, ◌==◌, ℕ, Bool, true, false, if◌then◌else◌, List, [], ◌∷◌, ◌++◌, map, length, refl, ap, append_assoc, arith, length-append}
use Rattle.dump_text.specs.declared.dump.DumpedTree.{DumpedTree}
use Rattle.event_text.specs.declared.event.Event.{Event}
use Rattle.event_text.specs.declared.event.Event.TheVariants as event
use Rattle.report_types.specs.declared.stored.Stored.{Stored}
use Rattle.load_plan.specs.Events.{Placed, placed_in, records_of, parts_of, insert_of, checkpoint_at, checkpoints_from, checkpoints_of, part_events, later_events, commit_events, load_events}

placed_length : (tree : ℕ) (records : List Stored) → length (placed_in tree records) ≡ length records
placed_length tree [] = refl
placed_length tree (s ∷ records) = ap (λ n. suc n) (placed_length tree records)

-- how many records trees have
pub count_more : (t : DumpedTree) (trees : List DumpedTree) → length (records_of (t ∷ trees)) ≡ length t.records + length (records_of trees)
count_more t trees = omega (arith, length-append (placed_in t.tree t.records) (records_of trees), placed_length t.tree t.records)

-- ---- what holds of each event of a load

abbrev pub Each : (Event → Type 0) → List Event → Type 0
Each P [] = Unit {0}
Each P (e ∷ events) = P e × Each P events

pub each_both : (P : Event → Type 0) (xs ys : List Event) → Each P xs → Each P ys → Each P (xs ++ ys)
each_both P [] ys first second = second
each_both P (x ∷ xs) ys first second = (first.0, each_both P xs ys first.1 second)

-- it holds of each kind of event but the settling
pub record IsOfLoads (P : Event → Type 0) : Type 0 where
  pub opens : P (event.Open 1 1)
  pub inserts : (p : Placed) → P (insert_of p)
  pub commits : P (event.Commit 1)
  pub folds : (tree : ℕ) → P (event.Tree 1 tree)
  pub renews : P (event.Renew 1)
  pub closes : P (event.Close 1)

each_insert : (P : Event → Type 0) → IsOfLoads P → (part : List Placed) → Each P (map insert_of part)
each_insert P of [] = tt
each_insert P of (p ∷ part) = (of.inserts p, each_insert P of part)

each_checkpoint : (P : Event → Type 0) → IsOfLoads P → (last : ℕ) (part : List Placed) → Each P (checkpoints_from last part)
each_checkpoint P of last [] = tt
each_checkpoint P of last (p ∷ part) =
    each_both P (checkpoint_at last p.tree) (checkpoints_from p.tree part) (on (p.tree == last)) (each_checkpoint P of p.tree part)
  where
    on : (b : Bool) → Each P (if b then [] else (event.Tree 1 p.tree ∷ []))
    on true = tt
    on false = (of.folds p.tree, tt)

each_of_part : (P : Event → Type 0) → IsOfLoads P → (part : List Placed) → Each P (part_events part)
each_of_part P of part =
    each_both P (map insert_of part) (event.Commit 1 ∷ checkpoints_of part) (each_insert P of part) (of.commits, each_checkpoint P of 0 part)

each_later : (P : Event → Type 0) → IsOfLoads P → (parts : List (List Placed)) → Each P (later_events parts)
each_later P of [] = tt
each_later P of (part ∷ later) = (of.renews, each_both P (part_events part) (later_events later) (each_of_part P of part) (each_later P of later))

each_commit : (P : Event → Type 0) → IsOfLoads P → (parts : List (List Placed)) → Each P (commit_events parts)
each_commit P of [] = tt
each_commit P of (part ∷ later) = each_both P (part_events part) (later_events later) (each_of_part P of part) (each_later P of later)

-- all but the settling, which is the last
abbrev pub before_settling : List DumpedTree → List Event
before_settling trees = event.Open 1 1 ∷ (commit_events (parts_of trees) ++ event.Close 1 ∷ [])

pub load_split : (trees : List DumpedTree) → before_settling trees ++ event.Settle ∷ [] ≡ load_events trees
load_split trees = ap (λ es. event.Open 1 1 ∷ es) (append_assoc (commit_events (parts_of trees)) (event.Close 1 ∷ []) (event.Settle ∷ []))

pub load_each : (P : Event → Type 0) → IsOfLoads P → (trees : List DumpedTree) → Each P (before_settling trees)
load_each P of trees = (of.opens, each_both P (commit_events (parts_of trees)) (event.Close 1 ∷ []) (each_commit P of (parts_of trees)) (of.closes, tt))

pub each_first : (P : Event → Type 0) (xs ys : List Event) → Each P (xs ++ ys) → Each P xs
each_first P [] ys each = tt
each_first P (x ∷ xs) ys each = (each.0, each_first P xs ys each.1)

pub each_last : (P : Event → Type 0) (xs : List Event) (e : Event) (ys : List Event) → Each P (xs ++ e ∷ ys) → P e
each_last P [] e ys each = each.0
each_last P (x ∷ xs) e ys each = each_last P xs e ys each.1
