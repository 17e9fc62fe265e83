use Rattle.std.proofs.Common.{◌≡◌, ◌-◌, map, take, drop}
use Rattle.load_plan.specs.Events.{insert_of}
use Rattle.schedule_run.specs.Load.{IsAmong}
use Rattle.schedule_run.proofs.LoadLemmas.{inserts_left}
use Rattle.schedule_run.proofs.load.note_part.Given as goal

-- the inserts of the records so far were noted, and those of the others are left
abbrev pub invariant-loop-noted : goal.invariant-loop-noted
invariant-loop-noted g l = record {
  among : IsAmong (map insert_of (take 200 l.fn.left)) (inserts_left l.noted l.left) (g.C.Cloud.seen l.fn.cloud) (g.C.Cloud.seen l.cloud) l.fn.play l.play;
  left : drop 200 l.fn.left ≡ drop (200 - l.noted) l.left;
}
