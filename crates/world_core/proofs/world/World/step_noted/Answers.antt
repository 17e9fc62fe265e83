use Rattle.std.proofs.Common.{ap, subst}
use Rattle.cloud_trait.specs.Caller.{Caller}
use Rattle.world_core.specs.Handled.{NotesCall, NotesEnd}
use Rattle.world_core.proofs.Checkpointing.{step_grows, step_noted, step_unnoted}
use Rattle.world_core.proofs.world.World.step_noted.Goals as goal

pub returns-in-Ok-note_end-clause-looked : goal.returns-in-Ok-note_end-clause-looked
returns-in-Ok-note_end-clause-looked g c = rw c.handed.ensures (
    step_noted c.args.who c.args.wish (g.C.Cloud.seen c.args.cloud.now) (g.C.Cloud.seen c.wish.new.self) (g.C.Cloud.seen c.call-turn.new.cloud)
    c.args.self.now c.note_call.new.self c.call-turn.new.self c.note_end.new.self c.call-turn.result c.is_done.result c.requires.unlooked
    (subst (λ n. NotesCall n c.args.self.now c.note_call.new.self) (ap (λ (w : Caller). w.session) c.who.view_is) c.in-Ok.ensures.ok)
    (record { no_call = c.wish.ensures.no_call; set = c.wish.ensures.set }) c.call-turn.ensures.session c.call-turn.ensures.audit c.call-turn.ensures.blind c.call-turn.ensures.notes c.is_done.ensures
    (subst (λ n. NotesEnd n c.is_done.result c.call-turn.new.self c.note_end.new.self) (ap (λ (w : Caller). w.session) c.who-2.view_is) c.in-Ok-note_end.ensures.ok))

pub returns-in-Ok-note_end-clause-grows : goal.returns-in-Ok-note_end-clause-grows
returns-in-Ok-note_end-clause-grows g c =
    step_grows c.args.who c.args.wish (g.C.Cloud.seen c.args.cloud.now) (g.C.Cloud.seen c.wish.new.self) (g.C.Cloud.seen c.call-turn.new.cloud) c.note_call.new.self c.call-turn.new.self c.call-turn.result
    (record { no_call = c.wish.ensures.no_call; set = c.wish.ensures.set }) c.call-turn.ensures.session

pub returns-in-Err-note_end-clause-short : goal.returns-in-Err-note_end-clause-short
returns-in-Err-note_end-clause-short g c =
    step_unnoted c.args.who c.args.wish (g.C.Cloud.seen c.args.cloud.now) (g.C.Cloud.seen c.wish.new.self) (g.C.Cloud.seen c.call-turn.new.cloud)
    c.args.self.now c.note_call.new.self c.call-turn.new.self c.note_end.new.self c.call-turn.result c.is_done.result
    (subst (λ n. NotesCall n c.args.self.now c.note_call.new.self) (ap (λ (w : Caller). w.session) c.who.view_is) c.in-Ok.ensures.ok)
    (record { no_call = c.wish.ensures.no_call; set = c.wish.ensures.set }) c.call-turn.ensures.session c.call-turn.ensures.blind c.is_done.ensures c.in-Err-note_end.ensures.done c.in-Err-note_end.ensures.err

pub returns-in-Err-note_end-clause-grows : goal.returns-in-Err-note_end-clause-grows
returns-in-Err-note_end-clause-grows g c =
    step_grows c.args.who c.args.wish (g.C.Cloud.seen c.args.cloud.now) (g.C.Cloud.seen c.wish.new.self) (g.C.Cloud.seen c.call-turn.new.cloud) c.note_call.new.self c.call-turn.new.self c.call-turn.result
    (record { no_call = c.wish.ensures.no_call; set = c.wish.ensures.set }) c.call-turn.ensures.session
