use Rattle.std.proofs.Common.{◌≡◌, ℕ, ap, inl, inr, refl, sym, subst, Some}
use Rattle.session_notes.specs.Notebook.{ChangesBook, GoesOnEnded}
use Rattle.world_audit.proofs.Looks.{looked_not}
use Rattle.world_core.proofs.Checkpointing.{notes_put, on_err_all}
use Rattle.cloud_trait.specs.Caller.{Caller}
use Rattle.cloud_trait.specs.State.{newest}
use Rattle.cloud_facts.specs.Words.{ObjName}
use Rattle.world_core.specs.declared.put.Sight.{Sight}
use Rattle.world_core.specs.Put.{Put, SeesBefore, SeesBehind, put_of, noted_put}
use Rattle.world_core.proofs.Sights.{put_seen}
use Rattle.world_core.specs.Sessions.{HasPut}
use Rattle.world_core.specs.World.{World}
use Rattle.world_core.proofs.Going.{put_before, noted_of, blinds}
use Rattle.world_core.proofs.GrowthLemmas.{grows_between}
use Rattle.world_core.proofs.Landing.{audited_put}
use Rattle.world_core.proofs.Marks.{newest_call}
use Rattle.world_core.proofs.world.World.step_put.Goals as goal

pub returns-clause-looked : goal.returns-clause-looked
returns-clause-looked g c = rw (← c.self.view_is) (record {
  from = g.C.Cloud.seen c.look_before.new.cloud;
  under = g.C.Cloud.seen c.wish.new.self;
  to = g.C.Cloud.seen c.step-turn.new.cloud;
  look_before = c.look_before.ensures.looked;
  wishes = record { no_call = c.wish.ensures.no_call; set = c.wish.ensures.set };
  session = c.step-turn.ensures;
  look_after = c.look_behind.ensures.looked;
  newest_call = newest_call c.args.who c.args.wish _ _ _ _ _ c.args.who.session _ _ c.step-turn.result
      c.look_before.ensures.looked (record { no_call = c.wish.ensures.no_call; set = c.wish.ensures.set }) c.step-turn.ensures c.look_behind.ensures.looked;
  saw = λ e. (c.is_blinded-self-inside.ensures.saw e).0;
  blinded = λ e. blinds c.self.inside.blind c.in_ok-before.before.newest c.in_ok-after.after c.look_behind.result _ _ c.in_ok-after.was c.in_ok-before.ensures.dark c.look_behind.ensures.dark
      (c.is_blinded-self-inside.ensures.blinded e);
  audit = λ e x y first second.
      let put : Put = c.requires.puts.put in
      let before : Sight = c.in_ok-before.before in
      let has : HasPut c.args.who.session c.self.inside.sessions (Some put) =
      subst (λ (w : World). HasPut c.args.who.session w.sessions (Some put)) (sym c.self.view_is) c.requires.puts.has in
      let hand : put_of c.step-turn.ensures.before.work ≡ Some put =
      put_before c.args.who.session c.self.inside.sessions (Some put) c.step-turn.ensures.before has c.step-turn.ensures.there in
      let saw : SeesBefore x put before = c.in_ok-before.ensures.sees x first put
      (subst (λ (n : ℕ). HasPut n c.args.self.now.sessions (Some put)) (sym (ap (λ (w : Caller). w.session) c.who.view_is)) c.requires.puts.has) in
      let sees : SeesBehind y put.name before c.in_ok-after.after =
      subst (λ (n : ObjName). SeesBehind y n before c.in_ok-after.after) (sym c.requires.puts.named) (c.in_ok-after.ensures.sees y second) in
      audited_put (newest x) (newest y) c.step-turn.ensures.before.work c.self.inside.audit c.note_put.new.audit c.keep_landed.new.audit
      c.mark-mark.result put before.newest c.in_ok-after.after hand (c.is_blinded-self-inside.ensures.saw e).1 (c.is_blinded-self-inside.ensures.saw e).2 saw.0
      (put_seen c.args.who c.args.wish put _ _ _ _ _ _ c.step-turn.result before c.in_ok-after.after c.look_before.ensures.looked
      (record { no_call = c.wish.ensures.no_call; set = c.wish.ensures.set }) c.step-turn.ensures hand x y first second saw sees)
      c.mark-mark.ensures.committed c.mark-mark.ensures.order
      (subst (λ (n : ObjName). c.note_put.new.audit ≡ noted_put n c.step-turn.ensures.before.work c.self.inside.audit) (sym c.requires.puts.named)
      (noted_of c.who.inside.session c.args.who.session c.self.inside.sessions c.in-Ok.ensures.session c.step-turn.ensures.before c.args.name.now c.self.inside.audit c.note_put.new.audit
      (ap (λ (w : Caller). w.session) c.who.view_is) c.in-Ok.ensures.there c.step-turn.ensures.there c.in-Ok.ensures.noted)) c.keep_landed.ensures;
  notes = notes_put c.args.who.session c.self.inside.notes c.end.new.self c.step-turn.ensures.before.work c.requires.puts.put c.step-turn.result c.is_done.result
      (put_before c.args.who.session c.self.inside.sessions _ c.step-turn.ensures.before (subst (λ (w : World). HasPut c.args.who.session w.sessions (Some c.requires.puts.put)) (sym c.self.view_is) c.requires.puts.has) c.step-turn.ensures.there)
      c.is_done.ensures (subst (λ n. ChangesBook n (GoesOnEnded c.is_done.result) c.self.inside.notes c.end.new.self) (ap (λ (w : Caller). w.session) c.who-2.view_is) c.in-Ok-end.ensures.ok);
})

pub returns-clause-grows : goal.returns-clause-grows
returns-clause-grows g c =
    grows_between c.args.who c.args.wish _ _ _ _ _ c.args.who.session _ _ c.step-turn.result
    c.look_before.ensures.looked (record { no_call = c.wish.ensures.no_call; set = c.wish.ensures.set }) c.step-turn.ensures c.look_behind.ensures.looked

pub returns-in_err-after-clause-grows : goal.returns-in_err-after-clause-grows
returns-in_err-after-clause-grows g c =
    grows_between c.args.who c.args.wish _ _ _ _ _ c.args.who.session _ _ c.step-turn.result
    c.look_before.ensures.looked (record { no_call = c.wish.ensures.no_call; set = c.wish.ensures.set }) c.step-turn.ensures c.look_behind.ensures.looked

pub returns-in-Err-end-clause-grows : goal.returns-in-Err-end-clause-grows
returns-in-Err-end-clause-grows g c =
    grows_between c.args.who c.args.wish _ _ _ _ _ c.args.who.session _ _ c.step-turn.result
    c.look_before.ensures.looked (record { no_call = c.wish.ensures.no_call; set = c.wish.ensures.set }) c.step-turn.ensures (looked_not _)

pub returns-in-Err-end-clause-short : goal.returns-in-Err-end-clause-short
returns-in-Err-end-clause-short g c = rw (← c.self.view_is) (inr (record {
  from = g.C.Cloud.seen c.look_before.new.cloud;
  under = g.C.Cloud.seen c.wish.new.self;
  to = g.C.Cloud.seen c.step-turn.new.cloud;
  turn = c.step-turn.result;
  look_before = c.look_before.ensures.looked;
  wishes = record { no_call = c.wish.ensures.no_call; set = c.wish.ensures.set };
  undone = inl (c.requires.puts.put, subst (λ (w : World). HasPut c.args.who.session w.sessions (Some c.requires.puts.put)) (sym c.self.view_is) c.requires.puts.has);
  session = c.step-turn.ensures;
  look_after = looked_not _;
  blind = refl;
}))

pub returns-in_err-after-clause-short : goal.returns-in_err-after-clause-short
returns-in_err-after-clause-short g c = rw (← c.self.view_is) (on_err_all c.from_residual-in_err-after.result (inr (record {
  from = g.C.Cloud.seen c.look_before.new.cloud;
  under = g.C.Cloud.seen c.wish.new.self;
  to = g.C.Cloud.seen c.step-turn.new.cloud;
  turn = c.step-turn.result;
  look_before = c.look_before.ensures.looked;
  wishes = record { no_call = c.wish.ensures.no_call; set = c.wish.ensures.set };
  undone = inl (c.requires.puts.put, subst (λ (w : World). HasPut c.args.who.session w.sessions (Some c.requires.puts.put)) (sym c.self.view_is) c.requires.puts.has);
  session = c.step-turn.ensures;
  look_after = c.look_behind.ensures.looked;
  blind = refl;
})))
