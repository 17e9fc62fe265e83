-- An opening goes on as one of its client, and ends with the client's home.
use Rattle.std.proofs.Common.{◌≡◌, ℕ, Option, Some, None, Result, Ok, Err, refl, sym, ap, ◌∙◌}
use Rattle.cloud_facts.specs.Words.{Trouble, Answer, Claim, Goes, Ends, Stops}
use Rattle.recover_run.specs.declared.home.Home.{Home}
use Rattle.recover_run.specs.declared.stage.Aim.{Aim}
use Rattle.recover_run.specs.declared.stage.Aim.TheVariants as aim
use Rattle.recover_run.specs.declared.stage.RecoverAnswer.{RecoverAnswer}
use Rattle.recover_run.specs.declared.stage.Stage.{Stage}
use Rattle.recover_run.specs.declared.stage.Stage.TheVariants.{ReleasingOld, Taking, Releasing, Finished}
use Rattle.recover_run.specs.Recovery.{Recovery, Step, new_recovery, recovery_next, home_of, home_with}
use Rattle.session_facts.specs.Lines.Running.{IsHeld, EndsInTrouble, OpensAt, IsOpening}
use Rattle.recover_run.proofs.Turns.{AtWork, Works, MayHalt, Turns, turns}
use Rattle.recover_run.proofs.Turns as turn

-- where a step leads it goes on for this client, or ends with a home of it
abbrev pub OpensFor : ℕ → Step → Type 0
OpensFor client (Goes new) = (new.client ≡ client) × IsOpening new
OpensFor client (Ends new a) = (home : Home) × (home_of new ≡ Some home) × (home.client ≡ client)
OpensFor client (Stops new t) = Unit {0}

-- while it is at work its lease is held
held_at : (stage : Stage) (r : Recovery) → AtWork stage → OpensAt stage r → IsHeld r.lease
held_at ReleasingOld r work h = absurd work
held_at Taking r work h = absurd work
held_at Releasing r work h = absurd work
held_at Finished r work h = absurd work
held_at stage r work h = h

opens_at : (stage : Stage) (r : Recovery) → AtWork stage → IsHeld r.lease → OpensAt stage r
opens_at ReleasingOld r work h = absurd work
opens_at Taking r work h = absurd work
opens_at Releasing r work h = absurd work
opens_at Finished r work h = absurd work
opens_at stage r work h = h

still_held : (r q : Recovery) → Works r q → IsOpening r → IsHeld q.lease
still_held r q w is = let h = held_at r.stage r w.at_work is.at in (h.0, w.lease ∙ h.1)

-- one that halts does so in trouble
in_trouble : (a : Aim) (ending : Result RecoverAnswer Trouble) → MayHalt a ending → a ≡ aim.Opening → EndsInTrouble (Some ending)
in_trouble a (Ok answer) settles e = absurd (let other : aim.Opening ≡ aim.Settling = sym e ∙ settles in cc (other))
in_trouble a (Err t) settles e = (t, refl)

opens : {r : Recovery} {a : Answer} {next : Step} → Turns r a next → IsOpening r → OpensFor r.client next
opens (turn.gives_old r a) is = (refl, record { aim = is.aim; at = tt })
opens (turn.takes r l) is = (refl, record { aim = is.aim; at = (l, refl) })
opens {r = r} (turn.works n w goes) is = (w.client, record { aim = w.aim ∙ is.aim; at = opens_at n.stage n goes (still_held r n w is) })
opens {r = r} (turn.halts q ending w may) is = (w.client, record { aim = w.aim ∙ is.aim; at = in_trouble r.aim ending may is.aim })
opens {r = r} (turn.opens q epoch w e) is =
    let h = still_held r q w is in
    (record { client = q.client; lease = h.0; head = q.head; attempt = 0 }, ap (home_with (record q { stage = Finished })) h.1, w.client)
opens (turn.ends r a answer e) is = absurd (let h = is.at in let other : Some (Ok answer) ≡ Some (Err h.0) = sym e ∙ h.1 in cc (other))
opens c is = tt

pub opens_on : (r : Recovery) (a : Answer) → IsOpening r → OpensFor r.client (recovery_next r a)
opens_on r a is = opens (turns r a) is

-- an opening begins as one, whatever lease was handed in
pub opening_begins : (client : ℕ) (old : Option Claim) → IsOpening (new_recovery client aim.Opening old)
opening_begins client (Some l) = record { aim = refl; at = tt }
opening_begins client None = record { aim = refl; at = tt }
