-- A settling that goes on came from its first call on.
use Rattle.std.proofs.Common.{◌≡◌, List, [], ◌∷◌, Option, Some, None, refl, subst}
use Rattle.cloud_trait.specs.declared.answer.Answer.{Answer}
use Rattle.cloud_trait.specs.declared.turn.Turn.{Turn}
use Rattle.cloud_trait.specs.declared.turn.Turn.TheVariants.{More}
use Rattle.cloud_trait.specs.Ask.{Ask}
use Rattle.cloud_trait.specs.Caller.{Caller}
use Rattle.cloud_trait.specs.Machine.{Deed, Follows, Steps, Took, occasion_of}
use Rattle.cloud_trait.specs.Seen.{Seen}
use Rattle.cloud_trait.specs.Weather.{Makes}
use Rattle.settle_run.specs.declared.settled.Settled.{Settled}
use Rattle.settle_run.specs.Settling.{Settling, settle_ask, SettleLeads, KeepsSettling, settling_machine}
use Rattle.client_work.specs.Settling.{IsSettling, IsUntold}

-- what is seen of a cloud but for what it tells
abbrev pub untold : Seen → Seen
untold s = record { counts = s.counts; state = None; heard = None; shown = None }

none_some : {A : Type 0} (a : A) → (let o : Option A = None in o ≡ Some a) → ⊥
none_some a e = cc

-- a call was made, whatever is told of it
pub made_untold : (who : Caller) (ask : Ask) (a : Answer) (before after : Seen) → Makes who ask a before after → Makes who ask a (untold before) (untold after)
made_untold who ask a before after m = record {
  fits = m.fits;
  heard = λ b e. absurd (none_some b e);
  counts = m.counts;
  dark = m.dark;
  failed = m.failed;
  memory = m.memory;
  shown = λ p e. absurd (none_some p e);
  state = λ s e. absurd (none_some s e);
}

-- where nothing is told nothing was lost
pub follows_untold : (h : List Deed) (d : Deed) → IsUntold h → Follows h d
follows_untold [] d is = tt
follows_untold (last ∷ h) d is = λ s t e f. absurd (none_some s (subst (λ o. o ≡ Some s) is e))

pub settles_on : (who : Caller) (before after : Seen) (old new : Settling) (turn : Turn Settled) → Steps settling_machine (occasion_of who before after) old new turn → turn ≡ More
    → IsSettling old → IsSettling new
settles_on who before after old new turn steps more (h, went, is) =
    let At : Turn Settled → Type 0 = Took SettleLeads KeepsSettling old steps.answer new in
    let d : Deed = record { who = who; ask = settle_ask old; answer = steps.answer; before = untold before; after = untold after } in
    (d ∷ h, (old, went, refl, made_untold who (settle_ask old) steps.answer before after steps.made, subst At more steps.took, follows_untold h d is), refl)
