-- A machine's way from its begin to where it stands, call by call, while nobody else acts.
use Rattle.std.proofs.Common.{◌≡◌, ◌≢◌, List, [], ◌∷◌, Some, refl, sym, ap, ◌∙◌}
use Rattle.cloud_trait.proofs.EffectLemmas.{grown_itself}
use Rattle.cloud_facts.specs.Words.{Answer, CloudState, Ask, Next, Goes, Deed}
use Rattle.cloud_trait.specs.declared.answer.Answer.TheVariants.{Failed, Memory}
use Rattle.cloud_trait.specs.Machine.{Came, Follows}
use Rattle.session_facts.proofs.Settling.Trails.{IsBetween, Trail}
use Rattle.session_facts.specs.Settling.Runs.{AreDelivered}
use Rattle.session_facts.specs.Writers.Alone.{AreAnswered}
use Rattle.std.proofs.lemmas.Option.{same_Some}

-- it came from its begin at a state to where it stands at another, by calls that delivered and were answered
pub record Comes {M A : Type 0} (ask : M → Ask) (leads : M → Answer → Next M A → Type 0) (start : M) (first : CloudState) (m : M) (s : CloudState) : Type 0 where
  pub calls : List Deed
  pub came : Came ask leads start calls m
  pub trail : Trail calls first s
  pub delivered : AreDelivered calls
  pub answered : AreAnswered calls

-- nothing is lost between a call and the next, where nobody acts between them
follows : (calls : List Deed) (d : Deed) (first s : CloudState) → Trail calls first s → d.before.state ≡ Some s → Follows calls d
follows [] d first s trail told = tt
follows (last ∷ calls) d first s (u, trail, between) told = λ x y at_x at_y.
    let x_is : x ≡ s = same_Some x s (sym at_x ∙ between.left) in
    let y_is : y ≡ s = same_Some y s (sym at_y ∙ told) in
    let same : y ≡ x = y_is ∙ sym x_is in
    grown_itself x y (ap (λ (z : CloudState). z.versions) same) (ap (λ (z : CloudState). z.messages) same) (ap (λ (z : CloudState). z.trace) same) (ap (λ (z : CloudState). z.now) same)

module _ {M A : Type 0} (ask : M → Ask) (leads : M → Answer → Next M A → Type 0) (start : M) (first : CloudState) where
  -- before its first call
  pub comes_first : Comes ask leads start first start first
  comes_first = record { calls = []; came = refl; trail = refl; delivered = tt; answered = tt }

  -- one call more
  pub comes_on : (m n : M) (s t : CloudState) → Comes ask leads start first m s → (d : Deed) → d.ask ≡ ask m → IsBetween d s t → leads m d.answer (Goes n)
      → d.after.counts.withheld ≡ d.before.counts.withheld → (d.answer ≢ Failed) × (d.answer ≢ Memory) → Comes ask leads start first n t
  comes_on m n s t comes d asked between to delivers answered = record {
    calls = d ∷ comes.calls;
    came = (m, comes.came, asked, between.made, to, follows comes.calls d first s comes.trail between.told);
    trail = (s, comes.trail, between);
    delivered = (delivers, comes.delivered);
    answered = (answered, comes.answered);
  }
