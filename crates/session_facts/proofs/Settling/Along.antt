-- What holds whenever a part of a settling begins holds along it, where each part that runs whole hands it on.
use Rattle.std.proofs.Common.{◌≡◌, ◌+◌, ℕ, List, [], ◌∷◌, length, refl, sym, ap, subst, ◌∙◌, arith}
use Rattle.cloud_trait.specs.Machine.{Next, Goes, Ends, Stops, Deed}
use Rattle.session_facts.specs.Settling.Story.{Moment, IsAtWork, IsTurn, PartStory, PartRan}
use Rattle.session_facts.proofs.Machines.Settlings.Anew.{BeginsAnew, passed_anew}
use Rattle.settle_run.proofs.End.{part_stays}
use Rattle.settle_run.proofs.Outcomes.{Comes, came_by}
use Rattle.settle_run.proofs.Outcomes as step
use Rattle.settle_run.specs.Parts.{part_again, PartLeads}
use Rattle.settle_run.specs.Settling.{Settling, Step, passed, counted, with_part, SettleLeads}
use Rattle.settle_run.specs.declared.part.Part.{Part}
use Rattle.settle_run.specs.declared.settled.Settled.{Settled}

-- each call is so
abbrev pub Each : (Deed → Type 0) → List Deed → Type 0
Each P [] = Unit {0}
Each P (d ∷ h) = P d × Each P h

-- ---- the law of a part, and what it gives

-- a settling that stood so when a part began, behind that part with so many calls
abbrev pub behind_part : Settling → Part → List Deed → Settling
behind_part s w h = record s { part = w; calls = s.calls + length h }

-- what holds where a part begins, and what holds at the end
abbrev pub Handed : (Settling → Moment → Type 0) → (Settling → Settled → Moment → Type 0) → Step → Moment → Type 0
Handed B E (Goes n) m = B n m
Handed B E (Ends n x) m = E n x m
Handed B E (Stops n t) m = Unit {0}

-- a part that runs whole hands it on
abbrev pub Hands : (Settling → Moment → Type 0) → (Settling → Settled → Moment → Type 0) → (Deed → Type 0) → Type 0
Hands B E P =
    (s : Settling) (w : Part) (h : List Deed) (first last : Moment) → B s first → part_again w ≡ part_again s.part → PartRan w h first last → Each P h
    → IsAtWork first s.part → Handed B E (passed (behind_part s w h)) last

-- where a settling is on its way: how it stood when the part at work began, and that part's story
pub record Along (B : Settling → Moment → Type 0) (P : Deed → Type 0) (s : Settling) (now : Moment) : Type 0 where
  pub start : Settling
  pub first : Moment
  pub holds : B start first
  pub own : List Deed
  pub each : Each P own
  pub story : PartStory first own s.part now
  pub works : IsAtWork first start.part
  pub place : part_again s.part ≡ part_again start.part
  pub now_is : s ≡ record start { part = s.part; calls = start.calls + length own }

abbrev pub AlongNext : (Settling → Moment → Type 0) → (Settling → Settled → Moment → Type 0) → (Deed → Type 0) → Step → Moment → Type 0
AlongNext B E P (Goes n) m = IsAtWork m n.part → Along B P n m
AlongNext B E P (Ends n x) m = E n x m
AlongNext B E P (Stops n t) m = Unit {0}

module _ (B : Settling → Moment → Type 0) (E : Settling → Settled → Moment → Type 0) (P : Deed → Type 0) (hands : Hands B E P) where
  begun : (n : Settling) (m : Moment) → B n m → part_again n.part ≡ n.part → IsAtWork m n.part → Along B P n m
  begun n m holds fresh works = record {
    start = n;
    first = m;
    holds = holds;
    own = [];
    each = tt;
    story = (fresh, refl);
    works = works;
    place = refl;
    now_is = let none : n.calls ≡ n.calls + 0 = omega arith in ap (λ (c : ℕ). record n { calls = c }) none;
  }

  module _ (s : Settling) (now to : Moment) (along : Along B P s now) (d : Deed) (turn : IsTurn d s.part now to) (is : P d) where
    -- the settling with its part behind the call
    now_with : (p : Part) → counted (with_part s p) ≡ behind_part along.start p (d ∷ along.own)
    now_with p =
        let sum : along.start.calls + length along.own + 1 ≡ along.start.calls + length (d ∷ along.own) = omega arith in
        ap (λ (m : Settling). counted (with_part m p)) along.now_is ∙ ap (λ (c : ℕ). record along.start { part = p; calls = c }) sum

    goes_along : (p : Part) → PartLeads s.part d.answer (Goes p) → Along B P (counted (with_part s p)) to
    goes_along p leads = record {
      start = along.start;
      first = along.first;
      holds = along.holds;
      own = d ∷ along.own;
      each = (is, along.each);
      story = (s.part, (now, (along.story, turn, leads)));
      works = along.works;
      place = part_stays s.part d.answer (Goes p) leads ∙ along.place;
      now_is = now_with p;
    }

    ran : (p : Part) → PartLeads s.part d.answer (Ends p 0) → PartRan p (d ∷ along.own) along.first to
    ran p leads = record { end = d; earlier = along.own; is = refl; from = s.part; before = now; story = along.story; turn = turn; ends = leads }

    passed_along : (p : Part) (next : Step) → PartLeads s.part d.answer (Ends p 0) → passed (counted (with_part s p)) ≡ next → AlongNext B E P next to
    passed_along p next leads e =
        on next
        (subst (λ (x : Step). Handed B E x to) (sym (ap passed (now_with p)) ∙ e)
        (hands along.start p (d ∷ along.own) along.first to along.holds (part_stays s.part d.answer (Ends p 0) leads ∙ along.place) (ran p leads) (is, along.each) along.works))
        (passed_anew (counted (with_part s p)) next e)
      where
        on : (x : Step) → Handed B E x to → BeginsAnew x → AlongNext B E P x to
        on (Goes n) holds fresh = λ works. begun n to holds fresh works
        on (Ends n x) holds fresh = holds
        on (Stops n t) holds fresh = tt

    along_by : {x : Next Part ℕ} {next : Step} → Comes s x next → PartLeads s.part d.answer x → AlongNext B E P next to
    along_by (step.goes p) leads = λ works. goes_along p leads
    along_by (step.ends p next e) leads = passed_along p next leads e
    along_by c leads = tt

    -- a call of the settling leads on along it, or to its end
    pub along_step : (next : Step) → SettleLeads s d.answer next → AlongNext B E P next to
    along_step next (x, leads, e) = along_by (came_by s x next e) leads

  pub along_begins : (n : Settling) (m : Moment) → B n m → part_again n.part ≡ n.part → IsAtWork m n.part → Along B P n m
  along_begins n m holds fresh works = begun n m holds fresh works
