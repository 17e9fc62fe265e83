-- A part's story, as its machine tells it, and what is known before each of its calls.
use Rattle.std.proofs.Common.{◌≡◌, ℕ, List, [], ◌∷◌, Some, refl, sym, ap, subst, ◌∙◌}
use Rattle.cloud_trait.specs.Calm.{ComesNext, AreCalm, AreAlone}
use Rattle.client_work.specs.declared.work.Work.{Work}
use Rattle.cloud_facts.specs.Words.{CloudState, Ask, Next, Goes, Ends, Stops, Deed, IsCall}
use Rattle.cloud_facts.proofs.Calls.Calls.{call_of}
use Rattle.cloud_trait.proofs.EffectLemmas.{grown_itself}
use Rattle.cloud_trait.specs.Growth.{HasGrown}
use Rattle.cloud_trait.specs.Machine.{LeadsBy, IsMade, Follows}
use Rattle.cloud_trait.specs.State.{Counts}
use Rattle.cloud_trait.specs.declared.turn.CkptAnswer.{CkptAnswer}
use Rattle.page_ckpt.specs.Paging.{Paging, PagingLeads}
use Rattle.recover_run.specs.declared.stage.RecoverAnswer.{RecoverAnswer}
use Rattle.recover_run.specs.Recovery.{Recovery, recovery_next}
use Rattle.session_facts.specs.Sessions.Knows.{KnowsWork}
use Rattle.session_facts.specs.Settling.Runs.{AreDelivered}
use Rattle.session_facts.specs.Settling.Story.{Moment, store_at, IsAtWork, IsTurn, PartStory, PartRan}
use Rattle.session_facts.specs.Machines.Settlings.Knows.{KnowsAtWork, KnowsSettling}
use Rattle.settle_run.specs.declared.part.Part.{Part}
use Rattle.settle_run.specs.declared.part.Part.TheVariants.{Client, Tree, Page}
use Rattle.settle_run.specs.Parts.{part_again, part_ask, recovers, makes, pages, PartLeads, PartWent}
use Rattle.tree_ckpt.specs.Making.{Making, MakingLeads}
use Rattle.std.proofs.lemmas.Option.{same_Some}

-- ---- what is known before a call

pub settling_known : (m : Moment) (w : Part) → (at : IsAtWork m w) → KnowsSettling (store_at m) m.state.now at.settling (m.stand.parts 0)
settling_known m w at =
    subst (λ (x : Work). KnowsWork (store_at m) m.state.now (m.sessions 0).cache x (m.stand.parts 0)) at.works (m.stand.each 0).work

pub part_known : (m : Moment) (w : Part) → IsAtWork m w → KnowsAtWork (store_at m) m.state.now w (m.stand.parts 0)
part_known m w at = subst (λ (x : Part). KnowsAtWork (store_at m) m.state.now x (m.stand.parts 0)) at.part_is (settling_known m w at).work

module _ (d : Deed) (w : Part) (from to : Moment) (turn : IsTurn d w from to) where
  pub turn_known : KnowsAtWork (store_at from) from.state.now w (from.stand.parts 0)
  turn_known = part_known from w turn.at_work

  pub turn_call : IsCall d.who d.ask d.answer from.state to.state
  turn_call = call_of d.who d.ask d.answer d.before d.after from.state to.state turn.made turn.told turn.left

  -- the same, by what the part asks
  pub turn_asks : IsCall d.who (part_ask w) d.answer from.state to.state
  turn_asks = subst (λ (ask : Ask). IsCall d.who ask d.answer from.state to.state) turn.asked turn_call

-- ---- the calls alone

grown_same : (s t : CloudState) → s ≡ t → HasGrown s t
grown_same s t e = subst (HasGrown s) e (grown_itself s s refl refl refl refl)

-- the newest call left the state in which the part stands
newest_left : (first : Moment) (d : Deed) (h : List Deed) (w : Part) (now : Moment) → PartStory first (d ∷ h) w now → d.after.state ≡ Some now.state
newest_left first d h w now (from, (before, (story, turn, leads))) = turn.left

story_follows : (first : Moment) (h : List Deed) (w : Part) (now : Moment) (d : Deed) → PartStory first h w now → d.before.state ≡ Some now.state → Follows h d
story_follows first [] w now d story told = tt
story_follows first (last ∷ h) w now d story told =
    λ s t left before. grown_same s t (same_Some s now.state (sym left ∙ newest_left first last h w now story) ∙ same_Some now.state t (sym told ∙ before))

-- a part that goes on made one call more
abbrev Longer : List Deed → Deed → Next Part ℕ → Type 0
Longer own d (Goes q) = PartWent (d ∷ own) q
Longer own d (Ends q left) = Unit {0}
Longer own d (Stops q t) = Unit {0}

part_more : (p : Part) (own : List Deed) (d : Deed) (next : Next Part ℕ) → PartWent own p → d.ask ≡ part_ask p → IsMade d → Follows own d
    → PartLeads p d.answer next → Longer own d next
part_more (Client client m) own d next went ask made follows leads = subst (Longer own d) (sym leads.2) (on leads.0 leads.1)
  where
    on : (n : Next Recovery RecoverAnswer) → LeadsBy recovery_next m d.answer n → Longer own d (recovers client n)
    on (Goes n) l = (m, went, ask, made, l, follows)
    on (Ends n x) l = tt
    on (Stops n t) l = tt
part_more (Tree tree m) own d next went ask made follows leads = subst (Longer own d) (sym leads.2) (on leads.0 leads.1)
  where
    on : (n : Next Making CkptAnswer) → MakingLeads m d.answer n → Longer own d (makes tree n)
    on (Goes n) l = (m, went, ask, made, l, follows)
    on (Ends n x) l = tt
    on (Stops n t) l = tt
part_more (Page tree page m) own d next went ask made follows leads = subst (Longer own d) (sym leads.2) (on leads.0 leads.1)
  where
    on : (n : Next Paging CkptAnswer) → PagingLeads m d.answer n → Longer own d (pages tree page n)
    on (Goes n) l = (m, went, ask, made, l, follows)
    on (Ends n x) l = tt
    on (Stops n t) l = tt

begun_went : (w : Part) → part_again w ≡ w → PartWent [] w
begun_went (Client client m) e = cc (e)
begun_went (Tree tree m) e = cc (e)
begun_went (Page tree page m) e = cc (e)

-- the part came here by these calls, as its machine says
pub story_went : (first : Moment) (h : List Deed) (w : Part) (now : Moment) → PartStory first h w now → PartWent h w
story_went first [] w now story = begun_went w story.0
story_went first (d ∷ h) w now (from, (before, (story, turn, leads))) =
    part_more from h d (Goes w) (story_went first h from before story) turn.asked turn.made (story_follows first h from before d story turn.told) leads

story_next : (first : Moment) (h : List Deed) (w : Part) (now : Moment) (d : Deed) → PartStory first h w now → d.before.state ≡ Some now.state → ComesNext h d
story_next first [] w now d story told = tt
story_next first (last ∷ h) w now d story told = told ∙ sym (newest_left first last h w now story)

-- nobody else acted
pub story_alone : (first : Moment) (h : List Deed) (w : Part) (now : Moment) → PartStory first h w now → AreAlone h
story_alone first [] w now story = tt
story_alone first (d ∷ h) w now (from, (before, (story, turn, leads))) = (story_next first h from before d story turn.told, story_alone first h from before story)

pub ran_alone : (w : Part) (h : List Deed) (first last : Moment) → PartRan w h first last → AreAlone h
ran_alone w h first last r =
    subst AreAlone (sym r.is) (story_next first r.earlier r.from r.before r.end r.story r.turn.told, story_alone first r.earlier r.from r.before r.story)

-- where no count rose no message was withheld
pub calm_delivered : (h : List Deed) → AreCalm h → AreDelivered h
calm_delivered [] calm = tt
calm_delivered (d ∷ h) (calm, rest) = (ap (λ (c : Counts). c.withheld) calm.counts, calm_delivered h rest)
