-- What stands before a call of a commit, and what that says of its home.
use Rattle.std.proofs.Common.{◌≡◌, ℕ, List, [], ◌∷◌, refl, sym, subst, ◌∙◌}
use Rattle.cloud_facts.specs.Calls.Acting.{Footing, footing, Actor, actor, Setting, Outcome}
use Rattle.cloud_facts.specs.Words.{Entry, Answer, CloudState, Caller, Claim, Lasts, Book, at, store_of}
use Rattle.session_facts.specs.Machines.Commits.Knows.{attempt_of, KnowsNext}
use Rattle.session_facts.specs.Machines.Commits.Audited.{noted_at}
use Rattle.session_facts.proofs.Machines.Commits.Nexts.{Stands}
use Rattle.commit_writes.specs.declared.stage.Stage.{Stage}
use Rattle.commit_writes.specs.Writing.{Writing, ask_at, next_at}
use Rattle.cloud_facts.specs.Homes.Homes.{Home, Part, AtHome, Parts, IsAlone, HomeHolds, PartHolds, HomesHold}
use Rattle.cloud_facts.proofs.Homes.HomeLemmas.{keeps_part}

-- the session that commits has its home's lease in hand
abbrev pub committer : Parts → ℕ → Writing → Actor
committer parts session w = actor parts session (w.home.lease ∷ [])

-- the part of the session is at home for the transaction
pub record Ready (on : Footing) (now : ℕ) (by : Actor) (w : Writing) (part : Part) (g : Home) : Type 0 where
  pub setting : Setting on now by
  pub is : by.parts by.session ≡ part
  pub stands : Stands (attempt_of w) w.changes part g

-- the outcome of the call of a stage
abbrev pub OutcomeAt : Footing → CloudState → Actor → Writing → Answer → Stage → Type 0
OutcomeAt on t by w reply stage = Outcome on t by (ask_at stage w) (noted_at stage w (ask_at stage w)) (KnowsNext (next_at stage w reply))

module _ (who : Caller) (book : Book) (order : List Entry) (s : CloudState) (now : ℕ) (parts : Parts) (w : Writing) (part : Part) (g : Home)
    (ready : Ready (footing book order s) now (committer parts who.session w) w part g) where
  pub at_home : parts who.session ≡ AtHome g
  at_home = ready.is ∙ ((ready.stands).home).part_is

  -- what holds of the home
  pub holds : HomeHolds (store_of book order s).tally now g
  holds = subst (λ (p : Part). PartHolds (store_of book order s).tally now p) at_home (((ready.setting).homes).each who.session)

  -- its part may stay
  pub homes : HomesHold (store_of book order s).tally now (at who.session part parts)
  homes = keeps_part (store_of book order s).tally now parts who.session part ready.is (ready.setting).homes

  pub lasting : Lasts now w.home.lease → Lasts now g.lease
  lasting lasts = subst (λ (l : Claim). Lasts now l) (sym ((ready.stands).home).lease_is) lasts

  -- nobody else has a lasting part of the client
  pub alone : Lasts now w.home.lease → IsAlone now parts who.session g.client
  alone lasts =
      subst (λ c. IsAlone now parts who.session c) (sym ((ready.stands).home).client_is)
      ((ready.setting).alone w.home.lease w.home.client (0, refl) (ready.stands).lock lasts)
