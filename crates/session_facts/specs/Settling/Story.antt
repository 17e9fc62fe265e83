-- The story of a part of a settling: its calls, with all that stands before and behind each, where nobody else acts in between.
use Rattle.std.specs.Prelude.{◌≡◌, List, [], ◌∷◌, Some}
use Rattle.client_work.specs.declared.work.Work.TheVariants as work
use Rattle.cloud_facts.specs.Words.{Entry, CloudState, Goes, Ends, Deed, Book, Store, store_of}
use Rattle.cloud_facts.specs.Book.Growth.{Grows}
use Rattle.cloud_trait.specs.Machine.{IsMade}
use Rattle.session_facts.specs.Sessions.Knows.{Sessions, SessionsStand}
use Rattle.settle_run.specs.declared.part.Part.{Part}
use Rattle.settle_run.specs.Parts.{part_again, part_ask, PartLeads}
use Rattle.settle_run.specs.Settling.{Settling}

-- a cloud and all sessions, as they stand at a moment
pub record Moment : Type 0 where
  pub state : CloudState
  pub book : Book
  pub order : List Entry
  pub sessions : Sessions
  pub stand : SessionsStand book order state sessions

abbrev pub store_at : Moment → Store
store_at m = store_of m.book m.order m.state

-- session 0 settles, and this part is at work
pub record IsAtWork (m : Moment) (w : Part) : Type 0 where
  pub settling : Settling
  pub works : (m.sessions 0).work ≡ work.Settling settling
  pub part_is : settling.part ≡ w

-- the call that a part at work asks for leads from one moment to another; what is told only grows
pub record IsTurn (d : Deed) (w : Part) (from to : Moment) : Type 0 where
  pub at_work : IsAtWork from w
  pub settler : d.who.session ≡ 0
  pub asked : d.ask ≡ part_ask w
  pub made : IsMade d
  pub told : d.before.state ≡ Some from.state
  pub left : d.after.state ≡ Some to.state
  pub grows : Grows (store_at from) (store_at to)

-- a part came from its begin at the first moment to where it stands at another by these calls, the newest first; each begins at the moment
-- that the one before it left, so nobody else acted
abbrev pub PartStory : Moment → List Deed → Part → Moment → Type 0
PartStory first [] w now = (part_again w ≡ w) × (now ≡ first)
PartStory first (d ∷ h) w now =
    (from : Part) × ((before : Moment) × (PartStory first h from before × IsTurn d from before now × PartLeads from d.answer (Goes w)))

-- a part ran whole between two moments by these calls, the newest first, and stood so at its end; no deletion of a checkpoint failed
pub record PartRan (w : Part) (h : List Deed) (first last : Moment) : Type 0 where
  pub end : Deed
  pub earlier : List Deed
  pub is : h ≡ end ∷ earlier
  pub from : Part
  pub before : Moment
  pub story : PartStory first earlier from before
  pub turn : IsTurn end from before last
  pub ends : PartLeads from end.answer (Ends w 0)
