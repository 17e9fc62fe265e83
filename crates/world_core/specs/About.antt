-- What is done about a call that a session has in hand, besides making it.
use Rattle.std.specs.Prelude.{ℕ, ◌≡◌, List, slice_get, Option, Some, None, IsSome}
use Rattle.cloud_trait.specs.Ask.{Ask}
use Rattle.ckpt_policy.specs.declared.note.Note.{Note}
use Rattle.client_work.specs.declared.work.Work.{Work}
use Rattle.client_work.specs.Session.{Acting, ask_of_work}
use Rattle.session_notes.specs.Notebook.{note_of_ask}
use Rattle.world_core.specs.declared.about.About.{About}
use Rattle.world_core.specs.declared.about.About.TheVariants.{Looks, Notes}
use Rattle.world_core.specs.Handled.{note_of_hand}
use Rattle.world_core.specs.Put.{put_of, put_of_ask}

-- a put is looked at, and any other call is noted where it counts
abbrev pub IsAboutAsk : Ask → About → Type 0
IsAboutAsk ask Looks = IsSome (put_of_ask ask)
IsAboutAsk ask (Notes note) = (put_of_ask ask ≡ None) × (note ≡ note_of_ask ask)

-- the same of the call that the work has in hand, where it has one
abbrev pub IsAbout : Work → About → Type 0
IsAbout w Looks = IsSome (put_of w)
IsAbout w (Notes note) = (put_of w ≡ None) × (note ≡ note_of_hand (ask_of_work w))

-- this is to be noted of what the session of a number has in hand
pub record HasNote (number : ℕ) (sessions : List Acting) (note : Option Note) : Type 0 where
  pub session : Acting
  pub there : slice_get sessions number ≡ Some session
  pub note_is : note ≡ note_of_hand (ask_of_work session.work)
