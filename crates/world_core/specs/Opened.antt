-- Which clients events open, and that none is opened twice.
use Rattle.std.specs.Prelude.{ℕ, ◌≡◌, ◌⊎◌, List, [], ◌∷◌}
use Rattle.cloud_trait.specs.State.{CloudState}
use Rattle.cloud_trait.specs.Seen.{Seen}
use Rattle.event_text.specs.declared.event.Event.{Event}
use Rattle.event_text.specs.declared.event.Event.TheVariants.{Open}
use Rattle.session_facts.specs.Lines.Facts.{session_at}
use Rattle.session_facts.specs.Rows.Opened.{AddsApart}
use Rattle.world_core.specs.World.{World}

-- the event asks for the opening of a client, whether that is served or refused
abbrev pub AsksToOpen : Event → ℕ → Type 0
AsksToOpen (Open session own) client = own ≡ client
AsksToOpen event client = ⊥

-- one of these does
abbrev pub IsOpenedIn : List Event → ℕ → Type 0
IsOpenedIn [] client = ⊥
IsOpenedIn (event ∷ events) client = AsksToOpen event client ⊎ IsOpenedIn events client

-- no two of these ask for the opening of one client
abbrev pub OpenEachOnce : List Event → Type 0
OpenEachOnce [] = Unit {0}
OpenEachOnce (event ∷ events) = ((client : ℕ) → AsksToOpen event client → IsOpenedIn events client → ⊥) × OpenEachOnce events

-- behind such events no transaction was opened twice, whatever was in the cloud before, nor will one be that was
abbrev pub WorldApart : List Event → CloudState → World → Seen → Type 0
WorldApart events start world seen = AddsApart (IsOpenedIn events) start (session_at world.sessions) seen
