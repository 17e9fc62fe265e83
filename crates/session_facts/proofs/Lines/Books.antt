-- Where some book stands for a cloud and its sessions, whatever lines led there.
use Rattle.std.proofs.Common.{List, [], Bool, refl}
use Rattle.cloud_facts.specs.Book.Book.{empty_book}
use Rattle.cloud_trait.specs.State.{CloudState, IsEmptyCloud}
use Rattle.history.specs.Audited.{Audited}
use Rattle.replay_meaning.specs.Standing.{Line}
use Rattle.session_facts.specs.Lines.Facts.{Stands, SomeBookStands, WasLeft}
use Rattle.session_facts.specs.Sessions.Knows.{Sessions}
use Rattle.session_facts.proofs.Sessions.Laws.{none_open, starts}

-- it does behind lines
pub book_of : (lines : List Line) (sessions : Sessions) (audit : Audited) (blind : Bool) (t : CloudState) → Stands lines sessions audit blind t → SomeBookStands sessions t
book_of lines sessions audit blind t stands = record { book = stands.holds.book; order = stands.holds.order; stand = stands.holds.stand; rests = stands.rests }

-- once all sessions are gone
pub was_left : (sessions : Sessions) (t : CloudState) → SomeBookStands sessions t → WasLeft t
was_left sessions t stands = record { book = stands.book; order = stands.order; stand = none_open stands.book stands.order t stands.stand.cloud; rests = refl }

-- and at the beginning
pub empty_left : (t : CloudState) → IsEmptyCloud t → WasLeft t
empty_left t empty = record { book = empty_book; order = []; stand = starts t empty; rests = refl }
