-- A world before its first line.
use Rattle.std.proofs.Common.{◌≡◌, List, [], Bool, false, refl, sym, subst}
use Rattle.std.specs.Prelude.{replicate}
use Rattle.client_work.specs.Session.{Acting, closed_session}
use Rattle.cloud_trait.specs.State.{CloudState, IsEmptyCloud}
use Rattle.history.specs.Audited.{Audited}
use Rattle.session_facts.specs.Lines.Facts.{session_at, Stands}
use Rattle.session_facts.specs.Sessions.Knows.{Sessions}
use Rattle.session_facts.proofs.Lines.Start.{closed_at, nothing_stands_yet}
use Rattle.session_facts.specs.Lines.Counted.{calls_told, CountsWork, CountsAll}
use Rattle.session_notes.specs.declared.notebook.Notebook.{Notebook}
use Rattle.world_core.specs.Stands.{WorldStands}
use Rattle.world_core.specs.World.{all_sessions}

-- what stands for one that looks at puts stands for one that does not
sees_or_not : (sessions : Sessions) (audit : Audited) (blind : Bool) (t : CloudState) → Stands [] sessions audit false t → Stands [] sessions audit blind t
sees_or_not sessions audit blind t s = record {
  holds = record {
    book = s.holds.book;
    order = s.holds.order;
    stand = s.holds.stand;
    cloud = s.holds.cloud;
    seen = λ e. s.holds.seen refl;
    reported = s.holds.reported;
    landed = s.holds.landed;
  };
  acts = s.acts;
  rests = s.rests;
}

-- a world whose sessions are closed and that saw nothing stands for no lines over an empty cloud
lines_stand : (sessions : List Acting) (audit : Audited) (blind : Bool) (t : CloudState)
    → sessions ≡ replicate all_sessions closed_session → audit ≡ record { committed = []; order = [] } → IsEmptyCloud t
    → Stands [] (session_at sessions) audit blind t
lines_stand sessions audit blind t closed nothing empty =
    sees_or_not (session_at sessions) audit blind t
    (subst (λ l. Stands [] (session_at l) audit false t) (sym closed)
    (subst (λ a. Stands [] (session_at (replicate all_sessions closed_session)) a false t) (sym nothing) (nothing_stands_yet all_sessions t empty)))

-- and none of them has anything in hand
none_counted : (sessions : List Acting) (t : CloudState) → sessions ≡ replicate all_sessions closed_session → CountsAll (calls_told []) t (session_at sessions)
none_counted sessions t closed n =
    subst (λ (l : List Acting). CountsWork (calls_told [] n) t (session_at l n).work) (sym closed)
    (subst (λ (a : Acting). CountsWork (calls_told [] n) t a.work) (sym (closed_at all_sessions n)) tt)

pub new_stands : (sessions : List Acting) (audit : Audited) (blind : Bool) (notes : List Notebook) (t : CloudState)
    → sessions ≡ replicate all_sessions closed_session → audit ≡ record { committed = []; order = [] } → IsEmptyCloud t
    → WorldStands [] (record { sessions = sessions; audit = audit; blind = blind; notes = notes }) t
new_stands sessions audit blind notes t closed nothing empty = record {
  by_lines = lines_stand sessions audit blind t closed nothing empty;
  counted = none_counted sessions t closed;
}
