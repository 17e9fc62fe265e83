-- A put that a session has in hand, and what the audit keeps of it.
use Rattle.std.specs.Prelude.{ℕ, ◌≡◌, ◌≢◌, nat_lt, Bool, true, false, not, ◌&&◌, ◌||◌, List, length, ◌++◌, map, take, if◌then◌else◌, Option, Some, None, IsSomeAnd}
use Rattle.db_base.specs.declared.names.ObjName.{ObjName}
use Rattle.db_base.specs.declared.names.ObjName.TheVariants as object
use Rattle.cloud_trait.specs.Ask.{Ask, PutHeld}
use Rattle.cloud_trait.specs.State.{CloudState, newest}
use Rattle.client_work.specs.declared.work.Work.{Work}
use Rattle.client_work.specs.Session.{ask_of_work, committing_of, opens_of, applying_of}
use Rattle.history.specs.Audited.{Audited, applied_entry}
use Rattle.world_audit.specs.declared.mark.Mark.{Mark}
use Rattle.cloud_trait.specs.Bench.{has_bytes}
use Rattle.cloud_facts.specs.Calls.Looks.{Newest}
use Rattle.session_facts.specs.Sessions.Audited.{noted_head}
use Rattle.world_core.specs.declared.put.Sight.{Sight}

-- a put: its object, and its bytes
pub record Put : Type 0 where
  pub name : ObjName
  pub bytes : List ℕ

abbrev pub put_by : ObjName → List ℕ → Put
put_by name bytes = record { name = name; bytes = bytes }

abbrev pub name_of : Put → ObjName
name_of put = put.name

-- the object and bytes of a call that is a put
abbrev pub put_of_ask : Ask → Option Put
put_of_ask (PutHeld name bytes one two) = Some (record { name = name; bytes = bytes })
put_of_ask ask = None

abbrev pub put_of_hand : Option Ask → Option Put
put_of_hand (Some ask) = put_of_ask ask
put_of_hand None = None

-- the put that the work has in hand
abbrev pub put_of : Work → Option Put
put_of w = put_of_hand (ask_of_work w)

-- the newest version of the put's object has its bytes
abbrev pub is_newest : Newest → Put → Bool
is_newest look put = has_bytes (look put.name) put.bytes

-- a look that did not fail saw whether it has
abbrev pub SeesNewest : Newest → Put → Option Bool → Type 0
SeesNewest look put (Some is) = is ≡ is_newest look put
SeesNewest look put None = Unit {0}

-- a look that did not fail counted the versions of an object
abbrev pub Counts : CloudState → ObjName → Option ℕ → Type 0
Counts s name (Some n) = n ≡ length (s.versions name)
Counts s name None = Unit {0}

-- what looks before a put saw of its object in this state: whether the newest version has its bytes, where no look failed, and then how many
-- versions landed
abbrev pub SeesBefore : CloudState → Put → Sight → Type 0
SeesBefore s put sight = SeesNewest (newest s) put sight.newest × (sight.newest ≢ None → sight.versions ≡ length (s.versions put.name))

-- what looks before and behind a put tell: the newest version has its bytes where it had them before, or where another one landed since
abbrev pub SeesBehind : CloudState → ObjName → Sight → Option Bool → Type 0
SeesBehind s name sight (Some is) = IsSomeAnd sight.newest (λ was. is ≡ (was || nat_lt sight.versions (length (s.versions name))))
SeesBehind s name sight None = Unit {0}

-- the audit with what a put of the object by the work commits or applies
abbrev pub noted_put : ObjName → Work → Audited → Audited
noted_put (object.Head client) w a = noted_head client (opens_of w) (committing_of w) a
noted_put (object.Page tree page) w a = record a { order = a.order ++ map (applied_entry tree) (applying_of w) }
noted_put (object.Tree tree) w a = a

-- the audit as it was at a mark
abbrev pub back_at : Mark → Audited → Audited
back_at mark a = record { committed = take mark.committed a.committed; order = take mark.order a.order }

-- what a look at a put's object saw: whether the newest version has its bytes, where it did not fail
abbrev pub Look : Type 0
Look = Option Bool

-- a look failed
abbrev pub is_blind : Look → Bool
is_blind (Some is) = false
is_blind None = true

abbrev pub saw : Look → Bool
saw (Some is) = is
saw None = false

-- what was noted of a put stays where the put was seen to land: its bytes were not the newest, and are
abbrev pub kept_of : Look → Look → Mark → Audited → Audited
kept_of before after mark a = if not (saw before) && saw after then a else back_at mark a
