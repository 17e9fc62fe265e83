-- A call as a line of words.
use Rattle.std.specs.Prelude.{ℕ, Bool, true, false, List, [], ◌∷◌, ◌++◌, Option, Some, None, codes}
use Rattle.std.specs.Fmt.{decimal}
use Rattle.words.specs.Word.{space, newline}
use Rattle.reply_text.specs.Call.{made_word, target_word}
use Rattle.traced_cloud.specs.declared.stamp.Stamp.{Stamp}
use Rattle.traced_cloud.specs.declared.stamp.Stamp.TheVariants.{Version, Head}
use Rattle.traced_cloud.specs.declared.note.Note.{Note}
use Rattle.traced_cloud.specs.declared.note.Outcome.{Outcome}
use Rattle.traced_cloud.specs.declared.note.Outcome.TheVariants.{Read, Absent, Landed, Done, Sent, Received, Listed, Given, Held, Renewed, Late, Failed, Memory}

-- how many messages are wanted, or for how many ticks
abbrev pub limit_text : Option ℕ → List ℕ
limit_text None = []
limit_text (Some n) = space ∷ decimal n

-- numbers, each behind a space
abbrev pub more_text : List ℕ → List ℕ
more_text [] = []
more_text (id ∷ ids) = (space ∷ decimal id) ++ more_text ids

-- numbers of messages, or that there are none
abbrev pub ids_text : List ℕ → List ℕ
ids_text [] = codes "none"
ids_text (id ∷ ids) = decimal id ++ more_text ids

-- what a call answered
abbrev pub outcome_text : Outcome → List ℕ
outcome_text Read = codes "version"
outcome_text Absent = codes "absent"
outcome_text Landed = codes "landed"
outcome_text Done = codes "done"
outcome_text (Sent id) = codes "sent" ++ space ∷ decimal id
outcome_text (Received ids) = ids_text ids
outcome_text (Listed count) = codes "listed" ++ space ∷ decimal count
outcome_text (Given end) = codes "given" ++ space ∷ decimal end
outcome_text (Held until) = codes "held" ++ space ∷ decimal until
outcome_text (Renewed end) = codes "renewed" ++ space ∷ decimal end
outcome_text (Late end now) = codes "late" ++ space ∷ decimal end ++ space ∷ decimal now
outcome_text Failed = codes "failed"
outcome_text Memory = codes "memory"

-- a phase
abbrev pub phase_text : Bool → List ℕ
phase_text true = codes " open"
phase_text false = codes " settled"

-- what parts an epoch and a transaction
abbrev pub dot : ℕ
dot = 46

-- what the object says that was put or got: its version, or a head's epoch, transaction and phase
abbrev pub stamp_text : Option Stamp → List ℕ
stamp_text None = []
stamp_text (Some (Version version)) = space ∷ decimal version
stamp_text (Some (Head epoch txn is_open)) = space ∷ decimal epoch ++ dot ∷ decimal txn ++ phase_text is_open

-- the word before what an object says that was not put
abbrev pub lead_text : Outcome → List ℕ
lead_text Read = []
lead_text Landed = []
lead_text Absent = codes " of"
lead_text Done = codes " of"
lead_text (Sent id) = codes " of"
lead_text (Received ids) = codes " of"
lead_text (Listed count) = codes " of"
lead_text (Given end) = codes " of"
lead_text (Held until) = codes " of"
lead_text (Renewed end) = codes " of"
lead_text (Late end now) = codes " of"
lead_text Failed = codes " of"
lead_text Memory = codes " of"

-- what an object says, behind what the call answered
abbrev pub shown_text : Outcome → Option Stamp → List ℕ
shown_text outcome None = []
shown_text outcome (Some stamp) = lead_text outcome ++ stamp_text (Some stamp)

-- what a call answered, and what its object says
abbrev pub answer_text : Note → List ℕ
answer_text note = outcome_text note.outcome ++ shown_text note.outcome note.stamp

-- what a call did, to what, and what it wanted
abbrev pub named_text : Note → List ℕ
named_text note = made_word note.kind ++ space ∷ target_word note.target ++ limit_text note.limit

-- a call: the number of its event, what it did, an arrow, what it answered
abbrev pub call_line : Note → List ℕ
call_line note = decimal note.who.event ++ space ∷ named_text note ++ codes " -> " ++ answer_text note ++ newline ∷ []
