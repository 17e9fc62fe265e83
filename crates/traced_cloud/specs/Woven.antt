-- Replies with the calls behind them.
use Rattle.std.specs.Prelude.{ℕ, ◌+◌, nat_le, List, [], ◌∷◌, ◌++◌, if◌then◌else◌}
use Rattle.traced_cloud.specs.declared.form.Form.{Form}
use Rattle.traced_cloud.specs.declared.form.Form.TheVariants.{Text, Json}
use Rattle.traced_cloud.specs.declared.note.Note.{Note}
use Rattle.traced_cloud.specs.Line.{call_line}
use Rattle.traced_cloud.specs.Json.{call_object, reply_object}

-- a call, and a reply to the line of a number
abbrev pub call_in : Form → Note → List ℕ
call_in Text note = call_line note
call_in Json note = call_object note

abbrev pub reply_in : Form → ℕ → List ℕ → List ℕ
reply_in Text n reply = reply
reply_in Json n reply = reply_object n reply

-- all calls, in their order
abbrev pub calls_of : Form → List Note → List ℕ
calls_of form [] = []
calls_of form (note ∷ notes) = call_in form note ++ calls_of form notes

-- the calls before the first one of an event behind n
abbrev pub calls_upto : Form → ℕ → List Note → List ℕ
calls_upto form n [] = []
calls_upto form n (note ∷ notes) = if nat_le note.who.event n then call_in form note ++ calls_upto form n notes else []

-- that call, and those behind it
abbrev pub behind : ℕ → List Note → List Note
behind n [] = []
behind n (note ∷ notes) = if nat_le note.who.event n then behind n notes else note ∷ notes

-- each reply, the first of line n, with the calls of its line behind it; and all calls that are left behind the last reply
abbrev pub woven : Form → ℕ → List (List ℕ) → List Note → List ℕ
woven form n [] notes = calls_of form notes
woven form n (reply ∷ replies) notes = reply_in form n reply ++ calls_upto form n notes ++ woven form (n + 1) replies (behind n notes)
