-- The schedule of a number and a count of rounds.
use Rattle.std.specs.Prelude.{ℕ, zero, suc, ◌+◌, ◌*◌, ◌/◌, ◌%◌, ◌^◌, ◌==◌, nat_le, if◌then◌else◌, List, [], ◌∷◌, ◌++◌, None}
use Rattle.std.specs.Int.{to_be_bytes, w16, w64}
use Rattle.event_text.specs.declared.event.Event.{Event}
use Rattle.event_text.specs.declared.event.Event.TheVariants.{Open, Close, Insert, Update, Delete, Commit, Page, Tree, Run, Settle}

-- the state after a state
unfoldable pub next_state : ℕ → ℕ
next_state x = (x * 6364136223846793005 + 1442695040888963407) % 2 ^ 64

-- what is drawn at a state
unfoldable pub drawn : ℕ → ℕ
drawn x = x / 2 ^ 33

-- a key: two bytes
abbrev pub key_of : ℕ → List ℕ
key_of place = to_be_bytes w16 (place % 4096)

-- the change of a round: an insert without attribute in four of eight cases, an update in three, a deletion in one
abbrev pub change_event : ℕ → ℕ → ℕ → ℕ → Event
change_event session place kind round =
    if kind % 8 == 7 then Delete session 1 (key_of place)
    else (if nat_le (kind % 8) 3 then Insert session 1 (key_of place) (to_be_bytes w64 round) None
    else Update session 1 (key_of place) (to_be_bytes w64 round))

-- the checkpoint of a round: each sixteenth of the tree, and halfway between two of these of a page
abbrev pub checkpoint_events : ℕ → ℕ → ℕ → List Event
checkpoint_events session round x =
    if round % 16 == 0 then Tree session 1 ∷ Run session ∷ []
    else (if round % 16 == 8 then Page session 1 (1 + drawn (next_state x) % 64) ∷ Run session ∷ []
    else [])

-- the state behind a checkpoint
abbrev pub state_behind : ℕ → ℕ → ℕ
state_behind round x = if round % 16 == 0 then x else (if round % 16 == 8 then next_state x else x)

-- the events of a round from a state on
abbrev pub round_events : ℕ → ℕ → List Event
round_events round x =
    let first = next_state x in
    let second = next_state first in
    let third = next_state second in
    let session = 1 + drawn first % 4 in
    change_event session (drawn second) (drawn third) round ∷ Commit session ∷ Run session ∷ checkpoint_events session round third

-- the state after a round
abbrev pub state_after : ℕ → ℕ → ℕ
state_after round x = state_behind round (next_state (next_state (next_state x)))

-- so many rounds from a round and a state on
unfoldable pub rounds : ℕ → ℕ → ℕ → List Event
rounds zero round x = []
rounds (suc left) round x = round_events round x ++ rounds left (round + 1) (state_after round x)

-- four sessions are opened
abbrev pub openings : List Event
openings = Open 1 1 ∷ Run 1 ∷ Open 2 2 ∷ Run 2 ∷ Open 3 3 ∷ Run 3 ∷ Open 4 4 ∷ Run 4 ∷ []

-- and closed, and all is settled
abbrev pub closings : List Event
closings = Close 1 ∷ Run 1 ∷ Close 2 ∷ Run 2 ∷ Close 3 ∷ Run 3 ∷ Close 4 ∷ Run 4 ∷ Settle ∷ []

-- the whole schedule
abbrev pub schedule : ℕ → ℕ → List Event
schedule number count = (openings ++ rounds count 1 number) ++ closings
