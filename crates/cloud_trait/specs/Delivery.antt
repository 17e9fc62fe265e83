-- What a receive may answer.
use Rattle.std.specs.Prelude.{ℕ, ◌≡◌, ◌+◌, cond, List, [], ◌∷◌, take, IsPermutation, Some}
use Rattle.cloud_trait.specs.declared.state.Posted.{Posted}
use Rattle.cloud_trait.specs.declared.message.Message.{Message}
use Rattle.cloud_trait.specs.State.{message_at}

-- the messages that are not deleted, the first of the list having this number
abbrev pub unmarked_from : ℕ → List Posted → List Message
unmarked_from n [] = []
unmarked_from n (m ∷ ms) = cond m.deleted (unmarked_from (n + 1) ms) (record { id = n; bytes = m.bytes } ∷ unmarked_from (n + 1) ms)

-- the messages that are not deleted, in order of sending
abbrev pub unmarked : List Posted → List Message
unmarked ms = unmarked_from 1 ms

-- this message was sent to the queue
abbrev pub WasSent : List Posted → Message → Type 0
WasSent ms m = message_at ms m.id ≡ Some m.bytes

-- a receive is delivering where it answers the first so many messages that are not deleted, each once, in any order
abbrev pub IsDelivering : List Posted → ℕ → List Message → Type 0
IsDelivering ms most answer = IsPermutation (take most (unmarked ms)) answer
