-- The messages that a wish names.
use Rattle.std.specs.Prelude.{ℕ, ◌+◌, List, [], ◌∷◌, cond}
use Rattle.std.specs.Option.{option_map_or}
use Rattle.cloud_trait.specs.declared.state.Posted.{Posted}
use Rattle.cloud_trait.specs.declared.message.Message.{Message}
use Rattle.cloud_trait.specs.State.{message_at}

-- the messages at these positions in this order, positions of no message left out
abbrev pub chosen : List Posted → List ℕ → List Message
chosen ms [] = []
chosen ms (p ∷ ps) = option_map_or (λ bytes. record { id = p; bytes = bytes } ∷ chosen ms ps) (message_at ms p) (chosen ms ps)

-- the message at a position, if there is one
abbrev pub chosen_at : List Posted → ℕ → List Message
chosen_at ms p = option_map_or (λ bytes. record { id = p; bytes = bytes } ∷ []) (message_at ms p) []

-- the numbers of the messages that are not deleted, the first of the list having this number
abbrev pub open_from : ℕ → List Posted → List ℕ
open_from n [] = []
open_from n (m ∷ ms) = cond m.deleted (open_from (n + 1) ms) (n ∷ open_from (n + 1) ms)
