-- What a change does to a record, and two changes in one.
use Rattle.std.specs.Prelude.{ℕ, ◌+◌, ◌%◌, ◌^◌, ◌<◌, ◌==◌, Bool, true, false, if◌then◌else◌, List, [], length, Option, Some, None, IfSome}
use Rattle.std.specs.Int.{to_be_bytes, from_be_bytes}
use Rattle.std.proofs.Common.{w64}
use Rattle.db_base.specs.Key.{IsKey, IsPayload, IsAttr}
use Rattle.db_base.specs.Value.{Value}
use Rattle.db_base.specs.declared.change.Change.{Change}
use Rattle.db_base.specs.declared.change.Change.TheVariants.{Insert, Update, Delete, Add}

-- the sum of two numbers of 64 bits, counted around
abbrev pub added : ℕ → ℕ → ℕ
added a b = (a + b) % 2 ^ 64

-- a payload with an amount added: one of eight bytes is a number, its greatest byte first; another stays
abbrev pub plus : List ℕ → ℕ → List ℕ
plus payload amount = if length payload == 8 then to_be_bytes w64 (added (from_be_bytes w64 payload) amount) else payload

-- the key of the record that a change changes
abbrev pub key_of : Change → List ℕ
key_of (Insert key payload attr) = key
key_of (Update key payload) = key
key_of (Delete key) = key
key_of (Add key amount) = key

-- the payload that a change brings, empty where it brings none
abbrev pub payload_set_by : Change → List ℕ
payload_set_by (Insert key payload attr) = payload
payload_set_by (Update key payload) = payload
payload_set_by (Delete key) = []
payload_set_by (Add key amount) = []

-- the attribute that a change brings, where it brings one
abbrev pub attr_of : Change → Option (List ℕ)
attr_of (Insert key payload attr) = attr
attr_of (Update key payload) = None
attr_of (Delete key) = None
attr_of (Add key amount) = None

-- the amount that a change adds, 0 where it adds none
abbrev pub amount_of : Change → ℕ
amount_of (Insert key payload attr) = 0
amount_of (Update key payload) = 0
amount_of (Delete key) = 0
amount_of (Add key amount) = amount

-- a change's key is a key, its payload a payload, its attribute an attribute, and its amount a number of 64 bits
pub record IsChange (c : Change) : Type 0 where
  pub key : IsKey (key_of c)
  pub payload : IsPayload (payload_set_by c)
  pub attr : IfSome (attr_of c) IsAttr
  pub amount : amount_of c < 2 ^ 64

-- the record after a change, from the record before, where there is one
abbrev pub act : Option Value → Change → Option Value
act old (Insert key payload attr) = Some (record { payload = payload; attr = attr })
act (Some old) (Update key payload) = Some (record { payload = payload; attr = old.attr })
act None (Update key payload) = None
act old (Delete key) = None
act (Some old) (Add key amount) = Some (record { payload = plus old.payload amount; attr = old.attr })
act None (Add key amount) = None

-- the one change with the effect of two changes of one key
abbrev pub net : Change → Change → Change
net first (Insert key payload attr) = Insert key payload attr
net (Insert key old attr) (Update other payload) = Insert key payload attr
net (Update key old) (Update other payload) = Update key payload
net (Delete key) (Update other payload) = Delete key
net (Add key amount) (Update other payload) = Update other payload
net first (Delete key) = Delete key
net (Insert key payload attr) (Add other amount) = Insert key (plus payload amount) attr
net (Update key payload) (Add other amount) = Update key (plus payload amount)
net (Delete key) (Add other amount) = Delete key
net (Add key amount) (Add other more) = Add key (added amount more)

-- whether a change goes to the queue of a leaf, where its key has no pending entry
abbrev pub goes_to_leaf : Change → Bool
goes_to_leaf (Insert key payload attr) = false
goes_to_leaf (Update key payload) = true
goes_to_leaf (Delete key) = false
goes_to_leaf (Add key amount) = true
