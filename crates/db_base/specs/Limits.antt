-- The limits that the formats and the protocol set.
use Rattle.std.specs.Prelude.{ℕ}

-- the most bytes of a key, of a payload and of an attribute
abbrev pub longest_key : ℕ
longest_key = 64

abbrev pub longest_payload : ℕ
longest_payload = 1024

abbrev pub longest_attr : ℕ
longest_attr = 32

-- clients, trees and the sessions that lines name are counted from 1
abbrev pub last_client : ℕ
last_client = 64

abbrev pub last_tree : ℕ
last_tree = 16

abbrev pub last_session : ℕ
last_session = 16

-- the trees up to this one may have an index by attribute, which is the tree so many above
abbrev pub last_indexed : ℕ
last_indexed = 8

-- the most changes of a transaction
abbrev pub most_changes : ℕ
most_changes = 200

-- how many records a leaf, and how many entries a node, has at most once it is put
abbrev pub most_items : ℕ
most_items = 64

-- the messages that a receive wants
abbrev pub most_received : ℕ
most_received = 256

-- the most positions of a wish
abbrev pub most_positions : ℕ
most_positions = 256

-- the ticks for which the lock of a page, of a tree and of a client is taken
abbrev pub page_ticks : ℕ
page_ticks = 30

abbrev pub tree_ticks : ℕ
tree_ticks = 60

abbrev pub client_ticks : ℕ
client_ticks = 600
