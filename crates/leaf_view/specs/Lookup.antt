-- What is found in a leaf.
use Rattle.std.specs.Prelude.{◌≡◌, ℕ, zero, suc, Bool, not, ◌&&◌, List, [], ◌∷◌, Option, Some, None, ◌==◌, if◌then◌else◌}
use Rattle.db_base.specs.Value.{Value}
use Rattle.byte_format.specs.Order.{bytes_below, bytes_same, below_bound}
use Rattle.leaf_view.specs.declared.done.Done.{Done}
use Rattle.leaf_view.specs.Leaf.{Entry, Leaf}

-- the keys of a leaf are from its low key on and below its high key
abbrev pub holds : Leaf → List ℕ → Bool
holds l key = not (bytes_below key l.low) && below_bound key l.high

-- the value of the record with this key
abbrev pub value_of : List ℕ → List Entry → Option Value
value_of key [] = None
value_of key (e ∷ es) = if bytes_same e.key key then Some e.value else value_of key es

-- the number of the entry of a queue and client, 0 where there is none
abbrev pub number_of : List Done → ℕ → ℕ → ℕ
number_of [] queue client = 0
number_of (d ∷ ds) queue client = if (d.queue == queue) && (d.client == client) then d.number else number_of ds queue client

-- a number, or another one where it is 0
abbrev pub or_else : ℕ → ℕ → ℕ
or_else zero other = other
or_else (suc n) other = suc n

-- each client's number is that of the queue
pub record AreNumbers (ds : List Done) (queue : ℕ) (number : ℕ → ℕ) : Type 0 where
  pub each : (client : ℕ) → number client ≡ number_of ds queue client

-- the right page, where there is one
abbrev pub page_at : ℕ → Option ℕ
page_at zero = None
page_at (suc n) = Some (suc n)

-- the page 1 that was never put
abbrev pub empty_leaf : Leaf
empty_leaf = record { format = 2; version = 0; low = []; right = 0; high = None; done = []; records = [] }
