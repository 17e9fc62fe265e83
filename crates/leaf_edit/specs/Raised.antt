-- The table of what is done, after a run.
use Rattle.std.specs.Prelude.{◌≡◌, ℕ, zero, suc, ◌-◌, ◌==◌, nat_lt, max, List, [], ◌∷◌, ◌++◌, filter, if◌then◌else◌}
use Rattle.db_base.specs.Ids.{IsClient}
use Rattle.db_base.specs.Limits.{last_client}
use Rattle.leaf_view.specs.declared.done.Done.{Done}
use Rattle.leaf_view.specs.Lookup.{number_of}
use Rattle.log_codec.specs.declared.record.PuItem.{PuItem}

-- an item's number where it is the client's, else 0
abbrev pub number_in : PuItem → ℕ → ℕ
number_in x client = if x.rec.client == client then x.rec.number else 0

-- the client's greatest number in the run, 0 where it has none
abbrev pub greatest_of : List PuItem → ℕ → ℕ
greatest_of [] client = 0
greatest_of (x ∷ xs) client = max (number_in x client) (greatest_of xs client)

-- what is done of a client's records behind the run
abbrev pub raised_number : List Done → ℕ → List PuItem → ℕ → ℕ
raised_number ds queue run client = max (number_of ds queue client) (greatest_of run client)

-- each client's number is what is done of its records behind the run
pub record AreRaised (ds : List Done) (queue : ℕ) (run : List PuItem) (number : ℕ → ℕ) : Type 0 where
  pub each : (client : ℕ) → number client ≡ raised_number ds queue run client

-- an entry in front of the others, where something is done
abbrev pub with_done : ℕ → ℕ → ℕ → List Done → List Done
with_done queue client zero ds = ds
with_done queue client (suc n) ds = record { queue = queue; client = client; number = suc n } ∷ ds

-- the queue's entries by client, for the last so many of the 64 clients
unfoldable pub own_entries : ℕ → (ℕ → ℕ) → ℕ → List Done
own_entries queue number zero = []
own_entries queue number (suc left) = with_done queue (last_client - left) (number (last_client - left)) (own_entries queue number left)

-- the entries of lower queues, the queue's own raised by the run, the entries of higher queues
abbrev pub raised : List Done → ℕ → List PuItem → List Done
raised ds queue run =
    filter (λ d. nat_lt d.queue queue) ds ++ (own_entries queue (raised_number ds queue run) last_client ++ filter (λ d. nat_lt queue d.queue) ds)

-- of the run's queue each client's number is raised to its greatest in the run, and the numbers of other queues stay
abbrev pub RaisesNumbers : List Done → List Done → ℕ → List PuItem → Type 0
RaisesNumbers old new queue run =
    (q c : ℕ) → IsClient c → number_of new q c ≡ (if q == queue then max (number_of old q c) (greatest_of run c) else number_of old q c)
