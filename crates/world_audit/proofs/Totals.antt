-- Counts one step further.
use Rattle.std.proofs.Common.{◌≡◌, ℕ, ◌+◌, List, length, refl, ◌∙◌, ap, arith, add-one}
use Rattle.std.specs.Prelude.{min}
use Rattle.cloud_trait.specs.State.{CloudState, greatest}
use Rattle.cloud_trait.specs.Delivery.{unmarked}
use Rattle.report_types.specs.declared.entry.Entry.{Entry}
use Rattle.world_audit.specs.Counts.{heads_upto, messages_below, open_at, queue_at}

pub heads_none : (s : CloudState) (tree : ℕ) (committed : List Entry) → 0 ≡ heads_upto s tree committed 0
unfolding heads_upto
heads_none s tree committed = refl

pub heads_suc : (s : CloudState) (tree : ℕ) (committed : List Entry) (n : ℕ)
    → heads_upto s tree committed n + open_at s (n + 1) tree committed ≡ heads_upto s tree committed (n + 1)
unfolding heads_upto
heads_suc s tree committed n = rw add-one refl

pub heads_more : (s : CloudState) (tree : ℕ) (committed : List Entry) (n heads client here : ℕ) → client ≡ n + 1 → heads ≡ heads_upto s tree committed n
    → here ≡ open_at s client tree committed → heads + here ≡ heads_upto s tree committed (n + 1)
heads_more s tree committed n heads client here is h e =
    let f : ℕ → ℕ = λ k. open_at s k tree committed in
    let a : here ≡ open_at s (n + 1) tree committed = e ∙ ap f is in
    omega (arith, heads_suc s tree committed n, a)

pub messages_none : (s : CloudState) (tree : ℕ) → 0 ≡ min (messages_below s tree 0) greatest
unfolding messages_below
messages_none s tree = refl

pub messages_suc : (s : CloudState) (tree n : ℕ) → messages_below s tree n + length (unmarked (s.messages (queue_at tree n))) ≡ messages_below s tree (n + 1)
unfolding messages_below
messages_suc s tree n = rw add-one refl

pub messages_more : (s : CloudState) (tree n sum more new : ℕ) → sum ≡ min (messages_below s tree n) greatest
    → more ≡ length (unmarked (s.messages (queue_at tree n))) → new ≡ min (sum + more) greatest → new ≡ min (messages_below s tree (n + 1)) greatest
messages_more s tree n sum more new h e is = omega (arith, messages_suc s tree n)
