-- The choice read off an account.
use Rattle.std.specs.Prelude.{ℕ, ◌%◌, nat_le, ◌==◌, Bool, false, List, [], map, filter}
use Rattle.db_base.specs.declared.names.QueueName.{QueueName}
use Rattle.ckpt_policy.specs.declared.counts.Counts.{Counts}
use Rattle.ckpt_policy.specs.declared.place.Place.{Place}
use Rattle.ckpt_policy.specs.declared.rank.Rank.{Rank}
use Rattle.ckpt_policy.specs.declared.role.Role.{Role}
use Rattle.ckpt_policy.specs.declared.role.Role.TheVariants.{Writer, Reader, Watchdog, Owner}
use Rattle.ckpt_policy.specs.Due.{place_of_rank, ranked_with}
use Rattle.ckpt_policy.specs.Ledger.{Account}
use Rattle.ckpt_policy.specs.Notes.{queue_at}

-- whether a queue is due by what is known of it alone
abbrev pub picks : Role → ℕ → ℕ → Place → Counts → Bool
picks Writer k client place counts = nat_le k counts.sent
picks Reader k client place counts = nat_le k counts.got
picks Watchdog k client place counts = false
picks Owner k client place counts = place.page % k == client % k

-- the queues that are due so
abbrev pub picked_from : Account → List QueueName
picked_from a = map (λ e. queue_at e.0) (filter (λ e. picks a.role a.k a.client e.0 e.1) a.counts)

abbrev pub rank_at : Place × Counts → Rank
rank_at e = record { kept = e.1.kept; tree = e.0.tree; page = e.0.page }

-- its places with how often they were checkpointed, the least often first
abbrev pub ranks_from : List (Place × Counts) → List Rank
ranks_from counts = ranked_with [] (map rank_at counts)

abbrev pub ranked_from : List (Place × Counts) → List Place
ranked_from counts = map place_of_rank (ranks_from counts)
