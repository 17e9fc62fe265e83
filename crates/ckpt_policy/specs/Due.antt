-- The queues that a session is to checkpoint.
use Rattle.std.specs.Prelude.{ℕ, ◌%◌, nat_le, ◌==◌, List, [], ◌∷◌, map, filter, take}
use Rattle.std.specs.declared.cmp.Ordering.{Ordering}
use Rattle.std.specs.Ordering.{nat_cmp, ordering_then}
use Rattle.std.specs.BTreeSet.{insert_key}
use Rattle.db_base.specs.declared.names.QueueName.{QueueName}
use Rattle.ckpt_policy.specs.declared.note.Note.{Note}
use Rattle.ckpt_policy.specs.declared.place.Place.{Place}
use Rattle.ckpt_policy.specs.declared.rank.Rank.{Rank}
use Rattle.ckpt_policy.specs.declared.role.Role.{Role}
use Rattle.ckpt_policy.specs.declared.role.Role.TheVariants.{Writer, Reader, Watchdog, Owner}
use Rattle.ckpt_policy.specs.Notes.{counts_at, known, queue_at}

-- by how often it was checkpointed, then by tree, then by page
abbrev pub rank_cmp : Rank → Rank → Ordering
rank_cmp a b = ordering_then (nat_cmp a.kept b.kept) (ordering_then (nat_cmp a.tree b.tree) (nat_cmp a.page b.page))

abbrev pub rank_of : List Note → Place → Rank
rank_of notes place = record { kept = (counts_at notes place).kept; tree = place.tree; page = place.page }

abbrev pub place_of_rank : Rank → Place
place_of_rank rank = record { tree = rank.tree; page = rank.page }

-- ranks in order, with others
abbrev pub ranked_with : List Rank → List Rank → List Rank
ranked_with ranks [] = ranks
ranked_with ranks (rank ∷ others) = ranked_with (insert_key rank_cmp ranks rank) others

-- the known places, the least often checkpointed first
abbrev pub ranked : List Note → List Place
ranked notes = map place_of_rank (ranked_with [] (map (rank_of notes) (known notes)))

-- the places that a role chooses
abbrev pub chosen : Role → ℕ → ℕ → List Note → List Place
chosen Writer k client notes = filter (λ place. nat_le k (counts_at notes place).sent) (known notes)
chosen Reader k client notes = filter (λ place. nat_le k (counts_at notes place).got) (known notes)
chosen Watchdog k client notes = take k (ranked notes)
chosen Owner k client notes = filter (λ place. place.page % k == client % k) (known notes)

-- the queues that a client's session is to checkpoint after its notes, in their order
abbrev pub due : Role → ℕ → ℕ → List Note → List QueueName
due role k client notes = map queue_at (chosen role k client notes)
