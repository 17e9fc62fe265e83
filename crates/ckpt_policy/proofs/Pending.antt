-- What is due are pending update queues.
use Rattle.std.proofs.Common.{◌≡◌, Bool, true, false, List, map, take, sym, subst, ◌∙◌}
use Rattle.std.specs.Prelude.{◌==◌, All, if◌then◌else◌}
use Rattle.std.specs.List.{take-map}
use Rattle.std.proofs.lemmas.List.Elements.{All-map}
use Rattle.ckpt_policy.specs.declared.counts.Counts.{Counts}
use Rattle.ckpt_policy.specs.declared.place.Place.{Place}
use Rattle.db_base.specs.declared.names.QueueName.{QueueName}
use Rattle.db_base.specs.declared.names.QueueName.TheVariants.{TreePu, PagePu}
use Rattle.ckpt_policy.specs.Ledger.{Account}
use Rattle.ckpt_policy.specs.Notes.{queue_at, IsPending}
use Rattle.ckpt_policy.specs.Picking.{picked_from, ranked_from}

here : (place : Place) → IsPending (queue_at place)
here place = on (place.page == 0)
  where
    on : (b : Bool) → IsPending (if b then TreePu place.tree else PagePu place.tree place.page)
    on true = tt
    on false = tt

-- those of places
at_places : (places : List Place) → All IsPending (map queue_at places)
at_places places = All-map IsPending queue_at places (λ i d less. here _)

at_entries : (entries : List (Place × Counts)) → All IsPending (map (λ e. queue_at e.0) entries)
at_entries entries = All-map IsPending (λ (e : Place × Counts). queue_at e.0) entries (λ i d less. here _)

pub picked-pending : (a : Account) (queues : List QueueName) → queues ≡ picked_from a → All IsPending queues
picked-pending a queues e = subst (All IsPending) (sym e) (at_entries _)

pub ranked-pending : (a : Account) (queues : List QueueName) → queues ≡ take a.k (map queue_at (ranked_from a.counts)) → All IsPending queues
ranked-pending a queues e = subst (All IsPending) (sym (e ∙ take-map queue_at a.k (ranked_from a.counts))) (at_places _)
