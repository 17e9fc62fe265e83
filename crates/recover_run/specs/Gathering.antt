-- What a recovery gathers of the records of an open head.
use Rattle.std.specs.Prelude.{ℕ, ◌==◌, ◌&&◌, ◌++◌, nat_le, not, Bool, false, List, [], ◌∷◌, filter, if◌then◌else◌}
use Rattle.head_codec.specs.declared.head.Head.{Head}
use Rattle.head_codec.specs.declared.head.Phase.{Phase}
use Rattle.head_codec.specs.declared.head.Phase.TheVariants.{Settled, Open}
use Rattle.log_codec.specs.declared.record.AtomicRec.{AtomicRec}
use Rattle.recover_run.specs.declared.wanted.Wanted.{Wanted}
use Rattle.recover_run.specs.declared.items.AtomicItem.{AtomicItem}
use Rattle.recover_run.specs.Ids.{new_ids, has_some}
use Rattle.recover_run.specs.Items.{ids_of}
use Rattle.recover_run.specs.Kept.{with_item}

-- how many records an open head counts, none where it is settled
abbrev pub count_of : Phase → ℕ
count_of Settled = 0
count_of (Open count) = count

-- the epoch and the transaction of a head, and how many records it counts
abbrev pub wanted_of : Head → Wanted
wanted_of h = record { epoch = h.epoch; txn = h.txn; count = count_of h.phase }

-- a record of the head's epoch and transaction
abbrev pub is_of : Wanted → AtomicRec → Bool
is_of w r = (r.epoch == w.epoch) && (r.txn == w.txn)

-- a record of an epoch that is not later than the head's
abbrev pub is_past : Wanted → AtomicRec → Bool
is_past w r = nat_le r.epoch w.epoch

-- one of the records that the head counts
abbrev pub is_counted : Wanted → AtomicRec → Bool
is_counted w r = is_of w r && nat_le r.index w.count

-- a record of a transaction that was never committed, or that is settled since long
abbrev pub is_lost : Wanted → AtomicRec → Bool
is_lost w r = is_past w r && not (is_of w r)

-- the ids of the messages of lost records
abbrev pub lost_ids : Wanted → List AtomicItem → List ℕ
lost_ids w items = ids_of (filter (λ (x : AtomicItem). is_lost w x.rec) items)

-- the ids of the messages of records that are not of a later epoch
abbrev pub past_ids : Wanted → List AtomicItem → List ℕ
past_ids w items = ids_of (filter (λ (x : AtomicItem). is_past w x.rec) items)

-- of the records that the head counts the first of each index is kept
abbrev pub kept_with : Wanted → List AtomicItem → List AtomicItem → List AtomicItem
kept_with w kept [] = kept
kept_with w kept (x ∷ items) = kept_with w (if is_counted w x.rec then with_item kept x else kept) items

-- what was gathered: the kept records by index, all ids that were received, whether the newest receive brought one that was new, and
-- the ids of lost records, which are deleted
pub record Gathered : Type 0 where
  pub kept : List AtomicItem
  pub seen : List ℕ
  pub fresh : Bool
  pub lost : List ℕ

abbrev pub nothing_gathered : Gathered
nothing_gathered = record { kept = []; seen = []; fresh = false; lost = [] }

-- the lost records of a receive that were not deleted yet
abbrev pub lost_now : Wanted → Gathered → List AtomicItem → List ℕ
lost_now w g items = new_ids g.lost (lost_ids w items)

-- with what a receive brought
abbrev pub gathered_with : Wanted → Gathered → List AtomicItem → Gathered
gathered_with w g items = record {
  kept = kept_with w g.kept items;
  seen = g.seen ++ new_ids g.seen (ids_of items);
  fresh = has_some (new_ids g.seen (ids_of items));
  lost = g.lost ++ lost_now w g items;
}
