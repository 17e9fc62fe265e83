use Rattle.std.proofs.Common.{◌≡◌, ℕ, List, true, false, rules, sym, subst}
use Rattle.std.specs.List.Sorted.{IsPartitionPoint}
use Rattle.std.proofs.lemmas.List.Sorted.{IsPartitionPoint-from_clause}
use Rattle.db_base.specs.Change.{key_of}
use Rattle.byte_format.specs.Order.{bytes_below}
use Rattle.log_codec.specs.declared.record.PuItem.{PuItem}
use Rattle.leaf_edit.specs.Merging.{AllBelow, AllFrom}
use Rattle.leaf_edit.proofs.Parted.{parted-by, front-all, behind-all}
use Rattle.leaf_edit.proofs.held.parted.Goals as goal

pub returns : goal.returns
returns c =
    let key : List ℕ = c.args.key.now in
    let point : IsPartitionPoint (λ (y : PuItem). bytes_below (key_of y.rec.change) key ≡ true) (λ y. bytes_below (key_of y.rec.change) key ≡ false) c.args.run.now c.partition_point-place.result =
    IsPartitionPoint-from_clause (λ (y : PuItem). bytes_below (key_of y.rec.change) key) _ _ c.partition_point-place.ensures.partitioned
    (parted-by key c.args.run.now c.requires) (λ a r q k. search rules) in
    record {
      whole = c.split_at.ensures.by_index.0;
      below = subst (AllBelow key) (sym c.split_at.ensures.front) (front-all (λ y. bytes_below (key_of y.rec.change) key ≡ true) _ _ c.partition_point-place.ensures.bound point.0);
      from = subst (AllFrom key) (sym c.split_at.ensures.back) (behind-all (λ y. bytes_below (key_of y.rec.change) key ≡ false) _ _ point.1);
    }
