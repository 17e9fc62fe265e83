use Rattle.std.proofs.Common.{◌≤◌, map, length, arith, rules, sym, subst, ap, ◌∙◌}
use Rattle.std.proofs.lemmas.List.Sorted.{IsPartitionPoint-from_clause}
use Rattle.byte_format.specs.Order.{bytes_below}
use Rattle.leaf_view.specs.Shown.{valued}
use Rattle.range_scan.specs.Bounds.{place_of}
use Rattle.range_scan.specs.Pairs.{IsAscending}
use Rattle.range_scan.proofs.Placing.{parted, point_is_place}
use Rattle.range_scan.proofs.items.Items.place.Goals as goal

pub returns : goal.returns
returns c =
    let up : IsAscending (map valued c.self.inside.pairs.items) = subst IsAscending (sym c.self.view_is) c.requires in
    let point = IsPartitionPoint-from_clause (λ x. bytes_below x.0.now c.args.key.now) _ _ c.partition_point.ensures.partitioned
    (parted c.args.key.now c.self.inside.pairs.items up) (λ a r q k. search rules) in
    let bound : c.partition_point.result ≤ length c.self.inside.pairs.items = omega (arith, c.partition_point.ensures.bound) in
    point_is_place c.args.key.now c.self.inside.pairs.items c.partition_point.result bound point.0 point.1 ∙ ap (place_of c.args.key.now) c.self.view_is
