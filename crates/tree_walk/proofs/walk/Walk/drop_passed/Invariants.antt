use Rattle.std.proofs.Common.{◌≡◌, length}
use Rattle.std.specs.Prelude.{fold, map}
use Rattle.db_base.specs.declared.names.ObjName.TheVariants as object
use Rattle.page_cache.specs.Cache.{dropped}
use Rattle.tree_walk.specs.Walk.{passed}
use Rattle.tree_walk.proofs.walk.Walk.drop_passed.Given as goal

abbrev pub invariant-loop-page : goal.invariant-loop-page
invariant-loop-page l =
    fold dropped l.cache (map (λ page. object.Page l.self.tree page) l.left) ≡ fold dropped l.fn.cache (passed l.self)

abbrev pub decreases-loop-page : goal.decreases-loop-page
decreases-loop-page l = length l.left
