-- A look-up looks for what it began with.
use Rattle.std.proofs.Common.{◌≡◌, ℕ, Bool, true, false, cond, List, [], ◌∷◌, Option, Some, None, refl, subst}
use Rattle.attr_index.specs.Look.{Query, Own, Look, look_ready, look_next, bound_of, index_walk, record_walk, set_out, new_look, walks, to_first, to_record, behind_leaf, with_keys, with_found, leaf_read, leaf_read_at, walked}
use Rattle.attr_index.specs.Prefix.{prefix_of}
use Rattle.attr_index.specs.declared.stage.Stage.{Stage}
use Rattle.attr_index.specs.declared.stage.Stage.TheVariants.{Index, Records}
use Rattle.byte_format.specs.Order.{below_bound}
use Rattle.cloud_facts.specs.Words.{Leaf, Answer, Next, Goes, Ends, Stops}
use Rattle.page_cache.specs.Cache.{Cache}
use Rattle.page_cache.specs.Held.{leaf_at}
use Rattle.tree_walk.specs.Walk.{Walk, object_of, walk_ready, walk_next}

-- wherever a turn leads, it is for this
abbrev IsFor : Query → Next (Look × Cache) (Unit {0}) → Type 0
IsFor q (Goes m) = m.0.query ≡ q
IsFor q (Ends m done) = m.0.query ≡ q
IsFor q (Stops m t) = m.0.query ≡ q

set_out_for : (l : Look) (x : Next (Walk × Cache) ℕ) → IsFor l.query (set_out l x)
set_out_for l (Goes m) = refl
set_out_for l (Ends m page) = refl
set_out_for l (Stops m t) = refl

first_for : (l : Look) (keys : List (List ℕ)) (c : Cache) → IsFor l.query (to_first l keys c)
first_for l [] c = refl
first_for l (key ∷ keys) c = set_out_for (record l { stage = Records; listed = keys }) (walk_ready (record_walk l.query key, c))

behind_for : (l : Look) (high : Option (List ℕ)) (c : Cache) → IsFor l.query (behind_leaf l high c)
behind_for l None c = first_for l l.listed c
behind_for l (Some high) c = on (below_bound high (bound_of l.query))
  where
    on : (b : Bool) → IsFor l.query (cond b (walks l (index_walk l.query high) c) (to_record l c))
    on true = set_out_for l (walk_ready (index_walk l.query high, c))
    on false = first_for l l.listed c

leaf_for : (l : Look) (own : Own) (o : Option Leaf) (c : Cache) → IsFor l.query (leaf_read l own o c)
leaf_for l own None c = refl
leaf_for l own (Some leaf) c = on l.stage
  where
    on : (stage : Stage) → IsFor l.query (leaf_read_at stage l own leaf c)
    on Index = behind_for (with_keys l own leaf) leaf.high c
    on Records = first_for (with_found l own leaf) l.listed c

walked_for : (l : Look) (own : Own) (x : Next (Walk × Cache) ℕ) → IsFor l.query (walked l own x)
walked_for l own (Goes m) = refl
walked_for l own (Ends m page) = leaf_for (record l { walk = m.0 }) own (leaf_at m.1 (object_of m.0)) m.1
walked_for l own (Stops m t) = refl

-- a look-up that goes on
pub look_goes_for : (own : Own) (l n : Look) (c d : Cache) (a : Answer) → look_next own (l, c) a ≡ Goes (n, d) → n.query ≡ l.query
look_goes_for own l n c d a e = subst (IsFor l.query) e (walked_for l own (walk_next (l.walk, c) a))

-- and one that begins
pub look_begins_for : (q : Query) (n : Look) (c d : Cache) → look_ready q c ≡ Goes (n, d) → n.query ≡ q
look_begins_for q n c d e = subst (IsFor q) e (set_out_for (new_look q) (walk_ready (index_walk q (prefix_of q.attr), c)))
