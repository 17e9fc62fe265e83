use Rattle.std.proofs.Common.{rules, ◌≡◌, ◌∷◌, subst}
use Rattle.tree_walk.specs.Moves.{Moves}
use Rattle.tree_walk.specs.Walk.{Walk}
use Rattle.attr_index.specs.declared.stage.Stage.TheVariants.{Records}
use Rattle.attr_index.specs.Look.{Look, to_record, walks}
use Rattle.attr_index.proofs.Turns.{record_moves}
use Rattle.attr_index.proofs.lookup.Lookup.to_record.Goals as goal

pub returns-clause-moves : goal.returns-clause-moves
returns-clause-moves c =
    let l : Look = record {
      query = record { tree = c.self.inside.tree; attr = c.self.inside.attr };
      stage = c.self.inside.stage;
      walk = c.self.inside.walk;
      listed = c.self.inside.listed.items;
      pairs = c.self.inside.pairs;
    } in
    let k : Look = record l { stage = Records; listed = c.pop_front.new.self.items } in
    let listed : l.listed ≡ c.in-Some.key ∷ k.listed = search rules in
    let moves : (w : Walk) → c.new-walk.result ≡ w → Moves (walks k w c.args.cache.now) (c.set_out.new.self, c.set_out.new.cache) c.set_out.result =
    λ w is. subst (λ (v : Walk). Moves (walks k v c.args.cache.now) (c.set_out.new.self, c.set_out.new.cache) c.set_out.result) is c.set_out.ensures.moves in
    subst (λ (s : Look). Moves (to_record s c.args.cache.now) (c.set_out.new.self, c.set_out.new.cache) c.set_out.result) c.self.view_is
    (record_moves l c.in-Some.key k.listed c.args.cache.now (c.set_out.new.self, c.set_out.new.cache) c.set_out.result listed (moves _ c.new-walk.ensures))
