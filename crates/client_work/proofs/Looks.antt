-- What a step of a look-up that goes on leaves: the history of its calls with one more, and a walk that came from its begin.
use Rattle.std.proofs.Common.{◌≡◌, ℕ, Bool, true, false, List, [], ◌∷◌, Option, Some, None, refl, sym, subst}
use Rattle.std.specs.Prelude.{if◌then◌else◌}
use Rattle.byte_format.specs.Order.{below_bound}
use Rattle.db_base.specs.Ids.{index_of}
use Rattle.leaf_view.specs.Leaf.{Leaf}
use Rattle.cloud_trait.specs.declared.turn.Turn.{Turn}
use Rattle.cloud_trait.specs.declared.turn.Turn.TheVariants.{More, Ended, Stopped}
use Rattle.cloud_trait.specs.Caller.{Caller}
use Rattle.cloud_trait.specs.Machine.{Next, Goes, Ends, Stops, LeadsBy, Took, Deed, occasion_of}
use Rattle.cloud_trait.specs.Seen.{Seen}
use Rattle.page_cache.specs.Cache.{Cache}
use Rattle.tree_walk.specs.Meaning.{Walked}
use Rattle.tree_walk.specs.Served.{deed_of as walk_deed}
use Rattle.tree_walk.specs.Walk.{Walk, new_walk, walk_ready, walk_next, KeepsServed as KeepsServedInWalk}
use Rattle.tree_walk.specs.Within.{IsBegun}
use Rattle.attr_index.specs.declared.stage.Stage.{Stage}
use Rattle.attr_index.specs.declared.stage.Stage.TheVariants.{Index, Records}
use Rattle.attr_index.specs.Meaning.{Visit, Looked, leaf_by, visited}
use Rattle.attr_index.specs.Look.{Query, Own, Look, bound_of, index_walk, walks, set_out, new_look, look_ready, to_first, to_record, behind_leaf, with_keys, with_found, leaf_read_at, leaf_read, walked_on}
use Rattle.attr_index.specs.Prefix.{prefix_of}
use Rattle.attr_index.specs.Stepped.{Stepped, deed_of}

-- ---- the walk in hand

-- a walk came from its begin by some calls
abbrev pub HasWalked : Walk × Cache → Type 0
HasWalked m = (start : Walk × Cache) × (h : List Deed) × IsBegun start × Walked start h m

-- a look-up that goes on has such a walk in hand
abbrev GoesWalked : Next (Look × Cache) (Unit {0}) → Type 0
GoesWalked (Goes n) = HasWalked (n.0.walk, n.1)
GoesWalked (Ends n done) = Unit {0}
GoesWalked (Stops n t) = Unit {0}

sets_out : (l : Look) (next : Next (Walk × Cache) ℕ) → ((n : Walk × Cache) → next ≡ Goes n → HasWalked n) → GoesWalked (set_out l next)
sets_out l (Goes n) begun = begun n refl
sets_out l (Ends n page) begun = tt
sets_out l (Stops n t) begun = tt

new_walked : (l : Look) (tree : ℕ) (key : List ℕ) (c : Cache) → GoesWalked (walks l (new_walk tree (Some key) false) c)
new_walked l tree key c = sets_out l (walk_ready (new_walk tree (Some key) false, c)) (λ n ready. (n, [], (tree, Some key, false, c, ready), refl))

first_walked : (l : Look) (keys : List (List ℕ)) (c : Cache) → GoesWalked (to_first l keys c)
first_walked l [] c = tt
first_walked l (key ∷ keys) c = new_walked (record l { stage = Records; listed = keys }) l.query.tree key c

behind_walked : (l : Look) (high : Option (List ℕ)) (c : Cache) → GoesWalked (behind_leaf l high c)
behind_walked l None c = first_walked l l.listed c
behind_walked l (Some high) c = on (below_bound high (bound_of l.query)) where
  on : (b : Bool) → GoesWalked (if b then walks l (index_walk l.query high) c else to_record l c)
  on true = new_walked l (index_of l.query.tree) high c
  on false = first_walked l l.listed c

read_walked_at : (stage : Stage) (l : Look) (own : Own) (leaf : Leaf) (c : Cache) → GoesWalked (leaf_read_at stage l own leaf c)
read_walked_at Index l own leaf c = behind_walked (with_keys l own leaf) leaf.high c
read_walked_at Records l own leaf c = first_walked (with_found l own leaf) l.listed c

read_walked : (l : Look) (own : Own) (o : Option Leaf) (c : Cache) → GoesWalked (leaf_read l own o c)
read_walked l own None c = tt
read_walked l own (Some leaf) c = read_walked_at l.stage l own leaf c

turn_walked : (l : Look) (own : Own) (c : Cache) (turn : Turn ℕ) → (turn ≡ More → HasWalked (l.walk, c)) → GoesWalked (walked_on l own c turn)
turn_walked l own c More goes = goes refl
turn_walked l own c (Ended page) goes = read_walked l own _ c
turn_walked l own c (Stopped t) goes = tt

-- it began so
pub ready_walked : (q : Query) (c : Cache) (m : Look × Cache) → look_ready q c ≡ Goes m → HasWalked (m.0.walk, m.1)
ready_walked q c m ready = subst GoesWalked ready (new_walked (new_look q) (index_of q.tree) (prefix_of q.attr) c)

-- .. and goes on so: with the same walk, one call further, or with a new one
pub step_walked : (own : Own) (who : Caller) (before after : Seen) (old new : Look × Cache) → Stepped own (occasion_of who before after) old new More → HasWalked (old.0.walk, old.1)
    → HasWalked (new.0.walk, new.1)
step_walked own who before after old new p (start, h, begun, came) = subst GoesWalked p.goes (turn_walked (record old.0 { walk = p.walk.0 }) own p.walk.1 p.moved goes) where
  goes : p.moved ≡ More → HasWalked p.walk
  goes more =
      let At : Turn ℕ → Type 0 = Took (LeadsBy walk_next) KeepsServedInWalk (old.0.walk, old.1) p.walked.answer p.walk in
      let d : Deed = walk_deed who (old.0.walk, old.1) p.walked.answer before after in
      (start, d ∷ h, begun, ((old.0.walk, old.1), came, refl, p.walked.made, subst At more p.walked.took))

-- ---- its history

abbrev GoesAsking : Query → Next (Look × Cache) (Unit {0}) → Type 0
GoesAsking q (Goes n) = n.0.query ≡ q
GoesAsking q (Ends n done) = Unit {0}
GoesAsking q (Stops n t) = Unit {0}

sets_out_asking : (l : Look) (next : Next (Walk × Cache) ℕ) → GoesAsking l.query (set_out l next)
sets_out_asking l (Goes n) = refl
sets_out_asking l (Ends n page) = tt
sets_out_asking l (Stops n t) = tt

-- at its begin it made no call, and asks what it was begun for
pub ready_looked : (q : Query) (own : Own) (c : Cache) (m : Look × Cache) → look_ready q c ≡ Goes m → Looked m.0.query own [] [] m
ready_looked q own c m ready =
    let same : m.0.query ≡ q = subst (GoesAsking q) ready (sets_out_asking (new_look q) (walk_ready (index_walk q (prefix_of q.attr), c))) in
    (c, refl, subst (λ (of : Query). look_ready of c ≡ Goes m) (sym same) ready)

-- a step that goes on is one more of its calls, with a leaf more where its walk ended
pub step_looked : (own : Own) (who : Caller) (before after : Seen) (old new : Look × Cache) (h : List Deed) (vs : List Visit) (p : Stepped own (occasion_of who before after) old new More)
    → Looked old.0.query own h vs old
    → Looked new.0.query own (deed_of who old p.walked.answer before after ∷ h) (visited old.0 (deed_of who old p.walked.answer before after) (leaf_by old (deed_of who old p.walked.answer before after)) vs) new
step_looked own who before after old new h vs p came =
    let d : Deed = deed_of who old p.walked.answer before after in
    let At : Query → Type 0 = λ q. Looked q own (d ∷ h) (visited old.0 d (leaf_by old d) vs) new in
    subst At (sym (p.means old.0.query h vs came)) (old, vs, came, refl, p.walked.made, p.took, refl)
