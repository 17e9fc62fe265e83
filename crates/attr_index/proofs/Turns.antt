-- Where the turns of a look-up lead, by those of its walks, and what they keep.
use Rattle.std.proofs.Common.{◌≡◌, ℕ, ◌+◌, ◌^◌, ◌<◌, ◌≤◌, Bool, List, [], ◌∷◌, ◌++◌, length, Some, None, ap, sym, subst, ◌∙◌, arith}
use Rattle.std.specs.Prelude.{if◌then◌else◌}
use Rattle.std.proofs.lemmas.Bool.{lt-ltb, le-ltb}
use Rattle.byte_format.specs.Whole.{IsBytes}
use Rattle.db_base.specs.declared.trouble.Trouble.{Trouble}
use Rattle.cloud_trait.specs.declared.answer.Answer.{Answer}
use Rattle.attr_index.proofs.Words.{Records, Caller, Deed, Ends, Goes, Next, Stops, Seen, Turn, Ended, More, Stopped}
use Rattle.cloud_trait.specs.Machine.{LeadsBy, Took, occasion_of}
use Rattle.txn_buffer.specs.Noted.{AreDistinct}
use Rattle.page_cache.specs.Cache.{Cache}
use Rattle.tree_walk.specs.Moves.{Moves}
use Rattle.tree_walk.specs.Stepped.{Stepped as StepsWalk}
use Rattle.tree_walk.specs.Walk.{Walk, walk_next, ServesOn, IsAtLeaf, sought}
use Rattle.tree_walk.specs.Walk.{calls_left as walk_calls_left}
use Rattle.tree_walk.specs.Walk.{KeepsServed as KeepsWalked}
use Rattle.attr_index.specs.Prefix.{next_behind, next_of}
use Rattle.attr_index.specs.Look.{Own, Look, record_walk, walks, to_record, walked, walked_by, look_next}
use Rattle.attr_index.specs.Meaning.{leaf_by, visited}
use Rattle.attr_index.specs.Stepped.{deed_of, KeepsServed, Means, Stepped}
use Rattle.attr_index.specs.End.{calls_left}
use Rattle.attr_index.proofs.Meaning.{meant}
use Rattle.attr_index.proofs.Tagged.{finds_tagged}
use Rattle.attr_index.proofs.End.{fewer}

-- ---- a bound

-- the last byte is raised where it can be, and else left out
raised_last : (front : List ℕ) (last : ℕ) → last < 255 → next_of (front ++ last ∷ []) ≡ Some (front ++ (last + 1) ∷ [])
raised_last [] last less = ap (λ (b : Bool). if b then Some ((last + 1) ∷ []) else None) (lt-ltb last 255 less)
raised_last (b ∷ bs) last less = ap (next_behind b) (raised_last bs last less)

left_last : (front : List ℕ) (last : ℕ) → 255 ≤ last → next_of (front ++ last ∷ []) ≡ next_of front
left_last [] last most = ap (λ (b : Bool). if b then Some ((last + 1) ∷ []) else None) (le-ltb last 255 most)
left_last (b ∷ bs) last most = ap (next_behind b) (left_last bs last most)

pub raised_next : (prefix bytes front rest : List ℕ) (last : ℕ) → last < 255 → bytes ≡ rest ++ last ∷ [] → front ≡ rest ++ (last + 1) ∷ [] → next_of bytes ≡ next_of prefix
    → Some front ≡ next_of prefix
raised_next prefix bytes front rest last less is raised same = ap Some raised ∙ (sym (raised_last rest last less) ∙ (ap next_of (sym is) ∙ same))

pub left_next : (prefix bytes rest : List ℕ) (last : ℕ) → 255 ≤ last → bytes ≡ rest ++ last ∷ [] → next_of bytes ≡ next_of prefix → next_of rest ≡ next_of prefix
left_next prefix bytes rest last most is same = sym (left_last rest last most) ∙ (ap next_of (sym is) ∙ same)

-- ---- to the next record

pub record_moves : (l : Look) (key : List ℕ) (keys : List (List ℕ)) (c : Cache) (n : Look × Cache) (turn : Turn (Unit {0})) → l.listed ≡ key ∷ keys
    → Moves (walks (record l { stage = Records; listed = keys }) (record_walk l.query key) c) n turn → Moves (to_record l c) n turn
record_moves l key keys c n turn is h = rw is h

-- ---- a turn of the walk, and then its own work

trouble_in : Trouble → Next (Look × Cache) (Unit {0}) → Trouble
trouble_in d (Goes s) = d
trouble_in d (Ends s done) = d
trouble_in d (Stops s t) = t

same_trouble : (s n : Look × Cache) (t u : Trouble) → ◌≡◌ {A = Next (Look × Cache) (Unit {0})} (Stops s t) (Stops n u) → t ≡ u
unfolding trouble_in
same_trouble s n t u e = ap (trouble_in t) e

took_moves : (m : Walk × Cache) (a : Answer) (n : Walk × Cache) (turn : Turn ℕ) → Took (LeadsBy walk_next) KeepsWalked m a n turn → Moves (walk_next m a) n turn
took_moves m a n More h = h
took_moves m a n (Ended page) h = h
took_moves m a n (Stopped t) h = h.0

walked_moves : (l : Look) (own : Own) (x : Next (Walk × Cache) ℕ) (w : Walk × Cache) (moved : Turn ℕ) (new : Look × Cache) (turn : Turn (Unit {0}))
    → Moves x w moved → Moves (walked_by l own w moved) new turn → Moves (walked l own x) new turn
walked_moves l own x w More new turn e h = subst (λ (y : Next (Walk × Cache) ℕ). Moves (walked l own y) new turn) (sym e) h
walked_moves l own x w (Ended page) new turn e h = subst (λ (y : Next (Walk × Cache) ℕ). Moves (walked l own y) new turn) (sym e) h
walked_moves l own x w (Stopped t) new More e h = absurd (cc (h))
walked_moves l own x w (Stopped t) new (Ended done) e h = absurd (cc (h))
walked_moves l own x w (Stopped t) new (Stopped u) e h =
    λ other. ap (walked l own) (e (λ memory. other (sym (same_trouble (record l { walk = w.0 }, w.1) new t u (h other)) ∙ memory))) ∙ h other

moves_took : (own : Own) (m : Look × Cache) (a : Answer) (n : Look × Cache) (turn : Turn (Unit {0})) → ServesOn m.1 n.1 → Moves (look_next own m a) n turn
    → Took (LeadsBy (look_next own)) KeepsServed m a n turn
moves_took own m a n More on h = h
moves_took own m a n (Ended done) on h = h
moves_took own m a n (Stopped t) on h = (h, λ memory. on)

-- it took the step that the answer leads to
pub look_took : (own : Own) (old new : Look × Cache) (a : Answer) (w : Walk × Cache) (moved : Turn ℕ) (turn : Turn (Unit {0}))
    → Took (LeadsBy walk_next) KeepsWalked (old.0.walk, old.1) a w moved → Moves (walked_by old.0 own w moved) new turn → ServesOn old.1 new.1
    → Took (LeadsBy (look_next own)) KeepsServed old a new turn
look_took own old new a w moved turn took goes on =
    moves_took own old a new turn on (walked_moves old.0 own (walk_next (old.0.walk, old.1) a) w moved new turn (took_moves (old.0.walk, old.1) a w moved took) goes)

-- ---- a step

on_trans : (c d e : Cache) → ServesOn c d → ServesOn d e → ServesOn c e
on_trans c d e one other = λ name. omega (arith, one name, other name)

-- a step of the walk, and what it went on to
pub look_stepped : (own : Own) (who : Caller) (before after : Seen) (old new : Look × Cache) (w : Walk × Cache) (moved : Turn ℕ) (turn : Turn (Unit {0}))
    → StepsWalk who before after (old.0.walk, old.1) w moved → ((page : ℕ) → moved ≡ Ended page → IsAtLeaf w.0 w.1 page) → Moves (walked_by old.0 own w moved) new turn
    → ServesOn w.1 new.1 → AreDistinct own.buffer → Stepped own (occasion_of who before after) old new turn
look_stepped own who before after old new w moved turn walked at goes on apart =
    let d : Deed = deed_of who old walked.answer before after in
    let served : ServesOn old.1 new.1 = on_trans old.1 w.1 new.1 walked.served on in
    record {
      walk = w;
      moved = moved;
      walked = walked;
      at_leaf = at;
      goes = goes;
      took = look_took own old new walked.answer w moved turn walked.took goes served;
      served = served;
      means = meant own who before after old new turn w moved walked goes;
      tagged = λ ended q h vs came.
          finds_tagged q own (visited old.0 d (leaf_by old d) vs) new.0.pairs apart
          (subst (Means q own (visited old.0 d (leaf_by old d) vs) new.0) ended (meant own who before after old new turn w moved walked goes q h vs came));
    }

-- .. from which it goes on with fewer calls left
pub look_fewer : (own : Own) (who : Caller) (before after : Seen) (old new : Look × Cache) (w : Walk × Cache) (moved : Turn ℕ) (turn : Turn (Unit {0}))
    → StepsWalk who before after (old.0.walk, old.1) w moved → (moved ≡ More → walk_calls_left w.0 < walk_calls_left old.0.walk)
    → ((page : ℕ) → moved ≡ Ended page → IsAtLeaf w.0 w.1 page) → Moves (walked_by old.0 own w moved) new turn → IsBytes (sought new.0.walk) → length new.0.listed < 2 ^ 64
    → turn ≡ More → calls_left new.0 < calls_left old.0
look_fewer own who before after old new w moved turn walked less at goes bytes few more =
    let on : Moves (walked_by old.0 own w moved) new More = subst (λ (t : Turn (Unit {0})). Moves (walked_by old.0 own w moved) new t) more goes in
    fewer own who before after old new w moved walked less at on bytes few
