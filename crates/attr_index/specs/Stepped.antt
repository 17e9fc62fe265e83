-- One step of a look-up, by the one call that it made: the step of its walk, where that led, and what it means by the whole run.
use Rattle.std.specs.Prelude.{ℕ, ◌≡◌, List}
use Rattle.cloud_trait.specs.declared.answer.Answer.{Answer}
use Rattle.cloud_trait.specs.declared.turn.Turn.{Turn}
use Rattle.cloud_trait.specs.declared.turn.Turn.TheVariants.{More, Ended, Stopped}
use Rattle.cloud_trait.specs.Caller.{Caller}
use Rattle.cloud_trait.specs.Machine.{LeadsBy, Took, Deed, Occasion}
use Rattle.cloud_trait.specs.Seen.{Seen}
use Rattle.page_cache.specs.Cache.{Cache}
use Rattle.tree_walk.specs.Moves.{Moves}
use Rattle.tree_walk.specs.Stepped.{Stepped as StepsWalk}
use Rattle.tree_walk.specs.Walk.{Walk, IsAtLeaf, ServesOn}
use Rattle.attr_index.specs.Look.{Query, Own, Look, look_ask, look_next, walked_by}
use Rattle.attr_index.specs.Meaning.{Visit, Looked, IsFound, leaf_by, visited}
use Rattle.attr_index.specs.Tagged.{FindsTagged}

-- want of memory keeps the versions that were served; a look-up has no lease to keep
abbrev pub KeepsServed : Look × Cache → Answer → Look × Cache → Type 0
KeepsServed m a n = ServesOn m.1 n.1

-- the call of a step
abbrev pub deed_of : Caller → Look × Cache → Answer → Seen → Seen → Deed
deed_of who old answer before after = record { who = who; ask = look_ask old.0; answer = answer; before = before; after = after }

-- what a step means by the visits to which its call led: at its end the records are found in the leaves of these, the last of which the call brought
abbrev pub Means : Query → Own → List Visit → Look → Turn (Unit {0}) → Type 0
Means q own vs new More = new.query ≡ q
Means q own vs new (Ended done) = IsFound q own vs new.pairs
Means q own vs new (Stopped t) = Unit {0}

pub record Stepped (own : Own) (on : Occasion) (old new : Look × Cache) (turn : Turn (Unit {0})) : Type 0 where
  -- the step of its walk, with all that a walk's step says: its call, where it led, why it stopped and when it has to
  pub walk : Walk × Cache
  pub moved : Turn ℕ
  pub walked : StepsWalk on.who on.before on.after (old.0.walk, old.1) walk moved
  -- where its walk ended the leaf stands in the cache
  pub at_leaf : (page : ℕ) → moved ≡ Ended page → IsAtLeaf walk.0 walk.1 page
  -- it goes on from there without a call
  pub goes : Moves (walked_by old.0 own walk moved) new turn
  -- so it took the step that the answer leads to, and no version that was served falls
  pub took : Took (LeadsBy (look_next own)) KeepsServed old walked.answer new turn
  pub served : ServesOn old.1 new.1
  -- by the whole run
  pub means : (q : Query) (h : List Deed) (vs : List Visit) → Looked q own h vs old
      → (let d : Deed = deed_of on.who old walked.answer on.before on.after in Means q own (visited old.0 d (leaf_by old d) vs) new.0 turn)
  -- .. and at its end the records found are all that have the attribute, where everything is still
  pub tagged : turn ≡ Ended tt → (q : Query) (h : List Deed) (vs : List Visit) → Looked q own h vs old
      → (let d : Deed = deed_of on.who old walked.answer on.before on.after in FindsTagged q own (visited old.0 d (leaf_by old d) vs) new.0.pairs)
