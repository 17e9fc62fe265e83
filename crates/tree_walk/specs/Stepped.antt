-- One step of a walk, by the one call that it made: where it led, why it stopped, and what it brought.
use Rattle.std.specs.Prelude.{ℕ, ◌≢◌, List}
use Rattle.db_base.specs.declared.trouble.Trouble.TheVariants as trouble
use Rattle.cloud_trait.specs.declared.answer.Answer.{Answer}
use Rattle.cloud_trait.specs.declared.turn.Turn.{Turn}
use Rattle.cloud_trait.specs.declared.turn.Turn.TheVariants.{Stopped}
use Rattle.cloud_trait.specs.Caller.{Caller}
use Rattle.cloud_trait.specs.Machine.{LeadsBy, Took, Steps, Deed, occasion_of}
use Rattle.cloud_trait.specs.Seen.{Seen}
use Rattle.cloud_trait.specs.Weather.{Makes}
use Rattle.page_cache.specs.Cache.{Cache}
use Rattle.tree_walk.specs.Walk.{Walk, asks, walk_next, ServesOn, KeepsServed, HasAim, walk_machine}
use Rattle.tree_walk.specs.Causes.{Causes, Exact}
use Rattle.tree_walk.specs.Meaning.{LedBy, Walked, began_with}
use Rattle.tree_walk.specs.Served.{Serves, GoesCalmly, deed_of}
use Rattle.tree_walk.specs.Within.{IsBegun}

pub record Stepped (who : Caller) (before after : Seen) (old new : Walk × Cache) (turn : Turn ℕ) : Type 0 where
  pub answer : Answer
  pub made : Makes who (asks old) answer before after
  -- it took the step that this answer leads to
  pub took : Took (LeadsBy walk_next) KeepsServed old answer new turn
  -- what it looks for stays, and so do the versions that were served
  pub aim : turn ≢ Stopped trouble.Memory → HasAim old.0 new.0
  pub served : ServesOn old.1 new.1
  -- a trouble is shown by this answer, or by the objects that the cache keeps then and the links between them
  pub causes : Causes old answer new.0 turn
  -- what led to the page in hand is what the walk found in the cache when it began, or got by these calls; and so is all that is kept now
  pub led : (start : Walk × Cache) (begun : IsBegun start) (h : List Deed) → Walked start h old
      → LedBy (began_with start begun) h (deed_of who old answer before after) old answer
  -- where this answer shows a trouble, or what the cache keeps with the object that it brought, it stops with that
  pub exact : Exact old answer turn
  -- at its end the leaf is what this call got: a version that landed, and the newest where `stale` did not rise
  pub serves : Serves before after old new answer turn
  -- a calm call does not fail, and what is stale then is so in its newest version
  pub calm : GoesCalmly who before after old answer turn

-- the call and the step alone
abbrev pub steps_of : {who : Caller} {before after : Seen} {old new : Walk × Cache} {turn : Turn ℕ} → Stepped who before after old new turn
    → Steps walk_machine (occasion_of who before after) old new turn
steps_of p = record { answer = p.answer; made = p.made; took = p.took }
