-- One step of a scan, by the one call that it made: where it led, what it means by the whole run, and why it stopped.
use Rattle.std.specs.Prelude.{ℕ, ◌≡◌, ◌≢◌, ◌+◌, List, length, None}
use Rattle.db_base.specs.declared.trouble.Trouble.TheVariants as trouble
use Rattle.cloud_trait.specs.declared.answer.Answer.{Answer}
use Rattle.cloud_trait.specs.declared.turn.Turn.{Turn}
use Rattle.cloud_trait.specs.declared.turn.Turn.TheVariants.{Stopped}
use Rattle.cloud_trait.specs.Caller.{Caller}
use Rattle.cloud_trait.specs.Machine.{LeadsBy, Took, Deed}
use Rattle.cloud_trait.specs.Seen.{Seen}
use Rattle.cloud_trait.specs.Weather.{Makes}
use Rattle.cloud_trait.specs.Calm.{IsCalm}
use Rattle.page_cache.specs.Cache.{Cache}
use Rattle.tree_walk.specs.Walk.{ServesOn}
use Rattle.range_scan.specs.Scan.{Scan, scan_asks, scan_next, KeepsServed}
use Rattle.tree_walk.specs.Meaning.{LedBy, began_with}
use Rattle.range_scan.specs.Meaning.{Range, Move, Scanned, Means, IsLed, IsWalked, leaves_of, deeds_of}
use Rattle.range_scan.specs.Causes.{Causes, Exact, deed_of}
use Rattle.range_scan.specs.Within.{ScansWithin}

-- what a step is by the run that led to it
pub record Meant (r : Range) (h : List Move) (d : Deed) (old new : Scan × Cache) (turn : Turn ℕ) : Type 0 where
  -- it came to each page once, and one call more than these is all
  pub within : ScansWithin (length h + 1) old.0
  -- where it ends, it is at a leaf that this call served; the ranges of its leaves meet, from the first key on
  pub means : Means r d new h turn
  -- what led to the page in hand is the link of the newest leaf; and while the walk is in hand, that of an object that the walk found in the
  -- cache when it began, or that one of these calls got
  pub led : IsLed (leaves_of h) old.0.spot
  pub walked : old.0.spot ≡ None → (w : IsWalked h old) × LedBy (began_with w.start w.begun) (deeds_of h) d (old.0.walk, old.1) d.answer
  -- a trouble is shown by this answer, or by the leaves that the cache keeps then and the links between them
  pub causes : Causes old d.answer new turn
  -- where this answer, or the object that it brought, shows a trouble, it stops with that
  pub exact : Exact old d.answer turn
  -- a calm call does not fail
  pub calm : IsCalm d → turn ≢ Stopped trouble.Failed

pub record Stepped (who : Caller) (before after : Seen) (old new : Scan × Cache) (turn : Turn ℕ) : Type 0 where
  pub answer : Answer
  pub made : Makes who (scan_asks old) answer before after
  -- it took the step that this answer leads to
  pub took : Took (LeadsBy scan_next) KeepsServed old answer new turn
  -- no version that was served falls
  pub served : ServesOn old.1 new.1
  pub meant : (r : Range) (h : List Move) → Scanned r h old → Meant r h (deed_of who old answer before after) old new turn
