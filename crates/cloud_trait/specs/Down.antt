-- What is seen of a cloud that is down.
use Rattle.std.specs.Prelude.{[], Some, None}
use Rattle.std.specs.Option.{option_map}
use Rattle.db_base.specs.declared.wish.Wish.TheVariants.{Plain}
use Rattle.cloud_trait.specs.Answers.{fault_answer}
use Rattle.cloud_trait.specs.State.{CloudState, never_taken, newest}
use Rattle.cloud_trait.specs.Seen.{Seen}
use Rattle.cloud_trait.specs.declared.down.DownCloud.{DownCloud}

-- nothing ever landed
abbrev pub empty_state : CloudState
empty_state = record { versions = λ name. []; messages = λ queue. []; locks = λ lock. never_taken; now = 0; waits = 0; trace = []; wish = Plain; last = None }

-- it tells its state, its newest answer and that no object has bytes, and withholds nothing
abbrev pub seen_of : DownCloud → Seen
seen_of c = record {
  counts = record { faults = c.faults; withheld = 0; stale = 0; dark = c.dark };
  state = Some (record empty_state { now = c.clock; waits = c.waits; wish = c.wish; last = c.last });
  heard = option_map fault_answer c.heard;
  shown = Some (newest empty_state);
}

-- before the first call
abbrev pub first_seen : Seen
first_seen = record { counts = record { faults = 0; withheld = 0; stale = 0; dark = 0 }; state = Some empty_state; heard = None; shown = Some (newest empty_state) }
