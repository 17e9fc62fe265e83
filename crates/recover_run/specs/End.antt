-- How many calls a recovery has left at most.
use Rattle.std.specs.Prelude.{ℕ, ◌+◌, ◌-◌, ◌*◌, ◌≤◌, Bool, true, false, List, length}
use Rattle.recover_run.specs.declared.stage.Stage.{Stage}
use Rattle.recover_run.specs.declared.stage.Stage.TheVariants.{ReleasingOld, Taking, Getting, Receiving, Deleting, Sending, Putting, Clearing, Sweeping, Releasing, Finished}
use Rattle.recover_run.specs.Recovery.{Recovery}

-- how many of d distinct ids are not in a set of ids
abbrev pub room : ℕ → List ℕ → ℕ
room d ids = d - length ids

-- a receive that brought something new may be followed by another one
abbrev pub again : Bool → ℕ
again true = 1
again false = 0

-- behind the put each id is deleted once and comes in one receive; then the queue is received from once more and the lease given back
abbrev pub sweeps_left : ℕ → Recovery → ℕ
sweeps_left d r = 2 * room d r.swept + 2

-- the put, and what comes behind it
abbrev pub put_left : ℕ → ℕ
put_left d = 2 * d + 3

-- before it each id is deleted once and comes in one receive, and each counted record is sent
abbrev pub gathers_left : ℕ → Recovery → ℕ
gathers_left d r = room d r.gathered.seen + room d r.gathered.lost + r.wanted.count + put_left d

-- by its stage, where at most d distinct ids are received and the head counts at most n records
abbrev pub left_at : Stage → ℕ → ℕ → Recovery → ℕ
left_at ReleasingOld d n r = 4 * d + n + 7
left_at Taking d n r = 4 * d + n + 6
left_at Getting d n r = 4 * d + n + 5
left_at Receiving d n r = gathers_left d r + 1
left_at Deleting d n r = length r.ids + gathers_left d r + again r.gathered.fresh
left_at Sending d n r = (length r.gathered.kept - r.sent) + put_left d
left_at Putting d n r = put_left d
left_at Clearing d n r = length r.ids + sweeps_left d r
left_at Sweeping d n r = sweeps_left d r
left_at Releasing d n r = 1
left_at Finished d n r = 0

abbrev pub calls_left : ℕ → ℕ → Recovery → ℕ
calls_left d n r = left_at r.stage d n r

-- a recovery knows at most d distinct ids, and its head counts at most n records
pub record KnowsAtMost (d n : ℕ) (r : Recovery) : Type 0 where
  pub seen : length r.gathered.seen ≤ d
  pub lost : length r.gathered.lost ≤ d
  pub swept : length r.swept ≤ d
  pub count : r.wanted.count ≤ n
