-- A commit ends: each step leaves fewer calls than were left before it.
use Rattle.std.proofs.Common.{◌≡◌, ◌<◌, ◌+◌, ◌-◌, ℕ, length, Option, Some, None, refl, subst, arith, length-append, ◌∷◌, []}
use Rattle.std.specs.Prelude.{slice_get}
use Rattle.std.proofs.lemmas.Option.{slice_get_within}
use Rattle.commit_writes.proofs.Words.{Ends, Goes, LeadsBy, Stops, Took, Answer, Turn, More, CommitAnswer, AtomicRec}
use Rattle.commit_writes.specs.Writing.{Writing, writing_next, KeepsHome}
use Rattle.commit_writes.specs.Sound.{IsSound, LogsRecord, SendsRecord}
use Rattle.commit_writes.specs.End.{calls_left}
use Rattle.commit_writes.proofs.Outcomes as step
use Rattle.commit_writes.proofs.Outcomes.{Step, logged, Logs, Posts, Clears, Comes, comes}

-- where a step goes on, fewer calls are left than this
abbrev Below : ℕ → Step → Type 0
Below n (Goes m) = calls_left m < n
Below n (Ends m a) = Unit {0}
Below n (Stops m t) = Unit {0}

-- the place in hand is that of a record
logs_within : (w : Writing) (o : Option AtomicRec) → slice_get w.records w.place ≡ o → LogsRecord w o → w.place < length w.records
logs_within w (Some r) e logs = slice_get_within w.records w.place r e
logs_within w None e logs = absurd logs

sends_within : (w : Writing) (o : Option AtomicRec) → slice_get w.records w.place ≡ o → SendsRecord w o → w.place < length w.records
sends_within w (Some r) e sends = slice_get_within w.records w.place r e
sends_within w None e sends = absurd sends

below_logs : (n : ℕ) (w : Writing) (x : Step) → (length w.records - w.place) + (length w.records - w.place) + length w.records + length w.ids + 2 < n → length w.records + length w.ids + 2 < n → Logs w x → Below n x
below_logs n w x more less (step.logs r e) = more
below_logs n w x more less (step.opens e) = less

below_posts : (w : Writing) (a : Answer) (n : ℕ) → IsSound w → Posts w a n → ((length w.records - n) + length w.ids + 1 < calls_left w) × (length w.ids + 1 < calls_left w)
below_posts v a n sound (step.opened w) = (omega arith, omega arith)
below_posts v a n sound (step.one_sent w id) = let within = sends_within w (slice_get w.records w.place) refl sound in (omega (arith, within), omega (arith, within))

below_clears : (w : Writing) (a : Answer) (n id : ℕ) → Clears w a n → slice_get w.ids n ≡ Some id → length w.ids - n < calls_left w
below_clears v a n id (step.settled w) e = omega arith
below_clears v a n id (step.one_tried w b found) e = omega (arith, slice_get_within w.ids (w.place + 1) id e)

below : (w : Writing) (a : Answer) (x : Step) → IsSound w → Comes w a x → Below (calls_left w) x
below v a x sound (step.goes_on w id next first) =
    let within = logs_within w (slice_get w.records w.place) refl sound in
    let more = length-append w.ids (id ∷ []) in
    below_logs (calls_left v) (logged v id) next (omega (arith, within, more)) (omega (arith, within, more)) first
below w a x sound (step.sends n r posts e) = (below_posts w a n sound posts).0
below w a x sound (step.settles n posts e) = (below_posts w a n sound posts).1
below w a x sound (step.deletes n id clears e) = below_clears w a n id clears e
below v a x sound (step.not_logged w b failed) = tt
below v a x sound (step.late w end now) = tt
below v a x sound (step.doubts w b failed) = tt
below w a x sound (step.stays_open leaves) = tt
below w a x sound (step.ends n clears e) = tt
below w a x sound (step.lacks v under) = tt
below v a x sound (step.waits w b) = tt
below v a x sound (step.rests w b) = tt

-- the same of the code's step
pub took_less : (old new : Writing) (a : Answer) (turn : Turn CommitAnswer) → IsSound old → Took (LeadsBy writing_next) KeepsHome old a new turn → turn ≡ More → calls_left new < calls_left old
took_less old new a turn sound took more =
    let At : Turn CommitAnswer → Type 0 = Took (LeadsBy writing_next) KeepsHome old a new in
    subst (Below (calls_left old)) (subst At more took) (below old a (writing_next old a) sound (comes old a))
