-- A recovery ends: each step leaves fewer calls than were left before it.
use Rattle.std.proofs.Common.{◌≡◌, ◌<◌, ◌≤◌, ◌+◌, ◌-◌, ◌*◌, ℕ, List, [], ◌∷◌, length, Option, Some, None, refl, subst, ap, arith, length-append}
use Rattle.std.specs.Prelude.{slice_get}
use Rattle.std.proofs.lemmas.List.{length-drop}
use Rattle.std.proofs.lemmas.Option.{slice_get_within}
use Rattle.recover_run.specs.End.{calls_left, left_at, gathers_left, sweeps_left, put_left, again, KnowsAtMost}
use Rattle.recover_run.specs.Gathering.{lost_now}
use Rattle.recover_run.specs.Ids.{new_ids, has_some}
use Rattle.recover_run.specs.Items.{ids_of}
use Rattle.recover_run.specs.Recovery.{with_pending, SendsRecord, IsSoundAt, IsSound}
use Rattle.recover_run.proofs.Outcomes.{at, Reads, Loses, Readies, Clears, Fails, Comes, comes_to}
use Rattle.recover_run.proofs.Outcomes as step
use Rattle.recover_run.proofs.Words.{Trouble, Head, Answer, Turn, More, Goes, Ends, Stops, LeadsBy, Took, AtomicItem, Stage, ReleasingOld, Taking, Getting, Receiving, Deleting, Sending, Putting, Clearing, Sweeping, Releasing, Finished, RecoverAnswer, Recovery, Step, recovery_next, KeepsLeases}

-- where a step goes on, fewer calls are left than this, if no more is known than the bound says
abbrev Below : ℕ → ℕ → ℕ → Step → Type 0
Below d n m (Goes r) = KnowsAtMost d n r → calls_left d n r < m
Below d n m (Ends r a) = Unit {0}
Below d n m (Stops r t) = Unit {0}

again_some : (ids : List ℕ) → again (has_some ids) ≤ length ids
again_some [] = omega arith
again_some (id ∷ ids) = omega arith

-- a deletion in hand has an id, and a send a record
abbrev pub ReadyAt : Stage → Recovery → Type 0
ReadyAt Deleting r = 1 ≤ length r.ids
ReadyAt Sending r = (x : AtomicItem) × (slice_get r.gathered.kept r.sent ≡ Some x)
ReadyAt Clearing r = 1 ≤ length r.ids
ReadyAt stage r = Unit {0}

reads_left : (d n : ℕ) {r : Recovery} {a : Answer} (h : Head) → Reads r a h → left_at r.stage d n r ≡ 4 * d + n + 5
reads_left d n h (step.spelled r bytes k e other) = refl
reads_left d n h (step.absent r e) = refl

-- what is known of the gathered ids leaves room for what follows
loses_below : (d n : ℕ) {r : Recovery} {a : Answer} (q : Recovery) (ids : List ℕ) → ReadyAt r.stage r → length q.gathered.seen ≤ d → length q.gathered.lost ≤ d → Loses r a q ids
    → length ids + gathers_left d q + again q.gathered.fresh < left_at r.stage d n r
loses_below d n q ids ready seen lost (step.received r ms items e) =
    let more : List ℕ = lost_now r.wanted r.gathered items in
    let fresh : List ℕ = new_ids r.gathered.seen (ids_of items) in
    omega (arith, seen, lost, length-append r.gathered.seen fresh, length-append r.gathered.lost more, again_some fresh)
loses_below d n q ids ready seen lost (step.one_gone r) = omega (arith, length-drop 1 r.ids, ready)

loses_above : (d n : ℕ) {r : Recovery} {a : Answer} (q : Recovery) (ids : List ℕ) → ReadyAt r.stage r → Loses r a q ids → 1 < left_at r.stage d n r
loses_above d n q ids ready (step.received r ms items e) = omega arith
loses_above d n q ids ready (step.one_gone r) = omega (arith, ready)

readies_below : (d n : ℕ) {r : Recovery} {a : Answer} (q : Recovery) (place : ℕ) → ReadyAt r.stage r → length q.gathered.seen ≤ d → length q.gathered.lost ≤ d → Readies r a q place
    → ((length q.gathered.kept - place) + put_left d < left_at r.stage d n r) × (put_left d < left_at r.stage d n r)
readies_below d n q place ready seen lost (step.whole p loses same) =
    let g = loses_below d n p [] ready seen lost loses in (omega (arith, g, same), omega (arith, g))
readies_below d n q place ready seen lost (step.one_sent r id) = passed (slice_get r.gathered.kept r.sent) (slice_get_within r.gathered.kept r.sent ready.0 ready.1) where
  passed : (o : Option AtomicItem) → r.sent < length r.gathered.kept
      → ((length (with_pending (at r Sending) o).gathered.kept - (r.sent + 1)) + put_left d < left_at Sending d n (at r Sending)) × (put_left d < left_at Sending d n (at r Sending))
  passed (Some x) within = (omega (arith, within), omega (arith, within))
  passed None within = (omega (arith, within), omega (arith, within))

clears_below : (d n : ℕ) {r : Recovery} {a : Answer} (q : Recovery) (ids : List ℕ) → ReadyAt r.stage r → length q.swept ≤ d → Clears r a q ids
    → length ids + sweeps_left d q < left_at r.stage d n r
clears_below d n q ids ready few (step.head_put r) = omega (arith, few)
clears_below d n q ids ready few (step.one_tried r a) = omega (arith, length-drop 1 r.ids, ready)

fails_above : (d n : ℕ) {r : Recovery} {a : Answer} (q : Recovery) (t : Trouble) → ReadyAt r.stage r → Fails r a q t → 1 < left_at r.stage d n r
fails_above d n q t ready (step.no_head r a u e) = omega arith
fails_above d n q t ready (step.no_messages r a u e) = omega arith
fails_above d n q t ready (step.not_deleted r a u e) = omega arith
fails_above d n q t ready (step.not_sent r a u e) = omega arith
fails_above d n q t ready (step.not_put r a u e) = omega arith
fails_above d n q t ready (step.not_swept r a u e) = omega arith
fails_above d n q t ready (step.bad_head r bytes e) = omega arith
fails_above d n q t ready (step.last_epoch r bytes h e last) = omega arith
fails_above d n q t ready (step.bad_message r ms m e) = omega arith
fails_above d n q t ready (step.bad_swept r ms m e) = omega arith
fails_above d n q t ready (step.waits p loses other stale) = loses_above d n p [] ready loses

below_after : (d n : ℕ) {r : Recovery} {a : Answer} {next : Step} → ReadyAt r.stage r → Comes r a next → Below d n (left_at r.stage d n r) next
below_after d n ready (step.gives_old r a) = λ k. omega arith
below_after d n ready (step.takes r l) = λ k. omega arith
below_after d n ready (step.refused r a t e) = tt
below_after d n ready (step.stops q t f) = λ k. fails_above d n q t ready f
below_after d n ready (step.finds_none r e) = λ k. omega arith
below_after d n ready (step.reads_settled h reads e) = λ k. omega (arith, reads_left d n h reads)
below_after d n ready (step.reads_open h count reads e) = λ k. omega (arith, reads_left d n h reads, k.count)
below_after d n ready (step.deletes q id ids loses) = λ k. loses_below d n q (id ∷ ids) ready k.seen k.lost loses
below_after d n ready (step.receives q loses other new) = λ k. omega (arith, loses_below d n q [] ready k.seen k.lost loses, ap again new)
below_after d n ready (step.sends q place x is e) = λ k. (readies_below d n q place ready k.seen k.lost is).0
below_after d n ready (step.puts q place is e) = λ k. (readies_below d n q place ready k.seen k.lost is).1
below_after d n ready (step.clears q id ids c) = λ k. clears_below d n q (id ∷ ids) ready k.swept c
below_after d n ready (step.sweeps q c) = λ k. omega (arith, clears_below d n q [] ready k.swept c)
below_after d n ready (step.clears_past r ms items id ids e are) = λ k. omega (arith, k.swept, length-append r.swept (id ∷ ids))
below_after d n ready (step.opens r ms items e none is) = tt
below_after d n ready (step.closes r ms items e none is) = λ k. omega arith
below_after d n ready (step.ends r a answer e) = tt
below_after d n ready (step.stopped r a t e) = tt
below_after d n ready (step.astray r a e) = tt
below_after d n ready (step.nothing r a) = tt

pub less_ready : (d n : ℕ) (r m : Recovery) (a : Answer) → ReadyAt r.stage r → recovery_next r a ≡ Goes m → KnowsAtMost d n m → calls_left d n m < calls_left d n r
less_ready d n r m a is goes = below_after d n is (comes_to r a (Goes m) goes)

sends_item : (r : Recovery) (o : Option AtomicItem) → SendsRecord r o → (x : AtomicItem) × (o ≡ Some x)
sends_item r (Some x) is = (x, refl)
sends_item r None is = absurd is

sound_ready : (stage : Stage) (r : Recovery) → IsSoundAt stage r → ReadyAt stage r
sound_ready ReleasingOld r is = tt
sound_ready Taking r is = tt
sound_ready Getting r is = tt
sound_ready Receiving r is = tt
sound_ready Deleting r is = is.1
sound_ready Sending r is = sends_item r (slice_get r.gathered.kept r.sent) is.1
sound_ready Putting r is = tt
sound_ready Clearing r is = is.1
sound_ready Sweeping r is = tt
sound_ready Releasing r is = tt
sound_ready Finished r is = tt

pub less : (d n : ℕ) (r m : Recovery) (a : Answer) → IsSound r → recovery_next r a ≡ Goes m → KnowsAtMost d n m → calls_left d n m < calls_left d n r
less d n r m a is goes = less_ready d n r m a (sound_ready r.stage r is) goes

-- the same of the code's step
pub took_less : (d n : ℕ) (old new : Recovery) (a : Answer) (turn : Turn RecoverAnswer) → IsSound old → KnowsAtMost d n new
    → Took (LeadsBy recovery_next) KeepsLeases old a new turn → turn ≡ More → calls_left d n new < calls_left d n old
took_less d n old new a turn is knows took more =
    let At : Turn RecoverAnswer → Type 0 = Took (LeadsBy recovery_next) KeepsLeases old a new in
    less d n old new a is (subst At more took) knows
