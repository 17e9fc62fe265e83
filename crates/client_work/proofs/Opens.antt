-- An opening opens a client to its end: it never answers as a settling does.
use Rattle.std.proofs.Common.{◌≡◌, ℕ, List, [], ◌∷◌, Option, Some, None, subst}
use Rattle.std.specs.Prelude.{slice_get}
use Rattle.db_base.specs.declared.trouble.Trouble.{Trouble}
use Rattle.cloud_trait.specs.declared.answer.Answer.{Answer}
use Rattle.cloud_trait.specs.declared.turn.Turn.{Turn}
use Rattle.cloud_trait.specs.declared.turn.Turn.TheVariants.{More, Ended}
use Rattle.cloud_trait.specs.Machine.{Goes, Ends, Stops, LeadsBy, Took}
use Rattle.recover_run.specs.declared.items.AtomicItem.{AtomicItem}
use Rattle.recover_run.specs.declared.stage.Aim.TheVariants as aim
use Rattle.recover_run.specs.declared.stage.RecoverAnswer.{RecoverAnswer}
use Rattle.recover_run.specs.declared.stage.RecoverAnswer.TheVariants.{Opened, Nothing}
use Rattle.recover_run.specs.declared.stage.Stage.TheVariants.{Sending}
use Rattle.recover_run.specs.Recovery.{Recovery, Step, recovery_next, with_pending, KeepsLeases}
use Rattle.recover_run.proofs.Outcomes as step
use Rattle.recover_run.proofs.Outcomes.{at, Loses, Readies, Clears, Fails, Comes, comes}
use Rattle.client_work.specs.Opening.{IsOpening, StopsAtMost}

-- a step goes on with an opening, or ends as one
abbrev StaysOpening : Step → Type 0
StaysOpening (Goes m) = IsOpening m
StaysOpening (Ends m (Opened epoch)) = Unit {0}
StaysOpening (Ends m Nothing) = ⊥
StaysOpening (Stops m t) = Unit {0}

loses_opens : {r : Recovery} {a : Answer} (q : Recovery) (ids : List ℕ) → IsOpening r → Loses r a q ids → IsOpening q
loses_opens q ids is (step.received r ms items e) = is
loses_opens q ids is (step.one_gone r) = is

pending_opens : (r : Recovery) (o : Option AtomicItem) → IsOpening r → IsOpening (with_pending r o)
pending_opens r (Some x) is = is
pending_opens r None is = is

readies_opens : {r : Recovery} {a : Answer} (q : Recovery) (place : ℕ) → IsOpening r → Readies r a q place → IsOpening q
readies_opens q place is (step.whole p loses same) = loses_opens p [] is loses
readies_opens q place is (step.one_sent r id) = pending_opens (at r Sending) (slice_get r.gathered.kept r.sent) is

clears_opens : {r : Recovery} {a : Answer} (q : Recovery) (ids : List ℕ) → IsOpening r → Clears r a q ids → IsOpening q
clears_opens q ids is (step.head_put r) = is
clears_opens q ids is (step.one_tried r a) = is

fails_opens : {r : Recovery} {a : Answer} (q : Recovery) (t : Trouble) → IsOpening r → Fails r a q t → q.aim ≡ aim.Opening
fails_opens q t is (step.no_head r a u e) = is.0
fails_opens q t is (step.no_messages r a u e) = is.0
fails_opens q t is (step.not_deleted r a u e) = is.0
fails_opens q t is (step.not_sent r a u e) = is.0
fails_opens q t is (step.not_put r a u e) = is.0
fails_opens q t is (step.not_swept r a u e) = is.0
fails_opens q t is (step.bad_head r bytes e) = is.0
fails_opens q t is (step.last_epoch r bytes h e last) = is.0
fails_opens q t is (step.bad_message r ms m e) = is.0
fails_opens q t is (step.bad_swept r ms m e) = is.0
fails_opens q t is (step.waits p loses other stale) = (loses_opens p [] is loses).0

comes_opens : {r : Recovery} {a : Answer} {next : Step} → IsOpening r → Comes r a next → StaysOpening next
comes_opens is (step.gives_old r a) = is
comes_opens is (step.takes r l) = is
comes_opens is (step.refused r a t e) = tt
comes_opens is (step.stops q t f) = (fails_opens q t is f, tt)
comes_opens is (step.finds_none r e) = let opening = is.0 in absurd (cc (e, opening))
comes_opens is (step.reads_settled h reads e) = is
comes_opens is (step.reads_open h count reads e) = is
comes_opens is (step.deletes q id ids loses) = loses_opens q (id ∷ ids) is loses
comes_opens is (step.receives q loses other new) = loses_opens q [] is loses
comes_opens is (step.sends q place x ready e) = readies_opens q place is ready
comes_opens is (step.puts q place ready e) = readies_opens q place is ready
comes_opens is (step.clears q id ids c) = clears_opens q (id ∷ ids) is c
comes_opens is (step.sweeps q c) = clears_opens q [] is c
comes_opens is (step.clears_past r ms items id ids e are) = is
comes_opens is (step.opens r ms items e none opening) = tt
comes_opens is (step.closes r ms items e none settling) = let opening = is.0 in absurd (cc (settling, opening))
comes_opens is (step.ends r a answer e) = absurd (subst StopsAtMost e is.1)
comes_opens is (step.stopped r a t e) = tt
comes_opens is (step.astray r a e) = tt
comes_opens is (step.nothing r a) = tt

-- a step that goes on leaves an opening
pub goes_on : (r m : Recovery) (a : Answer) (turn : Turn RecoverAnswer) → Took (LeadsBy recovery_next) KeepsLeases r a m turn → turn ≡ More → IsOpening r → IsOpening m
goes_on r m a turn took more is =
    let At : Turn RecoverAnswer → Type 0 = Took (LeadsBy recovery_next) KeepsLeases r a m in
    subst StaysOpening (subst At more took) (comes_opens is (comes r a))

-- an opening has something to do
pub never_nothing : (r m : Recovery) (a : Answer) (turn : Turn RecoverAnswer) → Took (LeadsBy recovery_next) KeepsLeases r a m turn → turn ≡ Ended Nothing → IsOpening r → ⊥
never_nothing r m a turn took nothing is =
    let At : Turn RecoverAnswer → Type 0 = Took (LeadsBy recovery_next) KeepsLeases r a m in
    subst StaysOpening (subst At nothing took) (comes_opens is (comes r a))
