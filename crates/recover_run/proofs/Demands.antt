-- A recovery stops wherever a trouble is shown.
use Rattle.std.proofs.Common.{◌≡◌, ◌≢◌, ◌-◌, ◌^◌, ℕ, List, [], ◌∷◌, length, Bool, true, false, Option, Some, None, Result, Ok, Err, inl, inr, refl, ap, sym, subst, ◌∙◌, arith}
use Rattle.std.specs.Prelude.{◌⊎◌, slice_get}
use Rattle.db_base.specs.declared.names.Lock.{Lock}
use Rattle.db_base.specs.declared.names.Lock.TheVariants as lock
use Rattle.db_base.specs.declared.names.ObjName.TheVariants as object
use Rattle.db_base.specs.declared.names.Place.{Place}
use Rattle.db_base.specs.declared.names.Place.TheVariants as place
use Rattle.db_base.specs.declared.trouble.Trouble.TheVariants as trouble
use Rattle.db_base.specs.declared.trouble.Counter.{Counter}
use Rattle.db_base.specs.declared.trouble.Counter.TheVariants as counter
use Rattle.head_codec.specs.Head.{empty_head}
use Rattle.cloud_trait.specs.declared.answer.Answer.TheVariants as call
use Rattle.recover_run.specs.Calls.{head_in}
use Rattle.recover_run.specs.Causes.{NothingNew, Counts, BreaksHead, BreaksMessage, IsSifted, IsWaiting, Shows, Keeps, AnswersKept, IsAbsent}
use Rattle.recover_run.specs.Counting.{known_indices}
use Rattle.recover_run.specs.Recovery.{ask_at, under, delete_next, send_next, atomic_queue, damaged_message}
use Rattle.recover_run.proofs.Heard.{FreshIs, HeardAt, AscendAt, IsHeard, loses_heard, went_heard, went_ascend}
use Rattle.recover_run.proofs.Failing.{fails_lead, refusal_leads, none_leads}
use Rattle.recover_run.proofs.Outcomes.{at, gathered, Loses, Fails}
use Rattle.recover_run.proofs.Outcomes as step
use Rattle.recover_run.proofs.Leases.{KeepsEnding, stands_ends, went_stands}
use Rattle.recover_run.proofs.Turns.{AtWork, Turns, turns}
use Rattle.recover_run.proofs.Turns as turn
use Rattle.recover_run.proofs.Words.{Trouble, Head, Answer, Turn, More, Ended, Stopped, Release, Claim, Goes, Ends, Stops, LeadsBy, Took, Deed, calls_of, given_of, Fits, AtomicItem, Aim, Stage, ReleasingOld, Taking, Getting, Receiving, Deleting, Sending, Putting, Clearing, Sweeping, Releasing, Finished, RecoverAnswer, Nothing, Wanted, Calls, Recovery, Step, recovery_ask, recovery_next, KeepsLeases, Went}

-- the step keeps this ending, or stops so
abbrev pub NextKeeps : Result RecoverAnswer Trouble → Step → Type 0
NextKeeps ending (Goes n) = n.ending ≡ Some ending
NextKeeps ending (Ends n x) = ⊥
NextKeeps ending (Stops n t) = ending ≡ Err t

-- a step that fails keeps its trouble
fails_kept : {r q : Recovery} {a : Answer} {t : Trouble} (u : Trouble) → u ≡ t → Fails r a q t → NextKeeps (Err u) (recovery_next r a)
fails_kept u same f = subst (NextKeeps (Err u)) (sym (fails_lead f)) (ap (λ (k : Trouble). Some (Err k)) (sym same))

-- and a take that is refused stops for it
refusal_kept : (r : Recovery) (a : Answer) (t : Trouble) → given_of (lock.Client r.client) a ≡ Err t → NextKeeps (Err t) (recovery_next (at r Taking) a)
refusal_kept r a t e = subst (NextKeeps (Err t)) (sym (refusal_leads r a t e)) refl

-- the step at another way to write the stage and the answer
at_stage : (ending : Result RecoverAnswer Trouble) (r : Recovery) (a b : Answer) (st : Stage) → r.stage ≡ st → a ≡ b → NextKeeps ending (recovery_next (at r st) b)
    → NextKeeps ending (recovery_next r a)
at_stage ending r a b st stage is keeps =
    subst (λ (s : Stage). NextKeeps ending (recovery_next (at r s) a)) (sym stage) (subst (λ (x : Answer). NextKeeps ending (recovery_next (at r st) x)) (sym is) keeps)

-- ---- troubles of calls

failed_kept : (st : Stage) (r : Recovery) → Counts st → NextKeeps (Err trouble.Failed) (recovery_next (at r st) call.Failed)
failed_kept ReleasingOld r counts = absurd counts
failed_kept Taking r counts = refusal_kept r call.Failed trouble.Failed refl
failed_kept Getting r counts = fails_kept trouble.Failed refl (step.no_head r call.Failed trouble.Failed refl)
failed_kept Receiving r counts = fails_kept trouble.Failed refl (step.no_messages r call.Failed trouble.Failed refl)
failed_kept Deleting r counts = fails_kept trouble.Failed refl (step.not_deleted r call.Failed trouble.Failed refl)
failed_kept Sending r counts = fails_kept trouble.Failed refl (step.not_sent r call.Failed trouble.Failed refl)
failed_kept Putting r counts = fails_kept trouble.Failed refl (step.not_put r call.Failed trouble.Failed refl)
failed_kept Clearing r counts = absurd counts
failed_kept Sweeping r counts = fails_kept trouble.Failed refl (step.not_swept r call.Failed trouble.Failed refl)
failed_kept Releasing r counts = absurd counts
failed_kept Finished r counts = absurd counts

release_late : (r : Recovery) (o : Option Claim) (e n : ℕ) → Fits (under r o Release) (call.Late e n) → ⊥
release_late r (Some l) e n fits = fits
release_late r None e n fits = fits

delete_late : (r : Recovery) (ids : List ℕ) (e n : ℕ) → Fits (delete_next r ids) (call.Late e n) → ⊥
delete_late r [] e n fits = fits
delete_late r (id ∷ ids) e n fits = fits

send_late : (r : Recovery) (o : Option AtomicItem) (e n : ℕ) → Fits (send_next r o) (call.Late e n) → ⊥
send_late r (Some x) e n fits = fits
send_late r None e n fits = fits

late_kept : (st : Stage) (r : Recovery) (e n : ℕ) → Fits (ask_at st r) (call.Late e n) → NextKeeps (Err (trouble.Late e n)) (recovery_next (at r st) (call.Late e n))
late_kept ReleasingOld r e n fits = absurd (release_late r r.former e n fits)
late_kept Taking r e n fits = absurd fits
late_kept Getting r e n fits = fails_kept (trouble.Late e n) refl (step.no_head r (call.Late e n) (trouble.Late e n) refl)
late_kept Receiving r e n fits = absurd fits
late_kept Deleting r e n fits = absurd (delete_late r r.ids e n fits)
late_kept Sending r e n fits = absurd (send_late r (slice_get r.gathered.kept r.sent) e n fits)
late_kept Putting r e n fits = fails_kept (trouble.Late e n) refl (step.not_put r (call.Late e n) (trouble.Late e n) refl)
late_kept Clearing r e n fits = absurd (delete_late r r.ids e n fits)
late_kept Sweeping r e n fits = absurd fits
late_kept Releasing r e n fits = absurd (release_late r r.lease e n fits)
late_kept Finished r e n fits = absurd fits

busy_kept : (r : Recovery) (a : Answer) (held : Lock) (until : ℕ) → r.stage ≡ Taking → held ≡ lock.Client r.client → a ≡ call.Held until
    → NextKeeps (Err (trouble.Busy held until)) (recovery_next r a)
busy_kept r a held until stage own is =
    at_stage (Err (trouble.Busy held until)) r a (call.Held until) Taking stage is
    (refusal_kept r (call.Held until) (trouble.Busy held until) (ap (λ (l : Lock). Err (trouble.Busy l until)) (sym own)))

-- ---- bytes

head_kept : (r : Recovery) (a : Answer) (where_it_is : Place) (byte : ℕ) → BreaksHead r a where_it_is byte → NextKeeps (Err (trouble.Damaged where_it_is byte)) (recovery_next r a)
head_kept r a where_it_is byte (stage, (bytes, is, none, there, offset)) =
    at_stage (Err (trouble.Damaged where_it_is byte)) r a (call.Got (Some bytes)) Getting stage is
    (fails_kept (trouble.Damaged where_it_is byte)
    (ap (λ (p : Place). trouble.Damaged p byte) there ∙ ap (λ (n : ℕ). trouble.Damaged (place.Object (object.Head r.client)) n) offset)
    (step.bad_head r bytes none))

message_kept : (r : Recovery) (a : Answer) (where_it_is : Place) (byte : ℕ) → BreaksMessage r a where_it_is byte
    → NextKeeps (Err (trouble.Damaged where_it_is byte)) (recovery_next r a)
message_kept r a where_it_is byte (stage, (ms, (m, is, bad, there, offset))) = on stage where
  damage : trouble.Damaged where_it_is byte ≡ damaged_message r m
  damage = ap (λ (p : Place). trouble.Damaged p byte) there ∙ ap (λ (n : ℕ). trouble.Damaged (place.Message (atomic_queue r) m.id) n) offset

  on : (r.stage ≡ Receiving) ⊎ (r.stage ≡ Sweeping) → NextKeeps (Err (trouble.Damaged where_it_is byte)) (recovery_next r a)
  on (inl e) = at_stage (Err (trouble.Damaged where_it_is byte)) r a (call.Received ms) Receiving e is (fails_kept _ damage (step.bad_message r ms m bad))
  on (inr e) = at_stage (Err (trouble.Damaged where_it_is byte)) r a (call.Received ms) Sweeping e is (fails_kept _ damage (step.bad_swept r ms m bad))

-- ---- the last epoch

empty_never : (h : Head) → head_in None ≡ Some h → h.epoch ≡ 2 ^ 64 - 1 → ⊥
empty_never h reads last =
    let same : empty_head ≡ h = cc (reads) in
    let zero_is : 0 ≡ 2 ^ 64 - 1 = ap (λ (k : Head). k.epoch) same ∙ last in
    omega (arith, zero_is)

epoch_kept : (r : Recovery) (a : Answer) (v : Option (List ℕ)) (h : Head) → r.stage ≡ Getting → a ≡ call.Got v → head_in v ≡ Some h → h.epoch ≡ 2 ^ 64 - 1
    → NextKeeps (Err (trouble.Exhausted counter.Epoch)) (recovery_next r a)
epoch_kept r a None h stage is reads last = absurd (empty_never h reads last)
epoch_kept r a (Some bytes) h stage is reads last =
    at_stage (Err (trouble.Exhausted counter.Epoch)) r a (call.Got (Some bytes)) Getting stage is
    (fails_kept (trouble.Exhausted counter.Epoch) refl (step.last_epoch r bytes h reads last))

-- ---- waiting

stale_is : (b : Bool) (None_new : Type 0) → FreshIs b None_new → None_new → b ≡ false
stale_is true None_new fresh none = absurd (fresh none)
stale_is false None_new fresh none = refl

-- the counted records are what the calls brought, so the step waits with these numbers
waits_kept : {r m : Recovery} {a b : Answer} (q : Recovery) (calls : Calls) (have need : ℕ) → Loses r a q [] → IsHeard q calls × FreshIs q.gathered.fresh (NothingNew calls)
    → IsWaiting m b calls have need → NextKeeps (Err (trouble.Waiting have need)) (recovery_next r a)
waits_kept q calls have need loses heard w =
    let kept : have ≡ length q.gathered.kept = w.have_is ∙ sym (heard.0.kept.many ∙ ap (λ (k : Wanted). length (known_indices k calls)) heard.0.wanted) in
    let count : need ≡ q.wanted.count = w.need_is ∙ sym (ap (λ (k : Wanted). k.count) heard.0.wanted) in
    let fewer = w.fewer in
    fails_kept (trouble.Waiting have need)
    (ap (λ (n : ℕ). trouble.Waiting n need) kept ∙ ap (λ (n : ℕ). trouble.Waiting (length q.gathered.kept) n) count)
    (step.waits q loses (λ e. omega (arith, fewer, kept, count, e)) (stale_is q.gathered.fresh (NothingNew calls) heard.1 w.none))

-- no lost record is left to be deleted, so it is decided
sifted_waits : (r : Recovery) (cs : Calls) (a : Answer) (have need : ℕ) → HeardAt r.stage cs r → AscendAt r.stage r → IsWaiting r a ((recovery_ask r, a) ∷ cs) have need
    → NextKeeps (Err (trouble.Waiting have need)) (recovery_next r a)
sifted_waits r cs a have need heard up w = on w.sifted where
  Waits : Recovery → Answer → Type 0
  Waits m b = HeardAt m.stage cs m → AscendAt m.stage m → IsWaiting m b ((recovery_ask m, b) ∷ cs) have need → NextKeeps (Err (trouble.Waiting have need)) (recovery_next m b)

  waits : (m q : Recovery) (b : Answer) → Loses m b q [] → Waits m b
  waits m q b loses = λ h u v. waits_kept q ((recovery_ask m, b) ∷ cs) have need loses (loses_heard cs q [] h u loses) v

  on : IsSifted r a → NextKeeps (Err (trouble.Waiting have need)) (recovery_next r a)
  on (inl (stage, (ms, (items, is, reads, lost)))) =
      let q : Recovery = gathered (at r Receiving) items in
      let there : Waits (at r Receiving) (call.Received ms) =
      waits (at r Receiving) q (call.Received ms) (subst (Loses (at r Receiving) (call.Received ms) q) lost (step.received r ms items reads)) in
      subst (λ (m : Recovery). Waits m a) (sym (ap (at r) stage)) (subst (Waits (at r Receiving)) (sym is) there) heard up w
  on (inr (stage, is, rest)) =
      let there : Waits (at r Deleting) call.Done =
      waits (at r Deleting) (at r Deleting) call.Done (subst (Loses (at r Deleting) call.Done (at r Deleting)) rest (step.one_gone r)) in
      subst (λ (m : Recovery). Waits m a) (sym (ap (at r) stage)) (subst (Waits (at r Deleting)) (sym is) there) heard up w

-- ---- every trouble that is shown

shown_kept : (r : Recovery) (cs : Calls) (a : Answer) (t : Trouble) → HeardAt r.stage cs r × AscendAt r.stage r → Fits (recovery_ask r) a → t ≢ trouble.Memory
    → Shows r a ((recovery_ask r, a) ∷ cs) t → NextKeeps (Err t) (recovery_next r a)
shown_kept r cs a trouble.Failed seen fits other (counts, is) =
    subst (λ (b : Answer). NextKeeps (Err trouble.Failed) (recovery_next r b)) (sym is) (failed_kept r.stage r counts)
shown_kept r cs a (trouble.Late e n) seen fits other is =
    subst (λ (b : Answer). NextKeeps (Err (trouble.Late e n)) (recovery_next r b)) (sym is)
    (late_kept r.stage r e n (subst (λ (b : Answer). Fits (recovery_ask r) b) is fits))
shown_kept r cs a (trouble.Busy held until) seen fits other (stage, own, is) = busy_kept r a held until stage own is
shown_kept r cs a (trouble.Damaged where_it_is byte) seen fits other (inl breaks) = head_kept r a where_it_is byte breaks
shown_kept r cs a (trouble.Damaged where_it_is byte) seen fits other (inr breaks) = message_kept r a where_it_is byte breaks
shown_kept r cs a (trouble.Exhausted what) seen fits other (epoch, (stage, (v, (h, is, reads, last)))) =
    subst (λ (c : Counter). NextKeeps (Err (trouble.Exhausted c)) (recovery_next r a)) (sym epoch) (epoch_kept r a v h stage is reads last)
shown_kept r cs a (trouble.Waiting have need) seen fits other w = sifted_waits r cs a have need seen.0 seen.1 w
shown_kept r cs a trouble.Memory seen fits other shows = absurd (other refl)
shown_kept r cs a (trouble.Absent page) seen fits other shows = absurd shows
shown_kept r cs a (trouble.NotALeaf page) seen fits other shows = absurd shows
shown_kept r cs a (trouble.BadFence page expected found) seen fits other shows = absurd shows
shown_kept r cs a (trouble.Loop page) seen fits other shows = absurd shows
shown_kept r cs a (trouble.Stale page least got) seen fits other shows = absurd shows

keeps_so : (r n : Recovery) (a : Answer) (turn : Turn RecoverAnswer) (ending : Result RecoverAnswer Trouble) → Took (LeadsBy recovery_next) KeepsLeases r a n turn
    → NextKeeps ending (recovery_next r a) → Keeps n turn ending
keeps_so r n a More ending took keeps = subst (NextKeeps ending) took keeps
keeps_so r n a (Ended x) ending took keeps = subst (NextKeeps ending) took keeps
keeps_so r n a (Stopped t) ending took keeps = λ k. subst (NextKeeps ending) (took.0 k) keeps

pub took_exact : (client : ℕ) (aim : Aim) (old : Option Claim) (h : List Deed) (r n : Recovery) (a : Answer) (turn : Turn RecoverAnswer) → Went client aim old h r
    → Fits (recovery_ask r) a → Took (LeadsBy recovery_next) KeepsLeases r a n turn
    → (t : Trouble) → t ≢ trouble.Memory → Shows r a ((recovery_ask r, a) ∷ calls_of h) t → Keeps n turn (Err t)
took_exact client aim old h r n a turn went fits took t other shows =
    keeps_so r n a turn (Err t) took (shown_kept r (calls_of h) a t (went_heard client aim old h r went, went_ascend client aim old h r went) fits other shows)

-- ---- an absent head

pub took_nothing : (r n : Recovery) (a : Answer) (turn : Turn RecoverAnswer) → Took (LeadsBy recovery_next) KeepsLeases r a n turn → IsAbsent r a → Keeps n turn (Ok Nothing)
took_nothing r n a turn took (settles, stage, is) =
    keeps_so r n a turn (Ok Nothing) took
    (at_stage (Ok Nothing) r a (call.Got None) Getting stage is (subst (NextKeeps (Ok Nothing)) (sym (none_leads r settles)) refl))

-- ---- what was kept is answered

abbrev NextAnswers : Result RecoverAnswer Trouble → Step → Type 0
NextAnswers ending (Goes n) = ⊥
NextAnswers ending (Ends n x) = ending ≡ Ok x
NextAnswers ending (Stops n t) = ending ≡ Err t

work_keeps : (st : Stage) (o : Option (Result RecoverAnswer Trouble)) → AtWork st → KeepsEnding st o → o ≡ None
work_keeps ReleasingOld o work keeps = absurd work
work_keeps Taking o work keeps = absurd work
work_keeps Releasing o work keeps = absurd work
work_keeps Finished o work keeps = absurd work
work_keeps st o work keeps = keeps

never_kept : (r : Recovery) (ending : Result RecoverAnswer Trouble) → r.ending ≡ None → r.ending ≡ Some ending → ⊥
never_kept r ending none e = absurd (cc (none, e))

answers_by : {r : Recovery} {a : Answer} {next : Step} (ending : Result RecoverAnswer Trouble) → KeepsEnding r.stage r.ending → r.ending ≡ Some ending → Turns r a next
    → NextAnswers ending next
answers_by ending keeps e (turn.gives_old r a) = absurd (never_kept r ending keeps e)
answers_by ending keeps e (turn.takes r l) = absurd (never_kept r ending keeps e)
answers_by ending keeps e (turn.refused r a t f) = absurd (never_kept r ending keeps e)
answers_by {r = r} ending keeps e (turn.works n w goes) = absurd (never_kept r ending (work_keeps r.stage r.ending w.at_work keeps) e)
answers_by {r = r} ending keeps e (turn.halts q x w may) = absurd (never_kept r ending (work_keeps r.stage r.ending w.at_work keeps) e)
answers_by {r = r} ending keeps e (turn.opens q epoch w is) = absurd (never_kept r ending (work_keeps r.stage r.ending w.at_work keeps) e)
answers_by ending keeps e (turn.ends r a x is) = let same : ending ≡ Ok x = cc (e, is) in same
answers_by ending keeps e (turn.stopped r a t is) = let same : ending ≡ Err t = cc (e, is) in same
answers_by ending keeps e (turn.astray r a is) = absurd (never_kept r ending is e)
answers_by ending keeps e (turn.nothing r a) = absurd keeps

answers_so : (r n : Recovery) (a : Answer) (turn : Turn RecoverAnswer) (ending : Result RecoverAnswer Trouble) → Took (LeadsBy recovery_next) KeepsLeases r a n turn
    → NextAnswers ending (recovery_next r a) → AnswersKept turn ending
answers_so r n a More ending took answers = subst (NextAnswers ending) took answers
answers_so r n a (Ended x) ending took answers = subst (NextAnswers ending) took answers
answers_so r n a (Stopped t) ending took answers = λ k. subst (NextAnswers ending) (took.0 k) answers

pub took_answers : (client : ℕ) (aim : Aim) (old : Option Claim) (h : List Deed) (r n : Recovery) (a : Answer) (turn : Turn RecoverAnswer) → Went client aim old h r
    → Took (LeadsBy recovery_next) KeepsLeases r a n turn → (ending : Result RecoverAnswer Trouble) → r.ending ≡ Some ending → AnswersKept turn ending
took_answers client aim old h r n a turn went took ending e =
    answers_so r n a turn ending took
    (answers_by ending (stands_ends r.stage client aim old h r (went_stands client aim old h r went)) e (turns r a))
