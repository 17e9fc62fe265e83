-- What is taken of a quota: at most one row lands by a call.
use Rattle.std.proofs.Common.{◌≡◌, ◌≤◌, ◌+◌, inl, inr, ℕ, List, [], ◌∷◌, ◌++◌, length, Some, Result, Ok, Err, ap, arith, length-append}
use Rattle.std.specs.Prelude.{IfOk, OnErr}
use Rattle.client_work.specs.declared.answer.Answer.{Answer}
use Rattle.client_work.specs.Session.{Acting, StepsSession}
use Rattle.cloud_facts.specs.Words.{Turn, CloudState, called, Caller, Seen, Ask, Get, GetHeld, PutHeld, Send, Receive, Delete, Take, Renew, Release}
use Rattle.cloud_trait.specs.Ask.{ListHeld, RemoveHeld, effect}
use Rattle.cloud_trait.specs.Bench.{Waits}
use Rattle.cloud_trait.specs.declared.state.Landing.{Landing}
use Rattle.cloud_trait.specs.Weather.{counted, Leaves}
use Rattle.cloud_trait.proofs.EffectLemmas.{effect_trace}
use Rattle.cloud_trait.proofs.RowLemmas.{leaves_by}
use Rattle.db_base.specs.declared.wish.Wish.{Wish}
use Rattle.session_facts.proofs.Lines.Outcome.{MadeCall, made_call}
use Rattle.world_audit.specs.Look.{Looked}
use Rattle.world_core.specs.Handled.{SetsWish, StepsLooked, FallsShort}
use Rattle.world_core.specs.Quota.{SpendsQuota}
use Rattle.world_core.specs.Sessions.{Changes}
use Rattle.world_core.specs.World.{World}
use Rattle.world_core.specs.declared.world.WorldFault.{WorldFault}
use Rattle.world_core.specs.Span.{span_of}

-- ---- one behind another

-- a told state that stays as it is
pub spends_not : (quota : ℕ) (before after : Seen) → ((x : CloudState) → before.state ≡ Some x → after.state ≡ Some x) → SpendsQuota before after quota quota
spends_not quota before after stays x told = (x, stays x told, omega arith)

pub spends_none : (quota left : ℕ) (before : Seen) → left ≡ quota → SpendsQuota before before quota left
spends_none quota left before same x told = (x, told, omega (arith, same))

pub spends_on : (before mid after : Seen) (quota left rest : ℕ) → SpendsQuota before mid quota left → SpendsQuota mid after left rest → SpendsQuota before after quota rest
spends_on before mid after quota left rest f g x told =
    let p = f x told in
    let q = g p.0 p.1 in
    let first = p.2 in
    let second = q.2 in
    (q.0, q.1, omega (arith, first, second))

-- less may be left than was spent
spends_less : (before after : Seen) (quota left : ℕ) → left ≤ quota → SpendsQuota before after quota quota → SpendsQuota before after quota left
spends_less before after quota left less f x told =
    let p = f x told in
    let few = p.2 in
    (p.0, p.1, omega (arith, few, less))

-- ---- a call

one_more : (rows : List Landing) (row : Landing) → length (rows ++ row ∷ []) ≤ length rows + 1
one_more rows row = omega (arith, length-append rows (row ∷ []))

effect_few : (who : Caller) (ask : Ask) (s : CloudState) → length (effect who ask s).trace ≤ length s.trace + 1
effect_few who (Get name) s = omega arith
effect_few who (GetHeld name l) s = omega arith
effect_few who (PutHeld name bytes one two) s = one_more s.trace _
effect_few who (ListHeld tree l) s = omega arith
effect_few who (RemoveHeld name l) s = one_more s.trace _
effect_few who (Send queue bytes) s = one_more s.trace _
effect_few who (Receive queue most) s = omega arith
effect_few who (Delete queue id) s = omega arith
effect_few who (Take lock ticks) s = omega (arith, ap length (effect_trace who (Take lock ticks) s tt))
effect_few who (Renew l ticks) s = omega (arith, ap length (effect_trace who (Renew l ticks) s tt))
effect_few who (Release l) s = omega (arith, ap length (effect_trace who (Release l) s tt))

-- a step spends what was taken
spends_step : (who : Caller) (number : ℕ) (under to : Seen) (old new : List Acting) (turn : Turn Answer) (quota left : ℕ) → left + 1 ≡ quota
    → Changes number (λ a b. StepsSession who under to a b (Ok turn)) old new → SpendsQuota under to quota left
spends_step who number under to old new turn quota left taken step x told = (leaves.after, leaves.told, omega (arith, few, taken))
  where
    call : MadeCall who under to step.before.work
    call = made_call who under to step.before.work step.after.work turn step.does.work

    leaves : Leaves who call.ask call.answer (counted under.counts x) to.counts to.state
    leaves = call.made.state x told

    near : length x.trace ≤ length x.trace + 1
    near = omega arith

    few : length leaves.after.trace ≤ length x.trace + 1
    few =
        leaves_by (λ (u : CloudState). length u.trace ≤ length x.trace + 1) who call.ask call.answer under.counts to.counts x to.state leaves near
        (λ permits. effect_few who call.ask (called who leaves.after.now x))

-- a wish that is set lands nothing
spends_wish : (wish : Wish) (quota : ℕ) (before after : Seen) → SetsWish wish before after → SpendsQuota before after quota quota
spends_wish wish quota before after sets x told =
    let same : length x.trace + quota ≤ length x.trace + quota = omega arith in
    (record x { wish = wish }, sets.set x told, same)

spends_between : (who : Caller) (wish : Wish) (before from under to after : Seen) (number : ℕ) (old new : List Acting) (turn : Turn Answer) (quota left : ℕ)
    → left + 1 ≡ quota → Looked before from → SetsWish wish from under → Changes number (λ a b. StepsSession who under to a b (Ok turn)) old new → Looked to after
    → SpendsQuota before after quota left
spends_between who wish before from under to after number old new turn quota left taken first sets step last =
    spends_on before from after quota quota left (spends_not quota before from first.stays)
    (spends_on from under after quota quota left (spends_wish wish quota from under sets)
    (spends_on under to after quota left left (spends_step who number under to old new turn quota left taken step) (spends_not left to after last.stays)))

-- a step for which one was taken, however it ends
pub spends_taken : (who : Caller) (wish : Wish) (before after : Seen) (old new : World) (result : Result (Turn Answer) WorldFault) (quota left : ℕ)
    → left + 1 ≡ quota → IfOk result (λ turn. StepsLooked who wish (span_of before after old new) turn) → OnErr result (FallsShort who wish (span_of before after old new))
    → SpendsQuota before after quota left
spends_taken who wish before after old new (Ok turn) quota left taken p short =
    spends_between who wish before p.from p.under p.to after who.session old.sessions new.sessions turn quota left taken p.look_before p.wishes p.session p.look_after
spends_taken who wish before after old new (Err why) quota left taken looked (inl uncalled) =
    spends_less before after quota left (omega (arith, taken)) (spends_not quota before after uncalled.looked.stays)
spends_taken who wish before after old new (Err why) quota left taken looked (inr p) =
    spends_between who wish before p.from p.under p.to after who.session old.sessions new.sessions p.turn quota left taken p.look_before p.wishes p.session p.look_after

-- a wait lands nothing
pub spends_wait : (quota ticks : ℕ) (before after : Seen) → ((s : CloudState) → before.state ≡ Some s → Waits ticks s after.state) → SpendsQuota before after quota quota
spends_wait quota ticks before after waits x told =
    let w = waits x told in
    let long = ap (λ (z : CloudState). length z.trace) w.rest in
    (w.after, w.told, omega (arith, long))
