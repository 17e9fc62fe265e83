-- What every row of the table says of the state.
use Rattle.std.proofs.Common.{◌≡◌, ◌<◌, ◌≤◌, ◌⊎◌, ℕ, Option, Some, refl, sym, subst, inl, inr}
use Rattle.cloud_trait.specs.declared.answer.Answer.{Answer}
use Rattle.cloud_trait.specs.declared.answer.Answer.TheVariants.{Got, Sent, Received, Listed, Done, Given, Held, Renewed, Late, Failed, Memory}
use Rattle.cloud_trait.specs.Caller.{Caller}
use Rattle.cloud_trait.specs.State.{CloudState, Counts, called}
use Rattle.cloud_trait.specs.Ask.{Ask, Get, GetHeld, PutHeld, ListHeld, RemoveHeld, Send, Receive, Delete, Take, Renew, Release, effect, Lands, Permits, MovesNoLock, PutsNothing, TouchesNoMessage}
use Rattle.cloud_trait.specs.Weather.{counted, Weather, Leaves}
use Rattle.cloud_trait.specs.Growth.{HasGrown, IsAtRest}
use Rattle.cloud_trait.specs.Upto.{AgreeUpto, IsUpto}
use Rattle.cloud_trait.proofs.EffectLemmas.{effect_rest, effect_locks, effect_versions, effect_messages, effect_grown, grown_itself}
use Rattle.cloud_trait.proofs.UptoLemmas.{agree_itself, effect_agree, effect_upto}

-- whatever a call answers, its state is as it was or as where it landed
pub lands_or_not : (who : Caller) (ask : Ask) (a : Answer) (c d : Counts) (b t : CloudState) → Weather who ask a (counted c b) (counted d t) → (t ≡ b) ⊎ Lands who ask b t
lands_or_not who ask Failed c d b t row = row
lands_or_not who ask Memory c d b t row = inl row
lands_or_not who (Get name) (Got v) c d b t row = inl row.0
lands_or_not who (GetHeld name l) (Got v) c d b t row = inl row.0
lands_or_not who (GetHeld name l) (Late e n) c d b t row = inl row.0
lands_or_not who (PutHeld name bytes one two) Done c d b t row = inr row
lands_or_not who (PutHeld name bytes one two) (Late e n) c d b t row = inl row.0
lands_or_not who (ListHeld tree l) (Listed ps) c d b t row = inl row.0
lands_or_not who (ListHeld tree l) (Late e n) c d b t row = inl row.0
lands_or_not who (RemoveHeld name l) Done c d b t row = inr row
lands_or_not who (RemoveHeld name l) (Late e n) c d b t row = inl row.0
lands_or_not who (Send queue bytes) (Sent id) c d b t row = inr row.0
lands_or_not who (Receive queue most) (Received ms) c d b t row = inl row.0
lands_or_not who (Delete queue id) Done c d b t row = inr row
lands_or_not who (Take lock ticks) (Given l) c d b t row = inr row.0
lands_or_not who (Take lock ticks) (Held until) c d b t row = inl row.0
lands_or_not who (Renew l ticks) (Renewed e) c d b t row = inr row.0
lands_or_not who (Renew l ticks) (Late e n) c d b t row = inl row.0
lands_or_not who (Release l) Done c d b t row = inr row
lands_or_not who ask a c d b t row = absurd row

-- what holds where nothing changed, and where the call landed by leave, holds after it
pub row_by : (P : CloudState → Type 0) (who : Caller) (ask : Ask) (a : Answer) (c d : Counts) (b t : CloudState) → Weather who ask a (counted c b) (counted d t) → P b → (Permits ask b → P (effect who ask b)) → P t
row_by P who ask a c d b t row same there = elim (lands_or_not who ask a c d b t row) [ inl e ↦ subst P (sym e) same | inr l ↦ subst P (sym l.0) (there l.1) ]

-- a row moves no clock, wait, wish or newest call
pub row_rest : (who : Caller) (ask : Ask) (a : Answer) (c d : Counts) (b t : CloudState) → Weather who ask a (counted c b) (counted d t) → IsAtRest b t
row_rest who ask a c d b t row =
    row_by (IsAtRest b) who ask a c d b t row (record { now = refl; waits = refl; wish = refl; last = refl }) (λ permits. effect_rest who ask b)

pub row_locks : (who : Caller) (ask : Ask) (a : Answer) (c d : Counts) (b t : CloudState) → Weather who ask a (counted c b) (counted d t) → MovesNoLock ask → t.locks ≡ b.locks
row_locks who ask a c d b t row h = row_by (λ u. u.locks ≡ b.locks) who ask a c d b t row refl (λ permits. effect_locks who ask b h)

pub row_versions : (who : Caller) (ask : Ask) (a : Answer) (c d : Counts) (b t : CloudState) → Weather who ask a (counted c b) (counted d t) → PutsNothing ask → t.versions ≡ b.versions
row_versions who ask a c d b t row h = row_by (λ u. u.versions ≡ b.versions) who ask a c d b t row refl (λ permits. effect_versions who ask b h)

pub row_messages : (who : Caller) (ask : Ask) (a : Answer) (c d : Counts) (b t : CloudState) → Weather who ask a (counted c b) (counted d t) → TouchesNoMessage ask → t.messages ≡ b.messages
row_messages who ask a c d b t row h = row_by (λ u. u.messages ≡ b.messages) who ask a c d b t row refl (λ permits. effect_messages who ask b h)

-- nothing that landed is lost
pub row_grown : (who : Caller) (ask : Ask) (a : Answer) (c d : Counts) (b t : CloudState) → Weather who ask a (counted c b) (counted d t) → HasGrown b t
row_grown who ask a c d b t row = row_by (HasGrown b) who ask a c d b t row (grown_itself b b refl refl refl refl) (λ permits. effect_grown who ask b)

-- a call at a later event changes nothing up to an event
pub row_agree : (n : ℕ) (who : Caller) (ask : Ask) (a : Answer) (c d : Counts) (b t : CloudState) → Weather who ask a (counted c b) (counted d t) → n < who.event → AgreeUpto n b t
row_agree n who ask a c d b t row h = row_by (AgreeUpto n b) who ask a c d b t row (agree_itself n b b refl refl refl) (λ permits. effect_agree n who ask b h)

-- a call by an event leaves all up to that event
pub row_upto : (n : ℕ) (who : Caller) (ask : Ask) (a : Answer) (c d : Counts) (b t : CloudState) → Weather who ask a (counted c b) (counted d t) → who.event ≤ n → IsUpto n b → IsUpto n t
row_upto n who ask a c d b t row h u = row_by (IsUpto n) who ask a c d b t row u (λ permits. effect_upto n who ask b h u)

-- what holds of the state before a call at its clock, and where the call landed by leave, holds after it
pub leaves_by : (P : CloudState → Type 0) (who : Caller) (ask : Ask) (a : Answer) (c d : Counts) (s : CloudState) (new : Option CloudState) (l : Leaves who ask a (counted c s) d new)
    → P (called who l.after.now s) → (Permits ask (called who l.after.now s) → P (effect who ask (called who l.after.now s))) → P l.after
leaves_by P who ask a c d s new l same there = row_by P who ask a c d (called who l.after.now s) l.after l.row same there

-- the same of a whole call, from the state before it
pub leaves_grown : (who : Caller) (ask : Ask) (a : Answer) (c d : Counts) (s : CloudState) (new : Option CloudState) (l : Leaves who ask a (counted c s) d new) → HasGrown s l.after
leaves_grown who ask a c d s new l =
    let g = row_grown who ask a c d (called who l.after.now s) l.after l.row in
    record { versions = g.versions; messages = g.messages; trace = g.trace; later = l.later }

pub leaves_agree : (n : ℕ) (who : Caller) (ask : Ask) (a : Answer) (c d : Counts) (s : CloudState) (new : Option CloudState) (l : Leaves who ask a (counted c s) d new) → n < who.event → AgreeUpto n s l.after
leaves_agree n who ask a c d s new l h =
    let g = row_agree n who ask a c d (called who l.after.now s) l.after l.row h in
    record { versions = g.versions; messages = g.messages; trace = g.trace }

pub leaves_upto : (n : ℕ) (who : Caller) (ask : Ask) (a : Answer) (c d : Counts) (s : CloudState) (new : Option CloudState) (l : Leaves who ask a (counted c s) d new) → who.event ≤ n → IsUpto n s → IsUpto n l.after
leaves_upto n who ask a c d s new l h u =
    row_upto n who ask a c d (called who l.after.now s) l.after l.row h (record { versions = u.versions; messages = u.messages; trace = u.trace })

pub leaves_last : (who : Caller) (ask : Ask) (a : Answer) (c d : Counts) (s : CloudState) (new : Option CloudState) (l : Leaves who ask a (counted c s) d new) → l.after.last ≡ Some (who, s.wish)
leaves_last who ask a c d s new l = (row_rest who ask a c d (called who l.after.now s) l.after l.row).last

pub leaves_waits : (who : Caller) (ask : Ask) (a : Answer) (c d : Counts) (s : CloudState) (new : Option CloudState) (l : Leaves who ask a (counted c s) d new) → l.after.waits ≡ s.waits
leaves_waits who ask a c d s new l = (row_rest who ask a c d (called who l.after.now s) l.after l.row).waits
