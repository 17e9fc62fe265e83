-- What an effect changes and what it leaves.
use Rattle.std.proofs.Common.{◌≡◌, ◌-◌, ℕ, zero, suc, List, [], ◌∷◌, Option, Some, None, refl, ap, sym, subst, arith, Bool, true, false, cond}
use Rattle.std.specs.Bool.{◌==◌}
use Rattle.std.specs.Prelude.{nat_lt}
use Rattle.std.proofs.lemmas.List.{append-nil, map-append}
use Rattle.db_base.specs.declared.names.ObjName.{ObjName}
use Rattle.db_base.specs.declared.names.QueueName.{QueueName}
use Rattle.cloud_trait.specs.declared.state.Version.{Version}
use Rattle.cloud_trait.specs.declared.state.Posted.{Posted}
use Rattle.cloud_trait.specs.Caller.{Caller}
use Rattle.cloud_trait.specs.Claim.{Claim}
use Rattle.cloud_trait.specs.Names.{object_cmp, queue_cmp}
use Rattle.cloud_trait.specs.State.{CloudState, stored, taken, released, moved, held_so, is_current, end_after, mark_at, marked}
use Rattle.cloud_trait.specs.Ask.{Ask, Get, GetHeld, PutHeld, ListHeld, RemoveHeld, Send, Receive, Delete, Take, Renew, Release, effect, MovesNoLock, PutsNothing, TouchesNoMessage, LandsNoRow}
use Rattle.cloud_trait.specs.Growth.{BeginsWith, HasGrown, IsAtRest}
use Rattle.cloud_trait.specs.Upto.{posts_of}
use Rattle.cloud_trait.proofs.NameLemmas.{object_cmp-equal, queue_cmp-equal}
use Rattle.cloud_trait.proofs.StateLemmas.{put_at_by}

-- what holds where a lease's lock has another end, and where nothing changed, holds where the lock is moved
pub moved_by : (P : CloudState → Type 0) (l : Claim) (until : ℕ) (s : CloudState) → P (held_so l.lock (record { generation = l.generation; until = until }) s) → P s → P (moved l until s)
moved_by P l until s there same = on (is_current l s) where
  on : (c : Bool) → P (cond c (held_so l.lock (record { generation = l.generation; until = until }) s) s)
  on true = there
  on false = same

-- likewise where a lease is given back
pub released_by : (P : CloudState → Type 0) (l : Claim) (s : CloudState) → P (held_so l.lock (record { generation = l.generation; until = s.now }) s) → P s → P (released l s)
released_by P l s there same = on (nat_lt s.now l.end) where
  on : (c : Bool) → P (cond c (moved l s.now s) s)
  on true = moved_by P l s.now s there same
  on false = same

-- an effect moves no clock, wait, wish or newest call
pub effect_rest : (who : Caller) (ask : Ask) (s : CloudState) → IsAtRest s (effect who ask s)
effect_rest who (Get name) s = record { now = refl; waits = refl; wish = refl; last = refl }
effect_rest who (GetHeld name l) s = record { now = refl; waits = refl; wish = refl; last = refl }
effect_rest who (PutHeld name bytes one two) s = record { now = refl; waits = refl; wish = refl; last = refl }
effect_rest who (ListHeld tree l) s = record { now = refl; waits = refl; wish = refl; last = refl }
effect_rest who (RemoveHeld name l) s = record { now = refl; waits = refl; wish = refl; last = refl }
effect_rest who (Send queue bytes) s = record { now = refl; waits = refl; wish = refl; last = refl }
effect_rest who (Receive queue most) s = record { now = refl; waits = refl; wish = refl; last = refl }
effect_rest who (Delete queue id) s = record { now = refl; waits = refl; wish = refl; last = refl }
effect_rest who (Take lock ticks) s = record { now = refl; waits = refl; wish = refl; last = refl }
effect_rest who (Renew l ticks) s =
    moved_by (IsAtRest s) l (end_after s.now ticks) s (record { now = refl; waits = refl; wish = refl; last = refl }) (record { now = refl; waits = refl; wish = refl; last = refl })
effect_rest who (Release l) s =
    released_by (IsAtRest s) l s (record { now = refl; waits = refl; wish = refl; last = refl }) (record { now = refl; waits = refl; wish = refl; last = refl })

-- only a take, a renewal and a release move a lock
pub effect_locks : (who : Caller) (ask : Ask) (s : CloudState) → MovesNoLock ask → (effect who ask s).locks ≡ s.locks
effect_locks who (Get name) s h = refl
effect_locks who (GetHeld name l) s h = refl
effect_locks who (PutHeld name bytes one two) s h = refl
effect_locks who (ListHeld tree l) s h = refl
effect_locks who (RemoveHeld name l) s h = refl
effect_locks who (Send queue bytes) s h = refl
effect_locks who (Receive queue most) s h = refl
effect_locks who (Delete queue id) s h = refl
effect_locks who (Take lock ticks) s h = absurd h
effect_locks who (Renew l ticks) s h = absurd h
effect_locks who (Release l) s h = absurd h

-- only a put and a removal make a version
pub effect_versions : (who : Caller) (ask : Ask) (s : CloudState) → PutsNothing ask → (effect who ask s).versions ≡ s.versions
effect_versions who (Get name) s h = refl
effect_versions who (GetHeld name l) s h = refl
effect_versions who (PutHeld name bytes one two) s h = absurd h
effect_versions who (ListHeld tree l) s h = refl
effect_versions who (RemoveHeld name l) s h = absurd h
effect_versions who (Send queue bytes) s h = refl
effect_versions who (Receive queue most) s h = refl
effect_versions who (Delete queue id) s h = refl
effect_versions who (Take lock ticks) s h = refl
effect_versions who (Renew l ticks) s h = moved_by (λ u. u.versions ≡ s.versions) l (end_after s.now ticks) s refl refl
effect_versions who (Release l) s h = released_by (λ u. u.versions ≡ s.versions) l s refl refl

-- only a send and a deletion touch messages
pub effect_messages : (who : Caller) (ask : Ask) (s : CloudState) → TouchesNoMessage ask → (effect who ask s).messages ≡ s.messages
effect_messages who (Get name) s h = refl
effect_messages who (GetHeld name l) s h = refl
effect_messages who (PutHeld name bytes one two) s h = refl
effect_messages who (ListHeld tree l) s h = refl
effect_messages who (RemoveHeld name l) s h = refl
effect_messages who (Send queue bytes) s h = absurd h
effect_messages who (Receive queue most) s h = refl
effect_messages who (Delete queue id) s h = absurd h
effect_messages who (Take lock ticks) s h = refl
effect_messages who (Renew l ticks) s h = moved_by (λ u. u.messages ≡ s.messages) l (end_after s.now ticks) s refl refl
effect_messages who (Release l) s h = released_by (λ u. u.messages ≡ s.messages) l s refl refl

-- only a put, a removal and a send leave a row in the trace
pub effect_trace : (who : Caller) (ask : Ask) (s : CloudState) → LandsNoRow ask → (effect who ask s).trace ≡ s.trace
effect_trace who (Get name) s h = refl
effect_trace who (GetHeld name l) s h = refl
effect_trace who (PutHeld name bytes one two) s h = absurd h
effect_trace who (ListHeld tree l) s h = refl
effect_trace who (RemoveHeld name l) s h = absurd h
effect_trace who (Send queue bytes) s h = absurd h
effect_trace who (Receive queue most) s h = refl
effect_trace who (Delete queue id) s h = refl
effect_trace who (Take lock ticks) s h = refl
effect_trace who (Renew l ticks) s h = moved_by (λ u. u.trace ≡ s.trace) l (end_after s.now ticks) s refl refl
effect_trace who (Release l) s h = released_by (λ u. u.trace ≡ s.trace) l s refl refl

-- a mark changes no message's sender and bytes
pub posts_of-mark_at : (ms : List Posted) (i : ℕ) → posts_of (mark_at ms i) ≡ posts_of ms
posts_of-mark_at [] i = refl
posts_of-mark_at (m ∷ ms) zero = refl
posts_of-mark_at (m ∷ ms) (suc i) = ap (λ ps. (m.who, m.bytes) ∷ ps) (posts_of-mark_at ms i)

pub posts_of-marked : (ms : List Posted) (id : ℕ) → posts_of (marked ms id) ≡ posts_of ms
posts_of-marked ms id = on (id == 0) where
  on : (c : Bool) → posts_of (cond c ms (mark_at ms (id - 1))) ≡ posts_of ms
  on true = refl
  on false = posts_of-mark_at ms (id - 1)

-- a list begins with itself
pub begins_itself : {X : Type 0} (xs : List X) → BeginsWith xs xs
begins_itself xs = ([], sym (append-nil xs))

pub begins_same : {X : Type 0} (xs ys : List X) → ys ≡ xs → BeginsWith xs ys
begins_same {X} xs ys e = let P : List X → Type 0 = BeginsWith xs in subst P (sym e) (begins_itself xs)

pub grown_itself : (s t : CloudState) → t.versions ≡ s.versions → t.messages ≡ s.messages → t.trace ≡ s.trace → t.now ≡ s.now → HasGrown s t
grown_itself s t v m r n = record {
  versions = λ name. begins_same _ _ (ap (λ (f : ObjName → List Version). f name) v);
  messages = λ queue. begins_same _ _ (ap (λ (f : QueueName → List Posted). posts_of (f queue)) m);
  trace = begins_same _ _ r;
  later = omega arith;
}

stored_grown : (who : Caller) (name : ObjName) (bytes : Option (List ℕ)) (s : CloudState) → HasGrown s (stored who name bytes s)
stored_grown who name bytes s = record {
  versions = put_at_by (λ q v. BeginsWith (s.versions q) v) object_cmp object_cmp-equal s.versions name _ (_ ∷ [], refl) (λ q. begins_itself (s.versions q));
  messages = λ queue. begins_itself (posts_of (s.messages queue));
  trace = (_ ∷ [], refl);
  later = omega arith;
}

-- nothing that landed is lost
pub effect_grown : (who : Caller) (ask : Ask) (s : CloudState) → HasGrown s (effect who ask s)
effect_grown who (Get name) s = grown_itself s s refl refl refl refl
effect_grown who (GetHeld name l) s = grown_itself s s refl refl refl refl
effect_grown who (PutHeld name bytes one two) s = stored_grown who name (Some bytes) s
effect_grown who (ListHeld tree l) s = grown_itself s s refl refl refl refl
effect_grown who (RemoveHeld name l) s = stored_grown who name None s
effect_grown who (Send queue bytes) s = record {
  versions = λ name. begins_itself (s.versions name);
  messages = put_at_by (λ q v. BeginsWith (posts_of (s.messages q)) (posts_of v)) queue_cmp queue_cmp-equal s.messages queue _ (_ ∷ [], map-append _ (s.messages queue) _) (λ q. begins_itself (posts_of (s.messages q)));
  trace = (_ ∷ [], refl);
  later = omega arith;
}
effect_grown who (Receive queue most) s = grown_itself s s refl refl refl refl
effect_grown who (Delete queue id) s = record {
  versions = λ name. begins_itself (s.versions name);
  messages = put_at_by (λ q v. BeginsWith (posts_of (s.messages q)) (posts_of v)) queue_cmp queue_cmp-equal s.messages queue _ (begins_same _ _ (posts_of-marked (s.messages queue) id)) (λ q. begins_itself (posts_of (s.messages q)));
  trace = begins_itself s.trace;
  later = omega arith;
}
effect_grown who (Take lock ticks) s = grown_itself s (taken lock ticks s) refl refl refl refl
effect_grown who (Renew l ticks) s =
    moved_by (HasGrown s) l (end_after s.now ticks) s (grown_itself s (held_so l.lock (record { generation = l.generation; until = end_after s.now ticks }) s) refl refl refl refl) (grown_itself s s refl refl refl refl)
effect_grown who (Release l) s =
    released_by (HasGrown s) l s (grown_itself s (held_so l.lock (record { generation = l.generation; until = s.now }) s) refl refl refl refl) (grown_itself s s refl refl refl refl)
