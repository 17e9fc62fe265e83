-- A call touches only what its session's leases guard, so what another session's lasting lease guards is untouched.
use Rattle.std.proofs.Common.{◌≡◌, ◌≢◌, ◌+◌, ◌≤◌, ◌⊎◌, inl, inr, ℕ, Bool, true, false, cond, nat_lt, ◌==◌, List, Option, Some, None, refl, sym, ap, subst, ◌∙◌, arith, IfSome}
use Rattle.std.specs.Prelude.{IsSomeAnd}
use Rattle.std.proofs.lemmas.Bool.{eqb-true, and_parts}
use Rattle.cloud_facts.specs.Words.{ObjName, Lock, Answer, Version, CloudState, called, Caller, Claim, Lasts, Ask, Get, GetHeld, PutHeld, Send, Receive, Delete, Take, Renew, Release}
use Rattle.db_base.specs.declared.names.ObjName.TheVariants as object
use Rattle.cloud_trait.specs.declared.state.Hold.{Hold}
use Rattle.cloud_trait.specs.Ask.{ListHeld, RemoveHeld, Lands, Permits, effect}
use Rattle.cloud_trait.specs.Names.{lock_cmp, object_cmp}
use Rattle.cloud_trait.specs.State.{Counts, end_after, is_current, moved, released, landed, held_so}
use Rattle.cloud_trait.specs.Weather.{counted, Leaves}
use Rattle.cloud_trait.proofs.EffectLemmas.{effect_rest, effect_versions}
use Rattle.cloud_trait.proofs.NameLemmas.{lock_cmp-equal, object_cmp-equal}
use Rattle.cloud_trait.proofs.RowLemmas.{lands_or_not}
use Rattle.cloud_trait.proofs.StateLemmas.{put_at_by}
use Rattle.cloud_facts.specs.Leases.Guards.{guard, IsGuarded, HasLasting, HasCurrent, IsRemovedBy, Allowed}
use Rattle.cloud_facts.specs.Leases.Leases.{Hands, Holds, LeasesHold, Owns}

-- ---- locks

-- how one lock may move, at the clock that the call leaves
abbrev MayMove : Hands → ℕ → ℕ → Lock → Hold → Hold → Type 0
MayMove hands session now k old new = (new ≡ old) ⊎ ((old.until ≤ now) ⊎ HasCurrent hands session k old.generation)

-- the locks after a call that landed
record LocksMay (hands : Hands) (session now : ℕ) (s t : CloudState) : Type 0 where
  generations : (k : Lock) → (s.locks k).generation ≤ (t.locks k).generation
  locks : (k : Lock) → MayMove hands session now k (s.locks k) (t.locks k)

same_locks : (hands : Hands) (session now : ℕ) (s t : CloudState) → t.locks ≡ s.locks → LocksMay hands session now s t
same_locks hands session now s t e = record {
  generations = λ k. let h : t.locks k ≡ s.locks k = ap (λ (f : Lock → Hold). f k) e in omega (arith, ap (λ (x : Hold). x.generation) h);
  locks = λ k. inl (ap (λ (f : Lock → Hold). f k) e);
}

-- one lock stands so now
moved_one : (hands : Hands) (session now : ℕ) (s : CloudState) (k : Lock) (hold : Hold) → (s.locks k).generation ≤ hold.generation
    → (((s.locks k).until ≤ now) ⊎ HasCurrent hands session k (s.locks k).generation) → LocksMay hands session now s (held_so k hold s)
moved_one hands session now s k hold rises why = record {
  generations = put_at_by (λ q h. (s.locks q).generation ≤ h.generation) lock_cmp lock_cmp-equal s.locks k hold rises (λ q. omega arith);
  locks = put_at_by (λ q h. MayMove hands session now q (s.locks q) h) lock_cmp lock_cmp-equal s.locks k hold (inr why) (λ q. inl refl);
}

-- the lock of a lease moves where the lease is of its generation
moved_own : (hands : Hands) (session now : ℕ) (s : CloudState) (l : Claim) (until : ℕ) → Holds hands session l → LocksMay hands session now s (moved l until s)
moved_own hands session now s l until mine = on (is_current l s) refl
  where
    on : (b : Bool) → is_current l s ≡ b → LocksMay hands session now s (cond b (held_so l.lock (record { generation = l.generation; until = until }) s) s)
    on true e =
        let p = and_parts (nat_lt 0 l.generation) ((s.locks l.lock).generation == l.generation) e in
        let g : (s.locks l.lock).generation ≡ l.generation = eqb-true (s.locks l.lock).generation l.generation p.1 in
        moved_one hands session now s l.lock (record { generation = l.generation; until = until }) (omega (arith, g)) (inr (record { lease = l; held = mine; lock = refl; current = sym g }))
    on false e = same_locks hands session now s s refl

released_own : (hands : Hands) (session now : ℕ) (s : CloudState) (l : Claim) → Holds hands session l → LocksMay hands session now s (released l s)
released_own hands session now s l mine = on (nat_lt s.now l.end)
  where
    on : (b : Bool) → LocksMay hands session now s (cond b (moved l s.now s) s)
    on true = moved_own hands session now s l s.now mine
    on false = same_locks hands session now s s refl

-- the locks where the call landed
effect_locks_may : (hands : Hands) (who : Caller) (ask : Ask) (s : CloudState) → Owns hands who.session ask → Permits ask s → LocksMay hands who.session s.now s (effect who ask s)
effect_locks_may hands who (Get name) s owns permits = same_locks hands who.session s.now s s refl
effect_locks_may hands who (GetHeld name l) s owns permits = same_locks hands who.session s.now s s refl
effect_locks_may hands who (PutHeld name bytes one two) s owns permits = same_locks hands who.session s.now s (landed who name bytes s) refl
effect_locks_may hands who (ListHeld tree l) s owns permits = same_locks hands who.session s.now s s refl
effect_locks_may hands who (RemoveHeld name l) s owns permits = same_locks hands who.session s.now s (effect who (RemoveHeld name l) s) refl
effect_locks_may hands who (Send queue bytes) s owns permits = same_locks hands who.session s.now s (effect who (Send queue bytes) s) refl
effect_locks_may hands who (Receive queue most) s owns permits = same_locks hands who.session s.now s s refl
effect_locks_may hands who (Delete queue id) s owns permits = same_locks hands who.session s.now s (effect who (Delete queue id) s) refl
effect_locks_may hands who (Take k ticks) s owns permits =
    moved_one hands who.session s.now s k (record { generation = (s.locks k).generation + 1; until = end_after s.now ticks }) (omega arith) (inl permits)
effect_locks_may hands who (Renew l ticks) s owns permits = moved_own hands who.session s.now s l (end_after s.now ticks) owns
effect_locks_may hands who (Release l) s owns permits = released_own hands who.session s.now s l owns

-- ---- objects

-- one of the leases of a put that landed guards its object
guarding : (hands : Hands) (session now : ℕ) (k : Lock) (one : Claim) (two : Option Claim) → Holds hands session one × IfSome two (Holds hands session)
    → Lasts now one × IfSome two (Lasts now) → (one.lock ≡ k) ⊎ IsSomeAnd two (λ l. l.lock ≡ k) → HasLasting now hands session k
guarding hands session now k one two owns lasts (inl e) = record { lease = one; held = owns.0; lock = e; lasts = lasts.0 }
guarding hands session now k one (Some l) owns lasts (inr e) = record { lease = l; held = owns.1; lock = e; lasts = lasts.1 }
guarding hands session now k one None owns lasts (inr e) = absurd e

abbrev ObjectMay : Hands → ℕ → ℕ → CloudState → ObjName → List Version → Type 0
ObjectMay hands session now s name vs = (vs ≡ s.versions name) ⊎ (HasLasting now hands session (guard s name) ⊎ IsRemovedBy hands session now name (s.versions name) vs)

effect_objects : (hands : Hands) (who : Caller) (ask : Ask) (s : CloudState) → Owns hands who.session ask → IsGuarded s s.now ask → Permits ask s
    → (name : ObjName) → ObjectMay hands who.session s.now s name ((effect who ask s).versions name)
effect_objects hands who (PutHeld name bytes one two) s owns guarded permits q =
    put_at_by (λ q vs. ObjectMay hands who.session s.now s q vs) object_cmp object_cmp-equal s.versions name _
    (inr (inl (guarding hands who.session s.now (guard s name) one two owns permits (guarded permits)))) (λ r. inl refl) q
effect_objects hands who (Get name) s owns guarded permits q = inl refl
effect_objects hands who (GetHeld name l) s owns guarded permits q = inl refl
effect_objects hands who (ListHeld tree l) s owns guarded permits q = inl refl
effect_objects hands who (RemoveHeld (object.Head client) l) s owns guarded permits q = absurd guarded
effect_objects hands who (RemoveHeld (object.Tree tree) l) s owns guarded permits q = absurd guarded
effect_objects hands who (RemoveHeld (object.Page tree page) l) s owns guarded permits q =
    put_at_by (λ q vs. ObjectMay hands who.session s.now s q vs) object_cmp object_cmp-equal s.versions (object.Page tree page) _
    (inr (inr (record {
      tree = tree;
      page = page;
      name_is = refl;
      removal = record { who = who; bytes = None };
      none = refl;
      versions = refl;
      lasting = record { lease = l; held = owns; lock = guarded permits; lasts = permits };
    }))) (λ r. inl refl) q
effect_objects hands who (Send queue bytes) s owns guarded permits q = inl refl
effect_objects hands who (Receive queue most) s owns guarded permits q = inl refl
effect_objects hands who (Delete queue id) s owns guarded permits q = inl refl
effect_objects hands who (Take k ticks) s owns guarded permits q = inl refl
effect_objects hands who (Renew l ticks) s owns guarded permits q =
    inl (ap (λ (f : ObjName → List Version). f q) (effect_versions who (Renew l ticks) s tt))
effect_objects hands who (Release l) s owns guarded permits q =
    inl (ap (λ (f : ObjName → List Version). f q) (effect_versions who (Release l) s tt))

-- ---- a call

-- nothing but the clock, the wish and the newest call
still_allowed : (who : Caller) (s : CloudState) (now : ℕ) (hands : Hands) → s.now ≤ now → Allowed hands who.session s (called who now s)
still_allowed who s now hands later = record { later = later; generations = λ k. omega arith; locks = λ k. inl refl; objects = λ name. inl refl }

landed_allowed : (who : Caller) (ask : Ask) (s : CloudState) (now : ℕ) (hands : Hands) → s.now ≤ now → Owns hands who.session ask → IsGuarded s now ask
    → Permits ask (called who now s) → Allowed hands who.session s (effect who ask (called who now s))
landed_allowed who ask s now hands later owns guarded permits =
    let e : (effect who ask (called who now s)).now ≡ now = (effect_rest who ask (called who now s)).now in
    let may = effect_locks_may hands who ask (called who now s) owns permits in
    let objects = effect_objects hands who ask (called who now s) owns guarded permits in
    record {
      later = subst (λ n. s.now ≤ n) (sym e) later;
      generations = may.generations;
      locks = λ k. subst (λ n. MayMove hands who.session n k (s.locks k) ((effect who ask (called who now s)).locks k)) (sym e) (may.locks k);
      objects = λ name. subst (λ n. ObjectMay hands who.session n s name ((effect who ask (called who now s)).versions name)) (sym e) (objects name);
    }

-- a call does only what it may, where its leases are the session's own and guard what it puts or removes
pub call_is_allowed : (who : Caller) (ask : Ask) (a : Answer) (c d : Counts) (s : CloudState) (new : Option CloudState) (l : Leaves who ask a (counted c s) d new) (hands : Hands)
    → Owns hands who.session ask → IsGuarded s l.after.now ask → Allowed hands who.session s l.after
call_is_allowed who ask a c d s new l hands owns guarded = on (lands_or_not who ask a c d (called who l.after.now s) l.after l.row)
  where
    on : (l.after ≡ called who l.after.now s) ⊎ Lands who ask (called who l.after.now s) l.after → Allowed hands who.session s l.after
    on (inl e) = subst (λ (t : CloudState). Allowed hands who.session s t) (sym e) (still_allowed who s l.after.now hands l.later)
    on (inr lands) = subst (λ (t : CloudState). Allowed hands who.session s t) (sym lands.0) (landed_allowed who ask s l.after.now hands l.later owns guarded lands.1)

-- ---- what another session's lasting lease guards

-- two sessions have no lasting lease of one lock
pub lasting_apart : (now : ℕ) (locks : Lock → Hold) (hands : Hands) (s u : ℕ) (k : Lock) → LeasesHold now locks hands → s ≢ u
    → HasLasting now hands s k → HasCurrent hands u k (locks k).generation → ⊥
lasting_apart now locks hands s u k h ne a b =
    h.apart s u a.lease b.lease ne a.held b.held (record {
      lock = a.lock ∙ sym b.lock;
      generation = (h.each s a.lease a.held).lasting a.lasts ∙ (ap (λ q. (locks q).generation) a.lock ∙ sym b.current);
    })

lasting_earlier : (now later : ℕ) (hands : Hands) (u : ℕ) (k : Lock) → now ≤ later → HasLasting later hands u k → HasLasting now hands u k
lasting_earlier now later hands u k after h = record { lease = h.lease; held = h.held; lock = h.lock; lasts = omega (arith, h.lasts, after) }

lasting_current : (now : ℕ) (locks : Lock → Hold) (hands : Hands) (u : ℕ) (k : Lock) → LeasesHold now locks hands → HasLasting now hands u k → HasCurrent hands u k (locks k).generation
lasting_current now locks hands u k h a = record {
  lease = a.lease;
  held = a.held;
  lock = a.lock;
  current = (h.each u a.lease a.held).lasting a.lasts ∙ ap (λ q. (locks q).generation) a.lock;
}

-- a lock of which another session has a lease that still lasts stays as it is
pub lock_stays : (s t : CloudState) (hands : Hands) (actor u : ℕ) (k : Lock) → LeasesHold s.now s.locks hands → Allowed hands actor s t → u ≢ actor
    → HasLasting t.now hands u k → t.locks k ≡ s.locks k
lock_stays s t hands actor u k h may ne lasting = on (may.locks k)
  where
    before : HasLasting s.now hands u k
    before = lasting_earlier s.now t.now hands u k may.later lasting

    on : (t.locks k ≡ s.locks k) ⊎ (((s.locks k).until ≤ t.now) ⊎ HasCurrent hands actor k (s.locks k).generation) → t.locks k ≡ s.locks k
    on (inl e) = e
    on (inr (inl over)) = absurd (never over)
      where
        never : (s.locks k).until ≤ t.now → ⊥
        never o =
            let early : Lasts s.now lasting.lease = omega (arith, lasting.lasts, may.later) in
            let e : lasting.lease.end ≤ (s.locks lasting.lease.lock).until = (h.each u lasting.lease lasting.held).ends ((h.each u lasting.lease lasting.held).lasting early) in
            let f : (s.locks lasting.lease.lock).until ≡ (s.locks k).until = ap (λ q. (s.locks q).until) lasting.lock in
            omega (arith, e, f, lasting.lasts, o)
    on (inr (inr mine)) = absurd (lasting_apart s.now s.locks hands u actor k h ne before mine)

-- an object that a lasting lease of another session guards is untouched, or it is a page that is removed
pub guarded_stays : (s t : CloudState) (hands : Hands) (actor u : ℕ) (name : ObjName) → LeasesHold s.now s.locks hands → Allowed hands actor s t → u ≢ actor
    → HasLasting t.now hands u (guard s name) → (t.versions name ≡ s.versions name) ⊎ IsRemovedBy hands actor t.now name (s.versions name) (t.versions name)
guarded_stays s t hands actor u name h may ne lasting = on (may.objects name)
  where
    on : (t.versions name ≡ s.versions name) ⊎ (HasLasting t.now hands actor (guard s name) ⊎ IsRemovedBy hands actor t.now name (s.versions name) (t.versions name))
        → (t.versions name ≡ s.versions name) ⊎ IsRemovedBy hands actor t.now name (s.versions name) (t.versions name)
    on (inl e) = inl e
    on (inr (inl mine)) =
        absurd (lasting_apart s.now s.locks hands u actor (guard s name) h ne (lasting_earlier s.now t.now hands u (guard s name) may.later lasting)
        (lasting_current s.now s.locks hands actor (guard s name) h (lasting_earlier s.now t.now hands actor (guard s name) may.later mine)))
    on (inr (inr removed)) = inr removed
