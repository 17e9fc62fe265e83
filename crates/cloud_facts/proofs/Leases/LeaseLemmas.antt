-- Every call keeps what holds of the leases in hand.
use Rattle.std.proofs.Common.{◌≡◌, ◌≢◌, ◌+◌, ◌<◌, ◌≤◌, ◌⊎◌, inl, inr, ℕ, Bool, true, false, cond, nat_lt, ◌==◌, [], Option, Some, refl, sym, ap, subst, ◌∙◌, arith}
use Rattle.std.proofs.lemmas.Bool.{cases_eq, lt-ltb, eq-eqb, and_from, ltb-true}
use Rattle.std.specs.Prelude.{slice_get}
use Rattle.cloud_facts.specs.Words.{Lock, Answer, CloudState, called, Caller, Claim, Lasts, Ask, Get, GetHeld, PutHeld, Send, Receive, Delete, Take, Renew, Release}
use Rattle.cloud_trait.specs.declared.answer.Answer.TheVariants as answer
use Rattle.cloud_trait.specs.declared.state.Hold.{Hold}
use Rattle.cloud_trait.specs.Ask.{ListHeld, RemoveHeld, Lands}
use Rattle.cloud_trait.specs.Claim.{extended}
use Rattle.cloud_trait.specs.Names.{lock_cmp}
use Rattle.cloud_trait.specs.State.{Counts, put_at, end_after, lease_given, is_current, moved, released, held_so}
use Rattle.cloud_trait.specs.Weather.{counted, Weather, Leaves, RenewsBoth}
use Rattle.cloud_trait.proofs.EffectLemmas.{effect_rest}
use Rattle.cloud_trait.proofs.NameLemmas.{lock_cmp-equal, lock_cmp-total}
use Rattle.cloud_trait.proofs.RowLemmas.{lands_or_not, row_rest, row_locks}
use Rattle.cloud_trait.proofs.StateLemmas.{put_at_by, put_at_same}
use Rattle.cloud_facts.specs.Leases.Leases.{Hands, Holds, AreOne, Stands, LeasesHold, Owns, HandsAfter, RenewedTo}

-- ---- the beginning

abbrev no_leases : Hands
no_leases session = []

-- ---- time goes on, and leases are dropped

stands_later : (now later : ℕ) (h : Hold) (l : Claim) → now ≤ later → Stands now h l → Stands later h l
stands_later now later h l after s = record { given = s.given; within = s.within; lasting = λ lasts. s.lasting (omega (arith, lasts, after)); ends = s.ends }

pub later_keeps : (now later : ℕ) (locks : Lock → Hold) (hands : Hands) → now ≤ later → LeasesHold now locks hands → LeasesHold later locks hands
later_keeps now later locks hands after h = record { each = λ s l holds. stands_later now later (locks l.lock) l after (h.each s l holds); apart = h.apart }

-- what is dropped is not in hand any more, as by a crash
pub fewer_keeps : (now : ℕ) (locks : Lock → Hold) (hands fewer : Hands) → ((s : ℕ) (l : Claim) → Holds fewer s l → Holds hands s l)
    → LeasesHold now locks hands → LeasesHold now locks fewer
fewer_keeps now locks hands fewer was h = record {
  each = λ s l holds. h.each s l (was s l holds);
  apart = λ s u l m ne one two. h.apart s u l m ne (was s l one) (was u m two);
}

-- ---- one lock moves

-- a lease that was in hand, at the locks of which one stands so now
stands_moved : (now : ℕ) (locks : Lock → Hold) (k : Lock) (hold : Hold) (l : Claim) → (l.lock ≡ k → Stands now hold l) → Stands now (locks l.lock) l
    → Stands now (put_at lock_cmp locks k hold l.lock) l
stands_moved now locks k hold l here old =
    put_at_by (λ q v. l.lock ≡ q → Stands now v l) lock_cmp lock_cmp-equal locks k hold here (λ q e. subst (λ r. Stands now (locks r) l) e old) l.lock refl

-- a lease of the lock that moved
stands_here : (now : ℕ) (locks : Lock → Hold) (k : Lock) (hold : Hold) (l : Claim) → l.lock ≡ k → Stands now hold l → Stands now (put_at lock_cmp locks k hold l.lock) l
stands_here now locks k hold l e st =
    let at_k : put_at lock_cmp locks k hold k ≡ hold = put_at_same lock_cmp lock_cmp-total locks k hold in
    subst (λ h. Stands now h l) (sym (ap (λ q. put_at lock_cmp locks k hold q) e ∙ at_k)) st

-- a lease of a generation before the lock's, after which the lock stands so
stands_past : (now : ℕ) (old hold : Hold) (l : Claim) → Stands now old l → old.generation ≤ hold.generation → l.generation < hold.generation
    → (Lasts now l → ⊥) → Stands now hold l
stands_past now old hold l s grown below over = record {
  given = s.given;
  within = omega (arith, below);
  lasting = λ lasts. absurd (over lasts);
  ends = λ e. absurd (never e);
}
  where
    never : l.generation ≡ hold.generation → ⊥
    never e = omega (arith, e, below)

-- ---- a take

-- a lease on a lock that is over does not last
over_lease : (now : ℕ) (h : Hold) (l : Claim) → Stands now h l → h.until ≤ now → Lasts now l → ⊥
over_lease now h l s over lasts = let e : l.end ≤ h.until = s.ends (s.lasting lasts) in omega (arith, e, over, lasts)

-- a lease on a lock that is taken anew
stands_taken : (now : ℕ) (h : Hold) (until : ℕ) (l : Claim) → Stands now h l → h.until ≤ now → Stands now (record { generation = h.generation + 1; until = until }) l
stands_taken now h until l s over =
    stands_past now h (record { generation = h.generation + 1; until = until }) l s (omega arith) (omega (arith, s.within)) (over_lease now h l s over)

-- the lock of the lease
at_lock : (now : ℕ) (locks : Lock → Hold) (k : Lock) (l : Claim) → l.lock ≡ k → Stands now (locks l.lock) l → Stands now (locks k) l
at_lock now locks k l e s = subst (λ q. Stands now (locks q) l) e s

-- the locks after a take
abbrev taken_locks : (Lock → Hold) → Lock → ℕ → Lock → Hold
taken_locks locks k until = put_at lock_cmp locks k (record { generation = (locks k).generation + 1; until = until })

take_old : (now : ℕ) (locks : Lock → Hold) (hands : Hands) (k : Lock) (until : ℕ) → LeasesHold now locks hands → (locks k).until ≤ now
    → (s : ℕ) (l : Claim) → Holds hands s l → Stands now (taken_locks locks k until l.lock) l
take_old now locks hands k until h over s l holds =
    let old : Stands now (locks l.lock) l = h.each s l holds in
    stands_moved now locks k (record { generation = (locks k).generation + 1; until = until }) l
    (λ e. stands_taken now (locks k) until l (at_lock now locks k l e old) over) old

-- a lock that was over is taken, and its lease may be in the session's hand
pub take_keeps : (now : ℕ) (locks : Lock → Hold) (hands after : Hands) (session : ℕ) (k : Lock) (until : ℕ) (new : Claim)
    → new ≡ record { lock = k; generation = (locks k).generation + 1; end = until } → (locks k).until ≤ now
    → ((s : ℕ) (l : Claim) → Holds after s l → Holds hands s l ⊎ ((s ≡ session) × (l ≡ new)))
    → LeasesHold now locks hands → LeasesHold now (taken_locks locks k until) after
take_keeps now locks hands after session k until new is over was h = record {
  each = λ s l holds. on s l (was s l holds);
  apart = λ s u l m ne one two. both s u l m ne (was s l one) (was u m two);
}
  where
    hold : Hold
    hold = record { generation = (locks k).generation + 1; until = until }

    fresh : Stands now (taken_locks locks k until k) (record { lock = k; generation = (locks k).generation + 1; end = until })
    fresh = stands_here now locks k (record { generation = (locks k).generation + 1; until = until }) (record { lock = k; generation = (locks k).generation + 1; end = until }) refl (record {
      given = omega arith;
      within = omega arith;
      lasting = λ lasts. refl;
      ends = λ e. omega arith;
    })

    on : (s : ℕ) (l : Claim) → Holds hands s l ⊎ ((s ≡ session) × (l ≡ new)) → Stands now (taken_locks locks k until l.lock) l
    on s l (inl old) = take_old now locks hands k until h over s l old
    on s l (inr p) = subst (λ (x : Claim). Stands now (taken_locks locks k until x.lock) x) (sym (p.1 ∙ is)) fresh

    -- a lease that was in hand is of an earlier generation
    earlier : (s : ℕ) (l m : Claim) → Holds hands s l → m ≡ new → AreOne l m → ⊥
    earlier s l m old e one =
        let lock_is : l.lock ≡ k = one.lock ∙ ap (λ (x : Claim). x.lock) (e ∙ is) in
        let generation_is : l.generation ≡ (locks k).generation + 1 = one.generation ∙ ap (λ (x : Claim). x.generation) (e ∙ is) in
        let within : l.generation ≤ (locks k).generation = (at_lock now locks k l lock_is (h.each s l old)).within in
        omega (arith, generation_is, within)

    both : (s u : ℕ) (l m : Claim) → s ≢ u → Holds hands s l ⊎ ((s ≡ session) × (l ≡ new)) → Holds hands u m ⊎ ((u ≡ session) × (m ≡ new)) → AreOne l m → ⊥
    both s u l m ne (inl a) (inl b) one = h.apart s u l m ne a b one
    both s u l m ne (inl a) (inr b) one = earlier s l m a b.1 one
    both s u l m ne (inr a) (inl b) one = earlier u m l b a.1 (record { lock = sym one.lock; generation = sym one.generation })
    both s u l m ne (inr a) (inr b) one = ne (a.0 ∙ sym b.0)

-- ---- a lock moves under a lease of its own generation that is in hand

-- another lease is not of that generation, and so does not last
stands_beside : (now : ℕ) (h : Hold) (until : ℕ) (l : Claim) → Stands now h l → l.generation ≢ h.generation → Stands now (record { generation = h.generation; until = until }) l
stands_beside now h until l s other = record {
  given = s.given;
  within = s.within;
  lasting = s.lasting;
  ends = λ e. absurd (other e);
}

abbrev moved_locks : (Lock → Hold) → Lock → ℕ → Lock → Hold
moved_locks locks k until = put_at lock_cmp locks k (record { generation = (locks k).generation; until = until })

-- the lock of a session's lease has another end; of the leases of that lock and generation, only one with that end is in hand after it
pub move_keeps : (now : ℕ) (locks : Lock → Hold) (hands after : Hands) (session : ℕ) (l new : Claim) (until : ℕ)
    → Holds hands session l → l.generation ≡ (locks l.lock).generation → new ≡ extended l until
    → ((s : ℕ) (x : Claim) → Holds after s x → (Holds hands s x × (s ≡ session → AreOne l x → ⊥)) ⊎ ((s ≡ session) × (x ≡ new)))
    → LeasesHold now locks hands → LeasesHold now (moved_locks locks l.lock until) after
move_keeps now locks hands after session l new until mine current is was h = record {
  each = λ s x holds. on s x (was s x holds);
  apart = λ s u x y ne one two. both s u x y ne (was s x one) (was u y two);
}
  where
    -- none of the leases that stay is of that generation
    never : (s : ℕ) (x : Claim) → Holds hands s x → (s ≡ session → AreOne l x → ⊥) → ((s ≡ session) ⊎ (s ≢ session)) → AreOne l x → ⊥
    never s x old ne (inl e) one = ne e one
    never s x old ne (inr e) one = h.apart session s l x (λ k. e (sym k)) mine old one

    beside : (s : ℕ) (x : Claim) → Holds hands s x → (s ≡ session → AreOne l x → ⊥) → x.lock ≡ l.lock → x.generation ≢ (locks l.lock).generation
    beside s x old ne e g = never s x old ne (cases_eq s session) (record { lock = sym e; generation = current ∙ sym g })

    fresh : Stands now (moved_locks locks l.lock until l.lock) (extended l until)
    fresh = stands_here now locks l.lock (record { generation = (locks l.lock).generation; until = until }) (extended l until) refl (record {
      given = (h.each session l mine).given;
      within = (h.each session l mine).within;
      lasting = λ lasts. current;
      ends = λ e. omega arith;
    })

    on : (s : ℕ) (x : Claim) → (Holds hands s x × (s ≡ session → AreOne l x → ⊥)) ⊎ ((s ≡ session) × (x ≡ new)) → Stands now (moved_locks locks l.lock until x.lock) x
    on s x (inl p) =
        let old : Stands now (locks x.lock) x = h.each s x p.0 in
        stands_moved now locks l.lock (record { generation = (locks l.lock).generation; until = until }) x
        (λ e. stands_beside now (locks l.lock) until x (at_lock now locks l.lock x e old) (beside s x p.0 p.1 e)) old
    on s x (inr p) = subst (λ (y : Claim). Stands now (moved_locks locks l.lock until y.lock) y) (sym (p.1 ∙ is)) fresh

    with_new : (s : ℕ) (x y : Claim) → s ≢ session → Holds hands s x → y ≡ new → AreOne x y → ⊥
    with_new s x y ne old e one =
        h.apart s session x l ne old mine (record { lock = one.lock ∙ ap (λ (z : Claim). z.lock) (e ∙ is); generation = one.generation ∙ ap (λ (z : Claim). z.generation) (e ∙ is) })

    both : (s u : ℕ) (x y : Claim) → s ≢ u → (Holds hands s x × (s ≡ session → AreOne l x → ⊥)) ⊎ ((s ≡ session) × (x ≡ new))
        → (Holds hands u y × (u ≡ session → AreOne l y → ⊥)) ⊎ ((u ≡ session) × (y ≡ new)) → AreOne x y → ⊥
    both s u x y ne (inl a) (inl b) one = h.apart s u x y ne a.0 b.0 one
    both s u x y ne (inl a) (inr b) one = with_new s x y (λ e. ne (e ∙ sym b.0)) a.0 b.1 one
    both s u x y ne (inr a) (inl b) one = with_new u y x (λ e. ne (a.0 ∙ sym e)) b.0 a.1 (record { lock = sym one.lock; generation = sym one.generation })
    both s u x y ne (inr a) (inr b) one = ne (a.0 ∙ sym b.0)

-- ---- a call

-- the leases of a session after a call that gave it none are among those before it
fewer_of : (hands after : Hands) (session : ℕ) → ((other : ℕ) → other ≢ session → after other ≡ hands other)
    → ((x : Claim) → Holds after session x → Holds hands session x) → (s : ℕ) (x : Claim) → Holds after s x → Holds hands s x
fewer_of hands after session others own s x holds = on (cases_eq s session)
  where
    on : (s ≡ session) ⊎ (s ≢ session) → Holds hands s x
    on (inl e) = subst (λ k. Holds hands k x) (sym e) (own x (subst (λ k. Holds after k x) e holds))
    on (inr ne) = (holds.0, subst (λ ls. slice_get ls holds.0 ≡ Some x) (others s ne) holds.1)

-- those after one that may have given it one
gained_of : (hands after : Hands) (session : ℕ) (new : Claim) → ((other : ℕ) → other ≢ session → after other ≡ hands other)
    → ((x : Claim) → Holds after session x → Holds hands session x ⊎ (x ≡ new)) → (s : ℕ) (x : Claim) → Holds after s x → Holds hands s x ⊎ ((s ≡ session) × (x ≡ new))
gained_of hands after session new others own s x holds = on (cases_eq s session)
  where
    mine : (s ≡ session) → Holds hands session x ⊎ (x ≡ new) → Holds hands s x ⊎ ((s ≡ session) × (x ≡ new))
    mine e (inl old) = inl (subst (λ k. Holds hands k x) (sym e) old)
    mine e (inr is) = inr (e, is)

    on : (s ≡ session) ⊎ (s ≢ session) → Holds hands s x ⊎ ((s ≡ session) × (x ≡ new))
    on (inl e) = mine e (own x (subst (λ k. Holds after k x) e holds))
    on (inr ne) = inl (holds.0, subst (λ ls. slice_get ls holds.0 ≡ Some x) (others s ne) holds.1)

-- those after one that took one away, and may have given another in its place
replaced_of : (hands after : Hands) (session : ℕ) (l new : Claim) → ((other : ℕ) → other ≢ session → after other ≡ hands other)
    → ((x : Claim) → Holds after session x → (Holds hands session x × (AreOne l x → ⊥)) ⊎ (x ≡ new))
    → (s : ℕ) (x : Claim) → Holds after s x → (Holds hands s x × (s ≡ session → AreOne l x → ⊥)) ⊎ ((s ≡ session) × (x ≡ new))
replaced_of hands after session l new others own s x holds = on (cases_eq s session)
  where
    mine : (s ≡ session) → (Holds hands session x × (AreOne l x → ⊥)) ⊎ (x ≡ new) → (Holds hands s x × (s ≡ session → AreOne l x → ⊥)) ⊎ ((s ≡ session) × (x ≡ new))
    mine e (inl p) = inl (subst (λ k. Holds hands k x) (sym e) p.0, λ k. p.1)
    mine e (inr is) = inr (e, is)

    on : (s ≡ session) ⊎ (s ≢ session) → (Holds hands s x × (s ≡ session → AreOne l x → ⊥)) ⊎ ((s ≡ session) × (x ≡ new))
    on (inl e) = mine e (own x (subst (λ k. Holds after k x) e holds))
    on (inr ne) = inl ((holds.0, subst (λ ls. slice_get ls holds.0 ≡ Some x) (others s ne) holds.1), λ k. absurd (ne k))

-- a lease that lasts is of its lock's own generation, as the cloud tells it
current_of : (l : Claim) (s : CloudState) → Stands s.now (s.locks l.lock) l → Lasts s.now l → is_current l s ≡ true
current_of l s st lasts =
    and_from (nat_lt 0 l.generation) ((s.locks l.lock).generation == l.generation) (lt-ltb 0 l.generation st.given)
    (eq-eqb (s.locks l.lock).generation l.generation (sym (st.lasting lasts)))

-- the lock of a lease that lasts moves
moved_is : (l : Claim) (until : ℕ) (s : CloudState) → Stands s.now (s.locks l.lock) l → Lasts s.now l → (moved l until s).locks ≡ moved_locks s.locks l.lock until
moved_is l until s st lasts = on (is_current l s) (current_of l s st lasts)
  where
    on : (b : Bool) → b ≡ true → (cond b (held_so l.lock (record { generation = l.generation; until = until }) s) s).locks ≡ moved_locks s.locks l.lock until
    on true e = ap (λ g. put_at lock_cmp s.locks l.lock (record { generation = g; until = until })) (st.lasting lasts)
    on false e = absurd (cc)

-- nothing is known but that the call gave no lease and moved no lock
still : (b t : CloudState) (hands after : Hands) (session : ℕ) → t.now ≡ b.now → t.locks ≡ b.locks → ((other : ℕ) → other ≢ session → after other ≡ hands other)
    → ((x : Claim) → Holds after session x → Holds hands session x) → LeasesHold b.now b.locks hands → LeasesHold t.now t.locks after
still b t hands after session now locks others own h =
    subst (λ n. LeasesHold n t.locks after) (sym now) (subst (λ (ks : Lock → Hold). LeasesHold b.now ks after) (sym locks)
    (fewer_keeps b.now b.locks hands after (fewer_of hands after session others own) h))

-- a take that landed
take_landed : (who : Caller) (k : Lock) (ticks : ℕ) (b t : CloudState) (hands after : Hands) → Lands who (Take k ticks) b t
    → ((other : ℕ) → other ≢ who.session → after other ≡ hands other) → ((x : Claim) → Holds after who.session x → Holds hands who.session x ⊎ (x ≡ lease_given k ticks b))
    → LeasesHold b.now b.locks hands → LeasesHold t.now t.locks after
take_landed who k ticks b t hands after l others own h =
    subst (λ (s : CloudState). LeasesHold s.now s.locks after) (sym l.0)
    (take_keeps b.now b.locks hands after who.session k (end_after b.now ticks) (lease_given k ticks b) refl l.1 (gained_of hands after who.session (lease_given k ticks b) others own) h)

-- one that gave no lease
take_failed : (who : Caller) (k : Lock) (ticks : ℕ) (b t : CloudState) (hands after : Hands) → (t ≡ b) ⊎ Lands who (Take k ticks) b t
    → ((other : ℕ) → other ≢ who.session → after other ≡ hands other) → ((x : Claim) → Holds after who.session x → Holds hands who.session x)
    → LeasesHold b.now b.locks hands → LeasesHold t.now t.locks after
take_failed who k ticks b t hands after (inl e) others own h =
    still b t hands after who.session (ap (λ (s : CloudState). s.now) e) (ap (λ (s : CloudState). s.locks) e) others own h
take_failed who k ticks b t hands after (inr l) others own h = take_landed who k ticks b t hands after l others (λ x holds. inl (own x holds)) h

-- a renewal: lease and lock are as they were, or both moved
renew_call : (who : Caller) (l : Claim) (ticks : ℕ) (m : Claim) (b t : CloudState) (hands after : Hands) → Holds hands who.session l → RenewsBoth who ticks l m b t
    → ((other : ℕ) → other ≢ who.session → after other ≡ hands other)
    → ((x : Claim) → Holds after who.session x → (Holds hands who.session x × (AreOne l x → ⊥)) ⊎ (x ≡ m))
    → LeasesHold b.now b.locks hands → LeasesHold t.now t.locks after
renew_call who l ticks m b t hands after mine (inl same) others own h =
    still b t hands after who.session (ap (λ (s : CloudState). s.now) same.0) (ap (λ (s : CloudState). s.locks) same.0) others (λ x holds. old x (own x holds)) h
  where
    old : (x : Claim) → (Holds hands who.session x × (AreOne l x → ⊥)) ⊎ (x ≡ m) → Holds hands who.session x
    old x (inl p) = p.0
    old x (inr e) = subst (λ y. Holds hands who.session y) (sym (e ∙ same.1)) mine
renew_call who l ticks m b t hands after mine (inr both) others own h =
    let st : Stands b.now (b.locks l.lock) l = h.each who.session l mine in
    let lasts : Lasts b.now l = both.0.1 in
    let moves : LeasesHold b.now (moved_locks b.locks l.lock (end_after b.now ticks)) after =
    move_keeps b.now b.locks hands after who.session l m (end_after b.now ticks) mine (st.lasting lasts) both.1 (replaced_of hands after who.session l m others own) h in
    let now : t.now ≡ b.now = ap (λ (s : CloudState). s.now) both.0.0 ∙ (effect_rest who (Renew l ticks) b).now in
    let locks : t.locks ≡ moved_locks b.locks l.lock (end_after b.now ticks) = ap (λ (s : CloudState). s.locks) both.0.0 ∙ moved_is l (end_after b.now ticks) b st lasts in
    subst (λ n. LeasesHold n t.locks after) (sym now) (subst (λ (ks : Lock → Hold). LeasesHold b.now ks after) (sym locks) moves)

-- a release that landed: the lock ends now where the lease lasts
release_landed : (who : Caller) (l : Claim) (b : CloudState) (hands after : Hands) → Holds hands who.session l
    → ((other : ℕ) → other ≢ who.session → after other ≡ hands other) → ((x : Claim) → Holds after who.session x → Holds hands who.session x × (AreOne l x → ⊥))
    → LeasesHold b.now b.locks hands → LeasesHold b.now (released l b).locks after
release_landed who l b hands after mine others own h = on (nat_lt b.now l.end) refl
  where
    st : Stands b.now (b.locks l.lock) l
    st = h.each who.session l mine

    on : (c : Bool) → nat_lt b.now l.end ≡ c → LeasesHold b.now (cond c (moved l b.now b) b).locks after
    on true e =
        subst (λ (ks : Lock → Hold). LeasesHold b.now ks after) (sym (moved_is l b.now b st (ltb-true b.now l.end e)))
        (move_keeps b.now b.locks hands after who.session l (extended l b.now) b.now mine (st.lasting (ltb-true b.now l.end e)) refl
        (replaced_of hands after who.session l (extended l b.now) others (λ x holds. inl (own x holds))) h)
    on false e = fewer_keeps b.now b.locks hands after (fewer_of hands after who.session others (λ x holds. (own x holds).0)) h

release_call : (who : Caller) (l : Claim) (b t : CloudState) (hands after : Hands) → (t ≡ b) ⊎ Lands who (Release l) b t → Holds hands who.session l
    → ((other : ℕ) → other ≢ who.session → after other ≡ hands other) → ((x : Claim) → Holds after who.session x → Holds hands who.session x × (AreOne l x → ⊥))
    → LeasesHold b.now b.locks hands → LeasesHold t.now t.locks after
release_call who l b t hands after (inl e) mine others own h =
    still b t hands after who.session (ap (λ (s : CloudState). s.now) e) (ap (λ (s : CloudState). s.locks) e) others (λ x holds. (own x holds).0) h
release_call who l b t hands after (inr lands) mine others own h =
    let now : t.now ≡ b.now = ap (λ (s : CloudState). s.now) lands.0 ∙ (effect_rest who (Release l) b).now in
    subst (λ n. LeasesHold n t.locks after) (sym now)
    (subst (λ (s : CloudState). LeasesHold b.now s.locks after) (sym lands.0) (release_landed who l b hands after mine others own h))

-- what a session has after a call that gives no lease
old_only : (hands : Hands) (session : ℕ) (P : Type 0) (x : Claim) → (Holds hands session x × P) ⊎ ⊥ → Holds hands session x
old_only hands session P x (inl p) = p.0
old_only hands session P x (inr never) = absurd never

old_apart : (hands : Hands) (session : ℕ) (P : Type 0) (x : Claim) → (Holds hands session x × P) ⊎ ⊥ → Holds hands session x × P
old_apart hands session P x (inl p) = p
old_apart hands session P x (inr never) = absurd never

old_or : (hands : Hands) (session : ℕ) (x new : Claim) → (Holds hands session x × Unit {0}) ⊎ (x ≡ new) → Holds hands session x ⊎ (x ≡ new)
old_or hands session x new (inl p) = inl p.0
old_or hands session x new (inr e) = inr e

-- every call keeps what holds of the leases in hand
pub call_keeps : (who : Caller) (ask : Ask) (a : Answer) (c d : Counts) (m : Claim) (b t : CloudState) (hands after : Hands) → Weather who ask a (counted c b) (counted d t)
    → Owns hands who.session ask → RenewedTo who ask m b t → HandsAfter who.session ask a m hands after → LeasesHold b.now b.locks hands → LeasesHold t.now t.locks after
call_keeps who (Take k ticks) (answer.Given l) c d m b t hands after row owns renewed w h =
    take_landed who k ticks b t hands after row.0 w.others (λ x holds. subst (λ y. Holds hands who.session x ⊎ (x ≡ y)) row.1 (old_or hands who.session x l (w.own x holds))) h
call_keeps who (Take k ticks) a c d m b t hands after row owns renewed w h =
    take_failed who k ticks b t hands after (lands_or_not who (Take k ticks) a c d b t row) w.others (λ x holds. old_only hands who.session _ x (w.own x holds)) h
call_keeps who (Renew l ticks) a c d m b t hands after row owns renewed w h = renew_call who l ticks m b t hands after owns renewed w.others w.own h
call_keeps who (Release l) a c d m b t hands after row owns renewed w h =
    release_call who l b t hands after (lands_or_not who (Release l) a c d b t row) owns w.others (λ x holds. old_apart hands who.session _ x (w.own x holds)) h
call_keeps who (Get name) a c d m b t hands after row owns renewed w h =
    still b t hands after who.session (row_rest who (Get name) a c d b t row).now (row_locks who (Get name) a c d b t row tt) w.others (λ x holds. old_only hands who.session _ x (w.own x holds)) h
call_keeps who (GetHeld name l) a c d m b t hands after row owns renewed w h =
    still b t hands after who.session (row_rest who (GetHeld name l) a c d b t row).now (row_locks who (GetHeld name l) a c d b t row tt) w.others (λ x holds. old_only hands who.session _ x (w.own x holds)) h
call_keeps who (PutHeld name bytes one two) a c d m b t hands after row owns renewed w h =
    still b t hands after who.session (row_rest who (PutHeld name bytes one two) a c d b t row).now (row_locks who (PutHeld name bytes one two) a c d b t row tt) w.others
    (λ x holds. old_only hands who.session _ x (w.own x holds)) h
call_keeps who (ListHeld tree l) a c d m b t hands after row owns renewed w h =
    still b t hands after who.session (row_rest who (ListHeld tree l) a c d b t row).now (row_locks who (ListHeld tree l) a c d b t row tt) w.others (λ x holds. old_only hands who.session _ x (w.own x holds)) h
call_keeps who (RemoveHeld name l) a c d m b t hands after row owns renewed w h =
    still b t hands after who.session (row_rest who (RemoveHeld name l) a c d b t row).now (row_locks who (RemoveHeld name l) a c d b t row tt) w.others (λ x holds. old_only hands who.session _ x (w.own x holds)) h
call_keeps who (Send queue bytes) a c d m b t hands after row owns renewed w h =
    still b t hands after who.session (row_rest who (Send queue bytes) a c d b t row).now (row_locks who (Send queue bytes) a c d b t row tt) w.others (λ x holds. old_only hands who.session _ x (w.own x holds)) h
call_keeps who (Receive queue most) a c d m b t hands after row owns renewed w h =
    still b t hands after who.session (row_rest who (Receive queue most) a c d b t row).now (row_locks who (Receive queue most) a c d b t row tt) w.others (λ x holds. old_only hands who.session _ x (w.own x holds)) h
call_keeps who (Delete queue id) a c d m b t hands after row owns renewed w h =
    still b t hands after who.session (row_rest who (Delete queue id) a c d b t row).now (row_locks who (Delete queue id) a c d b t row tt) w.others (λ x holds. old_only hands who.session _ x (w.own x holds)) h

-- the same over the whole of what a call leaves: the clock may go on
pub leaves_keep : (who : Caller) (ask : Ask) (a : Answer) (c d : Counts) (m : Claim) (s : CloudState) (new : Option CloudState) (l : Leaves who ask a (counted c s) d new) (hands after : Hands)
    → Owns hands who.session ask → RenewedTo who ask m (called who l.after.now s) l.after → HandsAfter who.session ask a m hands after
    → LeasesHold s.now s.locks hands → LeasesHold l.after.now l.after.locks after
leaves_keep who ask a c d m s new l hands after owns renewed w h =
    call_keeps who ask a c d m (called who l.after.now s) l.after hands after l.row owns renewed w (later_keeps s.now l.after.now s.locks hands l.later h)
