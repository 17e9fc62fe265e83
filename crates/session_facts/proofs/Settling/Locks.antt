-- Where nobody has a lease but one session, a call of that session that finds memory and does not fail leaves it so, and finds its lock free.
use Rattle.std.proofs.Common.{◌≡◌, ◌≢◌, ◌+◌, ◌<◌, ◌≤◌, ◌==◌, inl, inr, ℕ, zero, suc, Bool, true, false, cond, nat_lt, Ordering, List, [], ◌∷◌, Err, refl, sym, ap, subst, ◌∙◌, arith}
use Rattle.std.proofs.lemmas.Bool.{and_from, and_parts, eq-eqb, lt-ltb, ltb-false, ltb-true}
use Rattle.std.proofs.lemmas.Cmp.{tied_itself}
use Rattle.std.specs.declared.cmp.Ordering.TheVariants.{Less, Equal, Greater}
use Rattle.std.specs.Ordering.{is_eq}
use Rattle.cloud_trait.specs.Calm.{TakesFree}
use Rattle.ckpt_parts.specs.Leasing.{outstanding_after}
use Rattle.cloud_facts.proofs.Book.Places.{get_single, in_behind, in_none}
use Rattle.cloud_facts.specs.Words.{Trouble, Lock, Answer, CloudState, called, Caller, Claim, Ask, Get, GetHeld, PutHeld, Send, Receive, Delete, Take, Renew, Release, Next, Goes, Ends, Stops, given_of}
use Rattle.cloud_trait.specs.declared.answer.Answer.TheVariants.{Got, Sent, Received, Listed, Done, Given, Held, Renewed, Late, Failed, Memory}
use Rattle.cloud_trait.specs.declared.state.Hold.{Hold}
use Rattle.cloud_trait.specs.Ask.{ListHeld, RemoveHeld, MovesNoLock}
use Rattle.cloud_trait.specs.Claim.{extended}
use Rattle.cloud_trait.specs.Names.{lock_cmp}
use Rattle.cloud_trait.specs.State.{Counts, put_at, end_after, lease_given, taken, is_current, moved, released, held_so}
use Rattle.cloud_trait.specs.Weather.{counted, Weather}
use Rattle.cloud_trait.proofs.NameLemmas.{lock_cmp-equal, lock_cmp-total}
use Rattle.cloud_trait.proofs.RowLemmas.{row_locks}
use Rattle.cloud_trait.proofs.StateLemmas.{put_at_by, put_at_same}
use Rattle.session_facts.specs.Settling.Locks.{IsOwn, HoldsAlone, HasNone, UsesOwn}

-- ---- the lock that a call takes

pub takes_free : (ask : Ask) (held : List Claim) (s : CloudState) (now : ℕ) → HoldsAlone held s → UsesOwn ask held → s.now ≤ now → TakesFree ask s now
takes_free (Take lock ticks) held s now alone uses later = on (alone lock)
  where
    on : IsOwn held s.now lock (s.locks lock) → (s.locks lock).until ≤ now
    on (inl free) = omega (arith, free, later)
    on (inr (c, there, is, said)) = absurd (uses c there is)
takes_free (Get name) held s now alone uses later = tt
takes_free (GetHeld name l) held s now alone uses later = tt
takes_free (ListHeld tree l) held s now alone uses later = tt
takes_free (RemoveHeld name l) held s now alone uses later = tt
takes_free (PutHeld name bytes one two) held s now alone uses later = tt
takes_free (Send queue bytes) held s now alone uses later = tt
takes_free (Receive queue most) held s now alone uses later = tt
takes_free (Delete queue id) held s now alone uses later = tt
takes_free (Renew l ticks) held s now alone uses later = tt
takes_free (Release l) held s now alone uses later = tt

-- ---- locks that do not move

own_later : (held : List Claim) (now later : ℕ) (l : Lock) (hold : Hold) → now ≤ later → IsOwn held now l hold → IsOwn held later l hold
own_later held now later l hold after (inl free) = inl (omega (arith, free, after))
own_later held now later l hold after (inr own) = inr own

pub same_alone : (held : List Claim) (s t : CloudState) → t.locks ≡ s.locks → s.now ≤ t.now → HoldsAlone held s → HoldsAlone held t
same_alone held s t same after alone l = subst (λ (locks : Lock → Hold). IsOwn held t.now l (locks l)) (sym same) (own_later held s.now t.now l (s.locks l) after (alone l))

pub quiet_after : (ask : Ask) (a : Answer) (held : List Claim) → MovesNoLock ask → outstanding_after ask a held ≡ held
quiet_after (Get name) a held quiet = refl
quiet_after (GetHeld name l) a held quiet = refl
quiet_after (ListHeld tree l) a held quiet = refl
quiet_after (RemoveHeld name l) a held quiet = refl
quiet_after (PutHeld name bytes one two) a held quiet = refl
quiet_after (Send queue bytes) a held quiet = refl
quiet_after (Receive queue most) a held quiet = refl
quiet_after (Delete queue id) a held quiet = refl
quiet_after (Take lock ticks) a held never = absurd never
quiet_after (Renew l ticks) a held never = absurd never
quiet_after (Release l) a held never = absurd never

-- ---- a lock that was taken

taken_alone : (held : List Claim) (lock : Lock) (ticks : ℕ) (b : CloudState) → HoldsAlone held b → HoldsAlone (lease_given lock ticks b ∷ held) (taken lock ticks b)
taken_alone held lock ticks b alone l =
    put_at_by (λ q hold. IsOwn (lease_given lock ticks b ∷ held) b.now q hold) lock_cmp lock_cmp-equal b.locks lock
    (record { generation = (b.locks lock).generation + 1; until = end_after b.now ticks }) here there l
  where
    here : IsOwn (lease_given lock ticks b ∷ held) b.now lock (record { generation = (b.locks lock).generation + 1; until = end_after b.now ticks })
    here = inr (lease_given lock ticks b, (zero, refl), refl, record { given = omega arith; current = refl; ends = refl })

    more : (q : Lock) → IsOwn held b.now q (b.locks q) → IsOwn (lease_given lock ticks b ∷ held) b.now q (b.locks q)
    more q (inl free) = inl free
    more q (inr (c, inside, is, said)) = inr (c, in_behind (lease_given lock ticks b ∷ []) held c inside, is, said)

    there : (q : Lock) → IsOwn (lease_given lock ticks b ∷ held) b.now q (b.locks q)
    there q = more q (alone q)

-- ---- a lease that was given back

module _ (c : Claim) (cs : List Claim) (b : CloudState) (alone : HoldsAlone (c ∷ cs) b) where
  abbrev freed : Hold
  freed = record { generation = c.generation; until = b.now }

  -- by what holds of the lock before: it is of another lease, or of this one
  abbrev Kept : Lock → (Lock → Hold) → Type 0
  Kept l locks = IsOwn cs b.now l (locks l)

  -- the lock of the lease ends now
  moved_own : (l : Lock) → Kept l (put_at lock_cmp b.locks c.lock freed)
  moved_own l = on (alone l)
    where
      either : IsOwn cs b.now l (b.locks l) → Kept l (put_at lock_cmp b.locks c.lock freed)
      either own = by (is_eq (lock_cmp c.lock l))
        where
          by : (e : Bool) → IsOwn cs b.now l (cond e freed (b.locks l))
          by true = inl (omega arith)
          by false = own

      on : IsOwn (c ∷ cs) b.now l (b.locks l) → Kept l (put_at lock_cmp b.locks c.lock freed)
      on (inl free) = either (inl free)
      on (inr (x, (suc place, there), is, said)) = either (inr (x, (place, there), is, said))
      on (inr (x, (zero, there), is, said)) =
          let same : c ≡ x = cc in
          let lock_is : c.lock ≡ l = ap (λ (y : Claim). y.lock) same ∙ is in
          let now_free : put_at lock_cmp b.locks c.lock freed l ≡ freed =
          ap (λ (q : Lock). put_at lock_cmp b.locks c.lock freed q) (sym lock_is) ∙ put_at_same lock_cmp lock_cmp-total b.locks c.lock freed in
          subst (λ (hold : Hold). IsOwn cs b.now l hold) (sym now_free) (inl (omega arith))

  -- it was over, so its lock is free
  over_own : c.end ≤ b.now → (l : Lock) → Kept l b.locks
  over_own over l = on (alone l)
    where
      on : IsOwn (c ∷ cs) b.now l (b.locks l) → Kept l b.locks
      on (inl free) = inl free
      on (inr (x, (suc place, there), is, said)) = inr (x, (place, there), is, said)
      on (inr (x, (zero, there), is, said)) =
          let same : c ≡ x = cc in
          let ends : (b.locks l).until ≡ c.end = said.ends ∙ sym (ap (λ (y : Claim). y.end) same) in
          inl (omega (arith, ends, over))

  -- its lock is of another generation, so it is no lease that holds one
  past_own : is_current c b ≡ false → (l : Lock) → Kept l b.locks
  past_own past l = on (alone l)
    where
      on : IsOwn (c ∷ cs) b.now l (b.locks l) → Kept l b.locks
      on (inl free) = inl free
      on (inr (x, (suc place, there), is, said)) = inr (x, (place, there), is, said)
      on (inr (x, (zero, there), is, said)) =
          let same : c ≡ x = cc in
          absurd (never (subst (λ (y : Claim). 0 < y.generation) (sym same) said.given)
          (ap (λ (y : Claim). y.generation) same ∙ (said.current ∙ ap (λ (q : Lock). (b.locks q).generation) (sym (ap (λ (y : Claim). y.lock) same ∙ is)))))
        where
          never : 0 < c.generation → c.generation ≡ (b.locks c.lock).generation → ⊥
          never given current =
              let holds : is_current c b ≡ true =
              and_from (nat_lt 0 c.generation) ((b.locks c.lock).generation == c.generation) (lt-ltb 0 c.generation given)
              (eq-eqb (b.locks c.lock).generation c.generation (sym current)) in
              let other : true ≡ false = sym holds ∙ past in
              cc (other)

  released_alone : HoldsAlone cs (released c b)
  released_alone = on (nat_lt b.now c.end) refl
    where
      inside : (now_is : Bool) → is_current c b ≡ now_is → HoldsAlone cs (cond now_is (held_so c.lock freed b) b)
      inside true e = moved_own
      inside false e = past_own e

      on : (lasts : Bool) → nat_lt b.now c.end ≡ lasts → HoldsAlone cs (cond lasts (moved c b.now b) b)
      on true e = inside (is_current c b) refl
      on false e = let over = ltb-false b.now c.end e in over_own (omega (arith, over))

-- ---- a lease that was renewed

module _ (c : Claim) (end : ℕ) (cs : List Claim) (b : CloudState) (alone : HoldsAlone (c ∷ cs) b) where
  abbrev longer : Hold
  longer = record { generation = c.generation; until = end }

  abbrev IsRenewed : Lock → Hold → Type 0
  IsRenewed l hold = IsOwn (extended c end ∷ cs) b.now l hold

  more_own : (l : Lock) (hold : Hold) → IsOwn cs b.now l hold → IsRenewed l hold
  more_own l hold (inl free) = inl free
  more_own l hold (inr (x, inside, is, said)) = inr (x, in_behind (extended c end ∷ []) cs x inside, is, said)

  -- the lock of the lease has the new end
  longer_own : 0 < c.generation → (l : Lock) → c.lock ≡ l → IsRenewed l longer
  longer_own given l is = inr (extended c end, (zero, refl), is, record { given = given; current = refl; ends = refl })

  put_own : 0 < c.generation → (l : Lock) → IsRenewed l (put_at lock_cmp b.locks c.lock longer l)
  put_own given l = by (lock_cmp c.lock l) refl
    where
      before : IsOwn (c ∷ cs) b.now l (b.locks l) → c.lock ≢ l → IsRenewed l (b.locks l)
      before (inl free) other = inl free
      before (inr (x, (suc place, there), is, said)) other = more_own l (b.locks l) (inr (x, (place, there), is, said))
      before (inr (x, (zero, there), is, said)) other = let same : c ≡ x = cc in absurd (other (ap (λ (y : Claim). y.lock) same ∙ is))

      differs : (o : Ordering) → lock_cmp c.lock l ≡ o → is_eq o ≡ false → c.lock ≢ l
      differs o e unequal same =
          let yes : is_eq (lock_cmp c.lock l) ≡ true = subst (λ (q : Lock). is_eq (lock_cmp c.lock q) ≡ true) same (ap is_eq (tied_itself lock_cmp-total c.lock)) in
          let other : true ≡ false = sym yes ∙ (ap is_eq e ∙ unequal) in
          cc (other)

      by : (o : Ordering) → lock_cmp c.lock l ≡ o → IsRenewed l (cond (is_eq o) longer (b.locks l))
      by Equal e = longer_own given l (lock_cmp-equal c.lock l e)
      by Less e = before (alone l) (differs Less e refl)
      by Greater e = before (alone l) (differs Greater e refl)

  pub renewed_alone : HoldsAlone (extended c end ∷ cs) (moved c end b)
  renewed_alone = on (is_current c b) refl
    where
      on : (now_is : Bool) → is_current c b ≡ now_is → HoldsAlone (extended c end ∷ cs) (cond now_is (held_so c.lock longer b) b)
      on true e = put_own (ltb-true 0 c.generation (and_parts (nat_lt 0 c.generation) ((b.locks c.lock).generation == c.generation) e).0)
      on false e = λ l. more_own l (b.locks l) (past_own c cs b alone e l)

-- ---- a call

module _ (who : Caller) (c d : Counts) (s t : CloudState) (later : s.now ≤ t.now) (held : List Claim) (alone : HoldsAlone held s) where
  b : CloudState
  b = called who t.now s

  alone_b : HoldsAlone held (called who t.now s)
  alone_b = same_alone held s (called who t.now s) refl later alone

  by_state : (held_now : List Claim) (u : CloudState) → t ≡ u → HoldsAlone held_now u → HoldsAlone held_now t
  by_state held_now u e holds = subst (HoldsAlone held_now) (sym e) holds

  quiet : (ask : Ask) (a : Answer) → Weather who ask a (counted c (called who t.now s)) (counted d t) → MovesNoLock ask → HoldsAlone (outstanding_after ask a held) t
  quiet ask a row still =
      subst (λ (cs : List Claim). HoldsAlone cs t) (sym (quiet_after ask a held still))
      (same_alone held s t (row_locks who ask a c d (called who t.now s) t row still) later alone)

  took : (lock : Lock) (ticks : ℕ) (a : Answer) → Weather who (Take lock ticks) a (counted c (called who t.now s)) (counted d t) → a ≢ Failed → HoldsAlone (outstanding_after (Take lock ticks) a held) t
  took lock ticks (Given l) row other =
      subst (λ (x : Claim). HoldsAlone (x ∷ held) t) (sym row.1) (by_state (lease_given lock ticks (called who t.now s) ∷ held) (taken lock ticks (called who t.now s)) row.0.0
      (taken_alone held lock ticks (called who t.now s) alone_b))
  took lock ticks (Held until) row other = by_state held (called who t.now s) row.0 alone_b
  took lock ticks Memory row other = by_state held (called who t.now s) row alone_b
  took lock ticks Failed row other = absurd (other refl)
  took lock ticks (Got v) row other = absurd row
  took lock ticks (Sent id) row other = absurd row
  took lock ticks (Received ms) row other = absurd row
  took lock ticks (Listed pages) row other = absurd row
  took lock ticks Done row other = absurd row
  took lock ticks (Renewed e) row other = absurd row
  took lock ticks (Late e n) row other = absurd row

gave : (who : Caller) (c d : Counts) (s t : CloudState) (later : s.now ≤ t.now) (held : List Claim) (alone : HoldsAlone held s) (l : Claim) (a : Answer)
    → Weather who (Release l) a (counted c (called who t.now s)) (counted d t) → UsesOwn (Release l) held → a ≢ Failed → a ≢ Memory → HoldsAlone (outstanding_after (Release l) a held) t
gave who c d s t later [] alone l a row never failed memory = absurd never
gave who c d s t later (x ∷ xs) alone l Done row same failed memory =
    subst (HoldsAlone xs) (sym row.0)
    (subst (λ (y : Claim). HoldsAlone xs (released y (called who t.now s))) (sym same)
    (released_alone x xs (called who t.now s) (same_alone (x ∷ xs) s (called who t.now s) refl later alone)))
gave who c d s t later (x ∷ xs) alone l Failed row same failed memory = absurd (failed refl)
gave who c d s t later (x ∷ xs) alone l Memory row same failed memory = absurd (memory refl)
gave who c d s t later (x ∷ xs) alone l (Got v) row same failed memory = absurd row
gave who c d s t later (x ∷ xs) alone l (Sent id) row same failed memory = absurd row
gave who c d s t later (x ∷ xs) alone l (Received ms) row same failed memory = absurd row
gave who c d s t later (x ∷ xs) alone l (Listed pages) row same failed memory = absurd row
gave who c d s t later (x ∷ xs) alone l (Given m) row same failed memory = absurd row
gave who c d s t later (x ∷ xs) alone l (Held until) row same failed memory = absurd row
gave who c d s t later (x ∷ xs) alone l (Renewed e) row same failed memory = absurd row
gave who c d s t later (x ∷ xs) alone l (Late e n) row same failed memory = absurd row

pub call_alone : (who : Caller) (ask : Ask) (a : Answer) (c d : Counts) (s t : CloudState) → s.now ≤ t.now → Weather who ask a (counted c (called who t.now s)) (counted d t) → (held : List Claim)
    → HoldsAlone held s → UsesOwn ask held → a ≢ Failed → a ≢ Memory → HoldsAlone (outstanding_after ask a held) t
call_alone who (Take lock ticks) a c d s t later row held alone uses failed memory = took who c d s t later held alone lock ticks a row failed
call_alone who (Release l) a c d s t later row held alone uses failed memory = gave who c d s t later held alone l a row uses failed memory
call_alone who (Renew l ticks) a c d s t later row held alone never failed memory = absurd never
call_alone who (Get name) a c d s t later row held alone uses failed memory = quiet who c d s t later held alone (Get name) a row tt
call_alone who (GetHeld name l) a c d s t later row held alone uses failed memory = quiet who c d s t later held alone (GetHeld name l) a row tt
call_alone who (ListHeld tree l) a c d s t later row held alone uses failed memory = quiet who c d s t later held alone (ListHeld tree l) a row tt
call_alone who (RemoveHeld name l) a c d s t later row held alone uses failed memory = quiet who c d s t later held alone (RemoveHeld name l) a row tt
call_alone who (PutHeld name bytes one two) a c d s t later row held alone uses failed memory = quiet who c d s t later held alone (PutHeld name bytes one two) a row tt
call_alone who (Send queue bytes) a c d s t later row held alone uses failed memory = quiet who c d s t later held alone (Send queue bytes) a row tt
call_alone who (Receive queue most) a c d s t later row held alone uses failed memory = quiet who c d s t later held alone (Receive queue most) a row tt
call_alone who (Delete queue id) a c d s t later row held alone uses failed memory = quiet who c d s t later held alone (Delete queue id) a row tt

-- ---- leases in hand

-- an answer that is no lease gives none
pub not_given : (lock : Lock) (ticks : ℕ) (a : Answer) (held : List Claim) (k : Trouble) → given_of lock a ≡ Err k → outstanding_after (Take lock ticks) a held ≡ held
not_given lock ticks (Given l) held k e = absurd (cc)
not_given lock ticks (Held until) held k e = refl
not_given lock ticks Failed held k e = refl
not_given lock ticks Memory held k e = refl
not_given lock ticks (Got v) held k e = refl
not_given lock ticks (Sent id) held k e = refl
not_given lock ticks (Received ms) held k e = refl
not_given lock ticks (Listed pages) held k e = refl
not_given lock ticks Done held k e = refl
not_given lock ticks (Renewed end) held k e = refl
not_given lock ticks (Late end now) held k e = refl

pub quiet_uses : (ask : Ask) (held : List Claim) → MovesNoLock ask → UsesOwn ask held
quiet_uses (Get name) held quiet = tt
quiet_uses (GetHeld name l) held quiet = tt
quiet_uses (ListHeld tree l) held quiet = tt
quiet_uses (RemoveHeld name l) held quiet = tt
quiet_uses (PutHeld name bytes one two) held quiet = tt
quiet_uses (Send queue bytes) held quiet = tt
quiet_uses (Receive queue most) held quiet = tt
quiet_uses (Delete queue id) held quiet = tt
quiet_uses (Take lock ticks) held never = absurd never
quiet_uses (Renew l ticks) held never = absurd never
quiet_uses (Release l) held never = absurd never

-- of one lease, or of none, none is of another lock
pub none_of : (lock : Lock) → HasNone [] lock
none_of lock c there e = in_none [] c refl there

pub one_of : (l : Claim) (lock : Lock) → l.lock ≢ lock → HasNone (l ∷ []) lock
one_of l lock other c (place, there) e = other (ap (λ (x : Claim). x.lock) (get_single l place c there) ∙ e)

-- where a step goes on, these leases are in hand, and none where it ends or stops
abbrev pub HoldsNext : {M A : Type 0} → (M → List Claim) → List Claim → Next M A → Type 0
HoldsNext leases held (Goes n) = leases n ≡ held
HoldsNext leases held (Ends n x) = held ≡ []
HoldsNext leases held (Stops n t) = held ≡ []

-- a call that moves no lock leaves them
pub quiet_holds : {M A : Type 0} → (leases : M → List Claim) (ask : Ask) (a : Answer) (held : List Claim) (next : Next M A) → MovesNoLock ask → HoldsNext leases held next
    → HoldsNext leases (outstanding_after ask a held) next
quiet_holds leases ask a held next quiet holds = subst (λ (cs : List Claim). HoldsNext leases cs next) (sym (quiet_after ask a held quiet)) holds
