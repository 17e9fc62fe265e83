-- A call that brought no value shows why: by the counts and the states before and behind it.
use Rattle.std.proofs.Common.{◌≡◌, ◌≢◌, ◌<◌, ◌⊎◌, inl, inr, ℕ, List, Option, Some, None, Ok, Err, refl, sym, subst, ◌∙◌, arith}
use Rattle.cloud_trait.specs.Calm.{NamesLasting}
use Rattle.cloud_facts.specs.Words.{Trouble, ObjName, QueueName, Lock, Answer, CloudState, called, newest, Caller, Seen, Claim, Lasts, Ask, GetHeld, PutHeld, Send, Receive, Delete, Take, Renew, Release, done_of, got_of, given_of, received_of, sent_of}
use Rattle.cloud_trait.specs.declared.answer.Answer.TheVariants.{Got, Sent, Received, Listed, Done, Given, Held, Renewed, Late, Failed, Memory}
use Rattle.cloud_trait.specs.Claim.{IsOver}
use Rattle.cloud_trait.specs.State.{Counts}
use Rattle.cloud_trait.specs.Views.{renewed_of}
use Rattle.cloud_trait.specs.Weather.{counted, FirstOver, Leaves, Makes, Rose, Weather}
use Rattle.db_base.specs.declared.trouble.Counter.{Counter}
use Rattle.db_base.specs.declared.trouble.Trouble.TheVariants as trouble
use Rattle.session_facts.specs.Sessions.Explains.{IsShown}

-- a lease that is over does not last
over_ends : (l : Claim) (now : ℕ) → IsOver now l → Lasts now l → ⊥
over_ends l now over lasts = absurd (omega (arith, over, lasts))

first_ends : (name : ObjName) (bytes : List ℕ) (one : Claim) (two : Option Claim) (now end : ℕ) → FirstOver now one two end → NamesLasting (PutHeld name bytes one two) now → ⊥
first_ends name bytes one None now end (inl over) lasts = over_ends one now over.0 lasts
first_ends name bytes one None now end (inr never) lasts = absurd never.1
first_ends name bytes one (Some two) now end (inl over) lasts = over_ends one now over.0 lasts.0
first_ends name bytes one (Some two) now end (inr over) lasts = over_ends two now over.1.0 lasts.1

-- a held get answers the newest version, and leaves the versions as they are
pub held_newest : (who : Caller) (name : ObjName) (l : Claim) (a : Answer) (c d : Counts) (b t : CloudState) → Weather who (GetHeld name l) a (counted c b) (counted d t) → (v : Option (List ℕ)) → got_of a ≡ Ok v
    → newest t name ≡ v
held_newest who name l (Got w) c d b t row v e =
    let same : w ≡ v = cc in
    subst (λ (x : CloudState). newest x name ≡ v) (sym row.0) (sym row.2 ∙ same)
held_newest who name l a c d b t row v e = absurd (cc)

-- it was so before too
pub held_before : (who : Caller) (name : ObjName) (l : Claim) (a : Answer) (c d : Counts) (b t : CloudState) → Weather who (GetHeld name l) a (counted c b) (counted d t) → (v : Option (List ℕ)) → got_of a ≡ Ok v
    → newest b name ≡ v
held_before who name l (Got w) c d b t row v e = let same : w ≡ v = cc in sym row.2 ∙ same
held_before who name l a c d b t row v e = absurd (cc)

module _ (who : Caller) (before after : Seen) (s t : CloudState) (told : before.state ≡ Some s) (told_after : after.state ≡ Some t) (held : List Claim) (Spent : CloudState → Counter → Type 0) where
  abbrev pub Shown : Ask → Trouble → Type 0
  Shown ask k = IsShown ask held Spent (before.counts, s) (after.counts, t) k

  abbrev Call : Ask → Answer → Type 0
  Call ask a = Makes who ask a before after

  pub row_of : (ask : Ask) (a : Answer) → Call ask a → Weather who ask a (counted before.counts (called who t.now s)) (counted after.counts t)
  row_of ask a made = on (made.state s told)
    where
      on : Leaves who ask a (counted before.counts s) after.counts after.state → Weather who ask a (counted before.counts (called who t.now s)) (counted after.counts t)
      on l =
          let same : l.after ≡ t = cc (sym l.told ∙ told_after) in
          subst (λ (u : CloudState). Weather who ask a (counted before.counts (called who u.now s)) (counted after.counts u)) same l.row

  -- the trouble of an answer that the view takes for it
  by_trouble : (ask : Ask) (a b : Trouble) → a ≡ b → Shown ask a → Shown ask b
  by_trouble ask a b same shown = subst (Shown ask) same shown

  failed_shown : (ask : Ask) → Call ask Failed → Shown ask trouble.Failed
  failed_shown ask made = made.failed refl

  -- ---- a get

  pub got_shown : (name : ObjName) (l : Claim) (a : Answer) → Call (GetHeld name l) a → (k : Trouble) → got_of a ≡ Err k → Shown (GetHeld name l) k
  got_shown name l Failed made k e = by_trouble (GetHeld name l) trouble.Failed k (cc) (failed_shown (GetHeld name l) made)
  got_shown name l Memory made k e = by_trouble (GetHeld name l) trouble.Memory k (cc) tt
  got_shown name l (Late end now) made k e =
      by_trouble (GetHeld name l) (trouble.Late end now) k (cc) (λ lasts. over_ends l t.now (row_of (GetHeld name l) (Late end now) made).1 lasts)
  got_shown name l (Got v) made k e = absurd (cc)
  got_shown name l (Given m) made k e = absurd made.fits
  got_shown name l (Held until) made k e = absurd made.fits
  got_shown name l (Sent id) made k e = absurd made.fits
  got_shown name l (Received ms) made k e = absurd made.fits
  got_shown name l (Listed pages) made k e = absurd made.fits
  got_shown name l Done made k e = absurd made.fits
  got_shown name l (Renewed end) made k e = absurd made.fits

  -- ---- a put, a deletion or a release

  pub put_shown : (name : ObjName) (bytes : List ℕ) (one : Claim) (two : Option Claim) (a : Answer) → Call (PutHeld name bytes one two) a → (k : Trouble) → done_of a ≡ Err k
      → Shown (PutHeld name bytes one two) k
  put_shown name bytes one two Failed made k e = by_trouble (PutHeld name bytes one two) trouble.Failed k (cc) (failed_shown (PutHeld name bytes one two) made)
  put_shown name bytes one two Memory made k e = by_trouble (PutHeld name bytes one two) trouble.Memory k (cc) tt
  put_shown name bytes one two (Late end now) made k e =
      by_trouble (PutHeld name bytes one two) (trouble.Late end now) k (cc)
      (λ lasts. first_ends name bytes one two t.now end (row_of (PutHeld name bytes one two) (Late end now) made).1 lasts)
  put_shown name bytes one two Done made k e = absurd (cc)
  put_shown name bytes one two (Got v) made k e = absurd made.fits
  put_shown name bytes one two (Given m) made k e = absurd made.fits
  put_shown name bytes one two (Held until) made k e = absurd made.fits
  put_shown name bytes one two (Sent id) made k e = absurd made.fits
  put_shown name bytes one two (Received ms) made k e = absurd made.fits
  put_shown name bytes one two (Listed pages) made k e = absurd made.fits
  put_shown name bytes one two (Renewed end) made k e = absurd made.fits

  pub delete_shown : (queue : QueueName) (id : ℕ) (a : Answer) → Call (Delete queue id) a → (k : Trouble) → done_of a ≡ Err k → Shown (Delete queue id) k
  delete_shown queue id Failed made k e = by_trouble (Delete queue id) trouble.Failed k (cc) (failed_shown (Delete queue id) made)
  delete_shown queue id Memory made k e = by_trouble (Delete queue id) trouble.Memory k (cc) tt
  delete_shown queue id Done made k e = absurd (cc)
  delete_shown queue id (Late end now) made k e = absurd made.fits
  delete_shown queue id (Got v) made k e = absurd made.fits
  delete_shown queue id (Given m) made k e = absurd made.fits
  delete_shown queue id (Held until) made k e = absurd made.fits
  delete_shown queue id (Sent other) made k e = absurd made.fits
  delete_shown queue id (Received ms) made k e = absurd made.fits
  delete_shown queue id (Listed pages) made k e = absurd made.fits
  delete_shown queue id (Renewed end) made k e = absurd made.fits

  -- a deletion that was not done failed, where there was memory for it
  pub delete_fails : (queue : QueueName) (id : ℕ) (a : Answer) → Call (Delete queue id) a → (k : Trouble) → done_of a ≡ Err k → a ≢ Memory
      → Rose before.counts.faults after.counts.faults
  delete_fails queue id Failed made k e other = made.failed refl
  delete_fails queue id Memory made k e other = absurd (other refl)
  delete_fails queue id Done made k e other = absurd (cc)
  delete_fails queue id (Late end now) made k e other = absurd made.fits
  delete_fails queue id (Got v) made k e other = absurd made.fits
  delete_fails queue id (Given m) made k e other = absurd made.fits
  delete_fails queue id (Held until) made k e other = absurd made.fits
  delete_fails queue id (Sent other_id) made k e other = absurd made.fits
  delete_fails queue id (Received ms) made k e other = absurd made.fits
  delete_fails queue id (Listed pages) made k e other = absurd made.fits
  delete_fails queue id (Renewed end) made k e other = absurd made.fits

  pub release_shown : (l : Claim) (a : Answer) → Call (Release l) a → (k : Trouble) → done_of a ≡ Err k → Shown (Release l) k
  release_shown l Failed made k e = by_trouble (Release l) trouble.Failed k (cc) (failed_shown (Release l) made)
  release_shown l Memory made k e = by_trouble (Release l) trouble.Memory k (cc) tt
  release_shown l Done made k e = absurd (cc)
  release_shown l (Late end now) made k e = absurd made.fits
  release_shown l (Got v) made k e = absurd made.fits
  release_shown l (Given m) made k e = absurd made.fits
  release_shown l (Held until) made k e = absurd made.fits
  release_shown l (Sent id) made k e = absurd made.fits
  release_shown l (Received ms) made k e = absurd made.fits
  release_shown l (Listed pages) made k e = absurd made.fits
  release_shown l (Renewed end) made k e = absurd made.fits

  -- ---- messages

  pub received_shown : (queue : QueueName) (most : ℕ) (a : Answer) → Call (Receive queue most) a → (k : Trouble) → received_of a ≡ Err k → Shown (Receive queue most) k
  received_shown queue most Failed made k e = by_trouble (Receive queue most) trouble.Failed k (cc) (failed_shown (Receive queue most) made)
  received_shown queue most Memory made k e = by_trouble (Receive queue most) trouble.Memory k (cc) tt
  received_shown queue most (Received ms) made k e = absurd (cc)
  received_shown queue most (Listed pages) made k e = absurd made.fits
  received_shown queue most (Late end now) made k e = absurd made.fits
  received_shown queue most (Got v) made k e = absurd made.fits
  received_shown queue most (Given m) made k e = absurd made.fits
  received_shown queue most (Held until) made k e = absurd made.fits
  received_shown queue most (Sent id) made k e = absurd made.fits
  received_shown queue most Done made k e = absurd made.fits
  received_shown queue most (Renewed end) made k e = absurd made.fits

  pub sent_shown : (queue : QueueName) (bytes : List ℕ) (a : Answer) → Call (Send queue bytes) a → (k : Trouble) → sent_of a ≡ Err k → Shown (Send queue bytes) k
  sent_shown queue bytes Failed made k e = by_trouble (Send queue bytes) trouble.Failed k (cc) (failed_shown (Send queue bytes) made)
  sent_shown queue bytes Memory made k e = by_trouble (Send queue bytes) trouble.Memory k (cc) tt
  sent_shown queue bytes (Sent id) made k e = absurd (cc)
  sent_shown queue bytes (Late end now) made k e = absurd made.fits
  sent_shown queue bytes (Got v) made k e = absurd made.fits
  sent_shown queue bytes (Given m) made k e = absurd made.fits
  sent_shown queue bytes (Held until) made k e = absurd made.fits
  sent_shown queue bytes (Received ms) made k e = absurd made.fits
  sent_shown queue bytes (Listed pages) made k e = absurd made.fits
  sent_shown queue bytes Done made k e = absurd made.fits
  sent_shown queue bytes (Renewed end) made k e = absurd made.fits

  -- ---- locks

  -- a lock that is held is not free
  held_so : (lock : Lock) (ticks until : ℕ) → ((until ≡ (s.locks lock).until) × (t.now < until)) ⊎ Rose before.counts.withheld after.counts.withheld
      → Shown (Take lock ticks) (trouble.Busy lock until)
  held_so lock ticks until (inl held) = inl (λ free. absurd (omega (arith, held.0, held.1, free)))
  held_so lock ticks until (inr rose) = inr rose

  pub given_shown : (lock : Lock) (ticks : ℕ) (a : Answer) → Call (Take lock ticks) a → (k : Trouble) → given_of lock a ≡ Err k → Shown (Take lock ticks) k
  given_shown lock ticks Failed made k e = by_trouble (Take lock ticks) trouble.Failed k (cc) (failed_shown (Take lock ticks) made)
  given_shown lock ticks Memory made k e = by_trouble (Take lock ticks) trouble.Memory k (cc) tt
  given_shown lock ticks (Held until) made k e =
      by_trouble (Take lock ticks) (trouble.Busy lock until) k (cc) (held_so lock ticks until (row_of (Take lock ticks) (Held until) made).1)
  given_shown lock ticks (Given l) made k e = absurd (cc)
  given_shown lock ticks (Late end now) made k e = absurd made.fits
  given_shown lock ticks (Got v) made k e = absurd made.fits
  given_shown lock ticks (Sent id) made k e = absurd made.fits
  given_shown lock ticks (Received ms) made k e = absurd made.fits
  given_shown lock ticks (Listed pages) made k e = absurd made.fits
  given_shown lock ticks Done made k e = absurd made.fits
  given_shown lock ticks (Renewed end) made k e = absurd made.fits

  pub renewed_shown : (l : Claim) (ticks : ℕ) (a : Answer) → Call (Renew l ticks) a → (k : Trouble) → renewed_of a ≡ Err k → Shown (Renew l ticks) k
  renewed_shown l ticks Failed made k e = by_trouble (Renew l ticks) trouble.Failed k (cc) (failed_shown (Renew l ticks) made)
  renewed_shown l ticks Memory made k e = by_trouble (Renew l ticks) trouble.Memory k (cc) tt
  renewed_shown l ticks (Late end now) made k e =
      by_trouble (Renew l ticks) (trouble.Late end now) k (cc) (λ lasts. over_ends l t.now (row_of (Renew l ticks) (Late end now) made).1 lasts)
  renewed_shown l ticks (Renewed end) made k e = absurd (cc)
  renewed_shown l ticks (Got v) made k e = absurd made.fits
  renewed_shown l ticks (Given m) made k e = absurd made.fits
  renewed_shown l ticks (Held until) made k e = absurd made.fits
  renewed_shown l ticks (Sent id) made k e = absurd made.fits
  renewed_shown l ticks (Received ms) made k e = absurd made.fits
  renewed_shown l ticks (Listed pages) made k e = absurd made.fits
  renewed_shown l ticks Done made k e = absurd made.fits

-- ---- troubles that no call shows

-- of what was read, or of memory
abbrev pub IsFree : Trouble → Type 0
IsFree trouble.Memory = Unit {0}
IsFree (trouble.Absent page) = Unit {0}
IsFree (trouble.NotALeaf page) = Unit {0}
IsFree (trouble.Damaged place offset) = Unit {0}
IsFree (trouble.BadFence page expected found) = Unit {0}
IsFree (trouble.Loop page) = Unit {0}
IsFree t = ⊥

pub free_shown : (ask : Ask) (held : List Claim) (Spent : CloudState → Counter → Type 0) (c d : Counts) (s t : CloudState) (k : Trouble) → IsFree k → IsShown ask held Spent (c, s) (d, t) k
free_shown ask held Spent c d s t trouble.Memory is = tt
free_shown ask held Spent c d s t (trouble.Absent page) is = tt
free_shown ask held Spent c d s t (trouble.NotALeaf page) is = tt
free_shown ask held Spent c d s t (trouble.Damaged place offset) is = tt
free_shown ask held Spent c d s t (trouble.BadFence page expected found) is = tt
free_shown ask held Spent c d s t (trouble.Loop page) is = tt
free_shown ask held Spent c d s t k is = absurd is
