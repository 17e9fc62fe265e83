-- What a step of a commit means by its whole run.
use Rattle.std.proofs.Common.{◌≡◌, Bool, true, false, List, [], ◌∷◌, ◌++◌, refl, ap, sym, subst, ◌∙◌, inl, inr, arith}
use Rattle.std.proofs.lemmas.List.{append_assoc, append-nil}
use Rattle.db_base.specs.declared.trouble.Trouble.TheVariants as trouble
use Rattle.db_base.specs.declared.trouble.Counter.TheVariants as counter
use Rattle.cloud_trait.specs.declared.turn.Turn.TheVariants.{Ended}
use Rattle.cloud_trait.specs.Machine.{IsMade, Follows}
use Rattle.commit_writes.proofs.Meaning.{only_memory}
use Rattle.commit_writes.proofs.Meaning.{came_knows as writes_know}
use Rattle.commit_run.specs.Run.{next_at}
use Rattle.commit_run.specs.Meaning.{IsWriting, MeansReady}
use Rattle.commit_run.proofs.Words.{Trouble, CommitAnswer, NotCommitted, Noted, Answer, Turn, More, Stopped, Ask, Next, Goes, Ends, Stops, LeadsBy, Took, Came, Deed, Home, Cache, Walk, walk_ask, Writing, waiting, is_spent, passes, writing_ask, writing_next, Calls, told, Hand, Writes, First, Change, Draft, new_draft, Run, held, new_run, home_of, asks, ask_at, written, wrote, refused, run_ready, run_next, Led, KeepsHome, uses_of, walked_home, MeansWalks, Went}
use Rattle.commit_run.proofs.Knows.{KnowsOver, KnowsHeld, KnowsWrites, KnowsHand, KnowsNext, KnowsAt}
use Rattle.commit_run.proofs.Planning.{no_leaves}
use Rattle.commit_run.proofs.Reading.{begins_read}
use Rattle.commit_run.proofs.Outcomes as step
use Rattle.commit_run.proofs.Outcomes.{NextRun, Starts, BeginsWith, spent_at, starts, ready_leads}
use Rattle.commit_run.proofs.Walked.{begins_walk, plans_by, turned_by}

-- ---- at the beginning

start_knows : (home : Home) (changes : List Noted) (c : Cache) (x : NextRun) → is_spent home ≡ false → Starts home changes c x → KnowsNext home changes c [] x
start_knows home changes c x left s = on x s where
  over : KnowsOver home changes c [] (step.taken home changes) c
  over = record {
    trips = [];
    walks = record { each = tt; aimed = tt; are = refl; reads = tt };
    behind = refl;
    reads = begins_read c;
    draft = record { writes = refl; within = omega arith; leaves = no_leaves [] changes; ended = tt };
  }

  on : (y : NextRun) → Starts home changes c y → KnowsNext home changes c [] y
  on y (step.spent e) = absurd (never (sym e ∙ left)) where
    never : true ≡ false → ⊥
    never e = absurd (cc (e))
  on y (step.long to z left e b) = begins_walk home changes c [] true (step.taken home changes) c to y over (inr (refl, e)) (λ no. absurd (cc (no))) b
  on y (step.few z left e p) = plans_by home changes c [] (step.taken home changes) c y over p

-- where the attempt is not the greatest one
pub ready_knows : (home : Home) (changes : List Noted) (c : Cache) → is_spent home ≡ false → KnowsNext home changes c [] (run_ready (new_run home changes, c))
ready_knows home changes c left = start_knows home changes c (run_ready (new_run home changes, c)) left (starts home changes c)

never_goes : (d : Draft) (c : Cache) (t : Trouble) (n : Run × Cache) → refused d c t ≡ Goes n → ⊥
never_goes d c t n e = absurd (cc (e))

goes_unspent : (home : Home) (changes : List Noted) (c : Cache) (start : Run × Cache) → run_ready (new_run home changes, c) ≡ Goes start → is_spent home ≡ false
goes_unspent home changes c start goes = on (ready_leads home changes c) where
  on : BeginsWith home changes c (run_ready (new_run home changes, c)) → is_spent home ≡ false
  on (inl (e, is)) = absurd (never_goes (new_draft (waiting home changes)) c (trouble.Exhausted counter.Txn) start (sym is ∙ goes))
  on (inr so) = so.0

starts_knows : (home : Home) (changes : List Noted) (c : Cache) (start : Run × Cache) → run_ready (new_run home changes, c) ≡ Goes start
    → KnowsHand home changes c [] start.0.draft start.0.hand start.1
starts_knows home changes c start goes = subst (KnowsNext home changes c []) goes (ready_knows home changes c (goes_unspent home changes c start goes))

-- ---- from call to call

-- what a turn leads to is known at the next call
known_at : (home : Home) (changes : List Noted) (c : Cache) (h : List Deed) (d : Draft) (hand : Hand) (k : Cache) → KnowsHand home changes c (told h) d hand k → KnowsAt home changes c h d hand k
known_at home changes c h d Writes k w = record { later = []; first = h; are = refl; start = d.writes; begun_so = w; came = refl }
known_at home changes c h d (First w) k m = m
known_at home changes c h d (Change w) k m = m

pub follows_part : (later first : List Deed) (d : Deed) → Follows (later ++ first) d → Follows later d
follows_part [] first d f = tt
follows_part (l ∷ later) first d f = f

write_knows : (home : Home) (changes : List Noted) (c : Cache) (h : List Deed) (d : Deed) (draft : Draft) (e : Cache) (m : Run × Cache) → KnowsWrites home changes c h draft.writes
    → d.ask ≡ writing_ask draft.writes → IsMade d → Follows h d → (x : Next Writing CommitAnswer) → writing_next draft.writes d.answer ≡ x → wrote draft e x ≡ Goes m
    → KnowsAt home changes c (d ∷ h) m.0.draft m.0.hand m.1
write_knows home changes c h d draft e m k asked made follows (Goes w) leads goes =
    let is : ◌≡◌ {A = Run × Cache} (written draft w, e) m = cc (goes) in
    subst (λ (n : Run × Cache). KnowsAt home changes c (d ∷ h) n.0.draft n.0.hand n.1) is (record {
      later = d ∷ k.later;
      first = k.first;
      are = ap (λ (l : List Deed). d ∷ l) k.are;
      start = k.start;
      begun_so = k.begun_so;
      came = (draft.writes, k.came, asked, made, leads, follows_part k.later k.first d (subst (λ (l : List Deed). Follows l d) k.are follows));
    })
write_knows home changes c h d draft e m k asked made follows (Ends w a) leads goes = absurd (cc (goes))
write_knows home changes c h d draft e m k asked made follows (Stops w t) leads goes = absurd (cc (goes))

walk_knows : (home : Home) (changes : List Noted) (c : Cache) (h : List Deed) (d : Deed) (w : Walk) (x : Next (Run × Cache) CommitAnswer) (m : Run × Cache)
    → KnowsNext home changes c (told h ++ (walk_ask w, d.answer) ∷ []) x → d.ask ≡ walk_ask w → x ≡ Goes m → KnowsAt home changes c (d ∷ h) m.0.draft m.0.hand m.1
walk_knows home changes c h d w x m k asked goes =
    known_at home changes c (d ∷ h) m.0.draft m.0.hand m.1
    (subst (λ (q : Ask). KnowsHand home changes c (told h ++ (q, d.answer) ∷ []) m.0.draft m.0.hand m.1) (sym asked)
    (subst (KnowsNext home changes c (told h ++ (walk_ask w, d.answer) ∷ [])) goes k))

step_knows : (home : Home) (changes : List Noted) (c : Cache) (h : List Deed) (d : Deed) (draft : Draft) (hand : Hand) (e : Cache) (m : Run × Cache) → KnowsAt home changes c h draft hand e
    → d.ask ≡ ask_at hand draft.writes → IsMade d → next_at hand draft e d.answer ≡ Goes m → Follows h d → KnowsAt home changes c (d ∷ h) m.0.draft m.0.hand m.1
step_knows home changes c h d draft Writes e m k asked made goes follows =
    write_knows home changes c h d draft e m k asked made follows (writing_next draft.writes d.answer) refl goes
step_knows home changes c h d draft (First w) e m k asked made goes follows =
    walk_knows home changes c h d w (next_at (First w) draft e d.answer) m (turned_by home changes c (told h) true draft w e d.answer k) asked goes
step_knows home changes c h d draft (Change w) e m k asked made goes follows =
    walk_knows home changes c h d w (next_at (Change w) draft e d.answer) m (turned_by home changes c (told h) false draft w e d.answer k) asked goes

pub came_knows : (home : Home) (changes : List Noted) (c : Cache) (start : Run × Cache) → run_ready (new_run home changes, c) ≡ Goes start → (h : List Deed) (m : Run × Cache)
    → Came asks (LeadsBy run_next) start h m → KnowsAt home changes c h m.0.draft m.0.hand m.1
came_knows home changes c start goes [] m came =
    subst (λ (n : Run × Cache). KnowsAt home changes c [] n.0.draft n.0.hand n.1) (sym came) (known_at home changes c [] start.0.draft start.0.hand start.1 (starts_knows home changes c start goes))
came_knows home changes c start goes (d ∷ h) m (from, came, asked, made, leads, follows) =
    step_knows home changes c h d from.0.draft from.0.hand from.1 m (came_knows home changes c start goes h from came) asked made leads follows

-- of a commit that came here
pub went_knows : (home : Home) (changes : List Noted) (c : Cache) (h : List Deed) (m : Run × Cache) → Went home changes c h m → KnowsAt home changes c h m.0.draft m.0.hand m.1
went_knows home changes c h m (start, goes, came) = came_knows home changes c start goes h m came

-- .. with a walk in hand
pub went_held : (home : Home) (changes : List Noted) (c : Cache) (h : List Deed) (first : Bool) (d : Draft) (w : Walk) (k : Cache) → Went home changes c h (record { draft = d; hand = held first w }, k)
    → KnowsHeld home changes c (told h) d first (w, k)
went_held home changes c h true d w k went = went_knows home changes c h (record { draft = d; hand = First w }, k) went
went_held home changes c h false d w k went = went_knows home changes c h (record { draft = d; hand = Change w }, k) went

-- ---- a step of a walk

-- the walks up to where a turn leads
means_more : (home : Home) (changes : List Noted) (c : Cache) (calls : Calls) (left : Home) (d : Draft) (hand : Hand) (k : Cache) → KnowsHand home changes c calls d hand k → MeansWalks home changes c calls left More
means_more home changes c calls left d Writes k w = record { trips = w.routed.trips; walks = w.routed.walks; means = tt }
means_more home changes c calls left d (First w) k m = record { trips = m.earlier ++ m.trip ∷ []; walks = m.walks; means = tt }
means_more home changes c calls left d (Change w) k m = record { trips = m.earlier ++ m.trip ∷ []; walks = m.walks; means = tt }

-- .. and up to a stop for want of memory
means_memory : (home : Home) (changes : List Noted) (c : Cache) (calls : Calls) (left : Home) (x : Next (Run × Cache) CommitAnswer) → KnowsNext home changes c calls x
    → MeansWalks home changes c calls left (Stopped trouble.Memory)
means_memory home changes c calls left (Goes n) k =
    let m : MeansWalks home changes c calls left More = means_more home changes c calls left n.0.draft n.0.hand n.1 k in record { trips = m.trips; walks = m.walks; means = refl }
means_memory home changes c calls left (Ends n a) k = record { trips = k.trips; walks = k.walks; means = refl }
means_memory home changes c calls left (Stops n t) k = record { trips = k.trips; walks = k.walks; means = refl }

led_means : (home : Home) (changes : List Noted) (c : Cache) (calls : Calls) (x : Next (Run × Cache) CommitAnswer) (n : Run × Cache) (turn : Turn CommitAnswer) → KnowsNext home changes c calls x → Led x n turn
    → MeansWalks home changes c calls (home_of n.0) turn
led_means home changes c calls x n More k led = means_more home changes c calls (home_of n.0) n.0.draft n.0.hand n.1 (subst (KnowsNext home changes c calls) led k)
led_means home changes c calls x n (Ended a) k led = subst (KnowsNext home changes c calls) led k
led_means home changes c calls x n (Stopped t) k led =
    let memory : t ≡ trouble.Memory = only_memory t (λ other. (subst (KnowsNext home changes c calls) (led other) k).means) in
    subst (λ (u : Trouble). MeansWalks home changes c calls (home_of n.0) (Stopped u)) (sym memory) (means_memory home changes c calls (home_of n.0) x k)

took_led : (x : Next (Run × Cache) CommitAnswer) (m : Run × Cache) (a : Answer) (n : Run × Cache) (turn : Turn CommitAnswer) → Took (λ p b next. x ≡ next) KeepsHome m a n turn → Led x n turn
took_led x m a n More took = took
took_led x m a n (Ended z) took = took
took_led x m a n (Stopped t) took = took.0

pub walk_means : (home : Home) (changes : List Noted) (c : Cache) (calls : Calls) (x : Next (Run × Cache) CommitAnswer) (m : Run × Cache) (a : Answer) (n : Run × Cache) (turn : Turn CommitAnswer)
    → KnowsNext home changes c calls x → Took (λ p b next. x ≡ next) KeepsHome m a n turn → MeansWalks home changes c calls (home_of n.0) turn
walk_means home changes c calls x m a n turn k took = led_means home changes c calls x n turn k (took_led x m a n turn took)

-- ---- behind the walks

pub told_append : (later first : List Deed) → told (later ++ first) ≡ told first ++ told later
told_append [] first = sym (append-nil (told first))
told_append (d ∷ later) first =
    ap (λ (l : Calls). l ++ (d.ask, d.answer) ∷ []) (told_append later first) ∙ append_assoc (told first) (told later) ((d.ask, d.answer) ∷ [])

-- the records in hand are those of its begin
pub same_records : (home : Home) (changes : List Noted) (c : Cache) (h : List Deed) (w : Writing) (k : KnowsWrites home changes c h w) → w.records ≡ k.begun_so.records
same_records home changes c h w k =
    (writes_know (walked_home home (uses_of k.begun_so.routed.trips)) changes k.begun_so.records k.start k.begun_so.begins k.later w k.came).0

abbrev pub writing_so : (home : Home) (changes : List Noted) (c : Cache) (h : List Deed) (w : Writing) → KnowsWrites home changes c h w → IsWriting home changes c h w
writing_so home changes c h w k = record {
  later = k.later;
  first = k.first;
  are = k.are;
  routed = record {
    trips = k.begun_so.routed.trips;
    walks = k.begun_so.routed.walks;
    pages = k.begun_so.routed.pages;
    known = k.begun_so.routed.known;
    leaves = k.begun_so.routed.leaves;
    are = same_records home changes c h w k ∙ k.begun_so.routed.are;
  };
  fits = ap passes (same_records home changes c h w k) ∙ k.begun_so.fits;
}

-- ---- at its beginning

answer_in : CommitAnswer → Next (Run × Cache) CommitAnswer → CommitAnswer
answer_in d (Goes m) = d
answer_in d (Ends m a) = a
answer_in d (Stops m t) = d

home_in : Home → Next (Run × Cache) CommitAnswer → Home
home_in d (Goes m) = d
home_in d (Ends m a) = home_of m.0
home_in d (Stops m t) = d

never_stops : (d : Draft) (c : Cache) (t : Trouble) (n : Run × Cache) (u : Trouble) → refused d c t ≡ Stops n u → ⊥
never_stops d c t n u e = absurd (cc (e))

pub ready_means : (home : Home) (changes : List Noted) (c : Cache) (old : Run) (n : Run × Cache) (turn : Turn CommitAnswer) → old ≡ new_run home changes → Led (run_ready (old, c)) n turn
    → MeansReady home changes c (home_of n.0) turn
unfolding answer_in home_in
ready_means home changes c old n turn new led =
    on (ready_leads home changes c) turn (subst (λ (r : Run). Led (run_ready (r, c)) n turn) new led) where
      next : NextRun
      next = run_ready (new_run home changes, c)

      ended : (a : CommitAnswer) → spent_at home changes c ≡ Ends n a → (a ≡ NotCommitted (trouble.Exhausted counter.Txn)) × (home_of n.0 ≡ home)
      ended a e = (sym (ap (answer_in a) e), sym (ap (home_in home) e))

      on : BeginsWith home changes c next → (t : Turn CommitAnswer) → Led next n t → MeansReady home changes c (home_of n.0) t
      on (inl (e, is)) More h = absurd (never_goes (new_draft (waiting home changes)) c (trouble.Exhausted counter.Txn) n (sym is ∙ h))
      on (inl (e, is)) (Ended a) h = let so : (a ≡ NotCommitted (trouble.Exhausted counter.Txn)) × (home_of n.0 ≡ home) = ended a (sym is ∙ h) in inl (e, so.0, so.1)
      on (inl (e, is)) (Stopped t) h = only_memory t (λ other. absurd (never_stops (new_draft (waiting home changes)) c (trouble.Exhausted counter.Txn) n t (sym is ∙ h other)))
      on (inr so) More h = led_means home changes c [] next n More (ready_knows home changes c so.0) h
      on (inr so) (Ended a) h = inr (so.0, led_means home changes c [] next n (Ended a) (ready_knows home changes c so.0) h)
      on (inr so) (Stopped t) h = (led_means home changes c [] next n (Stopped t) (ready_knows home changes c so.0) h).means
