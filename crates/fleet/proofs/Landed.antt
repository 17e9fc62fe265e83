-- The put that commits, once it was done: all changes of the commit joined what was committed, and nothing else did.
use Rattle.std.proofs.Common.{◌≡◌, ◌≤◌, ℕ, zero, suc, Bool, true, false, List, [], ◌∷◌, ◌++◌, length, map, Some, refl, sym, ap, subst, ◌∙◌, arith}
use Rattle.std.specs.Prelude.{slice_get, if◌then◌else◌}
use Rattle.client_work.specs.Session.{ask_of_work}
use Rattle.client_work.specs.declared.work.Work.TheVariants.{Committing}
use Rattle.cloud_facts.specs.Book.Records.{entry_of, entries_of, IsIn}
use Rattle.cloud_facts.specs.Calls.Looks.{Newest, has_landed, audit_of}
use Rattle.cloud_facts.specs.Homes.Homes.{Home, Part}
use Rattle.cloud_facts.specs.Words.{Answer as Reply, AtomicRec, Entry, Store}
use Rattle.cloud_trait.specs.Growth.{BeginsWith}
use Rattle.commit_run.specs.Run.{Run, ask_at as run_ask_at}
use Rattle.commit_run.specs.declared.hand.Hand.{Hand}
use Rattle.commit_run.specs.declared.hand.Hand.TheVariants.{Writes}
use Rattle.commit_writes.specs.Writing.{Writing, ask_at}
use Rattle.commit_writes.specs.declared.stage.Stage.{Stage}
use Rattle.commit_writes.specs.declared.stage.Stage.TheVariants.{Waiting, Logging, Opening, Sending, Settling, Deleting, Finished}
use Rattle.fleet.proofs.Opened.{is_open_at, is_open_in, IsOpen, Opens, IsSame}
use Rattle.fleet.specs.Kept.{entries_of_run}
use Rattle.history.specs.Audited.{Audited, committed_entry}
use Rattle.page_cache.specs.Cache.{Cache}
use Rattle.session_facts.specs.Machines.CommitRuns.Knows.{KnowsHand, KnowsRun}
use Rattle.session_facts.specs.Machines.Commits.Knows.{attempt_of, IsOfAttempt, IsLogged, HasCommitted, KnowsCommitAt, OpensBehind}
use Rattle.session_facts.specs.Sessions.Audited.{noted_in_hand, audited}
use Rattle.txn_buffer.specs.Noted.{Noted}
use Rattle.commit_run.specs.Draft.{Draft}

-- ---- what is known before it and behind it

-- the put that commits is in hand: nothing of its transaction is committed, and there are changes
known_before : (st : Store) (now : ℕ) (r : Run) (c : Cache) (part : Part) (a : Reply) → Opens r a → KnowsRun st now (r, c) part → (g : Home) × OpensBehind st now r.draft.writes g
known_before st now r c part a o k = by_hand r.hand o.hand k.hand
  where
    at_stage : (stage : Stage) (g : Home) → stage ≡ Opening → KnowsCommitAt stage st now r.draft.writes g → OpensBehind st now r.draft.writes g
    at_stage stage g is = subst (λ s. KnowsCommitAt s st now r.draft.writes g → OpensBehind st now r.draft.writes g) (sym is) (λ b. b)

    by_hand : (hand : Hand) → hand ≡ Writes → KnowsHand hand st now r.draft part → (g : Home) × OpensBehind st now r.draft.writes g
    by_hand hand is =
        subst (λ h. KnowsHand h st now r.draft part → (g : Home) × OpensBehind st now r.draft.writes g) (sym is)
        (λ b. (b.home, at_stage r.draft.writes.stage b.home o.stage b.at))

-- behind it all its changes are
committed_at : (stage : Stage) (st : Store) (now : ℕ) (w : Writing) (g : Home) → is_open_at stage ≡ true → KnowsCommitAt stage st now w g → HasCommitted st.book.log (attempt_of w) w.changes
committed_at Sending st now w g e k = k.committed
committed_at Settling st now w g e k = k.committed
committed_at Deleting st now w g e k = k.committed
committed_at Waiting st now w g e k = absurd (cc (e))
committed_at Logging st now w g e k = absurd (cc (e))
committed_at Opening st now w g e k = absurd (cc (e))
committed_at Finished st now w g e k = absurd (cc (e))

known_behind : (st : Store) (now : ℕ) (m : Run) (c : Cache) (part : Part) → IsOpen m → KnowsRun st now (m, c) part → HasCommitted st.book.log (attempt_of m.draft.writes) m.draft.writes.changes
known_behind st now m c part = on m.hand
  where
    on : (hand : Hand) → is_open_in hand m.draft.writes.stage ≡ true → (k : KnowsRun st now (record { draft = m.draft; hand = hand }, c) part)
        → HasCommitted st.book.log (attempt_of m.draft.writes) m.draft.writes.changes
    on Writes e k = committed_at m.draft.writes.stage st now m.draft.writes k.hand.home e k.hand.at
    on hand e k = absurd (cc (e))

-- ---- the log

-- where no entry joined, no record did
same_log : (log more : List AtomicRec) → entries_of (log ++ more) ≡ entries_of log → (r : AtomicRec) (place : ℕ) → slice_get (log ++ more) place ≡ Some r → IsIn log r
same_log [] [] same r place there = (place, there)
same_log [] (x ∷ xs) same r place there = absurd (cc (same))
same_log (x ∷ xs) more same r zero there = (zero, there)
same_log (x ∷ xs) more same r (suc place) there = let rest = same_log xs more (tails same) r place there in (suc rest.0, rest.1)
  where
    tails : entry_of x ∷ entries_of (xs ++ more) ≡ entry_of x ∷ entries_of xs → entries_of (xs ++ more) ≡ entries_of xs
    tails e = cc

-- ---- what the put adds

opening_noted : (d : Draft) (hand : Hand) (a : Audited) → hand ≡ Writes → d.writes.stage ≡ Opening
    → (noted_in_hand (Committing (record { draft = d; hand = hand })) (Some (run_ask_at hand d.writes)) a).committed
    ≡ a.committed ++ map (committed_entry d.writes.home.client d.writes.home.head.epoch d.writes.home.head.txn) d.writes.changes
opening_noted d hand a is_hand is_stage = subst P (sym is_hand) (subst Q (sym is_stage) refl)
  where
    added : List Entry
    added = a.committed ++ map (committed_entry d.writes.home.client d.writes.home.head.epoch d.writes.home.head.txn) d.writes.changes

    P : Hand → Type 0
    P h = (noted_in_hand (Committing (record { draft = d; hand = h })) (Some (run_ask_at h d.writes)) a).committed ≡ added

    Q : Stage → Type 0
    Q s =
        (noted_in_hand (Committing (record { draft = record d { writes = record d.writes { stage = s } }; hand = Writes })) (Some (ask_at s d.writes)) a).committed
        ≡ added

-- a change stands at the first place
first_of : (changes : List Noted) → 1 ≤ length changes → (n : Noted) × (slice_get changes 0 ≡ Some n)
first_of [] some = absurd (omega (arith, some))
first_of (n ∷ changes) some = (n, refl)

module _ (r m : Run) (a : Reply) (opens : Opens r a) (same : IsSame r.draft.writes m.draft.writes) (is : IsOpen m) where
  abbrev w : Writing
  w = r.draft.writes

  -- what is of the transaction behind it was so before
  of_same : (x : AtomicRec) → IsOfAttempt (attempt_of m.draft.writes) x → IsOfAttempt (attempt_of w) x
  of_same x of = record { client_is = of.client_is ∙ same.client; epoch_is = of.epoch_is ∙ same.epoch; txn_is = of.txn_is ∙ same.attempt }

  -- it was seen to land, since what was not there before is there behind it
  not_unseen : (log more : List AtomicRec) → entries_of (log ++ more) ≡ entries_of log → ((x : AtomicRec) → IsIn log x → IsOfAttempt (attempt_of w) x → ⊥)
      → HasCommitted (log ++ more) (attempt_of m.draft.writes) m.draft.writes.changes → 1 ≤ length w.changes → ⊥
  not_unseen log more e fresh committed some =
      let first : (n : Noted) × (slice_get w.changes 0 ≡ Some n) = first_of w.changes some in
      let logged : IsLogged (log ++ more) (attempt_of m.draft.writes) 0 first.0 = committed 0 first.0 (ap (λ cs. slice_get cs 0) same.changes ∙ first.1) in
      fresh logged.of (same_log log more e logged.of logged.logged.0 logged.logged.1) (of_same logged.of logged.is)

  module _ (st su : Store) (now later : ℕ) (c d : Cache) (part other : Part) (before : KnowsRun st now (r, c) part) (behind : KnowsRun su later (m, d) other) where
    known : (g : Home) × OpensBehind st now w g
    known = known_before st now r c part a opens before

    module _ (x y : Newest) (order after : List Entry) (begins : BeginsWith st.book.log su.book.log)
        (noted : audited x y (Committing r) (audit_of st.book order) ≡ audit_of su.book after) where
      seen : (b : Bool) → has_landed x y (ask_of_work (Committing r)) ≡ b → (old : Audited)
          → (if b then noted_in_hand (Committing r) (ask_of_work (Committing r)) old else old).committed
          ≡ old.committed ++ entries_of_run w.home.head.epoch w.home.attempt r
      seen true e old =
          opening_noted r.draft r.hand old opens.hand opens.stage
          ∙ ap (λ txn. old.committed ++ map (committed_entry w.home.client w.home.head.epoch txn) w.changes) (ap (λ h. h.txn) known.1.head)
      seen false e old =
          absurd (not_unseen st.book.log begins.0 (sym (ap entries_of begins.1) ∙ none) known.1.routes.uncommitted
          (subst (λ log. HasCommitted log (attempt_of m.draft.writes) m.draft.writes.changes) begins.1 (known_behind su later m d other is behind)) known.1.routes.some)
        where
          none : entries_of su.book.log ≡ entries_of st.book.log
          none =
              ap (λ (z : Audited). z.committed) (sym noted)
              ∙ ap (λ b. (if b then noted_in_hand (Committing r) (ask_of_work (Committing r)) (audit_of st.book order) else audit_of st.book order).committed) e

      -- what was committed goes on with all changes of the commit
      pub put_adds : (old : Audited) → (audited x y (Committing r) old).committed ≡ old.committed ++ entries_of_run w.home.head.epoch w.home.attempt r
      put_adds old = seen (has_landed x y (ask_of_work (Committing r))) refl old
