-- What holds of a cloud and of all its sessions holds after every call, begin, crash and wait.
use Rattle.std.proofs.Common.{◌≡◌, ◌≢◌, ◌≤◌, ◌⊎◌, inl, inr, ℕ, List, [], Option, Some, None, refl, sym, ap, subst, ◌∙◌, arith}
use Rattle.std.specs.Prelude.{cond}
use Rattle.std.proofs.lemmas.Bool.{cases_eq}
use Rattle.cloud_facts.specs.Chains.Gones.{Gones}
use Rattle.cloud_facts.specs.Chains.Chain.{ChainHolds}
use Rattle.client_work.specs.Session.{Acting, closed_session, ask_of_work}
use Rattle.cloud_facts.proofs.Calls.Guarding.{others_of}
use Rattle.cloud_facts.proofs.Calls.StandingLemmas.{empty_stands, same_stands}
use Rattle.cloud_facts.specs.Calls.Acting.{footing, exchange, actor, HasLeaseOf, Setting, Outcome, Handles}
use Rattle.cloud_facts.specs.Words.{Lock, Entry, AtomicRec, Answer as Reply, CloudState, newest, Caller, Claim, Lasts, Ask, Get, GetHeld, PutHeld, Send, Receive, Delete, Take, Renew, Release, Book, Store, at, IsIn, store_of, IsCall, StandsUnder}
use Rattle.cloud_facts.specs.Calls.Looks.{has_landed, audit_of}
use Rattle.cloud_facts.specs.Calls.Others.{IsOfPart, NoneJoins}
use Rattle.cloud_trait.specs.declared.state.Hold.{Hold}
use Rattle.cloud_trait.specs.Ask.{ListHeld, RemoveHeld}
use Rattle.cloud_trait.specs.State.{IsEmptyCloud}
use Rattle.cloud_trait.specs.Weather.{counted, Leaves}
use Rattle.session_facts.specs.Machines.Commits.Knows.{MayCommit}
use Rattle.session_facts.proofs.Machines.Commits.Noted.{may_none}
use Rattle.db_base.specs.declared.names.Lock.TheVariants as lock
use Rattle.cloud_facts.specs.Decoding.Decodes.{Decodes}
use Rattle.cloud_facts.specs.Homes.Homes.{Part, Away, AtHome, Opens, Parts, IsLastingPart, IsAlone, AreApart, HomesHold}
use Rattle.cloud_facts.proofs.Homes.HomeLemmas.{none_home, later_keeps as homes_later, away_keeps}
use Rattle.cloud_facts.specs.Landings.Reporting.{IsReportable}
use Rattle.cloud_facts.proofs.Landings.ReportLemmas.{reportable}
use Rattle.cloud_facts.specs.Leases.Guards.{Allowed}
use Rattle.cloud_facts.specs.Leases.Leases.{Hands, Holds, LeasesHold, Owns}
use Rattle.cloud_facts.proofs.Leases.GuardLemmas.{call_is_allowed, lasting_apart}
use Rattle.cloud_facts.proofs.Leases.LeaseLemmas.{leaves_keep, fewer_keeps, later_keeps}
use Rattle.cloud_facts.specs.Numbers.Numbers.{Numbers}
use Rattle.session_facts.specs.Sessions.Audited.{noted_at, noted_in_hand}
use Rattle.session_facts.specs.Sessions.Knows.{ground, leases_of, KnowsWork, Knows, Sessions, hands_of, SessionsStand, Goes}
use Rattle.session_facts.proofs.Sessions.Kept.{KnowsBoth}
use Rattle.session_facts.proofs.Sessions.Others.{knows_others, knows_later, part_lease}
use Rattle.cloud_facts.specs.Book.Book.{empty_book}
use Rattle.cloud_facts.specs.Book.Telling.{tally_of}
use Rattle.cloud_facts.proofs.Book.Names.{at_same, at_other}
use Rattle.cloud_facts.proofs.Book.Places.{in_none}
use Rattle.cloud_facts.proofs.Tellings.Easy.{same_told}
use Rattle.txn_buffer.specs.Noted.{Noted}
use Rattle.session_facts.proofs.Machines.Walks.Caches.{empty_knows}

-- ---- the leases in hand after a call

owned : (hands : Hands) (session : ℕ) (ask : Ask) → Owns (λ n. hands session) session ask → Owns hands session ask
owned hands session (Get name) o = tt
owned hands session (GetHeld name l) o = o
owned hands session (ListHeld tree l) o = o
owned hands session (RemoveHeld name l) o = o
owned hands session (PutHeld name bytes one None) o = o
owned hands session (PutHeld name bytes one (Some two)) o = o
owned hands session (Send queue bytes) o = tt
owned hands session (Receive queue most) o = tt
owned hands session (Delete queue id) o = tt
owned hands session (Take k ticks) o = tt
owned hands session (Renew l ticks) o = o
owned hands session (Release l) o = o

-- what a call leaves of a state, of a call between two states
abbrev leaves_by : (who : Caller) (ask : Ask) (reply : Reply) (s t : CloudState) → (c : IsCall who ask reply s t) → Leaves who ask reply (counted c.before s) c.after (Some t)
leaves_by who ask reply s t c = record { after = t; told = refl; later = c.later; row = c.row }

-- ---- one session changes

-- what holds of the new session, and of the others, holds of all
each_of : (P : Acting → Part → Type 0) (sessions : Sessions) (parts : Parts) (session : ℕ) (new : Acting) (part : Part) → P new part → ((n : ℕ) → n ≢ session → P (sessions n) (parts n))
    → (n : ℕ) → P (at session new sessions n) (at session part parts n)
each_of P sessions parts session new part mine others n = on (cases_eq n session)
  where
    on : (n ≡ session) ⊎ (n ≢ session) → P (at session new sessions n) (at session part parts n)
    on (inl e) = subst (λ a. P a (at session part parts n)) (sym (at_same session new sessions n e)) (subst (λ p. P new p) (sym (at_same session part parts n e)) mine)
    on (inr ne) = subst (λ a. P a (at session part parts n)) (sym (at_other session new sessions n ne)) (subst (λ p. P (sessions n) p) (sym (at_other session part parts n ne)) (others n ne))

hands_at : (sessions : Sessions) (session : ℕ) (new : Acting) → hands_of (at session new sessions) session ≡ leases_of new.work
hands_at sessions session new = ap (λ (a : Acting). leases_of a.work) (at_same session new sessions session refl)

hands_beside : (sessions : Sessions) (session : ℕ) (new : Acting) (n : ℕ) → n ≢ session → hands_of (at session new sessions) n ≡ hands_of sessions n
hands_beside sessions session new n ne = ap (λ (a : Acting). leases_of a.work) (at_other session new sessions n ne)

module _ (who : Caller) (s t : CloudState) (sessions : Sessions) (ask : Ask) (reply : Reply) (call : IsCall who ask reply s t) where
  abbrev mine : List Claim
  mine = hands_of sessions who.session

  -- the leases of all after a call of one
  leases_after : (new : Acting) → Handles (exchange who s t ask reply) mine (leases_of new.work) → LeasesHold s.now s.locks (hands_of sessions) → LeasesHold t.now t.locks (hands_of (at who.session new sessions))
  leases_after new h leases =
      leaves_keep who ask reply _ _ h.renewed s (Some t) (leaves_by who ask reply s t call) (hands_of sessions) (hands_of (at who.session new sessions))
      (owned (hands_of sessions) who.session ask h.owns) h.renews
      (record { others = λ n ne. hands_beside sessions who.session new n ne; own = λ x holds. h.own x (subst (λ ls. IsIn ls x) (hands_at sessions who.session new) holds) }) leases

  allowed_by : (after : List Claim) → Handles (exchange who s t ask reply) mine after → Allowed (hands_of sessions) who.session s t
  allowed_by after h = call_is_allowed who ask reply _ _ s (Some t) (leaves_by who ask reply s t call) (hands_of sessions) (owned (hands_of sessions) who.session ask h.owns) h.guarded

-- ---- what stands before a call

module _ (book : Book) (order : List Entry) (s : CloudState) (sessions : Sessions) (stand : SessionsStand book order s sessions) where
  -- the lease of each part is in hand
  lease_there : (other : ℕ) → HasLeaseOf (hands_of sessions other) (stand.parts other)
  lease_there other = part_lease (store_of book order s) s.now (sessions other).cache (sessions other).work (stand.parts other) (stand.each other).work

  -- a lease in hand of a client that lasts later lasts now, and no other session has a lasting one
  alone_at : (now session : ℕ) (l : Claim) (client : ℕ) → s.now ≤ now → IsIn (hands_of sessions session) l → l.lock ≡ lock.Client client → Lasts now l → IsAlone now stand.parts session client
  alone_at now session l client later here at lasts other ne = on (stand.parts other) refl
    where
      never : (k : Claim) → IsIn (hands_of sessions other) k → k.lock ≡ lock.Client client → Lasts now k → ⊥
      never k there lock_is lasting =
          lasting_apart s.now s.locks (hands_of sessions) other session (lock.Client client) stand.leases ne
          (record { lease = k; held = there; lock = lock_is; lasts = omega (arith, lasting, later) })
          (record {
            lease = l;
            held = here;
            lock = at;
            current = (stand.leases.each session l here).lasting (omega (arith, lasts, later)) ∙ ap (λ (q : Lock). (s.locks q).generation) at;
          })

      on : (p : Part) → stand.parts other ≡ p → IsLastingPart now client p → ⊥
      on Away e never_lasts = never_lasts
      on (AtHome h) e (same, lasting) =
          let has : HasLeaseOf (hands_of sessions other) (AtHome h) = subst (HasLeaseOf (hands_of sessions other)) e (lease_there other) in
          never h.lease has.0 (has.1 ∙ ap (λ c. lock.Client c) same) lasting
      on (Opens o) e (same, lasting) =
          let has : HasLeaseOf (hands_of sessions other) (Opens o) = subst (HasLeaseOf (hands_of sessions other)) e (lease_there other) in
          never o.lease has.0 (has.1 ∙ ap (λ c. lock.Client c) same) lasting

  pub setting_of : (now session : ℕ) → s.now ≤ now → Setting (footing book order s) now (actor stand.parts session (leases_of (sessions session).work))
  setting_of now session later = record {
    cloud = stand.cloud;
    homes = homes_later (store_of book order s).tally s.now now stand.parts later stand.homes;
    alone = λ l client here at lasts. alone_at now session l client later here at lasts;
  }

  -- what the session's work knows when the call is over, as far as time goes
  pub known_at : (now session : ℕ) → s.now ≤ now → KnowsWork (store_of book order s) now (sessions session).cache (sessions session).work (stand.parts session)
  known_at now session later = (knows_later (store_of book order s) s.now now (sessions session) (stand.parts session) later (stand.each session)).work

-- ---- a call

-- what joins the log by a call of a session is of its own home, so none is of another one's
none_joins : (st su : Store) (now : ℕ) (parts : Parts) (session n : ℕ) → n ≢ session → HomesHold st.tally now parts
    → ((r : AtomicRec) → IsIn su.book.log r → IsIn st.book.log r ⊎ IsOfPart (parts session) r) → NoneJoins (parts n) st su
none_joins st su now parts session n ne homes joins r is of = on (joins r is)
  where
    never : (p q : Part) → AreApart now p q → IsOfPart p r → IsOfPart q r → ⊥
    never (AtHome g) (AtHome h) apart a b = apart (sym a.0 ∙ b.0) (sym a.1 ∙ b.1)
    never Away q apart a b = a
    never (Opens o) q apart a b = a
    never (AtHome g) Away apart a b = b
    never (AtHome g) (Opens o) apart a b = b

    on : IsIn st.book.log r ⊎ IsOfPart (parts session) r → IsIn st.book.log r
    on (inl old) = old
    on (inr mine) = absurd (never (parts session) (parts n) (homes.apart session n (λ e. ne (sym e))) mine of)

-- what a call of a session leaves, by what it leaves of the cloud and of its own leases
pub call_goes : (who : Caller) (s t : CloudState) (book : Book) (order : List Entry) (sessions : Sessions) (new : Acting) (ask : Ask) (reply : Reply) → (stand : SessionsStand book order s sessions)
    → MayCommit new.buffer → IsCall who ask reply s t → ask_of_work (sessions who.session).work ≡ Some ask
    → Handles (exchange who s t ask reply) (leases_of (sessions who.session).work) (leases_of new.work)
    → Outcome (footing book order s) t (actor stand.parts who.session (hands_of sessions who.session)) ask (noted_at (sessions who.session).work ask)
    (KnowsBoth new.cache new.work)
    → Goes (ground book order s sessions) t who.session new
call_goes who s t book order sessions new ask reply stand may call asks h o = record {
  book_after = o.book_after;
  order_after = o.order_after;
  stand = record {
    cloud = o.cloud;
    leases = leases_after who s t sessions ask reply call new h stand.leases;
    parts = at who.session o.part stand.parts;
    homes = o.homes;
    each = each_of (Knows (store_of o.book_after o.order_after t) t.now) sessions stand.parts who.session new o.part (record { work = o.knows.0; kept = o.knows.1; buffer = may }) others;
  };
  log_goes_on = o.passes.grows.log;
  order_goes_on = o.passes.grows.order;
  grows = o.passes.grows;
  noted = ap (λ (q : Option Ask). cond (has_landed (newest s) (newest t) q) (noted_in_hand (sessions who.session).work q (audit_of book order)) (audit_of book order)) asks ∙ o.noted;
}
  where
    others : (n : ℕ) → n ≢ who.session → Knows (store_of o.book_after o.order_after t) t.now (sessions n) (stand.parts n)
    others n ne =
        knows_others (store_of book order s) (store_of o.book_after o.order_after t) s.now t.now (sessions n) (stand.parts n) call.later
        (others_of book o.book_after order o.order_after s t (hands_of sessions) who.session n stand.cloud o.cloud stand.leases
        (allowed_by who s t sessions ask reply call (leases_of new.work) h) ne o.passes o.links o.gone)
        (none_joins (store_of book order s) (store_of o.book_after o.order_after t) s.now stand.parts who.session n ne stand.homes o.joins) (stand.each n)

-- ---- what leaves the cloud alone

-- a session has in hand no leases but those that it had, and knows what it has to of its part
pub session_changes : (book : Book) (order : List Entry) (s : CloudState) (sessions : Sessions) (session : ℕ) (new : Acting) (part : Part) → (stand : SessionsStand book order s sessions)
    → ((x : Claim) → IsIn (leases_of new.work) x → IsIn (leases_of (sessions session).work) x) → HomesHold (store_of book order s).tally s.now (at session part stand.parts)
    → Knows (store_of book order s) s.now new part → SessionsStand book order s (at session new sessions)
session_changes book order s sessions session new part stand fewer homes knows = record {
  cloud = stand.cloud;
  leases = fewer_keeps s.now s.locks (hands_of sessions) (hands_of (at session new sessions)) (λ n x holds. within n x holds (cases_eq n session)) stand.leases;
  parts = at session part stand.parts;
  homes = homes;
  each = each_of (Knows (store_of book order s) s.now) sessions stand.parts session new part knows (λ n ne. stand.each n);
}
  where
    within : (n : ℕ) (x : Claim) → Holds (hands_of (at session new sessions)) n x → (n ≡ session) ⊎ (n ≢ session) → Holds (hands_of sessions) n x
    within n x holds (inr ne) = subst (λ ls. IsIn ls x) (hands_beside sessions session new n ne) holds
    within n x holds (inl e) =
        subst (λ k. Holds (hands_of sessions) k x) (sym e)
        (fewer x (subst (λ ls. IsIn ls x) (hands_at sessions session new) (subst (λ k. Holds (hands_of (at session new sessions)) k x) e holds)))

-- the same part
same_part : (book : Book) (order : List Entry) (s : CloudState) (sessions : Sessions) (session : ℕ) (stand : SessionsStand book order s sessions)
    → HomesHold (store_of book order s).tally s.now (at session (stand.parts session) stand.parts)
same_part book order s sessions session stand = subst (HomesHold (store_of book order s).tally s.now) (sym same) stand.homes
  where
    same_at : (n : ℕ) → (n ≡ session) ⊎ (n ≢ session) → at session (stand.parts session) stand.parts n ≡ stand.parts n
    same_at n (inl e) = at_same session (stand.parts session) stand.parts n e ∙ ap stand.parts (sym e)
    same_at n (inr ne) = at_other session (stand.parts session) stand.parts n ne

    same : at session (stand.parts session) stand.parts ≡ stand.parts
    same = λ i n. same_at n (cases_eq n session) i

-- a session changes, and its part stays
pub session_rests : (book : Book) (order : List Entry) (s : CloudState) (sessions : Sessions) (session : ℕ) (new : Acting) → (stand : SessionsStand book order s sessions)
    → ((x : Claim) → IsIn (leases_of new.work) x → IsIn (leases_of (sessions session).work) x) → Knows (store_of book order s) s.now new (stand.parts session)
    → SessionsStand book order s (at session new sessions)
session_rests book order s sessions session new stand fewer knows =
    session_changes book order s sessions session new (stand.parts session) stand fewer (same_part book order s sessions session stand) knows

-- a session that drops its part
pub session_leaves : (book : Book) (order : List Entry) (s : CloudState) (sessions : Sessions) (session : ℕ) (new : Acting) → (stand : SessionsStand book order s sessions)
    → ((x : Claim) → IsIn (leases_of new.work) x → IsIn (leases_of (sessions session).work) x) → Knows (store_of book order s) s.now new Away
    → SessionsStand book order s (at session new sessions)
session_leaves book order s sessions session new stand fewer knows =
    session_changes book order s sessions session new Away stand fewer (away_keeps (store_of book order s).tally s.now stand.parts session stand.homes) knows

-- a crash, in any state
pub crash_keeps : (book : Book) (order : List Entry) (s : CloudState) (sessions : Sessions) (session : ℕ) → SessionsStand book order s sessions
    → SessionsStand book order s (at session closed_session sessions)
crash_keeps book order s sessions session stand =
    session_leaves book order s sessions session closed_session stand (λ x is. absurd (in_none [] x refl is)) (record { work = refl; kept = empty_knows (store_of book order s); buffer = may_none })

-- what was noted changes
pub buffer_keeps : (book : Book) (order : List Entry) (s : CloudState) (sessions : Sessions) (session : ℕ) (buffer : List Noted) → MayCommit buffer → SessionsStand book order s sessions
    → SessionsStand book order s (at session (record (sessions session) { buffer = buffer }) sessions)
buffer_keeps book order s sessions session buffer may stand =
    session_rests book order s sessions session (record (sessions session) { buffer = buffer }) stand (λ x is. is)
    (record { work = (stand.each session).work; kept = (stand.each session).kept; buffer = may })

-- the clock goes on, a wish is set, a wait is counted
pub rest_keeps : (book : Book) (order : List Entry) (s t : CloudState) (sessions : Sessions) → t.versions ≡ s.versions → t.messages ≡ s.messages → t.trace ≡ s.trace → t.locks ≡ s.locks → s.now ≤ t.now
    → SessionsStand book order s sessions → SessionsStand book order t sessions
rest_keeps book order s t sessions versions messages trace locks later stand = record {
  cloud = same_stands book order s t versions messages trace stand.cloud;
  leases = subst (λ (ls : Lock → Hold). LeasesHold t.now ls (hands_of sessions)) (sym locks) (later_keeps s.now t.now s.locks (hands_of sessions) later stand.leases);
  parts = stand.parts;
  homes = subst (λ (st : Store). HomesHold st.tally t.now stand.parts) (sym same) (homes_later (store_of book order s).tally s.now t.now stand.parts later stand.homes);
  each = λ n. subst (λ (st : Store). Knows st t.now (sessions n) (stand.parts n)) (sym same) (knows_later (store_of book order s) s.now t.now (sessions n) (stand.parts n) later (stand.each n));
}
  where
    same : store_of book order t ≡ store_of book order s
    same = let told : tally_of book t ≡ tally_of book s = same_told book s t versions messages in λ i. record { tally = told i; book = book; order = order }

-- the same sessions
pub same_sessions : (book : Book) (order : List Entry) (s : CloudState) (f g : Sessions) → ((n : ℕ) → g n ≡ f n) → SessionsStand book order s f → SessionsStand book order s g
same_sessions book order s f g same = subst (SessionsStand book order s) (sym alike)
  where
    alike : g ≡ f
    alike = λ i n. same n i

-- ---- with no session

-- a cloud that stands does so with all sessions closed
pub none_open : (book : Book) (order : List Entry) (s : CloudState) → StandsUnder book order s → SessionsStand book order s (λ n. closed_session)
none_open book order s cloud = record {
  cloud = cloud;
  leases = record {
    each = λ n l holds. absurd (in_none [] l refl holds);
    apart = λ n u l m ne one two e. in_none [] l refl one;
  };
  parts = λ n. Away;
  homes = none_home (store_of book order s).tally s.now;
  each = λ n. record { work = refl; kept = empty_knows (store_of book order s); buffer = may_none };
}

-- at the beginning
pub starts : (s : CloudState) → IsEmptyCloud s → SessionsStand empty_book [] s (λ n. closed_session)
starts s empty = none_open empty_book [] s (empty_stands s empty)

-- ---- at a report

pub reports : (book : Book) (order : List Entry) (s : CloudState) (sessions : Sessions) → SessionsStand book order s sessions → (tree : ℕ) → IsReportable (store_of book order s) tree
reports book order s sessions stand tree = reportable (store_of book order s) stand.cloud.holds tree

pub chains : (book : Book) (order : List Entry) (s : CloudState) (sessions : Sessions) → SessionsStand book order s sessions → ChainHolds (store_of book order s)
chains book order s sessions stand = stand.cloud.holds.chains

pub gones : (book : Book) (order : List Entry) (s : CloudState) (sessions : Sessions) → SessionsStand book order s sessions → Gones (store_of book order s)
gones book order s sessions stand = stand.cloud.holds.gones

pub decodes : (book : Book) (order : List Entry) (s : CloudState) (sessions : Sessions) → SessionsStand book order s sessions → Decodes s
decodes book order s sessions stand = stand.cloud.decodes

pub numbers : (book : Book) (order : List Entry) (s : CloudState) (sessions : Sessions) → SessionsStand book order s sessions → Numbers (store_of book order s)
numbers book order s sessions stand = stand.cloud.holds.numbers
