-- The one step of a close and of a renewal.
use Rattle.std.proofs.Common.{◌≡◌, ◌≢◌, ◌≤◌, ◌⊎◌, inl, inr, ℕ, List, [], ◌∷◌, Some, refl, sym, ap, subst, ◌∙◌}
use Rattle.std.proofs.lemmas.Bool.{cases_eq}
use Rattle.client_work.specs.Session.{stopped_work}
use Rattle.client_work.specs.declared.answer.Answer.{Answer}
use Rattle.client_work.specs.declared.answer.Answer.TheVariants as answer
use Rattle.client_work.specs.declared.work.Work.{Work}
use Rattle.client_work.specs.declared.work.Work.TheVariants.{Closed, Idle, Closing, Renewing, Broken}
use Rattle.cloud_facts.specs.Calls.Acting.{Footing, footing, exchange, actor, opened_client, KnowsHome, Setting, Outcome, Handles}
use Rattle.cloud_facts.specs.Words.{Trouble, Entry, Answer as Reply, Turn, More, Ended, Stopped, CloudState, called, Caller, Seen, Claim, Lasts, Ask, Renew, Release, Book, Store, at, IsIn, store_of, IsCall}
use Rattle.cloud_facts.proofs.Calls.Calls.{call_of, permitted}
use Rattle.cloud_facts.proofs.Calls.Outcomes.{quiet, gives_up}
use Rattle.cloud_trait.specs.declared.answer.Answer.TheVariants.{Renewed, Late, Failed, Memory}
use Rattle.cloud_trait.specs.Claim.{extended}
use Rattle.cloud_trait.specs.Weather.{leased, Makes, RenewsBoth, RenewsLease}
use Rattle.db_base.specs.declared.trouble.Trouble.TheVariants as trouble
use Rattle.history.specs.Audited.{Audited}
use Rattle.cloud_facts.specs.Homes.Homes.{Part, Away, AtHome, Parts, HomesHold}
use Rattle.cloud_facts.proofs.Homes.HomeLemmas.{renews_keeps}
use Rattle.page_cache.specs.Cache.{Cache}
use Rattle.recover_run.specs.declared.home.Home.{Home}
use Rattle.session_facts.specs.Sessions.Knows.{leases_of, IsHome, KnowsWork}
use Rattle.session_facts.specs.Sessions.Led.{LedClosing, LedRenewing}
use Rattle.session_facts.proofs.Sessions.Kept.{KnowsBoth, with_cache}
use Rattle.cloud_facts.proofs.Book.Names.{at_same, at_other}
use Rattle.cloud_facts.proofs.Book.Places.{get_single, in_none}
use Rattle.session_facts.specs.Machines.Walks.Caches.{KnowsCache}

-- a session's work and what a call makes of it, with the cache that it leaves
pub record Passage : Type 0 where
  pub who : Caller
  pub work : Work
  pub after : Work
  pub cache : Cache

abbrev pub passage : Caller → Work → Work → Cache → Passage
passage who work after c = record { who = who; work = work; after = after; cache = c }

-- what a step of a session's work is, between two states
pub record IsStepOf (on : Footing) (t : CloudState) (parts : Parts) (ask : Ask) (note : Audited → Audited) (p : Passage) : Type 0 where
  pub reply : Reply
  pub call : IsCall p.who ask reply on.state t
  pub handles : Handles (exchange p.who on.state t ask reply) (leases_of p.work) (leases_of p.after)
  pub outcome : Outcome on t (actor parts p.who.session (leases_of p.work)) ask note (KnowsBoth p.cache p.after)

-- a session's part stays
pub part_again : (parts : Parts) (session : ℕ) (part : Part) → parts session ≡ part → at session part parts ≡ parts
part_again parts session part e = λ i n. same n (cases_eq n session) i
  where
    same : (n : ℕ) → (n ≡ session) ⊎ (n ≢ session) → at session part parts n ≡ parts n
    same n (inl f) = at_same session part parts n f ∙ (sym e ∙ ap parts (sym f))
    same n (inr ne) = at_other session part parts n ne

-- ---- a close

module _ (who : Caller) (before after : Seen) (book : Book) (order : List Entry) (s t : CloudState) (parts : Parts) (lease : Claim)
    (setting : s.now ≤ t.now → Setting (footing book order s) t.now (actor parts who.session (lease ∷ []))) (part_is : parts who.session ≡ Away) (c : Cache) (kept : KnowsCache (store_of book order s) c)
    (e : before.state ≡ Some s) (f : after.state ≡ Some t) where
  module _ (reply : Reply) (made : Makes who (Release lease) reply before after) where
    abbrev Closes : Work → Type 0
    Closes work = IsStepOf (footing book order s) t parts (Release lease) (λ a. a) (passage who (Closing lease) work c)

    released : (work : Work) → work ≡ Closed → Closes work
    released work closed =
        let call = call_of who (Release lease) reply before after s t made e f in
        record {
          reply = reply;
          call = call;
          handles = record {
            owns = (0, refl);
            guarded = tt;
            renewed = lease;
            renews = tt;
            own = λ x is. absurd (in_none [] x refl (subst (λ (w : Work). IsIn (leases_of w) x) closed is));
          };
          outcome = with_cache who book order s t parts (lease ∷ []) (Release lease) (λ a. a) c work kept
              (quiet who book order s t parts (lease ∷ []) (Release lease) (λ a. a) (λ st now part. KnowsWork st now c work part) reply call tt tt (setting call.later).cloud Away
              (subst (HomesHold (store_of book order s).tally t.now) (sym (part_again parts who.session Away part_is)) (setting call.later).homes)
              (subst (λ (w : Work). KnowsWork (store_of book order s) t.now c w Away) (sym closed) refl));
        }

    pub closing_step : (work : Work) (turn : Turn Answer) → LedClosing reply work turn → Closes work
    closing_step work (Ended answer.Closed) (done, is) = released work is
    closing_step work (Ended (answer.Trouble k)) (stopped, is) = released work is
    closing_step work More never = absurd never
    closing_step work (Stopped k) never = absurd never
    closing_step work (Ended (answer.Opened epoch)) never = absurd never
    closing_step work (Ended (answer.Renewed end)) never = absurd never
    closing_step work (Ended (answer.Commit a)) never = absurd never
    closing_step work (Ended answer.Value) never = absurd never
    closing_step work (Ended answer.Scan) never = absurd never
    closing_step work (Ended (answer.Settled n)) never = absurd never
    closing_step work (Ended (answer.Swept x)) never = absurd never
    closing_step work (Ended (answer.Done n)) never = absurd never

-- ---- a renewal

-- what it leaves of the lease, between two states
pub renews_both : (who : Caller) (l m : Claim) (reply : Reply) (before after : Seen) (s t : CloudState) → IsCall who (Renew l 600) reply s t → before.state ≡ Some s → after.state ≡ Some t
    → RenewsLease who 600 reply (leased l before) (leased m after) → RenewsBoth who 600 l m (called who t.now s) t
renews_both who l m (Renewed end) before after s t call e f is = inr (call.row.0, is ∙ ap (extended l) call.row.1)
renews_both who l m Failed before after s t call e f is = is.1 s t e f
renews_both who l m (Late end now) before after s t call e f is = inl (call.row.0, is)
renews_both who l m Memory before after s t call e f is = inl (call.row, is)
renews_both who l m reply before after s t call e f is = absurd call.row

-- a lease that lasts then lasted before
renewed_lasts : (who : Caller) (l m : Claim) (s t : CloudState) → RenewsBoth who 600 l m (called who t.now s) t → Lasts t.now m → Lasts t.now l
renewed_lasts who l m s t (inl p) lasts = subst (Lasts t.now) p.1 lasts
renewed_lasts who l m s t (inr p) lasts = permitted who (Renew l 600) (called who t.now s) t p.0

renewed_lock : (who : Caller) (l m : Claim) (s t : CloudState) → RenewsBoth who 600 l m (called who t.now s) t → m.lock ≡ l.lock
renewed_lock who l m s t (inl p) = ap (λ (x : Claim). x.lock) p.1
renewed_lock who l m s t (inr p) = ap (λ (x : Claim). x.lock) p.1

module _ (who : Caller) (before after : Seen) (book : Book) (order : List Entry) (s t : CloudState) (parts : Parts) (home : Home)
    (set : s.now ≤ t.now → Setting (footing book order s) t.now (actor parts who.session (home.lease ∷ []))) (knows_at : s.now ≤ t.now → IsHome (store_of book order s) t.now home (parts who.session))
    (c : Cache) (kept : KnowsCache (store_of book order s) c) (e : before.state ≡ Some s) (f : after.state ≡ Some t) where
  abbrev st : Store
  st = store_of book order s

  module _ (reply : Reply) (made : Makes who (Renew home.lease 600) reply before after) where
    call : IsCall who (Renew home.lease 600) reply s t
    call = call_of who (Renew home.lease 600) reply before after s t made e f

    abbrev Stepped : Work → Type 0
    Stepped work = IsStepOf (footing book order s) t parts (Renew home.lease 600) (λ a. a) (passage who (Renewing home) work c)

    -- what the renewal leaves of the lease
    abbrev Renews : Claim → Type 0
    Renews l = RenewsLease who 600 reply (leased home.lease before) (leased l after)

    setting : Setting (footing book order s) t.now (actor parts who.session (home.lease ∷ []))
    setting = set call.later

    knows : KnowsHome st t.now (opened_client home.client home.lease home.head home.attempt) (parts who.session)
    knows = (knows_at call.later).at

    module _ (l : Claim) (renews : Renews l) where
      abbrev new : Home
      new = record home { lease = l }

      both : RenewsBoth who 600 home.lease l (called who t.now s) t
      both = renews_both who home.lease l reply before after s t call e f renews

      lasted : Lasts t.now l → Lasts t.now home.lease
      lasted = renewed_lasts who home.lease l s t both

      -- the part with the lease that is left
      abbrev part : Part
      part = AtHome (record knows.home { lease = l })

      homes : HomesHold st.tally t.now (at who.session part parts)
      homes = renews_keeps st.tally t.now parts who.session knows.home l knows.part_is (λ lasts. subst (Lasts t.now) (sym knows.lease_is) (lasted lasts)) setting.homes

      home_after : IsHome st t.now new part
      home_after = record {
        at = record {
          is_client = knows.is_client;
          lock_is = renewed_lock who home.lease l s t both ∙ knows.lock_is;
          within = knows.within;
          settled = knows.settled;
          newest = λ lasts. knows.newest (lasted lasts);
          home = record knows.home { lease = l };
          part_is = refl;
          client_is = knows.client_is;
          lease_is = refl;
          epoch_is = knows.epoch_is;
          begun = knows.begun;
        };
        trees = (knows_at call.later).trees;
        of_records = (knows_at call.later).of_records;
        counted = (knows_at call.later).counted;
      }

      open_outcome : Outcome (footing book order s) t (actor parts who.session (home.lease ∷ [])) (Renew home.lease 600) (λ a. a) (λ su now p. IsHome su now new p)
      open_outcome = quiet who book order s t parts (home.lease ∷ []) (Renew home.lease 600) (λ a. a) (λ su now p. IsHome su now new p) reply call tt tt setting.cloud part homes home_after

      hands : (work : Work) → ((x : Claim) → IsIn (leases_of work) x → x ≡ l) → Handles (exchange who s t (Renew home.lease 600) reply) (home.lease ∷ []) (leases_of work)
      hands work only = record { owns = (0, refl); guarded = tt; renewed = l; renews = both; own = λ x is. inr (only x is) }

      stays_open : (work : Work) → work ≡ Idle new → Stepped work
      stays_open work is = subst Stepped (sym is) (record {
        reply = reply;
        call = call;
        handles = hands (Idle new) (λ x there. sym (get_single l there.0 x there.1));
        outcome = with_cache who book order s t parts (home.lease ∷ []) (Renew home.lease 600) (λ a. a) c (Idle new) kept open_outcome;
      })

      breaks : (work : Work) → work ≡ Broken l → Stepped work
      breaks work is = subst Stepped (sym is) (record {
        reply = reply;
        call = call;
        handles = hands (Broken l) (λ x there. sym (get_single l there.0 x there.1));
        outcome = with_cache who book order s t parts (home.lease ∷ []) (Renew home.lease 600) (λ a. a) c (Broken l) kept
            (gives_up who book order s t parts (home.lease ∷ []) (Renew home.lease 600) (λ a. a) (λ su now p. IsHome su now new p) open_outcome);
      })

    -- of what is in hand behind it
    module _ (work : Work) (renewed : (m : Claim) → IsIn (leases_of work) m → Renews m) where
      in_hand : (l : Claim) (by : Work) → work ≡ by → IsIn (leases_of by) l → Renews l
      in_hand l by is there = renewed l (subst (λ w. IsIn (leases_of w) l) (sym is) there)

      by_trouble : (l : Claim) (k : Trouble) → work ≡ stopped_work k (record home { lease = l }) → Stepped work
      by_trouble l trouble.Memory is = breaks l (in_hand l (Broken l) is (0, refl)) work is
      by_trouble l k is = stays_open l (in_hand l (Idle (record home { lease = l })) is (0, refl)) work is

      pub renewing_step : (turn : Turn Answer) → LedRenewing home reply work turn → Stepped work
      renewing_step (Ended (answer.Renewed end)) (l, took, is) = stays_open l (in_hand l (Idle (record home { lease = l })) is (0, refl)) work is
      renewing_step (Ended (answer.Trouble k)) (l, took, is) = by_trouble l k is
      renewing_step More never = absurd never
      renewing_step (Stopped k) never = absurd never
      renewing_step (Ended (answer.Opened epoch)) never = absurd never
      renewing_step (Ended answer.Closed) never = absurd never
      renewing_step (Ended (answer.Commit a)) never = absurd never
      renewing_step (Ended answer.Value) never = absurd never
      renewing_step (Ended answer.Scan) never = absurd never
      renewing_step (Ended (answer.Settled n)) never = absurd never
      renewing_step (Ended (answer.Swept x)) never = absurd never
      renewing_step (Ended (answer.Done n)) never = absurd never
