-- The leases of an opening.
use Rattle.std.proofs.Common.{◌≡◌, ◌⊎◌, inl, inr, ℕ, List, [], ◌∷◌, ◌++◌, Option, Some, None, refl, sym, subst}
use Rattle.std.specs.Prelude.{slice_get}
use Rattle.cloud_facts.specs.Calls.Acting.{exchange, Handles, of_option}
use Rattle.cloud_facts.specs.Words.{Entry, Answer, CloudState, called, Caller, Claim, Ask, GetHeld, PutHeld, Receive, Delete, Take, Release, Book, Store, IsIn, store_of}
use Rattle.cloud_trait.specs.declared.answer.Answer.TheVariants.{Given}
use Rattle.db_base.specs.declared.names.Lock.TheVariants as lock
use Rattle.db_base.specs.declared.names.ObjName.TheVariants as object
use Rattle.db_base.specs.declared.names.QueueName.TheVariants as queue
use Rattle.cloud_facts.specs.Homes.Homes.{Part}
use Rattle.cloud_facts.specs.Leases.Guards.{IsGuarded}
use Rattle.cloud_facts.specs.Leases.Leases.{Owns, KeptBy, GainedBy, RenewedTo}
use Rattle.session_facts.specs.Machines.Openings.Knows.{leases_of_recovery, leases_of_end, leases_of_next, HasFormer, HasLease, KnowsOpeningAt, KnowsOpening}
use Rattle.session_facts.proofs.Machines.Openings.Others.{former_in_hand, lease_in_hand}
use Rattle.recover_run.proofs.Turns.{AtWork, Works, Turns, turns}
use Rattle.recover_run.proofs.Turns as turn
use Rattle.recover_run.specs.declared.items.AtomicItem.{AtomicItem}
use Rattle.recover_run.specs.declared.stage.Stage.{Stage}
use Rattle.recover_run.specs.declared.stage.Stage.TheVariants.{ReleasingOld, Taking, Getting, Receiving, Deleting, Sending, Putting, Clearing, Sweeping, Releasing, Finished}
use Rattle.recover_run.specs.Recovery.{Recovery, Step, take_lease, ask_at, recovery_ask, under, delete_next, send_next, recovery_next, home_with}
use Rattle.cloud_facts.proofs.Book.Places.{get_single, in_either, in_front, in_behind, in_none}

-- ---- steps that take no lease

-- a step has no leases in hand but those before it
abbrev Fewer : Recovery → Step → Type 0
Fewer r step = (x : Claim) → IsIn (leases_of_next step) x → IsIn (leases_of_recovery r) x

works_fewer : (r q : Recovery) → Works r q → (x : Claim) → IsIn (leases_of_recovery q) x → IsIn (leases_of_recovery r) x
works_fewer r q w x is =
    subst (λ (o : Option Claim). IsIn (of_option o ++ of_option r.lease) x) w.former (subst (λ (o : Option Claim). IsIn (of_option q.former ++ of_option o) x) w.lease is)

-- what an open client has in hand then
home_fewer : (r : Recovery) (former lease : Option Claim) (x : Claim) → IsIn (leases_of_end (home_with r lease)) x → IsIn (of_option former ++ of_option lease) x
home_fewer r former (Some l) x is = in_behind (of_option former) (l ∷ []) x is
home_fewer r former None x is = absurd (in_none [] x refl is)

-- ---- by the stage

-- a lease of no generation, for calls that renew none
abbrev no_claim : ℕ → Claim
no_claim client = record { lock = lock.Client client; generation = 0; end = 0 }

module _ (who : Caller) (s t : CloudState) (r : Recovery) (reply : Answer) (next : Step) where
  abbrev Hands : Ask → Type 0
  Hands ask = Handles (exchange who s t ask reply) (leases_of_recovery r) (leases_of_next next)

  -- a call that keeps the leases in hand
  keeps : (ask : Ask) → Owns (λ session. leases_of_recovery r) who.session ask → IsGuarded s t.now ask → RenewedTo who ask (no_claim r.client) (called who t.now s) t
      → ((x : Claim) → KeptBy ask x) → Fewer r next → Hands ask
  keeps ask owns guarded renews kept fewer = record { owns = owns; guarded = guarded; renewed = no_claim r.client; renews = renews; own = λ x is. inl (fewer x is, kept x) }

  under_held : (o : Option Claim) (l : Claim) (make : Claim → Ask) → o ≡ Some l → Hands (make l) → Hands (under r o make)
  under_held o l make is h = subst (λ (p : Option Claim). Hands (under r p make)) (sym is) h

  deletes : (ids : List ℕ) → Fewer r next → Hands (delete_next r ids)
  deletes (id ∷ ids) fewer = keeps (Delete (queue.Atomic r.client) id) tt tt tt (λ x. tt) fewer
  deletes [] fewer = keeps (take_lease r) tt tt tt (λ x. tt) fewer

  sends : (o : Option AtomicItem) → Fewer r next → Hands (send_next r o)
  sends (Some x) fewer = keeps (send_next r (Some x)) tt tt tt (λ x. tt) fewer
  sends None fewer = keeps (take_lease r) tt tt tt (λ x. tt) fewer

  at_work : (stage : Stage) (st : Store) (part : Part) → AtWork stage → KnowsOpeningAt stage st t.now r part → Fewer r next → Hands (ask_at stage r)
  at_work Getting st part work k fewer =
      under_held r.lease k.0.now (λ l. GetHeld (object.Head r.client) l) k.0.is
      (keeps (GetHeld (object.Head r.client) k.0.now) (lease_in_hand r.former r.lease k.0.now k.0.is) tt tt (λ x. tt) fewer)
  at_work Receiving st part work k fewer = keeps (Receive (queue.Atomic r.client) 256) tt tt tt (λ x. tt) fewer
  at_work Deleting st part work k fewer = deletes r.ids fewer
  at_work Sending st part work k fewer = sends (slice_get r.gathered.kept r.sent) fewer
  at_work Putting st part work k fewer =
      let held = k.read.held in
      under_held r.lease held.now (λ l. PutHeld (object.Head r.client) r.out l None) held.is
      (keeps (PutHeld (object.Head r.client) r.out held.now None) (lease_in_hand r.former r.lease held.now held.is, tt) (λ lasts. inl held.lock) tt (λ x. tt) fewer)
  at_work Clearing st part work k fewer = deletes r.ids fewer
  at_work Sweeping st part work k fewer = keeps (Receive (queue.Atomic r.client) 256) tt tt tt (λ x. tt) fewer
  at_work ReleasingOld st part work k fewer = absurd work
  at_work Taking st part work k fewer = absurd work
  at_work Releasing st part work k fewer = absurd work
  at_work Finished st part work k fewer = absurd work

  -- a release leaves none
  releases : (o : Option Claim) (l : Claim) → o ≡ Some l → IsIn (leases_of_recovery r) l → ((x : Claim) → IsIn (leases_of_next next) x → ⊥) → Hands (under r o Release)
  releases o l is owned none =
      under_held o l Release is (record { owns = owned; guarded = tt; renewed = no_claim r.client; renews = tt; own = λ x there. absurd (none x there) })

  released : HasLease r.client r.former r.lease → ((x : Claim) → IsIn (leases_of_next next) x → ⊥) → Hands (under r r.lease Release)
  released held none = releases r.lease held.now held.is (lease_in_hand r.former r.lease held.now held.is) none

-- the lease that was given is in hand too
taken : (r : Recovery) (l x : Claim) → IsIn (of_option r.former ++ l ∷ []) x → (IsIn (leases_of_recovery r) x × Unit {0}) ⊎ GainedBy (Take (lock.Client r.client) 600) (Given l) (no_claim r.client) x
taken r l x is = on (in_either (of_option r.former) (l ∷ []) x is)
  where
    on : IsIn (of_option r.former) x ⊎ IsIn (l ∷ []) x → (IsIn (leases_of_recovery r) x × Unit {0}) ⊎ GainedBy (Take (lock.Client r.client) 600) (Given l) (no_claim r.client) x
    on (inl old) = inl (in_front (of_option r.former) (of_option r.lease) x old, tt)
    on (inr new) = inr (sym (get_single l new.0 x new.1))

module _ (who : Caller) (s t : CloudState) (st : Store) (part : Part) where
  handles : {r : Recovery} {a : Answer} {next : Step} → Turns r a next → KnowsOpeningAt r.stage st t.now r part
      → Handles (exchange who s t (recovery_ask r) a) (leases_of_recovery r) (leases_of_next next)
  handles {r = r} {a = a} {next = next} (turn.gives_old m b) k =
      let f : HasFormer r.former r.lease = k.0 in
      releases who s t r a next r.former f.old f.is (former_in_hand r.former r.lease f.old f.is)
      (λ x is. in_none [] x refl (subst (λ (o : Option Claim). IsIn (of_option o) x) f.none is))
  handles (turn.takes r l) k = record { owns = tt; guarded = tt; renewed = no_claim r.client; renews = tt; own = λ x is. taken r l x is }
  handles (turn.refused r a e u) k = record { owns = tt; guarded = tt; renewed = no_claim r.client; renews = tt; own = λ x is. absurd (in_none [] x refl is) }
  handles {r = r} {a = a} {next = next} (turn.works n w goes) k = at_work who s t r a next r.stage st part w.at_work k (works_fewer r n w)
  handles {r = r} {a = a} {next = next} (turn.halts q ending w may) k = at_work who s t r a next r.stage st part w.at_work k (works_fewer r q w)
  handles {r = r} {a = a} {next = next} (turn.opens q epoch w is) k =
      at_work who s t r a next r.stage st part w.at_work k (λ x there. works_fewer r q w x (home_fewer (record q { stage = Finished }) q.former q.lease x there))
  handles (turn.nothing r a) k = absurd k
  handles {r = r} {a = a} {next = next} c k = released who s t r a next k.0 (λ x is. in_none [] x refl is)

-- the leases of a call of an opening, and those in hand where it leads
pub opening_handles : (who : Caller) (book : Book) (order : List Entry) (s t : CloudState) (r : Recovery) (part : Part) (reply : Answer) → KnowsOpening (store_of book order s) t.now r part
    → Handles (exchange who s t (recovery_ask r) reply) (leases_of_recovery r) (leases_of_next (recovery_next r reply))
opening_handles who book order s t r part reply k = handles who s t (store_of book order s) part (turns r reply) k.at
